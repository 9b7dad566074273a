use Rattle.std.proofs.Common.{◌≡◌, ℕ, ◌+◌, List, ◌++◌, length, map, take, drop, sym, ◌∙◌, subst}
use Rattle.std.proofs.lemmas.List.{append-nil, map-id}
use Rattle.std.proofs.lemmas.Iterator.Adapters.{YieldsList-from_vec}
use Rattle.std.proofs.lemmas.Iterator.Consumers.{YieldsList-end, YieldsList-so_far, YieldsList-turn}
use Rattle.pattern_core.specs.Answers.{HasOneTwice}
use Rattle.grep_regex.specs.ReadSoFar.{AreKnown}
use Rattle.grep_regex.specs.declared.names.Named.{Named}
use Rattle.grep_regex.proofs.reading.KnownLemmas.{key_added, key_stands, names_pushed, names_apart}
use Rattle.grep_regex.proofs.reading.add_names.Goals as goal

abbrev name_of : Named → List ℕ
name_of named = named.name

pub loop-named-init : goal.loop-named-init
loop-named-init c before are = subst (AreKnown c.args.known.now) (sym (append-nil before)) are

pub returns-then-not-branch : goal.returns-then-not-branch
returns-then-not-branch c before are =
    let made = c.into_iter-named-iterator.ensures.into_iter_gives in
    let all = YieldsList-from_vec c.args.names.items made.0 (made.1 ∙ c.args.names.ok.0) in
    let xs = c.loop-named.yielded in
    let taken : xs ≡ take (length xs) c.args.names.items = sym (map-id xs) ∙ YieldsList-so_far all xs _ c.loop-named.yielded_by in
    let turn = YieldsList-turn all xs _ c.loop-named.yielded_by _ c.next.new.self c.in-Some.named c.in-Some.is c.next.ensures.steps in
    let rest = map name_of (drop (length xs + 1) c.args.names.items) in
    subst HasOneTwice (names_apart name_of before c.args.names.items xs c.in-Some.named taken turn.0 turn.1)
    (key_stands c.loop-named.known (before ++ map name_of xs) (c.loop-named.invariant before are) c.in-Some.named.name rest (sym c.if-not-branch.true ∙ c.in_ok-insert.ensures.added))

pub loop-named-preserved : goal.loop-named-preserved
loop-named-preserved c before are =
    let xs = c.loop-named.yielded in
    subst (AreKnown c.insert.new.self) (names_pushed name_of before xs c.in-Some.named)
    (
    key_added c.loop-named.known (before ++ map name_of xs) (c.loop-named.invariant before are) c.in-Some.named.name c.insert.new.self
    (sym c.if-not-branch.false ∙ c.in_ok-insert.ensures.added) c.in_ok-insert.ensures.updates.0
    )

pub returns : goal.returns
returns c before are =
    let made = c.into_iter-named-iterator.ensures.into_iter_gives in
    let end = YieldsList-end (YieldsList-from_vec c.args.names.items made.0 (made.1 ∙ c.args.names.ok.0)) c.loop-named.yielded _ c.loop-named.yielded_by _ c.next.new.self c.in-None.is c.next.ensures.steps in
    let every : c.loop-named.yielded ≡ c.args.names.items = sym (map-id c.loop-named.yielded) ∙ end.0 in
    subst (λ xs. AreKnown c.loop-named.known (before ++ map name_of xs)) every (c.loop-named.invariant before are)
