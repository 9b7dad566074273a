use Rattle.std.proofs.lemmas.Str.Pattern.{drop_at_char}
use Rattle.std.proofs.Common.{sym, ◌∷◌, drop, ◌≡◌, ◌∙◌, ap, lit<, rules, not, map, List, ℕ, None, Bor}
use borrow.Author.Tests.{tests}
use Rattle.std.proofs.lemmas.Iterator.{items_from_drains}
use Rattle.std.proofs.lemmas.Iterator.Consumers.{YieldsList-at, YieldsList-from_filter}
use Rattle.std.proofs.lemmas.Iterator.Splits.{YieldsList-from_str_split}
use Rattle.std.specs.List.{last_or}
use Rattle.std.specs.Prelude.{option_map}
use Rattle.sd_io.specs.Paths.{parts_of, is_dropped}
use Rattle.walk_rest.proofs.names.LastLemmas.{last_map, last_behind}
use Rattle.walk_rest.proofs.names.last_part.Goals as goal

pub returns-in-Some : goal.returns-in-Some
returns-in-Some c =
    let h = c.in-Some.ensures.cases in
    let slash : drop h.0 c.args.path.now ≡ 47 ∷ c.in-Some.part.now = drop_at_char 47 c.args.path.now h.0 h.1 h.2.1 (lit< tt) ∙ ap (λ xs. 47 ∷ xs) (sym h.4) in
    sym (last_behind c.args.path.now c.in-Some.part.now h.0 slash (rw h.4 h.2.0) (sym c.is_dropped.ensures ∙ c.if-not-is_dropped.true))

pub returns-in_default : goal.returns-in_default
unfolding parts_of
returns-in_default c =
    let ran = c.last.ensures.ran in
    let parts : map (λ (part : Bor (List ℕ)). part.now) ran.0 ≡ parts_of c.args.path.now =
    items_from_drains ran.0 (ran.1.1.0, ran.1.1.1, λ _. (ran.1.0, ran.1.1.2))
    (YieldsList-from_filter _ (λ part. not (is_dropped part))
    (YieldsList-at c.filter.ensures.source (YieldsList-from_str_split 47 c.args.path.now (lit< tt) c.split.ensures.text c.split.ensures.has_more c.split.ensures.pattern))
    c.filter.ensures.closure (λ x b q k. search (rules, tests))) in
    ap (option_map (λ (part : Bor (List ℕ)). part.now)) ran.2 ∙ (last_map (λ (part : Bor (List ℕ)). part.now) None ran.0 ∙ ap (last_or None) parts)
