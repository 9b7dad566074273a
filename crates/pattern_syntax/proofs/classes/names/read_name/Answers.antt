use Rattle.std.proofs.Common.{◌+◌, ◌∷◌, [], ◌-◌, length, take, drop, sym, ◌∙◌, true≢false}
use Rattle.std.specs.List.{slice_range}
use Rattle.std.proofs.lemmas.Bool.Decides.{Decides-eqb}
use Rattle.std.proofs.lemmas.List.Folds.{drop_split}
use Rattle.std.proofs.lemmas.Slice.Eq.{starts_is}
use Rattle.pattern_syntax.proofs.classes.ReadLemmas.{name_ends, slice_rest, two_within, name_unended, name_unknown, name_found, name_plain, name_negated}
use Rattle.pattern_syntax.proofs.classes.names.read_name.Goals as goal

pub returns-then-not-starts_with : goal.returns-then-not-starts_with
returns-then-not-starts_with c =
    let text = c.args.text.now in
    let end = c.behind_letters-end.result in
    name_unended text c.args.at c.in-Some.start end c.in-Some.negated c.in-Some.ensures c.behind_letters-end.ensures.rest
    (λ t e. true≢false (sym ((starts_is Decides-eqb (take (length text - end) (drop end text)) (58 ∷ 93 ∷ []) c.starts_with.result c.starts_with.ensures.value).1 t (slice_rest text end ∙ e)) ∙ c.if-not-starts_with.true))

pub returns-in_default-2 : goal.returns-in_default-2
returns-in_default-2 c =
    let text = c.args.text.now in
    let end = c.behind_letters-end.result in
    name_unknown text (slice_range text c.in-Some.start end) c.args.at c.in-Some.start end c.in-Some.negated c.in-Some.ensures c.behind_letters-end.ensures.rest
    (drop_split text c.in-Some.start end c.behind_letters-end.ensures.onward) (rw c.in_default-2.is at c.in_ok-set.ensures.none)

pub returns-then-not-negated : goal.returns-then-not-negated
returns-then-not-negated c =
    let text = c.args.text.now in
    let end = c.behind_letters-end.result in
    let ends = name_ends text end (take (length text - end) (drop end text)) (slice_rest text end) ((starts_is Decides-eqb (take (length text - end) (drop end text)) (58 ∷ 93 ∷ []) c.starts_with.result c.starts_with.ensures.value).0 c.if-not-starts_with.false) in
    let found = rw c.in-Some-2.is at c.in_ok-set.ensures.found in
    name_found c.args.flags text (slice_range text c.in-Some.start end) c.args.at c.in-Some.start end c.in-Some.negated c.in-Some-2.set c.in-Some.ensures
    (drop_split text c.in-Some.start end c.behind_letters-end.ensures.onward) ends c.behind_letters-end.ensures.onward
    (two_within text end 58 93 (drop (end + 2) text) c.behind_letters-end.ensures.within ends) found.1
    (name_plain c.args.flags c.in-Some.negated (slice_range text c.in-Some.start end) c.in-Some-2.set c.if-not-negated.true found.0)

pub returns : goal.returns
returns c =
    let text = c.args.text.now in
    let end = c.behind_letters-end.result in
    let ends = name_ends text end (take (length text - end) (drop end text)) (slice_rest text end) ((starts_is Decides-eqb (take (length text - end) (drop end text)) (58 ∷ 93 ∷ []) c.starts_with.result c.starts_with.ensures.value).0 c.if-not-starts_with.false) in
    let found = rw c.in-Some-2.is at c.in_ok-set.ensures.found in
    name_found c.args.flags text (slice_range text c.in-Some.start end) c.args.at c.in-Some.start end c.in-Some.negated c.in_ok-complement.field-0 c.in-Some.ensures
    (drop_split text c.in-Some.start end c.behind_letters-end.ensures.onward) ends c.behind_letters-end.ensures.onward
    (two_within text end 58 93 (drop (end + 2) text) c.behind_letters-end.ensures.within ends) found.1
    (name_negated c.args.flags c.in-Some.negated (slice_range text c.in-Some.start end) c.in-Some-2.set c.in_ok-complement.field-0 c.if-not-negated.false found.0
    c.in_ok-complement.ensures)
