use Rattle.std.proofs.Common.{◌≡◌, ◌<◌, ◌≤◌, ◌+◌, length, drop, sym, ap, ◌∙◌, subst, arith}
use Rattle.pattern_syntax.specs.Flags.{seen}
use Rattle.pattern_syntax.specs.ClassReading.{behind_dash, MemberAt}
use Rattle.pattern_syntax.specs.declared.classes.members.ClassMember.{ClassMember}
use Rattle.pattern_syntax.proofs.classes.KeepLemmas.{read_at}
use Rattle.pattern_syntax.proofs.classes.ReadLemmas.{dash_place, onward, second_read, second_past, second_open, second_none, second_many}
use Rattle.pattern_syntax.proofs.classes.members.read_second.Goals as goal
use Rattle.pattern_syntax.proofs.classes.members.read_second.Goals.{then-place-text-via-then-place-text, then-place-text-via-else-place-text+then-text-place-eq91}

pub returns-then-place-text : goal.returns-then-place-text
returns-then-place-text c =
    let k = c.args.flags in
    let text = c.args.text.now in
    let place = c.behind_blanks-place.result in
    let dash = dash_place k text c.args.at c.behind_blanks-dash.result c.requires.within c.behind_blanks-dash.ensures.within c.behind_blanks-dash.ensures.seen c.requires.makes in
    let there : drop place text ≡ behind_dash k (drop c.args.at text) = c.behind_blanks-place.ensures.seen ∙ ap (seen k) dash.2 in
    elim c.then-place-text.branch [
      | then-place-text-via-then-place-text w ↦
          let past : length text ≤ place = omega (arith, w.if-place-text.true) in
          second_past k text c.args.at place past there
      | then-place-text-via-else-place-text+then-text-place-eq91 w ↦
          let lt : place < length text = omega (arith, w.if-place-text.false, c.behind_blanks-place.ensures.within) in
          second_open k text c.args.at place lt (read_at text place w.index-text-place.result lt w.index-text-place.is ∙ w.if-text-place-eq91.true) there
    ]

pub returns-in_default : goal.returns-in_default
returns-in_default c =
    let k = c.args.flags in
    let text = c.args.text.now in
    let place = c.behind_blanks-place.result in
    let dash = dash_place k text c.args.at c.behind_blanks-dash.result c.requires.within c.behind_blanks-dash.ensures.within c.behind_blanks-dash.ensures.seen c.requires.makes in
    let there : drop place text ≡ behind_dash k (drop c.args.at text) = c.behind_blanks-place.ensures.seen ∙ ap (seen k) dash.2 in
    second_none k text c.args.at place there (rw c.in_default.is at c.in_ok-member.ensures)

pub returns : goal.returns
returns c =
    let k = c.args.flags in
    let text = c.args.text.now in
    let place = c.behind_blanks-place.result in
    let dash = dash_place k text c.args.at c.behind_blanks-dash.result c.requires.within c.behind_blanks-dash.ensures.within c.behind_blanks-dash.ensures.seen c.requires.makes in
    let there : drop place text ≡ behind_dash k (drop c.args.at text) = c.behind_blanks-place.ensures.seen ∙ ap (seen k) dash.2 in
    let lt : place < length text = omega (arith, c.if-place-text.false, c.behind_blanks-place.ensures.within) in
    let after : c.behind_blanks-dash.result + 1 ≤ place =
    onward k text (c.behind_blanks-dash.result + 1) place (omega (arith, dash.0)) c.behind_blanks-place.ensures.within c.behind_blanks-place.ensures.seen in
    let read : MemberAt k text place c.in-Some.member c.in-Some.behind = rw c.in-Some.is at c.in_ok-member.ensures in
    second_read k text c.args.at place c.in-Single.c c.in-Some.behind (omega (arith, dash.1)) lt c.requires.makes there
    (λ is. c.if-text-place-eq91.false (sym (read_at text place c.index-text-place.result lt c.index-text-place.is) ∙ is))
    (subst (λ (m : ClassMember). MemberAt k text place m c.in-Some.behind) c.in-Single.is read)

pub returns-in_default-member : goal.returns-in_default-member
returns-in_default-member c =
    let k = c.args.flags in
    let text = c.args.text.now in
    let place = c.behind_blanks-place.result in
    let dash = dash_place k text c.args.at c.behind_blanks-dash.result c.requires.within c.behind_blanks-dash.ensures.within c.behind_blanks-dash.ensures.seen c.requires.makes in
    let there : drop place text ≡ behind_dash k (drop c.args.at text) = c.behind_blanks-place.ensures.seen ∙ ap (seen k) dash.2 in
    let read : MemberAt k text place c.in-Some.member c.in-Some.behind = rw c.in-Some.is at c.in_ok-member.ensures in
    second_many k text c.args.at place c.in-Some.behind c.in_default-member.field-0 there
    (subst (λ (m : ClassMember). MemberAt k text place m c.in-Some.behind) c.in_default-member.is read)
