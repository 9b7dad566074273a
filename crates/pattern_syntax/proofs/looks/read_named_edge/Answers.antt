use Rattle.std.proofs.Common.{◌+◌, codes, drop, refl, sym, ◌∙◌, true≢false, arith}
use Rattle.pattern_syntax.specs.Syntax.{word_start, word_end, half_start, half_end}
use Rattle.pattern_syntax.proofs.looks.LookLemmas.{named_at, no_named}
use Rattle.pattern_syntax.proofs.looks.read_named_edge.Goals as goal

pub returns-then-stands_at : goal.returns-then-stands_at
returns-then-stands_at c =
    let at = c.args.at in
    named_at c.args.flags c.args.text.now at c.args.letter ((at + 2) + 7) (at + 9) (codes "{start}") word_start c.by_words-look.result c.requires c.if-letter-ne98.false
    (omega arith) (omega arith) (c.stands_at.ensures.within c.if-stands_at.true) (c.stands_at.ensures.stands c.if-stands_at.true) (λ t. refl) tt c.by_words-look.ensures

pub returns-then-stands_at-2 : goal.returns-then-stands_at-2
returns-then-stands_at-2 c =
    let at = c.args.at in
    named_at c.args.flags c.args.text.now at c.args.letter ((at + 2) + 5) (at + 7) (codes "{end}") word_end c.by_words-look-then-stands_at-2.result c.requires
    c.if-letter-ne98.false (omega arith) (omega arith) (c.stands_at-2.ensures.within c.if-stands_at-2.true) (c.stands_at-2.ensures.stands c.if-stands_at-2.true) (λ t. refl) tt
    c.by_words-look-then-stands_at-2.ensures

pub returns-then-stands_at-3 : goal.returns-then-stands_at-3
returns-then-stands_at-3 c =
    let at = c.args.at in
    named_at c.args.flags c.args.text.now at c.args.letter ((at + 2) + 12) (at + 14) (codes "{start-half}") half_start c.by_words-look-then-stands_at-3.result c.requires
    c.if-letter-ne98.false (omega arith) (omega arith) (c.stands_at-3.ensures.within c.if-stands_at-3.true) (c.stands_at-3.ensures.stands c.if-stands_at-3.true) (λ t. refl) tt
    c.by_words-look-then-stands_at-3.ensures

pub returns-then-stands_at-4 : goal.returns-then-stands_at-4
returns-then-stands_at-4 c =
    let at = c.args.at in
    named_at c.args.flags c.args.text.now at c.args.letter ((at + 2) + 10) (at + 12) (codes "{end-half}") half_end c.by_words-look-then-stands_at-4.result c.requires
    c.if-letter-ne98.false (omega arith) (omega arith) (c.stands_at-4.ensures.within c.if-stands_at-4.true) (c.stands_at-4.ensures.stands c.if-stands_at-4.true) (λ t. refl) tt
    c.by_words-look-then-stands_at-4.ensures

pub returns : goal.returns
returns c =
    let text = c.args.text.now in
    no_named c.args.letter (drop c.args.at text) (drop (c.args.at + 2) text) c.requires.1
    (λ t here. true≢false (sym (c.stands_at.ensures.others t here) ∙ c.if-stands_at.false))
    (λ t here. true≢false (sym (c.stands_at-2.ensures.others t here) ∙ c.if-stands_at-2.false))
    (λ t here. true≢false (sym (c.stands_at-3.ensures.others t here) ∙ c.if-stands_at-3.false))
    (λ t here. true≢false (sym (c.stands_at-4.ensures.others t here) ∙ c.if-stands_at-4.false))
