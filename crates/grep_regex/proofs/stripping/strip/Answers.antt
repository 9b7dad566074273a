use Rattle.std.proofs.Common.{◌≡◌, ◌<◌, refl, ℕ, suc, true, List, ◌∷◌, length, drop, get_or, drop-cons, Some, if◌then◌else◌, sym, ap, ◌∙◌, subst}
use Rattle.hir_tree.specs.Tree.{Tree, tree_of}
use Rattle.grep_regex.specs.Building.{IsAscii, IsStripRefused}
use Rattle.grep_regex.specs.Stripping.{asks_for, not_allowed, strip_byte}
use Rattle.grep_regex.specs.declared.error.ErrorKind.{ErrorKind}
use Rattle.grep_regex.specs.declared.error.ErrorKind.TheVariants.{NotAllowed}
use Rattle.grep_regex.proofs.laws.ExactLemmas.{must-refused}
use Rattle.grep_regex.proofs.stripping.strip.Goals as goal

-- what was stripped so far asks for the next byte
refused : (bytes : List ℕ) (i b : ℕ) (old now : Tree) (kind : ErrorKind) → IsAscii bytes → i < length bytes → b ≡ get_or bytes i 0
    → not_allowed (drop i bytes) now ≡ not_allowed bytes old → asks_for b now ≡ true → kind ≡ NotAllowed b → IsStripRefused bytes old kind
refused bytes i b old now kind ascii within here before asked is =
    let cut : drop i bytes ≡ b ∷ drop (suc i) bytes = drop-cons bytes i 0 within ∙ ap (λ n. n ∷ drop (suc i) bytes) (sym here) in
    let e : not_allowed bytes old ≡ Some b =
    sym before ∙ ap (λ bs. not_allowed bs now) cut ∙ ap (λ a. if a then Some b else not_allowed (drop (suc i) bytes) (strip_byte b now)) asked in
    subst (IsStripRefused bytes old) (sym is) (ascii, e, must-refused bytes old b e)

pub returns-then-asks_for-clause-refused : goal.returns-then-asks_for-clause-refused
returns-then-asks_for-clause-refused c =
    let bytes = c.args.bytes.now in
    refused bytes c.loop-byte.byte-index (get_or bytes c.loop-byte.byte-index 0) (tree_of c.args.hir) (tree_of c.loop-byte.hir) c.new.result.kind c.requires.ascii
    c.loop-byte-test.true refl c.loop-byte.invariant.allowed (sym c.if-asks_for.ensures.asks) c.new.ensures
