-- What the pieces of a replacement text stand for.
use Rattle.std.proofs.Common.{◌≡◌, ℕ, ◌≤◌, Bool, true, false, cond, ◌&&◌, eqb, List, [], ◌∷◌, length, drop, slice_get, Option, Some, None, refl, sym, subst, ap, ◌∙◌}
use Rattle.std.specs.Prelude.{IfSome, option_map}
use Rattle.grep_matcher.specs.CaptureRefs.{reference_of}
use Rattle.grep_matcher.specs.Groups.{group_at}
use Rattle.grep_matcher.specs.References as form
use Rattle.grep_matcher.specs.References.{LieIn, begins_with, dollars_or_byte, front, group_text, meaning, reference_at, reference_or}
use Rattle.grep_matcher.specs.Span.{Span}
use Rattle.grep_matcher.specs.declared.references.CaptureRef.{CaptureRef}
use Rattle.hir_tree.specs.Tree.{Tree}
use Rattle.grep_regex.specs.Matching.{spans_at}
use Rattle.sd_replace.specs.Replacement.{substituted}
use Rattle.sd_replace.specs.Searching.{AreOfMatch}
use Rattle.sd_replace.specs.Templates.{ArePiecesOf, pieces_text}
use Rattle.sd_replace.specs.declared.replacer.Substitute.{Substitute}
use Rattle.sd_replace.specs.declared.template.Piece.{Piece}

-- a group lies in a text where all do
pub group_lies : (groups : List (Option Span)) (text : List ℕ) (i : ℕ) (span : Option Span) → span ≡ group_at groups i → LieIn groups text → IfSome span (λ s. s.end ≤ length text)
group_lies groups text i None is lie = tt
group_lies groups text i (Some span) is lie = lie i span (sym is)

-- what is added for a match is its new text
pub text_made : (substitute : Substitute) (tree : Tree) (pieces : List Piece) (text : List ℕ) (place : ℕ) (groups : List (Option Span)) → ArePiecesOf substitute tree pieces → AreOfMatch tree text place groups
    → pieces_text (group_text text groups) pieces ≡ substituted substitute tree (group_text text (spans_at tree text place))
text_made substitute tree pieces text place groups read of =
    ap (λ (g : List (Option Span)). pieces_text (group_text text g) pieces) of.0 ∙ read (group_text text (spans_at tree text place))

-- where no reference is found, none stands there
no_reference : (text : List ℕ) (found : Option CaptureRef) → ((reference : CaptureRef) → found ≡ Some reference → ⊥) → option_map reference_of found ≡ reference_at text → reference_at text ≡ None
no_reference text None none is = sym is
no_reference text (Some reference) none is = absurd (none reference refl)

-- `$$`, and `$` alone
abbrev two : form.Front
two = record { piece = form.two_dollars; width = 2 }

abbrev one : form.Front
one = record { piece = form.byte 36; width = 1 }

-- then `$` stands for itself
pub dollar_itself : (text : List ℕ) (found : Option CaptureRef) → slice_get text 0 ≡ Some 36 → ((reference : CaptureRef) → found ≡ Some reference → ⊥) → option_map reference_of found ≡ reference_at text
    → (text_of : ℕ → List ℕ) (number_of : List ℕ → Option ℕ) → 36 ∷ [] ≡ meaning text_of number_of (front 36 (drop 1 text)).piece
dollar_itself [] found first none is text_of number_of = absurd (cc)
dollar_itself (b ∷ text) found first none is text_of number_of =
    let dollar : b ≡ 36 = cc in
    let nothing : reference_at (36 ∷ text) ≡ None = subst (λ (k : ℕ). reference_at (k ∷ text) ≡ None) dollar (no_reference (b ∷ text) found none is) in
    by (eqb 36 36 && begins_with 36 text) ∙ ap (λ (o : Option form.Reference). meaning text_of number_of (reference_or o (dollars_or_byte 36 text)).piece) (sym nothing)
  where
    by : (v : Bool) → 36 ∷ [] ≡ meaning text_of number_of (cond v two one).piece
    by true = refl
    by false = refl
