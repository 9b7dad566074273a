-- The lines of files.
use Rattle.std.proofs.Common.{◌≡◌, ◌<◌, ℕ, zero, suc, List, [], ◌∷◌, map, length, refl, sym, ◌∙◌, ap, subst, arith}
use Rattle.std.specs.Prelude.{Contains, slice_index_or}
use Rattle.std.specs.List.{AllByRecursion, IsDistinct}
use Rattle.std.proofs.lemmas.List.Elements.{All-from_recursion, All-contains}
use Rattle.sd_io.specs.Tree.{NameList, Tree}
use Rattle.sd_io.specs.Paths.{parent_of}
use Rattle.sd_io.specs.Outcomes.{same_place}
use Rattle.file_exchange.specs.Reserved.{Free}
use Rattle.file_exchange.specs.Crash.{Exchange}
use Rattle.journal_text.specs.declared.line.Line.{Line}
use Rattle.change_phases.specs.Between.{Work, place_of, stage_of, IsLineOf, IsJournalFor, AreLinesOf, IsListed}

-- what is in a list is in a longer one
pub later : {X : Type 0} (x y : X) (xs : List X) → Contains xs y → Contains (x ∷ xs) y
later x y xs (k, low, is) = (suc k, omega arith, is)

pub first : {X : Type 0} (x : X) (xs : List X) → Contains (x ∷ xs) x
first x xs = (0, omega arith, refl)

abbrev pub HasLine : List Line → Exchange → Type 0
HasLine lines f = (line : Line) × Contains lines line × IsLineOf f line

abbrev pub HasFile : List Exchange → Line → Type 0
HasFile files line = (f : Exchange) × Contains files f × IsLineOf f line

abbrev WasFree : Tree → Line → Type 0
WasFree tree line = Free tree (parent_of (place_of line)) (stage_of line)

module _ (tree : Tree) where
  were_free : (files : List Exchange) (lines : List Line) → AreLinesOf tree files lines → AllByRecursion (WasFree tree) lines
  were_free [] [] are = tt
  were_free [] (line ∷ lines) are = absurd are
  were_free (f ∷ files) [] are = absurd are
  were_free (f ∷ files) (line ∷ lines) (of, free, more) = (free, were_free files lines more)

  places : (files : List Exchange) (lines : List Line) → AreLinesOf tree files lines → map place_of lines ≡ map (λ (f : Exchange). f.0) files
  places [] [] are = refl
  places [] (line ∷ lines) are = absurd are
  places (f ∷ files) [] are = absurd are
  places (f ∷ files) (line ∷ lines) (of, free, more) =
      let rest = places files lines more in
      λ i. of.place i ∷ rest i

  -- a line for each file
  line_for : (files : List Exchange) (lines : List Line) → AreLinesOf tree files lines → (f : Exchange) (k : ℕ) → k < length files → slice_index_or files k f ≡ f → HasLine lines f
  line_for [] lines are f k low is = absurd (omega arith)
  line_for (g ∷ files) [] are f k low is = absurd are
  line_for (g ∷ files) (line ∷ lines) (of, free, more) f zero low is = (line, first line lines, subst (λ (x : Exchange). IsLineOf x line) is of)
  line_for (g ∷ files) (line ∷ lines) (of, free, more) f (suc k) low is =
      let (other, has, is_of) = line_for files lines more f k (omega arith) is in
      (other, later line other lines has, is_of)

  -- and a file for each line
  pub file_for : (files : List Exchange) (lines : List Line) → AreLinesOf tree files lines → (line : Line) (k : ℕ) → k < length lines → slice_index_or lines k line ≡ line → HasFile files line
  file_for [] [] are line k low is = absurd (omega arith)
  file_for [] (other ∷ lines) are line k low is = absurd are
  file_for (f ∷ files) [] are line k low is = absurd are
  file_for (f ∷ files) (other ∷ lines) (of, free, more) line zero low is = (f, first f files, subst (IsLineOf f) is of)
  file_for (f ∷ files) (other ∷ lines) (of, free, more) line (suc k) low is =
      let (g, has, is_of) = file_for files lines more line k (omega arith) is in
      (g, later f g files has, is_of)

pub listed : (work : Work) (lines : List Line) → IsListed work lines → IsJournalFor work lines
listed work lines is = record {
  are_lines = is.are_lines;
  each = λ f has. line_for work.tree work.files lines is.in_turn f has.0 has.1 has.2;
  no_other = λ line has. file_for work.tree work.files lines is.in_turn line has.0 has.1 has.2;
  one_each = subst (IsDistinct same_place) (sym (places work.tree work.files lines is.in_turn)) is.own_places;
  were_free = λ line has. All-contains (WasFree work.tree) lines line (All-from_recursion (WasFree work.tree) lines (were_free work.tree work.files lines is.in_turn)) has;
  own_stages = is.own_stages;
}
