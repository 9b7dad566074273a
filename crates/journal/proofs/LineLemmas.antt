-- Lines, their paths and those of their stages.
use Rattle.std.proofs.Common.{◌≡◌, ◌<◌, ℕ, List, [], ◌∷◌, ◌++◌, length, get_or, sym, ◌∙◌, ap, subst}
use Rattle.std.specs.Prelude.{Some, Contains, slice_get, Result, Ok, Err, IfOk}
use Rattle.std.specs.List.{AllByRecursion}
use Rattle.std.proofs.lemmas.List.Elements.{All-from_recursion, All-contains}
use Rattle.std.proofs.lemmas.Option.{slice_get_within, slice_get-get_or, get_or_from_slice_get}
use Rattle.sd_io.specs.Tree.{Name, IsName}
use Rattle.sd_io.specs.Paths.{parent_of}
use Rattle.sd_io.specs.Files.{path_text}
use Rattle.file_exchange.specs.Reserved.{IsReservedPath, IsFolderPath}
use Rattle.file_exchange.proofs.PlaceLemmas.{parent_and_name, last_name}
use Rattle.journal_text.specs.declared.line.Line.{Line}
use Rattle.journal_text.specs.Paths.{IsResolvedPath}
use Rattle.journal_text.specs.Journal.{IsLine}
use Rattle.journal_text.proofs.PathLemmas.{path_parts}
use Rattle.change_phases.specs.Between.{place_of, stage_of}

-- ---- lines in a list

pub line_in : (lines : List Line) (line : Line) → AllByRecursion IsLine lines → Contains lines line → IsLine line
line_in lines line are has = All-contains IsLine lines line (All-from_recursion IsLine lines are) has

pub contains_at : (lines : List Line) (i : ℕ) (line : Line) → slice_get lines i ≡ Some line → Contains lines line
contains_at lines i line at = (i, slice_get_within lines i line at, get_or_from_slice_get lines i line line at)

pub at_contains : (lines : List Line) (line : Line) → (has : Contains lines line) → slice_get lines has.0 ≡ Some line
at_contains lines line (k, low, is) = slice_get-get_or lines k line low ∙ ap (λ (x : Line). Some x) is

-- ---- paths

pub path_is_text : (line : Line) → IsResolvedPath line.path → line.path ≡ path_text (place_of line)
path_is_text line is = (path_parts line.path is).1

pub line_path_text : (lines : List Line) (line : Line) → AllByRecursion IsLine lines → Contains lines line → line.path ≡ path_text (place_of line)
line_path_text lines line are has = path_is_text line (line_in lines line are has).path

-- a line's place is a name in its folder
pub record IsInFolder (line : Line) : Type 0 where
  pub name : Name
  pub place_is : place_of line ≡ parent_of (place_of line) ++ name ∷ []
  pub is_name : IsName name
  pub text : line.path ≡ path_text (parent_of (place_of line) ++ name ∷ [])

pub in_folder : (line : Line) → IsResolvedPath line.path → IsInFolder line
in_folder line is =
    let (are, text) = path_parts line.path is in
    let last = parent_and_name (place_of line) are.some in
    record {
      name = last.0;
      place_is = last.1;
      is_name = last_name (parent_of (place_of line)) last.0 (subst (AllByRecursion IsName) last.1 are.each);
      text = text ∙ ap path_text last.1;
    }

pub stage_text : (line : Line) (path text : List ℕ) → path ≡ line.path → IsResolvedPath line.path → IsReservedPath path line.number text → text ≡ path_text (stage_of line)
stage_text line path text same is reserved =
    let at = in_folder line is in
    reserved (parent_of (place_of line)) at.name (same ∙ at.text) at.is_name.no_slash

pub folder_text : (line : Line) (path text : List ℕ) → path ≡ line.path → IsResolvedPath line.path → IsFolderPath path text → text ≡ path_text (parent_of (place_of line))
folder_text line path text same is folder =
    let at = in_folder line is in
    folder (parent_of (place_of line)) at.name (same ∙ at.text) at.is_name.no_slash

-- ---- the items of a loop over lines

pub item_at : (lines items : List Line) (i : ℕ) (line : Line) → items ≡ lines → i < length items → line ≡ get_or items i line → slice_get lines i ≡ Some line
item_at lines items i line same low is =
    ap (λ (l : List Line). slice_get l i) (sym same) ∙ slice_get-get_or items i line low ∙ ap (λ (x : Line). Some x) (sym is)

-- ---- what holds of an answer

pub if_ok_then : {T E : Type 0} (P Q : T → Type 0) (r : Result T E) → IfOk r P → ((x : T) → P x → Q x) → IfOk r Q
if_ok_then P Q (Ok x) p then = then x p
if_ok_then P Q (Err e) p then = tt
