-- The file that a path leads to, by its own path.
use Rattle.std.proofs.Common.{◌≡◌, ℕ, List, true, sym, ◌∙◌, ap, subst}
use Rattle.std.specs.Prelude.{Some, None, is_some}
use Rattle.std.specs.Option.{option_and_then}
use Rattle.sd_io.specs.Tree.{NameList, Tree, IsTree, file_at}
use Rattle.sd_io.specs.Paths.{parts_of, reached}
use Rattle.sd_io.specs.Files.{path_text, file_of, Resolves, Reads, IsNoFile}
use Rattle.sd_io.specs.Disk.{DiskState, SameTree}
use Rattle.sd_io.proofs.PathTextLemmas.{text_no_link, text_parts}
use Rattle.file_rewrite.specs.Reading.{FindsFile}
use Rattle.file_rewrite.proofs.rewriting.ReachedLemmas.{IsNoLink, reached_no_link}

module _ (s0 : DiskState) (path own : List ℕ) (is : IsTree s0.tree) (r : Resolves s0 path own) where
  here : IsNoLink s0.tree r.place
  here = reached_no_link s0.tree path r.place is r.leads.place_reached

  place_is : parts_of own ≡ r.place
  place_is = ap parts_of r.text_is ∙ text_parts s0.tree r.place is (ap is_some here.stands)

  own_leads : reached s0.tree own true ≡ Some r.place
  own_leads = ap (λ (p : List ℕ). reached s0.tree p true) r.text_is ∙ text_no_link s0.tree r.place true here.node is here.stands here.no_link

  -- it is the same file by both paths
  same_file : file_of s0.tree own ≡ file_of s0.tree path
  same_file = ap (option_and_then (file_at s0.tree)) (own_leads ∙ sym r.leads.place_reached)

  module _ (s1 : DiskState) (same : SameTree s0 s1) where
    before : file_of s0.tree own ≡ file_of s1.tree own
    before = ap (λ (t : Tree). file_of t own) (sym same.tree)

    pub found : (p bytes : List ℕ) → p ≡ own → Reads s1 p bytes → FindsFile s0.tree path own bytes
    found p bytes named reads = record {
      leads = r.leads.place_reached ∙ ap (λ (q : NameList). Some q) (sym place_is);
      text_is = r.text_is ∙ ap path_text (sym place_is);
      mode = reads.0;
      was = ap (file_at s0.tree) place_is ∙ sym (ap (option_and_then (file_at s0.tree)) own_leads) ∙ before ∙ ap (file_of s1.tree) (sym named) ∙ reads.1;
    }

    pub none_found : (p : List ℕ) → p ≡ own → IsNoFile s1 p → file_of s0.tree path ≡ None
    none_found p named none = sym same_file ∙ before ∙ ap (file_of s1.tree) (sym named) ∙ none

-- the same by another text of it
pub found_as : (tree : Tree) (path own p bytes : List ℕ) → p ≡ own → FindsFile tree path own bytes → FindsFile tree path p bytes
found_as tree path own p bytes same f = subst (λ (q : List ℕ). FindsFile tree path q bytes) (sym same) f
