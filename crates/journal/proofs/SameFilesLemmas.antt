-- Files are put in place: where a file stood, one stands.
use Rattle.std.proofs.Common.{true, ◌≡◌, ℕ, List, [], ◌∷◌, refl, sym, ◌∙◌, ap, subst, ◌⊎◌, inl, inr}
use Rattle.std.specs.Prelude.{Option, Some, None, IsSome, is_some, Contains, Result, Ok, Err, OnOk}
use Rattle.std.specs.Option.{option_and_then}
use Rattle.sd_io.specs.Tree.{NameList, Node, Tree, node_at, file_node, file_at}
use Rattle.sd_io.specs.Paths.{reached, SameWays, way_of_node}
use Rattle.sd_io.specs.Disk.{DiskState, SameTree}
use Rattle.sd_io.specs.Files.{file_of}
use Rattle.sd_io.proofs.WayLemmas.{same_or_other, file_has_no_way, reached_still}
use Rattle.file_rewrite.specs.OneFile.{IsCrowded}
use Rattle.file_rewrite.specs.Putting.{PutsFile}
use Rattle.file_rewrite.specs.declared.fault.JobFault.{JobFault}
use Rattle.journal_text.specs.declared.line.Line.{Line}
use Rattle.change_phases.proofs.LineLemmas.{first}
use Rattle.journal.specs.Placing.{SameFiles, ChangesFiles}
use Rattle.journal.proofs.ClearingLemmas.{only_one}

-- a regular file is something
pub file_stands : (o : Option Node) → IsSome (file_node o) → IsSome o
file_stands None is = cc
file_stands (Some node) is = refl

pub none_stands : {A : Type 0} (o : Option A) → o ≡ None → IsSome o → ⊥
none_stands None e is = cc
none_stands (Some x) e is = cc

pub some_of : {A : Type 0} (o : Option A) → IsSome o → (x : A) × (o ≡ Some x)
some_of None is = absurd (cc is)
some_of (Some x) is = (x, refl)

-- what is some, or none
pub none_or_some : {A : Type 0} (o : Option A) → (o ≡ None) ⊎ IsSome o
none_or_some None = inl refl
none_or_some (Some x) = inr refl

-- ---- the relation

pub files_same : (old new : Tree) → new ≡ old → SameFiles old new
files_same old new e q = inl (ap (λ (t : Tree). node_at t q) e)

pub files_then : (r s t : Tree) → SameFiles r s → SameFiles s t → SameFiles r t
files_then r s t a b q = elim (b q) [
  | inl kept ↦ elim (a q) [
    | inl was ↦ inl (kept ∙ was)
    | inr (was, is) ↦ inr (was, subst (λ (o : Option Node). IsSome (file_node o)) (sym kept) is)
  ]
  | inr (was, is) ↦ elim (a q) [
    | inl same ↦ inr (subst (λ (o : Option Node). IsSome (file_node o)) same was, is)
    | inr (first, middle) ↦ inr (first, is)
  ]
]

pub files_back : (old new : Tree) → SameFiles old new → SameFiles new old
files_back old new same q = elim (same q) [ inl kept ↦ inl (sym kept) | inr (was, is) ↦ inr (is, was) ]

pub put_files : (path bytes : List ℕ) (s t : DiskState) → PutsFile path bytes s t → SameFiles s.tree t.tree
put_files path bytes s t put q = elim (same_or_other q put.place) [
  | inl here ↦ inr (subst (λ (p : NameList). IsSome (file_at s.tree p)) (sym here) (ap is_some put.exchanged.has.was), subst (λ (p : NameList). IsSome (file_at t.tree p)) (sym here) (ap is_some put.exchanged.has.holds))
  | inr n ↦ inl (put.exchanged.others q n)
]

-- ---- what it keeps

module _ (old new : Tree) (same : SameFiles old new) where
  pub files_ways : SameWays old new
  files_ways = record {
    ways = λ q. elim (same q) [
      | inl kept ↦ ap way_of_node kept
      | inr (was, is) ↦ file_has_no_way (node_at new q) is ∙ sym (file_has_no_way (node_at old q) was)
    ];
  }

  -- where a file stood, one stands
  pub file_still : (q : NameList) → IsSome (file_at old q) → IsSome (file_at new q)
  file_still q stood = elim (same q) [ inl kept ↦ subst (λ (o : Option Node). IsSome (file_node o)) (sym kept) stood | inr (was, is) ↦ is ]

  -- where nothing stood, nothing does
  pub none_still : (q : NameList) → node_at old q ≡ None → node_at new q ≡ None
  none_still q none = elim (same q) [
    | inl kept ↦ kept ∙ none
    | inr (was, is) ↦ absurd (none_stands (node_at old q) none (file_stands (node_at old q) was))
  ]

  -- a path that led to a file leads there
  pub leads_still : (path : List ℕ) (q : NameList) → reached old path true ≡ Some q → IsSome (file_at old q) → reached new path true ≡ Some q
  leads_still path q leads stood = reached_still files_ways path true q leads (file_stands (node_at new q) (file_still q stood))

  -- a path that leads to no file led to none
  pub no_file_before : (path : List ℕ) → file_of new path ≡ None → file_of old path ≡ None
  no_file_before path none = elim (none_or_some (file_of old path)) [
    | inl it ↦ it
    | inr some ↦ absurd (by (reached old path true) refl some)
  ]
    where
      by : (o : Option NameList) → reached old path true ≡ o → IsSome (option_and_then (file_at old) (reached old path true)) → ⊥
      by None leads is = none_stands _ (ap (option_and_then (file_at old)) leads) is
      by (Some q) leads is =
          let stood : IsSome (file_at old q) = subst IsSome (ap (option_and_then (file_at old)) leads) is in
          none_stands (file_at new q) (sym (ap (option_and_then (file_at new)) (leads_still path q leads stood)) ∙ none) (file_still q stood)

-- a file in whose folder so few names are free was one before
pub crowded_before : (old new : Tree) → SameFiles old new → (path : List ℕ) (n : ℕ) → IsCrowded new path n → IsCrowded old path n
crowded_before old new same path n full =
    let back = files_back old new same in
    record {
      place = full.place;
      leads = leads_still new old back path full.place full.leads full.is_file;
      is_file = file_still new old back full.place full.is_file;
      few = record {
        places = full.few.places;
        few = full.few.few;
        all = λ place free. full.few.all place (record { reserved = free.reserved; free = none_still old new same place free.free });
      };
    }

-- ---- in turn

pub changes_none : (lines : List Line) (old new : Tree) → new ≡ old → ChangesFiles lines old new
changes_none lines old new e = record { each = files_same old new e; others = λ q n. ap (λ (t : Tree). node_at t q) e }

-- one file was put in place
pub changes_one : (line : Line) (path bytes : List ℕ) (s m t : DiskState) (r : Result (Unit {0}) JobFault) → path ≡ line.path → SameTree s m → OnOk r (PutsFile path bytes m t)
    → OnOk r (ChangesFiles (line ∷ []) s.tree t.tree)
changes_one line path bytes s m t (Err fault) text same put = tt
changes_one line path bytes s m t (Ok done) text same put = record {
  each = files_then s.tree m.tree t.tree (files_same s.tree m.tree same.tree) (put_files path bytes m t put);
  others = λ q n.
      put.exchanged.others q (λ here. n line (first line []) (ap (λ (x : Tree). reached x line.path true) (sym same.tree) ∙ ap (λ (p : List ℕ). reached m.tree p true) (sym text) ∙ put.leads ∙ ap (λ (x : NameList). Some x) (sym here)))
      ∙ ap (λ (x : Tree). node_at x q) same.tree;
}

-- and one more
pub changes_then : (lines : List Line) (line : Line) (r s t : Tree) → Contains lines line → ChangesFiles lines r s → ChangesFiles (line ∷ []) s t → ChangesFiles lines r t
changes_then lines line r s t has a b =
    let both = files_then r s t a.each b.each in
    record {
      each = both;
      others = λ q n. elim (none_or_some (node_at r q)) [
        | inl none ↦ none_still r t both q none ∙ sym none
        | inr stood ↦
            b.others q (λ other of leads. n line has
            (ap (λ (l : Line). reached r l.path true) (only_one line other of) ∙ reached_still (files_ways s r (files_back r s a.each)) other.path true q leads stood))
            ∙ a.others q n
      ];
    }
