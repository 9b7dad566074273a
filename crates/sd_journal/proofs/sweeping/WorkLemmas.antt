-- The plan of some files tells what is to change.
use Rattle.std.proofs.Common.{◌≡◌, ◌≢◌, ◌↔◌, inl, inr, ℕ, Bool, true, false, cond, List, [], ◌∷◌, map, refl, sym, ap, subst, ◌∙◌, Ordering, Less, Equal}
use Rattle.std.specs.Prelude.{Option, Some, Contains}
use Rattle.std.specs.List.{AllByRecursion, IsDistinct, filter}
use Rattle.std.specs.List.Sorted.{IsStrictlySortedBy}
use Rattle.std.specs.Cmp.{IsTotalOrder, tied_itself, nat_cmp_total}
use Rattle.std.specs.Cmp.Lexicographic.{lists_total, pointwise_decides, bytes_decides}
use Rattle.std.specs.Option.{option_and_then}
use Rattle.std.proofs.lemmas.Option.{same_Some}
use Rattle.sd_io.specs.Tree.{NameList, Tree, file_at, name_list_cmp}
use Rattle.sd_io.specs.Paths.{reached}
use Rattle.sd_io.specs.Lists.{directory_of}
use Rattle.sd_io.specs.Outcomes.{same_place}
use Rattle.sd_io.specs.Disk.{DiskState}
use Rattle.sd_change.specs.Change.{Change, FileChange, IsOne}
use Rattle.file_exchange.specs.Crash.{Exchange}
use Rattle.change_phases.specs.Between.{Work, IsWork}
use Rattle.journal.specs.Planning.{IsChangeOf, AreChangesOf}
use Rattle.journal.specs.Changing.{IsChangeBelow}
use Rattle.journal.proofs.KeepingLemmas.{directory_there}
use Rattle.many_files.specs.Files.{ListsFiles}
use Rattle.many_files.proofs.MemberLemmas.{In, in_from_contains, contains_from_in}
use Rattle.sd_plan.specs.declared.line.PlanLine.{PlanLine}
use Rattle.planned_files.specs.Planned.{IsLineOf, PlansFiles, path_of}
use Rattle.sd_journal.specs.Work.{changed_paths, IsWorkOf, IsFresh}

-- ---- a file becomes one thing

one_change : (change : Change) → IsOne change → (bytes new others : List ℕ) (m n : ℕ) → FileChange change bytes new m → FileChange change bytes others n → new ≡ others
one_change change one [] new others m n a b = a.0 ∙ sym b.0
one_change change one (byte ∷ bytes) new others m n a b = (one (byte ∷ bytes) new others m n a b).0

-- ---- places in order are apart

place_total : IsTotalOrder name_list_cmp
place_total = lists_total (lists_total nat_cmp_total)

not_before_itself : (p q : NameList) → name_list_cmp p q ≡ Less → p ≢ q
not_before_itself p q less e = unlike (sym (subst (λ (x : NameList). name_list_cmp p x ≡ Less) (sym e) less) ∙ tied_itself place_total p)
  where
    unlike : ◌≡◌ {A = Ordering} Less Equal → ⊥
    unlike e = cc

other_place : (p q : NameList) → name_list_cmp p q ≡ Less → same_place p q ≡ false
other_place p q less = by (same_place p q) refl
  where
    by : (b : Bool) → same_place p q ≡ b → same_place p q ≡ false
    by false e = e
    by true e = absurd (not_before_itself p q less ((pointwise_decides bytes_decides p q).0 e))

less_than_all : (p : NameList) (places : List NameList) → AllByRecursion (λ q. name_list_cmp p q ≡ Less) places → (q : NameList) → In q places → name_list_cmp p q ≡ Less
less_than_all p [] all q i = absurd i
less_than_all p (first ∷ places) all q (inl e) = subst (λ (x : NameList). name_list_cmp p x ≡ Less) e all.0
less_than_all p (first ∷ places) all q (inr i) = less_than_all p places all.1 q i

all_places : (P : NameList → Type 0) (files : List Exchange) → ((f : Exchange) → In f files → P f.0) → AllByRecursion P (map (λ f. f.0) files)
all_places P [] all = tt
all_places P (f ∷ files) all = (all f (inl refl), all_places P files (λ g i. all g (inr i)))

-- ---- the files whose bytes change

-- a file of the tree, with its new bytes, which are others
record Changes (change : Change) (tree : Tree) (f : Exchange) : Type 0 where
  bytes : List ℕ
  mode : ℕ
  was : file_at tree f.0 ≡ Some (bytes, mode)
  count : ℕ
  new_bytes : FileChange change bytes f.1 count
  differ : f.1 ≢ bytes

both : {A : Type 0} (x y : A) (xs ys : List A) → x ∷ xs ≡ y ∷ ys → (x ≡ y) × (xs ≡ ys)
both x y xs ys e = (cc, cc)

module _ (change : Change) (one : IsOne change) (tree : Tree) where
  -- with a line's file or without it
  abbrev with_line : (line : PlanLine) → Exchange → List Exchange → List Exchange
  with_line line f files = cond line.changed (f ∷ files) files

  abbrev files_of : (paths : List (List ℕ)) (places : List NameList) (lines : List PlanLine) → PlansFiles change tree paths lines → List Exchange
  files_of [] [] [] plans = []
  files_of [] [] (line ∷ lines) plans = absurd plans
  files_of [] (place ∷ places) [] plans = []
  files_of [] (place ∷ places) (line ∷ lines) plans = absurd plans
  files_of (path ∷ paths) [] [] plans = absurd plans
  files_of (path ∷ paths) [] (line ∷ lines) plans = []
  files_of (path ∷ paths) (place ∷ places) [] plans = absurd plans
  files_of (path ∷ paths) (place ∷ places) (line ∷ lines) (first, plans) = with_line line (place, first.becomes.new_bytes) (files_of paths places lines plans)

  abbrev leads_each : List (List ℕ) → List NameList → Type 0
  leads_each paths places = map (λ path. reached tree path true) paths ≡ map (λ place. Some place) places

  module _ (path : List ℕ) (place : NameList) (line : PlanLine) (first : IsLineOf change tree path line) (leads : reached tree path true ≡ Some place) where
    was_there : file_at tree place ≡ Some (first.bytes, first.mode)
    was_there = sym (ap (option_and_then (file_at tree)) leads) ∙ first.is_file

    line_changes : line.changed ≡ true → Changes change tree (place, first.becomes.new_bytes)
    line_changes e = record {
      bytes = first.bytes;
      mode = first.mode;
      was = was_there;
      count = line.replaced;
      new_bytes = first.becomes.new_bytes_are;
      differ = first.becomes.changed.0 e;
    }

    line_leads : line.changed ≡ true → IsChangeOf change tree line.path (place, first.becomes.new_bytes)
    line_leads e = record {
      leads = ap (λ (p : List ℕ). reached tree p true) first.path_is ∙ leads;
      bytes = first.bytes;
      mode = first.mode;
      was = was_there;
      count = line.replaced;
      new_bytes = first.becomes.new_bytes_are;
      differ = first.becomes.changed.0 e;
    }

    same_new : (f : Exchange) → Changes change tree f → place ≡ f.0 → first.becomes.new_bytes ≡ f.1
    same_new f c e =
        let at : file_at tree f.0 ≡ Some (first.bytes, first.mode) = ap (file_at tree) (sym e) ∙ was_there in
        let bytes : c.bytes ≡ first.bytes = ap (λ (p : List ℕ × ℕ). p.0) (same_Some (c.bytes, c.mode) (first.bytes, first.mode) (sym c.was ∙ at)) in
        one_change change one first.bytes first.becomes.new_bytes f.1 line.replaced c.count first.becomes.new_bytes_are
        (subst (λ (b : List ℕ). FileChange change b f.1 c.count) bytes c.new_bytes)

    line_has : (f : Exchange) → Changes change tree f → place ≡ f.0 → line.changed ≡ true
    line_has f c e =
        let at : file_at tree f.0 ≡ Some (first.bytes, first.mode) = ap (file_at tree) (sym e) ∙ was_there in
        let bytes : c.bytes ≡ first.bytes = ap (λ (p : List ℕ × ℕ). p.0) (same_Some (c.bytes, c.mode) (first.bytes, first.mode) (sym c.was ∙ at)) in
        first.becomes.changed.1 (λ same. c.differ (sym (same_new f c e) ∙ same ∙ sym bytes))

  -- ---- each of them is one, and changes

  told : (paths : List (List ℕ)) (places : List NameList) (lines : List PlanLine) (plans : PlansFiles change tree paths lines) → leads_each paths places → (f : Exchange)
      → In f (files_of paths places lines plans) → In f.0 places × Changes change tree f
  told [] [] [] plans lead f i = absurd i
  told [] [] (line ∷ lines) plans lead f i = absurd plans
  told [] (place ∷ places) [] plans lead f i = absurd i
  told [] (place ∷ places) (line ∷ lines) plans lead f i = absurd plans
  told (path ∷ paths) [] [] plans lead f i = absurd plans
  told (path ∷ paths) [] (line ∷ lines) plans lead f i = absurd i
  told (path ∷ paths) (place ∷ places) [] plans lead f i = absurd plans
  told (path ∷ paths) (place ∷ places) (line ∷ lines) (first, plans) lead f i =
      let (here, more) = both (reached tree path true) (Some place) (map (λ path. reached tree path true) paths) (map (λ place. Some place) places) lead in
      let rest : In f (files_of paths places lines plans) → In f.0 places × Changes change tree f = λ i. told paths places lines plans more f i in
      by here (λ i. let (in_places, changes) = rest i in (inr in_places, changes)) line.changed refl i
    where
      by : reached tree path true ≡ Some place → (In f (files_of paths places lines plans) → In f.0 (place ∷ places) × Changes change tree f) → (b : Bool) → line.changed ≡ b
          → In f (cond b ((place, first.becomes.new_bytes) ∷ files_of paths places lines plans) (files_of paths places lines plans)) → In f.0 (place ∷ places) × Changes change tree f
      by here rest true e (inl is) =
          (inl (ap (λ (g : Exchange). g.0) is), subst (λ (g : Exchange). Changes change tree g) is (line_changes path place line first here e))
      by here rest true e (inr i) = rest i
      by here rest false e i = rest i

  -- ---- and each that changes is one of them

  listed : (paths : List (List ℕ)) (places : List NameList) (lines : List PlanLine) (plans : PlansFiles change tree paths lines) → leads_each paths places → (f : Exchange) → In f.0 places
      → Changes change tree f → In f (files_of paths places lines plans)
  listed [] [] lines plans lead f i c = absurd i
  listed (path ∷ paths) [] lines plans lead f i c = absurd i
  listed [] (place ∷ places) lines plans lead f i c = absurd (nothing (Some place) (map (λ place. Some place) places) lead)
    where
      nothing : (x : Option NameList) (xs : List (Option NameList)) → [] ≡ x ∷ xs → ⊥
      nothing x xs e = cc
  listed (path ∷ paths) (place ∷ places) [] plans lead f i c = absurd plans
  listed (path ∷ paths) (place ∷ places) (line ∷ lines) (first, plans) lead f i c =
      let (here, more) = both (reached tree path true) (Some place) (map (λ path. reached tree path true) paths) (map (λ place. Some place) places) lead in
      by here (λ j. listed paths places lines plans more f j c) i line.changed refl
    where
      unlike : false ≡ true → ⊥
      unlike e = cc

      by : reached tree path true ≡ Some place → (In f.0 places → In f (files_of paths places lines plans)) → In f.0 (place ∷ places) → (b : Bool) → line.changed ≡ b
          → In f (cond b ((place, first.becomes.new_bytes) ∷ files_of paths places lines plans) (files_of paths places lines plans))
      by here rest (inl is) true e = inl (λ k. (is k, same_new path place line first here f c is k))
      by here rest (inl is) false e = absurd (unlike (sym e ∙ line_has path place line first here f c is))
      by here rest (inr i) true e = inr (rest i)
      by here rest (inr i) false e = rest i

  -- ---- the paths lead to them

  lead_to : (paths : List (List ℕ)) (places : List NameList) (lines : List PlanLine) (plans : PlansFiles change tree paths lines) → leads_each paths places
      → AreChangesOf change tree (changed_paths lines) (files_of paths places lines plans)
  lead_to [] [] [] plans lead = tt
  lead_to [] [] (line ∷ lines) plans lead = absurd plans
  lead_to [] (place ∷ places) [] plans lead = tt
  lead_to [] (place ∷ places) (line ∷ lines) plans lead = absurd plans
  lead_to (path ∷ paths) [] lines plans lead = absurd (nothing (reached tree path true) (map (λ path. reached tree path true) paths) lead)
    where
      nothing : (x : Option NameList) (xs : List (Option NameList)) → x ∷ xs ≡ [] → ⊥
      nothing x xs e = cc
  lead_to (path ∷ paths) (place ∷ places) [] plans lead = absurd plans
  lead_to (path ∷ paths) (place ∷ places) (line ∷ lines) (first, plans) lead =
      let (here, more) = both (reached tree path true) (Some place) (map (λ path. reached tree path true) paths) (map (λ place. Some place) places) lead in
      by here (lead_to paths places lines plans more) line.changed refl
    where
      by : reached tree path true ≡ Some place → AreChangesOf change tree (changed_paths lines) (files_of paths places lines plans) → (b : Bool) → line.changed ≡ b
          → AreChangesOf change tree (map path_of (cond b (line ∷ filter (λ (l : PlanLine). l.changed) lines) (filter (λ (l : PlanLine). l.changed) lines)))
          (cond b ((place, first.becomes.new_bytes) ∷ files_of paths places lines plans) (files_of paths places lines plans))
      by here rest true e = (line_leads path place line first here e, rest)
      by here rest false e = rest

  -- ---- each in a place of its own

  own_places : (paths : List (List ℕ)) (places : List NameList) (lines : List PlanLine) (plans : PlansFiles change tree paths lines) → leads_each paths places → IsStrictlySortedBy name_list_cmp places
      → IsDistinct same_place (map (λ f. f.0) (files_of paths places lines plans))
  unfolding IsDistinct IsStrictlySortedBy
  own_places [] [] [] plans lead sorted = tt
  own_places [] [] (line ∷ lines) plans lead sorted = absurd plans
  own_places [] (place ∷ places) [] plans lead sorted = tt
  own_places [] (place ∷ places) (line ∷ lines) plans lead sorted = absurd plans
  own_places (path ∷ paths) [] [] plans lead sorted = absurd plans
  own_places (path ∷ paths) [] (line ∷ lines) plans lead sorted = tt
  own_places (path ∷ paths) (place ∷ places) [] plans lead sorted = absurd plans
  own_places (path ∷ paths) (place ∷ places) (line ∷ lines) (first, plans) lead (less, sorted) =
      let (here, more) = both (reached tree path true) (Some place) (map (λ path. reached tree path true) paths) (map (λ place. Some place) places) lead in
      let rest = own_places paths places lines plans more sorted in
      let apart = all_places (λ q. same_place place q ≡ false) (files_of paths places lines plans)
      (λ f i. other_place place f.0 (less_than_all place places less f.0 (told paths places lines plans more f i).0)) in
      by apart rest line.changed
    where
      by : AllByRecursion (λ q. same_place place q ≡ false) (map (λ f. f.0) (files_of paths places lines plans)) → IsDistinct same_place (map (λ f. f.0) (files_of paths places lines plans)) → (b : Bool)
          → IsDistinct same_place (map (λ f. f.0) (cond b ((place, first.becomes.new_bytes) ∷ files_of paths places lines plans) (files_of paths places lines plans)))
      by apart rest true = (apart, rest)
      by apart rest false = rest

-- ---- the work of a plan

module _ (change : Change) (one : IsOne change) (IsOne_ : NameList → Type 0) (root : List ℕ) (s : DiskState) (paths : List (List ℕ)) (places : List NameList) (lines : List PlanLine)
    (listed_files : ListsFiles s.tree paths places) (these : (q : NameList) → Contains places q ↔ IsOne_ q) (plans : PlansFiles change s.tree paths lines) (folder : NameList)
    (leads : directory_of s.tree root ≡ Some folder) (fresh : IsFresh root s) where
  abbrev pub work_of : Work
  work_of = record { tree = s.tree; root = folder; files = files_of change one s.tree paths places lines plans }

  changes : (f : Exchange) → Contains work_of.files f → In f.0 places × Changes change s.tree f
  changes f has = told change one s.tree paths places lines plans listed_files.lead f (in_from_contains work_of.files f has)

  is_work : IsWork work_of
  is_work = record {
    is_folder = directory_there s.tree root folder leads;
    no_journal = fresh.no_journal folder leads;
    are_files = λ f has. let (i, c) = changes f has in (c.bytes, c.mode, c.was);
    is_one = λ f g has_f has_g e.
        let a = (changes f has_f).1 in
        let b = (changes g has_g).1 in
        let bytes : b.bytes ≡ a.bytes = ap (λ (p : List ℕ × ℕ). p.0) (same_Some (b.bytes, b.mode) (a.bytes, a.mode) (sym b.was ∙ ap (file_at s.tree) (sym e) ∙ a.was)) in
        one_change change one a.bytes f.1 g.1 a.count b.count a.new_bytes (subst (λ (x : List ℕ). FileChange change x g.1 b.count) bytes b.new_bytes);
  }

  pub is_change_below : IsChangeBelow change work_of root (changed_paths lines) s
  is_change_below = record {
    is_work = is_work;
    tree = refl;
    leads = leads;
    on_medium = fresh.on_medium;
    changes = lead_to change one s.tree paths places lines plans listed_files.lead;
    own_places = own_places change one s.tree paths places lines plans listed_files.lead listed_files.in_order;
  }

  pub is_work_of : IsWorkOf change IsOne_ root s.tree work_of
  is_work_of = record {
    is_work = is_work;
    tree_is = refl;
    leads = leads;
    these = λ f. (
      (λ has.
          let (i, c) = changes f has in
          record {
            one = (these f.0).0 (contains_from_in places f.0 i);
            bytes = c.bytes;
            mode = c.mode;
            was = c.was;
            count = c.count;
            new_bytes = c.new_bytes;
            differ = c.differ;
          }),
      (λ c.
          contains_from_in work_of.files f (listed change one s.tree paths places lines plans listed_files.lead f (in_from_contains places f.0 ((these f.0).1 c.one)) (record {
            bytes = c.bytes;
            mode = c.mode;
            was = c.was;
            count = c.count;
            new_bytes = c.new_bytes;
            differ = c.differ;
          }))),
    );
  }
