-- A temporary file is created under the first reserved name that is free.
use Rattle.std.proofs.Common.{◌≡◌, ℕ, ◌+◌, ◌<◌, ◌≤◌, Bool, false, List, [], ◌∷◌, ◌++◌, refl, sym, ◌∙◌, ap, subst, inl, inr, arith}
use Rattle.std.specs.Prelude.{Some, IsSome, IsTrue, Result, Err, IsErrOf}
use Rattle.std.specs.Option.{option_and_then}
use Rattle.std.proofs.lemmas.Option.{same_Some}
use Rattle.std.proofs.lemmas.Bool.{cases_lt}
use Rattle.sd_io.specs.declared.fault.DiskFault.{DiskFault}
use Rattle.sd_io.specs.declared.fault.DiskFault.TheVariants as disk
use Rattle.sd_io.specs.Tree.{NameList, Tree, IsTree, node_at, file_at}
use Rattle.sd_io.specs.Paths.{parts_of, parent_of, named}
use Rattle.sd_io.specs.Outcomes.{own, any_file, own_of, left_behind}
use Rattle.sd_io.specs.Disk.{DiskState, SameTree, SameLists, HasCause, outcomes_now}
use Rattle.sd_io.specs.Files.{path_text, file_of, Creates, CannotCreate, IsTaken}
use Rattle.sd_io.proofs.PathTextLemmas.{text_names}
use Rattle.sd_io.proofs.OutcomeLemmas.{put_there, own_append, own_behind}
use Rattle.sd_io.proofs.CrashLemmas.{since_same, since_loose, since_then, settled_same, settled_put}
use Rattle.file_exchange.specs.Reserved.{reserved_name, reserved_names, NoneFree, IsReservedPath}
use Rattle.file_exchange.specs.Exchange.{IsFilePath, IsPathIn}
use Rattle.file_exchange.specs.declared.reserved.Temporary.{Temporary}
use Rattle.file_exchange.specs.Temporary.{CreatesTemporary}
use Rattle.file_exchange.proofs.exchanging.PlaceLemmas.{some_not_none, placed, IsBeside, is_beside, reserved_is_name}

-- ---- the loop

-- so far each of these reserved names of the folder was taken, and nothing has changed but the count of faults
pub record IsTried (tells : Bool) (old : DiskState) (folder : NameList) (number : ℕ) (new : DiskState) : Type 0 where
  pub same : IsTrue tells → SameTree old new
  pub taken : IsTrue tells → (n : ℕ) → n < number → IsSome (node_at old.tree (folder ++ reserved_name n ∷ []))
  pub lists : SameLists old new
  pub never_falls : old.faults ≤ new.faults
  pub risen : tells ≡ false → old.faults + number ≤ new.faults

pub none_tried : (tells : Bool) (s : DiskState) (folder : NameList) → IsTried tells s folder 0 s
none_tried tells s folder = record {
  same = λ told. record { tree = refl; clock = refl; outcomes = refl };
  taken = λ told n low. absurd (omega arith);
  lists = record { listed = refl; open_list = refl; open_count = refl; open_most = refl };
  never_falls = omega arith;
  risen = λ untold. omega arith;
}

then_lists : (r s t : DiskState) → SameLists r s → SameLists s t → SameLists r t
then_lists r s t a b = record {
  listed = b.listed ∙ a.listed;
  open_list = b.open_list ∙ a.open_list;
  open_count = b.open_count ∙ a.open_count;
  open_most = b.open_most ∙ a.open_most;
}

pub then_same : (r s t : DiskState) → SameTree r s → SameTree s t → SameTree r t
then_same r s t a b = record { tree = b.tree ∙ a.tree; clock = b.clock ∙ a.clock; outcomes = b.outcomes ∙ a.outcomes }

-- the reserved path of a number names the reserved name of that number
reserved_named : (tree : Tree) (path text : List ℕ) (n : ℕ) → IsTree tree → IsBeside tree path → IsReservedPath path n text
    → (text ≡ path_text (parent_of (parts_of path) ++ reserved_name n ∷ [])) × (named tree text ≡ Some (parent_of (parts_of path) ++ reserved_name n ∷ []))
reserved_named tree path text n is at reserved =
    let e = reserved (parent_of (parts_of path)) at.name at.text at.is_name.no_slash in
    (e, ap (named tree) e ∙ text_names tree is (parent_of (parts_of path)) (reserved_name n) at.folder (reserved_is_name n))

-- the file `like` is the model
model_is : (tree : Tree) (like : List ℕ) → IsTree tree → IsFilePath tree like → file_of tree like ≡ file_at tree (parts_of like)
model_is tree like is it = ap (option_and_then (file_at tree)) (placed tree like is it).leads

module _ (s : DiskState) (path text like : List ℕ) (n : ℕ) (is : IsTree s.tree) (in_folder : IsPathIn s.tree path) (reserved : IsReservedPath path n text) where
  names_it : named s.tree text ≡ Some (parent_of (parts_of path) ++ reserved_name n ∷ [])
  names_it = (reserved_named s.tree path text n is (is_beside s.tree path in_folder) reserved).1

  -- a refusal by `Taken` tells that something stands there
  stands_there : IsTaken s text like → IsSome (node_at s.tree (parent_of (parts_of path) ++ reserved_name n ∷ []))
  stands_there t = subst (λ (q : NameList). IsSome (node_at s.tree q)) (same_Some _ _ (sym t.names ∙ names_it)) t.stands

  -- nothing hinders the creation
  can_create : IsFilePath s.tree like → CannotCreate s text like → ⊥
  can_create it (inl none) = cc (names_it, none)
  can_create it (inr none) = some_not_none (file_at s.tree (parts_of like)) it.is_file (sym (model_is s.tree like is it) ∙ none)

-- the free one gets the file
module _ (old s : DiskState) (path text like : List ℕ) (n : ℕ) (same : SameTree old s) (is : IsTree s.tree) (in_folder : IsPathIn old.tree path) (it : IsFilePath old.tree like)
    (reserved : IsReservedPath path n text) where
  in_now : IsPathIn s.tree path
  in_now = subst (λ (tree : Tree). IsPathIn tree path) (sym same.tree) in_folder

  it_now : IsFilePath s.tree like
  it_now = subst (λ (tree : Tree). IsFilePath tree like) (sym same.tree) it

  pub created : (t : DiskState) (made : Temporary) → n < reserved_names → ((k : ℕ) → k < n → IsSome (node_at old.tree (parent_of (parts_of path) ++ reserved_name k ∷ [])))
      → Creates s text like t → made.number ≡ n → made.path ≡ text → CreatesTemporary old (parent_of (parts_of path)) (parts_of like) made t
  created t made low taken c number text_is =
      let there = reserved_named s.tree path text n is (is_beside s.tree path in_now) reserved in
      let place = same_Some _ _ (sym c.names ∙ there.1) in
      record {
        temporary = c.place;
        was_free = record { reserved = (n, low, place); free = sym (ap (λ (tree : Tree). node_at tree c.place) same.tree) ∙ c.was_free; before = taken };
        number_is = number;
        path_is = text_is ∙ there.0 ∙ ap path_text (sym place);
        bytes = c.bytes;
        mode = c.mode;
        model = sym (ap (λ (tree : Tree). file_at tree (parts_of like)) same.tree) ∙ sym (model_is s.tree like is it_now) ∙ c.model;
        stands = c.stands;
        others = λ q other. c.others q other ∙ ap (λ (tree : Tree). node_at tree q) same.tree;
        fresh =
            let before = left_behind (outcomes_now s c.place) in
            ap (λ f. own_of (f c.place)) c.advances.now
            ∙ ap own_of (put_there c.place (before ++ own any_file ∷ []) (outcomes_now s))
            ∙ own_append before (own any_file ∷ [])
            ∙ ap (λ os. os ++ own any_file ∷ []) (own_behind (outcomes_now s c.place));
        leaves = since_then _ _ old s t (since_same _ _ old s same) (since_loose _ _ s t c.place _ c.advances refl);
        settled = λ q n is. settled_put s t c.place _ c.advances c.others q n (settled_same old s same q is);
      }

  -- nothing else hinders it
  pub none_absent : CannotCreate s text like → ⊥
  none_absent = can_create s path text like n is in_now reserved it_now

err : DiskFault → Result (Unit {0}) DiskFault
err fault = Err fault

-- one more was taken
pub one_more : (tells : Bool) (old s t : DiskState) (path text like : List ℕ) (number : ℕ) (fault : DiskFault) → IsTried tells old (parent_of (parts_of path)) number s
    → (IsTrue tells → IsTree s.tree) → (IsTrue tells → IsPathIn old.tree path) → IsReservedPath path number text
    → (IsTrue tells → IsErrOf {T = Unit {0}} (Err fault) disk.Taken → IsTaken s text like) → SameTree s t → SameLists s t → HasCause {T = Unit {0}} tells s t (Err fault) → fault ≡ disk.Taken
    → IsTried tells old (parent_of (parts_of path)) (number + 1) t
unfolding err
one_more tells old s t path text like number fault tried is it reserved taken refused lists cause is_taken = let e = ap (λ (f : DiskFault). err f) is_taken in record {
  same = λ told. then_same old s t (tried.same told) refused;
  taken = λ told n low.
      let same = (tried.same told).tree in
      elim (cases_lt n number) [
        | inl below ↦ tried.taken told n below
        | inr above ↦
            let last : n ≡ number = omega arith in
            let it_now = subst (λ (tree : Tree). IsPathIn tree path) (sym same) (it told) in
            subst (λ (k : ℕ). IsSome (node_at old.tree (parent_of (parts_of path) ++ reserved_name k ∷ []))) (sym last)
            (subst (λ (tree : Tree). IsSome (node_at tree (parent_of (parts_of path) ++ reserved_name number ∷ []))) same
            (stands_there s path text like number (is told) it_now reserved (taken told e)))
      ];
  lists = then_lists old s t tried.lists lists;
  never_falls = omega (arith, tried.never_falls, cause.never_falls);
  risen = λ untold. omega (arith, tried.risen untold, cause.taken untold e);
}

-- all of them were taken
pub none_free : (old : Tree) (path : List ℕ) (number : ℕ) → reserved_names ≤ number
    → ((n : ℕ) → n < number → IsSome (node_at old (parent_of (parts_of path) ++ reserved_name n ∷ []))) → NoneFree old (parent_of (parts_of path))
none_free old path number all taken = λ place free.
    let low : free.reserved.0 < number = omega (arith, free.reserved.1) in
    some_not_none (node_at old place) (subst (λ (q : NameList). IsSome (node_at old q)) (sym free.reserved.2) (taken free.reserved.0 low)) free.free
