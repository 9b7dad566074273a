-- An entry is found by listing its folder.
use Rattle.std.proofs.Common.{◌≡◌, ◌≢◌, ◌⊎◌, ◌<◌, ◌≤◌, ◌+◌, ◌-◌, ◌^◌, ℕ, Bool, true, false, List, [], ◌∷◌, ◌++◌, refl, sym, ◌∙◌, ap, subst, inl, inr, arith}
use Rattle.std.specs.Prelude.{◌||◌, Option, Some, None, IsTrue, is_some, option_map, Result, Ok, Err, IfOk, IfErr, IsErrOf}
use Rattle.std.specs.List.{list_any}
use Rattle.std.specs.Str.{bytes_eq}
use Rattle.std.specs.Cmp.Lexicographic.{bytes_decides}
use Rattle.std.proofs.lemmas.Bool.{cases_lt}
use Rattle.std.proofs.lemmas.Option.{same_Some}
use Rattle.sd_io.specs.declared.meta.Kind.{Kind}
use Rattle.sd_io.specs.declared.meta.RawEntry.{RawEntry}
use Rattle.sd_io.specs.declared.fault.DiskFault.{DiskFault}
use Rattle.sd_io.specs.declared.fault.DiskFault.TheVariants as disk
use Rattle.sd_io.specs.declared.fault.DiskFault.TheVariants.{Failed, NoMemory}
use Rattle.sd_io.specs.Tree.{Name, NameList, Node, Tree, IsTree, node_at}
use Rattle.sd_io.specs.Count.{HasRisen}
use Rattle.sd_io.specs.Files.{kind_of}
use Rattle.sd_io.specs.Disk.{DiskState, OpenList, SameTree, HasCause}
use Rattle.sd_io.specs.Lists.{IsOpen, IsUnfinished, IsFull, SameOtherLists, SameOpen, Opens, Closes, Tells, TellAll, ListsDirectory, Gives, GivesNext, HasNoneLeft}
use Rattle.sd_course.specs.Course.{course}
use Rattle.file_exchange.specs.Causes.{HasCauseOf}
use Rattle.file_exchange.proofs.CauseLemmas.{risen_since}
use Rattle.journal.specs.Finding.{FindsEntry, ListsFolder, LeavesLists, LookFails, kind_at}

-- ---- how far the list is read

-- the entries that are left tell of names of the folder, among which the name is if it is one of the folder's at all
pub record IsReadTo (tree : Tree) (folder : NameList) (name : Name) (number : ℕ) (now : DiskState) : Type 0 where
  pub names : List Name
  pub ended : Bool
  pub left : List RawEntry
  pub opened : now.open_list number ≡ Some (record { is_at_end = ended; left = left })
  pub told : TellAll tree folder names left
  pub among : list_any (bytes_eq name) names ≡ list_any (bytes_eq name) (tree.order folder)

pub nothing_read : (s : DiskState) (folder : NameList) (name : Name) (number : ℕ) → ListsFolder s number folder → IsReadTo s.tree folder name number s
nothing_read s folder name number lists = record {
  names = s.tree.order folder;
  ended = false;
  left = lists.left;
  opened = lists.opened;
  told = lists.entries;
  among = refl;
}

-- the entries that are left begin with the one that is given
record IsNext (tree : Tree) (folder : NameList) (entry : RawEntry) (rest : List RawEntry) (names : List Name) : Type 0 where
  first : Name
  others : List Name
  names_are : names ≡ first ∷ others
  tells : Tells tree folder first entry
  more : TellAll tree folder others rest

next_told : (tree : Tree) (folder : NameList) (names : List Name) (entry : RawEntry) (rest : List RawEntry) → TellAll tree folder names (entry ∷ rest) → IsNext tree folder entry rest names
next_told tree folder [] entry rest told = absurd told
next_told tree folder (first ∷ others) entry rest told = record { first = first; others = others; names_are = refl; tells = told.0; more = told.1 }

module _ (tree : Tree) (folder : NameList) (name : Name) (number : ℕ) (now next : DiskState) (to : IsReadTo tree folder name number now) (entry : RawEntry) (gives : GivesNext now number entry next) where
  at : IsNext tree folder entry gives.rest to.names
  at =
      let same : record { is_at_end = to.ended; left = to.left } ≡ record { is_at_end = false; left = entry ∷ gives.rest } = same_Some _ _ (sym to.opened ∙ gives.was) in
      let left_is : to.left ≡ entry ∷ gives.rest = ap (λ (l : OpenList). l.left) same in
      next_told tree folder to.names entry gives.rest (subst (TellAll tree folder to.names) left_is to.told)

  -- it is the one
  pub found_there : entry.name ≡ name → Some entry.kind ≡ kind_at tree (folder ++ name ∷ [])
  found_there is =
      let t = at.tells in
      let place : folder ++ at.first ∷ [] ≡ folder ++ name ∷ [] = ap (λ (n : Name). folder ++ n ∷ []) (sym t.name_is ∙ is) in
      ap (λ (k : Kind). Some k) t.kind_is ∙ sym (ap (option_map (λ (n : Node). kind_of n.content)) (ap (node_at tree) (sym place) ∙ t.stands))

  -- it is another
  pub read_on : entry.name ≢ name → IsReadTo tree folder name number next
  read_on other = record {
    names = at.others;
    ended = false;
    left = gives.rest;
    opened = gives.now;
    told = at.more;
    among =
        let not_first : bytes_eq name at.first ≡ false = differs (λ e. other (at.tells.name_is ∙ sym e)) in
        sym (ap (λ (b : Bool). b || list_any (bytes_eq name) at.others) not_first) ∙ ap (list_any (bytes_eq name)) (sym at.names_are) ∙ to.among;
  }
    where
      differs : {x y : List ℕ} → x ≢ y → bytes_eq x y ≡ false
      differs {x} {y} n = by (bytes_eq x y) refl
        where
          by : (b : Bool) → bytes_eq x y ≡ b → bytes_eq x y ≡ false
          by true e = absurd (n ((bytes_decides x y).0 e))
          by false e = e

-- nothing is left
pub none_there : (tree : Tree) (folder : NameList) (name : Name) (number : ℕ) (now : DiskState) → IsTree tree → IsReadTo tree folder name number now → HasNoneLeft now number → None ≡ kind_at tree (folder ++ name ∷ [])
none_there tree folder name number now is to (ended, none) =
    let same : record { is_at_end = to.ended; left = to.left } ≡ record { is_at_end = ended; left = [] } = same_Some _ _ (sym to.opened ∙ none) in
    let left_is : to.left ≡ [] = ap (λ (l : OpenList). l.left) same in
    let no_name : list_any (bytes_eq name) to.names ≡ false = by to.names (subst (TellAll tree folder to.names) left_is to.told) in
    absent (node_at tree (folder ++ name ∷ [])) (sym (is.order_all folder name) ∙ sym to.among ∙ no_name)
  where
    by : (names : List Name) → TellAll tree folder names [] → list_any (bytes_eq name) names ≡ false
    by [] told = refl
    by (n ∷ names) told = absurd told

    absent : (o : Option Node) → is_some o ≡ false → None ≡ option_map (λ (n : Node). kind_of n.content) o
    absent None e = refl
    absent (Some node) e = cc

-- ---- names that are compared

pub same_name : (text name entry : List ℕ) → text ≡ entry → true ≡ bytes_eq text name → entry ≡ name
same_name text name entry is e = sym is ∙ (bytes_decides text name).0 (sym e)

pub other_name : (text name entry : List ℕ) → text ≡ entry → false ≡ bytes_eq text name → entry ≢ name
other_name text name entry is e same = absurd (cc (e ∙ (bytes_decides text name).1 (is ∙ same)))

-- ---- the count of listed entries

in_time : {T : Type 0} {given : T} → IsErrOf {T = T} (Ok given) Failed ⊎ IsErrOf {T = T} (Ok given) NoMemory → ⊥
in_time (inl e) = absurd (cc e)
in_time (inr e) = absurd (cc e)

-- an entry that is given is one less to come
pub one_less : {T : Type 0} (given : T) (now next : DiskState) (number : ℕ) → Gives now number next
    → (IsFull now → IsUnfinished now number → IsErrOf {T = T} (Ok given) Failed ⊎ IsErrOf {T = T} (Ok given) NoMemory) → 2 ^ 64 - next.listed < 2 ^ 64 - now.listed
one_less given now next number gives full = elim (cases_lt (now.listed + 1) (2 ^ 64)) [
  | inl low ↦ let more = gives.passes.listed in omega (arith, more)
  | inr last ↦ absurd (in_time (full last (gives.left, gives.was)))
]

-- ---- the list is opened and closed

pub opened_list : (old new : DiskState) (path : List ℕ) (number : ℕ) → SameTree old new → (l : ListsDirectory old path number new) → ListsFolder new number l.folder
opened_list old new path number same l = record {
  left = l.left;
  opened = l.opened;
  entries = subst (λ (t : Tree). TellAll t l.folder (t.order l.folder) l.left) (sym same.tree) l.entries;
}

-- what was found while it was open
pub entry_found : (old now : DiskState) (path : List ℕ) (name : Name) (number : ℕ) (r : Result (Option Kind) DiskFault) → SameTree old now → (l : ListsDirectory old path number now)
    → IfOk r (λ found. found ≡ kind_at now.tree (l.folder ++ name ∷ [])) → IfOk r (FindsEntry old.tree path name)
entry_found old now path name number (Ok found) same l is = record {
  folder = l.folder;
  leads = l.leads;
  kind_is = is ∙ ap (λ (t : Tree). kind_at t (l.folder ++ name ∷ [])) same.tree;
}
entry_found old now path name number (Err fault) same l is = tt

pub lists_left : (s t u v : DiskState) (number : ℕ) → Opens s number t → IsOpen u number → SameOtherLists t number u → SameOpen t u → t.listed ≤ u.listed → Closes u number v → LeavesLists s v
lists_left s t u v number opens (list, is_open) others still later closes = record {
  open_list = λ k. by k (cases_same k number);
  open_count =
      let closed = closes.open_count list is_open in
      let opened = opens.open_count in
      let same = still.open_count in
      omega (arith, closed, opened, same);
  open_most =
      let a = closes.open_most in
      let b = still.open_most in
      let c = opens.open_most in
      let d = opens.open_count in
      omega (arith, a, b, c, d);
  listed =
      let a = opens.listed in
      let b = closes.listed in
      omega (arith, a, b, later);
}
  where
    cases_same : (k n : ℕ) → (k ≡ n) ⊎ (k ≢ n)
    cases_same k n = elim (cases_lt k n) [
      | inl below ↦ inr (λ e. omega arith)
      | inr above ↦ elim (cases_lt n k) [ inl below ↦ inr (λ e. omega arith) | inr same ↦ inl (omega arith) ]
    ]

    by : (k : ℕ) → (k ≡ number) ⊎ (k ≢ number) → v.open_list k ≡ s.open_list k
    by k (inl e) = ap v.open_list e ∙ closes.closed ∙ sym opens.was_free ∙ ap s.open_list (sym e)
    by k (inr n) = closes.others k n ∙ others k n ∙ opens.others k n

-- ---- why a look is refused

pub look_refused : {T : Type 0} (tells : Bool) (s t : DiskState) (absent : Type 0) (f : DiskFault) → (IsTrue tells → IsErrOf {T = T} (Err f) disk.Absent → absent)
    → (IsErrOf {T = T} (Err f) disk.Taken → ⊥) → HasCause {T = T} tells s t (Err f) → LookFails (course tells s t) absent f
look_refused tells s t absent disk.Absent none taken cause = ((λ told. none told refl), (λ untold. inl (cause.absent untold refl)))
look_refused tells s t absent disk.Taken none taken cause = absurd (taken refl)
look_refused tells s t absent disk.Failed none taken cause = cause.failed refl
look_refused tells s t absent disk.NoMemory none taken cause = tt

-- a list that is read, between its opening and its closing
pub listing_refused : {T : Type 0} (tells : Bool) (s t u v : DiskState) (absent : Type 0) (r : Result T DiskFault) → s.faults ≤ t.faults → v.faults ≡ u.faults
    → HasCauseOf (λ fault. fault) tells t u r → IfErr r (LookFails (course tells s v) absent)
listing_refused tells s t u v absent (Ok x) low same cause = tt
listing_refused tells s t u v absent (Err disk.Absent) low same cause =
    let (untold, rose) = cause.absent refl in
    ((λ told. absurd (cc (sym told ∙ untold))), (λ same_untold. inl (omega (arith, low, same, rose))))
listing_refused tells s t u v absent (Err disk.Taken) low same cause = absurd (cause.not_taken refl)
listing_refused tells s t u v absent (Err disk.Failed) low same cause = risen_since s.faults t.faults v.faults low (subst (λ (n : ℕ). HasRisen t.faults n) (sym same) (cause.failed refl))
listing_refused tells s t u v absent (Err disk.NoMemory) low same cause = tt
