-- Why items come.
use Rattle.std.proofs.Common.{◌≡◌, ◌+◌, ◌≤◌, ◌<◌, ◌⊎◌, ℕ, Bool, true, false, cond, List, [], ◌∷◌, ◌++◌, length, Option, Some, None, Result, Ok, Err, refl, sym, subst, ◌∙◌, ap, arith, inl, inr, length-append}
use Rattle.std.specs.Prelude.{IsTrue, IfOk, ◌&&◌, nat_eq, nat_lt, option_map}
use Rattle.sd_io.specs.Count.{HasRisen}
use Rattle.sd_io.specs.Tree.{Node, is_directory_content}
use Rattle.sd_io.specs.Disk.{DiskState}
use Rattle.sd_io.specs.declared.meta.Ident.{Ident}
use Rattle.walk_rest.specs.declared.entry.DirEntry.{DirEntry}
use Rattle.walk_rest.specs.declared.error.Error.{Error}
use Rattle.walk_rest.specs.declared.error.Error.TheVariants as error
use Rattle.walk_rest.specs.declared.options.Options.{Options}
use Rattle.walk_rest.specs.declared.level.Folder.{Folder}
use Rattle.walk_rest.specs.declared.level.Due.{Due}
use Rattle.walk_rest.specs.declared.level.Level.{Level}
use Rattle.walk_rest.specs.declared.level.Entries.{Entries}
use Rattle.walk_rest.specs.declared.level.Entries.TheVariants.{Unread}
use Rattle.walk_rest.specs.Rest.{Rest}
use Rattle.walk_rest.specs.Names.{by_file_name}
use Rattle.walk_rest.specs.Plan.{Comparison, Item, Manner, Seen, node_to, seen, fails, stays, enters, seen_by, seen_directory, seen_root_link, seen_unfollowed, seen_link, seen_target, followed_entry, folder_of, is_foreign, is_directory, is_link, ident_of, ancestor_with, item_where}
use Rattle.walk_rest.specs.Level.{IsAllowed, AddsFaults, item_of}
use Rattle.walk_steps.specs.declared.inside.Inside.{Inside}
use Rattle.walk_steps.specs.Inside.{HasRest, IsRead, SameWalk, chain_of, levels_of, top_levels, with_top}
use Rattle.walk_steps.specs.Sound.{IsFresh}
use Rattle.walk_steps.specs.Steps.{CannotBegin, Enters, MovesTo}
use Rattle.walk_steps.specs.Seen.{ByEachManner, IsFailureAt, IsLoopIn, FailsAsSeen, HasCauseAt}
use Rattle.walk_steps.specs.Causes.{faults_due, faults_told, CountsFaults, FitsTree, IsFolderOf, IsEnteredBy, IsCaused}
use Rattle.walk_steps.proofs.leave.WithinLemmas.{retop_levels}
use Rattle.walk_steps.proofs.next.StepLemmas.{allowed_one, rest_retop}

-- ---- faults that are due

pub due_snoc : (xs : List Level) (x : Level) → faults_due (xs ++ x ∷ []) ≡ faults_due xs + length x.faults.items
due_snoc [] x = omega arith
due_snoc (y ∷ xs) x = let a = due_snoc xs x in omega (arith, a)

pub counts_on : (n : ℕ) (a b c : DiskState) (x y z : List Level) → b.faults ≤ c.faults → CountsFaults 0 a x b y → CountsFaults n b y c z → CountsFaults n a x c z
counts_on n a b c x y z le (inl h) (inl k) = inl (omega (arith, h, k))
counts_on n a b c x y z le h (inr k) = inr k
counts_on n a b c x y z le (inr h) (inl k) = inr (omega (arith, h, le))

pub counts_same : (n : ℕ) (s now : DiskState) (x y : List Level) → faults_due y ≡ faults_due x → IsAllowed n s.faults now.faults → CountsFaults n s x now y
counts_same n s now x y e (inl h) = inl (omega (arith, e, h))
counts_same n s now x y e (inr h) = inr h

pub counts_from : (n : ℕ) (s now last : DiskState) (x y z : List Level) → s.faults ≤ now.faults → faults_due y ≡ faults_due x → CountsFaults n now y last z → CountsFaults n s x last z
counts_from n s now last x y z le e (inl h) = inl (omega (arith, le, e, h))
counts_from n s now last x y z le e (inr h) = inr h

-- a level was read, of which nothing was due
pub counts_read : (s now : DiskState) (xs : List Level) (level : Level) (due : List Due) → due ≡ [] → AddsFaults s due now level.faults.items → CountsFaults 0 s xs now (xs ++ level ∷ [])
counts_read s now xs level due empty adds = by adds.allowed
  where
    many : length level.faults.items ≡ length adds.more
    many = let a = ap length adds.now_are in let b = length-append due adds.more in let c = ap length empty in omega (arith, a, b, c)

    by : IsAllowed (length adds.more) s.faults now.faults → CountsFaults 0 s xs now (xs ++ level ∷ [])
    by (inl h) = let a = due_snoc xs level in let b = many in inl (omega (arith, a, b, h))
    by (inr h) = inr h

-- ---- errors that are counted

pub allowed_as : (tells : Bool) (a b : ℕ) (failed is : Error) → failed ≡ is → IsAllowed (faults_told tells (Some (Err is))) a b → IsAllowed (faults_told tells (Some (Err failed))) a b
allowed_as tells a b failed is e h = let F : Error → Type 0 = λ x. IsAllowed (faults_told tells (Some (Err x))) a b in subst F (sym e) h

allowed_absent : (tells : Bool) (path : List ℕ) (depth a b : ℕ) → a ≤ b → (tells ≡ false → a < b) → IsAllowed (faults_told tells (Some (Err (error.Absent path depth)))) a b
allowed_absent true path depth a b le h = inl (omega (arith, le))
allowed_absent false path depth a b le h = let l = h refl in inl (omega (arith, l))

allowed_failure : (tells : Bool) (entry : DirEntry) (failed : Error) (a b : ℕ) → IsFailureAt entry failed → HasRisen a b → IsAllowed (faults_told tells (Some (Err failed))) a b
allowed_failure tells entry failed a b (inl e) risen = allowed_as tells a b failed (error.Disk (Some entry.path) entry.depth) e (allowed_one a b risen)
allowed_failure tells entry failed a b (inr e) risen = allowed_as tells a b failed (error.Disk None entry.depth) e (allowed_one a b risen)

allowed_loop : (follows tells : Bool) (chain : List Folder) (failed : Error) (a b : ℕ) → a ≤ b → IsLoopIn follows chain failed → IsAllowed (faults_told tells (Some (Err failed))) a b
allowed_loop follows tells chain failed a b le l = allowed_as tells a b failed (error.Loop l.0 l.1 l.3.path l.2) l.4 (inl (omega (arith, le)))

-- ---- the root

pub begin_allowed : (tells : Bool) (s now : DiskState) (o : Options) (root : List ℕ) (failed : Error) → s.faults ≤ now.faults → CannotBegin tells s now o root failed → IsAllowed (faults_told tells (Some (Err failed))) s.faults now.faults
begin_allowed tells s now o root failed le (inl e) = allowed_as tells s.faults now.faults failed error.NoMemory e (inl (omega (arith, le)))
begin_allowed tells s now o root failed le (inr (inl f)) = allowed_as tells s.faults now.faults failed (error.Disk (Some root) 0) f.0 (allowed_one s.faults now.faults f.1)
begin_allowed tells s now o root failed le (inr (inr f)) = allowed_as tells s.faults now.faults failed (error.Absent root 0) f.0 (allowed_absent tells root 0 s.faults now.faults le f.2)

begin_absent : (tells : Bool) (s now : DiskState) (o : Options) (root : List ℕ) (failed : Error) → CannotBegin tells s now o root failed → tells ≡ false → (path : List ℕ) (depth : ℕ) → failed ≡ error.Absent path depth → s.faults < now.faults
begin_absent tells s now o root failed (inl e) untold path depth is = absurd (let f : error.NoMemory ≡ error.Absent path depth = sym e ∙ is in cc f)
begin_absent tells s now o root failed (inr (inl f)) untold path depth is = absurd (let k : error.Disk (Some root) 0 ≡ error.Absent path depth = sym f.0 ∙ is in cc k)
begin_absent tells s now o root failed (inr (inr f)) untold path depth is = f.2 untold

begin_looped : (tells : Bool) (s now : DiskState) (o : Options) (root : List ℕ) (failed : Error) → CannotBegin tells s now o root failed → (path : List ℕ) (depth : ℕ) (ancestor : List ℕ) (ident : Ident) → failed ≡ error.Loop path depth ancestor ident → ⊥
begin_looped tells s now o root failed (inl e) path depth ancestor ident is = let f : error.NoMemory ≡ error.Loop path depth ancestor ident = sym e ∙ is in cc f
begin_looped tells s now o root failed (inr (inl f)) path depth ancestor ident is = let k : error.Disk (Some root) 0 ≡ error.Loop path depth ancestor ident = sym f.0 ∙ is in cc k
begin_looped tells s now o root failed (inr (inr f)) path depth ancestor ident is = let k : error.Absent root 0 ≡ error.Loop path depth ancestor ident = sym f.0 ∙ is in cc k

begin_uncapped : (tells : Bool) (s now : DiskState) (o : Options) (root : List ℕ) (failed : Error) → CannotBegin tells s now o root failed → failed ≡ error.TooMany → ⊥
begin_uncapped tells s now o root failed (inl e) is = let k : error.NoMemory ≡ error.TooMany = sym e ∙ is in cc k
begin_uncapped tells s now o root failed (inr (inl f)) is = let k : error.Disk (Some root) 0 ≡ error.TooMany = sym f.0 ∙ is in cc k
begin_uncapped tells s now o root failed (inr (inr f)) is = let k : error.Absent root 0 ≡ error.TooMany = sym f.0 ∙ is in cc k

-- ---- errors in place of an entry

-- it leads nowhere, or its identity is that of the directory that is named
abbrev pub FailsRightly : Bool → List Folder → DirEntry → Seen → Type 0
FailsRightly follows chain entry (fails failed) = (failed ≡ error.Absent entry.path entry.depth) ⊎ IsLoopIn follows chain failed
FailsRightly follows chain entry (stays at) = Unit {0}
FailsRightly follows chain entry (enters at folder) = Unit {0}

pick : (follows : Bool) (chain : List Folder) (entry : DirEntry) (b : Bool) (x y : Seen) → FailsRightly follows chain entry x → FailsRightly follows chain entry y → FailsRightly follows chain entry (cond b x y)
pick follows chain entry true x y h k = h
pick follows chain entry false x y h k = k

pick_where : (follows : Bool) (chain : List Folder) (entry : DirEntry) (b c : Bool) (x y : Seen) → (b ≡ true → FailsRightly follows chain entry x) → FailsRightly follows chain entry y → FailsRightly follows chain entry (cond (b && c) x y)
pick_where follows chain entry true true x y h k = h refl
pick_where follows chain entry true false x y h k = k
pick_where follows chain entry false c x y h k = k

directory_rightly : (follows : Bool) (chain : List Folder) (at : DirEntry) (manner : Manner) (entry : DirEntry) (node : Option Node) → FailsRightly follows chain at (seen_directory manner entry node)
directory_rightly follows chain at manner entry node =
    pick follows chain at (manner.options.same_file_system && nat_lt 0 entry.depth && is_foreign manner node) (stays entry) (enters entry (folder_of manner.options entry node)) tt tt

root_link_rightly : (follows : Bool) (chain : List Folder) (manner : Manner) (entry : DirEntry) (node : Option Node) → FailsRightly follows chain entry (seen_root_link manner entry node)
root_link_rightly follows chain manner entry None = inl refl
root_link_rightly follows chain manner entry (Some at) = pick follows chain entry (is_directory_content at.content) (enters entry (folder_of manner.options entry (Some at))) (stays entry) tt tt

unfollowed_rightly : (follows : Bool) (chain : List Folder) (manner : Manner) (entry : DirEntry) (node : Option Node) → FailsRightly follows chain entry (seen_unfollowed manner entry node)
unfollowed_rightly follows chain manner entry node =
    let root = is_link entry.kind && nat_eq entry.depth 0 && manner.options.follow_root_links in
    pick follows chain entry (is_directory entry.kind) (seen_directory manner entry node) (cond root (seen_root_link manner entry node) (stays entry)) (directory_rightly follows chain entry manner entry node)
    (pick follows chain entry root (seen_root_link manner entry node) (stays entry) (root_link_rightly follows chain manner entry node) tt)

target_rightly : (follows : Bool) → IsTrue follows → (chain : List Folder) (manner : Manner) (entry : DirEntry) (node : Node) (ancestor : Option Folder) → ancestor_with (ident_of node) chain ≡ ancestor → FailsRightly follows chain entry (seen_target manner entry node ancestor)
target_rightly follows on chain manner entry node (Some folder) e = inr (entry.path, entry.depth, ident_of node, folder, refl, e, on)
target_rightly follows on chain manner entry node None e = directory_rightly follows chain entry manner (followed_entry entry node) (Some node)

link_rightly : (follows : Bool) → IsTrue follows → (chain : List Folder) (manner : Manner) (entry : DirEntry) (node : Option Node) → FailsRightly follows chain entry (seen_link manner chain entry node)
link_rightly follows on chain manner entry None = inl refl
link_rightly follows on chain manner entry (Some at) =
    pick follows chain entry (is_directory_content at.content) (seen_target manner entry at (ancestor_with (ident_of at) chain)) (stays (followed_entry entry at)) (target_rightly follows on chain manner entry at (ancestor_with (ident_of at) chain) refl) tt

pub seen_rightly : (chain : List Folder) (manner : Manner) (entry : DirEntry) (node : Option Node) → FailsRightly manner.options.follow_links chain entry (seen_by manner chain entry node)
seen_rightly chain manner entry node =
    let follows = manner.options.follow_links in
    pick_where follows chain entry follows (is_link entry.kind) (seen_link manner chain entry node) (seen_unfollowed manner entry node)
    (λ on. link_rightly follows on chain manner entry node) (unfollowed_rightly follows chain manner entry node)

-- what see tells of an error, by whether the disk tells its tree
pub record FailsFor (follows tells : Bool) (a b : ℕ) (entry : DirEntry) (chain : List Folder) (failed : Error) : Type 0 where
  pub later : a ≤ b
  pub untold : tells ≡ false → HasCauseAt follows a b entry chain failed
  pub at : Seen
  pub told : IsTrue tells → FailsAsSeen a b entry at failed
  pub rightly : FailsRightly follows chain entry at

module _ {S : Type 0} where
  pub fails_for : (tells : Bool) (s now : DiskState) (inside : Inside S) (chain : List Folder) (entry : DirEntry) (failed seen_as : Error) → failed ≡ seen_as → s.faults ≤ now.faults
      → (tells ≡ false → HasCauseAt inside.options.follow_links s.faults now.faults entry chain seen_as) → ByEachManner tells inside (λ manner. FailsAsSeen s.faults now.faults entry (seen s.tree manner chain entry) seen_as)
      → FailsFor inside.options.follow_links tells s.faults now.faults entry chain failed
  fails_for tells s now inside chain entry failed seen_as same later untold told =
      let manner : Manner = record { options = inside.options; sorts = false; compare = by_file_name; device = inside.device } in
      let F : Error → Type 0 = FailsAsSeen s.faults now.faults entry (seen s.tree manner chain entry) in
      let U : Error → Type 0 = HasCauseAt inside.options.follow_links s.faults now.faults entry chain in
      record {
        later = later;
        untold = λ e. subst U (sym same) (untold e);
        at = seen s.tree manner chain entry;
        told = λ tells_it. subst F (sym same) (told tells_it manner (record { options = refl; device = λ on. refl }));
        rightly = seen_rightly chain manner entry (node_to s.tree entry.path true);
      }

rightly_failed : (follows : Bool) (chain : List Folder) (entry : DirEntry) (at : Seen) (failed : Error) → at ≡ fails failed → FailsRightly follows chain entry at → (failed ≡ error.Absent entry.path entry.depth) ⊎ IsLoopIn follows chain failed
rightly_failed follows chain entry at failed e h = subst (FailsRightly follows chain entry) e h

pub error_allowed : (follows tells : Bool) (a b : ℕ) (entry : DirEntry) (chain : List Folder) (failed : Error) → FailsFor follows tells a b entry chain failed → IsAllowed (faults_told tells (Some (Err failed))) a b
error_allowed follows true a b entry chain failed h = by (h.told refl)
  where
    rest : (failed ≡ error.Absent entry.path entry.depth) ⊎ IsLoopIn follows chain failed → IsAllowed (faults_told true (Some (Err failed))) a b
    rest (inl e) = allowed_as true a b failed (error.Absent entry.path entry.depth) e (let le = h.later in inl (omega (arith, le)))
    rest (inr l) = allowed_loop follows true chain failed a b h.later l

    by : FailsAsSeen a b entry h.at failed → IsAllowed (faults_told true (Some (Err failed))) a b
    by (inl e) = allowed_as true a b failed error.NoMemory e (let le = h.later in inl (omega (arith, le)))
    by (inr (inl f)) = allowed_failure true entry failed a b f.0 f.1
    by (inr (inr e)) = rest (rightly_failed follows chain entry h.at failed e h.rightly)
error_allowed follows false a b entry chain failed h = by (h.untold refl)
  where
    by : HasCauseAt follows a b entry chain failed → IsAllowed (faults_told false (Some (Err failed))) a b
    by (inl e) = allowed_as false a b failed error.NoMemory e (let le = h.later in inl (omega (arith, le)))
    by (inr (inl f)) = allowed_failure false entry failed a b f.0 f.1
    by (inr (inr (inl f))) = allowed_as false a b failed (error.Absent entry.path entry.depth) f.0 (allowed_absent false entry.path entry.depth a b h.later (λ e. f.1))
    by (inr (inr (inr l))) = allowed_loop follows false chain failed a b h.later l

no_absent : (entry : DirEntry) (failed : Error) (path : List ℕ) (depth : ℕ) → failed ≡ error.Absent path depth → IsFailureAt entry failed → ⊥
no_absent entry failed path depth is (inl e) = let k : error.Disk (Some entry.path) entry.depth ≡ error.Absent path depth = sym e ∙ is in cc k
no_absent entry failed path depth is (inr e) = let k : error.Disk None entry.depth ≡ error.Absent path depth = sym e ∙ is in cc k

no_loop : (entry : DirEntry) (failed : Error) (path : List ℕ) (depth : ℕ) (ancestor : List ℕ) (ident : Ident) → failed ≡ error.Loop path depth ancestor ident → IsFailureAt entry failed → ⊥
no_loop entry failed path depth ancestor ident is (inl e) = let k : error.Disk (Some entry.path) entry.depth ≡ error.Loop path depth ancestor ident = sym e ∙ is in cc k
no_loop entry failed path depth ancestor ident is (inr e) = let k : error.Disk None entry.depth ≡ error.Loop path depth ancestor ident = sym e ∙ is in cc k

error_absent : (follows : Bool) (a b : ℕ) (entry : DirEntry) (chain : List Folder) (failed : Error) → HasCauseAt follows a b entry chain failed → (path : List ℕ) (depth : ℕ) → failed ≡ error.Absent path depth → a < b
error_absent follows a b entry chain failed (inl e) path depth is = absurd (let f : error.NoMemory ≡ error.Absent path depth = sym e ∙ is in cc f)
error_absent follows a b entry chain failed (inr (inl f)) path depth is = absurd (no_absent entry failed path depth is f.0)
error_absent follows a b entry chain failed (inr (inr (inl f))) path depth is = f.1
error_absent follows a b entry chain failed (inr (inr (inr l))) path depth is = absurd (let k : error.Loop l.0 l.1 l.3.path l.2 ≡ error.Absent path depth = sym l.4 ∙ is in cc k)

error_looped : (follows tells : Bool) (a b : ℕ) (entry : DirEntry) (chain : List Folder) (failed : Error) → FailsFor follows tells a b entry chain failed
    → (path : List ℕ) (depth : ℕ) (ancestor : List ℕ) (ident : Ident) → failed ≡ error.Loop path depth ancestor ident → IsLoopIn follows chain (error.Loop path depth ancestor ident)
error_looped follows true a b entry chain failed h path depth ancestor ident is = by (h.told refl)
  where
    rest : (failed ≡ error.Absent entry.path entry.depth) ⊎ IsLoopIn follows chain failed → IsLoopIn follows chain (error.Loop path depth ancestor ident)
    rest (inl e) = absurd (let f : error.Absent entry.path entry.depth ≡ error.Loop path depth ancestor ident = sym e ∙ is in cc f)
    rest (inr l) = subst (IsLoopIn follows chain) is l

    by : FailsAsSeen a b entry h.at failed → IsLoopIn follows chain (error.Loop path depth ancestor ident)
    by (inl e) = absurd (let f : error.NoMemory ≡ error.Loop path depth ancestor ident = sym e ∙ is in cc f)
    by (inr (inl f)) = absurd (no_loop entry failed path depth ancestor ident is f.0)
    by (inr (inr e)) = rest (rightly_failed follows chain entry h.at failed e h.rightly)
error_looped follows false a b entry chain failed h path depth ancestor ident is = by (h.untold refl)
  where
    by : HasCauseAt follows a b entry chain failed → IsLoopIn follows chain (error.Loop path depth ancestor ident)
    by (inl e) = absurd (let f : error.NoMemory ≡ error.Loop path depth ancestor ident = sym e ∙ is in cc f)
    by (inr (inl f)) = absurd (no_loop entry failed path depth ancestor ident is f.0)
    by (inr (inr (inl f))) = absurd (let k : error.Absent entry.path entry.depth ≡ error.Loop path depth ancestor ident = sym f.0 ∙ is in cc k)
    by (inr (inr (inr l))) = subst (IsLoopIn follows chain) is l

not_capped : (entry : DirEntry) (failed : Error) → IsFailureAt entry failed → failed ≡ error.TooMany → ⊥
not_capped entry failed (inl e) is = let k : error.Disk (Some entry.path) entry.depth ≡ error.TooMany = sym e ∙ is in cc k
not_capped entry failed (inr e) is = let k : error.Disk None entry.depth ≡ error.TooMany = sym e ∙ is in cc k

loop_not_capped : (follows : Bool) (chain : List Folder) (failed : Error) → IsLoopIn follows chain failed → failed ≡ error.TooMany → ⊥
loop_not_capped follows chain failed l is = let k : error.Loop l.0 l.1 l.3.path l.2 ≡ error.TooMany = sym l.4 ∙ is in cc k

error_uncapped : (follows tells : Bool) (a b : ℕ) (entry : DirEntry) (chain : List Folder) (failed : Error) → FailsFor follows tells a b entry chain failed → failed ≡ error.TooMany → ⊥
error_uncapped follows true a b entry chain failed h is = by (h.told refl)
  where
    rest : (failed ≡ error.Absent entry.path entry.depth) ⊎ IsLoopIn follows chain failed → ⊥
    rest (inl e) = let k : error.Absent entry.path entry.depth ≡ error.TooMany = sym e ∙ is in cc k
    rest (inr l) = loop_not_capped follows chain failed l is

    by : FailsAsSeen a b entry h.at failed → ⊥
    by (inl e) = let k : error.NoMemory ≡ error.TooMany = sym e ∙ is in cc k
    by (inr (inl f)) = not_capped entry failed f.0 is
    by (inr (inr e)) = rest (rightly_failed follows chain entry h.at failed e h.rightly)
error_uncapped follows false a b entry chain failed h is = by (h.untold refl)
  where
    by : HasCauseAt follows a b entry chain failed → ⊥
    by (inl e) = let k : error.NoMemory ≡ error.TooMany = sym e ∙ is in cc k
    by (inr (inl f)) = not_capped entry failed f.0 is
    by (inr (inr (inl f))) = let k : error.Absent entry.path entry.depth ≡ error.TooMany = sym f.0 ∙ is in cc k
    by (inr (inr (inr l))) = loop_not_capped follows chain failed l is

-- ---- what lies on top

pub top_not : (answer : Option Item) (level : Level) → (level.entries ≡ Unread → ⊥) → IsEnteredBy answer (Some level)
top_not answer level not_unread = λ on folder is unread in_it. absurd (not_unread (let e : level ≡ on = cc in ap (λ (l : Level). l.entries) e ∙ unread))

pub read_not : (e : Entries) → IsRead e → e ≡ Unread → ⊥
read_not e read unread = subst IsRead unread read

pub given_not : (e : Entries) (first : Option DirEntry) (old new : List Due) (due : Due) → IsFresh e first old → old ≡ new ++ due ∷ [] → e ≡ Unread → ⊥
given_not e first old new due h popped unread =
    let F : Entries → Type 0 = λ x. IsFresh x first old in
    let empty = (subst F unread h).1 in
    let a = ap length popped in
    let b = ap length empty in
    let c = length-append new (due ∷ []) in
    omega (arith, a, b, c)

pub first_not : (e : Entries) (first : Option DirEntry) (faults : List Due) (entry : DirEntry) → IsFresh e first faults → first ≡ Some entry → e ≡ Unread → ⊥
first_not e first faults entry h was unread =
    let F : Entries → Type 0 = λ x. IsFresh x first faults in
    let empty = (subst F unread h).0 in
    cc (was, empty)

shown_is : (b : Bool) (item met : DirEntry) → Some (Ok item) ≡ item_where b met → item ≡ met
shown_is true item met e = cc
shown_is false item met e = absurd (cc e)

pub counts_result : {E : Type 0} (tells : Bool) (s now last : DiskState) (x y z : List Level) (result : Result (Option Item) E) → s.faults ≤ now.faults → faults_due y ≡ faults_due x
    → IfOk result (λ answer. CountsFaults (faults_told tells answer) now y last z) → IfOk result (λ answer. CountsFaults (faults_told tells answer) s x last z)
counts_result tells s now last x y z (Ok answer) le e h = counts_from (faults_told tells answer) s now last x y z le e h
counts_result tells s now last x y z (Err failed) le e h = h

-- nothing was due of a level, and nothing is
pub due_cleared : (xs : List Level) (old new : Level) → old.faults.items ≡ [] → new.faults.items ≡ [] → faults_due (xs ++ new ∷ []) ≡ faults_due (xs ++ old ∷ [])
due_cleared xs old new was now = let a = due_snoc xs old in let b = due_snoc xs new in let c = ap length was in let d = ap length now in omega (arith, a, b, c, d)

module _ {S : Type 0} where
  -- the levels are still those of a walk over the tree
  pub still_fits : (tells : Bool) (compares_by : S → Comparison → Type 0) (sorts : S → Bool) (s now : DiskState) (old new : Inside S) (level : Level) → FitsTree tells compares_by s (sorts old.order) old
      → (IsTrue tells → (by : Comparison) (rest : Rest) → compares_by old.order by → HasRest s (sorts old.order) by old rest → MovesTo s (sorts old.order) by rest now new)
      → SameWalk old new → new.top ≡ Some level → FitsTree tells compares_by now (sorts new.order) (with_top new level)
  still_fits tells compares_by sorts s now old new level fits moved same top = λ told.
      let f = fits told in
      let m = moved told f.0 f.1 f.2 f.3 in
      let C : S → Type 0 = λ o. compares_by o f.0 in
      let H : Bool → Type 0 = λ b. HasRest now b f.0 (with_top new level) m.new in
      let has = rest_retop now (sorts old.order) f.0 new (with_top new level) m.new (record { options = refl; order = refl; root = refl }) refl (retop_levels new new level top refl) m.left in
      (f.0, m.new, subst C (sym same.order) f.2, subst H (sym (ap sorts same.order)) has)

  pub entered_by : (inside new : Inside S) (level : Level) (met : DirEntry) (folder : Folder) (given : Option DirEntry) (item : DirEntry) → Enters inside level met folder new given → given ≡ Some item → IsFolderOf met folder
      → IsEnteredBy (Some (Ok item)) new.top
  entered_by inside new level met folder given item e is at = λ on in_it top unread folder_is.
      let lies : Some e.opened ≡ Some on = sym e.top ∙ top in
      let same : e.opened ≡ on = cc lies in
      let folders : Some folder ≡ Some in_it = sym e.folder_is ∙ (ap (λ (l : Level). l.folder) same ∙ folder_is) in
      let one : folder ≡ in_it = cc folders in
      let shown : item ≡ met = shown_is _ item met (ap (option_map item_of) (sym is) ∙ e.before) in
      (met, ap (λ (x : DirEntry). Some (Ok x)) shown, subst (IsFolderOf met) one at)

  -- ---- causes of answers

  pub caused_none : (tells : Bool) (s now : DiskState) (inside : Inside S) → IsCaused tells s now None inside
  caused_none tells s now inside = record {
    absent = λ untold path depth e. absurd (cc e);
    looped = λ path depth ancestor ident e. absurd (cc e);
    uncapped = λ e. cc e;
    entered = λ some. absurd (some refl);
  }

  pub caused_ok : (tells : Bool) (s now : DiskState) (entry : DirEntry) (inside : Inside S) → IsEnteredBy (Some (Ok entry)) inside.top → IsCaused tells s now (Some (Ok entry)) inside
  caused_ok tells s now entry inside entered = record {
    absent = λ untold path depth e. absurd (cc e);
    looped = λ path depth ancestor ident e. absurd (cc e);
    uncapped = λ e. cc e;
    entered = λ some. entered;
  }

  pub caused_disk : (tells : Bool) (s now : DiskState) (path : Option (List ℕ)) (depth : ℕ) (inside : Inside S) → IsEnteredBy (Some (Err (error.Disk path depth))) inside.top → IsCaused tells s now (Some (Err (error.Disk path depth))) inside
  caused_disk tells s now path depth inside entered = record {
    absent = λ untold p d e. absurd (cc e);
    looped = λ p d ancestor ident e. absurd (cc e);
    uncapped = λ e. cc e;
    entered = λ some. entered;
  }

  pub caused_begin : (tells : Bool) (s now : DiskState) (o : Options) (root : List ℕ) (failed : Error) (inside : Inside S) → CannotBegin tells s now o root failed → IsEnteredBy (Some (Err failed)) inside.top → IsCaused tells s now (Some (Err failed)) inside
  caused_begin tells s now o root failed inside cause entered = record {
    absent = λ untold path depth e. begin_absent tells s now o root failed cause untold path depth (let k : failed ≡ error.Absent path depth = cc e in k);
    looped = λ path depth ancestor ident e. absurd (begin_looped tells s now o root failed cause path depth ancestor ident (let k : failed ≡ error.Loop path depth ancestor ident = cc e in k));
    uncapped = λ e. begin_uncapped tells s now o root failed cause (let k : failed ≡ error.TooMany = cc e in k);
    entered = λ some. entered;
  }

  pub caused_met : (tells : Bool) (s now : DiskState) (entry : DirEntry) (failed : Error) (inside : Inside S) → FailsFor inside.options.follow_links tells s.faults now.faults entry (chain_of inside) failed → IsEnteredBy (Some (Err failed)) inside.top
      → IsCaused tells s now (Some (Err failed)) inside
  caused_met tells s now entry failed inside h entered = record {
    absent = λ untold path depth e. error_absent inside.options.follow_links s.faults now.faults entry (chain_of inside) failed (h.untold untold) path depth (let k : failed ≡ error.Absent path depth = cc e in k);
    looped = λ path depth ancestor ident e. error_looped inside.options.follow_links tells s.faults now.faults entry (chain_of inside) failed h path depth ancestor ident (let k : failed ≡ error.Loop path depth ancestor ident = cc e in k);
    uncapped = λ e. error_uncapped inside.options.follow_links tells s.faults now.faults entry (chain_of inside) failed h (let k : failed ≡ error.TooMany = cc e in k);
    entered = λ some. entered;
  }

  pub caused_later : (tells : Bool) (s now last : DiskState) (answer : Option Item) (inside : Inside S) → s.faults ≤ now.faults → IsCaused tells now last answer inside → IsCaused tells s last answer inside
  caused_later tells s now last answer inside le h = record {
    absent = λ untold path depth e. (let l = h.absent untold path depth e in omega (arith, le, l));
    looped = h.looped;
    uncapped = h.uncapped;
    entered = h.entered;
  }

  pub caused_result : {E : Type 0} (tells : Bool) (s now last : DiskState) (result : Result (Option Item) E) (inside : Inside S) → s.faults ≤ now.faults → IfOk result (λ answer. IsCaused tells now last answer inside)
      → IfOk result (λ answer. IsCaused tells s last answer inside)
  caused_result tells s now last (Ok answer) inside le h = caused_later tells s now last answer inside le h
  caused_result tells s now last (Err failed) inside le h = h

  pub enters_due : (inside new : Inside S) (level : Level) (met : DirEntry) (folder : Folder) (given : Option DirEntry) → Enters inside level met folder new given → faults_due (levels_of new) ≡ faults_due (inside.stack.items ++ level ∷ [])
  enters_due inside new level met folder given e =
      let levels : levels_of new ≡ (inside.stack.items ++ e.raised ∷ []) ++ e.opened ∷ [] = ap (λ (o : Option Level). new.stack.items ++ top_levels o) e.top ∙ ap (λ (ys : List Level). ys ++ e.opened ∷ []) e.stack in
      let raised : length e.raised.faults.items ≡ length level.faults.items = ap (λ (l : Level). length l.faults.items) e.raised_is in
      let a = ap faults_due levels in
      let b = due_snoc (inside.stack.items ++ e.raised ∷ []) e.opened in
      let c = due_snoc inside.stack.items e.raised in
      let d = due_snoc inside.stack.items level in
      let f = ap length e.faultless in
      omega (arith, a, b, c, d, f, raised)

  pub no_level : (inside : Inside S) (level : Level) → levels_of inside ≡ [] → inside.top ≡ Some level → ⊥
  no_level inside level gone top =
      let a : length (inside.stack.items ++ level ∷ []) ≡ 0 = ap (λ (t : Option Level). length (inside.stack.items ++ top_levels t)) (sym top) ∙ ap length gone in
      let b = length-append inside.stack.items (level ∷ []) in
      omega (arith, a, b)
