-- One file of a plan, seen by its place, and how its rewriting ends.
use Rattle.std.proofs.Common.{◌≡◌, ◌≢◌, ◌⊎◌, ◌↔◌, ℕ, Bool, true, false, cond, List, [], ◌∷◌, map, refl, sym, ap, subst, ◌∙◌, inl, inr}
use Rattle.std.specs.Prelude.{Option, Some, None, IsSome, IsTrue, is_some, Ok, Err, IsOk, All, Contains}
use Rattle.std.specs.List.{AllZip}
use Rattle.std.specs.Option.{option_and_then}
use Rattle.std.specs.Str.{bytes_eq}
use Rattle.std.specs.Cmp.Lexicographic.{bytes_decides}
use Rattle.std.proofs.lemmas.Option.{same_Some}
use Rattle.std.proofs.lemmas.List.Elements.{All-head, All-tail}
use Rattle.sd_io.specs.Tree.{NameList, Node, Tree, node_at, file_at}
use Rattle.sd_io.specs.Paths.{reached}
use Rattle.sd_io.specs.Disk.{DiskState}
use Rattle.sd_io.specs.Crashes.{LeavesSince, IsDurable}
use Rattle.sd_io.proofs.WayLemmas.{same_or_other}
use Rattle.sd_io.proofs.CrashLemmas.{since_more}
use Rattle.sd_change.specs.Change.{Change, FileChange, IsOne}
use Rattle.file_exchange.specs.Reserved.{Free, FirstFree}
use Rattle.file_rewrite.specs.Rewritten.{IsOld, IsNew, IsOldOrNew, IsLeft}
use Rattle.file_rewrite.specs.OneFile.{RewritesFile, LeavesFile, IsNewAt, IsFirstFreeBy}
use Rattle.file_rewrite.specs.declared.rewrite.Rewrite.{Rewrite}
use Rattle.file_rewrite.specs.declared.fault.JobFault.{JobFault}
use Rattle.file_rewrite.specs.declared.fault.JobFault.TheVariants as job
use Rattle.many_files.specs.Files.{IsFreeBeside}
use Rattle.many_files.specs.Rewritten.{LeavesEach, IsNewOne, IsChangedOne}
use Rattle.many_files.specs.Counts.{change_count, changed_by, replaced_by}
use Rattle.many_files.specs.OneFile.{OneEnd, ReplacesOne}
use Rattle.many_files.proofs.MemberLemmas.{in_from_contains, contains_from_in, none_in}
use Rattle.many_files.proofs.KeepLemmas.{KeepsAll, one_keeps, some_or_not}
use Rattle.many_files.proofs.TurnLemmas.{old_left}
use Rattle.sd_plan.specs.Sha256.{sha256}
use Rattle.sd_plan.specs.declared.line.PlanLine.{PlanLine}
use Rattle.planned_files.specs.Planned.{path_of}
use Rattle.planned_files.specs.Checked.{IsRight}
use Rattle.planned_files.specs.Applied.{IsApplied, CountsLine}

-- ---- a file becomes one thing

pub one_file_change : (change : Change) → IsOne change → IsOne (FileChange change)
one_file_change change one [] new others m n a b = (a.0 ∙ sym b.0, a.1 ∙ sym b.1)
one_file_change change one (byte ∷ bytes) new others m n a b = one (byte ∷ bytes) new others m n a b

-- ---- members

pub in_rest : (place : NameList) (places : List NameList) (q : NameList) → Contains places q → Contains (place ∷ places) q
in_rest place places q c = contains_from_in (place ∷ places) q (inr (in_from_contains places q c))

pub is_first : (place : NameList) (places : List NameList) (q : NameList) → q ≡ place → Contains (place ∷ places) q
is_first place places q e = contains_from_in (place ∷ places) q (inl (sym e))

pub first_or_rest : (place : NameList) (places : List NameList) (q : NameList) → Contains (place ∷ places) q → (q ≡ place) ⊎ Contains places q
first_or_rest place places q c = elim (in_from_contains (place ∷ places) q c) [ inl e ↦ inl (sym e) | inr i ↦ inr (contains_from_in places q i) ]

-- ---- lines that are right, each at its place

pub record IsRightAt (change : Change) (tree : Tree) (line : PlanLine) (place : NameList) : Type 0 where
  pub leads : reached tree line.path true ≡ Some place
  pub bytes : List ℕ
  pub mode : ℕ
  pub was : file_at tree place ≡ Some (bytes, mode)
  pub before : line.before ≡ sha256 bytes
  pub new_bytes : List ℕ
  pub count : ℕ
  pub new_bytes_are : FileChange change bytes new_bytes count
  pub after : line.after ≡ sha256 new_bytes

pub right_at : (change : Change) (tree : Tree) (lines : List PlanLine) (places : List NameList) → All (IsRight change tree) lines
    → map (λ path. reached tree path true) (map path_of lines) ≡ map (λ place. Some place) places → AllZip (IsRightAt change tree) lines places
right_at change tree [] [] right lead = tt
right_at change tree [] (place ∷ places) right lead = cc
right_at change tree (line ∷ lines) [] right lead = cc
right_at change tree (line ∷ lines) (place ∷ places) right lead =
    let here = All-head (IsRight change tree) line lines right in
    let first : reached tree line.path true ≡ Some place = cc in
    let rest : map (λ path. reached tree path true) (map path_of lines) ≡ map (λ place. Some place) places = cc in (
      record {
        leads = first;
        bytes = here.bytes;
        mode = here.mode;
        was = sym (ap (option_and_then (file_at tree)) first) ∙ here.is_file;
        before = here.before;
        new_bytes = here.new_bytes;
        count = here.count;
        new_bytes_are = here.new_bytes_are;
        after = here.after;
      },
      right_at change tree lines places (All-tail (IsRight change tree) line lines right) rest,
    )

-- a file stands at each place
pub place_file : (change : Change) (tree : Tree) (lines : List PlanLine) (places : List NameList) → AllZip (IsRightAt change tree) lines places → (q : NameList) → Contains places q → IsSome (file_at tree q)
place_file change tree [] [] right q c = absurd (none_in q c)
place_file change tree [] (place ∷ places) right q c = absurd right
place_file change tree (line ∷ lines) [] right q c = absurd right
place_file change tree (line ∷ lines) (place ∷ places) (first, right) q c = elim (first_or_rest place places q c) [
  | inl e ↦ subst (λ (p : NameList). IsSome (file_at tree p)) (sym e) (ap is_some first.was)
  | inr rest ↦ place_file change tree lines places right q rest
]

-- ---- one file, seen by its place

-- what came of a line: it is applied, or its file is left
abbrev pub EndsSo : Change → Tree → Tree → PlanLine → NameList → OneEnd → Type 0
EndsSo change old new line place (Ok rewrite) = IsApplied change old new line place
EndsSo change old new line place (Err failed) = IsLeft (FileChange change) old new place failed

old_or_new : (change : Change) (old new : Tree) (place : NameList) (failed : JobFault) → IsLeft change old new place failed → IsOldOrNew change old new place
old_or_new change old new place (job.File fault) left = inl left
old_or_new change old new place (job.TempfilePersist fault) left = left
old_or_new change old new place job.InvalidPath left = inl left
old_or_new change old new place job.TempName left = inl left
old_or_new change old new place job.NoMemory left = left

pub no_node : (o : Option Node) → o ≡ None → IsSome o → ⊥
no_node None e is = cc
no_node (Some node) e is = cc

counts_so : (b c : Bool) → (b ≡ true → c ≡ true → ⊥) → (b ≡ false → c ≡ false → ⊥) → ◌≡◌ {A = ℕ} (cond b 1 0) (cond c 0 1)
counts_so true true both neither = absurd (both refl refl)
counts_so true false both neither = refl
counts_so false true both neither = refl
counts_so false false both neither = absurd (neither refl refl)

-- a rewriting counts as its file does
pub one_or_none : (flag : Bool) (bytes new_bytes : List ℕ) → IsTrue flag ↔ (new_bytes ≢ bytes) → cond flag 1 0 ≡ change_count bytes new_bytes
one_or_none flag bytes new_bytes is =
    counts_so flag (bytes_eq new_bytes bytes) (λ changed same. is.0 changed ((bytes_decides new_bytes bytes).0 same))
    (λ kept differs. (let changed : flag ≡ true = is.1 (λ e. (let same = (bytes_decides new_bytes bytes).1 e in cc)) in cc))

-- one of the places, and its file
abbrev pub At : NameList → NameList → Type 0
At place q = q ≡ place

-- the first free name is a free one
free_too : {tree : Tree} {folder q : NameList} → FirstFree tree folder q → Free tree folder q
free_too first = record { reserved = first.reserved; free = first.free }

module _ (change : Change) (path : List ℕ) (old new : DiskState) (place : NameList) (leads : reached old.tree path true ≡ Some place) where
  pub keeps : (result : OneEnd) → ReplacesOne change path result old new → KeepsAll old.tree new.tree
  keeps result one = one_keeps change path result old new one.rewritten one.left

  -- what the path leads to
  is_place : (q : NameList) → reached old.tree path true ≡ Some q → q ≡ place
  is_place q to = same_Some q place (sym to ∙ leads)

  -- what is free was free
  pub free_before : (result : OneEnd) → ReplacesOne change path result old new → (q : NameList) → node_at new.tree q ≡ None → node_at old.tree q ≡ None
  free_before result one q free = by (node_at old.tree q) refl
    where
      by : (o : Option Node) → node_at old.tree q ≡ o → node_at old.tree q ≡ None
      by None e = e
      by (Some node) e = absurd (no_node (node_at new.tree q) free ((keeps result one).stands q (ap is_some e)))

  others_left : (failed : JobFault) → LeavesFile change path failed old new → (q : NameList) → q ≢ place → IsSome (node_at old.tree q) → node_at new.tree q ≡ node_at old.tree q
  others_left failed (inl same) q apart stood = ap (λ (t : Tree). node_at t q) same.tree
  others_left failed (inr l) q apart stood =
      l.others q (λ e. apart (e ∙ is_place l.place l.leads)) (λ is. no_node (node_at old.tree q) (l.was_free q is).free stood)

  -- what stood elsewhere stands as it did
  pub stays : (result : OneEnd) → ReplacesOne change path result old new → (q : NameList) → q ≢ place → IsSome (node_at old.tree q) → node_at new.tree q ≡ node_at old.tree q
  stays (Ok rewrite) one q apart stood = one.rewritten.others q (λ e. apart (e ∙ is_place one.rewritten.place one.rewritten.leads))
  stays (Err failed) one q apart stood = others_left failed one.left q apart stood

  -- where it is rewritten, all else is as it was
  pub others : (result : OneEnd) → ReplacesOne change path result old new → IsOk result → (q : NameList) → q ≢ place → node_at new.tree q ≡ node_at old.tree q
  others (Ok rewrite) one done q apart = one.rewritten.others q (λ e. apart (e ∙ is_place one.rewritten.place one.rewritten.leads))
  others (Err failed) one done q apart = cc

  -- ---- what stands there

  was_here : (rewrite : Rewrite) (r : RewritesFile change path rewrite old new) → file_at old.tree place ≡ Some (r.bytes, r.mode)
  was_here rewrite r = ap (file_at old.tree) (sym (is_place r.place r.leads)) ∙ r.was

  holds_here : (rewrite : Rewrite) (r : RewritesFile change path rewrite old new) → file_at new.tree place ≡ Some (r.new_bytes, r.mode)
  holds_here rewrite r = ap (file_at new.tree) (sym (is_place r.place r.leads)) ∙ r.holds

  new_here : (rewrite : Rewrite) → RewritesFile change path rewrite old new → IsNew (FileChange change) old.tree new.tree place
  new_here rewrite r = record {
    bytes = r.bytes;
    mode = r.mode;
    was = was_here rewrite r;
    new_bytes = r.new_bytes;
    count = rewrite.replaced;
    new_bytes_are = r.new_bytes_are;
    holds = holds_here rewrite r;
  }

  left_here : (failed : JobFault) → LeavesFile change path failed old new → IsLeft (FileChange change) old.tree new.tree place failed
  left_here failed (inl same) = old_left (FileChange change) old.tree new.tree place failed (ap (λ (t : Tree). node_at t place) same.tree)
  left_here failed (inr l) = subst (λ (q : NameList). IsLeft (FileChange change) old.tree new.tree q failed) (is_place l.place l.leads) l.left

  however_left : (failed : JobFault) → LeavesFile change path failed old new → LeavesEach (At place) (FileChange change) old.tree new.tree
  however_left failed (inl same) q = inl (ap (λ (t : Tree). node_at t q) same.tree)
  however_left failed (inr l) q = elim (same_or_other q l.place) [
    | inl here ↦ elim (old_or_new (FileChange change) old.tree new.tree l.place failed l.left) [
      | inl is_old ↦ inl (subst (IsOld old.tree new.tree) (sym here) is_old)
      | inr is_new ↦ inr (inl (here ∙ is_place l.place l.leads, subst (IsNew (FileChange change) old.tree new.tree) (sym here) is_new))
    ]
    | inr apart ↦ elim (some_or_not l.temporary q) [
      | inl is ↦ inr (inr (l.place, is_place l.place l.leads, free_too (l.was_free q is)))
      | inr elsewhere ↦ inl (l.others q apart elsewhere)
    ]
  ]

  pub however_here : (result : OneEnd) → ReplacesOne change path result old new → LeavesEach (At place) (FileChange change) old.tree new.tree
  however_here (Ok rewrite) one q = elim (same_or_other q place) [
    | inl here ↦ inr (inl (here, subst (IsNew (FileChange change) old.tree new.tree) (sym here) (new_here rewrite one.rewritten)))
    | inr apart ↦ inl (others (Ok rewrite) one refl q apart)
  ]
  however_here (Err failed) one q = however_left failed one.left q

  -- ---- what a crash leaves

  pub crash_here : (result : OneEnd) → ReplacesOne change path result old new
      → LeavesSince (IsNewOne (At place) (FileChange change) old.tree) (IsFreeBeside (At place) old.tree) old new
  crash_here result one =
      since_more (IsNewAt change old.tree path) (IsNewOne (At place) (FileChange change) old.tree) (IsFirstFreeBy old.tree path) (IsFreeBeside (At place) old.tree) old new
      (λ q content n. (is_place q n.0, n.1)) (λ q aside. (aside.place, is_place aside.place aside.leads, free_too aside.first)) one.crash

  pub durable_here : (result : OneEnd) → ReplacesOne change path result old new → IsOk result → IsDurable (IsChangedOne (At place) (FileChange change) old.tree) old new
  durable_here (Ok rewrite) one done = record {
    there = λ q content n found l. one.durable.there q content (leads ∙ ap (λ (p : NameList). Some p) (sym n.0), n.1) found l;
    elsewhere = λ q none found l. one.durable.elsewhere q (λ content n. none content (is_place q n.0, n.1)) found l;
  }
  durable_here (Err failed) one done = cc

  -- ---- what came of the line

  module _ (one_change : IsOne change) (line : PlanLine) (right : IsRightAt change old.tree line place) where
    -- what it was rewritten to is what it becomes
    same_bytes : (rewrite : Rewrite) (r : RewritesFile change path rewrite old new) → r.bytes ≡ right.bytes
    same_bytes rewrite r =
        ap (λ (p : List ℕ × ℕ). p.0) (same_Some (r.bytes, r.mode) (right.bytes, right.mode) (sym (was_here rewrite r) ∙ right.was))

    applied_here : (rewrite : Rewrite) → RewritesFile change path rewrite old new → IsApplied change old.tree new.tree line place
    applied_here rewrite r =
        let bytes = same_bytes rewrite r in
        let done = subst (λ (b : List ℕ). FileChange change b r.new_bytes rewrite.replaced) bytes r.new_bytes_are in
        let same = one_file_change change one_change right.bytes r.new_bytes right.new_bytes rewrite.replaced right.count done right.new_bytes_are in
        record {
          bytes = right.bytes;
          mode = r.mode;
          was = was_here rewrite r ∙ ap (λ (b : List ℕ). Some (b, r.mode)) bytes;
          before = right.before;
          new_bytes = r.new_bytes;
          count = rewrite.replaced;
          new_bytes_are = done;
          after = right.after ∙ ap sha256 (sym same.0);
          holds = holds_here rewrite r;
        }

    pub ends_here : (result : OneEnd) → ReplacesOne change path result old new → EndsSo change old.tree new.tree line place result
    ends_here (Ok rewrite) one = applied_here rewrite one.rewritten
    ends_here (Err failed) one = left_here failed one.left

    pub counts_here : (result : OneEnd) → ReplacesOne change path result old new → IsOk result → path ≡ line.path → CountsLine change old.tree line (changed_by result) (replaced_by result)
    counts_here (Ok rewrite) one done of =
        let r = one.rewritten in
        record {
          bytes = r.bytes;
          mode = r.mode;
          is_file = ap (option_and_then (file_at old.tree)) (ap (λ (p : List ℕ). reached old.tree p true) (sym of) ∙ leads) ∙ was_here rewrite r;
          new_bytes = r.new_bytes;
          new_bytes_are = r.new_bytes_are;
          changed_is = one_or_none rewrite.changed r.bytes r.new_bytes r.changed;
        }
    counts_here (Err failed) one done of = cc
