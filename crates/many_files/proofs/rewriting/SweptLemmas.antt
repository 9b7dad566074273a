-- The files that were rewritten so far.
use Rattle.std.proofs.Common.{◌≡◌, ◌≢◌, ◌↔◌, ℕ, ◌+◌, ◌≤◌, ◌^◌, Bool, true, false, cond, List, [], ◌∷◌, ◌++◌, map, take, drop, length, refl, sym, ◌∙◌, ap, subst, inl, inr, arith}
use Rattle.std.specs.Prelude.{Option, Some, None, IsTrue, Contains, All, Result, Ok, Err, IfOk, IfErr, OnOk}
use Rattle.std.specs.Str.{bytes_eq}
use Rattle.std.specs.Cmp.Lexicographic.{bytes_decides}
use Rattle.std.proofs.lemmas.List.{append-nil, map_push, length_push, take-append-drop}
use Rattle.std.proofs.lemmas.List.Elements.{All-nil, All-push, Contains-append_left, Contains-push, Contains-push_cases}
use Rattle.std.proofs.lemmas.Option.{same_Some}
use Rattle.sd_io.specs.Tree.{NameList, Content, Tree, file_node, file_at, IsNonemptyFile}
use Rattle.sd_io.specs.Paths.{reached}
use Rattle.sd_io.specs.Files.{file_of}
use Rattle.sd_io.specs.Disk.{DiskState}
use Rattle.sd_io.specs.Crashes.{LeavesSince, IsDurable}
use Rattle.sd_io.proofs.PathTextLemmas.{differs}
use Rattle.sd_change.specs.Change.{Change, FileChange}
use Rattle.sd_course.specs.Course.{course}
use Rattle.file_rewrite.specs.Paths.{IsNoPath}
use Rattle.file_rewrite.specs.Rewritten.{IsChangedFile}
use Rattle.file_rewrite.specs.OneFile.{RewritesFile, LeavesFile, HasFileCause, IsNewAt, IsChangedAt, IsFirstFreeBy}
use Rattle.file_rewrite.specs.declared.rewrite.Rewrite.{Rewrite}
use Rattle.file_rewrite.specs.declared.fault.JobFault.{JobFault}
use Rattle.many_files.specs.Files.{ListsFiles}
use Rattle.many_files.specs.Rewritten.{IsChangedOne}
use Rattle.many_files.specs.Counts.{change_count, CountsFile, CountsFiles, changed_by, replaced_by}
use Rattle.many_files.specs.Jobs.{Job, failed_of, end_of}
use Rattle.many_files.specs.Turns.{Turn, path_of, place_of, failed_turns}
use Rattle.many_files.proofs.rewriting.MemberLemmas.{none_in}
use Rattle.many_files.proofs.rewriting.WayLemmas.{still_leads}
use Rattle.many_files.proofs.rewriting.FileLemmas.{IsNextFile, a_file, file_stands, same_nonempty}
use Rattle.many_files.proofs.rewriting.TurnLemmas.{DoesTurn, plain, file_there, leads_to_file, done_turn, refused_turn}
use Rattle.many_files.proofs.rewriting.TurnsLemmas.{AreTurns, no_turns, keeps_ways, kept, one_more}
use Rattle.many_files.proofs.rewriting.JobLemmas.{failed_more}

-- ---- counts

-- one more file adds its counts
counts_more : (change : Change) (tree : Tree) (places : List NameList) (place : NameList) (changed replaced one count now_changed now_replaced : ℕ) → CountsFiles change tree places changed replaced
    → CountsFile change tree place one count → now_changed ≡ changed + one → now_replaced ≡ replaced + count → CountsFiles change tree (places ++ place ∷ []) now_changed now_replaced
counts_more change tree [] place changed replaced one count now_changed now_replaced none this c r =
    (one, count, 0, 0, this, (refl, refl), omega (arith, none.0), omega (arith, none.1))
counts_more change tree (first ∷ places) place changed replaced one count now_changed now_replaced (fc, fr, more_c, more_r, it, rest, cs, rs) this c r =
    (fc, fr, more_c + one, more_r + count, it, counts_more change tree places place more_c more_r one count (more_c + one) (more_r + count) rest this refl refl, omega (arith, cs), omega (arith, rs))

-- whether a file's bytes change
change_is : (flag : Bool) (bytes new_bytes : List ℕ) → IsTrue flag ↔ (new_bytes ≢ bytes) → ◌≡◌ {A = ℕ} (cond flag 1 0) (change_count bytes new_bytes)
change_is true bytes new_bytes h = sym (ap (λ b. cond b 0 1) (differs new_bytes bytes (h.0 refl)))
change_is false bytes new_bytes h = by (bytes_eq new_bytes bytes) refl
  where
    by : (b : Bool) → bytes_eq new_bytes bytes ≡ b → ◌≡◌ {A = ℕ} 0 (cond b 0 1)
    by true e = refl
    by false e =
        let other : new_bytes ≢ bytes = λ same. (let yes : bytes_eq new_bytes bytes ≡ true = (bytes_decides new_bytes bytes).1 same in cc) in
        let wrong : false ≡ true = h.1 other in
        cc

-- one file adds at most one to the files that change, and few spans
one_or_none : (flag : Bool) → cond flag 1 0 ≤ 1
one_or_none true = omega arith
one_or_none false = omega arith

pub few_changed : (result : Result Rewrite JobFault) → changed_by result ≤ 1
few_changed (Ok rewrite) = one_or_none rewrite.changed
few_changed (Err fault) = omega arith

pub few_replaced : (result : Result Rewrite JobFault) → IfOk result (λ rewrite. rewrite.replaced ≤ 2 ^ 64) → replaced_by result ≤ 2 ^ 64
few_replaced (Ok rewrite) few = few
few_replaced (Err fault) few = omega arith

-- ---- the state of a sweep

-- the path of a turn leads to its place
abbrev pub Leads : Tree → Turn → Type 0
Leads tree turn = reached tree turn.path true ≡ Some turn.place

-- these paths are done, and these jobs failed; where none did, the files so far are counted and on the medium
pub record IsSweptTo (change : Change) (s0 : DiskState) (places : List NameList) (done : List (List ℕ)) (jobs : List Job) (changed replaced : ℕ) (s : DiskState) : Type 0 where
  pub turns : List Turn
  pub paths_are : map path_of turns ≡ done
  pub places_are : map place_of turns ≡ take (length done) places
  pub jobs_are : jobs ≡ failed_turns turns
  pub leads : All (Leads s0.tree) turns
  pub are : AreTurns change s0 s turns
  pub counts : jobs ≡ [] → CountsFiles change s0.tree (map place_of turns) changed replaced
  pub durable : jobs ≡ [] → IsDurable (IsChangedOne (Contains (map place_of turns)) change s0.tree) s0 s

-- none at first
pub swept_none : (change : Change) (places : List NameList) (jobs : List Job) (changed replaced : ℕ) (s : DiskState) → jobs ≡ [] → changed ≡ 0 → replaced ≡ 0
    → IsSweptTo change s places [] jobs changed replaced s
swept_none change places jobs changed replaced s none c r = record {
  turns = [];
  paths_are = refl;
  places_are = refl;
  jobs_are = none;
  leads = All-nil (Leads s.tree);
  are = no_turns change s;
  counts = λ e. (c, r);
  durable = λ e. record { there = λ q content n found l. absurd (none_in q n.0); elsewhere = λ q n found l. l };
}

-- what a front of a list has, the list has
in_front : (n : ℕ) (places : List NameList) (place : NameList) → Contains (take n places) place → Contains places place
in_front n places place c =
    subst (λ (list : List NameList). Contains list place) (take-append-drop n places) (Contains-append_left (take n places) (drop n places) place c)

not_none : (jobs : List Job) (failed : Job) → jobs ++ failed ∷ [] ≡ [] → ⊥
not_none [] failed e = cc
not_none (first ∷ jobs) failed e = cc

-- a nonempty file's change is that of its bytes
as_file_change : (change : Change) (tree : Tree) (place : NameList) (bytes new : List ℕ) (mode n : ℕ) → IsNonemptyFile tree place → file_at tree place ≡ Some (bytes, mode) → change bytes new n → FileChange change bytes new n
as_file_change change tree place bytes new mode n (byte, rest, m, e) was f =
    let pair = same_Some (bytes, mode) (byte ∷ rest, m) (sym was ∙ e) in
    let is : bytes ≡ byte ∷ rest = ap (λ (p : List ℕ × ℕ). p.0) pair in
    subst (λ (b : List ℕ). FileChange change b new n) (sym is) (subst (λ (b : List ℕ). change b new n) is f)

module _ (change : Change) (s0 s1 : DiskState) (paths : List (List ℕ)) (places : List NameList) (listed : ListsFiles s0.tree paths places) (done : List (List ℕ)) (jobs : List Job) (changed replaced : ℕ)
    (so : IsSweptTo change s0 places done jobs changed replaced s1) where
  -- the places so far are those of files
  pub files : (q : NameList) → Contains (map place_of so.turns) q → IsNonemptyFile s0.tree q
  files q c = listed.are_files q (in_front (length done) places q (subst (λ (list : List NameList). Contains list q) so.places_are c))

  module _ (path : List ℕ) (next : IsNextFile s0.tree places (length done) path) where
    is_new : Contains (map place_of so.turns) next.place → ⊥
    is_new c = next.is_new (subst (λ (list : List NameList). Contains list next.place) so.places_are c)

    kept_file : file_at s1.tree next.place ≡ file_at s0.tree next.place
    kept_file = ap file_node (kept change s0 s1 so.turns so.are files next.place next.is_file is_new)

    file_now : IsNonemptyFile s1.tree next.place
    file_now = same_nonempty s0.tree s1.tree next.place (kept change s0 s1 so.turns so.are files next.place next.is_file is_new) next.is_file

    -- the next path still leads to its file
    leads_now : reached s1.tree path true ≡ Some next.place
    leads_now = still_leads (keeps_ways change s0 s1 so.turns so.are files) path true next.place next.leads (file_stands s1.tree next.place (a_file s1.tree next.place file_now))

    module _ (s2 : DiskState) where
      counts_file : (rewrite : Rewrite) → RewritesFile change path rewrite s1 s2 → CountsFile change s0.tree next.place (cond rewrite.changed 1 0) rewrite.replaced
      counts_file rewrite r =
          let here = file_there change path next.place s1 s2 leads_now file_now r.place r.leads in
          let was : file_at s1.tree next.place ≡ Some (r.bytes, r.mode) = ap (file_at s1.tree) (sym here) ∙ r.was in
          record {
            bytes = r.bytes;
            mode = r.mode;
            is_file = sym kept_file ∙ was;
            new_bytes = r.new_bytes;
            new_bytes_are = plain change s1.tree next.place r.bytes r.new_bytes r.mode rewrite.replaced file_now was r.new_bytes_are;
            changed_is = change_is rewrite.changed r.bytes r.new_bytes r.changed;
          }

      -- what changes now is what changed at first
      changed_now : (q : NameList) (content : Content) → q ≡ next.place → IsChangedFile change s0.tree q content → IsChangedAt change s1.tree path q content
      changed_now q content e n =
          let was : file_at s1.tree q ≡ Some (n.bytes, n.mode) = ap (file_at s1.tree) e ∙ kept_file ∙ ap (file_at s0.tree) (sym e) ∙ n.was in (
            leads_now ∙ ap (λ (p : NameList). Some p) (sym e),
            record {
              bytes = n.bytes;
              mode = n.mode;
              was = was;
              new_bytes = n.new_bytes;
              count = n.count;
              new_bytes_are = as_file_change change s1.tree q n.bytes n.new_bytes n.mode n.count (subst (IsNonemptyFile s1.tree) (sym e) file_now) was n.new_bytes_are;
              differ = n.differ;
              content_is = n.content_is;
            },
          )

      changed_before : (q : NameList) (content : Content) → q ≡ next.place → IsChangedAt change s1.tree path q content → IsChangedFile change s0.tree q content
      changed_before q content e (leads_q, n) = record {
        bytes = n.bytes;
        mode = n.mode;
        was = ap (file_at s0.tree) e ∙ sym kept_file ∙ ap (file_at s1.tree) (sym e) ∙ n.was;
        new_bytes = n.new_bytes;
        count = n.count;
        new_bytes_are = plain change s1.tree q n.bytes n.new_bytes n.mode n.count (subst (IsNonemptyFile s1.tree) (sym e) file_now) n.was n.new_bytes_are;
        differ = n.differ;
        content_is = n.content_is;
      }

      durable_more : IsDurable (IsChangedOne (Contains (map place_of so.turns)) change s0.tree) s0 s1 → IsDurable (IsChangedAt change s1.tree path) s1 s2
          → IsDurable (IsChangedOne (Contains (map place_of so.turns ++ next.place ∷ [])) change s0.tree) s0 s2
      durable_more before after = record {
        there = λ q content n found l. elim (Contains-push_cases (map place_of so.turns) next.place q n.0) [
          | inl earlier ↦
              before.there q content (earlier, n.1) found
              (after.elsewhere q (λ other x. is_new (subst (λ (p : NameList). Contains (map place_of so.turns) p) (file_there change path next.place s1 s2 leads_now file_now q x.0) earlier)) found l)
          | inr e ↦ after.there q content (changed_now q content (sym e) n.1) found l
        ];
        elsewhere = λ q none found l.
            before.elsewhere q (λ content n. none content (Contains-append_left (map place_of so.turns) (next.place ∷ []) q n.0, n.1)) found
            (after.elsewhere q (λ content x.
            (let e = file_there change path next.place s1 s2 leads_now file_now q x.0 in
            none content (
              subst (λ (p : NameList). Contains (map place_of so.turns ++ next.place ∷ []) p) (sym e) (Contains-push (map place_of so.turns) next.place),
              changed_before q content e x,
            ))) found l);
      }

      -- one more turn
      more_turn : (fault : Option JobFault) (left : Option NameList) (now_jobs : List Job) (now_changed now_replaced : ℕ) → DoesTurn change next.place fault left s1 s2
          → now_jobs ≡ jobs ++ failed_of (path ∷ []) (fault ∷ [])
          → (now_jobs ≡ [] → CountsFiles change s0.tree (map place_of so.turns ++ next.place ∷ []) now_changed now_replaced)
          → (now_jobs ≡ [] → IsDurable (IsChangedOne (Contains (map place_of so.turns ++ next.place ∷ [])) change s0.tree) s0 s2)
          → IsSweptTo change s0 places (done ++ path ∷ []) now_jobs now_changed now_replaced s2
      more_turn fault left now_jobs now_changed now_replaced turn e counts durable =
          let t : Turn = record { path = path; place = next.place; fault = fault; left = left } in
          let places_more : map place_of (so.turns ++ t ∷ []) ≡ map place_of so.turns ++ next.place ∷ [] = map_push place_of so.turns t in
          record {
            turns = so.turns ++ t ∷ [];
            paths_are = map_push path_of so.turns t ∙ ap (λ (list : List (List ℕ)). list ++ path ∷ []) so.paths_are;
            places_are =
                places_more ∙ ap (λ (list : List NameList). list ++ next.place ∷ []) so.places_are ∙ sym next.more
                ∙ ap (λ (n : ℕ). take n places) (sym (length_push done path));
            jobs_are = e ∙ ap (λ (list : List Job). list ++ failed_of (path ∷ []) (fault ∷ [])) so.jobs_are ∙ sym (failed_more so.turns t);
            leads = All-push (Leads s0.tree) so.turns t so.leads next.leads;
            are = one_more change s0 s1 so.turns so.are files next.place next.is_file is_new path fault left s2 turn;
            counts = λ none. subst (λ (list : List NameList). CountsFiles change s0.tree list now_changed now_replaced) (sym places_more) (counts none);
            durable = λ none. subst (λ (list : List NameList). IsDurable (IsChangedOne (Contains list) change s0.tree) s0 s2) (sym places_more) (durable none);
          }

      -- the next file is rewritten, or fails
      pub swept_more : (tells : Bool) → IsTrue tells → (IsNoPath path → ⊥) → (result : Result Rewrite JobFault) (now_jobs : List Job) (now_changed now_replaced : ℕ)
          → now_jobs ≡ jobs ++ failed_of (path ∷ []) (end_of result ∷ []) → now_changed ≡ changed + changed_by result → now_replaced ≡ replaced + replaced_by result
          → s1.faults ≤ s2.faults
          → IfOk result (λ rewrite. RewritesFile change path rewrite s1 s2) → IfErr result (λ fault. LeavesFile change path fault s1 s2) → IfErr result (HasFileCause (course tells s1 s2) path)
          → LeavesSince (IsNewAt change s1.tree path) (IsFirstFreeBy s1.tree path) s1 s2 → OnOk result (IsDurable (IsChangedAt change s1.tree path) s1 s2)
          → IsSweptTo change s0 places (done ++ path ∷ []) now_jobs now_changed now_replaced s2
      swept_more tells told named (Ok rewrite) now_jobs now_changed now_replaced e c r low rewritten left cause crash durable =
          let none_before : now_jobs ≡ [] → jobs ≡ [] = λ none. sym (append-nil jobs) ∙ sym e ∙ none in
          more_turn None None now_jobs now_changed now_replaced (done_turn change path next.place s1 s2 leads_now file_now rewrite low rewritten crash) e
          (λ none. counts_more change s0.tree (map place_of so.turns) next.place changed replaced (cond rewrite.changed 1 0) rewrite.replaced now_changed now_replaced (so.counts (none_before none)) (counts_file rewrite rewritten) c r)
          (λ none. durable_more (so.durable (none_before none)) durable)
      swept_more tells told named (Err fault) now_jobs now_changed now_replaced e c r low rewritten left cause crash durable =
          let turn = refused_turn change path next.place s1 s2 leads_now file_now tells told named fault low left cause crash in
          more_turn (Some fault) turn.0 now_jobs now_changed now_replaced turn.1 e (λ none. absurd (not_none jobs (path, fault) (sym e ∙ none))) (λ none. absurd (not_none jobs (path, fault) (sym e ∙ none)))
