-- What came of the files so far, and one more.
use Rattle.std.proofs.Common.{◌≡◌, ◌≢◌, ℕ, ◌+◌, ◌≤◌, List, [], ◌∷◌, ◌++◌, map, refl, sym, ◌∙◌, ap, subst, inl, inr, arith}
use Rattle.std.specs.Prelude.{Option, Some, None, IsSome, is_some, Contains, All, sum_by}
use Rattle.std.proofs.lemmas.List.{map_push}
use Rattle.std.proofs.lemmas.List.Sums.{sum_by_push}
use Rattle.std.proofs.lemmas.List.Elements.{All-nil, All-push, All-weaker, All-contains, All-contains_itself, Contains-append_left, Contains-push}
use Rattle.sd_io.specs.Tree.{NameList, Content, Node, node_at, file_at, file_node, IsNonemptyFile}
use Rattle.sd_io.specs.Paths.{parent_of, way_of_node}
use Rattle.sd_io.specs.Outcomes.{Leaves}
use Rattle.sd_io.specs.Disk.{DiskState, outcomes_now}
use Rattle.sd_io.specs.Crashes.{LeavesSince}
use Rattle.sd_io.proofs.CrashLemmas.{since_same, since_then, since_more}
use Rattle.sd_io.proofs.WayLemmas.{file_has_no_way}
use Rattle.sd_change.specs.Change.{Change}
use Rattle.sd_course.specs.Course.{HasRisenBy}
use Rattle.file_exchange.specs.Reserved.{Free}
use Rattle.file_rewrite.specs.Rewritten.{IsOldOrNew, IsNewFile}
use Rattle.file_rewrite.specs.declared.fault.JobFault.{JobFault}
use Rattle.file_rewrite.specs.declared.fault.JobFault.TheVariants as job
use Rattle.many_files.specs.Files.{IsFreeBeside}
use Rattle.many_files.specs.Rewritten.{IsNewOne}
use Rattle.many_files.specs.Turns.{Turn, place_of, fault_of, left_of, EndsSo, IsTurn, faults_of_turn}
use Rattle.many_files.proofs.rewriting.MemberLemmas.{has_or_not, has_option_or_not, mapped, map_has, cut_of_more}
use Rattle.many_files.proofs.rewriting.WayLemmas.{KeepsWays}
use Rattle.many_files.proofs.rewriting.FileLemmas.{free_no_file, a_file}
use Rattle.many_files.proofs.rewriting.TurnLemmas.{DoesTurn}

-- what came of some files, one after the other
pub record AreTurns (change : Change) (s0 s : DiskState) (turns : List Turn) : Type 0 where
  pub each : All (IsTurn change s0 s) turns
  pub others : (q : NameList) → (Contains (map place_of turns) q → ⊥) → (Contains (map left_of turns) (Some q) → ⊥) → node_at s.tree q ≡ node_at s0.tree q
  pub counted : HasRisenBy (sum_by faults_of_turn turns) s0.faults s.faults
  pub low : s0.faults ≤ s.faults
  pub crash : LeavesSince (IsNewOne (Contains (map place_of turns)) change s0.tree) (IsFreeBeside (Contains (map place_of turns)) s0.tree) s0 s

pub no_turns : (change : Change) (s : DiskState) → AreTurns change s s []
no_turns change s = record {
  each = All-nil (IsTurn change s s);
  others = λ q n m. refl;
  counted = inl (omega arith);
  low = omega arith;
  crash = since_same _ _ s s (record { tree = refl; clock = refl; outcomes = refl });
}

-- counts that rose one after the other
pub rises_by : (m n a b c : ℕ) → b ≤ c → HasRisenBy m a b → HasRisenBy n b c → HasRisenBy (m + n) a c
rises_by m n a b c low (inl one) (inl two) = inl (omega arith)
rises_by m n a b c low (inl one) (inr last) = inr last
rises_by m n a b c low (inr last) two = inr (omega arith)

module _ (change : Change) (s0 s1 : DiskState) (turns : List Turn) (so : AreTurns change s0 s1 turns) (files : (q : NameList) → Contains (map place_of turns) q → IsNonemptyFile s0.tree q) where
  pub is_turn : (t : Turn) → Contains turns t → IsTurn change s0 s1 t
  is_turn t c = All-contains (IsTurn change s0 s1) turns t so.each c

  -- a name that was left was free
  pub left_was_free : (q : NameList) → Contains (map left_of turns) (Some q) → node_at s0.tree q ≡ None
  left_was_free q c = let (t, there, e) = mapped left_of turns (Some q) c in ((is_turn t there).was_free q e).free

  -- a file stands where one was rewritten or left
  file_after : (q : NameList) → node_at s1.tree q ≡ node_at s0.tree q → IsSome (file_at s0.tree q) → IsSome (file_at s1.tree q)
  file_after q same file = subst (λ (o : Option Node). IsSome (file_node o)) (sym same) file

  old_or_new_file : (q : NameList) → IsSome (file_at s0.tree q) → IsOldOrNew change s0.tree s1.tree q → IsSome (file_at s1.tree q)
  old_or_new_file q file (inl old) = file_after q old file
  old_or_new_file q file (inr new) = ap is_some new.holds

  ends_file : (q : NameList) (fault : Option JobFault) → IsSome (file_at s0.tree q) → EndsSo change s0 s1 q fault → IsSome (file_at s1.tree q)
  ends_file q None file ends = ap is_some ends.holds
  ends_file q (Some (job.File fault)) file ends = file_after q ends file
  ends_file q (Some (job.TempfilePersist fault)) file ends = old_or_new_file q file ends
  ends_file q (Some job.InvalidPath) file ends = file_after q ends file
  ends_file q (Some job.TempName) file ends = file_after q ends file
  ends_file q (Some job.NoMemory) file ends = old_or_new_file q file ends

  pub still_file : (q : NameList) → Contains (map place_of turns) q → IsSome (file_at s1.tree q)
  still_file q c =
      let (t, there, e) = mapped place_of turns q c in
      ends_file q t.fault (a_file s0.tree q (files q c)) (subst (λ (p : NameList). EndsSo change s0 s1 p t.fault) e (is_turn t there).file)

  -- what is free now was free
  pub free_before : (q : NameList) → node_at s1.tree q ≡ None → node_at s0.tree q ≡ None
  free_before q free = elim (has_or_not (map place_of turns) q) [
    | inl c ↦ absurd (free_no_file s1.tree q free (still_file q c))
    | inr n ↦ elim (has_option_or_not (map left_of turns) q) [ inl l ↦ left_was_free q l | inr m ↦ sym (so.others q n m) ∙ free ]
  ]

  -- what stood goes on as before
  pub keeps_ways : KeepsWays s0.tree s1.tree
  keeps_ways = record {
    ways = λ q stands. elim (has_or_not (map place_of turns) q) [
      | inl c ↦ file_has_no_way (node_at s1.tree q) (still_file q c) ∙ sym (file_has_no_way (node_at s0.tree q) (a_file s0.tree q (files q c)))
      | inr n ↦ elim (has_option_or_not (map left_of turns) q) [ inl l ↦ (let free = left_was_free q l in cc) | inr m ↦ ap way_of_node (so.others q n m) ]
    ];
  }

  module _ (place : NameList) (is_file : IsNonemptyFile s0.tree place) (is_new : Contains (map place_of turns) place → ⊥) where
    -- another file is as it was
    pub kept : node_at s1.tree place ≡ node_at s0.tree place
    kept = so.others place is_new (λ c. free_no_file s0.tree place (left_was_free place c) (a_file s0.tree place is_file))

    kept_file : file_at s1.tree place ≡ file_at s0.tree place
    kept_file = ap file_node kept

    -- and so is what a crash may leave of it
    old_outcomes : (found : Option Content) → Leaves (outcomes_now s1 place) found → Leaves (outcomes_now s0 place) found
    old_outcomes found l = elim (so.crash.each s1.clock so.crash.later (omega arith) place found l) [
      | inl old ↦ old
      | inr (inl (content, is, new)) ↦ absurd (is_new new.0)
      | inr (inr (p, c, free)) ↦ absurd (free_no_file s0.tree place free.free (a_file s0.tree place is_file))
    ]

    module _ (path : List ℕ) (fault : Option JobFault) (left : Option NameList) (s2 : DiskState) (turn : DoesTurn change place fault left s1 s2) where
      abbrev pub now : Turn
      now = record { path = path; place = place; fault = fault; left = left }

      apart : (q : NameList) → Contains (map place_of turns) q → q ≢ place
      apart q c e = is_new (subst (λ (p : NameList). Contains (map place_of turns) p) e c)

      not_left : (q : NameList) → IsSome (file_at s1.tree q) → left ≢ Some q
      not_left q file e = free_no_file s1.tree q (turn.was_free q e).free file

      -- the other files are as they were
      stays : (q : NameList) → Contains (map place_of turns) q → node_at s2.tree q ≡ node_at s1.tree q
      stays q c = turn.others q (apart q c) (not_left q (still_file q c))

      outcomes_stay : (q : NameList) → Contains (map place_of turns) q → (found : Option Content) → Leaves (outcomes_now s2 q) found → Leaves (outcomes_now s1 q) found
      outcomes_stay q c found l = elim (turn.crash.each s2.clock turn.crash.later (omega arith) q found l) [
        | inl old ↦ old
        | inr (inl (content, is, new)) ↦ absurd (apart q c new.0)
        | inr (inr (p, same, free)) ↦ absurd (free_no_file s1.tree q free.free (still_file q c))
      ]

      old_or_new_still : (q : NameList) → Contains (map place_of turns) q → IsOldOrNew change s0.tree s1.tree q → IsOldOrNew change s0.tree s2.tree q
      old_or_new_still q c (inl old) = inl (stays q c ∙ old)
      old_or_new_still q c (inr n) =
          inr (record { bytes = n.bytes; mode = n.mode; was = n.was; new_bytes = n.new_bytes; count = n.count; new_bytes_are = n.new_bytes_are; holds = ap file_node (stays q c) ∙ n.holds })

      ends_still : (q : NameList) (end : Option JobFault) → Contains (map place_of turns) q → EndsSo change s0 s1 q end → EndsSo change s0 s2 q end
      ends_still q None c r = record {
        bytes = r.bytes;
        mode = r.mode;
        was = r.was;
        new_bytes = r.new_bytes;
        count = r.count;
        new_bytes_are = r.new_bytes_are;
        holds = ap file_node (stays q c) ∙ r.holds;
        kept = λ e. record { node = stays q c ∙ (r.kept e).node; outcomes = λ found l. (r.kept e).outcomes found (outcomes_stay q c found l) };
      }
      ends_still q (Some (job.File f)) c is = stays q c ∙ is
      ends_still q (Some (job.TempfilePersist f)) c is = old_or_new_still q c is
      ends_still q (Some job.InvalidPath) c is = stays q c ∙ is
      ends_still q (Some job.TempName) c is = stays q c ∙ is
      ends_still q (Some job.NoMemory) c is = old_or_new_still q c is

      turn_still : (t : Turn) → Contains turns t → IsTurn change s0 s2 t
      turn_still t c = let it = is_turn t c in record { file = ends_still t.place t.fault (map_has place_of turns t c) it.file; was_free = it.was_free; failed = it.failed }

      old_or_new_now : IsOldOrNew change s1.tree s2.tree place → IsOldOrNew change s0.tree s2.tree place
      old_or_new_now (inl old) = inl (old ∙ kept)
      old_or_new_now (inr n) =
          inr (record { bytes = n.bytes; mode = n.mode; was = sym kept_file ∙ n.was; new_bytes = n.new_bytes; count = n.count; new_bytes_are = n.new_bytes_are; holds = n.holds })

      ends_now : (end : Option JobFault) → EndsSo change s1 s2 place end → EndsSo change s0 s2 place end
      ends_now None r = record {
        bytes = r.bytes;
        mode = r.mode;
        was = sym kept_file ∙ r.was;
        new_bytes = r.new_bytes;
        count = r.count;
        new_bytes_are = r.new_bytes_are;
        holds = r.holds;
        kept = λ e. record { node = (r.kept e).node ∙ kept; outcomes = λ found l. old_outcomes found ((r.kept e).outcomes found l) };
      }
      ends_now (Some (job.File f)) is = is ∙ kept
      ends_now (Some (job.TempfilePersist f)) is = old_or_new_now is
      ends_now (Some job.InvalidPath) is = is ∙ kept
      ends_now (Some job.TempName) is = is ∙ kept
      ends_now (Some job.NoMemory) is = old_or_new_now is

      turn_now : IsTurn change s0 s2 now
      turn_now = record {
        file = ends_now fault turn.file;
        was_free = λ q e. record { reserved = (turn.was_free q e).reserved; free = free_before q (turn.was_free q e).free };
        failed = turn.failed;
      }

      -- the places with this one
      has_earlier : (q : NameList) → Contains (map place_of turns) q → Contains (map place_of (turns ++ now ∷ [])) q
      has_earlier q c = subst (λ (list : List NameList). Contains list q) (sym (map_push place_of turns now)) (Contains-append_left (map place_of turns) (place ∷ []) q c)

      has_now : (q : NameList) → q ≡ place → Contains (map place_of (turns ++ now ∷ [])) q
      has_now q e =
          subst (λ (list : List NameList). Contains list q) (sym (map_push place_of turns now))
          (subst (λ (p : NameList). Contains (map place_of turns ++ place ∷ []) p) (sym e) (Contains-push (map place_of turns) place))

      lefts_earlier : (q : NameList) → Contains (map left_of turns) (Some q) → Contains (map left_of (turns ++ now ∷ [])) (Some q)
      lefts_earlier q c = subst (λ (list : List (Option NameList)). Contains list (Some q)) (sym (map_push left_of turns now)) (Contains-append_left (map left_of turns) (left ∷ []) (Some q) c)

      lefts_now : (q : NameList) → left ≡ Some q → Contains (map left_of (turns ++ now ∷ [])) (Some q)
      lefts_now q e =
          subst (λ (list : List (Option NameList)). Contains list (Some q)) (sym (map_push left_of turns now))
          (subst (λ (o : Option NameList). Contains (map left_of turns ++ left ∷ []) o) e (Contains-push (map left_of turns) left))

      new_before : (q : NameList) (content : Content) → q ≡ place → IsNewFile change s1.tree q content → IsNewFile change s0.tree q content
      new_before q content e n = record {
        bytes = n.bytes;
        mode = n.mode;
        was = ap (file_at s0.tree) e ∙ sym kept_file ∙ ap (file_at s1.tree) (sym e) ∙ n.was;
        new_bytes = n.new_bytes;
        count = n.count;
        new_bytes_are = n.new_bytes_are;
        content_is = n.content_is;
      }

      pub one_more : AreTurns change s0 s2 (turns ++ now ∷ [])
      one_more = record {
        each = All-push (IsTurn change s0 s2) turns now (All-weaker (Contains turns) (IsTurn change s0 s2) turn_still turns (All-contains_itself turns)) turn_now;
        others = λ q n m. turn.others q (λ e. n (has_now q e)) (λ e. m (lefts_now q e)) ∙ so.others q (λ c. n (has_earlier q c)) (λ c. m (lefts_earlier q c));
        counted =
            subst (λ (k : ℕ). HasRisenBy k s0.faults s2.faults) (sym (sum_by_push faults_of_turn turns now))
            (rises_by (sum_by faults_of_turn turns) (faults_of_turn now) s0.faults s1.faults s2.faults turn.low so.counted turn.counted);
        low = omega (arith, so.low, turn.low);
        crash =
            since_then _ _ s0 s1 s2
            (since_more _ (IsNewOne (Contains (map place_of (turns ++ now ∷ []))) change s0.tree) _ (IsFreeBeside (Contains (map place_of (turns ++ now ∷ []))) s0.tree) s0 s1
            (λ q content n. (has_earlier q n.0, n.1)) (λ q f. (f.0, has_earlier f.0 f.1, f.2)) so.crash)
            (since_more _ (IsNewOne (Contains (map place_of (turns ++ now ∷ []))) change s0.tree) _ (IsFreeBeside (Contains (map place_of (turns ++ now ∷ []))) s0.tree) s1 s2
            (λ q content n. (has_now q n.0, new_before q content n.0 n.1))
            (λ q f. (f.0, has_now f.0 f.1, record { reserved = f.2.reserved; free = free_before q f.2.free })) turn.crash);
      }
