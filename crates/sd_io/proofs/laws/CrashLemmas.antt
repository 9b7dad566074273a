-- What a crash may have left since some moment: one call, and one after another.
use Rattle.std.proofs.Common.{◌≡◌, ℕ, List, sym, ◌∙◌, ap, subst, ◌⊎◌, inl, inr, arith}
use Rattle.std.specs.Prelude.{Option, Some}
use Rattle.std.proofs.lemmas.Bool.{cases_lt}
use Rattle.sd_io.specs.Tree.{NameList, Content, Tree, SameBut, node_at}
use Rattle.sd_io.specs.Outcomes.{Outcome, Outcomes, Leaves, own_of, left_behind, put, after_move, after_no_move, after_folder_sync, content_of, content_at}
use Rattle.sd_io.specs.Disk.{DiskState, SameTree, Advances, HoldsPresent, outcomes_now, MayLeaveSince}
use Rattle.sd_io.specs.Crashes.{LeavesSince, IsSettledAt, SettledBut}
use Rattle.sd_io.proofs.laws.WayLemmas.{same_or_other}
use Rattle.sd_io.proofs.laws.OutcomeLemmas.{put_there, put_elsewhere, leaves_append, leaves_behind, folder_leaves, folder_own}

module _ (contents : NameList → Content → Type 0) (loose : NameList → Type 0) where
  -- what a crash may leave at a place
  abbrev pub May : DiskState → NameList → Option Content → Type 0
  May old q found = Leaves (outcomes_now old q) found ⊎ ((content : Content) × (found ≡ Some content) × contents q content) ⊎ loose q

  -- nothing changes
  pub since_same : (s t : DiskState) → SameTree s t → LeavesSince contents loose s t
  since_same s t same = record {
    later = omega (arith, same.clock);
    before = λ k low. ap (λ (f : ℕ → Outcomes). f k) same.outcomes;
    each = λ k low high q found l.
        let now : k ≡ s.clock = omega (arith, same.clock) in
        inl (subst (λ (f : ℕ → Outcomes). Leaves (f s.clock q) found) same.outcomes (subst (λ (m : ℕ). Leaves (t.outcomes m q) found) now l));
  }

  -- one moment passes
  pub since_step : (s t : DiskState) (outcomes : Outcomes) → Advances s t outcomes → ((q : NameList) (found : Option Content) → Leaves (outcomes q) found → May s q found)
      → LeavesSince contents loose s t
  since_step s t outcomes a may = record {
    later = omega (arith, a.clock);
    before = a.before;
    each = λ k low high q found l. elim (cases_lt s.clock k) [
      | inl after ↦
          let now : k ≡ t.clock = omega (arith, a.clock) in
          may q found (subst (λ (f : Outcomes). Leaves (f q) found) a.now (subst (λ (m : ℕ). Leaves (t.outcomes m q) found) now l))
      | inr still ↦
          let now : k ≡ s.clock = omega arith in
          inl (subst (λ (f : Outcomes). Leaves (f q) found) (a.before s.clock (omega arith)) (subst (λ (m : ℕ). Leaves (t.outcomes m q) found) now l))
    ];
  }

  -- one part after another
  pub since_then : (r s t : DiskState) → LeavesSince contents loose r s → LeavesSince contents loose s t → LeavesSince contents loose r t
  since_then r s t first second = record {
    later = omega (arith, first.later, second.later);
    before = λ k low. second.before k (omega (arith, first.later)) ∙ first.before k low;
    each = λ k low high q found l. elim (cases_lt k s.clock) [
      | inl early ↦ first.each k low (omega arith) q found (subst (λ (f : Outcomes). Leaves (f q) found) (second.before k (omega arith)) l)
      | inr late ↦ elim (second.each k late high q found l) [
        | inl old ↦ first.each s.clock first.later (omega arith) q found old
        | inr new ↦ inr new
      ]
    ];
  }

  -- ---- one call

  -- outcomes change at a loose place alone
  pub since_loose : (s t : DiskState) (place : NameList) (list : List Outcome) → Advances s t (put place list (outcomes_now s)) → loose place → LeavesSince contents loose s t
  since_loose s t place list a is_loose = since_step s t _ a (λ q found l. elim (same_or_other q place) [
    | inl here ↦ inr (inr (subst loose (sym here) is_loose))
    | inr other ↦ inl (subst (λ os. Leaves os found) (put_elsewhere place list (outcomes_now s) q other) l)
  ])

  -- the folder's names are put on the medium
  pub since_folder : (s t : DiskState) (folder : NameList) → HoldsPresent s → Advances s t (after_folder_sync (node_at s.tree) folder (outcomes_now s)) → LeavesSince contents loose s t
  since_folder s t folder holds a = since_step s t _ a (λ q found l. elim (folder_leaves (node_at s.tree) folder (outcomes_now s) q found l) [
    | inl old ↦ inl old
    | inr (none, is) ↦ inl (subst (λ f. Leaves (outcomes_now s q) f) (sym is) (holds.nothing q none))
  ])

  -- Outcomes of a loose place come to another one, where each of them is a new content.
  module _ (s t : DiskState) (source target : NameList) (is_loose : loose source)
      (ready : (found : Option Content) → Leaves (own_of (outcomes_now s source)) found → (content : Content) × (found ≡ Some content) × contents target content) where
    at_target : (list more : List Outcome)
        → ((found : Option Content) → Leaves list found → Leaves (outcomes_now s target) found ⊎ ((content : Content) × (found ≡ Some content) × contents target content))
        → (q : NameList) (found : Option Content) → Leaves (put target list (put source more (outcomes_now s)) q) found → May s q found
    at_target list more comes q found l = elim (same_or_other q target) [
      | inl here ↦ elim (comes found (subst (λ os. Leaves os found) (ap (put target list (put source more (outcomes_now s))) here ∙ put_there target list (put source more (outcomes_now s))) l)) [
        | inl old ↦ inl (subst (λ (p : NameList). Leaves (outcomes_now s p) found) (sym here) old)
        | inr (content, is, new) ↦ inr (inl (content, is, subst (λ (p : NameList). contents p content) (sym here) new))
      ]
      | inr other ↦ elim (same_or_other q source) [
        | inl from ↦ inr (inr (subst loose (sym from) is_loose))
        | inr elsewhere ↦ inl (subst (λ os. Leaves os found) (put_elsewhere target list (put source more (outcomes_now s)) q other ∙ put_elsewhere source more (outcomes_now s) q elsewhere) l)
      ]
    ]

    pub since_moved : Advances s t (after_move source target (outcomes_now s)) → LeavesSince contents loose s t
    since_moved a = since_step s t _ a (at_target _ _ (λ found l. elim (leaves_append (left_behind (outcomes_now s target)) (own_of (outcomes_now s source)) found l) [
      | inl old ↦ inl (leaves_behind (outcomes_now s target) found old)
      | inr new ↦ inr (ready found new)
    ]))

    pub since_not_moved : Advances s t (after_no_move source target (outcomes_now s)) → LeavesSince contents loose s t
    since_not_moved a = since_step s t _ a (at_target _ _ (λ found l. elim (leaves_append (outcomes_now s target) (left_behind (own_of (outcomes_now s source))) found l) [
      | inl old ↦ inl old
      | inr new ↦ inr (ready found (leaves_behind (own_of (outcomes_now s source)) found new))
    ]))

  -- ---- images

  -- an image that may have been left since
  pub since_image : (s t : DiskState) → LeavesSince contents loose s t → (image : Tree) → MayLeaveSince t s.clock image → (q : NameList) → May s q (content_at image q)
  since_image s t leaves image (k, low, high, all) q = leaves.each k low high q (content_at image q) (all q)

-- more contents, and more loose places
pub since_more : (contents more : NameList → Content → Type 0) (loose looser : NameList → Type 0) (s t : DiskState)
    → ((q : NameList) (content : Content) → contents q content → more q content) → ((q : NameList) → loose q → looser q)
    → LeavesSince contents loose s t → LeavesSince more looser s t
since_more contents more loose looser s t contained looser_is leaves = record {
  later = leaves.later;
  before = leaves.before;
  each = λ k low high q found l. elim (leaves.each k low high q found l) [
    | inl old ↦ inl old
    | inr (inl (content, is, new)) ↦ inr (inl (content, is, contained q content new))
    | inr (inr anything) ↦ inr (inr (looser_is q anything))
  ];
}

-- ---- what is settled

pub settled_kept : (s t : DiskState) (q : NameList) → own_of (outcomes_now t q) ≡ own_of (outcomes_now s q) → node_at t.tree q ≡ node_at s.tree q → IsSettledAt s q → IsSettledAt t q
settled_kept s t q own_are node is found l = is found (subst (λ os. Leaves os found) own_are l) ∙ sym (ap content_of node)

pub settled_same : (s t : DiskState) → SameTree s t → (q : NameList) → IsSettledAt s q → IsSettledAt t q
settled_same s t same q is = settled_kept s t q (λ i. own_of (same.outcomes i (same.clock i) q)) (ap (λ (x : Tree). node_at x q) same.tree) is

pub settled_then : (place : NameList) (r s t : DiskState) → SettledBut place r s → SettledBut place s t → SettledBut place r t
settled_then place r s t a b q n is = b q n (a q n is)

-- outcomes change at one place alone
pub settled_put : (s t : DiskState) (place : NameList) (list : List Outcome) → Advances s t (put place list (outcomes_now s)) → SameBut place s.tree t.tree → SettledBut place s t
settled_put s t place list a others q n =
    settled_kept s t q (ap (λ f. own_of (f q)) a.now ∙ ap own_of (put_elsewhere place list (outcomes_now s) q n)) (others q n)

-- a folder's names are put on the medium
pub settled_folder : (s t : DiskState) (folder : NameList) → t.tree ≡ s.tree → Advances s t (after_folder_sync (node_at s.tree) folder (outcomes_now s)) → (q : NameList) → IsSettledAt s q → IsSettledAt t q
settled_folder s t folder same a q is found l =
    is found (folder_own (node_at s.tree) folder (outcomes_now s) q found (subst (λ (f : Outcomes). Leaves (own_of (f q)) found) a.now l)) ∙ sym (ap (λ (x : Tree). content_at x q) same)
