-- What an image holds of one exchange.
use Rattle.std.proofs.Common.{◌≡◌, ◌≢◌, ◌⊎◌, ℕ, List, refl, sym, ◌∙◌, ap, inl, inr}
use Rattle.std.specs.Prelude.{Option, Some}
use Rattle.std.proofs.lemmas.Option.{same_Some}
use Rattle.sd_io.specs.Tree.{NameList, Content, file, Tree, file_node, file_at}
use Rattle.sd_io.specs.Paths.{parent_of}
use Rattle.sd_io.specs.Outcomes.{Leaves, content_at}
use Rattle.sd_io.specs.Disk.{DiskState, MayLeave, MayLeaveSince, outcomes_now}
use Rattle.sd_io.specs.Crashes.{IsDurable}
use Rattle.sd_io.proofs.CrashLemmas.{since_image}
use Rattle.file_exchange.specs.Reserved.{FirstFree}
use Rattle.file_exchange.specs.Crash.{IsNewFile, ExchangeLeaves}

-- the new file's mode is the file's
new_content : (tree : Tree) (place q : NameList) (bytes before : List ℕ) (mode : ℕ) (content : Content) → file_at tree place ≡ Some (before, mode) → IsNewFile tree place bytes q content
    → content ≡ file bytes mode
new_content tree place q bytes before mode content was new =
    new.content_is ∙ ap (file bytes) (ap (λ (f : List ℕ × ℕ). f.1) (same_Some (new.before, new.mode) (before, mode) (sym new.was ∙ was)))

module _ (place : NameList) (bytes : List ℕ) (old new : DiskState) where
  pub old_or_new_there : (before : List ℕ) (mode : ℕ) → file_at old.tree place ≡ Some (before, mode) → ExchangeLeaves place bytes old new → (image : Tree) → MayLeaveSince new old.clock image
      → Leaves (outcomes_now old place) (content_at image place) ⊎ (content_at image place ≡ Some (file bytes mode))
  old_or_new_there before mode was e image may = elim (since_image _ _ old new e.leaves image may place) [
    | inl earlier ↦ inl earlier
    | inr (inl (content, is, n)) ↦ inr (is ∙ ap (λ (c : Content). Some c) (new_content old.tree place place bytes before mode content was n))
    | inr (inr aside) ↦ absurd (cc (sym was ∙ ap file_node (e.was_free place aside).free))
  ]

  pub old_elsewhere : ExchangeLeaves place bytes old new → (temporary : Option NameList) × ((q : NameList) → temporary ≡ Some q → FirstFree old.tree (parent_of place) q)
      × ((image : Tree) → MayLeaveSince new old.clock image → (q : NameList) → q ≢ place → temporary ≢ Some q → Leaves (outcomes_now old q) (content_at image q))
  old_elsewhere e = (
    e.temporary,
    e.was_free,
    λ image may q n m. elim (since_image _ _ old new e.leaves image may q) [
      | inl earlier ↦ earlier
      | inr (inl (content, is, file_is_new)) ↦ absurd (n file_is_new.here)
      | inr (inr aside) ↦ absurd (m aside)
    ],
  )

  pub durable_there : (before : List ℕ) (mode : ℕ) → file_at old.tree place ≡ Some (before, mode) → IsDurable (IsNewFile old.tree place bytes) old new → (image : Tree) → MayLeave new image
      → content_at image place ≡ Some (file bytes mode)
  durable_there before mode was d image may =
      d.there place (file bytes mode) (record { here = refl; before = before; mode = mode; was = was; content_is = refl }) (content_at image place) (may place)

  pub durable_elsewhere : IsDurable (IsNewFile old.tree place bytes) old new → (image : Tree) → MayLeave new image → (q : NameList) → q ≢ place → Leaves (outcomes_now old q) (content_at image q)
  durable_elsewhere d image may q n = d.elsewhere q (λ content is_new. n is_new.here) (content_at image q) (may q)
