-- Changes that tell another device leave the outcomes with that device.
use Rattle.std.proofs.Common.{◌≡◌, ℕ, List, [], ◌∷◌, ◌++◌, map, take, refl, sym, ◌∙◌, ap, Bool, true, false, cond, inl, inr}
use Rattle.std.proofs.lemmas.List.{map-append, take-map}
use Rattle.sd_io.specs.Tree.{NameList, Node}
use Rattle.sd_io.specs.Outcomes.{Left, gone, this, any_file, Outcome, own, older, Outcomes, never_used, built, put, own_of, is_in, left_behind, settled, settled_left}
use Rattle.sd_io.proofs.OutcomeLemmas.{put_there, put_elsewhere}
use Rattle.mem_io.specs.MemTrail.{begins_with, dev_within}
use Rattle.mem_io.specs.declared.log.Change.{Change}
use Rattle.mem_io.specs.declared.log.Change.TheVariants as change
use Rattle.mem_io.specs.declared.log.ChangeLog.{ChangeLog}
use Rattle.mem_io.specs.Log.{alone_or_gone, in_folder, left_on, outcome_on, after, after_all, first_top, first_on, outcomes_after, outcomes_by, left_within, outcome_within, after_device, number_within, change_within}
use Rattle.mem_io.specs.LogRoom.{TellsDevice}
use Rattle.mem_io.proofs.tree.TreeLemmas.{same_or_other}
use Rattle.mem_io.proofs.log.DeviceKeptLemmas.{own_within}

module _ (place : NameList) (dev : ℕ) where
  -- ---- lists at the place q

  behind_within : (q : NameList) (xs : List Outcome) → map (outcome_within place dev q) (left_behind xs) ≡ left_behind (map (outcome_within place dev q) xs)
  behind_within q [] = refl
  behind_within q (x ∷ xs) = ap (λ (os : List Outcome). older (left_within place dev q x.left) ∷ os) (behind_within q xs)

  settled_within : (q : NameList) (node : Node) (xs : List Outcome) → map (outcome_within place dev q) (map (settled node) xs) ≡ map (settled (dev_within place dev q node)) (map (outcome_within place dev q) xs)
  settled_within q node [] = refl
  settled_within q node (x ∷ xs) = λ i. record { is_own = x.is_own; left = first x.is_own x.left i } ∷ settled_within q node xs i
    where
      first : (b : Bool) (left : Left) → left_within place dev q (cond b (settled_left node left) left) ≡ cond b (settled_left (dev_within place dev q node) (left_within place dev q left)) (left_within place dev q left)
      first false left = refl
      first true gone = refl
      first true (this earlier) = refl
      first true any_file = refl

  -- what comes from another place has the device that is told of where it comes
  coming_within : (source target : NameList) (was : ℕ) (xs : List Outcome)
      → map (outcome_within place dev target) (map (outcome_on was) xs) ≡ map (outcome_on (number_within place dev target was)) (map (outcome_within place dev source) xs)
  coming_within source target was [] = refl
  coming_within source target was (x ∷ xs) = λ i. record { is_own = x.is_own; left = first x.left i } ∷ coming_within source target was xs i
    where
      first : (left : Left) → left_within place dev target (left_on was left) ≡ left_on (number_within place dev target was) (left_within place dev source left)
      first gone = refl
      first (this n) =
          ap (λ (m : Node). this m)
          (elim (begins_with place target) as (λ b. cond b (record n { dev = dev }) (record n { dev = was }) ≡ record n { dev = cond b dev was }) [ true ↦ refl | false ↦ refl ]
          ∙ elim (begins_with place source) as (λ b. record n { dev = number_within place dev target was } ≡ record (cond b (record n { dev = dev }) n) { dev = number_within place dev target was }) [ true ↦ refl | false ↦ refl ])
      first any_file = refl

  alone_within : (q : NameList) (os : List Outcome) → map (outcome_within place dev q) (alone_or_gone os) ≡ alone_or_gone (map (outcome_within place dev q) os)
  alone_within q [] = refl
  alone_within q (o ∷ os) = refl

  folder_within : (q : NameList) (b : Bool) (xs : List Outcome) → map (outcome_within place dev q) (in_folder b xs) ≡ in_folder b (map (outcome_within place dev q) xs)
  folder_within q true xs = alone_within q (own_of xs) ∙ ap alone_or_gone (sym (own_within place dev q xs))
  folder_within q false xs = refl

  -- ---- outcomes

  put_within : (at : NameList) (list : List Outcome) (outcomes : Outcomes) → after_device place dev (put at list outcomes) ≡ put at (map (outcome_within place dev at) list) (after_device place dev outcomes)
  put_within at list outcomes = λ i q. here q i
    where
      here : (q : NameList) → map (outcome_within place dev q) (put at list outcomes q) ≡ put at (map (outcome_within place dev at) list) (after_device place dev outcomes) q
      here q = elim (same_or_other q at) [
        | inl e ↦ (λ i. map (outcome_within place dev (e i)) (put at list outcomes (e i))) ∙ ap (map (outcome_within place dev at)) (put_there at list outcomes)
            ∙ sym (put_there at (map (outcome_within place dev at) list) (after_device place dev outcomes)) ∙ (λ i. put at (map (outcome_within place dev at) list) (after_device place dev outcomes) (sym e i))
        | inr n ↦ ap (map (outcome_within place dev q)) (put_elsewhere at list outcomes q n) ∙ sym (put_elsewhere at (map (outcome_within place dev at) list) (after_device place dev outcomes) q n)
      ]

  -- where the list is told otherwise
  put_told : (at : NameList) (list told : List Outcome) (outcomes : Outcomes) → map (outcome_within place dev at) list ≡ told → after_device place dev (put at list outcomes) ≡ put at told (after_device place dev outcomes)
  put_told at list told outcomes e = put_within at list outcomes ∙ ap (λ (os : List Outcome). put at os (after_device place dev outcomes)) e

  -- where one comes last behind those that are left behind
  behind_last : (q : NameList) (xs : List Outcome) (o : Outcome) → outcome_within place dev q o ≡ o → map (outcome_within place dev q) (left_behind xs ++ o ∷ []) ≡ left_behind (map (outcome_within place dev q) xs) ++ o ∷ []
  behind_last q xs o e = map-append (outcome_within place dev q) (left_behind xs) (o ∷ []) ∙ (λ i. behind_within q xs i ++ e i ∷ [])

  more_last : (q : NameList) (xs : List Outcome) (o : Outcome) → outcome_within place dev q o ≡ o → map (outcome_within place dev q) (xs ++ o ∷ []) ≡ map (outcome_within place dev q) xs ++ o ∷ []
  more_last q xs o e = map-append (outcome_within place dev q) xs (o ∷ []) ∙ (λ i. map (outcome_within place dev q) xs ++ e i ∷ [])

  coming : (source target : NameList) (was : ℕ) (outcomes : Outcomes)
      → map (outcome_within place dev target) (map (outcome_on was) (own_of (outcomes source))) ≡ map (outcome_on (number_within place dev target was)) (own_of (after_device place dev outcomes source))
  coming source target was outcomes =
      coming_within source target was (own_of (outcomes source)) ∙ ap (map (outcome_on (number_within place dev target was))) (sym (own_within place dev source (outcomes source)))

  -- after one change
  change_told : (c : Change) (outcomes : Outcomes) → after_device place dev (after c outcomes) ≡ after (change_within place dev c) (after_device place dev outcomes)
  change_told (change.Created q) outcomes = put_told q _ _ outcomes (behind_last q (outcomes q) (own any_file) refl)
  change_told (change.Written q) outcomes = put_told q _ _ outcomes (more_last q (outcomes q) (own any_file) refl)
  change_told (change.Synced q node) outcomes = put_told q _ _ outcomes (settled_within q node (outcomes q))
  change_told (change.Moved source target was) outcomes =
      put_told target _ _ _
      (map-append (outcome_within place dev target) (left_behind (outcomes target)) (map (outcome_on was) (own_of (outcomes source)))
      ∙ (λ i. behind_within target (outcomes target) i ++ coming source target was outcomes i))
      ∙ ap (put target (left_behind (after_device place dev outcomes target) ++ map (outcome_on (number_within place dev target was)) (own_of (after_device place dev outcomes source))))
      (put_told source _ _ outcomes (behind_last source (outcomes source) (older gone) refl))
  change_told (change.NotMoved source target was) outcomes =
      put_told target _ _ _
      (map-append (outcome_within place dev target) (outcomes target) (left_behind (map (outcome_on was) (own_of (outcomes source))))
      ∙ ap (λ (os : List Outcome). map (outcome_within place dev target) (outcomes target) ++ os)
      (behind_within target (map (outcome_on was) (own_of (outcomes source))) ∙ ap left_behind (coming source target was outcomes)))
      ∙ ap (put target (after_device place dev outcomes target ++ left_behind (map (outcome_on (number_within place dev target was)) (own_of (after_device place dev outcomes source)))))
      (put_told source _ _ outcomes (more_last source (outcomes source) (older gone) refl))
  change_told (change.Removed q) outcomes = put_told q _ _ outcomes (behind_last q (outcomes q) (older gone) refl)
  change_told (change.FolderSynced folder) outcomes = λ i q. folder_within q (is_in folder q) (outcomes q) i
  change_told (change.Built q node) outcomes = put_told q (built node) _ outcomes refl

  -- after all
  all_told : (outcomes : Outcomes) (changes : List Change) → after_device place dev (after_all outcomes changes) ≡ after_all (after_device place dev outcomes) (map (change_within place dev) changes)
  all_told outcomes [] = refl
  all_told outcomes (c ∷ changes) = all_told (after c outcomes) changes ∙ ap (λ (o : Outcomes). after_all o (map (change_within place dev) changes)) (change_told c outcomes)

  first_told : (first : ℕ) → after_device place dev (first_on first) ≡ first_on (number_within place dev [] first)
  first_told first =
      put_told [] (built (first_top first)) _ (λ q. never_used)
      (ap built (elim (begins_with place []) as (λ b. cond b (record (first_top first) { dev = dev }) (first_top first) ≡ first_top (cond b dev first)) [ true ↦ refl | false ↦ refl ]))

  outcomes_told : (first : ℕ) (changes : List Change) → outcomes_after (number_within place dev [] first) (map (change_within place dev) changes) ≡ after_device place dev (outcomes_after first changes)
  outcomes_told first changes = sym (all_told (first_on first) changes ∙ ap (λ (o : Outcomes). after_all o (map (change_within place dev) changes)) (first_told first))

  -- so each moment tells the device
  pub moment_told : (old new : ChangeLog) (moment : ℕ) → TellsDevice old place dev new → outcomes_by new.first_dev new.changes.items moment ≡ after_device place dev (outcomes_by old.first_dev old.changes.items moment)
  moment_told old new moment t =
      (λ i. outcomes_by (t.first i) (t.changes i) moment)
      ∙ ap (outcomes_after (number_within place dev [] old.first_dev)) (take-map (change_within place dev) moment old.changes.items)
      ∙ outcomes_told old.first_dev (take moment old.changes.items)

  pub now_told : (old new : ChangeLog) → TellsDevice old place dev new → outcomes_after new.first_dev new.changes.items ≡ after_device place dev (outcomes_after old.first_dev old.changes.items)
  now_told old new t = (λ i. outcomes_after (t.first i) (t.changes i)) ∙ outcomes_told old.first_dev old.changes.items
