-- Calls of a walk, one after another.
use Rattle.std.proofs.Common.{◌≡◌, ◌+◌, ◌≤◌, ◌⊎◌, ℕ, Bool, true, List, [], Option, Some, None, Err, refl, sym, subst, ap, arith, inl, inr}
use Rattle.std.specs.Prelude.{◌&&◌, IsTrue, is_some}
use Rattle.std.proofs.lemmas.Bool.{false≢true}
use Rattle.sd_io.specs.Disk.{DiskState}
use Rattle.walk_rest.specs.declared.error.Error.TheVariants as error
use Rattle.walk_rest.specs.declared.level.Entries.{Entries}
use Rattle.walk_rest.specs.declared.level.Entries.TheVariants.{Unread, Open, Kept}
use Rattle.walk_rest.specs.declared.level.Folder.{Folder}
use Rattle.walk_rest.specs.declared.level.Level.{Level}
use Rattle.walk_rest.specs.Listing.{manner_of}
use Rattle.walk_rest.specs.Level.{HasParts, IsAllowed}
use Rattle.walk_rest.specs.Plan.{Comparison, Item}
use Rattle.walk_rest.specs.Rest.{Rest}
use Rattle.walk_steps.specs.declared.inside.Inside.{Inside}
use Rattle.walk_steps.specs.Causes.{CountsFaults, FitsTree, faults_due, faults_told}
use Rattle.walk_steps.specs.Inside.{HasRest, IsUnbegun, SameWalk, levels_of}
use Rattle.walk_steps.specs.Listed.{GivesListed, waits_in}
use Rattle.walk_steps.specs.Steps.{HasUnreadTop, StepsTo}
use Rattle.walkdir.specs.Calls.{Asks, Calls, all_below, all_told, no_more, gave, gave_none, skipped, asked}
use Rattle.walk_steps.specs.Promises.{GivesNext, SkipsTop}
use Rattle.walkdir.specs.Steps.{is_unread, lies_unread}
use Rattle.walkdir.proofs.WalkLemmas.{still_rest_after}

-- ---- counts

counts_join : (first more : ℕ) (old mid new : DiskState) (x y z : List Level) → mid.faults ≤ new.faults → CountsFaults first old x mid y → CountsFaults more mid y new z → CountsFaults (first + more) old x new z
counts_join first more old mid new x y z later (inl a) (inl b) = inl (omega (arith, a, b))
counts_join first more old mid new x y z later (inr a) (inl b) = inr (omega (arith, a, later))
counts_join first more old mid new x y z later a (inr b) = inr b

counts_less : (n : ℕ) (old mid new : DiskState) (x y z : List Level) → old.faults ≤ mid.faults → faults_due y ≤ faults_due x → CountsFaults n mid y new z → CountsFaults n old x new z
counts_less n old mid new x y z later less (inl a) = inl (omega (arith, a, later, less))
counts_less n old mid new x y z later less (inr a) = inr a

pub counts_after : (n : ℕ) (old mid new : DiskState) (x y z : List Level) → mid.faults ≤ new.faults → CountsFaults 0 old x mid y → CountsFaults n mid y new z → CountsFaults n old x new z
counts_after n old mid new x y z later (inl a) (inl b) = inl (omega (arith, a, b))
counts_after n old mid new x y z later (inr a) (inl b) = inr (omega (arith, a, later))
counts_after n old mid new x y z later a (inr b) = inr b

-- nothing was due at the beginning
told_allowed : (n : ℕ) (old new : DiskState) (x z : List Level) → faults_due x ≡ 0 → CountsFaults n old x new z → IsAllowed n old.faults new.faults
told_allowed n old new x z none (inl h) = inl (omega (arith, none, h))
told_allowed n old new x z none (inr h) = inr h

-- ---- a directory that was entered

pub unread_top : (top : Option Level) → HasUnreadTop top → lies_unread top ≡ true
unread_top top h = rw (h.on_top, h.folder_is, h.unread) refl

pub top_unread : (top : Option Level) → lies_unread top ≡ true → HasUnreadTop top
top_unread None lies = absurd (false≢true lies)
top_unread (Some level) lies = by level.folder level.entries refl refl lies
  where
    by : (folder : Option Folder) (entries : Entries) → level.folder ≡ folder → level.entries ≡ entries → (is_some folder && is_unread entries) ≡ true → HasUnreadTop (Some level)
    by None entries f e lies = absurd (false≢true lies)
    by (Some folder) Unread f e lies = record { level = level; folder = folder; on_top = refl; folder_is = f; unread = e }
    by (Some folder) (Open list) f e lies = absurd (false≢true lies)
    by (Some folder) (Kept kept) f e lies = absurd (false≢true lies)

module _ {S : Type 0} where
  -- a walk that is over has a rest, in which nothing is left
  rest_over : (state : DiskState) (sorts : Bool) (by : Comparison) (inside : Inside S) → levels_of inside ≡ [] → HasRest state sorts by inside []
  rest_over state sorts by inside over = record {
    parts = subst (λ (levels : List Level). HasParts state (manner_of state.tree inside.options sorts by inside.root) inside.root [] levels []) (sym over) tt;
    device = λ counts. inl (subst IsUnbegun (sym over) tt);
  }

  -- a rest by the order that stays
  pub fits_by : (tells : Bool) (sorts : S → Bool) (compares_by : S → Comparison → Type 0) (state : DiskState) (old new : Inside S) → SameWalk old new
      → (IsTrue tells → (by : Comparison) × (rest : Rest) × compares_by old.order by × HasRest state (sorts old.order) by new rest) → FitsTree tells compares_by state (sorts new.order) new
  fits_by tells sorts compares_by state old new same fits = λ told.
      let f = fits told in
      let C : S → Type 0 = λ order. compares_by order f.0 in
      let H : Bool → Type 0 = λ b. HasRest state b f.0 new f.1 in
      (f.0, f.1, subst C (sym same.order) f.2, subst H (sym (ap sorts same.order)) f.3)

  fits_next : (tells : Bool) (sorts : S → Bool) (compares_by : S → Comparison → Type 0) (old mid : DiskState) (before between : Inside S) (answer : Option Item)
      → GivesNext tells (sorts before.order) (compares_by before.order) old before answer mid between → FitsTree tells compares_by old (sorts before.order) before
      → FitsTree tells compares_by mid (sorts between.order) between
  fits_next tells sorts compares_by old mid before between answer gives fits = fits_by tells sorts compares_by mid before between gives.same (λ told.
      (let f = fits told in at f.0 f.1 f.2 (gives.step told f.0 f.1 f.2 f.3)))
    where
      at : (by : Comparison) (rest : Rest) → compares_by before.order by → (answer ≡ Some (Err error.NoMemory)) ⊎ StepsTo old (sorts before.order) by rest answer mid between
          → (by : Comparison) × (rest : Rest) × compares_by before.order by × HasRest mid (sorts before.order) by between rest
      at by rest compares (inl named) = (by, [], compares, rest_over mid (sorts before.order) by between (gives.gave_up named))
      at by rest compares (inr step) = (by, step.new, compares, step.left)

  fits_skip : (tells : Bool) (sorts : S → Bool) (compares_by : S → Comparison → Type 0) (old mid : DiskState) (before between : Inside S)
      → SkipsTop tells (sorts before.order) old before mid between → FitsTree tells compares_by old (sorts before.order) before → FitsTree tells compares_by mid (sorts between.order) between
  fits_skip tells sorts compares_by old mid before between skips fits = fits_by tells sorts compares_by mid before between skips.same (λ told.
      (let f = fits told in let s = skips.skipped told f.0 f.1 f.3 in (f.0, s.new, f.2, s.left)))

  fits_ask : (tells : Bool) (sorts : Bool) (compares_by : S → Comparison → Type 0) (old mid : DiskState) (inside : Inside S) → Asks old mid → FitsTree tells compares_by old sorts inside → FitsTree tells compares_by mid sorts inside
  fits_ask tells sorts compares_by old mid inside asks fits = λ told.
      let f = fits told in (f.0, f.1, f.2, still_rest_after old mid sorts f.0 inside f.1 asks.tree.tree asks.lists.open_list f.3)

  -- the count of faults never falls
  calls_later : (tells : Bool) (sorts : S → Bool) (compares_by : S → Comparison → Type 0) (old new : DiskState) (before now : Inside S) (items : List Item)
      → Calls tells sorts compares_by old before items new now → old.faults ≤ new.faults
  calls_later tells sorts compares_by old new before now items no_more = omega arith
  calls_later tells sorts compares_by old new before now items (gave {mid = mid} {between = between} {items = more} gives calls) =
      let a = gives.faults in let b = calls_later tells sorts compares_by mid new between now more calls in omega (arith, a, b)
  calls_later tells sorts compares_by old new before now items (gave_none {mid = mid} {between = between} gives calls) =
      let a = gives.faults in let b = calls_later tells sorts compares_by mid new between now items calls in omega (arith, a, b)
  calls_later tells sorts compares_by old new before now items (skipped {mid = mid} {between = between} skips calls) =
      let a = skips.faults in let b = calls_later tells sorts compares_by mid new between now items calls in omega (arith, a, b)
  calls_later tells sorts compares_by old new before now items (asked {mid = mid} asks calls) =
      let a = asks.faults in let b = calls_later tells sorts compares_by mid new before now items calls in omega (arith, a, b)

  calls_counted : (tells : Bool) (sorts : S → Bool) (compares_by : S → Comparison → Type 0) (old new : DiskState) (before now : Inside S) (items : List Item)
      → FitsTree tells compares_by old (sorts before.order) before → Calls tells sorts compares_by old before items new now
      → CountsFaults (all_told tells items) old (levels_of before) new (levels_of now)
  calls_counted tells sorts compares_by old new before now items fits no_more = inl (omega arith)
  calls_counted tells sorts compares_by old new before now items fits (gave {mid = mid} {between = between} {item = item} {items = more} gives calls) =
      counts_join (faults_told tells (Some item)) (all_told tells more) old mid new (levels_of before) (levels_of between) (levels_of now) (calls_later tells sorts compares_by mid new between now more calls) (gives.counted fits)
      (calls_counted tells sorts compares_by mid new between now more (fits_next tells sorts compares_by old mid before between (Some item) gives fits) calls)
  calls_counted tells sorts compares_by old new before now items fits (gave_none {mid = mid} {between = between} gives calls) =
      counts_after (all_told tells items) old mid new (levels_of before) (levels_of between) (levels_of now) (calls_later tells sorts compares_by mid new between now items calls) (gives.counted fits)
      (calls_counted tells sorts compares_by mid new between now items (fits_next tells sorts compares_by old mid before between None gives fits) calls)
  calls_counted tells sorts compares_by old new before now items fits (skipped {mid = mid} {between = between} skips calls) =
      let same = skips.faults in
      counts_less (all_told tells items) old mid new (levels_of before) (levels_of between) (levels_of now) (omega (arith, same)) skips.due
      (calls_counted tells sorts compares_by mid new between now items (fits_skip tells sorts compares_by old mid before between skips fits) calls)
  calls_counted tells sorts compares_by old new before now items fits (asked {mid = mid} asks calls) =
      counts_less (all_told tells items) old mid new (levels_of before) (levels_of before) (levels_of now) asks.faults (omega arith)
      (calls_counted tells sorts compares_by mid new before now items (fits_ask tells (sorts before.order) compares_by old mid before asks fits) calls)

  pub all_counted : (tells : Bool) (sorts : S → Bool) (compares_by : S → Comparison → Type 0) (old new : DiskState) (before now : Inside S) (items : List Item) → faults_due (levels_of before) ≡ 0
      → FitsTree tells compares_by old (sorts before.order) before → Calls tells sorts compares_by old before items new now → IsAllowed (all_told tells items) old.faults new.faults
  all_counted tells sorts compares_by old new before now items none fits calls =
      told_allowed (all_told tells items) old new (levels_of before) (levels_of now) none (calls_counted tells sorts compares_by old new before now items fits calls)

  -- ---- entries below the root

  calls_listed : (tells : Bool) (sorts : S → Bool) (compares_by : S → Comparison → Type 0) (old new : DiskState) (before now : Inside S) (items : List Item)
      → Calls tells sorts compares_by old before items new now → GivesListed (all_below items) old (levels_of before) new (levels_of now)
  calls_listed tells sorts compares_by old new before now items no_more = omega arith
  calls_listed tells sorts compares_by old new before now items (gave {mid = mid} {between = between} {item = item} {items = more} gives calls) =
      let a = gives.listed_each in let b = calls_listed tells sorts compares_by mid new between now more calls in omega (arith, a, b)
  calls_listed tells sorts compares_by old new before now items (gave_none {mid = mid} {between = between} gives calls) =
      let a = gives.listed_each in let b = calls_listed tells sorts compares_by mid new between now items calls in omega (arith, a, b)
  calls_listed tells sorts compares_by old new before now items (skipped {mid = mid} {between = between} skips calls) =
      let a = skips.waits in let same = skips.listed in let b = calls_listed tells sorts compares_by mid new between now items calls in omega (arith, a, same, b)
  calls_listed tells sorts compares_by old new before now items (asked {mid = mid} asks calls) =
      let same = asks.lists.listed in let b = calls_listed tells sorts compares_by mid new before now items calls in omega (arith, same, b)

  pub all_listed : (tells : Bool) (sorts : S → Bool) (compares_by : S → Comparison → Type 0) (old new : DiskState) (before now : Inside S) (items : List Item) → waits_in (levels_of before) ≡ 0
      → Calls tells sorts compares_by old before items new now → all_below items + waits_in (levels_of now) + old.listed ≤ new.listed
  all_listed tells sorts compares_by old new before now items none calls =
      let all = calls_listed tells sorts compares_by old new before now items calls in
      omega (arith, none, all)
