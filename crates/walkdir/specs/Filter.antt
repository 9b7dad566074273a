-- What a filter gives of the walk that it stands on.
use Rattle.std.specs.Prelude.{◌≡◌, ◌≤◌, ℕ, Bool, true, false, Option, Some, None, Ok, Err}
use Rattle.std.proofs.Common.{sym, subst, refl, arith}
use Rattle.std.specs.Borrow.{Bor}
use Rattle.std.specs.Bool.{MatchBool}
use Rattle.std.specs.Fn.{Shared, FnReturnsAt}
use Rattle.walk_rest.specs.declared.entry.DirEntry.{DirEntry}
use Rattle.walk_rest.specs.declared.error.Error.{Error}
use Rattle.walk_rest.specs.Plan.{Item}

-- a predicate answers by this test
abbrev pub KeepsBy : {F : Type 0} → Shared F (Bor DirEntry × Unit {0}) Bool → F → (DirEntry → Bool) → Type 0
KeepsBy g f keeps = (entry : DirEntry) (answer : Bool) → FnReturnsAt g f entry answer → answer ≡ keeps entry

-- the directory that a walk has just entered is skipped
abbrev pub PassesOver : {W : Type 0} → (W → Bool) → (W → W → Type 0) → W → W → Type 0
PassesOver has_entered Skips old new = MatchBool (has_entered old) (Skips old new) (new ≡ old)

-- Of a walk: what `next` gives, whether it has just entered a directory, and what a skip does. Of a predicate: what it may answer.
module _ {W : Type 0} (Gives : W → Option Item → W → Type 0) (has_entered : W → Bool) (Skips : W → W → Type 0) (Tests : DirEntry → Bool → Type 0) where
  -- The answer is the walk's next entry that meets the test, or error, or its end. Entries that don't meet it are passed over, each with the directory
  -- that it entered.
  pub data Filters : W → Option Item → W → Type 0 where
    ended : {old new : W} → Gives old None new → Filters old None new
    fails : {old new : W} {failed : Error} → Gives old (Some (Err failed)) new → Filters old (Some (Err failed)) new
    meets : {old new : W} {entry : DirEntry} → Gives old (Some (Ok entry)) new → Tests entry true → Filters old (Some (Ok entry)) new
    passes : {old mid next new : W} {entry : DirEntry} {answer : Option Item} → Gives old (Some (Ok entry)) mid → Tests entry false
        → PassesOver has_entered Skips mid next → Filters next answer new → Filters old answer new

-- ---- what filters keep

-- what a skip keeps, stays where an entry is passed over
pub passes_on : {W : Type 0} {Skips : W → W → Type 0} (Keeps : W → Type 0) → ((old new : W) → Keeps old → Skips old new → Keeps new)
    → (old new : W) → Keeps old → (entered : Bool) → MatchBool entered (Skips old new) (new ≡ old) → Keeps new
passes_on Keeps skips old new keeps true over = skips old new keeps over
passes_on Keeps skips old new keeps false over = subst Keeps (sym over) keeps

module _ {W : Type 0} {Gives : W → Option Item → W → Type 0} {has_entered : W → Bool} {Skips : W → W → Type 0} where
  -- what a `next` and a skip of the walk keep, a `next` of the filter keeps
  pub filters_go_on : {Tests : DirEntry → Bool → Type 0} (Keeps : W → Type 0)
      → ((old : W) (answer : Option Item) (new : W) → Keeps old → Gives old answer new → Keeps new)
      → ((old new : W) → Keeps old → Skips old new → Keeps new) → (old : W) (answer : Option Item) (new : W) → Keeps old
      → Filters Gives has_entered Skips Tests old answer new → Keeps new
  filters_go_on Keeps next skips old answer new keeps (ended gives) = next old None new keeps gives
  filters_go_on Keeps next skips old answer new keeps (fails {failed = failed} gives) = next old (Some (Err failed)) new keeps gives
  filters_go_on Keeps next skips old answer new keeps (meets {entry = entry} gives tests) = next old (Some (Ok entry)) new keeps gives
  filters_go_on Keeps next skips old answer new keeps (passes {mid = mid} {next = then} {entry = entry} gives tests over filters) =
      filters_go_on Keeps next skips then answer new (passes_on Keeps skips mid then (next old (Some (Ok entry)) mid keeps gives) (has_entered mid) over) filters

  -- a number that no `next` and no skip of the walk raises, no `next` of the filter raises
  pub filters_no_more : {Tests : DirEntry → Bool → Type 0} (count : W → ℕ) → ((old : W) (answer : Option Item) (new : W) → Gives old answer new → count new ≤ count old)
      → ((old new : W) → Skips old new → count new ≤ count old) → (old : W) (answer : Option Item) (new : W)
      → Filters Gives has_entered Skips Tests old answer new → count new ≤ count old
  filters_no_more count next skips old answer new filters =
      filters_go_on (λ (walk : W). count walk ≤ count old) (λ a given b so_far gives. at_most (next a given b gives) so_far)
      (λ a b so_far skip. at_most (skips a b skip) so_far) old answer new (omega arith) filters
    where
      at_most : {a b c : ℕ} → a ≤ b → b ≤ c → a ≤ c
      at_most h k = omega (arith, h, k)

  -- where the walk gives nothing, the filter gives nothing
  pub filters_none : {Tests : DirEntry → Bool → Type 0} (old : W) → ((answer : Option Item) (new : W) → Gives old answer new → answer ≡ None)
      → (answer : Option Item) (new : W) → Filters Gives has_entered Skips Tests old answer new → answer ≡ None
  filters_none old over answer new (ended gives) = refl
  filters_none old over answer new (fails {failed = failed} gives) = over (Some (Err failed)) new gives
  filters_none old over answer new (meets {entry = entry} gives tests) = over (Some (Ok entry)) new gives
  filters_none old over answer new (passes {mid = next} {entry = entry} gives tests over_it filters) = absurd (cc (over (Some (Ok entry)) next gives))

  -- after the end of a filter it gives nothing
  pub filters_end : {Tests Others : DirEntry → Bool → Type 0}
      → ((old mid : W) (answer : Option Item) (new : W) → Gives old None mid → Gives mid answer new → answer ≡ None)
      → (old mid : W) (answer : Option Item) (new : W) → Filters Gives has_entered Skips Tests old None mid
      → Filters Gives has_entered Skips Others mid answer new → answer ≡ None
  filters_end fused old mid answer new (ended gives) more = filters_none mid (λ given next. fused old mid given next gives) answer new more
  filters_end fused old mid answer new (passes {next = then} gives tests over filters) more = filters_end fused then mid answer new filters more

  -- a filter by a predicate goes by each test that the predicate answers by
  pub filters_by : {Tests Others : DirEntry → Bool → Type 0} → ((entry : DirEntry) (answer : Bool) → Tests entry answer → Others entry answer)
      → (old : W) (answer : Option Item) (new : W) → Filters Gives has_entered Skips Tests old answer new → Filters Gives has_entered Skips Others old answer new
  filters_by by old answer new (ended gives) = ended gives
  filters_by by old answer new (fails gives) = fails gives
  filters_by by old answer new (meets {entry = entry} gives tests) = meets gives (by entry true tests)
  filters_by by old answer new (passes {next = then} {entry = entry} gives tests over filters) = passes gives (by entry false tests) over (filters_by by then answer new filters)
