-- What the calls of a walk do.
use Rattle.std.specs.Prelude.{◌≡◌, ℕ, Bool, true, false, ◌&&◌, is_some, Option, Some, None, Ok, Err, [], List}
use Rattle.std.proofs.Common.{sym, subst}
use Rattle.sd_io.specs.Disk.{DiskState, SameTree}
use Rattle.walk_rest.specs.declared.level.Entries.{Entries}
use Rattle.walk_rest.specs.declared.level.Entries.TheVariants.{Unread, Open, Kept}
use Rattle.walk_rest.specs.declared.level.Level.{Level}
use Rattle.walk_rest.specs.declared.options.Options.{Options}
use Rattle.walk_rest.specs.Plan.{Item, is_directory}
use Rattle.walk_steps.specs.declared.inside.Inside.{Inside}
use Rattle.walk_steps.specs.Inside.{SameWalk}
use Rattle.walk_steps.specs.Sound.{IsSound, SameOthers, StaysWithin}
use Rattle.walk_steps.specs.Steps.{LiesUnread}

-- ---- the last item

-- an entry of kind `Directory`
abbrev pub is_directory_item : Option Item → Bool
is_directory_item None = false
is_directory_item (Some (Ok entry)) = is_directory entry.kind
is_directory_item (Some (Err failed)) = false

abbrev pub is_unread : Entries → Bool
is_unread Unread = true
is_unread (Open list) = false
is_unread (Kept kept) = false

-- the directory on top was entered, and nothing was read of it
abbrev pub lies_unread : Option Level → Bool
lies_unread None = false
lies_unread (Some level) = is_some level.folder && is_unread level.entries

module _ {S : Type 0} where
  -- ---- the beginning

  -- the walk goes so, and only the root's level stands, unread
  pub record Begins (options : Options) (order : S) (root : List ℕ) (inside : Inside S) : Type 0 where
    pub options_are : inside.options ≡ options
    pub order_is : inside.order ≡ order
    pub root_is : inside.root ≡ root
    pub lower : inside.stack.items ≡ []
    pub top : Level
    pub on_top : inside.top ≡ Some top
    pub unread : LiesUnread top None

  -- ---- the order stays

  pub still_sound : (sorts : S → Bool) (state : DiskState) (old new : Inside S) → SameWalk old new → IsSound state (sorts old.order) new → IsSound state (sorts new.order) new
  still_sound sorts state old new same sound = subst (λ (order : S). IsSound state (sorts order) new) (sym same.order) sound

  pub still_compares : (can : S → Type 0) (old new : Inside S) → SameWalk old new → can old.order → can new.order
  still_compares can old new same may = subst can (sym same.order) may

-- ---- the end

-- These levels' lists are closed, and nothing else changed.
pub record ClosesAll (old : DiskState) (levels : List Level) (new : DiskState) : Type 0 where
  pub within : StaysWithin 0 old levels new []
  pub others : SameOthers old levels new []
  pub listed : new.listed ≡ old.listed
  pub tree : SameTree old new
  pub faults : new.faults ≡ old.faults
