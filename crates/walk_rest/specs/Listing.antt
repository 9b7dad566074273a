-- The listing of a root.
use Rattle.std.specs.Prelude.{◌≡◌, ◌-◌, ◌^◌, ℕ, Bool, true, false, List, [], ◌∷◌, Option, Some, None, Err, if◌then◌else◌}
use Rattle.std.specs.Option.{option_map_or}
use Rattle.sd_io.specs.Tree.{Node, Tree}
use Rattle.sd_io.specs.Files.{kind_of}
use Rattle.walk_rest.specs.declared.entry.DirEntry.{DirEntry}
use Rattle.walk_rest.specs.declared.error.Error.{Error}
use Rattle.walk_rest.specs.declared.error.Error.TheVariants as error
use Rattle.walk_rest.specs.declared.options.Options.{Options}
use Rattle.walk_rest.specs.Plan.{Comparison, Item, Plan, done, past, items_in, Manner, IsPlan, node_to}

-- the options that a walk has at first
abbrev pub first_options : Options
first_options = record {
  min_depth = 0;
  max_depth = 2 ^ 64 - 1;
  max_open = 10;
  contents_first = false;
  follow_links = false;
  follow_root_links = true;
  same_file_system = false;
}

-- the root's own entry
abbrev pub root_entry : List ℕ → Node → DirEntry
root_entry root node = record { path = root; kind = kind_of node.content; depth = 0; ino = 0; followed = false }

-- how a walk begins: with an error alone, or with the root's entry
pub data Beginning : Type 0 where
  ends : Error → Beginning
  begins : DirEntry → Beginning

abbrev pub begins_with : List ℕ → Option Node → Beginning
begins_with root None = ends (error.Absent root 0)
begins_with root (Some node) = begins (root_entry root node)

-- under `same_file_system` the root's device is taken first, links followed
abbrev pub beginning_by : Options → List ℕ → Option Node → Option Node → Beginning
beginning_by options root followed unfollowed =
    if options.same_file_system then option_map_or (λ (node : Node). begins_with root unfollowed) followed (ends (error.Absent root 0))
    else begins_with root unfollowed

abbrev pub beginning : Tree → Options → List ℕ → Beginning
beginning tree options root = beginning_by options root (node_to tree root true) (node_to tree root false)

abbrev pub device_to : Tree → List ℕ → ℕ
device_to tree root = option_map_or (λ (node : Node). node.dev) (node_to tree root true) 0

-- a walk of a root in a tree
abbrev pub manner_of : Tree → Options → Bool → Comparison → List ℕ → Manner
manner_of tree options sorts compare root = record { options = options; sorts = sorts; compare = compare; device = device_to tree root }

-- The plan is that of the root.
abbrev pub IsBegun : Tree → Manner → List ℕ → Beginning → Plan → Type 0
IsBegun tree manner root (ends error) plan = plan ≡ past root (Some (Err error)) done
IsBegun tree manner root (begins entry) plan = IsPlan tree manner [] (entry ∷ []) plan

abbrev pub IsRootPlan : Tree → Manner → List ℕ → Plan → Type 0
IsRootPlan tree manner root plan = IsBegun tree manner root (beginning tree manner.options root) plan

-- These items are the listing of a root.
pub record IsListing (tree : Tree) (options : Options) (sorts : Bool) (compare : Comparison) (root : List ℕ) (items : List Item) : Type 0 where
  pub plan : Plan
  pub planned : IsRootPlan tree (manner_of tree options sorts compare root) root plan
  pub same : items ≡ items_in plan
