-- Which entries of a walk below a top the rules leave out.
use Rattle.std.specs.Prelude.{◌==◌, ℕ, nat_lt, Bool, false, List, [], ◌∷◌, Option, Some, None, unwrap_or, if◌then◌else◌}
use Rattle.walk_rest.specs.declared.entry.DirEntry.{DirEntry}
use Rattle.walk_rest.specs.Plan.{is_directory, path_below}
use Rattle.sd_ignore.specs.declared.rule.Rule.{Rule}
use Rattle.sd_ignore.specs.Fitting.{names_of}
use Rattle.sd_ignore.specs.Says.{said_of}

-- what a text has after another one; nothing where it doesn't begin with that
abbrev pub after_front : List ℕ → List ℕ → Option (List ℕ)
after_front [] text = Some text
after_front (c ∷ front) [] = None
after_front (c ∷ front) (d ∷ text) = if d == c then after_front front text else None

-- what the path of something below a top has after the top's
abbrev pub names_after : List ℕ → List ℕ → Option (List ℕ)
names_after top path = after_front (path_below top []) path

-- the last rule that fits ignores the node
abbrev pub out_by : List Rule → Bool → Option (List ℕ) → Bool
out_by rules directory None = false
out_by rules directory (Some names) = unwrap_or (said_of rules (names_of names) directory) false

-- the entry is that of something below the top, which the rules ignore
abbrev pub leaves_out : List Rule → List ℕ → DirEntry → Bool
leaves_out rules top entry = if nat_lt 0 entry.depth then out_by rules (is_directory entry.kind) (names_after top entry.path) else false
