-- What holds of a pattern that was compiled.
use Rattle.std.specs.Prelude.{◌≡◌, ℕ, ◌≤◌, Bool, true, List, Option, IfSome}
use Rattle.hir_tree.specs.Cores.{core_of}
use Rattle.hir_tree.specs.Spots.{groups_of, spots_of}
use Rattle.hir_tree.specs.Tree.{look, tree_of}
use Rattle.hir_tree.specs.declared.hir.Hir.{Hir}
use Rattle.hir_tree.specs.declared.look.Look.TheVariants.{StartLF}
use Rattle.hir_program.specs.Laid.{GivesPreferred}
use Rattle.hir_core.specs.Pass.{counted}
use Rattle.hir_tree.specs.PlainText.{text_of}
use Rattle.hir_program.specs.Program.{ClosesFall}
use Rattle.hir_program.specs.Scan.{IsFilterOf}
use Rattle.hir_program.specs.declared.scan.Scan.{Scan}
use Rattle.hir_program.specs.declared.spot.Spot.{Spot}

-- The groups, the program, its filter and the text are those of the pattern, and what is taken for the start of a line is one.
pub record IsCompiled (hir : Hir) (last_group : ℕ) (spots : List Spot) (scan : Option Scan) (bytes : Option (List ℕ)) (is_line_start : Bool) : Type 0 where
  pub groups : last_group ≡ groups_of hir
  pub falls : ClosesFall spots
  pub preferred : GivesPreferred (core_of hir) spots
  pub visits : counted spots ≤ spots_of hir
  pub filter : IfSome scan (IsFilterOf spots)
  pub text : bytes ≡ text_of hir
  pub line_start : is_line_start ≡ true → tree_of hir ≡ look StartLF
