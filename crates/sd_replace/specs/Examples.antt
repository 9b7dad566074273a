-- Worked examples of replacers.
use Rattle.std.specs.Prelude.{ℕ, true, [], ◌∷◌, codes, None, Some}
use Rattle.hir_tree.specs.Tree.{Tree, literal, capture, repetition, alternation, trees}
use Rattle.sd_replace.specs.Replacement.{Replacement}
use Rattle.sd_replace.specs.declared.replacer.Counted.TheVariants.{OverAll, InEachLine}
use Rattle.sd_replace.specs.declared.replacer.Substitute.{Substitute}

-- every match of a pattern gives way
abbrev pub every : Tree → Substitute → Replacement
every tree with = record { pattern = tree; substitute = with; limit = 0; counted = OverAll }

-- the first so many over the whole, and in each line
abbrev pub first : ℕ → Tree → Substitute → Replacement
first n tree with = record { pattern = tree; substitute = with; limit = n; counted = OverAll }

abbrev pub first_in_lines : ℕ → Tree → Substitute → Replacement
first_in_lines n tree with = record { pattern = tree; substitute = with; limit = n; counted = InEachLine }

-- the letter `a`, and `x*`
abbrev pub a : Tree
a = literal (codes "a")

abbrev pub xs : Tree
xs = repetition 0 None true (literal (codes "x"))

-- `(a)|(?P<n>b)`
abbrev pub a_or_b : Tree
a_or_b = alternation (trees (capture 1 None a ∷ capture 2 (Some (codes "n")) (literal (codes "b")) ∷ []))
