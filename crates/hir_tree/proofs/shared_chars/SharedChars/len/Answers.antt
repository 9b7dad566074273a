use Rattle.std.proofs.Common.{subst}
use Rattle.hir_tree.specs.Ranges.{AreCharRanges}
use Rattle.hir_tree.proofs.char_ranges.CharRangesLemmas.{chars_are_ranges}
use Rattle.hir_tree.proofs.shared_chars.SharedChars.len.Goals as goal

pub returns-clause-apart : goal.returns-clause-apart
returns-clause-apart c = subst AreCharRanges c.self.view_is (chars_are_ranges c.self.inside.ranges c.self.invariant.0 c.self.invariant.1)
