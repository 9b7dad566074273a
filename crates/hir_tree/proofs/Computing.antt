-- One name to unfold where a proof computes looks on a literal.
use Rattle.unicode.proofs.PerlComputing.{ucd_perl}
use Rattle.hir_tree.specs.Looks.{holds}
use Rattle.hir_tree.specs.Sides.{ascii_sides, unicode_sides, char_before}

-- `unfolding looks` opens when looks hold, down to the table of word characters
unfoldable pub looks : Unit {0}
unfolding holds ascii_sides unicode_sides char_before ucd_perl
looks = tt
