-- Sets of anchors.
use Rattle.std.specs.Prelude.{Bool}
use Rattle.grep_regex.specs.NonMatching.{is_anchor, is_crlf_anchor, is_text_anchor}
use Rattle.grep_regex.specs.declared.non_matching.Anchors.{Anchors}
use Rattle.grep_regex.specs.declared.non_matching.Anchors.TheVariants.{All, Crlf, Text}
use Rattle.hir_tree.specs.declared.look.Look.{Look}

-- a look is one of these anchors
abbrev pub includes : Anchors → Look → Bool
includes All = is_anchor
includes Crlf = is_crlf_anchor
includes Text = is_text_anchor
