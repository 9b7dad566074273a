-- A replacer as data.
use Rattle.hir_tree.specs.Tree.{tree_of}
use Rattle.sd_replace.specs.Replacement.{Replacement}
use Rattle.sd_replace.specs.declared.replacer.Replacer.{Replacer}

-- the data of a replacer
abbrev pub replacement_of : Replacer → Replacement
replacement_of replacer = record {
  pattern = tree_of replacer.matcher.searcher;
  substitute = replacer.substitute;
  limit = replacer.limit;
  counted = replacer.counted;
}
