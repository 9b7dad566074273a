-- A search before its first match, and at it.
use Rattle.std.specs.Prelude.{◌≡◌, ℕ, List, Some, None, length}
use Rattle.grep_matcher.specs.Cover.{IsAfter, IsFirst, accepts}
use Rattle.grep_matcher.specs.Span.{Span}
use Rattle.grep_regex.specs.Matching.{end_at}
use Rattle.hir_tree.specs.Tree.{tree_of}
use Rattle.sd_replace.specs.Searching.{AreOfMatch}
use Rattle.sd_replace.specs.declared.replacer.Replacer.{Replacer}
use Rattle.sd_replace.specs.declared.searching.Search.{Search}

-- the search of a replacer, which has found nothing yet
pub record IsAtTheStart (replacer : Replacer) (search : Search) : Type 0 where
  pub pattern : search.matcher.now ≡ replacer.matcher
  pub from : search.from ≡ 0
  pub last : search.last ≡ None

-- the same, which found the first match of a text last, and holds its groups
pub record StandsAtTheFirst (replacer : Replacer) (text : List ℕ) (search : Search) (span : Span) : Type 0 where
  pub pattern : search.matcher.now ≡ replacer.matcher
  pub first : IsFirst (accepts None (end_at (tree_of replacer.matcher.searcher) text)) 0 (length text) (Some span)
  pub after : IsAfter span search.from
  pub last : search.last ≡ Some span.end
  pub groups : AreOfMatch (tree_of replacer.matcher.searcher) text span.start search.groups
