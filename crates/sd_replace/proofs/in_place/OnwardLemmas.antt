-- What is found in the room of the old bytes is what is found of these.
use Rattle.std.proofs.Common.{◌≡◌, ℕ, ◌≤◌, true, List, [], ◌∷◌, ◌++◌, length, drop, slice_range, Option, Some, None, refl, sym, subst, ap, ◌∙◌, arith}
use Rattle.std.specs.Prelude.{IfSome, option_and_then}
use Rattle.std.specs.Option.{option_map_or}
use Rattle.std.proofs.lemmas.Option.{none-some, same_Some}
use Rattle.grep_matcher.specs.Cover.{IsFirst, accepts}
use Rattle.grep_matcher.specs.Groups.{group_at}
use Rattle.grep_matcher.specs.References.{group_text}
use Rattle.grep_matcher.specs.Span.{Span}
use Rattle.grep_regex.specs.Matching.{end_at, match_at, spans_at, spans_of}
use Rattle.grep_regex.specs.MatchingLemmas.{group-span, span}
use Rattle.grep_regex.specs.NonMatching.{whole_end}
use Rattle.hir_core.specs.Found.{span_of}
use Rattle.hir_tree.specs.Cores.{core_of_tree}
use Rattle.hir_tree.specs.Groups.{EachLiesFrom, ends_of}
use Rattle.hir_tree.specs.Onward.{GroupsLieAhead, MatchesByWhatFollows, looks_nowhere}
use Rattle.hir_tree.specs.Spots.{groups_of_tree}
use Rattle.hir_tree.specs.Tree.{Tree}
use Rattle.sd_replace.specs.Replacement.{substituted}
use Rattle.sd_replace.specs.Searching.{AreOfMatch}
use Rattle.sd_replace.specs.Templates.{ArePiecesOf, pieces_text}
use Rattle.sd_replace.specs.declared.replacer.Substitute.{Substitute}
use Rattle.sd_replace.specs.declared.template.Piece.{Piece}
use Rattle.sd_replace.specs.declared.template.Piece.TheVariants.{Bytes, Group}
use Rattle.sd_replace.proofs.in_place.InPlaceLemmas.{left_later, same_piece}
use Rattle.sd_replace.proofs.template.PieceLemmas.{text_made}

-- pieces stand for the same where groups have the same texts
pub same_pieces : (one other : ℕ → List ℕ) → ((i : ℕ) → one i ≡ other i) → (pieces : List Piece) → pieces_text one pieces ≡ pieces_text other pieces
same_pieces one other same [] = refl
same_pieces one other same (Bytes bytes ∷ pieces) = ap (λ (l : List ℕ). bytes.items ++ l) (same_pieces one other same pieces)
same_pieces one other same (Group number ∷ pieces) = ap (λ (l : List ℕ). l ++ pieces_text one pieces) (same number) ∙ ap (λ (l : List ℕ). other number ++ l) (same_pieces one other same pieces)

-- each group that is set begins at a place or after it
abbrev pub LieFrom : ℕ → List (Option Span) → Type 0
LieFrom from groups = (i : ℕ) (s : Span) → group_at groups i ≡ Some s → from ≤ s.start

-- the span of a group that is set begins where the group does
span_from : (at : ℕ) (ends : Option (ℕ × ℕ)) (s : Span) → ((e : ℕ × ℕ) → ends ≡ Some e → at ≤ e.0) → span_of ends ≡ Some s → at ≤ s.start
span_from at None s from is = absurd (none-some s is)
span_from at (Some ends) s from is = subst (λ (x : Span). at ≤ x.start) (same_Some (span ends) s is) (from ends refl)

-- the groups of a match begin there or after it
pub spans_ahead : GroupsLieAhead → (tree : Tree) (text : List ℕ) (at : ℕ) → at ≤ length text → LieFrom at (spans_at tree text at)
spans_ahead law tree text at within = by (match_at tree text at) (law (core_of_tree tree) (groups_of_tree tree) text at within)
  where
    by : (found : Option (List (Option (ℕ × ℕ)))) → IfSome found (EachLiesFrom at) → LieFrom at (spans_of found)
    by None ahead i s set = absurd (none-some s set)
    by (Some groups) ahead i s set = span_from at (ends_of groups i) s (ahead i) (sym (group-span groups i) ∙ set)

-- so their texts are the same in bytes that are so from a place before them on
text_same : (a b : List ℕ) (from : ℕ) (group : Option Span) → drop from a ≡ drop from b → ((s : Span) → group ≡ Some s → from ≤ s.start)
    → option_map_or (λ (s : Span). slice_range a s.start s.end) group [] ≡ option_map_or (λ (s : Span). slice_range b s.start s.end) group []
text_same a b from None same ahead = refl
text_same a b from (Some s) same ahead = same_piece a b from s.start s.end same (ahead s refl)

pub same_texts : (a b : List ℕ) (from : ℕ) (groups : List (Option Span)) → drop from a ≡ drop from b → LieFrom from groups → (i : ℕ) → group_text a groups i ≡ group_text b groups i
same_texts a b from groups same ahead i = text_same a b from (group_at groups i) same (ahead i)

-- of two texts of one length that are the same from a place on
module _ (law : MatchesByWhatFollows) (tree : Tree) (nowhere : looks_nowhere tree ≡ true) (a b : List ℕ) (from : ℕ) (same : drop from a ≡ drop from b) (size : length a ≡ length b) where
  same_match : (at : ℕ) → from ≤ at → match_at tree a at ≡ match_at tree b at
  same_match at low = law tree nowhere (groups_of_tree tree) a b at size (left_later a b from at same low)

  same_end : (at : ℕ) → from ≤ at → end_at tree a at ≡ end_at tree b at
  same_end at low = ap (option_and_then whole_end) (same_match at low)

  same_spans : (at : ℕ) → from ≤ at → spans_at tree a at ≡ spans_at tree b at
  same_spans at low = ap spans_of (same_match at low)

  -- a search that goes on from a later place finds the same
  pub same_first : (at : ℕ) (last : Option ℕ) (o : Option Span) → from ≤ at → IsFirst (accepts last (end_at tree a)) at (length a) o → IsFirst (accepts last (end_at tree b)) at (length b) o
  same_first at last None low first = λ place end l h p. first place end l (omega (arith, size)) (same_end place (omega (arith, low, l)) ∙ p.0, p.1)
  same_first at last (Some x) low first =
      let starts : at ≤ x.start = first.0 in (
        first.0,
        omega (arith, size, first.1),
        (sym (same_end x.start (omega (arith, low, starts))) ∙ first.2.0, first.2.1),
        λ place end l h p. first.3 place end l h (same_end place (omega (arith, low, l)) ∙ p.0, p.1),
      )

  -- and the same groups
  pub same_groups : (at : ℕ) (groups : List (Option Span)) → from ≤ at → AreOfMatch tree a at groups → AreOfMatch tree b at groups
  same_groups at groups low of = (of.0 ∙ same_spans at low, λ i s set. let lies = of.1 i s set in omega (arith, size, lies))

-- what is added for a match is its new text
pub text_ahead : (law : GroupsLieAhead) (substitute : Substitute) (tree : Tree) (pieces : List Piece) (a b : List ℕ) (from at : ℕ) (groups : List (Option Span))
    → drop from a ≡ drop from b → from ≤ at → at ≤ length b → ArePiecesOf substitute tree pieces → AreOfMatch tree b at groups
    → pieces_text (group_text a groups) pieces ≡ substituted substitute tree (group_text b (spans_at tree b at))
text_ahead law substitute tree pieces a b from at groups same low within read of =
    same_pieces (group_text a groups) (group_text b groups)
    (same_texts a b from groups same (λ i s set. let ahead = spans_ahead law tree b at within i s (ap (λ (g : List (Option Span)). group_at g i) (sym of.0) ∙ set) in omega (arith, low, ahead))) pieces
    ∙ text_made substitute tree pieces b at groups read of
