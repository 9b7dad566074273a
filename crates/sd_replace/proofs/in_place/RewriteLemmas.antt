-- How far a change in the room of the old bytes has come.
use Rattle.std.proofs.Common.{◌≡◌, ℕ, ◌+◌, ◌≤◌, true, List, [], ◌∷◌, ◌++◌, length, drop, slice_range, Option, None, refl, sym, subst, ap, ◌∙◌, arith}
use Rattle.std.specs.Prelude.{Result, Ok, Err, IfOk}
use Rattle.grep_matcher.specs.Cover.{IsLawful, IsFirst, accepts}
use Rattle.grep_matcher.specs.References.{LieIn, group_text}
use Rattle.grep_matcher.specs.Span.{Span}
use Rattle.grep_regex.specs.Matching.{end_at}
use Rattle.grep_regex.specs.declared.matcher.Pattern.{Pattern}
use Rattle.hir_tree.specs.Onward.{GroupsLieAhead, MatchesByWhatFollows, looks_nowhere}
use Rattle.hir_tree.specs.Tree.{Tree, tree_of}
use Rattle.sd_change.specs.Change.{AreFewIn, TellsRewritten}
use Rattle.sd_change.specs.declared.changed.Rewritten.{Rewritten}
use Rattle.sd_change.specs.declared.changed.Rewritten.TheVariants.{Same, Other}
use Rattle.sd_replace.specs.InPlace.{Became, IsRoomOf, made_of}
use Rattle.sd_replace.specs.Replacement.{Replacement, Changes, is_within}
use Rattle.sd_replace.specs.Searching.{AreOfMatch}
use Rattle.sd_replace.specs.Templates.{ArePiecesOf, pieces_text}
use Rattle.sd_replace.specs.Writing.{HasWritten}
use Rattle.sd_replace.specs.declared.in_place.Room.{Room}
use Rattle.sd_replace.specs.declared.template.Piece.{Piece}
use Rattle.sd_replace.proofs.changing.ChangingLemmas.{HasFound, as_first, as_match, written_more, made_at_the_end}
use Rattle.sd_replace.proofs.in_place.InPlaceLemmas.{left_later, same_piece}
use Rattle.sd_replace.proofs.in_place.OnwardLemmas.{same_first, same_groups, text_ahead}

-- where the loop stands at a span: it was found, and those before it have given way in the room or beside it
pub record Holds (replacement : Replacement) (bytes : List ℕ) (lawful : IsLawful (end_at replacement.pattern bytes) (length bytes)) (from : ℕ) (last : Option ℕ) (room : Room) (span : Span) : Type 0 where
  pub done : List Span
  pub found : HasFound (end_at replacement.pattern bytes) bytes lawful (done ++ span ∷ []) from last
  pub written : HasWritten replacement bytes done (made_of room) room.read room.count
  pub of : IsRoomOf bytes room

-- of which it gives way too
pub written_one : (ahead : GroupsLieAhead) (replacement : Replacement) (pieces : List Piece) (bytes : List ℕ) (done : List Span) (x : Span) (old new : Room) (groups : List (Option Span))
    → replacement.limit ≡ 0 → ArePiecesOf replacement.substitute replacement.pattern pieces → AreOfMatch replacement.pattern bytes x.start groups
    → IsRoomOf bytes old → old.written ≤ old.read → old.read ≤ x.start → x.start ≤ length bytes
    → made_of new ≡ (made_of old ++ slice_range old.bytes.items old.read x.start) ++ pieces_text (group_text old.bytes.items groups) pieces
    → new.read ≡ x.end → new.count ≡ old.count + 1
    → HasWritten replacement bytes done (made_of old) old.read old.count → HasWritten replacement bytes (done ++ x ∷ []) (made_of new) new.read new.count
written_one ahead replacement pieces bytes done x old new groups no_limit read of room order behind within made ends counts h =
    written_more replacement bytes done x (made_of old) old.read old.count h (made_of new) new.read new.count
    (pieces_text (group_text old.bytes.items groups) pieces)
    (sym (ap (λ (n : ℕ). is_within replacement.counted n bytes done x) no_limit))
    (made ∙ ap (λ (l : List ℕ). (made_of old ++ l) ++ pieces_text (group_text old.bytes.items groups) pieces)
    (same_piece old.bytes.items bytes old.written old.read x.start room.left order))
    (text_ahead ahead replacement.substitute replacement.pattern pieces old.bytes.items bytes old.written x.start groups room.left (omega (arith, order, behind)) within read of)
    ends counts

-- what is found in the room is what is found of the bytes
pub found_there : MatchesByWhatFollows → (m p : Pattern) (bytes shown : List ℕ) (room : Room) (from : ℕ) (last : Option ℕ) (o found : Option Span) → looks_nowhere (tree_of p.searcher) ≡ true
    → m ≡ p → shown ≡ room.bytes.items → o ≡ found → IsRoomOf bytes room → room.written ≤ from
    → IsFirst (accepts last (end_at (tree_of m.searcher) shown)) from (length shown) o → IsFirst (accepts last (end_at (tree_of p.searcher) bytes)) from (length bytes) found
found_there law m p bytes shown room from last o found nowhere pattern same is of low first =
    same_first law (tree_of p.searcher) nowhere room.bytes.items bytes room.written of.left of.size from last found low
    (subst (λ (l : List ℕ). IsFirst (accepts last (end_at (tree_of p.searcher) l)) from (length l) found) same
    (subst (λ (k : Option Span). IsFirst (accepts last (end_at (tree_of p.searcher) shown)) from (length shown) k) is
    (as_first m p shown last from o pattern first)))

-- so is it with groups
pub groups_there : MatchesByWhatFollows → (m p : Pattern) (bytes shown : List ℕ) (room : Room) (at : ℕ) (groups : List (Option Span)) → looks_nowhere (tree_of p.searcher) ≡ true
    → m ≡ p → shown ≡ room.bytes.items → IsRoomOf bytes room → room.written ≤ at → AreOfMatch (tree_of m.searcher) shown at groups → AreOfMatch (tree_of p.searcher) bytes at groups
groups_there law m p bytes shown room at groups nowhere pattern same of low match =
    same_groups law (tree_of p.searcher) nowhere room.bytes.items bytes room.written of.left of.size at groups low
    (subst (λ (l : List ℕ). AreOfMatch (tree_of p.searcher) l at groups) same (as_match m p shown at groups pattern match))

-- groups that lie in the bytes lie in the room
pub lie_there : (tree : Tree) (bytes : List ℕ) (room : Room) (at : ℕ) (groups : List (Option Span)) → IsRoomOf bytes room → AreOfMatch tree bytes at groups → LieIn groups room.bytes.items
lie_there tree bytes room at groups of match = λ i s set. let lies = match.1 i s set in omega (arith, lies, of.size)

-- once no match is left
module _ (replacement : Replacement) (bytes : List ℕ) (lawful : IsLawful (end_at replacement.pattern bytes) (length bytes)) (done : List Span) (from : ℕ) (last : Option ℕ)
    (found : HasFound (end_at replacement.pattern bytes) bytes lawful done from last) (room : Room) (h : HasWritten replacement bytes done (made_of room) room.read room.count)
    (of : IsRoomOf bytes room) (order : room.written ≤ room.read) (none : IsFirst (accepts last (end_at replacement.pattern bytes)) from (length bytes) None) where
  left : drop room.read room.bytes.items ≡ drop room.read bytes
  left = left_later room.bytes.items bytes room.written room.read of.left order

  pub all_rewritten : Changes replacement bytes (made_of room ++ drop room.read room.bytes.items) room.count
  all_rewritten =
      made_at_the_end replacement bytes lawful done from last found (made_of room) room.read room.count h (made_of room ++ drop room.read room.bytes.items) room.count none
      (ap (λ (l : List ℕ). made_of room ++ l) left) refl

-- what is told of bytes, once the change is known
told : (replacement : Replacement) (bytes new_bytes : List ℕ) (count : ℕ) → Changes replacement bytes new_bytes count → (rewritten : Rewritten) → Became bytes new_bytes count rewritten
    → TellsRewritten (Changes replacement) bytes rewritten
told replacement bytes new_bytes count changes (Same same counted) became = (
  became.0 ∙ became.2,
  subst (λ (l : List ℕ). Changes replacement bytes l counted) became.2 (subst (λ (n : ℕ). Changes replacement bytes new_bytes n) (sym became.1) changes),
)
told replacement bytes new_bytes count changes (Other changed) became = (
  subst (λ (l : List ℕ). Changes replacement bytes l changed.count) (sym became.0) (subst (λ (n : ℕ). Changes replacement bytes new_bytes n) (sym became.1) changes),
  λ e. became.2 (sym became.0 ∙ e),
)

pub ends_told : {E : Type 0} (replacement : Replacement) (bytes new_bytes : List ℕ) (count : ℕ) → Changes replacement bytes new_bytes count → (result : Result Rewritten E)
    → IfOk result (Became bytes new_bytes count) → IfOk result (TellsRewritten (Changes replacement) bytes)
ends_told replacement bytes new_bytes count changes (Ok rewritten) became = told replacement bytes new_bytes count changes rewritten became
ends_told replacement bytes new_bytes count changes (Err error) became = tt

-- there are few
few_of : (bytes new_bytes : List ℕ) (count : ℕ) → count ≤ length bytes + 1 → (rewritten : Rewritten) → Became bytes new_bytes count rewritten → AreFewIn bytes rewritten
few_of bytes new_bytes count few (Same same counted) became = omega (arith, few, became.1)
few_of bytes new_bytes count few (Other changed) became = omega (arith, few, became.1)

pub ends_few : {E : Type 0} (bytes new_bytes : List ℕ) (count : ℕ) → count ≤ length bytes + 1 → (result : Result Rewritten E) → IfOk result (Became bytes new_bytes count) → IfOk result (AreFewIn bytes)
ends_few bytes new_bytes count few (Ok rewritten) became = few_of bytes new_bytes count few rewritten became
ends_few bytes new_bytes count few (Err error) became = tt
