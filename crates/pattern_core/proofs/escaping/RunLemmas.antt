-- All runs of a pattern that is one text.
use Rattle.std.proofs.Common.{◌≡◌, ℕ, ◌+◌, Bool, true, false, List, [], ◌∷◌, length, map, replicate, Option, Some, None, if◌then◌else◌, refl, sym, ap, subst, ◌∙◌, add-one}
use Rattle.std.specs.Prelude.{slice_set, option_map}
use Rattle.std.specs.List.{flat_map}
use Rattle.std.proofs.lemmas.List.{append-nil}
use Rattle.std.proofs.lemmas.Option.{none-some, same_Some}
use Rattle.hir_tree.specs.Core.{Core, empty, byte_in, char_in, look, group, pair, choice, none, plus, numbers, one_byte, pair_all}
use Rattle.hir_tree.specs.Cores.{core_of, core_of_tree, cores_of_trees}
use Rattle.hir_tree.specs.PlainText.{joined, joined_all, stands_at, text_of_tree, texts_of_trees, OneTextMatchesWhereItStands}
use Rattle.hir_tree.specs.Runs.{Run, Step, as_list, begin, byte_size, first, is_seen, mark, moved, runs, take_size, visit}
use Rattle.hir_tree.specs.RunsLaws.{PreferredIsTheFirstRun}
use Rattle.hir_tree.specs.Tree.{Tree, Trees, tree_of}
use Rattle.hir_tree.specs.Tree as tree
use Rattle.pattern_core.specs.Escape.{EscapedIsParsedAsItself, EscapedHasOneRun}

-- at most one
abbrev AreFew : List Run → Type 0
AreFew [] = Unit {0}
AreFew (r ∷ []) = Unit {0}
AreFew (r ∷ s ∷ rest) = ⊥

-- made of bytes one after another
abbrev IsInARow : Core → Type 0
IsInARow empty = Unit {0}
IsInARow (byte_in set) = Unit {0}
IsInARow (pair a b) = IsInARow a × IsInARow b
IsInARow _ = ⊥

few-if : (b : Bool) (rs : List Run) → AreFew rs → AreFew (if b then [] else rs)
few-if true rs h = tt
few-if false rs h = h

few-visit : (n : ℕ) (next : Step) (r : Run) → ((s : Run) → AreFew (next s)) → AreFew (visit n next r)
few-visit n next r h = few-if (is_seen n r.seen) (next (mark n r)) (h (mark n r))

few-taken : (o : Option ℕ) (r : Run) → AreFew (as_list (option_map (λ k. moved k r) o))
few-taken None r = tt
few-taken (Some k) r = tt

few-behind : (next : Step) (rs : List Run) → AreFew rs → ((s : Run) → AreFew (next s)) → AreFew (flat_map next rs)
few-behind next [] few h = tt
few-behind next (r ∷ []) few h = subst AreFew (sym (append-nil (next r))) (h r)
few-behind next (r ∷ s ∷ rest) few h = absurd few

-- such a core has at most one run
few-runs : (text : List ℕ) (core : Core) → IsInARow core → (n : ℕ) (r : Run) → AreFew (runs text core n r)
unfolding runs
few-runs text empty h n r = few-visit n (λ s. s ∷ []) r (λ s. tt)
few-runs text (byte_in set) h n r = few-visit n (take_size (byte_size set text)) r (λ s. few-taken (byte_size set text s.at) s)
few-runs text (char_in set) h n r = absurd h
few-runs text (look l) h n r = absurd h
few-runs text (group i a) h n r = absurd h
few-runs text (pair a b) h n r =
    few-visit n (λ s. flat_map (runs text b (n + 1 + numbers a)) (runs text a (n + 1) s)) r
    (λ s. few-behind (runs text b (n + 1 + numbers a)) (runs text a (n + 1) s) (few-runs text a h.0 (n + 1) s) (few-runs text b h.1 (n + 1 + numbers a)))
few-runs text (choice a b) h n r = absurd h
few-runs text none h n r = absurd h
few-runs text (plus greedy a) h n r = absurd h

abbrev AreInARow : List Core → Type 0
AreInARow [] = Unit {0}
AreInARow (a ∷ rest) = IsInARow a × AreInARow rest

pairs-in-a-row : (cores : List Core) → AreInARow cores → IsInARow (pair_all cores)
pairs-in-a-row [] h = tt
pairs-in-a-row (a ∷ []) h = h.0
pairs-in-a-row (a ∷ b ∷ rest) h = (h.0, pairs-in-a-row (b ∷ rest) h.1)

bytes-in-a-row : (bytes : List ℕ) → AreInARow (map one_byte bytes)
bytes-in-a-row [] = tt
bytes-in-a-row (b ∷ bytes) = (tt, bytes-in-a-row bytes)

joined-parts : (one other : Option (List ℕ)) (bytes : List ℕ) → joined one other ≡ Some bytes
    → (xs : List ℕ) × (ys : List ℕ) × (one ≡ Some xs) × (other ≡ Some ys)
joined-parts None other bytes e = absurd (none-some bytes e)
joined-parts (Some xs) None bytes e = absurd (none-some bytes e)
joined-parts (Some xs) (Some ys) bytes e = (xs, ys, refl, refl)

mutual
  text-in-a-row : (a : Tree) (bytes : List ℕ) → text_of_tree a ≡ Some bytes → IsInARow (core_of_tree a)
  text-in-a-row tree.empty bytes e = tt
  text-in-a-row (tree.literal part) bytes e = pairs-in-a-row (map one_byte part) (bytes-in-a-row part)
  text-in-a-row (tree.class_chars ranges) bytes e = absurd (none-some bytes e)
  text-in-a-row (tree.class_bytes ranges) bytes e = absurd (none-some bytes e)
  text-in-a-row (tree.look kind) bytes e = absurd (none-some bytes e)
  text-in-a-row (tree.repetition least most greedy part) bytes e = absurd (none-some bytes e)
  text-in-a-row (tree.capture index name part) bytes e = absurd (none-some bytes e)
  text-in-a-row (tree.concat parts) bytes e = pairs-in-a-row (cores_of_trees parts) (texts-in-a-row parts bytes e)
  text-in-a-row (tree.alternation parts) bytes e = absurd (none-some bytes e)

  texts-in-a-row : (parts : Trees) (bytes : List ℕ) → joined_all (texts_of_trees parts) ≡ Some bytes → AreInARow (cores_of_trees parts)
  texts-in-a-row tree.none bytes e = tt
  texts-in-a-row (tree.more part rest) bytes e =
      let parts = joined-parts (text_of_tree part) (joined_all (texts_of_trees rest)) bytes e in
      (text-in-a-row part parts.0 parts.2, texts-in-a-row rest parts.1 parts.3)

abbrev Groups : Type 0
Groups = List (Option (ℕ × ℕ))

-- where group 0 ends
abbrev end_of : Groups → ℕ
end_of [] = 0
end_of (None ∷ groups) = 0
end_of (Some span ∷ groups) = span.1

same_end : (gs rest : Groups) (at x y : ℕ) → slice_set gs 0 (Some (at, x)) ≡ slice_set (None ∷ rest) 0 (Some (at, y)) → x ≡ y
same_end [] rest at x y e = cc
same_end (g ∷ gs) rest at x y e = ap end_of e

-- the end of at most one run, from what is preferred
ends : (bytes : List ℕ) (at groups : ℕ) (rs : List Run) (t : Bool) → AreFew rs
    → option_map (λ r. slice_set r.groups 0 (Some (at, r.at))) (first rs)
    ≡ (if t then Some (slice_set (replicate (groups + 1) None) 0 (Some (at, at + length bytes))) else None)
    → map (λ r. r.at) rs ≡ (if t then (at + length bytes) ∷ [] else [])
ends bytes at groups [] true few e = absurd (none-some _ e)
ends bytes at groups [] false few e = refl
ends bytes at groups (r ∷ []) true few e =
    let unset : replicate (groups + 1) None ≡ None ∷ replicate groups None = ap (λ (k : ℕ). replicate k None) (add-one groups) in
    let same = same_Some _ _ e ∙ ap (λ (gs : Groups). slice_set gs 0 (Some (at, at + length bytes))) unset in
    ap (λ (end : ℕ). end ∷ []) (same_end r.groups (replicate groups None) at r.at (at + length bytes) same)
ends bytes at groups (r ∷ []) false few e = absurd (none-some _ (sym e))
ends bytes at groups (r ∷ s ∷ rest) t few e = absurd few

module _ (one_text : OneTextMatchesWhereItStands) (first_run : PreferredIsTheFirstRun) (itself : EscapedIsParsedAsItself) where
  pub one_run : EscapedHasOneRun
  one_run flags text pattern parsed is read haystack number at groups =
      let core = core_of parsed.hir in
      let spells = itself flags text pattern parsed is read in
      ends text at groups (runs haystack core number (begin at groups)) (stands_at text haystack at)
      (few-runs haystack core (text-in-a-row (tree_of parsed.hir) text spells) number (begin at groups))
      (sym (first_run core groups haystack at number) ∙ one_text (tree_of parsed.hir) text spells groups haystack at)
