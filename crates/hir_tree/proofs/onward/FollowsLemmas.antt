-- Without looks, runs rest on the bytes that follow.
use Rattle.std.proofs.Common.{◌≡◌, ℕ, zero, suc, ◌+◌, ◌-◌, ◌≤◌, Bool, List, [], ◌∷◌, ◌++◌, length, map, drop, Option, Some, refl, sym, ap, ap₂, ◌∙◌, drop-drop, arith}
use Rattle.std.specs.Prelude.{option_map, slice_get, slice_set}
use Rattle.std.specs.List.{flat_map}
use Rattle.bstr.specs.Utf8.{decoded}
use Rattle.hir_tree.specs.Core.{Core, empty, byte_in, char_in, look, group, pair, choice, none, plus, numbers}
use Rattle.hir_tree.specs.Runs.{Run, Step, begin, moved, mark, set_group, visit, rounds_or_end, after, size_in, byte_size, char_size, as_list, take_size, runs, first, preferred}
use Rattle.hir_tree.proofs.ListLemmas.{flat_map-cong}
use Rattle.hir_tree.proofs.onward.AheadLemmas.{Ahead, Ahead-mark, Ahead-begin, Keeps, runs-Ahead}
use Rattle.hir_tree.proofs.onward.OnwardLemmas.{HasNoLooks}
use Rattle.hir_tree.proofs.runs_laws.NumbersLemmas.{preferred-first}
use Rattle.hir_tree.proofs.runs_laws.RunsLemmas.{visit-cong}

-- the byte at a place is the first of what follows
first-after : (text : List ℕ) (at : ℕ) → slice_get text at ≡ slice_get (drop at text) 0
first-after [] zero = refl
first-after [] (suc at) = refl
first-after (b ∷ text) zero = refl
first-after (b ∷ text) (suc at) = first-after text at

module _ (one other : List ℕ) (from : ℕ) (long : length one ≡ length other) (follows : drop from one ≡ drop from other) where
  -- two steps that give the same from the place on
  abbrev Agree : Step → Step → Type 0
  Agree f g = (r : Run) → Ahead from r → f r ≡ g r

  -- the same follows each place after it
  same_after : (at : ℕ) → from ≤ at → drop at one ≡ drop at other
  same_after at le =
      let e : from + (at - from) ≡ at = omega arith in
      ap (λ k. drop k one) (sym e)
      ∙ sym (drop-drop (at - from) from one)
      ∙ ap (drop (at - from)) follows
      ∙ drop-drop (at - from) from other
      ∙ ap (λ k. drop k other) e

  same_byte : (set : List (ℕ × ℕ)) (at : ℕ) → from ≤ at → byte_size set one at ≡ byte_size set other at
  unfolding byte_size
  same_byte set at le = ap (size_in set 1) (first-after one at ∙ ap (λ rest. slice_get rest 0) (same_after at le) ∙ sym (first-after other at))

  same_char : (set : List (ℕ × ℕ)) (at : ℕ) → from ≤ at → char_size set one at ≡ char_size set other at
  unfolding char_size
  same_char set at le = ap (λ rest. size_in set (decoded rest).size (decoded rest).char) (same_after at le)

  Agree-visit : (n : ℕ) (f g : Step) → Agree f g → Agree (visit n f) (visit n g)
  Agree-visit n f g same r h = visit-cong n f g r (λ new. same (mark n r) (Ahead-mark from n r h))

  Agree-then : (f g k l : Step) → Keeps from f → Agree f g → Agree k l → Agree (λ r. flat_map k (f r)) (λ r. flat_map l (g r))
  Agree-then f g k l keeps same next r h = flat_map-cong (Ahead from) k l (f r) (keeps r h) next ∙ ap (flat_map l) (same r h)

  Agree-after : (greedy : Bool) (again : ℕ) (f g : Step) → Keeps from f → Agree f g → (n : ℕ) → Agree (after greedy again f n) (after greedy again g n)
  unfolding after
  Agree-after greedy again f g keeps same zero = λ r h. refl
  Agree-after greedy again f g keeps same (suc n) =
      Agree-visit again (λ s. rounds_or_end greedy (flat_map (after greedy again f n) (f s)) s)
      (λ s. rounds_or_end greedy (flat_map (after greedy again g n) (g s)) s)
      (λ s h. ap (λ rounds. rounds_or_end greedy rounds s)
      (Agree-then f g (after greedy again f n) (after greedy again g n) keeps same (Agree-after greedy again f g keeps same n) s h))

  -- texts of one length have room for as many rounds
  Agree-plus : (greedy : Bool) (again : ℕ) (f g : Step) → Keeps from f → Agree f g
      → Agree (λ s. flat_map (after greedy again f (length one + 1)) (f s)) (λ s. flat_map (after greedy again g (length other + 1)) (g s))
  Agree-plus greedy again f g keeps same r h =
      Agree-then f g (after greedy again f (length one + 1)) (after greedy again g (length one + 1)) keeps same
      (Agree-after greedy again f g keeps same (length one + 1)) r h
      ∙ ap (λ (k : ℕ). flat_map (after greedy again g (k + 1)) (g r)) long

  Agree-take : (k l : ℕ → Option ℕ) → ((at : ℕ) → from ≤ at → k at ≡ l at) → Agree (take_size k) (take_size l)
  Agree-take k l same r h = ap (λ (o : Option ℕ). as_list (option_map (λ n. moved n r) o)) (same r.at h.onward)

  runs-Agree : (core : Core) → HasNoLooks core → (n : ℕ) → Agree (runs one core n) (runs other core n)
  unfolding runs
  runs-Agree empty h n = λ r ahead. refl
  runs-Agree (byte_in set) h n =
      Agree-visit n (take_size (byte_size set one)) (take_size (byte_size set other)) (Agree-take (byte_size set one) (byte_size set other) (same_byte set))
  runs-Agree (char_in set) h n =
      Agree-visit n (take_size (char_size set one)) (take_size (char_size set other)) (Agree-take (char_size set one) (char_size set other) (same_char set))
  runs-Agree (look l) h n = absurd h
  runs-Agree (group i a) h n =
      Agree-visit n (λ s. map (set_group i s.at) (runs one a (n + 2) s)) (λ s. map (set_group i s.at) (runs other a (n + 2) s))
      (λ s ahead. ap (map (set_group i s.at)) (runs-Agree a h (n + 2) s ahead))
  runs-Agree (pair a b) h n =
      Agree-visit n (λ s. flat_map (runs one b (n + 1 + numbers a)) (runs one a (n + 1) s)) (λ s. flat_map (runs other b (n + 1 + numbers a)) (runs other a (n + 1) s))
      (Agree-then (runs one a (n + 1)) (runs other a (n + 1)) (runs one b (n + 1 + numbers a)) (runs other b (n + 1 + numbers a))
      (runs-Ahead from one a (n + 1)) (runs-Agree a h.0 (n + 1)) (runs-Agree b h.1 (n + 1 + numbers a)))
  runs-Agree (choice a b) h n =
      Agree-visit n (λ s. runs one a (n + 1) s ++ runs one b (n + 1 + numbers a) s) (λ s. runs other a (n + 1) s ++ runs other b (n + 1 + numbers a) s)
      (λ s ahead. ap₂ (λ rs ss. rs ++ ss) (runs-Agree a h.0 (n + 1) s ahead) (runs-Agree b h.1 (n + 1 + numbers a) s ahead))
  runs-Agree none h n = λ r ahead. refl
  runs-Agree (plus greedy a) h n =
      Agree-visit n (λ s. flat_map (after greedy (n + 1) (runs one a (n + 2)) (length one + 1)) (runs one a (n + 2) s))
      (λ s. flat_map (after greedy (n + 1) (runs other a (n + 2)) (length other + 1)) (runs other a (n + 2) s))
      (Agree-plus greedy (n + 1) (runs one a (n + 2)) (runs other a (n + 2)) (runs-Ahead from one a (n + 2)) (runs-Agree a h (n + 2)))

  pub preferred-same : (core : Core) → HasNoLooks core → (groups : ℕ) → preferred core groups one from ≡ preferred core groups other from
  preferred-same core h groups =
      preferred-first core groups one from 0
      ∙ ap (λ rs. option_map (λ r. slice_set r.groups 0 (Some (from, r.at))) (first rs))
      (runs-Agree core h 0 (begin from groups) (Ahead-begin from groups))
      ∙ sym (preferred-first core groups other from 0)
