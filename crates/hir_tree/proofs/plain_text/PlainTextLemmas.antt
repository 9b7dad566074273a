-- What the core of one text matches.
use Rattle.std.proofs.Common.{◌≡◌, ℕ, zero, suc, ◌+◌, ◌-◌, ◌<◌, ◌≤◌, Bool, true, false, cond, eqb, List, [], ◌∷◌, ◌++◌, length, map, drop, replicate, Option, Some, None, if◌then◌else◌, refl, sym, ap, ap₂, subst, ◌∙◌, length-append, drop-drop, arith}
use Rattle.std.specs.Prelude.{◌||◌, ◌&&◌, slice_set, option_map}
use Rattle.std.specs.List.{flat_map, starts_with}
use Rattle.std.proofs.lemmas.Bool.{ne_eqb}
use Rattle.std.proofs.lemmas.Bool.Decides.{nat_tests}
use Rattle.std.proofs.lemmas.List.{append-nil}
use Rattle.std.proofs.lemmas.Option.{none-some, same_Some}
use Rattle.hir_tree.specs.Core.{Core, empty, pair, numbers, one_byte, literal, pair_all}
use Rattle.hir_tree.specs.Cores.{core_of_tree, cores_of_trees}
use Rattle.hir_tree.specs.Hirs.{parts_of}
use Rattle.hir_tree.specs.PlainText.{joined, joined_all, text_of_tree, texts_of_trees, text_of, stands_at, text_groups, text_found}
use Rattle.hir_tree.specs.Runs.{Run, Step, begin, moved, mark, is_seen, visit, in_set, byte_size, as_list, take_size, runs, first, preferred}
use Rattle.hir_tree.specs.Tree.{Tree, Trees, tree_of, trees}
use Rattle.hir_tree.specs.Tree as tree
use Rattle.hir_tree.specs.declared.hir.Hir.{Hir}
use Rattle.hir_tree.specs.declared.hir.Hir.TheVariants.{Concat}
use Rattle.hir_tree.specs.declared.hir.Hirs.{Hirs}
use Rattle.hir_tree.proofs.runs_laws.NumbersLemmas.{preferred-first}
use Rattle.hir_tree.proofs.tree_laws.TreeLemmas.{tree_concat}

and-both : (a b c d : Bool) → b ≡ (c && d) → (a && b) ≡ ((a && c) && d)
and-both true b c d e = e
and-both false b c d e = refl

-- one text after another stands where the one stands, and the other after it
begins-append : (xs ys l : List ℕ) → starts_with eqb l (xs ++ ys) ≡ (starts_with eqb l xs && starts_with eqb (drop (length xs) l) ys)
begins-append [] ys l = refl
begins-append (x ∷ xs) ys [] = refl
begins-append (x ∷ xs) ys (c ∷ l) = and-both (eqb x c) _ _ _ (begins-append xs ys l)

stands-append : (xs ys text : List ℕ) (at : ℕ) → stands_at (xs ++ ys) text at ≡ (stands_at xs text at && stands_at ys text (at + length xs))
stands-append xs ys text at =
    begins-append xs ys (drop at text) ∙ ap (λ l. starts_with eqb (drop at text) xs && starts_with eqb l ys) (drop-drop (length xs) at text)

-- the set of one byte has that byte alone
in_set-one : (b c : ℕ) → in_set ((b, b) ∷ []) c ≡ eqb b c
in_set-one b c = grind (arith, nat_tests)

-- one byte, if the test is met
abbrev one_if : Bool → Option ℕ
one_if t = if t then Some 1 else None

-- one byte is taken where it stands
byte_size-one : (b : ℕ) (text : List ℕ) (at : ℕ) → byte_size ((b, b) ∷ []) text at ≡ one_if (stands_at (b ∷ []) text at)
unfolding byte_size
byte_size-one b [] zero = refl
byte_size-one b [] (suc at) = refl
byte_size-one b (c ∷ text) zero = rw (in_set-one b c) (cases (eqb b c))
  where
    cases : (t : Bool) → one_if t ≡ one_if (t && true)
    cases true = refl
    cases false = refl
byte_size-one b (c ∷ text) (suc at) = byte_size-one b text at

-- no number from n on was seen
abbrev IsFresh : ℕ → List ℕ → Type 0
IsFresh n seen = (i : ℕ) → is_seen (n + i) seen ≡ false

fresh-mark : (n m k : ℕ) (seen : List ℕ) → k < m → n ≤ m → IsFresh n seen → IsFresh m (k ∷ seen)
fresh-mark n m k seen lt le fresh i =
    let e : n + (m - n + i) ≡ m + i = omega arith in
    ap₂ (λ a b. a || b) (ne_eqb k (m + i) (λ e. absurd (omega arith))) (ap (λ p. is_seen p seen) (sym e) ∙ fresh (m - n + i))

fresh-more : (n m : ℕ) (seen : List ℕ) → n ≤ m → IsFresh n seen → IsFresh m seen
fresh-more n m seen le fresh i = let e : n + (m - n + i) ≡ m + i = omega arith in ap (λ p. is_seen p seen) (sym e) ∙ fresh (m - n + i)

-- the one run that ends there with these groups, with no number from m on seen, where the test is met, and else none
abbrev IsTaken : Bool → ℕ → ℕ → List (Option (ℕ × ℕ)) → List Run → Type 0
IsTaken true end m groups rs = (s : Run) × (rs ≡ s ∷ []) × (s.at ≡ end) × (s.groups ≡ groups) × IsFresh m s.seen
IsTaken false end m groups rs = rs ≡ []

module _ (text : List ℕ) where
  -- the core takes these bytes where they stand, by one run
  abbrev Takes : Core → List ℕ → Type 0
  Takes core bytes =
      (n : ℕ) (r : Run) → IsFresh n r.seen
      → IsTaken (stands_at bytes text r.at) (r.at + length bytes) (n + numbers core) r.groups (runs text core n r)

  visit-fresh : (n : ℕ) (next : Step) (r : Run) → IsFresh n r.seen → visit n next r ≡ next (mark n r)
  visit-fresh n next r fresh =
      let e : n + 0 ≡ n = omega arith in
      let new : is_seen n r.seen ≡ false = ap (λ p. is_seen p r.seen) (sym e) ∙ fresh 0 in
      ap (λ b. cond b [] (next (mark n r))) new

  empty-takes : Takes empty []
  unfolding runs
  empty-takes n r fresh =
      (mark n r, visit-fresh n (λ s. s ∷ []) r fresh, omega arith, refl, fresh-mark n (n + 1) n r.seen (omega arith) (omega arith) fresh)

  byte-takes : (b : ℕ) → Takes (one_byte b) (b ∷ [])
  unfolding runs
  byte-takes b n r fresh =
      subst (λ (rs : List Run). IsTaken (stands_at (b ∷ []) text r.at) (r.at + 1) (n + 1) r.groups rs)
      (sym (visit-fresh n (take_size (byte_size ((b, b) ∷ []) text)) r fresh
      ∙ ap (λ (o : Option ℕ). as_list (option_map (λ k. moved k (mark n r)) o)) (byte_size-one b text r.at)))
      (cases (stands_at (b ∷ []) text r.at))
    where
      cases : (t : Bool) → IsTaken t (r.at + 1) (n + 1) r.groups (as_list (option_map (λ k. moved k (mark n r)) (one_if t)))
      cases true = (moved 1 r, refl, refl, refl, λ i. refl)
      cases false = refl

  -- what the second of a pair makes of the run of the first
  pair-taken : (b : Core) (ys : List ℕ) (middle end p m : ℕ) (groups : List (Option (ℕ × ℕ))) (rs : List Run) (t : Bool)
      → middle + length ys ≡ end → p + numbers b ≡ m → Takes b ys → IsTaken t middle p groups rs
      → IsTaken (t && stands_at ys text middle) end m groups (flat_map (runs text b p) rs)
  pair-taken b ys middle end p m groups rs false to next takes taken = ap (flat_map (runs text b p)) taken
  pair-taken b ys middle end p m groups rs true to next takes (s, one, there, same, fresh) =
      let joined : runs text b p s ≡ flat_map (runs text b p) rs = sym (append-nil (runs text b p s)) ∙ ap (flat_map (runs text b p)) (sym one) in
      subst (λ (us : List Run). IsTaken (stands_at ys text middle) end m groups us) joined
      (subst (λ (at : ℕ). IsTaken (stands_at ys text at) end m groups (runs text b p s)) there
      (cases (stands_at ys text s.at) (runs text b p s) (takes p s fresh)))
    where
      cases : (t : Bool) (us : List Run) → IsTaken t (s.at + length ys) (p + numbers b) s.groups us → IsTaken t end m groups us
      cases true us (u, only, at, kept, later) = (u, only, omega (arith, at, there, to), kept ∙ same, subst (λ (k : ℕ). IsFresh k u.seen) next later)
      cases false us none = none

  pair-takes : (a b : Core) (xs ys : List ℕ) → Takes a xs → Takes b ys → Takes (pair a b) (xs ++ ys)
  unfolding runs
  pair-takes a b xs ys takes_xs takes_ys n r fresh =
      let next : Step = λ s. flat_map (runs text b (n + 1 + numbers a)) (runs text a (n + 1) s) in
      let both =
      pair-taken b ys (r.at + length xs) (r.at + length (xs ++ ys)) (n + 1 + numbers a) (n + (1 + numbers a + numbers b)) r.groups (runs text a (n + 1) (mark n r))
      (stands_at xs text r.at) (omega (arith, length-append xs ys)) (omega arith) takes_ys
      (takes_xs (n + 1) (mark n r) (fresh-mark n (n + 1) n r.seen (omega arith) (omega arith) fresh)) in
      subst (λ (us : List Run). IsTaken (stands_at (xs ++ ys) text r.at) (r.at + length (xs ++ ys)) (n + (1 + numbers a + numbers b)) r.groups us)
      (sym (visit-fresh n next r fresh))
      (subst (λ (t : Bool). IsTaken t (r.at + length (xs ++ ys)) (n + (1 + numbers a + numbers b)) r.groups (next (mark n r)))
      (sym (stands-append xs ys text r.at)) both)

  -- each core takes a part of the bytes, one part after the other
  abbrev EachTakes : List Core → List ℕ → Type 0
  EachTakes [] bytes = bytes ≡ []
  EachTakes (core ∷ cores) bytes = (xs : List ℕ) × (ys : List ℕ) × (bytes ≡ xs ++ ys) × Takes core xs × EachTakes cores ys

  pair_all-takes : (cores : List Core) (bytes : List ℕ) → EachTakes cores bytes → Takes (pair_all cores) bytes
  pair_all-takes [] bytes none = subst (Takes empty) (sym none) empty-takes
  pair_all-takes (a ∷ []) bytes (xs, ys, whole, takes, none) =
      subst (Takes a) (sym (append-nil xs) ∙ ap (λ zs. xs ++ zs) (sym none) ∙ sym whole) takes
  pair_all-takes (a ∷ b ∷ rest) bytes (xs, ys, whole, takes, each) =
      subst (Takes (pair a (pair_all (b ∷ rest)))) (sym whole) (pair-takes a (pair_all (b ∷ rest)) xs ys takes (pair_all-takes (b ∷ rest) ys each))

  each_byte-takes : (bytes : List ℕ) → EachTakes (map one_byte bytes) bytes
  each_byte-takes [] = refl
  each_byte-takes (b ∷ bytes) = (b ∷ [], bytes, refl, byte-takes b, each_byte-takes bytes)

  joined-parts : (one other : Option (List ℕ)) (bytes : List ℕ) → joined one other ≡ Some bytes
      → (xs : List ℕ) × (ys : List ℕ) × (one ≡ Some xs) × (other ≡ Some ys) × (bytes ≡ xs ++ ys)
  joined-parts None other bytes e = absurd (none-some bytes e)
  joined-parts (Some xs) None bytes e = absurd (none-some bytes e)
  joined-parts (Some xs) (Some ys) bytes e = (xs, ys, refl, refl, sym (same_Some _ _ e))

  mutual
    text-takes : (tree : Tree) (bytes : List ℕ) → text_of_tree tree ≡ Some bytes → Takes (core_of_tree tree) bytes
    text-takes tree.empty bytes e = subst (Takes empty) (same_Some _ _ e) empty-takes
    text-takes (tree.literal part) bytes e = subst (Takes (literal part)) (same_Some _ _ e) (pair_all-takes (map one_byte part) part (each_byte-takes part))
    text-takes (tree.class_chars ranges) bytes e = absurd (none-some bytes e)
    text-takes (tree.class_bytes ranges) bytes e = absurd (none-some bytes e)
    text-takes (tree.look kind) bytes e = absurd (none-some bytes e)
    text-takes (tree.repetition least most greedy part) bytes e = absurd (none-some bytes e)
    text-takes (tree.capture index name part) bytes e = absurd (none-some bytes e)
    text-takes (tree.concat parts) bytes e = pair_all-takes (cores_of_trees parts) bytes (each_text-takes parts bytes e)
    text-takes (tree.alternation parts) bytes e = absurd (none-some bytes e)

    each_text-takes : (parts : Trees) (bytes : List ℕ) → joined_all (texts_of_trees parts) ≡ Some bytes → EachTakes (cores_of_trees parts) bytes
    each_text-takes tree.none bytes e = sym (same_Some _ _ e)
    each_text-takes (tree.more part rest) bytes e =
        let parts = joined-parts (text_of_tree part) (joined_all (texts_of_trees rest)) bytes e in
        (parts.0, parts.1, parts.4, text-takes part parts.0 parts.2, each_text-takes rest parts.1 parts.3)

-- the preferred match of a pattern that is one text is the text, where it stands
pub preferred-text : (tree : Tree) (bytes : List ℕ) → text_of_tree tree ≡ Some bytes → (groups : ℕ) (text : List ℕ) (at : ℕ)
    → preferred (core_of_tree tree) groups text at ≡ text_found bytes groups text at
preferred-text tree bytes e groups text at =
    preferred-first (core_of_tree tree) groups text at 0
    ∙ cases (stands_at bytes text at) (runs text (core_of_tree tree) 0 (begin at groups)) (text-takes text tree bytes e 0 (begin at groups) (λ i. refl))
  where
    cases : (t : Bool) (rs : List Run) → IsTaken t (at + length bytes) (0 + numbers (core_of_tree tree)) (replicate (groups + 1) None) rs
        → option_map (λ r. slice_set r.groups 0 (Some (at, r.at))) (first rs) ≡ (if t then Some (text_groups bytes groups at) else None)
    cases true rs (s, one, there, same, fresh) =
        ap (λ us. option_map (λ r. slice_set r.groups 0 (Some (at, r.at))) (first us)) one
        ∙ ap₂ (λ (gs : List (Option (ℕ × ℕ))) (end : ℕ). Some (slice_set gs 0 (Some (at, end)))) same there
    cases false rs none = ap (λ us. option_map (λ r. slice_set r.groups 0 (Some (at, r.at))) (first us)) none

-- the text of a concatenation
texts_of_parts : (parts : List Hir) → texts_of_trees (trees (map tree_of parts)) ≡ map text_of parts
texts_of_parts [] = refl
texts_of_parts (part ∷ rest) = ap (λ texts. text_of part ∷ texts) (texts_of_parts rest)

pub text_concat : (hirs : Hirs) → text_of (Concat hirs) ≡ joined_all (map text_of (parts_of hirs))
text_concat hirs = ap text_of_tree (tree_concat hirs) ∙ ap joined_all (texts_of_parts (parts_of hirs))
