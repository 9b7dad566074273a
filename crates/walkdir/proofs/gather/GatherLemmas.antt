-- What was gathered of a walk so far, and what is still to come.
use Rattle.std.proofs.Common.{◌≡◌, ◌+◌, ◌<◌, ◌≤◌, ℕ, Bool, true, false, cond, not, inl, inr, List, [], ◌∷◌, ◌++◌, map, Option, Some, None, Result, Ok, Err, refl, sym, ◌∙◌, ap, subst, arith, append_assoc, append-nil}
use Rattle.std.specs.Prelude.{nat_lt, IsTrue}
use Rattle.std.specs.Bool.{MatchBool}
use Rattle.std.proofs.lemmas.Bool.{lt-ltb, le-ltb}
use Rattle.std.proofs.lemmas.List.{map-append}
use Rattle.sd_io.specs.Count.{HasRisen}
use Rattle.sd_io.specs.Disk.{DiskState, SameLists, SameTree}
use Rattle.sd_io.specs.Paths.{reached}
use Rattle.sd_io.specs.Tree.{Tree}
use Rattle.walk_rest.specs.declared.entry.DirEntry.{DirEntry}
use Rattle.walk_rest.specs.declared.error.Error.{Error}
use Rattle.walk_rest.specs.declared.error.Error.TheVariants as error
use Rattle.walk_rest.specs.Errors.{IsRefusedFor}
use Rattle.walk_rest.specs.Plan.{Comparison, Item}
use Rattle.walk_rest.specs.Rest.{Rest, HasNoFaults}
use Rattle.walk_steps.specs.declared.inside.Inside.{Inside}
use Rattle.walk_steps.specs.Inside.{HasRest, SameWalk}
use Rattle.walk_steps.specs.Listed.{GivesAtOnce, IsToListOnTop}
use Rattle.walk_steps.proofs.ListedLemmas.{risen_from, risen_on}
use Rattle.walkdir.specs.Collect.{entry_item, below_root}
use Rattle.walkdir.specs.Gather.{Gathered, GathersAll, GoesOn, GoesTo, IsPart, IsPlainRest, ListsWhole, WhyNotGathered, below_items, gathered_of, given_rest, is_out, to_list_rest}
use Rattle.walkdir.proofs.WalkLemmas.{still_rest_after}
use Rattle.walkdir.proofs.gather.PartLemmas.{part_after, part_append, part_none, part_of_part, part_whole}

-- ---- entries below the root

below_snoc : (given : List DirEntry) (entry : DirEntry) → below_root (given ++ entry ∷ []) ≡ below_root given + cond (nat_lt 0 entry.depth) 1 0
below_snoc [] entry = omega arith
below_snoc (first ∷ given) entry = let rest = below_snoc given entry in omega (arith, rest)

pub below_of : (given : List DirEntry) → below_items (map entry_item given) ≡ below_root given
below_of [] = refl
below_of (entry ∷ given) = let rest = below_of given in omega (arith, rest)

pub counted_more : (below count depth : ℕ) → 0 < depth → count ≡ below + 1 → count ≡ below + cond (nat_lt 0 depth) 1 0
counted_more below count depth deep is = is ∙ ap (λ b. below + cond b 1 0) (sym (lt-ltb 0 depth deep))

pub counted_same : (below count depth : ℕ) → depth ≤ 0 → count ≡ below → count ≡ below + cond (nat_lt 0 depth) 1 0
counted_same below count depth shallow is =
    let none : below + cond (nat_lt 0 depth) 1 0 ≡ below = ap (λ b. below + cond b 1 0) (le-ltb 0 depth shallow) ∙ (omega arith) in
    is ∙ sym none

-- ---- parts

front : (xs ys : List Item) → IsPart xs (xs ++ ys)
front [] ys = part_none ys
front (x ∷ xs) ys = inr (xs, refl, front xs ys)

-- ---- what is gathered

gathered_on : {G : Type 0} (gathers : G → DirEntry → G → Type 0) (xs ys : List Item) (first mid last : G) → Gathered gathers first xs mid → Gathered gathers mid ys last → Gathered gathers first (xs ++ ys) last
gathered_on {G} gathers [] ys first mid last h k = subst (λ (g : G). Gathered gathers g ys last) h k
gathered_on gathers (Ok entry ∷ xs) ys first mid last h k = (h.0, h.1, gathered_on gathers xs ys h.0 mid last h.2 k)
gathered_on gathers (Err failed ∷ xs) ys first mid last h k = gathered_on gathers xs ys first mid last h k

-- one more of some entries
pub some_more : {G : Type 0} (gathers : G → DirEntry → G → Type 0) (entries : List DirEntry) (entry : DirEntry) (left_out : Bool) (first old new : G) → Gathered gathers first (map entry_item entries) old
    → MatchBool left_out (new ≡ old) (gathers old entry new) → (more : List DirEntry) × Gathered gathers first (map entry_item more) new
some_more {G} gathers entries entry true first old new h same = (entries, subst (λ (g : G). Gathered gathers first (map entry_item entries) g) (sym same) h)
some_more {G} gathers entries entry false first old new h made = (
  entries ++ entry ∷ [],
  subst (λ (xs : List Item). Gathered gathers first xs new) (sym (map-append entry_item entries (entry ∷ [])))
      (gathered_on gathers (map entry_item entries) (entry_item entry ∷ []) first old new h (new, made, refl)),
)

module _ (out : DirEntry → Bool) where
  gathered_append : (xs ys : List Item) → gathered_of out (xs ++ ys) ≡ gathered_of out xs ++ gathered_of out ys
  gathered_append [] ys = refl
  gathered_append (x ∷ xs) ys = by (gathered_append xs ys) (not (is_out out x))
    where
      by : gathered_of out (xs ++ ys) ≡ gathered_of out xs ++ gathered_of out ys → (b : Bool)
          → cond b (x ∷ gathered_of out (xs ++ ys)) (gathered_of out (xs ++ ys)) ≡ cond b (x ∷ gathered_of out xs) (gathered_of out xs) ++ gathered_of out ys
      by r true = ap (λ zs. x ∷ zs) r
      by r false = r

  module _ {G : Type 0} (gathers : G → DirEntry → G → Type 0) where
    -- what one more entry makes of it
    gathered_entry : (entry : DirEntry) (left_out : Bool) → left_out ≡ out entry → (old new : G) → MatchBool left_out (new ≡ old) (gathers old entry new)
        → Gathered gathers old (gathered_of out (entry_item entry ∷ [])) new
    gathered_entry entry true is old new h = subst (λ (b : Bool). Gathered gathers old (cond (not b) (entry_item entry ∷ []) []) new) is h
    gathered_entry entry false is old new h = subst (λ (b : Bool). Gathered gathers old (cond (not b) (entry_item entry ∷ []) []) new) is (new, h, refl)

    gathered_more : (given : List DirEntry) (entry : DirEntry) (left_out : Bool) → left_out ≡ out entry → (first old new : G) → Gathered gathers first (gathered_of out (map entry_item given)) old
        → MatchBool left_out (new ≡ old) (gathers old entry new) → Gathered gathers first (gathered_of out (map entry_item (given ++ entry ∷ []))) new
    gathered_more given entry left_out is first old new h k =
        let items : gathered_of out (map entry_item (given ++ entry ∷ [])) ≡ gathered_of out (map entry_item given) ++ gathered_of out (entry_item entry ∷ []) =
        ap (gathered_of out) (map-append entry_item given (entry ∷ [])) ∙ gathered_append (map entry_item given) (entry_item entry ∷ []) in
        subst (λ (xs : List Item). Gathered gathers first xs new) (sym items)
        (gathered_on gathers (gathered_of out (map entry_item given)) (gathered_of out (entry_item entry ∷ [])) first old new h (gathered_entry entry left_out is old new k))

  -- what was given, with one more entry and all that is given after it
  given_more : (given : List DirEntry) (entry : DirEntry) (left : Rest) → map entry_item (given ++ entry ∷ []) ++ given_rest out left ≡ map entry_item given ++ entry_item entry ∷ given_rest out left
  given_more given entry left =
      ap (λ (zs : List Item). zs ++ given_rest out left) (map-append entry_item given (entry ∷ [])) ∙ append_assoc (map entry_item given) (entry_item entry ∷ []) (given_rest out left)

  part_more : (start : Rest) (given : List DirEntry) (entry : DirEntry) (rest left : Rest) → IsPart (map entry_item given ++ given_rest out rest) (given_rest out start)
      → IsPart (entry_item entry ∷ given_rest out left) (given_rest out rest) → IsPart (map entry_item given ++ entry_item entry ∷ given_rest out left) (given_rest out start)
  part_more start given entry rest left so_far part =
      part_of_part (map entry_item given ++ entry_item entry ∷ given_rest out left) (map entry_item given ++ given_rest out rest) (given_rest out start)
      (part_append (map entry_item given) (map entry_item given) (entry_item entry ∷ given_rest out left) (given_rest out rest) (part_whole (map entry_item given)) part) so_far

  module _ {S G : Type 0} (gathers : G → DirEntry → G → Type 0) (sorts : Bool) (by : Comparison) (start : Rest) (old : DiskState) (first : G) (Whole : ℕ → Type 0) where
    -- what is listed next, and with that and what was listed so far all that is still to be listed
    abbrev pub IsListing : DiskState → Inside S → Rest → ℕ → Type 0
    IsListing state inside rest count =
        (next : ℕ) × IsToListOnTop state.tree inside.options.max_depth inside.top next
        × (HasNoFaults rest → state.listed + (next + to_list_rest out rest) ≡ old.listed + (count + to_list_rest out start))

    -- The walk still has a rest. These entries were given, and those that aren't left out were gathered.
    pub record IsOn (state : DiskState) (inside : Inside S) (last : G) (below : ℕ) : Type 0 where
      pub given : List DirEntry
      pub rest : Rest
      pub has_rest : HasRest state sorts by inside rest
      pub plain : IsPlainRest rest
      pub gathered : Gathered gathers first (gathered_of out (map entry_item given)) last
      pub count : below_root given ≡ below
      pub part : IsPart (map entry_item given ++ given_rest out rest) (given_rest out start)
      pub back : HasNoFaults rest → HasNoFaults start × (given_rest out start ≡ map entry_item given ++ given_rest out rest)
      pub lists : (count : ℕ) → Whole count → (HasRisen old.faults state.faults → ⊥) → IsListing state inside rest count

    pub on_at_first : (inside : Inside S) → HasRest old sorts by inside start → IsPlainRest start
        → ((count : ℕ) → Whole count → IsToListOnTop old.tree inside.options.max_depth inside.top count) → IsOn old inside first 0
    on_at_first inside has plain on_top = record {
      given = [];
      rest = start;
      has_rest = has;
      plain = plain;
      gathered = refl;
      count = refl;
      part = part_whole (given_rest out start);
      back = λ clean. (clean, refl);
      lists = λ count whole quiet. (count, on_top count whole, λ clean. refl);
    }

    -- one more entry was given, and then gathered unless it is left out
    pub on_more : (mid new after : DiskState) (inside now : Inside S) (last more : G) (below count : ℕ) (entry : DirEntry) (left_out : Bool) → (o : IsOn mid inside last below)
        → GoesOn out sorts by o.rest entry left_out new now → MatchBool left_out (more ≡ last) (gathers last entry more) → count ≡ below + cond (nat_lt 0 entry.depth) 1 0
        → ((n next : ℕ) → Whole n → IsToListOnTop mid.tree inside.options.max_depth inside.top next → (HasRisen mid.faults new.faults → ⊥) → new.listed ≡ mid.listed + next)
        → old.faults ≤ mid.faults → mid.faults ≤ new.faults → new.faults ≤ after.faults → SameTree new after → SameLists new after → IsOn after now more count
    on_more mid new after inside now last more below count entry left_out o g made counted listed le lf lg tree same = record {
      given = o.given ++ entry ∷ [];
      rest = g.left;
      has_rest = still_rest_after new after sorts by now g.left tree.tree same.open_list g.has_left;
      plain = g.gives.plain;
      gathered = gathered_more gathers o.given entry left_out g.is_out first last more o.gathered made;
      count = (let a = o.count in let b = below_snoc o.given entry in omega (arith, a, b, counted));
      part = subst (λ (zs : List Item). IsPart zs (given_rest out start)) (sym (given_more o.given entry g.left)) (part_more start o.given entry o.rest g.left o.part g.gives.part);
      back = λ clean.
          (let r = g.gives.back clean in
          let q = o.back r.0 in (
            q.0,
            q.1 ∙ ap (λ (zs : List Item). map entry_item o.given ++ zs) r.1 ∙ sym (given_more o.given entry g.left),
          ));
      lists = λ n whole quiet.
          (let so_far = o.lists n whole (λ risen. quiet (risen_on old.faults mid.faults after.faults (omega (arith, lf, lg)) risen)) in
          let step = listed n so_far.0 whole so_far.1 (λ risen. quiet (risen_from old.faults mid.faults after.faults le (risen_on mid.faults new.faults after.faults lg risen))) in
          let lists = same.listed in (
            g.lists.count,
            subst (λ (t : Tree). IsToListOnTop t now.options.max_depth now.top g.lists.count) (sym tree.tree) g.lists.on_top,
            λ clean. (let a = so_far.2 (g.gives.back clean).0 in let b = g.lists.ahead clean in omega (arith, a, b, step, lists)),
          ));
    }

    -- the end
    pub all_gathered : (state : DiskState) (inside : Inside S) (last : G) (below cap : ℕ) → (o : IsOn state inside last below) → HasNoFaults o.rest → given_rest out o.rest ≡ [] → below < cap
        → GathersAll out gathers start cap first last
    all_gathered state inside last below cap o clean none few =
        let q = o.back clean in
        let all : given_rest out start ≡ map entry_item o.given = q.1 ∙ ap (λ (zs : List Item). map entry_item o.given ++ zs) none ∙ append-nil (map entry_item o.given) in
        record {
          faultless = q.0;
          all = subst (λ (items : List Item). Gathered gathers first (gathered_of out items) last) (sym all) o.gathered;
          few = (let a = ap below_items all in let b = below_of o.given in let n = o.count in omega (arith, a, b, n, few));
        }

    pub all_listed : (mid new : DiskState) (inside : Inside S) (last : G) (below n : ℕ) → (o : IsOn mid inside last below) → HasNoFaults o.rest → to_list_rest out o.rest ≡ 0 → Whole n
        → ((next : ℕ) → IsToListOnTop mid.tree inside.options.max_depth inside.top next → (HasRisen mid.faults new.faults → ⊥) → new.listed ≡ mid.listed + next)
        → old.faults ≤ mid.faults → mid.faults ≤ new.faults → (HasRisen old.faults new.faults → ⊥) → new.listed ≡ old.listed + (n + to_list_rest out start)
    all_listed mid new inside last below n o clean none whole listed le lf quiet =
        let so_far = o.lists n whole (λ risen. quiet (risen_on old.faults mid.faults new.faults lf risen)) in
        let step = listed so_far.0 so_far.1 (λ risen. quiet (risen_from old.faults mid.faults new.faults le risen)) in
        let a = so_far.2 clean in
        omega (arith, a, step, none)

    -- too many
    pub too_many : (mid new : DiskState) (inside now : Inside S) (last : G) (below cap : ℕ) (entry : DirEntry) (left_out : Bool) → (o : IsOn mid inside last below) → GoesOn out sorts by o.rest entry left_out new now
        → 0 < entry.depth → below + 1 ≡ cap → WhyNotGathered out old start cap error.TooMany
    too_many mid new inside now last below cap entry left_out o g deep is =
        let given = o.given ++ entry ∷ [] in
        let whole = subst (λ (zs : List Item). IsPart zs (given_rest out start)) (sym (given_more o.given entry g.left)) (part_more start o.given entry o.rest g.left o.part g.gives.part) in
        inr (inl (
          refl,
          (
            given,
            part_of_part (map entry_item given) (map entry_item given ++ given_rest out g.left) (given_rest out start) (front (map entry_item given) (given_rest out g.left)) whole,
            (let a = o.count in let b = below_snoc o.given entry in let c = counted_more below cap entry.depth deep (sym is) in omega (arith, a, b, c)),
          ),
        ))

    -- an entry isn't gathered
    pub not_gathered : (mid new after : DiskState) (inside now : Inside S) (last : G) (below cap : ℕ) (entry : DirEntry) (left_out : Bool) (failed : Error) (tells : Bool) → tells ≡ true → (o : IsOn mid inside last below)
        → GoesOn out sorts by o.rest entry left_out new now → new.tree ≡ old.tree → IsRefusedFor tells new after entry failed → WhyNotGathered out old start cap failed
    not_gathered mid new after inside now last below cap entry left_out failed tells told o g tree (inl memory) = inl (inl memory)
    not_gathered mid new after inside now last below cap entry left_out failed tells told o g tree (inr (inl fault)) = inl (inr (Some entry.path, entry.depth, fault.0))
    not_gathered mid new after inside now last below cap entry left_out failed tells told o g tree (inr (inr absent)) =
        let one : IsPart (entry_item entry ∷ []) (entry_item entry ∷ given_rest out g.left) = inr ([], refl, part_none (given_rest out g.left)) in
        inr (inr (
          entry,
          part_of_part (entry_item entry ∷ []) (map entry_item o.given ++ entry_item entry ∷ given_rest out g.left) (given_rest out start)
              (part_after (entry_item entry ∷ []) (map entry_item o.given) (entry_item entry ∷ given_rest out g.left) one) (part_more start o.given entry o.rest g.left o.part g.gives.part),
          subst (λ (t : Tree). reached t entry.path entry.followed ≡ None) tree (absent.1 told),
        ))

  module _ {S : Type 0} where
    -- where the walk goes from each plain rest, by an order
    abbrev pub GoesBy : (S → Bool) → (S → Comparison → Type 0) → DiskState → Inside S → Result (Option (DirEntry × Bool)) Error → DiskState → Inside S → S → Type 0
    GoesBy sorts compares_by state before result new now order =
        (by : Comparison) (rest : Rest) → compares_by order by → HasRest state (sorts order) by before rest → IsPlainRest rest → GoesTo out (sorts order) by rest result new now

module _ {S : Type 0} where
  -- a walk under way that has so many entries to list
  pub lists_by : (tells : Bool) (sorts : S → Bool) (compares_by : S → Comparison → Type 0) (old mid : DiskState) (before between : Inside S) (count next : ℕ) → SameWalk before between
      → ListsWhole tells compares_by old (sorts before.order) before count → IsToListOnTop mid.tree between.options.max_depth between.top next
      → ListsWhole tells compares_by mid (sorts between.order) between next
  lists_by tells sorts compares_by old mid before between count next same whole on_top = (
    whole.0,
    subst (λ (order : S). IsTrue (sorts order)) (sym same.order) whole.1,
    (whole.2.0, subst (λ (order : S). compares_by order whole.2.0) (sym same.order) whole.2.1),
    subst GivesAtOnce (sym same.options) whole.3,
    on_top,
  )
