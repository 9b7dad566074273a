-- What steps of a plain walk give, where each directory that is left out is left.
use Rattle.std.proofs.Common.{◌≡◌, ◌⊎◌, ℕ, Bool, true, false, cond, inl, inr, List, [], ◌∷◌, ◌++◌, Option, Some, None, Ok, Err, refl, sym, ◌∙◌, ap, subst, append_assoc, append-nil, arith, length, length-append, ◌+◌}
use Rattle.std.proofs.lemmas.Bool.{false≢true}
use Rattle.walk_rest.specs.declared.entry.DirEntry.{DirEntry}
use Rattle.walk_rest.specs.declared.error.Error.{Error}
use Rattle.walk_rest.specs.declared.level.Folder.{Folder}
use Rattle.walk_rest.specs.Plan.{Item, Plan, done, past, into, items_of, is_directory}
use Rattle.walk_rest.specs.Rest.{Fault, Part, Rest, IsCutTo, all_kept, past_gone, past_kept, into_gone, into_kept, IsNextGone, IsFaultIn, Comes, ComesIn, Cuts, Leaves, Moves, none, cut, come, leave, GivesFault, IsStep, Skips, entered, HasNoFaults}
use Rattle.walk_steps.specs.Steps.{IsNextInto}
use Rattle.walkdir.proofs.gather.PartLemmas.{part_whole, part_none, part_append, part_after, part_of_part}
use Rattle.walkdir.specs.Gather.{IsPlain, IsPlainRest, unless_out, given_in, given_of, given_rest, to_list_in, to_list_rest, width_of, IsPart, GivesEntry, StopsFor}

-- ---- plain rests

pub plain_join : (ps : Rest) (p : Part) (qs : Rest) → IsPlainRest ps → (p.first ≡ None) × IsPlain p.left → IsPlainRest qs → IsPlainRest (ps ++ p ∷ qs)
plain_join [] p qs front plain back = (plain, back)
plain_join (q ∷ ps) p qs front plain back = (front.0, plain_join ps p qs front.1 plain back)

pub plain_parts : (ps : Rest) (p : Part) (qs : Rest) → IsPlainRest (ps ++ p ∷ qs) → IsPlainRest ps × ((p.first ≡ None) × IsPlain p.left) × IsPlainRest qs
plain_parts [] p qs plain = (tt, plain.0, plain.1)
plain_parts (q ∷ ps) p qs plain = let rest = plain_parts ps p qs plain.1 in ((plain.0, rest.0), rest.1, rest.2)

cut_plain : (plan left : Plan) → IsCutTo plan left → IsPlain plan → IsPlain left
cut_plain plan left all_kept plain = tt
cut_plain plan left (past_gone {plan = p} {left = l} h) plain = cut_plain p l h plain.1
cut_plain plan left (past_kept {plan = p} {left = l} h) plain = (plain.0, cut_plain p l h plain.1)
cut_plain plan left (into_gone {plan = p} {left = l} h) plain = cut_plain p l h plain.3
cut_plain plan left (into_kept {plan = p} {left = l} h) plain = (plain.0, plain.1, plain.2, cut_plain p l h plain.3)

gone_plain : (plan : Plan) (path : List ℕ) (left : Plan) → IsNextGone plan path left → IsPlain plan → IsPlain left
gone_plain done path left h plain = absurd h
gone_plain (past at item plan) path left h plain = subst IsPlain (sym h.1) plain.1
gone_plain (into folder before contents after plan) path left h plain = subst IsPlain (sym h.1) plain.3

fault_plain : (folder : Option Folder) (fault : Fault) (plan left : Plan) → IsFaultIn folder fault plan left → IsPlain plan → IsPlain left
fault_plain None fault plan left (inl (path, e, gone)) plain = gone_plain plan path left gone plain
fault_plain None fault plan left (inr (path, e, gone)) plain = gone_plain plan path left gone plain
fault_plain (Some folder) fault plan left (inl (e, over)) plain = subst IsPlain (sym over) tt
fault_plain (Some folder) fault plan left (inr (inl (e, cuts))) plain = cut_plain plan left cuts plain
fault_plain (Some folder) fault plan left (inr (inr (path, e, gone))) plain = gone_plain plan path left gone plain

cuts_plain : (old new : Rest) → Cuts old new → IsPlainRest old → IsPlainRest new
cuts_plain old new c plain =
    let parts = plain_parts c.below c.part c.above (subst IsPlainRest c.was plain) in
    subst IsPlainRest (sym c.now)
    (plain_join c.below (record c.part { left = c.left; faults = c.part.faults ++ c.fault ∷ [] }) c.above parts.0
    (parts.1.0, fault_plain c.part.folder c.fault c.part.left c.left c.met parts.1.1) parts.2)

leaves_plain : (old new : Rest) → Leaves old new → IsPlainRest old → IsPlainRest new
leaves_plain old new l plain = (plain_parts new l.part [] (subst IsPlainRest l.was plain)).0

-- nothing hidden comes
no_hidden_in : (below : Rest) (part : Part) (first : Option Item) (left : Plan) (new : Rest) → part.first ≡ first → part.left ≡ left → (part.first ≡ None) × IsPlain part.left → ComesIn below part first left None new → ⊥
no_hidden_in below part (Some first) left new f l plain c = cc (f, plain.0)
no_hidden_in below part None done new f l plain c = c
no_hidden_in below part None (past path given plan) new f l plain c = let item = (subst IsPlain l plain.1).0 in let is = item.1 in cc (is, c.0)
no_hidden_in below part None (into folder before contents after plan) new f l plain c = let item = (subst IsPlain l plain.1).0 in let is = item.1 in cc (is, c.0)

no_hidden : (old new : Rest) → IsPlainRest old → Comes old None new → ⊥
no_hidden old new plain c =
    no_hidden_in c.below c.part c.part.first c.part.left new refl refl (plain_parts c.below c.part [] (subst IsPlainRest c.was plain)).1 c.comes

pub moves_plain : (n : ℕ) (old new : Rest) → Moves n old new → IsPlainRest old → IsPlainRest new
moves_plain n old new none plain = plain
moves_plain n old new (cut {n = m} {mid = mid} h c) plain = cuts_plain mid new c (moves_plain m old mid h plain)
moves_plain n old new (come {mid = mid} h c) plain = absurd (no_hidden mid new (moves_plain n old mid h plain) c)
moves_plain n old new (leave {mid = mid} h l) plain = leaves_plain mid new l (moves_plain n old mid h plain)

pub fault_given_plain : (old : Rest) (item : Item) (new : Rest) → GivesFault old item new → IsPlainRest old → IsPlainRest new
fault_given_plain old item new g plain =
    let parts = plain_parts g.below g.part g.above (subst IsPlainRest g.was plain) in
    subst IsPlainRest (sym g.now) (plain_join g.below (record g.part { faults = g.before ++ g.after }) g.above parts.0 parts.1 parts.2)

-- ---- faults

pub clean_join : (ps : List Part) (p : Part) (qs : List Part) → HasNoFaults ps → p.faults ≡ [] → HasNoFaults qs → HasNoFaults (ps ++ p ∷ qs)
clean_join [] p qs h e k = (e, k)
clean_join (q ∷ ps) p qs h e k = (h.0, clean_join ps p qs h.1 e k)

pub clean_front : (ps : List Part) (p : Part) (qs : List Part) → HasNoFaults (ps ++ p ∷ qs) → HasNoFaults ps × (p.faults ≡ [])
clean_front [] p qs h = (tt, h.0)
clean_front (q ∷ ps) p qs h = let r = clean_front ps p qs h.1 in ((h.0, r.0), r.1)

snoc_not_nil : (fs : List Fault) (f : Fault) → fs ++ f ∷ [] ≡ [] → ⊥
snoc_not_nil [] f e = cc
snoc_not_nil (g ∷ fs) f e = cc

cuts_back : (old new : Rest) → Cuts old new → HasNoFaults new → ⊥
cuts_back old new c h =
    let k : HasNoFaults (c.below ++ record c.part { left = c.left; faults = c.part.faults ++ c.fault ∷ [] } ∷ c.above) = subst HasNoFaults c.now h in
    snoc_not_nil c.part.faults c.fault (clean_front c.below _ c.above k).1

-- ---- the last one

snoc_inj : {X : Type 0} (xs ys : List X) (x y : X) → xs ++ x ∷ [] ≡ ys ++ y ∷ [] → xs ≡ ys
snoc_inj [] [] x y e = refl
snoc_inj [] (b ∷ []) x y e = absurd (cc e)
snoc_inj [] (b ∷ c ∷ ys) x y e = absurd (cc e)
snoc_inj (a ∷ []) [] x y e = absurd (cc e)
snoc_inj (a ∷ c ∷ xs) [] x y e = absurd (cc e)
snoc_inj (a ∷ xs) (b ∷ ys) x y e = let first : a ≡ b = cc e in let rest = snoc_inj xs ys x y (cc e) in λ i. first i ∷ rest i

pub snoc_last : {X : Type 0} (xs ys : List X) (x y : X) → xs ++ x ∷ [] ≡ ys ++ y ∷ [] → x ≡ y
snoc_last [] [] x y e = cc e
snoc_last [] (b ∷ []) x y e = absurd (cc e)
snoc_last [] (b ∷ c ∷ ys) x y e = absurd (cc e)
snoc_last (a ∷ []) [] x y e = absurd (cc e)
snoc_last (a ∷ c ∷ xs) [] x y e = absurd (cc e)
snoc_last (a ∷ xs) (b ∷ ys) x y e = snoc_last xs ys x y (cc e)

-- ---- what is given

module _ (out : DirEntry → Bool) where
  given_snoc : (ps : List Part) (p : Part) → given_rest out (ps ++ p ∷ []) ≡ given_of out p ++ given_rest out ps
  given_snoc [] p = sym (append-nil (given_of out p))
  given_snoc (q ∷ ps) p = ap (λ xs. xs ++ given_of out q) (given_snoc ps p) ∙ append_assoc (given_of out p) (given_rest out ps) (given_of out q)

  leaves_given : (old new : Rest) → Leaves old new → given_rest out old ≡ given_rest out new
  leaves_given old new l = ap (given_rest out) l.was ∙ (given_snoc new l.part ∙ rw (l.spent.first, l.spent.left) refl)

  -- how many entries are listed
  to_list_snoc : (ps : List Part) (p : Part) → to_list_rest out (ps ++ p ∷ []) ≡ to_list_in out p.left + to_list_rest out ps
  to_list_snoc [] p = refl
  to_list_snoc (q ∷ ps) p = let rest = to_list_snoc ps p in omega (arith, rest)

  leaves_to_list : (old new : Rest) → Leaves old new → to_list_rest out old ≡ to_list_rest out new
  leaves_to_list old new l =
      let was = ap (to_list_rest out) l.was in
      let all = to_list_snoc new l.part in
      let none = ap (to_list_in out) l.spent.left in
      omega (arith, was, all, none)

  cut_part : (plan left : Plan) → IsCutTo plan left → IsPart (given_in out left) (given_in out plan)
  cut_part plan left all_kept = refl
  cut_part plan left (past_gone {item = item} {plan = p} {left = l} h) = part_after (given_in out l) (items_of item) (given_in out p) (cut_part p l h)
  cut_part plan left (past_kept {item = item} {plan = p} {left = l} h) =
      part_append (items_of item) (items_of item) (given_in out l) (given_in out p) (part_whole (items_of item)) (cut_part p l h)
  cut_part plan left (into_gone {before = before} {after = after} {contents = contents} {plan = p} {left = l} h) =
      part_after (given_in out l) (items_of before) _
      (part_after (given_in out l) (unless_out out [] before (given_in out contents)) _ (part_after (given_in out l) (items_of after) (given_in out p) (cut_part p l h)))
  cut_part plan left (into_kept {before = before} {after = after} {contents = contents} {plan = p} {left = l} h) =
      let inside = unless_out out [] before (given_in out contents) in
      part_append (items_of before) (items_of before) _ _ (part_whole (items_of before))
      (part_append inside inside _ _ (part_whole inside) (part_append (items_of after) (items_of after) (given_in out l) (given_in out p) (part_whole (items_of after)) (cut_part p l h)))

  gone_part : (plan : Plan) (path : List ℕ) (left : Plan) → IsNextGone plan path left → IsPart (given_in out left) (given_in out plan)
  gone_part done path left h = absurd h
  gone_part (past at item plan) path left h =
      subst (λ (l : Plan). IsPart (given_in out l) (items_of item ++ given_in out plan)) (sym h.1) (part_after (given_in out plan) (items_of item) (given_in out plan) (part_whole (given_in out plan)))
  gone_part (into folder before contents after plan) path left h =
      let inside = unless_out out [] before (given_in out contents) in
      subst (λ (l : Plan). IsPart (given_in out l) (items_of before ++ (inside ++ (items_of after ++ given_in out plan)))) (sym h.1)
      (part_after (given_in out plan) (items_of before) (inside ++ (items_of after ++ given_in out plan))
      (part_after (given_in out plan) inside (items_of after ++ given_in out plan) (part_after (given_in out plan) (items_of after) (given_in out plan) (part_whole (given_in out plan)))))

  fault_part : (folder : Option Folder) (fault : Fault) (plan left : Plan) → IsFaultIn folder fault plan left → IsPart (given_in out left) (given_in out plan)
  fault_part None fault plan left (inl (path, e, gone)) = gone_part plan path left gone
  fault_part None fault plan left (inr (path, e, gone)) = gone_part plan path left gone
  fault_part (Some folder) fault plan left (inl (e, over)) = subst (λ (l : Plan). IsPart (given_in out l) (given_in out plan)) (sym over) (part_none (given_in out plan))
  fault_part (Some folder) fault plan left (inr (inl (e, cuts))) = cut_part plan left cuts
  fault_part (Some folder) fault plan left (inr (inr (path, e, gone))) = gone_part plan path left gone

  part_in_rest : (below above : List Part) (p q : Part) → IsPart (given_of out q) (given_of out p) → IsPart (given_rest out (below ++ q ∷ above)) (given_rest out (below ++ p ∷ above))
  part_in_rest [] above p q h = part_append (given_rest out above) (given_rest out above) (given_of out q) (given_of out p) (part_whole (given_rest out above)) h
  part_in_rest (b ∷ below) above p q h =
      part_append (given_rest out (below ++ q ∷ above)) (given_rest out (below ++ p ∷ above)) (given_of out b) (given_of out b) (part_in_rest below above p q h) (part_whole (given_of out b))

  given_as : (old new was now : Rest) → old ≡ was → new ≡ now → IsPart (given_rest out now) (given_rest out was) → IsPart (given_rest out new) (given_rest out old)
  given_as old new was now e f h =
      subst (λ (r : Rest). IsPart (given_rest out r) (given_rest out old)) (sym f) (subst (λ (r : Rest). IsPart (given_rest out now) (given_rest out r)) (sym e) h)

  cuts_part : (old new : Rest) → Cuts old new → IsPart (given_rest out new) (given_rest out old)
  cuts_part old new c = given_as old new _ _ c.was c.now
      (part_in_rest c.below c.above c.part (record c.part { left = c.left; faults = c.part.faults ++ c.fault ∷ [] })
      (part_append (items_of c.part.first) (items_of c.part.first) (given_in out c.left) (given_in out c.part.left) (part_whole (items_of c.part.first))
      (fault_part c.part.folder c.fault c.part.left c.left c.met)))

  same_part : (xs ys : List Item) → ys ≡ xs → IsPart xs ys
  same_part xs ys e = subst (λ (zs : List Item). IsPart xs zs) (sym e) (part_whole xs)

  -- what is given after some moves was given before
  moves_part : (n : ℕ) (old new : Rest) → Moves n old new → IsPlainRest old → IsPart (given_rest out new) (given_rest out old)
  moves_part n old new none plain = part_whole (given_rest out old)
  moves_part n old new (cut {n = m} {mid = mid} h c) plain =
      part_of_part (given_rest out new) (given_rest out mid) (given_rest out old) (cuts_part mid new c) (moves_part m old mid h plain)
  moves_part n old new (come {mid = mid} h c) plain = absurd (no_hidden mid new (moves_plain n old mid h plain) c)
  moves_part n old new (leave {mid = mid} h l) plain =
      part_of_part (given_rest out new) (given_rest out mid) (given_rest out old) (same_part (given_rest out new) (given_rest out mid) (leaves_given mid new l)) (moves_part n old mid h plain)

  -- moves before which and after which no fault is due
  record Unmoved (old new : Rest) : Type 0 where
    clean : HasNoFaults old
    same : given_rest out old ≡ given_rest out new
    lists : to_list_rest out old ≡ to_list_rest out new

  moves_back : (n : ℕ) (old new : Rest) → Moves n old new → IsPlainRest old → HasNoFaults new → Unmoved old new
  moves_back n old new none plain clean = record { clean = clean; same = refl; lists = refl }
  moves_back n old new (cut {mid = mid} m c) plain clean = absurd (cuts_back mid new c clean)
  moves_back n old new (come {mid = mid} m c) plain clean = absurd (no_hidden mid new (moves_plain n old mid m plain) c)
  moves_back n old new (leave {mid = mid} m l) plain clean =
      let before : HasNoFaults mid = subst HasNoFaults (sym l.was) (clean_join new l.part [] clean l.spent.faults tt) in
      let r = moves_back n old mid m plain before in
      record { clean = r.clean; same = r.same ∙ leaves_given mid new l; lists = r.lists ∙ leaves_to_list mid new l }

  -- ---- an entry that comes

  -- What an entry that comes leaves: all that is given after it where it isn't left out, or isn't a directory; and where it is a directory that
  -- is left out, all that is given once the directory is left.
  pub record Arrives (entry : DirEntry) (mid new : Rest) : Type 0 where
    pub plain : IsPlainRest new
    pub goes_on : (out entry ≡ false) ⊎ (is_directory entry.kind ≡ false) → given_rest out mid ≡ Ok entry ∷ given_rest out new
    pub clean : HasNoFaults new → HasNoFaults mid
    pub enters : is_directory entry.kind ≡ true → IsNextInto mid
    pub leaves : is_directory entry.kind ≡ true → out entry ≡ true → (after : Rest) → Skips new after
        → (given_rest out mid ≡ Ok entry ∷ given_rest out after) × IsPlainRest after × (HasNoFaults after → HasNoFaults mid)
        × (to_list_rest out mid ≡ to_list_rest out after) × (length new ≡ length after + 1)
    pub only_into : IsNextInto mid → is_directory entry.kind ≡ true
    pub passes : is_directory entry.kind ≡ false → to_list_rest out mid ≡ to_list_rest out new
    pub opens : is_directory entry.kind ≡ true → out entry ≡ false
        → (below : Rest) × (part : Part) × (new ≡ below ++ part ∷ []) × (to_list_rest out mid ≡ width_of part.left + to_list_rest out new)

  past_not_into : (below : List Part) (part : Part) (path : List ℕ) (item : Option Item) (plan : Plan) → part.left ≡ past path item plan → IsNextInto (below ++ part ∷ []) → ⊥
  past_not_into below part path item plan l n = let same = snoc_last below n.below part n.part n.is in let into_it = n.next in let left = ap (λ (p : Part). p.left) same in cc (l, into_it, left)

  -- a skip takes the topmost part off
  skips_is : (ps : Rest) (q p : Part) (after : Rest) → Skips ((ps ++ q ∷ []) ++ p ∷ []) after → after ≡ ps ++ q ∷ []
  skips_is [] q p after skips = sym (snoc_inj (q ∷ []) after p skips.0 skips.1)
  skips_is (a ∷ []) q p after skips = sym (snoc_inj (a ∷ q ∷ []) after p skips.0 skips.1)
  skips_is (a ∷ b ∷ ps) q p after skips = sym (snoc_inj (a ∷ b ∷ (ps ++ q ∷ [])) after p skips.0 skips.1)

  arrives_in : (below : List Part) (part : Part) (first : Option Item) (left : Plan) (entry : DirEntry) (new : Rest) → part.first ≡ first → part.left ≡ left
      → IsPlainRest (below ++ part ∷ []) → part.faults ≡ [] → ComesIn below part first left (Some (Ok entry)) new → Arrives entry (below ++ part ∷ []) new
  arrives_in below part (Some first) left entry new f l plain faultless c = let p = plain_parts below part [] plain in absurd (cc (f, p.1.0))
  arrives_in below part None done entry new f l plain faultless c = absurd c
  arrives_in below part None (past path given plan) entry new f l plain faultless c =
      let p = plain_parts below part [] plain in
      let here = subst IsPlain l p.1.1 in
      let item : given ≡ Some (Ok entry) = sym c.0 in
      let same : here.0.0 ≡ entry = let is = here.0.1 in cc (is, item) in
      let file : is_directory entry.kind ≡ false = subst (λ (e : DirEntry). is_directory e.kind ≡ false) same here.0.2 in
      record {
        plain = subst IsPlainRest (sym c.1) (plain_join below (record part { left = plan }) [] p.0 (p.1.0, here.1) tt);
        goes_on = λ either. given_snoc below part ∙ (rw (f, l, item, c.1) (sym (ap (λ xs. Ok entry ∷ xs) (given_snoc below (record part { left = plan }) ∙ rw f refl))));
        clean = λ h. (let k : HasNoFaults (below ++ record part { left = plan } ∷ []) = subst HasNoFaults c.1 h in clean_join below part [] (clean_front below (record part { left = plan }) [] k).0 faultless tt);
        enters = λ there. absurd (false≢true (sym file ∙ there));
        leaves = λ there. absurd (false≢true (sym file ∙ there));
        only_into = λ next. absurd (past_not_into below part path given plan l next);
        passes = λ _. (let a = to_list_snoc below part in
            let b = to_list_snoc below (record part { left = plan }) in
            let was = ap (to_list_in out) l in
            let is = ap (to_list_rest out) c.1 in
            omega (arith, a, b, was, is));
        opens = λ there. absurd (false≢true (sym file ∙ there));
      }
  arrives_in below part None (into folder before contents after plan) entry new f l plain faultless c =
      let p = plain_parts below part [] plain in
      let here = subst IsPlain l p.1.1 in
      let item : before ≡ Some (Ok entry) = sym c.0 in
      let same : here.0.0 ≡ entry = let is = here.0.1 in cc (is, item) in
      let folder_kind : is_directory entry.kind ≡ true = subst (λ (e : DirEntry). is_directory e.kind ≡ true) same here.0.2 in
      let inner : Part = entered folder contents in
      let outer : Part = record part { first = after; left = plan } in
      let lower : IsPlainRest (below ++ outer ∷ []) = plain_join below outer [] p.0 (here.1, here.3) tt in
      let lower_given : given_rest out (below ++ outer ∷ []) ≡ (items_of after ++ given_in out plan) ++ given_rest out below = given_snoc below outer in
      let all_given : given_rest out new ≡ given_in out contents ++ ((items_of after ++ given_in out plan) ++ given_rest out below) =
      ap (given_rest out) c.1 ∙ (given_snoc (below ++ outer ∷ []) inner ∙ ap (λ xs. given_in out contents ++ xs) lower_given) in
      let mid_given : given_rest out (below ++ part ∷ []) ≡ Ok entry ∷ ((cond (out entry) [] (given_in out contents) ++ (items_of after ++ given_in out plan)) ++ given_rest out below) =
      given_snoc below part ∙ rw (f, l, item) refl in
      let lower_lists = to_list_snoc below outer in
      let inner_lists = to_list_snoc (below ++ outer ∷ []) inner in
      let all_lists = ap (to_list_rest out) c.1 in
      let mid_lists : to_list_rest out (below ++ part ∷ []) ≡ (cond (out entry) 0 (width_of contents + to_list_in out contents) + to_list_in out plan) + to_list_rest out below =
      to_list_snoc below part ∙ rw (l, item) refl in
      record {
        plain = subst IsPlainRest (sym c.1) (plain_join (below ++ outer ∷ []) inner [] lower (refl, here.2) tt);
        goes_on = λ either. elim either [
          | inl stays ↦ mid_given ∙ ap (λ xs. Ok entry ∷ xs) (ap (λ b. (cond b [] (given_in out contents) ++ (items_of after ++ given_in out plan)) ++ given_rest out below) stays
              ∙ append_assoc (given_in out contents) (items_of after ++ given_in out plan) (given_rest out below) ∙ sym all_given)
          | inr file ↦ absurd (false≢true (sym file ∙ folder_kind))
        ];
        clean = λ h. (let k : HasNoFaults ((below ++ outer ∷ []) ++ inner ∷ []) = subst HasNoFaults c.1 h in
            clean_join below part [] (clean_front below outer [] (clean_front (below ++ outer ∷ []) inner [] k).0).0 faultless tt);
        enters = λ there. record { below = below; part = part; is = refl; first = f; folder = folder; before = before; contents = contents; after = after; plan = plan; next = l };
        leaves = λ there goes left skips.
            (let is : left ≡ below ++ outer ∷ [] = skips_is below outer inner left (subst (λ (r : Rest). Skips r left) c.1 skips) in (
              mid_given ∙ ap (λ xs. Ok entry ∷ xs) (ap (λ b. (cond b [] (given_in out contents) ++ (items_of after ++ given_in out plan)) ++ given_rest out below) goes ∙ sym (ap (given_rest out) is ∙ lower_given)),
              subst IsPlainRest (sym is) lower,
              λ h. clean_join below part [] (clean_front below outer [] (subst HasNoFaults is h)).0 faultless tt,
              (let here = ap (λ b. (cond b 0 (width_of contents + to_list_in out contents) + to_list_in out plan) + to_list_rest out below) goes in
                  let after_lists = ap (to_list_rest out) is in
                  omega (arith, mid_lists, here, after_lists, lower_lists)),
              (let long = ap length c.1 in
                  let longer = length-append (below ++ outer ∷ []) (inner ∷ []) in
                  let short = ap length is in
                  omega (arith, long, longer, short)),
            ));
        only_into = λ _. folder_kind;
        passes = λ file. absurd (false≢true (sym file ∙ folder_kind));
        opens = λ there stays. (
          below ++ outer ∷ [],
          inner,
          c.1,
          (let here = ap (λ b. (cond b 0 (width_of contents + to_list_in out contents) + to_list_in out plan) + to_list_rest out below) stays in
              omega (arith, mid_lists, here, all_lists, inner_lists, lower_lists)),
        );
      }

  arrives : (mid : Rest) (entry : DirEntry) (new : Rest) → IsPlainRest mid → Comes mid (Some (Ok entry)) new → Arrives entry mid new
  arrives mid entry new plain c =
      subst (λ (r : Rest). Arrives entry r new) (sym c.was)
      (arrives_in c.below c.part c.part.first c.part.left entry new refl refl (subst IsPlainRest c.was plain) c.faultless c.comes)

  -- ---- steps

  -- the step of an entry
  pub step_arrives : (n : ℕ) (old : Rest) (entry : DirEntry) (new : Rest) → IsPlainRest old → (s : IsStep n old (Some (Ok entry)) new) → Arrives entry s.mid new
  step_arrives n old entry new plain s = by s.answers
    where
      by : GivesFault s.mid (Ok entry) new ⊎ Comes s.mid (Some (Ok entry)) new → Arrives entry s.mid new
      by (inl g) = let e = g.given in absurd (cc e)
      by (inr c) = arrives s.mid entry new (moves_plain n old s.mid s.moves plain) c

  gives_from : (n : ℕ) (old : Rest) (entry : DirEntry) (new after : Rest) → IsPlainRest old → (s : IsStep n old (Some (Ok entry)) new) → IsPlainRest after
      → given_rest out s.mid ≡ Ok entry ∷ given_rest out after → (HasNoFaults after → HasNoFaults s.mid) → GivesEntry out entry old after
  gives_from n old entry new after plain s left same clean = record {
    plain = left;
    part = part_of_part (Ok entry ∷ given_rest out after) (given_rest out s.mid) (given_rest out old) (same_part (Ok entry ∷ given_rest out after) (given_rest out s.mid) same) (moves_part n old s.mid s.moves plain);
    back = λ h. (let r = moves_back n old s.mid s.moves plain (clean h) in (r.clean, r.same ∙ same));
  }

  -- what is still to be listed before it is what is still to be listed after the moves to it
  pub step_lists : (n : ℕ) (old : Rest) (entry : DirEntry) (new : Rest) → IsPlainRest old → (s : IsStep n old (Some (Ok entry)) new) → HasNoFaults s.mid → to_list_rest out old ≡ to_list_rest out s.mid
  step_lists n old entry new plain s clean = (moves_back n old s.mid s.moves plain clean).lists

  -- it goes on
  pub step_goes_on : (n : ℕ) (old : Rest) (entry : DirEntry) (new : Rest) → IsPlainRest old → (s : IsStep n old (Some (Ok entry)) new) → (out entry ≡ false) ⊎ (is_directory entry.kind ≡ false)
      → GivesEntry out entry old new
  step_goes_on n old entry new plain s either =
      let a = step_arrives n old entry new plain s in
      gives_from n old entry new new plain s a.plain (a.goes_on either) a.clean

  -- or its directory is left
  pub step_leaves : (n : ℕ) (old : Rest) (entry : DirEntry) (new after : Rest) → IsPlainRest old → (s : IsStep n old (Some (Ok entry)) new) → is_directory entry.kind ≡ true → out entry ≡ true
      → Skips new after → GivesEntry out entry old after
  step_leaves n old entry new after plain s there goes skips =
      let a = step_arrives n old entry new plain s in
      let l = a.leaves there goes after skips in
      gives_from n old entry new after plain s l.1 l.0 l.2

  -- the end
  pub step_ends : (n : ℕ) (old new : Rest) → IsPlainRest old → IsStep n old None new → HasNoFaults old × (given_rest out old ≡ []) × (to_list_rest out old ≡ 0)
  step_ends n old new plain s =
      let empty : s.mid ≡ [] = s.answers.0 in
      let r = moves_back n old s.mid s.moves plain (subst HasNoFaults (sym empty) tt) in
      (r.clean, r.same ∙ ap (given_rest out) empty, r.lists ∙ ap (to_list_rest out) empty)

  -- an error that is given tells a failure, or was due
  pub step_fails : (n : ℕ) (old : Rest) (failed : Error) (new : Rest) → IsPlainRest old → (s : IsStep n old (Some (Err failed)) new)
      → StopsFor failed
  step_fails n old failed new plain s = by s.answers
    where
      no_error : (below : List Part) (part : Part) (first : Option Item) (left : Plan) → part.first ≡ first → part.left ≡ left → (part.first ≡ None) × IsPlain part.left
          → ComesIn below part first left (Some (Err failed)) new → ⊥
      no_error below part (Some first) left f l p c = cc (f, p.0)
      no_error below part None done f l p c = c
      no_error below part None (past path given plan) f l p c = let item = (subst IsPlain l p.1).0 in let is = item.1 in cc (is, c.0)
      no_error below part None (into folder before contents after plan) f l p c = let item = (subst IsPlain l p.1).0 in let is = item.1 in cc (is, c.0)

      by : GivesFault s.mid (Err failed) new ⊎ Comes s.mid (Some (Err failed)) new → StopsFor failed
      by (inl g) = let e = g.given in inr (g.fault.path, g.fault.depth, cc e)
      by (inr c) =
          absurd (no_error c.below c.part c.part.first c.part.left refl refl (plain_parts c.below c.part [] (subst IsPlainRest c.was (moves_plain n old s.mid s.moves plain))).1 c.comes)
