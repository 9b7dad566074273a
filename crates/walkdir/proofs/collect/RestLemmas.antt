-- What steps leave due, and what they gave by an end without faults.
use Rattle.std.proofs.Common.{◌≡◌, ◌+◌, ◌⊎◌, ℕ, List, [], ◌∷◌, ◌++◌, Option, Some, None, refl, sym, ◌∙◌, ap, append_assoc, append-nil, arith, inl, inr}
use Rattle.std.proofs.Common.{map}
use Rattle.walk_rest.specs.declared.entry.DirEntry.{DirEntry}
use Rattle.walkdir.specs.Collect.{entry_item, Gives, IsAll}
use Rattle.walk_rest.specs.Plan.{Item, Plan, done, past, into, items_in, items_of}
use Rattle.walk_rest.specs.Rest.{Fault, Part, Rest, Comes, ComesIn, Cuts, Leaves, Moves, none, cut, come, leave, GivesFault, IsStep, entered, due_of, due_in, HasNoFaults}

pub due_snoc : (ps : List Part) (p : Part) → due_in (ps ++ p ∷ []) ≡ due_of p ++ due_in ps
due_snoc [] p = sym (append-nil (due_of p))
due_snoc (q ∷ ps) p = ap (λ xs. xs ++ due_of q) (due_snoc ps p) ∙ append_assoc (due_of p) (due_in ps) (due_of q)

pub clean_front : (ps : List Part) (p : Part) (qs : List Part) → HasNoFaults (ps ++ p ∷ qs) → HasNoFaults ps × (p.faults ≡ [])
clean_front [] p qs h = (tt, h.0)
clean_front (q ∷ ps) p qs h = let r = clean_front ps p qs h.1 in ((h.0, r.0), r.1)

pub clean_snoc : (ps : List Part) (p : Part) → HasNoFaults ps → p.faults ≡ [] → HasNoFaults (ps ++ p ∷ [])
clean_snoc [] p h e = (e, tt)
clean_snoc (q ∷ ps) p h e = (h.0, clean_snoc ps p h.1 e)

-- what `Comes` keeps
abbrev Keeps : Rest → Option Item → Rest → Type 0
Keeps old item new = (due_in old ≡ items_of item ++ due_in new) × HasNoFaults new

-- what comes was due first
pub comes_equal : (below : List Part) (part : Part) (first : Option Item) (left : Plan) (item : Option Item) (new : Rest)
    → part.first ≡ first → part.left ≡ left → ComesIn below part first left item new → due_in (below ++ part ∷ []) ≡ items_of item ++ due_in new
comes_equal below part (Some first) left item new f l c =
    due_snoc below part ∙ (rw (f, c.0, c.1) (sym (ap (λ xs. first ∷ xs) (due_snoc below (record part { first = None })))))
comes_equal below part None done item new f l c = elim c [ ]
comes_equal below part None (past path given plan) item new f l c =
    due_snoc below part ∙ (rw (f, l, c.0, c.1) (append_assoc (items_of given) (items_in plan) (due_in below) ∙ sym (ap (λ xs. items_of given ++ xs) (due_snoc below (record part { left = plan }) ∙ rw f refl))))
comes_equal below part None (into folder before contents after plan) item new f l c =
    let inner : Part = entered folder contents in
    let outer : Part = record part { first = after; left = plan } in
    let first_eq : due_in new ≡ items_in contents ++ ((items_of after ++ items_in plan) ++ due_in below) =
    rw c.1 (due_snoc (below ++ outer ∷ []) inner ∙ ap (λ xs. items_in contents ++ xs) (due_snoc below outer)) in
    due_snoc below part ∙ (rw (f, l, c.0, first_eq) (simp append_assoc))

comes_in : (below : List Part) (part : Part) (first : Option Item) (left : Plan) (item : Option Item) (new : Rest)
    → HasNoFaults below → part.faults ≡ [] → part.first ≡ first → part.left ≡ left → ComesIn below part first left item new → Keeps (below ++ part ∷ []) item new
comes_in below part (Some first) left item new clean faults f l c =
    (comes_equal below part (Some first) left item new f l c, rw c.1 (clean_snoc below (record part { first = None }) clean faults))
comes_in below part None done item new clean faults f l c = elim c [ ]
comes_in below part None (past path given plan) item new clean faults f l c =
    (comes_equal below part None (past path given plan) item new f l c, rw c.1 (clean_snoc below (record part { left = plan }) clean faults))
comes_in below part None (into folder before contents after plan) item new clean faults f l c =
    let outer : Part = record part { first = after; left = plan } in (
      comes_equal below part None (into folder before contents after plan) item new f l c,
      rw c.1 (clean_snoc (below ++ outer ∷ []) (entered folder contents) (clean_snoc below outer clean faults) refl),
    )

pub comes_due : (old : Rest) (item : Option Item) (new : Rest) → HasNoFaults old → Comes old item new → Keeps old item new
comes_due old item new clean c =
    let parts : HasNoFaults (c.below ++ c.part ∷ []) = rw (← c.was) clean in
    let front = clean_front c.below c.part [] parts in
    rw c.was (comes_in c.below c.part c.part.first c.part.left item new front.0 front.1 refl refl c.comes)

pub leaves_due : (old new : Rest) → HasNoFaults old → Leaves old new → Keeps old None new
leaves_due old new clean l =
    let parts : HasNoFaults (new ++ l.part ∷ []) = rw (← l.was) clean in
    (ap due_in l.was ∙ (due_snoc new l.part ∙ rw (l.spent.first, l.spent.left) refl), (clean_front new l.part [] parts).0)

clean_join : (ps : List Part) (p : Part) (qs : List Part) → HasNoFaults ps → p.faults ≡ [] → HasNoFaults qs → HasNoFaults (ps ++ p ∷ qs)
clean_join [] p qs h e k = (e, k)
clean_join (q ∷ ps) p qs h e k = (h.0, clean_join ps p qs h.1 e k)

below_clean : (below : List Part) (part : Part) (first : Option Item) (left : Plan) (item : Option Item) (new : Rest) → ComesIn below part first left item new → HasNoFaults new → HasNoFaults below
below_clean below part (Some first) left item new c h = let k : HasNoFaults (below ++ record part { first = None } ∷ []) = rw (← c.1) h in (clean_front below _ [] k).0
below_clean below part None done item new c h = absurd c
below_clean below part None (past path given plan) item new c h = let k : HasNoFaults (below ++ record part { left = plan } ∷ []) = rw (← c.1) h in (clean_front below _ [] k).0
below_clean below part None (into folder before contents after plan) item new c h =
    let k : HasNoFaults ((below ++ record part { first = after; left = plan } ∷ []) ++ entered folder contents ∷ []) = rw (← c.1) h in
    (clean_front below _ [] (clean_front (below ++ record part { first = after; left = plan } ∷ []) (entered folder contents) [] k).0).0

-- before something came no fault was due, if none is after it
pub comes_back : (old : Rest) (item : Option Item) (new : Rest) → Comes old item new → HasNoFaults new → HasNoFaults old × (due_in old ≡ items_of item ++ due_in new)
comes_back old item new c h =
    let below = below_clean c.below c.part c.part.first c.part.left item new c.comes h in
    let clean : HasNoFaults old = rw c.was (clean_join c.below c.part [] below c.faultless tt) in
    (clean, (comes_due old item new clean c).0)

leaves_back : (old new : Rest) → Leaves old new → HasNoFaults new → HasNoFaults old × (due_in old ≡ due_in new)
leaves_back old new l h =
    let clean : HasNoFaults old = rw l.was (clean_join new l.part [] h l.spent.faults tt) in
    (clean, (leaves_due old new clean l).0)

snoc_not_nil : (fs : List Fault) (f : Fault) → fs ++ f ∷ [] ≡ [] → ⊥
snoc_not_nil [] f e = cc
snoc_not_nil (g ∷ fs) f e = cc

cuts_back : (old new : Rest) → Cuts old new → HasNoFaults new → ⊥
cuts_back old new c h =
    let k : HasNoFaults (c.below ++ record c.part { left = c.left; faults = c.part.faults ++ c.fault ∷ [] } ∷ c.above) = rw (← c.now) h in
    snoc_not_nil c.part.faults c.fault (clean_front c.below _ c.above k).1

pub record Back (n : ℕ) (old : Rest) (items : List Item) (new : Rest) : Type 0 where
  pub none : n ≡ 0
  pub clean : HasNoFaults old
  pub due : due_in old ≡ items ++ due_in new

moves_back : (n : ℕ) (old new : Rest) → Moves n old new → HasNoFaults new → Back n old [] new
moves_back n old new none h = record { none = refl; clean = h; due = refl }
moves_back n old new (cut {mid = mid} m c) h = absurd (cuts_back mid new c h)
moves_back n old new (come {mid = mid} m c) h =
    let s = comes_back mid None new c h in
    let r = moves_back n old mid m s.0 in
    record { none = r.none; clean = r.clean; due = r.due ∙ s.1 }
moves_back n old new (leave {mid = mid} m l) h =
    let s = leaves_back mid new l h in
    let r = moves_back n old mid m s.0 in
    record { none = r.none; clean = r.clean; due = r.due ∙ s.1 }

answer_back : (mid : Rest) (entry : DirEntry) (new : Rest) → GivesFault mid (entry_item entry) new ⊎ Comes mid (Some (entry_item entry)) new → HasNoFaults new → HasNoFaults mid × (due_in mid ≡ entry_item entry ∷ due_in new)
answer_back mid entry new (inl g) h = let e = g.given in absurd (cc e)
answer_back mid entry new (inr c) h = comes_back mid (Some (entry_item entry)) new c h

pub step_back : (n : ℕ) (old : Rest) (entry : DirEntry) (new : Rest) → IsStep n old (Some (entry_item entry)) new → HasNoFaults new → Back n old (entry_item entry ∷ []) new
step_back n old entry new s h =
    let a = answer_back s.mid entry new s.answers h in
    let m = moves_back n old s.mid s.moves a.0 in
    record { none = m.none; clean = m.clean; due = m.due ∙ a.1 }

-- nothing was due at an end
pub end_back : (n : ℕ) (old new : Rest) → IsStep n old None new → Back n old [] []
end_back n old new s =
    let empty : s.mid ≡ [] = s.answers.0 in
    let m = moves_back n old s.mid s.moves (rw empty tt) in
    record { none = m.none; clean = m.clean; due = m.due ∙ ap due_in empty }

-- steps that gave entries alone made no cut, if no fault is due after them
pub gives_back : (n : ℕ) (old : Rest) (entries : List DirEntry) (new : Rest) → Gives n old (map entry_item entries) new → HasNoFaults new → Back n old (map entry_item entries) new
gives_back n old [] new g h = record { none = g.0; clean = rw (← g.1) h; due = ap due_in (sym g.1) }
gives_back n old (entry ∷ entries) new g h =
    let r = gives_back g.1 g.2 entries new g.5 h in
    let s = step_back g.0 old entry g.2 g.4 r.clean in
    let a = s.none in
    let b = r.none in
    let sum = g.3 in
    record { none = omega (arith, a, b, sum); clean = s.clean; due = s.due ∙ ap (λ z. entry_item entry ∷ z) r.due }

pub gives_more : (n k : ℕ) (old : Rest) (items : List Item) (mid : Rest) (item : Item) (new : Rest) → Gives n old items mid → IsStep k mid (Some item) new → Gives (n + k) old (items ++ item ∷ []) new
gives_more n k old [] mid item new g s = let e = g.0 in (k, 0, new, omega (arith, e), rw (← g.1) s, (refl, refl))
gives_more n k old (first ∷ items) mid item new g s = let sum = g.3 in (g.0, g.1 + k, g.2, omega (arith, sum), g.4, gives_more g.1 k g.2 items mid item new g.5 s)

-- entries that were given, before an end, are all
pub all_given : (n k : ℕ) (old : Rest) (entries : List DirEntry) (mid new : Rest) → Gives n old (map entry_item entries) mid → IsStep k mid None new → IsAll old entries
all_given n k old entries mid new g s =
    let e = end_back k mid new s in
    let r = gives_back n old entries mid g e.clean in
    record { faultless = r.clean; all = r.due ∙ (ap (λ z. map entry_item entries ++ z) e.due ∙ append-nil _) }
