-- What steps leave due.
use Rattle.std.proofs.Common.{◌≡◌, ℕ, List, [], ◌∷◌, ◌++◌, Option, Some, None, refl, sym, ◌∙◌, ap, append_assoc, append-nil, arith, inl, inr}
use Rattle.walk_rest.specs.Plan.{Item, Plan, done, past, into, items_in, items_of}
use Rattle.walk_rest.specs.Rest.{Fault, Part, Rest, Comes, ComesIn, Leaves, Moves, none, cut, come, leave, GivesFault, Answers, IsStep, entered, due_of, due_in, HasNoFaults, Runs}

pub due_snoc : (ps : List Part) (p : Part) → due_in (ps ++ p ∷ []) ≡ due_of p ++ due_in ps
due_snoc [] p = sym (append-nil (due_of p))
due_snoc (q ∷ ps) p = ap (λ xs. xs ++ due_of q) (due_snoc ps p) ∙ append_assoc (due_of p) (due_in ps) (due_of q)

pub clean_front : (ps : List Part) (p : Part) (qs : List Part) → HasNoFaults (ps ++ p ∷ qs) → HasNoFaults ps × (p.faults ≡ [])
clean_front [] p qs h = (tt, h.0)
clean_front (q ∷ ps) p qs h = let r = clean_front ps p qs h.1 in ((h.0, r.0), r.1)

pub clean_snoc : (ps : List Part) (p : Part) → HasNoFaults ps → p.faults ≡ [] → HasNoFaults (ps ++ p ∷ [])
clean_snoc [] p h e = (e, tt)
clean_snoc (q ∷ ps) p h e = (h.0, clean_snoc ps p h.1 e)

-- what `Comes` keeps
abbrev Keeps : Rest → Option Item → Rest → Type 0
Keeps old item new = (due_in old ≡ items_of item ++ due_in new) × HasNoFaults new

comes_in : (below : List Part) (part : Part) (first : Option Item) (left : Plan) (item : Option Item) (new : Rest)
    → HasNoFaults below → part.faults ≡ [] → part.first ≡ first → part.left ≡ left → ComesIn below part first left item new → Keeps (below ++ part ∷ []) item new
comes_in below part (Some first) left item new clean faults f l c = (
  due_snoc below part
      ∙ (rw (f, c.0, c.1) (sym (ap (λ xs. first ∷ xs) (due_snoc below (record part { first = None }))))),
  rw c.1 (clean_snoc below (record part { first = None }) clean faults),
)
comes_in below part None done item new clean faults f l c = elim c [ ]
comes_in below part None (past path given plan) item new clean faults f l c = (
  due_snoc below part ∙ (rw (f, l, c.0, c.1) (append_assoc (items_of given) (items_in plan) (due_in below) ∙ sym (ap (λ xs. items_of given ++ xs) (due_snoc below (record part { left = plan }) ∙ rw f refl)))),
  rw c.1 (clean_snoc below (record part { left = plan }) clean faults),
)
comes_in below part None (into folder before contents after plan) item new clean faults f l c =
    let inner : Part = entered folder contents in
    let outer : Part = record part { first = after; left = plan } in
    let first_eq : due_in new ≡ items_in contents ++ ((items_of after ++ items_in plan) ++ due_in below) =
    rw c.1 (due_snoc (below ++ outer ∷ []) inner ∙ ap (λ xs. items_in contents ++ xs) (due_snoc below outer)) in (
      due_snoc below part ∙ (rw (f, l, c.0, first_eq) (simp append_assoc)),
      rw c.1 (clean_snoc (below ++ outer ∷ []) inner (clean_snoc below outer clean faults) refl),
    )

pub comes_due : (old : Rest) (item : Option Item) (new : Rest) → HasNoFaults old → Comes old item new → Keeps old item new
comes_due old item new clean c =
    let parts : HasNoFaults (c.below ++ c.part ∷ []) = rw (← c.was) clean in
    let front = clean_front c.below c.part [] parts in
    rw c.was (comes_in c.below c.part c.part.first c.part.left item new front.0 front.1 refl refl c.comes)

pub leaves_due : (old new : Rest) → HasNoFaults old → Leaves old new → Keeps old None new
leaves_due old new clean l =
    let parts : HasNoFaults (new ++ l.part ∷ []) = rw (← l.was) clean in
    (ap due_in l.was ∙ (due_snoc new l.part ∙ rw (l.spent.first, l.spent.left) refl), (clean_front new l.part [] parts).0)

pub moves_due : (n : ℕ) (old new : Rest) → n ≡ 0 → HasNoFaults old → Moves n old new → Keeps old None new
moves_due n old new e clean none = (refl, clean)
moves_due n old new e clean (cut m c) = absurd (omega arith)
moves_due n old new e clean (come {mid = mid} m c) =
    let r = moves_due n old mid e clean m in
    let s = comes_due mid None new r.1 c in
    (r.0 ∙ s.0, s.1)
moves_due n old new e clean (leave {mid = mid} m l) =
    let r = moves_due n old mid e clean m in
    let s = leaves_due mid new r.1 l in
    (r.0 ∙ s.0, s.1)

no_split : (before : List Fault) (fault : Fault) (after : List Fault) → [] ≡ before ++ fault ∷ after → ⊥
no_split [] fault after e = cc
no_split (x ∷ before) fault after e = cc

pub gives_no_fault : (old : Rest) (item : Item) (new : Rest) → HasNoFaults old → GivesFault old item new → ⊥
gives_no_fault old item new clean g =
    let parts : HasNoFaults (g.below ++ g.part ∷ g.above) = rw (← g.was) clean in
    no_split g.before g.fault g.after (sym (clean_front g.below g.part g.above parts).1 ∙ g.due)

answer_due : (mid : Rest) (answer : Option Item) (answered : Rest) → HasNoFaults mid → Answers mid answer answered → Keeps mid answer answered
answer_due mid None answered clean a = (rw (a.0, a.1) refl, rw a.1 tt)
answer_due mid (Some item) answered clean (inl g) = absurd (gives_no_fault mid item answered clean g)
answer_due mid (Some item) answered clean (inr c) = comes_due mid (Some item) answered clean c

pub step_due : (old : Rest) (answer : Option Item) (new : Rest) → HasNoFaults old → IsStep 0 old answer new → Keeps old answer new
step_due old answer new clean s =
    let m = moves_due 0 old s.mid refl clean s.moves in
    let a = answer_due s.mid answer new m.1 s.answers in
    (m.0 ∙ a.0, a.1)

none_due : (old new : Rest) → IsStep 0 old None new → HasNoFaults old → due_in old ≡ []
none_due old new s clean =
    let m = moves_due 0 old s.mid refl clean s.moves in
    m.0 ∙ ap due_in s.answers.0

pub runs_due : (rest : Rest) (items : List Item) → HasNoFaults rest → Runs rest items → items ≡ due_in rest
runs_due rest [] clean r = sym (none_due rest r.0 r.1 clean)
runs_due rest (item ∷ items) clean r =
    let s = step_due rest (Some item) r.0 clean r.1 in
    ap (λ xs. item ∷ xs) (runs_due r.0 items s.1 r.2) ∙ sym s.0
