-- The plan of a directory is one, and that of some of its entries is a cut of it.
use Rattle.std.proofs.Common.{◌≡◌, ℕ, List, [], ◌∷◌, Option, Some, map, refl, sym, ◌∙◌, ap, subst, arith, inl, inr}
use Rattle.sd_io.specs.Tree.{NameList, Name, Node, Tree}
use Rattle.sd_io.specs.Files.{kind_of}
use Rattle.sd_io.specs.Lists.{Tells, TellAll}
use Rattle.sd_io.specs.declared.meta.RawEntry.{RawEntry}
use Rattle.walk_rest.specs.declared.entry.DirEntry.{DirEntry}
use Rattle.walk_rest.specs.declared.level.Folder.{Folder}
use Rattle.walk_rest.specs.Plan.{Item, Plan, done, past, into, Manner, Seen, fails, stays, enters, seen, IsPast, IsInto, IsPlan, IsContents, ListsNames, in_order, entry_below}
use Rattle.walk_rest.specs.Rest.{IsCutTo, all_kept, past_gone, past_kept, into_gone, into_kept}
use Rattle.walk_rest.specs.Sorting.{IsSublist, nothing, skipped, taken}

some_same : {A : Type 0} (x y : A) → Some x ≡ Some y → x ≡ y
some_same x y e = cc

-- ---- the entries of a directory are told once

tells_same : (tree : Tree) (folder : NameList) (name : Name) (a b : RawEntry) → Tells tree folder name a → Tells tree folder name b → a ≡ b
tells_same tree folder name a b s t =
    let node : s.node ≡ t.node = some_same _ _ (sym s.stands ∙ t.stands) in
    let names : a.name ≡ b.name = s.name_is ∙ sym t.name_is in
    let kinds : a.kind ≡ b.kind = s.kind_is ∙ (ap (λ (n : Node). kind_of n.content) node ∙ sym t.kind_is) in
    let inos : a.ino ≡ b.ino = s.ino_is ∙ (ap (λ (n : Node). n.ino) node ∙ sym t.ino_is) in
    λ i. record { name = names i; kind = kinds i; ino = inos i }

told_same : (tree : Tree) (folder : NameList) (names : List Name) (xs ys : List RawEntry) → TellAll tree folder names xs → TellAll tree folder names ys → xs ≡ ys
told_same tree folder [] [] [] s t = refl
told_same tree folder [] [] (y ∷ ys) s t = absurd t
told_same tree folder [] (x ∷ xs) ys s t = absurd s
told_same tree folder (name ∷ names) [] ys s t = absurd s
told_same tree folder (name ∷ names) (x ∷ xs) [] s t = absurd t
told_same tree folder (name ∷ names) (x ∷ xs) (y ∷ ys) s t =
    let first = tells_same tree folder name x y s.0 t.0 in
    let others = told_same tree folder names xs ys s.1 t.1 in
    λ i. first i ∷ others i

pub names_same : (tree : Tree) (path : List ℕ) (xs ys : List RawEntry) → ListsNames tree path xs → ListsNames tree path ys → xs ≡ ys
names_same tree path xs ys s t =
    let same : s.folder ≡ t.folder = some_same _ _ (sym s.leads ∙ t.leads) in
    told_same tree t.folder (tree.order t.folder) xs ys (subst (λ folder. TellAll tree folder (tree.order folder) xs) same s.told) t.told

pub contents_same : (tree : Tree) (manner : Manner) (folder : Folder) (xs ys : List DirEntry) → IsContents tree manner folder xs → IsContents tree manner folder ys → xs ≡ ys
contents_same tree manner folder xs ys (inl a) (inl b) = a.1 ∙ sym b.1
contents_same tree manner folder xs ys (inl a) (inr b) = let l = a.0 in let m = b.shallow in absurd (omega (arith, l, m))
contents_same tree manner folder xs ys (inr a) (inl b) = let l = a.shallow in let m = b.0 in absurd (omega (arith, l, m))
contents_same tree manner folder xs ys (inr a) (inr b) =
    let same = names_same tree folder.path a.listed b.listed a.names b.names in
    a.ordered ∙ (ap (λ raws. in_order manner (map (entry_below folder) raws)) same ∙ sym b.ordered)

-- ---- a plan is one

past_same : (manner : Manner) (s : Seen) (a b : Option Item) → IsPast manner s a → IsPast manner s b → a ≡ b
past_same manner (fails error) a b h k = h ∙ sym k
past_same manner (stays entry) a b h k = h ∙ sym k
past_same manner (enters entry folder) a b h k = absurd h

past_into : (manner : Manner) (s : Seen) (a : Option Item) (folder : Folder) (before after : Option Item) → IsPast manner s a → IsInto manner s folder before after → ⊥
past_into manner (fails error) a folder before after h k = k
past_into manner (stays entry) a folder before after h k = k
past_into manner (enters entry entered) a folder before after h k = h

pub record SameInto (f g : Folder) (a b c d : Option Item) : Type 0 where
  pub folder : f ≡ g
  pub before : a ≡ b
  pub after : c ≡ d

into_same : (manner : Manner) (s : Seen) (f g : Folder) (a b c d : Option Item) → IsInto manner s f a c → IsInto manner s g b d → SameInto f g a b c d
into_same manner (fails error) f g a b c d h k = absurd h
into_same manner (stays entry) f g a b c d h k = absurd h
into_same manner (enters entry entered) f g a b c d h k = record { folder = h.0 ∙ sym k.0; before = h.1 ∙ sym k.1; after = h.2 ∙ sym k.2 }

pub plan_same : (tree : Tree) (manner : Manner) (chain : List Folder) (entries : List DirEntry) (p q : Plan) → IsPlan tree manner chain entries p → IsPlan tree manner chain entries q → p ≡ q
plan_same tree manner chain [] done done f g = refl
plan_same tree manner chain [] done (past a i q) f g = absurd g
plan_same tree manner chain [] done (into a b c d q) f g = absurd g
plan_same tree manner chain [] (past a i p) q f g = absurd f
plan_same tree manner chain [] (into a b c d p) q f g = absurd f
plan_same tree manner chain (x ∷ xs) done q f g = absurd f
plan_same tree manner chain (x ∷ xs) (past a i p) done f g = absurd g
plan_same tree manner chain (x ∷ xs) (past a i p) (past b j q) f g =
    let paths : a ≡ b = f.0 ∙ sym g.0 in
    let items = past_same manner (seen tree manner chain x) i j f.1 g.1 in
    let rest = plan_same tree manner chain xs p q f.2 g.2 in
    λ k. past (paths k) (items k) (rest k)
plan_same tree manner chain (x ∷ xs) (past a i p) (into b c d e q) f g = absurd (past_into manner (seen tree manner chain x) i b c e f.1 g.0)
plan_same tree manner chain (x ∷ xs) (into a b c d p) done f g = absurd g
plan_same tree manner chain (x ∷ xs) (into a b c d p) (past e i q) f g = absurd (past_into manner (seen tree manner chain x) i a b d g.1 f.0)
plan_same tree manner chain (x ∷ xs) (into a b c d p) (into e r s t q) f g =
    let same = into_same manner (seen tree manner chain x) a e b r d t f.0 g.0 in
    let entered : IsContents tree manner e f.1.0 = subst (λ w. IsContents tree manner w f.1.0) same.folder f.1.1 in
    let inner : f.1.0 ≡ g.1.0 = contents_same tree manner e f.1.0 g.1.0 entered g.1.1 in
    let first : IsPlan tree manner (e ∷ chain) f.1.0 c = subst (λ w. IsPlan tree manner (w ∷ chain) f.1.0 c) same.folder f.1.2 in
    let second : IsPlan tree manner (e ∷ chain) g.1.0 c = subst (λ w. IsPlan tree manner (e ∷ chain) w c) inner first in
    let contents = plan_same tree manner (e ∷ chain) g.1.0 c s second g.1.2 in
    let rest = plan_same tree manner chain xs p q f.2 g.2 in
    λ k. into (same.folder k) (same.before k) (contents k) (same.after k) (rest k)

-- ---- some of the entries

abbrev pub HasCut : Tree → Manner → List Folder → List DirEntry → Plan → Type 0
HasCut tree manner chain xs plan = (left : Plan) × IsPlan tree manner chain xs left × IsCutTo plan left

pub plan_cut : (tree : Tree) (manner : Manner) (chain : List Folder) (xs ys : List DirEntry) (plan : Plan) → IsSublist xs ys → IsPlan tree manner chain ys plan → HasCut tree manner chain xs plan
plan_cut tree manner chain xs ys done nothing h = (done, tt, all_kept)
plan_cut tree manner chain xs ys (past a i p) nothing h = absurd h
plan_cut tree manner chain xs ys (into a b c d p) nothing h = absurd h
plan_cut tree manner chain xs ys done (skipped s) h = absurd h
plan_cut tree manner chain xs ys (past a i p) (skipped {xs = us} {ys = vs} s) h =
    let r = plan_cut tree manner chain us vs p s h.2 in (r.0, r.1, past_gone r.2)
plan_cut tree manner chain xs ys (into a b c d p) (skipped {xs = us} {ys = vs} s) h =
    let r = plan_cut tree manner chain us vs p s h.2 in (r.0, r.1, into_gone r.2)
plan_cut tree manner chain xs ys done (taken s) h = absurd h
plan_cut tree manner chain xs ys (past a i p) (taken {xs = us} {ys = vs} s) h =
    let r = plan_cut tree manner chain us vs p s h.2 in (past a i r.0, (h.0, h.1, r.1), past_kept r.2)
plan_cut tree manner chain xs ys (into a b c d p) (taken {xs = us} {ys = vs} s) h =
    let r = plan_cut tree manner chain us vs p s h.2 in (into a b c d r.0, (h.0, h.1, r.1), into_kept r.2)
