-- Lists of outcomes, and outcomes by place.
use Rattle.std.proofs.Common.{subst, ◌≡◌, ◌≢◌, ℕ, List, [], ◌∷◌, ◌++◌, map, refl, ◌∙◌, ap, append-nil, Bool, true, false, cond, ◌⊎◌, inl, inr}
use Rattle.std.specs.Prelude.{Option, Some, None, IsSome, ◌&&◌}
use Rattle.std.specs.Cmp.Lexicographic.{pointwise_decides, bytes_decides}
use Rattle.sd_io.specs.Tree.{Name, NameList, Content, directory, link, file, other, Node, file_content, file_node}
use Rattle.sd_io.specs.Paths.{parent_of}
use Rattle.sd_io.specs.Outcomes.{Left, gone, Outcome, older, Outcomes, Fits, Leaves, same_place, put, own_of, left_behind, settled, is_in, is_nonempty, alone, after_no_move, after_folder_sync}

-- ---- places

pub same_place_true : (p q : NameList) → p ≡ q → same_place p q ≡ true
same_place_true p q e = (pointwise_decides bytes_decides p q).1 e

pub same_place_false : (p q : NameList) → p ≢ q → same_place p q ≡ false
same_place_false p q n = by (same_place p q) refl
  where
    by : (b : Bool) → same_place p q ≡ b → same_place p q ≡ false
    by true e = absurd (n ((pointwise_decides bytes_decides p q).0 e))
    by false e = e

pub put_there : (place : NameList) (list : List Outcome) (outcomes : Outcomes) → put place list outcomes place ≡ list
put_there place list outcomes = ap (λ b. cond b list (outcomes place)) (same_place_true place place refl)

pub put_elsewhere : (place : NameList) (list : List Outcome) (outcomes : Outcomes) (q : NameList) → q ≢ place → put place list outcomes q ≡ outcomes q
put_elsewhere place list outcomes q n = ap (λ b. cond b list (outcomes q)) (same_place_false q place n)

-- ---- what a list leaves

pub leaves_append : (xs ys : List Outcome) (found : Option Content) → Leaves (xs ++ ys) found → Leaves xs found ⊎ Leaves ys found
leaves_append [] ys found l = inr l
leaves_append (x ∷ xs) ys found (inl fits) = inl (inl fits)
leaves_append (x ∷ xs) ys found (inr rest) = elim (leaves_append xs ys found rest) [ inl first ↦ inl (inr first) | inr second ↦ inr second ]

pub leaves_first : (xs ys : List Outcome) (found : Option Content) → Leaves xs found → Leaves (xs ++ ys) found
leaves_first [] ys found l = absurd l
leaves_first (x ∷ xs) ys found (inl fits) = inl fits
leaves_first (x ∷ xs) ys found (inr rest) = inr (leaves_first xs ys found rest)

pub leaves_second : (xs ys : List Outcome) (found : Option Content) → Leaves ys found → Leaves (xs ++ ys) found
leaves_second [] ys found l = l
leaves_second (x ∷ xs) ys found l = inr (leaves_second xs ys found l)

-- what was left behind leaves what it left
pub leaves_behind : (xs : List Outcome) (found : Option Content) → Leaves (left_behind xs) found → Leaves xs found
leaves_behind [] found l = l
leaves_behind (x ∷ xs) found (inl fits) = inl fits
leaves_behind (x ∷ xs) found (inr rest) = inr (leaves_behind xs found rest)

-- own outcomes leave no more
pub leaves_own : (xs : List Outcome) (found : Option Content) → Leaves (own_of xs) found → Leaves xs found
leaves_own [] found l = l
leaves_own (x ∷ xs) found l = by (leaves_own xs found) x.is_own x.left l
  where
    by : (Leaves (own_of xs) found → Leaves xs found) → (b : Bool) (left : Left) → Leaves (cond b (record { is_own = b; left = left } ∷ own_of xs) (own_of xs)) found → Fits left found ⊎ Leaves xs found
    by more true left (inl fits) = inl fits
    by more true left (inr rest) = inr (more rest)
    by more false left rest = inr (more rest)

-- ---- own outcomes

pub own_append : (xs ys : List Outcome) → own_of (xs ++ ys) ≡ own_of xs ++ own_of ys
own_append [] ys = refl
own_append (x ∷ xs) ys = by (own_append xs ys) x.is_own x.left
  where
    by : own_of (xs ++ ys) ≡ own_of xs ++ own_of ys → (b : Bool) (left : Left) → cond b (record { is_own = b; left = left } ∷ own_of (xs ++ ys)) (own_of (xs ++ ys))
        ≡ cond b (record { is_own = b; left = left } ∷ own_of xs) (own_of xs) ++ own_of ys
    by e true left = ap (λ os. record { is_own = true; left = left } ∷ os) e
    by e false left = e

-- nothing that was left behind is a node's own
pub own_behind : (xs : List Outcome) → own_of (left_behind xs) ≡ []
own_behind [] = refl
own_behind (x ∷ xs) = own_behind xs

pub own_twice : (xs : List Outcome) → own_of (own_of xs) ≡ own_of xs
own_twice [] = refl
own_twice (x ∷ xs) = by (own_twice xs) x.is_own x.left
  where
    by : own_of (own_of xs) ≡ own_of xs → (b : Bool) (left : Left) → own_of (cond b (record { is_own = b; left = left } ∷ own_of xs) (own_of xs)) ≡ cond b (record { is_own = b; left = left } ∷ own_of xs) (own_of xs)
    by e true left = ap (λ os. record { is_own = true; left = left } ∷ os) e
    by e false left = e

-- what is settled is as much one's own as before
pub own_settled : (node : Node) (xs : List Outcome) → own_of (map (settled node) xs) ≡ map (settled node) (own_of xs)
own_settled node [] = refl
own_settled node (x ∷ xs) = by (own_settled node xs) x.is_own x.left
  where
    by : own_of (map (settled node) xs) ≡ map (settled node) (own_of xs) → (b : Bool) (left : Left) → cond b (settled node (record { is_own = b; left = left }) ∷ own_of (map (settled node) xs)) (own_of (map (settled node) xs))
        ≡ map (settled node) (cond b (record { is_own = b; left = left } ∷ own_of xs) (own_of xs))
    by e true left = ap (λ os. settled node (record { is_own = true; left = left }) ∷ os) e
    by e false left = e

-- ---- a folder

-- after a folder's sync a place leaves what it left, or nothing where nothing stands
pub folder_leaves : (stands : NameList → Option Node) (folder : NameList) (outcomes : Outcomes) (q : NameList) (found : Option Content) → Leaves (after_folder_sync stands folder outcomes q) found
    → Leaves (outcomes q) found ⊎ ((stands q ≡ None) × (found ≡ None))
folder_leaves stands folder outcomes q found l = by (is_in folder q) l
  where
    by_content : (c : Content) (dev ino : ℕ) → Leaves (alone (Some (record { content = c; dev = dev; ino = ino })) (outcomes q)) found → Leaves (outcomes q) found
    by_content directory dev ino l = l
    by_content (link target) dev ino l = l
    by_content (file bytes mode) dev ino l = leaves_own (outcomes q) found l
    by_content other dev ino l = l

    by_node : (o : Option Node) → Leaves (alone o (outcomes q)) found → Leaves (outcomes q) found ⊎ ((o ≡ None) × (found ≡ None))
    by_node None (inl fits) = inr (refl, fits)
    by_node None (inr none) = absurd none
    by_node (Some node) l = inl (by_content node.content node.dev node.ino l)

    by : (b : Bool) → Leaves (cond b (alone (stands q) (outcomes q)) (outcomes q)) found → Leaves (outcomes q) found ⊎ ((stands q ≡ None) × (found ≡ None))
    by true l = by_node (stands q) l
    by false l = inl l

-- a name in the folder is in it
pub parent_of_child : (folder : NameList) (name : Name) → parent_of (folder ++ name ∷ []) ≡ folder
parent_of_child [] name = refl
parent_of_child (first ∷ []) name = refl
parent_of_child (first ∷ next ∷ more) name = ap (λ rest. first ∷ rest) (parent_of_child (next ∷ more) name)

pub child_is_in : (folder : NameList) (name : Name) → is_in folder (folder ++ name ∷ []) ≡ true
child_is_in folder name = ap (λ b. b && same_place (parent_of (folder ++ name ∷ [])) folder) (nonempty folder) ∙ same_place_true _ _ (parent_of_child folder name)
  where
    nonempty : (folder : NameList) → is_nonempty (folder ++ name ∷ []) ≡ true
    nonempty [] = refl
    nonempty (first ∷ rest) = refl

-- what stands in the folder leaves its own outcomes alone
pub alone_there : (stands : NameList → Option Node) (folder : NameList) (name : Name) (outcomes : Outcomes)
    → after_folder_sync stands folder outcomes (folder ++ name ∷ []) ≡ alone (stands (folder ++ name ∷ [])) (outcomes (folder ++ name ∷ []))
alone_there stands folder name outcomes =
    let q = folder ++ name ∷ [] in
    ap (λ b. cond b (alone (stands q) (outcomes q)) (outcomes q)) (child_is_in folder name)

-- ---- own outcomes of others stay

-- of a file at a place where another was to come and didn't
pub own_no_move : (source target : NameList) (outcomes : Outcomes) → source ≢ target → own_of (after_no_move source target outcomes target) ≡ own_of (outcomes target)
own_no_move source target outcomes two =
    let list = outcomes target ++ left_behind (own_of (outcomes source)) in
    ap own_of (put_there target list (put source (outcomes source ++ older gone ∷ []) outcomes))
    ∙ own_append (outcomes target) (left_behind (own_of (outcomes source)))
    ∙ ap (λ os. own_of (outcomes target) ++ os) (own_behind (own_of (outcomes source)))
    ∙ append-nil (own_of (outcomes target))

-- of a file in a folder that is put on the medium, or anywhere else
pub own_folder_sync : (stands : NameList → Option Node) (folder : NameList) (outcomes : Outcomes) (q : NameList) → IsSome (file_node (stands q))
    → own_of (after_folder_sync stands folder outcomes q) ≡ own_of (outcomes q)
own_folder_sync stands folder outcomes q is_file = by (is_in folder q)
  where
    of_file : (o : Option Node) → IsSome (file_node o) → own_of (alone o (outcomes q)) ≡ own_of (outcomes q)
    of_file None f = cc
    of_file (Some node) f = by_content node.content node.dev node.ino f
      where
        by_content : (c : Content) (dev ino : ℕ) → IsSome (file_content c) → own_of (alone (Some (record { content = c; dev = dev; ino = ino })) (outcomes q)) ≡ own_of (outcomes q)
        by_content directory dev ino f = cc
        by_content (link target) dev ino f = cc
        by_content (file bytes mode) dev ino f = own_twice (outcomes q)
        by_content other dev ino f = cc

    by : (b : Bool) → own_of (cond b (alone (stands q) (outcomes q)) (outcomes q)) ≡ own_of (outcomes q)
    by true = of_file (stands q) is_file
    by false = refl

-- a folder's sync adds none
pub folder_own : (stands : NameList → Option Node) (folder : NameList) (outcomes : Outcomes) (q : NameList) (found : Option Content) → Leaves (own_of (after_folder_sync stands folder outcomes q)) found
    → Leaves (own_of (outcomes q)) found
folder_own stands folder outcomes q found l = by (is_in folder q) l
  where
    by_content : (c : Content) (dev ino : ℕ) → Leaves (own_of (alone (Some (record { content = c; dev = dev; ino = ino })) (outcomes q))) found → Leaves (own_of (outcomes q)) found
    by_content directory dev ino l = l
    by_content (link target) dev ino l = l
    by_content (file bytes mode) dev ino l = subst (λ os. Leaves os found) (own_twice (outcomes q)) l
    by_content other dev ino l = l

    by_node : (o : Option Node) → Leaves (own_of (alone o (outcomes q))) found → Leaves (own_of (outcomes q)) found
    by_node None none = absurd none
    by_node (Some node) l = by_content node.content node.dev node.ino l

    by : (b : Bool) → Leaves (own_of (cond b (alone (stands q) (outcomes q)) (outcomes q))) found → Leaves (own_of (outcomes q)) found
    by true l = by_node (stands q) l
    by false l = l
