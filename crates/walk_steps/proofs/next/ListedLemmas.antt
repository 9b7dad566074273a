-- How many entries a step lists.
use Rattle.std.proofs.Common.{◌≡◌, ◌+◌, ◌≤◌, ◌<◌, ◌⊎◌, ℕ, zero, suc, Bool, true, false, cond, List, [], ◌∷◌, ◌++◌, length, map, Option, Some, None, Result, Ok, Err, refl, sym, subst, ◌∙◌, ap, arith, inl, inr}
use Rattle.std.specs.Prelude.{IfOk, IfNone, OnOk, ◌&&◌, not, nat_le, option_map}
use Rattle.std.proofs.lemmas.List.{length-map}
use Rattle.std.proofs.lemmas.Bool.{le-leb, leb-false}
use Rattle.std.specs.declared.cmp.Ordering.{Ordering}
use Rattle.std.specs.Ordering.{is_lt}
use Rattle.sd_io.specs.Count.{HasRisen}
use Rattle.sd_io.specs.Tree.{Tree}
use Rattle.sd_io.specs.Disk.{DiskState, SameLists}
use Rattle.walk_rest.specs.declared.entry.DirEntry.{DirEntry}
use Rattle.walk_rest.specs.declared.options.Options.{Options}
use Rattle.walk_rest.specs.declared.level.Due.{Due}
use Rattle.walk_rest.specs.declared.level.Folder.{Folder}
use Rattle.walk_rest.specs.declared.level.Level.{Level}
use Rattle.walk_rest.specs.declared.level.Entries.{Entries}
use Rattle.walk_rest.specs.declared.level.Entries.TheVariants.{Unread, Open, Kept}
use Rattle.walk_rest.specs.Plan.{Item, Comparison, Manner, IsContents, entry_below, in_order, insert, sorted, is_shown, item_where, item_before}
use Rattle.walk_rest.specs.Level.{IsAllowed, ReadsFolder, item_of}
use Rattle.walk_rest.specs.Read.{manner_by}
use Rattle.walk_steps.specs.declared.inside.Inside.{Inside}
use Rattle.walk_steps.specs.Inside.{IsRead, top_levels}
use Rattle.walk_steps.specs.Sound.{AreRead, AreSound, IsReadable, IsShallow, depth_below, open_in, open_limit, opens}
use Rattle.walk_steps.specs.Steps.{Enters}
use Rattle.walk_steps.specs.Causes.{IsFolderOf}
use Rattle.walk_steps.specs.Listed.{GivesAtOnce, folders_in, entered_in, IsToList, IsToListOnTop, IsSettled, IsTopSettled, HasRoom}

-- ---- entries that are hidden

pub hidden_deep : (o : Options) (depth : ℕ) → GivesAtOnce o → is_shown o depth ≡ false → o.max_depth < depth
hidden_deep o depth gives hidden =
    let least = gives.least in
    let a : nat_le o.min_depth depth ≡ true = le-leb o.min_depth depth (omega (arith, least)) in
    let P : Bool → Type 0 = λ x. (x && nat_le depth o.max_depth) ≡ false in
    leb-false depth o.max_depth (subst P a hidden)

hidden_where : (b : Bool) (entry : DirEntry) → None ≡ item_where b entry → b ≡ false
hidden_where true entry e = absurd (cc e)
hidden_where false entry e = refl

pub not_before : (o : Options) (entry : DirEntry) → GivesAtOnce o → None ≡ item_before o entry → o.max_depth < entry.depth
not_before o entry gives e =
    let P : Bool → Type 0 = λ x. (not x && is_shown o entry.depth) ≡ false in
    hidden_deep o entry.depth gives (subst P gives.before (hidden_where (not o.contents_first && is_shown o entry.depth) entry e))

-- an entry of an open list isn't hidden
pub hidden_kept : (n depth : ℕ) (folder : Option Folder) (e : Entries) → IsShallow n folder e → depth ≡ depth_below folder → n < depth → open_in e ≡ 0
hidden_kept n depth folder Unread h at deep = refl
hidden_kept n depth folder (Open list) h at deep = absurd (omega (arith, h, at, deep))
hidden_kept n depth folder (Kept kept) h at deep = refl

pub hidden_listed : {E : Type 0} (n depth a b c : ℕ) (folder : Option Folder) (e : Entries) (result : Result (Option Item) E) → IsShallow n folder e → depth ≡ depth_below folder → a ≤ b → b ≤ a + open_in e → c ≡ b
    → IfOk result (λ answer. IfNone answer (n < depth)) → IfOk result (λ answer. IfNone answer (c ≡ a))
hidden_listed n depth a b c folder e (Ok None) h at later most same deep = let z = hidden_kept n depth folder e h at deep in omega (arith, later, most, same, z)
hidden_listed n depth a b c folder e (Ok (Some item)) h at later most same deep = deep
hidden_listed n depth a b c folder e (Err failed) h at later most same deep = deep

-- ---- what lies on top

pub settled_read : (n : ℕ) (folder : Option Folder) (e : Entries) → IsRead e → IsSettled n folder e
settled_read n None e r = tt
settled_read n (Some folder) Unread r = absurd r
settled_read n (Some folder) (Open list) r = tt
settled_read n (Some folder) (Kept kept) r = tt

pub settled_top : (n : ℕ) (left : List Level) (t : Option Level) → AreRead (left ++ top_levels t) → IsTopSettled n t
settled_top n left None h = tt
settled_top n [] (Some level) h = settled_read n level.folder level.entries h.0
settled_top n (x ∷ left) (Some level) h = settled_top n left (Some level) h.1

settled_deep : (n : ℕ) (given : Option Folder) (folder : Folder) (e : Entries) → given ≡ Some folder → e ≡ Unread → n ≤ folder.depth → IsSettled n given e
settled_deep n given folder e is unread deep = rw (is, unread) deep

module _ {S : Type 0} where
  pub enters_settled : (inside new : Inside S) (level : Level) (met : DirEntry) (folder : Folder) (given : Option DirEntry) (n : ℕ) → Enters inside level met folder new given → IsFolderOf met folder → n < met.depth → IsTopSettled n new.top
  enters_settled inside new level met folder given n e at deep =
      let same = at.depth in
      subst (IsTopSettled n) (sym e.top) (settled_deep n e.opened.folder folder e.opened.entries e.folder_is e.unread (omega (arith, same, deep)))

  pub enters_hidden : (inside new : Inside S) (level : Level) (met : DirEntry) (folder : Folder) (given : Option DirEntry) → Enters inside level met folder new given → given ≡ None → GivesAtOnce inside.options → inside.options.max_depth < met.depth
  enters_hidden inside new level met folder given e is gives = not_before inside.options met gives (ap (option_map item_of) (sym is) ∙ e.before)

-- ---- what is listed as it is read

pub to_list_not : (tree : Tree) (n : ℕ) (folder : Option Folder) (e : Entries) (count : ℕ) → (e ≡ Unread → ⊥) → IsToList tree n folder e count → count ≡ 0
to_list_not tree n None e count not_unread h = h
to_list_not tree n (Some folder) Unread count not_unread h = absurd (not_unread refl)
to_list_not tree n (Some folder) (Open list) count not_unread h = h
to_list_not tree n (Some folder) (Kept kept) count not_unread h = h

pub to_list_root : (tree : Tree) (n : ℕ) (folder : Option Folder) (e : Entries) (count : ℕ) → folder ≡ None → IsToList tree n folder e count → count ≡ 0
to_list_root tree n folder e count is h = let P : Option Folder → Type 0 = λ f. IsToList tree n f e count in subst P is h

to_list_settled : (tree : Tree) (n : ℕ) (folder : Option Folder) (e : Entries) → IsSettled n folder e → IsToList tree n folder e 0
to_list_settled tree n None e h = refl
to_list_settled tree n (Some folder) Unread h = inl (h, refl)
to_list_settled tree n (Some folder) (Open list) h = refl
to_list_settled tree n (Some folder) (Kept kept) h = refl

pub to_list_none : (tree : Tree) (n : ℕ) (top : Option Level) → IsTopSettled n top → IsToListOnTop tree n top 0
to_list_none tree n None h = refl
to_list_none tree n (Some level) h = to_list_settled tree n level.folder level.entries h

pub risen_on : (a b c : ℕ) → b ≤ c → HasRisen a b → HasRisen a c
risen_on a b c le (inl h) = inl (omega (arith, le, h))
risen_on a b c le (inr h) = inr (omega (arith, le, h))

pub risen_from : (a b c : ℕ) → a ≤ b → HasRisen b c → HasRisen a c
risen_from a b c le (inl h) = inl (omega (arith, le, h))
risen_from a b c le (inr h) = inr h

-- no cut where no fault came
no_cuts : (n a b : ℕ) → (HasRisen a b → ⊥) → IsAllowed n a b → n ≡ 0
no_cuts zero a b none h = refl
no_cuts (suc n) a b none (inl h) = absurd (none (inl (omega (arith, h))))
no_cuts (suc n) a b none (inr h) = absurd (none (inr h))

length_insert : {X : Type 0} (compare : X → X → Ordering) (x : X) (ys : List X) → length (insert compare x ys) ≡ length ys + 1
length_insert compare x [] = refl
length_insert {X} compare x (y ∷ ys) = by (length_insert compare x ys) (is_lt (compare y x))
  where
    by : length (insert compare x ys) ≡ length ys + 1 → (b : Bool) → length (cond b (y ∷ insert compare x ys) (x ∷ y ∷ ys)) ≡ length (y ∷ ys) + 1
    by e true = omega (arith, e)
    by e false = omega arith

length_sorted : {X : Type 0} (compare : X → X → Ordering) (xs : List X) → length (sorted compare xs) ≡ length xs
length_sorted compare [] = refl
length_sorted compare (x ∷ xs) = let e = length_sorted compare xs in let f = length_insert compare x (sorted compare xs) in omega (arith, e, f)

pub length_order : (manner : Manner) (xs : List DirEntry) → length (in_order manner xs) ≡ length xs
length_order manner xs = by manner.sorts
  where
    by : (b : Bool) → length (cond b (sorted manner.compare xs) xs) ≡ length xs
    by true = length_sorted manner.compare xs
    by false = refl

-- a directory was read whole, and no fault came
pub listed_read : (s now : DiskState) (o : Options) (sorts : Bool) (by : Comparison) (device : ℕ) (folder : Folder) (due now_due : List Due) (left : List DirEntry) (count : ℕ)
    → ((inner : List DirEntry) → IsContents s.tree (manner_by o sorts by device) folder inner → ReadsFolder s folder due inner now now_due left)
    → (o.max_depth ≤ folder.depth → SameLists s now) → IsToList s.tree o.max_depth (Some folder) Unread count → (HasRisen s.faults now.faults → ⊥) → now.listed ≡ s.listed + count
listed_read s now o sorts by device folder due now_due left count reads deep (inl h) none = let same = (deep h.0).listed in let zero_is = h.1 in omega (arith, same, zero_is)
listed_read s now o sorts by device folder due now_due left count reads deep (inr h) none =
    let m = manner_by o sorts by device in
    let inner = in_order m (map (entry_below folder) h.1.0) in
    let r = reads inner (inr (record { shallow = h.0; listed = h.1.0; names = h.1.1; ordered = refl })) in
    let e = r.listed (no_cuts r.cuts s.faults now.faults none r.allowed) in
    let f = length_order m (map (entry_below folder) h.1.0) in
    let l = length-map h.1.0 (entry_below folder) in
    let k = h.1.2 in
    omega (arith, e, f, l, k)

-- ---- lists that are open, and directories that were entered

opens_entered : (s : DiskState) (xs : List Level) → AreSound s xs → opens xs ≤ entered_in xs
opens_entered s [] h = omega arith
opens_entered s (x ∷ xs) h = let a = opens_entered s xs h.2 in let b = by x.folder x.entries h.0 in omega (arith, a, b)
  where
    by : (folder : Option Folder) (e : Entries) → IsReadable s folder e → open_in e ≤ folders_in folder
    by folder Unread r = omega arith
    by None (Open list) r = absurd r
    by (Some f) (Open list) r = omega arith
    by folder (Kept kept) r = omega arith

entered_snoc : (xs : List Level) (x : Level) → entered_in (xs ++ x ∷ []) ≡ entered_in xs + folders_in x.folder
entered_snoc [] x = omega arith
entered_snoc (y ∷ xs) x = let a = entered_snoc xs x in omega (arith, a)

-- where no more are entered than lists may be open, there is room
pub room_entered : (s : DiskState) (limit n : ℕ) (xs : List Level) (top : Option Level) → AreSound s xs → entered_in (xs ++ top_levels top) ≤ limit → HasRoom limit n xs top
room_entered s limit n xs None h few = inr tt
room_entered s limit n xs (Some level) h few = by level.folder (let a = entered_snoc xs level in omega (arith, a, few))
  where
    by : (folder : Option Folder) → entered_in xs + folders_in folder ≤ limit → (opens xs < limit) ⊎ IsSettled n folder level.entries
    by None less = inr tt
    by (Some f) less = let a = opens_entered s xs h in inl (omega (arith, a, less))

-- ---- answers

pub one_result : {E : Type 0} (a b : ℕ) (result : Result (Option Item) E) → a ≡ b → IfOk result (λ answer. IfNone answer (a ≡ b))
one_result a b (Ok None) e = e
one_result a b (Ok (Some item)) e = tt
one_result a b (Err failed) e = tt

pub ok_result : {T E : Type 0} {P : Type 0} (result : Result T E) → P → OnOk result P
ok_result (Ok x) h = h
ok_result (Err e) h = tt

pub settled_result : {E : Type 0} (n : ℕ) (result : Result (Option Item) E) (top : Option Level) → OnOk result (IsTopSettled n top) → IfOk result (λ answer. IfNone answer (IsTopSettled n top))
settled_result n (Ok None) top h = h
settled_result n (Ok (Some item)) top h = tt
settled_result n (Err failed) top h = tt

pub one_list : (e : Entries) → open_in e ≤ 1
one_list Unread = omega arith
one_list (Open list) = omega arith
one_list (Kept kept) = omega arith

-- ---- the same options and the topmost level

pub room_at : (old new : Options) (stack : List Level) (top : Option Level) (level : Level) → new ≡ old → top ≡ Some level → HasRoom (open_limit old) old.max_depth stack top → HasRoom (open_limit new) new.max_depth stack (Some level)
room_at old new stack top level same is h =
    let T : Option Level → Type 0 = λ t. HasRoom (open_limit old) old.max_depth stack t in
    let O : Options → Type 0 = λ o. HasRoom (open_limit o) o.max_depth stack (Some level) in
    subst O (sym same) (subst T is h)

pub to_list_at : (tree : Tree) (old new : Options) (top : Option Level) (level : Level) (count : ℕ) → new ≡ old → top ≡ Some level → IsToListOnTop tree old.max_depth top count → IsToList tree new.max_depth level.folder level.entries count
to_list_at tree old new top level count same is h =
    let T : Option Level → Type 0 = λ t. IsToListOnTop tree old.max_depth t count in
    let O : Options → Type 0 = λ o. IsToList tree o.max_depth level.folder level.entries count in
    subst O (sym same) (subst T is h)

pub settled_at : (old new : Options) (top : Option Level) → new ≡ old → IsTopSettled new.max_depth top → IsTopSettled old.max_depth top
settled_at old new top same h = let O : Options → Type 0 = λ o. IsTopSettled o.max_depth top in subst O same h

unread_deep : (n : ℕ) (given : Option Folder) (folder : Folder) (e : Entries) → given ≡ Some folder → e ≡ Unread → IsSettled n given e → n ≤ folder.depth
unread_deep n given folder e is unread h = let P : Option Folder → Type 0 = λ f. IsSettled n f e in let Q : Entries → Type 0 = λ x. IsSettled n (Some folder) x in subst Q unread (subst P is h)

-- a directory that lies unread can be read, where there is room
pub room_unread : (limit n : ℕ) (stack : List Level) (level : Level) (folder : Folder) → level.folder ≡ Some folder → level.entries ≡ Unread → HasRoom limit n stack (Some level) → (n ≤ folder.depth) ⊎ (opens stack < limit)
room_unread limit n stack level folder is unread (inl few) = inr few
room_unread limit n stack level folder is unread (inr settled) = inl (unread_deep n level.folder folder level.entries is unread settled)
