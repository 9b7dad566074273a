-- Texts that are names joined by `/`, name by name.
use Rattle.std.proofs.Common.{◌≡◌, ◌≢◌, ℕ, zero, suc, List, [], ◌∷◌, ◌++◌, get_or, refl, sym, ap, subst, ◌∙◌, arith, true, false, cond, eqb}
use Rattle.std.specs.Prelude.{Contains, Bool, IsTrue, ◌↔◌, ◌||◌, not, All}
use Rattle.std.specs.List.{AllByRecursion, join_with_byte}
use Rattle.std.specs.Str.{bytes_eq}
use Rattle.std.proofs.lemmas.Bool.{eqb-true}
use Rattle.std.proofs.lemmas.List.{get_or_default}
use Rattle.std.proofs.lemmas.List.Splits.{slice_split_none, slice_split_at}
use Rattle.sd_io.specs.Tree.{Name, NameList, IsName}
use Rattle.sd_io.specs.Paths.{parts_of, pieces_of, kept, is_dropped}
use Rattle.sd_io.proofs.PathTextLemmas.{differs}
use Rattle.sd_io.specs.Files.{path_text}
use Rattle.sd_plan.specs.Reading.{Lacks, IsCut}
use Rattle.sd_plan.proofs.CutLemmas.{cut_same, cut_none}
use Rattle.journal_text.specs.Paths.{AreNames, IsJoined, HasPlace, IsResolvedPath}
use Rattle.journal_text.specs.Reading.{IsNoDots}

lacks_none : (c : ℕ) (xs : List ℕ) → (Contains xs c → ⊥) → Lacks c xs
lacks_none c [] none = tt
lacks_none c (x ∷ xs) none = ((λ e. none (0, omega arith, e)), lacks_none c xs (λ has. none (suc has.0, omega (arith, has.1), has.2)))

contains_none : (c : ℕ) (xs : List ℕ) → Lacks c xs → Contains xs c → ⊥
contains_none c [] lacks (k, low, e) = absurd (omega (arith, low))
contains_none c (x ∷ xs) lacks (zero, low, e) = lacks.0 e
contains_none c (x ∷ xs) lacks (suc k, low, e) = contains_none c xs lacks.1 (k, omega (arith, low), e)

name_of : (name : Name) → Lacks 47 name → IsNoDots name → IsName name
name_of name lacks is = record { nonempty = is.nonempty; no_slash = contains_none 47 name lacks; not_dot = is.not_dot; not_dots = is.not_dots }

no_dots : (name : Name) → IsName name → IsNoDots name
no_dots name is = record { nonempty = is.nonempty; not_dot = is.not_dot; not_dots = is.not_dots }

some_names : (name : Name) (place : NameList) → name ∷ place ≢ []
some_names name place e = cc

-- the last name
pub last_joined : (text : List ℕ) → Lacks 47 text → IsNoDots text → IsJoined text
last_joined text lacks is = (text ∷ [], record { some = some_names text []; each = (name_of text lacks is, tt) }, refl)

pub joined_last : (text : List ℕ) → Lacks 47 text → IsJoined text → IsNoDots text
joined_last text lacks (place, are, e) = by_place place are e
  where
    by_place : (place : NameList) → AreNames place → text ≡ join_with_byte 47 place → IsNoDots text
    by_place [] are e = absurd (are.some refl)
    by_place (name ∷ []) are e = subst IsNoDots (sym e) (no_dots name are.each.0)
    by_place (name ∷ next ∷ place) are e = absurd (cut_none 47 name (join_with_byte 47 (next ∷ place)) (subst (Lacks 47) e lacks))

-- a name and the rest
pub next_joined : (text name rest : List ℕ) → IsCut 47 text name rest → IsNoDots name → IsJoined rest → IsJoined text
next_joined text name rest cut is (place, are, e) = by_place place are e
  where
    by_place : (place : NameList) → AreNames place → rest ≡ join_with_byte 47 place → IsJoined text
    by_place [] are e = absurd (are.some refl)
    by_place (next ∷ place) are e =
        (name ∷ next ∷ place, record { some = some_names name (next ∷ place); each = (name_of name cut.first is, are.each) }, cut.parts ∙ ap (λ (l : List ℕ). name ++ 47 ∷ l) e)

pub record HasNextName (name rest : List ℕ) : Type 0 where
  pub first : IsNoDots name
  pub others : IsJoined rest

pub joined_next : (text name rest : List ℕ) → IsCut 47 text name rest → IsJoined text → HasNextName name rest
joined_next text name rest cut (place, are, e) = by_place place are e
  where
    by_place : (place : NameList) → AreNames place → text ≡ join_with_byte 47 place → HasNextName name rest
    by_place [] are e = absurd (are.some refl)
    by_place (first ∷ []) are e = absurd (cut_none 47 name rest (subst (Lacks 47) (sym e ∙ cut.parts) (lacks_none 47 first are.each.0.no_slash)))
    by_place (first ∷ next ∷ place) are e =
        let (name_is, rest_is) = cut_same 47 name first rest (join_with_byte 47 (next ∷ place)) cut.first (lacks_none 47 first are.each.0.no_slash) (sym cut.parts ∙ e) in
        record { first = subst IsNoDots (sym name_is) (no_dots first are.each.0); others = (next ∷ place, record { some = some_names next place; each = are.each.1 }, rest_is) }

-- behind the first `/`
pub slash_joined : (text names : List ℕ) → text ≡ 47 ∷ names → IsJoined names → HasPlace text
slash_joined text names e (place, are, joined) = (place, are, e ∙ ap (λ (l : List ℕ). 47 ∷ l) joined)

pub joined_slash : (text names : List ℕ) → text ≡ 47 ∷ names → HasPlace text → IsJoined names
joined_slash text names e (place, are, is) = (place, are, behind names (join_with_byte 47 place) (sym e ∙ is))
  where
    behind : (a b : List ℕ) → 47 ∷ a ≡ 47 ∷ b → a ≡ b
    behind a b e = cc

-- ---- a text of which some names are read

pub last_read : (text rest : List ℕ) (b : Bool) → (IsJoined text ↔ IsJoined rest) → Lacks 47 rest → (IsTrue b ↔ IsNoDots rest) → (IsTrue b ↔ IsJoined text)
last_read text rest b read lacks is = (λ t. read.1 (last_joined rest lacks (is.0 t)), λ joined. is.1 (joined_last rest lacks (read.0 joined)))

pub dots_read : (text rest name after : List ℕ) → (IsJoined text ↔ IsJoined rest) → IsCut 47 rest name after → (IsNoDots name → ⊥) → IsJoined text → ⊥
dots_read text rest name after read cut dots joined = dots (joined_next rest name after cut (read.0 joined)).first

pub next_read : (text rest name after : List ℕ) → (IsJoined text ↔ IsJoined rest) → IsCut 47 rest name after → IsNoDots name → (IsJoined text ↔ IsJoined after)
next_read text rest name after read cut is = (λ joined. (joined_next rest name after cut (read.0 joined)).others, λ joined. read.1 (next_joined rest name after cut is joined))

-- ---- a path is that of one place

same_joined : (m : Name) (p : NameList) (n : Name) (q : NameList) → AllByRecursion IsName (m ∷ p) → AllByRecursion IsName (n ∷ q)
    → join_with_byte 47 (m ∷ p) ≡ join_with_byte 47 (n ∷ q) → m ∷ p ≡ n ∷ q
same_joined m [] n [] a b e = λ i. e i ∷ []
same_joined m [] n (y ∷ q) a b e = absurd (cut_none 47 n (join_with_byte 47 (y ∷ q)) (subst (Lacks 47) e (lacks_none 47 m a.0.no_slash)))
same_joined m (x ∷ p) n [] a b e = absurd (cut_none 47 m (join_with_byte 47 (x ∷ p)) (subst (Lacks 47) (sym e) (lacks_none 47 n b.0.no_slash)))
same_joined m (x ∷ p) n (y ∷ q) a b e =
    let (first, rest) = cut_same 47 m n (join_with_byte 47 (x ∷ p)) (join_with_byte 47 (y ∷ q)) (lacks_none 47 m a.0.no_slash) (lacks_none 47 n b.0.no_slash) e in
    let others = same_joined x p y q a.1 b.1 rest in
    λ i. first i ∷ others i

pub same_place : (one other : NameList) → AreNames one → AreNames other → path_text one ≡ path_text other → one ≡ other
same_place [] other are also e = absurd (are.some refl)
same_place (m ∷ p) [] are also e = absurd (also.some refl)
same_place (m ∷ p) (n ∷ q) are also e = same_joined m p n q are.each also.each (behind (join_with_byte 47 (m ∷ p)) (join_with_byte 47 (n ∷ q)) e)
  where
    behind : (a b : List ℕ) → 47 ∷ a ≡ 47 ∷ b → a ≡ b
    behind a b e = cc

-- ---- the parts of a path are its place's names

no_slashes : (name : Name) → IsName name → All (λ b. eqb b 47 ≡ false) name
no_slashes name is k d low = by (eqb (get_or name k d) 47) refl
  where
    by : (b : Bool) → eqb (get_or name k d) 47 ≡ b → eqb (get_or name k d) 47 ≡ false
    by true e = absurd (is.no_slash (k, low, get_or_default name k 47 d low ∙ eqb-true (get_or name k d) 47 e))
    by false e = e

not_dropped : (name : Name) → IsName name → is_dropped name ≡ false
not_dropped name is = ap (λ b. b || bytes_eq name (46 ∷ [])) (differs name [] is.nonempty) ∙ differs name (46 ∷ []) is.not_dot

name_kept : (name : Name) (pieces : List Name) → IsName name → kept (name ∷ pieces) ≡ name ∷ kept pieces
name_kept name pieces is = ap (λ b. cond (not b) (name ∷ kept pieces) (kept pieces)) (not_dropped name is)

joined_parts : (names : NameList) → AllByRecursion IsName names → kept (pieces_of (join_with_byte 47 names)) ≡ names
joined_parts [] are = refl
joined_parts (name ∷ []) are = ap kept (slice_split_none (λ b. eqb b 47) name (no_slashes name are.0)) ∙ name_kept name [] are.0
joined_parts (name ∷ next ∷ names) are =
    let rest = join_with_byte 47 (next ∷ names) in
    ap kept (slice_split_at (λ b. eqb b 47) name 47 rest (no_slashes name are.0) refl)
    ∙ name_kept name (pieces_of rest) are.0
    ∙ ap (λ (q : NameList). name ∷ q) (joined_parts (next ∷ names) are.1)

pub place_parts : (place : NameList) → AreNames place → parts_of (path_text place) ≡ place
unfolding parts_of
place_parts place are = joined_parts place are.each

pub path_parts : (path : List ℕ) → IsResolvedPath path → AreNames (parts_of path) × (path ≡ path_text (parts_of path))
path_parts path is =
    let (place, are, e) = is.has_place in
    let parts : parts_of path ≡ place = ap parts_of e ∙ place_parts place are in
    (subst AreNames (sym parts) are, e ∙ ap path_text (sym parts))
