-- What a list told, as entries and names come and go.
use Rattle.std.proofs.Common.{◌≡◌, ◌+◌, ◌-◌, ◌<◌, ◌≤◌, ◌++◌, ◌⊎◌, inl, inr, ℕ, Bool, false, true, not, nat_eq, List, [], ◌∷◌, length, get_or, set, take, drop, string_bytes, sum_by, Contains, IsPermutation, if◌then◌else◌, refl, sym, ap, ◌∙◌, subst, arith}
use Rattle.std.proofs.lemmas.Bool.{cases_eq, cases_lt}
use Rattle.std.proofs.lemmas.List.{take-append-le, take_all, drop-append-le, length-drop, length-set, get_or-set_other}
use Rattle.std.proofs.lemmas.Grind.{get_or-set_at}
use Rattle.std.proofs.lemmas.List.Elements.{Contains-push_cases}
use Rattle.std.proofs.lemmas.List.Sorted.{Contains-permutation, IsPermutation-sym, sum_by-IsPermutation}
use Rattle.std.proofs.lemmas.List.Sums.{sum_by-set}
use Rattle.std.proofs.lemmas.Bool.Decides.{Decides-eqb}
use Rattle.std.proofs.lemmas.Slice.Eq.{slice_eq-Decides}
use Rattle.std.specs.Cmp.Lexicographic.{pointwise}
use Rattle.std.proofs.Math.Seq.{drop-append_seam}
use Rattle.std.proofs.lemmas.Bool.{false≢true}
use Rattle.sd_io.specs.declared.meta.Meta.{Meta}
use Rattle.host_io.specs.declared.told.Told.{Told}
use Rattle.host_io.specs.declared.told.ToldEntry.{ToldEntry}
use Rattle.host_io.specs.Told.{name_of, IsTold}

-- an entry's name is as before when more names stand behind
name_of-append : (names more : List ℕ) (entry : ToldEntry) → entry.end ≤ length names → name_of (names ++ more) entry ≡ name_of names entry
name_of-append names more entry within = elim (cases_lt entry.end entry.start) [
  | inl less ↦ let none : entry.end - entry.start ≡ 0 = omega arith in ap (λ n. take n (drop entry.start (names ++ more))) none ∙ sym (ap (λ n. take n (drop entry.start names)) none)
  | inr ordered ↦
      let start : entry.start ≤ length names = omega arith in
      rw (drop-append-le entry.start names more start)
      (take-append-le (entry.end - entry.start) (drop entry.start names) more (omega (arith, length-drop entry.start names)))
]

-- the name that was appended last
pub name_of-last : (names name : List ℕ) (entry : ToldEntry) → entry.start ≡ length names → entry.end ≡ length names + length name → name_of (names ++ name) entry ≡ name
name_of-last names name entry start end =
    rw (start, drop-append_seam names name) (take_all (entry.end - length names) name (omega arith))

-- every entry's name ends among so many bytes
abbrev pub Within : List ToldEntry → ℕ → Type 0
Within entries room = (entry : ToldEntry) → Contains entries entry → entry.end ≤ room

pub within_more : (entries : List ToldEntry) (last : ToldEntry) (room more : ℕ) → Within entries room → room ≤ more → last.end ≤ more → Within (entries ++ last ∷ []) more
within_more entries last room more within grows ends entry is = elim (Contains-push_cases entries last entry is) [
  | inl before ↦ let old : entry.end ≤ room = within entry before in omega arith
  | inr same ↦ subst (λ (it : ToldEntry). it.end ≤ more) same ends
]

pub within_permutation : (entries others : List ToldEntry) (room : ℕ) → IsPermutation entries others → Within entries room → Within others room
within_permutation entries others room permutation within entry is =
    within entry (Contains-permutation others entries entry (IsPermutation-sym entries others permutation) is)

-- an element after a write is the one that was written, or was there before
Contains-set_cases : {X : Type 0} (xs : List X) (i : ℕ) (y x : X) → i < length xs → Contains (set xs i y) x → Contains xs x ⊎ (y ≡ x)
Contains-set_cases xs i y x in_range is = elim (cases_eq is.0 i) [
  | inl same ↦ inr (sym (get_or-set_at xs i is.0 y x same in_range) ∙ is.2)
  | inr other ↦ inl (is.0, (rw length-set at is.1), sym (get_or-set_other xs i is.0 y x other) ∙ is.2)
]

pub within_set : (entries : List ToldEntry) (i : ℕ) (new : ToldEntry) (room : ℕ) → i < length entries → Within entries room → new.end ≤ room → Within (set entries i new) room
within_set entries i new room in_range within ends entry is = elim (Contains-set_cases entries i new entry in_range is) [
  | inl before ↦ within entry before
  | inr same ↦ subst (λ (it : ToldEntry). it.end ≤ room) same ends
]

-- where the entries that weren't asked for are among those of before, nothing is told more
pub told_before : (old new : Told) → new.folder ≡ old.folder → new.names ≡ old.names
    → ((entry : ToldEntry) → Contains new.entries.items entry → entry.is_asked ≡ false → Contains old.entries.items entry)
    → (path : List ℕ) (meta : Meta) → IsTold new path meta → IsTold old path meta
told_before old new folder names entries path meta is = record {
  entry = is.entry;
  is_entry = entries is.entry is.is_entry is.not_asked;
  not_asked = is.not_asked;
  is_meta = is.is_meta;
  is_path = (rw (folder, names) at is.is_path);
}

-- the same entries in another order tell nothing more
pub told_reordered : (old new : Told) → new.folder ≡ old.folder → new.names ≡ old.names → IsPermutation old.entries.items new.entries.items
    → (path : List ℕ) (meta : Meta) → IsTold new path meta → IsTold old path meta
told_reordered old new folder names permutation = told_before old new folder names
    (λ entry is not_asked. Contains-permutation new.entries.items old.entries.items entry (IsPermutation-sym old.entries.items new.entries.items permutation) is)

-- more names alone tell nothing
pub told_still : (old new : Told) (more : List ℕ) → new.folder ≡ old.folder → new.names.items ≡ old.names.items ++ more → new.entries.items ≡ old.entries.items
    → (path : List ℕ) (meta : Meta) → IsTold new path meta → IsTold old path meta
told_still old new more folder names entries path meta is =
    let among : Contains old.entries.items is.entry = subst (λ (it : List ToldEntry). Contains it is.entry) entries is.is_entry in
    let name : name_of new.names.items is.entry ≡ name_of old.names.items is.entry =
    ap (λ (it : List ℕ). name_of it is.entry) names ∙ name_of-append old.names.items more is.entry (old.within is.entry among) in
    record {
      entry = is.entry;
      is_entry = among;
      not_asked = is.not_asked;
      is_meta = is.is_meta;
      is_path = ap (λ (it : List ℕ). it ++ name_of old.names.items is.entry) (ap string_bytes (sym folder)) ∙ ap (λ (it : List ℕ). string_bytes new.folder ++ it) (sym name) ∙ is.is_path;
    }

-- of an entry with this name at the end this is told more, and no more
pub told_more : (old new : Told) (more : List ℕ) (last : ToldEntry) → new.folder ≡ old.folder → new.names.items ≡ old.names.items ++ more
    → new.entries.items ≡ old.entries.items ++ last ∷ [] → last.start ≡ length old.names.items → last.end ≡ length old.names.items + length more
    → (path : List ℕ) (meta : Meta) → IsTold new path meta → ((path ≡ string_bytes old.folder ++ more) × (meta ≡ last.meta)) ⊎ IsTold old path meta
told_more old new more last folder names entries start end path meta is =
    elim (Contains-push_cases old.entries.items last is.entry (subst (λ (it : List ToldEntry). Contains it is.entry) entries is.is_entry)) [
      | inl among ↦
          let name : name_of new.names.items is.entry ≡ name_of old.names.items is.entry =
          ap (λ (it : List ℕ). name_of it is.entry) names ∙ name_of-append old.names.items more is.entry (old.within is.entry among) in
          inr (record {
            entry = is.entry;
            is_entry = among;
            not_asked = is.not_asked;
            is_meta = is.is_meta;
            is_path = ap (λ (it : List ℕ). it ++ name_of old.names.items is.entry) (ap string_bytes (sym folder)) ∙ ap (λ (it : List ℕ). string_bytes new.folder ++ it) (sym name) ∙ is.is_path;
          })
      | inr same ↦
          let name : name_of new.names.items is.entry ≡ more =
          ap (λ (it : List ℕ). name_of it is.entry) names ∙ ap (λ (it : ToldEntry). name_of (old.names.items ++ more) it) (sym same) ∙ name_of-last old.names.items more last start end in
          inl (
            sym is.is_path ∙ ap (λ (it : List ℕ). string_bytes new.folder ++ it) name ∙ ap (λ (it : List ℕ). it ++ more) (ap string_bytes folder),
            sym is.is_meta ∙ ap (λ (it : ToldEntry). it.meta) (sym same),
          )
    ]

-- when the entry at a place was asked for, those that weren't are of before
pub unasked_before : (entries others : List ToldEntry) (i : ℕ) (new : ToldEntry) → IsPermutation entries others → i < length others → new.is_asked ≡ true
    → (entry : ToldEntry) → Contains (set others i new) entry → entry.is_asked ≡ false → Contains entries entry
unasked_before entries others i new permutation in_range asked entry is not_asked = elim (Contains-set_cases others i new entry in_range is) [
  | inl before ↦ Contains-permutation others entries entry (IsPermutation-sym entries others permutation) before
  | inr same ↦ absurd (false≢true (sym not_asked ∙ ap (λ (it : ToldEntry). it.is_asked) (sym same) ∙ asked))
]

-- a sum is one less, when one of its terms is none
one_less_by : (count : ToldEntry → ℕ) (entries others : List ToldEntry) (i : ℕ) (was now : ToldEntry) → IsPermutation entries others → i < length others
    → get_or others i was ≡ was → count was ≡ 1 → count now ≡ 0 → sum_by count (set others i now) + 1 ≡ sum_by count entries
one_less_by count entries others i was now permutation in_range is one none =
    let written : sum_by count (set others i now) + count (get_or others i was) ≡ sum_by count others + count now = sum_by-set count others i now was in_range in
    let unasked : count (get_or others i was) ≡ 1 = ap count is ∙ one in
    let same : sum_by count others ≡ sum_by count entries = sum_by-IsPermutation count entries others permutation in
    omega arith

-- one is told less
pub one_less : (entries others : List ToldEntry) (i : ℕ) (was now : ToldEntry) → IsPermutation entries others → i < length others
    → get_or others i was ≡ was → was.is_asked ≡ false → now.is_asked ≡ true
    → sum_by (λ entry. if entry.is_asked then 0 else 1) (set others i now) + 1 ≡ sum_by (λ entry. if entry.is_asked then 0 else 1) entries
one_less entries others i was now permutation in_range is not_asked asked =
    one_less_by (λ (entry : ToldEntry). if entry.is_asked then 0 else 1) entries others i was now permutation in_range is (rw not_asked refl) (rw asked refl)

not_false : (b : Bool) → false ≡ not b → b ≡ true
not_false true e = refl
not_false false e = absurd (false≢true e)

-- texts that don't differ are the same
pub not_other : (xs ys : List ℕ) → false ≡ not (pointwise nat_eq xs ys) → xs ≡ ys
not_other xs ys e = (slice_eq-Decides Decides-eqb xs ys (pointwise nat_eq xs ys) refl).0 (not_false (pointwise nat_eq xs ys) e)

-- the entry that was read at a place stands there
pub read_there : (read entries : List ToldEntry) (i : ℕ) (entry : ToldEntry) → read ≡ entries → i < length read → entry ≡ get_or read i entry
    → (i < length entries) × (get_or entries i entry ≡ entry)
read_there read entries i entry same in_range is =
    (subst (λ (it : List ToldEntry). i < length it) same in_range, sym (subst (λ (it : List ToldEntry). entry ≡ get_or it i entry) same is))

-- the path of the entry that was read, by what was compared
pub path_of_read : (folder names other_names name prefix rest path : List ℕ) (entry : ToldEntry) → prefix ≡ folder → path ≡ prefix ++ rest → name ≡ rest
    → other_names ≡ names → name_of other_names entry ≡ name → folder ++ name_of names entry ≡ path
path_of_read folder names other_names name prefix rest path entry is_folder is_path is_rest same is_name =
    ap (λ (it : List ℕ). folder ++ it) (ap (λ (it : List ℕ). name_of it entry) (sym same) ∙ is_name ∙ is_rest) ∙ ap (λ (it : List ℕ). it ++ rest) (sym is_folder) ∙ sym is_path
