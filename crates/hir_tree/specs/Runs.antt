-- The runs of a core from a place, in order of preference.
use Rattle.std.specs.Prelude.{ℕ, zero, suc, ◌+◌, ◌&&◌, Bool, List, [], ◌∷◌, ◌++◌, length, map, drop, replicate, Option, Some, None, if◌then◌else◌, ◌==◌, nat_le, slice_set, option_map, option_and_then}
use Rattle.std.specs.List.{flat_map, list_any}
use Rattle.bstr.specs.Utf8.{decoded}
use Rattle.hir_tree.specs.Core.{Core, empty, byte_in, char_in, look, group, pair, choice, none, plus, numbers}
use Rattle.hir_tree.specs.Looks.{holds}
use Rattle.hir_tree.specs.Sides.{byte_after, char_after}

-- the byte or character is in a set
abbrev pub in_set : List (ℕ × ℕ) → ℕ → Bool
in_set set c = list_any (λ r. nat_le r.0 c && nat_le c r.1) set

-- the size, if what stands at a place is a member of a set
abbrev pub size_in : List (ℕ × ℕ) → ℕ → Option ℕ → Option ℕ
size_in set size c = option_and_then (λ m. if in_set set m then Some size else None) c

-- how many bytes a member of a set of bytes takes at a place: one, if it stands there
unfoldable pub byte_size : List (ℕ × ℕ) → List ℕ → ℕ → Option ℕ
byte_size set text at = size_in set 1 (byte_after text at)

-- how many bytes the UTF-8 of a member of a set of characters takes at a place, if it stands there
unfoldable pub char_size : List (ℕ × ℕ) → List ℕ → ℕ → Option ℕ
char_size set text at = size_in set (decoded (drop at text)).size (char_after text at)

-- A run: where it ends, what the groups hold, and the numbers seen since the last byte.
pub record Run : Type 0 where
  pub at : ℕ
  pub groups : List (Option (ℕ × ℕ))
  pub seen : List ℕ

-- a run that begins here, with groups up to this index, all unset
abbrev pub begin : ℕ → ℕ → Run
begin at groups = record { at = at; groups = replicate (groups + 1) None; seen = [] }

-- so many bytes on, where nothing was seen yet
abbrev pub moved : ℕ → Run → Run
moved size r = record { at = r.at + size; groups = r.groups; seen = [] }

-- with this number seen
abbrev pub mark : ℕ → Run → Run
mark n r = record { at = r.at; groups = r.groups; seen = n ∷ r.seen }

-- with a group that began there, and ends here
abbrev pub set_group : ℕ → ℕ → Run → Run
set_group i start r = record { at = r.at; groups = slice_set r.groups i (Some (start, r.at)); seen = r.seen }

-- the number is among them
abbrev pub is_seen : ℕ → List ℕ → Bool
is_seen n seen = list_any (λ m. m == n) seen

-- the runs that follow a run, in order
abbrev pub Step : Type 0
Step = Run → List Run

-- nothing where the number was seen; else what follows with the number seen
abbrev pub visit : ℕ → Step → Step
visit n next r = if is_seen n r.seen then [] else next (mark n r)

-- the run, if there is one
abbrev pub as_list : Option Run → List Run
as_list None = []
as_list (Some r) = r ∷ []

-- on by the bytes that are taken at the place, if any are
abbrev pub take_size : (ℕ → Option ℕ) → Step
take_size size r = as_list (option_map (λ k. moved k r) (size r.at))

-- more rounds of a plus, or an end of them: the end comes last where greedy, else first
abbrev pub rounds_or_end : Bool → List Run → Run → List Run
rounds_or_end greedy rounds r = if greedy then rounds ++ r ∷ [] else r ∷ rounds

-- What follows a round of a plus with this again spot: nothing where that was seen, else rounds, at most so many, or an end.
unfoldable pub after : Bool → ℕ → Step → ℕ → Step
after greedy again body zero r = []
after greedy again body (suc rounds) r =
    visit again (λ s. rounds_or_end greedy (flat_map (after greedy again body rounds) (body s)) s) r

module _ (text : List ℕ) where
  -- The runs of the node with number n. What follows a round that takes no byte is nothing, since the again spot was seen:
  -- so a text has room for one round more than it has bytes.
  unfoldable pub runs : Core → ℕ → Step
  runs empty n r = visit n (λ s. s ∷ []) r
  runs (byte_in set) n r = visit n (take_size (byte_size set text)) r
  runs (char_in set) n r = visit n (take_size (char_size set text)) r
  runs (look l) n r = visit n (λ s. if holds l text s.at then s ∷ [] else []) r
  runs (group i a) n r = visit n (λ s. map (set_group i s.at) (runs a (n + 2) s)) r
  runs (pair a b) n r = visit n (λ s. flat_map (runs b (n + 1 + numbers a)) (runs a (n + 1) s)) r
  runs (choice a b) n r = visit n (λ s. runs a (n + 1) s ++ runs b (n + 1 + numbers a) s) r
  runs none n r = visit n (λ s. []) r
  runs (plus greedy a) n r =
      visit n (λ s. flat_map (after greedy (n + 1) (runs a (n + 2)) (length text + 1)) (runs a (n + 2) s)) r

-- the first, if there is one
abbrev pub first : List Run → Option Run
first [] = None
first (r ∷ rs) = Some r

-- The preferred match from a place: what the groups of the first run hold, where group 0 is the whole.
unfoldable pub preferred : Core → ℕ → List ℕ → ℕ → Option (List (Option (ℕ × ℕ)))
preferred core groups text at = option_map (λ r. r.groups) (first (runs text (group 0 core) 0 (begin at groups)))
