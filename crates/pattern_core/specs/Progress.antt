-- What a reading from left to right has so far, and how the rest of the text goes on from there.
use Rattle.std.specs.Prelude.{◌≡◌, ℕ, ◌+◌, max, List, [], ◌∷◌, ◌++◌, codes, map}
use Rattle.pattern_syntax.specs.declared.flags.Flags.{Flags}
use Rattle.pattern_syntax.specs.Syntax.{Syntax, Repeated, Kind, write, write_repeats, Fine, FineRepeats}
use Rattle.pattern_syntax.specs.Reads.{Part, Row, Found, at_depth, no_parts, row_of, repeat, own, own_name, grouped, captures, names_of, literals_of, branches, sequence, choice}

-- what is gathered beside the parts: how many groups have numbers, the names, and the literal characters
pub record Gathered : Type 0 where
  pub groups : ℕ
  pub names : List (List ℕ)
  pub literals : List ℕ

abbrev pub nothing : Gathered
nothing = record { groups = 0; names = []; literals = [] }

-- a group is opened
abbrev pub with_group : Kind → Gathered → Gathered
with_group m n = record { groups = n.groups + own m; names = n.names ++ own_name m; literals = n.literals }

abbrev pub with_literals : List ℕ → Gathered → Gathered
with_literals cs n = record { groups = n.groups; names = n.names; literals = n.literals ++ cs }

abbrev pub with_syntax : Syntax → Gathered → Gathered
with_syntax p n = record { groups = n.groups + captures p; names = n.names ++ names_of p; literals = n.literals ++ literals_of p }

-- the branches of a group that are closed, and the items of the one that is open
pub record Level : Type 0 where
  pub closed : Row
  pub items : Row

-- an open group: its kind, and what stands before it, under which flags
pub record Frame : Type 0 where
  pub kind : Kind
  pub flags : Flags
  pub before : ℕ
  pub level : Level

abbrev pub behind : Row → Part → Row
behind row a = record { trees = row.trees ++ a.tree ∷ []; depth = max row.depth a.depth }

abbrev pub push : Part → Level → Level
push a l = record { closed = l.closed; items = behind l.items a }

abbrev pub close_branch : Level → Level
close_branch l = record { closed = behind l.closed (sequence l.items); items = no_parts }

-- the whole group, where the open branch ends
abbrev pub finished : Level → Part
finished l = choice (behind l.closed (sequence l.items))

abbrev pub fresh : Level
fresh = record { closed = no_parts; items = no_parts }

abbrev pub both : Row → Row → Row
both a b = record { trees = a.trees ++ b.trees; depth = max a.depth b.depth }

-- these in front of the first branch
abbrev pub put_all : Row → List Row → List Row
put_all items [] = []
put_all items (branch ∷ rest) = both items branch ∷ rest

-- the whole group, where the open branch goes on so
abbrev pub whole : Level → List Row → Part
whole l bs = choice (both l.closed (row_of (map sequence (put_all l.items bs))))

abbrev pub in_group : Kind → ℕ → Part → Part
in_group m n a = at_depth (a.depth + 1) (grouped m n a.tree)

-- what may follow the end of a group: its part, what is gathered, the text, and what is found in all
abbrev pub After : Type 1
After = Part → Gathered → List ℕ → Found → Type 0

-- nothing follows the pattern
abbrev pub last : After
last a n u found = (u ≡ []) × (found ≡ record { part = a; groups = n.groups; names = n.names; literals = n.literals })

-- the rest of a group, and what follows it
abbrev pub Rest : After → Flags → Gathered → Level → List ℕ → Found → Type 0
Rest after k n l t found =
    (p : Syntax) × (u : List ℕ) × Fine k p u × (t ≡ write p u) × after (whole l (branches k n.groups p)) (with_syntax p n) u found

-- the repetitions of an item, and the rest
abbrev pub RestItem : After → Flags → Gathered → Level → Part → List ℕ → Found → Type 0
RestItem after k n l a t found =
    (rs : List Repeated) × (v : List ℕ) × FineRepeats k rs v × (t ≡ write_repeats rs v) × Rest after k n (push (repeat k rs a) l) v found

-- behind the end of a group its outer flags hold again
abbrev pub leave : Frame → After → After
leave f after a n u found =
    (t : List ℕ) × (u ≡ codes ")" ++ t) × RestItem after f.flags n f.level (in_group f.kind f.before a) t found

-- behind the end of each of these groups, the outermost first
abbrev pub after_all : After → List Frame → After
after_all after [] = after
after_all after (f ∷ fs) = after_all (leave f after) fs

-- all that a reading has so far
pub record Progress : Type 0 where
  pub frames : List Frame
  pub level : Level
  pub flags : Flags
  pub gathered : Gathered

-- how it goes on with a text
abbrev pub GoesOn : Progress → List ℕ → Found → Type 0
GoesOn g t found = Rest (after_all last g.frames) g.flags g.gathered g.level t found

-- how it goes on behind an item, with the repetitions of that
abbrev pub GoesOnBehind : Progress → Part → List ℕ → Found → Type 0
GoesOnBehind g a t found = RestItem (after_all last g.frames) g.flags g.gathered g.level a t found
