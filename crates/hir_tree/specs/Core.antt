-- The core of a pattern: its literals are bytes one after another, and its repetitions are written out.
use Rattle.std.specs.Prelude.{ℕ, zero, suc, ◌+◌, ◌-◌, Bool, List, [], ◌∷◌, map, replicate, Option, Some, None, if◌then◌else◌}
use Rattle.hir_tree.specs.declared.look.Look.{Look}

-- A set is a list of ranges, both ends included.
pub data Core : Type 0 where
  empty : Core
  -- one byte of a set
  byte_in : List (ℕ × ℕ) → Core
  -- the UTF-8 of one character of a set
  char_in : List (ℕ × ℕ) → Core
  look : Look → Core
  -- the capture group with this index
  group : ℕ → Core → Core
  -- one after the other
  pair : Core → Core → Core
  -- one or the other, the first preferred
  choice : Core → Core → Core
  -- a choice without parts
  none : Core
  -- `a+` if the flag is true, and the lazy `a+?` otherwise
  plus : Bool → Core → Core

-- How many numbers the nodes of a core take. A node comes before its parts, and these come in their order: where the
-- node has the number n, its first part has n + 1, and a second part n + 1 and as many as the first part takes.
-- A plus takes n + 1 too, for its again spot, and its body has n + 2. A group leaves n + 1 unused, for its end in a search.
abbrev pub numbers : Core → ℕ
numbers empty = 1
numbers (byte_in set) = 1
numbers (char_in set) = 1
numbers (look l) = 1
numbers (group i a) = 2 + numbers a
numbers (pair a b) = 1 + numbers a + numbers b
numbers (choice a b) = 1 + numbers a + numbers b
numbers none = 1
numbers (plus greedy a) = 2 + numbers a

-- one after another
abbrev pub pair_all : List Core → Core
pair_all [] = empty
pair_all (a ∷ []) = a
pair_all (a ∷ rest) = pair a (pair_all rest)

-- The first that works is preferred; without parts, none does. What is left of a choice after its first part is a node
-- with a number of its own, to which that choice alone leads: it changes no run.
abbrev pub choice_all : List Core → Core
choice_all [] = none
choice_all (a ∷ rest) = choice a (choice_all rest)

-- one byte
abbrev pub one_byte : ℕ → Core
one_byte b = byte_in ((b, b) ∷ [])

-- these bytes, one after another
abbrev pub literal : List ℕ → Core
literal bytes = pair_all (map one_byte bytes)

-- `a?`, or the lazy `a??`
abbrev pub optional : Bool → Core → Core
optional greedy a = if greedy then choice a empty else choice empty a

-- n copies of a, and then b
abbrev pub copies : ℕ → Core → Core → Core
copies zero a b = b
copies (suc n) a b = pair a (copies n a b)

-- at most n of a, nested: `(a(a)?)?`
abbrev pub up_to : Bool → ℕ → Core → Core
up_to greedy zero a = empty
up_to greedy (suc zero) a = optional greedy a
up_to greedy (suc n) a = optional greedy (pair a (up_to greedy n a))

-- `a*` is `(a+)?`, and `a{3,}` is `aaa+`
abbrev pub at_least : Bool → ℕ → Core → Core
at_least greedy zero a = optional greedy (plus greedy a)
at_least greedy (suc n) a = copies n a (plus greedy a)

-- `a{2}` is `aa`, and with two more `aa(a(a)?)?`
abbrev pub with_more : Bool → ℕ → ℕ → Core → Core
with_more greedy n zero a = pair_all (replicate n a)
with_more greedy n more a = copies n a (up_to greedy more a)

-- `a{min,max}`, or `a{min,}`
abbrev pub repeat : ℕ → Option ℕ → Bool → Core → Core
repeat min None greedy a = at_least greedy min a
repeat min (Some max) greedy a = with_more greedy min (max - min) a
