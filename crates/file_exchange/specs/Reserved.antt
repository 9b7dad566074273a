-- Reserved names, under which temporary files stand.
use Rattle.std.specs.Prelude.{◌≡◌, ◌<◌, ◌+◌, ◌/◌, ◌%◌, ℕ, List, [], ◌∷◌, ◌++◌, codes, None, IsSome, Contains, if◌then◌else◌, nat_lt}
use Rattle.sd_io.specs.Tree.{Name, NameList, Tree, node_at}
use Rattle.sd_io.specs.Files.{path_text}

-- ---- reserved names

-- a hexadecimal digit in lower case
abbrev pub hex_digit : ℕ → ℕ
hex_digit n = if nat_lt n 10 then 48 + n else 87 + n

-- the reserved name of a number below 65,536: `.sd-0000.tmp` to `.sd-ffff.tmp`
abbrev pub reserved_name : ℕ → Name
reserved_name n =
    codes ".sd-" ++ hex_digit (n / 4096) ∷ hex_digit (n / 256 % 16) ∷ hex_digit (n / 16 % 16) ∷ hex_digit (n % 16) ∷ codes ".tmp"

-- how many names are reserved in each folder
abbrev pub reserved_names : ℕ
reserved_names = 65536

-- a reserved name in a folder
abbrev pub Reserved : NameList → NameList → Type 0
Reserved folder place = (n : ℕ) × (n < reserved_names) × (place ≡ folder ++ reserved_name n ∷ [])

-- nothing stands at a reserved name of the folder
pub record Free (tree : Tree) (folder place : NameList) : Type 0 where
  pub reserved : Reserved folder place
  pub free : node_at tree place ≡ None

-- it is the first such name: something stands at each with a smaller number
pub record FirstFree (tree : Tree) (folder place : NameList) : Type 0 where
  pub reserved : Reserved folder place
  pub free : node_at tree place ≡ None
  pub before : (k : ℕ) → k < reserved.0 → IsSome (node_at tree (folder ++ reserved_name k ∷ []))

-- each reserved name of the folder is taken
abbrev pub NoneFree : Tree → NameList → Type 0
NoneFree tree folder = (place : NameList) → Free tree folder place → ⊥

-- ---- paths

-- the text is the path of the reserved name of this number beside the file at a path
abbrev pub IsReservedPath : List ℕ → ℕ → List ℕ → Type 0
IsReservedPath path number text =
    (folder : NameList) (name : Name) → path ≡ path_text (folder ++ name ∷ []) → (Contains name 47 → ⊥) → text ≡ path_text (folder ++ reserved_name number ∷ [])

-- the text is the path of the folder of the file at a path
abbrev pub IsFolderPath : List ℕ → List ℕ → Type 0
IsFolderPath path text = (folder : NameList) (name : Name) → path ≡ path_text (folder ++ name ∷ []) → (Contains name 47 → ⊥) → text ≡ path_text folder
