-- What worked examples speak of.
use Rattle.std.specs.Prelude.{◌≡◌, ◌⊎◌, ℕ, List, [], ◌∷◌, codes}
use Rattle.sd_io.specs.Tree.{NameList}
use Rattle.sd_change.specs.Change.{Change}

-- one text becomes another, in which so many spans were replaced
abbrev pub Does : List ℕ → List ℕ → ℕ → Change
Does from to spans bytes new_bytes count = (bytes ≡ from) × (new_bytes ≡ to) × (count ≡ spans)

-- a change by what it does to three texts: `one` becomes `1`
abbrev pub OneToDigit : Change
OneToDigit bytes new_bytes count =
    Does (codes "one two one") (codes "1 two 1") 2 bytes new_bytes count ⊎ Does (codes "one") (codes "1") 1 bytes new_bytes count
    ⊎ Does (codes "two") (codes "two") 0 bytes new_bytes count

-- an empty find text stands once in no bytes
abbrev pub EmptyToX : Change
EmptyToX = Does [] (codes "x") 1

abbrev pub a_place : NameList
a_place = codes "t" ∷ codes "a.txt" ∷ []
