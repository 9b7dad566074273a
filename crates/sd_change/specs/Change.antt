-- What is done to bytes.
use Rattle.std.specs.Prelude.{◌≡◌, ◌≢◌, ◌<◌, ◌≤◌, ◌+◌, ◌↔◌, ℕ, List, [], ◌∷◌, length, Option, Some, None}
use Rattle.sd_change.specs.declared.changed.Changed.{Changed}
use Rattle.sd_change.specs.declared.changed.Rewritten.{Rewritten}
use Rattle.sd_change.specs.declared.changed.Rewritten.TheVariants.{Same, Other}

-- From the old bytes to the new ones, in which so many spans were replaced. Nothing above this line names a pattern or a replacement text.
abbrev pub Change : Type 1
Change = List ℕ → List ℕ → ℕ → Type 0

-- the change of a file: an empty one is left alone
abbrev pub FileChange : Change → Change
FileChange change [] new_bytes count = (new_bytes ≡ []) × (count ≡ 0)
FileChange change (byte ∷ bytes) new_bytes count = change (byte ∷ bytes) new_bytes count

-- the same bytes become the same bytes, with the same number of spans
abbrev pub IsOne : Change → Type 0
IsOne change = (bytes new_bytes others : List ℕ) (m n : ℕ) → change bytes new_bytes m → change bytes others n → (new_bytes ≡ others) × (m ≡ n)

-- two changes do the same
abbrev pub SameChange : Change → Change → Type 0
SameChange a b = (bytes new_bytes : List ℕ) (count : ℕ) → a bytes new_bytes count ↔ b bytes new_bytes count

-- what is answered of bytes: what they become, or nothing exactly where no span is replaced
abbrev pub Tells : Change → List ℕ → Option Changed → Type 0
Tells change bytes None = change bytes bytes 0
Tells change bytes (Some changed) = change bytes changed.new_bytes.items changed.count × (0 < changed.count)

-- there are no more spans than places where one may begin, the end among them
abbrev pub AreFew : List ℕ → Option Changed → Type 0
AreFew bytes None = Unit {0}
AreFew bytes (Some changed) = changed.count ≤ length bytes + 1

-- what is told of bytes that were given away: as many spans were replaced, and the same ones are given back, or what they became differs from them
abbrev pub TellsRewritten : Change → List ℕ → Rewritten → Type 0
TellsRewritten change bytes (Same same count) = (same.items ≡ bytes) × change bytes bytes count
TellsRewritten change bytes (Other changed) = change bytes changed.new_bytes.items changed.count × (changed.new_bytes.items ≢ bytes)

-- there too are no more spans than places where one may begin
abbrev pub AreFewIn : List ℕ → Rewritten → Type 0
AreFewIn bytes (Same same count) = count ≤ length bytes + 1
AreFewIn bytes (Other changed) = changed.count ≤ length bytes + 1
