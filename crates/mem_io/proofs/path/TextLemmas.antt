-- Texts: whether one is empty, and the texts of parts.
use Rattle.std.proofs.Common.{◌≡◌, ℕ, List, [], ◌∷◌, ◌++◌, map, reverse, length, refl, sym, ◌∙◌, ap, arith}
use Rattle.std.specs.Prelude.{◌==◌}
use Rattle.std.specs.Borrow.{Bor}
use Rattle.std.specs.Str.{bytes_eq}
use Rattle.std.proofs.lemmas.Bool.{ne_eqb}
use Rattle.std.proofs.lemmas.List.{map_push, reverse-append, reverse-reverse}
use mathlib.Core.List.{reverse_aux}
use Rattle.sd_io.specs.Paths.{parts_of}

-- a text is the empty one where its length is 0
pub no_bytes : (text : List ℕ) → bytes_eq text [] ≡ (length text == 0)
no_bytes [] = refl
no_bytes (b ∷ text) = sym (ne_eqb (length (b ∷ text)) 0 (λ e. omega arith))

abbrev pub texts : List (Bor (List ℕ)) → List (List ℕ)
texts parts = map (λ (part : Bor (List ℕ)). part.now) parts

texts_push : (parts : List (Bor (List ℕ))) (part : Bor (List ℕ)) → texts (parts ++ part ∷ []) ≡ texts parts ++ part.now ∷ []
texts_push parts part = map_push (λ (p : Bor (List ℕ)). p.now) parts part

-- the last of a stack of parts comes first
pub next_part : (parts rest : List (Bor (List ℕ))) (part : Bor (List ℕ)) → parts ≡ rest ++ part ∷ [] → reverse (texts parts) ≡ part.now ∷ reverse (texts rest)
next_part parts rest part taken = ap (λ ps. reverse (texts ps)) taken ∙ ap reverse (texts_push rest part) ∙ reverse-append (texts rest) (part.now ∷ [])

-- the parts of a path, the last taken off
pub last_part : (path : List ℕ) (parts rest : List (Bor (List ℕ))) (name : Bor (List ℕ)) → texts parts ≡ parts_of path → parts ≡ rest ++ name ∷ [] → parts_of path ≡ texts rest ++ name.now ∷ []
last_part path parts rest name are taken = sym are ∙ ap texts taken ∙ texts_push rest name

turned_onto : (parts onto : List (Bor (List ℕ))) → texts (reverse_aux parts onto) ≡ reverse_aux (texts parts) (texts onto)
turned_onto [] onto = refl
turned_onto (part ∷ parts) onto = turned_onto parts (part ∷ onto)

-- parts that are turned round, and read from the last, are as they were
pub turned_back : (parts turned : List (Bor (List ℕ))) → turned ≡ reverse parts → reverse (texts turned) ≡ texts parts
turned_back parts turned is = ap (λ ps. reverse (texts ps)) is ∙ ap reverse (turned_onto parts []) ∙ reverse-reverse (texts parts)
