-- What stands at a place, by the content of its node.
use Rattle.std.proofs.Common.{◌≡◌, ◌≢◌, ℕ, ◌<◌, List, [], ◌∷◌, refl, sym, arith}
use Rattle.std.specs.Prelude.{Option, Some, None, IsSome}
use Rattle.std.proofs.lemmas.Option.{some_pair_parts}
use Rattle.sd_io.specs.Tree.{Content, directory, link, file, other, Node, file_node, file_content}
use Rattle.sd_io.specs.Files.{kind_of, len_of}
use Rattle.sd_io.specs.declared.meta.Kind.TheVariants as kind

pub nonempty_content : (c : Content) → kind_of c ≡ kind.File → 0 < len_of c → (byte : ℕ) × (bytes : List ℕ) × (mode : ℕ) × (file_content c ≡ Some (byte ∷ bytes, mode))
nonempty_content directory is some = cc
nonempty_content (link target) is some = cc
nonempty_content (file [] mode) is some = absurd (omega arith)
nonempty_content (file (byte ∷ bytes) mode) is some = (byte, bytes, mode, refl)
nonempty_content other is some = cc

nonempty_is_not : {b : ℕ} {bs : List ℕ} → b ∷ bs ≢ []
nonempty_is_not e = cc

none_is_not : {A : Type 0} {a : A} → ◌≡◌ {A = Option A} None (Some a) → ⊥
none_is_not e = cc

pub content_nonempty : (c : Content) (byte : ℕ) (bytes : List ℕ) (mode : ℕ) → file_content c ≡ Some (byte ∷ bytes, mode) → (kind_of c ≡ kind.File) × (0 < len_of c)
content_nonempty directory byte bytes mode e = absurd (none_is_not e)
content_nonempty (link target) byte bytes mode e = absurd (none_is_not e)
content_nonempty (file [] own) byte bytes mode e = absurd (nonempty_is_not (sym (some_pair_parts [] (byte ∷ bytes) own mode e).0))
content_nonempty (file (first ∷ rest) own) byte bytes mode e = (refl, omega arith)
content_nonempty other byte bytes mode e = absurd (none_is_not e)

pub file_stands : (o : Option Node) (f : List ℕ × ℕ) → file_node o ≡ Some f → IsSome o
file_stands None f e = cc
file_stands (Some node) f e = refl
