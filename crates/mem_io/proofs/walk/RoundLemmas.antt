-- One round along the parts of a path, up to their end or the next link.
use Rattle.std.proofs.Common.{◌≡◌, ℕ, zero, suc, ◌+◌, ◌-◌, ◌<◌, List, [], ◌∷◌, ◌++◌, refl, sym, ◌∙◌, ap, Bool, true, false, cond, length, arith}
use Rattle.std.specs.Prelude.{◌==◌, Option, Some, None, slice_index}
use Rattle.std.specs.Borrow.{Bor}
use Rattle.std.specs.Str.{bytes_eq}
use Rattle.sd_io.specs.Tree.{Name, NameList, Tree}
use Rattle.sd_io.specs.Paths.{Linking, steps, followed, is_absolute, start_of, parts_of}
use Rattle.mem_io.specs.declared.walk.Stop.{Stop}
use Rattle.mem_io.specs.declared.walk.Stop.TheVariants as stop
use Rattle.mem_io.specs.MemWalk.{led_to}
use Rattle.mem_io.proofs.path.TextLemmas.{no_bytes}

-- where parts lead in so many rounds, one more than the links that may be followed
abbrev pub followed_in : Tree → ℕ → Bool → NameList → List Name → Option NameList
followed_in tree zero follow_last at parts = None
followed_in tree (suc links) follow_last at parts = followed tree links follow_last at parts

-- a round that meets no link is the last
ends : (tree : Tree) (links : ℕ) (follow_last : Bool) (at : NameList) (parts : List Name) (result : Option NameList)
    → ((linking : Linking) → steps tree linking follow_last at parts ≡ result) → followed tree links follow_last at parts ≡ result
ends tree zero follow_last at parts result round = round _
ends tree (suc links) follow_last at parts result round = round _

either : (b : Bool) (o : Option NameList) → cond b o o ≡ o
either true o = refl
either false o = refl

-- a round that meets a link is followed by one from where the link leads
links_on : (tree : Tree) (links : ℕ) (follow_last : Bool) (at folder : NameList) (parts left : List Name) (target : List ℕ)
    → ((linking : Linking) → steps tree linking follow_last at parts ≡ linking folder target left)
    → followed tree links follow_last at parts ≡ cond (bytes_eq target []) None (followed_in tree links follow_last (start_of folder target) (parts_of target ++ left))
links_on tree zero follow_last at folder parts left target round = round _ ∙ sym (either (bytes_eq target []) None)
links_on tree (suc links) follow_last at folder parts left target round = round _

one_less : (n i : ℕ) → i < n → n - i ≡ suc (n - (i + 1))
one_less n i within = omega arith

absolute : (text : List ℕ) → (slice_index text 0 == 47) ≡ is_absolute text
absolute [] = refl
absolute (b ∷ text) = refl

-- where a link's target leads on from, by the test of its first byte
pub starts : (folder start : NameList) (target : List ℕ) (test : Bool) → test ≡ (slice_index target 0 == 47) → start ≡ cond test [] folder → start ≡ start_of folder target
starts folder start target test is from = from ∙ ap (λ b. cond b [] folder) (is ∙ absolute target)

-- round i of n from a directory, which ends at a new place with parts left
module _ (tree : Tree) (n i : ℕ) (follow_last : Bool) (at new : NameList) (parts left : List Name) (how : Stop) (all : Option NameList) (within : i < n)
    (so_far : all ≡ followed_in tree (n - i) follow_last at parts) (round : (linking : Linking) → steps tree linking follow_last at parts ≡ led_to linking new left how) where
  this_round : all ≡ followed tree (n - (i + 1)) follow_last at parts
  this_round = so_far ∙ ap (λ k. followed_in tree k follow_last at parts) (one_less n i within)

  stops_as : (other : Stop) → how ≡ other → (linking : Linking) → steps tree linking follow_last at parts ≡ led_to linking new left other
  stops_as other is linking = round linking ∙ ap (led_to linking new left) is

  pub arrives : how ≡ stop.Arrived → Some new ≡ all
  arrives is = sym (this_round ∙ ends tree (n - (i + 1)) follow_last at parts (Some new) (stops_as _ is))

  pub leads_nowhere : how ≡ stop.Nowhere → None ≡ all
  leads_nowhere is = sym (this_round ∙ ends tree (n - (i + 1)) follow_last at parts None (stops_as _ is))

  pub ends_at_empty_link : (target : Bor (List ℕ)) (test : Bool) → how ≡ stop.Link target → test ≡ (length target.now == 0) → test ≡ true → None ≡ all
  ends_at_empty_link target test is tested none =
      sym (this_round ∙ links_on tree (n - (i + 1)) follow_last at new parts left target.now (stops_as _ is) ∙ ap (λ b. cond b None (followed_in tree (n - (i + 1)) follow_last (start_of new target.now) (parts_of target.now ++ left))) (no_bytes target.now ∙ sym tested ∙ none))

  pub goes_on : (target : Bor (List ℕ)) (test : Bool) (start : NameList) (next : List Name) → how ≡ stop.Link target → test ≡ (length target.now == 0) → test ≡ false
      → start ≡ start_of new target.now → next ≡ parts_of target.now ++ left → all ≡ followed_in tree (n - (i + 1)) follow_last start next
  goes_on target test start next is tested some from put =
      let more = followed_in tree (n - (i + 1)) follow_last in
      this_round ∙ links_on tree (n - (i + 1)) follow_last at new parts left target.now (stops_as _ is) ∙ ap (λ b. cond b None (more (start_of new target.now) (parts_of target.now ++ left))) (no_bytes target.now ∙ sym tested ∙ some)
      ∙ ap (λ place. more place (parts_of target.now ++ left)) (sym from) ∙ ap (more start) (sym put)
