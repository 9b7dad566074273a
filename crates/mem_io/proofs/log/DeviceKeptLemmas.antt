-- Another device changes nothing that counts in an image.
use Rattle.std.proofs.Common.{◌≡◌, ℕ, List, [], ◌∷◌, ◌++◌, map, refl, sym, ◌∙◌, ap, Bool, true, false, cond}
use Rattle.std.specs.Prelude.{Option, Some, None, not, ◌||◌, ◌&&◌, option_map}
use Rattle.std.specs.List.{list_any, list_all}
use Rattle.std.proofs.lemmas.Bool.{false≢true}
use Rattle.sd_io.specs.Tree.{NameList, Content, directory, link, file, other, Node, Tree, node_at, is_directory_at, is_directory_node, is_directory_content}
use Rattle.mem_io.specs.MemTree.{PutsDevice}
use Rattle.mem_io.specs.MemTrail.{begins_with, dev_within}
use Rattle.sd_io.specs.Outcomes.{Left, gone, this, any_file, Outcome, Outcomes, own_of, content_of, content_at}
use Rattle.mem_io.specs.Log.{fits_test, same_content, is_left, is_own_of, is_tidy, is_gone, has_other, has_devices, left_within, outcome_within, after_device, IsKept}
use Rattle.mem_io.proofs.trail.DeviceLemmas.{begins_more, rest_of}
use Rattle.mem_io.proofs.trail.DeviceLemmas as device
use Rattle.mem_io.proofs.log.OwnDeviceLemmas.{devices_within}

-- ---- the tree

put_content : (dev : ℕ) (o : Option Node) → content_of (option_map (λ (node : Node). record node { dev = dev }) o) ≡ content_of o
put_content dev None = refl
put_content dev (Some node) = refl

-- each place has its content
pub device_content : (old new : Tree) (place : NameList) (dev : ℕ) → PutsDevice old place dev new → (q : NameList) → content_at new q ≡ content_at old q
device_content old new place dev p q = by (begins_with place q) refl
  where
    by : (b : Bool) → begins_with place q ≡ b → content_at new q ≡ content_at old q
    by true e =
        let r = rest_of place q e in
        (λ i. content_at new (r.1 i)) ∙ ap content_of (p.within r.0) ∙ put_content dev (node_at old (place ++ r.0)) ∙ (λ i. content_at old (sym r.1 i))
    by false e = ap content_of (p.others q (λ rest is. false≢true (sym e ∙ ap (begins_with place) is ∙ begins_more place rest)))

-- each place has its node, with the device where it begins with the names
pub device_node : (old new : Tree) (place : NameList) (dev : ℕ) → PutsDevice old place dev new → (q : NameList) → node_at new q ≡ option_map (dev_within place dev q) (node_at old q)
device_node old new place dev p q = by (begins_with place q) refl
  where
    within : (o : Option Node) → begins_with place q ≡ true → option_map (λ (node : Node). record node { dev = dev }) o ≡ option_map (dev_within place dev q) o
    within None e = refl
    within (Some node) e = ap (λ b. Some (cond b (record node { dev = dev }) node)) (sym e)

    outside : (o : Option Node) → begins_with place q ≡ false → o ≡ option_map (dev_within place dev q) o
    outside None e = refl
    outside (Some node) e = ap (λ b. Some (cond b (record node { dev = dev }) node)) (sym e)

    by : (b : Bool) → begins_with place q ≡ b → node_at new q ≡ option_map (dev_within place dev q) (node_at old q)
    by true e =
        let r = rest_of place q e in
        (λ i. node_at new (r.1 i)) ∙ p.within r.0 ∙ (λ i. option_map (λ (node : Node). record node { dev = dev }) (node_at old (sym r.1 i))) ∙ within (node_at old q) e
    by false e = p.others q (λ rest is. false≢true (sym e ∙ ap (begins_with place) is ∙ begins_more place rest)) ∙ outside (node_at old q) e

-- whether a content is that of a directory
abbrev is_directory_found : Option Content → Bool
is_directory_found None = false
is_directory_found (Some content) = is_directory_content content

kind_by_content : (o : Option Node) → is_directory_node o ≡ is_directory_found (content_of o)
kind_by_content None = refl
kind_by_content (Some node) = refl

-- each directory is one still
pub device_kind : (old new : Tree) (place : NameList) (dev : ℕ) → PutsDevice old place dev new → (q : NameList) → is_directory_at new q ≡ is_directory_at old q
device_kind old new place dev p q =
    kind_by_content (node_at new q) ∙ ap is_directory_found (device_content old new place dev p q) ∙ sym (kind_by_content (node_at old q))

-- ---- the outcomes with the device

fits_within : (place : NameList) (dev : ℕ) (q : NameList) (found : Option Content) (left : Left) → fits_test found (left_within place dev q left) ≡ fits_test found left
fits_within place dev q None gone = refl
fits_within place dev q None (this node) = refl
fits_within place dev q None any_file = refl
fits_within place dev q (Some c) gone = refl
fits_within place dev q (Some c) (this node) = ap (same_content c) (device.same_content place dev q node)
fits_within place dev q (Some directory) any_file = refl
fits_within place dev q (Some (link target)) any_file = refl
fits_within place dev q (Some (file bytes mode)) any_file = refl
fits_within place dev q (Some other) any_file = refl

gone_within : (place : NameList) (dev : ℕ) (q : NameList) (left : Left) → is_gone (left_within place dev q left) ≡ is_gone left
gone_within place dev q gone = refl
gone_within place dev q (this node) = refl
gone_within place dev q any_file = refl

any_within : (place : NameList) (dev : ℕ) (q : NameList) (found : Option Content) (xs : List Outcome)
    → list_any (λ outcome. fits_test found outcome.left) (map (outcome_within place dev q) xs) ≡ list_any (λ outcome. fits_test found outcome.left) xs
any_within place dev q found [] = refl
any_within place dev q found (x ∷ xs) = λ i. fits_within place dev q found x.left i || any_within place dev q found xs i

pub own_within : (place : NameList) (dev : ℕ) (q : NameList) (xs : List Outcome) → own_of (map (outcome_within place dev q) xs) ≡ map (outcome_within place dev q) (own_of xs)
own_within place dev q [] = refl
own_within place dev q (x ∷ xs) = by (own_within place dev q xs) x.is_own x.left
  where
    by : own_of (map (outcome_within place dev q) xs) ≡ map (outcome_within place dev q) (own_of xs) → (b : Bool) (left : Left)
        → cond b (outcome_within place dev q (record { is_own = b; left = left }) ∷ own_of (map (outcome_within place dev q) xs)) (own_of (map (outcome_within place dev q) xs))
        ≡ map (outcome_within place dev q) (cond b (record { is_own = b; left = left } ∷ own_of xs) (own_of xs))
    by e true left = ap (λ os. outcome_within place dev q (record { is_own = true; left = left }) ∷ os) e
    by e false left = e

left_same : (place : NameList) (dev : ℕ) (q : NameList) (found : Option Content) (xs : List Outcome) → is_left found (map (outcome_within place dev q) xs) ≡ is_left found xs
left_same place dev q None xs = any_within place dev q None xs
left_same place dev q (Some c) xs = ap (list_any (λ outcome. fits_test (Some c) outcome.left)) (own_within place dev q xs) ∙ any_within place dev q (Some c) (own_of xs)

all_within : (place : NameList) (dev : ℕ) (q : NameList) (c : Content) (xs : List Outcome) → list_all (is_own_of c) (map (outcome_within place dev q) xs) ≡ list_all (is_own_of c) xs
all_within place dev q c [] = refl
all_within place dev q c (x ∷ xs) = λ i. (x.is_own && fits_within place dev q (Some c) x.left i) && all_within place dev q c xs i

marks_within : (place : NameList) (dev : ℕ) (q : NameList) (xs : List Outcome) → list_any (λ outcome. outcome.is_own) (map (outcome_within place dev q) xs) ≡ list_any (λ outcome. outcome.is_own) xs
marks_within place dev q [] = refl
marks_within place dev q (x ∷ xs) = ap (λ b. x.is_own || b) (marks_within place dev q xs)

tidy_same : (place : NameList) (dev : ℕ) (q : NameList) (found : Option Content) (xs : List Outcome) → is_tidy found (map (outcome_within place dev q) xs) ≡ is_tidy found xs
tidy_same place dev q None xs = ap not (marks_within place dev q xs)
tidy_same place dev q (Some directory) xs = all_within place dev q directory xs
tidy_same place dev q (Some (link target)) xs = all_within place dev q (link target) xs
tidy_same place dev q (Some (file bytes mode)) xs = refl
tidy_same place dev q (Some other) xs = all_within place dev q other xs

other_same : (place : NameList) (dev : ℕ) (q : NameList) (xs : List Outcome) → has_other (map (outcome_within place dev q) xs) ≡ has_other xs
other_same place dev q [] = refl
other_same place dev q (x ∷ xs) = λ i. not (gone_within place dev q x.left i) || other_same place dev q xs i

pub device_keeps : (old new : Tree) (place : NameList) (dev : ℕ) (outcomes : Outcomes) → PutsDevice old place dev new → IsKept old outcomes → IsKept new (after_device place dev outcomes)
device_keeps old new place dev outcomes p kept = record {
  present = λ q. left_same place dev q (content_at new q) (outcomes q) ∙ ap (λ c. is_left c (outcomes q)) (device_content old new place dev p q) ∙ kept.present q;
  tidy = λ q. tidy_same place dev q (content_at new q) (outcomes q) ∙ ap (λ c. is_tidy c (outcomes q)) (device_content old new place dev p q) ∙ kept.tidy q;
  devices = λ q.
      ap (λ o. has_devices o (after_device place dev outcomes q)) (device_node old new place dev p q)
      ∙ devices_within place dev q (node_at old q) (outcomes q) (own_within place dev q (outcomes q)) (kept.devices q);
  folders = λ folder name e. device_kind old new place dev p folder ∙ kept.folders folder name (sym (other_same place dev (folder ++ name ∷ []) (outcomes (folder ++ name ∷ []))) ∙ e);
  names = λ folder name e. kept.names folder name (sym (other_same place dev (folder ++ name ∷ []) (outcomes (folder ++ name ∷ []))) ∙ e);
}
