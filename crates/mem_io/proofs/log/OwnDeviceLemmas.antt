-- A node's own outcomes have its device.
use Rattle.std.proofs.Common.{◌≡◌, ℕ, List, [], ◌∷◌, ◌++◌, map, refl, sym, ◌∙◌, ap, Bool, true, false, cond, arith}
use Rattle.std.specs.Prelude.{Option, Some, None, IsSome, option_map, ◌&&◌, ◌==◌}
use Rattle.std.specs.Option.{option_map_or}
use Rattle.std.proofs.lemmas.Bool.{eqb-true}
use Rattle.std.proofs.lemmas.Bool.Decides.{nat_tests}
use Rattle.sd_io.specs.Tree.{NameList, Node, Tree, node_at, file_at, file_node}
use Rattle.sd_io.specs.Outcomes.{Left, gone, this, any_file, Outcome, own, older, Outcomes, built, put, own_of, left_behind, settled, settled_left, after_move, after_no_move}
use Rattle.sd_io.proofs.OutcomeLemmas.{own_append, own_behind, own_twice, own_settled}
use Rattle.mem_io.specs.MemNode.{with_bytes}
use Rattle.mem_io.specs.MemTree.{dev_at}
use Rattle.mem_io.specs.MemTrail.{begins_with, dev_within}
use Rattle.mem_io.specs.Log.{is_left_on, are_on, has_devices, alone_or_gone, alone_by_own, left_on, outcome_on, left_within, outcome_within, after_move_on, after_no_move_on, IsKept}
use Rattle.mem_io.specs.LogHolds.{both}

number_itself : (n : ℕ) → (n == n) ≡ true
number_itself n = grind (arith, nat_tests)

-- ---- lists

append_on : (dev : ℕ) (xs ys : List Outcome) → are_on dev xs ≡ true → are_on dev ys ≡ true → are_on dev (xs ++ ys) ≡ true
append_on dev [] ys a b = b
append_on dev (x ∷ xs) ys a b =
    let h = both (is_left_on dev x.left) (are_on dev xs) a in
    ap (λ t. t && are_on dev (xs ++ ys)) h.0 ∙ append_on dev xs ys h.1 b

pub devices_more : (o : Option Node) (xs ys : List Outcome) → has_devices o xs ≡ true → has_devices o ys ≡ true → has_devices o (xs ++ ys) ≡ true
devices_more None xs ys a b = refl
devices_more (Some node) xs ys a b = ap (are_on node.dev) (own_append xs ys) ∙ append_on node.dev (own_of xs) (own_of ys) a b

-- what was left behind, absent and any file tell no device
pub devices_behind : (o : Option Node) (xs : List Outcome) → has_devices o (left_behind xs) ≡ true
devices_behind None xs = refl
devices_behind (Some node) xs = ap (are_on node.dev) (own_behind xs)

pub devices_gone : (o : Option Node) → has_devices o (older gone ∷ []) ≡ true
devices_gone None = refl
devices_gone (Some node) = refl

pub devices_any : (o : Option Node) → has_devices o (own any_file ∷ []) ≡ true
devices_any None = refl
devices_any (Some node) = refl

pub devices_built : (node : Node) → has_devices (Some node) (built node) ≡ true
devices_built node = ap (λ b. b && true) (number_itself node.dev)

-- own ones alone count
pub devices_own : (o : Option Node) (xs ys : List Outcome) → own_of xs ≡ own_of ys → has_devices o xs ≡ has_devices o ys
devices_own None xs ys e = refl
devices_own (Some node) xs ys e = ap (are_on node.dev) e

pub devices_alone : (o : Option Node) (xs : List Outcome) → has_devices o xs ≡ true → has_devices o (alone_by_own xs) ≡ true
devices_alone None xs e = refl
devices_alone (Some node) xs e = by (own_of xs) (ap (are_on node.dev) (own_twice xs) ∙ e)
  where
    by : (os : List Outcome) → are_on node.dev (own_of os) ≡ true → are_on node.dev (own_of (alone_or_gone os)) ≡ true
    by [] e = refl
    by (o ∷ os) e = e

-- other bytes leave the device
pub devices_bytes : (o : Option Node) (bytes : List ℕ) (xs : List Outcome) → has_devices (option_map (λ node. with_bytes node bytes) o) xs ≡ has_devices o xs
devices_bytes None bytes xs = refl
devices_bytes (Some node) bytes xs = refl

-- the file as it is now has its own
settled_on : (node : Node) (xs : List Outcome) → are_on node.dev xs ≡ true → are_on node.dev (map (settled node) xs) ≡ true
settled_on node [] e = refl
settled_on node (x ∷ xs) e =
    let h = both (is_left_on node.dev x.left) (are_on node.dev xs) e in
    ap (λ t. t && are_on node.dev (map (settled node) xs)) (first x.is_own x.left h.0) ∙ settled_on node xs h.1
  where
    first : (b : Bool) (left : Left) → is_left_on node.dev left ≡ true → is_left_on node.dev (cond b (settled_left node left) left) ≡ true
    first false left e = e
    first true gone e = refl
    first true (this earlier) e = e
    first true any_file e = number_itself node.dev

pub devices_settled : (node : Node) (xs : List Outcome) → has_devices (Some node) xs ≡ true → has_devices (Some node) (map (settled node) xs) ≡ true
devices_settled node xs e = ap (are_on node.dev) (own_settled node xs) ∙ settled_on node (own_of xs) e

-- ---- another device

on_within : (place : NameList) (dev : ℕ) (q : NameList) (node : Node) (xs : List Outcome) → are_on node.dev xs ≡ true → are_on (dev_within place dev q node).dev (map (outcome_within place dev q) xs) ≡ true
on_within place dev q node [] e = refl
on_within place dev q node (x ∷ xs) e =
    let h = both (is_left_on node.dev x.left) (are_on node.dev xs) e in
    ap (λ t. t && are_on (dev_within place dev q node).dev (map (outcome_within place dev q) xs)) (first x.left h.0) ∙ on_within place dev q node xs h.1
  where
    first : (left : Left) → is_left_on node.dev left ≡ true → is_left_on (dev_within place dev q node).dev (left_within place dev q left) ≡ true
    first gone e = refl
    first (this n) e = elim (begins_with place q) as (λ b. ((cond b (record n { dev = dev }) n).dev == (cond b (record node { dev = dev }) node).dev) ≡ true) [ true ↦ number_itself dev | false ↦ e ]
    first any_file e = refl

pub devices_within : (place : NameList) (dev : ℕ) (q : NameList) (o : Option Node) (xs : List Outcome) → own_of (map (outcome_within place dev q) xs) ≡ map (outcome_within place dev q) (own_of xs) → has_devices o xs ≡ true
    → has_devices (option_map (dev_within place dev q) o) (map (outcome_within place dev q) xs) ≡ true
devices_within place dev q None xs own e = refl
devices_within place dev q (Some node) xs own e = ap (are_on (dev_within place dev q node).dev) own ∙ on_within place dev q node (own_of xs) e

-- ---- a file that goes to another place brings its device

on_same : (dev : ℕ) (xs : List Outcome) → are_on dev xs ≡ true → map (outcome_on dev) xs ≡ xs
on_same dev [] e = refl
on_same dev (x ∷ xs) e =
    let h = both (is_left_on dev x.left) (are_on dev xs) e in
    λ i. record { is_own = x.is_own; left = first x.left h.0 i } ∷ on_same dev xs h.1 i
  where
    first : (left : Left) → is_left_on dev left ≡ true → left_on dev left ≡ left
    first gone e = refl
    first (this node) e = let same = eqb-true node.dev dev e in λ i. this (record node { dev = sym same i })
    first any_file e = refl

own_come : (tree : Tree) (place : NameList) (outcomes : Outcomes) → IsKept tree outcomes → IsSome (file_at tree place) → map (outcome_on (dev_at tree place)) (own_of (outcomes place)) ≡ own_of (outcomes place)
own_come tree place outcomes kept is_file = by (node_at tree place) is_file (kept.devices place)
  where
    by : (o : Option Node) → IsSome (file_node o) → has_devices o (outcomes place) ≡ true → map (outcome_on (option_map_or (λ (node : Node). node.dev) o 0)) (own_of (outcomes place)) ≡ own_of (outcomes place)
    by None is e = cc
    by (Some node) is e = on_same node.dev (own_of (outcomes place)) e

pub moves_with_device : (tree : Tree) (source target : NameList) (outcomes : Outcomes) → IsKept tree outcomes → IsSome (file_at tree source)
    → after_move_on source target (dev_at tree source) outcomes ≡ after_move source target outcomes
moves_with_device tree source target outcomes kept is_file =
    ap (λ (os : List Outcome). put target (left_behind (outcomes target) ++ os) (put source (left_behind (outcomes source) ++ older gone ∷ []) outcomes)) (own_come tree source outcomes kept is_file)

pub stays_with_device : (tree : Tree) (source target : NameList) (outcomes : Outcomes) → IsKept tree outcomes → IsSome (file_at tree source)
    → after_no_move_on source target (dev_at tree source) outcomes ≡ after_no_move source target outcomes
stays_with_device tree source target outcomes kept is_file =
    ap (λ (os : List Outcome). put target (outcomes target ++ left_behind os) (put source (outcomes source ++ older gone ∷ []) outcomes)) (own_come tree source outcomes kept is_file)
