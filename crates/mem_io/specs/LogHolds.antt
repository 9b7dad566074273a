-- What stands is one of the outcomes that the kept tests and the changes tell.
use Rattle.std.proofs.Common.{◌≡◌, ℕ, List, [], ◌∷◌, length, take, refl, sym, ◌∙◌, ap, subst, Bool, true, false, ◌⊎◌, inl, inr, append-nil}
use Rattle.std.specs.Prelude.{Option, Some, None, ◌&&◌, ◌||◌, ◌==◌}
use Rattle.std.specs.List.{list_any}
use Rattle.std.specs.Str.{bytes_eq}
use Rattle.std.specs.Cmp.Lexicographic.{bytes_decides}
use Rattle.std.proofs.lemmas.Bool.{eqb-true}
use Rattle.std.proofs.Math.Seq.{take-append_seam}
use Rattle.sd_io.specs.Tree.{Content, directory, link, file, other}
use Rattle.sd_io.specs.Outcomes.{Left, gone, this, any_file, Outcome, Fits, Leaves, own_of, content_of}
use Rattle.sd_io.specs.Disk.{DiskState, HoldsPresent, outcomes_now}
use Rattle.mem_io.specs.Log.{same_content, fits_test, is_left, outcomes_by, outcomes_after, Tells, IsKept}
use Rattle.mem_io.specs.declared.log.Change.{Change}

pub both : (a b : Bool) → (a && b) ≡ true → (a ≡ true) × (b ≡ true)
both true true e = (refl, refl)
both true false e = cc
both false b e = cc

pub content_same : (c d : Content) → same_content c d ≡ true → c ≡ d
content_same directory directory e = refl
content_same directory (link t) e = cc
content_same directory (file b m) e = cc
content_same directory other e = cc
content_same (link t) directory e = cc
content_same (link s) (link t) e = ap link ((bytes_decides s t).0 e)
content_same (link t) (file b m) e = cc
content_same (link t) other e = cc
content_same (file b m) directory e = cc
content_same (file b m) (link t) e = cc
content_same (file a m) (file b n) e =
    let h = both (bytes_eq a b) (m == n) e in
    let bytes = (bytes_decides a b).0 h.0 in
    let mode : m ≡ n = eqb-true m n h.1 in
    λ i. file (bytes i) (mode i)
content_same (file b m) other e = cc
content_same other directory e = cc
content_same other (link t) e = cc
content_same other (file b m) e = cc
content_same other other e = refl

-- what passes the test fits
pub fits : (found : Option Content) (left : Left) → fits_test found left ≡ true → Fits left found
fits None gone e = refl
fits None (this node) e = cc
fits None any_file e = cc
fits (Some content) gone e = cc
fits (Some content) (this node) e = ap (λ (c : Content). Some c) (content_same content node.content e)
fits (Some directory) any_file e = cc
fits (Some (link t)) any_file e = cc
fits (Some (file b m)) any_file e = (b, m, refl)
fits (Some other) any_file e = cc

pub any_leaves : (found : Option Content) (outcomes : List Outcome) → list_any (λ outcome. fits_test found outcome.left) outcomes ≡ true → Leaves outcomes found
any_leaves found [] e = cc
any_leaves found (outcome ∷ outcomes) e = by (any_leaves found outcomes) (fits_test found outcome.left) refl e
  where
    by : (list_any (λ outcome. fits_test found outcome.left) outcomes ≡ true → Leaves outcomes found) → (b : Bool) → fits_test found outcome.left ≡ b
        → (b || list_any (λ outcome. fits_test found outcome.left) outcomes) ≡ true → Fits outcome.left found ⊎ Leaves outcomes found
    by rest true is h = inl (fits found outcome.left is)
    by rest false is h = inr (rest h)

-- what stands at each place is one of its outcomes
pub kept_tells : (state : DiskState) → IsKept state.tree (outcomes_now state) → HoldsPresent state
kept_tells state kept = record {
  nothing = λ q none. any_leaves None (outcomes_now state q) (subst (λ o. is_left (content_of o) (outcomes_now state q) ≡ true) none (kept.present q));
  stands = λ q node is. any_leaves (Some node.content) (own_of (outcomes_now state q)) (subst (λ o. is_left (content_of o) (outcomes_now state q) ≡ true) is (kept.present q));
}

pub take_whole : (changes : List Change) → take (length changes) changes ≡ changes
take_whole changes = ap (take (length changes)) (sym (append-nil changes)) ∙ take-append_seam changes []

-- the outcomes of this moment are those after all changes
pub now_of : (first : ℕ) (changes : List Change) (state : DiskState) → Tells first changes state → outcomes_now state ≡ outcomes_after first changes
now_of first changes state t =
    (λ i. t.outcomes i state.clock) ∙ ap (λ (k : ℕ). outcomes_by first changes k) t.clock ∙ ap (outcomes_after first) (take_whole changes)

pub kept_holds : (first : ℕ) (changes : List Change) (state : DiskState) → Tells first changes state → IsKept state.tree (outcomes_after first changes) → HoldsPresent state
kept_holds first changes state t kept = kept_tells state (subst (IsKept state.tree) (sym (now_of first changes state t)) kept)
