-- Where a path leads when no link is followed.
use Rattle.std.proofs.Common.{◌≡◌, ◌⊎◌, inl, inr, ℕ, List, [], reverse, length, sym, ◌∙◌, ap, Bool, true, false, cond}
use Rattle.std.specs.Prelude.{◌==◌, None}
use Rattle.std.specs.Borrow.{Bor}
use Rattle.sd_io.specs.Tree.{NameList, Name, Tree}
use Rattle.sd_io.specs.Paths.{Linking, parts_of, steps, reached_plain}
use Rattle.mem_io.specs.MemWalk.{led_to}
use Rattle.mem_io.specs.declared.walk.Stop.{Stop}
use Rattle.mem_io.specs.declared.walk.Stop.TheVariants as stop
use Rattle.mem_io.proofs.path.TextLemmas.{no_bytes, texts, turned_back}

-- no link leads anywhere
abbrev pub no_link : Linking
no_link folder target rest = None

pub plain_none : (tree : Tree) (path : List ℕ) (test : Bool) → test ≡ (length path == 0) → test ≡ true → None ≡ reached_plain tree path
unfolding reached_plain
plain_none tree path test is none = sym (ap (λ b. cond b None (steps tree no_link false [] (parts_of path))) (no_bytes path ∙ sym is ∙ none))

pub plain_by : (tree : Tree) (path : List ℕ) (test : Bool) (parts turned : List (Bor (List ℕ))) → test ≡ (length path == 0) → test ≡ false → texts parts ≡ parts_of path → turned ≡ reverse parts
    → steps tree no_link false [] (reverse (texts turned)) ≡ reached_plain tree path
unfolding reached_plain
plain_by tree path test parts turned is some are back =
    ap (steps tree no_link false []) (turned_back parts turned back ∙ are)
    ∙ sym (ap (λ b. cond b None (steps tree no_link false [] (parts_of path))) (no_bytes path ∙ sym is ∙ some))

-- a walk that doesn't arrive leads nowhere
pub leads_no_further : (at : NameList) (left : List Name) (s : Stop) → (s ≡ stop.Nowhere) ⊎ ((target : Bor (List ℕ)) × (s ≡ stop.Link target)) → led_to no_link at left s ≡ None
leads_no_further at left s (inl e) = ap (led_to no_link at left) e
leads_no_further at left s (inr (target, e)) = ap (led_to no_link at left) e
