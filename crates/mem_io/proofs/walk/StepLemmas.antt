-- One step along the parts of a path.
use Rattle.std.proofs.Common.{◌≡◌, ◌⊎◌, ℕ, zero, suc, ◌<◌, List, [], ◌∷◌, ◌++◌, reverse, length, refl, sym, ◌∙◌, ap, inl, inr, Bool, true, false, cond, arith}
use Rattle.std.specs.Prelude.{◌==◌, Option, Some, None}
use Rattle.std.specs.Borrow.{Bor}
use Rattle.std.proofs.lemmas.List.{length-reverse, length-map}
use Rattle.sd_io.specs.Tree.{Name, NameList, Node, Tree, Content, directory, link, file, other, node_at, is_directory_at}
use Rattle.sd_io.specs.Paths.{Linking, is_up, parent_of, ends_at_link, through_node, steps}
use Rattle.mem_io.specs.MemNode.{link_target}
use Rattle.mem_io.proofs.path.TextLemmas.{texts}
use Rattle.mem_io.proofs.place.ParentLemmas.{parent_of-last}

no_end_followed : (parts : List Name) → ends_at_link true parts ≡ false
no_end_followed [] = refl
no_end_followed (part ∷ parts) = refl

no_end_before : (follow_last : Bool) (parts : List Name) → 0 < length parts → ends_at_link follow_last parts ≡ false
no_end_before follow_last [] more = absurd (omega arith)
no_end_before follow_last (part ∷ parts) more = refl

above : (n : ℕ) → (n == 0) ≡ false → 0 < n
above zero is = cc
above (suc n) is = omega arith

-- where the last part is followed, or more parts are left, a link is no end
pub no_end : (follow_last empty : Bool) (parts : List (Bor (List ℕ))) (n : ℕ) → n ≡ length parts → empty ≡ (n == 0) → ((empty ≡ true) × (follow_last ≡ true)) ⊎ (empty ≡ false)
    → ends_at_link follow_last (reverse (texts parts)) ≡ false
no_end follow_last empty parts n long is (inl followed) =
    ap (λ b. ends_at_link b (reverse (texts parts))) followed.1 ∙ no_end_followed (reverse (texts parts))
no_end follow_last empty parts n long is (inr more) =
    no_end_before follow_last (reverse (texts parts))
    (let some : 0 < n = above n (sym is ∙ more) in omega (arith, length-reverse (texts parts), length-map parts (λ (part : Bor (List ℕ)). part.now)))

-- a link that is no end is what `linking` leads through
through_link : (linking : Linking) (onward : NameList → Option NameList) (follow_last : Bool) (folder : NameList) (part : Name) (parts : List Name) (content : Content) (dev ino : ℕ) (target : List ℕ)
    → link_target content ≡ Some target → ends_at_link follow_last parts ≡ false
    → through_node linking onward follow_last folder part parts (Some (record { content = content; dev = dev; ino = ino })) ≡ linking folder target parts
through_link linking onward follow_last folder part parts directory dev ino target is no_end = cc
through_link linking onward follow_last folder part parts (link text) dev ino target is no_end =
    ap (λ b. cond b (Some (folder ++ part ∷ [])) (linking folder text parts)) no_end ∙ ap (λ t. linking folder t parts) (cc)
through_link linking onward follow_last folder part parts (file bytes mode) dev ino target is no_end = cc
through_link linking onward follow_last folder part parts other dev ino target is no_end = cc

-- a link that is no end leads on as `linking` says, from its folder
pub step_link : (tree : Tree) (linking : Linking) (follow_last : Bool) (at entered left : NameList) (part : Name) (parts : List Name) (node : Node) (target : List ℕ)
    → is_directory_at tree at ≡ true → is_up part ≡ false → entered ≡ at ++ part ∷ [] → node_at tree entered ≡ Some node → link_target node.content ≡ Some target
    → ends_at_link follow_last parts ≡ false → left ≡ parent_of entered
    → steps tree linking follow_last at (part ∷ parts) ≡ linking left target parts
step_link tree linking follow_last at entered left part parts node target in_directory is_name goes stands is_link no_end back =
    let onward = λ (next : NameList). steps tree linking follow_last next parts in
    let through = through_node linking onward follow_last at part parts in
    let up = steps tree linking follow_last (parent_of at) parts in
    ap (λ b. cond b (cond (is_up part) up (through (node_at tree (at ++ part ∷ [])))) None) in_directory
    ∙ ap (λ b. cond b up (through (node_at tree (at ++ part ∷ [])))) is_name
    ∙ ap through (ap (node_at tree) (sym goes) ∙ stands)
    ∙ through_link linking onward follow_last at part parts node.content node.dev node.ino target is_link no_end
    ∙ ap (λ folder. linking folder target parts) (sym (back ∙ ap parent_of goes ∙ parent_of-last at part))
