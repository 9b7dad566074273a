use Rattle.std.proofs.Common.{◌≡◌, ◌∙◌, sym, ap, List, ℕ, true, false, cond, Option, None, refl, Bor}
use Rattle.std.specs.Prelude.{option_map}
use Rattle.std.specs.Option.{option_map_or}
use Rattle.std.specs.List.{last_or}
use Rattle.sd_io.specs.Tree.{Name}
use Rattle.sd_io.specs.Paths.{parts_of, is_up}
use Rattle.walk_rest.proofs.names.LastLemmas.{name_is}
use Rattle.walk_rest.specs.Names.{file_name}
use Rattle.walk_rest.proofs.names.file_name.Goals as goal

-- the name, by what was found
named : (path : List ℕ) (found : Option (Bor (List ℕ))) (name : List ℕ) → option_map (λ (part : Bor (List ℕ)). part.now) found ≡ last_or None (parts_of path)
    → option_map_or (λ (last : Name). cond (is_up last) path last) (option_map (λ (part : Bor (List ℕ)). part.now) found) path ≡ name → name ≡ file_name path
named path found name e is = sym is ∙ (ap (λ o. option_map_or (λ (last : Name). cond (is_up last) path last) o path) e ∙ sym (name_is path (parts_of path)))

pub returns-then-eq : goal.returns-then-eq
returns-then-eq c =
    let up : is_up c.in-Some.part.now ≡ true = sym c.eq.ensures ∙ c.if-eq.true in
    named c.args.path.now c.last_part.result c.args.path.now c.last_part.ensures (rw c.in-Some.is (ap (λ b. cond b c.args.path.now c.in-Some.part.now) up))

pub returns-else-eq : goal.returns-else-eq
returns-else-eq c =
    let up : is_up c.in-Some.part.now ≡ false = sym c.eq.ensures ∙ c.if-eq.false in
    named c.args.path.now c.last_part.result c.in-Some.part.now c.last_part.ensures (rw c.in-Some.is (ap (λ b. cond b c.args.path.now c.in-Some.part.now) up))

pub returns-in_default : goal.returns-in_default
returns-in_default c = named c.args.path.now c.last_part.result c.args.path.now c.last_part.ensures (rw c.in_default.is refl)
