use Rattle.std.proofs.Common.{◌≡◌, ◌++◌, ℕ, List, OnOk, slice_range, subst, sym}
use Rattle.grep_matcher.specs.References.{group_text}
use Rattle.sd_replace.specs.InPlace.{made_of}
use Rattle.sd_replace.proofs.replacer.Replacer.put_one.Goals as goal

pub returns-in-Some-clause-made : goal.returns-in-Some-clause-made
returns-in-Some-clause-made c =
    let room = c.args.room.now in
    let there : List ℕ = made_of room ++ slice_range room.bytes.items room.read c.args.found.start in
    subst (λ (l : List ℕ). OnOk c.put.result (made_of c.put.new.self ≡ there ++ l)) (sym (c.in-Some.ensures (group_text room.bytes.items c.args.groups.now))) c.put.ensures.made
