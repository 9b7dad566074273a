use Rattle.std.proofs.Common.{◌≡◌, ◌∙◌, ap, sym, [], ◌∷◌, List, ℕ}
use Rattle.sd_io.specs.Tree.{Tree}
use Rattle.walk_rest.specs.Plan.{Plan, items_in, Manner}
use Rattle.walk_rest.specs.Listing.{Beginning, ends, begins, beginning, manner_of, IsBegun}
use Rattle.walk_rest.proofs.laws.PlanLemmas.{plan_same}
use Rattle.walk_rest.proofs.laws.listing_is_one.Goals as goal

begun_items : (tree : Tree) (manner : Manner) (root : List ℕ) (b : Beginning) (p q : Plan) → IsBegun tree manner root b p → IsBegun tree manner root b q → items_in p ≡ items_in q
begun_items tree manner root (ends error) p q f g = ap items_in f ∙ sym (ap items_in g)
begun_items tree manner root (begins entry) p q f g = ap items_in (plan_same tree manner [] (entry ∷ []) p q f g)

pub returns : goal.returns
returns c = λ tree how sorts compare root xs ys f g.
    let manner = manner_of tree how sorts compare root in
    f.same ∙ (begun_items tree manner root (beginning tree how root) f.plan g.plan f.planned g.planned ∙ sym g.same)
