use Rattle.std.proofs.Common.{◌≡◌, ◌∷◌, ◌++◌, [], Bool, true, false, IsTrue, ◌↔◌, not, refl, sym, ◌∙◌, subst, true≢false}
use Rattle.std.specs.Ordering.{nat_cmp}
use Rattle.std.specs.Cmp.Lexicographic.{slice_cmp}
use Rattle.std.specs.BTreeSet.{contains}
use Rattle.std.proofs.Common.{inl, inr}
use Rattle.pattern_core.specs.Answers.{IsAmong}
use Rattle.pattern_core.proofs.parsing.NameLemmas.{known_more, twice_on, twice_back}
use Rattle.pattern_core.proofs.parsing.names.Names.add.Goals as goal

not_false : (b : Bool) → false ≡ not b → b ≡ true
not_false true e = refl
not_false false e = absurd (true≢false (sym e))

not_true : (b : Bool) → true ≡ not b → b ≡ false
not_true true e = absurd (true≢false e)
not_true false e = refl

pub returns-then-not-is_new : goal.returns-then-not-is_new
returns-then-not-is_new c names are =
    let old = c.args.self.now.known in
    let key = c.in_ok-new.field-0 in
    let same : key ≡ c.args.name.now = c.in_ok-new.ensures ∙ c.as_str.ensures.same in
    let known : contains (slice_cmp nat_cmp) old key ≡ true = not_false (contains (slice_cmp nat_cmp) old key) (sym c.if-not-is_new.true ∙ c.in_ok-is_new.ensures.added) in
    record {
      known = λ q. subst (λ key. IsTrue (contains (slice_cmp nat_cmp) c.insert.new.self q) ↔ IsAmong q (names ++ key ∷ [])) same (known_more old c.insert.new.self key names are.known c.in_ok-is_new.ensures.updates.0 q);
      twice = (
        λ _. twice_back c.args.name.now names (inr (subst (λ key. IsAmong key names) same ((are.known key).0 known))),
        λ _. refl,
      );
    }

pub returns-else-not-is_new : goal.returns-else-not-is_new
returns-else-not-is_new c names are =
    let old = c.args.self.now.known in
    let key = c.in_ok-new.field-0 in
    let same : key ≡ c.args.name.now = c.in_ok-new.ensures ∙ c.as_str.ensures.same in
    let unknown : contains (slice_cmp nat_cmp) old key ≡ false = not_true (contains (slice_cmp nat_cmp) old key) (sym c.if-not-is_new.false ∙ c.in_ok-is_new.ensures.added) in
    record {
      known = λ q. subst (λ key. IsTrue (contains (slice_cmp nat_cmp) c.insert.new.self q) ↔ IsAmong q (names ++ key ∷ [])) same (known_more old c.insert.new.self key names are.known c.in_ok-is_new.ensures.updates.0 q);
      twice = (
        λ t. twice_back c.args.name.now names (inl (are.twice.0 t)),
        λ twice. elim (twice_on c.args.name.now names twice) [
          | inl i ↦ are.twice.1 i
          | inr among ↦ absurd (true≢false (sym ((are.known key).1 (subst (λ key. IsAmong key names) (sym same) among)) ∙ unknown))
        ],
      );
    }
