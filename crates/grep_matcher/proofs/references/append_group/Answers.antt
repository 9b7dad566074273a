use Rattle.std.proofs.Common.{ap, subst, Option, ℕ}
use Rattle.grep_matcher.specs.CaptureRefs.{target_of}
use Rattle.grep_matcher.specs.Reached.{at_first}
use Rattle.grep_matcher.proofs.references.ReferenceLemmas.{number_added, name_added, nothing_added, one_added, one_looked}
use Rattle.grep_matcher.proofs.references.append_group.Goals as goal

pub returns-in-Number-clause-added : goal.returns-in-Number-clause-added
returns-in-Number-clause-added g c = number_added (goal.A-step g) (λ d. d.now.items) (goal.N-step g) (λ name. name.now) (target_of c.args.group) _ _ _ _ _ _ _ (ap target_of c.in-Number.is) c.append.ensures

pub returns-in-Number-clause-kept : goal.returns-in-Number-clause-kept
returns-in-Number-clause-kept g c = c.requires.keeps _ _ _ _ _ _ at_first c.append.ensures

pub returns-in-Number-clause-adding : goal.returns-in-Number-clause-adding
returns-in-Number-clause-adding g c = one_added (goal.A-step g) _ _ _ _ _ _ c.append.ensures

pub returns-in-Number-clause-looking : goal.returns-in-Number-clause-looking
returns-in-Number-clause-looking g c = at_first

pub returns-in-Some-clause-added : goal.returns-in-Some-clause-added
returns-in-Some-clause-added g c = name_added (goal.A-step g) (λ d. d.now.items) (goal.N-step g) (λ name. name.now) (target_of c.args.group) _ _ _ _ _ _ _ _ _ (ap target_of c.in-Named.is)
    (subst (λ (o : Option ℕ). goal.N-step g c.args.name_to_index.now c.in-Named.name o c.name_to_index.new.self) c.in-Some.is c.name_to_index.ensures) c.append-in-Some.ensures

pub returns-in-Some-clause-kept : goal.returns-in-Some-clause-kept
returns-in-Some-clause-kept g c = c.requires.keeps _ _ _ _ _ _ at_first c.append-in-Some.ensures

pub returns-in-Some-clause-adding : goal.returns-in-Some-clause-adding
returns-in-Some-clause-adding g c = one_added (goal.A-step g) _ _ _ _ _ _ c.append-in-Some.ensures

pub returns-in-Some-clause-looking : goal.returns-in-Some-clause-looking
returns-in-Some-clause-looking g c = one_looked (goal.N-step g) _ _ _ _ c.name_to_index.ensures

pub returns-in-None-clause-added : goal.returns-in-None-clause-added
returns-in-None-clause-added g c text_of number_of appends answers = nothing_added (goal.N-step g) (λ name. name.now) (target_of c.args.group) _ _ _ (ap target_of c.in-Named.is)
    (subst (λ (o : Option ℕ). goal.N-step g c.args.name_to_index.now c.in-Named.name o c.name_to_index.new.self) c.in-None.is c.name_to_index.ensures) text_of number_of answers c.args.dst.now.items

pub returns-in-None-clause-adding : goal.returns-in-None-clause-adding
returns-in-None-clause-adding g c = at_first

pub returns-in-None-clause-looking : goal.returns-in-None-clause-looking
returns-in-None-clause-looking g c = one_looked (goal.N-step g) _ _ _ _ c.name_to_index.ensures
