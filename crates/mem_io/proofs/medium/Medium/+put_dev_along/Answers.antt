use Rattle.std.proofs.Common.{◌++◌, ◌∙◌, [], ◌∷◌, append-nil, append_assoc, sym, ap, subst}
use Rattle.std.proofs.lemmas.List.{nil_from_length}
use Rattle.sd_io.specs.Tree.{Name, NameList}
use Rattle.mem_io.specs.Log.{IsKept}
use Rattle.mem_io.specs.LogRoom.{TellsDevice}
use Rattle.mem_io.specs.MemTrail.{names_of}
use Rattle.mem_io.specs.MemTreeView.{mem_tree}
use Rattle.mem_io.specs.Medium.{outcomes_told}
use Rattle.mem_io.proofs.log.DeviceKeptLemmas.{device_keeps}
use Rattle.mem_io.proofs.log.TellingLemmas.{now_told}
use Rattle.mem_io.proofs.medium.Medium.+put_dev_along.Goals as goal

pub invariant_of-self : goal.invariant_of-self
invariant_of-self t c =
    let self = c.args.self.now in
    let place = names_of c.args.trail.now in
    record {
      kept = subst (IsKept (mem_tree c.put_dev_on.new.self)) (sym (now_told place c.args.dev self.log c.put_dev.new.self c.put_dev.ensures))
          (device_keeps (mem_tree self.tree) (mem_tree c.put_dev_on.new.self) place c.args.dev (outcomes_told self) c.put_dev_on.ensures.put self.kept);
    }

pub returns-in-None-clause-tells : goal.returns-in-None-clause-tells
returns-in-None-clause-tells t c =
    let place = names_of c.args.trail.now in
    let none = nil_from_length c.args.names.now c.in-None.ensures.cases in
    subst (λ (q : NameList). TellsDevice c.args.self.now.log q c.args.dev c.put_dev.new.self) (sym (ap (λ (ns : NameList). place ++ ns) none ∙ append-nil place)) c.put_dev.ensures

pub returns-in-Some-clause-tells : goal.returns-in-Some-clause-tells
returns-in-Some-clause-tells t c =
    let place = names_of c.args.trail.now in
    let along =
    append_assoc place (c.as_str.result.now ∷ []) c.in-Some.rest.now ∙ ap (λ (n : Name). place ++ n ∷ c.in-Some.rest.now) c.as_str.ensures.same ∙ ap (λ (ns : NameList). place ++ ns) (sym c.in-Some.ensures.cases.0) in
    subst (λ (q : NameList). TellsDevice c.args.self.now.log q c.args.dev c.put_dev_along.new.self.log) along c.put_dev_along.ensures.tells
