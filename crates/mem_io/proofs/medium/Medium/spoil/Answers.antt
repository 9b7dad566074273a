use Rattle.std.proofs.Common.{◌∙◌, sym, refl}
use Rattle.std.specs.Prelude.{IsSome}
use Rattle.sd_io.specs.Tree.{file_at}
use Rattle.mem_io.specs.MemTreeView.{mem_tree}
use Rattle.mem_io.proofs.log.ChangeLemmas.{write_keeps}
use Rattle.mem_io.proofs.medium.MediumLemmas.{kept_after}
use Rattle.mem_io.proofs.medium.Medium.spoil.Goals as goal

pub invariant_of-self-in-Some : goal.invariant_of-self-in-Some
invariant_of-self-in-Some c =
    let self = c.args.self.now in
    let is_file : IsSome (file_at (mem_tree self.tree) c.in-Some.place) = sym c.is_file.ensures ∙ c.if-is_file.true in
    record {
      kept = kept_after _ _ _ _ _ _ _ _ c.reserve.ensures.first c.note.ensures.first c.reserve.ensures.kept c.note.ensures.noted
          (write_keeps (mem_tree self.tree) (mem_tree self.tree) c.in-Some.place _ is_file is_file (λ q n. refl) (self.kept.devices c.in-Some.place) self.kept);
    }
