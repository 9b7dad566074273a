use Rattle.std.proofs.Common.{◌≡◌, refl, sym, subst, inl, inr}
use Rattle.sd_io.specs.declared.meta.Meta.{Meta}
use Rattle.host_io.specs.HostDisk.{IsOfKind}
use Rattle.host_io.specs.Told.{IsTold}
use Rattle.host_io.specs.declared.told.Told.{Told}
use Rattle.host_io.proofs.folders.Folders.tell.Goals as goal
use Rattle.host_io.proofs.folders.Folders.tell.Goals.{in-Link+in_ok-tell_link-in-Link, in-Directory+in_ok-tell-in-Directory, in-File}

-- what is noted of links and folders is no part of what lists told
pub returns-clause-no_more : goal.returns-clause-no_more
returns-clause-no_more g c path meta told =
    let same : c.match-meta.self.told ≡ c.args.self.now.told = elim c.match-meta.branch [
      | in-Link+in_ok-tell_link-in-Link w ↦ rw w.self-is refl
      | in-Directory+in_ok-tell-in-Directory w ↦ rw w.self-is refl
      | in-File w ↦ rw w.self-is refl
    ] in
    elim (c.tell-2.ensures.no_more path meta told) [
      | inl this ↦ inl (this.0, subst (λ (m : Meta). IsOfKind c.args.told.now m.kind) (sym this.1) c.meta_of-meta.ensures.kind)
      | inr before ↦ inr (subst (λ (t : Told). IsTold t path meta) same before)
    ]
