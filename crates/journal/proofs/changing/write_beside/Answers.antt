use Rattle.std.proofs.Common.{◌∙◌, refl}
use Rattle.journal.proofs.ChangingLemmas.{beside_naming, may_be_named, beside_adds}
use Rattle.journal.proofs.StagingLemmas.{beside_free, folder_text_is}
use Rattle.journal.proofs.EndingLemmas.{writing_fails}
use Rattle.journal.proofs.CauseLemmas.{told_on}
use Rattle.journal.proofs.changing.write_beside.Goals as goal

pub returns-in_err-made-clause-kept : goal.returns-in_err-made-clause-kept
returns-in_err-made-clause-kept g c =
    λ told work root are p.
    let lines = c.args.journal.now in
    let s = g.D.Disk.state c.args.disk.now in
    let is = g.met.D.Disk.is_tree c.args.disk.now told in
    let holds = g.met.D.Disk.holds_present c.args.disk.now told in
    let t = g.D.Disk.state c.make_beside.new.disk in
    beside_naming work lines s is holds p root c.args.path.now are (c.requires.beside told) t (c.make_beside.ensures.left told)

pub returns-in-Some-clause-kept : goal.returns-in-Some-clause-kept
returns-in-Some-clause-kept g c =
    λ told work root are p.
    let lines = c.args.journal.now in
    let s = g.D.Disk.state c.args.disk.now in
    let is = g.met.D.Disk.is_tree c.args.disk.now told in
    let holds = g.met.D.Disk.holds_present c.args.disk.now told in
    let t = g.D.Disk.state c.make_beside.new.disk in
    beside_naming work lines s is holds p root c.args.path.now are (c.requires.beside told) t (c.make_beside.ensures.left told)

pub returns-in_err-new-in-None-clause-kept : goal.returns-in_err-new-in-None-clause-kept
returns-in_err-new-in-None-clause-kept g c =
    λ told work root are p.
    let lines = c.args.journal.now in
    let s = g.D.Disk.state c.args.disk.now in
    let is = g.met.D.Disk.is_tree c.args.disk.now told in
    let holds = g.met.D.Disk.holds_present c.args.disk.now told in
    let t = g.D.Disk.state c.make_beside.new.disk in
    beside_naming work lines s is holds p root c.args.path.now are (c.requires.beside told) t (c.make_beside.ensures.left told)

pub returns-clause-kept : goal.returns-clause-kept
returns-clause-kept g c =
    λ told work root are p.
    let lines = c.args.journal.now in
    let s = g.D.Disk.state c.args.disk.now in
    let is = g.met.D.Disk.is_tree c.args.disk.now told in
    let holds = g.met.D.Disk.holds_present c.args.disk.now told in
    let t = g.D.Disk.state c.make_beside.new.disk in
    beside_naming work lines s is holds p root c.args.path.now are (c.requires.beside told) t (c.make_beside.ensures.left told)

pub returns-in-Some-clause-written : goal.returns-in-Some-clause-written
returns-in-Some-clause-written g c =
    λ told work root are p none.
    let lines = c.args.journal.now in
    let s = g.D.Disk.state c.args.disk.now in
    let is = g.met.D.Disk.is_tree c.args.disk.now told in
    let holds = g.met.D.Disk.holds_present c.args.disk.now told in
    let t = g.D.Disk.state c.make_beside.new.disk in
    may_be_named work lines s is holds p root c.args.path.now are (c.requires.beside told) t c.deref.result.now _ c.in-Some.made (g.met.D.Disk.is_tree c.make_beside.new.disk told)
    (c.make_beside.ensures.left told) (c.deref.ensures.value ∙ c.in_ok-text.ensures.text_is) (rw c.in-Some.is at (c.in_ok-made.ensures.made told)) none

pub returns-in-Some-clause-tree : goal.returns-in-Some-clause-tree
returns-in-Some-clause-tree g c =
    λ told.
    beside_adds (g.D.Disk.state c.args.disk.now) (g.D.Disk.state c.make_beside.new.disk) c.args.path.now c.deref.result.now _ c.in-Some.made (c.requires.beside told) (g.met.D.Disk.is_tree c.make_beside.new.disk told)
    (rw c.in-Some.is at (c.in_ok-made.ensures.made told))

pub returns-in_err-made-clause-free : goal.returns-in_err-made-clause-free
returns-in_err-made-clause-free g c = λ told. beside_free _ (g.D.Disk.state c.args.disk.now) (g.D.Disk.state c.make_beside.new.disk) (c.make_beside.ensures.left told)

pub returns-in-Some-clause-free : goal.returns-in-Some-clause-free
returns-in-Some-clause-free g c = λ told. beside_free _ (g.D.Disk.state c.args.disk.now) (g.D.Disk.state c.make_beside.new.disk) (c.make_beside.ensures.left told)

pub returns-in_err-new-in-None-clause-free : goal.returns-in_err-new-in-None-clause-free
returns-in_err-new-in-None-clause-free g c = λ told. beside_free _ (g.D.Disk.state c.args.disk.now) (g.D.Disk.state c.make_beside.new.disk) (c.make_beside.ensures.left told)

pub returns-clause-free : goal.returns-clause-free
returns-clause-free g c = λ told. beside_free _ (g.D.Disk.state c.args.disk.now) (g.D.Disk.state c.make_beside.new.disk) (c.make_beside.ensures.left told)

pub returns-in_err-made-clause-fails : goal.returns-in_err-made-clause-fails
returns-in_err-made-clause-fails g c =
    told_on _ c.from_residual-in_err-made.result _ c.from_residual-in_err-made.ensures.1
    (writing_fails g.D.Disk.tells (g.D.Disk.state c.args.disk.now) (g.D.Disk.state c.make_beside.new.disk) c.args.path.now c.in_err-made.field-0.0 c.in_err-made.ensures.cause)

pub returns-clause-fails : goal.returns-clause-fails
returns-clause-fails g c = (
  (λ told. (
    folder_text_is (g.D.Disk.state c.args.disk.now).tree c.args.path.now c.args.path.now c.folder_path.result.now c.in_ok-new-in-None.field-0 (c.requires.beside told) refl c.folder_path.ensures c.in_ok-new-in-None.ensures,
    (rw c.in-None.is at (c.in_ok-made.ensures.none_free told)),
  )),
  (λ untold. rw c.in-None.is at (c.in_ok-made.ensures.risen untold)),
)
