use Rattle.std.proofs.Common.{◌∙◌, sym}
use Rattle.journal.proofs.ReadingLemmas.{top_path, folder_path_is}
use Rattle.journal.proofs.reading.journal_path.Goals as goal
use Rattle.journal.proofs.reading.journal_path.Goals.{in-text, in_default}

pub returns-clause-path : goal.returns-clause-path
returns-clause-path g c =
    λ told folder leads.
    let s = g.D.Disk.state c.args.disk.now in
    let is = g.met.D.Disk.is_tree c.args.disk.now told in
    let resolves = c.in_ok-folder.ensures.answer told in
    let same = c.as_str.ensures.same in
    elim c.match-as_str.branch [
      | in-text w ↦
          c.from.ensures ∙ (rw w.folder-is at c.in_ok-format.ensures.ok) ∙ top_path s c.args.root.now c.in_ok-folder.folder folder is resolves leads (sym same ∙ w.in-text.is)
      | in_default w ↦
          c.from.ensures ∙ (rw (w.folder-is, same) at c.in_ok-format.ensures.ok)
          ∙ folder_path_is s c.args.root.now c.in_ok-folder.folder folder resolves leads (λ slash. w.in_default.not-text (same ∙ slash))
    ]
