use Rattle.std.proofs.Common.{◌≢◌, ◌⊎◌, ◌∙◌, true, ap, sym, subst, arith}
use Rattle.sd_io.specs.declared.meta.Kind.TheVariants as kinds
use Rattle.sd_io.specs.Tree.{Tree}
use Rattle.sd_io.specs.Paths.{reached}
use Rattle.sd_io.specs.Files.{LeadsNowhere, file_of}
use Rattle.sd_io.specs.Lists.{IsNoDirectory, directory_of}
use Rattle.journal.specs.Reading.{ReadsJournal, HoldsNoJournal, AreStagesThere}
use Rattle.journal.proofs.ReadingLemmas.{none_stands, can_be_read, journal_stands, reads_root, other_stands, is_directory_there, leads_somewhere, look_fails, journal_fails, stages_fail, refused_as}
use Rattle.journal.proofs.reading.read_in_root.Goals as goal

pub returns-in_err-kind-clause-fails : goal.returns-in_err-kind-clause-fails
returns-in_err-kind-clause-fails g c =
    let root = c.args.root.now in
    let s = g.D.Disk.state c.args.disk.now in
    refused_as _ c.from_residual.result _ c.from_residual.ensures.1
    (look_fails g.D.Disk.tells s s (g.D.Disk.state c.find_entry.new.disk) root (IsNoDirectory s root) (omega arith) (λ told none. is_directory_there s.tree root (c.requires told) none)
    c.in_err-kind.field-0.0 c.in_err-kind.ensures.fails)

pub returns-in_default-clause-read : goal.returns-in_default-clause-read
returns-in_default-clause-read g c =
    λ told. none_stands (g.D.Disk.state c.args.disk.now).tree c.args.root.now (rw c.in_default.is at (c.in_ok-kind.ensures.found told))

pub returns-in_err-path-clause-fails : goal.returns-in_err-path-clause-fails
returns-in_err-path-clause-fails g c =
    let root = c.args.root.now in
    let s = g.D.Disk.state c.args.disk.now in
    let s1 = g.D.Disk.state c.find_entry.new.disk in
    refused_as _ c.from_residual-in_err-path.result _ c.from_residual-in_err-path.ensures.1
    (look_fails g.D.Disk.tells s s1 (g.D.Disk.state c.journal_path.new.disk) root (LeadsNowhere s1 root true) c.find_entry.ensures.never_falls
    (λ told none. leads_somewhere s.tree root (c.requires told) (ap (λ (t : Tree). reached t root true) (sym c.find_entry.ensures.tree.tree) ∙ none))
    c.in_err-path.field-0.0 c.in_err-path.ensures.fails)

pub returns-in_err-journal-clause-fails : goal.returns-in_err-journal-clause-fails
returns-in_err-journal-clause-fails g c =
    let root = c.args.root.now in
    let s = g.D.Disk.state c.args.disk.now in
    let s2 = g.D.Disk.state c.journal_path.new.disk in
    let path = c.as_str.result.now in
    let kind = c.in-Some.kind in
    let first = c.find_entry.ensures.tree.tree in
    let same = c.journal_path.ensures.tree.tree ∙ first in
    let rose = rw c.in-Some.is at c.in_ok-kind.ensures.listed in
    let finds_if = rw c.in-Some.is at c.in_ok-kind.ensures.found in
    let low_first = c.find_entry.ensures.never_falls in
    let low_then = c.journal_path.ensures.never_falls in
    let listed_then = c.journal_path.ensures.lists.listed in
    let listed_last = c.read_standing.ensures.lists.listed in
    refused_as _ c.from_residual-in_err-journal.result _ c.from_residual-in_err-journal.ensures.1
    (journal_fails g.D.Disk.tells s s2 (g.D.Disk.state c.read_standing.new.disk) root path kind (omega (arith, low_first, low_then)) (omega (arith, rose, listed_then, listed_last))
    (λ told is none.
    let finds = finds_if told in
    let path_is = c.as_str.ensures.same ∙ c.in_ok-path.ensures.path told finds.folder (ap (λ (t : Tree). directory_of t root) first ∙ finds.leads) in
    can_be_read s.tree (g.met.D.Disk.is_tree c.args.disk.now told) root kind finds path path_is is (ap (λ (t : Tree). file_of t path) (sym same) ∙ none))
    (λ told why.
    let finds = finds_if told in
    let path_is = c.as_str.ensures.same ∙ c.in_ok-path.ensures.path told finds.folder (ap (λ (t : Tree). directory_of t root) first ∙ finds.leads) in
    other_stands s.tree (g.met.D.Disk.is_tree c.args.disk.now told) root kind finds path path_is (subst (λ (t : Tree). (kind ≢ kinds.File) ⊎ HoldsNoJournal t path) same why))
    c.in_err-journal.field-0.0 c.in_err-journal.ensures.fails)

pub returns-in_err-check_stages-clause-fails : goal.returns-in_err-check_stages-clause-fails
returns-in_err-check_stages-clause-fails g c =
    let root = c.args.root.now in
    let s = g.D.Disk.state c.args.disk.now in
    let s3 = g.D.Disk.state c.read_standing.new.disk in
    let path = c.as_str.result.now in
    let kind = c.in-Some.kind in
    let lines = c.in_ok-journal.journal in
    let first = c.find_entry.ensures.tree.tree in
    let to_path = c.journal_path.ensures.tree.tree ∙ first in
    let same = c.read_standing.ensures.tree.tree ∙ to_path in
    let finds_if = rw c.in-Some.is at c.in_ok-kind.ensures.found in
    let low_first = c.find_entry.ensures.never_falls in
    let low_then = c.journal_path.ensures.never_falls in
    let low_last = c.read_standing.ensures.never_falls in
    refused_as _ c.from_residual-in_err-check_stages.result _ c.from_residual-in_err-check_stages.ensures.1
    (stages_fail g.D.Disk.tells s s3 (g.D.Disk.state c.check_stages.new.disk) root lines (λ told. same) (omega (arith, low_first, low_then, low_last))
    (λ told.
    let finds = finds_if told in
    let path_is = c.as_str.ensures.same ∙ c.in_ok-path.ensures.path told finds.folder (ap (λ (t : Tree). directory_of t root) first ∙ finds.leads) in
    journal_stands s.tree (g.met.D.Disk.is_tree c.args.disk.now told) root kind finds path path_is lines c.in_ok-journal.ensures.is_file
    (subst (λ (t : Tree). ReadsJournal t path lines) to_path (c.in_ok-journal.ensures.read told)))
    c.in_err-check_stages.field-0.0 c.in_err-check_stages.ensures.fails)

pub returns-clause-read : goal.returns-clause-read
returns-clause-read g c =
    λ told.
    let root = c.args.root.now in
    let s = g.D.Disk.state c.args.disk.now in
    let path = c.as_str.result.now in
    let kind = c.in-Some.kind in
    let lines = c.in_ok-journal.journal in
    let first = c.find_entry.ensures.tree.tree in
    let to_path = c.journal_path.ensures.tree.tree ∙ first in
    let same = c.read_standing.ensures.tree.tree ∙ to_path in
    let finds = rw c.in-Some.is at (c.in_ok-kind.ensures.found told) in
    let own_is = c.in_ok-path.ensures.path told finds.folder (ap (λ (t : Tree). directory_of t root) first ∙ finds.leads) in
    reads_root s.tree (g.met.D.Disk.is_tree c.args.disk.now told) root kind finds path (c.as_str.ensures.same ∙ own_is) lines c.in_ok-path.path own_is c.in_ok-journal.ensures.is_file
    (subst (λ (t : Tree). ReadsJournal t path lines) to_path (c.in_ok-journal.ensures.read told)) (subst (λ (t : Tree). AreStagesThere t lines) same (c.in_ok-check_stages.ensures.there told))
