-- What is known after a crash.
use Rattle.std.proofs.Common.{◌≡◌, sym, ◌∙◌, subst, inl, inr, arith}
use Rattle.std.specs.Prelude.{Option, Some, None}
use Rattle.sd_io.specs.Tree.{NameList, Content, Node, Tree, node_at}
use Rattle.sd_io.specs.Outcomes.{Leaves, content_at, content_of}
use Rattle.sd_io.specs.Disk.{DiskState, outcomes_now}
use Rattle.sd_io.specs.Crashes.{IsSettledAt}
use Rattle.sd_io.proofs.OutcomeLemmas.{leaves_own}
use Rattle.change_phases.specs.Between.{stage_of, Work, journal_of, IsNew, HoldsBytes, Between, LeavesBetween, AllOld, AllNew}
use Rattle.change_phases.specs.Recovery.{AreSettled, IsRecoverable, StandsAfter}

-- ---- only contents count

module _ (work : Work) (a b : Tree) (same : (q : NameList) → content_at b q ≡ content_at a q) where
  old_alike : AllOld work a → AllOld work b
  old_alike old f has = same f.0 ∙ old f has

  new_alike : AllNew work a → AllNew work b
  new_alike new f has = subst (IsNew work f) (sym (same f.0)) (new f has)

  pub between_alike : Between work a → Between work b
  between_alike x = record {
    elsewhere = λ q e. same q ∙ x.elsewhere q e;
    state = elim x.state [
      | inl whole ↦ inl (record {
        no_journal = same (journal_of work) ∙ whole.no_journal;
        files = elim whole.files [ inl old ↦ inl (old_alike old) | inr new ↦ inr (new_alike new) ];
      })
      | inr u ↦ inr (record {
        lines = u.lines;
        is_for = u.is_for;
        journal = (u.journal.0, same (journal_of work) ∙ u.journal.1);
        stages = λ line f l has of. subst (HoldsBytes f.1) (sym (same (stage_of line))) (u.stages line f l has of);
        files = λ f has. elim (u.files f has) [ inl old ↦ inl (same f.0 ∙ old) | inr new ↦ inr (subst (IsNew work f) (sym (same f.0)) new) ];
      })
    ];
  }

module _ (work : Work) (image : Tree) (after : DiskState) (is : StandsAfter image after) where
  settled_there : (q : NameList) → IsSettledAt after q
  settled_there q found l = is.on_medium q found (leaves_own (outcomes_now after q) found l)

  pub recoverable_after : Between work image → IsRecoverable work after
  recoverable_after b = record {
    images = λ other may. between_alike work image other (λ q. is.on_medium q (content_at other q) (may q) ∙ is.stands q) b;
    settled = record { files = λ f has. settled_there f.0; journal = settled_there (journal_of work) };
  }

pub recoverable_now : (work : Work) (s t : DiskState) → LeavesBetween work s t → AreSettled work t → IsRecoverable work t
recoverable_now work s t leaves settled = record {
  images = λ image may. leaves.each t.clock leaves.later (omega arith) image may;
  settled = settled;
}
