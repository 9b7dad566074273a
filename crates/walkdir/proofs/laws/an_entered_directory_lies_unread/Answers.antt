use Rattle.std.proofs.Common.{refl}
use Rattle.walkdir.proofs.laws.CallsLemmas.{top_unread, unread_top}
use Rattle.walkdir.proofs.laws.an_entered_directory_lies_unread.Goals as goal

pub returns : goal.returns
returns g c = λ old new sorts by rest entry now step. (
  λ next. unread_top now.top ((step.enters entry refl).0 next),
  λ lies. (step.enters entry refl).1 (top_unread now.top lies),
)
