use Rattle.std.proofs.Common.{[]}
use Rattle.walk_rest.proofs.laws.MoveLemmas.{entered_unread}
use Rattle.walk_rest.proofs.laws.an_unread_directory_is_due_whole.Goals as goal

pub returns : goal.returns
returns c = λ state manner root levels below top opened contents h is first unread none_due inner. entered_unread state manner root [] levels below top opened contents h is first unread none_due inner
