use Rattle.std.proofs.Common.{refl, None}
use Rattle.walk_rest.specs.declared.level.Entries.TheVariants.{Unread}
use Rattle.walkdir.proofs.walk_dir.WalkDir.begun.Goals as goal

pub returns : goal.returns
returns g c = record {
  options_are = refl;
  order_is = refl;
  root_is = refl;
  lower = c.new.ensures.items;
  top = record { folder = None; first = None; entries = Unread; faults = c.new-2.result };
  on_top = refl;
  unread = record { folder_is = refl; first = refl; unread = refl; faultless = c.new-2.ensures.items };
}
