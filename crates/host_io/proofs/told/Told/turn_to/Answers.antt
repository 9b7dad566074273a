use Rattle.std.proofs.Common.{refl}
use Rattle.host_io.proofs.told.Told.turn_to.Goals as goal

pub returns-in_err-push_str-clause-no_more : goal.returns-in_err-push_str-clause-no_more
returns-in_err-push_str-clause-no_more c path meta is =
    absurd (c.forget.ensures.nothing _ meta (record { entry = is.entry; is_entry = is.is_entry; not_asked = is.not_asked; is_meta = is.is_meta; is_path = refl }))

pub returns-in_ok-push_str-clause-no_more : goal.returns-in_ok-push_str-clause-no_more
returns-in_ok-push_str-clause-no_more c path meta is =
    absurd (c.forget.ensures.nothing _ meta (record { entry = is.entry; is_entry = is.is_entry; not_asked = is.not_asked; is_meta = is.is_meta; is_path = refl }))
