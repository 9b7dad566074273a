use Rattle.change_phases.proofs.StepLemmas.{placed, placed_free, placed_new, placed_stays, put_new, put_stays, placed_already}
use Rattle.change_phases.proofs.phases.a_file_is_put_in_place.Goals as goal

pub returns-clause-passes : goal.returns-clause-passes
returns-clause-passes c = λ work lines old new f is is_for holds is_in has leaves. placed work is lines is_for old holds is_in new f has leaves

pub returns-clause-new : goal.returns-clause-new
returns-clause-new c = λ work lines old new f is is_for holds is_in has durable. placed_new work is lines is_for old holds is_in new f has durable

pub returns-clause-stays : goal.returns-clause-stays
returns-clause-stays c = λ work lines old new f g is is_for holds is_in has has_g durable only. placed_stays work is lines is_for old holds is_in new f g has has_g durable only

pub returns-clause-already : goal.returns-clause-already
returns-clause-already c = λ work lines old new path f mode is is_for holds is_in has synced name at settled stands.
    placed_already work is lines is_for old holds is_in new path f mode has synced name at settled stands

pub returns-clause-passes_free : goal.returns-clause-passes_free
returns-clause-passes_free c = λ work lines old new f is is_for holds is_in has since. placed_free work is lines is_for old holds is_in new f has since

pub returns-clause-put_new : goal.returns-clause-put_new
returns-clause-put_new c = λ work lines old new f is is_for holds is_in has put settled bytes. put_new work is lines is_for old holds is_in new f has put settled bytes

pub returns-clause-put_stays : goal.returns-clause-put_stays
returns-clause-put_stays c = λ work lines old new f g is is_for holds is_in has has_g put new_there only. put_stays work is lines is_for old holds is_in new f g has has_g put new_there only
