use Rattle.change_phases.proofs.PhaseLemmas.{between_in, passes_between, still_in, between_then, between_image, passes_same}
use Rattle.change_phases.proofs.phases.images_of_a_phase_are_between.Goals as goal

pub returns-clause-image : goal.returns-clause-image
returns-clause-image c = λ phase work lines image is may. between_in work lines image phase is may

pub returns-clause-passing : goal.returns-clause-passing
returns-clause-passing c = λ phase work lines old new is passes. (passes_between phase work lines old new is passes, still_in phase work lines old new passes)

pub returns-clause-onward : goal.returns-clause-onward
returns-clause-onward c = between_then

pub returns-clause-since : goal.returns-clause-since
returns-clause-since c = between_image

pub returns-clause-unchanged : goal.returns-clause-unchanged
returns-clause-unchanged c = passes_same
