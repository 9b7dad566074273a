-- A reference as the code holds it.
use Rattle.grep_matcher.specs.References.{Target, number, named, Reference}
use Rattle.grep_matcher.specs.declared.references.Ref.{Ref}
use Rattle.grep_matcher.specs.declared.references.Ref.TheVariants.{Named, Number}
use Rattle.grep_matcher.specs.declared.references.CaptureRef.{CaptureRef}

-- what it names
abbrev pub target_of : Ref → Target
target_of (Named name) = named name.now
target_of (Number i) = number i

-- what it names, and the number of bytes that it takes
abbrev pub reference_of : CaptureRef → Reference
reference_of reference = record { target = target_of reference.cap; width = reference.end }
