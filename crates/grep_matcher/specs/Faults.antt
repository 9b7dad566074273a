-- Why a replacing call fails.
use Rattle.std.specs.Prelude.{⊤}
use Rattle.grep_matcher.specs.declared.fault.Fault.{Fault}
use Rattle.grep_matcher.specs.declared.fault.Fault.TheVariants.{Matcher, NoMemory}

-- A fault of the matcher is an error that it may fail with. Want of memory may come at any time.
abbrev pub IsCaused : {E : Type 0} → (E → Type 0) → Fault E → Type 0
IsCaused may_fail (Matcher error) = may_fail error
IsCaused may_fail NoMemory = ⊤
