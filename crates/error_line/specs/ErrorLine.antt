-- The line of an error, and how it is printed.
use Rattle.std.specs.Prelude.{◌≡◌, ◌≤◌, ℕ, IsTrue, IsErr, List, ◌++◌, Result, OnOk, OnErr, codes}
use Rattle.sd_io.specs.Streams.{SinkState}
use Rattle.sd_io.specs.declared.fault.Failed.{Failed}
use Rattle.sd_course.specs.Course.{Course, SinkFailed, AppendsPrefix}

abbrev pub error_line : List ℕ → List ℕ
error_line text = codes "error: " ++ text ++ codes "\n"

-- some bytes came after what was held
abbrev pub AppendsSome : List ℕ → List ℕ → Type 0
AppendsSome held new_held = (bytes : List ℕ) × (new_held ≡ held ++ bytes)

-- A sink that tells its bytes grew by these; or it is refused with a counted fault, after a prefix of them.
pub record Writes (bytes : List ℕ) (result : Result (Unit {0}) Failed) (err : Course SinkState) : Type 0 where
  pub written : IsTrue err.tells → OnOk result (err.new.held ≡ err.old.held ++ bytes)
  pub refused : IsTrue err.tells → OnErr result (AppendsPrefix err.old.held bytes err.new.held)
  pub never_falls : err.old.faults ≤ err.new.faults
  pub cause : IsErr result → SinkFailed err

-- the line of this text is written
abbrev pub PrintsText : List ℕ → Result (Unit {0}) Failed → Course SinkState → Type 0
PrintsText text = Writes (error_line text)

-- the line of some text or other is
abbrev pub PrintsSome : Result (Unit {0}) Failed → Course SinkState → Type 0
PrintsSome result err = (text : List ℕ) × PrintsText text result err
