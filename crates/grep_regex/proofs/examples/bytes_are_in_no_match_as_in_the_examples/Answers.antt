use Rattle.std.proofs.Common.{refl, inl, arith}
use Rattle.std.proofs.Math.Utf8.{encode}
use Rattle.std.proofs.lemmas.Bool.Decides.{nat_tests}
use Rattle.grep_regex.proofs.examples.bytes_are_in_no_match_as_in_the_examples.Goals as goal

pub returns-clause-encoded : goal.returns-clause-encoded
unfolding encode
returns-clause-encoded c = λ h. h.1 (0xE9, grind (arith, nat_tests), inl (omega arith, omega arith), (1, omega arith, refl))
