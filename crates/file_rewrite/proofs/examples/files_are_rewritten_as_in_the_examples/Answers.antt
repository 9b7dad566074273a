use Rattle.std.proofs.Common.{refl, inl}
use Rattle.std.specs.Prelude.{codes}
use Rattle.file_rewrite.proofs.examples.files_are_rewritten_as_in_the_examples.Goals as goal

pub returns-clause-new : goal.returns-clause-new
returns-clause-new c = λ old now was holds. record {
  bytes = codes "one two one";
  mode = 416;
  was = was;
  new_bytes = codes "1 two 1";
  count = 2;
  new_bytes_are = inl (refl, refl, refl);
  holds = holds;
}
