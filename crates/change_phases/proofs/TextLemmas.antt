-- A text is that of one journal.
use Rattle.std.proofs.Common.{◌≡◌, List, refl}
use Rattle.std.specs.List.{AllByRecursion}
use Rattle.journal_text.specs.declared.line.Line.{Line}
use Rattle.journal_text.specs.Journal.{IsLine, text_of}
use Rattle.journal_text.proofs.ReadLemmas.{text_tells}

pub same_lines : (one other : List Line) → AllByRecursion IsLine one → AllByRecursion IsLine other → text_of one ≡ text_of other → one ≡ other
same_lines one other are also e =
    text_tells (text_of one) one other (record { are_lines = are; text_is = refl }) (record { are_lines = also; text_is = e })
