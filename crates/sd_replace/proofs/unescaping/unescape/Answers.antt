use Rattle.std.proofs.Common.{◌≡◌, ◌∙◌, chars, subst, rules, IfOk}
use Rattle.std.proofs.lemmas.Str.{chars_from_encodes}
use Rattle.sd_replace.specs.Unescaped.{unescaped_characters}
use Rattle.sd_replace.proofs.unescaping.unescape.Goals as goal

pub returns : goal.returns
returns c =
    let characters : c.in_ok-characters.characters.items ≡ chars c.args.s.now = search (rules, chars_from_encodes) in
    subst (λ cs. IfOk c.unescape_characters.result (λ text. text ≡ unescaped_characters cs)) (c.deref.ensures.value ∙ characters) c.unescape_characters.ensures
