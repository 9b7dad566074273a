use Rattle.std.proofs.Common.{◌≡◌, rules, tests, sym, ap, ◌∙◌}
use Rattle.std.specs.Prelude.{option_map}
use Rattle.std.specs.List.{find}
use Rattle.std.proofs.lemmas.Iterator.{YieldsList-from_slice}
use Rattle.std.proofs.lemmas.Iterator.Search.{find_from_yields_List}
use Rattle.grep_regex.proofs.names.NumbersLemmas.{is_named, number-first}
use Rattle.grep_regex.proofs.names.number_of.Goals as goal

pub returns-in_err-named : goal.returns-in_err-named
returns-in_err-named c =
    let names = c.args.names.now in
    let name = c.args.name.now in
    let found : option_map (λ named. named.now) c.find.result ≡ find (is_named name) names =
    find_from_yields_List (is_named name) _ _ c.find.result c.find.ensures.ran (YieldsList-from_slice names cc) (λ x b q k. search (rules, tests)) in
    c.from_residual.ensures ∙ sym (number-first names name ∙ ap (option_map (λ named. named.group)) (sym found) ∙ ap (λ o. option_map (λ named. named.group) (option_map (λ named. named.now) o)) c.in_err-named.was)

pub returns : goal.returns
returns c =
    let names = c.args.names.now in
    let name = c.args.name.now in
    let found : option_map (λ named. named.now) c.find.result ≡ find (is_named name) names =
    find_from_yields_List (is_named name) _ _ c.find.result c.find.ensures.ran (YieldsList-from_slice names cc) (λ x b q k. search (rules, tests)) in
    sym (number-first names name ∙ ap (option_map (λ named. named.group)) (sym found) ∙ ap (λ o. option_map (λ named. named.group) (option_map (λ named. named.now) o)) c.in_ok-named.was)
