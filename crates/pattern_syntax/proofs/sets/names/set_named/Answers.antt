use Rattle.std.proofs.Common.{map, option_map, sym, ap, ◌∙◌}
use Rattle.pattern_syntax.specs.Sets.{value_of}
use Rattle.pattern_syntax.proofs.sets.NameLemmas.{found_ranges, seen_through}
use Rattle.pattern_syntax.proofs.sets.names.set_named.Goals as goal

pub returns-in_ok-from_ranges-in-Some : goal.returns-in_ok-from_ranges-in-Some
returns-in_ok-from_ranges-in-Some c =
    found_ranges c.in_ok-from_ranges-in-Some.field-0 c.in-Some.ranges.now (value_of (map (λ row. (row.0.now, row.1.now)) c.args.rows.now) c.args.name.now)
    (ap (option_map (λ found. found.now)) c.in-Some.ensures
    ∙ seen_through (λ row. row.0.now) (λ row. row.1) (λ found. found.now) c.args.rows.now c.args.name.now)
    c.in_ok-from_ranges-in-Some.ensures

pub returns-in-None : goal.returns-in-None
returns-in-None c =
    sym (ap (option_map (λ found. found.now)) c.in-None.ensures
    ∙ seen_through (λ row. row.0.now) (λ row. row.1) (λ found. found.now) c.args.rows.now c.args.name.now)
