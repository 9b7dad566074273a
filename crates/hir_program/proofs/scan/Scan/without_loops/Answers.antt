use Rattle.std.proofs.Common.{◌≡◌, ℕ, List, Some, rules, subst}
use Rattle.std.specs.Prelude.{IfSome}
use Rattle.hir_program.specs.Scan.{IsRequiredOf, TellsStops}
use Rattle.hir_program.proofs.scan.prefilter.PrefilterLemmas.{prefilter_of}
use Rattle.hir_program.proofs.scan.Scan.without_loops.Goals as goal

pub returns : goal.returns
returns c =
    let start : ℕ = c.in_ok-start.start in
    let wide : ℕ = c.wide-wide.result in
    let look = c.last_look-last_look.result in
    let required = c.rarest-required.result in
    let prefilter = c.worth_while-prefilter.result in
    record {
      few = search rules;
      takers = search rules;
      takes = search rules;
      takes_no_more = search rules;
      follows = search rules;
      moves = search rules;
      wide = search rules;
      start = search rules;
      firsts = search rules;
      own = search rules;
      first = search rules;
      loops = c.none.ensures c.args.spots.now;
      entry = search rules;
      prefilter =
          prefilter_of c.in_ok-after.after.items c.in_ok-takes.takes.items start wide required prefilter
          (subst (λ (rows : List ℕ). IfSome required (λ k. IsRequiredOf rows start k)) c.as_slice-11.ensures.value c.rarest-required.ensures)
          look (subst (λ (takes : List ℕ). IfSome prefilter (λ k. (required ≡ Some k.required) × TellsStops takes wide look k.required k.stops)) c.as_slice-12.ensures.value
          c.worth_while-prefilter.ensures)
          c.args.spots.now c.in-Some-Some.of.items (search rules) (search rules);
    }
