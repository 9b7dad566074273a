use Rattle.std.proofs.Common.{◌||◌, sym, ap, ap₂, subst, ◌∙◌}
use Rattle.unicode.specs.CaseFolding.{fold_pairs}
use Rattle.regex_class.specs.Ranges.{in_ranges, in_image, KeysRise}
use Rattle.pattern_syntax.proofs.FoldLemmas.{fold_pairs_rise, image_is}
use Rattle.pattern_syntax.proofs.folding.folded.Goals as goal

pub append_image-requires : goal.append_image-requires
append_image-requires c = subst KeysRise (sym c.fold_pairs.ensures.table) fold_pairs_rise

pub returns : goal.returns
returns c =
    let own = c.args.class.now.ranges.items in
    let copied = c.in_ok-ranges.ensures.items ∙ c.deref.ensures.value in
    λ x le.
    c.in_ok-new.ensures x le ∙ c.in_ok-append_image.ensures.members x
    ∙ ap₂ (λ ranges pairs. in_ranges ranges x || in_image pairs own x) copied c.fold_pairs.ensures.table
    ∙ ap (λ led. in_ranges own x || led) (image_is fold_pairs own x)
