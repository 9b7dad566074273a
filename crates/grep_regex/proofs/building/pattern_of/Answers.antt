use Rattle.std.proofs.Common.{ap, map, ◌∙◌}
use Rattle.std.proofs.lemmas.Result.{err_from_is_err_and}
use Rattle.hir_tree.specs.Tree.{tree_of}
use Rattle.grep_regex.specs.Options.{edged, terminator}
use Rattle.grep_regex.specs.Stripping.{stripped}
use Rattle.grep_regex.proofs.building.BuildingLemmas.{refused_ban, refused_size, refused_strip}
use Rattle.grep_regex.proofs.building.pattern_of.Goals as goal

pub returns-in_err-check_ban_byte-clause-refused : goal.returns-in_err-check_ban_byte-clause-refused
returns-in_err-check_ban_byte-clause-refused c =
    let p = err_from_is_err_and c.from_residual-in_err-check_ban_byte.result c.from_residual-in_err-check_ban_byte.ensures.1 in
    rw (p.1, p.2)
    (refused_ban c.args.options.now c.args.patterns.now (map tree_of c.in_ok-hirs.hirs.items) (tree_of c.in_ok-together.together) _
    (record { ascii = c.in_ok-check_terminator.ensures.ascii; are = c.in_ok-hirs.ensures.trees; single = c.in_ok-hirs.ensures.single })
    c.in_ok-together.ensures c.in_err-check_ban_byte.ensures.refused)

pub returns-in_err-stripped-clause-refused : goal.returns-in_err-stripped-clause-refused
returns-in_err-stripped-clause-refused c =
    let p = err_from_is_err_and c.from_residual-in_err-stripped.result c.from_residual-in_err-stripped.ensures.1 in
    rw (p.1, p.2)
    (refused_strip c.args.options.now c.args.patterns.now (map tree_of c.in_ok-hirs.hirs.items) (tree_of c.in_ok-together.together) _
    (record { ascii = c.in_ok-check_terminator.ensures.ascii; are = c.in_ok-hirs.ensures.trees; single = c.in_ok-hirs.ensures.single })
    c.in_ok-together.ensures c.in_ok-check_ban_byte.ensures.unbanned c.in_err-stripped.ensures.refused)

pub returns-in_err-check_size-clause-refused : goal.returns-in_err-check_size-clause-refused
returns-in_err-check_size-clause-refused c =
    let o = c.args.options.now in
    let p = err_from_is_err_and c.from_residual-in_err-check_size.result c.from_residual-in_err-check_size.ensures.1 in
    rw (p.1, p.2)
    (refused_size o c.args.patterns.now (map tree_of c.in_ok-hirs.hirs.items) (tree_of c.in_ok-together.together) (tree_of c.in_ok-whole.whole) _
    (record { ascii = c.in_ok-check_terminator.ensures.ascii; are = c.in_ok-hirs.ensures.trees; single = c.in_ok-hirs.ensures.single })
    c.in_ok-together.ensures c.in_ok-check_ban_byte.ensures.unbanned c.in_ok-stripped.ensures.allowed
    (c.in_ok-whole.ensures
    ∙ ap (edged o) c.in_ok-stripped.ensures.stripped
    ∙ ap (λ tree. edged o (stripped (terminator o) tree)) c.in_ok-together.ensures)
    c.in_err-check_size.ensures.refused)
