use Rattle.std.proofs.Common.{◌<◌, arith}
use Rattle.std.specs.Char.{is_ascii_digit}
use Rattle.unicode.specs.Binary.{is_white_space}
use Rattle.pattern_syntax.proofs.runs.RunLemmas.{run_at}
use Rattle.pattern_syntax.proofs.repetitions.NumberLemmas.{no_digits, large_digits, number_at}
use Rattle.pattern_syntax.proofs.repetitions.read_number.Goals as goal

pub returns-then-start-end : goal.returns-then-start-end
returns-then-start-end c =
    no_digits c.args.text.now c.args.at c.behind-start.result c.behind-end.result
    (run_at is_white_space c.args.text.now c.args.at c.behind-start.result c.behind-start.ensures.onward c.behind-start.ensures.left)
    (run_at is_ascii_digit c.args.text.now c.behind-start.result c.behind-end.result c.behind-end.ensures.onward c.behind-end.ensures.left)
    c.if-start-end.true

pub number_of-requires : goal.number_of-requires
number_of-requires c =
    (run_at is_ascii_digit c.args.text.now c.behind-start.result c.behind-end.result c.behind-end.ensures.onward c.behind-end.ensures.left).passes

pub returns-in_err-number : goal.returns-in_err-number
returns-in_err-number c =
    rw c.from_residual.ensures
    (large_digits c.args.text.now c.args.at c.behind-start.result c.behind-end.result
    (run_at is_white_space c.args.text.now c.args.at c.behind-start.result c.behind-start.ensures.onward c.behind-start.ensures.left)
    (run_at is_ascii_digit c.args.text.now c.behind-start.result c.behind-end.result c.behind-end.ensures.onward c.behind-end.ensures.left)
    c.in_err-number.ensures)

pub returns : goal.returns
returns c =
    let lt : c.behind-start.result < c.behind-end.result = omega arith in
    number_at c.args.text.now c.args.at c.behind-start.result c.behind-end.result c.behind.result c.in_ok-number.number
    c.behind-start.ensures.onward lt c.behind.ensures.onward c.behind.ensures.within
    (run_at is_white_space c.args.text.now c.args.at c.behind-start.result c.behind-start.ensures.onward c.behind-start.ensures.left)
    (run_at is_ascii_digit c.args.text.now c.behind-start.result c.behind-end.result c.behind-end.ensures.onward c.behind-end.ensures.left)
    (run_at is_white_space c.args.text.now c.behind-end.result c.behind.result c.behind.ensures.onward c.behind.ensures.left)
    c.in_ok-number.ensures.0 c.in_ok-number.ensures.1
