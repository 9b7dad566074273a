-- Worked readings, by computation.
use Rattle.std.proofs.Common.{ℕ, Bool, List, true, false, [], ◌∷◌, ◌++◌, codes, Some, None, refl}
use Rattle.hir_tree.specs.declared.look.Look.TheVariants as look
use Rattle.ucd_case.specs.CaseFolding.{fold_pairs}
use Rattle.ucd_case.specs.FoldOtherRows.{fold_other_rows}
use Rattle.ucd_props.proofs.Computing.{ucd_props}
use Rattle.ucd_perl.proofs.Computing.{ucd_perl}
use Rattle.ucd_category.proofs.Computing.{ucd_category}
use Rattle.ucd_sets.specs.Sets.{in_set}
use Rattle.unicode.specs.Perl.{is_space_char}
use Rattle.pattern_syntax.specs.Flags.{white, comment}
use Rattle.pattern_syntax.specs.Atom.{character, escaped, control, coded, braced, octal, perl, category, category_braced}
use Rattle.pattern_syntax.specs.Class.{Head, close, pass as in_class, one, range, named as ascii_name, nested, operation, both, minus, either}
use Rattle.pattern_syntax.specs.Syntax.{Syntax, Single, Count, Repeated, end, bar, pass, set, single, group, atom, dot, caret, dollar, look as look_at, class, text_start, text_end, edge, no_edge, word_start, half_end, left, right, optional, star, plus, exactly, at_least, between, numbered, named, flagged}
use Rattle.pattern_syntax.specs.Examples.{empty, literal, chars, bytes, looks, repetition, capture, row, choice, plain, of_bytes, with_lines, with_crlf, with_crlf_lines, with_dot_all, with_spaces, with_octal, IsReadAs}

-- `unfolding computing` opens the tables
unfoldable pub computing : Unit {0}
unfolding fold_pairs fold_other_rows ucd_props ucd_perl ucd_category in_set is_space_char lib.Utf8.encode
computing = tt

-- a character that stands for itself, once, before what follows
abbrev letter : ℕ → Syntax → Syntax
letter c p = single (atom (character c)) [] p

-- that alone, once
abbrev only : Single → Syntax
only s = single s [] end

-- one repetition, without blanks
abbrev repeated : Count → Bool → List Repeated
repeated n swaps = record { before = []; count = n; gap = []; swaps = swaps } ∷ []

-- `[`, and `[^`, without leading members
abbrev plain_head : Head
plain_head = record { negated = None; dashes = []; bracket = None }

abbrev negated_head : Head
negated_head = record { negated = Some []; dashes = []; bracket = None }

-- ``
pub groups-no_text : IsReadAs plain [] empty 0 0 []
unfolding computing
groups-no_text = (end, tt, refl, refl, refl, refl, refl)

-- `(?i)a`
pub groups-flags_alone : IsReadAs plain (codes "(?i)a") (row (empty ∷ chars (codes "aA") ∷ [])) 1 0 (codes "a")
unfolding computing
groups-flags_alone = (
  (set [] (record { on = (codes "i"); off = None }) (letter 97 end)),
  (tt, (refl, refl), refl, (refl, tt, tt)),
  refl,
  refl,
  refl,
  refl,
  refl,
)

-- `(a(?i)b|c)d`
pub groups-flags_over_branches : IsReadAs plain (codes "(a(?i)b|c)d")
    (row (capture 1 None (choice (row (literal (codes "a") ∷ empty ∷ chars (codes "bB") ∷ []) ∷ chars (codes "c") ∷ [])) ∷ literal (codes "d") ∷ []))
    4 1 (codes "abcd")
unfolding computing
groups-flags_over_branches = (
  (group numbered (letter 97 (set [] (record { on = (codes "i"); off = None }) (letter 98 (bar (letter 99 end))))) []
      (letter 100 end)),
  (tt, (refl, tt, (tt, (refl, refl), refl, (refl, tt, (refl, tt, tt)))), tt, (refl, tt, tt)),
  refl,
  refl,
  refl,
  refl,
  refl,
)

-- `(?P<n>a(?U)b*|c*?)d`
pub groups-greed_over_branches : IsReadAs plain (codes "(?P<n>a(?U)b*|c*?)d")
    (row (capture 1 (Some (codes "n")) (choice (row (literal (codes "a") ∷ empty ∷ repetition 0 None false (literal (codes "b")) ∷ []) ∷ repetition 0
    None true (literal (codes "c")) ∷ [])) ∷ literal (codes "d") ∷ [])) 5 1 (codes "abcd")
unfolding computing
groups-greed_over_branches = (
  (group (named [] true (codes "n"))
      (letter 97 (set [] (record { on = (codes "U"); off = None })
      (single (atom (character 98)) (repeated star false) (bar (single (atom (character 99)) (repeated star true) end))))) [] (letter 100 end)),
  ((tt, refl), (refl, tt, (tt, (refl, refl), refl, (refl, (tt, tt, refl, tt), (refl, (tt, tt, refl, tt), tt)))), tt, (refl, tt, tt)),
  refl,
  refl,
  refl,
  refl,
  refl,
)

-- `(?<n>a)(?P<m>b)()`
pub groups-names : IsReadAs plain (codes "(?<n>a)(?P<m>b)()")
    (row (capture 1 (Some (codes "n")) (literal (codes "a")) ∷ capture 2 (Some (codes "m")) (literal (codes "b")) ∷ capture 3 None empty ∷ [])) 2 3
    (codes "ab")
unfolding computing
groups-names = (
  (group (named [] false (codes "n")) (letter 97 end) []
      (group (named [] true (codes "m")) (letter 98 end) [] (group numbered end [] end))),
  ((tt, refl), (refl, tt, tt), tt, ((tt, refl), (refl, tt, tt), tt, (tt, tt, tt, tt))),
  refl,
  refl,
  refl,
  refl,
  refl,
)

-- `((a))`
pub groups-nested : IsReadAs plain (codes "((a))") (capture 1 None (capture 2 None (literal (codes "a")))) 2 2 (codes "a")
unfolding computing
groups-nested = (
  (group numbered (group numbered (letter 97 end) [] end) [] end),
  (tt, (tt, (refl, tt, tt), tt, tt), tt, tt),
  refl,
  refl,
  refl,
  refl,
  refl,
)

-- `a||(|b)`
pub groups-empty_branches : IsReadAs plain (codes "a||(|b)") (choice
    (literal (codes "a") ∷ empty ∷ capture 1 None (choice (empty ∷ literal (codes "b") ∷ [])) ∷ [])) 3 1 (codes "ab")
unfolding computing
groups-empty_branches = (
  (letter 97 (bar (bar (group numbered (bar (letter 98 end)) [] end)))),
  (refl, tt, (tt, (refl, tt, tt), tt, tt)),
  refl,
  refl,
  refl,
  refl,
  refl,
)

-- `(?s-x)(?x) .#`
pub groups-flags_in_a_row : IsReadAs plain (codes "(?s-x)(?x) .#")
    (row (empty ∷ empty ∷ chars ((codes "abckzABK09 -]&^_") ++ (10 ∷ 233 ∷ 383 ∷ 8490 ∷ [])) ∷ [])) 1 0 []
unfolding computing
groups-flags_in_a_row = (
  (set [] (record { on = (codes "s"); off = (Some (codes "x")) })
      (set [] (record { on = (codes "x"); off = None }) (pass (white 32) (single dot [] (pass (comment []) end))))),
  (tt, (refl, refl), refl, (tt, (refl, refl), refl, ((refl, refl, tt), (tt, tt, ((refl, refl, refl, tt), tt))))),
  refl,
  refl,
  refl,
  refl,
  refl,
)

-- `(?x: a b )c d`
pub groups-spaced_group : IsReadAs plain (codes "(?x: a b )c d")
    (row (row (literal (codes "a") ∷ literal (codes "b") ∷ []) ∷ literal (codes "c") ∷ literal (codes " ") ∷ literal (codes "d") ∷ [])) 3 0
    (codes "abc d")
unfolding computing
groups-spaced_group = (
  (group (flagged [] (record { on = (codes "x"); off = None }))
      (pass (white 32) (letter 97 (pass (white 32) (letter 98 (pass (white 32) end))))) [] (letter 99 (letter 32 (letter 100 end)))),
  (
    (tt, (refl, refl)),
    ((refl, refl, tt), (refl, tt, ((refl, refl, tt), (refl, tt, ((refl, refl, tt), tt))))),
    tt,
    (refl, tt, (refl, tt, (refl, tt, tt))),
  ),
  refl,
  refl,
  refl,
  refl,
  refl,
)

-- `( ?:a)` under x
pub groups-spaced_parenthesis : IsReadAs with_spaces (codes "( ?:a)") (literal (codes "a")) 1 0 (codes "a")
unfolding computing
groups-spaced_parenthesis = (
  (group (flagged ((white 32) ∷ []) (record { on = []; off = None })) (letter 97 end) [] end),
  (((refl, refl, tt), (refl, refl)), (refl, tt, tt), tt, tt),
  refl,
  refl,
  refl,
  refl,
  refl,
)

-- `a{2,3}b{1,}c{ 2 , 4294967295 }`
pub repetitions-counts : IsReadAs plain (codes "a{2,3}b{1,}c{ 2 , 4294967295 }")
    (row (repetition 2 (Some 3) true (literal (codes "a")) ∷ repetition 1 None true (literal (codes "b")) ∷ repetition 2 (Some 4294967295) true
    (literal (codes "c")) ∷ [])) 2 0 (codes "abc")
unfolding computing
repetitions-counts = (
  (single (atom (character 97)) (repeated
      (between (record { before = []; digits = (codes "2"); behind = [] }) (record { before = []; digits = (codes "3"); behind = [] })) false)
      (single (atom (character 98)) (repeated (at_least (record { before = []; digits = (codes "1"); behind = [] })) false)
      (single (atom (character 99)) (repeated (between (record { before = (codes " "); digits = (codes "2"); behind = (codes " ") })
      (record { before = (codes " "); digits = (codes "4294967295"); behind = (codes " ") })) false) end))),
  (refl, (tt, tt, refl, tt), (refl, (tt, tt, refl, tt), (refl, (tt, tt, refl, tt), tt))),
  refl,
  refl,
  refl,
  refl,
  refl,
)

-- `a{2}?`
pub repetitions-swapped_count : IsReadAs plain (codes "a{2}?") (repetition 2 (Some 2) false (literal (codes "a"))) 1 0 (codes "a")
unfolding computing
repetitions-swapped_count = (
  (single (atom (character 97)) (repeated (exactly (record { before = []; digits = (codes "2"); behind = [] })) true) end),
  (refl, (tt, tt, refl, tt), tt),
  refl,
  refl,
  refl,
  refl,
  refl,
)

-- `a???`
pub repetitions-of_a_repetition : IsReadAs plain (codes "a???") (repetition 0 (Some 1) true (repetition 0 (Some 1) false (literal (codes "a")))) 2 0
    (codes "a")
unfolding computing
repetitions-of_a_repetition = (
  (single (atom (character 97)) (record { before = []; count = optional; gap = []; swaps = true } ∷ record
      { before = []; count = optional; gap = []; swaps = false } ∷ []) end),
  (refl, (tt, tt, refl, (tt, tt, refl, tt)), tt),
  refl,
  refl,
  refl,
  refl,
  refl,
)

-- `(?x)a {2} ?b * + # c`
pub repetitions-spaced : IsReadAs plain (codes "(?x)a {2} ?b * + # c")
    (row (empty ∷ repetition 2 (Some 2) false (literal (codes "a")) ∷ repetition 1 None true (repetition 0 None true (literal (codes "b"))) ∷ [])) 3 0
    (codes "ab")
unfolding computing
repetitions-spaced = (
  (set [] (record { on = (codes "x"); off = None })
      (single (atom (character 97)) (record {
        before = ((white 32) ∷ []);
        count = (exactly (record { before = []; digits = (codes "2"); behind = [] }));
        gap = ((white 32) ∷ []);
        swaps = true;
      } ∷ []) (single (atom (character 98))
      (record { before = ((white 32) ∷ []); count = star; gap = []; swaps = false } ∷ record
      { before = ((white 32) ∷ []); count = plus; gap = []; swaps = false } ∷ []) (pass (white 32) (pass (comment (codes " c")) end))))),
  (
    tt,
    (refl, refl),
    refl,
    (
      refl,
      ((refl, refl, tt), (refl, refl, tt), refl, tt),
      (refl, ((refl, refl, tt), tt, refl, ((refl, refl, tt), tt, refl, tt)), ((refl, refl, tt), ((refl, refl, refl, tt), tt))),
    ),
  ),
  refl,
  refl,
  refl,
  refl,
  refl,
)

-- `^*]}`
pub repetitions-brackets_alone : IsReadAs plain (codes "^*]}")
    (row (repetition 0 None true (looks look.Start) ∷ literal (codes "]") ∷ literal (codes "}") ∷ [])) 2 0 (codes "]}")
unfolding computing
repetitions-brackets_alone = (
  (single caret (repeated star false) (letter 93 (letter 125 end))),
  (tt, (tt, tt, refl, tt), (refl, tt, (refl, tt, tt))),
  refl,
  refl,
  refl,
  refl,
  refl,
)

-- `\b{2}`
pub places-edge_repeated : IsReadAs plain (codes "\\b{2}") (repetition 2 (Some 2) true (looks look.WordUnicode)) 1 0 []
unfolding computing
places-edge_repeated = (
  (single (look_at edge) (repeated (exactly (record { before = []; digits = (codes "2"); behind = [] })) false) end),
  (refl, (tt, tt, refl, tt), tt),
  refl,
  refl,
  refl,
  refl,
  refl,
)

-- `\b{start}`
pub places-word_start : IsReadAs plain (codes "\\b{start}") (looks look.WordStartUnicode) 0 0 []
unfolding computing
places-word_start = ((only (look_at word_start)), (tt, tt, tt), refl, refl, refl, refl, refl)

-- `\b{end-half}{2}`
pub places-half_edge_repeated : IsReadAs plain (codes "\\b{end-half}{2}") (repetition 2 (Some 2) true (looks look.WordEndHalfUnicode)) 1 0 []
unfolding computing
places-half_edge_repeated = (
  (single (look_at half_end) (repeated (exactly (record { before = []; digits = (codes "2"); behind = [] })) false) end),
  (tt, (tt, tt, refl, tt), tt),
  refl,
  refl,
  refl,
  refl,
  refl,
)

-- `\B\<\>\A\z`
pub places-kinds : IsReadAs plain (codes "\\B\\<\\>\\A\\z") (row
    (looks look.WordUnicodeNegate ∷ looks look.WordStartUnicode ∷ looks look.WordEndUnicode ∷ looks look.Start ∷ looks look.End ∷ [])) 1 0 []
unfolding computing
places-kinds = (
  (single (look_at no_edge) [] (single (look_at left) []
      (single (look_at right) [] (single (look_at text_start) [] (only (look_at text_end)))))),
  (tt, tt, (tt, tt, (tt, tt, (tt, tt, (tt, tt, tt))))),
  refl,
  refl,
  refl,
  refl,
  refl,
)

-- `(?-u)\b`
pub places-ascii_edge : IsReadAs plain (codes "(?-u)\\b") (row (empty ∷ looks look.WordAscii ∷ [])) 1 0 []
unfolding computing
places-ascii_edge = (
  (set [] (record { on = []; off = (Some (codes "u")) }) (only (look_at edge))),
  (tt, (refl, refl), refl, (refl, tt, tt)),
  refl,
  refl,
  refl,
  refl,
  refl,
)

-- `^$` under mR
pub places-ends_of_lines_of_two : IsReadAs with_crlf_lines (codes "^$") (row (looks look.StartCRLF ∷ looks look.EndCRLF ∷ [])) 1 0 []
unfolding computing
places-ends_of_lines_of_two = ((single caret [] (only dollar)), (tt, tt, (tt, tt, tt)), refl, refl, refl, refl, refl)

-- `^$` under m
pub places-ends_of_lines : IsReadAs with_lines (codes "^$") (row (looks look.StartLF ∷ looks look.EndLF ∷ [])) 1 0 []
unfolding computing
places-ends_of_lines = ((single caret [] (only dollar)), (tt, tt, (tt, tt, tt)), refl, refl, refl, refl, refl)

-- `.` under no u
pub places-dot_of_bytes : IsReadAs of_bytes (codes ".") (bytes ((codes "abckzABK09 -]&^_") ++ (233 ∷ []))) 0 0 []
unfolding computing
places-dot_of_bytes = ((only dot), (tt, tt, tt), refl, refl, refl, refl, refl)

-- `.` under R
pub places-dot_on_lines_of_two : IsReadAs with_crlf (codes ".") (chars ((codes "abckzABK09 -]&^_") ++ (233 ∷ 383 ∷ 8490 ∷ []))) 0 0 []
unfolding computing
places-dot_on_lines_of_two = ((only dot), (tt, tt, tt), refl, refl, refl, refl, refl)

-- `.` under s
pub places-dot_of_all : IsReadAs with_dot_all (codes ".") (chars ((codes "abckzABK09 -]&^_") ++ (10 ∷ 233 ∷ 383 ∷ 8490 ∷ []))) 0 0 []
unfolding computing
places-dot_of_all = ((only dot), (tt, tt, tt), refl, refl, refl, refl, refl)

-- `\pL\p{nD}`
pub escapes-categories : IsReadAs plain (codes "\\pL\\p{nD}") (row (chars ((codes "abckzABK") ++ (233 ∷ 383 ∷ 8490 ∷ [])) ∷ chars (codes "09") ∷ []))
    1 0 []
unfolding computing
escapes-categories = (
  (single (atom (category 112 [] 76)) [] (only
      (atom (category_braced 112 [] (record { before = []; digit = 110 } ∷ record { before = []; digit = 68 } ∷ []) [])))),
  ((tt, refl), tt, (((tt, (tt, (tt, tt)), tt), refl), tt, tt)),
  refl,
  refl,
  refl,
  refl,
  refl,
)

-- `(?x)\p { L u }`
pub escapes-spaced_category : IsReadAs plain (codes "(?x)\\p { L u }") (row (empty ∷ chars ((codes "ABK") ++ (8490 ∷ [])) ∷ [])) 1 0 []
unfolding computing
escapes-spaced_category = (
  (set [] (record { on = (codes "x"); off = None })
      (only (atom (category_braced 112 ((white 32) ∷ []) (record { before = ((white 32) ∷ []); digit = 76 } ∷ record
      { before = ((white 32) ∷ []); digit = 117 } ∷ []) ((white 32) ∷ []))))),
  (tt, (refl, refl), refl, ((((refl, refl, tt), ((refl, refl, tt), ((refl, refl, tt), tt)), (refl, refl, tt)), refl), tt, tt)),
  refl,
  refl,
  refl,
  refl,
  refl,
)

-- `\x{41}\u0041\U00000041`
pub escapes-codes_of_characters : IsReadAs plain (codes "\\x{41}\\u0041\\U00000041")
    (row (literal (codes "A") ∷ literal (codes "A") ∷ literal (codes "A") ∷ [])) 1 0 (codes "AAA")
unfolding computing
escapes-codes_of_characters = (
  (single (atom (braced 120 [] (record { before = []; digit = 52 } ∷ record { before = []; digit = 49 } ∷ []) [])) []
      (single (atom (coded 117 (record { before = []; digit = 48 } ∷ record { before = []; digit = 48 } ∷ record { before = []; digit = 52 } ∷ record
      { before = []; digit = 49 } ∷ []))) [] (only (atom (coded 85
      (record { before = []; digit = 48 } ∷ record { before = []; digit = 48 } ∷ record { before = []; digit = 48 } ∷ record { before = []; digit = 48 }
      ∷ record { before = []; digit = 48 } ∷ record { before = []; digit = 48 } ∷ record { before = []; digit = 52 } ∷ record
      { before = []; digit = 49 } ∷ [])))))),
  (
    ((tt, (tt, (tt, tt)), tt), refl),
    tt,
    (((tt, (tt, (tt, (tt, tt)))), refl), tt, (((tt, (tt, (tt, (tt, (tt, (tt, (tt, (tt, tt)))))))), refl), tt, tt)),
  ),
  refl,
  refl,
  refl,
  refl,
  refl,
)

-- `(?x)\x 4 1 \x { 4 1 }`
pub escapes-spaced_codes : IsReadAs plain (codes "(?x)\\x 4 1 \\x { 4 1 }") (row (empty ∷ literal (codes "A") ∷ literal (codes "A") ∷ [])) 1 0
    (codes "AA")
unfolding computing
escapes-spaced_codes = (
  (set [] (record { on = (codes "x"); off = None })
      (single (atom (coded 120 (record { before = ((white 32) ∷ []); digit = 52 } ∷ record { before = ((white 32) ∷ []); digit = 49 } ∷ []))) []
      (pass (white 32) (only (atom (braced 120 ((white 32) ∷ [])
      (record { before = ((white 32) ∷ []); digit = 52 } ∷ record { before = ((white 32) ∷ []); digit = 49 } ∷ []) ((white 32) ∷ []))))))),
  (
    tt,
    (refl, refl),
    refl,
    (
      (((refl, refl, tt), ((refl, refl, tt), tt)), refl),
      tt,
      ((refl, refl, tt), ((((refl, refl, tt), ((refl, refl, tt), ((refl, refl, tt), tt)), (refl, refl, tt)), refl), tt, tt)),
    ),
  ),
  refl,
  refl,
  refl,
  refl,
  refl,
)

-- `\a\f\t\n\r\v\.\-`
pub escapes-controls : IsReadAs plain (codes "\\a\\f\\t\\n\\r\\v\\.\\-")
    (row (literal (7 ∷ []) ∷ literal (12 ∷ []) ∷ literal (9 ∷ []) ∷ literal (10 ∷ []) ∷ literal (13 ∷ []) ∷ literal (11 ∷ []) ∷ literal (codes ".") ∷
    literal (codes "-") ∷ [])) 1 0 (7 ∷ 12 ∷ 9 ∷ 10 ∷ 13 ∷ 11 ∷ 46 ∷ 45 ∷ [])
unfolding computing
escapes-controls = (
  (single (atom (control 97)) [] (single (atom (control 102)) []
      (single (atom (control 116)) [] (single (atom (control 110)) []
      (single (atom (control 114)) [] (single (atom (control 118)) [] (single (atom (escaped 46)) [] (only (atom (escaped 45)))))))))),
  (refl, tt, (refl, tt, (refl, tt, (refl, tt, (refl, tt, (refl, tt, (refl, tt, (refl, tt, tt)))))))),
  refl,
  refl,
  refl,
  refl,
  refl,
)

-- `\d\S\w`
pub escapes-sets : IsReadAs plain (codes "\\d\\S\\w") (row (chars (codes "09") ∷ chars ((codes "abckzABK09-]&^_") ++ (233 ∷ 383 ∷ 8490 ∷ [])) ∷ chars
    ((codes "abckzABK09_") ++ (233 ∷ 383 ∷ 8490 ∷ [])) ∷ [])) 1 0 []
unfolding computing
escapes-sets = (
  (single (atom (perl 100)) [] (single (atom (perl 83)) [] (only (atom (perl 119))))),
  (refl, tt, (refl, tt, (refl, tt, tt))),
  refl,
  refl,
  refl,
  refl,
  refl,
)

-- `\D\s\W` under no u
pub escapes-sets_of_bytes : IsReadAs of_bytes (codes "\\D\\s\\W")
    (row (bytes ((codes "abckzABK -]&^_") ++ (10 ∷ 233 ∷ [])) ∷ bytes ((codes " ") ++ (10 ∷ [])) ∷ bytes ((codes " -]&^") ++ (10 ∷ 233 ∷ [])) ∷ [])) 1
    0 []
unfolding computing
escapes-sets_of_bytes = (
  (single (atom (perl 68)) [] (single (atom (perl 115)) [] (only (atom (perl 87))))),
  (refl, tt, (refl, tt, (refl, tt, tt))),
  refl,
  refl,
  refl,
  refl,
  refl,
)

-- `\1018` under octal
pub escapes-octal : IsReadAs with_octal (codes "\\1018") (row (literal (codes "A") ∷ literal (codes "8") ∷ [])) 1 0 (codes "A8")
unfolding computing
escapes-octal = ((single (atom (octal (49 ∷ 48 ∷ 49 ∷ []))) [] (letter 56 end)), (refl, tt, (refl, tt, tt)), refl, refl, refl, refl, refl)

-- `(?-u)é\xff`
pub escapes-bytes_of_literals : IsReadAs plain (codes "(?-u)" ++ 0xE9 ∷ codes "\\xff")
    (row (empty ∷ literal (195 ∷ 169 ∷ []) ∷ literal (255 ∷ []) ∷ [])) 1 0 (233 ∷ 255 ∷ [])
unfolding computing
escapes-bytes_of_literals = (
  (set [] (record { on = []; off = (Some (codes "u")) })
      (letter 233 (only (atom (coded 120 (record { before = []; digit = 102 } ∷ record { before = []; digit = 102 } ∷ [])))))),
  (tt, (refl, refl), refl, (refl, tt, (((tt, (tt, tt)), refl), tt, tt))),
  refl,
  refl,
  refl,
  refl,
  refl,
)

-- `[]-a]`
pub members-bracket_before_dash : IsReadAs plain (codes "[]-a]") (chars (codes "a-]")) 2 0 (codes "]-a")
unfolding computing
members-bracket_before_dash = (
  (only (class (record { negated = None; dashes = []; bracket = (Some []) })
      (one (character 45) (one (character 97) close)))),
  (((refl, refl, tt), (refl, refl, refl, (refl, refl, refl, tt))), tt, tt),
  refl,
  refl,
  refl,
  refl,
  refl,
)

-- `[-a]`
pub members-first_dash : IsReadAs plain (codes "[-a]") (chars (codes "a-")) 2 0 (codes "-a")
unfolding computing
members-first_dash = (
  (only (class (record { negated = None; dashes = ([] ∷ []); bracket = None }) (one (character 97) close))),
  (((refl, (tt, refl), tt), (refl, refl, refl, tt)), tt, tt),
  refl,
  refl,
  refl,
  refl,
  refl,
)

-- `[a-]`
pub members-last_dash : IsReadAs plain (codes "[a-]") (chars (codes "a-")) 2 0 (codes "a-")
unfolding computing
members-last_dash = (
  (only (class plain_head (one (character 97) (one (character 45) close)))),
  (((refl, refl, refl), (refl, refl, refl, (refl, refl, refl, tt))), tt, tt),
  refl,
  refl,
  refl,
  refl,
  refl,
)

-- `[^]]`
pub members-negated_bracket : IsReadAs plain (codes "[^]]") (chars ((codes "abckzABK09 -&^_") ++ (10 ∷ 233 ∷ 383 ∷ 8490 ∷ []))) 1 0 (codes "]")
unfolding computing
members-negated_bracket = (
  (only (class (record { negated = (Some []); dashes = []; bracket = (Some []) }) close)),
  (((tt, refl, tt), tt), tt, tt),
  refl,
  refl,
  refl,
  refl,
  refl,
)

-- `[--a]`
pub members-two_first_dashes : IsReadAs plain (codes "[--a]") (chars (codes "a-")) 2 0 (codes "--a")
unfolding computing
members-two_first_dashes = (
  (only (class (record { negated = None; dashes = ([] ∷ [] ∷ []); bracket = None }) (one (character 97) close))),
  (((refl, (tt, (tt, refl)), tt), (refl, refl, refl, tt)), tt, tt),
  refl,
  refl,
  refl,
  refl,
  refl,
)

-- `[[:alpha:]x]`
pub members-name : IsReadAs plain (codes "[[:alpha:]x]") (chars (codes "abckzABK")) 2 0 (codes "x")
unfolding computing
members-name = (
  (only (class plain_head (ascii_name false (codes "alpha") (one (character 120) close)))),
  (((refl, refl, refl), (refl, (refl, refl, refl, tt))), tt, tt),
  refl,
  refl,
  refl,
  refl,
  refl,
)

-- `[[:^alpha:]-]`
pub members-negated_name : IsReadAs plain (codes "[[:^alpha:]-]") (chars ((codes "09 -]&^_") ++ (10 ∷ 233 ∷ 383 ∷ 8490 ∷ []))) 2 0 (codes "-")
unfolding computing
members-negated_name = (
  (only (class plain_head (ascii_name true (codes "alpha") (one (character 45) close)))),
  (((refl, refl, refl), (refl, (refl, refl, refl, tt))), tt, tt),
  refl,
  refl,
  refl,
  refl,
  refl,
)

-- `[[:foo:]x]`
pub members-no_such_name : IsReadAs plain (codes "[[:foo:]x]") (chars []) 4 0 (codes ":foo:x")
unfolding computing
members-no_such_name = (
  (only (class plain_head (nested plain_head
      (one (character 58) (one (character 102) (one (character 111) (one (character 111) (one (character 58) close))))) (one (character 120) close)))),
  (
    (
      (refl, refl, refl),
      (
        refl,
        (refl, refl, refl),
        (
          refl,
          refl,
          refl,
          (refl, refl, refl, (refl, refl, refl, (refl, refl, refl, (refl, refl, refl, tt)))),
        ),
        (refl, refl, refl, tt),
      ),
    ),
    tt,
    tt,
  ),
  refl,
  refl,
  refl,
  refl,
  refl,
)

-- `[:alpha:]`
pub members-name_without_class : IsReadAs plain (codes "[:alpha:]") (chars (codes "a")) 2 0 (codes ":alpha:")
unfolding computing
members-name_without_class = (
  (only (class plain_head (one (character 58)
      (one (character 97) (one (character 108) (one (character 112) (one (character 104) (one (character 97) (one (character 58) close))))))))),
  (
    (
      (refl, refl, refl),
      (
        refl,
        refl,
        refl,
        (
          refl,
          refl,
          refl,
          (refl, refl, refl, (refl, refl, refl, (refl, refl, refl, (refl, refl, refl, (refl, refl, refl, tt))))),
        ),
      ),
    ),
    tt,
    tt,
  ),
  refl,
  refl,
  refl,
  refl,
  refl,
)

-- `[a^]`
pub members-later_caret : IsReadAs plain (codes "[a^]") (chars (codes "a^")) 2 0 (codes "a^")
unfolding computing
members-later_caret = (
  (only (class plain_head (one (character 97) (one (character 94) close)))),
  (((refl, refl, refl), (refl, refl, refl, (refl, refl, refl, tt))), tt, tt),
  refl,
  refl,
  refl,
  refl,
  refl,
)

-- `(?x)[ ^a ]`
pub members-spaced_caret : IsReadAs plain (codes "(?x)[ ^a ]") (row (empty ∷ chars ((codes "bckzABK09 -]&^_") ++ (10 ∷ 233 ∷ 383 ∷ 8490 ∷ [])) ∷ []))
    2 0 (codes "a")
unfolding computing
members-spaced_caret = (
  (set [] (record { on = (codes "x"); off = None })
      (only (class (record { negated = (Some ((white 32) ∷ [])); dashes = []; bracket = None }) (one (character 97) (in_class (white 32) close))))),
  (tt, (refl, refl), refl, ((((refl, refl, tt), refl, refl), (refl, refl, refl, ((refl, refl, tt), tt))), tt, tt)),
  refl,
  refl,
  refl,
  refl,
  refl,
)

-- `(?x)[ -a ]`
pub members-spaced_first_dash : IsReadAs plain (codes "(?x)[ -a ]") (row (empty ∷ chars (codes "a-") ∷ [])) 3 0 (codes "-a")
unfolding computing
members-spaced_first_dash = (
  (set [] (record { on = (codes "x"); off = None })
      (only (class (record { negated = None; dashes = (((white 32) ∷ []) ∷ []); bracket = None }) (one (character 97) (in_class (white 32) close))))),
  (tt, (refl, refl), refl, (((refl, ((refl, refl, tt), refl), tt), (refl, refl, refl, ((refl, refl, tt), tt))), tt, tt)),
  refl,
  refl,
  refl,
  refl,
  refl,
)

-- `(?x)[ ]a]`
pub members-spaced_first_bracket : IsReadAs plain (codes "(?x)[ ]a]") (row (empty ∷ chars (codes "a]") ∷ [])) 3 0 (codes "]a")
unfolding computing
members-spaced_first_bracket = (
  (set [] (record { on = (codes "x"); off = None })
      (only (class (record { negated = None; dashes = []; bracket = (Some ((white 32) ∷ [])) }) (one (character 97) close)))),
  (tt, (refl, refl), refl, (((refl, refl, (refl, refl, tt)), (refl, refl, refl, tt)), tt, tt)),
  refl,
  refl,
  refl,
  refl,
  refl,
)

-- `(?-u)[\xff]`
pub members-byte : IsReadAs plain (codes "(?-u)[\\xff]") (row (empty ∷ bytes [] ∷ [])) 2 0 (255 ∷ [])
unfolding computing
members-byte = (
  (set [] (record { on = []; off = (Some (codes "u")) })
      (only (class plain_head (one (coded 120 (record { before = []; digit = 102 } ∷ record { before = []; digit = 102 } ∷ [])) close)))),
  (tt, (refl, refl), refl, (((refl, refl, refl), (((tt, (tt, tt)), refl), refl, refl, tt)), tt, tt)),
  refl,
  refl,
  refl,
  refl,
  refl,
)

-- `(?-u)[^a]`
pub members-all_but_a_byte : IsReadAs plain (codes "(?-u)[^a]") (row (empty ∷ bytes ((codes "bckzABK09 -]&^_") ++ (10 ∷ 233 ∷ [])) ∷ [])) 2 0
    (codes "a")
unfolding computing
members-all_but_a_byte = (
  (set [] (record { on = []; off = (Some (codes "u")) }) (only (class negated_head (one (character 97) close)))),
  (tt, (refl, refl), refl, (((tt, refl, refl), (refl, refl, refl, tt)), tt, tt)),
  refl,
  refl,
  refl,
  refl,
  refl,
)

-- `[a-b-c]`
pub ranges-dash_after_a_range : IsReadAs plain (codes "[a-b-c]") (chars (codes "abc-")) 2 0 (codes "ab-c")
unfolding computing
ranges-dash_after_a_range = (
  (only (class plain_head (range (character 97) [] [] (character 98) (one (character 45) (one (character 99) close))))),
  (((refl, refl, refl), (refl, tt, tt, refl, refl, (refl, refl, refl, (refl, refl, refl, tt)))), tt, tt),
  refl,
  refl,
  refl,
  refl,
  refl,
)

-- `[\d-z]`
pub ranges-dash_after_a_set : IsReadAs plain (codes "[\\d-z]") (chars (codes "z09-")) 2 0 (codes "-z")
unfolding computing
ranges-dash_after_a_set = (
  (only (class plain_head (one (perl 100) (one (character 45) (one (character 122) close))))),
  (((refl, refl, refl), (refl, refl, refl, (refl, refl, refl, (refl, refl, refl, tt)))), tt, tt),
  refl,
  refl,
  refl,
  refl,
  refl,
)

-- `[\]-a]`
pub ranges-escaped_start : IsReadAs plain (codes "[\\]-a]") (chars (codes "a]^_")) 1 0 (codes "]a")
unfolding computing
ranges-escaped_start = (
  (only (class plain_head (range (escaped 93) [] [] (character 97) close))),
  (((refl, refl, refl), (refl, tt, tt, refl, refl, tt)), tt, tt),
  refl,
  refl,
  refl,
  refl,
  refl,
)

-- `(?x)[a - ]`
pub ranges-spaced_last_dash : IsReadAs plain (codes "(?x)[a - ]") (row (empty ∷ chars (codes "a-") ∷ [])) 3 0 (codes "a-")
unfolding computing
ranges-spaced_last_dash = (
  (set [] (record { on = (codes "x"); off = None })
      (only (class plain_head (one (character 97) (in_class (white 32) (one (character 45) (in_class (white 32) close))))))),
  (tt, (refl, refl), refl, (((refl, refl, refl), (refl, refl, refl, ((refl, refl, tt), (refl, refl, refl, ((refl, refl, tt), tt))))), tt, tt)),
  refl,
  refl,
  refl,
  refl,
  refl,
)

-- `(?x)[+ - - b]`
pub ranges-dash_that_begins_a_range : IsReadAs plain (codes "(?x)[+ - - b]") (row (empty ∷ chars (codes "abABK09-]^_") ∷ [])) 3 0 (codes "+-b")
unfolding computing
ranges-dash_that_begins_a_range = (
  (set [] (record { on = (codes "x"); off = None })
      (only (class plain_head (one (character 43) (in_class (white 32)
      (range (character 45) ((white 32) ∷ []) ((white 32) ∷ []) (character 98) close)))))),
  (
    tt,
    (refl, refl),
    refl,
    (
      (
        (refl, refl, refl),
        (
          refl,
          refl,
          refl,
          ((refl, refl, tt), (refl, (refl, refl, tt), (refl, refl, tt), refl, refl, tt)),
        ),
      ),
      tt,
      tt,
    ),
  ),
  refl,
  refl,
  refl,
  refl,
  refl,
)

-- `(?x)[a - # b\n k]`
pub ranges-comment_in_a_range : IsReadAs plain (codes "(?x)[a - # b\n k]") (row (empty ∷ chars (codes "abck") ∷ [])) 2 0 (codes "ak")
unfolding computing
ranges-comment_in_a_range = (
  (set [] (record { on = (codes "x"); off = None })
      (only (class plain_head (range (character 97) ((white 32) ∷ []) ((white 32) ∷ (comment (codes " b")) ∷ (white 10) ∷ (white 32) ∷ [])
      (character 107) close)))),
  (
    tt,
    (refl, refl),
    refl,
    (
      (
        (refl, refl, refl),
        (refl, (refl, refl, tt), (refl, refl, (refl, refl, refl, (refl, refl, (refl, refl, tt)))), refl, refl, tt),
      ),
      tt,
      tt,
    ),
  ),
  refl,
  refl,
  refl,
  refl,
  refl,
)

-- `[\60-\71]` under octal
pub ranges-octal_range : IsReadAs with_octal (codes "[\\60-\\71]") (chars (codes "09")) 1 0 (codes "09")
unfolding computing
ranges-octal_range = (
  (only (class plain_head (range (octal (54 ∷ 48 ∷ [])) [] [] (octal (55 ∷ 49 ∷ [])) close))),
  (((refl, refl, refl), (refl, tt, tt, refl, refl, tt)), tt, tt),
  refl,
  refl,
  refl,
  refl,
  refl,
)

-- `[a--b]`
pub operations-difference : IsReadAs plain (codes "[a--b]") (chars (codes "a")) 2 0 (codes "ab")
unfolding computing
operations-difference = (
  (only (class plain_head (one (character 97) (operation minus (one (character 98) close))))),
  (((refl, refl, refl), (refl, refl, refl, (refl, refl, refl, tt))), tt, tt),
  refl,
  refl,
  refl,
  refl,
  refl,
)

-- `[]--a]`
pub operations-bracket_before_difference : IsReadAs plain (codes "[]--a]") (chars (codes "]")) 2 0 (codes "]a")
unfolding computing
operations-bracket_before_difference = (
  (only (class (record { negated = None; dashes = []; bracket = (Some []) })
      (operation minus (one (character 97) close)))),
  (((refl, refl, tt), (refl, refl, refl, tt)), tt, tt),
  refl,
  refl,
  refl,
  refl,
  refl,
)

-- `[&&a]`
pub operations-nothing_on_the_left : IsReadAs plain (codes "[&&a]") (chars []) 2 0 (codes "a")
unfolding computing
operations-nothing_on_the_left = (
  (only (class plain_head (operation both (one (character 97) close)))),
  (((refl, refl, refl), (refl, refl, refl, tt)), tt, tt),
  refl,
  refl,
  refl,
  refl,
  refl,
)

-- `[a&&]`
pub operations-nothing_on_the_right : IsReadAs plain (codes "[a&&]") (chars []) 2 0 (codes "a")
unfolding computing
operations-nothing_on_the_right = (
  (only (class plain_head (one (character 97) (operation both close)))),
  (((refl, refl, refl), (refl, refl, refl, tt)), tt, tt),
  refl,
  refl,
  refl,
  refl,
  refl,
)

-- `[a&&&b]`
pub operations-and_as_a_member : IsReadAs plain (codes "[a&&&b]") (chars []) 3 0 (codes "a&b")
unfolding computing
operations-and_as_a_member = (
  (only (class plain_head (one (character 97) (operation both (one (character 38) (one (character 98) close)))))),
  (((refl, refl, refl), (refl, refl, refl, (refl, refl, refl, (refl, refl, refl, tt)))), tt, tt),
  refl,
  refl,
  refl,
  refl,
  refl,
)

-- `[a-c&&[^b]--c~~z]`
pub operations-all_in_a_row : IsReadAs plain (codes "[a-c&&[^b]--c~~z]") (chars (codes "az")) 5 0 (codes "acbcz")
unfolding computing
operations-all_in_a_row = (
  (only (class plain_head (range (character 97) [] [] (character 99)
      (operation both (nested negated_head (one (character 98) close)
      (operation minus (one (character 99) (operation either (one (character 122) close))))))))),
  (
    ((refl, refl, refl), (refl, tt, tt, refl, refl, (refl, (tt, refl, refl), (refl, refl, refl, tt), (refl, refl, refl, (refl, refl, refl, tt))))),
    tt,
    tt,
  ),
  refl,
  refl,
  refl,
  refl,
  refl,
)

-- `[a-b--c]`
pub operations-difference_after_a_range : IsReadAs plain (codes "[a-b--c]") (chars (codes "ab")) 2 0 (codes "abc")
unfolding computing
operations-difference_after_a_range = (
  (only (class plain_head
      (range (character 97) [] [] (character 98) (operation minus (one (character 99) close))))),
  (((refl, refl, refl), (refl, tt, tt, refl, refl, (refl, refl, refl, tt))), tt, tt),
  refl,
  refl,
  refl,
  refl,
  refl,
)

-- `[\w--[a]]`
pub operations-nested : IsReadAs plain (codes "[\\w--[a]]") (chars ((codes "bckzABK09_") ++ (233 ∷ 383 ∷ 8490 ∷ []))) 3 0 (codes "a")
unfolding computing
operations-nested = (
  (only (class plain_head (one (perl 119) (operation minus (nested plain_head (one (character 97) close) close))))),
  (((refl, refl, refl), (refl, refl, refl, (refl, (refl, refl, refl), (refl, refl, refl, tt), tt))), tt, tt),
  refl,
  refl,
  refl,
  refl,
  refl,
)

-- `(?i)[k]`
pub folding-characters : IsReadAs plain (codes "(?i)[k]") (row (empty ∷ chars ((codes "kK") ++ (8490 ∷ [])) ∷ [])) 2 0 (codes "k")
unfolding computing
folding-characters = (
  (set [] (record { on = (codes "i"); off = None }) (only (class plain_head (one (character 107) close)))),
  (tt, (refl, refl), refl, (((refl, refl, refl), (refl, refl, refl, tt)), tt, tt)),
  refl,
  refl,
  refl,
  refl,
  refl,
)

-- `(?i)[^k]`
pub folding-before_negation : IsReadAs plain (codes "(?i)[^k]") (row (empty ∷ chars ((codes "abczAB09 -]&^_") ++ (10 ∷ 233 ∷ 383 ∷ [])) ∷ [])) 2 0
    (codes "k")
unfolding computing
folding-before_negation = (
  (set [] (record { on = (codes "i"); off = None }) (only (class negated_head (one (character 107) close)))),
  (tt, (refl, refl), refl, (((tt, refl, refl), (refl, refl, refl, tt)), tt, tt)),
  refl,
  refl,
  refl,
  refl,
  refl,
)

-- `(?i)[a-z&&K]`
pub folding-sides : IsReadAs plain (codes "(?i)[a-z&&K]") (row (empty ∷ chars ((codes "kK") ++ (8490 ∷ [])) ∷ [])) 3 0 (codes "azK")
unfolding computing
folding-sides = (
  (set [] (record { on = (codes "i"); off = None })
      (only (class plain_head (range (character 97) [] [] (character 122) (operation both (one (character 75) close)))))),
  (tt, (refl, refl), refl, (((refl, refl, refl), (refl, tt, tt, refl, refl, (refl, refl, refl, tt))), tt, tt)),
  refl,
  refl,
  refl,
  refl,
  refl,
)

-- `(?i)[[^k]]`
pub folding-nested_before_negation : IsReadAs plain (codes "(?i)[[^k]]")
    (row (empty ∷ chars ((codes "abczAB09 -]&^_") ++ (10 ∷ 233 ∷ 383 ∷ [])) ∷ [])) 3 0 (codes "k")
unfolding computing
folding-nested_before_negation = (
  (set [] (record { on = (codes "i"); off = None })
      (only (class plain_head (nested negated_head (one (character 107) close) close)))),
  (tt, (refl, refl), refl, (((refl, refl, refl), (refl, (tt, refl, refl), (refl, refl, refl, tt), tt)), tt, tt)),
  refl,
  refl,
  refl,
  refl,
  refl,
)

-- `(?i-u)[k]`
pub folding-byte_class : IsReadAs plain (codes "(?i-u)[k]") (row (empty ∷ bytes (codes "kK") ∷ [])) 2 0 (codes "k")
unfolding computing
folding-byte_class = (
  (set [] (record { on = (codes "i"); off = (Some (codes "u")) }) (only (class plain_head (one (character 107) close)))),
  (tt, (refl, refl), refl, (((refl, refl, refl), (refl, refl, refl, tt)), tt, tt)),
  refl,
  refl,
  refl,
  refl,
  refl,
)

-- `(?i-u)k\x41\xe9`
pub folding-bytes : IsReadAs plain (codes "(?i-u)k\\x41\\xe9") (row (empty ∷ bytes (codes "kK") ∷ bytes (codes "aA") ∷ literal (233 ∷ []) ∷ [])) 1 0
    ((codes "kA") ++ (233 ∷ []))
unfolding computing
folding-bytes = (
  (set [] (record { on = (codes "i"); off = (Some (codes "u")) })
      (letter 107 (single (atom (coded 120 (record { before = []; digit = 52 } ∷ record { before = []; digit = 49 } ∷ []))) []
      (only (atom (coded 120 (record { before = []; digit = 101 } ∷ record { before = []; digit = 57 } ∷ []))))))),
  (tt, (refl, refl), refl, (refl, tt, (((tt, (tt, tt)), refl), tt, (((tt, (tt, tt)), refl), tt, tt)))),
  refl,
  refl,
  refl,
  refl,
  refl,
)

-- `(?i)1\P{Lu}`
pub folding-category_before_negation : IsReadAs plain (codes "(?i)1\\P{Lu}")
    (row (empty ∷ literal (codes "1") ∷ chars ((codes "09 -]&^_") ++ (10 ∷ [])) ∷ [])) 1 0 (codes "1")
unfolding computing
folding-category_before_negation = (
  (set [] (record { on = (codes "i"); off = None })
      (letter 49 (only (atom (category_braced 80 [] (record { before = []; digit = 76 } ∷ record { before = []; digit = 117 } ∷ []) []))))),
  (tt, (refl, refl), refl, (refl, tt, (((tt, (tt, (tt, tt)), tt), refl), tt, tt))),
  refl,
  refl,
  refl,
  refl,
  refl,
)

-- `(?i)[\P{Lu}]`
pub folding-category_in_a_class : IsReadAs plain (codes "(?i)[\\P{Lu}]") (row (empty ∷ chars ((codes "09 -]&^_") ++ (10 ∷ [])) ∷ [])) 2 0 []
unfolding computing
folding-category_in_a_class = (
  (set [] (record { on = (codes "i"); off = None })
      (only (class plain_head (one (category_braced 80 [] (record { before = []; digit = 76 } ∷ record { before = []; digit = 117 } ∷ []) []) close)))),
  (tt, (refl, refl), refl, (((refl, refl, refl), (((tt, (tt, (tt, tt)), tt), refl), refl, refl, tt)), tt, tt)),
  refl,
  refl,
  refl,
  refl,
  refl,
)
