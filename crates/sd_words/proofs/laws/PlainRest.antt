-- Plain words after their options, and what a parse makes of the whole.
use Rattle.std.proofs.Common.{◌≡◌, ◌∙◌, ap, ap₂, cond, refl, sym, true, false, Bool, List, [], ◌∷◌, ◌++◌, map, Some, None, append-nil, append_assoc, ◌&&◌, ◌||◌, ℕ}
use Rattle.std.specs.Prelude.{codes, fold}
use Rattle.std.specs.Option.{option_map_or}
use Rattle.std.specs.Str.{bytes_eq}
use Rattle.clap.specs.Walk.{Row, Text, Waiting, Walk, has_row, idle, more_values, positional, pushed, walked, with_values}
use Rattle.clap.specs.Faults.{turn_fault, walk_fault}
use Rattle.clap.specs.Kinds.{or_else}
use Rattle.clap.specs.declared.parser.matches.ValueSource.TheVariants.{CommandLine}
use Rattle.clap.specs.declared.builder.value_parser.Reading.TheVariants.{AsWritten}
use Rattle.clap.proofs.OnLiterals.{clap_on_literals}
use Rattle.sd_words.specs.Plain as plain
use Rattle.sd_words.specs.Plain.{Flag, Key, Part, are_plain, flag_name, given, is_on, key_name, on, option_words, part_name, part_value, plain_words, table, value_of}
use Rattle.sd_words.proofs.laws.PlainWalk.{Pending, at, at_row_end, fresh, has_row_append, held, logical, neither, new_row, owed, part_row, parts_walked, repeats, row, rules, shape}

and_false : (b : Bool) → (b && false) ≡ false
and_false true = refl
and_false false = refl

-- ---- `--`, and the two words after it

abbrev trail : List Row → Pending → Walk
trail rows pending = record (at rows pending) { is_trailing = true }

dashes_walked : (rows : List Row) (pending : Pending) → walked rules [] (at rows pending) (codes "--") ≡ trail rows pending
unfolding clap_on_literals
dashes_walked rows pending = refl

dashes_fault : (rows : List Row) (pending : Pending) → turn_fault shape [] (at rows pending) (codes "--") ≡ []
unfolding clap_on_literals
dashes_fault rows pending = refl

abbrev is_on_hold : Text → Pending → Bool
is_on_hold name pending = option_map_or (λ q. bytes_eq q.0 name) pending false

-- the walk after a word that went to a place
abbrev placed : List Row → Text → Text → ℕ → Waiting → Walk
placed rows name word position waiting =
    record { held = held rows (Some (name, word ∷ [])); waiting = waiting; position = position; is_trailing = true; stopped = None }

find_walked : (rows : List Row) (pending : Pending) (word : Text) → walked rules [] (trail rows pending) word ≡ placed (logical rows pending) (codes "find") word 2 idle
unfolding clap_on_literals
find_walked rows pending word = ap (λ b. record {
  held = pushed (codes "find") word (cond b (held rows pending) (held (logical rows pending) None));
  waiting = idle;
  position = 2;
  is_trailing = true;
  stopped = None;
}) (and_false (is_on_hold (codes "find") pending))

find_fault : (rows : List Row) (pending : Pending) (word : Text) → owed rows pending ≡ [] → turn_fault shape [] (trail rows pending) word ≡ []
unfolding clap_on_literals
find_fault rows pending word e = ap₂ (λ b o. cond b [] o) (and_false (is_on_hold (codes "find") pending)) e

replace_walked : (rows : List Row) (first word : Text)
    → walked rules [] (placed rows (codes "find") first 2 idle) word ≡ placed (logical rows (Some (codes "find", first ∷ []))) (codes "replace-with") word 3 idle
unfolding clap_on_literals
replace_walked rows first word = refl

replace_fault : (rows : List Row) (first word : Text) → owed rows (Some (codes "find", first ∷ [])) ≡ [] → turn_fault shape [] (placed rows (codes "find") first 2 idle) word ≡ []
unfolding clap_on_literals
replace_fault rows first word e = e

find_owed : (rows : List Row) (word : Text) → has_row (codes "find") rows ≡ false → owed rows (Some (codes "find", word ∷ [])) ≡ []
find_owed rows word n = ap (λ b. or_else [] (or_else (repeats b) [])) n

replace_owed : (rows : List Row) (word : Text) → has_row (codes "replace-with") rows ≡ false → owed rows (Some (codes "replace-with", word ∷ [])) ≡ []
replace_owed rows word n = ap (λ b. or_else [] (or_else (repeats b) [])) n

-- ---- the words after them

abbrev pub later : List Row → Pending → Waiting → Walk
later rows pending waiting = record { held = held rows pending; waiting = waiting; position = 3; is_trailing = true; stopped = None }

rest_walked : (rows : List Row) (pending : Pending) (waiting : Waiting) (word : Text)
    → walked rules [] (later rows pending waiting) word ≡ later (logical rows pending) (Some (codes "words", word ∷ [])) positional
unfolding clap_on_literals
rest_walked rows pending waiting word = ap (λ b. record {
  held = pushed (codes "words") word (cond b (held rows pending) (held (logical rows pending) None));
  waiting = positional;
  position = 3;
  is_trailing = true;
  stopped = None;
}) (and_false (is_on_hold (codes "words") pending))

rest_fault : (rows : List Row) (pending : Pending) (waiting : Waiting) (word : Text) → owed rows pending ≡ [] → turn_fault shape [] (later rows pending waiting) word ≡ []
unfolding clap_on_literals
rest_fault rows pending waiting word e = ap₂ (λ b o. cond b [] o) (and_false (is_on_hold (codes "words") pending)) e

-- the rows when more words come to the last place
abbrev add_words : List Row → List Text → List Row
add_words rows [] = rows
add_words rows (word ∷ rest) = add_words (with_values (codes "words") AsWritten CommandLine (word ∷ []) rows) rest

abbrev pub rest_rows : List Text → List Row
rest_rows [] = []
rest_rows (word ∷ rest) = row (codes "words") (word ∷ rest) ∷ []

all_walked : (rest : List Text) (rows : List Row) (pending : Pending) (waiting : Waiting) → owed rows pending ≡ []
    → (rows' : List Row) × (pending' : Pending) × (waiting' : Waiting) × (fold (walked rules []) (later rows pending waiting) rest ≡ later rows' pending' waiting')
    × (walk_fault shape [] (later rows pending waiting) rest ≡ []) × (owed rows' pending' ≡ []) × (logical rows' pending' ≡ add_words (logical rows pending) rest)
unfolding walk_fault
all_walked [] rows pending waiting e = (rows, pending, waiting, refl, refl, e, refl)
all_walked (word ∷ rest) rows pending waiting e =
    let next = all_walked rest (logical rows pending) (Some (codes "words", word ∷ [])) positional refl in (
      next.0,
      next.1,
      next.2,
      ap (λ w. fold (walked rules []) w rest) (rest_walked rows pending waiting word) ∙ next.3,
      ap₂ (λ x w. or_else x (walk_fault shape [] w rest)) (rest_fault rows pending waiting word e) (rest_walked rows pending waiting word) ∙ next.4,
      next.5,
      next.6,
    )

more_of : (rows : List Row) (values : List Text) (word : Text) → has_row (codes "words") rows ≡ false
    → with_values (codes "words") AsWritten CommandLine (word ∷ []) (rows ++ row (codes "words") values ∷ []) ≡ rows ++ row (codes "words") (values ++ word ∷ []) ∷ []
more_of [] values word e = refl
more_of (r ∷ rs) values word e =
    let parts = neither (bytes_eq r.id (codes "words")) (has_row (codes "words") rs) e in
    rw (parts.0) (ap (λ xs. r ∷ xs) (more_of rs values word parts.1))

add_more : (rest values : List Text) (rows : List Row) → has_row (codes "words") rows ≡ false
    → add_words (rows ++ row (codes "words") values ∷ []) rest ≡ rows ++ row (codes "words") (values ++ rest) ∷ []
add_more [] values rows e = ap (λ vs. rows ++ row (codes "words") vs ∷ []) (sym (append-nil values))
add_more (word ∷ rest) values rows e =
    ap (λ rs. add_words rs rest) (more_of rows values word e) ∙ add_more rest (values ++ word ∷ []) rows e
    ∙ ap (λ vs. rows ++ row (codes "words") vs ∷ []) (append_assoc values (word ∷ []) rest)

add_all : (rest : List Text) (rows : List Row) → has_row (codes "words") rows ≡ false → add_words rows rest ≡ rows ++ rest_rows rest
add_all [] rows e = sym (append-nil rows)
add_all (word ∷ rest) rows e = ap (λ rs. add_words rs rest) (at_row_end (codes "words") (more_values CommandLine (word ∷ [])) (row (codes "words") (word ∷ []) ∷ []) rows e) ∙ add_more rest (word ∷ []) rows e

-- ---- names

pub no_find : (p : Part) → bytes_eq (part_name p) (codes "find") ≡ false
no_find (on plain.preview s) = refl
no_find (on plain.fixed_strings s) = refl
no_find (on plain.string_mode s) = refl
no_find (on plain.line_mode s) = refl
no_find (given plain.limit s v) = refl
no_find (given plain.flags s v) = refl
no_find (given plain.root s v) = refl
no_find (given plain.demo s v) = refl
no_find (given plain.apply s v) = refl
no_find (given plain.ignore s v) = refl

pub no_replace : (p : Part) → bytes_eq (part_name p) (codes "replace-with") ≡ false
no_replace (on plain.preview s) = refl
no_replace (on plain.fixed_strings s) = refl
no_replace (on plain.string_mode s) = refl
no_replace (on plain.line_mode s) = refl
no_replace (given plain.limit s v) = refl
no_replace (given plain.flags s v) = refl
no_replace (given plain.root s v) = refl
no_replace (given plain.demo s v) = refl
no_replace (given plain.apply s v) = refl
no_replace (given plain.ignore s v) = refl

pub no_words : (p : Part) → bytes_eq (part_name p) (codes "words") ≡ false
no_words (on plain.preview s) = refl
no_words (on plain.fixed_strings s) = refl
no_words (on plain.string_mode s) = refl
no_words (on plain.line_mode s) = refl
no_words (given plain.limit s v) = refl
no_words (given plain.flags s v) = refl
no_words (given plain.root s v) = refl
no_words (given plain.demo s v) = refl
no_words (given plain.apply s v) = refl
no_words (given plain.ignore s v) = refl

pub key_no_flag : (k : Key) (f : Flag) → bytes_eq (key_name k) (flag_name f) ≡ false
key_no_flag plain.limit plain.preview = refl
key_no_flag plain.limit plain.fixed_strings = refl
key_no_flag plain.limit plain.string_mode = refl
key_no_flag plain.limit plain.line_mode = refl
key_no_flag plain.flags plain.preview = refl
key_no_flag plain.flags plain.fixed_strings = refl
key_no_flag plain.flags plain.string_mode = refl
key_no_flag plain.flags plain.line_mode = refl
key_no_flag plain.root plain.preview = refl
key_no_flag plain.root plain.fixed_strings = refl
key_no_flag plain.root plain.string_mode = refl
key_no_flag plain.root plain.line_mode = refl
key_no_flag plain.demo plain.preview = refl
key_no_flag plain.demo plain.fixed_strings = refl
key_no_flag plain.demo plain.string_mode = refl
key_no_flag plain.demo plain.line_mode = refl
key_no_flag plain.apply plain.preview = refl
key_no_flag plain.apply plain.fixed_strings = refl
key_no_flag plain.apply plain.string_mode = refl
key_no_flag plain.apply plain.line_mode = refl
key_no_flag plain.ignore plain.preview = refl
key_no_flag plain.ignore plain.fixed_strings = refl
key_no_flag plain.ignore plain.string_mode = refl
key_no_flag plain.ignore plain.line_mode = refl

pub flag_no_key : (f : Flag) (k : Key) → bytes_eq (flag_name f) (key_name k) ≡ false
flag_no_key plain.preview plain.limit = refl
flag_no_key plain.preview plain.flags = refl
flag_no_key plain.preview plain.root = refl
flag_no_key plain.preview plain.demo = refl
flag_no_key plain.preview plain.apply = refl
flag_no_key plain.preview plain.ignore = refl
flag_no_key plain.fixed_strings plain.limit = refl
flag_no_key plain.fixed_strings plain.flags = refl
flag_no_key plain.fixed_strings plain.root = refl
flag_no_key plain.fixed_strings plain.demo = refl
flag_no_key plain.fixed_strings plain.apply = refl
flag_no_key plain.fixed_strings plain.ignore = refl
flag_no_key plain.string_mode plain.limit = refl
flag_no_key plain.string_mode plain.flags = refl
flag_no_key plain.string_mode plain.root = refl
flag_no_key plain.string_mode plain.demo = refl
flag_no_key plain.string_mode plain.apply = refl
flag_no_key plain.string_mode plain.ignore = refl
flag_no_key plain.line_mode plain.limit = refl
flag_no_key plain.line_mode plain.flags = refl
flag_no_key plain.line_mode plain.root = refl
flag_no_key plain.line_mode plain.demo = refl
flag_no_key plain.line_mode plain.apply = refl
flag_no_key plain.line_mode plain.ignore = refl

-- no option has this name
pub no_row : (name : Text) → ((p : Part) → bytes_eq (part_name p) name ≡ false) → (parts : List Part) → has_row name (map part_row parts) ≡ false
no_row name none [] = refl
no_row name none (p ∷ ps) = ap₂ (λ a b. a || b) (none p) (no_row name none ps)

all_fresh : (parts : List Part) → fresh parts [] ≡ true
all_fresh [] = refl
all_fresh (p ∷ ps) = all_fresh ps

-- ---- the whole walk

abbrev pub options_rows : List Part → List Row
options_rows parts = map part_row parts

abbrev pub two_rows : Text → Text → List Row
two_rows first second = row (codes "find") (first ∷ []) ∷ row (codes "replace-with") (second ∷ []) ∷ []

-- the rows of plain words, but for defaults
abbrev pub all_rows : List Part → Text → Text → List Text → List Row
all_rows parts first second rest = options_rows parts ++ (two_rows first second ++ rest_rows rest)

pub plain_walked : (parts : List Part) (first second : Text) (rest : List Text) → are_plain parts ≡ true
    → (rows' : List Row) × (pending' : Pending) × (waiting' : Waiting)
    × (fold (walked rules []) (at [] None) (plain_words parts first second rest) ≡ later rows' pending' waiting')
    × (walk_fault shape [] (at [] None) (plain_words parts first second rest) ≡ [])
    × (owed rows' pending' ≡ []) × (logical rows' pending' ≡ all_rows parts first second rest)
unfolding walk_fault
plain_walked parts first second rest are =
    let more = codes "--" ∷ first ∷ second ∷ rest in
    let front = parts_walked parts [] None more are refl (all_fresh parts) in
    let rows = front.0 in
    let pending = front.1 in
    let here : logical rows pending ≡ options_rows parts = front.5 in
    let top = logical rows pending in
    let no_first : has_row (codes "find") top ≡ false = ap (has_row (codes "find")) here ∙ no_row (codes "find") no_find parts in
    let one = logical top (Some (codes "find", first ∷ [])) in
    let one_is : one ≡ top ++ row (codes "find") (first ∷ []) ∷ [] = new_row (codes "find") (first ∷ []) top no_first in
    let no_second : has_row (codes "replace-with") one ≡ false = ap (has_row (codes "replace-with")) one_is
    ∙ has_row_append (codes "replace-with") top (row (codes "find") (first ∷ []) ∷ [])
    ∙ ap (λ b. b || false) (ap (has_row (codes "replace-with")) here ∙ no_row (codes "replace-with") no_replace parts) in
    let both_owed = replace_owed one second no_second in
    let two = logical one (Some (codes "replace-with", second ∷ [])) in
    let two_is : two ≡ one ++ row (codes "replace-with") (second ∷ []) ∷ [] = new_row (codes "replace-with") (second ∷ []) one no_second in
    let two_rows_are : two ≡ options_rows parts ++ two_rows first second = two_is ∙ ap (λ rs. rs ++ row (codes "replace-with") (second ∷ []) ∷ []) (one_is ∙ ap (λ rs. rs ++ row (codes "find") (first ∷ []) ∷ []) here)
    ∙ append_assoc (options_rows parts) (row (codes "find") (first ∷ []) ∷ []) (row (codes "replace-with") (second ∷ []) ∷ []) in
    let no_rest : has_row (codes "words") (options_rows parts ++ two_rows first second) ≡ false =
    has_row_append (codes "words") (options_rows parts) (two_rows first second) ∙ ap (λ b. b || false) (no_row (codes "words") no_words parts) in
    let end = all_walked rest one (Some (codes "replace-with", second ∷ [])) idle both_owed in
    let w0 = dashes_walked rows pending in
    let w1 = find_walked rows pending first in
    let w2 = replace_walked top first second in (
      end.0,
      end.1,
      end.2,
      front.2 ∙ ap (λ w. fold (walked rules []) (walked rules [] (walked rules [] w first) second) rest) w0 ∙ ap (λ w. fold (walked rules []) (walked rules [] w second) rest) w1
          ∙ ap (λ w. fold (walked rules []) w rest) w2 ∙ end.3,
      front.3
          ∙ ap₂ (λ x w. or_else x (or_else (turn_fault shape [] w first)
          (or_else (turn_fault shape [] (walked rules [] w first) second) (walk_fault shape [] (walked rules [] (walked rules [] w first) second) rest)))) (dashes_fault rows pending) w0
          ∙ ap₂ (λ x w. or_else x (or_else (turn_fault shape [] w second) (walk_fault shape [] (walked rules [] w second) rest))) (find_fault rows pending first front.4) w1
          ∙ ap₂ (λ x w. or_else x (walk_fault shape [] w rest)) (replace_fault top first second (find_owed top first no_first)) w2 ∙ end.4,
      end.5,
      end.6 ∙ ap (λ rs. add_words rs rest) two_rows_are ∙ add_all rest (options_rows parts ++ two_rows first second) no_rest
          ∙ append_assoc (options_rows parts) (two_rows first second) (rest_rows rest),
    )
