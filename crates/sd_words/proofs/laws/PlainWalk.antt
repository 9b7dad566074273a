-- How a parse of the command walks over plain words.
use Rattle.std.proofs.Common.{◌≡◌, ◌∙◌, ap, ap₂, cond, refl, sym, true, false, true≢false, not, Bool, List, [], ◌∷◌, ◌++◌, map, Option, Some, None, append-nil, append_assoc, ◌&&◌, ◌||◌, ℕ}
use Rattle.std.specs.Prelude.{◌==◌, codes, fold}
use Rattle.std.specs.List.{list_any}
use Rattle.std.specs.Option.{option_map_or}
use Rattle.std.specs.Str.{bytes_eq}
use Rattle.clap.specs.Lexer.{long_of, short_of}
use Rattle.clap.specs.Walk.{Held, Row, Rule, Step, Text, Walk, after_step, at_row, has_row, idle, long_or_other, more_values, option, plain_word, settled_rows, short_or_plain, trailing, walked, with_values, without, word_met}
use Rattle.clap.specs.Faults.{bundle_fault, flag_word_fault, settle_fault, step_fault, turn_fault, walk_fault, word_fault}
use Rattle.clap.specs.Kinds.{Kinds, or_else}
use Rattle.clap.specs.Simple.{Shape, built}
use Rattle.clap.specs.declared.error.kind.ErrorKind.TheVariants.{ArgumentConflict}
use Rattle.clap.specs.declared.parser.matches.ValueSource.TheVariants.{CommandLine}
use Rattle.clap.specs.declared.builder.value_parser.Reading.TheVariants.{AsWritten}
use Rattle.clap.proofs.OnLiterals.{clap_on_literals}
use Rattle.clap.proofs.WalkLemmas.{both}
use Rattle.sd_words.specs.Command.{command}
use Rattle.sd_words.specs.Plain as plain
use Rattle.sd_words.specs.Plain.{Flag, Key, Part, Spelling, are_plain, flag_name, flag_word, given, is_new, is_value, key_name, key_word, on, option_words, part_name, part_value, plain_words}

abbrev pub shape : Shape
shape = (built command).top

abbrev pub rules : List Rule
rules = shape.rules

-- what the walk holds: the rows, and the option whose value was read last
abbrev pub Pending : Type 0
Pending = Option (Text × List Text)

abbrev pub held : List Row → Pending → Held
held rows pending = record { rows = rows; pending = pending; skip = 0 }

-- the walk between two options
abbrev pub at : List Row → Pending → Walk
at rows pending = record { held = held rows pending; waiting = idle; position = 1; is_trailing = false; stopped = None }

-- the rows with what is pending, and what refuses it
abbrev pub logical : List Row → Pending → List Row
logical rows pending = settled_rows rules pending rows

abbrev pub owed : List Row → Pending → Kinds
owed rows pending = settle_fault rules false (held rows pending)

abbrev pub row : Text → List Text → Row
row name values = record { id = name; values = values; count = None; source = Some CommandLine; reading = AsWritten }

abbrev pub replaced : Text → List Text → List Row → List Row
replaced name values rows = with_values name AsWritten CommandLine values (without name rows)

abbrev pub repeats : Bool → Kinds
repeats b = cond (b && true) (ArgumentConflict ∷ []) []

-- ---- flags

flag_walked : (f : Flag) (s : Spelling) (rows : List Row) (pending : Pending)
    → walked rules [] (at rows pending) (flag_word f s) ≡ at (replaced (flag_name f) (codes "true" ∷ []) (logical rows pending)) None
unfolding clap_on_literals
flag_walked plain.preview plain.short rows pending = refl
flag_walked plain.preview plain.long rows pending = refl
flag_walked plain.fixed_strings plain.short rows pending = refl
flag_walked plain.fixed_strings plain.long rows pending = refl
flag_walked plain.string_mode plain.short rows pending = refl
flag_walked plain.string_mode plain.long rows pending = refl
flag_walked plain.line_mode plain.short rows pending = refl
flag_walked plain.line_mode plain.long rows pending = refl

abbrev long_flag : Kinds → Bool → Kinds
long_flag s b = or_else (or_else s (or_else [] (or_else (repeats b) []))) []

abbrev short_flag : Kinds → Bool → Kinds
short_flag s b = or_else (or_else (or_else s (or_else [] (or_else (repeats b) []))) []) []

flag_fault : (f : Flag) (s : Spelling) (rows : List Row) (pending : Pending) → owed rows pending ≡ [] → has_row (flag_name f) (logical rows pending) ≡ false
    → turn_fault shape [] (at rows pending) (flag_word f s) ≡ []
unfolding clap_on_literals
flag_fault plain.preview plain.short rows pending e n = ap₂ short_flag e n
flag_fault plain.preview plain.long rows pending e n = ap₂ long_flag e n
flag_fault plain.fixed_strings plain.short rows pending e n = ap₂ short_flag e n
flag_fault plain.fixed_strings plain.long rows pending e n = ap₂ long_flag e n
flag_fault plain.string_mode plain.short rows pending e n = ap₂ short_flag e n
flag_fault plain.string_mode plain.long rows pending e n = ap₂ long_flag e n
flag_fault plain.line_mode plain.short rows pending e n = ap₂ short_flag e n
flag_fault plain.line_mode plain.long rows pending e n = ap₂ long_flag e n

-- ---- options with a value

-- the walk after an option, which waits for its value
abbrev waiting_for : List Row → Key → Walk
waiting_for rows k = record (at rows (Some (key_name k, []))) { waiting = option (key_name k) }

key_walked : (k : Key) (s : Spelling) (rows : List Row) (pending : Pending) → walked rules [] (at rows pending) (key_word k s) ≡ waiting_for (logical rows pending) k
unfolding clap_on_literals
key_walked plain.limit plain.short rows pending = refl
key_walked plain.limit plain.long rows pending = refl
key_walked plain.flags plain.short rows pending = refl
key_walked plain.flags plain.long rows pending = refl
key_walked plain.root plain.short rows pending = refl
key_walked plain.root plain.long rows pending = refl
key_walked plain.demo plain.short rows pending = refl
key_walked plain.demo plain.long rows pending = refl
key_walked plain.apply plain.short rows pending = refl
key_walked plain.apply plain.long rows pending = refl
key_walked plain.ignore plain.short rows pending = refl
key_walked plain.ignore plain.long rows pending = refl

key_fault : (k : Key) (s : Spelling) (rows : List Row) (pending : Pending) → owed rows pending ≡ [] → turn_fault shape [] (at rows pending) (key_word k s) ≡ []
unfolding clap_on_literals
key_fault plain.limit plain.short rows pending e = ap (λ x. or_else x []) e
key_fault plain.limit plain.long rows pending e = ap (λ x. or_else x []) e
key_fault plain.flags plain.short rows pending e = ap (λ x. or_else x []) e
key_fault plain.flags plain.long rows pending e = ap (λ x. or_else x []) e
key_fault plain.root plain.short rows pending e = ap (λ x. or_else x []) e
key_fault plain.root plain.long rows pending e = ap (λ x. or_else x []) e
key_fault plain.demo plain.short rows pending e = ap (λ x. or_else x []) e
key_fault plain.demo plain.long rows pending e = ap (λ x. or_else x []) e
key_fault plain.apply plain.short rows pending e = ap (λ x. or_else x []) e
key_fault plain.apply plain.long rows pending e = ap (λ x. or_else x []) e
key_fault plain.ignore plain.short rows pending e = ap (λ x. or_else x []) e
key_fault plain.ignore plain.long rows pending e = ap (λ x. or_else x []) e

no_minus : (c : ℕ) (word : Text) → is_value (c ∷ word) ≡ true → (c == 45) ≡ false
no_minus c word e = go (c == 45) refl e
  where
    go : (b : Bool) → (c == 45) ≡ b → not b ≡ true → (c == 45) ≡ false
    go true t x = absurd (true≢false (sym x))
    go false t x = t

no_dashes : (v : Text) → is_value v ≡ true → bytes_eq v (45 ∷ 45 ∷ []) ≡ false
no_dashes [] e = absurd (true≢false (sym e))
no_dashes (c ∷ word) e = ap (λ b. b && bytes_eq word (45 ∷ [])) (no_minus c word e)

no_long : (v : Text) → is_value v ≡ true → long_of v ≡ None
no_long [] e = absurd (true≢false (sym e))
no_long (c ∷ word) e = rw (no_minus c word e) refl

no_short : (v : Text) → is_value v ≡ true → short_of v ≡ None
no_short [] e = absurd (true≢false (sym e))
no_short (c ∷ word) e = rw (no_minus c word e) refl

value_met : (name : Text) (v : Text) (h : Held) → is_value v ≡ true → word_met rules [] false (option name) 1 v h ≡ plain_word rules (option name) v h
value_met name v h e =
    ap (λ b. cond b (h, trailing 1) (long_or_other rules (option name) v (long_of v) h)) (no_dashes v e)
    ∙ ap (λ o. long_or_other rules (option name) v o h) (no_long v e) ∙ ap (λ o. short_or_plain rules (option name) v o h) (no_short v e)

value_quiet : (name : Text) (v : Text) (h : Held) → is_value v ≡ true → word_fault shape [] false (option name) v h ≡ []
value_quiet name v h e =
    ap (λ b. cond b [] (flag_word_fault rules false (long_of v) v h)) (no_dashes v e)
    ∙ ap (λ o. flag_word_fault rules false o v h) (no_long v e) ∙ ap (λ o. option_map_or (λ flags. bundle_fault rules false flags h) o []) (no_short v e)

abbrev value_step : List Row → Key → Text → Held × Step
value_step rows k v = plain_word rules (option (key_name k)) v (held rows (Some (key_name k, [])))

value_after : (k : Key) (rows : List Row) (v : Text) → after_step rules v (waiting_for rows k) (value_step rows k v).0 (value_step rows k v).1 ≡ at rows (Some (key_name k, v ∷ []))
unfolding clap_on_literals
value_after plain.limit rows v = refl
value_after plain.flags rows v = refl
value_after plain.root rows v = refl
value_after plain.demo rows v = refl
value_after plain.apply rows v = refl
value_after plain.ignore rows v = refl

value_rest : (k : Key) (rows : List Row) (v : Text) → step_fault shape 1 (value_step rows k v).0 (value_step rows k v).1 ≡ []
unfolding clap_on_literals
value_rest plain.limit rows v = refl
value_rest plain.flags rows v = refl
value_rest plain.root rows v = refl
value_rest plain.demo rows v = refl
value_rest plain.apply rows v = refl
value_rest plain.ignore rows v = refl

value_walked : (k : Key) (rows : List Row) (v : Text) → is_value v ≡ true → walked rules [] (waiting_for rows k) v ≡ at rows (Some (key_name k, v ∷ []))
unfolding walked
value_walked k rows v e =
    ap (λ (m : Held × Step). after_step rules v (waiting_for rows k) m.0 m.1) (value_met (key_name k) v (held rows (Some (key_name k, []))) e) ∙ value_after k rows v

value_fault : (k : Key) (rows : List Row) (v : Text) → is_value v ≡ true → turn_fault shape [] (waiting_for rows k) v ≡ []
value_fault k rows v e =
    let h = held rows (Some (key_name k, [])) in
    ap (λ (m : Held × Step). or_else (word_fault shape [] false (option (key_name k)) v h) (step_fault shape 1 m.0 m.1)) (value_met (key_name k) v h e)
    ∙ ap (λ x. or_else x (step_fault shape 1 (value_step rows k v).0 (value_step rows k v).1)) (value_quiet (key_name k) v h e)
    ∙ value_rest k rows v

value_logical : (k : Key) (rows : List Row) (v : Text) → logical rows (Some (key_name k, v ∷ [])) ≡ replaced (key_name k) (v ∷ []) rows
value_logical plain.limit rows v = refl
value_logical plain.flags rows v = refl
value_logical plain.root rows v = refl
value_logical plain.demo rows v = refl
value_logical plain.apply rows v = refl
value_logical plain.ignore rows v = refl

value_owed : (k : Key) (rows : List Row) (v : Text) → has_row (key_name k) rows ≡ false → owed rows (Some (key_name k, v ∷ [])) ≡ []
value_owed plain.limit rows v n = ap (λ b. or_else [] (or_else (repeats b) [])) n
value_owed plain.flags rows v n = ap (λ b. or_else [] (or_else (repeats b) [])) n
value_owed plain.root rows v n = ap (λ b. or_else [] (or_else (repeats b) [])) n
value_owed plain.demo rows v n = ap (λ b. or_else [] (or_else (repeats b) [])) n
value_owed plain.apply rows v n = ap (λ b. or_else [] (or_else (repeats b) [])) n
value_owed plain.ignore rows v n = ap (λ b. or_else [] (or_else (repeats b) [])) n

-- ---- rows

pub neither : (a b : Bool) → (a || b) ≡ false → (a ≡ false) × (b ≡ false)
neither false b e = (refl, e)
neither true b e = absurd (true≢false e)

pub at_row_end : (name : Text) (change : Row → List Row) (missing rows : List Row) → has_row name rows ≡ false → at_row name change missing rows ≡ rows ++ missing
at_row_end name change missing [] e = refl
at_row_end name change missing (r ∷ rs) e =
    let parts = neither (bytes_eq r.id name) (has_row name rs) e in
    rw (parts.0) (ap (λ xs. r ∷ xs) (at_row_end name change missing rs parts.1))

pub new_row : (name : Text) (values : List Text) (rows : List Row) → has_row name rows ≡ false → replaced name values rows ≡ rows ++ row name values ∷ []
new_row name values rows e =
    ap (with_values name AsWritten CommandLine values) (at_row_end name (λ _. []) [] rows e ∙ append-nil rows) ∙ at_row_end name (more_values CommandLine values) (row name values ∷ []) rows e

pub has_row_append : (name : Text) (xs ys : List Row) → has_row name (xs ++ ys) ≡ (has_row name xs || has_row name ys)
has_row_append name [] ys = refl
has_row_append name (x ∷ xs) ys = go (bytes_eq x.id name) (has_row_append name xs ys)
  where
    go : (b : Bool) → has_row name (xs ++ ys) ≡ (has_row name xs || has_row name ys) → (b || has_row name (xs ++ ys)) ≡ ((b || has_row name xs) || has_row name ys)
    go true e = refl
    go false e = e

-- ---- the options

abbrev pub part_values : Part → List Text
part_values (on f s) = codes "true" ∷ []
part_values (given k s v) = v ∷ []

abbrev pub part_row : Part → Row
part_row p = row (part_name p) (part_values p)

-- no row has the name of one of the options
abbrev pub fresh : List Part → List Row → Bool
fresh [] rows = true
fresh (p ∷ ps) rows = not (has_row (part_name p) rows) && fresh ps rows

pub is_false : (b : Bool) → not b ≡ true → b ≡ false
is_false true e = absurd (true≢false (sym e))
is_false false e = refl

fresh_more : (ps : List Part) (rows : List Row) (name : Text) (values : List Text) → fresh ps rows ≡ true → is_new name ps ≡ true → fresh ps (rows ++ row name values ∷ []) ≡ true
fresh_more [] rows name values e n = refl
fresh_more (p ∷ ps) rows name values e n =
    let parts = both _ _ e in
    let others = neither (bytes_eq name (part_name p)) (list_any (λ q. bytes_eq name (part_name q)) ps) (is_false _ n) in
    let none : has_row (part_name p) (rows ++ row name values ∷ []) ≡ false =
    has_row_append (part_name p) rows (row name values ∷ []) ∙ ap₂ (λ a b. a || (b || false)) (is_false _ parts.0) others.0 in
    let rest : not (list_any (λ q. bytes_eq name (part_name q)) ps) ≡ true = ap not others.1 in
    ap₂ (λ a b. not a && b) none (fresh_more ps rows name values parts.1 rest)

-- the walk over the options of plain words
pub parts_walked : (parts : List Part) (rows : List Row) (pending : Pending) (more : List Text) → are_plain parts ≡ true → owed rows pending ≡ [] → fresh parts (logical rows pending) ≡ true
    → (rows' : List Row) × (pending' : Pending) × (fold (walked rules []) (at rows pending) (option_words parts ++ more) ≡ fold (walked rules []) (at rows' pending') more)
    × (walk_fault shape [] (at rows pending) (option_words parts ++ more) ≡ walk_fault shape [] (at rows' pending') more)
    × (owed rows' pending' ≡ []) × (logical rows' pending' ≡ logical rows pending ++ map part_row parts)
unfolding walk_fault
parts_walked [] rows pending more are e f = (rows, pending, refl, refl, e, sym (append-nil _))
parts_walked (on g s ∷ ps) rows pending more are e f =
    let plain_parts = both true (is_new (flag_name g) ps && are_plain ps) are in
    let new_parts = both (is_new (flag_name g) ps) (are_plain ps) plain_parts.1 in
    let fresh_parts = both _ _ f in
    let none = is_false _ fresh_parts.0 in
    let values = codes "true" ∷ [] in
    let after = logical rows pending ++ row (flag_name g) values ∷ [] in
    let step : walked rules [] (at rows pending) (flag_word g s) ≡ at after None = flag_walked g s rows pending ∙ ap (λ rs. at rs None) (new_row (flag_name g) values (logical rows pending) none) in
    let next = parts_walked ps after None more new_parts.1 refl (fresh_more ps (logical rows pending) (flag_name g) values fresh_parts.1 new_parts.0) in (
      next.0,
      next.1,
      ap (λ w. fold (walked rules []) w (option_words ps ++ more)) step ∙ next.2,
      ap₂ (λ x w. or_else x (walk_fault shape [] w (option_words ps ++ more))) (flag_fault g s rows pending e none) step ∙ next.3,
      next.4,
      next.5 ∙ append_assoc (logical rows pending) (row (flag_name g) values ∷ []) (map part_row ps),
    )
parts_walked (given k s v ∷ ps) rows pending more are e f =
    let plain_parts = both _ _ are in
    let new_parts = both _ _ plain_parts.1 in
    let fresh_parts = both _ _ f in
    let none = is_false _ fresh_parts.0 in
    let values = v ∷ [] in
    let mid = logical rows pending in
    let after : logical mid (Some (key_name k, values)) ≡ mid ++ row (key_name k) values ∷ [] = value_logical k mid v ∙ new_row (key_name k) values mid none in
    let next = parts_walked ps mid (Some (key_name k, values)) more new_parts.1 (value_owed k mid v none)
    (ap (fresh ps) after ∙ fresh_more ps mid (key_name k) values fresh_parts.1 new_parts.0) in
    let first = key_walked k s rows pending in
    let second = value_walked k mid v plain_parts.0 in (
      next.0,
      next.1,
      ap (λ w. fold (walked rules []) (walked rules [] w v) (option_words ps ++ more)) first ∙ ap (λ w. fold (walked rules []) w (option_words ps ++ more)) second ∙ next.2,
      ap₂ (λ x w. or_else x (or_else (turn_fault shape [] w v) (walk_fault shape [] (walked rules [] w v) (option_words ps ++ more)))) (key_fault k s rows pending e) first
          ∙ ap₂ (λ x w. or_else x (walk_fault shape [] w (option_words ps ++ more))) (value_fault k mid v plain_parts.0) second ∙ next.3,
      next.4,
      next.5 ∙ ap (λ rs. rs ++ map part_row ps) after ∙ append_assoc mid (row (key_name k) values ∷ []) (map part_row ps),
    )
