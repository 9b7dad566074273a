-- What the getters read after a parse of plain words: the table.
use Rattle.std.proofs.Common.{◌≡◌, ◌∙◌, ap, ap₂, cond, refl, sym, true, false, true≢false, not, Bool, List, [], ◌∷◌, ◌++◌, Option, Some, None, ◌&&◌, ◌||◌, option_map, arith, eqb-true}
use Rattle.std.specs.Prelude.{codes, find, fold, is_some, option_and_then, slice_get, unwrap_or}
use Rattle.std.specs.List.{list_all}
use Rattle.std.specs.Option.{option_map_or}
use Rattle.std.specs.Str.{bytes_eq}
use Rattle.std.proofs.lemmas.Slice.Eq.{bytes_eq-Decides}
use Rattle.clap.specs.Facts.{explicit_source}
use Rattle.clap.specs.Walk.{Row, Rule, Text, Walk, default_rows, finished, has_row, is_empty, more_values, reading_by, settled, with_default}
use Rattle.clap.specs.Faults.{check_fault, default_fault, defaults_fault, entered_fault, given_default_fault, settle_fault}
use Rattle.clap.specs.Kinds.{Kinds, check_kinds, or_else}
use Rattle.clap.specs.Simple.{built, entered}
use Rattle.clap.specs.Takes.{is_given}
use Rattle.clap.specs.Words.{all_of, fault_of, first_of, matches_of}
use Rattle.clap.specs.declared.parser.matches.ValueSource.TheVariants.{DefaultValue}
use Rattle.clap.specs.declared.builder.value_parser.Reading.{Reading}
use Rattle.clap.proofs.WalkLemmas.{both, find-map}
use Rattle.sd_words.specs.Command.{command}
use Rattle.sd_words.specs.Number.{number_of}
use Rattle.sd_words.specs.Plain as plain
use Rattle.sd_words.specs.Plain.{Flag, Key, Part, FileWordsAskForTheirFiles, PlainWordsHaveTheTable, TreeWordsAskForTheirTree, flag_name, given, is_on, key_name, on, part_name, part_value, plain_words, table, value_of}
use Rattle.sd_words.specs.Order.{is_set, options_in, order_if, order_in, order_of}
use Rattle.sd_words.proofs.laws.PlainWalk.{at_row_end, held, logical, part_row, row, rules, shape}
use Rattle.sd_words.proofs.laws.PlainRest.{all_rows, flag_no_key, key_no_flag, no_find, no_replace, no_words, options_rows, plain_walked, rest_rows, two_rows}

abbrev with_id : Text → List Row → Option Row
with_id name rows = find (λ r. bytes_eq r.id name) rows

abbrev first_some : Option Row → Option Row → Option Row
first_some (Some r) o = Some r
first_some None o = o

with_id_append : (name : Text) (xs ys : List Row) → with_id name (xs ++ ys) ≡ first_some (with_id name xs) (with_id name ys)
with_id_append name [] ys = refl
with_id_append name (x ∷ xs) ys = go (bytes_eq x.id name) (with_id_append name xs ys)
  where
    go : (b : Bool) → with_id name (xs ++ ys) ≡ first_some (with_id name xs) (with_id name ys)
        → cond b (Some x) (with_id name (xs ++ ys)) ≡ first_some (cond b (Some x) (with_id name xs)) (with_id name ys)
    go true e = refl
    go false e = e

has_with_id : (name : Text) (rows : List Row) → has_row name rows ≡ is_some (with_id name rows)
has_with_id name [] = refl
has_with_id name (x ∷ xs) = go (bytes_eq x.id name) (has_with_id name xs)
  where
    go : (b : Bool) → has_row name xs ≡ is_some (with_id name xs) → (b || has_row name xs) ≡ is_some (cond b (Some x) (with_id name xs))
    go true e = refl
    go false e = e

-- ---- defaults

abbrev default_row : Text → Reading → List Text → Option Row
default_row name how [] = None
default_row name how (v ∷ vs) = Some (record { id = name; values = v ∷ vs; count = None; source = Some DefaultValue; reading = how })

-- the row of a name, where an argument may bring its default
abbrev pick : Text → Option Row → Rule → Option Row
pick name (Some r) a = Some r
pick name None a = cond (bytes_eq a.id name) (default_row a.id (reading_by a) a.defaults) None

default_brought : (name : Text) (a : Rule) (how : Reading) (defaults : List Text) (rows : List Row) → has_row a.id rows ≡ false
    → with_id name (default_rows a.id how defaults rows) ≡ first_some (with_id name rows) (cond (bytes_eq a.id name) (default_row a.id how defaults) None)
default_brought name a how [] rows e = go (with_id name rows) (bytes_eq a.id name)
  where
    go : (o : Option Row) (b : Bool) → o ≡ first_some o (cond b None None)
    go (Some r) b = refl
    go None true = refl
    go None false = refl
default_brought name a how (v ∷ vs) rows e =
    let brought : Row = record { id = a.id; values = v ∷ vs; count = None; source = Some DefaultValue; reading = how } in
    ap (with_id name) (at_row_end a.id (more_values DefaultValue (v ∷ vs)) (brought ∷ []) rows e) ∙ with_id_append name rows (brought ∷ [])

picked : (name : Text) (o : Option Row) (a : Rule) → first_some o (cond (bytes_eq a.id name) (default_row a.id (reading_by a) a.defaults) None) ≡ pick name o a
picked name (Some r) a = refl
picked name None a = refl

default_found : (name : Text) (rows : List Row) (a : Rule) → with_id name (with_default rows a) ≡ pick name (with_id name rows) a
default_found name rows a = go (has_row a.id rows) refl
  where
    there : (o : Option Row) (b : Bool) → with_id name rows ≡ o → bytes_eq a.id name ≡ b → has_row a.id rows ≡ true → o ≡ pick name o a
    there (Some r) b o-is b-is h = refl
    there None false o-is b-is h = rw b-is refl
    there None true o-is b-is h =
        let same : a.id ≡ name = (bytes_eq-Decides a.id name).0 b-is in
        absurd (true≢false (sym h ∙ ap (λ n. has_row n rows) same ∙ has_with_id name rows ∙ ap is_some o-is))

    go : (b : Bool) → has_row a.id rows ≡ b → with_id name (with_default rows a) ≡ pick name (with_id name rows) a
    go true e = ap (λ b. with_id name (cond b rows (default_rows a.id (reading_by a) a.defaults rows))) e ∙ there (with_id name rows) (bytes_eq a.id name) refl refl e
    go false e = ap (λ b. with_id name (cond b rows (default_rows a.id (reading_by a) a.defaults rows))) e
        ∙ default_brought name a (reading_by a) a.defaults rows e ∙ picked name (with_id name rows) a

defaults_found : (name : Text) (rows : List Row) (more : List Rule) → with_id name (fold with_default rows more) ≡ fold (pick name) (with_id name rows) more
defaults_found name rows [] = refl
defaults_found name rows (a ∷ more) = defaults_found name (with_default rows a) more ∙ ap (λ o. fold (pick name) o more) (default_found name rows a)

-- the row of a name at the end of a parse, by its row before defaults
abbrev in_the_end : Text → Option Row → Option Row
in_the_end name o = fold (pick name) o rules

-- ---- the rows of plain words

abbrev part_with : Text → List Part → Option Part
part_with name parts = find (λ p. bytes_eq (part_name p) name) parts

of_options : (name : Text) (parts : List Part) → with_id name (options_rows parts) ≡ option_map part_row (part_with name parts)
of_options name parts = sym (find-map (λ (r : Row). bytes_eq r.id name) part_row parts)

none_with : (name : Text) → ((p : Part) → bytes_eq (part_name p) name ≡ false) → (parts : List Part) → with_id name (options_rows parts) ≡ None
none_with name none [] = refl
none_with name none (p ∷ ps) = ap (λ b. cond b (Some (part_row p)) (with_id name (options_rows ps))) (none p) ∙ none_with name none ps

flag_later : (f : Flag) (first second : Text) (rest : List Text) → with_id (flag_name f) (two_rows first second ++ rest_rows rest) ≡ None
flag_later plain.preview first second [] = refl
flag_later plain.preview first second (word ∷ rest) = refl
flag_later plain.fixed_strings first second [] = refl
flag_later plain.fixed_strings first second (word ∷ rest) = refl
flag_later plain.string_mode first second [] = refl
flag_later plain.string_mode first second (word ∷ rest) = refl
flag_later plain.line_mode first second [] = refl
flag_later plain.line_mode first second (word ∷ rest) = refl

key_later : (k : Key) (first second : Text) (rest : List Text) → with_id (key_name k) (two_rows first second ++ rest_rows rest) ≡ None
key_later plain.limit first second [] = refl
key_later plain.limit first second (word ∷ rest) = refl
key_later plain.flags first second [] = refl
key_later plain.flags first second (word ∷ rest) = refl
key_later plain.root first second [] = refl
key_later plain.root first second (word ∷ rest) = refl
key_later plain.demo first second [] = refl
key_later plain.demo first second (word ∷ rest) = refl
key_later plain.apply first second [] = refl
key_later plain.apply first second (word ∷ rest) = refl
key_later plain.ignore first second [] = refl
key_later plain.ignore first second (word ∷ rest) = refl

or_none : (o : Option Row) → first_some o None ≡ o
or_none (Some r) = refl
or_none None = refl

-- the row of an option, at the end
option_row : (name : Text) (parts : List Part) (first second : Text) (rest : List Text) → with_id name (two_rows first second ++ rest_rows rest) ≡ None
    → with_id name (fold with_default (all_rows parts first second rest) rules) ≡ in_the_end name (option_map part_row (part_with name parts))
option_row name parts first second rest none =
    defaults_found name (all_rows parts first second rest) rules
    ∙ ap (in_the_end name) (with_id_append name (options_rows parts) (two_rows first second ++ rest_rows rest) ∙ ap₂ first_some (of_options name parts) none ∙ or_none _)

-- the row of one of the words after the options, at the end
word_row : (name : Text) (parts : List Part) (first second : Text) (rest : List Text) → ((p : Part) → bytes_eq (part_name p) name ≡ false)
    → with_id name (fold with_default (all_rows parts first second rest) rules) ≡ in_the_end name (with_id name (two_rows first second ++ rest_rows rest))
word_row name parts first second rest none =
    defaults_found name (all_rows parts first second rest) rules
    ∙ ap (in_the_end name) (with_id_append name (options_rows parts) (two_rows first second ++ rest_rows rest)
    ∙ ap (λ o. first_some o (with_id name (two_rows first second ++ rest_rows rest))) (none_with name none parts))

-- ---- what the getters read

abbrev first_value : Option Row → Option Text
first_value o = option_and_then (λ r. slice_get r.values 0) o

abbrev reads_true : Option Row → Bool
reads_true o = option_map_or (λ text. bytes_eq text (codes "true")) (first_value o) false

abbrev flag_read : Flag → Option Part → Bool
flag_read f o = reads_true (in_the_end (flag_name f) (option_map part_row o))

flag_unset : (f : Flag) → flag_read f None ≡ false
flag_unset plain.preview = refl
flag_unset plain.fixed_strings = refl
flag_unset plain.string_mode = refl
flag_unset plain.line_mode = refl

flag_reads : (f : Flag) (parts : List Part) → flag_read f (part_with (flag_name f) parts) ≡ is_on f parts
flag_reads f [] = flag_unset f
flag_reads f (on g s ∷ ps) = go (bytes_eq (flag_name g) (flag_name f)) (flag_reads f ps)
  where
    go : (b : Bool) → flag_read f (part_with (flag_name f) ps) ≡ is_on f ps → flag_read f (cond b (Some (on g s)) (part_with (flag_name f) ps)) ≡ (b || is_on f ps)
    go true e = refl
    go false e = e
flag_reads f (given k s v ∷ ps) =
    ap (λ b. flag_read f (cond b (Some (given k s v)) (part_with (flag_name f) ps))) (key_no_flag k f) ∙ flag_reads f ps ∙ sym (ap (λ b. b || is_on f ps) (key_no_flag k f))

abbrev key_read : Key → Option Part → Option Text
key_read k o = first_value (in_the_end (key_name k) (option_map part_row o))

key_unset : (k : Key) → key_read k None ≡ None
key_unset plain.limit = refl
key_unset plain.flags = refl
key_unset plain.root = refl
key_unset plain.demo = refl
key_unset plain.apply = refl
key_unset plain.ignore = refl

key_reads : (k : Key) (parts : List Part) → key_read k (part_with (key_name k) parts) ≡ value_of k parts
key_reads k [] = key_unset k
key_reads k (on g s ∷ ps) =
    ap (λ b. key_read k (cond b (Some (on g s)) (part_with (key_name k) ps))) (flag_no_key g k) ∙ key_reads k ps
    ∙ sym (ap (λ b. option_and_then part_value (cond b (Some (on g s)) (part_with (key_name k) ps))) (flag_no_key g k))
key_reads k (given j s v ∷ ps) = go (bytes_eq (key_name j) (key_name k)) (key_reads k ps)
  where
    go : (b : Bool) → key_read k (part_with (key_name k) ps) ≡ value_of k ps
        → key_read k (cond b (Some (given j s v)) (part_with (key_name k) ps)) ≡ option_and_then part_value (cond b (Some (given j s v)) (part_with (key_name k) ps))
    go true e = refl
    go false e = e

module _ (parts : List Part) (first second : Text) (rest : List Text) where
  abbrev final : List Row
  final = fold with_default (all_rows parts first second rest) rules

  flag_field : (f : Flag) → is_set (flag_name f) final ≡ is_on f parts
  flag_field f = ap reads_true (option_row (flag_name f) parts first second rest (flag_later f first second rest)) ∙ flag_reads f parts

  key_field : (k : Key) → first_of (key_name k) final ≡ value_of k parts
  key_field k = ap first_value (option_row (key_name k) parts first second rest (key_later k first second rest)) ∙ key_reads k parts

  find_row : with_id (codes "find") final ≡ Some (row (codes "find") (first ∷ []))
  find_row = word_row (codes "find") parts first second rest no_find

  replace_row : with_id (codes "replace-with") final ≡ Some (row (codes "replace-with") (second ∷ []))
  replace_row = word_row (codes "replace-with") parts first second rest no_replace

  rest_field : unwrap_or (all_of (codes "words") final) [] ≡ rest
  rest_field = ap (λ o. unwrap_or (option_map (λ (r : Row). r.values) o) []) (word_row (codes "words") parts first second rest no_words) ∙ go rest
    where
      go : (ws : List Text) → unwrap_or (option_map (λ (r : Row). r.values) (in_the_end (codes "words") (with_id (codes "words") (two_rows first second ++ rest_rows ws)))) [] ≡ ws
      go [] = refl
      go (word ∷ ws) = refl

  options_are : options_in final ≡ table parts first second rest
  options_are = λ i. record {
    preview = flag_field plain.preview i;
    literal_mode = flag_field plain.fixed_strings i || flag_field plain.string_mode i;
    line_mode = flag_field plain.line_mode i;
    replacements = unwrap_or (option_and_then number_of (key_field plain.limit i)) 0;
    flags = key_field plain.flags i;
    root = key_field plain.root i;
    demo = option_and_then number_of (key_field plain.demo i);
    apply = key_field plain.apply i;
    ignore = key_field plain.ignore i;
    find = ap (λ o. unwrap_or (first_value o) []) find_row i;
    replace_with = ap (λ o. unwrap_or (first_value o) []) replace_row i;
    words = rest_field i;
  }

  order_is : order_in final ≡ order_if (value_of plain.limit parts) (value_of plain.demo parts) (table parts first second rest)
  order_is = λ i. order_if (key_field plain.limit i) (key_field plain.demo i) (options_are i)

-- ---- nothing refuses them

abbrev is_quiet : Rule → Bool
is_quiet a = is_empty a.defaults || is_empty (given_default_fault a a.defaults)

no_kinds : (kinds : Kinds) → is_empty kinds ≡ true → kinds ≡ []
no_kinds [] e = refl
no_kinds (k ∷ ks) e = absurd (omega (arith, eqb-true _ _ e))

quiet_default : (rows : List Row) (a : Rule) → is_quiet a ≡ true → default_fault rows a ≡ []
quiet_default rows a e = go (has_row a.id rows) (is_empty a.defaults) refl
  where
    go : (b d : Bool) → is_empty a.defaults ≡ d → cond (b || d) [] (given_default_fault a a.defaults) ≡ []
    go true d d-is = refl
    go false true d-is = refl
    go false false d-is = no_kinds (given_default_fault a a.defaults) (ap (λ d. d || is_empty (given_default_fault a a.defaults)) (sym d-is) ∙ e)

quiet_defaults : (more : List Rule) (rows : List Row) → list_all is_quiet more ≡ true → defaults_fault rows more ≡ []
unfolding defaults_fault
quiet_defaults [] rows e = refl
quiet_defaults (a ∷ more) rows e =
    let parts = both _ _ e in
    ap₂ or_else (quiet_default rows a parts.0) (quiet_defaults more (with_default rows a) parts.1)

quiet_rules : list_all is_quiet rules ≡ true
quiet_rules = refl

abbrev wants_words : Bool → Bool → Kinds
wants_words a b = check_kinds false false (not a || (not b || false))

nothing_missing : (rows : List Row) → is_given (codes "find") rows ≡ true → is_given (codes "replace-with") rows ≡ true → check_fault shape rows false ≡ []
nothing_missing rows a b = ap₂ wants_words a b

-- the level's fault, by its walk and the fault of the walk
abbrev level_of : Walk → Kinds → Kinds
level_of w k = or_else k (or_else (entered_fault (built command) w.stopped)
    (or_else (settle_fault rules false w.held)
    (or_else (defaults_fault (settled rules w.held).rows rules) (check_fault shape (finished rules w.held) (is_some (entered (built command) w.stopped))))))

pub plain_words_read : PlainWordsHaveTheTable
unfolding order_of
plain_words_read parts first second rest are =
    let words = plain_words parts first second rest in
    let end = plain_walked parts first second rest are in
    let last = all_rows parts first second rest in
    let rows_are : finished rules (held end.0 end.1) ≡ fold with_default last rules = ap (λ rs. fold with_default rs rules) end.6 in
    let given_first : is_given (codes "find") (finished rules (held end.0 end.1)) ≡ true =
    ap (λ rs. is_given (codes "find") rs) rows_are ∙ ap (λ o. option_map_or (λ r. explicit_source r.source) o false) (find_row parts first second rest) in
    let given_second : is_given (codes "replace-with") (finished rules (held end.0 end.1)) ≡ true =
    ap (λ rs. is_given (codes "replace-with") rs) rows_are ∙ ap (λ o. option_map_or (λ r. explicit_source r.source) o false) (replace_row parts first second rest) in
    let no_fault : fault_of command words ≡ [] =
    ap₂ level_of end.3 end.4
    ∙ ap₂ (λ a b. or_else a (or_else b (check_fault shape (finished rules (held end.0 end.1)) false))) end.5 (quiet_defaults rules (logical end.0 end.1) quiet_rules)
    ∙ nothing_missing (finished rules (held end.0 end.1)) given_first given_second in
    let matched : matches_of command words ≡ fold with_default last rules = ap (λ (w : Walk). finished rules w.held) end.3 ∙ rows_are in
    ap₂ (λ (k : Kinds) rs. cond (is_empty k) (order_in rs) None) no_fault matched ∙ order_is parts first second rest

pub tree_words_read : TreeWordsAskForTheirTree
tree_words_read dir first second globs e = plain_words_read (given plain.root plain.long dir ∷ []) first second globs (ap (λ b. b && true) e)

pub file_words_read : FileWordsAskForTheirFiles
file_words_read first second files = plain_words_read [] first second files refl
