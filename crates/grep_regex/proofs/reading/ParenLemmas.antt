-- A text has at least as many opening parentheses as groups are read in it.
use Rattle.std.proofs.Common.{◌≡◌, ◌≤◌, ℕ, ◌+◌, ◌==◌, Bool, true, false, if◌then◌else◌, Option, Some, None, List, [], ◌∷◌, ◌++◌, codes, length, refl, ap, arith}
use Rattle.std.proofs.Math.Utf8.{encodes}
use Rattle.std.proofs.lemmas.Str.{encodes-chars, length-le-encodes}
use Rattle.std.specs.Str.{chars, IsUtf8}
use Rattle.pattern_syntax.specs.declared.flags.Flags.{Flags}
use Rattle.pattern_syntax.specs.Flags.{FlagList, Blank, white, comment, write_blanks, write_off, write_flags}
use Rattle.pattern_syntax.specs.Atom.{Atom, character, escaped, control, coded, braced, octal, perl, category, category_braced, Digit, write_digits, write_braced, write_atom}
use Rattle.pattern_syntax.specs.Class.{Head, Inside, close, pass as pass_in, one, range, named as named_class, nested, operation, Operation, both, minus, either, write_after, write_dashes, write_head, write_operation, write_name, write_inside}
use Rattle.pattern_syntax.specs.Syntax.{Syntax, end, bar, pass, set, single, group, Single, atom, dot, caret, dollar, look, class, Edge, text_start, text_end, edge, no_edge, word_start, word_end, half_start, half_end, left, right, Number, Count, optional, star, plus, exactly, at_least, between, Kind, numbered, named, flagged, Repeated, write, write_single, write_number, write_count, write_repeats, write_kind, edge_of, write_p, write_swap}
use Rattle.pattern_syntax.specs.Reads.{Found, Reads, own, captures}
use Rattle.pattern_core.specs.Escape.{is_meta, escaped_text}

abbrev one_if : Bool → ℕ
one_if true = 1
one_if false = 0

-- how many opening parentheses a text has
abbrev pub parens : List ℕ → ℕ
parens [] = 0
parens (c ∷ t) = one_if (c == 40) + parens t

cons_parens : (c : ℕ) (t : List ℕ) → parens t ≤ parens (c ∷ t)
cons_parens c t = omega arith

append_parens : (s t : List ℕ) → parens t ≤ parens (s ++ t)
append_parens [] t = omega arith
append_parens (c ∷ s) t = let more = append_parens s t in omega arith

-- ---- what is written before a text

blanks_parens : (bs : List Blank) (t : List ℕ) → parens t ≤ parens (write_blanks bs t)
blanks_parens [] t = omega arith
blanks_parens (white c ∷ bs) t = let more = blanks_parens bs t in omega arith
blanks_parens (comment cs ∷ bs) t =
    let more = blanks_parens bs t in
    let line = append_parens cs (write_blanks bs t) in
    omega arith

digits_parens : (ds : List Digit) (t : List ℕ) → parens t ≤ parens (write_digits ds t)
digits_parens [] t = omega arith
digits_parens (d ∷ ds) t =
    let more = digits_parens ds t in
    let before = blanks_parens d.before (d.digit ∷ write_digits ds t) in
    omega arith

braced_parens : (letter : ℕ) (before : List Blank) (ds : List Digit) (behind : List Blank) (t : List ℕ) → parens t ≤ parens (write_braced letter before ds behind t)
braced_parens letter before ds behind t =
    let end : List ℕ = codes "}" ++ t in
    let last = blanks_parens behind end in
    let digits = digits_parens ds (write_blanks behind end) in
    let first = blanks_parens before (codes "{" ++ write_digits ds (write_blanks behind end)) in
    omega arith

atom_parens : (a : Atom) (t : List ℕ) → parens t ≤ parens (write_atom a t)
atom_parens (character c) t = cons_parens c t
atom_parens (escaped c) t = let first = cons_parens c t in omega arith
atom_parens (control letter) t = let first = cons_parens letter t in omega arith
atom_parens (coded letter ds) t = let digits = digits_parens ds t in omega arith
atom_parens (braced letter before ds behind) t = braced_parens letter before ds behind t
atom_parens (octal ds) t = let digits = append_parens ds t in omega arith
atom_parens (perl letter) t = let first = cons_parens letter t in omega arith
atom_parens (category letter before c) t = let first = blanks_parens before (c ∷ t) in omega arith
atom_parens (category_braced letter before ds behind) t = braced_parens letter before ds behind t

after_parens : (bs : Option (List Blank)) (cs t : List ℕ) → parens t ≤ parens (write_after bs cs t)
after_parens None cs t = omega arith
after_parens (Some bs) cs t =
    let first = blanks_parens bs (cs ++ t) in
    let mark = append_parens cs t in
    omega arith

dashes_parens : (dashes : List (List Blank)) (t : List ℕ) → parens t ≤ parens (write_dashes dashes t)
dashes_parens [] t = omega arith
dashes_parens (bs ∷ more) t =
    let rest = dashes_parens more t in
    let first = blanks_parens bs (codes "-" ++ write_dashes more t) in
    omega arith

head_parens : (h : Head) (t : List ℕ) → parens t ≤ parens (write_head h t)
head_parens h t =
    let bracket = after_parens h.bracket (codes "]") t in
    let dashes = dashes_parens h.dashes (write_after h.bracket (codes "]") t) in
    let caret = after_parens h.negated (codes "^") (write_dashes h.dashes (write_after h.bracket (codes "]") t)) in
    omega arith

name_parens : (negated : Bool) (name t : List ℕ) → parens t ≤ parens (write_name negated name t)
name_parens true name t =
    let last = append_parens (codes "[:^" ++ name ++ codes ":]") t in
    omega arith
name_parens false name t =
    let last = append_parens (codes "[:" ++ name ++ codes ":]") t in
    omega arith

operation_parens : (o : Operation) (t : List ℕ) → parens t ≤ parens (write_operation o t)
operation_parens both t = omega arith
operation_parens minus t = omega arith
operation_parens either t = omega arith

inside_parens : (p : Inside) (t : List ℕ) → parens t ≤ parens (write_inside p t)
inside_parens close t = omega arith
inside_parens (pass_in b p) t =
    let more = inside_parens p t in
    let first = blanks_parens (b ∷ []) (write_inside p t) in
    omega arith
inside_parens (one a p) t =
    let more = inside_parens p t in
    let first = atom_parens a (write_inside p t) in
    omega arith
inside_parens (range a bs cs b p) t =
    let w = write_inside p t in
    let more = inside_parens p t in
    let second = atom_parens b w in
    let behind = blanks_parens cs (write_atom b w) in
    let before = blanks_parens bs (codes "-" ++ write_blanks cs (write_atom b w)) in
    let first = atom_parens a (write_blanks bs (codes "-" ++ write_blanks cs (write_atom b w))) in
    omega arith
inside_parens (named_class negated name p) t =
    let more = inside_parens p t in
    let first = name_parens negated name (write_inside p t) in
    omega arith
inside_parens (nested h q p) t =
    let w = write_inside p t in
    let more = inside_parens p t in
    let inner = inside_parens q w in
    let first = head_parens h (write_inside q w) in
    omega arith
inside_parens (operation o p) t =
    let more = inside_parens p t in
    let first = operation_parens o (write_inside p t) in
    omega arith

edge_parens : (e : Edge) (t : List ℕ) → parens t ≤ parens ((edge_of e).0 ++ t)
edge_parens text_start t = omega arith
edge_parens text_end t = omega arith
edge_parens edge t = omega arith
edge_parens no_edge t = omega arith
edge_parens word_start t = omega arith
edge_parens word_end t = omega arith
edge_parens half_start t = omega arith
edge_parens half_end t = omega arith
edge_parens left t = omega arith
edge_parens right t = omega arith

single_parens : (s : Single) (t : List ℕ) → parens t ≤ parens (write_single s t)
single_parens (atom a) t = atom_parens a t
single_parens dot t = omega arith
single_parens caret t = omega arith
single_parens dollar t = omega arith
single_parens (look e) t = edge_parens e t
single_parens (class h p) t =
    let more = inside_parens p t in
    let first = head_parens h (write_inside p t) in
    omega arith

number_parens : (n : Number) (t : List ℕ) → parens t ≤ parens (write_number n t)
number_parens n t = append_parens (n.before ++ n.digits ++ n.behind) t

count_parens : (n : Count) (t : List ℕ) → parens t ≤ parens (write_count n t)
count_parens optional t = omega arith
count_parens star t = omega arith
count_parens plus t = omega arith
count_parens (exactly n) t = let number = number_parens n (codes "}" ++ t) in omega arith
count_parens (at_least n) t = let number = number_parens n (codes ",}" ++ t) in omega arith
count_parens (between n m) t =
    let most = number_parens m (codes "}" ++ t) in
    let least = number_parens n (codes "," ++ write_number m (codes "}" ++ t)) in
    omega arith

swap_parens : (swaps : Bool) (t : List ℕ) → parens t ≤ parens (write_swap swaps t)
swap_parens true t = omega arith
swap_parens false t = omega arith

repeats_parens : (rs : List Repeated) (t : List ℕ) → parens t ≤ parens (write_repeats rs t)
repeats_parens [] t = omega arith
repeats_parens (r ∷ rs) t =
    let w = write_swap r.swaps (write_repeats rs t) in
    let more = repeats_parens rs t in
    let swap = swap_parens r.swaps (write_repeats rs t) in
    let gap = blanks_parens r.gap w in
    let count = count_parens r.count (write_blanks r.gap w) in
    let before = blanks_parens r.before (write_count r.count (write_blanks r.gap w)) in
    omega arith

flags_parens : (l : FlagList) (t : List ℕ) → parens t ≤ parens (write_flags l t)
flags_parens l t =
    let off = off_parens l.off t in
    let on = append_parens l.on (write_off l.off t) in
    omega arith
  where
    off_parens : (off : Option (List ℕ)) (t : List ℕ) → parens t ≤ parens (write_off off t)
    off_parens None t = omega arith
    off_parens (Some letters) t = append_parens (codes "-" ++ letters) t

p_parens : (p : Bool) (t : List ℕ) → parens t ≤ parens (write_p p t)
p_parens true t = omega arith
p_parens false t = omega arith

-- each group that captures has one of its own
kind_parens : (m : Kind) (t : List ℕ) → own m + parens t ≤ parens (write_kind m t)
kind_parens numbered t = omega arith
kind_parens (named bs p name) t =
    let last : List ℕ = codes "<" ++ name ++ codes ">" ++ t in
    let name = append_parens (codes "<" ++ name ++ codes ">") t in
    let mark = p_parens p last in
    let blanks = blanks_parens bs (codes "?" ++ write_p p last) in
    omega arith
kind_parens (flagged bs l) t =
    let flags = flags_parens l (codes ":" ++ t) in
    let blanks = blanks_parens bs (codes "?" ++ write_flags l (codes ":" ++ t)) in
    omega arith

syntax_parens : (p : Syntax) (t : List ℕ) → captures p + parens t ≤ parens (write p t)
syntax_parens end t = omega arith
syntax_parens (bar p) t = let more = syntax_parens p t in omega arith
syntax_parens (pass b p) t =
    let more = syntax_parens p t in
    let first = blanks_parens (b ∷ []) (write p t) in
    omega arith
syntax_parens (set bs l p) t =
    let w : List ℕ = codes ")" ++ write p t in
    let more = syntax_parens p t in
    let flags = flags_parens l w in
    let blanks = blanks_parens bs (codes "?" ++ write_flags l w) in
    omega arith
syntax_parens (single s rs p) t =
    let more = syntax_parens p t in
    let repeats = repeats_parens rs (write p t) in
    let first = single_parens s (write_repeats rs (write p t)) in
    omega arith
syntax_parens (group m q rs p) t =
    let w : List ℕ = codes ")" ++ write_repeats rs (write p t) in
    let more = syntax_parens p t in
    let repeats = repeats_parens rs (write p t) in
    let inner = syntax_parens q w in
    let first = kind_parens m (write q w) in
    omega arith

-- A reading has at most as many groups as its text has opening parentheses.
pub read_parens : (k : Flags) (text : List ℕ) (found : Found) → Reads k text found → found.groups ≤ parens text
read_parens k text found read =
    let most = syntax_parens read.syntax [] in
    let groups : found.groups ≡ captures read.syntax = ap (λ (found : Found). found.groups) read.read in
    let spelt : parens text ≡ parens (write read.syntax []) = ap parens read.written in
    omega arith

-- ---- escaped texts

char_parens : (c : ℕ) (m : Bool) (t u : List ℕ) → parens t ≡ parens u → parens ((if m then codes "\\" ++ c ∷ [] else c ∷ []) ++ t) ≡ parens (c ∷ u)
char_parens c true t u same = omega arith
char_parens c false t u same = omega arith

-- an escaped text has as many as the text
pub escaped_parens : (cs : List ℕ) → parens (escaped_text cs) ≡ parens cs
escaped_parens [] = refl
escaped_parens (c ∷ cs) = char_parens c (is_meta c) (escaped_text cs) cs (escaped_parens cs)

-- ---- bytes of a text

if_parens : (b : Bool) → one_if b ≤ 1
if_parens true = omega arith
if_parens false = omega arith

length_parens : (cs : List ℕ) → parens cs ≤ length cs
length_parens [] = omega arith
length_parens (c ∷ cs) =
    let more = length_parens cs in
    let first = if_parens (c == 40) in
    omega arith

-- a text has no more of them than it has bytes
pub text_parens : (bytes : List ℕ) → IsUtf8 bytes → parens (chars bytes) ≤ length bytes
text_parens bytes utf8 =
    let most = length_parens (chars bytes) in
    let shorter = length-le-encodes (chars bytes) in
    let same : length (encodes (chars bytes)) ≡ length bytes = ap length (encodes-chars bytes utf8) in
    omega arith
