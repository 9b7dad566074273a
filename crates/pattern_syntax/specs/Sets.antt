-- Sets of characters, or of bytes where `u` is off.
use Rattle.std.specs.Int.{is_in_range}
use Rattle.std.specs.Prelude.{ℕ, Bool, false, List, [], ◌∷◌, codes, ◌==◌, ◌&&◌, ◌||◌, nat_lt, nat_eq, not, map, if◌then◌else◌, Option, unwrap_or}
use Rattle.std.specs.List.{list_any, starts_with}
use Rattle.std.specs.Map.{lookup}
use Rattle.std.specs.Option.{option_map_or}
use Rattle.std.specs.Char.{to_ascii_lowercase, to_ascii_uppercase, is_ascii_alphabetic, is_ascii_digit, is_ascii_graphic, is_ascii_lowercase, is_ascii_uppercase}
use Rattle.unicode.specs.CaseFolding.{fold_pairs}
use Rattle.unicode.specs.Perl.{is_digit_char, is_space_char, is_word_char}
use Rattle.unicode.specs.Sets.{in_set}
use Rattle.ucd_sets.specs.declared.set.Set.{Set as Named}
use Rattle.ucd_sets.specs.declared.set.Set.TheVariants.{Category, CategoryGroup}
use Rattle.ucd_category.specs.declared.GeneralCategory.TheVariants.{UppercaseLetter, LowercaseLetter, TitlecaseLetter, ModifierLetter, OtherLetter, NonspacingMark, SpacingMark, EnclosingMark, DecimalNumber, LetterNumber, OtherNumber, ConnectorPunctuation, DashPunctuation, OpenPunctuation, ClosePunctuation, InitialPunctuation, FinalPunctuation, OtherPunctuation, MathSymbol, CurrencySymbol, ModifierSymbol, OtherSymbol, SpaceSeparator, LineSeparator, ParagraphSeparator, Control, Format, PrivateUse, Unassigned}
use Rattle.ucd_category.specs.declared.GeneralCategoryGroup.TheVariants.{Letter, Mark, Number, Punctuation, Symbol, Separator, Other}
use Rattle.pattern_syntax.specs.declared.flags.Flags.{Flags}

abbrev pub Set : Type 0
Set = ℕ → Bool

abbrev pub none_of : Set
none_of c = false

abbrev pub union : Set → Set → Set
union s t c = s c || t c

abbrev pub is_scalar : ℕ → Bool
is_scalar c = nat_lt c 0xD800 || is_in_range 0xE000 0x10FFFF c

-- a character, or with `u` off a byte
abbrev pub is_any : Flags → Set
is_any k c = if k.unicode then is_scalar c else nat_lt c 256

abbrev pub complement : Flags → Set → Set
complement k s c = is_any k c && not (s c)

abbrev pub negated_if : Bool → Flags → Set → Set
negated_if negated k s = if negated then complement k s else s

-- FOLDING
-- with all characters that have the simple case folding of a member: a pair leads to one from a member
abbrev pub with_alike : Set → Set
with_alike s c = s c || list_any (λ (p : ℕ × ℕ). (p.1 == c) && s p.0) fold_pairs

-- with the other case of each ASCII letter
abbrev pub with_cases : Set → Set
with_cases s c = s c || (is_ascii_alphabetic c && (s (to_ascii_lowercase c) || s (to_ascii_uppercase c)))

-- closed under folding, with `i`
abbrev pub closed : Flags → Set → Set
closed k s = if k.folds then (if k.unicode then with_alike s else with_cases s) else s

-- a character folds with another
abbrev pub folds_with_another : Flags → ℕ → Bool
folds_with_another k c = if k.unicode then list_any (λ (p : ℕ × ℕ). p.0 == c) fold_pairs else is_ascii_alphabetic c

-- NAMED SETS
-- `[0-9A-Za-z_]`
abbrev pub is_ascii_word : Set
is_ascii_word c = is_ascii_digit c || is_ascii_alphabetic c || (c == 95)

-- `[\t\n\v\f\r ]`
abbrev pub is_ascii_space : Set
is_ascii_space c = is_in_range 9 13 c || (c == 32)

abbrev pub same_text : List ℕ → List ℕ → Bool
same_text a b = starts_with nat_eq a b && starts_with nat_eq b a

-- the first value with a name
abbrev pub value_of : {A : Type 0} → List (List ℕ × A) → List ℕ → Option A
value_of rows name = lookup (λ other. same_text other name) rows

-- the names in `[: :]`
abbrev pub ascii_names : List (List ℕ × Set)
ascii_names =
    (codes "alnum", λ c. is_ascii_digit c || is_ascii_alphabetic c) ∷ (codes "alpha", is_ascii_alphabetic) ∷ (codes "ascii", λ c. nat_lt c 128)
    ∷ (codes "blank", λ c. (c == 9) || (c == 32)) ∷ (codes "cntrl", λ c. nat_lt c 32 || (c == 127)) ∷ (codes "digit", is_ascii_digit)
    ∷ (codes "graph", is_ascii_graphic) ∷ (codes "lower", is_ascii_lowercase) ∷ (codes "print", is_in_range 32 126)
    ∷ (codes "punct", λ c. is_ascii_graphic c && not (is_ascii_digit c || is_ascii_alphabetic c)) ∷ (codes "space", is_ascii_space)
    ∷ (codes "upper", is_ascii_uppercase) ∷ (codes "word", is_ascii_word)
    ∷ (codes "xdigit", λ c. is_ascii_digit c || is_in_range 65 70 c || is_in_range 97 102 c) ∷ []

-- the names of general categories, in lower case
abbrev pub category_names : List (List ℕ × Named)
category_names =
    (codes "l", CategoryGroup Letter) ∷ (codes "m", CategoryGroup Mark) ∷ (codes "n", CategoryGroup Number)
    ∷ (codes "p", CategoryGroup Punctuation) ∷ (codes "s", CategoryGroup Symbol) ∷ (codes "z", CategoryGroup Separator)
    ∷ (codes "c", CategoryGroup Other) ∷ (codes "lu", Category UppercaseLetter) ∷ (codes "ll", Category LowercaseLetter)
    ∷ (codes "lt", Category TitlecaseLetter) ∷ (codes "lm", Category ModifierLetter) ∷ (codes "lo", Category OtherLetter)
    ∷ (codes "mn", Category NonspacingMark) ∷ (codes "mc", Category SpacingMark) ∷ (codes "me", Category EnclosingMark)
    ∷ (codes "nd", Category DecimalNumber) ∷ (codes "nl", Category LetterNumber) ∷ (codes "no", Category OtherNumber)
    ∷ (codes "pc", Category ConnectorPunctuation) ∷ (codes "pd", Category DashPunctuation)
    ∷ (codes "ps", Category OpenPunctuation) ∷ (codes "pe", Category ClosePunctuation) ∷ (codes "pi", Category InitialPunctuation)
    ∷ (codes "pf", Category FinalPunctuation) ∷ (codes "po", Category OtherPunctuation) ∷ (codes "sm", Category MathSymbol)
    ∷ (codes "sc", Category CurrencySymbol) ∷ (codes "sk", Category ModifierSymbol) ∷ (codes "so", Category OtherSymbol)
    ∷ (codes "zs", Category SpaceSeparator) ∷ (codes "zl", Category LineSeparator) ∷ (codes "zp", Category ParagraphSeparator)
    ∷ (codes "cc", Category Control) ∷ (codes "cf", Category Format) ∷ (codes "co", Category PrivateUse)
    ∷ (codes "cn", Category Unassigned) ∷ []

abbrev pub ascii_set : List ℕ → Set
ascii_set name = unwrap_or (value_of ascii_names name) none_of

-- a general category by its name, ASCII case ignored
abbrev pub category_named : List ℕ → Option Named
category_named name = value_of category_names (map to_ascii_lowercase name)

abbrev pub characters : Set → Set
characters s c = is_scalar c && s c

abbrev pub named_set : Option Named → Set
named_set name = option_map_or (λ (n : Named). characters (in_set n)) name none_of

-- `\p` and the name, or `\P` where it is negated: closed under folding before negation
abbrev pub category_set : Flags → Bool → List ℕ → Set
category_set k negated name = negated_if negated k (closed k (named_set (category_named name)))

-- `\d`, `\s` and `\w`
abbrev pub digits_of : Flags → Set
digits_of k = if k.unicode then characters is_digit_char else is_ascii_digit

abbrev pub spaces_of : Flags → Set
spaces_of k = if k.unicode then characters is_space_char else is_ascii_space

abbrev pub words_of : Flags → Set
words_of k = if k.unicode then characters is_word_char else is_ascii_word

-- `\d` and its like, by the letter
abbrev pub perl_set : Flags → ℕ → Set
perl_set k letter =
    if letter == 100 then digits_of k else if letter == 115 then spaces_of k else if letter == 119 then words_of k else
    if letter == 68 then complement k (digits_of k) else if letter == 83 then complement k (spaces_of k) else complement k (words_of k)
