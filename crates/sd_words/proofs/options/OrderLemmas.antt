-- What a parse of the command says of the order.
use Rattle.std.proofs.Common.{◌≡◌, ◌∙◌, ℕ, Bool, ap, ap₂, cond, inl, inr, refl, sym, true, false, true≢false, List, [], ◌∷◌, Option, Some, None, ◌&&◌, arith, ne_eqb}
use Rattle.std.specs.Prelude.{MatchResult, Result, Ok, Err, codes, is_some, option_and_then}
use Rattle.std.specs.Result.{result_ok}
use Rattle.std.proofs.lemmas.Option.{same_Some}
use Rattle.clap.specs.Words.{App, HasKind, IsAmong, Kinds, Row, Text, fault_of, first_of, is_simple, is_simple_and_free, kind_of, matches_of}
use Rattle.clap.specs.Walk.{is_empty}
use Rattle.clap.specs.declared.error.Error.{Error}
use Rattle.clap.specs.declared.error.kind.ErrorKind.{ErrorKind}
use Rattle.clap.specs.declared.error.kind.ErrorKind.TheVariants.{OutOfMemory}
use Rattle.sd_words.specs.Command.{command, is_taken}
use Rattle.sd_words.specs.Number.{number_of}
use Rattle.sd_words.specs.Order.{is_number, options_in, order_in, order_of, stand_together}
use Rattle.sd_words.specs.OrderRead.{IsRefusalOf, Refuses, RefusesRows, number_or_usage}
use Rattle.sd_words.specs.declared.options.Options.{Options}
use Rattle.sd_words.specs.declared.fault.OptionsFault.{OptionsFault}
use Rattle.sd_words.specs.declared.fault.OptionsFault.TheVariants as fault

pub is_simple_command : is_simple command ≡ true
is_simple_command = refl

pub is_free_command : is_simple_and_free command ≡ true
is_free_command = refl

-- a parse that gave matches: the order is that of their rows
pub order_of_matches : (app : App) (given words : List Text) (rows : List Row) → app ≡ command → given ≡ words
    → (is_simple_and_free app ≡ true → fault_of app given ≡ []) → (is_simple app ≡ true → rows ≡ matches_of app given) → order_in rows ≡ order_of words
unfolding order_of
order_of_matches app given words rows is same passes matches =
    let no_fault : fault_of command words ≡ [] = sym (ap₂ fault_of is same) ∙ passes (ap is_simple_and_free is ∙ is_free_command) in
    let found : rows ≡ matches_of command words = matches (ap is_simple is ∙ is_simple_command) ∙ ap₂ matches_of is same in
    ap order_in found ∙ ap (λ b. cond b (order_in (matches_of command words)) None) (sym (ap is_empty no_fault))

among : (k : ErrorKind) (kinds : Kinds) → IsAmong k kinds → is_empty kinds ≡ false
among k [] h = absurd h
among k (x ∷ xs) h = ne_eqb _ _ (λ e. omega arith)

-- a parse that was refused, and not for memory: the command doesn't take the words
pub not_taken : (app : App) (given words : List Text) (e : Error) → app ≡ command → given ≡ words → (is_simple_and_free app ≡ true → HasKind (fault_of app given) e)
    → (kind_of e ≡ OutOfMemory → ⊥) → is_taken words ≡ false
not_taken app given words e is same refused kind = ap is_empty (sym (ap₂ fault_of is same)) ∙ go (refused (ap is_simple_and_free is ∙ is_free_command))
  where
    go : HasKind (fault_of app given) e → is_empty (fault_of app given) ≡ false
    go (inl oom) = absurd (kind oom)
    go (inr h) = among (kind_of e) (fault_of app given) h

-- words that the command doesn't take ask for nothing
pub refusal_of : (words : List Text) (e : Error) (f : OptionsFault) → IsRefusalOf e f → ((kind_of e ≡ OutOfMemory → ⊥) → is_taken words ≡ false) → Refuses words f
unfolding order_of
refusal_of words e (fault.Usage text) h none = (ap (λ b. cond b (order_in (matches_of command words)) None) (none h), λ taken. absurd (true≢false (sym taken ∙ none h)))
refusal_of words e fault.NoMemory h none = tt

-- words that it takes ask for what their rows ask for
pub reads_of : (words : List Text) (rows : List Row) (result : Result Options OptionsFault) → order_in rows ≡ order_of words
    → MatchResult result (λ options. order_in rows ≡ Some options) (RefusesRows rows) → MatchResult result (λ options. order_of words ≡ Some options) (Refuses words)
reads_of words rows (Ok options) same read = sym same ∙ read
reads_of words rows (Err (fault.Usage text)) same read = (sym same ∙ read.0, λ taken. read.1)
reads_of words rows (Err fault.NoMemory) same read = tt

-- a number was read
pub record IsRead (text : Option Text) (n : Option ℕ) : Type 0 where
  pub may : is_number text ≡ true
  pub same : n ≡ option_and_then number_of text

pub is_read : (text : Option Text) (n : Option ℕ) → Ok n ≡ number_or_usage text → IsRead text n
is_read text n is = go (is_number text) refl
  where
    by : (b : Bool) → is_number text ≡ b → Some n ≡ result_ok (cond b (Ok (option_and_then number_of text)) (Err (fault.Usage None)))
    by b may = ap result_ok is ∙ ap (λ d. result_ok (cond d (Ok (option_and_then number_of text)) (Err (fault.Usage None)))) may

    go : (b : Bool) → is_number text ≡ b → IsRead text n
    go true may = record { may = may; same = same_Some _ _ (by true may) }
    go false may = absurd (true≢false (ap is_some (by false may)))

-- numbers were read, and these are the options: they are the order, where they may stand together
pub order_given : (rows : List Row) (options : Options) → is_number (first_of (codes "max-replacements") rows) ≡ true → is_number (first_of (codes "demo") rows) ≡ true
    → options ≡ options_in rows → order_in rows ≡ cond (stand_together options) (Some options) None
order_given rows options limit demo is =
    ap₂ (λ a b. cond (a && (b && stand_together (options_in rows))) (Some (options_in rows)) None) limit demo ∙ ap (λ o. cond (stand_together o) (Some o) None) (sym is)
