-- How a run answers, from what its words ask for.
use Rattle.std.proofs.Common.{◌≡◌, ◌≢◌, ◌∙◌, ℕ, ap, subst, sym, refl, inl, inr, List, arith}
use Rattle.std.specs.Prelude.{Bool, Option, Some, None, IsTrue, Result, Ok, Err}
use Rattle.std.proofs.lemmas.Option.{same_Some, none-some}
use Rattle.sd_io.specs.Tree.{NameList, Tree}
use Rattle.chosen_files.specs.Chosen.{Chosen}
use Rattle.sd_change.specs.Change.{Change}
use Rattle.many_files.specs.declared.report.Report.{Report}
use Rattle.sd_words.specs.Order.{IsTreeCommand, order_of}
use Rattle.sd_words.specs.OrderRead.{Refuses}
use Rattle.sd_words.specs.declared.options.Options.{Options}
use Rattle.sd_words.specs.declared.fault.OptionsFault.{OptionsFault}
use Rattle.sd_words.specs.declared.fault.OptionsFault.TheVariants as words_fault
use Rattle.sd_replace.specs.Replacement.{Replacement, Changes}
use Rattle.sd_core.specs.Asked.{IsReplacerOf}
use Rattle.sd_core.specs.Command.{CarriesOut, Command}
use Rattle.sd_core.specs.Mode as mode
use Rattle.sd_core.specs.Mode.{Mode, mode_by, mode_of, tree_mode}
use Rattle.sd_core.specs.Outside.{Outside, Untouched}
use Rattle.sd_core.specs.Run.{Begins, IsOrMemory, IsRefusedFirst, of_words, status_of}
use Rattle.sd_core.specs.Printing.{EndsBy, Prints}
use Rattle.sd_core.specs.Report.{line_of}
use Rattle.sd_core.specs.Selection.{ListsChosenAt, by_globs}
use Rattle.sd_core.specs.Sweep.{Sweeps, sweep_cap}
use Rattle.sd_core.specs.TreeCommand.{AreChosenBelow, DoesTreeCommand}
use Rattle.sd_core.specs.declared.error.Error.{Error}
use Rattle.sd_core.specs.declared.ended.Why.{Why}
use Rattle.sd_core.specs.declared.ended.Why.TheVariants as why

-- ---- the words ask for nothing that can be done, or there was no memory to see what

module _ (words : List (List ℕ)) (fault : OptionsFault) (refuses : Refuses words fault) (ended : Why) (is : ended ≡ of_words fault) where
  none_refused : (order : Options) → order_of words ≡ Some order → IsRefusedFirst order ended
  none_refused order asked = by fault refuses is
    where
      by : (f : OptionsFault) → Refuses words f → ended ≡ of_words f → IsRefusedFirst order ended
      by (words_fault.Usage text) none e = absurd (none-some order (sym none.0 ∙ asked))
      by words_fault.NoMemory none e = inl e

  unordered : (order : Options) → order_of words ≡ Some order → ended ≢ why.Usage
  unordered order asked usage = by fault refuses is
    where
      by : (f : OptionsFault) → Refuses words f → ended ≡ of_words f → ⊥
      by (words_fault.Usage text) none e = none-some order (sym none.0 ∙ asked)
      by words_fault.NoMemory none e = let f : 2 ≡ 1 = ap status_of (sym usage ∙ e) in omega (arith, f)

  -- no command begins
  pub none_carries : (o : Outside) → Untouched o → (order : Options) → order_of words ≡ Some order → CarriesOut order o ended
  none_carries o untouched order asked = record {
    ordered = unordered order asked;
    replacer = λ error refused. none_refused order asked;
    command = inl (untouched, none_refused order asked);
  }

  pub is_usage : IsOrMemory why.Usage ended
  is_usage = by fault is
    where
      by : (f : OptionsFault) → ended ≡ of_words f → IsOrMemory why.Usage ended
      by (words_fault.Usage text) e = inl e
      by words_fault.NoMemory e = inr e

  pub usage_asks_nothing : ended ≡ why.Usage → order_of words ≡ None
  usage_asks_nothing usage = by fault refuses is
    where
      by : (f : OptionsFault) → Refuses words f → ended ≡ of_words f → order_of words ≡ None
      by (words_fault.Usage text) none e = none.0
      by words_fault.NoMemory none e = let f : 2 ≡ 1 = ap status_of (sym usage ∙ e) in absurd (omega (arith, f))

  pub none_done : (status : ℕ) → status ≡ status_of ended → status ≡ 0 → ⊥
  none_done status s zero = by fault is
    where
      by : (f : OptionsFault) → ended ≡ of_words f → ⊥
      by (words_fault.Usage text) e = let f : 0 ≡ 2 = sym zero ∙ s ∙ ap status_of e in omega (arith, f)
      by words_fault.NoMemory e = let f : 0 ≡ 1 = sym zero ∙ s ∙ ap status_of e in omega (arith, f)

  pub not_done : ended ≡ why.Done → ⊥
  not_done done = none_done (status_of ended) refl (ap status_of done)

-- ---- the words ask for something

done_by : (w : Why) → status_of w ≡ 0 → w ≡ why.Done
done_by why.Done e = refl
done_by why.Usage e = absurd (omega (arith, e))
done_by (why.Fault failed) e = absurd (omega (arith, e))
done_by why.Print e = absurd (omega (arith, e))

module _ (words : List (List ℕ)) (options : Options) (asks : order_of words ≡ Some options) (came : Why) (ended : Why) (is : ended ≡ came) where
  same : (order : Options) → order_of words ≡ Some order → options ≡ order
  same order asked = same_Some options order (sym asks ∙ asked)

  pub done : (status : ℕ) → status ≡ status_of came → status ≡ 0 → came ≡ why.Done
  done status s zero = done_by came (sym s ∙ zero)

  -- what is carried out of the options is carried out of the order
  pub carries_so : (o : Outside) → CarriesOut options o came → (order : Options) → order_of words ≡ Some order → CarriesOut order o ended
  carries_so o carried order asked =
      subst (λ (w : Why). CarriesOut order o w) (sym is) (subst (λ (x : Options). CarriesOut x o came) (same order asked) carried)

  pub none_unordered : order_of words ≡ None → ⊥
  none_unordered none = none-some options (sym none ∙ asks)

  pub usage_so : came ≢ why.Usage → ended ≡ why.Usage → order_of words ≡ None
  usage_so never u = absurd (never (sym is ∙ u))

-- ---- the headline, of what is carried out

first_fails : (order : Options) (ended : Why) → IsRefusedFirst order ended → ended ≡ why.Done → ⊥
first_fails order ended (inl memory) done = let f : 1 ≡ 0 = ap status_of (sym memory ∙ done) in omega (arith, f)
first_fails order ended (inr (failed, fails, why_so)) done = let f : 1 ≡ 0 = ap status_of (sym fails ∙ done) in omega (arith, f)

-- the mode of a command on a tree
pub of_tree : (order : Options) (root : List ℕ) → IsTreeCommand order root → mode_of order ≡ mode.tree root
of_tree order root (rooted, shown, ruled) =
    ap (λ (r : Option (List ℕ)). mode_by r order.ignore order.apply order.demo order.preview order.words) rooted
    ∙ ap (λ (rules : Option (List ℕ)). tree_mode order.preview rules root) ruled ∙ ap (λ (previews : Bool). tree_mode previews None root) shown

-- the chosen files by their places alone
chosen_below : (tree : Tree) (root : List ℕ) (globs : List (List ℕ)) (paths : List (List ℕ)) (places : List NameList) → ListsChosenAt tree root globs paths places
    → AreChosenBelow tree root globs places
chosen_below tree root globs paths places (listed, same) =
    (listed.top, listed.leads, subst (λ (these : List NameList). Chosen tree listed.top globs these) (sym same) listed.chosen)

-- a sweep that is done, and whose report is printed
does : (change : Change) (root : List ℕ) (globs : List (List ℕ)) (o : Outside) (result : Result Report Error) (ended : Why)
    → Sweeps change (by_globs root globs) sweep_cap o.same_disk result o.disk
    → EndsBy line_of result o.same_out o.out ended → ended ≡ why.Done → IsTrue o.disk.tells → DoesTreeCommand change root globs o.disk.old o.disk.new o.out
does change root globs o (Ok report) ended sweeps prints done told =
    let rewritten = sweeps.rewritten told in
    record {
      report = report;
      places = rewritten.places;
      chosen = chosen_below o.disk.old.tree root globs rewritten.paths rewritten.places rewritten.selected;
      rewrites = rewritten.files;
      printed = subst (λ (w : Why). Prints (line_of report) o.out w) done prints;
    }
does change root globs o (Err failed) ended sweeps (is, kept) done told = let f : 1 ≡ 0 = ap status_of (sym is ∙ done) in absurd (omega (arith, f))

pub headline_so : (o : Outside) (order : Options) (root : List ℕ) (ended : Why) → CarriesOut order o ended → mode_of order ≡ mode.tree root → ended ≡ why.Done → IsTrue o.disk.tells
    → (replacement : Replacement) × IsReplacerOf order replacement × DoesTreeCommand (Changes replacement) root order.words o.disk.old o.disk.new o.out
headline_so o order root ended carried e done told = by carried.command
  where
    by : Begins order o ended (λ change. Command (mode_of order) change order.words o ended)
        → (replacement : Replacement) × IsReplacerOf order replacement × DoesTreeCommand (Changes replacement) root order.words o.disk.old o.disk.new o.out
    by (inl (untouched, first)) = absurd (first_fails order ended first done)
    by (inr (replacement, asked, command)) =
        let tree = subst (λ (m : Mode). Command m (Changes replacement) order.words o ended) e command in
        (replacement, asked, does (Changes replacement) root order.words o tree.0.result ended tree.0.sweeps tree.0.prints done told)
