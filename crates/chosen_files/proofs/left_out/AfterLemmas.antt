-- What the path of something below a top has after the top's.
use Rattle.std.proofs.Common.{◌≡◌, ◌≢◌, ◌<◌, ℕ, Bool, true, false, cond, List, [], ◌∷◌, ◌++◌, Option, Some, None, refl, sym, ◌∙◌, ap, subst, append-nil}
use Rattle.std.specs.Prelude.{◌==◌, nat_eq, nat_lt, unwrap_or}
use Rattle.std.specs.List.{ends_with}
use Rattle.std.proofs.lemmas.Bool.{eq-eqb, eqb-true, lt-ltb}
use Rattle.std.proofs.lemmas.Option.{same_Some}
use Rattle.walk_rest.specs.declared.entry.DirEntry.{DirEntry}
use Rattle.walk_rest.specs.Plan.{is_directory, path_below}
use Rattle.sd_ignore.specs.declared.rule.Rule.{Rule}
use Rattle.sd_ignore.specs.Fitting.{names_of, RulesSay}
use Rattle.sd_ignore.proofs.SayLemmas.{one_answer}
use Rattle.chosen_files.specs.LeftOut.{after_front, names_after, out_by, leaves_out}
use Rattle.sd_ignore.specs.Says.{said_of, said_is}

after_is : (front text : List ℕ) → after_front front (front ++ text) ≡ Some text
after_is [] text = refl
after_is (c ∷ front) text = ap (λ b. cond b (after_front front (front ++ text)) None) (eq-eqb c c refl) ∙ after_is front text

after_so : (front text rest : List ℕ) → after_front front text ≡ Some rest → text ≡ front ++ rest
after_so [] text rest e = same_Some text rest e
after_so (c ∷ front) [] rest e = cc
after_so (c ∷ front) (d ∷ text) rest e = by (d == c) refl e (after_so front text rest)
  where
    by : (same : Bool) → (d == c) ≡ same → cond same (after_front front text) None ≡ Some rest → (after_front front text ≡ Some rest → text ≡ front ++ rest) → d ∷ text ≡ c ∷ (front ++ rest)
    by true s is more = λ i. eqb-true d c s i ∷ more is i
    by false s is more = cc

below_front : (top names : List ℕ) → path_below top names ≡ path_below top [] ++ names
below_front top names = by (ends_with nat_eq top (47 ∷ []))
  where
    by : (slash : Bool) → cond slash (top ++ names) ((top ++ 47 ∷ []) ++ names) ≡ cond slash (top ++ []) ((top ++ 47 ∷ []) ++ []) ++ names
    by true = ap (λ xs. xs ++ names) (sym (append-nil top))
    by false = ap (λ xs. xs ++ names) (sym (append-nil (top ++ 47 ∷ [])))

pub names_are : (top path names : List ℕ) → path ≡ path_below top names → names_after top path ≡ Some names
names_are top path names is = ap (names_after top) (is ∙ below_front top names) ∙ after_is (path_below top []) names

pub names_none : (top path : List ℕ) → ((names : List ℕ) → path ≢ path_below top names) → names_after top path ≡ None
names_none top path none = by (names_after top path) refl
  where
    by : (o : Option (List ℕ)) → names_after top path ≡ o → o ≡ None
    by None e = refl
    by (Some names) e = absurd (none names (after_so (path_below top []) path names e ∙ sym (below_front top names)))

-- ---- whether rules leave an entry out

never : (b : Bool) → cond b false false ≡ false
never true = refl
never false = refl

pub out_none : (rules : List Rule) (top : List ℕ) (entry : DirEntry) → ((names : List ℕ) → entry.path ≢ path_below top names) → false ≡ leaves_out rules top entry
out_none rules top entry none =
    sym (ap (λ o. cond (nat_lt 0 entry.depth) (out_by rules (is_directory entry.kind) o) false) (names_none top entry.path none) ∙ never (nat_lt 0 entry.depth))

pub out_top : (rules : List Rule) (top : List ℕ) (entry : DirEntry) → entry.depth ≡ 0 → false ≡ leaves_out rules top entry
out_top rules top entry none = sym (ap (λ n. cond (nat_lt 0 n) (out_by rules (is_directory entry.kind) (names_after top entry.path)) false) none)

pub out_some : (rules : List Rule) (top : List ℕ) (entry : DirEntry) (names : List ℕ) (directory : Bool) (said : Option Bool) → entry.path ≡ path_below top names
    → directory ≡ is_directory entry.kind → RulesSay rules (names_of names) directory said → 0 < entry.depth → unwrap_or said false ≡ leaves_out rules top entry
out_some rules top entry names directory said path is says deep =
    let kind = is_directory entry.kind in
    let same : said ≡ said_of rules (names_of names) kind =
    one_answer (names_of names) kind rules said (said_of rules (names_of names) kind) (subst (λ d. RulesSay rules (names_of names) d said) is says) (said_is rules (names_of names) kind) in
    ap (λ s. unwrap_or s false) same ∙ sym (
    ap (λ b. cond b (out_by rules kind (names_after top entry.path)) false) (lt-ltb 0 entry.depth deep) ∙ ap (out_by rules kind) (names_are top entry.path names path)
    )
