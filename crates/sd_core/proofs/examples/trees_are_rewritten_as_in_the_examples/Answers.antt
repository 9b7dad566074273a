use Rattle.std.proofs.Common.{◌≡◌, ◌≢◌, [], ◌∷◌, true, refl, sym, ◌∙◌, ap, subst, inl, inr, length, List, arith}
use Rattle.std.specs.Prelude.{codes, Contains}
use Rattle.std.specs.List.Sorted.{IsStrictlySortedBy}
use Rattle.std.proofs.lemmas.Option.{some_pair_parts}
use Rattle.sd_io.specs.Paths.{reached}
use Rattle.sd_io.specs.Tree.{NameList, Tree, file_at, name_list_cmp}
use Rattle.file_rewrite.specs.Examples.{a_place}
use Rattle.chosen_files.specs.Chosen.{IsChosen}
use Rattle.sd_core.specs.Examples.{txt}
use Rattle.many_files.proofs.MemberLemmas.{in_from_contains, contains_from_in}
use Rattle.sd_core.proofs.examples.SmallTreeLemmas.{a_chosen, a_file, t_chosen, t_place, to_t}
use Rattle.sd_core.proofs.examples.trees_are_rewritten_as_in_the_examples.Goals as goal

pub returns-clause-one_file : goal.returns-clause-one_file
returns-clause-one_file c = λ old new tree is_new others.
    let leads = ap (λ (t : Tree). reached t (codes "/t") true) tree ∙ to_t in
    let was = a_file old.tree tree in
    record {
      paths = codes "/t/a.txt" ∷ [];
      places = _;
      selected = (t_chosen old.tree tree (codes "/t") leads, refl);
      files = record {
        each = λ place c. elim (in_from_contains (a_place ∷ []) place c) [
          | inl a ↦ record {
            bytes = codes "one two one";
            mode = 416;
            was = ap (file_at old.tree) (sym a) ∙ was;
            new_bytes = codes "1 two 1";
            count = 2;
            new_bytes_are = inl (refl, refl, refl);
            holds = ap (file_at new.tree) (sym a) ∙ is_new;
            kept = λ same. let long : 7 ≡ 11 = ap length same in absurd (omega (arith, long));
          }
          | inr none ↦ absurd none
        ];
        others = λ place none. others place (λ a. none (contains_from_in (a_place ∷ []) place (inl (sym a))));
        counts = record {
          chosen = refl;
          files = (
            1,
            2,
            0,
            0,
            record { bytes = _; mode = 416; is_file = was; new_bytes = _; new_bytes_are = inl (refl, refl, refl); changed_is = refl },
            (refl, refl),
            refl,
            refl,
          );
        };
      };
    }

pub returns-clause-left_old : goal.returns-clause-left_old
returns-clause-left_old c = λ disk tree r.
    let leads = ap (λ (t : Tree). reached t (codes "/t") true) tree ∙ to_t in
    let (chosen, listed) = r.selected in
    let led = chosen.leads in
    let top : chosen.top ≡ t_place = cc (led, leads) in
    let is_chosen = subst (λ (t : NameList). IsChosen disk.tree t txt a_place) (sym top) (a_chosen disk.tree tree) in
    let done = r.files.each a_place (subst (λ (list : List NameList). Contains list a_place) (sym listed) ((chosen.chosen.these a_place).1 is_chosen)) in
    let was = (some_pair_parts done.bytes (codes "one two one") done.mode 416 (sym done.was ∙ a_file disk.tree tree)).0 in
    let is_new = (some_pair_parts done.new_bytes (codes "one two one") done.mode 416 (sym done.holds ∙ a_file disk.tree tree)).0 in
    elim done.new_bytes_are [
      | inl (from, to, count) ↦ absurd (other_text (sym is_new ∙ to))
      | inr (inl (from, to, count)) ↦ absurd (longer_text (sym was ∙ from))
      | inr (inr (from, to, count)) ↦ absurd (longer_too (sym was ∙ from))
    ]
  where
    other_text : codes "one two one" ≢ codes "1 two 1"
    other_text e = let long : 11 ≡ 7 = ap length e in omega (arith, long)

    longer_text : codes "one two one" ≢ codes "one"
    longer_text e = let long : 11 ≡ 3 = ap length e in omega (arith, long)

    longer_too : codes "one two one" ≢ codes "two"
    longer_too e = let long : 11 ≡ 3 = ap length e in omega (arith, long)

none_in_order : IsStrictlySortedBy name_list_cmp []
unfolding IsStrictlySortedBy
none_in_order = tt

pub returns-clause-no_globs : goal.returns-clause-no_globs
returns-clause-no_globs c = λ disk root top leads. record {
  paths = [];
  places = [];
  selected = (
    record {
      top = top;
      leads = leads;
      places = [];
      chosen = record {
        in_order = none_in_order;
        these = λ place. (
          (λ c. absurd (in_from_contains [] place c)),
          (λ chosen. let (glob, is_one, fits) = chosen.fits in absurd (in_from_contains [] glob is_one)),
        );
      };
      names = [];
      places_are = refl;
      paths_are = refl;
    },
    refl,
  );
  files = record {
    each = λ place c. absurd (in_from_contains [] place c);
    others = λ place none. refl;
    counts = record { chosen = refl; files = (refl, refl) };
  };
}
