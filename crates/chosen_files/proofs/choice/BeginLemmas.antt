-- How a choice begins and goes on.
use Rattle.std.proofs.Common.{◌≡◌, ◌+◌, Ok, Result, ℕ, true, List, [], ◌∷◌, map, Err, sym, ◌∙◌, ap, subst, arith}
use Rattle.std.specs.Prelude.{IsSome, is_some}
use Rattle.std.specs.List.{AllByRecursion}
use Rattle.sd_io.specs.Disk.{DiskState}
use Rattle.sd_io.specs.Files.{Resolves}
use Rattle.sd_io.specs.Paths.{reached}
use Rattle.sd_io.specs.Tree.{NameList, Tree, IsTree}
use Rattle.sd_io.proofs.PathTextLemmas.{text_not_followed}
use Rattle.walk_rest.specs.declared.entry.DirEntry.{DirEntry}
use Rattle.walk_rest.specs.declared.level.Entries.{Entries}
use Rattle.walk_rest.specs.declared.level.Entries.TheVariants.{Unread, Open, Kept}
use Rattle.walk_rest.specs.declared.level.Level.{Level}
use Rattle.walk_rest.specs.Listing.{IsRootPlan, first_options, manner_of}
use Rattle.walk_rest.specs.Names.{by_file_name}
use Rattle.walk_rest.specs.declared.options.Options.{Options}
use Rattle.walk_rest.specs.Plan.{Comparison, Plan}
use Rattle.walk_rest.specs.Rest.{start}
use Rattle.walk_steps.specs.declared.inside.Inside.{Inside}
use Rattle.walk_steps.specs.Inside.{HasRest}
use Rattle.walk_steps.specs.Sound.{AreApart, IsApart, SameOthers, StaysWithin, open_in, opens}
use Rattle.walkdir.specs.Collect.{entry_item}
use Rattle.chosen_files.specs.Choice.{KeepsLists}
use Rattle.chosen_files.specs.Picks.{AreEntriesAt}
use Rattle.std.specs.Prelude.{IfErr, IfOk, IsErrAnd, OnOk}
use Rattle.sd_io.specs.Paths.{Leads}

-- the plan of a walk of the top
abbrev pub IsTopPlan : Tree → List ℕ → Plan → Type 0
IsTopPlan tree top plan = IsRootPlan tree (manner_of tree first_options true by_file_name top) top plan

-- ---- what a walk of the top begins with

module _ {S : Type 0} where
  pub walked_has : (old begun : DiskState) (options : Options) (root top : List ℕ) (inside : Inside S) (plan : Plan) → begun ≡ old
      → ((by : Comparison) (plan : Plan) → IsRootPlan old.tree (manner_of old.tree options true by root) root plan → HasRest old true by inside (start plan))
      → options ≡ first_options → root ≡ top → IsTopPlan begun.tree top plan → HasRest begun true by_file_name inside (start plan)
  walked_has old begun options root top inside plan same rest how where_from planned =
      subst (λ (s : DiskState). HasRest s true by_file_name inside (start plan)) (sym same)
      (rest by_file_name plan
      (subst (λ (o : Options). IsRootPlan old.tree (manner_of old.tree o true by_file_name root) root plan) (sym how)
      (subst (λ (r : List ℕ). IsRootPlan old.tree (manner_of old.tree first_options true by_file_name r) r plan) (sym where_from)
      (subst (λ (s : DiskState). IsTopPlan s.tree top plan) same planned))))

-- ---- open lists

-- levels that hold no list read none
pub apart_none : (number : ℕ) (levels : List Level) → opens levels ≡ 0 → AreApart number levels
apart_none number [] none = tt
apart_none number (level ∷ levels) none = (by level.entries none, apart_none number levels (omega (arith, none)))
  where
    by : (entries : Entries) → open_in entries + opens levels ≡ 0 → IsApart number entries
    by Unread h = tt
    by (Open list) h = absurd (omega (arith, h))
    by (Kept kept) h = tt

kept_lists : (limit : ℕ) (old new : DiskState) (levels : List Level) → limit ≡ 10 → opens levels ≡ 0 → StaysWithin limit old levels new [] → SameOthers old levels new []
    → KeepsLists 10 old new
kept_lists limit old new levels ten none within others =
    let w = within old.open_count (omega (arith, none)) in
    let most = w.1 in
    record {
      open_list = λ number opened. (others number (apart_none number levels none) opened).0;
      open_count = (let n = w.0 in omega (arith, n));
      open_most = omega (arith, most, ten);
    }

pub kept_from : (limit : ℕ) (old begun new : DiskState) (levels : List Level) → begun ≡ old → limit ≡ 10 → opens levels ≡ 0 → StaysWithin limit begun levels new []
    → SameOthers begun levels new [] → KeepsLists 10 old new
kept_from limit old begun new levels same ten none within others = subst (λ (s : DiskState). KeepsLists 10 s new) same (kept_lists limit begun new levels ten none within others)

-- ---- entries of a whole walk

-- the path of the entry leads to a node
abbrev pub LeadsTo : Tree → DirEntry → Type 0
LeadsTo tree entry = IsSome (reached tree entry.path entry.followed)

-- the path of each leads to its node
pub all_lead : (tree : Tree) (top : NameList) (places : List NameList) (entries : List DirEntry) → IsTree tree → AreEntriesAt tree top places (map entry_item entries)
    → AllByRecursion (LeadsTo tree) entries
all_lead tree top [] [] is at = tt
all_lead tree top [] (entry ∷ entries) is at = absurd at
all_lead tree top (place ∷ places) [] is at = tt
all_lead tree top (place ∷ places) (entry ∷ entries) is at = (
  ap is_some ((λ i. reached tree (at.0.path_is i) (at.0.not_followed i)) ∙ text_not_followed tree place at.0.node is at.0.stands),
  all_lead tree top places entries is at.1,
)

-- ---- steps of a choice

pub fails_as : {T E : Type 0} (P : E → Type 0) (result : Result T E) (failed : E) → IsErrAnd result (λ x. x ≡ failed) → P failed → IfErr result P
fails_as P (Ok value) failed is p = tt
fails_as P (Err other) failed is p = subst P (sym is) p

-- the root still leads there
pub resolves_on : (old now : DiskState) (root top text : List ℕ) → now.tree ≡ old.tree → text ≡ top → Resolves old root top → Resolves now root text
resolves_on old now root top text same is r = record {
  place = r.place;
  node = r.node;
  leads = subst (λ (t : Tree). Leads t root true r.place r.node) (sym same) r.leads;
  text_is = is ∙ r.text_is;
}

-- what follows of a result

pub ok_map : {T E : Type 0} (P Q : T → Type 0) (result : Result T E) → ((x : T) → P x → Q x) → IfOk result P → IfOk result Q
ok_map P Q (Ok x) to p = to x p
ok_map P Q (Err e) to p = p

pub err_map : {T E : Type 0} (P Q : E → Type 0) (result : Result T E) → ((e : E) → P e → Q e) → IfErr result P → IfErr result Q
err_map P Q (Ok x) to p = p
err_map P Q (Err e) to p = to e p

pub on_map : {T E : Type 0} (P Q : Type 0) (result : Result T E) → (P → Q) → OnOk result P → OnOk result Q
on_map P Q (Ok x) to p = to p
on_map P Q (Err e) to p = p
