-- Stages of planned files are made in turn.
use Rattle.std.proofs.Common.{true, false, ◌≡◌, ◌≢◌, ◌⊎◌, ◌<◌, ◌+◌, ℕ, zero, suc, List, [], ◌∷◌, ◌++◌, map, take, drop, length, get_or, add-one, refl, sym, ◌∙◌, ap, subst, inl, inr, arith}
use Rattle.std.specs.Prelude.{Option, Some, None, IsSome, is_some, Contains, slice_get}
use Rattle.std.specs.List.{AllByRecursion, IsDistinct}
use Rattle.std.proofs.lemmas.List.{map-append, take-append-drop}
use Rattle.std.proofs.lemmas.Option.{same_Some, slice_get_within, slice_get-get_or, get_or_from_slice_get}
use Rattle.std.proofs.lemmas.List.Elements.{Contains-push_cases, Contains-append_left, Contains-append_right}
use Rattle.sha2.specs.Sha256.{sha256}
use Rattle.sd_io.specs.Tree.{NameList, Node, Tree, SameBut, node_at, file_node, file_at}
use Rattle.sd_io.specs.Paths.{parts_of, parent_of, way_of_node}
use Rattle.sd_io.specs.Outcomes.{same_place}
use Rattle.sd_io.specs.Disk.{DiskState, SameTree, HoldsPresent}
use Rattle.sd_io.specs.Crashes.{LeavesSince, IsSettledAt}
use Rattle.sd_io.proofs.OutcomeLemmas.{same_place_false}
use Rattle.sd_io.proofs.WayLemmas.{same_ways, ways_kept, file_has_no_way, reached_still}
use Rattle.sd_io.proofs.CrashLemmas.{since_same, since_then, since_more, settled_same}
use Rattle.sd_change.specs.Change.{Change, FileChange, IsOne}
use Rattle.std.proofs.Math.Seq.{take-length}
use Rattle.file_exchange.specs.Reserved.{reserved_name, Reserved, Free, FirstFree}
use Rattle.file_exchange.specs.Exchange.{IsFilePath}
use Rattle.file_exchange.specs.Crash.{Exchange}
use Rattle.file_exchange.specs.declared.reserved.Temporary.{Temporary}
use Rattle.file_exchange.proofs.PlaceLemmas.{is_free}
use Rattle.file_rewrite.specs.Reading.{FindsFile}
use Rattle.journal_text.specs.declared.line.Line.{Line}
use Rattle.change_phases.specs.Between.{Work, journal_of, place_of, stage_of, IsAside, IsLineOf, AreLinesOf}
use Rattle.change_phases.specs.Phases.{preparing}
use Rattle.change_phases.proofs.PhaseLemmas.{passes_since, passes_same, passes_then, still_in}
use Rattle.change_phases.proofs.WorkLemmas.{aside_free, aside_no_file, aside_not_journal, open_preparing, free_was_free, same_file}
use Rattle.change_phases.proofs.LineLemmas.{file_for, later, first}
use Rattle.journal.specs.Keeping.{IsPreparing, KeepsPreparing}
use Rattle.journal.specs.Beside.{MakesBeside, LeavesBeside}
use Rattle.journal.specs.Clearing.{IsStage}
use Rattle.journal.proofs.SameFilesLemmas.{none_stands, none_or_some}
use Rattle.journal.specs.Planning.{IsChangeOf, AreChangesOf, IsPlanned, AddsFiles, AddsStages, StagesFile, IsUnchanged, LeavesStage, StandsSettled, AreStagesMade}

-- ---- files are added

file_stands : (o : Option Node) (f : List ℕ × ℕ) → file_node o ≡ Some f → o ≢ None
file_stands None f e = cc
file_stands (Some node) f e = λ n. cc

some_stands : (o : Option Node) → o ≢ None → IsSome o
some_stands None n = absurd (n refl)
some_stands (Some node) n = refl

pub adds_same : (s t : DiskState) → SameTree s t → AddsFiles s t
adds_same s t same = record { stood = λ q some. ap (λ (x : Tree). node_at x q) same.tree; ways = same_ways s.tree t.tree same.tree }

pub adds_then : (r s t : DiskState) → AddsFiles r s → AddsFiles s t → AddsFiles r t
adds_then r s t a b = record {
  stood = λ q some. b.stood q (λ none. some (sym (a.stood q some) ∙ none)) ∙ a.stood q some;
  ways = record { ways = λ q. b.ways.ways q ∙ a.ways.ways q };
}

adds_one : (s t : DiskState) (place : NameList) (f : List ℕ × ℕ) → node_at s.tree place ≡ None → file_at t.tree place ≡ Some f → SameBut place s.tree t.tree → AddsFiles s t
adds_one s t place f free holds others = record {
  stood = λ q some. others q (λ e. some (ap (node_at s.tree) e ∙ free));
  ways = ways_kept place s.tree t.tree others (ap way_of_node free) (file_has_no_way (node_at t.tree place) (ap is_some holds));
}

pub adds_stage : (change : Change) (path : List ℕ) (line : Line) (s t : DiskState) → StagesFile change path line s t → AddsFiles s t
adds_stage change path line s t m = adds_one s t (stage_of line) (m.f.1, m.mode) m.was_free.free m.holds m.others

-- what is to change is so still
pub change_still : (change : Change) (path : List ℕ) (f : Exchange) (s t : DiskState) → AddsFiles s t → IsChangeOf change s.tree path f → IsChangeOf change t.tree path f
change_still change path f s t a c =
    let stands : node_at s.tree f.0 ≢ None = file_stands (node_at s.tree f.0) (c.bytes, c.mode) c.was in
    let same = a.stood f.0 stands in
    record {
      leads = reached_still a.ways path true f.0 c.leads (some_stands (node_at t.tree f.0) (λ none. stands (sym same ∙ none)));
      bytes = c.bytes;
      mode = c.mode;
      was = ap file_node same ∙ c.was;
      count = c.count;
      new_bytes = c.new_bytes;
      differ = c.differ;
    }

-- a file's change is one
one_file : (change : Change) → IsOne change → (bytes a b : List ℕ) (m n : ℕ) → FileChange change bytes a m → FileChange change bytes b n → a ≡ b
one_file change one [] a b m n x y = x.0 ∙ sym y.0
one_file change one (byte ∷ bytes) a b m n x y = (one (byte ∷ bytes) a b m n x y).0

pub one_change : (change : Change) → IsOne change → (tree : Tree) (path : List ℕ) (f g : Exchange) → IsChangeOf change tree path f → IsChangeOf change tree path g → f ≡ g
one_change change one tree path f g x y =
    let place : f.0 ≡ g.0 = same_Some _ _ (sym x.leads ∙ y.leads) in
    let bytes : x.bytes ≡ y.bytes = ap (λ (p : List ℕ × ℕ). p.0) (same_Some (x.bytes, x.mode) (y.bytes, y.mode) (sym x.was ∙ ap (file_at tree) place ∙ y.was)) in
    let new : f.1 ≡ g.1 = one_file change one y.bytes f.1 g.1 x.count y.count (subst (λ (b : List ℕ). FileChange change b f.1 x.count) bytes x.new_bytes) y.new_bytes in
    λ i. (place i, new i)

-- ---- one file is staged

-- the file that was found, and its own path
module _ (change : Change) (path own : List ℕ) (s0 s1 : DiskState) (same : SameTree s0 s1) (bytes : List ℕ) (found : FindsFile s0.tree path own bytes) where
  pub own_path : IsFilePath s1.tree own
  own_path = record { path_is = found.text_is; is_file = subst (λ (x : Tree). IsSome (file_at x (parts_of own))) (sym same.tree) (ap is_some found.was) }

  -- its bytes don't change
  pub unchanged : IsOne change → (count : ℕ) → FileChange change bytes bytes count → (t : DiskState) → SameTree s1 t → IsUnchanged change path s0 t
  unchanged one count no_change t later = record {
    same = record { tree = later.tree ∙ same.tree; clock = later.clock ∙ same.clock; outcomes = later.outcomes ∙ same.outcomes };
    no_change = λ f c.
        let place : f.0 ≡ parts_of own = same_Some _ _ (sym c.leads ∙ found.leads) in
        let held : c.bytes ≡ bytes = ap (λ (p : List ℕ × ℕ). p.0) (same_Some (c.bytes, c.mode) (bytes, found.mode) (sym c.was ∙ ap (file_at s0.tree) place ∙ found.was)) in
        c.differ (one_file change one bytes f.1 bytes c.count count (subst (λ (b : List ℕ). FileChange change b f.1 c.count) held c.new_bytes) no_change ∙ sym held);
  }

  -- what may be left
  pub left_stage : (t : DiskState) → LeavesBeside s1 (parent_of (parts_of own)) t → LeavesStage path s0 t
  left_stage t l = inr (
    parts_of own,
    found.leads,
    ap is_some found.was,
    record {
      temporary = l.temporary;
      was_free = λ q e. subst (λ (x : Tree). FirstFree x (parent_of (parts_of own)) q) same.tree (l.was_free q e);
      others = λ q n. l.others q n ∙ ap (λ (x : Tree). node_at x q) same.tree;
      leaves = since_then _ _ s0 s1 t (since_same _ _ s0 s1 same) l.leaves;
      settled = λ q n is. l.settled q n (settled_same s0 s1 same q is);
    },
  )

  module _ (new_bytes : List ℕ) (count : ℕ) (makes : FileChange change bytes new_bytes count) (differ : new_bytes ≢ bytes) (made : Temporary) (t : DiskState)
      (m : MakesBeside s1 (parent_of (parts_of own)) (parts_of own) new_bytes made t) (line : Line) (digest : line.digest ≡ sha256 new_bytes) (number : line.number ≡ made.number) (text : line.path ≡ own) where
    at_stage : m.temporary ≡ stage_of line
    at_stage =
        m.was_free.reserved.2 ∙ (λ i. parent_of (parts_of (sym text i)) ++ reserved_name ((sym m.number_is ∙ sym number) i) ∷ [])

    not_own : parts_of own ≢ m.temporary
    not_own e = cc (sym found.was ∙ ap (λ (x : Tree). file_at x (parts_of own)) (sym same.tree) ∙ ap (file_at s1.tree) e ∙ ap file_node m.was_free.free)

    pub staged : StagesFile change path line s0 t
    staged = record {
      f = (parts_of own, new_bytes);
      changes = record { leads = found.leads; bytes = bytes; mode = found.mode; was = found.was; count = count; new_bytes = makes; differ = differ };
      of = record { place = ap parts_of text; digest = digest };
      is_path = subst (IsFilePath t.tree) (sym text) (record {
        path_is = found.text_is;
        is_file = subst (λ (o : Option Node). IsSome (file_node o)) (sym (m.others (parts_of own) not_own)) own_path.is_file;
      });
      was_free = subst (FirstFree s0.tree (parent_of (parts_of own))) at_stage (subst (λ (x : Tree). FirstFree x (parent_of (parts_of own)) m.temporary) same.tree m.was_free);
      mode = m.mode;
      holds = ap (file_at t.tree) (sym at_stage) ∙ m.holds;
      settled = subst (IsSettledAt t) at_stage m.settled;
      others = λ q n. m.others q (λ e. n (e ∙ at_stage)) ∙ ap (λ (x : Tree). node_at x q) same.tree;
      settled_others = λ q n is. m.settled_others q (λ e. n (e ∙ at_stage)) (settled_same s0 s1 same q is);
      leaves = since_then _ _ s0 s1 t (since_same _ _ s0 s1 same)
          (since_more (λ q content. ⊥) (λ q content. ⊥) (λ q. q ≡ m.temporary) (λ q. q ≡ stage_of line) s1 t (λ q content none. absurd none) (λ q e. e ∙ at_stage) m.leaves);
    }

-- ---- while the change is prepared

pub preparing_still : (work : Work) (s t : DiskState) → IsPreparing work s → KeepsPreparing work s t → IsPreparing work t
preparing_still work s t p k = record { is_work = p.is_work; preparing_now = still_in preparing work [] s t k.passes; settled = k.settled }

pub preparing_then : (work : Work) (r s t : DiskState) → KeepsPreparing work r s → KeepsPreparing work s t → KeepsPreparing work r t
preparing_then work r s t a b = record { passes = passes_then preparing work [] r s t a.passes b.passes; settled = b.settled }

pub preparing_same : (work : Work) (s t : DiskState) → IsPreparing work s → SameTree s t → KeepsPreparing work s t
preparing_same work s t p same = record {
  passes = passes_same preparing work [] s t p.preparing_now same;
  settled = record { files = λ f has. settled_same s t same f.0 (p.settled.files f has); journal = settled_same s t same (journal_of work) p.settled.journal };
}

-- only what is at reserved names that were free differs
pub aside_keeps : (work : Work) (s t : DiskState) (loose : NameList → Type 0) → IsPreparing work s → ((q : NameList) → loose q → IsAside work q) → LeavesSince (λ q content. ⊥) loose s t
    → ((q : NameList) → (loose q → ⊥) → IsSettledAt s q → IsSettledAt t q) → KeepsPreparing work s t
aside_keeps work s t loose p aside leaves settled = record {
  passes = passes_since preparing work [] (λ q content. ⊥) loose s t p.preparing_now (λ q content none. absurd none) (λ q is. open_preparing work p.is_work [] q (aside q is)) leaves;
  settled = record {
    files = λ f has. settled f.0 (λ is. aside_no_file work p.is_work f.0 (aside f.0 is) f has refl) (p.settled.files f has);
    journal = settled (journal_of work) (λ is. aside_not_journal work p.is_work (journal_of work) (aside (journal_of work) is) refl) p.settled.journal;
  };
}

pub IsFolderOf : Work → NameList → Type 0
IsFolderOf work folder = (folder ≡ work.root) ⊎ ((f : Exchange) × Contains work.files f × (folder ≡ parent_of f.0))

pub beside_keeps : (work : Work) (s t : DiskState) (folder : NameList) → HoldsPresent s → IsPreparing work s → IsFolderOf work folder → LeavesBeside s folder t → KeepsPreparing work s t
unfolding IsFolderOf
beside_keeps work s t folder holds p of l =
    aside_keeps work s t (λ q. l.temporary ≡ Some q) p (λ q e. free_was_free work p.is_work preparing [] s holds p.preparing_now folder of q (is_free (l.was_free q e))) l.leaves l.settled

-- whatever is left of one stage
pub stage_keeps : (change : Change) (work : Work) (s t : DiskState) (path : List ℕ) (f : Exchange) → HoldsPresent s → IsPreparing work s → Contains work.files f → IsChangeOf change s.tree path f → LeavesStage path s t
    → KeepsPreparing work s t
unfolding IsFolderOf
stage_keeps change work s t path f holds p has c (inl same) = preparing_same work s t p same
stage_keeps change work s t path f holds p has c (inr (place, leads, stands, l)) =
    let here : place ≡ f.0 = same_Some _ _ (sym leads ∙ c.leads) in
    beside_keeps work s t (parent_of place) holds p (inr (f, has, ap parent_of here)) l

-- ---- lists that grow at the end

take_more : {A : Type 0} (xs : List A) (n : ℕ) (x : A) → slice_get xs n ≡ Some x → take (suc n) xs ≡ take n xs ++ x ∷ []
take_more [] n x e = cc
take_more (y ∷ xs) zero x e = ap (λ z. z ∷ []) (same_Some y x e)
take_more {A} (y ∷ xs) (suc n) x e = ap (λ (l : List A). y ∷ l) (take_more xs n x e)

lines_more : (tree : Tree) (fs : List Exchange) (ls : List Line) (f : Exchange) (line : Line) → AreLinesOf tree fs ls → IsLineOf f line → Free tree (parent_of (place_of line)) (stage_of line) → AreLinesOf tree (fs ++ f ∷ []) (ls ++ line ∷ [])
lines_more tree [] [] f line are of free = (of, free, tt)
lines_more tree [] (l ∷ ls) f line are of free = absurd are
lines_more tree (g ∷ fs) [] f line are of free = absurd are
lines_more tree (g ∷ fs) (l ∷ ls) f line (g_of, g_free, more) of free = (g_of, g_free, lines_more tree fs ls f line more of free)

pub change_at : (change : Change) (tree : Tree) (paths : List (List ℕ)) (files : List Exchange) (n : ℕ) (path : List ℕ) → AreChangesOf change tree paths files → slice_get paths n ≡ Some path
    → (f : Exchange) × (slice_get files n ≡ Some f) × IsChangeOf change tree path f
change_at change tree [] files n path are at = cc
change_at change tree (p ∷ paths) [] n path are at = absurd are
change_at change tree (p ∷ paths) (f ∷ files) zero path are at = (f, refl, subst (λ (x : List ℕ). IsChangeOf change tree x f) (same_Some p path at) are.0)
change_at change tree (p ∷ paths) (f ∷ files) (suc n) path are at = change_at change tree paths files n path are.1 at

changes_long : (change : Change) (tree : Tree) (paths : List (List ℕ)) (files : List Exchange) → AreChangesOf change tree paths files → length files ≡ length paths
changes_long change tree [] [] are = refl
changes_long change tree [] (f ∷ files) are = absurd are
changes_long change tree (p ∷ paths) [] are = absurd are
changes_long change tree (p ∷ paths) (f ∷ files) are = let rest = changes_long change tree paths files are.1 in omega (arith, rest)

all_more : (x : NameList) (xs : List NameList) (y : NameList) → AllByRecursion (λ z. same_place x z ≡ false) xs → same_place x y ≡ false → AllByRecursion (λ z. same_place x z ≡ false) (xs ++ y ∷ [])
all_more x [] y all apart = (apart, tt)
all_more x (z ∷ xs) y (one, all) apart = (one, all_more x xs y all apart)

distinct_more : (lines : List Line) (y : NameList) → IsDistinct same_place (map stage_of lines) → ((line : Line) → Contains lines line → stage_of line ≢ y) → IsDistinct same_place (map stage_of lines ++ y ∷ [])
unfolding IsDistinct
distinct_more [] y distinct apart = (tt, tt)
distinct_more (line ∷ lines) y (all, distinct) apart = (
  all_more (stage_of line) (map stage_of lines) y all (same_place_false (stage_of line) y (apart line (first line lines))),
  distinct_more lines y distinct (λ other has. apart other (later line other lines has)),
)

pub has_at : (files : List Exchange) (i : ℕ) (f : Exchange) → slice_get files i ≡ Some f → Contains files f
has_at files i f at = (i, slice_get_within files i f at, get_or_from_slice_get files i f f at)

-- ---- paths in turn

pub path_at : (paths : List (List ℕ)) (i : ℕ) (item path : List ℕ) → i < length paths → item ≡ get_or paths i item → path ≡ item → slice_get paths i ≡ Some path
path_at paths i item path low is same = slice_get-get_or paths i item low ∙ ap (λ (x : List ℕ). Some x) (sym is ∙ sym same)

no_file_there : (o : Option Node) → IsSome (file_node o) → o ≢ None
no_file_there None is e = absurd (cc is)
no_file_there (Some node) is e = cc e

path_still : (s t : DiskState) (path : List ℕ) → AddsFiles s t → IsFilePath s.tree path → IsFilePath t.tree path
path_still s t path a is = record {
  path_is = is.path_is;
  is_file = subst (λ (o : Option Node). IsSome (file_node o)) (sym (a.stood (parts_of path) (no_file_there (node_at s.tree (parts_of path)) is.is_file))) is.is_file;
}

pub paths_still : (s t : DiskState) (lines : List Line) → AddsFiles s t → ((line : Line) → Contains lines line → IsFilePath s.tree line.path) → (line : Line) → Contains lines line → IsFilePath t.tree line.path
paths_still s t lines a are line has = path_still s t line.path a (are line has)

pub paths_more : (s t : DiskState) (lines longer : List Line) (line : Line) → AddsFiles s t → longer ≡ lines ++ line ∷ [] → ((l : Line) → Contains lines l → IsFilePath s.tree l.path) → IsFilePath t.tree line.path
    → (l : Line) → Contains longer l → IsFilePath t.tree l.path
paths_more s t lines longer line a pushed are this l has = elim (Contains-push_cases lines line l (subst (λ (ls : List Line). Contains ls l) pushed has)) [
  | inl before ↦ path_still s t l.path a (are l before)
  | inr same ↦ subst (λ (x : Line). IsFilePath t.tree x.path) same this
]

pub no_paths : (tree : Tree) (lines : List Line) → lines ≡ [] → (line : Line) → Contains lines line → IsFilePath tree line.path
no_paths tree lines none line has = let few = subst (λ (ls : List Line). Contains ls line) none has in absurd (omega (arith, few.1))

-- ---- what came are their stages

-- what stood is no stage
pub stood_no_stage : (lines : List Line) (old new : Tree) → AddsStages lines old new → (q : NameList) → IsSome (node_at old q) → IsStage lines q → ⊥
stood_no_stage lines old new a q stood (line, has, e) = none_stands (node_at old q) (ap (node_at old) e ∙ (a.was_free line has).free) stood

-- where nothing stands now, nothing stood
pub free_before : (lines : List Line) (old new : Tree) → AddsStages lines old new → (q : NameList) → node_at new q ≡ None → node_at old q ≡ None
free_before lines old new a q none = elim (none_or_some (node_at old q)) [
  | inl it ↦ it
  | inr stood ↦ sym (a.others q (stood_no_stage lines old new a q stood)) ∙ none
]

pub stages_none : (start : DiskState) (lines : List Line) → lines ≡ [] → AddsStages lines start.tree start.tree
stages_none start lines none = record {
  was_free = λ line has. absurd (nothing line has);
  is_file = λ line has. absurd (nothing line has);
  others = λ q n. refl;
}
  where
    nothing : (line : Line) → Contains lines line → ⊥
    nothing line has = let few = subst (λ (ls : List Line). Contains ls line) none has in omega (arith, few.1)

pub stages_same : (lines longer : List Line) (start now next : DiskState) → longer ≡ lines → AddsStages lines start.tree now.tree → SameTree now next → AddsStages longer start.tree next.tree
stages_same lines longer start now next e a same = subst (λ (ls : List Line). AddsStages ls start.tree next.tree) (sym e) (subst (λ (t : Tree). AddsStages lines start.tree t) (sym same.tree) a)

pub stages_more : (change : Change) (path : List ℕ) (line : Line) (lines longer : List Line) (start now next : DiskState) → longer ≡ lines ++ line ∷ [] → AddsStages lines start.tree now.tree → StagesFile change path line now next
    → AddsStages longer start.tree next.tree
stages_more change path line lines longer start now next pushed a m = subst (λ (ls : List Line). AddsStages ls start.tree next.tree) (sym pushed) (record {
  was_free = λ other has. elim (Contains-push_cases lines line other has) [
    | inl old ↦ a.was_free other old
    | inr same ↦ subst (λ (l : Line). Free start.tree (parent_of (place_of l)) (stage_of l)) same this_free
  ];
  is_file = λ other has. elim (Contains-push_cases lines line other has) [
    | inl old ↦ subst (λ (o : Option Node). IsSome (file_node o)) (sym (m.others (stage_of other) (λ e. apart other old e))) (a.is_file other old)
    | inr same ↦ subst (λ (l : Line). IsSome (file_at next.tree (stage_of l))) same (ap is_some m.holds)
  ];
  others = λ q n.
      m.others q (λ e. n (line, Contains-append_right lines (line ∷ []) line (first line []), e))
      ∙ a.others q (λ (other, has, e). n (other, Contains-append_left lines (line ∷ []) other has, e));
})
  where
    this_free : Free start.tree (parent_of (place_of line)) (stage_of line)
    this_free = record {
      reserved = subst (λ (q : NameList). Reserved (parent_of q) (stage_of line)) (sym m.of.place) m.was_free.reserved;
      free = free_before lines start.tree now.tree a (stage_of line) m.was_free.free;
    }

    apart : (other : Line) → Contains lines other → stage_of other ≢ stage_of line
    apart other old e = none_stands (file_at now.tree (stage_of other)) (ap (file_at now.tree) e ∙ ap file_node m.was_free.free) (a.is_file other old)

-- ---- so many files have their stages

pub record IsMadeTo (work : Work) (start : DiskState) (n : ℕ) (lines : List Line) (now : DiskState) : Type 0 where
  pub kept : KeepsPreparing work start now
  pub adds : AddsFiles start now
  pub in_turn : AreLinesOf work.tree (take n work.files) lines
  pub own_stages : IsDistinct same_place (map stage_of lines)
  pub staged : (line : Line) (f : Exchange) → Contains lines line → Contains work.files f → IsLineOf f line → StandsSettled f line now

pub made_none : (work : Work) (start : DiskState) → IsPreparing work start → IsMadeTo work start 0 [] start
unfolding IsDistinct
made_none work start p =
    let same : SameTree start start = record { tree = refl; clock = refl; outcomes = refl } in
    record {
      kept = preparing_same work start start p same;
      adds = adds_same start start same;
      in_turn = none work.files;
      own_stages = tt;
      staged = λ line f has has_f of. absurd (omega (arith, has.1));
    }
  where
    none : (files : List Exchange) → AreLinesOf work.tree (take 0 files) []
    none [] = tt
    none (f ∷ files) = tt

module _ (change : Change) (one : IsOne change) (work : Work) (paths : List (List ℕ)) (start : DiskState) (p : IsPlanned change work paths start) (n : ℕ) (lines : List Line) (now : DiskState) (holds : HoldsPresent now)
    (to : IsMadeTo work start n lines now) (path : List ℕ) (at : slice_get paths n ≡ Some path) where
  -- the file that comes next
  pub record IsTurn : Type 0 where
    pub f : Exchange
    pub at_file : slice_get work.files n ≡ Some f
    pub has : Contains work.files f
    pub changes : IsChangeOf change now.tree path f
    pub still : IsPreparing work now

  pub turn : IsTurn
  turn =
      let (f, at_file, c) = change_at change start.tree paths work.files n path p.changes at in
      record {
        f = f;
        at_file = at_file;
        has = has_at work.files n f at_file;
        changes = change_still change path f start now to.adds c;
        still = preparing_still work start now p.preparing_now to.kept;
      }

  pub left_on : (next : DiskState) → LeavesStage path now next → KeepsPreparing work start next
  left_on next l = preparing_then work start now next to.kept (stage_keeps change work now next path turn.f holds turn.still turn.has turn.changes l)

  -- it isn't passed over
  pub not_unchanged : (next : DiskState) → IsUnchanged change path now next → ⊥
  not_unchanged next u = u.no_change turn.f turn.changes

  module _ (line : Line) (next : DiskState) (m : StagesFile change path line now next) (left : LeavesStage path now next) where
    f_is : m.f ≡ turn.f
    f_is = one_change change one now.tree path m.f turn.f m.changes turn.changes

    of : IsLineOf turn.f line
    of = subst (λ (x : Exchange). IsLineOf x line) f_is m.of

    was_free : Free work.tree (parent_of (place_of line)) (stage_of line)
    was_free =
        let aside = free_was_free work turn.still.is_work preparing [] now holds turn.still.preparing_now (parent_of turn.f.0) (inr (turn.f, turn.has, refl)) (stage_of line)
        (subst (λ (x : Exchange). Free now.tree (parent_of x.0) (stage_of line)) f_is (is_free m.was_free)) in
        record {
          reserved = subst (λ (q : NameList). Reserved (parent_of q) (stage_of line)) (sym m.of.place) m.was_free.reserved;
          free = aside_free work turn.still.is_work (stage_of line) aside;
        }

    stood : (other : Line) → Contains lines other → (g : Exchange) → Contains work.files g → IsLineOf g other → stage_of other ≢ stage_of line
    stood other in_lines g has_g g_of e =
        let there = to.staged other g in_lines has_g g_of in
        cc (sym there.holds ∙ ap (λ (q : NameList). file_at now.tree q) e ∙ ap file_node m.was_free.free)

    apart : (other : Line) → Contains lines other → stage_of other ≢ stage_of line
    apart other in_lines =
        let (g, has_g, g_of) = file_for work.tree (take n work.files) lines to.in_turn other in_lines.0 in_lines.1 in_lines.2 in
        stood other in_lines g (subst (λ (fs : List Exchange). Contains fs g) (take-append-drop n work.files) (Contains-append_left (take n work.files) (drop n work.files) g has_g)) g_of

    still_there : (other : Line) (g : Exchange) → Contains lines other → Contains work.files g → IsLineOf g other → StandsSettled g other next
    still_there other g in_lines has_g g_of =
        let there = to.staged other g in_lines has_g g_of in
        let n = apart other in_lines in
        record { mode = there.mode; holds = ap file_node (m.others (stage_of other) n) ∙ there.holds; settled = m.settled_others (stage_of other) n there.settled }

    now_there : (g : Exchange) → Contains work.files g → IsLineOf g line → StandsSettled g line next
    now_there g has_g g_of =
        let same : m.f ≡ g = f_is ∙ same_file work turn.still.is_work turn.f g turn.has has_g (sym of.place ∙ g_of.place) in
        record { mode = m.mode; holds = m.holds ∙ ap (λ (x : Exchange). Some (x.1, m.mode)) same; settled = m.settled }

    pub made_more : (longer : List Line) → longer ≡ lines ++ line ∷ [] → IsMadeTo work start (n + 1) longer next
    made_more longer pushed = subst (λ (ls : List Line). IsMadeTo work start (n + 1) ls next) (sym pushed) (record {
      kept = left_on next left;
      adds = adds_then start now next to.adds (adds_stage change path line now next m);
      in_turn = subst (λ (fs : List Exchange). AreLinesOf work.tree fs (lines ++ line ∷ []))
          (sym (take_more work.files n turn.f turn.at_file) ∙ ap (λ (k : ℕ). take k work.files) (sym (add-one n)))
          (lines_more work.tree (take n work.files) lines turn.f line to.in_turn of was_free);
      own_stages = subst (IsDistinct same_place) (sym (map-append stage_of lines (line ∷ []))) (distinct_more lines (stage_of line) to.own_stages apart);
      staged = λ other g in_lines has_g g_of. elim (Contains-push_cases lines line other in_lines) [
        | inl old ↦ still_there other g old has_g g_of
        | inr same ↦ subst (λ (l : Line). StandsSettled g l next) same (now_there g has_g (subst (IsLineOf g) (sym same) g_of))
      ];
    })

-- all of them have
pub made_all : (change : Change) (work : Work) (paths : List (List ℕ)) (start : DiskState) → IsPlanned change work paths start → (n : ℕ) (lines : List Line) (now : DiskState) → n ≡ length paths
    → IsMadeTo work start n lines now → AreStagesMade work lines now
made_all change work paths start p n lines now all to =
    record {
      in_turn = subst (λ (fs : List Exchange). AreLinesOf work.tree fs lines)
          (ap (λ (k : ℕ). take k work.files) (all ∙ sym (changes_long change start.tree paths work.files p.changes)) ∙ take-length work.files) to.in_turn;
      own_stages = to.own_stages;
      staged = to.staged;
    }
