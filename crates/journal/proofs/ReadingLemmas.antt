-- The journal that stands and its stages are read.
use Rattle.std.proofs.Common.{true, false, Bool, cond, ◌≡◌, ◌≢◌, ◌<◌, ◌+◌, ◌≤◌, ℕ, List, [], ◌∷◌, ◌++◌, length, take, drop, codes, refl, sym, ◌∙◌, ap, subst, inl, inr}
use Rattle.std.specs.Prelude.{◌⊎◌, Option, Some, None, IsSome, is_some, option_map, IsTrue, Contains, slice_get, Result, Ok, Err, IsErrOf, IsErrAnd, IfErr}
use Rattle.std.specs.Option.{option_and_then}
use Rattle.std.proofs.lemmas.Option.{same_Some, get_or_from_slice_get}
use Rattle.std.proofs.lemmas.List.{take_all, take_more, drop_more, take-append-drop}
use Rattle.std.proofs.lemmas.List.Elements.{Contains-push_cases}
use Rattle.sd_io.specs.declared.fault.DiskFault.{DiskFault}
use Rattle.sd_io.specs.declared.fault.DiskFault.TheVariants as disk
use Rattle.sd_io.specs.Tree.{NameList, Content, directory, link, file, other, Node, Tree, IsTree, node_at, file_content, file_node, file_at, is_directory_at}
use Rattle.sd_io.specs.Paths.{reached, named}
use Rattle.sd_io.specs.declared.meta.Kind.{Kind}
use Rattle.sd_io.specs.declared.meta.Kind.TheVariants as kinds
use Rattle.sd_io.specs.Disk.{DiskState, SameTree, HasCause}
use Rattle.sd_io.specs.Files.{kind_of, path_text, Resolves, Reads, IsNoFile, file_of, file_named, Renames, CannotRename, MayHaveRenamed}
use Rattle.sd_io.specs.Lists.{directory_of}
use Rattle.sd_io.proofs.PathLemmas.{file_of_named}
use Rattle.sd_io.proofs.WayLemmas.{cond_some_then}
use Rattle.sd_io.proofs.PathTextLemmas.{text_below, text_top}
use Rattle.sd_course.specs.Course.{course}
use Rattle.file_exchange.proofs.CauseLemmas.{risen_since}
use Rattle.journal_text.specs.declared.line.Line.{Line}
use Rattle.journal_text.specs.declared.fault.JournalTextFault.{JournalTextFault}
use Rattle.journal_text.specs.declared.fault.JournalTextFault.TheVariants as text
use Rattle.journal_text.specs.Journal.{IsTextOf}
use Rattle.change_phases.specs.Between.{journal_name, stage_of}
use Rattle.journal.specs.declared.fault.JournalFault.{JournalFault}
use Rattle.journal.specs.declared.fault.JournalFault.TheVariants as fault
use Rattle.journal.specs.Faults.{of_disk, of_text}
use Rattle.journal.specs.Finding.{FindsEntry, LookFails}
use Rattle.journal.specs.Reading.{ReadsJournal, HoldsNoJournal, JournalFails, IsStageThere, AreStagesThere, HasOtherDigest, StageFails, FailsAtFirst, NoneStands, JournalStands, OtherStands, AllStand}
use Rattle.journal.specs.Recovering.{RecoverFails}
use Rattle.journal.proofs.FileLemmas.{text_to_file}

-- ---- the journal's path

-- a path that leads to a directory leads to the place that it leads to
same_directory : (tree : Tree) (path : List ℕ) (q place : NameList) → directory_of tree path ≡ Some q → reached tree path true ≡ Some place → place ≡ q
same_directory tree path q place e leads =
    let test : cond (is_directory_at tree place) (Some place) None ≡ Some q =
    sym (ap (option_and_then (λ p. cond (is_directory_at tree p) (Some p) None)) leads) ∙ e in
    same_Some place q (cond_some_then (is_directory_at tree place) (Some place) q test).1

node_some : (o : Option Node) (node : Node) → o ≡ Some node → IsSome o
node_some o node e = ap is_some e

-- the top's text is `/` alone
pub top_path : (s : DiskState) (root text : List ℕ) (q : NameList) → IsTree s.tree → Resolves s root text → directory_of s.tree root ≡ Some q → text ≡ 47 ∷ []
    → codes "/.sd-journal" ≡ path_text (q ++ journal_name ∷ [])
top_path s root text q is r e slash =
    let top : r.place ≡ [] = text_top s.tree r.place is (node_some (node_at s.tree r.place) r.node r.leads.node_there) (sym r.text_is ∙ slash) in
    ap (λ (p : NameList). path_text (p ++ journal_name ∷ [])) (sym top ∙ same_directory s.tree root q r.place e r.leads.place_reached)

pub folder_path_is : (s : DiskState) (root text : List ℕ) (q : NameList) → Resolves s root text → directory_of s.tree root ≡ Some q → text ≢ 47 ∷ []
    → text ++ codes "/.sd-journal" ≡ path_text (q ++ journal_name ∷ [])
folder_path_is s root text q r e below =
    let some : r.place ≢ [] = λ top. below (r.text_is ∙ ap path_text top) in
    ap (λ (t : List ℕ). t ++ codes "/.sd-journal") r.text_is ∙ sym (text_below r.place (journal_name ∷ []) some one)
    ∙ ap (λ (p : NameList). path_text (p ++ journal_name ∷ [])) (same_directory s.tree root q r.place e r.leads.place_reached)
  where
    one : journal_name ∷ [] ≢ []
    one e = cc

-- ---- the journal is read

-- why it can't be read, or isn't one
pub read_refused : {T : Type 0} (tells : Bool) (s t : DiskState) (path : List ℕ) (kind : Kind) (f : DiskFault) → kind ≡ kinds.File
    → (IsTrue tells → IsErrOf {T = T} (Err f) disk.Absent → IsNoFile s path) → (IsErrOf {T = T} (Err f) disk.Taken → ⊥) → HasCause {T = T} tells s t (Err f)
    → JournalFails (course tells s t) path kind (of_disk f)
read_refused true s t path kind disk.Absent is absent taken cause = inr (refl, is, absent refl refl)
read_refused false s t path kind disk.Absent is absent taken cause = inl (inl (cause.absent refl refl))
read_refused tells s t path kind disk.Taken is absent taken cause = absurd (taken refl)
read_refused tells s t path kind disk.Failed is absent taken cause = inl (cause.failed refl)
read_refused tells s t path kind disk.NoMemory is absent taken cause = tt

pub text_refused : {T : Type 0} (tells : Bool) (s t : DiskState) (path : List ℕ) (kind : Kind) (bytes : List ℕ) (f : JournalTextFault) → (IsTrue tells → Reads s path bytes)
    → (IsErrOf {T = T} (Err f) text.NotAJournal → (lines : List Line) → IsTextOf bytes lines → ⊥) → JournalFails (course tells s t) path kind (of_text f)
text_refused tells s t path kind bytes text.NotAJournal reads none =
    inr (λ told. record { bytes = bytes; mode = (reads told).0; holds = (reads told).1; no_text = none refl })
text_refused tells s t path kind bytes text.NoMemory reads none = tt

-- ---- a stage is read

pub some_is : {T : Type 0} (o : Option T) → IsSome o → (x : T) × (o ≡ Some x)
some_is None is = absurd (cc is)
some_is (Some x) is = (x, refl)

-- what stands at a path itself is what was read there
pub stage_read : (s t : DiskState) (stage path again bytes : List ℕ) → path ≡ stage → again ≡ stage → SameTree s t → IsSome (file_named s.tree path) → Reads t again bytes
    → (mode : ℕ) × (file_named s.tree stage ≡ Some (bytes, mode))
stage_read s t stage path again bytes e f same there reads =
    let (x, named) = some_is (file_named s.tree stage) (subst (λ (p : List ℕ). IsSome (file_named s.tree p)) e there) in
    let of : file_of s.tree stage ≡ Some x = file_of_named s.tree stage x named in
    let now : file_of s.tree stage ≡ Some (bytes, reads.0) = ap (λ (t : Tree). file_of t stage) (sym same.tree) ∙ ap (file_of t.tree) (sym f) ∙ reads.1 in
    (reads.0, named ∙ sym of ∙ now)

-- what stands there can be read
pub stage_stands : (s t : DiskState) (stage path again : List ℕ) → path ≡ stage → again ≡ stage → SameTree s t → IsSome (file_named s.tree path) → IsNoFile t again → ⊥
stage_stands s t stage path again e f same there none =
    let (x, named) = some_is (file_named s.tree stage) (subst (λ (p : List ℕ). IsSome (file_named s.tree p)) e there) in
    cc (sym (file_of_named s.tree stage x named) ∙ ap (λ (t : Tree). file_of t stage) (sym same.tree) ∙ ap (file_of t.tree) (sym f) ∙ none)

-- why a stage isn't looked at, or isn't read
pub stage_unread : {T : Type 0} (tells : Bool) (s t u : DiskState) (line : Line) (f : DiskFault) → s.faults ≤ t.faults → (IsTrue tells → IsErrOf {T = T} (Err f) disk.Absent → ⊥)
    → (IsErrOf {T = T} (Err f) disk.Taken → ⊥) → HasCause {T = T} tells t u (Err f) → StageFails (course tells s u) line (of_disk f)
stage_unread true s t u line disk.Absent low absent taken cause = absurd (absent refl refl)
stage_unread false s t u line disk.Absent low absent taken cause = risen_since s.faults t.faults u.faults low (inl (cause.absent refl refl))
stage_unread tells s t u line disk.Taken low absent taken cause = absurd (taken refl)
stage_unread tells s t u line disk.Failed low absent taken cause = risen_since s.faults t.faults u.faults low (cause.failed refl)
stage_unread tells s t u line disk.NoMemory low absent taken cause = tt

-- ---- stages in turn

pub one_more : (tree : Tree) (lines : List Line) (n : ℕ) (line : Line) → n < length lines → slice_get lines n ≡ Some line → AreStagesThere tree (take n lines) → IsStageThere tree line
    → AreStagesThere tree (take (n + 1) lines)
one_more tree lines n line low at there this another has =
    let more : take (n + 1) lines ≡ take n lines ++ line ∷ [] = take_more lines n line low ∙ ap (λ (l : Line). take n lines ++ l ∷ []) (get_or_from_slice_get lines n line line at) in
    elim (Contains-push_cases (take n lines) line another (subst (λ (ls : List Line). Contains ls another) more has)) [
      | inl before ↦ there another before
      | inr is ↦ subst (IsStageThere tree) is this
    ]

pub all_there : (tree : Tree) (lines : List Line) (n : ℕ) → length lines ≤ n → AreStagesThere tree (take n lines) → AreStagesThere tree lines
all_there tree lines n whole there line has = there line (subst (λ (ls : List Line). Contains ls line) (sym (take_all n lines whole)) has)

-- a stage that is there now was there before
pub there_before : (old now : DiskState) (line : Line) → SameTree old now → IsStageThere now.tree line → IsStageThere old.tree line
there_before old now line same there = subst (λ (t : Tree). IsStageThere t line) same.tree there

-- why a stage is refused, from an earlier state on
pub stage_fails_since : (tells : Bool) (old now new : DiskState) (line : Line) (refused : JournalFault) → (IsTrue tells → now.tree ≡ old.tree) → old.faults ≤ now.faults
    → StageFails (course tells now new) line refused → StageFails (course tells old new) line refused
stage_fails_since tells old now new line fault.RootMissing same low fails = fails
stage_fails_since tells old now new line (fault.File refused) same low fails = risen_since old.faults now.faults new.faults low fails
stage_fails_since tells old now new line fault.Pending same low fails = fails
stage_fails_since tells old now new line (fault.TempName folder) same low fails = fails
stage_fails_since tells old now new line (fault.Unfinished job) same low fails = fails
stage_fails_since tells old now new line fault.BadJournal same low fails = fails
stage_fails_since tells old now new line (fault.StageMissing path) same low fails = (
  fails.0,
  ((λ told. ap (λ (t : Tree). file_named t (path_text (stage_of line))) (sym (same told)) ∙ fails.1.0 told), (λ untold. risen_since old.faults now.faults new.faults low (fails.1.1 untold))),
)
stage_fails_since tells old now new line (fault.StageDiffers path planned found) same low fails =
    let other_before : IsTrue tells → HasOtherDigest old.tree line found = λ told. subst (λ (t : Tree). HasOtherDigest t line found) (same told) (fails.3.0 told) in
    (fails.0, fails.1, fails.2, (other_before, (λ untold. tt)))
stage_fails_since tells old now new line fault.NoMemory same low fails = fails

pub fails_at : (tells : Bool) (old now new : DiskState) (lines : List Line) (n : ℕ) (line : Line) (refused : JournalFault) → n < length lines → slice_get lines n ≡ Some line
    → (IsTrue tells → SameTree old now) → old.faults ≤ now.faults → (IsTrue tells → AreStagesThere old.tree (take n lines)) → StageFails (course tells now new) line refused
    → FailsAtFirst (course tells old new) lines refused
fails_at tells old now new lines n line refused low at same rose there fails = record {
  before = take n lines;
  line = line;
  after = drop (n + 1) lines;
  lines_are = sym (take-append-drop n lines)
      ∙ ap (λ (ls : List Line). take n lines ++ ls) (drop_more lines n line low ∙ ap (λ (l : Line). l ∷ drop (n + 1) lines) (get_or_from_slice_get lines n line line at));
  there = (there, λ untold. tt);
  fails = stage_fails_since tells old now new line refused (λ told. (same told).tree) rose fails;
}

pub refused_as : {T : Type 0} (P : JournalFault → Type 0) (r : Result T JournalFault) (refused : JournalFault) → IsErrAnd r (λ e. e ≡ refused) → P refused → IfErr r P
refused_as P (Ok x) refused is p = absurd is
refused_as P (Err e) refused is p = subst P (sym is) p

-- ---- a file that is renamed to its own name

module _ (s t : DiskState) (path : List ℕ) where
  pub renamed_itself : Renames s path path t → SameTree s t × IsSome (file_named s.tree path)
  renamed_itself r =
      let same : r.source ≡ r.target = same_Some _ _ (sym r.leaves ∙ r.comes) in
      (r.kept same, subst (λ (o : Option (List ℕ × ℕ)). IsSome o) (sym (ap (option_and_then (file_at s.tree)) r.leaves)) r.is_file)

  pub may_be_itself : MayHaveRenamed s path path t → SameTree s t
  may_be_itself (inl (cannot, same)) = same
  may_be_itself (inr (inl not)) = not.kept (same_Some _ _ (sym not.leaves ∙ not.comes))
  may_be_itself (inr (inr r)) = (renamed_itself r).0

  pub none_itself : CannotRename s path path → file_named s.tree path ≡ None
  none_itself (inl none) = none
  none_itself (inr (inl none)) = ap (option_and_then (file_at s.tree)) none
  none_itself (inr (inr blocks)) = ap (option_and_then (file_at s.tree)) blocks.names ∙ blocks.no_file

-- ---- what stands in a root

-- a path that leads to a directory leads there
pub directory_reached : (tree : Tree) (path : List ℕ) (q : NameList) → directory_of tree path ≡ Some q → reached tree path true ≡ Some q
directory_reached tree path q e = by (reached tree path true) refl
  where
    by : (o : Option NameList) → reached tree path true ≡ o → reached tree path true ≡ Some q
    by None none = cc (sym e ∙ ap (option_and_then (λ p. cond (is_directory_at tree p) (Some p) None)) none)
    by (Some p) leads = leads ∙ ap (λ (x : NameList). Some x) (same_directory tree path q p e leads)

kind_to_file : (c : Content) → kind_of c ≡ kinds.File → (x : List ℕ × ℕ) × (file_content c ≡ Some x)
kind_to_file directory e = absurd (cc e)
kind_to_file (link target) e = absurd (cc e)
kind_to_file (file bytes mode) e = ((bytes, mode), refl)
kind_to_file other e = absurd (cc e)

node_to_file : (o : Option Node) → option_map (λ (n : Node). kind_of n.content) o ≡ Some kinds.File → (x : List ℕ × ℕ) × (file_node o ≡ Some x)
node_to_file None e = absurd (cc e)
node_to_file (Some node) e = kind_to_file node.content (same_Some _ _ e)

content_to_kind : (c : Content) (x : List ℕ × ℕ) → file_content c ≡ Some x → kind_of c ≡ kinds.File
content_to_kind directory x e = absurd (cc e)
content_to_kind (link target) x e = absurd (cc e)
content_to_kind (file bytes mode) x e = refl
content_to_kind other x e = absurd (cc e)

file_to_kind : (o : Option Node) (x : List ℕ × ℕ) → file_node o ≡ Some x → option_map (λ (n : Node). kind_of n.content) o ≡ Some kinds.File
file_to_kind None x e = absurd (cc e)
file_to_kind (Some node) x e = ap (λ (k : Kind). Some k) (content_to_kind node.content x e)

kind_none : (o : Option Node) → None ≡ option_map (λ (n : Node). kind_of n.content) o → o ≡ None
kind_none None e = refl
kind_none (Some node) e = absurd (cc e)

kind_some : (o : Option Node) (kind : Kind) → Some kind ≡ option_map (λ (n : Node). kind_of n.content) o → IsSome o
kind_some None kind e = absurd (cc e)
kind_some (Some node) kind e = refl

-- nothing is found
pub none_stands : (tree : Tree) (root : List ℕ) → FindsEntry tree root journal_name None → NoneStands tree root
none_stands tree root finds = record {
  folder = finds.folder;
  leads = directory_reached tree root finds.folder finds.leads;
  none = kind_none (node_at tree (finds.folder ++ journal_name ∷ [])) finds.kind_is;
}

-- something of this kind is found, and this is its path
module _ (tree : Tree) (is : IsTree tree) (root : List ℕ) (kind : Kind) (finds : FindsEntry tree root journal_name (Some kind)) (path : List ℕ) (path_is : path ≡ path_text (finds.folder ++ journal_name ∷ [])) where
  abbrev place : NameList
  place = finds.folder ++ journal_name ∷ []

  leads_there : reached tree root true ≡ Some finds.folder
  leads_there = directory_reached tree root finds.folder finds.leads

  path_to_file : (x : List ℕ × ℕ) → file_at tree place ≡ Some x → file_of tree path ≡ Some x
  path_to_file x held = ap (λ (p : List ℕ). option_and_then (file_at tree) (reached tree p true)) path_is ∙ ap (option_and_then (file_at tree)) (text_to_file tree place x is held) ∙ held

  file_standing : kind ≡ kinds.File → (x : List ℕ × ℕ) × (file_at tree place ≡ Some x)
  file_standing e = node_to_file (node_at tree place) (sym finds.kind_is ∙ ap (λ (k : Kind). Some k) e)

  pub can_be_read : kind ≡ kinds.File → file_of tree path ≡ None → ⊥
  can_be_read e none = let (x, held) = file_standing e in cc (sym none ∙ path_to_file x held)

  pub journal_stands : (lines : List Line) → kind ≡ kinds.File → ReadsJournal tree path lines → JournalStands tree root lines
  journal_stands lines e reads =
      let (x, held) = file_standing e in
      record {
        folder = finds.folder;
        leads = leads_there;
        bytes = reads.bytes;
        mode = reads.mode;
        holds = held ∙ sym (path_to_file x held) ∙ reads.holds;
        is_text = reads.is_text;
      }

  pub reads_root : (lines : List Line) (own : List ℕ) → own ≡ path_text place → kind ≡ kinds.File → ReadsJournal tree path lines → AreStagesThere tree lines
      → (all : AllStand tree root lines) × (own ≡ path_text (all.journal.folder ++ journal_name ∷ []))
  reads_root lines own own_is e reads stages =
      let (x, held) = file_standing e in (
        record {
          journal = record {
            folder = finds.folder;
            leads = leads_there;
            bytes = reads.bytes;
            mode = reads.mode;
            holds = held ∙ sym (path_to_file x held) ∙ reads.holds;
            is_text = reads.is_text;
          };
          stages = stages;
        },
        own_is,
      )

  pub other_stands : (kind ≢ kinds.File) ⊎ HoldsNoJournal tree path → OtherStands tree root
  other_stands why = record {
    folder = finds.folder;
    leads = leads_there;
    some = kind_some (node_at tree place) kind finds.kind_is;
    no_journal = λ bytes mode held lines is_text. by why bytes mode held lines is_text;
  }
    where
      by : (kind ≢ kinds.File) ⊎ HoldsNoJournal tree path → (bytes : List ℕ) (mode : ℕ) → file_at tree place ≡ Some (bytes, mode) → (lines : List Line) → IsTextOf bytes lines → ⊥
      by (inl not) bytes mode held lines is_text = not (same_Some _ _ (finds.kind_is ∙ file_to_kind (node_at tree place) (bytes, mode) held))
      by (inr none) bytes mode held lines is_text =
          let both : Some (none.bytes, none.mode) ≡ Some (bytes, mode) = sym none.holds ∙ path_to_file (bytes, mode) held in
          let same : none.bytes ≡ bytes = ap (λ (x : List ℕ × ℕ). x.0) (same_Some (none.bytes, none.mode) (bytes, mode) both) in
          none.no_text lines (subst (λ (b : List ℕ). IsTextOf b lines) (sym same) is_text)

-- the same of a tree that is the same
pub all_same : (old now : Tree) (root : List ℕ) (lines : List Line) → now ≡ old → AllStand now root lines → AllStand old root lines
all_same old now root lines same = subst (λ (t : Tree). AllStand t root lines) same

-- ---- why a root's journal isn't read

-- a root that leads to a directory
pub is_directory_there : (tree : Tree) (root : List ℕ) → IsSome (directory_of tree root) → directory_of tree root ≡ None → ⊥
is_directory_there tree root some none = cc (sym some ∙ ap is_some none)

pub leads_somewhere : (tree : Tree) (root : List ℕ) → IsSome (directory_of tree root) → reached tree root true ≡ None → ⊥
leads_somewhere tree root some none = let (q, leads) = some_is (directory_of tree root) some in cc (sym none ∙ directory_reached tree root q leads)

-- a look that was refused, though what it looked for was there
pub look_fails : (tells : Bool) (s t u : DiskState) (root : List ℕ) (absent : Type 0) → s.faults ≤ t.faults → (IsTrue tells → absent → ⊥) → (f : DiskFault) → LookFails (course tells t u) absent f
    → RecoverFails (course tells s u) root (of_disk f)
look_fails true s t u root absent low there disk.Absent fails = absurd (there refl (fails.0 refl))
look_fails false s t u root absent low there disk.Absent fails = risen_since s.faults t.faults u.faults low (fails.1 refl)
look_fails tells s t u root absent low there disk.Taken fails = absurd fails
look_fails tells s t u root absent low there disk.Failed fails = risen_since s.faults t.faults u.faults low fails
look_fails tells s t u root absent low there disk.NoMemory fails = tt

-- the journal that was found wasn't read
pub journal_fails : (tells : Bool) (s t u : DiskState) (root path : List ℕ) (kind : Kind) → s.faults ≤ t.faults → s.listed < u.listed
    → (IsTrue tells → kind ≡ kinds.File → file_of t.tree path ≡ None → ⊥) → (IsTrue tells → (kind ≢ kinds.File) ⊎ HoldsNoJournal t.tree path → OtherStands s.tree root)
    → (f : JournalFault) → JournalFails (course tells t u) path kind f → RecoverFails (course tells s u) root f
journal_fails tells s t u root path kind low found there bad fault.RootMissing fails = absurd fails
journal_fails tells s t u root path kind low found there bad (fault.File refused) (inl failed) = risen_since s.faults t.faults u.faults low failed
journal_fails tells s t u root path kind low found there bad (fault.File refused) (inr (told, is, none)) = absurd (there told is none)
journal_fails tells s t u root path kind low found there bad fault.Pending fails = absurd fails
journal_fails tells s t u root path kind low found there bad (fault.TempName folder) fails = absurd fails
journal_fails tells s t u root path kind low found there bad (fault.Unfinished job) fails = absurd fails
journal_fails tells s t u root path kind low found there bad fault.BadJournal fails =
    ((λ told. bad told (elim fails [ inl not ↦ inl not | inr none ↦ inr (none told) ])), (λ untold. found))
journal_fails tells s t u root path kind low found there bad (fault.StageMissing stage) fails = absurd fails
journal_fails tells s t u root path kind low found there bad (fault.StageDiffers stage planned found_digest) fails = absurd fails
journal_fails tells s t u root path kind low found there bad fault.NoMemory fails = tt

pub first_since : (tells : Bool) (old now new : DiskState) (lines : List Line) (refused : JournalFault) → (IsTrue tells → now.tree ≡ old.tree) → old.faults ≤ now.faults
    → FailsAtFirst (course tells now new) lines refused → FailsAtFirst (course tells old new) lines refused
first_since tells old now new lines refused same low first = record {
  before = first.before;
  line = first.line;
  after = first.after;
  lines_are = first.lines_are;
  there = ((λ told. subst (λ (t : Tree). AreStagesThere t first.before) (same told) (first.there.0 told)), (λ untold. tt));
  fails = stage_fails_since tells old now new first.line refused same low first.fails;
}

-- a stage was refused
pub stages_fail : (tells : Bool) (s t u : DiskState) (root : List ℕ) (lines : List Line) → (IsTrue tells → t.tree ≡ s.tree) → s.faults ≤ t.faults → (IsTrue tells → JournalStands s.tree root lines)
    → (f : JournalFault) → FailsAtFirst (course tells t u) lines f → RecoverFails (course tells s u) root f
stages_fail tells s t u root lines same low stands fault.RootMissing first = absurd first.fails
stages_fail tells s t u root lines same low stands (fault.File refused) first = risen_since s.faults t.faults u.faults low first.fails
stages_fail tells s t u root lines same low stands fault.Pending first = absurd first.fails
stages_fail tells s t u root lines same low stands (fault.TempName folder) first = absurd first.fails
stages_fail tells s t u root lines same low stands (fault.Unfinished job) first = absurd first.fails
stages_fail tells s t u root lines same low stands fault.BadJournal first = absurd first.fails
stages_fail tells s t u root lines same low stands (fault.StageMissing path) first =
    record { lines = lines; journal = stands; first = first_since tells s t u lines (fault.StageMissing path) same low first }
stages_fail tells s t u root lines same low stands (fault.StageDiffers path planned found) first =
    record { lines = lines; journal = stands; first = first_since tells s t u lines (fault.StageDiffers path planned found) same low first }
stages_fail tells s t u root lines same low stands fault.NoMemory first = tt
