-- The calls of a journalled change, each within its phase.
use Rattle.std.proofs.Common.{◌≡◌, ◌≢◌, ◌⊎◌, ℕ, List, [], ◌∷◌, ◌++◌, map, refl, sym, ◌∙◌, ap, subst, inl, inr, arith}
use Rattle.std.specs.Prelude.{Option, Some, None, IsSome, is_some, Contains}
use Rattle.sd_io.specs.Tree.{Name, NameList, Content, directory, link, file, other, Node, Tree, node_at, file_node, file_content, file_at}
use Rattle.sd_io.specs.Paths.{parent_of}
use Rattle.sd_io.specs.Outcomes.{Outcome, own, older, gone, any_file, Outcomes, Fits, Leaves, content_at, content_of, own_of, left_behind, settled, put, alone, after_move, after_no_move, after_remove}
use Rattle.sd_io.specs.Disk.{DiskState, Advances, HoldsPresent, outcomes_now}
use Rattle.sd_io.specs.Files.{Creates, Writes, Syncs, Renames, RenamesNot, Removes}
use Rattle.sd_io.specs.Lists.{SyncsFolder}
use Rattle.sd_io.specs.Crashes.{LeavesSince, IsDurable, IsSettledAt}
use Rattle.sd_io.proofs.WayLemmas.{same_or_other}
use Rattle.sd_io.proofs.OutcomeLemmas.{put_there, put_elsewhere, leaves_append, leaves_behind, own_append, own_behind, own_settled, alone_there}
use Rattle.sd_io.proofs.CrashLemmas.{since_more, since_loose, since_folder, since_moved, since_not_moved}
use Rattle.file_exchange.specs.Reserved.{Free}
use Rattle.file_exchange.specs.Crash.{Exchange, IsNewFile, ExchangeLeaves, IsPutForGood}
use Rattle.file_exchange.specs.Exchange.{HasBytes}
use Rattle.file_exchange.proofs.PlaceLemmas.{is_free}
use Rattle.journal_text.specs.declared.line.Line.{Line}
use Rattle.journal_text.specs.Journal.{text_of}
use Rattle.change_phases.specs.Between.{stage_of, Work, IsWork, journal_name, journal_of, IsNew, IsAside, IsJournalFor}
use Rattle.change_phases.specs.Phases.{Phase, preparing, naming, placing, removing, cleared, MayBe, IsIn, PassesIn, MayBeAnything, IsOnly, HasStagesOnly, AreAny}
use Rattle.change_phases.proofs.PhaseLemmas.{passes_since, passes_step, still_in, present_in}
use Rattle.change_phases.proofs.WorkLemmas.{content_there, file_there, aside_not_journal, open_aside, same_file, at_journal, at_file, free_was_free}

-- ---- a file is made: anything of it, until it is put on the medium

any_append : (xs : List Outcome) → AreAny xs → AreAny (xs ++ own any_file ∷ [])
any_append [] are = (refl, tt)
any_append (x ∷ xs) (e, more) = (e, any_append xs more)

-- put on the medium, each is the node
any_settled : (node : Node) (xs : List Outcome) (found : Option Content) → AreAny xs → Leaves (map (settled node) xs) found → found ≡ Some node.content
any_settled node [] found are l = absurd l
any_settled node (x ∷ xs) found (e, more) l =
    elim (subst (λ (o : Outcome). Fits (settled node o).left found ⊎ Leaves (map (settled node) xs) found) e l) [
      | inl fits ↦ fits
      | inr rest ↦ any_settled node xs found more rest
    ]

module _ (s t : DiskState) (path : List ℕ) where
  pub created_any : (like : List ℕ) (c : Creates s path like t) → AreAny (own_of (outcomes_now t c.place))
  created_any like c =
      let e : own_of (outcomes_now t c.place) ≡ own any_file ∷ [] =
      ap (λ f. own_of (f c.place)) c.advances.now
      ∙ ap own_of (put_there c.place (left_behind (outcomes_now s c.place) ++ own any_file ∷ []) (outcomes_now s))
      ∙ own_append (left_behind (outcomes_now s c.place)) (own any_file ∷ [])
      ∙ ap (λ os. os ++ own any_file ∷ []) (own_behind (outcomes_now s c.place)) in
      subst AreAny (sym e) (refl, tt)

  pub written_any : (bytes : List ℕ) (w : Writes s path bytes t) → AreAny (own_of (outcomes_now s w.place)) → AreAny (own_of (outcomes_now t w.place))
  written_any bytes w are =
      let e : own_of (outcomes_now t w.place) ≡ own_of (outcomes_now s w.place) ++ own any_file ∷ [] =
      ap (λ f. own_of (f w.place)) w.advances.now
      ∙ ap own_of (put_there w.place (outcomes_now s w.place ++ own any_file ∷ []) (outcomes_now s))
      ∙ own_append (outcomes_now s w.place) (own any_file ∷ []) in
      subst AreAny (sym e) (any_append (own_of (outcomes_now s w.place)) are)

  pub synced_settled : (y : Syncs s path t) → AreAny (own_of (outcomes_now s y.place)) → IsSettledAt t y.place
  synced_settled y are found l =
      let e : own_of (outcomes_now t y.place) ≡ map (settled y.node) (own_of (outcomes_now s y.place)) =
      ap (λ f. own_of (f y.place)) y.advances.now
      ∙ ap own_of (put_there y.place (map (settled y.node) (outcomes_now s y.place)) (outcomes_now s))
      ∙ own_settled y.node (outcomes_now s y.place) in
      let leaves : Leaves (map (settled y.node) (own_of (outcomes_now s y.place))) found = subst (λ os. Leaves os found) e l in
      any_settled y.node (own_of (outcomes_now s y.place)) found are leaves ∙ sym (ap content_of (ap (λ (x : Tree). node_at x y.place) y.tree ∙ y.leads.node_there))

-- ---- a folder is put on the medium

alone_of_file : (o : Option Node) (list : List Outcome) → IsSome (file_node o) → alone o list ≡ own_of list
alone_of_file None list f = cc
alone_of_file (Some node) list f = by node.content node.dev node.ino f
  where
    by : (c : Content) (dev ino : ℕ) → IsSome (file_content c) → alone (Some (record { content = c; dev = dev; ino = ino })) list ≡ own_of list
    by directory dev ino f = cc
    by (link target) dev ino f = cc
    by (file bytes mode) dev ino f = refl
    by other dev ino f = cc

module _ (s t : DiskState) (path : List ℕ) (y : SyncsFolder s path t) (name : Name) where
  there : (found : Option Content) → Leaves (outcomes_now t (y.folder ++ name ∷ [])) found → Leaves (alone (node_at s.tree (y.folder ++ name ∷ [])) (outcomes_now s (y.folder ++ name ∷ []))) found
  there found l =
      subst (λ os. Leaves os found) (ap (λ (f : Outcomes). f (y.folder ++ name ∷ [])) y.advances.now ∙ alone_there (node_at s.tree) y.folder name (outcomes_now s)) l

  -- a settled file in it is found as it stands
  pub only_settled : IsSome (file_at s.tree (y.folder ++ name ∷ [])) → IsSettledAt s (y.folder ++ name ∷ [])
      → IsOnly t (y.folder ++ name ∷ []) (λ found. found ≡ content_at s.tree (y.folder ++ name ∷ []))
  only_settled f is found l =
      is found (subst (λ os. Leaves os found) (alone_of_file (node_at s.tree (y.folder ++ name ∷ [])) (outcomes_now s (y.folder ++ name ∷ [])) f) (there found l))

  -- and nothing where nothing stands
  pub only_gone : node_at s.tree (y.folder ++ name ∷ []) ≡ None → IsOnly t (y.folder ++ name ∷ []) (λ found. found ≡ None)
  only_gone none found l = elim (subst (λ o. Leaves (alone o (outcomes_now s (y.folder ++ name ∷ []))) found) none (there found l)) [ inl e ↦ e | inr never ↦ absurd never ]

-- ---- within a phase

module _ (phase : Phase) (work : Work) (lines : List Line) (s t : DiskState) (is_in : IsIn phase work lines s) where
  -- a change at a place at which anything may be found
  pub passes_open : (place : NameList) (list : List Outcome) → Advances s t (put place list (outcomes_now s)) → MayBeAnything phase work lines place → PassesIn phase work lines s t
  passes_open place list a anything =
      passes_since phase work lines (λ q content. ⊥) (λ q. q ≡ place) s t is_in (λ q content none. absurd none)
      (λ q e. subst (MayBeAnything phase work lines) (sym e) anything) (since_loose (λ q content. ⊥) (λ q. q ≡ place) s t place list a refl)

  -- a folder is put on the medium
  pub passes_folder : HoldsPresent s → (path : List ℕ) → SyncsFolder s path t → PassesIn phase work lines s t
  passes_folder holds path y =
      passes_since phase work lines (λ q content. ⊥) (λ q. ⊥) s t is_in (λ q content none. absurd none) (λ q none. absurd none)
      (since_folder (λ q content. ⊥) (λ q. ⊥) s t y.folder holds y.advances)

-- what a crash leaves at a place after the sync of a folder, it left before
pub no_more : (s t : DiskState) (path : List ℕ) (q : NameList) (found : Option Content) → HoldsPresent s → SyncsFolder s path t → Leaves (outcomes_now t q) found → Leaves (outcomes_now s q) found
no_more s t path q found holds y l =
    elim (since.each t.clock since.later (omega arith) q found l) [ inl old ↦ old | inr (inl (content, e, none)) ↦ absurd none | inr (inr none) ↦ absurd none ]
  where
    since : LeavesSince (λ q content. ⊥) (λ q. ⊥) s t
    since = since_folder (λ q content. ⊥) (λ q. ⊥) s t y.folder holds y.advances

module _ (work : Work) (is : IsWork work) (lines : List Line) (is_for : IsJournalFor work lines) where
  -- ---- from preparing to naming

  -- the stages are there for good
  pub naming_of : (s : DiskState) → IsIn preparing work lines s → HasStagesOnly work lines s → IsIn naming work lines s
  naming_of s is_in stages q found l =
      let m = is_in q found l in
      record {
        journal = λ e. inl (m.journal e);
        file = m.file;
        stage = λ line f has_line has of e. stages line f has_line has of found (subst (λ (p : NameList). Leaves (outcomes_now s p) found) e l);
        elsewhere = m.elsewhere;
      }

  -- ---- the journal is named

  module _ (s t : DiskState) (mode : ℕ) (source : NameList) (is_in : IsIn naming work lines s) (aside : IsAside work source)
      (apart : (line : Line) → Contains lines line → source ≢ stage_of line)
      (written : (found : Option Content) → Leaves (own_of (outcomes_now s source)) found → found ≡ Some (file (text_of lines) mode)) where
    abbrev Named : NameList → Content → Type 0
    Named q content = (q ≡ journal_of work) × (content ≡ file (text_of lines) mode)

    named_may : (q : NameList) (content : Content) → Named q content → MayBe naming work lines q (Some content)
    named_may q content (e, c) =
        subst (λ (p : NameList). MayBe naming work lines p (Some content)) (sym e)
        (at_journal work is naming lines is_for (Some content) (inr (mode, ap (λ (x : Content). Some x) c)))

    source_may : (q : NameList) → q ≡ source → MayBeAnything naming work lines q
    source_may q e = subst (MayBeAnything naming work lines) (sym e) (open_aside work is naming lines source aside apart)

    ready : (found : Option Content) → Leaves (own_of (outcomes_now s source)) found → (content : Content) × (found ≡ Some content) × Named (journal_of work) content
    ready found l = (file (text_of lines) mode, written found l, (refl, refl))

    pub named_done : (from to : List ℕ) (r : Renames s from to t) → r.source ≡ source → r.target ≡ journal_of work → PassesIn naming work lines s t
    named_done from to r e f =
        let two : r.source ≢ r.target = λ same. aside_not_journal work is source aside (sym e ∙ same ∙ f) in
        let a : Advances s t (after_move source (journal_of work) (outcomes_now s)) =
        subst (λ (q : NameList). Advances s t (after_move source q (outcomes_now s))) f (subst (λ (q : NameList). Advances s t (after_move q r.target (outcomes_now s))) e (r.advances two)) in
        passes_since naming work lines Named (λ q. q ≡ source) s t is_in named_may source_may (since_moved Named (λ q. q ≡ source) s t source (journal_of work) refl ready a)

    pub named_not : (from to : List ℕ) (r : RenamesNot s from to t) → r.source ≡ source → r.target ≡ journal_of work → PassesIn naming work lines s t
    named_not from to r e f =
        let two : r.source ≢ r.target = λ same. aside_not_journal work is source aside (sym e ∙ same ∙ f) in
        let a : Advances s t (after_no_move source (journal_of work) (outcomes_now s)) =
        subst (λ (q : NameList). Advances s t (after_no_move source q (outcomes_now s))) f (subst (λ (q : NameList). Advances s t (after_no_move q r.target (outcomes_now s))) e (r.advances two)) in
        passes_since naming work lines Named (λ q. q ≡ source) s t is_in named_may source_may (since_not_moved Named (λ q. q ≡ source) s t source (journal_of work) refl ready a)

  -- ---- the root is put on the medium

  -- where the journal stands it is there for good
  pub placing_of : (s t : DiskState) (path : List ℕ) (mode : ℕ) → HoldsPresent s → IsIn naming work lines s → (y : SyncsFolder s path t) → y.folder ≡ work.root
      → file_at s.tree (journal_of work) ≡ Some (text_of lines, mode) → IsSettledAt s (journal_of work) → IsIn placing work lines t
  placing_of s t path mode holds is_in y root stands settled q found l =
      let m = still_in naming work lines s t (passes_folder naming work lines s t is_in holds path y) q found l in
      let at : y.folder ++ journal_name ∷ [] ≡ journal_of work = ap (λ (r : NameList). r ++ journal_name ∷ []) root in
      let only = only_settled s t path y journal_name (ap is_some (ap (file_at s.tree) at ∙ stands)) (subst (IsSettledAt s) (sym at) settled) in
      record {
        journal = λ e. (mode, only found (subst (λ (p : NameList). Leaves (outcomes_now t p) found) (e ∙ sym at) l) ∙ ap (content_at s.tree) at ∙ content_there (node_at s.tree (journal_of work)) (text_of lines) mode stands);
        file = λ f has e. inl (m.file f has e);
        stage = m.stage;
        elsewhere = m.elsewhere;
      }

  -- where it doesn't stand it is gone for good
  pub preparing_of : (s t : DiskState) (path : List ℕ) → HoldsPresent s → IsIn naming work lines s → (y : SyncsFolder s path t) → y.folder ≡ work.root
      → node_at s.tree (journal_of work) ≡ None → IsIn preparing work lines t
  preparing_of s t path holds is_in y root none q found l =
      let m = still_in naming work lines s t (passes_folder naming work lines s t is_in holds path y) q found l in
      let at : y.folder ++ journal_name ∷ [] ≡ journal_of work = ap (λ (r : NameList). r ++ journal_name ∷ []) root in
      let only = only_gone s t path y journal_name (ap (node_at s.tree) at ∙ none) in
      record {
        journal = λ e. only found (subst (λ (p : NameList). Leaves (outcomes_now t p) found) (e ∙ sym at) l);
        file = m.file;
        stage = λ line f has_line has of e. tt;
        elsewhere = m.elsewhere;
      }

  pub cleared_of : (s t : DiskState) (path : List ℕ) → HoldsPresent s → IsIn removing work lines s → (y : SyncsFolder s path t) → y.folder ≡ work.root
      → node_at s.tree (journal_of work) ≡ None → IsIn cleared work lines t
  cleared_of s t path holds is_in y root none q found l =
      let m = still_in removing work lines s t (passes_folder removing work lines s t is_in holds path y) q found l in
      let at : y.folder ++ journal_name ∷ [] ≡ journal_of work = ap (λ (r : NameList). r ++ journal_name ∷ []) root in
      let only = only_gone s t path y journal_name (ap (node_at s.tree) at ∙ none) in
      record {
        journal = λ e. only found (subst (λ (p : NameList). Leaves (outcomes_now t p) found) (e ∙ sym at) l);
        file = m.file;
        stage = λ line f has_line has of e. tt;
        elsewhere = m.elsewhere;
      }

  -- ---- a file is put in place

  module _ (s : DiskState) (holds : HoldsPresent s) (is_in : IsIn placing work lines s) where
    now : (q : NameList) → MayBe placing work lines q (content_at s.tree q)
    now = present_in placing work lines s holds is_in

    -- its mode is what it was
    same_mode : (f : Exchange) → Contains work.files f → (bytes : List ℕ) (mode : ℕ) → file_at s.tree f.0 ≡ Some (bytes, mode) → (before : List ℕ) × (file_at work.tree f.0 ≡ Some (before, mode))
    same_mode f has bytes mode stands =
        let (before, m, was) = is.are_files f has in
        let there = content_there (node_at s.tree f.0) bytes mode stands in
        elim ((now f.0).file f has refl) [
          | inl old ↦
              let both : Some (file bytes mode) ≡ Some (file before m) = sym there ∙ old ∙ content_there (node_at work.tree f.0) before m was in
              let modes : m ≡ mode = cc in
              (before, was ∙ ap (λ (k : ℕ). Some (before, k)) modes)
          | inr new ↦
              let both : Some (file bytes mode) ≡ Some (file f.1 new.mode) = sym there ∙ new.is in
              let modes : new.mode ≡ mode = cc in
              (new.bytes, new.was ∙ ap (λ (k : ℕ). Some (new.bytes, k)) modes)
        ]

    pub new_there : (f : Exchange) → Contains work.files f → (q : NameList) (content : Content) → IsNewFile s.tree f.0 f.1 q content → IsNew work f (Some content)
    new_there f has q content n =
        let (before, was) = same_mode f has n.before n.mode n.was in
        record { bytes = before; mode = n.mode; was = was; is = ap (λ (c : Content). Some c) n.content_is }

    -- what is free now is no stage
    free_no_stage : (q : NameList) → node_at s.tree q ≡ None → (line : Line) → Contains lines line → q ≢ stage_of line
    free_no_stage q none line l e =
        let (f, has, of) = is_for.no_other line l in
        let (mode, stands) = (now (stage_of line)).stage line f l has of refl in
        cc (sym (ap content_of (ap (node_at s.tree) (sym e) ∙ none)) ∙ stands)

    pub placed_free : (t : DiskState) (f : Exchange) → Contains work.files f → LeavesSince (IsNewFile s.tree f.0 f.1) (Free s.tree (parent_of f.0)) s t → PassesIn placing work lines s t
    placed_free t f has since =
        passes_since placing work lines (IsNewFile s.tree f.0 f.1) (Free s.tree (parent_of f.0)) s t is_in
        (λ q content n. subst (λ (p : NameList). MayBe placing work lines p (Some content)) (sym n.here) (at_file work is placing lines is_for f has (Some content) (inr (new_there f has q content n))))
        (λ q free. open_aside work is placing lines q (free_was_free work is placing lines s holds is_in (parent_of f.0) (inr (f, has, refl)) q free) (free_no_stage q free.free))
        since

    pub placed : (t : DiskState) (f : Exchange) → Contains work.files f → ExchangeLeaves f.0 f.1 s t → PassesIn placing work lines s t
    placed t f has e =
        placed_free t f has (since_more (IsNewFile s.tree f.0 f.1) (IsNewFile s.tree f.0 f.1) (λ q. e.temporary ≡ Some q) (Free s.tree (parent_of f.0)) s t (λ q content n. n) (λ q at. is_free (e.was_free q at)) e.leaves)

    -- put for good, and settled, it is new for good
    pub put_new : (t : DiskState) (f : Exchange) → Contains work.files f → IsPutForGood f.0 s t → IsSettledAt t f.0 → HasBytes s.tree f.0 f.1 t.tree → IsOnly t f.0 (IsNew work f)
    put_new t f has g settled h found l =
        let there : found ≡ content_at t.tree f.0 = settled found (g.alone found l) in
        let new = new_there f has f.0 (file f.1 h.mode) (record { here = refl; before = h.before; mode = h.mode; was = h.was; content_is = refl }) in
        subst (IsNew work f) (sym (there ∙ content_there (node_at t.tree f.0) f.1 h.mode h.holds)) new

    pub put_stays : (t : DiskState) (f g : Exchange) → Contains work.files f → Contains work.files g → IsPutForGood f.0 s t → IsOnly t f.0 (IsNew work f)
        → IsOnly s g.0 (IsNew work g) → IsOnly t g.0 (IsNew work g)
    put_stays t f g has has_g put new only found l = elim (same_or_other g.0 f.0) [
      | inl here ↦
          let one : f ≡ g = same_file work is f g has has_g (sym here) in
          subst (λ (x : Exchange). IsNew work x found) one (new found (subst (λ (p : NameList). Leaves (outcomes_now t p) found) here l))
      | inr n ↦ only found (put.elsewhere g.0 n found l)
    ]

    -- after Ok it is new for good
    pub placed_new : (t : DiskState) (f : Exchange) → Contains work.files f → IsDurable (IsNewFile s.tree f.0 f.1) s t → IsOnly t f.0 (IsNew work f)
    placed_new t f has d found l =
        let (bytes, mode, stands) = standing f has in
        let new : IsNewFile s.tree f.0 f.1 f.0 (file f.1 mode) = record { here = refl; before = bytes; mode = mode; was = stands; content_is = refl } in
        subst (IsNew work f) (sym (d.there f.0 (file f.1 mode) new found l)) (new_there f has f.0 (file f.1 mode) new)
      where
        standing : (f : Exchange) → Contains work.files f → (bytes : List ℕ) × (mode : ℕ) × (file_at s.tree f.0 ≡ Some (bytes, mode))
        standing f has =
            let (before, m, was) = is.are_files f has in
            elim ((now f.0).file f has refl) [
              | inl old ↦ (before, m, file_there (node_at s.tree f.0) before m (old ∙ content_there (node_at work.tree f.0) before m was))
              | inr new ↦ (f.1, new.mode, file_there (node_at s.tree f.0) f.1 new.mode new.is)
            ]

    -- one that was new for good stays so while another is put in place
    pub placed_stays : (t : DiskState) (f g : Exchange) → Contains work.files f → Contains work.files g → IsDurable (IsNewFile s.tree f.0 f.1) s t
        → IsOnly s g.0 (IsNew work g) → IsOnly t g.0 (IsNew work g)
    placed_stays t f g has has_g d only found l = elim (same_or_other g.0 f.0) [
      | inl here ↦
          let one : f ≡ g = same_file work is f g has has_g (sym here) in
          subst (λ (x : Exchange). IsNew work x found) one (placed_new t f has d found (subst (λ (p : NameList). Leaves (outcomes_now t p) found) here l))
      | inr n ↦ only found (d.elsewhere g.0 (λ content new. n new.here) found l)
    ]

    -- a file that holds its new bytes already, whose folder is put on the medium
    pub placed_already : (t : DiskState) (path : List ℕ) (f : Exchange) (mode : ℕ) → Contains work.files f → (y : SyncsFolder s path t) → (name : Name) → y.folder ++ name ∷ [] ≡ f.0
        → IsSettledAt s f.0 → file_at s.tree f.0 ≡ Some (f.1, mode) → IsOnly t f.0 (IsNew work f)
    placed_already t path f mode has y name at settled stands found l =
        let only = only_settled s t path y name (ap is_some (ap (file_at s.tree) at ∙ stands)) (subst (IsSettledAt s) (sym at) settled) in
        let e : found ≡ content_at s.tree f.0 = only found (subst (λ (p : NameList). Leaves (outcomes_now t p) found) (sym at) l) ∙ ap (content_at s.tree) at in
        let new = new_there f has f.0 (file f.1 mode) (record { here = refl; before = f.1; mode = mode; was = stands; content_is = refl }) in
        subst (IsNew work f) (sym (e ∙ content_there (node_at s.tree f.0) f.1 mode stands)) new

  -- ---- the journal is removed

  -- all files are new for good
  pub removing_of : (s : DiskState) → IsIn placing work lines s → ((f : Exchange) → Contains work.files f → IsOnly s f.0 (IsNew work f)) → IsIn removing work lines s
  removing_of s is_in all q found l =
      let m = is_in q found l in
      record {
        journal = λ e. inr (m.journal e);
        file = λ f has e. all f has found (subst (λ (p : NameList). Leaves (outcomes_now s p) found) e l);
        stage = m.stage;
        elsewhere = m.elsewhere;
      }

  pub removed : (s t : DiskState) (path : List ℕ) → IsIn removing work lines s → (r : Removes s path t) → r.place ≡ journal_of work → PassesIn removing work lines s t
  removed s t path is_in r at = passes_step removing work lines s t (after_remove r.place (outcomes_now s)) is_in r.advances (λ q found l. elim (same_or_other q r.place) [
    | inl here ↦ elim (leaves_append (left_behind (outcomes_now s r.place)) (older gone ∷ []) found (there q found here l)) [
      | inl old ↦ is_in q found (subst (λ (p : NameList). Leaves (outcomes_now s p) found) (sym here) (leaves_behind (outcomes_now s r.place) found old))
      | inr (inl none) ↦ subst (λ (p : NameList). MayBe removing work lines p found) (sym (here ∙ at)) (at_journal work is removing lines is_for found (inl none))
      | inr (inr never) ↦ absurd never
    ]
    | inr n ↦ is_in q found (subst (λ os. Leaves os found) (put_elsewhere r.place (left_behind (outcomes_now s r.place) ++ older gone ∷ []) (outcomes_now s) q n) l)
  ])
    where
      there : (q : NameList) (found : Option Content) → q ≡ r.place → Leaves (after_remove r.place (outcomes_now s) q) found → Leaves (left_behind (outcomes_now s r.place) ++ older gone ∷ []) found
      there q found here l =
          subst (λ os. Leaves os found) (put_there r.place (left_behind (outcomes_now s r.place) ++ older gone ∷ []) (outcomes_now s)) (subst (λ (p : NameList). Leaves (after_remove r.place (outcomes_now s) p) found) here l)
