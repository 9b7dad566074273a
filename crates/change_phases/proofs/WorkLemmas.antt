-- The places of a journalled change: the journal, the files, reserved names that were free.
use Rattle.std.proofs.Common.{◌≡◌, ◌≢◌, ◌⊎◌, ℕ, List, [], ◌∷◌, ◌++◌, length, refl, sym, ◌∙◌, ap, subst, inl, inr, arith}
use Rattle.std.specs.Prelude.{Option, Some, None, Contains}
use Rattle.std.proofs.lemmas.Option.{same_Some}
use Rattle.sd_io.specs.Tree.{Name, NameList, Content, directory, link, file, other, Node, node_at, file_node, file_content}
use Rattle.sd_io.specs.Paths.{parent_of}
use Rattle.sd_io.specs.Outcomes.{content_at, content_of}
use Rattle.sd_io.specs.Disk.{DiskState, HoldsPresent}
use Rattle.file_exchange.specs.Reserved.{reserved_name, Reserved, Free}
use Rattle.file_exchange.specs.Crash.{Exchange}
use Rattle.journal_text.specs.declared.line.Line.{Line}
use Rattle.change_phases.specs.Between.{stage_of, Work, IsWork, journal_name, journal_of, IsOld, IsNew, IsAside, IsJournalFor}
use Rattle.change_phases.specs.Phases.{Phase, preparing, naming, placing, removing, cleared, JournalMay, FileMay, MayBe, IsIn, MayBeAnything}
use Rattle.change_phases.proofs.PhaseLemmas.{present_in}

-- ---- last names

last_of : Name → NameList → Name
last_of name [] = name
last_of name (next ∷ more) = last_of next more

last_of_child : (name : Name) (folder : NameList) (last : Name) → last_of name (folder ++ last ∷ []) ≡ last
unfolding last_of
last_of_child name [] last = refl
last_of_child name (next ∷ more) last = last_of_child next more last

-- two names are one where they are the same in their folders
pub same_last : (p q : NameList) (m n : Name) → p ++ m ∷ [] ≡ q ++ n ∷ [] → m ≡ n
same_last p q m n e = sym (last_of_child [] p m) ∙ ap (last_of []) e ∙ last_of_child [] q n

reserved_length : (n : ℕ) → length (reserved_name n) ≡ 12
reserved_length n = refl

-- the journal's name isn't reserved
pub reserved_not_journal : (work : Work) (folder : NameList) (n : ℕ) → folder ++ reserved_name n ∷ [] ≢ journal_of work
reserved_not_journal work folder n e =
    let lengths : length (reserved_name n) ≡ length journal_name = ap length (same_last folder work.root (reserved_name n) journal_name e) in
    let eleven : length journal_name ≡ 11 = refl in
    absurd (omega (arith, lengths, reserved_length n, eleven))

-- ---- a node's content

content_of_file : (c : Content) (bytes : List ℕ) (mode : ℕ) → file_content c ≡ Some (bytes, mode) → c ≡ file bytes mode
content_of_file directory bytes mode e = cc
content_of_file (link target) bytes mode e = cc
content_of_file (file b m) bytes mode e = let both = same_Some (b, m) (bytes, mode) e in λ i. file (both i).0 (both i).1
content_of_file other bytes mode e = cc

pub content_there : (o : Option Node) (bytes : List ℕ) (mode : ℕ) → file_node o ≡ Some (bytes, mode) → content_of o ≡ Some (file bytes mode)
content_there None bytes mode e = cc
content_there (Some node) bytes mode e = ap (λ (c : Content). Some c) (content_of_file node.content bytes mode e)

pub node_there : (o : Option Node) (c : Content) → content_of o ≡ Some c → o ≢ None
node_there None c e = cc
node_there (Some node) c e = λ n. cc

pub none_there : (o : Option Node) → content_of o ≡ None → o ≡ None
none_there None e = refl
none_there (Some node) e = cc

pub file_there : (o : Option Node) (bytes : List ℕ) (mode : ℕ) → content_of o ≡ Some (file bytes mode) → file_node o ≡ Some (bytes, mode)
file_there None bytes mode e = cc
file_there (Some node) bytes mode e = ap file_content (same_Some node.content (file bytes mode) e)

module _ (work : Work) (is : IsWork work) where
  -- ---- a reserved name that was free

  pub aside_free : (q : NameList) → IsAside work q → node_at work.tree q ≡ None
  aside_free q (inl free) = free.free
  aside_free q (inr (f, has, free)) = free.free

  pub aside_not_journal : (q : NameList) → IsAside work q → q ≢ journal_of work
  aside_not_journal q (inl free) e = reserved_not_journal work work.root free.reserved.0 (sym free.reserved.2 ∙ e)
  aside_not_journal q (inr (f, has, free)) e = reserved_not_journal work (parent_of f.0) free.reserved.0 (sym free.reserved.2 ∙ e)

  -- a file stands where one changes
  pub file_stood : (f : Exchange) → Contains work.files f → node_at work.tree f.0 ≢ None
  file_stood f has none =
      let (bytes, mode, was) = is.are_files f has in
      cc (sym was ∙ ap file_node none)

  pub aside_no_file : (q : NameList) → IsAside work q → (f : Exchange) → Contains work.files f → q ≢ f.0
  aside_no_file q a f has e = file_stood f has (ap (node_at work.tree) (sym e) ∙ aside_free q a)

  pub journal_no_file : (f : Exchange) → Contains work.files f → journal_of work ≢ f.0
  journal_no_file f has e = file_stood f has (ap (node_at work.tree) (sym e) ∙ is.no_journal)

  -- a stage was free
  pub stage_aside : (lines : List Line) → IsJournalFor work lines → (line : Line) → Contains lines line → IsAside work (stage_of line)
  stage_aside lines is_for line l =
      let (f, has, of) = is_for.no_other line l in
      inr (f, has, subst (λ (p : NameList). Free work.tree (parent_of p) (stage_of line)) of.place (is_for.were_free line l))

  -- ---- what may be at one place

  pub open_aside : (phase : Phase) (lines : List Line) (q : NameList) → IsAside work q → ((line : Line) → Contains lines line → q ≢ stage_of line) → MayBeAnything phase work lines q
  open_aside phase lines q a apart found = record {
    journal = λ e. absurd (aside_not_journal q a e);
    file = λ f has e. absurd (aside_no_file q a f has e);
    stage = λ line f l has of e. absurd (apart line l e);
    elsewhere = λ e. absurd (e.not_aside a);
  }

  pub open_preparing : (lines : List Line) (q : NameList) → IsAside work q → MayBeAnything preparing work lines q
  open_preparing lines q a found = record {
    journal = λ e. absurd (aside_not_journal q a e);
    file = λ f has e. absurd (aside_no_file q a f has e);
    stage = λ line f l has of e. tt;
    elsewhere = λ e. absurd (e.not_aside a);
  }

  pub open_cleared : (lines : List Line) (q : NameList) → IsAside work q → MayBeAnything cleared work lines q
  open_cleared lines q a found = record {
    journal = λ e. absurd (aside_not_journal q a e);
    file = λ f has e. absurd (aside_no_file q a f has e);
    stage = λ line f l has of e. tt;
    elsewhere = λ e. absurd (e.not_aside a);
  }

  pub at_journal : (phase : Phase) (lines : List Line) → IsJournalFor work lines → (found : Option Content) → JournalMay phase lines found → MayBe phase work lines (journal_of work) found
  at_journal phase lines is_for found may = record {
    journal = λ e. may;
    file = λ f has e. absurd (journal_no_file f has e);
    stage = λ line f l has of e. absurd (aside_not_journal (stage_of line) (stage_aside lines is_for line l) (sym e));
    elsewhere = λ e. absurd (e.not_journal refl);
  }

  pub same_file : (f g : Exchange) → Contains work.files f → Contains work.files g → f.0 ≡ g.0 → f ≡ g
  same_file f g has_f has_g e = let bytes = is.is_one f g has_f has_g e in λ i. (e i, bytes i)

  pub at_file : (phase : Phase) (lines : List Line) → IsJournalFor work lines → (f : Exchange) → Contains work.files f → (found : Option Content) → FileMay phase work f found → MayBe phase work lines f.0 found
  at_file phase lines is_for f has found may = record {
    journal = λ e. absurd (journal_no_file f has (sym e));
    file = λ g has_g e. subst (λ (x : Exchange). FileMay phase work x found) (same_file f g has has_g e) may;
    stage = λ line g l has_g of e. absurd (aside_no_file (stage_of line) (stage_aside lines is_for line l) f has (sym e));
    elsewhere = λ e. absurd (e.no_file f has refl);
  }

  -- ---- what stands

  -- where a file changes, one stands
  pub may_stand : (phase : Phase) (f : Exchange) → Contains work.files f → (found : Option Content) → FileMay phase work f found → found ≢ None
  may_stand phase f has found may none = by phase may
    where
      old : IsOld work f found → ⊥
      old is_old =
          let (bytes, mode, was) = is.are_files f has in
          cc (sym none ∙ is_old ∙ content_there (node_at work.tree f.0) bytes mode was)

      new : IsNew work f found → ⊥
      new is_new = cc (sym none ∙ is_new.is)

      by : (phase : Phase) → FileMay phase work f found → ⊥
      by preparing may = old may
      by naming may = old may
      by placing (inl may) = old may
      by placing (inr may) = new may
      by removing may = new may
      by cleared may = new may

  -- a reserved name that is free now was free before
  pub free_was_free : (phase : Phase) (lines : List Line) (s : DiskState) → HoldsPresent s → IsIn phase work lines s → (folder : NameList)
      → (folder ≡ work.root) ⊎ ((f : Exchange) × Contains work.files f × (folder ≡ parent_of f.0)) → (q : NameList) → Free s.tree folder q → IsAside work q
  free_was_free phase lines s holds is_in folder of q free = by (node_at work.tree q) refl
    where
      now : (p : NameList) → MayBe phase work lines p (content_at s.tree p)
      now = present_in phase work lines s holds is_in

      aside : node_at work.tree q ≡ None → (folder ≡ work.root) ⊎ ((f : Exchange) × Contains work.files f × (folder ≡ parent_of f.0)) → IsAside work q
      aside none (inl root) = inl (record { reserved = subst (λ (p : NameList). Reserved p q) root free.reserved; free = none })
      aside none (inr (f, has, parent)) = inr (f, has, record { reserved = subst (λ (p : NameList). Reserved p q) parent free.reserved; free = none })

      by : (o : Option Node) → node_at work.tree q ≡ o → IsAside work q
      by None none = aside none of
      by (Some node) some =
          let not_aside : IsAside work q → ⊥ = λ a. cc (sym some ∙ aside_free q a) in
          let not_journal : q ≢ journal_of work = λ e. reserved_not_journal work folder free.reserved.0 (sym free.reserved.2 ∙ e) in
          let no_file : (g : Exchange) → Contains work.files g → q ≢ g.0 =
          λ g has_g e. may_stand phase g has_g (content_at s.tree g.0) ((now g.0).file g has_g refl) (ap content_of (ap (node_at s.tree) (sym e) ∙ free.free)) in
          let same = (now q).elsewhere (record { not_journal = not_journal; no_file = no_file; not_aside = not_aside }) in
          absurd (cc (sym (ap content_of free.free) ∙ same ∙ ap content_of some))
