-- One file is put in place.
use Rattle.std.proofs.Common.{true, ◌≡◌, ◌≢◌, ℕ, List, refl, sym, ◌∙◌, ap, subst, inl, inr}
use Rattle.std.specs.Prelude.{Option, Some, None, is_some, Contains, Result, Ok, Err, OnOk}
use Rattle.std.specs.Option.{option_and_then}
use Rattle.std.proofs.lemmas.Option.{same_Some}
use Rattle.sd_io.specs.Tree.{NameList, Content, directory, link, file, other, Node, Tree, IsTree, node_at, file_node, file_content, file_at}
use Rattle.sd_io.specs.Paths.{parent_of, reached}
use Rattle.sd_io.specs.Outcomes.{Leaves, content_at}
use Rattle.sd_io.specs.Disk.{DiskState, SameTree, HoldsPresent}
use Rattle.sd_io.specs.Files.{path_text, Reads}
use Rattle.sd_io.specs.Crashes.{LeavesSince, KeepsSettled}
use Rattle.sd_io.proofs.PathTextLemmas.{text_no_link}
use Rattle.sd_io.proofs.CrashLemmas.{since_more}
use Rattle.file_exchange.specs.Reserved.{Free}
use Rattle.file_exchange.specs.Exchange.{HasBytes}
use Rattle.file_exchange.specs.Crash.{Exchange, IsNewFile, IsPutForGood}
use Rattle.file_exchange.proofs.PlaceLemmas.{is_free}
use Rattle.file_rewrite.specs.OneFile.{IsFirstFreeBy}
use Rattle.file_rewrite.specs.Putting.{PutsFile, IsPutAt}
use Rattle.journal_text.specs.declared.line.Line.{Line}
use Rattle.journal_text.specs.Journal.{text_of}
use Rattle.change_phases.specs.Between.{Work, journal_of, stage_of, IsNew, IsLineOf}
use Rattle.change_phases.specs.Phases.{placing, MayBe, IsOnly}
use Rattle.change_phases.specs.Recovery.{AreSettled}
use Rattle.journal.specs.Keeping.{IsSettledIn, KeepsPhase}
use Rattle.journal.specs.Placing.{PlacesOne}
use Rattle.journal.proofs.LineLemmas.{line_path_text}
use Rattle.change_phases.proofs.PhaseLemmas.{present_in}
use Rattle.change_phases.proofs.WorkLemmas.{content_there, file_there, same_file}
use Rattle.change_phases.proofs.StepLemmas.{placed_free, put_new, put_stays}

-- the path of a file leads to it
pub text_to_file : (tree : Tree) (place : NameList) (f : List ℕ × ℕ) → IsTree tree → file_at tree place ≡ Some f → reached tree (path_text place) true ≡ Some place
text_to_file tree place f is stands = by (node_at tree place) refl
  where
    no_link : (c : Content) → file_content c ≡ Some f → (target : List ℕ) → c ≢ link target
    no_link directory e target h = cc
    no_link (link t) e target h = cc
    no_link (file bytes mode) e target h = cc
    no_link other e target h = cc

    by : (o : Option Node) → node_at tree place ≡ o → reached tree (path_text place) true ≡ Some place
    by None none = cc (sym stands ∙ ap file_node none)
    by (Some node) some = text_no_link tree place true node is some (no_link node.content (ap file_node (sym some) ∙ stands))

module _ (work : Work) (lines : List Line) (line : Line) (has_line : Contains lines line) (s : DiskState) (is_tree : IsTree s.tree) (holds : HoldsPresent s) (p : IsSettledIn placing work lines s) where
  abbrev pub f : Exchange
  f = (p.is_for.no_other line has_line).0

  pub has : Contains work.files f
  has = (p.is_for.no_other line has_line).1

  pub of : IsLineOf f line
  of = (p.is_for.no_other line has_line).2

  now : (q : NameList) → MayBe placing work lines q (content_at s.tree q)
  now = present_in placing work lines s holds p.phase_now

  -- the stage holds the file's new bytes
  pub stage_holds : (mode : ℕ) × (file_at s.tree (stage_of line) ≡ Some (f.1, mode))
  stage_holds = let (mode, stands) = (now (stage_of line)).stage line f has_line has of refl in (mode, file_there (node_at s.tree (stage_of line)) f.1 mode stands)

  pub read_is : (stage bytes : List ℕ) → stage ≡ path_text (stage_of line) → Reads s stage bytes → bytes ≡ f.1
  read_is stage bytes named reads =
      let (mode, held) = stage_holds in
      let leads : reached s.tree stage true ≡ Some (stage_of line) = ap (λ (x : List ℕ). reached s.tree x true) named ∙ text_to_file s.tree (stage_of line) (f.1, mode) is_tree held in
      let both : Some (bytes, reads.0) ≡ Some (f.1, mode) = sym reads.1 ∙ ap (option_and_then (file_at s.tree)) leads ∙ held in
      ap (λ (x : List ℕ × ℕ). x.0) (same_Some (bytes, reads.0) (f.1, mode) both)

  -- a file that changes stands
  pub stands : (g : Exchange) → Contains work.files g → (f : List ℕ × ℕ) × (file_at s.tree g.0 ≡ Some f)
  stands g has_g =
      let (bytes, mode, was) = p.is_work.are_files g has_g in
      elim ((now g.0).file g has_g refl) [
        | inl old ↦ ((bytes, mode), file_there (node_at s.tree g.0) bytes mode (old ∙ content_there (node_at work.tree g.0) bytes mode was))
        | inr new ↦ ((g.1, new.mode), file_there (node_at s.tree g.0) g.1 new.mode new.is)
      ]

  -- and so does the journal
  journal_stands : (f : List ℕ × ℕ) × (file_at s.tree (journal_of work) ≡ Some f)
  journal_stands = let (mode, there) = (now (journal_of work)).journal refl in ((text_of lines, mode), file_there (node_at s.tree (journal_of work)) (text_of lines) mode there)

  pub leads : (path : List ℕ) → path ≡ line.path → reached s.tree path true ≡ Some f.0
  leads path named =
      let (x, held) = stands f has in
      ap (λ (x : List ℕ). reached s.tree x true) (named ∙ line_path_text lines line p.is_for.are_lines has_line ∙ ap path_text of.place) ∙ text_to_file s.tree f.0 x is_tree held

  settled_on : (t : DiskState) → KeepsSettled s t → AreSettled work t
  settled_on t keeps = record {
    files = λ g has_g. keeps g.0 (let (x, held) = stands g has_g in ap is_some held) (p.settled.files g has_g);
    journal = keeps (journal_of work) (let (x, held) = journal_stands in ap is_some held) p.settled.journal;
  }

  -- its bytes were given to `put_file`
  put_since : (t : DiskState) (path bytes : List ℕ) → path ≡ line.path → bytes ≡ f.1 → LeavesSince (IsPutAt bytes s.tree path) (IsFirstFreeBy s.tree path) s t
      → LeavesSince (IsNewFile s.tree f.0 f.1) (Free s.tree (parent_of f.0)) s t
  put_since t path bytes named are since = since_more (IsPutAt bytes s.tree path) (IsNewFile s.tree f.0 f.1) (IsFirstFreeBy s.tree path) (Free s.tree (parent_of f.0)) s t
      (λ q content n.
      let here : q ≡ f.0 = same_Some _ _ (sym n.0 ∙ leads path named) in
      record {
        here = here;
        before = n.1.before;
        mode = n.1.mode;
        was = ap (file_at s.tree) (sym here) ∙ n.1.was;
        content_is = n.1.content_is ∙ ap (λ (b : List ℕ). file b n.1.mode) are;
      })
      (λ q free. subst (λ (x : NameList). Free s.tree (parent_of x) q) (same_Some free.place f.0 (sym free.leads ∙ leads path named)) (is_free free.first))
      since

  pub put_kept : (t : DiskState) (path bytes : List ℕ) → path ≡ line.path → bytes ≡ f.1 → LeavesSince (IsPutAt bytes s.tree path) (IsFirstFreeBy s.tree path) s t → KeepsSettled s t
      → KeepsPhase placing work lines s t
  put_kept t path bytes named are since keeps = record {
    passes = placed_free work p.is_work lines p.is_for s holds p.phase_now t f has (put_since t path bytes named are since);
    settled = settled_on t keeps;
  }

  pub put_placed : (t : DiskState) (path bytes : List ℕ) → path ≡ line.path → bytes ≡ f.1 → KeepsSettled s t → PutsFile path bytes s t → PlacesOne work line s t
  put_placed t path bytes named are keeps put =
      let here : put.place ≡ f.0 = same_Some _ _ (sym put.leads ∙ leads path named) in
      let for_good : IsPutForGood f.0 s t = subst (λ (x : NameList). IsPutForGood x s t) here put.for_good in
      let bytes_there : HasBytes s.tree f.0 f.1 t.tree = subst (λ (b : List ℕ). HasBytes s.tree f.0 b t.tree) are (subst (λ (x : NameList). HasBytes s.tree x bytes t.tree) here put.exchanged.has) in
      let new = put_new work p.is_work lines p.is_for s holds p.phase_now t f has for_good ((settled_on t keeps).files f has) bytes_there in
      record {
        placed = λ g has_g of_g. subst (λ (x : Exchange). IsOnly t x.0 (IsNew work x)) (same_file work p.is_work f g has has_g (sym of.place ∙ of_g.place)) new;
        stays = λ g has_g only. put_stays work p.is_work lines p.is_for s holds p.phase_now t f g has has_g for_good new only;
      }

-- reading changes nothing
module _ (s t : DiskState) (same : SameTree s t) where
  only_same : (q : NameList) (may : Option Content → Type 0) → IsOnly s q may → IsOnly t q may
  only_same q may only found l = only found (subst (λ os. Leaves os found) (λ i. same.outcomes i (same.clock i) q) l)

  pub read_then_placed : (work : Work) (line : Line) (u : DiskState) → PlacesOne work line t u → PlacesOne work line s u
  read_then_placed work line u one = record { placed = one.placed; stays = λ f has only. one.stays f has (only_same f.0 (IsNew work f) only) }

  -- the bytes that were read before are those that are read now
  pub read_before : (stage bytes : List ℕ) → Reads s stage bytes → Reads t stage bytes
  read_before stage bytes reads = (reads.0, ap (λ (x : Tree). option_and_then (file_at x) (reached x stage true)) same.tree ∙ reads.1)

-- what holds after Ok, from what was promised then
pub ok_then : {T E : Type 0} (P Q : Type 0) (r : Result T E) → OnOk r P → (P → Q) → OnOk r Q
ok_then P Q (Ok x) p then = then p
ok_then P Q (Err e) p then = tt

-- of an answer that is another's, and of a refusal
pub ok_same : {T E : Type 0} (P : Type 0) (r q : Result T E) → q ≡ r → OnOk r P → OnOk q P
ok_same P r q e p = subst (λ x. OnOk x P) (sym e) p

pub not_ok : {T E : Type 0} (P : Type 0) (r : Result T E) (fault : E) → r ≡ Err fault → OnOk r P
not_ok P (Ok x) fault e = absurd (cc e)
not_ok P (Err f) fault e = tt
