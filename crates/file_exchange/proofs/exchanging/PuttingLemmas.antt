-- A file is put for good: its bytes are exchanged, or they are its own already.
use Rattle.std.proofs.Common.{◌≡◌, ◌≢◌, ℕ, List, [], ◌∷◌, ◌++◌, refl, sym, ◌∙◌, ap, subst, inl, inr, arith}
use Rattle.std.specs.Prelude.{Option, Some, None, IsSome, is_some, Result, Ok, Err, OnOk, OnErr}
use Rattle.std.proofs.lemmas.Option.{same_Some}
use Rattle.sd_io.specs.Tree.{Name, NameList, Content, file, Node, Tree, IsTree, node_at, file_node, file_at}
use Rattle.sd_io.specs.Paths.{parts_of, parent_of}
use Rattle.sd_io.specs.Outcomes.{Outcomes, Leaves, own_of, alone, content_of, after_folder_sync}
use Rattle.sd_io.specs.Disk.{DiskState, SameTree, HoldsPresent, outcomes_now}
use Rattle.sd_io.specs.Lists.{SyncsFolder}
use Rattle.sd_io.specs.Crashes.{LeavesSince, IsDurable, KeepsSettled}
use Rattle.sd_io.proofs.OutcomeLemmas.{alone_there, own_twice}
use Rattle.sd_io.proofs.CrashLemmas.{since_folder, settled_folder}
use Rattle.file_exchange.specs.declared.fault.ExchangeFault.{ExchangeFault}
use Rattle.file_exchange.specs.Exchange.{IsFilePath, FileHolds, Exchanges, LeavesBytes}
use Rattle.file_exchange.specs.Temporary.{SettlesFolder}
use Rattle.file_exchange.specs.Crash.{IsNewFile, ExchangeLeaves, IsPutForGood}
use Rattle.file_exchange.proofs.exchanging.PlaceLemmas.{placed, folder_leads}
use Rattle.file_exchange.proofs.exchanging.FillingLemmas.{content_there}
use Rattle.file_exchange.proofs.exchanging.ExchangeLemmas.{alone_file, nothing_left}

module _ (s t : DiskState) (path bytes : List ℕ) where
  -- ---- the bytes are its own

  held_exchanged : FileHolds s.tree path bytes → t.tree ≡ s.tree → Exchanges s.tree (parts_of path) bytes t.tree
  held_exchanged (mode, is) same = record {
    has = record { before = bytes; mode = mode; was = is; holds = ap (λ (x : Tree). file_at x (parts_of path)) same ∙ is };
    others = λ q n. ap (λ (x : Tree). node_at x q) same;
  }

  pub put_held : (r : Result (Unit {0}) ExchangeFault) → FileHolds s.tree path bytes → OnOk r (SettlesFolder s path t) → OnOk r (Exchanges s.tree (parts_of path) bytes t.tree)
  put_held (Ok done) held (text, of, y) = held_exchanged held y.tree
  put_held (Err fault) held none = tt

  pub left_held : (r : Result (Unit {0}) ExchangeFault) → OnErr r (SameTree s t) → OnErr r (LeavesBytes s.tree (parts_of path) bytes t.tree)
  left_held (Ok done) none = tt
  left_held (Err fault) same = (nothing_left s t (parts_of path) bytes same).2

  pub crash_held : (r : Result (Unit {0}) ExchangeFault) → HoldsPresent s → OnOk r (SettlesFolder s path t) → OnErr r (SameTree s t) → ExchangeLeaves (parts_of path) bytes s t × KeepsSettled s t
  crash_held (Ok done) holds (text, of, y) none = (
    record { temporary = None; was_free = λ q e. cc; leaves = since_folder _ _ s t y.folder holds y.advances },
    λ q is_file is. settled_folder s t y.folder y.tree y.advances q is,
  )
  crash_held (Err fault) holds none same = let left = nothing_left s t (parts_of path) bytes same in (left.0, left.1)

  pub held_for_good : (r : Result (Unit {0}) ExchangeFault) → IsTree s.tree → IsFilePath s.tree path → HoldsPresent s → OnOk r (SettlesFolder s path t) → OnOk r (IsPutForGood (parts_of path) s t)
  held_for_good (Err fault) is it holds none = tt
  held_for_good (Ok done) is it holds (text, of, y) =
      let at = placed s.tree path is it in
      let folder : y.folder ≡ parent_of (parts_of path) = same_Some _ _ (sym y.leads ∙ folder_leads s.tree path text is it of) in
      let place : y.folder ++ at.name ∷ [] ≡ parts_of path = ap (λ (f : NameList). f ++ at.name ∷ []) folder ∙ sym at.place_is in
      let since : LeavesSince (λ q content. ⊥) (λ q. ⊥) s t = since_folder (λ q content. ⊥) (λ q. ⊥) s t y.folder holds y.advances in
      let own_are : outcomes_now t (parts_of path) ≡ own_of (outcomes_now s (parts_of path)) =
      ap (λ (f : Outcomes). f (parts_of path)) y.advances.now
      ∙ subst (λ (q : NameList). after_folder_sync (node_at s.tree) y.folder (outcomes_now s) q ≡ alone (node_at s.tree q) (outcomes_now s q)) place (alone_there (node_at s.tree) y.folder at.name (outcomes_now s))
      ∙ file_alone in
      record {
        alone = λ found l. subst (λ os. Leaves os found) (sym (ap own_of own_are ∙ own_twice (outcomes_now s (parts_of path)))) (subst (λ os. Leaves os found) own_are l);
        elsewhere = λ q n found l. elim (since.each t.clock since.later (omega arith) q found l) [ inl old ↦ old | inr (inl (content, e, none)) ↦ absurd none | inr (inr none) ↦ absurd none ];
      }
    where
      file_alone : alone (node_at s.tree (parts_of path)) (outcomes_now s (parts_of path)) ≡ own_of (outcomes_now s (parts_of path))
      file_alone = by (file_at s.tree (parts_of path)) refl
        where
          by : (o : Option (List ℕ × ℕ)) → file_at s.tree (parts_of path) ≡ o → alone (node_at s.tree (parts_of path)) (outcomes_now s (parts_of path)) ≡ own_of (outcomes_now s (parts_of path))
          by None none = cc (sym it.is_file ∙ ap is_some none)
          by (Some f) some = alone_file (node_at s.tree (parts_of path)) f (outcomes_now s (parts_of path)) some

  -- ---- they are exchanged

  pub exchanged_for_good : (r : Result (Unit {0}) ExchangeFault) → HoldsPresent t → OnOk r (Exchanges s.tree (parts_of path) bytes t.tree) → OnOk r (IsDurable (IsNewFile s.tree (parts_of path) bytes) s t)
      → OnOk r (IsPutForGood (parts_of path) s t)
  exchanged_for_good (Err fault) holds e d = tt
  exchanged_for_good (Ok done) holds e d = record {
    alone = λ found l.
        let new : IsNewFile s.tree (parts_of path) bytes (parts_of path) (file bytes e.has.mode) = record { here = refl; before = e.has.before; mode = e.has.mode; was = e.has.was; content_is = refl } in
        let is : found ≡ Some (file bytes e.has.mode) = d.there (parts_of path) (file bytes e.has.mode) new found l in
        subst (λ f. Leaves (own_of (outcomes_now t (parts_of path))) f) (sym is) (present (node_at t.tree (parts_of path)) refl e.has.mode e.has.holds);
    elsewhere = λ q n found l. d.elsewhere q (λ content new. n new.here) found l;
  }
    where
      present : (o : Option Node) → node_at t.tree (parts_of path) ≡ o → (mode : ℕ) → file_node (node_at t.tree (parts_of path)) ≡ Some (bytes, mode) → Leaves (own_of (outcomes_now t (parts_of path))) (Some (file bytes mode))
      present None none mode is = cc (sym is ∙ ap file_node none)
      present (Some node) some mode is =
          let content = content_there (Some node) bytes mode (ap file_node (sym some) ∙ is) in
          subst (λ f. Leaves (own_of (outcomes_now t (parts_of path))) f) content (holds.stands (parts_of path) node some)
