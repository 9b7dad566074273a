-- Which entries are picked, and what is picked of a walk.
use Rattle.std.proofs.Common.{◌≡◌, ◌≤◌, inl, inr, ℕ, Bool, List, [], ◌∷◌, ◌++◌, Ok, Err, refl, sym, ◌∙◌, ap, subst, arith, append_assoc, append-nil}
use Rattle.std.specs.Prelude.{All, IsTrue}
use Rattle.std.proofs.lemmas.List.Elements.{All-append, All-nil}
use Rattle.sd_io.specs.Count.{HasRisen}
use Rattle.sd_io.specs.Disk.{DiskState}
use Rattle.sd_io.specs.Tree.{Tree}
use Rattle.sd_course.specs.Course.{course}
use Rattle.walk_rest.specs.declared.entry.DirEntry.{DirEntry}
use Rattle.walk_rest.specs.declared.error.Error.{Error}
use Rattle.walk_rest.specs.declared.error.Error.TheVariants.{Disk, Absent, Loop, NoMemory, TooMany}
use Rattle.walk_rest.specs.Plan.{Item, path_below}
use Rattle.walkdir.specs.Gather.{Gathered}
use Rattle.chosen_files.specs.declared.pick.Picking.{Picking}
use Rattle.chosen_files.specs.Choice.{WalkFails}
use Rattle.chosen_files.specs.Chosen.{IsPathBelow}
use Rattle.chosen_files.specs.Globs.{FitsAny}
use Rattle.chosen_files.specs.Picking.{PicksOn}
use Rattle.chosen_files.specs.Picks.{Picks}
use Rattle.chosen_files.proofs.laws.BelowLemmas.{same_below}

-- ---- one entry

-- what a path has after that of a folder is one text
pub fits_same : (root path a b : List ℕ) (globs : List (List ℕ)) → path ≡ path_below root a → path ≡ path_below root b → FitsAny globs a → FitsAny globs b
fits_same root path a b globs e f fits = subst (λ (names : List ℕ). FitsAny globs names) (same_below root a b (sym e ∙ f)) fits

-- ---- refusals

-- the same, from an earlier state on
pub risen_later : (a b c : ℕ) → a ≤ b → HasRisen b c → HasRisen a c
risen_later a b c le (inl h) = inl (omega (arith, le, h))
risen_later a b c le (inr h) = inr h

pub walk_later : (tells : Bool) (old mid new : DiskState) (failed : Error) → old.faults ≤ mid.faults → WalkFails (course tells mid new) failed → WalkFails (course tells old new) failed
walk_later tells old mid new (Disk path depth) le h = risen_later old.faults mid.faults new.faults le h
walk_later tells old mid new (Absent path depth) le h = (h.0, risen_later old.faults mid.faults new.faults le h.1)
walk_later tells old mid new (Loop path depth ancestor ident) le h = h
walk_later tells old mid new NoMemory le h = h
walk_later tells old mid new TooMany le h = h

-- ---- entries in turn

-- what is picked of one entry and of those after it
picks_on : (tree : Tree) (root top : List ℕ) (globs : List (List ℕ)) (entry : DirEntry) (items : List Item) (first more : List (List ℕ)) → Picks tree root top globs (Ok entry ∷ []) first
    → Picks tree root top globs items more → Picks tree root top globs (Ok entry ∷ items) (first ++ more)
picks_on tree root top globs entry items first more (inl (picked, none, is, over)) picks =
    inl (picked, more, ap (λ (ps : List (List ℕ)). ps ++ more) (is ∙ ap (λ (ps : List (List ℕ)). path_below root picked.names ∷ ps) over), picks)
picks_on tree root top globs entry items first more (inr (unpicked, none)) picks =
    inr (unpicked, subst (Picks tree root top globs items) (sym (ap (λ (ps : List (List ℕ)). ps ++ more) none)) picks)

-- What the entries of some items made of the paths that were picked.
pub record PicksAll (tells : Bool) (tree : Tree) (old : Picking) (items : List Item) (new : Picking) : Type 0 where
  pub more : List (List ℕ)
  pub added : new.paths.items ≡ old.paths.items ++ more
  pub below_root : All (IsPathBelow old.root.now) more
  pub picks : IsTrue tells → Picks tree old.root.now old.top.now old.globs.now items more

picks_none : (tells : Bool) (tree : Tree) (old new : Picking) → new ≡ old → PicksAll tells tree old [] new
picks_none tells tree old new same = record {
  more = [];
  added = ap (λ (p : Picking). p.paths.items) same ∙ sym (append-nil old.paths.items);
  below_root = All-nil (IsPathBelow old.root.now);
  picks = λ told. refl;
}

picks_next : (tells : Bool) (tree : Tree) (old mid new : Picking) (entry : DirEntry) (items : List Item) → PicksOn tells tree old entry mid → PicksAll tells tree mid items new
    → PicksAll tells tree old (Ok entry ∷ items) new
picks_next tells tree old mid new entry items one all = record {
  more = one.more ++ all.more;
  added = all.added ∙ ap (λ (ps : List (List ℕ)). ps ++ all.more) one.added ∙ append_assoc old.paths.items one.more all.more;
  below_root = All-append (IsPathBelow old.root.now) one.more all.more one.below_root (subst (λ (root : List ℕ). All (IsPathBelow root) all.more) one.root all.below_root);
  picks = λ told. picks_on tree old.root.now old.top.now old.globs.now entry items one.more all.more (one.picks told)
      (subst (λ (root : List ℕ). Picks tree root old.top.now old.globs.now items all.more) one.root
      (subst (λ (top : List ℕ). Picks tree mid.root.now top old.globs.now items all.more) one.top
      (subst (λ (globs : List (List ℕ)). Picks tree mid.root.now mid.top.now globs items all.more) one.globs (all.picks told))));
}

pub picks_all : (tells : Bool) (tree : Tree) (old new : Picking) (items : List Item) → Gathered (PicksOn tells tree) old items new → PicksAll tells tree old items new
picks_all tells tree old new [] same = picks_none tells tree old new same
picks_all tells tree old new (Ok entry ∷ items) h = picks_next tells tree old h.0 new entry items h.1 (picks_all tells tree h.0 new items h.2)
picks_all tells tree old new (Err failed ∷ items) h =
    let all = picks_all tells tree old new items h in
    record { more = all.more; added = all.added; below_root = all.below_root; picks = all.picks }
