-- How walks begin and end.
use Rattle.std.proofs.Common.{◌≡◌, ◌+◌, ◌∙◌, ℕ, Bool, List, [], ◌∷◌, ◌++◌, Option, Some, None, refl, sym, subst, ap, inl, arith, length}
use Rattle.std.specs.Prelude.{map, option_map, reverse}
use Rattle.sd_io.specs.Tree.{Tree}
use Rattle.sd_io.specs.Disk.{DiskState, OpenList}
use Rattle.walk_rest.specs.declared.level.Level.{Level}
use Rattle.walk_rest.specs.declared.level.Folder.{Folder}
use Rattle.walk_rest.specs.declared.level.Entries.{Entries}
use Rattle.walk_rest.specs.declared.level.Entries.TheVariants.{Unread, Open, Kept}
use Rattle.walk_rest.specs.declared.options.Options.{Options}
use Rattle.walk_rest.specs.Plan.{Comparison, IsContents, IsPlan, Manner, Plan, entry_below}
use Rattle.walk_rest.specs.Listing.{IsRootPlan, manner_of}
use Rattle.walk_rest.specs.Rest.{Rest, start}
use Rattle.walk_rest.specs.Level.{HasPart, HasParts, IsDue, fault_of, item_of, left_in, with_folder}
use Rattle.walk_steps.specs.declared.inside.Inside.{Inside}
use Rattle.walk_steps.specs.Causes.{faults_due}
use Rattle.walk_steps.specs.Inside.{HasRest, IsUnbegun, IsUntaken, KnowsDevice, SameWalk, levels_of, top_levels}
use Rattle.walk_steps.specs.Listed.{IsToList, IsToListOnTop, waits_first, waits_in, waits_kept}
use Rattle.walk_steps.specs.Sound.{IsSound, IsFresh, IsReadable, IsShallow, IsTopFresh, AreApartFrom, AreShallow, AreSound, AreRead, SameOthers, StaysWithin, open_in, open_limit, opens}
use Rattle.walk_steps.specs.Steps.{LiesUnread}
use Rattle.walkdir.specs.Steps.{Begins}

-- ---- lists that stay

readable_kept : (old new : DiskState) (folder : Option Folder) (entries : Entries) → new.open_list ≡ old.open_list → IsReadable old folder entries → IsReadable new folder entries
readable_kept old new folder Unread same readable = tt
readable_kept old new None (Open list) same readable = absurd readable
readable_kept old new (Some folder) (Open list) same readable = ((readable.0.0, ap (λ lists. lists list.number) same ∙ readable.0.1), readable.1)
readable_kept old new None (Kept kept) same readable = readable
readable_kept old new (Some folder) (Kept kept) same readable = readable

sound_kept : (old new : DiskState) (levels : List Level) → new.open_list ≡ old.open_list → AreSound old levels → AreSound new levels
sound_kept old new [] same sound = tt
sound_kept old new (level ∷ levels) same sound = (readable_kept old new level.folder level.entries same sound.0, sound.1, sound_kept old new levels same sound.2)

due_kept : (old new : DiskState) (manner : Manner) (root : List ℕ) (chain : List Folder) (folder : Option Folder) (entries : Entries) (plan : Plan)
    → new.tree ≡ old.tree → new.open_list ≡ old.open_list → IsDue old manner root chain folder entries plan → IsDue new manner root chain folder entries plan
due_kept old new manner root chain None Unread plan tree lists due = (due.0, subst (λ (t : Tree). IsRootPlan t manner root plan) (sym tree) due.1)
due_kept old new manner root chain (Some folder) Unread plan tree lists due =
    (due.0, subst (λ (t : Tree). IsContents t manner folder due.0) (sym tree) due.1, subst (λ (t : Tree). IsPlan t manner chain due.0 plan) (sym tree) due.2)
due_kept old new manner root chain None (Open list) plan tree lists due = absurd due
due_kept old new manner root chain (Some folder) (Open list) plan tree lists due =
    subst (λ (left : ℕ → Option OpenList). IsPlan new.tree manner chain (map (entry_below folder) (left_in (left list.number))) plan) (sym lists)
    (subst (λ (t : Tree). IsPlan t manner chain (map (entry_below folder) (left_in (old.open_list list.number))) plan) (sym tree) due)
due_kept old new manner root chain None (Kept kept) plan tree lists due = subst (λ (t : Tree). IsPlan t manner chain (reverse kept.items) plan) (sym tree) due
due_kept old new manner root chain (Some folder) (Kept kept) plan tree lists due = subst (λ (t : Tree). IsPlan t manner chain (reverse kept.items) plan) (sym tree) due

parts_kept : (old new : DiskState) (manner : Manner) (root : List ℕ) (chain : List Folder) (levels : List Level) (rest : Rest)
    → new.tree ≡ old.tree → new.open_list ≡ old.open_list → HasParts old manner root chain levels rest → HasParts new manner root chain levels rest
parts_kept old new manner root chain [] [] tree lists has = tt
parts_kept old new manner root chain [] (part ∷ parts) tree lists has = absurd has
parts_kept old new manner root chain (level ∷ levels) [] tree lists has = absurd has
parts_kept old new manner root chain (level ∷ levels) (part ∷ parts) tree lists has = (
  record {
    folder = has.0.folder;
    first = has.0.first;
    due = due_kept old new manner root (with_folder level.folder chain) level.folder level.entries part.left tree lists has.0.due;
    faults = has.0.faults;
  },
  parts_kept old new manner root (with_folder level.folder chain) levels parts tree lists has.1,
)

-- a root's level, as a part
root_part : (state : DiskState) (manner : Manner) (root : List ℕ) (level : Level) (plan : Plan) → LiesUnread level None → IsRootPlan state.tree manner root plan
    → HasPart state manner root (with_folder level.folder []) level (record { folder = None; first = None; left = plan; faults = [] })
root_part state manner root level plan lies planned = record {
  folder = sym lies.folder_is;
  first = ap (option_map item_of) (sym lies.first);
  due = subst (λ (folder : Option Folder). IsDue state manner root (with_folder folder []) folder level.entries plan) (sym lies.folder_is)
      (subst (λ (entries : Entries). IsDue state manner root [] None entries plan) (sym lies.unread) (refl, planned));
  faults = ap (map fault_of) (sym lies.faultless);
}

-- lists of others stay over both
pub others_next : (old mid new : DiskState) (x y z : List Level) → SameOthers old x mid y → SameOthers mid y new z → SameOthers old x new z
others_next old mid new x y z h k = λ number apart opened.
    let a = h number apart opened in
    let b = k number a.1 (opened.0, a.0 ∙ opened.1) in
    (b.0 ∙ a.0, b.1)

module _ {S : Type 0} where
  -- what a call leaves that opens and reads no list
  pub still_sound_after : (old new : DiskState) (sorts : Bool) (inside : Inside S) → new.open_list ≡ old.open_list → IsSound old sorts inside → IsSound new sorts inside
  still_sound_after old new sorts inside same sound =
      record { lists = sound_kept old new (levels_of inside) same sound.lists; read = sound.read; rooted = sound.rooted; few = sound.few; shallow = sound.shallow; fresh = sound.fresh }

  pub still_rest_after : (old new : DiskState) (sorts : Bool) (by : Comparison) (inside : Inside S) (rest : Rest) → new.tree ≡ old.tree → new.open_list ≡ old.open_list
      → HasRest old sorts by inside rest → HasRest new sorts by inside rest
  still_rest_after old new sorts by inside rest tree lists has = record {
    parts = subst (λ (t : Tree). HasParts new (manner_of t inside.options sorts by inside.root) inside.root [] (levels_of inside) rest) (sym tree)
        (parts_kept old new (manner_of old.tree inside.options sorts by inside.root) inside.root [] (levels_of inside) rest tree lists has.parts);
    device = subst (λ (t : Tree). KnowsDevice t inside) (sym tree) has.device;
  }

  -- one step after others
  pub within_next : (old mid new : DiskState) (before between after : Inside S) → SameWalk before between
      → StaysWithin (open_limit before.options) old (levels_of before) mid (levels_of between)
      → StaysWithin (open_limit between.options) mid (levels_of between) new (levels_of after) → StaysWithin (open_limit before.options) old (levels_of before) new (levels_of after)
  within_next old mid new before between after same h k = λ others e.
      let a = h others e in
      let b = k others a.0 in
      let most = a.1 in
      let more = b.1 in
      let limit = ap open_limit same.options in
      (b.0, omega (arith, most, more, limit))

  -- the lists that were left are closed
  pub within_end : (old mid new : DiskState) (before between : Inside S) → StaysWithin (open_limit before.options) old (levels_of before) mid (levels_of between)
      → StaysWithin 0 mid (levels_of between) new [] → StaysWithin (open_limit before.options) old (levels_of before) new []
  within_end old mid new before between h k = λ others e.
      let a = h others e in
      let b = k others a.0 in
      let most = a.1 in
      let more = b.1 in
      (b.0, omega (arith, most, more))

  -- ---- the beginning

  begun_levels : (options : Options) (order : S) (root : List ℕ) (inside : Inside S) (begins : Begins options order root inside) → levels_of inside ≡ begins.top ∷ []
  begun_levels options order root inside begins =
      ap (λ (top : Option Level). inside.stack.items ++ top_levels top) begins.on_top ∙ ap (λ (lower : List Level). lower ++ begins.top ∷ []) begins.lower

  pub begun_opens : (options : Options) (order : S) (root : List ℕ) (inside : Inside S) → Begins options order root inside → opens (levels_of inside) ≡ 0
  begun_opens options order root inside begins =
      ap opens (begun_levels options order root inside begins) ∙ ap (λ (entries : Entries). open_in entries + 0) begins.unread.unread

  pub begun_waits : (options : Options) (order : S) (root : List ℕ) (inside : Inside S) → Begins options order root inside → waits_in (levels_of inside) ≡ 0
  begun_waits options order root inside begins =
      let levels = ap waits_in (begun_levels options order root inside begins) in
      let first = ap waits_first begins.unread.first in
      let kept = ap (λ (folder : Option Folder). waits_kept folder begins.top.entries) begins.unread.folder_is in
      omega (arith, levels, first, kept)

  pub begun_due : (options : Options) (order : S) (root : List ℕ) (inside : Inside S) → Begins options order root inside → faults_due (levels_of inside) ≡ 0
  begun_due options order root inside begins =
      let levels = ap faults_due (begun_levels options order root inside begins) in
      let none = ap length begins.unread.faultless in
      omega (arith, levels, none)

  pub begun_rest : (state : DiskState) (sorts : Bool) (by : Comparison) (options : Options) (order : S) (root : List ℕ) (inside : Inside S) (plan : Plan)
      → Begins options order root inside → IsRootPlan state.tree (manner_of state.tree options sorts by root) root plan → HasRest state sorts by inside (start plan)
  begun_rest state sorts by options order root inside plan begins planned =
      let levels = begun_levels options order root inside begins in
      record {
        parts = subst (λ (how : Options). HasParts state (manner_of state.tree how sorts by inside.root) inside.root [] (levels_of inside) (start plan)) (sym begins.options_are)
            (subst (λ (path : List ℕ). HasParts state (manner_of state.tree options sorts by path) path [] (levels_of inside) (start plan)) (sym begins.root_is)
            (subst (λ (all : List Level). HasParts state (manner_of state.tree options sorts by root) root [] all (start plan)) (sym levels)
            (root_part state (manner_of state.tree options sorts by root) root begins.top plan begins.unread planned, tt)));
        device = λ counts. inl (subst IsUnbegun (sym levels) (begins.unread.folder_is, subst IsUntaken (sym begins.unread.unread) tt));
      }

  pub begun_sound : (state : DiskState) (sorts : Bool) (options : Options) (order : S) (root : List ℕ) (inside : Inside S)
      → Begins options order root inside → IsSound state sorts inside
  begun_sound state sorts options order root inside begins =
      let levels = begun_levels options order root inside begins in
      record {
        lists = subst (AreSound state) (sym levels)
            (subst (λ (entries : Entries). IsReadable state begins.top.folder entries × AreApartFrom entries [] × Unit {0}) (sym begins.unread.unread) (tt, tt, tt));
        read = subst AreRead (sym begins.lower) tt;
        rooted = λ gone. begins.lower;
        few = let a = begun_opens options order root inside begins in omega (arith, a);
        shallow = subst (AreShallow inside.options.max_depth) (sym levels)
            (subst (λ (entries : Entries). IsShallow inside.options.max_depth begins.top.folder entries × Unit {0}) (sym begins.unread.unread) (tt, tt));
        fresh = subst IsTopFresh (sym begins.on_top)
            (subst (λ (entries : Entries). IsFresh entries begins.top.first begins.top.faults.items) (sym begins.unread.unread) (begins.unread.first, begins.unread.faultless));
      }

  pub begun_to_list : (tree : Tree) (deepest : ℕ) (options : Options) (order : S) (root : List ℕ) (inside : Inside S) → Begins options order root inside → IsToListOnTop tree deepest inside.top 0
  begun_to_list tree deepest options order root inside begins =
      subst (λ (top : Option Level). IsToListOnTop tree deepest top 0) (sym begins.on_top)
      (subst (λ (folder : Option Folder). IsToList tree deepest folder begins.top.entries 0) (sym begins.unread.folder_is) refl)
