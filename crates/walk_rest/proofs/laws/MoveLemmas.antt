-- What reading a directory does to what is left of a walk.
use Rattle.std.proofs.Common.{◌≡◌, ◌+◌, ℕ, zero, suc, List, [], ◌∷◌, ◌++◌, map, reverse, Option, Some, None, refl, sym, ◌∙◌, ap, subst, inl, inr, append_assoc, append-nil}
use Rattle.sd_io.specs.Disk.{DiskState}
use Rattle.walk_rest.specs.declared.entry.DirEntry.{DirEntry}
use Rattle.walk_rest.specs.declared.level.Folder.{Folder}
use Rattle.walk_rest.specs.declared.level.Due.{Due}
use Rattle.walk_rest.specs.declared.level.Level.{Level}
use Rattle.walk_rest.specs.declared.level.Entries.{Entries}
use Rattle.walk_rest.specs.declared.level.Entries.TheVariants.{Unread, Open, Kept}
use Rattle.walk_rest.specs.Plan.{Plan, done, past, into, Manner, IsPlan, IsContents}
use Rattle.walk_rest.specs.Rest.{Fault, Part, Rest, IsCutTo, all_kept, past_kept, into_kept, Cuts, Moves, none, cut, Skips}
use Rattle.std.specs.Prelude.{option_map}
use Rattle.walk_rest.specs.Plan.{entry_below}
use Rattle.walk_rest.specs.Listing.{IsRootPlan}
use Rattle.walk_rest.specs.Level.{SameReads, AllSameReads, KeepsList, HasKept, IsOpenEntries, entries_left, left_in, item_of, read_part, ReadsPart, HasPart, HasParts, IsDue, with_folder, chain_above, ReadsFolder, ComesWith, listing_faults, fault_of}
use Rattle.walk_rest.proofs.laws.PlanLemmas.{plan_cut}

pub cut_none : (plan : Plan) → IsCutTo plan plan
cut_none done = all_kept
cut_none (past a i plan) = past_kept (cut_none plan)
cut_none (into a b c d plan) = into_kept (cut_none plan)

-- one listing fault after another; the first takes what is lost
listing_moves : (below : List Part) (part : Part) (above : List Part) (folder : Folder) (left : Plan) (n : ℕ) → part.folder ≡ Some folder → IsCutTo part.left left
    → Moves (suc n) (below ++ part ∷ above) (below ++ read_part part left (listing_faults (folder.depth + 1) (suc n)) ∷ above)
listing_moves below part above folder left zero is h =
    cut none (record {
      below = below;
      part = part;
      above = above;
      left = left;
      fault = record { path = None; depth = folder.depth + 1 };
      was = refl;
      met = rw is (inr (inl (refl, h)));
      now = refl;
    })
listing_moves below part above folder left (suc n) is h =
    let fault : Fault = record { path = None; depth = folder.depth + 1 } in
    let so_far : Part = read_part part left (listing_faults (folder.depth + 1) (suc n)) in
    let last : Cuts (below ++ so_far ∷ above) (below ++ read_part part left (listing_faults (folder.depth + 1) (suc (suc n))) ∷ above) = record {
      below = below;
      part = so_far;
      above = above;
      left = left;
      fault = fault;
      was = refl;
      met = rw is (inr (inl (refl, cut_none left)));
      now = ap (λ faults. below ++ record part { left = left; faults = faults } ∷ above) (sym (append_assoc part.faults (listing_faults (folder.depth + 1) (suc n)) (fault ∷ []) ∙ ap (λ z. part.faults ++ z) (faults_snoc (folder.depth + 1) (suc n))));
    } in
    cut (listing_moves below part above folder left n is h) last
  where
    faults_snoc : (depth k : ℕ) → listing_faults depth k ++ record { path = None; depth = depth } ∷ [] ≡ listing_faults depth (suc k)
    faults_snoc depth zero = refl
    faults_snoc depth (suc k) = ap (λ z. record { path = None; depth = depth } ∷ z) (faults_snoc depth k)

pub part_read : (old new : DiskState) (manner : Manner) (chain : List Folder) (below : List Part) (part : Part) (folder : Folder) (due now_due : List Due) (inner left : List DirEntry)
    → part.folder ≡ Some folder → IsPlan old.tree manner chain inner part.left → (r : ReadsFolder old folder due inner new now_due left)
    → ReadsPart old.tree manner chain below part r.cuts r.faults left
part_read old new manner chain below part folder due now_due inner left is planned r = by r.cuts refl r.comes
  where
    plan : (l : Plan) × IsPlan old.tree manner chain left l × IsCutTo part.left l
    plan = plan_cut old.tree manner chain left inner part.left r.loses.left planned

    by : (n : ℕ) → r.cuts ≡ n → ComesWith folder r.cuts r.faults left → ReadsPart old.tree manner chain below part r.cuts r.faults left
    by zero e (inl f) =
        let whole : left ≡ inner = r.loses.whole e in
        let none_due : r.faults ≡ [] = f ∙ ap (listing_faults (folder.depth + 1)) e in
        let same : part ≡ read_part part part.left r.faults = ap (λ fs. record part { faults = fs }) (sym (append-nil part.faults)) ∙ ap (λ fs. read_part part part.left fs) (sym none_due) in
        record {
          left = part.left;
          planned = subst (λ es. IsPlan old.tree manner chain es part.left) (sym whole) planned;
          moves = rw (e, ← same) none;
        }
    by (suc n) e (inl f) = record {
      left = plan.0;
      planned = plan.1;
      moves = rw (f, e) (listing_moves below part [] folder plan.0 n is plan.2);
    }
    by n e (inr (one, faults, empty)) = record {
      left = done;
      planned = subst (λ es. IsPlan old.tree manner chain es done) (sym empty) tt;
      moves = rw (one, faults) (cut none (record {
        below = below;
        part = part;
        above = [];
        left = done;
        fault = record { path = Some folder.path; depth = folder.depth };
        was = refl;
        met = rw is (inl (refl, refl));
        now = refl;
      }));
    }

-- ---- levels and parts, bottom first

pub parts_snoc : (state : DiskState) (manner : Manner) (root : List ℕ) (chain : List Folder) (levels : List Level) (level : Level) (parts : List Part) (part : Part)
    → HasParts state manner root chain levels parts → HasPart state manner root (with_folder level.folder (chain_above chain levels)) level part → HasParts state manner root chain (levels ++ level ∷ []) (parts ++ part ∷ [])
parts_snoc state manner root chain [] level [] part h k = (k, tt)
parts_snoc state manner root chain [] level (p ∷ parts) part h k = absurd h
parts_snoc state manner root chain (l ∷ levels) level [] part h k = absurd h
parts_snoc state manner root chain (l ∷ levels) level (p ∷ parts) part h k = (h.0, parts_snoc state manner root (with_folder l.folder chain) levels level parts part h.1 k)

-- the parts below the topmost level's, and that
pub record Parted (state : DiskState) (manner : Manner) (root : List ℕ) (chain : List Folder) (levels : List Level) (level : Level) (rest : Rest) : Type 0 where
  pub below : List Part
  pub part : Part
  pub rest_is : rest ≡ below ++ part ∷ []
  pub lower : HasParts state manner root chain levels below
  pub top : HasPart state manner root (with_folder level.folder (chain_above chain levels)) level part

pub parts_parted : (state : DiskState) (manner : Manner) (root : List ℕ) (chain : List Folder) (levels : List Level) (level : Level) (rest : Rest)
    → HasParts state manner root chain (levels ++ level ∷ []) rest → Parted state manner root chain levels level rest
parts_parted state manner root chain [] level [] h = absurd h
parts_parted state manner root chain [] level (p ∷ []) h = record { below = []; part = p; rest_is = refl; lower = tt; top = h.0 }
parts_parted state manner root chain [] level (p ∷ q ∷ rest) h = absurd h.1
parts_parted state manner root chain (l ∷ levels) level [] h = absurd h
parts_parted state manner root chain (l ∷ levels) level (p ∷ rest) h =
    let r = parts_parted state manner root (with_folder l.folder chain) levels level rest h.1 in
    record { below = p ∷ r.below; part = r.part; rest_is = ap (λ z. p ∷ z) r.rest_is; lower = (h.0, r.lower); top = r.top }

-- ---- a directory is entered, and left unread

-- its level has all its entries due, and its part is on top: the chain has it first
pub entered_unread : (state : DiskState) (manner : Manner) (root : List ℕ) (chain : List Folder) (levels : List Level) (below : List Part) (folder : Folder) (opened : Level) (contents : Plan)
    → HasParts state manner root chain levels below → opened.folder ≡ Some folder → opened.first ≡ None → opened.entries ≡ Unread → opened.faults.items ≡ []
    → ((inner : List DirEntry) × IsContents state.tree manner folder inner × IsPlan state.tree manner (folder ∷ chain_above chain levels) inner contents)
    → HasParts state manner root chain (levels ++ opened ∷ []) (below ++ record { folder = Some folder; first = None; left = contents; faults = [] } ∷ [])
entered_unread state manner root chain levels below folder opened contents h is first unread none_due inner =
    parts_snoc state manner root chain levels opened below _ h (record {
      folder = sym is;
      first = rw first refl;
      due = rw (is, unread) inner;
      faults = rw none_due refl;
    })

-- skipping it takes its part off, and nothing was opened for it
pub skipped_unread : (state : DiskState) (manner : Manner) (root : List ℕ) (chain : List Folder) (levels : List Level) (next top : Level) (rest : Rest)
    → HasParts state manner root chain ((levels ++ next ∷ []) ++ top ∷ []) rest → (new : Rest) × Skips rest new × HasParts state manner root chain (levels ++ next ∷ []) new
skipped_unread state manner root chain levels next top rest h =
    let r = parts_parted state manner root chain (levels ++ next ∷ []) top rest h in
    (r.below, skips rest r.below r.part r.rest_is (long levels r.below chain r.lower), r.lower)
  where
    long : (ls : List Level) (parts : List Part) → (c : List Folder) → HasParts state manner root c (ls ++ next ∷ []) parts → (p : Part) × (ps : List Part) × (parts ≡ p ∷ ps)
    long [] [] c h = absurd h
    long [] (p ∷ ps) c h = (p, ps, refl)
    long (l ∷ ls) [] c h = absurd h
    long (l ∷ ls) (p ∷ ps) c h = (p, ps, refl)

    skips : (rest below : Rest) (part : Part) → rest ≡ below ++ part ∷ [] → ((p : Part) × (ps : List Part) × (below ≡ p ∷ ps)) → Skips rest below
    skips [] below part e l = absurd (let f = l.2 in no_end below part e)
      where
        no_end : (below : Rest) (part : Part) → [] ≡ below ++ part ∷ [] → ⊥
        no_end [] part e = cc
        no_end (p ∷ below) part e = cc
    skips (p ∷ []) below part e l = absurd (let f : p ∷ [] ≡ l.0 ∷ (l.1 ++ part ∷ []) = e ∙ ap (λ z. z ++ part ∷ []) l.2 in one l.1 part (let g : [] ≡ l.1 ++ part ∷ [] = cc in g))
      where
        one : (ps : List Part) (part : Part) → [] ≡ ps ++ part ∷ [] → ⊥
        one [] part e = cc
        one (q ∷ ps) part e = cc
    skips (p ∷ q ∷ rest) below part e l = (part, e)

-- ---- an open list in the middle is kept

due_on : (old new : DiskState) (manner : Manner) (root : List ℕ) (chain : List Folder) (folder : Option Folder) (entries : Entries) (plan : Plan) → new.tree ≡ old.tree → SameReads old new entries
    → IsDue old manner root chain folder entries plan → IsDue new manner root chain folder entries plan
due_on old new manner root chain None Unread plan same reads h = (h.0, subst (λ t. IsRootPlan t manner root plan) (sym same) h.1)
due_on old new manner root chain (Some folder) Unread plan same reads h =
    (h.0, subst (λ t. IsContents t manner folder h.0) (sym same) h.1, subst (λ t. IsPlan t manner chain h.0 plan) (sym same) h.2)
due_on old new manner root chain None (Open list) plan same reads h = absurd h
due_on old new manner root chain (Some folder) (Open list) plan same reads h =
    subst (λ o. IsPlan new.tree manner chain (map (entry_below folder) (left_in o)) plan) (sym reads) (subst (λ t. IsPlan t manner chain (map (entry_below folder) (left_in (old.open_list list.number))) plan) (sym same) h)
due_on old new manner root chain None (Kept kept) plan same reads h = subst (λ t. IsPlan t manner chain (reverse kept.items) plan) (sym same) h
due_on old new manner root chain (Some folder) (Kept kept) plan same reads h = subst (λ t. IsPlan t manner chain (reverse kept.items) plan) (sym same) h

-- the parts of levels whose lists are as before
pub parts_on : (old new : DiskState) (manner : Manner) (root : List ℕ) (chain : List Folder) (levels : List Level) (parts : List Part) → new.tree ≡ old.tree → AllSameReads old new levels
    → HasParts old manner root chain levels parts → HasParts new manner root chain levels parts
parts_on old new manner root chain [] [] same reads h = tt
parts_on old new manner root chain [] (p ∷ parts) same reads h = absurd h
parts_on old new manner root chain (l ∷ levels) [] same reads h = absurd h
parts_on old new manner root chain (l ∷ levels) (p ∷ parts) same reads h =
    let k = h.0 in (
      record { folder = k.folder; first = k.first; due = due_on old new manner root (with_folder l.folder chain) l.folder l.entries p.left same reads.0 k.due; faults = k.faults },
      parts_on old new manner root (with_folder l.folder chain) levels parts same reads.1 h.1,
    )

-- what is due of an open list is the plan of what it still gives
open_due : (state : DiskState) (manner : Manner) (root : List ℕ) (chain : List Folder) (given : Option Folder) (folder : Folder) (entries : Entries) (plan : Plan) → given ≡ Some folder → IsOpenEntries entries
    → IsDue state manner root chain given entries plan → IsPlan state.tree manner chain (map (entry_below folder) (entries_left state entries)) plan
open_due state manner root chain given folder Unread plan is reads_it h = absurd reads_it
open_due state manner root chain None folder (Open list) plan is reads_it h = absurd h
open_due state manner root chain (Some f) folder (Open list) plan is reads_it h = let same : f ≡ folder = cc in subst (λ g. IsPlan state.tree manner chain (map (entry_below g) (left_in (state.open_list list.number))) plan) same h
open_due state manner root chain given folder (Kept kept) plan is reads_it h = absurd reads_it

kept_due : (state : DiskState) (manner : Manner) (root : List ℕ) (chain : List Folder) (folder : Option Folder) (entries : Entries) (kept : List DirEntry) (plan : Plan) → HasKept entries kept
    → IsPlan state.tree manner chain kept plan → IsDue state manner root chain folder entries plan
kept_due state manner root chain folder Unread kept plan has h = absurd has
kept_due state manner root chain folder (Open list) kept plan has h = absurd has
kept_due state manner root chain None (Kept v) kept plan has h = subst (λ es. IsPlan state.tree manner chain es plan) (sym has) h
kept_due state manner root chain (Some f) (Kept v) kept plan has h = subst (λ es. IsPlan state.tree manner chain es plan) (sym has) h

-- so many cuts of one part
pub record KeepsPart (state : DiskState) (manner : Manner) (root : List ℕ) (chain : List Folder) (below : List Part) (part : Part) (above : List Part) (kept : Level) (cuts : ℕ) : Type 0 where
  pub now : Part
  pub moves : Moves cuts (below ++ part ∷ above) (below ++ now ∷ above)
  pub has : HasPart state manner root chain kept now

keep_part : (old new : DiskState) (manner : Manner) (root : List ℕ) (chain : List Folder) (below : List Part) (part : Part) (above : List Part) (folder : Folder) (level kept : Level)
    → level.folder ≡ Some folder → IsOpenEntries level.entries → HasPart old manner root chain level part → (k : KeepsList old folder level new kept) → KeepsPart new manner root chain below part above kept k.cuts
keep_part old new manner root chain below part above folder level kept is reads_it h k = by k.cuts refl
  where
    all : IsPlan old.tree manner chain (map (entry_below folder) (entries_left old level.entries)) part.left
    all = open_due old manner root chain level.folder folder level.entries part.left is reads_it h.due

    less : (left : Plan) × IsPlan old.tree manner chain k.entries left × IsCutTo part.left left
    less = plan_cut old.tree manner chain k.entries (map (entry_below folder) (entries_left old level.entries)) part.left k.loses all

    due_now : (left : Plan) → IsPlan old.tree manner chain k.entries left → IsDue new manner root chain kept.folder kept.entries left
    due_now left p = kept_due new manner root chain kept.folder kept.entries k.entries left k.kept_is (subst (λ t. IsPlan t manner chain k.entries left) (sym k.tree) p)

    faults_now : map fault_of kept.faults.items ≡ part.faults ++ listing_faults (folder.depth + 1) k.cuts
    faults_now = k.faults ∙ ap (λ fs. fs ++ listing_faults (folder.depth + 1) k.cuts) (sym h.faults)

    by : (n : ℕ) → k.cuts ≡ n → KeepsPart new manner root chain below part above kept k.cuts
    by zero e = record {
      now = part;
      moves = rw e none;
      has = record {
        folder = h.folder ∙ sym k.folder_is;
        first = h.first ∙ ap (option_map item_of) (sym k.first);
        due = due_now part.left (subst (λ es. IsPlan old.tree manner chain es part.left) (sym (k.whole e)) all);
        faults = sym (faults_now ∙ (ap (λ m. part.faults ++ listing_faults (folder.depth + 1) m) e ∙ append-nil part.faults));
      };
    }
    by (suc n) e = record {
      now = read_part part less.0 (listing_faults (folder.depth + 1) k.cuts);
      moves = rw e (listing_moves below part above folder less.0 n (h.folder ∙ is) less.2);
      has = record {
        folder = h.folder ∙ sym k.folder_is;
        first = h.first ∙ ap (option_map item_of) (sym k.first);
        due = due_now less.0 less.1;
        faults = sym faults_now;
      };
    }

-- Where an open list is kept, the rest has so many cuts, all of its part.
pub list_kept : (old new : DiskState) (manner : Manner) (root : List ℕ) (chain : List Folder) (lower upper : List Level) (folder : Folder) (level kept : Level) (rest : Rest)
    → HasParts old manner root chain (lower ++ level ∷ upper) rest → level.folder ≡ Some folder → IsOpenEntries level.entries → AllSameReads old new lower → AllSameReads old new upper
    → (k : KeepsList old folder level new kept) → (below : List Part) → (after : Rest) × Moves k.cuts (below ++ rest) (below ++ after) × HasParts new manner root chain (lower ++ kept ∷ upper) after
list_kept old new manner root chain [] upper folder level kept [] h is reads_it first second k below = absurd h
list_kept old new manner root chain [] upper folder level kept (p ∷ rest) h is reads_it first second k below =
    let r = keep_part old new manner root (with_folder level.folder chain) below p rest folder level kept is reads_it h.0 k in
    let same : with_folder level.folder chain ≡ with_folder kept.folder chain = ap (λ f. with_folder f chain) (sym k.folder_is) in
    let upper_on = parts_on old new manner root (with_folder level.folder chain) upper rest k.tree second h.1 in
    (r.now ∷ rest, r.moves, (subst (λ c. HasPart new manner root c kept r.now) same r.has, subst (λ c. HasParts new manner root c upper rest) same upper_on))
list_kept old new manner root chain (l ∷ lower) upper folder level kept [] h is reads_it first second k below = absurd h
list_kept old new manner root chain (l ∷ lower) upper folder level kept (p ∷ rest) h is reads_it first second k below =
    let r = list_kept old new manner root (with_folder l.folder chain) lower upper folder level kept rest h.1 is reads_it first.1 second k (below ++ p ∷ []) in
    let own = parts_on old new manner root chain (l ∷ []) (p ∷ []) k.tree (first.0, tt) (h.0, tt) in
    let moves : Moves k.cuts (below ++ p ∷ rest) (below ++ p ∷ r.0) = rw (← append_assoc below (p ∷ []) rest, ← append_assoc below (p ∷ []) r.0) r.1 in
    (p ∷ r.0, moves, (own.0, r.2))
