-- Moments of a change, computed.
use Rattle.std.proofs.Common.{◌≡◌, ◌≢◌, ◌⊎◌, ◌<◌, ℕ, cond, List, [], ◌∷◌, ◌++◌, codes, refl, sym, ◌∙◌, ap, subst, inl, inr, lit<, arith, Contains}
use Rattle.std.specs.Prelude.{Option, Some, None}
use Rattle.std.specs.List.{AllByRecursion, IsDistinct}
use Rattle.std.specs.FinMap.{find, get-from_entries}
use Rattle.std.proofs.lemmas.List.Elements.{All-from_recursion, All-contains}
use Rattle.sha2.specs.Sha256.{sha256}
use Rattle.sd_io.specs.Tree.{NameList, IsName, Content, file, Node, Tree, name_list_cmp, node_at, file_node, file_at, is_directory_node}
use Rattle.sd_io.specs.Paths.{parent_of, parts_of}
use Rattle.sd_io.specs.Outcomes.{content_of, content_at}
use Rattle.sd_io.specs.Examples.{tree_with, entry}
use Rattle.file_exchange.specs.Reserved.{Free}
use Rattle.file_exchange.specs.Crash.{Exchange}
use Rattle.journal_text.specs.declared.line.Line.{Line}
use Rattle.journal_text.specs.Paths.{AreNames, IsResolvedPath}
use Rattle.journal_text.specs.Journal.{text_of}
use Rattle.change_phases.specs.Between.{stage_of, IsWork, IsOld, IsNew, IsAside, IsElsewhere, IsLineOf, IsJournalFor, HoldsBytes, Between}
use Rattle.change_phases.specs.Examples.{the_root, x_place, y_place, x_stage, y_stage, journal_place, nodes_before, the_work, the_lines, x_new, y_new, x_staged, y_staged, the_journal, with_nodes, one_stage, two_stages, named_journal, one_placed, two_placed, removed_journal, all_done}
use Rattle.change_phases.proofs.ImageLemmas.{places_total, apart}
use Rattle.sd_plan.proofs.Utf8Lemmas.{words_text, are_low}
use Rattle.journal_text.proofs.PathLemmas.{place_parts}
use Rattle.change_phases.proofs.DigestLemmas.{sha256_digest}
use Rattle.change_phases.proofs.LineLemmas.{listed}

-- ---- what stands in a tree of these nodes

pub node_in : (nodes : List (NameList × Node)) (q : NameList) → node_at (tree_with nodes) q ≡ find name_list_cmp q nodes
unfolding tree_with
node_in nodes q = get-from_entries places_total nodes q

pub content_in : (nodes : List (NameList × Node)) (q : NameList) → content_at (tree_with nodes) q ≡ content_of (find name_list_cmp q nodes)
content_in nodes q = ap content_of (node_in nodes q)

passes : (extra nodes : List (NameList × Node)) (q : NameList) → AllByRecursion (λ e. q ≢ e.0) extra → find name_list_cmp q (extra ++ nodes) ≡ find name_list_cmp q nodes
passes [] nodes q are = refl
passes (e ∷ es) nodes q (n, more) = ap (λ b. cond b (Some e.1) (find name_list_cmp q (es ++ nodes))) (apart q e.0 n) ∙ passes es nodes q more

-- ---- the work

pub both_files : (P : Exchange → Type 0) → P (x_place, codes "1") → P (y_place, codes "1") → (f : Exchange) → Contains the_work.files f → P f
both_files P x y f has = All-contains P the_work.files f (All-from_recursion P the_work.files (x, (y, tt))) has

abbrev pub line_x : Line
line_x = record { digest = sha256 (codes "1"); number = 0; path = codes "/t/x" }

abbrev pub line_y : Line
line_y = record { digest = sha256 (codes "1"); number = 1; path = codes "/t/y" }

pub both_lines : (P : Line → Type 0) → P line_x → P line_y → (line : Line) → Contains the_lines line → P line
both_lines P x y line has = All-contains P the_lines line (All-from_recursion P the_lines (x, (y, tt))) has

pub has_x : Contains the_work.files (x_place, codes "1")
has_x = (0, lit< tt, refl)

pub has_y : Contains the_work.files (y_place, codes "1")
has_y = (1, lit< tt, refl)

pub is_x : file_at the_work.tree x_place ≡ Some (codes "one", 416)
is_x = ap file_node (node_in nodes_before x_place)

pub is_y : file_at the_work.tree y_place ≡ Some (codes "one", 416)
is_y = ap file_node (node_in nodes_before y_place)

abbrev IsFileOf : Exchange → Type 0
IsFileOf f = (bytes : List ℕ) × (mode : ℕ) × (file_at the_work.tree f.0 ≡ Some (bytes, mode))

pub is_work : IsWork the_work
is_work = record {
  is_folder = ap is_directory_node (node_in nodes_before the_root);
  no_journal = node_in nodes_before journal_place;
  are_files = both_files IsFileOf (codes "one", 416, is_x) (codes "one", 416, is_y);
  is_one = λ f g has_f has_g e. both_files (λ f. f.1 ≡ codes "1") refl refl f has_f ∙ sym (both_files (λ f. f.1 ≡ codes "1") refl refl g has_g);
}

free_x : Free the_work.tree the_root x_stage
free_x = record { reserved = (0, lit< tt, refl); free = node_in nodes_before x_stage }

free_y : Free the_work.tree the_root y_stage
free_y = record { reserved = (1, lit< tt, refl); free = node_in nodes_before y_stage }

-- a name of one letter
letter : (b : ℕ) → b ≢ 47 → b ≢ 46 → IsName (b ∷ [])
letter b slash dot = record {
  nonempty = λ e. cc;
  no_slash = λ has. All-contains (λ x. x ≢ 47) (b ∷ []) 47 (All-from_recursion (λ x. x ≢ 47) (b ∷ []) (slash, tt)) has refl;
  not_dot = λ e. dot (cc);
  not_dots = λ e. cc;
}

-- the paths are resolved
are_names : (b : ℕ) → b ≢ 47 → b ≢ 46 → AreNames (codes "t" ∷ (b ∷ []) ∷ [])
are_names b slash dot = record { some = λ e. cc; each = (letter 116 (λ e. omega arith) (λ e. omega arith), (letter b slash dot, tt)) }

x_names : AreNames x_place
x_names = are_names 120 (λ e. omega arith) (λ e. omega arith)

y_names : AreNames y_place
y_names = are_names 121 (λ e. omega arith) (λ e. omega arith)

x_resolved : IsResolvedPath (codes "/t/x")
unfolding are_low
x_resolved = record { has_place = (x_place, x_names, refl); text = words_text _ refl }

y_resolved : IsResolvedPath (codes "/t/y")
unfolding are_low
y_resolved = record { has_place = (y_place, y_names, refl); text = words_text _ refl }

pub x_line : IsLineOf (x_place, codes "1") line_x
x_line = record { place = place_parts x_place x_names; digest = refl }

y_line : IsLineOf (y_place, codes "1") line_y
y_line = record { place = place_parts y_place y_names; digest = refl }

pub is_journal : IsJournalFor the_work the_lines
unfolding IsDistinct parts_of
is_journal = listed the_work the_lines (record {
  are_lines = (record { digest = sha256_digest (codes "1"); number = lit< tt; path = x_resolved }, (record { digest = sha256_digest (codes "1"); number = lit< tt; path = y_resolved }, tt));
  in_turn = (x_line, free_x, (y_line, free_y, tt));
  own_places = ((refl, tt), (tt, tt));
  own_stages = ((refl, tt), (tt, tt));
})

-- ---- what is elsewhere

module _ (q : NameList) (e : IsElsewhere the_work q) where
  pub not_x : q ≢ x_place
  not_x = e.no_file (x_place, codes "1") has_x

  pub not_y : q ≢ y_place
  not_y = e.no_file (y_place, codes "1") has_y

  pub not_x_stage : q ≢ x_stage
  not_x_stage is = e.not_aside (subst (IsAside the_work) (sym is) (inl free_x))

  pub not_y_stage : q ≢ y_stage
  not_y_stage is = e.not_aside (subst (IsAside the_work) (sym is) (inl free_y))

  pub not_journal : q ≢ journal_place
  not_journal = e.not_journal

same_elsewhere : (extra : List (NameList × Node)) → ((q : NameList) → IsElsewhere the_work q → AllByRecursion (λ e. q ≢ e.0) extra)
    → (q : NameList) → IsElsewhere the_work q → content_at (with_nodes extra) q ≡ content_at the_work.tree q
same_elsewhere extra are q e = content_in (extra ++ nodes_before) q ∙ ap content_of (passes extra nodes_before q (are q e)) ∙ sym (content_in nodes_before q)

-- ---- between

-- where both files hold these contents
abbrev one : Option Content
one = Some (file (codes "one") 416)

abbrev new : Option Content
new = Some (file (codes "1") 416)

old_x : (image : Tree) → content_at image x_place ≡ one → IsOld the_work (x_place, codes "1") (content_at image x_place)
old_x image e = e ∙ sym (content_in nodes_before x_place)

old_y : (image : Tree) → content_at image y_place ≡ one → IsOld the_work (y_place, codes "1") (content_at image y_place)
old_y image e = e ∙ sym (content_in nodes_before y_place)

new_x : (image : Tree) → content_at image x_place ≡ new → IsNew the_work (x_place, codes "1") (content_at image x_place)
new_x image e = record { bytes = codes "one"; mode = 416; was = is_x; is = e }

new_y : (image : Tree) → content_at image y_place ≡ new → IsNew the_work (y_place, codes "1") (content_at image y_place)
new_y image e = record { bytes = codes "one"; mode = 416; was = is_y; is = e }

-- no journal, and both old
whole_old : (extra : List (NameList × Node)) → ((q : NameList) → IsElsewhere the_work q → AllByRecursion (λ e. q ≢ e.0) extra)
    → content_at (with_nodes extra) journal_place ≡ None → content_at (with_nodes extra) x_place ≡ one → content_at (with_nodes extra) y_place ≡ one → Between the_work (with_nodes extra)
whole_old extra are j x y = record {
  elsewhere = same_elsewhere extra are;
  state = inl (record { no_journal = j; files = inl (both_files (λ f. IsOld the_work f (content_at (with_nodes extra) f.0)) (old_x (with_nodes extra) x) (old_y (with_nodes extra) y)) });
}

whole_new : (extra : List (NameList × Node)) → ((q : NameList) → IsElsewhere the_work q → AllByRecursion (λ e. q ≢ e.0) extra)
    → content_at (with_nodes extra) journal_place ≡ None → content_at (with_nodes extra) x_place ≡ new → content_at (with_nodes extra) y_place ≡ new → Between the_work (with_nodes extra)
whole_new extra are j x y = record {
  elsewhere = same_elsewhere extra are;
  state = inl (record { no_journal = j; files = inr (both_files (λ f. IsNew the_work f (content_at (with_nodes extra) f.0)) (new_x (with_nodes extra) x) (new_y (with_nodes extra) y)) });
}

-- the journal with its stages
abbrev OldOrNew : Tree → Exchange → Type 0
OldOrNew image f = IsOld the_work f (content_at image f.0) ⊎ IsNew the_work f (content_at image f.0)

going : (extra : List (NameList × Node)) → ((q : NameList) → IsElsewhere the_work q → AllByRecursion (λ e. q ≢ e.0) extra)
    → content_at (with_nodes extra) journal_place ≡ Some (file (text_of the_lines) 416) → content_at (with_nodes extra) x_stage ≡ new → content_at (with_nodes extra) y_stage ≡ new
    → OldOrNew (with_nodes extra) (x_place, codes "1") → OldOrNew (with_nodes extra) (y_place, codes "1") → Between the_work (with_nodes extra)
unfolding parts_of
going extra are j sx sy x y = record {
  elsewhere = same_elsewhere extra are;
  state = inr (record {
    lines = the_lines;
    is_for = is_journal;
    journal = (416, j);
    stages = λ line f l has of. both_files (λ f. HoldsBytes f.1 (content_at (with_nodes extra) (stage_of line))) (at_stage line l) (at_stage line l) f has;
    files = both_files (OldOrNew (with_nodes extra)) x y;
  });
}
  where
    at_stage : (line : Line) → Contains the_lines line → HoldsBytes (codes "1") (content_at (with_nodes extra) (stage_of line))
    at_stage = both_lines (λ line. HoldsBytes (codes "1") (content_at (with_nodes extra) (stage_of line))) (416, sx) (416, sy)

pub before_is : Between the_work the_work.tree
before_is = whole_old [] (λ q e. tt) (content_in nodes_before journal_place) (content_in nodes_before x_place) (content_in nodes_before y_place)

pub one_stage_is : Between the_work one_stage
one_stage_is = whole_old (entry x_stage (file (codes "?") 0) 5 ∷ []) (λ q e. (not_x_stage q e, tt)) (content_in _ journal_place) (content_in _ x_place) (content_in _ y_place)

pub two_stages_is : Between the_work two_stages
two_stages_is = whole_old (x_staged ∷ y_staged ∷ []) (λ q e. (not_x_stage q e, (not_y_stage q e, tt))) (content_in _ journal_place) (content_in _ x_place) (content_in _ y_place)

pub named_journal_is : Between the_work named_journal
named_journal_is =
    let extra : List (NameList × Node) = x_staged ∷ y_staged ∷ the_journal ∷ [] in
    going extra (λ q e. (not_x_stage q e, (not_y_stage q e, (not_journal q e, tt)))) (content_in (extra ++ nodes_before) journal_place) (content_in (extra ++ nodes_before) x_stage) (content_in (extra ++ nodes_before) y_stage)
    (inl (old_x (with_nodes extra) (content_in (extra ++ nodes_before) x_place))) (inl (old_y (with_nodes extra) (content_in (extra ++ nodes_before) y_place)))

pub one_placed_is : Between the_work one_placed
one_placed_is =
    let extra : List (NameList × Node) = x_new ∷ x_staged ∷ y_staged ∷ the_journal ∷ [] in
    going extra (λ q e. (not_x q e, (not_x_stage q e, (not_y_stage q e, (not_journal q e, tt))))) (content_in (extra ++ nodes_before) journal_place) (content_in (extra ++ nodes_before) x_stage) (content_in (extra ++ nodes_before) y_stage)
    (inr (new_x (with_nodes extra) (content_in (extra ++ nodes_before) x_place))) (inl (old_y (with_nodes extra) (content_in (extra ++ nodes_before) y_place)))

pub two_placed_is : Between the_work two_placed
two_placed_is =
    let extra : List (NameList × Node) = x_new ∷ y_new ∷ x_staged ∷ y_staged ∷ the_journal ∷ [] in
    going extra (λ q e. (not_x q e, (not_y q e, (not_x_stage q e, (not_y_stage q e, (not_journal q e, tt)))))) (content_in (extra ++ nodes_before) journal_place) (content_in (extra ++ nodes_before) x_stage) (content_in (extra ++ nodes_before) y_stage)
    (inr (new_x (with_nodes extra) (content_in (extra ++ nodes_before) x_place))) (inr (new_y (with_nodes extra) (content_in (extra ++ nodes_before) y_place)))

pub removed_journal_is : Between the_work removed_journal
removed_journal_is =
    let extra : List (NameList × Node) = x_new ∷ y_new ∷ x_staged ∷ y_staged ∷ [] in
    whole_new extra (λ q e. (not_x q e, (not_y q e, (not_x_stage q e, (not_y_stage q e, tt))))) (content_in (extra ++ nodes_before) journal_place) (content_in (extra ++ nodes_before) x_place) (content_in (extra ++ nodes_before) y_place)

pub all_done_is : Between the_work all_done
all_done_is =
    let extra : List (NameList × Node) = x_new ∷ y_new ∷ [] in
    whole_new extra (λ q e. (not_x q e, (not_y q e, tt))) (content_in (extra ++ nodes_before) journal_place) (content_in (extra ++ nodes_before) x_place) (content_in (extra ++ nodes_before) y_place)
