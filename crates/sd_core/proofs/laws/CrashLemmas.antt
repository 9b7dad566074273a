-- What an image holds where at the start a crash leaves each place as it stands.
use Rattle.std.proofs.Common.{◌≡◌, ◌≢◌, ◌⊎◌, ℕ, Bool, true, false, List, refl, sym, ◌∙◌, ap, subst, inl, inr}
use Rattle.std.specs.Prelude.{Option, Some, None}
use Rattle.std.specs.Str.{bytes_eq}
use Rattle.std.specs.Cmp.Lexicographic.{bytes_decides}
use Rattle.std.proofs.lemmas.Option.{same_Some, none-some}
use Rattle.sd_io.specs.Tree.{NameList, Content, directory, link, file, other, Node, Tree, node_at, file_content, file_node}
use Rattle.sd_io.specs.Outcomes.{content_of, content_at}
use Rattle.sd_io.specs.Disk.{DiskState, MayLeave}
use Rattle.sd_io.specs.Crashes.{IsDurable}
use Rattle.sd_change.specs.Change.{Change, IsOne}
use Rattle.file_rewrite.specs.Rewritten.{IsNewFile, IsChangedFile}
use Rattle.many_files.specs.Files.{IsFreeBeside}
use Rattle.many_files.specs.Rewritten.{IsNewOne, IsChangedOne}
use Rattle.sd_core.specs.Selection.{IsChosenBelow, by_globs}
use Rattle.sd_core.specs.TreeCommand.{IsOldOrNewImage}
use Rattle.sd_core.specs.Crash.{IsOnMedium}

-- the content of what stands as a file
file_content_is : (content : Content) (bytes : List ℕ) (mode : ℕ) → file_content content ≡ Some (bytes, mode) → content ≡ file bytes mode
file_content_is directory bytes mode e = absurd (none-some (bytes, mode) e)
file_content_is (link target) bytes mode e = absurd (none-some (bytes, mode) e)
file_content_is (file b m) bytes mode e = ap (λ (f : List ℕ × ℕ). file f.0 f.1) (same_Some (b, m) (bytes, mode) e)
file_content_is other bytes mode e = absurd (none-some (bytes, mode) e)

content_is : (o : Option Node) (bytes : List ℕ) (mode : ℕ) → file_node o ≡ Some (bytes, mode) → content_of o ≡ Some (file bytes mode)
content_is None bytes mode e = absurd (none-some (bytes, mode) e)
content_is (Some node) bytes mode e = ap (λ (c : Content). Some c) (file_content_is node.content bytes mode e)

module _ (change : Change) (root : List ℕ) (globs : List (List ℕ)) (old : DiskState) (image : Tree) (medium : IsOnMedium old) where
  -- a file stands there, so no reserved name is free there
  not_free : (place : NameList) → IsChosenBelow old.tree root globs place → IsFreeBeside (IsChosenBelow old.tree root globs) old.tree place → ⊥
  not_free place chosen free =
      let is_file = chosen.2.is_file in
      none-some _ (sym (ap file_node free.2.free) ∙ is_file.3)

  pub chosen_old_or_new : IsOldOrNewImage change (by_globs root globs) old image → (place : NameList) → IsChosenBelow old.tree root globs place
      → (content_at image place ≡ content_at old.tree place)
      ⊎ ((content : Content) × (content_at image place ≡ Some content) × IsNewOne (IsChosenBelow old.tree root globs) change old.tree place content)
  chosen_old_or_new holds place chosen = elim (holds place) [
    | inl stood ↦ inl (medium place (content_at image place) stood)
    | inr (inl new) ↦ inr new
    | inr (inr free) ↦ absurd (not_free place chosen free)
  ]

  pub others_old : IsOldOrNewImage change (by_globs root globs) old image → (place : NameList) → (IsChosenBelow old.tree root globs place → ⊥)
      → (IsFreeBeside (IsChosenBelow old.tree root globs) old.tree place → ⊥) → content_at image place ≡ content_at old.tree place
  others_old holds place not_chosen not_beside = elim (holds place) [
    | inl stood ↦ medium place (content_at image place) stood
    | inr (inl (content, is, new)) ↦ absurd (not_chosen new.0)
    | inr (inr free) ↦ absurd (not_beside free)
  ]

  -- what a file's new content is, where its bytes stay
  same_content : (place : NameList) (content : Content) (n : IsNewFile change old.tree place content) → n.new_bytes ≡ n.bytes
      → content_at old.tree place ≡ Some content
  same_content place content n same =
      content_is (node_at old.tree place) n.bytes n.mode n.was ∙ ap (λ (b : List ℕ). Some (file b n.mode)) (sym same) ∙ ap (λ (c : Content). Some c) (sym n.content_is)

  -- then no new content of the file has other bytes
  none_changes : IsOne change → (place : NameList) (a b : Content) (m : IsChangedFile change old.tree place a) (n : IsNewFile change old.tree place b)
      → n.new_bytes ≡ n.bytes → ⊥
  none_changes is_one place a b m n same =
      let bytes : n.bytes ≡ m.bytes = ap (λ (f : List ℕ × ℕ). f.0) (same_Some (n.bytes, n.mode) (m.bytes, m.mode) (sym n.was ∙ m.was)) in
      let one : n.new_bytes ≡ m.new_bytes = (is_one m.bytes n.new_bytes m.new_bytes n.count m.count (subst (λ (x : List ℕ). change x n.new_bytes n.count) bytes n.new_bytes_are) m.new_bytes_are).0 in
      m.differ (sym one ∙ same ∙ bytes)

  changed : (place : NameList) (content : Content) (n : IsNewFile change old.tree place content) → n.new_bytes ≢ n.bytes → IsChangedFile change old.tree place content
  changed place content n differ = record {
    bytes = n.bytes;
    mode = n.mode;
    was = n.was;
    new_bytes = n.new_bytes;
    count = n.count;
    new_bytes_are = n.new_bytes_are;
    differ = differ;
    content_is = n.content_is;
  }

  module _ (is_one : IsOne change) (new : DiskState) (durable : IsDurable (IsChangedOne (IsChosenBelow old.tree root globs) change old.tree) old new) (leaves : MayLeave new image) where
    pub chosen_new : (place : NameList) (content : Content) → IsNewOne (IsChosenBelow old.tree root globs) change old.tree place content → content_at image place ≡ Some content
    chosen_new place content (chosen, n) = by (bytes_eq n.new_bytes n.bytes) refl
      where
        by : (same : Bool) → bytes_eq n.new_bytes n.bytes ≡ same → content_at image place ≡ Some content
        by true e =
            let same = (bytes_decides n.new_bytes n.bytes).0 e in
            let stood = durable.elsewhere place (λ c other. none_changes is_one place c content other.1 n same) (content_at image place) (leaves place) in
            medium place (content_at image place) stood ∙ same_content place content n same
        by false e =
            let differ : n.new_bytes ≢ n.bytes = λ same. (let yes : bytes_eq n.new_bytes n.bytes ≡ true = (bytes_decides n.new_bytes n.bytes).1 same in cc) in
            durable.there place content (chosen, changed place content n differ) (content_at image place) (leaves place)

    pub not_chosen_old : (place : NameList) → (IsChosenBelow old.tree root globs place → ⊥) → content_at image place ≡ content_at old.tree place
    not_chosen_old place not_chosen = medium place (content_at image place) (durable.elsewhere place (λ c other. not_chosen other.0) (content_at image place) (leaves place))
