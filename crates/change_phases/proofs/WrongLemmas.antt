-- Wrong trees, refused.
use Rattle.std.proofs.Common.{◌≡◌, ◌≢◌, ℕ, List, [], ◌∷◌, ◌++◌, codes, refl, sym, ◌∙◌, ap, subst, inl, inr, lit<, arith, length, Contains}
use Rattle.std.specs.Prelude.{Option, Some, None, slice_index}
use Rattle.std.proofs.lemmas.Option.{same_Some}
use Rattle.sd_io.specs.Tree.{NameList, Content, directory, link, file, other, Node, Tree}
use Rattle.sd_io.specs.Paths.{parent_of, parts_of}
use Rattle.sd_io.specs.Outcomes.{content_at}
use Rattle.sd_io.specs.Examples.{entry}
use Rattle.file_exchange.specs.Reserved.{Free, reserved_name}
use Rattle.journal_text.specs.declared.line.Line.{Line}
use Rattle.journal_text.specs.Journal.{text_of}
use Rattle.change_phases.specs.Between.{IsElsewhere, HoldsBytes, Between}
use Rattle.change_phases.specs.Examples.{the_root, x_place, y_place, x_stage, journal_place, nodes_before, the_work, the_lines, x_new, y_new, x_staged, y_staged, the_journal, half_without_journal, stage_missing, other_stage, other_file, other_mode, another_file}
use Rattle.change_phases.proofs.TextLemmas.{same_lines}
use Rattle.change_phases.proofs.WorkLemmas.{same_last}
use Rattle.change_phases.proofs.ExampleLemmas.{content_in, has_x, has_y, is_x, is_journal, line_x, x_line, both_files}

-- the contents of one place
two_contents : (o : Option Content) (a b : Option Content) → o ≡ a → o ≡ b → a ≡ b
two_contents o a b e f = sym e ∙ f

-- the first byte of a file
abbrev first_byte : Option Content → ℕ
first_byte None = 0
first_byte (Some directory) = 0
first_byte (Some (link target)) = 0
first_byte (Some (file bytes mode)) = slice_index bytes 0
first_byte (Some other) = 0

pub half_is_not : Between the_work half_without_journal → ⊥
half_is_not b =
    let extra : List (NameList × Node) = x_new ∷ x_staged ∷ y_staged ∷ [] in
    elim b.state [
      | inl whole ↦ elim whole.files [
        | inl old ↦
            let e : Some (file (codes "1") 416) ≡ Some (file (codes "one") 416) = sym (content_in (extra ++ nodes_before) x_place) ∙ old (x_place, codes "1") has_x ∙ content_in nodes_before x_place in
            cc
        | inr new ↦
            let n = new (y_place, codes "1") has_y in
            let e : Some (file (codes "one") 416) ≡ Some (file (codes "1") n.mode) = sym (content_in (extra ++ nodes_before) y_place) ∙ n.is in
            cc
      ]
      | inr u ↦
          let e : None ≡ Some (file (text_of u.lines) u.journal.0) = sym (content_in (extra ++ nodes_before) journal_place) ∙ u.journal.1 in
          cc
    ]

-- where the journal of these lines stands, the first file's stage holds its new bytes
stage_holds : (image : Tree) → content_at image journal_place ≡ Some (file (text_of the_lines) 416) → Between the_work image → HoldsBytes (codes "1") (content_at image x_stage)
unfolding parts_of
stage_holds image stands b = elim b.state [
  | inl whole ↦
      let e : None ≡ Some (file (text_of the_lines) 416) = sym whole.no_journal ∙ stands in
      cc
  | inr u ↦
      let e : Some (file (text_of u.lines) u.journal.0) ≡ Some (file (text_of the_lines) 416) = sym u.journal.1 ∙ stands in
      let same : u.lines ≡ the_lines = same_lines u.lines the_lines u.is_for.are_lines is_journal.are_lines (cc) in
      u.stages line_x (x_place, codes "1") (subst (λ (ls : List Line). Contains ls line_x) (sym same) (0, lit< tt, refl)) has_x x_line
]

pub missing_is_not : Between the_work stage_missing → ⊥
missing_is_not b =
    let nodes : List (NameList × Node) = (y_staged ∷ the_journal ∷ []) ++ nodes_before in
    let held = stage_holds stage_missing (content_in nodes journal_place) b in
    let e : None ≡ Some (file (codes "1") held.0) = sym (content_in nodes x_stage) ∙ held.1 in
    cc

pub other_stage_is_not : Between the_work other_stage → ⊥
other_stage_is_not b =
    let nodes : List (NameList × Node) = (entry x_stage (file (codes "2") 416) 5 ∷ y_staged ∷ the_journal ∷ []) ++ nodes_before in
    let held = stage_holds other_stage (content_in nodes journal_place) b in
    let e : Some (file (codes "2") 416) ≡ Some (file (codes "1") held.0) = sym (content_in nodes x_stage) ∙ held.1 in
    let first : 50 ≡ 49 = ap first_byte e in
    absurd (omega (arith, first))

pub other_file_is_not : Between the_work other_file → ⊥
other_file_is_not b =
    let nodes : List (NameList × Node) = (entry x_place (file (codes "on") 416) 3 ∷ x_staged ∷ y_staged ∷ the_journal ∷ []) ++ nodes_before in
    elim b.state [
      | inl whole ↦
          let e : Some (file (text_of the_lines) 416) ≡ None = sym (content_in nodes journal_place) ∙ whole.no_journal in
          cc
      | inr u ↦ elim (u.files (x_place, codes "1") has_x) [
        | inl old ↦
            let e : Some (file (codes "on") 416) ≡ Some (file (codes "one") 416) = sym (content_in nodes x_place) ∙ old ∙ content_in nodes_before x_place in
            cc
        | inr new ↦
            let e : Some (file (codes "on") 416) ≡ Some (file (codes "1") new.mode) = sym (content_in nodes x_place) ∙ new.is in
            cc
      ]
    ]

two_modes : (mode : ℕ) → 0 ≡ mode → mode ≡ 416 → ⊥
two_modes mode a b = absurd (omega (arith, a, b))

pub other_mode_is_not : Between the_work other_mode → ⊥
other_mode_is_not b =
    let nodes : List (NameList × Node) = (entry x_place (file (codes "1") 0) 7 ∷ y_new ∷ []) ++ nodes_before in
    elim b.state [
      | inl whole ↦ elim whole.files [
        | inl old ↦
            let e : Some (file (codes "1") 0) ≡ Some (file (codes "one") 416) = sym (content_in nodes x_place) ∙ old (x_place, codes "1") has_x ∙ content_in nodes_before x_place in
            cc
        | inr new ↦
            let n = new (x_place, codes "1") has_x in
            let e : Some (file (codes "1") 0) ≡ Some (file (codes "1") n.mode) = sym (content_in nodes x_place) ∙ n.is in
            let zero_is : 0 ≡ n.mode = cc in
            let was : Some (n.bytes, n.mode) ≡ Some (codes "one", 416) = sym n.was ∙ is_x in
            let mode_is : n.mode ≡ 416 = ap (λ (p : List ℕ × ℕ). p.1) (same_Some (n.bytes, n.mode) (codes "one", 416) was) in
            two_modes n.mode zero_is mode_is
      ]
      | inr u ↦
          let e : None ≡ Some (file (text_of u.lines) u.journal.0) = sym (content_in nodes journal_place) ∙ u.journal.1 in
          cc
    ]

abbrev z_place : NameList
z_place = codes "t" ∷ codes "z" ∷ []

z_elsewhere : IsElsewhere the_work z_place
z_elsewhere = record {
  not_journal = λ e. absurd (omega (arith, ap length (same_last the_root the_root (codes "z") (codes ".sd-journal") e)));
  no_file = both_files (λ f. z_place ≢ f.0) (λ e. other_letter 120 (λ h. omega arith) (same_last the_root the_root (codes "z") (codes "x") e)) (λ e. other_letter 121 (λ h. omega arith) (same_last the_root the_root (codes "z") (codes "y") e));
  not_aside = λ a. elim a [ inl free ↦ never the_root free | inr (f, has, free) ↦ never (parent_of f.0) free ];
}
  where
    other_letter : (b : ℕ) → 122 ≢ b → codes "z" ≢ b ∷ []
    other_letter b n e = n (cc)

    never : (folder : NameList) → Free the_work.tree folder z_place → ⊥
    never folder free = absurd (omega (arith, ap length (same_last the_root folder (codes "z") (reserved_name free.reserved.0) free.reserved.2)))

pub another_is_not : Between the_work another_file → ⊥
another_is_not b =
    let nodes : List (NameList × Node) = (entry z_place (file [] 416) 7 ∷ []) ++ nodes_before in
    let e : Some (file [] 416) ≡ None = sym (content_in nodes z_place) ∙ b.elsewhere z_place z_elsewhere ∙ content_in nodes_before z_place in
    cc
