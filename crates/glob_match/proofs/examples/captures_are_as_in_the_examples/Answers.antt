use Rattle.std.proofs.Common.{◌≡◌, ◌≢◌, ℕ, ◌+◌, ◌≤◌, List, [], ◌∷◌, codes, slice_get, Some, inl, inr, refl, arith}
use lib.Utf8.{encode}
use Rattle.glob_match.specs.declared.piece.Single.TheVariants.{AnyCharacter}
use Rattle.glob_match.specs.declared.piece.Piece.TheVariants.{One, AnyRun, AnyDepth}
use Rattle.glob_match.specs.Pieces.{Pieces, Options}
use Rattle.glob_match.specs.Pieces.Pieces.{no_pieces, piece, brace}
use Rattle.glob_match.specs.Pieces.Options.{no_options, option}
use Rattle.glob_match.specs.Takes.{PieceTakes, IsAfterSeparator}
use Rattle.glob_match.specs.Captures.{between, LeadsOn, IsEnd}
use Rattle.glob_match.specs.Examples.{character}
use Rattle.glob_match.proofs.examples.DerivationLemmas.{Derives, not_taken, leads_not, leads, by_nothing, by_piece, by_character, by_brace, by_this_option, by_other_letter, has_captures, no_separator, pass}
use Rattle.glob_match.proofs.examples.captures_are_as_in_the_examples.Goals as goal

pub returns-clause-one_character : goal.returns-clause-one_character
unfolding encode
returns-clause-one_character c =
    has_captures (codes "?") (233 ∷ []) (piece (One AnyCharacter) no_pieces) (between 0 1 ∷ []) refl refl (by_piece 1 (233, refl, (λ e. cc), refl) (λ n takes leads. omega (arith, takes.3)) (by_nothing refl))

pub returns-clause-second_option : goal.returns-clause-second_option
unfolding encode
returns-clause-second_option c =
    has_captures (codes "{a*,b?}") (codes "bc") (brace (option (character 97 (piece AnyRun no_pieces)) (option (character 98 (piece (One AnyCharacter) no_pieces)) no_options)) no_pieces) (between 0 2 ∷ between 0 0 ∷ between 1 2 ∷ []) refl refl
    (by_brace 2 (by_other_letter 98 refl (λ e. absurd (omega (arith, e))) (by_this_option (by_character refl (by_piece 2 (99, refl, (λ e. cc), refl) (λ n takes leads. omega (arith, takes.3)) (by_nothing (2, refl, refl)))))) (by_nothing refl))

pub returns-clause-brace_not_taken : goal.returns-clause-brace_not_taken
unfolding encode
returns-clause-brace_not_taken c =
    let inner = option (character 98 no_pieces) (option (character 99 no_pieces) no_options) in
    has_captures (codes "{a{b,c},d?}") (codes "dx") (brace (option (character 97 (brace inner no_pieces)) (option (character 100 (piece (One AnyCharacter) no_pieces)) no_options)) no_pieces) (between 0 2 ∷ between 0 0 ∷ between 1 2 ∷ []) refl refl
    (by_brace 2 (by_other_letter 100 refl (λ e. absurd (omega (arith, e))) (by_this_option (by_character refl (by_piece 2 (120, refl, (λ e. cc), refl) (λ n takes leads. omega (arith, takes.3)) (by_nothing (2, refl, refl)))))) (by_nothing refl))

pub returns-clause-no_folder : goal.returns-clause-no_folder
unfolding encode
returns-clause-no_folder c =
    has_captures (codes "a/**/b") (codes "a/b") (character 97 (character 47 (piece AnyDepth (character 98 no_pieces)))) (between 2 2 ∷ []) refl refl
    (by_character refl (by_character refl (by_piece 2 (omega arith, omega arith, inr (omega arith, refl)) (λ n takes leads. takes.0) (by_character refl (by_nothing refl)))))

-- the places between `some/` and `some/path/`, and between `some/path/a/` and `some/path/a/to/the/`, are passed by a star token
abbrev path : List ℕ
path = codes "some/path/a/to/the/needle.txt"

-- what stands in a place of the path is no `/`, so the place after it is no folder's
after_letter : (place letter : ℕ) → slice_get path place ≡ Some letter → letter ≢ 47 → ¬ (IsAfterSeparator path (place + 1))
after_letter place letter there other = no_separator path place letter there other

abbrev after_n : Pieces
after_n = character 101 (character 101 (character 100 (character 108 (character 101 (character 46 (character 116 (character 120 (character 116 no_pieces))))))))

abbrev needle : Pieces
needle = character 110 after_n

abbrev folder : Pieces
folder = character 47 (piece AnyDepth needle)

abbrev names : Options
names = option (character 97 no_pieces) (option (character 98 no_pieces) (option (character 99 no_pieces) no_options))

-- a place that a star token with its `/` leads to, and from which others go on
abbrev LeadsFrom : ℕ → Pieces → ℕ → Type 0
LeadsFrom from others n = PieceTakes AnyDepth path from n × LeadsOn others path (IsEnd path) n

first_folder : (n : ℕ) → LeadsFrom 5 (brace names folder) n → 10 ≤ n
first_folder n h =
    let at_six = pass (LeadsFrom 5 (brace names folder)) 5 n h h.0.0 (λ k. elim k.1.1.1 [
      | inl a ↦ not_taken no_pieces path 5 k.1.1.0 112 97 refl (λ e. absurd (omega (arith, e))) a
      | inr (inl b) ↦ not_taken no_pieces path 5 k.1.1.0 112 98 refl (λ e. absurd (omega (arith, e))) b
      | inr (inr (inl d)) ↦ not_taken no_pieces path 5 k.1.1.0 112 99 refl (λ e. absurd (omega (arith, e))) d
      | inr (inr (inr none)) ↦ absurd none
    ]) in
    let at_seven = pass (LeadsFrom 5 (brace names folder)) 6 n h at_six (λ k. after_letter 5 112 refl (λ e. absurd (omega (arith, e))) k.0.2) in
    let at_eight = pass (LeadsFrom 5 (brace names folder)) 7 n h at_seven (λ k. after_letter 6 97 refl (λ e. absurd (omega (arith, e))) k.0.2) in
    let at_nine = pass (LeadsFrom 5 (brace names folder)) 8 n h at_eight (λ k. after_letter 7 116 refl (λ e. absurd (omega (arith, e))) k.0.2) in
    pass (LeadsFrom 5 (brace names folder)) 9 n h at_nine (λ k. after_letter 8 104 refl (λ e. absurd (omega (arith, e))) k.0.2)

-- no needle stands at another letter
no_needle : (place letter : ℕ) → slice_get path place ≡ Some letter → letter ≢ 110 → ¬ (LeadsFrom 12 needle place)
no_needle place letter there other k = leads_not after_n path (IsEnd path) place letter 110 there other k.1

second_folder : (n : ℕ) → LeadsFrom 12 needle n → 19 ≤ n
second_folder n h =
    let thirteen = pass (LeadsFrom 12 needle) 12 n h h.0.0 (no_needle 12 116 refl (λ e. absurd (omega (arith, e)))) in
    let fourteen = pass (LeadsFrom 12 needle) 13 n h thirteen (no_needle 13 111 refl (λ e. absurd (omega (arith, e)))) in
    let fifteen = pass (LeadsFrom 12 needle) 14 n h fourteen (no_needle 14 47 refl (λ e. absurd (omega (arith, e)))) in
    let sixteen = pass (LeadsFrom 12 needle) 15 n h fifteen (no_needle 15 116 refl (λ e. absurd (omega (arith, e)))) in
    let seventeen = pass (LeadsFrom 12 needle) 16 n h sixteen (no_needle 16 104 refl (λ e. absurd (omega (arith, e)))) in
    let eighteen = pass (LeadsFrom 12 needle) 17 n h seventeen (no_needle 17 101 refl (λ e. absurd (omega (arith, e)))) in
    pass (LeadsFrom 12 needle) 18 n h eighteen (no_needle 18 47 refl (λ e. absurd (omega (arith, e))))

found_needle : Derives needle path (IsEnd path) 19 29 []
found_needle = by_character refl (by_character refl (by_character refl (by_character refl (by_character refl (by_character refl (by_character refl (by_character refl (by_character refl (by_character refl (by_nothing refl))))))))))

found_folder : Derives folder path (IsEnd path) 11 29 (between 12 18 ∷ [])
found_folder = by_character refl (by_piece 19 (omega arith, omega arith, inr (omega arith, refl)) (λ n takes leads. second_folder n (takes, leads)) found_needle)

pub returns-clause-folders : goal.returns-clause-folders
unfolding encode
returns-clause-folders c =
    has_captures (codes "some/**/{a,b,c}/**/needle.txt") path (character 115 (character 111 (character 109 (character 101 (character 47 (piece AnyDepth (brace names folder))))))) (between 5 9 ∷ between 10 11 ∷ between 12 18 ∷ []) refl refl
    (by_character refl (by_character refl (by_character refl (by_character refl (by_character refl (by_piece 10 (omega arith, omega arith, inr (omega arith, refl)) (λ n takes leads. first_folder n (takes, leads))
    (by_brace 11 (by_this_option (by_character refl (by_nothing (leads found_folder)))) found_folder)))))))
