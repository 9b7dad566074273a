use Rattle.std.proofs.Common.{List, [], ◌∷◌, Some, None, refl, inl, inr}
use Rattle.std.specs.Prelude.{codes}
use Rattle.walk_rest.specs.Plan.{Plan, done}
use Rattle.walk_rest.specs.Rest.{Fault, Part, none, cut, come, leave, past_gone, past_kept, all_kept}
use Rattle.walk_rest.specs.Examples.{foo_folder, both_left, b_left, a_hidden, opening, listing, at_a}
use Rattle.walk_rest.proofs.examples.StepLemmas.{comes_above, cuts_above, gives_above}
use Rattle.walk_rest.proofs.examples.steps_are_as_in_the_examples.Goals as goal

root : Part
root = record { folder = None; first = None; left = done; faults = [] }

foo : Plan → List Fault → Part
foo left faults = record { folder = Some foo_folder; first = None; left = left; faults = faults }

pub returns : goal.returns
unfolding root foo
returns c = record {
  entered = record { mid = _; moves = none; answers = inr (record { below = []; part = _; was = refl; faultless = refl; comes = (refl, refl) }) };
  entry = record { mid = _; moves = none; answers = inr (comes_above root (foo both_left []) _ _ refl (refl, refl)) };
  hidden = record { mid = _; moves = come none (comes_above root (foo a_hidden []) _ _ refl (refl, refl)); answers = inr (comes_above root (foo b_left []) _ _ refl (refl, refl)) };
  ended = record {
    mid = _;
    moves = leave {mid = root ∷ []} (leave none (record { part = foo done []; was = refl; spent = record { first = refl; left = refl; faults = refl } })) (record { part = root; was = refl; spent = record { first = refl; left = refl; faults = refl } });
    answers = (refl, refl);
  };
  not_opened = record { mid = _; moves = cut none (cuts_above root (foo both_left []) done opening (inl (refl, refl))); answers = inl (gives_above root (foo done (opening ∷ [])) opening [] refl) };
  not_listed = record { mid = _; moves = cut none (cuts_above root (foo both_left []) b_left listing (inr (inl (refl, past_gone (past_kept all_kept))))); answers = inl (gives_above root (foo b_left (listing ∷ [])) listing [] refl) };
  list_broken = record { mid = _; moves = cut none (cuts_above root (foo both_left []) done listing (inr (inl (refl, past_gone (past_gone all_kept))))); answers = inl (gives_above root (foo done (listing ∷ [])) listing [] refl) };
  entry_failed = record { mid = _; moves = cut none (cuts_above root (foo both_left []) b_left at_a (inr (inr (codes "foo/a", refl, (refl, refl))))); answers = inl (gives_above root (foo b_left (at_a ∷ [])) at_a [] refl) };
  twice = record {
    mid = _;
    moves = cut {mid = root ∷ foo b_left (listing ∷ []) ∷ []} (cut none (cuts_above root (foo both_left []) b_left listing (inr (inl (refl, past_gone (past_kept all_kept))))))
        (cuts_above root (foo b_left (listing ∷ [])) done listing (inr (inl (refl, past_gone all_kept))));
    answers = inl (gives_above root (foo done (listing ∷ listing ∷ [])) listing (listing ∷ []) refl);
  };
  later = record { mid = _; moves = none; answers = inl (gives_above root (foo b_left (listing ∷ [])) listing [] refl) };
  skipped = (foo both_left (listing ∷ []), refl);
  root_stays = refl;
}
