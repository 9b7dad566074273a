use Rattle.std.proofs.Common.{◌≡◌, ◌≤◌, ◌++◌, ℕ, List, length, string_bytes, refl, sym, subst, ap, ◌∙◌}
use Rattle.std.proofs.lemmas.List.Sorted.{Contains-permutation, IsPermutation-sym}
use Rattle.host_io.specs.Told.{name_of}
use Rattle.host_io.proofs.told.ToldLemmas.{within_set, told_before, told_reordered, unasked_before, one_less, not_other, read_there, path_of_read}
use Rattle.host_io.proofs.told.Told.take.Goals as goal

pub returns-in_err-place-clause-no_more : goal.returns-in_err-place-clause-no_more
returns-in_err-place-clause-no_more c = told_reordered _ _ c.place_of.ensures.folder c.place_of.ensures.names c.place_of.ensures.entries

pub returns-in_err-entry-clause-no_more : goal.returns-in_err-entry-clause-no_more
returns-in_err-entry-clause-no_more c = told_reordered _ _ c.place_of.ensures.folder c.place_of.ensures.names c.place_of.ensures.entries

pub returns-then-entry-clause-no_more : goal.returns-then-entry-clause-no_more
returns-then-entry-clause-no_more c = told_reordered _ _ c.place_of.ensures.folder c.place_of.ensures.names c.place_of.ensures.entries

pub invariant_of-self : goal.invariant_of-self
invariant_of-self c =
    let there = read_there c.deref.result.now c.place_of.new.self.entries.items c.in_ok-place.place c.in_ok-entry.field-0.now c.deref.ensures.value c.in_ok-entry.ensures.lookup.3.0 c.in_ok-entry.ensures.lookup.1 in
    record {
      within = within_set c.place_of.new.self.entries.items c.in_ok-place.place _ (length c.place_of.new.self.names.items) there.0 c.place_of.new.self.within
          (c.place_of.new.self.within c.in_ok-entry.field-0.now (c.in_ok-place.place, there.0, there.1));
    }

pub returns-clause-answer : goal.returns-clause-answer
returns-clause-answer c =
    let there = read_there c.deref.result.now c.place_of.new.self.entries.items c.in_ok-place.place c.in_ok-entry.field-0.now c.deref.ensures.value c.in_ok-entry.ensures.lookup.3.0 c.in_ok-entry.ensures.lookup.1 in
    let cut = c.in_ok-strip_prefix.ensures.cases in
    let names : c.as_slice.result.now ≡ c.place_of.new.self.names.items = c.as_slice.ensures.value in
    let ends : c.in_ok-entry.field-0.now.end ≤ length c.as_slice.result.now =
    subst (λ (it : List ℕ). c.in_ok-entry.field-0.now.end ≤ length it) (sym names) (c.place_of.new.self.within c.in_ok-entry.field-0.now (c.in_ok-place.place, there.0, there.1)) in
    let name : name_of c.as_slice.result.now c.in_ok-entry.field-0.now ≡ c.as_bytes-name.result.now = sym (c.name.ensures ends) ∙ not_other _ _ c.if-ne.ensures in
    record {
      entry = c.in_ok-entry.field-0.now;
      is_entry = Contains-permutation c.place_of.new.self.entries.items c.args.self.now.entries.items c.in_ok-entry.field-0.now
          (IsPermutation-sym c.args.self.now.entries.items c.place_of.new.self.entries.items c.place_of.ensures.entries) (c.in_ok-place.place, there.0, there.1);
      not_asked = c.if-entry.false;
      is_meta = refl;
      is_path = path_of_read (string_bytes c.args.self.now.folder) c.args.self.now.names.items c.as_slice.result.now c.as_bytes-name.result.now c.as_str.result.now c.in_ok-strip_prefix.field-0.now
          c.args.path.now c.in_ok-entry.field-0.now c.as_str.ensures.value (cut.1.1 ∙ ap (λ (it : List ℕ). c.as_str.result.now ++ it) (sym cut.2)) c.as_bytes-name.ensures.value
          (rw c.place_of.ensures.names at names) name;
    }

pub returns-clause-no_more : goal.returns-clause-no_more
returns-clause-no_more c =
    let there = read_there c.deref.result.now c.place_of.new.self.entries.items c.in_ok-place.place c.in_ok-entry.field-0.now c.deref.ensures.value c.in_ok-entry.ensures.lookup.3.0 c.in_ok-entry.ensures.lookup.1 in
    told_before c.args.self.now _ c.place_of.ensures.folder c.place_of.ensures.names
    (unasked_before c.args.self.now.entries.items c.place_of.new.self.entries.items c.in_ok-place.place _ c.place_of.ensures.entries there.0 refl)

pub returns-clause-once : goal.returns-clause-once
returns-clause-once c =
    let there = read_there c.deref.result.now c.place_of.new.self.entries.items c.in_ok-place.place c.in_ok-entry.field-0.now c.deref.ensures.value c.in_ok-entry.ensures.lookup.3.0 c.in_ok-entry.ensures.lookup.1 in
    one_less c.args.self.now.entries.items c.place_of.new.self.entries.items c.in_ok-place.place c.in_ok-entry.field-0.now _ c.place_of.ensures.entries there.0 there.1 c.if-entry.false refl
