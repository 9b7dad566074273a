use Rattle.std.proofs.Common.{◌≡◌, ◌+◌, ◌≤◌, ◌++◌, inr, ℕ, false, List, [], ◌∷◌, length, string_bytes, Contains, refl, sym, subst, arith, ap, ◌∙◌}
use Rattle.std.proofs.lemmas.List.{length-append}
use Rattle.std.proofs.lemmas.List.Elements.{Contains-push}
use Rattle.host_io.specs.declared.told.ToldEntry.{ToldEntry}
use Rattle.host_io.specs.Told.{name_of}
use Rattle.host_io.proofs.told.ToldLemmas.{name_of-last, Within, within_more, told_still, told_more}
use Rattle.host_io.proofs.told.Told.add.Goals as goal

-- names that grow hold the entries of before
still_within : (entries same : List ToldEntry) (names name more : List ℕ) → Within entries (length names) → same ≡ entries → more ≡ names ++ name → Within same (length more)
still_within entries same names name more within is grown entry among =
    let before : entry.end ≤ length names = within entry (rw is at among) in
    let grows : length more ≡ length names + length name = ap length grown ∙ length-append names name in
    omega arith

pub invariant_of-self-in-Break-branch-2 : goal.invariant_of-self-in-Break-branch-2
invariant_of-self-in-Break-branch-2 c = record {
  within = still_within _ _ _ _ _ c.args.self.now.within c.in_err-push.ensures.items (c.in_ok-extend_from_slice.ensures.items ∙ ap (λ (it : List ℕ). c.args.self.now.names.items ++ it) c.as_bytes.ensures.value);
}

pub returns-in_err-push-clause-no_more : goal.returns-in_err-push-clause-no_more
returns-in_err-push-clause-no_more c path told is =
    inr (told_still c.args.self.now _ c.args.name.now refl (c.in_ok-extend_from_slice.ensures.items ∙ ap (λ (it : List ℕ). c.args.self.now.names.items ++ it) c.as_bytes.ensures.value) c.in_err-push.ensures.items path told is)

pub invariant_of-self-2 : goal.invariant_of-self-2
invariant_of-self-2 c =
    let last : ToldEntry = record { start = c.len-start.result; end = c.len-end.result; meta = c.args.meta; is_asked = false } in
    let names : c.extend_from_slice.new.self.items ≡ c.args.self.now.names.items ++ c.as_bytes.result.now = c.in_ok-extend_from_slice.ensures.items in
    let grown : length c.extend_from_slice.new.self.items ≡ length c.args.self.now.names.items + length c.as_bytes.result.now = ap length names ∙ length-append c.args.self.now.names.items c.as_bytes.result.now in
    let all : Within (c.args.self.now.entries.items ++ last ∷ []) (length c.extend_from_slice.new.self.items) =
    within_more c.args.self.now.entries.items last (length c.args.self.now.names.items) (length c.extend_from_slice.new.self.items) c.args.self.now.within (omega arith) (omega (arith, c.len-end.ensures)) in
    record { within = subst (λ (it : List ToldEntry). Within it (length c.extend_from_slice.new.self.items)) (sym c.in_ok-push.ensures.items) all }

pub returns-clause-told : goal.returns-clause-told
returns-clause-told c =
    let last : ToldEntry = record { start = c.len-start.result; end = c.len-end.result; meta = c.args.meta; is_asked = false } in
    let names : c.extend_from_slice.new.self.items ≡ c.args.self.now.names.items ++ c.args.name.now = c.in_ok-extend_from_slice.ensures.items ∙ ap (λ (it : List ℕ). c.args.self.now.names.items ++ it) c.as_bytes.ensures.value in
    let grown : length c.extend_from_slice.new.self.items ≡ length c.args.self.now.names.items + length c.args.name.now = ap length names ∙ length-append c.args.self.now.names.items c.args.name.now in
    let name : name_of c.extend_from_slice.new.self.items last ≡ c.args.name.now =
    ap (λ (it : List ℕ). name_of it last) names ∙ name_of-last c.args.self.now.names.items c.args.name.now last (omega (arith, c.len-start.ensures)) (omega (arith, c.len-end.ensures)) in
    record {
      entry = last;
      is_entry = subst (λ (it : List ToldEntry). Contains it last) (sym c.in_ok-push.ensures.items) (Contains-push c.args.self.now.entries.items last);
      not_asked = refl;
      is_meta = refl;
      is_path = ap (λ (it : List ℕ). string_bytes c.args.self.now.folder ++ it) name;
    }

pub returns-clause-no_more : goal.returns-clause-no_more
returns-clause-no_more c path told is =
    let names : c.extend_from_slice.new.self.items ≡ c.args.self.now.names.items ++ c.args.name.now = c.in_ok-extend_from_slice.ensures.items ∙ ap (λ (it : List ℕ). c.args.self.now.names.items ++ it) c.as_bytes.ensures.value in
    let grown : length c.extend_from_slice.new.self.items ≡ length c.args.self.now.names.items + length c.args.name.now = ap length names ∙ length-append c.args.self.now.names.items c.args.name.now in
    told_more c.args.self.now _ c.args.name.now (record { start = c.len-start.result; end = c.len-end.result; meta = c.args.meta; is_asked = false })
    refl names c.in_ok-push.ensures.items (omega (arith, c.len-start.ensures)) (omega (arith, c.len-end.ensures)) path told is
