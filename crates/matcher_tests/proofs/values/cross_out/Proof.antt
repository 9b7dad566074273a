-- The haystack is lent again, and its span out of the loan. What the span ends as settles the loan, and so the haystack.
use Prim.Native.Nat.{ℕ, ◌<◌, ◌≤◌, ◌^◌}
use mathlib.Core.Path.{◌≡◌, refl, sym, ap, ◌∙◌}
use mathlib.Core.List.{List, [], ◌∷◌}
use lib.ListN.{length}
use base.Fraction.{full_share}
use base.Logic.{emp, id⊢}
use base.Stored.{coded_list}
use base.Fml.{GName, ftrue, flft, flent, fobs, fres}
use mir.Syntax.{named}
use mir.Val.{Val, vunit}
use contract.Monad.{fact, fact_i}
use contract.Running.{tables}
use types.Kit.{‵, raw, ◌⊛◌, some, later, ◌$◌, ◌∵◌, !, qed, done, move, keep, drop, split, split3, join, fsplit, fsplit3, fjoin, feq_i, feq_l, use0, use1, use2, use3, pick, await, rewrite, suffices, group}
use types.Part.{whole, sub, agg}
use types.Run.{enter, addr, of_opd, unit_lit, from, hop, stop, fld, and_then, no_more, returns}
use types.ByLocal.{alloc_all, pass_all, free_all, look_at, look_in_at, get, get_in, sets, lands_as}
use types.Mut.{open_ref, close_ref}
use types.SemTy.{Arr}
use types.Tokens.{lft_new, lft_end, name_done}
use denote.Array.{Array}
use denote.Builtin.{u8, unit, RefOf}
use denote.Exit.{yes}
use denote.Follow.{follows}
use denote.FollowSlice.{heres_id, followed_slice}
use denote.Laws.{Is, shows}
use denote.Lend.{Held, lends_slice, slice_back}
use denote.Memory.{mem}
use denote.RattleType.{owns}
use denote.Ref.{MutBor, ShrRef, shr_vals, shr_Tells}
use denote.Signature.{plain}
use denote.Slice.{MutSlice, Room, slice_val, mut_slice_vals, mut_slice_Tells, finally, res-finally}
use denote.Steps.{nothing, heard, peeks, only}
use denote.Triple.Call.{calls_at}
use denote.Triple.Clauses.{Lasts, lasts}
use denote.Triple.Spec.{triple_of}
use denote.Triple.Table.{framed}
use denote.Triple.Walked.{Stays, walk_of, says, stay_dropped, gave_slice, Goes-dropped, Goes-gave_slice, ends_at}
use Rattle.std.proofs.raw_atomic.Walks.{proved}
use Rattle.std.specs.List.{splice}
use Rattle.std.specs.Prelude.{replicate, slice_range}
use Rattle.grep_matcher.specs.contracts.span.Match.{the_row as R}
use Rattle.matcher_tests.specs.contracts.values.cross_out as f
use Rattle.matcher_tests.proofs.values.cross_out.Statement.{statement}
use Rattle.matcher_tests.proofs.values.cross_out.Code as code
use Rattle.grep_matcher.specs.contracts.span.Match.slice_of_mut as g
use Rattle.grep_matcher.proofs.span.Match.slice_of_mut.Met as g-thm
use Rattle.matcher_tests.specs.contracts.values.cross as h
use Rattle.matcher_tests.proofs.values.cross.Met as h-thm

abbrev stayed : Stays f.ended.signature.params f.ended.kept
stayed = (stay_dropped (RefOf (0 ∷ []) tt (plain (λ _. R)) (λ _. tt)) yes, (gave_slice (1 ∷ []) tt (plain (λ _. u8)), tt))

pub cross_out_spec : {M : Type 1} → statement M
cross_out_spec 𝓤 𝓛 𝓜 𝓡 wired =
    let c = f.clauses 𝓛 𝓜.mem 𝓡.returns in let W = walk_of 𝓛 f.ended stayed c in
    proved 𝓛 f.ended stayed c 𝓜 𝓡 (Goes-dropped 𝓛 2 (RefOf (0 ∷ []) tt (plain (λ _. R)) (λ _. tt)) yes (λ κs x w. refl), (Goes-gave_slice 𝓛 2 1 tt (plain (λ _. u8)), tt))
    f.Key.name code.function (code.unfolded 𝓤 𝓛.H 𝓜 𝓡 wired)
    (λ κs. (shr_vals, (mut_slice_vals, tt))) (λ κs. (shr_Tells (named 0) κs.0 R, (mut_slice_Tells (named 1) κs.1.0 u8, tt))) (λ κs qs bounds a _ are.
    let κ = κs.1.0 in let q = qs.1.0 in let self = a.0 in let start = self.now.start in let end = self.now.end in let haystack = a.1.0 in
    let b = haystack.ref_ptr.0 in let o = haystack.ref_ptr.1 in let γ = haystack.ghost_name in let xs = haystack.now in
    let fits_len : length xs < 2 ^ 64 = are.1.0.0.1.0 in let room : Room u8 (length xs) = are.1.0.0.1 in
    let y : W.Ghost = ((κs, qs, bounds, a, (shr_vals self, (mut_slice_vals haystack, tt))), tt) in
    qed 𝓛 (((‵ (flft κs.0 qs.0) ⊛ ‵ (flft κ q) ⊛ ‵ ftrue) ⊛ ‵ (owns (ShrRef (named 0) κs.0 R ∷ MutSlice (named 1) κ u8 ∷ []) a y.0.4)) ∷ raw (fact 𝓤 (end ≤ length xs)) ∷ []) ∵
    move ! (1 ∷ []) $ heard ! _ (λ within. split ! $ split3 ! $ move ! (3 ∷ []) $ fsplit ! $ move ! (1 ∷ []) $ fsplit ! $ fsplit3 ! $ keep ! (1 ∷ 2 ∷ 6 ∷ 4 ∷ 5 ∷ []) $
    -- [the haystack's name, its borrow and token; self; self's token]
    enter ! _ _ _ _ _ $ alloc_all ! (λ l. pass_all ! refl ((tt, tt), ((tt, (tt, (record { fits = fits_len }, tt))), tt)) $
    sets ! (addr ! (from ! (fld ! refl (hop ! (look_in_at ! 2 (sub ! 0 refl (whole !))) (stop !))))) refl (tt, tt) $
    sets ! (agg ! (and_then ! (get ! refl) (and_then ! (get_in ! (fld ! refl (stop !)) (sub ! 1 refl (whole !))) (no_more !)))) refl (tt, (tt, (record { fits = fits_len }, tt))) $
    rewrite ! 0 (λ (l : List ℕ). ‵ (fobs γ ((coded_list u8.coded).code l))) (heres_id u8 xs) refl $ open_ref ! tt (Arr (mem u8) (length xs)) {b = b} {o = o} $ fsplit ! $ drop ! $
    -- [the haystack's bytes; its borrow, open, in three entries; self; self's token]
    lft_new ! tt (λ α. move ! (1 ∷ []) $
    use1 𝓛 (later (some (λ (δ : GName). ‵ ((MutSlice (named 1) (α ∷ []) u8).own_val (record { ref_ptr = (b, o); ghost_name = δ; now = xs }) (slice_val (b, o) (length xs) ∷ [])) ⊛ ‵ (flent (α ∷ []) (Held u8 (length xs) b o δ)))))
    (lends_slice 𝓛 u8 (named 1) (α ∷ []) xs b o room) $ await ! tt $ pick ! (λ δ. split ! $
    -- [the loan; the lender's part; its token; the haystack's borrow, open; self; self's token]
    let G = triple_of 𝓛 g.signature (g.spec 𝓛 𝓜.mem 𝓡.returns) in
    let loan : MutBor (List ℕ) = record { ref_ptr = (b, o); ghost_name = δ; now = xs } in
    let z : G.Ghost = (((κs.0, (α ∷ [], tt)), (qs.0, (full_share, tt)), tt, (self, (loan, tt)), (shr_vals self, (mut_slice_vals loan, tt))), tt) in
    nothing ! $ move ! (1 ∷ 0 ∷ []) $ join ! $ move ! (6 ∷ 0 ∷ []) $ join ! $ nothing ! $ move ! (3 ∷ 0 ∷ []) $ join ! $ move ! (6 ∷ 0 ∷ []) $ join ! $ join ! $
    use0 𝓛 (raw (fact 𝓤 (end ≤ length xs))) (fact_i 𝓤 _ (emp 𝓤) within) $ move ! (1 ∷ 0 ∷ []) $ use2 𝓛 (raw (G.pre z)) (id⊢ 𝓤 _) $
    calls_at ! (framed 𝓤 𝓛.H 𝓜 (tables 𝓤 𝓛.H 𝓜 𝓡 𝓡.env)) G (g-thm.met 𝓤 𝓛 𝓜 𝓡 (code.calls-grep_matcher::span::Match::slice_of_mut 𝓡.env wired)) z
    (and_then ! (get ! refl) (and_then ! (get ! refl) (no_more !))) (λ v.
    use1 𝓛 (later (some (λ (r : MutBor (List ℕ)). ((‵ (flft κs.0 qs.0) ⊛ ‵ (flft (α ∷ []) full_share) ⊛ ‵ ftrue) ⊛ ‵ ((MutSlice (named 1) (α ∷ []) u8).own_val r (v ∷ []))) ⊛
    some (λ (ws : Lasts g.ended z.0.0 z.0.3). ‵ (lasts g.ended z.0.0 z.0.3 ws) ⊛ ‵ (follows (Array u8 0) (Array u8 0) δ r.ghost_name (splice xs start end)) ⊛ raw (fact 𝓤 (r.now ≡ slice_range xs start end)))))) (id⊢ 𝓤 _) $
    await ! tt $ pick ! (λ r. split ! $ split ! $ split3 ! $
    move ! (4 ∷ []) $ pick ! (λ ws. split3 ! $ move ! (2 ∷ []) $ heard ! _ (λ is_span. drop ! $
    -- [what the loan ends as; self's token; the loan's token; the span; the lender's part; the haystack's borrow, open]
    let Span = MutSlice (named 1) (α ∷ []) u8 in
    move ! (4 ∷ []) $ peeks ! Span (Is Span) (shows 𝓛 Span) r (v ∷ []) (λ is. let value = is.0.0 in
    rewrite ! 0 (λ (vs : List Val). ‵ (Span.own_val r vs)) value refl $ lands_as ! (ap only value) refl (tt, (tt, (record { fits = is.0.1.0 }, tt))) $
    let K = triple_of 𝓛 h.signature (h.spec 𝓛 𝓜.mem 𝓡.returns) in
    let k : K.Ghost = (((α ∷ [], tt), (full_share, tt), tt, (r, tt), (mut_slice_vals r, tt)), tt) in
    nothing ! $ move ! (1 ∷ 0 ∷ []) $ join ! $ nothing ! $ move ! (4 ∷ 0 ∷ []) $ join ! $ join ! $ nothing ! $ move ! (1 ∷ 0 ∷ []) $ use2 𝓛 (raw (K.pre k)) (id⊢ 𝓤 _) $
    calls_at ! (framed 𝓤 𝓛.H 𝓜 (tables 𝓤 𝓛.H 𝓜 𝓡 𝓡.env)) K (h-thm.met 𝓤 𝓛 𝓜 𝓡 (code.calls-matcher_tests::values::cross 𝓡.env wired)) k (and_then ! (get ! refl) (no_more !)) (λ v'.
    use1 𝓛 (later (some (λ (u : Unit {0}). ((‵ (flft (α ∷ []) full_share) ⊛ ‵ ftrue) ⊛ ‵ (unit.own_val u (v' ∷ []))) ⊛
    some (λ (us : List ℕ × Unit {0}). ‵ (lasts h.ended k.0.0 k.0.3 us) ⊛ raw (fact 𝓤 (us.0 ≡ replicate (length r.now) 120)))))) (id⊢ 𝓤 _) $
    await ! tt $ pick ! (λ u. split ! $ split ! $ split ! $ lft_end ! tt $ move ! (2 ∷ []) $ feq_l ! (λ is_unit. lands_as ! (ap only is_unit) refl (tt, tt) $
    move ! (2 ∷ []) $ pick ! (λ us. split ! $ move ! (1 ∷ []) $ heard ! _ (λ crossed.
    -- [the span's last bytes; the loan's end; what the loan ends as; self's token; the lender's part; the haystack's borrow, open]
    fsplit ! $ fsplit ! $ fsplit ! $ move ! (1 ∷ []) $ drop ! $
    let ys : List ℕ = splice xs start end us.0 in
    move ! (5 ∷ 0 ∷ []) $ use2 𝓛 (‵ (fres δ ((coded_list u8.coded).code ys))) (followed_slice 𝓛 (Array u8 0) u8 (splice xs start end) δ r.ghost_name us.0) $
    rewrite ! 0 (λ (l : List ℕ). ‵ (fres δ ((coded_list u8.coded).code l))) (sym (heres_id u8 ys)) refl $ use1 𝓛 (‵ (finally u8 δ ys)) (res-finally 𝓛 (named 1) [] u8 δ ys) $
    move ! (3 ∷ 7 ∷ 0 ∷ []) $ use3 𝓛 (later (‵ ((Arr (mem u8) (length xs)).own_at ys b o))) (slice_back 𝓛 u8 (α ∷ []) δ ys (length xs) b o) $ await ! tt $
    fsplit ! $ feq_l ! (λ as_long. feq_i ! ℕ (length ys) (length xs) as_long $ fjoin ! $
    move ! (0 ∷ 6 ∷ 7 ∷ 8 ∷ []) $ close_ref ! tt (Arr (mem u8) (length xs)) ys {b = b} {o = o} $ name_done ! tt $
    rewrite ! 0 (λ (l : List ℕ). ‵ (fres γ ((coded_list u8.coded).code l))) (sym (heres_id u8 ys)) refl $ use1 𝓛 (‵ (finally u8 γ ys)) (res-finally 𝓛 (named 1) [] u8 γ ys) $
    sets ! (of_opd ! (unit_lit !)) refl (tt, tt) $ returns ! (look_at ! 0 refl) $ free_all ! refl $ keep ! (0 ∷ 1 ∷ 2 ∷ 6 ∷ []) $
    -- [the haystack's last bytes; its borrow and token; self's token]
    suffices ! _ (ends_at 𝓛 f.ended stayed c y vunit tt (tt, (ys, tt)) (tt, (as_long, tt))) $ says ! (ap (splice xs start end) (crossed ∙ ap (λ (l : List ℕ). replicate (length l) 120) is_span)) $
    fjoin ! $ nothing ! $ move ! (1 ∷ 0 ∷ []) $ join ! $ nothing ! $ join ! $ nothing ! $ move ! (2 ∷ 0 ∷ []) $ join ! $ move ! (2 ∷ 0 ∷ []) $ join ! $
    feq_i ! _ (vunit ∷ []) _ refl $ move ! (1 ∷ 2 ∷ []) $ group ! 3 $ done !))))))))))))))))
