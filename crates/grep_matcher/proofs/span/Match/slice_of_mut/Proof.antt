-- The span's ends are read through `self`, and its bytes are lent out of the haystack.
use Prim.Native.Nat.{ℕ, ◌+◌, ◌-◌, ◌<◌, ◌≤◌, ◌^◌}
use native.Mathlib.Omega.{arith}
use mathlib.Core.Path.{refl, sym}
use mathlib.Core.List.{List, [], ◌∷◌}
use lib.ListN.{length}
use mir.Syntax.{named}
use mir.Val.{Val}
use base.Fml.{ftrue, flft}
use contract.Monad.{fact}
use types.Kit.{‵, raw, ◌⊛◌, some, later, ◌$◌, ◌∵◌, !, qed, done, move, keep, drop, split, split3, join, fsplit, use2, pick, await, rewrite, suffices, frame, group}
use types.Part.{whole, sub, agg, look_in}
use types.Run.{enter, addr, bin, stop, fld, of_opd, load, and_then, no_more, returns}
use types.ByLocal.{alloc_all, pass_all, free_all, look_at, get, get_in, through, sets}
use denote.Builtin.{u8, RefOf}
use denote.Exit.{yes, no}
use denote.Laws.{Is, shows}
use denote.Memory.{cell_at}
use denote.Opens.{Opens}
use denote.RattleType.{owns}
use denote.Ref.{MutBor, ShrRef, shr_vals, shr_Tells}
use denote.Signature.{plain, mut_slice_of}
use denote.Slice.{MutSlice, Room, slice_val, mut_slice_vals, mut_slice_Tells}
use denote.Steps.{nothing, heard, looks, shuts, peeks}
use denote.Triple.Walked.{Stays, walk_of, says, stay_dropped, Goes-dropped, Goes-spent_slice, ends_at}
use types.Logic.{Logic}
use seplogic.Ra.Ura.{Ura}
use Rattle.std.proofs.raw_atomic.Walks.{proved}
use Rattle.std.specs.Prelude.{slice_range}
use Rattle.grep_matcher.proofs.span.SpanLemmas.{length-span, span_lent, lends_span}
use Rattle.grep_matcher.specs.contracts.span.Match.{the_row as R}
use Rattle.grep_matcher.proofs.span.Match.TheLaws.{lowers, the_row_copy}
use Rattle.grep_matcher.specs.contracts.span.Match.slice_of_mut as f
use Rattle.grep_matcher.proofs.span.Match.slice_of_mut.Statement.{statement}
use Rattle.grep_matcher.proofs.span.Match.slice_of_mut.Code as code

abbrev stayed : Stays f.ended.signature.params f.ended.kept
stayed = (stay_dropped (RefOf (0 ∷ []) tt (plain (λ _. R)) (λ _. tt)) yes, (stay_dropped (mut_slice_of (1 ∷ []) tt (plain (λ _. u8))) no, tt))

span_opens : {M : Type 1} {𝓤 : Ura M} (𝓛 : Logic 𝓤) → Opens 𝓛 R
span_opens {M = M} {𝓤 = 𝓤} 𝓛 = (the_row_copy.copied M 𝓤 𝓛).opens

pub slice_of_mut_spec : {M : Type 1} → statement M
slice_of_mut_spec 𝓤 𝓛 𝓜 𝓡 wired =
    let c = f.clauses 𝓛 𝓜.mem 𝓡.returns in let W = walk_of 𝓛 f.ended stayed c in
    proved 𝓛 f.ended stayed c 𝓜 𝓡 (Goes-dropped 𝓛 2 (RefOf (0 ∷ []) tt (plain (λ _. R)) (λ _. tt)) yes (λ κs x w. refl), (Goes-spent_slice 𝓛 2 (1 ∷ []) tt (plain (λ _. u8)), tt))
    f.Key.name code.function (code.unfolded 𝓤 𝓛.H 𝓜 𝓡 wired)
    (λ κs. (shr_vals, (mut_slice_vals, tt))) (λ κs. (shr_Tells (named 0) κs.0 R, (mut_slice_Tells (named 1) κs.1.0 u8, tt))) (λ κs qs bounds a _ are.
    let κ = κs.1.0 in let q = qs.1.0 in let self = a.0 in let start = self.now.start in let end = self.now.end in let haystack = a.1.0 in
    let sb = self.ref_ptr.0 in let so = self.ref_ptr.1 in
    let b = haystack.ref_ptr.0 in let o = haystack.ref_ptr.1 in let γ = haystack.ghost_name in let xs = haystack.now in
    let y : W.Ghost = ((κs, qs, bounds, a, (shr_vals self, (mut_slice_vals haystack, tt))), tt) in
    qed 𝓛 (((‵ (flft κs.0 qs.0) ⊛ ‵ (flft κ q) ⊛ ‵ ftrue) ⊛ ‵ (owns (ShrRef (named 0) κs.0 R ∷ MutSlice (named 1) κ u8 ∷ []) a y.0.4)) ∷ raw (fact 𝓤 (end ≤ length xs)) ∷ []) ∵
    move ! (1 ∷ []) $ heard ! _ (λ within. split ! $ split3 ! $ move ! (3 ∷ []) $ fsplit ! $ fsplit ! $ drop ! $ move ! (1 ∷ []) $ fsplit ! $ keep ! (2 ∷ 3 ∷ 0 ∷ 4 ∷ []) $
    let fits_len : length xs < 2 ^ 64 = are.1.0.0.1.0 in let room_len = are.1.0.0.1.1 in
    enter ! _ _ _ _ _ $ alloc_all ! (λ l. pass_all ! refl ((tt, tt), ((tt, (tt, (record { fits = fits_len }, tt))), tt)) $
    -- [what self shows; self's token; the haystack; its token]
    looks ! tt R (span_opens 𝓛) self.now sb so (λ part vs. move ! (1 ∷ []) $ peeks ! R (Is R) (shows 𝓛 R) self.now vs (λ is.
    let ordered : start ≤ end = is.1.0.1 in let ends = lowers.val_is self.now vs is in
    let Cell = λ (ws : List Val). ‵ (cell_at part R.mir ws sb so) in
    let long = length-span start end xs ordered within in
    let fits_start : start < 2 ^ 64 = omega arith in let fits_end : end < 2 ^ 64 = omega arith in let fits_part : end - start < 2 ^ 64 = omega arith in
    let room : Room u8 (length (slice_range xs start end)) = (omega arith, omega arith) in
    rewrite ! 1 Cell ends refl $
    -- [what self owns; its cell; its way back; what it shows; the haystack; its token]
    sets ! (of_opd ! (load ! (through ! refl (fld ! refl (stop !))) (look_in ! 1 (sub ! 0 refl (whole !))))) refl (tt, record { fits = fits_start }) $
    sets ! (of_opd ! (load ! (through ! refl (fld ! refl (stop !))) (look_in ! 1 (sub ! 1 refl (whole !))))) refl (tt, record { fits = fits_end }) $
    rewrite ! 1 Cell (sym ends) refl $ move ! (1 ∷ 0 ∷ []) $ shuts ! tt R part self.now vs sb so $
    -- [self's token; what it shows; the haystack; its token]
    sets ! (bin ! (get_in ! (fld ! refl (stop !)) (sub ! 0 refl (whole !))) (get ! refl) tt) refl (tt, tt) $
    sets ! (bin ! (get ! refl) (get ! refl) ordered) refl (tt, record { fits = fits_part }) $
    sets ! (addr ! (through ! refl (stop !))) refl (tt, tt) $
    sets ! (agg ! (and_then ! (get ! refl) (and_then ! (get ! refl) (no_more !)))) refl (tt, (tt, (record { fits = fits_part }, tt))) $
    move ! (2 ∷ 3 ∷ []) $ use2 𝓛 (later (some (span_lent 𝓛 (named 1) κ q b o γ start end xs ordered within))) (lends_span 𝓛 (named 1) κ q b o γ start end xs ordered within room (mut_slice_vals haystack)) $ await ! tt $ pick ! (λ δ. split3 ! $
    -- [the span; its token; what the haystack ends as; self's token]
    let lent : MutBor (List ℕ) = record { ref_ptr = (b, start + o); ghost_name = δ; now = slice_range xs start end } in
    rewrite ! 0 (λ (n : ℕ). ‵ ((MutSlice (named 1) κ u8).own_val lent (slice_val (b, start + o) n ∷ []))) long refl $
    returns ! (look_at ! 0 refl) $ free_all ! refl $ keep ! (0 ∷ 1 ∷ 2 ∷ 3 ∷ []) $
    suffices ! _ (ends_at 𝓛 f.ended stayed c y (slice_val (b, start + o) (end - start)) lent (tt, (tt, tt)) (tt, (tt, tt))) $
    nothing ! $ move ! (2 ∷ 0 ∷ []) $ join ! $ move ! (3 ∷ 0 ∷ []) $ join ! $ nothing ! $ nothing ! $ join ! $ nothing ! $ join ! $ move ! (1 ∷ 0 ∷ []) $
    group ! 3 $ frame ! $ says ! refl $ done !))))))
