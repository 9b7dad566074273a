-- A span of a slice is lent on, and what is written there is what the slice ends as.
use mathlib.Core.Path.{◌≡◌, refl, sym, ap, ◌∙◌}
use Prim.Native.Nat.{ℕ, ◌+◌, ◌-◌, ◌≤◌}
use native.Mathlib.Omega.{arith}
use mathlib.Core.List.{List, [], ◌∷◌, ◌++◌}
use lib.ListN.{length, take, drop as drop_list, take-append-drop, length-drop, length-append}
use seplogic.Ra.Ura.{Ura}
use mir.Syntax.{Lifetime}
use mir.Val.{Val}
use base.Logic.{SProp, ent, sep, ex}
use base.Stored.{coded_list}
use base.Fml.{Lft, GName, Share, flft, fobs, fbor}
use types.Logic.{Logic, sem}
use types.Kit.{Item, ‵, ◌⊛◌, later, some, ◌$◌, ◌∵◌, !, qed, move, drop, split, split3, join, group, fsplit, fsplit3, fjoin, feq_i, feq_l, use1, use2, rewrite, pick, await, updating, now, show, done}
use types.SemTy.{cells, Arr, Body}
use types.Follow.{takes_part}
use types.Mut.{open_ref}
use denote.Builtin.{u8}
use denote.Memory.{mem}
use denote.Array.{Array}
use denote.Slice.{MutSlice, Room, slice_val}
use denote.Follow.{follows}
use denote.FollowSlice.{heres_id, slice_of}
use borrow.Table.Elements.{at, at_byte, cut_app, join_app, length-take-le}
use Rattle.std.specs.Prelude.{slice_range}
use Rattle.std.proofs.lemmas.List.{drop-drop}

-- ---- the bytes of a span
module _ (start end : ℕ) (bytes : List ℕ) (ordered : start ≤ end) (within : end ≤ length bytes) where
  pub length-span : length (slice_range bytes start end) ≡ end - start
  length-span =
      let left = length-drop start bytes in
      length-take-le (end - start) (drop_list start bytes) (omega arith)

  pub around_span : bytes ≡ take start bytes ++ (slice_range bytes start end ++ drop_list end bytes)
  around_span =
      let rest : List ℕ = drop_list start bytes in
      let same : start + (end - start) ≡ end = omega arith in
      let past : drop_list (end - start) rest ≡ drop_list end bytes = drop-drop (end - start) start bytes ∙ ap (λ (n : ℕ). drop_list n bytes) same in
      let cut : rest ≡ slice_range bytes start end ++ drop_list end bytes = sym (take-append-drop (end - start) rest) ∙ ap (λ (l : List ℕ). slice_range bytes start end ++ l) past in
      sym (take-append-drop start bytes) ∙ ap (λ (l : List ℕ). take start bytes ++ l) cut

-- ---- the loan
module _ {M : Type 1} {𝓤 : Ura M} (𝓛 : Logic 𝓤) (ℓ : Lifetime) (κ : Lft) (q : Share) (b o : ℕ) (γ : GName) (start end : ℕ) (bytes : List ℕ) (ordered : start ≤ end) (within : end ≤ length bytes) where
  open 𝓛 use {H, A}

  abbrev front : List ℕ
  front = take start bytes

  abbrev span : List ℕ
  span = slice_range bytes start end

  abbrev back : List ℕ
  back = drop_list end bytes

  abbrev written : List ℕ → List ℕ
  written ws = front ++ (ws ++ back)

  abbrev place : ℕ
  place = start + o

  abbrev past : ℕ
  past = at place (mem u8).size (length span)

  -- the span under a new name, the token, and what the slice ends as
  abbrev pub span_lent : GName → Item 𝓤
  span_lent δ = ‵ ((MutSlice ℓ κ u8).own_val (record { ref_ptr = (b, place); ghost_name = δ; now = span }) (slice_val (b, place) (length span) ∷ [])) ⊛ ‵ (flft κ q) ⊛ ‵ (follows (Array u8 0) (Array u8 0) γ δ written)

  abbrev pub SpanLent : GName → SProp 𝓤
  SpanLent δ = sep 𝓤 (sem 𝓛 ((MutSlice ℓ κ u8).own_val (record { ref_ptr = (b, place); ghost_name = δ; now = span }) (slice_val (b, place) (length span) ∷ []))) (sep 𝓤 (A.lft κ q) (sem 𝓛 (follows (Array u8 0) (Array u8 0) γ δ written)))

  abbrev Others : SProp 𝓤
  Others = sep 𝓤 (sem 𝓛 (cells (mem u8) front b o)) (sem 𝓛 (cells (mem u8) back b past))

  at_span : at o (mem u8).size (length front) ≡ place
  at_span = at_byte o (length front) ∙ ap (λ (k : ℕ). k + o) (length-take-le start bytes (omega arith))

  put_back : (ws : List ℕ) → ent 𝓤 (sep 𝓤 (sem 𝓛 ((Arr (mem u8) (length span)).own_at ws b place)) Others) (sem 𝓛 ((Arr (mem u8) (length bytes)).own_at (written ws) b o))
  put_back ws = qed 𝓛 (‵ ((Arr (mem u8) (length span)).own_at ws b place) ∷ ‵ (cells (mem u8) front b o) ∷ ‵ (cells (mem u8) back b past) ∷ []) ∵ fsplit ! $ feq_l ! (λ as_long.
      let whole : length bytes ≡ length front + length (span ++ back) = ap length (around_span start end bytes ordered within) ∙ length-append front (span ++ back) in
      let inner : length (span ++ back) ≡ length span + length back = length-append span back in
      let now_whole : length (written ws) ≡ length front + length (ws ++ back) = length-append front (ws ++ back) in
      let now_inner : length (ws ++ back) ≡ length ws + length back = length-append ws back in
      rewrite ! 2 (λ (k : ℕ). ‵ (cells (mem u8) back b (at place (mem u8).size k))) (sym as_long) refl $ move ! (0 ∷ 2 ∷ []) $
      use2 𝓛 (‵ (cells (mem u8) (ws ++ back) b place)) (join_app 𝓛 (mem u8) ws back b place) $
      rewrite ! 0 (λ (k : ℕ). ‵ (cells (mem u8) (ws ++ back) b k)) (sym at_span) refl $ move ! (1 ∷ 0 ∷ []) $
      use2 𝓛 (‵ (cells (mem u8) (written ws) b o)) (join_app 𝓛 (mem u8) front (ws ++ back) b o) $
      feq_i ! ℕ (length (written ws)) (length bytes) (omega arith) $ fjoin ! $ done !)

  pub lends_span : Room u8 (length span) → (vs : List Val)
      → ent 𝓤 (sep 𝓤 (sem 𝓛 ((MutSlice ℓ κ u8).own_val (record { ref_ptr = (b, o); ghost_name = γ; now = bytes }) vs)) (A.lft κ q)) (H.⇛ (ex 𝓤 SpanLent))
  lends_span room vs = qed 𝓛 (‵ ((MutSlice ℓ κ u8).own_val (record { ref_ptr = (b, o); ghost_name = γ; now = bytes }) vs) ∷ ‵ (flft κ q) ∷ []) ∵ updating ! $ fsplit3 ! $ drop ! $
      rewrite ! 0 (λ (l : List ℕ). ‵ (fobs γ ((coded_list u8.coded).code l))) (heres_id u8 bytes) refl $ open_ref ! tt (Arr (mem u8) (length bytes)) {b = b} {o = o} $ fsplit ! $ drop ! $
      rewrite ! 0 (λ (l : List ℕ). ‵ (cells (mem u8) l b o)) (around_span start end bytes ordered within) refl $
      use1 𝓛 (‵ (cells (mem u8) front b o) ⊛ ‵ (cells (mem u8) (span ++ back) b (at o (mem u8).size (length front)))) (cut_app 𝓛 (mem u8) front (span ++ back) b o) $ split ! $ move ! (1 ∷ []) $
      rewrite ! 0 (λ (k : ℕ). ‵ (cells (mem u8) (span ++ back) b k)) at_span refl $
      use1 𝓛 (‵ (cells (mem u8) span b place) ⊛ ‵ (cells (mem u8) back b past)) (cut_app 𝓛 (mem u8) span back b place) $ split ! $
      feq_i ! ℕ (length span) (length span) refl $ fjoin ! $ move ! (2 ∷ 1 ∷ []) $ join ! $ move ! (2 ∷ 3 ∷ 4 ∷ 1 ∷ 0 ∷ []) $ group ! 5 $
      use1 𝓛 (later (some (λ (δ : GName). ‵ (fobs δ ((coded_list u8.coded).code span)) ⊛ ‵ (fbor κ (Body (Arr (mem u8) (length span)) b place δ)) ⊛ ‵ (flft κ q) ⊛ ‵ (follows (Array u8 0) (Array u8 0) γ δ written))))
      (takes_part 𝓛 (Arr (mem u8) (length bytes)) (Arr (mem u8) (length span)) written κ q b o b place γ Others put_back ((coded_list u8.coded).code bytes) ((coded_list u8.coded).code bytes) span) $ await ! tt $ pick ! (λ δ. split3 ! $
      use2 𝓛 (‵ ((MutSlice ℓ κ u8).own_val (record { ref_ptr = (b, place); ghost_name = δ; now = span }) (slice_val (b, place) (length span) ∷ []))) (slice_of 𝓛 u8 ℓ κ b place δ span room) $ now ! $ show ! SpanLent δ $ done !)
