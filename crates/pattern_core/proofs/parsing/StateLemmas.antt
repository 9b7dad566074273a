-- What a state of the code keeps of a reading.
use Rattle.std.proofs.Common.{◌≡◌, inl, ◌<◌, ◌+◌, ℕ, List, [], ◌∷◌, ◌++◌, length, Some, None, Result, Ok, Err, IfOk, refl, sym, ap, ◌∙◌, subst, arith}
use Rattle.sd_base.specs.declared.no_memory.NoMemory.{NoMemory}
use Rattle.pattern_syntax.specs.declared.flags.Flags.{Flags}
use Rattle.pattern_syntax.specs.declared.readings.Opening.{Opening}
use Rattle.pattern_syntax.specs.declared.readings.Opening.TheVariants as opening
use Rattle.pattern_syntax.specs.Flags.{apply}
use Rattle.pattern_syntax.specs.Syntax.{Kind, numbered, named, flagged, inside_flags}
use Rattle.pattern_syntax.specs.SetTree.{empty, capture}
use Rattle.pattern_syntax.specs.Reads.{Part, at_depth, own, own_name}
use Rattle.pattern_syntax.specs.Readers.{HasLiterals, IsOpening}
use Rattle.pattern_syntax.specs.Tokens.{Token}
use Rattle.pattern_core.specs.Progress.{Frame, Progress}
use Rattle.pattern_core.specs.Parsing.{part_of, IsPart, IsLevel, IsGroup, IsFrame, AreFrames, AreNames, IsState, Enters, within, behind_item, behind_token}
use Rattle.pattern_core.specs.declared.parsing.names.Names.{Names}
use Rattle.pattern_core.specs.declared.parsing.pieces.Piece.{Piece}
use Rattle.pattern_core.specs.declared.parsing.pieces.Group.{Group}
use Rattle.pattern_core.specs.declared.parsing.pieces.Group.TheVariants.{Plain, Capturing}
use Rattle.pattern_core.specs.declared.parsing.state.Frame as code_frame
use Rattle.pattern_core.specs.declared.parsing.state.State.{State}

pub frames_more : (limit : ℕ) (cs : List code_frame.Frame) (c : code_frame.Frame) (fs : List Frame) (f : Frame) → AreFrames limit cs fs
    → IsFrame limit c f → AreFrames limit (cs ++ c ∷ []) (fs ++ f ∷ [])
frames_more limit [] c [] f h i = (i, tt)
frames_more limit [] c (g ∷ fs) f h i = absurd h
frames_more limit (d ∷ cs) c [] f h i = absurd h
frames_more limit (d ∷ cs) c (g ∷ fs) f h i = (h.0, frames_more limit cs c fs f h.1 i)

-- the frames of some of the code's with one more
pub record Innermost (limit : ℕ) (cs : List code_frame.Frame) (c : code_frame.Frame) (fs : List Frame) : Type 0 where
  pub outer : List Frame
  pub inner : Frame
  pub are : fs ≡ outer ++ inner ∷ []
  pub outer_are : AreFrames limit cs outer
  pub inner_is : IsFrame limit c inner

one_frame : (limit : ℕ) (c : code_frame.Frame) (f : Frame) (fs : List Frame) → IsFrame limit c f × AreFrames limit [] fs → Innermost limit [] c (f ∷ fs)
one_frame limit c f [] h = record { outer = []; inner = f; are = refl; outer_are = tt; inner_is = h.0 }
one_frame limit c f (g ∷ fs) h = absurd h.1

pub innermost : (limit : ℕ) (cs : List code_frame.Frame) (c : code_frame.Frame) (fs : List Frame) → AreFrames limit (cs ++ c ∷ []) fs → Innermost limit cs c fs
innermost limit [] c [] h = absurd h
innermost limit [] c (f ∷ fs) h = one_frame limit c f fs h
innermost limit (d ∷ cs) c [] h = absurd h
innermost limit (d ∷ cs) c (f ∷ fs) h =
    let more = innermost limit cs c fs h.1 in
    record { outer = f ∷ more.outer; inner = more.inner; are = ap (λ fs. f ∷ fs) more.are; outer_are = (h.0, more.outer_are); inner_is = more.inner_is }

pub no_frames : (limit : ℕ) (cs : List code_frame.Frame) (fs : List Frame) → cs ≡ [] → AreFrames limit cs fs → fs ≡ []
no_frames limit [] [] e h = refl
no_frames limit [] (f ∷ fs) e h = absurd h
no_frames limit (c ∷ cs) fs e h = cc

-- a list that isn't empty has a last member
pub last_of : {A : Type 0} (xs : List A) → 0 < length xs → (ys : List A) × (y : A) × (xs ≡ ys ++ y ∷ [])
last_of [] h = absurd (omega arith)
last_of (x ∷ []) h = ([], x, refl)
last_of (x ∷ y ∷ xs) h =
    let more = last_of (y ∷ xs) (omega arith) in (x ∷ more.0, more.1, ap (λ zs. x ∷ zs) more.2)

append-nil : {A : Type 0} (xs : List A) → xs ++ [] ≡ xs
append-nil [] = refl
append-nil (x ∷ xs) = ap (λ ys. x ∷ ys) (append-nil xs)

more_none : (n : ℕ) → n ≡ n + 0
more_none n = omega arith

-- a group is entered
pub entered_is : (limit : ℕ) (s t : State) (group : Group) (inner : Flags) (next : ℕ) (p : Progress) (kind : Kind) → Enters s group inner next t
    → AreFrames limit s.frames.items p.frames → IsLevel limit s.level p.level → s.flags ≡ p.flags → IsGroup group kind p.gathered.groups
    → inner ≡ inside_flags kind p.flags → s.groups ≡ p.gathered.groups + own kind → AreNames s.names (p.gathered.names ++ own_name kind)
    → HasLiterals s.literals p.gathered.literals → IsState limit t (within kind p)
entered_is limit s t group inner next p kind e frames level flags is_group inside groups names literals = record {
  frames = subst (λ cs. AreFrames limit cs (within kind p).frames) (sym e.frames)
      (frames_more limit s.frames.items _ p.frames _ frames (record { group = is_group; flags = flags; level = level }));
  level = e.level limit;
  flags = e.flags ∙ inside;
  groups = e.groups ∙ groups;
  names = subst (λ names. AreNames names (p.gathered.names ++ own_name kind)) (sym e.names) names;
  literals = subst (λ literals. HasLiterals literals p.gathered.literals) (sym e.literals) literals;
}

abbrev OpenedAs : ℕ → State → State → Opening → Type 0
OpenedAs limit s t opening = (before : Progress) (token : Token) → IsState limit s before → IsOpening s.flags token opening → IsState limit t (behind_token token before)

pub set_is : (limit : ℕ) (s t : State) (flags : Flags) (piece : Piece) → IsPart limit piece (at_depth 0 empty)
    → ((before : Progress) (part : Part) → IsState limit (record s { flags = flags }) before → IsPart limit piece part → IsState limit t (behind_item part before))
    → OpenedAs limit s t (opening.Sets flags)
set_is limit s t flags piece none item before a is (bs, l, e, f) =
    let k = apply l before.flags in
    let within_set : IsState limit (record s { flags = flags }) (record before { flags = k }) = record {
      frames = is.frames;
      level = is.level;
      flags = f ∙ ap (apply l) is.flags;
      groups = is.groups;
      names = is.names;
      literals = is.literals;
    } in
    subst (λ a. IsState limit t (behind_token a before)) (sym e) (item (record before { flags = k }) (at_depth 0 empty) within_set none)

pub plain_is : (limit : ℕ) (s t : State) (flags : Flags) (next : ℕ) → Enters s Plain flags next t → OpenedAs limit s t (opening.Plain flags)
plain_is limit s t flags next enters before a is (bs, l, e, f) =
    subst (λ a. IsState limit t (behind_token a before)) (sym e)
    (entered_is limit s t Plain flags next before (flagged bs l) enters is.frames is.level is.flags (λ tree. refl) (f ∙ ap (apply l) is.flags)
    (is.groups ∙ more_none before.gathered.groups) (subst (AreNames s.names) (sym (append-nil before.gathered.names)) is.names) is.literals)

abbrev counted : State → State
counted s = record s { groups = s.groups + 1 }

pub numbered_is : (limit : ℕ) (s t : State) (next : ℕ) → Enters (counted s) (Capturing (s.groups + 1) None) s.flags next t → OpenedAs limit s t opening.Numbered
numbered_is limit s t next enters before a is e =
    subst (λ a. IsState limit t (behind_token a before)) (sym e)
    (entered_is limit (counted s) t (Capturing (s.groups + 1) None) s.flags next before numbered enters is.frames is.level is.flags
    (λ tree. ap (λ n. capture (n + 1) None tree) (sym is.groups)) is.flags (ap (λ n. n + 1) is.groups)
    (subst (AreNames s.names) (sym (append-nil before.gathered.names)) is.names) is.literals)

-- the state with other names
abbrev renamed : Names → State → State
renamed names s = record s { names = names }

pub named_is : (limit : ℕ) (s t : State) (known : Names) (name : List ℕ) (next : ℕ)
    → ((names : List (List ℕ)) → AreNames s.names names → AreNames known (names ++ name ∷ []))
    → Enters (counted (renamed known s)) (Capturing (s.groups + 1) (Some name)) s.flags next t → OpenedAs limit s t (opening.Named name)
named_is limit s t known name next more enters before a is (bs, p, e) =
    subst (λ a. IsState limit t (behind_token a before)) (sym e)
    (entered_is limit (counted (renamed known s)) t (Capturing (s.groups + 1) (Some name)) s.flags next before (named bs p name) enters
    is.frames is.level is.flags (λ tree. ap (λ n. capture (n + 1) (Some name) tree) (sym is.groups)) is.flags (ap (λ n. n + 1) is.groups)
    (more before.gathered.names is.names) is.literals)

-- ---- the same about results

abbrev pub OpensTo : State → Opening → State → Type 0
OpensTo s o t =
    (limit : ℕ) (before : Progress) (a : Token) → IsState limit s before → IsOpening s.flags a o → IsState limit t (behind_token a before)

pub sets_opened : (s : State) (o : Opening) (flags : Flags) (piece : Piece) (r : Result State NoMemory) → o ≡ opening.Sets flags
    → part_of piece ≡ at_depth 0 empty
    → IfOk r (λ (t : State). (limit : ℕ) (before : Progress) (part : Part) → IsState limit (record s { flags = flags }) before → IsPart limit piece part
    → IsState limit t (behind_item part before))
    → IfOk r (OpensTo s o)
sets_opened s o flags piece (Ok t) e none item =
    λ limit before a is opens. set_is limit s t flags piece (inl none) (item limit) before a is (subst (IsOpening s.flags a) e opens)
sets_opened s o flags piece (Err x) e none item = item

pub plain_opened : (s : State) (o : Opening) (flags : Flags) (next : ℕ) (r : Result State NoMemory) → o ≡ opening.Plain flags
    → IfOk r (Enters s Plain flags next) → IfOk r (OpensTo s o)
plain_opened s o flags next (Ok t) e enters = λ limit before a is opens. plain_is limit s t flags next enters before a is (subst (IsOpening s.flags a) e opens)
plain_opened s o flags next (Err x) e enters = enters

pub numbered_opened : (s : State) (o : Opening) (next : ℕ) (r : Result State NoMemory) → o ≡ opening.Numbered
    → IfOk r (Enters (counted s) (Capturing (s.groups + 1) None) s.flags next) → IfOk r (OpensTo s o)
numbered_opened s o next (Ok t) e enters = λ limit before a is opens. numbered_is limit s t next enters before a is (subst (IsOpening s.flags a) e opens)
numbered_opened s o next (Err x) e enters = enters

pub named_opened : (s : State) (o : Opening) (known : Names) (name : List ℕ) (next : ℕ) (r : Result State NoMemory) → o ≡ opening.Named name
    → ((names : List (List ℕ)) → AreNames s.names names → AreNames known (names ++ name ∷ []))
    → IfOk r (Enters (counted (renamed known s)) (Capturing (s.groups + 1) (Some name)) s.flags next) → IfOk r (OpensTo s o)
named_opened s o known name next (Ok t) e more enters =
    λ limit before a is opens. named_is limit s t known name next more enters before a is (subst (IsOpening s.flags a) e opens)
named_opened s o known name next (Err x) e more enters = enters
