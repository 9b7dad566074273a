-- What was shown so far, and how a preview ends.
use Rattle.std.proofs.Common.{◌≡◌, ℕ, ◌+◌, ◌<◌, ◌≤◌, Bool, List, [], ◌∷◌, ◌++◌, take, drop, length, get_or, refl, sym, ◌∙◌, ap, subst, inl, inr, arith, append_assoc}
use Rattle.std.specs.Prelude.{IsTrue, All, Result, Ok, Err, IsErrAnd, IfOk, IfErr}
use Rattle.std.specs.List.{concat, AllZip}
use Rattle.std.proofs.Math.Seq.{take-append-add}
use Rattle.std.proofs.lemmas.List.{append-nil, length-append, take-append-drop, drop_more}
use Rattle.std.proofs.lemmas.List.Elements.{All-nil, All-push, AllZip-push}
use Rattle.std.proofs.lemmas.List.Folds.{concat-append}
use Rattle.sd_io.specs.Tree.{Tree}
use Rattle.sd_io.specs.Files.{file_of}
use Rattle.sd_io.specs.Disk.{DiskState, SameTree}
use Rattle.sd_io.specs.Streams.{SinkState}
use Rattle.sd_io.specs.declared.fault.DiskFault.TheVariants as disk
use Rattle.sd_change.specs.Change.{Change}
use Rattle.sd_course.specs.Course.{course, AppendsPrefix}
use Rattle.file_exchange.proofs.CauseLemmas.{risen_since}
use Rattle.file_rewrite.specs.Paths.{IsNoPath}
use Rattle.named_files.specs.Preview.{HasText, are_many, IsUnread, Shows, ShowsNot, DoesPreview, StopsAt, StopsBefore, StopsWithin, IsLastText, PreviewFails}
use Rattle.named_files.specs.declared.fault.PreviewFault.{PreviewFault}
use Rattle.named_files.specs.declared.fault.PreviewFault.TheVariants as preview

-- what holds of the fault that is told on
pub told_on : {T E : Type 0} (P : E → Type 0) (r : Result T E) (e : E) → IsErrAnd r (λ x. x ≡ e) → P e → IfErr r P
told_on P (Ok x) e is p = tt
told_on P (Err x) e is p = subst P (sym is) p

-- where a fault is told on, nothing is claimed of a value
pub no_value : {T E : Type 0} (P : T → Type 0) (r : Result T E) (e : E) → IsErrAnd r (λ x. x ≡ e) → IfOk r P
no_value P (Ok x) e is = absurd is
no_value P (Err x) e is = tt

-- one text more
concat_more : (texts : List (List ℕ)) (text : List ℕ) → concat (texts ++ text ∷ []) ≡ concat texts ++ text
concat_more texts text = concat-append texts (text ∷ []) ∙ ap (λ (t : List ℕ). concat texts ++ t) (append-nil text)

-- the words are those so far, this one, and the rest
pub cut_here : (paths done : List (List ℕ)) (path : List ℕ) → done ≡ take (length done) paths → length done < length paths → path ≡ get_or paths (length done) path
    → paths ≡ done ++ path ∷ drop (length done + 1) paths
cut_here paths done path all lt is =
    sym (take-append-drop (length done) paths) ∙ ap (λ (rest : List (List ℕ)). take (length done) paths ++ rest) (drop_more paths (length done) path lt)
    ∙ ap (λ (p : List ℕ). take (length done) paths ++ p ∷ drop (length done + 1) paths) (sym is)
    ∙ ap (λ (front : List (List ℕ)). front ++ path ∷ drop (length done + 1) paths) (sym all)

-- The texts of the words so far were written, and the tree is as it was.
pub record IsShownSoFar (change : Change) (many tells sinks : Bool) (s0 s : DiskState) (o0 o : SinkState) (done : List (List ℕ)) : Type 0 where
  pub same : SameTree s0 s
  pub named : All (λ path. IsNoPath path → ⊥) done
  pub texts : List (List ℕ)
  pub are_texts : IsTrue tells → AllZip (HasText change many s0.tree) done texts
  pub written : IsTrue sinks → o.held ≡ o0.held ++ concat texts

pub none_shown : (change : Change) (many tells sinks : Bool) (s : DiskState) (o : SinkState) → IsShownSoFar change many tells sinks s s o o []
none_shown change many tells sinks s o = record {
  same = record { tree = refl; clock = refl; outcomes = refl };
  named = All-nil (λ path. IsNoPath path → ⊥);
  texts = [];
  are_texts = λ told. tt;
  written = λ told. sym (append-nil o.held);
}

module _ (change : Change) (many tells sinks : Bool) (s0 s1 s2 : DiskState) (o0 o1 o2 : SinkState) (done : List (List ℕ)) (path : List ℕ) (so : IsShownSoFar change many tells sinks s0 s1 o0 o1 done) where
  text_then : (text : List ℕ) → HasText change many s1.tree path text → HasText change many s0.tree path text
  text_then text has = subst (λ (tree : Tree). HasText change many tree path text) so.same.tree has

  pub more_shown : (named : IsNoPath path → ⊥) → SameTree s1 s2 → Shows change many path (course tells s1 s2) (course sinks o1 o2) → IsShownSoFar change many tells sinks s0 s2 o0 o2 (done ++ path ∷ [])
  more_shown named same shows = record {
    same = record { tree = same.tree ∙ so.same.tree; clock = same.clock ∙ so.same.clock; outcomes = same.outcomes ∙ so.same.outcomes };
    named = All-push (λ p. IsNoPath p → ⊥) done path so.named named;
    texts = so.texts ++ shows.text ∷ [];
    are_texts = λ told. AllZip-push (HasText change many s0.tree) done so.texts path shows.text (so.are_texts told) (text_then shows.text (shows.has_text told));
    written = λ told.
        shows.written told ∙ ap (λ (held : List ℕ). held ++ shows.text) (so.written told) ∙ append_assoc o0.held (concat so.texts) shows.text
        ∙ ap (λ (t : List ℕ). o0.held ++ t) (sym (concat_more so.texts shows.text));
  }

  -- a prefix of one more text after those so far
  prefix_of : (text : List ℕ) → o1.held ≡ o0.held ++ concat so.texts → AppendsPrefix o1.held text o2.held → AppendsPrefix o0.held (concat (so.texts ++ text ∷ [])) o2.held
  prefix_of text before prefix =
      let whole = concat_more so.texts text in
      let size : length (concat (so.texts ++ text ∷ [])) ≡ length (concat so.texts) + length text = ap (λ (t : List ℕ). length t) whole ∙ length-append (concat so.texts) text in
      record {
        count = length (concat so.texts) + prefix.count;
        within = omega (arith, size, prefix.within);
        appended =
            prefix.appended ∙ ap (λ (held : List ℕ). held ++ take prefix.count text) before ∙ append_assoc o0.held (concat so.texts) (take prefix.count text)
            ∙ ap (λ (t : List ℕ). o0.held ++ t) (sym (take-append-add (concat so.texts) text prefix.count))
            ∙ ap (λ (t : List ℕ). o0.held ++ take (length (concat so.texts) + prefix.count) t) (sym whole);
      }

  nothing_more : o2 ≡ o1 → AppendsPrefix o1.held [] o2.held
  nothing_more same = record { count = 0; within = omega arith; appended = ap (λ (o : SinkState). o.held) same ∙ sym (append-nil o1.held) }

  module _ (paths after : List (List ℕ)) (are : many ≡ are_many paths) (cut : paths ≡ done ++ path ∷ after) where
    stops_at : StopsAt change paths (course tells s0 s2) path so.texts
    stops_at = record {
      before = done;
      after = after;
      paths_are = cut;
      before_name = so.named;
      are_texts = λ told. subst (λ (b : Bool). AllZip (HasText change b s0.tree) done so.texts) are (so.are_texts told);
    }

    pub stops_before : o2 ≡ o1 → StopsBefore change paths (course tells s0 s2) (course sinks o0 o2) path
    stops_before same = record { texts = so.texts; stops = stops_at; written = λ told. ap (λ (o : SinkState). o.held) same ∙ so.written told }

    stops_within : (text : List ℕ) → (IsTrue tells → IsLastText change (are_many paths) s0.tree path text) → (IsTrue sinks → AppendsPrefix o1.held text o2.held)
        → StopsWithin change paths (course tells s0 s2) (course sinks o0 o2)
    stops_within text last prefix =
        record { path = path; texts = so.texts; stops = stops_at; last = text; is_last = last; written = λ told. prefix_of text (so.written told) (prefix told) }

    stops_with_nothing : o2 ≡ o1 → StopsWithin change paths (course tells s0 s2) (course sinks o0 o2)
    stops_with_nothing same = stops_within [] (λ told. inl refl) (λ told. nothing_more same)

    module _ (low : s0.faults ≤ s1.faults) (sink_low : o0.faults ≤ o1.faults) (names : IsNoPath path → ⊥) where
      unread_fails : (fault : PreviewFault) → o2 ≡ o1 → IsUnread (course tells s1 s2) path fault → PreviewFails change paths (course tells s0 s2) (course sinks o0 o2) fault
      unread_fails (preview.File disk.Absent) same cause = (
        (λ told. record { path = path; names = names; no_file = ap (λ (tree : Tree). file_of tree path) (sym so.same.tree) ∙ cause.0 told; stops = stops_before same }),
        (λ untold. (risen_since s0.faults s1.faults s2.faults low (cause.1 untold), stops_with_nothing same)),
      )
      unread_fails (preview.File disk.Taken) same cause = cause
      unread_fails (preview.File disk.Failed) same cause = (inl (risen_since s0.faults s1.faults s2.faults low cause), stops_with_nothing same)
      unread_fails (preview.File disk.NoMemory) same cause = cause
      unread_fails (preview.InvalidPath other) same cause = absurd cause
      unread_fails preview.NoMemory same cause = stops_with_nothing same

      pub fails_here : (fault : PreviewFault) → ShowsNot change many path (course tells s1 s2) (course sinks o1 o2) fault → PreviewFails change paths (course tells s0 s2) (course sinks o0 o2) fault
      fails_here fault (inl (same, cause)) = unread_fails fault same cause
      fails_here fault (inr (is, c)) =
          subst (PreviewFails change paths (course tells s0 s2) (course sinks o0 o2)) (sym is) (
            inr (risen_since o0.faults o1.faults o2.faults sink_low c.failed),
            stops_within c.text (λ told. inr (subst (λ (b : Bool). HasText change b s0.tree path c.text) are (text_then c.text (c.has_text told)))) c.written,
          )

-- all were shown
pub shown_all : (change : Change) (many tells sinks : Bool) (s0 s : DiskState) (o0 o : SinkState) (done paths : List (List ℕ)) → IsShownSoFar change many tells sinks s0 s o0 o done → many ≡ are_many paths → done ≡ paths
    → DoesPreview change paths (course tells s0 s) (course sinks o0 o)
shown_all change many tells sinks s0 s o0 o done paths so are whole = record {
  paths_name = subst (All (λ path. IsNoPath path → ⊥)) whole so.named;
  texts = so.texts;
  are_texts = λ told.
      subst (λ (list : List (List ℕ)). AllZip (HasText change (are_many paths) s0.tree) list so.texts) whole
      (subst (λ (b : Bool). AllZip (HasText change b s0.tree) done so.texts) are (so.are_texts told));
  written = so.written;
}
