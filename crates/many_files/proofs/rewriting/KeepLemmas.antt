-- What stays while files are rewritten.
use Rattle.std.proofs.Common.{◌≡◌, ◌≢◌, ◌⊎◌, ℕ, true, List, refl, sym, ◌∙◌, ap, subst, inl, inr}
use Rattle.std.specs.Prelude.{Option, Some, None, IsSome, is_some, Result, Ok, Err, IfOk, IfErr}
use Rattle.std.specs.Option.{option_and_then}
use Rattle.std.proofs.lemmas.Option.{same_Some}
use Rattle.sd_io.specs.Tree.{NameList, Content, directory, link, file, other, Node, Tree, node_at, file_content, file_node, file_at}
use Rattle.sd_io.specs.Paths.{reached, way_of, way_of_node}
use Rattle.sd_io.specs.Files.{file_of}
use Rattle.sd_io.specs.Disk.{DiskState}
use Rattle.sd_io.proofs.WayLemmas.{same_or_other}
use Rattle.sd_change.specs.Change.{Change, FileChange}
use Rattle.file_rewrite.specs.Rewritten.{IsOldOrNew, IsLeft}
use Rattle.file_rewrite.specs.OneFile.{RewritesFile, LeavesFile}
use Rattle.file_rewrite.specs.declared.rewrite.Rewrite.{Rewrite}
use Rattle.file_rewrite.specs.declared.fault.JobFault.{JobFault}
use Rattle.file_rewrite.specs.declared.fault.JobFault.TheVariants as job
use Rattle.many_files.proofs.rewriting.WayLemmas.{KeepsWays, still_leads}

-- what stood goes on in the same way, and files are files
pub record KeepsAll (old new : Tree) : Type 0 where
  pub ways : KeepsWays old new
  pub stands : (q : NameList) → IsSome (node_at old q) → IsSome (node_at new q)
  pub files : (q : NameList) → IsSome (file_at old q) → IsSome (file_at new q)

pub keeps_itself : (tree : Tree) → KeepsAll tree tree
keeps_itself tree = record { ways = record { ways = λ q is. refl }; stands = λ q is. is; files = λ q is. is }

pub keeps_then : (r s t : Tree) → KeepsAll r s → KeepsAll s t → KeepsAll r t
keeps_then r s t a b = record {
  ways = record { ways = λ q is. b.ways.ways q (a.stands q is) ∙ a.ways.ways q is };
  stands = λ q is. b.stands q (a.stands q is);
  files = λ q is. b.files q (a.files q is);
}

content_way : (c : Content) → IsSome (file_content c) → way_of c ≡ None
content_way directory is = cc
content_way (link target) is = cc
content_way (file bytes mode) is = refl
content_way other is = cc

file_way : (o : Option Node) → IsSome (file_node o) → way_of_node o ≡ None
file_way None is = refl
file_way (Some node) is = content_way node.content is

pub file_there : (o : Option Node) → IsSome (file_node o) → IsSome o
file_there None is = is
file_there (Some node) is = refl

no_node : (o : Option Node) → o ≡ None → IsSome o → ⊥
no_node None e is = cc
no_node (Some node) e is = cc

pub some_or_not : (o : Option NameList) (place : NameList) → (o ≡ Some place) ⊎ (o ≢ Some place)
some_or_not None place = inr (λ e. cc)
some_or_not (Some q) place = elim (same_or_other q place) [ inl e ↦ inl (ap (λ (p : NameList). Some p) e) | inr n ↦ inr (λ e. n (same_Some q place e)) ]

-- a file stands at the place before and after, and all else is as before but a name that was free
module _ (old new : Tree) (place : NameList) (left : Option NameList) (was : IsSome (file_at old place)) (is : IsSome (file_at new place))
    (free : (q : NameList) → left ≡ Some q → node_at old q ≡ None)
    (others : (q : NameList) → q ≢ place → left ≢ Some q → node_at new q ≡ node_at old q) where
  file_was : (q : NameList) → q ≡ place → IsSome (file_at old q)
  file_was q here = subst (λ (p : NameList). IsSome (file_at old p)) (sym here) was

  file_is : (q : NameList) → q ≡ place → IsSome (file_at new q)
  file_is q here = subst (λ (p : NameList). IsSome (file_at new p)) (sym here) is

  -- it is the place, or as before
  here_or_same : (q : NameList) → IsSome (node_at old q) → (q ≡ place) ⊎ (node_at new q ≡ node_at old q)
  here_or_same q stood = elim (same_or_other q place) [
    | inl here ↦ inl here
    | inr n ↦ elim (some_or_not left q) [ inl l ↦ absurd (no_node (node_at old q) (free q l) stood) | inr m ↦ inr (others q n m) ]
  ]

  keeps_but : KeepsAll old new
  keeps_but = record {
    ways = record {
      ways = λ q stood. elim (here_or_same q stood) [
        | inl here ↦ file_way (node_at new q) (file_is q here) ∙ sym (file_way (node_at old q) (file_was q here))
        | inr same ↦ ap way_of_node same
      ];
    };
    stands = λ q stood. elim (here_or_same q stood) [
      | inl here ↦ file_there (node_at new q) (file_is q here)
      | inr same ↦ subst (λ (o : Option Node). IsSome o) (sym same) stood
    ];
    files = λ q was_file. elim (here_or_same q (file_there (node_at old q) was_file)) [
      | inl here ↦ file_is q here
      | inr same ↦ subst (λ (o : Option Node). IsSome (file_node o)) (sym same) was_file
    ];
  }

old_or_new_file : (change : Change) (old new : Tree) (place : NameList) → IsSome (file_at old place) → IsOldOrNew change old new place
    → IsSome (file_at new place)
old_or_new_file change old new place was (inl same) = subst (λ (o : Option Node). IsSome (file_node o)) (sym same) was
old_or_new_file change old new place was (inr now) = ap is_some now.holds

left_file : (change : Change) (old new : Tree) (place : NameList) (fault : JobFault) → IsSome (file_at old place) → IsLeft change old new place fault
    → IsSome (file_at new place)
left_file change old new place (job.File fault) was is = old_or_new_file change old new place was (inl is)
left_file change old new place (job.TempfilePersist fault) was is = old_or_new_file change old new place was is
left_file change old new place job.InvalidPath was is = old_or_new_file change old new place was (inl is)
left_file change old new place job.TempName was is = old_or_new_file change old new place was (inl is)
left_file change old new place job.NoMemory was is = old_or_new_file change old new place was is

rewritten_keeps : (change : Change) (path : List ℕ) (rewrite : Rewrite) (old new : DiskState) → RewritesFile change path rewrite old new
    → KeepsAll old.tree new.tree
rewritten_keeps change path rewrite old new r =
    keeps_but old.tree new.tree r.place None (ap is_some r.was) (ap is_some r.holds) (λ q e. cc) (λ q n m. r.others q n)

refused_keeps : (change : Change) (path : List ℕ) (fault : JobFault) (old new : DiskState) → LeavesFile change path fault old new → KeepsAll old.tree new.tree
refused_keeps change path fault old new (inl same) = subst (λ (t : Tree). KeepsAll old.tree t) (sym same.tree) (keeps_itself old.tree)
refused_keeps change path fault old new (inr l) =
    keeps_but old.tree new.tree l.place l.temporary l.is_file (left_file (FileChange change) old.tree new.tree l.place fault l.is_file l.left)
    (λ q e. (l.was_free q e).free) l.others

pub one_keeps : (change : Change) (path : List ℕ) (result : Result Rewrite JobFault) (old new : DiskState)
    → IfOk result (λ rewrite. RewritesFile change path rewrite old new)
    → IfErr result (λ fault. LeavesFile change path fault old new) → KeepsAll old.tree new.tree
one_keeps change path (Ok rewrite) old new rewritten left = rewritten_keeps change path rewrite old new rewritten
one_keeps change path (Err fault) old new rewritten left = refused_keeps change path fault old new left

-- where no file stands later none stood
pub not_none : (o : Option (List ℕ × ℕ)) → IsSome o → o ≡ None → ⊥
not_none None is e = cc
not_none (Some x) is e = cc

pub still_none : (old new : Tree) (path : List ℕ) → KeepsAll old new → file_of new path ≡ None → file_of old path ≡ None
still_none old new path keeps none = by (reached old path true) refl
  where
    by_file : (q : NameList) (o : Option (List ℕ × ℕ)) → reached old path true ≡ Some q → file_at old q ≡ o → file_of old path ≡ None
    by_file q None leads e = ap (option_and_then (file_at old)) leads ∙ e
    by_file q (Some x) leads e =
        let was : IsSome (file_at old q) = ap is_some e in
        let still : reached new path true ≡ Some q = still_leads keeps.ways path true q leads (keeps.stands q (file_there (node_at old q) was)) in
        absurd (not_none (file_at new q) (keeps.files q was) (sym (ap (option_and_then (file_at new)) still) ∙ none))

    by : (o : Option NameList) → reached old path true ≡ o → file_of old path ≡ None
    by None e = ap (option_and_then (file_at old)) e
    by (Some q) e = by_file q (file_at old q) e refl
