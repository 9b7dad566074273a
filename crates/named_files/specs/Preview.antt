-- What a preview of named files writes, and how it ends.
use Rattle.std.specs.Prelude.{◌≡◌, ◌⊎◌, ℕ, zero, suc, Bool, true, false, IsTrue, List, [], ◌∷◌, ◌++◌, codes, All, Some, None, if◌then◌else◌}
use Rattle.std.specs.List.{concat, AllZip}
use Rattle.sd_io.specs.Tree.{Tree}
use Rattle.sd_io.specs.Files.{file_of}
use Rattle.sd_io.specs.Disk.{DiskState}
use Rattle.sd_io.specs.Streams.{SinkState}
use Rattle.sd_io.specs.declared.fault.DiskFault.{DiskFault}
use Rattle.sd_io.specs.declared.fault.DiskFault.TheVariants as disk
use Rattle.sd_change.specs.Change.{Change}
use Rattle.sd_course.specs.Course.{Course, AsTold, DiskFailed, SinkFailed, AppendsPrefix}
use Rattle.file_rewrite.specs.Paths.{IsNoPath}
use Rattle.file_rewrite.specs.OneFile.{IsFileFault}
use Rattle.named_files.specs.declared.fault.PreviewFault.{PreviewFault}
use Rattle.named_files.specs.declared.fault.PreviewFault.TheVariants as preview
use Rattle.named_files.specs.declared.preview.Headers.{Headers}
use Rattle.named_files.specs.declared.preview.Headers.TheVariants as headers

-- ---- texts

-- the line before a file's text, where more than one file was named
abbrev pub header_of : List ℕ → List ℕ
header_of path = codes "----- FILE " ++ path ++ codes " -----\n"

abbrev pub header_where : Bool → List ℕ → List ℕ
header_where many path = if many then header_of path else []

-- the text of a file with these new bytes and so many spans
abbrev pub text_with : Bool → List ℕ → List ℕ → ℕ → List ℕ
text_with many path new_bytes zero = []
text_with many path new_bytes (suc spans) = header_where many path ++ new_bytes ++ codes "\n"

-- the text of a file with these bytes: none where it is empty, or has nothing to replace
abbrev pub IsTextOf : Change → Bool → List ℕ → List ℕ → List ℕ → Type 0
IsTextOf change many path [] text = text ≡ []
IsTextOf change many path (byte ∷ bytes) text =
    (new_bytes : List ℕ) × (count : ℕ) × change (byte ∷ bytes) new_bytes count × (text ≡ text_with many path new_bytes count)

-- the text of a word, whose path leads to a regular file
pub record HasText (change : Change) (many : Bool) (tree : Tree) (path text : List ℕ) : Type 0 where
  pub bytes : List ℕ
  pub mode : ℕ
  pub is_file : file_of tree path ≡ Some (bytes, mode)
  pub text_is : IsTextOf change many path bytes text

-- more than one word
abbrev pub are_many : List (List ℕ) → Bool
are_many [] = false
are_many (path ∷ []) = false
are_many (path ∷ next ∷ paths) = true

-- whether texts have header lines
abbrev pub have_headers : Headers → Bool
have_headers headers.Written = true
have_headers headers.LeftOut = false

-- ---- one word

-- why the bytes of a file aren't made
abbrev pub IsUnread : Course DiskState → List ℕ → PreviewFault → Type 0
IsUnread d path (preview.File fault) = IsFileFault d path fault
IsUnread d path (preview.InvalidPath named) = ⊥
IsUnread d path preview.NoMemory = Unit {0}

-- the text of the word was written
pub record Shows (change : Change) (many : Bool) (path : List ℕ) (d : Course DiskState) (out : Course SinkState) : Type 0 where
  pub text : List ℕ
  pub has_text : IsTrue d.tells → HasText change many d.old.tree path text
  pub written : IsTrue out.tells → out.new.held ≡ out.old.held ++ text

-- the sink failed within the text of the word
pub record IsCutOff (change : Change) (many : Bool) (path : List ℕ) (d : Course DiskState) (out : Course SinkState) : Type 0 where
  pub text : List ℕ
  pub has_text : IsTrue d.tells → HasText change many d.old.tree path text
  pub failed : SinkFailed out
  pub written : IsTrue out.tells → AppendsPrefix out.old.held text out.new.held

-- nothing of it was written, or the sink failed within it
abbrev pub ShowsNot : Change → Bool → List ℕ → Course DiskState → Course SinkState → PreviewFault → Type 0
ShowsNot change many path d out fault = ((out.new ≡ out.old) × IsUnread d path fault) ⊎ ((fault ≡ preview.File disk.Failed) × IsCutOff change many path d out)

-- ---- all words

-- the sink grew by exactly these texts
abbrev pub WritesTexts : List (List ℕ) → Course SinkState → Type 0
WritesTexts texts out = IsTrue out.tells → out.new.held ≡ out.old.held ++ concat texts

-- it grew by a prefix of them
abbrev pub WritesTextsPrefix : List (List ℕ) → Course SinkState → Type 0
WritesTextsPrefix texts out = IsTrue out.tells → AppendsPrefix out.old.held (concat texts) out.new.held

-- Each word led to a regular file, and the texts of all were written in order.
pub record DoesPreview (change : Change) (paths : List (List ℕ)) (d : Course DiskState) (out : Course SinkState) : Type 0 where
  pub paths_name : All (λ path. IsNoPath path → ⊥) paths
  pub texts : List (List ℕ)
  pub are_texts : IsTrue d.tells → AllZip (HasText change (are_many paths) d.old.tree) paths texts
  pub written : WritesTexts texts out

-- the words before one, and their texts
pub record StopsAt (change : Change) (paths : List (List ℕ)) (d : Course DiskState) (path : List ℕ) (texts : List (List ℕ)) : Type 0 where
  pub before : List (List ℕ)
  pub after : List (List ℕ)
  pub paths_are : paths ≡ before ++ path ∷ after
  pub before_name : All (λ other. IsNoPath other → ⊥) before
  pub are_texts : IsTrue d.tells → AllZip (HasText change (are_many paths) d.old.tree) before texts

-- it ended at this word, and exactly the texts of those before it were written
pub record StopsBefore (change : Change) (paths : List (List ℕ)) (d : Course DiskState) (out : Course SinkState) (path : List ℕ) : Type 0 where
  pub texts : List (List ℕ)
  pub stops : StopsAt change paths d path texts
  pub written : WritesTexts texts out

-- the text of the word itself, or none
abbrev pub IsLastText : Change → Bool → Tree → List ℕ → List ℕ → Type 0
IsLastText change many tree path text = (text ≡ []) ⊎ HasText change many tree path text

-- it ended at some word, and a prefix of the texts up to that one was written
pub record StopsWithin (change : Change) (paths : List (List ℕ)) (d : Course DiskState) (out : Course SinkState) : Type 0 where
  pub path : List ℕ
  pub texts : List (List ℕ)
  pub stops : StopsAt change paths d path texts
  pub last : List ℕ
  pub is_last : IsTrue d.tells → IsLastText change (are_many paths) d.old.tree path last
  pub written : WritesTextsPrefix (texts ++ last ∷ []) out

-- it ended at a word that names a file, and leads to no regular one
pub record StopsAtNoFile (change : Change) (paths : List (List ℕ)) (d : Course DiskState) (out : Course SinkState) : Type 0 where
  pub path : List ℕ
  pub names : IsNoPath path → ⊥
  pub no_file : file_of d.old.tree path ≡ None
  pub stops : StopsBefore change paths d out path

-- why a preview ends with the fault of a file, and what was written then
abbrev pub PreviewFaults : Change → List (List ℕ) → Course DiskState → Course SinkState → DiskFault → Type 0
PreviewFaults change paths d out disk.Failed = (DiskFailed d ⊎ SinkFailed out) × StopsWithin change paths d out
PreviewFaults change paths d out disk.Absent = AsTold d.tells (StopsAtNoFile change paths d out) (DiskFailed d × StopsWithin change paths d out)
PreviewFaults change paths d out disk.Taken = ⊥
PreviewFaults change paths d out disk.NoMemory = ⊥

-- Why a preview ends early, and what was written then.
abbrev pub PreviewFails : Change → List (List ℕ) → Course DiskState → Course SinkState → PreviewFault → Type 0
PreviewFails change paths d out (preview.File fault) = PreviewFaults change paths d out fault
PreviewFails change paths d out (preview.InvalidPath path) = IsNoPath path × StopsBefore change paths d out path
PreviewFails change paths d out preview.NoMemory = StopsWithin change paths d out

-- the word is told that it names no file, unless the disk or the sink failed, or there was no memory
abbrev pub AnswersNoPath : Course DiskState → Course SinkState → List ℕ → PreviewFault → Type 0
AnswersNoPath d out path fault =
    (fault ≡ preview.InvalidPath path) ⊎ (fault ≡ preview.NoMemory) ⊎ ((fault ≡ preview.File disk.Failed) × (DiskFailed d ⊎ SinkFailed out))

-- ---- faults

-- the fault of a reading; want of memory is an answer of its own
abbrev pub as_preview : DiskFault → PreviewFault
as_preview disk.Absent = preview.File disk.Absent
as_preview disk.Taken = preview.File disk.Taken
as_preview disk.Failed = preview.File disk.Failed
as_preview disk.NoMemory = preview.NoMemory
