-- The files that are made of the taken entries of an image, or why none is (this project's rule).
use Rattle.std.specs.Prelude.{ℕ, ◌≡◌, nat_eq, Bool, List, [], ◌∷◌, ◌++◌, length, map, Option}
use Rattle.std.specs.Prelude.{Result, Ok, Err}
use Rattle.std.specs.List.{list_any, starts_with, sum_by}
use Rattle.jm_bytes.specs.Checks.{fault_if, first_fault, unless_fault}
use Rattle.jm_names.specs.UtfForms.{utf}
use Rattle.jm_outside.specs.Files.{Files}
use Rattle.jm_outside.specs.Made.{MadeAll, MadePart, Writes}
use Rattle.jm_pattern.specs.declared.signs.Sign.{Sign}
use Rattle.jm_names.specs.ByName.{Named}
use Rattle.jm_texts.specs.NameRefusals.{first_bad_name}
use Rattle.jm_texts.specs.declared.refusal.Refusal.{Refusal}
use Rattle.jm_texts.specs.declared.refusal.Refusal.TheVariants as refusal
use Rattle.jm_extract.specs.declared.extracting.ExtractStop.{ExtractStop}
use Rattle.jm_extract.specs.declared.extracting.ExtractStop.TheVariants as stop
use Rattle.jm_filed.specs.Taken.{taken}

-- Refusals

-- the name of an entry begins with these bytes
abbrev pub begins : List Named → List ℕ → Bool
begins entries front = list_any (λ e. starts_with nat_eq e.0 front) entries

-- the refusal of a name that is another one's folder: with a slash after it, another name begins
-- so
abbrev pub clash_refusal : List Named → Named → Option Refusal
clash_refusal entries e = fault_if (begins entries (e.0 ++ 47 ∷ [])) (refusal.Clash e.0)

-- the refusal of the first name that is another one's folder, or none
abbrev pub first_clash : List Named → Option Refusal
first_clash entries = first_fault (map (clash_refusal entries) entries)

-- the refusal of the first name that may not stand in an image, before that of one that is
-- another's folder
unfoldable pub refusal_of : List Named → Option Refusal
refusal_of entries = first_fault (first_bad_name entries ∷ first_clash entries ∷ [])

-- the entries, or their refusal
abbrev pub unless_refused : List Named → Result (List Named) Refusal
unless_refused entries = unless_fault (refusal_of entries) entries

-- the entries of an image that are extracted, by rising name, or the refusal
abbrev pub extracted : List ℕ → Option (List (List Sign)) → Result (List Named) Refusal
extracted b include = unless_refused (taken b include)

-- Files

-- the path of the file of an entry of this name: the directory, and the name in UTF-8
abbrev pub path_of : List ℕ → List ℕ → List ℕ
path_of dir name = dir ++ utf name

-- the file of an entry: its path, and the content
abbrev pub write_of : List ℕ → Named → List ℕ × List ℕ
write_of dir e = (path_of dir e.0, e.1)

-- the files of some entries below a directory, in their order
abbrev pub writes_of : List ℕ → List Named → Writes
writes_of dir entries = map (write_of dir) entries

-- some of the files were made; none, where a refusal is due
abbrev pub BreaksOff : Result (List Named) Refusal → List ℕ → Option Files → Option Files → Type 0
BreaksOff (Ok entries) dir old new = MadePart (writes_of dir entries) old new
BreaksOff (Err refusal) dir old new = new ≡ old

-- what an extraction did, by its answer: that many files, all of them; a refusal, and no file was
-- changed; a failure of the outside; no memory
abbrev pub Extracts : Result (List Named) Refusal → List ℕ → Result ℕ ExtractStop
    → (old new : Option Files) → Type 0
Extracts due dir (Ok count) old new =
    (entries : List Named) × (due ≡ Ok entries) × (count ≡ length entries)
    × MadeAll (writes_of dir entries) old new
Extracts due dir (Err (stop.Refused refusal)) old new = (due ≡ Err refusal) × (new ≡ old)
Extracts due dir (Err stop.Outside) old new = BreaksOff due dir old new
Extracts due dir (Err stop.Memory) old new = BreaksOff due dir old new

-- all of these files were made; some of them, where a call of the shelf gave up
abbrev pub Makes : {A E : Type 0} → Result A E → Writes → (old new : Option Files) → Type 0
Makes (Ok _) writes old new = MadeAll writes old new
Makes (Err _) writes old new = MadePart writes old new

-- Bytes

-- how many bytes the contents have together of the entries that are due; none, where a refusal is
abbrev pub due_size : Result (List Named) Refusal → ℕ
due_size (Ok entries) = sum_by (λ e. length e.1) entries
due_size (Err refusal) = 0

-- how many bytes the contents of an image have together that are extracted
abbrev pub taken_size : List ℕ → Option (List (List Sign)) → ℕ
taken_size b include = due_size (extracted b include)
