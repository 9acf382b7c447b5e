-- Files that are made one after another.
use Rattle.std.proofs.Common.{◌≡◌, ◌≢◌, inl, inr, ℕ, List, [], ◌∷◌, ◌++◌, Option, Some, None, option_map, refl, sym, ap, ◌∙◌, subst}
use Rattle.std.proofs.Common.{cond}
use Rattle.std.specs.Str.{bytes_eq}
use Rattle.std.proofs.lemmas.Bool.{false_from_ne_true}
use Rattle.std.proofs.lemmas.List.Elements.{All-head, All-tail}
use Rattle.std.proofs.lemmas.Slice.Eq.{bytes_eq-Decides}
use Rattle.jm_bytes.proofs.Choice.{same_some}
use Rattle.jm_outside.specs.Files.{Files, file, put}
use Rattle.jm_outside.specs.Holds.{HoldsPart}
use Rattle.jm_outside.specs.Made.{BrokenOff, Elsewhere, MadeAll, MadePart, Writes, written}
use Rattle.jm_outside.proofs.Laws.{file-put}

-- One file

pub part_alone : (old new : Option Files) (path bytes : List ℕ) → HoldsPart old path bytes new → MadePart ((path, bytes) ∷ []) old new
part_alone None new path bytes part = tt
part_alone (Some old) None path bytes part = part
part_alone (Some old) (Some new) path bytes (inl same) = inl same
part_alone (Some old) (Some new) path bytes (inr part) = inr (inl part)

-- None, and all

pub made_none : (told : Option Files) → MadeAll [] told told
made_none None = refl
made_none (Some files) = refl

unmade : (files : Files) (writes : Writes) → BrokenOff files writes files
unmade files [] = refl
unmade files (write ∷ writes) = inl refl

pub part_of_none : (writes : Writes) (told : Option Files) → MadePart writes told told
part_of_none writes None = tt
part_of_none writes (Some files) = unmade files writes

all_made : (files : Files) (writes : Writes) → BrokenOff files writes (written files writes)
all_made files [] = refl
all_made files (write ∷ writes) = inr (inr (all_made (put files write.0 write.1) writes))

pub part_of_all : (writes : Writes) (old new : Option Files) → MadeAll writes old new → MadePart writes old new
part_of_all writes None new made = tt
part_of_all writes (Some files) None made = cc
part_of_all writes (Some files) (Some all) made =
    subst (λ (now : Files). BrokenOff files writes now) (sym (same_some all (written files writes) made))
    (all_made files writes)

-- Some, and then others

written-append : (files : Files) (xs ys : Writes) → written files (xs ++ ys) ≡ written (written files xs) ys
written-append files [] ys = refl
written-append files (x ∷ xs) ys = written-append (put files x.0 x.1) xs ys

pub made_append : (xs ys : Writes) (old now new : Option Files) → MadeAll xs old now → MadeAll ys now new → MadeAll (xs ++ ys) old new
made_append xs ys old now new first second = second ∙ ap (option_map (λ files. written files ys)) first ∙ go old
  where
    go : (told : Option Files) → option_map (λ files. written files ys) (option_map (λ files. written files xs) told)
        ≡ option_map (λ files. written files (xs ++ ys)) told
    go None = refl
    go (Some files) = ap (λ (f : Files). Some f) (sym (written-append files xs ys))

broken_behind : (files new : Files) (xs ys : Writes) → BrokenOff (written files xs) ys new → BrokenOff files (xs ++ ys) new
broken_behind files new [] ys broken = broken
broken_behind files new (x ∷ xs) ys broken = inr (inr (broken_behind (put files x.0 x.1) new xs ys broken))

pub part_append : (xs ys : Writes) (old now new : Option Files) → MadeAll xs old now → MadePart ys now new → MadePart (xs ++ ys) old new
part_append xs ys old now new made part = go old new (subst (λ (o : Option Files). MadePart ys o new) made part)
  where
    go : (told after : Option Files) → MadePart ys (option_map (λ files. written files xs) told) after → MadePart (xs ++ ys) told after
    go None after part = tt
    go (Some files) None part = part
    go (Some files) (Some all) part = broken_behind files all xs ys part

broken_longer : (files new : Files) (xs ys : Writes) → BrokenOff files xs new → BrokenOff files (xs ++ ys) new
broken_longer files new [] ys same = subst (λ (f : Files). BrokenOff files ys f) (sym same) (unmade files ys)
broken_longer files new (x ∷ xs) ys (inl same) = inl same
broken_longer files new (x ∷ xs) ys (inr (inl part)) = inr (inl part)
broken_longer files new (x ∷ xs) ys (inr (inr broken)) = inr (inr (broken_longer (put files x.0 x.1) new xs ys broken))

pub part_longer : (xs ys : Writes) (old new : Option Files) → MadePart xs old new → MadePart (xs ++ ys) old new
part_longer xs ys None new part = tt
part_longer xs ys (Some files) None part = part
part_longer xs ys (Some files) (Some all) part = broken_longer files all xs ys part

-- At other paths

file_put-elsewhere : (files : Files) (other bytes path : List ℕ) → other ≢ path → file (put files other bytes) path ≡ file files path
file_put-elsewhere files other bytes path differ =
    file-put files other bytes path
    ∙ ap (λ b. cond b (Some bytes) (file files path))
    (false_from_ne_true (bytes_eq path other) (λ same. differ (sym ((bytes_eq-Decides path other).0 same))))

-- files that are made at other paths leave a file
pub file-written : (files : Files) (writes : Writes) (path : List ℕ) → Elsewhere writes path → file (written files writes) path
    ≡ file files path
file-written files [] path elsewhere = refl
file-written files (write ∷ writes) path elsewhere =
    file-written (put files write.0 write.1) writes path (All-tail (λ (w : List ℕ × List ℕ). w.0 ≢ path) write writes elsewhere)
    ∙ file_put-elsewhere files write.0 write.1 path (All-head (λ (w : List ℕ × List ℕ). w.0 ≢ path) write writes elsewhere)
