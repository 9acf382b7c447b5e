-- What an extraction came to, from what its steps did.
use Rattle.std.proofs.Common.{◌≡◌, ℕ, ◌+◌, ◌<◌, List, [], ◌∷◌, ◌++◌, drop, length, map, take, get_or, Option}
use Rattle.std.proofs.Common.{None, Some, Result, Ok, Err, IsErrAnd, refl, sym, ap, subst, ◌∙◌}
use Rattle.std.proofs.lemmas.List.{map-append, take-append-drop, take_more}
use Rattle.jm_bytes.specs.Checks.{unless_fault}
use Rattle.jm_outside.specs.declared.shelf.ShelfError.{ShelfError}
use Rattle.jm_outside.specs.declared.shelf.ShelfError.TheVariants as outside
use Rattle.jm_outside.specs.Files.{Files}
use Rattle.jm_outside.specs.Made.{MadeAll, MadePart, Writes}
use Rattle.jm_outside.proofs.MadeLaws.{made_append, part_append, part_longer, part_of_none}
use Rattle.jm_names.specs.ByName.{Named}
use Rattle.jm_texts.specs.declared.refusal.Refusal.{Refusal}
use Rattle.jm_extract.specs.declared.extracting.ExtractStop.{ExtractStop}
use Rattle.jm_extract.specs.declared.extracting.ExtractStop.TheVariants as stop
use Rattle.jm_filed.specs.declared.taking.TakenEntry.{TakenEntry}
use Rattle.jm_extract.specs.Extracted.{BreaksOff, Extracts, refusal_of, unless_refused, write_of, writes_of}
use Rattle.jm_extract.specs.Stops.{stop_of}
use Rattle.jm_filed.specs.Taken.{taken_as}

-- One file more

next_write : (b dir : List ℕ) (ts : List TakenEntry) (i : ℕ) (t : TakenEntry) → i < length ts → get_or ts i t ≡ t
    → writes_of dir (map (taken_as b) (take i ts)) ++ write_of dir (taken_as b t) ∷ [] ≡ writes_of dir (map (taken_as b) (take (i + 1) ts))
next_write b dir ts i t within is =
    sym (ap (λ us. writes_of dir (map (taken_as b) us)) (take_more ts i t within)
    ∙ ap (writes_of dir) (map-append (taken_as b) (take i ts) (get_or ts i t ∷ []))
    ∙ map-append (write_of dir) (map (taken_as b) (take i ts)) (taken_as b (get_or ts i t) ∷ [])
    ∙ ap (λ (s : TakenEntry). writes_of dir (map (taken_as b) (take i ts)) ++ write_of dir (taken_as b s) ∷ []) is)

pub made_next : (b dir : List ℕ) (ts : List TakenEntry) (i : ℕ) (t : TakenEntry) (old now new : Option Files) → i < length ts
    → get_or ts i t ≡ t → MadeAll (writes_of dir (map (taken_as b) (take i ts))) old now → MadeAll (write_of dir (taken_as b t) ∷ []) now
    new → MadeAll (writes_of dir (map (taken_as b) (take (i + 1) ts))) old new
made_next b dir ts i t old now new within is done made =
    subst (λ (ws : Writes). MadeAll ws old new) (next_write b dir ts i t within is)
    (made_append (writes_of dir (map (taken_as b) (take i ts))) (write_of dir (taken_as b t) ∷ []) old now new done made)

pub part_next : (b dir : List ℕ) (ts : List TakenEntry) (i : ℕ) (t : TakenEntry) (old now new : Option Files) → i < length ts
    → get_or ts i t ≡ t → MadeAll (writes_of dir (map (taken_as b) (take i ts))) old now → MadePart (write_of dir (taken_as b t) ∷ []) now
    new → MadePart (writes_of dir (map (taken_as b) ts)) old new
part_next b dir ts i t old now new within is done part =
    subst (λ (ws : Writes). MadePart ws old new) whole
    (part_longer (writes_of dir (map (taken_as b) (take (i + 1) ts))) (writes_of dir (map (taken_as b) (drop (i + 1) ts))) old new
    (subst (λ (ws : Writes). MadePart ws old new) (next_write b dir ts i t within is)
    (part_append (writes_of dir (map (taken_as b) (take i ts))) (write_of dir (taken_as b t) ∷ []) old now new done part)))
  where
    whole : writes_of dir (map (taken_as b) (take (i + 1) ts)) ++ writes_of dir (map (taken_as b) (drop (i + 1) ts))
        ≡ writes_of dir (map (taken_as b) ts)
    whole =
        sym (map-append (write_of dir) (map (taken_as b) (take (i + 1) ts)) (map (taken_as b) (drop (i + 1) ts)))
        ∙ ap (writes_of dir) (sym (map-append (taken_as b) (take (i + 1) ts) (drop (i + 1) ts)))
        ∙ ap (λ us. writes_of dir (map (taken_as b) us)) (take-append-drop (i + 1) ts)

-- The answer

breaks_off : (due : Result (List Named) Refusal) (dir : List ℕ) (told : Option Files) → BreaksOff due dir told told
breaks_off (Ok es) dir told = part_of_none (writes_of dir es) told
breaks_off (Err refusal) dir told = refl

-- no memory, before a file was changed
pub out_of_memory : (due : Result (List Named) Refusal) (dir : List ℕ) (answer : Result ℕ ExtractStop) (told : Option Files)
    → IsErrAnd answer (λ is. is ≡ stop.Memory) → Extracts due dir answer told told
out_of_memory due dir (Ok count) told gives = absurd gives
out_of_memory due dir (Err is) told gives =
    subst (λ (s : ExtractStop). Extracts due dir (Err s) told told) (sym gives) (breaks_off due dir told)

-- the refusal of entries that are those taken is due
pub refused_due : (entries all : List Named) (refused : Refusal) → entries ≡ all → Some refused ≡ refusal_of entries
    → unless_refused all ≡ Err refused
refused_due entries all refused same is = ap unless_refused (sym same) ∙ ap (λ o. unless_fault o entries) (sym is)

-- without one the entries are
pub free_due : (entries all : List Named) → entries ≡ all → ◌≡◌ {A = Option Refusal} None (refusal_of entries)
    → unless_refused all ≡ Ok entries
free_due entries all same free = ap unless_refused (sym same) ∙ ap (λ o. unless_fault o entries) (sym free)

-- the entries are due, and a call of the shelf failed when some of the files were made
pub broken_off : (due : Result (List Named) Refusal) (entries : List Named) (dir : List ℕ) (answer : Result ℕ ExtractStop)
    (error : ShelfError) (old new : Option Files) → due ≡ Ok entries → IsErrAnd answer (λ is. is ≡ stop_of error)
    → MadePart (writes_of dir entries) old new → Extracts due dir answer old new
broken_off due entries dir (Ok count) error old new free gives part = absurd gives
broken_off due entries dir (Err is) error old new free gives part =
    subst (λ (s : ExtractStop). Extracts due dir (Err s) old new) (sym gives)
    (subst (λ (d : Result (List Named) Refusal). Extracts d dir (Err (stop_of error)) old new) (sym free) (stopped error))
  where
    stopped : (error : ShelfError) → Extracts (Ok entries) dir (Err (stop_of error)) old new
    stopped outside.Failed = part
    stopped outside.Memory = part
