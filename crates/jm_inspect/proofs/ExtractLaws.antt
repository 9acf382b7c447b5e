-- What `extract` does, from what its call answered.
use Rattle.std.proofs.Common.{◌≡◌, inl, ℕ, List, [], length, Option, Result, Ok, Err, IsTrue, refl, sym, ap, subst}
use Rattle.jm_outside.specs.Made.{MadePart}
use Rattle.jm_names.specs.ByName.{Named}
use Rattle.jm_texts.specs.declared.refusal.Refusal.{Refusal}
use Rattle.jm_extract.specs.declared.extracting.ExtractStop.{ExtractStop}
use Rattle.jm_extract.specs.declared.extracting.ExtractStop.TheVariants as extract_stop
use Rattle.jm_extract.specs.Extracted.{BreaksOff, Extracts, extracted, writes_of}
use Rattle.jm_filed.specs.Filed.{IsFiled}
use Rattle.jm_outside.specs.Files.{Files}
use Rattle.jm_outside.specs.Shelves.{ShelfFailed}
use Rattle.jm_pattern.specs.declared.signs.Sign.{Sign}
use Rattle.jm_valid.specs.Opened.{Front}
use Rattle.jm_words.specs.declared.tasks.ImageWork.TheVariants as work
use Rattle.jm_inspect.specs.declared.complaint.Complaint.TheVariants as complaint
use Rattle.jm_inspect.specs.declared.stop.Stop.{Stop}
use Rattle.jm_inspect.specs.declared.stop.Stop.TheVariants as stop
use Rattle.jm_inspect.specs.ExtractText.{extract_text}
use Rattle.jm_inspect.specs.FailedBefore.{WorkFailed}
use Rattle.jm_inspect.specs.FileParts.{IsOpenFront}
use Rattle.jm_inspect.specs.Outcome.{done, extract_outcome, image_outcome, reading, refusing}
use Rattle.jm_inspect.specs.Steps.{PutDoes, StepComesTo, StepDoes}
use Rattle.jm_inspect.specs.Works.{WorkComesTo}
use Rattle.jm_inspect.specs.Sinks.{Seen}
use Rattle.jm_inspect.specs.Stops.{stop_of_extract}
use Rattle.jm_inspect.specs.World.{World}
use Rattle.jm_inspect.proofs.FrontLaws.{filed_there, of_work, opened}
use Rattle.jm_inspect.proofs.Made.{stays_part}
use Rattle.jm_inspect.proofs.OutcomeLaws.{extract_session}
use Rattle.jm_inspect.proofs.StepLaws.{complained, made_in_part, made_put, on_any_text, put_step}

-- files that were broken off were made in part
broken_part : (dir : List ℕ) (due : Result (List Named) Refusal) (old new : Option Files) → BreaksOff due dir old new
    → MadePart (extract_outcome dir due).writes old new
broken_part dir (Ok entries) old new part = part
broken_part dir (Err refusal) old new same = stays_part [] old new same

-- the shelf may fail before either
shelf_failed : (dir : List ℕ) (due : Result (List Named) Refusal) (old new : World) → ShelfFailed old.shelf new.shelf
    → WorkFailed reading (extract_outcome dir due).session (extract_outcome dir due).status old new
shelf_failed dir (Ok entries) old new failed = inl (refl, failed)
shelf_failed dir (Err refusal) old new failed = (refl, failed)

module _ (dir : List ℕ) (due : Result (List Named) Refusal) (old new : World) (input : new.input ≡ old.input) where
  abbrev Does : Result (Unit {0}) Stop → Type 0
  Does answer = StepDoes reading (extract_outcome dir due) answer old new

  source : new.input.told ≡ old.input.told
  source = ap (λ (s : Seen (List ℕ)). s.told) input

  -- the files were made, and then the text was put
  pub extract_put : (count : ℕ) (answer : Result (Unit {0}) Stop) → Extracts due dir (Ok count) old.shelf.told new.shelf.told
      → IsTrue new.shelf.whole → IsTrue new.shelf.durable → new.shelf.faults ≡ old.shelf.faults
      → PutDoes (done (extract_text count)) answer old.out new.out → Does answer
  extract_put count answer (entries, is, counted, made) whole durable kept put =
      subst (λ (d : Result (List Named) Refusal). StepDoes reading (extract_outcome dir d) answer old new) (sym is)
      (made_put (writes_of dir entries) (extract_text (length entries)) answer old new
      (record { stand = record { made = made; whole = λ some. whole }; durable = λ some. durable }) kept input (subst (λ (n : ℕ). PutDoes (done (extract_text n)) answer old.out new.out) counted put))

  -- it stopped before anything was put
  pub extract_stopped : (given : ExtractStop) → Extracts due dir (Err given) old.shelf.told new.shelf.told
      → (given ≡ extract_stop.Outside → ShelfFailed old.shelf new.shelf) → new.out.told ≡ old.out.told → Does (Err (stop_of_extract given))
  extract_stopped (extract_stop.Refused refusal) (is, files) rose unput =
      subst (λ (d : Result (List Named) Refusal). StepDoes reading (extract_outcome dir d) answer old new) (sym is)
      (put_step (refusing refusal) old new files source refl answer (complained (refusing refusal) (complaint.Refused refusal)
      old.out new.out refl unput) (λ ok. cc))
    where
      answer : Result (Unit {0}) Stop
      answer = Err (stop.Complaint (complaint.Refused refusal))
  extract_stopped extract_stop.Outside broken rose unput =
      made_in_part (extract_outcome dir due) stop.Outside old new tt (extract_session dir due)
      (broken_part dir due old.shelf.told new.shelf.told broken) source unput (λ failed. shelf_failed dir due old new (rose refl))
  extract_stopped extract_stop.Memory broken rose unput =
      made_in_part (extract_outcome dir due) stop.Memory old new tt (extract_session dir due)
      (broken_part dir due old.shelf.told new.shelf.told broken) source unput (λ failed. cc)

-- of the image in the file of a path
pub extract_does : (dir : List ℕ) (include : Option (List (List Sign))) (path : List ℕ) (front : Front) (answer : Result (Unit {0}) Stop)
    (old new : World) → IsOpenFront old.shelf.told path front
    → ((b : List ℕ) → IsFiled front old.shelf.told path b → StepDoes reading (extract_outcome dir (extracted b include)) answer old new)
    → StepComesTo (WorkComesTo old.shelf.told old.input.told path (work.Extract dir include)) reading answer old new
extract_does dir include path front answer old new opens does =
    let there = filed_there old.shelf.told path front opens in
    let b = there.0 in
    opened (of_work (work.Extract dir include) old.input) old.shelf.told path front b opens there.1
    (on_any_text (image_outcome (work.Extract dir include) b) (extract_outcome dir (extracted b include)) answer old new
    (λ text. refl) (does b there.1))
