-- What a step does, from what its calls answered.
use Rattle.std.proofs.Common.{◌≡◌, ℕ, List, [], Option, Some, None, Result, Ok, Err}
use Rattle.std.proofs.Common.{IsOk, inl, inr, refl, sym, ap, ◌∙◌, subst, IsErrAnd}
use Rattle.jm_outside.specs.Made.{MadeAll, MadePart, Writes}
use Rattle.jm_outside.proofs.MadeLaws.{part_of_all}
use Rattle.jm_jrt.specs.declared.serve_error.ServeError.{ServeError}
use Rattle.jm_jrt.specs.declared.serve_error.ServeError.TheVariants as serve_error
use Rattle.jm_outside.specs.Files.{Files}
use Rattle.jm_outside.specs.Outcome.{Rose, Shows, Told}
use Rattle.jm_outside.specs.Shelves.{ShelfFailed, ShelfSeen}
use Rattle.jm_inspect.specs.declared.complaint.Complaint.{Complaint}
use Rattle.jm_inspect.specs.declared.complaint.Complaint.TheVariants as complaint
use Rattle.jm_inspect.specs.declared.status.Status.{Status}
use Rattle.jm_inspect.specs.declared.status.Status.TheVariants as status
use Rattle.jm_inspect.specs.declared.stop.Stop.{Stop}
use Rattle.jm_inspect.specs.declared.stop.Stop.TheVariants as stop
use Rattle.jm_inspect.specs.FailedBefore.{FilesFailed, WorkFailed}
use Rattle.jm_inspect.specs.FileParts.{ReadsFile}
use Rattle.jm_inspect.specs.Outcome.{Early, Outcome, done, made_and_put, not_there, reading}
use Rattle.jm_inspect.specs.Works.{FileComesTo}
use Rattle.jm_inspect.specs.Steps.{FilesFirst, FilesMade, IsFailure, PutDoes, StandAll, StandSafe, StepComesTo, StepDoes, StepOnText}
use Rattle.jm_inspect.specs.Steps.{outcome_of, status_of}
use Rattle.jm_inspect.specs.SessionHeld.{EndedBy, NotBegun, SourceRead}
use Rattle.jm_inspect.specs.Sinks.{Failed, Gets, Seen}
use Rattle.jm_inspect.specs.World.{NoneRose, World}
use Rattle.jm_inspect.proofs.Gotten.{front_of_nothing, gets_nothing}
use Rattle.jm_inspect.proofs.Made.{stays_part, unmade_safe}

-- an error of a step, by what it was made of
pub from_stop : {A : Type 0} (answer : Result A Stop) (is : Stop) → IsErrAnd answer (λ stop. stop ≡ is) → answer ≡ Err is
from_stop (Ok _) is gives = absurd gives
from_stop (Err stop) is gives = ap (λ s. Err s) gives

-- no complaint ends a run with `Done`
pub complains_undone : (given : Complaint) → status.Done ≡ status_of given → ⊥
complains_undone (complaint.Words fault) same = cc
complains_undone (complaint.Damaged damage) same = cc
complains_undone (complaint.NotThere text) same = cc
complains_undone (complaint.Refused refusal) same = cc
complains_undone (complaint.BadNode at) same = cc
complains_undone (complaint.NoNode name) same = cc
complains_undone (complaint.BadNodeAt name at) same = cc
complains_undone complaint.NotFolder same = cc
complains_undone (complaint.LongLine k) same = cc
complains_undone complaint.TooManyLines same = cc

-- Steps that only put

-- nothing was put for want of memory
pub no_memory : (due : Outcome) (out new_out : Seen (List ℕ)) → new_out.told ≡ out.told → PutDoes due (Err stop.Memory) out new_out
no_memory due out new_out unput = record {
  answers = tt;
  output = front_of_nothing due.output out new_out unput;
  outside =
      λ failed. cc;
  kept = λ ok. cc;
  memory = λ failed. inr unput;
}

-- nothing was put, and a complaint is all
pub complained : (due : Outcome) (given : Complaint) (out new_out : Seen (List ℕ)) → due ≡ outcome_of given → new_out.told
    ≡ out.told → PutDoes due (Err (stop.Complaint given)) out new_out
complained due given out new_out is unput = record {
  answers = is;
  output = subst (λ (text : List ℕ). Gets text out new_out) (sym (ap (λ o. o.output) is)) (gets_nothing out new_out unput);
  outside = λ failed. cc;
  kept = λ ok. cc;
  memory = λ failed. cc;
}

-- Steps that read

-- the text of a source, whether it tells its rest or not
abbrev pub told_text : Option (List ℕ) → List ℕ
told_text None = []
told_text (Some text) = text

pub has_told_text : (rest : Option (List ℕ)) → Shows rest (λ told. told_text rest ≡ told)
has_told_text None = tt
has_told_text (Some text) = refl

-- A call failed before anything was done

-- nothing was made, read or put
pub record Unmoved (old new : World) : Type 0 where
  pub files : new.shelf.told ≡ old.shelf.told
  pub source : new.input.told ≡ old.input.told
  pub output : new.out.told ≡ old.out.told

pub not_begun : (old new : World) → new.input.told ≡ old.input.told → new.out.told ≡ old.out.told → NotBegun old new
not_begun old new source output = record {
  source = source;
  output = subst (λ (o : Option (List ℕ)). Told old.out.told o (λ before after. after ≡ before)) (sym output) (go old.out.told);
}
  where
    go : (told : Option (List ℕ)) → Told told told (λ before after. after ≡ before)
    go None = tt
    go (Some put) = refl

-- whatever was due
pub fails_at_once : (Due : Outcome → Type 0) (early : Early) (answer : Result (Unit {0}) Stop) (old new : World) → IsFailure answer
    → Unmoved old new → (answer ≡ Err stop.Outside → FilesFailed early old new) → StepComesTo Due early answer old new
fails_at_once Due early answer old new fails unmoved failed = inl (record {
  failed = fails;
  files = stays_part early.writes old.shelf.told new.shelf.told unmoved.files;
  source = unmoved.source;
  output = unmoved.output;
  outside = failed;
})

-- no memory was found
pub out_of_memory : (Due : Outcome → Type 0) (early : Early) (now : World) → StepComesTo Due early (Err stop.Memory) now now
out_of_memory Due early now = fails_at_once Due early (Err stop.Memory) now now tt (record {
  files = refl;
  source = refl;
  output =
      refl;
}) (λ failed. cc)

-- A put

-- where a put failed, an output was due
output_failed : (early : Early) (due : Outcome) (old new : World) → due ≡ done due.output → Failed old.out new.out
    → WorkFailed early due.session due.status old new
output_failed early due old new is failed = subst (λ (o : Outcome). WorkFailed early o.session o.status old new) (sym is) (inr failed)

-- where the step is done, the calls of the shelf and of the source didn't fail
abbrev pub Quiet : Result (Unit {0}) Stop → World → World → Type 0
Quiet answer old new = IsOk answer → (new.shelf.faults ≡ old.shelf.faults) × (new.input.faults ≡ old.input.faults)

-- a put, after calls that changed no file and read nothing from the source
module _ (due : Outcome) (old new : World) (files : new.shelf.told ≡ old.shelf.told) (source : new.input.told ≡ old.input.told)
    (alone : due.session ≡ None) where
  safe : due.writes ≡ [] → StandSafe due.writes old.shelf new.shelf
  safe none = subst (λ (writes : Writes). StandSafe writes old.shelf new.shelf) (sym none) (unmade_safe old.shelf new.shelf files)

  unread : (Ends : Result ℕ ServeError → Type 0) → SourceRead due.session Ends old new
  unread Ends = subst (λ (session : Option (List ℕ)). SourceRead session Ends old new) (sym alone) source

  pub put_step : {early : Early} (answer : Result (Unit {0}) Stop) → PutDoes due answer old.out new.out → Quiet answer old new
      → StepDoes early due answer old new
  put_step (Ok _) put quiet = record {
    answers = (ap (λ o. o.status) put.answers, ap (λ o. o.line) put.answers);
    output = put.output;
    files = safe (ap (λ o. o.writes) put.answers);
    files_first = inl (safe (ap (λ o. o.writes) put.answers));
    source = unread _;
    outside = λ failed. cc;
    none_rose = λ ok. let both = quiet ok in record { shelf = both.0; input = both.1; out = put.kept ok };
  }
  put_step (Err (stop.Complaint given)) put quiet = record {
    answers = (ap (λ o. o.status) put.answers, ap (λ o. o.line) put.answers);
    output = put.output;
    files = (safe (ap (λ o. o.writes) put.answers)).stand;
    files_first = inl (safe (ap (λ o. o.writes) put.answers));
    source = unread _;
    outside = λ failed. cc;
    none_rose = λ ok. cc;
  }
  put_step {early} (Err stop.Outside) put quiet = record {
    answers = tt;
    output = put.output;
    files = stays_part due.writes old.shelf.told new.shelf.told files;
    files_first = inl (safe (ap (λ o. o.writes) put.answers));
    source = unread _;
    outside = λ failed. output_failed early due old new put.answers (put.outside failed);
    none_rose = λ ok. cc;
  }
  put_step (Err stop.Memory) put quiet = record {
    answers = tt;
    output = put.output;
    files = stays_part due.writes old.shelf.told new.shelf.told files;
    files_first = elim (put.memory refl) [ inl is ↦ inl (safe (ap (λ o. o.writes) is)) | inr unput ↦ inr unput ];
    source = unread _;
    outside = λ failed. cc;
    none_rose = λ ok. cc;
  }

-- what is done is no complaint
never_done : (given : Complaint) (text : List ℕ) → done text ≡ outcome_of given → ⊥
never_done given text is = complains_undone given (ap (λ o. o.status) is)

-- all files were made, and then the text was put
pub made_put : {early : Early} (writes : Writes) (text : List ℕ) (answer : Result (Unit {0}) Stop) (old new : World)
    → StandSafe writes old.shelf new.shelf → new.shelf.faults ≡ old.shelf.faults → new.input ≡ old.input
    → PutDoes (done text) answer old.out new.out → StepDoes early (made_and_put writes text) answer old new
made_put {early} writes text answer old new safe kept input put = go answer put
  where
    part : MadePart writes old.shelf.told new.shelf.told
    part = part_of_all writes old.shelf.told new.shelf.told safe.stand.made

    source : new.input.told ≡ old.input.told
    source = ap (λ (s : Seen (List ℕ)). s.told) input

    go : (answer : Result (Unit {0}) Stop) → PutDoes (done text) answer old.out new.out
        → StepDoes early (made_and_put writes text) answer old new
    go (Ok _) put = record {
      answers = (refl, refl);
      output = put.output;
      files = safe;
      files_first = inl safe;
      source = source;
      outside = λ failed. cc;
      none_rose = λ ok. record { shelf = kept; input = ap (λ (s : Seen (List ℕ)). s.faults) input; out = put.kept ok };
    }
    go (Err (stop.Complaint given)) put = absurd (never_done given text put.answers)
    go (Err stop.Outside) put = record {
      answers = tt;
      output = put.output;
      files = part;
      files_first = inl safe;
      source = source;
      outside = λ failed. inr (put.outside failed);
      none_rose = λ ok. cc;
    }
    go (Err stop.Memory) put = record {
      answers = tt;
      output = put.output;
      files = part;
      files_first = inl safe;
      source = source;
      outside = λ failed. cc;
      none_rose = λ ok. cc;
    }

-- some of the files were made, and nothing was put
pub made_in_part : {early : Early} (due : Outcome) (given : Stop) (old new : World) → IsFailure (Err given) → due.session ≡ None
    → MadePart due.writes old.shelf.told new.shelf.told → new.input.told ≡ old.input.told → new.out.told ≡ old.out.told
    → (given ≡ stop.Outside → WorkFailed early due.session due.status old new) → StepDoes early due (Err given) old new
made_in_part due (stop.Complaint given) old new fails alone part source unput failed = absurd fails
made_in_part due stop.Outside old new fails alone part source unput failed = record {
  answers = tt;
  output = front_of_nothing due.output old.out new.out unput;
  files = part;
  files_first = inr unput;
  source = rw alone source;
  outside = λ stopped. failed refl;
  none_rose = λ ok. cc;
}
made_in_part due stop.Memory old new fails alone part source unput failed = record {
  answers = tt;
  output = front_of_nothing due.output old.out new.out unput;
  files = part;
  files_first = inr unput;
  source = rw alone source;
  outside = λ stopped. cc;
  none_rose = λ ok. cc;
}

-- a put, which is due
pub put_comes : (Due : Outcome → Type 0) (early : Early) (due : Outcome) (answer : Result (Unit {0}) Stop) (old new : World)
    → Due due → PutDoes due answer old.out new.out → new.shelf.told ≡ old.shelf.told → new.input.told ≡ old.input.told → due.session
    ≡ None → Quiet answer old new → StepComesTo Due early answer old new
put_comes Due early due answer old new comes put files source alone quiet = inr (
  due,
  comes,
  put_step due old new files source alone
      answer put quiet,
)

-- nothing was done, and a complaint is due
pub complains : (Due : Outcome → Type 0) (early : Early) (due : Outcome) (given same : Complaint) (old new : World) → Due due → due
    ≡ outcome_of same → given ≡ same → Unmoved old new → StepComesTo Due early (Err (stop.Complaint given)) old new
complains Due early due given same old new comes is as_given unmoved =
    subst (λ (c : Complaint). StepComesTo Due early (Err (stop.Complaint c)) old new) (sym as_given)
    (put_comes Due early due (Err (stop.Complaint same)) old new comes (complained due same old.out new.out is unmoved.output)
    unmoved.files unmoved.source (ap (λ o. o.session) is) (λ ok. cc))

-- what is due is the same for each text
pub on_any_text : (of_text : List ℕ → Outcome) (same : Outcome) (answer : Result (Unit {0}) Stop) (old new : World)
    → ((text : List ℕ) → of_text text ≡ same) → StepDoes reading same answer old new → StepOnText of_text answer old new
on_any_text of_text same answer old new is does =
    let text = told_text old.input.told in
    inr (same, (text, has_told_text old.input.told, sym (is text)), does)

-- a put, where what is due is the same for each text
pub put_on_text : (of_text : List ℕ → Outcome) (same : Outcome) (answer : Result (Unit {0}) Stop) (old new : World)
    → PutDoes same answer old.out new.out → new.shelf.told ≡ old.shelf.told → new.input.told ≡ old.input.told → same.session ≡ None
    → Quiet answer old new → ((text : List ℕ) → of_text text ≡ same) → StepOnText of_text answer old new
put_on_text of_text same answer old new put files source alone quiet is = on_any_text of_text same answer old new is
    (put_step same old new files source alone answer put quiet)

-- A step after a call of the shelf that changed no file

module _ (shelf : ShelfSeen) (now new : World) where
  abbrev old : World
  old = record { shelf = shelf; input = now.input; out = now.out }

  ended_behind : (answered : Result ℕ ServeError) → EndedBy answered now new → EndedBy answered old new
  ended_behind (Ok n) ended = tt
  ended_behind (Err serve_error.ReadFault) ended = ended
  ended_behind (Err serve_error.WriteFault) ended = ended
  ended_behind (Err (serve_error.LongLine k)) ended = tt
  ended_behind (Err serve_error.TooManyLines) ended = tt
  ended_behind (Err serve_error.Memory) ended = tt

  pub source_behind : (session : Option (List ℕ)) (Ends : Result ℕ ServeError → Type 0) → SourceRead session Ends now new
      → SourceRead session Ends old new
  source_behind None Ends read = read
  source_behind (Some b) Ends held = record {
    answered = held.answered;
    ends = held.ends;
    ended_by = ended_behind held.answered
        held.ended_by;
    reads = held.reads;
    new_reads = held.new_reads;
    serves = held.serves;
  }

  module _ (kept : now.shelf.faults ≡ shelf.faults) where
    sooner : ShelfFailed now.shelf new.shelf → ShelfFailed shelf new.shelf
    sooner = subst (λ (count : ℕ). Rose count new.shelf.faults) kept

    pub none_sooner : NoneRose now new → NoneRose old new
    none_sooner none = record { shelf = none.shelf ∙ kept; input = none.input; out = none.out }

    pub files_sooner : (early before : Early) → before.reads ≡ early.reads → FilesFailed early now new → FilesFailed before old new
    files_sooner early before same (reads, failed) = (same ∙ reads, sooner failed)

    pub work_sooner : (early before : Early) → before.reads ≡ early.reads → (session : Option (List ℕ)) (is : Status)
        → WorkFailed early session is now new → WorkFailed before session is old new
    work_sooner early before same (Some b) is failed = failed
    work_sooner early before same None status.Done (inl failed) = inl (files_sooner early before same failed)
    work_sooner early before same None status.Done (inr failed) = inr failed
    work_sooner early before same None status.Refused failed = files_sooner early before same failed
    work_sooner early before same None status.Damaged failed = files_sooner early before same failed
    work_sooner early before same None status.NotThere failed = files_sooner early before same failed
    work_sooner early before same None status.Words failed = absurd failed
    work_sooner early before same None status.Session failed = absurd failed
    work_sooner early before same None status.Outside failed = absurd failed
    work_sooner early before same None status.Memory failed = absurd failed

  pub stand_behind : (writes : Writes) → now.shelf.told ≡ shelf.told → StandAll writes now.shelf new.shelf → StandAll writes shelf new.shelf
  stand_behind writes same all = record {
    made = subst (λ (told : Option Files). MadeAll writes told new.shelf.told) same all.made;
    whole = all.whole;
  }

  safe_behind : (writes : Writes) → now.shelf.told ≡ shelf.told → StandSafe writes now.shelf new.shelf → StandSafe writes shelf new.shelf
  safe_behind writes same safe = record { stand = stand_behind writes same safe.stand; durable = safe.durable }

  made_behind : (writes : Writes) (answer : Result (Unit {0}) Stop) → now.shelf.told ≡ shelf.told
      → FilesMade answer writes now.shelf new.shelf → FilesMade answer writes shelf new.shelf
  made_behind writes (Ok _) same made = safe_behind writes same made
  made_behind writes (Err (stop.Complaint given)) same made = stand_behind writes same made
  made_behind writes (Err stop.Outside) same made = subst (λ (told : Option Files). MadePart writes told new.shelf.told) same made
  made_behind writes (Err stop.Memory) same made = subst (λ (told : Option Files). MadePart writes told new.shelf.told) same made

  first_behind : (writes : Writes) → now.shelf.told ≡ shelf.told → FilesFirst writes now new → FilesFirst writes old new
  first_behind writes same (inl safe) = inl (safe_behind writes same safe)
  first_behind writes same (inr unput) = inr unput

  pub step_behind : (early : Early) (due : Outcome) (answer : Result (Unit {0}) Stop) → now.shelf.told ≡ shelf.told → now.shelf.faults
      ≡ shelf.faults → StepDoes early due answer now new → StepDoes early due answer old new
  step_behind early due answer same kept step = record {
    answers = step.answers;
    output = step.output;
    files = made_behind due.writes answer same step.files;
    files_first = first_behind due.writes same step.files_first;
    source = source_behind due.session _ step.source;
    outside = λ failed. work_sooner kept early early refl due.session due.status (step.outside failed);
    none_rose = λ ok. none_sooner kept (step.none_rose ok);
  }

-- What a step comes to

-- what follows from what is due
pub step_as : {Due Also : Outcome → Type 0} {early : Early} {answer : Result (Unit {0}) Stop} {old new : World}
    → ((due : Outcome) → Due due → Also due) → StepComesTo Due early answer old new → StepComesTo Also early answer old new
step_as leads (inl fails) = inl fails
step_as leads (inr (due, is, step)) = inr (due, leads due is, step)

-- after a call of the shelf that changed no file
pub comes_behind : (Due : Outcome → Type 0) (shelf : ShelfSeen) (now new : World) (answer : Result (Unit {0}) Stop)
    → now.shelf.told ≡ shelf.told → now.shelf.faults ≡ shelf.faults → StepComesTo Due reading answer now new
    → StepComesTo Due reading answer (record { shelf = shelf; input = now.input; out = now.out }) new
comes_behind Due shelf now new answer same kept (inl fails) = inl (record {
  failed = fails.failed;
  files = subst (λ (told : Option Files). MadePart [] told new.shelf.told) same fails.files;
  source = fails.source;
  output = fails.output;
  outside = λ failed. files_sooner shelf now new kept reading reading refl (fails.outside failed);
})
comes_behind Due shelf now new answer same kept (inr (due, is, step)) =
    inr (due, is, step_behind shelf now new reading due answer same kept step)

-- and the read of the file of a path
pub file_read : (Bytes : List ℕ → Outcome → Type 0) (path b : List ℕ) (shelf : ShelfSeen) (now new : World)
    (answer : Result (Unit {0}) Stop) → ReadsFile shelf.told path (Ok b) → now.shelf.told ≡ shelf.told → now.shelf.faults
    ≡ shelf.faults → StepComesTo (Bytes b) reading answer now new → StepComesTo (FileComesTo shelf.told path Bytes) reading answer
    (record { shelf = shelf; input = now.input; out = now.out }) new
file_read Bytes path b shelf now new answer has same kept step =
    comes_behind (FileComesTo shelf.told path Bytes) shelf now new answer same kept (step_as (λ due is. (Some b, has, is)) step)

-- the file isn't there, or its read failed
pub file_unread : (Bytes : List ℕ → Outcome → Type 0) (path : List ℕ) (given : Stop) (old new : World)
    → ReadsFile old.shelf.told path (Err given) → Unmoved old new → (given ≡ stop.Outside → ShelfFailed old.shelf new.shelf)
    → StepComesTo (FileComesTo old.shelf.told path Bytes) reading (Err given) old new
file_unread Bytes path (stop.Complaint given) old new (none, is) unmoved rose =
    complains (FileComesTo old.shelf.told path Bytes) reading (not_there path) given (complaint.NotThere path) old new
    (None, none, refl) refl is unmoved
file_unread Bytes path stop.Outside old new read unmoved rose = fails_at_once (FileComesTo old.shelf.told path Bytes) reading
    (Err stop.Outside) old new tt unmoved (λ failed. (refl, rose refl))
file_unread Bytes path stop.Memory old new read unmoved rose = fails_at_once (FileComesTo old.shelf.told path Bytes) reading
    (Err stop.Memory) old new tt unmoved (λ failed. cc)
