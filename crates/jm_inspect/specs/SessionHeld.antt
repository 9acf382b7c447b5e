-- What a command reads from the source: a session reads it, and nothing else does (this project's
-- rule).
use Rattle.std.specs.Prelude.{ℕ, ◌≡◌, ◌⊎◌, List, Option, Some, None, Result, Ok, Err}
use Rattle.jm_bytes.specs.Metered.{Metered}
use Rattle.jm_jrt.specs.declared.serve_error.ServeError.{ServeError}
use Rattle.jm_jrt.specs.declared.serve_error.ServeError.TheVariants.{ReadFault, WriteFault}
use Rattle.jm_jrt.specs.declared.serve_error.ServeError.TheVariants.{LongLine, TooManyLines}
use Rattle.jm_jrt.specs.declared.serve_error.ServeError.TheVariants.{Memory}
use Rattle.jm_jrt.specs.Sessions.{Serves}
use Rattle.jm_outside.specs.Outcome.{Told}
use Rattle.jm_inspect.specs.declared.status.Status.{Status}
use Rattle.jm_inspect.specs.declared.status.Status.TheVariants as status
use Rattle.jm_inspect.specs.declared.stop.Stop.{Stop}
use Rattle.jm_inspect.specs.Sinks.{Failed, Seen}
use Rattle.jm_inspect.specs.Stops.{stop_of_session}
use Rattle.jm_inspect.specs.World.{World}

-- how the step of a session ends
abbrev pub StopsAs : Result (Unit {0}) Stop → Result ℕ ServeError → Type 0
StopsAs answer answered = answer ≡ stop_of_session answered

-- the status of a session that broke its limits; its line may fail to be put, by the error sink or
-- for want of memory
abbrev pub EndsBroken : Status → Seen (List ℕ) → Seen (List ℕ) → Type 0
EndsBroken is err new_err =
    (is ≡ status.Session)
    ⊎ (((is ≡ status.Outside) × Failed err new_err) ⊎ (is ≡ status.Memory))

-- the status of the run of a session
abbrev pub EndsAs : Status → Seen (List ℕ) → Seen (List ℕ) → Result ℕ ServeError → Type 0
EndsAs is err new_err (Ok n) = is ≡ status.Done
EndsAs is err new_err (Err ReadFault) = is ≡ status.Outside
EndsAs is err new_err (Err WriteFault) = is ≡ status.Outside
EndsAs is err new_err (Err (LongLine k)) = EndsBroken is err new_err
EndsAs is err new_err (Err TooManyLines) = EndsBroken is err new_err
EndsAs is err new_err (Err Memory) = is ≡ status.Memory

-- a session that ended by a fault of the source or of the output did so because that one failed
abbrev pub EndedBy : Result ℕ ServeError → World → World → Type 0
EndedBy (Err ReadFault) old new = Failed old.input new.input
EndedBy (Err WriteFault) old new = Failed old.out new.out
EndedBy (Ok n) old new = Unit {0}
EndedBy (Err (LongLine k)) old new = Unit {0}
EndedBy (Err TooManyLines) old new = Unit {0}
EndedBy (Err Memory) old new = Unit {0}

-- no session began: nothing was read from the source, and nothing was put
pub record NotBegun (old new : World) : Type 0 where
  pub source : new.input.told ≡ old.input.told
  pub output : Told old.out.told new.out.told (λ before after. after ≡ before)

-- a session over an image's bytes was held; how it ended shows in the end of the step or of the run
pub record Held (b : List ℕ) (Ends : Result ℕ ServeError → Type 0) (old new : World)
    : Type 0 where
  pub answered : Result ℕ ServeError
  pub ends : Ends answered
  pub ended_by : EndedBy answered old new
  pub reads : Metered
  pub new_reads : Metered
  pub serves : Serves b answered old.input.told new.input.told old.out.told new.out.told
      reads new_reads

-- what was read from the source: nothing, but by a session over these bytes, if one is due
abbrev pub SourceRead : Option (List ℕ) → (Result ℕ ServeError → Type 0) → World → World → Type 0
SourceRead None Ends old new = new.input.told ≡ old.input.told
SourceRead (Some b) Ends old new = Held b Ends old new
