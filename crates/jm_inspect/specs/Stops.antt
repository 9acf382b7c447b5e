-- Why a command stops (this project's rule).
use Rattle.std.specs.Prelude.{ℕ, Result, Ok, Err}
use Rattle.jm_extract.specs.declared.extracting.ExtractStop.{ExtractStop}
use Rattle.jm_extract.specs.declared.extracting.ExtractStop.TheVariants as extract_stop
use Rattle.jm_jrt.specs.declared.serve_error.ServeError.{ServeError}
use Rattle.jm_jrt.specs.declared.serve_error.ServeError.TheVariants as serve_error
use Rattle.jm_outside.specs.declared.shelf.ShelfError.{ShelfError}
use Rattle.jm_outside.specs.declared.shelf.ShelfError.TheVariants as shelf_error
use Rattle.jm_outside.specs.declared.streams.SinkError.{SinkError}
use Rattle.jm_outside.specs.declared.streams.SinkError.TheVariants as sink_error
use Rattle.jm_valid.specs.declared.open_error.OpenError.{OpenError}
use Rattle.jm_valid.specs.declared.open_error.OpenError.TheVariants as open_error
use Rattle.jm_words.specs.declared.errors.WordsFault.{WordsFault}
use Rattle.jm_bytes.specs.declared.faults.Or.{Or}
use Rattle.jm_bytes.specs.declared.faults.Or.TheVariants as or
use Rattle.jm_inspect.specs.declared.complaint.Complaint.TheVariants as complaint
use Rattle.jm_inspect.specs.declared.stop.Stop.{Stop}
use Rattle.jm_inspect.specs.declared.stop.Stop.TheVariants as stop

-- A failed call of the outside, a session, words

-- why a command stops where a call of the shelf failed
abbrev pub stop_of_shelf : ShelfError → Stop
stop_of_shelf shelf_error.Failed = stop.Outside
stop_of_shelf shelf_error.Memory = stop.Memory

-- why a command stops where a call of the sink failed
abbrev pub stop_of_sink : SinkError → Stop
stop_of_sink sink_error.Failed = stop.Outside
stop_of_sink sink_error.Memory = stop.Memory

-- why a command stops where an extraction did
abbrev pub stop_of_extract : ExtractStop → Stop
stop_of_extract (extract_stop.Refused refusal) = stop.Complaint (complaint.Refused refusal)
stop_of_extract extract_stop.Outside = stop.Outside
stop_of_extract extract_stop.Memory = stop.Memory

-- why a command stops where an image wasn't opened
abbrev pub stop_of_open : OpenError → Stop
stop_of_open (open_error.Damaged damage) = stop.Complaint (complaint.Damaged damage)
stop_of_open open_error.Memory = stop.Memory

-- how `serve` ends, by how its session did
abbrev pub stop_of_session : Result ℕ ServeError → Result (Unit {0}) Stop
stop_of_session (Ok lines) = Ok tt
stop_of_session (Err serve_error.ReadFault) = Err stop.Outside
stop_of_session (Err serve_error.WriteFault) = Err stop.Outside
stop_of_session (Err (serve_error.LongLine k)) = Err (stop.Complaint (complaint.LongLine k))
stop_of_session (Err serve_error.TooManyLines) = Err (stop.Complaint complaint.TooManyLines)
stop_of_session (Err serve_error.Memory) = Err stop.Memory

-- why a command stops where the words make no command
abbrev pub stop_of_words : Or WordsFault → Stop
stop_of_words (or.Fault fault) = stop.Complaint (complaint.Words fault)
stop_of_words or.Memory = stop.Memory
