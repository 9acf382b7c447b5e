-- Lines that are put while the contents of entries are read (this project's rule).
use Rattle.std.specs.Prelude.{ℕ, ◌≡◌, List, length, flat_map, Option, Result, Ok, Err, IsOk, IsErrOf}
use Rattle.jm_filed.specs.FirstRead.{AreFirstRead}
use Rattle.jm_filed.specs.declared.taking.TakenEntry.{TakenEntry}
use Rattle.jm_names.specs.ByName.{Named}
use Rattle.jm_outside.specs.Files.{Files}
use Rattle.jm_outside.specs.Outcome.{CountsFaults}
use Rattle.jm_outside.specs.declared.shelf.ShelfError.{ShelfError}
use Rattle.jm_outside.specs.declared.shelf.ShelfError.TheVariants as shelf_error
use Rattle.jm_outside.specs.declared.streams.SinkError.{SinkError}
use Rattle.jm_inspect.specs.ListText.{digest_line}
use Rattle.jm_inspect.specs.Stops.{stop_of_shelf, stop_of_sink}
use Rattle.jm_inspect.specs.declared.stop.Stop.{Stop}

-- the answer after reads and puts: of the put that failed, else of the read that failed
abbrev pub after_both : Result (Unit {0}) ShelfError → Result (Unit {0}) SinkError
    → Result (Unit {0}) Stop
after_both reads (Err error) = Err (stop_of_sink error)
after_both (Err error) (Ok _) = Err (stop_of_shelf error)
after_both (Ok _) (Ok _) = Ok tt

-- the contents of the first of some entries were read, of all where the answer is Ok, and their
-- lines were put so; the count of the shelf's faults rose where a read failed
pub record PutsRead (told : Option Files) (path : List ℕ) (entries : List TakenEntry)
    (Puts : List ℕ → Result (Unit {0}) SinkError → Type 0) (answer : Result (Unit {0}) Stop)
    (faults new_faults : ℕ) : Type 0 where
  pub read : List Named
  pub are : AreFirstRead told path entries read
  pub all : IsOk answer → length read ≡ length entries
  pub reads : Result (Unit {0}) ShelfError
  pub puts : Result (Unit {0}) SinkError
  pub lines : Puts (flat_map digest_line read) puts
  pub answers : answer ≡ after_both reads puts
  pub counts : CountsFaults faults new_faults (IsOk reads) (IsErrOf reads shelf_error.Failed)
