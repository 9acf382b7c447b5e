-- Why an extraction stops, from why a call of the shelf does (this project's rule).
use Rattle.jm_outside.specs.declared.shelf.ShelfError.{ShelfError}
use Rattle.jm_outside.specs.declared.shelf.ShelfError.TheVariants as outside
use Rattle.jm_extract.specs.declared.extracting.ExtractStop.{ExtractStop}
use Rattle.jm_extract.specs.declared.extracting.ExtractStop.TheVariants as stop

-- why an extraction stops, from why a call of the shelf does
abbrev pub stop_of : ShelfError → ExtractStop
stop_of outside.Failed = stop.Outside
stop_of outside.Memory = stop.Memory
