use Rattle.std.proofs.Common.{◌≡◌, ◌+◌, ◌*◌, ◌≤◌, ◌++◌, length, drop}
use Rattle.std.specs.List.{flat_map}
use Rattle.jm_form.specs.Layout.{location_of}
use Rattle.jm_writer.specs.Parts.{locations_of, places_from}
use Rattle.jm_writer.proofs.locations.locate.Given as goal

abbrev pub invariant-loop-row : goal.invariant-loop-row
invariant-loop-row l = record {
  text : l.text.items ++ flat_map location_of (drop l.row-index l.rows) ≡ locations_of l.rows;
  places : l.places ++ places_from (length l.text.items) (drop l.row-index l.rows) ≡ places_from 1 l.rows;
  short : length l.text.items ≤ 1 + 64 * l.row-index;
}
