-- What entries and a table must keep so that their image can be read (this project's rule for the
-- size; jimage 1.0 for the rest).
use Rattle.std.specs.Prelude.{◌^◌, ◌≢◌, ◌<◌, ◌≤◌, List, [], length, map, All}
use Rattle.jm_bytes.specs.declared.words.Order.{Order}
use Rattle.jm_form.specs.Strings.{section_of, IsZeroFree}
use Rattle.jm_form.specs.declared.container.Header.{Header}
use Rattle.jm_form.specs.Greedy.{GreedyTable, word_of}
use Rattle.jm_form.specs.Layout.{Index, Written, image_of, locations_text, names_of}
use Rattle.jm_form.specs.Serves.{Serves}
use Rattle.jm_writer.specs.Drafts.{image_limit}

-- names that have a byte and no zero byte, a table that serves them (so they differ), whose
-- redirects have words, and an image of no more bytes than that
pub record Writable (order : Order) (table : GreedyTable) (es : List Written) : Type 0 where
  pub named : All (λ name. name ≢ []) (names_of es)
  pub zero_free : All IsZeroFree (names_of es)
  pub serves : Serves (names_of es) table.length (map word_of table.redirects) table.slots
  pub words : All (λ r. word_of r < 2 ^ 32) table.redirects
  pub within : length (image_of order table es) ≤ image_limit

-- the header of an index
abbrev pub header_with : Index → Header
header_with index = record {
  order = index.order;
  flags = 0;
  count = length index.rows;
  length = index.table.length;
  locations = length (locations_text index);
  strings = length (section_of index.texts);
}
