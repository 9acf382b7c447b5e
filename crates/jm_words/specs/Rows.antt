-- A row of the tables as plain data (this project's rule).
use Rattle.jm_words.specs.declared.tables.Row.{Row}
use Rattle.jm_words.specs.Tables as tables

-- a row of the code's tables as plain data
abbrev pub row_of : Row → tables.Row
row_of row = record {
  name = row.0.now;
  form = row.1;
  field = row.2;
  part = row.3;
  line = row.4.now;
}
