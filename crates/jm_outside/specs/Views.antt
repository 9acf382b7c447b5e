-- What the objects in memory tell.
use Rattle.std.specs.Prelude.{ℕ, List, drop}
use Rattle.jm_outside.specs.Files.{Files}
use Rattle.jm_outside.specs.ComputedCalls.{CallNumbers}
use Rattle.jm_outside.specs.declared.mem_shelf.MemShelf.{MemShelf}
use Rattle.jm_outside.specs.declared.mem_streams.MemSink.{MemSink}
use Rattle.jm_outside.specs.declared.mem_streams.MemSource.{MemSource}

-- the files of a shelf in memory
abbrev pub files_on : MemShelf → Files
files_on shelf = shelf.files

-- the numbered calls of a shelf in memory
abbrev pub calls_of : MemShelf → CallNumbers
calls_of shelf = shelf.calls

-- the numbered calls of a shelf in memory for a part of a file
abbrev pub parts_of : MemShelf → CallNumbers
parts_of shelf = shelf.parts

-- how many bytes of files a shelf in memory handed out
abbrev pub handed_by : MemShelf → ℕ
handed_by shelf = shelf.handed

-- the bytes that a source in memory still has
abbrev pub rest_of : MemSource → List ℕ
rest_of source = drop source.at source.bytes

-- the cuts that a source in memory still has
abbrev pub cuts_of : MemSource → List ℕ
cuts_of source = drop source.cut source.cuts

-- the numbered calls of a source in memory
abbrev pub source_calls : MemSource → CallNumbers
source_calls source = source.calls

-- the bytes that a sink in memory holds
abbrev pub bytes_in : MemSink → List ℕ
bytes_in sink = sink.bytes.items

-- the numbered calls of a sink in memory
abbrev pub sink_calls : MemSink → CallNumbers
sink_calls sink = sink.calls
