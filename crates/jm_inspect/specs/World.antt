-- The shelf, the source and the output as the proofs see them (this project's rule).
use Rattle.std.specs.Prelude.{ℕ, ◌≡◌, List}
use Rattle.jm_outside.specs.Shelves.{ShelfSeen, shelf_at}
use Rattle.jm_outside.specs.declared.shelf.Shelf.{Ghosts as ShelfGhosts}
use Rattle.jm_outside.specs.declared.streams.Sink.{Ghosts as SinkGhosts}
use Rattle.jm_outside.specs.declared.streams.Source.{Ghosts as SourceGhosts}
use Rattle.jm_inspect.specs.Sinks.{Seen, seen}

-- what is seen of shelf, source and output at one moment
pub record World : Type 0 where
  pub shelf : ShelfSeen
  pub input : Seen (List ℕ)
  pub out : Seen (List ℕ)

-- shelf, source and output from what is seen of each
abbrev pub world : ShelfSeen → Seen (List ℕ) → Seen (List ℕ) → World
world shelf input out = record { shelf = shelf; input = input; out = out }

-- what a source tells, and its count of faults
abbrev pub source_at : {I : Type 0} → SourceGhosts I → I → Seen (List ℕ)
source_at as_source source = seen (as_source.rest source) (as_source.faults source)

-- what a sink tells, and its count of faults
abbrev pub sink_at : {O : Type 0} → SinkGhosts O → O → Seen (List ℕ)
sink_at as_sink sink = seen (as_sink.content sink) (as_sink.faults sink)

-- what is seen of a shelf, a source and an output
abbrev pub world_of : {S I O : Type 0} → ShelfGhosts S → SourceGhosts I → SinkGhosts O → S → I → O
    → World
world_of as_shelf as_source as_sink shelf input out =
    world (shelf_at as_shelf shelf) (source_at as_source input) (sink_at as_sink out)

-- no call failed: the counts of faults are as before
pub record NoneRose (old new : World) : Type 0 where
  pub shelf : new.shelf.faults ≡ old.shelf.faults
  pub input : new.input.faults ≡ old.input.faults
  pub out : new.out.faults ≡ old.out.faults
