-- A text that is put piece by piece (this project's rule).
use Rattle.std.specs.Prelude.{ℕ, ◌≡◌, List, ◌++◌, Result, OnOk, OnErr, IsOk, IsErrOf}
use Rattle.jm_outside.specs.Outcome.{CountsFaults}
use Rattle.jm_outside.specs.declared.streams.SinkError.{SinkError}
use Rattle.jm_outside.specs.declared.streams.SinkError.TheVariants as sink_error
use Rattle.jm_outside.specs.declared.streams.Sink.{Ghosts as SinkGhosts}
use Rattle.jm_inspect.specs.declared.pieces.Pieces.{Pieces}
use Rattle.jm_inspect.specs.Sinks.{Seen, Gets, GetsFront}
use Rattle.jm_inspect.specs.World.{sink_at}

-- the sink got the whole text; a prefix of it where that failed, and its count rose where the
-- outside failed
pub record PutsText (text : List ℕ) (answer : Result (Unit {0}) SinkError)
    (out new_out : Seen (List ℕ)) : Type 0 where
  pub all : OnOk answer (Gets text out new_out)
  pub front : OnErr answer (GetsFront text out new_out)
  pub faults : CountsFaults out.faults new_out.faults (IsOk answer)
      (IsErrOf answer sink_error.Failed)

-- a text that is put piece by piece: what is held back of it, and the sink, with the name of its
-- borrow
pub record Piecewise : Type 0 where
  pub held : List ℕ
  pub out : Seen (List ℕ)
  pub name : ℕ

-- more came after what was held back: the sink got a prefix of both together, and the rest is held
-- back now
abbrev pub Passes : (more : List ℕ) → (old new : Piecewise) → Type 0
Passes more old new =
    (got : List ℕ) × Gets got old.out new.out × (old.held ++ more ≡ got ++ new.held)

-- what is held back and more were passed on; where that failed, the sink got a prefix of both
pub record Passing (more : List ℕ) (answer : Result (Unit {0}) SinkError) (old new : Piecewise)
    : Type 0 where
  pub passed : OnOk answer (Passes more old new)
  pub front : OnErr answer (GetsFront (old.held ++ more) old.out new.out)
  pub faults : CountsFaults old.out.faults new.out.faults (IsOk answer)
      (IsErrOf answer sink_error.Failed)
  pub same : new.name ≡ old.name

-- what clauses see of the code's `Pieces`
abbrev pub piecewise : {O : Type 0} → SinkGhosts O → Pieces O → Piecewise
piecewise as_sink pieces = record {
  held = pieces.held.now.items;
  out = sink_at as_sink pieces.out.now;
  name = pieces.out.ghost_name;
}

-- the same of the code's `Pieces`
abbrev pub PassesOn
    : {O : Type 0} → SinkGhosts O → List ℕ → Result (Unit {0}) SinkError → (old new : Pieces O)
    → Type 0
PassesOn as_sink more answer old new =
    Passing more answer (piecewise as_sink old) (piecewise as_sink new)
