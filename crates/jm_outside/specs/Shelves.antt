-- A shelf as it is seen at one moment (this project's rule).
use Rattle.std.specs.Prelude.{ℕ, Bool, Option}
use Rattle.jm_outside.specs.Files.{Files}
use Rattle.jm_outside.specs.Outcome.{Rose}
use Rattle.jm_outside.specs.declared.shelf.Shelf.{Ghosts}

-- the files that a shelf tells, if it tells them, its count of faults, whether each file that was
-- made stands whole under its own name, and whether the making of files was ended after the last one
pub record ShelfSeen : Type 0 where
  pub told : Option Files
  pub faults : ℕ
  pub whole : Bool
  pub durable : Bool

-- what is seen of a shelf
abbrev pub shelf_at : {S : Type 0} → Ghosts S → S → ShelfSeen
shelf_at as_shelf shelf = record {
  told = as_shelf.files shelf;
  faults = as_shelf.faults shelf;
  whole = as_shelf.whole shelf;
  durable = as_shelf.durable shelf;
}

-- a shelf failed: its count of faults rose
abbrev pub ShelfFailed : (old new : ShelfSeen) → Type 0
ShelfFailed old new = Rose old.faults new.faults
