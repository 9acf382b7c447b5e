-- Files that stay.
use Rattle.std.proofs.Common.{◌≡◌, [], Option, refl, sym, subst}
use Rattle.jm_outside.specs.Made.{MadeAll, MadePart, Writes}
use Rattle.jm_outside.proofs.MadeLaws.{made_none, part_of_none}
use Rattle.jm_outside.specs.Files.{Files}
use Rattle.jm_outside.specs.Shelves.{ShelfSeen}
use Rattle.jm_inspect.specs.Steps.{StandSafe}

-- no file to make changes nothing
pub stays_all : (old new : Option Files) → new ≡ old → MadeAll [] old new
stays_all old new same = subst (λ (o : Option Files). MadeAll [] old o) (sym same) (made_none old)

-- files that were made not at all were made in part
pub stays_part : (writes : Writes) (old new : Option Files) → new ≡ old → MadePart writes old new
stays_part writes old new same = subst (λ (o : Option Files). MadePart writes old o) (sym same) (part_of_none writes old)

-- where no file was to be made, all is safe
pub unmade_safe : (old new : ShelfSeen) → new.told ≡ old.told → StandSafe [] old new
unmade_safe old new same = record {
  stand = record { made = stays_all old.told new.told same; whole = λ some. absurd (some refl) };
  durable = λ some. absurd (some refl);
}
