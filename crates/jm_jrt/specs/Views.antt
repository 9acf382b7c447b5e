-- What is handed out, as plain data.
use Rattle.std.specs.Prelude.{ℕ, ◌≡◌, ◌∷◌, length}
use Rattle.std.specs.Prelude.{Result, Ok, Err}
use Rattle.jm_form.specs.declared.trees.Holds.{Holds}
use Rattle.jm_form.specs.declared.trees.Holds.TheVariants.{Children, Owners}
use Rattle.jm_form.specs.declared.trees.Owner.{Owner}
use Rattle.jm_jrt.specs.declared.child_list.Child.{Child}
use Rattle.jm_jrt.specs.declared.child_list.Child.TheVariants as child
use Rattle.jm_jrt.specs.declared.jrt_error.JrtError.{JrtError}
use Rattle.jm_jrt.specs.declared.owners.Owned.{Owned}
use Rattle.jm_jrt.specs.Listed.{Listed}

-- an owner that the code hands out, as plain data
abbrev pub owner_as : Owned → Owner
owner_as owned = record { empty = owned.empty; «module» = owned.module.now }

-- the child that is handed out is the first of some children, and the rest follows it
abbrev pub IsFirst : Holds → Child → Holds → Type 0
IsFirst (Children names) (child.Entry name) (Children rest) = names ≡ name ∷ rest
IsFirst (Owners owners) (child.Owner empty «module») (Owners rest) =
    owners ≡ (record { empty = empty; «module» = «module».now }) ∷ rest
IsFirst all other rest = ⊥

-- how many children there are
abbrev pub count_of : Holds → ℕ
count_of (Children names) = length names
count_of (Owners owners) = length owners

-- what a list that was made holds
abbrev pub held_by : Result Listed JrtError → Result Holds JrtError
held_by (Err error) = Err error
held_by (Ok list) = Ok list.rest
