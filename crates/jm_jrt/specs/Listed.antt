-- The children of a folder that are still to come.
use Rattle.std.specs.Prelude.{ℕ, ◌≡◌, Bool, List, [], ◌∷◌, ◌++◌, codes, if◌then◌else◌, None}
use Rattle.jm_form.specs.declared.trees.Holds.{Holds}
use Rattle.jm_form.specs.declared.trees.Holds.TheVariants.{Children, Owners}
use Rattle.jm_jrt.specs.declared.child_list.ToCome.{ToCome}
use Rattle.jm_jrt.specs.declared.child_list.ToCome.TheVariants as to_come
use Rattle.jm_jrt.specs.declared.words.Form.TheVariants as form
use Rattle.jm_jrt.specs.Told.{fault_of, names_left, owners_left}

-- an image's bytes and the children that are still to come
pub record Listed : Type 0 where
  pub bytes : List ℕ
  pub rest : Holds

-- a root, if it is there
abbrev pub root_if : Bool → List ℕ → List (List ℕ)
root_if there name = if there then name ∷ [] else []

-- the roots that are there, `/modules` first
abbrev pub roots_if : Bool → Bool → List (List ℕ)
roots_if modules packages =
    root_if modules (codes "/modules") ++ root_if packages (codes "/packages")

-- what is still to come: of the roots, or of what a content tells from a word or a pair on
abbrev pub rest_of : List ℕ → ToCome → Holds
rest_of b (to_come.Roots modules packages) = Children (roots_if modules packages)
rest_of b (to_come.Words content next) = Children (names_left b content.now next)
rest_of b (to_come.Pairs content next) = Owners (owners_left b content.now next)

-- the content was read and has no bad word
abbrev pub IsRead : List ℕ → ToCome → Type 0
IsRead b (to_come.Roots modules packages) = Unit {0}
IsRead b (to_come.Words content next) = fault_of b content.now form.Children ≡ None
IsRead b (to_come.Pairs content next) = fault_of b content.now form.Owners ≡ None
