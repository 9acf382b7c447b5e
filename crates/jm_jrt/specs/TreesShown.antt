-- An image that shows the two trees of resources (JEP 220: the `jrt` file system).
use Rattle.std.specs.Prelude.{ℕ, ◌≡◌, List, Option, Some, Result, Ok, Err}
use Rattle.std.specs.Option.{ok_or}
use Rattle.jm_form.specs.Nodes.{NodesOf}
use Rattle.jm_form.specs.TreeView.{TreeItem, Package, names_of, tree}
use Rattle.jm_form.specs.Validity.{Stands}
use Rattle.jm_jrt.specs.declared.jrt_error.JrtError.{JrtError}
use Rattle.jm_jrt.specs.declared.jrt_error.JrtError.TheVariants.{NotThere}
use Rattle.jm_jrt.specs.Stat.{first_full, owner, stat}

-- the first owner, of a package that stands there, for which it isn't empty; anything else is not
-- there
abbrev pub full_owner : Option TreeItem → Result (Option (List ℕ)) JrtError
full_owner (Some (Package owners)) = Ok (first_full owners)
full_owner other = Err NotThere

-- at every path there stands in the image what the trees of the resources have there, and nothing
-- else, and no node is bad; and so is the first full owner of each package
pub record ShowsTrees (b : List ℕ) (resources : List (List ℕ × List ℕ)) : Type 0 where
  pub stats : (path : List ℕ) → stat b path ≡ ok_or (tree resources path) NotThere
  pub owners : (path : List ℕ) → owner b path ≡ full_owner (tree resources path)

-- for all resources for which the image stands and whose nodes it has, this is what their trees
-- have at the path
abbrev pub IsItemOfTrees : List ℕ → List ℕ → Result TreeItem JrtError → Type 0
IsItemOfTrees b path item =
    (m : List (List ℕ × List ℕ)) → Stands b m → NodesOf b (names_of m)
    → item ≡ ok_or (tree m path) NotThere

-- for all such resources, this is the first full owner of the package at the path
abbrev pub IsOwnerOfTrees : List ℕ → List ℕ → Result (Option (List ℕ)) JrtError → Type 0
IsOwnerOfTrees b path owner =
    (m : List (List ℕ × List ℕ)) → Stands b m → NodesOf b (names_of m)
    → owner ≡ full_owner (tree m path)
