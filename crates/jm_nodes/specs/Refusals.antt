-- What is answered in place of nodes (this project's rule).
use Rattle.std.specs.Prelude.{ℕ, ◌≡◌, ◌<◌, List, length, Some, None}
use Rattle.jm_form.specs.Trees.{first_clash, tree_nodes}
use Rattle.jm_nodes.specs.declared.trees.NodesFault.{NodesFault}
use Rattle.jm_nodes.specs.declared.trees.NodesFault.TheVariants as fault

-- the least name that is also that of another's folder, or else the number of the nodes, which are
-- more than there is room for
abbrev pub IsRefused : List (List ℕ) → ℕ → NodesFault → Type 0
IsRefused names room (fault.Clash name) = first_clash names ≡ Some name
IsRefused names room (fault.TooMany number) =
    (first_clash names ≡ None) × (room < number) × (number ≡ length (tree_nodes names))
