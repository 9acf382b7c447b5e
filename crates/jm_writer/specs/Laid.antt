-- What resources must keep so that an image can be laid out of them, and what their image then is
-- (JEP 220 for the nodes; the rest is this project's rule).
use Rattle.std.specs.Prelude.{ℕ, ◌≡◌, ◌≢◌, ◌<◌, ◌≤◌, List, length, take, Some, None, option_map}
use Rattle.std.specs.Prelude.{AllPairs, Contains}
use Rattle.std.specs.Map.{lookup}
use Rattle.std.specs.Str.{bytes_eq}
use Rattle.jm_bytes.specs.declared.words.Order.{Order}
use Rattle.jm_form.specs.Damages.{first_damage}
use Rattle.jm_form.specs.Head.{order_of}
use Rattle.jm_form.specs.Layout.{Written, names_of}
use Rattle.jm_form.specs.Nodes.{NodesOf}
use Rattle.jm_form.specs.Trees.{IsPlain, node_names}
use Rattle.jm_form.specs.Validity.{Stands, Valid, look}
use Rattle.jm_writer.specs.Drafts.{image_limit}

-- the names differ, and trees can be made of them
pub record CanLay (resources : List Written) : Type 0 where
  pub differ : AllPairs (λ m n. m ≢ n) (names_of resources)
  pub plain : IsPlain (names_of resources)

-- a valid image in this order, within the limit, that stands for the resources and tells their
-- trees; each proper prefix has a first damage; the look-up of a name that is no node's answers the
-- bytes of the resource of that name, or nothing
pub record IsLaidOut (order : Order) (resources : List Written) (b : List ℕ) : Type 0 where
  pub ordered : order_of b ≡ Some order
  pub within : length b ≤ image_limit
  pub valid : Valid b
  pub stands : Stands b resources
  pub nodes : NodesOf b (names_of resources)
  pub prefixes : (n : ℕ) → n < length b → first_damage (take n b) ≢ None
  pub answers : (name : List ℕ) → (Contains (node_names (names_of resources)) name → ⊥)
      → option_map (λ found. found.1) (look b name) ≡ lookup (bytes_eq name) resources
