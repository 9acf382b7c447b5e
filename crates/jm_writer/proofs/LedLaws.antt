-- The slots to which a table leads names: those of its own names, and so of all children of the nodes
-- of a pool.
use Rattle.std.proofs.Common.{◌≡◌, ◌≢◌, ℕ, ◌+◌, ◌<◌, Bool, true, false, cond, List, [], ◌∷◌, ◌++◌, length}
use Rattle.std.proofs.Common.{map, take, get_or, drop, AllPairs, Contains, sym, ap, ◌∙◌, unwrap_or, subst, arith}
use Rattle.std.proofs.lemmas.List.{get_or-map, get_or_default, map_more}
use Rattle.std.proofs.lemmas.List.Elements.{Contains-append_right}
use Rattle.std.proofs.lemmas.Slice.Eq.{bytes_eq-Decides}
use Rattle.std.specs.List.{zip}
use Rattle.std.specs.Map.{lookup}
use Rattle.std.specs.Prelude.{codes}
use Rattle.std.specs.Str.{bytes_eq}
use Rattle.jm_bytes.proofs.Members.{from_map}
use Rattle.jm_names.specs.Hash.{hash, default_seed}
use Rattle.jm_form.specs.declared.table.Redirect.{Redirect}
use Rattle.jm_form.specs.declared.trees.Holds.{Holds}
use Rattle.jm_form.specs.declared.trees.Holds.TheVariants.{Children, Owners}
use Rattle.jm_form.specs.declared.trees.TreeNode.{TreeNode}
use Rattle.jm_form.specs.Layout.{Written, all_names, names_of}
use Rattle.jm_form.specs.Table.{slot_of}
use Rattle.jm_form.specs.Trees.{children, holds_of, is_package_node, node_names, owners, package_nodes, tree_nodes}
use Rattle.jm_redirect.specs.Built.{redirect_at}
use Rattle.jm_redirect.specs.declared.building.Table.{Table}
use Rattle.jm_writer.specs.Laying.{IsTable}
use Rattle.jm_writer.specs.Parts.{slot_in, slot_or_first}
use Rattle.jm_writer.proofs.ImageLists.{lookup_at}
use Rattle.jm_writer.proofs.LaidChildren.{child_named, package_there}
use Rattle.jm_writer.proofs.LaidNames.{all_names_are}

-- A table

-- the slot of one name more
pub slot_next : (table : Table) (names : List (List ℕ)) (given : List Redirect) (slots : List ℕ) (place : ℕ) (d : List ℕ) (r : Redirect)
    → place < length names → given ≡ map (λ name. redirect_at table.redirects (hash default_seed name)) names
    → slots ≡ map (slot_or_first table) (take place names)
    → slots ++ unwrap_or (slot_of table.length (get_or names place d) (get_or given place r)) 0 ∷ []
    ≡ map (slot_or_first table) (take (place + 1) names)
slot_next table names given slots place d r below are so_far =
    let redirect : List ℕ → Redirect = λ name. redirect_at table.redirects (hash default_seed name) in
    let at = ap (λ l. get_or l place r) are ∙ get_or-map redirect names place d r below in
    ap (λ l. l ++ unwrap_or (slot_of table.length (get_or names place d) (get_or given place r)) 0 ∷ []) so_far
    ∙ ap (λ x. map (slot_or_first table) (take place names) ++ unwrap_or (slot_of table.length (get_or names place d) x) 0 ∷ []) at
    ∙ sym (map_more (slot_or_first table) names place d below)

-- a name of the table is led to its own slot
pub led_there : (names : List (List ℕ)) (table : Table) → IsTable names table → AllPairs (λ m n. m ≢ n) names → (name : List ℕ)
    → Contains names name → slot_in table name ≡ lookup (bytes_eq name) (zip names table.slot_of)
led_there names table is differ name (k, inside, here) =
    let own : get_or names k [] ≡ name = get_or_default names k [] name inside ∙ here in
    let long = is.serves.given_length in
    let found = lookup_at bytes_eq bytes_eq-Decides names table.slot_of k [] 0 differ inside (omega (arith, long, inside)) in
    subst (λ n. slot_in table n ≡ lookup (bytes_eq n) (zip names table.slot_of)) own (is.led k inside ∙ sym found)

-- The nodes

-- the children are names
abbrev pub AreNamed : List (List ℕ) → Holds → Type 0
AreNamed names (Children list) = (name : List ℕ) → Contains list name → Contains names name
AreNamed names (Owners owners) = Unit {0}

holds_named : (names : List (List ℕ)) (node : List ℕ) → AreNamed (names ++ node_names names) (holds_of names node)
holds_named names node = go (is_package_node node) (bytes_eq node (codes "/packages"))
  where
    go : (c d : Bool) → AreNamed (names ++ node_names names) (cond c (Owners (owners names (drop 10 node)))
        (cond d (Children (package_nodes names)) (Children (children names node))))
    go true d = tt
    go false true = λ name there. Contains-append_right names (node_names names) name (package_there names name there)
    go false false = child_named names node

-- the children of all nodes of a pool are names of its entries
pub nodes_named : (pool : List Written) (node : TreeNode) → Contains (tree_nodes (names_of pool)) node
    → AreNamed (all_names pool) node.holds
nodes_named pool node there =
    let names = names_of pool in
    let (name, among, of) = from_map (λ (n : List ℕ). record { name = n; holds = holds_of names n }) (node_names names) node there in
    subst (λ l. AreNamed l node.holds) (sym (all_names_are pool))
    (subst (λ (n : TreeNode). AreNamed (names ++ node_names names) n.holds) of (holds_named names name))
