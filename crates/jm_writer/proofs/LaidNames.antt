-- The names of all entries of a laid out image: those of the resources, then those of the nodes. They
-- differ, have a byte, and no zero byte.
use Rattle.std.proofs.Common.{◌≡◌, ◌≢◌, ℕ, inl, inr, true, false, List, [], ◌∷◌, ◌++◌, map, All, AllPairs, Contains, sym, ap, ◌∙◌, subst}
use Rattle.std.proofs.lemmas.Bool.{false≢true}
use Rattle.std.proofs.lemmas.List.{map-append, map-id}
use Rattle.std.proofs.lemmas.List.Elements.{All-contains, Contains-append_cases}
use Rattle.std.specs.Prelude.{codes}
use Rattle.jm_bytes.proofs.Members.{all_from_contains}
use Rattle.jm_bytes.proofs.Pairs.{pairs_append}
use Rattle.jm_bytes.proofs.SameOrder.{mapped_twice}
use Rattle.jm_names.specs.Names.{is_node}
use Rattle.jm_form.specs.Strings.{IsZeroFree}
use Rattle.jm_form.specs.Layout.{Index, Written, all_names, names_of, sized, sized_node, written_nodes}
use Rattle.jm_form.specs.Trees.{holds_of, inner_nodes, node_names, package_nodes, tree_nodes}
use Rattle.jm_writer.specs.Laid.{CanLay}
use Rattle.jm_writer.proofs.LaidFolders.{nodes_named, sound_there}
use Rattle.jm_form.proofs.RisingLaws.{falling_differ}
use Rattle.jm_writer.proofs.LayoutLaws.{sized_layout}

nodes_sized : (names : List (List ℕ)) → map (λ e. e.name) (map sized_node (tree_nodes names)) ≡ node_names names
nodes_sized names =
    mapped_twice (λ e. e.name) sized_node (tree_nodes names)
    ∙ mapped_twice (λ node. node.name) (λ node. record { name = node; holds = holds_of names node }) (node_names names)
    ∙ map-id (node_names names)

-- the names of the resources, then those of the nodes
pub all_names_are : (resources : List Written) → all_names resources ≡ names_of resources ++ node_names (names_of resources)
all_names_are resources =
    map-append (λ e. e.name) (map sized resources) (map sized_node (tree_nodes (names_of resources)))
    ∙ ap (λ l. l ++ map (λ e. e.name) (map sized_node (tree_nodes (names_of resources)))) (mapped_twice (λ e. e.name) sized resources)
    ∙ ap (λ l. names_of resources ++ l) (nodes_sized (names_of resources))

-- they are the names of what is written
pub names_written : (index : Index) (resources : List Written) → names_of (resources ++ written_nodes index resources) ≡ all_names resources
names_written index resources =
    sym (mapped_twice (λ e. e.name) sized (resources ++ written_nodes index resources))
    ∙ ap (map (λ e. e.name)) (sized_layout index resources)

module _ (resources : List Written) (can : CanLay resources) where
  abbrev names : List (List ℕ)
  names = names_of resources

  abbrev all : List (List ℕ)
  all = names ++ node_names names

  -- no name of a resource is that of a node
  pub resource_name : (name : List ℕ) → Contains names name → is_node name ≡ false
  resource_name name there = All-contains (λ n. is_node n ≡ false) names name can.plain.resources there

  pub node_name : (name : List ℕ) → Contains (node_names names) name → is_node name ≡ true
  node_name name there = (nodes_named names can.plain.sound name there).node

  all_differ : AllPairs (λ m n. m ≢ n) all
  all_differ = pairs_append (λ m n. m ≢ n) names (node_names names) can.differ (falling_differ (codes "/modules" ∷ codes "/packages"
      ∷ inner_nodes names ++ package_nodes names)) across
    where
      across : (m n : List ℕ) → Contains names m → Contains (node_names names) n → m ≢ n
      across m n first second same = false≢true (sym (resource_name m first) ∙ ap is_node same ∙ node_name n second)

  all_named : All (λ name. name ≢ []) all
  all_named = all_from_contains (λ name. name ≢ []) all (λ name there.
      elim (Contains-append_cases names (node_names names) name there) [
        | inl one ↦ (sound_there names can.plain.sound name one).some
        | inr other ↦ (nodes_named names can.plain.sound name other).some
      ])

  all_free : All IsZeroFree all
  all_free = all_from_contains IsZeroFree all (λ name there.
      elim (Contains-append_cases names (node_names names) name there) [
        | inl one ↦ (sound_there names can.plain.sound name one).free
        | inr other ↦ (nodes_named names can.plain.sound name other).free
      ])

  pub names_differ : AllPairs (λ m n. m ≢ n) (all_names resources)
  names_differ = subst (AllPairs (λ m n. m ≢ n)) (sym (all_names_are resources)) all_differ

  pub names_have_bytes : All (λ name. name ≢ []) (all_names resources)
  names_have_bytes = subst (All (λ name. name ≢ [])) (sym (all_names_are resources)) all_named

  pub names_zero_free : All IsZeroFree (all_names resources)
  names_zero_free = subst (All IsZeroFree) (sym (all_names_are resources)) all_free
