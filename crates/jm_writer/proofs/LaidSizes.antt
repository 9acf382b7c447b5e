-- How many bytes the content of a node has: no node holds more than there are entries.
use Rattle.std.proofs.Common.{◌≢◌, ◌<◌, ◌≤◌, ◌+◌, ◌*◌, ◌^◌, ℕ, inl, inr, Bool, true, false, cond, List, ◌++◌, length, map, drop}
use Rattle.std.proofs.Common.{All, AllPairs, Contains, ap, ◌∙◌, subst, arith, get_or}
use Rattle.std.proofs.lemmas.Bool.{false_from_ne_true}
use Rattle.std.proofs.lemmas.Cmp.{nat_list_eq_equiv}
use Rattle.std.proofs.lemmas.List.{length-append, length-map}
use Rattle.std.proofs.lemmas.List.Elements.{Contains-append_cases, Contains-append_left, Contains-append_right}
use Rattle.std.proofs.lemmas.Map.Keys.{IsDistinct-from_apart}
use Rattle.std.proofs.lemmas.Map.Made.{length-le_from_is_member}
use Rattle.std.proofs.lemmas.Slice.Eq.{bytes_eq-Decides}
use Rattle.std.specs.Prelude.{codes, filter, not}
use Rattle.std.specs.Str.{bytes_eq}
use Rattle.jm_bytes.proofs.Members.{all_from_contains, any_contains, contains_map, from_any, from_filter, from_map, length_filter}
use Rattle.jm_bytes.proofs.SameOrder.{from_flat_map}
use Rattle.jm_form.specs.declared.trees.Holds.TheVariants.{Children, Owners}
use Rattle.jm_form.specs.declared.trees.Owner.{Owner}
use Rattle.jm_form.specs.declared.trees.TreeNode.{TreeNode}
use Rattle.jm_form.specs.Layout.{holds_size}
use Rattle.jm_form.specs.Rising.{rising}
use Rattle.jm_form.specs.Trees.{ModuleFolder, children, entry_name, folders, folders_called, folders_of, fronts, holds_of}
use Rattle.jm_form.specs.Trees.{inner_nodes, is_child, is_empty_in, is_meta, is_package_node, module_of, node_names, owners}
use Rattle.jm_form.specs.Trees.{package_folders, package_node, package_nodes, package_of, packages, path_of, tree_nodes}
use Rattle.jm_form.specs.Trees.{tree_place, tree_places}
use Rattle.jm_form.proofs.RisingLaws.{from_rising, rising_differ}
use Rattle.jm_writer.proofs.LaidChildren.{inner_there, package_there}

-- texts that differ, and of which each is among some others, are no more than these
pub few_among : (texts others : List (List ℕ)) → AllPairs (λ a b. a ≢ b) texts → ((g : List ℕ) → Contains texts g → Contains others g)
    → length texts ≤ length others
few_among texts others differ among =
    length-le_from_is_member nat_list_eq_equiv texts others
    (IsDistinct-from_apart bytes_eq texts (λ i j d before below. false_from_ne_true (bytes_eq (get_or texts i d) (get_or texts j d))
    (λ same. differ i j d before below ((bytes_eq-Decides (get_or texts i d) (get_or texts j d)).0 same))))
    (λ g there.
    let (text, inside, same) = from_any (bytes_eq g) texts there in
    any_contains (bytes_eq g) others text (among text inside) same)

module _ (names : List (List ℕ)) where
  -- below `/modules` stand no more than the resources and the nodes
  places_few : length (tree_places names) ≤ length names + length (node_names names)
  places_few =
      let inner : List (List ℕ) = inner_nodes names in
      let places : List (List ℕ) = map tree_place names in
      let few = few_among (tree_places names) (node_names names ++ places) (rising_differ (inner ++ places))
      (λ g there. elim (Contains-append_cases inner places g (from_rising (inner ++ places) g there)) [
        | inl one ↦ Contains-append_left (node_names names) places g (inner_there names g one)
        | inr other ↦ Contains-append_right (node_names names) places g other
      ]) in
      let both = length-append (node_names names) places in
      let each = length-map names tree_place in
      omega arith

  children_few : (node : List ℕ) → length (children names node) ≤ length names + length (node_names names)
  children_few node =
      let named = length-map (filter (is_child node) (tree_places names)) (entry_name names) in
      let some = length_filter (is_child node) (tree_places names) in
      let few = places_few in
      omega arith

  packages_few : length (package_nodes names) ≤ length (node_names names)
  packages_few =
      let few = few_among (packages names) (map (drop 10) (node_names names)) (rising_differ (map package_of (package_folders names)))
      (λ called there. contains_map (drop 10) (node_names names) (package_node called) (package_there names (package_node called)
      (contains_map package_node (packages names) called there))) in
      let each = length-map (packages names) package_node in
      let cut = length-map (node_names names) (drop 10) in
      omega arith

  owners_few : (called : List ℕ) → length (owners names called) ≤ length names
  owners_few called =
      let modules : List (List ℕ) = map (λ (folder : ModuleFolder). folder.«module») (folders_called names called) in
      let few = few_among (rising modules) (map module_of names) (rising_differ modules) (λ text there.
      let (folder, inside, of) = from_map (λ (folder : ModuleFolder). folder.«module») (folders_called names called) text
      (from_rising modules text there) in
      let named = from_filter (λ folder. bytes_eq called (package_of folder)) (package_folders names) folder inside in
      let passed = from_filter (λ folder. not (is_meta folder.path)) (folders names) folder named.0 in
      let (name, source, among) = from_flat_map folders_of names folder passed.0 in
      let (front, within, is) = from_map (λ (front : List ℕ). record { «module» = module_of name; path = front })
      (fronts (path_of name)) folder among in
      subst (Contains (map module_of names)) (ap (λ (f : ModuleFolder). f.«module») is ∙ of)
      (contains_map module_of names name source)) in
      let as_owner : List ℕ → Owner = λ text. record { empty = is_empty_in names called text; «module» = text } in
      let each = length-map (rising modules) as_owner in
      let all = length-map names module_of in
      omega arith

  holds_few : (node : List ℕ) → holds_size (holds_of names node) ≤ 8 * (length names + length (node_names names))
  holds_few node = go (is_package_node node) (bytes_eq node (codes "/packages"))
    where
      go : (a b : Bool) → holds_size (cond a (Owners (owners names (drop 10 node))) (cond b (Children (package_nodes names))
          (Children (children names node)))) ≤ 8 * (length names + length (node_names names))
      go true b = let few = owners_few (drop 10 node) in omega arith
      go false true = let few = packages_few in omega arith
      go false false = let few = children_few node in omega arith

  -- the content of each node has a size of 64 bits, where there are no more entries than an image has
  pub nodes_fit : length names + length (tree_nodes names) ≤ 1048576 → All (λ node. holds_size node.holds < 2 ^ 64) (tree_nodes names)
  nodes_fit few =
      let as_node : List ℕ → TreeNode = λ text. record { name = text; holds = holds_of names text } in
      let count = length-map (node_names names) as_node in
      all_from_contains (λ (node : TreeNode). holds_size node.holds < 2 ^ 64) (tree_nodes names) (λ node there.
      let (text, inside, is) = from_map as_node (node_names names) node there in
      subst (λ (n : TreeNode). holds_size n.holds < 2 ^ 64) is (let most = holds_few text in omega arith))
