-- A layout of no more bytes than the limit is writable, so it is valid, stands for its resources, and
-- each proper prefix of it has a first damage.
use Rattle.std.proofs.Common.{◌≡◌, ◌≢◌, ℕ, ◌<◌, ◌≤◌, Bool, true, false, cond, not, List, [], ◌∷◌, ◌++◌}
use Rattle.std.proofs.Common.{length, map, take, Some, None, All, Contains, refl, sym, ap, ◌∙◌, subst, arith}
use Rattle.std.proofs.lemmas.List.{append-nil}
use Rattle.std.proofs.lemmas.List.Elements.{All-head, All-tail, filter-append}
use Rattle.std.specs.Prelude.{filter}
use Rattle.jm_bytes.proofs.Members.{all_from_contains, contains_map, filter_none, from_map}
use Rattle.jm_bytes.specs.declared.words.Order.{Order}
use Rattle.jm_names.specs.Names.{is_node}
use Rattle.jm_form.specs.Strings.{IsZeroFree}
use Rattle.jm_form.specs.Damages.{first_damage}
use Rattle.jm_form.specs.Greedy.{GreedyTable, word_of}
use Rattle.jm_form.specs.Layout.{Index, Written, all_names, layout_index, layout_table, layout_with, names_of, written_node, written_nodes}
use Rattle.jm_form.specs.Serves.{Serves}
use Rattle.jm_form.specs.Trees.{holds_of, node_names, tree_nodes}
use Rattle.jm_form.specs.Validity.{Stands, Valid}
use Rattle.jm_writer.specs.Laid.{CanLay}
use Rattle.jm_writer.specs.Drafts.{image_limit}
use Rattle.jm_writer.specs.Writable.{Writable}
use Rattle.jm_writer.proofs.ImagePrefixes.{prefix_damaged}
use Rattle.jm_writer.proofs.ImageStands.{image_stands}
use Rattle.jm_writer.proofs.ImageValid.{image_valid}
use Rattle.jm_writer.proofs.LaidNames.{names_have_bytes, names_written, names_zero_free, node_name, resource_name}
use Rattle.jm_writer.proofs.LaidTable.{slots_within, table_found}

-- What passes all of a list

pub filter_all : {X : Type 0} (p : X → Bool) (xs : List X) → All (λ x. p x ≡ true) xs → filter p xs ≡ xs
filter_all p [] passes = refl
filter_all p (x ∷ xs) passes = ap (λ b. cond b (x ∷ filter p xs) (filter p xs)) (All-head (λ y. p y ≡ true) x xs passes)
    ∙ ap (λ l. x ∷ l) (filter_all p xs (All-tail (λ y. p y ≡ true) x xs passes))

-- of two lists, all of the first and nothing of the second
pub filter_first : {X : Type 0} (p : X → Bool) (xs ys : List X) → All (λ x. p x ≡ true) xs → All (λ y. p y ≡ false) ys
    → filter p (xs ++ ys) ≡ xs
filter_first p xs ys all none = filter-append p xs ys ∙ ap (λ l. l ++ filter p ys) (filter_all p xs all)
    ∙ ap (λ l. xs ++ l) (filter_none p ys none) ∙ append-nil xs

pub filter_second : {X : Type 0} (p : X → Bool) (xs ys : List X) → All (λ x. p x ≡ false) xs → All (λ y. p y ≡ true) ys
    → filter p (xs ++ ys) ≡ ys
filter_second p xs ys none all = filter-append p xs ys ∙ ap (λ l. l ++ filter p ys) (filter_none p xs none) ∙ filter_all p ys all

-- Nodes that are written

-- the node that a written one is
pub from_written : (index : Index) (resources : List Written) (e : Written) → Contains (written_nodes index resources) e
    → (node : List ℕ) × Contains (node_names (names_of resources)) node
    × (written_node index (all_names resources) (record { name = node; holds = holds_of (names_of resources) node }) ≡ e)
from_written index resources e there =
    let (tree, among, is) = from_map (written_node index (all_names resources)) (tree_nodes (names_of resources)) e there in
    let (node, inside, of) = from_map (λ node. record { name = node; holds = holds_of (names_of resources) node })
    (node_names (names_of resources)) tree among in
    (node, inside, ap (written_node index (all_names resources)) of ∙ is)

-- A layout

module _ (order : Order) (resources : List Written) (can : CanLay resources) (table : GreedyTable) (is : layout_table resources
    ≡ Some table) (within : length (layout_with order resources table) ≤ image_limit) where
  abbrev index : Index
  index = layout_index order table resources

  abbrev es : List Written
  es = resources ++ written_nodes index resources

  abbrev b : List ℕ
  b = layout_with order resources table

  names_are : names_of es ≡ all_names resources
  names_are = names_written index resources

  pub laid_writable : Writable order table es
  laid_writable =
      let found = table_found (all_names resources) table is in
      let most = slots_within order resources table found in
      let served = found.served (omega (arith, most, within)) in
      record {
        named = subst (All (λ name. name ≢ [])) (sym names_are) (names_have_bytes resources can);
        zero_free = subst (All IsZeroFree) (sym names_are) (names_zero_free resources can);
        serves = subst (λ names. Serves names table.length (map word_of table.redirects) table.slots) (sym names_are) served.serves;
        words = served.words;
        within = within;
      }

  pub laid_valid : Valid b
  laid_valid = image_valid order table es laid_writable

  no_nodes : All (λ (r : Written). not (is_node r.0) ≡ true) resources
  no_nodes = all_from_contains (λ (r : Written). not (is_node r.0) ≡ true) resources
      (λ r there. ap not (resource_name resources can r.0 (contains_map (λ (r : Written). r.0) resources r there)))

  only_nodes : All (λ (r : Written). not (is_node r.0) ≡ false) (written_nodes index resources)
  only_nodes = all_from_contains (λ (r : Written). not (is_node r.0) ≡ false) (written_nodes index resources)
      (λ r there.
      let (node, inside, of) = from_written index resources r there in
      ap (λ (e : Written). not (is_node e.0)) (sym of) ∙ ap not (node_name resources can node inside))

  pub laid_stands : Stands b resources
  laid_stands = subst (Stands b) (filter_first (λ (r : Written). not (is_node r.0)) resources (written_nodes index resources)
      no_nodes only_nodes) (image_stands order table es laid_writable)

  pub laid_prefixes : (n : ℕ) → n < length b → first_damage (take n b) ≢ None
  laid_prefixes = prefix_damaged order table es laid_writable
