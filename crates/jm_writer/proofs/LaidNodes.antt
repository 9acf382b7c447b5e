-- The nodes of a layout tell the trees of its resources.
use Rattle.std.proofs.Common.{◌≡◌, ℕ, ◌≤◌, inl, inr, Bool, true, false, cond, List, ◌++◌, length, map, drop}
use Rattle.std.proofs.Common.{Some, Contains, IsPermutation, refl, sym, ap, ◌∙◌, subst, arith}
use Rattle.std.proofs.lemmas.Bool.{false≢true}
use Rattle.std.proofs.lemmas.List.Elements.{Contains-append_cases, Contains-append_left, Contains-append_right}
use Rattle.std.specs.Prelude.{codes, filter}
use Rattle.std.specs.Str.{bytes_eq}
use Rattle.jm_bytes.proofs.Members.{all_from_contains, contains_map, from_filter}
use Rattle.jm_bytes.specs.declared.words.Order.{Order}
use Rattle.jm_names.specs.Names.{is_node, split}
use Rattle.jm_form.specs.Strings.{IsZeroFree}
use Rattle.jm_form.specs.declared.container.Header.{Header}
use Rattle.jm_form.specs.declared.trees.Holds.{Holds}
use Rattle.jm_form.specs.declared.trees.Holds.TheVariants.{Children, Owners}
use Rattle.jm_form.specs.declared.trees.Owner.{Owner}
use Rattle.jm_form.specs.Entries.{Entry, entries}
use Rattle.jm_form.specs.Greedy.{GreedyTable}
use Rattle.jm_form.specs.Layout.{Index, Written, all_names, contents_text, index_of, layout_index}
use Rattle.jm_form.specs.Layout.{layout_table, layout_with, name_place, names_of, node_words, sized}
use Rattle.jm_form.specs.Layout.{text_place, texts_of, written_nodes}
use Rattle.jm_form.specs.Nodes.{LeadsTo, NodesOf, StandsAt, Tells, nodes_among, words_text}
use Rattle.jm_form.specs.Trees.{children, holds_of, is_package_node, module_of, node_names, owners, package_nodes}
use Rattle.jm_writer.specs.Laid.{CanLay}
use Rattle.jm_writer.specs.Drafts.{image_limit}
use Rattle.jm_writer.specs.Writable.{Writable, header_with}
use Rattle.jm_writer.proofs.ImageEntries.{index_is_fit}
use Rattle.jm_writer.proofs.ImagePlaces.{name_place_leads, owner_stands}
use Rattle.jm_writer.proofs.ImageStands.{image_nodes}
use Rattle.jm_writer.proofs.ImageTexts.{piece_held}
use Rattle.jm_writer.proofs.ImageValid.{image_valid_as, there_written}
use Rattle.jm_writer.proofs.LaidChildren.{child_named, owner_from, owners_words, package_there, zip_mapped}
use Rattle.jm_writer.proofs.LaidFolders.{folder_free, folder_from, sound_there}
use Rattle.jm_writer.proofs.LaidNames.{all_names_are, names_written, node_name, resource_name}
use Rattle.jm_writer.proofs.LaidWritable.{filter_second, from_written, laid_writable}
use Rattle.jm_writer.proofs.LayoutLaws.{sized_layout}

module _ (order : Order) (resources : List Written) (can : CanLay resources) (table : GreedyTable) (is : layout_table resources
    ≡ Some table) (within : length (layout_with order resources table) ≤ image_limit) where
  abbrev names : List (List ℕ)
  names = names_of resources

  abbrev all : List (List ℕ)
  all = all_names resources

  abbrev index : Index
  index = layout_index order table resources

  abbrev es : List Written
  es = resources ++ written_nodes index resources

  -- the same index, from what is written
  abbrev written : Index
  written = index_of order table (map sized es)

  abbrev b : List ℕ
  b = layout_with order resources table

  abbrev h : Header
  h = header_with written

  writable : Writable order table es
  writable = laid_writable order resources can table is within

  same_index : written ≡ index
  same_index = ap (index_of order table) (sized_layout index resources)

  -- Places

  all_there : (name : List ℕ) → Contains (names ++ node_names names) name → Contains all name
  all_there name there = subst (λ l. Contains l name) (sym (all_names_are resources)) there

  leads : (name : List ℕ) → Contains (names ++ node_names names) name → LeadsTo b h name (name_place index all name)
  leads name there =
      let among = subst (λ l. Contains l name) (sym (names_written index resources)) (all_there name there) in
      subst (λ l. LeadsTo b h name (name_place index l name)) (names_written index resources)
      (subst (λ i. LeadsTo b h name (name_place i (names_of es) name)) same_index (name_place_leads order table es writable name among))

  -- the module of a name is held
  module_held : (name : List ℕ) → Contains names name → Contains (texts_of all) (module_of name)
  module_held name there =
      subst (Contains (texts_of all)) (sound_there names can.plain.sound name there).piece
      (piece_held all name (split name).«module» (all_there name (Contains-append_left names (node_names names) name there))
      (0, omega arith, refl))

  stands : (called : List ℕ) (owner : Owner) → Contains (owners names called) owner
      → StandsAt b h owner (text_place index.texts owner.«module»)
  stands called owner there =
      let (folder, inside, of) = owner_from names called owner there in
      let from = folder_from names can.plain.sound folder inside in
      let held : Contains index.texts owner.«module» = subst (Contains (texts_of all)) (sym from.«module» ∙ of)
      (module_held from.name from.there) in
      let free : IsZeroFree owner.«module» = subst IsZeroFree of (folder_free names can.plain.sound folder from) in
      subst (λ i. StandsAt b h owner (text_place i.texts owner.«module»)) same_index
      (owner_stands written (index_is_fit order table es writable) (contents_text es) owner
      (subst (λ i. Contains i.texts owner.«module») (sym same_index) held) free)

  -- Contents

  tells_children : (list : List (List ℕ)) → ((name : List ℕ) → Contains list name → Contains (names ++ node_names names) name)
      → Tells b h (Children list) (words_text order (node_words index all (Children list)))
  tells_children list named = (
    map (name_place index all) list,
    zip_mapped (LeadsTo b h) (name_place index all) list
        (λ name there. leads name (named name there)),
    refl,
  )

  tells_owners : (called : List ℕ) → Tells b h (Owners (owners names called))
      (words_text order (node_words index all (Owners (owners names called))))
  tells_owners called =
      let list : List Owner = owners names called in
      let place : Owner → ℕ = λ o. text_place index.texts o.«module» in
      (map place list, zip_mapped (StandsAt b h) place list (stands called), owners_words order index list)

  tells_node : (node : List ℕ) → Tells b h (holds_of names node) (words_text order (node_words index all (holds_of names node)))
  tells_node node = go (is_package_node node) (bytes_eq node (codes "/packages"))
    where
      chosen : Bool → Bool → Holds
      chosen c d = cond c (Owners (owners names (drop 10 node))) (cond d (Children (package_nodes names)) (Children (children names node)))

      go : (c d : Bool) → Tells b h (chosen c d) (words_text order (node_words index all (chosen c d)))
      go true d = tells_owners (drop 10 node)
      go false true = tells_children (package_nodes names) (λ name there. Contains-append_right names (node_names names) name
          (package_there names name there))
      go false false = tells_children (children names node) (child_named names node)

  tell : (e : Entry) → Contains (nodes_among (entries b h)) e → Tells b h (holds_of names e.name) e.content
  tell e there =
      let passed = from_filter (λ e. is_node e.name) (entries b h) e there in
      elim (Contains-append_cases resources (written_nodes index resources) (e.name, e.content) (there_written order table es
      writable e passed.0)) [
        | inl resource ↦ absurd
            (false≢true (sym (resource_name resources can e.name (contains_map (λ (r : Written). r.0) resources (e.name, e.content)
            resource)) ∙ passed.1))
        | inr node ↦
            let (name, among, of) = from_written index resources (e.name, e.content) node in
            subst (λ (p : Written). Tells b h (holds_of names p.0) p.1) of (tells_node name)
      ]

  -- Names

  nodes_are : IsPermutation (map (λ e. e.name) (nodes_among (entries b h))) (node_names names)
  nodes_are =
      let first = all_from_contains (λ n. is_node n ≡ false) names (resource_name resources can) in
      let second = all_from_contains (λ n. is_node n ≡ true) (node_names names) (node_name resources can) in
      subst (IsPermutation (map (λ e. e.name) (nodes_among (entries b h))))
      (ap (filter is_node) (names_written index resources ∙ all_names_are resources)
      ∙ filter_second is_node names (node_names names) first second)
      (image_nodes order table es writable)

  pub laid_nodes : NodesOf b names
  laid_nodes = (h, record { header = (image_valid_as order table es writable).header; all = nodes_are; tell = tell })
