-- The image of resources that nothing refuses is what their layout is.
use Rattle.std.proofs.Common.{◌≡◌, ◌≢◌, ℕ, false, List, [], ◌∷◌, ◌++◌, ◌≤◌, length, length-append, rules}
use Rattle.std.proofs.Common.{All, AllPairs, Option, Some, None, is_none, option_and_then, option_map, refl}
use Rattle.std.proofs.Common.{subst, arith}
use Rattle.std.proofs.lemmas.Bool.{ltb-false}
use Rattle.std.proofs.lemmas.List.{get_or_append_left, get_or_default}
use Rattle.std.specs.Prelude.{nat_lt}
use Rattle.jm_bytes.specs.Checks.{fault_if}
use Rattle.jm_bytes.proofs.CheckLaws.{fault_if_none, no_fault_head, no_fault_tail}
use Rattle.jm_bytes.specs.declared.words.Order.{Order}
use Rattle.jm_form.specs.Greedy.{GreedyTable}
use Rattle.jm_form.specs.Layout.{Written, all_names, all_sized, layout, layout_table, layout_with, names_of}
use Rattle.jm_form.specs.Serves.{Serves}
use Rattle.jm_form.specs.Trees.{first_clash, node_names}
use Rattle.jm_names.specs.NameFaults.{IsSound}
use Rattle.jm_names.specs.Names.{is_node}
use Rattle.jm_nodes.proofs.OrderLaws.{pairs_unmapped}
use Rattle.jm_writer.specs.Drafts.{entry_limit, image_limit}
use Rattle.jm_writer.specs.Laid.{CanLay, IsLaidOut}
use Rattle.jm_writer.proofs.LaidNames.{all_names_are}
use Rattle.jm_writer.proofs.LaidOut.{laid_out}
use Rattle.jm_writer.proofs.LaidTable.{slots_within, table_found}
use Rattle.jm_texts.specs.declared.refusal.Refusal.{Refusal}
use Rattle.jm_texts.specs.declared.refusal.Refusal.TheVariants as refusal
use Rattle.jm_link.specs.Linked.{image_with, layout_refusal, size_refusal}
use Rattle.jm_bytes.proofs.Choice.{mapped_none, same_some}

-- Names with a table differ

-- each has a slot of its own
served_apart : (names : List (List ℕ)) (slots : ℕ) (words given : List ℕ) → Serves names slots words given → AllPairs (λ m n. m ≢ n) names
served_apart names slots words given serves i j d before inside same = search (rules, get_or_default, same_some)

pairs_front : {X : Type 0} (R : X → X → Type 0) (xs ys : List X) → AllPairs R (xs ++ ys) → AllPairs R xs
pairs_front R xs ys all i j d before inside = search (rules, length-append, get_or_append_left)

-- What nothing refuses

-- the checks after the third, the second and the first
abbrev behind_table : Order → List Written → List (Option Refusal)
behind_table order resources = option_and_then (size_refusal order resources) (layout_table resources) ∷ []

abbrev behind_count : Order → List Written → List (Option Refusal)
behind_count order resources =
    fault_if (is_none (layout_table resources)) (refusal.NoTable 64)
    ∷ behind_table order resources

abbrev behind_clash : Order → List Written → List (Option Refusal)
behind_clash order resources =
    fault_if (nat_lt entry_limit (length (all_sized resources))) (refusal.TooMany (length (all_sized resources)))
    ∷ behind_count order resources

module _ (order : Order) (resources : List Written) (free : layout_refusal order resources ≡ None) where
  -- no name is that of another's folder
  apart : first_clash (names_of resources) ≡ None
  apart = mapped_none (λ name. refusal.Clash name) (first_clash (names_of resources))
      (no_fault_head (option_map (λ name. refusal.Clash name) (first_clash (names_of resources))) (behind_clash order resources) free)

  -- the image by the table is within the limit
  within : option_and_then (size_refusal order resources) (layout_table resources) ≡ None
  within = grind (arith, option_and_then, no_fault_head, no_fault_tail)

  has_table : is_none (layout_table resources) ≡ false
  has_table = search (rules, fault_if_none, no_fault_head, no_fault_tail)

  -- the image by a table is within the limit
  small : (table : GreedyTable) → layout_table resources ≡ Some table → length (layout_with order resources table) ≤ image_limit
  small table is = search (rules, option_and_then, ltb-false, fault_if_none, within)

  -- what has a table within the limit has names that differ
  apart_with : (table : GreedyTable) → layout_table resources ≡ Some table → AllPairs (λ m n. m ≢ n) (names_of resources)
  apart_with table is =
      let found = table_found (all_names resources) table is in
      let size = slots_within order resources table found in
      let limit = small table is in
      let served = found.served (omega (arith, size, limit)) in
      pairs_front (λ (m n : List ℕ). m ≢ n) (names_of resources) (node_names (names_of resources))
      (subst (AllPairs (λ (m n : List ℕ). m ≢ n)) (all_names_are resources) (served_apart (all_names resources) table.length _
      table.slots served.serves))

  -- there is a table
  table_there : (o : Option GreedyTable) → layout_table resources ≡ o → is_none o ≡ false → (table : GreedyTable) × (layout_table resources
      ≡ Some table)
  table_there None is some = cc
  table_there (Some table) is some = (table, is)

  -- so the names differ
  pub resources_apart : AllPairs (λ (e f : Written). e.0 ≢ f.0) resources
  resources_apart =
      let (table, is) = table_there (layout_table resources) refl has_table in
      pairs_unmapped (λ (m n : List ℕ). m ≢ n) (λ (r : Written). r.0) resources (apart_with table is)

  -- and trees can be made of fit ones
  pub can_lay : All IsSound (names_of resources) → All (λ name. is_node name ≡ false) (names_of resources) → CanLay resources
  can_lay sound plain =
      let (table, is) = table_there (layout_table resources) refl has_table in
      record { differ = apart_with table is; plain = record { sound = sound; resources = plain; apart = apart } }

  -- and the image, which is within the limit
  pub laid_bytes : (modules : ℕ) → (layout order resources ≡ Some (image_with order modules resources).bytes)
      × (length (image_with order modules resources).bytes ≤ image_limit)
  laid_bytes modules =
      let (table, is) = table_there (layout_table resources) refl has_table in
      rw is (refl, small table is)

  pub laid_free : (modules : ℕ) → All IsSound (names_of resources) → All (λ name. is_node name ≡ false) (names_of resources)
      → IsLaidOut order resources (image_with order modules resources).bytes
  laid_free modules sound plain =
      let (is, within) = laid_bytes modules in
      laid_out order resources (image_with order modules resources).bytes (can_lay sound plain) is within
