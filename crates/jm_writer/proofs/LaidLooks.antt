-- The look-up in a layout answers the bytes of a resource for its name, and nothing for a name that is
-- neither a resource's nor a node's. The bytes say their order.
use Rattle.std.proofs.Common.{◌≡◌, ℕ, ◌≤◌, inl, inr, false, not, ◌==◌, List, [], ◌∷◌, ◌++◌, length, Option}
use Rattle.std.proofs.Common.{Some, None, IsSome, is_none, Ok, Contains, option_map, unwrap_or, refl, ap, ◌∙◌}
use Rattle.std.proofs.Common.{subst}
use Rattle.std.proofs.lemmas.Bool.{false≢true}
use Rattle.std.proofs.lemmas.Cmp.{nat_list_eq_equiv}
use Rattle.std.proofs.lemmas.List.Elements.{Contains-append_cases, Contains-append_left}
use Rattle.std.proofs.lemmas.Map.Views.{Contains-from_lookup, IsSome-lookup_from_Contains}
use Rattle.std.proofs.lemmas.Slice.Eq.{bytes_eq-Decides}
use Rattle.std.specs.Map.{lookup}
use Rattle.std.specs.Prelude.{nat_lt}
use Rattle.std.specs.Str.{bytes_eq}
use Rattle.jm_bytes.proofs.CheckLaws.{fault_if_none, no_fault_head, no_fault_tail}
use Rattle.jm_bytes.proofs.Members.{contains_map}
use Rattle.jm_bytes.specs.Checks.{fault_if, first_fault}
use Rattle.jm_bytes.specs.declared.words.Order.{Order}
use Rattle.jm_bytes.specs.declared.words.Order.TheVariants.{Little}
use Rattle.jm_form.specs.declared.container.Header.{Header}
use Rattle.jm_form.specs.declared.container.HeaderFault.TheVariants as fault
use Rattle.jm_form.specs.Greedy.{GreedyTable}
use Rattle.jm_form.specs.Head.{fields_of, header_checks, header_of, index_length, order_of, version_of}
use Rattle.jm_form.specs.Layout.{Index, Written, layout_index, layout_table, layout_with, names_of, written_nodes}
use Rattle.jm_form.specs.Trees.{node_names}
use Rattle.jm_form.specs.Validity.{look}
use Rattle.jm_form.proofs.HeadLaws.{header_found}
use Rattle.jm_writer.specs.Laid.{CanLay}
use Rattle.jm_writer.specs.Drafts.{image_limit}
use Rattle.jm_writer.specs.Writable.{Writable}
use Rattle.jm_writer.proofs.ImageValid.{image_valid_as, look_unwritten, look_written}
use Rattle.jm_writer.proofs.LaidWritable.{from_written, laid_writable}

-- The order of a header that was read

some_order : (o : Option Order) → is_none o ≡ false → o ≡ Some (unwrap_or o Little)
some_order None some = cc
some_order (Some order) some = refl

pub header_order : (b : List ℕ) (h : Header) → header_of b ≡ Ok h → order_of b ≡ Some h.order
header_order b h e =
    let found = header_found b h (first_fault (header_checks b)) e in
    let short = fault_if (nat_lt (length b) 28) fault.Short in
    let magic = fault_if (is_none (order_of b)) fault.Magic in
    let version = fault_if (not (version_of b == 0x00010000)) (fault.Version (version_of b)) in
    let sizes = fault_if (nat_lt (length b) (index_length (fields_of b))) fault.Sizes in
    let behind_short = no_fault_tail short (magic ∷ version ∷ sizes ∷ []) found.0 in
    let clear = fault_if_none (is_none (order_of b)) fault.Magic (no_fault_head magic (version ∷ sizes ∷ []) behind_short) in
    some_order (order_of b) clear ∙ ap (λ (x : Header). Some x.order) found.1

-- Values by name

found_there : (name text : List ℕ) (resources : List Written) → lookup (bytes_eq name) resources ≡ Some text
    → Contains resources (name, text)
found_there name text resources is = Contains-from_lookup (λ x y. (bytes_eq-Decides x y).0) name text resources is

none_there : (name text : List ℕ) (resources : List Written) → lookup (bytes_eq name) resources ≡ None → Contains resources (name, text) → ⊥
none_there name text resources none there = false≢true (subst IsSome none (IsSome-lookup_from_Contains nat_list_eq_equiv name
    resources (contains_map (λ (r : Written). r.0) resources (name, text) there)))

module _ (order : Order) (resources : List Written) (can : CanLay resources) (table : GreedyTable) (is : layout_table resources
    ≡ Some table) (within : length (layout_with order resources table) ≤ image_limit) where
  abbrev index : Index
  index = layout_index order table resources

  abbrev es : List Written
  es = resources ++ written_nodes index resources

  abbrev b : List ℕ
  b = layout_with order resources table

  writable : Writable order table es
  writable = laid_writable order resources can table is within

  pub laid_ordered : order_of b ≡ Some order
  laid_ordered = header_order b _ (image_valid_as order table es writable).header

  -- the bytes of a resource, or nothing
  pub laid_answers : (name : List ℕ) → (Contains (node_names (names_of resources)) name → ⊥)
      → option_map (λ found. found.1) (look b name) ≡ lookup (bytes_eq name) resources
  laid_answers name other = go (lookup (bytes_eq name) resources) refl
    where
      go : (o : Option (List ℕ)) → lookup (bytes_eq name) resources ≡ o → option_map (λ found. found.1) (look b name) ≡ o
      go (Some text) found = look_written order table es writable name text (Contains-append_left resources
          (written_nodes index resources) (name, text) (found_there name text resources found))
      go None none = ap (option_map (λ found. found.1)) (look_unwritten order table es writable name (λ text there.
          elim (Contains-append_cases resources (written_nodes index resources) (name, text) there) [
            | inl resource ↦ none_there name text resources none resource
            | inr node ↦
                let (tree, among, of) = from_written index resources (name, text) node in
                other (subst (Contains (node_names (names_of resources))) (ap (λ (p : Written). p.0) of) among)
          ]))
