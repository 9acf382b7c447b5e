-- A written image stands for those of its entries that are no nodes, and its nodes are the others.
use Rattle.std.proofs.Common.{◌≢◌, ℕ, ◌<◌, Bool, not, List, map, AllPairs, Contains, IsPermutation, subst, arith}
use Rattle.std.proofs.lemmas.List.Kept.{AllPairs-filter}
use Rattle.std.proofs.lemmas.List.Sorted.{Contains-permutation, IsPermutation-map, IsPermutation-sym}
use Rattle.std.specs.List.{filter}
use Rattle.jm_bytes.proofs.Members.{contains_filter, from_filter}
use Rattle.jm_bytes.proofs.Pairs.{pairs_among, pairs_map}
use Rattle.jm_bytes.proofs.SameOrder.{filter_mapped, mapped_twice}
use Rattle.jm_bytes.specs.declared.words.Order.{Order}
use Rattle.jm_names.specs.Names.{is_node}
use Rattle.jm_form.specs.declared.container.Header.{Header}
use Rattle.jm_form.specs.Entries.{Entry, entries}
use Rattle.jm_form.specs.Greedy.{GreedyTable}
use Rattle.jm_form.specs.Layout.{Written, image_of, index_of, names_of, sized}
use Rattle.jm_form.specs.Nodes.{nodes_among}
use Rattle.jm_form.specs.Validity.{Stands}
use Rattle.jm_form.proofs.EntryLaws.{names_differ, slots_rise}
use Rattle.jm_writer.specs.Writable.{Writable, header_with}
use Rattle.jm_writer.proofs.ImageLists.{same_elements}
use Rattle.jm_writer.proofs.ImagePlaces.{all_names_differ}
use Rattle.jm_writer.proofs.ImageValid.{entries_differ, image_entries, image_valid_as, pair_of, written_differ}

-- what passes of lists of different elements, one of which is the other in another order
filtered : {X : Type 0} (p : X → Bool) (xs ys : List X) → AllPairs (λ a b. a ≢ b) xs → AllPairs (λ a b. a ≢ b) ys
    → IsPermutation xs ys → IsPermutation (filter p xs) (filter p ys)
filtered p xs ys xs_differ ys_differ same =
    same_elements (filter p xs) (filter p ys) (AllPairs-filter (λ a b. a ≢ b) p xs xs_differ) (AllPairs-filter (λ a b. a ≢ b) p ys
    ys_differ) (carried p xs ys same) (carried p ys xs (IsPermutation-sym xs ys same))
  where
    carried : {X : Type 0} (p : X → Bool) (xs ys : List X) → IsPermutation xs ys → (x : X) → Contains (filter p xs) x
        → Contains (filter p ys) x
    carried p xs ys same x there =
        let from = from_filter p xs x there in
        contains_filter p ys x (Contains-permutation xs ys x same from.0) from.1

module _ (order : Order) (table : GreedyTable) (es : List Written) (writable : Writable order table es) where
  abbrev b : List ℕ
  b = image_of order table es

  abbrev h : Header
  h = header_with (index_of order table (map sized es))

  -- it stands for what is written and is no node
  pub image_stands : Stands b (filter (λ r. not (is_node r.0)) es)
  image_stands =
      let same = filtered (λ r. not (is_node r.0)) (map pair_of (entries b h)) es (entries_differ order table es writable)
      (written_differ order table es writable) (image_entries order table es writable) in (
        h,
        image_valid_as order table es writable,
        subst (λ l. IsPermutation l (filter (λ r. not (is_node r.0)) es))
            (filter_mapped (λ r. not (is_node r.0)) pair_of (entries b h)) same,
      )

  entry_names_differ : AllPairs (λ m n. m ≢ n) (map (λ e. e.name) (entries b h))
  entry_names_differ = pairs_map (λ m n. m ≢ n) (λ e. e.name) (entries b h) (pairs_among (λ e f. e.slot < f.slot)
      (λ e f. e.name ≢ f.name) (entries b h) differs (slots_rise b h))
    where
      differs : (e f : Entry) → Contains (entries b h) e → Contains (entries b h) f → e.slot < f.slot → e.name ≢ f.name
      differs e f first second before same = let slots = names_differ b h e f first second same in absurd (omega arith)

  -- its names are those that were written
  pub image_names : IsPermutation (map (λ e. e.name) (entries b h)) (names_of es)
  image_names = subst (λ l. IsPermutation l (names_of es)) (mapped_twice (λ r. r.0) pair_of (entries b h))
      (IsPermutation-map (λ r. r.0) (map pair_of (entries b h)) es (image_entries order table es writable))

  -- its nodes are those of them that are a node's
  pub image_nodes : IsPermutation (map (λ e. e.name) (nodes_among (entries b h))) (filter is_node (names_of es))
  image_nodes =
      let same = filtered is_node (map (λ e. e.name) (entries b h)) (names_of es) entry_names_differ (all_names_differ order table
      es writable) image_names in
      subst (λ l. IsPermutation l (filter is_node (names_of es))) (filter_mapped is_node (λ e. e.name) (entries b h)) same
