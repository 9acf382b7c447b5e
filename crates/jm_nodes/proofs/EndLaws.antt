-- What `nodes` answers, from what its steps say.
use Rattle.std.proofs.Common.{◌≡◌, ◌+◌, ◌<◌, ℕ, List, All, Contains, Option, None, length, ap, sym, ◌∙◌, subst, arith}
use Rattle.std.specs.List.{find, flat_map}
use Rattle.std.proofs.lemmas.List.Elements.{All-contains}
use Rattle.jm_bytes.proofs.SameOrder.{contains_flat_map, from_flat_map}
use Rattle.jm_form.specs.Rising.{rising}
use Rattle.jm_form.specs.Trees.{first_clash, fronts, packages, tree_nodes}
use Rattle.jm_form.specs.declared.trees.TreeNode.{TreeNode}
use Rattle.jm_names.specs.NameFaults.{IsSound}
use Rattle.jm_nodes.specs.FrontTrees.{called_all, folders_among, IsMadeOf}
use Rattle.jm_nodes.specs.Order.{is_among, SameElements}
use Rattle.jm_nodes.proofs.ClashLaws.{apart_from, clash_found}
use Rattle.jm_nodes.proofs.FolderLaws.{packages_same}
use Rattle.jm_nodes.proofs.NodeLaws.{nodes_count, nodes_same}
use Rattle.jm_form.proofs.RisingLaws.{contains_rising, from_rising, rising_rises}
use Rattle.jm_nodes.proofs.SoundLaws.{sound_cut, IsCut}

abbrev Texts : Type 0
Texts = List (List ℕ)

module _ (names : Texts) (sound : All IsSound names) where
  cut : (name : List ℕ) → Contains names name → IsCut name
  cut name there = sound_cut name (All-contains IsSound names name sound there)

  listed : SameElements names (rising names)
  listed = record { has = contains_rising names; only = from_rising names }

  abbrev risen : Texts
  risen = rising (flat_map fronts (rising names))

  same_fronts : SameElements (flat_map fronts names) risen
  same_fronts = record {
    has = λ front there.
        let from = from_flat_map fronts names front there in
        contains_rising (flat_map fronts (rising names)) front (contains_flat_map fronts (rising names) from.0 front
        (contains_rising names from.0 from.1) from.2);
    only = λ front there.
        let from = from_flat_map fronts (rising names) front (from_rising (flat_map fronts (rising names)) front there) in
        contains_flat_map fronts names from.0 front (from_rising names from.0 from.1) from.2;
  }

  made_count : length (tree_nodes names) ≡ 2 + length risen + length (packages names)
  made_count = nodes_count names risen cut (rising_rises (flat_map fronts (rising names))) same_fronts

  -- the two roots are always there
  pub has_nodes : 0 < length (tree_nodes names)
  has_nodes = let made = made_count in omega (arith, made)

  module _ (listed_names fs : Texts) (names_are : listed_names ≡ rising names)
      (fronts_are : fs ≡ rising (flat_map fronts listed_names)) where
    fs_are : fs ≡ risen
    fs_are = fronts_are ∙ ap (λ n. rising (flat_map fronts n)) names_are

    pub clash_is : (found : Option (List ℕ)) → found ≡ find (λ name. is_among name fs) listed_names → found ≡ first_clash names
    clash_is found is = is ∙ (λ i. find (λ name. is_among name (fs_are i)) (names_are i)) ∙ clash_found names risen cut same_fronts

    pub nodes_are : (nodes : List TreeNode) → first_clash names ≡ None → IsMadeOf listed_names fs nodes → nodes ≡ tree_nodes names
    nodes_are nodes none made =
        nodes_same names (rising names) risen nodes cut (rising_rises (flat_map fronts (rising names))) listed same_fronts
        (apart_from names risen cut same_fronts (clash_found names risen cut same_fronts ∙ none))
        (subst (λ (n : Texts). IsMadeOf n risen nodes) names_are (subst (λ (f : Texts). IsMadeOf listed_names f nodes) fs_are made))

    -- two roots, a node for each front, and one for each package
    pub count_is : (called : Texts) → called ≡ rising (called_all (folders_among fs))
        → length (tree_nodes names) ≡ 2 + length fs + length called
    count_is called called_are =
        let same : called ≡ packages names = called_are ∙ ap (λ f. rising (called_all (folders_among f))) fs_are
        ∙ sym (packages_same names cut risen same_fronts) in
        let made = made_count in
        let few = ap length fs_are in
        let many = ap length same in
        omega (arith, made, few, many)
