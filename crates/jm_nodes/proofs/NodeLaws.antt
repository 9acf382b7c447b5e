-- The nodes that are made of the tables are those of the definition.
use Rattle.std.proofs.Common.{◌≡◌, ◌+◌, ℕ, inl, inr, List, [], ◌∷◌, ◌++◌, map, length, reverse, All, Contains, refl, sym, ap}
use Rattle.std.proofs.Common.{◌∙◌, subst, arith}
use Rattle.std.specs.Prelude.{codes}
use Rattle.std.specs.List.{flat_map}
use mathlib.Core.List.{reverse_aux}
use Rattle.std.proofs.lemmas.List.{length-append, length-map, length-reverse, map-append}
use Rattle.std.proofs.lemmas.List.Elements.{Contains-append_left, Contains-append_right, Contains-append_cases}
use Rattle.std.proofs.lemmas.List.Kept.{AllPairs-cons}
use Rattle.jm_bytes.proofs.Members.{all_from_contains, contains_cases, contains_here, contains_later, contains_map, from_map}
use Rattle.jm_bytes.proofs.Pairs.{pairs_append, pairs_map}
use Rattle.jm_bytes.proofs.SameOrder.{mapped_twice}
use Rattle.jm_form.specs.Rising.{rising}
use Rattle.jm_form.specs.Trees.{fronts, holds_of, inner_nodes, module_of, node_names, package_folders}
use Rattle.jm_form.specs.Trees.{package_node, package_nodes, package_of, packages, tree_nodes}
use Rattle.jm_form.specs.declared.trees.Holds.TheVariants.{Children, Owners}
use Rattle.jm_form.specs.declared.trees.TreeNode.{TreeNode}
use Rattle.jm_nodes.specs.Filings.{FilesAll, Filing}
use Rattle.jm_nodes.specs.FrontTrees.{called_all, child_filings, folders_among, front_node, owners_node}
use Rattle.jm_nodes.specs.FrontTrees.{package_filings, packages_node, rising_nodes, IsMadeOf}
use Rattle.jm_nodes.specs.Order.{IsRising, SameElements}
use Rattle.jm_nodes.proofs.ChildLaws.{children_same, map_same}
use Rattle.jm_nodes.proofs.FolderLaws.{front_of, inner_from, inner_there, packages_same}
use Rattle.jm_nodes.proofs.OwnerLaws.{owners_same}
use Rattle.jm_form.proofs.RisingLaws.{rising_only, rising_rises, Before}
use Rattle.jm_nodes.proofs.SoundLaws.{IsCut}

abbrev Texts : Type 0
Texts = List (List ℕ)

abbrev below_modules : List ℕ → List ℕ
below_modules front = codes "/modules" ++ front

module _ (names risen : Texts) (cut : (name : List ℕ) → Contains names name → IsCut name) (up : IsRising risen)
    (same_fronts : SameElements (flat_map fronts names) risen) where
  -- the names of all nodes, rising
  abbrev pub all : Texts
  all = codes "/modules" ∷ map below_modules risen ++ codes "/packages" ∷ package_nodes names

  abbrev stated : Texts
  stated = codes "/modules" ∷ codes "/packages" ∷ inner_nodes names ++ package_nodes names

  begins : (front : List ℕ) → Contains risen front → (rest : List ℕ) × (front ≡ 47 ∷ rest)
  begins front there =
      elim (front_of names cut front (same_fronts.only front there)) [
        | inl of_module ↦ (module_of of_module.0, of_module.2)
        | inr of_folder ↦ (of_folder.0.module ++ 47 ∷ of_folder.0.path, of_folder.2)
      ]

  before_packages : All (Before (codes "/packages")) (package_nodes names)
  before_packages =
      all_from_contains (Before (codes "/packages")) (package_nodes names)
      (λ x there. let from = from_map package_node (packages names) x there in subst (Before (codes "/packages")) from.2 refl)

  before_all : All (Before (codes "/modules")) (map below_modules risen ++ codes "/packages" ∷ package_nodes names)
  before_all =
      all_from_contains (Before (codes "/modules")) (map below_modules risen ++ codes "/packages" ∷ package_nodes names)
      (λ x there.
      elim (Contains-append_cases (map below_modules risen) (codes "/packages" ∷ package_nodes names) x there) [
        | inl inner ↦
            let from = from_map below_modules risen x inner in
            let front = begins from.0 from.1 in
            subst (Before (codes "/modules")) (ap below_modules (sym front.1) ∙ from.2) refl
        | inr later ↦ of_packages (codes "/modules") refl (λ called. refl) x later
      ])
    where
      of_packages : (text : List ℕ) → Before text (codes "/packages") → ((called : List ℕ) → Before text (package_node called))
          → (x : List ℕ) → Contains (codes "/packages" ∷ package_nodes names) x → Before text x
      of_packages text first each x there =
          elim (contains_cases (codes "/packages") (package_nodes names) x there) [
            | inl same ↦ subst (Before text) same first
            | inr later ↦ let from = from_map package_node (packages names) x later in subst (Before text) from.2 (each from.0)
          ]

  rises : IsRising all
  rises =
      AllPairs-cons Before (codes "/modules") (map below_modules risen ++ codes "/packages" ∷ package_nodes names) before_all
      (pairs_append Before (map below_modules risen) (codes "/packages" ∷ package_nodes names) (pairs_map Before below_modules risen up)
      (AllPairs-cons Before (codes "/packages") (package_nodes names) before_packages (pairs_map Before package_node
      (packages names) (rising_rises (map package_of (package_folders names)))))
      (λ x y in_front behind.
      let from = from_map below_modules risen x in_front in
      subst (λ t. Before t y) from.2
      (elim (contains_cases (codes "/packages") (package_nodes names) y behind) [
        | inl same ↦ subst (Before (below_modules from.0)) same refl
        | inr later ↦ let called = from_map package_node (packages names) y later in subst (Before (below_modules from.0)) called.2 refl
      ])))

  same : SameElements stated all
  same = record {
    has = λ x there.
        elim (contains_cases (codes "/modules") (codes "/packages" ∷ inner_nodes names ++ package_nodes names) x there) [
          | inl is ↦ subst (Contains all) is (contains_here (codes "/modules") (map below_modules risen ++ codes "/packages"
              ∷ package_nodes names))
          | inr rest ↦
              contains_later (codes "/modules") (map below_modules risen ++ codes "/packages" ∷ package_nodes names) x
              (elim (contains_cases (codes "/packages") (inner_nodes names ++ package_nodes names) x rest) [
                | inl is ↦ Contains-append_right (map below_modules risen) (codes "/packages" ∷ package_nodes names) x
                    (subst (Contains (codes "/packages" ∷ package_nodes names)) is (contains_here (codes "/packages")
                    (package_nodes names)))
                | inr later ↦
                    elim (Contains-append_cases (inner_nodes names) (package_nodes names) x later) [
                      | inl inner ↦
                          let from = inner_from names cut x inner in
                          Contains-append_left (map below_modules risen) (codes "/packages" ∷ package_nodes names) x
                          (subst (Contains (map below_modules risen)) from.2 (contains_map below_modules risen from.0
                          (same_fronts.has from.0 from.1)))
                      | inr called ↦ Contains-append_right (map below_modules risen) (codes "/packages" ∷ package_nodes names) x
                          (contains_later (codes "/packages") (package_nodes names) x called)
                    ]
              ])
        ];
    only = λ x there.
        elim (contains_cases (codes "/modules") (map below_modules risen ++ codes "/packages" ∷ package_nodes names) x there) [
          | inl is ↦ subst (Contains stated) is (contains_here (codes "/modules") (codes "/packages" ∷ inner_nodes names
              ++ package_nodes names))
          | inr rest ↦
              contains_later (codes "/modules") (codes "/packages" ∷ inner_nodes names ++ package_nodes names) x
              (elim (Contains-append_cases (map below_modules risen) (codes "/packages" ∷ package_nodes names) x rest) [
                | inl inner ↦
                    let from = from_map below_modules risen x inner in
                    contains_later (codes "/packages") (inner_nodes names ++ package_nodes names) x
                    (Contains-append_left (inner_nodes names) (package_nodes names) x (subst (Contains (inner_nodes names)) from.2
                    (inner_there names cut from.0 (same_fronts.only from.0 from.1))))
                | inr later ↦
                    elim (contains_cases (codes "/packages") (package_nodes names) x later) [
                      | inl is ↦ subst (Contains (codes "/packages" ∷ inner_nodes names ++ package_nodes names)) is
                          (contains_here (codes "/packages") (inner_nodes names ++ package_nodes names))
                      | inr called ↦ contains_later (codes "/packages") (inner_nodes names ++ package_nodes names) x
                          (Contains-append_right (inner_nodes names) (package_nodes names) x called)
                    ]
              ])
        ];
  }

  pub names_same : node_names names ≡ reverse all
  names_same = ap reverse (sym (rising_only stated all rises same.has same.only))

  -- how many nodes there are
  pub nodes_count : length (tree_nodes names) ≡ 2 + length risen + length (packages names)
  nodes_count =
      let named : length (tree_nodes names) ≡ length (node_names names) = simp length-map refl in
      let turned = ap length names_same ∙ length-reverse all in
      let parts = length-append (map below_modules risen) (codes "/packages" ∷ package_nodes names) in
      let inner = length-map risen below_modules in
      let called = length-map (packages names) package_node in
      omega (arith, named, turned, parts, inner, called)

-- Each node holds what the tables say

reversed_onto : {X Y : Type 0} (f : X → Y) (xs behind : List X) → map f (reverse_aux xs behind) ≡ reverse_aux (map f xs) (map f behind)
reversed_onto f [] behind = refl
reversed_onto f (x ∷ xs) behind = reversed_onto f xs (x ∷ behind)

map_reversed : {X Y : Type 0} (f : X → Y) (xs : List X) → map f (reverse xs) ≡ reverse (map f xs)
map_reversed f xs = reversed_onto f xs []

abbrev node_of : Texts → List ℕ → TreeNode
node_of names node = record { name = node; holds = holds_of names node }

module _ (names listed risen : Texts) (table owned : List Filing) (cut : (name : List ℕ) → Contains names name → IsCut name)
    (same_names : SameElements names listed) (same_fronts : SameElements (flat_map fronts names) risen)
    (files : FilesAll (child_filings listed risen) table)
    (own : FilesAll (package_filings table (folders_among risen)) owned) (apart : (name : List ℕ) → Contains names name
    → Contains (flat_map fronts names) name → ⊥) where
  front_same : (front : List ℕ) → node_of names (below_modules front) ≡ front_node table front
  front_same front = λ i. record {
    name = below_modules front;
    holds = Children (sym (children_same names listed risen table cut same_names same_fronts files apart front) i);
  }

  owners_node_same : (called : List ℕ) → node_of names (package_node called) ≡ owners_node owned called
  owners_node_same called = λ i. record {
    name = package_node called;
    holds = Owners (sym (owners_same names listed risen table owned cut same_names same_fronts files own called) i);
  }

  pub made_same : (up : IsRising risen) → map (node_of names) (all names risen cut up same_fronts) ≡ rising_nodes table risen owned
      (rising (called_all (folders_among risen)))
  made_same up =
      let node = node_of names in
      let fronts_done = mapped_twice node below_modules risen ∙ map_same (λ front. node (below_modules front)) (front_node table)
      risen (λ front there. front_same front) in
      let owners_done = mapped_twice node package_node (packages names) ∙ map_same (λ called. node (package_node called))
      (owners_node owned) (packages names) (λ called there. owners_node_same called) in
      let named = packages_same names cut risen same_fronts in
      ap (λ (n : TreeNode). n ∷ map node (map below_modules risen ++ codes "/packages" ∷ package_nodes names)) (front_same [])
      ∙ ap (λ ns. front_node table [] ∷ ns)
      (map-append node (map below_modules risen) (codes "/packages" ∷ package_nodes names)
      ∙ (λ i. fronts_done i ++ packages_node (packages names) ∷ owners_done i)
      ∙ ap (λ ps. map (front_node table) risen ++ packages_node ps ∷ map (owners_node owned) ps) named)

-- the nodes are those of the definition
pub nodes_same : (names listed risen : Texts) (nodes : List TreeNode) → ((name : List ℕ) → Contains names name → IsCut name)
    → IsRising risen → SameElements names listed → SameElements (flat_map fronts names) risen
    → ((name : List ℕ) → Contains names name → Contains (flat_map fronts names) name → ⊥) → IsMadeOf listed risen nodes → nodes
    ≡ tree_nodes names
nodes_same names listed risen nodes cut up same_names same_fronts apart made =
    made.made
    ∙ ap reverse (sym (made_same names listed risen made.table made.owned cut same_names same_fronts made.children made.owners apart up))
    ∙ sym (map_reversed (node_of names) (all names risen cut up same_fronts))
    ∙ ap (map (node_of names)) (sym (names_same names risen cut up same_fronts))
