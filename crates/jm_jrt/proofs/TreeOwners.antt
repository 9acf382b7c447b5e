-- The first full owner of a package of the trees is the first that its node tells.
use Rattle.std.proofs.Common.{◌≡◌, ℕ, inl, inr, true, false, not, List, ◌++◌, drop, Option, Some, None, Err, refl, sym, ap, ◌∙◌, subst}
use Rattle.std.specs.Prelude.{codes}
use Rattle.std.specs.List.{list_any}
use Rattle.std.specs.Map.{lookup}
use Rattle.std.specs.Str.{bytes_eq}
use Rattle.std.proofs.lemmas.Bool.{and_parts, cases_Bool, false≢true}
use Rattle.jm_names.specs.Names.{is_slash}
use Rattle.jm_form.specs.declared.trees.Holds.{Holds}
use Rattle.jm_form.specs.declared.trees.Holds.TheVariants.{Children}
use Rattle.jm_form.specs.Nodes.{NodesAs}
use Rattle.jm_form.specs.Trees.{holds_of, is_package_node, node_names}
use Rattle.jm_form.specs.TreeView.{file_of, is_link, item_of, names_of, tree}
use Rattle.jm_form.specs.Validity.{Stands, ValidAs, look}
use Rattle.jm_reader.specs.Look.{head}
use Rattle.jm_jrt.specs.declared.jrt_error.JrtError.TheVariants.{NotThere}
use Rattle.jm_jrt.specs.Stat.{full_among, is_package, owner_with, owners_of}
use Rattle.jm_jrt.specs.TreesShown.{full_owner}
use Rattle.jm_jrt.proofs.TreeCases.{no_link_node, pairs_told, tree_file, tree_link, tree_node, tree_none, tree_root}
use Rattle.jm_jrt.proofs.TreeContents.{HasSections}
use Rattle.jm_jrt.proofs.TreeNames.{begun, HoldsNames, NodeLook, Inner, OfPackage, Root, inner_holds}
use Rattle.jm_jrt.proofs.TreeNames.{is_inner, no_package_above, node_looks, package_holds, package_is_node}
use Rattle.jm_jrt.proofs.TreeNames.{root_holds}
use Rattle.jm_jrt.proofs.TreeNodes.{from_listed, node_cases}

abbrev Pairs : Type 0
Pairs = List (List ℕ × List ℕ)

with_package : (b : List ℕ) (path : List ℕ) → is_package path ≡ true → owner_with b path ≡ full_among (owners_of b (look b path))
with_package b path is = rw is refl

without_package : (b : List ℕ) (path : List ℕ) → is_package path ≡ false → owner_with b path ≡ Err NotThere
without_package b path is = rw is refl

no_file_owner : (o : Option (List ℕ)) → full_owner (file_of o) ≡ Err NotThere
no_file_owner None = refl
no_file_owner (Some bytes) = refl

holds_no_owner : (holds : Holds) (list : List (List ℕ)) → holds ≡ Children list → full_owner (Some (item_of holds)) ≡ Err NotThere
holds_no_owner holds list is = ap (λ (x : Holds). full_owner (Some (item_of x))) is

-- a node that is no package's holds names
names_held : (names : List (List ℕ)) (path : List ℕ) → is_package path ≡ false → NodeLook path → HoldsNames names path
names_held names path no_package (Root root other) = root_holds names path root
names_held names path no_package (Inner looks) = inner_holds names path looks.inner
names_held names path no_package (OfPackage is) = absurd (false≢true (sym no_package ∙ is))

-- the trees have a package at no other path
no_owner : (m : Pairs) (path : List ℕ) → is_package path ≡ false → full_owner (tree m path) ≡ Err NotThere
no_owner m path no_package =
    elim (cases_Bool (bytes_eq path (codes "/"))) [
      | inl slash ↦ ap full_owner (tree_root m path slash)
      | inr other ↦
          elim (cases_Bool (list_any (bytes_eq path) (node_names (names_of m)))) [
            | inl listed ↦
                let named = names_held (names_of m) path no_package (node_looks (names_of m) path
                (from_listed (node_names (names_of m)) path listed)) in
                ap full_owner (tree_node m path other listed) ∙ holds_no_owner (holds_of (names_of m) path) named.list named.holds
            | inr none ↦
                elim (cases_Bool (is_inner path)) [
                  | inl inner ↦ ap full_owner (tree_file m path other none inner) ∙ no_file_owner (lookup (bytes_eq (drop 8 path)) m)
                  | inr no_inner ↦
                      elim (cases_Bool (is_link (names_of m) path)) [
                        | inl linked ↦ ap full_owner (tree_link m path other none no_inner linked)
                        | inr unlinked ↦ ap full_owner (tree_none m path other none no_inner unlinked)
                      ]
                ]
          ]
    ]

-- the node of a package is none of the others
pub record LooksPackage (path : List ℕ) : Type 0 where
  pub no_slash : bytes_eq path (codes "/") ≡ false
  pub no_inner : is_inner path ≡ false

package_alone : (path : List ℕ) → is_package path ≡ true → LooksPackage path
package_alone path is =
    let node = (and_parts (is_package_node path) (not (list_any is_slash (drop 10 path))) is).0 in
    subst LooksPackage (sym (begun path (codes "/packages/") node)) (looks (drop 10 path))
  where
    looks : (rest : List ℕ) → LooksPackage (codes "/packages/" ++ rest)
    looks rest = record { no_slash = refl; no_inner = refl }

pub owner_of_tree : (b : List ℕ) (m : Pairs) → NodesAs b (head b) (names_of m) → ValidAs b (head b) → Stands b m
    → HasSections (head b) → (path : List ℕ) → owner_with b path ≡ full_owner (tree m path)
owner_of_tree b m nodes valid stands has path =
    elim (cases_Bool (is_package path)) [
      | inl is ↦
          let alone = package_alone path is in
          elim (node_cases b (head b) (names_of m) path nodes (package_is_node path is)) [
            | inl there ↦
                with_package b path is ∙ ap (λ o. full_among (owners_of b o)) there.found
                ∙ ap full_among (pairs_told b m nodes valid stands has path there is)
                ∙ sym (ap (λ (x : Holds). full_owner (Some (item_of x))) (package_holds (names_of m) path is))
                ∙ sym (ap full_owner (tree_node m path alone.no_slash there.listed))
            | inr missing ↦
                with_package b path is ∙ ap (λ o. full_among (owners_of b o)) missing.none
                ∙ sym (ap full_owner (tree_none m path alone.no_slash missing.unlisted alone.no_inner (no_link_node (names_of m)
                path (no_package_above path is))))
          ]
      | inr no_package ↦ without_package b path no_package ∙ sym (no_owner m path no_package)
    ]
