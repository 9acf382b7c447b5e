-- What stands at a path of an image that tells the trees of its resources, case by case.
use Rattle.std.proofs.Common.{◌≡◌, ℕ, inl, inr, Bool, true, false, not, ◌&&◌, List, [], ◌∷◌, drop, Option, rules}
use Rattle.std.proofs.Common.{Some, None, is_some, Result, Ok, Err, refl, sym, ap, ◌∙◌, subst}
use Rattle.std.specs.Prelude.{codes}
use Rattle.std.specs.Option.{ok_or}
use Rattle.std.specs.List.{after_last, before_last, list_any}
use Rattle.std.specs.Map.{lookup}
use Rattle.std.specs.Str.{bytes_eq}
use Rattle.std.proofs.lemmas.Bool.{and_parts, cases_Bool, false_from_ne_true, false≢true}
use Rattle.jm_names.specs.Names.{is_slash}
use Rattle.jm_form.specs.declared.trees.Holds.{Holds}
use Rattle.jm_form.specs.declared.trees.Holds.TheVariants.{Owners}
use Rattle.jm_form.specs.Nodes.{NodesAs, Tells}
use Rattle.jm_form.specs.Trees.{holds_of, is_package_node, node_names, owners}
use Rattle.jm_form.specs.TreeView.{TreeItem, Folder, Link, file_of, is_link, item_of, names_of, tree}
use Rattle.jm_form.specs.Validity.{Stands, ValidAs, look}
use Rattle.jm_reader.specs.Look.{head}
use Rattle.jm_jrt.specs.declared.jrt_error.JrtError.{JrtError}
use Rattle.jm_jrt.specs.declared.jrt_error.JrtError.TheVariants.{NotThere}
use Rattle.jm_jrt.specs.Stat.{children_of, folder, in_modules, in_packages, is_package, is_root, link}
use Rattle.jm_jrt.specs.Stat.{link_among, owners_of, roots, stat_with}
use Rattle.jm_jrt.specs.Told.{children_told, owners_told}
use Rattle.jm_jrt.proofs.LinkLaws.{link_none, link_some}
use Rattle.jm_jrt.proofs.TreeContents.{HasSections, children_are_told, owners_are_told}
use Rattle.jm_jrt.proofs.TreeFiles.{resource_is}
use Rattle.jm_jrt.proofs.TreeNames.{HoldsNames, NodeLook, Inner, OfPackage, Root, inner_holds, inner_is_node}
use Rattle.jm_jrt.proofs.TreeNames.{is_inner, modules_listed, no_package_above, node_looks, package_holds}
use Rattle.jm_jrt.proofs.TreeNames.{package_is_node, package_listed, packages_listed, root_holds, root_listed}
use Rattle.jm_jrt.proofs.TreeNodes.{NodeThere, from_listed, node_cases, node_there}

abbrev Pairs : Type 0
Pairs = List (List ℕ × List ℕ)

-- The answers of the trees, case by case

pub tree_root : (m : Pairs) (path : List ℕ) → bytes_eq path (codes "/") ≡ true → tree m path
    ≡ Some (Folder (codes "/modules" ∷ codes "/packages" ∷ []))
tree_root m path one = rw one refl

pub tree_node : (m : Pairs) (path : List ℕ) → bytes_eq path (codes "/") ≡ false → list_any (bytes_eq path) (node_names (names_of m))
    ≡ true → tree m path ≡ Some (item_of (holds_of (names_of m) path))
tree_node m path one two = rw (one, two) refl

pub tree_file : (m : Pairs) (path : List ℕ) → bytes_eq path (codes "/") ≡ false → list_any (bytes_eq path) (node_names (names_of m))
    ≡ false → is_inner path ≡ true → tree m path ≡ file_of (lookup (bytes_eq (drop 8 path)) m)
tree_file m path one two three = rw (one, two, three) refl

pub tree_link : (m : Pairs) (path : List ℕ) → bytes_eq path (codes "/") ≡ false → list_any (bytes_eq path) (node_names (names_of m))
    ≡ false → is_inner path ≡ false → is_link (names_of m) path ≡ true → tree m path ≡ Some (Link (after_last is_slash path))
tree_link m path one two three four = rw (one, two, three, four) refl

pub tree_none : (m : Pairs) (path : List ℕ) → bytes_eq path (codes "/") ≡ false → list_any (bytes_eq path) (node_names (names_of m))
    ≡ false → is_inner path ≡ false → is_link (names_of m) path ≡ false → tree m path ≡ None
tree_none m path one two three four = rw (one, two, three, four) refl

-- The answers of the image, case by case

stat_slash : (b : List ℕ) (path : List ℕ) → bytes_eq path (codes "/") ≡ true → stat_with b path ≡ Ok (Folder (roots b))
stat_slash b path one = rw one refl

stat_root : (b : List ℕ) (path : List ℕ) → bytes_eq path (codes "/") ≡ false → is_root path ≡ true → stat_with b path
    ≡ folder (children_of b (look b path))
stat_root b path one two = rw (one, two) refl

stat_inner : (b : List ℕ) (path : List ℕ) → bytes_eq path (codes "/") ≡ false → is_root path ≡ false → is_inner path ≡ true
    → stat_with b path ≡ in_modules b path (look b path)
stat_inner b path one two three = rw (one, two, three) refl

stat_other : (b : List ℕ) (path : List ℕ) → bytes_eq path (codes "/") ≡ false → is_root path ≡ false → is_inner path ≡ false
    → stat_with b path ≡ in_packages b path
stat_other b path one two three = rw (one, two, three) refl

at_package : (b : List ℕ) (path : List ℕ) → is_package path ≡ true → in_packages b path ≡ folder (owners_of b (look b path))
at_package b path one = rw one refl

at_link : (b : List ℕ) (path : List ℕ) → is_package path ≡ false → is_package (before_last is_slash path) ≡ true
    → in_packages b path ≡ link (after_last is_slash path) (owners_of b (look b (before_last is_slash path)))
at_link b path one two = rw (one, two) refl

at_nothing : (b : List ℕ) (path : List ℕ) → is_package path ≡ false → is_package (before_last is_slash path) ≡ false
    → in_packages b path ≡ Err NotThere
at_nothing b path one two = rw (one, two) refl

both_roots : (b : List ℕ) → is_some (look b (codes "/modules")) ≡ true → is_some (look b (codes "/packages")) ≡ true → roots b
    ≡ codes "/modules" ∷ codes "/packages" ∷ []
both_roots b one two = rw (one, two) refl

-- Links

link_of_parts : (names : List (List ℕ)) (path : List ℕ) → is_package_node (before_last is_slash path) ≡ true
    → list_any (bytes_eq (before_last is_slash path)) (node_names names) ≡ true → is_link names path
    ≡ list_any (λ o. bytes_eq (after_last is_slash path) o.module) (owners names (drop 10 (before_last is_slash path)))
link_of_parts names path one two = rw (one, two) refl

pub no_link_node : (names : List (List ℕ)) (path : List ℕ) → is_package_node (before_last is_slash path) ≡ false
    → is_link names path ≡ false
no_link_node names path one = rw one refl

no_link_listed : (names : List (List ℕ)) (path : List ℕ) → is_package_node (before_last is_slash path) ≡ true
    → list_any (bytes_eq (before_last is_slash path)) (node_names names) ≡ false → is_link names path ≡ false
no_link_listed names path one two = rw (one, two) refl

-- a link stands below the node of a package
no_link : (names : List (List ℕ)) (path : List ℕ) → is_package (before_last is_slash path) ≡ false → is_link names path ≡ false
no_link names path other = false_from_ne_true (is_link names path) refused
  where
    refused : is_link names path ≡ true → ⊥
    refused is =
        let front : List ℕ = before_last is_slash path in
        let owned : Bool = list_any (λ o. bytes_eq (after_last is_slash path) o.module) (owners names (drop 10 front)) in
        let node = (and_parts (is_package_node front && list_any (bytes_eq front) (node_names names)) owned is).0 in
        let parts = and_parts (is_package_node front) (list_any (bytes_eq front) (node_names names)) node in
        false≢true (sym other ∙ package_listed names front (from_listed (node_names names) front parts.1) parts.0)

-- a path that is no root, begins no module's and is no package's isn't a node's
unlisted : (names : List (List ℕ)) (path : List ℕ) → is_root path ≡ false → is_inner path ≡ false → is_package path ≡ false
    → list_any (bytes_eq path) (node_names names) ≡ false
unlisted names path one two three = false_from_ne_true (list_any (bytes_eq path) (node_names names))
    (λ listed. go (node_looks names path (from_listed (node_names names) path listed)))
  where
    go : NodeLook path → ⊥
    go (Root root other) = false≢true (sym one ∙ root)
    go (Inner looks) = false≢true (sym two ∙ looks.inner)
    go (OfPackage is) = false≢true (sym three ∙ is)

-- The law for a header

module _ (b : List ℕ) (m : Pairs) (nodes : NodesAs b (head b) (names_of m)) (valid : ValidAs b (head b)) (stands : Stands b m)
    (has : HasSections (head b)) where
  abbrev names : List (List ℕ)
  names = names_of m

  abbrev IsTold : List ℕ → Type 0
  IsTold path = stat_with b path ≡ ok_or (tree m path) NotThere

  names_told : (path : List ℕ) (there : NodeThere b (head b) names path) → HoldsNames names path → children_told b there.content
      ≡ Ok (holds_of names path)
  names_told path there named =
      let tells = subst (λ (x : Holds). Tells b (head b) x there.content) named.holds there.tells in
      children_are_told b named.list there.content valid has tells ∙ ap (λ (x : Holds). Ok x) (sym named.holds)

  pub pairs_told : (path : List ℕ) (there : NodeThere b (head b) names path) → is_package path ≡ true → owners_told b there.content
      ≡ Ok (Owners (owners names (drop 10 path)))
  pairs_told path there is =
      let tells = subst (λ (x : Holds). Tells b (head b) x there.content) (package_holds names path is) there.tells in
      owners_are_told b (owners names (drop 10 path)) there.content has tells

  at_slash : (path : List ℕ) → bytes_eq path (codes "/") ≡ true → IsTold path
  at_slash path is =
      let modules = node_there b (head b) names (codes "/modules") nodes (modules_listed names) in
      let packages = node_there b (head b) names (codes "/packages") nodes (packages_listed names) in
      let both = both_roots b (ap is_some modules.found) (ap is_some packages.found) in
      stat_slash b path is ∙ ap (λ (l : List (List ℕ)). Ok (Folder l)) both ∙ ap (λ (o : Option TreeItem). ok_or o NotThere)
      (sym (tree_root m path is))

  -- a node with children
  names_there : (path : List ℕ) (there : NodeThere b (head b) names path) → bytes_eq path (codes "/") ≡ false
      → HoldsNames names path → folder (children_told b there.content) ≡ ok_or (tree m path) NotThere
  names_there path there other named =
      ap folder (names_told path there named) ∙ ap (λ (o : Option TreeItem). ok_or o NotThere) (sym (tree_node m path other there.listed))

  at_root : (path : List ℕ) → bytes_eq path (codes "/") ≡ false → is_root path ≡ true → IsTold path
  at_root path other is =
      let there = node_there b (head b) names path nodes (root_listed names path is) in
      stat_root b path other is ∙ ap (λ o. folder (children_of b o)) there.found ∙ names_there path there other (root_holds names path is)

  at_inner : (path : List ℕ) → bytes_eq path (codes "/") ≡ false → is_root path ≡ false → is_inner path ≡ true → IsTold path
  at_inner path other no_root is =
      elim (node_cases b (head b) names path nodes (inner_is_node path is)) [
        | inl there ↦ stat_inner b path other no_root is ∙ ap (in_modules b path) there.found
            ∙ names_there path there other (inner_holds names path is)
        | inr missing ↦
            let answer = resource_is b m (drop 8 path) stands in
            stat_inner b path other no_root is ∙ ap (in_modules b path) missing.none ∙ answer
            ∙ ap (λ (o : Option TreeItem). ok_or o NotThere) (sym (tree_file m path other missing.unlisted is))
      ]

  nothing_there : (path : List ℕ) → bytes_eq path (codes "/") ≡ false → list_any (bytes_eq path) (node_names names) ≡ false
      → is_inner path ≡ false → is_link names path ≡ false → ◌≡◌ {A = Result TreeItem JrtError} (Err NotThere)
      (ok_or (tree m path) NotThere)
  nothing_there path other none no_inner unlinked = ap (λ (o : Option TreeItem). ok_or o NotThere)
      (sym (tree_none m path other none no_inner unlinked))

  at_packages : (path : List ℕ) → bytes_eq path (codes "/") ≡ false → is_inner path ≡ false → is_package path ≡ true
      → in_packages b path ≡ ok_or (tree m path) NotThere
  at_packages path other no_inner is =
      elim (node_cases b (head b) names path nodes (package_is_node path is)) [
        | inl there ↦
            let held : owners_told b there.content ≡ Ok (holds_of names path) = pairs_told path there is
            ∙ ap (λ (x : Holds). Ok x) (sym (package_holds names path is)) in
            at_package b path is ∙ ap (λ o. folder (owners_of b o)) there.found ∙ ap folder held
            ∙ ap (λ (o : Option TreeItem). ok_or o NotThere) (sym (tree_node m path other there.listed))
        | inr missing ↦
            at_package b path is ∙ ap (λ o. folder (owners_of b o)) missing.none
            ∙ nothing_there path other missing.unlisted no_inner (no_link_node names path (no_package_above path is))
      ]

  -- the owner that a link names, or nothing
  link_there : (path : List ℕ) → bytes_eq path (codes "/") ≡ false → list_any (bytes_eq path) (node_names names) ≡ false
      → is_inner path ≡ false → is_link names path ≡ list_any (λ o. bytes_eq (after_last is_slash path) o.module)
      (owners names (drop 10 (before_last is_slash path))) → link_among (after_last is_slash path)
      (owners names (drop 10 (before_last is_slash path))) ≡ ok_or (tree m path) NotThere
  link_there path other none no_inner same = search (rules, cases_Bool, link_none, link_some, tree_link, nothing_there)

  at_owner : (path : List ℕ) → bytes_eq path (codes "/") ≡ false → list_any (bytes_eq path) (node_names names) ≡ false
      → is_inner path ≡ false → is_package path ≡ false → is_package (before_last is_slash path) ≡ true → in_packages b path
      ≡ ok_or (tree m path) NotThere
  at_owner path other none no_inner no_package is =
      let front : List ℕ = before_last is_slash path in
      let node : is_package_node front ≡ true = (and_parts (is_package_node front) (not (list_any is_slash (drop 10 front))) is).0 in
      elim (node_cases b (head b) names front nodes (package_is_node front is)) [
        | inl there ↦
            at_link b path no_package is ∙ ap (λ o. link (after_last is_slash path) (owners_of b o)) there.found
            ∙ ap (link (after_last is_slash path)) (pairs_told front there is)
            ∙ link_there path other none no_inner (link_of_parts names path node there.listed)
        | inr missing ↦
            at_link b path no_package is ∙ ap (λ o. link (after_last is_slash path) (owners_of b o)) missing.none
            ∙ nothing_there path other none no_inner (no_link_listed names path node missing.unlisted)
      ]

  at_other : (path : List ℕ) → bytes_eq path (codes "/") ≡ false → is_root path ≡ false → is_inner path ≡ false → in_packages b path
      ≡ ok_or (tree m path) NotThere
  at_other path other no_root no_inner =
      elim (cases_Bool (is_package path)) [
        | inl is ↦ at_packages path other no_inner is
        | inr no_package ↦
            let none = unlisted names path no_root no_inner no_package in
            elim (cases_Bool (is_package (before_last is_slash path))) [
              | inl is ↦ at_owner path other none no_inner no_package is
              | inr nowhere ↦ at_nothing b path no_package nowhere ∙ nothing_there path other none no_inner (no_link names path nowhere)
            ]
      ]

  pub stat_of_tree : (path : List ℕ) → IsTold path
  stat_of_tree path = search (rules, cases_Bool, is_inner, stat_other, at_slash, at_root, at_inner, at_other)
