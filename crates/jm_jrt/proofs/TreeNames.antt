-- The names of nodes: which there are, and how those of the two trees look.
use Rattle.std.proofs.Common.{◌≡◌, ℕ, inl, inr, Bool, true, false, not, ◌||◌, List, [], ◌∷◌, ◌++◌, length, rules}
use Rattle.std.proofs.Common.{drop, map, Contains, refl, sym, ap, ◌∙◌, subst}
use Rattle.std.specs.Prelude.{codes, if◌then◌else◌, nat_eq}
use Rattle.std.specs.List.{after_last, before_last, list_any, starts_with}
use Rattle.std.specs.Str.{bytes_eq}
use Rattle.std.proofs.lemmas.Bool.{and_parts, cases_Bool, false_from_ne_true, false≢true, or_cases}
use Rattle.std.proofs.lemmas.Bool.Decides.{Decides-eqb}
use Rattle.std.proofs.lemmas.List.Elements.{Contains-append_cases, Contains-append_right}
use Rattle.std.proofs.lemmas.Slice.Eq.{bytes_eq-Decides, starts_is}
use Rattle.jm_bytes.proofs.Cuts.{before_last_none, last_parts, last_within}
use Rattle.jm_bytes.proofs.Members.{any_contains, contains_here, contains_later, contains_cases, from_map}
use Rattle.jm_names.specs.Names.{dotted, is_node, is_slash}
use Rattle.jm_form.specs.declared.trees.Holds.TheVariants.{Children, Owners}
use Rattle.jm_form.specs.Trees.{children, folder_node, folders, holds_of, inner_nodes, is_package_node}
use Rattle.jm_form.specs.Trees.{module_node, modules, node_names, owners, package_folders, package_node}
use Rattle.jm_form.specs.Trees.{package_nodes, package_of, packages}
use Rattle.jm_form.proofs.RisingLaws.{contains_falling, from_falling, from_rising}
use Rattle.jm_jrt.specs.Stat.{is_package, is_root}

abbrev Texts : Type 0
Texts = List (List ℕ)

-- The names of nodes

abbrev given_nodes : Texts → Texts
given_nodes names = codes "/modules" ∷ codes "/packages" ∷ inner_nodes names ++ package_nodes names

node_listed : (names : Texts) (path : List ℕ) → Contains (given_nodes names) path → Contains (node_names names) path
node_listed names path there = contains_falling (given_nodes names) path there

node_given : (names : Texts) (path : List ℕ) → Contains (node_names names) path → Contains (given_nodes names) path
node_given names path there = from_falling (given_nodes names) path there

pub modules_listed : (names : Texts) → Contains (node_names names) (codes "/modules")
modules_listed names = node_listed names (codes "/modules") (contains_here (codes "/modules") (codes "/packages" ∷ inner_nodes names
    ++ package_nodes names))

pub packages_listed : (names : Texts) → Contains (node_names names) (codes "/packages")
packages_listed names = search (rules, contains_here, contains_later, node_listed)

-- How they look

abbrev pub is_inner : List ℕ → Bool
is_inner path = starts_with nat_eq path (codes "/modules/")

-- a text that begins with another one, and what follows
pub begun : (text front : List ℕ) → starts_with nat_eq text front ≡ true → text ≡ front ++ drop (length front) text
begun text front begins = (starts_is Decides-eqb text front (starts_with nat_eq text front) refl).0 begins

-- a package's name has no slash
no_slash : (folder : List ℕ) → list_any is_slash (dotted folder) ≡ false
no_slash [] = refl
no_slash (b ∷ folder) = go (is_slash b) refl (no_slash folder)
  where
    go : (slash : Bool) → is_slash b ≡ slash → list_any is_slash (dotted folder) ≡ false
        → (is_slash (if slash then 46 else b) || list_any is_slash (dotted folder)) ≡ false
    go true is later = later
    go false is later = rw is later

package_looks : (called : List ℕ) → list_any is_slash called ≡ false → is_package (package_node called) ≡ true
package_looks called plain = ap not plain

-- a node is a root, or stands below `/modules/`, or is that of a package
pub record LooksInner (path : List ℕ) : Type 0 where
  pub inner : is_inner path ≡ true
  pub no_package : is_package_node path ≡ false

inner_looks : (rest : List ℕ) → LooksInner (codes "/modules/" ++ rest)
inner_looks rest = record { inner = refl; no_package = refl }

package_from : (names : Texts) (path : List ℕ) → Contains (package_nodes names) path → is_package path ≡ true
package_from names path there =
    let (called, listed, is) = from_map package_node (packages names) path there in
    let (folder, among, names) = from_map package_of (package_folders names) called
    (from_rising (map package_of (package_folders names)) called listed) in
    let plain : list_any is_slash called ≡ false = ap (list_any is_slash) (sym names) ∙ no_slash folder.path in
    ap is_package (sym is) ∙ package_looks called plain

inner_from : (names : Texts) (path : List ℕ) → Contains (inner_nodes names) path → LooksInner path
inner_from names path there =
    elim (Contains-append_cases (map module_node (modules names)) (map folder_node (folders names)) path there) [
      | inl one ↦ let (text, among, is) = from_map module_node (modules names) path one in subst LooksInner is (inner_looks text)
      | inr one ↦ let (folder, among, is) = from_map folder_node (folders names) path one in
          subst LooksInner is (inner_looks (folder.module ++ 47 ∷ folder.path))
    ]

pub data NodeLook (path : List ℕ) : Type 0 where
  Root : is_root path ≡ true → is_package_node path ≡ false → NodeLook path
  Inner : LooksInner path → NodeLook path
  OfPackage : is_package path ≡ true → NodeLook path

pub node_looks : (names : Texts) (path : List ℕ) → Contains (node_names names) path → NodeLook path
node_looks names path there =
    elim (contains_cases (codes "/modules") (codes "/packages" ∷ inner_nodes names ++ package_nodes names) path
    (node_given names path there)) [
      | inl same ↦ subst NodeLook same (Root refl refl)
      | inr later ↦
          elim (contains_cases (codes "/packages") (inner_nodes names ++ package_nodes names) path later) [
            | inl same ↦ subst NodeLook same (Root refl refl)
            | inr others ↦
                elim (Contains-append_cases (inner_nodes names) (package_nodes names) path others) [
                  | inl inner ↦ Inner (inner_from names path inner)
                  | inr below ↦ OfPackage (package_from names path below)
                ]
          ]
    ]

-- Packages

fails : (b : Bool) → not b ≡ true → b ≡ false
fails true e = cc
fails false e = refl

-- a node below `/packages/` is that of a package
pub package_listed : (names : Texts) (path : List ℕ) → Contains (node_names names) path → is_package_node path ≡ true
    → is_package path ≡ true
package_listed names path there below = go (node_looks names path there)
  where
    go : NodeLook path → is_package path ≡ true
    go (Root root other) = absurd (false≢true (sym other ∙ below))
    go (Inner looks) = absurd (false≢true (sym looks.no_package ∙ below))
    go (OfPackage is) = is

-- what stands before the last slash of a package's node isn't one
pub no_package_above : (path : List ℕ) → is_package path ≡ true → is_package_node (before_last is_slash path) ≡ false
no_package_above path is = false_from_ne_true (is_package_node (before_last is_slash path)) refused
  where
    refused : is_package_node (before_last is_slash path) ≡ true → ⊥
    refused above =
        elim (cases_Bool (list_any is_slash path)) [
          | inl some ↦
              let (x, passes, whole) = last_parts is_slash path 0 (last_within is_slash path 0 some) in
              let front : List ℕ = drop 10 (before_last is_slash path) in
              let after : List ℕ = after_last is_slash path in
              let begins : before_last is_slash path ≡ codes "/packages/" ++ front = begun (before_last is_slash path)
              (codes "/packages/") above in
              let joined : path ≡ (codes "/packages/" ++ front) ++ x ∷ after = sym whole ∙ ap (λ l. l ++ x ∷ after) begins in
              let rest : drop 10 path ≡ front ++ x ∷ after = ap (drop 10) joined in
              let slash = any_contains is_slash (front ++ x ∷ after) x (Contains-append_right front (x ∷ after) x
              (contains_here x after)) passes in
              let plain = fails (list_any is_slash (drop 10 path)) (and_parts (is_package_node path)
              (not (list_any is_slash (drop 10 path))) is).1 in
              false≢true (sym plain ∙ ap (list_any is_slash) rest ∙ slash)
          | inr none ↦
              let empty = before_last_none is_slash path 0 none in
              false≢true (sym (ap is_package_node empty) ∙ above)
        ]

-- Names of nodes are those of nodes

node_of_third : (a b c d : Bool) → c ≡ true → (a || b || (c || d)) ≡ true
node_of_third true b c d e = refl
node_of_third false true c d e = refl
node_of_third false false c d e = rw e refl

node_of_last : (a b c d : Bool) → d ≡ true → (a || b || (c || d)) ≡ true
node_of_last true b c d e = refl
node_of_last false true c d e = refl
node_of_last false false true d e = refl
node_of_last false false false d e = e

pub inner_is_node : (path : List ℕ) → is_inner path ≡ true → is_node path ≡ true
inner_is_node path is =
    node_of_third (bytes_eq path (codes "/modules")) (bytes_eq path (codes "/packages")) (is_inner path) (is_package_node path) is

pub package_is_node : (path : List ℕ) → is_package path ≡ true → is_node path ≡ true
package_is_node path is = search (rules, and_parts, node_of_last)

-- What they hold

pub record HoldsNames (names : Texts) (path : List ℕ) : Type 0 where
  pub list : Texts
  pub holds : holds_of names path ≡ Children list

pub root_holds : (names : Texts) (path : List ℕ) → is_root path ≡ true → HoldsNames names path
root_holds names path is =
    elim (or_cases (bytes_eq path (codes "/modules")) (bytes_eq path (codes "/packages")) is) [
      | inl first ↦ subst (HoldsNames names) (sym ((bytes_eq-Decides path (codes "/modules")).0 first))
          (record { list = children names (codes "/modules"); holds = refl })
      | inr second ↦ subst (HoldsNames names) (sym ((bytes_eq-Decides path (codes "/packages")).0 second))
          (record { list = package_nodes names; holds = refl })
    ]

pub root_listed : (names : Texts) (path : List ℕ) → is_root path ≡ true → Contains (node_names names) path
root_listed names path is =
    elim (or_cases (bytes_eq path (codes "/modules")) (bytes_eq path (codes "/packages")) is) [
      | inl first ↦ subst (Contains (node_names names)) (sym ((bytes_eq-Decides path (codes "/modules")).0 first)) (modules_listed names)
      | inr second ↦ subst (Contains (node_names names)) (sym ((bytes_eq-Decides path (codes "/packages")).0 second))
          (packages_listed names)
    ]

pub inner_holds : (names : Texts) (path : List ℕ) → is_inner path ≡ true → HoldsNames names path
inner_holds names path is = subst (HoldsNames names) (sym (begun path (codes "/modules/") is)) (held names (drop 9 path))
  where
    held : (names : Texts) (rest : List ℕ) → HoldsNames names (codes "/modules/" ++ rest)
    held names rest = record { list = children names (codes "/modules/" ++ rest); holds = refl }

pub package_holds : (names : Texts) (path : List ℕ) → is_package path ≡ true → holds_of names path ≡ Owners (owners names (drop 10 path))
package_holds names path is = rw ((and_parts (is_package_node path) (not (list_any is_slash (drop 10 path))) is).0) refl
