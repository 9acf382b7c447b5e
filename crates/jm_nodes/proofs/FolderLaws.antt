-- Modules and folders as fronts of sound names, and the folders that are packages.
use Rattle.std.proofs.Common.{◌≡◌, ℕ, ◌⊎◌, inl, inr, Bool, true, false, cond, not, ◌&&◌, List, ◌∷◌, ◌++◌, map}
use Rattle.std.proofs.Common.{drop, Some, None, Contains, refl, sym, ap, ◌∙◌, subst}
use Rattle.std.specs.Prelude.{codes}
use Rattle.std.specs.List.{flat_map, list_any}
use Rattle.std.proofs.lemmas.Bool.{false≢true}
use Rattle.std.proofs.lemmas.List.Elements.{Contains-append_left, Contains-append_right, Contains-append_cases}
use Rattle.jm_bytes.proofs.Choice.{same_some}
use Rattle.jm_bytes.proofs.Members.{contains_filter, contains_filter_map, contains_map, from_filter, from_filter_map, from_map}
use Rattle.jm_bytes.proofs.SameOrder.{contains_flat_map, from_flat_map}
use Rattle.jm_names.specs.Names.{is_slash}
use Rattle.jm_form.specs.Rising.{rising}
use Rattle.jm_form.specs.Trees.{folder_name, folder_node, folders, folders_of, fronts, inner_nodes, is_meta}
use Rattle.jm_form.specs.Trees.{module_node, module_of, modules, package_folders, package_of, packages}
use Rattle.jm_form.specs.Trees.{path_of, ModuleFolder}
use Rattle.jm_nodes.specs.FrontTrees.{called_all, folders_among, package_folder, Folder}
use Rattle.jm_nodes.specs.Order.{SameElements}
use Rattle.jm_form.proofs.RisingLaws.{contains_rising, from_rising, rising_same}
use Rattle.jm_nodes.proofs.SoundLaws.{any_behind, folder_front, front_cases, module_again, module_front, path_again, IsCut}

abbrev Texts : Type 0
Texts = List (List ℕ)

-- a folder as a front: its module and its path
abbrev pub Found : ModuleFolder → Folder
Found folder = record { front = folder_name folder; «module» = folder.module; path = folder.path }

-- where a folder is from
pub record IsFrom (names : Texts) (folder : ModuleFolder) : Type 0 where
  pub name : List ℕ
  pub among : Contains names name
  pub home : module_of name ≡ folder.module
  pub front : Contains (fronts (path_of name)) folder.path

pub from_folders : (names : Texts) (folder : ModuleFolder) → Contains (folders names) folder → IsFrom names folder
from_folders names folder there =
    let one = from_flat_map folders_of names folder there in
    let made : List ℕ → ModuleFolder = λ front. record { «module» = module_of one.0; path = front } in
    let front = from_map made (fronts (path_of one.0)) folder one.2 in
    record {
      name = one.0;
      among = one.1;
      home = ap (λ (f : ModuleFolder). f.module) front.2;
      front = subst (Contains (fronts (path_of one.0))) (ap (λ (f : ModuleFolder). f.path) front.2) front.1;
    }

pub folder_there : (names : Texts) (name inner : List ℕ) → Contains names name → Contains (fronts (path_of name)) inner
    → Contains (folders names) (record { «module» = module_of name; path = inner })
folder_there names name inner there front =
    let made : List ℕ → ModuleFolder = λ text. record { «module» = module_of name; path = text } in
    contains_flat_map folders_of names name (made inner) there (contains_map made (fronts (path_of name)) inner front)

module _ (names : Texts) (cut : (name : List ℕ) → Contains names name → IsCut name) where
  pub module_there : (name : List ℕ) → Contains names name → Contains (flat_map fronts names) (47 ∷ module_of name)
  module_there name there =
      contains_flat_map fronts names name (47 ∷ module_of name) there
      (subst (λ n. Contains (fronts n) (47 ∷ module_of name)) (sym (cut name there).whole) (module_front (module_of name) (path_of name)))

  pub front_there_of : (folder : ModuleFolder) → Contains (folders names) folder → Contains (flat_map fronts names) (folder_name folder)
  front_there_of folder there =
      let from = from_folders names folder there in
      contains_flat_map fronts names from.name (folder_name folder) from.among
      (subst (λ m. Contains (fronts from.name) (47 ∷ m ++ 47 ∷ folder.path)) from.home
      (subst (λ n. Contains (fronts n) (47 ∷ module_of from.name ++ 47 ∷ folder.path)) (sym (cut from.name from.among).whole)
      (folder_front (module_of from.name) (path_of from.name) folder.path from.front)))

  pub module_plain : (folder : ModuleFolder) → Contains (folders names) folder → list_any is_slash folder.module ≡ false
  module_plain folder there =
      let from = from_folders names folder there in
      ap (list_any is_slash) (sym from.home) ∙ (cut from.name from.among).plain

  -- a front is that of a module or of a folder
  pub front_of : (front : List ℕ) → Contains (flat_map fronts names) front
      → ((name : List ℕ) × Contains names name × (front ≡ 47 ∷ module_of name)) ⊎ ((folder : ModuleFolder)
      × Contains (folders names) folder × (front ≡ folder_name folder))
  front_of front there =
      let from = from_flat_map fronts names front there in
      let whole = (cut from.0 from.1).whole in
      elim (front_cases (module_of from.0) (path_of from.0) front (cut from.0 from.1).plain (cut from.0 from.1).begins
      (subst (λ n. Contains (fronts n) front) whole from.2)) [
        | inl is ↦ inl (from.0, from.1, is)
        | inr inner ↦ inr (
          record { «module» = module_of from.0; path = inner.0 },
          folder_there names from.0 inner.0 from.1 inner.1,
          inner.2,
        )
      ]

  -- The nodes of modules and folders

  pub inner_from : (x : List ℕ) → Contains (inner_nodes names) x → (front : List ℕ) × Contains (flat_map fronts names) front
      × (codes "/modules" ++ front ≡ x)
  inner_from x there =
      elim (Contains-append_cases (map module_node (modules names)) (map folder_node (folders names)) x there) [
        | inl of_module ↦
            let node = from_map module_node (modules names) x of_module in
            let name = from_map module_of names node.0 (from_rising (map module_of names) node.0 node.1) in
            (47 ∷ node.0, subst (λ m. Contains (flat_map fronts names) (47 ∷ m)) name.2 (module_there name.0 name.1), node.2)
        | inr of_folder ↦
            let node = from_map folder_node (folders names) x of_folder in
            (folder_name node.0, front_there_of node.0 node.1, node.2)
      ]

  pub inner_there : (front : List ℕ) → Contains (flat_map fronts names) front → Contains (inner_nodes names) (codes "/modules" ++ front)
  inner_there front there =
      elim (front_of front there) [
        | inl of_module ↦
            subst (λ f. Contains (inner_nodes names) (codes "/modules" ++ f)) (sym of_module.2)
            (Contains-append_left (map module_node (modules names)) (map folder_node (folders names)) (module_node (module_of of_module.0))
            (contains_map module_node (modules names) (module_of of_module.0) (contains_rising (map module_of names)
            (module_of of_module.0) (contains_map module_of names of_module.0 of_module.1))))
        | inr of_folder ↦
            subst (λ f. Contains (inner_nodes names) (codes "/modules" ++ f)) (sym of_folder.2)
            (Contains-append_right (map module_node (modules names)) (map folder_node (folders names)) (folder_node of_folder.0)
            (contains_map folder_node (folders names) of_folder.0 of_folder.1))
      ]

  -- Packages

  found_at : (folder : ModuleFolder) → list_any is_slash folder.module ≡ false
      → package_folder (folder_name folder) ≡ cond (not (is_meta folder.path)) (Some (Found folder)) None
  found_at folder plain =
      let path = path_again folder.module folder.path plain in
      let home = module_again folder.module folder.path plain in
      rw (any_behind folder.module folder.path, path, home) refl

  pub package_there : (folder : ModuleFolder) → Contains (package_folders names) folder → package_folder (folder_name folder)
      ≡ Some (Found folder)
  package_there folder there =
      let among = from_filter (λ (f : ModuleFolder). not (is_meta f.path)) (folders names) folder there in
      found_at folder (module_plain folder among.0) ∙ ap (λ b. cond b (Some (Found folder)) None) among.1

  pub package_from : (front : List ℕ) (found : Folder) → Contains (flat_map fronts names) front → package_folder front ≡ Some found
      → (folder : ModuleFolder) × Contains (package_folders names) folder × (Found folder ≡ found)
  package_from front found there gives =
      elim (front_of front there) [
        | inl of_module ↦
            let plain : list_any is_slash (drop 1 front) ≡ false = ap (λ f. list_any is_slash (drop 1 f)) of_module.2
            ∙ (cut of_module.0 of_module.1).plain in
            absurd (none_some (list_any is_slash (drop 1 front)) (not (is_meta (path_of front))) (record {
              front = front;
              «module» =
                  module_of front;
              path = path_of front;
            }) plain gives)
        | inr of_folder ↦
            let folder = of_folder.0 in
            let at = sym (found_at folder (module_plain folder of_folder.1)) ∙ ap package_folder (sym of_folder.2) ∙ gives in
            let passed = taken (not (is_meta folder.path)) (Found folder) at in
            (folder, contains_filter (λ (f : ModuleFolder). not (is_meta f.path)) (folders names) folder of_folder.1 passed.0, passed.1)
      ]
    where
      none_some : (a b : Bool) (made : Folder) → a ≡ false → cond (a && b) (Some made) None ≡ Some found → ⊥
      none_some true b made e gives = false≢true (sym e)
      none_some false b made e gives = cc

      taken : (b : Bool) (made : Folder) → cond b (Some made) None ≡ Some found → (b ≡ true) × (made ≡ found)
      taken true made e = (refl, same_some made found e)
      taken false made e = absurd (cc)

  -- the packages, from the fronts
  pub packages_same : (risen : Texts) → SameElements (flat_map fronts names) risen → packages names
      ≡ rising (called_all (folders_among risen))
  packages_same risen same =
      rising_same (map package_of (package_folders names)) (called_all (folders_among risen))
      (λ called there.
      let folder = from_map package_of (package_folders names) called there in
      let among = from_filter (λ (f : ModuleFolder). not (is_meta f.path)) (folders names) folder.0 folder.1 in
      let found = contains_filter_map package_folder risen (folder_name folder.0) (Found folder.0) (same.has (folder_name folder.0)
      (front_there_of folder.0 among.0)) (package_there folder.0 folder.1) in
      subst (Contains (called_all (folders_among risen))) folder.2
      (contains_map (λ (f : Folder). package_of (record { «module» = f.module; path = f.path })) (folders_among risen)
      (Found folder.0) found))
      (λ called there.
      let found = from_map (λ (f : Folder). package_of (record { «module» = f.module; path = f.path })) (folders_among risen) called
      there in
      let front = from_filter_map package_folder risen found.0 found.1 in
      let folder = package_from front.0 found.0 (same.only front.0 front.1) front.2 in
      subst (Contains (map package_of (package_folders names)))
      (ap (λ (f : Folder). package_of (record { «module» = f.module; path = f.path })) folder.2 ∙ found.2)
      (contains_map package_of (package_folders names) folder.0 folder.1))
