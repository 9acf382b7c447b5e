-- The nodes of the two trees come from names: their modules, folders and packages.
use Rattle.std.proofs.Common.{◌≡◌, ◌≢◌, ℕ, inl, inr, true, not, List, [], ◌∷◌, ◌++◌, length, map, take, All, Contains, refl, sym, ap, subst}
use Rattle.std.proofs.lemmas.List.Elements.{All-contains, Contains-append_cases}
use Rattle.std.specs.Prelude.{codes, filter, nat_lt, slice_index_or, ◌&&◌}
use Rattle.std.specs.List.{range_with_len}
use Rattle.jm_bytes.proofs.Members.{contains_cases, from_filter, from_map}
use Rattle.jm_bytes.proofs.SameOrder.{from_flat_map}
use Rattle.jm_names.specs.NameFaults.{IsSound}
use Rattle.jm_names.specs.Names.{is_node, is_slash}
use Rattle.jm_form.specs.Strings.{IsZeroFree}
use Rattle.jm_form.specs.Trees.{ModuleFolder, folder_node, folders, folders_of, fronts, inner_nodes, is_meta}
use Rattle.jm_form.specs.Trees.{module_node, module_of, modules, node_names, package_folders, package_node}
use Rattle.jm_form.specs.Trees.{package_nodes, package_of, packages, path_of}
use Rattle.jm_form.proofs.RisingLaws.{from_falling, from_rising}
use Rattle.jm_writer.proofs.LaidSound.{SoundName, free_append, free_dotted, free_module, free_path, free_take, free_text, sound_name}

-- a folder of a name: its module is the name's, and no byte of its path is zero
pub record FolderOf (names : List (List ℕ)) (folder : ModuleFolder) : Type 0 where
  pub name : List ℕ
  pub there : Contains names name
  pub «module» : folder.«module» ≡ module_of name
  pub free : IsZeroFree folder.path

-- what a node's name is: some bytes, none of which is zero, as a node is called
pub record NodeName (name : List ℕ) : Type 0 where
  pub some : name ≢ []
  pub free : IsZeroFree name
  pub node : is_node name ≡ true

module _ (names : List (List ℕ)) (sound : All IsSound names) where
  pub sound_there : (name : List ℕ) → Contains names name → SoundName name
  sound_there name there = sound_name name (All-contains IsSound names name sound there)

  front_free : (path front : List ℕ) → IsZeroFree path → Contains (fronts path) front → IsZeroFree front
  front_free path front free there =
      let from = from_map (λ at. take at path) (filter (λ at. nat_lt 0 at && is_slash (slice_index_or path at 0))
      (range_with_len 0 (length path))) front there in
      subst IsZeroFree from.2 (free_take from.0 path free)

  pub folder_from : (folder : ModuleFolder) → Contains (folders names) folder → FolderOf names folder
  folder_from folder there =
      let (name, inside, among) = from_flat_map folders_of names folder there in
      let (front, within, is) = from_map (λ (front : List ℕ). record { «module» = module_of name; path = front })
      (fronts (path_of name)) folder among in
      record {
        name = name;
        there = inside;
        «module» = sym (ap (λ (f : ModuleFolder). f.«module») is);
        free = subst IsZeroFree (ap (λ (f : ModuleFolder). f.path) is) (front_free (path_of name) front
            (free_path name (sound_there name inside).free) within);
      }

  -- the module of a folder has no zero byte
  pub folder_free : (folder : ModuleFolder) → FolderOf names folder → IsZeroFree folder.«module»
  folder_free folder from = subst IsZeroFree (sym from.«module») (free_module from.name (sound_there from.name from.there).free)

  -- Nodes

  module_named : (text : List ℕ) → IsZeroFree text → NodeName (module_node text)
  module_named text free = record {
    some = λ e. cc;
    free = free_append (codes "/modules/") text (free_text (codes "/modules/") refl)
        free;
    node = refl;
  }

  package_named : (text : List ℕ) → IsZeroFree text → NodeName (package_node text)
  package_named text free = record {
    some = λ e. cc;
    free = free_append (codes "/packages/") text (free_text (codes "/packages/")
        refl) free;
    node = refl;
  }

  folder_named : (folder : ModuleFolder) → IsZeroFree folder.«module» → IsZeroFree folder.path → NodeName (folder_node folder)
  folder_named folder first second = record {
    some = λ e. cc;
    free = free_append (codes "/modules/") (folder.«module» ++ 47 ∷ folder.path) (free_text (codes "/modules/") refl)
        (free_append folder.«module» (47 ∷ folder.path) first (free_append (47 ∷ []) folder.path (free_text (47 ∷ []) refl) second));
    node = refl;
  }

  inner_named : (node : List ℕ) → Contains (inner_nodes names) node → NodeName node
  inner_named node there = elim (Contains-append_cases (map module_node (modules names)) (map folder_node (folders names)) node there) [
    | inl one ↦
        let (text, among, is) = from_map module_node (modules names) node one in
        let (name, inside, of) = from_map module_of names text (from_rising (map module_of names) text among) in
        subst NodeName is (module_named text (subst IsZeroFree of (free_module name (sound_there name inside).free)))
    | inr other ↦
        let (folder, among, is) = from_map folder_node (folders names) node other in
        let from = folder_from folder among in
        subst NodeName is (folder_named folder (folder_free folder from) from.free)
  ]

  package_from : (called : List ℕ) → Contains (packages names) called → IsZeroFree called
  package_from called there =
      let (folder, among, is) = from_map package_of (package_folders names) called
      (from_rising (map package_of (package_folders names)) called there) in
      let passed = from_filter (λ folder. not (is_meta folder.path)) (folders names) folder among in
      subst IsZeroFree is (free_dotted folder.path (folder_from folder passed.0).free)

  packages_named : (node : List ℕ) → Contains (package_nodes names) node → NodeName node
  packages_named node there =
      let (called, among, is) = from_map package_node (packages names) node there in
      subst NodeName is (package_named called (package_from called among))

  -- each node of the names is called as a node
  pub nodes_named : (node : List ℕ) → Contains (node_names names) node → NodeName node
  nodes_named node there =
      let inner : List (List ℕ) = inner_nodes names in
      let rest : List (List ℕ) = inner ++ package_nodes names in
      elim (contains_cases (codes "/modules") (codes "/packages" ∷ rest) node (from_falling (codes "/modules" ∷ codes "/packages"
      ∷ rest) node there)) [
        | inl root ↦ subst NodeName root (record { some = λ e. cc; free = free_text (codes "/modules") refl; node = refl })
        | inr later ↦
            elim (contains_cases (codes "/packages") rest node later) [
              | inl root ↦ subst NodeName root (record { some = λ e. cc; free = free_text (codes "/packages") refl; node = refl })
              | inr more ↦
                  elim (Contains-append_cases inner (package_nodes names) node more) [
                    | inl one ↦ inner_named node one
                    | inr other ↦ packages_named node other
                  ]
            ]
      ]
