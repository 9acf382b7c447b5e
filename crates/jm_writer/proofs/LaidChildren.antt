-- What a node of the two trees holds, of names: children that are named, and owners that are modules.
use Rattle.std.proofs.Common.{◌≡◌, ℕ, inl, inr, Bool, true, false, cond, List, [], ◌∷◌, ◌++◌, map, drop}
use Rattle.std.proofs.Common.{Contains, refl, sym, ap, ◌∙◌, subst}
use Rattle.std.proofs.lemmas.Bool.{false≢true}
use Rattle.std.proofs.lemmas.List.{append_assoc}
use Rattle.std.proofs.lemmas.List.Elements.{Contains-append_cases, Contains-append_left, Contains-append_right}
use Rattle.std.proofs.lemmas.Slice.Eq.{bytes_eq-Decides}
use Rattle.std.specs.List.{AllZip, flat_map, list_any}
use Rattle.std.specs.Prelude.{codes, filter, not}
use Rattle.std.specs.Str.{bytes_eq}
use Rattle.jm_bytes.proofs.Members.{any_contains, contains_here, contains_later, from_any, from_filter, from_map}
use Rattle.jm_bytes.specs.declared.words.Order.{Order}
use Rattle.jm_bytes.specs.Word.{word_bytes}
use Rattle.jm_form.specs.declared.trees.Owner.{Owner}
use Rattle.jm_form.specs.Layout.{Index, owner_words, text_place}
use Rattle.jm_form.specs.Nodes.{empty_flag, owners_text, words_text}
use Rattle.jm_form.specs.Rising.{rising}
use Rattle.jm_form.specs.Trees.{ModuleFolder, children, entry_name, folders, folders_called, inner_nodes}
use Rattle.jm_form.specs.Trees.{is_child, is_empty_in, is_meta, node_names, owners, package_folders}
use Rattle.jm_form.specs.Trees.{package_nodes, package_of, tree_place, tree_places}
use Rattle.jm_form.proofs.RisingLaws.{contains_falling, from_rising}

-- Place by place

pub zip_mapped : {A B : Type 0} (R : A → B → Type 0) (f : A → B) (xs : List A) → ((x : A) → Contains xs x → R x (f x))
    → AllZip R xs (map f xs)
zip_mapped R f [] each = tt
zip_mapped R f (x ∷ xs) each = (each x (contains_here x xs), zip_mapped R f xs (λ y there. each y (contains_later x xs y there)))

-- the words of owners are their flags and the places of their texts
pub owners_words : (order : Order) (index : Index) (owners : List Owner) → words_text order (flat_map (owner_words index) owners)
    ≡ owners_text order owners (map (λ o. text_place index.texts o.«module») owners)
owners_words order index [] = refl
owners_words order index (owner ∷ owners) =
    let flag : List ℕ = word_bytes order (empty_flag owner.empty) in
    let place : List ℕ = word_bytes order (text_place index.texts owner.«module») in
    let later : List ℕ = owners_text order owners (map (λ o. text_place index.texts o.«module») owners) in
    ap (λ l. flag ++ (place ++ l)) (owners_words order index owners)
    ∙ sym (append_assoc flag (place ++ []) later ∙ ap (λ l. flag ++ l) (append_assoc place [] later))

-- Children

pub inner_there : (names : List (List ℕ)) (node : List ℕ) → Contains (inner_nodes names) node → Contains (node_names names) node
inner_there names node there =
    let rest : List (List ℕ) = inner_nodes names ++ package_nodes names in
    contains_falling (codes "/modules" ∷ codes "/packages" ∷ rest) node
    (contains_later (codes "/modules") (codes "/packages" ∷ rest) node
    (contains_later (codes "/packages") rest node (Contains-append_left (inner_nodes names) (package_nodes names) node there)))

pub package_there : (names : List (List ℕ)) (node : List ℕ) → Contains (package_nodes names) node → Contains (node_names names) node
package_there names node there =
    let rest : List (List ℕ) = inner_nodes names ++ package_nodes names in
    contains_falling (codes "/modules" ∷ codes "/packages" ∷ rest) node
    (contains_later (codes "/modules") (codes "/packages" ∷ rest) node
    (contains_later (codes "/packages") rest node (Contains-append_right (inner_nodes names) (package_nodes names) node there)))

-- the name of the entry at a place of the tree is that of a resource or of a node
place_named : (names : List (List ℕ)) (place : List ℕ) → Contains (inner_nodes names ++ map tree_place names) place
    → Contains (names ++ node_names names) (entry_name names place)
place_named names place there = go (list_any (λ name. bytes_eq place (tree_place name)) names) refl
  where
    go : (b : Bool) → list_any (λ name. bytes_eq place (tree_place name)) names ≡ b → Contains (names ++ node_names names)
        (cond b (drop 8 place) place)
    go true some =
        let (name, among, test) = from_any (λ name. bytes_eq place (tree_place name)) names some in
        let is : name ≡ drop 8 place = ap (drop 8) (sym ((bytes_eq-Decides place (tree_place name)).0 test)) in
        subst (Contains (names ++ node_names names)) is (Contains-append_left names (node_names names) name among)
    go false none = elim (Contains-append_cases (inner_nodes names) (map tree_place names) place there) [
      | inl inner ↦ Contains-append_right names (node_names names) place (inner_there names place inner)
      | inr resource ↦
          let (name, among, is) = from_map tree_place names place resource in
          absurd (false≢true (sym none ∙ any_contains (λ name. bytes_eq place (tree_place name)) names name among
          ((bytes_eq-Decides place (tree_place name)).1 (sym is))))
    ]

pub child_named : (names : List (List ℕ)) (node child : List ℕ) → Contains (children names node) child
    → Contains (names ++ node_names names) child
child_named names node child there =
    let (place, among, is) = from_map (entry_name names) (filter (is_child node) (tree_places names)) child there in
    let passed = from_filter (is_child node) (tree_places names) place among in
    subst (Contains (names ++ node_names names)) is
    (place_named names place (from_rising (inner_nodes names ++ map tree_place names) place passed.0))

-- Owners

-- an owner is the module of a folder
pub owner_from : (names : List (List ℕ)) (called : List ℕ) (owner : Owner) → Contains (owners names called) owner
    → (folder : ModuleFolder) × Contains (folders names) folder × (folder.«module» ≡ owner.«module»)
owner_from names called owner there =
    let modules : List (List ℕ) = map (λ (folder : ModuleFolder). folder.«module») (folders_called names called) in
    let (text, among, is) = from_map (λ (text : List ℕ). record { empty = is_empty_in names called text; «module» = text })
    (rising modules) owner there in
    let (folder, inside, of) = from_map (λ (folder : ModuleFolder). folder.«module») (folders_called names called) text
    (from_rising modules text among) in
    let named = from_filter (λ folder. bytes_eq called (package_of folder)) (package_folders names) folder inside in
    let passed = from_filter (λ folder. not (is_meta folder.path)) (folders names) folder named.0 in
    (folder, passed.0, of ∙ ap (λ (o : Owner). o.«module») is)
