-- The owners of packages are those of the table.
use Rattle.std.proofs.Common.{◌≡◌, ℕ, inl, inr, Bool, true, false, cond, not, ◌&&◌, List, [], ◌∷◌, ◌++◌, map}
use Rattle.std.proofs.Common.{drop, AllPairs, Contains, refl, sym, ap, ◌∙◌, subst, append_assoc}
use Rattle.std.specs.Prelude.{filter}
use Rattle.std.specs.Cmp.{both_ways}
use Rattle.std.specs.List.{before_last, flat_map, list_any}
use Rattle.std.specs.Str.{bytes_eq}
use Rattle.std.specs.declared.cmp.Ordering.TheVariants.{Less}
use Rattle.std.proofs.lemmas.Bool.{and_parts, cases_Bool, false≢true}
use Rattle.std.proofs.lemmas.List.Kept.{AllPairs-filter}
use Rattle.std.proofs.lemmas.Slice.Eq.{bytes_eq-Decides}
use Rattle.jm_bytes.proofs.Members.{any_contains, contains_filter, contains_filter_map, contains_map}
use Rattle.jm_bytes.proofs.Members.{from_any, from_filter, from_filter_map, from_map}
use Rattle.jm_bytes.proofs.Pairs.{pairs_among, pairs_map}
use Rattle.jm_bytes.proofs.SameOrder.{mapped_twice}
use Rattle.jm_names.specs.Names.{is_slash}
use Rattle.jm_form.specs.Trees.{folder_name, folders, folders_called, fronts, is_empty_in, is_meta, module_of}
use Rattle.jm_form.specs.Trees.{owners, package_folders, package_of, path_of, stands_in, ModuleFolder}
use Rattle.jm_nodes.specs.Filings.{filed_under, filing_cmp, is_filed, FilesAll, Filing}
use Rattle.jm_nodes.specs.FrontTrees.{child_filing, child_filings, folders_among, is_bare, owners_of}
use Rattle.jm_nodes.specs.FrontTrees.{package_filing, package_filings, package_folder}
use Rattle.jm_nodes.specs.Order.{SameElements}
use Rattle.jm_nodes.proofs.ChildLaws.{before_last_behind, before_last_slash, child_cases, map_same, resource_filed}
use Rattle.jm_nodes.proofs.FilingLaws.{filed_before, filed_from, filed_there, is_filed_from, is_filed_there}
use Rattle.jm_nodes.proofs.FolderLaws.{front_there_of, module_plain, package_from, package_there, Found}
use Rattle.jm_form.proofs.RisingLaws.{rising_only, Before}
use Rattle.jm_nodes.proofs.SoundLaws.{any_behind, module_again, path_again, IsCut}

-- A resource stands in the folder that is its name up to the last slash

-- what stands before the last slash, in a path that has one
deep : (text path : List ℕ) → list_any is_slash path ≡ true → before_last is_slash (47 ∷ text ++ 47 ∷ path) ≡ 47 ∷ text ++ 47
    ∷ before_last is_slash path
deep text path some =
    ap (λ t. before_last is_slash (47 ∷ t)) (sym (append_assoc text (47 ∷ []) path))
    ∙ before_last_behind (47 ∷ text ++ 47 ∷ []) path some
    ∙ ap (λ t. 47 ∷ t) (append_assoc text (47 ∷ []) (before_last is_slash path))

both_true : (a b : Bool) → a ≡ true → b ≡ true → (a && b) ≡ true
both_true true b p q = q
both_true false b p q = p

all_three : (a b c : Bool) → a ≡ true → b ≡ true → c ≡ true → (a && b && c) ≡ true
all_three true true true p q r = refl
all_three true true false p q r = r
all_three true false c p q r = absurd (false≢true q)
all_three false b c p q r = absurd (false≢true p)

stands_from : (name : List ℕ) (folder : ModuleFolder) → IsCut name → stands_in name folder ≡ true → before_last is_slash name
    ≡ folder_name folder
stands_from name folder cut stands =
    let outer = and_parts (bytes_eq folder.module (module_of name) && list_any is_slash (path_of name))
    (bytes_eq folder.path (before_last is_slash (path_of name))) stands in
    let inner = and_parts (bytes_eq folder.module (module_of name)) (list_any is_slash (path_of name)) outer.0 in
    let home = (bytes_eq-Decides folder.module (module_of name)).0 inner.0 in
    let path = (bytes_eq-Decides folder.path (before_last is_slash (path_of name))).0 outer.1 in
    ap (before_last is_slash) cut.whole
    ∙ deep (module_of name) (path_of name) inner.1
    ∙ (λ i. 47 ∷ sym home i ++ 47 ∷ sym path i)

stands_there : (name : List ℕ) (folder : ModuleFolder) → IsCut name → list_any is_slash folder.module ≡ false
    → before_last is_slash name ≡ folder_name folder → stands_in name folder ≡ true
stands_there name folder cut plain is =
    elim (cases_Bool (list_any is_slash (path_of name))) [
      | inl some ↦
          let same : 47 ∷ module_of name ++ 47 ∷ before_last is_slash (path_of name) ≡ 47 ∷ folder.module ++ 47 ∷ folder.path =
          sym (deep (module_of name) (path_of name) some) ∙ ap (before_last is_slash) (sym cut.whole) ∙ is
          in
          let home : folder.module ≡ module_of name = sym (module_again folder.module folder.path plain) ∙ ap module_of (sym same)
          ∙ module_again (module_of name) (before_last is_slash (path_of name)) cut.plain in
          let path : folder.path ≡ before_last is_slash (path_of name) = sym (path_again folder.module folder.path plain)
          ∙ ap path_of (sym same) ∙ path_again (module_of name) (before_last is_slash (path_of name)) cut.plain in
          all_three (bytes_eq folder.module (module_of name)) (list_any is_slash (path_of name))
          (bytes_eq folder.path (before_last is_slash (path_of name)))
          ((bytes_eq-Decides folder.module (module_of name)).1 home) some
          ((bytes_eq-Decides folder.path (before_last is_slash (path_of name))).1 path)
      | inr none ↦
          let same : 47 ∷ module_of name ≡ 47 ∷ folder.module ++ 47 ∷ folder.path =
          sym (before_last_slash (47 ∷ module_of name) (path_of name) none) ∙ ap (before_last is_slash) (sym cut.whole) ∙ is
          in
          absurd (false≢true (sym cut.plain ∙ ap (λ t. list_any is_slash (drop 1 t)) same ∙ any_behind folder.module folder.path))
    ]

-- What is put where a test fails

flat_alone : {X Y : Type 0} (t : X → Bool) (f : X → Y) (xs : List X) → flat_map (λ x. cond (t x) [] (f x ∷ [])) xs
    ≡ map f (filter (λ x. not (t x)) xs)
flat_alone t f [] = refl
flat_alone {X} {Y} t f (x ∷ xs) = go (t x) (flat_alone t f xs)
  where
    go : (b : Bool) → flat_map (λ y. cond (t y) [] (f y ∷ [])) xs ≡ map f (filter (λ y. not (t y)) xs)
        → cond b [] (f x ∷ []) ++ flat_map (λ y. cond (t y) [] (f y ∷ [])) xs
        ≡ map f (cond (not b) (x ∷ filter (λ y. not (t y)) xs) (filter (λ y. not (t y)) xs))
    go true rest = rest
    go false rest = ap (λ l. f x ∷ l) rest

abbrev full : Filing → Filing
full filing = record filing { mark = false }

-- it is skipped: its module has another folder of the package that has a resource
abbrev skipped : List Filing → Filing → Bool
skipped owned filing = filing.mark && is_filed (full filing) owned

abbrev kept : List Filing → List ℕ → List Filing
kept owned called = filter (λ filing. not (skipped owned filing)) (filed_under called owned)

kept_full : (a b : Bool) → not (a && b) ≡ true → a ≡ true → b ≡ false
kept_full true true keep mark = absurd (false≢true keep)
kept_full true false keep mark = refl
kept_full false b keep mark = absurd (false≢true mark)

module _ (names listed risen : List (List ℕ)) (table owned : List Filing) (cut : (name : List ℕ) → Contains names name → IsCut name)
    (same_names : SameElements names listed) (same_fronts : SameElements (flat_map fronts names) risen)
    (files : FilesAll (child_filings listed risen) table)
    (own : FilesAll (package_filings table (folders_among risen)) owned) where
  bare : (folder : ModuleFolder) → Contains (folders names) folder → is_bare table (folder_name folder)
      ≡ not (list_any (λ name. stands_in name folder) names)
  bare folder there =
      ap not
      (both_ways (list_any (λ (child : Filing). not child.mark) (filed_under (folder_name folder) table))
      (list_any (λ name. stands_in name folder) names)
      (λ some.
      let one = from_any (λ (child : Filing). not child.mark) (filed_under (folder_name folder) table) some in
      let from = filed_from (folder_name folder) table one.0 one.1 in
      elim (child_cases names listed risen table cut same_names same_fronts files one.0 from.0) [
        | inl resource ↦
            any_contains (λ name. stands_in name folder) names resource.0 resource.1
            (stands_there resource.0 folder (cut resource.0 resource.1) (module_plain names cut folder there)
            (ap (λ (f : Filing). f.under) resource.2 ∙ from.1))
        | inr inner ↦ absurd (false≢true (ap (λ (f : Filing). not f.mark) inner.2 ∙ one.2))
      ])
      (λ some.
      let one = from_any (λ name. stands_in name folder) names some in
      any_contains (λ (child : Filing). not child.mark) (filed_under (folder_name folder) table) (child_filing false one.0)
      (filed_there (folder_name folder) table (child_filing false one.0) (resource_filed names listed risen table cut same_names
      same_fronts files one.0 one.1)
      (stands_from one.0 folder (cut one.0 one.1) one.2)) refl))

  among : (folder : ModuleFolder) → Contains (package_folders names) folder → Contains (folders names) folder
  among folder there = (from_filter (λ (f : ModuleFolder). not (is_meta f.path)) (folders names) folder there).0

  owned_there : (folder : ModuleFolder) → Contains (package_folders names) folder → Contains owned (package_filing table (Found folder))
  owned_there folder there =
      own.same.has (package_filing table (Found folder))
      (contains_map (package_filing table) (folders_among risen) (Found folder)
      (contains_filter_map package_folder risen (folder_name folder) (Found folder) (same_fronts.has (folder_name folder)
      (front_there_of names cut folder (among folder there))) (package_there names cut folder there)))

  owned_from : (filing : Filing) → Contains owned filing → (folder : ModuleFolder) × Contains (package_folders names) folder
      × (package_filing table (Found folder) ≡ filing)
  owned_from filing there =
      let found = from_map (package_filing table) (folders_among risen) filing (own.same.only filing there) in
      let front = from_filter_map package_folder risen found.0 found.1 in
      let folder = package_from names cut front.0 found.0 (same_fronts.only front.0 front.1) front.2 in
      (folder.0, folder.1, ap (package_filing table) folder.2 ∙ found.2)

  module _ (called : List ℕ) where
    kept_from : (filing : Filing) → Contains (kept owned called) filing → Contains owned filing × (filing.under ≡ called)
        × (filing.mark ≡ true → is_filed (full filing) owned ≡ false)
    kept_from filing there =
        let passed = from_filter (λ f. not (skipped owned f)) (filed_under called owned) filing there in
        let from = filed_from called owned filing passed.0 in
        (from.0, from.1, kept_full filing.mark (is_filed (full filing) owned) passed.1)

    rises : (a b : Filing) → Contains (kept owned called) a → Contains (kept owned called) b → filing_cmp a b ≡ Less → Before a.name b.name
    rises a b in_a in_b less =
        let left = kept_from a in_a in
        let right = kept_from b in_b in
        elim (filed_before a b (left.1 ∙ sym right.1) less) [
          | inl before ↦ before
          | inr same ↦
              let twin : a ≡ full b = λ i. record { under = (left.1 ∙ sym right.1) i; name = same.0 i; mark = same.1 i } in
              absurd (false≢true (sym (right.2 same.2) ∙ is_filed_there (full b) owned (subst (Contains owned) twin left.0)))
        ]

    kept_rises : AllPairs Before (map (λ (f : Filing). f.name) (kept owned called))
    kept_rises =
        pairs_map Before (λ (f : Filing). f.name) (kept owned called)
        (pairs_among (λ a b. filing_cmp a b ≡ Less) (λ (a b : Filing). Before a.name b.name) (kept owned called) rises
        (AllPairs-filter (λ a b. filing_cmp a b ≡ Less) (λ f. not (skipped owned f)) (filed_under called owned)
        (AllPairs-filter (λ a b. filing_cmp a b ≡ Less) (λ (f : Filing). bytes_eq f.under called) owned own.ordered)))

    -- a folder of the package
    folder_of_package : (folder : ModuleFolder) → Contains (folders_called names called) folder
        → Contains (package_folders names) folder × (package_of folder ≡ called)
    folder_of_package folder there =
        let passed = from_filter (λ (f : ModuleFolder). bytes_eq called (package_of f)) (package_folders names) folder there in
        (passed.0, sym ((bytes_eq-Decides called (package_of folder)).0 passed.1))

    kept_there : (filing : Filing) → Contains owned filing → filing.under ≡ called → (one : Filing) × Contains (kept owned called)
        one × (one.name ≡ filing.name)
    kept_there filing there is =
        elim (cases_Bool (skipped owned filing)) [
          | inl skip ↦
              let twin = is_filed_from (full filing) owned (and_parts filing.mark (is_filed (full filing) owned) skip).1 in (
                full filing,
                contains_filter (λ f. not (skipped owned f)) (filed_under called owned) (full filing)
                    (filed_there called owned (full filing) twin is) refl,
                refl,
              )
          | inr keep ↦ (
            filing,
            contains_filter (λ f. not (skipped owned f)) (filed_under called owned) filing
                (filed_there called owned filing there is) (ap not keep),
            refl,
          )
        ]

    kept_same : SameElements (map (λ (f : ModuleFolder). f.module) (folders_called names called)) (map (λ (f : Filing). f.name)
        (kept owned called))
    kept_same = record {
      has = λ home there.
          let folder = from_map (λ (f : ModuleFolder). f.module) (folders_called names called) home there in
          let of_package = folder_of_package folder.0 folder.1 in
          let one = kept_there (package_filing table (Found folder.0)) (owned_there folder.0 of_package.0) of_package.1 in
          subst (Contains (map (λ (f : Filing). f.name) (kept owned called))) (one.2 ∙ folder.2)
          (contains_map (λ (f : Filing). f.name) (kept owned called) one.0 one.1);
      only = λ home there.
          let filing = from_map (λ (f : Filing). f.name) (kept owned called) home there in
          let from = kept_from filing.0 filing.1 in
          let folder = owned_from filing.0 from.0 in
          subst (Contains (map (λ (f : ModuleFolder). f.module) (folders_called names called))) (ap (λ (f : Filing). f.name)
          folder.2 ∙ filing.2)
          (contains_map (λ (f : ModuleFolder). f.module) (folders_called names called) folder.0
          (contains_filter (λ (f : ModuleFolder). bytes_eq called (package_of f)) (package_folders names) folder.0 folder.1
          ((bytes_eq-Decides called (package_of folder.0)).1 (sym (ap (λ (f : Filing). f.under) folder.2 ∙ from.1)))));
    }

    -- a folder of the package in the module that has a resource in itself
    abbrev has_full : List ℕ → Bool
    has_full home = list_any (λ (folder : ModuleFolder). bytes_eq home folder.module && list_any (λ name. stands_in name folder)
        names) (folders_called names called)

    flag : (filing : Filing) → Contains (kept owned called) filing → filing.mark ≡ not (has_full filing.name)
    flag filing there =
        let from = kept_from filing there in
        let folder = owned_from filing from.0 in
        let mark : filing.mark ≡ not (list_any (λ name. stands_in name folder.0) names) = sym (ap (λ (f : Filing). f.mark) folder.2)
        ∙ bare folder.0 (among folder.0 folder.1) in
        elim (cases_Bool (has_full filing.name)) [
          | inr none ↦
              elim (cases_Bool (list_any (λ name. stands_in name folder.0) names)) [
                | inr bare_one ↦ mark ∙ ap not bare_one ∙ ap not (sym none)
                | inl some ↦
                    let in_package = contains_filter (λ (f : ModuleFolder). bytes_eq called (package_of f)) (package_folders names)
                    folder.0 folder.1
                    ((bytes_eq-Decides called (package_of folder.0)).1 (sym (ap (λ (f : Filing). f.under) folder.2 ∙ from.1)))
                    in
                    absurd (false≢true (sym none ∙ any_contains (λ (f : ModuleFolder). bytes_eq filing.name f.module && list_any
                    (λ name. stands_in name f) names) (folders_called names called) folder.0 in_package
                    (both_true (bytes_eq filing.name folder.0.module) (list_any (λ name. stands_in name folder.0) names)
                    ((bytes_eq-Decides filing.name folder.0.module).1 (sym (ap (λ (f : Filing). f.name) folder.2))) some)))
              ]
          | inl some ↦
              elim (cases_Bool filing.mark) [
                | inr plain ↦ plain ∙ ap not (sym some)
                | inl marked ↦
                    let other = from_any (λ (f : ModuleFolder). bytes_eq filing.name f.module && list_any (λ name. stands_in name f)
                    names) (folders_called names called) some in
                    let parts = and_parts (bytes_eq filing.name other.0.module) (list_any (λ name. stands_in name other.0) names) other.2 in
                    let of_package = folder_of_package other.0 other.1 in
                    let twin : package_filing table (Found other.0) ≡ full filing = λ i. record {
                      under = (of_package.1 ∙ sym from.1) i;
                      name = sym ((bytes_eq-Decides filing.name other.0.module).0 parts.0) i;
                      mark = (bare other.0 (among other.0 of_package.0) ∙ ap not parts.1) i;
                    }
                    in
                    absurd (false≢true (sym (from.2 marked) ∙ is_filed_there (full filing) owned (subst (Contains owned) twin
                    (owned_there other.0 of_package.0))))
              ]
        ]

    pub owners_same : owners_of owned called ≡ owners names called
    owners_same =
        flat_alone (skipped owned) (λ (f : Filing). record { empty = f.mark; «module» = f.name }) (filed_under called owned)
        ∙ map_same (λ (f : Filing). record { empty = f.mark; «module» = f.name }) (λ (f : Filing). record {
          empty =
              is_empty_in names called f.name;
          «module» = f.name;
        }) (kept owned called)
        (λ filing there. λ i. record { empty = flag filing there i; «module» = filing.name })
        ∙ sym (mapped_twice (λ home. record { empty = is_empty_in names called home; «module» = home }) (λ (f : Filing). f.name)
        (kept owned called))
        ∙ ap (map (λ home. record { empty = is_empty_in names called home; «module» = home }))
        (rising_only (map (λ (f : ModuleFolder). f.module) (folders_called names called)) (map (λ (f : Filing). f.name)
        (kept owned called)) kept_rises kept_same.has kept_same.only)
