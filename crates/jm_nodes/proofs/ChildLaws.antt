-- The children of modules and folders are those of the table.
use Rattle.std.proofs.Common.{◌≡◌, ℕ, suc, ◌+◌, ◌-◌, ◌<◌, ◌⊎◌, inl, inr, Bool, true, false, cond, not, ◌||◌}
use Rattle.std.proofs.Common.{List, [], ◌∷◌, ◌++◌, length, map, take, drop, get_or, Contains, refl, sym, ap}
use Rattle.std.proofs.Common.{◌∙◌, subst, append_assoc, arith}
use Rattle.std.specs.Prelude.{codes, filter}
use Rattle.std.specs.List.{before_last, flat_map, list_any, suffix_len}
use Rattle.std.specs.Str.{bytes_eq}
use Rattle.std.specs.declared.cmp.Ordering.TheVariants.{Less}
use Rattle.std.specs.Cmp.Lexicographic.{nat_list_cmp_total}
use Rattle.std.proofs.lemmas.Bool.{cases_Bool, eqb-true, false≢true}
use Rattle.std.proofs.lemmas.List.{get_or-append_right, get_or_at, length-append, take_at}
use Rattle.std.proofs.lemmas.List.Elements.{Contains-append_left, Contains-append_right, Contains-append_cases}
use Rattle.std.proofs.lemmas.List.Folds.{list_any_at}
use Rattle.std.proofs.lemmas.List.Kept.{AllPairs-filter}
use Rattle.std.proofs.lemmas.List.Sums.{suffix_len_is}
use Rattle.std.proofs.lemmas.Slice.Eq.{bytes_eq-Decides}
use Rattle.jm_bytes.proofs.Members.{any_contains, contains_filter, contains_here, contains_later}
use Rattle.jm_bytes.proofs.Members.{contains_map, from_any, from_filter, from_map}
use Rattle.jm_bytes.proofs.Pairs.{pairs_among, pairs_map}
use Rattle.jm_bytes.proofs.SameOrder.{mapped_twice, same_order}
use Rattle.jm_names.specs.Names.{is_slash}
use Rattle.jm_form.specs.Trees.{children, entry_name, fronts, inner_nodes, is_child, tree_place, tree_places}
use Rattle.jm_nodes.specs.Filings.{filed_under, filing_cmp, FilesAll, Filing}
use Rattle.jm_nodes.specs.FrontTrees.{child_filing, child_filings, children_of, entry_of}
use Rattle.jm_nodes.specs.Order.{SameElements}
use Rattle.jm_nodes.proofs.FilingLaws.{filed_before, filed_from}
use Rattle.jm_nodes.proofs.FolderLaws.{front_of, inner_from, inner_there}
use Rattle.jm_nodes.proofs.OrderLaws.{strict}
use Rattle.jm_form.proofs.RisingLaws.{contains_rising, from_rising, rising_rises, Before}
use Rattle.jm_nodes.proofs.SoundLaws.{IsCut}

-- Cut at the last slash

-- a text is what stands before its last slash, and behind that no slash
pub record LastSlash (text : List ℕ) : Type 0 where
  pub front : List ℕ
  pub after : List ℕ
  pub whole : text ≡ front ++ 47 ∷ after
  pub plain : list_any is_slash after ≡ false

pub last_slash : (text : List ℕ) → list_any is_slash text ≡ true → LastSlash text
last_slash [] some = absurd (false≢true some)
last_slash (b ∷ text) some =
    elim (cases_Bool (list_any is_slash text)) [
      | inl later ↦
          let rest = last_slash text later in
          record { front = b ∷ rest.front; after = rest.after; whole = ap (λ t. b ∷ t) rest.whole; plain = rest.plain }
      | inr none ↦ record {
        front = [];
        after = text;
        whole =
            ap (λ x. x ∷ text) (eqb-true b 47 (here (is_slash b) (list_any is_slash text) some none));
        plain = none;
      }
    ]
  where
    here : (a c : Bool) → (a || c) ≡ true → c ≡ false → a ≡ true
    here true c e none = refl
    here false c e none = absurd (false≢true (sym none ∙ e))

pub before_last_slash : (front after : List ℕ) → list_any is_slash after ≡ false → before_last is_slash (front ++ 47 ∷ after) ≡ front
before_last_slash front after plain =
    let text : List ℕ = front ++ 47 ∷ after in
    let long = length-append front (47 ∷ after) in
    let tail = suffix_len_is (λ x. not (is_slash x)) text (length front + 1) 0 (omega arith)
    (λ k low below.
    let read = get_or-append_right front (47 ∷ after) (length front) k 0 refl (omega arith) in
    let place : k - length front ≡ suc (k - length front - 1) = omega arith in
    ap not (ap is_slash (read ∙ ap (λ n. get_or (47 ∷ after) n 0) place) ∙ fails (k - length front - 1) (omega arith)))
    (λ _. let next : length front + 1 - 1 ≡ length front = omega arith in
    ap (λ n. not (is_slash (get_or text n 0))) next ∙ ap (λ x. not (is_slash x)) (get_or_at front 47 after 0 (length front) refl))
    in
    let at : length text - suffix_len (λ x. not (is_slash x)) text - 1 ≡ length front = omega arith in
    ap (λ n. take n text) at ∙ take_at front (47 ∷ after) (length front) refl
  where
    fails : (k : ℕ) → k < length after → is_slash (get_or after k 0) ≡ false
    fails k below =
        elim (cases_Bool (is_slash (get_or after k 0))) [
          | inl some ↦ absurd (false≢true (sym plain ∙ list_any_at is_slash after k 0 below some))
          | inr none ↦ none
        ]

-- what is put in front of a text is put in front of what stands before its last slash
pub before_last_behind : (front text : List ℕ) → list_any is_slash text ≡ true → before_last is_slash (front ++ text)
    ≡ front ++ before_last is_slash text
before_last_behind front text some =
    let last = last_slash text some in
    ap (λ t. before_last is_slash (front ++ t)) last.whole
    ∙ ap (before_last is_slash) (sym (append_assoc front last.front (47 ∷ last.after)))
    ∙ before_last_slash (front ++ last.front) last.after last.plain
    ∙ ap (λ t. front ++ t) (sym (before_last_slash last.front last.after last.plain) ∙ ap (before_last is_slash) (sym last.whole))

-- Members of the table

pub map_same : {X Y : Type 0} (f g : X → Y) (xs : List X) → ((x : X) → Contains xs x → f x ≡ g x) → map f xs ≡ map g xs
map_same f g [] same = refl
map_same f g (x ∷ xs) same = ap (λ y. y ∷ map f xs) (same x (contains_here x xs))
    ∙ ap (λ ys. g x ∷ ys) (map_same f g xs (λ y there. same y (contains_later x xs y there)))

abbrev place : Filing → List ℕ
place child = codes "/modules" ++ child.name

module _ (names listed risen : List (List ℕ)) (table : List Filing) (cut : (name : List ℕ) → Contains names name → IsCut name)
    (same_names : SameElements names listed) (same_fronts : SameElements (flat_map fronts names) risen)
    (files : FilesAll (child_filings listed risen) table) where
  pub child_cases : (child : Filing) → Contains table child
      → ((name : List ℕ) × Contains names name × (child_filing false name ≡ child))
      ⊎ ((front : List ℕ) × Contains (flat_map fronts names) front × (child_filing true front ≡ child))
  child_cases child there =
      elim (Contains-append_cases (map (child_filing false) listed) (map (child_filing true) risen) child (files.same.only child there)) [
        | inl resource ↦
            let from = from_map (child_filing false) listed child resource in inl (from.0, same_names.only from.0 from.1, from.2)
        | inr folder ↦ let from = from_map (child_filing true) risen child folder in inr (from.0, same_fronts.only from.0 from.1, from.2)
      ]

  pub resource_filed : (name : List ℕ) → Contains names name → Contains table (child_filing false name)
  resource_filed name there =
      files.same.has (child_filing false name)
      (Contains-append_left (map (child_filing false) listed) (map (child_filing true) risen) (child_filing false name)
      (contains_map (child_filing false) listed name (same_names.has name there)))

  pub folder_filed : (front : List ℕ) → Contains (flat_map fronts names) front → Contains table (child_filing true front)
  folder_filed front there =
      files.same.has (child_filing true front)
      (Contains-append_right (map (child_filing false) listed) (map (child_filing true) risen) (child_filing true front)
      (contains_map (child_filing true) risen front (same_fronts.has front there)))

  -- all begin with a slash
  name_slash : (name : List ℕ) → Contains names name → list_any is_slash name ≡ true
  name_slash name there = ap (list_any is_slash) (cut name there).whole

  front_slash : (front : List ℕ) → Contains (flat_map fronts names) front → list_any is_slash front ≡ true
  front_slash front there =
      elim (front_of names cut front there) [
        | inl of_module ↦ ap (list_any is_slash) of_module.2
        | inr of_folder ↦ ap (list_any is_slash) of_folder.2
      ]

  child_slash : (child : Filing) → Contains table child → (list_any is_slash child.name ≡ true)
      × (child.under ≡ before_last is_slash child.name)
  child_slash child there =
      elim (child_cases child there) [
        | inl resource ↦ subst (λ (c : Filing). (list_any is_slash c.name ≡ true) × (c.under ≡ before_last is_slash c.name))
            resource.2 (name_slash resource.0 resource.1, refl)
        | inr folder ↦ subst (λ (c : Filing). (list_any is_slash c.name ≡ true) × (c.under ≡ before_last is_slash c.name)) folder.2
            (front_slash folder.0 folder.1, refl)
      ]

  child_at : (front name : List ℕ) → list_any is_slash name ≡ true → is_child (codes "/modules" ++ front) (codes "/modules" ++ name)
      ≡ bytes_eq front (before_last is_slash name)
  child_at front name some = ap (bytes_eq (codes "/modules" ++ front)) (before_last_behind (codes "/modules") name some)

  place_there : (child : Filing) → Contains table child → Contains (tree_places names) (place child)
  place_there child there =
      contains_rising (inner_nodes names ++ map tree_place names) (place child)
      (elim (child_cases child there) [
        | inl resource ↦
            subst (λ (c : Filing). Contains (inner_nodes names ++ map tree_place names) (place c)) resource.2
            (Contains-append_right (inner_nodes names) (map tree_place names) (tree_place resource.0) (contains_map tree_place names
            resource.0 resource.1))
        | inr folder ↦
            subst (λ (c : Filing). Contains (inner_nodes names ++ map tree_place names) (place c)) folder.2
            (Contains-append_left (inner_nodes names) (map tree_place names) (codes "/modules" ++ folder.0)
            (inner_there names cut folder.0 folder.1))
      ])

  place_from : (x : List ℕ) → Contains (tree_places names) x → (child : Filing) × Contains table child × (place child ≡ x)
  place_from x there =
      elim (Contains-append_cases (inner_nodes names) (map tree_place names) x
      (from_rising (inner_nodes names ++ map tree_place names) x there)) [
        | inl inner ↦ let from = inner_from names cut x inner in (child_filing true from.0, folder_filed from.0 from.1, from.2)
        | inr resource ↦
            let from = from_map tree_place names x resource in (child_filing false from.0, resource_filed from.0 from.1, from.2)
      ]

  module _ (apart : (name : List ℕ) → Contains names name → Contains (flat_map fronts names) name → ⊥) (front : List ℕ) where
    -- only a folder has the mark
    marks : (a b : Filing) → Contains table a → Contains table b → a.name ≡ b.name → a.mark ≡ false → b.mark ≡ true → ⊥
    marks a b in_a in_b same plain mark =
        elim (child_cases a in_a) [
          | inr folder ↦ false≢true (sym plain ∙ sym (ap (λ (f : Filing). f.mark) folder.2))
          | inl resource ↦
              elim (child_cases b in_b) [
                | inl other ↦ false≢true (ap (λ (f : Filing). f.mark) other.2 ∙ mark)
                | inr folder ↦
                    let one : resource.0 ≡ folder.0 = ap (λ (f : Filing). f.name) resource.2 ∙ same
                    ∙ sym (ap (λ (f : Filing). f.name) folder.2) in
                    apart resource.0 resource.1 (subst (Contains (flat_map fronts names)) (sym one) folder.1)
              ]
        ]

    rises : (a b : Filing) → Contains (filed_under front table) a → Contains (filed_under front table) b → filing_cmp a b ≡ Less
        → Before (place a) (place b)
    rises a b in_a in_b less =
        let left = filed_from front table a in_a in
        let right = filed_from front table b in_b in
        elim (filed_before a b (left.1 ∙ sym right.1) less) [
          | inl before ↦ before
          | inr same ↦ absurd (marks a b left.0 right.0 same.0 same.1 same.2)
        ]

    places : map place (filed_under front table) ≡ filter (is_child (codes "/modules" ++ front)) (tree_places names)
    places =
        same_order Before (strict nat_list_cmp_total) (map place (filed_under front table))
        (filter (is_child (codes "/modules" ++ front)) (tree_places names))
        (pairs_map Before place (filed_under front table)
        (pairs_among (λ a b. filing_cmp a b ≡ Less) (λ a b. Before (place a) (place b)) (filed_under front table) rises
        (AllPairs-filter (λ a b. filing_cmp a b ≡ Less) (λ (f : Filing). bytes_eq f.under front) table files.ordered)))
        (AllPairs-filter Before (is_child (codes "/modules" ++ front)) (tree_places names)
        (rising_rises (inner_nodes names ++ map tree_place names)))
        (λ x there.
        let from = from_map place (filed_under front table) x there in
        let under = filed_from front table from.0 from.1 in
        let slash = child_slash from.0 under.0 in
        subst (Contains (filter (is_child (codes "/modules" ++ front)) (tree_places names))) from.2
        (contains_filter (is_child (codes "/modules" ++ front)) (tree_places names) (place from.0) (place_there from.0 under.0)
        (child_at front from.0.name slash.0 ∙ (bytes_eq-Decides front (before_last is_slash from.0.name)).1 (sym under.1 ∙ slash.1))))
        (λ x there.
        let passed = from_filter (is_child (codes "/modules" ++ front)) (tree_places names) x there in
        let from = place_from x passed.0 in
        let slash = child_slash from.0 from.1 in
        let test : bytes_eq front (before_last is_slash from.0.name) ≡ true = sym (child_at front from.0.name slash.0)
        ∙ ap (is_child (codes "/modules" ++ front)) from.2 ∙ passed.1 in
        let is : front ≡ from.0.under = (bytes_eq-Decides front (before_last is_slash from.0.name)).0 test ∙ sym slash.1 in
        subst (Contains (map place (filed_under front table))) from.2
        (contains_map place (filed_under front table) from.0
        (contains_filter (λ (f : Filing). bytes_eq f.under front) table from.0 from.1 ((bytes_eq-Decides from.0.under front).1 (sym is)))))

    entry : (child : Filing) → Contains table child → entry_of child ≡ entry_name names (place child)
    entry child there =
        elim (child_cases child there) [
          | inl resource ↦
              let known : list_any (λ name. bytes_eq (place child) (tree_place name)) names ≡ true =
              any_contains (λ name. bytes_eq (place child) (tree_place name)) names resource.0 resource.1
              ((bytes_eq-Decides (place child) (tree_place resource.0)).1 (sym (ap place resource.2)))
              in
              ap (λ b. cond b (place child) child.name) (sym (ap (λ (f : Filing). f.mark) resource.2))
              ∙ ap (λ b. cond b (drop 8 (place child)) (place child)) (sym known)
          | inr folder ↦
              let none : list_any (λ name. bytes_eq (place child) (tree_place name)) names ≡ false = no_resource child folder.0
              folder.1 folder.2 in
              ap (λ b. cond b (place child) child.name) (sym (ap (λ (f : Filing). f.mark) folder.2))
              ∙ ap (λ b. cond b (drop 8 (place child)) (place child)) (sym none)
        ]
      where
        no_resource : (child : Filing) (inner : List ℕ) → Contains (flat_map fronts names) inner → child_filing true inner ≡ child
            → list_any (λ name. bytes_eq (place child) (tree_place name)) names ≡ false
        no_resource child inner there is =
            elim (cases_Bool (list_any (λ name. bytes_eq (place child) (tree_place name)) names)) [
              | inl some ↦
                  let name = from_any (λ name. bytes_eq (place child) (tree_place name)) names some in
                  let same : inner ≡ name.0 = ap (λ (f : Filing). f.name) is
                  ∙ ap (drop 8) ((bytes_eq-Decides (place child) (tree_place name.0)).0 name.2) in
                  absurd (apart name.0 name.1 (subst (Contains (flat_map fronts names)) same there))
              | inr none ↦ none
            ]

    pub children_same : children_of table front ≡ children names (codes "/modules" ++ front)
    children_same =
        map_same entry_of (λ child. entry_name names (place child)) (filed_under front table) (λ child there. entry child
        (filed_from front table child there).0)
        ∙ sym (mapped_twice (entry_name names) place (filed_under front table))
        ∙ ap (map (entry_name names)) places
