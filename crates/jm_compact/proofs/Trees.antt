-- The pool of kept slots says the same: ranks, names and trees carry over.
use Rattle.std.proofs.Common.{◌≡◌, ℕ, zero, suc, ◌+◌, ◌-◌, ◌⊎◌, inl, inr, Bool, true, false, List}
use Rattle.std.proofs.Common.{[], ◌∷◌, map, Option, Some, Contains, refl}
use Rattle.std.proofs.Common.{sym, ap, ◌∙◌, subst}
use Rattle.std.proofs.lemmas.List.Elements.{All-contains}
use Rattle.std.specs.List.{list_all}
use Rattle.jm_bytes.proofs.Choice.{same_some}
use Rattle.jm_bytes.proofs.Members.{contains_map, from_map}
use Rattle.jm_class.specs.Classes.{SlotData, Constant, Hole, FitsTag, slot_at}
use Rattle.jm_classout.specs.Fits.{FitsSlot}
use Rattle.jm_classout.proofs.ClassTexts.{slots_fit}
use Rattle.jm_poolmap.specs.Live.{Names, Leads}
use Rattle.jm_poolmap.specs.Sites.{rank, name_sites, named_by, rank_at, is_some_below, names_lower}
use Rattle.jm_poolmap.proofs.ComputedLiveLaws.{all_at, slot_contained, slot_of_number}
use Rattle.jm_compact.specs.Compact.{new_number, renamed, kept, compact_pool}
use Rattle.jm_compact.specs.Meaning.{slot_tree, tree}
use Rattle.jm_compact.specs.Pieces.{Piece, cut, put_for_all}
use Rattle.jm_compact.proofs.KeptSlots.{IsKept, IsClosed, kept_from, KeptFrom, kept_here, kept_slot, kept_rank}
use Rattle.jm_compact.proofs.Names.{all_from, contained_slot, named_fit}
use Rattle.jm_compact.proofs.NewNumbers.{new_number-small}
use Rattle.jm_compact.proofs.Shapes.{AllFitTwo, numbers, numbers-cut, cut-renumbered, renamed_names, put_same, put_twice}

abbrev tagged : {A : Type 0} → ℕ → List (Piece A) → Option (ℕ × List (Piece A))
tagged tag pieces = Some (tag, pieces)

-- what holds of a hole and of each kept constant with its new numbers holds of each slot of the new
-- pool
pub each_kept : (pool : List SlotData) (flags : List Bool) (P : SlotData → Type 0) → P Hole → ((i : ℕ) (kept_i : IsKept pool flags i)
    → P (renamed (new_number flags) (Constant kept_i.tag kept_i.body))) → (slot : SlotData) → Contains (compact_pool flags pool) slot
    → P slot
each_kept pool flags P hole constant slot there =
    let old = from_map (renamed (new_number flags)) (kept flags pool) slot there in
    let at = contained_slot (kept flags pool) old.0 old.1 in
    subst P old.2 (go at.0 old.0 (kept_from flags pool at.0 old.0 at.1))
  where
    go : (place : ℕ) (old : SlotData) → KeptFrom flags pool place old → P (renamed (new_number flags) old)
    go place Hole from = hole
    go place (Constant tag body) from = constant (from.from + 1) (kept_here pool flags from.from tag body from.is from.up)

module _ (pool : List SlotData) (flags : List Bool) (closed : IsClosed pool flags) where
  -- a constant of the pool fits its tag, and the new numbers that it names fit into two bytes
  pub fits_number : (i tag : ℕ) (body : List ℕ) → slot_at pool i ≡ Some (Constant tag body) → FitsTag tag body
  fits_number i tag body is = All-contains FitsSlot pool (Constant tag body) (slots_fit false pool closed.pool)
      (slot_contained pool (i - 1) (Constant tag body) (slot_of_number pool i (Constant tag body) is).1)

  pub fit_two : (i tag : ℕ) (body : List ℕ) → slot_at pool i ≡ Some (Constant tag body)
      → AllFitTwo (new_number flags) (named_by (Constant tag body))
  fit_two = named_fit pool closed.lower (new_number flags) (new_number-small flags) closed.few

  -- what a constant names anew
  new_names : (i tag : ℕ) (body : List ℕ) → slot_at pool i ≡ Some (Constant tag body)
      → named_by (renamed (new_number flags) (Constant tag body)) ≡ map (new_number flags) (named_by (Constant tag body))
  new_names i tag body is = renamed_names (new_number flags) tag body (fits_number i tag body is) (fit_two i tag body is)

  -- Ranks

  lower_slot : (i : ℕ) (kept_i : IsKept pool flags i)
      → names_lower (compact_pool flags pool) (renamed (new_number flags) (Constant kept_i.tag kept_i.body)) ≡ true
  lower_slot i kept_i =
      all_from (λ index. is_some_below (rank kept_i.tag) (rank_at (compact_pool flags pool) index))
      (named_by (renamed (new_number flags) constant)) each
    where
      constant : SlotData
      constant = Constant kept_i.tag kept_i.body

      each : (index : ℕ) → Contains (named_by (renamed (new_number flags) constant)) index
          → is_some_below (rank kept_i.tag) (rank_at (compact_pool flags pool) index) ≡ true
      each index there =
          let named = subst (λ ns. Contains ns index) (new_names i kept_i.tag kept_i.body kept_i.is) there in
          let old = from_map (new_number flags) (named_by constant) index named in
          let kept_old = closed.names i kept_i old.0 old.1 in
          let slot = slot_contained pool (i - 1) constant (slot_of_number pool i constant kept_i.is).1 in
          let all = all_at (names_lower pool) pool constant slot closed.lower in
          let one = all_at (λ n. is_some_below (rank kept_i.tag) (rank_at pool n)) (named_by constant) old.0 old.1 all in
          subst (λ n. is_some_below (rank kept_i.tag) (rank_at (compact_pool flags pool) n) ≡ true) old.2
          (ap (is_some_below (rank kept_i.tag)) (kept_rank pool flags old.0 kept_old) ∙ one)

  pub kept_lower : list_all (names_lower (compact_pool flags pool)) (compact_pool flags pool) ≡ true
  kept_lower = all_from (names_lower (compact_pool flags pool)) (compact_pool flags pool)
      (each_kept pool flags (λ slot. names_lower (compact_pool flags pool) slot ≡ true) refl lower_slot)

  -- Names

  kept_named : (i k : ℕ) → IsKept pool flags i → Names pool i k → IsKept pool flags k
  kept_named i k kept_i names =
      let same = same_some names.0 (Constant kept_i.tag kept_i.body) (sym names.1 ∙ kept_i.is) in
      closed.names i kept_i k (subst (λ s. Contains (named_by s) k) same names.2)

  kept_names : (i k : ℕ) → IsKept pool flags i → Names pool i k → Names (compact_pool flags pool) (new_number flags i)
      (new_number flags k)
  kept_names i k kept_i names =
      let same = same_some names.0 (Constant kept_i.tag kept_i.body) (sym names.1 ∙ kept_i.is) in
      let there = contains_map (new_number flags) (named_by (Constant kept_i.tag kept_i.body)) k
      (subst (λ s. Contains (named_by s) k) same names.2) in (
        renamed (new_number flags) (Constant kept_i.tag kept_i.body),
        kept_slot pool flags i kept_i,
        subst (λ ns. Contains ns (new_number flags k)) (sym (new_names i kept_i.tag kept_i.body kept_i.is)) there,
      )

  pub kept_leads : (i : ℕ) (between : List ℕ) (j : ℕ) → IsKept pool flags i → Leads pool i between j
      → Leads (compact_pool flags pool) (new_number flags i) (map (new_number flags) between) (new_number flags j)
  kept_leads i [] j kept_i leads = ap (new_number flags) leads
  kept_leads i (k ∷ between) j kept_i (names, leads) =
      (kept_names i k kept_i names, kept_leads k between j (kept_named i k kept_i names) leads)

  -- Trees

  pub kept_tree : (depth i : ℕ) → (i ≡ 0) ⊎ IsKept pool flags i → tree depth (compact_pool flags pool) (new_number flags i)
      ≡ tree depth pool i
  kept_tree zero i is = refl
  kept_tree (suc depth) i (inl none) = subst (λ n. tree (suc depth) (compact_pool flags pool) (new_number flags n)
      ≡ tree (suc depth) pool n) (sym none) refl
  kept_tree (suc depth) i (inr kept_i) =
      ap (slot_tree (tree depth (compact_pool flags pool))) (kept_slot pool flags i kept_i)
      ∙ ap (λ pieces. tagged kept_i.tag (put_for_all (tree depth (compact_pool flags pool)) pieces))
      (cut-renumbered (new_number flags) kept_i.tag kept_i.body (fits_number i kept_i.tag kept_i.body kept_i.is)
      (fit_two i kept_i.tag kept_i.body kept_i.is))
      ∙ ap (tagged kept_i.tag) (put_twice (new_number flags) (tree depth (compact_pool flags pool)) (cut (name_sites kept_i.tag) 0
      kept_i.body))
      ∙ ap (tagged kept_i.tag) (put_same (λ n. tree depth (compact_pool flags pool) (new_number flags n)) (tree depth pool)
      (cut (name_sites kept_i.tag) 0 kept_i.body) (λ n there. kept_tree depth n (inr (closed.names i kept_i n (named n there)))))
      ∙ sym (ap (slot_tree (tree depth pool)) kept_i.is)
    where
      named : (n : ℕ) → Contains (numbers (cut (name_sites kept_i.tag) 0 kept_i.body)) n
          → Contains (named_by (Constant kept_i.tag kept_i.body)) n
      named n there = subst (λ ns. Contains ns n) (numbers-cut kept_i.tag kept_i.body (fits_number i kept_i.tag kept_i.body
          kept_i.is)) there
