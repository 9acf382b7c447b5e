-- The slots that are kept, and the pool that they make.
use Rattle.std.proofs.Common.{◌≡◌, ℕ, zero, suc, ◌+◌, ◌-◌, ◌^◌, ◌<◌, ◌≤◌, Bool, true, false, ◌&&◌, List, []}
use Rattle.std.proofs.Common.{◌∷◌, cond, filter, get_or, length, map, Some, option_map, option_and_then, slice_get}
use Rattle.std.proofs.Common.{refl, sym, ap, ◌∙◌, arith, Contains, ◌⊎◌, inl, inr, is_some}
use Rattle.std.proofs.lemmas.Bool.{eqb-true, or_right}
use Rattle.std.proofs.lemmas.List.{length-map}
use Rattle.std.proofs.lemmas.Option.{slice_get-get_or, slice_get-map, slice_get_within}
use Rattle.std.specs.List.{list_all}
use Rattle.std.specs.Prelude.{nat_eq, slice_index_or}
use Rattle.jm_class.specs.Classes.{SlotData, Constant, Hole, IsPoolFrom, is_wide, slot_at, utf8_of, utf8_at}
use Rattle.jm_poolmap.specs.declared.site.FoundSite.{FoundSite}
use Rattle.jm_poolmap.specs.Live.{first_number, number_of}
use Rattle.jm_poolmap.specs.Sites.{named_by, rank_of, rank_at, names_lower, names_constant}
use Rattle.jm_poolmap.proofs.ComputedLiveLaws.{slot_of_number, slot_at-place, no_hole}
use Rattle.jm_compact.specs.Compact.{kept_before, new_number, renamed, kept, compact_pool}
use Rattle.jm_compact.proofs.NewNumbers.{kept_before-next, new_number-at, new_number-some}
use Rattle.jm_compact.proofs.Shapes.{fits_renumbered, renamed_utf8}

-- Slots and numbers

-- the number of a constant whose flag is up
pub record IsKept (pool : List SlotData) (flags : List Bool) (i : ℕ) : Type 0 where
  pub tag : ℕ
  pub body : List ℕ
  pub is : slot_at pool i ≡ Some (Constant tag body)
  pub up : slice_index_or flags (i - 1) false ≡ true

-- the slot of a number is within the pool
pub number_within : (pool : List SlotData) (i : ℕ) (slot : SlotData) → slot_at pool i ≡ Some slot → (0 < i) × (i ≤ length pool)
number_within pool i slot is =
    let there = slot_of_number pool i slot is in
    let some = there.0 in
    let within = slice_get_within pool (i - 1) slot there.1 in
    (some, omega (arith, some, within))

-- Flags

-- a hole has the flag of the slot before it
abbrev pub HolesFollow : Bool → List SlotData → List Bool → Type 0
HolesFollow before pool flags = (place : ℕ) → slice_get pool place ≡ Some Hole → get_or flags place false
    ≡ get_or (before ∷ flags) place false

-- flags that keep each hole with its constant, and with a constant all that it names
pub record IsClosed (slots : List SlotData) (flags : List Bool) : Type 0 where
  pub pool : IsPoolFrom false slots
  pub few : length slots < 2 ^ 16
  pub lower : list_all (names_lower slots) slots ≡ true
  pub size : length flags ≡ length slots
  pub holes : HolesFollow false slots flags
  pub names : (i : ℕ) (kept_i : IsKept slots flags i) (k : ℕ) → Contains (named_by (Constant kept_i.tag kept_i.body)) k
      → IsKept slots flags k

-- Items that are kept

pub kept_there : {A : Type 0} (flags : List Bool) (items : List A) (place : ℕ) (item : A) → slice_get items place ≡ Some item
    → get_or flags place false ≡ true → slice_get (kept flags items) (kept_before flags place) ≡ Some item
kept_there [] items place item is up = cc
kept_there (flag ∷ flags) [] place item is up = cc
kept_there (true ∷ flags) (x ∷ items) zero item is up = is
kept_there (false ∷ flags) (x ∷ items) zero item is up = cc
kept_there (true ∷ flags) (x ∷ items) (suc place) item is up = kept_there flags items place item is up
kept_there (false ∷ flags) (x ∷ items) (suc place) item is up = kept_there flags items place item is up

-- an item that is kept, with its place among all
pub record KeptFrom {A : Type 0} (flags : List Bool) (items : List A) (place : ℕ) (item : A) : Type 0 where
  pub from : ℕ
  pub is : slice_get items from ≡ Some item
  pub up : get_or flags from false ≡ true
  pub before : kept_before flags from ≡ place

pub kept_from : {A : Type 0} (flags : List Bool) (items : List A) (place : ℕ) (item : A) → slice_get (kept flags items) place
    ≡ Some item → KeptFrom flags items place item
kept_from [] items place item is = cc
kept_from (flag ∷ flags) [] place item is = cc
kept_from (true ∷ flags) (x ∷ items) zero item is = record { from = 0; is = is; up = refl; before = refl }
kept_from (true ∷ flags) (x ∷ items) (suc place) item is =
    let rest = kept_from flags items place item is in
    record { from = suc rest.from; is = rest.is; up = rest.up; before = ap (λ n. suc n) rest.before }
kept_from (false ∷ flags) (x ∷ items) place item is =
    let rest = kept_from flags items place item is in
    record { from = suc rest.from; is = rest.is; up = rest.up; before = rest.before }

-- as many are kept as flags are up
length-kept : {A : Type 0} (flags : List Bool) (items : List A) → length flags ≡ length items → length (kept flags items)
    ≡ length (filter (λ flag. flag) flags)
length-kept [] [] size = refl
length-kept [] (x ∷ items) size = absurd (omega (arith, size))
length-kept (flag ∷ flags) [] size = absurd (omega (arith, size))
length-kept (true ∷ flags) (x ∷ items) size = ap suc (length-kept flags items (omega (arith, size)))
length-kept (false ∷ flags) (x ∷ items) size = length-kept flags items (omega (arith, size))

-- all are kept
pub kept_all : {A : Type 0} (flags : List Bool) (items : List A) → length flags ≡ length items → ((place : ℕ) → place < length flags
    → get_or flags place false ≡ true) → kept flags items ≡ items
kept_all [] [] size all = refl
kept_all [] (x ∷ items) size all = absurd (omega (arith, size))
kept_all (flag ∷ flags) [] size all = absurd (omega (arith, size))
kept_all (true ∷ flags) (x ∷ items) size all = ap (λ t. x ∷ t) (kept_all flags items (omega (arith, size))
    (λ place below. all (suc place) (omega (arith, below))))
kept_all (false ∷ flags) (x ∷ items) size all = let first : ◌≡◌ {A = Bool} false true = all 0 (omega arith) in cc

-- The pool of kept slots

pub length-compact : (flags : List Bool) (pool : List SlotData) → length flags ≡ length pool → length (compact_pool flags pool)
    ≡ length (filter (λ flag. flag) flags)
length-compact flags pool size = length-map (kept flags pool) (renamed (new_number flags)) ∙ length-kept flags pool size

-- it is a pool, whatever the new numbers are
pool_kept : (new : ℕ → ℕ) (due before : Bool) (flags : List Bool) (pool : List SlotData) → length flags ≡ length pool
    → IsPoolFrom due pool → HolesFollow before pool flags → IsPoolFrom (before && due) (map (renamed new) (kept flags pool))
pool_kept new due before [] (slot ∷ pool) size is follow = absurd (omega (arith, size))
pool_kept new due before (flag ∷ flags) [] size is follow = absurd (omega (arith, size))
pool_kept new true before (flag ∷ flags) (Constant tag body ∷ pool) size is follow = absurd is
pool_kept new false before (flag ∷ flags) (Hole ∷ pool) size is follow = absurd is
pool_kept new due true [] [] size is follow = is
pool_kept new due false [] [] size is follow = refl
pool_kept new true before (flag ∷ flags) (Hole ∷ pool) size is follow = go flag before (follow 0 refl)
    (pool_kept new false flag flags pool (omega (arith, size)) is (λ place. follow (suc place)))
  where
    go : (flag before : Bool) → flag ≡ before → IsPoolFrom (flag && false) (map (renamed new) (kept flags pool))
        → IsPoolFrom (before && true) (map (renamed new) (kept (flag ∷ flags) (Hole ∷ pool)))
    go true true same rest = rest
    go false false same rest = rest
    go true false same rest = cc
    go false true same rest = cc
pool_kept new false before (flag ∷ flags) (Constant tag body ∷ pool) size is follow = go flag before
    (pool_kept new (is_wide tag) flag flags pool (omega (arith, size)) is.1 (λ place. follow (suc place)))
  where
    go : (flag before : Bool) → IsPoolFrom (flag && is_wide tag) (map (renamed new) (kept flags pool))
        → IsPoolFrom (before && false) (map (renamed new) (kept (flag ∷ flags) (Constant tag body ∷ pool)))
    go true true rest = (fits_renumbered new tag body is.0, rest)
    go true false rest = (fits_renumbered new tag body is.0, rest)
    go false true rest = rest
    go false false rest = rest

-- a constant stands before a hole
pub before_hole : (due : Bool) (pool : List SlotData) → IsPoolFrom due pool → (place : ℕ) → slice_get pool (suc place) ≡ Some Hole
    → (tag : ℕ) × (body : List ℕ) × (slice_get pool place ≡ Some (Constant tag body))
before_hole due [] is place there = cc
before_hole true (Constant t b ∷ pool) is place there = absurd is
before_hole false (Hole ∷ pool) is place there = absurd is
before_hole false (Constant t b ∷ pool) is zero there = (t, b, refl)
before_hole false (Constant t b ∷ pool) is (suc place) there = before_hole (is_wide t) pool is.1 place there
before_hole true (Hole ∷ []) is zero there = cc
before_hole true (Hole ∷ Hole ∷ pool) is zero there = absurd is
before_hole true (Hole ∷ Constant t b ∷ pool) is zero there = cc
before_hole true (Hole ∷ pool) is (suc place) there = before_hole false pool is place there

-- Constants in it

module _ (pool : List SlotData) (flags : List Bool) where
  pub kept_pool : IsClosed pool flags → IsPoolFrom false (compact_pool flags pool)
  kept_pool closed = pool_kept (new_number flags) false false flags pool closed.size closed.pool closed.holes

  pub kept_slot : (i : ℕ) (kept_i : IsKept pool flags i) → slot_at (compact_pool flags pool) (new_number flags i)
      ≡ Some (renamed (new_number flags) (Constant kept_i.tag kept_i.body))
  kept_slot i kept_i =
      let there = slot_of_number pool i (Constant kept_i.tag kept_i.body) kept_i.is in
      let number : new_number flags i ≡ kept_before flags (i - 1) + 1 = (let one = new_number-some flags i there.0 in omega (arith, one)) in
      ap (slot_at (compact_pool flags pool)) number
      ∙ slot_at-place (compact_pool flags pool) (kept_before flags (i - 1))
      ∙ slice_get-map (renamed (new_number flags)) (kept flags pool) (kept_before flags (i - 1))
      ∙ ap (option_map (renamed (new_number flags))) (kept_there flags pool (i - 1) (Constant kept_i.tag kept_i.body) there.1 kept_i.up)

  pub kept_rank : (i : ℕ) → IsKept pool flags i → rank_at (compact_pool flags pool) (new_number flags i) ≡ rank_at pool i
  kept_rank i kept_i = ap (option_and_then rank_of) (kept_slot i kept_i) ∙ sym (ap (option_and_then rank_of) kept_i.is)

  -- a site with the new number passes its check
  pub site_again : (f g : FoundSite) → names_constant pool f ≡ true → (f.number ≡ 0) ⊎ IsKept pool flags f.number
      → g.optional ≡ f.optional → g.number ≡ new_number flags f.number → names_constant (compact_pool flags pool) g ≡ true
  site_again f g checked (inl none) optional number =
      let zero_new : g.number ≡ 0 = number ∙ ap (new_number flags) none in
      let same : names_constant (compact_pool flags pool) g ≡ names_constant pool f = rw (optional, zero_new, none) refl in
      same ∙ checked
  site_again f g checked (inr kept_f) optional number =
      or_right (g.optional && nat_eq g.number 0) (is_some (rank_at (compact_pool flags pool) g.number))
      (ap (λ n. is_some (rank_at (compact_pool flags pool) n)) number ∙ ap is_some (kept_rank f.number kept_f)
      ∙ ap (λ o. is_some (option_and_then rank_of o)) kept_f.is)

  pub kept_utf8 : (i : ℕ) → IsKept pool flags i → utf8_at (compact_pool flags pool) (new_number flags i) ≡ utf8_at pool i
  kept_utf8 i kept_i =
      ap (option_and_then utf8_of) (kept_slot i kept_i)
      ∙ go (nat_eq kept_i.tag 1) refl
      ∙ sym (ap (option_and_then utf8_of) kept_i.is)
    where
      go : (b : Bool) → nat_eq kept_i.tag 1 ≡ b → utf8_of (renamed (new_number flags) (Constant kept_i.tag kept_i.body))
          ≡ utf8_of (Constant kept_i.tag kept_i.body)
      go true e =
          let same = eqb-true kept_i.tag 1 e in
          ap (λ t. utf8_of (renamed (new_number flags) (Constant t kept_i.body))) same
          ∙ ap utf8_of (renamed_utf8 (new_number flags) kept_i.body) ∙ sym (ap (λ t. utf8_of (Constant t kept_i.body)) same)
      go false e = rw e refl

  -- the constant of a place
  abbrev pub kept_here : (place tag : ℕ) (body : List ℕ) → slice_get pool place ≡ Some (Constant tag body)
      → get_or flags place false ≡ true → IsKept pool flags (place + 1)
  kept_here place tag body is up =
      let back : (place + 1) - 1 ≡ place = omega arith in
      record { tag = tag; body = body; is = slot_at-place pool place ∙ is; up = ap (λ p. slice_index_or flags p false) back ∙ up }

  -- each slot of the new pool is that of a kept constant, or the hole after one
  pub kept_place : IsClosed pool flags → (place : ℕ) → place < length (compact_pool flags pool)
      → (i : ℕ) × IsKept pool flags i × (number_of (compact_pool flags pool) place ≡ new_number flags i)
  kept_place closed place below = go (get_or (kept flags pool) place Hole) (slice_get-get_or (kept flags pool) place Hole
      (let same = length-map (kept flags pool) (renamed (new_number flags)) in omega (arith, below, same)))
    where
      -- the slot in the new pool
      slot_there : (slot : SlotData) → slice_get (kept flags pool) place ≡ Some slot → slice_get (compact_pool flags pool) place
          ≡ Some (renamed (new_number flags) slot)
      slot_there slot there = slice_get-map (renamed (new_number flags)) (kept flags pool) place
          ∙ ap (option_map (renamed (new_number flags))) there

      of_hole : slice_get (kept flags pool) place ≡ Some Hole → (n : ℕ) → slice_get pool n ≡ Some Hole → get_or flags n false ≡ true
          → kept_before flags n ≡ place → (i : ℕ) × IsKept pool flags i × (number_of (compact_pool flags pool) place ≡ new_number flags i)
      of_hole there zero is_hole up before = absurd (no_hole pool closed.pool is_hole)
      of_hole there (suc n) is_hole up before =
          let one = before_hole false pool closed.pool n is_hole in
          let up_before = sym (closed.holes (suc n) is_hole) ∙ up in
          let number = ap (λ o. first_number o place) (slot_there Hole there) in
          let new = new_number-at flags n in
          let more = kept_before-next flags n ∙ ap (λ b. kept_before flags n + cond b 1 0) up_before in
          (n + 1, kept_here n one.0 one.1 one.2 up_before, omega (arith, number, new, more, before))

      go : (slot : SlotData) → slice_get (kept flags pool) place ≡ Some slot → (i : ℕ) × IsKept pool flags i
          × (number_of (compact_pool flags pool) place ≡ new_number flags i)
      go (Constant tag body) there =
          let from = kept_from flags pool place (Constant tag body) there in
          let number = ap (λ o. first_number o place) (slot_there (Constant tag body) there) in
          let new = new_number-at flags from.from in
          let before = from.before in
          (from.from + 1, kept_here from.from tag body from.is from.up, omega (arith, number, new, before))
      go Hole there = let from = kept_from flags pool place Hole there in of_hole there from.from from.is from.up from.before
