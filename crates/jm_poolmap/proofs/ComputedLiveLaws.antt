-- The flags after three rounds tell which constants are live.
use Rattle.std.proofs.Common.{◌≡◌, ℕ, zero, suc, ◌+◌, ◌-◌, ◌<◌, ◌≤◌, ◌↔◌, ◌⊎◌, inl, inr, Bool, true, false}
use Rattle.std.proofs.Common.{cond, List, [], ◌∷◌, ◌++◌, get_or, length, map, replicate, Option, Some, None}
use Rattle.std.proofs.Common.{Contains, refl, sym, ap, ◌∙◌, subst, arith, slice_get}
use Rattle.std.proofs.lemmas.Bool.{eqb-false, ltb-true, ne_eqb}
use Rattle.std.proofs.lemmas.List.{length-replicate}
use Rattle.std.proofs.lemmas.List.Elements.{All-contains}
use Rattle.std.proofs.lemmas.List.Sums.{AllPass-from_list_all}
use Rattle.std.proofs.lemmas.Option.{slice_get_within, get_or_from_slice_get}
use Rattle.std.specs.List.{list_all}
use Rattle.std.specs.Prelude.{nat_eq, option_and_then}
use Rattle.jm_bytes.proofs.Choice.{same_some}
use Rattle.jm_bytes.proofs.Members.{contains_none, element_at}
use Rattle.jm_class.specs.Classes.{SlotData, Constant, Hole, ClassData, IsPoolFrom, is_wide, slot_at, IsClass}
use Rattle.jm_poolmap.specs.declared.site.FoundSite.{FoundSite}
use Rattle.jm_poolmap.specs.ComputedLive.{with_marks, spread_from, flag_of, with_holes, flags_of}
use Rattle.jm_poolmap.specs.Live.{Names, Leads, IsLive, first_number, number_of, TellsLive}
use Rattle.jm_poolmap.specs.Sites.{rank, named_by, rank_of, rank_at, is_some_below, names_lower}
use Rattle.jm_poolmap.specs.Sites.{found_in}
use Rattle.jm_poolmap.proofs.MarkLaws.{IsUp, HasFlag, length-marks, marks_here, marks_from, length-round}
use Rattle.jm_poolmap.proofs.NamePlaces.{rank_within}
use Rattle.jm_poolmap.proofs.MarkLaws.{round_keeps, round_follows, round_sound}

-- Lists of constants

pub leads_on : (pool : List SlotData) (i : ℕ) (between : List ℕ) (j k : ℕ) → Leads pool i between j → Names pool j k
    → Leads pool i (between ++ k ∷ []) k
leads_on pool i [] j k same names = (subst (λ n. Names pool n k) (sym same) names, refl)
leads_on pool i (m ∷ between) j k leads names = (leads.0, leads_on pool m between j k leads.1 names)

-- one of some numbers leads to j
abbrev Led : List SlotData → List ℕ → ℕ → Type 0
Led pool numbers j = (i : ℕ) × (between : List ℕ) × Contains numbers i × Leads pool i between j

-- Ranks

pub all_at : {A : Type 0} (test : A → Bool) (xs : List A) (x : A) → Contains xs x → list_all test xs ≡ true → test x ≡ true
all_at test xs x there all = All-contains (λ y. test y ≡ true) xs x (AllPass-from_list_all test xs all) there

pub slot_contained : (pool : List SlotData) (place : ℕ) (slot : SlotData) → slice_get pool place ≡ Some slot → Contains pool slot
slot_contained pool place slot is = (place, slice_get_within pool place slot is, get_or_from_slice_get pool place slot slot is)

-- a number above 0 is that of a slot
pub slot_of_number : (pool : List SlotData) (i : ℕ) (slot : SlotData) → slot_at pool i ≡ Some slot → (0 < i)
    × (slice_get pool (i - 1) ≡ Some slot)
slot_of_number pool i slot is = go (nat_eq i 0) refl is
  where
    go : (b : Bool) → nat_eq i 0 ≡ b → cond b None (slice_get pool (i - 1)) ≡ Some slot → (0 < i) × (slice_get pool (i - 1) ≡ Some slot)
    go true e is = cc
    go false e is = (some, is)
      where
        some : 0 < i
        some = let differs = eqb-false i 0 e in omega (arith, differs)

pub slot_at-place : (pool : List SlotData) (place : ℕ) → slot_at pool (place + 1) ≡ slice_get pool place
slot_at-place pool place =
    let back : (place + 1) - 1 ≡ place = omega arith in
    let test : nat_eq (place + 1) 0 ≡ false = ne_eqb (place + 1) 0 (λ e. omega (arith, e)) in
    rw (test, back) refl

below_found : (limit : ℕ) (found : Option ℕ) → is_some_below limit found ≡ true → (r : ℕ) × (found ≡ Some r) × (r < limit)
below_found limit None e = cc
below_found limit (Some r) e = (r, refl, ltb-true r limit e)

module _ (pool : List SlotData) (lower : list_all (names_lower pool) pool ≡ true) where
  -- what a constant names is of a lower rank
  pub lower_at : (place : ℕ) (slot : SlotData) (limit index : ℕ) → slice_get pool place ≡ Some slot → rank_of slot ≡ Some limit
      → Contains (named_by slot) index → (r : ℕ) × (rank_at pool index ≡ Some r) × (r < limit)
  lower_at place (Constant tag body) limit index is ranked there =
      let all = all_at (names_lower pool) pool (Constant tag body) (slot_contained pool place (Constant tag body) is) lower in
      let one = all_at (λ index. is_some_below (rank tag) (rank_at pool index)) (named_by (Constant tag body)) index there all in
      let same = same_some (rank tag) limit ranked in
      subst (λ l. (r : ℕ) × (rank_at pool index ≡ Some r) × (r < l)) same (below_found (rank tag) (rank_at pool index) one)
  lower_at place Hole limit index is ranked there = cc

  -- who names something is a constant
  ranked : (slot : SlotData) (index : ℕ) → Contains (named_by slot) index → (r : ℕ) × (rank_of slot ≡ Some r) × (r ≤ 3)
  ranked (Constant tag body) index there = (rank tag, refl, rank_within tag)
  ranked Hole index there = absurd (contains_none index there)

  rank_slot : (index r : ℕ) → rank_at pool index ≡ Some r → (slot : SlotData) × (slot_at pool index ≡ Some slot) × (rank_of slot ≡ Some r)
  rank_slot index r is = go (slot_at pool index) refl is
    where
      go : (found : Option SlotData) → slot_at pool index ≡ found → option_and_then rank_of found ≡ Some r → (slot : SlotData)
          × (slot_at pool index ≡ Some slot) × (rank_of slot ≡ Some r)
      go None e is = cc
      go (Some slot) e is = (slot, e, is)

  -- the constants that one leads to, one after the other, are no more than its rank
  short : (i : ℕ) (slot : SlotData) (r : ℕ) (between : List ℕ) (j : ℕ) → slot_at pool i ≡ Some slot → rank_of slot ≡ Some r
      → Leads pool i between j → length between ≤ r
  short i slot r [] j is is_ranked leads = omega arith
  short i slot r (k ∷ between) j is is_ranked (names, leads) =
      let same = same_some names.0 slot (sym names.1 ∙ is) in
      let named = subst (λ s. Contains (named_by s) k) same names.2 in
      let there = slot_of_number pool i slot is in
      let less = lower_at (i - 1) slot r k there.1 is_ranked named in
      let next = rank_slot k less.0 less.1 in
      let rest = short k next.0 less.0 between j next.1 next.2 leads in
      let below = less.2 in
      omega (arith, rest, below)

  -- a constant that is named has a flag
  named_flag : (flags : List Bool) → length flags ≡ length pool → (place : ℕ) (slot : SlotData) (index : ℕ) → slice_get pool place
      ≡ Some slot → Contains (named_by slot) index → HasFlag flags index
  named_flag flags size place slot index is there =
      let one = ranked slot index there in
      let less = lower_at place slot one.0 index is one.1 there in
      let next = rank_slot index less.0 less.1 in
      let at = slot_of_number pool index next.0 next.1 in
      let some = at.0 in
      let within = slice_get_within pool (index - 1) next.0 at.1 in
      record { some = some; within = omega (arith, some, within, size) }

  -- that many rounds
  abbrev rounds_of : ℕ → List Bool → List Bool
  rounds_of zero flags = flags
  rounds_of (suc n) flags = rounds_of n (spread_from 0 pool flags)

  rounds_keep : (n : ℕ) (flags : List Bool) (place : ℕ) → IsUp flags place → IsUp (rounds_of n flags) place
  rounds_keep zero flags place up = up
  rounds_keep (suc n) flags place up = rounds_keep n (spread_from 0 pool flags) place (round_keeps 0 pool flags place up)

  reach : (n : ℕ) (between : List ℕ) (i j : ℕ) (flags : List Bool) → length flags ≡ length pool → length between ≤ n
      → IsUp flags (i - 1) → Leads pool i between j → IsUp (rounds_of n flags) (j - 1)
  reach n [] i j flags size within up leads = subst (λ m. IsUp (rounds_of n flags) (m - 1)) leads (rounds_keep n flags (i - 1) up)
  reach zero (k ∷ between) i j flags size within up leads = absurd (omega (arith, within))
  reach (suc n) (k ∷ between) i j flags size within up (names, leads) =
      let there = slot_of_number pool i names.0 names.1 in
      let here : i - 1 ≡ 0 + (i - 1) = omega arith in
      let next = round_follows 0 pool flags (i - 1) names.0 k there.1 (subst (IsUp flags) here up) names.2
      (named_flag flags size (i - 1) names.0 k there.1 names.2) in
      reach n between k j (spread_from 0 pool flags) (length-round 0 pool flags ∙ size) (omega (arith, within)) next leads

  module _ (numbers : List ℕ) where
    abbrev begun : List Bool
    begun = with_marks (replicate (length pool) false) numbers

    length-begun : length begun ≡ length pool
    length-begun = length-marks (replicate (length pool) false) numbers ∙ length-replicate (length pool) false

    -- what one of the numbers leads to is marked
    reached : (place : ℕ) → place < length pool → Led pool numbers (place + 1) → IsUp (rounds_of 3 begun) place
    reached place below (i, [], there, leads) =
        let back : (place + 1) - 1 ≡ place = omega arith in
        let flag : HasFlag (replicate (length pool) false) (place + 1) =
        (let size = length-replicate (length pool) false in record { some = omega arith; within = omega (arith, below, size) }) in
        subst (IsUp (rounds_of 3 begun)) back (rounds_keep 3 begun ((place + 1) - 1) (marks_here (replicate (length pool) false)
        numbers (place + 1) (subst (Contains numbers) leads there) flag))
    reached place below (i, k ∷ between, there, leads) =
        let names = leads.0 in
        let at = slot_of_number pool i names.0 names.1 in
        let some = at.0 in
        let inside = slice_get_within pool (i - 1) names.0 at.1 in
        let flag : HasFlag (replicate (length pool) false) i =
        (let size = length-replicate (length pool) false in record { some = some; within = omega (arith, some, inside, size) }) in
        let one = ranked names.0 k names.2 in
        let few = short i names.0 one.0 (k ∷ between) (place + 1) names.1 one.1 leads in
        let most = one.2 in
        let back : (place + 1) - 1 ≡ place = omega arith in
        subst (IsUp (rounds_of 3 begun)) back (reach 3 (k ∷ between) i (place + 1) begun length-begun (omega (arith, few, most))
        (marks_here (replicate (length pool) false) numbers i there flag) leads)

    closed : (place : ℕ) (slot : SlotData) (more : ℕ) → slice_get pool place ≡ Some slot → Led pool numbers ((0 + place) + 1)
        → Contains (named_by slot) (more + 1) → Led pool numbers (more + 1)
    closed place slot more is (i, between, there, leads) named =
        let same : (0 + place) + 1 ≡ place + 1 = omega arith in (
          i,
          between ++ (more + 1) ∷ [],
          there,
          leads_on pool i between (place + 1) (more + 1) (subst (Leads pool i between) same
              leads) (slot, slot_at-place pool place ∙ is, named),
        )

    none_up : (n place : ℕ) → IsUp (replicate n false) place → ⊥
    none_up zero place up = cc
    none_up (suc n) zero up = cc
    none_up (suc n) (suc place) up = none_up n place up

    begun_led : (place : ℕ) → IsUp begun place → Led pool numbers (place + 1)
    begun_led place up = go (marks_from (replicate (length pool) false) numbers place up)
      where
        go : IsUp (replicate (length pool) false) place ⊎ Contains numbers (place + 1) → Led pool numbers (place + 1)
        go (inl up) = absurd (none_up (length pool) place up)
        go (inr there) = (place + 1, [], there, refl)

    -- what is marked is led to by one of the numbers
    rounds_led : (n : ℕ) (flags : List Bool) → ((place : ℕ) → IsUp flags place → Led pool numbers (place + 1)) → (place : ℕ)
        → IsUp (rounds_of n flags) place → Led pool numbers (place + 1)
    rounds_led zero flags holds place up = holds place up
    rounds_led (suc n) flags holds place up = rounds_led n (spread_from 0 pool flags)
        (round_sound (λ place. Led pool numbers (place + 1)) 0 pool flags closed holds) place up

    led : (place : ℕ) → IsUp (rounds_of 3 begun) place → Led pool numbers (place + 1)
    led = rounds_led 3 begun begun_led

-- Holes

-- the flag of a slot: a hole has that of the slot before it
abbrev slot_flag : Option SlotData → List Bool → ℕ → Bool → Bool
slot_flag (Some Hole) flags zero before = before
slot_flag (Some Hole) flags (suc place) before = get_or flags place false
slot_flag _ flags place before = get_or flags place false

length-holes : (before : Bool) (pool : List SlotData) (flags : List Bool) → length flags ≡ length pool
    → length (with_holes before pool flags) ≡ length pool
length-holes before [] flags size = refl
length-holes before (slot ∷ pool) [] size = absurd (omega (arith, size))
length-holes before (slot ∷ pool) (flag ∷ flags) size =
    let rest = length-holes (flag_of slot flag before) pool flags (omega (arith, size)) in
    ap suc rest

holes_at : (due before : Bool) (pool : List SlotData) (flags : List Bool) → IsPoolFrom due pool → length flags ≡ length pool
    → (place : ℕ) (slot : SlotData) → slice_get pool place ≡ Some slot → get_or (with_holes before pool flags) place false
    ≡ slot_flag (Some slot) flags place before
holes_at due before [] flags is size place slot there = cc
holes_at due before (first ∷ pool) [] is size place slot there = absurd (omega (arith, size))
holes_at true before (Hole ∷ pool) (flag ∷ flags) is size zero slot there = let same = same_some Hole slot there in rw (sym same) refl
holes_at false before (Constant tag body ∷ pool) (flag ∷ flags) is size zero slot there =
    let same = same_some (Constant tag body) slot there in rw (sym same) refl
holes_at false before (Hole ∷ pool) (flag ∷ flags) is size place slot there = absurd is
holes_at true before (Constant tag body ∷ pool) (flag ∷ flags) is size place slot there = absurd is
holes_at true before (Hole ∷ pool) (flag ∷ flags) is size (suc place) slot there = holes_at false before pool flags is
    (omega (arith, size)) place slot there ∙ go pool is place slot there
  where
    -- no hole follows a hole
    go : (pool : List SlotData) → IsPoolFrom false pool → (place : ℕ) (slot : SlotData) → slice_get pool place ≡ Some slot
        → slot_flag (Some slot) flags place before ≡ slot_flag (Some slot) (flag ∷ flags) (suc place) before
    go [] is place slot there = cc
    go (Hole ∷ pool) is place slot there = absurd is
    go (Constant tag body ∷ pool) is zero (Constant tag' body') there = refl
    go (Constant tag body ∷ pool) is zero Hole there = cc
    go (Constant tag body ∷ pool) is (suc place) (Constant tag' body') there = refl
    go (Constant tag body ∷ pool) is (suc place) Hole there = refl
holes_at false before (Constant tag body ∷ pool) (flag ∷ flags) is size (suc place) slot there = holes_at (is_wide tag) flag pool
    flags is.1 (omega (arith, size)) place slot there ∙ go place slot
  where
    go : (place : ℕ) (slot : SlotData) → slot_flag (Some slot) flags place flag ≡ slot_flag (Some slot) (flag ∷ flags) (suc place) before
    go zero (Constant tag' body') = refl
    go zero Hole = refl
    go (suc place) (Constant tag' body') = refl
    go (suc place) Hole = refl

-- the first slot is no hole
pub no_hole : (pool : List SlotData) → IsPoolFrom false pool → slice_get pool 0 ≡ Some Hole → ⊥
no_hole [] is there = cc
no_hole (Constant tag body ∷ pool) is there = cc
no_hole (Hole ∷ pool) is there = is

-- The flags

module _ (c : ClassData) (fits : IsClass c) (found : List FoundSite) (is : found_in c ≡ Some found)
    (lower : list_all (names_lower c.pool) c.pool ≡ true) where
  abbrev at_sites : List ℕ
  at_sites = map (λ f. f.number) found

  abbrev marked : List Bool
  marked = rounds_of c.pool lower 3 (begun c.pool lower at_sites)

  size_marked : length marked ≡ length c.pool
  size_marked =
      length-round 0 c.pool (spread_from 0 c.pool (spread_from 0 c.pool (begun c.pool lower at_sites)))
      ∙ length-round 0 c.pool (spread_from 0 c.pool (begun c.pool lower at_sites))
      ∙ length-round 0 c.pool (begun c.pool lower at_sites) ∙ length-begun c.pool lower at_sites

  live_led : (j : ℕ) → Led c.pool at_sites j → IsLive c j
  live_led j (i, between, there, leads) = (i, between, (found, is, there), leads)

  led_live : (j : ℕ) → IsLive c j → Led c.pool at_sites j
  led_live j (i, between, (other, is_other, there), leads) =
      let same = same_some other found (sym is_other ∙ is) in
      (i, between, subst (λ fs. Contains (map (λ f. f.number) fs) i) same there, leads)

  -- a constant is marked where it is live
  up_live : (place : ℕ) → place < length c.pool → IsUp marked place ↔ IsLive c (place + 1)
  up_live place below = (
    (λ up. live_led (place + 1) (led c.pool lower at_sites place up)),
    (λ live. reached c.pool lower at_sites
        place below (led_live (place + 1) live)),
  )

  slot_live : (place : ℕ) (slot : SlotData) → place < length c.pool → slice_get c.pool place ≡ Some slot
      → (get_or (with_holes false c.pool marked) place false ≡ true) ↔ IsLive c (first_number (Some slot) place)
  slot_live place (Constant tag body) below there =
      let flag = holes_at false false c.pool marked fits.pool size_marked place (Constant tag body) there in
      let live = up_live place below in
      ((λ up. live.0 (sym flag ∙ up)), (λ known. flag ∙ live.1 known))
  slot_live zero Hole below there = absurd (no_hole c.pool fits.pool there)
  slot_live (suc place) Hole below there =
      let flag = holes_at false false c.pool marked fits.pool size_marked (suc place) Hole there in
      let live = up_live place (omega (arith, below)) in
      let number : place + 1 ≡ suc place = omega arith in
      ((λ up. subst (IsLive c) number (live.0 (sym flag ∙ up))), (λ known. flag ∙ live.1 (subst (IsLive c) (sym number) known)))

  pub flags_tell : TellsLive c (flags_of c.pool at_sites)
  flags_tell = record { size = length-holes false c.pool marked size_marked; exactly = exactly }
    where
      exactly : (place : ℕ) → place < length c.pool → (get_or (with_holes false c.pool marked) place false ≡ true) ↔ IsLive c
          (number_of c.pool place)
      exactly place below =
          let one = element_at c.pool place below in
          subst (λ found. (get_or (with_holes false c.pool marked) place false ≡ true) ↔ IsLive c (first_number found place))
          (sym one.1) (slot_live place one.0 below one.1)
