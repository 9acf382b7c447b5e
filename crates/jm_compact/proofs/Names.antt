-- What a class with sites names: constants, each of a lower rank.
use Rattle.std.proofs.Common.{◌≡◌, ℕ, zero, suc, ◌+◌, ◌-◌, ◌^◌, ◌<◌, ◌≤◌, ◌⊎◌, inl, inr, Bool, true, false}
use Rattle.std.proofs.Common.{cond, ◌&&◌, ◌||◌, List, [], ◌∷◌, ◌++◌, get_or, length, map, Option, Some, None}
use Rattle.std.proofs.Common.{Contains, is_some, option_and_then, slice_get, refl, sym, ap, ap₂, ◌∙◌, subst}
use Rattle.std.proofs.Common.{arith}
use Rattle.std.proofs.lemmas.Bool.{eqb-true}
use Rattle.std.proofs.lemmas.List.Sums.{list_all-from_AllPass}
use Rattle.std.proofs.lemmas.Option.{slice_get_within, slice_get-get_or}
use Rattle.std.specs.Bool.{one_answer}
use Rattle.std.specs.List.{list_all}
use Rattle.std.specs.Prelude.{nat_eq}
use Rattle.jm_bytes.proofs.Choice.{same_some}
use Rattle.jm_bytes.proofs.Members.{contains_none, contains_map, all_from_contains}
use Rattle.jm_class.specs.Classes.{SlotData, Constant, Hole, ClassData, IsPoolFrom, IsClass, slot_at}
use Rattle.jm_poolmap.specs.declared.site.FoundSite.{FoundSite}
use Rattle.jm_poolmap.specs.declared.site.Site.{Site}
use Rattle.jm_poolmap.specs.Live.{Leads, StandsAtSite, IsLive, first_number, number_of, TellsLive}
use Rattle.jm_poolmap.specs.Sites.{rank, named_by, rank_of, rank_at, names_lower}
use Rattle.jm_poolmap.specs.Sites.{names_constant, judged, site_of, found_in, sites_of}
use Rattle.jm_poolmap.proofs.ComputedLiveLaws.{leads_on, all_at, slot_of_number, lower_at, no_hole}
use Rattle.jm_compact.proofs.KeptSlots.{IsKept, HolesFollow, IsClosed, number_within, before_hole}
use Rattle.jm_compact.proofs.NewNumbers.{place_of}
use Rattle.jm_compact.proofs.Shapes.{AllFitTwo}

-- Checks of all

pub all_from : {A : Type 0} (test : A → Bool) (xs : List A) → ((x : A) → Contains xs x → test x ≡ true) → list_all test xs ≡ true
all_from test xs each = list_all-from_AllPass test xs (all_from_contains (λ x. test x ≡ true) xs each)

pub contained_slot : {A : Type 0} (items : List A) (item : A) → Contains items item → (place : ℕ) × (slice_get items place ≡ Some item)
contained_slot items item (place, below, is) = (place, slice_get-get_or items place item below ∙ ap Some is)

-- Sites

-- the sites of a class were found, and pass the checks
pub record Judged (c : ClassData) (sites : List Site) : Type 0 where
  pub found : List FoundSite
  pub is : found_in c ≡ Some found
  pub constants : list_all (names_constant c.pool) found ≡ true
  pub lower : list_all (names_lower c.pool) c.pool ≡ true
  pub places : sites ≡ map site_of found

pub judged_parts : (c : ClassData) (sites : List Site) → sites_of c ≡ Some sites → Judged c sites
judged_parts c sites e = go (found_in c) refl e
  where
    checked : (found : List FoundSite) → found_in c ≡ Some found → (a b : Bool) → list_all (names_constant c.pool) found ≡ a
        → list_all (names_lower c.pool) c.pool ≡ b → cond (a && b) (Some (map site_of found)) None ≡ Some sites → Judged c sites
    checked found is true true constants lower e = record {
      found = found;
      is = is;
      constants = constants;
      lower = lower;
      places =
          same_some sites (map site_of found) (sym e);
    }
    checked found is true false constants lower e = cc
    checked found is false b constants lower e = cc

    go : (o : Option (List FoundSite)) → found_in c ≡ o → option_and_then (judged c.pool) o ≡ Some sites → Judged c sites
    go None is e = cc
    go (Some found) is e = checked found is (list_all (names_constant c.pool) found) (list_all (names_lower c.pool) c.pool) refl refl e

pub judged_back : (c : ClassData) (found : List FoundSite) → found_in c ≡ Some found → list_all (names_constant c.pool) found ≡ true
    → list_all (names_lower c.pool) c.pool ≡ true → sites_of c ≡ Some (map site_of found)
judged_back c found is constants lower = rw (is, constants, lower) refl

-- a number at a site
site_names : (pool : List SlotData) (found : FoundSite) → names_constant pool found ≡ true → (found.number ≡ 0)
    ⊎ (is_some (rank_at pool found.number) ≡ true)
site_names pool found e = go found.optional (nat_eq found.number 0) refl e
  where
    go : (a b : Bool) → nat_eq found.number 0 ≡ b → (a && b) || is_some (rank_at pool found.number) ≡ true → (found.number ≡ 0)
        ⊎ (is_some (rank_at pool found.number) ≡ true)
    go true true is e = inl (eqb-true found.number 0 is)
    go true false is e = inr e
    go false b is e = inr e

-- Constants

-- a number with a rank is that of a constant
ranked_slot : (pool : List SlotData) (i : ℕ) → is_some (rank_at pool i) ≡ true → (tag : ℕ) × (body : List ℕ)
    × (slot_at pool i ≡ Some (Constant tag body))
ranked_slot pool i is = go (slot_at pool i) refl is
  where
    go : (found : Option SlotData) → slot_at pool i ≡ found → is_some (option_and_then rank_of found) ≡ true → (tag : ℕ)
        × (body : List ℕ) × (slot_at pool i ≡ Some (Constant tag body))
    go None e is = cc
    go (Some Hole) e is = cc
    go (Some (Constant tag body)) e is = (tag, body, e)

module _ (pool : List SlotData) (lower : list_all (names_lower pool) pool ≡ true) where
  -- what a constant names is a constant
  named_ranked : (i tag : ℕ) (body : List ℕ) (k : ℕ) → slot_at pool i ≡ Some (Constant tag body)
      → Contains (named_by (Constant tag body)) k → is_some (rank_at pool k) ≡ true
  named_ranked i tag body k is there =
      let slot = slot_of_number pool i (Constant tag body) is in
      ap is_some (lower_at pool lower (i - 1) (Constant tag body) (rank tag) k slot.1 refl there).1

  -- the numbers that a constant names are those of slots
  named_within : (i tag : ℕ) (body : List ℕ) (k : ℕ) → slot_at pool i ≡ Some (Constant tag body)
      → Contains (named_by (Constant tag body)) k → (0 < k) × (k ≤ length pool)
  named_within i tag body k is there =
      let slot = ranked_slot pool k (named_ranked i tag body k is there) in
      number_within pool k (Constant slot.0 slot.1) slot.2

  -- their new numbers fit into two bytes
  pub named_fit : (new : ℕ → ℕ) → ((n : ℕ) → new n ≤ n) → length pool < 2 ^ 16 → (i tag : ℕ) (body : List ℕ) → slot_at pool i
      ≡ Some (Constant tag body) → AllFitTwo new (named_by (Constant tag body))
  named_fit new small size i tag body is k there =
      let within = (named_within i tag body k is there).1 in
      let less = small k in
      omega (arith, within, less, size)

-- Live constants

same_flags : (one other : List Bool) → length one ≡ length other → ((place : ℕ) → place < length one → get_or one place false
    ≡ get_or other place false) → one ≡ other
same_flags [] [] size same = refl
same_flags [] (b ∷ other) size same = absurd (omega (arith, size))
same_flags (a ∷ one) [] size same = absurd (omega (arith, size))
same_flags (a ∷ one) (b ∷ other) size same = ap₂ (λ x xs. x ∷ xs) (same 0 (omega arith)) (same_flags one other (omega (arith, size))
    (λ place below. same (suc place) (omega (arith, below))))

-- the flags are determined
pub told_once : (c : ClassData) (one other : List Bool) → TellsLive c one → TellsLive c other → one ≡ other
told_once c one other tells also =
    same_flags one other (tells.size ∙ sym also.size)
    (λ place below.
    let inside = subst (λ n. place < n) tells.size below in
    one_answer (get_or one place false) (get_or other place false) (tells.exactly place inside) (also.exactly place inside))

module _ (c : ClassData) (sites : List Site) (flags : List Bool) (is_sites : sites_of c ≡ Some sites) (tells : TellsLive c flags) where
  abbrev pub judged_is : Judged c sites
  judged_is = judged_parts c sites is_sites

  number_of_constant : (i tag : ℕ) (body : List ℕ) → slot_at c.pool i ≡ Some (Constant tag body) → (i - 1 < length c.pool)
      × (number_of c.pool (i - 1) ≡ i)
  number_of_constant i tag body is =
      let slot = slot_of_number c.pool i (Constant tag body) is in
      (slice_get_within c.pool (i - 1) (Constant tag body) slot.1, ap (λ o. first_number o (i - 1)) slot.1 ∙ place_of i slot.0)

  pub kept_live : (i : ℕ) → IsKept c.pool flags i → IsLive c i
  kept_live i kept_i =
      let number = number_of_constant i kept_i.tag kept_i.body kept_i.is in
      subst (IsLive c) number.1 ((tells.exactly (i - 1) number.0).0 kept_i.up)

  -- a constant that is live is kept
  ranked_kept : (i : ℕ) → IsLive c i → is_some (rank_at c.pool i) ≡ true → IsKept c.pool flags i
  ranked_kept i live ranked =
      let slot = ranked_slot c.pool i ranked in
      let number = number_of_constant i slot.0 slot.1 slot.2 in
      record { tag = slot.0; body = slot.1; is = slot.2; up = (tells.exactly (i - 1) number.0).1 (subst (IsLive c) (sym number.1) live) }

  -- who leads to a kept constant from a site is kept
  pub start_kept : (start : ℕ) (between : List ℕ) (i : ℕ) → StandsAtSite c start → IsKept c.pool flags i → Leads c.pool start between i
      → IsKept c.pool flags start
  start_kept start [] i stands kept_i leads = subst (IsKept c.pool flags) (sym leads) kept_i
  start_kept start (k ∷ between) i stands kept_i ((Hole, is, there), leads) = absurd (contains_none k there)
  start_kept start (k ∷ between) i stands kept_i ((Constant tag body, is, there), leads) =
      ranked_kept start (start, [], stands, refl) (ap (λ o. is_some (option_and_then rank_of o)) is)

  -- what a kept constant names is kept
  pub names_kept : (i : ℕ) (kept_i : IsKept c.pool flags i) (k : ℕ) → Contains (named_by (Constant kept_i.tag kept_i.body)) k
      → IsKept c.pool flags k
  names_kept i kept_i k there = ranked_kept k live (named_ranked c.pool judged_is.lower i kept_i.tag kept_i.body k
      kept_i.is there)
    where
      on : IsLive c i → IsLive c k
      on (start, between, stands, leads) = (
        start,
        between ++ k ∷ [],
        stands,
        leads_on c.pool start between i k leads
            (Constant kept_i.tag kept_i.body, kept_i.is, there),
      )

      live : IsLive c k
      live = on (kept_live i kept_i)

  -- a hole has the flag of its constant
  holes_follow : IsPoolFrom false c.pool → HolesFollow false c.pool flags
  holes_follow is zero there = absurd (no_hole c.pool is there)
  holes_follow is (suc place) there =
      let before = before_hole false c.pool is place there in
      let within = slice_get_within c.pool (suc place) Hole there in
      let hole = tells.exactly (suc place) within in
      let constant = tells.exactly place (omega (arith, within)) in
      let same : number_of c.pool (suc place) ≡ number_of c.pool place =
      ap (λ o. first_number o (suc place)) there ∙ (let more : suc place ≡ place + 1 = omega arith in more)
      ∙ sym (ap (λ o. first_number o place) before.2) in
      one_answer (get_or flags (suc place) false) (get_or flags place false) hole
      ((λ up. subst (IsLive c) (sym same) (constant.0 up)), (λ live. constant.1 (subst (IsLive c) same live)))

  pub is_closed : IsClass c → IsClosed c.pool flags
  is_closed fits = record {
    pool = fits.pool;
    few = (let slots = fits.slots in omega (arith, slots));
    lower = judged_is.lower;
    size = tells.size;
    holes = holes_follow fits.pool;
    names = names_kept;
  }

  -- the number at a site is an optional 0 or that of a kept constant
  pub site_kept : (f : FoundSite) → Contains judged_is.found f → (f.number ≡ 0) ⊎ IsKept c.pool flags f.number
  site_kept f there = go (site_names c.pool f (all_at (names_constant c.pool) judged_is.found f there judged_is.constants))
    where
      go : (f.number ≡ 0) ⊎ (is_some (rank_at c.pool f.number) ≡ true) → (f.number ≡ 0) ⊎ IsKept c.pool flags f.number
      go (inl none) = inl none
      go (inr ranked) =
          let stands = contains_map (λ (g : FoundSite). g.number) judged_is.found f there in
          inr (ranked_kept f.number (f.number, [], (judged_is.found, judged_is.is, stands), refl) ranked)

-- where each slot's constant is live, all flags are up
pub all_up : (c : ClassData) (flags : List Bool) → TellsLive c flags → ((place : ℕ) → place < length c.pool
    → IsLive c (number_of c.pool place)) → (place : ℕ) → place < length flags → get_or flags place false ≡ true
all_up c flags tells live place below =
    let inside = subst (λ n. place < n) tells.size below in (tells.exactly place inside).1 (live place inside)
