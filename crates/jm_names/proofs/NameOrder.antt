-- Named contents that rise by name: there is one such list of the same pairs.
use Rattle.std.proofs.Common.{◌≡◌, ◌≢◌, ◌⊎◌, inl, inr, Bool, true, false, cond, IsTrue, List, [], ◌∷◌, map}
use Rattle.std.proofs.Common.{get_or, All, AllPairs, Contains, IsPermutation, refl, sym, ap, ◌∙◌, subst}
use Rattle.std.proofs.Common.{arith, Bor}
use Rattle.std.proofs.lemmas.Bool.{false≢true}
use Rattle.std.proofs.lemmas.Fn.{always_returns_same}
use Rattle.std.proofs.lemmas.List.Elements.{All-nil, All-cons, All-contains}
use Rattle.std.proofs.lemmas.List.Kept.{AllPairs-cons}
use Rattle.std.proofs.lemmas.List.Sorted.{Contains-permutation, IsPermutation-map, IsPermutation-sym, ranks_by, sorted_far}
use Rattle.std.specs.Cmp.{IsStrictWeakOrder}
use Rattle.std.specs.Cmp.Lexicographic.{slice_cmp, nat_list_cmp_total}
use Rattle.std.specs.Fn.{Called, ComparesAs}
use Rattle.std.specs.List.Sorted.{IsSortedBy}
use Rattle.std.specs.Ordering.{is_lt, nat_cmp}
use Rattle.std.specs.declared.cmp.Ordering.{Ordering}
use denote.Param.Members.{Mut}
use Rattle.jm_bytes.proofs.Members.{all_from_contains, contains_here, contains_later, contains_cases, contains_none}
use Rattle.jm_bytes.proofs.Pairs.{pairs_map, pairs_none, pairs_head, pairs_tail}
use Rattle.jm_bytes.specs.ByteOrder.{is_before}
use Rattle.jm_names.specs.ByName.{Named, RisesByName, NeverFalls, placed, by_name}
use Rattle.jm_bytes.proofs.ByteOrderLaws.{before_further, before_one_way, before_or, one_way}
use Rattle.jm_names.proofs.KeyLaws.{differ_moved}

-- The same pairs

pub contains_placed : (e : Named) (es : List Named) (g : Named) → (e ≡ g) ⊎ Contains es g → Contains (placed e es) g
contains_placed e [] g (inl same) = subst (Contains (e ∷ [])) same (contains_here e [])
contains_placed e [] g (inr later) = absurd (contains_none g later)
contains_placed e (f ∷ es) g there = go (is_before f.0 e.0) there (λ among. contains_placed e es g among)
  where
    go : (b : Bool) → (e ≡ g) ⊎ Contains (f ∷ es) g → ((e ≡ g) ⊎ Contains es g → Contains (placed e es) g)
        → Contains (cond b (f ∷ placed e es) (e ∷ f ∷ es)) g
    go false (inl same) rest = subst (Contains (e ∷ f ∷ es)) same (contains_here e (f ∷ es))
    go false (inr later) rest = contains_later e (f ∷ es) g later
    go true (inl same) rest = contains_later f (placed e es) g (rest (inl same))
    go true (inr later) rest =
        elim (contains_cases f es g later) [
          | inl same ↦ subst (Contains (f ∷ placed e es)) same (contains_here f (placed e es))
          | inr among ↦ contains_later f (placed e es) g (rest (inr among))
        ]

pub from_placed : (e : Named) (es : List Named) (g : Named) → Contains (placed e es) g → (e ≡ g) ⊎ Contains es g
from_placed e [] g there = contains_cases e [] g there
from_placed e (f ∷ es) g there = go (is_before f.0 e.0) there (λ among. from_placed e es g among)
  where
    go : (b : Bool) → Contains (cond b (f ∷ placed e es) (e ∷ f ∷ es)) g → (Contains (placed e es) g → (e ≡ g) ⊎ Contains es g)
        → (e ≡ g) ⊎ Contains (f ∷ es) g
    go false there rest = contains_cases e (f ∷ es) g there
    go true there rest =
        elim (contains_cases f (placed e es) g there) [
          | inl same ↦ inr (subst (Contains (f ∷ es)) same (contains_here f es))
          | inr later ↦
              elim (rest later) [
                | inl same ↦ inl same
                | inr among ↦ inr (contains_later f es g among)
              ]
        ]

pub contains_by_name : (es : List Named) (g : Named) → Contains es g → Contains (by_name es) g
contains_by_name [] g there = there
contains_by_name (e ∷ es) g there =
    elim (contains_cases e es g there) [
      | inl same ↦ contains_placed e (by_name es) g (inl same)
      | inr later ↦ contains_placed e (by_name es) g (inr (contains_by_name es g later))
    ]

pub from_by_name : (es : List Named) (g : Named) → Contains (by_name es) g → Contains es g
from_by_name [] g there = there
from_by_name (e ∷ es) g there =
    elim (from_placed e (by_name es) g there) [
      | inl same ↦ subst (Contains (e ∷ es)) same (contains_here e es)
      | inr later ↦ contains_later e es g (from_by_name es g later)
    ]

-- It rises

abbrev Before : Named → Named → Type 0
Before e f = IsTrue (is_before e.0 f.0)

abbrev pub Differ : Named → Named → Type 0
Differ e f = e.0 ≢ f.0

placed_rises : (e : Named) (es : List Named) → All (Differ e) es → RisesByName es → RisesByName (placed e es)
placed_rises e [] differ rises = AllPairs-cons Before e [] (All-nil (Before e)) rises
placed_rises e (f ∷ es) differ rises = go (is_before f.0 e.0) refl (placed_rises e es others (pairs_tail Before f es rises))
  where
    later : All (Before f) es
    later = pairs_head Before f es rises

    others : All (Differ e) es
    others = all_from_contains (Differ e) es (λ g there. All-contains (Differ e) (f ∷ es) g differ (contains_later f es g there))

    go : (b : Bool) → is_before f.0 e.0 ≡ b → RisesByName (placed e es) → RisesByName (cond b (f ∷ placed e es) (e ∷ f ∷ es))
    go true is rest = AllPairs-cons Before f (placed e es) (all_from_contains (Before f) (placed e es) above) rest
      where
        above : (g : Named) → Contains (placed e es) g → Before f g
        above g there =
            elim (from_placed e es g there) [
              | inl same ↦ ap (λ (h : Named). is_before f.0 h.0) (sym same) ∙ is
              | inr among ↦ All-contains (Before f) es g later among
            ]
    go false is rest = AllPairs-cons Before e (f ∷ es) (All-cons (Before e) f es first (all_from_contains (Before e) es above)) rises
      where
        first : Before e f
        first = before_or e.0 f.0 (All-contains (Differ e) (f ∷ es) f differ (contains_here f es)) is

        above : (g : Named) → Contains es g → Before e g
        above g there = before_further e.0 f.0 g.0 first (All-contains (Before f) es g later there)

pub by_name_rises : (es : List Named) → AllPairs Differ es → RisesByName (by_name es)
by_name_rises [] differ = pairs_none Before
by_name_rises (e ∷ es) differ =
    placed_rises e (by_name es)
    (all_from_contains (Differ e) (by_name es) (λ g there. All-contains (Differ e) es g (pairs_head Differ e es differ)
    (from_by_name es g there)))
    (by_name_rises es (pairs_tail Differ e es differ))

-- There is one such list

-- what is contained in rising pairs and isn't the first stands behind the first
behind_first : (e g : Named) (es : List Named) → RisesByName (e ∷ es) → Contains (e ∷ es) g → (e ≡ g) ⊎ Before e g
behind_first e g es rises there =
    elim (contains_cases e es g there) [
      | inl same ↦ inl same
      | inr later ↦ inr (All-contains (Before e) es g (pairs_head Before e es rises) later)
    ]

first_same : (e f : Named) (es fs : List Named) → RisesByName (e ∷ es) → RisesByName (f ∷ fs) → Contains (f ∷ fs) e
    → Contains (e ∷ es) f → e ≡ f
first_same e f es fs up down there back =
    elim (behind_first e f es up back) [
      | inl same ↦ same
      | inr one ↦
          elim (behind_first f e fs down there) [
            | inl same ↦ sym same
            | inr other ↦ absurd (false≢true (sym (before_one_way e.0 f.0 one) ∙ other))
          ]
    ]

-- what both contain, and isn't the first of both, the rests contain
later_too : (e f : Named) (es fs : List Named) → e ≡ f → RisesByName (e ∷ es) → ((g : Named) → Contains (e ∷ es) g
    → Contains (f ∷ fs) g) → (g : Named) → Contains es g → Contains fs g
later_too e f es fs same rises also g there =
    elim (contains_cases f fs g (also g (contains_later e es g there))) [
      | inl first ↦
          let above = All-contains (Before e) es g (pairs_head Before e es rises) there in
          let own = subst (λ (h : Named). IsTrue (is_before e.0 h.0)) (sym (same ∙ first)) above in
          absurd (one_way e.0 e.0 own own)
      | inr later ↦ later
    ]

pub rising_same : (es fs : List Named) → RisesByName es → RisesByName fs → ((g : Named) → Contains es g → Contains fs g)
    → ((g : Named) → Contains fs g → Contains es g) → es ≡ fs
rising_same [] [] up down also back = refl
rising_same [] (f ∷ fs) up down also back = absurd (contains_none f (back f (contains_here f fs)))
rising_same (e ∷ es) [] up down also back = absurd (contains_none e (also e (contains_here e es)))
rising_same (e ∷ es) (f ∷ fs) up down also back =
    let same = first_same e f es fs up down (also e (contains_here e es)) (back f (contains_here f fs)) in
    let rest =
    rising_same es fs (pairs_tail Before e es up) (pairs_tail Before f fs down) (later_too e f es fs same up also)
    (later_too f e fs es (sym same) down back)
    in
    ap (λ (g : Named). g ∷ es) same ∙ ap (λ gs. f ∷ gs) rest

-- Sorted

-- pairs whose names differ, in an order in which no name falls, are those by name
pub sorted_by_name : (es fs : List Named) → IsPermutation es fs → NeverFalls fs → AllPairs Differ es → fs ≡ by_name es
sorted_by_name es fs moved sorted differ =
    let still = differ_moved (λ (e : Named). e.0) es fs moved differ in
    let rises : RisesByName fs = λ i j d before inside. before_or (get_or fs i d).0 (get_or fs j d).0 (still i j d before inside)
    (sorted i j d before inside) in
    rising_same fs (by_name es) rises (by_name_rises es differ)
    (λ g there. contains_by_name es g (Contains-permutation fs es g (IsPermutation-sym es fs moved) there))
    (λ g there. Contains-permutation es fs g moved (from_by_name es g there))

-- Sorted items

module _ {T : Type 0} (pair : T → Named) where
  abbrev name_cmp : T → T → Ordering
  name_cmp s t = slice_cmp nat_cmp (pair s).0 (pair t).0

  -- what a sort by the names says, where each call compares two names
  pub names_sorted : {F : Type 0} {g : Mut F (Bor T × (Bor T × Unit {0})) Ordering} {f : F} (ts : List T)
      → ((lt : T → T → Bool) → IsStrictWeakOrder lt → ComparesAs g lt f → IsSortedBy lt ts)
      → ((a : Bor T × (Bor T × Unit {0})) (r : Ordering) (f' : F) → Called g f a r f' → (r ≡ name_cmp a.0.now a.1.0.now) × (f' ≡ f))
      → NeverFalls (map pair ts)
  names_sorted {g = g} {f = f} ts sorted compares =
      let order = ranks_by nat_list_cmp_total (λ (t : T). (pair t).0) in
      let up = sorted (λ s t. is_lt (name_cmp s t)) order (always_returns_same g (λ a r. is_lt r
      ≡ is_lt (name_cmp a.0.now a.1.0.now)) f (λ a r f' k. (ap is_lt (compares a r f' k).0, (compares a r f' k).1))) in
      pairs_map (λ (e f : Named). is_before f.0 e.0 ≡ false) pair ts (λ i j d before inside. sorted_far
      (λ s t. is_lt (name_cmp s t)) order ts up i j d (omega arith) inside)

  -- items whose names differ, sorted
  pub items_sorted : (es : List Named) (ts us : List T) → map pair ts ≡ es → IsPermutation ts us → NeverFalls (map pair us)
      → AllPairs Differ es → map pair us ≡ by_name es
  items_sorted es ts us is moved sorted differ =
      let still : IsPermutation es (map pair us) = subst (λ gs. IsPermutation gs (map pair us)) is (IsPermutation-map pair ts us moved) in
      sorted_by_name es (map pair us) still sorted differ
