-- Texts that rise: they are those that were given, no two of them are the same, and there is one such list.
use Rattle.std.proofs.Common.{◌≡◌, ◌≢◌, ℕ, ◌-◌, ◌⊎◌, inl, inr, List, [], ◌∷◌, ◌++◌, length, reverse, All, AllPairs}
use Rattle.std.proofs.Common.{Contains, refl, sym, ap, ◌∙◌, subst, arith}
use Rattle.std.proofs.lemmas.List.{get_or-reverse, length-reverse, map-append}
use Rattle.std.proofs.lemmas.List.Elements.{All-nil, All-cons, All-contains, All-head, All-tail}
use Rattle.std.proofs.lemmas.List.Kept.{AllPairs-cons}
use Rattle.std.proofs.lemmas.List.Sorted.{Contains-permutation, IsPermutation-reverse, IsPermutation-sym}
use Rattle.std.proofs.lemmas.Map.Lookups.{exact_bytes}
use Rattle.std.specs.Cmp.Lexicographic.{slice_cmp, nat_list_cmp_total}
use Rattle.std.specs.Ordering.{is_lt, match_ordering, nat_cmp, ordering_reverse}
use Rattle.std.specs.declared.alloc.Global.{Global}
use Rattle.std.specs.declared.cmp.Ordering.{Ordering}
use Rattle.std.specs.declared.cmp.Ordering.TheVariants.{Less, Equal, Greater}
use Rattle.std.specs.declared.vec.Vec.{Vec}
use Rattle.jm_bytes.proofs.ByteOrderLaws.{before_apart, one_way}
use Rattle.jm_bytes.proofs.Members.{all_from_contains, contains_here, contains_later, contains_cases, contains_none}
use Rattle.jm_bytes.proofs.Pairs.{pairs_none, pairs_head, pairs_tail, pairs_weaker}
use Rattle.jm_bytes.proofs.SameOrder.{same_order}
use Rattle.jm_form.specs.Rising.{items_of, rising, with_placed}

abbrev Texts : Type 0
Texts = List (List ℕ)

-- What they contain

pub contains_placed : (text : List ℕ) (texts : Texts) (g : List ℕ) → (text ≡ g) ⊎ Contains texts g → Contains (with_placed text texts) g
contains_placed text [] g (inl same) = subst (Contains (text ∷ [])) same (contains_here text [])
contains_placed text [] g (inr later) = absurd (contains_none g later)
contains_placed text (first ∷ texts) g there = go (slice_cmp nat_cmp text first) refl there (λ among. contains_placed text texts g among)
  where
    go : (c : Ordering) → slice_cmp nat_cmp text first ≡ c → (text ≡ g) ⊎ Contains (first ∷ texts) g
        → ((text ≡ g) ⊎ Contains texts g → Contains (with_placed text texts) g)
        → Contains (match_ordering c (text ∷ first ∷ texts) (first ∷ texts) (first ∷ with_placed text texts)) g
    go Less e (inl same) rest = subst (Contains (text ∷ first ∷ texts)) same (contains_here text (first ∷ texts))
    go Less e (inr later) rest = contains_later text (first ∷ texts) g later
    go Equal e (inl same) rest = subst (Contains (first ∷ texts)) (sym (exact_bytes text first e) ∙ same) (contains_here first texts)
    go Equal e (inr later) rest = later
    go Greater e (inl same) rest = contains_later first (with_placed text texts) g (rest (inl same))
    go Greater e (inr later) rest =
        elim (contains_cases first texts g later) [
          | inl same ↦ subst (Contains (first ∷ with_placed text texts)) same (contains_here first (with_placed text texts))
          | inr among ↦ contains_later first (with_placed text texts) g (rest (inr among))
        ]

pub from_placed : (text : List ℕ) (texts : Texts) (g : List ℕ) → Contains (with_placed text texts) g → (text ≡ g) ⊎ Contains texts g
from_placed text [] g there = contains_cases text [] g there
from_placed text (first ∷ texts) g there = go (slice_cmp nat_cmp text first) there (λ among. from_placed text texts g among)
  where
    go : (c : Ordering) → Contains (match_ordering c (text ∷ first ∷ texts) (first ∷ texts) (first ∷ with_placed text texts)) g
        → (Contains (with_placed text texts) g → (text ≡ g) ⊎ Contains texts g) → (text ≡ g) ⊎ Contains (first ∷ texts) g
    go Less there rest = contains_cases text (first ∷ texts) g there
    go Equal there rest = inr there
    go Greater there rest =
        elim (contains_cases first (with_placed text texts) g there) [
          | inl same ↦ inr (subst (Contains (first ∷ texts)) same (contains_here first texts))
          | inr later ↦
              elim (rest later) [
                | inl same ↦ inl same
                | inr among ↦ inr (contains_later first texts g among)
              ]
        ]

pub contains_rising : (texts : Texts) (g : List ℕ) → Contains texts g → Contains (rising texts) g
contains_rising [] g there = there
contains_rising (text ∷ texts) g there =
    elim (contains_cases text texts g there) [
      | inl same ↦ contains_placed text (rising texts) g (inl same)
      | inr later ↦ contains_placed text (rising texts) g (inr (contains_rising texts g later))
    ]

pub from_rising : (texts : Texts) (g : List ℕ) → Contains (rising texts) g → Contains texts g
from_rising [] g there = there
from_rising (text ∷ texts) g there =
    elim (from_placed text (rising texts) g there) [
      | inl same ↦ subst (Contains (text ∷ texts)) same (contains_here text texts)
      | inr later ↦ contains_later text texts g (from_rising texts g later)
    ]

-- What holds of them

placed_all : (P : List ℕ → Type 0) (text : List ℕ) (texts : List (List ℕ)) → P text → All P texts → All P (with_placed text texts)
placed_all P text [] this all = All-cons P text [] this all
placed_all P text (first ∷ texts) this all = go (slice_cmp nat_cmp text first) (placed_all P text texts this (All-tail P first texts all))
  where
    go : (o : Ordering) → All P (with_placed text texts) → All P (match_ordering o (text ∷ first ∷ texts) (first ∷ texts)
        (first ∷ with_placed text texts))
    go Less rest = All-cons P text (first ∷ texts) this all
    go Equal rest = all
    go Greater rest = All-cons P first (with_placed text texts) (All-head P first texts all) rest

-- what holds of all texts holds of them rising
pub rising_all : (P : List ℕ → Type 0) (texts : List (List ℕ)) → All P texts → All P (rising texts)
rising_all P [] all = all
rising_all P (text ∷ texts) all =
    placed_all P text (rising texts) (All-head P text texts all) (rising_all P texts (All-tail P text texts all))

-- They rise

abbrev pub Before : List ℕ → List ℕ → Type 0
Before text later = slice_cmp nat_cmp text later ≡ Less

pub placed_rises : (text : List ℕ) (texts : Texts) → AllPairs Before texts → AllPairs Before (with_placed text texts)
placed_rises text [] rises = AllPairs-cons Before text [] (All-nil (Before text)) rises
placed_rises text (first ∷ texts) rises = go (slice_cmp nat_cmp text first) refl
    (placed_rises text texts (pairs_tail Before first texts rises))
  where
    later : All (Before first) texts
    later = pairs_head Before first texts rises

    go : (c : Ordering) → slice_cmp nat_cmp text first ≡ c → AllPairs Before (with_placed text texts)
        → AllPairs Before (match_ordering c (text ∷ first ∷ texts) (first ∷ texts) (first ∷ with_placed text texts))
    go Less e rest =
        AllPairs-cons Before text (first ∷ texts)
        (All-cons (Before text) first texts e (all_from_contains (Before text) texts (λ g there. nat_list_cmp_total.trans text first
        g e (All-contains (Before first) texts g later there)))) rises
    go Equal e rest = rises
    go Greater e rest =
        AllPairs-cons Before first (with_placed text texts)
        (all_from_contains (Before first) (with_placed text texts)
        (λ g there.
        elim (from_placed text texts g there) [
          | inl same ↦ subst (Before first) same (nat_list_cmp_total.antisymm first text ∙ ap ordering_reverse e)
          | inr among ↦ All-contains (Before first) texts g later among
        ])) rest

pub rising_rises : (texts : Texts) → AllPairs Before (rising texts)
rising_rises [] = pairs_none Before
rising_rises (text ∷ texts) = placed_rises text (rising texts) (rising_rises texts)

no_way_back : (text later : List ℕ) → Before text later → Before later text → ⊥
no_way_back text later before back = one_way text later (ap is_lt before) (ap is_lt back)

-- no two of them are the same
pub rising_differ : (texts : Texts) → AllPairs (λ a b. a ≢ b) (rising texts)
rising_differ texts = pairs_weaker Before (λ a b. a ≢ b) (λ a b before. before_apart a b (ap is_lt before)) (rising texts)
    (rising_rises texts)

-- there is one rising list of the same texts
pub rising_only : (texts risen : Texts) → AllPairs Before risen → ((g : List ℕ) → Contains texts g → Contains risen g)
    → ((g : List ℕ) → Contains risen g → Contains texts g) → risen ≡ rising texts
rising_only texts risen rises also back =
    same_order Before no_way_back risen (rising texts) rises (rising_rises texts)
    (λ g there. contains_rising texts g (back g there)) (λ g there. also g (from_rising texts g there))

-- texts of which one list contains what the other does are the same, rising
pub rising_same : (texts others : Texts) → ((g : List ℕ) → Contains texts g → Contains others g) → ((g : List ℕ) → Contains others g
    → Contains texts g) → rising texts ≡ rising others
rising_same texts others also back =
    sym (rising_only texts (rising others) (rising_rises others)
    (λ g there. contains_rising others g (also g there)) (λ g there. back g (from_rising others g there)))

-- Falling

pub contains_falling : (texts : Texts) (g : List ℕ) → Contains texts g → Contains (reverse (rising texts)) g
contains_falling texts g there = Contains-permutation (rising texts) (reverse (rising texts)) g
    (IsPermutation-reverse (rising texts)) (contains_rising texts g there)

pub from_falling : (texts : Texts) (g : List ℕ) → Contains (reverse (rising texts)) g → Contains texts g
from_falling texts g there = from_rising texts g (Contains-permutation (reverse (rising texts)) (rising texts) g
    (IsPermutation-sym (rising texts) (reverse (rising texts)) (IsPermutation-reverse (rising texts))) there)

turned_differ : (texts : Texts) → AllPairs (λ a b. a ≢ b) texts → AllPairs (λ a b. a ≢ b) (reverse texts)
turned_differ texts differ i j d before below same =
    let size = length-reverse texts in
    let one = get_or-reverse texts i d (omega arith) in
    let other = get_or-reverse texts j d (omega arith) in
    differ (length texts - 1 - j) (length texts - 1 - i) d (omega arith) (omega arith) (sym other ∙ sym same ∙ one)

pub falling_differ : (texts : Texts) → AllPairs (λ a b. a ≢ b) (reverse (rising texts))
falling_differ texts = turned_differ (rising texts) (rising_differ texts)

-- Owned texts

pub items_push : (old new : List (Vec ℕ Global)) (v : Vec ℕ Global) (text : List ℕ) → new ≡ old ++ v ∷ [] → v.items ≡ text
    → items_of new ≡ items_of old ++ text ∷ []
items_push old new v text put is =
    ap items_of put ∙ map-append (λ (w : Vec ℕ Global). w.items) old (v ∷ []) ∙ ap (λ t. items_of old ++ t ∷ []) is
