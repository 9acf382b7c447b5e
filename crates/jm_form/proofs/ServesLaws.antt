-- A greedy table serves its names.
use Rattle.std.proofs.Common.{◌≡◌, ◌≢◌, ℕ, zero, suc, ◌-◌, ◌%◌, ◌^◌, ◌==◌, ◌<◌, ◌≤◌, ◌⊎◌, inl, inr, Bool}
use Rattle.std.proofs.Common.{true, false, not, cond, ◌||◌, List, [], ◌∷◌, ◌++◌, Option, Some, None, length}
use Rattle.std.proofs.Common.{map, get_or, All, AllPairs, Contains, option_map, refl, sym, ap, ◌∙◌, subst}
use Rattle.std.proofs.Common.{arith}
use Rattle.std.specs.Option.{option_and_then}
use Rattle.std.proofs.lemmas.Bool.{false≢true, and_parts, not-true, cases_eq, eqb-true, eq-eqb, ne_eqb, lt-ltb, le-ltb, or_left, or_right}
use Rattle.std.proofs.lemmas.List.{get_or-map, length-map}
use Rattle.std.proofs.lemmas.List.Elements.{All-contains, All-map, All-nil, Contains-get_or}
use Rattle.std.proofs.lemmas.List.FromFn.{length-range_with_len, length-map-range_with_len, get_or-map-range_with_len}
use Rattle.std.proofs.lemmas.List.Kept.{AllPairs-cons}
use Rattle.std.specs.List.{filter, filter_map, cons_option, range_with_len, list_all}
use Rattle.jm_bytes.proofs.Choice.{same_some}
use Rattle.jm_bytes.proofs.Finds.{find_found}
use Rattle.jm_bytes.proofs.Members.{contains_none, contains_here, contains_later, contains_cases}
use Rattle.jm_bytes.proofs.Members.{contains_filter, contains_filter_map, from_range, any_contains}
use Rattle.jm_bytes.proofs.Members.{all_from_contains}
use Rattle.jm_bytes.proofs.Pairs.{pairs_none, pairs_head, pairs_tail, pairs_filter_map}
use Rattle.jm_names.specs.Hash.{hash}
use Rattle.jm_form.specs.declared.table.Redirect.{Redirect}
use Rattle.jm_form.specs.declared.table.Redirect.TheVariants as redirect
use Rattle.jm_form.specs.Greedy.{GreedyTable, greedy, given_in_turn, buckets_in_turn, names_in, bucket_of}
use Rattle.jm_form.specs.Greedy.{redirect_in, redirect_for, slots_led, is_among, differ, fits, least_seed}
use Rattle.jm_form.specs.Greedy.{least_free, seeds, table_of, word_of}
use Rattle.jm_form.specs.Serves.{Serves}
use Rattle.jm_form.specs.Table.{redirect_of, slot_of}
use Rattle.jm_form.proofs.BucketLaws.{size_in, contains_turn, turns_differ}
use Rattle.jm_form.proofs.FreeLaws.{among_append, free_untaken}

-- Words

-- a redirect that a word of 32 bits says
abbrev pub HasWord : Redirect → Type 0
HasWord redirect.Nowhere = Unit {0}
HasWord (redirect.Slot slot) = slot < 2 ^ 31
HasWord (redirect.Seed seed) = (0 < seed) × (seed < 2 ^ 31)

pub word_of-lt : (r : Redirect) → HasWord r → word_of r < 2 ^ 32
word_of-lt redirect.Nowhere has = omega arith
word_of-lt (redirect.Slot slot) has = omega arith
word_of-lt (redirect.Seed seed) (some, below) = omega arith

-- the word is read back
pub redirect_of-word_of : (r : Redirect) → HasWord r → redirect_of (word_of r) ≡ r
redirect_of-word_of redirect.Nowhere has = refl
redirect_of-word_of (redirect.Slot slot) has =
    let word : ℕ = 2 ^ 32 - 1 - slot in
    let not_zero : word == 0 ≡ false = ne_eqb word 0 (λ e. omega arith) in
    let not_seed = le-ltb word (2 ^ 31) (omega arith) in
    let back : 2 ^ 32 - 1 - word ≡ slot = omega arith in
    rw (not_zero, not_seed) (ap (λ s. redirect.Slot s) back)
redirect_of-word_of (redirect.Seed seed) (some, below) =
    let not_zero : seed == 0 ≡ false = ne_eqb seed 0 (λ e. omega arith) in
    rw (not_zero, lt-ltb seed (2 ^ 31) below) refl

-- What one bucket gets

-- a redirect that leads each of the names to a slot of its own that wasn't taken
pub record Gets (slots : ℕ) (taken : List ℕ) (names : List (List ℕ)) (r : Redirect) : Type 0 where
  pub led : (name : List ℕ) → Contains names name → (slot : ℕ) × (slot_of slots name r ≡ Some slot)
  pub differs : differ (slots_led slots r names) ≡ true
  pub untaken : (slot : ℕ) → is_among (slots_led slots r names) slot ≡ true → is_among taken slot ≡ false
  pub word : HasWord r

gets_seed : (slots : ℕ) (taken : List ℕ) (names : List (List ℕ)) (seed : ℕ) → 0 < slots → least_seed slots taken names ≡ Some seed
    → Gets slots taken names (redirect.Seed seed)
unfolding seeds
gets_seed slots taken names seed some is =
    let found = find_found (fits slots taken names) seeds seed is in
    let range = from_range 1 1000 seed found.0 in
    let sent = slots_led slots (redirect.Seed seed) names in
    let differs = (and_parts (differ sent) (list_all (λ s. not (is_among taken s)) sent) found.1).0 in
    record {
      led = λ name there. (
        hash seed name % slots,
        ap (λ b. cond b (Some (hash seed name % slots)) None)
            (lt-ltb (hash seed name % slots) slots (omega arith)),
      );
      differs = differs;
      untaken = λ slot there. free_untaken taken sent slot found.1 there;
      word = (omega (arith, range.0), omega (arith, range.1));
    }

gets_slot : (slots : ℕ) (taken : List ℕ) (names : List (List ℕ)) (slot : ℕ) → slots < 2 ^ 31 → length names ≡ 1
    → least_free slots taken ≡ Some slot → Gets slots taken names (redirect.Slot slot)
gets_slot slots taken [] slot few one is = absurd (omega arith)
gets_slot slots taken (name ∷ (other ∷ names)) slot few one is = absurd (omega arith)
gets_slot slots taken (name ∷ []) slot few one is =
    let found = find_found (λ s. not (is_among taken s)) (range_with_len 0 slots) slot is in
    let range = from_range 0 slots slot found.0 in
    let below : slot < slots = omega (arith, range.1) in
    let led_one : (n : List ℕ) → slot_of slots n (redirect.Slot slot) ≡ Some slot = λ n. ap (λ b. cond b (Some slot) None)
    (lt-ltb slot slots below) in
    let only : slots_led slots (redirect.Slot slot) (name ∷ []) ≡ slot ∷ [] = ap (λ o. cons_option o []) (led_one name) in
    record {
      led = λ n there. (slot, led_one n);
      differs = ap differ only;
      untaken = λ s there.
          let same = eqb-true slot s (or_false (slot == s) (sym (ap (λ l. is_among l s) only) ∙ there)) in
          ap (is_among taken) (sym same) ∙ not-true (is_among taken slot) found.1;
      word = omega arith;
    }
  where
    or_false : (b : Bool) → (b || false) ≡ true → b ≡ true
    or_false true e = refl
    or_false false e = e

gets : (slots : ℕ) (taken : List ℕ) (names : List (List ℕ)) (r : Redirect) → 0 < slots → slots < 2 ^ 31
    → redirect_for slots taken names ≡ Some r → Gets slots taken names r
gets slots taken names r some few is = go (length names == 1) refl is
  where
    by_slot : (o : Option ℕ) → least_free slots taken ≡ o → length names ≡ 1 → option_map (λ slot. redirect.Slot slot) o ≡ Some r
        → Gets slots taken names r
    by_slot None e one is = cc
    by_slot (Some slot) e one is = subst (Gets slots taken names) (same_some (redirect.Slot slot) r is) (gets_slot slots taken names
        slot few one e)

    by_seed : (o : Option ℕ) → least_seed slots taken names ≡ o → option_map (λ seed. redirect.Seed seed) o ≡ Some r
        → Gets slots taken names r
    by_seed None e is = cc
    by_seed (Some seed) e is = subst (Gets slots taken names) (same_some (redirect.Seed seed) r is) (gets_seed slots taken names
        seed some e)

    go : (b : Bool) → length names == 1 ≡ b → cond b (option_map (λ slot. redirect.Slot slot) (least_free slots taken))
        (option_map (λ seed. redirect.Seed seed) (least_seed slots taken names)) ≡ Some r → Gets slots taken names r
    go true one is = by_slot (least_free slots taken) refl (eqb-true (length names) 1 one) is
    go false many is = by_seed (least_seed slots taken names) refl is

-- Lists of names with their slots

-- the slots of two names differ, if both have one
abbrev Apart : (List ℕ → Option ℕ) → List ℕ → List ℕ → Type 0
Apart g x y = (a b : ℕ) → g x ≡ Some a → g y ≡ Some b → a ≢ b

among_led : (g : List ℕ → Option ℕ) (names : List (List ℕ)) (name : List ℕ) (slot : ℕ) → Contains names name → g name ≡ Some slot
    → is_among (filter_map g names) slot ≡ true
among_led g names name slot there is = any_contains (λ other. other == slot) (filter_map g names) slot (contains_filter_map g names
    name slot there is) (eq-eqb slot slot refl)

pairs_from_differ : (g : List ℕ → Option ℕ) (names : List (List ℕ)) → differ (filter_map g names) ≡ true → AllPairs (Apart g) names
pairs_from_differ g [] differs = pairs_none (Apart g)
pairs_from_differ g (x ∷ xs) differs = go (g x) refl differs (λ rest. pairs_from_differ g xs rest)
  where
    go : (o : Option ℕ) → g x ≡ o → differ (cons_option o (filter_map g xs)) ≡ true → (differ (filter_map g xs) ≡ true
        → AllPairs (Apart g) xs) → AllPairs (Apart g) (x ∷ xs)
    go None e differs rest = AllPairs-cons (Apart g) x xs (all_from_contains (Apart g x) xs (λ y there a b ga gb same. cc)) (rest differs)
    go (Some s) e differs rest =
        let parts = and_parts (not (is_among (filter_map g xs) s)) (differ (filter_map g xs)) differs in
        let new = not-true (is_among (filter_map g xs) s) parts.0 in
        AllPairs-cons (Apart g) x xs
        (all_from_contains (Apart g x) xs
        (λ y there a b ga gb same.
        let own : s ≡ b = same_some s a (sym e ∙ ga) ∙ same in
        let again = among_led g xs y b there gb in
        false≢true (sym new ∙ ap (is_among (filter_map g xs)) own ∙ again)))
        (rest parts.1)

-- a relation of the elements that pass
filter_pairs : {X : Type 0} (P : X → Bool) (R : X → X → Type 0) (xs : List X) → AllPairs R (filter P xs)
    → AllPairs (λ x y. P x ≡ true → P y ≡ true → R x y) xs
filter_pairs P R [] pairs = pairs_none (λ x y. P x ≡ true → P y ≡ true → R x y)
filter_pairs {X} P R (x ∷ xs) pairs = go (P x) refl pairs (λ rest. filter_pairs P R xs rest)
  where
    go : (b : Bool) → P x ≡ b → AllPairs R (cond b (x ∷ filter P xs) (filter P xs)) → (AllPairs R (filter P xs)
        → AllPairs (λ y z. P y ≡ true → P z ≡ true → R y z) xs) → AllPairs (λ y z. P y ≡ true → P z ≡ true → R y z) (x ∷ xs)
    go true e pairs rest =
        AllPairs-cons (λ y z. P y ≡ true → P z ≡ true → R y z) x xs (all_from_contains (λ z. P x ≡ true → P z ≡ true → R x z) xs
        (λ z there px pz. All-contains (R x) (filter P xs) z (pairs_head R x (filter P xs) pairs) (contains_filter P xs z there
        pz))) (rest (pairs_tail R x (filter P xs) pairs))
    go false e pairs rest =
        AllPairs-cons (λ y z. P y ≡ true → P z ≡ true → R y z) x xs (all_from_contains (λ z. P x ≡ true → P z ≡ true → R x z) xs
        (λ z there px pz. absurd (false≢true (sym e ∙ px)))) (rest pairs)

-- a function that gives something of each element
record GivesAll {X : Type 0} (f : X → Option ℕ) (xs : List X) : Type 0 where
  many : length (filter_map f xs) ≡ length xs
  each : (k : ℕ) (d : X) → k < length xs → f (get_or xs k d) ≡ Some (get_or (filter_map f xs) k 0)

gives_all : {X : Type 0} (f : X → Option ℕ) (xs : List X) → ((x : X) → Contains xs x → (y : ℕ) × (f x ≡ Some y)) → GivesAll f xs
gives_all f [] gives = record { many = refl; each = λ k d below. absurd (omega arith) }
gives_all {X} f (x ∷ xs) gives = go (f x) refl (gives x (contains_here x xs))
    (gives_all f xs (λ y there. gives y (contains_later x xs y there)))
  where
    go : (o : Option ℕ) → f x ≡ o → (y : ℕ) × (f x ≡ Some y) → GivesAll f xs → GivesAll f (x ∷ xs)
    go None e (y, is) rest = cc
    go (Some y) e gave rest =
        let whole : filter_map f (x ∷ xs) ≡ y ∷ filter_map f xs = ap (λ o. cons_option o (filter_map f xs)) e in
        record {
          many = ap length whole ∙ ap suc rest.many;
          each = λ k d below. at k d below ∙ ap (λ l. Some (get_or l k 0)) (sym whole);
        }
      where
        at : (k : ℕ) (d : X) → k < suc (length xs) → f (get_or (x ∷ xs) k d) ≡ Some (get_or (y ∷ filter_map f xs) k 0)
        at zero d below = e
        at (suc k) d below = rest.each k d (omega arith)

-- What all buckets get

abbrev NotIn : List ℕ → ℕ → Type 0
NotIn done bucket = Contains done bucket → ⊥

-- what was given so far serves the names of some buckets, whose slots are taken
record Kept (names : List (List ℕ)) (slots : ℕ) (taken : List ℕ) (given : List (ℕ × Redirect)) (done : List ℕ) : Type 0 where
  led : (b : ℕ) → Contains done b → (name : List ℕ) → Contains (names_in names slots b) name → (slot : ℕ)
      × (slot_of slots name (redirect_in given b) ≡ Some slot) × (is_among taken slot ≡ true)
  differs : (b : ℕ) → Contains done b → differ (slots_led slots (redirect_in given b) (names_in names slots b)) ≡ true
  apart : (a b : ℕ) → Contains done a → Contains done b → a ≢ b → (m n : List ℕ) → Contains (names_in names slots a) m
      → Contains (names_in names slots b) n → (s : ℕ) → slot_of slots m (redirect_in given a) ≡ Some s
      → slot_of slots n (redirect_in given b) ≡ Some s → ⊥
  word : (b : ℕ) → HasWord (redirect_in given b)

at_new : (given : List (ℕ × Redirect)) (k b : ℕ) (r : Redirect) → k ≡ b → redirect_in ((k, r) ∷ given) b ≡ r
at_new given k b r same = rw (eq-eqb b k (sym same)) refl

at_old : (given : List (ℕ × Redirect)) (k b : ℕ) (r : Redirect) → (k ≡ b → ⊥) → redirect_in ((k, r) ∷ given) b ≡ redirect_in given b
at_old given k b r other = rw (ne_eqb b k (λ e. other (sym e))) refl

kept_next : (names : List (List ℕ)) (slots : ℕ) (taken : List ℕ) (given : List (ℕ × Redirect)) (done : List ℕ) (k : ℕ)
    (r : Redirect) → Kept names slots taken given done → Gets slots taken (names_in names slots k) r → NotIn done k
    → Kept names slots (slots_led slots r (names_in names slots k) ++ taken) ((k, r) ∷ given) (k ∷ done)
kept_next names slots taken given done k r kept got new = record {
  led = λ b there name of. led b name of (contains_cases k done b there);
  differs = λ b there. differs b (contains_cases k done b there);
  apart = λ a b in_a in_b other m n of_a of_b s sm sn. apart a b other m n of_a of_b s (contains_cases k done a in_a)
      (contains_cases k done b in_b) sm sn;
  word = λ b. word b (cases_eq k b);
}
  where
    now : List (ℕ × Redirect)
    now = (k, r) ∷ given

    mine : List ℕ
    mine = slots_led slots r (names_in names slots k)

    distinct : (b : ℕ) → Contains done b → k ≡ b → ⊥
    distinct b there same = new (subst (Contains done) (sym same) there)

    moved : (b : ℕ) → k ≡ b → (name : List ℕ) → Contains (names_in names slots b) name → Contains (names_in names slots k) name
    moved b same name there = subst (λ x. Contains (names_in names slots x) name) (sym same) there

    led : (b : ℕ) (name : List ℕ) → Contains (names_in names slots b) name → (k ≡ b) ⊎ Contains done b → (slot : ℕ)
        × (slot_of slots name (redirect_in now b) ≡ Some slot) × (is_among (mine ++ taken) slot ≡ true)
    led b name of (inl same) =
        let here = moved b same name of in
        let one = got.led name here in
        let among = among_led (λ n. slot_of slots n r) (names_in names slots k) name one.0 here one.1 in (
          one.0,
          ap (slot_of slots name) (at_new given k b r same) ∙ one.1,
          among_append mine taken one.0
              ∙ or_left (is_among mine one.0) (is_among taken one.0) among,
        )
    led b name of (inr later) =
        let one = kept.led b later name of in (
          one.0,
          ap (slot_of slots name) (at_old given k b r (distinct b later)) ∙ one.1,
          among_append mine taken one.0
              ∙ or_right (is_among mine one.0) (is_among taken one.0) one.2,
        )

    differs : (b : ℕ) → (k ≡ b) ⊎ Contains done b → differ (slots_led slots (redirect_in now b) (names_in names slots b)) ≡ true
    differs b (inl same) = ap (λ g. differ (slots_led slots g (names_in names slots b))) (at_new given k b r same)
        ∙ ap (λ x. differ (slots_led slots r (names_in names slots x))) (sym same) ∙ got.differs
    differs b (inr later) = ap (λ g. differ (slots_led slots g (names_in names slots b))) (at_old given k b r (distinct b later))
        ∙ kept.differs b later

    -- a slot of the new bucket isn't one of an old one
    clash : (b : ℕ) → Contains done b → (m n : List ℕ) → Contains (names_in names slots k) m → Contains (names_in names slots b) n
        → (s : ℕ) → slot_of slots m r ≡ Some s → slot_of slots n (redirect_in given b) ≡ Some s → ⊥
    clash b later m n of_k of_b s sm sn =
        let old = kept.led b later n of_b in
        let same = same_some s old.0 (sym sn ∙ old.1) in
        let among = among_led (λ x. slot_of slots x r) (names_in names slots k) m s of_k sm in
        false≢true (sym (got.untaken s among) ∙ ap (is_among taken) same ∙ old.2)

    apart : (a b : ℕ) → a ≢ b → (m n : List ℕ) → Contains (names_in names slots a) m → Contains (names_in names slots b) n → (s : ℕ)
        → (k ≡ a) ⊎ Contains done a → (k ≡ b) ⊎ Contains done b → slot_of slots m (redirect_in now a) ≡ Some s
        → slot_of slots n (redirect_in now b) ≡ Some s → ⊥
    apart a b other m n of_a of_b s (inl one) (inl two) sm sn = other (sym one ∙ two)
    apart a b other m n of_a of_b s (inl one) (inr two) sm sn =
        clash b two m n (moved a one m of_a) of_b s (ap (slot_of slots m) (sym (at_new given k a r one)) ∙ sm)
        (ap (slot_of slots n) (sym (at_old given k b r (distinct b two))) ∙ sn)
    apart a b other m n of_a of_b s (inr one) (inl two) sm sn =
        clash a one n m (moved b two n of_b) of_a s (ap (slot_of slots n) (sym (at_new given k b r two)) ∙ sn)
        (ap (slot_of slots m) (sym (at_old given k a r (distinct a one))) ∙ sm)
    apart a b other m n of_a of_b s (inr one) (inr two) sm sn =
        kept.apart a b one two other m n of_a of_b s (ap (slot_of slots m) (sym (at_old given k a r (distinct a one))) ∙ sm)
        (ap (slot_of slots n) (sym (at_old given k b r (distinct b two))) ∙ sn)

    word : (b : ℕ) → (k ≡ b) ⊎ (k ≡ b → ⊥) → HasWord (redirect_in now b)
    word b (inl same) = subst HasWord (sym (at_new given k b r same)) got.word
    word b (inr other) = subst HasWord (sym (at_old given k b r other)) (kept.word b)

-- what all buckets got
record KeptAll (names : List (List ℕ)) (slots : ℕ) (final : List (ℕ × Redirect)) (done buckets : List ℕ) : Type 0 where
  taken : List ℕ
  all : List ℕ
  kept : Kept names slots taken final all
  before : (b : ℕ) → Contains done b → Contains all b
  now : (b : ℕ) → Contains buckets b → Contains all b

kept_all : (names : List (List ℕ)) (slots : ℕ) (taken : List ℕ) (given final : List (ℕ × Redirect)) (done buckets : List ℕ)
    → 0 < slots → slots < 2 ^ 31 → given_in_turn names slots taken given buckets ≡ Some final → Kept names slots taken given done
    → AllPairs (λ a b. a ≢ b) buckets → ((b : ℕ) → Contains buckets b → NotIn done b) → KeptAll names slots final done buckets
kept_all names slots taken given final done [] some few is kept pairs new = record {
  taken = taken;
  all = done;
  kept = subst (λ g. Kept names slots taken g done) (same_some given final is) kept;
  before = λ b there. there;
  now = λ b there. absurd (contains_none b there);
}
kept_all names slots taken given final done (k ∷ buckets) some few is kept pairs new =
    go (redirect_for slots taken (names_in names slots k)) refl is
    (λ r next got.
    kept_all names slots (slots_led slots r (names_in names slots k) ++ taken) ((k, r) ∷ given) final (k ∷ done) buckets some few
    next (kept_next names slots taken given done k r kept got (new k (contains_here k buckets))) (pairs_tail (λ a b. a ≢ b) k
    buckets pairs)
    (λ b there in_done. elim (contains_cases k done b in_done) [
      | inl same ↦ All-contains (λ x. k ≢ x) buckets b (pairs_head (λ a c. a ≢ c) k buckets pairs) there same
      | inr later ↦ new b (contains_later k buckets b there) later
    ]))
  where
    after : Redirect → Option (List (ℕ × Redirect))
    after r = given_in_turn names slots (slots_led slots r (names_in names slots k) ++ taken) ((k, r) ∷ given) buckets

    widened : KeptAll names slots final (k ∷ done) buckets → KeptAll names slots final done (k ∷ buckets)
    widened rest = record {
      taken = rest.taken;
      all = rest.all;
      kept = rest.kept;
      before = λ b there. rest.before b (contains_later k done b there);
      now = λ b there. elim (contains_cases k buckets b there) [
        | inl same ↦ subst (Contains rest.all) same (rest.before k (contains_here k done))
        | inr later ↦ rest.now b later
      ];
    }

    go : (o : Option Redirect) → redirect_for slots taken (names_in names slots k) ≡ o → option_and_then after o ≡ Some final
        → ((r : Redirect) → after r ≡ Some final → Gets slots taken (names_in names slots k) r
        → KeptAll names slots final (k ∷ done) buckets) → KeptAll names slots final done (k ∷ buckets)
    go None e is rest = cc
    go (Some r) e is rest = widened (rest r is (gets slots taken (names_in names slots k) r some few e))

-- The whole table

module _ (names : List (List ℕ)) (slots : ℕ) (given : List (ℕ × Redirect)) (some : 0 < slots) (few : slots < 2 ^ 31)
    (is : given_in_turn names slots [] [] (buckets_in_turn names slots) ≡ Some given) where
  all_kept : KeptAll names slots given [] (buckets_in_turn names slots)
  all_kept = kept_all names slots [] [] given [] (buckets_in_turn names slots) some few is
      (record {
        led = λ b there. absurd (contains_none b there);
        differs = λ b there. absurd (contains_none b there);
        apart = λ a b there. absurd (contains_none a there);
        word = λ b. tt;
      })
      (turns_differ names slots) (λ b there none. contains_none b none)

  slot_given : List ℕ → Option ℕ
  slot_given name = slot_of slots name (redirect_in given (bucket_of slots name))

  name_in : (name : List ℕ) → Contains names name → Contains (names_in names slots (bucket_of slots name)) name
  name_in name there = contains_filter (λ n. bucket_of slots n == bucket_of slots name) names name there
      (eq-eqb (bucket_of slots name) (bucket_of slots name) refl)

  bucket_taken : (name : List ℕ) → Contains names name → Contains all_kept.all (bucket_of slots name)
  bucket_taken name there =
      let here = name_in name there in
      let many : 0 < size_in names slots (bucket_of slots name) = omega (arith, here.1) in
      let below : bucket_of slots name < slots = omega arith in
      all_kept.now (bucket_of slots name) (contains_turn names slots (bucket_of slots name) below many)

  each_given : (name : List ℕ) → Contains names name → (slot : ℕ) × (slot_given name ≡ Some slot)
  unfolding slot_given
  each_given name there =
      let one = all_kept.kept.led (bucket_of slots name) (bucket_taken name there) name (name_in name there) in (one.0, one.1)

  names_apart : AllPairs (Apart slot_given) names
  unfolding slot_given
  names_apart i j d before below =
      let x = get_or names i d in
      let y = get_or names j d in
      let in_x = Contains-get_or names i d (omega arith) in
      let in_y = Contains-get_or names j d below in
      let bucket = bucket_of slots x in
      elim (cases_eq bucket (bucket_of slots y)) [
        | inl same ↦ λ a b ga gb.
            let led : List ℕ → Option ℕ = λ n. slot_of slots n (redirect_in given bucket) in
            let within = filter_pairs (λ n. bucket_of slots n == bucket) (Apart led) names
            (pairs_from_differ led (names_in names slots bucket) (all_kept.kept.differs bucket (bucket_taken x in_x))) in
            within i j d before below (eq-eqb bucket bucket refl) (eq-eqb (bucket_of slots y) bucket (sym same)) a b ga
            (ap (λ k. slot_of slots y (redirect_in given k)) same ∙ gb)
        | inr other ↦ λ a b ga gb equal.
            all_kept.kept.apart bucket (bucket_of slots y) (bucket_taken x in_x) (bucket_taken y in_y) other x y (name_in x in_x)
            (name_in y in_y) a ga (gb ∙ ap (λ (s : ℕ). Some s) (sym equal))
      ]

  word_read : (bucket : ℕ) → bucket < slots → redirect_of (get_or (map word_of (map (redirect_in given) (range_with_len 0 slots)))
      bucket 0) ≡ redirect_in given bucket
  word_read bucket below =
      let redirects = map (redirect_in given) (range_with_len 0 slots) in
      let long = length-map-range_with_len (redirect_in given) 0 slots in
      let got = get_or-map-range_with_len (redirect_in given) 0 slots bucket bucket redirect.Nowhere below (omega arith) in
      ap redirect_of (get_or-map word_of redirects bucket redirect.Nowhere 0 (omega arith) ∙ ap word_of got)
      ∙ redirect_of-word_of (redirect_in given bucket) (all_kept.kept.word bucket)

  serves_given : Serves names slots (map word_of (table_of names slots given).redirects) (table_of names slots given).slots
  unfolding slot_given
  serves_given =
      let all = gives_all slot_given names each_given in
      let redirects = map (redirect_in given) (range_with_len 0 slots) in
      record {
        words_length = simp length-map (length-range_with_len 0 slots);
        given_length = all.many;
        led = λ place inside.
            let name = get_or names place [] in
            ap (slot_of slots name) (word_read (bucket_of slots name) (omega arith)) ∙ all.each place [] inside;
        apart = pairs_filter_map (Apart slot_given) (λ a b. a ≢ b) slot_given (λ x y apart a b ga gb. apart a b ga gb) names names_apart;
      }

  words_given : All (λ r. word_of r < 2 ^ 32) (table_of names slots given).redirects
  words_given = All-map (λ r. word_of r < 2 ^ 32) (redirect_in given) (range_with_len 0 slots)
      (λ k d below. word_of-lt (redirect_in given (get_or (range_with_len 0 slots) k d))
      (all_kept.kept.word (get_or (range_with_len 0 slots) k d)))

-- what holds of a greedy table
pub record Served (names : List (List ℕ)) (slots : ℕ) (table : GreedyTable) : Type 0 where
  pub serves : Serves names slots (map word_of table.redirects) table.slots
  pub words : All (λ r. word_of r < 2 ^ 32) table.redirects

-- a table of no slot has no name
nothing_served : (names : List (List ℕ)) (given : List (ℕ × Redirect)) → length names ≤ 0 → Served names 0 (table_of names 0 given)
nothing_served [] given none = record {
  serves = record {
    words_length = refl;
    given_length = refl;
    led = λ place inside. absurd (omega arith);
    apart = pairs_none (λ a b. a ≢ b);
  };
  words = All-nil (λ r. word_of r < 2 ^ 32);
}
nothing_served (name ∷ names) given none = absurd (omega arith)

-- a greedy table leads each of its names to its slot, and no two of them share one
pub greedy_serves : (names : List (List ℕ)) (slots : ℕ) (table : GreedyTable) → length names ≤ slots → slots < 2 ^ 31
    → greedy names slots ≡ Some table → Served names slots table
greedy_serves names slots table enough few is = go (given_in_turn names slots [] [] (buckets_in_turn names slots)) refl is
  where
    served : (given : List (ℕ × Redirect)) → given_in_turn names slots [] [] (buckets_in_turn names slots) ≡ Some given
        → Served names slots (table_of names slots given)
    served given e = elim (cases_eq slots 0) [
      | inl none ↦ subst (λ n. Served names n (table_of names n given)) (sym none) (nothing_served names given (omega arith))
      | inr some ↦
          let positive : 0 < slots = omega arith in
          record { serves = serves_given names slots given positive few e; words = words_given names slots given positive few e }
    ]

    go : (o : Option (List (ℕ × Redirect))) → given_in_turn names slots [] [] (buckets_in_turn names slots) ≡ o
        → option_map (table_of names slots) o ≡ Some table → Served names slots table
    go None e is = cc
    go (Some given) e is = subst (Served names slots) (same_some (table_of names slots given) table is) (served given e)
