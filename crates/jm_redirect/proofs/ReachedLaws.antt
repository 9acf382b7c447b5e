-- One bucket more is given its redirect.
use Rattle.std.proofs.Common.{◌≡◌, ℕ, ◌-◌, ◌<◌, ◌≤◌, inl, inr, Bool, false, List, [], ◌∷◌, ◌++◌, Option, Some}
use Rattle.std.proofs.Common.{None, length, map, set, take, drop, get_or, replicate, All, Contains}
use Rattle.std.proofs.Common.{option_map, refl, sym, ap, ◌∙◌, subst, arith}
use Rattle.std.specs.Option.{option_and_then}
use Rattle.std.proofs.lemmas.Bool.{cases_eq, eq-eqb, ne_eqb, or_right}
use Rattle.std.proofs.lemmas.List.{length-set, length-append, length-replicate, get_or-replicate}
use Rattle.std.proofs.lemmas.List.{get_or-set_same, get_or-set_other, get_or_append_left}
use Rattle.std.proofs.lemmas.List.Elements.{All-head, All-tail}
use Rattle.std.proofs.lemmas.List.FromFn.{fill_by_all, length-map-range_with_len, get_or-map-range_with_len}
use Rattle.std.proofs.Math.Seq.{drop-append_seam}
use Rattle.std.specs.List.{flat_map, range_with_len}
use Rattle.jm_bytes.proofs.Members.{all_from_contains}
use Rattle.jm_bytes.proofs.SameOrder.{from_flat_map}
use Rattle.jm_form.specs.declared.table.Redirect.{Redirect}
use Rattle.jm_form.specs.declared.table.Redirect.TheVariants as redirect
use Rattle.jm_form.specs.Greedy.{greedy, given_in_turn, buckets_in_turn, names_in, redirect_in, redirect_for, slots_led, is_among, table_of}
use Rattle.jm_form.proofs.BucketLaws.{size_in, size_le, from_turn}
use Rattle.jm_form.proofs.FreeLaws.{among_append}
use Rattle.jm_redirect.specs.declared.turns.Turn.{Turn}
use Rattle.jm_redirect.specs.Marks.{Marks, TakenBelow, AllWithin}
use Rattle.jm_redirect.specs.Reached.{Reached, HasNames, turns_in}
use Rattle.jm_redirect.proofs.TurnLaws.{length-turns_in, from_turns_in}

-- the first of the buckets whose turns are left
pub record First (names : List (List ℕ)) (slots : ℕ) (turns : List Turn) (buckets : List ℕ) : Type 0 where
  pub bucket : ℕ
  pub later : List ℕ
  pub is : buckets ≡ bucket ∷ later
  pub below : bucket < slots
  pub some : 0 < size_in names slots bucket
  pub split : turns ≡ turns_in names slots bucket ++ flat_map (turns_in names slots) later

pub first_of : (names : List (List ℕ)) (slots : ℕ) (turns : List Turn) (buckets : List ℕ) → 0 < length turns → turns
    ≡ flat_map (turns_in names slots) buckets → All (HasNames names slots) buckets → First names slots turns buckets
first_of names slots turns [] some is sound = let none = ap length is in absurd (omega arith)
first_of names slots turns (bucket ∷ later) some is sound =
    let here = All-head (HasNames names slots) bucket later sound in
    record { bucket = bucket; later = later; is = refl; below = here.below; some = here.some; split = is }

-- no turn is left, so no bucket is
pub none_left : (names : List (List ℕ)) (slots : ℕ) (turns : List Turn) (buckets : List ℕ) → length turns ≡ 0 → turns
    ≡ flat_map (turns_in names slots) buckets → All (HasNames names slots) buckets → buckets ≡ []
none_left names slots turns [] none is sound = refl
none_left names slots turns (bucket ∷ later) none is sound =
    let here = All-head (HasNames names slots) bucket later sound in
    let long = ap length is ∙ length-append (turns_in names slots bucket) (flat_map (turns_in names slots) later) in
    let size = length-turns_in names slots bucket in
    let some = here.some in
    absurd (omega arith)

-- what the first turn says of the first bucket
pub record Says (names : List (List ℕ)) (slots bucket : ℕ) (later : List ℕ) (turns : List Turn) (turn : Turn) : Type 0 where
  pub bucket_is : turn.bucket ≡ bucket
  pub others : turn.others ≤ length names
  pub size : length names - turn.others ≡ size_in names slots bucket
  pub room : length names - turn.others ≤ length turns
  pub front : take (length names - turn.others) turns ≡ turns_in names slots bucket
  pub back : drop (length names - turn.others) turns ≡ flat_map (turns_in names slots) later

says : (names : List (List ℕ)) (slots bucket : ℕ) (later : List ℕ) (turns : List Turn) (d : Turn) → 0 < size_in names slots bucket
    → turns ≡ turns_in names slots bucket ++ flat_map (turns_in names slots) later → Says names slots bucket later turns (get_or turns 0 d)
says names slots bucket later turns d some split =
    let own = turns_in names slots bucket in
    let rest = flat_map (turns_in names slots) later in
    let turn = get_or turns 0 d in
    let many = length-turns_in names slots bucket in
    let first : turn ≡ get_or own 0 d = ap (λ l. get_or l 0 d) split ∙ get_or_append_left own rest d 0 (omega arith) in
    let there : Contains own turn = (0, omega arith, ap (λ t. get_or own 0 t) first ∙ other own d (omega arith) ∙ sym first) in
    let is = from_turns_in names slots bucket turn there in
    let whole = size_le names slots bucket in
    let others = is.others_is in
    let size : length names - turn.others ≡ size_in names slots bucket = omega arith in
    let count : length names - turn.others ≡ length own = size ∙ sym many in
    let long = ap length split ∙ length-append own rest in
    record {
      bucket_is = is.bucket_is;
      others = omega arith;
      size = size;
      room = omega arith;
      front = ap (λ l. take (length names - turn.others) l) split ∙ ap (λ n. take n (own ++ rest)) count ∙ take_front own rest;
      back = ap (λ l. drop (length names - turn.others) l) split ∙ ap (λ n. drop n (own ++ rest)) count ∙ drop-append_seam own rest;
    }
  where
    other : (xs : List Turn) (e : Turn) → 0 < length xs → get_or xs 0 (get_or xs 0 e) ≡ get_or xs 0 e
    other [] e some = absurd (omega arith)
    other (x ∷ xs) e some = refl

    take_front : (xs ys : List Turn) → take (length xs) (xs ++ ys) ≡ xs
    take_front [] ys = refl
    take_front (x ∷ xs) ys = ap (λ l. x ∷ l) (take_front xs ys)

pub first_says : (names : List (List ℕ)) (slots : ℕ) (turns : List Turn) (buckets : List ℕ) (d : Turn) (first : First names slots
    turns buckets) → Says names slots first.bucket first.later turns (get_or turns 0 d)
first_says names slots turns buckets d first = says names slots first.bucket first.later turns d first.some first.split

-- the turns of buckets are those of names in the list
pub turns_within : (names : List (List ℕ)) (slots : ℕ) (buckets : List ℕ) → AllWithin names (flat_map (turns_in names slots) buckets)
turns_within names slots buckets =
    all_from_contains (λ (turn : Turn). turn.place < length names) (flat_map (turns_in names slots) buckets)
    (λ turn there.
    let from = from_flat_map (turns_in names slots) buckets turn there in
    (from_turns_in names slots from.0 turn from.2).within)

-- what all buckets got, with one more
redirect_set : (slots bucket : ℕ) (r : Redirect) (given : List (ℕ × Redirect)) (redirects : List Redirect) → bucket < slots
    → redirects ≡ map (redirect_in given) (range_with_len 0 slots) → set redirects bucket r
    ≡ map (redirect_in ((bucket, r) ∷ given)) (range_with_len 0 slots)
redirect_set slots bucket r given redirects below got =
    let now = set redirects bucket r in
    let long = ap length got ∙ length-map-range_with_len (redirect_in given) 0 slots in
    fill_by_all (redirect_in ((bucket, r) ∷ given)) now slots redirect.Nowhere (length-set redirects bucket r ∙ long)
    (λ k low. elim (cases_eq k bucket) [
      | inl same ↦ rw (eq-eqb k bucket same) (ap (λ p. get_or now p redirect.Nowhere) same ∙ get_or-set_same redirects bucket r
          redirect.Nowhere (omega arith))
      | inr other ↦ rw (ne_eqb k bucket other) (get_or-set_other redirects bucket k r redirect.Nowhere other
          ∙ ap (λ l. get_or l k redirect.Nowhere) got ∙ get_or-map-range_with_len (redirect_in given) 0 slots k k redirect.Nowhere
          low (omega arith))
    ])

below_more : (free : ℕ) (more taken : List ℕ) → TakenBelow free taken → TakenBelow free (more ++ taken)
below_more free more taken below = record {
  below = λ slot front. among_append more taken slot ∙ or_right (is_among more slot) (is_among taken slot) (below.below slot front);
}

-- one step of the definition
step_some : (names : List (List ℕ)) (slots : ℕ) (taken : List ℕ) (given : List (ℕ × Redirect)) (bucket : ℕ) (later : List ℕ)
    (o : Option Redirect) (r : Redirect) → o ≡ Some r
    → option_and_then (λ x. given_in_turn names slots (slots_led slots x (names_in names slots bucket) ++ taken) ((bucket, x)
    ∷ given) later) o ≡ given_in_turn names slots (slots_led slots r (names_in names slots bucket) ++ taken) ((bucket, r) ∷ given) later
step_some names slots taken given bucket later o r is =
    ap (option_and_then (λ x. given_in_turn names slots (slots_led slots x (names_in names slots bucket) ++ taken) ((bucket, x)
    ∷ given) later)) is

step_none : (names : List (List ℕ)) (slots : ℕ) (taken : List ℕ) (given : List (ℕ × Redirect)) (bucket : ℕ) (later : List ℕ)
    (o : Option Redirect) → o ≡ None
    → option_and_then (λ x. given_in_turn names slots (slots_led slots x (names_in names slots bucket) ++ taken) ((bucket, x)
    ∷ given) later) o ≡ None
step_none names slots taken given bucket later o is =
    ap (option_and_then (λ x. given_in_turn names slots (slots_led slots x (names_in names slots bucket) ++ taken) ((bucket, x)
    ∷ given) later)) is

-- the first bucket was given its redirect
pub reached_next : (names : List (List ℕ)) (slots : ℕ) (flags after : List Bool) (redirects : List Redirect) (free moved : ℕ)
    (turns : List Turn) (reached : Reached names slots flags redirects free turns) (first : First names slots turns reached.buckets)
    (r : Redirect) → redirect_for slots reached.taken (names_in names slots first.bucket) ≡ Some r → length after ≡ slots
    → Marks after (slots_led slots r (names_in names slots first.bucket) ++ reached.taken) → TakenBelow moved reached.taken
    → Reached names slots after (set redirects first.bucket r) moved (flat_map (turns_in names slots) first.later)
reached_next names slots flags after redirects free moved turns reached first r is long marks below = record {
  taken = slots_led slots r (names_in names slots first.bucket) ++ reached.taken;
  given = (first.bucket, r) ∷ reached.given;
  buckets = first.later;
  long = length-set redirects first.bucket r ∙ reached.long;
  size = long;
  marks = marks;
  below = below_more moved (slots_led slots r (names_in names slots first.bucket)) reached.taken below;
  got = redirect_set slots first.bucket r reached.given redirects first.below reached.got;
  left = refl;
  sound = All-tail (HasNames names slots) first.bucket first.later (subst (All (HasNames names slots)) first.is reached.sound);
  leads = reached.leads ∙ ap (given_in_turn names slots reached.taken reached.given) first.is ∙ step_some names slots reached.taken
      reached.given first.bucket first.later (redirect_for slots reached.taken (names_in names slots first.bucket)) r is;
}

-- the first bucket gets none, so there is no table
pub reached_none : (names : List (List ℕ)) (slots : ℕ) (flags : List Bool) (redirects : List Redirect) (free : ℕ)
    (turns : List Turn) (reached : Reached names slots flags redirects free turns) (first : First names slots turns reached.buckets)
    → redirect_for slots reached.taken (names_in names slots first.bucket) ≡ None → greedy names slots ≡ None
reached_none names slots flags redirects free turns reached first is =
    ap (option_map (table_of names slots)) (reached.leads ∙ ap (given_in_turn names slots reached.taken reached.given) first.is
    ∙ step_none names slots reached.taken reached.given first.bucket first.later (redirect_for slots reached.taken
    (names_in names slots first.bucket)) is)

-- all buckets were given theirs
pub reached_all : (names : List (List ℕ)) (slots : ℕ) (flags : List Bool) (redirects : List Redirect) (free : ℕ) (turns : List Turn)
    → length turns ≡ 0 → Reached names slots flags redirects free turns → option_map (λ t. t.redirects) (greedy names slots)
    ≡ Some redirects
reached_all names slots flags redirects free turns none reached =
    let over = none_left names slots turns reached.buckets none reached.left reached.sound in
    ap (λ g. option_map (λ t. t.redirects) (option_map (table_of names slots) g)) (reached.leads
    ∙ ap (given_in_turn names slots reached.taken reached.given) over) ∙ ap (λ (l : List Redirect). Some l) (sym reached.got)

-- no bucket was given one yet
pub reached_start : (names : List (List ℕ)) (slots : ℕ) (turns : List Turn) → turns ≡ flat_map (turns_in names slots)
    (buckets_in_turn names slots) → Reached names slots (replicate slots false) (replicate slots redirect.Nowhere) 0 turns
reached_start names slots turns is = record {
  taken = [];
  given = [];
  buckets = buckets_in_turn names slots;
  long = length-replicate slots redirect.Nowhere;
  size = length-replicate slots false;
  marks = record { at = λ slot below. let long = length-replicate slots false in get_or-replicate slots slot false false (omega arith) };
  below = record { below = λ slot front. absurd (omega arith) };
  got = fill_by_all (redirect_in []) (replicate slots redirect.Nowhere) slots redirect.Nowhere
      (length-replicate slots redirect.Nowhere) (λ k low. get_or-replicate slots k redirect.Nowhere redirect.Nowhere low);
  left = is;
  sound = all_from_contains (HasNames names slots) (buckets_in_turn names slots)
      (λ bucket there. let from = from_turn names slots bucket there in record { below = from.below; some = from.some });
  leads = refl;
}
