-- Classes made anew, put at their places one after another, are the pairs with these texts.
use Rattle.std.proofs.Common.{◌≡◌, ℕ, zero, suc, ◌+◌, ◌<◌, inl, inr, List, [], ◌∷◌, ◌++◌, Bool, true, false, rules}
use Rattle.std.proofs.Common.{cond, Result, Ok, Err, Some, All, length, drop, ◌≤◌, get_or, slice_get}
use Rattle.std.proofs.Common.{refl, sym, ap, subst, ◌∙◌, arith, append_assoc, append-nil}
use Rattle.std.proofs.lemmas.Bool.{false≢true}
use Rattle.std.proofs.lemmas.List.{length_push, drop_more, drop_all}
use Rattle.std.proofs.lemmas.Option.{get_or_from_slice_get}
use Rattle.std.proofs.lemmas.List.Elements.{All-nil, All-cons, All-head, All-tail, All-weaker}
use Rattle.std.specs.List.{AllZip}
use Rattle.jm_bytes.proofs.Choice.{same_ok}
use Rattle.jm_class.specs.Classes.{ClassData}
use Rattle.jm_class.specs.Layouts.{fault_of}
use Rattle.jm_class.specs.Releases.{class_for, fault_for}
use Rattle.jm_class.specs.declared.class.ClassFault.{ClassFault}
use Rattle.jm_class.proofs.ReleaseLaws.{reads-class_for}
use Rattle.jm_compact.specs.Compact.{compact_for, compact_text, with_text}
use Rattle.jm_packages.specs.Packages.{packages_text, ListsFor}
use Rattle.jm_pool.specs.Pairs.{names_of, with_bytes_at}
use Rattle.jm_strip.specs.Strip.{StripsFor}
use Rattle.jm_plugins.specs.declared.chain.BadClass.{BadClass}
use Rattle.jm_plugins.specs.declared.classes.Remade.{Remade}
use Rattle.jm_bytes.specs.declared.faults.Or.{Or}
use Rattle.jm_bytes.specs.declared.faults.Or.TheVariants.{Fault, Memory}
use Rattle.jm_bytes.specs.Results.{followed, IfAnswered, UnlessMemory}
use Rattle.jm_pool.proofs.PairLaws.{zipped}
use Rattle.jm_plugins.specs.ComputedPlugins.{bad_class, remade, remade_pair, remade_pairs, stripped_text}
use Rattle.jm_plugins.specs.Steps.{class_places, put_remade, put_one, IsRemade, ReadsByRule, Refuses, RemadeAs, TakenRead}
use Rattle.jm_plugins.proofs.Beside.{at_front}

-- Pairs with other bytes at a place

pub replaced : (done rest : List (List ℕ × List ℕ)) (pair : List ℕ × List ℕ) (text : List ℕ) → with_bytes_at (done ++ pair ∷ rest)
    (length done) text ≡ done ++ (pair.0, text) ∷ rest
replaced [] rest pair text = ap (λ l. (pair.0, text) ∷ l) (zipped rest)
replaced (p ∷ done) rest pair text = ap (λ l. p ∷ l) (replaced done rest pair text)

name_there : (done rest : List (List ℕ × List ℕ)) (pair : List ℕ × List ℕ) → get_or (names_of (done ++ pair ∷ rest)) (length done)
    [] ≡ pair.0
name_there [] rest pair = refl
name_there (p ∷ done) rest pair = name_there done rest pair

pub as_many : (pairs : List (List ℕ × List ℕ)) (place : ℕ) (text : List ℕ) → length (with_bytes_at pairs place text) ≡ length pairs
as_many [] place text = refl
as_many (p ∷ pairs) zero text = ap (λ l. suc (length l)) (zipped pairs)
as_many (p ∷ pairs) (suc place) text = ap suc (as_many pairs place text)

-- Places of classes

places_within : (takes : List ℕ → Bool) (at : ℕ) (pairs : List (List ℕ × List ℕ)) → All (λ place. place < at + length pairs)
    (class_places takes at pairs)
places_within takes at [] = All-nil (λ place. place < at + 0)
places_within takes at (pair ∷ pairs) = go (takes pair.0) (All-weaker (λ place. place < at + 1 + length pairs) (λ place. place < at
    + length (pair ∷ pairs)) (λ place below. omega arith) (class_places takes (at + 1) pairs) (places_within takes (at + 1) pairs))
  where
    go : (b : Bool) → All (λ place. place < at + length (pair ∷ pairs)) (class_places takes (at + 1) pairs)
        → All (λ place. place < at + length (pair ∷ pairs)) (cond b (at ∷ class_places takes (at + 1) pairs)
        (class_places takes (at + 1) pairs))
    go true rest = All-cons (λ place. place < at + length (pair ∷ pairs)) at (class_places takes (at + 1) pairs) (omega arith) rest
    go false rest = rest

pub classes_within : (takes : List ℕ → Bool) (pairs : List (List ℕ × List ℕ)) → All (λ place. place < length pairs)
    (class_places takes 0 pairs)
classes_within takes pairs = omega (arith, places_within)

-- the classes after a place, with one place more at the front
module _ (takes : List ℕ → Bool) (pairs : List (List ℕ × List ℕ)) (place : ℕ) (pair : List ℕ × List ℕ)
    (there : slice_get pairs place ≡ Some pair) (below : place < length pairs) where
  one_more : class_places takes place (drop place pairs) ≡ class_places takes place (pair ∷ drop (place + 1) pairs)
  one_more = ap (class_places takes place) (drop_more pairs place pair below ∙ ap (λ p. p ∷ drop (place + 1) pairs)
      (get_or_from_slice_get pairs place pair pair there))

  pub class_next : (found all : List ℕ) → takes pair.0 ≡ true → found ++ class_places takes place (drop place pairs) ≡ all
      → (found ++ place ∷ []) ++ class_places takes (place + 1) (drop (place + 1) pairs) ≡ all
  class_next found all named so_far = search (rules, append_assoc, one_more)

  pub other_next : (found all : List ℕ) → takes pair.0 ≡ false → found ++ class_places takes place (drop place pairs) ≡ all
      → found ++ class_places takes (place + 1) (drop (place + 1) pairs) ≡ all
  other_next found all named so_far = search (rules, one_more)

-- no place is after the last
pub classes_all : (takes : List ℕ → Bool) (pairs : List (List ℕ × List ℕ)) (place : ℕ) (found all : List ℕ) → length pairs ≤ place
    → found ++ class_places takes place (drop place pairs) ≡ all → found ≡ all
classes_all takes pairs place found all past so_far = sym (append-nil found) ∙ ap (λ l. found ++ class_places takes place l)
    (sym (drop_all place pairs past)) ∙ so_far

-- classes made anew are at places of the pool
pub remade_within : (release : ℕ) (text : List ℕ → ClassData → List ℕ) (n : ℕ) (all : List (List ℕ × List ℕ)) (places : List ℕ)
    (outs : List Remade) → AllZip (IsRemade release text all) places outs → All (λ place. place < n) places
    → All (λ one. one.place < n) outs
remade_within release text n all [] [] zipped within = All-nil (λ one. one.place < n)
remade_within release text n all [] (one ∷ outs) zipped within = absurd zipped
remade_within release text n all (place ∷ places) [] zipped within = absurd zipped
remade_within release text n all (place ∷ places) (one ∷ outs) zipped within =
    let own : place < n = within 0 0 (omega arith) in
    All-cons (λ z. z.place < n) one outs (rw zipped.0.0 own) (remade_within release text n all places outs zipped.1
    (λ k d below. within (suc k) d (omega arith)))

-- What is said of one text

-- bytes with a fault are computed to be none
pub fault_computed : (release : ℕ) (bytes : List ℕ) (fault : ClassFault) → fault_for release bytes ≡ Some fault
    → class_for release bytes ≡ Err fault
fault_computed release bytes fault found = go (class_for release bytes) refl found
  where
    go : (r : Result ClassData ClassFault) → class_for release bytes ≡ r → fault_of r ≡ Some fault → class_for release bytes ≡ Err fault
    go (Ok c) is none = cc
    go (Err found) is same = let found_is : found ≡ fault = cc in cc

module _ (release : ℕ) (bytes : List ℕ) where
  pub strips_as : (result : Result (List ℕ) (Or ClassFault)) → StripsFor release bytes result → RemadeAs release stripped_text bytes result
  strips_as (Ok text) given = (given.text.class, reads-class_for release bytes given.text.class given.text.reads, given.text.is)
  strips_as (Err (Fault fault)) given = fault_computed release bytes fault (given.fault fault refl)
  strips_as (Err Memory) given = tt

  pub packages_as : (packages_of : ClassData → List (List ℕ)) (result : Result (List ℕ) (Or ClassFault))
      → ListsFor release packages_of bytes result → RemadeAs release (λ c. packages_text (packages_of c) c) bytes result
  packages_as packages_of (Ok text) given =
      (given.text.class, reads-class_for release bytes given.text.class given.text.reads, given.text.is)
  packages_as packages_of (Err (Fault fault)) given = fault_computed release bytes fault (given.fault fault refl)
  packages_as packages_of (Err Memory) given = tt

  pub compacts_as : (result : Result (List ℕ) (Or ClassFault)) → IfAnswered (λ r. compact_for release bytes ≡ r) result
      → RemadeAs release compact_text bytes result
  compacts_as (Ok text) given = go (class_for release bytes) refl given
    where
      go : (r : Result ClassData ClassFault) → class_for release bytes ≡ r → with_text r ≡ Ok text
          → RemadeAs release compact_text bytes (Ok text)
      go (Ok c) is same = (c, is, sym (same_ok (compact_text c) text same))
      go (Err found) is same = cc
  compacts_as (Err (Fault fault)) given = go (class_for release bytes) refl given
    where
      go : (r : Result ClassData ClassFault) → class_for release bytes ≡ r → with_text r ≡ Err fault → class_for release bytes ≡ Err fault
      go (Ok c) is same = cc
      go (Err found) is same = let found_is : found ≡ fault = cc in cc
  compacts_as (Err Memory) given = tt

-- All of them

-- an answer comes to what is due
abbrev pub Comes : {A F : Type 0} → Result A (Or F) → Result A F → Type 0
Comes result due = IfAnswered (λ r. r ≡ due) result

joined : (done : List (List ℕ × List ℕ)) (first : List ℕ × List ℕ) (o : Result (List (List ℕ × List ℕ)) BadClass)
    → followed o (λ xs. Ok ((done ++ first ∷ []) ++ xs)) ≡ followed (followed o (λ xs. Ok (first ∷ xs))) (λ ys. Ok (done ++ ys))
joined done first (Ok xs) = ap (λ l. Ok l) (append_assoc done (first ∷ []) xs)
joined done first (Err refusal) = refl

module _ (release : ℕ) (takes : List ℕ → Bool) (text : List ℕ → ClassData → List ℕ) where
  -- a first pair that is given, and then what the rest comes to
  onward : (done rest : List (List ℕ × List ℕ)) (pair first : List ℕ × List ℕ) (outs : List Remade) → remade_pair release takes text pair
      ≡ Ok first → Comes (put_remade outs ((done ++ first ∷ []) ++ rest)) (followed (remade_pairs release takes text rest)
      (λ xs. Ok ((done ++ first ∷ []) ++ xs))) → Comes (put_remade outs (done ++ first ∷ rest))
      (followed (remade_pairs release takes text (pair ∷ rest)) (λ ys. Ok (done ++ ys)))
  onward done rest pair first outs is so_far = search (rules, append_assoc, joined)

  put_is : (all front done rest : List (List ℕ × List ℕ)) (outs : List Remade) → all ≡ front ++ rest → length done ≡ length front
      → AllZip (IsRemade release text all) (class_places takes (length front) rest) outs
      → Comes (put_remade outs (done ++ rest)) (followed (remade_pairs release takes text rest) (λ ys. Ok (done ++ ys)))
  put_is all front done [] [] is level zipped = refl
  put_is all front done [] (one ∷ outs) is level zipped = absurd zipped
  put_is all front done (pair ∷ rest) outs is level zipped = go (takes pair.0) refl outs zipped (λ first later beside. put_is all
      (front ++ pair ∷ []) (done ++ first ∷ []) rest later (is ∙ sym (append_assoc front (pair ∷ []) rest)) (length_push done first
      ∙ ap (λ n. n + 1) level ∙ sym (length_push front pair)) (subst (λ n. AllZip (IsRemade release text all) (class_places takes n rest)
      later) (sym (length_push front pair)) beside))
    where
      there : slice_get all (length front) ≡ Some pair
      there = ap (λ l. slice_get l (length front)) is ∙ at_front front rest pair

      Onward : Type 0
      Onward = (first : List ℕ × List ℕ) (later : List Remade) → AllZip (IsRemade release text all) (class_places takes (length front + 1)
          rest) later → Comes (put_remade later ((done ++ first ∷ []) ++ rest))
          (followed (remade_pairs release takes text rest) (λ xs. Ok ((done ++ first ∷ []) ++ xs)))

      one_class : (one : Remade) (later : List Remade) (o : Result (List ℕ) (Or ClassFault)) → takes pair.0 ≡ true
          → RemadeAs release (text pair.0) pair.1 o
          → AllZip (IsRemade release text all) (class_places takes (length front + 1) rest) later → Onward
          → Comes (put_one (length done) o (put_remade later) (done ++ pair ∷ rest))
          (followed (remade_pairs release takes text (pair ∷ rest)) (λ ys. Ok (done ++ ys)))
      one_class one later (Ok made) named own_text beside on =
          let own : remade_pair release takes text pair ≡ Ok (pair.0, made) = rw (named, own_text.1, own_text.2) refl in
          rw (replaced done rest pair made) (onward done rest pair (pair.0, made) later own (on (pair.0, made) later beside))
      one_class one later (Err (Fault fault)) named own_text beside on =
          let own : remade_pair release takes text pair ≡ Err (bad_class pair.0 fault) = rw (named, own_text) refl in
          ap (λ name. Err (bad_class name fault)) (name_there done rest pair)
          ∙ sym (ap (λ o. followed (followed o (λ first. followed (remade_pairs release takes text rest) (λ xs. Ok (first ∷ xs))))
          (λ ys. Ok (done ++ ys))) own)
      one_class one later (Err Memory) named own_text beside on = tt

      go : (b : Bool) → takes pair.0 ≡ b → (outs : List Remade) → AllZip (IsRemade release text all) (class_places takes (length front)
          (pair ∷ rest)) outs → Onward → Comes (put_remade outs (done ++ pair ∷ rest))
          (followed (remade_pairs release takes text (pair ∷ rest)) (λ ys. Ok (done ++ ys)))
      go false named outs zipped on =
          let own : remade_pair release takes text pair ≡ Ok pair = rw named refl in
          onward done rest pair pair outs own (on pair outs (rw named at zipped))
      go true named [] zipped on = let none = rw named at zipped in absurd none
      go true named (one ∷ later) zipped on =
          let beside : AllZip (IsRemade release text all) (length front ∷ class_places takes (length front + 1) rest) (one ∷ later) =
          rw named at zipped in
          let own_text = beside.0.2 pair there in
          let place : one.place ≡ length done = beside.0.0 ∙ sym level in
          rw place (one_class one later one.outcome named own_text beside.1 on)

  -- put at their places, they are the pairs with these texts
  pub put_all : (pairs : List (List ℕ × List ℕ)) (outs : List Remade) → AllZip (IsRemade release text pairs) (class_places takes 0 pairs)
      outs → Comes (put_remade outs pairs) (remade_pairs release takes text pairs)
  put_all pairs outs zipped = subst (Comes (put_remade outs pairs)) (plain (remade_pairs release takes text pairs))
      (put_is pairs [] [] pairs outs refl refl zipped)
    where
      plain : (o : Result (List (List ℕ × List ℕ)) BadClass) → followed o (λ ys. Ok ys) ≡ o
      plain (Ok ys) = refl
      plain (Err refusal) = refl

-- Classes that were read

module _ (release : ℕ) (takes : List ℕ → Bool) (text : List ℕ → ClassData → List ℕ) where
  abbrev Read : List ℕ × List ℕ → Type 0
  Read pair = takes pair.0 ≡ true → ReadsByRule release pair.1

  read_from : (all front rest : List (List ℕ × List ℕ)) (outs : List Remade) → all ≡ front ++ rest
      → AllZip (IsRemade release text all) (class_places takes (length front) rest) outs → TakenRead release takes rest
  read_from all front [] outs is zipped = All-nil Read
  read_from all front (pair ∷ rest) outs is zipped = go (takes pair.0) refl outs zipped (λ later beside. read_from all
      (front ++ pair ∷ []) rest later (is ∙ sym (append_assoc front (pair ∷ []) rest))
      (subst (λ n. AllZip (IsRemade release text all) (class_places takes n rest) later) (sym (length_push front pair)) beside))
    where
      there : slice_get all (length front) ≡ Some pair
      there = ap (λ l. slice_get l (length front)) is ∙ at_front front rest pair

      go : (b : Bool) → takes pair.0 ≡ b → (outs : List Remade)
          → AllZip (IsRemade release text all) (cond b (length front ∷ class_places takes (length front + 1) rest)
          (class_places takes (length front + 1) rest)) outs
          → ((later : List Remade) → AllZip (IsRemade release text all) (class_places takes (length front + 1) rest) later
          → TakenRead release takes rest) → TakenRead release takes (pair ∷ rest)
      go false not_taken outs zipped on =
          All-cons Read pair rest (λ taken. absurd (false≢true (sym not_taken ∙ taken))) (on outs zipped)
      go true taken [] zipped on = absurd zipped
      go true taken (one ∷ later) zipped on =
          All-cons Read pair rest (λ also. zipped.0.1 pair there) (on later zipped.1)

  -- those that were made anew all read by the rule
  pub taken_read : (pairs : List (List ℕ × List ℕ)) (outs : List Remade) → AllZip (IsRemade release text pairs) (class_places takes 0 pairs)
      outs → TakenRead release takes pairs
  taken_read pairs outs zipped = read_from pairs [] pairs outs refl zipped

-- Texts that are the same

-- other texts that are the same of each class that is taken make the same pairs
module _ (release : ℕ) (takes : List ℕ → Bool) (text other : List ℕ → ClassData → List ℕ) where
  -- of one pair
  abbrev Same : List ℕ × List ℕ → Type 0
  Same pair = takes pair.0 ≡ true → (c : ClassData) → class_for release pair.1 ≡ Ok c → text pair.0 c ≡ other pair.0 c

  same_pair : (pair : List ℕ × List ℕ) → Same pair → remade_pair release takes text pair ≡ remade_pair release takes other pair
  same_pair pair same = go (takes pair.0) refl (class_for release pair.1) refl
    where
      go : (b : Bool) → takes pair.0 ≡ b → (r : Result ClassData ClassFault) → class_for release pair.1 ≡ r
          → cond b (remade (text pair.0) pair.0 r) (Ok pair) ≡ cond b (remade (other pair.0) pair.0 r) (Ok pair)
      go false is r reads = refl
      go true is (Ok c) reads = ap (λ t. Ok (pair.0, t)) (same is c reads)
      go true is (Err fault) reads = refl

  pub same_texts : (pairs : List (List ℕ × List ℕ)) → All Same pairs → remade_pairs release takes text pairs
      ≡ remade_pairs release takes other pairs
  same_texts [] same = refl
  same_texts (pair ∷ pairs) same =
      ap (λ o. followed o (λ first. followed (remade_pairs release takes text pairs) (λ rest. Ok (first ∷ rest))))
      (same_pair pair (All-head Same pair pairs same))
      ∙ ap (λ o. followed (remade_pair release takes other pair) (λ first. followed o (λ rest. Ok (first ∷ rest))))
      (same_texts pairs (All-tail Same pair pairs same))

-- One after another

-- one more is put
pub put_more : (one : Remade) (later : List Remade) (pairs new : List (List ℕ × List ℕ)) (text : List ℕ)
    (all : Result (List (List ℕ × List ℕ)) (Or BadClass)) → one.outcome ≡ Ok text → new ≡ with_bytes_at pairs one.place text → all
    ≡ put_remade (one ∷ later) pairs → all ≡ put_remade later new
put_more one later pairs new text all given is so_far =
    so_far ∙ ap (λ o. put_one one.place o (put_remade later) pairs) given ∙ ap (put_remade later) (sym is)

-- the first that is left is put at a place of the pool
pub first_within : (one : Remade) (later left : List Remade) (pairs : List (List ℕ × List ℕ)) → left ≡ one ∷ later
    → All (λ z. z.place < length pairs) left → one.place < length pairs
first_within one later left pairs is within = All-head (λ z. z.place < length pairs) one later (rw is at within)

pub within_more : (one : Remade) (later : List Remade) (pairs new : List (List ℕ × List ℕ)) (text : List ℕ) → new
    ≡ with_bytes_at pairs one.place text → All (λ z. z.place < length pairs) (one ∷ later) → All (λ z. z.place < length new) later
within_more one later pairs new text is within =
    let level : length new ≡ length pairs = ap length is ∙ as_many pairs one.place text in
    rw level (All-tail (λ z. z.place < length pairs) one later within)

-- all were put
pub put_none : (left : List Remade) (count : ℕ) (pairs : List (List ℕ × List ℕ)) (all : Result (List (List ℕ × List ℕ)) (Or BadClass))
    → length left ≡ count → count ≡ 0 → all ≡ put_remade left pairs → UnlessMemory Memory (Ok pairs) all
put_none [] count pairs all long none so_far = inr (sym so_far)
put_none (one ∷ left) count pairs all long none so_far = absurd (omega (arith, long, none))

-- the first that was refused decides
pub put_refused : (one : Remade) (later : List Remade) (pairs : List (List ℕ × List ℕ)) (error : Or ClassFault) (refusal : Or BadClass)
    (all : Result (List (List ℕ × List ℕ)) (Or BadClass)) → one.outcome ≡ Err error → Refuses pairs one.place error refusal → all
    ≡ put_remade (one ∷ later) pairs → UnlessMemory Memory (Err refusal) all
put_refused one later pairs error refusal all is refuses so_far =
    go error (so_far ∙ ap (λ o. put_one one.place o (put_remade later) pairs) is) refuses
  where
    go : (e : Or ClassFault) → all ≡ put_one one.place (Err e) (put_remade later) pairs → Refuses pairs one.place e refusal
        → UnlessMemory Memory (Err refusal) all
    go (Fault fault) due (inl none) = inl (ap (λ r. Err r) none)
    go (Fault fault) due (inr same) = inr (ap (λ r. Err r) same ∙ sym due)
    go Memory due none = inl (ap (λ r. Err r) none)

-- what is due of a value that is given unless memory is wanted is due of what gives it
pub unless_then : {A F : Type 0} (result middle : Result A (Or F)) (due : Result A F) → UnlessMemory Memory result middle
    → Comes middle due → Comes result due
unless_then result middle due (inl none) second = subst (λ r. Comes r due) (sym none) tt
unless_then result middle due (inr same) second = subst (λ r. Comes r due) (sym same) second

-- what holds anyway is due of each answer
pub answered : {A F : Type 0} (P : Type 0) (result : Result A (Or F)) → P → IfAnswered (λ _. P) result
answered P (Ok value) holds = holds
answered P (Err (Fault fault)) holds = holds
answered P (Err Memory) holds = tt
