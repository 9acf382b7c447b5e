-- Rising names: where those of a folder lie.
use Rattle.std.proofs.Common.{◌≡◌, ℕ, zero, suc, ◌+◌, ◌<◌, ◌==◌, Bool, true, false, cond, IsTrue, IsFalse, rules}
use Rattle.std.proofs.Common.{List, [], ◌∷◌, ◌++◌, take, drop, append-nil, length, get_or, All, AllPairs, ◌≢◌}
use Rattle.std.proofs.Common.{◌∙◌, Option, Some, None, refl, sym, ap, arith}
use Rattle.std.proofs.lemmas.Bool.{false≢true}
use Rattle.std.proofs.lemmas.Bool.Decides.{nat_tests}
use Rattle.std.proofs.lemmas.List.{get_or-take, get_or-drop, length-take, length-drop}
use Rattle.std.proofs.lemmas.List.Elements.{All-head, All-tail, filter_map-append}
use Rattle.std.specs.Cmp.Lexicographic.{slice_cmp, nat_list_cmp_total}
use Rattle.std.specs.List.{AllByRecursion, AllWithin, filter_map}
use Rattle.std.specs.List.Sorted.{IsPartitionedBy, IsStrictlySortedBy}
use Rattle.std.specs.Ordering.{is_lt, nat_cmp, ordering_then}
use Rattle.std.specs.declared.cmp.Ordering.{Ordering}
use Rattle.std.specs.declared.cmp.Ordering.TheVariants.{Less, Equal, Greater}
use Rattle.jm_bytes.proofs.ByteOrderLaws.{before_apart, less}
use Rattle.jm_bytes.proofs.Pairs.{pairs_filter_map}
use Rattle.jm_outside.specs.Files.{Rising, after_front}
use Rattle.jm_bytes.specs.ByteOrder.{is_before}
use Rattle.jm_modpath.specs.Finding.{names_within}
use Rattle.jm_outside.proofs.Names.{front_of}

-- Rising texts

above : (n : List ℕ) (ns : List (List ℕ)) (i : ℕ) (d : List ℕ) → AllByRecursion (λ m. slice_cmp nat_cmp n m ≡ Less) ns
    → i < length ns → slice_cmp nat_cmp n (get_or ns i d) ≡ Less
above n [] i d all below = absurd (omega arith)
above n (m ∷ ns) zero d all below = all.0
above n (m ∷ ns) (suc i) d all below = above n ns i d all.1 (omega arith)

-- those before a text stand in front
pub partitioned : (bound : List ℕ) (ns : List (List ℕ)) → Rising ns → IsPartitionedBy (λ n. is_before n bound) ns
unfolding IsStrictlySortedBy
partitioned bound [] rising i j d order below at = absurd (omega arith)
partitioned bound (n ∷ ns) rising zero zero d order below at = at
partitioned bound (n ∷ ns) rising zero (suc j) d order below at =
    let first = above n ns j d rising.0 (omega arith) in
    let later = less (slice_cmp nat_cmp (get_or ns j d) bound) at in
    ap is_lt (nat_list_cmp_total.trans n (get_or ns j d) bound first later)
partitioned bound (n ∷ ns) rising (suc i) zero d order below at = absurd (omega arith)
partitioned bound (n ∷ ns) rising (suc i) (suc j) d order below at =
    partitioned bound ns rising.1 i j d (omega arith) (omega arith) at

pub rising_drop : (k : ℕ) (ns : List (List ℕ)) → Rising ns → Rising (drop k ns)
unfolding IsStrictlySortedBy
rising_drop zero ns rising = rising
rising_drop (suc k) [] rising = rising
rising_drop (suc k) (n ∷ ns) rising = rising_drop k ns rising.1

-- The names of a folder

module _ {X Y : Type 0} (f : X → Option Y) where
  pub none_of : (P : X → Type 0) → ((x : X) → P x → f x ≡ None) → (xs : List X) → All P xs → filter_map f xs ≡ []
  none_of P never [] all = refl
  none_of P never (x ∷ xs) all =
      rw (never x (All-head P x xs all)) (none_of P never xs (All-tail P x xs all))

either_none : (test : Bool) (o : Option (List ℕ)) → o ≡ None → cond test o None ≡ None
either_none true o none = none
either_none false o none = refl

-- a text before a folder and its slash isn't within the folder
pub not_before : (folder name : List ℕ) → IsTrue (is_before name (folder ++ 47 ∷ [])) → after_front (folder ++ 47 ∷ []) name ≡ None
not_before [] [] before = refl
not_before [] (c ∷ name) before = go (nat_cmp c 47) refl before
  where
    go : (o : Ordering) → nat_cmp c 47 ≡ o → is_lt (ordering_then o (slice_cmp nat_cmp name [])) ≡ true
        → cond (47 == c) (Some name) None ≡ None
    go Less is h = grind (arith, nat_tests)
    go Equal is h = absurd (never name h)
      where
        never : (rest : List ℕ) → is_lt (slice_cmp nat_cmp rest []) ≡ true → ⊥
        never [] e = false≢true e
        never (x ∷ rest) e = false≢true e
    go Greater is h = absurd (false≢true h)
not_before (b ∷ folder) [] before = refl
not_before (b ∷ folder) (c ∷ name) before = go (nat_cmp c b) refl before (λ h. not_before folder name h)
  where
    other : (nat_cmp c b ≡ Less) → (b == c) ≡ false
    other is = grind (arith, nat_tests)

    go : (o : Ordering) → nat_cmp c b ≡ o → is_lt (ordering_then o (slice_cmp nat_cmp name (folder ++ 47 ∷ []))) ≡ true
        → (IsTrue (is_before name (folder ++ 47 ∷ [])) → after_front (folder ++ 47 ∷ []) name ≡ None)
        → cond (b == c) (after_front (folder ++ 47 ∷ []) name) None ≡ None
    go Less is h rest = rw (other is) refl
    go Equal is h rest = either_none (b == c) (after_front (folder ++ 47 ∷ []) name) (rest h)
    go Greater is h rest = absurd (false≢true h)

-- nor is one that isn't before the folder and the byte after a slash
pub not_behind : (folder name : List ℕ) → IsFalse (is_before name (folder ++ 48 ∷ [])) → after_front (folder ++ 47 ∷ []) name ≡ None
not_behind [] [] behind = refl
not_behind [] (c ∷ name) behind = go (nat_cmp c 48) refl behind
  where
    go : (o : Ordering) → nat_cmp c 48 ≡ o → is_lt (ordering_then o (slice_cmp nat_cmp name [])) ≡ false
        → cond (47 == c) (Some name) None ≡ None
    go Less is h = absurd (false≢true (sym h))
    go Equal is h = grind (arith, nat_tests)
    go Greater is h = grind (arith, nat_tests)
not_behind (b ∷ folder) [] behind = refl
not_behind (b ∷ folder) (c ∷ name) behind = go (nat_cmp c b) refl behind (λ h. not_behind folder name h)
  where
    other : (nat_cmp c b ≡ Greater) → (b == c) ≡ false
    other is = grind (arith, nat_tests)

    go : (o : Ordering) → nat_cmp c b ≡ o → is_lt (ordering_then o (slice_cmp nat_cmp name (folder ++ 48 ∷ []))) ≡ false
        → (IsFalse (is_before name (folder ++ 48 ∷ [])) → after_front (folder ++ 47 ∷ []) name ≡ None)
        → cond (b == c) (after_front (folder ++ 47 ∷ []) name) None ≡ None
    go Less is h rest = absurd (false≢true (sym h))
    go Equal is h rest = either_none (b == c) (after_front (folder ++ 47 ∷ []) name) (rest h)
    go Greater is h rest = rw (other is) refl

-- names whose front has none of a folder, and whose back has none
pub within_part : (folder : List ℕ) (names before part behind : List (List ℕ)) → names ≡ before ++ (part ++ behind)
    → All (λ n. IsTrue (is_before n (folder ++ 47 ∷ []))) before → All (λ n. IsFalse (is_before n (folder ++ 48 ∷ []))) behind
    → names_within folder part ≡ names_within folder names
within_part folder names before part behind is front back =
    let f = after_front (folder ++ 47 ∷ []) in
    let first = none_of f _ (not_before folder) before front in
    let last = none_of f _ (not_behind folder) behind back in
    rw (is, filter_map-append f before (part ++ behind), first, filter_map-append f part behind, last)
    (sym (append-nil (filter_map f part)))

-- What holds of all on one side of a place

pub all_before : {X : Type 0} (P : X → Type 0) (xs : List X) (i : ℕ) → AllWithin P xs 0 i → All P (take i xs)
all_before P xs i within k d below = search (rules, get_or-take, length-take)

pub all_behind : {X : Type 0} (P : X → Type 0) (xs : List X) (i : ℕ) → AllWithin P xs i (length xs) → All P (drop i xs)
all_behind P xs i within k d below =
    rw (get_or-drop i xs k d) (within (i + k) d (omega arith) (omega (arith, length-drop i xs)))

-- Names that differ

-- texts that rise differ
pub rising_apart : (ns : List (List ℕ)) → Rising ns → AllPairs (λ n m. n ≢ m) ns
unfolding IsStrictlySortedBy
rising_apart [] rising i j d before below = absurd (omega arith)
rising_apart (n ∷ ns) rising zero zero d before below = absurd (omega arith)
rising_apart (n ∷ ns) rising zero (suc j) d before below = before_apart n (get_or ns j d) (ap is_lt (above n ns j d rising.0 (omega arith)))
rising_apart (n ∷ ns) rising (suc i) zero d before below = absurd (omega arith)
rising_apart (n ∷ ns) rising (suc i) (suc j) d before below = rising_apart ns rising.1 i j d (omega arith) (omega arith)

-- the names within a folder differ
pub within_apart : (folder : List ℕ) (names : List (List ℕ)) → Rising names → AllPairs (λ n m. n ≢ m) (names_within folder names)
within_apart folder names rising =
    let front = folder ++ 47 ∷ [] in
    pairs_filter_map (λ (n m : List ℕ). n ≢ m) (λ (n m : List ℕ). n ≢ m) (after_front front)
    (λ x y other a b one two same. other (front_of front x a one ∙ ap (λ t. front ++ t) same ∙ sym (front_of front y b two)))
    names (rising_apart names rising)
