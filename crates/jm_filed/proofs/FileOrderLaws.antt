-- Names in the order of the file: a sort gives the one list of the same names in that order.
use Rattle.std.proofs.Common.{◌≡◌, ◌≢◌, ℕ, suc, Bool, true, false, cond, not, ◌||◌, List, [], ◌∷◌, ◌++◌, ◌+◌, map, take, filter}
use Rattle.std.proofs.Common.{get_or, All, AllPairs, IsPermutation, Result, Ok, Err, refl, sym, ap, ◌∙◌, append-nil}
use Rattle.std.proofs.Common.{append_assoc, arith, Bor}
use Rattle.std.specs.Cmp.Rules.{comparing}
use Rattle.std.proofs.lemmas.Bool.{true≢false, false≢true}
use Rattle.std.proofs.lemmas.Fn.{always_returns_same}
use Rattle.std.proofs.lemmas.List.Elements.{All-cons, All-contains, All-head, All-nil, All-tail}
use Rattle.std.proofs.lemmas.List.Kept.{AllPairs-cons, AllPairs-filter}
use Rattle.std.proofs.lemmas.List.Sorted.{All-permutation, Contains-permutation, IsPermutation-append_comm}
use Rattle.std.proofs.lemmas.List.Sorted.{IsPermutation-append_left, IsPermutation-cons, IsPermutation-refl, IsPermutation-sym}
use Rattle.std.proofs.lemmas.List.Sorted.{IsPermutation-trans, ranks_by, sorted_far}
use Rattle.std.specs.Cmp.{IsStrictWeakOrder, IsTotalOrder}
use Rattle.std.specs.Fn.{Called, ComparesAs}
use Rattle.std.specs.List.{before_first, list_any, position_or_len}
use Rattle.std.specs.List.Sorted.{IsSortedBy}
use Rattle.std.specs.Cmp.Lexicographic.{slice_cmp}
use Rattle.std.specs.Ordering.{is_gt, is_lt, nat_cmp, ordering_reverse, ordering_then}
use Rattle.std.specs.declared.cmp.Ordering.{Ordering}
use Rattle.std.specs.declared.cmp.Ordering.TheVariants.{Less, Equal, Greater}
use denote.Param.Members.{Mut}
use Rattle.std.proofs.lemmas.Map.Lookups.{exact_bytes}
use Rattle.jm_bytes.proofs.Members.{all_from_contains}
use Rattle.jm_bytes.proofs.Pairs.{pairs_head, pairs_map, pairs_none, pairs_tail}
use Rattle.jm_bytes.proofs.SameOrder.{same_order}
use Rattle.jm_form.specs.declared.container.Header.{Header}
use Rattle.jm_form.specs.declared.container.HeaderFault.{HeaderFault}
use Rattle.jm_form.specs.declared.rows.Row.{Row}
use Rattle.jm_form.specs.Entries.{Entry, entries}
use Rattle.jm_form.specs.Head.{header_of}
use Rattle.jm_form.specs.Trees.{module_of, path_of}
use Rattle.jm_names.proofs.KeyLaws.{differ_moved}
use Rattle.jm_names.specs.Names.{is_node}
use Rattle.jm_reader.specs.Listing.{entry_listed}
use Rattle.jm_reader.specs.Walk.{entries_of, entries_with}
use Rattle.jm_reader.proofs.WalkLaws.{entries_differ}
use Rattle.jm_filed.specs.declared.file_order.PlacedName.{PlacedName}
use Rattle.jm_filed.specs.FileOrder.{file_cmp, in_file_order, inserted, name_cmp, place_cmp, placed_alone, placed_among}
use Rattle.jm_filed.specs.FileOrder.{placed_name}

-- a text of which nothing passes stands before none
pub before_none : (p : ℕ → Bool) (xs : List ℕ) → list_any p xs ≡ false → before_first p xs ≡ xs
before_none p [] none = refl
before_none p (x ∷ xs) none = go (p x) none (before_none p xs)
  where
    go : (b : Bool) → (b || list_any p xs) ≡ false → (list_any p xs ≡ false → take (position_or_len p xs) xs ≡ xs)
        → take (cond (not b) (1 + position_or_len p xs) 0) (x ∷ xs) ≡ x ∷ xs
    go true some rest = absurd (false≢true (sym some))
    go false none rest =
        let next : 1 + position_or_len p xs ≡ suc (position_or_len p xs) = omega arith in
        ap (λ n. take n (x ∷ xs)) next ∙ ap (λ l. x ∷ l) (rest none)

-- The order

pub file_total : IsTotalOrder file_cmp
file_total = search comparing

file_order_is : IsStrictWeakOrder (λ p q. is_lt (file_cmp p q))
file_order_is = ranks_by file_total (λ (p : PlacedName). p)

lesser : (o : Ordering) → is_lt o ≡ true → o ≡ Less
lesser Less is = refl
lesser Equal is = absurd (false≢true is)
lesser Greater is = absurd (false≢true is)

abbrev pub Before : PlacedName → PlacedName → Type 0
Before p q = file_cmp p q ≡ Less

abbrev pub Apart : PlacedName → PlacedName → Type 0
Apart p q = p.name ≢ q.name

then_equal : (o r : Ordering) → ordering_then o r ≡ Equal → r ≡ Equal
then_equal Less r same = absurd (true≢false (ap is_lt same))
then_equal Equal r same = same
then_equal Greater r same = absurd (true≢false (ap is_gt same))

-- those that tie have one name
one_name : (p q : PlacedName) → file_cmp p q ≡ Equal → p.name ≡ q.name
one_name p q same =
    let names = then_equal (place_cmp p q) (name_cmp p.name q.name) same in
    let paths = then_equal (slice_cmp nat_cmp (module_of p.name) (module_of q.name)) _ names in
    exact_bytes p.name q.name (then_equal (slice_cmp nat_cmp (path_of p.name) (path_of q.name)) _ paths)

-- of two names that differ, of which the second isn't before the first, the first is before it
before_of : (p q : PlacedName) → Apart p q → is_lt (file_cmp q p) ≡ false → Before p q
before_of p q apart behind = go (file_cmp p q) refl
  where
    go : (o : Ordering) → file_cmp p q ≡ o → o ≡ Less
    go Less is = refl
    go Equal is = absurd (apart (one_name p q is))
    go Greater is = absurd (true≢false (sym (ap is_lt (file_total.antisymm q p ∙ ap ordering_reverse is)) ∙ behind))

one_way : (p q : PlacedName) → Before p q → Before q p → ⊥
one_way p q before behind = absurd (true≢false (ap is_lt (sym before ∙ file_total.antisymm p q ∙ ap ordering_reverse behind)))

-- They are the same names

inserted_moved : (p : PlacedName) (ps : List PlacedName) → IsPermutation (p ∷ ps) (inserted p ps)
inserted_moved p [] = IsPermutation-refl (p ∷ [])
inserted_moved p (q ∷ qs) = go (is_lt (file_cmp q p)) (inserted_moved p qs)
  where
    go : (b : Bool) → IsPermutation (p ∷ qs) (inserted p qs)
        → IsPermutation (p ∷ q ∷ qs) (cond b (q ∷ inserted p qs) (p ∷ q ∷ qs))
    go false rest = IsPermutation-refl (p ∷ q ∷ qs)
    go true rest =
        IsPermutation-trans (p ∷ q ∷ qs) (q ∷ p ∷ qs) (q ∷ inserted p qs)
        (IsPermutation-append_left qs (p ∷ q ∷ []) (q ∷ p ∷ []) (IsPermutation-append_comm (p ∷ []) (q ∷ [])))
        (IsPermutation-cons q (p ∷ qs) (inserted p qs) rest)

in_order_moved : (ps : List PlacedName) → IsPermutation ps (in_file_order ps)
in_order_moved [] = IsPermutation-refl []
in_order_moved (p ∷ ps) =
    IsPermutation-trans (p ∷ ps) (p ∷ in_file_order ps) (inserted p (in_file_order ps))
    (IsPermutation-cons p ps (in_file_order ps) (in_order_moved ps)) (inserted_moved p (in_file_order ps))

-- They are in order

inserted_rises : (p : PlacedName) (ps : List PlacedName) → All (Apart p) ps → AllPairs Before ps → AllPairs Before (inserted p ps)
inserted_rises p [] apart rises = AllPairs-cons Before p [] (All-nil (Before p)) rises
inserted_rises p (q ∷ qs) apart rises = go (is_lt (file_cmp q p)) refl
    (inserted_rises p qs (All-tail (Apart p) q qs apart) (pairs_tail Before q qs rises))
  where
    later : All (Before q) qs
    later = pairs_head Before q qs rises

    go : (b : Bool) → is_lt (file_cmp q p) ≡ b → AllPairs Before (inserted p qs)
        → AllPairs Before (cond b (q ∷ inserted p qs) (p ∷ q ∷ qs))
    go true is rest =
        AllPairs-cons Before q (inserted p qs)
        (All-permutation (Before q) (p ∷ qs) (inserted p qs) (inserted_moved p qs)
        (All-cons (Before q) p qs (lesser (file_cmp q p) is) later)) rest
    go false is rest =
        let first = before_of p q (All-head (Apart p) q qs apart) is in
        AllPairs-cons Before p (q ∷ qs)
        (All-cons (Before p) q qs first (all_from_contains (Before p) qs (λ r there. file_total.trans p q r first
        (All-contains (Before q) qs r later there)))) rises

in_order_rises : (ps : List PlacedName) → AllPairs Apart ps → AllPairs Before (in_file_order ps)
in_order_rises [] apart = pairs_none Before
in_order_rises (p ∷ ps) apart =
    inserted_rises p (in_file_order ps)
    (All-permutation (Apart p) ps (in_file_order ps) (in_order_moved ps) (pairs_head Apart p ps apart))
    (in_order_rises ps (pairs_tail Apart p ps apart))

-- names that differ, sorted
pub names_sorted : (ps us : List PlacedName) → AllPairs Apart ps → IsPermutation ps us → IsSortedBy (λ p q. is_lt (file_cmp p q)) us
    → us ≡ in_file_order ps
names_sorted ps us apart moved sorted =
    let lt : PlacedName → PlacedName → Bool = λ p q. is_lt (file_cmp p q) in
    let rises : AllPairs Before us = λ i j d before inside. before_of (get_or us i d) (get_or us j d)
    (differ_moved (λ (p : PlacedName). p.name) ps us moved apart i j d before inside)
    (sorted_far lt file_order_is us sorted i j d (omega arith) inside) in
    same_order Before one_way us (in_file_order ps) rises (in_order_rises ps apart)
    (λ p there. Contains-permutation ps (in_file_order ps) p (in_order_moved ps)
    (Contains-permutation us ps p (IsPermutation-sym ps us moved) there))
    (λ p there. Contains-permutation ps us p moved
    (Contains-permutation (in_file_order ps) ps p (IsPermutation-sym ps (in_file_order ps) (in_order_moved ps)) there))

-- what a sort says, where each call compares two by that order
pub sort_orders : {F : Type 0} {g : Mut F (Bor PlacedName × (Bor PlacedName × Unit {0})) Ordering} {f : F} (us : List PlacedName)
    → ((lt : PlacedName → PlacedName → Bool) → IsStrictWeakOrder lt → ComparesAs g lt f → IsSortedBy lt us)
    → ((a : Bor PlacedName × (Bor PlacedName × Unit {0})) (r : Ordering) (f' : F) → Called g f a r f'
    → (r ≡ file_cmp a.0.now a.1.0.now) × (f' ≡ f)) → IsSortedBy (λ p q. is_lt (file_cmp p q)) us
sort_orders {g = g} {f = f} us sorted compares =
    sorted (λ p q. is_lt (file_cmp p q)) file_order_is (always_returns_same g (λ a r. is_lt r
    ≡ is_lt (file_cmp a.0.now a.1.0.now)) f (λ a r f' k. (ap is_lt (compares a r f' k).0, (compares a r f' k).1)))

-- The resources of an image

differ_with : (b : List ℕ) (header : Result Header HeaderFault) → AllPairs Apart (placed_among (entries_with b header))
differ_with b (Err fault) = pairs_none Apart
differ_with b (Ok h) =
    pairs_map Apart placed_name (filter (λ e. not (is_node e.name)) (entries b h))
    (AllPairs-filter (λ (e f : Entry). e.name ≢ f.name) (λ e. not (is_node e.name)) (entries b h) (entries_differ b h))

pub placed_differ : (b : List ℕ) → AllPairs Apart (placed_among (entries_of b))
placed_differ b = differ_with b (header_of b)

placed_more : (e : Entry) (es : List Entry) → placed_among (e ∷ es) ≡ placed_alone (e.slot, e.name, e.row) ++ placed_among es
placed_more e es = go (is_node e.name)
  where
    others : List Entry
    others = filter (λ f. not (is_node f.name)) es

    go : (b : Bool) → map placed_name (cond (not b) (e ∷ others) others) ≡ cond b [] (placed_name e ∷ []) ++ map placed_name others
    go true = refl
    go false = refl

-- the entry that a step handed out is put behind those before, if it is a resource
pub placed_step : (b : List ℕ) (whole old new : List PlacedName) (left rest : List (ℕ × List ℕ × Row)) (x : ℕ × List ℕ × Row)
    → whole ≡ old ++ placed_among (map (entry_listed b) left) → left ≡ x ∷ rest → new ≡ old ++ placed_alone x
    → whole ≡ new ++ placed_among (map (entry_listed b) rest)
placed_step b whole old new left rest x before first put =
    let later = placed_among (map (entry_listed b) rest) in
    before ∙ ap (λ xs. old ++ placed_among (map (entry_listed b) xs)) first
    ∙ ap (λ ps. old ++ ps) (placed_more (entry_listed b x) (map (entry_listed b) rest))
    ∙ sym (append_assoc old (placed_alone x) later) ∙ ap (λ ps. ps ++ later) (sym put)

-- none is left
pub placed_all : (b : List ℕ) (whole found : List PlacedName) (left : List (ℕ × List ℕ × Row))
    → whole ≡ found ++ placed_among (map (entry_listed b) left) → left ≡ [] → found ≡ whole
placed_all b whole found left so_far none =
    sym (so_far ∙ ap (λ xs. found ++ placed_among (map (entry_listed b) xs)) none ∙ append-nil found)
