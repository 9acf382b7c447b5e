-- Places by texts, over the entries of an ordered map and over the list that shows them.
use Rattle.std.proofs.Common.{◌≡◌, ℕ, List, [], ◌∷◌, Option, Some, Bool, true, false, cond, refl, sym, ◌∙◌, ap, map}
use Rattle.std.specs.Prelude.{All, IsTrue}
use Rattle.std.specs.List.{AllByRecursion}
use Rattle.std.specs.List.Sorted.{IsStrictlySortedBy}
use Rattle.std.proofs.lemmas.Map.Keys.{sorted_head, sorted_tail}
use Rattle.std.proofs.lemmas.List.Elements.{All-nil, All-cons}
use Rattle.std.proofs.lemmas.List.Kept.{AllPairs-cons}
use Rattle.jm_bytes.proofs.Pairs.{pairs_none}
use Rattle.std.specs.Ordering.{is_eq, is_lt, nat_cmp, match_ordering}
use Rattle.std.specs.declared.cmp.Ordering.{Ordering}
use Rattle.std.specs.declared.cmp.Ordering.TheVariants.{Less, Equal, Greater}
use Rattle.std.specs.Cmp.Lexicographic.{slice_cmp}
use Rattle.std.specs.Map.{lookup, keys_of}
use Rattle.std.specs.BTreeMap.{insert_entry}
use Rattle.std.specs.Str.{bytes_eq}
use Rattle.std.proofs.lemmas.Map.Text.{is_eq-slice_cmp}
use Rattle.std.proofs.lemmas.Slice.Eq.{bytes_eq-Decides}
use Rattle.std.proofs.lemmas.Bool.{false≢true}
use Rattle.jm_closure.specs.Places.{place_in, AreRising}

module _ {K : Type 0} (key : K → List ℕ) where
  -- the texts and places of some entries
  abbrev pub shown : List (K × ℕ) → List (List ℕ × ℕ)
  shown es = map (λ e. (key e.0, e.1)) es

  abbrev test : List ℕ → K → Bool
  test text k = is_eq (slice_cmp nat_cmp text (key k))

  pub lookup-shown : (text : List ℕ) (es : List (K × ℕ)) → lookup (test text) es ≡ place_in (shown es) text
  lookup-shown text [] = refl
  lookup-shown text (e ∷ es) =
      rw (is_eq-slice_cmp text (key e.0))
      (ap (λ o. cond (bytes_eq text (key e.0)) (Some e.1) o) (lookup-shown text es))

  -- two texts before a list, of which only one is looked for, in either order
  swapped : (a b other : List ℕ) (v w : ℕ) (rest : Option ℕ) → bytes_eq a b ≡ false
      → cond (bytes_eq other b) (Some w) (cond (bytes_eq other a) (Some v) rest)
      ≡ cond (bytes_eq other a) (Some v) (cond (bytes_eq other b) (Some w) rest)
  swapped a b other v w rest apart = go (bytes_eq other a) refl (bytes_eq other b) refl
    where
      go : (x : Bool) → bytes_eq other a ≡ x → (y : Bool) → bytes_eq other b ≡ y
          → cond y (Some w) (cond x (Some v) rest) ≡ cond x (Some v) (cond y (Some w) rest)
      go true ea true eb =
          let isa : other ≡ a = (bytes_eq-Decides other a).0 ea in
          let isb : other ≡ b = (bytes_eq-Decides other b).0 eb in
          absurd (false≢true (sym apart ∙ (bytes_eq-Decides a b).1 (sym isa ∙ isb)))
      go true ea false eb = refl
      go false ea true eb = refl
      go false ea false eb = refl

  pub insert-shown : (k : K) (v : ℕ) (es : List (K × ℕ)) (other : List ℕ)
      → place_in (shown (insert_entry (λ a b. slice_cmp nat_cmp (key a) (key b)) es k v)) other
      ≡ cond (bytes_eq other (key k)) (Some v) (place_in (shown es) other)
  insert-shown k v [] other = refl
  insert-shown k v (e ∷ es) other = go (slice_cmp nat_cmp (key k) (key e.0)) refl (insert-shown k v es other)
    where
      -- the test of the two keys, by their order
      tested : (o : Ordering) → slice_cmp nat_cmp (key k) (key e.0) ≡ o → bytes_eq (key k) (key e.0) ≡ is_eq o
      tested o is = sym (is_eq-slice_cmp (key k) (key e.0)) ∙ ap is_eq is

      put : List (K × ℕ)
      put = insert_entry (λ a b. slice_cmp nat_cmp (key a) (key b)) es k v

      same : (x y : List ℕ) → x ≡ y → cond (bytes_eq other y) (Some v) (place_in (shown es) other)
          ≡ cond (bytes_eq other x) (Some v) (cond (bytes_eq other y) (Some e.1) (place_in (shown es) other))
      same x y is = rw is (again (bytes_eq other y))
        where
          again : (b : Bool) → cond b (Some v) (place_in (shown es) other) ≡ cond b (Some v) (cond b (Some e.1) (place_in (shown es) other))
          again true = refl
          again false = refl

      go : (o : Ordering) → slice_cmp nat_cmp (key k) (key e.0) ≡ o
          → place_in (shown put) other ≡ cond (bytes_eq other (key k)) (Some v) (place_in (shown es) other)
          → place_in (shown (match_ordering o ((k, v) ∷ e ∷ es) ((e.0, v) ∷ es) (e ∷ put))) other
          ≡ cond (bytes_eq other (key k)) (Some v) (cond (bytes_eq other (key e.0)) (Some e.1) (place_in (shown es) other))
      go Less is later = refl
      go Equal is later = same (key k) (key e.0) ((bytes_eq-Decides (key k) (key e.0)).0 (tested Equal is))
      go Greater is later =
          rw later (swapped (key k) (key e.0) other v e.1 (place_in (shown es) other) (tested Greater is))

  pub shown_places : (es : List (K × ℕ)) → map (λ e. e.1) es ≡ map (λ p. p.1) (shown es)
  shown_places [] = refl
  shown_places (e ∷ es) = ap (λ rest. e.1 ∷ rest) (shown_places es)

  less_all : (k : K) (es : List (K × ℕ)) → AllByRecursion (λ y. slice_cmp nat_cmp (key k) (key y) ≡ Less) (keys_of es)
      → (v : ℕ) → All (λ (q : List ℕ × ℕ). IsTrue (is_lt (slice_cmp nat_cmp (key k) q.0))) (shown es)
  less_all k [] all v = All-nil (λ (q : List ℕ × ℕ). IsTrue (is_lt (slice_cmp nat_cmp (key k) q.0)))
  less_all k (e ∷ es) all v =
      All-cons (λ (q : List ℕ × ℕ). IsTrue (is_lt (slice_cmp nat_cmp (key k) q.0))) (key e.0, e.1) (shown es)
      (rw all.0 refl) (less_all k es all.1 v)

  pub shown_rising : (es : List (K × ℕ)) → IsStrictlySortedBy (λ a b. slice_cmp nat_cmp (key a) (key b)) (keys_of es)
      → AreRising (shown es)
  shown_rising [] sorted = pairs_none (λ p q. IsTrue (is_lt (slice_cmp nat_cmp p.0 q.0)))
  shown_rising (e ∷ es) sorted =
      let c = λ (a b : K). slice_cmp nat_cmp (key a) (key b) in
      AllPairs-cons (λ p q. IsTrue (is_lt (slice_cmp nat_cmp p.0 q.0))) (key e.0, e.1) (shown es)
      (less_all e.0 es (sorted_head c e.0 (keys_of es) sorted) e.1)
      (shown_rising es (sorted_tail c e.0 (keys_of es) sorted))
