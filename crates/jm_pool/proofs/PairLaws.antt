-- The entries of a map of names and bytes against the list of pairs: look-ups and changes.
use Rattle.std.proofs.Common.{◌≡◌, ◌≢◌, ℕ, All, zero, suc, List, [], ◌∷◌, Option, Some, None, Bool, true}
use Rattle.std.proofs.Common.{false, cond, refl, sym, ◌∙◌, ap, option_map, map}
use Rattle.std.specs.List.{zip, IsDistinct, AllByRecursion}
use Rattle.std.specs.Map.{lookup, keys_of}
use Rattle.indexmap.specs.IndexMap.{set_value_at}
use Rattle.std.specs.Str.{bytes_eq}
use Rattle.std.proofs.lemmas.Slice.Eq.{bytes_eq-Decides}
use Rattle.std.proofs.lemmas.List.Elements.{All-head, All-tail}
use Rattle.std.proofs.lemmas.Map.Keys.{IsDistinct-head, IsDistinct-tail, IsDistinct-cons}
use Rattle.std.proofs.lemmas.Map.Made.{AllPairs-from_IsDistinct}
use Rattle.jm_bytes.proofs.ByteOrderLaws.{unequal}
use Rattle.jm_pool.specs.Pairs.{names_of, contents_of, NamesDiffer, bytes_of, flagged_items, with_bytes_at}

-- names beside their bytes are the pairs
pub zipped : (pairs : List (List ℕ × List ℕ)) → zip (names_of pairs) (contents_of pairs) ≡ pairs
zipped [] = refl
zipped (p ∷ pairs) = ap (λ l. p ∷ l) (zipped pairs)

-- a name that no pair has has no bytes
pub bytes_of_none : (name : List ℕ) (pairs : List (List ℕ × List ℕ)) → All (λ other. other ≢ name) (names_of pairs)
    → bytes_of name pairs ≡ None
bytes_of_none name [] all = refl
bytes_of_none name (p ∷ pairs) all =
    rw (unequal name p.0 (All-head (λ other. other ≢ name) p.0 (names_of pairs) all))
    (bytes_of_none name pairs (All-tail (λ other. other ≢ name) p.0 (names_of pairs) all))

module _ {K X : Type 0} (key : K → List ℕ) (val : X → List ℕ) where
  -- the pairs of some entries
  abbrev pub shown : List (K × X) → List (List ℕ × List ℕ)
  shown es = map (λ e. (key e.0, val e.1)) es

  pick : (b : Bool) (x : X) (r : Option X) (s : Option (List ℕ)) → option_map val r ≡ s → option_map val (cond b (Some x) r)
      ≡ cond b (Some (val x)) s
  pick true x r s h = refl
  pick false x r s h = h

  pub shown-lookup : (name : List ℕ) (es : List (K × X)) → option_map val (lookup (λ k. bytes_eq name (key k)) es)
      ≡ bytes_of name (shown es)
  shown-lookup name [] = refl
  shown-lookup name (e ∷ es) = pick (bytes_eq name (key e.0)) e.1 (lookup (λ k. bytes_eq name (key k)) es)
      (bytes_of name (shown es)) (shown-lookup name es)

  -- a name that no pair has is the key of no entry
  pub absent-shown : (name : List ℕ) (es : List (K × X)) → bytes_of name (shown es) ≡ None → lookup (λ k. bytes_eq name (key k)) es ≡ None
  absent-shown name es none = go (lookup (λ k. bytes_eq name (key k)) es) (shown-lookup name es ∙ none)
    where
      go : (r : Option X) → option_map val r ≡ None → r ≡ None
      go None e = refl
      go (Some x) e = cc

  pub shown-set_value_at : (es : List (K × X)) (place : ℕ) (w : X) → shown (set_value_at es place w)
      ≡ with_bytes_at (shown es) place (val w)
  shown-set_value_at [] place w = refl
  shown-set_value_at (e ∷ es) zero w = ap (λ l. (key e.0, val w) ∷ l) (sym (zipped (shown es)))
  shown-set_value_at (e ∷ es) (suc place) w = ap (λ l. (key e.0, val e.1) ∷ l) (shown-set_value_at es place w)

  others : (k : K) (es : List (K × X)) → AllByRecursion (λ other. bytes_eq (key k) (key other) ≡ false) (keys_of es)
      → AllByRecursion (λ other. bytes_eq (key k) other ≡ false) (names_of (shown es))
  others k [] all = tt
  others k (e ∷ es) all = (all.0, others k es all.1)

  -- entries whose keys differ are pairs whose names differ
  pub shown-apart : (es : List (K × X)) → IsDistinct (λ one other. bytes_eq (key one) (key other)) (keys_of es)
      → IsDistinct bytes_eq (names_of (shown es))
  unfolding IsDistinct
  shown-apart [] apart = tt
  shown-apart (e ∷ es) apart =
      IsDistinct-cons bytes_eq (key e.0) (names_of (shown es))
      (others e.0 es (IsDistinct-head (λ one other. bytes_eq (key one) (key other)) e.0 (keys_of es) apart))
      (shown-apart es (IsDistinct-tail (λ one other. bytes_eq (key one) (key other)) e.0 (keys_of es) apart))

  pub shown-differ : (es : List (K × X)) → IsDistinct (λ one other. bytes_eq (key one) (key other)) (keys_of es) → NamesDiffer (shown es)
  shown-differ es apart = AllPairs-from_IsDistinct bytes_eq-Decides (names_of (shown es)) (shown-apart es apart)

  pub shown-flagged_items : (flags : List Bool) (es : List (K × X)) → shown (flagged_items flags es) ≡ flagged_items flags (shown es)
  shown-flagged_items [] es = refl
  shown-flagged_items (flag ∷ flags) [] = refl
  shown-flagged_items (true ∷ flags) (e ∷ es) = ap (λ l. (key e.0, val e.1) ∷ l) (shown-flagged_items flags es)
  shown-flagged_items (false ∷ flags) (e ∷ es) = shown-flagged_items flags es
