-- The files of a map of paths and bytes: look-ups and changes of the one are those of the other.
use Rattle.std.proofs.Common.{◌≡◌, ℕ, List, [], ◌∷◌, ◌++◌, Option, Some, None, Bool, true, false, cond, refl, sym, ◌∙◌, ap, option_map, map}
use Rattle.std.specs.Ordering.{is_eq, nat_cmp, match_ordering}
use Rattle.std.specs.declared.cmp.Ordering.{Ordering}
use Rattle.std.specs.declared.cmp.Ordering.TheVariants.{Less, Equal, Greater}
use Rattle.std.specs.Cmp.Lexicographic.{slice_cmp, nat_list_cmp_total}
use Rattle.std.specs.List.{AllByRecursion}
use Rattle.std.specs.List.Sorted.{IsStrictlySortedBy}
use Rattle.std.specs.Map.{lookup, set_value, keys_of}
use Rattle.std.specs.BTreeMap.{insert_entry}
use Rattle.std.specs.Str.{bytes_eq}
use Rattle.std.proofs.lemmas.Map.Text.{is_eq-slice_cmp}
use Rattle.std.proofs.lemmas.Map.Keys.{sorted_head, sorted_tail}
use Rattle.jm_outside.specs.Files.{Files, file, put, add}

module _ {K X : Type 0} (key : K → List ℕ) (val : X → List ℕ) where
  -- the files of some entries
  abbrev pub files_in : List (K × X) → Files
  files_in es = map (λ e. (key e.0, val e.1)) es

  -- whether a key is that of a path
  abbrev pub test : List ℕ → K → Bool
  test path k = is_eq (slice_cmp nat_cmp path (key k))

  pick : (b : Bool) (x : X) (r : Option X) (s : Option (List ℕ)) → option_map val r ≡ s → option_map val (cond b (Some x) r)
      ≡ cond b (Some (val x)) s
  pick true x r s h = refl
  pick false x r s h = h

  pub files_in-lookup : (path : List ℕ) (es : List (K × X)) → option_map val (lookup (test path) es) ≡ file (files_in es) path
  files_in-lookup path [] = refl
  files_in-lookup path (e ∷ es) = rw (is_eq-slice_cmp path (key e.0)) (pick (bytes_eq path (key e.0)) e.1 (lookup (test path) es)
      (file (files_in es) path) (files_in-lookup path es))

  pub files_in-insert : (k : K) (v : X) (es : List (K × X)) → files_in (insert_entry (λ a b. slice_cmp nat_cmp (key a) (key b)) es k
      v) ≡ put (files_in es) (key k) (val v)
  files_in-insert k v [] = refl
  files_in-insert k v (e ∷ es) = go (slice_cmp nat_cmp (key k) (key e.0)) (files_in-insert k v es)
    where
      go : (o : Ordering) → files_in (insert_entry (λ a b. slice_cmp nat_cmp (key a) (key b)) es k v)
          ≡ put (files_in es) (key k) (val v) → files_in (match_ordering o ((k, v) ∷ e ∷ es) ((e.0, v) ∷ es)
          (e ∷ insert_entry (λ a b. slice_cmp nat_cmp (key a) (key b)) es k v))
          ≡ match_ordering o ((key k, val v) ∷ (key e.0, val e.1) ∷ files_in es) ((key e.0, val v) ∷ files_in es)
          ((key e.0, val e.1) ∷ put (files_in es) (key k) (val v))
      go Less later = refl
      go Equal later = refl
      go Greater later = ap (λ fs. (key e.0, val e.1) ∷ fs) later

  -- no later key is that of a path below this one
  missing : (path : List ℕ) (k : K) (es : List (K × X)) → slice_cmp nat_cmp path (key k) ≡ Less
      → AllByRecursion (λ y. slice_cmp nat_cmp (key k) (key y) ≡ Less) (keys_of es) → lookup (test path) es ≡ None
  missing path k [] below all = refl
  missing path k (e ∷ es) below all =
      let h : slice_cmp nat_cmp path (key e.0) ≡ Less = nat_list_cmp_total.trans path (key k) (key e.0) below all.0 in
      rw h (missing path k es below all.1)

  gone : (path : List ℕ) (v : X) (es : List (K × X)) → lookup (test path) es ≡ None → lookup (test path) es ≡ Some v → ⊥
  gone path v es none there = cc

  pub files_in-set : (path : List ℕ) (v w : X) (es : List (K × X)) → IsStrictlySortedBy (λ a b. slice_cmp nat_cmp (key a) (key b))
      (keys_of es) → lookup (test path) es ≡ Some v → files_in (set_value (test path) es w) ≡ put (files_in es) path (val w)
  files_in-set path v w [] sorted there = cc
  files_in-set path v w (e ∷ es) sorted there = go (slice_cmp nat_cmp path (key e.0)) refl (λ h. files_in-set path v w es
      (sorted_tail c e.0 (keys_of es) sorted) h)
    where
      c : K → K → Ordering
      c a b = slice_cmp nat_cmp (key a) (key b)

      go : (o : Ordering) → slice_cmp nat_cmp path (key e.0) ≡ o → (lookup (test path) es ≡ Some v
          → files_in (set_value (test path) es w) ≡ put (files_in es) path (val w))
          → files_in (cond (is_eq o) ((e.0, w) ∷ es) (e ∷ set_value (test path) es w))
          ≡ match_ordering o ((path, val w) ∷ (key e.0, val e.1) ∷ files_in es) ((key e.0, val w) ∷ files_in es) ((key e.0, val e.1)
          ∷ put (files_in es) path (val w))
      go Less h later =
          let none : lookup (test path) es ≡ None = missing path e.0 es h (sorted_head c e.0 (keys_of es) sorted) in
          let tested : test path e.0 ≡ false = ap is_eq h in
          absurd (gone path v es none (rw tested at there))
      go Equal h later = refl
      go Greater h later =
          let tested : test path e.0 ≡ false = ap is_eq h in
          ap (λ fs. (key e.0, val e.1) ∷ fs) (later (rw tested at there))

  -- a file that is there, longer by some bytes
  pub files_in-grown : (path bytes : List ℕ) (v w : X) (es new : List (K × X))
      → IsStrictlySortedBy (λ a b. slice_cmp nat_cmp (key a) (key b)) (keys_of es) → lookup (test path) es ≡ Some v → new
      ≡ set_value (test path) es w → val w ≡ val v ++ bytes → files_in new ≡ add (files_in es) path bytes
  files_in-grown path bytes v w es new sorted there is grown =
      let found : file (files_in es) path ≡ Some (val v) = sym (files_in-lookup path es) ∙ ap (option_map val) there in
      rw (is, files_in-set path v w es sorted there, found, grown)

  -- a file that is there and stays as it is
  pub files_in-kept : (path : List ℕ) (v w : X) (es new : List (K × X)) → lookup (test path) es ≡ Some v → new
      ≡ set_value (test path) es w → val w ≡ val v → files_in new ≡ files_in es
  files_in-kept path v w es new there is same = rw is (kept path v w es there same)
    where
      kept : (path : List ℕ) (v w : X) (es : List (K × X)) → lookup (test path) es ≡ Some v → val w ≡ val v
          → files_in (set_value (test path) es w) ≡ files_in es
      kept path v w [] there same = refl
      kept path v w (e ∷ es) there same = go (test path e.0) there (kept path v w es)
        where
          go : (b : Bool) → cond b (Some e.1) (lookup (test path) es) ≡ Some v → (lookup (test path) es ≡ Some v → val w ≡ val v
              → files_in (set_value (test path) es w) ≡ files_in es)
              → files_in (cond b ((e.0, w) ∷ es) (e ∷ set_value (test path) es w)) ≡ (key e.0, val e.1) ∷ files_in es
          go true h later = let e1 : e.1 ≡ v = cc in rw (same, e1)
          go false h later = ap (λ fs. (key e.0, val e.1) ∷ fs) (later h same)

  -- a file that was not there
  pub files_in-new : (path bytes : List ℕ) (es : List (K × X)) → lookup (test path) es ≡ None → put (files_in es) path bytes
      ≡ add (files_in es) path bytes
  files_in-new path bytes es there =
      let found : file (files_in es) path ≡ None = sym (files_in-lookup path es) ∙ ap (option_map val) there in
      rw found
