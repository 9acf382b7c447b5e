-- Names of resources in the order in which they are linked: by module, and then by path.
use Rattle.std.proofs.Common.{◌≡◌, ◌≢◌, ◌⊎◌, inl, inr, ℕ, Bool, true, false, cond, List, [], ◌∷◌, ◌++◌, All, rules}
use Rattle.std.proofs.Common.{AllPairs, Contains, refl, sym, ap, subst, ◌∙◌}
use Rattle.std.proofs.lemmas.Bool.{false≢true}
use Rattle.std.proofs.lemmas.List.Elements.{All-contains, All-head, All-nil, All-tail}
use Rattle.std.proofs.lemmas.List.Kept.{AllPairs-cons}
use Rattle.std.specs.Cmp.{nat_cmp_is}
use Rattle.std.specs.Cmp.Lexicographic.{slice_cmp}
use Rattle.std.specs.List.{flat_map, list_any}
use Rattle.std.specs.Ordering.{is_lt, nat_cmp, ordering_then}
use Rattle.std.specs.declared.cmp.Ordering.TheVariants.{Equal}
use Rattle.jm_bytes.proofs.Members.{all_from_contains, contains_cases, from_map}
use Rattle.jm_bytes.proofs.Pairs.{pairs_append, pairs_head, pairs_map, pairs_none, pairs_tail, pairs_weaker}
use Rattle.jm_bytes.proofs.SameOrder.{from_flat_map}
use Rattle.jm_form.specs.Layout.{Written}
use Rattle.jm_form.specs.Trees.{module_of, path_of}
use Rattle.jm_bytes.specs.ByteOrder.{is_before}
use Rattle.jm_names.specs.Names.{is_slash}
use Rattle.jm_nodes.proofs.SoundLaws.{module_again, path_again}
use Rattle.jm_relink.specs.Files.{file_name}
use Rattle.jm_relink.specs.Gathering.{resource_of}
use Rattle.jm_relink.specs.Modules.{SeenModule}
use Rattle.jm_relink.specs.Modules as image
use Rattle.jm_modset.specs.Shown.{Shown, name_of, of_entries, seen_resources}
use Rattle.jm_bytes.proofs.ByteOrderLaws.{before_apart, before_further, one_way, stand}
use Rattle.jm_bytes.proofs.ByteOrderLaws.Stand.{stands_before, is_one, stands_behind}
use Rattle.jm_names.specs.ByName.{Named, RisesByName, by_name, placed}
use Rattle.jm_names.proofs.NameOrder.{from_placed}

-- the module has a lesser name, or it is the same and the path is lesser
abbrev pub IsFirst : List ℕ → List ℕ → Type 0
IsFirst n m =
    (is_before (module_of n) (module_of m) ≡ true)
    ⊎ ((module_of n ≡ module_of m) × (is_before (path_of n) (path_of m) ≡ true))

not_self : (n m : List ℕ) → n ≡ m → is_before n m ≡ true → ⊥
not_self n m same before = before_apart n m before same

pub never_both : (n m : List ℕ) → IsFirst n m → IsFirst m n → ⊥
never_both n m (inl one) (inl other) = one_way (module_of n) (module_of m) one other
never_both n m (inl one) (inr other) = not_self (module_of n) (module_of m) (sym other.0) one
never_both n m (inr one) (inl other) = not_self (module_of m) (module_of n) (sym one.0) other
never_both n m (inr one) (inr other) = one_way (path_of n) (path_of m) one.1 other.1

-- the same where the names differ
abbrev pub IsFirstOrOne : List ℕ → List ℕ → Type 0
IsFirstOrOne n m = n ≢ m → IsFirst n m

-- Files of modules

module _ (m k p q : List ℕ) (whole : list_any is_slash m ≡ false) (other : list_any is_slash k ≡ false) where
  pub modules_first : is_before m k ≡ true → IsFirst (file_name m p) (file_name k q)
  modules_first before = inl (rw (module_again m p whole, module_again k q other) before)

  pub paths_first : m ≡ k → is_before p q ≡ true → IsFirst (file_name m p) (file_name k q)
  paths_first same before = search (rules, module_again, path_again)

before_front : (front p q : List ℕ) → is_before (front ++ p) (front ++ q) ≡ is_before p q
before_front [] p q = refl
before_front (b ∷ front) p q =
    let same : Equal ≡ nat_cmp b b = nat_cmp_is b b Equal refl in
    ap (λ o. is_lt (ordering_then o (slice_cmp nat_cmp (front ++ p) (front ++ q)))) (sym same) ∙ before_front front p q

-- names of one module are first as they rise
pub named_first : (m : List ℕ) → list_any is_slash m ≡ false → (p q e f : List ℕ) → file_name m p ≡ e → file_name m q ≡ f
    → is_before e f ≡ true → IsFirst e f
named_first m whole p q e f is also before =
    let same = before_front (47 ∷ m) (47 ∷ p) (47 ∷ q) ∙ before_front (47 ∷ []) p q in
    subst (λ x. IsFirst x f) is (subst (IsFirst (file_name m p)) also
    (paths_first m m p q whole whole refl (sym same ∙ ap (λ x. is_before x (file_name m q)) is ∙ ap (is_before e) also ∙ before)))

-- Modules, one behind another

-- one module has a lesser name than another
abbrev pub Rises : Shown → Shown → Type 0
Rises m k = is_before (name_of m) (name_of k) ≡ true

-- a module's resources have its name, which has no slash
pub record AreNamed (m : Shown) : Type 0 where
  pub whole : list_any is_slash (name_of m) ≡ false
  pub each : (r : Written) → Contains m.resources r → (path : List ℕ) × (r.0 ≡ file_name (name_of m) path)

module _ (R : Written → Written → Type 0) (first : (e f : Written) → IsFirst e.0 f.0 → R e f) where
  across : (m k : Shown) → AreNamed m → AreNamed k → Rises m k → (e f : Written) → Contains m.resources e → Contains k.resources f → R e f
  across m k one other before e f there too =
      let (p, is) = one.each e there in
      let (q, also) = other.each f too in
      first e f (subst (λ n. IsFirst n f.0) (sym is) (subst (IsFirst (file_name (name_of m) p)) (sym also)
      (modules_first (name_of m) (name_of k) p q one.whole other.whole before)))

  pub pairs_shown : (ms : List Shown) → All (λ m. AreNamed m) ms → All (λ m. AllPairs R m.resources) ms → AllPairs Rises ms
      → AllPairs R (flat_map (λ m. m.resources) ms)
  pairs_shown [] named inside rise = pairs_none R
  pairs_shown (m ∷ ms) named inside rise =
      let later = All-tail (λ k. AreNamed k) m ms named in
      pairs_append R m.resources (flat_map (λ k. k.resources) ms) (All-head (λ k. AllPairs R k.resources) m ms inside)
      (pairs_shown ms later (All-tail (λ k. AllPairs R k.resources) m ms inside) (pairs_tail Rises m ms rise))
      (λ e f there too.
      let (k, among, has) = from_flat_map (λ k. k.resources) ms f too in
      across m k (All-head (λ k. AreNamed k) m ms named) (All-contains (λ k. AreNamed k) ms k later among)
      (All-contains (Rises m) ms k (pairs_head Rises m ms rise) among) e f there has)

-- Files of a module of an image

module _ (s : SeenModule) (whole : list_any is_slash (image.name_of s) ≡ false) where
  pub entries_named : AreNamed (of_entries s)
  entries_named = record {
    whole = whole;
    each = λ r there.
        let (f, among, is) = from_map (resource_of (image.name_of s)) s.files r there in
        (f.0, ap (λ (x : Written). x.0) (sym is));
  }

  pub entries_rise : RisesByName s.files → AllPairs (λ (e f : Written). IsFirst e.0 f.0) (seen_resources s)
  entries_rise rise =
      let AreFirst : Written → Written → Type 0 = λ e f. IsFirst e.0 f.0 in
      pairs_map AreFirst (resource_of (image.name_of s)) s.files
      (pairs_weaker (λ (e f : Named). is_before e.0 f.0 ≡ true) (λ e f. AreFirst (resource_of (image.name_of s) e) (resource_of (image.name_of s) f))
      (λ e f before. paths_first (image.name_of s) (image.name_of s) e.0 f.0 whole whole refl before) s.files rise)

-- Names that are sorted

abbrev NotAfter : Named → Named → Type 0
NotAfter e f = e.0 ≢ f.0 → is_before e.0 f.0 ≡ true

before_then : (e f g : Named) → is_before e.0 f.0 ≡ true → NotAfter f g → is_before e.0 g.0 ≡ true
before_then e f g one other = search (rules, before_apart, before_further, one_way, stand, stands_before, is_one, stands_behind)

placed_sorted : (e : Named) (es : List Named) → AllPairs NotAfter es → AllPairs NotAfter (placed e es)
placed_sorted e [] sorted = AllPairs-cons NotAfter e [] (All-nil (NotAfter e)) sorted
placed_sorted e (f ∷ es) sorted = go (is_before f.0 e.0) refl (placed_sorted e es (pairs_tail NotAfter f es sorted))
  where
    head : (g : Named) → Contains es g → NotAfter f g
    head g there = All-contains (NotAfter f) es g (pairs_head NotAfter f es sorted) there

    go : (b : Bool) → is_before f.0 e.0 ≡ b → AllPairs NotAfter (placed e es) → AllPairs NotAfter (cond b (f ∷ placed e es) (e ∷ f ∷ es))
    go true before rest = AllPairs-cons NotAfter f (placed e es) (all_from_contains (NotAfter f) (placed e es) behind) rest
      where
        behind : (g : Named) → Contains (placed e es) g → NotAfter f g
        behind g there =
            elim (from_placed e es g there) [
              | inl same ↦ λ differ. subst (λ (h : Named). is_before f.0 h.0 ≡ true) same before
              | inr among ↦ head g among
            ]
    go false before rest = AllPairs-cons NotAfter e (f ∷ es) (all_from_contains (NotAfter e) (f ∷ es) behind) sorted
      where
        first : NotAfter e f
        first differ =
            elim (stand e.0 f.0) [
              | stands_before h ↦ h
              | is_one h ↦ absurd (differ h)
              | stands_behind h ↦ absurd (false≢true (sym before ∙ h))
            ]

        behind : (g : Named) → Contains (f ∷ es) g → NotAfter e g
        behind g there differ =
            elim (contains_cases f es g there) [
              | inl same ↦ subst (λ (h : Named). is_before e.0 h.0 ≡ true) same (first (λ one. differ (one ∙ ap (λ (h : Named). h.0) same)))
              | inr later ↦
                  elim (stand e.0 f.0) [
                    | stands_before h ↦ before_then e f g h (head g later)
                    | is_one h ↦ subst (λ n. is_before n g.0 ≡ true) (sym h) (head g later (λ one. differ (h ∙ one)))
                    | stands_behind h ↦ absurd (false≢true (sym before ∙ h))
                  ]
            ]

pub by_name_sorted : (es : List Named) → AllPairs NotAfter (by_name es)
by_name_sorted [] = pairs_none NotAfter
by_name_sorted (e ∷ es) = placed_sorted e (by_name es) (by_name_sorted es)
