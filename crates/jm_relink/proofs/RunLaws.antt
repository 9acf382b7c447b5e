-- Files of modules in the order of the names of their entries: those of one module stand side by side, and rise by path.
use Rattle.std.proofs.Common.{◌≡◌, ◌≢◌, ◌<◌, ℕ, Bool, true, false, cond, List, [], ◌∷◌, ◌++◌, AllPairs, Contains, rules}
use Rattle.std.proofs.Common.{map, Some, refl, sym, ap, subst, ◌∙◌}
use Rattle.std.proofs.lemmas.Bool.{false≢true, false_from_ne_true}
use Rattle.std.proofs.lemmas.List.{append_cancel_right}
use Rattle.std.proofs.lemmas.Slice.Eq.{bytes_eq-Decides}
use Rattle.std.specs.Cmp.{ranks}
use Rattle.std.specs.Cmp.Lexicographic.{slice_cmp}
use Rattle.std.specs.List.{filter_map, list_any}
use Rattle.std.specs.Ordering.{MatchOrdering, nat_cmp, ordering_then}
use Rattle.std.specs.Str.{bytes_eq}
use Rattle.std.specs.declared.cmp.Ordering.{Ordering}
use Rattle.std.specs.declared.cmp.Ordering.TheVariants.{Less, Equal, Greater}
use Rattle.jm_bytes.proofs.ByteOrderLaws.{before_apart, before_one_way, cmp_self}
use Rattle.jm_bytes.proofs.Members.{contains_map}
use Rattle.jm_bytes.proofs.Pairs.{pairs_filter_map, pairs_map, pairs_weaker}
use Rattle.jm_bytes.specs.ByteOrder.{is_before}
use Rattle.jm_names.specs.ByName.{Named, RisesByName}
use Rattle.jm_names.specs.Names.{is_slash}
use Rattle.jm_relink.specs.Files.{Filed, NeverFalls, located}
use Rattle.jm_relink.specs.Groups.{Group, begun_as, groups, groups_from, ungrouped}
use Rattle.jm_relink.proofs.GroupLaws.{Falls, groups_rise, groups_whole, second_decides}
use Rattle.jm_relink.proofs.ListLaws.{pairs_each, pairs_unmap}
use Rattle.jm_relink.proofs.NameLaws.{head_false, located_from}

-- Names in byte order stand as their modules do, each with a slash, and then as their paths

slash_other : (b : ℕ) → is_slash b ≡ false → 47 ≡ b → ⊥
slash_other b other same = false≢true (sym other ∙ ap is_slash (sym same))

names_cmp : (m k p q : List ℕ) → list_any is_slash m ≡ false → list_any is_slash k ≡ false
    → slice_cmp nat_cmp (m ++ 47 ∷ p) (k ++ 47 ∷ q)
    ≡ ordering_then (slice_cmp nat_cmp (m ++ 47 ∷ []) (k ++ 47 ∷ [])) (slice_cmp nat_cmp p q)
names_cmp [] [] p q whole other = refl
names_cmp [] (b ∷ k) p q whole other = go (nat_cmp 47 b) (ranks 47 b)
  where
    go : (o : Ordering) → MatchOrdering o (47 < b) (47 ≡ b) (b < 47) → ordering_then o (slice_cmp nat_cmp p (k ++ 47 ∷ q))
        ≡ ordering_then (ordering_then o (slice_cmp nat_cmp [] (k ++ 47 ∷ []))) (slice_cmp nat_cmp p q)
    go Less is = refl
    go Equal is = absurd (slash_other b (head_false is_slash b k other).0 is)
    go Greater is = refl
names_cmp (a ∷ m) [] p q whole other = go (nat_cmp a 47) (ranks a 47)
  where
    go : (o : Ordering) → MatchOrdering o (a < 47) (a ≡ 47) (47 < a) → ordering_then o (slice_cmp nat_cmp (m ++ 47 ∷ p) q)
        ≡ ordering_then (ordering_then o (slice_cmp nat_cmp (m ++ 47 ∷ []) [])) (slice_cmp nat_cmp p q)
    go Less is = refl
    go Equal is = absurd (slash_other a (head_false is_slash a m whole).0 (sym is))
    go Greater is = refl
names_cmp (a ∷ m) (b ∷ k) p q whole other = go (nat_cmp a b)
    (names_cmp m k p q (head_false is_slash a m whole).1 (head_false is_slash b k other).1)
  where
    go : (o : Ordering) → slice_cmp nat_cmp (m ++ 47 ∷ p) (k ++ 47 ∷ q)
        ≡ ordering_then (slice_cmp nat_cmp (m ++ 47 ∷ []) (k ++ 47 ∷ [])) (slice_cmp nat_cmp p q)
        → ordering_then o (slice_cmp nat_cmp (m ++ 47 ∷ p) (k ++ 47 ∷ q))
        ≡ ordering_then (ordering_then o (slice_cmp nat_cmp (m ++ 47 ∷ []) (k ++ 47 ∷ []))) (slice_cmp nat_cmp p q)
    go Less rest = refl
    go Equal rest = rest
    go Greater rest = refl

-- a file and a group whose module has a slash at its end
abbrev slashed : Filed → Filed
slashed e = (e.0 ++ 47 ∷ [], e.1)

abbrev slashed_group : Group → Group
slashed_group g = (g.0 ++ 47 ∷ [], g.1)

slashed_eq : (m k : List ℕ) → bytes_eq (m ++ 47 ∷ []) (k ++ 47 ∷ []) ≡ bytes_eq m k
slashed_eq m k = go (bytes_eq m k) refl
  where
    go : (b : Bool) → bytes_eq m k ≡ b → bytes_eq (m ++ 47 ∷ []) (k ++ 47 ∷ []) ≡ b
    go true is = (bytes_eq-Decides (m ++ 47 ∷ []) (k ++ 47 ∷ [])).1 (ap (λ n. n ++ 47 ∷ []) ((bytes_eq-Decides m k).0 is))
    go false is =
        false_from_ne_true (bytes_eq (m ++ 47 ∷ []) (k ++ 47 ∷ []))
        (λ same. false≢true (sym is ∙ (bytes_eq-Decides m k).1 (append_cancel_right m k (47 ∷ [])
        ((bytes_eq-Decides (m ++ 47 ∷ []) (k ++ 47 ∷ [])).0 same))))

slashed_from : (g : Group) (es : List Filed) → groups_from (slashed_group g) (map slashed es) ≡ map slashed_group (groups_from g es)
slashed_from g [] = refl
slashed_from g (e ∷ es) =
    ap (λ b. cond b (groups_from (g.0 ++ 47 ∷ [], g.1 ++ e.1 ∷ []) (map slashed es)) (slashed_group g ∷ groups_from (begun_as
    (slashed e)) (map slashed es))) (slashed_eq g.0 e.0)
    ∙ go (bytes_eq g.0 e.0) (slashed_from (g.0, g.1 ++ e.1 ∷ []) es) (slashed_from (begun_as e) es)
  where
    go : (b : Bool) → groups_from (g.0 ++ 47 ∷ [], g.1 ++ e.1 ∷ []) (map slashed es)
        ≡ map slashed_group (groups_from (g.0, g.1 ++ e.1 ∷ []) es)
        → groups_from (begun_as (slashed e)) (map slashed es) ≡ map slashed_group (groups_from (begun_as e) es)
        → cond b (groups_from (g.0 ++ 47 ∷ [], g.1 ++ e.1 ∷ []) (map slashed es)) (slashed_group g ∷ groups_from (begun_as
        (slashed e)) (map slashed es))
        ≡ map slashed_group (cond b (groups_from (g.0, g.1 ++ e.1 ∷ []) es) (g ∷ groups_from (begun_as e) es))
    go true one other = one
    go false one other = ap (λ hs. slashed_group g ∷ hs) other

slashed_groups : (es : List Filed) → groups (map slashed es) ≡ map slashed_group (groups es)
slashed_groups [] = refl
slashed_groups (e ∷ es) = slashed_from (begun_as e) es

module _ (rs : List Named) (rises : RisesByName rs) where
  abbrev files : List Filed
  files = filter_map located rs

  abbrev SlashedFalls : Filed → Filed → Type 0
  SlashedFalls e f = Falls (slashed e) (slashed f)

  stands : (r q : Named) → is_before r.0 q.0 ≡ true → (e f : Filed) → located r ≡ Some e → located q ≡ Some f → SlashedFalls e f
  stands r q before e f one other = search (rules, before_one_way, located_from, names_cmp)

  never_falls : NeverFalls (map slashed files)
  never_falls = search (rules, pairs_filter_map, pairs_map, stands)

  -- no module has two groups
  pub modules_apart : AllPairs (λ (g h : Group). g.0 ≢ h.0) (groups files)
  modules_apart =
      pairs_weaker (λ (g h : Group). is_before (g.0 ++ 47 ∷ []) (h.0 ++ 47 ∷ []) ≡ true) (λ (g h : Group). g.0 ≢ h.0)
      (λ g h before same. before_apart (g.0 ++ 47 ∷ []) (h.0 ++ 47 ∷ []) before (ap (λ n. n ++ 47 ∷ []) same))
      (groups files)
      (pairs_unmap (λ (g h : Group). is_before g.0 h.0 ≡ true) slashed_group (groups files)
      (subst (AllPairs (λ (g h : Group). is_before g.0 h.0 ≡ true)) (slashed_groups files)
      (groups_rise (map slashed files) never_falls)))

  -- the files of a group rise by path
  pub paths_rise : (g : Group) → Contains (groups files) g → AllPairs (λ (e f : Named). is_before f.0 e.0 ≡ false) g.1
  paths_rise g there =
      let m = g.0 ++ 47 ∷ [] in
      let among = subst (λ hs. Contains hs (slashed_group g)) (sym (slashed_groups files))
      (contains_map slashed_group (groups files) g there) in
      let own = pairs_each Falls ungrouped (groups (map slashed files)) (slashed_group g)
      (subst (AllPairs Falls) (sym (groups_whole (map slashed files))) never_falls) among in
      pairs_weaker (λ (e f : Named). Falls (m, e) (m, f)) (λ (e f : Named). is_before f.0 e.0 ≡ false)
      (λ e f falls. sym (second_decides (slice_cmp nat_cmp m m) (slice_cmp nat_cmp f.0 e.0) (cmp_self m)) ∙ falls)
      g.1 (pairs_unmap Falls (λ (f : Named). (m, f)) g.1 own)
