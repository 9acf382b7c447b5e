-- The told files as a finite map: what a path has after a change, and which names a folder has.
use Rattle.std.proofs.Common.{◌≡◌, ◌==◌, ◌&&◌, ◌||◌, ℕ, List, [], ◌∷◌, ◌++◌, Option, Some, None, Bool, true}
use Rattle.std.proofs.Common.{false, cond, refl, sym, ◌∙◌, ap, append_assoc, is_some, if◌then◌else◌}
use Rattle.std.specs.Option.{option_map_or}
use Rattle.std.specs.List.{list_any, filter_map, cons_option}
use Rattle.std.specs.Ordering.{is_eq, nat_cmp, match_ordering}
use Rattle.std.specs.declared.cmp.Ordering.{Ordering}
use Rattle.std.specs.declared.cmp.Ordering.TheVariants.{Less, Equal, Greater}
use Rattle.std.specs.Cmp.Lexicographic.{slice_cmp}
use Rattle.std.specs.Str.{bytes_eq}
use Rattle.std.proofs.lemmas.Map.Text.{is_eq-slice_cmp}
use Rattle.std.proofs.lemmas.Slice.Eq.{bytes_eq-Decides}
use Rattle.jm_outside.specs.Files.{Files, file, put, after_front, names_below}

-- what a path has once another, or it, was given bytes
pub file-put : (files : Files) (path bytes asked : List ℕ) → file (put files path bytes) asked
    ≡ (if bytes_eq asked path then Some bytes else file files asked)
file-put [] path bytes asked = refl
file-put (f ∷ files) path bytes asked = go (slice_cmp nat_cmp path f.0) refl (file-put files path bytes asked)
  where
    replaced : (b : Bool) → cond b (Some bytes) (file files asked) ≡ cond b (Some bytes) (cond b (Some f.1) (file files asked))
    replaced true = refl
    replaced false = refl

    apart : (a b : Bool) → bytes_eq asked f.0 ≡ a → bytes_eq asked path ≡ b → bytes_eq path f.0 ≡ false
        → cond a (Some f.1) (cond b (Some bytes) (file files asked)) ≡ cond b (Some bytes) (cond a (Some f.1) (file files asked))
    apart true true a b differ =
        let here : asked ≡ f.0 = (bytes_eq-Decides asked f.0).0 a in
        let there : asked ≡ path = (bytes_eq-Decides asked path).0 b in
        let same : bytes_eq path f.0 ≡ true = (bytes_eq-Decides path f.0).1 (sym there ∙ here) in
        cc
    apart true false a b differ = refl
    apart false true a b differ = refl
    apart false false a b differ = refl

    go : (o : Ordering) → slice_cmp nat_cmp path f.0 ≡ o → file (put files path bytes) asked
        ≡ cond (bytes_eq asked path) (Some bytes) (file files asked)
        → file (match_ordering o ((path, bytes) ∷ f ∷ files) ((f.0, bytes) ∷ files) (f ∷ put files path bytes)) asked
        ≡ cond (bytes_eq asked path) (Some bytes) (cond (bytes_eq asked f.0) (Some f.1) (file files asked))
    go Less is later = refl
    go Equal is later =
        let equal : bytes_eq path f.0 ≡ true = sym (is_eq-slice_cmp path f.0) ∙ ap is_eq is in
        let same : path ≡ f.0 = (bytes_eq-Decides path f.0).0 equal in
        rw same (replaced (bytes_eq asked f.0))
    go Greater is later =
        let differ : bytes_eq path f.0 ≡ false = sym (is_eq-slice_cmp path f.0) ∙ ap is_eq is in
        rw later (apart (bytes_eq asked f.0) (bytes_eq asked path) refl refl differ)

-- a text behind a front
behind_front : (front r text : List ℕ) → bytes_eq (front ++ r) text ≡ option_map_or (λ s. bytes_eq r s) (after_front front text) false
behind_front [] r text = refl
behind_front (b ∷ front) r [] = refl
behind_front (b ∷ front) r (c ∷ text) = go (b == c) (behind_front front r text)
  where
    go : (t : Bool) → bytes_eq (front ++ r) text ≡ option_map_or (λ s. bytes_eq r s) (after_front front text) false
        → (t && bytes_eq (front ++ r) text) ≡ option_map_or (λ s. bytes_eq r s) (cond t (after_front front text) None) false
    go true h = h
    go false h = refl

any_name_behind : (front r : List ℕ) (files : Files) → list_any (bytes_eq r) (filter_map (λ f. after_front front f.0) files)
    ≡ is_some (file files (front ++ r))
any_name_behind front r [] = refl
any_name_behind front r (f ∷ files) = rw (behind_front front r f.0) (go (after_front front f.0) (any_name_behind front r files))
  where
    test : (b : Bool) → list_any (bytes_eq r) (filter_map (λ f. after_front front f.0) files) ≡ is_some (file files (front ++ r))
        → (b || list_any (bytes_eq r) (filter_map (λ f. after_front front f.0) files))
        ≡ is_some (cond b (Some f.1) (file files (front ++ r)))
    test true h = refl
    test false h = h

    go : (o : Option (List ℕ)) → list_any (bytes_eq r) (filter_map (λ f. after_front front f.0) files)
        ≡ is_some (file files (front ++ r)) → list_any (bytes_eq r) (cons_option o (filter_map (λ f. after_front front f.0) files))
        ≡ is_some (cond (option_map_or (λ s. bytes_eq r s) o false) (Some f.1) (file files (front ++ r)))
    go None h = h
    go (Some s) h = test (bytes_eq r s) h

-- a folder has exactly the names that make paths with it and a slash
pub names_below-exact : (folder r : List ℕ) (files : Files) → list_any (bytes_eq r) (names_below folder files)
    ≡ is_some (file files (folder ++ 47 ∷ r))
names_below-exact folder r files = rw (sym (append_assoc folder (47 ∷ []) r)) (any_name_behind (folder ++ 47 ∷ []) r files)
