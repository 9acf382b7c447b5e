-- How much of an image's contents a link takes.
use Rattle.std.proofs.Common.{◌≡◌, ◌≢◌, ◌≤◌, inl, inr, ℕ, suc, false, List, [], ◌∷◌, ◌++◌, drop}
use Rattle.std.proofs.Common.{take, AllPairs, Contains, Some, ap, subst, ◌∙◌, arith}
use Rattle.std.proofs.Math.Seq.{split_at}
use Rattle.std.proofs.lemmas.List.Elements.{All-contains, Contains-append_cases, Contains-append_left, Contains-append_right}
use Rattle.std.proofs.lemmas.List.Sums.{sum_by-append, sum_by-cons}
use Rattle.std.specs.List.{list_any, sum_by}
use Rattle.jm_bytes.proofs.Members.{contains_cases, contains_here, contains_later}
use Rattle.jm_bytes.proofs.Pairs.{pairs_head, pairs_tail}
use Rattle.jm_names.specs.Names.{is_slash}
use Rattle.jm_relink.specs.Files.{file_name}
use Rattle.jm_relink.proofs.NameLaws.{parts_of_file}
use Rattle.jm_modset.specs.Infos.{has_info_path, is_info}

-- elements of a list, each of them once, have together at most the sum of all
pub sum_among : {X : Type 0} (f : X → ℕ) (xs ys : List X) → AllPairs (λ x y. x ≢ y) xs
    → ((x : X) → Contains xs x → Contains ys x) → sum_by f xs ≤ sum_by f ys
sum_among f [] ys apart among = omega arith
sum_among {X = X} f (x ∷ xs) ys apart among =
    let rest = sum_among f xs (front ++ back) (pairs_tail (λ (a b : X). a ≢ b) x xs apart) others in
    let all = ap (sum_by f) whole ∙ sum_by-append f front (x ∷ back) in
    let one = sum_by-cons f x back in
    let both = sum_by-append f front back in
    let own = sum_by-cons f x xs in
    omega (arith, rest, all, one, both, own)
  where
    at : Contains ys x
    at = among x (contains_here x xs)

    front : List X
    front = take at.0 ys

    back : List X
    back = drop (suc at.0) ys

    whole : ys ≡ front ++ x ∷ back
    whole = split_at ys at.0 x at.1 ∙ ap (λ y. front ++ y ∷ back) at.2

    others : (y : X) → Contains xs y → Contains (front ++ back) y
    others y there =
        let own = subst (λ zs. Contains zs y) whole (among y (contains_later x xs y there)) in
        elim (Contains-append_cases front (x ∷ back) y own) [
          | inl before ↦ Contains-append_left front back y before
          | inr later ↦
              elim (contains_cases x back y later) [
                | inl same ↦ absurd (All-contains (λ z. x ≢ z) xs y (pairs_head (λ (a b : X). a ≢ b) x xs apart) there same)
                | inr behind ↦ Contains-append_right front back y behind
              ]
        ]

-- the name of a file tells whether it is the descriptor of its module
pub info_by_path : (m path content : List ℕ) → list_any is_slash m ≡ false → is_info (file_name m path, content)
    ≡ has_info_path (Some (m, path))
info_by_path m path content whole = ap has_info_path (parts_of_file m path whole)
