-- Names that begin with a prefix, and their hashes by the state after it.
use Rattle.std.proofs.Common.{◌≡◌, ℕ, ◌+◌, ◌<◌, ◌≤◌, ◌%◌, ◌^◌, List, [], ◌++◌, length, map, take, drop, get_or, All, sym, ap, ◌∙◌, subst, Bor}
use Rattle.std.proofs.lemmas.List.{take-append-drop, take-take, length-take-le, take_more, get_or-map}
use Rattle.std.proofs.lemmas.List.Elements.{All-push, All-weaker}
use Rattle.jm_names.specs.Hash.{hash, state_after}
use Rattle.jm_names.proofs.HashLaws.{state_after-append}
use Rattle.jm_redirect.specs.Prefixes.{BeginsWith}

-- the state after a name is that after its rest, from the state after the prefix
rest_hashed : (prefix name : List ℕ) (seed : ℕ) → BeginsWith prefix name
    → state_after (state_after seed prefix) (drop (length prefix) name) ≡ state_after seed name
rest_hashed prefix name seed begins =
    let rest = drop (length prefix) name in
    sym (state_after-append seed prefix rest) ∙ ap (λ l. state_after seed (l ++ rest)) (sym begins)
    ∙ ap (state_after seed) (take-append-drop (length prefix) name)

-- the hash of a name among some that begin with a prefix, by the state after the prefix
pub hashed_at : (prefix : List ℕ) (names : List (Bor (List ℕ))) (at seed state : ℕ) (d : Bor (List ℕ)) {rest : List ℕ}
    → All (λ name. BeginsWith prefix name.now) names → at < length names → rest ≡ drop (length prefix) (get_or names at d).now
    → state ≡ state_after seed prefix → state_after state rest % 2 ^ 31 ≡ hash seed (get_or (map (λ name. name.now) names) at [])
hashed_at prefix names at seed state d {rest} begin inside cut is =
    ap (λ s. state_after s rest % 2 ^ 31) is ∙ ap (λ r. state_after (state_after seed prefix) r % 2 ^ 31) cut
    ∙ ap (λ s. s % 2 ^ 31) (rest_hashed prefix (get_or names at d).now seed (begin at d inside))
    ∙ ap (hash seed) (sym (get_or-map (λ (name : Bor (List ℕ)). name.now) names at d [] inside))

-- what begins with a prefix begins with a shorter one of it
begins_shorter : (prefix name : List ℕ) (n : ℕ) → n ≤ length prefix → BeginsWith prefix name → BeginsWith (take n prefix) name
begins_shorter prefix name n within begins =
    ap (λ m. take m name) (length-take-le n prefix within) ∙ sym (take-take n (length prefix) name within) ∙ ap (take n) begins

-- one name more, which shares the first bytes of the prefix
pub begins_more : (prefix : List ℕ) (names : List (Bor (List ℕ))) (i n : ℕ) (d : Bor (List ℕ)) → i < length names → n ≤ length prefix
    → take n prefix ≡ take n (get_or names i d).now → All (λ name. BeginsWith prefix name.now) (take i names)
    → All (λ name. BeginsWith (take n prefix) name.now) (take (i + 1) names)
begins_more prefix names i n d inside within same so_far =
    let begins : Bor (List ℕ) → Type 0 = λ name. BeginsWith (take n prefix) name.now in
    let new : begins (get_or names i d) = ap (λ m. take m (get_or names i d).now) (length-take-le n prefix within) ∙ sym same in
    subst (All begins) (sym (take_more names i d inside)) (All-push begins (take i names) (get_or names i d)
    (All-weaker (λ name. BeginsWith prefix name.now) begins (λ name. begins_shorter prefix name.now n within) (take i names) so_far) new)
