-- Constants of which numbers are changed: by the shapes that bodies have, the names stay names and
-- the sizes stay.
use Rattle.std.proofs.Common.{◌≡◌, ℕ, suc, ◌^◌, ◌<◌, ◌⊎◌, Bool, true, false, cond, List}
use Rattle.std.proofs.Common.{[], ◌∷◌, ◌++◌, length, map, take, drop, Some, Contains}
use Rattle.std.proofs.Common.{refl, sym, ap, ap₂, ◌∙◌, subst}
use Rattle.std.proofs.lemmas.List.{append-nil}
use Rattle.std.proofs.lemmas.Nat.{from_be_bytes-to_be_bytes_2}
use Rattle.std.specs.Int.{w16, from_be_bytes}
use Rattle.std.specs.Prelude.{nat_eq}
use Rattle.jm_bytes.proofs.Members.{contains_here, contains_later}
use Rattle.jm_class.specs.Classes.{Constant, u2, joined, body_text, slot_text, body_size, FitsTag}
use Rattle.jm_poolmap.specs.Sites.{name_sites, named_by}
use Rattle.jm_poolmap.proofs.NamePlaces.{sites_at, by_shape}
use Rattle.jm_compact.specs.Compact.{renamed}
use Rattle.jm_compact.specs.Pieces.{Piece, Plain, Number, cut, put_for_all, text_of, renumbered}

-- Bodies, by the places at which they name others

abbrev pub names_at : List ℕ → List ℕ → List ℕ
names_at places body = map (λ place. from_be_bytes w16 (take 2 (drop place body))) places

-- The numbers in pieces

abbrev pub numbers : {A : Type 0} → List (Piece A) → List A
numbers [] = []
numbers (Plain bytes ∷ pieces) = numbers pieces
numbers (Number wide n ∷ pieces) = n ∷ numbers pieces

numbers-put : {A B : Type 0} (new : A → B) (pieces : List (Piece A)) → numbers (put_for_all new pieces) ≡ map new (numbers pieces)
numbers-put new [] = refl
numbers-put new (Plain bytes ∷ pieces) = numbers-put new pieces
numbers-put new (Number wide n ∷ pieces) = ap (λ t. new n ∷ t) (numbers-put new pieces)

-- the same in the place of each number
pub put_same : {A B : Type 0} (f g : A → B) (pieces : List (Piece A)) → ((n : A) → Contains (numbers pieces) n → f n ≡ g n)
    → put_for_all f pieces ≡ put_for_all g pieces
put_same f g [] same = refl
put_same f g (Plain bytes ∷ pieces) same = ap (λ t. Plain bytes ∷ t) (put_same f g pieces same)
put_same f g (Number wide n ∷ pieces) same =
    ap₂ (λ m t. Number wide m ∷ t) (same n (contains_here n (numbers pieces)))
    (put_same f g pieces (λ m there. same m (contains_later n (numbers pieces) m there)))

pub put_twice : {A B C : Type 0} (f : A → B) (g : B → C) (pieces : List (Piece A)) → put_for_all g (put_for_all f pieces)
    ≡ put_for_all (λ n. g (f n)) pieces
put_twice f g [] = refl
put_twice f g (Plain bytes ∷ pieces) = ap (λ t. Plain bytes ∷ t) (put_twice f g pieces)
put_twice f g (Number wide n ∷ pieces) = ap (λ t. Number wide (g (f n)) ∷ t) (put_twice f g pieces)

abbrev number : ℕ → ℕ → ℕ
number high low = from_be_bytes w16 (high ∷ low ∷ [])

-- the numbers that a body is cut at are the ones that it names
pub numbers-cut : (tag : ℕ) (body : List ℕ) → FitsTag tag body → numbers (cut (name_sites tag) 0 body) ≡ named_by (Constant tag body)
numbers-cut = by_shape (λ places body. numbers (cut (sites_at places) 0 body) ≡ names_at places body) (λ body. refl) (λ a b. refl)
    (λ a b c d. refl) (λ a b c d. refl) (λ a b c. refl)

-- Other numbers

-- numbers that are changed take as many bytes
length-renumbered : (new : ℕ → ℕ) (tag : ℕ) (body : List ℕ) → FitsTag tag body → length (renumbered new (name_sites tag) 0 body)
    ≡ length body
length-renumbered new = by_shape (λ places body. length (renumbered new (sites_at places) 0 body) ≡ length body)
    (λ body. ap length (append-nil body)) (λ a b. refl) (λ a b c d. refl) (λ a b c d. refl) (λ a b c. refl)

-- the new numbers fit into two bytes
abbrev pub AllFitTwo : (ℕ → ℕ) → List ℕ → Type 0
AllFitTwo new named = (k : ℕ) → Contains named k → new k < 2 ^ 16

pub cut-renumbered : (new : ℕ → ℕ) (tag : ℕ) (body : List ℕ) → FitsTag tag body → AllFitTwo new (named_by (Constant tag body))
    → cut (name_sites tag) 0 (renumbered new (name_sites tag) 0 body) ≡ put_for_all new (cut (name_sites tag) 0 body)
cut-renumbered new = by_shape (λ places body. AllFitTwo new (names_at places body)
    → cut (sites_at places) 0 (renumbered new (sites_at places) 0 body) ≡ put_for_all new (cut (sites_at places) 0 body))
    (λ body below. ap (λ t. Plain t ∷ []) (append-nil body))
    (λ a b below.
    let first = from_be_bytes-to_be_bytes_2 (new (number a b)) (below (number a b) (contains_here (number a b) [])) in
    ap (λ k. Plain [] ∷ Number true k ∷ Plain [] ∷ []) first)
    (λ a b c d below.
    let first = from_be_bytes-to_be_bytes_2 (new (number a b)) (below (number a b) (contains_here (number a b) (number c d ∷ []))) in
    let second = from_be_bytes-to_be_bytes_2 (new (number c d)) (below (number c d) (contains_later (number a b) (number c d ∷ [])
    (number c d) (contains_here (number c d) []))) in
    ap₂ (λ k m. Plain [] ∷ Number true k ∷ Plain [] ∷ Number true m ∷ Plain [] ∷ []) first second)
    (λ a b c d below.
    let first = from_be_bytes-to_be_bytes_2 (new (number c d)) (below (number c d) (contains_here (number c d) [])) in
    ap (λ k. Plain (a ∷ b ∷ []) ∷ Number true k ∷ Plain [] ∷ []) first)
    (λ a b c below.
    let first = from_be_bytes-to_be_bytes_2 (new (number b c)) (below (number b c) (contains_here (number b c) [])) in
    ap (λ k. Plain (a ∷ []) ∷ Number true k ∷ Plain [] ∷ []) first)

-- the body still fits its tag
pub fits_renumbered : (new : ℕ → ℕ) (tag : ℕ) (body : List ℕ) → FitsTag tag body → FitsTag tag (renumbered new (name_sites tag) 0 body)
fits_renumbered new tag body fits = subst (λ n. ((tag ≡ 1) × (n < 2 ^ 16)) ⊎ (body_size tag ≡ Some n))
    (sym (length-renumbered new tag body fits)) fits

pub renamed_names : (new : ℕ → ℕ) (tag : ℕ) (body : List ℕ) → FitsTag tag body → AllFitTwo new (named_by (Constant tag body))
    → named_by (renamed new (Constant tag body)) ≡ map new (named_by (Constant tag body))
renamed_names new tag body fits below =
    sym (numbers-cut tag (renumbered new (name_sites tag) 0 body) (fits_renumbered new tag body fits))
    ∙ ap numbers (cut-renumbered new tag body fits below) ∙ numbers-put new (cut (name_sites tag) 0 body)
    ∙ ap (map new) (numbers-cut tag body fits)

-- a Utf8 names nothing
pub renamed_utf8 : (new : ℕ → ℕ) (body : List ℕ) → renamed new (Constant 1 body) ≡ Constant 1 body
renamed_utf8 new body = ap (Constant 1) (append-nil body)

-- the same new numbers
pub renamed_same : (new other : ℕ → ℕ) (tag : ℕ) (body : List ℕ) → FitsTag tag body
    → ((k : ℕ) → Contains (named_by (Constant tag body)) k → new k ≡ other k) → renamed new (Constant tag body)
    ≡ renamed other (Constant tag body)
renamed_same new other tag body fits same =
    ap (λ pieces. Constant tag (text_of pieces))
    (put_same new other (cut (name_sites tag) 0 body) (λ k there. same k (subst (λ named. Contains named k)
    (numbers-cut tag body fits) there)))

-- new numbers, and others in their place
pub renamed_twice : (new other : ℕ → ℕ) (tag : ℕ) (body : List ℕ) → FitsTag tag body → AllFitTwo new (named_by (Constant tag body))
    → renamed other (renamed new (Constant tag body)) ≡ renamed (λ n. other (new n)) (Constant tag body)
renamed_twice new other tag body fits below =
    ap (λ pieces. Constant tag (text_of (put_for_all other pieces))) (cut-renumbered new tag body fits below)
    ∙ ap (λ pieces. Constant tag (text_of pieces)) (put_twice new other (cut (name_sites tag) 0 body))

-- the text is as long
pub length-renamed : (new : ℕ → ℕ) (tag : ℕ) (body : List ℕ) → FitsTag tag body
    → length (slot_text (renamed new (Constant tag body))) ≡ length (slot_text (Constant tag body))
length-renamed new tag body fits = ap (λ n. suc n) (inner (renumbered new (name_sites tag) 0 body) (length-renumbered new tag body fits))
  where
    inner : (other : List ℕ) → length other ≡ length body → length (body_text tag other ++ []) ≡ length (body_text tag body ++ [])
    inner other size = ap length (append-nil (body_text tag other)) ∙ go (nat_eq tag 1) ∙ sym (ap length (append-nil (body_text tag body)))
      where
        go : (b : Bool) → length (cond b (joined (u2 (length other) ∷ other ∷ [])) other)
            ≡ length (cond b (joined (u2 (length body) ∷ body ∷ [])) body)
        go true = ap (λ n. suc (suc n)) (ap length (append-nil other) ∙ size ∙ sym (ap length (append-nil body)))
        go false = size
