-- Names below a folder.
use Rattle.std.proofs.Common.{◌≡◌, ◌≢◌, ℕ, List, [], ◌∷◌, ◌++◌, Option, Some, None, Bool, true, false, cond}
use Rattle.std.proofs.Common.{◌==◌, nat_eq, ◌+◌, length, take, drop, refl, sym, ap, option_map, arith}
use Rattle.std.specs.Option.{option_and_then}
use Rattle.std.proofs.lemmas.Bool.{eqb-true}
use Rattle.std.proofs.lemmas.Bool.Decides.{Decides-eqb}
use Rattle.std.proofs.lemmas.Slice.Eq.{strip_prefix_is}
use Rattle.std.specs.Cmp.Lexicographic.{pointwise}
use Rattle.std.specs.Option.{MatchOption}
use denote.Ref.{Bor}
use Rattle.jm_outside.specs.Files.{after_front}

pub after_front-join : (a b text : List ℕ) → after_front (a ++ b) text ≡ option_and_then (after_front b) (after_front a text)
after_front-join [] b text = refl
after_front-join (x ∷ a) b [] = refl
after_front-join (x ∷ a) b (c ∷ text) = go (x == c) (after_front-join a b text)
  where
    go : (t : Bool) → after_front (a ++ b) text ≡ option_and_then (after_front b) (after_front a text)
        → cond t (after_front (a ++ b) text) None ≡ option_and_then (after_front b) (cond t (after_front a text) None)
    go true h = h
    go false h = refl

-- what a text with a front is
pub front_of : (front text rest : List ℕ) → after_front front text ≡ Some rest → text ≡ front ++ rest
front_of [] text rest h = cc
front_of (b ∷ front) [] rest h = cc
front_of (b ∷ front) (c ∷ text) rest h = go (b == c) refl h (λ h. front_of front text rest h)
  where
    go : (t : Bool) → (b == c) ≡ t → cond t (after_front front text) None ≡ Some rest → (after_front front text ≡ Some rest → text
        ≡ front ++ rest) → c ∷ text ≡ b ∷ (front ++ rest)
    go true is h later = let e : b ≡ c = eqb-true b c is in let t : text ≡ front ++ rest = later h in cc
    go false is h later = cc

same : (x : ℕ) → (x == x) ≡ true
same x = grind arith

pub after_front-is : (front text rest : List ℕ) → text ≡ front ++ rest → after_front front text ≡ Some rest
after_front-is [] text rest is = ap Some is
after_front-is (b ∷ front) [] rest is = cc
after_front-is (b ∷ front) (c ∷ text) rest is =
    let head : c ≡ b = cc in
    let tail : text ≡ front ++ rest = cc in
    rw (head, same b) (after_front-is front text rest tail)

pub after_front-not : (front text : List ℕ) → ((rest : List ℕ) → text ≢ front ++ rest) → after_front front text ≡ None
after_front-not [] text not = absurd (not text refl)
after_front-not (b ∷ front) [] not = refl
after_front-not (b ∷ front) (c ∷ text) not = go (b == c) refl (λ h. after_front-not front text h)
  where
    go : (t : Bool) → (b == c) ≡ t → (((rest : List ℕ) → text ≢ front ++ rest) → after_front front text ≡ None)
        → cond t (after_front front text) None ≡ None
    go true is later = let e : b ≡ c = eqb-true b c is in later (λ rest h. not rest (rw (e, h) refl))
    go false is later = refl

-- what `strip_prefix` answers
abbrev Strips : List ℕ → List ℕ → Option (Bor (List ℕ)) → Type 0
Strips front text r = MatchOption r (pointwise nat_eq (take (length front) text) front ≡ false)
    (λ x. (pointwise nat_eq (take (length front) text) front ≡ true) × (x.now ≡ drop (length front) text)
    × (length x.now + length front ≡ length text))

pub stripped : (front text : List ℕ) (r : Option (Bor (List ℕ))) → Strips front text r → option_map (λ x. x.now) r ≡ after_front front text
stripped front text r h = go r (strip_prefix_is Decides-eqb text front r h)
  where
    go : (r : Option (Bor (List ℕ))) → MatchOption r ((rest : List ℕ) → text ≢ front ++ rest) (λ x. text ≡ front ++ x.now)
        → option_map (λ x. x.now) r ≡ after_front front text
    go None h = sym (after_front-not front text h)
    go (Some x) h = sym (after_front-is front text x.now h)
