-- A part of a class as tokens: bytes without a site, and the numbers at sites.
use Rattle.std.proofs.Common.{◌≡◌, ℕ, suc, ◌+◌, ◌*◌, ◌%◌, ◌^◌, ◌<◌, ◌≤◌, Bool, true, false, List, [], ◌∷◌, ◌++◌}
use Rattle.std.proofs.Common.{length, map, Contains, refl, sym, ap, ◌∙◌, arith, append_assoc, length-append}
use Rattle.std.proofs.lemmas.Bool.{and_from}
use Rattle.std.proofs.lemmas.List.{map-append}
use Rattle.std.proofs.lemmas.List.Elements.{All-append, All-cons, All-nil}
use Rattle.std.proofs.lemmas.Nat.{from_be_bytes-to_be_bytes_2}
use Rattle.std.specs.Int.{to_be_bytes, from_be_bytes}
use Rattle.std.specs.List.{list_all}
use Rattle.jm_bytes.proofs.Members.{contains_here, contains_later}
use Rattle.jm_class.proofs.ReadingLaws.{IsBytes, bytes_front, bytes_behind}
use Rattle.jm_poolmap.specs.declared.site.FoundSite.{FoundSite}
use Rattle.jm_poolmap.specs.Forms.{site_width}
use Rattle.jm_compact.specs.Pieces.{Piece, Plain, Number, size, put_for, put_for_all, piece_text, text_of}

-- at a site: whether 0 may stand there, and the number
abbrev pub Token : Type 0
Token = Piece (Bool × ℕ)

abbrev pub numbered : List Token → List (Piece ℕ)
numbered tokens = put_for_all (λ n. n.1) tokens

abbrev pub token_text : List Token → List ℕ
token_text tokens = text_of (numbered tokens)

-- the sites in tokens, the first of which has this place
abbrev pub found_from : ℕ → List Token → List FoundSite
found_from at [] = []
found_from at (Plain bytes ∷ tokens) = found_from (at + length bytes) tokens
found_from at (Number wide n ∷ tokens) =
    record { place = at; wide = wide; optional = n.0; number = n.1 } ∷ found_from (at + size wide) tokens

-- other numbers
abbrev pub changed : (ℕ → ℕ) → List Token → List Token
changed new tokens = put_for_all (λ n. (n.0, new n.1)) tokens

-- each number fits its bytes
abbrev pub Fit : List Token → Type 0
Fit [] = Unit {0}
Fit (Plain bytes ∷ tokens) = Fit tokens
Fit (Number wide n ∷ tokens) = (n.1 < 2 ^ (8 * size wide)) × Fit tokens

-- of each number
abbrev pub Each : (ℕ → Type 0) → List Token → Type 0
Each P [] = Unit {0}
Each P (Plain bytes ∷ tokens) = Each P tokens
Each P (Number wide n ∷ tokens) = P n.1 × Each P tokens

-- no number grows
abbrev pub IsSmall : (ℕ → ℕ) → Type 0
IsSmall new = (n : ℕ) → new n ≤ n

-- A number at a site

pub number_size : (wide : Bool) (n : ℕ) → length (to_be_bytes (site_width wide) n) ≡ size wide
number_size true n = refl
number_size false n = refl

-- a number that fits is read back
pub number_read : (wide : Bool) (n : ℕ) → n < 2 ^ (8 * size wide)
    → from_be_bytes (site_width wide) (to_be_bytes (site_width wide) n) ≡ n
number_read true n below = from_be_bytes-to_be_bytes_2 n below
number_read false n below = omega (arith, below)

-- Some tokens after others

text_of-append : (xs ys : List (Piece ℕ)) → text_of (xs ++ ys) ≡ text_of xs ++ text_of ys
text_of-append [] ys = refl
text_of-append (piece ∷ xs) ys = ap (λ t. piece_text piece ++ t) (text_of-append xs ys)
    ∙ sym (append_assoc (piece_text piece) (text_of xs) (text_of ys))

pub token_text-append : (xs ys : List Token) → token_text (xs ++ ys) ≡ token_text xs ++ token_text ys
token_text-append xs ys = ap text_of (map-append (put_for (λ n. n.1)) xs ys) ∙ text_of-append (numbered xs) (numbered ys)

pub changed-append : (new : ℕ → ℕ) (xs ys : List Token) → changed new (xs ++ ys) ≡ changed new xs ++ changed new ys
changed-append new xs ys = map-append (put_for (λ n. (n.0, new n.1))) xs ys

-- other numbers take as many bytes
pub length-changed : (new : ℕ → ℕ) (tokens : List Token) → length (token_text (changed new tokens)) ≡ length (token_text tokens)
length-changed new [] = refl
length-changed new (Plain bytes ∷ tokens) =
    length-append bytes (token_text (changed new tokens)) ∙ ap (λ n. length bytes + n) (length-changed new tokens)
    ∙ sym (length-append bytes (token_text tokens))
length-changed new (Number true n ∷ tokens) = ap (λ n. suc (suc n)) (length-changed new tokens)
length-changed new (Number false n ∷ tokens) = ap suc (length-changed new tokens)

found_from-append : (at : ℕ) (xs ys : List Token) → found_from at (xs ++ ys) ≡ found_from at xs
    ++ found_from (at + length (token_text xs)) ys
found_from-append at [] ys = let here : at ≡ at + 0 = omega arith in ap (λ m. found_from m ys) here
found_from-append at (Plain bytes ∷ xs) ys =
    let lengths = length-append bytes (token_text xs) in
    let place : (at + length bytes) + length (token_text xs) ≡ at + length (bytes ++ token_text xs) = omega (arith, lengths) in
    found_from-append (at + length bytes) xs ys ∙ ap (λ m. found_from (at + length bytes) xs ++ found_from m ys) place
found_from-append at (Number wide n ∷ xs) ys =
    let own = number_size wide n.1 in
    let lengths = length-append (to_be_bytes (site_width wide) n.1) (token_text xs) in
    let place : (at + size wide) + length (token_text xs) ≡ at + length (token_text (Number wide n ∷ xs)) = omega (arith, lengths, own) in
    ap (λ t. record { place = at; wide = wide; optional = n.0; number = n.1 } ∷ t) (found_from-append (at + size wide) xs ys
    ∙ ap (λ m. found_from (at + size wide) xs ++ found_from m ys) place)

-- the text and the sites of both, with what stands before or after them
pub text_both : (xs ys : List Token) (more : List ℕ) → token_text (xs ++ ys) ++ more ≡ token_text xs ++ (token_text ys ++ more)
text_both xs ys more = ap (λ t. t ++ more) (token_text-append xs ys) ∙ append_assoc (token_text xs) (token_text ys) more

pub sites_both : (met : List FoundSite) (at then : ℕ) (xs ys : List Token) → then ≡ at + length (token_text xs)
    → (met ++ found_from at xs) ++ found_from then ys ≡ met ++ found_from at (xs ++ ys)
sites_both met at then xs ys is =
    append_assoc met (found_from at xs) (found_from then ys)
    ∙ ap (λ m. met ++ (found_from at xs ++ found_from m ys)) is
    ∙ ap (λ t. met ++ t) (sym (found_from-append at xs ys))

pub Fit-append : (xs ys : List Token) → Fit xs → Fit ys → Fit (xs ++ ys)
Fit-append [] ys one two = two
Fit-append (Plain bytes ∷ xs) ys one two = Fit-append xs ys one two
Fit-append (Number wide n ∷ xs) ys one two = (one.0, Fit-append xs ys one.1 two)

pub Each-left : (P : ℕ → Type 0) (xs ys : List Token) → Each P (xs ++ ys) → Each P xs
Each-left P [] ys each = tt
Each-left P (Plain bytes ∷ xs) ys each = Each-left P xs ys each
Each-left P (Number wide n ∷ xs) ys each = (each.0, Each-left P xs ys each.1)

pub Each-right : (P : ℕ → Type 0) (xs ys : List Token) → Each P (xs ++ ys) → Each P ys
Each-right P [] ys each = each
Each-right P (Plain bytes ∷ xs) ys each = Each-right P xs ys each
Each-right P (Number wide n ∷ xs) ys each = Each-right P xs ys each.1

-- Tokens with other numbers

pub each_found : (P : ℕ → Type 0) (tokens : List Token) (at : ℕ) → ((f : FoundSite) → Contains (found_from at tokens) f → P f.number)
    → Each P tokens
each_found P [] at holds = tt
each_found P (Plain bytes ∷ tokens) at holds = each_found P tokens (at + length bytes) holds
each_found P (Number wide n ∷ tokens) at holds =
    let more = found_from (at + size wide) tokens in
    (holds _ (contains_here _ more), each_found P tokens (at + size wide) (λ f there. holds f (contains_later _ more f there)))

pub each_more : (P Q : ℕ → Type 0) → ((n : ℕ) → P n → Q n) → (tokens : List Token) → Each P tokens → Each Q tokens
each_more P Q more [] each = tt
each_more P Q more (Plain bytes ∷ tokens) each = each_more P Q more tokens each
each_more P Q more (Number wide n ∷ tokens) each = (more n.1 each.0, each_more P Q more tokens each.1)

module _ (new : ℕ → ℕ) where
  pub numbers_changed : (tokens : List Token) (at other : ℕ) → map (λ f. f.number) (found_from other (changed new tokens))
      ≡ map new (map (λ f. f.number) (found_from at tokens))
  numbers_changed [] at other = refl
  numbers_changed (Plain bytes ∷ tokens) at other = numbers_changed tokens (at + length bytes) (other + length bytes)
  numbers_changed (Number wide n ∷ tokens) at other =
      ap (λ t. new n.1 ∷ t) (numbers_changed tokens (at + size wide) (other + size wide))

  -- a check of each site holds with other numbers, too
  pub all_changed : (test : FoundSite → Bool) (tokens : List Token) (at other : ℕ)
      → ((f : FoundSite) → Contains (found_from at tokens) f → (g : FoundSite) → g.optional ≡ f.optional → g.number ≡ new f.number
      → test g ≡ true) → list_all test (found_from other (changed new tokens)) ≡ true
  all_changed test [] at other holds = refl
  all_changed test (Plain bytes ∷ tokens) at other holds = all_changed test tokens (at + length bytes) (other + length bytes) holds
  all_changed test (Number wide n ∷ tokens) at other holds =
      let more = found_from (at + size wide) tokens in
      and_from _ _ (holds _ (contains_here _ more) _ refl refl)
      (all_changed test tokens (at + size wide) (other + size wide) (λ f there. holds f (contains_later _ more f there)))

  -- numbers that stay change nothing
  pub changed_stays : (again : ℕ → ℕ) (tokens : List Token) → Each (λ n. again (new n) ≡ new n) tokens
      → changed again (changed new tokens) ≡ changed new tokens
  changed_stays again [] each = refl
  changed_stays again (Plain bytes ∷ tokens) each = ap (λ t. Plain bytes ∷ t) (changed_stays again tokens each)
  changed_stays again (Number wide n ∷ tokens) each =
      ap (λ m. Number wide (n.0, m) ∷ changed again (changed new tokens)) each.0
      ∙ ap (λ t. Number wide (n.0, new n.1) ∷ t) (changed_stays again tokens each.1)

  -- smaller numbers fit, too
  pub fit_changed : IsSmall new → (tokens : List Token) → Fit tokens → Fit (changed new tokens)
  fit_changed small [] fit = tt
  fit_changed small (Plain bytes ∷ tokens) fit = fit_changed small tokens fit
  fit_changed small (Number wide n ∷ tokens) fit =
      ((let less = small n.1 in let below = fit.0 in omega (arith, less, below)), fit_changed small tokens fit.1)

  abbrev Byte : ℕ → Type 0
  Byte b = b < 256

  pub bytes_changed : (tokens : List Token) → IsBytes (token_text tokens) → IsBytes (token_text (changed new tokens))
  bytes_changed [] all = all
  bytes_changed (Plain bytes ∷ tokens) all =
      All-append Byte bytes (token_text (changed new tokens)) (bytes_front bytes (token_text tokens) all)
      (bytes_changed tokens (bytes_behind bytes (token_text tokens) all))
  bytes_changed (Number wide n ∷ tokens) all =
      All-append Byte (to_be_bytes (site_width wide) (new n.1)) (token_text (changed new tokens)) (number_bytes wide (new n.1))
      (bytes_changed tokens (bytes_behind (to_be_bytes (site_width wide) n.1) (token_text tokens) all))
    where
      number_bytes : (wide : Bool) (m : ℕ) → IsBytes (to_be_bytes (site_width wide) m)
      number_bytes true m = All-cons Byte _ (m % 256 ∷ []) (omega arith) (All-cons Byte (m % 256) [] (omega arith) (All-nil Byte))
      number_bytes false m = All-cons Byte (m % 256) [] (omega arith) (All-nil Byte)
