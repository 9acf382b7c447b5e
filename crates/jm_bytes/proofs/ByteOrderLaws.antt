-- Texts in byte order, and texts that are equal, or ASCII, by a test.
use Rattle.std.proofs.Common.{◌≡◌, ◌≢◌, ℕ, true, List, [], ◌∷◌, IsAscii, refl, sym, ap, subst, ◌∙◌}
use Rattle.std.proofs.lemmas.Bool.{false≢true, false_from_ne_true, and_parts, ltb-true}
use Rattle.std.proofs.lemmas.Map.Lookups.{exact_bytes}
use Rattle.std.proofs.lemmas.Slice.Eq.{bytes_eq-Decides}
use Rattle.std.proofs.lemmas.Str.Ascii.{IsAscii-cons, IsAscii-nil}
use Rattle.std.specs.Cmp.Lexicographic.{slice_cmp, nat_list_cmp_total}
use Rattle.std.specs.List.{list_all}
use Rattle.std.specs.Ordering.{is_lt, nat_cmp, ordering_reverse}
use Rattle.std.specs.Prelude.{nat_lt, false}
use Rattle.std.specs.Str.{bytes_eq}
use Rattle.std.specs.declared.cmp.Ordering.{Ordering}
use Rattle.std.specs.declared.cmp.Ordering.TheVariants.{Less, Equal, Greater}
use Rattle.jm_bytes.specs.ByteOrder.{is_before}

pub less : (o : Ordering) → is_lt o ≡ true → o ≡ Less
less Less h = refl
less Equal h = cc
less Greater h = cc

pub before_less : (n m : List ℕ) → is_before n m ≡ true → slice_cmp nat_cmp n m ≡ Less
before_less n m before = less (slice_cmp nat_cmp n m) before

pub before_further : (n m k : List ℕ) → is_before n m ≡ true → is_before m k ≡ true → is_before n k ≡ true
before_further n m k first second =
    ap is_lt (nat_list_cmp_total.trans n m k (before_less n m first) (before_less m k second))

pub before_one_way : (n m : List ℕ) → is_before n m ≡ true → is_before m n ≡ false
before_one_way n m before =
    ap is_lt (nat_list_cmp_total.antisymm m n ∙ ap ordering_reverse (before_less n m before))

pub one_way : (n m : List ℕ) → is_before n m ≡ true → is_before m n ≡ true → ⊥
one_way n m before back = false≢true (sym (before_one_way n m before) ∙ back)

-- a text stands before no text that it equals
pub before_other : (n : List ℕ) → is_before n n ≡ true → ⊥
before_other n before = one_way n n before before

pub before_apart : (n m : List ℕ) → is_before n m ≡ true → n ≢ m
before_apart n m before same = before_other m (subst (λ k. is_before k m ≡ true) same before)

-- of two texts one stands before the other, or they are one
pub data Stand (n m : List ℕ) : Type 0 where
  stands_before : is_before n m ≡ true → Stand n m
  is_one : n ≡ m → Stand n m
  stands_behind : is_before m n ≡ true → Stand n m

pub stand : (n m : List ℕ) → Stand n m
stand n m = go (slice_cmp nat_cmp n m) refl
  where
    go : (o : Ordering) → slice_cmp nat_cmp n m ≡ o → Stand n m
    go Less e = stands_before (ap is_lt e)
    go Equal e = is_one (exact_bytes n m e)
    go Greater e = stands_behind (ap is_lt (nat_list_cmp_total.antisymm m n ∙ ap ordering_reverse e))

-- of two texts that differ, and of which one isn't before the other, that other is before the one
pub before_or : (n m : List ℕ) → n ≢ m → is_before m n ≡ false → is_before n m ≡ true
before_or n m differ behind = go (slice_cmp nat_cmp n m) refl
  where
    go : (o : Ordering) → slice_cmp nat_cmp n m ≡ o → is_lt o ≡ true
    go Less e = refl
    go Equal e = absurd (differ (exact_bytes n m e))
    go Greater e = sym behind ∙ ap is_lt (nat_list_cmp_total.antisymm m n ∙ ap ordering_reverse e)

pub cmp_self : (n : List ℕ) → slice_cmp nat_cmp n n ≡ Equal
cmp_self n = go (slice_cmp nat_cmp n n) refl
  where
    go : (o : Ordering) → slice_cmp nat_cmp n n ≡ o → o ≡ Equal
    go Less e = absurd (before_other n (ap is_lt e))
    go Equal e = refl
    go Greater e = absurd (before_other n (ap is_lt (nat_list_cmp_total.antisymm n n ∙ ap ordering_reverse e)))

-- Texts by a test

pub unequal : (name other : List ℕ) → other ≢ name → bytes_eq name other ≡ false
unequal name other apart = false_from_ne_true (bytes_eq name other) (λ is. apart (sym ((bytes_eq-Decides name other).0 is)))

pub ascii_all : (bs : List ℕ) → list_all (λ b. nat_lt b 128) bs ≡ true → IsAscii bs
ascii_all [] all = IsAscii-nil
ascii_all (b ∷ bs) all =
    let both = and_parts (nat_lt b 128) (list_all (λ x. nat_lt x 128) bs) all in
    IsAscii-cons b bs (ltb-true b 128 both.0) (ascii_all bs both.1)
