-- One word: how long it is, that it is read back, and that one of bytes has 32 bits.
use Rattle.std.proofs.Common.{◌≡◌, ℕ, zero, suc, ◌+◌, ◌^◌, ◌<◌, List, [], ◌∷◌, ◌++◌, length, drop, sym, ap}
use Rattle.std.proofs.Common.{◌∙◌, arith, drop-drop, drop_at, slice_index}
use Rattle.byteorder.specs.Numbers.{big_from-lt, little_from-lt, big_number-reads_back}
use Rattle.byteorder.specs.Numbers.{little_number-reads_back, length-bytes_high_first, length-bytes_low_first}
use Rattle.jm_bytes.specs.Word.{word, word_bytes}
use Rattle.jm_bytes.specs.declared.words.Order.{Order}
use Rattle.jm_bytes.specs.declared.words.Order.TheVariants.{Little, Big}

pub length-word_bytes : (order : Order) (v : ℕ) → length (word_bytes order v) ≡ 4
length-word_bytes Little v = length-bytes_low_first 0 4 v
length-word_bytes Big v = length-bytes_high_first 4 v

-- a word is read back, whatever stands behind it
pub word_back : (order : Order) (v : ℕ) (rest : List ℕ) → v < 2 ^ 32 → word order (word_bytes order v ++ rest) 0 ≡ v
word_back Little v rest fits = little_number-reads_back 4 v rest (omega arith)
word_back Big v rest fits = big_number-reads_back 4 v rest (omega arith)

behind : (front rest : List ℕ) (n at : ℕ) → length front ≡ n → drop (n + at) (front ++ rest) ≡ drop at rest
behind front rest n at size = sym (drop-drop at n (front ++ rest)) ∙ ap (drop at) (drop_at front rest n size)

-- behind a front of known length the places count on
pub word_behind : (order : Order) (front rest : List ℕ) (n at : ℕ) → length front ≡ n → word order (front ++ rest) (n + at)
    ≡ word order rest at
word_behind Little front rest n at size = ap (λ l. word Little l 0) (behind front rest n at size)
word_behind Big front rest n at size = ap (λ l. word Big l 0) (behind front rest n at size)

dropped : (bytes : List ℕ) (at : ℕ) → ((k : ℕ) → slice_index bytes k < 256) → (k : ℕ) → slice_index (drop at bytes) k < 256
dropped bytes zero below k = below k
dropped [] (suc at) below k = below k
dropped (b ∷ bytes) (suc at) below k = dropped bytes at (λ j. below (suc j)) k

-- a word of bytes has 32 bits
pub word-lt : (order : Order) (bytes : List ℕ) (at : ℕ) → ((k : ℕ) → slice_index bytes k < 256) → word order bytes at < 2 ^ 32
word-lt Little bytes at below = let fits = little_from-lt 0 4 (drop at bytes) (dropped bytes at below) in omega arith
word-lt Big bytes at below = let fits = big_from-lt 0 4 (drop at bytes) (dropped bytes at below) in omega arith
