-- Words of four bytes, in both byte orders (jimage 1.0: all numbers of the index are such words).
use Rattle.std.specs.Prelude.{ℕ, List, drop}
use Rattle.byteorder.specs.Endian.{little_number, big_number, little_bytes, big_bytes}
use Rattle.jm_bytes.specs.declared.words.Order.{Order}
use Rattle.jm_bytes.specs.declared.words.Order.TheVariants.{Little, Big}

-- the number of the four bytes at a place, in a byte order
abbrev pub word : Order → List ℕ → ℕ → ℕ
word Little bytes at = little_number 4 (drop at bytes)
word Big bytes at = big_number 4 (drop at bytes)

-- the four bytes of a number, in a byte order
abbrev pub word_bytes : Order → ℕ → List ℕ
word_bytes Little v = little_bytes 4 v
word_bytes Big v = big_bytes 4 v
