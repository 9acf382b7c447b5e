-- Bytes cut at the places where numbers of constants stand (this project's rule).
use Rattle.std.specs.Prelude.{ℕ, ◌+◌, ◌-◌, Bool, List, [], ◌∷◌, ◌++◌, map, take, drop}
use Rattle.std.specs.Int.{byte_len, to_be_bytes, from_be_bytes}
use Rattle.jm_poolmap.specs.declared.site.Site.{Site}
use Rattle.jm_poolmap.specs.Forms.{site_width}

-- bytes as they are, or what stands at a site, of two bytes or of one
pub data Piece (A : Type 0) : Type 0 where
  Plain : (bytes : List ℕ) → Piece A
  Number : (wide : Bool) (number : A) → Piece A

-- how many bytes such a number has
abbrev pub size : Bool → ℕ
size wide = byte_len (site_width wide)

-- bytes from a place on, cut at sites: the bytes between two sites, and the number at each
abbrev pub cut : List Site → ℕ → List ℕ → List (Piece ℕ)
cut [] at bytes = Plain bytes ∷ []
cut (site ∷ sites) at bytes =
    Plain (take (site.place - at) bytes)
    ∷ Number site.wide
    (from_be_bytes (site_width site.wide) (take (size site.wide) (drop (site.place - at) bytes)))
    ∷ cut sites (site.place + size site.wide)
    (drop (size site.wide) (drop (site.place - at) bytes))

-- something else in the place of each number
abbrev pub put_for : {A B : Type 0} → (A → B) → Piece A → Piece B
put_for new (Plain bytes) = Plain bytes
put_for new (Number wide number) = Number wide (new number)

-- something else in the place of each number of some pieces
abbrev pub put_for_all : {A B : Type 0} → (A → B) → List (Piece A) → List (Piece B)
put_for_all new pieces = map (put_for new) pieces

-- the bytes of a piece
abbrev pub piece_text : Piece ℕ → List ℕ
piece_text (Plain bytes) = bytes
piece_text (Number wide number) = to_be_bytes (site_width wide) number

-- pieces end to end
abbrev pub text_of : List (Piece ℕ) → List ℕ
text_of [] = []
text_of (piece ∷ pieces) = piece_text piece ++ text_of pieces

-- bytes from a place on, with other numbers at the sites
abbrev pub renumbered : (ℕ → ℕ) → List Site → ℕ → List ℕ → List ℕ
renumbered new sites at bytes = text_of (put_for_all new (cut sites at bytes))
