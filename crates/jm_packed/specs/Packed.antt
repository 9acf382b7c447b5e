-- What a compressed content stands for (the resource header of OpenJDK's libjimage, and RFC 1950):
-- a header of 29 bytes, in the byte order of the image, and after it a zlib stream.
use Rattle.std.specs.Prelude.{ℕ, ◌≡◌, ◌+◌, nat_le, ◌==◌, not, Bool, true, false, ◌&&◌, List, [], ◌∷◌}
use Rattle.std.specs.Prelude.{length, drop, codes, Option, Some, None, Result, Ok, Err}
use Rattle.std.specs.Str.{bytes_eq}
use Rattle.byteorder.specs.Endian.{little_number, big_number}
use Rattle.jm_bytes.specs.Checks.{fault_if, first_fault}
use Rattle.jm_bytes.specs.Word.{word}
use Rattle.jm_bytes.specs.declared.words.Order.{Order}
use Rattle.jm_bytes.specs.declared.words.Order.TheVariants as order
use Rattle.jm_form.specs.declared.rows.Row.{Row}
use Rattle.jm_form.specs.Texts.{text_at, text_ends}
use Rattle.jm_inflate.specs.Zlib.{Unzips}
use Rattle.jm_inflate.specs.declared.zlib_streams.ZlibFault.{ZlibFault}
use Rattle.jm_inflate.specs.declared.zlib_streams.ZlibFault.TheVariants as zlib
use Rattle.jm_packed.specs.declared.packed.PackedFault.{PackedFault}
use Rattle.jm_packed.specs.declared.packed.PackedFault.TheVariants as fault

-- the number of the eight bytes at a place, in a byte order
abbrev pub long : Order → List ℕ → ℕ → ℕ
long order.Little bytes at = little_number 8 (drop at bytes)
long order.Big bytes at = big_number 8 (drop at bytes)

-- the bytes begin with a header: it has 29 bytes, begins with its magic number, and states how many
-- bytes follow it
abbrev pub is_header : Order → List ℕ → Bool
is_header order stored =
    nat_le 29 (length stored) && (word order stored 0 == 0xCAFEFAFA)
    && (29 + long order stored 4 == length stored)

-- where in the strings the name of the decompressor begins
abbrev pub name_place : Order → List ℕ → ℕ
name_place order stored = word order stored 20

-- the decompressor that the header names in the strings is `zip`
abbrev pub is_zip : Order → List ℕ → List ℕ → Bool
is_zip order strings stored =
    text_ends strings (name_place order stored)
    && bytes_eq (text_at strings (name_place order stored)) (codes "zip")

-- how many bytes the content has, as its header states
abbrev pub stated_size : Order → List ℕ → ℕ
stated_size order stored = long order stored 12

-- the fault of the header of a content that is to have so many bytes
abbrev pub header_fault : Order → List ℕ → ℕ → List ℕ → Option PackedFault
header_fault order strings size stored =
    first_fault
    (fault_if (not (is_header order stored)) fault.Header
    ∷ fault_if (not (is_zip order strings stored)) fault.Decompressor
    ∷ fault_if (not (stated_size order stored == size)) fault.Size
    ∷ [])

-- a fault of the stream, at its place in the stored bytes
abbrev pub stream_fault : ZlibFault → PackedFault
stream_fault (zlib.Stream at) = fault.Stream (29 + at)
stream_fault zlib.Size = fault.Size
stream_fault zlib.Check = fault.Check

-- what the stream gives, or its fault
abbrev pub given : Result (List ℕ) ZlibFault → Result (List ℕ) PackedFault
given (Ok content) = Ok content
given (Err fault) = Err (stream_fault fault)

-- what a content comes to by the fault of its header
abbrev pub After : ℕ → List ℕ → Option PackedFault → Result (List ℕ) PackedFault → Type 0
After size stored (Some fault) result = result ≡ Err fault
After size stored None result =
    (unzipped : Result (List ℕ) ZlibFault)
    × Unzips size (drop 29 stored) unzipped
    × (result ≡ given unzipped)

-- what the stored bytes of a content come to, over the strings of the image: the so many bytes that
-- they stand for, or their first fault
abbrev pub Unpacks : Order → List ℕ → ℕ → List ℕ → Result (List ℕ) PackedFault → Type 0
Unpacks order strings size stored result =
    After size stored (header_fault order strings size stored) result

-- what a content comes to, by whether it is stored as it is
abbrev pub Comes : Bool → Order → List ℕ → ℕ → List ℕ → Result (List ℕ) PackedFault → Type 0
Comes true order strings size stored result = result ≡ Ok stored
Comes false order strings size stored result = Unpacks order strings size stored result

-- what the content of a row comes to, whose stored bytes these are: these, where the row has no
-- compressed size, else what they stand for
abbrev pub ContentComes : Order → List ℕ → Row → List ℕ → Result (List ℕ) PackedFault → Type 0
ContentComes order strings row stored result =
    Comes (row.packed == 0) order strings row.size stored result
