-- A compressed content, after a header without a fault; and that a content has one answer.
use Rattle.std.proofs.Common.{◌≡◌, ℕ, ◌==◌, Bool, true, false, List, drop, Option, Some, None, Result, refl, sym, ap, ◌∙◌, subst}
use Rattle.jm_bytes.specs.declared.words.Order.{Order}
use Rattle.jm_inflate.specs.Zlib.{Unzips}
use Rattle.jm_inflate.specs.declared.zlib_streams.ZlibFault.{ZlibFault}
use Rattle.jm_inflate.proofs.ZlibLaws.{one_unzipped}
use Rattle.jm_form.specs.declared.rows.Row.{Row}
use Rattle.jm_packed.specs.declared.packed.PackedFault.{PackedFault}
use Rattle.jm_packed.specs.Packed.{After, Comes, ContentComes, Unpacks, given, header_fault}

-- what the zlib stream after the header comes to decides
pub stream-decides : (order : Order) (strings : List ℕ) (size : ℕ) (stored stream : List ℕ)
    → None ≡ header_fault order strings size stored → stream ≡ drop 29 stored
    → (unzipped : Result (List ℕ) ZlibFault) → Unzips size stream unzipped
    → Unpacks order strings size stored (given unzipped)
stream-decides order strings size stored stream begins back unzipped is =
    rw (← begins) (unzipped, subst (λ s. Unzips size s unzipped) back is, refl)

one_unpacked : (size : ℕ) (stored : List ℕ) (fault : Option PackedFault) (a b : Result (List ℕ) PackedFault)
    → After size stored fault a → After size stored fault b → a ≡ b
one_unpacked size stored (Some fault) a b is other = is ∙ sym other
one_unpacked size stored None a b (x, unzips, is) (y, again, other) =
    is ∙ ap given (one_unzipped size (drop 29 stored) x y unzips again) ∙ sym other

-- stored bytes come to one content, or to one fault
pub one_content : (order : Order) (strings : List ℕ) (row : Row) (stored : List ℕ) (a b : Result (List ℕ) PackedFault)
    → ContentComes order strings row stored a → ContentComes order strings row stored b → a ≡ b
one_content order strings row stored a b = go (row.packed == 0)
  where
    go : (plain : Bool) → Comes plain order strings row.size stored a → Comes plain order strings row.size stored b → a ≡ b
    go true is other = is ∙ sym other
    go false is other = one_unpacked row.size stored (header_fault order strings row.size stored) a b is other
