-- The bytes at an extent.
use Rattle.std.proofs.Common.{◌≡◌, ℕ, List, arith, drop, length, length-drop}
use Rattle.std.proofs.lemmas.List.{length-take-le}
use Rattle.jm_filed.specs.declared.extent.Extent.{Extent}
use Rattle.jm_filed.specs.Filed.{IsWithin, content_at}

-- they are as many as it says, where it lies within the file
pub content_length : (size : ℕ) (b : List ℕ) (x : Extent) → length b ≡ size → IsWithin size x → length (content_at b x) ≡ x.size
content_length size b x long within =
    let behind = length-drop x.at b in
    length-take-le x.size (drop x.at b) (omega (arith, behind, long, within))
