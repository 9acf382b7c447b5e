-- Where pieces begin: in order, the first at 0 and the one behind the last at the end.
use Rattle.std.proofs.Common.{◌≡◌, ℕ, ◌*◌, ◌/◌, ◌<◌, ◌≤◌, ap, ◌∙◌}
use Rattle.std.proofs.Math.Nat.{le_trans, div-mul-le_self, mul-le-mul_right, mul-div_cancel_left, zero-mul, zero-div}
use Rattle.std.proofs.lemmas.Nat.{le-div}
use Rattle.jm_halves.specs.ComputedPieces.{piece_start}

-- a later piece begins no earlier
pub piece_start-mono : (places pieces j k : ℕ) → 0 < pieces → j ≤ k → piece_start places pieces j ≤ piece_start places pieces k
unfolding piece_start
piece_start-mono places pieces j k some order =
    le-div (j * places / pieces) (k * places) pieces some
    (le_trans (div-mul-le_self (j * places) pieces) (mul-le-mul_right places order))

-- the first piece begins at place 0
pub piece_start-first : (places pieces : ℕ) → piece_start places pieces 0 ≡ 0
unfolding piece_start
piece_start-first places pieces = ap (λ n. n / pieces) (zero-mul places) ∙ zero-div pieces

-- behind the last piece all places are through
pub piece_start-end : (places pieces : ℕ) → 0 < pieces → piece_start places pieces pieces ≡ places
unfolding piece_start
piece_start-end places pieces some = mul-div_cancel_left places some
