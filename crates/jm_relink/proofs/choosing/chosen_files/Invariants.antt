use Rattle.std.proofs.Common.{ℕ, List, [], All, take}
use Rattle.jm_filed.specs.Filed.{IsWithin}
use Rattle.jm_relink.specs.Choosing.{ArePut}
use Rattle.jm_relink.specs.Gathering.{HasInfos, LieWithin, gathered}
use Rattle.jm_relink.proofs.choosing.chosen_files.Given as goal

abbrev pub invariant-loop-place : goal.invariant-loop-place
invariant-loop-place l = record {
  put : (b : List ℕ) → HasInfos b l.modules → ArePut b (gathered b l.modules (take l.place-index l.chosen)) [] l.list;
  within : (size : ℕ) → LieWithin size l.modules → All (λ x. IsWithin size x.content) l.list;
}
