use Rattle.std.proofs.Common.{◌≤◌, ℕ, arith, length, subst}
use Rattle.jm_reader.proofs.IndexLaws.{file_begins, file_with}
use Rattle.jm_filed.proofs.extent.Extent.of.Goals as goal

-- some file begins with the index
pub returns-clause-within : goal.returns-clause-within
returns-clause-within c =
    let f = c.args.index.now.bytes in
    let size = c.args.index.now.length in
    let within = subst (λ (n : ℕ). length f ≤ n) c.length-length.ensures.length c.length-length.ensures.within in
    let lies = c.place_of_content.ensures.within (file_with f size) (file_begins f size within) in
    omega (arith, lies)
