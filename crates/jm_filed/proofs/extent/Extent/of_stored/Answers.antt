use Rattle.std.proofs.Common.{◌≤◌, ℕ, ap, arith, length, subst}
use Rattle.jm_form.specs.declared.rows.Row.{Row}
use Rattle.jm_reader.proofs.IndexLaws.{file_begins, file_with}
use Rattle.jm_filed.proofs.extent.Extent.of_stored.Goals as goal

-- some file begins with the index
pub returns-clause-within : goal.returns-clause-within
returns-clause-within c =
    let f = c.args.index.now.bytes in
    let size = c.args.index.now.length in
    let within = subst (λ (n : ℕ). length f ≤ n) c.length-length.ensures.length c.length-length.ensures.within in
    let lies = c.place_of_stored.ensures.within (file_with f size) (file_begins f size within) in
    let same = ap (λ (row : Row). row.size) c.as_stored.ensures in
    omega (arith, lies, same)
