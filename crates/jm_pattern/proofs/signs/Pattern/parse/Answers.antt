use Rattle.std.proofs.Common.{rules, ◌≡◌}
use Rattle.jm_bytes.specs.Results.{IfAnswered}
use Rattle.jm_pattern.specs.ComputedReading.{pattern_of}
use Rattle.jm_pattern.specs.declared.signs.Sign.{Sign}
use Rattle.std.specs.Prelude.{List}
use Rattle.jm_pattern.proofs.Laws.{plain-read, any-read}
use Rattle.jm_pattern.proofs.RuleLaws.{parsed_fault, parsed_reads}
use Rattle.jm_pattern.proofs.signs.Pattern.parse.Goals as goal

pub returns-clause-reads : goal.returns-clause-reads
returns-clause-reads c = parsed_reads c.args.text.now c.in_ok-signs.signs c.in_ok-signs.ensures

pub returns-in_err-signs-clause-fault : goal.returns-in_err-signs-clause-fault
returns-in_err-signs-clause-fault c =
    let read : IfAnswered {A = List Sign} (λ r. r ≡ pattern_of c.args.text.now) c.from_residual.result = search rules in
    parsed_fault c.args.text.now c.from_residual.result read

pub returns-clause-plain : goal.returns-clause-plain
returns-clause-plain c = λ h. plain-read c.args.text.now c.in_ok-signs.signs h c.in_ok-signs.ensures

pub returns-clause-any : goal.returns-clause-any
returns-clause-any c = λ h. any-read c.args.text.now c.in_ok-signs.signs h c.in_ok-signs.ensures
