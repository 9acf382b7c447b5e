use Rattle.std.proofs.Common.{subst, rules}
use Rattle.std.proofs.lemmas.Bool.{false≢true}
use Rattle.std.specs.Str.{IsUtf8}
use Rattle.jm_archive.proofs.VersionLaws.{decimal_leads, decimal_utf8}
use Rattle.jm_archive.proofs.cuts.numeral.Goals as goal

pub returns-then-not-leads-clause-none : goal.returns-then-not-leads-clause-none
returns-then-not-leads-clause-none c n some small is =
    let first = decimal_leads n c.args.digits.now some small is in
    search (rules, false≢true)

pub returns-in-Err-clause-none : goal.returns-in-Err-clause-none
returns-in-Err-clause-none c n some small is =
    c.in-Err.ensures.cases.0 (subst IsUtf8 is (decimal_utf8 n small))
