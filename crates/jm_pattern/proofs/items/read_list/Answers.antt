use Rattle.std.proofs.Common.{rules, ◌≡◌, option_map, ap, List, Result, Ok}
use Rattle.jm_bytes.specs.Results.{IfAnswered}
use Rattle.jm_pattern.proofs.FirstItem.{less-left, list-further}
use Rattle.jm_pattern.proofs.RuleLaws.{list_fault, list_reads}
use Rattle.jm_pattern.specs.Items.{list_of}
use Rattle.jm_pattern.specs.declared.signs.PatternFault.{PatternFault}
use Rattle.jm_pattern.specs.declared.signs.Sign.{Sign}
use Rattle.jm_pattern.proofs.items.read_list.Goals as goal

pub loop-left-smaller : goal.loop-left-smaller
loop-left-smaller c = rw c.in-Some.is (less-left c.first_item.result.1 _ c.first_item.ensures.shorter)

pub loop-left-preserved : goal.loop-left-preserved
loop-left-preserved c =
    rw c.in_ok-push.ensures.ok (list-further (list_of c.args.text.now) c.loop-left.patterns (option_map (λ rest. rest.now)
    c.loop-left.left) c.in-Some.text.now c.first_item.result.0.now (option_map (λ rest. rest.now) c.first_item.result.1)
    c.len.result c.in_ok-pattern.pattern c.loop-left.invariant (ap (option_map (λ rest. rest.now)) c.in-Some.is)
    c.first_item.ensures.items c.len.ensures c.in_ok-pattern.ensures)

pub returns-in_err-pattern-clause-fault : goal.returns-in_err-pattern-clause-fault
returns-in_err-pattern-clause-fault c =
    let read : IfAnswered {A = List (List Sign)} (λ r. r ≡ list_of c.args.text.now) c.from_residual.result = search rules in
    list_fault c.args.text.now c.from_residual.result read

pub returns-clause-reads : goal.returns-clause-reads
returns-clause-reads c =
    let read : ◌≡◌ {A = Result (List (List Sign)) PatternFault} (Ok c.loop-left.patterns) (list_of c.args.text.now) = search rules in
    list_reads c.args.text.now c.loop-left.patterns read
