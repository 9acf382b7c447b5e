use Rattle.std.proofs.Common.{◌++◌, rules}
use Rattle.jm_jrt.specs.Reply.{line_bytes}
use Rattle.jm_jrt.proofs.FreeLaws.{no_bytes}
use Rattle.jm_jrt.proofs.WithinLaws.{within_same}
use Rattle.jm_jrt.proofs.session.end_line.Goals as goal

pub returns-then-is_empty-clause-put : goal.returns-then-is_empty-clause-put
returns-then-is_empty-clause-put g c = search (rules, no_bytes)

pub returns-in_err-extend-clause-reads : goal.returns-in_err-extend-clause-reads
returns-in_err-extend-clause-reads g c =
    within_same (line_bytes c.args.image.now (c.args.progress.now.part.items ++ c.args.bytes.now)) c.args.answering.now.reads.now
