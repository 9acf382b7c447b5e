use Rattle.std.proofs.Common.{◌∙◌, arith, refl, sym}
use Rattle.jm_extract.proofs.FiledLaws.{size_within, sizes_next}
use Rattle.jm_inspect.proofs.DigestLaws.{entry_broken, entry_read, none_read}
use Rattle.jm_inspect.proofs.StepLaws.{from_stop}
use Rattle.jm_inspect.proofs.digests.put_digests.Goals as goal

pub loop-entry-init : goal.loop-entry-init
loop-entry-init g c = record { files = refl; passed = none_read _ _ _ _; handed = omega arith }

pub loop-entry-preserved : goal.loop-entry-preserved
loop-entry-preserved g c =
    let before = c.loop-entry.invariant in
    let put = c.in_ok-put_digest.ensures in
    let entries = c.args.entries.now in
    let i = c.loop-entry.entry-index in
    let is = sym c.entry-item.is in
    let size = sizes_next entries i _ c.loop-entry-test.true is in
    record {
      files = put.files ∙ before.files;
      passed = entry_read entries i _ c.loop-entry-test.true is before.passed (rw before.files at put.puts);
      handed = omega (arith, size, put.handed, before.handed);
    }

pub returns-in_err-put_digest-clause-puts : goal.returns-in_err-put_digest-clause-puts
returns-in_err-put_digest-clause-puts g c =
    let before = c.loop-entry.invariant in
    rw (from_stop c.from_residual.result c.in_err-put_digest.field-0.0 c.from_residual.ensures.1)
    (entry_broken c.args.entries.now c.loop-entry.entry-index _ c.loop-entry-test.true (sym c.entry-item.is) before.passed
    (rw before.files at c.in_err-put_digest.ensures.puts))

pub returns-in_err-put_digest-clause-handed : goal.returns-in_err-put_digest-clause-handed
returns-in_err-put_digest-clause-handed g c =
    let before = c.loop-entry.invariant in
    let most = size_within c.args.entries.now c.loop-entry.entry-index _ c.loop-entry-test.true (sym c.entry-item.is) in
    let more = c.in_err-put_digest.ensures.handed in
    omega (arith, most, before.handed, more)
