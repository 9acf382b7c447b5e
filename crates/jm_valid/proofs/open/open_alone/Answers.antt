use Rattle.std.proofs.Common.{length, subst}
use Rattle.jm_form.specs.declared.rows.Compression.{Compression}
use Rattle.jm_form.specs.declared.rows.Compression.TheVariants.{Refused}
use Rattle.jm_form.proofs.LocalityLaws.{whole_file, whole_index}
use Rattle.jm_valid.specs.Opened.{IsIndexOf}
use Rattle.jm_valid.proofs.FrontLaws.{index_valid}
use Rattle.jm_valid.proofs.open.open_alone.Goals as goal

pub checked_header-requires-clause-holds : goal.checked_header-requires-clause-holds
checked_header-requires-clause-holds c = whole_index c.args.bytes.now

pub returns-clause-valid : goal.returns-clause-valid
returns-clause-valid c =
    let b = c.args.bytes.now in
    let h = c.in_ok-header.header in
    let index = subst (λ (k : Compression). IsIndexOf k b (length b) h) c.in_ok-sections.ensures.compression c.in_ok-header.ensures.index in
    (h, index_valid Refused b (length b) b h (whole_file b) index)
