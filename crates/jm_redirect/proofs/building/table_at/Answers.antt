use Rattle.std.proofs.Common.{length, sym, ap, ◌∙◌, arith}
use Rattle.std.specs.List.{filter_map}
use Rattle.jm_redirect.proofs.TableLaws.{slot_by, table_with, table_made}
use Rattle.jm_redirect.proofs.building.table_at.Goals as goal

pub slots_of-requires-clause-enough : goal.slots_of-requires-clause-enough
slots_of-requires-clause-enough c =
    let is = table_with c.args.names.now c.args.slots c.in-Some.redirects c.requires.enough (sym c.in_ok-redirects.ensures
    ∙ c.in-Some.is) in
    let same = ap length c.as_slice.ensures in
    omega (arith, is.long, same)

pub slots_of-requires-clause-few : goal.slots_of-requires-clause-few
slots_of-requires-clause-few c =
    let is = table_with c.args.names.now c.args.slots c.in-Some.redirects c.requires.enough (sym c.in_ok-redirects.ensures
    ∙ c.in-Some.is) in
    let same = ap length c.as_slice.ensures in
    omega (arith, is.long, same, c.ranges.slots.fits)

pub returns : goal.returns
returns c =
    let is = table_with c.args.names.now c.args.slots c.in-Some.redirects c.requires.enough (sym c.in_ok-redirects.ensures
    ∙ c.in-Some.is) in
    table_made c.args.names.now c.args.slots c.in-Some.redirects c.in_ok-slot_of.slot_of is
    (c.in_ok-slot_of.ensures ∙ ap (λ r. filter_map (slot_by r) c.args.names.now) c.as_slice.ensures)
