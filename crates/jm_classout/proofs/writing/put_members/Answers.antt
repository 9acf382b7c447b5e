use Rattle.std.proofs.Common.{arith}
use Rattle.std.proofs.lemmas.List.{length-map}
use Rattle.jm_class.specs.Views.{attribute_of, member_of}
use Rattle.jm_classout.specs.Fits.{SomeMember}
use Rattle.jm_classout.proofs.Loops.{each_item}
use Rattle.jm_classout.proofs.writing.put_members.Goals as goal

one : (c : goal.After-as_slice) → SomeMember (member_of c.member-item.result)
one c = each_item member_of SomeMember c.args.members.now c.loop-member.member-index c.member-item.result
    c.requires.each c.loop-member-test.true c.member-item.is

pub put_attributes-requires-clause-count : goal.put_attributes-requires-clause-count
put_attributes-requires-clause-count c =
    let same = length-map c.member-item.result.attributes attribute_of in
    let fits = (one c).member.attributes.0 in
    rw c.as_slice.ensures (omega (arith, same, fits))

pub put_attributes-requires-clause-each : goal.put_attributes-requires-clause-each
put_attributes-requires-clause-each c =
    let some = one c in
    rw c.as_slice.ensures (λ k d more. record {
      pool = some.pool;
      in_method = some.in_method;
      attribute = some.member.attributes.1 k d more;
    })
