use Rattle.jm_class.specs.ClassLayout.{attribute_field, member_field}
use Rattle.jm_class.specs.Layouts.{listed}
use Rattle.jm_class.specs.Views.{plain, member_of, attribute_of}
use Rattle.std.proofs.Common.{true, false, map, refl}
use Rattle.jm_class.proofs.Stops.{gives_stop}
use Rattle.jm_class.proofs.WholeReadings.{by_pool}
use Rattle.jm_class.proofs.reading.parts.Goals as goal

pub returns-in_err-fields : goal.returns-in_err-fields
returns-in_err-fields c =
    gives_stop (map member_of) plain _ _ c.in_err-fields.field-0.0 c.from_residual-in_err-fields.result c.members.new.cursor
    c.members.new.cursor c.from_residual-in_err-fields.ensures.1 c.in_err-fields.ensures
    (λ fault stops.
    let fields = by_pool (λ pool. listed (member_field pool false)) _ _ c.interfaces.new.cursor _ c.as_slice-slots.ensures stops in
    rw (
      c.in_ok-access.ensures,
      c.in_ok-this_class.ensures,
      c.in_ok-super_class.ensures,
      c.in_ok-interfaces.ensures,
      fields,
    ) refl)

pub returns-in_err-methods : goal.returns-in_err-methods
returns-in_err-methods c =
    gives_stop (map member_of) plain _ _ c.in_err-methods.field-0.0 c.from_residual-in_err-methods.result c.members-2.new.cursor
    c.members-2.new.cursor c.from_residual-in_err-methods.ensures.1 c.in_err-methods.ensures
    (λ fault stops.
    let fields = by_pool (λ pool. listed (member_field pool false)) _ _ c.interfaces.new.cursor _ c.as_slice-slots.ensures c.in_ok-fields.ensures in
    let methods = by_pool (λ pool. listed (member_field pool true)) _ _ c.members.new.cursor _ c.as_slice-slots.ensures stops in
    rw (
      c.in_ok-access.ensures,
      c.in_ok-this_class.ensures,
      c.in_ok-super_class.ensures,
      c.in_ok-interfaces.ensures,
      fields,
      methods,
    ) refl)

pub returns-in_err-attributes : goal.returns-in_err-attributes
returns-in_err-attributes c =
    gives_stop (map attribute_of) plain _ _ c.in_err-attributes.field-0.0 c.from_residual-in_err-attributes.result c.attributes.new.cursor
    c.attributes.new.cursor c.from_residual-in_err-attributes.ensures.1 c.in_err-attributes.ensures
    (λ fault stops.
    let fields = by_pool (λ pool. listed (member_field pool false)) _ _ c.interfaces.new.cursor _ c.as_slice-slots.ensures c.in_ok-fields.ensures in
    let methods = by_pool (λ pool. listed (member_field pool true)) _ _ c.members.new.cursor _ c.as_slice-slots.ensures c.in_ok-methods.ensures in
    let attributes = by_pool (λ pool. listed (attribute_field pool false)) _ _ c.members-2.new.cursor _ c.as_slice-slots.ensures stops in
    rw (
      c.in_ok-access.ensures,
      c.in_ok-this_class.ensures,
      c.in_ok-super_class.ensures,
      c.in_ok-interfaces.ensures,
      fields,
      methods,
      attributes,
    ) refl)

pub returns : goal.returns
returns c =
    let fields = by_pool (λ pool. listed (member_field pool false)) _ _ c.interfaces.new.cursor _ c.as_slice-slots.ensures c.in_ok-fields.ensures in
    let methods = by_pool (λ pool. listed (member_field pool true)) _ _ c.members.new.cursor _ c.as_slice-slots.ensures c.in_ok-methods.ensures in
    let attributes = by_pool (λ pool. listed (attribute_field pool false)) _ _ c.members-2.new.cursor _ c.as_slice-slots.ensures c.in_ok-attributes.ensures in
    rw (
      c.in_ok-access.ensures,
      c.in_ok-this_class.ensures,
      c.in_ok-super_class.ensures,
      c.in_ok-interfaces.ensures,
      fields,
      methods,
      attributes,
    ) refl
