use Rattle.std.proofs.Common.{◌≡◌, ◌+◌, ◌*◌, length, arith, sym}
use Rattle.jm_class.specs.Classes.{class_text}
use Rattle.jm_class.specs.Views.{plain}
use Rattle.jm_classout.proofs.ClassTexts.{class_length}
use Rattle.jm_classout.proofs.sizes.size.Goals as goal

whole : (c : goal.After-attributes_size-attributes) → length (class_text (plain c.args.class.now)) ≡ 24 + c.slots_size-pool.result
    + 2 * c.len.result + c.members_size-fields.result + c.members_size-methods.result + c.attributes_size-attributes.result
whole c =
    let pool = rw c.as_slice.ensures at c.slots_size-pool.ensures in
    let fields = rw c.as_slice-2.ensures at c.members_size-fields.ensures in
    let methods = rw c.as_slice-3.ensures at c.members_size-methods.ensures in
    let attributes = rw c.as_slice-4.ensures at c.attributes_size-attributes.ensures in
    rw (pool, c.len.ensures, fields, methods, attributes) (class_length (plain c.args.class.now))

pub overflow_add-result-2 : goal.overflow_add-result-2
overflow_add-result-2 c = let all = whole c in let fits = c.requires.fits in record { fits = omega (arith, all, fits) }

pub overflow_add-result-3 : goal.overflow_add-result-3
overflow_add-result-3 c = let all = whole c in let fits = c.requires.fits in record { fits = omega (arith, all, fits) }

pub overflow_add-result-4 : goal.overflow_add-result-4
overflow_add-result-4 c = let all = whole c in let fits = c.requires.fits in record { fits = omega (arith, all, fits) }

pub overflow_add-result-5 : goal.overflow_add-result-5
overflow_add-result-5 c = let all = whole c in let fits = c.requires.fits in record { fits = omega (arith, all, fits) }

pub returns : goal.returns
returns c = sym (whole c)
