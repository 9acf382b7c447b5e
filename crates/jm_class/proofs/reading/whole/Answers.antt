use Rattle.std.proofs.Common.{ap}
use Rattle.jm_class.specs.declared.class.ClassFault.TheVariants.{Short, Rest}
use Rattle.jm_class.specs.ClassLayout.{class_fields}
use Rattle.jm_class.specs.Layouts.{reading, value_of}
use Rattle.jm_class.specs.Views.{plain}
use Rattle.jm_class.proofs.WholeReadings.{class-stop, ended-rest, ended-all}
use Rattle.jm_class.proofs.reading.whole.Goals as goal

pub returns-in_err-class : goal.returns-in_err-class
returns-in_err-class c =
    class-stop c.args.bytes.now c.new-cursor.result c.class.new.cursor c.in_err-class.field-0.0 c.from_residual.result
    c.new-cursor.ensures c.from_residual.ensures.1 c.in_err-class.ensures

pub returns-then-len-ne0 : goal.returns-then-len-ne0
returns-then-len-ne0 c =
    rw c.place.ensures
    (ap value_of (ended-rest Rest (reading Short class_fields) (record { place = 0; bytes = c.args.bytes.now }) c.class.new.cursor
    (plain c.in_ok-class.class) c.len.result (rw c.new-cursor.ensures at c.in_ok-class.ensures) c.len.ensures c.if-len-ne0.true))

pub returns : goal.returns
returns c =
    ap value_of (ended-all Rest (reading Short class_fields) (record { place = 0; bytes = c.args.bytes.now }) c.class.new.cursor
    (plain c.in_ok-class.class) c.len.result (rw c.new-cursor.ensures at c.in_ok-class.ensures) c.len.ensures c.if-len-ne0.false)
