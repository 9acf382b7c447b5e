use Rattle.std.proofs.Common.{[]}
use Rattle.jm_class.specs.Views.{opaque_of}
use Rattle.jm_classout.specs.Fits.{OfSomeCode}
use Rattle.jm_classout.proofs.Loops.{each_index}
use Rattle.jm_classout.proofs.writing.put_plains.Goals as goal

pub put_sized-requires : goal.put_sized-requires
put_sized-requires c =
    (each_index opaque_of OfSomeCode c.args.attributes.now c.loop-attribute.attribute-index
    (record { name = 0; bytes = record { ref_ptr = (0, 0); now = [] } })
    c.requires.each c.loop-attribute-test.true).1.bytes
