use Rattle.jm_class.specs.Views.{attribute_of}
use Rattle.jm_classout.specs.Fits.{SomeAttribute}
use Rattle.jm_classout.proofs.Loops.{each_item}
use Rattle.jm_classout.proofs.writing.put_attributes.Goals as goal

pub put_attribute-requires : goal.put_attribute-requires
put_attribute-requires c = each_item attribute_of SomeAttribute c.args.attributes.now c.loop-attribute.attribute-index
    c.attribute-item.result c.requires.each c.loop-attribute-test.true c.attribute-item.is
