use Rattle.jm_texts.proofs.NameRefusalLaws.{all_sound, none_checked}
use Rattle.jm_texts.proofs.name_refusals.first_bad_name.Goals as goal

pub returns-clause-sound : goal.returns-clause-sound
returns-clause-sound g c none =
    let pair = g.T.HasName.pair in
    all_sound pair c.args.items.now (none_checked pair c.args.items.now c.loop-item.item-index c.loop-item-test.false c.loop-item.invariant)
