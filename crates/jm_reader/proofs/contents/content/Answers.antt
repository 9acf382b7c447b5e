use Rattle.jm_reader.proofs.IndexLaws.{sound_in}
use Rattle.jm_reader.proofs.contents.content.Goals as goal

pub place_of_content-place-requires : goal.place_of_content-place-requires
place_of_content-place-requires g c =
    sound_in c.index.result c.args.image.now c.args.row.now c.index.ensures.bytes c.index.ensures.length c.requires.sound
