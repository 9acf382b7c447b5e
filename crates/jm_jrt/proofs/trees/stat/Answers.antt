use Rattle.std.proofs.Common.{refl}
use Rattle.jm_reader.proofs.IndexLaws.{sound_of}
use Rattle.jm_jrt.specs.Standings.{whole}
use Rattle.jm_jrt.proofs.trees.stat.Goals as goal

pub content-requires-clause-sound : goal.content-requires-clause-sound
content-requires-clause-sound g c =
    sound_of (whole c.args.image.now) c.args.image.now c.in-File.row refl refl (rw c.in-File.is at c.in_ok-list.ensures.within)
