use Rattle.jm_reader.proofs.IndexLaws.{own_file}
use Rattle.jm_reader.proofs.look_up.find_row.Goals as goal

pub returns-clause-found : goal.returns-clause-found
returns-clause-found g c = c.find_row_in.ensures.found c.args.image.now (own_file c.index.result c.args.image.now c.index.ensures.bytes
    c.index.ensures.length)

pub returns-clause-sound : goal.returns-clause-sound
returns-clause-sound g c = c.find_row_in.ensures.sound c.args.image.now (own_file c.index.result c.args.image.now c.index.ensures.bytes
    c.index.ensures.length)

pub returns-clause-content : goal.returns-clause-content
returns-clause-content g c = c.find_row_in.ensures.content c.args.image.now (own_file c.index.result c.args.image.now
    c.index.ensures.bytes c.index.ensures.length)
