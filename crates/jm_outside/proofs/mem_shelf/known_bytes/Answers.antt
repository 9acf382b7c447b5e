use Rattle.jm_outside.proofs.Sound.{bytes_of_type}
use Rattle.jm_outside.proofs.mem_shelf.known_bytes.Goals as goal

pub returns : goal.returns
returns c = bytes_of_type c.args.bytes.now c.type_inv.bytes
