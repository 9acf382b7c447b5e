use Rattle.jm_class.proofs.ReadingLaws.{bytes_all}
use Rattle.jm_strip.proofs.codes.are_bytes.Goals as goal

pub returns : goal.returns
returns c = bytes_all c.args._bytes.now (λ i. (c.type_inv._bytes i).fits)
