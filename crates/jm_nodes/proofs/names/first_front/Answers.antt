use Rattle.std.proofs.Common.{map}
use Rattle.jm_nodes.proofs.SharedLaws.{first_shared}
use Rattle.jm_nodes.proofs.names.first_front.Goals as goal

pub loop-front-init : goal.loop-front-init
loop-front-init c = first_shared (map (λ name. name.now) c.args.names.now) (map (λ front. front.now) c.args.fronts.now)
    c.requires.names c.requires.fronts
