use Rattle.std.proofs.Common.{refl}
use Rattle.jm_plugins.specs.SystemModules.{plain_map_text}
use Rattle.jm_plugins.proofs.system_modules.plain_map.Goals as goal

pub returns : goal.returns
unfolding plain_map_text
returns c = refl
