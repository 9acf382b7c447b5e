use Rattle.std.proofs.Common.{rules}
use Rattle.jm_relink.proofs.InfoLaws.{place_kept, place_last}
use Rattle.jm_relink.proofs.groups.with_file.Goals as goal
use Rattle.jm_relink.proofs.groups.with_file.Goals.{then-is_none+then-eq, else-is_none, else-is_none-via-then-is_none+else-eq, else-is_none-via-else-is_none}

pub returns-clause-info : goal.returns-clause-info
returns-clause-info c = search (rules, place_kept, place_last, then-is_none+then-eq, else-is_none, else-is_none-via-then-is_none+else-eq, else-is_none-via-else-is_none)
