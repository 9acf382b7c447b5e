use Rattle.std.proofs.Common.{rules, append_assoc}
use Rattle.std.proofs.lemmas.Result.{IfOk-equal}
use Rattle.jm_reader.proofs.name_bytes.NameBytes.put_all.Goals as goal

pub returns : goal.returns
returns c = search (rules, IfOk-equal, append_assoc)
