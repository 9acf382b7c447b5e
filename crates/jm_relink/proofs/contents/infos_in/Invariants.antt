use Rattle.std.proofs.Common.{◌≡◌, take}
use Rattle.jm_reader.specs.Walk.{IsLater}
use Rattle.jm_relink.specs.Entries.{AreInfosIn}
use Rattle.jm_relink.proofs.contents.infos_in.Given as goal

abbrev pub invariant-loop-module : goal.invariant-loop-module
invariant-loop-module g l = record {
  metered : l.reads.bytes ≡ l.image;
  reads : IsLater l.fn.reads l.reads;
  infos : AreInfosIn l.image (take l.module-index l.modules) l.infos;
}
