use Rattle.std.proofs.Common.{length}
use Rattle.jm_reader.proofs.IndexLaws.{own_file}
use Rattle.jm_reader.proofs.WalkLaws.{later_further}
use Rattle.jm_relink.proofs.AskedLaws.{found_stand}
use Rattle.jm_relink.proofs.modules.modules_for.Goals as goal

pub returns : goal.returns
returns g c =
    let b = c.args.image.now in
    let entries = c.in_ok-entries in
    let infos = c.in_ok-infos in
    let are = entries.ensures.entries b (own_file c.index.result b c.index.ensures.bytes c.index.ensures.length) in
    let found = c.modules_with.ensures.modules b are (rw c.as_slice.ensures at infos.ensures.infos) in
    let inside = c.modules_with.ensures.within (length b) (rw c.index.ensures.length at entries.ensures.within) in
    record {
      modules = found.modules;
      are = found.are;
      stand = found_stand c.args.release b c.modules_with.result found.modules inside;
      reads = later_further c.args.reads.now c.module_entries.new.reads c.infos_in.new.reads entries.ensures.reads
          infos.ensures.reads;
    }
