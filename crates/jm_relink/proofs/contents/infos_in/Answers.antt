use Rattle.std.proofs.Common.{◌∙◌}
use Rattle.jm_reader.proofs.WalkLaws.{later_further}
use Rattle.jm_relink.proofs.FoundLaws.{info_more}
use Rattle.jm_relink.proofs.contents.infos_in.Goals as goal

pub loop-module-preserved : goal.loop-module-preserved
loop-module-preserved g c =
    let before = c.loop-module in
    let text = c.in_ok-content_in in
    record {
      metered = text.ensures.reads.bytes ∙ before.invariant.metered;
      reads = later_further c.args.reads.now before.reads c.content_in.new.reads before.invariant.reads text.ensures.reads;
      infos = info_more c.args.image.now c.args.modules.now before.module-index c.module-item.result before.infos c.push.new.self
          text.field-0 c.loop-module-test.true c.module-item.is before.invariant.infos text.ensures.content
          c.in_ok-push.ensures.ok;
    }
