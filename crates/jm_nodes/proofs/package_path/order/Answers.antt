use Rattle.std.proofs.Common.{◌≡◌, min, length, sym, ◌∙◌, arith}
use Rattle.jm_nodes.proofs.PathLaws.{ends}
use Rattle.jm_nodes.proofs.package_path.order.Goals as goal

pub returns : goal.returns
returns c =
    let path = c.args.path.now in
    let other = c.args.other.now in
    let end : c.loop-at.at ≡ min (length path) (length other) = omega arith in
    c.cmp.ensures ∙ sym (c.loop-at.invariant ∙ ends path other c.loop-at.at end)
