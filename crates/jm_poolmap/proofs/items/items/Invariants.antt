use Rattle.std.proofs.Common.{◌≡◌, drop}
use Rattle.jm_poolmap.specs.Forms.{Texts, reads}
use Rattle.jm_poolmap.specs.Items.{items}
use Rattle.jm_poolmap.proofs.items.items.Given as goal

abbrev pub invariant-loop-item : goal.invariant-loop-item
invariant-loop-item l = (texts : Texts) → reads texts (items (drop l.item-index l.list)) l.found l.cursor
    ≡ reads texts (items l.list) l.fn.found l.fn.cursor
