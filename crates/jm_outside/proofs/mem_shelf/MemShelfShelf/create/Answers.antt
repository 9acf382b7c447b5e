use Rattle.std.proofs.Common.{[], ◌<◌}
use Rattle.std.proofs.lemmas.List.Elements.{All-nil}
use Rattle.jm_outside.proofs.Sound.{kept_after}
use Rattle.jm_outside.proofs.mem_shelf.MemShelfShelf.create.Goals as goal

pub invariant_of-self-2 : goal.invariant_of-self-2
invariant_of-self-2 c =
    let ok = rw (c.in_ok-copy_of.ensures, c.new.ensures.items) at c.put.ensures.ok in
    let kept = kept_after c.put.result c.args.self.now.files c.put.new.self c.args.path.now [] c.requires.text (All-nil (λ byte. byte < 256))
    ok c.put.ensures.err (record { rising = c.args.self.now.rising; texts = c.args.self.now.texts; bytes = c.args.self.now.bytes }) in
    record { rising = kept.rising; texts = kept.texts; bytes = kept.bytes }
