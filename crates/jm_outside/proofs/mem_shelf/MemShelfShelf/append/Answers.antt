use Rattle.std.proofs.Common.{◌<◌}
use Rattle.std.proofs.lemmas.List.Elements.{All-take}
use Rattle.jm_outside.proofs.Sound.{bytes_added, bytes_of_type, kept_after}
use Rattle.jm_outside.proofs.mem_shelf.MemShelfShelf.append.Goals as goal

pub invariant_of-self : goal.invariant_of-self
invariant_of-self c =
    let kept = kept_after c.add.result c.args.self.now.files c.add.new.self c.args.path.now _ c.requires.text
    (bytes_added c.args.self.now.files c.args.path.now _ c.args.self.now.bytes
    (rw c.split_at.ensures.front (All-take (λ byte. byte < 256) _ c.args.bytes.now (bytes_of_type c.args.bytes.now c.type_inv.bytes))))
    c.add.ensures.ok
    c.add.ensures.err (record { rising = c.args.self.now.rising; texts = c.args.self.now.texts; bytes = c.args.self.now.bytes }) in
    record { rising = kept.rising; texts = kept.texts; bytes = kept.bytes }

pub invariant_of-self-then-number : goal.invariant_of-self-then-number
invariant_of-self-then-number c =
    let kept = kept_after c.add.result c.args.self.now.files c.add.new.self c.args.path.now _ c.requires.text
    (bytes_added c.args.self.now.files c.args.path.now _ c.args.self.now.bytes
    (rw c.split_at.ensures.front (All-take (λ byte. byte < 256) _ c.args.bytes.now (bytes_of_type c.args.bytes.now c.type_inv.bytes))))
    c.add.ensures.ok
    c.add.ensures.err (record { rising = c.args.self.now.rising; texts = c.args.self.now.texts; bytes = c.args.self.now.bytes }) in
    record { rising = kept.rising; texts = kept.texts; bytes = kept.bytes }

pub invariant_of-self-2 : goal.invariant_of-self-2
invariant_of-self-2 c =
    let kept = kept_after c.add-2.result c.args.self.now.files c.add-2.new.self c.args.path.now _ c.requires.text
    (bytes_added c.args.self.now.files c.args.path.now _ c.args.self.now.bytes
    (bytes_of_type c.args.bytes.now c.type_inv.bytes))
    c.add-2.ensures.ok
    c.add-2.ensures.err (record { rising = c.args.self.now.rising; texts = c.args.self.now.texts; bytes = c.args.self.now.bytes }) in
    record { rising = kept.rising; texts = kept.texts; bytes = kept.bytes }
