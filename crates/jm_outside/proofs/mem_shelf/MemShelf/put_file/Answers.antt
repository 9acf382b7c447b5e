use Rattle.jm_outside.proofs.Sound.{kept_after}
use Rattle.jm_outside.proofs.mem_shelf.MemShelf.put_file.Goals as goal

pub invariant_of-self : goal.invariant_of-self
invariant_of-self c =
    let kept = kept_after c.put.result c.args.self.now.files c.put.new.self c.args.path c.into_vec-2.result.items c.requires.text
    (rw (c.into_vec-2.ensures, ← c.as_slice.ensures) c.known_bytes.ensures)
    (rw c.into_vec.ensures at c.put.ensures.ok) c.put.ensures.err (record {
      rising = c.args.self.now.rising;
      texts =
          c.args.self.now.texts;
      bytes = c.args.self.now.bytes;
    }) in
    record { rising = kept.rising; texts = kept.texts; bytes = kept.bytes }
