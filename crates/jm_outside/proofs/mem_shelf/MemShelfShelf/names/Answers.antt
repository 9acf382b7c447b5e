use Rattle.jm_outside.proofs.Sound.{rising_below, texts_below}
use Rattle.jm_outside.proofs.mem_shelf.MemShelfShelf.names.Goals as goal

pub returns-clause-rising : goal.returns-clause-rising
returns-clause-rising c = rw c.in_ok-names.ensures (rising_below c.args.dir.now c.args.self.now.files
    (record { rising = c.args.self.now.rising; texts = c.args.self.now.texts; bytes = c.args.self.now.bytes }))

pub returns-clause-texts : goal.returns-clause-texts
returns-clause-texts c = rw c.in_ok-names.ensures (texts_below c.args.dir.now c.args.self.now.files c.requires.text
    (record { rising = c.args.self.now.rising; texts = c.args.self.now.texts; bytes = c.args.self.now.bytes }))
