use Rattle.jm_strings.proofs.strings.Strings.bytes.Goals as goal

pub returns-clause-zero_free : goal.returns-clause-zero_free
returns-clause-zero_free c = rw (← c.self.view_is) c.self.invariant.zero_free
