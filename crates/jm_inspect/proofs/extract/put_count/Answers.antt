use Rattle.jm_inspect.proofs.extract.put_count.Goals as goal

pub returns : goal.returns
returns g c = c.put_text.ensures _ c.format.ensures.ok
