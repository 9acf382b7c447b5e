use Rattle.jm_commands.proofs.decompress.put_decompressed.Goals as goal

pub returns : goal.returns
returns g c = c.put_text.ensures _ c.format-text.ensures.ok
