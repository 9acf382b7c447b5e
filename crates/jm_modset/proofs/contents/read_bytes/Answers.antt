use Rattle.jm_modset.proofs.contents.read_bytes.Goals as goal

pub returns-in_err-read_part-in-Part-clause-takes : goal.returns-in_err-read_part-in-Part-clause-takes
returns-in_err-read_part-in-Part-clause-takes g c = rw c.in-Part.is (λ told sized. c.read_part.ensures.takes told)

pub returns-in-File-clause-content : goal.returns-in-File-clause-content
returns-in-File-clause-content g c = rw c.in-File.is (c.read_file.ensures.content c.args.image.now)

pub returns-in_ok-read_part-in-Part-clause-takes : goal.returns-in_ok-read_part-in-Part-clause-takes
returns-in_ok-read_part-in-Part-clause-takes g c = rw c.in-Part.is (λ told sized. c.read_part.ensures.takes told)
