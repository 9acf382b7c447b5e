use Rattle.std.proofs.Common.{◌∙◌, ℕ, List, IsUtf8, arith, subst, sym}
use Rattle.jm_extract.proofs.PathLaws.{path_text}
use Rattle.jm_extract.proofs.extracting.make_entry.Goals as goal

pub make_file-requires : goal.make_file-requires
make_file-requires g c =
    let dir = c.args.making.dir.now in
    let path = c.as_slice.ensures ∙ c.in_ok-made.ensures in
    record { text = subst (λ (p : List ℕ). IsUtf8 p) (sym path) (path_text dir c.args.entry.now.name c.requires.text c.requires.name) }

pub returns-in-Some-clause-handed : goal.returns-in-Some-clause-handed
returns-in-Some-clause-handed g c = rw c.in-Some.is (omega (arith, c.make_file.ensures.handed))

pub make_file-requires-in-None : goal.make_file-requires-in-None
make_file-requires-in-None g c =
    let dir = c.args.making.dir.now in
    let path = c.as_slice-in-None.ensures ∙ c.in_ok-made.ensures in
    record { text = subst (λ (p : List ℕ). IsUtf8 p) (sym path) (path_text dir c.args.entry.now.name c.requires.text c.requires.name) }

pub returns-clause-handed : goal.returns-clause-handed
returns-clause-handed g c =
    rw c.in-None.is (omega (arith, c.make_file-in-None.ensures.handed, c.in_ok-read_extent-in-None.ensures.handed))
