-- The texts of `link`, `gen` and `decompress` (this project's rule): the modules of the closure, the
-- resources, and the length of the image in bytes; of `gen` the slots of its table besides, and of
-- `decompress` no modules.
use Rattle.std.specs.Prelude.{ℕ, List, [], ◌∷◌, codes}
use Rattle.std.specs.Fmt.{decimal}
use Rattle.std.specs.List.{concat}
use Rattle.jm_link.specs.declared.linking.Summary.{Summary}

-- the three lines on what was linked
abbrev pub link_text : Summary → List ℕ
link_text summary =
    concat (codes "modules " ∷ decimal summary.modules
    ∷ codes "\nresources " ∷ decimal summary.resources
    ∷ codes "\nbytes " ∷ decimal summary.length ∷ codes "\n" ∷ [])

-- the four lines on what was made and linked
abbrev pub gen_text : Summary → List ℕ
gen_text summary =
    concat (codes "modules " ∷ decimal summary.modules
    ∷ codes "\nresources " ∷ decimal summary.resources
    ∷ codes "\nbytes " ∷ decimal summary.length
    ∷ codes "\nslots " ∷ decimal summary.slots ∷ codes "\n" ∷ [])

-- the two lines on what was decompressed
abbrev pub decompress_text : Summary → List ℕ
decompress_text summary =
    concat (codes "resources " ∷ decimal summary.resources
    ∷ codes "\nbytes " ∷ decimal summary.length ∷ codes "\n" ∷ [])
