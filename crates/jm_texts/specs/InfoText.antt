-- What `info` prints of an image (this project's rule).
use Rattle.std.specs.Prelude.{ℕ, ◌-◌, List, [], ◌∷◌, ◌++◌, length, Result, Ok, Err, codes}
use Rattle.std.specs.Fmt.{decimal}
use Rattle.std.specs.List.{concat}
use Rattle.jm_bytes.specs.declared.words.Order.{Order}
use Rattle.jm_bytes.specs.declared.words.Order.TheVariants.{Little, Big}
use Rattle.jm_form.specs.declared.container.Header.{Header}
use Rattle.jm_form.specs.declared.container.HeaderFault.{HeaderFault}
use Rattle.jm_form.specs.Head.{header_of, index_length}

-- an order of bytes in print
abbrev pub order_text : Order → List ℕ
order_text Little = codes "little"
order_text Big = codes "big"

-- the lines on what stands before the table, and on its length
abbrev pub front_text : Header → List ℕ
front_text h =
    concat (codes "order " ∷ order_text h.order
    ∷ codes "\nversion 1.0\nflags " ∷ decimal h.flags
    ∷ codes "\nentries " ∷ decimal h.count
    ∷ codes "\nslots " ∷ decimal h.length ∷ codes "\n" ∷ [])

-- the lines on the lengths of the parts, with that many bytes of contents
abbrev pub lengths_text : Header → ℕ → List ℕ
lengths_text h contents =
    concat (codes "locations " ∷ decimal h.locations
    ∷ codes "\nstrings " ∷ decimal h.strings
    ∷ codes "\nindex " ∷ decimal (index_length h)
    ∷ codes "\ncontents " ∷ decimal contents ∷ codes "\n" ∷ [])

-- the lines on a header, with that many bytes of contents
abbrev pub header_text : Header → ℕ → List ℕ
header_text h contents = front_text h ++ lengths_text h contents

-- the lines on an image, by what was read as its header
abbrev pub info_with : List ℕ → Result Header HeaderFault → List ℕ
info_with b (Ok h) = header_text h (length b - index_length h)
info_with b (Err fault) = []

-- the lines of an image's bytes
abbrev pub info_text : List ℕ → List ℕ
info_text b = info_with b (header_of b)
