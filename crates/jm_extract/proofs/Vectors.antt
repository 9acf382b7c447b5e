-- What is extracted of small images, and what is refused, computed from the definitions.
use Rattle.std.proofs.Common.{◌≡◌, ◌∷◌, ◌++◌, [], Some, None, Ok, refl}
use Rattle.std.specs.Prelude.{codes}
use Rattle.jm_form.proofs.Vectors.{empty, side_by_side, tiny}
use Rattle.jm_names.specs.declared.check.NameFault.TheVariants.{Dots, EmptyPart}
use Rattle.jm_pattern.specs.declared.signs.Sign.TheVariants.{AnyRun, Byte}
use Rattle.jm_outside.specs.Made.{written}
use Rattle.jm_texts.specs.declared.refusal.Refusal.TheVariants as refusal
use Rattle.jm_extract.specs.Extracted.{due_size, extracted, refusal_of, taken_size, unless_refused, write_of, writes_of}

-- Images

one : extracted tiny None ≡ Ok ((codes "/m/a", codes "hi") ∷ [])
unfolding refusal_of
one = refl

-- `/m/b` stands in slot 0
by_name_not_slot : extracted side_by_side None ≡ Ok ((codes "/m/a", []) ∷ (codes "/m/b", []) ∷ [])
unfolding refusal_of
by_name_not_slot = refl

one_included : extracted side_by_side (Some ((AnyRun ∷ Byte 98 ∷ []) ∷ [])) ≡ Ok ((codes "/m/b", []) ∷ [])
unfolding refusal_of
one_included = refl

nodes_left_out : extracted empty None ≡ Ok []
unfolding refusal_of
nodes_left_out = refl

-- the sizes of the contents that are taken
two_bytes : taken_size tiny None ≡ 2
unfolding refusal_of
two_bytes = refl

none_of_an_empty : taken_size side_by_side (Some ((AnyRun ∷ Byte 98 ∷ []) ∷ [])) ≡ 0
unfolding refusal_of
none_of_an_empty = refl

-- Refusals

none_where_refused : due_size (unless_refused ((codes "/m/a", codes "hi") ∷ (codes "/m/a/b", []) ∷ [])) ≡ 0
unfolding refusal_of
none_where_refused = refl

-- `-` stands before `/`
clash_behind_another : refusal_of ((codes "/m/a", []) ∷ (codes "/m/a-b", []) ∷ (codes "/m/a/b", []) ∷ [])
    ≡ Some (refusal.Clash (codes "/m/a"))
unfolding refusal_of
clash_behind_another = refl

no_clash : refusal_of ((codes "/m/a", []) ∷ (codes "/m/ab", []) ∷ (codes "/m/b/a", []) ∷ []) ≡ None
unfolding refusal_of
no_clash = refl

bad_name_first : refusal_of ((codes "/m/a", []) ∷ (codes "/m/a/b", []) ∷ (codes "/m/b//c", []) ∷ [])
    ≡ Some (refusal.BadName (codes "/m/b//c") EmptyPart)
unfolding refusal_of
bad_name_first = refl

least_bad_name : refusal_of ((codes "/m/../a", []) ∷ (codes "/m/b//c", []) ∷ []) ≡ Some (refusal.BadName (codes "/m/../a") Dots)
unfolding refusal_of
least_bad_name = refl

-- Files

made : written [] (writes_of (codes "out") ((codes "/m/a", codes "hi") ∷ (codes "/n/b", []) ∷ [])) ≡ (codes "out/m/a", codes "hi")
    ∷ (codes "out/n/b", []) ∷ []
made = refl

-- a pair of surrogates is a character of four bytes in the path
above_ffff : write_of (codes "d") (codes "/m/" ++ 0xED ∷ 0xA0 ∷ 0xBD ∷ 0xED ∷ 0xB8 ∷ 0x80 ∷ [], [])
    ≡ (codes "d/m/" ++ 0xF0 ∷ 0x9F ∷ 0x98 ∷ 0x80 ∷ [], [])
above_ffff = refl
