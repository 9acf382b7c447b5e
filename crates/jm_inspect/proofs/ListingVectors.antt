-- The text of `list`, evaluated on whole images.
use Rattle.std.proofs.Common.{◌≡◌, ◌∷◌, [], Some, None, refl}
use Rattle.std.specs.Fmt.{digits}
use Rattle.std.specs.Prelude.{codes}
use Rattle.jm_form.proofs.Vectors.{tiny, side_by_side, empty}
use Rattle.jm_pattern.specs.declared.signs.Sign.TheVariants.{AnyRun, Byte}
use Rattle.jm_inspect.specs.ListText.{list_text}

-- `/m/b` stands in slot 0
by_name_not_slot : list_text side_by_side None ≡ codes "0 /m/a\n0 /m/b\n"
unfolding digits
by_name_not_slot = refl

one_included : list_text side_by_side (Some ((AnyRun ∷ Byte 98 ∷ []) ∷ [])) ≡ codes "0 /m/b\n"
unfolding digits
one_included = refl

sized : list_text tiny None ≡ codes "2 /m/a\n"
unfolding digits
sized = refl

nodes_left_out : list_text empty None ≡ []
nodes_left_out = refl
