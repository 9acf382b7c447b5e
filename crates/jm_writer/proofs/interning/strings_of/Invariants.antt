use Rattle.std.proofs.Common.{◌≡◌, ◌++◌, map, drop}
use Rattle.std.specs.List.{flat_map}
use Rattle.jm_names.specs.Names.{split}
use Rattle.jm_form.specs.Layout.{pieces, texts_of, with_texts}
use Rattle.jm_writer.specs.Parts.{places_in, places_of}
use Rattle.jm_writer.proofs.interning.strings_of.Given as goal

abbrev pub invariant-loop-name : goal.invariant-loop-name
invariant-loop-name l = record {
  texts : with_texts l.interned.strings (flat_map (λ name. pieces (split name)) (drop l.name-index l.names)) ≡ texts_of l.names;
  places : l.interned.places ++ map (λ name. places_in (texts_of l.names) (split name)) (drop l.name-index l.names) ≡ places_of l.names;
}
