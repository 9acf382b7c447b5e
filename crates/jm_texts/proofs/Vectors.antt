-- What the text of a small descriptor is, computed from the definition.
use Rattle.std.proofs.Common.{◌≡◌, [], ◌∷◌, Some, None, refl}
use Rattle.std.specs.Prelude.{codes}
use Rattle.jm_modinfo.specs.declared.descriptor.Descriptor.{Descriptor}
use Rattle.jm_texts.specs.DescribeText.{describe_text}

-- all that a descriptor may say
whole : Descriptor
whole = record {
  name = codes "m";
  version = Some (codes "1");
  flags = 0x0020;
  needs = record { name = codes "a"; flags = 0x0060; version = None } ∷ [];
  exports = record { «package» = codes "p"; flags = 0; to = codes "b" ∷ codes "c" ∷ [] } ∷ [];
  opens = record { «package» = codes "q"; flags = 0; to = [] } ∷ [];
  uses = codes "s/S" ∷ [];
  provides = record { service = codes "s/S"; classes = codes "p/P" ∷ codes "p/Q" ∷ [] } ∷ [];
  main = Some (codes "p/P");
}

said : describe_text whole
    ≡ codes "open module m@1\nrequires transitive static a\nexports p to b,c\nopens q\nuses s/S\nprovides s/S with p/P,p/Q\nmain p/P\n"
unfolding whole
said = refl
