use Rattle.std.proofs.Common.{◌≡◌, ◌∷◌, drop, map}
use Rattle.jm_bytes.specs.Checks.{first_fault}
use Rattle.jm_texts.specs.NameRefusals.{first_bad_name}
use Rattle.jm_extract.specs.Extracted.{clash_refusal, first_clash}
use Rattle.jm_filed.specs.Taken.{name_alone}
use Rattle.jm_extract.proofs.refusals.refusal_of.Given as goal

abbrev pub invariant-loop-entry : goal.invariant-loop-entry
invariant-loop-entry l = record {
  sound : first_bad_name (map name_alone (drop l.entry-index l.entries)) ≡ first_bad_name (map name_alone l.entries);
  clash : first_fault (l.clash ∷ map (clash_refusal (map name_alone l.entries)) (map name_alone (drop l.entry-index l.entries)))
      ≡ first_clash (map name_alone l.entries);
}
