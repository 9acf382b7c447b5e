use Rattle.std.proofs.Common.{◌≡◌, All, false, take}
use Rattle.jm_names.specs.NameFaults.{IsSound}
use Rattle.jm_names.specs.Names.{is_node}
use Rattle.jm_form.specs.Layout.{names_of}
use Rattle.jm_call_cases.proofs.fit.are_fit.Given as goal

abbrev pub invariant-loop-place : goal.invariant-loop-place
invariant-loop-place l = record {
  sound : All IsSound (take l.place (names_of l.pool));
  resources : All (λ name. is_node name ≡ false) (take l.place (names_of l.pool));
}
