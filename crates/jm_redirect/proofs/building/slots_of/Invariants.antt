use Rattle.std.proofs.Common.{◌≡◌, length, take}
use Rattle.std.specs.Prelude.{slice_index_or}
use Rattle.std.specs.List.{filter_map}
use Rattle.jm_form.specs.declared.table.Redirect.TheVariants.{Nowhere}
use Rattle.jm_form.specs.Greedy.{bucket_of}
use Rattle.jm_form.specs.Table.{slot_of}
use Rattle.jm_redirect.proofs.building.slots_of.Given as goal

abbrev pub invariant-loop-place : goal.invariant-loop-place
invariant-loop-place l =
    l.slots ≡ filter_map (λ name. slot_of (length l.redirects) name (slice_index_or l.redirects (bucket_of (length l.redirects)
    name) Nowhere)) (take l.place l.names)
