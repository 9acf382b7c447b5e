use Rattle.std.proofs.Common.{◌≡◌, map, slice_get}
use Rattle.std.specs.List.{filter_map, range_with_len}
use Rattle.std.specs.Option.{option_and_then}
use Rattle.jm_archive.specs.Cuts.{candidate_of, cut_of}
use Rattle.jm_archive.proofs.files.cuts_of.Given as goal

abbrev pub invariant-loop-place : goal.invariant-loop-place
invariant-loop-place l =
    map candidate_of l.cuts
    ≡ filter_map (λ place. option_and_then (cut_of l.kind place) (slice_get l.names place)) (range_with_len 0 l.place)
