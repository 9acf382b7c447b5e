use Rattle.std.proofs.Common.{◌≡◌, ◌<◌, IfSome, drop, length}
use Rattle.std.specs.Option.{option_or}
use Rattle.jm_archive.specs.Places.{is_manifest, last_place}
use Rattle.jm_archive.proofs.places.last_manifest.Given as goal

-- the last of the names that are left, or else the last so far
abbrev pub invariant-loop-place : goal.invariant-loop-place
invariant-loop-place l = record {
  last : option_or (last_place is_manifest l.place (drop l.place l.names)) l.last ≡ last_place is_manifest 0 l.names;
  within : IfSome l.last (λ place. place < length l.names);
}
