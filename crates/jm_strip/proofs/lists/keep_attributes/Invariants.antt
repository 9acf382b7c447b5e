use Rattle.std.proofs.Common.{◌≡◌, ◌-◌, ◌≤◌}
use Rattle.jm_class.specs.Classes.{opaque_text}
use Rattle.jm_class.specs.ClassLayout.{opaque_field}
use Rattle.jm_class.specs.Layouts.{reading}
use Rattle.jm_class.specs.Readings.{counted}
use Rattle.jm_class.specs.Views.{fault_at}
use Rattle.jm_strip.specs.Strip.{stays}
use Rattle.jm_strip.specs.Walks.{shown, filtered}
use Rattle.jm_strip.proofs.Kept.{with_kept}
use Rattle.jm_strip.proofs.lists.keep_attributes.Given as goal

abbrev pub invariant-loop-k : goal.invariant-loop-k
invariant-loop-k l =
    (l.kept ≤ l._k)
    × (shown (filtered opaque_text (λ a. stays l.in_code l.pool a.name) l.initial.text.items)
    (counted l.count (reading (fault_at l.missing) (opaque_field l.pool)) l.initial.cursor)
    ≡ shown (with_kept opaque_text (λ a. stays l.in_code l.pool a.name) (l.text.items, l.kept))
    (counted (l.count - l._k) (reading (fault_at l.missing) (opaque_field l.pool)) l.cursor))
