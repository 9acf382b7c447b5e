use Rattle.std.proofs.Common.{◌≡◌, ◌-◌, false}
use Rattle.jm_class.specs.declared.class.ClassFault.TheVariants.{Short}
use Rattle.jm_class.specs.ClassLayout.{member_field}
use Rattle.jm_class.specs.Layouts.{listed, reading}
use Rattle.jm_class.specs.Readings.{counted}
use Rattle.jm_strip.specs.Walks.{shown, nothing}
use Rattle.jm_strip.proofs.skips.skip_fields.Given as goal

abbrev pub invariant-loop-k : goal.invariant-loop-k
invariant-loop-k l = shown nothing (reading Short (listed (member_field l.pool false)) l.fn.cursor)
    ≡ shown nothing (counted (l.count - l._k) (reading Short (member_field l.pool false)) l.cursor)
