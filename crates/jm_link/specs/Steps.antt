-- What a step of a `link` answers, and why it ends the work (this project's rule).
use Rattle.std.specs.Prelude.{ℕ, List, Result, Ok, Err}
use Rattle.jm_bytes.specs.declared.faults.Or.{Or}
use Rattle.jm_bytes.specs.declared.faults.Or.TheVariants as or
use Rattle.jm_modpath.specs.declared.refusal.PathStop.{PathStop}
use Rattle.jm_modpath.specs.declared.refusal.PathStop.TheVariants as path_stop
use Rattle.jm_outside.specs.declared.shelf.ShelfError.{ShelfError}
use Rattle.jm_outside.specs.declared.shelf.ShelfError.TheVariants as outside
use Rattle.jm_texts.specs.declared.refusal.Refusal.{Refusal}
use Rattle.jm_texts.specs.declared.refusal.Refusal.TheVariants as refusal
use Rattle.jm_writer.specs.declared.draft.PlanFault.{PlanFault}
use Rattle.jm_writer.specs.declared.draft.PlanFault.TheVariants as plan
use Rattle.jm_modset.specs.declared.contents.ReadStop.{ReadStop}
use Rattle.jm_modset.specs.declared.contents.ReadStop.TheVariants as read_stop
use Rattle.jm_modset.specs.Found.{path_refusal_as}
use Rattle.jm_link.specs.declared.linking.LinkStop.{LinkStop}
use Rattle.jm_link.specs.declared.linking.LinkStop.TheVariants as stop

-- by why a step ended the work: what holds of its refusal; what shows that a listed file isn't
-- there; what shows that a call of the shelf failed; no memory
abbrev pub StepStops : (Refusal → Type 0) → (Absent Fails : Type 0) → LinkStop → Type 0
StepStops Refuses Absent Fails (stop.Refused refusal) = Refuses refusal
StepStops Refuses Absent Fails (stop.NotThere listed) = Absent
StepStops Refuses Absent Fails stop.Outside = Fails
StepStops Refuses Absent Fails stop.Memory = Unit {0}

-- by the answer of a step: what holds of all that it gives, or of why it ended the work
abbrev pub StepGives : {A : Type 0} → (A → Type 0) → (Refusal → Type 0) → (Absent Fails : Type 0)
    → Result A LinkStop → Type 0
StepGives Gives Refuses Absent Fails (Ok given) = Gives given
StepGives Gives Refuses Absent Fails (Err stop) = StepStops Refuses Absent Fails stop

-- a fact after a step, unless the outside failed or no memory was found
abbrev pub AfterStep : {A : Type 0} → Type 0 → Result A LinkStop → Type 0
AfterStep Fact answer = StepGives (λ given. Fact) (λ refusal. Fact) Fact (Unit {0}) answer

-- the path of the listed file that isn't there is such a one, if a step ended so
abbrev pub LacksBy : (List ℕ → Type 0) → LinkStop → Type 0
LacksBy Such (stop.Refused refusal) = Unit {0}
LacksBy Such (stop.NotThere listed) = Such listed
LacksBy Such stop.Outside = Unit {0}
LacksBy Such stop.Memory = Unit {0}

-- the same by the answer of a step
abbrev pub Lacks : {A : Type 0} → (List ℕ → Type 0) → Result A LinkStop → Type 0
Lacks Such (Ok given) = Unit {0}
Lacks Such (Err stop) = LacksBy Such stop

-- why a fault ends the work, which is refused so, or want of memory
abbrev pub stop_of_fault : {F : Type 0} → (F → Refusal) → Or F → LinkStop
stop_of_fault refusal_of (or.Fault fault) = stop.Refused (refusal_of fault)
stop_of_fault refusal_of or.Memory = stop.Memory

-- why a call of a shelf ends the work
abbrev pub stop_of : ShelfError → LinkStop
stop_of outside.Failed = stop.Outside
stop_of outside.Memory = stop.Memory

-- why a search for modules ends the work
abbrev pub stop_of_path : PathStop → LinkStop
stop_of_path (path_stop.Refused given) = stop.Refused (path_refusal_as given)
stop_of_path (path_stop.NotThere path) = stop.NotThere path
stop_of_path path_stop.Outside = stop.Outside
stop_of_path path_stop.Memory = stop.Memory

-- why reading contents ends the work
abbrev pub stop_of_read : ReadStop → LinkStop
stop_of_read (read_stop.NotThere path) = stop.NotThere path
stop_of_read read_stop.Outside = stop.Outside
stop_of_read read_stop.Memory = stop.Memory

-- the fault of a plan as the refusal of a link
abbrev pub plan_refusal : PlanFault → Refusal
plan_refusal (plan.Clash name) = refusal.Clash name
plan_refusal (plan.TooMany count) = refusal.TooMany count
plan_refusal (plan.NoTable lengths) = refusal.NoTable lengths
plan_refusal (plan.TooLarge length) = refusal.TooLarge length
