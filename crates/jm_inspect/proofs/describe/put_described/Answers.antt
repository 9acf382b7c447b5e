use Rattle.std.proofs.Common.{◌≡◌, ℕ, List, Err, ap, refl, subst, sym}
use Rattle.jm_bytes.specs.Results.{IfAnswered}
use Rattle.jm_bytes.specs.declared.faults.Or.{Or}
use Rattle.jm_modinfo.specs.Descriptions.{info_for}
use Rattle.jm_modinfo.specs.declared.descriptor.Descriptor.{Descriptor}
use Rattle.jm_modinfo.specs.declared.faults.DescriptorFault.{DescriptorFault}
use Rattle.jm_inspect.specs.declared.complaint.Complaint.TheVariants as complaint
use Rattle.jm_inspect.specs.declared.stop.Stop.TheVariants as stop
use Rattle.jm_texts.specs.declared.refusal.Refusal.TheVariants as refusal
use Rattle.jm_inspect.specs.Outcome.{describe_outcome, descriptor_outcome}
use Rattle.jm_inspect.specs.Steps.{PutDoes}
use Rattle.jm_inspect.specs.Stops.{stop_of_sink}
use Rattle.jm_inspect.specs.World.{sink_at}
use Rattle.jm_inspect.proofs.PieceLaws.{text_put, text_unput}
use Rattle.jm_inspect.proofs.StepLaws.{complained, from_stop, no_memory}
use Rattle.jm_inspect.proofs.describe.put_described.Goals as goal

pub returns-in_err-put_description-in-Ok : goal.returns-in_err-put_description-in-Ok
returns-in_err-put_description-in-Ok g c =
    let unput = c.in_err-put_description-in-Ok in
    let is = from_stop c.from_residual.result (stop_of_sink unput.field-0.0) c.from_residual.ensures.1 in
    let due = ap (descriptor_outcome c.args.path.now) (sym c.in-Ok.ensures.info) in
    rw (due, is) (text_unput _ unput.field-0.0 _ _ unput.ensures)

pub returns-in_ok-put_description-in-Ok : goal.returns-in_ok-put_description-in-Ok
returns-in_ok-put_description-in-Ok g c =
    let due = ap (descriptor_outcome c.args.path.now) (sym c.in-Ok.ensures.info) in
    rw due (text_put _ _ _ c.in_ok-put_description-in-Ok.ensures)

pub returns-in_err-path-in-Err-Fault : goal.returns-in_err-path-in-Err-Fault
returns-in_err-path-in-Err-Fault g c =
    let is = from_stop c.from_residual-in_err-path-in-Err-Fault.result stop.Memory c.from_residual-in_err-path-in-Err-Fault.ensures.1 in
    rw is (no_memory _ _ _ refl)

pub returns-in_ok-path-in-Err-Fault : goal.returns-in_ok-path-in-Err-Fault
returns-in_ok-path-in-Err-Fault g c =
    let path = c.args.path.now in
    let fault = c.in-Err-Fault.fault in
    let info = subst (λ (e : Or DescriptorFault). IfAnswered {A = Descriptor} (λ r. r ≡ info_for c.args.release c.args.bytes.now) (Err e))
    c.in-Err-Fault.field-0-is c.in-Err-Fault.ensures.info in
    let due = ap (descriptor_outcome path) (sym info) in
    let now = sink_at g.O.Sink c.args.out.now in
    subst (λ (text : List ℕ). PutDoes (describe_outcome c.args.release path c.args.bytes.now)
    (Err (stop.Complaint (complaint.Refused (refusal.BadInfo text fault)))) now now) (sym c.in_ok-path-in-Err-Fault.ensures)
    (complained _ (complaint.Refused (refusal.BadInfo path fault)) now now due refl)
