-- Why a command stops that links (this project's rule).
use Rattle.jm_link.specs.declared.linking.LinkStop.{LinkStop}
use Rattle.jm_link.specs.declared.linking.LinkStop.TheVariants as link_stop
use Rattle.jm_inspect.specs.declared.complaint.Complaint.TheVariants as complaint
use Rattle.jm_inspect.specs.declared.stop.Stop.{Stop}
use Rattle.jm_inspect.specs.declared.stop.Stop.TheVariants as stop

-- why a command stops where a link did
abbrev pub stop_of_link : LinkStop → Stop
stop_of_link (link_stop.Refused refusal) = stop.Complaint (complaint.Refused refusal)
stop_of_link (link_stop.NotThere path) = stop.Complaint (complaint.NotThere path)
stop_of_link link_stop.Outside = stop.Outside
stop_of_link link_stop.Memory = stop.Memory
