-- The administrator's seat as its holder has it.
use Rattle.cluster_admin.specs.declared.call.AdminCall.{AdminCall}
use Rattle.cluster_world.specs.declared.event.Event.{Event}
use Rattle.cluster_world.specs.declared.event.Event.TheVariants.{Admin}

-- the administrator's call as an event
abbrev pub event_of : AdminCall → Event
event_of c = Admin c.node c.command c.reply
