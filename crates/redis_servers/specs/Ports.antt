-- The port of the administrator of servers: what a call does to it.
use Rattle.std.specs.Prelude.{◌≡◌, ◌⊎◌, ℕ, true, false, List, Option, Some, Ok, Err}
use Rattle.cluster_admin.specs.declared.admin.AdminCommand.{AdminCommand}
use Rattle.cluster_admin.specs.declared.call.AdminCall.{AdminCall}
use Rattle.cluster_admin.specs.declared.port_fault.PortFault.{PortFault}
use Rattle.cluster_admin.specs.declared.port_fault.PortFault.TheVariants.{Io, Memory, Wire}
use Rattle.redis_servers.specs.Asking.{AsksNode}
use Rattle.redis_servers.specs.Calls.{Answers, is_refusal}
use Rattle.redis_servers.specs.RunHistories.{course_after}
use Rattle.redis_servers.specs.Saying.{or_lost}
use Rattle.redis_servers.specs.Unheard.{unheard_after}
use Rattle.redis_servers.specs.declared.port.ServersPort as port
use Rattle.server_links.specs.Streams.{Streams}

module _ {I O P : Type 0} (by : Streams I O) where
  -- The call with its reply leads from one state of the port to another. A port that was told a refusal has stopped.
  pub record Moves (p : port.ServersPort I O P) (c : AdminCall) (q : port.ServersPort I O P) : Type 0 where
    pub open_before : p.has_stopped ≡ false
    pub answers : Answers (AsksNode by) p.setup p.history c.node c.command p.links.items (Ok c.reply) q.said
        q.links.items
    pub setup : q.setup ≡ p.setup
    pub history : q.history ≡ course_after c.node c.command c.reply p.history
    pub stopped : q.has_stopped ≡ is_refusal c.reply
    pub unheard : q.unheard ≡ unheard_after c.node c.command c.reply q.said p.unheard

  -- The call met the fault, and the port has stopped. Something is said of that in any case.
  pub record Stops (p : port.ServersPort I O P) (n : ℕ) (c : AdminCommand) (f : PortFault) (q : port.ServersPort I O P)
      : Type 0 where
    pub open_before : p.has_stopped ≡ false
    pub answers : (said : Option (List ℕ)) × Answers (AsksNode by) p.setup p.history n c p.links.items (Err f)
        said q.links.items × (q.said ≡ Some (or_lost said))
    pub setup : q.setup ≡ p.setup
    pub history : q.history ≡ p.history
    pub stopped : q.has_stopped ≡ true
    pub unheard : q.unheard ≡ p.unheard

  -- Out of memory leaves the port as it is, with nothing sent. A port that has stopped answers Wire, and does not
  -- change.
  abbrev pub Fails : port.ServersPort I O P → ℕ → AdminCommand → PortFault → port.ServersPort I O P → Type 0
  Fails p n c Memory q = q ≡ p
  Fails p n c Io q = Stops p n c Io q
  Fails p n c Wire q = ((p.has_stopped ≡ true) × (q ≡ p)) ⊎ Stops p n c Wire q
