-- What servers print: the plan's count, the ports, the plan's end, and the events of the trail, each on a line.
use Rattle.std.specs.Prelude.{◌≡◌, ◌⊎◌, ℕ, List, [], ◌++◌, codes, decimal, length, Option, None, Some}
use Rattle.loopback_servers.specs.declared.options.ServeOptions.{ServeOptions}
use Rattle.loopback_servers.specs.declared.plan_beside.PlanEnd.{PlanEnd}
use Rattle.loopback_servers.specs.declared.plan_beside.PlanEnd.TheVariants.{Done, Stopped, NotArmed}
use Rattle.plan_language.specs.declared.plan_command.PlanCommand.{PlanCommand}
use Rattle.plan_runner.specs.Faults.{arm_fault_text}
use Rattle.transcripts.specs.OutcomeTexts.{done_text, refused_text, stopped_text, verified_text}
use Rattle.transcripts.specs.Writing.{Writes}

-- the text was written, and no write failed
abbrev pub Announces : {W : Type 0} → (took : W → List ℕ → W → Type 0) → (failures : W → ℕ) → (text : List ℕ) → W → W
    → Type 0
Announces took failures text old new = took old text new × (failures new ≡ failures old)

-- nothing was written, or the text was, whole or up to a write that failed
abbrev pub MayWrite : {W : Type 0} → (took : W → List ℕ → W → Type 0) → (failures : W → ℕ) → (text : List ℕ) → W → W
    → Type 0
MayWrite took failures text old new = (new ≡ old) ⊎ Writes took failures text old new

abbrev pub serving_text : (nodes port : ℕ) → List ℕ
serving_text nodes port =
    codes "serving " ++ (decimal nodes ++ (codes " nodes from port " ++ (decimal port ++ codes "\n")))

abbrev pub closed_text : (events : ℕ) → List ℕ
closed_text events = codes "closed " ++ decimal events ++ codes " events\n"

-- of a plan that was verified; nothing where there is none
abbrev pub verified_line : Option (List PlanCommand) → List ℕ
verified_line None = []
verified_line (Some plan) = verified_text (length plan)

-- of a plan that was run to its end by so many calls; nothing where there is none
abbrev pub done_line : Option (List PlanCommand) → (calls : ℕ) → List ℕ
done_line None calls = []
done_line (Some plan) calls = done_text calls

-- how a plan ended, and the status of that
abbrev pub end_text : PlanEnd → List ℕ
end_text (Done calls) = done_text calls
end_text (Stopped calls cause) = stopped_text calls cause
end_text (NotArmed fault) = refused_text (arm_fault_text fault)

abbrev pub end_status : PlanEnd → ℕ
end_status (Done calls) = 0
end_status (Stopped calls cause) = 1
end_status (NotArmed fault) = 1

-- from the ports to the trail's events
abbrev pub served_text : ServeOptions → Option (List PlanCommand) → (calls events : ℕ) → List ℕ
served_text options plan calls events =
    serving_text options.nodes options.base_port ++ done_line plan calls ++ closed_text events
