-- What is printed of the faults of plans.
use Rattle.std.specs.Prelude.{ℕ, List, ◌++◌, codes, decimal}
use Rattle.plan_runner.specs.declared.armed.ArmFault.{ArmFault}
use Rattle.plan_runner.specs.declared.armed.ArmFault.TheVariants.{TableChanged}
use Rattle.plan_runner.specs.declared.verify_fault.CommandPlace.{CommandPlace}
use Rattle.plan_runner.specs.declared.verify_fault.VerifyFault.{VerifyFault}
use Rattle.plan_runner.specs.declared.verify_fault.VerifyFault.TheVariants as fault

-- as `slot 3300 command 1`
abbrev pub place_text : CommandPlace → List ℕ
place_text p = codes "slot " ++ decimal p.slot ++ codes " command " ++ decimal p.command

-- the number and the name before the place, as `2 NotOwner slot 3300 command 1`
abbrev pub verify_fault_text : VerifyFault → List ℕ
verify_fault_text (fault.UnknownNode place) = codes "1 UnknownNode " ++ place_text place
verify_fault_text (fault.NotOwner place) = codes "2 NotOwner " ++ place_text place
verify_fault_text (fault.SameNode place) = codes "3 SameNode " ++ place_text place
verify_fault_text (fault.OutOfOrder place) = codes "4 OutOfOrder " ++ place_text place
verify_fault_text (fault.WrongNode place) = codes "5 WrongNode " ++ place_text place
verify_fault_text (fault.MovedTwice place) = codes "6 MovedTwice " ++ place_text place
verify_fault_text (fault.LeftOpen place) = codes "7 LeftOpen " ++ place_text place
verify_fault_text fault.Memory = codes "8 Memory"

-- the number and the name
abbrev pub arm_fault_text : ArmFault → List ℕ
arm_fault_text TableChanged = codes "1 TableChanged"
