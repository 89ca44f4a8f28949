-- What is printed of slots that are in no phase: what stands there, and what to do by hand.
use Rattle.std.specs.Prelude.{ℕ, List, ◌++◌, codes, decimal, Option, None, Some}
use Rattle.plan_language.specs.Texts.{node_text}
use Rattle.server_phases.specs.declared.phase_fault.PhaseFault.{PhaseFault}
use Rattle.server_phases.specs.declared.phase_fault.PhaseFault.TheVariants as fault
use Rattle.server_phases.specs.declared.strangeness.Strangeness.{Strangeness}
use Rattle.server_phases.specs.declared.strangeness.Strangeness.TheVariants as kind

-- `from n0 to n1`
abbrev pub course_text : (source target : ℕ) → List ℕ
course_text a b = codes "from " ++ (node_text a ++ (codes " to " ++ node_text b))

-- what stands at a slot, after its number
abbrev pub strangeness_text : Strangeness → List ℕ
strangeness_text (kind.TwoMigrate a b) = codes "migrates from " ++ (node_text a ++ (codes " and from " ++ node_text b))
strangeness_text (kind.TwoImport a b) = codes "is imported by " ++ (node_text a ++ (codes " and by " ++ node_text b))
strangeness_text (kind.TwoOwners o a m) = codes "is " ++ (node_text o ++ (codes "'s by n0 and " ++ (node_text m ++ (
    codes "'s by " ++ node_text a))))
strangeness_text (kind.WithoutSlots o a) = codes "of " ++ (node_text o ++ (codes " has a migrating mark at " ++ (
    node_text a ++ codes ", which has no slots")))
strangeness_text (kind.Crossed o c i f) = codes "of " ++ (node_text o ++ (codes " migrates " ++ (
    course_text c.source c.target ++ (codes ", and " ++ (node_text i ++ (codes " imports it from " ++ node_text f))))))
strangeness_text (kind.NotImported a b) = codes "migrates from " ++ (node_text a ++ (codes " to " ++ (
    node_text b ++ codes ", which does not import it")))
strangeness_text (kind.StrayMigrating o a) = codes "of " ++ (node_text o ++ (codes " has a migrating mark at "
    ++ node_text a))
strangeness_text (kind.OtherSource o f a) = codes "of " ++ (node_text o ++ (codes " is imported by " ++ (
    node_text a ++ (codes " from " ++ node_text f))))
strangeness_text (kind.OwnerImports o) = codes "is imported by " ++ (node_text o ++ codes ", its owner")

-- the node without slots that has a mark of the slot, if that is what is told
abbrev pub without_slots : Strangeness → Option ℕ
without_slots (kind.WithoutSlots o a) = Some a
without_slots k = None

-- `slot 24 migrates from n0 to n1, which does not import it`, or `n3 has no slots and a mark of slot 24`
abbrev pub standing_by : (slot : ℕ) → Strangeness → Option ℕ → List ℕ
standing_by s k None = codes "slot " ++ (decimal s ++ (codes " " ++ strangeness_text k))
standing_by s k (Some a) = node_text a ++ (codes " has no slots and a mark of slot " ++ decimal s)

abbrev pub standing_text : (slot : ℕ) → Strangeness → List ℕ
standing_text s k = standing_by s k (without_slots k)

-- what to do by hand
abbrev pub remedy_text : (slot : ℕ) → Strangeness → List ℕ
remedy_text s (kind.TwoMigrate a b) =
    codes "CLUSTER SETSLOT " ++ (decimal s ++ (codes " STABLE at the one that does not own it, and survey again"))
remedy_text s (kind.TwoImport a b) =
    codes "CLUSTER SETSLOT " ++ (decimal s ++ (
    codes " STABLE at the one that holds no key of it, and survey again"))
remedy_text s (kind.TwoOwners o a m) =
    codes "CLUSTER SETSLOT " ++ (decimal s ++ (
    codes " NODE with the ID of the node that holds its keys, at that node first"))
remedy_text s (kind.WithoutSlots o a) =
    codes "CLUSTER SETSLOT " ++ (decimal s ++ (codes " STABLE at " ++ (node_text a ++ (
    codes ", then CLUSTER REPLICATE with " ++ (node_text o ++ (codes "'s ID if " ++ (node_text o ++ (
    codes " has replaced it, and survey again"))))))))
remedy_text s (kind.Crossed o c i f) =
    codes "CLUSTER SETSLOT " ++ (decimal s ++ (codes " STABLE at each that holds no key of it, and survey again"))
remedy_text s (kind.NotImported a b) =
    codes "CLUSTER SETSLOT " ++ (decimal s ++ (codes " IMPORTING with " ++ (node_text a ++ (
    codes "'s ID at " ++ (node_text b ++ (codes ", and survey again"))))))
remedy_text s (kind.StrayMigrating o a) =
    codes "CLUSTER SETSLOT " ++ (decimal s ++ (codes " STABLE at " ++ (node_text a ++ (
    codes ", and survey again"))))
remedy_text s (kind.OtherSource o f a) =
    codes "CLUSTER SETSLOT " ++ (decimal s ++ (codes " IMPORTING with " ++ (node_text o ++ (
    codes "'s ID at " ++ (node_text a ++ (codes ", then MIGRATING with " ++ (node_text a ++ (
    codes "'s ID at " ++ (node_text o ++ (codes ", and survey again"))))))))))
remedy_text s (kind.OwnerImports o) =
    codes "CLUSTER SETSLOT " ++ (decimal s ++ (codes " STABLE at " ++ (node_text o ++ (
    codes ", and survey again"))))

abbrev pub strange_text : (slot : ℕ) → Strangeness → List ℕ
strange_text s k = standing_text s k ++ (codes ": " ++ remedy_text s k)

abbrev pub fault_text : PhaseFault → List ℕ
fault_text fault.Memory = codes "out of memory"
fault_text (fault.Strange s k) = strange_text s k
