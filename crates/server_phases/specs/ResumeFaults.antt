-- What is printed where there is no plan that resumes.
use Rattle.std.specs.Prelude.{ℕ, List, ◌++◌, codes, decimal}
use Rattle.server_phases.specs.declared.resume_fault.ResumeFault.{ResumeFault}
use Rattle.server_phases.specs.declared.resume_fault.ResumeFault.TheVariants as fault

abbrev pub resume_fault_text : ResumeFault → List ℕ
resume_fault_text fault.Strange = codes "a slot is in no phase"
resume_fault_text fault.NoMove = codes "a line is no move"
resume_fault_text fault.Beyond = codes "a line names a node that the cluster does not have"
resume_fault_text (fault.TooLong most) = codes "more than " ++ (decimal most ++ codes " commands")
resume_fault_text fault.Memory = codes "out of memory"
