-- The texts of nodes that can't be listed.
use Rattle.std.specs.Prelude.{List, ℕ, ◌++◌, codes, decimal}
use Rattle.cluster_inspection.specs.declared.naming_fault.NamingFault.{NamingFault}
use Rattle.cluster_inspection.specs.declared.naming_fault.NamingFault.TheVariants as fault

-- as `the name of n12 is not one of 40 hexadecimal digits`
abbrev pub naming_fault_text : NamingFault → List ℕ
naming_fault_text fault.Memory = codes "out of memory"
naming_fault_text (fault.NoName n) =
    codes "the name of n" ++ (decimal n ++ codes " is not one of 40 hexadecimal digits")
naming_fault_text (fault.SameName n) = codes "the name of n" ++ (decimal n ++ codes " is that of another node, too")
naming_fault_text (fault.NoServer n) = codes "n" ++ (decimal n ++ codes " is no node of the cluster")
