-- What is printed of a client's faults: the number and the name.
use Rattle.std.specs.Prelude.{ℕ, List, ◌++◌, codes}
use Rattle.cluster_admin.specs.Faults.{fault_text}
use Rattle.redirect_client.specs.declared.client_fault.ClientFault.{ClientFault}
use Rattle.redirect_client.specs.declared.client_fault.ClientFault.TheVariants.{TooManySends, BadRedirect, Port, Memory}

abbrev pub client_fault_text : ClientFault → List ℕ
client_fault_text TooManySends = codes "1 TooManySends"
client_fault_text BadRedirect = codes "2 BadRedirect"
client_fault_text (Port f) = codes "3 Port: " ++ fault_text f
client_fault_text Memory = codes "4 Memory"
