-- Why a connection is gone: what a port says of it, and what is told.
use Rattle.std.specs.Prelude.{ℕ, List, codes}
use Rattle.cluster_admin.specs.declared.port_fault.PortFault.{PortFault}
use Rattle.cluster_admin.specs.declared.port_fault.PortFault.TheVariants.{Io, Wire}
use Rattle.server_links.specs.declared.link_fault.LinkFault.{LinkFault}
use Rattle.server_links.specs.declared.link_fault.LinkFault.TheVariants as fault

abbrev pub port_fault : LinkFault → PortFault
port_fault fault.Silent = Io
port_fault fault.TooLong = Wire
port_fault fault.NoReply = Wire
port_fault fault.NoMemory = Wire

abbrev pub text_of : LinkFault → List ℕ
text_of fault.Silent = codes "ended the connection, or gave no answer in time"
text_of fault.TooLong = codes "gave a longer answer than this command has"
text_of fault.NoReply = codes "answered something that is no reply"
text_of fault.NoMemory = codes "gave an answer for which there is no memory"
