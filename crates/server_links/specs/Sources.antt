-- Where the replies of a connection are read from.
use Rattle.server_links.specs.Streams.{Source}
use Rattle.server_links.specs.declared.incoming.Incoming as incoming

abbrev pub source : {I : Type 0} → incoming.Incoming I → Source I
source i = record { reader = i.reader; unread = i.unread.items }
