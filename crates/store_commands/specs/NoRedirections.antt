-- What a store's own errors look like: no redirection is among them (Redis Cluster specification, "Redirection and
-- resharding").
use Rattle.std.specs.Prelude.{◌≡◌, Bool, true, ◌||◌, codes, nat_eq}
use Rattle.std.specs.List.{starts_with}
use Rattle.resp2_wire.specs.declared.reply.Reply.{Reply}
use Rattle.resp2_wire.specs.declared.reply.Reply.TheVariants as reply
use Rattle.store_commands.specs.Store.{Store}
use Rattle.store_commands.specs.Apply.{answer}
use Rattle.client_commands.specs.declared.command.Command.{Command}

-- an error's text begins with ERR or WRONGTYPE
abbrev pub is_no_redirection : Reply → Bool
is_no_redirection (reply.Error t) = starts_with nat_eq t (codes "ERR ") || starts_with nat_eq t (codes "WRONGTYPE ")
is_no_redirection (reply.Simple t) = true
is_no_redirection (reply.Number z) = true
is_no_redirection (reply.Bulk t) = true
is_no_redirection reply.Null = true
is_no_redirection reply.NullArray = true
is_no_redirection (reply.Array ts) = true

abbrev pub AnswersAreNoRedirections : Type 0
AnswersAreNoRedirections = (s : Store) (c : Command) → is_no_redirection (answer s c) ≡ true
