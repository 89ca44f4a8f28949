-- Where out of memory may stand in the place of a command's reply.
use Rattle.std.specs.Prelude.{◌⊎◌}
use Rattle.resp2_wire.specs.declared.reply.Reply.{Reply}
use Rattle.resp2_wire.specs.declared.reply.Reply.TheVariants.{Number, Null, NullArray}
use Rattle.store_commands.specs.Apply.{answer}
use Rattle.store_commands.specs.Store.{Store}
use Rattle.store_commands.specs.declared.effect.Effect.{Effect}
use Rattle.store_commands.specs.declared.effect.Effect.TheVariants.{Nothing}
use Rattle.client_commands.specs.declared.command.Command.{Command}
use Rattle.client_commands.specs.declared.command.Command.TheVariants as command
use Rattle.client_commands.specs.declared.command.TextCommand.{TextCommand}
use Rattle.client_commands.specs.declared.command.TextCommand.TheVariants.{Get, StrLen}
use Rattle.client_commands.specs.declared.command.HashCommand.{HashCommand}
use Rattle.client_commands.specs.declared.command.HashCommand.TheVariants.{HGet, HLen, HExists, HGetAll}
use Rattle.client_commands.specs.declared.command.ListCommand.{ListCommand}
use Rattle.client_commands.specs.declared.command.ListCommand.TheVariants.{LLen, LRange}
use Rattle.client_commands.specs.declared.command.SetCommand.{SetCommand}
use Rattle.client_commands.specs.declared.command.SetCommand.TheVariants.{SIsMember, SCard, SMembers}

-- The reply has memory of its own: it is a text or a list, as each refusal is.
abbrev pub IsMade : Reply → Type 0
IsMade (Number n) = ⊥
IsMade Null = ⊥
IsMade NullArray = ⊥
IsMade r = Unit {0}

-- there is something to be done
abbrev pub HasWork : Effect → Type 0
HasWork Nothing = ⊥
HasWork e = Unit {0}

-- the command does not only look at what stands at its key
abbrev pub WritesText : TextCommand → Type 0
WritesText Get = ⊥
WritesText StrLen = ⊥
WritesText c = Unit {0}

abbrev pub WritesHash : HashCommand → Type 0
WritesHash (HGet f) = ⊥
WritesHash HLen = ⊥
WritesHash (HExists f) = ⊥
WritesHash HGetAll = ⊥
WritesHash c = Unit {0}

abbrev pub WritesList : ListCommand → Type 0
WritesList LLen = ⊥
WritesList (LRange a b) = ⊥
WritesList c = Unit {0}

abbrev pub WritesSet : SetCommand → Type 0
WritesSet (SIsMember m) = ⊥
WritesSet SCard = ⊥
WritesSet SMembers = ⊥
WritesSet c = Unit {0}

abbrev pub Writes : Command → Type 0
Writes (command.OnText k c) = WritesText c
Writes (command.OnHash k c) = WritesHash c
Writes (command.OnList k c) = WritesList c
Writes (command.OnSet k c) = WritesSet c
Writes (command.TypeOf k) = ⊥
Writes (command.Exists ks) = ⊥
Writes (command.MGet ks) = ⊥
Writes c = Unit {0}

-- Out of memory may come in the place of this reply: the command writes, or the reply is made. One that only looks, and
-- is answered by a number or Null, takes no memory.
abbrev pub MayTakeMemory : Store → Command → Type 0
MayTakeMemory s c = Writes c ⊎ IsMade (answer s c)
