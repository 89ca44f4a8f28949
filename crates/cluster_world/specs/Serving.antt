-- Which commands of a run were served, and one undivided store that is given them in the same order.
use Rattle.std.specs.Prelude.{Bool, false, cond, ◌||◌, ℕ, List, [], ◌∷◌, codes, nat_eq}
use Rattle.std.specs.List.{starts_with}
use Rattle.resp2_wire.specs.declared.reply.Reply.{Reply}
use Rattle.resp2_wire.specs.declared.reply.Reply.TheVariants as reply
use Rattle.store_commands.specs.Store.{Store}
use Rattle.store_commands.specs.Apply.{answer, apply}
use Rattle.client_commands.specs.declared.command.Command.{Command}
use Rattle.cluster_world.specs.declared.event.Event.{Event}
use Rattle.cluster_world.specs.declared.event.Event.TheVariants.{Client, Look, Admin}

-- the text begins as those of MOVED, ASK, TRYAGAIN and CROSSSLOT do
abbrev pub begins_redirection : List ℕ → Bool
begins_redirection t = starts_with nat_eq t (codes "MOVED ") || starts_with nat_eq t (codes "ASK ")
    || starts_with nat_eq t (codes "TRYAGAIN ") || starts_with nat_eq t (codes "CROSSSLOT ")

unfoldable pub is_redirection : Reply → Bool
is_redirection (reply.Error t) = begins_redirection t
is_redirection (reply.Simple t) = false
is_redirection (reply.Number z) = false
is_redirection (reply.Bulk t) = false
is_redirection reply.Null = false
is_redirection reply.NullArray = false
is_redirection (reply.Array ts) = false

-- the commands that were served, with their replies
abbrev pub served : List Event → List (Command × Reply)
served [] = []
served (Client seat n asking c r ∷ es) = cond (is_redirection r) (served es) ((c, r) ∷ served es)
served (Look seat n r ∷ es) = served es
served (Admin n c r ∷ es) = served es

-- one undivided store: what it answers to the same commands, and what it is in the end
abbrev pub replay_of : Store → List (Command × Reply) → List (Command × Reply)
replay_of store [] = []
replay_of store (e ∷ es) = (e.0, answer store e.0) ∷ replay_of (apply store e.0) es

abbrev pub store_after : Store → List (Command × Reply) → Store
store_after store [] = store
store_after store (e ∷ es) = store_after (apply store e.0) es
