-- How much of a plan was done, by the commands that were answered.
use Rattle.std.specs.Prelude.{◌≡◌, ℕ, ◌+◌, ◌-◌, ◌*◌, ◌%◌, ◌^◌, cond, ◌==◌, length}
use Rattle.cluster_admin.specs.declared.admin.AdminCommand.TheVariants.{Importing, Migrate, SetNode, Stable}
use Rattle.cluster_admin.specs.declared.admin.AdminCommand.{AdminCommand}
use Rattle.cluster_admin.specs.declared.admin.AdminReply.{AdminReply}
use Rattle.cluster_admin.specs.declared.admin.AdminReply.TheVariants as reply
use Rattle.plan_semantics.specs.declared.order.Order.{Order}
use Rattle.server_runs.specs.declared.counts.Counts.{Counts}
use Rattle.server_runs.specs.declared.kind.Kind.{Kind}
use Rattle.server_runs.specs.declared.kind.Kind.TheVariants.{Opens, TakesBack, Moves, HandsOver, Tells, Other}

abbrev pub kind_at : (node : ℕ) → AdminCommand → Kind
kind_at n (Importing s m) = Opens
kind_at n (Stable s) = TakesBack
kind_at n (Migrate ks m) = Moves (length ks)
kind_at n (SetNode s m) = cond (m == n) HandsOver Tells
kind_at n c = Other

abbrev pub kind_of : Order → Kind
kind_of o = kind_at o.node o.command

abbrev pub no_counts : Counts
no_counts = record { commands = 0; keys = 0; opened = 0; taken_back = 0; handed_over = 0; told = 0 }

-- so many slots were open before the plan, of which so many nodes were told the new owner
abbrev pub open_counts : (opened told : ℕ) → Counts
open_counts opened told = record no_counts { opened = opened; told = told }

-- a number of 64 bits with so many more
abbrev pub plus : (count more : ℕ) → ℕ
plus n m = (n + m) % 2 ^ 64

-- a command of this kind was done
abbrev pub done : Kind → Counts → Counts
done Opens c = record c { opened = plus c.opened 1 }
done TakesBack c = record c { taken_back = plus c.taken_back 1 }
done (Moves n) c = record c { keys = plus c.keys n }
done HandsOver c = record c { handed_over = plus c.handed_over 1; told = plus c.told 1 }
done Tells c = record c { told = plus c.told 1 }
done Other c = c

abbrev pub answered : Counts → Counts
answered c = record c { commands = plus c.commands 1 }

-- a command of this kind was answered so
abbrev pub counted : Kind → AdminReply → Counts → Counts
counted k reply.Ok c = done k (answered c)
counted k r c = answered c

-- every node was told once for each slot that was opened and not taken back
abbrev pub AreClosed : (nodes : ℕ) → Counts → Type 0
AreClosed n c = (c.opened - c.taken_back) * n ≡ c.told
