-- What the administrator's calls tell of owners and marks: the survey after them, from one that was made before and
-- their replies alone.
use Rattle.std.specs.Prelude.{ℕ, cond, ◌==◌, List, [], ◌∷◌, slice_set}
use Rattle.std.specs.FinMap as finite
use Rattle.cluster_admin.specs.declared.admin.AdminCommand.{AdminCommand}
use Rattle.cluster_admin.specs.declared.admin.AdminCommand.TheVariants.{Importing, Migrating, SetNode, Stable}
use Rattle.cluster_admin.specs.declared.admin.AdminReply.{AdminReply}
use Rattle.cluster_admin.specs.declared.admin.AdminReply.TheVariants as reply
use Rattle.cluster_admin.specs.Surveys.{Row, Survey, row_at}
use Rattle.cluster_admin.specs.declared.call.AdminCall.{AdminCall}

-- the owners and marks of the node `me` after an accepted command
abbrev pub row_after : (me : ℕ) → Row → AdminCommand → Row
row_after me r (Importing s m) =
    record { owners = r.owners; migrating = r.migrating; importing = finite.insert r.importing s m }
row_after me r (Migrating s m) =
    record { owners = r.owners; migrating = finite.insert r.migrating s m; importing = r.importing }
row_after me r (SetNode s m) = record {
  owners = slice_set r.owners s m;
  migrating = cond (m == me) r.migrating (finite.remove r.migrating s);
  importing = cond (m == me) (finite.remove r.importing s) r.importing;
}
row_after me r (Stable s) =
    record { owners = r.owners; migrating = finite.remove r.migrating s; importing = finite.remove r.importing s }
row_after me r command = r

-- after a command with this reply
abbrev pub survey_told : Survey → (node : ℕ) → AdminCommand → AdminReply → Survey
survey_told v n c reply.Ok = record { rows = slice_set v.rows n (row_after n (row_at v n) c) }
survey_told v n c r = v

-- after calls, in order
abbrev pub survey_after : Survey → List AdminCall → Survey
survey_after v [] = v
survey_after v (c ∷ cs) = survey_after (survey_told v c.node c.command c.reply) cs
