-- What the administrator's calls tell of owners and marks: how many nodes there are stays.
use Rattle.std.proofs.Common.{◌≡◌, ℕ, List, [], ◌∷◌, length, refl, ◌∙◌}
use Rattle.std.proofs.lemmas.List.{length-set}
use Rattle.cluster_admin.specs.declared.admin.AdminCommand.{AdminCommand}
use Rattle.cluster_admin.specs.declared.admin.AdminReply.{AdminReply}
use Rattle.cluster_admin.specs.declared.admin.AdminReply.TheVariants as reply
use Rattle.cluster_admin.specs.Surveys.{Survey, row_at}
use Rattle.cluster_admin.specs.Telling.{row_after, survey_told, survey_after}
use Rattle.cluster_admin.specs.declared.call.AdminCall.{AdminCall}

told_length : (v : Survey) (n : ℕ) (c : AdminCommand) (r : AdminReply) → length (survey_told v n c r).rows ≡ length v.rows
told_length v n c reply.Ok = length-set v.rows n (row_after n (row_at v n) c)
told_length v n c r = refl

pub after_length : (v : Survey) (cs : List AdminCall) → length (survey_after v cs).rows ≡ length v.rows
after_length v [] = refl
after_length v (c ∷ cs) = after_length (survey_told v c.node c.command c.reply) cs ∙ told_length v c.node c.command c.reply
