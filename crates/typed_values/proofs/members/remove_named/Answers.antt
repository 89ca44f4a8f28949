use Rattle.std.proofs.Common.{◌∙◌}
use Rattle.typed_values.proofs.OnePass.{members_without-permuted}
use Rattle.typed_values.proofs.members.remove_named.Goals as goal

pub returns-else-count-lt2 : goal.returns-else-count-lt2
returns-else-count-lt2 c = c.keep_others-else-count-lt2.ensures ∙ members_without-permuted _ c.args.texts.items _ c.requires c.from_vec.ensures
