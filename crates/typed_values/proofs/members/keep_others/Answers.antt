use Rattle.std.proofs.Common.{rules, not, sym, ap, ◌∙◌}
use Rattle.std.proofs.lemmas.Fn.{filter_same}
use Rattle.typed_values.proofs.OnePass.{map-filter, members_in_one_pass}
use Rattle.typed_values.specs.Members.{has, members_of}
use Rattle.typed_values.proofs.members.keep_others.Goals as goal

pub returns : goal.returns
returns c =
    let texts = c.args.texts.now in
    let old = c.args.set.now.keys in
    ap members_of (filter_same _ (λ m. not (has texts m.items)) _ (λ m b g call. search rules) old _ c.retain.ensures.filtered)
    ∙ map-filter (λ m. m.items) (λ m. not (has texts m)) old
    ∙ sym (members_in_one_pass (members_of old) texts c.requires)
