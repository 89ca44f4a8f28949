use Rattle.std.proofs.Common.{rules, not, sym, ap, ◌∙◌}
use Rattle.std.proofs.lemmas.Map.Made.{filter_same_pairs}
use Rattle.typed_values.proofs.OnePass.{map-filter, fields_in_one_pass}
use Rattle.typed_values.specs.Fields.{fields_of}
use Rattle.typed_values.specs.Members.{has}
use Rattle.typed_values.proofs.fields.keep_others.Goals as goal

pub returns : goal.returns
returns c =
    let names = c.args.names.now in
    let old = c.args.map.now.entries in
    ap fields_of (filter_same_pairs _ (λ e. not (has names e.0.items)) _ (λ k v b w g call. search rules) old _ c.retain.ensures.filtered)
    ∙ map-filter (λ e. (e.0.items, e.1.items)) (λ e. not (has names e.0)) old
    ∙ sym (fields_in_one_pass (fields_of old) names c.requires)
