use Rattle.std.proofs.Common.{◌≡◌, ◌<◌, map, subst, sym, ap, vec_len, ◌∙◌}
use Rattle.survey_files.specs.Numbering.{with_owner}
use Rattle.survey_files.proofs.Numbered.{exchanged_named}
use Rattle.survey_files.proofs.reading.Reading.place_at.Goals as goal

pub invariant_of-self-clause-named : goal.invariant_of-self-clause-named
invariant_of-self-clause-named c =
    let old = c.args.self.now in
    let count : vec_len old.servers ≡ _ = old.servers.ok.0 in
    exchanged_named c.args.place c.args.node (vec_len old.servers) (vec_len c.exchange_servers.new.servers) old.ranges.items
    c.in_ok-ranges.ranges.items (subst (λ n. c.args.place < n) (sym count) c.requires.place)
    (subst (λ n. c.args.node < n) (sym count) c.requires.node) old.named
    (c.in_ok-ranges.ensures ∙ ap (map (with_owner c.args.place c.args.node)) c.as_slice.ensures.value)
    c.exchange_servers.ensures.len
