use Rattle.std.proofs.Common.{◌≡◌, ◌<◌, List, None, get_or, subst, sym, ◌∙◌}
use Rattle.std.specs.Prelude.{IsSome}
use Rattle.std.proofs.lemmas.List.Sorted.{All-permutation}
use Rattle.cluster_survey.specs.Addresses.{place_of}
use Rattle.cluster_survey.specs.Arranging.{arranged, names_fault}
use Rattle.cluster_survey.specs.Masters.{AreAddressed}
use Rattle.server_commands.specs.declared.book.Server.{Server}
use Rattle.cluster_survey.proofs.Arranged.{all_within, arranged_are}
use Rattle.cluster_survey.proofs.arranging.book_of.Goals as goal

pub arrange-requires : goal.arrange-requires
arrange-requires c k d lt =
    let fine = subst (λ (ss : List Server). names_fault c.args.lines.now ss c.args.names.now ≡ None) c.as_slice.ensures.value
    (sym c.names_fault.ensures ∙ c.in_default.is) in
    subst (λ n. (get_or c.args.names.now k d).0 < n) (sym c.in_ok-servers.servers.ok.0)
    (all_within c.args.lines.now c.in_ok-servers.servers.items c.args.names.now fine k d lt)

pub returns-clause-addressed : goal.returns-clause-addressed
returns-clause-addressed c =
    let fine = subst (λ (ss : List Server). names_fault c.args.lines.now ss c.args.names.now ≡ None) c.as_slice.ensures.value
    (sym c.names_fault.ensures ∙ c.in_default.is) in
    let sorted = c.in_ok-servers.servers.items in
    subst AreAddressed (sym (c.of.ensures ∙ c.arrange.ensures.value))
    (All-permutation (λ (s : Server). IsSome (place_of s)) sorted (arranged c.args.names.now sorted)
    (arranged_are c.args.lines.now sorted c.args.names.now fine) c.in_ok-servers.ensures.masters.order.addressed)
