use Rattle.std.proofs.Common.{◌≡◌, List, drop}
use Rattle.std.specs.Prelude.{Result, vec_len}
use Rattle.cluster_views.specs.declared.fault.SurveyFault.{SurveyFault}
use Rattle.slot_key_counts.specs.Rounds.{HearsBatch, Told, talk}
use Rattle.slot_key_counts.specs.Tables.{told_in}
use Rattle.server_links.specs.declared.link.Link as link
use Rattle.slot_key_counts.proofs.batches.hear_batch.Given as goal

-- what becomes of the replies that are left becomes of all
abbrev pub invariant-loop-place : goal.invariant-loop-place
invariant-loop-place g l =
    ((r : Result Told SurveyFault) (links' : List (link.Link g.row.I.Denot g.row.O.Denot))
    → HearsBatch (talk (record { gave = g.I.ByteIn.gave; took = g.O.ByteOut.took })) l.node (drop l.place l.slots)
    (told_in l.table) l.links.items r links'
    → HearsBatch (talk (record { gave = g.I.ByteIn.gave; took = g.O.ByteOut.took })) l.node l.slots
    (told_in l.initial.table) l.initial.links.items r links')
    × (l.table.nodes ≡ l.initial.table.nodes) × (vec_len l.links ≡ vec_len l.initial.links)
