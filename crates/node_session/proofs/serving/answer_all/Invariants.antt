use Rattle.std.proofs.Common.{◌≡◌, List, length}
use Rattle.node_session.specs.Talk.{Exchange}
use Rattle.node_session.specs.Ends.{GoOn}
use Rattle.node_session.proofs.Answered.{Talked}
use Rattle.node_session.proofs.serving.answer_all.Given as goal

abbrev pub invariant-loop-request : goal.invariant-loop-request
invariant-loop-request g l = (g.W.ByteOut.failures l.writer ≡ g.W.ByteOut.failures l.initial.writer) × (g.P.NodeCount.count l.port ≡ g.P.NodeCount.count l.initial.port) × ((xs : List Exchange) × Talked (record { sends = g.P.NodePort.sends; node = l.node; before = l.initial.port; after = l.port })
    (record { hears = g.Q.Questions.hears; tells = g.Q.Questions.tells; before = l.initial.questions; after = l.questions })
    (record { took = g.W.ByteOut.took; failures = g.W.ByteOut.failures; before = l.initial.writer; after = l.writer })
    (record { sent_before = l.initial.sent; sent = l.sent; asking_before = l.initial.asking; asking = l.asking; left_before = l.initial.decoder; left = l.decoder }) xs × GoOn xs)

abbrev pub decreases-loop-request : goal.decreases-loop-request
decreases-loop-request g l = length l.decoder
