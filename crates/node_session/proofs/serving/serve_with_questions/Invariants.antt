use Rattle.std.proofs.Common.{◌≡◌, List, ℕ, map, false}
use Rattle.resp2_wire.specs.Stream.{Gave, Ends}
use Rattle.resp2_wire.specs.declared.fault.Stop.TheVariants.{Unfinished}
use Rattle.node_session.specs.Talk.{Exchange, request_of, asks, texts}
use Rattle.node_session.specs.Conversations.{Conversation}
use Rattle.node_session.specs.Ends.{GoOn}
use Rattle.node_session.proofs.serving.serve_with_questions.Given as goal

abbrev pub invariant-loop : goal.invariant-loop
invariant-loop g l = (input : List ℕ) × (xs : List Exchange)
    × g.R.ByteIn.gave l.initial.reader l.counter input l.reader
    × Conversation (record { sends = g.P.NodePort.sends; node = l.node; before = l.initial.port; after = l.port })
    (record { hears = g.Q.Questions.hears; tells = g.Q.Questions.tells; before = l.initial.questions; after = l.questions })
    (record { took = g.W.ByteOut.took; failures = g.W.ByteOut.failures; before = l.initial.writer; after = l.writer })
    (record { asking = false; exchanges = xs; out = texts xs; sent_before = 0; sent = l.sent })
    × (l.asking ≡ asks false xs)
    × Gave input (map request_of xs) l.decoder
    × Ends l.decoder Unfinished
    × (g.W.ByteOut.failures l.writer ≡ g.W.ByteOut.failures l.initial.writer)
    × (g.R.ByteIn.failures l.reader ≡ g.R.ByteIn.failures l.initial.reader)
    × (g.R.ByteIn.ends l.reader ≡ g.R.ByteIn.ends l.initial.reader)
    × (g.P.NodeCount.count l.port ≡ g.P.NodeCount.count l.initial.port)
    × GoOn xs
