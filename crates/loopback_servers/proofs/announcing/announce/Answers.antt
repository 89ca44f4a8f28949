use Rattle.transcripts.proofs.Writings.{written}
use Rattle.loopback_servers.proofs.announcing.announce.Goals as goal

pub returns-clause-wrote : goal.returns-clause-wrote
returns-clause-wrote g c =
    written g.W.ByteOut.took g.W.ByteOut.failures _ c.args.writer.now c.write_whole.new.writer c.write_whole.result
    c.write_whole.ensures.wrote c.write_whole.ensures.failed
