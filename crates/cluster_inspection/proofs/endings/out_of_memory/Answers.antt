use Rattle.transcripts.proofs.Writings.{written}
use Rattle.cluster_inspection.proofs.endings.out_of_memory.Goals as goal

pub returns-clause-wrote : goal.returns-clause-wrote
returns-clause-wrote g c = written g.W.ByteOut.took g.W.ByteOut.failures _ c.args.writer.now
    c.write_whole-written.new.writer c.write_whole-written.result c.write_whole-written.ensures.wrote
    c.write_whole-written.ensures.failed
