use Rattle.std.proofs.Common.{inl}
use Rattle.cluster_cli.proofs.program.run_usage.Goals as goal

pub returns-in-Serve-clause-ends : goal.returns-in-Serve-clause-ends
returns-in-Serve-clause-ends g c =
    let did = c.serve_words.ensures in
    rw c.in-Serve.is (inl (
      record { few = did.status; served = did.served; unserved = did.unserved; read = did.read; unfailed = did.unfailed; unread = did.unread },
      did.silent,
    ))
