use Rattle.loopback_servers.proofs.questions.SessionQuestions.show.Goals as goal

pub returns : goal.returns
returns g c = (c.read.ensures.0, c.read.ensures.1, c.read.ensures.2, rw c.base_port.ensures.value at c.read.ensures.3)
