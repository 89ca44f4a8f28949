use Rattle.reshard_theorem.proofs.Landed.{no_command_refused, replies_replay, one_store, clean_end}
use Rattle.reshard_theorem.proofs.laws.clients_see_one_store.Goals as goal

pub returns-clause-no_refusal : goal.returns-clause-no_refusal
returns-clause-no_refusal c = no_command_refused

pub returns-clause-replies : goal.returns-clause-replies
returns-clause-replies c = replies_replay

pub returns-clause-contents : goal.returns-clause-contents
returns-clause-contents c = one_store

pub returns-clause-end : goal.returns-clause-end
returns-clause-end c = clean_end
