-- A port that moves by calls.
use Rattle.std.proofs.Common.{List, [], ◌∷◌, ◌++◌, subst}
use Rattle.cluster_admin.specs.declared.call.AdminCall.{AdminCall}
use Rattle.byte_texts.specs.Outcomes.{Chain}

-- by these calls, and then by those
pub chain-append : {P : Type 0} (moves : P → AdminCall → P → Type 0) (cs ds : List AdminCall) (first mid last : P) → Chain moves first cs mid → Chain moves mid ds last → Chain moves first (cs ++ ds) last
chain-append moves [] ds first mid last h g = subst (λ x. Chain moves x ds last) h g
chain-append moves (c ∷ cs) ds first mid last h g = (h.0, h.1, chain-append moves cs ds h.0 mid last h.2 g)
