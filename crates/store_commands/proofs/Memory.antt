-- Where memory may run out whatever came before.
use Rattle.std.proofs.Common.{Result, Ok, Err, OnErr, IfOk}
use Rattle.store_commands.specs.Memory.{HasWork}
use Rattle.store_commands.specs.declared.effect.Effect.{Effect}

pub anyhow : {A E : Type 0} (r : Result A E) → OnErr r (Unit {0})
anyhow (Ok x) = tt
anyhow (Err e) = tt

pub any_work : {E : Type 0} (r : Result Effect E) → IfOk r (λ w. HasWork w → Unit {0})
any_work (Ok w) = λ h. tt
any_work (Err e) = tt
