-- The pace is kept by what was counted.
use Rattle.std.proofs.Common.{◌≡◌, ℕ, Option, subst}
use Rattle.std.specs.Prelude.{IfSome}
use Rattle.server_runs.specs.Surrounded.{Paces}
use Rattle.server_runs.specs.declared.counts.Counts.{Counts}
use Rattle.server_runs.specs.declared.kind.Kind.{Kind}
use Rattle.server_runs.specs.declared.pace.Pace.{Pace}

pub paced_on : {S : Type 0} (tells waits : S → ℕ → S → Type 0) (pace pace' : Option Pace) (kind kind' : Kind) (counts counts' : Counts)
    → pace' ≡ pace → kind' ≡ kind → counts' ≡ counts → IfSome pace' (Paces tells waits kind' counts'.keys)
    → IfSome pace (Paces tells waits kind counts.keys)
paced_on tells waits pace pace' kind kind' counts counts' p k c paced =
    subst (λ (x : Option Pace). IfSome x (Paces tells waits kind counts.keys)) p
    (subst (λ (x : Kind). IfSome pace' (Paces tells waits x counts.keys)) k
    (subst (λ (x : Counts). IfSome pace' (Paces tells waits kind' x.keys)) c paced))
