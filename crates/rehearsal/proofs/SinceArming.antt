-- The headline of the events since a plan was armed, and how their honesty is seen from the whole trail's.
use Rattle.std.proofs.Common.{◌≡◌, ℕ, List, [], ◌∷◌, ◌++◌, refl, sym, ap, subst, ◌∙◌}
use Rattle.cluster_world.specs.Worlds.{World}
use Rattle.cluster_world.specs.Honesty.{Honest, past_of}
use Rattle.cluster_world.specs.Openness.{Open}
use Rattle.cluster_world.specs.Serving.{served, store_after}
use Rattle.cluster_world.specs.Steps.{Run, after}
use Rattle.cluster_world.specs.declared.event.Event.{Event}
use Rattle.reshard_theorem.specs.Driven.{DrivenStepByStep}
use Rattle.plan_semantics.specs.Driving.{remaining}
use Rattle.reshard_theorem.specs.Starts.{Reshard, Starts}
use Rattle.reshard_theorem.specs.Headline.{HeadlineHolds}
use Rattle.reshard_theorem.specs.HonestRuns.{LeavesOpen}
use Rattle.reshard_theorem.proofs.Unique.{open_in}
use Rattle.rehearsal.specs.ArmedPlans.{HeadlineSinceArming, HonestSinceArming, StaysOpen, armed_in}

pub headline_since : HeadlineHolds → DrivenStepByStep → HeadlineSinceArming
headline_since holds by_steps r plan u store is_open honest =
    holds (armed_in r plan u store) u.since r.world
    (record {
      starts = record { legal = u.legal; is_open = is_open };
      run = u.led_here;
      driven = (by_steps u.commands u.since).1 (remaining plan.rest plan.listed, u.driven);
      honest = honest;
    })

-- ---- events after those before them

pub behind : (es fs : List Event) (w last : World) (past : List Event) → Run w es last → Honest w past (es ++ fs)
    → Honest last (past_of past es) fs
behind [] fs w last past run h = subst (λ x. Honest x past fs) (sym run) h
behind (e ∷ es) fs w last past run h = behind es fs (after w e) last (e ∷ past) run.1 h.1

pub honest_since : HonestSinceArming
honest_since r plan u honest =
    behind u.before u.since r.first u.start [] u.led_there (subst (Honest r.first []) u.parts honest)

past_more : (past es fs : List Event) → past_of past (es ++ fs) ≡ past_of (past_of past es) fs
past_more past [] fs = refl
past_more past (e ∷ es) fs = past_more (e ∷ past) es fs

pub stays_open : LeavesOpen → StaysOpen
stays_open leaves r plan u store is_open honest now have =
    let left = leaves (armed_in r plan u store) u.since r.world (remaining plan.rest plan.listed)
    (record { drives = record { starts = record { legal = u.legal; is_open = is_open }; run = u.led_here; driven = u.driven }; honest = honest }) in
    let past : past_of [] r.events ≡ past_of (past_of [] u.before) u.since = ap (past_of []) u.parts ∙ past_more [] u.before u.since in (
      store_after store (served u.since),
      subst (Open r.world now (store_after store (served u.since))) (sym past)
          (open_in r.world left.0 now (store_after store (served u.since)) (past_of (past_of [] u.before) u.since) left.1 have),
    )
