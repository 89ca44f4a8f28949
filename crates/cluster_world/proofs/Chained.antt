-- The sends of a port over a world, and the events that they leave.
use Rattle.std.proofs.Common.{◌≡◌, ℕ, List, [], ◌∷◌, ◌++◌, Ok, Err, refl, sym, ap, subst, ◌∙◌}
use Rattle.cluster_world.specs.Worlds.{World}
use Rattle.cluster_world.specs.Earning.{world_after}
use Rattle.cluster_world.specs.Steps.{Run}
use Rattle.cluster_world.specs.Ports.{Call, Answer, Send, Execute, Look, Chain, IsSent, IsCalled}
use Rattle.cluster_world.specs.Sends.{event_of, events_of, sends_in, IsWorldAnswer, AreWorldAnswers, SendsAreRuns, send_of, EventsTellSends}
use Rattle.cluster_world.specs.declared.event.Event.{Event}
use Rattle.cluster_world.specs.declared.event.Event.TheVariants as event
use Rattle.cluster_admin.specs.declared.port_fault.PortFault.TheVariants.{Memory, Io, Wire}

-- ---- a chain is a run

run_of : (first : World) (call : Call) (answer : Answer) (mid last : World) (es : List Event) → IsCalled first call answer mid → Run mid es last
    → IsWorldAnswer first call answer × (mid ≡ world_after first (event_of 0 call answer)) × Run first (event_of 0 call answer ++ es) last
run_of first (Execute n asking c) (Ok r) mid last es step run = (tt, step.1, (step.0, subst (λ w. Run w es last) step.1 run))
run_of first (Look n) (Ok r) mid last es step run = (tt, step.1, (step.0, subst (λ w. Run w es last) step.1 run))
run_of first (Execute n asking c) (Err Memory) mid last es same run = (same.1, same.0, subst (λ w. Run w es last) same.0 run)
run_of first (Look n) (Err Memory) mid last es same run = (same.1, same.0, subst (λ w. Run w es last) same.0 run)
run_of first (Execute n asking c) (Err Io) mid last es same run = absurd same
run_of first (Look n) (Err Io) mid last es same run = absurd same
run_of first (Execute n asking c) (Err Wire) mid last es same run = absurd same
run_of first (Look n) (Err Wire) mid last es same run = absurd same

chain_runs : (first : World) (sends : List Send) (last : World) → Chain IsSent first sends last → AreWorldAnswers first sends × Run first (events_of 0 sends) last
chain_runs first [] last same = (tt, sym same)
chain_runs first (x ∷ xs) last chain =
    let rest = chain_runs chain.0 xs last chain.2 in
    let here = run_of first x.call x.answer chain.0 last (events_of 0 xs) chain.1 rest.1 in
    ((here.0, subst (λ w. AreWorldAnswers w xs) here.1 rest.0), here.2)

-- ---- a run is a chain

abbrev Goes : World → Call → Answer → List Event → World → Type 0
Goes first call answer es last =
    IsCalled first call answer (world_after first (event_of 0 call answer)) × Run (world_after first (event_of 0 call answer)) es last

goes_on : (first : World) (call : Call) (answer : Answer) (es : List Event) (last : World) → IsWorldAnswer first call answer
    → Run first (event_of 0 call answer ++ es) last → Goes first call answer es last
goes_on first (Execute n asking c) (Ok r) es last is run = ((run.0, refl), run.1)
goes_on first (Look n) (Ok r) es last is run = ((run.0, refl), run.1)
goes_on first (Execute n asking c) (Err Memory) es last is run = ((refl, is), run)
goes_on first (Look n) (Err Memory) es last is run = ((refl, is), run)
goes_on first (Execute n asking c) (Err Io) es last is run = absurd is
goes_on first (Look n) (Err Io) es last is run = absurd is
goes_on first (Execute n asking c) (Err Wire) es last is run = absurd is
goes_on first (Look n) (Err Wire) es last is run = absurd is

runs_chain : (first : World) (sends : List Send) (last : World) → AreWorldAnswers first sends → Run first (events_of 0 sends) last → Chain IsSent first sends last
runs_chain first [] last are run = sym run
runs_chain first (x ∷ xs) last are run =
    let here = goes_on first x.call x.answer (events_of 0 xs) last are.0 run in
    (world_after first (event_of 0 x.call x.answer), here.0, runs_chain (world_after first (event_of 0 x.call x.answer)) xs last are.1 here.1)

pub sends_are_runs : SendsAreRuns
sends_are_runs first sends last = (chain_runs first sends last, λ p. runs_chain first sends last p.0 p.1)

-- ---- what the events tell

told_more : (seat : ℕ) (call : Call) (answer : Answer) (es : List Event) → sends_in (event_of seat call answer ++ es) ≡ send_of call answer ++ sends_in es
told_more seat (Execute n asking c) (Ok r) es = refl
told_more seat (Look n) (Ok r) es = refl
told_more seat (Execute n asking c) (Err f) es = refl
told_more seat (Look n) (Err f) es = refl

pub events_tell_sends : EventsTellSends
events_tell_sends seat [] = refl
events_tell_sends seat (x ∷ xs) =
    told_more seat x.call x.answer (events_of seat xs) ∙ ap (λ ys. send_of x.call x.answer ++ ys) (events_tell_sends seat xs)
