-- The steps of a plan of which others are told in one go.
use Rattle.std.proofs.Common.{◌≡◌, ◌≢◌, ◌⊎◌, ℕ, suc, ◌<◌, Bool, true, false, cond, eqb, not, List, [], ◌∷◌, ◌++◌, length}
use Rattle.std.proofs.Common.{map, Option, Some, None, Result, Ok, Err, IfSome, sym, refl, ap, ◌∙◌, subst, inl, inr}
use Rattle.std.proofs.Common.{append_assoc, append-nil, ◌+◌, arith, ◌||◌}
use Rattle.std.proofs.lemmas.Bool.{eqb-false, ne_eqb, true≢false}
use Rattle.std.specs.List.{AllByRecursion, list_all}
use Rattle.byte_texts.specs.Outcomes.{Chain}
use Rattle.cluster_admin.specs.declared.admin.AdminCommand.{AdminCommand}
use Rattle.cluster_admin.specs.declared.admin.AdminCommand.TheVariants.{Importing, Migrating, SetNode, Stable, KeysIn}
use Rattle.cluster_admin.specs.declared.admin.AdminCommand.TheVariants.{Migrate}
use Rattle.cluster_admin.specs.declared.admin.AdminReply.{AdminReply}
use Rattle.cluster_admin.specs.declared.admin.AdminReply.TheVariants as reply
use Rattle.cluster_admin.specs.Phases.{IsDistinct, among}
use Rattle.cluster_admin.specs.declared.call.AdminCall.{AdminCall}
use Rattle.cluster_admin.specs.declared.port_fault.PortFault.{PortFault}
use Rattle.cluster_admin.specs.declared.port_fault.PortFault.TheVariants.{Memory, Wire}
use Rattle.plan_runner.specs.Advancing.{IsNext, runs_on, stopped_by}
use Rattle.plan_runner.specs.PlanStates.{plan_after}
use Rattle.plan_runner.specs.ProgressView.{Progress, waits}
use Rattle.plan_runner.specs.Watching.{SendsWatched, WatchedSteps}
use Rattle.plan_runner.specs.declared.plan_state.PlanState.{PlanState}
use Rattle.plan_runner.specs.declared.plan_state.PlanState.TheVariants as states
use Rattle.plan_runner.specs.declared.stop_cause.StopCause.TheVariants as causes
use Rattle.plan_runner.proofs.Going.{no_run_done, no_run_stop}
use Rattle.plan_semantics.specs.Driving.{called}
use Rattle.plan_semantics.specs.Orders.{sending}
use Rattle.plan_semantics.specs.declared.order.Order.{Order}
use Rattle.redis_servers.specs.Asking.{AsksNode}
use Rattle.redis_servers.specs.Calls.{Given}
use Rattle.redis_servers.specs.InOneGo.{AreOthers, TellsEach, TellsInOneGo, TellsNone, is_done}
use Rattle.redis_servers.specs.Ports.{Fails, Moves}
use Rattle.redis_servers.specs.Runs.{Runs}
use Rattle.redis_servers.specs.declared.commanding.Outcome.{Outcome}
use Rattle.redis_servers.specs.declared.port.ServersPort as port
use Rattle.redis_servers.proofs.InOneGo.{tellings_run}
use Rattle.redis_servers.specs.RunHistories.{RunHistory}
use Rattle.redis_servers.specs.declared.setup.PortSetup.{PortSetup}
use Rattle.server_links.specs.Streams.{Streams}
use Rattle.server_links.specs.declared.link.Link as link
use Rattle.server_runs.specs.InOneGo.{AreGroups, AreToldOnce, EndsAt, EndsBehind, HasRun, HearsEach, IsGroup, LastTold}
use Rattle.server_runs.specs.InOneGo.{RunsInOneGo}
use Rattle.server_runs.specs.InOneGo.{SeesEach, Takes, TakesFrom, Watching, WatchesGroup, answer_of, calls_in, end_after}
use Rattle.server_runs.specs.InOneGo.{first_undone, order_of, owner_told_at, state_of, told_call}
use Rattle.server_runs.specs.Steps.{Advances, AreAhead, GroupRan, IsBehind, IsOver, IsToldBy, PutsNext, ShowsEach}
use Rattle.server_runs.specs.Steps.{owner_told_by, state_after, told_after}
use Rattle.server_runs.specs.declared.run_end.RunEnd.{RunEnd}
use Rattle.server_runs.specs.declared.run_end.RunEnd.TheVariants.{Done, Stopped}
use Rattle.server_runs.specs.declared.slot_owner.SlotOwner.{SlotOwner}
use Rattle.server_runs.specs.declared.steps.Step.{Step}
use Rattle.server_runs.specs.declared.steps.Step.TheVariants.{On, Over}
use Rattle.server_runs.proofs.Takings.{takes_counted, takes_kept, takes_on}
use Rattle.plan_semantics.specs.Tellings.{LastTells}

-- ---- of which owner another node was told

some_owner : {x y : SlotOwner} → Some x ≡ Some y → x ≡ y
some_owner e = cc

no_owner : (x : SlotOwner) → None ≡ Some x → ⊥
no_owner x e = cc

-- what a command tells another node
pub record Tells (n : ℕ) (c : AdminCommand) (x : SlotOwner) : Type 0 where
  pub command : c ≡ SetNode x.slot x.owner
  pub another : n ≢ x.owner

tells : (n : ℕ) (c : AdminCommand) (x : SlotOwner) → owner_told_at n c ≡ Some x → Tells n c x
tells n (Importing s m) x e = absurd (no_owner x e)
tells n (Migrating s m) x e = absurd (no_owner x e)
tells n (Stable s) x e = absurd (no_owner x e)
tells n (KeysIn s b) x e = absurd (no_owner x e)
tells n (Migrate ks m) x e = absurd (no_owner x e)
tells n (SetNode s t) x e = by (eqb t n) refl e
  where
    by : (b : Bool) → eqb t n ≡ b → cond b None (Some (record { slot = s; owner = t })) ≡ Some x
        → Tells n (SetNode s t) x
    by true is u = absurd (no_owner x u)
    by false is u =
        let same : record { slot = s; owner = t } ≡ x = some_owner u in record {
          command = ap (λ (y : SlotOwner). SetNode y.slot y.owner) same;
          another = λ h. eqb-false t n is (sym (h ∙ sym (ap (λ (y : SlotOwner). y.owner) same)));
        }

last_one : (n : ℕ) (c : AdminCommand) (r : AdminReply) (told : Option SlotOwner) → told ≡ owner_told_at n c
    → LastTold told (called n c r ∷ [])
last_one n c r None is = tt
last_one n c r (Some x) is =
    let t = tells n c x (sym is) in
    record { earlier = []; told = called n c r; is = refl; tells = record { tells = t.command; another = t.another } }

last_of : (x : SlotOwner) (n : ℕ) (ns : List ℕ) → AllByRecursion (λ m. m ≢ x.owner) (n ∷ ns)
    → LastTells x.slot x.owner (map (told_call x) (n ∷ ns))
last_of x n [] others =
    record { earlier = []; told = told_call x n; is = refl; tells = record { tells = refl; another = others.0 } }
last_of x n (m ∷ ns) others =
    let r = last_of x m ns others.1 in
    record { earlier = told_call x n ∷ r.earlier; told = r.told; is = ap (λ l. told_call x n ∷ l) r.is; tells = r.tells }

last_behind : (cs g : List AdminCall) (s t : ℕ) → LastTells s t g → LastTells s t (cs ++ g)
last_behind cs g s t l = record {
  earlier = cs ++ l.earlier;
  told = l.told;
  is = ap (λ x. cs ++ x) l.is ∙ sym (append_assoc cs l.earlier (l.told ∷ []));
  tells = l.tells;
}

pub last_told_behind : (cs g : List AdminCall) (told : Option SlotOwner) → LastTold told g → LastTold told (cs ++ g)
last_told_behind cs g None l = tt
last_told_behind cs g (Some x) l = last_behind cs g x.slot x.owner l

-- ---- a step that is over

same_state : (a b : RunEnd) → state_of a ≡ state_of b → a ≡ b
same_state (Done m) (Done n) e = cc
same_state (Stopped c m) (Stopped d n) e = cc
same_state (Done m) (Stopped d n) e = absurd (by e)
  where
    by : states.Done m ≡ states.Stopped d n → ⊥
    by u = cc
same_state (Stopped c m) (Done n) e = absurd (by e)
  where
    by : states.Stopped c m ≡ states.Done n → ⊥
    by u = cc

not_running : (q : Progress) (e : RunEnd) → states.Running q ≡ state_of e → ⊥
not_running q (Done n) u = no_run_done q n u
not_running q (Stopped c n) u = no_run_stop q c n u

over : (step : Step) (e : RunEnd) (E : RunEnd → Type 0) → state_after step ≡ state_of e → E e → IsOver step E
over (On r told) e E is holds = not_running r.progress e is
over (Over end) e E is holds = subst E (sym (same_state end e is)) holds

takes_one : (j k : PlanState) → j ≡ k
    → runs_on k (λ q. j ≡ states.Running q) (λ e. (◌≡◌ {A = List AdminCall} [] []) × (j ≡ e))
takes_one j (states.Running q) is = is
takes_one j (states.Done n) is = (refl, is)
takes_one j (states.Stopped c n) is = (refl, is)

-- ---- what is shown

module _ {W : Type 0} (by : Watching W) where
  pub all_shown : (w w' : W) (os : List Order) (all : Bool) → all ≡ true → ShowsEach by w os all w' → SeesEach by w os w'
  all_shown w w' [] all is h = h.1
  all_shown w w' (o ∷ os) all is (inl h) = absurd (true≢false (sym is ∙ h.1))
  all_shown w w' (o ∷ os) all is (inr h) = (h.0, h.1, all_shown h.0 w' os all is h.2)

  -- the watcher gave the plan up at one of them
  pub record GaveUp (w w' : W) (os : List Order) : Type 0 where
    pub shown : List Order
    pub order : Order
    pub later : List Order
    pub is : os ≡ shown ++ order ∷ later
    pub between : W
    pub sees : SeesEach by w shown between
    pub gives_up : by.sees between order false w'

  pub gave_up : (w w' : W) (os : List Order) (all : Bool) → all ≡ false → ShowsEach by w os all w' → GaveUp w w' os
  gave_up w w' [] all is h = absurd (true≢false (sym h.0 ∙ is))
  gave_up w w' (o ∷ os) all is (inl h) =
      record { shown = []; order = o; later = os; is = refl; between = w; sees = refl; gives_up = h.0 }
  gave_up w w' (o ∷ os) all is (inr h) =
      let r = gave_up h.0 w' os all is h.2 in record {
        shown = o ∷ r.shown;
        order = r.order;
        later = r.later;
        is = ap (λ l. o ∷ l) r.is;
        between = r.between;
        sees = (h.0, h.1, r.sees);
        gives_up = r.gives_up;
      }

-- ---- what is answered

module _ {I O : Type 0} (streams : Streams I O) where
  told_each : (x : PortSetup) (history : RunHistory) (request : List ℕ) (c : AdminCommand) (links links' : List (link.Link I O))
      (nodes : List ℕ) (os : List Outcome) → TellsEach (AsksNode streams) x history request c links nodes os links'
      → length os ≡ length nodes
  told_each x history request c links links' [] os h = ap length h.0
  told_each x history request c links links' (n ∷ ns) os h =
      ap length h.3 ∙ ap suc (told_each x history request c h.2 links' ns h.1 h.5)

length_map : {A B : Type 0} (f : A → B) (xs : List A) → length (map f xs) ≡ length xs
length_map f [] = refl
length_map f (x ∷ xs) = ap suc (length_map f xs)

no_undone : (a : Given) → Some a ≡ None → ⊥
no_undone a e = cc

pub all_done : (answers : List Given) → first_undone answers ≡ None → list_all is_done answers ≡ true
all_done [] e = refl
all_done (a ∷ answers) e = by (is_done a) refl e (λ u. all_done answers u)
  where
    by : (b : Bool) → is_done a ≡ b → cond b (first_undone answers) (Some a) ≡ None
        → (first_undone answers ≡ None → list_all is_done answers ≡ true) → list_all is_done (a ∷ answers) ≡ true
    by true is u more = rw is (more u)
    by false is u more = absurd (no_undone a u)

done_is : (a : Given) → is_done a ≡ true → a ≡ Ok reply.Ok
done_is (Ok reply.Ok) e = refl
done_is (Ok reply.NoKey) e = absurd (true≢false (sym e))
done_is (Ok (reply.Keys ks)) e = absurd (true≢false (sym e))
done_is (Ok (reply.Refused f)) e = absurd (true≢false (sym e))
done_is (Err f) e = absurd (true≢false (sym e))

none_long : (n : ℕ) (ns : List ℕ) → 0 ≡ length (n ∷ ns) → ⊥
none_long n ns e = cc

some_long : (a : Given) (more : List Given) → length (a ∷ more) ≡ 0 → ⊥
some_long a more e = cc

less_long : (m n : ℕ) → suc m ≡ suc n → m ≡ n
less_long m n e = cc

-- answers of all nodes, of which none is undone, are those of calls that were done
pub done_answers : (x : SlotOwner) (nodes : List ℕ) (answers : List Given) → length answers ≡ length nodes
    → first_undone answers ≡ None → answers ≡ map answer_of (map (told_call x) nodes)
done_answers x [] [] e u = refl
done_answers x [] (a ∷ more) e u = absurd (some_long a more e)
done_answers x (n ∷ ns) [] e u = absurd (none_long n ns e)
done_answers x (n ∷ ns) (a ∷ more) e u =
    by (is_done a) refl u (λ w. done_answers x ns more (less_long (length more) (length ns) e) w)
  where
    by : (b : Bool) → is_done a ≡ b → cond b (first_undone more) (Some a) ≡ None
        → (first_undone more ≡ None → more ≡ map answer_of (map (told_call x) ns))
        → a ∷ more ≡ map answer_of (map (told_call x) (n ∷ ns))
    by true is w rest = ap (λ z. z ∷ more) (done_is a is) ∙ ap (λ l. Ok reply.Ok ∷ l) (rest w)
    by false is w rest = absurd (no_undone a w)

no_end : (e : RunEnd) → Some e ≡ None → ⊥
no_end e u = cc

-- the run continues only where none is undone
pub goes_on : (n : ℕ) (o : Option Given) (answers : List Given) → end_after n o answers ≡ None → o ≡ None
goes_on n None answers e = refl
goes_on n (Some a) answers e = absurd (no_end _ e)

-- ---- groups

each_other : (k owner : ℕ) (nodes : List ℕ) → AreOthers k owner nodes → AllByRecursion (λ n. n ≢ owner) nodes
each_other k owner [] h = tt
each_other k owner (n ∷ ns) h = (h.0.1, each_other k owner ns h.1)

once_of : (k : ℕ) (x : SlotOwner) (nodes : List ℕ) → AreAhead k x nodes → AreToldOnce x nodes
once_of k x nodes h = record { others = each_other k x.owner nodes h.0; distinct = h.1 }

calls_behind : (gs : List (List AdminCall)) (g : List AdminCall) → calls_in (gs ++ g ∷ []) ≡ calls_in gs ++ g
calls_behind [] g = append-nil g
calls_behind (h ∷ gs) g = ap (λ l. h ++ l) (calls_behind gs g) ∙ sym (append_assoc h (calls_in gs) g)

groups_behind : (before : List AdminCall) (gs : List (List AdminCall)) (g : List AdminCall) (told : Option SlotOwner)
    → AreGroups before gs → LastTold told (before ++ calls_in gs) → IsGroup told g → AreGroups before (gs ++ g ∷ [])
groups_behind before [] g told h last is =
    ((told, subst (LastTold told) (append-nil before) last, is), tt)
groups_behind before (h' ∷ gs) g told h last is = (
  h.0,
  groups_behind (before ++ h') gs g told h.1
      (subst (LastTold told) (sym (append_assoc before h' (calls_in gs))) last) is,
)

module _ {W : Type 0} (by : Watching W) where
  chain_behind : (gs : List (List AdminCall)) (g : List AdminCall) (w v u : W) → Chain (WatchesGroup by) w gs v
      → WatchesGroup by v g u → Chain (WatchesGroup by) w (gs ++ g ∷ []) u
  chain_behind [] g w v u h k = (u, subst (λ (x : W). WatchesGroup by x g u) h k, refl)
  chain_behind (h' ∷ gs) g w v u h k = (h.0, h.1, chain_behind gs g h.0 v u h.2 k)

-- ---- steps

module _ {I O P W : Type 0} (streams : Streams I O) (by : Watching W) where
  abbrev steps : WatchedSteps (port.ServersPort I O P) W
  steps = record {
    moves = Moves streams;
    fails = Fails streams;
    sees = by.sees;
    hears = by.hears;
    misses = by.misses;
  }

  -- one command by itself
  pub alone : (first last : port.ServersPort I O P × W) (x y : List AdminCall) (p : Progress) (j : PlanState) (step : Step)
      (told before : Option SlotOwner) → told ≡ owner_told_by (sending p.rest p.listed) → state_after step ≡ j
      → told_after told step
      → SendsWatched steps (record { port = first; calls = x }) (record { port = last; calls = y }) p j
      → Advances streams by before first p last step
  alone first last x y p j step told before is state after (inl (inl u)) =
      inr (over step (Done p.spent) (EndsAt streams by before first last p) (state ∙ u.3)
      (inl (record { rest = u.0; same = u.1; is = refl })))
  alone first last x y p j step told before is state after (inl (inr (inl u))) =
      let c = called u.0.node u.0.command u.1 in
      inl (
        c ∷ [],
        record {
          group = inl (c, refl);
          ran = (last.0, u.3.0, refl);
          watched = (u.3.1.0, (u.3.1.0, u.3.1.1, refl), (last.1, u.3.1.2, refl));
          takes = ((u.0, u.2, refl, refl), takes_one (state_after step) (plan_after (waits p) u.1) (state ∙ u.5));
        },
        told_by step after,
      )
    where
      told_by : (z : Step) → told_after told z → IsToldBy z (called u.0.node u.0.command u.1 ∷ [])
      told_by (On r t) h =
          last_one u.0.node u.0.command u.1 t (h ∙ is ∙ ap owner_told_by u.2)
      told_by (Over e) h = tt
  alone first last x y p j step told before is state after (inl (inr (inr u))) =
      let c = called u.0.node u.0.command reply.Ok in
      inr (over step (Stopped (stopped_by u.1) p.spent) (EndsAt streams by before first last p) (state ∙ u.5)
      (inr (inr (inl (record {
        call = c;
        cs = [];
        state = plan_after (waits p) reply.Ok;
        next = ((u.0, u.2, refl, refl), takes_one _ _ refl);
        shown = u.3.1.0;
        sees = (u.3.1.0, u.3.1.1, refl);
        fault = u.1;
        fails = u.3.0;
        misses = u.3.1.2;
        is = refl;
      })))))
  alone first last x y p j step told before is state after (inr u) =
      inr (over step (Stopped causes.Abandoned p.spent) (EndsAt streams by before first last p) (state ∙ u.4)
      (inr (inl (record {
        cs = called u.0.node u.0.command reply.Ok ∷ [];
        state = plan_after (waits p) reply.Ok;
        next = ((u.0, u.1, refl, refl), takes_one _ _ refl);
        shown = [];
        order = u.0;
        later = [];
        orders = refl;
        between = first.1;
        sees = refl;
        gives_up = u.3.0;
        port = u.3.1;
        is = refl;
      }))))

  -- ---- others told in one go

  length_answers : (x : SlotOwner) (nodes : List ℕ) (p q : port.ServersPort I O P) (answers : List Given)
      → TellsInOneGo streams x.slot x.owner nodes p answers q → length answers ≡ length nodes
  length_answers x nodes p q answers t =
      ap length t.answers_are ∙ length_map (λ (o : Outcome). o.given) t.outcomes
      ∙ told_each streams p.setup p.history _ (SetNode x.slot x.owner) p.links.items q.links.items nodes t.outcomes t.each

  -- the watcher gave the plan up before they were told
  pub told_given_up : (x : SlotOwner) (nodes : List ℕ) (first last : port.ServersPort I O P × W) (p : Progress) (j : PlanState) (n : ℕ)
      (all : Bool) → p.spent ≡ n → all ≡ false → Takes p (map (told_call x) nodes) j
      → ShowsEach by first.1 (map order_of (map (told_call x) nodes)) all last.1 → last.0 ≡ first.0
      → (end : RunEnd) → end ≡ Stopped causes.Abandoned n
      → EndsAt streams by (Some x) first last p end
  told_given_up x nodes first last p j n all spent none takes shows same end is =
      let g = gave_up by first.1 last.1 (map order_of (map (told_call x) nodes)) all none shows in
      inr (inl (record {
        cs = map (told_call x) nodes;
        state = j;
        next = takes;
        shown = g.shown;
        order = g.order;
        later = g.later;
        orders = g.is;
        between = g.between;
        sees = g.sees;
        gives_up = g.gives_up;
        port = same;
        is = is ∙ ap (λ k. Stopped causes.Abandoned k) (sym spent);
      }))

  told_fails : (x : SlotOwner) (n : ℕ) (p q : port.ServersPort I O P) (f : PortFault) → TellsNone f p q
      → Fails streams p n (SetNode x.slot x.owner) f q
  told_fails x n p q f (same, inl is) =
      subst (λ (e : PortFault). Fails streams p n (SetNode x.slot x.owner) e q) (sym is) same
  told_fails x n p q f (same, inr (is, stopped)) =
      subst (λ (e : PortFault). Fails streams p n (SetNode x.slot x.owner) e q) (sym is) (inl (stopped, same))

  -- the port failed before they were told
  pub told_none : (x : SlotOwner) (n : ℕ) (ns : List ℕ) (first last : port.ServersPort I O P × W) (shown : W) (p : Progress) (j : PlanState)
      (spent : ℕ) (all : Bool) (f : PortFault) → p.spent ≡ spent → all ≡ true
      → Takes p (map (told_call x) (n ∷ ns)) j
      → ShowsEach by first.1 (map order_of (map (told_call x) (n ∷ ns))) all shown → TellsNone f first.0 last.0
      → by.misses shown f last.1 → (end : RunEnd) → end ≡ Stopped (stopped_by f) spent
      → EndsAt streams by (Some x) first last p end
  told_none x n ns first last shown p j k all f spent every takes shows none misses end is =
      inr (inr (inl (record {
        call = told_call x n;
        cs = map (told_call x) ns;
        state = j;
        next = takes;
        shown = shown;
        sees = all_shown by first.1 shown (map order_of (map (told_call x) (n ∷ ns))) all every shows;
        fault = f;
        fails = told_fails x n first.0 last.0 f none;
        misses = misses;
        is = is ∙ ap (λ i. Stopped (stopped_by f) i) (sym spent);
      })))

  -- they were told: the answers end the run, or all are OK
  pub told_all : (x : SlotOwner) (n : ℕ) (ns : List ℕ) (first last : port.ServersPort I O P × W) (shown : W) (p : Progress) (j : PlanState)
      (spent : ℕ) (all : Bool) (answers : List Given) (step : Step) → x.owner < length first.0.setup.book
      → AreAhead (length first.0.setup.book) x (n ∷ ns) → p.spent ≡ spent → all ≡ true
      → Takes p (map (told_call x) (n ∷ ns)) j
      → ShowsEach by first.1 (map order_of (map (told_call x) (n ∷ ns))) all shown
      → TellsInOneGo streams x.slot x.owner (n ∷ ns) first.0 answers last.0 → HearsEach by shown answers last.1
      → IsBehind (end_after spent (first_undone answers) answers) x j step
      → Advances streams by (Some x) first p last step
  told_all x n ns first last shown p j k all answers step there ahead spent every takes shows tells hears behind =
      go (end_after k (first_undone answers) answers) refl behind
    where
      sees : SeesEach by first.1 (map order_of (map (told_call x) (n ∷ ns))) shown
      sees = all_shown by first.1 shown (map order_of (map (told_call x) (n ∷ ns))) all every shows

      once : AreToldOnce x (n ∷ ns)
      once = once_of (length first.0.setup.book) x (n ∷ ns) ahead

      ended : (z : Step) (end : RunEnd) → end_after k (first_undone answers) answers ≡ Some end
          → IsOver z (λ e. e ≡ end) → IsOver z (EndsAt streams by (Some x) first last p)
      ended (On r told) end is h = h
      ended (Over e) end is h = inr (inr (inr (record {
        owned = x;
        behind = refl;
        node = n;
        nodes = ns;
        others = once;
        state = j;
        next = takes;
        shown = shown;
        sees = sees;
        answers = answers;
        tells = tells;
        hears = hears;
        is = ap Some h ∙ sym is ∙ ap (λ i. end_after i (first_undone answers) answers) (sym spent);
      })))

      told_by : (z : Step) → told_after (Some x) z → IsToldBy z (map (told_call x) (n ∷ ns))
      told_by (On r t) h =
          subst (λ (o : Option SlotOwner). LastTold o (map (told_call x) (n ∷ ns))) (sym h) (last_of x n ns once.others)
      told_by (Over e) h = tt

      go : (o : Option RunEnd) → end_after k (first_undone answers) answers ≡ o → IsBehind o x j step
          → Advances streams by (Some x) first p last step
      go (Some end) is h = inr (ended step end is h)
      go None is h =
          let none = goes_on k (first_undone answers) answers is in
          let heard = done_answers x (n ∷ ns) answers (length_answers x (n ∷ ns) first.0 last.0 answers tells) none in
          inl (
            map (told_call x) (n ∷ ns),
            record {
              group = inr (x, n, ns, refl, once, refl);
              ran = tellings_run streams P x.slot x.owner (n ∷ ns) first.0 last.0 answers there ahead.0
                  (λ e. absurd (some_nodes e)) tells (all_done answers none);
              watched = (shown, sees, subst (λ l. HearsEach by shown l last.1) heard hears);
              takes = subst (Takes p (map (told_call x) (n ∷ ns))) (sym h.0) takes;
            },
            told_by step h.1,
          )
        where
          some_nodes : n ∷ ns ≡ [] → ⊥
          some_nodes e = cc

  -- ---- whole runs

  runs_on_behind : (cs ds : List AdminCall) (p q r : port.ServersPort I O P) → Runs streams p cs q → Runs streams q ds r
      → Runs streams p (cs ++ ds) r
  runs_on_behind [] ds p q r h g = subst (λ (x : port.ServersPort I O P). Runs streams x ds r) h g
  runs_on_behind (c ∷ cs) ds p q r h g = (h.0, h.1, runs_on_behind cs ds h.0 q r h.2 g)

  -- a run so far
  pub record Far (first at : port.ServersPort I O P × W) (start p : Progress) (told : Option SlotOwner) : Type 0 where
    pub groups : List (List AdminCall)
    pub has_run : HasRun streams by first at start groups (states.Running p)
    pub last : LastTold told (calls_in groups)

  pub begun : (first : port.ServersPort I O P × W) (start : Progress) → Far first first start start None
  begun first start = record {
    groups = [];
    has_run = record { ran = refl; watched = refl; takes = refl; grouped = tt };
    last = tt;
  }

  grown : (first at last : port.ServersPort I O P × W) (start p : Progress) (told : Option SlotOwner) (left : PlanState) (g : List AdminCall)
      (far : Far first at start p told) → GroupRan streams by told at p g last left
      → HasRun streams by first last start (far.groups ++ g ∷ []) left
  grown first at last start p told left g far r =
      let cs = calls_in far.groups in
      let are = sym (calls_behind far.groups g) in
      record {
        ran =
            subst (λ l. Runs streams first.0 l last.0) are
            (runs_on_behind cs g first.0 at.0 last.0 far.has_run.ran r.ran);
        watched = chain_behind by far.groups g first.1 at.1 last.1 far.has_run.watched r.watched;
        takes = subst (λ l. Takes start l left) are (takes_on start p cs g left far.has_run.takes r.takes);
        grouped = groups_behind [] far.groups g told far.has_run.grouped far.last r.group;
      }

  -- it continues by a step
  pub far_on : (first at last : port.ServersPort I O P × W) (start p q : Progress) (told told' : Option SlotOwner)
      → Far first at start p told
      → ((g : List AdminCall) × GroupRan streams by told at p g last (states.Running q) × LastTold told' g) ⊎ ⊥
      → Far first last start q told'
  far_on first at last start p q told told' far (inl (g, ran, tells)) = record {
    groups = far.groups ++ g ∷ [];
    has_run = grown first at last start p told (states.Running q) g far ran;
    last =
        subst (LastTold told') (sym (calls_behind far.groups g))
        (last_told_behind (calls_in far.groups) g told' tells);
  }
  far_on first at last start p q told told' far (inr none) = absurd none

  step_ends : (g : List AdminCall) (told : Option SlotOwner) (last : port.ServersPort I O P × W) (end : RunEnd)
      → (state : PlanState) → state ≡ state_of end → EndsBehind streams by told last last state end
  step_ends g told last end (states.Running q) is = absurd (not_running q end is)
  step_ends g told last end (states.Done n) is = (sym is, refl)
  step_ends g told last end (states.Stopped c n) is = (sym is, refl)

  -- or it ends by one
  pub far_end : (first at last : port.ServersPort I O P × W) (start p : Progress) (told : Option SlotOwner) (end : RunEnd)
      → Far first at start p told → Advances streams by told at p last (Over end)
      → RunsInOneGo streams by first last start end
  far_end first at last start p told end far (inl (g, ran, tells)) = record {
    groups = far.groups ++ g ∷ [];
    at = last;
    left = state_of end;
    has_run = grown first at last start p told (state_of end) g far ran;
    told = None;
    last_told = tt;
    ends = step_ends g None last end (state_of end) refl;
  }
  far_end first at last start p told end far (inr ends) = record {
    groups = far.groups;
    at = at;
    left = states.Running p;
    has_run = far.has_run;
    told = told;
    last_told = far.last;
    ends = ends;
  }

  -- each group is of one call at least, so that a plan does not run for ever
  pub some_taken : (told : Option SlotOwner) (first last : port.ServersPort I O P × W) (p q : Progress) (g : List AdminCall)
      → GroupRan streams by told first p g last (states.Running q) → p.spent < q.spent
  some_taken told first last p q g ran =
      spent_more p.spent q.spent (length g) (takes_counted p g (states.Running q) ran.takes) (some_calls ran.group)
    where
      spent_more : (a b n : ℕ) → b ≡ a + n → 0 < n → a < b
      spent_more a b n e h = omega (arith, e, h)

      one_more : (n : ℕ) → 0 < suc n
      one_more n = omega arith

      some_calls : IsGroup told g → 0 < length g
      some_calls (inl (c, is)) = subst (λ (l : List AdminCall). 0 < length l) (sym is) (one_more 0)
      some_calls (inr (x, n, ns, is, once, are)) =
          subst (λ (l : List AdminCall). 0 < length l) (sym are) (one_more (length (map (told_call x) ns)))

  pub kept : (told : Option SlotOwner) (first last : port.ServersPort I O P × W) (p q : Progress) (g : List AdminCall)
      → GroupRan streams by told first p g last (states.Running q) → q.nodes ≡ p.nodes
  kept told first last p q g ran = (takes_kept p q g ran.takes).0

-- ---- what is taken ahead

took_end : (j : PlanState) (x : SlotOwner) (told told' : List ℕ) → told' ≡ told
    → (more : List ℕ) × (told' ≡ told ++ more) × TakesFrom j (map (told_call x) more) j
took_end j x told told' same = ([], same ∙ sym (append-nil told), by j)
  where
    by : (k : PlanState) → TakesFrom k [] k
    by (states.Running q) = refl
    by (states.Done n) = (refl, refl)
    by (states.Stopped c n) = (refl, refl)

-- nothing more is taken
pub took_none : (j k k' : PlanState) (x : SlotOwner) (told told' : List ℕ) → k ≡ j → k' ≡ j → told' ≡ told
    → (more : List ℕ) × (told' ≡ told ++ more) × TakesFrom k (map (told_call x) more) k'
took_none j k k' x told told' is is' same =
    subst (λ (i : PlanState). (more : List ℕ) × (told' ≡ told ++ more) × TakesFrom i (map (told_call x) more) k') (sym is)
    (subst (λ (i : PlanState). (more : List ℕ) × (told' ≡ told ++ more) × TakesFrom j (map (told_call x) more) i) (sym is')
    (took_end j x told told' same))

-- what takes a node's OK, and others after it
pub took_one : (p : Progress) (x : SlotOwner) (n : ℕ) (next : Option Order) (more : List ℕ) (k j : PlanState)
    → next ≡ Some (record { node = n; command = SetNode x.slot x.owner }) → sending p.rest p.listed ≡ next
    → k ≡ plan_after (waits p) reply.Ok → TakesFrom k (map (told_call x) more) j
    → Takes p (map (told_call x) (n ∷ more)) j
took_one p x n next more k j is same taken rest = (
  (record { node = n; command = SetNode x.slot x.owner }, same ∙ is, refl, refl),
  subst (λ (i : PlanState). TakesFrom i (map (told_call x) more) j) taken rest,
)

pub took_more : (p : Progress) (x : SlotOwner) (n : ℕ) (next : Option Order) (told told' last : List ℕ)
    (k k' j : PlanState) → next ≡ Some (record { node = n; command = SetNode x.slot x.owner })
    → sending p.rest p.listed ≡ next → k' ≡ states.Running p → k ≡ plan_after (waits p) reply.Ok
    → told' ≡ told ++ n ∷ []
    → ((more : List ℕ) × (last ≡ told' ++ more) × TakesFrom k (map (told_call x) more) j)
    → (more : List ℕ) × (last ≡ told ++ more) × TakesFrom k' (map (told_call x) more) j
took_more p x n next told told' last k k' j is same running taken one (more, are, rest) = (
  n ∷ more,
  are ∙ ap (λ l. l ++ more) one ∙ append_assoc told (n ∷ []) more,
  subst (λ (i : PlanState). TakesFrom i (map (told_call x) (n ∷ more)) j) (sym running)
      (took_one p x n next more k j is same taken rest),
)

-- ---- other nodes

no_other : (a b : Bool) → (a || b) ≡ false → (a ≡ false) × (b ≡ false)
no_other false false e = (refl, refl)
no_other true b e = absurd (true≢false e)
no_other false true e = absurd (true≢false e)

either : (a b : Bool) → a ≡ false → b ≡ false → (a || b) ≡ false
either false false p q = refl
either true b p q = absurd (true≢false p)
either false true p q = absurd (true≢false q)

among_behind : (m n : ℕ) (ns : List ℕ) → among m ns ≡ false → eqb m n ≡ false → among m (ns ++ n ∷ []) ≡ false
among_behind m n [] h e = either (eqb m n) false e refl
among_behind m n (k ∷ ns) h e =
    let p = no_other (eqb m k) (among m ns) h in
    either (eqb m k) (among m (ns ++ n ∷ [])) p.0 (among_behind m n ns p.1 e)

distinct_behind : (n : ℕ) (ns : List ℕ) → IsDistinct ns → among n ns ≡ false → IsDistinct (ns ++ n ∷ [])
distinct_behind n [] d h = (refl, tt)
distinct_behind n (k ∷ ns) d h =
    let p = no_other (eqb n k) (among n ns) h in
    (among_behind k n ns d.0 (ne_eqb k n (λ e. eqb-false n k p.0 (sym e))), distinct_behind n ns d.1 p.1)

others_behind : (k owner n : ℕ) (ns : List ℕ) → AreOthers k owner ns → n < k → n ≢ owner
    → AreOthers k owner (ns ++ n ∷ [])
others_behind k owner n [] h lt apart = ((lt, apart), tt)
others_behind k owner n (m ∷ ns) h lt apart = (h.0, others_behind k owner n ns h.1 lt apart)

pub one_ahead : (k : ℕ) (x : SlotOwner) (n : ℕ) → n < k → n ≢ x.owner → AreAhead k x (n ∷ [])
one_ahead k x n lt apart = (((lt, apart), tt), (refl, tt))

pub puts_next : (next : Option Order) (k : ℕ) (x : SlotOwner) (left : ℕ) (told told' : List ℕ) (n : ℕ) (put : Bool)
    → told' ≡ cond put (told ++ n ∷ []) told → AreAhead k x told → 0 < left
    → next ≡ Some (record { node = n; command = SetNode x.slot x.owner }) → n ≢ x.owner → n < k
    → among n told ≡ false → PutsNext next k x left told told' put
puts_next next k x left told told' n true is ahead some sends apart lt new = (
  n,
  is,
  subst (AreAhead k x) (sym is)
      (others_behind k x.owner n told ahead.0 lt apart, distinct_behind n told ahead.1 new),
  some,
  sends,
)
puts_next next k x left told told' n false is ahead some sends apart lt new = is

-- ---- of any nodes

no_nodes : (n : ℕ) → n ≡ 0 → 0 < n → ⊥
no_nodes n is h = omega (arith, is, h)

module _ {I O P W : Type 0} (streams : Streams I O) (by : Watching W) where
  pub others_none : (x : SlotOwner) (nodes : List ℕ) (first last : port.ServersPort I O P × W) (shown : W)
      (p : Progress) (j : PlanState) (spent : ℕ) (all : Bool) (f : PortFault) → 0 < length nodes → p.spent ≡ spent
      → all ≡ true → Takes p (map (told_call x) nodes) j
      → ShowsEach by first.1 (map order_of (map (told_call x) nodes)) all shown → TellsNone f first.0 last.0
      → by.misses shown f last.1 → (end : RunEnd) → end ≡ Stopped (stopped_by f) spent
      → EndsAt streams by (Some x) first last p end
  others_none x [] first last shown p j k all f some spent every takes shows none misses end is =
      absurd (no_nodes 0 refl some)
  others_none x (n ∷ ns) first last shown p j k all f some spent every takes shows none misses end is =
      told_none streams by x n ns first last shown p j k all f spent every takes shows none misses end is

  pub others_told : (x : SlotOwner) (nodes : List ℕ) (first last : port.ServersPort I O P × W) (shown : W)
      (p : Progress) (j : PlanState) (spent : ℕ) (all : Bool) (answers : List Given) (step : Step)
      → 0 < length nodes → x.owner < length first.0.setup.book → AreAhead (length first.0.setup.book) x nodes
      → p.spent ≡ spent → all ≡ true → Takes p (map (told_call x) nodes) j
      → ShowsEach by first.1 (map order_of (map (told_call x) nodes)) all shown
      → TellsInOneGo streams x.slot x.owner nodes first.0 answers last.0 → HearsEach by shown answers last.1
      → IsBehind (end_after spent (first_undone answers) answers) x j step
      → Advances streams by (Some x) first p last step
  others_told x [] first last shown p j k all answers step some there ahead spent every takes shows tells hears behind =
      absurd (no_nodes 0 refl some)
  others_told x (n ∷ ns) first last shown p j k all answers step some there ahead spent every takes shows tells hears
      behind =
      told_all streams by x n ns first last shown p j k all answers step there ahead spent every takes shows tells hears
      behind

  pub spends : (told : Option SlotOwner) (first last : port.ServersPort I O P × W) (p q : Progress)
      (told' : Option SlotOwner)
      → ((g : List AdminCall) × GroupRan streams by told first p g last (states.Running q) × LastTold told' g) ⊎ ⊥
      → p.spent < q.spent
  spends told first last p q told' (inl (g, ran, tells)) = some_taken streams by told first last p q g ran
  spends told first last p q told' (inr none) = absurd none

  pub nodes_kept : (told : Option SlotOwner) (first last : port.ServersPort I O P × W) (p q : Progress)
      (told' : Option SlotOwner)
      → ((g : List AdminCall) × GroupRan streams by told first p g last (states.Running q) × LastTold told' g) ⊎ ⊥
      → q.nodes ≡ p.nodes
  nodes_kept told first last p q told' (inl (g, ran, tells)) = kept streams by told first last p q g ran
  nodes_kept told first last p q told' (inr none) = absurd none

-- the first node's OK is taken, and those of the nodes after it
pub first_taken : (p : Progress) (x : SlotOwner) (n : ℕ) (told told' nodes : List ℕ) (k j : PlanState)
    → sending p.rest p.listed ≡ Some (record { node = n; command = SetNode x.slot x.owner }) → told ≡ n ∷ []
    → k ≡ plan_after (waits p) reply.Ok
    → ((more : List ℕ) × (told' ≡ told ++ more) × TakesFrom k (map (told_call x) more) j) → nodes ≡ told'
    → Takes p (map (told_call x) nodes) j
first_taken p x n told told' nodes k j next one taken (more, are, rest) same =
    subst (λ (l : List ℕ). Takes p (map (told_call x) l) j) (sym (same ∙ are ∙ ap (λ l. l ++ more) one))
    (took_one p x n (sending p.rest p.listed) more k j next refl taken rest)
