-- Plans that were left anywhere, one after the other: what they sent is what the headline asks for.
use Rattle.std.proofs.Common.{◌≡◌, List, [], ◌∷◌, ◌++◌, Option, None, Some, Result, Ok, Err, refl, sym, ap, ◌∙◌, subst, inl, append-nil, append_assoc}
use Rattle.std.specs.Prelude.{IfOk, IfSome}
use Rattle.std.specs.Result.{result_ok}
use Rattle.cluster_admin.specs.Telling.{survey_after, survey_told}
use Rattle.cluster_admin.specs.Surveys.{Survey, closed_survey}
use Rattle.cluster_world.specs.Worlds.{survey_of, World}
use Rattle.cluster_world.specs.Trails.{Trail}
use Rattle.cluster_admin.specs.declared.call.AdminCall.{AdminCall}
use Rattle.key_slots.specs.Owners.{Owners}
use Rattle.plan_language.specs.PlanView.{PlanView}
use Rattle.plan_semantics.specs.Listed.{AreListed}
use Rattle.plan_semantics.specs.Surveyed.{node_count}
use Rattle.plan_runner.specs.Advancing.{PortSteps, Sends, plan_of, seat_of}
use Rattle.plan_runner.specs.Leaving.{HasSent}
use Rattle.plan_runner.specs.ProgressView.{Progress, at_start}
use Rattle.plan_runner.specs.Verifying.{Verified, commands_of}
use Rattle.plan_runner.specs.declared.plan_state.PlanState.{PlanState}
use Rattle.plan_runner.specs.declared.plan_state.PlanState.TheVariants as states
use Rattle.plan_runner.specs.declared.running.RunningPlan.{RunningPlan}
use Rattle.plan_runner.specs.declared.running.Taken.{Taken}
use Rattle.plan_runner.specs.declared.running.Taken.TheVariants.{Running}
use Rattle.plan_runner.proofs.LeftAnywhere.{comes_on, listed_is_prefix, steps_are_sent}
use Rattle.reshard_theorem.specs.Surveyed.{IsSentFor, SentPlan}
use Rattle.reshard_theorem.proofs.SurveyedStages.{openings_are_surveyed}
use Rattle.shared_trail.specs.Setups.{IsOpened}
use Rattle.live_cluster.specs.declared.closing.ClosedTrail.{ClosedTrail}
use Rattle.live_tests.specs.Sittings.{Continues, HoldsOfPlans, HoldsOfThree, IsOf, Sat}

-- ---- a turn

pub turn_continues : {P : Type 0} (by : PortSteps P) (first last : P) (p : RunningPlan (List AdminCall)) (t : Taken (List AdminCall))
    → Sends by (record { port = first; calls = p.seat })
    (record { port = last; calls = seat_of t }) p.progress (plan_of t) → Continues (Running p) t
turn_continues by first last p t sends start before sent =
    let more = steps_are_sent by (record { port = first; calls = p.seat })
    (record { port = last; calls = seat_of t }) p.progress (plan_of t) sends in record {
      calls = sent.calls ++ more.calls;
      after_is = more.after_is ∙ ap (λ l. l ++ more.calls) sent.after_is ∙ append_assoc before sent.calls more.calls;
      comes = comes_on start p.progress sent.calls more.calls (plan_of t) sent.comes more.comes;
    }

-- nothing was sent yet
pub not_begun : (p : Progress) (before after : List AdminCall) → after ≡ before → HasSent p before after (states.Running p)
not_begun p before after same = record { calls = []; after_is = same ∙ sym (append-nil before); comes = inl refl }

-- ---- several plans

sent_of : (survey : Survey) (plan : PlanView) (before after : List AdminCall) → Sat survey plan before after → SentPlan
sent_of survey plan before after s = record {
  version = plan.version;
  plan = commands_of plan survey;
  phases = λ n. (s.is_open n).0;
  calls = s.sent.calls;
}

is_sent : (survey : Survey) (plan : PlanView) (before after : List AdminCall) (s : Sat survey plan before after)
    → AreListed s.sent.calls → IsSentFor survey (sent_of survey plan before after s)
unfolding sent_of
is_sent survey plan before after s listed = record {
  shows = λ n. (s.is_open n).1;
  legal = s.verified.legal (λ n. (s.is_open n).0) (λ n. (s.is_open n).1);
  prefix = (listed_is_prefix (at_start (node_count survey) (commands_of plan survey) s.most) s.sent.calls s.state refl
      s.sent.comes listed).0;
}

listed_parts : (cs ds : List AdminCall) → AreListed (cs ++ ds) → AreListed cs × AreListed ds
listed_parts [] ds h = (tt, h)
listed_parts (c ∷ cs) ds h = let r = listed_parts cs ds h.1 in ((h.0, r.0), r.1)

after_append : (v : Survey) (cs ds : List AdminCall) → survey_after v (cs ++ ds) ≡ survey_after (survey_after v cs) ds
after_append v [] ds = refl
after_append v (c ∷ cs) ds = after_append (survey_told v c.node c.command c.reply) cs ds

-- what the seat had after each of three plans
record Three (v : Survey) (first rests last : PlanView) (calls : List AdminCall) : Type 0 where
  a : List AdminCall
  b : List AdminCall
  one : Sat v first [] a
  two : Sat (survey_after v one.sent.calls) rests a b
  three : Sat (survey_after (survey_after v one.sent.calls) two.sent.calls) last b calls

in_turn : (v : Survey) (first rests last : PlanView) (a b calls : List AdminCall) → Sat v first [] a
    → Sat (survey_after v a) rests a b → Sat (survey_after v b) last b calls → Three v first rests last calls
in_turn v first rests last a b calls one two three =
    let two' : Sat (survey_after v one.sent.calls) rests a b =
    subst (λ l. Sat (survey_after v l) rests a b) one.sent.after_is two in
    let are : b ≡ one.sent.calls ++ two'.sent.calls =
    two'.sent.after_is ∙ ap (λ l. l ++ two'.sent.calls) one.sent.after_is in record {
      a = a;
      b = b;
      one = one;
      two = two';
      three = subst (λ u. Sat u last b calls)
          (ap (survey_after v) are ∙ after_append v one.sent.calls two'.sent.calls) three;
    }

hold : (o : Owners) (first rests last : PlanView) (calls : List AdminCall) (t : Trail) → t.owners ≡ o
    → Three (closed_survey o.nodes o.owners) first rests last calls → AreListed calls → HoldsOfPlans o calls t
    → HoldsOfThree first last t
unfolding sent_of
hold o first rests last calls t owners h listed holds =
    let v : Survey = closed_survey o.nodes o.owners in
    let x : SentPlan = sent_of v first [] h.a h.one in
    let y : SentPlan = sent_of (survey_after v x.calls) rests h.a h.b h.two in
    let z : SentPlan = sent_of (survey_after (survey_after v x.calls) y.calls) last h.b calls h.three in
    let all : calls ≡ x.calls ++ (y.calls ++ z.calls) =
    h.three.sent.after_is
    ∙ ap (λ l. l ++ z.calls) (h.two.sent.after_is ∙ ap (λ l. l ++ y.calls) h.one.sent.after_is)
    ∙ append_assoc x.calls y.calls z.calls in
    let p = listed_parts x.calls (y.calls ++ z.calls) (subst AreListed all listed) in
    let q = listed_parts y.calls z.calls p.1 in
    let back : v ≡ closed_survey t.owners.nodes t.owners.owners = ap (λ (w : Owners). closed_survey w.nodes w.owners) (sym owners) in
    record {
      one = x;
      two = y;
      three = z;
      one_is = subst (λ u. IsOf u first x) back (record { version = refl; commands = refl });
      three_is = subst (λ u. IsOf (survey_after (survey_after u x.calls) y.calls) last z) back (record { version = refl; commands = refl });
      hold = holds (x ∷ y ∷ z ∷ []) (λ e. not_none x (y ∷ z ∷ []) e) (
        is_sent v first [] h.a h.one p.0,
        (
          is_sent (survey_after v x.calls) rests h.a h.b h.two q.0,
          (is_sent (survey_after (survey_after v x.calls) y.calls) last h.b calls h.three q.1, tt),
        ),
      )
          (ap (λ l. x.calls ++ (y.calls ++ l)) (append-nil z.calls) ∙ sym all);
    }
  where
    not_none : (x : SentPlan) (xs : List SentPlan) → x ∷ xs ≡ [] → ⊥
    not_none x xs e = cc

pub three_hold : (o : Owners) (first rests last : PlanView) (a b calls : List AdminCall) (t : Trail) → t.owners ≡ o
    → Sat (closed_survey o.nodes o.owners) first [] a → Sat (survey_after (closed_survey o.nodes o.owners) a) rests a b
    → Sat (survey_after (closed_survey o.nodes o.owners) b) last b calls → AreListed calls → HoldsOfPlans o calls t
    → HoldsOfThree first last t
three_hold o first rests last a b calls t owners one two three listed holds =
    hold o first rests last calls t owners (in_turn (closed_survey o.nodes o.owners) first rests last a b calls one two three) listed holds

-- ---- what a day is told

ok_is : {A E : Type 0} (P : A → Type 0) (r : Result A E) (x : A) → Some x ≡ result_ok r → IfOk r P → P x
ok_is P (Ok y) x e h = subst P (sym (ap (λ o. given x o) e)) h
  where
    given : {A : Type 0} → A → Option A → A
    given a None = a
    given a (Some b) = b
ok_is P (Err f) x e h = absurd (no e)
  where
    no : {A : Type 0} {a : A} → ◌≡◌ {A = Option A} (Some a) None → ⊥
    no e = cc

-- what a call that went well is told to have given, of which the value was taken out
pub ok_told : {A E : Type 0} (P : A → Type 0) (r : Result A E) (x : A) → Some x ≡ result_ok r → IfOk r P → P x
ok_told P r x e h = ok_is P r x e h

-- the plan was verified for the survey that the calls tell
pub sat_by_calls : (opening : World) (plan : PlanView) (v : Verified) (survey : Survey) (admin lent after : List AdminCall)
    → v ≡ record { plan = plan; survey = survey } → survey ≡ survey_after (survey_of opening) admin → lent ≡ admin
    → Sat v.survey v.plan lent after → Sat (survey_after (survey_of opening) admin) plan admin after
sat_by_calls opening plan v survey admin lent after is told same sat =
    subst (λ (l : List AdminCall). Sat (survey_after (survey_of opening) admin) plan l after) same
    (subst (λ (u : Survey). Sat u plan lent after) told
    (subst (λ (w : Verified). Sat w.survey w.plan lent after) is sat))

opened_survey : (w : World) (o : Owners) → IsOpened w o → survey_of w ≡ closed_survey o.nodes o.owners
opened_survey w o is = ap survey_of is.opened_as
    ∙ openings_are_surveyed (record { owners = o; base_port = w.base_port; events = []; room = 0 })

pub day_holds : (opening : World) (o : Owners) (first last : PlanView) (none a b calls : List AdminCall) (r : Option ClosedTrail)
    → IsOpened opening o → none ≡ []
    → Sat (survey_after (survey_of opening) none) first none a
    → (rests : PlanView) × Sat (survey_after (survey_of opening) a) rests a b
    → Sat (survey_after (survey_of opening) b) last b calls
    → IfSome r (λ c. c.trail.owners ≡ o) → IfSome r (λ c. HoldsOfPlans o calls c.trail) → IfSome r (λ c. AreListed calls)
    → IfSome r (λ c. HoldsOfThree first last c.trail)
day_holds opening o first last none a b calls None is empty one two three owners plans listed = tt
day_holds opening o first last none a b calls (Some c) is empty one two three owners plans listed =
    let same : survey_of opening ≡ closed_survey o.nodes o.owners = opened_survey opening o is in
    let begun : Sat (survey_after (closed_survey o.nodes o.owners) none) first none a =
    subst (λ (v : Survey). Sat (survey_after v none) first none a) same one in
    three_hold o first two.0 last a b calls c.trail owners
    (subst (λ (l : List AdminCall). Sat (survey_after (closed_survey o.nodes o.owners) l) first l a) empty begun)
    (subst (λ (v : Survey). Sat (survey_after v a) two.0 a b) same two.1)
    (subst (λ (v : Survey). Sat (survey_after v b) last b calls) same three) listed plans
