-- Where the targets of a slot are different nodes, a node that an ASK named imports the slot no more.
use Rattle.std.proofs.Common.{◌≡◌, ℕ, ◌<◌, ◌⊎◌, Bool, true, false, cond, eqb, ◌||◌, List, [], ◌∷◌, ◌++◌, map, length, Option, Some, None, sym, refl, ap, ◌∙◌, subst, inl, inr}
use Rattle.std.proofs.lemmas.Bool.{cases_Bool, true≢false, or_parts, eqb-true, eq-eqb, cond-true, cond-false}
use Rattle.std.specs.List.{AllByRecursion}
use Rattle.store_commands.specs.Store.{Key}
use Rattle.client_commands.specs.Commands.{keys}
use Rattle.client_commands.specs.declared.command.Command.{Command}
use Rattle.resp2_wire.specs.declared.reply.Reply.{Reply}
use Rattle.slot_marks.specs.Verdicts.{first_slot}
use Rattle.slot_marks.specs.declared.verdict.Verdict.TheVariants.{Ask}
use Rattle.cluster_admin.specs.declared.admin.AdminReply.{AdminReply}
use Rattle.cluster_admin.specs.declared.admin.AdminReply.TheVariants as reply
use Rattle.cluster_world.specs.Worlds.{World, verdict, owner, migrating, importing}
use Rattle.cluster_world.specs.Steps.{after}
use Rattle.cluster_world.specs.Servers.{ServerRun}
use Rattle.cluster_admin.specs.declared.admin.AdminCommand.{AdminCommand}
use Rattle.cluster_admin.specs.declared.admin.AdminCommand.TheVariants as command
use Rattle.cluster_world.specs.Commanding.{admin_after}
use Rattle.cluster_world.specs.declared.event.Event.{Event}
use Rattle.cluster_world.specs.declared.event.Event.TheVariants.{Client, Look, Admin}
use Rattle.cluster_world.specs.Honesty.{IsNoImport}
use Rattle.plan_language.specs.declared.plan_command.PlanCommand.{PlanCommand}
use Rattle.plan_language.specs.declared.plan_command.PlanCommand.TheVariants as planned
use Rattle.cluster_admin.specs.Phases as phase
use Rattle.cluster_admin.specs.Phases.{Phases, among, IsDistinct}
use Rattle.plan_semantics.specs.Plans.{part, slot_named, tell, final_owner, Closes, Leg, Move, Try, legs_of, IsPart}
use Rattle.plan_semantics.specs.Driving.{Remaining, remaining, called, Spells, Spelled}
use Rattle.cluster_world.specs.AdminCalls.{calls}
use Rattle.plan_semantics.specs.Retargets.{importings, phase_target}
use Rattle.reshard_theorem.specs.Reimports.{NoneReimported}
use Rattle.reshard_theorem.specs.ServerRuns.{AsksStandAtServers, IsDrivenServerRun}
use Rattle.reshard_theorem.specs.Starts.{Reshard, Starts}
use Rattle.reshard_theorem.proofs.Base.{Base, Inv}
use Rattle.reshard_theorem.proofs.Phases.{Phase, Closed, Importing, Migrating, Drained, TargetTold, SourceTold, goes_in, none_cond, More, Rest}
use Rattle.reshard_theorem.proofs.Begins.{start}
use Rattle.reshard_theorem.proofs.Clients.{client_base}
use Rattle.reshard_theorem.proofs.Gains.{Turned, turned}
use Rattle.reshard_theorem.proofs.Verdicts.{AskedBy, asked_by}

-- the target of the part's first command, if that does not begin a leg
abbrev head_target : List PlanCommand → List ℕ
head_target [] = []
head_target (planned.Importing s m at ∷ rest) = []
head_target (planned.Migrating s m at ∷ rest) = m ∷ []
head_target (planned.Drain s m t b ∷ rest) = t ∷ []
head_target (planned.SetNode s m at ∷ rest) = m ∷ []
head_target (planned.Stable s at ∷ rest) = at ∷ []

-- the targets of what is left of a slot, each once
abbrev AreApart : List PlanCommand → Type 0
AreApart commands = IsDistinct (head_target commands ++ importings commands)

no_head : (s o : ℕ) (legs : List Leg) → head_target (legs_of s o legs) ≡ []
no_head s o [] = refl
no_head s o (Move t b others ∷ legs) = refl
no_head s o (Try t ∷ legs) = refl

-- ---- by one command

module _ (s : ℕ) where
  -- what follows a whole move, or a try, begins with a leg
  legs_apart : (o t : ℕ) (legs : List Leg) (rest : List PlanCommand) → rest ≡ legs_of s o legs → IsDistinct (t ∷ importings rest) → AreApart rest
  legs_apart o t legs rest e h = subst (λ x. IsDistinct (x ++ importings rest)) (sym (ap head_target e ∙ no_head s o legs)) h.1

  told_apart : (t o : ℕ) (left : List ℕ) (legs : List Leg) (rest : List PlanCommand) → rest ≡ legs_of s o legs
      → IsDistinct (t ∷ importings (tell s t left ++ rest)) → AreApart (tell s t left ++ rest)
  told_apart t o [] legs rest e h = legs_apart o t legs rest e h
  told_apart t o (m ∷ left) legs rest e h = h

  module _ (n goal : ℕ) (c : PlanCommand) (rest : List PlanCommand) where
    next_legs : (o : ℕ) (legs : List Leg) → c ∷ rest ≡ legs_of s o legs → AreApart (c ∷ rest) → AreApart rest
    next_legs o [] e h = cc
    next_legs o (Move t b others ∷ legs) e h = by cc
      where
        by : rest ≡ planned.Migrating s t o ∷ planned.Drain s o t b ∷ planned.SetNode s t t ∷ planned.SetNode s t o ∷ (tell s t others ++ legs_of s t legs) → AreApart rest
        by p = subst AreApart (sym p) (subst AreApart e h)
    next_legs o (Try t ∷ legs) e h = by cc
      where
        by : rest ≡ planned.Stable s t ∷ legs_of s o legs → AreApart rest
        by p = subst AreApart (sym p) (subst AreApart e h)

    next_apart : (q : Phase) → Rest n goal s q (c ∷ rest) → AreApart (c ∷ rest) → AreApart rest
    next_apart (Closed o) l h = next_legs o l.goes_on.legs l.goes_on.is h
    next_apart (Importing o t) (inl l) h = by cc
      where
        by : rest ≡ planned.Drain s o t l.batch ∷ planned.SetNode s t t ∷ planned.SetNode s t o ∷ (tell s t l.others ++ l.more) → AreApart rest
        by p = subst AreApart (sym p) (subst AreApart l.is h)
    next_apart (Importing o t) (inr l) h = by cc
      where
        by : rest ≡ l.more → AreApart rest
        by p = subst AreApart (sym p) (legs_apart o t l.goes_on.legs l.more l.goes_on.is (subst AreApart l.is h))
    next_apart (Migrating o t) l h = by cc
      where
        by : rest ≡ planned.SetNode s t t ∷ planned.SetNode s t o ∷ (tell s t l.others ++ l.more) → AreApart rest
        by p = subst AreApart (sym p) (subst AreApart l.is h)
    next_apart (Drained o t) l h = by cc
      where
        by : rest ≡ planned.SetNode s t o ∷ (tell s t l.others ++ l.more) → AreApart rest
        by p = subst AreApart (sym p) (subst AreApart l.is h)
    next_apart (TargetTold o t) l h = by cc
      where
        by : rest ≡ tell s t l.others ++ l.more → AreApart rest
        by p = subst AreApart (sym p) (told_apart t t l.others l.goes_on.legs l.more l.goes_on.is (subst AreApart l.is h))
    next_apart (SourceTold o t []) l h = absurd (l.some refl)
    next_apart (SourceTold o t (m ∷ left)) l h = by cc
      where
        by : rest ≡ tell s t left ++ l.more → AreApart rest
        by p = subst AreApart (sym p) (told_apart t t left l.goes_on.legs l.more l.goes_on.is (subst AreApart l.is h))

-- ---- the node that an ASK named

some_is : {A : Type 0} (b : Bool) (u v : A) → cond b (Some u) None ≡ Some v → u ≡ v
some_is true u v e = cc
some_is false u v e = cc

-- is the target of what is left
named_target : (n goal s : ℕ) (q : Phase) (x m : ℕ) (rest : List PlanCommand) → Rest n goal s q rest → goes_in q x ≡ Some m
    → AreApart rest → among m (importings rest) ≡ false
named_target n goal s (Closed o) x m rest l e h = cc
named_target n goal s (Importing o t) x m rest l e h = cc
named_target n goal s (Migrating o t) x m rest l e h =
    subst (λ y. among y (importings rest) ≡ false) (some_is (eqb x o) t m e) (subst (λ y. among t (importings y) ≡ false) (sym l.is) (subst AreApart l.is h).0)
named_target n goal s (Drained o t) x m rest l e h =
    subst (λ y. among y (importings rest) ≡ false) (some_is (eqb x o) t m e) (subst (λ y. among t (importings y) ≡ false) (sym l.is) (subst AreApart l.is h).0)
named_target n goal s (TargetTold o t) x m rest l e h =
    subst (λ y. among y (importings rest) ≡ false) (some_is (eqb x o) t m e) (subst (λ y. among t (importings y) ≡ false) (sym l.is) (subst AreApart l.is h).0)
named_target n goal s (SourceTold o t left) x m rest l e h = cc

-- and a node of the cluster
named_below : (n goal s : ℕ) (q : Phase) (x m : ℕ) (rest : List PlanCommand) → Rest n goal s q rest → goes_in q x ≡ Some m → m < n
named_below n goal s (Closed o) x m rest l e = cc
named_below n goal s (Importing o t) x m rest l e = cc
named_below n goal s (Migrating o t) x m rest l e = subst (λ y. y < n) (some_is (eqb x o) t m e) l.ends.target_below
named_below n goal s (Drained o t) x m rest l e = subst (λ y. y < n) (some_is (eqb x o) t m e) l.ends.target_below
named_below n goal s (TargetTold o t) x m rest l e = subst (λ y. y < n) (some_is (eqb x o) t m e) l.ends.target_below
named_below n goal s (SourceTold o t left) x m rest l e = cc

-- ---- what a call leaves

-- a call leaves the plan as it is, or takes its first command
left_by : (plan : List PlanCommand) (listed : Option (List Key)) (r : ℕ) (c : AdminCommand) (told : AdminReply) (rest : List PlanCommand) (listed' : Option (List Key))
    → Spells (remaining plan listed) (called r c told) (remaining rest listed') → (rest ≡ plan) ⊎ ((o : PlanCommand) × (plan ≡ o ∷ rest))
left_by [] listed r c told rest listed' h = absurd h
left_by (planned.Importing s m at ∷ plan) None r c told rest listed' h = inr (planned.Importing s m at, ap (λ x. planned.Importing s m at ∷ x) (sym h.2))
left_by (planned.Migrating s m at ∷ plan) None r c told rest listed' h = inr (planned.Migrating s m at, ap (λ x. planned.Migrating s m at ∷ x) (sym h.2))
left_by (planned.SetNode s m at ∷ plan) None r c told rest listed' h = inr (planned.SetNode s m at, ap (λ x. planned.SetNode s m at ∷ x) (sym h.2))
left_by (planned.Stable s at ∷ plan) None r c told rest listed' h = inr (planned.Stable s at, ap (λ x. planned.Stable s at ∷ x) (sym h.2))
left_by (planned.Drain s m t b ∷ plan) None r c told rest listed' h = elim h.2 [
  | inl u ↦ inr (planned.Drain s m t b, ap (λ x. planned.Drain s m t b ∷ x) (sym u.1))
  | inr u ↦ inl u.3
]
left_by (planned.Drain s m t b ∷ plan) (Some ks) r c told rest listed' h = inl h.2
left_by (planned.Importing s m at ∷ plan) (Some ks) r c told rest listed' h = absurd h
left_by (planned.Migrating s m at ∷ plan) (Some ks) r c told rest listed' h = absurd h
left_by (planned.SetNode s m at ∷ plan) (Some ks) r c told rest listed' h = absurd h
left_by (planned.Stable s at ∷ plan) (Some ks) r c told rest listed' h = absurd h

part_step : (o : PlanCommand) (rest : List PlanCommand) (s : ℕ) → (part (o ∷ rest) s ≡ part rest s) ⊎ (part (o ∷ rest) s ≡ o ∷ part rest s)
part_step o rest s = elim (cases_Bool (eqb (slot_named o) s)) [
  | inl u ↦ inr (cond-true (eqb (slot_named o) s) (o ∷ part rest s) (part rest s) u)
  | inr u ↦ inl (cond-false (eqb (slot_named o) s) (o ∷ part rest s) (part rest s) u)
]

-- ---- no IMPORTING comes that is not in the plan

module _ (s m : ℕ) where
  imports_less : (o : PlanCommand) (rest : List PlanCommand) → among m (importings (o ∷ rest)) ≡ false → among m (importings rest) ≡ false
  imports_less (planned.Importing t x at) rest h = (or_parts (eqb m at) (among m (importings rest)) h).1
  imports_less (planned.Migrating t x at) rest h = h
  imports_less (planned.Drain t x y b) rest h = h
  imports_less (planned.SetNode t x at) rest h = h
  imports_less (planned.Stable t at) rest h = h

  imports_later : (plan : List PlanCommand) (listed : Option (List Key)) (r : ℕ) (c : AdminCommand) (told : AdminReply) (rest : List PlanCommand) (listed' : Option (List Key))
      → Spells (remaining plan listed) (called r c told) (remaining rest listed') → among m (importings (part plan s)) ≡ false → among m (importings (part rest s)) ≡ false
  imports_later plan listed r c told rest listed' h none = elim (left_by plan listed r c told rest listed' h) [
    | inl e ↦ subst (λ x. among m (importings (part x s)) ≡ false) (sym e) none
    | inr e ↦ (let here : among m (importings (part (e.0 ∷ rest) s)) ≡ false = subst (λ x. among m (importings (part x s)) ≡ false) e.1 none in
        elim (part_step e.0 rest s) [
          | inl u ↦ subst (λ x. among m (importings x) ≡ false) u here
          | inr u ↦ imports_less e.0 (part rest s) (subst (λ x. among m (importings x) ≡ false) u here)
        ])
  ]

  not_imported : (plan : List PlanCommand) (listed : Option (List Key)) (r t x : ℕ) (told : AdminReply) (rest : List PlanCommand) (listed' : Option (List Key))
      → Spells (remaining plan listed) (called r (command.Importing t x) told) (remaining rest listed') → among m (importings (part plan s)) ≡ false → r ≡ m → t ≡ s → ⊥
  not_imported [] listed r t x told rest listed' h none e f = h
  not_imported (planned.Importing u y at ∷ plan) None r t x told rest listed' h none e f = by cc
    where
      by : (u ≡ s) → ⊥
      by g =
          let p : part (planned.Importing u y at ∷ plan) s ≡ planned.Importing u y at ∷ part plan s = cond-true (eqb u s) (planned.Importing u y at ∷ part plan s) (part plan s) (eq-eqb u s g) in
          let q : (eqb m at || among m (importings (part plan s))) ≡ false = subst (λ z. among m (importings z) ≡ false) p none in
          true≢false (sym (eq-eqb m at (sym e ∙ h.0)) ∙ (or_parts (eqb m at) (among m (importings (part plan s))) q).0)
  not_imported (planned.Migrating u y at ∷ plan) None r t x told rest listed' h none e f = by h.1
    where
      by : command.Importing t x ≡ command.Migrating u y → ⊥
      by g = cc
  not_imported (planned.SetNode u y at ∷ plan) None r t x told rest listed' h none e f = by h.1
    where
      by : command.Importing t x ≡ command.SetNode u y → ⊥
      by g = cc
  not_imported (planned.Stable u at ∷ plan) None r t x told rest listed' h none e f = by h.1
    where
      by : command.Importing t x ≡ command.Stable u → ⊥
      by g = cc
  not_imported (planned.Drain u y z b ∷ plan) None r t x told rest listed' h none e f = by h.1
    where
      by : command.Importing t x ≡ command.KeysIn u b → ⊥
      by g = cc
  not_imported (planned.Drain u y z b ∷ plan) (Some ks) r t x told rest listed' h none e f = by h.1
    where
      by : command.Importing t x ≡ command.Migrate ks z → ⊥
      by g = cc
  not_imported (planned.Importing u y at ∷ plan) (Some ks) r t x told rest listed' h none e f = h
  not_imported (planned.Migrating u y at ∷ plan) (Some ks) r t x told rest listed' h none e f = h
  not_imported (planned.SetNode u y at ∷ plan) (Some ks) r t x told rest listed' h none e f = h
  not_imported (planned.Stable u at ∷ plan) (Some ks) r t x told rest listed' h none e f = h

  no_import : (plan : List PlanCommand) (listed : Option (List Key)) (r : ℕ) (c : AdminCommand) (told : AdminReply) (rest : List PlanCommand) (listed' : Option (List Key))
      → Spells (remaining plan listed) (called r c told) (remaining rest listed') → among m (importings (part plan s)) ≡ false → IsNoImport s m (Admin r c told)
  no_import plan listed r (command.Importing t x) reply.Ok rest listed' h none = λ e f. not_imported plan listed r t x reply.Ok rest listed' h none e f
  no_import plan listed r (command.Importing t x) reply.NoKey rest listed' h none = tt
  no_import plan listed r (command.Importing t x) (reply.Keys ks) rest listed' h none = tt
  no_import plan listed r (command.Importing t x) (reply.Refused fault) rest listed' h none = tt
  no_import plan listed r (command.Migrating t x) told rest listed' h none = tt
  no_import plan listed r (command.SetNode t x) told rest listed' h none = tt
  no_import plan listed r (command.Stable t) told rest listed' h none = tt
  no_import plan listed r (command.KeysIn t count) told rest listed' h none = tt
  no_import plan listed r (command.Migrate ks x) told rest listed' h none = tt

  never_imports : (es : List Event) (plan rest : List PlanCommand) (listed listed' : Option (List Key)) → Spelled (remaining plan listed) (calls es) (remaining rest listed')
      → among m (importings (part plan s)) ≡ false → AllByRecursion (IsNoImport s m) es
  never_imports [] plan rest listed listed' spelt none = tt
  never_imports (Client seat x asking c r ∷ es) plan rest listed listed' spelt none = (tt, never_imports es plan rest listed listed' spelt none)
  never_imports (Look seat x r ∷ es) plan rest listed listed' spelt none = (tt, never_imports es plan rest listed listed' spelt none)
  never_imports (Admin r c told ∷ es) plan rest listed listed' spelt none = (
    no_import plan listed r c told spelt.0.rest spelt.0.listed spelt.1 none,
    never_imports es spelt.0.rest rest spelt.0.listed listed' spelt.2 (imports_later plan listed r c told spelt.0.rest spelt.0.listed spelt.1 none),
  )

-- ---- along a run

module _ (n : ℕ) (goal : ℕ → ℕ) where
  still_apart : (w : World) (plan : List PlanCommand) (listed : Option (List Key)) (r : ℕ) (c : AdminCommand) (told : AdminReply) (rest : List PlanCommand) (listed' : Option (List Key))
      → Base n goal w plan listed → Spells (remaining plan listed) (called r c told) (remaining rest listed') → ((s : ℕ) → AreApart (part plan s)) → (s : ℕ) → AreApart (part rest s)
  still_apart w plan listed r c told rest listed' b h apart s = elim (left_by plan listed r c told rest listed' h) [
    | inl e ↦ subst (λ x. AreApart (part x s)) (sym e) (apart s)
    | inr e ↦ (let here : AreApart (part (e.0 ∷ rest) s) = subst (λ x. AreApart (part x s)) e.1 (apart s) in
        elim (part_step e.0 rest s) [
          | inl u ↦ subst AreApart u here
          | inr u ↦ next_apart s n (goal s) e.0 (part rest s) (b.marks s).phase (subst (λ x. Rest n (goal s) s (b.marks s).phase x) (ap (λ x. part x s) e.1 ∙ u) (b.marks s).left) (subst AreApart u here)
        ])
  ]

  asks_stand_in : (es : List Event) (w last : World) (plan rest : List PlanCommand) (listed listed' : Option (List Key)) → Base n goal w plan listed
      → ((s : ℕ) → AreApart (part plan s)) → ServerRun w es last → Spelled (remaining plan listed) (calls es) (remaining rest listed') → NoneReimported w es
  asks_stand_in [] w last plan rest listed listed' b apart run spelt = tt
  asks_stand_in (Client seat x asking c r ∷ es) w last plan rest listed listed' b apart run spelt = (
    λ m v.
        let s : ℕ = first_slot (keys c) in
        let asked : AskedBy w x (keys c) m = asked_by w x asking (keys c) m v in
        never_imports s m es plan rest listed listed' spelt
        (named_target n (goal s) s (b.marks s).phase x m (part plan s) (b.marks s).left (sym ((b.marks s).going x) ∙ asked.marked) (apart s)),
    asks_stand_in es (after w (Client seat x asking c r)) last plan rest listed listed' (client_base n goal w plan listed seat x asking c r b run.0).0 apart run.1 spelt,
  )
  asks_stand_in (Look seat x r ∷ es) w last plan rest listed listed' b apart run spelt = asks_stand_in es w last plan rest listed listed' b apart run.1 spelt
  asks_stand_in (Admin r c told ∷ es) w last plan rest listed listed' b apart run spelt =
      let t : Turned n goal w r c spelt.0.rest spelt.0.listed = turned n goal w plan listed r c told spelt.0.rest spelt.0.listed b run.0.1 spelt.1 in
      asks_stand_in es (admin_after w r c) last spelt.0.rest rest spelt.0.listed listed' t.base
      (still_apart w plan listed r c told spelt.0.rest spelt.0.listed b spelt.1 apart) run.1 spelt.2

  -- commands go to nodes of the cluster, and ASKs name such
  abbrev pub NamesNodes : World → List Event → Type 0
  NamesNodes w [] = Unit {0}
  NamesNodes w (Client seat x asking c r ∷ es) =
      (x < n) × ((m : ℕ) → verdict w x asking (keys c) ≡ Ask m → m < n) × NamesNodes (after w (Client seat x asking c r)) es
  NamesNodes w (Look seat x r ∷ es) = NamesNodes w es
  NamesNodes w (Admin x c r ∷ es) = NamesNodes (after w (Admin x c r)) es

  names_nodes_in : (es : List Event) (w last : World) (plan rest : List PlanCommand) (listed listed' : Option (List Key)) → Base n goal w plan listed
      → ServerRun w es last → Spelled (remaining plan listed) (calls es) (remaining rest listed') → NamesNodes w es
  names_nodes_in [] w last plan rest listed listed' b run spelt = tt
  names_nodes_in (Client seat x asking c r ∷ es) w last plan rest listed listed' b run spelt = (
    subst (λ l. x < l) b.size run.0.0,
    λ m v.
        let s : ℕ = first_slot (keys c) in
        let asked : AskedBy w x (keys c) m = asked_by w x asking (keys c) m v in
        named_below n (goal s) s (b.marks s).phase x m (part plan s) (b.marks s).left (sym ((b.marks s).going x) ∙ asked.marked),
    names_nodes_in es (after w (Client seat x asking c r)) last plan rest listed listed' (client_base n goal w plan listed seat x asking c r b run.0).0 run.1 spelt,
  )
  names_nodes_in (Look seat x r ∷ es) w last plan rest listed listed' b run spelt = names_nodes_in es w last plan rest listed listed' b run.1 spelt
  names_nodes_in (Admin r c told ∷ es) w last plan rest listed listed' b run spelt =
      let t : Turned n goal w r c spelt.0.rest spelt.0.listed = turned n goal w plan listed r c told spelt.0.rest spelt.0.listed b run.0.1 spelt.1 in
      names_nodes_in es (admin_after w r c) last spelt.0.rest rest spelt.0.listed listed' t.base run.1 spelt.2

-- ---- from the first world

module _ (v n s : ℕ) (commands : List PlanCommand) where
  tell_head : (t : ℕ) (ns : List ℕ) (rest : List PlanCommand) (m : ℕ) → among m ns ≡ true → head_target (tell s t ns ++ rest) ≡ t ∷ []
  tell_head t [] rest m e = absurd (true≢false (sym e))
  tell_head t (x ∷ ns) rest m e = refl

  -- the part of a slot begins with the target of its phase
  first_target : (p : phase.Phase) (i : IsPart v n s p commands) → (owner : ℕ) → i.owner ≡ owner → phase.IsPhase n p → head_target commands ≡ phase_target p
  first_target (phase.Closed o) i owner e fine = ap head_target (i.is ∙ ap (λ x. x ++ legs_of s i.owner i.legs) i.closes.0) ∙ no_head s i.owner i.legs
  first_target (phase.Importing o t) i owner e fine = elim i.closes [
    | inl u ↦ ap head_target (i.is ∙ ap (λ x. x ++ legs_of s i.owner i.legs) u.1)
    | inr u ↦ ap head_target (i.is ∙ ap (λ x. x ++ legs_of s i.owner i.legs) u.5)
  ]
  first_target (phase.Migrating o t) i owner e fine = ap head_target (i.is ∙ ap (λ x. x ++ legs_of s i.owner i.legs) i.closes.5)
  first_target (phase.TargetTold o t) i owner e fine = ap head_target (i.is ∙ ap (λ x. x ++ legs_of s i.owner i.legs) i.closes.3)
  first_target (phase.SourceTold o t []) i owner e fine = absurd (fine.2 refl)
  first_target (phase.SourceTold o t (m ∷ left)) i owner e fine =
      ap head_target (i.is ∙ ap (λ x. x ++ legs_of s i.owner i.legs) i.closes.4)
      ∙ tell_head t i.closes.0 (legs_of s i.owner i.legs) m (i.closes.2 m ∙ ap (λ b. b || among m left) (eq-eqb m m refl))

pub asks_stand : AsksStandAtServers
asks_stand reshard events last left run once =
    let n : ℕ = length reshard.first.nodes in
    let apart : (s : ℕ) → AreApart (part reshard.plan s) = λ s.
    subst (λ x. IsDistinct (x ++ importings (part reshard.plan s)))
    (sym (first_target reshard.version n s (part reshard.plan s) (reshard.phases s) (run.starts.legal s) _ refl (run.starts.is_open.slots s).has.fine))
    (once s) in
    asks_stand_in n (final_owner reshard.plan reshard.phases) events reshard.first last reshard.plan left.rest None left.listed (start reshard run.starts).base apart run.run run.driven.0

pub names_nodes : (reshard : Reshard) (events : List Event) (last : World) (left : Remaining)
    → IsDrivenServerRun reshard events last left → NamesNodes (length reshard.first.nodes) (final_owner reshard.plan reshard.phases) reshard.first events
names_nodes reshard events last left run =
    names_nodes_in (length reshard.first.nodes) (final_owner reshard.plan reshard.phases) events reshard.first last reshard.plan left.rest None left.listed (start reshard run.starts).base run.run run.driven.0
