-- Calls in another order are those of a plan in another order.
use Rattle.std.proofs.Common.{◌≡◌, ◌≢◌, ℕ, Bool, true, false, eqb, ◌||◌, List, [], ◌∷◌, ◌++◌, map, append_assoc}
use Rattle.std.proofs.Common.{sym, refl, ap, ◌∙◌, subst, inl}
use Rattle.std.proofs.lemmas.Bool.{ne_eqb}
use Rattle.std.specs.List.{AllByRecursion}
use Rattle.cluster_admin.specs.declared.admin.AdminCommand.{AdminCommand}
use Rattle.cluster_admin.specs.declared.admin.AdminCommand.TheVariants.{Importing, Migrating, SetNode, Stable, KeysIn}
use Rattle.cluster_admin.specs.declared.admin.AdminCommand.TheVariants.{Migrate}
use Rattle.cluster_admin.specs.declared.admin.AdminReply.TheVariants as reply
use Rattle.cluster_admin.specs.Phases.{Phases}
use Rattle.cluster_admin.specs.declared.call.AdminCall.{AdminCall}
use Rattle.plan_language.specs.declared.plan_command.PlanCommand.{PlanCommand}
use Rattle.plan_language.specs.declared.plan_command.PlanCommand.TheVariants as planned
use Rattle.plan_semantics.specs.Plans.{tell}
use Rattle.plan_semantics.specs.Unrolling.{Pair, Unrolls, pair_calls}
use Rattle.telling_order.specs.AnyOrder.{IsReordered, IsSourceTold, TellsInAnotherOrder, TellsInAnyOrder}
use Rattle.telling_order.specs.SeenCalls.{AreReordered, AreSwapped}
use Rattle.plan_semantics.specs.Tellings.{LastTells}
use Rattle.telling_order.proofs.Unrollings.{unrolls_join}

-- ---- where a call stands among others

head_call : (c d : AdminCall) (cs ds : List AdminCall) → c ∷ cs ≡ d ∷ ds → c ≡ d
head_call c d cs ds e = cc

tail_calls : (c d : AdminCall) (cs ds : List AdminCall) → c ∷ cs ≡ d ∷ ds → cs ≡ ds
tail_calls c d cs ds e = cc

none_called : (x y : List AdminCall) (c : AdminCall) → [] ≡ x ++ c ∷ y → ⊥
none_called [] y c e = cc
none_called (d ∷ x) y c e = cc

-- a call that is none of the first ones stands after them
behind : (c : AdminCall) (pre rest x y : List AdminCall) → AllByRecursion (λ d. d.command ≢ c.command) pre
    → pre ++ rest ≡ x ++ c ∷ y → (x' : List AdminCall) × (x ≡ pre ++ x') × (rest ≡ x' ++ c ∷ y)
behind c [] rest x y apart e = (x, refl, e)
behind c (d ∷ pre) rest [] y apart e = absurd (apart.0 (ap (λ k. k.command) (head_call d c (pre ++ rest) y e)))
behind c (d ∷ pre) rest (f ∷ x) y apart e =
    let p = behind c pre rest x y apart.1 (tail_calls d f (pre ++ rest) (x ++ c ∷ y) e) in (
      p.0,
      ap (λ z. z ∷ x) (sym (head_call d f (pre ++ rest) (x ++ c ∷ y) e)) ∙ ap (λ z. d ∷ z) p.1,
      p.2,
    )

-- ---- where a plan tells a node

-- the plan is parted at the command that this call spells
pub record PartsAt (s t : ℕ) (plan : List PlanCommand) (x : List AdminCall) (c : AdminCall) (y : List AdminCall)
    : Type 0 where
  pub front : List PlanCommand
  pub back : List PlanCommand
  pub is : plan ≡ front ++ planned.SetNode s t c.node ∷ back
  pub so_far : Unrolls front x
  pub still : Unrolls back y

module _ (s t : ℕ) where
  -- after what a command stands for that tells nothing
  further : (o : PlanCommand) (pre : List AdminCall) (plan : List PlanCommand) (rest x : List AdminCall) (c : AdminCall)
      (y : List AdminCall) → Unrolls (o ∷ []) pre → AllByRecursion (λ d. d.command ≢ c.command) pre
      → pre ++ rest ≡ x ++ c ∷ y → Unrolls plan rest
      → ((x' : List AdminCall) → Unrolls plan (x' ++ c ∷ y) → PartsAt s t plan x' c y)
      → PartsAt s t (o ∷ plan) x c y
  further o pre plan rest x c y one apart e u more =
      let p = behind c pre rest x y apart e in
      let r = more p.0 (subst (Unrolls plan) p.2 u) in
      record {
        front = o ∷ r.front;
        back = r.back;
        is = ap (λ l. o ∷ l) r.is;
        so_far = subst (Unrolls (o ∷ r.front)) (sym p.1) (unrolls_join (o ∷ []) r.front pre p.0 one r.so_far);
        still = r.still;
      }

  same_telling : (s' m at o : ℕ) → SetNode s' m ≡ SetNode s t → at ≡ o
      → planned.SetNode s' m at ≡ planned.SetNode s t o
  same_telling s' m at o e same = cc

  other_command : (c : AdminCall) (k : AdminCommand) → c.command ≡ SetNode s t → k ≢ SetNode s t → k ≢ c.command
  other_command c k tells apart e = apart (e ∙ tells)

  drains_apart : (s' m t' b : ℕ) (c : AdminCall) → c.command ≡ SetNode s t → (ps : List Pair)
      → AllByRecursion (λ d. d.command ≢ c.command)
      (pair_calls s' m t' b ps ++ record { node = m; command = KeysIn s' b; reply = reply.Keys [] } ∷ [])
  drains_apart s' m t' b c tells [] = (other_command c (KeysIn s' b) tells (λ h. cc), tt)
  drains_apart s' m t' b c tells (p ∷ ps) = (
    other_command c (KeysIn s' b) tells (λ h. cc),
    (other_command c (Migrate (p.key ∷ p.keys) t') tells (λ h. cc), drains_apart s' m t' b c tells ps),
  )

  pub parts_at : (plan : List PlanCommand) (x : List AdminCall) (c : AdminCall) (y : List AdminCall)
      → c.command ≡ SetNode s t → Unrolls plan (x ++ c ∷ y) → PartsAt s t plan x c y
  parts_at [] x c y tells u = absurd (none_called x y c (sym u))
  parts_at (planned.Importing s' m at ∷ plan) x c y tells u =
      let own : AdminCall = record { node = at; command = Importing s' m; reply = u.0 } in
      further (planned.Importing s' m at) (own ∷ []) plan u.1 x c y (u.0, [], refl, refl)
      (other_command c (Importing s' m) tells (λ h. cc), tt) (sym u.2) u.3 (λ x' w. parts_at plan x' c y tells w)
  parts_at (planned.Migrating s' m at ∷ plan) x c y tells u =
      let own : AdminCall = record { node = at; command = Migrating s' m; reply = u.0 } in
      further (planned.Migrating s' m at) (own ∷ []) plan u.1 x c y (u.0, [], refl, refl)
      (other_command c (Migrating s' m) tells (λ h. cc), tt) (sym u.2) u.3 (λ x' w. parts_at plan x' c y tells w)
  parts_at (planned.Stable s' at ∷ plan) x c y tells u =
      let own : AdminCall = record { node = at; command = Stable s'; reply = u.0 } in
      further (planned.Stable s' at) (own ∷ []) plan u.1 x c y (u.0, [], refl, refl)
      (other_command c (Stable s') tells (λ h. cc), tt) (sym u.2) u.3 (λ x' w. parts_at plan x' c y tells w)
  parts_at (planned.Drain s' m t' b ∷ plan) x c y tells u =
      let last : AdminCall = record { node = m; command = KeysIn s' b; reply = reply.Keys [] } in
      let pairs = pair_calls s' m t' b u.0 in
      further (planned.Drain s' m t' b) (pairs ++ last ∷ []) plan u.1 x c y (u.0, [], refl, refl)
      (drains_apart s' m t' b c tells u.0) (append_assoc pairs (last ∷ []) u.1 ∙ sym u.2) u.3
      (λ x' w. parts_at plan x' c y tells w)
  parts_at (planned.SetNode s' m at ∷ plan) [] c y tells u =
      let own : AdminCall = record { node = at; command = SetNode s' m; reply = u.0 } in
      let here : c ≡ own = head_call c own y u.1 u.2 in
      record {
        front = [];
        back = plan;
        is = ap (λ k. k ∷ plan)
            (same_telling s' m at c.node (sym (ap (λ k. k.command) here) ∙ tells) (sym (ap (λ k. k.node) here)));
        so_far = refl;
        still = subst (Unrolls plan) (sym (tail_calls c own y u.1 u.2)) u.3;
      }
  parts_at (planned.SetNode s' m at ∷ plan) (d ∷ x) c y tells u =
      let own : AdminCall = record { node = at; command = SetNode s' m; reply = u.0 } in
      let r = parts_at plan x c y tells (subst (Unrolls plan) (sym (tail_calls d own (x ++ c ∷ y) u.1 u.2)) u.3) in
      record {
        front = planned.SetNode s' m at ∷ r.front;
        back = r.back;
        is = ap (λ l. planned.SetNode s' m at ∷ l) r.is;
        so_far = (u.0, x, ap (λ z. z ∷ x) (head_call d own (x ++ c ∷ y) u.1 u.2), r.so_far);
        still = r.still;
      }

-- only nothing stands for no call
pub none_left : (plan : List PlanCommand) → Unrolls plan [] → plan ≡ []
none_left [] u = refl
none_left (planned.Importing s m at ∷ plan) u = absurd (none_called [] u.1 _ u.2)
none_left (planned.Migrating s m at ∷ plan) u = absurd (none_called [] u.1 _ u.2)
none_left (planned.SetNode s m at ∷ plan) u = absurd (none_called [] u.1 _ u.2)
none_left (planned.Stable s at ∷ plan) u = absurd (none_called [] u.1 _ u.2)
none_left (planned.Drain s m t b ∷ plan) u = absurd (none_called (pair_calls s m t b u.0) u.1 _ u.2)

-- what comes first tells the node
pub next_tells : (s t : ℕ) (plan : List PlanCommand) (c : AdminCall) (y : List AdminCall) → c.command ≡ SetNode s t
    → Unrolls plan (c ∷ y) → (back : List PlanCommand) × (plan ≡ planned.SetNode s t c.node ∷ back) × Unrolls back y
next_tells s t plan c y tells u =
    let r = parts_at s t plan [] c y tells u in (
      r.back,
      r.is ∙ ap (λ l. l ++ planned.SetNode s t c.node ∷ r.back) (none_left r.front r.so_far),
      r.still,
    )

-- what comes last told another node than the owner: after it, the source was told
pub last_told_source : (phases : Phases) (s t : ℕ) (front : List PlanCommand) (cs : List AdminCall) → Unrolls front cs
    → LastTells s t cs → IsSourceTold phases front s t
last_told_source phases s t front cs u last =
    let r = parts_at s t front last.earlier last.told [] last.tells.tells (subst (Unrolls front) last.is u) in inl (
      r.front,
      last.told.node,
      last.tells.another,
      r.is ∙ ap (λ l. r.front ++ planned.SetNode s t last.told.node ∷ l) (none_left r.back r.still),
    )

-- ---- two calls the other way round

either_way : (p q : Bool) → (p || (q || false)) ≡ (q || (p || false))
either_way true true = refl
either_way true false = refl
either_way false true = refl
either_way false false = refl

two_reordered : (a b : ℕ) → a ≢ b → IsReordered (a ∷ b ∷ []) (b ∷ a ∷ [])
two_reordered a b apart = record {
  many = refl;
  distinct = (ap (λ z. z || false) (ne_eqb b a (λ h. apart (sym h))), (refl, tt));
  same = λ m. either_way (eqb m b) (eqb m a);
}

-- the plan with the two told the other way round
pub record SwapsTwo (plan : List PlanCommand) (cs : List AdminCall) : Type 0 where
  pub other : List PlanCommand
  pub unrolls : Unrolls other cs
  pub tells : (phases : Phases) (rest : List PlanCommand) → TellsInAnotherOrder phases (plan ++ rest) (other ++ rest)

module _ (s t : ℕ) (front : List PlanCommand) (told : ℕ) (back : List PlanCommand) where
  -- the source is told, and then these two
  abbrev plan_of : (a b : ℕ) → List PlanCommand
  plan_of a b = front ++ planned.SetNode s t told ∷ planned.SetNode s t a ∷ planned.SetNode s t b ∷ back

  grouped : (a b : ℕ) (rest : List PlanCommand)
      → plan_of a b ++ rest ≡ (front ++ planned.SetNode s t told ∷ []) ++ (tell s t (a ∷ b ∷ []) ++ (back ++ rest))
  grouped a b rest =
      append_assoc front (planned.SetNode s t told ∷ planned.SetNode s t a ∷ planned.SetNode s t b ∷ back) rest
      ∙ sym (append_assoc front (planned.SetNode s t told ∷ []) (tell s t (a ∷ b ∷ []) ++ (back ++ rest)))

  two_tell : (a b : ℕ) → told ≢ t → a ≢ b → (phases : Phases) (plan : List PlanCommand) → plan ≡ plan_of a b
      → (rest : List PlanCommand) → TellsInAnotherOrder phases (plan ++ rest) (plan_of b a ++ rest)
  two_tell a b another apart phases plan e rest = record {
    s = s;
    target = t;
    front = front ++ planned.SetNode s t told ∷ [];
    back = back ++ rest;
    nodes = a ∷ b ∷ [];
    nodes' = b ∷ a ∷ [];
    told = inl (front, told, another, refl);
    reordered = two_reordered a b apart;
    is = ap (λ l. l ++ rest) e ∙ grouped a b rest;
    other_is = grouped b a rest;
  }

pub swap : (plan : List PlanCommand) (cs cs' : List AdminCall) → AreSwapped cs cs' → Unrolls plan cs → SwapsTwo plan cs'
swap plan cs cs' w u =
    let s = w.s in
    let t = w.target in
    let p = parts_at s t plan w.before w.told (w.first ∷ w.second ∷ w.after) w.told_tells.tells
    (subst (Unrolls plan) w.is u) in
    let a = next_tells s t p.back w.first (w.second ∷ w.after) w.first_tells p.still in
    let b = next_tells s t a.0 w.second w.after w.second_tells a.2 in
    let told : PlanCommand = planned.SetNode s t w.told.node in
    let first : PlanCommand = planned.SetNode s t w.first.node in
    let second : PlanCommand = planned.SetNode s t w.second.node in
    let is : plan ≡ plan_of s t p.front w.told.node b.0 w.first.node w.second.node =
    p.is ∙ ap (λ l. p.front ++ told ∷ l) (a.1 ∙ ap (λ l. first ∷ l) b.1) in
    let other = plan_of s t p.front w.told.node b.0 w.second.node w.first.node in
    let unrolls : Unrolls other (w.before ++ w.told ∷ w.second ∷ w.first ∷ w.after) =
    unrolls_join p.front (told ∷ second ∷ first ∷ b.0) w.before (w.told ∷ w.second ∷ w.first ∷ w.after) p.so_far
    (spells_first s t w.told (w.second ∷ w.first ∷ w.after) (second ∷ first ∷ b.0) w.told_tells.tells
    (spells_first s t w.second (w.first ∷ w.after) (first ∷ b.0) w.second_tells
    (spells_first s t w.first w.after b.0 w.first_tells b.2))) in
    record {
      other = other;
      unrolls = subst (Unrolls other) (sym w.other_is) unrolls;
      tells = λ phases rest.
          two_tell s t p.front w.told.node b.0 w.first.node w.second.node w.told_tells.another w.apart phases plan is
          rest;
    }
  where
    spells_first : (s t : ℕ) (c : AdminCall) (y : List AdminCall) (q : List PlanCommand) → c.command ≡ SetNode s t
        → Unrolls q y → Unrolls (planned.SetNode s t c.node ∷ q) (c ∷ y)
    spells_first s t c y q tells u =
        (c.reply, y, ap (λ k. record { node = c.node; command = k; reply = c.reply } ∷ y) tells, u)

-- ---- any number of times

-- a plan that these calls spell tells the same nodes in another order, whatever follows
pub record TellsSo (plan : List PlanCommand) (cs : List AdminCall) : Type 0 where
  pub other : List PlanCommand
  pub unrolls : Unrolls other cs
  pub between : List (List PlanCommand)
  pub tells : (phases : Phases) (rest : List PlanCommand)
      → TellsInAnyOrder phases (plan ++ rest) (map (λ l. l ++ rest) between) (other ++ rest)

pub tells_so : (plan : List PlanCommand) (cs : List AdminCall) (between : List (List AdminCall)) (cs' : List AdminCall)
    → AreReordered cs between cs' → Unrolls plan cs → TellsSo plan cs'
tells_so plan cs [] cs' is u = record {
  other = plan;
  unrolls = subst (Unrolls plan) (sym is) u;
  between = [];
  tells = λ phases rest. refl;
}
tells_so plan cs (next ∷ more) cs' is u =
    let w = swap plan cs next is.0 u in
    let r = tells_so w.other next more cs' is.1 w.unrolls in
    record {
      other = r.other;
      unrolls = r.unrolls;
      between = w.other ∷ r.between;
      tells = λ phases rest. (w.tells phases rest, r.tells phases rest);
    }

-- more calls after them
swapped_before : (cs cs' more : List AdminCall) → AreSwapped cs cs' → AreSwapped (cs ++ more) (cs' ++ more)
swapped_before cs cs' more w = record {
  s = w.s;
  target = w.target;
  before = w.before;
  told = w.told;
  first = w.first;
  second = w.second;
  after = w.after ++ more;
  is = ap (λ l. l ++ more) w.is ∙ append_assoc w.before (w.told ∷ w.first ∷ w.second ∷ w.after) more;
  other_is = ap (λ l. l ++ more) w.other_is ∙ append_assoc w.before (w.told ∷ w.second ∷ w.first ∷ w.after) more;
  told_tells = w.told_tells;
  first_tells = w.first_tells;
  second_tells = w.second_tells;
  apart = w.apart;
}

pub reordered_before : (more cs : List AdminCall) (between : List (List AdminCall)) (cs' : List AdminCall)
    → AreReordered cs between cs' → AreReordered (cs ++ more) (map (λ l. l ++ more) between) (cs' ++ more)
reordered_before more cs [] cs' is = ap (λ l. l ++ more) is
reordered_before more cs (next ∷ rest) cs' is =
    (swapped_before cs next more is.0, reordered_before more next rest cs' is.1)
