-- Where a plan is not carried out whole, one command continues.
use Rattle.std.proofs.Common.{◌≡◌, ◌≢◌, ℕ, ◌<◌, List, [], ◌∷◌, ◌++◌, length, Option, Some, None, sym, refl, ap, ◌∙◌, subst, subst₂, inl, inr}
use Rattle.std.proofs.lemmas.Bool.{true≢false}
use Rattle.store_commands.specs.Store.{Key}
use Rattle.cluster_admin.specs.declared.admin.AdminCommand.{AdminCommand}
use Rattle.cluster_admin.specs.declared.admin.AdminCommand.TheVariants.{Importing, Migrating, SetNode, Stable, KeysIn}
use Rattle.cluster_admin.specs.declared.admin.AdminCommand.TheVariants.{Migrate}
use Rattle.cluster_admin.specs.declared.admin.AdminReply.{AdminReply}
use Rattle.cluster_admin.specs.declared.admin.AdminReply.TheVariants as reply
use Rattle.cluster_world.specs.Worlds.{World, owner, migrating, importing}
use Rattle.cluster_admin.specs.declared.call.AdminCall.{AdminCall}
use Rattle.cluster_world.specs.declared.event.Event.{Event}
use Rattle.cluster_world.specs.declared.event.Event.TheVariants.{Client, Look, Admin}
use Rattle.plan_language.specs.declared.plan_command.PlanCommand.{PlanCommand}
use Rattle.plan_language.specs.declared.plan_command.PlanCommand.TheVariants as planned
use Rattle.plan_semantics.specs.declared.order.Order.{Order}
use Rattle.plan_semantics.specs.Plans.{final_owner, part}
use Rattle.plan_semantics.specs.Driving.{remaining, called, Spells, Spelled, StopsAtRefusal, NoRefusal}
use Rattle.cluster_world.specs.AdminCalls.{calls}
use Rattle.reshard_theorem.specs.Driven.{DrivenTo}
use Rattle.plan_semantics.specs.Orders.{sending}
use Rattle.reshard_theorem.proofs.Base.{Base, ListedOk}
use Rattle.reshard_theorem.proofs.Turns.{opened, sent, told, stabled}
use Rattle.reshard_theorem.proofs.Admins.{slot_at, drain_turn}
use Rattle.plan_semantics.proofs.Unrolling.{spelled_by_prefixes, whole_by_spelled}
use Rattle.cluster_world.specs.Servers.{MayReply}
use Rattle.reshard_theorem.specs.ServerRuns.{SomeServerGoesOn}
use Rattle.reshard_theorem.proofs.Gains.{Drove, drove}

-- ---- one call more

pub calls-append : (es : List Event) (r : ℕ) (c : AdminCommand) (reply : AdminReply) → calls (es ++ Admin r c reply ∷ []) ≡ calls es ++ record { node = r; command = c; reply = reply } ∷ []
calls-append [] r c reply = refl
calls-append (Client seat x asking d reply' ∷ es) r c reply = calls-append es r c reply
calls-append (Look seat x reply' ∷ es) r c reply = calls-append es r c reply
calls-append (Admin r' c' reply' ∷ es) r c reply = ap (λ cs. record { node = r'; command = c'; reply = reply' } ∷ cs) (calls-append es r c reply)

pub spelled_more : (cs : List AdminCall) (c : AdminCall) (plan rest mid : List PlanCommand) (listed listed' mid_listed : Option (List Key))
    → Spelled (remaining plan listed) cs (remaining rest listed') → Spells (remaining rest listed') c (remaining mid mid_listed) → Spelled (remaining plan listed) (cs ++ c ∷ []) (remaining mid mid_listed)
spelled_more [] c plan rest mid listed listed' mid_listed d h = (remaining mid mid_listed, subst₂ (λ p l. Spells (remaining p l) c (remaining mid mid_listed)) d.0 d.1 h, (refl, refl))
spelled_more (a ∷ cs) c plan rest mid listed listed' mid_listed d h = (d.0, d.1, spelled_more cs c d.0.rest rest mid d.0.listed listed' mid_listed d.2 h)

pub stops_more : (cs : List AdminCall) (c : AdminCall) → NoRefusal cs → StopsAtRefusal (cs ++ c ∷ [])
stops_more [] c fine = (λ e. refl, tt)
stops_more (a ∷ cs) c fine = (λ e. absurd (true≢false (sym e ∙ fine.0)), stops_more cs c fine.1)

pub driven_more : (plan : List PlanCommand) (es : List Event) (rest mid : List PlanCommand) (listed mid_listed : Option (List Key)) (r : ℕ) (c : AdminCommand) (reply : AdminReply)
    → DrivenTo plan es (remaining rest listed) → NoRefusal (calls es) → Spells (remaining rest listed) (called r c reply) (remaining mid mid_listed) → DrivenTo plan (es ++ Admin r c reply ∷ []) (remaining mid mid_listed)
driven_more plan es rest mid listed mid_listed r c reply d fine h = subst (λ cs. Spelled (remaining plan None) cs (remaining mid mid_listed) × StopsAtRefusal cs) (sym (calls-append es r c reply))
    (spelled_more (calls es) (record { node = r; command = c; reply = reply }) plan rest mid None listed mid_listed d.0 h, stops_more (calls es) (record { node = r; command = c; reply = reply }) fine)

-- ---- what is left is determined

abbrev Same : List PlanCommand → List PlanCommand → Option (List Key) → Option (List Key) → Type 0
Same a b l m = (a ≡ b) × (l ≡ m)

some_keys : (k k' : Key) (ks ks' : List Key) → reply.Keys (k ∷ ks) ≡ reply.Keys (k' ∷ ks') → Some (k ∷ ks) ≡ Some (k' ∷ ks')
some_keys k k' ks ks' e = cc

no_keys : (k : Key) (ks : List Key) → reply.Keys [] ≡ reply.Keys (k ∷ ks) → ⊥
no_keys k ks e = cc

pub spells_same : (plan : List PlanCommand) (listed : Option (List Key)) (r : ℕ) (c : AdminCommand) (told : AdminReply) (a b : List PlanCommand) (l m : Option (List Key))
    → Spells (remaining plan listed) (called r c told) (remaining a l) → Spells (remaining plan listed) (called r c told) (remaining b m) → Same a b l m
spells_same [] listed r c told a b l m g h = absurd g
spells_same (planned.Importing s o at ∷ plan) None r c told a b l m g h = (g.2 ∙ sym h.2, g.3 ∙ sym h.3)
spells_same (planned.Importing s o at ∷ plan) (Some ks) r c told a b l m g h = absurd g
spells_same (planned.Migrating s o at ∷ plan) None r c told a b l m g h = (g.2 ∙ sym h.2, g.3 ∙ sym h.3)
spells_same (planned.Migrating s o at ∷ plan) (Some ks) r c told a b l m g h = absurd g
spells_same (planned.SetNode s o at ∷ plan) None r c told a b l m g h = (g.2 ∙ sym h.2, g.3 ∙ sym h.3)
spells_same (planned.Stable s at ∷ plan) None r c told a b l m g h = (g.2 ∙ sym h.2, g.3 ∙ sym h.3)
spells_same (planned.SetNode s o at ∷ plan) (Some ks) r c told a b l m g h = absurd g
spells_same (planned.Stable s at ∷ plan) (Some ks) r c told a b l m g h = absurd g
spells_same (planned.Drain s o t d ∷ plan) (Some ks) r c told a b l m g h = (g.2 ∙ sym h.2, g.3 ∙ sym h.3)
spells_same (planned.Drain s o t d ∷ plan) None r c told a b l m g h = elim g.2 [
  | inl u ↦ elim h.2 [
    | inl v ↦ (u.1 ∙ sym v.1, u.2 ∙ sym v.2)
    | inr v ↦ absurd (no_keys v.0 v.1 (sym u.0 ∙ v.2))
  ]
  | inr u ↦ elim h.2 [
    | inl v ↦ absurd (no_keys u.0 u.1 (sym v.0 ∙ u.2))
    | inr v ↦ (u.3 ∙ sym v.3, u.4 ∙ some_keys u.0 v.0 u.1 v.1 (sym u.2 ∙ v.2) ∙ sym v.4)
  ]
]

-- the last call spells what comes next of what the others left
pub spelled_last : (cs : List AdminCall) (c : AdminCall) (plan rest a : List PlanCommand) (listed listed' l : Option (List Key))
    → Spelled (remaining plan listed) cs (remaining rest listed') → Spelled (remaining plan listed) (cs ++ c ∷ []) (remaining a l) → Spells (remaining rest listed') c (remaining a l)
spelled_last [] c plan rest a listed listed' l d h =
    subst₂ (λ p q. Spells (remaining p q) c (remaining a l)) (sym d.0) (sym d.1) (subst₂ (λ p q. Spells (remaining plan listed) c (remaining p q)) (sym h.2.0) (sym h.2.1) h.1)
spelled_last (b ∷ cs) c plan rest a listed listed' l d h =
    let e = spells_same plan listed b.node b.command b.reply h.0.rest d.0.rest h.0.listed d.0.listed h.1 d.1 in
    spelled_last cs c d.0.rest rest a d.0.listed listed' l d.2 (subst₂ (λ p q. Spelled (remaining p q) (cs ++ c ∷ []) (remaining a l)) e.0 e.1 h.2)

order_is : {x y : Order} → Some x ≡ Some y → x ≡ y
order_is u = cc

-- a call that spells what comes next is the next command
pub next_only : (rest : List PlanCommand) (listed : Option (List Key)) (o : Order) (r : ℕ) (c : AdminCommand) (told : AdminReply) (a : List PlanCommand) (l : Option (List Key))
    → sending rest listed ≡ Some o → Spells (remaining rest listed) (called r c told) (remaining a l) → (r ≡ o.node) × (c ≡ o.command)
next_only [] listed o r c told a l e h = absurd h
next_only (planned.Importing s m at ∷ rest) None o r c told a l e h = let f = order_is e in (h.0 ∙ ap (λ x. x.node) f, h.1 ∙ ap (λ x. x.command) f)
next_only (planned.Importing s m at ∷ rest) (Some ks) o r c told a l e h = absurd h
next_only (planned.Migrating s m at ∷ rest) None o r c told a l e h = let f = order_is e in (h.0 ∙ ap (λ x. x.node) f, h.1 ∙ ap (λ x. x.command) f)
next_only (planned.Migrating s m at ∷ rest) (Some ks) o r c told a l e h = absurd h
next_only (planned.SetNode s m at ∷ rest) None o r c told a l e h = let f = order_is e in (h.0 ∙ ap (λ x. x.node) f, h.1 ∙ ap (λ x. x.command) f)
next_only (planned.Stable s at ∷ rest) None o r c told a l e h = let f = order_is e in (h.0 ∙ ap (λ x. x.node) f, h.1 ∙ ap (λ x. x.command) f)
next_only (planned.SetNode s m at ∷ rest) (Some ks) o r c told a l e h = absurd h
next_only (planned.Stable s at ∷ rest) (Some ks) o r c told a l e h = absurd h
next_only (planned.Drain s m t b ∷ rest) None o r c told a l e h = let f = order_is e in (h.0 ∙ ap (λ x. x.node) f, h.1 ∙ ap (λ x. x.command) f)
next_only (planned.Drain s m t b ∷ rest) (Some ks) o r c told a l e h = let f = order_is e in (h.0 ∙ ap (λ x. x.node) f, h.1 ∙ ap (λ x. x.command) f)

-- ---- the next command, and where it goes

none_sent : {o : Order} → None ≡ Some o → ⊥
none_sent e = cc

module _ (n : ℕ) (goal : ℕ → ℕ) (w : World) where
  -- it goes to a node of the world
  pub there_is : (rest : List PlanCommand) (listed : Option (List Key)) (o : Order) → Base n goal w rest listed → sending rest listed ≡ Some o → o.node < n
  there_is [] listed o b e = absurd (none_sent e)
  there_is (planned.Importing s m at ∷ rest) listed o b e =
      subst (λ (x : Order). x.node < n) (order_is e) (opened n (goal s) s (λ m. owner w m s) (λ m. owner w m s) (λ m. migrating w m s) (λ m. migrating w m s) (λ m. importing w m s) (λ m. importing w m s) (part rest s) m at (slot_at n goal w rest (planned.Importing s m at) listed b).0).target_below
  there_is (planned.Migrating s m at ∷ rest) listed o b e =
      let turn = sent n (goal s) s (λ m. owner w m s) (λ m. owner w m s) (λ m. migrating w m s) (λ m. migrating w m s) (λ m. importing w m s) (λ m. importing w m s) (part rest s) m at (slot_at n goal w rest (planned.Migrating s m at) listed b).0 in
      subst (λ (x : Order). x.node < n) (order_is e) (subst (λ y. y < n) (sym turn.1.at_source) turn.1.source_below)
  there_is (planned.SetNode s m at ∷ rest) listed o b e =
      subst (λ (x : Order). x.node < n) (order_is e) (told n (goal s) s (λ m. owner w m s) (λ m. owner w m s) (λ m. migrating w m s) (λ m. migrating w m s) (λ m. importing w m s) (λ m. importing w m s) (part rest s) m at (slot_at n goal w rest (planned.SetNode s m at) listed b).0).at_below
  there_is (planned.Stable s at ∷ rest) listed o b e =
      subst (λ (x : Order). x.node < n) (order_is e) (stabled n (goal s) s (λ m. owner w m s) (λ m. owner w m s) (λ m. migrating w m s) (λ m. migrating w m s) (λ m. importing w m s) (λ m. importing w m s) (part rest s) at (slot_at n goal w rest (planned.Stable s at) listed b).0).two.target_below
  there_is (planned.Drain s m t k ∷ rest) None o b e =
      subst (λ (x : Order). x.node < n) (order_is e) (drain_turn n goal w rest s m t k None b w).2.source_below
  there_is (planned.Drain s m t k ∷ rest) (Some ks) o b e =
      subst (λ (x : Order). x.node < n) (order_is e) (drain_turn n goal w rest s m t k (Some ks) b w).2.source_below

  -- and with any reply that the server may give it spells what comes next
  pub record NextStep (rest : List PlanCommand) (listed : Option (List Key)) : Type 0 where
    pub order : Order
    pub is_next : sending rest listed ≡ Some order
    pub spells : (reply : AdminReply) → MayReply w order.node order.command reply
        → (mid : List PlanCommand) × (mid_listed : Option (List Key)) × Spells (remaining rest listed) (called order.node order.command reply) (remaining mid mid_listed)

  pub next_step : (rest : List PlanCommand) (listed : Option (List Key)) → ListedOk rest listed → rest ≢ [] → NextStep rest listed
  next_step [] listed b e = absurd (e refl)
  next_step (planned.Importing s m at ∷ rest) None b e = record { order = record { node = at; command = Importing s m }; is_next = refl; spells = λ told may. (rest, None, (refl, refl, refl, refl)) }
  next_step (planned.Importing s m at ∷ rest) (Some ks) b e = absurd b
  next_step (planned.Migrating s m at ∷ rest) None b e = record { order = record { node = at; command = Migrating s m }; is_next = refl; spells = λ told may. (rest, None, (refl, refl, refl, refl)) }
  next_step (planned.Migrating s m at ∷ rest) (Some ks) b e = absurd b
  next_step (planned.SetNode s m at ∷ rest) None b e = record { order = record { node = at; command = SetNode s m }; is_next = refl; spells = λ told may. (rest, None, (refl, refl, refl, refl)) }
  next_step (planned.Stable s at ∷ rest) None b e = record { order = record { node = at; command = Stable s }; is_next = refl; spells = λ told may. (rest, None, (refl, refl, refl, refl)) }
  next_step (planned.SetNode s m at ∷ rest) (Some ks) b e = absurd b
  next_step (planned.Stable s at ∷ rest) (Some ks) b e = absurd b
  next_step (planned.Drain s m t k ∷ rest) (Some ks) b e = record { order = record { node = m; command = Migrate ks t }; is_next = refl; spells = λ told may. (planned.Drain s m t k ∷ rest, None, (refl, refl, refl, refl)) }
  next_step (planned.Drain s m t k ∷ rest) None b e = record { order = record { node = m; command = KeysIn s k }; is_next = refl; spells = λ told may. by told may.0 may.1 }
    where
      by : (told : AdminReply) (ks : List Key) → told ≡ reply.Keys ks
          → (mid : List PlanCommand) × (mid_listed : Option (List Key)) × Spells (remaining (planned.Drain s m t k ∷ rest) None) (called m (KeysIn s k) told) (remaining mid mid_listed)
      by told [] p = (rest, None, (refl, refl, inl (p, refl, refl)))
      by told (q ∷ ks) p = (planned.Drain s m t k ∷ rest, Some (q ∷ ks), (refl, refl, inr (q, ks, p, refl, refl)))

-- ---- the law

pub none_open : (rest : List PlanCommand) (listed : Option (List Key)) → ListedOk rest listed → rest ≡ [] → listed ≡ None
none_open rest None h e = refl
none_open [] (Some ks) h e = absurd h
none_open (o ∷ rest) (Some ks) h e = cc

pub some_command_goes_on : SomeServerGoesOn
some_command_goes_on reshard events last left run fine not_whole =
    let d : Drove (length reshard.first.nodes) (final_owner reshard.plan reshard.phases) reshard.first last left.rest left.listed events = drove reshard events last left run in
    let more : left.rest ≢ [] = λ e. not_whole (whole_by_spelled reshard.plan (calls events) (subst₂ (λ r l. Spelled (remaining reshard.plan None) (calls events) (remaining r l)) e (none_open left.rest left.listed d.base.listing e) run.driven.0)) in
    let next : NextStep (length reshard.first.nodes) (final_owner reshard.plan reshard.phases) last left.rest left.listed = next_step (length reshard.first.nodes) (final_owner reshard.plan reshard.phases) last left.rest left.listed d.base.listing more in
    record {
      order = next.order;
      is_next = next.is_next;
      there = subst (λ k. next.order.node < k) (sym d.base.size) (there_is (length reshard.first.nodes) (final_owner reshard.plan reshard.phases) last left.rest left.listed next.order d.base next.is_next);
      driven = λ told may.
          let n = next.spells told may in
          (remaining n.0 n.1, driven_more reshard.plan events left.rest n.0 left.listed n.1 next.order.node next.order.command told run.driven fine n.2);
      only = λ c f.
          let s = (spelled_by_prefixes reshard.plan (calls events ++ c ∷ [])).0.0 f in
          next_only left.rest left.listed next.order c.node c.command c.reply s.0.rest s.0.listed next.is_next (spelled_last (calls events) c reshard.plan left.rest s.0.rest None left.listed s.0.listed run.driven.0 s.1);
    }
