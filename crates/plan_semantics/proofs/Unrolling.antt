-- A prefix of an unrolling drives a run.
use Rattle.std.proofs.Common.{◌≡◌, ℕ, List, [], ◌∷◌, ◌++◌, Option, Some, None, sym, refl, ap, ◌∙◌, subst, subst₂, inl, inr, append-nil}
use Rattle.cluster_admin.specs.Keys.{Key}
use Rattle.cluster_admin.specs.declared.admin.AdminCommand.{AdminCommand}
use Rattle.cluster_admin.specs.declared.admin.AdminCommand.TheVariants.{Importing, Migrating, SetNode, Stable, KeysIn}
use Rattle.cluster_admin.specs.declared.admin.AdminCommand.TheVariants.{Migrate}
use Rattle.cluster_admin.specs.declared.admin.AdminReply.{AdminReply}
use Rattle.cluster_admin.specs.declared.admin.AdminReply.TheVariants.{Ok, Keys}
use Rattle.plan_language.specs.declared.plan_command.PlanCommand.{PlanCommand}
use Rattle.plan_language.specs.declared.plan_command.PlanCommand.TheVariants as planned
use Rattle.plan_semantics.specs.Driving.{Remaining, remaining, called, Spells, Spelled}
use Rattle.cluster_admin.specs.declared.call.AdminCall.{AdminCall}
use Rattle.plan_semantics.specs.Unrolling.{Pair, pair_calls, Unrolls, IsPrefix, SpelledByPrefixes}

-- with an open listing, its MIGRATE comes first
Goes : List PlanCommand → Option (List Key) → List AdminCall → Type 0
Goes plan None cs = Unrolls plan cs
Goes [] (Some ks) cs = ⊥
Goes (planned.Importing s m at ∷ plan) (Some ks) cs = ⊥
Goes (planned.Migrating s m at ∷ plan) (Some ks) cs = ⊥
Goes (planned.SetNode s m at ∷ plan) (Some ks) cs = ⊥
Goes (planned.Stable s at ∷ plan) (Some ks) cs = ⊥
Goes (planned.Drain s m t b ∷ plan) (Some ks) cs = (reply : AdminReply) × (rest : List AdminCall) × (cs ≡ record { node = m; command = Migrate ks t; reply = reply } ∷ rest) × Unrolls (planned.Drain s m t b ∷ plan) rest

record Turn (plan : List PlanCommand) (listed : Option (List Key)) (c : AdminCall) (cs : List AdminCall) : Type 0 where
  rest : List PlanCommand
  listed' : Option (List Key)
  spells : Spells (remaining plan listed) (called c.node c.command c.reply) (remaining rest listed')
  goes : Goes rest listed' cs

same_node : (c d : AdminCall) (cs ds : List AdminCall) → c ∷ cs ≡ d ∷ ds → c ≡ d
same_node c d cs ds e = cc

same_rest : (c d : AdminCall) (cs ds : List AdminCall) → c ∷ cs ≡ d ∷ ds → cs ≡ ds
same_rest c d cs ds e = cc

turn : (plan : List PlanCommand) (listed : Option (List Key)) (c : AdminCall) (cs : List AdminCall) → Goes plan listed (c ∷ cs) → Turn plan listed c cs
unfolding Goes
turn [] None c cs g = absurd (no_cons g)
  where
    no_cons : c ∷ cs ≡ [] → ⊥
    no_cons e = cc
turn [] (Some ks) c cs g = absurd g
turn (planned.Importing s m at ∷ plan) None c cs g = let e = same_node _ _ _ _ g.2 in record { rest = plan; listed' = None; spells = (ap (λ x. x.node) e, ap (λ x. x.command) e, refl, refl); goes = subst (Unrolls plan) (sym (same_rest _ _ _ _ g.2)) g.3 }
turn (planned.Importing s m at ∷ plan) (Some ks) c cs g = absurd g
turn (planned.Migrating s m at ∷ plan) None c cs g = let e = same_node _ _ _ _ g.2 in record { rest = plan; listed' = None; spells = (ap (λ x. x.node) e, ap (λ x. x.command) e, refl, refl); goes = subst (Unrolls plan) (sym (same_rest _ _ _ _ g.2)) g.3 }
turn (planned.Migrating s m at ∷ plan) (Some ks) c cs g = absurd g
turn (planned.SetNode s m at ∷ plan) None c cs g = let e = same_node _ _ _ _ g.2 in record { rest = plan; listed' = None; spells = (ap (λ x. x.node) e, ap (λ x. x.command) e, refl, refl); goes = subst (Unrolls plan) (sym (same_rest _ _ _ _ g.2)) g.3 }
turn (planned.Stable s at ∷ plan) None c cs g = let e = same_node _ _ _ _ g.2 in record { rest = plan; listed' = None; spells = (ap (λ x. x.node) e, ap (λ x. x.command) e, refl, refl); goes = subst (Unrolls plan) (sym (same_rest _ _ _ _ g.2)) g.3 }
turn (planned.SetNode s m at ∷ plan) (Some ks) c cs g = absurd g
turn (planned.Stable s at ∷ plan) (Some ks) c cs g = absurd g
turn (planned.Drain s m t b ∷ plan) (Some ks) c cs g = let e = same_node _ _ _ _ g.2 in record { rest = planned.Drain s m t b ∷ plan; listed' = None; spells = (ap (λ x. x.node) e, ap (λ x. x.command) e, refl, refl); goes = subst (Unrolls (planned.Drain s m t b ∷ plan)) (sym (same_rest _ _ _ _ g.2)) g.3 }
turn (planned.Drain s m t b ∷ plan) None c cs g = by g.0 g.2
  where
    by : (pairs : List Pair) → c ∷ cs ≡ pair_calls s m t b pairs ++ record { node = m; command = KeysIn s b; reply = Keys [] } ∷ g.1 → Turn (planned.Drain s m t b ∷ plan) None c cs
    by [] e = let f = same_node _ _ _ _ e in record {
      rest = plan;
      listed' = None;
      spells = (ap (λ x. x.node) f, ap (λ x. x.command) f, inl (ap (λ x. x.reply) f, refl, refl));
      goes = subst (Unrolls plan) (sym (same_rest _ _ _ _ e)) g.3;
    }
    by (p ∷ ps) e = let f = same_node _ _ _ _ e in record {
      rest = planned.Drain s m t b ∷ plan;
      listed' = Some (p.key ∷ p.keys);
      spells = (ap (λ x. x.node) f, ap (λ x. x.command) f, inr (p.key, p.keys, ap (λ x. x.reply) f, refl, refl));
      goes = (p.reply, _, same_rest _ _ _ _ e, (ps, g.1, refl, g.3));
    }

drives : (plan : List PlanCommand) (listed : Option (List Key)) (cs more : List AdminCall) → Goes plan listed (cs ++ more)
    → (left : Remaining) × Spelled (remaining plan listed) cs left × Goes left.rest left.listed more
drives plan listed [] more g = (remaining plan listed, (refl, refl), g)
drives plan listed (c ∷ cs) more g =
    let t = turn plan listed c (cs ++ more) g in
    let d = drives t.rest t.listed' cs more t.goes in
    (d.0, (remaining t.rest t.listed', t.spells, d.1), d.2)

spelled_by_prefix : (plan : List PlanCommand) (cs : List AdminCall) → IsPrefix plan cs → (left : Remaining) × Spelled (remaining plan None) cs left
unfolding Goes
spelled_by_prefix plan cs prefix = let d = drives plan None cs prefix.0 prefix.1 in (d.0, d.1)

-- a whole unrolling leaves nothing
at_end : (rest : List PlanCommand) (listed : Option (List Key)) → Goes rest listed [] → (rest ≡ []) × (listed ≡ None)
unfolding Goes
at_end [] None g = (refl, refl)
at_end [] (Some ks) g = absurd g
at_end (planned.Importing s m at ∷ plan) None g = cc (g.2)
at_end (planned.Importing s m at ∷ plan) (Some ks) g = absurd g
at_end (planned.Migrating s m at ∷ plan) None g = cc (g.2)
at_end (planned.Migrating s m at ∷ plan) (Some ks) g = absurd g
at_end (planned.SetNode s m at ∷ plan) None g = cc (g.2)
at_end (planned.Stable s at ∷ plan) None g = cc (g.2)
at_end (planned.SetNode s m at ∷ plan) (Some ks) g = absurd g
at_end (planned.Stable s at ∷ plan) (Some ks) g = absurd g
at_end (planned.Drain s m t b ∷ plan) (Some ks) g = cc (g.2)
at_end (planned.Drain s m t b ∷ plan) None g = by g.0 g.2
  where
    by : (pairs : List Pair) → [] ≡ pair_calls s m t b pairs ++ record { node = m; command = KeysIn s b; reply = Keys [] } ∷ g.1 → (planned.Drain s m t b ∷ plan ≡ []) × (◌≡◌ {A = Option (List Key)} None None)
    by [] e = cc
    by (p ∷ ps) e = cc

pub spelled_by_whole : (plan : List PlanCommand) (cs : List AdminCall) → Unrolls plan cs → Spelled (remaining plan None) cs (remaining [] None)
unfolding Goes
spelled_by_whole plan cs whole =
    let d = drives plan None cs [] (subst (Unrolls plan) (sym (append-nil cs)) whole) in
    let e = at_end d.0.rest d.0.listed d.2 in
    subst (λ l. Spelled (remaining plan None) cs (remaining [] l)) e.1 (subst (λ r. Spelled (remaining plan None) cs (remaining r d.0.listed)) e.0 d.1)

-- ---- the other way round: what drives a run is a prefix of an unrolling

-- an open listing stands before its drain
IsOpen : List PlanCommand → Option (List Key) → Type 0
IsOpen plan None = Unit {0}
IsOpen [] (Some ks) = ⊥
IsOpen (planned.Importing s m at ∷ plan) (Some ks) = ⊥
IsOpen (planned.Migrating s m at ∷ plan) (Some ks) = ⊥
IsOpen (planned.SetNode s m at ∷ plan) (Some ks) = ⊥
IsOpen (planned.Stable s at ∷ plan) (Some ks) = ⊥
IsOpen (planned.Drain s m t b ∷ plan) (Some ks) = Unit {0}

-- some way to the end
finish : (plan : List PlanCommand) → (cs : List AdminCall) × Unrolls plan cs
finish [] = ([], refl)
finish (planned.Importing s m at ∷ plan) = let f = finish plan in (record { node = at; command = Importing s m; reply = Ok } ∷ f.0, (Ok, f.0, refl, f.1))
finish (planned.Migrating s m at ∷ plan) = let f = finish plan in (record { node = at; command = Migrating s m; reply = Ok } ∷ f.0, (Ok, f.0, refl, f.1))
finish (planned.SetNode s m at ∷ plan) = let f = finish plan in (record { node = at; command = SetNode s m; reply = Ok } ∷ f.0, (Ok, f.0, refl, f.1))
finish (planned.Stable s at ∷ plan) = let f = finish plan in (record { node = at; command = Stable s; reply = Ok } ∷ f.0, (Ok, f.0, refl, f.1))
finish (planned.Drain s m t b ∷ plan) = let f = finish plan in (record { node = m; command = KeysIn s b; reply = Keys [] } ∷ f.0, ([], f.0, refl, f.1))

to_end : (plan : List PlanCommand) (listed : Option (List Key)) → IsOpen plan listed → (cs : List AdminCall) × Goes plan listed cs
unfolding Goes IsOpen
to_end plan None h = finish plan
to_end [] (Some ks) h = absurd h
to_end (planned.Importing s m at ∷ plan) (Some ks) h = absurd h
to_end (planned.Migrating s m at ∷ plan) (Some ks) h = absurd h
to_end (planned.SetNode s m at ∷ plan) (Some ks) h = absurd h
to_end (planned.Stable s at ∷ plan) (Some ks) h = absurd h
to_end (planned.Drain s m t b ∷ plan) (Some ks) h = let f = finish (planned.Drain s m t b ∷ plan) in (record { node = m; command = Migrate ks t; reply = Ok } ∷ f.0, (Ok, f.0, refl, f.1))

same_call : (r r' : ℕ) (c c' : AdminCommand) (reply : AdminReply) (cs : List AdminCall) → r ≡ r' → c ≡ c'
    → record { node = r; command = c; reply = reply } ∷ cs ≡ record { node = r'; command = c'; reply = reply } ∷ cs
same_call r r' c c' reply cs p q = λ i. record { node = p i; command = q i; reply = reply } ∷ cs

-- one call in front
back : (plan : List PlanCommand) (listed : Option (List Key)) (r : ℕ) (c : AdminCommand) (reply : AdminReply) (mid : List PlanCommand) (mid_listed : Option (List Key)) (cs : List AdminCall)
    → Spells (remaining plan listed) (called r c reply) (remaining mid mid_listed) → Goes mid mid_listed cs → Goes plan listed (record { node = r; command = c; reply = reply } ∷ cs)
unfolding Goes
back [] listed r c reply mid mid_listed cs h g = absurd h
back (planned.Importing s m at ∷ plan) None r c reply mid mid_listed cs h g = (reply, cs, same_call _ _ _ _ reply cs h.0 h.1, subst₂ (λ p l. Goes p l cs) h.2 h.3 g)
back (planned.Importing s m at ∷ plan) (Some ks) r c reply mid mid_listed cs h g = absurd h
back (planned.Migrating s m at ∷ plan) None r c reply mid mid_listed cs h g = (reply, cs, same_call _ _ _ _ reply cs h.0 h.1, subst₂ (λ p l. Goes p l cs) h.2 h.3 g)
back (planned.Migrating s m at ∷ plan) (Some ks) r c reply mid mid_listed cs h g = absurd h
back (planned.SetNode s m at ∷ plan) None r c reply mid mid_listed cs h g = (reply, cs, same_call _ _ _ _ reply cs h.0 h.1, subst₂ (λ p l. Goes p l cs) h.2 h.3 g)
back (planned.Stable s at ∷ plan) None r c reply mid mid_listed cs h g = (reply, cs, same_call _ _ _ _ reply cs h.0 h.1, subst₂ (λ p l. Goes p l cs) h.2 h.3 g)
back (planned.SetNode s m at ∷ plan) (Some ks) r c reply mid mid_listed cs h g = absurd h
back (planned.Stable s at ∷ plan) (Some ks) r c reply mid mid_listed cs h g = absurd h
back (planned.Drain s m t b ∷ plan) (Some ks) r c reply mid mid_listed cs h g = (reply, cs, same_call _ _ _ _ reply cs h.0 h.1, subst₂ (λ p l. Goes p l cs) h.2 h.3 g)
back (planned.Drain s m t b ∷ plan) None r c reply mid mid_listed cs h g = elim h.2 [
  | inl u ↦ ([], cs, (λ i. record { node = h.0 i; command = h.1 i; reply = u.0 i } ∷ cs), subst₂ (λ p l. Goes p l cs) u.1 u.2 g)
  | inr u ↦ (let g' : Goes (planned.Drain s m t b ∷ plan) (Some (u.0 ∷ u.1)) cs = subst₂ (λ p l. Goes p l cs) u.3 u.4 g in
      (record { key = u.0; keys = u.1; reply = g'.0 } ∷ g'.3.0, g'.3.1, (λ i. record { node = h.0 i; command = h.1 i; reply = u.2 i } ∷ (g'.2 ∙ ap (λ x. record { node = m; command = Migrate (u.0 ∷ u.1) t; reply = g'.0 } ∷ x) g'.3.2) i), g'.3.3))
]

stays_open : (plan : List PlanCommand) (listed : Option (List Key)) (r : ℕ) (c : AdminCommand) (reply : AdminReply) (mid : List PlanCommand) (mid_listed : Option (List Key)) → Spells (remaining plan listed) (called r c reply) (remaining mid mid_listed) → IsOpen mid mid_listed
unfolding IsOpen
stays_open [] listed r c reply mid mid_listed h = absurd h
stays_open (planned.Importing s m at ∷ plan) None r c reply mid mid_listed h = subst (IsOpen mid) (sym h.3) tt
stays_open (planned.Importing s m at ∷ plan) (Some ks) r c reply mid mid_listed h = absurd h
stays_open (planned.Migrating s m at ∷ plan) None r c reply mid mid_listed h = subst (IsOpen mid) (sym h.3) tt
stays_open (planned.Migrating s m at ∷ plan) (Some ks) r c reply mid mid_listed h = absurd h
stays_open (planned.SetNode s m at ∷ plan) None r c reply mid mid_listed h = subst (IsOpen mid) (sym h.3) tt
stays_open (planned.Stable s at ∷ plan) None r c reply mid mid_listed h = subst (IsOpen mid) (sym h.3) tt
stays_open (planned.SetNode s m at ∷ plan) (Some ks) r c reply mid mid_listed h = absurd h
stays_open (planned.Stable s at ∷ plan) (Some ks) r c reply mid mid_listed h = absurd h
stays_open (planned.Drain s m t b ∷ plan) (Some ks) r c reply mid mid_listed h = subst (IsOpen mid) (sym h.3) tt
stays_open (planned.Drain s m t b ∷ plan) None r c reply mid mid_listed h = elim h.2 [
  | inl u ↦ subst (IsOpen mid) (sym u.2) tt
  | inr u ↦ subst₂ IsOpen (sym u.3) (sym u.4) tt
]

front_of : (cs : List AdminCall) (plan : List PlanCommand) (listed : Option (List Key)) (rest : List PlanCommand) (listed' : Option (List Key)) → IsOpen plan listed → Spelled (remaining plan listed) cs (remaining rest listed')
    → (more : List AdminCall) × Goes plan listed (cs ++ more) × (rest ≡ [] → more ≡ [])
unfolding to_end finish
front_of [] plan listed rest listed' o d = let f = to_end plan listed o in (f.0, f.1, λ e. none plan listed o (sym d.0 ∙ e))
  where
    none : (plan : List PlanCommand) (listed : Option (List Key)) (o : IsOpen plan listed) → plan ≡ [] → (to_end plan listed o).0 ≡ []
    none [] None o e = refl
    none [] (Some ks) o e = absurd o
    none (x ∷ plan) listed o e = cc
front_of (c ∷ cs) plan listed rest listed' o d =
    let f = front_of cs d.0.rest d.0.listed rest listed' (stays_open plan listed c.node c.command c.reply d.0.rest d.0.listed d.1) d.2 in
    (f.0, back plan listed c.node c.command c.reply d.0.rest d.0.listed (cs ++ f.0) d.1 f.1, f.2)

front_by_spelled : (plan : List PlanCommand) (cs : List AdminCall) (rest : List PlanCommand) (listed : Option (List Key)) → Spelled (remaining plan None) cs (remaining rest listed) → IsPrefix plan cs
unfolding Goes IsOpen
front_by_spelled plan cs rest listed d = let f = front_of cs plan None rest listed tt d in (f.0, f.1)

pub whole_by_spelled : (plan : List PlanCommand) (cs : List AdminCall) → Spelled (remaining plan None) cs (remaining [] None) → Unrolls plan cs
unfolding Goes IsOpen
whole_by_spelled plan cs d =
    let f = front_of cs plan None [] None tt d in
    subst (Unrolls plan) (ap (λ x. cs ++ x) (f.2 refl) ∙ append-nil cs) f.1

pub spelled_by_prefixes : SpelledByPrefixes
spelled_by_prefixes plan cs = ((λ f. spelled_by_prefix plan cs f, λ d. front_by_spelled plan cs d.0.rest d.0.listed d.1), (λ u. spelled_by_whole plan cs u, λ d. whole_by_spelled plan cs d))
