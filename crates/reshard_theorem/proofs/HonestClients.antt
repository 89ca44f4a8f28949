-- An honest client's command keeps the invariant.
use Rattle.std.proofs.Common.{◌≡◌, ◌⊎◌, ℕ, ◌<◌, Bool, true, false, eqb, List, ◌∷◌, length, Option, Some, None, is_some, sym, refl, ap, ◌∙◌, subst, inl, inr}
use Rattle.std.proofs.lemmas.Bool.{cases_Bool, cases_eq, true≢false, eqb-true}
use Rattle.std.specs.FinMap.{get}
use Rattle.key_slots.specs.HashSlot.{slot_of}
use Rattle.typed_values.specs.declared.value.Value.{Value}
use Rattle.resp2_wire.specs.declared.reply.Reply.{Reply}
use Rattle.store_commands.specs.Store.{Key, Store, is_named}
use Rattle.store_commands.specs.Act.{act}
use Rattle.store_commands.specs.Apply.{answer, apply, look_up}
use Rattle.store_commands.proofs.Named.{answer_is, get-apply, wrote, wrote-other, look_up-agree}
use Rattle.client_commands.specs.Commands.{keys}
use Rattle.client_commands.specs.declared.command.Command.{Command}
use Rattle.slot_marks.specs.Verdicts.{is_cross, first_slot}
use Rattle.slot_marks.specs.declared.verdict.Verdict.{Verdict}
use Rattle.slot_marks.specs.declared.verdict.Verdict.TheVariants.{Serve, Ask}
use Rattle.cluster_node.specs.Nodes.{is_serve}
use Rattle.cluster_node.specs.Redirections.{redirection}
use Rattle.cluster_world.specs.Worlds.{World, node_at, verdict, migrating, held}
use Rattle.cluster_world.specs.Steps.{after, Answers}
use Rattle.cluster_world.specs.Serving.{is_redirection}
use Rattle.cluster_world.specs.declared.event.Event.{Event}
use Rattle.cluster_world.specs.declared.event.Event.TheVariants.{Client}
use Rattle.cluster_world.proofs.Telling.{answered, redirect_told}
use Rattle.plan_language.specs.declared.plan_command.PlanCommand.{PlanCommand}
use Rattle.plan_semantics.specs.Plans.{part}
use Rattle.cluster_world.specs.Honesty.{WasAsked, IsEarned}
use Rattle.reshard_theorem.proofs.Split.{Contents, alone_agrees, serve_splits}
use Rattle.reshard_theorem.proofs.Verdicts.{ServedBy, served_by, AskedBy, asked_by}
use Rattle.reshard_theorem.proofs.Phases.{Phase, Closed, Importing, Migrating, Drained, TargetTold, SourceTold, goes_in, may_hold, AskFine, Rest, Data, Fits, fits_in, named_slot, ask_kept, none_cond}
use Rattle.reshard_theorem.proofs.Base.{Base, Inv, MarksIn, Stays}
use Rattle.reshard_theorem.proofs.Asks.{told_is_ask}
use Rattle.reshard_theorem.proofs.Served.{served_world, served_port, served_elsewhere, served_at, served_unnamed}
use Rattle.reshard_theorem.proofs.Clients.{is_serve_Serve, served_base, after_served, after_told, reply_served, reply_told}

-- an ASK is given only where the phase allows it
ask_fine_in : (n goal s : ℕ) (phase : Phase) (rest : List PlanCommand) (has : Contents) (ks : List Key) (x m to : ℕ) → Rest n goal s phase rest
    → goes_in phase x ≡ Some m → ((q : Key) → is_named q ks ≡ true → has x q ≡ None) → AskFine phase has ks to
ask_fine_in n goal s (Closed o) rest has ks x m to left e missing = tt
ask_fine_in n goal s (Importing o t) rest has ks x m to left e missing = cc
ask_fine_in n goal s (Migrating o t) rest has ks x m to left e missing =
    λ p q i. subst (λ y. has y q ≡ None) (eqb-true x o (none_cond (eqb x o) t (λ u. true≢false (ap is_some (sym e ∙ u))))) (missing q i)
ask_fine_in n goal s (Drained o t) rest has ks x m to left e missing = tt
ask_fine_in n goal s (TargetTold o t) rest has ks x m to left e missing = tt
ask_fine_in n goal s (SourceTold o t redirection) rest has ks x m to left e missing = tt

module _ (n : ℕ) (goal : ℕ → ℕ) (w : World) (past : List Event) (plan : List PlanCommand) (listed : Option (List Key)) (store : Store)
    (seat x : ℕ) (asking : Bool) (c : Command) (reply : Reply) where
  served_slot_fits : (inv : Inv n goal w past plan listed store) → x < length w.nodes → IsEarned w past (Client seat x asking c reply) → ServedBy w x asking (keys c)
      → Fits (inv.base.marks (first_slot (keys c))).phase (held w) x (keys c)
  served_slot_fits inv inside earned by =
      let ok : MarksIn n goal w plan (first_slot (keys c)) = inv.base.marks (first_slot (keys c)) in
      let lies : Data w.base_port (first_slot (keys c)) ok.phase (held w) past = inv.lies (first_slot (keys c)) in
      fits_in (first_slot (keys c)) (held w) (get store) (keys c) inv.split by.one_slot refl n (goal (first_slot (keys c))) ok.phase (part plan (first_slot (keys c))) ok.left x lies.place
      (elim by.why [
        | inl u ↦ inl (λ none. u.0 (ok.coming x ∙ none), lies.asked (keys c) x (earned u.1 by.one_slot u.0) by.one_slot refl)
        | inr u ↦ inr (sym (ok.owners x (subst (λ k. x < k) inv.base.size inside)) ∙ u.0, λ some. u.1 (λ none. some (sym (ok.going x) ∙ none)))
      ])

  served_step : (inv : Inv n goal w past plan listed store) → x < length w.nodes → IsEarned w past (Client seat x asking c reply) → ServedBy w x asking (keys c)
      → reply ≡ answer (node_at w x).held c
      → (reply ≡ answer store c) × Inv n goal (served_world w x c) (Client seat x asking c reply ∷ past) plan listed (apply store c)
  served_step inv inside earned by gave = (
    gave ∙ same_answer,
    record {
      base = new.0;
      lies = λ t. subst (λ p. Data p t (new.0.marks t).phase (held next) (Client seat x asking c reply ∷ past)) (sym (served_port w x c))
          (subst (λ p. Data w.base_port t p (held next) (Client seat x asking c reply ∷ past)) (sym (new.1 t)) (record { place = place t; asked = asked t }));
      split = serve_splits (held w) (held next) (get store) (get (apply store c)) x ks write inv.split fits.alone at (served_elsewhere w x c inside) whole (λ q d e. wrote-other c _ q d e);
    },
  )
    where
      ks : List Key
      ks = keys c

      s : ℕ
      s = first_slot ks

      phase : ℕ → Phase
      phase t = (inv.base.marks t).phase

      fits : Fits (phase s) (held w) x ks
      fits = served_slot_fits inv inside earned by

      next : World
      next = served_world w x c

      new : (b : Base n goal next plan listed) × Stays n goal w next plan listed inv.base b
      new = served_base n goal w plan listed x asking c inv.base inside by

      write : Key → Option Value → Option Value
      write = wrote c (look_up store ks)

      agree : look_up (node_at w x).held ks ≡ look_up store ks
      agree = look_up-agree _ _ ks (alone_agrees (held w) (get store) ks x inv.split fits.alone)

      same_answer : answer (node_at w x).held c ≡ answer store c
      same_answer = answer_is _ c ∙ ap (λ vs. (act c vs).0) agree ∙ sym (answer_is store c)

      at : (q : Key) → held next x q ≡ write q (held w x q)
      at q = served_at w x c inside q ∙ ap (λ vs. wrote c vs q (held w x q)) agree

      whole : (q : Key) → get (apply store c) q ≡ write q (get store q)
      whole q = get-apply store c q

      no_ask : (a m : ℕ) → reply ≡ redirection w.base_port a (Ask m) → ⊥
      no_ask a m e = true≢false (sym (redirect_told w.base_port a (Ask m) refl) ∙ ap is_redirection (sym e ∙ gave) ∙ answered (node_at w x).held c)

      -- a key of the slot that may not stand at the node does not come to stand there
      place : (t m : ℕ) (k : Key) → slot_of k ≡ t → may_hold (phase t) m ≡ false → held next m k ≡ None
      place t m k i e = elim (cases_Bool (is_named k ks)) [
        | inl u ↦ elim (cases_eq m x) [
          | inl v ↦ (let here : s ≡ t = sym (named_slot ks by.one_slot k u) ∙ i in
              absurd (true≢false (sym (fits.holds k u) ∙ subst (λ y. may_hold (phase y) x ≡ false) (sym here) (subst (λ y. may_hold (phase t) y ≡ false) v e))))
          | inr v ↦ served_elsewhere w x c inside m k v ∙ (inv.lies t).place m k i e
        ]
        | inr u ↦ served_unnamed w x c inside m k u ∙ (inv.lies t).place m k i e
      ]

      keeps : (t : ℕ) (a b : ℕ) → phase t ≡ Migrating a b → (q : Key) → slot_of q ≡ t → held w a q ≡ None → held next a q ≡ None
      keeps t a b p q i none = elim (cases_Bool (is_named q ks)) [
        | inl u ↦ elim (cases_eq a x) [
          | inl v ↦ (let here : t ≡ s = sym i ∙ named_slot ks by.one_slot q u in
              absurd (true≢false (sym (fits.keeps a b (subst (λ y. phase y ≡ Migrating a b) here p) (sym v) q u) ∙ ap is_some none)))
          | inr v ↦ served_elsewhere w x c inside a q v ∙ none
        ]
        | inr u ↦ served_unnamed w x c inside a q u ∙ none
      ]

      asked : (t : ℕ) (ks' : List Key) (m : ℕ) → WasAsked w.base_port (Client seat x asking c reply ∷ past) ks' m → is_cross ks' ≡ false → first_slot ks' ≡ t → AskFine (phase t) (held next) ks' m
      asked t ks' m (inl u) one slot = absurd (no_ask _ _ u.1)
      asked t ks' m (inr u) one slot = ask_kept (phase t) (held w) (held next) ks' m (λ a b p q e none. keeps t a b p q (named_slot ks' one q e ∙ slot) none) ((inv.lies t).asked ks' m u.1 one slot)

  -- a command that is not served changes nothing; an ASK is remembered
  told_step : (inv : Inv n goal w past plan listed store) → reply ≡ redirection w.base_port (first_slot (keys c)) (verdict w x asking (keys c))
      → Inv n goal w (Client seat x asking c reply ∷ past) plan listed store
  told_step inv gave = record { base = inv.base; lies = λ t. record { place = (inv.lies t).place; asked = asked t }; split = inv.split }
    where
      asked : (t : ℕ) (ks : List Key) (m : ℕ) → WasAsked w.base_port (Client seat x asking c reply ∷ past) ks m → is_cross ks ≡ false → first_slot ks ≡ t → AskFine (inv.base.marks t).phase (held w) ks m
      asked t ks m (inl u) one slot =
          let ask : (a : ℕ) × (verdict w x asking (keys c) ≡ Ask a) = told_is_ask w.base_port (first_slot (keys c)) (first_slot ks) m _ (sym gave ∙ u.1) in
          let by : AskedBy w x (keys c) ask.0 = asked_by w x asking (keys c) ask.0 ask.1 in
          let at : first_slot (keys c) ≡ t = ap first_slot u.0 ∙ slot in
          let mark : migrating w x t ≡ Some ask.0 = subst (λ y. migrating w x y ≡ Some ask.0) at by.marked in
          subst (λ y. AskFine (inv.base.marks t).phase (held w) y m) u.0
          (ask_fine_in n (goal t) t (inv.base.marks t).phase (part plan t) (held w) (keys c) x ask.0 m (inv.base.marks t).left (sym ((inv.base.marks t).going x) ∙ mark) by.missing)
      asked t ks m (inr u) one slot = (inv.lies t).asked ks m u.1 one slot

  -- either the command is served, with the one store's answer, or it changes nothing
  pub client_step : (inv : Inv n goal w past plan listed store) → Answers w (Client seat x asking c reply) → IsEarned w past (Client seat x asking c reply)
      → ((reply ≡ answer store c) × Inv n goal (after w (Client seat x asking c reply)) (Client seat x asking c reply ∷ past) plan listed (apply store c))
      ⊎ ((v : Verdict) × (is_serve v ≡ false) × (reply ≡ redirection w.base_port (first_slot (keys c)) v) × Inv n goal (after w (Client seat x asking c reply)) (Client seat x asking c reply ∷ past) plan listed store)
  client_step inv answers earned = elim (cases_Bool (is_serve (verdict w x asking (keys c)))) [
    | inl u ↦ (let e : verdict w x asking (keys c) ≡ Serve = is_serve_Serve _ u in
        let r = served_step inv answers.0 earned (served_by w x asking (keys c) e) (answers.1 ∙ reply_served w x asking c e) in
        inl (r.0, subst (λ y. Inv n goal y (Client seat x asking c reply ∷ past) plan listed (apply store c)) (sym (after_served w x asking c e)) r.1))
    | inr u ↦ (let gave : reply ≡ redirection w.base_port (first_slot (keys c)) (verdict w x asking (keys c)) = answers.1 ∙ reply_told w x asking c u in
        inr (
          verdict w x asking (keys c),
          u,
          gave,
          subst (λ y. Inv n goal y (Client seat x asking c reply ∷ past) plan listed store) (sym (after_told w x asking c answers.0 u)) (told_step inv gave),
        ))
  ]
