-- A client's command at a node of a clean world.
use Rattle.std.proofs.Common.{◌≡◌, ◌≢◌, ℕ, Bool, true, false, cond, not, ◌&&◌, ◌||◌, eqb, List, [], ◌∷◌, get_or, map, Option, None, refl, sym, ap, subst, ◌∙◌, inl, inr, nat_cmp}
use Rattle.std.proofs.lemmas.Bool.{true≢false, cases_Bool, cond-true, cond-false, or_parts, eqb-true}
use Rattle.std.specs.List.{list_any, list_all}
use Rattle.std.specs.FinMap.{get, empty, get-empty, retain_keys, get-retain_keys, same_map, slice_cmp-IsAntisymmetric, nat_cmp-IsAntisymmetric}
use Rattle.std.specs.Cmp.Lexicographic.{nat_list_cmp_total}
use Rattle.key_slots.specs.HashSlot.{slot_of}
use Rattle.resp2_wire.specs.declared.reply.Reply.{Reply}
use Rattle.store_commands.specs.Store.{Key, Store, is_named, same_key}
use Rattle.store_commands.specs.Apply.{answer, apply}
use Rattle.client_commands.specs.Commands.{keys}
use Rattle.client_commands.specs.declared.command.Command.{Command}
use Rattle.store_commands.proofs.Named.{same_is, leaves_others, sees_named}
use Rattle.slot_marks.specs.Verdicts.{first_slot, is_cross, is_pair, first_row, judged}
use Rattle.slot_marks.specs.declared.verdict.Verdict.{Verdict}
use Rattle.slot_marks.specs.declared.verdict.Verdict.TheVariants.{Serve, Moved, Ask, TryAgain, CrossSlot}
use Rattle.cluster_node.specs.Nodes.{Node, node_verdict, client_reply, client_node, is_serve, is_present}
use Rattle.cluster_node.specs.Redirections.{redirection}
use Rattle.cluster_world.specs.Cleanness.{clean_node}
use Rattle.cluster_world.specs.Static.{static_reply}

-- the entries of the store whose slots the node owns
abbrev pub share : List ℕ → Store → ℕ → Store
share owners store m = retain_keys store (λ k. eqb (get_or owners (slot_of k) 0) m)

pub get-share : (owners : List ℕ) (store : Store) (m : ℕ) (k : Key) → get (share owners store m) k ≡ cond (eqb (get_or owners (slot_of k) 0) m) (get store k) None
get-share owners store m k = get-retain_keys store (λ q. eqb (get_or owners (slot_of q) 0) m) k (λ x t. ap (λ q. eqb (get_or owners (slot_of q) 0) m) (sym (slice_cmp-IsAntisymmetric nat_cmp-IsAntisymmetric k x t)))

-- what none of the keys passes, none that is named passes
none_named : (p : Key → Bool) (q : Key) (ks : List Key) → list_any p ks ≡ false → is_named q ks ≡ true → p q ≡ false
none_named p q [] none e = absurd (true≢false (sym e))
none_named p q (k ∷ ks) none e =
    let parts = or_parts (p k) (list_any p ks) none in
    elim (cases_Bool (same_key q k)) [
      | inl same ↦ ap p (same_is q k same) ∙ parts.0
      | inr other ↦ none_named p q ks parts.1 (subst (λ b. (b || is_named q ks) ≡ true) other e)
    ]

not_false : (b : Bool) → not b ≡ false → b ≡ true
not_false true e = refl
not_false false e = absurd (true≢false e)

-- the keys of one slot are all of the first one's
pub named_slot : (ks : List Key) (q : Key) → is_cross ks ≡ false → is_named q ks ≡ true → slot_of q ≡ first_slot ks
named_slot ks q one e = eqb-true _ _ (not_false _ (none_named (λ k. not (eqb (slot_of k) (first_slot ks))) q ks one e))

-- ---- the verdict

unmarked_rows : (x b : Bool) (o : ℕ) (asking p q r s : Bool)
    → first_row ((x, CrossSlot) ∷ (b && false && p && q, TryAgain) ∷ (b && false && r, Ask 0) ∷ (false && asking && s && p, TryAgain) ∷ (false && asking, Serve) ∷ (b, Serve) ∷ []) (Moved o)
    ≡ cond x CrossSlot (cond b Serve (Moved o))
unmarked_rows x true o asking p q r s = refl
unmarked_rows x false o asking p q r s = refl

-- without marks, one slot's keys are served by its owner alone
abbrev pub static_verdict : List ℕ → ℕ → List Key → Verdict
static_verdict owners n ks = cond (is_cross ks) CrossSlot (cond (eqb (get_or owners (first_slot ks) 0) n) Serve (Moved (get_or owners (first_slot ks) 0)))

pub clean-verdict : (owners : List ℕ) (store : Store) (n : ℕ) (asking : Bool) (ks : List Key) → node_verdict n (clean_node owners store n) asking ks ≡ static_verdict owners n ks
unfolding node_verdict
clean-verdict owners store n asking ks =
    ap (λ g. judged n o g unmarked asking ks present) (get-empty nat_cmp s)
    ∙ ap (λ g. judged n o None g asking ks present) (get-empty nat_cmp s)
    ∙ unmarked_rows (is_cross ks) (eqb o n) o asking (list_any not present) (list_any (λ b. b) present) (list_all not present) (is_pair ks)
  where
    s : ℕ
    s = first_slot ks

    o : ℕ
    o = get_or owners s 0

    unmarked : Option ℕ
    unmarked = get {R = nat_cmp} empty s

    present : List Bool
    present = map (is_present (clean_node owners store n)) ks

-- ---- what the command finds and leaves

-- the keys are of one slot, which the node owns
pub record IsHere (owners : List ℕ) (n : ℕ) (ks : List Key) : Type 0 where
  pub one : is_cross ks ≡ false
  pub mine : eqb (get_or owners (first_slot ks) 0) n ≡ true

owned_named : (owners : List ℕ) (n : ℕ) (ks : List Key) (q : Key) → IsHere owners n ks → is_named q ks ≡ true → eqb (get_or owners (slot_of q) 0) n ≡ true
owned_named owners n ks q h e = ap (λ s. eqb (get_or owners s 0) n) (named_slot ks q h.one e) ∙ h.mine

share-agrees : (owners : List ℕ) (store : Store) (n : ℕ) (ks : List Key) → IsHere owners n ks → (q : Key) → is_named q ks ≡ true → get (share owners store n) q ≡ get store q
share-agrees owners store n ks h q e = get-share owners store n q ∙ cond-true _ (get store q) None (owned_named owners n ks q h e)

pub answer-share : (owners : List ℕ) (store : Store) (n : ℕ) (c : Command) → IsHere owners n (keys c) → answer (share owners store n) c ≡ answer store c
answer-share owners store n c h = (sees_named (share owners store n) store c (share-agrees owners store n (keys c) h)).0

pub apply-share : (owners : List ℕ) (store : Store) (n : ℕ) (c : Command) → IsHere owners n (keys c) → apply (share owners store n) c ≡ share owners (apply store c) n
apply-share owners store n c h = same_map nat_list_cmp_total (slice_cmp-IsAntisymmetric nat_cmp-IsAntisymmetric) _ _ at
  where
    at : (q : Key) → get (apply (share owners store n) c) q ≡ get (share owners (apply store c) n) q
    at q = elim (cases_Bool (is_named q (keys c))) [
      | inl e ↦
          (sees_named (share owners store n) store c (share-agrees owners store n (keys c) h)).1 q e
          ∙ sym (cond-true _ (get (apply store c) q) None (owned_named owners n (keys c) q h e))
          ∙ sym (get-share owners (apply store c) n q)
      | inr e ↦
          leaves_others (share owners store n) c q e
          ∙ get-share owners store n q
          ∙ ap (λ v. cond (eqb (get_or owners (slot_of q) 0) n) v None) (sym (leaves_others store c q e))
          ∙ sym (get-share owners (apply store c) n q)
    ]

-- the shares of the other nodes stay
pub share-apply : (owners : List ℕ) (store : Store) (n m : ℕ) (c : Command) → IsHere owners n (keys c) → m ≢ n → share owners store m ≡ share owners (apply store c) m
share-apply owners store n m c h apart = same_map nat_list_cmp_total (slice_cmp-IsAntisymmetric nat_cmp-IsAntisymmetric) _ _ at
  where
    other : (o : ℕ) → eqb o n ≡ true → eqb o m ≡ false
    other o e = elim (cases_Bool (eqb o m)) [ inl f ↦ absurd (apart (sym (eqb-true o m f) ∙ eqb-true o n e)) | inr f ↦ f ]

    at : (q : Key) → get (share owners store m) q ≡ get (share owners (apply store c) m) q
    at q = elim (cases_Bool (is_named q (keys c))) [
      | inl e ↦
          let none = other (get_or owners (slot_of q) 0) (owned_named owners n (keys c) q h e) in
          get-share owners store m q ∙ cond-false _ (get store q) None none ∙ sym (cond-false _ (get (apply store c) q) None none) ∙ sym (get-share owners (apply store c) m q)
      | inr e ↦
          get-share owners store m q
          ∙ ap (λ v. cond (eqb (get_or owners (slot_of q) 0) m) v None) (sym (leaves_others store c q e))
          ∙ sym (get-share owners (apply store c) m q)
    ]

-- ---- the reply and the node

-- either nothing is done and a redirection told, or the one store's answer is given
pub data Outcome (port : ℕ) (owners : List ℕ) (store : Store) (n : ℕ) (asking : Bool) (c : Command) : Type 0 where
  Told : (v : Verdict) → is_serve v ≡ false → client_reply port n (clean_node owners store n) asking c ≡ redirection port (first_slot (keys c)) v
      → static_reply port owners store n c ≡ redirection port (first_slot (keys c)) v
      → client_node n (clean_node owners store n) asking c ≡ clean_node owners store n → Outcome port owners store n asking c
  Served : IsHere owners n (keys c) → client_reply port n (clean_node owners store n) asking c ≡ answer store c
      → static_reply port owners store n c ≡ answer store c
      → client_node n (clean_node owners store n) asking c ≡ clean_node owners (apply store c) n → Outcome port owners store n asking c

pub outcome : (port : ℕ) (owners : List ℕ) (store : Store) (n : ℕ) (asking : Bool) (c : Command) → Outcome port owners store n asking c
unfolding client_reply client_node
outcome port owners store n asking c = elim (cases_Bool (is_cross (keys c))) [
  | inl cross ↦
      let is = clean-verdict owners store n asking (keys c) ∙ ap (λ b. cond b CrossSlot (cond (eqb o n) Serve (Moved o))) cross in
      Told CrossSlot refl (ap reply_by is) (ap (λ b. cond b (redirection port s CrossSlot) (cond (eqb o n) (answer store c) (redirection port s (Moved o)))) cross) (ap node_by is)
  | inr one ↦ elim (cases_Bool (eqb o n)) [
    | inl mine ↦
        let here : IsHere owners n (keys c) = record { one = one; mine = mine } in
        let is = clean-verdict owners store n asking (keys c) ∙ (λ i. cond (one i) CrossSlot (cond (mine i) Serve (Moved o))) in
        Served here (ap reply_by is ∙ answer-share owners store n c here)
        (λ i. cond (one i) (redirection port s CrossSlot) (cond (mine i) (answer store c) (redirection port s (Moved o))))
        (ap node_by is ∙ (λ i. record (clean_node owners store n) { held = apply-share owners store n c here i }))
    | inr elsewhere ↦
        let is = clean-verdict owners store n asking (keys c) ∙ (λ i. cond (one i) CrossSlot (cond (elsewhere i) Serve (Moved o))) in
        Told (Moved o) refl (ap reply_by is)
        (λ i. cond (one i) (redirection port s CrossSlot) (cond (elsewhere i) (answer store c) (redirection port s (Moved o))))
        (ap node_by is)
  ]
]
  where
    s : ℕ
    s = first_slot (keys c)

    o : ℕ
    o = get_or owners s 0

    reply_by : Verdict → Reply
    reply_by v = cond (is_serve v) (answer (share owners store n) c) (redirection port s v)

    node_by : Verdict → Node
    node_by v = cond (is_serve v) (record (clean_node owners store n) { held = apply (share owners store n) c }) (clean_node owners store n)
