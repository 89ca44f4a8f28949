-- The servers that are to hear of a slot's new owner, and what their answers leave of the command's own.
use Rattle.std.proofs.Common.{◌≡◌, ◌∙◌, ◌<◌, ◌≤◌, ◌+◌, ◌-◌, ℕ, zero, suc, drop, take, Bool, true, false, cond, not}
use Rattle.std.proofs.Common.{◌&&◌, ◌==◌, List, [], ◌∷◌, ◌++◌, length, get_or, Option, Some, None, Ok, Err, arith, ap}
use Rattle.std.proofs.Common.{append_assoc, refl, inl, inr, map, reverse, subst, sym}
use Rattle.std.specs.Prelude.{Result}
use Rattle.std.proofs.lemmas.List.{reverse-append, take_all}
use Rattle.cluster_admin.specs.declared.admin.AdminCommand.{AdminCommand}
use Rattle.cluster_admin.specs.declared.admin.AdminCommand.TheVariants.{Importing, KeysIn, Migrate, Migrating, SetNode}
use Rattle.cluster_admin.specs.declared.admin.AdminCommand.TheVariants.{Stable}
use Rattle.cluster_admin.specs.declared.admin.AdminReply.{AdminReply}
use Rattle.cluster_admin.specs.declared.admin.AdminReply.TheVariants as admin
use Rattle.cluster_admin.specs.declared.port_fault.PortFault.{PortFault}
use Rattle.cluster_admin.specs.Surveys.{Row, Survey}
use Rattle.resp2_wire.specs.declared.reply.Reply.{Reply}
use Rattle.server_links.specs.Streams.{Question}
use Rattle.redis_servers.specs.Calls.{Confirms, Given, IsHeard, Spreads}
use Rattle.redis_servers.specs.RunHistories.{RunHistory}
use Rattle.redis_servers.specs.Duties.{duties_after, duties_done}
use Rattle.redis_servers.specs.Hearers.{CanHear, hearer_if, hearers_after, hearers_done, hearers_from}
use Rattle.redis_servers.specs.InOneGo.{is_done}
use Rattle.redis_servers.specs.Meeting.{Hears, HearsAll, MeetsAll}
use Rattle.redis_servers.specs.Unmet.{late_text}
use Rattle.redis_servers.specs.declared.commanding.Outcome.{Outcome}
use Rattle.redis_servers.specs.declared.duty.Duty.{Duty}
use Rattle.redis_servers.specs.declared.port_stop.PortStop.{PortStop}
use Rattle.redis_servers.specs.declared.hearers.Hearer.{Hearer}
use Rattle.redis_servers.specs.declared.setup.PortSetup.{PortSetup}

-- ---- they are there

both_can : (k : ℕ) (xs ys : List Hearer) → CanHear k xs → CanHear k ys → CanHear k (xs ++ ys)
both_can k [] ys first later = later
both_can k (x ∷ xs) ys first later = (first.0, first.1, both_can k xs ys first.2 later)

one_can : (wanted : Bool) (k i slot t : ℕ) → i < k → t < k → CanHear k (hearer_if wanted i slot t)
one_can true k i slot t here there = (here, there, tt)
one_can false k i slot t here there = tt

all_can : (k slot t i : ℕ) (rs : List Row) → t < k → i + length rs ≤ k → CanHear k (hearers_from slot t i rs)
all_can k slot t i [] there few = tt
all_can k slot t i (r ∷ rs) there few =
    both_can k (hearer_if (not (i == t)) i slot t) (hearers_from slot t (suc i) rs)
    (one_can (not (i == t)) k i slot t (omega (arith, few)) there)
    (all_can k slot t (suc i) rs there (omega (arith, few)))

any_can : (b : Bool) (k : ℕ) (hs : List Hearer) → CanHear k hs → CanHear k (cond b hs [])
any_can true k hs can = can
any_can false k hs can = tt

can_after : (waits : Bool) (v : Survey) (k n : ℕ) (c : AdminCommand) → k ≡ length v.rows → n < k
    → CanHear k (hearers_after waits v n c)
can_after waits v k n (SetNode slot owner) rows there =
    any_can (waits && (owner == n)) k (hearers_from slot n 0 v.rows)
    (all_can k slot n 0 v.rows there (omega (arith, rows)))
can_after waits v k n (Importing slot m) rows there = tt
can_after waits v k n (Migrating slot m) rows there = tt
can_after waits v k n (Stable slot) rows there = tt
can_after waits v k n (KeysIn slot count) rows there = tt
can_after waits v k n (Migrate ks m) rows there = tt

-- those of a list that was made
pub they_can : (waits : Bool) (v : Survey) (k n : ℕ) (c : AdminCommand) (hs : List Hearer)
    → hs ≡ hearers_after waits v n c → k ≡ length v.rows → n < k → CanHear k hs
they_can waits v k n c hs is rows there = subst (CanHear k) (sym is) (can_after waits v k n c rows there)

-- ---- from one server on

one_hearer : (slot t i k : ℕ) (rs : List Row) → k < length rs
    → hearers_from slot t i (drop k rs)
    ≡ hearer_if (not (i == t)) i slot t ++ hearers_from slot t (suc i) (drop (suc k) rs)
one_hearer slot t i k [] few = absurd (omega (arith, few))
one_hearer slot t i zero (r ∷ rs) few = refl
one_hearer slot t i (suc k) (r ∷ rs) few = one_hearer slot t i k rs (omega (arith, few))

pub one_more_hearer : (slot t i next : ℕ) (rs : List Row) (first before after : List Hearer) → next ≡ suc i
    → i < length rs → first ++ hearers_from slot t 0 rs ≡ before ++ hearers_from slot t i (drop i rs)
    → after ≡ before ++ hearer_if (not (i == t)) i slot t
    → first ++ hearers_from slot t 0 rs ≡ after ++ hearers_from slot t next (drop next rs)
one_more_hearer slot t i next rs first before after up few so_far is =
    so_far ∙ ap (λ hs. before ++ hs) (one_hearer slot t i i rs few)
    ∙ sym (append_assoc before (hearer_if (not (i == t)) i slot t) (hearers_from slot t (suc i) (drop (suc i) rs)))
    ∙ ap (λ hs. hs ++ hearers_from slot t (suc i) (drop (suc i) rs)) (sym is)
    ∙ ap (λ k. after ++ hearers_from slot t k (drop k rs)) (sym up)

-- ---- the command's answer

not_both : (r : AdminReply) (f : PortFault) → ◌≡◌ {A = Given} (Ok r) (Err f) → ⊥
not_both r f e = cc

-- a reply that stands is the command's own
pub own_reply : (o : Outcome) (heard : Result (Option (List ℕ)) PortStop) (r : AdminReply) (said : Option (List ℕ))
    → IsHeard o heard (Ok r) said → o.given ≡ Ok r
own_reply o (Ok None) r said is = sym is.0
own_reply o (Ok (Some text)) r said is = sym is.0
own_reply o (Err h) r said is = absurd (not_both r h.fault is.0)

-- ---- one more hears of it

-- those after the first, as the program parts them
abbrev pub later_ones : List Hearer → List Hearer
later_ones hs = take (length hs - 1) (drop 1 hs)

pub first_one : (hs : List Hearer) (h : Hearer) → 1 ≤ length hs → h ≡ get_or hs 0 h → hs ≡ h ∷ later_ones hs
first_one [] h some is = absurd (omega (arith, some))
first_one (k ∷ ks) h some is =
    ap (λ j. j ∷ ks) (sym is)
    ∙ ap (λ (xs : List Hearer). h ∷ xs) (sym (take_all (length (k ∷ ks) - 1) ks (omega arith)))

same_head : (a b : List ℕ) (xs ys : List (List ℕ)) → a ∷ xs ≡ b ∷ ys → a ≡ b
same_head a b xs ys e = cc

-- the last of the texts is the first one's
pub last_text : (ts init : List (List ℕ)) (text : List ℕ) (hs rest : List Hearer) (h : Hearer)
    → reverse ts ≡ map late_text hs → ts ≡ init ++ text ∷ [] → hs ≡ h ∷ rest → text ≡ late_text h
last_text ts init text hs rest h said popped is =
    same_head text (late_text h) (reverse init) (map late_text rest)
    (sym (reverse-append init (text ∷ [])) ∙ ap reverse (sym popped) ∙ said ∙ ap (map late_text) is)

module _ {L : Type 0} (asks : Question → List L → (node : ℕ) → Result Reply PortStop → List L → Type 0) (x : PortSetup)
    (history : RunHistory) where
  pub hears_more : (hs rest : List Hearer) (h : Hearer) (links mid links' : List L)
      (r : Result (Option (List ℕ)) PortStop) → hs ≡ h ∷ rest → Hears asks x history h links (Ok true) mid
      → HearsAll asks x history rest mid r links' → HearsAll asks x history hs links r links'
  hears_more hs rest h links mid links' r is first later =
      subst (λ (ks : List Hearer). HearsAll asks x history ks links r links') (sym is) (inl (mid, first, later))

  pub hears_late : (hs rest : List Hearer) (h : Hearer) (links links' : List L) (text : List ℕ) → hs ≡ h ∷ rest
      → text ≡ late_text h → Hears asks x history h links (Ok false) links'
      → HearsAll asks x history hs links (Ok (Some text)) links'
  hears_late hs rest h links links' text is same last =
      subst (λ (ks : List Hearer). HearsAll asks x history ks links (Ok (Some text)) links') (sym is) (inr (last, same))

  pub hears_none : (hs rest : List Hearer) (h : Hearer) (links links' : List L) (port_stop : PortStop) → hs ≡ h ∷ rest
      → Hears asks x history h links (Err port_stop) links' → HearsAll asks x history hs links (Err port_stop) links'
  hears_none hs rest h links links' port_stop is last =
      subst (λ (ks : List Hearer). HearsAll asks x history ks links (Err port_stop) links') (sym is) (inr last)

  -- ---- after a command

  module _ (n : ℕ) (c : AdminCommand) where
    stands : (o : Outcome) (g : Given) (links : List L) → o.given ≡ g → duties_done history x.survey n c g ≡ []
        → hearers_done x.waits_for_news x.survey n c g ≡ []
        → Confirms asks x history n c o links o.given o.said links
    stands o g links is duties hearers = inl (
      links,
      subst (λ (ds : List Duty). MeetsAll asks x history ds links (Ok tt) links)
          (sym (ap (λ (y : Given). duties_done history x.survey n c y) is ∙ duties)) refl,
      (
        Ok None,
        subst (λ (hs : List Hearer). HearsAll asks x history hs links (Ok None) links)
            (sym (ap (λ (y : Given). hearers_done x.waits_for_news x.survey n c y) is ∙ hearers)) (refl, refl),
        (refl, refl),
      ),
    )

    -- nothing is asked after a command that was not done
    pub undone_stands : (o : Outcome) (g : Given) (links : List L) → o.given ≡ g → is_done g ≡ false
        → Confirms asks x history n c o links o.given o.said links
    undone_stands o (Ok admin.Ok) links is not = absurd cc
    undone_stands o (Ok admin.NoKey) links is not = stands o (Ok admin.NoKey) links is refl refl
    undone_stands o (Ok (admin.Keys ks)) links is not = stands o (Ok (admin.Keys ks)) links is refl refl
    undone_stands o (Ok (admin.Refused f)) links is not = stands o (Ok (admin.Refused f)) links is refl refl
    undone_stands o (Err f) links is not = stands o (Err f) links is refl refl

    -- after one that was done all is asked
    pub done_stands : (y : PortSetup) (later : RunHistory) (o : Outcome) (after : List Duty) (hearers : List Hearer)
        (links mid links' : List L) (given : Given) (said : Option (List ℕ)) → o.given ≡ Ok admin.Ok
        → after ≡ duties_after history x.survey n c → hearers ≡ hearers_after x.waits_for_news x.survey n c
        → y ≡ x → later ≡ history → MeetsAll asks x history after links (Ok tt) mid
        → Spreads asks y later hearers o mid given said links' → Confirms asks x history n c o links given said links'
    done_stands y later o after hearers links mid links' given said is duties others setup same met spreads = inl (
      mid,
      subst (λ (ds : List Duty). MeetsAll asks x history ds links (Ok tt) mid)
          (duties ∙ ap (λ (g : Given). duties_done history x.survey n c g) (sym is)) met,
      subst (λ (hs : List Hearer). Spreads asks x history hs o mid given said links')
          (others ∙ ap (λ (g : Given). hearers_done x.waits_for_news x.survey n c g) (sym is))
          (subst (λ (w : RunHistory). Spreads asks x w hearers o mid given said links') same
          (subst (λ (w : PortSetup). Spreads asks w later hearers o mid given said links') setup spreads)),
    )
