-- What is said where there is no reply of use, if there is memory for it.
use Rattle.std.proofs.Common.{◌≡◌, ◌∙◌, ◌<◌, ◌≤◌, ◌⊎◌, ◌++◌, List, ℕ, Option, None, Some, Result, Ok, Err, inl, inr}
use Rattle.std.proofs.Common.{ap, append_assoc, arith, length, refl, subst, sym, take}
use Rattle.std.specs.Fmt.{decimal}
use Rattle.std.specs.Prelude.{IfOk, MatchResult, codes}
use Rattle.std.proofs.lemmas.Fmt.{length-decimal-le}
use Rattle.byte_texts.specs.declared.text.TheConstants.{MAX_BYTES}
use Rattle.cluster_admin.specs.declared.admin.AdminCommand.{AdminCommand}
use Rattle.cluster_admin.specs.declared.port_fault.PortFault.TheVariants.{Wire}
use Rattle.resp2_wire.specs.declared.reply.Reply.{Reply}
use Rattle.resp2_wire.specs.declared.reply.Reply.TheVariants as reply
use Rattle.server_commands.specs.declared.answers.Answered.{Answered}
use Rattle.server_commands.specs.declared.answers.Answered.TheVariants as told
use Rattle.server_commands.specs.declared.credentials.Credentials.{Credentials}
use Rattle.server_links.specs.declared.link_fault.LinkFault.{LinkFault}
use Rattle.resp2_wire.specs.Tree.{Trees}
use Rattle.redis_servers.specs.Calls.{Given, IsExcused, IsOutcome, Reads, SaysNothing}
use Rattle.redis_servers.specs.RunHistories.{RunHistory}
use Rattle.redis_servers.specs.Hearing.{unheard_text}
use Rattle.redis_servers.specs.Looking.{HasNoRole}
use Rattle.redis_servers.specs.declared.setup.PortSetup.{PortSetup}
use Rattle.redis_servers.specs.Saying.{Keeps, SaysUseless, SaysWhy, error_text, node_word, silence_text, strange_text, useless_text}

pub told_or_lost : {useless : Type 0} (words : List ℕ) (said : Option (List ℕ)) → useless → Keeps words said
    → (useless × (said ≡ Some (take MAX_BYTES words))) ⊎ (said ≡ None)
told_or_lost words said why (inl kept) = inl (why, kept)
told_or_lost words said why (inr lost) = inr lost

pub told_why : {V E : Type 0} (items : V → List ℕ) (n : ℕ) (o : Option LinkFault) (f : LinkFault) (r : Result V E)
    (said : Option (List ℕ)) → o ≡ Some f → IfOk r (λ v. items v ≡ silence_text n f)
    → MatchResult r (λ v. Keeps (items v) said) (λ _. said ≡ None) → SaysWhy n o said
told_why items n o f (Ok v) said is spelled kept =
    subst (λ (x : Option LinkFault). SaysWhy n x said) (sym is) (subst (λ (t : List ℕ). Keeps t said) spelled kept)
told_why items n o f (Err e) said is spelled lost =
    subst (λ (x : Option LinkFault). SaysWhy n x said) (sym is) (inr lost)

-- a letter and at most three digits
pub node_word_is_short : (n : ℕ) → n < 255 → length (node_word n) ≤ 4
node_word_is_short n h =
    let digits : length (decimal n) ≤ 3 = length-decimal-le 3 n (omega arith) (omega arith) (omega arith) in
    omega arith

-- words that may be kept, of this text
pub words_kept : {V E : Type 0} (items : V → List ℕ) (t : List ℕ) (r : Result V E) (said : Option (List ℕ))
    → IfOk r (λ v. items v ≡ t) → MatchResult r (λ v. Keeps (items v) said) (λ _. said ≡ None) → Keeps t said
words_kept items t (Ok v) said is kept = subst (λ (x : List ℕ). Keeps x said) is kept
words_kept items t (Err e) said is lost = inr lost

-- an error is told as such
pub error_kept : {V E : Type 0} (items : V → List ℕ) (login : Option Credentials) (n : ℕ) (r : Reply) (t got : List ℕ)
    (words : Result V E) (said : Option (List ℕ)) → r ≡ reply.Error t → got ≡ t
    → IfOk words (λ v. items v ≡ error_text login n got)
    → MatchResult words (λ v. Keeps (items v) said) (λ _. said ≡ None) → Keeps (useless_text login n r) said
error_kept items login n r t got words said is same spelled kept =
    subst (λ (x : Reply). Keeps (useless_text login n x) said) (sym is)
    (subst (λ (x : List ℕ). Keeps (error_text login n x) said) same
    (words_kept items (error_text login n got) words said spelled kept))

-- a reply that is no error is told as something strange
pub strange_kept : {V E : Type 0} (items : V → List ℕ) (login : Option Credentials) (n : ℕ) (r : Reply)
    (words : Result V E) (said : Option (List ℕ)) → ((t : List ℕ) → r ≡ reply.Error t → ⊥)
    → IfOk words (λ v. items v ≡ strange_text n)
    → MatchResult words (λ v. Keeps (items v) said) (λ _. said ≡ None) → Keeps (useless_text login n r) said
strange_kept items login n (reply.Error t) words said other is kept = absurd (other t refl)
strange_kept items login n (reply.Simple t) words said other is kept = words_kept items (strange_text n) words said is kept
strange_kept items login n (reply.Number z) words said other is kept = words_kept items (strange_text n) words said is kept
strange_kept items login n (reply.Bulk t) words said other is kept = words_kept items (strange_text n) words said is kept
strange_kept items login n reply.Null words said other is kept = words_kept items (strange_text n) words said is kept
strange_kept items login n reply.NullArray words said other is kept = words_kept items (strange_text n) words said is kept
strange_kept items login n (reply.Array rs) words said other is kept =
    words_kept items (strange_text n) words said is kept

pub strange_outcome : (x : PortSetup) (history : RunHistory) (n : ℕ) (c : AdminCommand) (r : Reply) (answered : Answered)
    (given : Given) (said kept : Option (List ℕ)) → answered ≡ told.Strange → Reads (IsExcused x history n c) n c r answered
    → given ≡ Err Wire → said ≡ kept → Keeps (useless_text x.credentials n r) kept → IsOutcome x history n c r given said
strange_outcome x history n c r answered given said kept strange reads is same keeps =
    let why : SaysNothing (IsExcused x history n c) n c r =
    inr (subst (λ (a : Answered). Reads (IsExcused x history n c) n c r a) strange reads) in
    let keeps : Keeps (useless_text x.credentials n r) said =
    subst (λ (s : Option (List ℕ)). Keeps (useless_text x.credentials n r) s) (sym same) keeps in
    subst (λ (g : Given). IsOutcome x history n c r g said) (sym is)
    (refl, told_or_lost (useless_text x.credentials n r) said why keeps)

-- ---- a reply to ROLE that tells no role

pub no_role : (login : Option Credentials) (n : ℕ) (r : Reply) (said : Option (List ℕ))
    → ((rs : Trees) → r ≡ reply.Array rs → ⊥) → Keeps (useless_text login n r) said
    → SaysUseless (HasNoRole r) login n r said
no_role login n (reply.Array rs) said other kept = absurd (other rs refl)
no_role login n (reply.Error t) said other kept = told_or_lost (useless_text login n (reply.Error t)) said tt kept
no_role login n (reply.Simple t) said other kept = told_or_lost (strange_text n) said tt kept
no_role login n (reply.Number z) said other kept = told_or_lost (strange_text n) said tt kept
no_role login n (reply.Bulk t) said other kept = told_or_lost (strange_text n) said tt kept
no_role login n reply.Null said other kept = told_or_lost (strange_text n) said tt kept
no_role login n reply.NullArray said other kept = told_or_lost (strange_text n) said tt kept

-- ---- what is said of a node that has not heard of an epoch

pub unheard : (s t : ℕ) (target head both whole source : List ℕ) → target ≡ node_word t → source ≡ node_word s
    → head ≡ target ++ codes " has not heard of " → both ≡ head ++ source
    → whole ≡ both ++ codes "'s config epoch after 2 seconds" → whole ≡ unheard_text s t
unfolding unheard_text
unheard s t target head both whole source of_target of_source of_head of_both of_whole =
    let h : List ℕ = codes " has not heard of " in
    let e : List ℕ = codes "'s config epoch after 2 seconds" in
    of_whole ∙ (ap (λ w. w ++ e) of_both ∙ (ap (λ w. (w ++ source) ++ e) of_head
    ∙ (append_assoc (target ++ h) source e ∙ (append_assoc target h (source ++ e)
    ∙ (ap (λ w. w ++ (h ++ (source ++ e))) of_target ∙ ap (λ w. node_word t ++ (h ++ (w ++ e))) of_source)))))
