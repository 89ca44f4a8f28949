-- What a verdict is told is a redirection, and what a store answers is none.
use Rattle.std.proofs.Common.{◌≡◌, ℕ, true, false, ◌||◌, List, [], ◌∷◌, refl, subst, nat_eq, codes, inl, inr}
use Rattle.std.proofs.lemmas.Bool.{true≢false, cases_Bool, and_parts, eqb-true}
use Rattle.std.specs.List.{starts_with}
use Rattle.resp2_wire.specs.declared.reply.Reply.{Reply}
use Rattle.resp2_wire.specs.declared.reply.Reply.TheVariants as reply
use Rattle.store_commands.specs.Store.{Store}
use Rattle.store_commands.specs.Apply.{answer}
use Rattle.store_commands.specs.NoRedirections.{is_no_redirection}
use Rattle.store_commands.proofs.NoRedirections.{answers_are_no_redirections}
use Rattle.client_commands.specs.declared.command.Command.{Command}
use Rattle.slot_marks.specs.declared.verdict.Verdict.{Verdict}
use Rattle.slot_marks.specs.declared.verdict.Verdict.TheVariants.{Serve, Moved, Ask, TryAgain, CrossSlot}
use Rattle.cluster_node.specs.Nodes.{is_serve}
use Rattle.cluster_node.specs.Redirections.{redirection}
use Rattle.cluster_world.specs.Serving.{is_redirection, begins_redirection}

-- a text that begins with this byte begins with no redirection, if no redirection begins with it
begins_with : (byte b : ℕ) (t : List ℕ) → begins_redirection (byte ∷ t) ≡ false → nat_eq byte b ≡ true → begins_redirection (b ∷ t) ≡ false
begins_with byte b t none e = subst (λ x. begins_redirection (x ∷ t) ≡ false) (eqb-true byte b e) none

-- a text that begins with one of the store's words begins with no redirection
plain_text : (t : List ℕ) → (starts_with nat_eq t (codes "ERR ") || starts_with nat_eq t (codes "WRONGTYPE ")) ≡ true → begins_redirection t ≡ false
plain_text [] h = refl
plain_text (b ∷ t) h = elim (cases_Bool (starts_with nat_eq (b ∷ t) (codes "ERR "))) [
  | inl e ↦ begins_with 69 b t refl (and_parts _ _ e).0
  | inr e ↦ begins_with 87 b t refl (and_parts _ _ (subst (λ x. (x || starts_with nat_eq (b ∷ t) (codes "WRONGTYPE ")) ≡ true) e h)).0
]

pub plain_is_no_redirection : (r : Reply) → is_no_redirection r ≡ true → is_redirection r ≡ false
unfolding is_redirection
plain_is_no_redirection (reply.Error t) h = plain_text t h
plain_is_no_redirection (reply.Simple t) h = refl
plain_is_no_redirection (reply.Number z) h = refl
plain_is_no_redirection (reply.Bulk t) h = refl
plain_is_no_redirection reply.Null h = refl
plain_is_no_redirection reply.NullArray h = refl
plain_is_no_redirection (reply.Array ts) h = refl

pub answered : (s : Store) (c : Command) → is_redirection (answer s c) ≡ false
answered s c = plain_is_no_redirection (answer s c) (answers_are_no_redirections s c)

pub redirect_told : (port slot : ℕ) (v : Verdict) → is_serve v ≡ false → is_redirection (redirection port slot v) ≡ true
unfolding is_redirection redirection
redirect_told port slot Serve h = absurd (true≢false h)
redirect_told port slot (Moved n) h = refl
redirect_told port slot (Ask n) h = refl
redirect_told port slot TryAgain h = refl
redirect_told port slot CrossSlot h = refl
