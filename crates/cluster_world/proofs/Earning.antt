-- Honest runs, event by event.
use Rattle.std.proofs.Common.{◌≡◌, ℕ, List, [], ◌∷◌, ◌++◌, refl, ap, subst, inl, inr, Bool, true, false, ◌&&◌, not, eqb, codes, sym}
use Rattle.std.proofs.Common.{◌∙◌, nat_eq}
use Rattle.std.proofs.lemmas.Bool.{true≢false, and_parts, and_from, or_cases, or_left, or_right, eqb-true, eq-eqb}
use Rattle.std.proofs.lemmas.Cmp.{nat_list_eq_equiv}
use Rattle.std.specs.Cmp.Lexicographic.{pointwise, same_text}
use Rattle.resp2_wire.specs.declared.reply.Reply.{Reply}
use Rattle.resp2_wire.specs.declared.reply.Reply.TheVariants as answers
use Rattle.client_commands.specs.Commands.{keys}
use Rattle.slot_marks.specs.Verdicts.{first_slot}
use Rattle.slot_marks.specs.declared.verdict.Verdict.TheVariants.{Ask}
use Rattle.cluster_node.specs.Redirections.{place, redirection}
use Rattle.store_commands.specs.Store.{Key}
use Rattle.cluster_admin.specs.declared.admin.AdminCommand.TheVariants.{Importing}
use Rattle.cluster_admin.specs.declared.admin.AdminReply.TheVariants as reply
use Rattle.cluster_world.specs.Worlds.{World}
use Rattle.cluster_world.specs.Steps.{after}
use Rattle.cluster_world.specs.declared.event.Event.{Event}
use Rattle.cluster_world.specs.declared.event.Event.TheVariants.{Client, Look, Admin}
use Rattle.cluster_world.specs.Honesty.{WasAsked, IsAsk, IsNoImport, IsEarned, Honest, past_of}
use Rattle.cluster_world.specs.Earning.{world_after, HonestByEach, FoundIsDishonest, is_error, is_ask, is_import}
use Rattle.cluster_world.specs.Earning.{was_asked, AskedByTest}

-- ---- each event

earned_at : (prefix : List Event) (e : Event) (rest : List Event) (w : World) (past : List Event) → Honest w past (prefix ++ e ∷ rest) → IsEarned (world_after w prefix) (past_of past prefix) e
earned_at [] e rest w past h = h.0
earned_at (x ∷ prefix) e rest w past h = earned_at prefix e rest (after w x) (x ∷ past) h.1

each_honest : (es : List Event) (w : World) (past : List Event) → ((prefix : List Event) (e : Event) (rest : List Event) → es ≡ prefix ++ e ∷ rest → IsEarned (world_after w prefix) (past_of past prefix) e) → Honest w past es
each_honest [] w past f = tt
each_honest (x ∷ es) w past f = (f [] x es refl, each_honest es (after w x) (x ∷ past) (λ prefix e rest eq. f (x ∷ prefix) e rest (ap (λ l. x ∷ l) eq)))

pub honest_by_each : HonestByEach
honest_by_each first before events = (
  (λ h prefix e rest is. earned_at prefix e rest first before (subst (Honest first before) is h)),
  (λ f. each_honest events first before f),
)

-- one event more
honest_on : (es : List Event) (e : Event) (w : World) (past : List Event) → Honest w past es → IsEarned (world_after w es) (past_of past es) e → Honest w past (es ++ e ∷ [])
honest_on [] e w past h u = (u, tt)
honest_on (x ∷ es) e w past h u = (h.0, honest_on es e (after w x) (x ∷ past) h.1 u)

pub honest_more : (first : World) (prefix : List Event) (e : Event) → Honest first [] prefix
    → IsEarned (world_after first prefix) (past_of [] prefix) e → Honest first [] (prefix ++ e ∷ [])
honest_more first prefix e h u = honest_on prefix e first [] h u

pub found_is_dishonest : FoundIsDishonest
found_is_dishonest first events i d h = d.unearned ((honest_by_each first [] events).0 h d.prefix d.event d.rest d.is)

-- ---- by tests

pub keys_same : (xs ys : List Key) → pointwise (pointwise nat_eq) xs ys ≡ true → xs ≡ ys
keys_same [] [] e = refl
keys_same [] (y ∷ ys) e = absurd (true≢false (sym e))
keys_same (x ∷ xs) [] e = absurd (true≢false (sym e))
keys_same (x ∷ xs) (y ∷ ys) e =
    let p = and_parts (pointwise nat_eq x y) (pointwise (pointwise nat_eq) xs ys) e in
    let here : x ≡ y = same_text x y (sym p.0) in
    let rest : xs ≡ ys = keys_same xs ys p.1 in
    λ i. here i ∷ rest i

pub keys_themselves : (xs : List Key) → pointwise (pointwise nat_eq) xs xs ≡ true
keys_themselves [] = refl
keys_themselves (x ∷ xs) = and_from (pointwise nat_eq x x) (pointwise (pointwise nat_eq) xs xs) (nat_list_eq_equiv.refl x) (keys_themselves xs)

error_is : (t : List ℕ) (r : Reply) → is_error t r ≡ true → r ≡ answers.Error t
error_is t (answers.Error u) e = ap (λ x. answers.Error x) (same_text u t (sym e))
error_is t (answers.Simple u) e = absurd (true≢false (sym e))
error_is t (answers.Number z) e = absurd (true≢false (sym e))
error_is t (answers.Bulk u) e = absurd (true≢false (sym e))
error_is t answers.Null e = absurd (true≢false (sym e))
error_is t answers.NullArray e = absurd (true≢false (sym e))
error_is t (answers.Array rs) e = absurd (true≢false (sym e))

ask_told : (port s n : ℕ) → redirection port s (Ask n) ≡ answers.Error (codes "ASK" ++ place port s n)
unfolding redirection
ask_told port s n = refl

error_itself : (t : List ℕ) (r : Reply) → r ≡ answers.Error t → is_error t r ≡ true
error_itself t r e = subst (λ x. is_error t x ≡ true) (sym e) (nat_list_eq_equiv.refl t)

-- an ASK
ask_tested : (port n : ℕ) (ks : List Key) (e : Event) → IsAsk port ks n e → is_ask port ks n e ≡ true
ask_tested port n ks (Client seat at asking c r) h =
    and_from (pointwise (pointwise nat_eq) (keys c) ks) (is_error (codes "ASK" ++ place port (first_slot ks) n) r)
    (subst (λ x. pointwise (pointwise nat_eq) x ks ≡ true) (sym h.0) (keys_themselves ks))
    (error_itself _ r (h.1 ∙ ask_told port (first_slot ks) n))
ask_tested port n ks (Look seat at r) h = absurd h
ask_tested port n ks (Admin at c r) h = absurd h

tested_ask : (port n : ℕ) (ks : List Key) (e : Event) → is_ask port ks n e ≡ true → IsAsk port ks n e
tested_ask port n ks (Client seat at asking c r) e =
    let p = and_parts (pointwise (pointwise nat_eq) (keys c) ks) (is_error (codes "ASK" ++ place port (first_slot ks) n) r) e in
    (keys_same (keys c) ks p.0, error_is _ r p.1 ∙ sym (ask_told port (first_slot ks) n))
tested_ask port n ks (Look seat at r) e = absurd (true≢false (sym e))
tested_ask port n ks (Admin at c r) e = absurd (true≢false (sym e))

-- an import
import_tested : (s n : ℕ) (e : Event) → IsNoImport s n e → is_import s n e ≡ false
import_tested s n (Admin at (Importing t m) reply.Ok) f = by (eqb n at) (eqb s t) refl refl
  where
    by : (a b : Bool) → eqb n at ≡ a → eqb s t ≡ b → (a && b) ≡ false
    by true true p q = absurd (f (sym (eqb-true n at p)) (sym (eqb-true s t q)))
    by true false p q = refl
    by false b p q = refl
import_tested s n e f = refl

tested_import : (s n : ℕ) (e : Event) → is_import s n e ≡ false → IsNoImport s n e
tested_import s n (Admin at (Importing t m) reply.Ok) e =
    λ p q. true≢false (sym (and_from (eqb n at) (eqb s t) (eq-eqb n at (sym p)) (eq-eqb s t (sym q))) ∙ e)
tested_import s n e is = tt

not_holds : (b : Bool) → not b ≡ true → b ≡ false
not_holds true e = absurd (true≢false (sym e))
not_holds false e = refl

asked_tested : (port n : ℕ) (ks : List Key) (past : List Event) → WasAsked port past ks n → was_asked port past ks n ≡ true
asked_tested port n ks [] h = absurd h
asked_tested port n ks (e ∷ past) h = elim h [
  | inl u ↦ or_left (is_ask port ks n e) (not (is_import (first_slot ks) n e) && was_asked port past ks n) (ask_tested port n ks e u)
  | inr u ↦ or_right (is_ask port ks n e) (not (is_import (first_slot ks) n e) && was_asked port past ks n)
      (and_from (not (is_import (first_slot ks) n e)) (was_asked port past ks n)
      (ap not (import_tested (first_slot ks) n e u.0)) (asked_tested port n ks past u.1))
]

tested_asked : (port n : ℕ) (ks : List Key) (past : List Event) → was_asked port past ks n ≡ true → WasAsked port past ks n
tested_asked port n ks [] e = absurd (true≢false (sym e))
tested_asked port n ks (e ∷ past) h =
    elim (or_cases (is_ask port ks n e) (not (is_import (first_slot ks) n e) && was_asked port past ks n) h) [
      | inl u ↦ inl (tested_ask port n ks e u)
      | inr u ↦ (let p = and_parts (not (is_import (first_slot ks) n e)) (was_asked port past ks n) u in
          inr (tested_import (first_slot ks) n e (not_holds _ p.0), tested_asked port n ks past p.1))
    ]

pub asked_by_test : AskedByTest
asked_by_test port n ks past = (asked_tested port n ks past, tested_asked port n ks past)
