-- A reply tells one thing.
use Rattle.std.proofs.Common.{◌≡◌, ℕ, ◌+◌, ◌<◌, ◌≤◌, List, [], ◌∷◌, ◌++◌, codes, refl, ap, sym, ◌∙◌, inl, inr, arith, decimal}
use Rattle.std.proofs.lemmas.Fmt.{decimal_injective}
use Rattle.resp2_wire.specs.declared.reply.Reply.{Reply}
use Rattle.resp2_wire.specs.declared.reply.Reply.TheVariants.{Error}
use Rattle.cluster_node.specs.Redirections.{redirection, address}
use Rattle.redirect_client.specs.Redirects.{IsRedirection, Means, HasOneMeaning}
use Rattle.redirect_client.specs.declared.meaning.Redirect.{Redirect}
use Rattle.redirect_client.specs.declared.meaning.Redirect.TheVariants.{Moved, Ask, TryAgain}
use Rattle.redirect_client.specs.declared.meaning.Meaning.{Meaning}
use Rattle.redirect_client.specs.declared.meaning.Meaning.TheVariants.{Answer, Redirected, Bad}
use Rattle.redirect_client.proofs.Addresses.{place_after}
use Rattle.redirect_client.proofs.Meanings.{other_errors}

cancel : (d a b : List ℕ) → d ++ a ≡ d ++ b → a ≡ b
cancel [] a b e = e
cancel (x ∷ d) a b e = cancel d a b cc

pub same_node : (port s n m : ℕ) → port ≤ 65528 → n < 255 → m < 255 → place_after port s n ≡ place_after port s m
    → n ≡ m
same_node port s n m p a b e =
    let rest : 32 ∷ address port n ≡ 32 ∷ address port m = cancel (decimal s) (32 ∷ address port n) (32 ∷ address port m) e in
    let text : decimal (port + n) ≡ decimal (port + m) = cc in
    let sum : port + n ≡ port + m = decimal_injective (port + n) (port + m) (omega arith) (omega arith) text in
    omega arith

moved_text : (a b : List ℕ) → Error (codes "MOVED " ++ a) ≡ Error (codes "MOVED " ++ b) → a ≡ b
moved_text a b e = cc

pub ask_text : (a b : List ℕ) → Error (codes "ASK " ++ a) ≡ Error (codes "ASK " ++ b) → a ≡ b
ask_text a b e = cc

module _ (port nodes s : ℕ) (r : Reply) (most : port ≤ 65528) (few : nodes ≤ 255) where
  one_redirect : (x y : Redirect) → IsRedirection port nodes s r x → IsRedirection port nodes s r y → x ≡ y
  unfolding redirection
  one_redirect (Moved n) (Moved m) h k =
      let a : n < nodes = h.known in
      let b : m < nodes = k.known in
      ap Moved (same_node port s n m most (omega arith) (omega arith) (moved_text (place_after port s n) (place_after port s m) (sym h.text ∙ k.text)))
  one_redirect (Moved n) (Ask m) h k = absurd (other_errors 65 77 _ _ (omega arith) (sym k.text ∙ h.text))
  one_redirect (Moved n) TryAgain h k = absurd (other_errors 77 84 _ _ (omega arith) (sym h.text ∙ k.text))
  one_redirect (Ask n) (Moved m) h k = absurd (other_errors 65 77 _ _ (omega arith) (sym h.text ∙ k.text))
  one_redirect (Ask n) (Ask m) h k =
      let a : n < nodes = h.known in
      let b : m < nodes = k.known in
      ap Ask (same_node port s n m most (omega arith) (omega arith) (ask_text (place_after port s n) (place_after port s m) (sym h.text ∙ k.text)))
  one_redirect (Ask n) TryAgain h k = absurd (other_errors 65 84 _ _ (omega arith) (sym h.text ∙ k.text))
  one_redirect TryAgain (Moved m) h k = absurd (other_errors 77 84 _ _ (omega arith) (sym k.text ∙ h.text))
  one_redirect TryAgain (Ask m) h k = absurd (other_errors 65 84 _ _ (omega arith) (sym k.text ∙ h.text))
  one_redirect TryAgain TryAgain h k = refl

  no_answer : (x : Redirect) → IsRedirection port nodes s r x → Means port nodes s r Answer → ⊥
  unfolding redirection
  no_answer (Moved n) h k = k.0 (inl (place_after port s n, h.text))
  no_answer (Ask n) h k = k.0 (inr (place_after port s n, h.text))
  no_answer TryAgain h k = k.1 h.text

  one_thing : (x y : Meaning) → Means port nodes s r x → Means port nodes s r y → x ≡ y
  one_thing (Redirected x) (Redirected y) h k = ap Redirected (one_redirect x y h k)
  one_thing (Redirected x) Bad h k = absurd (k.1 x h)
  one_thing (Redirected x) Answer h k = absurd (no_answer x h k)
  one_thing Bad (Redirected y) h k = absurd (h.1 y k)
  one_thing Bad Bad h k = refl
  one_thing Bad Answer h k = absurd (k.0 h.0)
  one_thing Answer (Redirected y) h k = absurd (no_answer y k h)
  one_thing Answer Bad h k = absurd (h.0 k.0)
  one_thing Answer Answer h k = refl

pub one_meaning : HasOneMeaning
one_meaning port nodes s r x y most few = one_thing port nodes s r most few x y
