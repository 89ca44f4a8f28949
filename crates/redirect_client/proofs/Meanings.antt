-- What the text of an error tells.
use Rattle.std.proofs.Common.{◌≡◌, ◌≢◌, ℕ, ◌<◌, List, [], ◌∷◌, ◌++◌, codes, refl, ap, sym, ◌∙◌, inl, inr}
use Rattle.std.proofs.Common.{Bool, true, false, ◌&&◌, nat_eq, length, take, arith}
use Rattle.std.proofs.lemmas.Bool.{eq-eqb, eqb-true}
use Rattle.std.specs.Cmp.Lexicographic.{pointwise}
use Rattle.resp2_wire.specs.declared.reply.Reply.TheVariants.{Error}
use Rattle.cluster_node.specs.Redirections.{redirection}
use Rattle.redirect_client.specs.Redirects.{IsRedirection, Means}
use Rattle.redirect_client.specs.declared.meaning.Redirect.{Redirect}
use Rattle.redirect_client.specs.declared.meaning.Redirect.TheVariants.{Moved, Ask, TryAgain}
use Rattle.redirect_client.specs.declared.meaning.Meaning.TheVariants.{Bad}
use Rattle.redirect_client.proofs.Addresses.{place_after}
use Rattle.key_slots.proofs.DecimalNumbers.{both}

-- two errors that begin with other bytes
pub other_errors : (a b : ℕ) (x y : List ℕ) → a < b → Error (a ∷ x) ≡ Error (b ∷ y) → ⊥
other_errors a b x y less e = differ a b less (same e)
  where
    same : Error (a ∷ x) ≡ Error (b ∷ y) → a ≡ b
    same h = cc

    differ : (n m : ℕ) → n < m → n ≡ m → ⊥
    differ n m h g = omega arith

module _ (port nodes s : ℕ) (t rest : List ℕ) where
  pub moved_at : t ≡ codes "MOVED " ++ rest → (n : ℕ) → n < nodes → rest ≡ place_after port s n
      → IsRedirection port nodes s (Error t) (Moved n)
  unfolding redirection
  moved_at is n below e = record { known = below; text = ap Error (is ∙ ap (λ r. codes "MOVED " ++ r) e) }

  pub ask_at : t ≡ codes "ASK " ++ rest → (n : ℕ) → n < nodes → rest ≡ place_after port s n
      → IsRedirection port nodes s (Error t) (Ask n)
  unfolding redirection
  ask_at is n below e = record { known = below; text = ap Error (is ∙ ap (λ r. codes "ASK " ++ r) e) }

  -- no node is named

  no_moved : t ≡ codes "MOVED " ++ rest → ((n : ℕ) → n < nodes → rest ≢ place_after port s n) → (x : Redirect)
      → IsRedirection port nodes s (Error t) x → ⊥
  unfolding redirection
  no_moved is none (Moved n) r = let text = r.text in let e : rest ≡ place_after port s n = cc in none n r.known e
  no_moved is none (Ask n) r = other_errors 65 77 _ _ (omega arith) (sym r.text ∙ ap Error is)
  no_moved is none TryAgain r = other_errors 77 84 _ _ (omega arith) (sym (ap Error is) ∙ r.text)

  no_ask : t ≡ codes "ASK " ++ rest → ((n : ℕ) → n < nodes → rest ≢ place_after port s n) → (x : Redirect)
      → IsRedirection port nodes s (Error t) x → ⊥
  unfolding redirection
  no_ask is none (Moved n) r = other_errors 65 77 _ _ (omega arith) (sym (ap Error is) ∙ r.text)
  no_ask is none (Ask n) r = let text = r.text in let e : rest ≡ place_after port s n = cc in none n r.known e
  no_ask is none TryAgain r = other_errors 65 84 _ _ (omega arith) (sym (ap Error is) ∙ r.text)

  pub bad_moved : t ≡ codes "MOVED " ++ rest → ((n : ℕ) → n < nodes → rest ≢ place_after port s n)
      → Means port nodes s (Error t) Bad
  bad_moved is none = (inl (rest, ap Error is), no_moved is none)

  pub bad_ask : t ≡ codes "ASK " ++ rest → ((n : ℕ) → n < nodes → rest ≢ place_after port s n)
      → Means port nodes s (Error t) Bad
  bad_ask is none = (inr (rest, ap Error is), no_ask is none)

-- ---- a text that does not begin so, and one that is TRYAGAIN's

second_false : (x y : Bool) → (x && y) ≡ false → x ≡ true → y ≡ false
second_false true y h e = h
second_false false y h e = cc

pub not_begun : (word t : List ℕ) → pointwise nat_eq (take (length word) t) word ≡ false → (rest : List ℕ) → t ≢ word ++ rest
not_begun [] t h rest e = cc
not_begun (b ∷ word) [] h rest e = cc
not_begun (b ∷ word) (a ∷ t) h rest e =
    let first : a ≡ b = cc in
    let more : t ≡ word ++ rest = cc in
    not_begun word t (second_false (nat_eq a b) (pointwise nat_eq (take (length word) t) word) h (eq-eqb a b first)) rest more

pub same_text : (t u : List ℕ) → pointwise nat_eq t u ≡ true → t ≡ u
same_text [] [] h = refl
same_text [] (b ∷ u) h = cc
same_text (a ∷ t) [] h = cc
same_text (a ∷ t) (b ∷ u) h =
    let s = both (nat_eq a b) (pointwise nat_eq t u) h in ap (λ x. x ∷ t) (eqb-true a b s.0) ∙ ap (λ r. b ∷ r) (same_text t u s.1)

pub means_again : (port nodes s : ℕ) (t : List ℕ) → t ≡ codes "TRYAGAIN Multiple keys request during rehashing of slot"
    → IsRedirection port nodes s (Error t) TryAgain
unfolding redirection
means_again port nodes s t e = record { known = tt; text = ap Error e }
