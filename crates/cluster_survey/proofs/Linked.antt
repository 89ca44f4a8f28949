-- Connections that are opened one after the other.
use Rattle.std.proofs.Common.{◌≡◌, ℕ, ◌+◌, List, [], ◌∷◌, ◌++◌, length, get_or, Option, inl, inr, sym, subst, ap, ◌∙◌}
use Rattle.std.proofs.Common.{Bool, true, cond, arith}
use Rattle.std.proofs.lemmas.Bool.{cases_lt}
use Rattle.std.proofs.lemmas.List.{get_or_append_left, length-append}
use Rattle.std.proofs.Math.Seq.{get_or-append_seam}
use Rattle.std.specs.declared.net.socket_addr.SocketAddrV4.{SocketAddrV4}
use Rattle.server_commands.specs.Servers.{server_at}
use Rattle.server_commands.specs.declared.book.Server.{Server}
use Rattle.server_commands.specs.declared.credentials.Credentials.{Credentials}
use Rattle.server_links.specs.declared.link.Link as link
use Rattle.cluster_survey.specs.Linking.{AreLinked, IsAddressOf, IsLinked}
use Rattle.server_links.specs.Streams.{Streams}
use Rattle.server_links.specs.declared.unreached.Unreached.{Unreached}

-- the address is that of the server with this number
pub address_at : (b : List Server) (n m : ℕ) (s : Server) (a : SocketAddrV4) → s ≡ server_at b m → m ≡ n → IsAddressOf s a
    → IsAddressOf (server_at b n) a
address_at b n m s a here same address =
    subst (λ (k : ℕ). IsAddressOf (server_at b k) a) same (subst (λ (x : Server). IsAddressOf x a) here address)

module _ {I O : Type 0} (reaches : SocketAddrV4 → I → O → Type 0) (refuses : SocketAddrV4 → Unreached → Type 0)
    (by : Streams I O) (k : Option Credentials) where
  -- a push that did not fail
  pub put_last : (b : Bool) (links links' : List (link.Link I O)) (l : link.Link I O)
      → links' ≡ cond b (links ++ l ∷ []) links → b ≡ true → links' ≡ links ++ l ∷ []
  put_last b links links' l pushed went = pushed ∙ ap (λ x. cond x (links ++ l ∷ []) links) went

  pub none_linked : (b : List Server) (links : List (link.Link I O)) → links ≡ []
      → AreLinked reaches refuses by k b 0 links
  none_linked b links none = record { many = ap length none; each = λ n d lt. absurd (omega (arith, lt)) }

  -- one more
  pub one_linked : (b : List Server) (count : ℕ) (links links' : List (link.Link I O)) (l : link.Link I O)
      → AreLinked reaches refuses by k b count links
      → IsLinked reaches refuses by k (server_at b count) l → links' ≡ links ++ l ∷ []
      → AreLinked reaches refuses by k b (count + 1) links'
  one_linked b count links links' l before linked more = record {
    many = ap length more ∙ length-append links (l ∷ []) ∙ omega (arith, before.many);
    each = λ n d lt. elim (cases_lt n count) [
      | inl less ↦ subst (λ (x : link.Link I O). IsLinked reaches refuses by k (server_at b n) x)
          (sym (get_or_append_left links (l ∷ []) d n (omega (arith, before.many)))
          ∙ ap (λ (xs : List (link.Link I O)). get_or xs n d) (sym more)) (before.each n d less)
      | inr ge ↦
          let here : count ≡ n = omega arith in
          let last : l ≡ get_or links' n d =
          sym (get_or-append_seam links l [] d)
          ∙ ap (λ j. get_or (links ++ l ∷ []) j d) (before.many ∙ here)
          ∙ ap (λ (xs : List (link.Link I O)). get_or xs n d) (sym more) in
          subst (λ (x : link.Link I O). IsLinked reaches refuses by k (server_at b n) x) last
          (subst (λ j. IsLinked reaches refuses by k (server_at b j) l) here linked)
    ];
  }
