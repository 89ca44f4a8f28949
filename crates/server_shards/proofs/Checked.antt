-- A failed master that was asked for.
use Rattle.std.proofs.Common.{◌≡◌, ◌∙◌, ℕ, Bool, List, Ok, subst, sym}
use Rattle.server_commands.specs.Servers.{server_at}
use Rattle.server_commands.specs.declared.book.Server.{Server}
use Rattle.server_links.specs.Asking.{AsksAt}
use Rattle.server_shards.specs.Returning.{Asks, MayTakeBack}
use Rattle.server_shards.specs.Targets.{IsChecked, is_named}

pub named_as : (name read : List ℕ) (ids : List (List ℕ)) (r b : Bool) → read ≡ name → r ≡ is_named read ids → r ≡ b
    → is_named name ids ≡ b
named_as name read ids r b same is answer = subst (λ x. is_named x ids ≡ b) same (sym is ∙ answer)

pub checked_as : {L : Type 0} (asks : Asks L) (book : List Server) (n : ℕ) (old : Server) (links links' : List L)
    (r b : Bool) → r ≡ b → AsksAt (MayTakeBack asks n (server_at book n).name old.name) links n (Ok r) links'
    → IsChecked asks book n old b
checked_as asks book n old links links' r b is asked = (
  links,
  links',
  subst (λ x. AsksAt (MayTakeBack asks n (server_at book n).name old.name) links n (Ok x) links') is asked,
)
