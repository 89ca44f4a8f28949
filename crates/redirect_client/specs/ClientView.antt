-- What a client believes: the owner of each slot, and the port of the first node.
use Rattle.std.specs.Prelude.{ℕ, refl}
use Rattle.std.specs.Coded.{Coded, code_by, coded×, coded_ℕ}
use Rattle.key_slots.specs.Owners.{Owners, owners_code}

pub record ClientView : Type 0 where
  pub owners : Owners
  pub base_port : ℕ

abbrev pub client_view_code : Coded ClientView
client_view_code =
    code_by (Owners × ℕ) (coded× owners_code coded_ℕ) (λ c. (c.owners, c.base_port))
    (λ p. record { owners = p.0; base_port = p.1 }) (λ _. refl)
