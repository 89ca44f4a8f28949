-- What is told of a command.
use Rattle.std.specs.Prelude.{ℕ, ◌+◌, ℤ, pos, negsuc, List, [], ◌∷◌}
use Rattle.client_commands.specs.declared.table.Arity.{Arity}
use Rattle.client_commands.specs.declared.table.Arity.TheVariants.{Exactly, AtLeast}
use Rattle.client_commands.specs.declared.flag.Flag.{Flag}
use Rattle.client_commands.specs.declared.flag.Flag.TheVariants.{Fast, NoScript, Loading, Stale, NoAuth, AllowBusy}
use Rattle.client_commands.specs.declared.key_range.KeyRange.{KeyRange}

-- of a command's page: its group, the first version that has it, and what it does
pub record Page : Type 0 where
  pub group : List ℕ
  pub since : List ℕ
  pub summary : List ℕ

pub record Entry : Type 0 where
  pub text : List ℕ
  pub arity : ℤ
  pub flags : List Flag
  pub keys : KeyRange
  pub page : Page

abbrev pub page : (group since summary : List ℕ) → Page
page g s d = record { group = g; since = s; summary = d }

abbrev pub told : List ℕ → ℤ → List Flag → KeyRange → Page → Entry
told t a f k p = record { text = t; arity = a; flags = f; keys = k; page = p }

-- how many words there are with the name: a negative number where there may be more
abbrev pub arity_of : Arity → ℤ
arity_of (Exactly n) = pos (n + 1)
arity_of (AtLeast n) = negsuc n

-- ---- the flags of questions

abbrev pub no_flags : List Flag
no_flags = []

abbrev pub fast : List Flag
fast = Fast ∷ []

abbrev pub any_time : List Flag
any_time = Loading ∷ Stale ∷ []

abbrev pub any_time_fast : List Flag
any_time_fast = Loading ∷ Stale ∷ Fast ∷ []

abbrev pub first_of_all : List Flag
first_of_all = NoScript ∷ Loading ∷ Stale ∷ Fast ∷ NoAuth ∷ AllowBusy ∷ []

-- ---- where the keys stand among the words

abbrev pub no_key : KeyRange
no_key = record { first = pos 0; last = pos 0; step = pos 0 }
