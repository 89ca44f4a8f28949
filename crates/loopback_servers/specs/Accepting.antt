-- How an acceptor ends.
use Rattle.std.specs.Prelude.{◌≡◌, ◌≤◌, ℕ, cond, ◌==◌, true}
use Rattle.loopback_servers.specs.declared.accepted.Accepted.{Accepted}

-- so many connections, where 0 is no end: 2^64 - 1 of them
abbrev pub most_accepted : (connections : ℕ) → ℕ
most_accepted connections = cond (connections == 0) 18446744073709551615 connections

-- at its normal end it accepted all of them; it ends earlier only where nobody is left to serve them
pub record Accepts (connections : ℕ) (accepted : Accepted) : Type 0 where
  pub most : accepted.count ≤ most_accepted connections
  pub all : accepted.served ≡ true → accepted.count ≡ most_accepted connections
