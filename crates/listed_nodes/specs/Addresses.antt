-- The address of a node, `HOST:PORT@BUS`: where its clients, and the MIGRATEs of other nodes, reach it. What stands
-- behind the `@`, the port of the bus and perhaps a host name, says nothing here.
use Rattle.std.specs.Prelude.{ℕ, cond, nat_le, nat_eq, List, [], ◌∷◌, length, Option, None, Some}
use Rattle.byte_texts.specs.Decimals.{number_in}
use Rattle.byte_texts.specs.Parts.{split_once}
use Rattle.listed_nodes.specs.Names.{if_there}

-- the rest of a text is cut already, or is not and begins with this byte
abbrev pub cut_after : (byte b : ℕ) (t : List ℕ) → Option (List ℕ × List ℕ) → Option (List ℕ × List ℕ)
cut_after byte b t None = cond (nat_eq b byte) (Some ([], t)) None
cut_after byte b t (Some p) = Some (b ∷ p.0, p.1)

-- what stands before the last such byte, and what stands after it
abbrev pub split_last : (byte : ℕ) → List ℕ → Option (List ℕ × List ℕ)
split_last byte [] = None
split_last byte (b ∷ t) = cut_after byte b t (split_last byte t)

-- an IP address, which has at most 64 bytes, or nothing, where a node does not know its own yet
abbrev pub host_in : List ℕ → Option (List ℕ)
host_in t = cond (nat_le (length t) 64) (Some t) None

-- `HOST:PORT`: an address of IPv6 has `:` too
abbrev pub endpoint_of : (host port : List ℕ) → Option (List ℕ × ℕ)
endpoint_of host port = if_there (host_in host) (λ h. if_there (number_in 0 65535 port) (λ p. Some (h, p)))

abbrev pub endpoint_in : List ℕ → Option (List ℕ × ℕ)
endpoint_in t = if_there (split_last 58 t) (λ p. endpoint_of p.0 p.1)

abbrev pub address_in : List ℕ → Option (List ℕ × ℕ)
address_in t = if_there (split_once 64 t) (λ p. endpoint_in p.0)
