-- The order of addresses: the four numbers of IPv4, and then the port.
use Rattle.std.specs.Prelude.{ℕ, ◌+◌, ◌*◌, List, [], ◌∷◌, Option, Some, None, option_map}
use Rattle.byte_texts.specs.Decimals.{number_in}
use Rattle.byte_texts.specs.Parts.{parts}
use Rattle.listed_nodes.specs.Names.{if_there}
use Rattle.server_commands.specs.declared.book.Server.{Server}

abbrev pub part_in : List ℕ → Option ℕ
part_in t = number_in 0 255 t

-- the 32 bits of these parts between the dots
abbrev pub ipv4_of : List (List ℕ) → Option ℕ
ipv4_of (a ∷ (b ∷ (c ∷ (d ∷ [])))) =
    if_there (part_in a) (λ w. if_there (part_in b) (λ x. if_there (part_in c) (λ y. if_there (part_in d) (λ z.
    Some (((w * 256 + x) * 256 + y) * 256 + z)))))
ipv4_of parts = None

abbrev pub ipv4_in : List ℕ → Option ℕ
ipv4_in t = ipv4_of (parts 46 t)

-- the place of a server among others, if it has an address of IPv4
abbrev pub place_of : Server → Option ℕ
place_of s = option_map (λ a. a * 65536 + s.port) (ipv4_in s.host)
