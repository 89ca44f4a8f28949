-- Addresses of servers in words, with commas between them.
use Rattle.std.specs.Prelude.{ℕ, ◌≤◌, List, [], ◌∷◌, length}
use Rattle.std.specs.Net.Grammar.{IsSocketV4Text}
use Rattle.std.specs.Net.Socket.{v4_port}
use Rattle.std.specs.declared.net.socket_addr.SocketAddrV4.{SocketAddrV4}
use Rattle.byte_texts.specs.Parts.{parts}

-- the four numbers of an IPv4 address with dots between them, a colon, and the port, which is not 0
abbrev pub IsAddress : List ℕ → SocketAddrV4 → Type 0
IsAddress text address = IsSocketV4Text text address × (1 ≤ v4_port address)

-- each text writes the address at its place
abbrev pub AreWritten : List (List ℕ) → List SocketAddrV4 → Type 0
AreWritten [] [] = Unit {0}
AreWritten [] (address ∷ addresses) = ⊥
AreWritten (text ∷ texts) [] = ⊥
AreWritten (text ∷ texts) (address ∷ addresses) = IsAddress text address × AreWritten texts addresses

-- one to eight of them
abbrev pub AreAddresses : List ℕ → List SocketAddrV4 → Type 0
AreAddresses text addresses = AreWritten (parts 44 text) addresses × (length addresses ≤ 8)
