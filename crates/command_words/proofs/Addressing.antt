-- What is read of addresses in words.
use Rattle.std.proofs.Common.{◌≡◌, ◌∙◌, ℕ, zero, suc, ◌+◌, ◌<◌, ◌≤◌, List, [], ◌∷◌, ◌++◌, length, take, refl, sym, ap}
use Rattle.std.proofs.Common.{subst, arith, get_or, Bor, map}
use Rattle.std.specs.List.{All}
use Rattle.std.specs.Net.Socket.{v4_port}
use Rattle.std.specs.declared.net.socket_addr.SocketAddrV4.{SocketAddrV4}
use Rattle.std.proofs.lemmas.List.{length-map, map-append, take_more}
use Rattle.std.proofs.lemmas.List.Elements.{All-nil, All-cons}
use Rattle.std.proofs.lemmas.List.Splits.{length-slice_split}
use Rattle.std.proofs.NetLemmas.Theorems.{IsSocketV4Text_unique}
use Rattle.std.specs.Net.Grammar.{IsSocketV4Text, Parses}
use Rattle.std.specs.Prelude.{nat_eq, IfSome, MatchOption, Option, Some, None, Result, Err}
use Rattle.byte_texts.specs.Parts.{parts}
use Rattle.command_words.specs.Addresses.{AreAddresses, AreWritten, IsAddress}

abbrev pub texts : List (Bor (List ℕ)) → List (List ℕ)
texts ws = map (λ w. w.now) ws

written_more : (ts : List (List ℕ)) (addresses : List SocketAddrV4) (t : List ℕ) (a : SocketAddrV4)
    → AreWritten ts addresses → IsAddress t a
    → AreWritten (ts ++ t ∷ []) (addresses ++ a ∷ [])
written_more [] [] t a written is = (is, tt)
written_more [] (b ∷ bs) t a written is = absurd written
written_more (s ∷ ts) [] t a written is = absurd written
written_more (s ∷ ts) (b ∷ bs) t a written is = (written.0, written_more ts bs t a written.1 is)

-- the words before a place are read, and then that at the place
pub one_more : (ws : List (Bor (List ℕ))) (i : ℕ) (d : Bor (List ℕ)) (addresses more : List SocketAddrV4)
    (a : SocketAddrV4) → i < length ws
    → AreWritten (texts (take i ws)) addresses → IsAddress (get_or ws i d).now a → more ≡ addresses ++ a ∷ []
    → AreWritten (texts (take (i + 1) ws)) more
one_more ws i d addresses more a within written is grown =
    let longer : texts (take (i + 1) ws) ≡ texts (take i ws) ++ (get_or ws i d).now ∷ [] =
    ap texts (take_more ws i d within) ∙ map-append (λ (w : Bor (List ℕ)). w.now) (take i ws) (get_or ws i d ∷ []) in
    let both : AreWritten (texts (take i ws) ++ (get_or ws i d).now ∷ []) (addresses ++ a ∷ []) =
    written_more (texts (take i ws)) addresses (get_or ws i d).now a written is in
    subst (λ (xs : List SocketAddrV4). AreWritten (texts (take (i + 1) ws)) xs) (sym grown)
    (subst (λ (ts : List (List ℕ)). AreWritten ts (addresses ++ a ∷ [])) (sym longer) both)

-- a word that writes none
pub none_written : (ws : List (Bor (List ℕ))) (addresses : List SocketAddrV4) (i : ℕ) (d : Bor (List ℕ)) → i < length ws
    → ((a : SocketAddrV4) → IsAddress (get_or ws i d).now a → ⊥) → AreWritten (texts ws) addresses → ⊥
none_written [] addresses i d within none written = absurd (omega arith)
none_written (w ∷ ws) [] i d within none written = written
none_written (w ∷ ws) (a ∷ rest) zero d within none written = none a written.0
none_written (w ∷ ws) (a ∷ rest) (suc i) d within none written = none_written ws rest i d (omega arith) none written.1

-- ---- how many there are

pub as_many : (ts : List (List ℕ)) (addresses : List SocketAddrV4) → AreWritten ts addresses
    → length addresses ≡ length ts
as_many [] [] written = refl
as_many [] (a ∷ rest) written = absurd written
as_many (t ∷ ts) [] written = absurd written
as_many (t ∷ ts) (a ∷ rest) written =
    let tail : length rest ≡ length ts = as_many ts rest written.1 in
    omega arith

pub some_part : (text : List ℕ) → 1 ≤ length (parts 44 text)
some_part text =
    let n : length (parts 44 text) ≡ _ = length-slice_split (λ b. nat_eq b 44) text in
    omega arith

pub has_ports : (ts : List (List ℕ)) (addresses : List SocketAddrV4) → AreWritten ts addresses
    → All (λ a. 1 ≤ v4_port a) addresses
has_ports [] [] written = All-nil (λ a. 1 ≤ v4_port a)
has_ports [] (a ∷ rest) written = absurd written
has_ports (t ∷ ts) [] written = absurd written
has_ports (t ∷ ts) (a ∷ rest) written = All-cons (λ a. 1 ≤ v4_port a) a rest written.0.1 (has_ports ts rest written.1)

-- ---- an address that was read

pub not_written : {E : Type 0} (text : List ℕ) (r : Result SocketAddrV4 E) (e : E) → r ≡ Err e
    → Parses IsSocketV4Text text r
    → (a : SocketAddrV4) → IsAddress text a → ⊥
not_written {E} text r e is parsed a h =
    let refused : (b : SocketAddrV4) → IsSocketV4Text text b → ⊥ =
    subst (λ (r : Result SocketAddrV4 E). Parses IsSocketV4Text text r) is parsed in
    refused a h.0

pub no_port : (text : List ℕ) (b : SocketAddrV4) → IsSocketV4Text text b → v4_port b ≡ 0 → (a : SocketAddrV4)
    → IsAddress text a → ⊥
no_port text b written none a h =
    let same : v4_port a ≡ v4_port b = ap v4_port (IsSocketV4Text_unique text a b h.0 written) in
    let some : 1 ≤ v4_port a = h.1 in
    omega arith

-- ---- what is read of all words

module _ (text : List ℕ) (ws : List (Bor (List ℕ))) (are : texts ws ≡ parts 44 text) where
  as_many_words : length (parts 44 text) ≡ length ws
  as_many_words = sym (ap length are) ∙ length-map ws (λ (w : Bor (List ℕ)). w.now)

  pub too_many : 8 < length ws → (addresses : List SocketAddrV4) → AreAddresses text addresses → ⊥
  too_many many addresses h =
      let as_parts = as_many (parts 44 text) addresses h.0 in
      let as_words = as_many_words in
      let few : length addresses ≤ 8 = h.1 in
      omega arith

  module _ {V : Type 0} (items : V → List SocketAddrV4) where
    abbrev pub Written : Option V → Type 0
    Written o = MatchOption o ((addresses : List SocketAddrV4) → AreWritten (texts ws) addresses → ⊥)
        (λ v. AreWritten (texts ws) (items v))

    abbrev pub Read : Option V → Type 0
    Read o = MatchOption o ((addresses : List SocketAddrV4) → AreAddresses text addresses → ⊥)
        (λ v. AreAddresses text (items v))

    by_text : (addresses : List SocketAddrV4) → AreWritten (texts ws) addresses → AreWritten (parts 44 text) addresses
    by_text addresses = subst (λ (ts : List (List ℕ)). AreWritten ts addresses) are

    pub few_written : (o : Option V) → length ws ≤ 8 → Written o → Read o
    few_written None few none = λ addresses h. none addresses
        (subst (λ (ts : List (List ℕ)). AreWritten ts addresses) (sym are) h.0)
    few_written (Some v) few written =
        let as_parts = as_many (parts 44 text) (items v) (by_text (items v) written) in
        let as_words = as_many_words in
        (by_text (items v) written, omega arith)

    pub some_written : (o : Option V) → Written o → IfSome o (λ v. 1 ≤ length (items v))
    some_written None none = tt
    some_written (Some v) written =
        let as_parts = as_many (parts 44 text) (items v) (by_text (items v) written) in
        let some = some_part text in
        omega arith

    pub few_of_few : (o : Option V) → length ws ≤ 8 → Written o → IfSome o (λ v. length (items v) ≤ 8)
    few_of_few None few none = tt
    few_of_few (Some v) few written = (few_written (Some v) few written).1

    pub ports_written : (o : Option V) → Written o → IfSome o (λ v. All (λ a. 1 ≤ v4_port a) (items v))
    ports_written None none = tt
    ports_written (Some v) written = has_ports (texts ws) (items v) written
