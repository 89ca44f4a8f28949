-- What an owner table ensures of itself: it is one.
use Rattle.std.proofs.Common.{◌≡◌, ℕ, ◌<◌, ◌≤◌, length, subst}
use Rattle.std.specs.List.{All}
use Rattle.key_slots.specs.Owners.{IsTable, Owners}

pub table_of : (o : Owners) (n : ℕ) → n ≡ o.nodes → length o.owners ≡ 16384 → 1 ≤ n → n ≤ 255
    → All (λ m. m < o.nodes) o.owners → IsTable o
table_of o n is width some most named =
    record { width = width; some = subst (λ m. 1 ≤ m) is some; most = subst (λ m. m ≤ 255) is most; named = named }
