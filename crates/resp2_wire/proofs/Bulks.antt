-- The words of a request as bulks.
use Rattle.std.proofs.Common.{◌≡◌, suc, [], ◌∷◌, length, refl, ap}
use Rattle.resp2_wire.specs.Encoding.{length_of}
use Rattle.resp2_wire.specs.RequestLaws.{bulks}
use Rattle.resp2_wire.specs.Stream.{Words}

pub as_many : (ws : Words) → length_of (bulks ws) ≡ length ws
as_many [] = refl
as_many (w ∷ ws) = ap (λ n. suc n) (as_many ws)
