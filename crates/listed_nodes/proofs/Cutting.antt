-- A text is cut at the last byte of a kind, which is looked for from its end.
use Rattle.std.proofs.Common.{◌≡◌, ℕ, zero, suc, ◌+◌, ◌<◌, true, false, List, [], ◌∷◌, length, take, drop}
use Rattle.std.proofs.Common.{get_or, None, Some, nat_eq, refl, arith, add-one}
use Rattle.std.proofs.Math.Seq.{drop-cons}
use Rattle.byte_texts.proofs.Parting.{rest_cut}
use Rattle.listed_nodes.specs.Addresses.{split_last}

-- no such byte stands at this place or behind it
pub none_from : (t : List ℕ) (byte at : ℕ) → at < length t → split_last byte (drop (at + 1) t) ≡ None
    → nat_eq (get_or t at 0) byte ≡ false → split_last byte (drop at t) ≡ None
none_from t byte at lt none other =
    let rest : split_last byte (drop (suc at) t) ≡ None = rw add-one at none in
    let begins : drop at t ≡ get_or t at 0 ∷ drop (suc at) t = drop-cons t at 0 lt in
    rw (begins, rest, other) refl

-- none stands behind this place, and one at it
found_at : (t : List ℕ) (byte at : ℕ) → at < length t → split_last byte (drop (suc at) t) ≡ None
    → nat_eq (get_or t at 0) byte ≡ true → split_last byte t ≡ Some (take at t, drop (suc at) t)
found_at [] byte at lt none here = absurd (omega arith)
found_at (b ∷ t) byte zero lt none here =
    let rest : split_last byte t ≡ None = none in rw (rest, here) refl
found_at (b ∷ t) byte (suc at) lt none here =
    let rest = found_at t byte at (omega arith) none here in rw rest refl

pub last_at : (t : List ℕ) (byte at : ℕ) → at < length t → split_last byte (drop (at + 1) t) ≡ None
    → nat_eq (get_or t at 0) byte ≡ true → split_last byte t ≡ Some (take at t, drop (at + 1) t)
last_at t byte at lt none here =
    let rest : split_last byte (drop (suc at) t) ≡ None = rw add-one at none in
    rw add-one (found_at t byte at lt rest here)

pub ruleset cut_at_last = (none_from, last_at, rest_cut)
