-- A walk over a list: the state so far is the fold over what was passed.
use Rattle.std.proofs.Common.{◌≡◌, ℕ, ◌+◌, ◌<◌, ◌≤◌, List, fold, get_or, length, take, ap, sym, ◌∙◌}
use Rattle.std.proofs.lemmas.List.{take_all}
use Rattle.std.proofs.lemmas.List.Sums.{fold_more}

pub walk_more : {S C : Type 0} (f : S → C → S) (a : S) (cs : List C) (i : ℕ) (c : C) (s new : S) → i < length cs → c ≡ get_or cs i c → s ≡ fold f a (take i cs) → new ≡ f s c → new ≡ fold f a (take (i + 1) cs)
walk_more f a cs i c s new lt at so_far is =
    is ∙ ap (λ t. f t c) so_far ∙ ap (f (fold f a (take i cs))) at ∙ sym (fold_more f a cs i c lt)

pub walk_all : {S C : Type 0} (f : S → C → S) (a : S) (cs : List C) (i : ℕ) (s : S) → length cs ≤ i → s ≡ fold f a (take i cs) → s ≡ fold f a cs
walk_all f a cs i s past so_far = so_far ∙ ap (fold f a) (take_all i cs past)
