-- Servers that become the nodes of their names, one after the other.
use Rattle.std.proofs.Common.{◌≡◌, ℕ, ◌+◌, ◌<◌, ◌≤◌, Bool, true, false, cond, ◌==◌, List, [], ◌∷◌, length, drop, get_or, map}
use Rattle.std.proofs.Common.{sym, subst, ap, ◌∙◌, Result, Ok}
use Rattle.std.specs.List.{All}
use Rattle.std.proofs.lemmas.List.Elements.{All-cons, All-head, All-nil, All-tail}
use Rattle.byte_texts.specs.Outcomes.{◌>>=◌}
use Rattle.cluster_views.proofs.Firsts.{drop_end, drop_item}
use Rattle.cluster_views.specs.Views.{number_of}
use Rattle.key_slots.specs.declared.slot_range.SlotRange.{SlotRange}
use Rattle.node_names.specs.Names.{Names}
use Rattle.survey_files.specs.Faults.{IsFaultOf}
use Rattle.survey_files.specs.Numbering.{numbered, other_number, put_at, with_owner}
use Rattle.survey_files.specs.Reading.{Told}
use Rattle.survey_files.specs.declared.file_fault.FileFault.{FileFault}
use Rattle.survey_files.proofs.Telling.{fault_along, stopped, went_on}

-- ---- the owners of ranges are nodes still

other_below : (k n m j : ℕ) → k < m → n < m → j < m → other_number k n j < m
other_below k n m j a b c = by (j == k) (j == n)
  where
    by : (s t : Bool) → cond s n (cond t k j) < m
    by true t = b
    by false true = a
    by false false = c

all_named : (k n m : ℕ) (rs : List SlotRange) → k < m → n < m → All (λ r. r.owner < m) rs
    → All (λ r. r.owner < m) (map (with_owner k n) rs)
all_named k n m [] a b named = All-nil (λ (r : SlotRange). r.owner < m)
all_named k n m (r ∷ rs) a b named =
    All-cons (λ (x : SlotRange). x.owner < m) (with_owner k n r) (map (with_owner k n) rs)
    (other_below k n m r.owner a b (All-head (λ (x : SlotRange). x.owner < m) r rs named))
    (all_named k n m rs a b (All-tail (λ (x : SlotRange). x.owner < m) r rs named))

pub exchanged_named : (k n m m' : ℕ) (rs rs' : List SlotRange) → k < m → n < m → All (λ r. r.owner < m) rs
    → rs' ≡ map (with_owner k n) rs → m' ≡ m → All (λ r. r.owner < m') rs'
exchanged_named k n m m' rs rs' a b named is same =
    subst (λ i. All (λ r. r.owner < i) rs') (sym same)
    (subst (λ xs. All (λ r. r.owner < m) xs) (sym is) (all_named k n m rs a b named))

-- ---- one name after the other

next_name : (names : Names) (i : ℕ) (p : ℕ × List ℕ) (told : Told) → i < length names → p ≡ get_or names i p
    → numbered (drop i names) told
    ≡ (put_at p told (number_of told.servers p.1) >>= numbered (drop (i + 1) names))
next_name names i p told lt is = ap (λ ns. numbered ns told) (drop_item names i p lt is)

pub name_put : (names : Names) (i : ℕ) (p : ℕ × List ℕ) (told told' : Told) (whole : Result Told FileFault)
    → i < length names → p ≡ get_or names i p → whole ≡ numbered (drop i names) told
    → put_at p told (number_of told.servers p.1) ≡ Ok told' → whole ≡ numbered (drop (i + 1) names) told'
name_put names i p told told' whole lt is before put =
    before ∙ next_name names i p told lt is
    ∙ went_on (put_at p told (number_of told.servers p.1)) told' (numbered (drop (i + 1) names)) put

pub name_refused : (names : Names) (i : ℕ) (p : ℕ × List ℕ) (told : Told) (whole : Result Told FileFault) (e : FileFault)
    → i < length names → p ≡ get_or names i p → whole ≡ numbered (drop i names) told
    → IsFaultOf (put_at p told (number_of told.servers p.1)) e → IsFaultOf whole e
name_refused names i p told whole e lt is before fault =
    fault_along whole (put_at p told (number_of told.servers p.1) >>= numbered (drop (i + 1) names)) e
    (before ∙ next_name names i p told lt is)
    (stopped (put_at p told (number_of told.servers p.1)) e (numbered (drop (i + 1) names)) fault)

pub names_end : (names : Names) (i : ℕ) (told : Told) (whole : Result Told FileFault) → length names ≤ i
    → whole ≡ numbered (drop i names) told → whole ≡ Ok told
names_end names i told whole le before = before ∙ ap (λ ns. numbered ns told) (drop_end names i le)

pub ruleset names_put = (name_put, name_refused, names_end)
