-- The lines of transfers: the same slots in order, from their owner, and the owners that they leave.
use Rattle.std.proofs.Common.{◌≡◌, ◌≢◌, ◌⊎◌, ℕ, zero, suc, ◌+◌, ◌-◌, ◌*◌, ◌<◌, ◌≤◌, Bool, true, false, ◌&&◌, ◌||◌, cond, eqb, leb, List, [], ◌∷◌, ◌++◌, length, get_or, Option, Some, None, sym, refl, ap, ◌∙◌, arith, inl, inr, length-append}
use Rattle.std.proofs.lemmas.Bool.{and_from, and_left, and_parts, and_right, cases_eq, cases_lt, cond-true, cond-false, eq-eqb, eqb-true, le-leb, leb-true, lt-leb, or_cases, or_left, or_right}
use Rattle.std.specs.List.{AllByRecursion}
use Rattle.node_names.specs.Names.{Names, has_node}
use Rattle.plan_language.specs.declared.plan_command.PlanCommand.{PlanCommand}
use Rattle.plan_language.specs.Lines.{are_listed, numbers_from, plan_commands, line_commands, IsLine, IsWithin}
use Rattle.plan_language.specs.declared.limits.Limits.{Limits}
use Rattle.plan_language.specs.declared.plan_command.PlanCommand.TheVariants as planned
use Rattle.plan_semantics.specs.Plans.{part}
use Rattle.plan_semantics.specs.OwnedMoves.{slots_moved, IsOwnedMove}
use Rattle.plan_semantics.proofs.OwnedMoves.{part-append, part_above, part_below, part_within}
use Rattle.reshard_planner.specs.declared.transfer.Transfer.{Transfer}
use Rattle.reshard_planner.specs.declared.moved_range.MovedRange.{MovedRange}
use Rattle.reshard_planner.specs.Grouping.{range_of, goes_on, in_front, ranges_of, line_of, lines_of, plan_of}
use Rattle.reshard_planner.specs.Writing.{slots_written}
use Rattle.reshard_planner.proofs.Holding.{all_map}
use Rattle.reshard_planner.proofs.Moving.{IsTransfer, slots}

-- ---- when a range continues

pub record GoesOn (r : MovedRange) (slot source target : ℕ) : Type 0 where
  pub next : r.last + 1 ≡ slot
  pub same_source : r.source ≡ source
  pub same_target : r.target ≡ target

pub went_on : (r : MovedRange) (slot source target : ℕ) → goes_on r slot source target ≡ true → GoesOn r slot source target
went_on r slot source target e =
    let p = and_parts (eqb (r.last + 1) slot && eqb r.source source) (eqb r.target target) e in
    let q = and_parts (eqb (r.last + 1) slot) (eqb r.source source) p.0 in
    record {
      next = eqb-true (r.last + 1) slot q.0;
      same_source = eqb-true r.source source q.1;
      same_target = eqb-true r.target target p.1;
    }

-- ---- each range is moved from its owner

module _ (n : ℕ) (owners : List ℕ) where
  pub record IsOwnedRange (r : MovedRange) : Type 0 where
    pub order : r.first ≤ r.last
    pub within : r.last < length owners
    pub source : r.source < n
    pub target : r.target < n
    pub apart : r.source ≢ r.target
    pub owned : (s : ℕ) → r.first ≤ s → s ≤ r.last → get_or owners s 0 ≡ r.source

  one_owned : (t : Transfer) → IsTransfer n owners t → IsOwnedRange (range_of t)
  one_owned t h = record {
    order = omega arith;
    within = h.within;
    source = h.source;
    target = h.target;
    apart = h.apart;
    owned = λ s a b. ap (λ x. get_or owners x 0) (only s t.slot a b) ∙ h.owned;
  }
    where
      only : (s x : ℕ) → x ≤ s → s ≤ x → s ≡ x
      only s x a b = omega arith

  front_owned : (t : Transfer) (rs : List MovedRange) → IsTransfer n owners t → AllByRecursion IsOwnedRange rs
      → AllByRecursion IsOwnedRange (in_front (range_of t) rs)
  front_owned t [] h o = (one_owned t h, tt)
  front_owned t (next ∷ rest) h o =
      by (goes_on (range_of t) next.first next.source next.target) refl
    where
      joined : GoesOn (range_of t) next.first next.source next.target
          → IsOwnedRange (record { first = t.slot; last = next.last; source = t.source; target = t.target })
      joined g = let order : next.first ≤ next.last = o.0.order in let after : t.slot + 1 ≡ next.first = g.next in record {
        order = omega arith;
        within = o.0.within;
        source = h.source;
        target = h.target;
        apart = h.apart;
        owned = λ s a b. elim (cases_eq s t.slot) [
          | inl here ↦ ap (λ x. get_or owners x 0) here ∙ h.owned
          | inr later ↦ o.0.owned s (omega arith) b ∙ sym g.same_source
        ];
      }

      by : (b : Bool) → goes_on (range_of t) next.first next.source next.target ≡ b
          → AllByRecursion IsOwnedRange (cond b (record { first = t.slot; last = next.last; source = t.source; target = t.target } ∷ rest) (range_of t ∷ (next ∷ rest)))
      by true e = (joined (went_on (range_of t) next.first next.source next.target e), o.1)
      by false e = (one_owned t h, o)

  pub ranges_owned : (ts : List Transfer) → AllByRecursion (IsTransfer n owners) ts → AllByRecursion IsOwnedRange (ranges_of ts)
  ranges_owned [] h = tt
  ranges_owned (t ∷ ts) h = front_owned t (ranges_of ts) h.0 (ranges_owned ts h.1)

  pub lines_owned : (batch : ℕ) (rs : List MovedRange) → AllByRecursion IsOwnedRange rs
      → AllByRecursion (IsOwnedMove n owners) (lines_of batch rs)
  lines_owned batch [] h = tt
  lines_owned batch (r ∷ rs) h = ((h.0.source, h.0.target, h.0.apart, h.0.owned), lines_owned batch rs h.1)

  pub lines_well_formed : (batch : ℕ) (rs : List MovedRange) → 1 ≤ batch → batch ≤ 1000 → AllByRecursion IsOwnedRange rs
      → AllByRecursion IsLine (lines_of batch rs)
  lines_well_formed batch [] some most h = tt
  lines_well_formed batch (r ∷ rs) some most h = ((h.0.order, some, most), lines_well_formed batch rs some most h.1)

  pub lines_within : (l : Limits) (batch : ℕ) (rs : List MovedRange) → length owners ≡ 16384 → n ≤ l.nodes → AllByRecursion IsOwnedRange rs
      → AllByRecursion (IsWithin l) (lines_of batch rs)
  lines_within l batch [] width most h = tt
  lines_within l batch (r ∷ rs) width most h = (
    ((let w = h.0.within in omega arith), (let w = h.0.source in omega arith), (let w = h.0.target in omega arith)),
    lines_within l batch rs width most h.1,
  )

  pub lines_listed : (names : Names) (batch : ℕ) (rs : List MovedRange) → ((node : ℕ) → node < n → has_node names node ≡ true)
      → AllByRecursion IsOwnedRange rs → AllByRecursion (λ line. are_listed (Some names) line ≡ true) (lines_of batch rs)
  lines_listed names batch [] has h = tt
  lines_listed names batch (r ∷ rs) has h = (
    and_from (has_node names r.source) (has_node names r.target) (has r.source h.0.source) (has r.target h.0.target),
    lines_listed names batch rs has h.1,
  )

  -- ---- the same slots in order

  count_one : (first last : ℕ) → last ≡ first → numbers_from first (last + 1 - first) ≡ first ∷ []
  unfolding numbers_from
  count_one first last e = ap (numbers_from first) (one first last e)
    where
      one : (first last : ℕ) → last ≡ first → last + 1 - first ≡ 1
      one first last e = omega arith

  count_more : (first next last : ℕ) → first + 1 ≡ next → next ≤ last
      → numbers_from first (last + 1 - first) ≡ first ∷ numbers_from next (last + 1 - next)
  unfolding numbers_from
  count_more first next last e order =
      ap (numbers_from first) (more first next last e order) ∙ ap (λ x. first ∷ numbers_from x (last + 1 - next)) e
    where
      more : (first next last : ℕ) → first + 1 ≡ next → next ≤ last → last + 1 - first ≡ suc (last + 1 - next)
      more first next last e order = omega arith

  slots_front : (batch : ℕ) (t : Transfer) (rs : List MovedRange) → AllByRecursion IsOwnedRange rs
      → slots_moved (lines_of batch (in_front (range_of t) rs)) ≡ t.slot ∷ slots_moved (lines_of batch rs)
  slots_front batch t [] o = ap (λ l. l ++ []) (count_one t.slot t.slot refl)
  slots_front batch t (next ∷ rest) o = by (goes_on (range_of t) next.first next.source next.target) refl
    where
      by : (b : Bool) → goes_on (range_of t) next.first next.source next.target ≡ b
          → slots_moved (lines_of batch (cond b (record { first = t.slot; last = next.last; source = t.source; target = t.target } ∷ rest) (range_of t ∷ (next ∷ rest))))
          ≡ t.slot ∷ (numbers_from next.first (next.last + 1 - next.first) ++ slots_moved (lines_of batch rest))
      by true e = ap (λ l. l ++ slots_moved (lines_of batch rest)) (count_more t.slot next.first next.last
          (went_on (range_of t) next.first next.source next.target e).next o.0.order)
      by false e = ap (λ l. l ++ (numbers_from next.first (next.last + 1 - next.first) ++ slots_moved (lines_of batch rest))) (count_one t.slot t.slot refl)

  pub slots_grouped : (batch : ℕ) (ts : List Transfer) → AllByRecursion (IsTransfer n owners) ts
      → slots_moved (plan_of batch ts) ≡ slots ts
  slots_grouped batch [] h = refl
  slots_grouped batch (t ∷ ts) h =
      slots_front batch t (ranges_of ts) (ranges_owned ts h.1) ∙ ap (λ l. t.slot ∷ l) (slots_grouped batch ts h.1)

length-counted : (first k : ℕ) → length (numbers_from first k) ≡ k
unfolding numbers_from
length-counted first zero = refl
length-counted first (suc k) = let e : length (numbers_from (first + 1) k) ≡ k = length-counted (first + 1) k in omega arith

pub count_slots : (batch : ℕ) (rs : List MovedRange) → slots_written (lines_of batch rs) ≡ length (slots_moved (lines_of batch rs))
count_slots batch [] = refl
count_slots batch (r ∷ rs) =
    let e : slots_written (lines_of batch rs) ≡ length (slots_moved (lines_of batch rs)) = count_slots batch rs in
    let f = length-append (numbers_from r.first (r.last + 1 - r.first)) (slots_moved (lines_of batch rs)) in
    let g : length (numbers_from r.first (r.last + 1 - r.first)) ≡ r.last + 1 - r.first
    = length-counted r.first (r.last + 1 - r.first) in omega arith

-- ---- where each slot goes

-- the node that the first command of a slot is about, or the owner where there is none
abbrev pub target_or : ℕ → List PlanCommand → ℕ
target_or owner [] = owner
target_or owner (planned.Importing s m at ∷ rest) = at
target_or owner (planned.Migrating s m at ∷ rest) = m
target_or owner (planned.Drain s m t b ∷ rest) = t
target_or owner (planned.SetNode s m at ∷ rest) = m
target_or owner (planned.Stable s at ∷ rest) = at

-- the node that a slot's commands lead to
abbrev pub target_told : List PlanCommand → Option ℕ
target_told [] = None
target_told (o ∷ rest) = Some (target_or 0 (o ∷ rest))

-- the target of the first transfer of the slot
abbrev pub target_of : List Transfer → ℕ → Option ℕ
target_of [] s = None
target_of (t ∷ ts) s = cond (eqb t.slot s) (Some t.target) (target_of ts s)

is_in : (first last : ℕ) → ℕ → Bool
is_in first last s = leb first s && leb s last

target_in : List MovedRange → ℕ → Option ℕ
target_in [] s = None
target_in (r ∷ rs) s = cond (is_in r.first r.last s) (Some r.target) (target_in rs s)

in_true : (first last s : ℕ) → first ≤ s → s ≤ last → is_in first last s ≡ true
unfolding is_in
in_true first last s a b = and_from (leb first s) (leb s last) (le-leb first s a) (le-leb s last b)

in_parts : (first last s : ℕ) → is_in first last s ≡ true → (first ≤ s) × (s ≤ last)
unfolding is_in
in_parts first last s e =
    let p = and_parts (leb first s) (leb s last) e in (leb-true first s p.0, leb-true s last p.1)

in_below : (first last s : ℕ) → s < first → is_in first last s ≡ false
unfolding is_in
in_below first last s a = and_left (leb first s) (leb s last) (lt-leb first s a)

in_above : (first last s : ℕ) → last < s → is_in first last s ≡ false
unfolding is_in
in_above first last s a = and_right (leb first s) (leb s last) (lt-leb s last a)

same_truth : (a b : Bool) → (a ≡ true → b ≡ true) → (b ≡ true → a ≡ true) → a ≡ b
same_truth true b f g = sym (f refl)
same_truth false true f g = g refl
same_truth false false f g = refl

in_one : (x s : ℕ) → is_in x x s ≡ eqb x s
in_one x s = same_truth (is_in x x s) (eqb x s)
    (λ e. eq-eqb x s (only (in_parts x x s e).0 (in_parts x x s e).1))
    (λ e. let u : x ≡ s = eqb-true x s e in in_true x x s (omega arith) (omega arith))
  where
    only : x ≤ s → s ≤ x → x ≡ s
    only a b = omega arith

in_joined : (x first last s : ℕ) → x + 1 ≡ first → first ≤ last → is_in x last s ≡ (eqb x s || is_in first last s)
in_joined x first last s next order = same_truth (is_in x last s) (eqb x s || is_in first last s) there back
  where
    there : is_in x last s ≡ true → (eqb x s || is_in first last s) ≡ true
    there e = elim (cases_eq x s) [
      | inl u ↦ or_left (eqb x s) (is_in first last s) (eq-eqb x s u)
      | inr u ↦ (let p = in_parts x last s e in
          or_right (eqb x s) (is_in first last s) (in_true first last s (omega (arith, p.0)) p.1))
    ]

    back : (eqb x s || is_in first last s) ≡ true → is_in x last s ≡ true
    back e = elim (or_cases (eqb x s) (is_in first last s) e) [
      | inl u ↦ (let v : x ≡ s = eqb-true x s u in in_true x last s (omega arith) (omega arith))
      | inr u ↦ (let p = in_parts first last s u in in_true x last s (omega (arith, p.0)) p.1)
    ]

pub Ordered : MovedRange → Type 0
Ordered r = r.first ≤ r.last

-- what the commands of a line of ranges lead to
told_in : (n batch : ℕ) (rs : List MovedRange) (s : ℕ) → AllByRecursion Ordered rs
    → target_told (part (plan_commands n (lines_of batch rs)) s) ≡ target_in rs s
unfolding target_in Ordered
told_in n batch [] s h = refl
told_in n batch (r ∷ rs) s h =
    ap target_told (part-append (line_commands n (line_of batch r)) (plan_commands n (lines_of batch rs)) s)
    ∙ by (cases_lt s r.first) (cases_lt r.last s) (told_in n batch rs s h.1)
  where
    outside : part (line_commands n (line_of batch r)) s ≡ [] → is_in r.first r.last s ≡ false
        → target_told (part (plan_commands n (lines_of batch rs)) s) ≡ target_in rs s
        → target_told (part (line_commands n (line_of batch r)) s ++ part (plan_commands n (lines_of batch rs)) s)
        ≡ cond (is_in r.first r.last s) (Some r.target) (target_in rs s)
    outside e f g = ap (λ os. target_told (os ++ part (plan_commands n (lines_of batch rs)) s)) e ∙ g
        ∙ sym (cond-false (is_in r.first r.last s) (Some r.target) (target_in rs s) f)

    by : (s < r.first) ⊎ (r.first ≤ s) → (r.last < s) ⊎ (s ≤ r.last)
        → target_told (part (plan_commands n (lines_of batch rs)) s) ≡ target_in rs s
        → target_told (part (line_commands n (line_of batch r)) s ++ part (plan_commands n (lines_of batch rs)) s)
        ≡ cond (is_in r.first r.last s) (Some r.target) (target_in rs s)
    by (inl low) v g = outside
        (part_below n (r.last + 1 - r.first) r.first r.source r.target batch s low) (in_below r.first r.last s low) g
    by (inr from) (inl high) g = outside
        (part_above n (r.last + 1 - r.first) r.first r.source r.target batch s
        (let o : r.first ≤ r.last = h.0 in omega arith)) (in_above r.first r.last s high) g
    by (inr from) (inr upto) g =
        ap (λ os. target_told (os ++ part (plan_commands n (lines_of batch rs)) s))
        (part_within n (r.last + 1 - r.first) r.first r.source r.target batch s from (omega arith))
        ∙ sym (cond-true (is_in r.first r.last s) (Some r.target) (target_in rs s) (in_true r.first r.last s from upto))

target_front : (t : Transfer) (rs : List MovedRange) (s : ℕ) → AllByRecursion Ordered rs
    → target_in (in_front (range_of t) rs) s ≡ cond (eqb t.slot s) (Some t.target) (target_in rs s)
unfolding target_in Ordered
target_front t [] s h = ap (λ b. cond b (Some t.target) None) (in_one t.slot s)
target_front t (next ∷ rest) s h = by (goes_on (range_of t) next.first next.source next.target) refl
  where
    both : (a b : Bool) (x y : ℕ) (o : Option ℕ) → x ≡ y → cond (a || b) (Some x) o ≡ cond a (Some x) (cond b (Some y) o)
    both true b x y o e = refl
    both false true x y o e = ap (λ z. Some z) e
    both false false x y o e = refl

    by : (b : Bool) → goes_on (range_of t) next.first next.source next.target ≡ b
        → target_in (cond b (record { first = t.slot; last = next.last; source = t.source; target = t.target } ∷ rest) (range_of t ∷ (next ∷ rest))) s
        ≡ cond (eqb t.slot s) (Some t.target) (cond (is_in next.first next.last s) (Some next.target) (target_in rest s))
    by true e =
        let g = went_on (range_of t) next.first next.source next.target e in
        ap (λ b. cond b (Some t.target) (target_in rest s)) (in_joined t.slot next.first next.last s g.next h.0)
        ∙ both (eqb t.slot s) (is_in next.first next.last s) t.target next.target (target_in rest s) g.same_target
    by false e = ap (λ b. cond b (Some t.target)
        (cond (is_in next.first next.last s) (Some next.target) (target_in rest s))) (in_one t.slot s)

target_grouped : (n : ℕ) (owners : List ℕ) (ts : List Transfer) (s : ℕ) → AllByRecursion (IsTransfer n owners) ts
    → target_in (ranges_of ts) s ≡ target_of ts s
unfolding target_in Ordered
target_grouped n owners [] s h = refl
target_grouped n owners (t ∷ ts) s h =
    target_front t (ranges_of ts) s
    (all_map (IsOwnedRange n owners) Ordered (λ r o. o.order) (ranges_of ts) (ranges_owned n owners ts h.1))
    ∙ ap (λ o. cond (eqb t.slot s) (Some t.target) o) (target_grouped n owners ts s h.1)

-- the commands of each slot lead to its transfer's target
pub target_planned : (n batch : ℕ) (owners : List ℕ) (ts : List Transfer) (s : ℕ) → AllByRecursion (IsTransfer n owners) ts
    → target_told (part (plan_commands n (plan_of batch ts)) s) ≡ target_of ts s
unfolding Ordered
target_planned n batch owners ts s h =
    told_in n batch (ranges_of ts) s
    (all_map (IsOwnedRange n owners) Ordered (λ r o. o.order) (ranges_of ts) (ranges_owned n owners ts h))
    ∙ target_grouped n owners ts s h
