-- The lines of a plan by whether they tell what the slot's owner tells already.
use Rattle.std.proofs.Common.{◌≡◌, ℕ, ◌+◌, ◌<◌, ◌≤◌, Bool, true, false, cond, not, List, [], ◌∷◌, ◌++◌, length, drop, take, get_or}
use Rattle.std.proofs.Common.{append-nil, refl, subst, sym, ap, ◌∙◌, arith}
use Rattle.std.proofs.lemmas.List.{take-append-drop, take_more}
use Rattle.std.proofs.lemmas.List.Elements.{filter-append}
use Rattle.cluster_views.proofs.Firsts.{drop_item}
use Rattle.cluster_admin.specs.Surveys.{Survey}
use Rattle.plan_language.specs.Limits.{limits_of}
use Rattle.plan_language.specs.Lines.{count, line_count}
use Rattle.plan_language.specs.PlanView.{PlanView}
use Rattle.plan_language.specs.declared.limits.Limits.{Limits}
use Rattle.plan_language.specs.declared.line.Line.{Line}
use Rattle.server_phases.specs.ToldFirst.{is_of_kind, is_told, of_kind}
use Rattle.server_phases.proofs.Moved.{count-append}

-- each line is of one of the two kinds
pub count_kinds : (v : Survey) (l : Limits) (xs : List Line)
    → count l (of_kind v true xs) + count l (of_kind v false xs) ≡ count l xs
count_kinds v l [] = omega arith
count_kinds v l (x ∷ xs) = by (is_told v x) (count_kinds v l xs)
  where
    by : (b : Bool) → count l (of_kind v true xs) + count l (of_kind v false xs) ≡ count l xs
        → count l (cond b (x ∷ of_kind v true xs) (of_kind v true xs))
        + count l (cond (not b) (x ∷ of_kind v false xs) (of_kind v false xs)) ≡ line_count l x + count l xs
    by true e = omega (arith, e)
    by false e = omega (arith, e)

-- the lines before one of them, that one, and those after it
parted : (v : Survey) (told : Bool) (xs : List Line) (i : ℕ) (x : Line) → i < length xs → x ≡ get_or xs i x
    → of_kind v told xs ≡ of_kind v told (take i xs) ++ of_kind v told (x ∷ drop (i + 1) xs)
parted v told xs i x lt is =
    ap (of_kind v told) (sym (take-append-drop i xs) ∙ ap (λ t. take i xs ++ t) (drop_item xs i x lt is))
    ∙ filter-append (is_of_kind v told) (take i xs) (x ∷ drop (i + 1) xs)

next_taken : (v : Survey) (told : Bool) (xs : List Line) (i : ℕ) (x : Line) → i < length xs → x ≡ get_or xs i x
    → of_kind v told (take (i + 1) xs) ≡ of_kind v told (take i xs) ++ of_kind v told (x ∷ [])
next_taken v told xs i x lt is =
    ap (of_kind v told) (take_more xs i x lt ∙ ap (λ y. take i xs ++ y ∷ []) (sym is))
    ∙ filter-append (is_of_kind v told) (take i xs) (x ∷ [])

pub kind_more : (v : Survey) (told : Bool) (old xs : List Line) (i : ℕ) (x : Line) → i < length xs → x ≡ get_or xs i x
    → is_of_kind v told x ≡ true
    → old ++ of_kind v told (take (i + 1) xs) ≡ old ++ (of_kind v told (take i xs) ++ x ∷ [])
kind_more v told old xs i x lt is of =
    ap (λ ys. old ++ ys) (next_taken v told xs i x lt is ∙ ap (λ b. of_kind v told (take i xs) ++ cond b (x ∷ []) []) of)

pub kind_same : (v : Survey) (told : Bool) (xs : List Line) (i : ℕ) (x : Line) → i < length xs → x ≡ get_or xs i x
    → is_of_kind v told x ≡ false → of_kind v told (take (i + 1) xs) ≡ of_kind v told (take i xs)
kind_same v told xs i x lt is other =
    next_taken v told xs i x lt is ∙ ap (λ b. of_kind v told (take i xs) ++ cond b (x ∷ []) []) other
    ∙ append-nil (of_kind v told (take i xs))

-- there is room for one of them where there is for all
pub kind_room : (v : Survey) (told : Bool) (l : Limits) (old xs : List Line) (i : ℕ) (x : Line) → i < length xs
    → x ≡ get_or xs i x → is_of_kind v told x ≡ true → count l old + count l (of_kind v told xs) ≤ l.commands
    → count l (old ++ of_kind v told (take i xs)) + line_count l x ≤ l.commands
kind_room v told l old xs i x lt is of room =
    let before = of_kind v told (take i xs) in
    let after = of_kind v told (drop (i + 1) xs) in
    let parts : count l (of_kind v told xs) ≡ count l before + (line_count l x + count l after) =
    ap (count l) (parted v told xs i x lt is) ∙ count-append l before (of_kind v told (x ∷ drop (i + 1) xs))
    ∙ ap (λ b. count l before + count l (cond b (x ∷ after) after)) of in
    omega (arith, parts, count-append l old before, room)

-- ---- in an empty plan there is room for the one kind, and then for the other

module _ (v : Survey) (p q : PlanView) (xs : List Line) (bare : q ≡ record p { lines = [] })
    (room : count (limits_of p.names) xs ≤ (limits_of p.names).commands) where
  pub first_room : count (limits_of q.names) q.lines + count (limits_of q.names) (of_kind v true xs)
      ≤ (limits_of q.names).commands
  first_room =
      let all = count_kinds v (limits_of p.names) xs in
      let fits : count (limits_of p.names) [] + count (limits_of p.names) (of_kind v true xs)
      ≤ (limits_of p.names).commands = omega (arith, all, room) in
      subst (λ (x : PlanView). count (limits_of x.names) x.lines + count (limits_of x.names) (of_kind v true xs)
      ≤ (limits_of x.names).commands) (sym bare) fits

  pub put_first : (r : PlanView) → r ≡ record q { lines = q.lines ++ of_kind v true xs }
      → r ≡ record p { lines = of_kind v true xs }
  put_first r put = put ∙ ap (λ (x : PlanView). record x { lines = x.lines ++ of_kind v true xs }) bare

  pub rest_room : (r : PlanView) (ys : List Line) → r ≡ record q { lines = q.lines ++ of_kind v true xs } → xs ≡ ys
      → count (limits_of r.names) r.lines + count (limits_of r.names) (of_kind v false ys)
      ≤ (limits_of r.names).commands
  rest_room r ys put same =
      let all = count_kinds v (limits_of p.names) xs in
      let fits : count (limits_of p.names) (of_kind v true xs) + count (limits_of p.names) (of_kind v false xs)
      ≤ (limits_of p.names).commands = omega (arith, all, room) in
      subst (λ (zs : List Line). count (limits_of r.names) r.lines + count (limits_of r.names) (of_kind v false zs)
      ≤ (limits_of r.names).commands) same
      (subst (λ (x : PlanView). count (limits_of x.names) x.lines + count (limits_of x.names) (of_kind v false xs)
      ≤ (limits_of x.names).commands) (sym (put_first r put)) fits)
