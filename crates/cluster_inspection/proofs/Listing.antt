-- Nodes that lines mention, and the names of their servers.
use Rattle.std.proofs.Common.{◌≡◌, ◌≢◌, ℕ, zero, suc, ◌+◌, ◌<◌, ◌≤◌, inl, inr, Bool, true, false, ◌&&◌, ◌||◌, ◌==◌, ◌∙◌}
use Rattle.std.proofs.Common.{List, [], ◌∷◌, ◌++◌, Option, None, Some, length, refl, ap, sym, subst, arith, nat_lt, eq-eqb, add-one}
use Rattle.std.specs.Prelude.{cond, is_some, option_map}
use Rattle.std.specs.List.{AllByRecursion}
use Rattle.std.proofs.lemmas.Bool.{cases_lt}
use Rattle.std.proofs.lemmas.Bool.Decides.{nat_tests}
use Rattle.std.proofs.lemmas.List.Folds.{list_all-append, list_any-append}
use Rattle.key_slots.proofs.DecimalNumbers.{both}
use Rattle.node_names.specs.Names.{Names, are_below, has_node}
use Rattle.plan_language.specs.declared.limits.Limits.{Limits}
use Rattle.plan_language.specs.declared.line.Line.{Line}
use Rattle.plan_language.specs.declared.line.Line.TheVariants as line
use Rattle.plan_language.specs.declared.plan_command.PlanCommand.TheVariants as planned
use Rattle.plan_language.specs.Limits.{limits_of}
use Rattle.plan_language.specs.Lines.{are_listed, nodes_of, IsListed, IsPlan, IsWithin}
use Rattle.plan_language.specs.PlanView.{PlanView}
use Rattle.server_commands.specs.declared.book.Server.{Server}
use Rattle.cluster_inspection.specs.Mentioned.{mentions, mentions_node}
use Rattle.cluster_inspection.specs.Naming.{name_at, names_below, names_of}

left : (a : Bool) (b : Bool) → a ≡ true → (a || b) ≡ true
left true b h = refl
left false b h = cc

right : (a : Bool) (b : Bool) → b ≡ true → (a || b) ≡ true
right true b h = refl
right false b h = h

and : (a b : Bool) → a ≡ true → b ≡ true → (a && b) ≡ true
and true b h g = g
and false b h g = cc

-- ---- the nodes that are listed are below the number

test_more : (a k : ℕ) → nat_lt a k ≡ true → nat_lt a (k + 1) ≡ true
test_more a k h = grind (arith, nat_tests)

below_more : (names : Names) (k : ℕ) → are_below names k ≡ true → are_below names (k + 1) ≡ true
below_more [] k h = refl
below_more (p ∷ names) k h =
    let parts = both (nat_lt p.0 k) (are_below names k) h in
    and (nat_lt p.0 (k + 1)) (are_below names (k + 1)) (test_more p.0 k parts.0) (below_more names k parts.1)

below_itself : (k : ℕ) → nat_lt k (k + 1) ≡ true
below_itself k = grind (arith, nat_tests)

one_below : (b : Bool) (k : ℕ) (name : List ℕ) → are_below (cond b ((k, name) ∷ []) []) (k + 1) ≡ true
one_below true k name = and (nat_lt k (k + 1)) true (below_itself k) refl
one_below false k name = refl

step_below : (names more : Names) (k : ℕ) → are_below names k ≡ true → are_below more (k + 1) ≡ true
    → are_below (names ++ more) (suc k) ≡ true
step_below names more k h g =
    subst (λ n. are_below (names ++ more) n ≡ true) (add-one k)
    (list_all-append (λ p. nat_lt p.0 (k + 1)) names more
    ∙ and (are_below names (k + 1)) (are_below more (k + 1)) (below_more names k h) g)

pub names_are_below : (b : List Server) (lines : List Line) (k : ℕ) → are_below (names_below b lines k) k ≡ true
unfolding names_below
names_are_below b lines zero = refl
names_are_below b lines (suc k) =
    step_below (names_below b lines k) (cond (mentions lines k) ((k, name_at b k) ∷ []) []) k (names_are_below b lines k)
    (one_below (mentions lines k) k (name_at b k))

-- one node more
next_of : (b : List Server) (lines : List Line) (k : ℕ)
    → names_below b lines (suc k) ≡ names_below b lines k ++ cond (mentions lines k) ((k, name_at b k) ∷ []) []
unfolding names_below
next_of b lines k = refl

pub one_more : (b : List Server) (lines : List Line) (names new : Names) (k node : ℕ) (is : Bool) → node ≡ k
    → is ≡ mentions lines k → names ≡ names_below b lines k
    → new ≡ names ++ cond is ((node, name_at b node) ∷ []) [] → new ≡ names_below b lines (k + 1)
one_more b lines names new k node is same marked before put =
    put ∙ (λ i. before i ++ cond (marked i) ((same i, name_at b (same i)) ∷ []) [])
    ∙ sym (ap (λ n. names_below b lines n) (add-one k) ∙ next_of b lines k)

pub none_yet : (b : List Server) (lines : List Line) (names : Names) → names ≡ [] → names ≡ names_below b lines 0
unfolding names_below
none_yet b lines names is = is

pub is_below : (b : List Server) (lines : List Line) (names : Names) (k node : ℕ) → names ≡ names_below b lines k
    → node ≡ k → are_below names node ≡ true
is_below b lines names k node is same =
    ap (λ n. are_below names n) same ∙ ap (λ ns. are_below ns k) is ∙ names_are_below b lines k

-- ---- each node that is mentioned is listed

there : (m k : ℕ) (name : List ℕ) (b : Bool) → b ≡ true → m ≡ k → has_node (cond b ((k, name) ∷ []) []) m ≡ true
there m k name true h same = left (k == m) false (eq-eqb k m (sym same))
there m k name false h same = cc

pub is_there : (b : List Server) (lines : List Line) (k m : ℕ) → m < k → mentions lines m ≡ true
    → has_node (names_below b lines k) m ≡ true
unfolding names_below
is_there b lines zero m lt h = absurd (omega arith)
is_there b lines (suc k) m lt h =
    list_any-append (λ p. p.0 == m) (names_below b lines k) (cond (mentions lines k) ((k, name_at b k) ∷ []) [])
    ∙ elim (cases_lt m k) [
      | inl less ↦
          left (has_node (names_below b lines k) m) (has_node (cond (mentions lines k) ((k, name_at b k) ∷ []) []) m)
          (is_there b lines k m less h)
      | inr ge ↦ (
          let same : m ≡ k = omega (arith, ge, lt) in
          right (has_node (names_below b lines k) m) (has_node (cond (mentions lines k) ((k, name_at b k) ∷ []) []) m)
          (there m k (name_at b k) (mentions lines k) (subst (λ n. mentions lines n ≡ true) same h) same)
          )
    ]

-- a line mentions its nodes
first_of : (l : Line) → mentions_node l (nodes_of l).0 ≡ true
first_of l = left ((nodes_of l).0 == (nodes_of l).0) ((nodes_of l).1 == (nodes_of l).0) (eq-eqb (nodes_of l).0 (nodes_of l).0 refl)

second_of : (l : Line) → mentions_node l (nodes_of l).1 ≡ true
second_of l = right ((nodes_of l).0 == (nodes_of l).1) ((nodes_of l).1 == (nodes_of l).1) (eq-eqb (nodes_of l).1 (nodes_of l).1 refl)

pub all_listed : (names : Names) (lines : List Line) → ((m : ℕ) → mentions lines m ≡ true → has_node names m ≡ true)
    → AllByRecursion (λ line. are_listed (Some names) line ≡ true) lines
all_listed names [] h = tt
all_listed names (l ∷ lines) h = (
  and (has_node names (nodes_of l).0) (has_node names (nodes_of l).1)
      (h (nodes_of l).0 (left (mentions_node l (nodes_of l).0) (mentions lines (nodes_of l).0) (first_of l)))
      (h (nodes_of l).1 (left (mentions_node l (nodes_of l).1) (mentions lines (nodes_of l).1) (second_of l))),
  all_listed names lines (λ m g. h m (right (mentions_node l m) (mentions lines m) g)),
)

-- and there is nothing to list where there are no names
pub none_listed : (lines : List Line) → AllByRecursion (λ line. are_listed None line ≡ true) lines
none_listed [] = tt
none_listed (l ∷ lines) = (refl, none_listed lines)

pub listed_none : (plan : PlanView) → plan.names ≡ None → IsListed plan
listed_none plan none = subst (λ names. AllByRecursion (λ line. are_listed names line ≡ true) plan.lines) (sym none) (none_listed plan.lines)

-- ---- nodes are below 255

apart : (m n : ℕ) → 255 ≤ m → n < 255 → (n == m) ≡ false
apart m n h g = grind (arith, nat_tests)

neither : (a b : Bool) → a ≡ false → b ≡ false → (a || b) ≡ false
neither true b h g = cc
neither false b h g = g

both_apart : (m a b : ℕ) → 255 ≤ m → a < 255 → b < 255 → (a == m || b == m) ≡ false
both_apart m a b h f g = neither (a == m) (b == m) (apart m a h f) (apart m b h g)

line_within : (l : Limits) (x : Line) (m : ℕ) → l.nodes ≤ 255 → 255 ≤ m → IsWithin l x → mentions_node x m ≡ false
line_within l (line.Command (planned.Importing s a b)) m h g w = both_apart m a b g (omega (arith, h, w.1)) (omega (arith, h, w.2))
line_within l (line.Command (planned.Migrating s a b)) m h g w = both_apart m a b g (omega (arith, h, w.1)) (omega (arith, h, w.2))
line_within l (line.Command (planned.Drain s a b k)) m h g w = both_apart m a b g (omega (arith, h, w.1)) (omega (arith, h, w.2))
line_within l (line.Command (planned.SetNode s a b)) m h g w = both_apart m a b g (omega (arith, h, w.1)) (omega (arith, h, w.2))
line_within l (line.Command (planned.Stable s a)) m h g w = both_apart m a a g (omega (arith, h, w.1)) (omega (arith, h, w.1))
line_within l (line.Move first last a b k) m h g w = both_apart m a b g (omega (arith, h, w.1)) (omega (arith, h, w.2))

pub lines_within : (l : Limits) (lines : List Line) (m : ℕ) → l.nodes ≤ 255 → 255 ≤ m → AllByRecursion (IsWithin l) lines
    → mentions lines m ≡ false
lines_within l [] m h g w = refl
lines_within l (x ∷ lines) m h g w =
    neither (mentions_node x m) (mentions lines m) (line_within l x m h g w.0) (lines_within l lines m h g w.1)

limits_wide : (names : Option Names) → (limits_of names).nodes ≤ 255
limits_wide None = omega arith
limits_wide (Some names) = omega arith

wrong : {A : Type 0} (b : Bool) → b ≡ true → b ≡ false → A
wrong true h g = cc
wrong false h g = cc

pub some_names : {A B : Type 0} (o : Option A) (f : A → B) (p : Option B) → option_map f o ≡ p → is_some o ≡ true → p ≢ None
some_names None f p h g none = cc
some_names (Some a) f p h g none = cc

-- a plan with the names of all servers that its lines mention lists each node that it mentions
pub listed_by : (b : List Server) (plan new : PlanView) (names : Names) (lines : List Line) → plan.names ≢ None → lines ≡ plan.lines
    → new ≡ record plan { names = Some names } → names ≡ names_of b lines
    → ((m : ℕ) → length b ≤ m → m < 255 → mentions lines m ≡ false) → IsPlan plan → IsListed new
listed_by b plan new names lines some all is same none fine =
    subst IsListed (sym is)
    (subst (λ xs. AllByRecursion (λ line. are_listed (Some names) line ≡ true) xs) all
    (all_listed names lines (λ m h. subst (λ ns. has_node ns m ≡ true) (sym same) (each m h))))
  where
    each : (m : ℕ) → mentions lines m ≡ true → has_node (names_of b lines) m ≡ true
    each m h = elim (cases_lt m (length b)) [
      | inl less ↦ is_there b lines (length b) m less h
      | inr ge ↦ elim (cases_lt m 255) [
        | inl small ↦ wrong (mentions lines m) h (none m ge small)
        | inr large ↦
            wrong (mentions lines m) h
            (subst (λ xs. mentions xs m ≡ false) (sym all)
            (lines_within (limits_of plan.names) plan.lines m (limits_wide plan.names) large fine.2.2))
      ]
    ]
