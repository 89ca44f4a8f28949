-- Nodes with one more behind them.
use Rattle.std.proofs.Common.{◌≡◌, ℕ, ◌+◌, ◌<◌, ◌≤◌, ◌&&◌, ◌||◌, ◌==◌, [], ◌∷◌, ◌++◌, ◌∙◌, zero, suc, Bool, true}
use Rattle.std.proofs.Common.{false, get_or, eq-eqb, List, length, take, slice_set, refl, ap, sym, subst, arith}
use Rattle.std.proofs.Common.{append_assoc, append-nil, length-append, nat_lt, nat_le}
use Rattle.std.specs.List.{AllByRecursion, list_all}
use Rattle.std.proofs.lemmas.Bool.Decides.{nat_tests}
use Rattle.std.proofs.lemmas.List.{length-set, length-take-le, take_more_set}
use Rattle.std.proofs.lemmas.List.Folds.{list_all-append}
use Rattle.std.specs.Str.{IsUtf8}
use Rattle.std.proofs.lemmas.List.Elements.{All-from_recursion}
use Rattle.std.proofs.lemmas.Str.{IsUtf8-from_ascii}
use Rattle.std.proofs.lemmas.Str.Ascii.{IsAscii-from_all}
use Rattle.key_slots.proofs.DecimalNumbers.{both}
use Rattle.node_names.specs.Names.{AreNames, AreNext, IsNext, Names, are_below, has_node, is_name, is_name_digit}

one_behind : (before names : Names) (p : ℕ × List ℕ) → AreNext before names → IsNext (before ++ names) p
    → AreNext before (names ++ p ∷ [])
one_behind before [] p a h = (subst (λ ns. IsNext ns p) (append-nil before) h, tt)
one_behind before (q ∷ names) p a h = (
  a.0,
  one_behind (before ++ q ∷ []) names p a.1
      (subst (λ ns. IsNext ns p) (sym (append_assoc before (q ∷ []) names)) h),
)

pub names_pushed : (names : Names) (p : ℕ × List ℕ) → AreNames names → IsNext names p → AreNames (names ++ p ∷ [])
names_pushed names p a h = one_behind [] names p a h

pub one_longer : (old new : Names) (p : ℕ × List ℕ) → new ≡ old ++ p ∷ [] → length new ≡ length old + 1
one_longer old new p is = ap length is ∙ length-append old (p ∷ [])

-- a node is listed where one of the list's places has it
pub has_node_at : (names : Names) (i node : ℕ) (d : ℕ × List ℕ) → i < length names → (get_or names i d).0 ≡ node
    → has_node names node ≡ true
has_node_at [] i node d lt is = absurd (omega arith)
has_node_at (p ∷ names) zero node d lt is = ap (λ b. b || has_node names node) (eq-eqb p.0 node is)
has_node_at (p ∷ names) (suc i) node d lt is =
    ap (λ b. (p.0 == node) || b) (has_node_at names i node d (omega arith) is) ∙ either (p.0 == node)
  where
    either : (b : Bool) → (b || true) ≡ true
    either true = refl
    either false = refl

-- ---- there are no more names than numbers below 255

-- nodes that are all below a number are no more than that
abbrev AreFew : Names → Type 0
AreFew names = (k : ℕ) → are_below names k ≡ true → length names ≤ k

less : (a b : ℕ) → (nat_lt a b && true) ≡ true → a < b
less a b h = grind (arith, nat_tests, both (nat_lt a b) true h)

few_with : (names : Names) (p : ℕ × List ℕ) → AreFew names → IsNext names p → AreFew (names ++ p ∷ [])
few_with names p few h k below =
    let parts = both (are_below names k) (are_below (p ∷ []) k)
    (sym (list_all-append (λ q. nat_lt q.0 k) names (p ∷ [])) ∙ below) in
    let last : p.0 < k = less p.0 k parts.1 in
    let so_far : length names ≤ p.0 = few p.0 h.1 in
    let one : length (names ++ p ∷ []) ≡ length names + 1 = length-append names (p ∷ []) in
    omega arith

are_few : (before names : Names) → AreNext before names → AreFew before → AreFew (before ++ names)
are_few before [] a few = subst AreFew (sym (append-nil before)) few
are_few before (p ∷ names) a few =
    subst AreFew (append_assoc before (p ∷ []) names)
    (are_few (before ++ p ∷ []) names a.1 (few_with before p few a.0))

few_before : (names : Names) (p : ℕ × List ℕ) → AreNames names → IsNext names p → length names < 255
few_before names p a h =
    let few : length names ≤ p.0 = are_few [] names a (λ k e. omega arith) p.0 h.1 in
    let below : p.0 < 255 = h.0 in
    omega arith

-- ---- a table of 255 places

pub room : (names : Names) (len : ℕ) (p : ℕ × List ℕ) → length names ≡ 255 → len ≤ 255 → AreNames (take len names)
    → IsNext (take len names) p → len < 255
room names len p width most a h =
    let few : length (take len names) < 255 = few_before (take len names) p a h in
    let is : length (take len names) ≡ len = length-take-le len names (omega arith) in
    omega arith

pub put_at : (names : Names) (len : ℕ) (p : ℕ × List ℕ) → length names ≡ 255 → len ≤ 255 → AreNames (take len names)
    → IsNext (take len names) p → take (len + 1) (slice_set names len p) ≡ take len names ++ p ∷ []
put_at names len p width most a h =
    let lt : len < 255 = room names len p width most a h in
    take_more_set names len p (omega arith)

pub few_put : (names : Names) (len : ℕ) (p : ℕ × List ℕ) → length names ≡ 255 → len ≤ 255 → AreNames (take len names)
    → IsNext (take len names) p → length (take (len + 1) (slice_set names len p)) ≤ 255
few_put names len p width most a h =
    let lt : len < 255 = room names len p width most a h in
    let long : length (slice_set names len p) ≡ length names = length-set names len p in
    let is : length (take (len + 1) (slice_set names len p)) ≡ len + 1 =
    length-take-le (len + 1) (slice_set names len p) (omega arith) in
    omega arith

-- ---- names

small_digit : (b : ℕ) → is_name_digit b ≡ true → b < 128
small_digit b h = by (nat_le 48 b) (nat_le b 57) (nat_le 97 b) (nat_le b 102) refl refl h
  where
    by : (w x y z : Bool) → nat_le b 57 ≡ x → nat_le b 102 ≡ z → (w && x || y && z) ≡ true → b < 128
    by true true y z p q g = grind (arith, nat_tests)
    by true false true true p q g = grind (arith, nat_tests)
    by true false true false p q g = cc
    by true false false z p q g = cc
    by false x true true p q g = grind (arith, nat_tests)
    by false x true false p q g = cc
    by false x false z p q g = cc

small_digits : (t : List ℕ) → list_all is_name_digit t ≡ true → AllByRecursion (λ b. b < 128) t
small_digits [] h = tt
small_digits (b ∷ t) h =
    let s = both (is_name_digit b) (list_all is_name_digit t) h in
    (small_digit b s.0, small_digits t s.1)

pub name_is_text : (t : List ℕ) → is_name t ≡ true → IsUtf8 t
name_is_text t h =
    let digits = both (length t == 40) (list_all is_name_digit t) h in
    IsUtf8-from_ascii t (IsAscii-from_all t (All-from_recursion (λ b. b < 128) t (small_digits t digits.1)))

pub with_len : (t : List ℕ) (b : Bool) → length t ≡ 40 → b ≡ list_all is_name_digit t → b ≡ is_name t
with_len t b h e = e ∙ ap (λ x. x && list_all is_name_digit t) (long (length t) h)
  where
    long : (n : ℕ) → n ≡ 40 → true ≡ (n == 40)
    long n h = grind (arith, nat_tests)
