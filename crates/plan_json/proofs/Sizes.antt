-- How long the text of a value of JSON gets, where a member or an item is put.
use Rattle.std.proofs.Common.{◌≡◌, ℕ, ◌+◌, ◌*◌, ◌≤◌, ◌<◌, ◌^◌, Bool, true, false, cond, List, [], ◌∷◌, ◌++◌, length}
use Rattle.std.proofs.Common.{Result, Ok, Err, OnOk, Ordering, Less, Equal, Greater, nat_cmp, ◌==◌}
use Rattle.std.proofs.Common.{Option, None, Some, IfSome}
use Rattle.std.proofs.Common.{length-append, map, ap, sym, subst, ◌∙◌, arith}
use Rattle.std.proofs.Math.Nat.{le-max_left, le-max_right}
use Rattle.std.proofs.lemmas.Fmt.{length-decimal-le}
use Rattle.std.proofs.lemmas.List.{map-append}
use Rattle.std.specs.Cmp.Lexicographic.{slice_cmp}
use Rattle.std.specs.Ordering.{match_ordering}
use Rattle.json.specs.Print.{escape, escape_byte, quoted}
use Rattle.plan_outlines.specs.declared.nodes.NodeServer.{NodeServer}
use Rattle.serde_json.specs.Data.{Data, Members, boolean, member, no_members, put, string}
use Rattle.serde_json.specs.View.{items_of}
use Rattle.serde_json.specs.Written.{comma_if, compact_text, items_text, members_text}
use Rattle.plan_json.specs.Sizes.{items_size, longest, names_size, size}
use Rattle.plan_json.specs.Values.{count, node_data, node_text, server_of}

-- ---- strings

short : (p q : Bool) (b l x y : ℕ)
    → length (cond p (92 ∷ l ∷ []) (cond q (92 ∷ 117 ∷ 48 ∷ 48 ∷ x ∷ y ∷ []) (b ∷ []))) ≤ 6
short true q b l x y = omega arith
short false true b l x y = omega arith
short false false b l x y = omega arith

byte_few : (b : ℕ) → length (escape_byte b) ≤ 6
unfolding escape_byte
byte_few b = short _ _ b _ _ _

escape_few : (s : List ℕ) → length (escape s) ≤ 6 * length s
escape_few [] = omega arith
escape_few (b ∷ s) =
    let whole = length-append (escape_byte b) (escape s) in
    omega (arith, whole, byte_few b, escape_few s)

closed : (e : List ℕ) → length (34 ∷ (e ++ 34 ∷ [])) ≡ 2 + length e
closed e = let whole = length-append e (34 ∷ []) in omega (arith, whole)

pub quoted_few : (s : List ℕ) → length (quoted s) ≤ 2 + 6 * length s
quoted_few s = omega (arith, closed (escape s), escape_few s)

-- ---- one member more

comma_few : (later : Bool) → length (comma_if later) ≤ 1
comma_few true = omega arith
comma_few false = omega arith

plain : (c q t m : List ℕ) → length (c ++ (q ++ 58 ∷ (t ++ m))) ≡ length c + (length q + (1 + (length t + length m)))
plain c q t m =
    let a = length-append c (q ++ 58 ∷ (t ++ m)) in
    let b = length-append q (58 ∷ (t ++ m)) in
    let e = length-append t m in
    omega (arith, a, b, e)

one_more : (later : Bool) (k : List ℕ) (d : Data) (ms : Members) → length (members_text later (member k d ms))
    ≡ length (comma_if later) + (length (quoted k) + (1 + (length (compact_text d) + length (members_text true ms))))
one_more later k d ms = plain (comma_if later) (quoted k) (compact_text d) (members_text true ms)

ordered : (o : Ordering) (later : Bool) (a b c : Members) (n : ℕ) → length (members_text later a) ≤ n
    → length (members_text later b) ≤ n → length (members_text later c) ≤ n
    → length (members_text later (match_ordering o a b c)) ≤ n
ordered Less later a b c n f g h = f
ordered Equal later a b c n f g h = g
ordered Greater later a b c n f g h = h

pub put_few : (later : Bool) (k : List ℕ) (d : Data) (ms : Members) → length (members_text later (put k d ms))
    ≤ length (members_text later ms) + (2 + (length (quoted k) + length (compact_text d)))
put_few later k d no_members =
    omega (arith, one_more later k d no_members, comma_few later)
put_few later k d (member l e ms) =
    ordered (slice_cmp nat_cmp k l) later (member k d (member l e ms)) (member l d ms) (member l e (put k d ms)) _
    (omega (arith, one_more later k d (member l e ms), one_more true l e ms, one_more later l e ms, comma_few later))
    (omega (arith, one_more later l d ms, one_more later l e ms))
    (omega (arith, one_more later l e (put k d ms), one_more later l e ms, put_few true k d ms))

-- where the name and the value are so long
pub grown : {T E : Type 0} (r : Result T E) (k : List ℕ) (d : Data) (old new : Members) (n m : ℕ)
    → length (compact_text d) ≤ n → 4 + 6 * length k + n ≤ m → OnOk r (new ≡ put k d old)
    → OnOk r (size new ≤ size old + m)
grown (Err e) k d old new n m few fits is = is
grown (Ok x) k d old new n m few fits is =
    let grows : size (put k d old) ≤ size old + m = omega (arith, put_few false k d old, quoted_few k, few, fits) in
    subst (λ ms. size ms ≤ size old + m) (sym is) grows

-- ---- one item more

item_plain : (c t m : List ℕ) → length (c ++ (t ++ m)) ≡ length c + (length t + length m)
item_plain c t m =
    let a = length-append c (t ++ m) in
    let b = length-append t m in
    omega (arith, a, b)

pub push_few : (later : Bool) (ds : List Data) (d : Data) → length (items_text later (items_of (ds ++ d ∷ [])))
    ≤ length (items_text later (items_of ds)) + (1 + length (compact_text d))
push_few later [] d =
    let whole = item_plain (comma_if later) (compact_text d) (93 ∷ []) in
    omega (arith, whole, comma_few later)
push_few later (x ∷ ds) d =
    let more = item_plain (comma_if later) (compact_text x) (items_text true (items_of (ds ++ d ∷ []))) in
    let less = item_plain (comma_if later) (compact_text x) (items_text true (items_of ds)) in
    omega (arith, more, less, push_few true ds d)

pub pushed : {T E V : Type 0} (view : V → Data) (r : Result T E) (old new : List V) (v : V) (n m : ℕ)
    → length (compact_text (view v)) ≤ n → 1 + n ≤ m → OnOk r (new ≡ old ++ v ∷ [])
    → OnOk r (items_size (map view new) ≤ items_size (map view old) + m)
pushed view (Err e) old new v n m few fits is = is
pushed view (Ok x) old new v n m few fits is =
    let whole = ap (map view) is ∙ map-append view old (v ∷ []) in
    let grows : items_size (map view old ++ view v ∷ []) ≤ items_size (map view old) + m =
    omega (arith, push_few false (map view old) (view v), few, fits) in
    subst (λ ds. items_size ds ≤ items_size (map view old) + m) (sym whole) grows

-- ---- values

pub count_few : (n : ℕ) → n < 2 ^ 64 → length (compact_text (count n)) ≤ 20
count_few n h = length-decimal-le 20 n (omega arith) (omega arith) h

pub flag_few : (b : Bool) → length (compact_text (boolean b)) ≤ 5
flag_few true = omega arith
flag_few false = omega arith

-- the name of a node
pub name_few : (n : ℕ) → n < 2 ^ 8 → length (node_text n) ≤ 4
name_few n h = let digits = length-decimal-le 3 n (omega arith) (omega arith) (omega arith) in omega (arith, digits)

pub string_few : (t : List ℕ) → length (compact_text (string t)) ≤ 2 + 6 * length t
string_few t = quoted_few t

-- ---- servers

choose : (b : Bool) (s : NodeServer) (o : Option NodeServer) (n : ℕ) → names_size s ≤ n
    → IfSome o (λ t. names_size t ≤ n) → IfSome (cond b (Some s) o) (λ t. names_size t ≤ n)
choose true s o n f g = f
choose false s o n f g = g

wider : (o : Option NodeServer) (m n : ℕ) → m ≤ n → IfSome o (λ t. names_size t ≤ m) → IfSome o (λ t. names_size t ≤ n)
wider None m n h g = tt
wider (Some t) m n h g = omega arith

pub found_few : (ss : List NodeServer) (n : ℕ) → IfSome (server_of ss n) (λ s. names_size s ≤ longest ss)
found_few [] n = tt
found_few (s ∷ ss) n =
    choose (s.node == n) s (server_of ss n) (longest (s ∷ ss)) (le-max_left (names_size s) (longest ss))
    (wider (server_of ss n) (longest ss) (longest (s ∷ ss)) (le-max_right (names_size s) (longest ss)) (found_few ss n))

pub at_most : {T E : Type 0} (r : Result T E) (x y z : ℕ) → y ≤ z → OnOk r (x ≤ y) → OnOk r (x ≤ z)
at_most (Ok v) x y z le is = omega arith
at_most (Err e) x y z le is = is

-- what is put for the server that was found
pub of_found : (ss : List NodeServer) (n : ℕ) (s : NodeServer) → Some s ≡ server_of ss n → names_size s ≤ longest ss
of_found ss n s is = subst (λ o. IfSome o (λ t. names_size t ≤ longest ss)) (sym is) (found_few ss n)
