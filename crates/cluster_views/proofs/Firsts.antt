-- The first element of a list that has something, looked for from the front.
use Rattle.std.proofs.Common.{◌≡◌, ℕ, zero, suc, ◌+◌, ◌-◌, ◌<◌, ◌≤◌, Bool, true, false, List, [], ◌∷◌, ◌++◌, length}
use Rattle.std.proofs.Common.{drop, take, get_or}
use Rattle.std.proofs.Common.{Option, None, Some, is_some, refl, sym, ap, ◌∙◌, arith, add-one}
use Rattle.std.proofs.Math.Seq.{drop-cons}
use Rattle.std.proofs.lemmas.List.{take_more}
use Rattle.std.specs.Option.{option_or}
use Rattle.std.specs.List.{find, list_any, range_with_len}
use Rattle.cluster_views.specs.Numbers.{first_given, numbers_to}

-- what stands from this place on begins with its element
pub drop_item : {A : Type 0} (xs : List A) (i : ℕ) (x : A) → i < length xs → x ≡ get_or xs i x → drop i xs ≡ x ∷ drop (i + 1) xs
drop_item xs i x lt is = drop-cons xs i x lt ∙ ap (λ y. y ∷ drop (suc i) xs) (sym is) ∙ ap (λ k. x ∷ drop k xs) (sym (add-one i))

pub drop_end : {A : Type 0} (xs : List A) (i : ℕ) → length xs ≤ i → drop i xs ≡ []
drop_end [] zero h = refl
drop_end [] (suc i) h = refl
drop_end (x ∷ xs) zero h = absurd (omega arith)
drop_end (x ∷ xs) (suc i) h = drop_end xs i (omega arith)

-- ---- find

pub find_past : {A : Type 0} (p : A → Bool) (xs : List A) (i : ℕ) (x : A) → i < length xs → x ≡ get_or xs i x
    → p x ≡ false → find p (drop i xs) ≡ find p (drop (i + 1) xs)
find_past p xs i x lt is none = rw (drop_item xs i x lt is, none) refl

pub find_here : {A : Type 0} (p : A → Bool) (xs : List A) (i : ℕ) (x : A) → i < length xs → x ≡ get_or xs i x
    → p x ≡ true → find p (drop i xs) ≡ Some x
find_here p xs i x lt is some = rw (drop_item xs i x lt is, some) refl

pub find_end : {A : Type 0} (p : A → Bool) (xs : List A) (i : ℕ) → length xs ≤ i → find p (drop i xs) ≡ None
find_end p xs i h = rw (drop_end xs i h) refl

-- ---- first_given

pub given_past : {A B : Type 0} (f : A → Option B) (xs : List A) (i : ℕ) (x : A) → i < length xs → x ≡ get_or xs i x
    → f x ≡ None → first_given f (drop i xs) ≡ first_given f (drop (i + 1) xs)
given_past f xs i x lt is none = rw (drop_item xs i x lt is, none) refl

pub given_here : {A B : Type 0} (f : A → Option B) (xs : List A) (i : ℕ) (x : A) (y : B) → i < length xs
    → x ≡ get_or xs i x → f x ≡ Some y → first_given f (drop i xs) ≡ Some y
given_here f xs i x y lt is some = rw (drop_item xs i x lt is, some) refl

pub given_end : {A B : Type 0} (f : A → Option B) (xs : List A) (i : ℕ) → length xs ≤ i → first_given f (drop i xs) ≡ None
given_end f xs i h = rw (drop_end xs i h) refl

-- ---- numbers

-- the numbers from i to below n
abbrev pub numbers_from : ℕ → ℕ → List ℕ
numbers_from n i = range_with_len i (n - i)

pub from_first : (n : ℕ) → numbers_to n ≡ numbers_from n 0
unfolding numbers_to
from_first n =
    let e : n ≡ n - 0 = omega arith in
    ap (λ k. range_with_len 0 k) e

pub from_next : (n i : ℕ) → i < n → numbers_from n i ≡ i ∷ numbers_from n (i + 1)
from_next n i lt =
    let e : n - i ≡ suc (n - (i + 1)) = omega arith in
    ap (λ k. range_with_len i k) e

pub from_last : (n i : ℕ) → n ≤ i → numbers_from n i ≡ []
from_last n i le =
    let e : n - i ≡ 0 = omega arith in
    ap (λ k. range_with_len i k) e

-- the first number is looked for from 0 on
pub number_first : {B : Type 0} (f : ℕ → Option B) (n : ℕ) → first_given f (numbers_to n) ≡ first_given f (numbers_from n 0)
number_first f n = ap (first_given f) (from_first n)

pub none_is : {B : Type 0} (o : Option B) → is_some o ≡ false → o ≡ None
none_is None e = refl
none_is (Some y) e = absurd cc

pub or_none : {B : Type 0} (o : Option B) → option_or o None ≡ o
or_none None = refl
or_none (Some y) = refl

pub or_or : {B : Type 0} (o p r : Option B) → option_or (option_or o p) r ≡ option_or o (option_or p r)
or_or None p r = refl
or_or (Some y) p r = refl

pub given-append : {A B : Type 0} (f : A → Option B) (xs ys : List A)
    → first_given f (xs ++ ys) ≡ option_or (first_given f xs) (first_given f ys)
given-append f [] ys = refl
given-append f (x ∷ xs) ys =
    ap (option_or (f x)) (given-append f xs ys) ∙ sym (or_or (f x) (first_given f xs) (first_given f ys))

-- what the first elements give, and then the next one
pub given_more : {A B : Type 0} (f : A → Option B) (xs : List A) (i : ℕ) (x : A) → i < length xs → x ≡ get_or xs i x
    → first_given f (take (i + 1) xs) ≡ option_or (first_given f (take i xs)) (f x)
given_more f xs i x lt is =
    ap (first_given f) (take_more xs i x lt)
    ∙ given-append f (take i xs) (get_or xs i x ∷ [])
    ∙ ap (option_or (first_given f (take i xs))) (or_none (f (get_or xs i x)) ∙ ap f (sym is))

some_or : {B : Type 0} (o r : Option B) → is_some o ≡ true → option_or o r ≡ o
some_or None r e = absurd cc
some_or (Some y) r e = refl

-- i gives nothing, so it is looked for after it
pub number_past : {B : Type 0} (f : ℕ → Option B) (n i m : ℕ) (o : Option B) → i < n → m ≡ i → o ≡ f m → false ≡ is_some o
    → first_given f (numbers_from n i) ≡ first_given f (numbers_from n (i + 1))
number_past f n i m o lt same is none =
    let e : f i ≡ None = ap f (sym same) ∙ sym is ∙ none_is o (sym none) in
    rw (from_next n i lt, e) refl

-- i gives something
pub number_here : {B : Type 0} (f : ℕ → Option B) (n i m : ℕ) (o : Option B) → i < n → m ≡ i → o ≡ f m → true ≡ is_some o
    → o ≡ first_given f (numbers_from n i)
number_here f n i m o lt same is some =
    let e : f i ≡ o = ap f (sym same) ∙ sym is in
    rw (from_next n i lt, e) (sym (some_or o (first_given f (numbers_from n (i + 1))) (sym some)))

-- none of them gave anything
pub number_end : {B : Type 0} (f : ℕ → Option B) (n i : ℕ) → n ≤ i → None ≡ first_given f (numbers_from n i)
number_end f n i le = rw (from_last n i le) refl

-- ---- whether a number passes

pub any_first : (p : ℕ → Bool) (n : ℕ) → list_any p (numbers_to n) ≡ list_any p (numbers_from n 0)
any_first p n = ap (list_any p) (from_first n)

pub any_past : (p : ℕ → Bool) (n i m : ℕ) (b : Bool) → i < n → m ≡ i → b ≡ p m → b ≡ false
    → list_any p (numbers_from n i) ≡ list_any p (numbers_from n (i + 1))
any_past p n i m b lt same is none =
    let e : p i ≡ false = ap p (sym same) ∙ sym is ∙ none in
    rw (from_next n i lt, e) refl

pub any_here : (p : ℕ → Bool) (n i m : ℕ) (b : Bool) → i < n → m ≡ i → b ≡ p m → b ≡ true
    → true ≡ list_any p (numbers_from n i)
any_here p n i m b lt same is some =
    let e : p i ≡ true = ap p (sym same) ∙ sym is ∙ some in
    rw (from_next n i lt, e) refl

-- ---- the first number that passes

pub seek_first : (p : ℕ → Bool) (n : ℕ) → find p (numbers_to n) ≡ find p (numbers_from n 0)
seek_first p n = ap (find p) (from_first n)

pub seek_past : (p : ℕ → Bool) (n i m : ℕ) (b : Bool) → i < n → m ≡ i → b ≡ p m → b ≡ false
    → find p (numbers_from n i) ≡ find p (numbers_from n (i + 1))
seek_past p n i m b lt same is none =
    let e : p i ≡ false = ap p (sym same) ∙ sym is ∙ none in
    rw (from_next n i lt, e) refl

pub seek_here : (p : ℕ → Bool) (n i m : ℕ) (b : Bool) → i < n → m ≡ i → b ≡ p m → b ≡ true
    → Some m ≡ find p (numbers_from n i)
seek_here p n i m b lt same is some =
    let e : p i ≡ true = ap p (sym same) ∙ sym is ∙ some in
    rw (from_next n i lt, e) (ap (λ k. Some k) same)
