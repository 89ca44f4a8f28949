-- Where some commands stand among others that were put together from parts.
use Rattle.std.proofs.Common.{◌≡◌, ◌≢◌, ◌⊎◌, ℕ, List, [], ◌∷◌, ◌++◌, append_assoc, sym, refl, ap, ◌∙◌, subst, inl, inr}
use Rattle.std.specs.List.{AllByRecursion}
use Rattle.plan_language.specs.declared.plan_command.PlanCommand.{PlanCommand}
use Rattle.plan_language.specs.declared.plan_command.PlanCommand.TheVariants as planned
use Rattle.plan_semantics.specs.Plans.{tell}

-- ---- the parts of a list

pub head_same : (a b : PlanCommand) (xs ys : List PlanCommand) → a ∷ xs ≡ b ∷ ys → a ≡ b
head_same a b xs ys e = cc

pub tail_same : (a b : PlanCommand) (xs ys : List PlanCommand) → a ∷ xs ≡ b ∷ ys → xs ≡ ys
tail_same a b xs ys e = cc

pub none_there : (f r : List PlanCommand) (c : PlanCommand) → [] ≡ f ++ c ∷ r → ⊥
none_there [] r c e = cc
none_there (x ∷ f) r c e = cc

pub some_there : (f r : List PlanCommand) (c : PlanCommand) → f ++ c ∷ r ≢ []
some_there f r c e = none_there f r c (sym e)

pub same_target : (s u m t o : ℕ) → planned.SetNode s u m ≡ planned.SetNode s t o → u ≡ t
same_target s u m t o e = cc

pub same_place : (s u m t o : ℕ) → planned.SetNode s u m ≡ planned.SetNode s t o → m ≡ o
same_place s u m t o e = cc

-- nothing more is told first
abbrev pub IsFresh : List PlanCommand → Type 0
IsFresh [] = Unit {0}
IsFresh (planned.Importing s m at ∷ cs) = Unit {0}
IsFresh (planned.Migrating s m at ∷ cs) = Unit {0}
IsFresh (planned.Drain s m t b ∷ cs) = Unit {0}
IsFresh (planned.SetNode s m at ∷ cs) = ⊥
IsFresh (planned.Stable s at ∷ cs) = Unit {0}

not_fresh : (s t m : ℕ) (l cs : List PlanCommand) → IsFresh l → l ≡ planned.SetNode s t m ∷ cs → ⊥
not_fresh s t m l cs fresh e = subst IsFresh e fresh

-- a command that is none of the first ones stands after them
pub past : (c : PlanCommand) (pre l f r : List PlanCommand) → AllByRecursion (λ x. x ≢ c) pre → pre ++ l ≡ f ++ c ∷ r
    → (f' : List PlanCommand) × (f ≡ pre ++ f') × (l ≡ f' ++ c ∷ r)
past c [] l f r apart e = (f, refl, e)
past c (x ∷ pre) l [] r apart e = absurd (apart.0 (head_same x c (pre ++ l) r e))
past c (x ∷ pre) l (y ∷ f) r apart e =
    let p = past c pre l f r apart.1 (tail_same x y (pre ++ l) (f ++ c ∷ r) e) in (
      p.0,
      ap (λ z. z ∷ f) (sym (head_same x y (pre ++ l) (f ++ c ∷ r) e)) ∙ ap (λ z. x ∷ z) p.1,
      p.2,
    )

-- ---- tellings

-- two tellings that begin at the same place: the one that ends where no more is told has all of the other
pub prefix : (s t : ℕ) (ns xs : List ℕ) (l k : List PlanCommand) → IsFresh l → tell s t ns ++ l ≡ tell s t xs ++ k
    → (last : List ℕ) × (ns ≡ xs ++ last) × (k ≡ tell s t last ++ l)
prefix s t ns [] l k fresh e = (ns, refl, sym e)
prefix s t [] (x ∷ xs) l k fresh e = absurd (not_fresh s t x l (tell s t xs ++ k) fresh e)
prefix s t (n ∷ ns) (x ∷ xs) l k fresh e =
    let p = prefix s t ns xs l k fresh
    (tail_same (planned.SetNode s t n) (planned.SetNode s t x) (tell s t ns ++ l) (tell s t xs ++ k) e) in
    let here : n ≡ x = same_place s t n t x
    (head_same (planned.SetNode s t n) (planned.SetNode s t x) (tell s t ns ++ l) (tell s t xs ++ k) e) in
    (p.0, ap (λ z. z ∷ ns) here ∙ ap (λ z. x ∷ z) p.1, p.2)

pub tell_join : (s t : ℕ) (a b : List ℕ) (l : List PlanCommand)
    → tell s t a ++ (tell s t b ++ l) ≡ tell s t (a ++ b) ++ l
tell_join s t [] b l = refl
tell_join s t (n ∷ a) b l = ap (λ z. planned.SetNode s t n ∷ z) (tell_join s t a b l)

-- within the tellings of u stands that of o, and after it those of xs
pub record Within (s t o u : ℕ) (xs ns : List ℕ) (l f k : List PlanCommand) : Type 0 where
  pub first : List ℕ
  pub last : List ℕ
  pub target : u ≡ t
  pub nodes : ns ≡ first ++ o ∷ (xs ++ last)
  pub front : f ≡ tell s t first
  pub back : k ≡ tell s t last ++ l

-- or after all of them
abbrev pub Behind : (s t o u : ℕ) (xs ns : List ℕ) (l f k : List PlanCommand) → Type 0
Behind s t o u xs ns l f k = (f' : List PlanCommand) × (f ≡ tell s u ns ++ f')
    × (l ≡ f' ++ planned.SetNode s t o ∷ (tell s t xs ++ k))

pub run : (s t o u : ℕ) (xs ns : List ℕ) (l f k : List PlanCommand) → IsFresh l
    → tell s u ns ++ l ≡ f ++ planned.SetNode s t o ∷ (tell s t xs ++ k)
    → Within s t o u xs ns l f k ⊎ Behind s t o u xs ns l f k
run s t o u xs [] l f k fresh e = inr (f, refl, e)
run s t o u xs (n ∷ ns) l [] k fresh e =
    let h = head_same (planned.SetNode s u n) (planned.SetNode s t o) (tell s u ns ++ l) (tell s t xs ++ k) e in
    let to = same_target s u n t o h in
    let tail = tail_same (planned.SetNode s u n) (planned.SetNode s t o) (tell s u ns ++ l) (tell s t xs ++ k) e in
    let p = prefix s t ns xs l k fresh (subst (λ w. tell s w ns ++ l ≡ tell s t xs ++ k) to tail) in
    inl record {
      first = [];
      last = p.0;
      target = to;
      nodes = ap (λ z. z ∷ ns) (same_place s u n t o h) ∙ ap (λ z. o ∷ z) p.1;
      front = refl;
      back = p.2;
    }
run s t o u xs (n ∷ ns) l (y ∷ f) k fresh e =
    let rest = f ++ planned.SetNode s t o ∷ (tell s t xs ++ k) in
    let h : planned.SetNode s u n ≡ y = head_same (planned.SetNode s u n) y (tell s u ns ++ l) rest e in
    elim (run s t o u xs ns l f k fresh (tail_same (planned.SetNode s u n) y (tell s u ns ++ l) rest e)) [
      | inl w ↦ inl record {
        first = n ∷ w.first;
        last = w.last;
        target = w.target;
        nodes = ap (λ z. n ∷ z) w.nodes;
        front = ap (λ z. z ∷ f) (sym h ∙ ap (λ z. planned.SetNode s z n) w.target)
            ∙ ap (λ z. planned.SetNode s t n ∷ z) w.front;
        back = w.back;
      }
      | inr b ↦ inr (b.0, ap (λ z. z ∷ f) (sym h) ∙ ap (λ z. planned.SetNode s u n ∷ z) b.1, b.2)
    ]

-- ---- commands, tellings, and what follows

-- it stands within the tellings; with ys in the place of xs the rest is put together alike
pub record Here (s t o u : ℕ) (xs ns : List ℕ) (pre l f k : List PlanCommand) : Type 0 where
  pub first : List ℕ
  pub last : List ℕ
  pub target : u ≡ t
  pub nodes : ns ≡ first ++ o ∷ (xs ++ last)
  pub is : (ys : List ℕ) → f ++ planned.SetNode s t o ∷ (tell s t ys ++ k)
      ≡ pre ++ (tell s u (first ++ o ∷ (ys ++ last)) ++ l)

-- it stands after them
pub record Later (s t o u : ℕ) (xs ns : List ℕ) (pre l f k : List PlanCommand) : Type 0 where
  pub front : List PlanCommand
  pub moved : (g : List PlanCommand) → f ++ g ≡ pre ++ (tell s u ns ++ (front ++ g))
  pub is : l ≡ front ++ planned.SetNode s t o ∷ (tell s t xs ++ k)

module _ (s t o u : ℕ) (xs ns : List ℕ) (pre l f k : List PlanCommand) where
  joined : (ys first last : List ℕ) (f' : List PlanCommand) → u ≡ t → f ≡ pre ++ f' → f' ≡ tell s t first
      → k ≡ tell s t last ++ l
      → f ++ planned.SetNode s t o ∷ (tell s t ys ++ k) ≡ pre ++ (tell s u (first ++ o ∷ (ys ++ last)) ++ l)
  joined ys first last f' to fs front back =
      ap (λ z. z ++ planned.SetNode s t o ∷ (tell s t ys ++ k)) fs
      ∙ append_assoc pre f' (planned.SetNode s t o ∷ (tell s t ys ++ k))
      ∙ ap (λ z. pre ++ z) (
      ap (λ z. z ++ planned.SetNode s t o ∷ (tell s t ys ++ k)) front
      ∙ ap (λ z. tell s t first ++ planned.SetNode s t o ∷ (tell s t ys ++ z)) back
      ∙ ap (λ z. tell s t first ++ planned.SetNode s t o ∷ z) (tell_join s t ys last l)
      ∙ tell_join s t first (o ∷ (ys ++ last)) l
      ∙ ap (λ z. tell s z (first ++ o ∷ (ys ++ last)) ++ l) (sym to)
      )

  moved_by : (f' front : List PlanCommand) → f ≡ pre ++ f' → f' ≡ tell s u ns ++ front → (g : List PlanCommand)
      → f ++ g ≡ pre ++ (tell s u ns ++ (front ++ g))
  moved_by f' front fs is g =
      ap (λ z. z ++ g) fs ∙ append_assoc pre f' g
      ∙ ap (λ z. pre ++ z) (ap (λ z. z ++ g) is ∙ append_assoc (tell s u ns) front g)

  pub block : AllByRecursion (λ x. x ≢ planned.SetNode s t o) pre → IsFresh l
      → pre ++ (tell s u ns ++ l) ≡ f ++ planned.SetNode s t o ∷ (tell s t xs ++ k)
      → Here s t o u xs ns pre l f k ⊎ Later s t o u xs ns pre l f k
  block apart fresh e =
      let p = past (planned.SetNode s t o) pre (tell s u ns ++ l) f (tell s t xs ++ k) apart e in
      elim (run s t o u xs ns l p.0 k fresh p.2) [
        | inl w ↦ inl record {
          first = w.first;
          last = w.last;
          target = w.target;
          nodes = w.nodes;
          is = λ ys. joined ys w.first w.last p.0 w.target p.1 w.front w.back;
        }
        | inr b ↦ inr record { front = b.0; moved = moved_by p.0 b.0 p.1 b.1; is = b.2 }
      ]
