-- A text that is read from its end as a line is the text of that line.
use Rattle.std.proofs.Common.{◌≡◌, ℕ, ◌-◌, ◌≤◌, List, [], ◌∷◌, ◌++◌, refl, ap, ◌∙◌, sym, arith}
use Rattle.std.proofs.Common.{append_assoc, decimal, codes, drop, Option, Some, None, length, ◌+◌, ◌*◌, ◌/◌, ◌%◌, ◌^◌, ◌<◌}
use Rattle.std.specs.Option.{IfSome, SomeIff}
use Rattle.std.proofs.lemmas.List.{append-nil, drop_all}
use Rattle.std.proofs.lemmas.Grind.{pow_more}
use Rattle.std.proofs.Math.Nat.{pow-le-pow_right}
use Rattle.std.proofs.lemmas.Fmt.{decimal_digit, decimal_step}
use Rattle.plan_language.specs.declared.plan_command.PlanCommand.{PlanCommand}
use Rattle.plan_language.specs.declared.setting.Setting.{Setting}
use Rattle.plan_language.specs.declared.setting.Setting.TheVariants as setting
use Rattle.plan_language.specs.declared.line.Line.TheVariants.{Command}
use Rattle.plan_language.specs.Settings.{setting_text}
use Rattle.plan_language.specs.Texts.{line_text, setslot}

pub node_digit : (b n : ℕ) → 48 ≤ b → b ≤ 55 → n ≡ b - 48 → decimal n ≡ b ∷ []
node_digit b n low high is = decimal_digit n (omega arith) ∙ ap (λ x. x ∷ []) (omega arith)

digit_added : (n d : ℕ) → 0 < n → d < 10 → n < 10 ^ 4 → decimal (n * 10 + d) ≡ decimal n ++ ((48 + d) ∷ [])
digit_added n d some small few =
    let q : (n * 10 + d) / 10 ≡ n = omega arith in
    let r : (n * 10 + d) % 10 ≡ d = omega arith in
    let step = decimal_step (n * 10 + d) (omega arith) (omega arith) in
    rw (q, r) at step

pub slot_goes_on : (t rest more : List ℕ) (n d b : ℕ) → 0 < n → n < 10 ^ 4 → d < 10 → b ≡ 48 + d → rest ≡ b ∷ more
    → decimal n ++ rest ≡ t → decimal (n * 10 + d) ++ more ≡ t
slot_goes_on t rest more n d b some few small digit is text =
    ap (λ x. x ++ more) (digit_added n d some small few)
    ∙ append_assoc (decimal n) ((48 + d) ∷ []) more
    ∙ ap (λ x. decimal n ++ (x ∷ more)) (sym digit)
    ∙ ap (λ x. decimal n ++ x) (sym is)
    ∙ text

pub slot_ends : (t rest : List ℕ) (n i : ℕ) → decimal n ++ drop i rest ≡ t → length rest ≤ i → t ≡ decimal n
slot_ends t rest n i text end =
    sym text ∙ ap (λ x. decimal n ++ x) (drop_all i rest end) ∙ append-nil (decimal n)

pub few : (n i : ℕ) → n < 10 ^ (i + 1) → i + 1 ≤ 4 → n < 10 ^ 4
few n i small short = let bound : 10 ^ (i + 1) ≤ 10 ^ 4 = pow-le-pow_right (omega arith) short in omega (arith, bound)

regrouped : (t f g h d p z y x : List ℕ) → t ≡ f ++ x → f ≡ g ++ y → g ≡ h ++ z → h ≡ p ++ d
    → t ≡ p ++ (d ++ (z ++ (y ++ x)))
regrouped t f g h d p z y x at node how verb =
    at ∙ ap (λ l. l ++ x) node ∙ append_assoc g y x
    ∙ ap (λ l. l ++ (y ++ x)) how ∙ append_assoc h z (y ++ x)
    ∙ ap (λ l. l ++ (z ++ (y ++ x))) verb ∙ append_assoc p d (z ++ (y ++ x))

joined : (set : Setting) (s n a : ℕ)
    → codes "setslot " ++ (decimal s ++ ((32 ∷ setting_text set)
    ++ ((codes " n" ++ decimal n) ++ (codes " at n" ++ decimal a)))) ≡ line_text (Command (setslot set s n a))
joined setting.Importing s n a = refl
joined setting.Migrating s n a = refl
joined setting.Node s n a = refl

pub usual_text : (set : Setting) (t f g h d : List ℕ) (s n a m b : ℕ) (command : PlanCommand)
    → t ≡ f ++ (codes " at n" ++ decimal a) → f ≡ g ++ (codes " n" ++ decimal n) → g ≡ h ++ (32 ∷ setting_text set)
    → h ≡ codes "setslot " ++ d → d ≡ decimal s
    → command ≡ setslot set s m b → m ≡ n → b ≡ a → t ≡ line_text (Command command)
usual_text set t f g h d s n a m b command at node how verb slot is same other =
    regrouped t f g h d (codes "setslot ") (32 ∷ setting_text set) (codes " n" ++ decimal n)
    (codes " at n" ++ decimal a) at node how verb
    ∙ ap (λ x. codes "setslot " ++ (x ++ ((32 ∷ setting_text set)
    ++ ((codes " n" ++ decimal n) ++ (codes " at n" ++ decimal a))))) slot
    ∙ joined set s n a
    ∙ ap (λ c. line_text (Command c)) (sym (is ∙ ap (λ x. setslot set s x b) same ∙ ap (λ x. setslot set s n x) other))

pub slot_begins : (t rest : List ℕ) (b d : ℕ) → t ≡ b ∷ rest → d < 10 → b ≡ 48 + d → decimal d ++ drop 0 rest ≡ t
slot_begins t rest b d is small digit =
    ap (λ x. x ++ rest) (decimal_digit d small) ∙ ap (λ x. x ∷ rest) (sym digit) ∙ sym is

pub more : (n i d : ℕ) → n < 10 ^ (i + 1) → d < 10 → n * 10 + d < 10 ^ (i + 1 + 1)
more n i d small digit = omega (arith, pow_more 10 (i + 1))

pub slot_found : (o : Option ℕ) (P : Type 0) (t : List ℕ) (n : ℕ) → SomeIff o P n → t ≡ decimal n
    → IfSome o (λ s. t ≡ decimal s)
slot_found None P t n found is = tt
slot_found (Some s) P t n found is = is ∙ ap decimal (sym found.1)
