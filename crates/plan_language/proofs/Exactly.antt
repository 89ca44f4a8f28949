-- A text that is read as a plan is the text of that plan.
use Rattle.std.proofs.Common.{◌≡◌, ◌≢◌, ℕ, ◌+◌, ◌<◌, ◌≤◌, Bool, true, false, cond, not, ◌&&◌, ◌==◌, List}
use Rattle.std.proofs.Common.{[], ◌∷◌, ◌++◌, Some, None, Option, Result, Ok, Err, nat_eq}
use Rattle.std.proofs.Common.{nat_lt, nat_le, refl, ap, ◌∙◌, sym, subst, arith, decimal, codes, append_assoc, append-nil}
use Rattle.std.specs.Cmp.Lexicographic.{pointwise}
use Rattle.std.specs.List.{list_all, join_with_byte, AllByRecursion}
use Rattle.std.specs.Option.{option_and_then, option_map}
use Rattle.std.proofs.lemmas.Bool.Decides.{nat_tests}
use Rattle.std.proofs.lemmas.List.Splits.{join_with_byte-slice_split}
use Rattle.byte_texts.specs.Decimals.{number_in}
use Rattle.byte_texts.proofs.Numerals.{number_back}
use Rattle.key_slots.specs.Numbers.{node_among, slot_in}
use Rattle.key_slots.proofs.DecimalNumbers.{both, from_most, node_back, slot_back}
use Rattle.node_names.specs.Names.{AreNames, AreNext, IsNext, Names, are_below, has_name, is_name}
use Rattle.plan_language.specs.declared.limits.Limits.{Limits}
use Rattle.plan_language.specs.declared.plan_command.PlanCommand.TheVariants.{Drain, Stable}
use Rattle.plan_language.specs.declared.setting.Setting.{Setting}
use Rattle.plan_language.specs.declared.setting.Setting.TheVariants as setting
use Rattle.plan_language.specs.declared.line.Line.{Line}
use Rattle.plan_language.specs.declared.line.Line.TheVariants.{Command, Move}
use Rattle.plan_language.specs.declared.parse_fault.ParseCause.{ParseCause}
use Rattle.plan_language.specs.declared.parse_fault.ParseCause.TheVariants.{Verb, Slot, Node, Count, Range}
use Rattle.plan_language.specs.declared.parse_fault.ParseCause.TheVariants.{TooLong, Name, Order, SameName, Unlisted}
use Rattle.plan_language.specs.Limits.{limits_of}
use Rattle.plan_language.specs.Lines.{FitsEach, FitsVersion, IsLine, IsListed, IsPlan, IsVersion, IsWithin, are_listed}
use Rattle.plan_language.specs.Lines.{line_count}
use Rattle.plan_language.specs.PlanView.{PlanView}
use Rattle.plan_language.specs.Settings.{setting_text}
use Rattle.plan_language.specs.Texts.{parts, is_text, node_text, slots_text, setslot_words, line_words, line_text}
use Rattle.plan_language.specs.Texts.{if_there, and_then, setting_in, setslot, set_line, stable_line, setslot_line}
use Rattle.plan_language.specs.Texts.{route_in, drain_line}
use Rattle.plan_language.specs.Texts.{slots_in, line_of_move, move_line, row_in, is_word, line_in, command_in, listed}
use Rattle.plan_language.specs.Texts.{parse_end, is_nothing, fault, with_line, line_then, lines_in, plan_in_lines}
use Rattle.plan_language.specs.Texts.{ParsedLines, version_in, as_plan, plan_after, plan_of_text}
use Rattle.plan_language.specs.Texts.{lines_text, header_text, plan_text, text_version, PlansHaveOneText}
use Rattle.plan_language.specs.Texts.{is_of_node, name_in, name_of, name_row, name_text, name_then, name_words, names_in}
use Rattle.plan_language.specs.Texts.{names_text, listing_version_in, any_plan_after, any_plan_in_lines}
use Rattle.plan_language.specs.Texts.{any_plan_of_text, AnyPlansHaveOneText}
use Rattle.plan_language.proofs.Printed.{FitIn, all_listed, any_plan_read, are_words, end_text, header_is, most_nodes}
use Rattle.plan_language.proofs.Printed.{plan_read}

-- ---- words

same_byte : (a b : ℕ) → nat_eq a b ≡ true → a ≡ b
same_byte a b h = grind (arith, nat_tests)

same_text : (t word : List ℕ) → pointwise nat_eq t word ≡ true → t ≡ word
same_text [] [] h = refl
same_text [] (b ∷ word) h = cc
same_text (a ∷ t) [] h = cc
same_text (a ∷ t) (b ∷ word) h =
    let s = both (nat_eq a b) (pointwise nat_eq t word) h in
    ap (λ x. x ∷ t) (same_byte a b s.0) ∙ ap (λ r. b ∷ r) (same_text t word s.1)

same_number : (a b : ℕ) → (a == b) ≡ true → a ≡ b
same_number a b h = grind (arith, nat_tests)

batch_back : (t : List ℕ) (n : ℕ) → number_in 1 1000 t ≡ Some n → (t ≡ decimal n) × (1 ≤ n) × (n ≤ 1000)
batch_back t n h = number_back 1 1000 t n (omega arith) h

-- ---- one field after the other

there : {A B : Type 0} (o : Option A) (c : ParseCause) (f : A → Result B ParseCause) (y : B) → if_there o c f ≡ Ok y
    → (a : A) × ((o ≡ Some a) × (f a ≡ Ok y))
there None c f y h = cc
there (Some a) c f y h = (a, (refl, h))

done : {A B : Type 0} (r : Result A ParseCause) (f : A → Result B ParseCause) (y : B) → and_then r f ≡ Ok y
    → (a : A) × ((r ≡ Ok a) × (f a ≡ Ok y))
done (Err c) f y h = cc
done (Ok a) f y h = (a, (refl, h))

the_same : {B : Type 0} (x y : B) → (let r : Result B ParseCause = Ok x in r) ≡ Ok y → x ≡ y
the_same x y h = cc

held : {B : Type 0} (b : Bool) (r : Result B ParseCause) (y : B) → cond b r (Err Verb) ≡ Ok y → (b ≡ true) × (r ≡ Ok y)
held true r y h = (refl, h)
held false r y h = cc

-- ---- a line

setting_by : (a b c : Bool) (how : List ℕ) (set : Setting) → (a ≡ true → how ≡ codes "importing")
    → (b ≡ true → how ≡ codes "migrating") → (c ≡ true → how ≡ codes "node")
    → cond a (Some setting.Importing) (cond b (Some setting.Migrating) (cond c (Some setting.Node) None)) ≡ Some set
    → how ≡ setting_text set
setting_by true b c how set f g k h = let e : setting.Importing ≡ set = cc in f refl ∙ ap setting_text e
setting_by false true c how set f g k h = let e : setting.Migrating ≡ set = cc in g refl ∙ ap setting_text e
setting_by false false true how set f g k h = let e : setting.Node ≡ set = cc in k refl ∙ ap setting_text e
setting_by false false false how set f g k h = cc

setting_back : (how : List ℕ) (set : Setting) → setting_in how ≡ Some set → how ≡ setting_text set
setting_back how set h =
    setting_by (is_text (codes "importing") how) (is_text (codes "migrating") how) (is_text (codes "node") how) how set
    (same_text how (codes "importing")) (same_text how (codes "migrating")) (same_text how (codes "node")) h

stable_test : (v : ℕ) (how : List ℕ) → (is_text (codes "stable") how && v == 3) ≡ true
    → (how ≡ codes "stable") × (v ≡ 3)
stable_test v how h =
    let p = both (is_text (codes "stable") how) (v == 3) h in
    (same_text how (codes "stable") p.0, same_number v 3 p.1)

fixed : (a b c : List ℕ) (x y z : List ℕ) → (is_text x a && is_text y b && is_text z c) ≡ true
    → (a ≡ x) × (b ≡ y) × (c ≡ z)
fixed a b c x y z h =
    let p = both (is_text x a && is_text y b) (is_text z c) h in
    let q = both (is_text x a) (is_text y b) p.0 in
    (same_text a x q.0, same_text b y q.1, same_text c z p.1)

map_back : {A B : Type 0} (f : A → B) (o : Option A) (y : B) → option_map f o ≡ Some y
    → (a : A) × ((o ≡ Some a) × (f a ≡ y))
map_back f None y h = cc
map_back f (Some a) y h = (a, (refl, cc))

and_then_back : {A B : Type 0} (f : A → Option B) (o : Option A) (y : B) → option_and_then f o ≡ Some y
    → (a : A) × ((o ≡ Some a) × (f a ≡ Some y))
and_then_back f None y h = cc
and_then_back f (Some a) y h = (a, (refl, h))

abbrev IsSlots : List ℕ → ℕ × ℕ × Bool → Type 0
IsSlots t m = (t ≡ slots_text m.0 m.1) × (m.0 ≤ m.1) × (m.1 < 16384)

itself : (n : ℕ) → (n == n) ≡ true
itself n = grind (arith, nat_tests)

unlike : (a b : ℕ) → a < b → (a == b) ≡ false
unlike a b h = grind (arith, nat_tests)

below : (a b : ℕ) → (true && not (nat_lt a b)) ≡ false → a < b
below a b h = grind (arith, nat_tests)

one_slot : (t : List ℕ) (s : ℕ) (m : ℕ × ℕ × Bool) → (t ≡ decimal s) × (s < 16384) → (s, s, false) ≡ m → IsSlots t m
one_slot t s m o e =
    subst (IsSlots t) e
    (o.0 ∙ ap (λ b. cond b (decimal s) (decimal s ++ 45 ∷ decimal s)) (sym (itself s)), omega arith, o.1)

two_slots : (t first last : List ℕ) (x y : ℕ) (m : ℕ × ℕ × Bool) → first ++ 45 ∷ last ≡ t
    → (first ≡ decimal x) × (x < 16384)
    → (last ≡ decimal y) × (y < 16384) → (x, y, true) ≡ m → x < y → IsSlots t m
two_slots t first last x y m is o p e h =
    subst (IsSlots t) e (
      sym is ∙ ap (λ a. a ++ 45 ∷ last) o.0 ∙ ap (λ b. decimal x ++ 45 ∷ b) p.0
          ∙ ap (λ b. cond b (decimal x) (decimal x ++ 45 ∷ decimal y)) (sym (unlike x y h)),
      omega arith,
      p.1,
    )

last_slot : (t first last : List ℕ) (x : ℕ) (m : ℕ × ℕ × Bool) → first ++ 45 ∷ last ≡ t
    → (first ≡ decimal x) × (x < 16384)
    → option_map (λ y. (x, y, true)) (slot_in last) ≡ Some m → (m.2 && not (nat_lt m.0 m.1)) ≡ false → IsSlots t m
last_slot t first last x m is o h g =
    let f = map_back (λ y. (x, y, true)) (slot_in last) m h in
    two_slots t first last x f.0 m is o (slot_back last f.0 f.1.0) f.1.1
    (below x f.0 (subst (λ k. (k.2 && not (nat_lt k.0 k.1)) ≡ false) (sym f.1.1) g))

slots_back : (t : List ℕ) (ps : List (List ℕ)) (m : ℕ × ℕ × Bool) → join_with_byte 45 ps ≡ t → slots_in ps ≡ Some m
    → (m.2 && not (nat_lt m.0 m.1)) ≡ false → IsSlots t m
slots_back t [] m is h g = cc
slots_back t (a ∷ []) m is h g =
    let f = map_back (λ s. (s, s, false)) (slot_in a) m h in
    let o = slot_back a f.0 f.1.0 in
    one_slot t f.0 m (sym is ∙ o.0, o.1) f.1.1
slots_back t (first ∷ (last ∷ [])) m is h g =
    let f = and_then_back (λ x. option_map (λ y. (x, y, true)) (slot_in last)) (slot_in first) m h in
    last_slot t first last f.0 m is (slot_back first f.0 f.1.0) f.1.1 g
slots_back t (a ∷ (b ∷ (c ∷ ps))) m is h g = cc

moved_test : (b : Bool) (l line : Line) → cond b (Err Range) (let r : Result Line ParseCause = Ok l in r) ≡ Ok line
    → (b ≡ false) × (l ≡ line)
moved_test true l line h = cc
moved_test false l line h = (refl, cc)

module _ (lim : Limits) (one : 1 ≤ lim.nodes) (top : lim.nodes ≤ 255) where
  node_is : (t : List ℕ) (n : ℕ) → node_among lim.nodes t ≡ Some n → (t ≡ node_text n) × (n < lim.nodes)
  node_is t n h = node_back lim.nodes t n one top h

  abbrev IsRow : List (List ℕ) → Line → Type 0
  IsRow words line = (words ≡ line_words line) × (IsLine line × IsWithin lim line × FitsEach line)

  setslot_row : (set : Setting) (s n a : ℕ) → s < 16384 → n < lim.nodes → a < lim.nodes
      → IsRow (setslot_words s (setting_text set) n a) (Command (setslot set s n a))
  setslot_row setting.Importing s n a h g f = (refl, (tt, (h, g, f), λ v. tt))
  setslot_row setting.Migrating s n a h g f = (refl, (tt, (h, g, f), λ v. tt))
  setslot_row setting.Node s n a h g f = (refl, (tt, (h, g, f), λ v. tt))

  setslot_same : (set : Setting) (slot how node at place : List ℕ) (s n a : ℕ) (line : Line)
      → how ≡ setting_text set → at ≡ codes "at" → (slot ≡ decimal s) × (s < 16384)
      → (node ≡ node_text n) × (n < lim.nodes) → (place ≡ node_text a) × (a < lim.nodes)
      → Command (setslot set s n a) ≡ line
      → IsRow (codes "setslot" ∷ slot ∷ how ∷ node ∷ at ∷ place ∷ []) line
  setslot_same set slot how node at place s n a line w t o p q is =
      let words : codes "setslot" ∷ slot ∷ how ∷ node ∷ at ∷ place ∷ [] ≡ setslot_words s (setting_text set) n a = cc in
      subst (λ ws. IsRow ws line) (sym words)
      (subst (λ l. IsRow (setslot_words s (setting_text set) n a) l) is (setslot_row set s n a o.1 p.1 q.1))

  setslot_place : (set : Setting) (slot how node at place : List ℕ) (s n : ℕ) (line : Line)
      → how ≡ setting_text set → at ≡ codes "at" → (slot ≡ decimal s) × (s < 16384) → (node ≡ node_text n) × (n < lim.nodes)
      → if_there (node_among lim.nodes place) Node (λ a. Ok (Command (setslot set s n a))) ≡ Ok line
      → IsRow (codes "setslot" ∷ slot ∷ how ∷ node ∷ at ∷ place ∷ []) line
  setslot_place set slot how node at place s n line w t o p h =
      let f = there (node_among lim.nodes place) Node (λ a. Ok (Command (setslot set s n a))) line h in
      setslot_same set slot how node at place s n f.0 line w t o p (node_is place f.0 f.1.0) (the_same _ line f.1.1)

  setslot_nodes : (set : Setting) (slot how node at place : List ℕ) (s : ℕ) (line : Line)
      → how ≡ setting_text set → at ≡ codes "at" → (slot ≡ decimal s) × (s < 16384)
      → if_there (node_among lim.nodes node) Node (λ n. if_there (node_among lim.nodes place) Node (λ a. Ok (Command (setslot set s n a))))
      ≡ Ok line
      → IsRow (codes "setslot" ∷ slot ∷ how ∷ node ∷ at ∷ place ∷ []) line
  setslot_nodes set slot how node at place s line w t o h =
      let f = there (node_among lim.nodes node) Node (λ n. if_there (node_among lim.nodes place) Node
      (λ a. Ok (Command (setslot set s n a)))) line h in
      setslot_place set slot how node at place s f.0 line w t o (node_is node f.0 f.1.0) f.1.1

  setslot_fields : (set : Setting) (slot how node at place : List ℕ) (line : Line)
      → how ≡ setting_text set → at ≡ codes "at"
      → if_there (slot_in slot) Slot (λ s. if_there (node_among lim.nodes node) Node (λ n. if_there (node_among lim.nodes place) Node
      (λ a. Ok (Command (setslot set s n a))))) ≡ Ok line
      → IsRow (codes "setslot" ∷ slot ∷ how ∷ node ∷ at ∷ place ∷ []) line
  setslot_fields set slot how node at place line w t h =
      let f = there (slot_in slot) Slot (λ s. if_there (node_among lim.nodes node) Node (λ n. if_there (node_among lim.nodes place) Node
      (λ a. Ok (Command (setslot set s n a))))) line h in
      setslot_nodes set slot how node at place f.0 line w t (slot_back slot f.0 f.1.0) f.1.1

  setslot_words_back : (slot how node at place : List ℕ) (set : Setting) (line : Line) → setting_in how ≡ Some set
      → cond (is_text (codes "at") at) (if_there (slot_in slot) Slot (λ s. if_there (node_among lim.nodes node) Node (λ n.
      if_there (node_among lim.nodes place) Node (λ a. Ok (Command (setslot set s n a)))))) (Err Verb) ≡ Ok line
      → IsRow (codes "setslot" ∷ slot ∷ how ∷ node ∷ at ∷ place ∷ []) line
  setslot_words_back slot how node at place set line w h =
      let c = held (is_text (codes "at") at) (if_there (slot_in slot) Slot (λ s. if_there (node_among lim.nodes node) Node (λ n.
      if_there (node_among lim.nodes place) Node (λ a. Ok (Command (setslot set s n a)))))) line h in
      setslot_fields set slot how node at place line (setting_back how set w) (same_text at (codes "at") c.0) c.1

  set_back : (slot how : List ℕ) (ws : List (List ℕ)) (line : Line) → set_line lim slot how ws ≡ Ok line
      → IsRow (codes "setslot" ∷ (slot ∷ (how ∷ ws))) line
  set_back slot how [] line h = cc
  set_back slot how (a ∷ []) line h = cc
  set_back slot how (a ∷ (b ∷ [])) line h = cc
  set_back slot how (node ∷ (at ∷ (place ∷ []))) line h =
      let f = there (setting_in how) Verb (λ set. cond (is_text (codes "at") at) (if_there (slot_in slot) Slot (λ s.
      if_there (node_among lim.nodes node) Node (λ n. if_there (node_among lim.nodes place) Node
      (λ a. Ok (Command (setslot set s n a)))))) (Err Verb)) line h in
      setslot_words_back slot how node at place f.0 line f.1.0 f.1.1
  set_back slot how (a ∷ (b ∷ (c ∷ (d ∷ ws)))) line h = cc

  -- what these words are in a plan of this version
  abbrev IsRowOf : ℕ → List (List ℕ) → Line → Type 0
  IsRowOf v words line = (words ≡ line_words line) × (IsLine line × IsWithin lim line × FitsVersion v line)

  of_each : (v : ℕ) (words : List (List ℕ)) (line : Line) → IsRow words line → IsRowOf v words line
  of_each v words line r = (r.0, (r.1.0, r.1.1, r.1.2 v))

  stable_same : (v : ℕ) (slot how at place : List ℕ) (s a : ℕ) (line : Line) → how ≡ codes "stable" → v ≡ 3
      → at ≡ codes "at" → (slot ≡ decimal s) × (s < 16384) → (place ≡ node_text a) × (a < lim.nodes)
      → Command (Stable s a) ≡ line → IsRowOf v (codes "setslot" ∷ slot ∷ how ∷ at ∷ place ∷ []) line
  stable_same v slot how at place s a line w three t o p is =
      let words : codes "setslot" ∷ slot ∷ how ∷ at ∷ place ∷ [] ≡ line_words (Command (Stable s a)) = cc in
      subst (λ l. IsRowOf v (codes "setslot" ∷ slot ∷ how ∷ at ∷ place ∷ []) l) is (words, (tt, (o.1, p.1), three))

  stable_place : (v : ℕ) (slot how at place : List ℕ) (s : ℕ) (line : Line) → how ≡ codes "stable" → v ≡ 3
      → at ≡ codes "at" → (slot ≡ decimal s) × (s < 16384)
      → if_there (node_among lim.nodes place) Node (λ a. Ok (Command (Stable s a))) ≡ Ok line
      → IsRowOf v (codes "setslot" ∷ slot ∷ how ∷ at ∷ place ∷ []) line
  stable_place v slot how at place s line w three t o h =
      let f = there (node_among lim.nodes place) Node (λ a. Ok (Command (Stable s a))) line h in
      stable_same v slot how at place s f.0 line w three t o (node_is place f.0 f.1.0) (the_same _ line f.1.1)

  stable_fields : (v : ℕ) (slot how at place : List ℕ) (line : Line) → how ≡ codes "stable" → v ≡ 3
      → at ≡ codes "at"
      → if_there (slot_in slot) Slot (λ s. if_there (node_among lim.nodes place) Node (λ a. Ok (Command (Stable s a)))) ≡ Ok line
      → IsRowOf v (codes "setslot" ∷ slot ∷ how ∷ at ∷ place ∷ []) line
  stable_fields v slot how at place line w three t h =
      let f = there (slot_in slot) Slot (λ s. if_there (node_among lim.nodes place) Node
      (λ a. Ok (Command (Stable s a)))) line h in
      stable_place v slot how at place f.0 line w three t (slot_back slot f.0 f.1.0) f.1.1

  stable_back : (v : ℕ) (slot how : List ℕ) (ws : List (List ℕ)) (line : Line) → how ≡ codes "stable" → v ≡ 3
      → stable_line lim slot ws ≡ Ok line → IsRowOf v (codes "setslot" ∷ (slot ∷ (how ∷ ws))) line
  stable_back v slot how [] line w three h = cc
  stable_back v slot how (a ∷ []) line w three h = cc
  stable_back v slot how (at ∷ (place ∷ [])) line w three h =
      let c = held (is_text (codes "at") at) (if_there (slot_in slot) Slot (λ s. if_there (node_among lim.nodes place) Node
      (λ a. Ok (Command (Stable s a))))) line h in
      stable_fields v slot how at place line w three (same_text at (codes "at") c.0) c.1
  stable_back v slot how (a ∷ (b ∷ (c ∷ ws))) line w three h = cc

  setslot_by : (v : ℕ) (b : Bool) (slot how : List ℕ) (ws : List (List ℕ)) (line : Line)
      → (b ≡ true → (how ≡ codes "stable") × (v ≡ 3)) → cond b (stable_line lim slot ws) (set_line lim slot how ws) ≡ Ok line
      → IsRowOf v (codes "setslot" ∷ (slot ∷ (how ∷ ws))) line
  setslot_by v true slot how ws line is h = let i = is refl in stable_back v slot how ws line i.0 i.1 h
  setslot_by v false slot how ws line is h =
      of_each v (codes "setslot" ∷ (slot ∷ (how ∷ ws))) line (set_back slot how ws line h)

  setslot_back : (v : ℕ) (ws : List (List ℕ)) (line : Line) → setslot_line lim v ws ≡ Ok line
      → IsRowOf v (codes "setslot" ∷ ws) line
  setslot_back v [] line h = cc
  setslot_back v (a ∷ []) line h = cc
  setslot_back v (slot ∷ (how ∷ ws)) line h =
      setslot_by v (is_text (codes "stable") how && v == 3) slot how ws line (stable_test v how) h

  record IsRoute (source target batch : List ℕ) (r : ℕ × ℕ × ℕ) : Type 0 where
    source_is : source ≡ node_text r.0
    target_is : target ≡ node_text r.1
    batch_is : batch ≡ decimal r.2
    source_within : r.0 < lim.nodes
    target_within : r.1 < lim.nodes
    some : 1 ≤ r.2
    most : r.2 ≤ 1000

  route_same : (source target batch : List ℕ) (s t b : ℕ) (r : ℕ × ℕ × ℕ) → (source ≡ node_text s) × (s < lim.nodes)
      → (target ≡ node_text t) × (t < lim.nodes) → (batch ≡ decimal b) × (1 ≤ b) × (b ≤ 1000) → (s, t, b) ≡ r
      → IsRoute source target batch r
  route_same source target batch s t b r p q o e =
      subst (IsRoute source target batch) e (record {
        source_is = p.0;
        target_is = q.0;
        batch_is = o.0;
        source_within = p.1;
        target_within = q.1;
        some = o.1;
        most = o.2;
      })

  route_batch : (source target batch : List ℕ) (s t : ℕ) (r : ℕ × ℕ × ℕ) → (source ≡ node_text s) × (s < lim.nodes)
      → (target ≡ node_text t) × (t < lim.nodes) → if_there (number_in 1 1000 batch) Count (λ b. Ok (s, t, b)) ≡ Ok r
      → IsRoute source target batch r
  route_batch source target batch s t r p q h =
      let f = there (number_in 1 1000 batch) Count (λ b. Ok (s, t, b)) r h in
      route_same source target batch s t f.0 r p q (batch_back batch f.0 f.1.0) (the_same _ r f.1.1)

  route_target : (source target batch : List ℕ) (s : ℕ) (r : ℕ × ℕ × ℕ) → (source ≡ node_text s) × (s < lim.nodes)
      → if_there (node_among lim.nodes target) Node (λ t. if_there (number_in 1 1000 batch) Count (λ b. Ok (s, t, b))) ≡ Ok r
      → IsRoute source target batch r
  route_target source target batch s r p h =
      let f = there (node_among lim.nodes target) Node (λ t. if_there (number_in 1 1000 batch) Count (λ b. Ok (s, t, b))) r h in
      route_batch source target batch s f.0 r p (node_is target f.0 f.1.0) f.1.1

  route_back : (source target batch : List ℕ) (r : ℕ × ℕ × ℕ) → route_in lim source target batch ≡ Ok r
      → IsRoute source target batch r
  route_back source target batch r h =
      let f = there (node_among lim.nodes source) Node (λ s. if_there (node_among lim.nodes target) Node
      (λ t. if_there (number_in 1 1000 batch) Count (λ b. Ok (s, t, b)))) r h in
      route_target source target batch f.0 r (node_is source f.0 f.1.0) f.1.1

  drain_same : (slot source target batch : List ℕ) (s : ℕ) (r : ℕ × ℕ × ℕ) (line : Line)
      → (slot ≡ decimal s) × (s < 16384)
      → IsRoute source target batch r → Command (Drain s r.0 r.1 r.2) ≡ line
      → IsRow (codes "drain" ∷ slot ∷ codes "at" ∷ source ∷ codes "to" ∷ target ∷ codes "by" ∷ batch ∷ []) line
  drain_same slot source target batch s r line o p is =
      let words : codes "drain" ∷ slot ∷ codes "at" ∷ source ∷ codes "to" ∷ target ∷ codes "by" ∷ batch ∷ []
      ≡ line_words (Command (Drain s r.0 r.1 r.2)) = cc in
      subst (λ l. IsRow (codes "drain" ∷ slot ∷ codes "at" ∷ source ∷ codes "to" ∷ target ∷ codes "by" ∷ batch ∷ []) l) is
      (words, ((p.some, p.most), (o.1, p.source_within, p.target_within), λ v. tt))

  drain_route : (slot source target batch : List ℕ) (s : ℕ) (line : Line) → (slot ≡ decimal s) × (s < 16384)
      → and_then (route_in lim source target batch) (λ r. Ok (Command (Drain s r.0 r.1 r.2))) ≡ Ok line
      → IsRow (codes "drain" ∷ slot ∷ codes "at" ∷ source ∷ codes "to" ∷ target ∷ codes "by" ∷ batch ∷ []) line
  drain_route slot source target batch s line o h =
      let f = done (route_in lim source target batch) (λ r. Ok (Command (Drain s r.0 r.1 r.2))) line h in
      drain_same slot source target batch s f.0 line o (route_back source target batch f.0 f.1.0) (the_same _ line f.1.1)

  drain_fields : (slot at source to target by batch : List ℕ) (line : Line)
      → (at ≡ codes "at") × (to ≡ codes "to") × (by ≡ codes "by")
      → if_there (slot_in slot) Slot (λ s. and_then (route_in lim source target batch)
      (λ r. Ok (Command (Drain s r.0 r.1 r.2)))) ≡ Ok line
      → IsRow (codes "drain" ∷ slot ∷ at ∷ source ∷ to ∷ target ∷ by ∷ batch ∷ []) line
  drain_fields slot at source to target by batch line w h =
      let f = there (slot_in slot) Slot (λ s. and_then (route_in lim source target batch)
      (λ r. Ok (Command (Drain s r.0 r.1 r.2)))) line h in
      let words : codes "drain" ∷ slot ∷ codes "at" ∷ source ∷ codes "to" ∷ target ∷ codes "by" ∷ batch ∷ []
      ≡ codes "drain" ∷ slot ∷ at ∷ source ∷ to ∷ target ∷ by ∷ batch ∷ [] = cc in
      subst (λ ws. IsRow ws line) words
      (drain_route slot source target batch f.0 line (slot_back slot f.0 f.1.0) f.1.1)

  drain_back : (ws : List (List ℕ)) (line : Line) → drain_line lim ws ≡ Ok line → IsRow (codes "drain" ∷ ws) line
  drain_back [] line h = cc
  drain_back (a ∷ []) line h = cc
  drain_back (a ∷ (b ∷ [])) line h = cc
  drain_back (a ∷ (b ∷ (c ∷ []))) line h = cc
  drain_back (a ∷ (b ∷ (c ∷ (d ∷ [])))) line h = cc
  drain_back (a ∷ (b ∷ (c ∷ (d ∷ (e ∷ []))))) line h = cc
  drain_back (a ∷ (b ∷ (c ∷ (d ∷ (e ∷ (f ∷ [])))))) line h = cc
  drain_back (slot ∷ (at ∷ (source ∷ (to ∷ (target ∷ (by ∷ (batch ∷ []))))))) line h =
      let c = held (is_text (codes "at") at && is_text (codes "to") to && is_text (codes "by") by)
      (if_there (slot_in slot) Slot (λ s. and_then (route_in lim source target batch)
      (λ r. Ok (Command (Drain s r.0 r.1 r.2))))) line h in
      drain_fields slot at source to target by batch line (fixed at to by (codes "at") (codes "to") (codes "by") c.0) c.1
  drain_back (a ∷ (b ∷ (c ∷ (d ∷ (e ∷ (f ∷ (g ∷ (i ∷ ws)))))))) line h = cc

  move_same : (slots source target batch : List ℕ) (m : ℕ × ℕ × Bool) (r : ℕ × ℕ × ℕ) (line : Line) → IsSlots slots m
      → IsRoute source target batch r → Move m.0 m.1 r.0 r.1 r.2 ≡ line
      → IsRow (codes "move" ∷ slots ∷ codes "from" ∷ source ∷ codes "to" ∷ target ∷ codes "by" ∷ batch ∷ []) line
  move_same slots source target batch m r line o p is =
      let words : codes "move" ∷ slots ∷ codes "from" ∷ source ∷ codes "to" ∷ target ∷ codes "by" ∷ batch ∷ []
      ≡ line_words (Move m.0 m.1 r.0 r.1 r.2) = cc in
      subst (λ l. IsRow (codes "move" ∷ slots ∷ codes "from" ∷ source ∷ codes "to" ∷ target ∷ codes "by" ∷ batch
      ∷ []) l) is
      (words, ((o.1, p.some, p.most), (o.2, p.source_within, p.target_within), λ v. tt))

  move_route : (slots source target batch : List ℕ) (m : ℕ × ℕ × Bool) (line : Line) → slots_in (parts 45 slots) ≡ Some m
      → and_then (route_in lim source target batch) (λ r. line_of_move m r) ≡ Ok line
      → IsRow (codes "move" ∷ slots ∷ codes "from" ∷ source ∷ codes "to" ∷ target ∷ codes "by" ∷ batch ∷ []) line
  move_route slots source target batch m line o h =
      let f = done (route_in lim source target batch) (λ r. line_of_move m r) line h in
      let g = moved_test (m.2 && not (nat_lt m.0 m.1)) (Move m.0 m.1 f.0.0 f.0.1 f.0.2) line f.1.1 in
      move_same slots source target batch m f.0 line
      (slots_back slots (parts 45 slots) m (join_with_byte-slice_split 45 slots) o g.0)
      (route_back source target batch f.0 f.1.0) g.1

  move_fields : (slots from source to target by batch : List ℕ) (line : Line)
      → (from ≡ codes "from") × (to ≡ codes "to") × (by ≡ codes "by")
      → if_there (slots_in (parts 45 slots)) Slot (λ m. and_then (route_in lim source target batch) (λ r. line_of_move m r))
      ≡ Ok line
      → IsRow (codes "move" ∷ slots ∷ from ∷ source ∷ to ∷ target ∷ by ∷ batch ∷ []) line
  move_fields slots from source to target by batch line w h =
      let f = there (slots_in (parts 45 slots)) Slot (λ m. and_then (route_in lim source target batch)
      (λ r. line_of_move m r)) line h in
      let words : codes "move" ∷ slots ∷ codes "from" ∷ source ∷ codes "to" ∷ target ∷ codes "by" ∷ batch ∷ []
      ≡ codes "move" ∷ slots ∷ from ∷ source ∷ to ∷ target ∷ by ∷ batch ∷ [] = cc in
      subst (λ ws. IsRow ws line) words (move_route slots source target batch f.0 line f.1.0 f.1.1)

  move_back : (ws : List (List ℕ)) (line : Line) → move_line lim ws ≡ Ok line → IsRow (codes "move" ∷ ws) line
  move_back [] line h = cc
  move_back (a ∷ []) line h = cc
  move_back (a ∷ (b ∷ [])) line h = cc
  move_back (a ∷ (b ∷ (c ∷ []))) line h = cc
  move_back (a ∷ (b ∷ (c ∷ (d ∷ [])))) line h = cc
  move_back (a ∷ (b ∷ (c ∷ (d ∷ (e ∷ []))))) line h = cc
  move_back (a ∷ (b ∷ (c ∷ (d ∷ (e ∷ (f ∷ [])))))) line h = cc
  move_back (slots ∷ (from ∷ (source ∷ (to ∷ (target ∷ (by ∷ (batch ∷ []))))))) line h =
      let c = held (is_text (codes "from") from && is_text (codes "to") to && is_text (codes "by") by)
      (if_there (slots_in (parts 45 slots)) Slot (λ m. and_then (route_in lim source target batch)
      (λ r. line_of_move m r))) line h in
      move_fields slots from source to target by batch line
      (fixed from to by (codes "from") (codes "to") (codes "by") c.0) c.1
  move_back (a ∷ (b ∷ (c ∷ (d ∷ (e ∷ (f ∷ (g ∷ (i ∷ ws)))))))) line h = cc

  verb_back : (v : ℕ) (a b c : Bool) (verb : List ℕ) (ws : List (List ℕ)) (line : Line)
      → (a ≡ true → verb ≡ codes "setslot") → (b ≡ true → verb ≡ codes "drain") → (c ≡ true → verb ≡ codes "move")
      → cond a (setslot_line lim v ws) (cond b (drain_line lim ws) (cond c (move_line lim ws) (Err Verb))) ≡ Ok line
      → IsRowOf v (verb ∷ ws) line
  verb_back v true b c verb ws line f g k h =
      subst (λ word. IsRowOf v (word ∷ ws) line) (sym (f refl)) (setslot_back v ws line h)
  verb_back v false true c verb ws line f g k h =
      subst (λ word. IsRowOf v (word ∷ ws) line) (sym (g refl))
      (of_each v (codes "drain" ∷ ws) line (drain_back ws line h))
  verb_back v false false true verb ws line f g k h =
      subst (λ word. IsRowOf v (word ∷ ws) line) (sym (k refl)) (of_each v (codes "move" ∷ ws) line (move_back ws line h))
  verb_back v false false false verb ws line f g k h = cc

  row_back : (v : ℕ) (ws : List (List ℕ)) (line : Line) → row_in lim v ws ≡ Ok line → IsRowOf v ws line
  row_back v [] line h = cc
  row_back v (verb ∷ ws) line h =
      verb_back v (is_text (codes "setslot") verb) (is_text (codes "drain") verb) (is_text (codes "move") verb) verb ws line
      (same_text verb (codes "setslot")) (same_text verb (codes "drain")) (same_text verb (codes "move")) h

  -- a row that is a line has no empty word
  pub row_taken : (v : ℕ) (ws : List (List ℕ)) (line : Line) → Ok line ≡ row_in lim v ws → Ok line ≡ line_in lim v ws
  row_taken v ws line h =
      let r = row_back v ws line (sym h) in
      let words : list_all is_word ws ≡ true = ap (list_all is_word) r.0 ∙ are_words lim top line r.1.0 r.1.1 in
      h ∙ sym (ap (λ b. cond b (row_in lim v ws) (Err Verb)) words)

  pub row_refused : (v : ℕ) (ws : List (List ℕ)) (cause given : ParseCause) → Err cause ≡ row_in lim v ws
      → given ≡ cond (list_all is_word ws) cause Verb
      → (let r : Result Line ParseCause = Err given in r) ≡ line_in lim v ws
  row_refused v ws cause given h g =
      ap Err g ∙ by (list_all is_word ws) ∙ ap (λ r. cond (list_all is_word ws) r (Err Verb)) h
    where
      by : (b : Bool) → (let r : Result Line ParseCause = Err (cond b cause Verb) in r) ≡ cond b (Err cause) (Err Verb)
      by true = refl
      by false = refl

  abbrev IsTextOf : ℕ → List ℕ → Line → Type 0
  IsTextOf v t line = (t ≡ line_text line) × (IsLine line × IsWithin lim line × FitsVersion v line)

  line_back : (v : ℕ) (t : List ℕ) (line : Line) → line_in lim v (parts 32 t) ≡ Ok line → IsTextOf v t line
  line_back v t line h =
      let c = held (list_all is_word (parts 32 t)) (row_in lim v (parts 32 t)) line h in
      let r = row_back v (parts 32 t) line c.1 in
      (sym (join_with_byte-slice_split 32 t) ∙ ap (join_with_byte 32) r.0, r.1)

-- ---- a plan

pub some_nodes : (names : Option Names) → 1 ≤ (limits_of names).nodes
some_nodes None = omega arith
some_nodes (Some names) = omega arith

-- a text that is read as a command of a plan with these names
abbrev IsCommandOf : Option Names → ℕ → List ℕ → Line → Type 0
IsCommandOf names v t line =
    (t ≡ line_text line)
    × (IsLine line × IsWithin (limits_of names) line × FitsVersion v line × (are_listed names line ≡ true))

listed_test : (b : Bool) (l line : Line) → cond b (let r : Result Line ParseCause = Ok l in r) (Err Unlisted) ≡ Ok line
    → (b ≡ true) × (l ≡ line)
listed_test true l line h = (refl, cc)
listed_test false l line h = cc

listed_by : (names : Option Names) (v : ℕ) (t : List ℕ) (r : Result Line ParseCause) (line : Line)
    → line_in (limits_of names) v (parts 32 t) ≡ r → listed names r ≡ Ok line → IsCommandOf names v t line
listed_by names v t (Err c) line e h = cc
listed_by names v t (Ok l) line e h =
    let g = listed_test (are_listed names l) l line h in
    let o = line_back (limits_of names) (some_nodes names) (most_nodes names) v t l e in
    subst (IsCommandOf names v t) g.1 (o.0, (o.1.0, o.1.1, o.1.2, g.0))

command_back : (names : Option Names) (v : ℕ) (t : List ℕ) (line : Line) → command_in names v (parts 32 t) ≡ Ok line
    → IsCommandOf names v t line
command_back names v t line h = listed_by names v t (line_in (limits_of names) v (parts 32 t)) line refl h

record IsTextFrom (names : Option Names) (v before : ℕ) (ps : List (List ℕ)) (lines : List Line) : Type 0 where
  text : join_with_byte 10 ps ≡ lines_text lines ++ end_text
  fit : FitIn names v before lines

nothing_is : (next : List ℕ) (more : List (List ℕ)) → is_nothing (next ∷ more) ≡ true → next ∷ more ≡ [] ∷ []
nothing_is [] [] h = refl
nothing_is [] (part ∷ more) h = cc
nothing_is (b ∷ t) more h = cc

ended_test : (b : Bool) (n : ℕ) (lines : List Line) → cond b (Ok []) (fault Verb n) ≡ Ok lines
    → (b ≡ true) × ([] ≡ lines)
ended_test true n lines h = (refl, cc)
ended_test false n lines h = cc

end_back : (names : Option Names) (v n before : ℕ) (t next : List ℕ) (more : List (List ℕ)) (lines : List Line)
    → before ≤ (limits_of names).commands → t ≡ codes "end"
    → parse_end n (next ∷ more) ≡ Ok lines → IsTextFrom names v before (t ∷ (next ∷ more)) lines
end_back names v n before t next more lines room is h =
    let e = ended_test (is_nothing (next ∷ more)) n lines h in
    subst (IsTextFrom names v before (t ∷ (next ∷ more))) e.1 (record {
      text = ap (λ x. join_with_byte 10 (x ∷ (next ∷ more))) is
          ∙ ap (λ r. join_with_byte 10 (codes "end" ∷ r)) (nothing_is next more e.0);
      fit = record { lines_are = tt; within = tt; fit = tt; listed = tt; room = omega arith };
    })

limit : (b : Bool) (p : ParsedLines) (n : ℕ) (lines : List Line) → cond b p (fault TooLong n) ≡ Ok lines
    → (b ≡ true) × (p ≡ Ok lines)
limit true p n lines h = (refl, h)
limit false p n lines h = cc

line_is_first : (line : Line) (p : ParsedLines) (lines : List Line) → with_line line p ≡ Ok lines
    → (ls : List Line) × ((p ≡ Ok ls) × (line ∷ ls ≡ lines))
line_is_first line (Ok ls) lines h = (ls, (refl, cc))
line_is_first line (Err f) lines h = cc

line_front : (names : Option Names) (v before : ℕ) (t : List ℕ) (ps : List (List ℕ)) (line : Line) (ls : List Line)
    → IsCommandOf names v t line
    → IsTextFrom names v (before + line_count (limits_of names) line) ps ls
    → join_with_byte 10 (t ∷ ps) ≡ t ++ 10 ∷ join_with_byte 10 ps
    → IsTextFrom names v before (t ∷ ps) (line ∷ ls)
line_front names v before t ps line ls o r e = record {
  text = e ∙ ap (λ x. x ++ 10 ∷ join_with_byte 10 ps) o.0 ∙ ap (λ x. line_text line ++ 10 ∷ x) r.text
      ∙ sym (append_assoc (line_text line) (10 ∷ lines_text ls) end_text);
  fit = record {
    lines_are = (o.1.0, r.fit.lines_are);
    within = (o.1.1, r.fit.within);
    fit = (o.1.2, r.fit.fit);
    listed = (o.1.3, r.fit.listed);
    room = (let g = r.fit.room in omega arith);
  };
}

line_goes : (names : Option Names) (v n before : ℕ) (t next : List ℕ) (more : List (List ℕ)) (line : Line)
    (lines : List Line) → IsCommandOf names v t line
    → ((c : ℕ) (ls : List Line) → c ≤ (limits_of names).commands → lines_in names v (n + 1) c (next ∷ more) ≡ Ok ls
    → IsTextFrom names v c (next ∷ more) ls)
    → cond (nat_le (before + line_count (limits_of names) line) (limits_of names).commands)
    (with_line line (lines_in names v (n + 1) (before + line_count (limits_of names) line) (next ∷ more)))
    (fault TooLong n) ≡ Ok lines
    → IsTextFrom names v before (t ∷ (next ∷ more)) lines
line_goes names v n before t next more line lines o rec h =
    let lim = limits_of names in
    let now : ℕ = before + line_count (limits_of names) line in
    let a = limit (nat_le now lim.commands)
    (with_line line (lines_in names v (n + 1) now (next ∷ more))) n lines h in
    let f = line_is_first line (lines_in names v (n + 1) now (next ∷ more)) lines a.1 in
    subst (IsTextFrom names v before (t ∷ (next ∷ more))) f.1.1
    (line_front names v before t (next ∷ more) line f.0 o
    (rec now f.0 (from_most now lim.commands a.0) f.1.0) refl)

line_by : (names : Option Names) (v n before : ℕ) (t next : List ℕ) (more : List (List ℕ)) (r : Result Line ParseCause)
    (lines : List Line) → command_in names v (parts 32 t) ≡ r
    → ((c : ℕ) (ls : List Line) → c ≤ (limits_of names).commands → lines_in names v (n + 1) c (next ∷ more) ≡ Ok ls
    → IsTextFrom names v c (next ∷ more) ls)
    → line_then (limits_of names) n before r (λ c. lines_in names v (n + 1) c (next ∷ more)) ≡ Ok lines
    → IsTextFrom names v before (t ∷ (next ∷ more)) lines
line_by names v n before t next more (Err c) lines e rec h = cc
line_by names v n before t next more (Ok line) lines e rec h =
    line_goes names v n before t next more line lines (command_back names v t line e) rec h

by_end : (ends : Bool) (names : Option Names) (v n before : ℕ) (t next : List ℕ) (more : List (List ℕ))
    (lines : List Line) → before ≤ (limits_of names).commands → (ends ≡ true → t ≡ codes "end")
    → ((c : ℕ) (ls : List Line) → c ≤ (limits_of names).commands → lines_in names v (n + 1) c (next ∷ more) ≡ Ok ls
    → IsTextFrom names v c (next ∷ more) ls)
    → cond ends (parse_end (n + 1) (next ∷ more))
    (line_then (limits_of names) n before (command_in names v (parts 32 t))
    (λ c. lines_in names v (n + 1) c (next ∷ more))) ≡ Ok lines
    → IsTextFrom names v before (t ∷ (next ∷ more)) lines
by_end true names v n before t next more lines room is rec h =
    end_back names v (n + 1) before t next more lines room (is refl) h
by_end false names v n before t next more lines room is rec h =
    line_by names v n before t next more (command_in names v (parts 32 t)) lines refl rec h

lines_back : (names : Option Names) (v n before : ℕ) (ps : List (List ℕ)) (lines : List Line)
    → before ≤ (limits_of names).commands → lines_in names v n before ps ≡ Ok lines → IsTextFrom names v before ps lines
lines_back names v n before [] lines room h = cc
lines_back names v n before (t ∷ []) lines room h = cc
lines_back names v n before (t ∷ (next ∷ more)) lines room h =
    by_end (is_text (codes "end") t) names v n before t next more lines room (same_text t (codes "end"))
    (λ c ls r e. lines_back names v (n + 1) c (next ∷ more) ls r e) h

-- ---- headers

-- the texts of the headers
header_by : (a b c : Bool) (t : List ℕ) (v : ℕ) → (a ≡ true → t ≡ header_text 1) → (b ≡ true → t ≡ header_text 2)
    → (c ≡ true → t ≡ header_text 3) → cond a (Some 1) (cond b (Some 2) (cond c (Some 3) None)) ≡ Some v
    → (t ≡ header_text v) × IsVersion v
header_by true b c t v f g k h = let e : 1 ≡ v = cc in (f refl ∙ ap header_text e, (omega arith, omega arith))
header_by false true c t v f g k h = let e : 2 ≡ v = cc in (g refl ∙ ap header_text e, (omega arith, omega arith))
header_by false false true t v f g k h = let e : 3 ≡ v = cc in (k refl ∙ ap header_text e, (omega arith, omega arith))
header_by false false false t v f g k h = cc

header_back : (t : List ℕ) (v : ℕ) → version_in t ≡ Some v → (t ≡ header_text v) × IsVersion v
header_back t v h =
    header_by (is_text (codes "reshard-plan 1") t) (is_text (codes "reshard-plan 2") t)
    (is_text (codes "reshard-plan 3") t) t v
    (λ e. same_text t (codes "reshard-plan 1") e ∙ sym (header_is 1 (omega arith)))
    (λ e. same_text t (codes "reshard-plan 2") e ∙ sym (header_is 2 (omega arith)))
    (λ e. same_text t (codes "reshard-plan 3") e ∙ sym (header_is 3 (omega arith))) h

-- a first line with which the nodes are listed
abbrev IsListing : List ℕ → ℕ → Type 0
IsListing t v = ((names : Names) → t ≡ header_text (text_version v (Some names))) × IsVersion v × (v ≢ 2)

listing_by : (a b : Bool) (t : List ℕ) (v : ℕ) → (a ≡ true → t ≡ header_text 4) → (b ≡ true → t ≡ header_text 5)
    → cond a (Some 1) (cond b (Some 3) None) ≡ Some v → IsListing t v
listing_by true b t v f g h =
    let e : 1 ≡ v = cc in
    subst (IsListing t) e ((λ names. f refl), (omega arith, omega arith), λ is. omega (arith, is))
listing_by false true t v f g h =
    let e : 3 ≡ v = cc in
    subst (IsListing t) e ((λ names. g refl), (omega arith, omega arith), λ is. omega (arith, is))
listing_by false false t v f g h = cc

listing_back : (t : List ℕ) (v : ℕ) → listing_version_in t ≡ Some v → IsListing t v
listing_back t v h =
    listing_by (is_text (codes "reshard-plan 4") t) (is_text (codes "reshard-plan 5") t) t v
    (λ e. same_text t (codes "reshard-plan 4") e ∙ sym (header_is 4 (omega arith)))
    (λ e. same_text t (codes "reshard-plan 5") e ∙ sym (header_is 5 (omega arith))) h

-- ---- plans without names

plan_back : (v : ℕ) (names : Option Names) (p : ParsedLines) (plan : PlanView) → as_plan v names p ≡ Ok plan
    → (lines : List Line) × ((p ≡ Ok lines) × (record { version = v; names = names; lines = lines } ≡ plan))
plan_back v names (Ok lines) plan h = (lines, (refl, cc))
plan_back v names (Err f) plan h = cc

-- the text is that of a plan without names
abbrev IsPlainOf : List ℕ → PlanView → Type 0
IsPlainOf t plan = (t ≡ plan_text plan) × IsPlan plan × (plan.names ≡ None)

headed_back : (v : ℕ) (t next : List ℕ) (more : List (List ℕ)) (lines : List Line) → (t ≡ header_text v) × IsVersion v
    → IsTextFrom None v 0 (next ∷ more) lines
    → IsPlainOf (join_with_byte 10 (t ∷ (next ∷ more))) (record { version = v; names = None; lines = lines })
headed_back v t next more lines is r = (
  ap (λ x. x ++ 10 ∷ join_with_byte 10 (next ∷ more)) is.0 ∙ ap (λ x. header_text v ++ 10 ∷ x) r.text
      ∙ sym (append_assoc (header_text v) (10 ∷ []) (lines_text lines ++ end_text)),
  (is.1, tt, (r.fit.lines_are, (let g = r.fit.room in omega arith), r.fit.within), r.fit.fit),
  refl,
)

after_back : (o : Option ℕ) (t next : List ℕ) (more : List (List ℕ)) (plan : PlanView) → version_in t ≡ o
    → plan_after o (next ∷ more) ≡ Ok plan → IsPlainOf (join_with_byte 10 (t ∷ (next ∷ more))) plan
after_back None t next more plan is h = cc
after_back (Some v) t next more plan is h =
    let e = plan_back v None (lines_in None v 2 0 (next ∷ more)) plan h in
    subst (IsPlainOf (join_with_byte 10 (t ∷ (next ∷ more)))) e.1.1
    (headed_back v t next more e.0 (header_back t v is) (lines_back None v 2 0 (next ∷ more) e.0 (omega arith) e.1.0))

parts_back : (ps : List (List ℕ)) (plan : PlanView) → plan_in_lines ps ≡ Ok plan
    → IsPlainOf (join_with_byte 10 ps) plan
parts_back [] plan h = cc
parts_back (t ∷ []) plan h = cc
parts_back (t ∷ (next ∷ more)) plan h = after_back (version_in t) t next more plan refl h

pub read_is_written : (t : List ℕ) (plan : PlanView) → plan_of_text t ≡ Ok plan
    → (t ≡ plan_text plan) × IsPlan plan × (plan.names ≡ None)
read_is_written t plan h =
    subst (λ x. IsPlainOf x plan) (join_with_byte-slice_split 10 t) (parts_back (parts 10 t) plan h)

pub one_text : PlansHaveOneText
one_text t plan = (
  read_is_written t plan,
  λ h. let is : t ≡ plan_text plan = h.0 in ap plan_of_text is ∙ plan_read plan h.1 h.2,
)

-- ---- the lines of nodes

verb_test : (ws : List (List ℕ)) → is_of_node ws ≡ true
    → (rest : List (List ℕ)) × (ws ≡ codes "node" ∷ rest)
verb_test [] h = cc
verb_test (w ∷ ws) h = (ws, ap (λ x. x ∷ ws) (same_text w (codes "node") h))

-- the words list this node and its name behind these
abbrev IsNameOf : Names → List (List ℕ) → ℕ × List ℕ → Type 0
IsNameOf names ws p = (ws ≡ name_words p) × IsNext names p

pair_test : (a b c : Bool) (n : ℕ) (name : List ℕ) (p : ℕ × List ℕ)
    → cond a (cond b (cond c (Err SameName) (let r : Result (ℕ × List ℕ) ParseCause = Ok (n, name) in r)) (Err Order)) (Err Name)
    ≡ Ok p → (a ≡ true) × (b ≡ true) × (c ≡ false) × ((n, name) ≡ p)
pair_test true true false n name p h = (refl, refl, refl, cc)
pair_test true true true n name p h = cc
pair_test true false c n name p h = cc
pair_test false b c n name p h = cc

name_row_back : (names : Names) (node name : List ℕ) (p : ℕ × List ℕ) → name_row names node name ≡ Ok p
    → IsNameOf names (codes "node" ∷ node ∷ name ∷ []) p
name_row_back names node name p h =
    let f = there (node_among 255 node) Node (λ n. cond (is_name name)
    (cond (are_below names n) (cond (has_name names name) (Err SameName) (Ok (n, name))) (Err Order)) (Err Name)) p h in
    let g = pair_test (is_name name) (are_below names f.0) (has_name names name) f.0 name p f.1.1 in
    let is = node_back 255 node f.0 (omega arith) (omega arith) f.1.0 in
    subst (IsNameOf names (codes "node" ∷ node ∷ name ∷ [])) g.3
    (ap (λ x. codes "node" ∷ x ∷ name ∷ []) is.0, (is.1, g.1, g.0, g.2))

name_of_back : (names : Names) (ws : List (List ℕ)) (p : ℕ × List ℕ) → name_of names (codes "node" ∷ ws) ≡ Ok p
    → IsNameOf names (codes "node" ∷ ws) p
name_of_back names [] p h = cc
name_of_back names (a ∷ []) p h = cc
name_of_back names (node ∷ (name ∷ [])) p h = name_row_back names node name p h
name_of_back names (a ∷ (b ∷ (c ∷ ws))) p h = cc

name_back : (names : Names) (t : List ℕ) (p : ℕ × List ℕ) → is_of_node (parts 32 t) ≡ true
    → name_in names (parts 32 t) ≡ Ok p → (t ≡ name_text p) × IsNext names p
name_back names t p v h =
    let c = held (list_all is_word (parts 32 t)) (name_of names (parts 32 t)) p h in
    let w = verb_test (parts 32 t) v in
    let r = name_of_back names w.0 p (sym (ap (name_of names) w.1) ∙ c.1) in
    (sym (join_with_byte-slice_split 32 t) ∙ ap (join_with_byte 32) (w.1 ∙ r.0), r.1)

-- these lines, behind these names, are those of the plan's other nodes and of its commands
record IsListedFrom (v : ℕ) (before : Names) (ps : List (List ℕ)) (plan : PlanView) : Type 0 where
  names : Names
  all_are : plan.names ≡ Some (before ++ names)
  version_is : plan.version ≡ v
  next : AreNext before names
  text : join_with_byte 10 ps ≡ names_text names ++ (lines_text plan.lines ++ end_text)
  fit : FitIn (Some (before ++ names)) v 0 plan.lines

commands_from : (v n : ℕ) (before : Names) (ps : List (List ℕ)) (plan : PlanView)
    → as_plan v (Some before) (lines_in (Some before) v n 0 ps) ≡ Ok plan → IsListedFrom v before ps plan
commands_from v n before ps plan h =
    let e = plan_back v (Some before) (lines_in (Some before) v n 0 ps) plan h in
    let r = lines_back (Some before) v n 0 ps e.0 (omega arith) e.1.0 in
    let none : before ≡ before ++ [] = sym (append-nil before) in
    subst (IsListedFrom v before ps) e.1.1 (record {
      names = [];
      all_are = ap Some none;
      version_is = refl;
      next = tt;
      text = r.text;
      fit = subst (λ ns. FitIn (Some ns) v 0 e.0) none r.fit;
    })

name_front : (v : ℕ) (before : Names) (t : List ℕ) (ps : List (List ℕ)) (p : ℕ × List ℕ) (plan : PlanView)
    → (t ≡ name_text p) × IsNext before p → join_with_byte 10 (t ∷ ps) ≡ t ++ 10 ∷ join_with_byte 10 ps
    → IsListedFrom v (before ++ p ∷ []) ps plan → IsListedFrom v before (t ∷ ps) plan
name_front v before t ps p plan is e r =
    let same : (before ++ p ∷ []) ++ r.names ≡ before ++ p ∷ r.names = append_assoc before (p ∷ []) r.names in
    record {
      names = p ∷ r.names;
      all_are = r.all_are ∙ ap Some same;
      version_is = r.version_is;
      next = (is.1, r.next);
      text = e ∙ ap (λ x. x ++ 10 ∷ join_with_byte 10 ps) is.0 ∙ ap (λ x. name_text p ++ 10 ∷ x) r.text
          ∙ sym (append_assoc (name_text p) (10 ∷ names_text r.names) (lines_text plan.lines ++ end_text));
      fit = subst (λ ns. FitIn (Some ns) v 0 plan.lines) same r.fit;
    }

name_by : (v n : ℕ) (before : Names) (t next : List ℕ) (more : List (List ℕ)) (r : Result (ℕ × List ℕ) ParseCause)
    (plan : PlanView) → is_of_node (parts 32 t) ≡ true → name_in before (parts 32 t) ≡ r
    → ((p : ℕ × List ℕ) → names_in v (n + 1) (before ++ p ∷ []) (next ∷ more) ≡ Ok plan
    → IsListedFrom v (before ++ p ∷ []) (next ∷ more) plan)
    → name_then n r (λ p. names_in v (n + 1) (before ++ p ∷ []) (next ∷ more)) ≡ Ok plan
    → IsListedFrom v before (t ∷ (next ∷ more)) plan
name_by v n before t next more (Err c) plan w e rec h = cc
name_by v n before t next more (Ok p) plan w e rec h =
    name_front v before t (next ∷ more) p plan (name_back before t p w e) refl (rec p h)

names_by : (of_node : Bool) (v n : ℕ) (before : Names) (t next : List ℕ) (more : List (List ℕ)) (plan : PlanView)
    → is_of_node (parts 32 t) ≡ of_node
    → ((p : ℕ × List ℕ) → names_in v (n + 1) (before ++ p ∷ []) (next ∷ more) ≡ Ok plan
    → IsListedFrom v (before ++ p ∷ []) (next ∷ more) plan)
    → cond of_node
    (name_then n (name_in before (parts 32 t)) (λ p. names_in v (n + 1) (before ++ p ∷ []) (next ∷ more)))
    (as_plan v (Some before) (lines_in (Some before) v n 0 (t ∷ (next ∷ more)))) ≡ Ok plan
    → IsListedFrom v before (t ∷ (next ∷ more)) plan
names_by true v n before t next more plan w rec h =
    name_by v n before t next more (name_in before (parts 32 t)) plan w refl rec h
names_by false v n before t next more plan w rec h = commands_from v n before (t ∷ (next ∷ more)) plan h

names_back : (v n : ℕ) (before : Names) (ps : List (List ℕ)) (plan : PlanView) → names_in v n before ps ≡ Ok plan
    → IsListedFrom v before ps plan
names_back v n before [] plan h = cc
names_back v n before (t ∷ []) plan h = cc
names_back v n before (t ∷ (next ∷ more)) plan h =
    names_by (is_of_node (parts 32 t)) v n before t next more plan refl
    (λ p e. names_back v (n + 1) (before ++ p ∷ []) (next ∷ more) plan e) h

-- ---- plans of any version

abbrev IsAnyTextOf : List ℕ → PlanView → Type 0
IsAnyTextOf t plan = (t ≡ plan_text plan) × IsPlan plan × IsListed plan

listed_plan : (v : ℕ) (t next : List ℕ) (more : List (List ℕ)) (names : Names) (lines : List Line) → IsListing t v
    → AreNames names → join_with_byte 10 (next ∷ more) ≡ names_text names ++ (lines_text lines ++ end_text)
    → FitIn (Some names) v 0 lines
    → IsAnyTextOf (join_with_byte 10 (t ∷ (next ∷ more))) (record { version = v; names = Some names; lines = lines })
listed_plan v t next more names lines is are text r =
    let first : List ℕ = header_text (text_version v (Some names)) in (
      ap (λ x. x ++ 10 ∷ join_with_byte 10 (next ∷ more)) (is.0 names) ∙ ap (λ x. first ++ 10 ∷ x) text
          ∙ sym (append_assoc first (10 ∷ names_text names) (lines_text lines ++ end_text)),
      (is.1, (is.2, are), (r.lines_are, (let g = r.room in omega arith), r.within), r.fit),
      r.listed,
    )

listed_back : (v : ℕ) (t next : List ℕ) (more : List (List ℕ)) (plan : PlanView) → IsListing t v
    → IsListedFrom v [] (next ∷ more) plan → IsAnyTextOf (join_with_byte 10 (t ∷ (next ∷ more))) plan
listed_back v t next more plan is r =
    subst (IsAnyTextOf (join_with_byte 10 (t ∷ (next ∷ more))))
    (λ i. record { version = sym r.version_is i; names = sym r.all_are i; lines = plan.lines })
    (listed_plan v t next more r.names plan.lines is r.next r.text r.fit)

is_any : (t : List ℕ) (plan : PlanView) → IsPlainOf t plan → IsAnyTextOf t plan
is_any t plan h = (h.0, h.1, by plan.lines plan.names h.2)
  where
    by : (lines : List Line) (names : Option Names) → names ≡ None
        → AllByRecursion (λ line. are_listed names line ≡ true) lines
    by lines None e = all_listed lines
    by lines (Some names) e = cc

any_after_back : (o : Option ℕ) (t next : List ℕ) (more : List (List ℕ)) (plan : PlanView)
    → listing_version_in t ≡ o → any_plan_after o t (next ∷ more) ≡ Ok plan
    → IsAnyTextOf (join_with_byte 10 (t ∷ (next ∷ more))) plan
any_after_back None t next more plan is h = is_any _ plan (parts_back (t ∷ (next ∷ more)) plan h)
any_after_back (Some v) t next more plan is h =
    listed_back v t next more plan (listing_back t v is) (names_back v 2 [] (next ∷ more) plan h)

any_parts_back : (ps : List (List ℕ)) (plan : PlanView) → any_plan_in_lines ps ≡ Ok plan
    → IsAnyTextOf (join_with_byte 10 ps) plan
any_parts_back [] plan h = cc
any_parts_back (t ∷ []) plan h = cc
any_parts_back (t ∷ (next ∷ more)) plan h = any_after_back (listing_version_in t) t next more plan refl h

pub any_read_is_written : (t : List ℕ) (plan : PlanView) → any_plan_of_text t ≡ Ok plan
    → (t ≡ plan_text plan) × IsPlan plan × IsListed plan
any_read_is_written t plan h =
    subst (λ x. IsAnyTextOf x plan) (join_with_byte-slice_split 10 t) (any_parts_back (parts 10 t) plan h)

pub any_one_text : AnyPlansHaveOneText
any_one_text t plan = (
  any_read_is_written t plan,
  λ h. let is : t ≡ plan_text plan = h.0 in ap any_plan_of_text is ∙ any_plan_read plan h.1 h.2,
)
