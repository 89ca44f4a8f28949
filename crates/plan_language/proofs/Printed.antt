-- What is printed is read back.
use Rattle.std.proofs.Common.{◌≡◌, ◌≢◌, ℕ, zero, suc, ◌+◌, ◌<◌, ◌≤◌, Bool, true, false, cond, not, ◌&&◌, ◌||◌, ◌==◌}
use Rattle.std.proofs.Common.{List, [], ◌∷◌, ◌++◌, Option}
use Rattle.std.proofs.Common.{length, Ok, Err, Some, None, nat_eq, nat_lt, nat_le, refl, ap, ◌∙◌, sym, arith, decimal, codes}
use Rattle.std.proofs.Common.{append_assoc, append-nil}
use Rattle.std.specs.List.{list_all, join_with_byte, All, AllByRecursion}
use Rattle.std.proofs.lemmas.Bool.Decides.{nat_tests}
use Rattle.std.proofs.lemmas.Fmt.{decimal_digit, decimal_nonempty}
use Rattle.std.proofs.lemmas.List.Elements.{All-from_recursion}
use Rattle.std.proofs.lemmas.List.Splits.{slice_split_none, slice_split_at}
use Rattle.byte_texts.specs.Decimals.{is_digit, number_in}
use Rattle.key_slots.specs.Numbers.{node_among, slot_in}
use Rattle.node_names.specs.Names.{AreNext, IsNext, Names, are_below, has_name, is_name, is_name_digit}
use Rattle.plan_language.specs.declared.limits.Limits.{Limits}
use Rattle.plan_language.specs.declared.plan_command.PlanCommand.TheVariants.{Importing, Migrating, Drain, SetNode, Stable}
use Rattle.plan_language.specs.declared.setting.Setting.{Setting}
use Rattle.plan_language.specs.declared.setting.Setting.TheVariants as setting
use Rattle.plan_language.specs.declared.line.Line.{Line}
use Rattle.plan_language.specs.declared.line.Line.TheVariants.{Command, Move}
use Rattle.plan_language.specs.declared.parse_fault.ParseCause.TheVariants.{Verb, Slot, Node, Count, Range, TooLong}
use Rattle.plan_language.specs.declared.parse_fault.ParseCause.TheVariants.{Name, Order, SameName, Unlisted}
use Rattle.plan_language.specs.Limits.{few, limits_of, many}
use Rattle.plan_language.specs.Lines.{FitsVersion, IsLine, IsListed, IsPlan, IsVersion, IsWithin, are_listed, count}
use Rattle.plan_language.specs.Lines.{line_count}
use Rattle.plan_language.specs.PlanView.{PlanView}
use Rattle.plan_language.specs.Texts.{parts, node_text, slots_text, setslot_words, command_words, line_words}
use Rattle.plan_language.specs.Texts.{line_text, lines_text, header_text, plan_text, plan_after, version_in, as_plan}
use Rattle.plan_language.specs.Texts.{head_text, listing_text, name_text, name_words, names_text, text_version}
use Rattle.plan_language.specs.Texts.{is_text, if_there, and_then, setslot, route_in, slots_in, line_of_move, row_in}
use Rattle.plan_language.specs.Texts.{is_word, line_in, command_in, listed, lines_in, plan_in_lines, plan_of_text}
use Rattle.plan_language.specs.Texts.{parse_end, line_then, with_line, fault}
use Rattle.plan_language.specs.Texts.{name_in, name_row, name_then, names_in, is_of_node, begins_with_node}
use Rattle.plan_language.specs.Texts.{listing_version_in, any_plan_after, any_plan_in_lines, any_plan_of_text}
use Rattle.std.specs.Option.{option_and_then, option_map}
use Rattle.byte_texts.proofs.Numerals.{are_digits, read_number}
use Rattle.byte_texts.proofs.Parting.{parts_some}
use Rattle.key_slots.proofs.DecimalNumbers.{read_slot, read_node}
use Rattle.plan_language.proofs.Reading.{any_header, header, no_names, one_line, one_name}

-- ---- bytes above those that part

abbrev Above : ℕ → List ℕ → Type 0
Above k t = list_all (λ b. nat_lt k b) t ≡ true

both : (a b : Bool) → (a && b) ≡ true → (a ≡ true) × (b ≡ true)
both true b h = (refl, h)
both false b h = cc

joined : (a b : Bool) → a ≡ true → b ≡ true → (a && b) ≡ true
joined a b h g = ap (λ x. x && b) h ∙ g

unlike : (k byte b : ℕ) → byte ≤ k → nat_lt k b ≡ true → nat_eq b byte ≡ false
unlike k byte b h g = grind (arith, nat_tests)

lacking : (k byte : ℕ) → byte ≤ k → (t : List ℕ) → Above k t → AllByRecursion (λ b. nat_eq b byte ≡ false) t
lacking k byte h [] a = tt
lacking k byte h (b ∷ t) a =
    let s = both (nat_lt k b) (list_all (λ x. nat_lt k x) t) a in
    (unlike k byte b h s.0, lacking k byte h t s.1)

lacks : (k byte : ℕ) → byte ≤ k → (t : List ℕ) → Above k t → All (λ b. nat_eq b byte ≡ false) t
lacks k byte h t a = All-from_recursion (λ b. nat_eq b byte ≡ false) t (lacking k byte h t a)

digit_above : (k b : ℕ) → k < 48 → is_digit b ≡ true → nat_lt k b ≡ true
digit_above k b h g = let s = both (nat_le 48 b) (nat_le b 57) g in grind (arith, nat_tests)

digits_above : (k : ℕ) → k < 48 → (t : List ℕ) → list_all is_digit t ≡ true → Above k t
digits_above k h [] a = refl
digits_above k h (b ∷ t) a =
    let s = both (is_digit b) (list_all is_digit t) a in
    joined (nat_lt k b) (list_all (λ x. nat_lt k x) t) (digit_above k b h s.0) (digits_above k h t s.1)

lower_byte : (k j b : ℕ) → j ≤ k → nat_lt k b ≡ true → nat_lt j b ≡ true
lower_byte k j b h g = grind (arith, nat_tests)

decimal_above : (k n : ℕ) → k < 48 → n < 16384 → Above k (decimal n)
decimal_above k n h m = digits_above k h (decimal n) (are_digits n (omega arith))

append_above : (k : ℕ) (s t : List ℕ) → Above k s → Above k t → Above k (s ++ t)
append_above k [] t a b = b
append_above k (x ∷ s) t a b =
    let p = both (nat_lt k x) (list_all (λ y. nat_lt k y) s) a in
    joined (nat_lt k x) (list_all (λ y. nat_lt k y) (s ++ t)) p.0 (append_above k s t p.1 b)

-- ---- parts of what is joined

itself : (byte : ℕ) → nat_eq byte byte ≡ true
itself byte = grind (arith, nat_tests)

one_part : (k byte : ℕ) → byte ≤ k → (t : List ℕ) → Above k t → parts byte t ≡ t ∷ []
one_part k byte h t a = slice_split_none (λ b. nat_eq b byte) t (lacks k byte h t a)

next_part : (k byte : ℕ) → byte ≤ k → (t rest : List ℕ) → Above k t
    → parts byte (t ++ byte ∷ rest) ≡ t ∷ parts byte rest
next_part k byte h t rest a = slice_split_at (λ b. nat_eq b byte) t byte rest (lacks k byte h t a) (itself byte)

words_parted : (t : List ℕ) (words : List (List ℕ)) → AllByRecursion (Above 44) (t ∷ words)
    → parts 32 (join_with_byte 32 (t ∷ words)) ≡ t ∷ words
words_parted t [] a = one_part 44 32 (omega arith) t a.0
words_parted t (u ∷ words) a =
    next_part 44 32 (omega arith) t (join_with_byte 32 (u ∷ words)) a.0 ∙ ap (λ ws. t ∷ ws) (words_parted u words a.1)

lower : (k j : ℕ) → j ≤ k → (t : List ℕ) → Above k t → Above j t
lower k j h [] a = refl
lower k j h (b ∷ t) a =
    let s = both (nat_lt k b) (list_all (λ x. nat_lt k x) t) a in
    joined (nat_lt j b) (list_all (λ x. nat_lt j x) t) (less b s.0) (lower k j h t s.1)
  where
    less : (b : ℕ) → nat_lt k b ≡ true → nat_lt j b ≡ true
    less b g = lower_byte k j b h g

-- a line has no line feed
line_above : (words : List (List ℕ)) → AllByRecursion (Above 44) words → Above 31 (join_with_byte 32 words)
line_above [] a = refl
line_above (t ∷ []) a = lower 44 31 (omega arith) t a.0
line_above (t ∷ (u ∷ words)) a =
    append_above 31 t (32 ∷ join_with_byte 32 (u ∷ words)) (lower 44 31 (omega arith) t a.0) (line_above (u
    ∷ words) a.1)

-- ---- a line

batch_above : (b : ℕ) → b ≤ 1000 → Above 44 (decimal b)
batch_above b h = decimal_above 44 b (omega arith) (omega arith)

slots_above : (first last : ℕ) → first ≤ last → last < 16384 → Above 44 (slots_text first last)
slots_above first last o h = by (first == last)
  where
    by : (yes : Bool) → Above 44 (cond yes (decimal first) (decimal first ++ 45 ∷ decimal last))
    by true = decimal_above 44 first (omega arith) (omega arith)
    by false =
        append_above 44 (decimal first) (45 ∷ decimal last) (decimal_above 44 first (omega arith) (omega arith))
        (decimal_above 44 last (omega arith) h)

line_parted : (line : Line) → AllByRecursion (Above 44) (line_words line) → parts 32 (line_text line) ≡ line_words line
line_parted (Command (Importing slot s at)) a = words_parted _ _ a
line_parted (Command (Migrating slot t at)) a = words_parted _ _ a
line_parted (Command (SetNode slot owner at)) a = words_parted _ _ a
line_parted (Command (Stable slot at)) a = words_parted _ _ a
line_parted (Command (Drain slot s t b)) a = words_parted _ _ a
line_parted (Move first last s t b) a = words_parted _ _ a

same : (a b : ℕ) → (a == b) ≡ true → a ≡ b
same a b h = grind (arith, nat_tests)

rises : (a b : ℕ) → (a == b) ≡ false → a ≤ b → nat_lt a b ≡ true
rises a b h g = grind (arith, nat_tests)

range_read : (first last s t b : ℕ) → first ≤ last → last < 16384
    → if_there (slots_in (parts 45 (slots_text first last))) Slot (λ range. line_of_move range (s, t, b))
    ≡ Ok (Move first last s t b)
range_read first last s t b o h = by (first == last) refl
  where
    by : (yes : Bool) → (first == last) ≡ yes
        → if_there (slots_in (parts 45 (cond yes (decimal first) (decimal first ++ 45 ∷ decimal last)))) Slot
        (λ range. line_of_move range (s, t, b)) ≡ Ok (Move first last s t b)
    by true e =
        ap (λ ps. if_there (slots_in ps) Slot (λ range. line_of_move range (s, t, b)))
        (one_part 45 45 (omega arith) (decimal first) (decimal_above 45 first (omega arith) (omega arith)))
        ∙ ap (λ found. if_there (option_map (λ x. (x, x, false)) found) Slot (λ range. line_of_move range (s, t, b)))
        (read_slot first (omega arith))
        ∙ ap (λ x. Ok (Move first x s t b)) (same first last e)
    by false e =
        ap (λ ps. if_there (slots_in ps) Slot (λ range. line_of_move range (s, t, b)))
        (next_part 45 45 (omega arith) (decimal first) (decimal last)
        (decimal_above 45 first (omega arith) (omega arith))
        ∙ ap (λ ps. decimal first ∷ ps)
        (one_part 45 45 (omega arith) (decimal last) (decimal_above 45 last (omega arith) h)))
        ∙ ap (λ found. if_there (option_and_then (λ x. option_map
        (λ y. (x, y, true)) (slot_in (decimal last))) found) Slot
        (λ range. line_of_move range (s, t, b))) (read_slot first (omega arith))
        ∙ ap (λ found. if_there (option_map (λ y. (first, y, true)) found) Slot (λ range. line_of_move range (s, t, b)))
        (read_slot last h)
        ∙ ap (λ less. cond (not less) (Err Range) (Ok (Move first last s t b))) (rises first last e o)

decimal_word : (n : ℕ) → n < 16384 → is_word (decimal n) ≡ true
decimal_word n h = some (decimal n) (decimal_nonempty n (omega arith))
  where
    some : (t : List ℕ) → 0 < length t → is_word t ≡ true
    some [] g = absurd (omega arith)
    some (b ∷ t) g = refl

slots_word : (first last : ℕ) → first ≤ last → last < 16384 → is_word (slots_text first last) ≡ true
slots_word first last o h = by (first == last)
  where
    some : (t s : List ℕ) → is_word t ≡ true → is_word (t ++ s) ≡ true
    some [] s g = cc
    some (b ∷ t) s g = refl

    by : (yes : Bool) → is_word (cond yes (decimal first) (decimal first ++ 45 ∷ decimal last)) ≡ true
    by true = decimal_word first (omega arith)
    by false = some (decimal first) (45 ∷ decimal last) (decimal_word first (omega arith))

-- what is within the limits of versions 1 to 3 is within those of 4 and 5
pub within_more : (lim : Limits) → 8 ≤ lim.nodes → (line : Line) → IsWithin few line → IsWithin lim line
within_more lim h (Command (Importing slot s at)) w = (w.0, omega arith, omega arith)
within_more lim h (Command (Migrating slot t at)) w = (w.0, omega arith, omega arith)
within_more lim h (Command (SetNode slot owner at)) w = (w.0, omega arith, omega arith)
within_more lim h (Command (Stable slot at)) w = (w.0, omega arith)
within_more lim h (Command (Drain slot s t b)) w = (w.0, omega arith, omega arith)
within_more lim h (Move first last s t b) w = (w.0, omega arith, omega arith)

module _ (lim : Limits) (top : lim.nodes ≤ 255) where
  node_above : (n : ℕ) → n < lim.nodes → Above 44 (node_text n)
  node_above n h = decimal_above 44 n (omega arith) (omega arith)

  setslot_above : (slot : ℕ) (how : List ℕ) (n a : ℕ) → Above 44 how → slot < 16384 → n < lim.nodes → a < lim.nodes
      → AllByRecursion (Above 44) (setslot_words slot how n a)
  setslot_above slot how n a w h g f =
      (refl, (decimal_above 44 slot (omega arith) h, (w, (node_above n g, (refl, (node_above a f, tt))))))

  words_are_above : (line : Line) → IsLine line → IsWithin lim line → AllByRecursion (Above 44) (line_words line)
  words_are_above (Command (Importing slot s at)) h w = setslot_above slot (codes "importing") s at refl w.0 w.1 w.2
  words_are_above (Command (Migrating slot t at)) h w = setslot_above slot (codes "migrating") t at refl w.0 w.1 w.2
  words_are_above (Command (SetNode slot owner at)) h w = setslot_above slot (codes "node") owner at refl w.0 w.1 w.2
  words_are_above (Command (Stable slot at)) h w =
      (refl, (decimal_above 44 slot (omega arith) w.0, (refl, (refl, (node_above at w.1, tt)))))
  words_are_above (Command (Drain slot s t b)) h w = (
    refl,
    (
      decimal_above 44 slot (omega arith) w.0,
      (
        refl,
        (
          node_above s w.1,
          (
            refl,
            (
              node_above t w.2,
              (refl, (batch_above b h.1, tt)),
            ),
          ),
        ),
      ),
    ),
  )
  words_are_above (Move first last s t b) h w = (
    refl,
    (
      slots_above first last h.0 w.0,
      (
        refl,
        (
          node_above s w.1,
          (
            refl,
            (
              node_above t w.2,
              (refl, (batch_above b h.2, tt)),
            ),
          ),
        ),
      ),
    ),
  )

  setslot_read : (set : Setting) (slot n a : ℕ) → slot < 16384 → n < lim.nodes → a < lim.nodes
      → if_there (slot_in (decimal slot)) Slot (λ s.
      if_there (node_among lim.nodes (node_text n)) Node (λ m.
      if_there (node_among lim.nodes (node_text a)) Node (λ k. Ok (Command (setslot set s m k)))))
      ≡ Ok (Command (setslot set slot n a))
  setslot_read set slot n a h g f =
      ap (λ o. if_there o Slot (λ s.
      if_there (node_among lim.nodes (node_text n)) Node (λ m.
      if_there (node_among lim.nodes (node_text a)) Node (λ k. Ok (Command (setslot set s m k)))))) (read_slot slot h)
      ∙ ap (λ o. if_there o Node (λ m.
      if_there (node_among lim.nodes (node_text a)) Node (λ k. Ok (Command (setslot set slot m k))))) (read_node lim.nodes n top g)
      ∙ ap (λ o. if_there o Node (λ k. Ok (Command (setslot set slot n k)))) (read_node lim.nodes a top f)

  route_read : (s t b : ℕ) → s < lim.nodes → t < lim.nodes → 1 ≤ b → b ≤ 1000
      → route_in lim (node_text s) (node_text t) (decimal b) ≡ Ok (s, t, b)
  route_read s t b h g l m =
      ap (λ o. if_there o Node (λ x.
      if_there (node_among lim.nodes (node_text t)) Node (λ y. if_there (number_in 1 1000 (decimal b)) Count
      (λ z. Ok (x, y, z))))) (read_node lim.nodes s top h)
      ∙ ap (λ o. if_there o Node (λ y. if_there (number_in 1 1000 (decimal b)) Count (λ z. Ok (s, y, z)))) (read_node lim.nodes t top g)
      ∙ ap (λ o. if_there o Count (λ z. Ok (s, t, z))) (read_number 1 1000 b (omega arith) l m)

  drain_read : (v slot s t b : ℕ) → slot < 16384 → s < lim.nodes → t < lim.nodes → 1 ≤ b → b ≤ 1000
      → row_in lim v (command_words (Drain slot s t b)) ≡ Ok (Command (Drain slot s t b))
  drain_read v slot s t b h f g l m =
      ap (λ o. if_there o Slot (λ x. and_then (route_in lim (node_text s) (node_text t) (decimal b))
      (λ r. Ok (Command (Drain x r.0 r.1 r.2))))) (read_slot slot h)
      ∙ ap (λ o. and_then o (λ r. Ok (Command (Drain slot r.0 r.1 r.2)))) (route_read s t b f g l m)

  move_read : (v first last s t b : ℕ) → first ≤ last → last < 16384 → s < lim.nodes → t < lim.nodes → 1 ≤ b → b ≤ 1000
      → row_in lim v (line_words (Move first last s t b)) ≡ Ok (Move first last s t b)
  move_read v first last s t b o h f g l m =
      ap (λ route. if_there (slots_in (parts 45 (slots_text first last))) Slot (λ range. and_then route
      (λ r. line_of_move range r)))
      (route_read s t b f g l m)
      ∙ range_read first last s t b o h

  stable_read : (slot at : ℕ) → slot < 16384 → at < lim.nodes
      → row_in lim 3 (command_words (Stable slot at)) ≡ Ok (Command (Stable slot at))
  stable_read slot at h g =
      ap (λ o. if_there o Slot (λ s. if_there (node_among lim.nodes (node_text at)) Node (λ a. Ok (Command (Stable s a)))))
      (read_slot slot h)
      ∙ ap (λ o. if_there o Node (λ a. Ok (Command (Stable slot a)))) (read_node lim.nodes at top g)

  row_read : (v : ℕ) (line : Line) → IsLine line → IsWithin lim line → FitsVersion v line → row_in lim v (line_words line) ≡ Ok line
  row_read v (Command (Importing slot s at)) h w f = setslot_read setting.Importing slot s at w.0 w.1 w.2
  row_read v (Command (Migrating slot t at)) h w f = setslot_read setting.Migrating slot t at w.0 w.1 w.2
  row_read v (Command (Drain slot s t b)) h w f = drain_read v slot s t b w.0 w.1 w.2 h.0 h.1
  row_read v (Command (SetNode slot owner at)) h w f = setslot_read setting.Node slot owner at w.0 w.1 w.2
  row_read v (Command (Stable slot at)) h w f =
      ap (λ x. row_in lim x (command_words (Stable slot at))) f ∙ stable_read slot at w.0 w.1
  row_read v (Move first last s t b) h w f = move_read v first last s t b h.0 w.0 w.1 w.2 h.1 h.2

  pub are_words : (line : Line) → IsLine line → IsWithin lim line → list_all is_word (line_words line) ≡ true
  are_words (Command (Importing slot s at)) h w = ap (λ b. b && true) (decimal_word slot w.0)
  are_words (Command (Migrating slot t at)) h w = ap (λ b. b && true) (decimal_word slot w.0)
  are_words (Command (SetNode slot owner at)) h w = ap (λ b. b && true) (decimal_word slot w.0)
  are_words (Command (Stable slot at)) h w = ap (λ b. b && true) (decimal_word slot w.0)
  are_words (Command (Drain slot s t b)) h w =
      ap (λ x. x && (is_word (decimal b) && true)) (decimal_word slot w.0)
      ∙ ap (λ x. x && true) (decimal_word b (omega arith))
  are_words (Move first last s t b) h w =
      ap (λ x. x && (is_word (decimal b) && true)) (slots_word first last h.0 w.0)
      ∙ ap (λ x. x && true) (decimal_word b (omega arith))

  line_read : (v : ℕ) (line : Line) → IsLine line → IsWithin lim line → FitsVersion v line
      → line_in lim v (line_words line) ≡ Ok line
  line_read v line h w f =
      ap (λ b. cond b (row_in lim v (line_words line)) (Err Verb)) (are_words line h w) ∙ row_read v line h w f

  pub text_read : (v : ℕ) (line : Line) (t : List ℕ) → IsLine line → IsWithin lim line → FitsVersion v line
      → t ≡ line_text line → Ok line ≡ line_in lim v (parts 32 t)
  text_read v line t h w f is =
      sym (ap (λ x. line_in lim v (parts 32 x)) is ∙ ap (λ ws. line_in lim v ws) (line_parted line (words_are_above line h w))
      ∙ line_read v line h w f)

-- ---- a plan

not_end : (line : Line) → is_text (codes "end") (line_text line) ≡ false
not_end (Command (Importing slot s at)) = refl
not_end (Command (Migrating slot t at)) = refl
not_end (Command (SetNode slot owner at)) = refl
not_end (Command (Stable slot at)) = refl
not_end (Command (Drain slot s t b)) = refl
not_end (Move first last s t b) = refl

fits : (n m : ℕ) → n ≤ m → nat_le n m ≡ true
fits n m h = grind (arith, nat_tests)

pub most_nodes : (names : Option Names) → (limits_of names).nodes ≤ 255
most_nodes None = omega arith
most_nodes (Some names) = omega arith

abbrev pub end_text : List ℕ
end_text = codes "end" ++ 10 ∷ []

-- lines that may stand in a plan with these names, behind so many commands
pub record FitIn (names : Option Names) (v before : ℕ) (lines : List Line) : Type 0 where
  pub lines_are : AllByRecursion IsLine lines
  pub within : AllByRecursion (IsWithin (limits_of names)) lines
  pub fit : AllByRecursion (FitsVersion v) lines
  pub listed : AllByRecursion (λ line. are_listed names line ≡ true) lines
  pub room : before + count (limits_of names) lines ≤ (limits_of names).commands

fit_rest : (names : Option Names) (v before : ℕ) (line : Line) (lines : List Line) → FitIn names v before (line ∷ lines)
    → FitIn names v (before + line_count (limits_of names) line) lines
fit_rest names v before line lines h = record {
  lines_are = h.lines_are.1;
  within = h.within.1;
  fit = h.fit.1;
  listed = h.listed.1;
  room = (let r = h.room in omega arith);
}

fit_first : (names : Option Names) (v before : ℕ) (line : Line) (lines : List Line) → FitIn names v before (line ∷ lines)
    → before + line_count (limits_of names) line ≤ (limits_of names).commands
fit_first names v before line lines h = let r = h.room in omega arith

command_read : (names : Option Names) (v before : ℕ) (line : Line) (lines : List Line)
    → FitIn names v before (line ∷ lines) → command_in names v (line_words line) ≡ Ok line
command_read names v before line lines h =
    ap (listed names) (line_read (limits_of names) (most_nodes names) v line h.lines_are.0 h.within.0 h.fit.0)
    ∙ ap (λ b. cond b (Ok line) (Err Unlisted)) h.listed.0

lines_read : (names : Option Names) (v n before : ℕ) (lines : List Line) → FitIn names v before lines
    → lines_in names v n before (parts 10 (lines_text lines ++ end_text)) ≡ Ok lines
lines_read names v n before [] h = refl
lines_read names v n before (line ∷ lines) h =
    let lim = limits_of names in
    let above = words_are_above lim (most_nodes names) line h.lines_are.0 h.within.0 in
    let rest : List ℕ = lines_text lines ++ end_text in
    ap (λ t. lines_in names v n before (parts 10 t)) (append_assoc (line_text line) (10 ∷ lines_text lines) end_text)
    ∙ ap (λ ps. lines_in names v n before ps)
    (next_part 31 10 (omega arith) (line_text line) rest (line_above (line_words line) above))
    ∙ one_line names v n before (line_text line) (parts 10 rest) (parts_some 10 rest)
    ∙ ap (λ b. cond b (parse_end (n + 1) (parts 10 rest))
    (line_then lim n before (command_in names v (parts 32 (line_text line)))
    (λ c. lines_in names v (n + 1) c (parts 10 rest)))) (not_end line)
    ∙ ap (λ ws. line_then lim n before (command_in names v ws) (λ c. lines_in names v (n + 1) c (parts 10 rest)))
    (line_parted line above)
    ∙ ap (λ r. line_then lim n before r (λ c. lines_in names v (n + 1) c (parts 10 rest)))
    (command_read names v before line lines h)
    ∙ ap (λ b. cond b (with_line line (lines_in names v (n + 1) (before + line_count lim line) (parts 10 rest)))
    (fault TooLong n)) (fits (before + line_count lim line) lim.commands (fit_first names v before line lines h))
    ∙ ap (λ r. with_line line r)
    (lines_read names v (n + 1) (before + line_count lim line) lines (fit_rest names v before line lines h))

-- ---- the lines of nodes

name_digit_above : (b : ℕ) → is_name_digit b ≡ true → nat_lt 44 b ≡ true
name_digit_above b h = by (nat_le 48 b) (nat_le b 57) (nat_le 97 b) (nat_le b 102) refl refl h
  where
    by : (w x y z : Bool) → nat_le 48 b ≡ w → nat_le 97 b ≡ y → (w && x || y && z) ≡ true → nat_lt 44 b ≡ true
    by true x y z p q g = grind (arith, nat_tests)
    by false x true z p q g = grind (arith, nat_tests)
    by false x false z p q g = cc

name_digits_above : (t : List ℕ) → list_all is_name_digit t ≡ true → Above 44 t
name_digits_above [] h = refl
name_digits_above (b ∷ t) h =
    let s = both (is_name_digit b) (list_all is_name_digit t) h in
    joined (nat_lt 44 b) (list_all (λ x. nat_lt 44 x) t) (name_digit_above b s.0) (name_digits_above t s.1)

name_above : (t : List ℕ) → is_name t ≡ true → Above 44 t
name_above t h = name_digits_above t (both (length t == 40) (list_all is_name_digit t) h).1

name_word : (t : List ℕ) → is_name t ≡ true → is_word t ≡ true
name_word [] h = cc
name_word (b ∷ t) h = refl

name_words_above : (p : ℕ × List ℕ) → p.0 < 255 → is_name p.1 ≡ true → AllByRecursion (Above 44) (name_words p)
name_words_above p h g = (refl, (node_above many (omega arith) p.0 h, (name_above p.1 g, tt)))

name_read : (names : Names) (p : ℕ × List ℕ) → IsNext names p → name_in names (name_words p) ≡ Ok p
name_read names p h =
    ap (λ b. cond (b && true) (name_row names (node_text p.0) p.1) (Err Verb)) (name_word p.1 h.2)
    ∙ ap (λ o. if_there o Node (λ n. cond (is_name p.1)
    (cond (are_below names n) (cond (has_name names p.1) (Err SameName) (Ok (n, p.1))) (Err Order)) (Err Name)))
    (read_node 255 p.0 (omega arith) h.0)
    ∙ ap (λ b. cond b (cond (are_below names p.0) (cond (has_name names p.1) (Err SameName) (Ok (p.0, p.1))) (Err Order))
    (Err Name)) h.2
    ∙ ap (λ b. cond b (cond (has_name names p.1) (Err SameName) (Ok (p.0, p.1))) (Err Order)) h.1
    ∙ ap (λ b. cond b (Err SameName) (Ok (p.0, p.1))) h.3

-- a command is no line of a node, and neither is the end
of_no_node : (line : Line) → is_of_node (line_words line) ≡ false
of_no_node (Command (Importing slot s at)) = refl
of_no_node (Command (Migrating slot t at)) = refl
of_no_node (Command (SetNode slot owner at)) = refl
of_no_node (Command (Stable slot at)) = refl
of_no_node (Command (Drain slot s t b)) = refl
of_no_node (Move first last s t b) = refl

first_of_no_node : (t : List ℕ) (rest : List (List ℕ)) → is_of_node (parts 32 t) ≡ false
    → begins_with_node (t ∷ rest) ≡ false
first_of_no_node t [] h = refl
first_of_no_node t (next ∷ more) h = h

begins_with_none : (names : Option Names) (v before : ℕ) (lines : List Line) → FitIn names v before lines
    → begins_with_node (parts 10 (lines_text lines ++ end_text)) ≡ false
begins_with_none names v before [] h = refl
begins_with_none names v before (line ∷ lines) h =
    let above = words_are_above (limits_of names) (most_nodes names) line h.lines_are.0 h.within.0 in
    let rest : List ℕ = lines_text lines ++ end_text in
    ap (λ t. begins_with_node (parts 10 t)) (append_assoc (line_text line) (10 ∷ lines_text lines) end_text)
    ∙ ap begins_with_node (next_part 31 10 (omega arith) (line_text line) rest (line_above (line_words line) above))
    ∙ first_of_no_node (line_text line) (parts 10 rest)
    (ap is_of_node (line_parted line above) ∙ of_no_node line)

names_read : (v n : ℕ) (before names all : Names) (lines : List Line) → before ++ names ≡ all → AreNext before names
    → FitIn (Some all) v 0 lines
    → names_in v n before (parts 10 (names_text names ++ (lines_text lines ++ end_text)))
    ≡ Ok (record { version = v; names = Some all; lines = lines })
names_read v n before [] all lines e a h =
    let is : before ≡ all = sym (append-nil before) ∙ e in
    let ps : List (List ℕ) = parts 10 (lines_text lines ++ end_text) in
    ap (λ ns. names_in v n ns ps) is
    ∙ no_names v n all ps (begins_with_none (Some all) v 0 lines h)
    ∙ ap (as_plan v (Some all)) (lines_read (Some all) v n 0 lines h)
names_read v n before (p ∷ names) all lines e a h =
    let above = name_words_above p a.0.0 a.0.2 in
    let rest : List ℕ = names_text names ++ (lines_text lines ++ end_text) in
    let parted : parts 32 (name_text p) ≡ name_words p = words_parted _ _ above in
    ap (λ t. names_in v n before (parts 10 t))
    (append_assoc (name_text p) (10 ∷ names_text names) (lines_text lines ++ end_text))
    ∙ ap (λ ps. names_in v n before ps)
    (next_part 31 10 (omega arith) (name_text p) rest (line_above (name_words p) above))
    ∙ one_name v n before (name_text p) (parts 10 rest) (parts_some 10 rest) (ap is_of_node parted)
    ∙ ap (λ ws. name_then n (name_in before ws) (λ q. names_in v (n + 1) (before ++ q ∷ []) (parts 10 rest))) parted
    ∙ ap (λ r. name_then n r (λ q. names_in v (n + 1) (before ++ q ∷ []) (parts 10 rest))) (name_read before p a.0)
    ∙ names_read v (n + 1) (before ++ p ∷ []) names all lines (append_assoc before (p ∷ []) names ∙ e) a.1 h

-- ---- headers

-- what is said of 1, 2 and 3 is said of each version
each_version : (P : ℕ → Type 0) → P 1 → P 2 → P 3 → (v : ℕ) → IsVersion v → P v
each_version P one two three zero h = absurd (omega arith)
each_version P one two three (suc zero) h = one
each_version P one two three (suc (suc zero)) h = two
each_version P one two three (suc (suc (suc zero))) h = three
each_version P one two three (suc (suc (suc (suc v)))) h = absurd (omega arith)

-- and what is said of 1 and 3 of each version with names
each_listing : (P : ℕ → Type 0) → P 1 → P 3 → (v : ℕ) → IsVersion v → v ≢ 2 → P v
each_listing P one three zero h g = absurd (omega arith)
each_listing P one three (suc zero) h g = one
each_listing P one three (suc (suc zero)) h g = absurd (g refl)
each_listing P one three (suc (suc (suc zero))) h g = three
each_listing P one three (suc (suc (suc (suc v)))) h g = absurd (omega arith)

-- a version is one digit
pub header_is : (v : ℕ) → v < 10 → header_text v ≡ codes "reshard-plan " ++ (48 + v) ∷ []
header_is v h = ap (λ t. codes "reshard-plan " ++ t) (decimal_digit v h)

header_read : (v : ℕ) → IsVersion v → version_in (header_text v) ≡ Some v
header_read = each_version (λ v. version_in (header_text v) ≡ Some v)
    (ap version_in (header_is 1 (omega arith))) (ap version_in (header_is 2 (omega arith)))
    (ap version_in (header_is 3 (omega arith)))

no_listing : (v : ℕ) → IsVersion v → listing_version_in (header_text v) ≡ None
no_listing = each_version (λ v. listing_version_in (header_text v) ≡ None)
    (ap listing_version_in (header_is 1 (omega arith))) (ap listing_version_in (header_is 2 (omega arith)))
    (ap listing_version_in (header_is 3 (omega arith)))

listing_read : (names : Names) (v : ℕ) → IsVersion v → v ≢ 2
    → listing_version_in (header_text (text_version v (Some names))) ≡ Some v
listing_read names = each_listing (λ v. listing_version_in (header_text (text_version v (Some names))) ≡ Some v)
    (ap listing_version_in (header_is 4 (omega arith))) (ap listing_version_in (header_is 5 (omega arith)))

header_above : (v : ℕ) → v < 10 → Above 31 (header_text v)
header_above v h =
    ap (list_all (λ b. nat_lt 31 b)) (header_is v h) ∙ ap (λ b. b && true) (digit v)
  where
    digit : (v : ℕ) → nat_lt 31 (48 + v) ≡ true
    digit v = grind (arith, nat_tests)

below_ten : (v : ℕ) (names : Option Names) → v ≤ 3 → text_version v names < 10
below_ten v None h = omega arith
below_ten v (Some names) h = by (v == 3)
  where
    by : (b : Bool) → cond b 5 4 < 10
    by true = omega arith
    by false = omega arith

-- what stands before the lines, and then the rest
head_parted : (v : ℕ) (names : Option Names) (lines : List Line) → v ≤ 3 → (rest : List ℕ)
    → parts 10 (head_text (record { version = v; names = names; lines = lines }) ++ rest)
    ≡ header_text (text_version v names) ∷ parts 10 (listing_text names ++ rest)
head_parted v names lines h rest =
    let first : List ℕ = header_text (text_version v names) in
    ap (parts 10) (append_assoc first (10 ∷ listing_text names) rest)
    ∙ next_part 31 10 (omega arith) first (listing_text names ++ rest) (header_above (text_version v names)
    (below_ten v names h))

fit_in : (v : ℕ) (names : Option Names) (lines : List Line)
    → IsPlan (record { version = v; names = names; lines = lines })
    → IsListed (record { version = v; names = names; lines = lines }) → FitIn names v 0 lines
fit_in v names lines h g = record {
  lines_are = h.2.0;
  within = h.2.2;
  fit = h.3;
  listed = g;
  room = (let r = h.2.1 in omega arith);
}

pub all_listed : (lines : List Line) → AllByRecursion (λ line. are_listed None line ≡ true) lines
all_listed [] = tt
all_listed (line ∷ lines) = (refl, all_listed lines)

none_read : (v : ℕ) (lines : List Line) → IsPlan (record { version = v; names = None; lines = lines })
    → plan_of_text (plan_text (record { version = v; names = None; lines = lines }))
    ≡ Ok (record { version = v; names = None; lines = lines })
none_read v lines h =
    let rest : List ℕ = lines_text lines ++ end_text in
    ap plan_in_lines (head_parted v None lines h.0.1 rest)
    ∙ header (header_text v) (parts 10 rest) (parts_some 10 rest)
    ∙ ap (λ o. plan_after o (parts 10 rest)) (header_read v h.0)
    ∙ ap (as_plan v None) (lines_read None v 2 0 lines (fit_in v None lines h (all_listed lines)))

any_none_read : (v : ℕ) (lines : List Line) → IsPlan (record { version = v; names = None; lines = lines })
    → any_plan_of_text (plan_text (record { version = v; names = None; lines = lines }))
    ≡ Ok (record { version = v; names = None; lines = lines })
any_none_read v lines h =
    let rest : List ℕ = lines_text lines ++ end_text in
    ap any_plan_in_lines (head_parted v None lines h.0.1 rest)
    ∙ any_header (header_text v) (parts 10 rest) (parts_some 10 rest)
    ∙ ap (λ o. any_plan_after o (header_text v) (parts 10 rest)) (no_listing v h.0)
    ∙ ap plan_in_lines (sym (head_parted v None lines h.0.1 rest))
    ∙ none_read v lines h

some_read : (v : ℕ) (names : Names) (lines : List Line) → IsPlan (record { version = v; names = Some names; lines = lines })
    → IsListed (record { version = v; names = Some names; lines = lines })
    → any_plan_of_text (plan_text (record { version = v; names = Some names; lines = lines }))
    ≡ Ok (record { version = v; names = Some names; lines = lines })
some_read v names lines h g =
    let rest : List ℕ = lines_text lines ++ end_text in
    let first : List ℕ = header_text (text_version v (Some names)) in
    ap any_plan_in_lines (head_parted v (Some names) lines h.0.1 rest)
    ∙ any_header first (parts 10 (names_text names ++ rest)) (parts_some 10 (names_text names ++ rest))
    ∙ ap (λ o. any_plan_after o first (parts 10 (names_text names ++ rest))) (listing_read names v h.0 h.1.0)
    ∙ names_read v 2 [] names names lines refl h.1.1 (fit_in v (Some names) lines h g)

pub plan_read : (plan : PlanView) → IsPlan plan → plan.names ≡ None → plan_of_text (plan_text plan) ≡ Ok plan
plan_read plan h e = by plan.names h e
  where
    by : (names : Option Names) → IsPlan (record { version = plan.version; names = names; lines = plan.lines })
        → names ≡ None → plan_of_text (plan_text (record { version = plan.version; names = names; lines = plan.lines }))
        ≡ Ok (record { version = plan.version; names = names; lines = plan.lines })
    by None h e = none_read plan.version plan.lines h
    by (Some names) h e = cc

pub any_plan_read : (plan : PlanView) → IsPlan plan → IsListed plan → any_plan_of_text (plan_text plan) ≡ Ok plan
any_plan_read plan h g = by plan.names h g
  where
    by : (names : Option Names) → IsPlan (record { version = plan.version; names = names; lines = plan.lines })
        → IsListed (record { version = plan.version; names = names; lines = plan.lines })
        → any_plan_of_text (plan_text (record { version = plan.version; names = names; lines = plan.lines }))
        ≡ Ok (record { version = plan.version; names = names; lines = plan.lines })
    by None h g = any_none_read plan.version plan.lines h
    by (Some names) h g = some_read plan.version names plan.lines h g
