-- What a parse holds of its arguments: whatever each use of an argument keeps, the walk over the words keeps.
use Rattle.std.proofs.Common.{arith, ◌≡◌, ◌∙◌, ◌||◌, ◌++◌, ℕ, Bool, true, false, zero, suc, refl, sym, ap, subst, List}
use Rattle.std.proofs.Common.{[], ◌∷◌, Option, Some, None, if◌then◌else◌, length, drop}
use Rattle.std.specs.Prelude.{not, is_some, IsSome, IsSomeAnd, IfSome, find, fold, slice_get, ◌&&◌, ◌==◌, encode_utf8}
use Rattle.std.specs.Prelude.{nat_lt}
use Rattle.std.specs.List.{AllByRecursion, list_any}
use Rattle.std.specs.Option.{option_map_or}
use Rattle.std.specs.Str.{bytes_eq, chars}
use Rattle.std.proofs.lemmas.Bool.{ne_eqb}
use Rattle.std.proofs.lemmas.Slice.Eq.{bytes_eq-Decides}
use Rattle.clap.specs.Words.{Accepts, Kinds, Row, Rule, Shape, Text}
use Rattle.clap.specs.Values.{is_request, refused_kind}
use Rattle.clap.specs.declared.builder.value_parser.ValueParser.{ValueParser}
use Rattle.clap.specs.declared.error.kind.ErrorKind.TheVariants.{InvalidValue, TooFewValues, TooManyValues}
use Rattle.clap.specs.declared.error.kind.ErrorKind.TheVariants.{WrongNumberOfValues}
use Rattle.clap.specs.Kinds.{check_kinds, or_else, range_kinds, value_kinds, values_kinds, request_kinds}
use Rattle.clap.specs.Lexer.{long_of, short_of}
use Rattle.clap.specs.ValueTests.{accepts}
use Rattle.clap.specs.Walk.{Held, Names, Outcome, Step, Waiting, Walk, action_of, after_flag, after_step, arg_by_id}
use Rattle.clap.specs.Walk.{arg_by_index, arg_by_long, arg_by_short, at_row, attached_value, bundle_met, bundle_step}
use Rattle.clap.specs.Walk.{default_rows, done, finished, flag_met, has_row, idle, is_empty, is_pending, long_met}
use Rattle.clap.specs.Walk.{long_or_other, more_values, most_values, next, nothing_held, option, option_met}
use Rattle.clap.specs.Walk.{option_word, plain, plain_word, positional, positional_held, reacted, reading_by, refused}
use Rattle.clap.specs.Walk.{rows_after, settled, settled_rows, short_met, short_or_plain, stronger, subcommand}
use Rattle.clap.specs.Walk.{subcommand_met, subcommand_or_other, takes_several, takes_values, to_positional, trailing}
use Rattle.clap.specs.Walk.{used_as, used_by_id, value, waits, walk, walk_from, walked, walked_from, with_default}
use Rattle.clap.specs.Walk.{with_values, without, word_met}
use Rattle.clap.specs.Facts.{explicit_source, parser_of_value, unwrap_or_range}
use Rattle.clap.specs.Faults.{action_fault, bundle_step_fault, check_fault, default_fault, defaults_fault}
use Rattle.clap.specs.Faults.{flag_word_fault, flags_fault, given_default_fault, level_fault, long_fault, option_fault}
use Rattle.clap.specs.Faults.{other_fault, positional_fault, react_fault, settle_fault, short_fault, step_fault}
use Rattle.clap.specs.Faults.{stray_fault, turn_fault, use_fault, values_fault, walk_fault, word_fault}
use Rattle.clap.specs.Takes.{is_given}
use Rattle.clap.specs.declared.builder.action.ArgAction.{ArgAction}
use Rattle.clap.specs.declared.builder.action.ArgAction.TheVariants.{Set, Append, SetTrue, SetFalse, Count, Help}
use Rattle.clap.specs.declared.builder.action.ArgAction.TheVariants.{HelpShort, HelpLong, Version}
use Rattle.clap.specs.declared.parser.matches.ValueSource.{ValueSource}
use Rattle.clap.specs.declared.parser.matches.ValueSource.TheVariants.{CommandLine, DefaultValue}
use Rattle.clap.proofs.ValueTestLemmas.{accepts-Accepts}
use Rattle.command_words.specs.Options.{IsValue, MayGive}

pub neither : (xs ys : Kinds) → or_else xs ys ≡ [] → (xs ≡ []) × (ys ≡ [])
neither [] ys e = (refl, e)
neither (x ∷ xs) ys e = cc

-- ---- the walk

-- a use of the argument, where there is one, is not at fault only where it keeps this of the rows
abbrev pub KeepsBy : Bool → (List Row → Type 0) → Option Rule → Type 0
KeepsBy again P o = (values : List Text) (rows : List Row)
    → option_map_or (λ a. use_fault again a values rows) o [] ≡ [] → P rows → P (used_by_id o values rows)

module _ (s : Shape) (names : Names) (P : List Row → Type 0)
    (keeps : (test : Rule → Bool) → KeepsBy s.args_override_self P (find test s.rules)) where
  settled_keeps : (h : Held) → settle_fault s.rules s.args_override_self h ≡ [] → P h.rows → P (settled s.rules h).rows
  settled_keeps h e p = go h.pending e
    where
      go : (o : Option (Text × List Text)) → option_map_or
          (λ q. option_map_or (λ a. use_fault s.args_override_self a q.1 h.rows) (arg_by_id s.rules q.0) []) o [] ≡ []
          → P (settled_rows s.rules o h.rows)
      go None e = p
      go (Some q) e = keeps (λ a. bytes_eq a.id q.0) q.1 h.rows e p

  reacted_keeps : (a : Rule) → KeepsBy s.args_override_self P (Some a) → (values : List Text) (h : Held)
      → react_fault s.rules s.args_override_self a values h ≡ [] → P h.rows → P (reacted s.rules a values h).rows
  reacted_keeps a keep values h e p =
      let both = neither _ _ e in
      keep values (settled s.rules h).rows both.1 (settled_keeps h both.0 p)

  option_keeps : (a : Rule) → KeepsBy s.args_override_self P (Some a) → (v : Option Text) (h : Held)
      → option_fault s.rules s.args_override_self a v h ≡ [] → P h.rows → P (option_met s.rules a v h).0.rows
  option_keeps a keep (Some v) h e p = reacted_keeps a keep (v ∷ []) h e p
  option_keeps a keep None h e p = settled_keeps h e p

  long_keeps : (o : Option Rule) → KeepsBy s.args_override_self P o → (v : Option Text) (h : Held)
      → long_fault s.rules s.args_override_self o v h ≡ [] → P h.rows → P (long_met s.rules o v h).0.rows
  long_keeps None keep v h e p = p
  long_keeps (Some a) keep v h e p = go (takes_values a) v e
    where
      go : (b : Bool) (v : Option Text) → (if b then option_fault s.rules s.args_override_self a v h
          else (if is_some v then TooManyValues ∷ [] else react_fault s.rules s.args_override_self a [] h)) ≡ []
          → P (if b then option_met s.rules a v h else flag_met s.rules a v h).0.rows
      go true v e = option_keeps a keep v h e p
      go false (Some v) e = p
      go false None e = reacted_keeps a keep [] h e p

  short_keeps : (o : Option Rule) → KeepsBy s.args_override_self P o → (rest : Text) (h : Held)
      (next_fault : Held → Kinds) (onward : Held → Held × Outcome)
      → ((g : Held) → next_fault g ≡ [] → P g.rows → P (onward g).0.rows)
      → short_fault s.rules s.args_override_self o rest h next_fault ≡ [] → P h.rows
      → P (short_met s.rules o rest h onward).0.rows
  short_keeps None keep rest h next_fault onward on e p = p
  short_keeps (Some a) keep rest h next_fault onward on e p = go (takes_values a) e
    where
      go : (b : Bool) → (if b then option_fault s.rules s.args_override_self a (attached_value rest) h
          else or_else (react_fault s.rules s.args_override_self a [] h) (next_fault (reacted s.rules a [] h))) ≡ []
          → P (if b then option_met s.rules a (attached_value rest) h else onward (reacted s.rules a [] h)).0.rows
      go true e = option_keeps a keep (attached_value rest) h e p
      go false e =
          let both = neither _ _ e in
          on (reacted s.rules a [] h) both.1 (reacted_keeps a keep [] h both.0 p)

  bundle_step_keeps : (o : Option ℕ) (flags : Text) (skip : ℕ) (so_far : Outcome) (h : Held)
      (next_fault : Text → ℕ → Held → Kinds) (onward : Text → ℕ → Outcome → Held → Held × Outcome)
      → ((f : Text) (k : ℕ) (so : Outcome) (g : Held) → next_fault f k g ≡ [] → P g.rows → P (onward f k so g).0.rows)
      → bundle_step_fault s.rules s.args_override_self o flags skip h next_fault ≡ [] → P h.rows
      → P (bundle_step s.rules o flags skip so_far h onward).0.rows
  bundle_step_keeps None flags skip so_far h next_fault onward on e p = p
  bundle_step_keeps (Some x) flags zero so_far h next_fault onward on e p =
      short_keeps (arg_by_short s.rules x) (keeps _) (drop (length (encode_utf8 x)) flags) h (next_fault (drop (length (encode_utf8 x)) flags) 0)
      (onward (drop (length (encode_utf8 x)) flags) 0 done) (on (drop (length (encode_utf8 x)) flags) 0 done) e p
  bundle_step_keeps (Some x) flags (suc skip) so_far h next_fault onward on e p =
      on (drop (length (encode_utf8 x)) flags) skip so_far h e p

  bundle_keeps : (k : ℕ) (flags : Text) (skip : ℕ) (so_far : Outcome) (h : Held)
      → flags_fault s.rules s.args_override_self k flags skip h ≡ [] → P h.rows
      → P (bundle_met s.rules k flags skip so_far h).0.rows
  unfolding flags_fault bundle_met
  bundle_keeps zero flags skip so_far h e p = p
  bundle_keeps (suc k) flags skip so_far h e p =
      bundle_step_keeps (slice_get (chars flags) 0) flags skip so_far h (flags_fault s.rules s.args_override_self k) (bundle_met s.rules k) (bundle_keeps k) e p

  plain_keeps : (waiting : Waiting) (word : Text) (h : Held) → P h.rows → P (plain_word s.rules waiting word h).0.rows
  plain_keeps idle word h p = p
  plain_keeps positional word h p = p
  plain_keeps (option id) word h p = go (arg_by_id s.rules id)
    where
      go : (o : Option Rule) → P (option_word o id word h).0.rows
      go None = p
      go (Some a) = p

  after_flag_keeps : (waiting : Waiting) (word : Text) (h : Held) (outcome : Outcome) → P h.rows
      → P (after_flag s.rules waiting word h outcome).0.rows
  after_flag_keeps waiting word h done p = p
  after_flag_keeps waiting word h (waits id) p = p
  after_flag_keeps waiting word h plain p = plain_keeps waiting word h p
  after_flag_keeps waiting word h refused p = plain_keeps waiting word h p

  flags_keep : (waiting : Waiting) (word : Text) (o : Option Text) (h : Held)
      → option_map_or (λ flags. flags_fault s.rules s.args_override_self (length flags) flags h.skip (record h {
        skip =
            0;
      })) o [] ≡ [] → P h.rows
      → P (short_or_plain s.rules waiting word o h).0.rows
  flags_keep waiting word None h e p = plain_keeps waiting word h p
  flags_keep waiting word (Some flags) h e p =
      after_flag_keeps waiting word (bundle_met s.rules (length flags) flags h.skip plain (record h { skip = 0 })).0
      (bundle_met s.rules (length flags) flags h.skip plain (record h { skip = 0 })).1
      (bundle_keeps (length flags) flags h.skip plain (record h { skip = 0 }) e p)

  flag_word_keeps : (waiting : Waiting) (word : Text) (o : Option (Text × Option Text)) (h : Held)
      → flag_word_fault s.rules s.args_override_self o word h ≡ [] → P h.rows
      → P (long_or_other s.rules waiting word o h).0.rows
  flag_word_keeps waiting word None h e p = flags_keep waiting word (short_of word) h e p
  flag_word_keeps waiting word (Some q) h e p =
      after_flag_keeps waiting word (long_met s.rules (arg_by_long s.rules q.0) q.1 h).0 (long_met s.rules (arg_by_long s.rules q.0) q.1 h).1
      (long_keeps (arg_by_long s.rules q.0) (keeps _) q.1 h e p)

  other_keeps : (named : Option Text) (waiting : Waiting) (position : ℕ) (word : Text) (h : Held)
      → other_fault s named word h ≡ [] → P h.rows
      → P (subcommand_or_other s.rules named waiting position word h).0.rows
  other_keeps (Some name) waiting position word h e p = p
  other_keeps None waiting position word h e p = go (bytes_eq word (45 ∷ 45 ∷ [])) e
    where
      go : (b : Bool) → (if b then [] else flag_word_fault s.rules s.args_override_self (long_of word) word h) ≡ []
          → P (if b then (h, trailing position) else long_or_other s.rules waiting word (long_of word) h).0.rows
      go true e = p
      go false e = flag_word_keeps waiting word (long_of word) h e p

  word_keeps : (is_trailing : Bool) (waiting : Waiting) (position : ℕ) (word : Text) (h : Held)
      → word_fault s names is_trailing waiting word h ≡ [] → P h.rows
      → P (word_met s.rules names is_trailing waiting position word h).0.rows
  word_keeps true waiting position word h e p = p
  word_keeps false waiting position word h e p = other_keeps (subcommand_met names waiting word) waiting position word h
      e p

  positional_keeps : (a : Rule) (word : Text) (h : Held) → positional_fault s.rules s.args_override_self a h ≡ []
      → P h.rows
      → P (positional_held s.rules a word h).rows
  positional_keeps a word h e p = go (is_pending a h.pending && takes_several a) e
    where
      go : (b : Bool) → (if b then [] else settle_fault s.rules s.args_override_self h) ≡ []
          → P (if b then h else settled s.rules h).rows
      go true e = p
      go false e = settled_keeps h e p

  to_positional_keeps : (o : Option Rule) (word : Text) (w : Walk) (h : Held)
      → option_map_or (λ a. positional_fault s.rules s.args_override_self a h) o (stray_fault s) ≡ [] → P h.rows
      → P (to_positional s.rules o word w h).held.rows
  to_positional_keeps None word w h e p = p
  to_positional_keeps (Some a) word w h e p = positional_keeps a word h e p

  after_step_keeps : (word : Text) (w : Walk) (h : Held) (step : Step) → step_fault s w.position h step ≡ [] → P h.rows
      → P (after_step s.rules word w h step).held.rows
  after_step_keeps word w h (next waiting) e p = p
  after_step_keeps word w h (trailing position) e p = p
  after_step_keeps word w h (subcommand name) e p = p
  after_step_keeps word w h value e p = to_positional_keeps (arg_by_index s.rules w.position) word w h e p

  turn_keeps : (w : Walk) (word : Text) → turn_fault s names w word ≡ [] → P w.held.rows
      → P (walked s.rules names w word).held.rows
  unfolding walked
  turn_keeps w word e p = go w.stopped e
    where
      go : (o : Option (Text × List Text))
          → (if is_some o then [] else or_else (word_fault s names w.is_trailing w.waiting word w.held)
          (step_fault s w.position (word_met s.rules names w.is_trailing w.waiting w.position word w.held).0
          (word_met s.rules names w.is_trailing w.waiting w.position word w.held).1)) ≡ []
          → P (walked_from s.rules names o w word).held.rows
      go (Some q) e = p
      go None e =
          let both = neither _ _ e in
          after_step_keeps word w (word_met s.rules names w.is_trailing w.waiting w.position word w.held).0
          (word_met s.rules names w.is_trailing w.waiting w.position word w.held).1 both.1
          (word_keeps w.is_trailing w.waiting w.position word w.held both.0 p)

  walk_keeps : (words : List Text) (w : Walk) → walk_fault s names w words ≡ [] → P w.held.rows
      → P (fold (walked s.rules names) w words).held.rows
  unfolding walk_fault
  walk_keeps [] w e p = p
  walk_keeps (word ∷ words) w e p =
      let both = neither _ _ e in
      walk_keeps words (walked s.rules names w word) both.1 (turn_keeps w word both.0 p)

  defaults_keep : (rules : List Rule) → AllByRecursion
      (λ a. (rows : List Row) → default_fault rows a ≡ [] → P rows → P (with_default rows a)) rules
      → (rows : List Row) → defaults_fault rows rules ≡ [] → P rows → P (fold with_default rows rules)
  unfolding defaults_fault
  defaults_keep [] all rows e p = p
  defaults_keep (a ∷ rules) all rows e p =
      let both = neither _ _ e in
      defaults_keep rules all.1 (with_default rows a) both.1 (all.0 rows both.0 p)

  -- of words that are taken, what is found keeps all that
  pub found_keeps : (words : List Text) (has_subcommand : Bool) (below : Kinds)
      → AllByRecursion (λ a. (rows : List Row) → default_fault rows a ≡ [] → P rows → P (with_default rows a)) s.rules
      → level_fault s names nothing_held words has_subcommand below ≡ [] → P [] → P (rows_after s.rules names words)
  found_keeps words has_subcommand below all e p =
      let walked_well = neither _ _ e in
      let settled_well = neither _ _ (neither _ _ walked_well.1).1 in
      let defaulted_well = neither _ _ settled_well.1 in
      let held = walk_keeps words (walk_from nothing_held) walked_well.0 p in
      defaults_keep s.rules all (settled s.rules (walk s.rules names nothing_held words).held).rows defaulted_well.0
      (settled_keeps (walk s.rules names nothing_held words).held settled_well.0 held)

-- ---- the rows of the arguments that may be used

some_texts : (v : Text) (vs : List Text) → is_empty (v ∷ vs) ≡ false
some_texts v vs = ne_eqb _ _ (λ h. omega arith)

-- some value stands for each use of the argument: it takes one, or has one for a use with none
abbrev pub has_some : Rule → Bool
has_some a = nat_lt 0 (unwrap_or_range a.range).start_inclusive || not (is_empty a.missing)

abbrev pub is_counted : ArgAction → Bool
is_counted Count = true
is_counted _ = false

-- an option or a flag, and no other rule has its id
pub record IsOwn (rules : List Rule) (a : Rule) : Type 0 where
  pub own : arg_by_id rules a.id ≡ Some a
  pub some : (is_request (action_of a) || has_some a) ≡ true
  pub uncounted : is_counted (action_of a) ≡ false
  pub exact_case : a.ignore_case ≡ false

-- what is found is for a rule
abbrev pub Fits : List Rule → Row → Type 0
Fits rules r = IsSomeAnd (arg_by_id rules r.id) (λ a. IsValue (parser_of_value a.parser) r)

accepted_value : (ignore_case : Bool) (parser : ValueParser) (v : Text) (vs : List Text) → ignore_case ≡ false
    → values_kinds ignore_case parser (v ∷ vs) ≡ [] → Accepts false parser v
accepted_value ignore_case parser v vs exact e =
    let one : value_kinds false parser v ≡ [] = subst (λ (b : Bool). value_kinds b parser v ≡ []) exact
    (neither _ _ e).0 in
    go (accepts false parser v) refl one
  where
    go : (b : Bool) → accepts false parser v ≡ b → (if b then [] else refused_kind parser ∷ []) ≡ []
        → Accepts false parser v
    go true same e = accepts-Accepts false parser v same
    go false same e = cc

module _ (rules : List Rule) where
  abbrev All : List Row → Type 0
  All rows = AllByRecursion (Fits rules) rows

  all_append : (xs ys : List Row) → All xs → All ys → All (xs ++ ys)
  all_append [] ys p q = q
  all_append (x ∷ xs) ys p q = (p.0, all_append xs ys p.1 q)

  all_at_row : (id : Text) (change : Row → List Row) (missing rows : List Row)
      → ((r : Row) → Fits rules r → All (change r)) → All missing → All rows
      → All (at_row id change missing rows)
  all_at_row id change missing [] changed none p = none
  all_at_row id change missing (r ∷ rs) changed none p =
      go (bytes_eq r.id id) (all_at_row id change missing rs changed none p.1)
    where
      go : (b : Bool) → All (at_row id change missing rs)
          → All (if b then change r ++ rs else r ∷ at_row id change missing rs)
      go true rest = all_append (change r) rs (changed r p.0) p.1
      go false rest = (p.0, rest)

  -- a row with more values, and one with these alone
  more_fits : (source : ValueSource) (vs : List Text) (r : Row) → Fits rules r → All (more_values source vs r)
  more_fits source vs r p = (go (arg_by_id rules r.id) p, tt)
    where
      go : (o : Option Rule) → IsSomeAnd o (λ a. IsValue (parser_of_value a.parser) r)
          → IsSomeAnd o (λ a. IsValue (parser_of_value a.parser) (record r {
            values = r.values ++ vs;
            source =
                Some (stronger r.source source);
          }))
      go None q = absurd q
      go (Some a) q = record {
        value = q.value;
        more = q.more ++ vs;
        values = ap (λ xs. xs ++ vs) q.values;
        accepted =
            q.accepted;
        reading = q.reading;
      }

  new_fits : (a : Rule) (source : ValueSource) (v : Text) (vs : List Text) → arg_by_id rules a.id ≡ Some a
      → Accepts false (parser_of_value a.parser) v
      → All (record { id = a.id; values = v ∷ vs; count = None; source = Some source; reading = reading_by a } ∷ [])
  new_fits a source v vs own accepted = (
    subst (λ (o : Option Rule). IsSomeAnd o (λ b. IsValue (parser_of_value b.parser)
        (record { id = a.id; values = v ∷ vs; count = None; source = Some source; reading = reading_by a })))
        (sym own) (record { value = v; more = vs; values = refl; accepted = accepted; reading = refl }),
    tt,
  )

  values_fit : (a : Rule) (source : ValueSource) (v : Text) (vs : List Text) (rows : List Row)
      → arg_by_id rules a.id ≡ Some a
      → Accepts false (parser_of_value a.parser) v → All rows
      → All (with_values a.id (reading_by a) source (v ∷ vs) rows)
  values_fit a source v vs rows own accepted p =
      all_at_row a.id (more_values source (v ∷ vs)) _ rows (λ r q. more_fits source (v ∷ vs) r q) (new_fits a source v vs own accepted) p

  without_fits : (id : Text) (rows : List Row) → All rows → All (without id rows)
  without_fits id rows p = all_at_row id (λ _. []) [] rows (λ r q. tt) tt p

  use_fits : (again : Bool) (a : Rule) → IsOwn rules a → (v : Text) (vs : List Text) (rows : List Row)
      → action_fault (action_of a) again a (v ∷ vs) rows ≡ [] → All rows
      → All (used_as (action_of a) a.id (reading_by a) (v ∷ vs) rows)
  use_fits again a o v vs rows e p = go (action_of a) o.uncounted e
    where
      go : (action : ArgAction) → is_counted action ≡ false → action_fault action again a (v ∷ vs) rows ≡ []
          → All (used_as action a.id (reading_by a) (v ∷ vs) rows)
      go Set c e = values_fit a CommandLine v vs (without a.id rows) o.own
          (accepted_value a.ignore_case (parser_of_value a.parser) v vs o.exact_case (neither _ _ e).1)
          (without_fits a.id rows p)
      go SetTrue c e = values_fit a CommandLine v vs (without a.id rows) o.own
          (accepted_value a.ignore_case (parser_of_value a.parser) v vs o.exact_case (neither _ _ e).1)
          (without_fits a.id rows p)
      go SetFalse c e = values_fit a CommandLine v vs (without a.id rows) o.own
          (accepted_value a.ignore_case (parser_of_value a.parser) v vs o.exact_case (neither _ _ e).1)
          (without_fits a.id rows p)
      go Append c e = values_fit a CommandLine v vs rows o.own
          (accepted_value a.ignore_case (parser_of_value a.parser) v vs o.exact_case e) p
      go Count c e = cc
      go Help c e = p
      go HelpShort c e = p
      go HelpLong c e = p
      go Version c e = p

  -- what asks for help or for the version is at fault
  no_request : (action : ArgAction) (again : Bool) (a : Rule) (values : List Text) (rows : List Row)
      → is_request action ≡ true
      → action_fault action again a values rows ≡ [] → ⊥
  no_request Help again a values rows r e = cc
  no_request HelpShort again a values rows r e = cc
  no_request HelpLong again a values rows r e = cc
  no_request Version again a values rows r e = cc
  no_request Set again a values rows r e = cc
  no_request SetTrue again a values rows r e = cc
  no_request SetFalse again a values rows r e = cc
  no_request Append again a values rows r e = cc
  no_request Count again a values rows r e = cc

  -- a use of it has a value
  some_value : (again : Bool) (a : Rule) (rows : List Row) → IsOwn rules a → use_fault again a [] rows ≡ []
      → has_some a ≡ true
  some_value again a rows o e = go (is_request (action_of a)) refl o.some
    where
      go : (b : Bool) → is_request (action_of a) ≡ b → (b || has_some a) ≡ true → has_some a ≡ true
      go true asks some = absurd (no_request (action_of a) again a _ rows asks (neither _ _ e).1)
      go false asks some = some

  used_fits : (again : Bool) (a : Rule) → IsOwn rules a → KeepsBy again All (Some a)
  used_fits again a o (v ∷ vs) rows e p = use_fits again a o v vs rows (neither _ _ e).1 p
  used_fits again a o [] rows e p = go a.missing (some_value again a rows o e) (neither _ _ e).1
    where
      wanted : (n most : ℕ) (rest : Kinds) → (nat_lt 0 n || false) ≡ true → or_else (range_kinds n most 0) rest ≡ [] → ⊥
      wanted n most rest some e = wants (nat_lt 0 n) some (neither _ _ e).0
        where
          wants : (b : Bool) → (b || false) ≡ true
              → (if b && true then InvalidValue ∷ [] else (if n == most then (if n == 0 then [] else WrongNumberOfValues ∷ [])
              else (if nat_lt 0 n then TooFewValues ∷ [] else (if nat_lt most 0 then TooManyValues ∷ [] else [])))) ≡ []
              → ⊥
          wants true some e = cc
          wants false some e = cc

      go : (missing : List Text) → (nat_lt 0 (unwrap_or_range a.range).start_inclusive || not (is_empty missing)) ≡ true
          → action_fault (action_of a) again a missing rows ≡ []
          → All (used_as (action_of a) a.id (reading_by a) missing rows)
      go (v ∷ vs) some f = use_fits again a o v vs rows f p
      go [] some f = absurd (wanted (unwrap_or_range a.range).start_inclusive (most_values a) _ some e)

  default_fits : (a : Rule) → IsOwn rules a → (rows : List Row) → default_fault rows a ≡ [] → All rows
      → All (with_default rows a)
  default_fits a o rows e p = go (has_row a.id rows) a.defaults e
    where
      go : (b : Bool) (defaults : List Text) → (if b || is_empty defaults then [] else given_default_fault a defaults) ≡
          []
          → All (if b then rows else default_rows a.id (reading_by a) defaults rows)
      go true defaults e = p
      go false [] e = p
      go false (v ∷ vs) e = values_fit a DefaultValue v vs rows o.own
          (accepted_value a.ignore_case (parser_of_value a.parser) v vs o.exact_case
          (neither (request_kinds (action_of a)) (values_fault a (v ∷ vs))
          (subst (λ (b : Bool). (if b then [] else given_default_fault a (v ∷ vs)) ≡ []) (some_texts v vs) e)).1) p

  any_default : (some : List Rule) → AllByRecursion (IsOwn rules) some
      → AllByRecursion (λ a. (rows : List Row) → default_fault rows a ≡ [] → All rows → All (with_default rows a)) some
  any_default [] own = tt
  any_default (a ∷ rest) own = (default_fits a own.0, any_default rest own.1)

  any_use : (again : Bool) (test : Rule → Bool) (some : List Rule) → AllByRecursion (IsOwn rules) some
      → KeepsBy again All (find test some)
  any_use again test [] own = λ values rows e p. p
  any_use again test (a ∷ rest) own = go (test a) (any_use again test rest own.1)
    where
      go : (b : Bool) → KeepsBy again All (find test rest) → KeepsBy again All (if b then Some a else find test rest)
      go true rest = used_fits again a own.0
      go false rest = rest

-- each row that is found for words that are taken has a value that the parser of its rule accepts
pub rows_fit : (s : Shape) (names : Names) (words : List Text) (has_subcommand : Bool) (below : Kinds)
    → AllByRecursion (IsOwn s.rules) s.rules
    → level_fault s names nothing_held words has_subcommand below ≡ []
    → AllByRecursion (Fits s.rules) (rows_after s.rules names words)
rows_fit s names words has_subcommand below own e =
    found_keeps s names (AllByRecursion (Fits s.rules)) (λ test. any_use s.rules s.args_override_self test s.rules own)
    words has_subcommand below (any_default s.rules s.rules own) e tt

-- so what is found for an option has such a value
pub option_value : (rules : List Rule) (rows : List Row) (id : Text) (a : Rule) → AllByRecursion (Fits rules) rows
    → arg_by_id rules id ≡ Some a
    → MayGive id (parser_of_value a.parser) rows
option_value rules [] id a p is = tt
option_value rules (r ∷ rows) id a p is = go (bytes_eq r.id id) refl (option_value rules rows id a p.1 is)
  where
    go : (b : Bool) → bytes_eq r.id id ≡ b → MayGive id (parser_of_value a.parser) rows
        → IfSome (if b then Some r else find (λ r. bytes_eq r.id id) rows) (IsValue (parser_of_value a.parser))
    go true same rest =
        let rule : arg_by_id rules r.id ≡ Some a = ap (arg_by_id rules) ((bytes_eq-Decides r.id id).0 same) ∙ is in
        subst (λ (o : Option Rule). IsSomeAnd o (λ b. IsValue (parser_of_value b.parser) r)) rule p.0
    go false same rest = rest

-- and nothing is found for an id that no rule has
pub no_option : (rules : List Rule) (rows : List Row) (id : Text) → AllByRecursion (Fits rules) rows
    → arg_by_id rules id ≡ None
    → find (λ (r : Row). bytes_eq r.id id) rows ≡ None
no_option rules [] id p none = refl
no_option rules (r ∷ rows) id p none = go (bytes_eq r.id id) refl (no_option rules rows id p.1 none)
  where
    go : (b : Bool) → bytes_eq r.id id ≡ b → find (λ (r : Row). bytes_eq r.id id) rows ≡ None
        → (if b then Some r else find (λ (r : Row). bytes_eq r.id id) rows) ≡ None
    go true same rest =
        let gone : arg_by_id rules r.id ≡ None = ap (arg_by_id rules) ((bytes_eq-Decides r.id id).0 same) ∙ none in
        absurd (subst (λ (o : Option Rule). IsSomeAnd o (λ b. IsValue (parser_of_value b.parser) r)) gone p.0)
    go false same rest = rest

-- ---- the arguments that have to be there

abbrev pub IsThere : List Row → Rule → Type 0
IsThere rows a = a.required ≡ true → IsSome (find (λ r. bytes_eq r.id a.id) rows)

there : (o : Option Row) → not (option_map_or (λ r. explicit_source r.source) o false) ≡ false → IsSome o
there None e = cc
there (Some r) e = refl

all_there : (rows : List Row) (rules : List Rule) → list_any (λ a. a.required && not (is_given a.id rows)) rules ≡ false
    → AllByRecursion (IsThere rows) rules
all_there rows [] e = tt
all_there rows (a ∷ rules) e = go (list_any (λ b. b.required && not (is_given b.id rows)) rules) refl
    (all_there rows rules) e
  where
    go : (rest : Bool) → list_any (λ b. b.required && not (is_given b.id rows)) rules ≡ rest
        → (list_any (λ b. b.required && not (is_given b.id rows)) rules ≡ false → AllByRecursion (IsThere rows) rules)
        → ((a.required && not (is_given a.id rows)) || rest) ≡ false → AllByRecursion (IsThere rows) (a ∷ rules)
    go true is onward f = absurd (clash (a.required && not (is_given a.id rows)) f)
      where
        clash : (b : Bool) → (b || true) ≡ false → ⊥
        clash true e = cc
        clash false e = cc
    go false is onward f = (
      (λ required. there (find (λ r. bytes_eq r.id a.id) rows)
          (second a.required (not (is_given a.id rows)) required f)),
      onward is,
    )
      where
        second : (b c : Bool) → b ≡ true → ((b && c) || false) ≡ false → c ≡ false
        second true true r e = cc
        second true false r e = refl
        second false c r e = cc

none_wanted : (a b c : Bool) → check_kinds a b c ≡ [] → c ≡ false
none_wanted true b c e = cc
none_wanted false true c e = cc
none_wanted false false true e = cc
none_wanted false false false e = refl

well_checked : (s : Shape) (names : Names) (words : List Text) (has_subcommand : Bool) (below : Kinds)
    → level_fault s names nothing_held words has_subcommand below ≡ []
    → check_fault s (rows_after s.rules names words) has_subcommand ≡ []
well_checked s names words has_subcommand below e =
    let end : Held = (walk s.rules names nothing_held words).held in
    let settling : Kinds = settle_fault s.rules s.args_override_self end in
    let defaulting : Kinds = defaults_fault (settled s.rules end).rows s.rules in
    let checking : Kinds = check_fault s (finished s.rules end) has_subcommand in
    let walked_well = neither (walk_fault s names (walk_from nothing_held) words)
    (or_else below (or_else settling (or_else defaulting checking))) e in
    let below_well = neither below (or_else settling (or_else defaulting checking)) walked_well.1 in
    let settled_well = neither settling (or_else defaulting checking) below_well.1 in
    (neither defaulting checking settled_well.1).1

-- of words that are taken, each argument that is required is there
pub required_are_there : (s : Shape) (words : List Text) → s.subcommand_negates_reqs ≡ false
    → level_fault s [] nothing_held words false [] ≡ []
    → AllByRecursion (IsThere (rows_after s.rules [] words)) s.rules
required_are_there s words negates e =
    let checked : check_fault s (rows_after s.rules [] words) false ≡ [] = well_checked s [] words false [] e in
    all_there (rows_after s.rules [] words) s.rules (go s.subcommand_negates_reqs negates (none_wanted _ _ _ checked))
  where
    go : (b : Bool) → b ≡ false → (not (b && false) && list_any
        (λ a. a.required && not (is_given a.id (rows_after s.rules [] words))) s.rules) ≡ false
        → list_any (λ a. a.required && not (is_given a.id (rows_after s.rules [] words))) s.rules ≡ false
    go true n f = cc
    go false n f = f
