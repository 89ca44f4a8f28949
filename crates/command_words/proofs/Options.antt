-- What is found of the options of a command whose words are taken, and what is read of them.
use Rattle.std.proofs.Common.{◌≡◌, ◌∙◌, ◌||◌, ◌⊎◌, ◌≤◌, ◌<◌, ◌^◌, ℕ, refl, sym, subst, ap, ap₂, inl, inr, codes, List, []}
use Rattle.std.proofs.Common.{Option, Some, None, Bor}
use Rattle.std.specs.Prelude.{Result, Ok, false, true, not, option_map, option_and_then, unwrap_or, Bool, IfSome}
use Rattle.std.specs.Prelude.{IsSome, find, is_some, pos, slice_get}
use Rattle.std.specs.List.{AllByRecursion, slice_index_or}
use Rattle.std.specs.Str.{bytes_eq}
use Rattle.std.specs.Str.Parse.{ParsesUnsigned, digits_value, without_leading_plus}
use Rattle.std.proofs.lemmas.Slice.Eq.{bytes_eq-Decides}
use Rattle.clap.specs.Matches.{ReadsOne}
use Rattle.clap.specs.Values.{is_request, read_as}
use Rattle.clap.specs.Lexer.{without_minus}
use Rattle.clap.proofs.CallerReads.{signed_reads}
use Rattle.std.proofs.lemmas.Bool.{true≢false}
use Rattle.clap.proofs.WalkLemmas.{first_value-rows}
use Rattle.clap.specs.Words.{one_of, first_of, first_value, Row, Rule, Shape, Text, built, rows_of}
use Rattle.clap.specs.Simple.{help_rule}
use Rattle.clap.specs.Walk.{action_of, arg_by_id, nothing_held, row_text, rows_after}
use Rattle.clap.specs.Facts.{parser_of_value}
use Rattle.clap.specs.declared.parser.matches.Found.{Found}
use Rattle.clap.specs.Faults.{level_fault}
use Rattle.clap.specs.declared.builder.value_parser.Reading.TheVariants.{AsWritten, WithoutMinus}
use Rattle.clap.specs.declared.builder.value_parser.ValueParser.{ValueParser}
use Rattle.clap.specs.declared.builder.value_parser.ValueParser.TheVariants as vp
use Rattle.command_words.specs.Clusters.{AreApplyRows, is_sized}
use Rattle.command_words.specs.Forgetting.{AreForgetRows}
use Rattle.command_words.specs.Surveying.{AreSurveyRows}
use Rattle.command_words.specs.Options.{IsGiven, IsValue, MayGive, number_of}
use Rattle.command_words.specs.Planning.{AreDrainRows, AreRebalanceRows, AreReshardRows, flag_of}
use Rattle.command_words.specs.Resuming.{AreResumeRows}
use Rattle.command_words.specs.Serving.{AreServeRows}
use Rattle.command_words.specs.Showing.{AreDrawRows, AreExplainRows}
use Rattle.command_words.specs.StartKinds.{is_cluster, is_even, is_survey}
use Rattle.command_words.specs.Starts.{AreStartRows}
use Rattle.command_words.specs.declared.start_kind.StartKind.{StartKind}
use Rattle.command_words.specs.declared.start_kind.StartKind.TheVariants.{Cluster, Even, Survey as BySurvey}
use Rattle.command_words.specs.CommandLine.{reshard}
use Rattle.command_words.proofs.Walks.{Fits, IsOwn, has_some, is_counted, no_option, option_value, required_are_there}
use Rattle.command_words.proofs.Walks.{rows_fit}

-- ---- what is found of the options of each command

-- in the one form of the command line or the other
abbrev pub leaf : (kind : StartKind) → ℕ → Shape
leaf kind k = slice_index_or (built (reshard kind)).subs k (built (reshard kind)).top

abbrev rule : (kind : StartKind) → ℕ → ℕ → Rule
rule kind k i = slice_index_or (leaf kind k).rules i help_rule

module _ (rules : List Rule) where
  plain : (a : Rule) → arg_by_id rules a.id ≡ Some a → (is_request (action_of a) || has_some a) ≡ true
      → is_counted (action_of a) ≡ false → a.ignore_case ≡ false
      → IsOwn rules a
  plain a own some uncounted exact_case = record {
    own = own;
    some = some;
    uncounted = uncounted;
    exact_case =
        exact_case;
  }

verify_own : (kind : StartKind) → AllByRecursion (IsOwn (leaf kind 1).rules) (leaf kind 1).rules
verify_own kind = (
  plain _ _ refl refl refl refl,
  (
    plain _ _ refl refl refl refl,
    (
      plain _ _ refl refl refl refl,
      (
        plain _ _ refl refl refl refl,
        (plain _ _ refl refl refl refl, (plain _ _ refl refl refl refl, (plain _ _ refl refl refl refl, tt))),
      ),
    ),
  ),
)

reshard_own : (kind : StartKind) → AllByRecursion (IsOwn (leaf kind 2).rules) (leaf kind 2).rules
reshard_own kind = (
  plain _ _ refl refl refl refl,
  (
    plain _ _ refl refl refl refl,
    (
      plain _ _ refl refl refl refl,
      (
        plain _ _ refl refl refl refl,
        (
          plain _ _ refl refl refl refl,
          (
            plain _ _ refl refl refl refl,
            (
              plain _ _ refl refl refl refl,
              (
                plain _ _ refl refl refl refl,
                (plain _ _ refl refl refl refl, (plain _ _ refl refl refl refl, (plain _ _ refl refl refl refl, tt))),
              ),
            ),
          ),
        ),
      ),
    ),
  ),
)

rebalance_own : (kind : StartKind) → AllByRecursion (IsOwn (leaf kind 3).rules) (leaf kind 3).rules
rebalance_own kind = (
  plain _ _ refl refl refl refl,
  (
    plain _ _ refl refl refl refl,
    (
      plain _ _ refl refl refl refl,
      (
        plain _ _ refl refl refl refl,
        (
          plain _ _ refl refl refl refl,
          (
            plain _ _ refl refl refl refl,
            (
              plain _ _ refl refl refl refl,
              (
                plain _ _ refl refl refl refl,
                (plain _ _ refl refl refl refl, (plain _ _ refl refl refl refl, (plain _ _ refl refl refl refl, tt))),
              ),
            ),
          ),
        ),
      ),
    ),
  ),
)

serve_own : (kind : StartKind) → AllByRecursion (IsOwn (leaf kind 4).rules) (leaf kind 4).rules
serve_own kind = (
  plain _ _ refl refl refl refl,
  (
    plain _ _ refl refl refl refl,
    (
      plain _ _ refl refl refl refl,
      (
        plain _ _ refl refl refl refl,
        (
          plain _ _ refl refl refl refl,
          (
            plain _ _ refl refl refl refl,
            (
              plain _ _ refl refl refl refl,
              (plain _ _ refl refl refl refl, (plain _ _ refl refl refl refl, tt)),
            ),
          ),
        ),
      ),
    ),
  ),
)

survey_own : (kind : StartKind) → AllByRecursion (IsOwn (leaf kind 5).rules) (leaf kind 5).rules
survey_own kind = (
  plain _ _ refl refl refl refl,
  (
    plain _ _ refl refl refl refl,
    (
      plain _ _ refl refl refl refl,
      (
        plain _ _ refl refl refl refl,
        (
          plain _ _ refl refl refl refl,
          (plain _ _ refl refl refl refl, (plain _ _ refl refl refl refl, (plain _ _ refl refl refl refl, tt))),
        ),
      ),
    ),
  ),
)

apply_own : (kind : StartKind) → AllByRecursion (IsOwn (leaf kind 6).rules) (leaf kind 6).rules
apply_own kind = (
  plain _ _ refl refl refl refl,
  (
    plain _ _ refl refl refl refl,
    (
      plain _ _ refl refl refl refl,
      (
        plain _ _ refl refl refl refl,
        (
          plain _ _ refl refl refl refl,
          (
            plain _ _ refl refl refl refl,
            (
              plain _ _ refl refl refl refl,
              (
                plain _ _ refl refl refl refl,
                (
                  plain _ _ refl refl refl refl,
                  (
                    plain _ _ refl refl refl refl,
                    (plain _ _ refl refl refl refl, (plain _ _ refl refl refl refl, (plain _ _ refl refl refl refl, tt))),
                  ),
                ),
              ),
            ),
          ),
        ),
      ),
    ),
  ),
)

resume_own : (kind : StartKind) → AllByRecursion (IsOwn (leaf kind 7).rules) (leaf kind 7).rules
resume_own kind = (
  plain _ _ refl refl refl refl,
  (
    plain _ _ refl refl refl refl,
    (
      plain _ _ refl refl refl refl,
      (
        plain _ _ refl refl refl refl,
        (
          plain _ _ refl refl refl refl,
          (
            plain _ _ refl refl refl refl,
            (
              plain _ _ refl refl refl refl,
              (
                plain _ _ refl refl refl refl,
                (
                  plain _ _ refl refl refl refl,
                  (plain _ _ refl refl refl refl, (plain _ _ refl refl refl refl, (plain _ _ refl refl refl refl, tt))),
                ),
              ),
            ),
          ),
        ),
      ),
    ),
  ),
)

explain_own : (kind : StartKind) → AllByRecursion (IsOwn (leaf kind 8).rules) (leaf kind 8).rules
explain_own kind = (
  plain _ _ refl refl refl refl,
  (
    plain _ _ refl refl refl refl,
    (
      plain _ _ refl refl refl refl,
      (
        plain _ _ refl refl refl refl,
        (
          plain _ _ refl refl refl refl,
          (
            plain _ _ refl refl refl refl,
            (plain _ _ refl refl refl refl, (plain _ _ refl refl refl refl, tt)),
          ),
        ),
      ),
    ),
  ),
)

draw_own : (kind : StartKind) → AllByRecursion (IsOwn (leaf kind 9).rules) (leaf kind 9).rules
draw_own kind = (
  plain _ _ refl refl refl refl,
  (
    plain _ _ refl refl refl refl,
    (
      plain _ _ refl refl refl refl,
      (
        plain _ _ refl refl refl refl,
        (
          plain _ _ refl refl refl refl,
          (plain _ _ refl refl refl refl, (plain _ _ refl refl refl refl, (plain _ _ refl refl refl refl, tt))),
        ),
      ),
    ),
  ),
)

drain_own : (kind : StartKind) → AllByRecursion (IsOwn (leaf kind 10).rules) (leaf kind 10).rules
drain_own kind = (
  plain _ _ refl refl refl refl,
  (
    plain _ _ refl refl refl refl,
    (
      plain _ _ refl refl refl refl,
      (
        plain _ _ refl refl refl refl,
        (
          plain _ _ refl refl refl refl,
          (
            plain _ _ refl refl refl refl,
            (
              plain _ _ refl refl refl refl,
              (
                plain _ _ refl refl refl refl,
                (plain _ _ refl refl refl refl, (plain _ _ refl refl refl refl, tt)),
              ),
            ),
          ),
        ),
      ),
    ),
  ),
)

forget_own : (kind : StartKind) → AllByRecursion (IsOwn (leaf kind 11).rules) (leaf kind 11).rules
forget_own kind = (
  plain _ _ refl refl refl refl,
  (
    plain _ _ refl refl refl refl,
    (plain _ _ refl refl refl refl, (plain _ _ refl refl refl refl, (plain _ _ refl refl refl refl, tt))),
  ),
)

-- the words of the command at this place
module _ (kind : StartKind) (k : ℕ) (words : List Text) where
  abbrev found : List Row
  found = rows_after (leaf kind k).rules [] words

  abbrev FitAll : Type 0
  FitAll = AllByRecursion (Fits (leaf kind k).rules) found

  -- an option of it
  of_rule : (i : ℕ) → FitAll → arg_by_id (leaf kind k).rules (rule kind k i).id ≡ Some (rule kind k i)
      → MayGive (rule kind k i).id (parser_of_value (rule kind k i).parser) found
  of_rule i fit is = option_value (leaf kind k).rules found (rule kind k i).id (rule kind k i) fit is

  -- and one of others
  no_text : (id : Text) → FitAll → arg_by_id (leaf kind k).rules id ≡ None → first_of id found ≡ None
  no_text id fit none = ap (option_and_then (λ r. slice_get r.values 0))
      (no_option (leaf kind k).rules found id fit none)

  no_value : (id : Text) (parser : ValueParser) → FitAll → arg_by_id (leaf kind k).rules id ≡ None
      → MayGive id parser found
  no_value id parser fit none = subst (λ o. IfSome o (IsValue parser))
      (sym (no_option (leaf kind k).rules found id fit none)) tt

  no_number : (id : Text) → FitAll → arg_by_id (leaf kind k).rules id ≡ None → is_some (number_of id found) ≡ false
  no_number id fit none =
      ap (λ (o : Option Row). is_some (option_map (λ t. digits_value 10 (without_leading_plus t))
      (option_and_then row_text o)))
      (no_option (leaf kind k).rules found id fit none)

  no_sizes : FitAll → arg_by_id (leaf kind k).rules (codes "nodes") ≡ None
      → arg_by_id (leaf kind k).rules (codes "even") ≡ None
      → is_sized found ≡ false
  no_sizes fit nodes even = ap₂ ◌||◌ (no_number (codes "nodes") fit nodes) (no_number (codes "even") fit even)

-- one of them has to be there
one_of_three : (kind : StartKind) (rows : List Row) → (is_even kind ≡ true → IsGiven (codes "nodes") rows)
    → (is_cluster kind ≡ true → IsGiven (codes "cluster") rows)
    → (is_survey kind ≡ true → IsGiven (codes "survey") rows)
    → IsGiven (codes "nodes") rows ⊎ (IsGiven (codes "cluster") rows ⊎ IsGiven (codes "survey") rows)
one_of_three Even rows nodes cluster file = inl (nodes refl)
one_of_three Cluster rows nodes cluster file = inr (inl (cluster refl))
one_of_three BySurvey rows nodes cluster file = inr (inr (file refl))

module _ (kind : StartKind) (words : List Text) where
  abbrev IsTaken : ℕ → Type 0
  IsTaken k = level_fault (leaf kind k) [] nothing_held words false [] ≡ []

  abbrev rows : ℕ → List Row
  rows k = found kind k words

  pub starts_found : IsTaken 1 → AreStartRows (rows 1)
  starts_found e =
      let fit = rows_fit (leaf kind 1) [] words false [] (verify_own kind) e in
      let there = required_are_there (leaf kind 1) words refl e in
      record {
        even = of_rule kind 1 words 1 fit refl;
        nodes = of_rule kind 1 words 0 fit refl;
        cluster = of_rule kind 1 words 2 fit refl;
        survey = of_rule kind 1 words 4 fit refl;
        there = one_of_three kind (rows 1) there.0 there.1.1.0 there.1.1.1.1.0;
      }

  pub reshard_found : IsTaken 2 → AreReshardRows (rows 2)
  reshard_found e =
      let fit = rows_fit (leaf kind 2) [] words false [] (reshard_own kind) e in
      let there = required_are_there (leaf kind 2) words refl e in
      record {
        start = record {
          even = of_rule kind 2 words 1 fit refl;
          nodes = of_rule kind 2 words 0 fit refl;
          cluster = of_rule kind 2 words 2 fit refl;
          survey = of_rule kind 2 words 4 fit refl;
          there = one_of_three kind (rows 2) there.0 there.1.1.0 there.1.1.1.1.0;
        };
        from_text = of_rule kind 2 words 5 fit refl;
        from_there = there.1.1.1.1.1.0 refl;
        to_text = of_rule kind 2 words 6 fit refl;
        to_there = there.1.1.1.1.1.1.0 refl;
        slots = of_rule kind 2 words 7 fit refl;
        slots_there = there.1.1.1.1.1.1.1.0 refl;
        batch = of_rule kind 2 words 8 fit refl;
      }

  pub rebalance_found : IsTaken 3 → AreRebalanceRows (rows 3)
  rebalance_found e =
      let fit = rows_fit (leaf kind 3) [] words false [] (rebalance_own kind) e in
      let there = required_are_there (leaf kind 3) words refl e in
      record {
        start = record {
          even = of_rule kind 3 words 1 fit refl;
          nodes = of_rule kind 3 words 0 fit refl;
          cluster = of_rule kind 3 words 2 fit refl;
          survey = of_rule kind 3 words 4 fit refl;
          there = one_of_three kind (rows 3) there.0 there.1.1.0 there.1.1.1.1.0;
        };
        threshold = of_rule kind 3 words 6 fit refl;
        use_empty = of_rule kind 3 words 7 fit refl;
        batch = of_rule kind 3 words 8 fit refl;
      }

  pub serve_found : IsTaken 4 → AreServeRows (rows 4)
  serve_found e =
      let fit = rows_fit (leaf kind 4) [] words false [] (serve_own kind) e in
      let there = required_are_there (leaf kind 4) words refl e in
      record {
        sizes = record {
          even = of_rule kind 4 words 1 fit refl;
          nodes = of_rule kind 4 words 0 fit refl;
          there =
              there.0 refl;
        };
        no_cluster = no_text kind 4 words (codes "cluster") fit refl;
        no_expect = no_text kind 4 words (codes "expect") fit refl;
        no_survey = no_text kind 4 words (codes "survey") fit refl;
        base_port = of_rule kind 4 words 2 fit refl;
        workers = of_rule kind 4 words 3 fit refl;
        connections = of_rule kind 4 words 4 fit refl;
        plan = of_rule kind 4 words 5 fit refl;
        answers_clients = of_rule kind 4 words 6 fit refl;
      }

  pub survey_found : IsTaken 5 → AreSurveyRows (rows 5)
  survey_found e =
      let fit = rows_fit (leaf kind 5) [] words false [] (survey_own kind) e in
      let there = required_are_there (leaf kind 5) words refl e in
      record {
        cluster = record {
          text = of_rule kind 5 words 0 fit refl;
          there = there.0 refl;
          sizes =
              no_sizes kind 5 words fit refl refl;
        };
        slots = of_rule kind 5 words 2 fit refl;
        keys = of_rule kind 5 words 3 fit refl;
        stranded = of_rule kind 5 words 4 fit refl;
        full = of_rule kind 5 words 5 fit refl;
      }

  pub apply_found : IsTaken 6 → AreApplyRows (rows 6)
  apply_found e =
      let fit = rows_fit (leaf kind 6) [] words false [] (apply_own kind) e in
      let there = required_are_there (leaf kind 6) words refl e in
      record {
        cluster = record {
          text = of_rule kind 6 words 0 fit refl;
          there = there.0 refl;
          sizes =
              no_sizes kind 6 words fit refl refl;
        };
        timeout = of_rule kind 6 words 2 fit refl;
        keys = of_rule kind 6 words 3 fit refl;
        append = of_rule kind 6 words 5 fit refl;
        overwrite = of_rule kind 6 words 6 fit refl;
        wait_for_news = of_rule kind 6 words 8 fit refl;
      }

  pub resume_found : IsTaken 7 → AreResumeRows (rows 7)
  resume_found e =
      let fit = rows_fit (leaf kind 7) [] words false [] (resume_own kind) e in
      let there = required_are_there (leaf kind 7) words refl e in
      record {
        run = record {
          cluster = record {
            text = of_rule kind 7 words 0 fit refl;
            there = there.0 refl;
            sizes =
                no_sizes kind 7 words fit refl refl;
          };
          timeout = of_rule kind 7 words 2 fit refl;
          keys = of_rule kind 7 words 3 fit refl;
          append = no_value kind 7 words (codes "append") vp.Bool fit refl;
          overwrite = no_value kind 7 words (codes "overwrite") vp.Bool fit refl;
          wait_for_news = of_rule kind 7 words 6 fit refl;
        };
        batch = of_rule kind 7 words 8 fit refl;
      }

  pub explain_found : IsTaken 8 → AreExplainRows (rows 8)
  explain_found e =
      let fit = rows_fit (leaf kind 8) [] words false [] (explain_own kind) e in
      let there = required_are_there (leaf kind 8) words refl e in
      record {
        start = record {
          even = of_rule kind 8 words 1 fit refl;
          nodes = of_rule kind 8 words 0 fit refl;
          cluster = of_rule kind 8 words 2 fit refl;
          survey = of_rule kind 8 words 4 fit refl;
          there = one_of_three kind (rows 8) there.0 there.1.1.0 there.1.1.1.1.0;
        };
        json = of_rule kind 8 words 5 fit refl;
      }

  pub draw_found : IsTaken 9 → AreDrawRows (rows 9)
  draw_found e =
      let fit = rows_fit (leaf kind 9) [] words false [] (draw_own kind) e in
      let there = required_are_there (leaf kind 9) words refl e in
      record {
        start = record {
          even = of_rule kind 9 words 1 fit refl;
          nodes = of_rule kind 9 words 0 fit refl;
          cluster = of_rule kind 9 words 2 fit refl;
          survey = of_rule kind 9 words 4 fit refl;
          there = one_of_three kind (rows 9) there.0 there.1.1.0 there.1.1.1.1.0;
        };
        now = of_rule kind 9 words 5 fit refl;
      }

  pub drain_found : IsTaken 10 → AreDrainRows (rows 10)
  drain_found e =
      let fit = rows_fit (leaf kind 10) [] words false [] (drain_own kind) e in
      let there = required_are_there (leaf kind 10) words refl e in
      record {
        start = record {
          even = of_rule kind 10 words 1 fit refl;
          nodes = of_rule kind 10 words 0 fit refl;
          cluster = of_rule kind 10 words 2 fit refl;
          survey = of_rule kind 10 words 4 fit refl;
          there = one_of_three kind (rows 10) there.0 there.1.1.0 there.1.1.1.1.0;
        };
        from_text = of_rule kind 10 words 5 fit refl;
        from_there = there.1.1.1.1.1.0 refl;
        batch = of_rule kind 10 words 7 fit refl;
      }

  pub forget_found : IsTaken 11 → AreForgetRows (rows 11)
  forget_found e =
      let fit = rows_fit (leaf kind 11) [] words false [] (forget_own kind) e in
      let there = required_are_there (leaf kind 11) words refl e in
      record {
        node = of_rule kind 11 words 0 fit refl;
        there = there.0 refl;
        cluster = record {
          text = of_rule kind 11 words 1 fit refl;
          there = there.1.0 refl;
          sizes =
              no_sizes kind 11 words fit refl refl;
        };
      }

-- ---- what is read of an option

pub number_read : (E : Type 0) (G : Text → Result ℕ E → Type 0) (bits low high : ℕ) (rows : List Row) (option : Text)
    (result : Option ℕ)
    → (one_of option rows ≡ None → result ≡ None) → ((t : Text) → one_of option rows ≡ Some t → ReadsOne G t result)
    → ((u : Text) (x : Result ℕ E) → G u x → ParsesUnsigned bits 10 u x) → high < 2 ^ bits
    → MayGive option (vp.Signed (pos low) (pos high)) rows
    → (result ≡ number_of option rows) × IfSome result (λ n. (low ≤ n) × (n ≤ high))
number_read E G bits low high rows id result none some only fits counts =
    go (find (λ r. bytes_eq r.id id) rows) none some counts
  where
    exact : (t : Text) (r : Option ℕ) (n : ℕ) → r ≡ Some n → ReadsOne G t r
        → n ≡ digits_value 10 (without_leading_plus t)
    exact t None n e reads = cc
    exact t (Some v) n e reads =
        let is : v ≡ n = cc in
        sym is ∙ (only t (Ok v) reads).1

    go : (o : Option Row) → (option_and_then row_text o ≡ None → result ≡ None)
        → ((t : Text) → option_and_then row_text o ≡ Some t → ReadsOne G t result)
        → IfSome o (IsValue (vp.Signed (pos low) (pos high)))
        → (result ≡ option_map (λ t. digits_value 10 (without_leading_plus t)) (option_and_then row_text o))
        × IfSome result (λ n. (low ≤ n) × (n ≤ high))
    go None none some counts = rw (none refl) (refl, tt)
    go (Some r) none some counts =
        let text : row_text r ≡ Some (without_minus counts.value) =
        ap (λ how. option_map (read_as how) (slice_get r.values 0)) counts.reading
        ∙ ap (λ vs. option_map (read_as WithoutMinus) (slice_get vs 0)) counts.values in
        let reads = some (without_minus counts.value) text in
        let got = signed_reads E G bits low high counts.value result reads only fits counts.accepted in
        let number = exact (without_minus counts.value) result got.0 got.1 reads in (
          got.1 ∙ (ap (λ n. Some n) number
              ∙ sym (ap (λ o. option_map (λ t. digits_value 10 (without_leading_plus t)) o) text)),
          rw got.1
              (got.2, got.3),
        )

pub most_of : (low high : ℕ) (o : Option ℕ) → IfSome o (λ n. (low ≤ n) × (n ≤ high)) → IfSome o (λ n. n ≤ high)
most_of low high None h = tt
most_of low high (Some n) h = h.1

-- ---- the text and the flag that are read

pub first_is_there : (rows : List Row) (option : Text) → MayGive option vp.String rows → IsGiven option rows
    → IsSome (first_of option rows)
first_is_there rows option fits given = go (find (λ r. bytes_eq r.id option) rows) fits given
  where
    go : (o : Option Row) → IfSome o (IsValue vp.String) → IsSome o
        → IsSome (option_and_then (λ r. slice_get r.values 0) o)
    go None fits given = given
    go (Some r) fits given = rw fits.values refl

pub text_read : (f : Found) (option : Text) (got : Option (Bor Text)) (t : Text)
    → option_map (λ s. s.now) got ≡ first_value f option
    → option_map (λ s. s.now) got ≡ Some t → first_of option (rows_of f) ≡ Some t
text_read f option got t gives is = sym (first_value-rows f option) ∙ (sym gives ∙ is)

pub no_text_read : (f : Found) (option : Text) (got : Option (Bor Text))
    → option_map (λ s. s.now) got ≡ first_value f option
    → got ≡ None → first_of option (rows_of f) ≡ None
no_text_read f option got gives none = sym (first_value-rows f option) ∙ (sym gives ∙ ap (option_map (λ s. s.now)) none)

pub is_there : (got : Option (Bor Text)) → is_some got ≡ is_some (option_map (λ (s : Bor Text). s.now) got)
is_there None = refl
is_there (Some t) = refl

pub text_there : (f : Found) (option : Text) (got : Option (Bor Text))
    → option_map (λ s. s.now) got ≡ first_value f option
    → got ≡ None → MayGive option vp.String (rows_of f) → IsGiven option (rows_of f) → ⊥
text_there f option got gives none fits given = true≢false
    (sym (first_is_there (rows_of f) option fits given) ∙ ap is_some (no_text_read f option got gives none))

pub flag_read : (rows : List Row) (option : Text) (result : Bool) → (one_of option rows ≡ None → result ≡ false)
    → (one_of option rows ≡ Some (codes "true") → result ≡ true)
    → (one_of option rows ≡ Some (codes "false") → result ≡ false)
    → MayGive option vp.Bool rows → result ≡ flag_of option rows
flag_read rows option result none raised lowered fits =
    go (find (λ r. bytes_eq r.id option) rows) none raised lowered fits
  where
    by_text : (t : Text) (b : Bool) → bytes_eq t (codes "true") ≡ b → (b || bytes_eq t (codes "false")) ≡ true
        → (Some t ≡ Some (codes "true") → result ≡ true) → (Some t ≡ Some (codes "false") → result ≡ false)
        → result ≡ bytes_eq t (codes "true")
    by_text t true same fits raised lowered = raised (ap (λ x. Some x) ((bytes_eq-Decides t (codes "true")).0 same))
        ∙ sym same
    by_text t false same fits raised lowered = lowered (ap (λ x. Some x) ((bytes_eq-Decides t (codes "false")).0 fits))
        ∙ sym same

    go : (o : Option Row) → (option_and_then row_text o ≡ None → result ≡ false)
        → (option_and_then row_text o ≡ Some (codes "true") → result ≡ true)
        → (option_and_then row_text o ≡ Some (codes "false") → result ≡ false) → IfSome o (IsValue vp.Bool)
        → result ≡ unwrap_or (option_map (λ t. bytes_eq t (codes "true")) (option_and_then row_text o)) false
    go None none raised lowered fits = none refl
    go (Some r) none raised lowered fits =
        let text : row_text r ≡ Some fits.value =
        ap (λ how. option_map (read_as how) (slice_get r.values 0)) fits.reading
        ∙ ap (λ vs. option_map (read_as AsWritten) (slice_get vs 0)) fits.values in
        by_text fits.value (bytes_eq fits.value (codes "true")) refl fits.accepted (λ e. raised (text
        ∙ e)) (λ e. lowered (text ∙ e))
        ∙ sym (ap (λ o. unwrap_or (option_map (λ t. bytes_eq t (codes "true")) o) false) text)
