-- What the parser makes of the words of a command line.
use Rattle.std.proofs.Common.{append_assoc, ◌++◌, ◌≡◌, ◌∙◌, ◌⊎◌, ◌||◌, ℕ, Bool, true, false, zero, suc, refl, inl, inr}
use Rattle.std.proofs.Common.{sym, ap, ap₂, subst, codes, List, [], ◌∷◌, Option, Some, None, Result, Ok, Err, IfOk}
use Rattle.std.proofs.Common.{IsErr, if◌then◌else◌, length, option_map}
use Rattle.std.specs.Prelude.{decimal, slice_get, slice_index_or}
use Rattle.std.specs.Option.{option_map_or}
use Rattle.std.specs.Str.{bytes_eq, chars}
use Rattle.std.proofs.lemmas.Slice.Eq.{bytes_eq-Decides}
use Rattle.clap.specs.Words.{App, HasKind, IsAmong, Kinds, Rule, Shape, Text, built, fault_of, is_simple}
use Rattle.clap.specs.Words.{is_simple_and_free, kind_of, HasMatchesOf, Row, subcommand_of, subcommand_rows_of}
use Rattle.clap.specs.declared.parser.matches.ArgMatches.{ArgMatches}
use Rattle.clap.specs.Kinds.{or_else}
use Rattle.clap.specs.Lexer.{long_of, short_of}
use Rattle.clap.specs.Simple.{entered, names_of}
use Rattle.clap.specs.Walk.{Held, Names, Walk, bundle_met, bundle_step, idle, long_or_other, nothing_held, plain}
use Rattle.clap.specs.Walk.{rows_after, trailing, short_or_plain, subcommand_or_other, value, walk, walk_from, walked}
use Rattle.clap.specs.Faults.{bundle_fault, bundle_step_fault, entered_fault, flag_word_fault, flags_fault, long_fault}
use Rattle.clap.specs.Faults.{other_fault, short_fault, step_fault, stray_fault, turn_fault, walk_fault}
use Rattle.clap.specs.declared.error.Error.{Error}
use Rattle.clap.specs.declared.error.kind.ErrorKind.{ErrorKind}
use Rattle.clap.specs.declared.error.kind.ErrorKind.TheVariants.{DisplayHelp, DisplayVersion, OutOfMemory}
use Rattle.clap.specs.declared.error.kind.ErrorKind.TheVariants.{UnknownArgument, InvalidSubcommand}
use Rattle.clap.proofs.OnLiterals.{clap_on_literals}
use Rattle.clap.proofs.WalkLemmas.{walk_stopped}
use Rattle.command_words.proofs.Options.{apply_found, drain_found, draw_found, explain_found}
use Rattle.command_words.proofs.Options.{forget_found, rebalance_found, reshard_found, resume_found, serve_found}
use Rattle.command_words.proofs.Options.{starts_found, survey_found}
use Rattle.command_words.specs.declared.start_kind.StartKind.{StartKind}
use Rattle.command_words.specs.declared.start_kind.StartKind.TheVariants.{Even}
use Rattle.command_words.proofs.Options.{leaf as options}
use Rattle.command_words.proofs.Walks.{neither}
use Rattle.command_words.specs.Clusters.{AreApplyRows, HasApply}
use Rattle.command_words.specs.Surveying.{AreSurveyRows, HasSurvey}
use Rattle.command_words.specs.Faults.{IsAtFault, fault_text}
use Rattle.command_words.specs.Forgetting.{AreForgetRows, HasForget}
use Rattle.command_words.specs.Planning.{AreDrainRows, AreRebalanceRows, AreReshardRows, HasDrain, HasRebalance}
use Rattle.command_words.specs.Planning.{HasReshard}
use Rattle.command_words.specs.Resuming.{AreResumeRows, HasResume}
use Rattle.command_words.specs.Serving.{AreServeRows, HasServe}
use Rattle.command_words.specs.Showing.{AreDrawRows, AreExplainRows, HasDraw, HasDrawNow, HasExplain}
use Rattle.command_words.specs.Starts.{AreStartRows, HasStart}
use Rattle.command_words.specs.declared.sizes.Sizes.{Sizes}
use Rattle.command_words.specs.declared.faults.OptionFault.{OptionFault}
use Rattle.command_words.specs.declared.faults.OptionFault.TheVariants.{NoAddress, NoCluster, NoCount, NoId, NowAlone, NoLog, SurveyBeside, TwoLogStarts}
use Rattle.command_words.specs.declared.faults.OptionFault.TheVariants.{TwoStarts, Uneven}
use Rattle.command_words.specs.CommandLine.{EndsLine, IsCommand, IsFaultLine, IsMet, IsMetAtFault, IsNoOther}
use Rattle.command_words.specs.CommandLine.{HasWholeLines, command_in, start_kind, AsksFor, IsCallForHelp}
use Rattle.command_words.specs.CommandLine.{IsCallForVersion, IsRehearsal, MayBeMistaken, ReportsOf, Words, faults}
use Rattle.command_words.specs.CommandLine.{reshard}
use Rattle.command_words.specs.declared.usage.Usage.{Usage}
use Rattle.command_words.specs.declared.usage.Usage.TheVariants.{Rehearse, Verify, Reshard, Rebalance, Serve, Survey}
use Rattle.command_words.specs.declared.usage.Usage.TheVariants.{Apply, Resume, Explain, Drain, Forget, Draw, DrawNow}
use Rattle.command_words.specs.declared.usage.Usage.TheVariants.{Help, Wrong}

one_word : faults (codes "rehearse" ∷ []) ≡ []
unfolding clap_on_literals
one_word = refl

two_words : faults (codes "rehearse" ∷ codes "--" ∷ []) ≡ []
unfolding clap_on_literals
two_words = refl

pub rehearsal_is_taken : (words : Words) → IsRehearsal words → faults words ≡ []
rehearsal_is_taken words (inl e) = rw e one_word
rehearsal_is_taken words (inr e) = rw e two_words

-- ---- what is taken is a rehearsal

or_false : (b : Bool) → b || false ≡ true → b ≡ true
or_false true e = refl
or_false false e = e

-- in one of the forms of the command line
abbrev app : (kind : StartKind) → App
app kind = built (reshard kind)

abbrev faults_by : (kind : StartKind) → Words → Kinds
faults_by kind words = fault_of (reshard kind) (codes "reshard" ∷ words)

abbrev Met : Type 0
Met = Option (Text × List Row)

abbrev command_by : (kind : StartKind) → Words → Met
command_by kind words = subcommand_of (reshard kind) (codes "reshard" ∷ words)

-- what is above the subcommands is the same in each
abbrev above : App
above = app Even

abbrev names : Names
names = names_of above

-- the two flags, which ask for help and for the version
abbrev rules : List Rule
rules = above.top.rules

abbrev flag : (help version : Bool) → Option Rule
flag a b = if a then slice_get rules 0 else (if b then slice_get rules 1 else None)

abbrev with_rules : Shape → Shape
with_rules s = record s { rules = rules }

short_at_fault : (again a b : Bool) (rest : Text) (next : Held → Kinds)
    → short_fault rules again (flag a b) rest nothing_held next ≡ [] → ⊥
short_at_fault again true b rest next e = cc
short_at_fault again false true rest next e = cc
short_at_fault again false false rest next e = cc

long_at_fault : (again a b : Bool) (v : Option Text) → long_fault rules again (flag a b) v nothing_held ≡ [] → ⊥
long_at_fault again true b (Some v) e = cc
long_at_fault again true b None e = cc
long_at_fault again false true (Some v) e = cc
long_at_fault again false true None e = cc
long_at_fault again false false v e = cc

-- a bundle of flags that is not at fault has none
bundle_is_plain : (again : Bool) (flags : Text) (k : ℕ) → flags_fault rules again k flags 0 nothing_held ≡ []
    → (bundle_met rules k flags 0 plain nothing_held).1 ≡ plain
unfolding flags_fault bundle_met
bundle_is_plain again flags zero e = refl
bundle_is_plain again flags (suc k) e = go (slice_get (chars flags) 0) e
  where
    go : (o : Option ℕ) → bundle_step_fault rules again o flags 0 nothing_held (flags_fault rules again k) ≡ []
        → (bundle_step rules o flags 0 plain nothing_held (bundle_met rules k)).1 ≡ plain
    go None e = refl
    go (Some x) e = absurd (short_at_fault again _ _ _ _ e)

-- nor is a word a flag that is not at fault
flag_is_value : (again : Bool) (word : Text) → flag_word_fault rules again (long_of word) word nothing_held ≡ []
    → (long_or_other rules idle word (long_of word) nothing_held).1 ≡ value
flag_is_value again word e = by_long (long_of word) e
  where
    by_short : (o : Option Text) → option_map_or (λ flags. bundle_fault rules again flags nothing_held) o [] ≡ []
        → (short_or_plain rules idle word o nothing_held).1 ≡ value
    by_short None e = refl
    by_short (Some flags) e = rw (bundle_is_plain again flags (length flags) e) refl

    by_long : (o : Option (Text × Option Text)) → flag_word_fault rules again o word nothing_held ≡ []
        → (long_or_other rules idle word o nothing_held).1 ≡ value
    by_long None e = by_short (short_of word) e
    by_long (Some p) e = absurd (long_at_fault again _ _ p.1 e)

stray_at_fault : (s : Shape) → stray_fault s ≡ [] → ⊥
stray_at_fault s e = go s.is_leaf e
  where
    go : (b : Bool) → (if b then UnknownArgument ∷ [] else UnknownArgument ∷ InvalidSubcommand ∷ []) ≡ [] → ⊥
    go true e = cc
    go false e = cc

-- the turn of a first word that names a subcommand, or does not
abbrev turn_by : Shape → Option Text → Text → Kinds
turn_by s named word = or_else (other_fault s named word nothing_held)
    (step_fault s 1 (subcommand_or_other s.rules named idle 1 word nothing_held).0
    (subcommand_or_other s.rules named idle 1 word nothing_held).1)

other_is_end : (s : Shape) (word : Text) → turn_by (with_rules s) None word ≡ [] → word ≡ codes "--"
other_is_end s word e = go (bytes_eq word (codes "--")) refl e
  where
    go : (b : Bool) → bytes_eq word (codes "--") ≡ b → or_else
        (if b then [] else flag_word_fault rules s.args_override_self (long_of word) word nothing_held)
        (step_fault (with_rules s) 1 (if b then (nothing_held, trailing 1) else long_or_other rules idle word (long_of word) nothing_held).0 (if b then (nothing_held, trailing 1) else long_or_other rules idle word (long_of word) nothing_held).1) ≡ []
        → word ≡ codes "--"
    go true same e = (bytes_eq-Decides word (codes "--")).0 same
    go false same e =
        let both = neither _ _ e in
        let is_value = flag_is_value s.args_override_self word both.0 in
        absurd (stray_at_fault (with_rules s) (rw is_value at both.1))

-- after `--` nothing may stand
abbrev ended : Walk
ended = record (walk_from nothing_held) { is_trailing = true }

none_after : (s : Shape) (ns : Names) (words : Words) → walk_fault (with_rules s) ns ended words ≡ [] → words ≡ []
unfolding walk_fault
none_after s ns [] e = refl
none_after s ns (word ∷ rest) e = absurd (stray_at_fault (with_rules s) (neither _ _ e).0)

abbrev leaf : Shape
leaf = slice_index_or above.subs 0 above.top

leaf_words : (words : Words) → walk_fault leaf [] (walk_from nothing_held) words ≡ [] → (words ≡ [])
    ⊎ (words ≡ codes "--" ∷ [])
unfolding walk_fault walked
leaf_words [] e = inl refl
leaf_words (word ∷ rest) e =
    let both = neither _ _ e in
    let is_end = other_is_end leaf word both.0 in
    let nothing = none_after leaf [] rest (rw is_end at both.1) in
    inr (rw (is_end, nothing) refl)

-- the first word is a subcommand's name, or `--`
abbrev IsFirst : Text → Type 0
IsFirst word = (word ≡ codes "rehearse") ⊎ ((word ≡ codes "verify") ⊎ ((word ≡ codes "plan-reshard")
    ⊎ ((word ≡ codes "plan-rebalance") ⊎ ((word ≡ codes "serve") ⊎ ((word ≡ codes "survey")
    ⊎ ((word ≡ codes "apply") ⊎ ((word ≡ codes "resume") ⊎ ((word ≡ codes "explain")
    ⊎ ((word ≡ codes "draw") ⊎ ((word ≡ codes "plan-drain") ⊎ ((word ≡ codes "forget")
    ⊎ ((word ≡ codes "--")))))))))))))

answers : (name word : Text) → (bytes_eq name word || false) ≡ true → word ≡ name
answers name word is = sym ((bytes_eq-Decides name word).0 (or_false _ is))

first_word : (word : Text) → turn_fault above.top names (walk_from nothing_held) word ≡ [] → IsFirst word
first_word word e = go (bytes_eq (codes "rehearse") word || false)
    (bytes_eq (codes "verify") word || false)
    (bytes_eq (codes "plan-reshard") word || false)
    (bytes_eq (codes "plan-rebalance") word || false)
    (bytes_eq (codes "serve") word || false)
    (bytes_eq (codes "survey") word || false)
    (bytes_eq (codes "apply") word || false)
    (bytes_eq (codes "resume") word || false)
    (bytes_eq (codes "explain") word || false)
    (bytes_eq (codes "draw") word || false)
    (bytes_eq (codes "plan-drain") word || false)
    (bytes_eq (codes "forget") word || false)
    (bytes_eq (codes "help") word || false)
    refl refl refl refl refl refl refl refl refl refl refl refl e
  where
    go : (first second third fourth fifth sixth seventh eighth ninth tenth eleventh twelfth thirteenth : Bool)
        → (bytes_eq (codes "rehearse") word || false) ≡ first
        → (bytes_eq (codes "verify") word || false) ≡ second
        → (bytes_eq (codes "plan-reshard") word || false) ≡ third
        → (bytes_eq (codes "plan-rebalance") word || false) ≡ fourth
        → (bytes_eq (codes "serve") word || false) ≡ fifth
        → (bytes_eq (codes "survey") word || false) ≡ sixth
        → (bytes_eq (codes "apply") word || false) ≡ seventh
        → (bytes_eq (codes "resume") word || false) ≡ eighth
        → (bytes_eq (codes "explain") word || false) ≡ ninth
        → (bytes_eq (codes "draw") word || false) ≡ tenth
        → (bytes_eq (codes "plan-drain") word || false) ≡ eleventh
        → (bytes_eq (codes "forget") word || false) ≡ twelfth
        → turn_by above.top (option_map (λ s. s.0) (if first then slice_get names 0 else (if second then slice_get names 1 else (if third then slice_get names 2 else (if fourth then slice_get names 3 else (if fifth then slice_get names 4 else (if sixth then slice_get names 5 else (if seventh then slice_get names 6 else (if eighth then slice_get names 7 else (if ninth then slice_get names 8 else (if tenth then slice_get names 9 else (if eleventh then slice_get names 10 else (if twelfth then slice_get names 11 else (if thirteenth then slice_get names 12 else None)))))))))))))) word ≡ []
        → IsFirst word
    go true second third fourth fifth sixth seventh eighth ninth tenth eleventh twelfth thirteenth a b c d f g h i j k l m e =
        inl (answers (codes "rehearse") word a)
    go false true third fourth fifth sixth seventh eighth ninth tenth eleventh twelfth thirteenth a b c d f g h i j k l m e =
        inr (inl (answers (codes "verify") word b))
    go false false true fourth fifth sixth seventh eighth ninth tenth eleventh twelfth thirteenth a b c d f g h i j k l m e =
        inr (inr (inl (answers (codes "plan-reshard") word c)))
    go false false false true fifth sixth seventh eighth ninth tenth eleventh twelfth thirteenth a b c d f g h i j k l m e =
        inr (inr (inr (inl (answers (codes "plan-rebalance") word d))))
    go false false false false true sixth seventh eighth ninth tenth eleventh twelfth thirteenth a b c d f g h i j k l m e =
        inr (inr (inr (inr (inl (answers (codes "serve") word f)))))
    go false false false false false true seventh eighth ninth tenth eleventh twelfth thirteenth a b c d f g h i j k l m e =
        inr (inr (inr (inr (inr (inl (answers (codes "survey") word g))))))
    go false false false false false false true eighth ninth tenth eleventh twelfth thirteenth a b c d f g h i j k l m e =
        inr (inr (inr (inr (inr (inr (inl (answers (codes "apply") word h)))))))
    go false false false false false false false true ninth tenth eleventh twelfth thirteenth a b c d f g h i j k l m e =
        inr (inr (inr (inr (inr (inr (inr (inl (answers (codes "resume") word i))))))))
    go false false false false false false false false true tenth eleventh twelfth thirteenth a b c d f g h i j k l m e =
        inr (inr (inr (inr (inr (inr (inr (inr (inl (answers (codes "explain") word j)))))))))
    go false false false false false false false false false true eleventh twelfth thirteenth a b c d f g h i j k l m e =
        inr (inr (inr (inr (inr (inr (inr (inr (inr (inl (answers (codes "draw") word k))))))))))
    go false false false false false false false false false false true twelfth thirteenth a b c d f g h i j k l m e =
        inr (inr (inr (inr (inr (inr (inr (inr (inr (inr (inl (answers (codes "plan-drain") word l)))))))))))
    go false false false false false false false false false false false true thirteenth a b c d f g h i j k l m e =
        inr (inr (inr (inr (inr (inr (inr (inr (inr (inr (inr (inl (answers (codes "forget") word m))))))))))))
    go false false false false false false false false false false false false true a b c d f g h i j k l m e = cc
    go false false false false false false false false false false false false false a b c d f g h i j k l m e =
        inr (inr (inr (inr (inr (inr (inr (inr (inr (inr (inr (inr (other_is_end above.top word e))))))))))))

-- a subcommand's name leaves the words after it to the subcommand
abbrev entered_by : Text → Words → Option (Text × Words)
entered_by name rest = Some (name, rest)

abbrev Stops : Text → Type 0
Stops name = (rest : Words) → (walk rules names nothing_held (name ∷ rest)).stopped ≡ entered_by name rest

rehearse_stops : Stops (codes "rehearse")
unfolding clap_on_literals
rehearse_stops rest = sym (ap (λ (w : Walk). w.stopped)
    (walk_stopped rules names (walk_from nothing_held) (codes "rehearse") [] rest))

verify_stops : Stops (codes "verify")
unfolding clap_on_literals
verify_stops rest = sym (ap (λ (w : Walk). w.stopped)
    (walk_stopped rules names (walk_from nothing_held) (codes "verify") [] rest))

plan_reshard_stops : Stops (codes "plan-reshard")
unfolding clap_on_literals
plan_reshard_stops rest = sym (ap (λ (w : Walk). w.stopped)
    (walk_stopped rules names (walk_from nothing_held) (codes "plan-reshard") [] rest))

plan_rebalance_stops : Stops (codes "plan-rebalance")
unfolding clap_on_literals
plan_rebalance_stops rest = sym (ap (λ (w : Walk). w.stopped)
    (walk_stopped rules names (walk_from nothing_held) (codes "plan-rebalance") [] rest))

serve_stops : Stops (codes "serve")
unfolding clap_on_literals
serve_stops rest = sym (ap (λ (w : Walk). w.stopped)
    (walk_stopped rules names (walk_from nothing_held) (codes "serve") [] rest))

survey_stops : Stops (codes "survey")
unfolding clap_on_literals
survey_stops rest = sym (ap (λ (w : Walk). w.stopped)
    (walk_stopped rules names (walk_from nothing_held) (codes "survey") [] rest))

apply_stops : Stops (codes "apply")
unfolding clap_on_literals
apply_stops rest = sym (ap (λ (w : Walk). w.stopped)
    (walk_stopped rules names (walk_from nothing_held) (codes "apply") [] rest))

resume_stops : Stops (codes "resume")
unfolding clap_on_literals
resume_stops rest = sym (ap (λ (w : Walk). w.stopped)
    (walk_stopped rules names (walk_from nothing_held) (codes "resume") [] rest))

explain_stops : Stops (codes "explain")
unfolding clap_on_literals
explain_stops rest = sym (ap (λ (w : Walk). w.stopped)
    (walk_stopped rules names (walk_from nothing_held) (codes "explain") [] rest))

draw_stops : Stops (codes "draw")
unfolding clap_on_literals
draw_stops rest = sym (ap (λ (w : Walk). w.stopped)
    (walk_stopped rules names (walk_from nothing_held) (codes "draw") [] rest))

drain_stops : Stops (codes "plan-drain")
unfolding clap_on_literals
drain_stops rest = sym (ap (λ (w : Walk). w.stopped)
    (walk_stopped rules names (walk_from nothing_held) (codes "plan-drain") [] rest))

forget_stops : Stops (codes "forget")
unfolding clap_on_literals
forget_stops rest = sym (ap (λ (w : Walk). w.stopped)
    (walk_stopped rules names (walk_from nothing_held) (codes "forget") [] rest))

module _ (kind : StartKind) where
  after_rehearse : (rest : Words) → faults_by kind (codes "rehearse" ∷ rest) ≡ [] → (rest ≡ [])
      ⊎ (rest ≡ codes "--" ∷ [])
  after_rehearse rest e =
      let below : entered_fault (app kind) (walk rules names nothing_held (codes "rehearse" ∷ rest)).stopped ≡ [] =
      (neither _ _ (neither _ _ e).1).0 in
      leaf_words rest (neither _ _ (rw (rehearse_stops rest) at below)).0

  after_verify : (rest : Words) → faults_by kind (codes "verify" ∷ rest) ≡ []
      → AreStartRows (rows_after (options kind 1).rules [] rest)
  after_verify rest e =
      let below : entered_fault (app kind) (walk rules names nothing_held (codes "verify" ∷ rest)).stopped ≡ [] =
      (neither _ _ (neither _ _ e).1).0 in
      starts_found kind rest (subst (λ o. entered_fault (app kind) o ≡ []) (verify_stops rest) below)

  after_plan_reshard : (rest : Words) → faults_by kind (codes "plan-reshard" ∷ rest) ≡ []
      → AreReshardRows (rows_after (options kind 2).rules [] rest)
  after_plan_reshard rest e =
      let below : entered_fault (app kind) (walk rules names nothing_held (codes "plan-reshard" ∷ rest)).stopped ≡ [] = (neither _ _ (neither _ _ e).1).0 in
      reshard_found kind rest (subst (λ o. entered_fault (app kind) o ≡ []) (plan_reshard_stops rest) below)

  after_plan_rebalance : (rest : Words) → faults_by kind (codes "plan-rebalance" ∷ rest) ≡ []
      → AreRebalanceRows (rows_after (options kind 3).rules [] rest)
  after_plan_rebalance rest e =
      let below : entered_fault (app kind) (walk rules names nothing_held (codes "plan-rebalance" ∷ rest)).stopped ≡ [] = (neither _ _ (neither _ _ e).1).0 in
      rebalance_found kind rest (subst (λ o. entered_fault (app kind) o ≡ []) (plan_rebalance_stops rest) below)

  after_serve : (rest : Words) → faults_by kind (codes "serve" ∷ rest) ≡ []
      → AreServeRows (rows_after (options kind 4).rules [] rest)
  after_serve rest e =
      let below : entered_fault (app kind) (walk rules names nothing_held (codes "serve" ∷ rest)).stopped ≡ [] =
      (neither _ _ (neither _ _ e).1).0 in
      serve_found kind rest (subst (λ o. entered_fault (app kind) o ≡ []) (serve_stops rest) below)

  after_survey : (rest : Words) → faults_by kind (codes "survey" ∷ rest) ≡ []
      → AreSurveyRows (rows_after (options kind 5).rules [] rest)
  after_survey rest e =
      let below : entered_fault (app kind) (walk rules names nothing_held (codes "survey" ∷ rest)).stopped ≡ [] =
      (neither _ _ (neither _ _ e).1).0 in
      survey_found kind rest (subst (λ o. entered_fault (app kind) o ≡ []) (survey_stops rest) below)

  after_apply : (rest : Words) → faults_by kind (codes "apply" ∷ rest) ≡ []
      → AreApplyRows (rows_after (options kind 6).rules [] rest)
  after_apply rest e =
      let below : entered_fault (app kind) (walk rules names nothing_held (codes "apply" ∷ rest)).stopped ≡ [] =
      (neither _ _ (neither _ _ e).1).0 in
      apply_found kind rest (subst (λ o. entered_fault (app kind) o ≡ []) (apply_stops rest) below)

  after_resume : (rest : Words) → faults_by kind (codes "resume" ∷ rest) ≡ []
      → AreResumeRows (rows_after (options kind 7).rules [] rest)
  after_resume rest e =
      let below : entered_fault (app kind) (walk rules names nothing_held (codes "resume" ∷ rest)).stopped ≡ [] =
      (neither _ _ (neither _ _ e).1).0 in
      resume_found kind rest (subst (λ o. entered_fault (app kind) o ≡ []) (resume_stops rest) below)

  after_explain : (rest : Words) → faults_by kind (codes "explain" ∷ rest) ≡ []
      → AreExplainRows (rows_after (options kind 8).rules [] rest)
  after_explain rest e =
      let below : entered_fault (app kind) (walk rules names nothing_held (codes "explain" ∷ rest)).stopped ≡ [] =
      (neither _ _ (neither _ _ e).1).0 in
      explain_found kind rest (subst (λ o. entered_fault (app kind) o ≡ []) (explain_stops rest) below)

  after_draw : (rest : Words) → faults_by kind (codes "draw" ∷ rest) ≡ []
      → AreDrawRows (rows_after (options kind 9).rules [] rest)
  after_draw rest e =
      let below : entered_fault (app kind) (walk rules names nothing_held (codes "draw" ∷ rest)).stopped ≡ [] =
      (neither _ _ (neither _ _ e).1).0 in
      draw_found kind rest (subst (λ o. entered_fault (app kind) o ≡ []) (draw_stops rest) below)

  after_drain : (rest : Words) → faults_by kind (codes "plan-drain" ∷ rest) ≡ []
      → AreDrainRows (rows_after (options kind 10).rules [] rest)
  after_drain rest e =
      let below : entered_fault (app kind) (walk rules names nothing_held (codes "plan-drain" ∷ rest)).stopped ≡ [] =
      (neither _ _ (neither _ _ e).1).0 in
      drain_found kind rest (subst (λ o. entered_fault (app kind) o ≡ []) (drain_stops rest) below)

  after_forget : (rest : Words) → faults_by kind (codes "forget" ∷ rest) ≡ []
      → AreForgetRows (rows_after (options kind 11).rules [] rest)
  after_forget rest e =
      let below : entered_fault (app kind) (walk rules names nothing_held (codes "forget" ∷ rest)).stopped ≡ [] =
      (neither _ _ (neither _ _ e).1).0 in
      forget_found kind rest (subst (λ o. entered_fault (app kind) o ≡ []) (forget_stops rest) below)

  verify_named : (rest : Words) → command_by kind (codes "verify" ∷ rest) ≡ Some
      (codes "verify", rows_after (options kind 1).rules [] rest)
  verify_named rest = ap (entered (app kind)) (verify_stops rest)

  plan_reshard_named : (rest : Words) → command_by kind (codes "plan-reshard" ∷ rest) ≡ Some
      (codes "plan-reshard", rows_after (options kind 2).rules [] rest)
  plan_reshard_named rest = ap (entered (app kind)) (plan_reshard_stops rest)

  plan_rebalance_named : (rest : Words) → command_by kind (codes "plan-rebalance" ∷ rest) ≡ Some
      (codes "plan-rebalance", rows_after (options kind 3).rules [] rest)
  plan_rebalance_named rest = ap (entered (app kind)) (plan_rebalance_stops rest)

  serve_named : (rest : Words) → command_by kind (codes "serve" ∷ rest) ≡ Some
      (codes "serve", rows_after (options kind 4).rules [] rest)
  serve_named rest = ap (entered (app kind)) (serve_stops rest)

  survey_named : (rest : Words) → command_by kind (codes "survey" ∷ rest) ≡ Some
      (codes "survey", rows_after (options kind 5).rules [] rest)
  survey_named rest = ap (entered (app kind)) (survey_stops rest)

  apply_named : (rest : Words) → command_by kind (codes "apply" ∷ rest) ≡ Some
      (codes "apply", rows_after (options kind 6).rules [] rest)
  apply_named rest = ap (entered (app kind)) (apply_stops rest)

  resume_named : (rest : Words) → command_by kind (codes "resume" ∷ rest) ≡ Some
      (codes "resume", rows_after (options kind 7).rules [] rest)
  resume_named rest = ap (entered (app kind)) (resume_stops rest)

  explain_named : (rest : Words) → command_by kind (codes "explain" ∷ rest) ≡ Some
      (codes "explain", rows_after (options kind 8).rules [] rest)
  explain_named rest = ap (entered (app kind)) (explain_stops rest)

  draw_named : (rest : Words) → command_by kind (codes "draw" ∷ rest) ≡ Some
      (codes "draw", rows_after (options kind 9).rules [] rest)
  draw_named rest = ap (entered (app kind)) (draw_stops rest)

  drain_named : (rest : Words) → command_by kind (codes "plan-drain" ∷ rest) ≡ Some
      (codes "plan-drain", rows_after (options kind 10).rules [] rest)
  drain_named rest = ap (entered (app kind)) (drain_stops rest)

  forget_named : (rest : Words) → command_by kind (codes "forget" ∷ rest) ≡ Some
      (codes "forget", rows_after (options kind 11).rules [] rest)
  forget_named rest = ap (entered (app kind)) (forget_stops rest)

end_alone : (kind : StartKind) (rest : Words) → faults_by kind (codes "--" ∷ rest) ≡ [] → ⊥
unfolding clap_on_literals
end_alone kind [] e = cc
end_alone kind (word ∷ rest) e = cc

nothing_alone : faults [] ≡ [] → ⊥
unfolding clap_on_literals
nothing_alone e = cc

first_turn : (kind : StartKind) (word : Text) (rest : Words) → faults_by kind (word ∷ rest) ≡ []
    → turn_fault above.top names (walk_from nothing_held) word ≡ []
unfolding walk_fault
first_turn kind word rest e = (neither _ _ (neither _ _ e).0).0

-- words that name this subcommand, with such rows of its options
record IsNamedBy (kind : StartKind) (words : Words) (name : Text) (P : List Row → Type 0) : Type 0 where
  rows : List Row
  named : command_by kind words ≡ Some (name, rows)
  fits : P rows

abbrev IsTakenBy : (kind : StartKind) → Words → Type 0
IsTakenBy kind words = IsRehearsal words
    ⊎ (IsNamedBy kind words (codes "verify") AreStartRows
    ⊎ (IsNamedBy kind words (codes "plan-reshard") AreReshardRows
    ⊎ (IsNamedBy kind words (codes "plan-rebalance") AreRebalanceRows
    ⊎ (IsNamedBy kind words (codes "serve") AreServeRows
    ⊎ (IsNamedBy kind words (codes "survey") AreSurveyRows
    ⊎ (IsNamedBy kind words (codes "apply") AreApplyRows
    ⊎ (IsNamedBy kind words (codes "resume") AreResumeRows
    ⊎ (IsNamedBy kind words (codes "explain") AreExplainRows
    ⊎ (IsNamedBy kind words (codes "draw") AreDrawRows
    ⊎ (IsNamedBy kind words (codes "plan-drain") AreDrainRows
    ⊎ (IsNamedBy kind words (codes "forget") AreForgetRows)))))))))))

taken_by : (kind : StartKind) (word : Text) (rest : Words) → faults_by kind (word ∷ rest) ≡ [] → IsFirst word
    → IsTakenBy kind (word ∷ rest)
taken_by kind word rest e (inl is) = elim (after_rehearse kind rest (rw is at e)) [
  | inl none ↦ inl (inl (rw (is, none) refl))
  | inr end ↦ inl (inr (rw (is, end) refl))
]
taken_by kind word rest e (inr (inl is)) =
    inr (inl (record {
      rows = rows_after (options kind 1).rules [] rest;
      named =
          rw is (verify_named kind rest);
      fits = after_verify kind rest (rw is at e);
    }))
taken_by kind word rest e (inr (inr (inl is))) =
    inr (inr (inl (record {
      rows = rows_after (options kind 2).rules [] rest;
      named =
          rw is (plan_reshard_named kind rest);
      fits = after_plan_reshard kind rest (rw is at e);
    })))
taken_by kind word rest e (inr (inr (inr (inl is)))) =
    inr (inr (inr (inl (record {
      rows = rows_after (options kind 3).rules [] rest;
      named =
          rw is (plan_rebalance_named kind rest);
      fits = after_plan_rebalance kind rest (rw is at e);
    }))))
taken_by kind word rest e (inr (inr (inr (inr (inl is))))) =
    inr (inr (inr (inr (inl (record {
      rows = rows_after (options kind 4).rules [] rest;
      named =
          rw is (serve_named kind rest);
      fits = after_serve kind rest (rw is at e);
    })))))
taken_by kind word rest e (inr (inr (inr (inr (inr (inl is)))))) =
    inr (inr (inr (inr (inr (inl (record {
      rows = rows_after (options kind 5).rules [] rest;
      named =
          rw is (survey_named kind rest);
      fits = after_survey kind rest (rw is at e);
    }))))))
taken_by kind word rest e (inr (inr (inr (inr (inr (inr (inl is))))))) =
    inr (inr (inr (inr (inr (inr (inl (record {
      rows = rows_after (options kind 6).rules [] rest;
      named =
          rw is (apply_named kind rest);
      fits = after_apply kind rest (rw is at e);
    })))))))
taken_by kind word rest e (inr (inr (inr (inr (inr (inr (inr (inl is)))))))) =
    inr (inr (inr (inr (inr (inr (inr (inl (record {
      rows = rows_after (options kind 7).rules [] rest;
      named =
          rw is (resume_named kind rest);
      fits = after_resume kind rest (rw is at e);
    }))))))))
taken_by kind word rest e (inr (inr (inr (inr (inr (inr (inr (inr (inl is))))))))) =
    inr (inr (inr (inr (inr (inr (inr (inr (inl (record {
      rows = rows_after (options kind 8).rules [] rest;
      named =
          rw is (explain_named kind rest);
      fits = after_explain kind rest (rw is at e);
    })))))))))
taken_by kind word rest e (inr (inr (inr (inr (inr (inr (inr (inr (inr (inl is)))))))))) =
    inr (inr (inr (inr (inr (inr (inr (inr (inr (inl (record {
      rows =
          rows_after (options kind 9).rules [] rest;
      named = rw is (draw_named kind rest);
      fits =
          after_draw kind rest (rw is at e);
    }))))))))))
taken_by kind word rest e (inr (inr (inr (inr (inr (inr (inr (inr (inr (inr (inl (is)))))))))))) =
    inr (inr (inr (inr (inr (inr (inr (inr (inr (inr (inl (record {
      rows = rows_after (options kind 10).rules [] rest;
      named = rw is (drain_named kind rest);
      fits = after_drain kind rest (rw is at e);
    })))))))))))
taken_by kind word rest e (inr (inr (inr (inr (inr (inr (inr (inr (inr (inr (inr (inl (is))))))))))))) =
    inr (inr (inr (inr (inr (inr (inr (inr (inr (inr (inr (record {
      rows = rows_after (options kind 11).rules [] rest;
      named = rw is (forget_named kind rest);
      fits = after_forget kind rest (rw is at e);
    })))))))))))
taken_by kind word rest e (inr (inr (inr (inr (inr (inr (inr (inr (inr (inr (inr (inr (is))))))))))))) =
    absurd (end_alone kind rest (rw is at e))

abbrev IsNamed : (words : Words) (name : Text) → (List Row → Type 0) → Type 0
IsNamed words = IsNamedBy (start_kind words) words

abbrev IsTaken : Words → Type 0
IsTaken words = IsTakenBy (start_kind words) words

taken : (words : Words) → faults words ≡ [] → IsTaken words
taken [] e = absurd (nothing_alone e)
taken (word ∷ rest) e = taken_by (start_kind (word ∷ rest)) word rest e
    (first_word word (first_turn (start_kind (word ∷ rest)) word rest e))

rehearse_named : command_in (codes "rehearse" ∷ []) ≡ Some (codes "rehearse", [])
unfolding clap_on_literals
rehearse_named = refl

rehearse_named_too : command_in (codes "rehearse" ∷ codes "--" ∷ []) ≡ Some (codes "rehearse", [])
unfolding clap_on_literals
rehearse_named_too = refl

rehearsal_is_named : (words : Words) → IsRehearsal words → command_in words ≡ Some (codes "rehearse", [])
rehearsal_is_named words (inl e) = rw e rehearse_named
rehearsal_is_named words (inr e) = rw e rehearse_named_too

abbrev met_by : Text → List Row → Met
met_by name rows = Some (name, rows)

-- a subcommand has one name
pub one_name : (a b : Text) (rows other : List Row) → bytes_eq a b ≡ false → bytes_eq b b ≡ true
    → met_by a rows ≡ met_by b other → ⊥
one_name a b rows other differ alike e =
    let same : bytes_eq a b ≡ bytes_eq b b = ap (λ (m : Met). option_map_or (λ p. bytes_eq p.0 b) m false) e in
    let bad : false ≡ true = sym differ ∙ (same ∙ alike) in
    cc

pub same_rows : (a b : Text) (rows other : List Row) → met_by a rows ≡ met_by b other → rows ≡ other
same_rows a b rows other e = ap (λ (m : Met). option_map_or (λ p. p.1) m []) e

pub no_rehearsal : (words : Words) (name : Text) (rows : List Row) → bytes_eq (codes "rehearse") name ≡ false
    → bytes_eq name name ≡ true
    → command_in words ≡ Some (name, rows) → IsRehearsal words → ⊥
no_rehearsal words name rows differ alike named rehearsal =
    one_name (codes "rehearse") name [] rows differ alike (sym (rehearsal_is_named words rehearsal) ∙ named)

no_fault : (fault : OptionFault) → IsAtFault [] fault → ⊥
no_fault (Uneven s) h =
    let none : None ≡ Some s.nodes = h.0.0.0 in
    cc
no_fault TwoStarts h = cc
no_fault NoCluster h = cc
no_fault NoAddress h = cc
no_fault NoId h = cc
no_fault NoCount h =
    let none : None ≡ Some h.0 = h.1 in
    cc
no_fault NowAlone h =
    let is : false ≡ true = h.1 in
    cc
no_fault SurveyBeside h = cc
no_fault TwoLogStarts h =
    let is : false ≡ true = h.0 in
    cc
no_fault NoLog (none, inl given) =
    let is : false ≡ true = given in
    cc
no_fault NoLog (none, inr given) =
    let is : false ≡ true = given in
    cc

-- nor is a rehearsal a subcommand whose options have a fault
pub no_faulty_rehearsal : (words : Words) (fault : OptionFault) → IsMetAtFault (command_in words) fault
    → IsRehearsal words → ⊥
no_faulty_rehearsal words fault m rehearsal =
    let none : [] ≡ m.1.0 = same_rows (codes "rehearse") m.0 [] m.1.0 (sym (rehearsal_is_named words rehearsal) ∙ m.1.1)
    in
    no_fault fault (subst (λ rows. IsAtFault rows fault) (sym none) m.1.2)

-- ---- words that are taken, where the parse met a subcommand

module _ (words : Words) (met : Met) (is : met ≡ command_in words) where
  -- it is the one that the words name
  fits_named : (name : Text) (P : List Row → Type 0) (rows : List Row) → IsNamed words name P → met ≡ Some (name, rows)
      → P rows
  fits_named name P rows v named = subst P (sym (same_rows name name rows v.rows (sym named ∙ (is ∙ v.named)))) v.fits

  -- and no other
  not_named : (name other : Text) (P : List Row → Type 0) (rows : List Row) → bytes_eq name other ≡ false
      → bytes_eq other other ≡ true
      → IsNamed words name P → met ≡ Some (other, rows) → ⊥
  not_named name other P rows differ alike v named = one_name name other v.rows rows differ alike
      (sym v.named ∙ (sym is ∙ named))

  pub verify_options : (rows : List Row) → faults words ≡ [] → met ≡ Some (codes "verify", rows) → AreStartRows rows
  verify_options rows taken_well named = go (taken words taken_well)
    where
      go : IsTaken words → AreStartRows rows
      go (inl rehearsal) = absurd (no_rehearsal words (codes "verify") rows refl refl (sym is ∙ named) rehearsal)
      go (inr (inl v)) = fits_named (codes "verify") AreStartRows rows v named
      go (inr (inr (inl v))) = absurd (not_named (codes "plan-reshard") (codes "verify") AreReshardRows rows refl refl v
          named)
      go (inr (inr (inr (inl v)))) = absurd (not_named (codes "plan-rebalance") (codes "verify") AreRebalanceRows rows
          refl refl v named)
      go (inr (inr (inr (inr (inl v))))) = absurd (not_named (codes "serve") (codes "verify") AreServeRows rows refl
          refl v named)
      go (inr (inr (inr (inr (inr (inl v)))))) = absurd (not_named (codes "survey") (codes "verify") AreSurveyRows rows
          refl refl v named)
      go (inr (inr (inr (inr (inr (inr (inl v))))))) = absurd
          (not_named (codes "apply") (codes "verify") AreApplyRows rows refl refl v named)
      go (inr (inr (inr (inr (inr (inr (inr (inl v)))))))) =
          absurd (not_named (codes "resume") (codes "verify") AreResumeRows rows refl refl v named)
      go (inr (inr (inr (inr (inr (inr (inr (inr (inl v))))))))) =
          absurd (not_named (codes "explain") (codes "verify") AreExplainRows rows refl refl v named)
      go (inr (inr (inr (inr (inr (inr (inr (inr (inr (inl v)))))))))) =
          absurd (not_named (codes "draw") (codes "verify") AreDrawRows rows refl refl v named)
      go (inr (inr (inr (inr (inr (inr (inr (inr (inr (inr (inl (v)))))))))))) =
          absurd (not_named (codes "plan-drain") (codes "verify") AreDrainRows rows refl refl v named)
      go (inr (inr (inr (inr (inr (inr (inr (inr (inr (inr (inr (v)))))))))))) =
          absurd (not_named (codes "forget") (codes "verify") AreForgetRows rows refl refl v named)

  pub reshard_options : (rows : List Row) → faults words ≡ [] → met ≡ Some (codes "plan-reshard", rows)
      → AreReshardRows rows
  reshard_options rows taken_well named = go (taken words taken_well)
    where
      go : IsTaken words → AreReshardRows rows
      go (inl rehearsal) = absurd (no_rehearsal words (codes "plan-reshard") rows refl refl (sym is ∙ named) rehearsal)
      go (inr (inl v)) = absurd (not_named (codes "verify") (codes "plan-reshard") AreStartRows rows refl refl v named)
      go (inr (inr (inl v))) = fits_named (codes "plan-reshard") AreReshardRows rows v named
      go (inr (inr (inr (inl v)))) = absurd (not_named (codes "plan-rebalance") (codes "plan-reshard") AreRebalanceRows
          rows refl refl v named)
      go (inr (inr (inr (inr (inl v))))) = absurd (not_named (codes "serve") (codes "plan-reshard") AreServeRows rows
          refl refl v named)
      go (inr (inr (inr (inr (inr (inl v)))))) = absurd (not_named (codes "survey") (codes "plan-reshard")
          AreSurveyRows rows refl refl v named)
      go (inr (inr (inr (inr (inr (inr (inl v))))))) = absurd
          (not_named (codes "apply") (codes "plan-reshard") AreApplyRows rows refl refl v named)
      go (inr (inr (inr (inr (inr (inr (inr (inl v)))))))) =
          absurd (not_named (codes "resume") (codes "plan-reshard") AreResumeRows rows refl refl v named)
      go (inr (inr (inr (inr (inr (inr (inr (inr (inl v))))))))) =
          absurd (not_named (codes "explain") (codes "plan-reshard") AreExplainRows rows refl refl v named)
      go (inr (inr (inr (inr (inr (inr (inr (inr (inr (inl v)))))))))) =
          absurd (not_named (codes "draw") (codes "plan-reshard") AreDrawRows rows refl refl v named)
      go (inr (inr (inr (inr (inr (inr (inr (inr (inr (inr (inl (v)))))))))))) =
          absurd (not_named (codes "plan-drain") (codes "plan-reshard") AreDrainRows rows refl refl v named)
      go (inr (inr (inr (inr (inr (inr (inr (inr (inr (inr (inr (v)))))))))))) =
          absurd (not_named (codes "forget") (codes "plan-reshard") AreForgetRows rows refl refl v named)

  pub rebalance_options : (rows : List Row) → faults words ≡ [] → met ≡ Some (codes "plan-rebalance", rows)
      → AreRebalanceRows rows
  rebalance_options rows taken_well named = go (taken words taken_well)
    where
      go : IsTaken words → AreRebalanceRows rows
      go (inl rehearsal) = absurd (no_rehearsal words (codes "plan-rebalance") rows refl refl (sym is ∙ named)
          rehearsal)
      go (inr (inl v)) = absurd (not_named (codes "verify") (codes "plan-rebalance") AreStartRows rows refl refl v
          named)
      go (inr (inr (inl v))) = absurd (not_named (codes "plan-reshard") (codes "plan-rebalance") AreReshardRows rows
          refl refl v named)
      go (inr (inr (inr (inl v)))) = fits_named (codes "plan-rebalance") AreRebalanceRows rows v named
      go (inr (inr (inr (inr (inl v))))) = absurd (not_named (codes "serve") (codes "plan-rebalance") AreServeRows rows
          refl refl v named)
      go (inr (inr (inr (inr (inr (inl v)))))) = absurd (not_named (codes "survey") (codes "plan-rebalance")
          AreSurveyRows rows refl refl v named)
      go (inr (inr (inr (inr (inr (inr (inl v))))))) = absurd
          (not_named (codes "apply") (codes "plan-rebalance") AreApplyRows rows refl refl v named)
      go (inr (inr (inr (inr (inr (inr (inr (inl v)))))))) =
          absurd (not_named (codes "resume") (codes "plan-rebalance") AreResumeRows rows refl refl v named)
      go (inr (inr (inr (inr (inr (inr (inr (inr (inl v))))))))) =
          absurd (not_named (codes "explain") (codes "plan-rebalance") AreExplainRows rows refl refl v named)
      go (inr (inr (inr (inr (inr (inr (inr (inr (inr (inl v)))))))))) =
          absurd (not_named (codes "draw") (codes "plan-rebalance") AreDrawRows rows refl refl v named)
      go (inr (inr (inr (inr (inr (inr (inr (inr (inr (inr (inl (v)))))))))))) =
          absurd (not_named (codes "plan-drain") (codes "plan-rebalance") AreDrainRows rows refl refl v named)
      go (inr (inr (inr (inr (inr (inr (inr (inr (inr (inr (inr (v)))))))))))) =
          absurd (not_named (codes "forget") (codes "plan-rebalance") AreForgetRows rows refl refl v named)

  pub serve_options : (rows : List Row) → faults words ≡ [] → met ≡ Some (codes "serve", rows) → AreServeRows rows
  serve_options rows taken_well named = go (taken words taken_well)
    where
      go : IsTaken words → AreServeRows rows
      go (inl rehearsal) = absurd (no_rehearsal words (codes "serve") rows refl refl (sym is ∙ named) rehearsal)
      go (inr (inl v)) = absurd (not_named (codes "verify") (codes "serve") AreStartRows rows refl refl v named)
      go (inr (inr (inl v))) = absurd (not_named (codes "plan-reshard") (codes "serve") AreReshardRows rows refl refl v
          named)
      go (inr (inr (inr (inl v)))) = absurd (not_named (codes "plan-rebalance") (codes "serve") AreRebalanceRows rows
          refl refl v named)
      go (inr (inr (inr (inr (inl v))))) = fits_named (codes "serve") AreServeRows rows v named
      go (inr (inr (inr (inr (inr (inl v)))))) = absurd (not_named (codes "survey") (codes "serve") AreSurveyRows rows
          refl refl v named)
      go (inr (inr (inr (inr (inr (inr (inl v))))))) = absurd
          (not_named (codes "apply") (codes "serve") AreApplyRows rows refl refl v named)
      go (inr (inr (inr (inr (inr (inr (inr (inl v)))))))) =
          absurd (not_named (codes "resume") (codes "serve") AreResumeRows rows refl refl v named)
      go (inr (inr (inr (inr (inr (inr (inr (inr (inl v))))))))) =
          absurd (not_named (codes "explain") (codes "serve") AreExplainRows rows refl refl v named)
      go (inr (inr (inr (inr (inr (inr (inr (inr (inr (inl v)))))))))) =
          absurd (not_named (codes "draw") (codes "serve") AreDrawRows rows refl refl v named)
      go (inr (inr (inr (inr (inr (inr (inr (inr (inr (inr (inl (v)))))))))))) =
          absurd (not_named (codes "plan-drain") (codes "serve") AreDrainRows rows refl refl v named)
      go (inr (inr (inr (inr (inr (inr (inr (inr (inr (inr (inr (v)))))))))))) =
          absurd (not_named (codes "forget") (codes "serve") AreForgetRows rows refl refl v named)

  pub survey_options : (rows : List Row) → faults words ≡ [] → met ≡ Some (codes "survey", rows) → AreSurveyRows rows
  survey_options rows taken_well named = go (taken words taken_well)
    where
      go : IsTaken words → AreSurveyRows rows
      go (inl rehearsal) = absurd (no_rehearsal words (codes "survey") rows refl refl (sym is ∙ named) rehearsal)
      go (inr (inl v)) = absurd (not_named (codes "verify") (codes "survey") AreStartRows rows refl refl v named)
      go (inr (inr (inl v))) = absurd (not_named (codes "plan-reshard") (codes "survey") AreReshardRows rows refl refl v
          named)
      go (inr (inr (inr (inl v)))) = absurd (not_named (codes "plan-rebalance") (codes "survey") AreRebalanceRows rows
          refl refl v named)
      go (inr (inr (inr (inr (inl v))))) = absurd (not_named (codes "serve") (codes "survey") AreServeRows rows refl
          refl v named)
      go (inr (inr (inr (inr (inr (inl v)))))) = fits_named (codes "survey") AreSurveyRows rows v named
      go (inr (inr (inr (inr (inr (inr (inl v))))))) = absurd
          (not_named (codes "apply") (codes "survey") AreApplyRows rows refl refl v named)
      go (inr (inr (inr (inr (inr (inr (inr (inl v)))))))) =
          absurd (not_named (codes "resume") (codes "survey") AreResumeRows rows refl refl v named)
      go (inr (inr (inr (inr (inr (inr (inr (inr (inl v))))))))) =
          absurd (not_named (codes "explain") (codes "survey") AreExplainRows rows refl refl v named)
      go (inr (inr (inr (inr (inr (inr (inr (inr (inr (inl v)))))))))) =
          absurd (not_named (codes "draw") (codes "survey") AreDrawRows rows refl refl v named)
      go (inr (inr (inr (inr (inr (inr (inr (inr (inr (inr (inl (v)))))))))))) =
          absurd (not_named (codes "plan-drain") (codes "survey") AreDrainRows rows refl refl v named)
      go (inr (inr (inr (inr (inr (inr (inr (inr (inr (inr (inr (v)))))))))))) =
          absurd (not_named (codes "forget") (codes "survey") AreForgetRows rows refl refl v named)

  pub apply_options : (rows : List Row) → faults words ≡ [] → met ≡ Some (codes "apply", rows) → AreApplyRows rows
  apply_options rows taken_well named = go (taken words taken_well)
    where
      go : IsTaken words → AreApplyRows rows
      go (inl rehearsal) = absurd (no_rehearsal words (codes "apply") rows refl refl (sym is ∙ named) rehearsal)
      go (inr (inl v)) = absurd (not_named (codes "verify") (codes "apply") AreStartRows rows refl refl v named)
      go (inr (inr (inl v))) = absurd (not_named (codes "plan-reshard") (codes "apply") AreReshardRows rows refl refl v
          named)
      go (inr (inr (inr (inl v)))) = absurd (not_named (codes "plan-rebalance") (codes "apply") AreRebalanceRows rows
          refl refl v named)
      go (inr (inr (inr (inr (inl v))))) = absurd (not_named (codes "serve") (codes "apply") AreServeRows rows refl refl
          v named)
      go (inr (inr (inr (inr (inr (inl v)))))) = absurd (not_named (codes "survey") (codes "apply") AreSurveyRows rows
          refl refl v named)
      go (inr (inr (inr (inr (inr (inr (inl v))))))) = fits_named (codes "apply") AreApplyRows rows v named
      go (inr (inr (inr (inr (inr (inr (inr (inl v)))))))) =
          absurd (not_named (codes "resume") (codes "apply") AreResumeRows rows refl refl v named)
      go (inr (inr (inr (inr (inr (inr (inr (inr (inl v))))))))) =
          absurd (not_named (codes "explain") (codes "apply") AreExplainRows rows refl refl v named)
      go (inr (inr (inr (inr (inr (inr (inr (inr (inr (inl v)))))))))) =
          absurd (not_named (codes "draw") (codes "apply") AreDrawRows rows refl refl v named)
      go (inr (inr (inr (inr (inr (inr (inr (inr (inr (inr (inl (v)))))))))))) =
          absurd (not_named (codes "plan-drain") (codes "apply") AreDrainRows rows refl refl v named)
      go (inr (inr (inr (inr (inr (inr (inr (inr (inr (inr (inr (v)))))))))))) =
          absurd (not_named (codes "forget") (codes "apply") AreForgetRows rows refl refl v named)

  pub resume_options : (rows : List Row) → faults words ≡ [] → met ≡ Some (codes "resume", rows) → AreResumeRows rows
  resume_options rows taken_well named = go (taken words taken_well)
    where
      go : IsTaken words → AreResumeRows rows
      go (inl rehearsal) = absurd (no_rehearsal words (codes "resume") rows refl refl (sym is ∙ named) rehearsal)
      go (inr (inl v)) = absurd (not_named (codes "verify") (codes "resume") AreStartRows rows refl refl v named)
      go (inr (inr (inl v))) = absurd (not_named (codes "plan-reshard") (codes "resume") AreReshardRows rows refl refl v
          named)
      go (inr (inr (inr (inl v)))) = absurd (not_named (codes "plan-rebalance") (codes "resume") AreRebalanceRows rows
          refl refl v named)
      go (inr (inr (inr (inr (inl v))))) = absurd (not_named (codes "serve") (codes "resume") AreServeRows rows refl
          refl v named)
      go (inr (inr (inr (inr (inr (inl v)))))) = absurd (not_named (codes "survey") (codes "resume") AreSurveyRows rows
          refl refl v named)
      go (inr (inr (inr (inr (inr (inr (inl v))))))) = absurd
          (not_named (codes "apply") (codes "resume") AreApplyRows rows refl refl v named)
      go (inr (inr (inr (inr (inr (inr (inr (inl v)))))))) = fits_named (codes "resume") AreResumeRows rows v named
      go (inr (inr (inr (inr (inr (inr (inr (inr (inl v))))))))) =
          absurd (not_named (codes "explain") (codes "resume") AreExplainRows rows refl refl v named)
      go (inr (inr (inr (inr (inr (inr (inr (inr (inr (inl v)))))))))) =
          absurd (not_named (codes "draw") (codes "resume") AreDrawRows rows refl refl v named)
      go (inr (inr (inr (inr (inr (inr (inr (inr (inr (inr (inl (v)))))))))))) =
          absurd (not_named (codes "plan-drain") (codes "resume") AreDrainRows rows refl refl v named)
      go (inr (inr (inr (inr (inr (inr (inr (inr (inr (inr (inr (v)))))))))))) =
          absurd (not_named (codes "forget") (codes "resume") AreForgetRows rows refl refl v named)

  pub explain_options : (rows : List Row) → faults words ≡ [] → met ≡ Some (codes "explain", rows) → AreExplainRows rows
  explain_options rows taken_well named = go (taken words taken_well)
    where
      go : IsTaken words → AreExplainRows rows
      go (inl rehearsal) = absurd (no_rehearsal words (codes "explain") rows refl refl (sym is ∙ named) rehearsal)
      go (inr (inl v)) = absurd (not_named (codes "verify") (codes "explain") AreStartRows rows refl refl v named)
      go (inr (inr (inl v))) = absurd (not_named (codes "plan-reshard") (codes "explain") AreReshardRows rows refl refl
          v named)
      go (inr (inr (inr (inl v)))) = absurd (not_named (codes "plan-rebalance") (codes "explain") AreRebalanceRows rows
          refl refl v named)
      go (inr (inr (inr (inr (inl v))))) = absurd (not_named (codes "serve") (codes "explain") AreServeRows rows refl
          refl v named)
      go (inr (inr (inr (inr (inr (inl v)))))) = absurd (not_named (codes "survey") (codes "explain") AreSurveyRows
          rows refl refl v named)
      go (inr (inr (inr (inr (inr (inr (inl v))))))) = absurd
          (not_named (codes "apply") (codes "explain") AreApplyRows rows refl refl v named)
      go (inr (inr (inr (inr (inr (inr (inr (inl v)))))))) =
          absurd (not_named (codes "resume") (codes "explain") AreResumeRows rows refl refl v named)
      go (inr (inr (inr (inr (inr (inr (inr (inr (inl v))))))))) =
          fits_named (codes "explain") AreExplainRows rows v named
      go (inr (inr (inr (inr (inr (inr (inr (inr (inr (inl v)))))))))) =
          absurd (not_named (codes "draw") (codes "explain") AreDrawRows rows refl refl v named)
      go (inr (inr (inr (inr (inr (inr (inr (inr (inr (inr (inl (v)))))))))))) =
          absurd (not_named (codes "plan-drain") (codes "explain") AreDrainRows rows refl refl v named)
      go (inr (inr (inr (inr (inr (inr (inr (inr (inr (inr (inr (v)))))))))))) =
          absurd (not_named (codes "forget") (codes "explain") AreForgetRows rows refl refl v named)

  pub draw_options : (rows : List Row) → faults words ≡ [] → met ≡ Some (codes "draw", rows) → AreDrawRows rows
  draw_options rows taken_well named = go (taken words taken_well)
    where
      go : IsTaken words → AreDrawRows rows
      go (inl rehearsal) = absurd (no_rehearsal words (codes "draw") rows refl refl (sym is ∙ named) rehearsal)
      go (inr (inl v)) = absurd (not_named (codes "verify") (codes "draw") AreStartRows rows refl refl v named)
      go (inr (inr (inl v))) = absurd (not_named (codes "plan-reshard") (codes "draw") AreReshardRows rows refl refl v
          named)
      go (inr (inr (inr (inl v)))) = absurd (not_named (codes "plan-rebalance") (codes "draw") AreRebalanceRows rows
          refl refl v named)
      go (inr (inr (inr (inr (inl v))))) = absurd (not_named (codes "serve") (codes "draw") AreServeRows rows refl refl
          v named)
      go (inr (inr (inr (inr (inr (inl v)))))) = absurd (not_named (codes "survey") (codes "draw") AreSurveyRows rows
          refl refl v named)
      go (inr (inr (inr (inr (inr (inr (inl v))))))) = absurd
          (not_named (codes "apply") (codes "draw") AreApplyRows rows refl refl v named)
      go (inr (inr (inr (inr (inr (inr (inr (inl v)))))))) =
          absurd (not_named (codes "resume") (codes "draw") AreResumeRows rows refl refl v named)
      go (inr (inr (inr (inr (inr (inr (inr (inr (inl v))))))))) =
          absurd (not_named (codes "explain") (codes "draw") AreExplainRows rows refl refl v named)
      go (inr (inr (inr (inr (inr (inr (inr (inr (inr (inl v)))))))))) =
          fits_named (codes "draw") AreDrawRows rows v named
      go (inr (inr (inr (inr (inr (inr (inr (inr (inr (inr (inl (v)))))))))))) =
          absurd (not_named (codes "plan-drain") (codes "draw") AreDrainRows rows refl refl v named)
      go (inr (inr (inr (inr (inr (inr (inr (inr (inr (inr (inr (v)))))))))))) =
          absurd (not_named (codes "forget") (codes "draw") AreForgetRows rows refl refl v named)

  pub drain_options : (rows : List Row) → faults words ≡ [] → met ≡ Some (codes "plan-drain", rows) → AreDrainRows rows
  drain_options rows taken_well named = go (taken words taken_well)
    where
      go : IsTaken words → AreDrainRows rows
      go (inl rehearsal) = absurd (no_rehearsal words (codes "plan-drain") rows refl refl (sym is ∙ named) rehearsal)
      go (inr (inl v)) = absurd (not_named (codes "verify") (codes "plan-drain") AreStartRows rows refl refl v named)
      go (inr (inr (inl v))) = absurd (not_named (codes "plan-reshard") (codes "plan-drain") AreReshardRows rows refl
          refl v named)
      go (inr (inr (inr (inl v)))) = absurd (not_named (codes "plan-rebalance") (codes "plan-drain") AreRebalanceRows
          rows refl refl v named)
      go (inr (inr (inr (inr (inl v))))) = absurd (not_named (codes "serve") (codes "plan-drain") AreServeRows rows refl
          refl v named)
      go (inr (inr (inr (inr (inr (inl v)))))) = absurd (not_named (codes "survey") (codes "plan-drain") AreSurveyRows
          rows refl refl v named)
      go (inr (inr (inr (inr (inr (inr (inl v))))))) = absurd
          (not_named (codes "apply") (codes "plan-drain") AreApplyRows rows refl refl v named)
      go (inr (inr (inr (inr (inr (inr (inr (inl v)))))))) =
          absurd (not_named (codes "resume") (codes "plan-drain") AreResumeRows rows refl refl v named)
      go (inr (inr (inr (inr (inr (inr (inr (inr (inl v))))))))) =
          absurd (not_named (codes "explain") (codes "plan-drain") AreExplainRows rows refl refl v named)
      go (inr (inr (inr (inr (inr (inr (inr (inr (inr (inl v)))))))))) =
          absurd (not_named (codes "draw") (codes "plan-drain") AreDrawRows rows refl refl v named)
      go (inr (inr (inr (inr (inr (inr (inr (inr (inr (inr (inl (v)))))))))))) =
          fits_named (codes "plan-drain") AreDrainRows rows v named
      go (inr (inr (inr (inr (inr (inr (inr (inr (inr (inr (inr (v)))))))))))) =
          absurd (not_named (codes "forget") (codes "plan-drain") AreForgetRows rows refl refl v named)

  pub forget_options : (rows : List Row) → faults words ≡ [] → met ≡ Some (codes "forget", rows) → AreForgetRows rows
  forget_options rows taken_well named = go (taken words taken_well)
    where
      go : IsTaken words → AreForgetRows rows
      go (inl rehearsal) = absurd (no_rehearsal words (codes "forget") rows refl refl (sym is ∙ named) rehearsal)
      go (inr (inl (v))) =
          absurd (not_named (codes "verify") (codes "forget") AreStartRows rows refl refl v named)
      go (inr (inr (inl (v)))) =
          absurd (not_named (codes "plan-reshard") (codes "forget") AreReshardRows rows refl refl v named)
      go (inr (inr (inr (inl (v))))) =
          absurd (not_named (codes "plan-rebalance") (codes "forget") AreRebalanceRows rows refl refl v named)
      go (inr (inr (inr (inr (inl (v)))))) =
          absurd (not_named (codes "serve") (codes "forget") AreServeRows rows refl refl v named)
      go (inr (inr (inr (inr (inr (inl (v))))))) =
          absurd (not_named (codes "survey") (codes "forget") AreSurveyRows rows refl refl v named)
      go (inr (inr (inr (inr (inr (inr (inl (v)))))))) =
          absurd (not_named (codes "apply") (codes "forget") AreApplyRows rows refl refl v named)
      go (inr (inr (inr (inr (inr (inr (inr (inl (v))))))))) =
          absurd (not_named (codes "resume") (codes "forget") AreResumeRows rows refl refl v named)
      go (inr (inr (inr (inr (inr (inr (inr (inr (inl (v)))))))))) =
          absurd (not_named (codes "explain") (codes "forget") AreExplainRows rows refl refl v named)
      go (inr (inr (inr (inr (inr (inr (inr (inr (inr (inl (v))))))))))) =
          absurd (not_named (codes "draw") (codes "forget") AreDrawRows rows refl refl v named)
      go (inr (inr (inr (inr (inr (inr (inr (inr (inr (inr (inl (v)))))))))))) =
          absurd (not_named (codes "plan-drain") (codes "forget") AreDrainRows rows refl refl v named)
      go (inr (inr (inr (inr (inr (inr (inr (inr (inr (inr (inr (v)))))))))))) =
          fits_named (codes "forget") AreForgetRows rows v named

  -- a subcommand that has no options is a rehearsal
  rehearses : faults words ≡ [] → IsNoOther met → IsRehearsal words
  rehearses taken_well none = go (taken words taken_well)
    where
      go : IsTaken words → IsRehearsal words
      go (inl rehearsal) = rehearsal
      go (inr (inl v)) = absurd (none.0 (ap (option_map (λ p. p.0)) (is ∙ v.named)))
      go (inr (inr (inl v))) = absurd (none.1 (ap (option_map (λ p. p.0)) (is ∙ v.named)))
      go (inr (inr (inr (inl v)))) = absurd (none.2 (ap (option_map (λ p. p.0)) (is ∙ v.named)))
      go (inr (inr (inr (inr (inl v))))) = absurd (none.3 (ap (option_map (λ p. p.0)) (is ∙ v.named)))
      go (inr (inr (inr (inr (inr (inl v)))))) = absurd (none.4 (ap (option_map (λ p. p.0)) (is ∙ v.named)))
      go (inr (inr (inr (inr (inr (inr (inl v))))))) = absurd (none.5 (ap (option_map (λ p. p.0)) (is ∙ v.named)))
      go (inr (inr (inr (inr (inr (inr (inr (inl v)))))))) = absurd (none.6 (ap (option_map (λ p. p.0)) (is ∙ v.named)))
      go (inr (inr (inr (inr (inr (inr (inr (inr (inl v))))))))) =
          absurd (none.7 (ap (option_map (λ p. p.0)) (is ∙ v.named)))
      go (inr (inr (inr (inr (inr (inr (inr (inr (inr (inl v)))))))))) =
          absurd (none.8 (ap (option_map (λ p. p.0)) (is ∙ v.named)))
      go (inr (inr (inr (inr (inr (inr (inr (inr (inr (inr (inl (v)))))))))))) =
          absurd (none.9 (ap (option_map (λ p. p.0)) (is ∙ v.named)))
      go (inr (inr (inr (inr (inr (inr (inr (inr (inr (inr (inr (v)))))))))))) =
          absurd (none.10 (ap (option_map (λ p. p.0)) (is ∙ v.named)))

  -- the same of the subcommand that the words name
  is_met : (name : Text) (P : List Row → Type 0) → IsMet met name P → IsMet (command_in words) name P
  is_met name P m = (m.0, sym is ∙ m.1, m.2)

  is_met_at_fault : (fault : OptionFault) → IsMetAtFault met fault → IsMetAtFault (command_in words) fault
  is_met_at_fault fault m = (m.0, is_met m.0 (λ rows. IsAtFault rows fault) m.1)

  pub command_asked : (usage : Usage) → faults words ≡ [] → IsCommand met usage → AsksFor words usage
  command_asked Rehearse taken_well command = rehearses taken_well command
  command_asked (Verify start) taken_well command = (
    (
      taken_well,
      is_met (codes "verify") (λ rows. HasStart rows start)
          command.0,
    ),
    command.1,
  )
  command_asked (Reshard g) taken_well command = (
    taken_well,
    is_met (codes "plan-reshard") (λ rows. HasReshard rows g)
        command.0,
    command.1,
  )
  command_asked (Rebalance g) taken_well command = (
    taken_well,
    is_met (codes "plan-rebalance")
        (λ rows. HasRebalance rows g) command.0,
    command.1,
  )
  command_asked (Serve g) taken_well command = (
    taken_well,
    is_met (codes "serve") (λ rows. HasServe rows g) command.0,
    command.1,
  )
  command_asked (Survey g) taken_well command = (
    taken_well,
    is_met (codes "survey") (λ rows. HasSurvey rows g)
        command.0,
    command.1,
  )
  command_asked (Apply g) taken_well command = (
    taken_well,
    is_met (codes "apply") (λ rows. HasApply rows g) command.0,
    command.1,
  )
  command_asked (Resume g) taken_well command = (
    taken_well,
    is_met (codes "resume") (λ rows. HasResume rows g)
        command.0,
    command.1,
  )
  command_asked (Explain g) taken_well command = (
    taken_well,
    is_met (codes "explain") (λ rows. HasExplain rows g)
        command.0,
    command.1,
  )
  command_asked (Drain g) taken_well command = (
    taken_well,
    is_met (codes "plan-drain") (λ rows. HasDrain rows g)
        command.0,
    command.1,
  )
  command_asked (Forget g) taken_well command = (
    taken_well,
    is_met (codes "forget") (λ rows. HasForget rows g)
        command.0,
    command.1,
  )
  command_asked (Draw start) taken_well command = (
    taken_well,
    is_met (codes "draw") (λ rows. HasDraw rows start)
        command.0,
    command.1,
  )
  command_asked (DrawNow g) taken_well command = (
    taken_well,
    is_met (codes "draw") (λ rows. HasDrawNow rows g)
        command.0,
    command.1,
  )
  command_asked (Help text) taken_well command = absurd command
  command_asked (Wrong text) taken_well command = inr
      (command.0, (taken_well, is_met_at_fault command.0 command.1), command.2)

  -- and only a rehearsal where the words ask for that
  pub command_rehearses : (usage : Usage) → IsCommand met usage → IsRehearsal words → usage ≡ Rehearse
  command_rehearses Rehearse command rehearsal = refl
  command_rehearses (Verify s) command rehearsal = absurd
      (no_rehearsal words (codes "verify") command.0.0 refl refl (sym is ∙ command.0.1) rehearsal)
  command_rehearses (Reshard g) command rehearsal = absurd
      (no_rehearsal words (codes "plan-reshard") command.0.0 refl refl (sym is ∙ command.0.1) rehearsal)
  command_rehearses (Rebalance g) command rehearsal =
      absurd (no_rehearsal words (codes "plan-rebalance") command.0.0 refl refl (sym is ∙ command.0.1) rehearsal)
  command_rehearses (Serve g) command rehearsal = absurd
      (no_rehearsal words (codes "serve") command.0.0 refl refl (sym is ∙ command.0.1) rehearsal)
  command_rehearses (Survey g) command rehearsal = absurd
      (no_rehearsal words (codes "survey") command.0.0 refl refl (sym is ∙ command.0.1) rehearsal)
  command_rehearses (Apply g) command rehearsal = absurd
      (no_rehearsal words (codes "apply") command.0.0 refl refl (sym is ∙ command.0.1) rehearsal)
  command_rehearses (Resume g) command rehearsal = absurd
      (no_rehearsal words (codes "resume") command.0.0 refl refl (sym is ∙ command.0.1) rehearsal)
  command_rehearses (Explain g) command rehearsal = absurd
      (no_rehearsal words (codes "explain") command.0.0 refl refl (sym is ∙ command.0.1) rehearsal)
  command_rehearses (Drain g) command rehearsal = absurd
      (no_rehearsal words (codes "plan-drain") command.0.0 refl refl (sym is ∙ command.0.1) rehearsal)
  command_rehearses (Forget g) command rehearsal = absurd
      (no_rehearsal words (codes "forget") command.0.0 refl refl (sym is ∙ command.0.1) rehearsal)
  command_rehearses (Draw g) command rehearsal = absurd
      (no_rehearsal words (codes "draw") command.0.0 refl refl (sym is ∙ command.0.1) rehearsal)
  command_rehearses (DrawNow g) command rehearsal = absurd
      (no_rehearsal words (codes "draw") command.0.0 refl refl (sym is ∙ command.0.1) rehearsal)
  command_rehearses (Help text) command rehearsal = absurd command
  command_rehearses (Wrong text) command rehearsal = absurd
      (no_faulty_rehearsal words command.0 (is_met_at_fault command.0 command.1) rehearsal)

-- ---- what is reported of a fault

pub asked : (words : Words) (fault : ErrorKind) (usage : Usage) → (fault ≡ OutOfMemory) ⊎ IsAmong fault (faults words)
    → ReportsOf fault usage → AsksFor words usage
asked words fault Rehearse among reported = absurd reported
asked words fault (Verify s) among reported = absurd reported
asked words fault (Reshard g) among reported = absurd reported
asked words fault (Rebalance g) among reported = absurd reported
asked words fault (Serve g) among reported = absurd reported
asked words fault (Survey g) among reported = absurd reported
asked words fault (Apply g) among reported = absurd reported
asked words fault (Resume g) among reported = absurd reported
asked words fault (Explain g) among reported = absurd reported
asked words fault (Drain g) among reported = absurd reported
asked words fault (Forget g) among reported = absurd reported
asked words fault (Draw g) among reported = absurd reported
asked words fault (DrawNow g) among reported = absurd reported
asked words fault (Help text) (inl none) reported =
    absurd (elim reported [
      | inl e ↦ (let bad : OutOfMemory ≡ DisplayHelp = sym none ∙ e in cc)
      | inr e ↦
          (let bad : OutOfMemory ≡ DisplayVersion = sym none ∙ e in cc)
    ])
asked words fault (Help text) (inr among) reported = (fault, among, reported)
asked words fault (Wrong text) (inl none) reported = absurd (reported.2 none)
asked words fault (Wrong text) (inr among) reported = inl (fault, among, reported)

-- ---- what a parse says of its command is said of this one

simple_and_free : (kind : StartKind) → is_simple_and_free (reshard kind) ≡ true
simple_and_free kind = refl

pub found : (P : Kinds → Type 0) (command : App) (given words : Words) → command ≡ reshard (start_kind words)
    → given ≡ codes "reshard" ∷ words
    → (is_simple_and_free command ≡ true → P (fault_of command given)) → P (faults words)
found P command given words is are says = subst P (ap₂ fault_of is are)
    (says (ap is_simple_and_free is ∙ simple_and_free (start_kind words)))

simple : (kind : StartKind) → is_simple (reshard kind) ≡ true
simple kind = refl

pub met : (command : App) (given words : Words) (m : ArgMatches) → command ≡ reshard (start_kind words)
    → given ≡ codes "reshard" ∷ words
    → HasMatchesOf command given m → subcommand_rows_of m ≡ command_in words
met command given words m is are has = (has (ap is_simple is ∙ simple (start_kind words))).1
    ∙ ap₂ subcommand_of is are

-- where nothing is at fault, a parse fails out of memory alone
pub memory_alone : (kinds : Kinds) (e : Error) → HasKind kinds e → kinds ≡ [] → kind_of e ≡ OutOfMemory
memory_alone [] e (inl h) none = h
memory_alone [] e (inr h) none = absurd h
memory_alone (k ∷ ks) e h none = cc

pub err_gives_nothing : {T E : Type 0} (r : Result T E) (P : T → Type 0) → IsErr r → IfOk r P
err_gives_nothing (Ok x) P h = cc
err_gives_nothing (Err e) P h = tt

-- ---- what is at fault where nothing is mistaken

long_help : faults (codes "--help" ∷ []) ≡ DisplayHelp ∷ []
unfolding clap_on_literals
long_help = refl

short_help : faults (codes "-h" ∷ []) ≡ DisplayHelp ∷ []
unfolding clap_on_literals
short_help = refl

help_alone : (words : Words) → IsCallForHelp words → faults words ≡ DisplayHelp ∷ []
help_alone words (inl e) = rw e long_help
help_alone words (inr e) = rw e short_help

pub no_mistake_in_help : (words : Words) → IsCallForHelp words → MayBeMistaken words → ⊥
no_mistake_in_help words help (fault, among, mistake) = go (rw (help_alone words help) at among)
  where
    go : IsAmong fault (DisplayHelp ∷ []) → ⊥
    go (inl is) = mistake.0 is
    go (inr none) = none

long_version : faults (codes "--version" ∷ []) ≡ DisplayVersion ∷ []
unfolding clap_on_literals
long_version = refl

short_version : faults (codes "-V" ∷ []) ≡ DisplayVersion ∷ []
unfolding clap_on_literals
short_version = refl

version_alone : (words : Words) → IsCallForVersion words → faults words ≡ DisplayVersion ∷ []
version_alone words (inl e) = rw e long_version
version_alone words (inr e) = rw e short_version

pub no_mistake_in_version : (words : Words) → IsCallForVersion words → MayBeMistaken words → ⊥
no_mistake_in_version words version (fault, among, mistake) = go (rw (version_alone words version) at among)
  where
    go : IsAmong fault (DisplayVersion ∷ []) → ⊥
    go (inl is) = mistake.1 is
    go (inr none) = none

pub no_mistake_in_call : (words : Words) → IsCallForHelp words ⊎ IsCallForVersion words → MayBeMistaken words → ⊥
no_mistake_in_call words (inl help) m = no_mistake_in_help words help m
no_mistake_in_call words (inr version) m = no_mistake_in_version words version m

-- nor is such a call taken
one_fault : (k : ErrorKind) → k ∷ [] ≡ [] → ⊥
one_fault k e = cc

pub call_is_no_command : (words : Words) → IsCallForHelp words ⊎ IsCallForVersion words → faults words ≡ [] → ⊥
call_is_no_command words (inl help) e = one_fault DisplayHelp (sym (help_alone words help) ∙ e)
call_is_no_command words (inr version) e = one_fault DisplayVersion (sym (version_alone words version) ∙ e)

-- ---- what is reported of a fault of options is a line

uneven_line : (s : Sizes) → EndsLine (fault_text (Uneven s))
uneven_line s =
    let middle : List ℕ = codes " is above --nodes " ++ decimal s.nodes in
    (codes "error: --even " ++ (decimal s.owning ++ middle), ap (λ t. codes "error: --even " ++ t) (sym (append_assoc (decimal s.owning) middle (10 ∷ []))))

fault_line : (fault : OptionFault) → EndsLine (fault_text fault)
fault_line (Uneven s) = uneven_line s
fault_line TwoStarts = (codes "error: --cluster stands in place of --nodes and --even", refl)
fault_line NoCluster = (codes "error: --expect goes with --cluster", refl)
fault_line SurveyBeside = (codes "error: --survey stands in place of --cluster, --nodes and --even", refl)
fault_line TwoLogStarts = (codes "error: --append and --overwrite do not go together", refl)
fault_line NoLog = (codes "error: --append and --overwrite go with --log", refl)
fault_line NowAlone = (codes "error: --now goes with --cluster", refl)
fault_line NoCount = (codes "error: --slots is a number, 0 to 16384, or all", refl)
fault_line NoAddress = (codes "error: --cluster is 1 to 8 addresses as 127.0.0.1:7000, with commas between them", refl)
fault_line NoId = (
  codes "error: --dead-for-good is IDs of 40 digits, 0 to 9 and a to f, with commas between them",
  refl,
)

pub fault_asked : {E : Type 0} (name : Text) (rows : List Row) (fault : OptionFault) (r : Result Usage E)
    → IsAtFault rows fault
    → IfOk r (IsFaultLine fault) → IfOk r (IsCommand (Some (name, rows)))
fault_asked name rows fault (Err e) is line = tt
fault_asked name rows fault (Ok Rehearse) is line = absurd line
fault_asked name rows fault (Ok (Verify start)) is line = absurd line
fault_asked name rows fault (Ok (Reshard g)) is line = absurd line
fault_asked name rows fault (Ok (Rebalance g)) is line = absurd line
fault_asked name rows fault (Ok (Serve g)) is line = absurd line
fault_asked name rows fault (Ok (Survey g)) is line = absurd line
fault_asked name rows fault (Ok (Apply g)) is line = absurd line
fault_asked name rows fault (Ok (Resume g)) is line = absurd line
fault_asked name rows fault (Ok (Explain g)) is line = absurd line
fault_asked name rows fault (Ok (Drain g)) is line = absurd line
fault_asked name rows fault (Ok (Forget g)) is line = absurd line
fault_asked name rows fault (Ok (Draw g)) is line = absurd line
fault_asked name rows fault (Ok (DrawNow g)) is line = absurd line
fault_asked name rows fault (Ok (Help text)) is line = absurd line
fault_asked name rows fault (Ok (Wrong text)) is line = (fault, (name, (rows, refl, is)), line)

pub fault_lines : {E : Type 0} (fault : OptionFault) (r : Result Usage E) → IfOk r (IsFaultLine fault)
    → IfOk r HasWholeLines
fault_lines fault (Err e) line = tt
fault_lines fault (Ok Rehearse) line = absurd line
fault_lines fault (Ok (Verify start)) line = absurd line
fault_lines fault (Ok (Reshard g)) line = absurd line
fault_lines fault (Ok (Rebalance g)) line = absurd line
fault_lines fault (Ok (Serve g)) line = absurd line
fault_lines fault (Ok (Survey g)) line = absurd line
fault_lines fault (Ok (Apply g)) line = absurd line
fault_lines fault (Ok (Resume g)) line = absurd line
fault_lines fault (Ok (Explain g)) line = absurd line
fault_lines fault (Ok (Drain g)) line = absurd line
fault_lines fault (Ok (Forget g)) line = absurd line
fault_lines fault (Ok (Draw g)) line = absurd line
fault_lines fault (Ok (DrawNow g)) line = absurd line
fault_lines fault (Ok (Help text)) line = absurd line
fault_lines fault (Ok (Wrong text)) line = subst EndsLine (sym line) (fault_line fault)
