-- What the words of a command line ask for. The program's name is none of them.
use Rattle.std.specs.Prelude.{◌≡◌, ◌≢◌, ◌⊎◌, ◌≤◌, ◌||◌, ℕ, Bool, List, [], ◌∷◌, ◌++◌, String, Option, Some, true}
use Rattle.std.specs.Prelude.{codes, cond, map, option_map, string_bytes, take}
use Rattle.std.specs.List.{list_any}
use Rattle.std.specs.Str.{bytes_eq}
use Rattle.clap.specs.Words.{App, IsAmong, Kinds, Row, Shape, Text, fault_of, new_app, subcommand_of, with_subcommand}
use Rattle.clap.specs.Simple.{new_shape, on_top}
use Rattle.clap.specs.declared.error.kind.ErrorKind.{ErrorKind}
use Rattle.clap.specs.declared.error.kind.ErrorKind.TheVariants.{DisplayHelp, DisplayVersion, OutOfMemory}
use Rattle.command_words.specs.declared.faults.OptionFault.{OptionFault}
use Rattle.command_words.specs.declared.usage.Usage.{Usage}
use Rattle.command_words.specs.declared.usage.Usage.TheVariants.{Rehearse, Verify, Reshard, Rebalance}
use Rattle.command_words.specs.declared.usage.Usage.TheVariants.{Serve, Survey, Apply, Resume, Explain, Drain}
use Rattle.command_words.specs.declared.usage.Usage.TheVariants.{Forget, Draw, DrawNow, Help, Wrong}
use Rattle.command_words.specs.declared.usage.ApplyWords.{ApplyWords}
use Rattle.command_words.specs.declared.usage.ClusterWords.{ClusterWords}
use Rattle.command_words.specs.declared.usage.DrainWords.{DrainWords}
use Rattle.command_words.specs.declared.usage.ExplainWords.{ExplainWords}
use Rattle.command_words.specs.declared.usage.ForgetWords.{ForgetWords}
use Rattle.command_words.specs.declared.usage.RebalanceWords.{RebalanceWords}
use Rattle.command_words.specs.declared.usage.ReshardWords.{ReshardWords}
use Rattle.command_words.specs.declared.usage.ResumeWords.{ResumeWords}
use Rattle.command_words.specs.declared.usage.ServeWords.{ServeWords}
use Rattle.command_words.specs.declared.usage.Start.{Start}
use Rattle.command_words.specs.declared.usage.SurveyWords.{SurveyWords}
use Rattle.command_words.specs.Surveying.{HasSurvey, full_flag, keys_flag, slots_flag, stranded_flag}
use Rattle.command_words.specs.Clusters.{HasApply, IsAddressed, IsApply, cluster_option, expect_option}
use Rattle.command_words.specs.Clusters.{keys_option, log_option, stop_file_option, timeout_option}
use Rattle.command_words.specs.Clusters.{append_flag, dead_for_good_option, overwrite_flag, plan_option}
use Rattle.command_words.specs.Clusters.{wait_for_news_flag}
use Rattle.command_words.specs.Faults.{IsAtFault, fault_text}
use Rattle.command_words.specs.Forgetting.{HasForget, node_argument}
use Rattle.command_words.specs.Options.{even_option, nodes_option}
pub use Rattle.command_words.specs.Options.{IsCluster}
use Rattle.command_words.specs.Planning.{HasDrain, HasRebalance, HasReshard, batch_option, from_option}
use Rattle.command_words.specs.Planning.{slots_option, some_to_option}
use Rattle.command_words.specs.Planning.{threshold_option, to_option, use_empty_flag, weights_option}
use Rattle.command_words.specs.Resuming.{HasResume, IsResume, by_option}
use Rattle.command_words.specs.Serving.{HasServe, answers_clients_flag, base_port_option, connections_option}
use Rattle.command_words.specs.Serving.{plan_flag, workers_option}
use Rattle.command_words.specs.Showing.{HasDraw, HasDrawNow, HasExplain, json_flag, now_flag}
use Rattle.command_words.specs.SlotCounts.{IsSlotCount}
use Rattle.command_words.specs.StartKinds.{is_cluster, is_even, is_survey}
use Rattle.command_words.specs.Starts.{HasStart, IsStart, survey_option}
use Rattle.command_words.specs.declared.start_kind.StartKind.{StartKind}
use Rattle.command_words.specs.declared.start_kind.StartKind.TheVariants.{Cluster, Even, Survey as BySurvey}

abbrev pub Words : Type 0
Words = List (List ℕ)

abbrev pub texts : {Z : Type 0} → List (String Z) → Words
texts = map string_bytes

-- ---- the commands, in the form for an even split, for a cluster of servers, or for the file of a survey

-- one of the words is `--cluster`, or begins with `--cluster=`
abbrev pub is_cluster_word : List ℕ → Bool
is_cluster_word word = bytes_eq word (codes "--cluster") || bytes_eq (take 10 word) (codes "--cluster=")

abbrev pub names_cluster : Words → Bool
names_cluster = list_any is_cluster_word

-- one of the words is `--survey`, or begins with `--survey=`
abbrev pub is_survey_word : List ℕ → Bool
is_survey_word word = bytes_eq word (codes "--survey") || bytes_eq (take 9 word) (codes "--survey=")

abbrev pub names_survey : Words → Bool
names_survey = list_any is_survey_word

-- the form that the words have
abbrev pub start_kind : Words → StartKind
start_kind words = cond (names_cluster words) Cluster (cond (names_survey words) BySurvey Even)

abbrev pub verify : (kind : StartKind) → Shape
verify kind = record (new_shape (codes "verify")) {
  rules = nodes_option (is_even kind) ∷ even_option ∷ cluster_option (is_cluster kind) ∷ expect_option
      ∷ survey_option (is_survey kind) ∷ [];
}

abbrev pub plan_reshard : (kind : StartKind) → Shape
plan_reshard kind = record (new_shape (codes "plan-reshard")) {
  rules = nodes_option (is_even kind) ∷ even_option ∷ cluster_option (is_cluster kind) ∷ expect_option
      ∷ survey_option (is_survey kind)
      ∷ from_option ∷ to_option ∷ slots_option ∷ batch_option ∷ [];
}

abbrev pub plan_rebalance : (kind : StartKind) → Shape
plan_rebalance kind = record (new_shape (codes "plan-rebalance")) {
  rules = nodes_option (is_even kind) ∷ even_option ∷ cluster_option (is_cluster kind) ∷ expect_option
      ∷ survey_option (is_survey kind)
      ∷ weights_option ∷ threshold_option ∷ use_empty_flag ∷ batch_option ∷ [];
}

abbrev pub serve : Shape
serve = record (new_shape (codes "serve")) {
  rules = nodes_option true ∷ even_option ∷ base_port_option ∷ workers_option ∷ connections_option ∷ plan_flag
      ∷ answers_clients_flag ∷ [];
}

abbrev pub survey : Shape
survey = record (new_shape (codes "survey")) {
  rules = cluster_option true ∷ expect_option ∷ slots_flag ∷ keys_flag ∷ stranded_flag ∷ full_flag ∷ [];
}

abbrev pub apply : Shape
apply = record (new_shape (codes "apply")) {
  rules = cluster_option true ∷ expect_option ∷ timeout_option ∷ keys_option ∷ log_option ∷ append_flag
      ∷ overwrite_flag ∷ stop_file_option ∷ wait_for_news_flag ∷ dead_for_good_option ∷ plan_option ∷ [];
}

abbrev pub resume : Shape
resume = record (new_shape (codes "resume")) {
  rules = cluster_option true ∷ expect_option ∷ timeout_option ∷ keys_option ∷ log_option ∷ stop_file_option
      ∷ wait_for_news_flag ∷ dead_for_good_option ∷ by_option ∷ plan_option ∷ [];
}

abbrev pub explain : (kind : StartKind) → Shape
explain kind = record (new_shape (codes "explain")) {
  rules = nodes_option (is_even kind) ∷ even_option ∷ cluster_option (is_cluster kind) ∷ expect_option
      ∷ survey_option (is_survey kind) ∷ json_flag ∷ [];
}

abbrev pub draw : (kind : StartKind) → Shape
draw kind = record (new_shape (codes "draw")) {
  rules = nodes_option (is_even kind) ∷ even_option ∷ cluster_option (is_cluster kind) ∷ expect_option
      ∷ survey_option (is_survey kind) ∷ now_flag ∷ [];
}

abbrev pub plan_drain : (kind : StartKind) → Shape
plan_drain kind = record (new_shape (codes "plan-drain")) {
  rules = nodes_option (is_even kind) ∷ even_option ∷ cluster_option (is_cluster kind) ∷ expect_option
      ∷ survey_option (is_survey kind)
      ∷ from_option ∷ some_to_option ∷ batch_option ∷ [];
}

abbrev pub forget : Shape
forget = record (new_shape (codes "forget")) { rules = node_argument ∷ cluster_option true ∷ expect_option ∷ [] }

-- the command line, one subcommand of which has to be there
abbrev pub top : App
top = on_top (λ s. record s {
  propagate_version = true;
  has_version = true;
  subcommand_required = true;
  arg_required_else_help = true;
}) (new_app (codes "reshard"))

abbrev pub reshard : (kind : StartKind) → App
reshard kind =
    with_subcommand
    (with_subcommand
    (with_subcommand
    (with_subcommand
    (with_subcommand
    (with_subcommand
    (with_subcommand
    (with_subcommand
    (with_subcommand
    (with_subcommand
    (with_subcommand (with_subcommand top (new_shape (codes "rehearse"))) (verify kind))
    (plan_reshard kind))
    (plan_rebalance kind))
    serve)
    survey)
    apply)
    resume)
    (explain kind))
    (draw kind))
    (plan_drain kind))
    forget

-- what the parser may find at fault with the words
abbrev pub faults : Words → Kinds
faults words = fault_of (reshard (start_kind words)) (codes "reshard" ∷ words)

-- the subcommand that the words name, and what was found for its options
abbrev pub command_in : Words → Option (Text × List Row)
command_in words = subcommand_of (reshard (start_kind words)) (codes "reshard" ∷ words)

-- a rehearsal is asked for: by the one word `rehearse`, after which `--` may end the flags
abbrev pub IsRehearsal : Words → Type 0
IsRehearsal words = (words ≡ codes "rehearse" ∷ []) ⊎ (words ≡ codes "rehearse" ∷ codes "--" ∷ [])

-- so many slots as there may be, and so many keys a batch
abbrev pub IsReshard : ReshardWords → Type 0
IsReshard g = IsStart g.start × IsSlotCount g.slots × (1 ≤ g.batch) × (g.batch ≤ 1000)

abbrev pub IsRebalance : RebalanceWords → Type 0
IsRebalance g = IsStart g.start × (g.threshold ≤ 100) × (1 ≤ g.batch) × (g.batch ≤ 1000)

abbrev pub IsDraining : DrainWords → Type 0
IsDraining g = IsStart g.start × (1 ≤ g.batch) × (g.batch ≤ 1000)

-- ports for eight nodes, and a seat for each thread
abbrev pub IsServe : ServeWords → Type 0
IsServe g = IsCluster g.sizes × (1 ≤ g.base_port) × (g.base_port ≤ 65528) × (1 ≤ g.workers) × (g.workers ≤ 32)

-- this subcommand was met, and this is what was found for its options
abbrev pub IsMet : Option (Text × List Row) → Text → (List Row → Type 0) → Type 0
IsMet met name P = (rows : List Row) × (met ≡ Some (name, rows)) × P rows

-- a subcommand was met, and its options have this fault
abbrev pub IsMetAtFault : Option (Text × List Row) → OptionFault → Type 0
IsMetAtFault met fault = (name : Text) × IsMet met name (λ rows. IsAtFault rows fault)

-- the subcommand is none of those that have options
abbrev pub IsNoOther : Option (Text × List Row) → Type 0
IsNoOther met = (option_map (λ p. p.0) met ≢ Some (codes "verify"))
    × (option_map (λ p. p.0) met ≢ Some (codes "plan-reshard"))
    × (option_map (λ p. p.0) met ≢ Some (codes "plan-rebalance"))
    × (option_map (λ p. p.0) met ≢ Some (codes "serve"))
    × (option_map (λ p. p.0) met ≢ Some (codes "survey"))
    × (option_map (λ p. p.0) met ≢ Some (codes "apply"))
    × (option_map (λ p. p.0) met ≢ Some (codes "resume"))
    × (option_map (λ p. p.0) met ≢ Some (codes "explain"))
    × (option_map (λ p. p.0) met ≢ Some (codes "draw"))
    × (option_map (λ p. p.0) met ≢ Some (codes "plan-drain"))
    × (option_map (λ p. p.0) met ≢ Some (codes "forget"))

-- what a subcommand that was met asks for
abbrev pub IsCommand : Option (Text × List Row) → Usage → Type 0
IsCommand met Rehearse = IsNoOther met
IsCommand met (Verify start) = IsMet met (codes "verify") (λ rows. HasStart rows start) × IsStart start
IsCommand met (Reshard g) = IsMet met (codes "plan-reshard") (λ rows. HasReshard rows g) × IsReshard g
IsCommand met (Rebalance g) = IsMet met (codes "plan-rebalance") (λ rows. HasRebalance rows g) × IsRebalance g
IsCommand met (Serve g) = IsMet met (codes "serve") (λ rows. HasServe rows g) × IsServe g
IsCommand met (Survey g) = IsMet met (codes "survey") (λ rows. HasSurvey rows g) × IsAddressed g.cluster
IsCommand met (Apply g) = IsMet met (codes "apply") (λ rows. HasApply rows g) × IsApply g
IsCommand met (Resume g) = IsMet met (codes "resume") (λ rows. HasResume rows g) × IsResume g
IsCommand met (Explain g) = IsMet met (codes "explain") (λ rows. HasExplain rows g) × IsStart g.start
IsCommand met (Drain g) = IsMet met (codes "plan-drain") (λ rows. HasDrain rows g) × IsDraining g
IsCommand met (Forget g) = IsMet met (codes "forget") (λ rows. HasForget rows g) × IsAddressed g.cluster
IsCommand met (Draw start) = IsMet met (codes "draw") (λ rows. HasDraw rows start) × IsStart start
IsCommand met (DrawNow g) = IsMet met (codes "draw") (λ rows. HasDrawNow rows g) × IsAddressed g
IsCommand met (Help text) = ⊥
IsCommand met (Wrong text) = (fault : OptionFault) × IsMetAtFault met fault × (string_bytes text ≡ fault_text fault)

-- The words are taken as those of `verify`, with this start.
abbrev pub AsksToVerify : Words → Start → Type 0
AsksToVerify words start = (faults words ≡ [])
    × IsMet (command_in words) (codes "verify") (λ rows. HasStart rows start)

-- a plan is to be verified
abbrev pub IsVerification : Words → Start → Type 0
IsVerification words start = AsksToVerify words start × IsStart start

-- a plan of so many slots is asked for
abbrev pub IsResharding : Words → ReshardWords → Type 0
IsResharding words g = (faults words ≡ [])
    × IsMet (command_in words) (codes "plan-reshard") (λ rows. HasReshard rows g) × IsReshard g

-- a plan by weights is asked for
abbrev pub IsRebalancing : Words → RebalanceWords → Type 0
IsRebalancing words g = (faults words ≡ [])
    × IsMet (command_in words) (codes "plan-rebalance") (λ rows. HasRebalance rows g) × IsRebalance g

-- a plan that drains nodes is asked for
abbrev pub IsDrainPlanning : Words → DrainWords → Type 0
IsDrainPlanning words g = (faults words ≡ [])
    × IsMet (command_in words) (codes "plan-drain") (λ rows. HasDrain rows g) × IsDraining g

-- a node is to be forgotten
abbrev pub IsForgetting : Words → ForgetWords → Type 0
IsForgetting words g = (faults words ≡ [])
    × IsMet (command_in words) (codes "forget") (λ rows. HasForget rows g) × IsAddressed g.cluster

-- a cluster is to be served
abbrev pub IsServing : Words → ServeWords → Type 0
IsServing words g = (faults words ≡ [])
    × IsMet (command_in words) (codes "serve") (λ rows. HasServe rows g) × IsServe g

-- a cluster of servers is to be surveyed
abbrev pub IsSurvey : Words → SurveyWords → Type 0
IsSurvey words g = (faults words ≡ [])
    × IsMet (command_in words) (codes "survey") (λ rows. HasSurvey rows g) × IsAddressed g.cluster

-- a plan is to run at a cluster of servers
abbrev pub IsApplying : Words → ApplyWords → Type 0
IsApplying words g = (faults words ≡ [])
    × IsMet (command_in words) (codes "apply") (λ rows. HasApply rows g) × IsApply g

-- open slots are to be closed at a cluster of servers
abbrev pub IsResuming : Words → ResumeWords → Type 0
IsResuming words g = (faults words ≡ [])
    × IsMet (command_in words) (codes "resume") (λ rows. HasResume rows g) × IsResume g

-- what a plan does is to be told
abbrev pub IsExplaining : Words → ExplainWords → Type 0
IsExplaining words g = (faults words ≡ [])
    × IsMet (command_in words) (codes "explain") (λ rows. HasExplain rows g) × IsStart g.start

-- what a plan does is to be drawn
abbrev pub IsDrawing : Words → Start → Type 0
IsDrawing words start = (faults words ≡ [])
    × IsMet (command_in words) (codes "draw") (λ rows. HasDraw rows start) × IsStart start

-- what is there is to be drawn
abbrev pub IsDrawingNow : Words → ClusterWords → Type 0
IsDrawingNow words g = (faults words ≡ [])
    × IsMet (command_in words) (codes "draw") (λ rows. HasDrawNow rows g) × IsAddressed g

-- one of these, but for a fault of its options
abbrev pub HasOptionFault : Words → OptionFault → Type 0
HasOptionFault words fault = (faults words ≡ []) × IsMetAtFault (command_in words) fault

-- help is asked for by its flag alone
abbrev pub IsCallForHelp : Words → Type 0
IsCallForHelp words = (words ≡ codes "--help" ∷ []) ⊎ (words ≡ codes "-h" ∷ [])

-- the version is asked for by its flag alone
abbrev pub IsCallForVersion : Words → Type 0
IsCallForVersion words = (words ≡ codes "--version" ∷ []) ⊎ (words ≡ codes "-V" ∷ [])

-- to the parser a request for help is a fault too
abbrev pub IsRequest : ErrorKind → Type 0
IsRequest fault = (fault ≡ DisplayHelp) ⊎ (fault ≡ DisplayVersion)

abbrev pub IsMistake : ErrorKind → Type 0
IsMistake fault = (fault ≢ DisplayHelp) × (fault ≢ DisplayVersion) × (fault ≢ OutOfMemory)

abbrev pub MayAskForHelp : Words → Type 0
MayAskForHelp words = (fault : ErrorKind) × IsAmong fault (faults words) × IsRequest fault

abbrev pub MayBeMistaken : Words → Type 0
MayBeMistaken words = (fault : ErrorKind) × IsAmong fault (faults words) × IsMistake fault

-- what is reported of a fault
abbrev pub ReportsOf : ErrorKind → Usage → Type 0
ReportsOf fault Rehearse = ⊥
ReportsOf fault (Verify start) = ⊥
ReportsOf fault (Reshard g) = ⊥
ReportsOf fault (Rebalance g) = ⊥
ReportsOf fault (Serve g) = ⊥
ReportsOf fault (Survey g) = ⊥
ReportsOf fault (Apply g) = ⊥
ReportsOf fault (Resume g) = ⊥
ReportsOf fault (Explain g) = ⊥
ReportsOf fault (Drain g) = ⊥
ReportsOf fault (Forget g) = ⊥
ReportsOf fault (Draw start) = ⊥
ReportsOf fault (DrawNow g) = ⊥
ReportsOf fault (Help text) = IsRequest fault
ReportsOf fault (Wrong text) = IsMistake fault

-- what the words ask for
abbrev pub AsksFor : Words → Usage → Type 0
AsksFor words Rehearse = IsRehearsal words
AsksFor words (Verify start) = IsVerification words start
AsksFor words (Reshard g) = IsResharding words g
AsksFor words (Rebalance g) = IsRebalancing words g
AsksFor words (Serve g) = IsServing words g
AsksFor words (Survey g) = IsSurvey words g
AsksFor words (Apply g) = IsApplying words g
AsksFor words (Resume g) = IsResuming words g
AsksFor words (Explain g) = IsExplaining words g
AsksFor words (Drain g) = IsDrainPlanning words g
AsksFor words (Forget g) = IsForgetting words g
AsksFor words (Draw start) = IsDrawing words start
AsksFor words (DrawNow g) = IsDrawingNow words g
AsksFor words (Help text) = MayAskForHelp words
AsksFor words (Wrong text) =
    MayBeMistaken words
    ⊎ ((fault : OptionFault) × HasOptionFault words fault × (string_bytes text ≡ fault_text fault))

-- the line that reports the fault
abbrev pub IsFaultLine : OptionFault → Usage → Type 0
IsFaultLine fault (Wrong text) = string_bytes text ≡ fault_text fault
IsFaultLine fault _ = ⊥

-- ---- what is written

-- whole lines, one at least
abbrev pub EndsLine : List ℕ → Type 0
EndsLine text = (lines : List ℕ) × (text ≡ lines ++ 10 ∷ [])

abbrev pub HasWholeLines : Usage → Type 0
HasWholeLines Rehearse = Unit {0}
HasWholeLines (Verify start) = Unit {0}
HasWholeLines (Reshard g) = Unit {0}
HasWholeLines (Rebalance g) = Unit {0}
HasWholeLines (Serve g) = Unit {0}
HasWholeLines (Survey g) = Unit {0}
HasWholeLines (Apply g) = Unit {0}
HasWholeLines (Resume g) = Unit {0}
HasWholeLines (Explain g) = Unit {0}
HasWholeLines (Drain g) = Unit {0}
HasWholeLines (Forget g) = Unit {0}
HasWholeLines (Draw start) = Unit {0}
HasWholeLines (DrawNow g) = Unit {0}
HasWholeLines (Help text) = EndsLine (string_bytes text)
HasWholeLines (Wrong text) = EndsLine (string_bytes text)
