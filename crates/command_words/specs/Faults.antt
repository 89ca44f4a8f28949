-- What is wrong with options of which each is well formed.
use Rattle.std.specs.Prelude.{◌≡◌, ◌⊎◌, ◌<◌, ◌++◌, ℕ, List, None, Some, IsSome, codes, decimal, false, true}
use Rattle.std.specs.declared.net.socket_addr.SocketAddrV4.{SocketAddrV4}
use Rattle.clap.specs.Words.{Row, Text, first_of}
use Rattle.command_words.specs.declared.faults.OptionFault.{OptionFault}
use Rattle.command_words.specs.declared.sizes.Sizes.{Sizes}
use Rattle.command_words.specs.declared.faults.OptionFault.TheVariants.{NoAddress, NoCluster, NoCount, NoId}
use Rattle.command_words.specs.declared.faults.OptionFault.TheVariants.{NoLog, NowAlone, SurveyBeside, TwoLogStarts}
use Rattle.command_words.specs.declared.faults.OptionFault.TheVariants.{TwoStarts, Uneven}
use Rattle.command_words.specs.Addresses.{AreAddresses}
use Rattle.command_words.specs.Clusters.{cluster_of, expect_of, is_sized}
use Rattle.command_words.specs.Ids.{are_ids_if_given}
use Rattle.command_words.specs.Planning.{flag_of}
use Rattle.command_words.specs.SlotCounts.{slot_count}
use Rattle.command_words.specs.Starts.{HasEven, survey_of}

-- what is reported
abbrev pub fault_text : OptionFault → List ℕ
fault_text (Uneven s) =
    codes "error: --even " ++ (decimal s.owning ++ (codes " is above --nodes " ++ (decimal s.nodes ++ codes "\n")))
fault_text TwoStarts = codes "error: --cluster stands in place of --nodes and --even\n"
fault_text SurveyBeside = codes "error: --survey stands in place of --cluster, --nodes and --even\n"
fault_text NoCluster = codes "error: --expect goes with --cluster\n"
fault_text NowAlone = codes "error: --now goes with --cluster\n"
fault_text NoAddress = codes "error: --cluster is 1 to 8 addresses as 127.0.0.1:7000, with commas between them\n"
fault_text NoId = codes "error: --dead-for-good is IDs of 40 digits, 0 to 9 and a to f, with commas between them\n"
fault_text NoCount = codes "error: --slots is a number, 0 to 16384, or all\n"
fault_text TwoLogStarts = codes "error: --append and --overwrite do not go together\n"
fault_text NoLog = codes "error: --append and --overwrite go with --log\n"

-- what was found for the options has this fault
abbrev pub IsAtFault : List Row → OptionFault → Type 0
IsAtFault rows (Uneven s) = HasEven rows s × (s.nodes < s.owning)
IsAtFault rows TwoStarts = IsSome (cluster_of rows) × (is_sized rows ≡ true)
IsAtFault rows SurveyBeside =
    IsSome (survey_of rows) × ((is_sized rows ≡ true) ⊎ IsSome (cluster_of rows))
IsAtFault rows NoCluster = (cluster_of rows ≡ None) × IsSome (expect_of rows)
IsAtFault rows NowAlone = (cluster_of rows ≡ None) × (flag_of (codes "now") rows ≡ true)
IsAtFault rows NoAddress = (is_sized rows ≡ false) × (text : Text) × (cluster_of rows ≡ Some text)
    × ((addresses : List SocketAddrV4) → AreAddresses text addresses → ⊥)
IsAtFault rows NoId = are_ids_if_given (first_of (codes "dead-for-good") rows) ≡ false
IsAtFault rows NoCount =
    (text : Text) × (first_of (codes "slots") rows ≡ Some text) × (slot_count text ≡ None)
IsAtFault rows TwoLogStarts =
    (flag_of (codes "append") rows ≡ true) × (flag_of (codes "overwrite") rows ≡ true)
IsAtFault rows NoLog = (first_of (codes "log") rows ≡ None)
    × ((flag_of (codes "append") rows ≡ true) ⊎ (flag_of (codes "overwrite") rows ≡ true))
