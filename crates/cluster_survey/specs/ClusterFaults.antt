-- What is said where a cluster was not found, or can't be surveyed: it stands after `survey refused: `.
use Rattle.std.specs.Prelude.{ℕ, List, ◌++◌, codes, decimal}
use Rattle.std.specs.Net.Text.{socket_v4_text}
use Rattle.cluster_views.specs.Faults as survey
use Rattle.cluster_survey.specs.declared.cluster_fault.ClusterFault.{ClusterFault}
use Rattle.cluster_survey.specs.declared.cluster_fault.ClusterFault.TheVariants.{NoConnection, NoDescriptor, NotLetIn}
use Rattle.cluster_survey.specs.declared.cluster_fault.ClusterFault.TheVariants.{NoAnswer, Strange, Named, Survey}
use Rattle.cluster_survey.specs.declared.cluster_fault.ClusterFault.TheVariants.{BeyondMasters, MissingNode, NoMaster}
use Rattle.server_commands.specs.NamedErrors.{advice, word_of}
use Rattle.server_commands.specs.declared.named_error.NamedError.TheVariants as error

abbrev pub text_of : ClusterFault → List ℕ
text_of (NoConnection a) = codes "no connection to " ++ socket_v4_text a
text_of (NoDescriptor a) =
    codes "no connection to " ++ (socket_v4_text a ++ codes ": too many open files; allow more with ulimit -n")
text_of (NotLetIn a) =
    codes "AUTH refused at " ++ (socket_v4_text a ++ (codes ": " ++ advice error.WrongPassword))
text_of (NoAnswer a) = socket_v4_text a ++ codes " gave no answer"
text_of (Strange a) = socket_v4_text a ++ codes " answered something strange"
text_of (Named a e) = socket_v4_text a ++ (codes " answered " ++ (word_of e ++ (codes ": " ++ advice e)))
text_of (MissingNode n name) =
    survey.node_text n ++ (codes " of the plan is " ++ (name ++ codes ", which the cluster does not have"))
text_of (NoMaster n name) =
    survey.node_text n ++ (codes " of the plan is " ++ (name ++ codes ", which is no master"))
text_of (BeyondMasters n masters) = survey.node_text n
    ++ (codes " of the plan is beyond the " ++ (decimal masters ++ codes " masters of the cluster: plan again"))
text_of (Survey f) = survey.text_of f
