-- What is said of a node that is to be forgotten.
use Rattle.std.specs.Prelude.{◌≡◌, ℕ, List, [], codes}
use Rattle.command_words.specs.declared.usage.ForgetWords.{ForgetWords}
use Rattle.node_forgetting.specs.Forgetting.{IsForgetAnswer, NamesNoNode}

-- what is reported of a word that is no node of the cluster
abbrev pub misnamed_node : List ℕ
misnamed_node = codes "error: the node to forget is one of the cluster, as n3\n"

abbrev pub ForgetNamesNone : ForgetWords → (report : List ℕ) → Type 0
ForgetNamesNone g report = NamesNoNode g × (report ≡ misnamed_node)

-- nothing is remarked
abbrev pub ForgetSays : ForgetWords → (status : ℕ) → (text remark : List ℕ) → Type 0
ForgetSays g status text remark = IsForgetAnswer g status text × (remark ≡ [])
