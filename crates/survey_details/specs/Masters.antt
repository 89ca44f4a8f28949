-- What is printed of the masters of a survey, by what each of them told.
use Rattle.std.specs.Prelude.{◌≡◌, ℕ, zero, suc, Bool, true, false, cond, List, [], ◌++◌, Option, None, Some}
use Rattle.cluster_admin.specs.Surveys.{Survey}
use Rattle.listed_nodes.specs.declared.node_line.NodeLine.{NodeLine}
use Rattle.server_commands.specs.declared.book.Server.{Server}
use Rattle.survey_texts.specs.Details.{keys_line, replica_lines, slots_line, untold_replicas}
use Rattle.survey_texts.specs.Texts.{node_line}
use Rattle.survey_details.specs.declared.details.Details.{Details}

-- What masters tell of their keys and of their replicas: None, where one was asked and did not tell it.
pub record Telling : Type 1 where
  pub keys : (node : ℕ) → Option ℕ → Type 0
  pub replicas : (node : ℕ) → Option (List NodeLine) → Type 0

-- the line of its slots, if it is wanted
abbrev pub slots_text : (wanted : Bool) → Survey → (node : ℕ) → List ℕ
slots_text wanted v n = cond wanted (slots_line v n) []

abbrev pub replicas_text : Option (List NodeLine) → List ℕ
replicas_text None = untold_replicas
replicas_text (Some replicas) = replica_lines replicas

module _ (telling : Telling) where
  -- the number of keys that the master told, if it was asked
  abbrev pub IsKeysText : (wanted : Bool) → (node : ℕ) → (text : List ℕ) → Type 0
  IsKeysText true n t = (keys : Option ℕ) × telling.keys n keys × (t ≡ keys_line keys)
  IsKeysText false n t = t ≡ []

  -- the replicas that it told
  abbrev pub IsReplicasText : (node : ℕ) → (text : List ℕ) → Type 0
  IsReplicasText n t = (told : Option (List NodeLine)) × telling.replicas n told × (t ≡ replicas_text told)

  module _ (details : Details) (book : List Server) (v : Survey) where
    -- its line, its slots, its keys and its replicas
    abbrev pub IsMasterText : (node : ℕ) → (text : List ℕ) → Type 0
    IsMasterText n t = (keys : List ℕ) × (replicas : List ℕ) × IsKeysText details.keys n keys
        × IsReplicasText n replicas
        × (t ≡ node_line book v n ++ (slots_text details.slots v n ++ (keys ++ replicas)))

    -- the texts of the first masters, so many
    abbrev pub AreMasterTexts : (count : ℕ) → (text : List ℕ) → Type 0
    AreMasterTexts zero t = t ≡ []
    AreMasterTexts (suc k) t =
        (a : List ℕ) × (b : List ℕ) × (t ≡ a ++ b) × AreMasterTexts k a × IsMasterText k b
