-- The parts of a master's text, one after the other.
use Rattle.std.proofs.Common.{◌≡◌, ◌∙◌, ℕ, List, ◌++◌, ap, append_assoc, refl}
use Rattle.cluster_admin.specs.Surveys.{Survey}
use Rattle.server_commands.specs.declared.book.Server.{Server}
use Rattle.survey_texts.specs.Texts.{node_line}
use Rattle.survey_details.specs.Masters.{IsKeysText, IsMasterText, IsReplicasText, Telling, slots_text}
use Rattle.survey_details.specs.declared.details.Details.{Details}

-- four texts after what was there
four : (old a b k t o1 o2 o3 new : List ℕ) → o1 ≡ old ++ a → o2 ≡ o1 ++ b → o3 ≡ o2 ++ k → new ≡ o3 ++ t
    → new ≡ old ++ (a ++ (b ++ (k ++ t)))
four old a b k t o1 o2 o3 new first second third fourth =
    fourth
    ∙ ap (λ o. o ++ t) third
    ∙ append_assoc o2 k t
    ∙ ap (λ o. o ++ (k ++ t)) second
    ∙ append_assoc o1 b (k ++ t)
    ∙ ap (λ o. o ++ (b ++ (k ++ t))) first
    ∙ append_assoc old a (b ++ (k ++ t))

-- the master's line, its slots and its keys are put, and then its replicas
pub master_put : (telling : Telling) (details : Details) (book : List Server) (v : Survey) (n : ℕ)
    (old o1 o2 o3 new keys : List ℕ) → o1 ≡ old ++ node_line book v n → o2 ≡ o1 ++ slots_text details.slots v n
    → o3 ≡ o2 ++ keys → IsKeysText telling details.keys n keys
    → (t : List ℕ) × (new ≡ o3 ++ t) × IsReplicasText telling n t
    → (t : List ℕ) × (new ≡ old ++ t) × IsMasterText telling details book v n t
master_put telling details book v n old o1 o2 o3 new keys first second third told put = (
  node_line book v n ++ (slots_text details.slots v n ++ (keys ++ put.0)),
  four old (node_line book v n) (slots_text details.slots v n) keys put.0 o1 o2 o3 new first second third put.1,
  (keys, put.0, told, put.2, refl),
)
