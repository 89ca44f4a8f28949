-- What is said of the versions of servers.
use Rattle.std.specs.Prelude.{ℕ, ◌+◌, cond, List, [], ◌∷◌, ◌++◌, codes}
use Rattle.server_versions.specs.Versions.{are_same, are_tried}
use Rattle.server_versions.specs.declared.versions.ServerVersion.{ServerVersion}
use Rattle.server_versions.specs.declared.versions.ServerVersion.TheVariants.{Redis, Untold, Valkey}
use Rattle.survey_texts.specs.Texts.{node_text}

abbrev pub version_words : ServerVersion → List ℕ
version_words (Redis t) = codes " runs Redis " ++ t
version_words (Valkey t) = codes " runs Valkey " ++ t
version_words Untold = codes " does not tell its version"

-- `n0 runs Redis 7.0.15`
abbrev pub version_line : (node : ℕ) → ServerVersion → List ℕ
version_line n v = node_text n ++ (version_words v ++ 10 ∷ [])

-- the lines of the nodes from this one on
abbrev pub lines_from : (node : ℕ) → List ServerVersion → List ℕ
lines_from n [] = []
lines_from n (v ∷ vs) = version_line n v ++ lines_from (n + 1) vs

abbrev pub different_line : List ServerVersion → List ℕ
different_line vs = cond (are_same vs) [] (codes "the nodes run different versions\n")

abbrev pub untried_line : List ServerVersion → List ℕ
untried_line vs = cond (are_tried vs) [] (codes "reshard was not tried at each of these versions\n")

abbrev pub version_lines : List ServerVersion → List ℕ
version_lines vs = lines_from 0 vs ++ (different_line vs ++ untried_line vs)
