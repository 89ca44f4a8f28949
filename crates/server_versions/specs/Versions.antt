-- The version in a server's answer to INFO: lines `name:value`, each of which ends with CR and LF (the page of INFO).
use Rattle.std.specs.Prelude.{ℕ, Bool, true, false, ◌&&◌, ◌||◌, cond, not, nat_le, List, [], ◌∷◌, Option, None, Some}
use Rattle.std.specs.Prelude.{codes, drop, length}
use Rattle.std.specs.List.{list_all}
use Rattle.byte_texts.specs.Parts.{parts, split_once}
use Rattle.byte_texts.specs.Words.{begins, is}
use Rattle.server_versions.specs.declared.versions.ServerVersion.{ServerVersion}
use Rattle.server_versions.specs.declared.versions.ServerVersion.TheVariants.{Redis, Untold, Valkey}

-- a byte that can be shown: 33 to 126
abbrev pub is_shown : ℕ → Bool
is_shown b = nat_le 33 b && nat_le b 126

abbrev pub are_shown : List ℕ → Bool
are_shown t = list_all is_shown t

abbrev pub is_nothing : List ℕ → Bool
is_nothing [] = true
is_nothing (b ∷ t) = false

-- 1 to 32 bytes that can be shown
abbrev pub is_version : List ℕ → Bool
is_version t = not (is_nothing t) && (nat_le (length t) 32 && are_shown t)

abbrev pub version_part : Option (List ℕ × List ℕ) → Option (List ℕ)
version_part None = None
version_part (Some p) = cond (is_version p.0) (Some p.0) None

-- the version before the first CR
abbrev pub value_before : List ℕ → Option (List ℕ)
value_before t = version_part (split_once 13 t)

-- the version after the name in the first line that begins with it
abbrev pub value_in : (name : List ℕ) → (lines : List (List ℕ)) → Option (List ℕ)
value_in name [] = None
value_in name (line ∷ lines) =
    cond (begins name line) (value_before (drop (length name) line)) (value_in name lines)

abbrev pub redis_of : Option (List ℕ) → ServerVersion
redis_of None = Untold
redis_of (Some t) = Redis t

abbrev pub redis_in : List ℕ → ServerVersion
redis_in t = redis_of (value_in (codes "redis_version:") (parts 10 t))

abbrev pub valkey_or : Option (List ℕ) → ServerVersion → ServerVersion
valkey_or None other = other
valkey_or (Some t) other = Valkey t

-- a server of Valkey tells a version of Redis, too
abbrev pub version_in : List ℕ → ServerVersion
version_in t = valkey_or (value_in (codes "valkey_version:") (parts 10 t)) (redis_in t)

-- ---- some versions

abbrev pub is_same : ServerVersion → ServerVersion → Bool
is_same (Redis t) (Redis u) = is t u
is_same (Valkey t) (Valkey u) = is t u
is_same Untold Untold = true
is_same (Redis t) (Valkey u) = false
is_same (Redis t) Untold = false
is_same (Valkey t) (Redis u) = false
is_same (Valkey t) Untold = false
is_same Untold (Redis u) = false
is_same Untold (Valkey u) = false

abbrev pub are_all : ServerVersion → List ServerVersion → Bool
are_all v vs = list_all (is_same v) vs

abbrev pub are_same : List ServerVersion → Bool
are_same [] = true
are_same (v ∷ vs) = are_all v vs

-- the versions at which the tool was tried; of one that is not told nothing is said
abbrev pub is_tried : ServerVersion → Bool
is_tried (Redis t) = is (codes "7.0.15") t || (is (codes "8.0.2") t || is (codes "8.0.6") t)
is_tried (Valkey t) = is (codes "8.0.1") t || (is (codes "8.1.1") t || is (codes "9.1.2") t)
is_tried Untold = true

abbrev pub are_tried : List ServerVersion → Bool
are_tried vs = list_all is_tried vs
