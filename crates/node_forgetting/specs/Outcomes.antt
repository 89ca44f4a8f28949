-- What a node answers that is told to forget another one (the page of CLUSTER FORGET).
use Rattle.std.specs.Prelude.{ℕ, Bool, cond, List, [], ◌∷◌, ◌++◌, Option, None, Some, Ok, Err, codes, length, take}
use Rattle.std.specs.Str.{bytes_eq}
use Rattle.resp2_wire.specs.declared.reply.Reply.{Reply}
use Rattle.resp2_wire.specs.declared.reply.Reply.TheVariants as reply
use Rattle.server_commands.specs.Spelling.{spelled}
use Rattle.server_commands.specs.Telling.{told}
use Rattle.server_commands.specs.declared.credentials.Credentials.{Credentials}
use Rattle.server_links.specs.Exchanges.{Answer}

-- `CLUSTER FORGET id`
abbrev pub forget_words : (id : List ℕ) → List (List ℕ)
forget_words id = codes "CLUSTER" ∷ (codes "FORGET" ∷ (id ∷ []))

abbrev pub forget_request : (id : List ℕ) → List ℕ
forget_request id = spelled (forget_words id)

-- `ERR Unknown node ..`: there is nothing to forget
abbrev pub is_unknown : List ℕ → Bool
is_unknown t = bytes_eq (take 16 t) (codes "ERR Unknown node")

abbrev pub strange : List ℕ
strange = codes "it answered something strange"

abbrev pub silent : List ℕ
silent = codes "it gave no answer"

-- by a line, and by an error
abbrev pub line_reason : List ℕ → Option (List ℕ)
line_reason t = cond (bytes_eq t (codes "OK")) None (Some strange)

abbrev pub error_reason : Option Credentials → List ℕ → Option (List ℕ)
error_reason k t = cond (is_unknown t) None (Some (codes "it answered " ++ told k t))

-- why the node is not told, by its answer, if it is not
abbrev pub reason_in : Option Credentials → Answer → Option (List ℕ)
reason_in k (Ok (reply.Simple t)) = line_reason t
reason_in k (Ok (reply.Error t)) = error_reason k t
reason_in k (Ok other) = Some strange
reason_in k (Err f) = Some silent
