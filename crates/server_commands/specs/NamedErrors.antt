-- Errors of servers that an operator can do something about, by their first words (the texts of Redis 7.0).
use Rattle.std.specs.Prelude.{ℕ, Bool, cond, nat_eq, List, [], ◌∷◌, codes, length, take, drop, Option, Some, None}
use Rattle.std.specs.Cmp.Lexicographic.{pointwise}
use Rattle.byte_texts.specs.Parts.{parts}
use Rattle.byte_texts.specs.Words.{is}
use Rattle.server_commands.specs.declared.named_error.NamedError.{NamedError}
use Rattle.server_commands.specs.declared.named_error.NamedError.TheVariants as error

-- these bytes stand at the front
abbrev pub starts : (start text : List ℕ) → Bool
starts start t = pointwise nat_eq (take (length start) t) start

-- the words of a MIGRATE's target, where the error is the target's
abbrev pub behind : (start text : List ℕ) → List ℕ
behind start t = cond (starts start t) (drop (length start) t) t

abbrev pub target_words : List ℕ → List ℕ
target_words t = behind (codes "ERR Target instance replied with error: ") t

abbrev pub error_of_word : List ℕ → Option NamedError
error_of_word w =
    cond (is (codes "NOAUTH") w) (Some error.NoPassword)
    (cond (is (codes "WRONGPASS") w) (Some error.WrongPassword)
    (cond (is (codes "NOPERM") w) (Some error.NoRights)
    (cond (is (codes "LOADING") w) (Some error.Loading)
    (cond (is (codes "BUSY") w) (Some error.Busy)
    (cond (is (codes "MISCONF") w) (Some error.Unsaved)
    (cond (is (codes "CLUSTERDOWN") w) (Some error.ClusterDown) None))))))

abbrev pub error_of_words : List (List ℕ) → Option NamedError
error_of_words [] = None
error_of_words (w ∷ ws) = error_of_word w

-- the error that begins with the first word
abbrev pub named_error : List ℕ → Option NamedError
named_error t = error_of_words (parts 32 (target_words t))

abbrev pub word_of : NamedError → List ℕ
word_of error.NoPassword = codes "NOAUTH"
word_of error.WrongPassword = codes "WRONGPASS"
word_of error.NoRights = codes "NOPERM"
word_of error.Loading = codes "LOADING"
word_of error.Busy = codes "BUSY"
word_of error.Unsaved = codes "MISCONF"
word_of error.ClusterDown = codes "CLUSTERDOWN"

-- what an operator can do
abbrev pub advice : NamedError → List ℕ
advice error.NoPassword = codes "set RESHARD_AUTH, and RESHARD_USER for a user of an ACL"
advice error.WrongPassword = codes "RESHARD_AUTH or RESHARD_USER is not what this server knows"
advice error.NoRights =
    codes "the user needs +cluster +migrate +client +select +restore +restore-asking and ~*"
advice error.Loading = codes "wait until the server has read its data"
advice error.Busy = codes "wait until the script there ends, or send the server SCRIPT KILL"
advice error.Unsaved = codes "the server can't save its data: its log says why"
advice error.ClusterDown = codes "the cluster serves no keys: ask each node for CLUSTER INFO"
