-- How an administrator's requests are spelt to a server (the pages of CLUSTER SETSLOT, CLUSTER COUNTKEYSINSLOT, CLUSTER
-- GETKEYSINSLOT, CLUSTER NODES, MIGRATE and AUTH).
use Rattle.std.specs.Prelude.{ℕ, ◌<◌, List, [], ◌∷◌, ◌++◌, Option, Some, None, codes, decimal}
use Rattle.cluster_admin.specs.declared.admin.AdminCommand.{AdminCommand}
use Rattle.cluster_admin.specs.declared.admin.AdminCommand.TheVariants.{Importing, Migrating, SetNode, Stable, KeysIn}
use Rattle.cluster_admin.specs.declared.admin.AdminCommand.TheVariants.{Migrate}
use Rattle.resp2_wire.specs.Encoding.{encoding}
use Rattle.resp2_wire.specs.RequestLaws.{bulks}
use Rattle.resp2_wire.specs.Tree.{array}
use Rattle.server_commands.specs.Servers.{server_at}
use Rattle.server_commands.specs.declared.book.Server.{Server}
use Rattle.server_commands.specs.declared.credentials.Credentials.{Credentials}

-- `CLUSTER SETSLOT slot HOW ..`
abbrev pub setslot_words : (slot : ℕ) → (how : List (List ℕ)) → List (List ℕ)
setslot_words slot how = codes "CLUSTER" ∷ codes "SETSLOT" ∷ decimal slot ∷ how

-- `CLUSTER COUNTKEYSINSLOT slot`
abbrev pub count_words : (slot : ℕ) → List (List ℕ)
count_words slot = codes "CLUSTER" ∷ codes "COUNTKEYSINSLOT" ∷ decimal slot ∷ []

-- `CLUSTER GETKEYSINSLOT slot count`
abbrev pub listing_words : (slot count : ℕ) → List (List ℕ)
listing_words slot count = codes "CLUSTER" ∷ codes "GETKEYSINSLOT" ∷ decimal slot ∷ decimal count ∷ []

-- what a MIGRATE shows its target: a password, after a user's name where there is one
abbrev pub login_by : (user : Option (List ℕ)) → (password : List ℕ) → List (List ℕ)
login_by None password = codes "AUTH" ∷ password ∷ []
login_by (Some user) password = codes "AUTH2" ∷ user ∷ password ∷ []

abbrev pub login_words : Option Credentials → List (List ℕ)
login_words None = []
login_words (Some c) = login_by c.user c.password

-- `MIGRATE host port "" 0 timeout [AUTH password | AUTH2 user password] KEYS key ..`, to the target
abbrev pub migrate_words : Server → (timeout : ℕ) → Option Credentials → (keys : List (List ℕ)) → List (List ℕ)
migrate_words target timeout login keys =
    codes "MIGRATE" ∷ target.host ∷ decimal target.port ∷ [] ∷ codes "0" ∷ decimal timeout
    ∷ (login_words login ++ codes "KEYS" ∷ keys)

-- the words of the command; a MIGRATE waits so many milliseconds for its target
abbrev pub words_of : List Server → (timeout : ℕ) → Option Credentials → AdminCommand → List (List ℕ)
words_of b t k (Importing slot source) = setslot_words slot (codes "IMPORTING" ∷ (server_at b source).name ∷ [])
words_of b t k (Migrating slot target) = setslot_words slot (codes "MIGRATING" ∷ (server_at b target).name ∷ [])
words_of b t k (SetNode slot owner) = setslot_words slot (codes "NODE" ∷ (server_at b owner).name ∷ [])
words_of b t k (Stable slot) = setslot_words slot (codes "STABLE" ∷ [])
words_of b t k (KeysIn slot count) = listing_words slot count
words_of b t k (Migrate keys target) = migrate_words (server_at b target) t k keys

-- words in the protocol's bytes
abbrev pub spelled : List (List ℕ) → List ℕ
spelled ws = encoding (array (bulks ws))

abbrev pub request_of : List Server → (timeout : ℕ) → Option Credentials → AdminCommand → List ℕ
request_of b t k c = spelled (words_of b t k c)

-- the node that the command names is one of so many
abbrev pub Names : (nodes : ℕ) → AdminCommand → Type 0
Names nodes (Importing slot source) = source < nodes
Names nodes (Migrating slot target) = target < nodes
Names nodes (SetNode slot owner) = owner < nodes
Names nodes (Stable slot) = Unit {0}
Names nodes (KeysIn slot count) = Unit {0}
Names nodes (Migrate keys target) = target < nodes

-- ---- what comes first on a connection

abbrev pub auth_by : (user : Option (List ℕ)) → (password : List ℕ) → List (List ℕ)
auth_by None password = codes "AUTH" ∷ password ∷ []
auth_by (Some user) password = codes "AUTH" ∷ user ∷ password ∷ []

-- `AUTH password`, or `AUTH user password`
abbrev pub auth_request : Credentials → List ℕ
auth_request c = spelled (auth_by c.user c.password)

-- ---- CLUSTER NODES

abbrev pub nodes_request : List ℕ
nodes_request = codes "*2\r\n$7\r\nCLUSTER\r\n$5\r\nNODES\r\n"
