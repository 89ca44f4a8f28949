-- All that COMMAND tells: of the commands of clients, as their table has it, of the questions, and of what a session
-- answers by itself.
use Rattle.std.specs.Prelude.{ℕ, pos, negsuc, List, [], ◌∷◌, ◌++◌, map, Option, codes}
use Rattle.std.specs.List.{find}
use Rattle.std.specs.Str.{str_eq_ignore_ascii_case}
use Rattle.client_commands.specs.Table.{Row, rows}
use Rattle.command_list.specs.Entries.{Entry, told, page, arity_of, no_key, no_flags, fast, any_time, any_time_fast}
use Rattle.command_list.specs.Entries.{first_of_all}

-- what is told of a command of clients is what its row says
abbrev pub command : Row → Entry
command r = told r.text (arity_of r.arity) r.flags r.keys (page r.group r.since r.summary)

abbrev connection_group : List ℕ
connection_group = codes "connection"

abbrev server_group : List ℕ
server_group = codes "server"

abbrev cluster_group : List ℕ
cluster_group = codes "cluster"

-- each of them is answered as a question, and nothing else is (`CommandTellsQuestions` of client_questions Kinds)
abbrev pub questions : List Entry
questions =
    told (codes "hello") (negsuc 0) first_of_all no_key
    (page connection_group (codes "6.0.0") (codes "Handshake with Redis")) ∷
    told (codes "info") (negsuc 0) any_time no_key
    (page server_group (codes "1.0.0") (codes "Get information and statistics about the server")) ∷
    told (codes "command") (negsuc 0) any_time no_key
    (page server_group (codes "2.8.13") (codes "Get array of Redis command details")) ∷
    told (codes "cluster") (negsuc 1) no_flags no_key
    (page cluster_group (codes "3.0.0") (codes "A container for cluster commands")) ∷
    told (codes "client") (negsuc 1) no_flags no_key
    (page connection_group (codes "2.4.0") (codes "A container for client connection commands")) ∷
    told (codes "config") (negsuc 1) no_flags no_key
    (page server_group (codes "2.0.0") (codes "A container for server configuration commands")) ∷
    told (codes "select") (pos 2) any_time_fast no_key
    (page connection_group (codes "1.0.0") (codes "Change the selected database for the current connection")) ∷
    told (codes "echo") (pos 2) any_time_fast no_key
    (page connection_group (codes "1.0.0") (codes "Echo the given string")) ∷
    told (codes "quit") (negsuc 0) first_of_all no_key
    (page connection_group (codes "1.0.0") (codes "Close the connection")) ∷
    told (codes "readonly") (pos 1) any_time_fast no_key
    (page cluster_group (codes "3.0.0") (codes "Enables read queries for a connection to a cluster replica node")) ∷
    told (codes "readwrite") (pos 1) any_time_fast no_key
    (page cluster_group (codes "3.0.0") (codes "Disables read queries for a connection to a cluster replica node")) ∷
    told (codes "auth") (negsuc 1) first_of_all no_key
    (page connection_group (codes "1.0.0") (codes "Authenticate to the server")) ∷
    []

-- what each session answers by itself, whether or not it hears questions
abbrev pub by_itself : List Entry
by_itself =
    told (codes "ping") (negsuc 0) fast no_key
    (page connection_group (codes "1.0.0") (codes "Ping the server")) ∷
    told (codes "asking") (pos 1) fast no_key
    (page cluster_group (codes "3.0.0") (codes "Sent by cluster clients after an -ASK redirect")) ∷
    []

unfoldable pub listed : List Entry
listed = map command rows ++ (questions ++ by_itself)

-- the command of this name, without regard to ASCII case
unfoldable pub entry_of : List ℕ → Option Entry
entry_of word = find (λ e. str_eq_ignore_ascii_case word e.text) listed
