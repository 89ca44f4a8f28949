-- What questions are answered, and what they change.
use Rattle.std.specs.Prelude.{ℕ, Bool, List, [], ◌∷◌, Option, Some, None, codes}
use Rattle.resp2_wire.specs.Stream.{Words}
use Rattle.resp2_wire.specs.declared.reply.Reply.{Reply}
use Rattle.resp2_wire.specs.declared.reply.Reply.TheVariants.{Null}
use Rattle.cluster_node.specs.NodeView.{NodeView}
use Rattle.client_questions.specs.Kinds.{kind_of}
use Rattle.client_questions.specs.Kinds as kinds
use Rattle.client_questions.specs.Client.{client_reply, name_after_client}
use Rattle.client_questions.specs.Cluster.{asked_of_node, refusal_unless, node_reply}
use Rattle.client_questions.specs.Command.{command_reply}
use Rattle.client_questions.specs.Config.{config_reply}
use Rattle.client_questions.specs.Hello.{hello_reply, name_after_hello}
use Rattle.client_questions.specs.Info.{info_reply}
use Rattle.client_questions.specs.Refusals.{ok}
use Rattle.client_questions.specs.Connection.{select_reply, echo_reply, alone_reply, auth_reply}
use Rattle.client_questions.specs.declared.caller.Caller.{Caller}
use Rattle.client_questions.specs.declared.cluster.NodeQuestion.{NodeQuestion}
use Rattle.client_questions.specs.declared.kind.Kind.{Kind}
use Rattle.client_questions.specs.declared.kind.Kind.TheVariants.{Hello, Client, Cluster, Quit, Plain}
use Rattle.client_questions.specs.declared.kind.PlainKind.{PlainKind}
use Rattle.client_questions.specs.declared.kind.PlainKind.TheVariants.{Info, Command, Config, Select, Echo, ReadOnly}
use Rattle.client_questions.specs.declared.kind.PlainKind.TheVariants.{ReadWrite, Auth}

-- the first word of a request is a question's
abbrev pub is_question : Words → Bool
is_question words = kinds.is_question words

-- the words after the first
abbrev pub arguments : Words → Words
arguments [] = []
arguments (word ∷ ws) = ws

-- what is answered whoever asks
abbrev pub plain_reply : PlainKind → Words → Reply
plain_reply Info ws = info_reply ws
plain_reply Command ws = command_reply ws
plain_reply Config ws = config_reply ws
plain_reply Select ws = select_reply ws
plain_reply Echo ws = echo_reply ws
plain_reply ReadOnly ws = alone_reply (codes "readonly") ws
plain_reply ReadWrite ws = alone_reply (codes "readwrite") ws
plain_reply Auth ws = auth_reply ws

abbrev pub reply_of : Caller → Kind → Words → Option Reply
reply_of caller Hello ws = Some (hello_reply caller.id ws)
reply_of caller Client ws = Some (client_reply caller ws)
reply_of caller Cluster ws = refusal_unless (asked_of_node ws) ws
reply_of caller Quit ws = Some ok
reply_of caller (Plain kind) ws = Some (plain_reply kind ws)

abbrev pub name_of : List ℕ → Kind → Words → List ℕ
name_of old Hello ws = name_after_hello old ws
name_of old Client ws = name_after_client old ws
name_of old Cluster ws = old
name_of old Quit ws = old
name_of old (Plain kind) ws = old

abbrev pub renamed : Caller → List ℕ → Caller
renamed caller name = record { id = caller.id; name = name }

abbrev reply_if : Caller → Option Kind → Words → Option Reply
reply_if caller None ws = None
reply_if caller (Some kind) ws = reply_of caller kind ws

abbrev name_if : List ℕ → Option Kind → Words → List ℕ
name_if old None ws = old
name_if old (Some kind) ws = name_of old kind ws

-- the reply to a question for which no node is looked at; there is none where the node is to be read
unfoldable pub reply_own : Caller → Words → Option Reply
reply_own caller words = reply_if caller (kind_of words) (arguments words)

-- the connection as the question leaves it
unfoldable pub caller_after : Caller → Words → Caller
caller_after caller words = renamed caller (name_if caller.name (kind_of words) (arguments words))

abbrev by_node : ℕ → NodeView → Option NodeQuestion → Reply
by_node port n None = Null
by_node port n (Some q) = node_reply port n q

-- what a question that reads the node is answered, where the port of the first node is this
unfoldable pub reply_by_node : (port : ℕ) → NodeView → Words → Reply
reply_by_node port n words = by_node port n (asked_of_node (arguments words))
