-- What a server's reply is for its administrator (the pages of CLUSTER SETSLOT, CLUSTER GETKEYSINSLOT, MIGRATE and
-- AUTH, and the texts of Redis 7.0).
use Rattle.std.specs.Prelude.{◌≡◌, ℕ, Bool, false, cond, not, ◌&&◌, ◌==◌, List, [], ◌∷◌, codes, Option, Some, None}
use Rattle.std.specs.Prelude.{option_map, IsPermutation, IsSorted}
use Rattle.std.specs.Ordering.{nat_cmp}
use Rattle.std.specs.Cmp.Lexicographic.{slice_cmp}
use Rattle.byte_texts.specs.Words.{begins, is}
use Rattle.resp2_wire.specs.Tree.{Trees, bulk, none, more}
use Rattle.cluster_admin.specs.declared.admin.AdminCommand.{AdminCommand}
use Rattle.cluster_admin.specs.declared.admin.AdminCommand.TheVariants.{Importing, Migrating, SetNode, Stable, KeysIn}
use Rattle.cluster_admin.specs.declared.admin.AdminCommand.TheVariants.{Migrate}
use Rattle.cluster_admin.specs.declared.admin.AdminFault.{AdminFault}
use Rattle.cluster_admin.specs.declared.admin.AdminFault.TheVariants as fault
use Rattle.cluster_admin.specs.declared.admin.AdminReply.TheVariants as admin
use Rattle.resp2_wire.specs.declared.reply.Reply.{Reply}
use Rattle.resp2_wire.specs.declared.reply.Reply.TheVariants as reply
use Rattle.server_commands.specs.declared.answers.Answered.{Answered}
use Rattle.server_commands.specs.declared.answers.Answered.TheVariants as told

-- ---- lines of text

abbrev pub done_if_ok : List ℕ → Answered
done_if_ok t = cond (is (codes "OK") t) (told.Reply admin.Ok) told.Strange

-- a line that reports no error; a listing is none
abbrev pub line_answer : AdminCommand → List ℕ → Answered
line_answer (Importing s m) t = done_if_ok t
line_answer (Migrating s m) t = done_if_ok t
line_answer (SetNode s m) t = done_if_ok t
line_answer (Stable s) t = done_if_ok t
line_answer (KeysIn s count) t = told.Strange
line_answer (Migrate ks m) t = cond (is (codes "NOKEY") t) (told.Reply admin.NoKey) (done_if_ok t)

-- ---- errors

-- the texts with which a SETSLOT is refused
abbrev pub setslot_fault : List ℕ → Option AdminFault
setslot_fault t =
    cond (begins (codes "ERR I'm not the owner of hash slot ") t) (Some fault.NotOwner)
    (cond (begins (codes "ERR I'm already the owner of hash slot ") t) (Some fault.AlreadyOwner)
    (cond (begins (codes "ERR I don't know about node ") t) (Some fault.UnknownNode)
    (cond (begins (codes "ERR Unknown node ") t) (Some fault.UnknownNode)
    (cond (begins (codes "ERR Can't assign hashslot ") t) (Some fault.KeysRemain) None))))

-- the texts with which a MIGRATE is refused
abbrev pub migrate_fault : List ℕ → Option AdminFault
migrate_fault t =
    cond (begins (codes "ERR Target instance replied with error: BUSYKEY ") t) (Some fault.Busy)
    (cond (begins (codes "ERR Target instance replied with error: MOVED ") t) (Some fault.NotImporting) None)

abbrev pub fault_of : AdminCommand → List ℕ → Option AdminFault
fault_of (Importing s m) t = setslot_fault t
fault_of (Migrating s m) t = setslot_fault t
fault_of (SetNode s m) t = setslot_fault t
fault_of (Stable s) t = setslot_fault t
fault_of (KeysIn s count) t = None
fault_of (Migrate ks m) t = migrate_fault t

abbrev pub refused_or : Option AdminFault → List ℕ → Answered
refused_or (Some f) t = told.Reply (admin.Refused f)
refused_or None t = told.Error t

-- the node is told that a slot is another's
abbrev pub tells_other : (node : ℕ) → AdminCommand → Bool
tells_other n (SetNode s m) = not (m == n)
tells_other n other = false

-- A node that is told that a slot is another's, and has become a replica by then, has nothing to set. That is no error.
abbrev pub error_answer : (node : ℕ) → AdminCommand → List ℕ → Answered
error_answer n c t =
    cond (tells_other n c && is (codes "ERR Please use SETSLOT only with masters.") t) (told.Reply admin.Ok)
    (refused_or (fault_of c t) t)

-- ---- listings

-- the texts that the replies are, if all are bulk strings
abbrev pub texts_of : Trees → Option (List (List ℕ))
texts_of none = Some []
texts_of (more (bulk t) rs) = option_map (λ ts. t ∷ ts) (texts_of rs)
texts_of (more other rs) = None

-- the keys that were told, ascending by their bytes, or a strange reply where not all are texts
abbrev pub IsListed : Option (List (List ℕ)) → Answered → Type 0
IsListed (Some ts) (told.Reply (admin.Keys ks)) = IsPermutation ts ks × IsSorted (slice_cmp nat_cmp) ks
IsListed (Some ts) other = ⊥
IsListed None a = a ≡ told.Strange

abbrev pub list_answer : AdminCommand → Trees → Answered → Type 0
list_answer (KeysIn s count) rs a = IsListed (texts_of rs) a
list_answer other rs a = a ≡ told.Strange

-- ---- replies

-- what the reply of the node to the command says
abbrev pub Says : (node : ℕ) → AdminCommand → Reply → Answered → Type 0
Says n c (reply.Simple t) a = a ≡ line_answer c t
Says n c (reply.Error t) a = a ≡ error_answer n c t
Says n c (reply.Array rs) a = list_answer c rs a
Says n c other a = a ≡ told.Strange

-- the reply to AUTH lets the connection in; a server without a password asks for none
abbrev pub lets_in : Reply → Bool
lets_in (reply.Simple t) = is (codes "OK") t
lets_in (reply.Error t) = begins (codes "ERR AUTH <password> called without any password configured") t
lets_in other = false
