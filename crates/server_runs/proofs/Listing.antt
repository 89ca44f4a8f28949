-- What servers answer to a listing: keys, or nothing that is a reply.
use Rattle.std.proofs.Common.{◌≡◌, ℕ, Bool, true, false, List, [], ◌∷◌, length, Option, Some, None, Result, Ok, Err}
use Rattle.std.proofs.Common.{refl, inl, inr, subst, sym}
use Rattle.cluster_admin.specs.declared.admin.AdminCommand.{AdminCommand}
use Rattle.cluster_admin.specs.declared.admin.AdminCommand.TheVariants.{Importing, Migrating, SetNode, Stable, KeysIn}
use Rattle.cluster_admin.specs.declared.admin.AdminCommand.TheVariants.{Migrate}
use Rattle.cluster_admin.specs.declared.admin.AdminReply.{AdminReply}
use Rattle.cluster_admin.specs.declared.admin.AdminReply.TheVariants as admin
use Rattle.cluster_admin.specs.declared.call.AdminCall.{AdminCall}
use Rattle.cluster_admin.specs.declared.port_fault.PortFault.{PortFault}
use Rattle.redis_servers.proofs.Listeners.{own_reply}
use Rattle.redis_servers.specs.Calls.{AnswersBy, Commands, Confirms, Given, Reads, ReadsError, is_excuse, unsent_fault}
use Rattle.redis_servers.specs.RunHistories.{RunHistory}
use Rattle.redis_servers.specs.Runs.{Runs}
use Rattle.redis_servers.specs.declared.port.ServersPort as port
use Rattle.redis_servers.specs.declared.setup.PortSetup.{PortSetup}
use Rattle.resp2_wire.specs.declared.reply.Reply.{Reply}
use Rattle.resp2_wire.specs.declared.reply.Reply.TheVariants as reply
use Rattle.server_commands.specs.Answers.{IsListed, texts_of}
use Rattle.server_commands.specs.Spelling.{request_of}
use Rattle.server_commands.specs.declared.answers.Answered.TheVariants as told
use Rattle.redis_servers.specs.Asking.{AsksNode}
use Rattle.server_links.specs.Streams.{Streams}
use Rattle.server_links.specs.declared.link.Link as link
use Rattle.cluster_admin.specs.Keys.{Key}

-- a listing is answered with keys
abbrev pub ListsKeys : AdminCommand → AdminReply → Type 0
ListsKeys (KeysIn s b) r = (ks : List Key) × (r ≡ admin.Keys ks)
ListsKeys c r = Unit {0}

abbrev pub AllListKeys : List AdminCall → Type 0
AllListKeys [] = Unit {0}
AllListKeys (c ∷ cs) = ListsKeys c.command c.reply × AllListKeys cs

-- ---- at a port to servers

no_strange : (a : AdminReply) → told.Reply a ≡ told.Strange → ⊥
no_strange a e = cc

no_error : (a : AdminReply) (t : List ℕ) → told.Reply a ≡ told.Error t → ⊥
no_error a t e = cc

listed : (o : Option (List (List ℕ))) (a : AdminReply) → IsListed o (told.Reply a)
    → (ks : List Key) × (a ≡ admin.Keys ks)
listed (Some ts) (admin.Keys ks) l = (ks, refl)
listed (Some ts) admin.Ok l = absurd l
listed (Some ts) admin.NoKey l = absurd l
listed (Some ts) (admin.Refused f) l = absurd l
listed None a l = absurd (no_strange a l)

not_told : (replica : Bool) (n s b : ℕ) (t : List ℕ) (a : AdminReply)
    → ReadsError replica ⊥ n (KeysIn s b) t (told.Reply a) → (ks : List Key) × (a ≡ admin.Keys ks)
not_told true n s b t a (inl reads) = absurd reads.0
not_told true n s b t a (inr reads) = absurd (no_error a t reads.1)
not_told false n s b t a reads = absurd (no_error a t reads)

says_keys : (n s b : ℕ) (r : Reply) (a : AdminReply) → Reads ⊥ n (KeysIn s b) r (told.Reply a)
    → (ks : List Key) × (a ≡ admin.Keys ks)
says_keys n s b (reply.Simple t) a e = absurd (no_strange a e)
says_keys n s b (reply.Error t) a e = not_told (is_excuse t) n s b t a e
says_keys n s b (reply.Array rs) a e = listed (texts_of rs) a e
says_keys n s b (reply.Number i) a e = absurd (no_strange a e)
says_keys n s b (reply.Bulk t) a e = absurd (no_strange a e)
says_keys n s b reply.Null a e = absurd (no_strange a e)
says_keys n s b reply.NullArray a e = absurd (no_strange a e)

not_both : (r : AdminReply) (f : PortFault) → ◌≡◌ {A = Result AdminReply PortFault} (Ok r) (Err f) → ⊥
not_both r f e = cc

ok_same : (a b : AdminReply) → ◌≡◌ {A = Given} (Ok a) (Ok b) → a ≡ b
ok_same a b e = cc

module _ {I O : Type 0} (by : Streams I O) where
  answered_keys : (x : PortSetup) (history : RunHistory) (n : ℕ) (c : AdminCommand) (links links' : List (link.Link I O))
      (r : AdminReply) (said : Option (List ℕ))
      → AnswersBy (AsksNode by) (unsent_fault (length x.book) n c) x history n c links (Ok r) said links'
      → ListsKeys c r
  answered_keys x history n (KeysIn s b) links links' r said (inl way) = confirmed way.5
    where
      commanded : (given : Given) → given ≡ Ok r
          → Commands (AsksNode by) x history (request_of x.book x.timeout x.credentials (KeysIn s b)) n (KeysIn s b) way.0 given way.1.said way.2
          → ListsKeys (KeysIn s b) r
      commanded (Ok reply) same commands =
          subst (λ (a : AdminReply). ListsKeys (KeysIn s b) a) (ok_same reply r same) (says_keys n s b commands.0 reply commands.2.0)
      commanded (Err f) same commands = absurd (not_both r f (sym same))

      confirmed : Confirms (AsksNode by) x history n (KeysIn s b) way.1 way.2 (Ok r) said links' → ListsKeys (KeysIn s b) r
      confirmed (inl stands) =
          commanded way.1.given (own_reply way.1 stands.2.0 r said stands.2.2) way.4
      confirmed (inr stops) = absurd (not_both r stops.0.fault stops.2)
  answered_keys x history n (KeysIn s b) links links' r said (inr way) = absurd (not_both r way.0.fault way.2)
  answered_keys x history n (Importing s m) links links' r said way = tt
  answered_keys x history n (Migrating s m) links links' r said way = tt
  answered_keys x history n (SetNode s m) links links' r said way = tt
  answered_keys x history n (Stable s) links links' r said way = tt
  answered_keys x history n (Migrate ks m) links links' r said way = tt

  pub ran_keys : {P : Type 0} (p q : port.ServersPort I O P) (cs : List AdminCall) → Runs by p cs q
      → AllListKeys cs
  ran_keys p q [] runs = tt
  ran_keys p q (c ∷ cs) runs = (
    answered_keys p.setup p.history c.node c.command p.links.items runs.0.links.items c.reply runs.0.said runs.1.answers,
    ran_keys runs.0 q cs runs.2,
  )
