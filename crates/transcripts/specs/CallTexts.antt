-- What `step` prints of a call of the administrator: the command in the words of a script's line, and the reply.
use Rattle.std.specs.Prelude.{ℕ, List, [], ◌∷◌, ◌++◌, codes, decimal}
use Rattle.cluster_admin.specs.declared.admin.AdminCommand.{AdminCommand}
use Rattle.cluster_admin.specs.declared.admin.AdminCommand.TheVariants.{Importing, Migrating, SetNode, Stable, KeysIn}
use Rattle.cluster_admin.specs.declared.admin.AdminCommand.TheVariants.{Migrate}
use Rattle.cluster_admin.specs.declared.call.AdminCall.{AdminCall}
use Rattle.transcripts.specs.Printing.{shown_bytes}
use Rattle.transcripts.specs.OutcomeTexts.{admin_text, closed}

-- as `n0`
abbrev pub node_text : ℕ → List ℕ
node_text n = 110 ∷ decimal n

-- a key as a word: the bytes that are not visible by escapes, and `""` for the empty key
abbrev pub key_word : List ℕ → List ℕ
key_word [] = codes "\"\""
key_word (b ∷ t) = shown_bytes (b ∷ t)

-- each after a space
abbrev pub key_words : List (List ℕ) → List ℕ
key_words [] = []
key_words (k ∷ ks) = (32 ∷ key_word k) ++ key_words ks

abbrev pub setting_text : (slot : ℕ) → (kind : List ℕ) → (other : ℕ) → List ℕ
setting_text slot kind other = codes "setslot " ++ decimal slot ++ kind ++ node_text other

abbrev pub stable_text : (slot : ℕ) → List ℕ
stable_text slot = codes "setslot " ++ decimal slot ++ codes " stable"

abbrev pub listing_text : (slot count : ℕ) → List ℕ
listing_text slot count = codes "getkeysinslot " ++ decimal slot ++ codes " " ++ decimal count

-- without the node that it goes to, and what a MIGRATE has after that
abbrev pub command_words : AdminCommand → List ℕ
command_words (Importing s m) = setting_text s (codes " importing ") m
command_words (Migrating s m) = setting_text s (codes " migrating ") m
command_words (SetNode s m) = setting_text s (codes " node ") m
command_words (Stable s) = stable_text s
command_words (KeysIn s count) = listing_text s count
command_words (Migrate ks m) = codes "migrate" ++ key_words ks

abbrev pub target_words : AdminCommand → List ℕ
target_words (Migrate ks m) = codes " to " ++ node_text m
target_words command = []

abbrev pub command_text : (node : ℕ) → AdminCommand → List ℕ
command_text n c = closed (command_words c ++ codes " at " ++ node_text n ++ target_words c)

abbrev pub call_text : AdminCall → List ℕ
call_text c = command_text c.node c.command ++ admin_text c.reply
