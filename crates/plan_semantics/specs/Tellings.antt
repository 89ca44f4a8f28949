-- Calls that tell another node of a slot's owner.
use Rattle.std.specs.Prelude.{◌≡◌, ◌≢◌, ℕ, List, [], ◌∷◌, ◌++◌}
use Rattle.cluster_admin.specs.declared.admin.AdminCommand.TheVariants.{SetNode}
use Rattle.cluster_admin.specs.declared.call.AdminCall.{AdminCall}

-- it tells the owner of the slot to another node than the owner itself
pub record TellsAnother (s target : ℕ) (call : AdminCall) : Type 0 where
  pub tells : call.command ≡ SetNode s target
  pub another : call.node ≢ target

-- the last of them told another node than the owner
pub record LastTells (s target : ℕ) (cs : List AdminCall) : Type 0 where
  pub earlier : List AdminCall
  pub told : AdminCall
  pub is : cs ≡ earlier ++ told ∷ []
  pub tells : TellsAnother s target told
