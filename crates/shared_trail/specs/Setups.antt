-- A cluster before it is opened.
use Rattle.std.specs.Prelude.{◌≡◌, List, [], refl}
use Rattle.std.specs.Coded.{Coded, code_by, coded×}
use Rattle.atomic_table.specs.Seated.{TableId, table_id_coded}
use Rattle.key_slots.specs.Owners.{Owners, owners_code}
use Rattle.cluster_world.specs.Worlds.{World, world_code}
use Rattle.cluster_world.specs.WorldView.{new_world}
use Rattle.cluster_world.specs.Trails.{Trail}
use Rattle.shared_trail.specs.Rule.{no_table, no_world}

-- the table of its seats, its nodes, and the owner table that these were made with
pub record Setup : Type 0 where
  pub table : TableId
  pub opening : World
  pub owners : Owners

abbrev pub setup_code : Coded Setup
setup_code =
    code_by (TableId × (World × Owners)) (coded× table_id_coded (coded× world_code owners_code))
    (λ s. (s.table, (s.opening, s.owners)))
    (λ p. record { table = p.0; opening = p.1.0; owners = p.1.1 }) (λ _. refl)

-- what a brand stands for that is not picked
abbrev pub no_setup : Setup
no_setup = record { table = no_table; opening = no_world; owners = record { nodes = 0; owners = [] } }

-- the nodes have these owners and hold nothing
pub record IsOpened (opening : World) (owners : Owners) : Type 0 where
  pub opened_as : opening ≡ new_world opening.base_port owners.nodes owners.owners

-- the trail of nodes that were opened with these owners, with no event
pub record IsUnused (opening : World) (owners : Owners) (t : Trail) : Type 0 where
  pub is_opened : IsOpened opening owners
  pub owners_are : t.owners ≡ owners
  pub port_is : t.base_port ≡ opening.base_port
  pub no_event : t.events ≡ []
