-- What a node keeps of the slots (Redis Cluster specification, "Cluster live reconfiguration").
use Rattle.std.specs.Prelude.{ℕ, List, refl}
use Rattle.std.specs.Ordering.{nat_cmp}
use Rattle.std.specs.FinMap as finite
use Rattle.std.specs.Coded.{Coded, code_by, coded×, coded_list, coded_ℕ}

-- at most one mark for each slot: the other node
abbrev pub Marks : Type 0
Marks = finite.FinMap nat_cmp ℕ

-- the table of the node `me` among so many: the slots' owners, and the marks of those that go elsewhere and come from
-- elsewhere
pub record Table : Type 0 where
  pub me : ℕ
  pub nodes : ℕ
  pub owners : List ℕ
  pub migrating : Marks
  pub importing : Marks

abbrev pub marks_code : Coded Marks
marks_code = finite.code coded_ℕ coded_ℕ

abbrev pub table_code : Coded Table
table_code =
    code_by (ℕ × (ℕ × (List ℕ × (Marks × Marks))))
    (coded× coded_ℕ (coded× coded_ℕ (coded× (coded_list coded_ℕ) (coded× marks_code marks_code))))
    (λ t. (t.me, (t.nodes, (t.owners, (t.migrating, t.importing)))))
    (λ p. record { me = p.0; nodes = p.1.0; owners = p.1.1.0; migrating = p.1.1.1.0; importing = p.1.1.1.1 })
    (λ _. refl)
