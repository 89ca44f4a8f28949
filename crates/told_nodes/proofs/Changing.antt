-- The table that a node begins with, and what SETSLOT leaves.
use Rattle.std.proofs.Common.{◌≡◌, ℕ, ◌<◌, Bool, true, false, cond, not, ◌&&◌, nat_lt, ◌==◌, List, []}
use Rattle.std.proofs.Common.{◌∷◌, length, Option, None, Some, IfSome, get_or, nat_cmp, refl, sym, ◌∙◌}
use Rattle.std.proofs.Common.{subst, arith}
use Rattle.std.specs.Cmp.{nat_cmp_total}
use Rattle.std.specs.FinMap as finite
use Rattle.std.specs.FinMap.{get-empty, get-insert, get-remove}
use Rattle.std.specs.Ordering.{eq_by_cmp}
use Rattle.std.proofs.lemmas.Bool.{ltb-true, not-false}
use Rattle.std.proofs.lemmas.List.{length-set}
use Rattle.std.proofs.lemmas.List.Elements.{All-set}
use Rattle.byte_texts.specs.Outcomes.{first_refusal}
use Rattle.key_slots.specs.Owners.{IsTable}
use Rattle.slot_marks.specs.Setting.{importing_fault, migrating_fault, node_fault, with_importing, with_migrating}
use Rattle.slot_marks.specs.Setting.{with_owner, without_marks}
use Rattle.slot_marks.specs.Tables.{Marks, Table}
use Rattle.slot_marks.specs.declared.fault.SlotFault.{SlotFault}
use Rattle.slot_marks.specs.declared.fault.SlotFault.TheVariants.{AlreadyOwner, KeysRemain, NotOwner, SameNode}
use Rattle.slot_marks.specs.declared.fault.SlotFault.TheVariants.{UnknownNode}
use Rattle.told_nodes.specs.Tables.{ExampleIsTold, IsToldFrom, NameNodes, TablesStaySo, halves, unmarked}
use Rattle.told_nodes.proofs.Places.{get_or-below, length-below}

-- ---- marks

none_named : (nodes : ℕ) → NameNodes nodes finite.empty
none_named nodes s = subst (λ (o : Option ℕ). IfSome o (λ n. n < nodes)) (sym (get-empty nat_cmp s)) tt

one_named : (b : Bool) (nodes v : ℕ) (o : Option ℕ) → v < nodes → IfSome o (λ n. n < nodes)
    → IfSome (cond b (Some v) o) (λ n. n < nodes)
one_named true nodes v o lt rest = lt
one_named false nodes v o lt rest = rest

some_left : (b : Bool) (nodes : ℕ) (o : Option ℕ) → IfSome o (λ n. n < nodes)
    → IfSome (cond b None o) (λ n. n < nodes)
some_left true nodes o rest = tt
some_left false nodes o rest = rest

put_named : (nodes : ℕ) (m : Marks) (slot v : ℕ) → NameNodes nodes m → v < nodes
    → NameNodes nodes (finite.insert m slot v)
put_named nodes m slot v named lt s =
    subst (λ (o : Option ℕ). IfSome o (λ n. n < nodes)) (sym (get-insert nat_cmp_total m slot v s))
    (one_named (eq_by_cmp nat_cmp s slot) nodes v (finite.get m s) lt (named s))

taken_named : (nodes : ℕ) (m : Marks) (slot : ℕ) → NameNodes nodes m → NameNodes nodes (finite.remove m slot)
taken_named nodes m slot named s =
    subst (λ (o : Option ℕ). IfSome o (λ n. n < nodes)) (sym (get-remove nat_cmp_total m slot s))
    (some_left (eq_by_cmp nat_cmp s slot) nodes (finite.get m s) (named s))

either_named : (b : Bool) (nodes : ℕ) (m m' : Marks) → NameNodes nodes m → NameNodes nodes m'
    → NameNodes nodes (cond b m m')
either_named true nodes m m' f g = f
either_named false nodes m m' f g = g

-- ---- refusals

-- where none applies, the first does not, and none of the others
passed : (b : Bool) (x : SlotFault) (rows : List (Bool × SlotFault)) → first_refusal ((b, x) ∷ rows) ≡ None
    → (b ≡ false) × (first_refusal rows ≡ None)
passed true x rows h = absurd cc
passed false x rows h = (refl, h)

known : (m nodes : ℕ) → not (nat_lt m nodes) ≡ false → m < nodes
known m nodes h = ltb-true m nodes (not-false (nat_lt m nodes) h)

-- ---- tables

importing_told : (base_port : ℕ) (t : Table) (slot source : ℕ) → IsToldFrom base_port t
    → importing_fault t slot source ≡ None → IsToldFrom base_port (with_importing t slot source)
importing_told base_port t slot source told none =
    let first = passed (get_or t.owners slot 0 == t.me) AlreadyOwner
    ((not (nat_lt source t.nodes), UnknownNode) ∷ ((source == t.me, SameNode) ∷ [])) none in
    let second = passed (not (nat_lt source t.nodes)) UnknownNode ((source == t.me, SameNode) ∷ []) first.1 in
    record {
      ports = told.ports;
      me = told.me;
      owners = told.owners;
      migrating = told.migrating;
      importing = put_named t.nodes t.importing slot source told.importing (known source t.nodes second.0);
    }

migrating_told : (base_port : ℕ) (t : Table) (slot target : ℕ) → IsToldFrom base_port t
    → migrating_fault t slot target ≡ None → IsToldFrom base_port (with_migrating t slot target)
migrating_told base_port t slot target told none =
    let first = passed (not (get_or t.owners slot 0 == t.me)) NotOwner
    ((not (nat_lt target t.nodes), UnknownNode) ∷ ((target == t.me, SameNode) ∷ [])) none in
    let second = passed (not (nat_lt target t.nodes)) UnknownNode ((target == t.me, SameNode) ∷ []) first.1 in
    record {
      ports = told.ports;
      me = told.me;
      owners = told.owners;
      migrating = put_named t.nodes t.migrating slot target told.migrating (known target t.nodes second.0);
      importing = told.importing;
    }

owner_told : (base_port : ℕ) (t : Table) (slot owner held : ℕ) → IsToldFrom base_port t
    → node_fault t slot owner held ≡ None → IsToldFrom base_port (with_owner t slot owner)
owner_told base_port t slot owner held told none =
    let first = passed (not (nat_lt owner t.nodes)) UnknownNode
    ((get_or t.owners slot 0 == t.me && not (owner == t.me) && nat_lt 0 held, KeysRemain) ∷ []) none in
    let lt : owner < t.nodes = known owner t.nodes first.0 in
    record {
      ports = told.ports;
      me = told.me;
      owners = record {
        width = length-set t.owners slot owner ∙ told.owners.width;
        some = told.owners.some;
        most = told.owners.most;
        named = All-set (λ n. n < t.nodes) t.owners slot owner lt told.owners.named;
      };
      migrating = either_named (owner == t.me) t.nodes t.migrating (finite.remove t.migrating slot) told.migrating
          (taken_named t.nodes t.migrating slot told.migrating);
      importing = either_named (owner == t.me) t.nodes (finite.remove t.importing slot) t.importing
          (taken_named t.nodes t.importing slot told.importing) told.importing;
    }

stable_told : (base_port : ℕ) (t : Table) (slot : ℕ) → IsToldFrom base_port t
    → IsToldFrom base_port (without_marks t slot)
stable_told base_port t slot told = record {
  ports = told.ports;
  me = told.me;
  owners = told.owners;
  migrating = taken_named t.nodes t.migrating slot told.migrating;
  importing = taken_named t.nodes t.importing slot told.importing;
}

pub tables_stay_so : TablesStaySo
tables_stay_so = record {
  new = λ base_port me o ports lt owners. record {
    ports = ports;
    me = lt;
    owners = owners;
    migrating = none_named o.nodes;
    importing = none_named o.nodes;
  };
  importing = importing_told;
  migrating = migrating_told;
  node = owner_told;
  stable = stable_told;
}

-- ---- the example

one_of_two : (b : Bool) → cond b 0 1 < 2
one_of_two true = omega arith
one_of_two false = omega arith

halves_are : IsTable halves
halves_are = record {
  width = length-below (λ s. cond (nat_lt s 8192) 0 1) 16384;
  some = omega arith;
  most = omega arith;
  named = λ k d lt.
      let wide : length halves.owners ≡ 16384 = length-below (λ s. cond (nat_lt s 8192) 0 1) 16384 in
      subst (λ n. n < 2) (sym (get_or-below (λ s. cond (nat_lt s 8192) 0 1) 16384 k d (omega (arith, lt, wide))))
      (one_of_two (nat_lt k 8192));
}

owner_at : (s : ℕ) → s < 16384 → get_or halves.owners s 0 ≡ cond (nat_lt s 8192) 0 1
owner_at s lt = get_or-below (λ s. cond (nat_lt s 8192) 0 1) 16384 s 0 lt

migrates : migrating_fault (unmarked 1 halves) 9000 0 ≡ None
migrates = rw (owner_at 9000 (omega arith)) refl

imports : importing_fault (with_migrating (unmarked 1 halves) 9000 0) 7 0 ≡ None
imports = rw (owner_at 7 (omega arith)) refl

pub example_is_told : ExampleIsTold
example_is_told =
    importing_told 7000 (with_migrating (unmarked 1 halves) 9000 0) 7 0
    (migrating_told 7000 (unmarked 1 halves) 9000 0
    (tables_stay_so.new 7000 1 halves (omega arith) (omega arith) halves_are) migrates)
    imports
