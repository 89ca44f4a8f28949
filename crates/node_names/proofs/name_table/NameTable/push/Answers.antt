use Rattle.std.proofs.Common.{ℕ, List, ◌∷◌, [], ◌++◌, ◌∙◌, ap, arith, sym, subst}
use Rattle.std.proofs.lemmas.List.{length-set}
use Rattle.node_names.specs.Names.{AreNames, IsNext}
use Rattle.node_names.proofs.Names.{few_put, names_pushed, put_at, room}
use Rattle.node_names.proofs.name_table.NameTable.push.Goals as goal

pub listed : goal.listed
listed c =
    let p : ℕ × List ℕ = (c.args.node, c.args.name) in
    let t = c.self.inside in
    let are = c.self.invariant in
    let next = subst (λ ns. IsNext ns p) (sym c.self.view_is) c.requires in
    omega (arith, are.0, room t.names t.len p are.0 are.1 are.2 next)

pub bounds-self-inside-self-inside : goal.bounds-self-inside-self-inside
bounds-self-inside-self-inside c =
    let p : ℕ × List ℕ = (c.args.node, c.args.name) in
    let t = c.self.inside in
    let are = c.self.invariant in
    let next = subst (λ ns. IsNext ns p) (sym c.self.view_is) c.requires in
    room t.names t.len p are.0 are.1 are.2 next

pub invariant_of-self : goal.invariant_of-self
invariant_of-self c =
    let p : ℕ × List ℕ = (c.args.node, c.args.name) in
    let t = c.self.inside in
    let are = c.self.invariant in
    let next = subst (λ ns. IsNext ns p) (sym c.self.view_is) c.requires in
    let lt = room t.names t.len p are.0 are.1 are.2 next in (
      length-set t.names t.len p ∙ are.0,
      omega (arith, lt),
      subst AreNames (sym (put_at t.names t.len p are.0 are.1 are.2 next)) (names_pushed _ p are.2 next),
    )

pub returns-clause-value : goal.returns-clause-value
returns-clause-value c =
    let p : ℕ × List ℕ = (c.args.node, c.args.name) in
    let t = c.self.inside in
    let are = c.self.invariant in
    let next = subst (λ ns. IsNext ns p) (sym c.self.view_is) c.requires in
    put_at t.names t.len p are.0 are.1 are.2 next ∙ ap (λ ns. ns ++ p ∷ []) c.self.view_is

pub returns-clause-few : goal.returns-clause-few
returns-clause-few c =
    let p : ℕ × List ℕ = (c.args.node, c.args.name) in
    let t = c.self.inside in
    let are = c.self.invariant in
    let next = subst (λ ns. IsNext ns p) (sym c.self.view_is) c.requires in
    few_put t.names t.len p are.0 are.1 are.2 next
