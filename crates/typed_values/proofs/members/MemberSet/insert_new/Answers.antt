use Rattle.std.proofs.Common.{◌≡◌, ◌++◌, [], ◌∷◌, false, cond, ap, sym, ◌∙◌}
use Rattle.typed_values.specs.Members.{has, with_member}
use Rattle.typed_values.proofs.members.MemberSet.insert_new.Goals as goal

pub returns-clause-ok : goal.returns-clause-ok
returns-clause-ok c =
    let absent : has c.args.self.now c.args.member ≡ false = ap (has c.args.self.now) (sym c.get.ensures.value) ∙ sym c.contains.ensures ∙ c.if-contains.false in
    c.in_ok-put_in.ensures.ok
    ∙ ap (λ ms. with_member ms c.args.member) c.self.view_is
    ∙ ap (λ b. cond b c.args.self.now (c.args.self.now ++ c.args.member ∷ [])) absent
