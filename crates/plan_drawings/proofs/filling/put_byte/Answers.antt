use Rattle.std.proofs.Common.{inl, inr}
use Rattle.std.proofs.lemmas.Bool.{ne_eqb}
use Rattle.plan_drawings.proofs.Filled.{byte_put, number_put}
use Rattle.plan_drawings.proofs.filling.put_byte.Goals as goal

pub returns-then-byte-ne37-clause-text : goal.returns-then-byte-ne37-clause-text
returns-then-byte-ne37-clause-text c t =
    byte_put c.args.out.now.items c.push.new.self.items c.args.numbers.now t c.args.byte
    (inr (ne_eqb c.args.byte 37 c.if-byte-ne37.true)) c.in_ok-push.ensures.items

pub returns-in_default-clause-text : goal.returns-in_default-clause-text
returns-in_default-clause-text c t =
    byte_put c.args.out.now.items c.push-in_default.new.self.items c.args.numbers.now t c.args.byte
    (inl c.in_default.len_below) c.in_ok-push-2.ensures.items

pub returns-clause-text : goal.returns-clause-text
returns-clause-text c t =
    number_put c.args.out.now.items c.put_number.new.out.items c.args.numbers.now t c.args.byte _
    c.if-byte-ne37.false c.in-len1-up.len_at_least c.in_ok-put_number.ensures.text
