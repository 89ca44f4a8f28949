use Rattle.std.proofs.Common.{◌≡◌, ℕ, ◌+◌, true, false, cond, length, nat_lt, Ok, Err, ap, sym, refl, ◌∙◌}
use Rattle.typed_values.proofs.Listing.{length-pushed_each}
use Rattle.typed_values.specs.Faults.{within, map_ok}
use Rattle.typed_values.specs.Elements.{Elements, pushed_each}
use Rattle.typed_values.specs.declared.fault.ValueFault.TheVariants.{TooLong}
use Rattle.typed_values.proofs.items.Items.pushed_len.Goals as goal

map_ok-within : (n : ℕ) (l : Elements) → within n (length l) ≡ map_ok length (within n l)
map_ok-within n l = elim (nat_lt 1048576 n) as (λ b. cond b (Err TooLong) (Ok (length l)) ≡ map_ok length (cond b (Err TooLong) (Ok l))) [ true ↦ refl | false ↦ refl ]

pub returns-clause-front : goal.returns-clause-front
returns-clause-front c =
    let together = length-pushed_each c.args.self.now c.args.elements.now in
    let sum : c.len.result + c.len-2.result ≡ length (pushed_each c.args.self.now c.args.elements.now) = (λ i. c.len.ensures.count i + c.len-2.ensures i) ∙ sym together in
    c.grown.ensures ∙ ap (λ n. within n n) sum ∙ map_ok-within _ (pushed_each c.args.self.now c.args.elements.now)
