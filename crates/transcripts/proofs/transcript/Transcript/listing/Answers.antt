use Rattle.std.proofs.Common.{◌≡◌, ℕ, codes, decimal, subst, rules}
use Rattle.std.proofs.lemmas.Result.{on_ok_weaker}
use Rattle.transcripts.specs.OutcomeTexts.{Prints}
use Rattle.transcripts.proofs.OnTranscript.{four_parts}
use Rattle.transcripts.proofs.transcript.Transcript.listing.Goals as goal

pub returns : goal.returns
returns c =
    let slot : c.from.result ≡ c.args.slot = search rules in
    let count : c.from-2.result ≡ c.args.count = search rules in
    let of_slot =
    subst (λ (n : ℕ). Prints c.text.new.self c.number.new.self (decimal n) c.text.new.self.status) slot
    c.in_ok-number.ensures in
    on_ok_weaker
    c.number-2.result
    (λ e.
    four_parts
    c.args.self.now
    c.text.new.self
    c.number.new.self
    c.text-2.new.self
    c.number-2.new.self
    (codes "getkeysinslot ")
    (decimal c.args.slot)
    (codes " ")
    (decimal c.args.count)
    c.in_ok-text.ensures
    of_slot
    c.in_ok-text-2.ensures
    (subst (λ (n : ℕ). Prints c.text-2.new.self c.number-2.new.self (decimal n) c.text-2.new.self.status) count e))
    c.number-2.ensures
