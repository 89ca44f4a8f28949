-- Texts that are no plans.
use Rattle.std.proofs.Common.{◌≡◌, ◌≢◌, ◌⊎◌, inl, inr, Err}
use Rattle.std.specs.Prelude.{IsOk}
use Rattle.plan_language.specs.Texts.{Parsed}
use Rattle.plan_language.specs.declared.parse_fault.ParseCause.TheVariants as cause
use Rattle.plan_language.specs.declared.parse_fault.ParseFault.{ParseFault}

-- a fault that is not out of memory is the text's
pub not_memory : (f : ParseFault) (parsed : Parsed) → (parsed ≡ Err f) ⊎ ((f.cause ≡ cause.Memory) × IsOk parsed)
    → f.cause ≢ cause.Memory → parsed ≡ Err f
not_memory f parsed (inl is) other = is
not_memory f parsed (inr memory) other = absurd (other memory.0)
