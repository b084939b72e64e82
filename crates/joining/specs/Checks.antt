-- The conditions of a Join's checks (01, "Joining"), by themselves: the theorems of proofs/Depends.antt use them to say exactly when each decision is given.
use Rattle.std.specs.Prelude.{ℕ, Bool, true, false, ◌≢◌, Option, Some, None}
use Rattle.message.specs.declared.Parameters.{Parameters}
use Rattle.message.specs.declared.Address.{Address}
use Rattle.message.specs.declared.Address.TheVariants.{Null, Ipv4, Other}
use Rattle.message.specs.declared.Endpoint.{Endpoint}
use Rattle.joining.specs.declared.Existing.{Existing}

-- the address type is supported
abbrev pub supported : Address → Bool
supported (Null p) = true
supported (Ipv4 i p) = true
supported (Other t) = false

-- the parameters behind a supported address
pub data Carries (p : Parameters) : Address → Type 0 where
  null : Carries p (Null p)
  ipv4 : {i : Endpoint} → Carries p (Ipv4 i p)

-- there is a record, and its MID is another than the one asked for
abbrev pub Another : ℕ → Option Existing → Type 0
Another asked (Some e) = e.mid ≢ asked
Another asked None = ⊥
