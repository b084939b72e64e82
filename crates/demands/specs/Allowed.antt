-- How tight a contract is (01, "How tight the contracts are").
use Rattle.std.specs.Prelude.{◌≡◌}

-- any two outcomes that a contract allows are equal
abbrev pub OneOutcome : {A : Type 0} → (A → Type 0) → Type 0
OneOutcome {A} allows = (e f : A) → allows e → allows f → e ≡ f
