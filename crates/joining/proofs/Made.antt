-- The record of an accepted Join is well formed (01, "One channel", its last paragraph), whatever the free record was. Assumes nothing.
use Prim.Native.Nat.{ℕ, zero, suc, ◌<◌}
use mathlib.Core.Bool.{Bool, true, false, not, true≢false}
use mathlib.Core.List.{List, [], ◌∷◌, map}
use mathlib.Core.Path.{◌≡◌, refl, sym, ◌∙◌}
use native.Mathlib.Omega.{arith}
use lib.Dec.{eqb}
use borrow.Author.Tests.{leb-true}
use Rattle.std.specs.Prelude.{Option}
use Rattle.message.specs.declared.Cid.{Cid}
use Rattle.message.specs.declared.Parameters.{Parameters}
use Rattle.message.specs.declared.Address.{Address}
use Rattle.message.specs.declared.Join.{Join}
use Rattle.record.specs.Profile.{min_expiry}
use Rattle.record.specs.Legal.{legal_names, legal_parameters}
use Rattle.record.specs.Places.{place_at}
use Rattle.record.specs.WellFormed.{well_formed}
use Rattle.record.specs.With.{free_place}
use Rattle.record.specs.declared.Place.{Place}
use Rattle.record.specs.declared.Record.{Record}
use Rattle.record.proofs.Choices.{both}
use Rattle.record.proofs.Profile.{some_expiry}
use Rattle.record.proofs.Formed.{well_formed_lem}
use Rattle.joining.specs.Joining.{legal_block, legal_address, legal, decided, new_record}
use Rattle.joining.specs.Checks.{Carries, null, ipv4}
use Rattle.joining.specs.declared.Existing.{Existing}
use Rattle.joining.specs.declared.Decision.TheVariants.{Make}
use Rattle.joining.proofs.Depends.{accepted_new}

-- a legal Join has legal parameters behind its address
legal_carried : {p : Parameters} {a : Address} → Carries p a → legal_address a ≡ true → legal_parameters p.modulus p.expiry ≡ true
unfolding legal_block
legal_carried null l = (both _ _ l).0
legal_carried ipv4 l = (both _ _ l).0

lives : (modulus expiry : ℕ) → legal_parameters modulus expiry ≡ true → 0 < expiry
unfolding legal_parameters
lives modulus expiry l = omega (arith, some_expiry, leb-true min_expiry expiry (both (not (eqb modulus 0)) _ l).1)

-- places marked free hold nothing
holds_nothing : (ps : List Place) (i : ℕ) → (place_at (map free_place ps) i).used ≡ false
holds_nothing [] i = refl
holds_nothing (p ∷ ps) zero = refl
holds_nothing (p ∷ ps) (suc i) = holds_nothing ps i

pub made_well_formed : (old : Record) (owner : Cid) (j : Join) (x : Option Existing) (p : Parameters) (n : ℕ) (free : Bool)
    → decided j x n free ≡ Make p → well_formed (new_record old owner j p n) ≡ true
unfolding new_record legal
made_well_formed old owner j x p n free e =
    let makes = (accepted_new j x n free p).0 e in
    let l = both (legal_names j.channel j.mid) (legal_address j.address) makes.0 in
    let parameters = legal_carried makes.1 l.1 in
    let lasts = lives p.modulus p.expiry parameters in
    well_formed_lem
    (record {
      legal_names = l.0;
      legal_parameters = parameters;
      reciprocal = makes.3;
      known = omega arith;
      held = λ i u. absurd (true≢false (sym u ∙ holds_nothing old.places i));
      apart = λ i k u v s. absurd (true≢false (sym u ∙ holds_nothing old.places i));
      gap = refl;
      idle = omega arith;
    })
