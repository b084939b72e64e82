-- What the answer of a Join depends on (01, "Joining"): of a record its MID, R and reciprocal number alone, and of the checks the first one
-- that holds. Assumes nothing.
use Prim.Native.Nat.{ℕ}
use mathlib.Core.Bool.{Bool, true, false, cond, true≢false, false≢true}
use mathlib.Core.Logic.Iff
use mathlib.Core.Logic.{◌≢◌, ◌↔◌}
use mathlib.Core.Path.{◌≡◌, refl, ap, ◌∙◌}
use lib.Dec.{eqb}
use borrow.Author.Tests.{eqb-true, eqb-false, eq-eqb, ne_eqb}
use Rattle.std.specs.Prelude.{Option, Some, None}
use Rattle.counter.specs.declared.Reliable.{Reliable}
use Rattle.message.specs.declared.Parameters.{Parameters}
use Rattle.message.specs.declared.Address.{Address}
use Rattle.message.specs.declared.Address.TheVariants.{Null, Ipv4, Other}
use Rattle.message.specs.declared.Join.{Join}
use Rattle.record.specs.declared.Record.{Record}
use Rattle.record.specs.Reasons.{illegal_parameters, low_resources, already_member, bad_address, no_reciprocal}
use Rattle.joining.specs.Joining.{legal, decide_new, decide_for, existing_of, decide_at, decided}
use Rattle.joining.specs.Checks.{supported, Carries, null, ipv4, Another}
use Rattle.joining.specs.declared.Existing.{Existing}
use Rattle.joining.specs.declared.Decision.{Decision}
use Rattle.joining.specs.declared.Decision.TheVariants.{Refuse, Again, Make}

-- ---- of a record

-- two records with the same MID, R and reciprocal number answer a Join alike, whatever else they hold
pub depends : (j : Join) (r s : Record) (n : ℕ) (free : Bool)
    → r.terms.mid ≡ s.terms.mid → r.reliable ≡ s.reliable → r.terms.reciprocal ≡ s.terms.reciprocal
    → decided j (Some (existing_of r)) n free ≡ decided j (Some (existing_of s)) n free
depends j r s n free m e c = rw (m, e, c)

-- ---- of the checks

-- why a Join is answered so: the condition of one check, where those before it let the Join pass
data Cause (j : Join) (x : Option Existing) (n : ℕ) (free : Bool) : Decision → Type 0 where
  illegal : legal j ≡ false → Cause j x n free (Refuse illegal_parameters)
  unsupported : legal j ≡ true → supported j.address ≡ false → Cause j x n free (Refuse bad_address)
  another : legal j ≡ true → supported j.address ≡ true → Another j.mid x → Cause j x n free (Refuse already_member)
  same : {r : Reliable} {own : ℕ} → legal j ≡ true → supported j.address ≡ true → x ≡ Some (record { mid = j.mid; reliable = r; reciprocal = own })
      → Cause j x n free (Again r own)
  lacking : legal j ≡ true → supported j.address ≡ true → x ≡ None → n ≡ 0 → Cause j x n free (Refuse no_reciprocal)
  full : legal j ≡ true → supported j.address ≡ true → x ≡ None → n ≢ 0 → free ≡ false
      → Cause j x n free (Refuse low_resources)
  made : {p : Parameters} → legal j ≡ true → Carries p j.address → x ≡ None → n ≢ 0 → free ≡ true → Cause j x n free (Make p)

-- the parameters of a supported address
parameters : (a : Address) → supported a ≡ true → (p : Parameters) × Carries p a
parameters (Null p) s = (p, null)
parameters (Ipv4 i p) s = (p, ipv4)
parameters (Other t) s = absurd (false≢true s)

carrying : {p : Parameters} {a : Address} → Carries p a → supported a ≡ true
carrying null = refl
carrying ipv4 = refl

module _ (j : Join) (x : Option Existing) (n : ℕ) (free : Bool) where
  abbrev Because : Decision → Type 0
  Because = Cause j x n free

  -- every decision has its cause
  module _ (l : legal j ≡ true) (p : Parameters) (c : Carries p j.address) where
    why_new : x ≡ None → Because (decide_new p n free)
    unfolding decide_new
    why_new u = by (eqb n 0) refl free refl
      where
        by : (z : Bool) → eqb n 0 ≡ z → (f : Bool) → free ≡ f
            → Because (cond z (Refuse no_reciprocal) (cond f (Make p) (Refuse low_resources)))
        by true z f e = lacking l (carrying c) u (eqb-true n 0 z)
        by false z true e = made l c u (eqb-false n 0 z) e
        by false z false e = full l (carrying c) u (eqb-false n 0 z) e

    why_for : (y : Option Existing) → x ≡ y → Because (decide_for y j.mid p n free)
    why_for None e = why_new e
    why_for (Some y) e = by (eqb y.mid j.mid) refl
      where
        by : (t : Bool) → eqb y.mid j.mid ≡ t → Because (cond t (Again y.reliable y.reciprocal) (Refuse already_member))
        by true m =
            same l (carrying c)
            (e ∙ ap (λ (i : ℕ). Some (record { mid = i; reliable = y.reliable; reciprocal = y.reciprocal })) (eqb-true y.mid j.mid m))
        by false m = another l (carrying c) (rw e (eqb-false y.mid j.mid m))

  why_at : legal j ≡ true → (a : Address) → j.address ≡ a → Because (decide_at a x j.mid n free)
  why_at l (Null p) e = why_for l p (rw e null) x refl
  why_at l (Ipv4 i p) e = why_for l p (rw e ipv4) x refl
  why_at l (Other t) e = unsupported l (rw e refl)

  why : Because (decided j x n free)
  unfolding decided
  why = by (legal j) refl
    where
      by : (t : Bool) → legal j ≡ t → Because (cond t (decide_at j.address x j.mid n free) (Refuse illegal_parameters))
      by true l = why_at l j.address refl
      by false l = illegal l

  -- and each cause leads to its decision
  decided_for : {p : Parameters} {a : Address} → Carries p a → decide_at a x j.mid n free ≡ decide_for x j.mid p n free
  decided_for null = refl
  decided_for ipv4 = refl

  decided_at : legal j ≡ true → decided j x n free ≡ decide_at j.address x j.mid n free
  unfolding decided
  decided_at l = rw l

  decided_with : {p : Parameters} → legal j ≡ true → Carries p j.address → decided j x n free ≡ decide_for x j.mid p n free
  decided_with l c = decided_at l ∙ decided_for c

  decided_new : {p : Parameters} → legal j ≡ true → Carries p j.address → x ≡ None → decided j x n free ≡ decide_new p n free
  decided_new {p} l c u = decided_with l c ∙ ap (λ (y : Option Existing). decide_for y j.mid p n free) u

  leads : {d : Decision} → Because d → decided j x n free ≡ d
  unfolding decided decide_new
  leads (illegal l) = rw l
  leads (unsupported l s) = decided_at l ∙ other j.address s
    where
      other : (a : Address) → supported a ≡ false → decide_at a x j.mid n free ≡ Refuse bad_address
      other (Null p) s = absurd (true≢false s)
      other (Ipv4 i p) s = absurd (true≢false s)
      other (Other t) s = refl
  leads (another l s m) = decided_with l (parameters j.address s).1 ∙ is_other _ x m
    where
      is_other : (p : Parameters) (y : Option Existing) → Another j.mid y → decide_for y j.mid p n free ≡ Refuse already_member
      is_other p (Some e) m = rw (ne_eqb e.mid j.mid m)
      is_other p None m = absurd m
  leads (same l s e) = decided_with l (parameters j.address s).1 ∙ rw (e, eq-eqb j.mid j.mid refl)
  leads (lacking l s u z) = decided_new l (parameters j.address s).1 u ∙ rw z
  leads (full l s u z f) = decided_new l (parameters j.address s).1 u ∙ rw (ne_eqb n 0 z, f)
  leads (made l c u z f) = decided_new l c u ∙ rw (ne_eqb n 0 z, f)

  -- ---- each decision exactly if its condition holds and no earlier one does

  exactly : {d : Decision} → (decided j x n free ≡ d) ↔ Because d
  exactly = (λ e. rw e at why, leads)

  pub refused_illegal : (decided j x n free ≡ Refuse illegal_parameters) ↔ (legal j ≡ false)
  refused_illegal = Iff.trans exactly (elim [ illegal l ↦ l ], illegal)

  pub refused_address : (decided j x n free ≡ Refuse bad_address) ↔ ((legal j ≡ true) × (supported j.address ≡ false))
  refused_address = Iff.trans exactly (elim [ unsupported l s ↦ (l, s) ], λ h. unsupported h.0 h.1)

  pub refused_member : (decided j x n free ≡ Refuse already_member)
      ↔ ((legal j ≡ true) × (supported j.address ≡ true) × Another j.mid x)
  refused_member = Iff.trans exactly (elim [ another l s m ↦ (l, s, m) ], λ h. another h.0 h.1 h.2)

  pub accepted_again : (r : Reliable) (own : ℕ) → (decided j x n free ≡ Again r own)
      ↔ ((legal j ≡ true) × (supported j.address ≡ true) × (x ≡ Some (record { mid = j.mid; reliable = r; reciprocal = own })))
  accepted_again r own = Iff.trans exactly (elim [ same l s e ↦ (l, s, e) ], λ h. same h.0 h.1 h.2)

  pub refused_reciprocal : (decided j x n free ≡ Refuse no_reciprocal)
      ↔ ((legal j ≡ true) × (supported j.address ≡ true) × (x ≡ None) × (n ≡ 0))
  refused_reciprocal = Iff.trans exactly (elim [ lacking l s u z ↦ (l, s, u, z) ], λ h. lacking h.0 h.1 h.2 h.3)

  pub refused_resources : (decided j x n free ≡ Refuse low_resources)
      ↔ ((legal j ≡ true) × (supported j.address ≡ true) × (x ≡ None) × (n ≢ 0) × (free ≡ false))
  refused_resources =
      Iff.trans exactly (elim [ full l s u z f ↦ (l, s, u, z, f) ], λ h. full h.0 h.1 h.2 h.3 h.4)

  pub accepted_new : (p : Parameters) → (decided j x n free ≡ Make p)
      ↔ ((legal j ≡ true) × Carries p j.address × (x ≡ None) × (n ≢ 0) × (free ≡ true))
  accepted_new p =
      Iff.trans exactly (elim [ made l c u z f ↦ (l, c, u, z, f) ], λ h. made h.0 h.1 h.2 h.3 h.4)
