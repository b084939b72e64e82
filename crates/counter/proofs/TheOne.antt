-- `distance` is the number that 01's sentence on the distance names, and there is no second one. Both go from the record `Distance` of specs/,
-- whose equation over ℤ is first brought to sums of plain numbers, which omega reads. Assumes nothing.
use Rattle.std.proofs.Common.{◌≡◌, ℕ, suc, ◌+◌, ◌-◌, ◌*◌, ◌/◌, ◌<◌, ◌≤◌, Bool, true, false, T, ltb, ℤ, pos, negsuc, ◌+ℤ◌, ◌-ℤ◌, neg_ℤ, sym, refl, ap, ◌∙◌, arith, le→leb, leb→le, ltb-false, ltb-true, le-ltb}
use lib.IntN.{+ℤ_assoc, +ℤ_comm, +ℤ_idl, +ℤ_invl, +ℤ-neg_ℤ_cancel, -ℤ-+ℤ_cancel, pos-ne-negsuc}
use lib.Signed.{le_z}
use Rattle.counter.specs.Distance.{turn, half, ahead, signed, distance, Distance}

-- ---- the equation of the sentence

-- z takes one plain number to another
abbrev Takes : ℤ → ℕ → ℕ → Type 0
Takes z m n = z +ℤ pos m ≡ pos n

-- of two that are added, either may come first
swap : (x y z : ℤ) → x +ℤ y +ℤ z ≡ x +ℤ z +ℤ y
swap x y z = +ℤ_assoc x y z ∙ ap (λ (v : ℤ). x +ℤ v) (+ℤ_comm y z) ∙ sym (+ℤ_assoc x z y)

-- with `old` brought to the other side the equation says that z takes `old` to `new`, each after some turns
takes : (z : ℤ) (old new j k : ℕ) → z +ℤ pos (j * turn) ≡ (pos new -ℤ pos old) +ℤ pos (k * turn) → Takes z (j * turn + old) (new + k * turn)
takes z old new j k e =
    sym (+ℤ_assoc z (pos (j * turn)) (pos old))
    ∙ ap (λ (v : ℤ). v +ℤ pos old) e
    ∙ swap (pos new -ℤ pos old) (pos (k * turn)) (pos old)
    ∙ ap (λ (v : ℤ). v +ℤ pos (k * turn)) (-ℤ-+ℤ_cancel (pos new) (pos old))

-- and the way back
taken : (z : ℤ) (old new j k : ℕ) → Takes z (j * turn + old) (new + k * turn) → z +ℤ pos (j * turn) ≡ (pos new -ℤ pos old) +ℤ pos (k * turn)
taken z old new j k e =
    sym (+ℤ-neg_ℤ_cancel (z +ℤ pos (j * turn)) (pos old))
    ∙ ap (λ (v : ℤ). v -ℤ pos old) (+ℤ_assoc z (pos (j * turn)) (pos old) ∙ e)
    ∙ swap (pos new) (pos (k * turn)) (neg_ℤ (pos old))

-- for z of either sign it is an equation in ℕ
pos_takes : (p m n : ℕ) → Takes (pos p) m n → p + m ≡ n
pos_takes p m n e = cc

negsuc_takes : (p m n : ℕ) → Takes (negsuc p) m n → m ≡ suc p + n
negsuc_takes p m n e = by (ltb m (suc p)) refl
  where
    by : (t : Bool) → ltb m (suc p) ≡ t → m ≡ suc p + n
    by true h =
        let f : negsuc (suc p - suc m) ≡ pos n = rw h at e in
        absurd (pos-ne-negsuc n (suc p - suc m) (sym f))
    by false h =
        let f : pos (m - suc p) ≡ pos n = rw h at e in
        let g : m - suc p ≡ n = cc in
        omega (arith, ltb-false m (suc p) h)

takes_negsuc : (p m n : ℕ) → m ≡ suc p + n → Takes (negsuc p) m n
takes_negsuc p m n e =
    let f : m - suc p ≡ n = omega arith in
    rw (le-ltb m (suc p) (omega arith)) (ap pos f)

-- ---- at most one number

-- the equation of a number ahead, and of one behind
sum_ahead : {old new p : ℕ} (d : Distance old new (pos p)) → p + (d.modulo.0 * turn + old) ≡ new + d.modulo.1 * turn
sum_ahead {old} {new} {p} d =
    pos_takes p _ _ (takes (pos p) old new d.modulo.0 d.modulo.1 d.modulo.2)

sum_behind : {old new p : ℕ} (d : Distance old new (negsuc p)) → d.modulo.0 * turn + old ≡ suc p + (new + d.modulo.1 * turn)
sum_behind {old} {new} {p} d =
    negsuc_takes p _ _ (takes (negsuc p) old new d.modulo.0 d.modulo.1 d.modulo.2)

-- two such numbers lie less than a turn apart, and a whole number of turns, so they are equal: whatever old and new are
pub distance_only : (old new : ℕ) (y z : ℤ) → Distance old new y → Distance old new z → y ≡ z
distance_only old new (pos p) (pos q) s t =
    let e : p ≡ q = omega (arith, leb→le, sum_ahead s, sum_ahead t) in
    ap pos e
distance_only old new (pos p) (negsuc q) s t = absurd (omega (arith, leb→le, sum_ahead s, sum_behind t))
distance_only old new (negsuc p) (pos q) s t = absurd (omega (arith, leb→le, sum_behind s, sum_ahead t))
distance_only old new (negsuc p) (negsuc q) s t =
    let e : p ≡ q = omega (arith, leb→le, sum_behind s, sum_behind t) in
    ap negsuc e

-- ---- and `distance` is one

-- such an equation makes the sentence true of a number ahead, and of one behind
is_ahead : {old new p : ℕ} (j k : ℕ) → p < half → p + (j * turn + old) ≡ new + k * turn → Distance old new (pos p)
is_ahead {old} {new} {p} j k h e =
    record {
      low = tt;
      high = omega (arith, le→leb);
      modulo = (j, k, taken (pos p) old new j k (ap pos e));
    }

is_behind : {old new p : ℕ} (j k : ℕ) → p < half → j * turn + old ≡ suc p + (new + k * turn) → Distance old new (negsuc p)
is_behind {old} {new} {p} j k h e =
    record {
      low = omega (arith, le→leb);
      high = tt;
      modulo = (j, k, taken (negsuc p) old new j k (takes_negsuc p _ _ e));
    }

-- new + turn − old is `ahead` and some turns; read as behind, a number is one turn less
pub distance_is : (old new : ℕ) → old < turn → new < turn → Distance old new (distance old new)
unfolding distance
distance_is old new ho hn = by (ltb (ahead old new) half) refl
  where
    by : (t : Bool) → ltb (ahead old new) half ≡ t → Distance old new (signed (ahead old new))
    by true e =
        rw e (is_ahead ((new + turn - old) / turn) 1 (ltb-true (ahead old new) half e) (omega arith))
    by false e =
        let h : half ≤ ahead old new = ltb-false (ahead old new) half e in
        rw e (is_behind (suc ((new + turn - old) / turn)) 1 (omega arith) (omega arith))

-- so the number of which the sentence is true is `distance`
pub distance_the_one : (old new : ℕ) (z : ℤ) → old < turn → new < turn → Distance old new z → z ≡ distance old new
distance_the_one old new z ho hn d = distance_only old new z (distance old new) d (distance_is old new ho hn)

-- ---- the sentence for two ways together, and for the way back

-- what takes m to n takes m + s to n + s
on : (z : ℤ) (m n s m' n' : ℕ) → Takes z m n → m + s ≡ m' → n + s ≡ n' → Takes z m' n'
on z m n s m' n' e p q = rw (← p, ← q) (sym (+ℤ_assoc z (pos m) (pos s)) ∙ ap (λ (v : ℤ). v +ℤ pos s) e)

-- what takes l to m and what takes m to n take l to n together
after : (x y : ℤ) (l m n : ℕ) → Takes x l m → Takes y m n → Takes (x +ℤ y) l n
after x y l m n e f = ap (λ (v : ℤ). v +ℤ pos l) (+ℤ_comm x y) ∙ +ℤ_assoc y x (pos l) ∙ ap (λ (v : ℤ). y +ℤ v) e ∙ f

-- and the negative takes n back to m
back : (z : ℤ) (m n : ℕ) → Takes z m n → Takes (neg_ℤ z) n m
back z m n e =
    ap (λ (v : ℤ). neg_ℤ z +ℤ v) (sym e)
    ∙ sym (+ℤ_assoc (neg_ℤ z) z (pos m))
    ∙ ap (λ (v : ℤ). v +ℤ pos m) (+ℤ_invl z)
    ∙ +ℤ_idl (pos m)

-- a sum that is in the range is what the sentence says of both ways together: the turns of each are added
pub sum_is : (a b c : ℕ) (x y : ℤ) → Distance a b x → Distance b c y
    → T (le_z (negsuc 2147483647) (x +ℤ y)) → T (le_z (x +ℤ y) (pos 2147483647))
    → Distance a c (x +ℤ y)
sum_is a b c x y d e low high =
    let i = d.modulo.0 in
    let j = d.modulo.1 in
    let k = e.modulo.0 in
    let l = e.modulo.1 in
    let first = on x _ _ (k * turn) ((i + k) * turn + a) (b + (j + k) * turn) (takes x a b i j d.modulo.2) (omega arith) (omega arith) in
    let second = on y _ _ (j * turn) (b + (j + k) * turn) (c + (j + l) * turn) (takes y b c k l e.modulo.2) (omega arith) (omega arith) in
    record {
      low = low;
      high = high;
      modulo = (i + k, j + l, taken (x +ℤ y) a c (i + k) (j + l) (after x y _ _ _ first second));
    }

-- a negative that is in the range is what it says of the way back: the turns change sides
pub turned_is : (a b : ℕ) (z : ℤ) → Distance a b z
    → T (le_z (negsuc 2147483647) (neg_ℤ z)) → T (le_z (neg_ℤ z) (pos 2147483647))
    → Distance b a (neg_ℤ z)
turned_is a b z d low high =
    let j = d.modulo.0 in
    let k = d.modulo.1 in
    let e = back z _ _ (takes z a b j k d.modulo.2) in
    let f = on (neg_ℤ z) _ _ 0 (k * turn + b) (a + j * turn) e (omega arith) (omega arith) in
    record { low = low; high = high; modulo = (k, j, taken (neg_ℤ z) b a k j f) }
