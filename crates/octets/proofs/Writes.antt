-- What writes into lent octets come to: one `splice` for a number, for a run of numbers and for a copy. Assumes nothing.
use mathlib.Core.Path.{◌≡◌, refl, sym, ap, ap₂, ◌∙◌}
use Prim.Native.Nat.{ℕ, zero, suc, ◌+◌, ◌-◌, ◌^◌, ◌/◌, ◌%◌, ◌<◌, ◌≤◌}
use native.Mathlib.Nat.{div-one, mod-eq_of_lt, add_assoc}
use native.Mathlib.Omega.{arith}
use native.Mathlib.Numerals.{add-one}
use mathlib.Core.List.{List, [], ◌∷◌, ◌++◌, append_assoc}
use lib.ListN.{length, get_or, set, take, drop, length-append}
use lib.Seq.{take-append_seam, length-take-le, take-length, take-add, take_at, drop_at, drop-drop, sets, sets-eq, length-sets, paste, paste-zero, paste-suc}
use borrow.Rule.Slice.PartMut.{put_mid}
use Rattle.std.proofs.lemmas.Slice.{put_mid-paste}
use Rattle.std.proofs.lemmas.List.{nil_from_length}
use Rattle.std.specs.Int.{bytes_high_first}
use Rattle.octets.specs.Octets.{octets, part, splice, joined}
use Rattle.octets.proofs.Numbers.{length_octets, octets_append, octets_mod, length_part}

-- a run of stores is a splice
stored : (s : List ℕ) (at : ℕ) (ys : List ℕ) → at + length ys ≤ length s → sets s at ys ≡ splice s at ys
unfolding splice
stored s at ys h = sets-eq ys s at h

pub length_splice : (s : List ℕ) (at : ℕ) (ys : List ℕ) → at + length ys ≤ length s → length (splice s at ys) ≡ length s
length_splice s at ys h = ap length (sym (stored s at ys h)) ∙ length-sets s at ys

pub splice_nothing : (s : List ℕ) (at : ℕ) → s ≡ splice s at []
unfolding splice
splice_nothing s at = paste-zero s at []

-- a splice right behind another: one splice of both
pub splice_splice : (s : List ℕ) (at n : ℕ) (ys zs : List ℕ) → length ys ≡ n → at + n ≤ length s
    → splice (splice s at ys) (at + n) zs ≡ splice s at (ys ++ zs)
unfolding splice
splice_splice s at n ys zs e h =
    let p : List ℕ = take at s ++ ys in
    let d : List ℕ = drop (at + length ys) s in
    let l : length p ≡ at + n = length-append (take at s) ys ∙ omega (arith, length-take-le at s (omega arith)) in
    ap (λ (r : List ℕ). r ++ zs ++ drop (at + n + length zs) (p ++ d)) (take_at p d (at + n) l)
    ∙ ap (λ (r : List ℕ). p ++ zs ++ r)
    (sym (drop-drop (length zs) (at + n) (p ++ d)) ∙ ap (drop (length zs)) (drop_at p d (at + n) l) ∙ drop-drop (length zs) (at + length ys) s)
    ∙ rw (append_assoc (take at s) ys zs, length-append ys zs, add_assoc at (length ys) (length zs))

-- what was written is there
pub part_splice : (s : List ℕ) (at : ℕ) (ys : List ℕ) → at ≤ length s → part (splice s at ys) at (length ys) ≡ ys
unfolding splice
part_splice s at ys h =
    rw (append_assoc (take at s) ys (drop (at + length ys) s), drop_at (take at s) (ys ++ drop (at + length ys) s) at (length-take-le at s h), take-append_seam)

-- ---- the library's copy

-- ys copied over the k octets of s from `at` on
pub copied : (s ys zs : List ℕ) (at k : ℕ) → ys ≡ zs → k ≡ length zs → put_mid at k s ys ≡ splice s at zs
unfolding splice
copied s ys zs at k e l =
    put_mid-paste at k s ys zs (length zs) e (sym l) refl ∙ ap (λ (r : List ℕ). take at s ++ r ++ drop (at + length zs) s) (take-length zs)

-- ---- a copy, octet by octet

pub copy_turn : (s₀ s from : List ℕ) (at i : ℕ) → s ≡ paste s₀ at from i → at + i < length s₀ → i < length from
    → set s (at + i) (get_or from i 0) ≡ paste s₀ at from (i + 1)
copy_turn s₀ s from at i e hs hf = rw (e, add-one i) (paste-suc s₀ at from i 0 hs hf)

pub copy_done : (s₀ s from : List ℕ) (at i : ℕ) → s ≡ paste s₀ at from i → i ≡ length from → s ≡ splice s₀ at from
unfolding splice
copy_done s₀ s from at i e h = e ∙ rw (h, take-length)

-- the first i octets
pub copied_so_far : (s₀ s from : List ℕ) (at i : ℕ) → s ≡ paste s₀ at from i → i ≤ length from → s ≡ splice s₀ at (take i from)
unfolding splice
copied_so_far s₀ s from at i e l =
    e ∙ ap (λ (n : ℕ). take at s₀ ++ take i from ++ drop (at + n) s₀) (sym (length-take-le i from l))

-- a splice over another at the same place, at least as long: the first leaves nothing
over_again : (s : List ℕ) (at : ℕ) (ys zs : List ℕ) → at + length zs ≤ length s → length ys ≤ length zs
    → splice (splice s at ys) at zs ≡ splice s at zs
unfolding splice
over_again s at ys zs h l =
    let p : List ℕ = take at s ++ ys in
    let n : length p ≡ at + length ys = length-append (take at s) ys ∙ ap (λ (k : ℕ). k + length ys) (length-take-le at s (omega arith)) in
    let q : (at + length ys) + (length zs - length ys) ≡ at + length zs = omega arith in
    let t : List ℕ = take at s ++ ys ++ drop (at + length ys) s in
    let front : take at t ≡ take at s =
    ap (take at) (append_assoc (take at s) ys (drop (at + length ys) s)) ∙ take_at (take at s) (ys ++ drop (at + length ys) s) at (length-take-le at s (omega arith)) in
    let back : drop (at + length zs) t ≡ drop (at + length zs) s =
    ap (λ (k : ℕ). drop k t) (sym q)
    ∙ sym (drop-drop (length zs - length ys) (at + length ys) t)
    ∙ ap (drop (length zs - length ys)) (drop_at p (drop (at + length ys) s) (at + length ys) n)
    ∙ drop-drop (length zs - length ys) (at + length ys) s
    ∙ ap (λ (k : ℕ). drop k s) q in
    ap₂ (λ (x y : List ℕ). x ++ zs ++ y) front back

-- the first i octets are there, and then all from j to the end are copied, where j is not past i
pub end_copied : (s t u from : List ℕ) (at i j n : ℕ) → t ≡ splice s at (take i from) → u ≡ splice t (at + j) (part from j n) → j ≤ i → i ≤ j + n
    → j + n ≡ length from → at + length from ≤ length s → u ≡ splice s at from
end_copied s t u from at i j n e f a b d h =
    let k : j + (i - j) ≡ i = omega arith in
    let w : List ℕ = splice s at (take j from) in
    let lj : length (take j from) ≡ j = length-take-le j from (omega arith) in
    let split : take i from ≡ take j from ++ part from j (i - j) = ap (λ (m : ℕ). take m from) (sym k) ∙ take-add j (i - j) from in
    let first : t ≡ splice w (at + j) (part from j (i - j)) =
    e ∙ ap (splice s at) split ∙ sym (splice_splice s at j (take j from) (part from j (i - j)) lj (omega arith)) in
    let lw : length w ≡ length s = length_splice s at (take j from) (omega (arith, lj)) in
    let la : length (part from j (i - j)) ≡ i - j = length_part from j (i - j) (omega arith) in
    let lb : length (part from j n) ≡ n = length_part from j n (omega arith) in
    f
    ∙ ap (λ (x : List ℕ). splice x (at + j) (part from j n)) first
    ∙ over_again w (at + j) (part from j (i - j)) (part from j n) (omega (arith, lw, lb)) (omega (arith, la, lb))
    ∙ splice_splice s at j (take j from) (part from j n) lj (omega arith)
    ∙ ap (splice s at) (sym (take-add j n from) ∙ ap (λ (m : ℕ). take m from) d ∙ take-length from)

-- the first n octets and the last
pub ends_copied : (s t u from : List ℕ) (at n : ℕ) → t ≡ splice s (at + 0) (part from 0 n) → u ≡ splice t (at + (length from - n)) (part from (length from - n) n)
    → n ≤ length from → length from ≤ n + n → at + length from ≤ length s → u ≡ splice s at from
ends_copied s t u from at n e f l b h =
    let p : at + 0 ≡ at = omega arith in
    end_copied s t u from at n (length from - n) n
    (e ∙ ap (λ (k : ℕ). splice s k (part from 0 n)) p) f (omega arith) (omega arith) (omega arith) h

-- no octets are nothing
pub nothing_copied : (s from : List ℕ) (at : ℕ) → length from ≡ 0 → s ≡ splice s at from
nothing_copied s from at e = splice_nothing s at ∙ ap (splice s at) (sym (nil_from_length from e))

-- ---- a number's octets

-- the octets that the library makes of a number
be_octets : (n x : ℕ) → bytes_high_first n x ≡ octets n x
unfolding octets
be_octets zero x = refl
be_octets (suc zero) x = ap (λ (k : ℕ). (k % 256) ∷ []) (sym (div-one x))
be_octets (suc (suc n)) x = ap (λ (os : List ℕ). (x / 256 ^ suc n % 256) ∷ os) (be_octets (suc n) x)

-- these copied over the n octets from `at` on
pub number_copied : (n x : ℕ) (s ys : List ℕ) (at : ℕ) → ys ≡ bytes_high_first n x → put_mid at (at + n - at) s ys ≡ splice s at (octets n x)
number_copied n x s ys at e = copied s ys (octets n x) at (at + n - at) (e ∙ be_octets n x) (omega (arith, length_octets n x))

-- a number of one octet stored
pub splice_one : (s : List ℕ) (at x : ℕ) → x < 256 → at + 1 ≤ length s → set s at x ≡ splice s at (octets 1 x)
unfolding octets
splice_one s at x hx h =
    let e : x / 1 % 256 ≡ x = rw (div-one x) (mod-eq_of_lt hx) in
    ap (λ (k : ℕ). set s at k) (sym e) ∙ stored s at (octets 1 x) h

-- and one of two octets, its upper octet and then its lower
pub splice_two : (s : List ℕ) (at x : ℕ) → x < 65536 → at + 2 ≤ length s
    → set (set s at (x / 256)) (at + 1) (x % 256) ≡ splice s at (octets 2 x)
unfolding octets
splice_two s at x hx h =
    let e : x / 256 % 256 ≡ x / 256 = mod-eq_of_lt (omega arith) in
    rw add-one
    (ap (λ (k : ℕ). set (set s at k) (suc at) (x % 256)) (sym e)
    ∙ ap (λ (k : ℕ). set (set s at (x / 256 % 256)) (suc at) (k % 256)) (sym (div-one x))
    ∙ stored s at (octets 2 x) h)

-- a number of n + m octets, its upper n written and then its lower m
pub splice_halves : (s : List ℕ) (at n m x : ℕ) → at + n ≤ length s
    → splice (splice s at (octets n (x / 256 ^ m))) (at + n) (octets m (x % 256 ^ m)) ≡ splice s at (octets (n + m) x)
splice_halves s at n m x h =
    ap (λ (r : List ℕ). splice (splice s at (octets n (x / 256 ^ m))) (at + n) r) (octets_mod m x)
    ∙ splice_splice s at n (octets n (x / 256 ^ m)) (octets m x) (length_octets n (x / 256 ^ m)) h
    ∙ ap (splice s at) (sym (octets_append n m x))

-- ---- a run of writes

-- what straight-line code leaves that writes each piece behind the one before; on pieces that are written out it computes
abbrev pub run : List ℕ → ℕ → List (List ℕ) → List ℕ
run s at [] = s
run s at (p ∷ ps) = run (splice s at p) (at + length p) ps

pub run_splice : (ps : List (List ℕ)) (s : List ℕ) (at : ℕ) → at + length (joined ps) ≤ length s → run s at ps ≡ splice s at (joined ps)
run_splice [] s at h = splice_nothing s at
run_splice (p ∷ ps) s at h =
    let l : length (p ++ joined ps) ≡ length p + length (joined ps) = length-append p (joined ps) in
    let k : length (splice s at p) ≡ length s = length_splice s at p (omega arith) in
    run_splice ps (splice s at p) (at + length p) (omega arith)
    ∙ splice_splice s at (length p) p (joined ps) refl (omega arith)
