-- A block put together from written messages reads as those messages, in order. Assumes nothing.
use mathlib.Core.Path.{◌≡◌, refl, ap, ◌∙◌}
use mathlib.Core.Bool.{true, false, and-false}
use mathlib.Core.List.{List, [], ◌∷◌, ◌++◌, append-nil, append_assoc}
use Prim.Native.Nat.{ℕ, zero, suc, ◌+◌, ◌-◌, ◌*◌, ◌/◌, ◌%◌, ◌<◌, ◌≤◌}
use native.Mathlib.Omega.{arith}
use native.Mathlib.Nat.{div-one, mod-eq_of_lt}
use lib.ListN.{length, get_or, length-append}
use lib.Seq.{get_or-append_seam, get_or-append-add, drop-append-add, take-append_seam}
use borrow.Author.Tests.{lt-ltb, le-ltb, eq-eqb, ne_eqb}
use Rattle.std.specs.Prelude.{slice_get, Some, None, Ok}
use Rattle.std.proofs.lemmas.Option.{slice_get-get_or, slice_get_past}
use Rattle.octets.specs.Octets.{number, octets}
use Rattle.block.specs.Pdu.{has_l, has_v, has_h, has_d, head_size, fields, size_at, lacks_flag, left_over, malformed, found_at, pdu_at}
use Rattle.block.specs.Block.{most_block, nothing, with, parse_from, parse, asked, read_block}
use Rattle.block.specs.Written.{pdu, Piece, together, Names, AllShort, Alone}
use Rattle.block.specs.declared.Found.{Found}

-- the first octet of a written PDU of this length: the flags, and the length's upper bits
first : ℕ → ℕ
first n = (28672 + n) / 256 % 256

module _ (n : ℕ) (h : n < 4096) where
  first_is : first n ≡ 112 + n / 256
  unfolding first
  first_is = omega arith

  no_l : has_l (first n) ≡ false
  no_l = rw first_is (ne_eqb ((112 + n / 256) / 128 % 2) 1 (λ e. omega arith))

  has_v_lem : has_v (first n) ≡ true
  has_v_lem = rw first_is (eq-eqb ((112 + n / 256) / 64 % 2) 1 (omega arith))

  has_h_lem : has_h (first n) ≡ true
  has_h_lem = rw first_is (eq-eqb ((112 + n / 256) / 32 % 2) 1 (omega arith))

  has_d_lem : has_d (first n) ≡ true
  has_d_lem = rw first_is (eq-eqb ((112 + n / 256) / 16 % 2) 1 (omega arith))

  length_back : first n % 16 * 256 + ((28672 + n) / 1 % 256 * 1 + 0) ≡ n
  length_back = rw (first_is, div-one) (omega arith)

-- where its message lies if it begins at `at`
abbrev found : ℕ → List ℕ → Found
found at body = record { vector = at + 2; place = at + 3; len = length body }

-- a written PDU behind any octets and before any others
module _ (pre : List ℕ) (vector : ℕ) (body rest : List ℕ) where
  first_here : get_or (pre ++ (pdu vector body ++ rest)) (length pre) 0 ≡ first (3 + length body)
  unfolding octets first
  first_here = rw get_or-append_seam

  length_here : length (pre ++ (pdu vector body ++ rest)) ≡ length pre + (3 + length body) + length rest
  unfolding octets
  length_here = simp length-append (omega arith)

  module _ (h : 3 + length body < 4096) where
    size_here : size_at (pre ++ (pdu vector body ++ rest)) (length pre) ≡ 3 + length body
    unfolding size_at number octets head_size
    size_here =
        rw (first_here, drop-append-add, no_l (3 + length body) h) (length_back (3 + length body) h)

    pdu_here : (before : Found)
        → pdu_at (pre ++ (pdu vector body ++ rest)) (length pre) before
        ≡ Some (record { found = found (length pre) body; next = length pre + (3 + length body) })
    unfolding pdu_at malformed lacks_flag left_over found_at fields head_size
    pdu_here before =
        let n : ℕ = 3 + length body in
        let end : ℕ = length pre + n + length rest in
        let e : n - 3 ≡ length body = omega arith in
        simp (
          size_here,
          first_here,
          length_here,
          no_l n h,
          has_v_lem n h,
          has_h_lem n h,
          has_d_lem n h,
          and-false,
          le-ltb n 3 (omega arith),
          le-ltb end (length pre + 2) (omega arith),
          le-ltb end (length pre + n) (omega arith),
          e,
        )

-- where messages lie that are written from `at` on
abbrev placed : ℕ → List Piece → List Found
placed at [] = []
placed at (m ∷ ms) = found at m.body ∷ placed (at + (3 + length m.body)) ms

names_here : (pre : List ℕ) (m : Piece) (rest : List ℕ) → m.vector < 256
    → Names (pre ++ (pdu m.vector m.body ++ rest)) (found (length pre) m.body) m
unfolding octets
names_here pre m rest h =
    record {
      vector = rw (get_or-append-add, div-one) (mod-eq_of_lt h);
      body = rw drop-append-add (take-append_seam m.body rest);
    }

-- one message further
module _ (pre : List ℕ) (m : Piece) (ms : List Piece) where
  onto : pre ++ pdu m.vector m.body ++ together ms ≡ pre ++ together (m ∷ ms)
  unfolding together
  onto = append_assoc pre (pdu m.vector m.body) (together ms)

  length_onto : length (pre ++ pdu m.vector m.body) ≡ length pre + (3 + length m.body)
  unfolding octets
  length_onto = rw length-append (omega arith)

-- they are all parsed, and nothing else
parse_together : (k : ℕ) (pre : List ℕ) (ms : List Piece) (before : Found) → AllShort ms → length (together ms) ≤ k
    → parse_from k (pre ++ together ms) (length pre) before ≡ Ok (placed (length pre) ms)
unfolding parse_from together octets
parse_together zero pre [] before a h = refl
parse_together (suc k) pre [] before a h = rw (append-nil, le-ltb (length pre) (length pre) (omega arith))
parse_together zero pre (m ∷ ms) before a h = absurd (omega arith)
parse_together (suc k) pre (m ∷ ms) before a h =
    let l = length_here pre m.vector m.body (together ms) in
    let j = length_here [] m.vector m.body (together ms) in
    let next = parse_together k (pre ++ pdu m.vector m.body) ms (found (length pre) m.body) a.1 (omega arith) in
    rw (lt-ltb (length pre) (length (pre ++ together (m ∷ ms))) (omega arith), pdu_here pre m.vector m.body (together ms) a.0.body before)
    (ap (with (found (length pre) m.body)) (rw (onto pre m ms, length_onto pre m ms) at next))

-- each is named where it lies
names : (pre : List ℕ) (ms : List Piece) (k : ℕ) (d : Piece) → AllShort ms → k < length ms
    → Names (pre ++ together ms) (get_or (placed (length pre) ms) k nothing) (get_or ms k d)
unfolding together
names pre [] k d a h = absurd (omega arith)
names pre (m ∷ ms) zero d a h = names_here pre m (together ms) a.0.vector
names pre (m ∷ ms) (suc k) d a h =
    rw (onto pre m ms, length_onto pre m ms) at (names (pre ++ pdu m.vector m.body) ms k d a.1 (omega arith))

length_placed : (at : ℕ) (ms : List Piece) → length (placed at ms) ≡ length ms
length_placed at [] = refl
length_placed at (m ∷ ms) = ap suc (length_placed (at + (3 + length m.body)) ms)

module _ (ms : List Piece) (a : AllShort ms) (h : length (together ms) ≤ most_block) where
  read_placed : (k : ℕ) → read_block (together ms) k ≡ Ok (slice_get (placed 0 ms) k)
  unfolding read_block parse asked
  read_placed k =
      rw (le-ltb most_block (length (together ms)) h, parse_together (length (together ms)) [] ms nothing a (omega arith))

  -- at each position below their number, the message of that position is read
  pub in_order : (k : ℕ) (d : Piece) → k < length ms
      → (f : Found) × (read_block (together ms) k ≡ Ok (Some f)) × Names (together ms) f (get_or ms k d)
  in_order k d i = (
    get_or (placed 0 ms) k nothing,
    read_placed k ∙ ap Ok (slice_get-get_or (placed 0 ms) k nothing (rw length_placed i)),
    names [] ms k d a i,
  )

  -- past them, the block has fewer
  pub no_more : (k : ℕ) → length ms ≤ k → read_block (together ms) k ≡ Ok None
  no_more k i = read_placed k ∙ ap Ok (slice_get_past (placed 0 ms) k (rw length_placed i))

-- it has one message, with this vector and these data
pub one_written : (vector : ℕ) (body : List ℕ) → vector < 256 → 3 + length body < 4096 → Alone vector body
unfolding together octets
one_written vector body v b =
    let ms : List Piece = record { vector = vector; body = body } ∷ [] in
    let fits : length (together ms) ≤ most_block = omega (arith, length_here [] vector body []) in
    let reads = read_placed ms (record { vector = v; body = b }, tt) fits in
    record {
      message = rw append-nil at (reads 0);
      vector_there = rw div-one (mod-eq_of_lt v);
      body_there = refl;
      no_other = rw append-nil at (reads 1);
    }
