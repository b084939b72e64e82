-- Whatever reading answers lies inside the block: the messages, by position and from any cursor on, and the place of a malformed PDU.
-- Assumes nothing.
use mathlib.Core.Path.{◌≡◌, refl}
use mathlib.Core.Bool.{Bool, true, false, cond, not, ◌&&◌, ◌||◌, and-false, and-true, true≢false}
use mathlib.Core.List.{List}
use Prim.Native.Nat.{ℕ, zero, suc, ◌+◌, ◌-◌, ◌<◌, ◌≤◌}
use native.Mathlib.Omega.{arith}
use lib.ListN.{length, get_or}
use lib.Dec.{ltb, leb, eqb, eqb-suc-zero}
use borrow.Author.Tests.{ltb-false, leb-false, eqb-false, le-ltb, lt-leb, ne_eqb}
use Rattle.std.specs.Prelude.{slice_get, Option, Some, None, Result, Ok, Err}
use Rattle.refusal.specs.declared.Refusal.{Refusal}
use Rattle.refusal.specs.declared.Refusal.TheVariants.{WrongSize, Malformed}
use Rattle.block.specs.Pdu.{has_v, has_h, has_d, head_size, fields, size_at, lacks_flag, found_at, pdu_at}
use Rattle.block.specs.Block.{most_block, nothing, Parsed, with, parse, asked, read_block}
use Rattle.block.specs.Cursor.{astray, passed, next_message}
use Rattle.block.specs.declared.Found.{Found}
use Rattle.block.specs.declared.Cursor.{Cursor}
use Rattle.block.specs.declared.Whole.{Whole}
use Rattle.block.specs.declared.Following.{Following}
use Rattle.block.specs.declared.Astray.{Astray}
use Rattle.block.specs.Inside.{In, Before, Ahead}
use Rattle.block.proofs.Sound.{neither, sound, whole_within}
use Rattle.block.proofs.Along.{along}

-- ---- one PDU

-- a PDU that lacks a flag is not the first
later : (at : ℕ) (flags : Bool) → (eqb at 0 && not flags) ≡ false → flags ≡ false → 0 < at
later at true e f = absurd (true≢false f)
later at false e f = omega (arith, eqb-false at 0 (rw and-true at e))

-- V clear takes the vector of the message before, D clear its data; both lie before this PDU
module _ (at head size : ℕ) (h : Bool) (before : Found) (lies : Before at before) where
  vector_in : (v d : Bool) → (eqb at 0 && not (v && h && d)) ≡ false → cond v (head + 1) head ≤ size
      → cond v (at + head) before.vector < at + size
  vector_in true d e f = omega arith
  vector_in false d e f = omega (arith, lies (later at false e refl))

  body_in : (v d : Bool) → (eqb at 0 && not (v && h && d)) ≡ false → (own : ℕ) → own ≤ size
      → cond d (at + own) before.place + cond d (size - own) before.len ≤ at + size
  body_in v true e own f = omega arith
  body_in v false e own f = omega (arith, lies (later at (v && h && false) e (and-false (v && h))))

-- the message of a whole PDU lies before the next PDU
pub whole_in : (s : List ℕ) (at : ℕ) (before : Found) {w : Whole} → pdu_at s at before ≡ Some w → Before at before → In w.next w.found
unfolding lacks_flag found_at fields
whole_in s at before e lies =
    let whole = sound s at before e in
    let b : ℕ = get_or s at 0 in
    rw (whole.behind, whole.message)
    (record {
      vector = vector_in at (head_size b) (size_at s at) (has_h b) before lies (has_v b) (has_d b) whole.flagged whole.fits;
      body = body_in at (head_size b) (size_at s at) (has_h b) before lies (has_v b) (has_d b) whole.flagged (fields b) whole.fits;
    })

-- ---- by position

-- a message that there is lies in a block of this size
abbrev MessageIn : ℕ → Option Found → Type 0
MessageIn size (Some m) = In size m
MessageIn size None = Unit

-- what a block says lies in a block of this size: each of its messages, or the place of the malformed PDU
abbrev Inside : ℕ → Parsed → Type 0
Inside size (Ok ms) = (k : ℕ) → MessageIn size (slice_get ms k)
Inside size (Err p) = p < size

with_inside : (size : ℕ) (m : Found) (rest : Parsed) → In size m → Inside size rest → Inside size (with m rest)
with_inside size m (Err p) i on = on
with_inside size m (Ok ms) i on = elim [ zero ↦ i | suc k ↦ on k ]

parsed_inside : (s : List ℕ) → Inside (length s) (parse s)
unfolding parse
parsed_inside s =
    along s (λ at before p. Before at before → Inside (length s) p)
    (λ at before h lies k. tt)
    (λ at before h lies. h)
    (λ at before w rest e h on lies.
    let i = whole_in s at before e lies in
    let o = whole_within s at before e in
    with_inside (length s) w.found rest (omega arith) (on (λ _. i)))
    (length s)
    0
    nothing
    (omega arith)
    (λ h. absurd (omega arith))

-- what an answer names lies in a block of this size
abbrev AnswerIn : ℕ → Result (Option Found) Refusal → Type 0
AnswerIn size (Ok m) = MessageIn size m
AnswerIn size (Err (Malformed p)) = p < size
AnswerIn size (Err r) = Unit

answer_inside : (size position : ℕ) (long : Bool) (p : Parsed) → Inside size p → AnswerIn size (cond long (Err WrongSize) (asked position p))
unfolding asked
answer_inside size position true p i = tt
answer_inside size position false (Ok ms) i = i position
answer_inside size position false (Err p) i = i

inside : (s : List ℕ) (position : ℕ) → AnswerIn (length s) (read_block s position)
unfolding read_block
inside s position = answer_inside (length s) position (ltb most_block (length s)) (parse s) (parsed_inside s)

-- the places answered of a message are within the block
pub read_inside : (s : List ℕ) (position : ℕ) {m : Found} → read_block s position ≡ Ok (Some m) → In (length s) m
read_inside s position e = rw e at (inside s position)

-- the place answered of the first malformed PDU is within the block
pub bad_inside : (s : List ℕ) (position : ℕ) {p : ℕ} → read_block s position ≡ Err (Malformed p) → p < length s
bad_inside s position e = rw e at (inside s position)

-- ---- from a cursor on

-- a cursor that is not astray in a block of this size
pub record Own (size : ℕ) (c : Cursor) : Type 0 where
  pub short : size ≤ most_block
  pub within : c.next ≤ size
  pub lies : Before c.next c.before

own : (size : ℕ) (c : Cursor) → astray size c ≡ false → Own size c
unfolding astray
own size c e =
    let at = c.next in
    let m = c.before in
    let passes = leb at m.vector || ltb at (m.place + m.len) in
    let outer = neither (ltb most_block size || ltb size at) (not (eqb at 0) && passes) e in
    let sizes = neither (ltb most_block size) (ltb size at) outer.0 in
    record {
      short = ltb-false most_block size sizes.0;
      within = ltb-false size at sizes.1;
      lies =
          λ h.
          let inner = neither (leb at m.vector) (ltb at (m.place + m.len)) (rw (ne_eqb at 0 (λ z. omega arith)) at outer.1) in
          record {
            vector = leb-false at m.vector inner.0;
            body = ltb-false at (m.place + m.len) inner.1;
          };
    }

lies_test : (at : ℕ) (m : Found) → Before at m → (not (eqb at 0) && (leb at m.vector || ltb at (m.place + m.len))) ≡ false
lies_test zero m lies = refl
lies_test (suc n) m lies =
    let i : In (suc n) m = lies (omega arith) in
    rw (eqb-suc-zero n, lt-leb (suc n) m.vector i.vector, le-ltb (suc n) (m.place + m.len) i.body)

-- a cursor that lies in the block, behind the message before it, is not astray
pub not_astray : (size : ℕ) (c : Cursor) → Own size c → astray size c ≡ false
unfolding astray
not_astray size c o =
    rw (le-ltb most_block size o.short, le-ltb size c.next o.within, lies_test c.next c.before o.lies)

-- where the block does not end there, a PDU begins at such a cursor
pub begins : (size : ℕ) (c : Cursor) → astray size c ≡ false → (c.next ≡ size → ⊥) → c.next < size
begins size c e n = let o = own size c e in omega (arith, n, o.within)

-- behind a whole PDU lies a cursor that is not astray again
pub own_behind : (s : List ℕ) (c : Cursor) (w : Whole) → pdu_at s c.next c.before ≡ Some w → Own (length s) c
    → Own (length s) (record { next = w.next; before = w.found })
own_behind s c w e o =
    record {
      short = o.short;
      within = (whole_within s c.next c.before e).1;
      lies = λ _. whole_in s c.next c.before e o.lies;
    }

-- what reading on from c answers
abbrev Goes : List ℕ → Cursor → Result (Option Following) Astray → Type 0
Goes s c (Ok (Some f)) = Ahead s c f.found f.cursor
Goes s c (Ok None) = Unit
Goes s c (Err e) = Unit

goes : (s : List ℕ) (c : Cursor) (out ended : Bool) (p : Option Whole) → astray (length s) c ≡ out → pdu_at s c.next c.before ≡ p
    → Goes s c (cond out (Err (record {})) (cond ended (Ok None) (passed p)))
goes s c true ended p a e = tt
goes s c false true p a e = tt
goes s c false false None a e = tt
goes s c false false (Some w) a e =
    let o = own (length s) c a in
    let i = whole_within s c.next c.before e in
    let n = whole_in s c.next c.before e o.lies in
    record {
      inside = omega arith;
      forward = i.0;
      within = i.1;
      before = refl;
      behind = n;
      not_astray = not_astray (length s) (record { next = w.next; before = w.found }) (own_behind s c w e o);
    }

-- from any cursor on, the message that is read lies inside the block, and so does the cursor behind it
pub next_inside : (s : List ℕ) (c : Cursor) {f : Following} → next_message s c ≡ Ok (Some f) → Ahead s c f.found f.cursor
unfolding next_message
next_inside s c e = rw e at (goes s c (astray (length s) c) (eqb c.next (length s)) (pdu_at s c.next c.before) refl refl)
