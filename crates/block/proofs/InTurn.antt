-- Reading a block with a cursor gives what reading it by position gives, message by message, and opening it refuses what reading refuses.
-- Assumes nothing.
use mathlib.Core.Path.{◌≡◌, refl, ap}
use mathlib.Core.Logic.{◌↔◌}
use mathlib.Core.Bool.{Bool, true, false, cond}
use mathlib.Core.List.{List}
use Prim.Native.Nat.{ℕ, zero, suc, ◌<◌, ◌≤◌}
use native.Mathlib.Omega.{arith}
use lib.ListN.{length, get_or}
use lib.Dec.{ltb}
use borrow.Author.Tests.{ltb-false, le-ltb, eq-eqb, ne_eqb}
use Rattle.std.specs.Prelude.{slice_get, Some, None, Ok, Err}
use Rattle.std.proofs.lemmas.Option.{slice_get-get_or, slice_get_past}
use Rattle.refusal.specs.declared.Refusal.{Refusal}
use Rattle.refusal.specs.declared.Refusal.TheVariants.{WrongSize, Malformed}
use Rattle.block.specs.Pdu.{pdu_at}
use Rattle.block.specs.Block.{most_block, nothing, Parsed, with, parse, asked, read_block}
use Rattle.block.specs.Cursor.{start, opened_of, open_block, next_message, call_at, Same}
use Rattle.block.specs.declared.Found.{Found}
use Rattle.block.specs.declared.Cursor.{Cursor}
use Rattle.block.specs.declared.Whole.{Whole}
use Rattle.block.specs.declared.Opened.{Opened}
use Rattle.block.specs.declared.Following.{Following}
use Rattle.block.proofs.Along.{along}
use Rattle.block.proofs.Inside.{Own, not_astray, own_behind}

-- ---- the calls from a cursor on

abbrev cursor : ℕ → Found → Cursor
cursor at before = record { next = at; before = before }

-- the calls from c on give the messages of p in turn
abbrev Turns : List ℕ → Cursor → Parsed → Type 0
Turns s c (Ok ms) = (k : ℕ) → Same (call_at k s c) (Ok (slice_get ms k))
Turns s c (Err p) = Unit

module _ (s : List ℕ) (at : ℕ) (before : Found) (own : Own (length s) (cursor at before)) where
  next_end : length s ≤ at → next_message s (cursor at before) ≡ Ok None
  unfolding next_message
  next_end h = rw (not_astray (length s) (cursor at before) own, eq-eqb at (length s) (omega arith))

  -- the end stays the end
  call_end : length s ≤ at → (k : ℕ) → call_at k s (cursor at before) ≡ Ok None
  unfolding call_at
  call_end h zero = next_end h
  call_end h (suc k) = rw (next_end h)

  next_whole : (w : Whole) → pdu_at s at before ≡ Some w → at < length s
      → next_message s (cursor at before) ≡ Ok (Some (record { found = w.found; cursor = cursor w.next w.found }))
  unfolding next_message
  next_whole w e h = rw (not_astray (length s) (cursor at before) own, ne_eqb at (length s) (λ z. omega arith), e)

-- a message before them is one turn more
with_turns : (s : List ℕ) (c : Cursor) (f : Following) (rest : Parsed) → next_message s c ≡ Ok (Some f) → Turns s f.cursor rest
    → Turns s c (with f.found rest)
unfolding call_at
with_turns s c f (Err p) e on = tt
with_turns s c f (Ok ms) e on = elim [ zero ↦ rw e refl | suc k ↦ rw e (on k) ]

-- so it is from the start on
turns : (s : List ℕ) → length s ≤ most_block → Turns s start (parse s)
unfolding parse
turns s short =
    along s (λ at before p. Own (length s) (cursor at before) → Turns s (cursor at before) p)
    (λ at before h own k. rw (call_end s at before own h k) tt)
    (λ at before h own. tt)
    (λ at before w rest e h on own.
    with_turns s (cursor at before) (record { found = w.found; cursor = cursor w.next w.found }) rest (next_whole s at before own w e h)
    (on (own_behind s (cursor at before) w e own)))
    (length s)
    0
    nothing
    (omega arith)
    (record { short = short; within = omega arith; lies = λ h. absurd (omega arith) })

-- ---- an opened block

-- what an opened block is: short and parsed to its end, and o has the number of its messages and the cursor before them
record Listed (s : List ℕ) (o : Opened) : Type 0 where
  list : List Found
  parsed : parse s ≡ Ok list
  counted : o.count ≡ length list
  first : o.cursor ≡ start
  short : length s ≤ most_block

module _ (s : List ℕ) {o : Opened} where
  of_tests : (t : Bool) (p : Parsed) → ltb most_block (length s) ≡ t → parse s ≡ p → cond t (Err WrongSize) (opened_of p) ≡ Ok o → Listed s o
  unfolding opened_of
  of_tests true p l e f = let z : ◌≡◌ {A = ℕ} 0 1 = cc in absurd (omega arith)
  of_tests false (Err p) l e f = let z : ◌≡◌ {A = ℕ} 0 1 = cc in absurd (omega arith)
  of_tests false (Ok ms) l e f =
      let same : record { count = length ms; cursor = start } ≡ o = cc in
      record {
        list = ms;
        parsed = e;
        counted = cc;
        first = cc;
        short = ltb-false most_block (length s) l;
      }

  listed : open_block s ≡ Ok o → Listed s o
  unfolding open_block
  listed = of_tests (ltb most_block (length s)) (parse s) refl refl

  read_listed : (l : Listed s o) (k : ℕ) → read_block s k ≡ Ok (slice_get l.list k)
  unfolding read_block asked
  read_listed l k = rw (le-ltb most_block (length s) l.short, l.parsed)

-- call number k with the cursor gives the message of position k
pub in_turn : (s : List ℕ) (o : Opened) → open_block s ≡ Ok o → (k : ℕ) → Same (call_at k s o.cursor) (read_block s k)
in_turn s o e k =
    let l = listed s e in
    let all : Turns s start (Ok l.list) = rw l.parsed at (turns s l.short) in
    rw (l.first, read_listed s l k) (all k)

-- a block opened with n messages has one at each position below n, and fewer at any other
pub opened_count : (s : List ℕ) (o : Opened) → open_block s ≡ Ok o
    → ((k : ℕ) → k < o.count → (m : Found) × (read_block s k ≡ Ok (Some m))) × ((k : ℕ) → o.count ≤ k → read_block s k ≡ Ok None)
opened_count s o e =
    let l = listed s e in
    let counted = l.counted in (
      λ k h. (get_or l.list k nothing, rw (read_listed s l k) (ap Ok (slice_get-get_or l.list k nothing (omega arith)))),
      λ k h. rw (read_listed s l k) (ap Ok (slice_get_past l.list k (omega arith))),
    )

-- ---- the refusals

refusal_tests : (k : ℕ) (t : Bool) (p : Parsed) (r : Refusal)
    → (cond t (Err WrongSize) (opened_of p) ≡ Err r) ↔ (cond t (Err WrongSize) (asked k p) ≡ Err r)
unfolding opened_of asked
refusal_tests k true p r = (λ e. cc, λ e. cc)
refusal_tests k false (Err p) r = (λ e. cc, λ e. cc)
refusal_tests k false (Ok ms) r = (λ e. cc, λ e. cc)

-- opening refuses exactly what reading refuses, with the same refusal, whichever message is asked for
pub refusal_agrees : (s : List ℕ) (k : ℕ) (r : Refusal) → (open_block s ≡ Err r) ↔ (read_block s k ≡ Err r)
unfolding open_block read_block
refusal_agrees s k r = refusal_tests k (ltb most_block (length s)) (parse s) r

-- in particular as too long
pub long_agrees : (s : List ℕ) (k : ℕ) → (open_block s ≡ Err WrongSize) ↔ (read_block s k ≡ Err WrongSize)
long_agrees s k = refusal_agrees s k WrongSize

-- and as malformed, with the same place
pub malformed_agrees : (s : List ℕ) (k p : ℕ) → (open_block s ≡ Err (Malformed p)) ↔ (read_block s k ≡ Err (Malformed p))
malformed_agrees s k p = refusal_agrees s k (Malformed p)
