-- C can tell every outcome apart: two results that are answered alike are the same result, since a result can be had back from its answer.
-- Assumes nothing.
use Prim.{Unit}
use Prim.Native.Nat.{ℕ, ◌<◌}
use mathlib.Core.Path.{◌≡◌, refl}
use mathlib.Core.Bool.{Bool, true, false, cond, not}
use mathlib.Core.List.{List}
use lib.ListN.{length}
use lib.Dec.{ltb, eqb, lit<}
use native.Mathlib.Omega.{arith}
use borrow.Author.Tests.{ne_eqb}
use Rattle.std.specs.Prelude.{Option, Some, None, Result, Ok, Err, ok_or}
use Rattle.refusal.specs.Numbers.{number_of}
use Rattle.refusal.specs.declared.Refusal.{Refusal}
use Rattle.refusal.specs.declared.Refusal.TheVariants as refusal
use Rattle.block.specs.declared.Found.{Found}
use Rattle.block.specs.declared.Cursor.{Cursor}
use Rattle.block.specs.declared.Opened.{Opened}
use Rattle.block.specs.declared.Following.{Following}
use Rattle.block.specs.declared.Astray.{Astray}
use Rattle.message.specs.Reading.{readable, message_of, read_message}
use Rattle.message.specs.declared.Message.{Message}
use Rattle.message.specs.Lengths.{most_contents}
use Rattle.writing.specs.Writing.{has_form, contents_of, pdu_of, wrote}
use Rattle.plain.specs.Messages.{typed_of}
use Rattle.plain.proofs.Back.{Proper, typed_plain, read_proper}
use Rattle.sdt.specs.Blocks.{ok, fewer, place_of, block_answer, open_answer, next_answer}
use Rattle.sdt.specs.Messages.{message_answer, write_answer}
use Rattle.sdt.specs.declared.BlockAnswer.{BlockAnswer}
use Rattle.sdt.specs.declared.OpenAnswer.{OpenAnswer}
use Rattle.sdt.specs.declared.NextAnswer.{NextAnswer}
use Rattle.sdt.specs.declared.MessageAnswer.{MessageAnswer}
use Rattle.sdt.specs.declared.WriteAnswer.{WriteAnswer}

-- ---- the refusals: the number, with the place, says which it is

refusal_of : ℕ → ℕ → Refusal
refusal_of number place =
    cond (eqb number 1) refusal.WrongSize
    (cond (eqb number 2) refusal.WrongTable
    (cond (eqb number 3) refusal.TooMuchTime
    (cond (eqb number 4) refusal.NoForm
    (cond (eqb number 5) refusal.NotForUs
    (cond (eqb number 6) refusal.NoRecord
    (cond (eqb number 7) refusal.ContentsOver
    (cond (eqb number 8) refusal.Old
    (cond (eqb number 9) refusal.Inconsistent
    (cond (eqb number 10) refusal.WrongReason (refusal.Malformed place))))))))))

refusal_back : (r : Refusal) → refusal_of (number_of r) (place_of r) ≡ r
unfolding refusal_of
refusal_back refusal.WrongSize = refl
refusal_back refusal.WrongTable = refl
refusal_back refusal.TooMuchTime = refl
refusal_back refusal.NoForm = refl
refusal_back refusal.NotForUs = refl
refusal_back refusal.NoRecord = refl
refusal_back refusal.ContentsOver = refl
refusal_back refusal.Old = refl
refusal_back refusal.Inconsistent = refl
refusal_back refusal.WrongReason = refl
refusal_back (refusal.Malformed at) = refl

-- a refusal has one of 01's numbers, so neither the outcome of an answer that is none nor the one that says that there are fewer messages
numbered : (r : Refusal) → (ok < number_of r) × (number_of r < fewer)
numbered refusal.WrongSize = (lit< tt, lit< tt)
numbered refusal.WrongTable = (lit< tt, lit< tt)
numbered refusal.TooMuchTime = (lit< tt, lit< tt)
numbered refusal.NoForm = (lit< tt, lit< tt)
numbered refusal.NotForUs = (lit< tt, lit< tt)
numbered refusal.NoRecord = (lit< tt, lit< tt)
numbered refusal.ContentsOver = (lit< tt, lit< tt)
numbered refusal.Old = (lit< tt, lit< tt)
numbered refusal.Inconsistent = (lit< tt, lit< tt)
numbered refusal.WrongReason = (lit< tt, lit< tt)
numbered (refusal.Malformed at) = (lit< tt, lit< tt)

not_ok : (r : Refusal) → eqb (number_of r) ok ≡ false
not_ok r = let n = numbered r in ne_eqb (number_of r) ok (λ e. omega (arith, e, n.0))

not_fewer : (r : Refusal) → eqb (number_of r) fewer ≡ false
not_fewer r = let n = numbered r in ne_eqb (number_of r) fewer (λ e. omega (arith, e, n.1))

-- without a place the number alone says it
alone_back : (r : Refusal) → place_of r ≡ 0 → refusal_of (number_of r) 0 ≡ r
alone_back r h = rw h at (refusal_back r)

-- ---- reading one message of a block

block_of : BlockAnswer → Result (Option Found) Refusal
block_of r =
    cond (eqb r.outcome ok) (Ok (Some r.found))
    (cond (eqb r.outcome fewer) (Ok None) (Err (refusal_of r.outcome r.bad)))

block_back : (a : Result (Option Found) Refusal) → block_of (block_answer a) ≡ a
unfolding block_of block_answer
block_back (Ok (Some found)) = refl
block_back (Ok None) = refl
block_back (Err r) = rw (not_ok r, not_fewer r, refusal_back r)

pub block_apart : (a b : Result (Option Found) Refusal) → block_answer a ≡ block_answer b → a ≡ b
block_apart a b e = cc (block_back a, block_back b)

-- ---- opening a block, and reading on

opened_of : OpenAnswer → Result Opened Refusal
opened_of r = cond (eqb r.outcome ok) (Ok (record { count = r.count; cursor = r.cursor })) (Err (refusal_of r.outcome r.bad))

open_back : (a : Result Opened Refusal) → opened_of (open_answer a) ≡ a
unfolding opened_of open_answer
open_back (Ok o) = refl
open_back (Err r) = rw (not_ok r, refusal_back r)

pub open_apart : (a b : Result Opened Refusal) → open_answer a ≡ open_answer b → a ≡ b
open_apart a b e = cc (open_back a, open_back b)

next_of : NextAnswer → Result (Option Following) Astray
next_of r =
    cond (eqb r.outcome ok) (Ok (Some (record { found = r.found; cursor = r.cursor })))
    (cond (eqb r.outcome fewer) (Ok None) (Err (record {})))

next_back : (c : Cursor) (a : Result (Option Following) Astray) → next_of (next_answer c a) ≡ a
unfolding next_of next_answer
next_back c (Ok (Some f)) = refl
next_back c (Ok None) = refl
next_back c (Err e) = refl

-- even with two cursors: where the given one is answered, the outcome says that it is
pub next_apart : (c d : Cursor) (a b : Result (Option Following) Astray) → next_answer c a ≡ next_answer d b → a ≡ b
next_apart c d a b e = cc (next_back c a, next_back d b)

-- ---- reading a message

-- a result that can be had back from its answer: its message has a proper address, or its refusal no place, which the answer would not hold
abbrev pub ProperRead : Result Message Refusal → Type 0
ProperRead (Ok m) = Proper m
ProperRead (Err r) = place_of r ≡ 0

read_of : MessageAnswer → Result Message Refusal
read_of r = cond (eqb r.outcome ok) (ok_or (typed_of r.message) refusal.NoForm) (Err (refusal_of r.outcome 0))

message_back : (a : Result Message Refusal) → ProperRead a → read_of (message_answer a) ≡ a
unfolding read_of message_answer
message_back (Ok m) h = rw (typed_plain m h)
message_back (Err r) h = rw (not_ok r, alone_back r h)

pub message_apart : (a b : Result Message Refusal) → ProperRead a → ProperRead b → message_answer a ≡ message_answer b → a ≡ b
message_apart a b h k e = cc (message_back a h, message_back b k)

proper_read : (v : ℕ) (d : List ℕ) → ProperRead (read_message v d)
unfolding read_message
proper_read v d = by (readable v d)
  where
    by : (t : Bool) → ProperRead (cond t (Ok (message_of v d)) (Err refusal.NoForm))
    by true = read_proper v d
    by false = refl

-- so whatever is read
pub read_apart : (v w : ℕ) (d e : List ℕ) → message_answer (read_message v d) ≡ message_answer (read_message w e) → read_message v d ≡ read_message w e
read_apart v w d e = message_apart (read_message v d) (read_message w e) (proper_read v d) (proper_read w e)

-- ---- writing a message

-- a result whose refusal has no place, which the answer would not hold
abbrev pub Placeless : Result ℕ Refusal → Type 0
Placeless (Ok n) = Unit
Placeless (Err r) = place_of r ≡ 0

wrote_of : WriteAnswer → Result ℕ Refusal
wrote_of r = cond (eqb r.outcome ok) (Ok r.length) (Err (refusal_of r.outcome 0))

write_back : (a : Result ℕ Refusal) → Placeless a → wrote_of (write_answer a) ≡ a
unfolding wrote_of write_answer
write_back (Ok n) h = refl
write_back (Err r) h = rw (not_ok r, alone_back r h)

pub write_apart : (a b : Result ℕ Refusal) → Placeless a → Placeless b → write_answer a ≡ write_answer b → a ≡ b
write_apart a b h k e = cc (write_back a h, write_back b k)

placeless : (m : Message) (c r : List ℕ) → Placeless (wrote m c r)
unfolding wrote
placeless m c r = by (not (has_form m)) (ltb (length r) (length (pdu_of m c))) (ltb most_contents (length (contents_of m c)))
  where
    by : (f s o : Bool)
        → Placeless (cond f (Err refusal.NoForm) (cond s (Err refusal.WrongSize) (cond o (Err refusal.ContentsOver) (Ok (length (pdu_of m c))))))
    by true s o = refl
    by false true o = refl
    by false false true = refl
    by false false false = tt

-- so whatever writing answers
pub wrote_apart : (m n : Message) (c d r q : List ℕ) → write_answer (wrote m c r) ≡ write_answer (wrote n d q) → wrote m c r ≡ wrote n d q
wrote_apart m n c d r q e = write_apart (wrote m c r) (wrote n d q) (placeless m c r) (placeless n d q) e
