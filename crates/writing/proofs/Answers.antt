-- The four answers of writing a message, each with what leads to it: first over the definitions, then from the facts that the code of
-- `write_message` has at hand. Assumes nothing.
use Prim.Native.Nat.{ℕ, ◌+◌, ◌<◌, ◌≤◌}
use native.Mathlib.Omega.{arith}
use mathlib.Core.Path.{◌≡◌, refl, sym}
use mathlib.Core.Bool.{Bool, true, false}
use mathlib.Core.List.{List, ◌++◌, append-nil}
use lib.ListN.{length, length-append}
use lib.Dec.{ltb}
use borrow.Author.Tests.{ltb-true, ltb-false, lt-ltb, le-ltb}
use Rattle.std.specs.Prelude.{Some, None, Result, Ok, Err}
use Rattle.refusal.specs.declared.Refusal.{Refusal}
use Rattle.refusal.specs.declared.Refusal.TheVariants as refusal
use Rattle.octets.specs.Octets.{octets, splice}
use Rattle.block.specs.Written.{head}
use Rattle.message.specs.Lengths.{length_of, most_contents}
use Rattle.message.specs.declared.Message.{Message}
use Rattle.writing.specs.Fields.{fields_of}
use Rattle.writing.specs.Writing.{vector_of, address_of, has_form, contents_of, pdu_of, wrote, leaves, room_after}
use Rattle.writing.specs.Allowed.{WriteMessageAllows}
use Rattle.writing.proofs.Forms.{none_listed, some_listed, contents_length, pdu_length}
use Rattle.writing.proofs.Runs.{Puts, ◌then◌, done, written}

module _ (m : Message) (c r : List ℕ) where
  -- what is answered, with what it takes
  pub data Answer : Result ℕ Refusal → Type 0 where
    formless : has_form m ≡ false → Answer (Err refusal.NoForm)
    short : has_form m ≡ true → length r < length (pdu_of m c) → Answer (Err refusal.WrongSize)
    over : has_form m ≡ true → length (pdu_of m c) ≤ length r → most_contents < length (contents_of m c) → Answer (Err refusal.ContentsOver)
    whole : has_form m ≡ true → length (pdu_of m c) ≤ length r → length (contents_of m c) ≤ most_contents → Answer (Ok (length (pdu_of m c)))

  -- what it takes decides it
  pub answer_is : {w : Result ℕ Refusal} → Answer w → wrote m c r ≡ w
  unfolding wrote
  answer_is (formless f) = rw f
  answer_is (short f h) = rw (f, lt-ltb _ _ h)
  answer_is (over f h o) = rw (f, le-ltb _ _ h, lt-ltb _ _ o)
  answer_is (whole f h o) = rw (f, le-ltb _ _ h, le-ltb _ _ o)

  taken : {w : Result ℕ Refusal} → Answer w → Answer (wrote m c r)
  taken a = rw (answer_is a) a

  -- one of the four it always is
  pub answer : Answer (wrote m c r)
  answer = by (has_form m) (ltb (length r) (length (pdu_of m c))) (ltb most_contents (length (contents_of m c))) refl refl refl
    where
      by : (f s o : Bool) → has_form m ≡ f → ltb (length r) (length (pdu_of m c)) ≡ s → ltb most_contents (length (contents_of m c)) ≡ o
          → Answer (wrote m c r)
      by false s o fe se oe = taken (formless fe)
      by true true o fe se oe = taken (short fe (ltb-true _ _ se))
      by true false true fe se oe = taken (over fe (ltb-false _ _ se) (ltb-true _ _ oe))
      by true false false fe se oe = taken (whole fe (ltb-false _ _ se) (ltb-false _ _ oe))

  -- a call that gives one of them, and leaves in the room what belongs to it, does what is promised
  ends : {w x : Result ℕ Refusal} {s : List ℕ} → Answer w → x ≡ w → s ≡ leaves w m c r → WriteMessageAllows m c r (record { answer = x; room = s })
  unfolding room_after
  ends a e l = rw (answer_is a, e, l)

  -- head, fields and contents, one right behind the other, are the PDU
  placed : (s t u : List ℕ) (fields behind : ℕ) → length (pdu_of m c) ≤ length r
      → Puts r 0 (head (3 + length (fields_of m ++ contents_of m c)) (vector_of m)) s fields
      → Puts s fields (fields_of m) t behind
      → u ≡ splice t behind (contents_of m c)
      → u ≡ splice r 0 (pdu_of m c)
  unfolding octets pdu_of
  placed s t u fields behind h se te ue =
      (written (se then te then (ue, refl) then done) (rw (append-nil (contents_of m c))) (omega arith)).0

-- s is what `length_of` answers, and p what `contents_of` does
module _ (m : Message) (c r : List ℕ) where
  pub no_form_answered : (x : Result ℕ Refusal) → length_of (vector_of m) (address_of m) ≡ None → x ≡ Err refusal.NoForm
      → WriteMessageAllows m c r (record { answer = x; room = r })
  no_form_answered x s e = ends m c r (formless (none_listed m s)) e refl

module _ (m : Message) (c r : List ℕ) (len : ℕ) (s : length_of (vector_of m) (address_of m) ≡ Some len) (p : List ℕ) (k : p ≡ contents_of m c) where
  formed : (has_form m ≡ true) × (len ≡ length (fields_of m))
  formed = some_listed m len s

  size_is : 3 + len + length p ≡ length (pdu_of m c)
  size_is = rw k (omega (arith, pdu_length m c, contents_length m c, formed.1))

  pub fields_are : length (fields_of m) ≡ len
  fields_are = sym formed.1

  pub no_room_answered : length r < 3 + len + length p → WriteMessageAllows m c r (record { answer = Err refusal.WrongSize; room = r })
  no_room_answered h = ends m c r (short formed.0 (omega (arith, size_is))) refl refl

  module _ (h : 3 + len + length p ≤ length r) where
    pub over_answered : most_contents < length p → WriteMessageAllows m c r (record { answer = Err refusal.ContentsOver; room = r })
    over_answered o = ends m c r (over formed.0 (omega (arith, size_is)) (rw k at o)) refl refl

    body_is : 3 + len + length p ≡ 3 + length (fields_of m ++ contents_of m c)
    body_is = rw k (omega (arith, length-append (fields_of m) (contents_of m c), formed.1))

    -- t, u and w are the room after the head, the fields and the contents, and `fields` and `behind` the places behind the first two
    pub whole_answered : (t u w : List ℕ) (size v fields behind : ℕ) → length p ≤ most_contents → size ≡ 3 + len + length p → v ≡ vector_of m
        → (t ≡ splice r 0 (head size v)) × (fields ≡ 3)
        → (u ≡ splice t fields (fields_of m)) × (behind ≡ fields + length (fields_of m))
        → w ≡ splice u behind p
        → WriteMessageAllows m c r (record { answer = Ok size; room = w })
    unfolding octets
    whole_answered t u w size v fields behind o ze ve te ue we =
        ends m c r (whole formed.0 (omega (arith, size_is)) (rw k at o)) (rw (ze, size_is))
        (placed m c r t u w fields behind (omega (arith, size_is)) (rw (ze, body_is, ve) at te) ue (rw k at we))
