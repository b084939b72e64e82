-- When writing a message is refused, and what it leaves in the room (01, "Refusal numbers": writing one checks 4, 1, 7): over the
-- definitions, so of every message m, contents c and room r. Assumes nothing.
use Prim.Native.Nat.{ℕ, ◌+◌, ◌<◌, ◌≤◌}
use native.Mathlib.Nat.{zero-add}
use mathlib.Core.Path.{◌≡◌, refl, ◌∙◌}
use mathlib.Core.Logic.{◌↔◌}
use mathlib.Core.Bool.{true, false}
use mathlib.Core.List.{List}
use lib.ListN.{length, drop}
use lib.Seq.{drop_at}
use Rattle.std.specs.Prelude.{Result, Ok, Err}
use Rattle.refusal.specs.declared.Refusal.{Refusal}
use Rattle.refusal.specs.declared.Refusal.TheVariants as refusal
use Rattle.octets.specs.Octets.{splice}
use Rattle.message.specs.Lengths.{most_contents}
use Rattle.message.specs.declared.Message.{Message}
use Rattle.writing.specs.Writing.{has_form, contents_of, pdu_of, wrote, leaves, room_after}
use Rattle.writing.proofs.Answers.{Answer, formless, short, over, whole, answer_is, answer}

-- all behind what is written at the front stays
behind : (r ys : List ℕ) → drop (length ys) (splice r 0 ys) ≡ drop (length ys) r
unfolding splice
behind r ys = drop_at ys (drop (0 + length ys) r) (length ys) refl ∙ rw zero-add

module _ (m : Message) (c r : List ℕ) where
  given : (w : Result ℕ Refusal) → wrote m c r ≡ w → Answer m c r w
  given w e = rw e at (answer m c r)

  -- 4 exactly if the message has no written form
  pub no_form : wrote m c r ≡ Err refusal.NoForm ↔ has_form m ≡ false
  no_form = (λ e. why (given (Err refusal.NoForm) e), λ f. answer_is m c r (formless f))
    where
      why : Answer m c r (Err refusal.NoForm) → has_form m ≡ false
      why (formless f) = f

  -- 1 exactly if it has one and the room is shorter than its PDU
  pub no_room : wrote m c r ≡ Err refusal.WrongSize ↔ (has_form m ≡ true) × (length r < length (pdu_of m c))
  no_room = (λ e. why (given (Err refusal.WrongSize) e), λ f. answer_is m c r (short f.0 f.1))
    where
      why : Answer m c r (Err refusal.WrongSize) → (has_form m ≡ true) × (length r < length (pdu_of m c))
      why (short f h) = (f, h)

  -- 7 exactly if neither 4 nor 1 is given and the contents are over 1,454
  pub contents_over : wrote m c r ≡ Err refusal.ContentsOver ↔ (has_form m ≡ true) × (length (pdu_of m c) ≤ length r) × (most_contents < length (contents_of m c))
  contents_over = (λ e. why (given (Err refusal.ContentsOver) e), λ f. answer_is m c r (over f.0 f.1 f.2))
    where
      why : Answer m c r (Err refusal.ContentsOver) → (has_form m ≡ true) × (length (pdu_of m c) ≤ length r) × (most_contents < length (contents_of m c))
      why (over f h o) = (f, h, o)

  -- a refusal, which is every answer but a number of octets, leaves the room as it was
  pub refusal_leaves : ((n : ℕ) → wrote m c r ≡ Ok n → ⊥) → room_after m c r ≡ r
  unfolding room_after
  refusal_leaves = same (wrote m c r)
    where
      same : (w : Result ℕ Refusal) → ((n : ℕ) → w ≡ Ok n → ⊥) → leaves w m c r ≡ r
      same (Ok n) h = absurd (h n refl)
      same (Err why) h = refl

  -- octets past the written length stay
  pub past_stays : (n : ℕ) → wrote m c r ≡ Ok n → drop n (room_after m c r) ≡ drop n r
  unfolding room_after
  past_stays n e = rw e (stays n (given (Ok n) e))
    where
      stays : (k : ℕ) → Answer m c r (Ok k) → drop k (splice r 0 (pdu_of m c)) ≡ drop k r
      stays k (whole f h o) = behind r (pdu_of m c)
