-- What putting a message leaves in a room: a message that has a form and fits is written whole, and one written into the rest of a room
-- comes right behind what was written before it. Assumes nothing.
use Prim.Native.Nat.{ℕ, ◌+◌, ◌-◌, ◌≤◌}
use native.Mathlib.Nat.{zero-add}
use native.Mathlib.Omega.{arith}
use mathlib.Core.Path.{◌≡◌, refl, sym, ap, ◌∙◌}
use mathlib.Core.Bool.{true}
use mathlib.Core.List.{List, [], ◌++◌, append-nil, append_assoc}
use lib.ListN.{length, take, drop, length-append, length-drop}
use lib.Seq.{take-length, drop-length, drop-drop}
use Rattle.std.specs.Prelude.{Result, Ok, IsOk}
use Rattle.refusal.specs.declared.Refusal.{Refusal}
use Rattle.octets.specs.Octets.{splice}
use Rattle.octets.proofs.Writes.{splice_splice}
use Rattle.message.specs.declared.Message.{Message}
use Rattle.writing.specs.Writing.{has_form, leaves, room_after}
use Rattle.writing.specs.Allowed.{WriteEnds, WriteMessageAllows}
use Rattle.writing.proofs.Forms.{carried_within, contents_length}
use Rattle.writing.proofs.Answers.{Answer, whole, answer_is}
use Rattle.sending.specs.Sent.{Put, sent_of}

-- w and s are what `write_message` answers and leaves
module _ (m : Message) (r s : List ℕ) (w : Result ℕ Refusal) (asked : (has_form m ≡ true) × (length (sent_of m) ≤ length r)) (e : WriteMessageAllows m [] r (record { answer = w; room = s })) where
  all_fits : Answer m [] r (Ok (length (sent_of m)))
  all_fits = whole asked.0 asked.1 (omega (arith, contents_length m [], carried_within m 0 _ refl))

  answered : w ≡ Ok (length (sent_of m))
  answered = ap (λ (n : WriteEnds). n.answer) e ∙ answer_is m [] r all_fits

  -- it is never refused
  pub is_written : IsOk w
  is_written = rw answered refl

  -- and the number that is answered is the message's length
  pub all_written : (n : ℕ) → w ≡ Ok n → Put (sent_of m) n r s
  unfolding room_after
  all_written n g =
      let k : ◌≡◌ {A = Result ℕ Refusal} (Ok n) (Ok (length (sent_of m))) = sym g ∙ answered in
      (cc, ap (λ (n : WriteEnds). n.room) e ∙ ap (λ (x : Result ℕ Refusal). leaves x m [] r) (answer_is m [] r all_fits))

-- octets zs put into what is behind the first n of s, and that put back
behind : (s zs : List ℕ) (n : ℕ)
    → take n s ++ (splice (take (length s - n) (drop n s)) 0 zs ++ drop (length s - n) (drop n s)) ≡ splice s n zs
unfolding splice
behind s zs n =
    let rest : List ℕ = drop (n + length zs) s in
    rw (← length-drop n s, take-length, drop-length, zero-add, drop-drop, append-nil (zs ++ rest), append_assoc (take n s) zs rest)

-- as many are left as stand behind
pub rest_length : (s : List ℕ) (n : ℕ) → length (take (length s - n) (drop n s)) ≡ length s - n
rest_length s n = rw (← length-drop n s, take-length)

-- octets ys, n of them, are put into r, which is then s, and zs into what is behind them in s, from `at` on, which is then t
pub both_put : (r s t ys zs : List ℕ) (at n k : ℕ) → at ≡ n → n ≤ length r
    → Put ys n r s → Put zs k (take (length s - at) (drop at s)) t
    → Put (ys ++ zs) (n + k) r (take at s ++ (t ++ drop (length s - at) (drop at s)))
both_put r s t ys zs at n k e h a b = (
  omega (arith, length-append ys zs, a.0, b.0),
  rw (b.1, behind s zs at, a.1, e) (rw zero-add at (splice_splice r 0 n ys zs (sym a.0) (omega (arith, a.0)))),
)

-- a message that is another is put as that
pub same_put : (m e : Message) (r s : List ℕ) (n : ℕ) → Put (sent_of m) n r s → m ≡ e → Put (sent_of e) n r s
same_put m e r s n p k = rw (← k) p
