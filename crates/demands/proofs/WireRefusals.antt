-- Which refusals the calls of the wire can give (01, "Refusal numbers": reading a block checks 1, 11; reading a message checks 4 alone; writing one checks 4, 1,
-- 7): no other value of `Refusal` comes of them. Assumes nothing.
use Prim.Native.Nat.{ℕ}
use mathlib.Core.Path.{◌≡◌}
use mathlib.Core.Logic.{◌⊎◌, inl, inr}
use mathlib.Core.Bool.{Bool, true, false, cond, not}
use mathlib.Core.List.{List}
use lib.ListN.{length}
use lib.Dec.{ltb}
use Rattle.std.specs.Prelude.{Ok, Err}
use Rattle.refusal.specs.declared.Refusal.{Refusal}
use Rattle.refusal.specs.declared.Refusal.TheVariants.{WrongSize, NoForm, ContentsOver, Malformed}
use Rattle.block.specs.Block.{most_block, Parsed, parse, asked, read_block}
use Rattle.block.specs.Cursor.{opened_of, open_block}
use Rattle.message.specs.Reading.{readable, message_of, read_message}
use Rattle.message.specs.declared.Message.{Message}
use Rattle.message.specs.Lengths.{most_contents}
use Rattle.writing.specs.Writing.{has_form, pdu_of, contents_of, wrote}
use Rattle.record.proofs.Choices.{never}

block_tests : (k : ℕ) (t : Bool) (p : Parsed) (r : Refusal) → cond t (Err WrongSize) (asked k p) ≡ Err r → (r ≡ WrongSize) ⊎ ((at : ℕ) × (r ≡ Malformed at))
unfolding asked
block_tests k true p r e = inl (cc)
block_tests k false (Err at) r e = inr (at, cc)
block_tests k false (Ok ms) r e = never (cc)

-- reading a block: 1 or 11
pub block_refuses : (s : List ℕ) (k : ℕ) (r : Refusal) → read_block s k ≡ Err r → (r ≡ WrongSize) ⊎ ((at : ℕ) × (r ≡ Malformed at))
unfolding read_block
block_refuses s k r e = block_tests k (ltb most_block (length s)) (parse s) r e

opening_tests : (t : Bool) (p : Parsed) (r : Refusal) → cond t (Err WrongSize) (opened_of p) ≡ Err r → (r ≡ WrongSize) ⊎ ((at : ℕ) × (r ≡ Malformed at))
unfolding opened_of
opening_tests true p r e = inl (cc)
opening_tests false (Err at) r e = inr (at, cc)
opening_tests false (Ok ms) r e = never (cc)

-- opening one: the same
pub opening_refuses : (s : List ℕ) (r : Refusal) → open_block s ≡ Err r → (r ≡ WrongSize) ⊎ ((at : ℕ) × (r ≡ Malformed at))
unfolding open_block
opening_refuses s r e = opening_tests (ltb most_block (length s)) (parse s) r e

reading_tests : (t : Bool) (m : Message) (r : Refusal) → cond t (Ok m) (Err NoForm) ≡ Err r → r ≡ NoForm
reading_tests true m r e = never (cc)
reading_tests false m r e = cc

-- reading a message: 4 alone
pub reading_refuses : (v : ℕ) (d : List ℕ) (r : Refusal) → read_message v d ≡ Err r → r ≡ NoForm
unfolding read_message
reading_refuses v d r e = reading_tests (readable v d) (message_of v d) r e

writing_tests : (a b c : Bool) (n : ℕ) (r : Refusal) → cond a (Err NoForm) (cond b (Err WrongSize) (cond c (Err ContentsOver) (Ok n))) ≡ Err r
    → (r ≡ NoForm) ⊎ (r ≡ WrongSize) ⊎ (r ≡ ContentsOver)
writing_tests true b c n r e = inl (cc)
writing_tests false true c n r e = inr (inl (cc))
writing_tests false false true n r e = inr (inr (cc))
writing_tests false false false n r e = never (cc)

-- writing a message: 4, 1 or 7
pub writing_refuses : (m : Message) (c room : List ℕ) (r : Refusal) → wrote m c room ≡ Err r → (r ≡ NoForm) ⊎ (r ≡ WrongSize) ⊎ (r ≡ ContentsOver)
unfolding wrote
writing_refuses m c room r e =
    writing_tests (not (has_form m)) (ltb (length room) (length (pdu_of m c))) (ltb most_contents (length (contents_of m c))) (length (pdu_of m c)) r e
