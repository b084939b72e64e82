-- What a Join with another address type reads as, and what is answered for a message that is readable. Assumes nothing.
use Prim.Native.Nat.{ℕ}
use mathlib.Core.Path.{◌≡◌, sym}
use mathlib.Core.Logic.{◌≢◌}
use mathlib.Core.Bool.{true}
use mathlib.Core.List.{List}
use lib.ListN.{get_or}
use borrow.Author.Tests.{ne_eqb}
use Rattle.message.specs.Lengths.{join, null, ipv4}
use Rattle.message.specs.Layouts.{address_of, join_of}
use Rattle.message.specs.Reading.{readable, message_of, read_message}
use Rattle.message.specs.declared.Join.{Join}
use Rattle.message.specs.declared.Address.TheVariants as address
use Rattle.message.specs.declared.Message.{Message}
use Rattle.message.specs.declared.Message.TheVariants as message
use Rattle.std.specs.Prelude.{Ok}

module _ (d : List ℕ) where
  pub other_address : get_or d 30 0 ≢ null → get_or d 30 0 ≢ ipv4 → address.Other (get_or d 30 0) ≡ address_of d
  unfolding address_of
  other_address m n = sym (rw (ne_eqb (get_or d 30 0) null m, ne_eqb (get_or d 30 0) ipv4 n))

module _ (v : ℕ) (d : List ℕ) where
  pub joining : (j : Join) → v ≡ join → j ≡ join_of d → message.Join j ≡ message_of v d
  unfolding message_of
  joining j e f = rw (e, f)

  pub answered : (m : Message) → readable v d ≡ true → m ≡ message_of v d → Ok m ≡ read_message v d
  unfolding read_message
  answered m r e = rw (r, e)
