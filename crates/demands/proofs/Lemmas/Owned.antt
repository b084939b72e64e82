-- What it is for a record to have a channel, and for a call to name it: the record is one of the eight, used and the one that the search finds
-- (`Has`); and who names its owner and its channel calls it (`sender_is`, `names_is`, `meets`). Assumes of the table that it is right (`Right`).
use Prim.Native.Nat.{ℕ, ◌<◌, ◌≤◌}
use mathlib.Core.Bool.{Bool, true, false, ◌&&◌, ◌||◌, false≢true}
use mathlib.Core.List.{List}
use mathlib.Core.Logic.{◌⊎◌, inl, inr}
use mathlib.Core.Path.{◌≡◌, refl, sym, ◌∙◌}
use native.Mathlib.Omega.{arith}
use lib.Dec.{ltb, eqb}
use lib.ListN.{length}
use borrow.Author.Tests.{ltb-true, ltb-false, eqb-true, eq-eqb}
use Rattle.std.specs.Prelude.{Some}
use Rattle.message.specs.Lengths.{join}
use Rattle.message.specs.Layouts.{cid_at, wrapper_of, join_of}
use Rattle.message.specs.Reading.{readable}
use Rattle.message.specs.declared.Cid.{Cid}
use Rattle.record.proofs.Choices.{both, and}
use Rattle.table.specs.Table.{named, found, record_at}
use Rattle.table.proofs.Finding.{found_at_lem, none_past}
use Rattle.table.proofs.Tables.{TableFormed, formed, found_formed, named_is, same_is, is_same}
use Rattle.member.specs.Sizes.{message_sizes, leave_sizes, table_size, held_size, cid_size}
use Rattle.demands.specs.Calls.{State, Right}
use Rattle.demands.specs.Refusals.{is_wrapper}
use Rattle.demands.specs.Channel.{names, is_cid}

-- ---- names

pub sender_is : (owner : Cid) (s : List ℕ) → is_cid owner s ≡ true → cid_at s 0 ≡ owner
unfolding is_cid
sender_is owner s e = same_is (cid_at s 0) owner (both (eqb (length s) cid_size) _ e).1

pub is_sender : (owner : Cid) (s : List ℕ) → length s ≡ cid_size → cid_at s 0 ≡ owner → is_cid owner s ≡ true
unfolding is_cid
is_sender owner s l e = and _ _ (eq-eqb (length s) cid_size l) (is_same (cid_at s 0) owner e)

-- a readable wrapper on this channel, or a readable Join for it
abbrev pub Names : ℕ → ℕ → List ℕ → Type 0
Names channel v d =
    (readable v d ≡ true)
    × (((is_wrapper v ≡ true) × ((wrapper_of d).channel ≡ channel)) ⊎ ((eqb v join ≡ true) × ((join_of d).channel ≡ channel)))

pub names_is : (channel v : ℕ) (d : List ℕ) → names channel v d ≡ true → Names channel v d
unfolding names
names_is channel v d e =
    let all = both (readable v d) _ e in
    (all.0, by (is_wrapper v && eqb (wrapper_of d).channel channel) _ refl refl all.1)
  where
    by : (a b : Bool) → is_wrapper v && eqb (wrapper_of d).channel channel ≡ a → eqb v join && eqb (join_of d).channel channel ≡ b → a || b ≡ true
        → ((is_wrapper v ≡ true) × ((wrapper_of d).channel ≡ channel)) ⊎ ((eqb v join ≡ true) × ((join_of d).channel ≡ channel))
    by true b f g h = let x = both (is_wrapper v) _ f in inl (x.0, eqb-true _ _ x.1)
    by false true f g h = let x = both (eqb v join) _ g in inr (x.0, eqb-true _ _ x.1)
    by false false f g h = absurd (false≢true h)

pub wrapper_names : (channel v : ℕ) (d : List ℕ) → readable v d ≡ true → is_wrapper v ≡ true → (wrapper_of d).channel ≡ channel
    → names channel v d ≡ true
unfolding names
wrapper_names channel v d e w c = and _ _ e (left _ _ (and _ _ w (eq-eqb _ _ c)))
  where
    left : (a b : Bool) → a ≡ true → a || b ≡ true
    left a b f = rw f

-- ---- sizes

pub message_sizes_lem : (table held deliver reply sender ours : ℕ) → message_sizes table held deliver reply sender ours ≡ true
    → (held ≡ held_size) × (sender ≡ cid_size)
unfolding message_sizes
message_sizes_lem table held deliver reply sender ours e =
    let five = both _ _ e in
    let four = both _ _ five.0 in
    let three = both _ _ four.0 in
    let two = both _ _ three.0 in
    (eqb-true held held_size (both (eqb table table_size) _ two.0).1, eqb-true sender cid_size four.1)

pub leave_sizes_lem : (table reply owner : ℕ) → leave_sizes table reply owner ≡ true → owner ≡ cid_size
unfolding leave_sizes
leave_sizes_lem table reply owner e = eqb-true owner cid_size (both (eqb table table_size && _) _ e).1

-- ---- the record of a channel

module _ (i : ℕ) (owner : Cid) (channel : ℕ) (s : State) (right : Right s) (has : named owner channel (record_at s.table i) ≡ true) where
  -- record i has the channel
  pub record Has : Type 0 where
    pub below : i < 8
    pub used : (record_at s.table i).used ≡ true
    pub formed : TableFormed s.table
    pub four : length (record_at s.table i).places ≡ 4
    pub finds : found owner channel s.table ≡ Some i

  pub it_has : Has
  it_has =
      record {
        below = below;
        used = (named_is owner channel (record_at s.table i) has).0;
        formed = formed s.table right.formed;
        four = (right.sound i below).four;
        finds = found_formed (formed s.table right.formed) owner channel i has;
      }
    where
      by : (b : Bool) → ltb i 8 ≡ b → i < 8
      by true e = ltb-true i 8 e
      by false e =
          let l : length s.table ≤ i = omega (arith, right.eight, ltb-false i 8 e) in
          absurd (false≢true (sym (none_past owner channel s.table i l) ∙ has))

      below : i < 8
      below = by (ltb i 8) refl

  -- whoever meets record i names this owner and this channel
  pub meets : (o : Cid) (c : ℕ) → found o c s.table ≡ Some i → (o ≡ owner) × (c ≡ channel)
  meets o c e =
      let w = named_is o c (record_at s.table i) (found_at_lem o c s.table i e).1 in
      let m = named_is owner channel (record_at s.table i) has in
      (sym w.1 ∙ m.1, sym w.2 ∙ m.2)
