-- `writing::write_message` meets its contract: each way out gives one of the four answers of Answers.antt, from the facts on its way.
-- Assumes nothing.
use Prim.Native.Nat.{◌+◌, ◌<◌}
use native.Mathlib.Omega.{arith}
use mathlib.Core.Path.{◌≡◌, refl}
use lib.ListN.{length}
use Rattle.std.specs.Prelude.{Some, Err}
use Rattle.refusal.specs.declared.Refusal.TheVariants as refusal
use Rattle.message.specs.Lengths.{length_of}
use Rattle.writing.specs.Writing.{vector_of, address_of}
use borrow.Author.Rules.{rules}
use Rattle.writing.proofs.Answers.{no_form_answered, fields_are, no_room_answered, over_answered, whole_answered}
use Rattle.writing.proofs.write_message.Goals.{then-room-end-via-then-room-end, then-room-end-via-else-room-end+then-room-end-2}
use Rattle.writing.proofs.write_message.Goals as goal

pub returns-in_err-len : goal.returns-in_err-len
returns-in_err-len c =
    let e : c.from_residual.result ≡ Err refusal.NoForm = search rules in
    no_form_answered _ _ _ _ (search rules) e

pub returns-then-room-end : goal.returns-then-room-end
returns-then-room-end c =
    let s : length_of (vector_of c.args.m) (address_of c.args.m) ≡ Some c.in_ok-len.len = search rules in
    let h : length c.args.room.now < 3 + c.in_ok-len.len + length c.contents_of-contents.result.now =
    elim c.then-room-end.branch [
      | then-room-end-via-then-room-end w ↦ omega (arith, w.if-room-end)
      | then-room-end-via-else-room-end+then-room-end-2 w ↦ omega (arith, w.if-room-end, w.if-room-end-2)
    ] in
    no_room_answered _ _ _ _ s _ c.contents_of-contents.ensures h

pub returns-then-contents-gt-MOST_CONTENTS : goal.returns-then-contents-gt-MOST_CONTENTS
returns-then-contents-gt-MOST_CONTENTS c =
    let s : length_of (vector_of c.args.m) (address_of c.args.m) ≡ Some c.in_ok-len.len = search rules in
    over_answered _ _ _ _ s _ c.contents_of-contents.ensures (omega arith) (omega arith)

pub put_fields-at-requires : goal.put_fields-at-requires
put_fields-at-requires c =
    let s : length_of (vector_of c.args.m) (address_of c.args.m) ≡ Some c.in_ok-len.len = search rules in
    omega (arith, fields_are _ c.args.contents.now c.args.room.now _ s _ c.contents_of-contents.ensures)

pub copy_into-requires : goal.copy_into-requires
copy_into-requires c =
    let s : length_of (vector_of c.args.m) (address_of c.args.m) ≡ Some c.in_ok-len.len = search rules in
    omega (arith, fields_are _ c.args.contents.now c.args.room.now _ s _ c.contents_of-contents.ensures)

pub returns : goal.returns
returns c =
    let s : length_of (vector_of c.args.m) (address_of c.args.m) ≡ Some c.in_ok-len.len = search rules in
    whole_answered _ _ _ _ s _ c.contents_of-contents.ensures (omega arith) _ _ _ _ _ _ _ (omega arith) refl
    c.vector_of-vector.ensures c.put_head-at.ensures c.put_fields-at.ensures c.copy_into.ensures
