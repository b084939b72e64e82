-- The examples P 1 to 14 of 01 ("Examples on each side") as one table over the definitions: what is given, and what 01 says it gives.
use Rattle.std.specs.Prelude.{ℕ, Bool, true, false, List, [], ◌∷◌, Option, Some, None, Result, Ok, Err, ℤ, pos, negsuc, get_or, replicate}
use Rattle.octets.specs.Octets.{part}
use Rattle.counter.specs.Distance.{distance}
use Rattle.block.specs.Block.{read_block}
use Rattle.block.specs.declared.Found.{Found}
use Rattle.message.specs.Layouts.{reliable, total}
use Rattle.message.specs.Reading.{read_message}
use Rattle.message.specs.declared.Message.{Message}
use Rattle.message.specs.declared.Message.TheVariants as message
use Rattle.record.specs.declared.Gap.TheVariants as gap
use Rattle.record.specs.declared.Record.{Record}
use Rattle.record.specs.Reasons.{lost_sequence}
use Rattle.refusal.specs.Numbers.{number_of}
use Rattle.refusal.specs.declared.Refusal.{Refusal}
use Rattle.refusal.specs.declared.Refusal.TheVariants as refusal
use Rattle.gap.specs.Standoff.{standoff}
use Rattle.wrapper.specs.Taken.{stepped}
use Rattle.wrapper.specs.declared.Arrived.{Arrived}
use Rattle.wrapper.specs.declared.Fate.{Fate}
use Rattle.wrapper.specs.declared.Fate.TheVariants as fate
use Rattle.wrapper.specs.declared.Reply.{Reply}
use Rattle.wrapper.specs.declared.Reply.TheVariants as reply
use Rattle.wrapper.specs.declared.Plan.{Plan}
use Rattle.record.specs.Places.{no_place}

-- ---- what an example gives, and what comes of it

pub data Example : Type 0 where
  -- the distance from an old to a new number
  far : (old new : ℕ) → Example
  -- the standoff of R, MID, modulus, holdoff and maxwait
  waits : (r mid modulus holdoff maxwait : ℕ) → Example
  -- the first message of a block
  reads : List ℕ → Example
  -- a wrapper that arrives on a quiet channel with T, R and A
  arrives : (t r a : ℕ) → Arrived → Example

pub data Comes : Type 0 where
  signed : ℤ → Comes
  time : ℕ → Comes
  read_as : Result Message Refusal → Comes
  -- the number of a refusal or 0, what becomes of the wrapper, K after the step, and what is replied
  step : ℕ → Fate → ℕ → Reply → Comes

abbrev pub first_message : List ℕ → Result (Option Found) Refusal → Result Message Refusal
first_message s (Ok (Some m)) = read_message (get_or s m.vector 0) (part s m.place m.len)
first_message s (Ok None) = Err refusal.NoForm
first_message s (Err why) = Err refusal.NoForm

-- a quiet channel of member 1, with the parameters of P 5
abbrev pub quiet : ℕ → ℕ → ℕ → Record
quiet t r a =
    record {
      used = true;
      terms =
          record {
            owner = record { high = 1; low = 2 };
            channel = 5;
            mid = 1;
            reciprocal = 7;
            expiry = 10;
            outbound = false;
            holdoff = 2;
            modulus = 7;
            maxwait = 10;
          };
      total = total t;
      reliable = reliable r;
      known = reliable r;
      acked = reliable a;
      idle = 0;
      gap = gap.Quiet;
      places = replicate 4 no_place;
    }

-- a wrapper that is refused is dropped, the record r stands, and nothing is replied
abbrev pub told : Record → Result Plan Refusal → Comes
told r (Ok p) = step 0 p.fate p.after.known.0 p.reply
told r (Err why) = step (number_of why) fate.Dropped r.known.0 reply.Nothing

abbrev pub comes_of : Example → Comes
comes_of (far old new) = signed (distance old new)
comes_of (waits r mid modulus holdoff maxwait) = time (standoff r mid modulus holdoff maxwait)
comes_of (reads s) = read_as (first_message s (read_block s 0))
comes_of (arrives t r a w) = told (quiet t r a) (stepped (quiet t r a) w)

-- a wrapper without contents that asks no member
abbrev pub wrapper_of : Bool → ℕ → ℕ → ℕ → Arrived
wrapper_of reliably t r oldest =
    record {
      reliably = reliably;
      total = total t;
      reliable = reliable r;
      oldest = reliable oldest;
      first = 65535;
      last = 65535;
      threshold = 0;
      len = 0;
    }

-- a reliable wrapper that asks member 1, with this threshold
abbrev pub asking : ℕ → ℕ → ℕ → Arrived
asking t r threshold =
    record {
      reliably = true;
      total = total t;
      reliable = reliable r;
      oldest = reliable r;
      first = 1;
      last = 1;
      threshold = threshold;
      len = 0;
    }

-- ---- the table

pub record Row : Type 0 where
  pub p : ℕ
  pub given : Example
  pub gives : Comes

abbrev pub table : List Row
table =
    record { p = 1; given = far 5 5; gives = signed (pos 0) }
    ∷ record { p = 2; given = far 4294967295 0; gives = signed (pos 1) }
    ∷ record { p = 3; given = far 0 2147483647; gives = signed (pos 2147483647) }
    ∷ record { p = 4; given = far 0 2147483648; gives = signed (negsuc 2147483647) }
    ∷ record { p = 5; given = waits 4294967295 1 7 2 10; gives = time 8 }
    ∷ record { p = 6; given = waits 10 5 8 20 100; gives = time 100 }
    ∷ record { p = 7; given = reads (112 ∷ 7 ∷ 14 ∷ 0 ∷ 0 ∷ 0 ∷ 41 ∷ []); gives = read_as (Ok (message.Ack (reliable 41))) }
    ∷ record { p = 8; given = arrives 20 10 10 (wrapper_of false 25 10 10); gives = step 0 fate.Delivered 10 reply.Nothing }
    ∷ record { p = 9; given = arrives 20 10 10 (wrapper_of true 24 13 11); gives = step 0 (fate.Held 0) 13 reply.Nothing }
    ∷ record { p = 10; given = arrives 20 10 10 (wrapper_of true 24 13 12); gives = step 0 (fate.Held 0) 13 (reply.Leaving lost_sequence (reliable 10)) }
    ∷ record { p = 11; given = arrives 20 10 10 (wrapper_of true 21 12 10); gives = step 9 fate.Dropped 10 reply.Nothing }
    ∷ record { p = 12; given = arrives 20 10 10 (wrapper_of true 20 10 10); gives = step 8 fate.Dropped 10 reply.Nothing }
    ∷ record { p = 13; given = arrives 60 49 42 (asking 61 50 8); gives = step 0 fate.Delivered 50 (reply.Ack (reliable 50)) }
    ∷ record { p = 14; given = arrives 60 49 43 (asking 61 50 8); gives = step 0 fate.Delivered 50 reply.Nothing }
    ∷ []
