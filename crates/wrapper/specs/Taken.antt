-- The whole step of a wrapper (01, "One channel"): its six steps in turn, and nothing else.
use Prim.{Unit}
use Rattle.record.specs.declared.Record.{Record}
use Rattle.std.specs.Prelude.{Result, Ok, Err}
use Rattle.refusal.specs.declared.Refusal.{Refusal}
use Rattle.wrapper.specs.Judge.{judged, heard}
use Rattle.wrapper.specs.Hold.{placed}
use Rattle.wrapper.specs.Release.{released}
use Rattle.wrapper.specs.Settle.{settled}
use Rattle.wrapper.specs.declared.Arrived.{Arrived}
use Rattle.wrapper.specs.declared.Fate.{Fate}
use Rattle.wrapper.specs.declared.Placed.{Placed}
use Rattle.wrapper.specs.declared.Released.{Released}
use Rattle.wrapper.specs.declared.Settled.{Settled}
use Rattle.wrapper.specs.declared.Plan.{Plan}

abbrev pub plan_of : Fate → Released → Settled → Plan
plan_of f s e =
    record {
      after = e.after;
      fate = f;
      order = s.order;
      count = s.count;
      thrown = s.thrown;
      reply = e.reply;
    }

-- steps 4 to 6, after step 3
abbrev pub onward : Arrived → Placed → Plan
onward w p = plan_of p.fate (released p.after) (settled (released p.after).after w)

-- steps 2 to 6
unfoldable pub taken : Record → Arrived → Plan
taken r w = onward w (placed (heard r w.reliable) w)

-- step 1 refuses or lets pass
abbrev pub stepped_by : Result (Unit {0}) Refusal → Record → Arrived → Result Plan Refusal
stepped_by (Err e) r w = Err e
stepped_by (Ok _) r w = Ok (taken r w)

unfoldable pub stepped : Record → Arrived → Result Plan Refusal
stepped r w = stepped_by (judged r w.reliably w.total w.reliable) r w
