-- A record with one part changed, all else as it was: what the steps of 01 are made of.
use Rattle.std.specs.Prelude.{ℕ, Bool, false, List}
use Rattle.counter.specs.declared.Total.{Total}
use Rattle.counter.specs.declared.Reliable.{Reliable}
use Rattle.record.specs.declared.Gap.{Gap}
use Rattle.record.specs.declared.Place.{Place}
use Rattle.record.specs.declared.Terms.{Terms}
use Rattle.record.specs.declared.Record.{Record}

-- the record of these parts: T is t, R is n, K is k and A is a
abbrev pub record_of : Bool → Terms → Total → Reliable → Reliable → Reliable → ℕ → Gap → List Place → Record
record_of used terms t n k a idle gap places =
    record {
      used = used;
      terms = terms;
      total = t;
      reliable = n;
      known = k;
      acked = a;
      idle = idle;
      gap = gap;
      places = places;
    }

-- marked free, and all else as the step left it
abbrev pub freed : Record → Record
freed r = record_of false r.terms r.total r.reliable r.known r.acked r.idle r.gap r.places

-- T and R
abbrev pub with_numbers : Record → Total → Reliable → Record
with_numbers r t n = record_of r.used r.terms t n r.known r.acked r.idle r.gap r.places

-- K
abbrev pub with_known : Record → Reliable → Record
with_known r k = record_of r.used r.terms r.total r.reliable k r.acked r.idle r.gap r.places

-- A
abbrev pub with_acked : Record → Reliable → Record
with_acked r a = record_of r.used r.terms r.total r.reliable r.known a r.idle r.gap r.places

abbrev pub with_idle : Record → ℕ → Record
with_idle r n = record_of r.used r.terms r.total r.reliable r.known r.acked n r.gap r.places

abbrev pub with_gap : Record → Gap → Record
with_gap r g = record_of r.used r.terms r.total r.reliable r.known r.acked r.idle g r.places

abbrev pub with_places : Record → List Place → Record
with_places r ps = record_of r.used r.terms r.total r.reliable r.known r.acked r.idle r.gap ps

-- a place marked free, with all that it held
abbrev pub free_place : Place → Place
free_place p = record { used = false; total = p.total; reliable = p.reliable; len = p.len }
