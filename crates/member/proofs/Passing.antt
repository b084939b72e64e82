-- What an elapsed call comes to, over plain variables: its refusals, the step of one record and the turns over all of them. Assumes nothing.
use Prim.Native.Nat.{ℕ, ◌+◌, ◌-◌, ◌*◌, ◌<◌, ◌≤◌}
use mathlib.Core.Bool.{Bool, true, false, not}
use mathlib.Core.List.{List, [], ◌∷◌, ◌++◌, map}
use mathlib.Core.Path.{◌≡◌, refl, sym, ap, ◌∙◌}
use native.Mathlib.Numerals.{add-one}
use native.Mathlib.Omega.{arith}
use lib.ListN.{length, get_or, set, take, drop, length-map, get_or-map, drop_of_length-le}
use lib.Seq.{drop-cons}
use borrow.Author.Tests.{not-true, not-false, eq-eqb, ne_eqb, lt-ltb, le-ltb}
use Rattle.std.specs.Prelude.{◌≢◌, Result, Ok, Err}
use Rattle.std.specs.Array.{IsWholeChunk}
use Rattle.refusal.specs.declared.Refusal.{Refusal}
use Rattle.refusal.specs.declared.Refusal.TheVariants as refusal
use Rattle.octets.specs.Octets.{splice}
use Rattle.octets.proofs.Writes.{splice_nothing}
use Rattle.record.specs.WellFormed.{well_formed}
use Rattle.record.specs.declared.Record.{Record}
use Rattle.gap.specs.declared.Event.TheVariants as event
use Rattle.gap.specs.Elapsed.{gives, elapsed_of}
use Rattle.gap.specs.declared.Elapsed.{Elapsed}
use Rattle.table.specs.Table.{table_formed, record_at, blank}
use Rattle.table.proofs.Tables.{formed}
use Rattle.sending.specs.Sent.{event_of}
use Rattle.sending.proofs.Lengths.{event_within}
use Rattle.member.specs.Sizes.{cell_size, cells_size, elapsed_sizes}
use Rattle.member.specs.Elapsing.{Passing, longest, refused_elapsed, passing, elapsed_outcome, sent_by, cell_of, passed_table, passed, cells_from, cells_after, ElapsedEndsAs}
use Rattle.member.specs.declared.Cell.{Cell}
use Rattle.member.specs.declared.Passed.{Passed}
use Rattle.member.proofs.Lists.{over, over_none, over_all, over_here, over_more, into_part}

-- what a call answers and leaves in the cells, which were `room`
abbrev pub Moved : Passing → Result Passed Refusal → List ℕ → List ℕ → Type 0
Moved p a room after = ElapsedEndsAs p room (record { answer = a; cells = after })

-- from its two parts
moved_by : (p : Passing) (a : Result Passed Refusal) (room after : List ℕ) → a ≡ passed p → after ≡ cells_after p room → Moved p a room after
moved_by p a room after e f = λ i. record { answer = e i; cells = f i }

each_length : {A B C : Type 0} (f : B → C) (g : A → B) (xs : List A) → length (map f (map g xs)) ≡ length xs
each_length f g xs = length-map (map g xs) f ∙ length-map xs g

-- ---- a refusal

-- what sends nothing leaves the cells
still_room : (i : ℕ) (ts : List Record) (room : List ℕ) → room ≡ cells_from i (map (λ r. gives r event.Nothing) ts) room
unfolding event_of cells_from
still_room i [] room = refl
still_room i (r ∷ ts) room =
    still_room (i + 1) ts room
    ∙ ap (cells_from (i + 1) (map (λ r. gives r event.Nothing) ts)) (splice_nothing room (i * cell_size))

refused : (ts : List Record) (why : Refusal) (a : Result Passed Refusal) (room : List ℕ) → a ≡ Err why → Moved (refused_elapsed ts why) a room room
refused ts why a room e = moved_by (refused_elapsed ts why) a room room e (still_room 0 ts room)

-- ---- the refusals of a call

module _ (ts : List Record) (room : List ℕ) (ms : ℕ) (a : Result Passed Refusal) (l : length ts ≡ 8) where
  abbrev Call : List ℕ → Type 0
  Call after = Moved (elapsed_outcome ts (length room) ms) a room after

  pub elapsed_sizes_lem : length room ≢ cells_size → a ≡ Err refusal.WrongSize → Call room
  unfolding elapsed_outcome elapsed_sizes
  elapsed_sizes_lem h e = rw (eq-eqb (length ts) 8 l, ne_eqb (length room) cells_size h) (refused ts refusal.WrongSize a room e)

  -- the cells are taken as they were
  module _ (lent : List ℕ) (s : IsWholeChunk room lent cells_size) (b : Bool) (f : b ≡ table_formed ts) where
    as_lent : (p : Passing) (after : List ℕ) → Moved p a lent after → Moved p a room after
    as_lent p after d = rw s.same at d

    pub elapsed_unformed : not b ≡ true → a ≡ Err refusal.WrongTable → Call lent
    unfolding elapsed_outcome elapsed_sizes
    elapsed_unformed t e =
        rw (eq-eqb (length ts) 8 l, eq-eqb (length room) cells_size s.long, ← f, not-true b t)
        (as_lent (refused_elapsed ts refusal.WrongTable) lent (refused ts refusal.WrongTable a lent e))

    module _ (t : not b ≡ false) where
      pub elapsed_long : longest < ms → a ≡ Err refusal.TooMuchTime → Call lent
      unfolding elapsed_outcome elapsed_sizes
      elapsed_long h e =
          rw (eq-eqb (length ts) 8 l, eq-eqb (length room) cells_size s.long, ← f, not-false b t, lt-ltb longest ms h)
          (as_lent (refused_elapsed ts refusal.TooMuchTime) lent (refused ts refusal.TooMuchTime a lent e))

      pub elapsed_passes : ms ≤ longest → (after : List ℕ) → Moved (passing ts ms) a lent after → Call after
      unfolding elapsed_outcome elapsed_sizes
      elapsed_passes h after e =
          rw (eq-eqb (length ts) 8 l, eq-eqb (length room) cells_size s.long, ← f, not-false b t, le-ltb longest ms h)
          (as_lent (passing ts ms) after e)

-- ---- the step of one record

-- what ms milliseconds make of the answer `before` and of the room: record i has moved, and its cell is written
abbrev pub One : Passed → ℕ → ℕ → Passed → List ℕ → List ℕ → Type 0
One before i ms a room after =
    (a.table ≡ set before.table i (elapsed_of (record_at before.table i) ms).after)
    × (a.cells ≡ set before.cells i (cell_of (elapsed_of (record_at before.table i) ms)))
    × (after ≡ splice room (i * cell_size) (sent_by (elapsed_of (record_at before.table i) ms)))

-- what was sent is put into the record's part of the room, which is then `put`
pub one_passed : (before : Passed) (i ms n : ℕ) (e : Elapsed) (room put : List ℕ) → i < 8 → length room ≡ cells_size
    → e ≡ elapsed_of (record_at before.table i) ms
    → (n ≡ length (sent_by e)) × (put ≡ splice (take ((i + 1) * 64 - i * 64) (drop (i * 64) room)) 0 (sent_by e))
    → One before i ms (record { table = set before.table i e.after; cells = set before.cells i (record { event = e.event; len = n }) }) room
    (take (i * 64) room ++ (put ++ drop ((i + 1) * 64 - i * 64) (drop (i * 64) room)))
one_passed before i ms n e room put h l s p =
    let written = into_part room (sent_by e) (i * 64) ((i + 1) * 64) (omega (arith, event_within e.after.terms e.event)) (omega arith) in (
      ap (λ (x : Elapsed). set before.table i x.after) s,
      rw p.0 (ap (λ (x : Elapsed). set before.cells i (cell_of x)) s),
      rw p.1 (written ∙ ap (λ (x : Elapsed). splice room (i * 64) (sent_by x)) s),
    )

-- ---- the turns over all records

-- the entries of the cells when all have moved
abbrev passed_cells : List Record → ℕ → List Cell
passed_cells ts ms = map cell_of (passing ts ms).each

-- after i turns, which began with the answer `first` and the room `from`: the first i records have moved, and what is left writes of the room so
-- far what is there in the end
pub record Turned (ms : ℕ) (first : Passed) (from : List ℕ) (i : ℕ) (a : Passed) (room : List ℕ) : Type 0 where
  pub whole : table_formed first.table ≡ true
  pub records : length first.table ≡ 8
  pub places : length first.cells ≡ 8
  pub table : a.table ≡ over first.table (passed_table (passing first.table ms)) i
  pub cells : a.cells ≡ over first.cells (passed_cells first.table ms) i
  pub rest : cells_from i (passing (drop i first.table) ms).each room ≡ cells_after (passing first.table ms) from

pub begun : (first : Passed) (ms : ℕ) (room : List ℕ) → length first.table ≡ 8 → length first.cells ≡ 8 → table_formed first.table ≡ true
    → Turned ms first room 0 first room
begun first ms room l n w =
    record {
      whole = w;
      records = l;
      places = n;
      table = over_none first.table (passed_table (passing first.table ms));
      cells = over_none first.cells (passed_cells first.table ms);
      rest = refl;
    }

-- a turn, for what is kept of each record
each_turn : {B : Type 0} (f : Elapsed → B) (ms : ℕ) (ts : List Record) (old xs : List B) (i : ℕ) → i < length ts → length old ≡ length ts
    → xs ≡ over old (map f (passing ts ms).each) i
    → set xs i (f (elapsed_of (record_at ts i) ms)) ≡ over old (map f (passing ts ms).each) (i + 1)
each_turn {B} f ms ts old xs i h l e =
    let es : List Elapsed = (passing ts ms).each in
    let d : Elapsed = elapsed_of (blank []) ms in
    let at : get_or (map f es) i (f d) ≡ f (elapsed_of (record_at ts i) ms) =
    get_or-map f es i d ∙ ap f (get_or-map (λ r. elapsed_of r ms) ts i (blank [])) in
    let n : length (map f es) ≡ length ts = each_length f (λ r. elapsed_of r ms) ts in
    ap (λ (l : List B). set l i (f (elapsed_of (record_at ts i) ms))) e
    ∙ ap (set (over old (map f es) i) i) (sym at)
    ∙ over_more old (map f es) i (f d) (omega arith) (omega arith)

module _ (ms : ℕ) (first : Passed) (from : List ℕ) (i : ℕ) (a : Passed) (room : List ℕ) (t : Turned ms first from i a room) where
  module _ (h : i < 8) where
    -- the next record has not moved yet
    this : record_at a.table i ≡ record_at first.table i
    this =
        let n : length (passed_table (passing first.table ms)) ≡ length first.table = each_length _ _ first.table in
        ap (λ (rs : List Record). record_at rs i) t.table
        ∙ over_here first.table _ i (blank []) (omega (arith, t.records)) (omega (arith, t.records, n))

    pub next_formed : well_formed (record_at a.table i) ≡ true
    next_formed = rw this ((formed first.table t.whole).each i)

    pub turned : (p : Passed) (after : List ℕ) → One a i ms p room after → Turned ms first from (i + 1) p after
    unfolding cells_from
    turned p after o =
        let k : i < length first.table = omega (arith, t.records) in
        let n : length first.cells ≡ length first.table = t.places ∙ sym t.records in
        let left : drop i first.table ≡ record_at first.table i ∷ drop (i + 1) first.table =
        drop-cons first.table i (blank []) k ∙ ap (λ (j : ℕ). record_at first.table i ∷ drop j first.table) (sym (add-one i)) in
        record {
          whole = t.whole;
          records = t.records;
          places = t.places;
          table = rw this at o.0 ∙ each_turn (λ e. e.after) ms first.table first.table a.table i k refl t.table;
          cells = rw this at o.1 ∙ each_turn cell_of ms first.table first.cells a.cells i k n t.cells;
          rest = rw (rw this at o.2) (rw left at t.rest);
        }

  -- all have moved
  pub all_passed : 8 ≤ i → Moved (passing first.table ms) (Ok a) from room
  unfolding cells_from
  all_passed h =
      let none : length first.table ≤ i = omega (arith, t.records) in
      let tables : length (passed_table (passing first.table ms)) ≡ length first.table = each_length _ _ first.table in
      let places : length (passed_cells first.table ms) ≡ length first.table = each_length _ _ first.table in
      let table : a.table ≡ passed_table (passing first.table ms) = t.table ∙ over_all first.table _ i none (omega arith) in
      let cells : a.cells ≡ passed_cells first.table ms = t.cells ∙ over_all first.cells _ i (omega (arith, t.places)) (omega arith) in
      let parts : ◌≡◌ {A = Passed} a (record { table = passed_table (passing first.table ms); cells = passed_cells first.table ms }) = λ j. record { table = table j; cells = cells j } in
      moved_by (passing first.table ms) (Ok a) from room (ap Ok parts) (rw (drop_of_length-le first.table none) at t.rest)
