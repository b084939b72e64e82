-- A message call answers an outcome: what it returns and what it leaves in the three lent rooms are that outcome's. Assumes nothing.
use Prim.Native.Nat.{ℕ, ◌-◌, ◌<◌, ◌≤◌}
use mathlib.Core.Bool.{Bool, true, false, not}
use mathlib.Core.List.{List, []}
use mathlib.Core.Path.{◌≡◌, refl, sym, ◌∙◌}
use lib.ListN.{length, take, drop, length-drop}
use lib.Seq.{take-length}
use borrow.Author.Tests.{not-true, not-false, ne_eqb}
use Rattle.std.specs.Prelude.{◌≢◌, Result, Ok, Err}
use Rattle.std.specs.Array.{IsWholeChunk}
use Rattle.refusal.specs.declared.Refusal.{Refusal}
use Rattle.refusal.specs.declared.Refusal.TheVariants as refusal
use Rattle.octets.proofs.Writes.{splice_nothing}
use Rattle.message.specs.Layouts.{cid_at}
use Rattle.message.specs.Reading.{contents}
use Rattle.message.specs.declared.Cid.{Cid}
use Rattle.message.specs.declared.Join.{Join}
use Rattle.record.specs.WellFormed.{most_contents, well_formed}
use Rattle.record.specs.declared.Record.{Record}
use Rattle.wrapper.specs.declared.Arrived.{Arrived}
use Rattle.table.specs.Table.{table_formed, record_at}
use Rattle.table.proofs.Tables.{formed}
use Rattle.carry.specs.Carried.{deliver_from}
use Rattle.asking.specs.Asking.{asked_of}
use Rattle.asking.specs.declared.Asked.{Asked}
use Rattle.asking.specs.declared.Asked.TheVariants as asked
use Rattle.asking.proofs.Steps.{asked_wrapper}
use Rattle.member.specs.Sizes.{held_size, deliver_size, reply_size, cid_size, message_sizes}
use Rattle.member.specs.Messages.{Outcome, refused_message, join_outcome, asked_outcome, message_outcome, messaged, deliver_after, reply_after, MessageEndsAs}
use Rattle.member.specs.declared.Messaged.{Messaged}

-- the answer m, the held octets after the call, and the delivery and reply rooms before and after it, as the outcome has them
abbrev pub Answers : Result Messaged Refusal → List ℕ → List ℕ → List ℕ → List ℕ → List ℕ → Outcome → Type 0
Answers m held deliver deliver' reply reply' out =
    MessageEndsAs out deliver reply (record { answer = m; held = held; deliver = deliver'; reply = reply' })

-- from its four parts
pub answers_by : (m : Result Messaged Refusal) (held deliver deliver' reply reply' : List ℕ) (out : Outcome) → m ≡ messaged out → held ≡ out.held
    → deliver' ≡ deliver_after out deliver → reply' ≡ reply_after out reply → Answers m held deliver deliver' reply reply' out
answers_by m held deliver deliver' reply reply' out a h d r =
    λ i.
    record {
      answer = a i;
      held = h i;
      deliver = d i;
      reply = r i;
    }

module _ (m : Result Messaged Refusal) (held deliver deliver' reply reply' : List ℕ) where
  pub answers_as : (out other : Outcome) → out ≡ other → Answers m held deliver deliver' reply reply' other
      → Answers m held deliver deliver' reply reply' out
  answers_as out other e a = rw e a

-- ---- a refusal

-- the rooms stand
pub refused_answers : (ts : List Record) (held deliver reply : List ℕ) (why : Refusal) (m : Result Messaged Refusal) → m ≡ Err why
    → Answers m held deliver deliver reply reply (refused_message ts held why)
unfolding deliver_from
refused_answers ts held deliver reply why m e = answers_by m held deliver deliver reply reply (refused_message ts held why) e refl refl (splice_nothing reply 0)

-- ---- a Join

-- it reads and writes the reply room alone
pub join_answers : (ts : List Record) (held deliver reply reply' : List ℕ) (s : Cid) (j : Join) (n : ℕ) (m : Result Messaged Refusal)
    → (m ≡ messaged (join_outcome ts [] s j n)) × (reply' ≡ reply_after (join_outcome ts [] s j n) reply)
    → Answers m held deliver deliver reply reply' (join_outcome ts held s j n)
unfolding join_outcome deliver_from
join_answers ts held deliver reply reply' s j n m e = answers_by m held deliver deliver reply reply' (join_outcome ts held s j n) e.0 refl refl e.1

-- ---- what is asked

module _ (ts : List Record) (s o : Cid) (v : ℕ) (d : List ℕ) (a : Result Asked Refusal) (e : a ≡ asked_of ts s o v d) where
  pub asks_for : (held c : List ℕ) (n : ℕ) (b : Result Asked Refusal) → a ≡ b → asked_outcome ts held s n c (asked_of ts s o v d) ≡ asked_outcome ts held s n c b
  asks_for held c n b f = rw (← e, f)

  -- what a wrapper's step needs of the record that it is for, and of the wrapper
  pub record Stepping (i : ℕ) (w : Arrived) : Type 0 where
    pub within : i < length ts
    pub used : (record_at ts i).used ≡ true
    pub well : well_formed (record_at ts i) ≡ true
    pub own : 20 ≤ length d
    pub len : w.len ≡ length (contents d)
    pub fits : w.len ≤ most_contents

  pub steps : (i : ℕ) (w : Arrived) → a ≡ Ok (asked.Wrapper i w) → table_formed ts ≡ true → Stepping i w
  steps i w f t =
      let q = asked_wrapper ts s o i w v d (sym e ∙ f) in
      record {
        within = q.within;
        used = q.used;
        well = (formed ts t).each i;
        own = q.own;
        len = q.len;
        fits = q.fits;
      }

-- what stands behind a wrapper's own fields, as a part of the data
pub behind_fields : (d : List ℕ) → take (length d - 20) (drop 20 d) ≡ contents d
behind_fields d = rw (← length-drop 20 d, take-length)

-- ---- the whole call: the pieces that are lent, one after the other, each taken as it was; and the refusals on the way

module _ (ts : List Record) (eight : length ts ≡ 8) (held deliver reply sender ours : List ℕ) (v : ℕ) (d : List ℕ) (n : ℕ) (m : Result Messaged Refusal) where
  -- what the call leaves, where m is its answer
  abbrev pub Call : List ℕ → List ℕ → List ℕ → Type 0
  Call h p r = Answers m h deliver p reply r (message_outcome ts held (length deliver) (length reply) sender ours v d n)

  refused_by : (why : Refusal) → message_outcome ts held (length deliver) (length reply) sender ours v d n ≡ refused_message ts held why → m ≡ Err why
      → Call held deliver reply
  refused_by why o e = rw o (refused_answers ts held deliver reply why m e)

  pub held_size_wrong : length held ≢ held_size → m ≡ Err refusal.WrongSize → Call held deliver reply
  unfolding message_outcome message_sizes
  held_size_wrong h e = refused_by refusal.WrongSize (rw (eight, ne_eqb (length held) held_size h)) e

  module _ (held' : List ℕ) (a : IsWholeChunk held held' held_size) where
    pub deliver_size_wrong : length deliver ≢ deliver_size → m ≡ Err refusal.WrongSize → Call held' deliver reply
    unfolding message_outcome message_sizes
    deliver_size_wrong h e = rw a.same (refused_by refusal.WrongSize (rw (eight, a.long, ne_eqb (length deliver) deliver_size h)) e)

    module _ (deliver' : List ℕ) (b : IsWholeChunk deliver deliver' deliver_size) where
      pub reply_size_wrong : length reply ≢ reply_size → m ≡ Err refusal.WrongSize → Call held' deliver' reply
      unfolding message_outcome message_sizes
      reply_size_wrong h e =
          rw (a.same, b.same) (refused_by refusal.WrongSize (rw (eight, a.long, b.long, ne_eqb (length reply) reply_size h)) e)

      module _ (reply' : List ℕ) (c : IsWholeChunk reply reply' reply_size) where
        as_lent : (out : Outcome) (h p r : List ℕ) → message_outcome ts held (length deliver) (length reply) sender ours v d n ≡ out
            → Answers m h deliver' p reply' r out → Call h p r
        as_lent out h p r o e = rw (o, ← b.same, ← c.same) e

        refused_lent : (why : Refusal) → message_outcome ts held (length deliver) (length reply) sender ours v d n ≡ refused_message ts held why
            → m ≡ Err why → Call held' deliver' reply'
        refused_lent why o e = rw (a.same, b.same, c.same) (refused_by why o e)

        pub sender_size_wrong : length sender ≢ cid_size → m ≡ Err refusal.WrongSize → Call held' deliver' reply'
        unfolding message_outcome message_sizes
        sender_size_wrong h e = refused_lent refusal.WrongSize (rw (eight, a.long, b.long, c.long, ne_eqb (length sender) cid_size h)) e

        module _ (sender' : List ℕ) (s : IsWholeChunk sender sender' cid_size) where
          pub ours_size_wrong : length ours ≢ cid_size → m ≡ Err refusal.WrongSize → Call held' deliver' reply'
          unfolding message_outcome message_sizes
          ours_size_wrong h e =
              refused_lent refusal.WrongSize (rw (eight, a.long, b.long, c.long, s.long, ne_eqb (length ours) cid_size h)) e

          module _ (ours' : List ℕ) (o : IsWholeChunk ours ours' cid_size) (t : Bool) (f : t ≡ table_formed ts) where
            pub table_wrong : not t ≡ true → m ≡ Err refusal.WrongTable → Call held' deliver' reply'
            unfolding message_outcome message_sizes
            table_wrong g e =
                refused_lent refusal.WrongTable (rw (eight, a.long, b.long, c.long, s.long, o.long, ← f, not-true t g)) e

            pub call_asked : not t ≡ false → (from own : Cid) → from ≡ cid_at sender' 0 → own ≡ cid_at ours' 0 → (h p r : List ℕ)
                → Answers m h deliver' p reply' r (asked_outcome ts held' from n (contents d) (asked_of ts from own v d)) → Call h p r
            unfolding message_outcome message_sizes
            call_asked g from own x y h p r e =
                as_lent (asked_outcome ts held (cid_at sender 0) n (contents d) (asked_of ts (cid_at sender 0) (cid_at ours 0) v d)) h p r
                (rw (eight, a.long, b.long, c.long, s.long, o.long, ← f, not-false t g))
                (rw (← s.same, ← o.same, ← a.same, ← x, ← y) e)
