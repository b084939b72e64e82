-- A joined channel is moved by its own calls only and stays joined as long as it is used: what the laws on runs ask of it (`own_law`). Assumes that it is
-- joined and that the data of messages are octets.
use Prim.Native.Nat.{ℕ}
use mathlib.Core.Bool.{Bool, true, false}
use mathlib.Core.Path.{◌≡◌, refl, ap, ◌∙◌}
use Rattle.message.specs.declared.Cid.{Cid}
use Rattle.record.specs.declared.Terms.{Terms}
use Rattle.table.specs.Table.{record_at}
use Rattle.table.proofs.Tables.{named_is, is_named_lem}
use Rattle.demands.specs.Runs.{Came}
use Rattle.demands.specs.Calls.{Call, State, table_step, Lawful}
use Rattle.demands.specs.Channel.{Channel, Told, own, one, live, channel_at, view_at}
use Rattle.demands.specs.TwoRuns.{Joined}
use Rattle.demands.proofs.Lemmas.Running.{Own}
use Rattle.demands.proofs.TableStays.{table_stays}
use Rattle.demands.proofs.Lemmas.TermsStay.{one_terms}
use Rattle.demands.proofs.Lemmas.OneCall.{call_own, call_other}

module _ (i : ℕ) (owner : Cid) (channel : ℕ) where
  -- the terms of the channel stay, whoever calls
  terms_stay : (s : State) (c : Call) → Joined i owner channel s → (record_at (table_step s c).state.table i).terms ≡ (record_at s.table i).terms
  unfolding view_at channel_at
  terms_stay s c joined = by (own owner channel c) refl
    where
      by : (b : Bool) → own owner channel c ≡ b → (record_at (table_step s c).state.table i).terms ≡ (record_at s.table i).terms
      by true e =
          ap (λ (m : Came Channel Told). m.state.at.terms) (call_own i owner channel s joined.right joined.has c e)
          ∙ one_terms (channel_at i s) owner c
      by false e = ap (λ (h : Channel). h.at.terms) (call_other i owner channel s joined.right joined.has c e)

  -- so record i has the channel as long as it is used
  pub stays_joined : (s : State) (c : Call) → Joined i owner channel s → Lawful c → live (channel_at i (table_step s c).state) ≡ true
      → Joined i owner channel (table_step s c).state
  unfolding channel_at
  stays_joined s c joined lawful used =
      let terms = terms_stay s c joined in
      let had = named_is owner channel (record_at s.table i) joined.has in
      record {
        right = table_stays s c joined.right lawful;
        has =
            is_named_lem owner channel (record_at (table_step s c).state.table i)
            (used, ap (λ (t : Terms). t.owner) terms ∙ had.1, ap (λ (t : Terms). t.channel) terms ∙ had.2);
      }

  -- such a channel is moved by its own calls only
  pub own_law : Own table_step (one owner) (own owner channel) (channel_at i) (view_at i) live (Joined i owner channel) Lawful
  unfolding view_at channel_at
  own_law =
      record {
        views = λ m. refl;
        mine = λ s c joined lawful e. call_own i owner channel s joined.right joined.has c e;
        others = λ s c joined lawful e. call_other i owner channel s joined.right joined.has c e;
        lives = λ s joined. (named_is owner channel (record_at s.table i) joined.has).0;
        stays = stays_joined;
      }
