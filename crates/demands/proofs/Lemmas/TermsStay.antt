-- The terms of a channel are its own for life: none of its own calls changes them (`one_terms`). Assumes nothing.
use mathlib.Core.Path.{◌≡◌, refl}
use Rattle.message.specs.declared.Cid.{Cid}
use Rattle.gap.proofs.Stays.{terms_stay}
use Rattle.demands.specs.Runs.{Came}
use Rattle.demands.specs.Calls.{Call}
use Rattle.demands.specs.Channel.{Channel, Told, planned, elapsed_on, one}
use Rattle.demands.proofs.Lemmas.Kept.{terms_kept}
use Rattle.demands.proofs.Lemmas.OneStep.{brought, Does, answers, wraps, passes, leaves, does}

pub one_terms : (h : Channel) (owner : Cid) (c : Call) → (one owner h c).state.at.terms ≡ h.at.terms
unfolding planned elapsed_on
one_terms h owner c = by (does h owner c)
  where
    by : {c : Call} {m : Came Channel Told} → Does h c m → m.state.at.terms ≡ h.at.terms
    by (answers t w z) = refl
    by (wraps v d w fits fresh) = terms_kept h.at (brought v d)
    by (passes ms) = terms_stay h.at ms
    by (leaves reason) = refl
