-- Runs of a machine and what they show of one part of it. Nothing here knows of channels: S are states, C calls and A what a call
-- answers; H are the states of the part, and B what it is answered.
use Rattle.std.specs.Prelude.{Bool, cond, List, [], ◌∷◌}

-- where a call leads, and what it answers
pub record Came (S A : Type 0) : Type 0 where
  pub state : S
  pub answer : A

-- a call of a run, and what came of it
pub record Turn (S C A : Type 0) : Type 0 where
  pub call : C
  pub came : Came S A

-- a run: each call goes on from the state that the one before it left
unfoldable pub run : {S C A : Type 0} → (S → C → Came S A) → S → List C → List (Turn S C A)
run step s [] = []
run step s (c ∷ cs) = record { call = c; came = step s c } ∷ run step (step s c).state cs

-- the calls that are the part's own, in their order
unfoldable pub own_of : {C : Type 0} → (C → Bool) → List C → List C
own_of own [] = []
own_of own (c ∷ cs) = cond (own c) (c ∷ own_of own cs) (own_of own cs)

-- the part by itself, up to and including the call that ends it
unfoldable pub alone : {C H B : Type 0} → (H → C → Came H B) → (H → Bool) → H → List C → List (Came H B)
alone one live h [] = []
alone one live h (c ∷ cs) = one h c ∷ cond (live (one h c).state) (alone one live (one h c).state cs) []

-- what a run shows of the part: for each of its own calls the part and its answer, up to and including the one that ends it
unfoldable pub shown : {S C A H B : Type 0} → (C → Bool) → (Came S A → Came H B) → (H → Bool) → List (Turn S C A) → List (Came H B)
shown own view live [] = []
shown own view live (t ∷ ts) =
    cond (own t.call)
    (view t.came ∷ cond (live (view t.came).state) (shown own view live ts) [])
    (shown own view live ts)

-- every one of a list is as P says
pub data Each {C : Type 0} (P : C → Type 0) : List C → Type 0 where
  none : Each P []
  more : {c : C} {cs : List C} → P c → Each P cs → Each P (c ∷ cs)
