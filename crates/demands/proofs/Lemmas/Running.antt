-- What a run shows of a part of a machine is what the part does by itself with its own calls (`shown_alone`), if the part is moved by its own calls
-- only; and parts that are alike act alike (`alike_alone`). Nothing here knows of channels.
use mathlib.Core.Bool.{Bool, true, false, cond}
use mathlib.Core.List.{List, [], ◌∷◌, map}
use mathlib.Core.Path.{◌≡◌, refl, sym, ap, ap₂, ◌∙◌}
use Rattle.demands.specs.Runs.{Came, run, own_of, alone, shown, Each, none, more}

-- the own calls of a list are as P says, and own
pub own_each : {C : Type 0} {P : C → Type 0} (own : C → Bool) (cs : List C) → Each P cs → Each (λ c. P c × (own c ≡ true)) (own_of own cs)
unfolding own_of
own_each own [] each = none
own_each {C} {P} own (c ∷ cs) (more w each) = by (own c) refl (own_each own cs each)
  where
    by : (o : Bool) → own c ≡ o → Each (λ b. P b × (own b ≡ true)) (own_of own cs)
        → Each (λ b. P b × (own b ≡ true)) (cond o (c ∷ own_of own cs) (own_of own cs))
    by true e rest = more (w, e) rest
    by false e rest = rest

-- ---- one run

-- A state is fine as long as the part is live in it. `view` is what is seen of the part after a call, and `part` the part of a state.
pub record Own {S C A H B : Type 0} (step : S → C → Came S A) (one : H → C → Came H B) (own : C → Bool)
    (part : S → H) (view : Came S A → Came H B) (live : H → Bool) (Fine : S → Type 0) (Lawful : C → Type 0) : Type 0 where
  -- what is seen is the part of the state reached
  pub views : (m : Came S A) → (view m).state ≡ part m.state
  -- an own call does to the part what it does to the part by itself
  pub mine : (s : S) (c : C) → Fine s → Lawful c → own c ≡ true → view (step s c) ≡ one (part s) c
  -- any other call leaves the part
  pub others : (s : S) (c : C) → Fine s → Lawful c → own c ≡ false → part (step s c).state ≡ part s
  -- and a fine state stays fine, unless the part ends
  pub lives : (s : S) → Fine s → live (part s) ≡ true
  pub stays : (s : S) (c : C) → Fine s → Lawful c → live (part (step s c).state) ≡ true → Fine (step s c).state

module _ {S C A H B : Type 0} {step : S → C → Came S A} {one : H → C → Came H B} {own : C → Bool}
    {part : S → H} {view : Came S A → Came H B} {live : H → Bool} {Fine : S → Type 0} {Lawful : C → Type 0}
    (law : Own step one own part view live Fine Lawful) where
  -- the calls after an own call are looked at only if it did not end the part
  go_on : (s : S) (c : C) (cs : List C) (l : Bool) → Fine s → Lawful c → view (step s c) ≡ one (part s) c
      → live (one (part s) c).state ≡ l
      → (Fine (step s c).state → shown own view live (run step (step s c).state cs) ≡ alone one live (part (step s c).state) (own_of own cs))
      → cond l (shown own view live (run step (step s c).state cs)) []
      ≡ cond l (alone one live (one (part s) c).state (own_of own cs)) []
  go_on s c cs true f w same e next =
      let reached : part (step s c).state ≡ (one (part s) c).state = sym (law.views (step s c)) ∙ ap (λ m. m.state) same in
      next (law.stays s c f w (ap live reached ∙ e)) ∙ ap (λ h. alone one live h (own_of own cs)) reached
  go_on s c cs false f w same e next = refl

  pub shown_alone : (s : S) (cs : List C) → Each Lawful cs → Fine s
      → shown own view live (run step s cs) ≡ alone one live (part s) (own_of own cs)
  unfolding run shown alone own_of
  shown_alone s [] each f = refl
  shown_alone s (c ∷ cs) (more w each) f = by (own c) refl (λ g. shown_alone (step s c).state cs each g)
    where
      by : (o : Bool) → own c ≡ o
          → (Fine (step s c).state → shown own view live (run step (step s c).state cs) ≡ alone one live (part (step s c).state) (own_of own cs))
          → cond o
          (view (step s c) ∷ cond (live (view (step s c)).state) (shown own view live (run step (step s c).state cs)) [])
          (shown own view live (run step (step s c).state cs))
          ≡ alone one live (part s) (cond o (c ∷ own_of own cs) (own_of own cs))
      by true e next =
          let same = law.mine s c f w e in
          ap₂ ◌∷◌ same
          (ap (λ m. cond (live m.state) (shown own view live (run step (step s c).state cs)) []) same
          ∙ go_on s c cs (live (one (part s) c).state) f w same refl next)
      by false e next =
          let same = law.others s c f w e in
          next (law.stays s c f w (ap live same ∙ law.lives s f)) ∙ ap (λ h. alone one live h (own_of own cs)) same

  -- What holds of a part with no own call left, is handed back from an own call that the part outlives, and holds at one that ends it, holds of
  -- what a run shows
  pub along : (P : H → List C → List (Came H B) → Type 0) → ((h : H) → P h [] [])
      → ((s : S) (c : C) (cs : List C) (ms : List (Came H B)) → Fine s → Lawful c → own c ≡ true → live (one (part s) c).state ≡ true
      → P (one (part s) c).state cs ms → P (part s) (c ∷ cs) (one (part s) c ∷ ms))
      → ((s : S) (c : C) (cs : List C) → Fine s → Lawful c → own c ≡ true → live (one (part s) c).state ≡ false
      → P (part s) (c ∷ cs) (one (part s) c ∷ []))
      → (s : S) (cs : List C) → Each Lawful cs → Fine s → P (part s) (own_of own cs) (shown own view live (run step s cs))
  unfolding run shown own_of
  along P empty goes ends s [] each f = empty (part s)
  along P empty goes ends s (c ∷ cs) (more w each) f = by (own c) refl (λ g. along P empty goes ends (step s c).state cs each g)
    where
      by : (o : Bool) → own c ≡ o
          → (Fine (step s c).state → P (part (step s c).state) (own_of own cs) (shown own view live (run step (step s c).state cs)))
          → P (part s) (cond o (c ∷ own_of own cs) (own_of own cs))
          (cond o
          (view (step s c) ∷ cond (live (view (step s c)).state) (shown own view live (run step (step s c).state cs)) [])
          (shown own view live (run step (step s c).state cs)))
      by true e next = rw (law.mine s c f w e) (on (live (one (part s) c).state) refl)
        where
          reached : part (step s c).state ≡ (one (part s) c).state
          reached = sym (law.views (step s c)) ∙ ap (λ m. m.state) (law.mine s c f w e)

          on : (l : Bool) → live (one (part s) c).state ≡ l
              → P (part s) (c ∷ own_of own cs) (one (part s) c ∷ cond l (shown own view live (run step (step s c).state cs)) [])
          on true l =
              goes s c (own_of own cs) _ f w e l
              (rw reached at (next (law.stays s c f w (ap live reached ∙ l))))
          on false l = ends s c (own_of own cs) f w e l
      by false e next =
          let same = law.others s c f w e in
          rw same at (next (law.stays s c f w (ap live same ∙ law.lives s f)))

-- ---- two runs

-- Parts that are alike tell the same and stay alike. `tells` is what is told of the part and its answer.
pub record Likeness {C H B K : Type 0} (one : H → C → Came H B) (live : H → Bool) (tells : Came H B → K) (Alike : H → H → Type 0) (Lawful : C → Type 0) : Type 0 where
  pub tell : (h k : H) (c : C) → Lawful c → Alike h k → tells (one h c) ≡ tells (one k c)
  pub end : (h k : H) (c : C) → Lawful c → Alike h k → live (one h c).state ≡ live (one k c).state
  pub stay : (h k : H) (c : C) → Lawful c → Alike h k → live (one h c).state ≡ true → Alike (one h c).state (one k c).state

module _ {C H B K : Type 0} {one : H → C → Came H B} {live : H → Bool} {tells : Came H B → K} {Alike : H → H → Type 0} {Lawful : C → Type 0}
    (law : Likeness one live tells Alike Lawful) where
  pub alike_alone : (h k : H) (cs : List C) → Each Lawful cs → Alike h k
      → map tells (alone one live h cs) ≡ map tells (alone one live k cs)
  unfolding alone
  alike_alone h k [] each a = refl
  alike_alone h k (c ∷ cs) (more w each) a =
      ap₂ ◌∷◌ (law.tell h k c w a) (by (live (one h c).state) refl (sym (law.end h k c w a)) (λ b. alike_alone (one h c).state (one k c).state cs each b))
    where
      by : (l : Bool) → live (one h c).state ≡ l → live (one k c).state ≡ live (one h c).state
          → (Alike (one h c).state (one k c).state → map tells (alone one live (one h c).state cs) ≡ map tells (alone one live (one k c).state cs))
          → map tells (cond (live (one h c).state) (alone one live (one h c).state cs) [])
          ≡ map tells (cond (live (one k c).state) (alone one live (one k c).state cs) [])
      by true e g next = rw (g, e) (next (law.stay h k c w a e))
      by false e g next = rw (g, e)
