-- Stages in a row. What has a fault at a stage has passed those before it and doesn't pass the stage, so a text has at most one fault
-- that is told, and none where it passes all stages.
use Rattle.std.proofs.Common.{◌≡◌, ◌⊎◌, ⊎_elim, inl, inr, sym, ap, ◌∙◌}
use Rattle.std.specs.Prelude.{⊤}
use Rattle.sim_engine.specs.declared.fault.CircuitFault.{CircuitFault}

-- a stage: the faults that it tells, what holds where the stages before it are passed, and what where it is passed too
pub record IsStage {G : Type 0} (Tells : G → Type 0) (Before After : Type 0) : Type 0 where
  pub once : (first second : G) → Tells first → Tells second → first ≡ second
  pub came : (given : G) → Tells given → Before
  pub stops : (given : G) → Tells given → After → ⊥
  pub down : After → Before

-- the faults of a stage, as the circuit's
abbrev pub As : {G : Type 0} → (G → CircuitFault) → (G → Type 0) → CircuitFault → Type 0
As {G} variant Tells fault = (given : G) × Tells given × (fault ≡ variant given)

-- the stages up to one: the faults that they tell, and what holds where they are passed
pub record Settles (Tells : CircuitFault → Type 0) (Passed : Type 0) : Type 0 where
  pub one : (first second : CircuitFault) → Tells first → Tells second → first ≡ second
  pub none : (given : CircuitFault) → Tells given → Passed → ⊥

pub begin : Settles (λ fault. ⊥) ⊤
begin = record { one = λ first second p q. absurd p; none = λ given p passed. p }

-- and one more stage
pub and_then : {G : Type 0} {Earlier : CircuitFault → Type 0} {Tells : G → Type 0} {Before After : Type 0} → Settles Earlier Before → (variant : G → CircuitFault)
    → IsStage Tells Before After → Settles (λ fault. Earlier fault ⊎ As variant Tells fault) After
and_then {G} {Earlier} {Tells} {Before} {After} earlier variant stage = record {
  one = one;
  none = λ given p passed. ⊎_elim (λ e. earlier.none given e (stage.down passed)) (λ (t : As variant Tells given). stage.stops t.0 t.1 passed) p;
}
  where
    one : (first second : CircuitFault) → Earlier first ⊎ As variant Tells first → Earlier second ⊎ As variant Tells second → first ≡ second
    one first second (inl p) (inl q) = earlier.one first second p q
    one first second (inl p) (inr q) = absurd (earlier.none first p (stage.came q.0 q.1))
    one first second (inr p) (inl q) = absurd (earlier.none second q (stage.came p.0 p.1))
    one first second (inr p) (inr q) = p.2 ∙ ap variant (stage.once p.0 q.0 p.1 q.1) ∙ sym q.2
