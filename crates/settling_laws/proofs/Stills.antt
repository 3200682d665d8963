-- Sweeps that change nothing any more.
use Rattle.std.proofs.Common.{◌≡◌, ℕ, zero, suc, ◌+◌, ◌-◌, ◌≤◌, List, length, sym, ap, ◌∙◌, subst, arith}
use Rattle.fir_tree.specs.declared.scope.Fitted.{Fitted}
use Rattle.fir_meaning.specs.Components.{Design, FlatLeaf, design_of}
use Rattle.fir_meaning.specs.States.{State, Inputs, Settled}
use Rattle.settling_laws.specs.Sweeps.{sweep, swept}

pub stays_still : (design : Design) (s : State) (given : Inputs) (n : ℕ) → swept design s given (suc n) ≡ swept design s given n → (k : ℕ) → swept design s given (n + k) ≡ swept design s given n
stays_still design s given n still zero = let same : n + 0 ≡ n = omega arith in ap (swept design s given) same
stays_still design s given n still (suc k) =
    let same : n + suc k ≡ suc (n + k) = omega arith in
    ap (swept design s given) same ∙ (ap (sweep design s given) (stays_still design s given n still k) ∙ still)

abbrev pub AreSettled : Fitted → List FlatLeaf → Type 0
AreSettled fitted all = (s : State) (given : Inputs) → Settled (design_of fitted) s given (swept (design_of fitted) s given (length all))

pub still_settled : (fitted : Fitted) (all : List FlatLeaf) → AreSettled fitted all → (s : State) (given : Inputs) (n : ℕ) → n ≤ length all
    → swept (design_of fitted) s given (suc n) ≡ swept (design_of fitted) s given n → Settled (design_of fitted) s given (swept (design_of fitted) s given n)
still_settled fitted all settled s given n within still =
    let rest : n + (length all - n) ≡ length all = omega (arith, within) in
    subst (Settled (design_of fitted) s given) (ap (swept (design_of fitted) s given) (sym rest) ∙ stays_still (design_of fitted) s given n still (length all - n)) (settled s given)
