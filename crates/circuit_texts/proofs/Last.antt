-- What the inputs have in the last cycle.
use Rattle.std.proofs.Common.{◌≡◌, ℕ, ◌+◌, ◌-◌, ◌<◌, List, [], ◌∷◌, map, refl, sym, ap, ◌∙◌, arith}
use Rattle.std.specs.Prelude.{All}
use Rattle.std.specs.List.{enumerate_from}
use Rattle.std.proofs.lemmas.List.Elements.{All-head}
use Rattle.bit_words.specs.declared.value.Value.{Value}
use Rattle.ground_net.specs.declared.net.Ports.{Ports}
use Rattle.stimulus.specs.declared.stimulus.Stimulus.{Stimulus}
use Rattle.stimulus.specs.declared.stimulus.Setting.{Setting}
use Rattle.stimulus.specs.Stimuli.{IsFormed}
use Rattle.circuit_texts.specs.StimulusParts.{row_from, last_row}

same_items : (n : ℕ) (xs : List Value) → map (λ (e : ℕ × Value). e.1) (enumerate_from n xs) ≡ xs
same_items n [] = refl
same_items n (x ∷ xs) = ap (λ vs. x ∷ vs) (same_items (n + 1) xs)

-- a stimulus without a cycle has no setting
no_settings : (settings : List Setting) (cycles : ℕ) → cycles ≡ 0 → All (λ s. s.cycle < cycles) settings → settings ≡ []
no_settings [] cycles none below = refl
no_settings (s ∷ settings) cycles none below = let lt : s.cycle < cycles = All-head (λ (s : Setting). s.cycle < cycles) s settings below in absurd (omega (arith, none, lt))

-- They are those that they begin with, where there is no cycle.
pub none_last : (ports : Ports) (stimulus : Stimulus) (start : List Value) → IsFormed ports stimulus → stimulus.cycles ≡ 0 → start ≡ last_row start stimulus
none_last ports stimulus start formed none =
    sym (ap (λ ss. row_from start ss (stimulus.cycles - 1)) (no_settings stimulus.settings stimulus.cycles none formed.below) ∙ same_items 0 start)
