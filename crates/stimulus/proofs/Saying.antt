-- What the words of a line say.
use Rattle.std.proofs.Common.{◌≡◌, ℕ, List, [], ◌∷◌, sym, ap, ◌∙◌, subst, inr}
use Rattle.stimulus.specs.Words.{Word, behind}
use Rattle.stimulus.specs.Forms.{Digits, A_number, HasForm, Breaks, setting_forms}
use Rattle.stimulus.specs.Reading.{line_at}

module _ (text : List ℕ) (cycle leaf value : Word) (first : line_at text (behind cycle) ≡ leaf ∷ line_at text (behind leaf)) (second : line_at text (behind leaf) ≡ value ∷ line_at text (behind value)) where
  -- a fourth word
  pub too_many : (at : ℕ) → HasForm Digits cycle.bytes → HasForm A_number value.bytes → ((next : Word) × (words : List Word) × (line_at text (behind value) ≡ next ∷ words) × (at ≡ next.at))
      → Breaks setting_forms 0 (cycle ∷ line_at text (behind cycle)) at
  too_many at digits number h =
      let all : line_at text (behind cycle) ≡ leaf ∷ value ∷ h.0 ∷ h.1 = first ∙ ap (λ ws. leaf ∷ ws) (second ∙ ap (λ ws. value ∷ ws) h.2) in
      subst (λ ws. Breaks setting_forms 0 (cycle ∷ ws) at) (sym all) (inr (digits, inr (tt, inr (number, h.3))))

  -- three words and no more
  pub three : line_at text (behind value) ≡ [] → cycle ∷ line_at text (behind cycle) ≡ cycle ∷ leaf ∷ value ∷ []
  three none = ap (λ ws. cycle ∷ ws) (first ∙ ap (λ ws. leaf ∷ ws) (second ∙ ap (λ ws. value ∷ ws) none))
