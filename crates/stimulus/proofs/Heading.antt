-- The first line.
use Rattle.std.proofs.Common.{◌≡◌, ℕ, List, ◌∷◌, ap₂, ◌∙◌, sym, refl}
use Rattle.stimulus.specs.declared.forms.Heading.{Heading}
use Rattle.stimulus.specs.Words.{Word, behind, told_lines}
use Rattle.stimulus.specs.Forms.{Heads}
use Rattle.stimulus.specs.Reading.{told_at, lines_after, shown, IsNextLine, IsHeading}

pub told_start : (text : List ℕ) → told_at text 0 ≡ told_lines text
unfolding told_at
told_start text = refl

pub heads_of : (text : List ℕ) (first : Word) (heading : Heading) → IsNextLine text 0 first → (h : IsHeading text first heading) → Heads text (shown heading.number) h.cycles (lines_after text (behind (shown heading.number)))
heads_of text first heading next h = record {
  word = first;
  first = sym (told_start text) ∙ next.lines ∙ ap₂ (λ ws ls. (first ∷ ws) ∷ ls) h.words h.after;
  spelled = h.spelled;
  counted = h.counted;
}
