-- The least widths are one assignment: of two that are each at or below the other all levels are the same.
use Rattle.std.proofs.Common.{◌≡◌, ℕ, List, get_or, refl, sym, ap, ◌∙◌, arith}
use Rattle.std.proofs.lemmas.List.{ext_get_or}
use Rattle.prim_ops.specs.declared.widths.Width.{Width}
use Rattle.prim_ops.specs.declared.widths.Width.TheVariants.{Bits, Over}
use Rattle.width_rules.specs.declared.rule.Rule.{Rule}
use Rattle.width_rules.specs.Formulas.{level}
use Rattle.width_rules.specs.Solutions.{IsWidth, IsLeast}

same_width : (v w : Width) → IsWidth v → IsWidth w → level v ≡ level w → v ≡ w
same_width (Bits m) (Bits n) h i e = ap Bits e
same_width (Bits m) Over h i e = absurd (omega (arith, h, e))
same_width Over (Bits n) h i e = absurd (omega (arith, i, e))
same_width Over Over h i e = refl

pub least_once : (rules : List Rule) (count : ℕ) (first second : List Width) → IsLeast rules count first → IsLeast rules count second → first ≡ second
least_once rules count first second f s = ext_get_or (Bits 0) first second (f.assignment.counted ∙ sym s.assignment.counted)
    (λ k lt. same_width (get_or first k (Bits 0)) (get_or second k (Bits 0)) (f.assignment.bounded k) (s.assignment.bounded k)
    (omega (arith, f.least second s.assignment s.meets k, s.least first f.assignment f.meets k)))
