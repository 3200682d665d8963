-- The greatest of some widths, from the first on.
use Rattle.std.proofs.Common.{◌≡◌, ℕ, ◌+◌, ◌<◌, ◌≤◌, Bool, true, false, nat_le, if◌then◌else◌, List, [], ◌∷◌, ◌++◌, map, length, take, get_or, refl, ap, sym, ◌∙◌, arith}
use Rattle.std.proofs.lemmas.Bool.{leb-true, leb-false}
use Rattle.std.proofs.lemmas.List.{map_more}
use Rattle.prim_ops.specs.declared.widths.Width.{Width}
use Rattle.prim_ops.specs.declared.widths.Width.TheVariants.{Bits, Over}
use Rattle.width_rules.specs.declared.rule.Formula.{Formula}
use Rattle.width_rules.specs.Formulas.{level, wider, greatest, width_under}

pub level_zero : (w : Width) → level w ≤ 0 → w ≡ Bits 0
level_zero (Bits n) h = ap Bits (omega (arith, h))
level_zero Over h = absurd (omega (arith, h))

wider-left : (v w : Width) → level w < level v → wider v w ≡ v
wider-left v w h = by (nat_le (level v) (level w)) refl
  where
    by : (b : Bool) → nat_le (level v) (level w) ≡ b → (if b then w else v) ≡ v
    by true e = absurd (omega (arith, h, leb-true (level v) (level w) e))
    by false e = refl

wider-right : (v w : Width) → level v ≤ level w → wider v w ≡ w
wider-right v w h = by (nat_le (level v) (level w)) refl
  where
    by : (b : Bool) → nat_le (level v) (level w) ≡ b → (if b then w else v) ≡ w
    by true e = refl
    by false e = absurd (omega (arith, h, leb-false (level v) (level w) e))

wider-zero : (w : Width) → wider w (Bits 0) ≡ w
wider-zero w = by (nat_le (level w) 0) refl
  where
    by : (b : Bool) → nat_le (level w) 0 ≡ b → (if b then Bits 0 else w) ≡ w
    by true e = sym (level_zero w (leb-true (level w) 0 e))
    by false e = refl

wider-assoc : (u v w : Width) → wider (wider u v) w ≡ wider u (wider v w)
wider-assoc u v w = by (nat_le (level u) (level v)) refl (nat_le (level v) (level w)) refl (nat_le (level u) (level w)) refl
  where
    by : (a : Bool) → nat_le (level u) (level v) ≡ a → (b : Bool) → nat_le (level v) (level w) ≡ b → (c : Bool) → nat_le (level u) (level w) ≡ c
        → wider (if a then v else u) w ≡ wider u (if b then w else v)
    by true e true f c g = wider-right v w (leb-true (level v) (level w) f) ∙ sym (wider-right u w (omega (arith, leb-true (level u) (level v) e, leb-true (level v) (level w) f)))
    by true e false f c g = wider-left v w (omega (arith, leb-false (level v) (level w) f)) ∙ sym (wider-right u v (leb-true (level u) (level v) e))
    by false e true f c g = refl
    by false e false f c g = wider-left u w (omega (arith, leb-false (level u) (level v) e, leb-false (level v) (level w) f)) ∙ sym (wider-left u v (omega (arith, leb-false (level u) (level v) e)))

greatest-push : (ws : List Width) (w : Width) → greatest (ws ++ w ∷ []) ≡ wider (greatest ws) w
greatest-push [] w = wider-zero w ∙ sym (wider-right (Bits 0) w (omega arith))
greatest-push (v ∷ ws) w = ap (wider v) (greatest-push ws w) ∙ sym (wider-assoc v (greatest ws) w)

pub greatest_more : (w : List Width) (parts : List Formula) (i : ℕ) (part : Formula) → i < length parts → part ≡ get_or parts i part
    → greatest (map (λ p. width_under p w) (take (i + 1) parts)) ≡ wider (greatest (map (λ p. width_under p w) (take i parts))) (width_under part w)
greatest_more w parts i part lt e =
    rw (map_more (λ p. width_under p w) parts i part lt, ← e) (greatest-push (map (λ p. width_under p w) (take i parts)) (width_under part w))
