-- Sinks and cones of small nets.
use Rattle.std.proofs.Common.{◌≡◌, ℕ, zero, suc, List, [], ◌∷◌, Option, Some, None, refl, sym, ap, ◌∙◌, subst, arith, ◌⊎◌, inl, inr, ⊎_elim}
use Rattle.std.specs.Prelude.{Contains}
use Rattle.std.proofs.lemmas.Grind.{common_steps}
use Rattle.bit_words.specs.declared.value.Kind.TheVariants.{Unsigned}
use Rattle.prim_ops.specs.declared.operation.PrimOp.TheVariants.{Not}
use Rattle.ground_net.specs.declared.ground.Ground.{Ground, the_lemmas}
use Rattle.ground_net.specs.declared.ground.Ground.TheVariants as ground
use Rattle.ground_net.specs.declared.net.Leaf.{Leaf}
use Rattle.ground_net.specs.declared.net.Role.{Role}
use Rattle.ground_net.specs.declared.net.Role.TheVariants as role
use Rattle.ground_net.specs.declared.net.Net.{Net}
use Rattle.ground_net.specs.declared.net.NetRegister.{NetRegister}
use Rattle.ground_net.specs.declared.net.NetReset.{NetReset}
use Rattle.ground_net.specs.Grounds.{mentions}
use Rattle.ground_net.specs.Reads.{IsAssigned, Reads, direct_reads}
use Rattle.ground_net.specs.Cones.{Sink, A_watched, A_register, sinks, needs, InCone, needed, behind}
use Rattle.ground_net.proofs.Examples.{leaf, constant}

abbrev inverse : ℕ → Ground
inverse x = ground.Op Not (ground.Leaf x ∷ []) []

abbrev plain : ℕ → NetRegister
plain x = record { leaf = x; reset = None }

--   output o, registers r and s, node t = not(a), and t is connected to all three: the leaves are the clock (0), a (1), o (2), r (3),
--   s (4) and t (5)
abbrev shared : Net
shared = record {
  ports = 3;
  leaves = leaf 0 role.Clock ∷ leaf 4 (role.Input 0) ∷ leaf 4 role.Assigned ∷ leaf 4 (role.Register 0) ∷ leaf 4 (role.Register 1) ∷ leaf 4 role.Assigned ∷ [];
  drivers = None ∷ None ∷ Some (ground.Leaf 5) ∷ Some (ground.Leaf 5) ∷ Some (ground.Leaf 5) ∷ Some (inverse 1) ∷ [];
  registers = plain 3 ∷ plain 4 ∷ [];
  memories = [];
}

sinks_of_shared : sinks shared (2 ∷ []) ≡ A_watched 2 ∷ A_register 0 ∷ A_register 1 ∷ []
sinks_of_shared = refl

reads_of_o : direct_reads shared 2 ≡ 5 ∷ []
reads_of_o = grind (arith, common_steps, the_lemmas)

reads_of_t : direct_reads shared 5 ≡ 1 ∷ []
reads_of_t = grind (arith, common_steps, the_lemmas)

needs_of_r : needs shared (A_register 0) ≡ 5 ∷ []
needs_of_r = grind (arith, common_steps, the_lemmas)

only_one : (x y : ℕ) → Contains (x ∷ []) y → x ≡ y
only_one x y (k, below, is) = let e : k ≡ 0 = omega arith in rw e at is

-- a is no assignment
input_is_none : IsAssigned shared.leaves 1 → ⊥
input_is_none a = let there = a.there in let is = a.is in cc

-- t reads no assignment
t_reads_none : (y : ℕ) → Reads shared 5 y → IsAssigned shared.leaves y → ⊥
t_reads_none y r a = input_is_none (subst (IsAssigned shared.leaves) (sym (only_one 1 y (subst (λ ys. Contains ys y) reads_of_t r))) a)

-- The cone of the register r is t.
in_cone_of_r : InCone shared (A_register 0) 5
in_cone_of_r = needed (subst (λ ys. Contains ys 5) (sym needs_of_r) (0, omega arith, refl)) (record { leaf = leaf 4 role.Assigned; there = refl; is = refl })

only_in_cone_of_r : (x : ℕ) → InCone shared (A_register 0) x → x ≡ 5
only_in_cone_of_r x (needed c a) = sym (only_one 5 x (subst (λ ys. Contains ys x) needs_of_r c))
only_in_cone_of_r y (behind {x = x} i r a) = absurd (t_reads_none y (subst (λ z. Reads shared z y) (only_in_cone_of_r x i) r) a)

-- The cone of the output o is o and t.
in_cone_of_o : InCone shared (A_watched 2) 5
in_cone_of_o =
    behind (needed {x = 2} (0, omega arith, refl) (record { leaf = leaf 4 role.Assigned; there = refl; is = refl }))
    (subst (λ ys. Contains ys 5) (sym reads_of_o) (0, omega arith, refl)) (record { leaf = leaf 4 role.Assigned; there = refl; is = refl })

only_in_cone_of_o : (x : ℕ) → InCone shared (A_watched 2) x → (x ≡ 2) ⊎ (x ≡ 5)
only_in_cone_of_o x (needed c a) = inl (sym (only_one 2 x c))
only_in_cone_of_o y (behind {x = x} i r a) = ⊎_elim
    (λ e. inr (sym (only_one 5 y (subst (λ ys. Contains ys y) reads_of_o (subst (λ z. Reads shared z y) e r)))))
    (λ e. absurd (t_reads_none y (subst (λ z. Reads shared z y) e r) a))
    (only_in_cone_of_o x i)

--   output x, registers a and b under a reset, n = not(b), m = not(a), connect a, n, connect b, m, connect x, a: the leaves are the
--   clock (0), reset (1), x (2), a (3), b (4), n (5) and m (6)
abbrev crossed : Net
crossed = record {
  ports = 3;
  leaves = leaf 0 role.Clock ∷ leaf 1 (role.Input 0) ∷ leaf 4 role.Assigned ∷ leaf 4 (role.Register 0) ∷ leaf 4 (role.Register 1) ∷ leaf 4 role.Assigned ∷ leaf 4 role.Assigned ∷ [];
  drivers = None ∷ None ∷ Some (ground.Leaf 3) ∷ Some (ground.Leaf 5) ∷ Some (ground.Leaf 6) ∷ Some (inverse 4) ∷ Some (inverse 3) ∷ [];
  registers = record { leaf = 3; reset = Some (record { reset = ground.Leaf 1; init = constant 4 1 }) }
      ∷ record { leaf = 4; reset = Some (record { reset = ground.Leaf 1; init = constant 4 2 }) } ∷ [];
  memories = [];
}

sinks_of_crossed : sinks crossed (2 ∷ []) ≡ A_watched 2 ∷ A_register 0 ∷ A_register 1 ∷ []
sinks_of_crossed = refl

-- a needs n and its reset, b needs m and the same reset
needs_of_a : needs crossed (A_register 0) ≡ 5 ∷ 1 ∷ []
needs_of_a = grind (arith, common_steps, the_lemmas)

needs_of_b : needs crossed (A_register 1) ≡ 6 ∷ 1 ∷ []
needs_of_b = grind (arith, common_steps, the_lemmas)

reads_of_n : direct_reads crossed 5 ≡ 4 ∷ []
reads_of_n = grind (arith, common_steps, the_lemmas)
