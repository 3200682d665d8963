-- Where vertices stand in an order, none is on a loop.
use Rattle.std.proofs.Common.{◌≡◌, ℕ, ◌<◌, List, length, slice_index, subst, sym, ◌∙◌, arith}
use Rattle.comb_order.specs.Graph.{Graph, Reads, Through, itself, others, OnLoop, InOrder, IsOrder}
use Rattle.comb_order.proofs.Reaches.{loop_inside}

-- what a vertex reads through others stands before it
before : (g : Graph) (s : List ℕ) → InOrder g s → (a b : ℕ) → Through g a b → (k : ℕ) → k < length s → slice_index s k ≡ a → (j : ℕ) × (j < k) × (slice_index s j ≡ b)
before g s h a b (itself r) k lt e = h.after k b lt (subst (λ x. Reads g x b) (sym e) r)
before g s h a b (others {b = c} r t) k lt e =
    let first = h.after k c lt (subst (λ x. Reads g x c) (sym e) r) in
    let inside : first.0 < length s = omega (arith, first.1) in
    let rest = before g s h c b t first.0 inside first.2 in
    (rest.0, omega (arith, first.1, rest.1), rest.2)

pub order_no_loop : (g : Graph) (s : List ℕ) → IsOrder g s → (x : ℕ) → OnLoop g x → ⊥
order_no_loop g s h x loop =
    let there = h.all x (loop_inside g x loop) in
    let again = before g s h.in_order x x loop there.0 there.1 there.2 in
    h.in_order.once again.0 there.0 again.1 there.1 (again.2 ∙ sym there.2)
