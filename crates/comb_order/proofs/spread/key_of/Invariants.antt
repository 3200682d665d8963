use Rattle.std.proofs.Common.{◌≡◌, ◌∷◌, [], take}
use Rattle.std.specs.List.{flat_map}
use Rattle.comb_order.proofs.spread.key_of.Given as goal

abbrev pub invariant-loop-span : goal.invariant-loop-span
invariant-loop-span l = l.key.items ≡ l.stretch.first ∷ flat_map (λ s. s.length ∷ s.stride ∷ []) (take l.span-index l.span-items)
