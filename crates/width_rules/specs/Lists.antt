-- Several lists of widths, one behind another, and where each of them ends.
use Rattle.std.specs.Prelude.{◌≡◌, ℕ, ◌+◌, ◌≤◌, ◌<◌, List, [], ◌∷◌, ◌++◌, length, flat_map}
use Rattle.width_rules.specs.declared.slot.Slot.{Slot}

-- the widths of several lists
abbrev pub joined : List (List Slot) → List Slot
joined lists = flat_map (λ own. own) lists

-- where each list ends, behind so many widths
abbrev pub ends_behind : ℕ → List (List Slot) → List ℕ
ends_behind n [] = []
ends_behind n (own ∷ lists) = (n + length own) ∷ ends_behind (n + length own) lists

-- one of the lists begins at or before a number, and ends beyond it, here
pub record ReachesBeyond (lists : List (List Slot)) (start : ℕ) (own : List Slot) (end : ℕ) : Type 0 where
  pub front : List (List Slot)
  pub behind : List (List Slot)
  pub stands : lists ≡ front ++ own ∷ behind
  pub begins : length (joined front) ≤ start
  pub beyond : start < end
  pub ends : end ≡ length (joined front) + length own
