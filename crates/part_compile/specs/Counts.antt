-- How many assignments of a part are live behind a position of its sequence, counted from the last position back.
use Rattle.std.specs.Prelude.{◌≡◌, ℕ, ◌≤◌, Bool, true, false, List, [], ◌∷◌, ◌++◌, filter, length, Contains}
use Rattle.std.proofs.Math.ListN.{get_or}
use Rattle.part_compile.specs.declared.live_count.LiveCount.{LiveCount}

abbrev pub is_read : LiveCount → ℕ → Bool
is_read t y = get_or t.read.items y false

abbrev pub stands : LiveCount → ℕ → Bool
stands t y = get_or t.done.items y false

-- Only these leaves are read, only those stand before, and no more are counted than those of which both is known.
pub record CountsLive (read done : List ℕ) (t : LiveCount) : Type 0 where
  pub long : length t.read.items ≡ length t.done.items
  pub only : (y : ℕ) → is_read t y ≡ true → Contains read y
  pub before : (y : ℕ) → stands t y ≡ true → Contains done y
  pub few : t.count ≤ length (filter (is_read t) done)

-- Of these leaves some are read too.
abbrev pub ReadsMore : List ℕ → LiveCount → LiveCount → Type 0
ReadsMore xs old new = (read done : List ℕ) → ((y : ℕ) → Contains xs y → Contains read y) → CountsLive read done old → CountsLive read done new

-- The last of the leaves that stand before is passed.
abbrev pub Passes : ℕ → LiveCount → LiveCount → Type 0
Passes x old new = (read done : List ℕ) → CountsLive read (done ++ x ∷ []) old → CountsLive read done new
