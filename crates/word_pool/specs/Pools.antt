-- Slots: numbers below a limit that are live or not.
use Rattle.std.specs.Prelude.{◌≡◌, ℕ, ◌+◌, ◌<◌, ◌≤◌, ◌==◌, ◌||◌, Bool, true, false, List, length, max}
use Rattle.std.specs.List.{list_any}

-- the live numbers, in ascending order; the limit; the greatest number of slots that were live at once; how many can be taken without memory
pub record Pool : Type 0 where
  pub live : List ℕ
  pub limit : ℕ
  pub high : ℕ
  pub spare : ℕ

abbrev pub is_live : Pool → ℕ → Bool
is_live pool k = list_any (λ l. k == l) pool.live

-- all numbers below the limit are live
abbrev pub IsFull : Pool → Type 0
IsFull pool = (k : ℕ) → k < pool.limit → is_live pool k ≡ true

-- The least number that wasn't live is live now, and nothing else changed but how many were live at once.
pub record Takes (old new : Pool) (slot : ℕ) : Type 0 where
  pub below : slot < old.limit
  pub fresh : is_live old slot ≡ false
  pub least : (k : ℕ) → k < slot → is_live old k ≡ true
  pub live : (k : ℕ) → is_live new k ≡ ((k == slot) || is_live old k)
  pub limit : new.limit ≡ old.limit
  pub high : new.high ≡ max old.high (length new.live)
  pub spare : old.spare ≤ new.spare + 1

-- nothing changed but how many can be taken without memory, which are no fewer
pub record Keeps (old new : Pool) : Type 0 where
  pub live : new.live ≡ old.live
  pub limit : new.limit ≡ old.limit
  pub high : new.high ≡ old.high
  pub spare : old.spare ≤ new.spare
