-- Counts that fit, and what holds of a result.
use Rattle.std.proofs.Common.{ℕ, ◌*◌, ◌^◌, ◌<◌, ◌≤◌, Bool, true, false, List, [], ◌∷◌, length, arith, if◌then◌else◌}
use Rattle.std.specs.Prelude.{Result, Ok, Err, IfOk}
use Rattle.std.proofs.Math.Nat.{mul-le-mul_left, mul-le-mul_right}
use Rattle.bit_words.specs.declared.value.Value.{Value}
use Rattle.row_texts.specs.Tellings.{told_of}

pub ok_map : {T E : Type 0} {P Q : T → Type 0} (r : Result T E) → IfOk r P → ((x : T) → P x → Q x) → IfOk r Q
ok_map (Ok x) h f = f x h
ok_map (Err e) h f = tt

below : (n b : ℕ) → n ≤ 2048 → b ≤ 64 → n * b < 2 ^ 64
below n b h k =
    let first : n * b ≤ 2048 * b = mul-le-mul_right b h in
    let second : 2048 * b ≤ 2048 * 64 = mul-le-mul_left 2048 k in
    omega (arith, first, second)

-- 1,024 cycles by 64 workers
pub small : (a b : ℕ) → a ≤ 1024 → b ≤ 64 → 2 * a * b < 2 ^ 64
small a b h k = below (2 * a) b (omega (arith, h)) k

-- no more rows are told than there are
pub told_few : (ends : List Value → Bool) (rows : List (List Value)) → length (told_of ends rows) ≤ length rows
told_few ends [] = omega arith
told_few ends (row ∷ rows) = by (told_few ends rows) (ends row) where
  by : length (told_of ends rows) ≤ length rows → (b : Bool) → length (row ∷ (if b then [] else told_of ends rows)) ≤ length (row ∷ rows)
  by later true = omega arith
  by later false = omega (arith, later)
