-- Lowest bits of sums, differences, products and of bits that are moved up.
use Rattle.std.proofs.Common.{◌≡◌, ℕ, ◌+◌, ◌-◌, ◌*◌, ◌%◌, ◌^◌, ◌<◌, ◌≤◌, List, [], ◌∷◌, slice_index, ℤ, pos, neg_ℤ, ◌+ℤ◌, ◌-ℤ◌, ◌*ℤ◌, refl, sym, subst, ap, ◌∙◌, arith, pow_mono, All, ⊎_elim, min}
use Rattle.std.proofs.lemmas.Int.{ints}
use lib.IntN.{*ℤ_comm}
use Rattle.bit_words.specs.declared.value.Kind.{Kind}
use Rattle.bit_words.specs.Values.{integer_of, bits_of}
use Rattle.bit_words.proofs.Congruence.{Level, Level-trans}
use Rattle.prim_ops.specs.declared.operation.PrimOp.{PrimOp}
use Rattle.prim_ops.specs.declared.operation.PrimOp.TheVariants as prim
use Rattle.prim_ops.specs.Results.{integer_result}
use Rattle.prim_ops.proofs.Residues.{same_low, Level-lower, Level-times, Level-add, Level-neg, Level-cut, word_level}
use Rattle.prim_ops.specs.Values.{fitted}
use Rattle.flat_code.specs.declared.instr.Op.TheVariants as op
use Rattle.flat_code.specs.declared.instr.Location.{Location}
use Rattle.flat_code.specs.Meaning.{location_value, location_values, minus}
use Rattle.code_draft.specs.Drafts.{Stands}
use Rattle.code_draft.proofs.Cuts.{masked}
use Rattle.code_emit.specs.Working.{working}
use Rattle.code_emit.specs.Ways.{Cut, Given, Operates, IsLowest, KeepsLowest}
use Rattle.code_emit.proofs.WordLaws.{plain}
use Rattle.code_emit.proofs.Ones.{own_bits}
use Rattle.code_emit.proofs.There.{bits_at, width_at, first_there, second_there, two_computes}

-- The lowest bits of words

pub low_sum : (w a b : ℕ) (n m : ℤ) → w ≤ 64 → Level w (pos a) n → Level w (pos b) m → (a + b) % 2 ^ 64 % 2 ^ w ≡ bits_of w (n +ℤ m)
low_sum w a b n m few l k =
    same_low w (pos ((a + b) % 2 ^ 64)) (n +ℤ m) (Level-trans w (pos ((a + b) % 2 ^ 64)) (pos (a + b)) (n +ℤ m) (Level-lower w 64 _ _ few (Level-cut 64 (a + b))) (Level-add w (pos a) n (pos b) m l k))

away : (w x y : ℕ) → y < 2 ^ w → Level w (pos (x + (2 ^ w - y))) (pos x -ℤ pos y)
away w x y below = record { left = 0; right = 1; same = omega (arith, ints) }

pub low_difference : (w a b : ℕ) (n m : ℤ) → w ≤ 64 → b < 2 ^ 64 → Level w (pos a) n → Level w (pos b) m → minus a b % 2 ^ w ≡ bits_of w (n -ℤ m)
low_difference w a b n m few below l k =
    let word = a + (2 ^ 64 - b) in
    let apart = Level-add w (pos a) n (neg_ℤ (pos b)) (neg_ℤ m) l (Level-neg w (pos b) m k) in
    let turned = Level-trans w (pos word) (pos a -ℤ pos b) (n -ℤ m) (Level-lower w 64 _ _ few (away 64 a b below)) apart in
    same_low w (pos (word % 2 ^ 64)) (n -ℤ m) (Level-trans w (pos (word % 2 ^ 64)) (pos word) (n -ℤ m) (Level-lower w 64 _ _ few (Level-cut 64 word)) turned)

pub low_product : (w a b : ℕ) (n m : ℤ) → w ≤ 64 → Level w (pos a) n → Level w (pos b) m → (a * b) % 2 ^ 64 % 2 ^ w ≡ bits_of w (n *ℤ m)
low_product w a b n m few l k =
    let second : Level w (n *ℤ pos b) (n *ℤ m) = subst (λ z. Level w z (n *ℤ m)) (*ℤ_comm (pos b) n) (subst (λ z. Level w (pos b *ℤ n) z) (*ℤ_comm m n) (Level-times w (pos b) m n k)) in
    let both = Level-trans w (pos (a * b)) (n *ℤ pos b) (n *ℤ m) (Level-times w (pos a) n (pos b) l) second in
    same_low w (pos ((a * b) % 2 ^ 64)) (n *ℤ m) (Level-trans w (pos ((a * b) % 2 ^ 64)) (pos (a * b)) (n *ℤ m) (Level-lower w 64 _ _ few (Level-cut 64 (a * b))) both)

pub low_raised : (w a by : ℕ) (n : ℤ) → w ≤ 64 → Level w (pos a) n → (a * 2 ^ by) % 2 ^ 64 % 2 ^ w ≡ bits_of w (n *ℤ pos (2 ^ by))
low_raised w a by n few l =
    let all = a * 2 ^ by in
    same_low w (pos (all % 2 ^ 64)) (n *ℤ pos (2 ^ by)) (Level-trans w (pos (all % 2 ^ 64)) (pos all) (n *ℤ pos (2 ^ by)) (Level-lower w 64 _ _ few (Level-cut 64 all)) (Level-times w (pos a) n (pos (2 ^ by)) l))

-- the word at a location
level_same : (w : ℕ) (n m : ℤ) → n ≡ m → Level w n m
level_same w n m e = record { left = 0; right = 0; same = ap (λ k. k +ℤ pos (0 * 2 ^ w)) e }

pub level_at : (F : List ℕ) (x : Location) (width : ℕ) → KeepsLowest x width → Cut F x → Level width (pos (slice_index F x.low)) (integer_of (location_value F x))
level_at F x width k cut =
    let v = location_value F x in
    let here = bits_at F x k.few cut in
    subst (λ n. Level width (pos n) (integer_of v)) here
    (⊎_elim
    (λ kind. level_same width (pos v.bits) (integer_of v) (sym (plain v kind)))
    (λ le. let e = width_at F x in Level-lower width v.width (pos v.bits) (integer_of v) (omega (arith, e, le)) (word_level v.width v.bits (integer_of v) (own_bits x k.few v)))
    k.low)

module _ (x y : Location) (width : ℕ) (few : width ≤ 64) (a : KeepsLowest x width) (b : KeepsLowest y width) (R : Given) (params : List ℕ) where
  first_level : (F : List ℕ) → All (Cut F) (x ∷ y ∷ []) → Level width (pos (slice_index F x.low)) (integer_of (location_value F x))
  first_level F cut = level_at F x width a (first_there (Cut F) x (y ∷ []) cut)

  second_level : (F : List ℕ) → All (Cut F) (x ∷ y ∷ []) → Level width (pos (slice_index F y.low)) (integer_of (location_value F y))
  second_level F cut = level_at F y width b (second_there (Cut F) x y [] cut)

  pub sum_operates : (mask : ℕ) → IsLowest prim.Add params width (x ∷ y ∷ []) R → mask ≡ 2 ^ width - 1 → Operates (working op.Add 0 x.low y.low 0 mask) (x ∷ y ∷ []) R
  sum_operates mask lowest m = record {
    computes = λ d s. two_computes op.Add 0 mask x y d refl (λ ports wides i. refl) (omega arith) (first_there (Stands d) x (y ∷ []) s) (second_there (Stands d) x y [] s);
    gives = λ words inputs F cut.
        masked ((slice_index F x.low + slice_index F y.low) % 2 ^ 64) width mask m
        ∙ (low_sum width (slice_index F x.low) (slice_index F y.low) (integer_of (location_value F x)) (integer_of (location_value F y)) few (first_level F cut) (second_level F cut) ∙ sym (lowest F));
  }

  pub difference_operates : (mask : ℕ) → IsLowest prim.Sub params width (x ∷ y ∷ []) R → mask ≡ 2 ^ width - 1 → Operates (working op.Sub 0 x.low y.low 0 mask) (x ∷ y ∷ []) R
  difference_operates mask lowest m = record {
    computes = λ d s. two_computes op.Sub 0 mask x y d refl (λ ports wides i. refl) (omega arith) (first_there (Stands d) x (y ∷ []) s) (second_there (Stands d) x y [] s);
    gives = λ words inputs F cut.
        let within : slice_index F y.low < 2 ^ y.width = second_there (Cut F) x y [] cut in
        let most : 2 ^ y.width ≤ 2 ^ 64 = pow_mono b.few in
        masked (minus (slice_index F x.low) (slice_index F y.low)) width mask m
        ∙ (low_difference width (slice_index F x.low) (slice_index F y.low) (integer_of (location_value F x)) (integer_of (location_value F y)) few (omega (arith, within, most)) (first_level F cut) (second_level F cut)
        ∙ sym (lowest F));
  }

  pub product_operates : (mask : ℕ) → IsLowest prim.Mul params width (x ∷ y ∷ []) R → mask ≡ 2 ^ width - 1 → Operates (working op.Mul 0 x.low y.low 0 mask) (x ∷ y ∷ []) R
  product_operates mask lowest m = record {
    computes = λ d s. two_computes op.Mul 0 mask x y d refl (λ ports wides i. refl) (omega arith) (first_there (Stands d) x (y ∷ []) s) (second_there (Stands d) x y [] s);
    gives = λ words inputs F cut.
        masked ((slice_index F x.low * slice_index F y.low) % 2 ^ 64) width mask m
        ∙ (low_product width (slice_index F x.low) (slice_index F y.low) (integer_of (location_value F x)) (integer_of (location_value F y)) few (first_level F cut) (second_level F cut) ∙ sym (lowest F));
  }

  pub raised_operates : (mask : ℕ) → IsLowest prim.Dshl params width (x ∷ y ∷ []) R → mask ≡ 2 ^ width - 1 → Operates (working op.LeftBy 0 x.low y.low 0 mask) (x ∷ y ∷ []) R
  raised_operates mask lowest m = record {
    computes = λ d s. two_computes op.LeftBy 0 mask x y d refl (λ ports wides i. refl) (omega arith) (first_there (Stands d) x (y ∷ []) s) (second_there (Stands d) x y [] s);
    gives = λ words inputs F cut.
        let by = bits_at F y b.few (second_there (Cut F) x y [] cut) in
        masked ((slice_index F x.low * 2 ^ slice_index F y.low) % 2 ^ 64) width mask m
        ∙ (ap (λ k. (slice_index F x.low * 2 ^ k) % 2 ^ 64 % 2 ^ width) (sym by)
        ∙ (low_raised width (slice_index F x.low) (location_value F y).bits (integer_of (location_value F x)) few (first_level F cut) ∙ sym (lowest F)));
  }

-- what an operation's integer is fitted to has its lowest bits
pub fitted_lowest : (p : PrimOp) (params : List ℕ) (kind : Kind) (width : ℕ) (locations : List Location) → width ≤ 64 → IsLowest p params width locations (λ vs. fitted kind width (integer_result p vs params))
fitted_lowest p params kind width locations le F = let e : min width 128 ≡ width = omega (arith, le) in ap (λ w. bits_of w (integer_result p (location_values F locations) params)) e
