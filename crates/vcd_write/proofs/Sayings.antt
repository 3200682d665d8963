-- A line tells one thing.
use Rattle.std.proofs.Common.{◌≡◌, ℕ, ◌+◌, ◌<◌, List, [], ◌∷◌, ◌++◌, get_or, refl, sym, ap, ap₂, ◌∙◌, arith}
use Rattle.std.specs.Prelude.{drop}
use Rattle.std.specs.List.{AllZip}
use Rattle.std.specs.Char.{digit_value}
use Rattle.std.specs.Str.Parse.{AllDigits}
use Rattle.std.proofs.lemmas.Str.Parse.{digit_from_value}
use Rattle.bit_words.specs.declared.number.Base.TheVariants.{Binary, Decimal}
use Rattle.bit_words.specs.Numbers.{value_of_digits}
use Rattle.ground_net.specs.declared.net.PortLeaf.{PortLeaf}
use Rattle.vcd_write.specs.Changes.{Entry, Time, Change}
use Rattle.vcd_write.specs.Texts.{id_of}
use Rattle.vcd_write.specs.Reading.{Tells, heading, stamp, scalar, vector}
use Rattle.vcd_write.proofs.Ids.{ids_apart}

first : (x y : ℕ) (xs ys line : List ℕ) → line ≡ x ∷ xs → line ≡ y ∷ ys → x ≡ y
first x y xs ys line a b = ap (λ l. get_or l 0 0) (sym a ∙ b)

rest : (x y : ℕ) (xs ys line : List ℕ) → line ≡ x ∷ xs → line ≡ y ∷ ys → xs ≡ ys
rest x y xs ys line a b = ap (drop 1) (sym a ∙ b)

-- digits up to a space
no_space : (d : ℕ) → digit_value d < 2 → d ≡ 32 → ⊥
no_space d lt e = let k = digit_from_value d (omega (arith, lt)) in omega (arith, k, e)

seam : (xs ys us vs : List ℕ) → AllDigits 2 xs → AllDigits 2 ys → xs ++ 32 ∷ us ≡ ys ++ 32 ∷ vs → (xs ≡ ys) × (us ≡ vs)
seam [] [] us vs a b e = (refl, ap (drop 1) e)
seam [] (y ∷ ys) us vs a b e = absurd (no_space y b.0 (sym (ap (λ l. get_or l 0 0) e)))
seam (x ∷ xs) [] us vs a b e = absurd (no_space x a.0 (ap (λ l. get_or l 0 0) e))
seam (x ∷ xs) (y ∷ ys) us vs a b e =
    let on = seam xs ys us vs a.1 b.1 (ap (drop 1) e) in
    (ap₂ (λ z zs. z ∷ zs) (ap (λ l. get_or l 0 0) e) on.0, on.1)

one_change : (i j m n : ℕ) → i ≡ j → m ≡ n → Change i m ∷ [] ≡ Change j n ∷ []
one_change i j m n a b = ap₂ (λ x y. Change x y ∷ []) a b

module _ (vars : List PortLeaf) (line : List ℕ) (a b : List Entry) where
  pub once : Tells vars line a → Tells vars line b → a ≡ b
  once (heading r e t) (heading s f u) = t ∙ sym u
  once (heading r e t) (stamp ds n f w u) = absurd (omega (arith, first 36 35 r ds line e f))
  once (heading r e t) (scalar i bit leaf x y z f u) = absurd (omega (arith, z, first 36 (48 + bit) r (id_of i) line e f))
  once (heading r e t) (vector i n leaf ds x y f w u) = absurd (omega (arith, first 36 98 r (ds ++ 32 ∷ id_of i) line e f))
  once (stamp ds n e w t) (heading r f u) = absurd (omega (arith, first 36 35 r ds line f e))
  once (stamp ds n e w t) (stamp es m f x u) = t ∙ (ap (λ k. Time k ∷ []) (w.value ∙ (ap (value_of_digits Decimal) (rest 35 35 ds es line e f) ∙ sym x.value)) ∙ sym u)
  once (stamp ds n e w t) (scalar i bit leaf x y z f u) = absurd (omega (arith, z, first 35 (48 + bit) ds (id_of i) line e f))
  once (stamp ds n e w t) (vector i m leaf es x y f z u) = absurd (omega (arith, first 35 98 ds (es ++ 32 ∷ id_of i) line e f))
  once (scalar i bit leaf x y z e t) (heading r f u) = absurd (omega (arith, z, first 36 (48 + bit) r (id_of i) line f e))
  once (scalar i bit leaf x y z e t) (stamp ds n f w u) = absurd (omega (arith, z, first 35 (48 + bit) ds (id_of i) line f e))
  once (scalar i bit leaf x y z e t) (scalar j c other p q r f u) =
      let same : 48 + bit ≡ 48 + c = first (48 + bit) (48 + c) (id_of i) (id_of j) line e f in
      t ∙ (one_change i j bit c (ids_apart i j (rest (48 + bit) (48 + c) (id_of i) (id_of j) line e f)) (omega (arith, same)) ∙ sym u)
  once (scalar i bit leaf x y z e t) (vector j n other ds p q f w u) = absurd (omega (arith, z, first (48 + bit) 98 (id_of i) (ds ++ 32 ∷ id_of j) line e f))
  once (vector i n leaf ds x y e w t) (heading r f u) = absurd (omega (arith, first 36 98 r (ds ++ 32 ∷ id_of i) line f e))
  once (vector i n leaf ds x y e w t) (stamp es m f z u) = absurd (omega (arith, first 35 98 es (ds ++ 32 ∷ id_of i) line f e))
  once (vector i n leaf ds x y e w t) (scalar j c other p q r f u) = absurd (omega (arith, r, first (48 + c) 98 (id_of j) (ds ++ 32 ∷ id_of i) line f e))
  once (vector i n leaf ds x y e w t) (vector j m other es p q f z u) =
      let parts = seam ds es (id_of i) (id_of j) w.digits z.digits (rest 98 98 (ds ++ 32 ∷ id_of i) (es ++ 32 ∷ id_of j) line e f) in
      t ∙ (one_change i j n m (ids_apart i j parts.1) (w.value ∙ (ap (value_of_digits Binary) parts.0 ∙ sym z.value)) ∙ sym u)

pub all_once : (vars : List PortLeaf) (lines : List (List ℕ)) (a b : List (List Entry)) → AllZip (Tells vars) lines a → AllZip (Tells vars) lines b → a ≡ b
all_once vars [] [] [] s t = refl
all_once vars [] [] (y ∷ ys) s t = absurd t
all_once vars [] (x ∷ xs) b s t = absurd s
all_once vars (l ∷ ls) [] b s t = absurd s
all_once vars (l ∷ ls) (x ∷ xs) [] s t = absurd t
all_once vars (l ∷ ls) (x ∷ xs) (y ∷ ys) s t = ap₂ (λ z zs. z ∷ zs) (once vars l x y s.0 t.0) (all_once vars ls xs ys s.1 t.1)
