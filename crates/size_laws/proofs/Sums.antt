-- Sums, without the size.
use Rattle.std.proofs.Common.{◌≡◌, ℕ, ◌+◌, ◌*◌, List, [], ◌∷◌, ◌++◌, map, refl, sym, ap, ◌∙◌, arith}
use Rattle.std.proofs.lemmas.Grind.{common_steps}
use Rattle.std.proofs.lemmas.List.{map-append}
use Rattle.size_check.specs.declared.sums.Sums.{Sums}
use Rattle.size_check.specs.Measures.{nothing, plus, together}

abbrev pub unsized : Sums → Sums
unsized a = record a { size = 0 }

pub sums_same : {a b : Sums} → a.size ≡ b.size → a.leaves ≡ b.leaves → a.names ≡ b.names → a.bytes ≡ b.bytes → a.words ≡ b.words → a ≡ b
sums_same p q r s t = λ i. record { size = p i; leaves = q i; names = r i; bytes = s i; words = t i }

pub plus_later : (a b c : Sums) → plus (plus a b) c ≡ plus a (plus b c)
plus_later a b c = sums_same (omega arith) (omega arith) (omega arith) (omega arith) (omega arith)

pub plus_nothing : (a : Sums) → plus a nothing ≡ a
plus_nothing a = sums_same (omega arith) (omega arith) (omega arith) (omega arith) (omega arith)

pub nothing_plus : (a : Sums) → plus nothing a ≡ a
nothing_plus a = sums_same (omega arith) (omega arith) (omega arith) (omega arith) (omega arith)

-- a b c d in another order
pub plus_across : (a b c d : Sums) → plus (plus a b) (plus c d) ≡ plus (plus a c) (plus b d)
plus_across a b c d = sums_same (omega arith) (omega arith) (omega arith) (omega arith) (omega arith)

pub together-append : (xs ys : List Sums) → together (xs ++ ys) ≡ plus (together xs) (together ys)
together-append [] ys = sym (nothing_plus (together ys))
together-append (x ∷ xs) ys = ap (plus x) (together-append xs ys) ∙ sym (plus_later x (together xs) (together ys))

pub mapped-append : {X : Type 0} (f : X → Sums) (xs ys : List X) → together (map f (xs ++ ys)) ≡ plus (together (map f xs)) (together (map f ys))
mapped-append f xs ys = ap together (map-append f xs ys) ∙ together-append (map f xs) (map f ys)

-- Behind so many bytes of names of instances

abbrev pub prefixed : ℕ → Sums → Sums
prefixed k a = record a { bytes = a.bytes + a.names * k }

pub prefixed_nothing : (k : ℕ) → prefixed k nothing ≡ nothing
prefixed_nothing k = sums_same refl refl refl (zero_times k) refl
  where
    zero_times : (k : ℕ) → 0 + 0 * k ≡ 0
    zero_times k = grind (arith, common_steps)

pub prefixed_plus : (k : ℕ) (a b : Sums) → prefixed k (plus a b) ≡ plus (prefixed k a) (prefixed k b)
prefixed_plus k a b = sums_same refl refl refl (spread a.bytes b.bytes a.names b.names k) refl
  where
    spread : (b c n m k : ℕ) → b + c + (n + m) * k ≡ b + n * k + (c + m * k)
    spread b c n m k = grind (arith, common_steps)

pub prefixed_twice : (k l : ℕ) (a : Sums) → prefixed k (prefixed l a) ≡ prefixed (k + l) a
prefixed_twice k l a = sums_same refl refl refl (spread a.bytes a.names k l) refl
  where
    spread : (b n k l : ℕ) → b + n * l + n * k ≡ b + n * (k + l)
    spread b n k l = grind (arith, common_steps)

pub prefixed_none : (a : Sums) → prefixed 0 a ≡ a
prefixed_none a = sums_same refl refl refl (spread a.bytes a.names) refl
  where
    spread : (b n : ℕ) → b + n * 0 ≡ b
    spread b n = grind (arith, common_steps)
