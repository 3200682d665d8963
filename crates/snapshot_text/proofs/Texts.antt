-- A state is read as it was printed, and as no other.
use Rattle.std.proofs.Common.{◌≡◌, ℕ, ◌≤◌, List, [], ◌∷◌, ◌++◌, refl, sym, ap, ap₂, ◌∙◌, subst, arith, append_assoc, ℤ}
use Rattle.std.specs.Prelude.{codes, decimal, drop}
use Rattle.std.specs.List.{AllZip}
use Rattle.std.proofs.lemmas.List.{append_cancel_left}
use Rattle.bit_words.specs.declared.number.Number.{Number}
use Rattle.bit_words.specs.Numbers.{IsNumber, value_of_digits, integer_of_number}
use Rattle.bit_words.specs.declared.number.Base.TheVariants.{Decimal}
use Rattle.bit_words.specs.Decimals.{decimal_text}
use Rattle.bit_words.proofs.Readings.{sign_once, number_once}
use Rattle.snapshot_text.specs.Cells.{Cell}
use Rattle.snapshot_text.specs.Texts.{most_cycles, line_text, lines_text, state_text, IsLine, AreLines, IsState, Holds}
use Rattle.snapshot_text.proofs.Numbers.{digits_plain, number_plain, decimal_writes, text_writes, abs_small}
use Rattle.snapshot_text.proofs.Cutting.{cut_once}

module _ (cell : Cell) (v : ℤ) (rest : List ℕ) where
  line_front : line_text cell v ++ rest ≡ cell.word ++ (32 ∷ (cell.name ++ (32 ∷ (decimal_text v ++ (10 ∷ rest)))))
  line_front =
      append_assoc cell.word (32 ∷ (cell.name ++ (32 ∷ (decimal_text v ++ 10 ∷ [])))) rest
      ∙ ap (λ t. cell.word ++ (32 ∷ t)) (append_assoc cell.name (32 ∷ (decimal_text v ++ 10 ∷ [])) rest ∙ ap (λ t. cell.name ++ (32 ∷ t)) (append_assoc (decimal_text v) (10 ∷ []) rest))

lines_read : (cells : List Cell) (values : List ℤ) → AllZip Holds cells values → AreLines cells (lines_text cells values) values
lines_read [] [] h = refl
lines_read [] (v ∷ vs) h = absurd h
lines_read (c ∷ cs) [] h = absurd h
lines_read (c ∷ cs) (v ∷ vs) h =
    let w = text_writes v (abs_small c.kind c.width v h.0.narrow h.0.fits) in
    (lines_text cs vs, record { number = w.0; bytes = decimal_text v; is = line_front c v (lines_text cs vs); written = w.1; value = w.2; fits = h.0.fits }, lines_read cs vs h.1)

pub state_read : (cells : List Cell) (cycle : ℕ) (values : List ℤ) → cycle ≤ most_cycles → AllZip Holds cells values → IsState cells (state_text cells cycle values) cycle values
state_read cells cycle values few h = record { digits = decimal cycle; rest = lines_text cells values; is = refl; counted = decimal_writes cycle (omega (arith, few)); few = few; lines = lines_read cells values h }

-- one line is read once
module _ (cell : Cell) (text : List ℕ) (v w : ℤ) (us vs : List ℕ) (a : IsLine cell text v us) (b : IsLine cell text w vs) where
  parts : (a.bytes ≡ b.bytes) × (us ≡ vs)
  parts =
      let behind_word = append_cancel_left cell.word (32 ∷ (cell.name ++ (32 ∷ (a.bytes ++ (10 ∷ us))))) (32 ∷ (cell.name ++ (32 ∷ (b.bytes ++ (10 ∷ vs))))) (sym a.is ∙ b.is) in
      let behind_name = append_cancel_left cell.name (32 ∷ (a.bytes ++ (10 ∷ us))) (32 ∷ (b.bytes ++ (10 ∷ vs))) (ap (drop 1) behind_word) in
      cut_once 10 a.bytes b.bytes us vs (number_plain a.bytes a.number.negative a.number.magnitude a.written) (number_plain b.bytes b.number.negative b.number.magnitude b.written) (ap (drop 1) behind_name)

  again : IsNumber a.bytes b.number.negative b.number.magnitude
  again = subst (λ s. IsNumber s b.number.negative b.number.magnitude) (sym parts.0) b.written

  same_integer : (m n : Number) → m.negative ≡ n.negative → m.magnitude ≡ n.magnitude → integer_of_number m ≡ integer_of_number n
  same_integer m n e f = ap₂ (λ s k. integer_of_number (record { negative = s; magnitude = k })) e f

  pub line_once : (v ≡ w) × (us ≡ vs)
  line_once = (
    sym a.value ∙ (same_integer a.number b.number (sign_once a.bytes a.number.negative b.number.negative a.number.magnitude b.number.magnitude a.written again)
        (number_once a.bytes a.number.negative b.number.negative a.number.magnitude b.number.magnitude a.written again) ∙ b.value),
    parts.1,
  )

lines_once : (cells : List Cell) (text other : List ℕ) (values more : List ℤ) → text ≡ other → AreLines cells text values → AreLines cells other more → values ≡ more
lines_once [] text other [] [] e a b = refl
lines_once [] text other [] (w ∷ ws) e a b = absurd b
lines_once [] text other (v ∷ vs) more e a b = absurd a
lines_once (c ∷ cs) text other [] more e a b = absurd a
lines_once (c ∷ cs) text other (v ∷ vs) [] e a b = absurd b
lines_once (c ∷ cs) text other (v ∷ vs) (w ∷ ws) e (us, x, xs) (ts, y, ys) =
    let here = line_once c text v w us ts x (subst (λ t. IsLine c t w ts) (sym e) y) in
    ap₂ (λ z zs. z ∷ zs) here.0 (lines_once cs us ts vs ws here.1 xs ys)

pub state_once : (cells : List Cell) (text : List ℕ) (m n : ℕ) (values more : List ℤ) → IsState cells text m values → IsState cells text n more → (m ≡ n) × (values ≡ more)
state_once cells text m n values more a b =
    let front = append_cancel_left (codes "state ") (a.digits ++ (10 ∷ a.rest)) (b.digits ++ (10 ∷ b.rest)) (sym a.is ∙ b.is) in
    let parts = cut_once 10 a.digits b.digits a.rest b.rest (digits_plain 10 a.digits (omega arith) a.counted.digits) (digits_plain 10 b.digits (omega arith) b.counted.digits) front in
    (a.counted.value ∙ (ap (value_of_digits Decimal) parts.0 ∙ sym b.counted.value), lines_once cells a.rest b.rest values more parts.1 a.lines b.lines)
