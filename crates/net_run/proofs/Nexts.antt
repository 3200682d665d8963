-- What the registers hold next.
use Rattle.std.proofs.Common.{◌≡◌, ℕ, ◌+◌, ℤ, Bool, true, false, List, [], ◌∷◌, ◌++◌, refl, sym, ap, ◌∙◌, arith, subst, slice_get, length, if◌then◌else◌, Option, Some, None, IsSome, option_map, ⊎_elim}
use Rattle.std.specs.Prelude.{unsigned_abs}
use Rattle.std.proofs.lemmas.Bool.{cases_lt}
use Rattle.std.proofs.lemmas.List.{length-append}
use Rattle.std.proofs.lemmas.Option.{get_or_from_slice_get, slice_get_within}
use Rattle.bit_words.specs.declared.value.Value.{Value}
use Rattle.bit_words.specs.Values.{integer_of}
use Rattle.prim_ops.specs.Values.{fitted, lone, is_one}
use Rattle.prim_ops.proofs.Fittings.{refitted}
use Rattle.ground_net.specs.declared.net.Net.{Net}
use Rattle.ground_net.specs.declared.net.Leaf.{Leaf}
use Rattle.ground_net.specs.declared.net.NetRegister.{NetRegister}
use Rattle.ground_net.specs.declared.net.NetReset.{NetReset}
use Rattle.ground_net.specs.declared.ground.Ground.{Ground}
use Rattle.ground_net.specs.Grounds.{Instant, value}
use Rattle.ground_net.specs.Reads.{driver_of}
use Rattle.ground_net.proofs.Layers.{value_agrees}
use Rattle.ground_net.specs.Shapes.{Shape, shape}
use Rattle.ground_net.specs.Nets.{IsNet, table_of, leaf_shape}
use Rattle.ground_net.specs.Cycles.{NetState, instant_of, fitted_to, next, next_of_register, after_reset, driven_or}
use Rattle.ground_net.proofs.Shaping.{shapes_hold}
use Rattle.net_run.specs.declared.kept.Kept.{Kept}
use Rattle.net_run.specs.Seeing.{AreSeen, seen, value_at}
use Rattle.net_run.specs.Keeping.{IsKept}
use Rattle.net_run.specs.Advancing.{AreNext, AreRegisters, driven_value, reset_value, next_value}
use Rattle.net_run.proofs.Steps.{load_same}
use Rattle.net_run.proofs.Zeros.{get_left, get_right}

some_same : {A : Type 0} {x y : A} → Some x ≡ Some y → x ≡ y
some_same e = cc

pub next_more : (net : Net) (instant : Instant) (held : List Value) (n : ℕ) (register : NetRegister) (values after : List Value) (v : Value) → AreNext net instant held n values → slice_get net.registers n ≡ Some register
    → v ≡ next_value net instant register (value_at held n) → after ≡ values ++ v ∷ [] → AreNext net instant held (n + 1) after
next_more net instant held n register values after v d there is e =
    let counted = d.counted in
    subst (AreNext net instant held (n + 1)) (sym e) (record {
      counted = length-append values (v ∷ []) ∙ ap (λ a. a + 1) counted;
      each = λ m other less at. ⊎_elim
          (λ old. get_left values (v ∷ []) m (next_value net instant other (value_at held m)) (d.each m other old at))
          (λ most.
          let same : m ≡ n = omega (arith, less, most) in
          let first : m ≡ length values + 0 = omega (arith, same, counted) in
          let other_is : register ≡ other = some_same (sym there ∙ (ap (slice_get net.registers) (sym same) ∙ at)) in
          get_right values (v ∷ []) m 0 first ∙ ap Some (is ∙ (ap (λ r. next_value net instant r (value_at held n)) other_is ∙ ap (λ i. next_value net instant other (value_at held i)) (sym same))))
          (cases_lt m n);
    })

-- the drivers and the resets of registers are in order
pub driver_fine : (net : Net) → IsNet net → (n : ℕ) (register : NetRegister) → slice_get net.registers n ≡ Some register → (driver : Ground) → driver_of net register.leaf ≡ Some driver → IsSome (shape driver (table_of net))
driver_fine net fine n register there driver e =
    let at = fine.register_leaves n register there in
    subst (λ o. IsSome o) (sym (fine.shapes register.leaf at.leaf driver at.there e)) refl

pub reset_fine : (net : Net) → IsNet net → (n : ℕ) (register : NetRegister) → slice_get net.registers n ≡ Some register → (r : NetReset) → register.reset ≡ Some r → IsSome (shape r.reset (table_of net))
reset_fine net fine n register there r e =
    let both = fine.resets n register r there e in
    subst (λ o. IsSome o) (sym both.0.1) refl

pub init_fine : (net : Net) → IsNet net → (n : ℕ) (register : NetRegister) → slice_get net.registers n ≡ Some register → (r : NetReset) → register.reset ≡ Some r → IsSome (shape r.init (table_of net))
init_fine net fine n register there r e =
    let both = fine.resets n register r there e in
    let at = fine.register_leaves n register there in
    subst (λ o. IsSome o) (sym (both.1 ∙ ap (λ (o : Option Leaf). option_map leaf_shape o) at.there)) refl

module _ (net : Net) (s : NetState) (kept : Kept) (k : IsKept net s kept) (fine : IsNet net) (values : List Value) (shown : AreSeen net values kept.contents) where
  abbrev here : Instant
  here = seen net values kept.contents

  abbrev there : Instant
  there = instant_of net s (value_at values)

  sees : (g : Ground) → value g here ≡ value g there
  sees g = value_agrees here there (λ m j address. load_same net s kept k m j (unsigned_abs (integer_of address))) g (λ y c. refl)

  fits : (leaf : Leaf) (g : Ground) → shape g (table_of net) ≡ Some (leaf_shape leaf) → value g here ≡ fitted_to leaf (integer_of (value g there))
  fits leaf g e =
      let t = shapes_hold (table_of net) here shown g (leaf_shape leaf) e in
      sym (refitted (value g here)) ∙ (ap (λ (t : Shape). fitted t.kind t.width (integer_of (value g here))) t ∙ ap (λ v. fitted_to leaf (integer_of v)) (sees g))

  drives : (leaf : Leaf) (held : Value) (i : ℤ) → held ≡ fitted_to leaf i → (o : Option Ground) → ((g : Ground) → o ≡ Some g → shape g (table_of net) ≡ Some (leaf_shape leaf))
      → driven_value held here o ≡ fitted_to leaf (driven_or i there o)
  drives leaf held i e (Some g) h = fits leaf g (h g refl)
  drives leaf held i e None h = e

  resets : (leaf : Leaf) (d : Value) (i : ℤ) → d ≡ fitted_to leaf i → (o : Option NetReset) → ((r : NetReset) → o ≡ Some r → shape r.init (table_of net) ≡ Some (leaf_shape leaf))
      → reset_value d here o ≡ fitted_to leaf (after_reset i there o)
  resets leaf d i e (Some r) h =
      ap (λ v. if is_one v then value r.init here else d) (sees r.reset) ∙ by_test (is_one (value r.reset there)) (fits leaf r.init (h r refl))
    where
      by_test : (b : Bool) → value r.init here ≡ fitted_to leaf (integer_of (value r.init there)) → (if b then value r.init here else d) ≡ fitted_to leaf (if b then integer_of (value r.init there) else i)
      by_test true f = f
      by_test false f = e
  resets leaf d i e None h = e

  pub registers_next : (registers : List Value) → AreNext net here kept.registers (length net.registers) registers → AreRegisters net (next net s there) registers
  registers_next registers d = λ n register leaf at shows.
      let within = slice_get_within net.registers n register at in
      let held = get_or_from_slice_get kept.registers n (fitted_to leaf (s.registers n)) (lone []) (k.registers n register leaf at shows) in
      let drove = drives leaf (value_at kept.registers n) (s.registers n) held (driver_of net register.leaf) (λ g e. fine.shapes register.leaf leaf g shows e) in
      let reset = resets leaf (driven_value (value_at kept.registers n) here (driver_of net register.leaf)) (driven_or (s.registers n) there (driver_of net register.leaf)) drove register.reset
      (λ r e. (fine.resets n register r at e).1 ∙ ap (λ (o : Option Leaf). option_map leaf_shape o) shows) in
      d.each n register within at ∙ ap Some (reset ∙ ap (λ o. fitted_to leaf (next_of_register net there o (s.registers n))) (sym at))
