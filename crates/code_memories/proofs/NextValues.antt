-- The value, the kind and the width of a register's next expression.
use Rattle.std.proofs.Common.{◌≡◌, ℕ, ◌==◌, ◌&&◌, Bool, true, false, List, [], ◌∷◌, map, slice_get, Option, Some, None, option_map, option_and_then, ℤ, refl, sym, subst, ap, ap₂, ◌∙◌, if◌then◌else◌, arith}
use Rattle.std.proofs.lemmas.Grind.{common_steps}
use Rattle.bit_words.specs.declared.value.Kind.{Kind}
use Rattle.bit_words.specs.declared.value.Kind.TheVariants.{Unsigned, Signed}
use Rattle.bit_words.specs.declared.value.Value.{Value}
use Rattle.bit_words.specs.Values.{integer_of}
use Rattle.prim_ops.specs.Values.{is_one}
use Rattle.ground_net.specs.declared.ground.Ground.{Ground}
use Rattle.ground_net.specs.declared.ground.Ground.TheVariants.{Leaf, Mux}
use Rattle.ground_net.specs.declared.net.Net.{Net}
use Rattle.ground_net.specs.declared.net.NetReset.{NetReset}
use Rattle.ground_net.specs.declared.net.NetRegister.{NetRegister}
use Rattle.ground_net.specs.Grounds.{Instant, value}
use Rattle.ground_net.specs.Reads.{driver_of}
use Rattle.ground_net.proofs.Layers.{value-Leaf, value-Mux}
use Rattle.ground_net.specs.Shapes.{Shape, shaped, Table, shape, all_of, shape_of_choice, same_kind, same_shape, is_unsigned}
use Rattle.ground_net.specs.Cycles.{driven_or, after_reset, next_of_register}
use Rattle.ground_net.specs.Nets.{IsNet, table_of, leaf_shape}
use Rattle.ground_net.proofs.Shaping.{shape-Leaf, shape-Mux}
use Rattle.code_memories.specs.Nexts.{driven_ground, reset_ground, next_ground}

-- values

driven_value : (x : ℕ) (o : Option Ground) (instant : Instant) (held : ℤ) → integer_of (instant.leaf x) ≡ held → integer_of (value (driven_ground x o) instant) ≡ driven_or held instant o
driven_value x (Some g) instant held e = refl
driven_value x None instant held e = ap integer_of (value-Leaf x instant) ∙ e

reset_value : (o : Option NetReset) (g : Ground) (instant : Instant) (driven : ℤ) → integer_of (value g instant) ≡ driven → integer_of (value (reset_ground o g) instant) ≡ after_reset driven instant o
reset_value None g instant driven e = e
reset_value (Some r) g instant driven e = ap integer_of (value-Mux (r.reset ∷ r.init ∷ g ∷ []) instant) ∙ by_test (is_one (value r.reset instant))
  where
    by_test : (b : Bool) → integer_of (if b then value r.init instant else value g instant) ≡ (if b then integer_of (value r.init instant) else driven)
    by_test true = refl
    by_test false = e

pub next_value : (net : Net) (register : NetRegister) (instant : Instant) (held : ℤ) → integer_of (instant.leaf register.leaf) ≡ held
    → integer_of (value (next_ground register (driver_of net register.leaf)) instant) ≡ next_of_register net instant (Some register) held
next_value net register instant held e =
    let x = register.leaf in
    reset_value register.reset (driven_ground x (driver_of net x)) instant (driven_or held instant (driver_of net x)) (driven_value x (driver_of net x) instant held e)

-- kinds and widths

same_itself : (s : Shape) → same_shape s s ≡ true
same_itself s = ap₂ (λ a b. a && b) (kind_itself s.kind) (number_itself s.width)
  where
    kind_itself : (k : Kind) → same_kind k k ≡ true
    kind_itself Unsigned = refl
    kind_itself Signed = refl

    number_itself : (n : ℕ) → (n == n) ≡ true
    number_itself n = grind (arith, common_steps)

choice_of_three : (table : Table) (c v g : Ground) (w : ℕ) (s : Shape) → shape c table ≡ Some (shaped Unsigned w) → shape v table ≡ Some s → shape g table ≡ Some s → shape (Mux (c ∷ v ∷ g ∷ [])) table ≡ Some s
choice_of_three table c v g w s e f h =
    shape-Mux (c ∷ v ∷ g ∷ []) table
    ∙ (ap (λ a. option_and_then shape_of_choice (all_of (a ∷ shape v table ∷ shape g table ∷ []))) e
    ∙ (ap₂ (λ a b. option_and_then shape_of_choice (all_of (Some (shaped Unsigned w) ∷ a ∷ b ∷ []))) f h
    ∙ ap (λ t. if t then Some s else None) (same_itself s)))

reset_shape : (table : Table) (o : Option NetReset) (g : Ground) (s : Shape)
    → ((r : NetReset) → o ≡ Some r → ((w : ℕ) × (shape r.reset table ≡ Some (shaped Unsigned w))) × (shape r.init table ≡ Some s)) → shape g table ≡ Some s → shape (reset_ground o g) table ≡ Some s
reset_shape table None g s resets e = e
reset_shape table (Some r) g s resets e = let h = resets r refl in choice_of_three table r.reset r.init g h.0.0 s h.0.1 h.1 e

driven_shape : (table : Table) (x : ℕ) (o : Option Ground) (s : Shape) → table.leaf x ≡ Some s → ((g : Ground) → o ≡ Some g → shape g table ≡ Some s) → shape (driven_ground x o) table ≡ Some s
driven_shape table x (Some g) s at drivers = drivers g refl
driven_shape table x None s at drivers = shape-Leaf x table ∙ at

pub next_shape : (net : Net) (register : NetRegister) (n : ℕ) → IsNet net → slice_get net.registers n ≡ Some register
    → shape (next_ground register (driver_of net register.leaf)) (table_of net) ≡ (table_of net).leaf register.leaf
next_shape net register n w e =
    let table = table_of net in
    let role = w.register_leaves n register e in
    let x = register.leaf in
    let at : table.leaf x ≡ Some (leaf_shape role.leaf) = ap (option_map leaf_shape) role.there in
    reset_shape table register.reset (driven_ground x (driver_of net x)) (leaf_shape role.leaf)
    (λ r f. let h = w.resets n register r e f in (h.0, h.1 ∙ at))
    (driven_shape table x (driver_of net x) (leaf_shape role.leaf) at (λ g f. w.shapes x role.leaf g role.there f)) ∙ sym at
