-- What the heads of items declare.
use Rattle.std.proofs.Common.{◌≡◌, ℕ, zero, suc, ◌+◌, ◌*◌, List, [], ◌∷◌, ◌++◌, map, drop, length, Some, refl, sym, ap, ap₂, ◌∙◌, subst, arith}
use Rattle.std.specs.Prelude.{slice_get}
use Rattle.std.proofs.lemmas.Grind.{common_steps}
use Rattle.std.proofs.lemmas.Option.{none-some}
use Rattle.place_text.specs.declared.place.Place.{Place}
use Rattle.fir_types.specs.declared.name.Name.{Name}
use Rattle.fir_types.specs.declared.fir_type.FirType.{FirType}
use Rattle.fir_tree.specs.declared.expr.Expr.{Expr}
use Rattle.fir_tree.specs.declared.stmt.Stmt.{Stmt, the_lemmas as stmt_lemmas}
use Rattle.fir_tree.specs.declared.stmt.Stmt.TheVariants as stmt
use Rattle.item_lines.specs.Items.{wire_name, number_in, name_at, with_name, one_bit, zero_bit, component, heads}
use Rattle.fir_meaning.specs.Components.{Declaration, A_wire, told, one, declared_from}
use Rattle.item_laws.proofs.Numbers.{has_added, Grows, grows_twice, number_grown}
use Rattle.item_laws.proofs.Growing.{heads_grown}

pub heads_counted : (k : ℕ) (places : List Place) (names : List (List ℕ)) → length (heads k places names).0 ≡ 2 * length places
heads_counted k [] names = refl
heads_counted k (at ∷ places) names = let later = heads_counted (k + 1) places (with_name names (wire_name k)) in omega (arith, later)

pub drop_front : {A : Type 0} (xs ys : List A) (n : ℕ) → length xs ≡ n → drop n (xs ++ ys) ≡ ys
drop_front [] ys zero e = refl
drop_front [] ys (suc n) e = absurd (omega (arith, e))
drop_front (x ∷ xs) ys zero e = absurd (omega (arith, e))
drop_front (x ∷ xs) ys (suc n) e = drop_front xs ys n (omega (arith, e))

tells-wire : (name : Name) (typ : FirType) (block behind : List Stmt) → (told (stmt.Wire name typ)).declares block behind ≡ one name A_wire block behind
tells-wire name typ block behind = grind (arith, common_steps, stmt_lemmas)

tells-connect : (left right : Expr) (block behind : List Stmt) → (told (stmt.Connect left right)).declares block behind ≡ []
tells-connect left right block behind = grind (arith, common_steps, stmt_lemmas)

-- a declaration of the wire of this name
pub record IsWire (block : List Stmt) (name : ℕ) (d : Declaration) : Type 0 where
  pub named : d.name ≡ name
  pub sort : d.sort ≡ A_wire
  pub block_is : d.block ≡ block

module _ (k : ℕ) (place : Place) (places : List Place) (names : List (List ℕ)) (block rest : List Stmt) where
  abbrev more : List (List ℕ)
  more = with_name names (wire_name k)

  abbrev behind : List Stmt
  behind = (heads (k + 1) places more).0 ++ rest

  abbrev wire : Name
  wire = name_at more (wire_name k) place

  abbrev first : List Declaration
  first = one wire A_wire block (map (λ t. t.itself) (map told (stmt.Connect (component wire) (zero_bit place) ∷ behind)))

  head_declares : declared_from block (map told ((heads k (place ∷ places) names).0 ++ rest)) ≡ first ++ declared_from block (map told behind)
  head_declares = ap₂ (λ (xs ys : List Declaration). xs ++ (ys ++ declared_from block (map told behind)))
      (tells-wire wire (one_bit place) block (map (λ t. t.itself) (map told (stmt.Connect (component wire) (zero_bit place) ∷ behind))))
      (tells-connect (component wire) (zero_bit place) block (map (λ t. t.itself) (map told behind)))

-- The heads declare the wires of the items first, in order.
pub wire_declared : (final : List (List ℕ)) (k j : ℕ) (places : List Place) (names : List (List ℕ)) (at : Place) (block rest : List Stmt) → slice_get places j ≡ Some at → Grows (heads k places names).1 final
    → (d : Declaration) × (slice_get (declared_from block (map told ((heads k places names).0 ++ rest))) j ≡ Some d) × IsWire block (number_in final (wire_name (k + j))) d
wire_declared final k j [] names at block rest here g = absurd (none-some at here)
wire_declared final k zero (place ∷ places) names at block rest here g =
    let more : List (List ℕ) = with_name names (wire_name k) in
    let same : k ≡ k + 0 = omega arith in
    let grown : Grows more final = grows_twice (heads_grown (k + 1) places more) g in (
      _,
      ap (λ (l : List Declaration). slice_get l 0) (head_declares k place places names block rest),
      record {
        named = sym (number_grown (wire_name k) grown (has_added names (wire_name k))) ∙ ap (λ (n : ℕ). number_in final (wire_name n)) same;
        sort = refl;
        block_is = refl;
      },
    )
wire_declared final k (suc j) (place ∷ places) names at block rest here g =
    let moved : k + 1 + j ≡ k + suc j = omega arith in
    let later = wire_declared final (k + 1) j places (with_name names (wire_name k)) at block rest here g in
    (later.0, ap (λ (l : List Declaration). slice_get l (suc j)) (head_declares k place places names block rest) ∙ later.1, subst (λ (n : ℕ). IsWire block (number_in final (wire_name n)) later.0) moved later.2)
