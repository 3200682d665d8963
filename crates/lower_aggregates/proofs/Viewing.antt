-- Where the components of a module stand, by their names.
use Rattle.std.proofs.Common.{◌≡◌, ℕ, zero, suc, ◌+◌, Bool, true, false, List, [], ◌∷◌, map, take, length, Option, Some, None, refl, sym, ap, ◌∙◌, arith}
use Rattle.std.specs.Prelude.{cond, nat_eq}
use Rattle.std.specs.Map.{lookup}
use Rattle.std.specs.List.{slice_get, sum_by}
use Rattle.std.proofs.lemmas.Grind.{common_steps}
use Rattle.std.proofs.lemmas.Bool.{eqb-true}
use Rattle.std.proofs.lemmas.List.Sums.{sum_by-cons}
use Rattle.fir_types.specs.Leaves.{leaves}
use Rattle.fir_tree.specs.declared.circuit.Module.{Module}
use Rattle.fir_meaning.specs.Components.{Component, TypedModule, Declaration, declarations_of}
use Rattle.net_of_circuit.specs.Numbers.{leaves_before}
use Rattle.ground_exprs.specs.declared.component.Component.{Component as Known}
use Rattle.ground_exprs.specs.Sources.{Entries}
use Rattle.lower_aggregates.specs.declared.pieces.Piece.{Piece}
use Rattle.lower_aggregates.specs.Parts.{Part, component_parts, parts_of}
use Rattle.lower_aggregates.specs.Held.{held_part}
use Rattle.lower_aggregates.specs.Views.{KnowsPieces, entry_of, AreNamedOnce}

some_same : {A : Type 0} {x y : A} → Some x ≡ Some y → x ≡ y
some_same {A} {x} e = ap (or_first x) e
  where
    or_first : A → Option A → A
    or_first d (Some z) = z
    or_first d None = d

none_some : {A : Type 0} {B : Type 0} {x : A} → None ≡ Some x → B
none_some e = absurd cc

abbrev entry_by : Part → ℕ × Known
entry_by p = (p.name, record { typ = p.typ; first = p.first })

entries_are : (pieces : List Piece) → map entry_of pieces ≡ map entry_by (map held_part pieces)
entries_are [] = refl
entries_are (p ∷ ps) = ap (λ l. entry_of p ∷ l) (entries_are ps)

abbrev size : Component → ℕ
size c = length (leaves c.typ)

tail_once : (c : Component) (cs : List Component) → AreNamedOnce (c ∷ cs) → AreNamedOnce cs
tail_once c cs h j k x y e f g = let r = h (suc j) (suc k) x y e f g in omega (arith, r)

same_name : (n : ℕ) → nat_eq n n ≡ true
same_name n = grind (arith, common_steps)

known_at : (b : ℕ) (cs : List Component) → AreNamedOnce cs → (k : ℕ) (c : Component) → slice_get cs k ≡ Some c
    → lookup (nat_eq c.declaration.name) (map entry_by (component_parts b cs)) ≡ Some (record { typ = c.typ; first = b + sum_by size (take k cs) })
known_at b [] once k c e = none_some e
known_at b (d ∷ cs) once zero c e =
    let same : d ≡ c = some_same e in
    let n : nat_eq c.declaration.name d.declaration.name ≡ true = ap (λ (x : Component). nat_eq c.declaration.name x.declaration.name) same ∙ same_name c.declaration.name in
    let z : b ≡ b + sum_by size [] = grind (arith, common_steps) in
    ap (λ t. cond t (Some (record { typ = d.typ; first = b })) (lookup (nat_eq c.declaration.name) (map entry_by (component_parts (b + length (leaves d.typ)) cs)))) n
    ∙ ap (λ (x : Component). Some (record { typ = x.typ; first = b })) same ∙ ap (λ f. Some (record { typ = c.typ; first = f })) z
known_at b (d ∷ cs) once (suc k) c e = by (nat_eq c.declaration.name d.declaration.name) refl (known_at (b + length (leaves d.typ)) cs (tail_once d cs once) k c e)
  where
    by : (t : Bool) → nat_eq c.declaration.name d.declaration.name ≡ t
        → lookup (nat_eq c.declaration.name) (map entry_by (component_parts (b + length (leaves d.typ)) cs)) ≡ Some (record { typ = c.typ; first = b + length (leaves d.typ) + sum_by size (take k cs) })
        → cond t (Some (record { typ = d.typ; first = b })) (lookup (nat_eq c.declaration.name) (map entry_by (component_parts (b + length (leaves d.typ)) cs))) ≡ Some (record { typ = c.typ; first = b + sum_by size (take (suc k) (d ∷ cs)) })
    by true q r = let z = once (suc k) 0 c d e refl (eqb-true c.declaration.name d.declaration.name q) in absurd (omega (arith, z))
    by false q r =
        let s : sum_by size (take (suc k) (d ∷ cs)) ≡ length (leaves d.typ) + sum_by size (take k cs) = sum_by-cons size d (take k cs) in
        let z : b + length (leaves d.typ) + sum_by size (take k cs) ≡ b + sum_by size (take (suc k) (d ∷ cs)) = omega (arith, s) in
        r ∙ ap (λ f. Some (record { typ = c.typ; first = f })) z

known_from : (b : ℕ) (cs : List Component) (name : ℕ) (e : Known) → lookup (nat_eq name) (map entry_by (component_parts b cs)) ≡ Some e → (k : ℕ) × (c : Component) × (slice_get cs k ≡ Some c) × (c.declaration.name ≡ name)
known_from b [] name e h = none_some h
known_from b (d ∷ cs) name e h = by (nat_eq name d.declaration.name) refl h (λ g. known_from (b + length (leaves d.typ)) cs name e g)
  where
    by : (t : Bool) → nat_eq name d.declaration.name ≡ t → cond t (Some (record { typ = d.typ; first = b })) (lookup (nat_eq name) (map entry_by (component_parts (b + length (leaves d.typ)) cs))) ≡ Some e
        → (lookup (nat_eq name) (map entry_by (component_parts (b + length (leaves d.typ)) cs)) ≡ Some e → (k : ℕ) × (c : Component) × (slice_get cs k ≡ Some c) × (c.declaration.name ≡ name))
        → (k : ℕ) × (c : Component) × (slice_get (d ∷ cs) k ≡ Some c) × (c.declaration.name ≡ name)
    by true q g onward = (0, d, refl, sym (eqb-true name d.declaration.name q))
    by false q g onward = let r = onward g in (suc r.0, r.1, r.2, r.3)

module _ (m : TypedModule) (pieces : List Piece) (entries : Entries) (are : map held_part pieces ≡ parts_of m) (knows : KnowsPieces pieces entries) where
  same_lookup : (name : ℕ) → lookup (nat_eq name) entries ≡ lookup (nat_eq name) (map entry_by (parts_of m))
  same_lookup name = knows name ∙ ap (lookup (nat_eq name)) (entries_are pieces ∙ ap (map entry_by) are)

  -- Each component is known by its name, with its type and its first number.
  pub component_known : AreNamedOnce m.components → (k : ℕ) (c : Component) → slice_get m.components k ≡ Some c
      → (e : Known) × (lookup (nat_eq c.declaration.name) entries ≡ Some e) × (e.typ ≡ c.typ) × (e.first ≡ leaves_before m k)
  component_known once k c e = (
    record { typ = c.typ; first = 0 + sum_by size (take k m.components) },
    same_lookup c.declaration.name ∙ known_at 0 m.components once k c e,
    refl,
    omega arith,
  )

  -- What is known is a component.
  pub known_component : (name : ℕ) (e : Known) → lookup (nat_eq name) entries ≡ Some e → (k : ℕ) × (c : Component) × (slice_get m.components k ≡ Some c) × (c.declaration.name ≡ name)
  known_component name e h = known_from 0 m.components name e (sym (same_lookup name) ∙ h)

from_some : {A B : Type 0} (h : A → B) (xs : List A) (k : ℕ) (x : A) → slice_get xs k ≡ Some x → slice_get (map h xs) k ≡ Some (h x)
from_some h [] k x e = none_some e
from_some h (a ∷ xs) zero x e = ap Some (ap h (some_same e))
from_some h (a ∷ xs) (suc k) x e = from_some h xs k x e

-- where no two declarations have one name, no two components have
pub named_once : (holder : Module) (m : TypedModule) → map (λ c. c.declaration) m.components ≡ declarations_of holder
    → ((j k : ℕ) (d e : Declaration) → slice_get (declarations_of holder) j ≡ Some d → slice_get (declarations_of holder) k ≡ Some e → d.name ≡ e.name → j ≡ k) → AreNamedOnce m.components
named_once holder m e once j k c d f g n =
    once j k c.declaration d.declaration (ap (λ l. slice_get l j) (sym e) ∙ from_some (λ (x : Component). x.declaration) m.components j c f)
    (ap (λ l. slice_get l k) (sym e) ∙ from_some (λ (x : Component). x.declaration) m.components k d g) n
