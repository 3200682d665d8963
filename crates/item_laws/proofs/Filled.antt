-- The types of a module's components: wires of items have one bit, and the node of an argument has one leaf.
use Rattle.std.proofs.Common.{◌≡◌, ℕ, zero, suc, ◌+◌, false, List, [], ◌∷◌, ◌++◌, map, zip, drop, length, Option, Some, None, ap, ◌∙◌, subst, arith}
use Rattle.std.specs.Prelude.{slice_get, flat_map}
use Rattle.std.specs.List.{AllZip}
use Rattle.std.proofs.lemmas.Grind.{common_steps}
use Rattle.std.proofs.lemmas.Option.{none-some, same_Some, slice_get_within}
use Rattle.place_text.specs.declared.place.Place.{Place}
use Rattle.bit_words.specs.declared.value.Kind.{Kind}
use Rattle.bit_words.specs.declared.value.Kind.TheVariants.{Unsigned, Signed}
use Rattle.fir_types.specs.declared.fir_type.FirType.{FirType, the_lemmas as type_lemmas}
use Rattle.fir_types.specs.declared.fir_type.Shape.TheVariants as shape
use Rattle.fir_types.specs.Leaves.{leaves}
use Rattle.fir_types.specs.Spots.{Spot, one_spot, spots}
use Rattle.prim_ops.specs.declared.operation.PrimOp.TheVariants.{Pad}
use Rattle.prim_ops.specs.declared.widths.Width.{Width}
use Rattle.fir_tree.specs.declared.circuit.Module.{Module}
use Rattle.fir_tree.specs.declared.expr.Expr.{Expr, the_lemmas as expr_lemmas}
use Rattle.fir_tree.specs.Kinds.{ground}
use Rattle.type_check.specs.Parts.{Known}
use Rattle.width_rules.specs.Sources as sources
use Rattle.width_rules.specs.Sources.{measured, operation}
use Rattle.type_filling.specs.Filling.{filled, first_number}
use Rattle.width_fit.specs.Written.{place_widths}
use Rattle.item_lines.specs.Items.{padded}
use Rattle.fir_meaning.specs.Components.{Declaration, Component, TypedModule, declarations_of, with_types}
use Rattle.circuit_laws.specs.Designs.{component_of}
use Rattle.width_laws.specs.Declared.{Typed, KeepsWidth, IsFilled, declared_in, type_of, without_widths}
use Rattle.found_items.proofs.Lists.{item_at, zip_long}
use Rattle.item_laws.proofs.Typing.{IsAlike, IsBit, module_along}

-- lists

pub get_front : {A : Type 0} (xs ys : List A) (k : ℕ) (x : A) → slice_get xs k ≡ Some x → slice_get (xs ++ ys) k ≡ Some x
get_front [] ys k x e = absurd (none-some x e)
get_front (z ∷ xs) ys zero x e = e
get_front (z ∷ xs) ys (suc k) x e = get_front xs ys k x e

pub get_back : {A : Type 0} (xs ys : List A) (n k : ℕ) → length xs ≡ n → slice_get (xs ++ ys) (n + k) ≡ slice_get ys k
get_back [] ys zero k e = let same : 0 + k ≡ k = omega arith in ap (slice_get ys) same
get_back [] ys (suc n) k e = absurd (omega (arith, e))
get_back (x ∷ xs) ys zero k e = absurd (omega (arith, e))
get_back (x ∷ xs) ys (suc n) k e =
    let moved : suc n + k ≡ suc (n + k) = omega arith in
    ap (slice_get (x ∷ (xs ++ ys))) moved ∙ get_back xs ys n k (omega (arith, e))

zip_get : {A B : Type 0} (P : A → B → Type 0) (xs : List A) (ys : List B) (k : ℕ) (x : A) (y : B) → AllZip P xs ys → slice_get xs k ≡ Some x → slice_get ys k ≡ Some y → P x y
zip_get P [] ys k x y all e f = absurd (none-some x e)
zip_get P (a ∷ xs) [] k x y all e f = absurd all
zip_get P (a ∷ xs) (b ∷ ys) zero x y all e f = subst (P x) (same_Some b y f) (subst (λ z. P z b) (same_Some a x e) all.0)
zip_get P (a ∷ xs) (b ∷ ys) (suc k) x y all e f = zip_get P xs ys k x y all.1 e f

zip_behind : {A B : Type 0} (P : A → B → Type 0) (xs us : List A) (ys : List B) (n : ℕ) → length xs ≡ n → AllZip P (xs ++ us) ys → AllZip P us (drop n ys)
zip_behind P [] us ys zero e all = all
zip_behind P [] us ys (suc n) e all = absurd (omega (arith, e))
zip_behind P (x ∷ xs) us ys zero e all = absurd (omega (arith, e))
zip_behind P (x ∷ xs) us [] (suc n) e all = absurd all
zip_behind P (x ∷ xs) us (y ∷ ys) (suc n) e all = zip_behind P xs us ys n (omega (arith, e)) all.1

zipped_at : (ds : List Declaration) (types : List FirType) (k : ℕ) (c : Component) → slice_get (map component_of (zip ds types)) k ≡ Some c
    → (slice_get ds k ≡ Some c.declaration) × (slice_get types k ≡ Some c.typ)
zipped_at [] types k c e = absurd (none-some c e)
zipped_at (d ∷ ds) [] k c e = absurd (none-some c e)
zipped_at (d ∷ ds) (t ∷ types) zero c e =
    let same = same_Some (component_of (d, t)) c e in
    (ap (λ (x : Component). Some x.declaration) same, ap (λ (x : Component). Some x.typ) same)
zipped_at (d ∷ ds) (t ∷ types) (suc k) c e = zipped_at ds types k c e

-- a component with its declared type
pub record IsFilledAt (modules : List Module) (holder : Module) (n : ℕ) (c : Component) : Type 0 where
  pub declared : Typed
  pub here : slice_get (declared_in modules holder []).types n ≡ Some declared
  pub alike : IsAlike declared c.declaration
  pub fills : IsFilled declared c.typ

module _ (modules : List Module) where
  abbrev types_of : Module → List Typed
  types_of m = (declared_in modules m []).types

  -- Component n of module k has the type of declaration n with widths.
  pub component_filled : (rest : List Module) (types : List FirType) (k n : ℕ) (holder : Module) (m : TypedModule) (c : Component) → AllZip (λ (d : Typed) (typ : FirType). IsFilled d typ) (flat_map types_of rest) types
      → slice_get rest k ≡ Some holder → slice_get (with_types rest types) k ≡ Some m → slice_get m.components n ≡ Some c → IsFilledAt modules holder n c
  component_filled [] types k n holder m c all here number at = absurd (none-some holder here)
  component_filled (first ∷ rest) types zero n holder m c all here number at =
      let along = module_along modules first in
      let both = zipped_at (declarations_of first) types n c (ap (λ (x : TypedModule). slice_get x.components n) (same_Some _ m number) ∙ at) in
      let less = slice_get_within (declarations_of first) n c.declaration both.0 in
      let long = zip_long IsAlike (types_of first) (declarations_of first) along in
      let t = item_at (types_of first) n (omega (arith, less, long)) in
      subst (λ (x : Module). IsFilledAt modules x n c) (same_Some first holder here) (record {
        declared = t.0;
        here = t.1;
        alike = zip_get IsAlike (types_of first) (declarations_of first) n t.0 c.declaration along t.1 both.0;
        fills = zip_get (λ (d : Typed) (typ : FirType). IsFilled d typ) (types_of first ++ flat_map types_of rest) types n t.0 c.typ all (get_front (types_of first) (flat_map types_of rest) n t.0 t.1) both.1;
      })
  component_filled (first ∷ rest) types (suc k) n holder m c all here number at =
      let long = zip_long IsAlike (types_of first) (declarations_of first) (module_along modules first) in
      component_filled rest (drop (length (declarations_of first)) types) k n holder m c
      (zip_behind (λ (d : Typed) (typ : FirType). IsFilled d typ) (types_of first) (flat_map types_of rest) types (length (declarations_of first)) long all) here number at

-- types without parts

filled-unsigned : (t : FirType) (w : Option ℕ) → t.shape ≡ shape.Unsigned w → (ws : List Width) → (filled t ws).shape ≡ shape.Unsigned (first_number ws)
filled-unsigned t w h ws = grind (arith, common_steps, type_lemmas)

filled-signed : (t : FirType) (w : Option ℕ) → t.shape ≡ shape.Signed w → (ws : List Width) → (filled t ws).shape ≡ shape.Signed (first_number ws)
filled-signed t w h ws = grind (arith, common_steps, type_lemmas)

spots-unsigned : (t : FirType) (w : Option ℕ) → t.shape ≡ shape.Unsigned w → spots t ≡ one_spot w
spots-unsigned t w e = grind (arith, common_steps, type_lemmas)

leaves-unsigned : (t : FirType) (w : Option ℕ) → t.shape ≡ shape.Unsigned w → leaves t ≡ record { path = []; flip = false; typ = t } ∷ []
leaves-unsigned t w e = grind (arith, common_steps, type_lemmas)

leaves-signed : (t : FirType) (w : Option ℕ) → t.shape ≡ shape.Signed w → leaves t ≡ record { path = []; flip = false; typ = t } ∷ []
leaves-signed t w e = grind (arith, common_steps, type_lemmas)

unsigned_places : (t : FirType) (w : Option ℕ) → t.shape ≡ shape.Unsigned w → place_widths t ≡ w ∷ []
unsigned_places t w e = ap (map (λ (s : Spot). s.width)) (spots-unsigned t w e)

-- A type of one bit that the text writes stays.
pub bit_filled : (t : Typed) (typ : FirType) → IsBit t → IsFilled t typ → typ.shape ≡ shape.Unsigned (Some 1)
bit_filled t typ bit fills =
    let own : t.typ.shape ≡ shape.Unsigned (Some 1) = ap (λ (x : FirType). x.shape) bit.typ in
    let found : typ.shape ≡ shape.Unsigned (first_number fills.widths) = ap (λ (x : FirType). x.shape) fills.filled_is ∙ filled-unsigned t.typ (Some 1) own fills.widths in
    let kept : AllZip KeepsWidth (Some 1 ∷ []) (first_number fills.widths ∷ [])
    = subst (λ os. AllZip KeepsWidth os (first_number fills.widths ∷ [])) (unsigned_places t.typ (Some 1) own)
    (subst (AllZip KeepsWidth (place_widths t.typ)) (unsigned_places typ (first_number fills.widths) found) (fills.kept bit.written)) in
    found ∙ ap shape.Unsigned (kept.0 (omega arith))

measured-padded : (e : Expr) (known : sources.Known) → measured (padded e) known ≡ operation Pad e.place (measured e known ∷ []) (0 ∷ [])
measured-padded e known = grind (arith, common_steps, expr_lemmas)

ground_leaf : (place : Place) (kind : Kind) (typ t : FirType) (ws : List Width) → t ≡ ground place kind None → typ ≡ filled t ws → leaves typ ≡ record { path = []; flip = false; typ = typ } ∷ []
ground_leaf place Unsigned typ t ws e f = leaves-unsigned typ (first_number ws) (ap (λ (x : FirType). x.shape) f ∙ filled-unsigned t None (ap (λ (x : FirType). x.shape) e) ws)
ground_leaf place Signed typ t ws e f = leaves-signed typ (first_number ws) (ap (λ (x : FirType). x.shape) f ∙ filled-signed t None (ap (λ (x : FirType). x.shape) e) ws)

-- The node of an argument has one leaf.
pub node_filled : (t : Typed) (typ : FirType) (e : Expr) (known : Known) → t.typ ≡ type_of known (padded e) → IsFilled t typ → leaves typ ≡ record { path = []; flip = false; typ = typ } ∷ []
node_filled t typ e known is fills =
    ground_leaf e.place _ typ t.typ fills.widths (is ∙ ap (λ (m : sources.Measured). m.part.typ) (measured-padded e (map without_widths known))) fills.filled_is
