-- The components that are known, as the bodies keep them.
use Rattle.std.proofs.Common.{◌≡◌, ℕ, List, [], ◌∷◌, ◌++◌, refl, sym, ap, ◌∙◌, subst, nat_eq, if◌then◌else◌, Bool, true, false, true≢false}
use Rattle.std.specs.Prelude.{Option, Some, None, is_some, option_map, IfSome}
use Rattle.std.specs.Map.{lookup}
use Rattle.std.proofs.lemmas.List.{map-append}
use Rattle.std.proofs.lemmas.List.Elements.{All-nil, All-push}
use Rattle.std.proofs.lemmas.Map.Entries.{All-lookup}
use Rattle.std.proofs.lemmas.Map.Made.{lookup-map_values}
use Rattle.fir_types.specs.declared.fir_type.FirType.{FirType}
use Rattle.fir_tree.specs.declared.circuit.Module.{Module}
use Rattle.fir_tree.specs.LeafNames.{Texts}
use Rattle.std.proofs.Math.Logic.{∥∥₁_elim}
use Rattle.std.proofs.Math.Nat.{ℕ_set}
use Rattle.type_index.specs.declared.tree.TypeIndex.{TypeIndex}
use Rattle.type_index.specs.Knowing.{HasWays}
use Rattle.type_index.proofs.Parts.{self}
use Rattle.size_check.specs.declared.component.Component.{Component}
use Rattle.module_table.specs.Tables.{with_new, bundle_of}
use Rattle.size_check.specs.Kept.{types_of, IsMeasured, AreMeasured}
use Rattle.size_check.specs.Caps.{cap}
use Rattle.fir_tree.specs.Texts.{way_bytes}
use Rattle.size_check.specs.Typings.{typing, type_or_none, known_with, instance_type}
use Rattle.size_check.specs.Weights.{no_type}

abbrev pub kept_typ : Component → FirType
kept_typ c = c.known.typ

found_typ : (es : List (ℕ × Component)) (id : ℕ) (found : Option Component) → lookup (nat_eq id) es ≡ found → lookup (nat_eq id) (types_of es) ≡ option_map kept_typ found
found_typ es id found h = lookup-map_values kept_typ (nat_eq id) es ∙ ap (option_map kept_typ) h

pub kept_found : (es : List (ℕ × Component)) (id : ℕ) (found : Option Component) → lookup (nat_eq id) es ≡ found → typing (types_of es) id ≡ type_or_none (option_map kept_typ found)
kept_found es id found h = ap type_or_none (found_typ es id found h)

pub kept_new : (es : List (ℕ × Component)) (id : ℕ) (c : Component) → types_of (with_new es id c) ≡ known_with (types_of es) id c.known.typ
kept_new es id c =
    by (lookup (nat_eq id) es)
    ∙ sym (ap (λ (o : Option FirType). if is_some o then types_of es else types_of es ++ (id, c.known.typ) ∷ []) (found_typ es id (lookup (nat_eq id) es) refl))
  where
    by : (o : Option Component) → types_of (if is_some o then es else es ++ (id, c) ∷ []) ≡ (if is_some (option_map kept_typ o) then types_of es else types_of es ++ (id, c.known.typ) ∷ [])
    by (Some k) = refl
    by None = map-append (λ (x : ℕ × Component). (x.0, x.1.known.typ)) es ((id, c) ∷ [])

-- an instance of the first module of a name

pub instance_found : (target : Option Module) (bundle : FirType) → ◌≡◌ {A = Option FirType} (Some bundle) (option_map bundle_of target) → bundle ≡ instance_type target
instance_found (Some m) bundle h = cc
instance_found None bundle h = absurd (true≢false (ap is_some h))

pub no_instance : (target : Option Module) → ◌≡◌ {A = Option FirType} None (option_map bundle_of target) → no_type ≡ instance_type target
no_instance (Some m) h = absurd (true≢false (sym (ap is_some h)))
no_instance None h = refl

-- the bytes of the ways to a component's leaves

pub measured_found : (texts : Texts) (es : List (ℕ × Component)) (id : ℕ) (c : Component) → lookup (nat_eq id) es ≡ Some c → AreMeasured texts es → IsMeasured texts c
measured_found texts es id c h all = subst (λ o. IfSome o (IsMeasured texts)) h (All-lookup (IsMeasured texts) (nat_eq id) es all)

pub measured_new : (texts : Texts) (es : List (ℕ × Component)) (id : ℕ) (c : Component) → IsMeasured texts c → AreMeasured texts es → AreMeasured texts (with_new es id c)
measured_new texts es id c h all = by (is_some (lookup (nat_eq id) es))
  where
    by : (there : Bool) → AreMeasured texts (if there then es else es ++ (id, c) ∷ [])
    by true = all
    by false = All-push (λ e. IsMeasured texts e.1) es (id, c) all h

pub none_measured : (texts : Texts) (es : List (ℕ × Component)) → es ≡ [] → AreMeasured texts es
none_measured texts es h = subst (AreMeasured texts) (sym h) (All-nil (λ e. IsMeasured texts e.1))

pub part_measured : (texts : Texts) (es : List (ℕ × Component)) (id : ℕ) (c : Component) → lookup (nat_eq id) es ≡ Some c → AreMeasured texts es
    → ∥ HasWays texts c.known.typ c.known.index ∥₁
part_measured texts es id c found all = measured_found texts es id c found all

-- the bytes of a part
pub bytes_of : (texts : Texts) (typ : FirType) (index : TypeIndex) → ∥ HasWays texts typ index ∥₁ → index.bytes ≡ cap (way_bytes texts typ)
bytes_of texts typ index k = ∥∥₁_elim k (ℕ_set index.bytes (cap (way_bytes texts typ))) (λ m. self m)
