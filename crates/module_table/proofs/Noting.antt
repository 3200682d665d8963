-- The known components as parts, and the numbers of their classes.
use Rattle.std.proofs.Common.{◌≡◌, ℕ, Bool, true, false, List, [], ◌∷◌, ◌++◌, refl, sym, ap, ◌∙◌, subst, nat_eq, if◌then◌else◌, ◌⊎◌, inl, inr}
use Rattle.std.specs.Prelude.{Option, Some, None, is_some, option_map, cond, IfSome}
use Rattle.std.specs.Map.{lookup}
use Rattle.std.proofs.lemmas.List.{map-append}
use Rattle.std.proofs.lemmas.Map.Made.{lookup-map_values}
use Rattle.fir_types.specs.declared.fir_type.FirType.{FirType}
use Rattle.fir_tree.specs.declared.circuit.Module.{Module}
use Rattle.fir_tree.specs.declared.part.Part.{Part}
use Rattle.fir_tree.specs.Parts.{source_of, instance_part}
use Rattle.std.proofs.Math.Logic.{∥∥₁_map}
use Rattle.fir_tree.specs.LeafNames.{Texts}
use Rattle.type_index.specs.Numbers.{Table, HasNumber}
use Rattle.module_table.specs.declared.components.Noted.{Noted}
use Rattle.module_table.specs.declared.modules.Instance.{Instance}
use Rattle.module_table.specs.Components.{Parts, Environment, part_noted, parts_of, with_part, HasClass, AreClassed}
use Rattle.module_table.specs.Tables.{with_new, bundle_of, instance_typ, IsInstance}

noted_found : (es : List (ℕ × Noted)) (name : ℕ) → lookup (nat_eq name) (parts_of es) ≡ option_map part_noted (lookup (nat_eq name) es)
noted_found es name = lookup-map_values part_noted (nat_eq name) es

pub found_part : (es : List (ℕ × Noted)) (name : ℕ) (found : Option Noted) → lookup (nat_eq name) es ≡ found → option_map part_noted found ≡ lookup (nat_eq name) (parts_of es)
found_part es name found h = sym (noted_found es name ∙ ap (option_map part_noted) h)

pub parts_noted : (es : List (ℕ × Noted)) (name : ℕ) (n : Noted) → parts_of (with_new es name n) ≡ with_new (parts_of es) name (part_noted n)
parts_noted es name n = by (lookup (nat_eq name) es) ∙ sym (ap (λ (o : Option Part). if is_some o then parts_of es else parts_of es ++ (name, part_noted n) ∷ []) (noted_found es name))
  where
    by : (o : Option Noted) → parts_of (if is_some o then es else es ++ (name, n) ∷ []) ≡ (if is_some (option_map part_noted o) then parts_of es else parts_of es ++ (name, part_noted n) ∷ [])
    by (Some d) = refl
    by None = map-append (λ (e : ℕ × Noted). (e.0, part_noted e.1)) es ((name, n) ∷ [])

-- one more component

noted_last : (es : List (ℕ × Noted)) (q name : ℕ) (n one : Noted) → lookup (nat_eq q) (es ++ (name, n) ∷ []) ≡ Some one
    → (lookup (nat_eq q) es ≡ Some one) ⊎ (n ≡ one)
noted_last [] q name n one h = by (nat_eq q name) h
  where
    by : (b : Bool) → cond b (Some n) None ≡ Some one → (lookup (nat_eq q) [] ≡ Some one) ⊎ (n ≡ one)
    by true h = inr cc
    by false h = absurd cc
noted_last (e ∷ es) q name n one h = by (nat_eq q e.0) (noted_last es q name n one) h
  where
    by : (b : Bool) → (lookup (nat_eq q) (es ++ (name, n) ∷ []) ≡ Some one → (lookup (nat_eq q) es ≡ Some one) ⊎ (n ≡ one))
        → cond b (Some e.1) (lookup (nat_eq q) (es ++ (name, n) ∷ [])) ≡ Some one → (cond b (Some e.1) (lookup (nat_eq q) es) ≡ Some one) ⊎ (n ≡ one)
    by true rest h = inl h
    by false rest h = rest h

classed_with : (table : Table) (es : List (ℕ × Noted)) (name : ℕ) (n : Noted) → HasClass table n → AreClassed table es → AreClassed table (with_new es name n)
classed_with table es name n own all q one = by (is_some (lookup (nat_eq name) es))
  where
    by : (b : Bool) → lookup (nat_eq q) (if b then es else es ++ (name, n) ∷ []) ≡ Some one → HasClass table one
    by true h = all q one h
    by false h = elim (noted_last es q name n one h) as (λ _. HasClass table one) [
      | inl old ↦ all q one old
      | inr now ↦ subst (HasClass table) now own
    ]

pub all_classed : (table : Table) (es after : List (ℕ × Noted)) (name : ℕ) (n : Noted) → after ≡ with_new es name n → HasClass table n → AreClassed table es → AreClassed table after
all_classed table es after name n e own all = subst (AreClassed table) (sym e) (classed_with table es name n own all)

-- the components and the modules beside them
pub environment_with : (modules : List Module) (es after : List (ℕ × Noted)) (name : ℕ) (n : Noted) (among : Environment) → after ≡ with_new es name n
    → ◌≡◌ {A = Environment} (record { modules = modules; parts = parts_of es }) among
    → ◌≡◌ {A = Environment} (record { modules = modules; parts = parts_of after }) (with_part among name (Some (part_noted n)))
environment_with modules es after name n among e is =
    ap (λ (parts : Parts). record { modules = modules; parts = parts }) (ap parts_of e ∙ parts_noted es name n)
    ∙ ap (λ (old : Environment). with_part old name (Some (part_noted n))) is

-- an instance is a source of its module's bundle
pub instance_known : (m : Option Module) (i : Instance) → Some (instance_typ i) ≡ option_map bundle_of m → ◌≡◌ {A = Option Part} (Some (source_of i.known.typ)) (option_map instance_part m)
instance_known (Some m) i h = by (Some (instance_typ i)) (Some (bundle_of m)) h
  where
    by : (a b : Option FirType) → a ≡ b → option_map source_of a ≡ option_map source_of b
    by a b h = ap (option_map source_of) h
instance_known None i h = absurd cc

-- the number of a type that is this one
pub has_class : (table : Table) (typ other : FirType) (class : Option ℕ) → typ ≡ other → IfSome class (HasNumber table other) → IfSome class (λ n. ∥ HasNumber table typ n ∥₁)
has_class table typ other (Some n) same h = ∣ subst (λ t. HasNumber table t n) (sym same) h ∣₁
has_class table typ other None same h = tt

same_number : (n m : ℕ) → Some m ≡ Some n → n ≡ m
same_number n m e = cc

-- an instance shares its module's number
pub shared_class : (texts : Texts) (table : Table) (i : Instance) (noted : Noted) → ∥ IsInstance texts table i ∥₁ → noted.class ≡ i.class
    → noted.component.known.typ ≡ i.known.typ → HasClass table noted
shared_class texts table i noted right same typ = by i.class noted.class same (∥∥₁_map right (λ r. r.class))
  where
    by : (o p : Option ℕ) → p ≡ o → ∥ IfSome o (HasNumber table i.known.typ) ∥₁ → IfSome p (λ class. ∥ HasNumber table noted.component.known.typ class ∥₁)
    by (Some n) (Some m) e h = ∥∥₁_map h (λ r. subst (λ t. HasNumber table t m) (sym typ) (subst (HasNumber table i.known.typ) (same_number n m e) r))
    by (Some n) None e h = tt
    by None (Some m) e h = absurd cc
    by None None e h = tt
