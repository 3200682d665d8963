-- The rows of modules.
use Rattle.std.proofs.Common.{◌≡◌, ◌≢◌, ℕ, zero, suc, ◌+◌, List, [], ◌∷◌, ◌++◌, map, length, length-append, Some, None, refl, sym, ap, ◌∙◌, subst, arith}
use Rattle.std.specs.Prelude.{slice_get, nat_eq}
use Rattle.std.specs.Map.{lookup}
use Rattle.std.specs.List.{AllZip}
use Rattle.std.proofs.lemmas.Option.{none-some, same_Some}
use Rattle.fir_types.specs.Leaves.{leaves}
use Rattle.fir_tree.specs.declared.circuit.Circuit.{Circuit}
use Rattle.fir_meaning.specs.Components.{Component, target_in}
use Rattle.fir_tree.specs.declared.circuit.Module.{Module}
use Rattle.fir_names.specs.Scopes.{Means, texts}
use Rattle.lower_aggregates.specs.declared.declarations.Sort.{Sort}
use Rattle.lower_aggregates.specs.declared.declarations.Sort.TheVariants as sort
use Rattle.lower_aggregates.specs.Parts.{component_part, component_parts}
use Rattle.lower_aggregates.specs.Held.{held_sort}
use Rattle.lower_aggregates.specs.Instances.{Numbers}
use Rattle.found_items.specs.declared.table.Row.{Row}
use Rattle.found_items.specs.declared.table.Makes.{Makes}
use Rattle.found_items.specs.declared.table.Makes.TheVariants as makes
use Rattle.found_items.specs.Tables.{MadeBy, IsRow}
use Rattle.found_items.specs.PieceRows.{MadeOf, IsRowOf}

module _ (circuit : Circuit) (numbers : Numbers) (means : (name number : ℕ) → lookup (nat_eq name) numbers ≡ Some number → Means circuit name number) where
  made_by : (b : ℕ) (c : Component) (made : Makes) → MadeOf numbers (component_part b c) made → MadeBy circuit c made
  made_by b c (makes.Leaves count) h = h
  made_by b c (makes.Module number) (target, sorted, found) = (target, sorted, means target number found)

  pub rows_are : (b : ℕ) (cs : List Component) (rows : List Row) → AllZip (IsRowOf numbers) (component_parts b cs) rows → AllZip (IsRow circuit) cs rows
  rows_are b [] [] h = tt
  rows_are b [] (r ∷ rows) h = absurd h
  rows_are b (c ∷ cs) [] h = absurd h
  rows_are b (c ∷ cs) (r ∷ rows) h = (record { name = h.0.name; makes = made_by b c r.makes h.0.makes }, rows_are (b + length (leaves c.typ)) cs rows h.1)

-- what holds of all of a list with one more
pub all_more : {A : Type 0} (P : ℕ → A → Type 0) (xs : List A) (i : ℕ) (x : A) → length xs ≡ i → ((k : ℕ) (y : A) → slice_get xs k ≡ Some y → P k y) → P i x → (k : ℕ) (y : A) → slice_get (xs ++ x ∷ []) k ≡ Some y → P k y
all_more P [] i x n all one zero y e = subst (λ j. P j y) (sym n) (subst (P i) (same_Some x y e) one)
all_more P [] i x n all one (suc k) y e = absurd (none-some y e)
all_more P (z ∷ xs) zero x n all one k y e = absurd (omega (arith, n))
all_more P (z ∷ xs) (suc i) x n all one zero y e = all 0 y e
all_more P (z ∷ xs) (suc i) x n all one (suc k) y e = all_more (λ j. P (suc j)) xs i x (omega (arith, n)) (λ j w at. all (suc j) w at) one k y e

pub longer : {A : Type 0} (xs after : List A) (i : ℕ) (x : A) → length xs ≡ i → after ≡ xs ++ x ∷ [] → length after ≡ i + 1
longer xs after i x n e = let long = ap length e ∙ length-append xs (x ∷ []) in omega (arith, n, long)

-- a sort that is no instance makes no module
pub no_target : (s : Sort) → ((target : ℕ) → s ≢ sort.Instance target) → target_in (held_sort s) ≡ None
no_target sort.Input n = refl
no_target sort.Output n = refl
no_target sort.Wire n = refl
no_target (sort.Register clock) n = refl
no_target (sort.ResetRegister clock reset init) n = refl
no_target (sort.Memory memory) n = refl
no_target (sort.Instance target) n = absurd (n target refl)
no_target (sort.Node e) n = refl

-- a module stands where a name stands among the names of modules
pub holder_at : (modules : List Module) (k x : ℕ) → slice_get (texts (map (λ m. m.name) modules)) k ≡ Some x → (holder : Module) × (slice_get modules k ≡ Some holder)
holder_at [] k x e = absurd (none-some x e)
holder_at (m ∷ modules) zero x e = (m, refl)
holder_at (m ∷ modules) (suc k) x e = holder_at modules k x e
