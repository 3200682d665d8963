-- The modules of instances.
use Rattle.std.proofs.Common.{◌≡◌, ℕ, zero, suc, ◌<◌, ◌≤◌, true, List, [], ◌∷◌, ◌++◌, map, length, get_or, Some, refl, sym, ap, ◌∙◌, subst, arith}
use Rattle.std.specs.Prelude.{slice_get, Contains, option_and_then}
use Rattle.std.specs.List.{AllZip}
use Rattle.std.proofs.lemmas.Option.{none-some, same_Some, slice_get_within, slice_get-get_or}
use Rattle.fir_tree.specs.declared.circuit.Module.{Module}
use Rattle.fir_tree.specs.declared.scope.Fitted.{Fitted}
use Rattle.fir_meaning.specs.Components.{TypedModule, Component, design_of, modules_of, module_at, module_named, target_in, target_of}
use Rattle.fir_meaning.proofs.Ports.{at_snoc, inside as inside_of}
use Rattle.fir_names.specs.Scopes.{Means, Instance, texts}
use Rattle.circuit_laws.proofs.Reached.{numbered, has_number, module_meant, known_module, one_number}
use Rattle.circuit_laws.proofs.Typed.{component_declared}
use Rattle.circuit_laws.proofs.Instances.{declared_instance}
use Rattle.circuit_laws.specs.WellFormed.{IsWellFormed}
use Rattle.found_items.specs.declared.table.Makes.{Makes}
use Rattle.found_items.specs.declared.table.Makes.TheVariants as makes
use Rattle.found_items.specs.declared.table.Row.{Row}
use Rattle.found_items.specs.declared.table.Table.{Table}
use Rattle.found_items.specs.Tables.{MadeBy, IsRow}
use Rattle.found_items.specs.Walking.{CanVisit, CanEnter}
use Rattle.found_items.proofs.Lists.{among_at, item_at, zip_from, zip_long}

holder_at : (modules : List Module) (k x : ℕ) → slice_get (texts (map (λ m. m.name) modules)) k ≡ Some x → (holder : Module) × (slice_get modules k ≡ Some holder)
holder_at [] k x e = absurd (none-some x e)
holder_at (m ∷ modules) zero x e = (m, refl)
holder_at (m ∷ modules) (suc k) x e = holder_at modules k x e

-- the module that a component makes, at its path
pub record Inside (fitted : Fitted) (path : List ℕ) (c : Component) (target number : ℕ) : Type 0 where
  pub n : TypedModule
  pub here : slice_get (modules_of fitted) number ≡ Some n
  pub found : module_named (design_of fitted) target ≡ Some n
  pub stands : module_at (design_of fitted) (path ++ c.declaration.name ∷ []) ≡ Some n

pub inside : (fitted : Fitted) → IsWellFormed fitted → (path : List ℕ) (m : TypedModule) (c : Component) (target number : ℕ) → module_at (design_of fitted) path ≡ Some m → Contains m.components c
    → target_in c.declaration.sort ≡ Some target → Means fitted.checked.resolved target number → Inside fitted path c target number
inside fitted well path m c target number stands among sort means =
    let holder = holder_at fitted.checked.resolved.modules number target means.has in
    let n = has_number fitted.checked.resolved.modules fitted.declared number holder.0 holder.1 in
    let found = module_meant fitted target number n.0 means n.1 in
    let named = well.bundles.names path m c stands among in
    let makes : target_of m c.declaration.name ≡ Some target = ap (option_and_then (λ (x : Component). target_in x.declaration.sort)) named ∙ sort in
    record {
      n = n.0;
      here = n.1;
      found = found;
      stands = at_snoc (design_of fitted) path c.declaration.name ∙ ap (option_and_then (λ x. inside_of (design_of fitted) x c.declaration.name)) stands ∙ ap (option_and_then (module_named (design_of fitted))) makes ∙ found;
    }

module _ (table : Table) (at left : ℕ) (can : CanVisit table at left) where
  abbrev fitted : Fitted
  fitted = table.fitted.now

  its_holder : (holder : Module) × (slice_get fitted.checked.resolved.modules at ≡ Some holder)
  its_holder = let of = numbered fitted.checked.resolved.modules fitted.declared at can.m can.number_is in (of.holder, of.here)

  pub rows_within : at < length table.rows.items
  rows_within = let below = slice_get_within fitted.checked.resolved.modules at its_holder.0 its_holder.1 in let many = can.is.rows.counted in omega (arith, below, many)

  pub own_within : at < length table.own.items
  own_within = let below = slice_get_within fitted.checked.resolved.modules at its_holder.0 its_holder.1 in let many = can.is.own.counted in omega (arith, below, many)

  reached : slice_get fitted.checked.scope.reached at ≡ Some true
  reached =
      let it = known_module fitted can.formed can.path can.m can.stands in
      let same : it.k ≡ at = one_number fitted can.formed.names it.k at can.m can.m it.number can.number_is refl in
      subst (λ (k : ℕ). slice_get fitted.checked.scope.reached k ≡ Some true) same it.reached

  -- the rows of the module
  pub rows_zip : (rows : List Row) → slice_get table.rows.items at ≡ Some rows → (m : TypedModule) → slice_get (modules_of fitted) at ≡ Some m → AllZip (IsRow fitted.checked.resolved) m.components rows
  rows_zip rows there m here = can.is.rows.each at rows there m here reached

  pub component_at : (rows : List Row) → slice_get table.rows.items at ≡ Some rows → (m : TypedModule) → slice_get (modules_of fitted) at ≡ Some m → (i : ℕ) → i < length rows → (c : Component) × (slice_get m.components i ≡ Some c)
  component_at rows there m here i less =
      let long = zip_long (IsRow fitted.checked.resolved) m.components rows (rows_zip rows there m here) in
      item_at m.components i (omega (arith, less, long))

  pub row_is : (rows : List Row) → slice_get table.rows.items at ≡ Some rows → (m : TypedModule) → slice_get (modules_of fitted) at ≡ Some m → (i : ℕ) → i < length rows → (c : Component) → slice_get m.components i ≡ Some c
      → (d : Row) → IsRow fitted.checked.resolved c (get_or rows i d)
  row_is rows there m here i less c at' d =
      let r = zip_from (IsRow fitted.checked.resolved) m.components rows i (get_or rows i d) (rows_zip rows there m here) (slice_get-get_or rows i d less) in
      subst (λ (x : Component). IsRow fitted.checked.resolved x (get_or rows i d)) (same_Some r.0 c (sym r.1 ∙ at')) r.2

  pub none_behind : (rows : List Row) → slice_get table.rows.items at ≡ Some rows → (m : TypedModule) → slice_get (modules_of fitted) at ≡ Some m → (i : ℕ) → length rows ≤ i → length m.components ≤ i
  none_behind rows there m here i past = let long = zip_long (IsRow fitted.checked.resolved) m.components rows (rows_zip rows there m here) in omega (arith, past, long)

  pub can_enter : (i : ℕ) (c : Component) (row : Row) → slice_get can.m.components i ≡ Some c → IsRow fitted.checked.resolved c row → CanEnter table left row.makes
  can_enter i c row there is = by row.makes is.makes
    where
      by : (made : Makes) → MadeBy fitted.checked.resolved c made → CanEnter table left made
      by (makes.Leaves count) h = tt
      by (makes.Module number) (target, sort, means) =
          let among : Contains can.m.components c = among_at can.m.components i c there in
          let within = inside fitted can.formed can.path can.m c target number can.stands among sort means in
          let of = numbered fitted.checked.resolved.modules fitted.declared at can.m can.number_is in
          let place = component_declared can.m of.holder of.of c among in
          let name = declared_instance of.holder place.0 target c.declaration place.1 sort in
          let edge : Instance fitted.checked.resolved at name.0 number = record { holder = of.holder; here = of.here; stands = name.1; means = subst (λ (t : ℕ). Means fitted.checked.resolved t number) (sym name.2) means } in
          let falls = can.falls.falls at number name.0 edge in
          let below = can.falls.below in (
            omega (arith, falls, below),
            record {
              formed = can.formed;
              has = can.has;
              is = can.is;
              falls = record { rank = can.falls.rank; falls = can.falls.falls; below = omega (arith, falls, below) };
              m = within.n;
              number_is = within.here;
              path = can.path ++ c.declaration.name ∷ [];
              stands = within.stands;
            },
          )

  pub can_pass : (rows : List Row) → slice_get table.rows.items at ≡ Some rows → (i : ℕ) → i < length rows → (d : Row) → CanEnter table left (get_or rows i d).makes
  can_pass rows there i less d =
      let c = component_at rows there can.m can.number_is i less in
      can_enter i c.0 (get_or rows i d) c.1 (row_is rows there can.m can.number_is i less c.0 c.1 d)
