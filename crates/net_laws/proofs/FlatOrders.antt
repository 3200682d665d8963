-- A circuit has one flat order, and so one first leaf that is on a loop.
use Rattle.std.proofs.Common.{◌≡◌, ℕ, List, [], ◌∷◌, ◌++◌, Some, refl, sym, ap, ap₂, ◌∙◌, subst, arith, ⊎_elim}
use Rattle.std.specs.List.{slice_get}
use Rattle.std.proofs.lemmas.Bool.{cases_eq, cases_lt}
use Rattle.place_text.specs.declared.place.Place.{Place}
use Rattle.fir_meaning.specs.Components.{Design, TypedModule, Component, module_named}
use Rattle.fir_meaning.specs.Loops.{HasNoLoop}
use Rattle.net_of_circuit.specs.FlatOrder.{Placed, InFlatOrder, no_more, one_more, an_instance, Standing, all_leaves, flat_of}
use Rattle.net_laws.proofs.Numbers.{some_same, none_some}
use Rattle.net_laws.specs.FirstLoops.{IsFirstLoopOf}

one_order : (design : Design) (path : List ℕ) (m : TypedModule) (cs : List Component) {a b : List Placed} → InFlatOrder design path m cs a → InFlatOrder design path m cs b → a ≡ b
one_order design path m [] no_more no_more = refl
one_order design path m (c ∷ cs) (one_more none f) (one_more none' f') = ap (λ l. record { path = path; m = m; c = c } ∷ l) (one_order design path m cs f f')
one_order design path m (c ∷ cs) (one_more none f) (an_instance target n is found inner f') = none_some (sym none ∙ is)
one_order design path m (c ∷ cs) (an_instance target n is found inner f) (one_more none f') = none_some (sym none ∙ is)
one_order design path m (c ∷ cs) (an_instance {own = xs} {rest = rs} target n is found inner f) (an_instance {own = ys} {rest = ss} target' n' is' found' inner' f') =
    let same : target ≡ target' = some_same (sym is ∙ is') in
    let module_is : n ≡ n' = some_same (sym found ∙ (ap (module_named design) same ∙ found')) in
    ap₂ (λ u v. u ++ v)
    (one_order design (path ++ c.declaration.name ∷ []) n n.components inner
    (subst (λ (k : TypedModule). InFlatOrder design (path ++ c.declaration.name ∷ []) k k.components ys) (sym module_is) inner'))
    (one_order design path m cs f f')

-- the flat order of main
pub one_placed : (design : Design) (m n : TypedModule) (a b : List Placed) → module_named design design.main ≡ Some m → module_named design design.main ≡ Some n
    → InFlatOrder design [] m m.components a → InFlatOrder design [] n n.components b → a ≡ b
one_placed design m n a b found found' order order' =
    let same : m ≡ n = some_same (sym found ∙ found') in
    one_order design [] m m.components order (subst (λ (k : TypedModule). InFlatOrder design [] k k.components b) (sym same) order')

pub one_first : (design : Design) (here other : Place) → IsFirstLoopOf design here → IsFirstLoopOf design other → here ≡ other
one_first design here other a b = ⊎_elim
    (λ e. sym a.is ∙ ap (λ (y : Standing). y.0.c.declaration.place) (standing e) ∙ b.is)
    (λ n. ⊎_elim
    (λ less. absurd (b.first a.at a.standing less (ap (λ p. slice_get (all_leaves p) a.at) (sym same) ∙ a.there) a.here))
    (λ more. absurd (a.first b.at b.standing (omega (arith, n)) (ap (λ p. slice_get (all_leaves p) b.at) same ∙ b.there) b.here))
    (cases_lt a.at b.at))
    (cases_eq a.at b.at)
  where
    same : a.placed ≡ b.placed
    same = one_placed design a.main b.main a.placed b.placed a.found b.found a.order b.order

    standing : a.at ≡ b.at → a.standing ≡ b.standing
    standing e = some_same (sym a.there ∙ (ap (λ x. slice_get (all_leaves a.placed) x) e ∙ (ap (λ p. slice_get (all_leaves p) b.at) same ∙ b.there)))

pub no_first : (design : Design) (place : Place) → HasNoLoop design → IsFirstLoopOf design place → ⊥
no_first design place none a = none.none (flat_of a.standing) a.here
