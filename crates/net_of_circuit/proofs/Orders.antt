-- The flat order is one.
use Rattle.std.proofs.Common.{◌≡◌, ℕ, List, [], ◌∷◌, ◌++◌, Some, None, refl, sym, ap, ap₂, ◌∙◌, subst}
use Rattle.fir_meaning.specs.Components.{Design, TypedModule, Component, module_named, target_in}
use Rattle.net_of_circuit.specs.FlatOrder.{Placed, InFlatOrder, no_more, one_more, an_instance}

some_same : {A : Type 0} {x y : A} → Some x ≡ Some y → x ≡ y
some_same e = cc

pub one_order : {design : Design} {path : List ℕ} {m : TypedModule} {cs : List Component} {a b : List Placed} → InFlatOrder design path m cs a → InFlatOrder design path m cs b → a ≡ b
one_order no_more no_more = refl
one_order (one_more {path = path} {m = m} {c = c} e f) (one_more e' g) = ap (λ rest. record { path = path; m = m; c = c } ∷ rest) (one_order f g)
one_order (one_more e f) (an_instance t n e' found own rest) = cc
one_order (an_instance t n e found own rest) (one_more e' g) = cc
one_order {design} (an_instance {path = path} {c = c} {own = own} t n e found inside rest) (an_instance {own = other} u k e' found' inside' rest') =
    let same : t ≡ u = some_same (sym e ∙ e') in
    let modules : n ≡ k = some_same (sym found ∙ (ap (module_named design) same ∙ found')) in
    let there : InFlatOrder design (path ++ c.declaration.name ∷ []) n n.components other = subst (λ l. InFlatOrder design (path ++ c.declaration.name ∷ []) l l.components other) (sym modules) inside' in
    ap₂ (λ xs ys. xs ++ ys) (one_order inside there) (one_order rest rest')
