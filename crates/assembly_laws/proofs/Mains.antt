-- How many leaves the ports of main have.
use Rattle.std.proofs.Common.{◌≡◌, ℕ, suc, ◌+◌, Bool, true, false, List, [], ◌∷◌, ◌++◌, map, length, Some, refl, sym, ap, ap₂, ◌∙◌, arith, if◌then◌else◌}
use Rattle.std.specs.Prelude.{filter}
use Rattle.std.specs.List.{slice_get, sum_by}
use Rattle.std.proofs.lemmas.Grind.{common_steps}
use Rattle.std.proofs.lemmas.List.Sums.{sum_by-cons}
use Rattle.std.proofs.lemmas.List.Concat.{flat_map-cons}
use Rattle.fir_types.specs.declared.leaf.TypeLeaf.{TypeLeaf}
use Rattle.fir_types.specs.Leaves.{leaves}
use Rattle.fir_meaning.specs.Components.{Design, TypedModule, Component}
use Rattle.fir_meaning.specs.States.{is_port}
use Rattle.fir_meaning.proofs.Ports.{target_sort}
use Rattle.ground_net.specs.declared.net.Net.{Net}
use Rattle.net_of_circuit.specs.FlatOrder.{Placed, InFlatOrder, no_more, one_more, an_instance, Standing, all_leaves}
use Rattle.net_of_circuit.specs.NetOf.{is_of_port, is_of_main}
use Rattle.net_laws.proofs.Rows.{begins, all_of_append}
use Rattle.memory_ports.specs.Placing.{IsPlaced}
use Rattle.net_laws.proofs.Standing.{within}
use Rattle.lowering_laws.proofs.Matching.{leads_known, port_size, length_append}
use Rattle.lowering_laws.proofs.Whole.{Setting}
use Rattle.lowering_laws.proofs.Drivers.{all}

filter_none : {A : Type 0} (test : A → Bool) (xs : List A) → ((k : ℕ) (x : A) → slice_get xs k ≡ Some x → test x ≡ false) → filter test xs ≡ []
filter_none test [] h = refl
filter_none test (x ∷ xs) h = let head = h 0 x refl in let rest = filter_none test xs (λ k y e. h (suc k) y e) in grind (arith, common_steps, head, rest)

filter_append : {A : Type 0} (test : A → Bool) (xs ys : List A) → filter test (xs ++ ys) ≡ filter test xs ++ filter test ys
filter_append test [] ys = refl
filter_append {A} test (x ∷ xs) ys = by (test x) refl (filter_append test xs ys) where
  by : (b : Bool) → test x ≡ b → filter test (xs ++ ys) ≡ filter test xs ++ filter test ys → filter test ((x ∷ xs) ++ ys) ≡ filter test (x ∷ xs) ++ filter test ys
  by true e rest = grind (arith, common_steps, e, rest)
  by false e rest = grind (arith, common_steps, e, rest)

abbrev entries_of : Placed → List Standing
entries_of p = map (λ leaf. (p, leaf)) (leaves p.c.typ)

-- all leaves of a component are of main's ports, or none
of_one : (p : Placed) (b : Bool) → is_of_port p.path p.c ≡ b → (ls : List TypeLeaf) → length (filter is_of_main (map (λ leaf. (p, leaf)) ls)) ≡ (if b then length ls else 0)
of_one p true e [] = refl
of_one p false e [] = refl
of_one p true e (l ∷ ls) = let rest = of_one p true e ls in let here : is_of_main (p, l) ≡ true = e in grind (arith, common_steps, here, rest)
of_one p false e (l ∷ ls) = let rest = of_one p false e ls in let here : is_of_main (p, l) ≡ false = e in grind (arith, common_steps, here, rest)

counted_apart : (xs ys : List Standing) → length (filter is_of_main (xs ++ ys)) ≡ length (filter is_of_main xs) + length (filter is_of_main ys)
counted_apart xs ys = ap length (filter_append is_of_main xs ys) ∙ length_append (filter is_of_main xs) (filter is_of_main ys)

count_main : (design : Design) (m : TypedModule) (cs : List Component) {placed : List Placed} → InFlatOrder design [] m cs placed → length (filter is_of_main (all_leaves placed)) ≡ sum_by port_size cs
count_main design m [] no_more = grind (arith, common_steps)
count_main design m (c ∷ cs) (one_more {rest = rest} none f) =
    let p : Placed = record { path = []; m = m; c = c } in
    ap (λ l. length (filter is_of_main l)) (flat_map-cons entries_of p rest)
    ∙ (counted_apart (entries_of p) (all_leaves rest)
    ∙ (ap₂ (λ a b. a + b) (of_one p (is_port c.declaration.sort) refl (leaves c.typ)) (count_main design m cs f) ∙ sym (sum_by-cons port_size c cs)))
count_main design m (c ∷ cs) (an_instance {own = own} {rest = rest} target n t found inside f) =
    let none_here : filter is_of_main (all_leaves own) ≡ [] =
    filter_none is_of_main (all_leaves own) (λ k y e.
    let at = within own k y e in
    let b = begins design (c.declaration.name ∷ []) n n.components inside at.j y.0 at.there in
    ap (λ path. is_of_port path y.0.c) b.1) in
    let none_own : port_size c ≡ 0 = ap (λ s. if is_port s then length (leaves c.typ) else 0) (target_sort c.declaration.sort target t) in
    ap (λ l. length (filter is_of_main l)) (all_of_append own rest)
    ∙ (counted_apart (all_leaves own) (all_leaves rest)
    ∙ (ap₂ (λ a b. a + b) (ap length none_here ∙ sym none_own) (count_main design m cs f) ∙ sym (sum_by-cons port_size c cs)))

-- The net's ports are the leaves of main's.
pub ports_are : (z : Setting) (net : Net) → IsPlaced z.flat net → net.ports ≡ length (filter is_of_main (all z))
ports_are z net is =
    let K = leads_known z.fitted z.well z.lowered z.is z.driven z.expanded z.leads in
    is.ports ∙ (z.is_flat.is.ports ∙ (K.driven_is.ports ∙ (K.ground_is.ports ∙ sym (count_main _ z.main z.main.components z.matched.order))))
