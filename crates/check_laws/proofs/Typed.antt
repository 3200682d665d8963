-- Each node of an expression without faults has its type in the list.
use Rattle.std.proofs.Common.{List, [], ◌∷◌, subst, ⊎_elim}
use Rattle.std.specs.Prelude.{Contains}
use Rattle.std.proofs.lemmas.List.Elements.{Contains-append_cases}
use Rattle.place_text.specs.First.{HasNone}
use Rattle.place_text.specs.declared.place.Place.{Place}
use Rattle.fir_types.specs.declared.fir_type.FirType.{FirType}
use Rattle.fir_tree.specs.declared.expr.Expr.{Expr}
use Rattle.fir_tree.specs.declared.expr.Suffix.{Suffix}
use Rattle.fir_tree.specs.declared.expr.Suffix.TheVariants as suffix
use Rattle.fir_tree.specs.declared.part.Part.{Part}
use Rattle.type_check.specs.Parts.{Known}
use Rattle.type_check.specs.Expressions.{found_of}
use Rattle.check_laws.specs.Typing.{IsPart, HaveTypes, no_operands as none_have, one_operand as one_has}
use Rattle.check_laws.specs.Faults.{StandsIn, itself, in_operation, in_choice, in_index, IsComplete}
use Rattle.check_laws.specs.Nodes.{NodesOf, reference, literal, operation, choice, NodesOfEach, no_operands, one_operand, NodesOnWay, no_steps, to_field, to_element, to_indexed, ListTypes, no_nodes, a_part, no_part}
use Rattle.check_laws.proofs.Members.{nothing_in, head_in, tail_in, in_cases}
use Rattle.check_laws.proofs.Faults.{faults_exactly}
use Rattle.check_laws.proofs.Sound.{faultless_parts}
use Rattle.check_laws.proofs.Nodes.{types_in_order}

-- Nodes stand in their expression

stands_through : {inner middle e : Expr} → StandsIn inner middle → StandsIn middle e → StandsIn inner e
stands_through s itself = s
stands_through s (in_operation op es params x is c more) = in_operation op es params x is c (stands_through s more)
stands_through s (in_choice es x is c more) = in_choice es x is c (stands_through s more)
stands_through s (in_index name ss bracket index is c more) = in_index name ss bracket index is c (stands_through s more)

first_stands : (e : Expr) (ys : List Expr) (x : Expr) → (Contains ys x → StandsIn x e) → Contains (e ∷ ys) x → StandsIn x e
first_stands e ys x later c = ⊎_elim (λ same. subst (λ z. StandsIn z e) same itself) later (in_cases e ys x c)

mutual
  nodes_stand : {e : Expr} {xs : List Expr} → NodesOf e xs → (x : Expr) → Contains xs x → StandsIn x e
  nodes_stand {e = e} (reference {nodes = ys} name ss is way) x c =
      first_stands e ys x (λ l. let t = way_stands way x l in in_index name ss t.0 t.1 is t.2 t.3) c
  nodes_stand {e = e} (literal sign width number is) x c = first_stands e [] x (λ l. absurd (nothing_in x l)) c
  nodes_stand {e = e} (operation {nodes = ys} op es params is each) x c =
      first_stands e ys x (λ l. let t = each_stands each x l in in_operation op es params t.0 is t.1 t.2) c
  nodes_stand {e = e} (choice {nodes = ys} es is each) x c = first_stands e ys x (λ l. let t = each_stands each x l in in_choice es t.0 is t.1 t.2) c

  each_stands : {es xs : List Expr} → NodesOfEach es xs → (x : Expr) → Contains xs x → (operand : Expr) × Contains es operand × StandsIn x operand
  each_stands no_operands x c = absurd (nothing_in x c)
  each_stands (one_operand {e = e} {es = es} {nodes = xs} {others = ys} own more) x c = ⊎_elim
      (λ l. (e, head_in e es, nodes_stand own x l))
      (λ r. let t = each_stands more x r in (t.0, tail_in e es t.0 t.1, t.2))
      (Contains-append_cases xs ys x c)

  way_stands : {ss : List Suffix} {xs : List Expr} → NodesOnWay ss xs → (x : Expr) → Contains xs x
      → (bracket : Place) × (index : Expr) × Contains ss (suffix.Index bracket index) × StandsIn x index
  way_stands no_steps x c = absurd (nothing_in x c)
  way_stands (to_field {first = s} {rest = ss} name is way) x c = let t = way_stands way x c in (t.0, t.1, tail_in s ss (suffix.Index t.0 t.1) t.2, t.3)
  way_stands (to_element {first = s} {rest = ss} bracket at n is way) x c = let t = way_stands way x c in (t.0, t.1, tail_in s ss (suffix.Index t.0 t.1) t.2, t.3)
  way_stands (to_indexed {first = s} {rest = ss} {nodes = xs} {others = ys} bracket index is own way) x c = ⊎_elim
      (λ l. (bracket, index, subst (Contains (s ∷ ss)) is (head_in s ss), nodes_stand own x l))
      (λ r. let t = way_stands way x r in (t.0, t.1, tail_in s ss (suffix.Index t.0 t.1) t.2, t.3))
      (Contains-append_cases xs ys x c)

all_have : (known : Known) {xs : List Expr} {types : List FirType} → ListTypes known xs types → ((x : Expr) → Contains xs x → (part : Part) × IsPart known x part)
    → HaveTypes known xs types
all_have known no_nodes h = none_have
all_have known (a_part {e = e} {es = es} part is more) h = one_has is (all_have known more (λ x c. h x (tail_in e es x c)))
all_have known (no_part {e = e} {es = es} isnt more) h = let its = h e (head_in e es) in absurd (isnt its.0 its.1)

pub all_nodes_have : (known : Known) (e : Expr) (nodes : List Expr) → ((inner : Expr) → StandsIn inner e → IsComplete known inner)
    → HasNone (Contains (found_of known e).faults) → NodesOf e nodes → HaveTypes known nodes (found_of known e).nodes
all_nodes_have known e nodes complete none are = all_have known (types_in_order known e nodes are) (λ x c.
    let stands = nodes_stand are x c in
    faultless_parts known x (λ inner within. complete inner (stands_through within stands)) (λ fault f.
    let own = (faults_exactly known x fault).0 f in
    none fault ((faults_exactly known e fault).1 (own.0, stands_through own.1 stands, own.2))))
