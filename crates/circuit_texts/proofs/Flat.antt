-- The leaves of a net are those of its circuit, by their names.
use Rattle.std.proofs.Common.{◌≡◌, ◌≢◌, ℕ, ◌<◌, Bool, true, false, List, Some, refl, sym, ap, subst, ◌∙◌, if◌then◌else◌}
use Rattle.std.specs.Prelude.{slice_get}
use Rattle.std.specs.List.{AllZip}
use Rattle.std.proofs.lemmas.Option.{slice_get_within}
use Rattle.fir_tree.specs.LeafNames.{Texts}
use Rattle.fir_meaning.specs.Components.{Design, is_clock}
use Rattle.fir_meaning.specs.States.{is_register}
use Rattle.ground_net.specs.declared.net.Leaf.{Leaf}
use Rattle.ground_net.specs.declared.net.Net.{Net}
use Rattle.ground_net.specs.declared.net.Role.{Role}
use Rattle.ground_net.specs.declared.net.Role.TheVariants as role
use Rattle.ground_net.specs.Naming.{IsNamed, IsFirstNamed}
use Rattle.net_of_circuit.specs.FlatOrder.{Standing, all_leaves}
use Rattle.net_of_circuit.specs.NetOf.{Part, Given, Without_value, Held, Kept, Driven, part_of_role, part_of, is_input_of_main, is_late_read, IsLeafOfNet}
use Rattle.net_laws.specs.Serves.{Serves}
use Rattle.net_laws.proofs.FlatOrders.{one_placed}
use Rattle.net_laws.proofs.Numbers.{below_length}
use Rattle.net_laws.proofs.Seen.{get_item}
use Rattle.circuit_texts.specs.Variables.{AreLeavesOfRun, HasName, IsFirstOfName, NamesNoLeaf}
use Rattle.circuit_texts.specs.NetNames.{NamesNone}
use Rattle.circuit_texts.proofs.Zips.{zip_at, place_of}

-- All leaves of a run are one list.
pub leaves_once : (design : Design) (all other : List Standing) → AreLeavesOfRun design all → AreLeavesOfRun design other → all ≡ other
leaves_once design all other a b = a.are ∙ (ap all_leaves (one_placed design a.main b.main a.placed b.placed a.found b.found a.order b.order) ∙ sym b.are)

as_clock : (r : Role) → part_of_role r ≡ Without_value → r ≡ role.Clock
as_clock (role.Input n) e = absurd cc
as_clock role.Clock e = refl
as_clock role.Assigned e = absurd cc
as_clock (role.Register n) e = absurd cc
as_clock (role.Captured n) e = absurd cc

abbrev chosen : Bool → Bool → Bool → Bool → Part
chosen clock register input late = if clock then Without_value else if register then Held else if input then Given else if late then Kept else Driven

has_value : (register input late : Bool) → chosen false register input late ≢ Without_value
has_value true input late e = absurd cc
has_value false true late e = absurd cc
has_value false false true e = absurd cc
has_value false false false e = absurd cc

part_valued : (y : Standing) → is_clock y.1 ≡ false → part_of y ≢ Without_value
part_valued y h e =
    has_value (is_register y.0.c.declaration.sort) (is_input_of_main y.0.path y.0.c y.1) (is_late_read y.0.c.declaration.sort y.1)
    (ap (λ b. chosen b (is_register y.0.c.declaration.sort) (is_input_of_main y.0.path y.0.c y.1) (is_late_read y.0.c.declaration.sort y.1)) (sym h) ∙ e)

part_clock : (y : Standing) → is_clock y.1 ≡ true → part_of y ≡ Without_value
part_clock y h = ap (λ b. chosen b (is_register y.0.c.declaration.sort) (is_input_of_main y.0.path y.0.c y.1) (is_late_read y.0.c.declaration.sort y.1)) h

module _ (texts : Texts) (design : Design) (net : Net) (serves : Serves texts design net) where
  abbrev pub all : List Standing
  all = all_leaves serves.of.placed

  pub of_run : AreLeavesOfRun design all
  of_run = record { main = serves.of.main; found = serves.of.found; placed = serves.of.placed; order = serves.of.order; are = refl }

  pub leaf_at : (x : ℕ) (y : Standing) → slice_get all x ≡ Some y → (leaf : Leaf) × (slice_get net.leaves x ≡ Some leaf) × IsLeafOfNet texts y leaf
  leaf_at x y there =
      let leaf = get_item net.leaves x (subst (λ n. x < n) (sym serves.of.is.counted) (below_length all x y there)) in
      (leaf.0, leaf.1, serves.of.is.leaves_are x y leaf.0 there leaf.1)

  pub standing_at : (x : ℕ) (leaf : Leaf) → slice_get net.leaves x ≡ Some leaf → (y : Standing) × (slice_get all x ≡ Some y) × IsLeafOfNet texts y leaf
  standing_at x leaf there =
      let y = get_item all x (subst (λ n. x < n) serves.of.is.counted (slice_get_within net.leaves x leaf there)) in
      (y.0, y.1, serves.of.is.leaves_are x y.0 leaf y.1 there)

  pub named_in_net : (name : List ℕ) (x : ℕ) → HasName texts all name x → IsNamed net name x
  named_in_net name x h =
      let l = leaf_at x h.leaf h.there in
      record {
        leaf = l.0;
        there = l.1;
        named = l.2.name ∙ h.named;
        valued = λ clock. part_valued h.leaf h.valued (sym l.2.part ∙ ap part_of_role clock);
      }

  pub named_in_circuit : (name : List ℕ) (x : ℕ) → IsNamed net name x → HasName texts all name x
  named_in_circuit name x h =
      let s = standing_at x h.leaf h.there in
      record { leaf = s.0; there = s.1; named = sym s.2.name ∙ h.named; valued = no_clock s.0 (λ e. h.valued (as_clock h.leaf.role (s.2.part ∙ part_clock s.0 e))) }
    where
      no_clock : (y : Standing) → ((is_clock y.1 ≡ true) → ⊥) → is_clock y.1 ≡ false
      no_clock y h = by (is_clock y.1) refl where
        by : (b : Bool) → is_clock y.1 ≡ b → is_clock y.1 ≡ false
        by true e = absurd (h e)
        by false e = e

  pub first_in_circuit : (name : List ℕ) (x : ℕ) → IsFirstNamed net name x → IsFirstOfName texts all name x
  first_in_circuit name x f = record { has = named_in_circuit name x f.is; first = λ z lt h. f.first z lt (named_in_net name z h) }

  pub no_leaf : (names : List (List ℕ)) → NamesNone net names → NamesNoLeaf texts design names
  no_leaf names n = record { all = all; of_run = of_run; name = n.name; among = n.among; none = λ x h. n.none x (named_in_net n.name x h) }

  pub all_named : (names : List (List ℕ)) (numbers : List ℕ) → AllZip (IsFirstNamed net) names numbers → NamesNoLeaf texts design names → ⊥
  all_named names numbers are n =
      let k = place_of names n.name n.among in
      let x = zip_at (IsFirstNamed net) names numbers k.0 n.name are k.1 in
      let same : all ≡ n.all = leaves_once design all n.all of_run n.of_run in
      n.none x.0 (subst (λ l. HasName texts l n.name x.0) same (named_in_circuit n.name x.0 x.2.is))
