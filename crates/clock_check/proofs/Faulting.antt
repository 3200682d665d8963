-- Faults of clocks are those of the registers and memory ports that are found.
use Rattle.std.proofs.Common.{◌≡◌, ◌==◌, [], ◌∷◌, map, Some, slice_get, refl, sym, ap, subst}
use Rattle.std.specs.Prelude.{Contains}
use Rattle.place_text.specs.declared.place.Place.{Place}
use Rattle.fir_tree.specs.declared.circuit.Module.{Module}
use Rattle.fir_tree.specs.declared.expr.Expr.{Expr}
use Rattle.fir_tree.specs.declared.scope.Fitted.{Fitted}
use Rattle.fir_meaning.specs.Components.{Design, Declaration, Component, TypedModule, Leaf, Sort, An_input, An_output, A_wire, A_register, A_reset_register, A_memory, An_instance, A_node, declarations_of, design_of, modules_of, type_in, component_named, flat}
use Rattle.fir_meaning.specs.Mentions.{Scope}
use Rattle.fir_meaning.specs.MemoryPorts.{memory_ports}
use Rattle.fir_meaning.specs.ClockRoot.{IsRooted, clock_of, named_leaves}
use Rattle.fir_meaning.proofs.Ports.{from_flat_map, from_map}
use Rattle.fir_meaning.proofs.Tracking.{Contains-flat_map, Contains-map, none_some}
use Rattle.fir_names.proofs.Graphs.{some_same}
use Rattle.circuit_laws.specs.WellFormed.{IsKnownModule}
use Rattle.drive_check.proofs.Deciding.{AreKnown}
use Rattle.drive_check.proofs.Telling.{AreNamed, get_contains, none_in, find_in}
use Rattle.clock_check.specs.Clocked.{At, IsOther, register, port, clock_leaf}
use Rattle.clock_check.specs.Hung.{Hangs, register_hung, port_hung, sort_hung, hung_by, module_hung}
use Rattle.clock_check.specs.HangsOther.{HangsOther, LeadsHome}
use Rattle.clock_check.proofs.Getting.{one_in}
use Rattle.clock_check.proofs.Placing.{module_hung_is}

in_module : (types : Scope) (holder : Module) (d : Declaration) (h : Hangs) → Contains (declarations_of holder) d → Contains (hung_by types d) h → Contains (module_hung types holder) h
in_module types holder d h c x = subst (λ l. Contains l h) (sym (module_hung_is types holder)) (Contains-flat_map (hung_by types) (declarations_of holder) d h c x)

declared : (fitted : Fitted) (m : TypedModule) (its : IsKnownModule fitted m) (c : Component) → component_named m c.declaration.name ≡ Some c → Contains (declarations_of its.holder) c.declaration
declared fitted m its c named =
    let at = find_in (λ x. x.declaration.name == c.declaration.name) m.components c named in
    subst (λ l. Contains l c.declaration) its.typed.components (Contains-map (λ (x : Component). x.declaration) m.components c (get_contains m.components at.0 c at.1))

register_in : (types : Scope) (d : Declaration) (clock : Expr) (sort : Sort) → clock_of sort ≡ Some clock → Contains (sort_hung types d sort) (register_hung types d.place clock)
register_in types d clock (A_register c) e = get_contains (register_hung types d.place c ∷ []) 0 (register_hung types d.place clock) (ap (λ x. Some (register_hung types d.place x)) (some_same e))
register_in types d clock (A_reset_register c r i) e = get_contains (register_hung types d.place c ∷ []) 0 (register_hung types d.place clock) (ap (λ x. Some (register_hung types d.place x)) (some_same e))
register_in types d clock An_input e = absurd (none_some e)
register_in types d clock An_output e = absurd (none_some e)
register_in types d clock A_wire e = absurd (none_some e)
register_in types d clock (A_memory m) e = absurd (none_some e)
register_in types d clock (An_instance t) e = absurd (none_some e)
register_in types d clock (A_node n) e = absurd (none_some e)

pub other_hangs : (fitted : Fitted) → AreKnown fitted → (place : Place) → IsOther (design_of fitted) place → HangsOther fitted place
other_hangs fitted known place (register path m c clock at clocked other) =
    let its = known path m at.reached in
    record {
      path = path;
      m = m;
      clock = slice_get (named_leaves (type_in m) clock) 0;
      known = its;
      reached = at.reached;
      hangs = in_module (type_in m) its.holder c.declaration (register_hung (type_in m) c.declaration.place clock) (declared fitted m its c at.declared) (register_in (type_in m) c.declaration clock c.declaration.sort clocked);
      other = other;
    }
other_hangs fitted known place (port path m c memory p at sort has other) =
    let its = known path m at.reached in
    let ports : Contains (map (port_hung c.declaration.name) (memory_ports memory)) (port_hung c.declaration.name p) = Contains-map (port_hung c.declaration.name) (memory_ports memory) p has in
    record {
      path = path;
      m = m;
      clock = Some (clock_leaf c.declaration.name p.name);
      known = its;
      reached = at.reached;
      hangs = in_module (type_in m) its.holder c.declaration (port_hung c.declaration.name p) (declared fitted m its c at.declared)
          (subst (λ s. Contains (sort_hung (type_in m) c.declaration s) (port_hung c.declaration.name p)) (sym sort) ports);
      other = λ leads. other (subst (λ (x : Leaf). IsRooted (design_of fitted) (flat m path x)) (sym (some_same leads.1)) leads.2);
    }

pub hangs_other : (fitted : Fitted) → AreNamed fitted → (place : Place) → HangsOther fitted place → IsOther (design_of fitted) place
hangs_other fitted named place h = by from.0.declaration.sort refl (subst (λ d. Contains (hung_by (type_in h.m) d) (place, h.clock)) (sym from.2) found.2)
  where
    design : Design
    design = design_of fitted

    found : (d : Declaration) × Contains (declarations_of h.known.holder) d × Contains (hung_by (type_in h.m) d) (place, h.clock)
    found = from_flat_map (hung_by (type_in h.m)) (declarations_of h.known.holder) (place, h.clock) (subst (λ l. Contains l (place, h.clock)) (module_hung_is (type_in h.m) h.known.holder) h.hangs)

    from : (c : Component) × Contains h.m.components c × (c.declaration ≡ found.0)
    from = from_map (λ (x : Component). x.declaration) h.m.components found.0 (subst (λ l. Contains l found.0) (sym h.known.typed.components) found.1)

    at : At design h.path h.m from.0
    at = record { reached = h.reached; declared = named h.m (get_contains (modules_of fitted) h.known.k h.m h.known.number) from.0 from.1 }

    told : (clock : Expr) → clock_of from.0.declaration.sort ≡ Some clock → register_hung (type_in h.m) from.0.declaration.place clock ≡ (place, h.clock) → IsOther design place
    told clock e is = subst (IsOther design) (ap (λ (x : Hangs). x.0) is)
        (register h.path h.m from.0 clock at e (λ leads. h.other (subst (LeadsHome design h.path h.m) (ap (λ (x : Hangs). x.1) is) leads)))

    by : (sort : Sort) → from.0.declaration.sort ≡ sort → Contains (sort_hung (type_in h.m) from.0.declaration sort) (place, h.clock) → IsOther design place
    by (A_register clock) s x = told clock (ap clock_of s) (one_in (register_hung (type_in h.m) from.0.declaration.place clock) (place, h.clock) x)
    by (A_reset_register clock r i) s x = told clock (ap clock_of s) (one_in (register_hung (type_in h.m) from.0.declaration.place clock) (place, h.clock) x)
    by (A_memory memory) s x =
        let p = from_map (port_hung from.0.declaration.name) (memory_ports memory) (place, h.clock) x in
        subst (IsOther design) (ap (λ (y : Hangs). y.0) p.2)
        (port h.path h.m from.0 memory p.0 at s p.1 (λ rooted. h.other (clock_leaf from.0.declaration.name p.0.name, sym (ap (λ (y : Hangs). y.1) p.2), rooted)))
    by An_input s x = absurd (none_in (place, h.clock) x)
    by An_output s x = absurd (none_in (place, h.clock) x)
    by A_wire s x = absurd (none_in (place, h.clock) x)
    by (An_instance t) s x = absurd (none_in (place, h.clock) x)
    by (A_node n) s x = absurd (none_in (place, h.clock) x)
