-- What each module declares, and which types the widths give to that.
use Rattle.std.proofs.Common.{◌≡◌, ℕ, ◌+◌, Bool, true, List, [], ◌∷◌, ◌++◌, map, drop, refl, sym, ap, ap₂, ◌∙◌, subst, inr}
use Rattle.std.specs.List.{AllZip, flat_map}
use Rattle.std.proofs.lemmas.List.{map-append}
use Rattle.fir_types.specs.declared.fir_type.FirType.{FirType}
use Rattle.fir_types.specs.declared.port.Port.{Port}
use Rattle.prim_ops.specs.declared.widths.Width.{Width}
use Rattle.fir_tree.specs.declared.circuit.Circuit.{Circuit}
use Rattle.fir_tree.specs.declared.circuit.Module.{Module}
use Rattle.fir_tree.specs.declared.scope.Checked.{Checked}
use Rattle.fir_tree.specs.declared.scope.Fitted.{Fitted}
use Rattle.fir_tree.specs.declared.stmt.Stmt.{Stmt}
use Rattle.fir_tree.specs.Parts.{part_of, port_flow}
use Rattle.width_rules.specs.declared.slot.Slot.{Slot}
use Rattle.width_rules.specs.Places.{spots, slots_from, open_spots}
use Rattle.width_rules.specs.Sources as sources
use Rattle.width_rules.specs.Circuits.{WithPorts, ports_from, open_ports, modules_from, all_open, known_ports, rules_in}
use Rattle.width_fit.specs.Fitting.{IsFitted}
use Rattle.width_fit.specs.Judging as judging
use Rattle.width_fit.specs.Judging.{Solved, ports_declared, ports_faults, component_faults, module_survey, told_from}
use Rattle.fir_meaning.specs.Components.{Declaration, told, declared_by_port, declared_in_block, declarations_of}
use Rattle.width_laws.specs.Declared as declared
use Rattle.width_laws.specs.Declared.{Typed, IsFilled, declared_in, declared_of}
use Rattle.width_laws.proofs.Parts.{parts_of, known_more}
use Rattle.width_laws.proofs.Slots.{length-slots}
use Rattle.width_laws.proofs.Numbers.{left_empty, right_empty, faultless_numbers}
use Rattle.width_laws.proofs.Statements.{zip_both, IsFitted as IsFittedPair, IsSound, filled_slots, kept_slots, Tells, body_views, body_tells}

module _ (all : Solved) (modules : List Module) where
  -- Ports

  record PortsTell (body : List Stmt) (ps : List Port) (known : sources.Known) (k : ℕ) : Type 0 where
    pub known_is : (declared.in_turn (map declared.of_port ps) (parts_of known)).known ≡ parts_of (known_ports ps (ports_from k ps) known)
    pub names : map (λ (t : Typed). t.name) (declared.in_turn (map declared.of_port ps) (parts_of known)).types ≡ map (λ (d : Declaration). d.name) (map (declared_by_port body) ps)
    pub types : AllZip IsFittedPair (declared.in_turn (map declared.of_port ps) (parts_of known)).types (ports_declared all ps (ports_from k ps))
    pub sound : ports_faults all ps (ports_from k ps) ≡ [] → AllZip (IsSound all modules) (map (declared_by_port body) ps) (ports_declared all ps (ports_from k ps))

  ports_tell : (body : List Stmt) (ps : List Port) (known : sources.Known) (k : ℕ) → PortsTell body ps known k
  ports_tell body [] known k = record { known_is = refl; names = refl; types = tt; sound = λ none. tt }
  ports_tell body (p ∷ ps) known k =
      let slots : List Slot = slots_from k (spots p.typ) in
      let more : sources.Known = sources.known_with known p.name.id (record { part = part_of p.typ (port_flow p); slots = slots }) in
      let is : (declared.of_port p (parts_of known)).known ≡ parts_of more = known_more known p.name.id (record { part = part_of p.typ (port_flow p); slots = slots }) in
      let rest : PortsTell body ps more (k + open_spots (spots p.typ)) = ports_tell body ps more (k + open_spots (spots p.typ)) in
      let same : declared.in_turn (map declared.of_port ps) (parts_of more) ≡ declared.in_turn (map declared.of_port ps) (declared.of_port p (parts_of known)).known = ap (declared.in_turn (map declared.of_port ps)) (sym is) in
      record {
        known_is = ap (λ (z : declared.Declared). z.known) (sym same) ∙ rest.known_is;
        names = ap (λ l. p.name.id ∷ l) (ap (λ (z : declared.Declared). map (λ (t : Typed). t.name) z.types) (sym same) ∙ rest.names);
        types = (
          filled_slots all.widths (record { name = p.name.id; typ = p.typ; written = true }) slots (length-slots k (spots p.typ)) (λ w. kept_slots all.widths k (spots p.typ)),
          subst (λ (z : declared.Declared). AllZip IsFittedPair z.types (ports_declared all ps (ports_from (k + open_spots (spots p.typ)) ps))) same rest.types,
        );
        sound = λ none. (
          inr (record {
            typ = p.typ;
            slots = slots;
            counted = length-slots k (spots p.typ);
            filled_is = refl;
            numbers = faultless_numbers all p.name.place slots (left_empty (component_faults all p.name.place slots) _ none);
          }),
          rest.sound (right_empty (component_faults all p.name.place slots) _ none),
        );
      }

  -- A module

  abbrev pub with_own : ℕ → Module → WithPorts
  with_own k m = record { holder = m; ports = ports_from k m.ports }

  abbrev pub surveyed : Module → ℕ → ℕ → judging.Findings
  surveyed m k n = module_survey all (modules_from 0 modules) (with_own k m) n

  pub record ModuleTells (m : Module) (k n : ℕ) : Type 0 where
    pub names : map (λ (t : Typed). t.name) (declared_in modules m []).types ≡ map (λ (d : Declaration). d.name) (declarations_of m)
    pub types : AllZip IsFittedPair (declared_in modules m []).types (surveyed m k n).declared
    pub sound : (surveyed m k n).faults ≡ [] → AllZip (IsSound all modules) (declarations_of m) (surveyed m k n).declared

  pub module_tells : (m : Module) (k n : ℕ) → ModuleTells m k n
  module_tells m k n =
      let block : List Stmt = map (λ t. t.itself) (map told m.body) in
      let a : PortsTell m.body m.ports [] k = ports_tell m.body m.ports [] k in
      let known : sources.Known = known_ports m.ports (ports_from k m.ports) [] in
      let b : Tells all modules (body_views all modules m.body block) known n = body_tells all modules m.body block known n in
      let body = declared.in_turn (map (declared.declared_by modules) m.body) in
      let first : declared.Declared = declared.in_turn (map declared.of_port m.ports) [] in
      let same : body (parts_of known) ≡ body first.known = ap body (sym a.known_is) in
      let pd : List FirType = ports_declared all m.ports (ports_from k m.ports) in
      record {
        names = map-append (λ (t : Typed). t.name) first.types (body first.known).types
            ∙ ap₂ (λ x y. x ++ y) a.names (ap (λ (z : declared.Declared). map (λ (t : Typed). t.name) z.types) (sym same) ∙ b.names)
            ∙ sym (map-append (λ (d : Declaration). d.name) (map (declared_by_port m.body) m.ports) (declared_in_block (map told m.body)));
        types = zip_both IsFittedPair first.types _ pd _ a.types
            (subst (λ (z : declared.Declared). AllZip IsFittedPair z.types (judging.in_turn (map (judging.stmt_survey all (modules_from 0 modules)) m.body) known n).declared) same b.types);
        sound = λ none. zip_both (IsSound all modules) (map (declared_by_port m.body) m.ports) (declared_in_block (map told m.body)) pd _
            (a.sound (left_empty (ports_faults all m.ports (ports_from k m.ports)) _ none)) (b.sound (right_empty (ports_faults all m.ports (ports_from k m.ports)) _ none));
      }

  -- All modules

  modules_filled : (rest : List Module) (k n : ℕ) (reached : List Bool)
      → AllZip IsFittedPair (flat_map (λ m. (declared_in modules m []).types) rest) (told_from all (modules_from 0 modules) n (modules_from k rest) reached).declared
  modules_filled [] k n reached = tt
  modules_filled (m ∷ rest) k n reached = zip_both IsFittedPair (declared_in modules m []).types _ (surveyed m k n).declared _ (module_tells m k n).types
      (modules_filled rest (k + open_ports m.ports) (n + (surveyed m k n).count) (drop 1 reached))

  pub all_filled : (n : ℕ) (reached : List Bool) → AllZip IsFittedPair (flat_map (λ m. (declared_in modules m []).types) modules) (told_from all (modules_from 0 modules) n (modules_from 0 modules) reached).declared
  all_filled n reached = modules_filled modules 0 n reached

-- The fitted types are the declared ones with widths.
pub declarations_filled : (checked : Checked) (widths : List Width) (fitted : Fitted) → IsFitted checked widths fitted → AllZip (λ (d : Typed) (typ : FirType). IsFilled d typ) (declared_of checked.resolved) fitted.declared
declarations_filled checked widths fitted is = subst (λ ts. AllZip IsFittedPair (declared_of checked.resolved) ts) (sym is.declared)
    (all_filled (record { widths = widths; rules = (rules_in checked.resolved).rules }) checked.resolved.modules (all_open checked.resolved.modules) checked.scope.reached)

-- Their names are those of the declarations.
pub declarations_named : (circuit : Circuit) → map (λ (d : Typed). d.name) (declared_of circuit) ≡ flat_map (λ (holder : Module). map (λ (d : Declaration). d.name) (declarations_of holder)) circuit.modules
declarations_named circuit = named circuit.modules where
  named : (rest : List Module) → map (λ (d : Typed). d.name) (flat_map (λ (m : Module). (declared_in circuit.modules m []).types) rest) ≡ flat_map (λ (holder : Module). map (λ (d : Declaration). d.name) (declarations_of holder)) rest
  named [] = refl
  named (m ∷ rest) = map-append (λ (t : Typed). t.name) (declared_in circuit.modules m []).types _
      ∙ ap₂ (λ x y. x ++ y) (module_tells (record { widths = []; rules = [] }) circuit.modules m 0 0).names (named rest)
