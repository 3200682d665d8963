-- What is declared, referred to and instantiated doesn't depend on types, nor does how many operands an operation has.
use Rattle.std.proofs.Common.{◌≡◌, ℕ, ◌+◌, Bool, ◌&&◌, List, [], ◌∷◌, ◌++◌, map, length, refl, sym, ap, ap₂, ◌∙◌}
use Rattle.std.specs.List.{list_all}
use Rattle.fir_types.specs.declared.port.Port.{Port}
use Rattle.fir_types.specs.Spots.{size}
use Rattle.fir_tree.specs.declared.circuit.Circuit.{Circuit}
use Rattle.fir_tree.specs.declared.circuit.Module.{Module}
use Rattle.fir_tree.specs.declared.stmt.Stmt.{Stmt}
use Rattle.fir_names.specs.Extents as extents
use Rattle.fir_names.specs.Extents.{Marks, Mark, stmt_marks, marks_in, all_marks, declare, followed_by}
use Rattle.fir_names.specs.Scopes.{module_names}
use Rattle.fitted_laws.specs.Shaped as shaping
use Rattle.fitted_laws.specs.Shaped.{is_shaped_stmt, is_shaped_module, is_shaped_circuit}
use Rattle.reset_search.specs.Feeds.{ports_count, all_ports}
use Rattle.reset_search.specs.Resolved.{Becomes, all_from, in_all, becomes_stmt, resolved, resolved_ports, resolved_modules, resolved_circuit, IsResolved}
use Rattle.reset_search.proofs.Blind.{IsBlind, same}

marks_blind : IsBlind extents.of_stmt
marks_blind = record { wire = λ name t u. refl; reg = λ name t u clock. refl; reg_reset = λ name t u clock reset init. refl; mem = λ reached n memory. refl }

shape_blind : IsBlind shaping.of_stmt
shape_blind = record { wire = λ name t u. refl; reg = λ name t u clock. refl; reg_reset = λ name t u clock reset init. refl; mem = λ reached n memory. refl }

module _ (reached : ℕ → Bool) where
  body_marks : (body : List Stmt) (n : ℕ) → map stmt_marks (all_from (map (becomes_stmt reached) body) n) ≡ map stmt_marks body
  body_marks [] n = refl
  body_marks (s ∷ body) n = ap₂ (λ x xs. x ∷ xs) (same extents.of_stmt extents.of_arm marks_blind reached s n) (body_marks body (n + (becomes_stmt reached s).0))

  abbrev port_marks : List Port → List Marks
  port_marks ports = map (λ port. declare port.name) ports

  ports_marks : (n : ℕ) (ports : List Port) → port_marks (resolved_ports reached n ports) ≡ port_marks ports
  ports_marks n [] = refl
  ports_marks n (port ∷ ports) = ap (λ ms. declare port.name ∷ ms) (ports_marks (n + size port.typ) ports)

  modules_marks : (p n : ℕ) (modules : List Module) → map marks_in (resolved_modules reached p n modules) ≡ map marks_in modules
  modules_marks p n [] = refl
  modules_marks p n (m ∷ modules) = ap₂ (λ (x : List Mark) xs. x ∷ xs)
      (ap₂ (λ ps b. followed_by (all_marks ps) (all_marks b) 0) (ports_marks p m.ports) (body_marks m.body n))
      (modules_marks (p + ports_count m.ports) (n + in_all (map (becomes_stmt reached) m.body)) modules)

  modules_names : (p n : ℕ) (modules : List Module) → map (λ (m : Module). m.name) (resolved_modules reached p n modules) ≡ map (λ (m : Module). m.name) modules
  modules_names p n [] = refl
  modules_names p n (m ∷ modules) = ap (λ xs. m.name ∷ xs) (modules_names (p + ports_count m.ports) (n + in_all (map (becomes_stmt reached) m.body)) modules)

  body_shaped : (body : List Stmt) (n : ℕ) → list_all is_shaped_stmt (all_from (map (becomes_stmt reached) body) n) ≡ list_all is_shaped_stmt body
  body_shaped [] n = refl
  body_shaped (s ∷ body) n = ap₂ (λ a b. a && b) (same shaping.of_stmt shaping.of_arm shape_blind reached s n) (body_shaped body (n + (becomes_stmt reached s).0))

  modules_shaped : (p n : ℕ) (modules : List Module) → list_all is_shaped_module (resolved_modules reached p n modules) ≡ list_all is_shaped_module modules
  modules_shaped p n [] = refl
  modules_shaped p n (m ∷ modules) = ap₂ (λ a b. a && b) (body_shaped m.body n) (modules_shaped (p + ports_count m.ports) (n + in_all (map (becomes_stmt reached) m.body)) modules)

-- two circuits with the same names, where they are declared, referred to and instantiated
pub record SameNames (one other : Circuit) : Type 0 where
  pub main : one.main ≡ other.main
  pub names : module_names one ≡ module_names other
  pub marks : map marks_in one.modules ≡ map marks_in other.modules

pub turned : (one other : Circuit) → SameNames one other → SameNames other one
turned one other s = record { main = sym s.main; names = sym s.names; marks = sym s.marks }

pub same_names : (circuit tree : Circuit) → IsResolved circuit tree → SameNames circuit tree
same_names circuit tree r = record {
  main = sym (ap (λ c. c.main) r.is);
  names = sym (ap module_names r.is ∙ modules_names r.reached 0 (all_ports circuit.modules) circuit.modules);
  marks = sym (ap (λ (c : Circuit). map marks_in c.modules) r.is ∙ modules_marks r.reached 0 (all_ports circuit.modules) circuit.modules);
}

pub same_shape : (circuit tree : Circuit) → IsResolved circuit tree → is_shaped_circuit tree ≡ is_shaped_circuit circuit
same_shape circuit tree r = ap is_shaped_circuit r.is ∙ modules_shaped r.reached 0 (all_ports circuit.modules) circuit.modules
