-- What a whole module's body leaves.
use Rattle.std.proofs.Common.{◌≡◌, ℕ, zero, suc, ◌+◌, ◌<◌, List, [], ◌∷◌, map, length, Option, Some, ℤ, slice_get, sym, ap, ◌∙◌, subst, ⊎_elim}
use Rattle.std.specs.Prelude.{Contains}
use Rattle.std.proofs.lemmas.List.{length-map}
use Rattle.std.proofs.lemmas.Option.{slice_get_within}
use Rattle.fir_types.specs.declared.port.Port.{Port}
use Rattle.fir_tree.specs.declared.circuit.Circuit.{Circuit}
use Rattle.fir_tree.specs.declared.circuit.Module.{Module}
use Rattle.fir_tree.specs.declared.scope.Scope.{Scope}
use Rattle.fir_tree.specs.declared.stmt.Stmt.{Stmt}
use Rattle.fir_meaning.specs.Components.{Declaration, Leaf, told, declared_in_block, declarations_of, declared_by_port}
use Rattle.fir_meaning.specs.Values.{Scene}
use Rattle.fir_meaning.specs.Drives.{effect, in_turn}
use Rattle.fir_names.specs.Scopes.{IsScope}
use Rattle.place_text.specs.First.{HasNone}
use Rattle.fir_names.specs.Faults.{IsFault}
use Rattle.fir_names.proofs.Graphs.{some_same}
use Rattle.fir_meaning.specs.Mentions.{Scope as Types}
use Rattle.fir_meaning.specs.Loops.{live, live_from}
use Rattle.circuit_laws.specs.Open.{left_by}
use Rattle.circuit_laws.specs.OpenReads.{live_by}
use Rattle.circuit_laws.proofs.Reading.{live_alone, at_behind}
use Rattle.circuit_laws.proofs.Opening.{alone, does_behind}
use Rattle.circuit_laws.proofs.Scoping.{get-either, module_alone}

port_block : (body : List Stmt) (ports : List Port) (k : ℕ) (d : Declaration) → slice_get (map (declared_by_port body) ports) k ≡ Some d → d.block ≡ body
port_block body [] k d e = cc
port_block body (port ∷ ports) zero d e = ap (λ (x : Declaration). x.block) (sym (some_same e))
port_block body (port ∷ ports) (suc k) d e = port_block body ports k d e

pub module_leaves : (circuit : Circuit) (scope : Scope) → IsScope circuit scope → HasNone (IsFault circuit) → (holder : Module) → Contains circuit.modules holder
    → (k : ℕ) (d : Declaration) → slice_get (declarations_of holder) k ≡ Some d → (leaf : Leaf) → leaf.component ≡ d.name → (scene : Scene) (last : Option ℤ)
    → left_by scene leaf k (length holder.ports) holder.body last ≡ in_turn (map (effect scene leaf) d.block) last
module_leaves circuit scope is none holder i k d e leaf same scene last =
    let ports : List Declaration = map (declared_by_port holder.body) holder.ports in
    ⊎_elim
    (λ l.
    does_behind scene leaf k (length holder.ports) holder.body (subst (λ m. k < m) (length-map holder.ports (declared_by_port holder.body)) (slice_get_within ports k d l)) last
    ∙ ap (λ b. in_turn (map (effect scene leaf) b) last) (sym (port_block holder.body holder.ports k d l)))
    (λ r. alone scene leaf k d same r.0 holder.body (module_alone circuit scope is none holder i r.0 d r.2) (length holder.ports)
    (r.1 ∙ ap (λ m. m + r.0) (length-map holder.ports (declared_by_port holder.body))) last)
    (get-either ports (declared_in_block (map told holder.body)) k d e)

pub module_reads : (circuit : Circuit) (scope : Scope) → IsScope circuit scope → HasNone (IsFault circuit) → (holder : Module) → Contains circuit.modules holder
    → (k : ℕ) (d : Declaration) → slice_get (declarations_of holder) k ≡ Some d → (leaf : Leaf) → leaf.component ≡ d.name → (types : Types)
    → live_by types leaf k (length holder.ports) holder.body ≡ live types leaf d.block
module_reads circuit scope is none holder i k d e leaf same types =
    let ports : List Declaration = map (declared_by_port holder.body) holder.ports in
    ⊎_elim
    (λ l.
    ap live_from (at_behind types leaf k (length holder.ports) holder.body (subst (λ m. k < m) (length-map holder.ports (declared_by_port holder.body)) (slice_get_within ports k d l)))
    ∙ ap (λ b. live types leaf b) (sym (port_block holder.body holder.ports k d l)))
    (λ r. live_alone types leaf k d same r.0 holder.body (module_alone circuit scope is none holder i r.0 d r.2) (length holder.ports)
    (r.1 ∙ ap (λ m. m + r.0) (length-map holder.ports (declared_by_port holder.body))))
    (get-either ports (declared_in_block (map told holder.body)) k d e)
