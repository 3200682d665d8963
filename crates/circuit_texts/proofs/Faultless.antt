-- A text that is read as a state of a circuit has no first fault, where the circuit's names are names of a text.
use Rattle.std.proofs.Common.{◌≡◌, ℕ, List, Some, sym, ◌∙◌, subst, slice_get}
use Rattle.std.specs.Prelude.{All}
use Rattle.std.proofs.lemmas.Option.{get_or_from_slice_get}
use Rattle.fir_tree.specs.LeafNames.{Texts}
use Rattle.fir_meaning.specs.Components.{Design}
use Rattle.fir_meaning.specs.States.{State}
use Rattle.ground_net.specs.declared.net.Net.{Net}
use Rattle.ground_net.specs.declared.net.PortLeaf.{PortLeaf}
use Rattle.ground_net.specs.Watching.{inputs, port_leaf}
use Rattle.net_of_circuit.specs.NetOf.{IsNetOf}
use Rattle.name_laws.specs.Names.{IsName}
use Rattle.name_laws.proofs.Flat.{leaf_name, memory_name, element_way}
use Rattle.circuit_run.proofs.Fed.{input_at, input_of}
use Rattle.circuit_run.proofs.Lists.{some_same, get_item}
use Rattle.snapshot_text.specs.declared.snapshot.Snapshot.{Snapshot}
use Rattle.snapshot_text.specs.declared.fault.StateFault.{StateFault}
use Rattle.snapshot_text.specs.Cells.{cells_of}
use Rattle.snapshot_text.specs.Faults.{IsFault}
use Rattle.snapshot_text.specs.Snapshots.{HasWords, IsUnbroken, values_of}
use Rattle.snapshot_text.proofs.Named.{cells_named}
use Rattle.snapshot_text.proofs.Faultless.{faultless}
use Rattle.circuit_texts.specs.Held.{IsReadAs, IsFirstStateFault}
use Rattle.circuit_texts.proofs.Sound.{IsSound, its_net_serves}
use Rattle.circuit_texts.proofs.TwoNets.{cells_same}

module _ (texts : Texts) (are : All IsName texts) (design : Design) where
  module _ (net : Net) (of : IsNetOf texts design net) where
    -- an input has the name of its leaf
    input_name : (k : ℕ) (p : PortLeaf) → slice_get (inputs net) k ≡ Some p → IsUnbroken p.name
    input_name k p e =
        let leaf = input_of net of.well_formed k p e in
        let same : p ≡ port_leaf p.leaf leaf.0 = some_same (sym e ∙ input_at net of.well_formed p.leaf k leaf.0 leaf.1 leaf.2) in
        subst (λ (q : PortLeaf). IsUnbroken q.name) (sym same) (leaf_name texts are design net of p.leaf leaf.0 leaf.1)

    has_words : HasWords net (inputs net)
    has_words = record {
      of_inputs = λ k d lt. let p = get_item (inputs net) k lt in subst (λ (q : PortLeaf). IsUnbroken q.name) (sym (get_or_from_slice_get (inputs net) k p.0 d p.1)) (input_name k p.0 p.1);
      of_leaves = λ x leaf e. leaf_name texts are design net of x leaf e;
      of_memories = λ m memory e. memory_name texts are design net of m memory e;
      of_ways = λ m k memory leaf e f. element_way texts are design net of m memory e k leaf f;
    }

  pub no_fault : IsSound texts design → (text : List ℕ) (s : State) (snapshot : Snapshot) (fault : StateFault) → IsReadAs texts design text s snapshot → IsFirstStateFault texts design text fault → ⊥
  no_fault sound text s snapshot fault a b =
      let net = a.held.net in
      let cells = cells_same texts design net b.net (its_net_serves sound net a.held.of) (its_net_serves sound b.net b.of) in
      faultless (cells_of net (inputs net)) text snapshot.cycle (values_of net a.held.state snapshot.inputs) (cells_named net (inputs net) (has_words net a.held.of)) a.read fault
      (subst (λ cs. IsFault cs text fault) (sym cells) b.first.is)
