-- Modules and the instances between them as a graph: for each module the edges that go out from it.
use Rattle.std.specs.Prelude.{Contains, ◌≡◌, ℕ, ◌+◌, ◌<◌, ◌≤◌, Bool, true, false, ◌⊎◌, ◌↔◌, List, [], ◌∷◌, ◌++◌, map, length, slice_get, slice_index, Some}
use Rattle.fir_names.specs.declared.graph.Edge.{Edge}
use Rattle.fir_names.specs.declared.fault.NameFault.{NameFault}
use Rattle.fir_names.specs.declared.fault.NameFault.TheVariants.{InstanceLoop}

abbrev pub Graph : Type 0
Graph = List (List Edge)

-- all edges lead to modules
pub record IsGraph (graph : Graph) : Type 0 where
  pub within : (from : ℕ) (out : List Edge) (edge : Edge) → slice_get graph from ≡ Some out → Contains out edge → edge.to < length graph

-- an edge from a module
pub record Out (graph : Graph) (from : ℕ) (edge : Edge) : Type 0 where
  pub out : List Edge
  pub here : slice_get graph from ≡ Some out
  pub stands : Contains out edge

-- a way from a module along edges
pub data Leads (graph : Graph) (from : ℕ) : ℕ → Type 0 where
  stays : Leads graph from from
  goes : (middle : ℕ) (edge : Edge) → Leads graph from middle → Out graph middle edge → Leads graph from edge.to

-- one of these edges, which begin at a module and from whose end a way leads back to it, is the fault
pub record LoopsOf (graph : Graph) (from : ℕ) (out : List Edge) (fault : NameFault) : Type 0 where
  pub edge : Edge
  pub stands : Contains out edge
  pub back : Leads graph edge.to from
  pub is : fault ≡ InstanceLoop edge.place

-- the same of the edges of the first modules
pub record LoopsBefore (graph : Graph) (count : ℕ) (fault : NameFault) : Type 0 where
  pub from : ℕ
  pub before : from < count
  pub out : List Edge
  pub here : slice_get graph from ≡ Some out
  pub loops : LoopsOf graph from out fault

-- the faults that are added
pub record Adds (P : NameFault → Type 0) (old new : List NameFault) : Type 0 where
  pub kept : (fault : NameFault) → Contains old fault → Contains new fault
  pub added : (fault : NameFault) → P fault → Contains new fault
  pub only : (fault : NameFault) → Contains new fault → Contains old fault ⊎ P fault

-- Heads tell the parts of a graph: ways lead from each module to the head of its part and back, and where an edge leads from one
-- part to another no way leads back.
pub record AreParts (heads : List ℕ) (graph : Graph) : Type 0 where
  pub onward : (k : ℕ) → k < length graph → Leads graph k (slice_index heads k)
  pub backward : (k : ℕ) → k < length graph → Leads graph (slice_index heads k) k
  pub apart : (from : ℕ) (edge : Edge) → Out graph from edge → ¬ (slice_index heads edge.to ≡ slice_index heads from) → ¬ (Leads graph edge.to from)

-- a way from a module to another one, or back
abbrev pub Way : Bool → Graph → ℕ → ℕ → Type 0
Way false graph node other = Leads graph node other
Way true graph node other = Leads graph other node

-- a module of the same part that is nearer to the head
pub record Nearer (turned : Bool) (graph : Graph) (heads far : List ℕ) (node : ℕ) : Type 0 where
  pub next : ℕ
  pub within : next < length graph
  pub way : Way turned graph node next
  pub same : slice_index heads next ≡ slice_index heads node
  pub nearer : slice_index far next < slice_index far node

-- the head, or a module that is nearer to it
abbrev pub Nears : Bool → Graph → List ℕ → List ℕ → ℕ → Type 0
Nears turned graph heads far node = (slice_index heads node ≡ node) ⊎ Nearer turned graph heads far node

-- a rank doesn't rise along an edge, and falls where the edge leaves a part
pub record Falls (ranks heads : List ℕ) (from to : ℕ) : Type 0 where
  pub falls : slice_index ranks to ≤ slice_index ranks from
  pub apart : ¬ (slice_index heads to ≡ slice_index heads from) → slice_index ranks to < slice_index ranks from

abbrev pub count_true : List Bool → ℕ
count_true [] = 0
count_true (true ∷ bs) = 1 + count_true bs
count_true (false ∷ bs) = count_true bs

-- the marked modules are those of a list, each once
pub record Marked (marks : List Bool) (order : List ℕ) : Type 0 where
  pub count : count_true marks ≡ length order
  pub same : (k : ℕ) → (slice_get marks k ≡ Some true) ↔ Contains order k

-- modules were marked
pub record Spreads (targets : List ℕ) (marks : List Bool) (order : List ℕ) (marks' : List Bool) (order' : List ℕ) : Type 0 where
  pub marked : Marked marks' order'
  pub counted : length marks' ≡ length marks
  pub more : List ℕ
  pub onward : order' ≡ order ++ more
  pub adds : (t : ℕ) → Contains targets t → Contains order' t
  pub only : (t : ℕ) → Contains order' t → Contains order t ⊎ Contains targets t

abbrev pub ends : List Edge → List ℕ
ends out = map (λ edge. edge.to) out
