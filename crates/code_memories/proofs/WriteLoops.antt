-- Leaf by leaf, and port by port.
use Rattle.std.proofs.Common.{◌≡◌, ℕ, ◌+◌, ◌<◌, ◌≤◌, List, [], ◌∷◌, ◌++◌, flat_map, take, length, slice_get, Some, None, All, sym, subst, ap, ◌∙◌, arith}
use Rattle.std.specs.Prelude.{IfSome, IsSome}
use Rattle.std.proofs.lemmas.List.{take_all, length-map, take_more}
use Rattle.std.proofs.lemmas.Option.{slice_get-get_or}
use Rattle.ground_net.specs.declared.net.Net.{Net}
use Rattle.ground_net.specs.declared.net.NetMemory.{NetMemory}
use Rattle.ground_net.specs.declared.net.NetPort.{NetPort}
use Rattle.ground_net.specs.declared.net.NetWrite.{NetWrite}
use Rattle.ground_net.specs.declared.net.ElementLeaf.{ElementLeaf}
use Rattle.ground_net.specs.Cones.{numbered}
use Rattle.ground_net.specs.Cycles.{shown}
use Rattle.ground_net.specs.Nets.{IsNet, element_shape, element_shapes}
use Rattle.code_draft.specs.declared.draft.Draft.{Draft}
use Rattle.code_draft.specs.declared.sources.Sources.{Sources}
use Rattle.ground_net.specs.declared.ground.Ground.TheVariants.{Leaf}
use Rattle.ground_net.specs.Shapes.{shape}
use Rattle.code_emit.specs.Emits.{element_source, sources_table}
use Rattle.partition_code.specs.Effects.{leaf_told, port_told, writes_told}
use Rattle.code_memories.specs.Memories.{HasMemory}
use Rattle.code_memories.proofs.Numbered.{some_same, numbered_long, some_there}
use Rattle.code_memories.specs.declared.places.Target.{Target}
use Rattle.code_memories.specs.Writes.{PublishesLeft, TellsTarget, WritesAt, conditions_of}
use Rattle.code_memories.proofs.Targets.{left_as, left_then, nothing_left_yet}
use Rattle.code_memories.proofs.Written.{some_is, address_shaped, source_shaped, conditions_shaped, leaf_written, leaf_more, idle_port, flat_more}

module _ (net : Net) (S : Sources) (m : ℕ) (memory : NetMemory) (there : slice_get net.memories m ≡ Some memory) where
  same_memory : (other : NetMemory) → slice_get net.memories m ≡ Some other → memory ≡ other
  same_memory other e = some_same (sym there ∙ e)

  module _ (p : ℕ) (port : NetPort) (listed : slice_get memory.ports p ≡ Some port) where
    same_port : (other : NetMemory) (its : NetPort) → slice_get net.memories m ≡ Some other → slice_get other.ports p ≡ Some its → port ≡ its
    same_port other its e f = some_same (sym listed ∙ (ap (λ (y : NetMemory). slice_get y.ports p) (same_memory other e) ∙ f))

    module _ (w : IsNet net) (h : HasMemory net S m) (k : ℕ) (write : NetWrite) (mask datum : ℕ) (writes : port.write ≡ Some write) (masked : slice_get write.masks k ≡ Some mask) (sourced : slice_get write.leaves k ≡ Some datum)
        (r : WritesAt net m p k) where
      here : memory ≡ h.memory
      here = same_memory h.memory h.there

      its_place : slice_get h.memory.ports p ≡ Some port
      its_place = sym (ap (λ (y : NetMemory). slice_get y.ports p) here) ∙ listed

      its_leaf : slice_get h.memory.elements k ≡ Some r.leaf
      its_leaf = ap (λ (y : NetMemory). slice_get y.elements k) (some_same (sym h.there ∙ r.there)) ∙ r.element

      pub address_here : IsSome (shape (Leaf port.addr) (sources_table S))
      address_here = address_shaped net S m w h p k port its_place write writes mask datum masked sourced r.leaf its_leaf

      pub source_here : IsSome (shape (Leaf datum) (sources_table S))
      source_here = source_shaped net S m w h p k port its_place write writes mask datum masked sourced r.leaf its_leaf

      pub conditions_here : All (λ x. IsSome (shape (Leaf x) (sources_table S))) (conditions_of port mask)
      conditions_here = conditions_shaped net S m w h p k port its_place write writes mask datum masked sourced r.leaf its_leaf

      pub element_here : IsSome (element_source S m k)
      element_here = let e = h.elements k r.leaf its_leaf in some_is (element_source S m k) e.source e.there

    pub leaf_done : (w : IsNet net) (h : HasMemory net S m) (k : ℕ) (write : NetWrite) (mask datum : ℕ) → port.write ≡ Some write → slice_get write.masks k ≡ Some mask → slice_get write.leaves k ≡ Some datum
        → (target : Target) (conditions : List ℕ) (a b : Draft) → target.address ≡ port.addr → target.source ≡ datum → IfSome (element_source S m k) (λ e. target.region ≡ e.region) → conditions ≡ conditions_of port mask
        → TellsTarget net S target conditions a b → (other : NetMemory) (its : NetPort) (leaf : ElementLeaf) → slice_get net.memories m ≡ Some other → slice_get other.ports p ≡ Some its → slice_get other.elements k ≡ Some leaf
        → PublishesLeft net S (λ st instant. leaf_told net m other (shown instant its) (k, element_shape leaf)) a b
    leaf_done w h k write mask datum writes masked sourced target conditions a b ta ts tr tc told other its leaf e f g =
        let same : h.memory ≡ other = some_same (sym h.there ∙ e) in
        let port_is : port ≡ its = same_port other its e f in
        let listed0 : slice_get h.memory.ports p ≡ Some its = ap (λ (y : NetMemory). slice_get y.ports p) same ∙ f in
        let at0 : slice_get h.memory.elements k ≡ Some leaf = ap (λ (y : NetMemory). slice_get y.elements k) same ∙ g in
        subst (λ (y : NetMemory). PublishesLeft net S (λ st instant. leaf_told net m y (shown instant its) (k, element_shape leaf)) a b) same
        (leaf_written net S m w h p k its listed0 write (sym (ap (λ (q : NetPort). q.write) port_is) ∙ writes) mask datum masked sourced leaf at0 target conditions a b (ta ∙ ap (λ (q : NetPort). q.addr) port_is) ts tr
        (tc ∙ ap (λ (q : NetPort). conditions_of q mask) port_is) told)

    -- what a port leaves is what the port at this place leaves
    port_here : (a b : Draft) → PublishesLeft net S (λ st instant. port_told net instant m memory port) a b → (other : NetMemory) (its : NetPort) → slice_get net.memories m ≡ Some other → slice_get other.ports p ≡ Some its
        → PublishesLeft net S (λ st instant. port_told net instant m other its) a b
    port_here a b t other its e f =
        subst (λ (y : NetMemory). PublishesLeft net S (λ st instant. port_told net instant m y its) a b) (same_memory other e)
        (subst (λ (q : NetPort). PublishesLeft net S (λ st instant. port_told net instant m memory q) a b) (same_port other its e f) t)

    pub port_done : (n : ℕ) (a b : Draft) → length memory.elements ≤ n → PublishesLeft net S (λ st instant. flat_map (leaf_told net m memory (shown instant port)) (take n (numbered (element_shapes memory)))) a b
        → (other : NetMemory) (its : NetPort) → slice_get net.memories m ≡ Some other → slice_get other.ports p ≡ Some its → PublishesLeft net S (λ st instant. port_told net instant m other its) a b
    port_done n a b long inv =
        let one = numbered_long (element_shapes memory) in
        let two = length-map memory.elements element_shape in
        port_here a b (subst (λ xs. PublishesLeft net S (λ st instant. flat_map (leaf_told net m memory (shown instant port)) xs) a b) (take_all n (numbered (element_shapes memory)) (omega (arith, one, two, long))) inv)

    pub idle_done : (a : Draft) → port.write ≡ None → (other : NetMemory) (its : NetPort) → slice_get net.memories m ≡ Some other → slice_get other.ports p ≡ Some its → PublishesLeft net S (λ st instant. port_told net instant m other its) a a
    idle_done a none =
        port_here a a (left_as net S (λ st instant. []) (λ st instant. port_told net instant m memory port) a a (λ words inputs F instant st sees shows. sym (idle_port net m memory port instant none)) (nothing_left_yet net S a))

    pub leaf_step : (k : ℕ) (a b c : Draft) → k < length memory.elements → PublishesLeft net S (λ st instant. flat_map (leaf_told net m memory (shown instant port)) (take k (numbered (element_shapes memory)))) a b
        → ((other : NetMemory) (its : NetPort) (leaf : ElementLeaf) → slice_get net.memories m ≡ Some other → slice_get other.ports p ≡ Some its → slice_get other.elements k ≡ Some leaf
        → PublishesLeft net S (λ st instant. leaf_told net m other (shown instant its) (k, element_shape leaf)) b c)
        → PublishesLeft net S (λ st instant. flat_map (leaf_told net m memory (shown instant port)) (take (k + 1) (numbered (element_shapes memory)))) a c
    leaf_step k a b c lt inv called =
        let leaf = some_there memory.elements k lt in
        left_as net S (λ st instant. flat_map (leaf_told net m memory (shown instant port)) (take k (numbered (element_shapes memory))) ++ leaf_told net m memory (shown instant port) (k, element_shape leaf.0))
        (λ st instant. flat_map (leaf_told net m memory (shown instant port)) (take (k + 1) (numbered (element_shapes memory)))) a c
        (λ words inputs F instant st sees shows. leaf_more net m k memory port leaf.0 instant leaf.1)
        (left_then net S (λ st instant. flat_map (leaf_told net m memory (shown instant port)) (take k (numbered (element_shapes memory)))) (λ st instant. leaf_told net m memory (shown instant port) (k, element_shape leaf.0)) a b c inv
        (called memory port leaf.0 there listed leaf.1))

  pub port_step : (p : ℕ) (a b c : Draft) → p < length memory.ports → PublishesLeft net S (λ st instant. flat_map (port_told net instant m memory) (take p memory.ports)) a b
      → ((other : NetMemory) (its : NetPort) → slice_get net.memories m ≡ Some other → slice_get other.ports p ≡ Some its → PublishesLeft net S (λ st instant. port_told net instant m other its) b c)
      → PublishesLeft net S (λ st instant. flat_map (port_told net instant m memory) (take (p + 1) memory.ports)) a c
  port_step p a b c lt inv called =
      let port = some_there memory.ports p lt in
      left_as net S (λ st instant. flat_map (port_told net instant m memory) (take p memory.ports) ++ port_told net instant m memory port.0) (λ st instant. flat_map (port_told net instant m memory) (take (p + 1) memory.ports)) a c
      (λ words inputs F instant st sees shows. flat_more (port_told net instant m memory) (take p memory.ports) port.0 ∙ ap (flat_map (port_told net instant m memory)) (sym (one_more memory.ports p port.0 port.1 lt)))
      (left_then net S (λ st instant. flat_map (port_told net instant m memory) (take p memory.ports)) (λ st instant. port_told net instant m memory port.0) a b c inv (called memory port.0 there port.1))
    where
      one_more : (xs : List NetPort) (k : ℕ) (x : NetPort) → slice_get xs k ≡ Some x → k < length xs → take (k + 1) xs ≡ take k xs ++ x ∷ []
      one_more xs k x e lt = take_more xs k x lt ∙ ap (λ y. take k xs ++ y ∷ []) (some_same (sym (slice_get-get_or xs k x lt) ∙ e))

  pub writes_done : (n : ℕ) (a b : Draft) → length memory.ports ≤ n → PublishesLeft net S (λ st instant. flat_map (port_told net instant m memory) (take n memory.ports)) a b
      → (other : NetMemory) → slice_get net.memories m ≡ Some other → PublishesLeft net S (λ st instant. writes_told net instant m other) a b
  writes_done n a b long inv other e =
      subst (λ (y : NetMemory). PublishesLeft net S (λ st instant. writes_told net instant m y) a b) (same_memory other e)
      (subst (λ xs. PublishesLeft net S (λ st instant. flat_map (port_told net instant m memory) xs) a b) (take_all n memory.ports (omega (arith, long))) inv)
