-- The kinds and widths of what captured reads show next.
use Rattle.std.proofs.Common.{◌≡◌, ◌==◌, ℕ, suc, Bool, true, false, ◌&&◌, if◌then◌else◌, List, [], ◌∷◌, slice_get, Option, Some, None, option_and_then, pos, All, refl, ap, ap₂, ◌∙◌, arith, fold}
use Rattle.std.proofs.lemmas.Grind.{common_steps}
use Rattle.bit_words.specs.declared.value.Kind.{Kind}
use Rattle.bit_words.specs.declared.value.Kind.TheVariants.{Unsigned, Signed}
use Rattle.prim_ops.specs.declared.operation.PrimOp.TheVariants as op
use Rattle.prim_ops.specs.Values.{fitted}
use Rattle.ground_net.specs.declared.ground.Ground.{Ground}
use Rattle.ground_net.specs.declared.ground.Ground.TheVariants.{Const, Leaf, Mux, Load}
use Rattle.ground_net.specs.declared.net.NetMemory.{NetMemory}
use Rattle.ground_net.specs.declared.net.NetPort.{NetPort}
use Rattle.ground_net.specs.declared.net.NetWrite.{NetWrite}
use Rattle.ground_net.specs.Shapes.{Shape, shaped, Table, shape, all_of, shape_of_choice, shape_of_row, shape_of_load, same_kind, same_shape}
use Rattle.ground_net.specs.Cycles.{written_leaf, mask_leaf}
use Rattle.ground_net.proofs.Shaping.{shape-Const, shape-Leaf, shape-Op, shape-Mux, shape-Load, fitted_shape}
use Rattle.code_memories.specs.declared.leaf.MemoryLeaf.{MemoryLeaf}
use Rattle.code_memories.specs.NextReads.{zero_bit, one_bit, both_ground, unless_ground, writing_ground, reading_ground, same_ground, below_ground, over_leaf, over_ground, there_ground, captured_ground, IsUInt, HasReader, HasWriter, HasCapture}

same_itself : (s : Shape) → same_shape s s ≡ true
same_itself s = ap₂ (λ a b. a && b) (kind_itself s.kind) (number_itself s.width)
  where
    kind_itself : (k : Kind) → same_kind k k ≡ true
    kind_itself Unsigned = refl
    kind_itself Signed = refl

    number_itself : (n : ℕ) → (n == n) ≡ true
    number_itself n = grind (arith, common_steps)

abbrev bit : Shape
bit = shaped Unsigned 1

module _ (table : Table) where
  choice_of_three : (c v g : Ground) (w : ℕ) (s : Shape) → shape c table ≡ Some (shaped Unsigned w) → shape v table ≡ Some s → shape g table ≡ Some s → shape (Mux (c ∷ v ∷ g ∷ [])) table ≡ Some s
  choice_of_three c v g w s e f h =
      shape-Mux (c ∷ v ∷ g ∷ []) table
      ∙ (ap (λ a. option_and_then shape_of_choice (all_of (a ∷ shape v table ∷ shape g table ∷ []))) e
      ∙ (ap₂ (λ a b. option_and_then shape_of_choice (all_of (Some (shaped Unsigned w) ∷ a ∷ b ∷ []))) f h
      ∙ ap (λ t. if t then Some s else None) (same_itself s)))

  leaf_shaped : (x : ℕ) (h : IsUInt table x) → shape (Leaf x) table ≡ Some (shaped Unsigned h.width)
  leaf_shaped x h = shape-Leaf x table ∙ h.there

  both_shape : (x : ℕ) (rest : Ground) → IsUInt table x → shape rest table ≡ Some (shaped Unsigned 1) → shape (both_ground x rest) table ≡ Some (shaped Unsigned 1)
  both_shape x rest h e = choice_of_three (Leaf x) rest (Const zero_bit) h.width (shaped Unsigned 1) (leaf_shaped x h) e (shape-Const zero_bit table)

  unless_shape : (x : ℕ) (rest : Ground) → IsUInt table x → shape rest table ≡ Some (shaped Unsigned 1) → shape (unless_ground x rest) table ≡ Some (shaped Unsigned 1)
  unless_shape x rest h e = choice_of_three (Leaf x) (Const zero_bit) rest h.width (shaped Unsigned 1) (leaf_shaped x h) (shape-Const zero_bit table) e

  writing_shape : (en : ℕ) (mode : Option ℕ) (rest : Ground) → IsUInt table en → ((x : ℕ) → mode ≡ Some x → IsUInt table x) → shape rest table ≡ Some (shaped Unsigned 1)
      → shape (writing_ground en mode rest) table ≡ Some (shaped Unsigned 1)
  writing_shape en None rest h m e = both_shape en rest h e
  writing_shape en (Some mode) rest h m e = both_shape en (both_ground mode rest) h (both_shape mode rest (m mode refl) e)

  reading_shape : (en : ℕ) (mode : Option ℕ) (rest : Ground) → IsUInt table en → ((x : ℕ) → mode ≡ Some x → IsUInt table x) → shape rest table ≡ Some (shaped Unsigned 1)
      → shape (reading_ground en mode rest) table ≡ Some (shaped Unsigned 1)
  reading_shape en None rest h m e = both_shape en rest h e
  reading_shape en (Some mode) rest h m e = both_shape en (unless_ground mode rest) h (unless_shape mode rest (m mode refl) e)

  same_shaped : (x y : ℕ) → IsUInt table x → IsUInt table y → shape (same_ground x y) table ≡ Some (shaped Unsigned 1)
  same_shaped x y h k =
      shape-Op op.Eq (Leaf x ∷ Leaf y ∷ []) [] table ∙ ap₂ (λ a b. option_and_then (shape_of_row op.Eq []) (all_of (a ∷ b ∷ []))) (leaf_shaped x h) (leaf_shaped y k)

  below_shaped : (x n : ℕ) → IsUInt table x → shape (below_ground x (fitted Unsigned 128 (pos n))) table ≡ Some (shaped Unsigned 1)
  below_shaped x n h =
      shape-Op op.Lt (Leaf x ∷ Const (fitted Unsigned 128 (pos n)) ∷ []) [] table
      ∙ ap₂ (λ a b. option_and_then (shape_of_row op.Lt []) (all_of (a ∷ b ∷ []))) (leaf_shaped x h) (shape-Const (fitted Unsigned 128 (pos n)) table)

  load_shaped : (m k x : ℕ) (c : Ground) (w : ℕ) (s : Shape) → IsUInt table x → shape c table ≡ Some (shaped Unsigned w) → table.element m k ≡ Some s → shape (Load m k (Leaf x ∷ c ∷ [])) table ≡ Some s
  load_shaped m k x c w s h e el =
      shape-Load m k (Leaf x ∷ c ∷ []) table ∙ (ap₂ (λ a b. option_and_then (shape_of_load (table.element m k)) (all_of (a ∷ b ∷ []))) (leaf_shaped x h) e ∙ el)

  over_leaf_shape : (addr k : ℕ) (s : Shape) (port : NetPort) (g : Ground) (mask source : Option ℕ) → IsUInt table addr → HasReader table port → ((x : ℕ) → mask ≡ Some x → IsUInt table x)
      → ((x : ℕ) → source ≡ Some x → table.leaf x ≡ Some s) → shape g table ≡ Some s → shape (over_leaf addr port mask source g) table ≡ Some s
  over_leaf_shape addr k s port g None source a r m d e = e
  over_leaf_shape addr k s port g (Some q) None a r m d e = e
  over_leaf_shape addr k s port g (Some q) (Some x) a r m d e =
      choice_of_three (writing_ground port.en port.mode (both_ground q (same_ground port.addr addr))) (Leaf x) g 1 s
      (writing_shape port.en port.mode (both_ground q (same_ground port.addr addr)) r.en r.mode (both_shape q (same_ground port.addr addr) (m q refl) (same_shaped port.addr addr r.addr a)))
      (shape-Leaf x table ∙ d x refl) e

  over_shape : (addr k : ℕ) (s : Shape) (port : NetPort) (g : Ground) (o : Option NetWrite) → IsUInt table addr → ((write : NetWrite) → o ≡ Some write → HasWriter table k s port write) → shape g table ≡ Some s
      → shape (over_leaf addr port (mask_leaf o k) (written_leaf o k) g) table ≡ Some s
  over_shape addr k s port g None a h e = e
  over_shape addr k s port g (Some write) a h e = let w = h write refl in over_leaf_shape addr k s port g (slice_get write.masks k) (slice_get write.leaves k) a w.reader w.mask w.source e

  all_over_shape : (addr k : ℕ) (s : Shape) (ports : List NetPort) (g : Ground) → IsUInt table addr → All (λ writer. (write : NetWrite) → writer.write ≡ Some write → HasWriter table k s writer write) ports
      → shape g table ≡ Some s → shape (fold (λ h writer. over_ground addr k writer h) g ports) table ≡ Some s
  all_over_shape addr k s [] g a each e = e
  all_over_shape addr k s (port ∷ ports) g a each e =
      all_over_shape addr k s ports (over_ground addr k port g) a (λ j d lt. each (suc j) d (omega (arith, lt))) (over_shape addr k s port g port.write a (each 0 port (omega arith)) e)

  pub captured_shape : (memory : NetMemory) (port : NetPort) (of : MemoryLeaf) (after : Bool) → HasCapture table memory port of → shape (captured_ground memory port of after) table ≡ Some (shaped of.kind of.width)
  captured_shape memory port of true h =
      let s = shaped of.kind of.width in
      let bound = fitted Unsigned 128 (pos memory.depth) in
      choice_of_three (reading_ground port.en port.mode (below_ground port.addr bound)) (fold (λ g writer. over_ground port.addr of.number writer g) (there_ground port.addr of) memory.ports) (Const (fitted of.kind of.width (pos 0))) 1 s
      (reading_shape port.en port.mode (below_ground port.addr bound) h.reader.en h.reader.mode (below_shaped port.addr memory.depth h.reader.addr))
      (all_over_shape port.addr of.number s memory.ports (there_ground port.addr of) h.reader.addr h.writers (load_shaped of.memory of.number port.addr (Const one_bit) 1 s h.reader.addr (shape-Const one_bit table) h.element))
      (shape-Const (fitted of.kind of.width (pos 0)) table ∙ ap Some (fitted_shape of.kind of.width (pos 0) of.narrow))
  captured_shape memory port of false h =
      load_shaped of.memory of.number port.addr (reading_ground port.en port.mode (Const one_bit)) 1 (shaped of.kind of.width) h.reader.addr
      (reading_shape port.en port.mode (Const one_bit) h.reader.en h.reader.mode (shape-Const one_bit table)) h.element
