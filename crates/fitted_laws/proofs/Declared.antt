-- What a declaration with its filled type is.
use Rattle.std.proofs.Common.{◌≡◌, ◌≢◌, ℕ, Bool, true, false, List, [], ◌∷◌, map, length, get_or, Some, sym, ap, ◌∙◌, subst, ⊎_elim}
use Rattle.std.specs.Prelude.{Contains}
use Rattle.std.proofs.lemmas.List.Elements.{Contains-append_cases}
use Rattle.std.specs.List.{AllByRecursion}
use Rattle.fir_types.specs.declared.fir_type.FirType.{FirType}
use Rattle.fir_types.specs.declared.leaf.TypeLeaf.{TypeLeaf}
use Rattle.fir_types.specs.declared.leaf.PathStep.{PathStep}
use Rattle.fir_types.specs.declared.memory.Memory.{Memory}
use Rattle.fir_types.specs.Leaves.{leaves, way_of}
use Rattle.fir_types.specs.Memories.{element_of}
use Rattle.fir_types.specs.Bundles.{memory_of}
use Rattle.fir_types.specs.Passivity.{has_flip}
use Rattle.fir_types.specs.Equivalence.{Equivalent}
use Rattle.fir_types.proofs.Ways.{same_ways}
use Rattle.fir_types.proofs.Masks.{straight}
use Rattle.prim_ops.specs.declared.widths.Width.{Width}
use Rattle.prim_ops.specs.declared.widths.Width.TheVariants.{Bits}
use Rattle.fir_tree.specs.declared.expr.Expr.{Expr}
use Rattle.fir_types.specs.Leaves.{has_clock}
use Rattle.type_check.specs.Texts.{twice_in}
use Rattle.type_check.specs.Memories.{memory_faults}
use Rattle.width_rules.specs.declared.slot.Slot.{Slot}
use Rattle.width_rules.specs.Places.{size}
use Rattle.width_rules.specs.Solutions.{IsWidth}
use Rattle.width_rules.specs.Sources.{formula_of}
use Rattle.width_rules.specs.Circuits.{memory_slots, instance_in, WithPorts}
use Rattle.width_rules.proofs.Bounds.{Each}
use Rattle.width_rules.proofs.Monotone.{width_is_width}
use Rattle.type_filling.specs.Filling.{filled}
use Rattle.width_fit.specs.Judging.{slot_width}
use Rattle.fir_meaning.specs.Components.{Declaration, A_node, A_memory, An_instance}
use Rattle.fir_meaning.specs.States.{is_register}
use Rattle.fir_meaning.specs.WellTyped.{Known, typed, is_narrow}
use Rattle.circuit_laws.specs.Names.{Every}
use Rattle.fitted_laws.proofs.Filling.{leaf_shapes, filled_equivalent, filled_narrow}
use Rattle.fitted_laws.proofs.Once.{Differ, leaves_differ}
use Rattle.fir_names.proofs.Members.{Contains-none, Contains-one}

module _ (ws : List Width) (with_ports : List WithPorts) where
  pub record IsDeclared (K : Known) (d : Declaration) (typ : FirType) : Type 0 where
    pub node : (e : Expr) → d.sort ≡ A_node e → typed e K ≡ Some (leaf_shapes typ)
    pub passive : (e : Expr) → d.sort ≡ A_node e → (l : TypeLeaf) → Contains (leaves typ) l → l.flip ≡ false
    pub narrow : is_narrow typ ≡ true
    pub ways : Differ (leaves typ)
    pub instance : (target : ℕ) → d.sort ≡ An_instance target → typ ≡ filled (instance_in with_ports target).part.typ (map (slot_width ws) (instance_in with_ports target).slots)
    pub memory : (m : Memory) → d.sort ≡ A_memory m → (element : List Slot) × (length element ≡ size (element_of m)) × (typ ≡ filled (memory_of m) (map (slot_width ws) (memory_slots m element)))
    pub elements : (m : Memory) → d.sort ≡ A_memory m → is_narrow (element_of m) ≡ true
    pub register : is_register d.sort ≡ true → (t : FirType) × Equivalent t typ × (has_clock t ≡ false) × (has_flip t ≡ false)
    pub stored : (m : Memory) → d.sort ≡ A_memory m → memory_faults m ≡ []

  slots_bounded : ((k : ℕ) → IsWidth (get_or ws k (Bits 0))) → (slots : List Slot) → Each IsWidth (map (slot_width ws) slots)
  slots_bounded b [] = tt
  slots_bounded b (s ∷ ss) = (width_is_width ws b (formula_of s), slots_bounded b ss)

  pub slots_narrow : ((k : ℕ) → IsWidth (get_or ws k (Bits 0))) → (t : FirType) (slots : List Slot) → is_narrow (filled t (map (slot_width ws) slots)) ≡ true
  slots_narrow b t slots = filled_narrow t (map (slot_width ws) slots) (slots_bounded b slots)

  every_path : (p : List PathStep) (ls ms : List TypeLeaf) → map way_of ls ≡ map way_of ms → Every TypeLeaf (λ m. p ≢ m.path) ls → Every TypeLeaf (λ m. p ≢ m.path) ms
  every_path p [] [] e h = tt
  every_path p [] (m ∷ ms) e h = cc
  every_path p (l ∷ ls) [] e h = cc
  every_path p (l ∷ ls) (m ∷ ms) e h =
      let way : way_of l ≡ way_of m = cc in
      let same : l.path ≡ m.path = ap (λ (w : List PathStep × Bool). w.0) way in
      let rest : map way_of ls ≡ map way_of ms = cc in
      (λ q. h.0 (q ∙ sym same), every_path p ls ms rest h.1)

  differ_ways : (ls ms : List TypeLeaf) → map way_of ls ≡ map way_of ms → Differ ls → Differ ms
  differ_ways [] [] e h = tt
  differ_ways [] (m ∷ ms) e h = cc
  differ_ways (l ∷ ls) [] e h = cc
  differ_ways (l ∷ ls) (m ∷ ms) e h =
      let way : way_of l ≡ way_of m = cc in
      let same : l.path ≡ m.path = ap (λ (w : List PathStep × Bool). w.0) way in
      let rest : map way_of ls ≡ map way_of ms = cc in
      (subst (λ p. Every TypeLeaf (λ x. p ≢ x.path) ms) same (every_path l.path ls ms rest h.0), differ_ways ls ms rest h.1)

  pub filled_differ : (t : FirType) (vs : List Width) → twice_in t ≡ [] → Differ (leaves (filled t vs))
  filled_differ t vs h = differ_ways (leaves t) (leaves (filled t vs)) (same_ways (filled_equivalent t vs)) (leaves_differ t h)

  pub straight_ways : (ls ms : List TypeLeaf) → map way_of ls ≡ map way_of ms → AllByRecursion (λ (l : TypeLeaf). l.flip ≡ false) ls → (m : TypeLeaf) → Contains ms m → m.flip ≡ false
  straight_ways [] [] e h m i = absurd (Contains-none i)
  straight_ways [] (x ∷ ms) e h m i = cc
  straight_ways (l ∷ ls) [] e h m i = cc
  straight_ways (l ∷ ls) (x ∷ ms) e h m i =
      let way : way_of l ≡ way_of x = cc in
      let same : l.flip ≡ x.flip = ap (λ (w : List PathStep × Bool). w.1) way in
      let rest : map way_of ls ≡ map way_of ms = cc in
      ⊎_elim (λ a. subst (λ (z : TypeLeaf). z.flip ≡ false) (sym (Contains-one a)) (sym same ∙ h.0)) (λ b. straight_ways ls ms rest h.1 m b) (Contains-append_cases (x ∷ []) ms _ i)

  pub filled_straight : (t : FirType) (vs : List Width) → has_flip t ≡ false → (m : TypeLeaf) → Contains (leaves (filled t vs)) m → m.flip ≡ false
  filled_straight t vs h = straight_ways (leaves t) (leaves (filled t vs)) (same_ways (filled_equivalent t vs)) (straight t h)

  -- a declaration that is no node, no instance and no memory
  pub plain_declared : ((k : ℕ) → IsWidth (get_or ws k (Bits 0))) → (K : Known) (d : Declaration) (t : FirType) (slots : List Slot) → twice_in t ≡ []
      → ((e : Expr) → d.sort ≢ A_node e) → ((target : ℕ) → d.sort ≢ An_instance target) → ((m : Memory) → d.sort ≢ A_memory m)
      → (is_register d.sort ≡ true → (has_clock t ≡ false) × (has_flip t ≡ false)) → IsDeclared K d (filled t (map (slot_width ws) slots))
  plain_declared b K d t slots h node instance memory register = record {
    node = λ e s. absurd (node e s);
    passive = λ e s l i. absurd (node e s);
    narrow = slots_narrow b t slots;
    ways = filled_differ t (map (slot_width ws) slots) h;
    instance = λ target s. absurd (instance target s);
    memory = λ m s. absurd (memory m s);
    elements = λ m s. absurd (memory m s);
    register = λ r. let holds = register r in (t, filled_equivalent t (map (slot_width ws) slots), holds.0, holds.1);
    stored = λ m s. absurd (memory m s);
  }
