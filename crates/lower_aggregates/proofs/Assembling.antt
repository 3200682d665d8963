-- A module is what its parts say.
use Rattle.std.proofs.Common.{◌≡◌, ℕ, zero, suc, ◌+◌, ◌<◌, ◌&&◌, Bool, true, false, List, [], ◌∷◌, map, zip, length, slice_index_or, Option, Some, None, refl, sym, ap, ◌∙◌, subst, arith, true≢false}
use Rattle.std.specs.Prelude.{Contains, nat_eq, is_some}
use Rattle.std.specs.Map.{lookup}
use Rattle.std.specs.List.{slice_get, flat_map, sum_by, list_all}
use Rattle.std.proofs.lemmas.List.{length-map}
use Rattle.std.proofs.lemmas.Option.{slice_get-get_or}
use Rattle.fir_types.specs.declared.fir_type.FirType.{FirType}
use Rattle.fir_types.specs.Leaves.{leaves}
use Rattle.fir_tree.specs.declared.circuit.Circuit.{Circuit}
use Rattle.fir_tree.specs.declared.circuit.Module.{Module}
use Rattle.fir_tree.specs.declared.scope.Scope.{Scope}
use Rattle.fir_tree.specs.LeafNames.{Texts}
use Rattle.circuit_laws.proofs.Scoping.{declared_once}
use Rattle.fir_meaning.specs.Components.{TypedModule, Component, Sort, An_input, An_output, A_wire, A_register, A_reset_register, A_memory, An_instance, A_node, declarations_of, type_in}
use Rattle.fir_meaning.specs.WellTyped.{Known, are_typed, is_condition, is_typed}
use Rattle.ground_net.specs.declared.circuit.GroundLeaf.{GroundLeaf}
use Rattle.ground_net.specs.declared.circuit.GroundStmt.{GroundStmt}
use Rattle.ground_net.specs.declared.circuit.GroundMemory.{GroundMemory}
use Rattle.ground_net.specs.declared.circuit.GroundInstance.{GroundInstance}
use Rattle.ground_net.specs.declared.net.NetRegister.{NetRegister}
use Rattle.net_of_circuit.specs.Numbers.{number_of, table_of}
use Rattle.net_of_circuit.specs.Lowering.{IsGroundModule}
use Rattle.ground_exprs.specs.Sources.{Entries, AreNarrow, Knows, known_of}
use Rattle.lower_aggregates.specs.declared.pieces.Piece.{Piece}
use Rattle.lower_aggregates.specs.Headings.{Heading, headings_of}
use Rattle.lower_aggregates.specs.Parts.{Part, parts_from, parts_of, component_parts}
use Rattle.lower_aggregates.specs.Held.{held_sort, held_part, ArePieces}
use Rattle.lower_aggregates.specs.Tables.{leaf_row, piece_rows, flags_of_piece, port_size}
use Rattle.lower_aggregates.specs.Views.{KnowsPieces, AreNamedOnce}
use Rattle.lower_aggregates.proofs.Listing.{headings_are}
use Rattle.lower_aggregates.proofs.Zipping.{parts_are}
use Rattle.lower_aggregates.proofs.Viewing.{named_once, component_known, known_component}
use Rattle.lower_aggregates.proofs.ModuleRows.{ports_counted, flags_listed, flag_at, table_listed, table_counted, table_leaf, table_shape}
use Rattle.ground_statements.specs.Bodies.{IsViewOf, HasTable, IsBody, IsWholeBody}
use Rattle.ground_statements.proofs.Views.{narrow_view, typed_view, knows_view, number_at}
use Rattle.ground_statements.proofs.Wholes.{whole_body}
use Rattle.lower_aggregates.specs.Registers.{AreRegisters, IsTypedSort, is_typed_sort}
use Rattle.lower_aggregates.specs.Memories.{memory_row, memories_in}
use Rattle.lower_aggregates.specs.Instances.{Numbers, IsMade, instance_row, instances_from}
use Rattle.lower_aggregates.specs.Modules.{IsLowerable}
use Rattle.lower_aggregates.proofs.RegisterLists.{register_leaves}
use Rattle.lower_aggregates.proofs.Together.{resets_are, instances_are}
use Rattle.lower_aggregates.proofs.TypedSorts.{sorts_typed}
use Rattle.lower_aggregates.proofs.MemoryLists.{memories_are}
use Rattle.lower_aggregates.proofs.PartLists.{memories_counted, instances_counted}
use Rattle.lower_aggregates.proofs.Unported.{ports_before}

some_same : {A : Type 0} {x y : A} → Some x ≡ Some y → x ≡ y
some_same {A} {x} e = ap (or_first x) e
  where
    or_first : A → Option A → A
    or_first d (Some z) = z
    or_first d None = d

none_some : {A : Type 0} {B : Type 0} {x : A} → None ≡ Some x → B
none_some e = absurd cc

map_at : {A B : Type 0} (h : A → B) (xs : List A) (k : ℕ) (x : A) → slice_get xs k ≡ Some x → slice_get (map h xs) k ≡ Some (h x)
map_at h [] k x e = none_some e
map_at h (a ∷ xs) zero x e = ap Some (ap h (some_same e))
map_at h (a ∷ xs) (suc k) x e = map_at h xs k x e

both_true : (p q : Bool) → (p && q) ≡ true → (p ≡ true) × (q ≡ true)
both_true true q e = (refl, e)
both_true false q e = absurd (true≢false (sym e))

all_at : {A : Type 0} (f : A → Bool) (xs : List A) (k : ℕ) (x : A) → list_all f xs ≡ true → slice_get xs k ≡ Some x → f x ≡ true
all_at f [] k x h e = none_some e
all_at f (a ∷ xs) zero x h e = ap f (sym (some_same e)) ∙ (both_true (f a) (list_all f xs) h).0
all_at f (a ∷ xs) (suc k) x h e = all_at f xs k x (both_true (f a) (list_all f xs) h).1 e

-- The parts of well typed headings are well typed.
parts_typed : (known : Known) (b : ℕ) (hs : List Heading) (ts : List FirType) → list_all (λ h. is_typed_sort known h.sort) hs ≡ true → list_all (λ (p : Part). is_typed_sort known p.sort) (parts_from b (zip hs ts)) ≡ true
parts_typed known b [] ts e = refl
parts_typed known b (h ∷ hs) [] e = refl
parts_typed known b (h ∷ hs) (t ∷ ts) e =
    let q = both_true (is_typed_sort known h.sort) (list_all (λ h. is_typed_sort known h.sort) hs) e in
    ap (λ x. x && list_all (λ (p : Part). is_typed_sort known p.sort) (parts_from (b + length (leaves t)) (zip hs ts))) q.0 ∙ parts_typed known (b + length (leaves t)) hs ts q.1

sort_typed : (entries : Entries) (s : Sort) → is_typed_sort (known_of entries) s ≡ true → IsTypedSort entries s
sort_typed entries (A_reset_register clock reset init) e = both_true (is_condition (known_of entries) reset) (is_typed (known_of entries) init) e
sort_typed entries (A_register clock) e = tt
sort_typed entries An_input e = tt
sort_typed entries An_output e = tt
sort_typed entries A_wire e = tt
sort_typed entries (A_memory memory) e = tt
sort_typed entries (An_instance target) e = tt
sort_typed entries (A_node expr) e = tt

sort_made : (numbers : Numbers) (s : Sort) → ((target : ℕ) → s ≡ An_instance target → is_some (lookup (nat_eq target) numbers) ≡ true) → IsMade numbers s
sort_made numbers (An_instance target) h = h target refl
sort_made numbers (A_register clock) h = tt
sort_made numbers (A_reset_register clock reset init) h = tt
sort_made numbers An_input h = tt
sort_made numbers An_output h = tt
sort_made numbers A_wire h = tt
sort_made numbers (A_memory memory) h = tt
sort_made numbers (A_node expr) h = tt

-- a part of a module is one of its components
part_among : (b : ℕ) (cs : List Component) (k : ℕ) (p : Part) → slice_get (component_parts b cs) k ≡ Some p → (c : Component) × Contains cs c × (c.declaration.sort ≡ p.sort)
part_among b [] k p e = none_some e
part_among b (c ∷ cs) zero p e = (c, (0, omega arith, refl), ap (λ (q : Part). q.sort) (some_same e))
part_among b (c ∷ cs) (suc k) p e =
    let r = part_among (b + length (leaves c.typ)) cs k p e in
    let i = r.1 in
    (r.0, (suc i.0, omega (arith, i.1), i.2), r.2)

piece_at : (pieces : List Piece) (k : ℕ) (d : Piece) → k < length pieces → slice_get (map held_part pieces) k ≡ Some (held_part (slice_index_or pieces k d))
piece_at pieces k d below = map_at held_part pieces k (slice_index_or pieces k d) (slice_get-get_or pieces k d below)

module _ (circuit : Circuit) (scope : Scope) (numbers : Numbers) (holder : Module) (types : List FirType) (m : TypedModule) (low : IsLowerable circuit scope numbers holder types m)
    (pieces : List Piece) (held : map held_part pieces ≡ parts_from 0 (zip (headings_of holder) types)) where
  pub are : ArePieces m pieces
  are = held ∙ ap (λ hs. parts_from 0 (zip hs types)) (sym (headings_are holder)) ∙ parts_are 0 (declarations_of holder) types ∙ ap (component_parts 0) (sym low.components)

  once : AreNamedOnce m.components
  once = named_once holder m low.typed.components (declared_once circuit low.names holder low.among)

  -- The modules of its instances are known.
  pub pieces_made : (k : ℕ) (d : Piece) → k < length pieces → IsMade numbers (held_sort (slice_index_or pieces k d).sort)
  pieces_made k d below =
      let p : Part = held_part (slice_index_or pieces k d) in
      let r = part_among 0 m.components k p (ap (λ l. slice_get l k) (sym are) ∙ piece_at pieces k d below) in
      sort_made numbers p.sort (λ target e. low.made r.0 target r.1 (r.2 ∙ e))

  module _ (entries : Entries) (knows : KnowsPieces pieces entries) (settable : List Bool) (flags : settable ≡ flat_map flags_of_piece pieces) where
    view : IsViewOf m entries settable
    view = record {
      components = component_known m pieces entries are knows once;
      only = known_component m pieces entries are knows;
      flags = flag_at m settable (flags_listed m pieces settable are flags);
    }

    -- What is known is narrow, the body is well typed, and so are the resets of its registers.
    pub narrow : AreNarrow entries
    narrow = narrow_view holder m entries settable low.typed view

    pub body_typed : are_typed (known_of entries) holder.body ≡ true
    body_typed = typed_view holder m entries settable low.typed view

    pub pieces_typed : (k : ℕ) (d : Piece) → k < length pieces → IsTypedSort entries (held_sort (slice_index_or pieces k d).sort)
    pieces_typed k d below =
        let p : Part = held_part (slice_index_or pieces k d) in
        sort_typed entries p.sort (all_at (λ (q : Part). is_typed_sort (known_of entries) q.sort) (parts_from 0 (zip (headings_of holder) types)) k p
        (parts_typed (known_of entries) 0 (headings_of holder) types (sorts_typed (known_of entries) holder body_typed)) (ap (λ l. slice_get l k) (sym held) ∙ piece_at pieces k d below))

    module _ (texts : Texts) (listed : List GroundLeaf) (rows : map leaf_row listed ≡ flat_map (piece_rows texts) pieces) where
      has_table : HasTable m (table_of listed)
      has_table = record { leaf = table_shape texts holder m low.typed listed (table_listed texts m pieces listed are rows) }

      known : Knows (record { number = number_of m; table = table_of listed }) (type_in m) entries
      known = knows_view holder m entries settable (table_of listed) low.typed view has_table

      own_types : (k : ℕ) (c : Component) → slice_get m.components k ≡ Some c → type_in m c.declaration.name ≡ c.typ
      own_types k c e = let r = component_known m pieces entries are knows once k c e in known.typed c.declaration.name r.0 r.1 ∙ r.2

      whole : (ports behind : ℕ) (made : List GroundStmt) → ports ≡ sum_by port_size pieces → IsBody entries settable holder.body ports behind made → IsWholeBody m listed made
      whole ports behind made counted is =
          whole_body circuit scope low.scoped low.names holder low.among m low.typed entries settable view listed has_table ports behind made (ports_counted m pieces ports are counted ∙ ports_before holder m low.typed) is

      -- The module of these parts is the ground module of the text's.
      pub is_module : (ports behind : ℕ) (made : List GroundStmt) (registers : List NetRegister) (memories : List GroundMemory) (instances : List GroundInstance)
          → ports ≡ sum_by port_size pieces → IsBody entries settable holder.body ports behind made → AreRegisters entries (map held_part pieces) registers
          → map memory_row memories ≡ memories_in texts (map held_part pieces) → map instance_row instances ≡ instances_from texts numbers 0 (map held_part pieces)
          → IsGroundModule texts circuit m (record { ports = ports; leaves = listed; body = made; registers = registers; memories = memories; instances = instances })
      is_module ports behind made registers memories instances counted body regs mems insts =
          let w = whole ports behind made counted body in
          let rs : AreRegisters entries (parts_of m) registers = subst (λ ps. AreRegisters entries ps registers) are regs in
          let ms : map memory_row memories ≡ memories_in texts (parts_of m) = mems ∙ ap (memories_in texts) are in
          let is : map instance_row instances ≡ instances_from texts numbers 0 (parts_of m) = insts ∙ ap (instances_from texts numbers 0) are in
          record {
            counted = table_counted texts m listed (table_listed texts m pieces listed are rows);
            ports = ports_counted m pieces ports are counted;
            leaves_are = table_leaf texts holder m low.typed listed (table_listed texts m pieces listed are rows);
            values = w.values;
            reads = w.reads;
            nodes = w.nodes;
            node_reads = w.node_reads;
            shaped = w.shaped;
            registers = register_leaves entries 0 m.components registers rs;
            resets = λ n r y e f. resets_are holder m (table_of listed) low.typed entries known body_typed own_types registers rs n r y e f;
            all_memories = sym (length-map memories memory_row) ∙ ap length ms ∙ memories_counted texts 0 0 m.components;
            memories = λ k part g e f.
                memories_are texts holder m low.typed low.bundles (λ k j c leaf e f. number_at holder m entries settable low.typed view k j c leaf (record { component = e; listed = f })) memories ms k part g e f;
            all_instances = sym (length-map instances instance_row) ∙ ap length is ∙ instances_counted texts numbers 0 0 0 m.components;
            instances = λ i part gi e f. instances_are texts circuit numbers m instances low.means is i part gi e f;
          }
