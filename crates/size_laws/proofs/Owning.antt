-- What a module has of its own is what its declarations have, together.
use Rattle.std.proofs.Common.{◌≡◌, ℕ, ◌+◌, Bool, true, false, if◌then◌else◌, List, [], ◌∷◌, map, refl, sym, ap, ap₂, ◌∙◌, subst}
use Rattle.std.specs.List.{flat_map}
use Rattle.std.proofs.lemmas.List.Concat.{flat_map-cons}
use Rattle.fir_types.specs.declared.fir_type.FirType.{FirType}
use Rattle.fir_types.specs.declared.port.Port.{Port}
use Rattle.fir_types.specs.Leaves.{count}
use Rattle.fir_tree.specs.declared.circuit.Module.{Module}
use Rattle.fir_tree.specs.declared.stmt.Stmt.{Stmt, ind-Stmt}
use Rattle.fir_tree.specs.declared.stmt.Arm.{Arm}
use Rattle.fir_tree.specs.declared.stmt.Stmt.TheOpen.{Stmt-F, Arm-F}
use Rattle.fir_tree.specs.declared.stmt.Stmt.TheFolds.{map-Stmt, map-Arm, fold-roll-Stmt, fold-roll-Arm}
use Rattle.fir_tree.specs.declared.stmt.Stmt.TheViews.{roll-Stmt, roll-Arm}
use Rattle.fir_tree.specs.LeafNames.{Texts}
use Rattle.fir_meaning.specs.Components.{Sort, An_input, An_output, A_wire, A_register, A_reset_register, A_memory, An_instance, A_node}
use Rattle.size_check.specs.declared.sums.Sums.{Sums}
use Rattle.size_check.specs.Measures.{nothing, plus, together}
use Rattle.size_check.specs.Weights.{Typing}
use Rattle.size_check.specs.Typings.{typing_in}
use Rattle.size_check.specs.Owns as own
use Rattle.size_check.specs.Owns.{Own, OwnArm, flat, stored, celled, cells, captured, all_own, arms_own, stmt_own, arm_own, port_own, module_own}
use Rattle.size_laws.specs.Pieces.{Piece, all_pieces, of_stmt, of_arm, stmt_pieces, arm_pieces, port_piece, pieces_of}
use Rattle.size_laws.proofs.Sums.{unsized, plus_nothing, nothing_plus, mapped-append}

-- What a declaration has.
abbrev pub sums_of : Texts → ℕ → FirType → Sort → Sums
sums_of texts name typ An_input = flat texts name typ
sums_of texts name typ An_output = flat texts name typ
sums_of texts name typ A_wire = flat texts name typ
sums_of texts name typ (A_register clock) = plus (flat texts name typ) (stored (count typ))
sums_of texts name typ (A_reset_register clock reset init) = plus (flat texts name typ) (stored (count typ))
sums_of texts name typ (A_memory memory) = plus (flat texts name typ) (plus (celled texts name (cells memory)) (stored (captured memory)))
sums_of texts name typ (An_instance target) = nothing
sums_of texts name typ (A_node e) = flat texts name typ

abbrev pub piece_sums : Texts → Piece → Sums
piece_sums texts p = sums_of texts p.name p.typ p.sort

module _ (texts : Texts) (types : Typing) where
  abbrev sums : List Piece → Sums
  sums ps = together (map (piece_sums texts) ps)

  abbrev Sized : Stmt → Type 0
  Sized s = (around : ℕ) → unsized (stmt_own texts types s around) ≡ sums (stmt_pieces types s)

  abbrev ArmSized : Arm → Type 0
  ArmSized a = (around : ℕ) → unsized ((arm_own texts types a).body around) ≡ sums (arm_pieces types a)

  one_more : (x : List Piece) (xs : List (List Piece)) → sums (all_pieces (x ∷ xs)) ≡ plus (sums x) (sums (all_pieces xs))
  one_more x xs = ap sums (flat_map-cons (λ l. l) x xs) ∙ mapped-append (piece_sums texts) x (all_pieces xs)

  block_sized : (ps : List ((s : Stmt) × Sized s)) (around : ℕ)
      → unsized (all_own (map (stmt_own texts types) (map (λ e. e.0) ps)) around) ≡ sums (all_pieces (map (stmt_pieces types) (map (λ e. e.0) ps)))
  block_sized [] around = refl
  block_sized (p ∷ ps) around = ap₂ plus (p.1 around) (block_sized ps around) ∙ sym (one_more (stmt_pieces types p.0) (map (stmt_pieces types) (map (λ e. e.0) ps)))

  arms_sized : (ps : List ((a : Arm) × ArmSized a)) (around : ℕ)
      → unsized (arms_own (map (arm_own texts types) (map (λ e. e.0) ps)) around) ≡ sums (all_pieces (map (arm_pieces types) (map (λ e. e.0) ps)))
  arms_sized [] around = refl
  arms_sized (p ∷ ps) around =
      ap₂ plus (p.1 (around + (arm_own texts types p.0).nodes)) (arms_sized ps (around + (arm_own texts types p.0).nodes))
      ∙ sym (one_more (arm_pieces types p.0) (map (arm_pieces types) (map (λ e. e.0) ps)))

  sized_at : (z : Stmt-F Stmt Arm)
      → ((around : ℕ) → unsized (own.of_stmt texts types (map-Stmt Stmt Arm Own OwnArm (stmt_own texts types) (arm_own texts types) z) around)
      ≡ sums (of_stmt types (map-Stmt Stmt Arm (List Piece) (List Piece) (stmt_pieces types) (arm_pieces types) z)))
      → Sized (roll-Stmt z)
  sized_at z h around =
      ap (λ (o : Own). unsized (o around)) (fold-roll-Stmt Own OwnArm (own.of_stmt texts types) (own.of_arm types) z) ∙ h around
      ∙ sym (ap sums (fold-roll-Stmt (List Piece) (List Piece) (of_stmt types) of_arm z))

  alone : (a : Sums) → plus nothing a ≡ plus a nothing
  alone a = nothing_plus a ∙ sym (plus_nothing a)

  sized_layer : (y : Stmt-F ((s : Stmt) × Sized s) ((a : Arm) × ArmSized a)) → Sized (roll-Stmt (map-Stmt _ _ Stmt Arm (λ e. e.0) (λ e. e.0) y))
  sized_layer (Stmt-F.Wire name typ) = sized_at (Stmt-F.Wire name typ) (λ around. alone (flat texts name.id typ))
  sized_layer (Stmt-F.Reg name typ clock) = sized_at (Stmt-F.Reg name typ clock) (λ around. alone (plus (flat texts name.id typ) (stored (count typ))))
  sized_layer (Stmt-F.RegReset name typ clock reset init) = sized_at (Stmt-F.RegReset name typ clock reset init) (λ around. alone (plus (flat texts name.id typ) (stored (count typ))))
  sized_layer (Stmt-F.Mem memory) = sized_at (Stmt-F.Mem memory)
      (λ around. alone (plus (flat texts memory.name.id (types memory.name.id)) (plus (celled texts memory.name.id (cells memory)) (stored (captured memory)))))
  sized_layer (Stmt-F.Inst name target) = sized_at (Stmt-F.Inst name target) (λ around. refl)
  sized_layer (Stmt-F.Node name expr) = sized_at (Stmt-F.Node name expr) (λ around. alone (flat texts name.id (types name.id)))
  sized_layer (Stmt-F.Connect left right) = sized_at (Stmt-F.Connect left right) (λ around. refl)
  sized_layer (Stmt-F.Invalidate target) = sized_at (Stmt-F.Invalidate target) (λ around. refl)
  sized_layer (Stmt-F.Skip place) = sized_at (Stmt-F.Skip place) (λ around. refl)
  sized_layer (Stmt-F.When arms other) =
      let xs : List Arm = map (λ e. e.0) arms in
      let ys : List Stmt = map (λ e. e.0) other in
      sized_at (Stmt-F.When xs ys) (λ around.
      let inner = arms_own (map (arm_own texts types) xs) around in
      let later = around + own.nodes_in (map (arm_own texts types) xs) in
      nothing_plus (plus (unsized inner) (unsized (all_own (map (stmt_own texts types) ys) later)))
      ∙ ap₂ plus (arms_sized arms around) (block_sized other later)
      ∙ sym (mapped-append (piece_sums texts) (all_pieces (map (arm_pieces types) xs)) (all_pieces (map (stmt_pieces types) ys))))

  sized_arm_layer : (y : Arm-F ((s : Stmt) × Sized s) ((a : Arm) × ArmSized a)) → ArmSized (roll-Arm (map-Arm _ _ Stmt Arm (λ e. e.0) (λ e. e.0) y))
  sized_arm_layer y around =
      let z : Arm-F Stmt Arm = map-Arm _ _ Stmt Arm (λ e. e.0) (λ e. e.0) y in
      ap (λ (o : OwnArm). unsized (o.body around)) (fold-roll-Arm Own OwnArm (own.of_stmt texts types) (own.of_arm types) z)
      ∙ block_sized y.body around
      ∙ sym (ap sums (fold-roll-Arm (List Piece) (List Piece) (of_stmt types) of_arm z))

  stmt_sized : (s : Stmt) → Sized s
  stmt_sized = ind-Stmt Sized ArmSized (λ x y is. subst (λ z. Sized (roll-Stmt z)) is (sized_layer y)) (λ x y is. subst (λ z. ArmSized (roll-Arm z)) is (sized_arm_layer y))

  body_sized : (ss : List Stmt) (around : ℕ) → unsized (all_own (map (stmt_own texts types) ss) around) ≡ sums (flat_map (stmt_pieces types) ss)
  body_sized [] around = refl
  body_sized (s ∷ ss) around =
      ap₂ plus (stmt_sized s around) (body_sized ss around)
      ∙ sym (mapped-append (piece_sums texts) (stmt_pieces types s) (flat_map (stmt_pieces types) ss))
      ∙ sym (ap sums (flat_map-cons (stmt_pieces types) s ss))

  port_sized : (port : Port) → unsized (port_own texts port) ≡ piece_sums texts (port_piece port)
  port_sized port = nothing_plus (flat texts port.name.id port.typ) ∙ by port.output
    where
      by : (b : Bool) → flat texts port.name.id port.typ ≡ sums_of texts port.name.id port.typ (if b then An_output else An_input)
      by true = refl
      by false = refl

  ports_sized : (ports : List Port) → unsized (together (map (port_own texts) ports)) ≡ sums (map port_piece ports)
  ports_sized [] = refl
  ports_sized (port ∷ ports) = ap₂ plus (port_sized port) (ports_sized ports)

pub own_sized : (texts : Texts) (modules : List Module) (holder : Module) → unsized (module_own texts modules holder) ≡ together (map (piece_sums texts) (pieces_of modules holder))
own_sized texts modules holder =
    let types = typing_in modules holder in
    ap₂ plus (ports_sized texts types holder.ports) (body_sized texts types holder.body 0)
    ∙ sym (mapped-append (piece_sums texts) (map port_piece holder.ports) (flat_map (stmt_pieces types) holder.body))
