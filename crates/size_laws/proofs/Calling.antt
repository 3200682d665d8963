-- The instances of a module are its declarations that make one.
use Rattle.std.proofs.Common.{◌≡◌, ℕ, Bool, true, false, if◌then◌else◌, List, [], ◌∷◌, ◌++◌, map, refl, sym, ap, ap₂, ◌∙◌, subst}
use Rattle.std.specs.List.{flat_map}
use Rattle.std.proofs.lemmas.Grind.{flat_map-append}
use Rattle.std.proofs.lemmas.List.Concat.{flat_map-cons}
use Rattle.fir_types.specs.declared.port.Port.{Port}
use Rattle.fir_tree.specs.declared.circuit.Module.{Module}
use Rattle.fir_tree.specs.declared.stmt.Stmt.{Stmt, ind-Stmt}
use Rattle.fir_tree.specs.declared.stmt.Arm.{Arm}
use Rattle.fir_tree.specs.declared.stmt.Stmt.TheOpen.{Stmt-F, Arm-F}
use Rattle.fir_tree.specs.declared.stmt.Stmt.TheFolds.{map-Stmt, map-Arm, fold-roll-Stmt, fold-roll-Arm}
use Rattle.fir_tree.specs.declared.stmt.Stmt.TheViews.{roll-Stmt, roll-Arm}
use Rattle.fir_meaning.specs.Components.{Sort, An_input, An_output, An_instance}
use Rattle.size_check.specs.declared.calls.Call.{Call}
use Rattle.size_check.specs.Weights.{Typing}
use Rattle.size_check.specs.Typings.{typing_in}
use Rattle.size_check.specs.Standings as standing
use Rattle.size_check.specs.Standings.{stmt_calls, arm_calls, calls_in}
use Rattle.size_laws.specs.Pieces.{Piece, all_pieces, of_stmt, of_arm, stmt_pieces, arm_pieces, port_piece, pieces_of}

-- the instance that a declaration makes
abbrev pub call_of : ℕ → Sort → List Call
call_of name (An_instance target) = record { name = name; target = target } ∷ []
call_of name _ = []

abbrev pub piece_call : Piece → List Call
piece_call p = call_of p.name p.sort

module _ (types : Typing) where
  abbrev calls : List Piece → List Call
  calls ps = flat_map piece_call ps

  abbrev all_calls : List (List Call) → List Call
  all_calls = flat_map (λ calls. calls)

  abbrev Called : Stmt → Type 0
  Called s = stmt_calls s ≡ calls (stmt_pieces types s)

  abbrev ArmCalled : Arm → Type 0
  ArmCalled a = arm_calls a ≡ calls (arm_pieces types a)

  one_more : (x : List Piece) (xs : List (List Piece)) → calls (all_pieces (x ∷ xs)) ≡ calls x ++ calls (all_pieces xs)
  one_more x xs = ap calls (flat_map-cons (λ l. l) x xs) ∙ flat_map-append piece_call x (all_pieces xs)

  block_called : (ps : List ((s : Stmt) × Called s)) → all_calls (map stmt_calls (map (λ e. e.0) ps)) ≡ calls (all_pieces (map (stmt_pieces types) (map (λ e. e.0) ps)))
  block_called [] = refl
  block_called (p ∷ ps) =
      flat_map-cons (λ l. l) (stmt_calls p.0) (map stmt_calls (map (λ e. e.0) ps))
      ∙ ap₂ (λ a b. a ++ b) p.1 (block_called ps) ∙ sym (one_more (stmt_pieces types p.0) (map (stmt_pieces types) (map (λ e. e.0) ps)))

  arms_called : (ps : List ((a : Arm) × ArmCalled a)) → all_calls (map arm_calls (map (λ e. e.0) ps)) ≡ calls (all_pieces (map (arm_pieces types) (map (λ e. e.0) ps)))
  arms_called [] = refl
  arms_called (p ∷ ps) =
      flat_map-cons (λ l. l) (arm_calls p.0) (map arm_calls (map (λ e. e.0) ps))
      ∙ ap₂ (λ a b. a ++ b) p.1 (arms_called ps) ∙ sym (one_more (arm_pieces types p.0) (map (arm_pieces types) (map (λ e. e.0) ps)))

  called_at : (z : Stmt-F Stmt Arm)
      → standing.of_stmt (map-Stmt Stmt Arm (List Call) (List Call) stmt_calls arm_calls z) ≡ calls (of_stmt types (map-Stmt Stmt Arm (List Piece) (List Piece) (stmt_pieces types) (arm_pieces types) z))
      → Called (roll-Stmt z)
  called_at z h = fold-roll-Stmt (List Call) (List Call) standing.of_stmt standing.of_arm z ∙ h ∙ sym (ap calls (fold-roll-Stmt (List Piece) (List Piece) (of_stmt types) of_arm z))

  called_layer : (y : Stmt-F ((s : Stmt) × Called s) ((a : Arm) × ArmCalled a)) → Called (roll-Stmt (map-Stmt _ _ Stmt Arm (λ e. e.0) (λ e. e.0) y))
  called_layer (Stmt-F.Wire name typ) = called_at (Stmt-F.Wire name typ) refl
  called_layer (Stmt-F.Reg name typ clock) = called_at (Stmt-F.Reg name typ clock) refl
  called_layer (Stmt-F.RegReset name typ clock reset init) = called_at (Stmt-F.RegReset name typ clock reset init) refl
  called_layer (Stmt-F.Mem memory) = called_at (Stmt-F.Mem memory) refl
  called_layer (Stmt-F.Inst name target) = called_at (Stmt-F.Inst name target) refl
  called_layer (Stmt-F.Node name expr) = called_at (Stmt-F.Node name expr) refl
  called_layer (Stmt-F.Connect left right) = called_at (Stmt-F.Connect left right) refl
  called_layer (Stmt-F.Invalidate target) = called_at (Stmt-F.Invalidate target) refl
  called_layer (Stmt-F.Skip place) = called_at (Stmt-F.Skip place) refl
  called_layer (Stmt-F.When arms other) =
      let xs : List Arm = map (λ e. e.0) arms in
      let ys : List Stmt = map (λ e. e.0) other in
      called_at (Stmt-F.When xs ys)
      (ap₂ (λ a b. a ++ b) (arms_called arms) (block_called other)
      ∙ sym (flat_map-append piece_call (all_pieces (map (arm_pieces types) xs)) (all_pieces (map (stmt_pieces types) ys))))

  called_arm_layer : (y : Arm-F ((s : Stmt) × Called s) ((a : Arm) × ArmCalled a)) → ArmCalled (roll-Arm (map-Arm _ _ Stmt Arm (λ e. e.0) (λ e. e.0) y))
  called_arm_layer y =
      let z : Arm-F Stmt Arm = map-Arm _ _ Stmt Arm (λ e. e.0) (λ e. e.0) y in
      fold-roll-Arm (List Call) (List Call) standing.of_stmt standing.of_arm z ∙ block_called y.body
      ∙ sym (ap calls (fold-roll-Arm (List Piece) (List Piece) (of_stmt types) of_arm z))

  stmt_called : (s : Stmt) → Called s
  stmt_called = ind-Stmt Called ArmCalled (λ x y is. subst (λ z. Called (roll-Stmt z)) is (called_layer y)) (λ x y is. subst (λ z. ArmCalled (roll-Arm z)) is (called_arm_layer y))

  body_called : (ss : List Stmt) → flat_map stmt_calls ss ≡ calls (flat_map (stmt_pieces types) ss)
  body_called [] = refl
  body_called (s ∷ ss) =
      flat_map-cons stmt_calls s ss ∙ ap₂ (λ a b. a ++ b) (stmt_called s) (body_called ss)
      ∙ sym (flat_map-append piece_call (stmt_pieces types s) (flat_map (stmt_pieces types) ss))
      ∙ sym (ap calls (flat_map-cons (stmt_pieces types) s ss))

no_calls : (ports : List Port) → flat_map piece_call (map port_piece ports) ≡ []
no_calls [] = refl
no_calls (port ∷ ports) = flat_map-cons piece_call (port_piece port) (map port_piece ports) ∙ ap₂ (λ a b. a ++ b) (by port.output) (no_calls ports)
  where
    by : (b : Bool) → call_of port.name.id (if b then An_output else An_input) ≡ []
    by true = refl
    by false = refl

pub own_called : (modules : List Module) (holder : Module) → calls_in holder ≡ flat_map piece_call (pieces_of modules holder)
own_called modules holder =
    let types = typing_in modules holder in
    body_called types holder.body
    ∙ sym (flat_map-append piece_call (map port_piece holder.ports) (flat_map (stmt_pieces types) holder.body)
    ∙ ap (λ l. l ++ flat_map piece_call (flat_map (stmt_pieces types) holder.body)) (no_calls holder.ports))
