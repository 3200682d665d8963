-- The declared types of a module stand along its declarations: that of a node is the type of its expression.
use Rattle.std.proofs.Common.{◌≡◌, ◌≢◌, ℕ, zero, suc, ◌+◌, Bool, true, false, List, [], ◌∷◌, ◌++◌, map, length, Some, if◌then◌else◌, refl, sym, ap, ◌∙◌, subst, arith}
use Rattle.std.specs.Prelude.{slice_get, flat_map}
use Rattle.std.specs.List.{AllZip}
use Rattle.std.proofs.lemmas.Grind.{common_steps}
use Rattle.std.proofs.lemmas.Option.{none-some}
use Rattle.place_text.specs.declared.place.Place.{Place}
use Rattle.fir_types.specs.declared.name.Name.{Name}
use Rattle.fir_types.specs.declared.fir_type.FirType.{FirType}
use Rattle.fir_types.specs.declared.port.Port.{Port}
use Rattle.fir_tree.specs.declared.circuit.Module.{Module}
use Rattle.fir_tree.specs.declared.expr.Expr.{Expr}
use Rattle.fir_tree.specs.declared.part.Flow.TheVariants.{Duplex}
use Rattle.fir_tree.specs.declared.stmt.Stmt.{Stmt, ind-Stmt, the_lemmas as stmt_lemmas}
use Rattle.fir_tree.specs.declared.stmt.Stmt.TheVariants as stmt
use Rattle.fir_tree.specs.declared.stmt.Arm.{Arm, fold-Arm}
use Rattle.fir_tree.specs.declared.stmt.Stmt.TheOpen.{Stmt-F, Arm-F}
use Rattle.fir_tree.specs.declared.stmt.Stmt.TheFolds.{map-Stmt, map-Arm, fold-roll-Stmt, fold-roll-Arm}
use Rattle.fir_tree.specs.declared.stmt.Stmt.TheViews.{roll-Stmt, roll-Arm}
use Rattle.fir_tree.specs.Parts.{part_of}
use Rattle.type_check.specs.Parts.{Known}
use Rattle.item_lines.specs.Items.{wire_name, name_at, with_name, one_bit, zero_bit, component, heads}
use Rattle.fir_meaning.specs.Components.{An_input, An_output, A_node, Declaration, Told, ToldArm, told, of_told, of_told_arm, declared_from, declarations_of, declared_by_port}
use Rattle.width_laws.specs.Declared as declared
use Rattle.width_laws.specs.Declared.{Typed, Declares, declared_by, declared_in, type_of}
use Rattle.found_items.proofs.Lists.{zip_append}

-- the type of a node is that of its expression
pub record IsAlike (t : Typed) (d : Declaration) : Type 0 where
  pub node : (e : Expr) → d.sort ≡ A_node e → (known : Known) × (t.typ ≡ type_of known e)

no_node : (t : Typed) (d : Declaration) → ((e : Expr) → d.sort ≢ A_node e) → AllZip IsAlike (t ∷ []) (d ∷ [])
no_node t d none = (record { node = λ e is. absurd (none e is) }, tt)

-- a type that is written, that of one bit
pub record IsBit (t : Typed) : Type 0 where
  pub at : Place
  pub typ : t.typ ≡ one_bit at
  pub written : t.written ≡ true

-- the ports of a module, and what is known behind them
abbrev pub behind_ports : Module → declared.Declared
behind_ports m = declared.in_turn (map declared.of_port m.ports) []

pub ports_counted : (ports : List Port) (known : Known) → length (declared.in_turn (map declared.of_port ports) known).types ≡ length ports
ports_counted [] known = refl
ports_counted (port ∷ ports) known = ap suc (ports_counted ports (declared.of_port port known).known)

module _ (modules : List Module) where
  abbrev told_arm : Arm → ToldArm
  told_arm = fold-Arm Told ToldArm of_told of_told_arm

  abbrev arm_declares : Arm → Declares
  arm_declares = fold-Arm Declares Declares (declared.of_stmt modules) declared.of_arm

  abbrev IsAlong : Stmt → Type 0
  IsAlong s = (block behind : List Stmt) (known : Known) → AllZip IsAlike (declared_by modules s known).types ((told s).declares block behind)

  abbrev ArmIsAlong : Arm → Type 0
  ArmIsAlong a = (known : Known) → AllZip IsAlike (arm_declares a known).types (told_arm a).declared

  block_along : (ps : List ((s : Stmt) × IsAlong s)) (block : List Stmt) (known : Known)
      → AllZip IsAlike (declared.in_turn (map (declared_by modules) (map (λ e. e.0) ps)) known).types (declared_from block (map told (map (λ e. e.0) ps)))
  block_along [] block known = tt
  block_along (p ∷ ps) block known =
      let rest = map (λ t. t.itself) (map told (map (λ e. e.0) ps)) in
      zip_append IsAlike (declared_by modules p.0 known).types ((told p.0).declares block rest) _ _ (p.1 block rest known) (block_along ps block (declared_by modules p.0 known).known)

  arms_along : (ps : List ((a : Arm) × ArmIsAlong a)) (known : Known)
      → AllZip IsAlike (declared.in_turn (map arm_declares (map (λ e. e.0) ps)) known).types (flat_map (λ arm. arm.declared) (map told_arm (map (λ e. e.0) ps)))
  arms_along [] known = tt
  arms_along (p ∷ ps) known = zip_append IsAlike (arm_declares p.0 known).types (told_arm p.0).declared _ _ (p.1 known) (arms_along ps (arm_declares p.0 known).known)

  along_at : (z : Stmt-F Stmt Arm)
      → ((block behind : List Stmt) (known : Known) → AllZip IsAlike (declared.of_stmt modules (map-Stmt Stmt Arm Declares Declares (declared_by modules) arm_declares z) known).types
      ((of_told (map-Stmt Stmt Arm Told ToldArm told told_arm z)).declares block behind))
      → IsAlong (roll-Stmt z)
  along_at z h block behind known =
      subst (λ (x : Told). AllZip IsAlike (declared_by modules (roll-Stmt z) known).types (x.declares block behind)) (sym (fold-roll-Stmt Told ToldArm of_told of_told_arm z))
      (subst (λ (w : Declares). AllZip IsAlike (w known).types ((of_told (map-Stmt Stmt Arm Told ToldArm told told_arm z)).declares block behind))
      (sym (fold-roll-Stmt Declares Declares (declared.of_stmt modules) declared.of_arm z)) (h block behind known))

  along_layer : (y : Stmt-F ((s : Stmt) × IsAlong s) ((a : Arm) × ArmIsAlong a)) → IsAlong (roll-Stmt (map-Stmt _ _ Stmt Arm (λ e. e.0) (λ e. e.0) y))
  along_layer (Stmt-F.Wire name typ) = along_at (Stmt-F.Wire name typ) (λ block behind known. no_node _ _ (λ e is. cc))
  along_layer (Stmt-F.Reg name typ clock) = along_at (Stmt-F.Reg name typ clock) (λ block behind known. no_node _ _ (λ e is. cc))
  along_layer (Stmt-F.RegReset name typ clock reset init) = along_at (Stmt-F.RegReset name typ clock reset init) (λ block behind known. no_node _ _ (λ e is. cc))
  along_layer (Stmt-F.Mem memory) = along_at (Stmt-F.Mem memory) (λ block behind known. no_node _ _ (λ e is. cc))
  along_layer (Stmt-F.Inst name target) = along_at (Stmt-F.Inst name target) (λ block behind known. no_node _ _ (λ e is. cc))
  along_layer (Stmt-F.Node name value) = along_at (Stmt-F.Node name value) (λ block behind known.
      (record { node = λ e is. let same : value ≡ e = cc in (known, ap (type_of known) same) }, tt))
  along_layer (Stmt-F.Connect left right) = along_at (Stmt-F.Connect left right) (λ block behind known. tt)
  along_layer (Stmt-F.Invalidate target) = along_at (Stmt-F.Invalidate target) (λ block behind known. tt)
  along_layer (Stmt-F.Skip place) = along_at (Stmt-F.Skip place) (λ block behind known. tt)
  along_layer (Stmt-F.When arms other) =
      let xs : List Arm = map (λ e. e.0) arms in
      let ys : List Stmt = map (λ e. e.0) other in
      along_at (Stmt-F.When xs ys) (λ block behind known.
      zip_append IsAlike (declared.in_turn (map arm_declares xs) known).types (flat_map (λ arm. arm.declared) (map told_arm xs)) _ _
      (arms_along arms known) (block_along other (map (λ t. t.itself) (map told ys)) (declared.in_turn (map arm_declares xs) known).known))

  along_arm_layer : (y : Arm-F ((s : Stmt) × IsAlong s) ((a : Arm) × ArmIsAlong a)) → ArmIsAlong (roll-Arm (map-Arm _ _ Stmt Arm (λ e. e.0) (λ e. e.0) y))
  along_arm_layer y known =
      let z : Arm-F Stmt Arm = map-Arm _ _ Stmt Arm (λ e. e.0) (λ e. e.0) y in
      subst (λ (x : ToldArm). AllZip IsAlike (arm_declares (roll-Arm z) known).types x.declared) (sym (fold-roll-Arm Told ToldArm of_told of_told_arm z))
      (subst (λ (w : Declares). AllZip IsAlike (w known).types (of_told_arm (map-Arm Stmt Arm Told ToldArm told told_arm z)).declared)
      (sym (fold-roll-Arm Declares Declares (declared.of_stmt modules) declared.of_arm z)) (block_along y.body (map (λ t. t.itself) (map told (map (λ e. e.0) y.body))) known))

  along : (s : Stmt) → IsAlong s
  along = ind-Stmt IsAlong ArmIsAlong (λ x y is. subst (λ z. IsAlong (roll-Stmt z)) is (along_layer y)) (λ x y is. subst (λ z. ArmIsAlong (roll-Arm z)) is (along_arm_layer y))

  body_along : (ss : List Stmt) (block : List Stmt) (known : Known) → AllZip IsAlike (declared.in_turn (map (declared_by modules) ss) known).types (declared_from block (map told ss))
  body_along [] block known = tt
  body_along (s ∷ ss) block known =
      let rest = map (λ t. t.itself) (map told ss) in
      zip_append IsAlike (declared_by modules s known).types ((told s).declares block rest) _ _ (along s block rest known) (body_along ss block (declared_by modules s known).known)

  ports_along : (body : List Stmt) (ports : List Port) (known : Known) → AllZip IsAlike (declared.in_turn (map declared.of_port ports) known).types (map (declared_by_port body) ports)
  ports_along body [] known = tt
  ports_along body (port ∷ ports) known = (record { node = λ e is. absurd (by port.output e is) }, ports_along body ports (declared.of_port port known).known)
    where
      by : (b : Bool) (e : Expr) → (if b then An_output else An_input) ≡ A_node e → ⊥
      by true e is = cc
      by false e is = cc

  pub module_along : (m : Module) → AllZip IsAlike (declared_in modules m []).types (declarations_of m)
  module_along m =
      zip_append IsAlike (behind_ports m).types (map (declared_by_port m.body) m.ports) _ _
      (ports_along m.body m.ports []) (body_along m.body (map (λ t. t.itself) (map told m.body)) (behind_ports m).known)

  -- the wires of items

  declares-wire : (name : Name) (typ : FirType) → declared_by modules (stmt.Wire name typ) ≡ declared.one true name.id (part_of typ Duplex)
  declares-wire name typ = grind (arith, common_steps, stmt_lemmas)

  declares-connect : (left right : Expr) → declared_by modules (stmt.Connect left right) ≡ declared.nothing
  declares-connect left right = grind (arith, common_steps, stmt_lemmas)

  -- behind a head stands what is declared behind it
  head_types : (name : Name) (typ : FirType) (left right : Expr) (rest : List Stmt) (known : Known)
      → (declared.in_turn (map (declared_by modules) (stmt.Wire name typ ∷ stmt.Connect left right ∷ rest)) known).types
      ≡ record { name = name.id; typ = typ; written = true } ∷ (declared.in_turn (map (declared_by modules) rest) (declared.one true name.id (part_of typ Duplex) known).known).types
  head_types name typ left right rest known =
      ap (λ (w : Declares). (declared.and_then w (declared.and_then (declared_by modules (stmt.Connect left right)) (declared.in_turn (map (declared_by modules) rest))) known).types) (declares-wire name typ)
      ∙ ap (λ (c : Declares). (declared.and_then (declared.one true name.id (part_of typ Duplex)) (declared.and_then c (declared.in_turn (map (declared_by modules) rest))) known).types) (declares-connect left right)

  pub wire_typed : (k j : ℕ) (places : List Place) (names : List (List ℕ)) (at : Place) (rest : List Stmt) (known : Known) → slice_get places j ≡ Some at
      → (t : Typed) × (slice_get (declared.in_turn (map (declared_by modules) ((heads k places names).0 ++ rest)) known).types j ≡ Some t) × IsBit t
  wire_typed k j [] names at rest known here = absurd (none-some at here)
  wire_typed k zero (place ∷ places) names at rest known here =
      let more : List (List ℕ) = with_name names (wire_name k) in
      let wire : Name = name_at more (wire_name k) place in (
        _,
        ap (λ (l : List Typed). slice_get l 0) (head_types wire (one_bit place) (component wire) (zero_bit place) ((heads (k + 1) places more).0 ++ rest) known),
        record { at = place; typ = refl; written = refl },
      )
  wire_typed k (suc j) (place ∷ places) names at rest known here =
      let more : List (List ℕ) = with_name names (wire_name k) in
      let wire : Name = name_at more (wire_name k) place in
      let later = wire_typed (k + 1) j places more at rest (declared.one true wire.id (part_of (one_bit place) Duplex) known).known here in
      (later.0, ap (λ (l : List Typed). slice_get l (suc j)) (head_types wire (one_bit place) (component wire) (zero_bit place) ((heads (k + 1) places more).0 ++ rest) known) ∙ later.1, later.2)
