-- What each statement declares, and which types the widths give to that.
use Rattle.std.proofs.Common.{◌≡◌, ℕ, ◌+◌, List, [], ◌∷◌, ◌++◌, map, length, refl, sym, ap, ap₂, ◌∙◌, subst, ◌⊎◌, inl, inr}
use Rattle.std.specs.List.{AllZip, flat_map}
use Rattle.std.proofs.lemmas.List.{length-map, map-append}
use Rattle.std.proofs.lemmas.Bool.{le-leb}
use Rattle.std.specs.Prelude.{true, false, Option, Some, None, if◌then◌else◌}
use Rattle.fir_types.specs.declared.fir_type.FirType.{FirType}
use Rattle.fir_types.specs.declared.name.Name.{Name}
use Rattle.fir_types.specs.declared.memory.Memory.{Memory}
use Rattle.fir_types.specs.Memories.{element_of}
use Rattle.fir_types.specs.Bundles.{memory_of}
use Rattle.prim_ops.specs.declared.widths.Width.{Width}
use Rattle.prim_ops.specs.declared.widths.Width.TheVariants.{Bits, Over}
use Rattle.fir_tree.specs.declared.circuit.Module.{Module}
use Rattle.fir_tree.specs.declared.expr.Expr.{Expr}
use Rattle.fir_tree.specs.declared.stmt.Stmt.{Stmt, ind-Stmt}
use Rattle.fir_tree.specs.declared.stmt.Arm.{Arm, fold-Arm}
use Rattle.fir_tree.specs.declared.stmt.Stmt.TheOpen.{Stmt-F, Arm-F}
use Rattle.fir_tree.specs.declared.stmt.Stmt.TheFolds.{map-Stmt, map-Arm, fold-roll-Stmt, fold-roll-Arm}
use Rattle.fir_tree.specs.declared.stmt.Stmt.TheViews.{roll-Stmt, roll-Arm}
use Rattle.fir_tree.specs.declared.part.Flow.TheVariants.{Duplex}
use Rattle.fir_tree.specs.Parts as parts
use Rattle.width_rules.specs.declared.component.Component.{Component}
use Rattle.width_rules.specs.declared.slot.Slot.{Slot}
use Rattle.width_rules.specs.Places.{Spot, spots, size, slot_of, is_open, slots_from, node_spots, node_slots}
use Rattle.width_rules.specs.Sources as sources
use Rattle.width_rules.specs.Sources.{measured}
use Rattle.width_rules.specs.Circuits.{WithPorts, modules_from, instance_in, memory_slots}
use Rattle.width_rules.proofs.Capped.{width-capped}
use Rattle.type_filling.specs.Filling.{filled, number}
use Rattle.width_fit.specs.Written.{place_widths}
use Rattle.width_fit.specs.Judging as judging
use Rattle.width_fit.specs.Judging.{Solved, survey, slot_width}
use Rattle.width_fit.proofs.Measured.{same_measured}
use Rattle.fir_meaning.specs.Components.{Declaration, An_instance, Told, ToldArm, told, of_told, of_told_arm, declared_from}
use Rattle.width_laws.specs.Declared as declared
use Rattle.width_laws.specs.Declared.{Typed, Declares, KeepsWidth, IsFilled, declared_by, type_of}
use Rattle.width_laws.proofs.Parts.{parts_of, known_more, type_is}
use Rattle.width_laws.proofs.Slots.{length-slots, memory_counted, instance_counted, instance_is}
use Rattle.width_laws.proofs.Filled.{node_counted, kept_fills, places_filled}
use Rattle.width_laws.proofs.Numbers.{AreNumbers, left_empty, right_empty, faultless_numbers, memory_numbers}

pub zip_both : {A B : Type 0} (S : A → B → Type 0) (as' bs : List A) (cs ds : List B) → AllZip S as' cs → AllZip S bs ds → AllZip S (as' ++ bs) (cs ++ ds)
zip_both S [] bs [] ds h k = k
zip_both S [] bs (c ∷ cs) ds h k = absurd h
zip_both S (a ∷ as') bs [] ds h k = absurd h
zip_both S (a ∷ as') bs (c ∷ cs) ds h k = (h.0, zip_both S as' bs cs ds h.1 k)

-- A part of a body: its declarations, their types, and what the widths' survey tells of it.
pub record Views : Type 0 where
  pub declares : List Declaration
  pub types : Declares
  pub widths : judging.Surveys

abbrev pub IsFitted : Typed → FirType → Type 0
IsFitted d typ = IsFilled d typ

-- each place has a number
pub record IsNumbered (ws : List Width) (t : FirType) : Type 0 where
  pub typ : FirType
  pub slots : List Slot
  pub counted : length slots ≡ size typ
  pub filled_is : t ≡ filled typ (map (slot_width ws) slots)
  pub numbers : AreNumbers ws slots

-- the type of an instance of this module
pub record IsInstance (ws : List Width) (modules : List WithPorts) (d : Declaration) (t : FirType) : Type 0 where
  pub target : ℕ
  pub sort_is : d.sort ≡ An_instance target
  pub filled_is : t ≡ filled (instance_in modules target).part.typ (map (slot_width ws) (instance_in modules target).slots)

-- the widths that the text gives stay
pub kept_slots : (ws : List Width) (n : ℕ) (ss : List Spot) → AllZip KeepsWidth (map (λ (spot : Spot). spot.width) ss) (map number (map (slot_width ws) (slots_from n ss)))
kept_slots ws n [] = tt
kept_slots ws n (s ∷ ss) = (one s.width, kept_slots ws (n + is_open s.width) ss) where
  one : (o : Option ℕ) → KeepsWidth o (number (slot_width ws (slot_of n o)))
  one None = tt
  one (Some w) = λ h. ap number (width-capped w ws ∙ ap (λ b. if b then Bits w else Over) (le-leb w 128 h))

pub filled_slots : (ws : List Width) (d : Typed) (slots : List Slot) → length slots ≡ size d.typ
    → (d.written ≡ true → AllZip KeepsWidth (place_widths d.typ) (map number (map (slot_width ws) slots))) → IsFilled d (filled d.typ (map (slot_width ws) slots))
filled_slots ws d slots e h =
    let counted : length (map (slot_width ws) slots) ≡ size d.typ = length-map slots (slot_width ws) ∙ e in
    record {
      widths = map (slot_width ws) slots;
      counted = counted;
      filled_is = refl;
      kept = λ w. kept_fills (place_widths d.typ) (map (slot_width ws) slots) (place_widths (filled d.typ (map (slot_width ws) slots))) (places_filled d.typ (map (slot_width ws) slots) counted) (h w);
    }

module _ (all : Solved) (modules : List Module) where
  abbrev with_ports : List WithPorts
  with_ports = modules_from 0 modules

  abbrev ws : List Width
  ws = all.widths

  abbrev pub IsSound : Declaration → FirType → Type 0
  IsSound d t = IsInstance all.widths (modules_from 0 modules) d t ⊎ IsNumbered all.widths t

  pub record Tells (v : Views) (known : sources.Known) (n : ℕ) : Type 0 where
    pub known_is : (v.types (parts_of known)).known ≡ parts_of (v.widths known n).known
    pub names : map (λ (t : Typed). t.name) (v.types (parts_of known)).types ≡ map (λ (d : Declaration). d.name) v.declares
    pub types : AllZip IsFitted (v.types (parts_of known)).types (v.widths known n).declared
    pub sound : (v.widths known n).faults ≡ [] → AllZip IsSound v.declares (v.widths known n).declared

  abbrev pub Tells_all : Views → Type 0
  Tells_all v = (known : sources.Known) (n : ℕ) → Tells v known n

  -- one part behind another
  abbrev pub both : Views → Views → Views
  both v w = record { declares = v.declares ++ w.declares; types = declared.and_then v.types w.types; widths = judging.and_then v.widths w.widths }

  pub tells_both : (v w : Views) → Tells_all v → Tells_all w → Tells_all (both v w)
  tells_both v w h k known n =
      let one = v.widths known n in
      let a : Tells v known n = h known n in
      let b : Tells w one.known (n + one.count) = k one.known (n + one.count) in
      let same : w.types (parts_of one.known) ≡ w.types (v.types (parts_of known)).known = ap w.types (sym a.known_is) in
      record {
        known_is = ap (λ z. (w.types z).known) a.known_is ∙ b.known_is;
        names = map-append (λ (t : Typed). t.name) (v.types (parts_of known)).types (w.types (v.types (parts_of known)).known).types
            ∙ ap₂ (λ x y. x ++ y) a.names (ap (λ (z : declared.Declared). map (λ (t : Typed). t.name) z.types) (sym same) ∙ b.names)
            ∙ sym (map-append (λ (d : Declaration). d.name) v.declares w.declares);
        types = zip_both IsFitted (v.types (parts_of known)).types _ one.declared _ a.types
            (subst (λ (z : declared.Declared). AllZip IsFitted z.types (w.widths one.known (n + one.count)).declared) same b.types);
        sound = λ none. zip_both IsSound v.declares w.declares one.declared _ (a.sound (left_empty one.faults _ none)) (b.sound (right_empty one.faults _ none));
      }

  abbrev pub nothing' : Views
  nothing' = record { declares = []; types = declared.nothing; widths = judging.nothing }

  pub tells_nothing : Tells_all nothing'
  tells_nothing known n = record { known_is = refl; names = refl; types = tt; sound = λ none. tt }

  -- Expressions declare nothing.

  looks : (e : Expr) → Tells_all (record { declares = []; types = declared.nothing; widths = judging.looks_at all.widths e })
  looks e known n = record { known_is = refl; names = refl; types = tt; sound = λ none. tt }

  looking : (e : Expr) (v : Views) → Tells_all v → Tells_all (record v { widths = judging.and_then (judging.looks_at all.widths e) v.widths })
  looking e v h known n =
      let a : Tells v known (n + 0) = h known (n + 0) in
      record { known_is = a.known_is; names = a.names; types = a.types; sound = λ none. a.sound (right_empty (survey all.widths e known).faults _ none) }

  asking : (e : Expr) (v : Views) → Tells_all v → Tells_all (record v { widths = judging.and_then (judging.asks all.widths e) v.widths })
  asking e v h known n =
      let a : Tells v known (n + 0) = h known (n + 0) in
      record { known_is = a.known_is; names = a.names; types = a.types; sound = λ none. a.sound (right_empty (judging.asks all.widths e known n).faults _ none) }

  -- Declarations

  abbrev stored : Name → FirType → Declaration → Views
  stored name typ d = record { declares = d ∷ []; types = declared.one true name.id (parts.part_of typ Duplex); widths = judging.of_storage all name typ }

  stored_tells : (name : Name) (typ : FirType) (d : Declaration) → d.name ≡ name.id → Tells_all (stored name typ d)
  stored_tells name typ d e known n =
      let slots : List Slot = slots_from n (spots typ) in
      record {
        known_is = known_more known name.id (record { part = parts.part_of typ Duplex; slots = slots });
        names = ap (λ x. x ∷ []) (sym e);
        types = (filled_slots all.widths (record { name = name.id; typ = typ; written = true }) slots (length-slots n (spots typ)) (λ w. kept_slots all.widths n (spots typ)), tt);
        sound = λ none. (inr (record { typ = typ; slots = slots; counted = length-slots n (spots typ); filled_is = refl; numbers = faultless_numbers all name.place slots none }), tt);
      }

  memory_tells : (memory : Memory) (d : Declaration) → d.name ≡ memory.name.id
      → Tells_all (record { declares = d ∷ []; types = declared.one false memory.name.id (parts.source_of (memory_of memory)); widths = judging.of_memory all memory })
  memory_tells memory d e known n =
      let element : List Slot = slots_from n (spots (element_of memory)) in
      let slots : List Slot = memory_slots memory element in
      let counted : length slots ≡ size (memory_of memory) = memory_counted memory element (length-slots n (spots (element_of memory))) in
      record {
        known_is = known_more known memory.name.id (record { part = parts.source_of (memory_of memory); slots = slots });
        names = ap (λ x. x ∷ []) (sym e);
        types = (filled_slots all.widths (record { name = memory.name.id; typ = memory_of memory; written = false }) slots counted (λ w. cc), tt);
        sound = λ none. (
          inr (record { typ = memory_of memory; slots = slots; counted = counted; filled_is = refl; numbers = memory_numbers all.widths memory element (faultless_numbers all memory.name.place element none) }),
          tt,
        );
      }

  instance_tells : (name target : Name) (d : Declaration) → d.name ≡ name.id → d.sort ≡ An_instance target.id
      → Tells_all (record { declares = d ∷ []; types = declared.one false name.id (parts.part_or_none (parts.instance_in modules target.id)); widths = judging.of_instance all (modules_from 0 modules) name target })
  instance_tells name target d e s known n =
      let sized : Component = instance_in (modules_from 0 modules) target.id in
      let is : parts.part_or_none (parts.instance_in modules target.id) ≡ sized.part = instance_is 0 modules target.id in
      record {
        known_is = ap (λ p. (declared.one false name.id p (parts_of known)).known) is ∙ known_more known name.id sized;
        names = ap (λ x. x ∷ []) (sym e);
        types = (subst (λ p. IsFilled (record { name = name.id; typ = p.typ; written = false }) (filled sized.part.typ (map (slot_width all.widths) sized.slots))) (sym is) (filled_slots all.widths (record { name = name.id; typ = sized.part.typ; written = false }) sized.slots (instance_counted 0 modules target.id) (λ w. cc)), tt);
        sound = λ none. (inl (record { target = target.id; sort_is = s; filled_is = refl }), tt);
      }

  node_tells : (name : Name) (e : Expr) (d : Declaration) → d.name ≡ name.id
      → Tells_all (record { declares = d ∷ []; types = λ known. declared.one false name.id (parts.source_of (type_of known e)) known; widths = judging.of_node all name e })
  node_tells name e d q known n =
      let typ : FirType = (survey all.widths e known).measured.part.typ in
      let slots : List Slot = node_slots n typ in
      let same : (measured e known).part.typ ≡ typ = sym (ap (λ (m : sources.Measured). m.part.typ) (same_measured all.widths e known)) in
      let is : type_of (parts_of known) e ≡ typ = type_is known e ∙ same in
      let counted : length slots ≡ size typ = length-slots n (node_spots typ) ∙ node_counted typ in
      record {
        known_is = ap (λ t. (declared.one false name.id (parts.source_of t) (parts_of known)).known) (type_is known e)
            ∙ known_more known name.id (record { part = parts.source_of (measured e known).part.typ; slots = node_slots n (measured e known).part.typ });
        names = ap (λ x. x ∷ []) (sym q);
        types = (subst (λ t. IsFilled (record { name = name.id; typ = t; written = false }) (filled typ (map (slot_width all.widths) slots))) (sym is) (filled_slots all.widths (record { name = name.id; typ = typ; written = false }) slots counted (λ w. cc)), tt);
        sound = λ none. (
          inr (record { typ = typ; slots = slots; counted = counted; filled_is = refl; numbers = faultless_numbers all name.place slots (right_empty (survey all.widths e known).faults _ none) }),
          tt,
        );
      }

  -- Blocks

  abbrev told_arm : Arm → ToldArm
  told_arm = fold-Arm Told ToldArm of_told of_told_arm

  abbrev arm_declares : Arm → Declares
  arm_declares = fold-Arm Declares Declares (declared.of_stmt modules) declared.of_arm

  abbrev stmt_survey : Stmt → judging.Surveys
  stmt_survey = judging.stmt_survey all (modules_from 0 modules)

  abbrev arm_survey : Arm → judging.Surveys
  arm_survey = judging.arm_survey all (modules_from 0 modules)

  abbrev layer : Stmt-F Stmt Arm → List Stmt → List Stmt → Views
  layer z block behind = record {
    declares = (of_told (map-Stmt Stmt Arm Told ToldArm told told_arm z)).declares block behind;
    types = declared.of_stmt modules (map-Stmt Stmt Arm Declares Declares (declared_by modules) arm_declares z);
    widths = judging.of_stmt all (modules_from 0 modules) (map-Stmt Stmt Arm judging.Surveys judging.Surveys stmt_survey arm_survey z);
  }

  abbrev stmt_views : Stmt → List Stmt → List Stmt → Views
  stmt_views s block behind = record { declares = (told s).declares block behind; types = declared_by modules s; widths = stmt_survey s }

  abbrev arm_views : Arm → Views
  arm_views a = record { declares = (told_arm a).declared; types = arm_declares a; widths = arm_survey a }

  abbrev StmtTells : Stmt → Type 0
  StmtTells s = (block behind : List Stmt) → Tells_all (stmt_views s block behind)

  abbrev ArmTells : Arm → Type 0
  ArmTells a = Tells_all (arm_views a)

  abbrev pub body_views : List Stmt → List Stmt → Views
  body_views ss block = record { declares = declared_from block (map told ss); types = declared.in_turn (map (declared_by modules) ss); widths = judging.in_turn (map stmt_survey ss) }

  abbrev all_arms : List Arm → Views
  all_arms arms = record { declares = flat_map (λ (arm : ToldArm). arm.declared) (map told_arm arms); types = declared.in_turn (map arm_declares arms); widths = judging.in_turn (map arm_survey arms) }

  block_tells : (ps : List ((s : Stmt) × StmtTells s)) (block : List Stmt) → Tells_all (body_views (map (λ p. p.0) ps) block)
  block_tells [] block = tells_nothing
  block_tells (p ∷ ps) block =
      let rest : List Stmt = map (λ p. p.0) ps in
      tells_both (stmt_views p.0 block (map (λ t. t.itself) (map told rest))) (body_views rest block) (p.1 block (map (λ t. t.itself) (map told rest))) (block_tells ps block)

  arms_tell : (ps : List ((a : Arm) × ArmTells a)) → Tells_all (all_arms (map (λ p. p.0) ps))
  arms_tell [] = tells_nothing
  arms_tell (p ∷ ps) = tells_both (arm_views p.0) (all_arms (map (λ p. p.0) ps)) p.1 (arms_tell ps)

  rolled : (z : Stmt-F Stmt Arm) (block behind : List Stmt) → stmt_views (roll-Stmt z) block behind ≡ layer z block behind
  rolled z block behind = λ i. record {
    declares = (fold-roll-Stmt Told ToldArm of_told of_told_arm z i).declares block behind;
    types = fold-roll-Stmt Declares Declares (declared.of_stmt modules) declared.of_arm z i;
    widths = fold-roll-Stmt judging.Surveys judging.Surveys (judging.of_stmt all (modules_from 0 modules)) (judging.of_arm all) z i;
  }

  abbrev arm_layer : Arm-F Stmt Arm → Views
  arm_layer z = record {
    declares = (of_told_arm (map-Arm Stmt Arm Told ToldArm told told_arm z)).declared;
    types = declared.of_arm (map-Arm Stmt Arm Declares Declares (declared_by modules) arm_declares z);
    widths = judging.of_arm all (map-Arm Stmt Arm judging.Surveys judging.Surveys stmt_survey arm_survey z);
  }

  arm_rolled : (z : Arm-F Stmt Arm) → arm_views (roll-Arm z) ≡ arm_layer z
  arm_rolled z = λ i. record {
    declares = (fold-roll-Arm Told ToldArm of_told of_told_arm z i).declared;
    types = fold-roll-Arm Declares Declares (declared.of_stmt modules) declared.of_arm z i;
    widths = fold-roll-Arm judging.Surveys judging.Surveys (judging.of_stmt all (modules_from 0 modules)) (judging.of_arm all) z i;
  }

  stmt_at : (z : Stmt-F Stmt Arm) → ((block behind : List Stmt) → Tells_all (layer z block behind)) → StmtTells (roll-Stmt z)
  stmt_at z h block behind = subst Tells_all (sym (rolled z block behind)) (h block behind)

  silent : (left right : Expr) → Tells_all (record { declares = []; types = declared.nothing; widths = judging.and_then (judging.looks_at all.widths left) (judging.looks_at all.widths right) })
  silent left right = looking left (record { declares = []; types = declared.nothing; widths = judging.looks_at all.widths right }) (looks right)

  stmt_case : (y : Stmt-F ((s : Stmt) × StmtTells s) ((a : Arm) × ArmTells a)) → StmtTells (roll-Stmt (map-Stmt _ _ Stmt Arm (λ e. e.0) (λ e. e.0) y))
  stmt_case (Stmt-F.Wire name typ) = stmt_at (Stmt-F.Wire name typ) (λ block behind. stored_tells name typ _ refl)
  stmt_case (Stmt-F.Reg name typ clock) = stmt_at (Stmt-F.Reg name typ clock) (λ block behind. looking clock (stored name typ _) (stored_tells name typ _ refl))
  stmt_case (Stmt-F.RegReset name typ clock reset init) = stmt_at (Stmt-F.RegReset name typ clock reset init) (λ block behind.
      looking clock (record (stored name typ _) { widths = judging.and_then (judging.asks all.widths reset) (judging.and_then (judging.looks_at all.widths init) (judging.of_storage all name typ)) })
      (asking reset (record (stored name typ _) { widths = judging.and_then (judging.looks_at all.widths init) (judging.of_storage all name typ) })
      (looking init (stored name typ _) (stored_tells name typ _ refl))))
  stmt_case (Stmt-F.Mem memory) = stmt_at (Stmt-F.Mem memory) (λ block behind. memory_tells memory _ refl)
  stmt_case (Stmt-F.Inst name target) = stmt_at (Stmt-F.Inst name target) (λ block behind. instance_tells name target _ refl refl)
  stmt_case (Stmt-F.Node name e) = stmt_at (Stmt-F.Node name e) (λ block behind. node_tells name e _ refl)
  stmt_case (Stmt-F.Connect left right) = stmt_at (Stmt-F.Connect left right) (λ block behind. silent left right)
  stmt_case (Stmt-F.Invalidate target) = stmt_at (Stmt-F.Invalidate target) (λ block behind. looks target)
  stmt_case (Stmt-F.Skip place) = stmt_at (Stmt-F.Skip place) (λ block behind. tells_nothing)
  stmt_case (Stmt-F.When arms other) = stmt_at (Stmt-F.When (map (λ e. e.0) arms) (map (λ e. e.0) other)) (λ block behind.
      let ys : List Stmt = map (λ e. e.0) other in
      tells_both (all_arms (map (λ e. e.0) arms)) (body_views ys (map (λ t. t.itself) (map told ys))) (arms_tell arms) (block_tells other (map (λ t. t.itself) (map told ys))))

  arm_case : (y : Arm-F ((s : Stmt) × StmtTells s) ((a : Arm) × ArmTells a)) → ArmTells (roll-Arm (map-Arm _ _ Stmt Arm (λ e. e.0) (λ e. e.0) y))
  arm_case y =
      let ys : List Stmt = map (λ e. e.0) y.body in
      let block : List Stmt = map (λ t. t.itself) (map told ys) in
      subst Tells_all (sym (arm_rolled (map-Arm _ _ Stmt Arm (λ e. e.0) (λ e. e.0) y))) (asking y.condition (body_views ys block) (block_tells y.body block))

  stmt_tells : (s : Stmt) → StmtTells s
  stmt_tells = ind-Stmt StmtTells ArmTells (λ x y is. subst (λ z. StmtTells (roll-Stmt z)) is (stmt_case y)) (λ x y is. subst (λ z. ArmTells (roll-Arm z)) is (arm_case y))

  pub body_tells : (ss block : List Stmt) → Tells_all (body_views ss block)
  body_tells [] block = tells_nothing
  body_tells (s ∷ ss) block =
      tells_both (stmt_views s block (map (λ t. t.itself) (map told ss))) (body_views ss block) (stmt_tells s block (map (λ t. t.itself) (map told ss))) (body_tells ss block)
