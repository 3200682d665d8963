-- What each statement comes to.
use Rattle.std.proofs.Common.{◌≡◌, ◌≢◌, ℕ, zero, suc, ◌+◌, Bool, true, false, not, ◌&&◌, ◌||◌, List, [], ◌∷◌, ◌++◌, map, length, get_or, replicate, Option, Some, None, refl, sym, ap, ap₂, ◌∙◌, subst, arith, slice_get, ◌⊎◌, inl, inr, ⊎_elim, append-nil, length-append}
use Rattle.std.specs.Prelude.{Contains, ⊤, is_some, nat_eq, option_map}
use Rattle.std.specs.List.{AllZip, list_all, list_any, flat_map}
use Rattle.std.specs.Map.{lookup}
use Rattle.std.proofs.lemmas.List.{length-replicate, length-map, map-append}
use Rattle.place_text.specs.declared.place.Place.{Place}
use Rattle.fir_types.specs.declared.fir_type.FirType.{FirType}
use Rattle.fir_types.specs.declared.name.Name.{Name}
use Rattle.fir_types.specs.declared.memory.Memory.{Memory}
use Rattle.fir_types.specs.Memories.{element_of}
use Rattle.fir_types.specs.Bundles.{memory_of}
use Rattle.fir_types.specs.Passivity.{has_flip}
use Rattle.fir_types.specs.Equivalence.{Equivalent}
use Rattle.fir_types.proofs.Equivalences.{turned_round, on_and_on}
use Rattle.prim_ops.specs.declared.widths.Width.{Width}
use Rattle.prim_ops.specs.declared.widths.Width.TheVariants.{Bits}
use Rattle.fir_tree.specs.declared.circuit.Module.{Module}
use Rattle.fir_tree.specs.declared.expr.Expr.{Expr}
use Rattle.fir_tree.specs.declared.stmt.Stmt.{Stmt, ind-Stmt}
use Rattle.fir_tree.specs.declared.stmt.Arm.{Arm, fold-Arm}
use Rattle.fir_tree.specs.declared.stmt.Stmt.TheOpen.{Stmt-F, Arm-F}
use Rattle.fir_tree.specs.declared.stmt.Stmt.TheFolds.{map-Stmt, map-Arm, fold-roll-Stmt, fold-roll-Arm}
use Rattle.fir_tree.specs.declared.stmt.Stmt.TheViews.{roll-Stmt, roll-Arm}
use Rattle.fir_tree.specs.declared.part.Part.{Part as APart}
use Rattle.fir_tree.specs.declared.part.Flow.{Flow}
use Rattle.fir_tree.specs.declared.part.Flow.TheVariants.{Source, Sink, Duplex}
use Rattle.fir_tree.specs.Parts.{part_of, source_of, instance_in}
use Rattle.fir_tree.specs.Kinds.{is_unsigned, is_async, is_reset}
use Rattle.type_check.specs.Parts as check
use Rattle.type_check.specs.Texts.{twice_in, stored_faults, is_passive, has_signal, are_equivalent}
use Rattle.type_check.specs.declared.fault.TypeFault.{TypeFault}
use Rattle.type_check.specs.declared.fault.TypeFault.TheVariants.{OperandKind}
use Rattle.type_check.specs.Memories.{memory_faults}
use Rattle.type_check.specs.Expressions.{found_of}
use Rattle.type_check.specs.Statements as checking
use Rattle.width_rules.specs.declared.component.Component.{Component}
use Rattle.width_rules.specs.declared.slot.Slot.{Slot}
use Rattle.width_rules.specs.declared.rule.Formula.{Formula}
use Rattle.width_rules.specs.Solutions.{IsWidth}
use Rattle.width_rules.specs.Places.{spots, size, slots_from, open_spots, node_spots, node_slots, node_size}
use Rattle.width_rules.specs.Sources as sources
use Rattle.width_rules.specs.Sources.{Measured, formula_of, measured}
use Rattle.width_rules.specs.Circuits as ruling
use Rattle.width_rules.specs.Circuits.{WithPorts, places_for, memory_slots, connected, invalidated, node_rules}
use Rattle.width_rules.proofs.Bounds.{Each}
use Rattle.type_filling.specs.Filling.{filled}
use Rattle.width_fit.specs.Judging as judging
use Rattle.width_fit.specs.Judging.{Solved, Survey, survey, slot_width, widths_of, is_unknown, where_}
use Rattle.width_fit.specs.declared.fault.WidthFault.TheVariants.{WidthUnknown}
use Rattle.fir_meaning.specs.Components.{Declaration, A_wire, A_register, A_reset_register, A_memory, An_instance, A_node, Told, ToldArm, told, of_told, of_told_arm, declared_from}
use Rattle.fir_meaning.specs.WellTyped.{Known, typed, named_type, is_narrow}
use Rattle.fir_names.specs.Extents.{Seen, Use, references}
use Rattle.fir_names.specs.Parts as parts
use Rattle.fir_names.specs.Parts.{Part, stmt_part, arm_part}
use Rattle.fir_names.proofs.Graphs.{some_same}
use Rattle.circuit_laws.proofs.Alone.{every-left, every-right}
use Rattle.circuit_laws.proofs.Scoping.{IsNamed, AllNamed, get-either}
use Rattle.fitted_laws.specs.Shaped as shaping
use Rattle.fitted_laws.specs.Shaped.{is_shaped, is_shaped_stmt, all_are}
use Rattle.fitted_laws.specs.OneBit.{one_bit}
use Rattle.fitted_laws.specs.Choices.{chooses}
use Rattle.fitted_laws.proofs.Filling.{leaf_shapes, filled_equivalent}
use Rattle.type_check.proofs.Equivalence.{is_equivalent}
use Rattle.fitted_laws.proofs.Signs.{unsigned_is, async_is}
use Rattle.fitted_laws.proofs.Asyncs.{OneWidths, node_counted, slots_one, node_slots_one}
use Rattle.fitted_laws.proofs.Steps.{left_empty, right_empty, Placed, IsGood}
use Rattle.fitted_laws.proofs.Expressions.{TKnown, WKnown, Knows, Filled, expr_found, NamesType, expr_named, unless_true, where_false, not_true, some_is, and_left, and_right}
use Rattle.fitted_laws.proofs.Once.{memory_once}
use Rattle.fitted_laws.proofs.Stored.{memory_good}
use Rattle.fitted_laws.proofs.Known.{Marks, Marked, RuleMarked, marks_allow, more_knows, more_good, knows_with, filled_with, kept_found, with_itself}
use Rattle.fitted_laws.proofs.Walking.{SeenIn, named_known, Begins, begins_more, Stands, Solves, rule_of, NamedAs, Walks, Comes, Comes_to, both, comes_both, comes_nothing, stands_still}
use Rattle.width_fit.proofs.Measured.{same_measured}
use Rattle.fitted_laws.proofs.Ruling.{NoFlip, slots_free, length-slots, free_marks, free_ruled, free_placed, open_formulas, open_counted, node_marks, node_marked, node_ruled, node_widths, connected_marked, invalidated_marked, drivable}
use Rattle.fitted_laws.proofs.Flips.{straight_spots, flips_alike, drivable_straight, source_placed, places_narrow}
use Rattle.fitted_laws.proofs.Held.{stored_holds}
use Rattle.fitted_laws.proofs.Matching.{match_by}
use Rattle.fitted_laws.proofs.OneBit as fit
use Rattle.fitted_laws.proofs.OneBit.{is_fit_stmt, is_fit_arm, is_good, is_good_bit, filled_one_bit, async_one_bit}
use Rattle.fitted_laws.proofs.Choices.{expr_small}
use Rattle.fitted_laws.proofs.Declared.{IsDeclared, slots_narrow, filled_differ, filled_straight, plain_declared}

abbrev told_arm : Arm → ToldArm
told_arm = fold-Arm Told ToldArm of_told of_told_arm

abbrev shaped_arm : Arm → Bool
shaped_arm = fold-Arm Bool Bool shaping.of_stmt shaping.of_arm

module _ (all : Solved) (modules : List Module) (with_ports : List WithPorts) (ports : ℕ) (bounded : (k : ℕ) → IsWidth (get_or all.widths k (Bits 0))) where
  abbrev ws : List Width
  ws = all.widths

  abbrev S : Known → Declaration → FirType → Type 0
  S = IsDeclared ws with_ports

  -- an expression among what stands
  pub record IsFoundIn (tk : TKnown) (wk : WKnown) (ms : Marks) (e : Expr) : Type 0 where
    pub part : APart
    pub part_is : (found_of tk e).part ≡ Some part
    pub measured_is : (survey ws e wk).measured.part ≡ part
    pub counted : length (survey ws e wk).measured.formulas ≡ size part.typ
    pub once : twice_in part.typ ≡ []
    pub placed : Placed (Marked ms) part.flow (spots part.typ) (survey ws e wk).measured.formulas
    pub ones : (survey ws e wk).faults ≡ [] → OneWidths (node_spots part.typ) (widths_of ws (survey ws e wk).measured)
    pub typed_is : (K : Known) → Filled ws wk K → (survey ws e wk).faults ≡ [] → typed e K ≡ Some (leaf_shapes (filled part.typ (widths_of ws (survey ws e wk).measured)))
    pub small_is : (K : Known) → Filled ws wk K → (survey ws e wk).faults ≡ [] → chooses K e ≡ true
    pub named_is : (K : Known) → Filled ws wk K → (survey ws e wk).faults ≡ [] → NamesType (named_type K e) (filled part.typ (widths_of ws (survey ws e wk).measured))

  found_in : (tk : TKnown) (wk : WKnown) (n : ℕ) (ms : Marks) (seen : List Seen) → Stands ports tk wk n ms → SeenIn tk seen → (e : Expr)
      → AllNamed (map (λ name. record { name = name; seen = seen }) (references e)) → (found_of tk e).faults ≡ [] → is_shaped e ≡ true → IsFoundIn tk wk ms e
  found_in tk wk n ms seen st si e au f shape =
      let r = expr_found (Marked ms) (marks_allow ms) ws tk wk st.knows e (named_known tk seen si (references e) au) f shape in
      record {
        part = r.0;
        part_is = r.1.found;
        measured_is = r.1.measured;
        counted = r.1.counted;
        once = r.1.once;
        placed = r.1.placed;
        ones = r.1.ones;
        typed_is = r.1.typed_is;
        small_is = λ K fits none. expr_small (Marked ms) (marks_allow ms) ws tk wk st.knows K fits e (named_known tk seen si (references e) au) f shape none;
        named_is = expr_named (Marked ms) (marks_allow ms) ws tk wk st.knows e (named_known tk seen si (references e) au) f shape r.0 r.1.found;
      }

  -- the names of one expression and then of others
  names_left : (seen : List Seen) (xs ys : List Name) → AllNamed (map (λ name. record { name = name; seen = seen }) (xs ++ ys)) → AllNamed (map (λ name. record { name = name; seen = seen }) xs)
  names_left seen xs ys h = every-left Use IsNamed (map (λ name. record { name = name; seen = seen }) xs) (map (λ name. record { name = name; seen = seen }) ys)
      (subst AllNamed (map-append (λ (name : Name). record { name = name; seen = seen }) xs ys) h)

  names_right : (seen : List Seen) (xs ys : List Name) → AllNamed (map (λ name. record { name = name; seen = seen }) (xs ++ ys)) → AllNamed (map (λ name. record { name = name; seen = seen }) ys)
  names_right seen xs ys h = every-right Use IsNamed (map (λ name. record { name = name; seen = seen }) xs) (map (λ name. record { name = name; seen = seen }) ys)
      (subst AllNamed (map-append (λ (name : Name). record { name = name; seen = seen }) xs ys) h)

  typed_true : (tk : TKnown) (wk : WKnown) (ms : Marks) (e : Expr) → IsFoundIn tk wk ms e → (K : Known) → Filled ws wk K → (survey ws e wk).faults ≡ [] → is_good K e ≡ true
  typed_true tk wk ms e f K fits none = ap₂ (λ a b. a && b) (ap is_some (f.typed_is K fits none)) (f.small_is K fits none)

  condition_true : (tk : TKnown) (wk : WKnown) (ms : Marks) (e : Expr) (f : IsFoundIn tk wk ms e) → is_unsigned f.part.typ ≡ true → (K : Known) → Filled ws wk K
      → (survey ws e wk).faults ++ judging.condition_faults ws (survey ws e wk) ≡ [] → is_good_bit K e ≡ true
  condition_true tk wk ms e f u K fits none =
      let own = left_empty (survey ws e wk).faults (judging.condition_faults ws (survey ws e wk)) none in
      let small = not_true _ (where_false _ _ (right_empty (survey ws e wk).faults (judging.condition_faults ws (survey ws e wk)) none)) in
      ap₂ (λ a b. a && b) (ap one_bit (f.typed_is K fits own) ∙ filled_one_bit ws (survey ws e wk).measured f.part.typ (unsigned_is f.part.typ u) small) (f.small_is K fits own)

  -- a reset is a UInt of one bit at most or an AsyncReset
  reset_true : (tk : TKnown) (wk : WKnown) (ms : Marks) (e : Expr) (f : IsFoundIn tk wk ms e) → is_reset f.part.typ ≡ true → (K : Known) → Filled ws wk K
      → (survey ws e wk).faults ++ judging.condition_faults ws (survey ws e wk) ≡ [] → is_good_bit K e ≡ true
  reset_true tk wk ms e f u K fits none = by (is_unsigned f.part.typ) (is_async f.part.typ) refl refl u where
    own : (survey ws e wk).faults ≡ []
    own = left_empty (survey ws e wk).faults (judging.condition_faults ws (survey ws e wk)) none

    by : (a b : Bool) → is_unsigned f.part.typ ≡ a → is_async f.part.typ ≡ b → (a || b) ≡ true → is_good_bit K e ≡ true
    by true b p q h = condition_true tk wk ms e f p K fits none
    by false true p q h = ap₂ (λ a b. a && b) (ap one_bit (f.typed_is K fits own) ∙ async_one_bit f.part.typ (async_is f.part.typ q) (widths_of ws (survey ws e wk).measured)) (f.small_is K fits own)
    by false false p q h = cc

  -- A declaration

  -- what a declaring statement brings
  record Brings (w : Walks) (tk : TKnown) (wk : WKnown) (n : ℕ) (ms : Marks) (i : ℕ) : Type 0 where
    pub name : ℕ
    pub sized : Component
    pub marks : Marks
    pub d : Declaration
    pub types_known : (w.types tk).known ≡ check.known_with tk name (Some sized.part)
    pub rules_known : (w.rules wk n).known ≡ sources.known_with wk name sized
    pub widths_known : (w.widths wk n).known ≡ sources.known_with wk name sized
    pub count : (w.widths wk n).count ≡ length (w.rules wk n).places
    pub marks_count : length marks ≡ length (w.rules wk n).places
    pub good : IsGood (Marked (ms ++ marks)) sized
    pub declares : w.declares ≡ d ∷ []
    pub d_name : d.name ≡ name
    pub declared : (w.widths wk n).declared ≡ filled sized.part.typ (map (slot_width ws) sized.slots) ∷ []
    pub shows : w.names.shows i ≡ (name, i) ∷ []
    pub marked : Each (RuleMarked (ms ++ marks)) (w.rules wk n).rules
    pub ruled : (x : ℕ) (f : Formula) → slice_get (ms ++ marks) x ≡ Some (Some f) → (slice_get ms x ≡ Some (Some f)) ⊎ Contains (w.rules wk n).rules (rule_of x f)
    pub well : (K : Known) → Filled ws wk K → Solves ws (ms ++ marks) → (w.widths wk n).faults ≡ []
        → (w.typed K ≡ true) × S K d (filled sized.part.typ (map (slot_width ws) sized.slots))

  kept_back : (wk : WKnown) (name : ℕ) (sized : Component) (K : Known) → Filled ws (sources.known_with wk name sized) K → Filled ws wk K
  kept_back wk name sized K h x s e = h x s (kept_found wk name x sized s e)

  brings_comes : (w : Walks) (tk : TKnown) (wk : WKnown) (n : ℕ) (ms : Marks) (i : ℕ) → Stands ports tk wk n ms → Brings w tk wk n ms i → Comes all modules ports S w tk wk n ms i
  brings_comes w tk wk n ms i st b =
      let tk' : TKnown = check.known_with tk b.name (Some b.sized.part) in
      let wk' : WKnown = sources.known_with wk b.name b.sized in
      let typ : FirType = filled b.sized.part.typ (map (slot_width ws) b.sized.slots) in
      let long : length (ms ++ b.marks) ≡ n + length (w.rules wk n).places = omega (arith, length-append ms b.marks, st.counted, b.marks_count) in
      record {
        marks = b.marks;
        after = record {
          knows = subst (λ t. Knows (Marked (ms ++ b.marks)) t (w.rules wk n).known) (sym b.types_known) (subst (Knows (Marked (ms ++ b.marks)) tk') (sym b.rules_known)
              (knows_with (Marked (ms ++ b.marks)) tk wk b.name b.sized (more_knows ms b.marks tk wk st.knows) b.good));
          counted = long;
          begins = begins_more ports ms b.marks st.begins;
        };
        survey_known = b.widths_known ∙ sym b.rules_known;
        survey_count = b.count;
        kept = λ name is. subst (λ t. is_some (check.component t name) ≡ true) (sym b.types_known) (kept_some tk b.name name b.sized.part is);
        kept_sized = λ name sized is. subst (λ t. lookup (nat_eq name) t ≡ Some sized) (sym b.rules_known) (kept_found wk b.name name b.sized sized is);
        shown = subst (SeenIn (w.types tk).known) (sym b.shows) (subst (λ t. is_some (check.component t b.name) ≡ true) (sym b.types_known) (with_itself tk b.name b.sized.part), tt);
        marked = b.marked;
        ruled = b.ruled;
        counted = ap length b.declares ∙ sym (ap length b.declared);
        fits = λ K named fits.
            let one : (K b.d.name ≡ Some typ) × ⊤ = subst (λ ds. NamedAs K ds (typ ∷ [])) b.declares (subst (NamedAs K w.declares) b.declared named) in
            subst (λ t. Filled ws t K) (sym b.rules_known) (filled_with ws wk b.name b.sized K fits (ap K (sym b.d_name) ∙ one.0));
        well = λ K fits solves none.
            let back : Filled ws wk K = kept_back wk b.name b.sized K (subst (λ t. Filled ws t K) b.rules_known fits) in
            let r = b.well K back solves none in
            (r.0, subst (λ ds. AllZip (S K) ds (w.widths wk n).declared) (sym b.declares) (subst (AllZip (S K) (b.d ∷ [])) (sym b.declared) (r.1, tt)));
      }
    where
      kept_some : (tk : TKnown) (name x : ℕ) (p : APart) → is_some (check.component tk x) ≡ true → is_some (check.component (check.known_with tk name (Some p)) x) ≡ true
      kept_some tk name x p is = by (check.component tk x) refl is where
        by : (o : Option APart) → check.component tk x ≡ o → is_some o ≡ true → is_some (check.component (check.known_with tk name (Some p)) x) ≡ true
        by None q h = cc
        by (Some v) q h = ap is_some (kept_found tk name x p v q)

  -- A statement that declares nothing

  record Leaves_ (w : Walks) (tk : TKnown) (wk : WKnown) (n : ℕ) (ms : Marks) (i : ℕ) : Type 0 where
    pub types_known : (w.types tk).known ≡ tk
    pub rules_known : (w.rules wk n).known ≡ wk
    pub widths_known : (w.widths wk n).known ≡ wk
    pub count : (w.widths wk n).count ≡ 0
    pub places : length (w.rules wk n).places ≡ 0
    pub declares : w.declares ≡ []
    pub declared : (w.widths wk n).declared ≡ []
    pub shows : w.names.shows i ≡ []
    pub marked : Each (RuleMarked ms) (w.rules wk n).rules
    pub well : (K : Known) → Filled ws wk K → (w.widths wk n).faults ≡ [] → w.typed K ≡ true

  leaves_comes : (w : Walks) (tk : TKnown) (wk : WKnown) (n : ℕ) (ms : Marks) (i : ℕ) → Stands ports tk wk n ms → Leaves_ w tk wk n ms i → Comes all modules ports S w tk wk n ms i
  leaves_comes w tk wk n ms i st b = record {
    marks = [];
    after = subst (λ k. Stands ports (w.types tk).known (w.rules wk n).known (n + k) (ms ++ [])) (sym b.places)
        (subst (λ t. Stands ports t (w.rules wk n).known (n + 0) (ms ++ [])) (sym b.types_known) (subst (λ t. Stands ports tk t (n + 0) (ms ++ [])) (sym b.rules_known) (stands_still all modules ports S tk wk n ms st)));
    survey_known = b.widths_known ∙ sym b.rules_known;
    survey_count = b.count ∙ sym b.places;
    kept = λ name is. subst (λ t. is_some (check.component t name) ≡ true) (sym b.types_known) is;
    kept_sized = λ name sized is. subst (λ t. lookup (nat_eq name) t ≡ Some sized) (sym b.rules_known) is;
    shown = subst (SeenIn (w.types tk).known) (sym b.shows) tt;
    marked = subst (λ m. Each (RuleMarked m) (w.rules wk n).rules) (sym (append-nil ms)) b.marked;
    ruled = λ x f is. inl (ap (λ z. slice_get z x) (sym (append-nil ms)) ∙ is);
    counted = ap length b.declares ∙ sym (ap length b.declared);
    fits = λ K named fits. subst (λ t. Filled ws t K) (sym b.rules_known) fits;
    well = λ K fits solves none. (
      b.well K (subst (λ t. Filled ws t K) b.rules_known fits) none,
      subst (λ ds. AllZip (S K) ds (w.widths wk n).declared) (sym b.declares) (subst (AllZip (S K) []) (sym b.declared) tt),
    );
  }

  -- Wires and registers

  storage_good : (ms : Marks) (n : ℕ) (typ : FirType) → length ms ≡ n → twice_in typ ≡ []
      → IsGood (Marked (ms ++ replicate (open_spots (spots typ)) None)) (record { part = part_of typ Duplex; slots = slots_from n (spots typ) })
  storage_good ms n typ e once = record {
    counted = length-slots n (spots typ);
    once = once;
    placed = free_placed (ms ++ replicate (open_spots (spots typ)) None) Duplex (spots typ) (map formula_of (slots_from n (spots typ)))
        (slots_free (ms ++ replicate (open_spots (spots typ)) None) n (spots typ) (free_marks ms n (open_spots (spots typ)) e));
    ones = slots_one n typ;
  }

  abbrev new_marks : FirType → Marks
  new_marks typ = replicate (open_spots (spots typ)) None

  marks_counted : (name : Name) (typ : FirType) → length (new_marks typ) ≡ length (places_for name.place (open_spots (spots typ)))
  marks_counted name typ = length-replicate (open_spots (spots typ)) None ∙ sym (length-replicate (open_spots (spots typ)) name.place)

  count_counted : (name : Name) (typ : FirType) → open_spots (spots typ) ≡ length (places_for name.place (open_spots (spots typ)))
  count_counted name typ = sym (length-replicate (open_spots (spots typ)) name.place)

  -- the walks of a layer of a statement
  abbrev layer : (z : Stmt-F Stmt Arm) → List Stmt → List Stmt → Walks
  layer z block behind = record {
    types = checking.of_stmt modules (map-Stmt Stmt Arm checking.Walk checking.Walk (checking.stmt_walk modules) (checking.arm_walk modules) z);
    rules = ruling.of_stmt with_ports (map-Stmt Stmt Arm ruling.Walk ruling.Walk (ruling.stmt_walk with_ports) (ruling.arm_walk with_ports) z);
    widths = judging.of_stmt all with_ports (map-Stmt Stmt Arm judging.Surveys judging.Surveys (judging.stmt_survey all with_ports) (judging.arm_survey all with_ports) z);
    names = parts.of_stmt (map-Stmt Stmt Arm Part Part stmt_part arm_part z);
    declares = (of_told (map-Stmt Stmt Arm Told ToldArm told told_arm z)).declares block behind;
    typed = λ K. fit.of_stmt K (map-Stmt Stmt Arm Bool Bool (is_fit_stmt K) (is_fit_arm K) z);
  }

  wire_comes : (name : Name) (typ : FirType) (block behind : List Stmt) → Comes_to all modules ports S (layer (Stmt-F.Wire name typ) block behind)
  wire_comes name typ block behind tk wk n ms seen i st si au ti e =
      let once : twice_in typ ≡ [] = left_empty (twice_in typ) [] e in
      brings_comes (layer (Stmt-F.Wire name typ) block behind) tk wk n ms i st (record {
        name = name.id;
        sized = record { part = part_of typ Duplex; slots = slots_from n (spots typ) };
        marks = new_marks typ;
        d = record { name = name.id; place = name.place; sort = A_wire; block = block; behind = behind };
        types_known = refl;
        rules_known = refl;
        widths_known = refl;
        count = count_counted name typ;
        marks_count = marks_counted name typ;
        good = storage_good ms n typ st.counted once;
        declares = refl;
        d_name = refl;
        declared = refl;
        shows = refl;
        marked = tt;
        ruled = λ x f is. free_ruled ms (open_spots (spots typ)) x f [] is;
        well = λ K fits solves none. (refl, plain_declared ws with_ports bounded K _ typ (slots_from n (spots typ)) once (λ e s. cc) (λ t s. cc) (λ m s. cc) (λ r. cc));
      })

  register_comes : (name : Name) (typ : FirType) (clock : Expr) → is_shaped clock ≡ true → (block behind : List Stmt) → Comes_to all modules ports S (layer (Stmt-F.Reg name typ clock) block behind)
  register_comes name typ clock shape block behind tk wk n ms seen i st si au ti e =
      let w : Walks = layer (Stmt-F.Reg name typ clock) block behind in
      let once : twice_in typ ≡ [] = left_empty (twice_in typ) _ (left_empty (stored_faults typ) _ e) in
      let holds = stored_holds typ (left_empty (stored_faults typ) _ e) in
      let rest = right_empty (stored_faults typ) _ e in
      let f = found_in tk wk n ms seen st si clock (every-left Use IsNamed (map (λ name. record { name = name; seen = seen }) (references clock)) [] au)
      (left_empty (found_of tk clock).faults _ (left_empty ((found_of tk clock).faults ++ check.where_typed (checking.clock_faults clock.place) (found_of tk clock).part) [] rest)) shape in
      brings_comes w tk wk n ms i st (record {
        name = name.id;
        sized = record { part = part_of typ Duplex; slots = slots_from n (spots typ) };
        marks = new_marks typ;
        d = record { name = name.id; place = name.place; sort = A_register clock; block = block; behind = behind };
        types_known = refl;
        rules_known = refl;
        widths_known = ap (λ k. sources.known_with wk name.id (record { part = part_of typ Duplex; slots = slots_from k (spots typ) })) (let m : n + 0 ≡ n = omega arith in m);
        count = (let m : 0 + open_spots (spots typ) ≡ open_spots (spots typ) = omega arith in m) ∙ count_counted name typ;
        marks_count = marks_counted name typ;
        good = storage_good ms n typ st.counted once;
        declares = refl;
        d_name = refl;
        declared = ap (λ k. filled typ (map (slot_width ws) (slots_from k (spots typ))) ∷ []) (let m : n + 0 ≡ n = omega arith in m);
        shows = ap (λ k. (name.id, k) ∷ []) (let m : i + 0 ≡ i = omega arith in m);
        marked = tt;
        ruled = λ x f is. free_ruled ms (open_spots (spots typ)) x f [] is;
        well = λ K fits solves none. (
          typed_true tk wk ms clock f K fits (left_empty (survey ws clock wk).faults _ none),
          plain_declared ws with_ports bounded K _ typ (slots_from n (spots typ)) once (λ e s. cc) (λ t s. cc) (λ m s. cc) (λ r. holds),
        );
      })

  -- what the parts of the faults of an expression with a condition are
  abbrev asked : (APart → List TypeFault) → TKnown → Expr → List TypeFault
  asked condition tk e = (found_of tk e).faults ++ check.where_typed condition (found_of tk e).part

  meets : (condition : APart → List TypeFault) (tk : TKnown) (wk : WKnown) (ms : Marks) (e : Expr) (f : IsFoundIn tk wk ms e) → asked condition tk e ≡ [] → condition f.part ≡ []
  meets condition tk wk ms e f h = sym (ap (check.where_typed condition) f.part_is) ∙ right_empty (found_of tk e).faults _ h

  reset_register_comes : (name : Name) (typ : FirType) (clock reset init : Expr) → is_shaped clock ≡ true → is_shaped reset ≡ true → is_shaped init ≡ true → (block behind : List Stmt)
      → Comes_to all modules ports S (layer (Stmt-F.RegReset name typ clock reset init) block behind)
  reset_register_comes name typ clock reset init sc sr si' block behind tk wk n ms seen i st si au ti e =
      let w : Walks = layer (Stmt-F.RegReset name typ clock reset init) block behind in
      let once : twice_in typ ≡ [] = left_empty (twice_in typ) _ (left_empty (stored_faults typ) _ e) in
      let passive : is_passive typ ≡ true = unless_true _ _ (right_empty (check.when (has_signal typ) (OperandKind typ.place)) _ (right_empty (twice_in typ) _ (left_empty (stored_faults typ) _ e))) in
      let holds = stored_holds typ (left_empty (stored_faults typ) _ e) in
      let rest = right_empty (stored_faults typ) _ e in
      let rest2 = right_empty (asked (checking.clock_faults clock.place) tk clock) _ rest in
      let rest3 = right_empty (asked (checking.reset_faults reset.place) tk reset) _ rest2 in
      let names : AllNamed (map (λ name. record { name = name; seen = seen }) ((references clock ++ references reset) ++ references init)) = every-left Use IsNamed (map (λ name. record { name = name; seen = seen }) ((references clock ++ references reset) ++ references init)) [] au in
      let two = names_left seen (references clock ++ references reset) (references init) names in
      let fc = found_in tk wk n ms seen st si clock (names_left seen (references clock) (references reset) two) (left_empty (found_of tk clock).faults _ (left_empty (asked (checking.clock_faults clock.place) tk clock) _ rest)) sc in
      let fr = found_in tk wk n ms seen st si reset (names_right seen (references clock) (references reset) two) (left_empty (found_of tk reset).faults _ (left_empty (asked (checking.reset_faults reset.place) tk reset) _ rest2)) sr in
      let fi = found_in tk wk n ms seen st si init (names_right seen (references clock ++ references reset) (references init) names) (left_empty (found_of tk init).faults _ (left_empty (asked (checking.init_faults typ init.place) tk init) _ rest3)) si' in
      let ru : is_reset fr.part.typ ≡ true = unless_true _ _ (meets (checking.reset_faults reset.place) tk wk ms reset fr (left_empty (asked (checking.reset_faults reset.place) tk reset) _ rest2)) in
      let more : Marks = ms ++ new_marks typ in
      let g : IsGood (Marked more) (record { part = part_of typ Duplex; slots = slots_from n (spots typ) }) = storage_good ms n typ st.counted once in
      let zeros : n + (0 + (0 + 0)) ≡ n = omega arith in
      brings_comes w tk wk n ms i st (record {
        name = name.id;
        sized = record { part = part_of typ Duplex; slots = slots_from n (spots typ) };
        marks = new_marks typ;
        d = record { name = name.id; place = name.place; sort = A_reset_register clock reset init; block = block; behind = behind };
        types_known = refl;
        rules_known = refl;
        widths_known = ap (λ k. sources.known_with wk name.id (record { part = part_of typ Duplex; slots = slots_from k (spots typ) })) (let m : ((n + 0) + 0) + 0 ≡ n = omega arith in m);
        count = (let m : 0 + (0 + (0 + open_spots (spots typ))) ≡ open_spots (spots typ) = omega arith in m) ∙ count_counted name typ;
        marks_count = marks_counted name typ;
        good = g;
        declares = refl;
        d_name = refl;
        declared = ap (λ k. filled typ (map (slot_width ws) (slots_from k (spots typ))) ∷ []) (let m : ((n + 0) + 0) + 0 ≡ n = omega arith in m);
        shows = ap (λ k. (name.id, k) ∷ []) (let m : i + 0 ≡ i = omega arith in m);
        marked = connected_marked more (spots typ) (map formula_of (slots_from n (spots typ))) (measured init wk).formulas
            (drivable_straight more Duplex (spots typ) (map formula_of (slots_from n (spots typ))) (measured init wk).formulas (straight_spots typ (not_false (has_flip typ) passive)) g.placed (λ q. cc));
        ruled = λ x f is. free_ruled ms (open_spots (spots typ)) x f (connected (spots typ) (map formula_of (slots_from n (spots typ))) (measured init wk).formulas) is;
        well = λ K fits solves none.
            let none2 = right_empty (survey ws clock wk).faults _ none in
            let own : (survey ws reset wk).faults ++ judging.condition_faults ws (survey ws reset wk) ≡ [] = left_empty ((survey ws reset wk).faults ++ judging.condition_faults ws (survey ws reset wk)) _ none2 in
            let none3 = right_empty ((survey ws reset wk).faults ++ judging.condition_faults ws (survey ws reset wk)) _ none2 in (
              ap₂ (λ a b. a && b) (typed_true tk wk ms clock fc K fits (left_empty (survey ws clock wk).faults _ none))
                  (ap₂ (λ a b. a && b) (reset_true tk wk ms reset fr ru K fits own) (typed_true tk wk ms init fi K fits (left_empty (survey ws init wk).faults _ none3))),
              plain_declared ws with_ports bounded K _ typ (slots_from n (spots typ)) once (λ e s. cc) (λ t s. cc) (λ m s. cc) (λ r. holds),
            );
      })
    where
      not_false : (b : Bool) → not b ≡ true → b ≡ false
      not_false true e = cc
      not_false false e = refl

  invalidate_comes : (target : Expr) → is_shaped target ≡ true → (block behind : List Stmt) → Comes_to all modules ports S (layer (Stmt-F.Invalidate target) block behind)
  invalidate_comes target shape block behind tk wk n ms seen i st si au ti e =
      let f = found_in tk wk n ms seen st si target au (left_empty (found_of tk target).faults _ e) shape in
      let m : measured target wk ≡ (survey ws target wk).measured = sym (same_measured ws target wk) in
      leaves_comes (layer (Stmt-F.Invalidate target) block behind) tk wk n ms i st (record {
        types_known = refl;
        rules_known = refl;
        widths_known = refl;
        count = refl;
        places = refl;
        declares = refl;
        declared = refl;
        shows = refl;
        marked = subst (λ (x : Measured). Each (RuleMarked ms) (invalidated x.part.flow (spots x.part.typ) x.formulas)) (sym m)
            (subst (λ (p : APart). Each (RuleMarked ms) (invalidated p.flow (spots p.typ) (survey ws target wk).measured.formulas)) (sym f.measured_is)
            (invalidated_marked ms f.part.flow (spots f.part.typ) (survey ws target wk).measured.formulas f.placed));
        well = λ K fits none. typed_true tk wk ms target f K fits none;
      })

  skip_comes : (place : Place) (block behind : List Stmt) → Comes_to all modules ports S (layer (Stmt-F.Skip place) block behind)
  skip_comes place block behind tk wk n ms seen i st si au ti e =
      leaves_comes (layer (Stmt-F.Skip place) block behind) tk wk n ms i st (record {
        types_known = refl;
        rules_known = refl;
        widths_known = refl;
        count = refl;
        places = refl;
        declares = refl;
        declared = refl;
        shows = refl;
        marked = tt;
        well = λ K fits none. refl;
      })

  -- the conditions on a connect
  is_no_source : (flow : Flow) → checking.is_source flow ≡ false → flow ≢ Source
  is_no_source flow e q = let f = sym (ap checking.is_source q) ∙ e in cc

  is_no_sink : (flow : Flow) → checking.is_sink flow ≡ false → flow ≢ Sink
  is_no_sink flow e q = let f = sym (ap checking.is_sink q) ∙ e in cc

  when_false : (b : Bool) (fault : TypeFault) → check.when b fault ≡ [] → b ≡ false
  when_false true fault e = cc
  when_false false fault e = refl

  turning : (p : APart) → (checking.is_sink p.flow && has_flip p.typ) ≡ false → Each NoFlip (spots p.typ) ⊎ (p.flow ≢ Sink)
  turning p e = by (checking.is_sink p.flow) refl (has_flip p.typ) refl e where
    by : (a : Bool) → checking.is_sink p.flow ≡ a → (b : Bool) → has_flip p.typ ≡ b → (a && b) ≡ false → Each NoFlip (spots p.typ) ⊎ (p.flow ≢ Sink)
    by false q b r h = inr (is_no_sink p.flow q)
    by true q false r h = inl (straight_spots p.typ r)
    by true q true r h = cc

  connect_comes : (left right : Expr) → is_shaped left ≡ true → is_shaped right ≡ true → (block behind : List Stmt) → Comes_to all modules ports S (layer (Stmt-F.Connect left right) block behind)
  connect_comes left right sl sr block behind tk wk n ms seen i st si au ti e =
      let lj = found_of tk left in
      let rj = found_of tk right in
      let rest = right_empty lj.faults _ e in
      let rest2 = right_empty rj.faults _ rest in
      let fl = found_in tk wk n ms seen st si left (names_left seen (references left) (references right) au) (left_empty lj.faults _ e) sl in
      let fr = found_in tk wk n ms seen st si right (names_right seen (references left) (references right) au) (left_empty rj.faults _ rest) sr in
      let sink = check.where_typed (checking.sink_faults left.place) lj.part in
      let source = check.where_typed (checking.source_faults right.place) rj.part in
      let a : checking.is_source fl.part.flow ≡ false = when_false _ _ (sym (ap (check.where_typed (checking.sink_faults left.place)) fl.part_is) ∙ left_empty sink _ rest2) in
      let rest3 = right_empty sink _ rest2 in
      let b : (checking.is_sink fr.part.flow && has_flip fr.part.typ) ≡ false = when_false _ _ (sym (ap (check.where_typed (checking.source_faults right.place)) fr.part_is) ∙ left_empty source _ rest3) in
      let c : are_equivalent fl.part.typ fr.part.typ ≡ true
      = unless_true _ _ (sym (ap (check.where_typed (checking.equal_faults right.place fl.part)) fr.part_is) ∙ sym (ap (check.where_typed (λ p. check.where_typed (checking.equal_faults right.place p) rj.part)) fl.part_is) ∙ right_empty source _ rest3) in
      let ml : measured left wk ≡ (survey ws left wk).measured = sym (same_measured ws left wk) in
      let mr : measured right wk ≡ (survey ws right wk).measured = sym (same_measured ws right wk) in
      let lf = (survey ws left wk).measured.formulas in
      let rf = (survey ws right wk).measured.formulas in
      let own : Each (RuleMarked ms) (connected (spots fl.part.typ) lf rf)
      = connected_marked ms (spots fl.part.typ) lf rf
      (drivable ms fl.part.flow fr.part.flow (spots fl.part.typ) (spots fr.part.typ) lf rf (flips_alike (is_equivalent fl.part.typ fr.part.typ c)) fl.placed fr.placed (is_no_source fl.part.flow a) (turning fr.part b)) in
      leaves_comes (layer (Stmt-F.Connect left right) block behind) tk wk n ms i st (record {
        types_known = refl;
        rules_known = refl;
        widths_known = refl;
        count = refl;
        places = refl;
        declares = refl;
        declared = refl;
        shows = refl;
        marked = subst (λ (x : Measured). Each (RuleMarked ms) (connected (spots x.part.typ) x.formulas (measured right wk).formulas)) (sym ml)
            (subst (λ (x : Measured). Each (RuleMarked ms) (connected (spots (survey ws left wk).measured.part.typ) lf x.formulas)) (sym mr)
            (subst (λ (p : APart). Each (RuleMarked ms) (connected (spots p.typ) lf rf)) (sym fl.measured_is) own));
        well = λ K fits none.
            let nl = left_empty (survey ws left wk).faults _ none in
            let nr = right_empty (survey ws left wk).faults _ none in
            let lw : List Width = widths_of ws (survey ws left wk).measured in
            let rw : List Width = widths_of ws (survey ws right wk).measured in
            let alike : Equivalent (filled fl.part.typ lw) (filled fr.part.typ rw)
            = on_and_on (turned_round (filled_equivalent fl.part.typ lw)) (on_and_on (is_equivalent fl.part.typ fr.part.typ c) (filled_equivalent fr.part.typ rw)) in
            ap₂ (λ a b. a && b) (typed_true tk wk ms left fl K fits nl)
            (ap₂ (λ a b. a && b) (typed_true tk wk ms right fr K fits nr) (match_by (named_type K left) (named_type K right) (filled fl.part.typ lw) (filled fr.part.typ rw) (fl.named_is K fits nl) (fr.named_is K fits nr) alike));
      })

  memory_comes : (memory : Memory) (block behind : List Stmt) → Comes_to all modules ports S (layer (Stmt-F.Mem memory) block behind)
  memory_comes memory block behind tk wk n ms seen i st si au ti e =
      let element : FirType = element_of memory in
      let faultless : memory_faults memory ≡ [] = left_empty (memory_faults memory) [] e in
      let slots : List Slot = slots_from n (spots element) in
      let more : Marks = ms ++ new_marks element in
      let once : twice_in (memory_of memory) ≡ [] = memory_once memory faultless in
      let sized : Component = record { part = source_of (memory_of memory); slots = memory_slots memory slots } in
      brings_comes (layer (Stmt-F.Mem memory) block behind) tk wk n ms i st (record {
        name = memory.name.id;
        sized = sized;
        marks = new_marks element;
        d = record { name = memory.name.id; place = memory.name.place; sort = A_memory memory; block = block; behind = behind };
        types_known = refl;
        rules_known = refl;
        widths_known = refl;
        count = count_counted memory.name element;
        marks_count = marks_counted memory.name element;
        good = memory_good more memory slots faultless (length-slots n (spots element)) (slots_one n element) (slots_free more n (spots element) (free_marks ms n (open_spots (spots element)) st.counted));
        declares = refl;
        d_name = refl;
        declared = refl;
        shows = refl;
        marked = tt;
        ruled = λ x f is. free_ruled ms (open_spots (spots element)) x f [] is;
        well = λ K fits solves none. (
          refl,
          record {
            node = λ e s. cc;
            passive = λ e s l i. cc;
            narrow = slots_narrow ws with_ports bounded (memory_of memory) (memory_slots memory slots);
            ways = filled_differ ws with_ports (memory_of memory) (map (slot_width ws) (memory_slots memory slots)) once;
            instance = λ t s. cc;
            memory = λ m s. let same : memory ≡ m = cc in (slots, length-slots n (spots element) ∙ ap (λ (x : Memory). size (element_of x)) same, ap (λ (x : Memory). filled (memory_of x) (map (slot_width ws) (memory_slots x slots))) same);
            elements = λ m s. let same : memory ≡ m = cc in subst (λ (x : Memory). is_narrow (element_of x) ≡ true) same
                (places_narrow ws n element (where_false _ _ (right_empty (where_ (list_any (is_unknown all.rules) slots) (WidthUnknown memory.name.place)) _ none)));
            register = λ r. cc;
            stored = λ m s. let same : memory ≡ m = cc in subst (λ (x : Memory). memory_faults x ≡ []) same faultless;
          },
        );
      })

  node_comes : (name : Name) (e : Expr) → is_shaped e ≡ true → (block behind : List Stmt) → Comes_to all modules ports S (layer (Stmt-F.Node name e) block behind)
  node_comes name e shape block behind tk wk n ms seen i st si au ti faultless =
      let w : Walks = layer (Stmt-F.Node name e) block behind in
      let j = found_of tk e in
      let f = found_in tk wk n ms seen st si e (every-left Use IsNamed (map (λ name. record { name = name; seen = seen }) (references e)) [] au) (left_empty j.faults _ faultless) shape in
      let typ : FirType = f.part.typ in
      let passive : is_passive typ ≡ true = unless_true _ _ (sym (ap (check.where_typed (checking.node_faults e.place)) f.part_is) ∙ right_empty j.faults _ faultless) in
      let straight : has_flip typ ≡ false = not_false (has_flip typ) passive in
      let s : Survey = survey ws e wk in
      let fs : List Formula = s.measured.formulas in
      let m : measured e wk ≡ s.measured = sym (same_measured ws e wk) in
      let mt : (measured e wk).part.typ ≡ typ = ap (λ (x : Measured). x.part.typ) m ∙ ap (λ (p : APart). p.typ) f.measured_is in
      let st' : s.measured.part.typ ≡ typ = ap (λ (p : APart). p.typ) f.measured_is in
      let gs : List Formula = open_formulas (node_spots typ) fs in
      let marks : Marks = map Some gs in
      let more : Marks = ms ++ marks in
      let sized : Component = record { part = source_of typ; slots = node_slots n typ } in
      let at : (k : ℕ) (g : Formula) → slice_get gs k ≡ Some g → slice_get more (n + k) ≡ Some (Some g) = λ k g q. node_marks ms gs n k g st.counted q in
      let same : length (node_spots typ) ≡ length fs = node_counted typ ∙ sym f.counted in
      let known : sources.known_with wk name.id (record { part = source_of (measured e wk).part.typ; slots = node_slots n (measured e wk).part.typ }) ≡ sources.known_with wk name.id sized
      = ap (λ t. sources.known_with wk name.id (record { part = source_of t; slots = node_slots n t })) mt in
      let rules : node_rules (node_slots n (measured e wk).part.typ) (measured e wk).formulas ≡ node_rules (node_slots n typ) fs
      = ap₂ (λ t xs. node_rules (node_slots n t) xs) mt (ap (λ (x : Measured). x.formulas) m) in
      brings_comes w tk wk n ms i st (record {
        name = name.id;
        sized = sized;
        marks = marks;
        d = record { name = name.id; place = name.place; sort = A_node e; block = block; behind = behind };
        types_known = ap (λ o. check.known_with tk name.id (option_map (λ (p : APart). source_of p.typ) o)) f.part_is;
        rules_known = known;
        widths_known = known;
        count = ap node_size st' ∙ sym (ap node_size mt) ∙ sym (length-replicate (node_size (measured e wk).part.typ) name.place);
        marks_count = length-map gs Some ∙ open_counted (node_spots typ) fs same ∙ sym (ap node_size mt) ∙ sym (length-replicate (node_size (measured e wk).part.typ) name.place);
        good = record {
          counted = length-slots n (node_spots typ) ∙ node_counted typ;
          once = f.once;
          placed = source_placed more (spots typ) (map formula_of (node_slots n typ)) (straight_spots typ straight);
          ones = node_slots_one n typ;
        };
        declares = refl;
        d_name = refl;
        declared = ap (λ t. filled t (map (slot_width ws) (node_slots n t)) ∷ []) st';
        shows = ap (λ k. (name.id, k) ∷ []) (let q : i + 0 ≡ i = omega arith in q);
        marked = subst (Each (RuleMarked more)) (sym rules) (node_marked more n (node_spots typ) fs at);
        ruled = λ x g is. ⊎_elim (λ l. inl l)
            (λ r. inr (subst (λ list. Contains list (rule_of x g)) (sym rules)
            (subst (λ y. Contains (node_rules (node_slots n typ) fs) (rule_of y g)) (ap (λ k. k + r.0) (sym st.counted) ∙ sym r.1)
            (node_ruled n (node_spots typ) fs r.0 g (some_marks gs r.0 g r.2)))))
            (get-either ms marks x (Some g) is);
        well = λ K fits solves none.
            let own : s.faults ≡ [] = left_empty s.faults _ none in
            let typed_is : typed e K ≡ Some (leaf_shapes (filled typ (widths_of ws s.measured))) = f.typed_is K fits own in
            let widths : map (slot_width ws) (node_slots n typ) ≡ widths_of ws s.measured = node_widths ws more solves n (node_spots typ) fs same (node_slots_one n typ) (f.ones own) at in (
              typed_true tk wk ms e f K fits own,
              record {
                node = λ x q. let same : e ≡ x = cc in subst (λ y. typed y K ≡ Some (leaf_shapes (filled typ (map (slot_width ws) (node_slots n typ))))) same
                    (typed_is ∙ ap (λ vs. Some (leaf_shapes (filled typ vs))) (sym widths));
                passive = λ x q. filled_straight ws with_ports typ (map (slot_width ws) (node_slots n typ)) straight;
                narrow = slots_narrow ws with_ports bounded typ (node_slots n typ);
                ways = filled_differ ws with_ports typ (map (slot_width ws) (node_slots n typ)) f.once;
                instance = λ t q. cc;
                memory = λ x q. cc;
                elements = λ x q. cc;
                register = λ r. cc;
                stored = λ x q. cc;
              },
            );
      })
    where
      not_false : (b : Bool) → not b ≡ true → b ≡ false
      not_false true e = cc
      not_false false e = refl

      some_marks : (fs : List Formula) (k : ℕ) (g : Formula) → slice_get (map Some fs) k ≡ Some (Some g) → slice_get fs k ≡ Some g
      some_marks [] k g q = cc
      some_marks (x ∷ fs) zero g q = some_same q
      some_marks (x ∷ fs) (suc k) g q = some_marks fs k g q

  -- the components of instances stand
  abbrev pub Instances : Type 0
  Instances = (name : ℕ) (part : APart) → instance_in modules name ≡ Some part
      → ((ruling.instance_in with_ports name).part ≡ part) × ((ms : Marks) → Begins ports ms → IsGood (Marked ms) (ruling.instance_in with_ports name))

  instance_comes : Instances → (name target : Name) (block behind : List Stmt) → Comes_to all modules ports S (layer (Stmt-F.Inst name target) block behind)
  instance_comes instances name target block behind tk wk n ms seen i st si au ti e =
      let there' = some_is (instance_in modules target.id) ti.0 in
      let inst = instances target.id there'.0 there'.1 in
      let sized : Component = ruling.instance_in with_ports target.id in
      let g : IsGood (Marked (ms ++ [])) sized = more_good ms [] sized (inst.1 ms st.begins) in
      brings_comes (layer (Stmt-F.Inst name target) block behind) tk wk n ms i st (record {
        name = name.id;
        sized = sized;
        marks = [];
        d = record { name = name.id; place = name.place; sort = An_instance target.id; block = block; behind = behind };
        types_known = ap (check.known_with tk name.id) (there'.1 ∙ ap Some (sym inst.0));
        rules_known = refl;
        widths_known = refl;
        count = refl;
        marks_count = refl;
        good = g;
        declares = refl;
        d_name = refl;
        declared = refl;
        shows = ap (λ k. (name.id, k) ∷ []) (let q : i + 0 ≡ i = omega arith in q);
        marked = tt;
        ruled = λ x f is. inl (ap (λ z. slice_get z x) (sym (append-nil ms)) ∙ is);
        well = λ K fits solves none. (
          refl,
          record {
            node = λ e s. cc;
            passive = λ e s l i. cc;
            narrow = slots_narrow ws with_ports bounded sized.part.typ sized.slots;
            ways = filled_differ ws with_ports sized.part.typ (map (slot_width ws) sized.slots) g.once;
            instance = λ t s. let same : target.id ≡ t = cc in ap (λ x. filled (ruling.instance_in with_ports x).part.typ (map (slot_width ws) (ruling.instance_in with_ports x).slots)) same;
            memory = λ m s. cc;
            elements = λ m s. cc;
            register = λ r. cc;
            stored = λ m s. cc;
          },
        );
      })

  -- Blocks

  abbrev pub stmt_walks : Stmt → List Stmt → List Stmt → Walks
  stmt_walks s block behind = record {
    types = checking.stmt_walk modules s;
    rules = ruling.stmt_walk with_ports s;
    widths = judging.stmt_survey all with_ports s;
    names = stmt_part s;
    declares = (told s).declares block behind;
    typed = λ K. is_fit_stmt K s;
  }

  abbrev arm_walks : Arm → Walks
  arm_walks a = record {
    types = checking.arm_walk modules a;
    rules = ruling.arm_walk with_ports a;
    widths = judging.arm_survey all with_ports a;
    names = arm_part a;
    declares = (told_arm a).declared;
    typed = λ K. is_fit_arm K a;
  }

  abbrev StmtComes : Stmt → Type 0
  StmtComes s = is_shaped_stmt s ≡ true → (block behind : List Stmt) → Comes_to all modules ports S (stmt_walks s block behind)

  abbrev ArmComes : Arm → Type 0
  ArmComes a = shaped_arm a ≡ true → Comes_to all modules ports S (arm_walks a)

  abbrev pub body_walks : List Stmt → List Stmt → Walks
  body_walks ss block = record {
    types = checking.in_turn (map (checking.stmt_walk modules) ss);
    rules = ruling.in_turn (map (ruling.stmt_walk with_ports) ss);
    widths = judging.in_turn (map (judging.stmt_survey all with_ports) ss);
    names = parts.in_turn (map stmt_part ss);
    declares = declared_from block (map told ss);
    typed = λ K. list_all (λ b. b) (map (is_fit_stmt K) ss);
  }

  abbrev all_arms : List Arm → Walks
  all_arms arms = record {
    types = checking.in_turn (map (checking.arm_walk modules) arms);
    rules = ruling.in_turn (map (ruling.arm_walk with_ports) arms);
    widths = judging.in_turn (map (judging.arm_survey all with_ports) arms);
    names = parts.in_turn (map arm_part arms);
    declares = flat_map (λ (arm : ToldArm). arm.declared) (map told_arm arms);
    typed = λ K. list_all (λ b. b) (map (is_fit_arm K) arms);
  }

  abbrev shut : Walks → Walks
  shut w = record w { names = record w.names { shows = λ n. [] } }

  shut_comes : (w : Walks) → Comes_to all modules ports S w → Comes_to all modules ports S (shut w)
  shut_comes w h tk wk n ms seen i st si au ti e =
      let c = h tk wk n ms seen i st si au ti e in
      record {
        marks = c.marks;
        after = c.after;
        survey_known = c.survey_known;
        survey_count = c.survey_count;
        kept = c.kept;
        kept_sized = c.kept_sized;
        shown = tt;
        marked = c.marked;
        ruled = c.ruled;
        counted = c.counted;
        fits = c.fits;
        well = c.well;
      }

  block_comes : (ps : List ((s : Stmt) × StmtComes s)) (block : List Stmt) → all_are (map is_shaped_stmt (map (λ e. e.0) ps)) ≡ true → Comes_to all modules ports S (body_walks (map (λ e. e.0) ps) block)
  block_comes [] block shape = comes_nothing all modules ports S
  block_comes (p ∷ ps) block shape =
      let rest : List Stmt = map (λ e. e.0) ps in
      comes_both all modules ports S (stmt_walks p.0 block (map (λ t. t.itself) (map told rest))) (body_walks rest block)
      (p.1 (and_left (is_shaped_stmt p.0) (all_are (map is_shaped_stmt rest)) shape) block (map (λ t. t.itself) (map told rest)))
      (block_comes ps block (and_right (is_shaped_stmt p.0) (all_are (map is_shaped_stmt rest)) shape))

  arms_come : (ps : List ((a : Arm) × ArmComes a)) → all_are (map shaped_arm (map (λ e. e.0) ps)) ≡ true → Comes_to all modules ports S (all_arms (map (λ e. e.0) ps))
  arms_come [] shape = comes_nothing all modules ports S
  arms_come (p ∷ ps) shape =
      comes_both all modules ports S (arm_walks p.0) (all_arms (map (λ e. e.0) ps)) (p.1 (and_left (shaped_arm p.0) (all_are (map shaped_arm (map (λ e. e.0) ps))) shape))
      (arms_come ps (and_right (shaped_arm p.0) (all_are (map shaped_arm (map (λ e. e.0) ps))) shape))

  -- a condition before a block
  abbrev asking : Expr → Walks
  asking e = record {
    types = checking.expects (checking.condition_faults e.place) e;
    rules = ruling.nothing;
    widths = judging.asks ws e;
    names = parts.mentions (references e);
    declares = [];
    typed = λ K. is_good_bit K e;
  }

  asking_comes : (e : Expr) → is_shaped e ≡ true → Comes_to all modules ports S (asking e)
  asking_comes e shape tk wk n ms seen i st si au ti faultless =
      let f = found_in tk wk n ms seen st si e au (left_empty (found_of tk e).faults _ faultless) shape in
      let u : is_unsigned f.part.typ ≡ true = unless_true _ _ (meets (checking.condition_faults e.place) tk wk ms e f faultless) in
      leaves_comes (asking e) tk wk n ms i st (record {
        types_known = refl;
        rules_known = refl;
        widths_known = refl;
        count = refl;
        places = refl;
        declares = refl;
        declared = refl;
        shows = refl;
        marked = tt;
        well = λ K fits none. condition_true tk wk ms e f u K fits none;
      })

  nothing_first : (r : ruling.Walk) → ruling.and_then ruling.nothing r ≡ r
  nothing_first r = λ i known n. moved known n i where
    moved : (known : WKnown) (n : ℕ) → ruling.and_then ruling.nothing r known n ≡ r known n
    moved known n = ap (r known) (let m : n + 0 ≡ n = omega arith in m)

  rolled : (z : Stmt-F Stmt Arm) (block behind : List Stmt) → stmt_walks (roll-Stmt z) block behind ≡ layer z block behind
  rolled z block behind = λ i. record {
    types = fold-roll-Stmt checking.Walk checking.Walk (checking.of_stmt modules) checking.of_arm z i;
    rules = fold-roll-Stmt ruling.Walk ruling.Walk (ruling.of_stmt with_ports) ruling.of_arm z i;
    widths = fold-roll-Stmt judging.Surveys judging.Surveys (judging.of_stmt all with_ports) (judging.of_arm all) z i;
    names = fold-roll-Stmt Part Part parts.of_stmt parts.of_arm z i;
    declares = (fold-roll-Stmt Told ToldArm of_told of_told_arm z i).declares block behind;
    typed = λ K. fold-roll-Stmt Bool Bool (fit.of_stmt K) (fit.of_arm K) z i;
  }

  abbrev arm_layer : Arm-F Stmt Arm → Walks
  arm_layer z = record {
    types = checking.of_arm (map-Arm Stmt Arm checking.Walk checking.Walk (checking.stmt_walk modules) (checking.arm_walk modules) z);
    rules = ruling.of_arm (map-Arm Stmt Arm ruling.Walk ruling.Walk (ruling.stmt_walk with_ports) (ruling.arm_walk with_ports) z);
    widths = judging.of_arm all (map-Arm Stmt Arm judging.Surveys judging.Surveys (judging.stmt_survey all with_ports) (judging.arm_survey all with_ports) z);
    names = parts.of_arm (map-Arm Stmt Arm Part Part stmt_part arm_part z);
    declares = (of_told_arm (map-Arm Stmt Arm Told ToldArm told told_arm z)).declared;
    typed = λ K. fit.of_arm K (map-Arm Stmt Arm Bool Bool (is_fit_stmt K) (is_fit_arm K) z);
  }

  arm_rolled : (z : Arm-F Stmt Arm) → arm_walks (roll-Arm z) ≡ arm_layer z
  arm_rolled z = λ i. record {
    types = fold-roll-Arm checking.Walk checking.Walk (checking.of_stmt modules) checking.of_arm z i;
    rules = fold-roll-Arm ruling.Walk ruling.Walk (ruling.of_stmt with_ports) ruling.of_arm z i;
    widths = fold-roll-Arm judging.Surveys judging.Surveys (judging.of_stmt all with_ports) (judging.of_arm all) z i;
    names = fold-roll-Arm Part Part parts.of_stmt parts.of_arm z i;
    declares = (fold-roll-Arm Told ToldArm of_told of_told_arm z i).declared;
    typed = λ K. fold-roll-Arm Bool Bool (fit.of_stmt K) (fit.of_arm K) z i;
  }

  stmt_at : (z : Stmt-F Stmt Arm) → (shaping.of_stmt (map-Stmt Stmt Arm Bool Bool is_shaped_stmt shaped_arm z) ≡ true → (block behind : List Stmt) → Comes_to all modules ports S (layer z block behind)) → StmtComes (roll-Stmt z)
  stmt_at z h shape block behind = subst (Comes_to all modules ports S) (sym (rolled z block behind)) (h (sym (fold-roll-Stmt Bool Bool shaping.of_stmt shaping.of_arm z) ∙ shape) block behind)

  module _ (instances : Instances) where
    stmt_case : (y : Stmt-F ((s : Stmt) × StmtComes s) ((a : Arm) × ArmComes a)) → StmtComes (roll-Stmt (map-Stmt _ _ Stmt Arm (λ e. e.0) (λ e. e.0) y))
    stmt_case (Stmt-F.Wire name typ) = stmt_at (Stmt-F.Wire name typ) (λ shape block behind. wire_comes name typ block behind)
    stmt_case (Stmt-F.Reg name typ clock) = stmt_at (Stmt-F.Reg name typ clock) (λ shape block behind. register_comes name typ clock shape block behind)
    stmt_case (Stmt-F.RegReset name typ clock reset init) = stmt_at (Stmt-F.RegReset name typ clock reset init) (λ shape block behind.
        reset_register_comes name typ clock reset init (and_left (is_shaped clock) _ shape) (and_left (is_shaped reset) _ (and_right (is_shaped clock) _ shape)) (and_right (is_shaped reset) _ (and_right (is_shaped clock) _ shape)) block behind)
    stmt_case (Stmt-F.Mem memory) = stmt_at (Stmt-F.Mem memory) (λ shape block behind. memory_comes memory block behind)
    stmt_case (Stmt-F.Inst name target) = stmt_at (Stmt-F.Inst name target) (λ shape block behind. instance_comes instances name target block behind)
    stmt_case (Stmt-F.Node name e) = stmt_at (Stmt-F.Node name e) (λ shape block behind. node_comes name e shape block behind)
    stmt_case (Stmt-F.Connect left right) = stmt_at (Stmt-F.Connect left right) (λ shape block behind. connect_comes left right (and_left (is_shaped left) _ shape) (and_right (is_shaped left) _ shape) block behind)
    stmt_case (Stmt-F.Invalidate target) = stmt_at (Stmt-F.Invalidate target) (λ shape block behind. invalidate_comes target shape block behind)
    stmt_case (Stmt-F.Skip place) = stmt_at (Stmt-F.Skip place) (λ shape block behind. skip_comes place block behind)
    stmt_case (Stmt-F.When arms other) = stmt_at (Stmt-F.When (map (λ e. e.0) arms) (map (λ e. e.0) other)) (λ shape block behind.
        let xs : List Arm = map (λ e. e.0) arms in
        let ys : List Stmt = map (λ e. e.0) other in
        comes_both all modules ports S (all_arms xs) (shut (body_walks ys (map (λ t. t.itself) (map told ys))))
        (arms_come arms (and_left (all_are (map shaped_arm xs)) _ shape))
        (shut_comes (body_walks ys (map (λ t. t.itself) (map told ys))) (block_comes other (map (λ t. t.itself) (map told ys)) (and_right (all_are (map shaped_arm xs)) _ shape))))

    arm_case : (y : Arm-F ((s : Stmt) × StmtComes s) ((a : Arm) × ArmComes a)) → ArmComes (roll-Arm (map-Arm _ _ Stmt Arm (λ e. e.0) (λ e. e.0) y))
    arm_case y shape =
        let ys : List Stmt = map (λ e. e.0) y.body in
        let z : Arm-F Stmt Arm = map-Arm _ _ Stmt Arm (λ e. e.0) (λ e. e.0) y in
        let shape' : (is_shaped y.condition && all_are (map is_shaped_stmt ys)) ≡ true = sym (fold-roll-Arm Bool Bool shaping.of_stmt shaping.of_arm z) ∙ shape in
        let inside : Walks = shut (body_walks ys (map (λ t. t.itself) (map told ys))) in
        let c = comes_both all modules ports S (asking y.condition) inside (asking_comes y.condition (and_left (is_shaped y.condition) _ shape'))
        (shut_comes (body_walks ys (map (λ t. t.itself) (map told ys))) (block_comes y.body (map (λ t. t.itself) (map told ys)) (and_right (is_shaped y.condition) _ shape'))) in
        subst (Comes_to all modules ports S) (sym (arm_rolled z))
        (subst (λ r. Comes_to all modules ports S (record (both all modules ports S (asking y.condition) inside) { rules = r })) (nothing_first inside.rules) c)

    stmt_comes : (s : Stmt) → StmtComes s
    stmt_comes = ind-Stmt StmtComes ArmComes (λ x y is. subst (λ z. StmtComes (roll-Stmt z)) is (stmt_case y)) (λ x y is. subst (λ z. ArmComes (roll-Arm z)) is (arm_case y))

    pub body_comes : (ss : List Stmt) (block : List Stmt) → list_all is_shaped_stmt ss ≡ true → Comes_to all modules ports S (body_walks ss block)
    body_comes [] block shape = comes_nothing all modules ports S
    body_comes (s ∷ ss) block shape =
        comes_both all modules ports S (stmt_walks s block (map (λ t. t.itself) (map told ss))) (body_walks ss block)
        (stmt_comes s (and_left (is_shaped_stmt s) (list_all is_shaped_stmt ss) shape) block (map (λ t. t.itself) (map told ss)))
        (body_comes ss block (and_right (is_shaped_stmt s) (list_all is_shaped_stmt ss) shape))
