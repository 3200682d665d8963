-- What the modules of a circuit come to.
use Rattle.std.proofs.Common.{◌≡◌, ◌≢◌, ℕ, zero, suc, ◌+◌, ◌≤◌, Bool, true, false, cond, List, [], ◌∷◌, ◌++◌, map, zip, length, drop, get_or, Option, Some, None, refl, sym, ap, ap₂, ◌∙◌, subst, arith, slice_get, ◌⊎◌, inl, inr, ⊎_elim, append_assoc, append-nil, length-append}
use Rattle.std.proofs.lemmas.List.Elements.{Contains-append_left, Contains-append_right}
use Rattle.std.specs.Prelude.{Contains, is_some}
use Rattle.std.specs.List.{AllZip}
use Rattle.fir_types.specs.declared.fir_type.FirType.{FirType}
use Rattle.fir_types.specs.declared.name.Name.{Name}
use Rattle.fir_types.specs.declared.port.Port.{Port}
use Rattle.prim_ops.specs.declared.widths.Width.{Width}
use Rattle.prim_ops.specs.declared.widths.Width.TheVariants.{Bits}
use Rattle.fir_tree.specs.declared.circuit.Module.{Module}
use Rattle.fir_tree.specs.declared.stmt.Stmt.{Stmt}
use Rattle.fir_tree.specs.Parts.{part_of, port_flow, instance_in}
use Rattle.type_check.specs.Parts as check
use Rattle.type_check.specs.Texts.{twice_in}
use Rattle.type_check.specs.Statements as checking
use Rattle.width_rules.specs.declared.rule.Formula.{Formula}
use Rattle.width_rules.specs.Solutions.{IsWidth}
use Rattle.width_rules.specs.Places.{spots, slots_from, open_spots}
use Rattle.width_rules.specs.Sources as sources
use Rattle.width_rules.specs.Circuits.{WithPorts, ports_from, open_ports, modules_from, all_open, known_ports, body_walk, bodies_from}
use Rattle.width_rules.proofs.Bounds.{Each, each_append}
use Rattle.width_fit.specs.Judging as judging
use Rattle.width_fit.specs.Judging.{Solved, slot_width, ports_declared, ports_faults, module_survey, told_from, where_reached}
use Rattle.fir_meaning.specs.Components.{Declaration, TypedModule, An_input, An_output, A_node, A_memory, An_instance, told, declared_in_block, declared_by_port, declarations_of, with_types}
use Rattle.fir_meaning.specs.WellTyped.{Known}
use Rattle.fir_names.specs.Extents.{Seen, Use, uses_in, instances_in}
use Rattle.fir_names.specs.Parts as parts
use Rattle.fir_names.specs.Parts.{Part, stmt_part}
use Rattle.fir_names.proofs.Graphs.{some_same}
use Rattle.fir_names.proofs.Agreement.{sees_its_blocks, has_its_instances}
use Rattle.circuit_laws.specs.Names.{Every}
use Rattle.circuit_laws.specs.Designs.{component_of}
use Rattle.circuit_laws.proofs.Alone.{every-right}
use Rattle.circuit_laws.proofs.Scoping.{IsNamed, AllNamed}
use Rattle.fitted_laws.specs.Shaped.{is_shaped_module}
use Rattle.fitted_laws.proofs.Asyncs.{slots_one}
use Rattle.fitted_laws.proofs.Steps.{left_empty, right_empty, IsGood}
use Rattle.fitted_laws.proofs.Expressions.{TKnown, WKnown, Knows, Filled}
use Rattle.fitted_laws.proofs.Known.{Marks, Marked, RuleMarked, knows_with, filled_with, kept_found, with_itself, more_rule}
use Rattle.fitted_laws.proofs.Walking.{SeenIn, Begins, Solves, solves_front, rule_of, NamedAs, zip_front, zip_rest, zip_both, TargetsIn, Comes}
use Rattle.fitted_laws.proofs.Ruling.{slots_free, length-slots, free_placed}
use Rattle.fir_meaning.specs.States.{is_register}
use Rattle.fitted_laws.proofs.Declared.{IsDeclared, plain_declared}
use Rattle.fitted_laws.proofs.OneBit.{are_fit}
use Rattle.fitted_laws.proofs.Statements.{Instances, body_walks, body_comes}

abbrev pub ports_walk : List Port → checking.Walk
ports_walk ports = checking.in_turn (map checking.port_walk ports)

abbrev ports_part : List Port → Part
ports_part ports = parts.in_turn (map (λ (port : Port). parts.declares port.name) ports)

module _ (all : Solved) (modules : List Module) (with_ports : List WithPorts) (ports : ℕ) (bounded : (k : ℕ) → IsWidth (get_or all.widths k (Bits 0))) where
  abbrev ws : List Width
  ws = all.widths

  abbrev S : Known → Declaration → FirType → Type 0
  S = IsDeclared ws with_ports

  -- Ports

  port_good : (ms : Marks) (n : ℕ) (p : Port) → Begins ports ms → n + open_spots (spots p.typ) ≤ ports → twice_in p.typ ≡ []
      → IsGood (Marked ms) (record { part = part_of p.typ (port_flow p); slots = slots_from n (spots p.typ) })
  port_good ms n p b h once = record {
    counted = length-slots n (spots p.typ);
    once = once;
    placed = free_placed ms (port_flow p) (spots p.typ) _ (slots_free ms n (spots p.typ) (λ x lo hi. b x (omega (arith, hi, h))));
    ones = slots_one n p.typ;
  }

  ports_know : (ms : Marks) → Begins ports ms → (n : ℕ) (ps : List Port) → n + open_ports ps ≤ ports → (tk : TKnown) (wk : WKnown) → (ports_walk ps tk).faults ≡ [] → Knows (Marked ms) tk wk
      → Knows (Marked ms) (ports_walk ps tk).known (known_ports ps (ports_from n ps) wk)
  ports_know ms b n [] h tk wk e k = k
  ports_know ms b n (p ∷ ps) h tk wk e k =
      ports_know ms b (n + open_spots (spots p.typ)) ps (omega (arith, h)) (checking.port_walk p tk).known (sources.known_with wk p.name.id (record { part = part_of p.typ (port_flow p); slots = slots_from n (spots p.typ) }))
      (right_empty (checking.port_walk p tk).faults _ e)
      (knows_with (Marked ms) tk wk p.name.id (record { part = part_of p.typ (port_flow p); slots = slots_from n (spots p.typ) }) k
      (port_good ms n p b (omega (arith, h)) (left_empty (twice_in p.typ) [] (left_empty (checking.port_walk p tk).faults _ e))))

  kept_by_port : (ps : List Port) (tk : TKnown) (name : ℕ) → is_some (check.component tk name) ≡ true → is_some (check.component (ports_walk ps tk).known name) ≡ true
  kept_by_port [] tk name is = is
  kept_by_port (p ∷ ps) tk name is = kept_by_port ps (checking.port_walk p tk).known name (by (check.component tk name) refl is) where
    by : (o : Option _) → check.component tk name ≡ o → is_some o ≡ true → is_some (check.component (checking.port_walk p tk).known name) ≡ true
    by None q h = cc
    by (Some v) q h = ap is_some (kept_found tk p.name.id name (part_of p.typ (port_flow p)) v q)

  ports_seen : (ps : List Port) (tk : TKnown) (i : ℕ) → SeenIn (ports_walk ps tk).known ((ports_part ps).shows i)
  ports_seen [] tk i = tt
  ports_seen (p ∷ ps) tk i = (kept_by_port ps (checking.port_walk p tk).known p.name.id (with_itself tk p.name.id (part_of p.typ (port_flow p))), ports_seen ps (checking.port_walk p tk).known (i + 1))

  ports_uses : (ps : List Port) (seen : List Seen) (i : ℕ) → (ports_part ps).uses seen i ≡ []
  ports_uses [] seen i = refl
  ports_uses (p ∷ ps) seen i = ports_uses ps (seen ++ (p.name.id, i) ∷ []) (i + 1)

  ports_instances : (ps : List Port) → (ports_part ps).instances ≡ []
  ports_instances [] = refl
  ports_instances (p ∷ ps) = ports_instances ps

  ports_counted : (body : List Stmt) (n : ℕ) (ps : List Port) → length (map (declared_by_port body) ps) ≡ length (ports_declared all ps (ports_from n ps))
  ports_counted body n [] = refl
  ports_counted body n (p ∷ ps) = ap suc (ports_counted body (n + open_spots (spots p.typ)) ps)

  ports_filled : (body : List Stmt) (n : ℕ) (ps : List Port) (wk : WKnown) (K : Known) → NamedAs K (map (declared_by_port body) ps) (ports_declared all ps (ports_from n ps)) → Filled ws wk K
      → Filled ws (known_ports ps (ports_from n ps) wk) K
  ports_filled body n [] wk K named fits = fits
  ports_filled body n (p ∷ ps) wk K named fits =
      ports_filled body (n + open_spots (spots p.typ)) ps (sources.known_with wk p.name.id (record { part = part_of p.typ (port_flow p); slots = slots_from n (spots p.typ) })) K named.1
      (filled_with ws wk p.name.id (record { part = part_of p.typ (port_flow p); slots = slots_from n (spots p.typ) }) K fits named.0)

  port_sort : (body : List Stmt) (p : Port) → (d : Declaration) → declared_by_port body p ≡ d → ((e : _) → d.sort ≢ A_node e) × ((t : ℕ) → d.sort ≢ An_instance t) × ((m : _) → d.sort ≢ A_memory m) × (is_register d.sort ≢ true)
  port_sort body p d e = by p.output refl where
    by : (b : Bool) → p.output ≡ b → ((e : _) → d.sort ≢ A_node e) × ((t : ℕ) → d.sort ≢ An_instance t) × ((m : _) → d.sort ≢ A_memory m) × (is_register d.sort ≢ true)
    by true q =
        let is : d.sort ≡ An_output = ap (λ (x : Declaration). x.sort) (sym e) ∙ ap (λ b. cond b An_output An_input) q in
        (λ x s. (let f = sym is ∙ s in cc), λ x s. (let f = sym is ∙ s in cc), λ x s. (let f = sym is ∙ s in cc), λ r. (let f = sym (ap is_register is) ∙ r in cc))
    by false q =
        let is : d.sort ≡ An_input = ap (λ (x : Declaration). x.sort) (sym e) ∙ ap (λ b. cond b An_output An_input) q in
        (λ x s. (let f = sym is ∙ s in cc), λ x s. (let f = sym is ∙ s in cc), λ x s. (let f = sym is ∙ s in cc), λ r. (let f = sym (ap is_register is) ∙ r in cc))

  ports_well : (body : List Stmt) (n : ℕ) (ps : List Port) (tk : TKnown) (K : Known) → (ports_walk ps tk).faults ≡ [] → AllZip (S K) (map (declared_by_port body) ps) (ports_declared all ps (ports_from n ps))
  ports_well body n [] tk K e = tt
  ports_well body n (p ∷ ps) tk K e =
      let s = port_sort body p (declared_by_port body p) refl in (
        plain_declared ws with_ports bounded K (declared_by_port body p) p.typ (slots_from n (spots p.typ)) (left_empty (twice_in p.typ) [] (left_empty (checking.port_walk p tk).faults _ e)) s.0 s.1 s.2 (λ r. absurd (s.3 r)),
        ports_well body (n + open_spots (spots p.typ)) ps (checking.port_walk p tk).known K (right_empty (checking.port_walk p tk).faults _ e),
      )

  -- A module

  -- what the checks let pass of a module
  pub record IsFaultless (m : Module) : Type 0 where
    pub types : (checking.module_walk modules m []).faults ≡ []
    pub names : AllNamed (uses_in m)
    pub targets : TargetsIn modules (instances_in m)
    pub shaped : is_shaped_module m ≡ true

  knows_none : (ms : Marks) → Knows (Marked ms) [] []
  knows_none ms = record { same = λ name. refl; good = λ name sized e. cc }

  abbrev with_own : ℕ → Module → WithPorts
  with_own k m = record { holder = m; ports = ports_from k m.ports }

  pub record ModuleComes (m : Module) (k n : ℕ) (ms : Marks) : Type 0 where
    pub marks : Marks
    pub begins : Begins ports (ms ++ marks)
    pub counted : length (ms ++ marks) ≡ n + length (body_walk with_ports (with_own k m) n).places
    pub count : (module_survey all with_ports (with_own k m) n).count ≡ length (body_walk with_ports (with_own k m) n).places
    pub marked : Each (RuleMarked (ms ++ marks)) (body_walk with_ports (with_own k m) n).rules
    pub ruled : (x : ℕ) (f : Formula) → slice_get (ms ++ marks) x ≡ Some (Some f) → (slice_get ms x ≡ Some (Some f)) ⊎ Contains (body_walk with_ports (with_own k m) n).rules (rule_of x f)
    pub declared : length (declarations_of m) ≡ length (module_survey all with_ports (with_own k m) n).declared
    pub well : (K : Known) → NamedAs K (declarations_of m) (module_survey all with_ports (with_own k m) n).declared → Solves ws (ms ++ marks) → (module_survey all with_ports (with_own k m) n).faults ≡ []
        → (are_fit K m.body ≡ true) × AllZip (S K) (declarations_of m) (module_survey all with_ports (with_own k m) n).declared

  module _ (instances : Instances all modules with_ports ports bounded) where
    pub module_comes : (m : Module) → IsFaultless m → (k n : ℕ) (ms : Marks) → length ms ≡ n → Begins ports ms → k + open_ports m.ports ≤ ports → ModuleComes m k n ms
    module_comes m f k n ms long b within =
        let block : List Stmt = map (λ t. t.itself) (map told m.body) in
        let tk : TKnown = (ports_walk m.ports []).known in
        let wk : WKnown = known_ports m.ports (ports_from k m.ports) [] in
        let p : Part = ports_part m.ports in
        let e : (ports_walk m.ports []).faults ++ (checking.in_turn (map (checking.stmt_walk modules) m.body) tk).faults ≡ [] = f.types in
        let au : AllNamed (p.uses [] 0 ++ (parts.in_turn (map stmt_part m.body)).uses ([] ++ p.shows 0) (0 + length p.declares)) = subst AllNamed (sym (sees_its_blocks m)) f.names in
        let ti : TargetsIn modules (p.instances ++ (parts.in_turn (map stmt_part m.body)).instances) = subst (TargetsIn modules) (sym (has_its_instances m)) f.targets in
        let c : Comes all modules ports S (body_walks all modules with_ports ports bounded m.body block) tk wk n ms (0 + length p.declares)
        = body_comes all modules with_ports ports bounded instances m.body block f.shaped tk wk n ms ([] ++ p.shows 0) (0 + length p.declares)
        (record { knows = ports_know ms b k m.ports within [] [] (left_empty (ports_walk m.ports []).faults _ e) (knows_none ms); counted = long; begins = b })
        (ports_seen m.ports [] 0) (every-right Use IsNamed (p.uses [] 0) _ au) (every-right Name (λ target. is_some (instance_in modules target.id) ≡ true) p.instances _ ti)
        (right_empty (ports_walk m.ports []).faults _ e) in
        let pd : List FirType = ports_declared all m.ports (ports_from k m.ports) in
        let bd : List FirType = (judging.in_turn (map (judging.stmt_survey all with_ports) m.body) wk n).declared in
        let pc : length (map (declared_by_port m.body) m.ports) ≡ length pd = ports_counted m.body k m.ports in
        record {
          marks = c.marks;
          begins = c.after.begins;
          counted = c.after.counted;
          count = c.survey_count;
          marked = c.marked;
          ruled = c.ruled;
          declared = length-append (map (declared_by_port m.body) m.ports) (declared_in_block (map told m.body)) ∙ ap₂ (λ x y. x + y) pc c.counted ∙ sym (length-append pd bd);
          well = λ K named solves none.
              let fits : Filled ws wk K = ports_filled m.body k m.ports [] K
              (zip_front (λ (d : Declaration) (t : FirType). K d.name ≡ Some t) (map (declared_by_port m.body) m.ports) (declared_in_block (map told m.body)) pd bd pc named) (λ name sized q. cc) in
              let own : NamedAs K (declared_in_block (map told m.body)) bd
              = zip_rest (λ (d : Declaration) (t : FirType). K d.name ≡ Some t) (map (declared_by_port m.body) m.ports) (declared_in_block (map told m.body)) pd bd pc named in
              let r = c.well K (c.fits K own fits) solves (right_empty (ports_faults all m.ports (ports_from k m.ports)) _ none) in (
                r.0,
                zip_both (S K) (map (declared_by_port m.body) m.ports) (declared_in_block (map told m.body)) pd bd (ports_well m.body k m.ports [] K (left_empty (ports_walk m.ports []).faults _ e)) r.1,
              );
        }

    -- All modules

    abbrev total : List Module → ℕ
    total [] = 0
    total (m ∷ rest) = length (declarations_of m) + total rest

    abbrev told_in : ℕ → ℕ → List Module → List Bool → judging.Told
    told_in k n rest reached = told_from all with_ports n (modules_from k rest) reached

    -- a module of the design with what is known of it
    pub record IsModule (holder : Module) (m : TypedModule) (K : Known) (own : Option WithPorts) : Type 0 where
      pub types : List FirType
      pub is : m.components ≡ map component_of (zip (declarations_of holder) types)
      pub counted : length (declarations_of holder) ≡ length types
      pub ports_from_is : (k : ℕ) × (rest : List FirType) × (types ≡ ports_declared all holder.ports (ports_from k holder.ports) ++ rest) × (own ≡ Some (record { holder = holder; ports = ports_from k holder.ports }))
      pub well : NamedAs K (declarations_of holder) types → (are_fit K holder.body ≡ true) × AllZip (S K) (declarations_of holder) types

    pub record ModulesCome (rest : List Module) (k n : ℕ) (ms : Marks) (reached : List Bool) : Type 0 where
      pub marks : Marks
      pub counted : length (ms ++ marks) ≡ n + length (bodies_from with_ports n (modules_from k rest)).places
      pub marked : Each (RuleMarked (ms ++ marks)) (bodies_from with_ports n (modules_from k rest)).rules
      pub ruled : (x : ℕ) (f : Formula) → slice_get (ms ++ marks) x ≡ Some (Some f) → (slice_get ms x ≡ Some (Some f)) ⊎ Contains (bodies_from with_ports n (modules_from k rest)).rules (rule_of x f)
      pub declared : length (told_in k n rest reached).declared ≡ total rest
      pub each : Solves ws (ms ++ marks) → (told_in k n rest reached).faults ≡ [] → (j : ℕ) (holder : Module) (m : TypedModule) → slice_get rest j ≡ Some holder
          → (more : List FirType) → slice_get (with_types rest ((told_in k n rest reached).declared ++ more)) j ≡ Some m → get_or reached j false ≡ true → (K : Known) → IsModule holder m K (slice_get (modules_from k rest) j)

    zip_front_only : (ds : List Declaration) (ts more : List FirType) → length ds ≡ length ts → zip ds (ts ++ more) ≡ zip ds ts
    zip_front_only [] ts more e = refl
    zip_front_only (d ∷ ds) [] more e = absurd (omega (arith, e))
    zip_front_only (d ∷ ds) (t ∷ ts) more e = ap (λ l. (d, t) ∷ l) (zip_front_only ds ts more (omega (arith, e)))

    drop_front : (ts more : List FirType) (n : ℕ) → length ts ≡ n → drop n (ts ++ more) ≡ more
    drop_front [] more zero e = refl
    drop_front [] more (suc n) e = absurd (omega (arith, e))
    drop_front (t ∷ ts) more zero e = absurd (omega (arith, e))
    drop_front (t ∷ ts) more (suc n) e = drop_front ts more n (omega (arith, e))

    each_rule_more : (ms more : Marks) (rules : List _) → Each (RuleMarked ms) rules → Each (RuleMarked (ms ++ more)) rules
    each_rule_more ms more [] h = tt
    each_rule_more ms more (r ∷ rules) h = (more_rule ms more r h.0, each_rule_more ms more rules h.1)

    pub modules_come : (rest : List Module) → Every Module IsFaultless rest → (k n : ℕ) (ms : Marks) → length ms ≡ n → Begins ports ms → k + all_open rest ≤ ports → (reached : List Bool)
        → ModulesCome rest k n ms reached
    modules_come [] f k n ms long b within reached = record {
      marks = [];
      counted = ap length (append-nil ms) ∙ long ∙ (let m : n ≡ n + 0 = omega arith in m);
      marked = tt;
      ruled = λ x g is. inl (ap (λ z. slice_get z x) (sym (append-nil ms)) ∙ is);
      declared = refl;
      each = λ solves none j holder m e. cc;
    }
    modules_come (h ∷ rest) f k n ms long b within reached =
        let one : ModuleComes h k n ms = module_comes h f.0 k n ms long b (omega (arith, within)) in
        let body = body_walk with_ports (with_own k h) n in
        let n' : ℕ = n + length body.places in
        let k' : ℕ = k + open_ports h.ports in
        let own = module_survey all with_ports (with_own k h) n in
        let r : ModulesCome rest k' n' (ms ++ one.marks) (drop 1 reached) = modules_come rest f.1 k' n' (ms ++ one.marks) one.counted one.begins (omega (arith, within)) (drop 1 reached) in
        let others = bodies_from with_ports n' (modules_from k' rest) in
        let same : told_in k' (n + own.count) rest (drop 1 reached) ≡ told_in k' n' rest (drop 1 reached) = ap (λ c. told_in k' (n + c) rest (drop 1 reached)) one.count in
        let t : List FirType = (told_in k' (n + own.count) rest (drop 1 reached)).declared in
        let together : (ms ++ one.marks) ++ r.marks ≡ ms ++ (one.marks ++ r.marks) = append_assoc ms one.marks r.marks in
        record {
          marks = one.marks ++ r.marks;
          counted = ap length (sym together) ∙ r.counted ∙ (let m : n' + length others.places ≡ n + length (body.places ++ others.places) = omega (arith, length-append body.places others.places) in m);
          marked = subst (λ z. Each (RuleMarked z) (body.rules ++ others.rules)) together
              (each_append (RuleMarked ((ms ++ one.marks) ++ r.marks)) body.rules others.rules (each_rule_more (ms ++ one.marks) r.marks body.rules one.marked) r.marked);
          ruled = λ x g is. ⊎_elim (λ l. ⊎_elim (λ p. inl p) (λ q. inr (Contains-append_left _ others.rules _ q)) (one.ruled x g l)) (λ q. inr (Contains-append_right body.rules _ _ q)) (r.ruled x g (ap (λ z. slice_get z x) together ∙ is));
          declared = length-append own.declared t ∙ ap₂ (λ x y. x + y) (sym one.declared) (ap (λ (g : judging.Told). length g.declared) same ∙ r.declared);
          each = λ solves none.
              let s : Solves ws ((ms ++ one.marks) ++ r.marks) = subst (Solves ws) (sym together) solves in
              let none' : (told_in k' n' rest (drop 1 reached)).faults ≡ [] = ap (λ (g : judging.Told). g.faults) (sym same) ∙ right_empty (where_reached (get_or reached 0 false) own.faults) _ none in
              λ j. elim j as (λ j. (holder : Module) (m : TypedModule) → slice_get (h ∷ rest) j ≡ Some holder
              → (more : List FirType) → slice_get (with_types (h ∷ rest) ((own.declared ++ t) ++ more)) j ≡ Some m → get_or reached j false ≡ true → (K : Known) → IsModule holder m K (slice_get (modules_from k (h ∷ rest)) j)) [
                | zero ↦ λ holder m e more at flag K. first holder m (some_same e) more (some_same at) K (solves_front ws (ms ++ one.marks) r.marks s)
                    (ap (λ c. where_reached c own.faults) (sym flag) ∙ left_empty (where_reached (get_or reached 0 false) own.faults) _ none)
                | suc i ↦ λ holder m e more at flag K.
                    r.each s none' i holder m e more
                    (ap (λ l. slice_get (with_types rest l) i)
                    (ap (λ (g : judging.Told). g.declared ++ more) (sym same) ∙ sym (drop_front own.declared (t ++ more) (length (declarations_of h)) (sym one.declared)) ∙ ap (drop (length (declarations_of h))) (sym (append_assoc own.declared t more)))
                    ∙ at) (flag_later reached i flag) K
              ];
        }
      where
        flag_later : (bs : List Bool) (i : ℕ) → get_or bs (suc i) false ≡ true → get_or (drop 1 bs) i false ≡ true
        flag_later [] i e = cc
        flag_later (b ∷ bs) i e = e

        first : (holder : Module) (m : TypedModule) → h ≡ holder → (more : List FirType)
            → record { name = h.name.id; components = map (λ both. record { declaration = both.0; typ = both.1 }) (zip (declarations_of h) (((module_survey all with_ports (with_own k h) n).declared ++ (told_in (k + open_ports h.ports) (n + (module_survey all with_ports (with_own k h) n).count) rest (drop 1 reached)).declared) ++ more)) } ≡ m
            → (K : Known) → Solves ws (ms ++ (module_comes h f.0 k n ms long b (omega (arith, within))).marks) → (module_survey all with_ports (with_own k h) n).faults ≡ [] → IsModule holder m K (Some (with_own k h))
        first holder m e more at K solves none =
            let one : ModuleComes h k n ms = module_comes h f.0 k n ms long b (omega (arith, within)) in
            let own = module_survey all with_ports (with_own k h) n in
            let t : List FirType = (told_in (k + open_ports h.ports) (n + own.count) rest (drop 1 reached)).declared in
            subst (λ x. IsModule x m K (Some (with_own k h))) e (record {
              types = own.declared;
              is = ap (λ (x : TypedModule). x.components) (sym at) ∙ ap (λ l. map component_of (zip (declarations_of h) l)) (append_assoc own.declared t more)
                  ∙ ap (map component_of) (zip_front_only (declarations_of h) own.declared (t ++ more) one.declared);
              counted = one.declared;
              ports_from_is = (k, (judging.in_turn (map (judging.stmt_survey all with_ports) h.body) (known_ports h.ports (ports_from k h.ports) []) n).declared, refl, refl);
              well = λ named. one.well K named solves none;
            })
