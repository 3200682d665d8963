-- A run has no more memories than its size.
use Rattle.std.proofs.Common.{◌≡◌, ℕ, Bool, true, false, zero, suc, ◌+◌, ◌*◌, ◌≤◌, max, List, [], ◌∷◌, ◌++◌, map, length, refl, sym, ap, ap₂, ◌∙◌, arith, subst, Some, None}
use Rattle.std.specs.List.{AllZip, flat_map}
use Rattle.std.proofs.lemmas.Grind.{common_steps}
use Rattle.std.proofs.lemmas.List.Concat.{flat_map-cons}
use Rattle.fir_types.specs.declared.port.Port.{Port}
use Rattle.fir_tree.specs.declared.circuit.Module.{Module}
use Rattle.fir_tree.specs.declared.scope.Fitted.{Fitted}
use Rattle.fir_tree.specs.declared.stmt.Stmt.{Stmt, ind-Stmt}
use Rattle.fir_tree.specs.declared.stmt.Arm.{Arm}
use Rattle.fir_tree.specs.declared.stmt.Stmt.TheOpen.{Stmt-F, Arm-F}
use Rattle.fir_tree.specs.declared.stmt.Stmt.TheFolds.{map-Stmt, map-Arm, fold-roll-Stmt, fold-roll-Arm}
use Rattle.fir_tree.specs.declared.stmt.Stmt.TheViews.{roll-Stmt, roll-Arm}
use Rattle.fir_tree.specs.LeafNames.{Texts}
use Rattle.fir_meaning.specs.Components.{Design, TypedModule, Component, Sort, An_input, An_output, A_wire, A_register, A_reset_register, A_memory, An_instance, A_node, design_of, module_named, target_in}
use Rattle.net_of_circuit.specs.FlatOrder.{Placed, InFlatOrder, no_more, one_more, an_instance, all_memories}
use Rattle.size_check.specs.declared.calls.Call.{Call}
use Rattle.size_check.specs.Weights.{Typing}
use Rattle.size_check.specs.Typings.{named, typing_in}
use Rattle.size_check.specs.Owns as own
use Rattle.size_check.specs.Owns.{Own, OwnArm, all_own, arms_own, stmt_own, arm_own, port_own, module_own}
use Rattle.size_check.specs.Standings.{Standing, standings, standings_of, of_call, of_found, behind, calls_in, total_of, measured}
use Rattle.size_laws.specs.Pieces.{Piece, all_pieces, of_stmt, of_arm, stmt_pieces, arm_pieces, port_piece, pieces_of, IsMeasured, AreMeasured}
use Rattle.size_laws.proofs.Calling.{own_called}
use Rattle.size_laws.proofs.Same.{component_call, calls_same}
use Rattle.size_laws.proofs.Running.{IsHeld, AllPaths, call_some, call_none, held_by}

-- of all items together
abbrev add_up : {X : Type 0} → (X → ℕ) → List X → ℕ
add_up f [] = 0
add_up f (x ∷ xs) = f x + add_up f xs

add_append : {X : Type 0} (f : X → ℕ) (xs ys : List X) → add_up f (xs ++ ys) ≡ add_up f xs + add_up f ys
add_append f [] ys = none (add_up f ys)
  where
    none : (n : ℕ) → n ≡ 0 + n
    none n = omega arith
add_append f (x ∷ xs) ys = ap (λ n. f x + n) (add_append f xs ys) ∙ later (f x) (add_up f xs) (add_up f ys)
  where
    later : (a b c : ℕ) → a + (b + c) ≡ a + b + c
    later a b c = omega arith

-- one for a memory
abbrev one_in : Sort → ℕ
one_in (A_memory memory) = 1
one_in _ = 0

abbrev of_pieces : List Piece → ℕ
of_pieces ps = add_up (λ p. one_in p.sort) ps

abbrev of_components : List Component → ℕ
of_components cs = add_up (λ c. one_in c.declaration.sort) cs

abbrev of_placed : List Placed → ℕ
of_placed placed = add_up (λ p. one_in p.c.declaration.sort) placed

counted_memories : (placed : List Placed) → length (all_memories placed) ≡ of_placed placed
counted_memories [] = refl
counted_memories (p ∷ placed) = by (counted_memories placed) p.c.declaration.sort refl
  where
    by : length (all_memories placed) ≡ of_placed placed → (sort : Sort) → p.c.declaration.sort ≡ sort → length (all_memories (p ∷ placed)) ≡ of_placed (p ∷ placed)
    by r An_input e = grind (arith, common_steps, e, r)
    by r An_output e = grind (arith, common_steps, e, r)
    by r A_wire e = grind (arith, common_steps, e, r)
    by r (A_register clock) e = grind (arith, common_steps, e, r)
    by r (A_reset_register clock reset init) e = grind (arith, common_steps, e, r)
    by r (A_memory memory) e = grind (arith, common_steps, e, r)
    by r (An_instance target) e = grind (arith, common_steps, e, r)
    by r (A_node expr) e = grind (arith, common_steps, e, r)

same_memories : (ps : List Piece) (cs : List Component) → AllZip IsMeasured ps cs → of_pieces ps ≡ of_components cs
same_memories [] [] h = refl
same_memories [] (c ∷ cs) h = absurd h
same_memories (p ∷ ps) [] h = absurd h
same_memories (p ∷ ps) (c ∷ cs) h = ap₂ (λ a b. a + b) (ap one_in h.0.sort) (same_memories ps cs h.1)

-- A module has no more memories than its size

module _ (texts : Texts) (types : Typing) where
  abbrev Sized : Stmt → Type 0
  Sized s = (around : ℕ) → of_pieces (stmt_pieces types s) ≤ (stmt_own texts types s around).size

  abbrev ArmSized : Arm → Type 0
  ArmSized a = (around : ℕ) → of_pieces (arm_pieces types a) ≤ ((arm_own texts types a).body around).size

  one_more_part : (x : List Piece) (xs : List (List Piece)) → of_pieces (all_pieces (x ∷ xs)) ≡ of_pieces x + of_pieces (all_pieces xs)
  one_more_part x xs = ap of_pieces (flat_map-cons (λ l. l) x xs) ∙ add_append (λ p. one_in p.sort) x (all_pieces xs)

  both_below : (a b c d : ℕ) → a ≤ c → b ≤ d → a + b ≤ c + d
  both_below a b c d h k = omega (arith, h, k)

  block_sized : (es : List ((s : Stmt) × Sized s)) (around : ℕ)
      → of_pieces (all_pieces (map (stmt_pieces types) (map (λ e. e.0) es))) ≤ (all_own (map (stmt_own texts types) (map (λ e. e.0) es)) around).size
  block_sized [] around = omega arith
  block_sized (e ∷ es) around =
      let xs : List Stmt = map (λ e. e.0) es in
      subst (λ n. n ≤ (all_own (map (stmt_own texts types) (map (λ e. e.0) (e ∷ es))) around).size) (sym (one_more_part (stmt_pieces types e.0) (map (stmt_pieces types) xs)))
      (both_below (of_pieces (stmt_pieces types e.0)) (of_pieces (all_pieces (map (stmt_pieces types) xs))) (stmt_own texts types e.0 around).size (all_own (map (stmt_own texts types) xs) around).size (e.1 around) (block_sized es around))

  arms_sized : (es : List ((a : Arm) × ArmSized a)) (around : ℕ)
      → of_pieces (all_pieces (map (arm_pieces types) (map (λ e. e.0) es))) ≤ (arms_own (map (arm_own texts types) (map (λ e. e.0) es)) around).size
  arms_sized [] around = omega arith
  arms_sized (e ∷ es) around =
      let xs : List Arm = map (λ e. e.0) es in
      let next : ℕ = around + (arm_own texts types e.0).nodes in
      subst (λ n. n ≤ (arms_own (map (arm_own texts types) (map (λ e. e.0) (e ∷ es))) around).size) (sym (one_more_part (arm_pieces types e.0) (map (arm_pieces types) xs)))
      (both_below (of_pieces (arm_pieces types e.0)) (of_pieces (all_pieces (map (arm_pieces types) xs))) ((arm_own texts types e.0).body next).size (arms_own (map (arm_own texts types) xs) next).size (e.1 next) (arms_sized es next))

  sized_at : (z : Stmt-F Stmt Arm)
      → ((around : ℕ) → of_pieces (of_stmt types (map-Stmt Stmt Arm (List Piece) (List Piece) (stmt_pieces types) (arm_pieces types) z))
      ≤ (own.of_stmt texts types (map-Stmt Stmt Arm Own OwnArm (stmt_own texts types) (arm_own texts types) z) around).size)
      → Sized (roll-Stmt z)
  sized_at z h around =
      subst (λ ps. of_pieces ps ≤ (stmt_own texts types (roll-Stmt z) around).size) (sym (fold-roll-Stmt (List Piece) (List Piece) (of_stmt types) of_arm z))
      (subst (λ (o : Own). of_pieces (of_stmt types (map-Stmt Stmt Arm (List Piece) (List Piece) (stmt_pieces types) (arm_pieces types) z)) ≤ (o around).size)
      (sym (fold-roll-Stmt Own OwnArm (own.of_stmt texts types) (own.of_arm types) z)) (h around))

  nothing_below : (n : ℕ) → 0 ≤ n
  nothing_below n = omega arith

  some_size : (a m rest : ℕ) → 1 ≤ (1 + a) * max 1 m + rest
  some_size a m rest = at_least (max 1 m) (omega arith)
    where
      at_least : (k : ℕ) → 1 ≤ k → 1 ≤ (1 + a) * k + rest
      at_least zero h = absurd (omega (arith, h))
      at_least (suc k) h = grind (arith, common_steps)

  sized_layer : (y : Stmt-F ((s : Stmt) × Sized s) ((a : Arm) × ArmSized a)) → Sized (roll-Stmt (map-Stmt _ _ Stmt Arm (λ e. e.0) (λ e. e.0) y))
  sized_layer (Stmt-F.Wire name typ) = sized_at (Stmt-F.Wire name typ) (λ around. nothing_below _)
  sized_layer (Stmt-F.Reg name typ clock) = sized_at (Stmt-F.Reg name typ clock) (λ around. nothing_below _)
  sized_layer (Stmt-F.RegReset name typ clock reset init) = sized_at (Stmt-F.RegReset name typ clock reset init) (λ around. nothing_below _)
  sized_layer (Stmt-F.Mem memory) = sized_at (Stmt-F.Mem memory) (λ around. some_size around _ _)
  sized_layer (Stmt-F.Inst name target) = sized_at (Stmt-F.Inst name target) (λ around. nothing_below _)
  sized_layer (Stmt-F.Node name expr) = sized_at (Stmt-F.Node name expr) (λ around. nothing_below _)
  sized_layer (Stmt-F.Connect left right) = sized_at (Stmt-F.Connect left right) (λ around. nothing_below _)
  sized_layer (Stmt-F.Invalidate target) = sized_at (Stmt-F.Invalidate target) (λ around. nothing_below _)
  sized_layer (Stmt-F.Skip place) = sized_at (Stmt-F.Skip place) (λ around. nothing_below _)
  sized_layer (Stmt-F.When arms other) =
      let xs : List Arm = map (λ e. e.0) arms in
      let ys : List Stmt = map (λ e. e.0) other in
      sized_at (Stmt-F.When xs ys) (λ around.
      let later = around + own.nodes_in (map (arm_own texts types) xs) in
      subst (λ n. n ≤ (own.of_stmt texts types (Stmt-F.When (map (arm_own texts types) xs) (map (stmt_own texts types) ys)) around).size)
      (sym (add_append (λ p. one_in p.sort) (all_pieces (map (arm_pieces types) xs)) (all_pieces (map (stmt_pieces types) ys))))
      (behind_more _ _ _ (both_below _ _ (arms_own (map (arm_own texts types) xs) around).size (all_own (map (stmt_own texts types) ys) later).size (arms_sized arms around) (block_sized other later))))
    where
      behind_more : (a b c : ℕ) → a ≤ c → a ≤ b + c
      behind_more a b c h = omega (arith, h)

  sized_arm_layer : (y : Arm-F ((s : Stmt) × Sized s) ((a : Arm) × ArmSized a)) → ArmSized (roll-Arm (map-Arm _ _ Stmt Arm (λ e. e.0) (λ e. e.0) y))
  sized_arm_layer y around =
      let z : Arm-F Stmt Arm = map-Arm _ _ Stmt Arm (λ e. e.0) (λ e. e.0) y in
      subst (λ ps. of_pieces ps ≤ ((arm_own texts types (roll-Arm z)).body around).size) (sym (fold-roll-Arm (List Piece) (List Piece) (of_stmt types) of_arm z))
      (subst (λ (o : OwnArm). of_pieces (all_pieces (map (stmt_pieces types) (map (λ e. e.0) y.body))) ≤ (o.body around).size)
      (sym (fold-roll-Arm Own OwnArm (own.of_stmt texts types) (own.of_arm types) z)) (block_sized y.body around))

  stmt_sized : (s : Stmt) → Sized s
  stmt_sized = ind-Stmt Sized ArmSized (λ x y is. subst (λ z. Sized (roll-Stmt z)) is (sized_layer y)) (λ x y is. subst (λ z. ArmSized (roll-Arm z)) is (sized_arm_layer y))

  body_sized : (ss : List Stmt) (around : ℕ) → of_pieces (flat_map (stmt_pieces types) ss) ≤ (all_own (map (stmt_own texts types) ss) around).size
  body_sized [] around = omega arith
  body_sized (s ∷ ss) around =
      subst (λ n. n ≤ (all_own (map (stmt_own texts types) (s ∷ ss)) around).size)
      (sym (ap of_pieces (flat_map-cons (stmt_pieces types) s ss) ∙ add_append (λ p. one_in p.sort) (stmt_pieces types s) (flat_map (stmt_pieces types) ss)))
      (both_below (of_pieces (stmt_pieces types s)) (of_pieces (flat_map (stmt_pieces types) ss)) (stmt_own texts types s around).size (all_own (map (stmt_own texts types) ss) around).size (stmt_sized s around) (body_sized ss around))

  no_port : (ports : List Port) → of_pieces (map port_piece ports) ≡ 0
  no_port [] = refl
  no_port (port ∷ ports) = by (no_port ports) port.output refl
    where
      by : of_pieces (map port_piece ports) ≡ 0 → (b : Bool) → port.output ≡ b → of_pieces (map port_piece (port ∷ ports)) ≡ 0
      by r true e = grind (arith, common_steps, e, r)
      by r false e = grind (arith, common_steps, e, r)

own_below : (texts : Texts) (modules : List Module) (holder : Module) → of_pieces (pieces_of modules holder) ≤ (module_own texts modules holder).size
own_below texts modules holder =
    let types : Typing = typing_in modules holder in
    let body : List Piece = flat_map (stmt_pieces types) holder.body in
    subst (λ n. n ≤ (module_own texts modules holder).size) (sym (add_append (λ p. one_in p.sort) (map port_piece holder.ports) body ∙ ap (λ n. n + of_pieces body) (no_port texts types holder.ports)))
    (more _ _ _ (body_sized texts types holder.body 0))
  where
    more : (a b c : ℕ) → a ≤ c → 0 + a ≤ b + c
    more a b c h = omega (arith, h)

-- Paths

abbrev of_standings : List Module → List Standing → ℕ
of_standings modules list = add_up (λ s. of_pieces (pieces_of modules s.holder)) list

standings_below : (texts : Texts) (modules : List Module) (list : List Standing) → of_standings modules list ≤ (total_of texts modules list).sums.size
standings_below texts modules [] = omega arith
standings_below texts modules (s ∷ rest) = below (of_pieces (pieces_of modules s.holder)) (of_standings modules rest) (module_own texts modules s.holder).size (total_of texts modules rest).sums.size
    (own_below texts modules s.holder) (standings_below texts modules rest)
  where
    below : (a b c d : ℕ) → a ≤ c → b ≤ d → a + b ≤ c + d
    below a b c d h k = omega (arith, h, k)

of_behind : (modules : List Module) (name : ℕ) (list : List Standing) → of_standings modules (map (behind name) list) ≡ of_standings modules list
of_behind modules name [] = refl
of_behind modules name (s ∷ rest) = ap (λ n. of_pieces (pieces_of modules s.holder) + n) (of_behind modules name rest)

module _ (design : Design) (modules : List Module) (held : IsHeld modules design) where
  abbrev inner : ℕ → List Component → ℕ
  inner d cs = of_standings modules (flat_map (of_call modules (standings modules d)) (flat_map component_call cs))

  next : (d : ℕ) (m : Module) → of_standings modules (standings modules (suc d) m) ≡ of_pieces (pieces_of modules m) + of_standings modules (flat_map (of_call modules (standings modules d)) (calls_in m))
  unfolding standings
  next d m = refl

  whole : (d : ℕ) (holder : Module) (n : TypedModule) → AllZip IsMeasured (pieces_of modules holder) n.components
      → of_standings modules (standings modules (suc d) holder) ≡ of_components n.components + inner d n.components
  whole d holder n same = next d holder
      ∙ ap₂ (λ a b. a + b) (same_memories (pieces_of modules holder) n.components same)
      (ap (λ calls. of_standings modules (flat_map (of_call modules (standings modules d)) calls)) (own_called modules holder ∙ calls_same (pieces_of modules holder) n.components same))

  -- from some depth of paths on
  abbrev Runs : List Component → List Placed → Type 0
  Runs cs placed = (D : ℕ) × ((d : ℕ) → D ≤ d → of_placed placed ≡ of_components cs + inner d cs)

  no_call : (d : ℕ) (c : Component) (cs : List Component) → target_in c.declaration.sort ≡ None → inner d (c ∷ cs) ≡ inner d cs
  no_call d c cs e =
      ap (λ calls. of_standings modules (flat_map (of_call modules (standings modules d)) calls))
      (flat_map-cons component_call c cs ∙ ap (λ l. l ++ flat_map component_call cs) (call_none c.declaration.name c.declaration.sort e))

  one_call : (d : ℕ) (c : Component) (cs : List Component) (target : ℕ) (holder : Module) → target_in c.declaration.sort ≡ Some target → named modules target ≡ Some holder
      → inner d (c ∷ cs) ≡ of_standings modules (standings modules d holder) + inner d cs
  one_call d c cs target holder e h =
      let call : Call = record { name = c.declaration.name; target = target } in
      let from = of_call modules (standings modules d) in
      let rest = flat_map component_call cs in
      ap (λ calls. of_standings modules (flat_map from calls)) (flat_map-cons component_call c cs ∙ ap (λ l. l ++ rest) (call_some c.declaration.name target c.declaration.sort e))
      ∙ ap (of_standings modules) (flat_map-cons from call rest)
      ∙ add_append (λ s. of_pieces (pieces_of modules s.holder)) (from call) (flat_map from rest)
      ∙ ap (λ s. s + inner d cs)
      (ap (λ m. of_standings modules (map (behind c.declaration.name) (of_found (standings modules d) m))) h ∙ of_behind modules c.declaration.name (standings modules d holder))

  no_memory : (sort : Sort) (target : ℕ) → target_in sort ≡ Some target → one_in sort ≡ 0
  no_memory An_input target e = refl
  no_memory An_output target e = refl
  no_memory A_wire target e = refl
  no_memory (A_register clock) target e = refl
  no_memory (A_reset_register clock reset init) target e = refl
  no_memory (A_memory memory) target e = cc
  no_memory (An_instance t) target e = refl
  no_memory (A_node expr) target e = refl

  run : {path : List ℕ} {m : TypedModule} {cs : List Component} {placed : List Placed} → InFlatOrder design path m cs placed → Runs cs placed
  run no_more = (0, λ d h. refl)
  run (one_more {c = c} {cs = cs} {rest = rest} e later_ones) =
      let r = run later_ones in (
        r.0,
        λ d h. ap (λ n. one_in c.declaration.sort + n) (r.1 d h) ∙ later (one_in c.declaration.sort) (of_components cs) (inner d cs)
            ∙ ap (λ n. one_in c.declaration.sort + of_components cs + n) (sym (no_call d c cs e)),
      )
    where
      later : (a b c : ℕ) → a + (b + c) ≡ a + b + c
      later a b c = omega arith
  run (an_instance {c = c} {cs = cs} {own = own} {rest = rest} target n e f inside later_ones) =
      let r = run inside in
      let q = run later_ones in
      (suc (r.0 + q.0), λ d h. deep r q d h)
    where
      across : (a x t b : ℕ) → a ≡ 0 → x + (t + b) ≡ a + t + (x + b)
      across a x t b e = omega (arith, e)

      deep : (r : Runs n.components own) (q : Runs cs rest) (d : ℕ) → suc (r.0 + q.0) ≤ d → of_placed (own ++ rest) ≡ of_components (c ∷ cs) + inner d (c ∷ cs)
      deep r q zero h = absurd (omega (arith, h))
      deep r q (suc d) h =
          let first : r.0 ≤ d = omega (arith, h) in
          let second : q.0 ≤ suc d = omega (arith, h) in
          let hold = held target n f in
          add_append (λ p. one_in p.c.declaration.sort) own rest
          ∙ ap₂ (λ a b. a + b) (r.1 d first ∙ sym (whole d hold.0 n hold.2)) (q.1 (suc d) second)
          ∙ across (one_in c.declaration.sort) (of_standings modules (standings modules (suc d) hold.0)) (of_components cs) (inner (suc d) cs) (no_memory c.declaration.sort target e)
          ∙ ap (λ z. of_components (c ∷ cs) + z) (sym (one_call (suc d) c cs target hold.0 e hold.1))

-- The memories of a run are no more than its size.
pub memories_below : AllPaths → (fitted : Fitted) → AreMeasured fitted → (measured fitted.checked.resolved).depth ≤ 32 → (main : TypedModule) (placed : List Placed)
    → module_named (design_of fitted) (design_of fitted).main ≡ Some main → InFlatOrder (design_of fitted) [] main main.components placed
    → length (all_memories placed) ≤ (measured fitted.checked.resolved).sums.size
memories_below paths fitted same small main placed e order =
    let circuit = fitted.checked.resolved in
    let design = design_of fitted in
    let held = held_by fitted same in
    let h = held design.main main e in
    let r = run design circuit.modules held order in
    let enough : r.0 ≤ r.0 + 32 = omega arith in
    let deep : suc (r.0 + 32) ≡ r.0 + 33 = omega arith in
    let is : length (all_memories placed) ≡ of_standings circuit.modules (standings_of circuit 33)
    = counted_memories placed ∙ r.1 (r.0 + 32) enough ∙ sym (whole design circuit.modules held (r.0 + 32) h.0 main h.2)
    ∙ sym (ap (λ o. of_standings circuit.modules (of_found (standings circuit.modules (suc (r.0 + 32))) o)) h.1)
    ∙ ap (λ d. of_standings circuit.modules (standings_of circuit d)) deep
    ∙ ap (of_standings circuit.modules) (paths circuit small r.0) in
    subst (λ n. n ≤ (measured circuit).sums.size) (sym is) (standings_below circuit.names circuit.modules (standings_of circuit 33))
