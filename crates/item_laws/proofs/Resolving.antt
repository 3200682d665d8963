-- In the tree in which a circuit's `Reset`s are resolved the heads of items stay, and so do the nodes of a body.
use Rattle.std.proofs.Common.{◌≡◌, ℕ, zero, suc, ◌+◌, Bool, List, [], ◌∷◌, ◌++◌, map, Some, refl, sym, ap, ap₂, arith}
use Rattle.std.specs.Prelude.{slice_get}
use Rattle.std.proofs.lemmas.Grind.{common_steps}
use Rattle.std.proofs.lemmas.Option.{none-some, same_Some}
use Rattle.place_text.specs.declared.place.Place.{Place}
use Rattle.fir_types.specs.declared.name.Name.{Name}
use Rattle.fir_types.specs.declared.fir_type.FirType.{the_lemmas as type_lemmas}
use Rattle.fir_tree.specs.declared.circuit.Module.{Module}
use Rattle.fir_tree.specs.declared.expr.Expr.{Expr}
use Rattle.fir_tree.specs.declared.stmt.Stmt.{Stmt, the_lemmas as stmt_lemmas}
use Rattle.fir_tree.specs.declared.stmt.Stmt.TheVariants as stmt
use Rattle.item_lines.specs.Items.{wire_name, name_at, with_name, one_bit, zero_bit, component, heads}
use Rattle.reset_search.specs.Feeds.{ports_count}
use Rattle.reset_search.specs.Resolved.{all_from, in_all, becomes_stmt, resolved_modules}
use Rattle.reset_search.proofs.Blind.{IsBlind, same}
use Rattle.item_laws.proofs.Nodes as nodes'
use Rattle.item_laws.proofs.Nodes.{nodes}

nodes_blind : IsBlind nodes'.of_stmt
nodes_blind = record { wire = λ name t u. refl; reg = λ name t u clock. refl; reg_reset = λ name t u clock reset init. refl; mem = λ reached n memory. refl }

module _ (reached : ℕ → Bool) where
  -- the statements with their `Reset`s resolved, whose places have the numbers from this one on
  abbrev pub turned : List Stmt → ℕ → List Stmt
  turned ss n = all_from (map (becomes_stmt reached) ss) n

  turned-wire : (name : Name) (at : Place) (n : ℕ) → (becomes_stmt reached (stmt.Wire name (one_bit at))).1 n ≡ stmt.Wire name (one_bit at)
  turned-wire name at n = grind (arith, common_steps, stmt_lemmas, type_lemmas)

  turned-connect : (left right : Expr) (n : ℕ) → (becomes_stmt reached (stmt.Connect left right)).1 n ≡ stmt.Connect left right
  turned-connect left right n = grind (arith, common_steps, stmt_lemmas)

  -- one list behind another is turned as two
  pub record IsInTwo (xs ys : List Stmt) (n : ℕ) : Type 0 where
    pub from : ℕ
    pub is : turned (xs ++ ys) n ≡ turned xs n ++ turned ys from

  pub in_two : (xs ys : List Stmt) (n : ℕ) → IsInTwo xs ys n
  in_two [] ys n = record { from = n; is = refl }
  in_two (x ∷ xs) ys n =
      let later = in_two xs ys (n + (becomes_stmt reached x).0) in
      record { from = later.from; is = ap (λ l. (becomes_stmt reached x).1 n ∷ l) later.is }

  pub heads_stay : (k : ℕ) (places : List Place) (names : List (List ℕ)) (n : ℕ) → turned (heads k places names).0 n ≡ (heads k places names).0
  heads_stay k [] names n = refl
  heads_stay k (at ∷ places) names n =
      let more : List (List ℕ) = with_name names (wire_name k) in
      let wire : Name = name_at more (wire_name k) at in
      let first : Stmt = stmt.Wire wire (one_bit at) in
      let second : Stmt = stmt.Connect (component wire) (zero_bit at) in
      let next = n + (becomes_stmt reached first).0 in
      ap₂ (λ (x : Stmt) (xs : List Stmt). x ∷ xs) (turned-wire wire at n)
      (ap₂ (λ (x : Stmt) (xs : List Stmt). x ∷ xs) (turned-connect (component wire) (zero_bit at) next)
      (heads_stay (k + 1) places more (next + (becomes_stmt reached second).0)))

  pub nodes_stay : (ss : List Stmt) (n : ℕ) → nodes (turned ss n) ≡ nodes ss
  nodes_stay [] n = refl
  nodes_stay (s ∷ ss) n = ap₂ (λ xs ys. xs ++ ys) (same nodes'.of_stmt nodes'.of_arm nodes_blind reached s n) (nodes_stay ss (n + (becomes_stmt reached s).0))

  -- a module of the tree, and the one that it comes from
  pub record IsTurned (modules : List Module) (k : ℕ) (holder : Module) : Type 0 where
    pub spelled : Module
    pub here : slice_get modules k ≡ Some spelled
    pub from : ℕ
    pub body_is : holder.body ≡ turned spelled.body from

  pub turned_at : (p n : ℕ) (modules : List Module) (k : ℕ) (holder : Module) → slice_get (resolved_modules reached p n modules) k ≡ Some holder → IsTurned modules k holder
  turned_at p n [] k holder here = absurd (none-some holder here)
  turned_at p n (m ∷ modules) zero holder here =
      record { spelled = m; here = refl; from = n; body_is = ap (λ (h : Module). h.body) (sym (same_Some _ holder here)) }
  turned_at p n (m ∷ modules) (suc k) holder here =
      let later = turned_at (p + ports_count m.ports) (n + in_all (map (becomes_stmt reached) m.body)) modules k holder here in
      record { spelled = later.spelled; here = later.here; from = later.from; body_is = later.body_is }
