-- The items that lines have, and the nodes of their arguments.
use Rattle.std.proofs.Common.{◌≡◌, ℕ, zero, suc, ◌+◌, ◌<◌, ◌≤◌, Bool, true, List, [], ◌∷◌, ◌++◌, map, length, Some, None, refl, sym, ap, ◌∙◌, subst, append_assoc, append-nil, arith, ⊎_elim, eqb→eq}
use Rattle.std.specs.Prelude.{slice_get, Contains}
use Rattle.std.proofs.lemmas.Grind.{common_steps}
use Rattle.std.proofs.lemmas.List.Elements.{Contains-append_left, Contains-append_right}
use Rattle.std.proofs.lemmas.Option.{none-some, same_Some, slice_get_within}
use Rattle.place_text.specs.declared.place.Place.{Place}
use Rattle.fir_tree.specs.declared.expr.Expr.{Expr}
use Rattle.fir_tree.specs.declared.print.Piece.{Piece}
use Rattle.fir_tree.specs.declared.stmt.Stmt.{Stmt}
use Rattle.fir_tree.specs.declared.stmt.Stmt.TheVariants as stmt
use Rattle.fir_tree.specs.declared.stmt.Arm.{Arm}
use Rattle.item_lines.specs.declared.line.Line.{Line, ind-Line, roll-Line, map-Line, the_lemmas as line_lemmas}
use Rattle.item_lines.specs.declared.line.Line.TheOpen.{Line-F, LineArm-F}
use Rattle.item_lines.specs.declared.line.LineArm.{LineArm, roll-LineArm, map-LineArm}
use Rattle.item_lines.specs.Formats.{shows}
use Rattle.item_lines.specs.Items as items
use Rattle.item_lines.specs.Items.{Before, Item, Stands, in_order, in_block, stmts_of, with_name, number_in, name_at, wire_name, clock_name, argument_name, argument_nodes, padded, the_item}
use Rattle.item_lines.specs.Lines.{arm_of}
use Rattle.circuit_laws.proofs.Scoping.{get-either}
use Rattle.item_laws.specs.Drivers.{all_of}
use Rattle.item_laws.proofs.Numbers.{Has, has_added, Grows, grows_twice, number_grown, has_grown}
use Rattle.item_laws.proofs.Below.{all_are, and_left, and_right}
use Rattle.item_laws.proofs.Growing.{nodes_grown, arm_list_step, stands_roll, arm_stands_roll, lines_step}
use Rattle.item_laws.proofs.Shown as shown
use Rattle.item_laws.proofs.Shown.{line_shown, arm_shown}
use Rattle.item_laws.proofs.Nodes.{Nodes, nodes, nodes_in, arm_nodes, nodes_append, of-node, of-when, of-arm}

shown_roll : (y : Line-F Line LineArm) → line_shown (roll-Line y) ≡ shown.of_line (map-Line Line LineArm Bool Bool line_shown arm_shown y)
shown_roll y = grind (arith, common_steps, line_lemmas)

arm_shown_roll : (y : LineArm-F Line LineArm) → arm_shown (roll-LineArm y) ≡ shown.of_line_arm (map-LineArm Line LineArm Bool Bool line_shown arm_shown y)
arm_shown_roll y = grind (arith, common_steps, line_lemmas)

among_first : {A : Type 0} (x : A) (xs : List A) → Contains (x ∷ xs) x
among_first x xs = (0, omega arith, refl)

module _ (final : List (List ℕ)) where
  -- item k and its arguments, whose nodes are among these
  pub record IsMade (ns : Nodes) (k : ℕ) (x : Item) : Type 0 where
    pub named : (j : ℕ) → j < shows x.pieces → Has final (argument_name k j)
    pub made : (j : ℕ) → j < shows x.pieces → (e : Expr) × Contains ns (number_in final (argument_name k j), padded e)
    pub silent : (code : ℕ) → x.stop ≡ Some code → x.pieces ≡ []

  -- What stands behind others has further items, with these nodes.
  pub record Makes (b after : Before) (ns : Nodes) : Type 0 where
    pub more : List Item
    pub are : after.items ≡ b.items ++ more
    pub each : (i : ℕ) (x : Item) → slice_get after.items i ≡ Some x → length b.items ≤ i → IsMade ns i x

  wider_left : (ns ms : Nodes) (k : ℕ) (x : Item) → IsMade ns k x → IsMade (ns ++ ms) k x
  wider_left ns ms k x h = record { named = h.named; made = λ j less. let found = h.made j less in (found.0, Contains-append_left ns ms _ found.1); silent = h.silent }

  wider_right : (ns ms : Nodes) (k : ℕ) (x : Item) → IsMade ms k x → IsMade (ns ++ ms) k x
  wider_right ns ms k x h = record { named = h.named; made = λ j less. let found = h.made j less in (found.0, Contains-append_right ns ms _ found.1); silent = h.silent }

  makes_none : (b : Before) (ns : Nodes) → Makes b b ns
  makes_none b ns = record {
    more = [];
    are = sym (append-nil b.items);
    each = λ i x here low. let less = slice_get_within b.items i x here in absurd (omega (arith, less, low));
  }

  makes_both : (b mid after : Before) (ns ms : Nodes) → Makes b mid ns → Makes mid after ms → Makes b after (ns ++ ms)
  makes_both b mid after ns ms f g = record {
    more = f.more ++ g.more;
    are = g.are ∙ ap (λ l. l ++ g.more) f.are ∙ append_assoc b.items f.more g.more;
    each = λ i x here low. ⊎_elim
        (λ first. wider_left ns ms i x (f.each i x first low))
        (λ later. let at = later.1 in wider_right ns ms i x (g.each i x here (omega (arith, at))))
        (get-either mid.items g.more i x (subst (λ l. slice_get l i ≡ Some x) g.are here));
  }

  -- one item

  argument_made : (k j : ℕ) (at : Place) (es : List Expr) (names : List (List ℕ)) → Grows (argument_nodes k j at es names).1 final → (i : ℕ) → i < length es
      → Has final (argument_name k (j + i)) × ((e : Expr) × Contains (nodes (argument_nodes k j at es names).0) (number_in final (argument_name k (j + i)), padded e))
  argument_made k j at [] names g i less = absurd (omega (arith, less))
  argument_made k j at (e ∷ es) names g zero less =
      let text : List ℕ = argument_name k j in
      let more : List (List ℕ) = with_name names text in
      let has : Has more text = has_added names text in
      let grown : Grows more final = grows_twice (nodes_grown k (j + 1) at es more) g in
      let rest : Nodes = nodes (argument_nodes k (j + 1) at es more).0 in
      let first : Contains (nodes_in _ ++ rest) (number_in more text, padded e)
      = subst (λ (l : Nodes). Contains (l ++ rest) (number_in more text, padded e)) (sym (of-node (name_at more text at) (padded e))) (among_first (number_in more text, padded e) rest) in
      let same : j ≡ j + 0 = omega arith in
      subst (λ (n : ℕ). Has final (argument_name k n) × ((f : Expr) × Contains (nodes (argument_nodes k j at (e ∷ es) names).0) (number_in final (argument_name k n), padded f))) same
      (has_grown text grown has, (e, subst (λ (n : ℕ). Contains (nodes (argument_nodes k j at (e ∷ es) names).0) (n, padded e)) (sym (number_grown text grown has)) first))
  argument_made k j at (e ∷ es) names g (suc i) less =
      let text : List ℕ = argument_name k j in
      let more : List (List ℕ) = with_name names text in
      let same : j + 1 + i ≡ j + suc i = omega arith in
      let later = argument_made k (j + 1) at es more g i (omega (arith, less)) in
      subst (λ (n : ℕ). Has final (argument_name k n) × ((f : Expr) × Contains (nodes (argument_nodes k j at (e ∷ es) names).0) (number_in final (argument_name k n), padded f))) same
      (later.0, (later.1.0, Contains-append_right (nodes_in _) (nodes (argument_nodes k (j + 1) at es more).0) _ later.1.1))

  item_made : (at : Place) (clock condition : Expr) (es : List Expr) (stop : _) (pieces : List Piece) (b : Before) → length es ≡ shows pieces → ((code : ℕ) → stop ≡ Some code → pieces ≡ [])
      → Grows (the_item at clock condition es stop pieces b).1.names final → Makes b (the_item at clock condition es stop pieces b).1 (nodes (the_item at clock condition es stop pieces b).0)
  item_made at clock condition es stop pieces b many silent g = record {
    more = record { place = at; stop = stop; pieces = pieces } ∷ [];
    are = refl;
    each = λ i x here low. ⊎_elim
        (λ first. let less = slice_get_within b.items i x first in absurd (omega (arith, less, low)))
        (λ later. last i x later.0 later.1 later.2)
        (get-either b.items (record { place = at; stop = stop; pieces = pieces } ∷ []) i x here);
  }
    where
      k : ℕ
      k = length b.items

      before : List (List ℕ)
      before = with_name (with_name b.names (clock_name k)) (wire_name k)

      argument : (j : ℕ) → j < length es → Has final (argument_name k j) × ((e : Expr) × Contains (nodes (argument_nodes k 0 at es before).0) (number_in final (argument_name k j), padded e))
      argument j less =
          let same : 0 + j ≡ j = omega arith in
          subst (λ (n : ℕ). Has final (argument_name k n) × ((e : Expr) × Contains (nodes (argument_nodes k 0 at es before).0) (number_in final (argument_name k n), padded e))) same
          (argument_made k 0 at es before g j less)

      whole : IsMade (nodes (the_item at clock condition es stop pieces b).0) k (record { place = at; stop = stop; pieces = pieces })
      whole = record {
        named = λ j less. (argument j (omega (arith, less, many))).0;
        made = λ j less.
            let found = (argument j (omega (arith, less, many))).1 in
            (found.0, Contains-append_right (nodes_in _) _ _ (Contains-append_right (nodes_in _) (nodes (argument_nodes k 0 at es before).0) _ found.1));
        silent = silent;
      }

      last : (i : ℕ) (x : Item) (j : ℕ) → i ≡ k + j → slice_get (record { place = at; stop = stop; pieces = pieces } ∷ []) j ≡ Some x → IsMade (nodes (the_item at clock condition es stop pieces b).0) i x
      last i x zero is here =
          let same : k ≡ i = omega (arith, is) in
          subst (λ (n : ℕ). IsMade (nodes (the_item at clock condition es stop pieces b).0) n x) same (subst (IsMade (nodes (the_item at clock condition es stop pieces b).0) k) (same_Some _ x here) whole)
      last i x (suc j) is here = absurd (none-some x here)

  -- lines, by their layers

  record Says (l : Line) : Type 0 where
    said : line_shown l ≡ true → (b : Before) → Grows (stmts_of l b).1.names final → Makes b (stmts_of l b).1 (nodes (stmts_of l b).0)

  record ArmSays (a : LineArm) : Type 0 where
    said : arm_shown a ≡ true → (b : Before) → Grows (arm_of a b).1.names final → Makes b (arm_of a b).1 (arm_nodes (arm_of a b).0)

  block_said : (ps : List ((l : Line) × Says l)) → all_are (map line_shown (map (λ p. p.0) ps)) ≡ true → (b : Before) → Grows (in_block (map stmts_of (map (λ p. p.0) ps)) b).1.names final
      → Makes b (in_block (map stmts_of (map (λ p. p.0) ps)) b).1 (nodes (in_block (map stmts_of (map (λ p. p.0) ps)) b).0)
  block_said [] t b g = makes_none b []
  block_said (p ∷ ps) t b g =
      let rest : List Line = map (λ q. q.0) ps in
      let after : Before = (stmts_of p.0 b).1 in
      let later = in_block (map stmts_of rest) after in
      subst (Makes b later.1) (sym (nodes_append (stmts_of p.0 b).0 later.0))
      (makes_both b after later.1 (nodes (stmts_of p.0 b).0) (nodes later.0)
      (p.1.said (and_left (line_shown p.0) (all_are (map line_shown rest)) t) b (grows_twice ((lines_step rest after).0) g))
      (block_said ps (and_right (line_shown p.0) (all_are (map line_shown rest)) t) after g))

  arms_said : (ps : List ((a : LineArm) × ArmSays a)) → all_are (map arm_shown (map (λ p. p.0) ps)) ≡ true → (b : Before) → Grows (in_order (map arm_of (map (λ p. p.0) ps)) b).1.names final
      → Makes b (in_order (map arm_of (map (λ p. p.0) ps)) b).1 (all_of (map arm_nodes (in_order (map arm_of (map (λ p. p.0) ps)) b).0))
  arms_said [] t b g = makes_none b []
  arms_said (p ∷ ps) t b g =
      let rest : List LineArm = map (λ q. q.0) ps in
      let after : Before = (arm_of p.0 b).1 in
      let later = in_order (map arm_of rest) after in
      makes_both b after later.1 (arm_nodes (arm_of p.0 b).0) (all_of (map arm_nodes later.0))
      (p.1.said (and_left (arm_shown p.0) (all_are (map arm_shown rest)) t) b (grows_twice ((arm_list_step rest after).0) g))
      (arms_said ps (and_right (arm_shown p.0) (all_are (map arm_shown rest)) t) after g)

  line_at : (y : Line-F Line LineArm)
      → (shown.of_line (map-Line Line LineArm Bool Bool line_shown arm_shown y) ≡ true → (b : Before) → Grows (items.of_line (map-Line Line LineArm (Stands (List Stmt)) (Stands Arm) stmts_of arm_of y) b).1.names final
      → Makes b (items.of_line (map-Line Line LineArm (Stands (List Stmt)) (Stands Arm) stmts_of arm_of y) b).1 (nodes (items.of_line (map-Line Line LineArm (Stands (List Stmt)) (Stands Arm) stmts_of arm_of y) b).0))
      → Says (roll-Line y)
  line_at y h = record {
    said = λ t b g. subst (λ (p : List Stmt × Before). Makes b p.1 (nodes p.0)) (sym (stands_roll y b))
        (h (sym (shown_roll y) ∙ t) b (subst (λ (p : List Stmt × Before). Grows p.1.names final) (stands_roll y b) g));
  }

  line_case : (y : Line-F ((l : Line) × Says l) ((a : LineArm) × ArmSays a)) → Says (roll-Line (map-Line _ _ Line LineArm (λ p. p.0) (λ p. p.0) y))
  line_case (Line-F.Plain s) = line_at (Line-F.Plain s) (λ t b g. makes_none b (nodes (s ∷ [])))
  line_case (Line-F.Branch arms other) = line_at (Line-F.Branch (map (λ p. p.0) arms) (map (λ p. p.0) other)) (λ t b g.
      let first : List LineArm = map (λ p. p.0) arms in
      let rest : List Line = map (λ p. p.0) other in
      let made = in_order (map arm_of first) b in
      let last = in_block (map stmts_of rest) made.1 in
      subst (Makes b last.1) (sym (append-nil (nodes_in (stmt.When made.0 last.0)) ∙ of-when made.0 last.0))
      (makes_both b made.1 last.1 (all_of (map arm_nodes made.0)) (nodes last.0)
      (arms_said arms (and_left (all_are (map arm_shown first)) (all_are (map line_shown rest)) t) b (grows_twice ((lines_step rest made.1).0) g))
      (block_said other (and_right (all_are (map arm_shown first)) (all_are (map line_shown rest)) t) made.1 g)))
  line_case (Line-F.Print at clock condition pieces es) =
      line_at (Line-F.Print at clock condition pieces es) (λ t b g. item_made at clock condition es None pieces b (eqb→eq (length es) (shows pieces) (rw t tt)) (λ code e. absurd (none-some code e)) g)
  line_case (Line-F.Stop at clock condition code) =
      line_at (Line-F.Stop at clock condition code) (λ t b g. item_made at clock condition [] (Some code) [] b refl (λ number e. refl) g)

  arm_case : (y : LineArm-F ((l : Line) × Says l) ((a : LineArm) × ArmSays a)) → ArmSays (roll-LineArm (map-LineArm _ _ Line LineArm (λ p. p.0) (λ p. p.0) y))
  arm_case y =
      let layer : LineArm-F Line LineArm = record { condition = y.condition; body = map (λ p. p.0) y.body } in
      record {
        said = λ t b g. subst (λ (p : Arm × Before). Makes b p.1 (arm_nodes p.0)) (sym (arm_stands_roll layer b))
            (subst (Makes b (in_block (map stmts_of (map (λ p. p.0) y.body)) b).1) (sym (of-arm y.condition (in_block (map stmts_of (map (λ p. p.0) y.body)) b).0))
            (block_said y.body (sym (arm_shown_roll layer) ∙ t) b (subst (λ (p : Arm × Before). Grows p.1.names final) (arm_stands_roll layer b) g)));
      }

  says : (l : Line) → Says l
  says = ind-Line Says ArmSays (λ x y is. subst (λ z. Says (roll-Line z)) is (line_case y)) (λ x y is. subst (λ z. ArmSays (roll-LineArm z)) is (arm_case y))

  -- The items that lines stand for, and the nodes of their arguments.
  pub lines_make : (ls : List Line) → all_are (map line_shown ls) ≡ true → (b : Before) → Grows (in_block (map stmts_of ls) b).1.names final
      → Makes b (in_block (map stmts_of ls) b).1 (nodes (in_block (map stmts_of ls) b).0)
  lines_make [] t b g = makes_none b []
  lines_make (l ∷ ls) t b g =
      let after : Before = (stmts_of l b).1 in
      let later = in_block (map stmts_of ls) after in
      subst (Makes b later.1) (sym (nodes_append (stmts_of l b).0 later.0))
      (makes_both b after later.1 (nodes (stmts_of l b).0) (nodes later.0)
      ((says l).said (and_left (line_shown l) (all_are (map line_shown ls)) t) b (grows_twice ((lines_step ls after).0) g))
      (lines_make ls (and_right (line_shown l) (all_are (map line_shown ls)) t) after g))
