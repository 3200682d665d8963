-- The names of items stand behind those of their text, and begin with `#`.
use Rattle.std.proofs.Common.{◌≡◌, ℕ, zero, suc, ◌+◌, ◌/◌, ◌%◌, ◌<◌, ◌==◌, nat_lt, Bool, true, false, List, [], ◌∷◌, ◌++◌, map, bytes_eq, codes, refl, sym, ap, ◌∙◌, subst, arith, true≢false, if◌then◌else◌}
use Rattle.std.specs.Prelude.{decimal}
use Rattle.std.specs.List.{All}
use Rattle.std.specs.Fmt.{digits, digits_onto, digit_glyph}
use Rattle.std.proofs.lemmas.Grind.{common_steps}
use Rattle.std.proofs.lemmas.Bool.Decides.{nat_tests}
use Rattle.std.proofs.lemmas.List.Elements.{All-nil, All-cons, All-head, All-tail, All-append, All-weaker}
use Rattle.place_text.specs.declared.place.Place.{Place}
use Rattle.fir_lexer.specs.Bytes.{in_word}
use Rattle.fir_types.specs.declared.name.Name.{Name}
use Rattle.fir_tree.specs.declared.circuit.Circuit.{Circuit}
use Rattle.fir_tree.specs.declared.expr.Expr.{Expr}
use Rattle.fir_tree.specs.declared.stmt.Stmt.{Stmt}
use Rattle.fir_tree.specs.declared.stmt.Arm.{Arm}
use Rattle.item_lines.specs.declared.line.Line.{Line, ind-Line, roll-Line, map-Line, the_lemmas as line_lemmas}
use Rattle.item_lines.specs.declared.line.Line.TheOpen.{Line-F, LineArm-F}
use Rattle.item_lines.specs.declared.line.LineArm.{LineArm, roll-LineArm, map-LineArm}
use Rattle.item_lines.specs.declared.line.LineModule.{LineModule}
use Rattle.item_lines.specs.Items as items
use Rattle.item_lines.specs.Items.{Before, Stands, in_order, in_block, stmts_of, with_name, wire_name, clock_name, argument_name, argument_nodes, item_stmts, heads, module_of, modules_of}
use Rattle.item_lines.specs.Lines.{arm_of}
use Rattle.fir_grammar.specs.Grammar.{circuit_of}
use Rattle.name_laws.specs.Names.{in_name, IsWord, IsName, IsItemName, AddItemNames}
use Rattle.name_laws.proofs.Marks.{words_name}

-- the names that items have

digit_word : (d : ℕ) → d < 10 → in_word (digit_glyph false d) ≡ true
digit_word d h =
    let small : nat_lt d 10 ≡ true = grind (arith, nat_tests) in
    let is : digit_glyph false d ≡ 48 + d = ap (λ b. if b then 48 + d else 87 + d) small in
    ap in_word is ∙ a_digit d h
  where
    a_digit : (d : ℕ) → d < 10 → in_word (48 + d) ≡ true
    a_digit d h = grind (arith, nat_tests)

digits_word : (k n : ℕ) (rest : List ℕ) → IsWord rest → IsWord (digits_onto k 10 false n rest)
digits_word zero n rest h = h
digits_word (suc k) n rest h = by (n / 10 == 0) (digits_word k (n / 10) (digit_glyph false (n % 10) ∷ rest) more)
  where
    more : IsWord (digit_glyph false (n % 10) ∷ rest)
    more = All-cons (λ b. in_word b ≡ true) (digit_glyph false (n % 10)) rest (digit_word (n % 10) (omega arith)) h

    by : (b : Bool) → IsWord (digits_onto k 10 false (n / 10) (digit_glyph false (n % 10) ∷ rest))
        → IsWord (if b then digit_glyph false (n % 10) ∷ rest else digits_onto k 10 false (n / 10) (digit_glyph false (n % 10) ∷ rest))
    by true later = more
    by false later = later

decimal_word : (n : ℕ) → IsWord (decimal n)
unfolding digits
decimal_word n = digits_word 64 n [] (All-nil (λ b. in_word b ≡ true))

joined_word : (xs ys : List ℕ) → IsWord xs → IsWord ys → IsWord (xs ++ ys)
joined_word xs ys h k = All-append (λ b. in_word b ≡ true) xs ys h k

letter_word : (b : ℕ) → in_word b ≡ true → IsWord (b ∷ [])
letter_word b e = All-cons (λ b. in_word b ≡ true) b [] e (All-nil (λ b. in_word b ≡ true))

wire_item : (k : ℕ) → IsItemName (wire_name k)
wire_item k = record { rest = decimal k; is = refl; word = decimal_word k }

clock_item : (k : ℕ) → IsItemName (clock_name k)
clock_item k = record { rest = decimal k ++ codes "c"; is = refl; word = joined_word (decimal k) (codes "c") (decimal_word k) (letter_word 99 refl) }

argument_item : (k j : ℕ) → IsItemName (argument_name k j)
argument_item k j = record {
  rest = decimal k ++ codes "a" ++ decimal j;
  is = refl;
  word = joined_word (decimal k ++ codes "a") (decimal j) (joined_word (decimal k) (codes "a") (decimal_word k) (letter_word 97 refl)) (decimal_word j);
}

-- further names

none_added : (names : List (List ℕ)) → AddItemNames names names
none_added names = record { items = []; are = grind (arith, common_steps); begin = All-nil IsItemName }

name_added : (written items : List (List ℕ)) (text : List ℕ) → All IsItemName items → IsItemName text → AddItemNames written (with_name (written ++ items) text)
name_added [] items text are item = by items are
  where
    by : (items : List (List ℕ)) → All IsItemName items → AddItemNames [] (with_name items text)
    by items are = record { items = with_name items text; are = refl; begin = all items are }
      where
        all : (items : List (List ℕ)) → All IsItemName items → All IsItemName (with_name items text)
        all [] are = All-cons IsItemName text [] item (All-nil IsItemName)
        all (first ∷ others) are = one (bytes_eq first text) (all others (All-tail IsItemName first others are))
          where
            one : (b : Bool) → All IsItemName (with_name others text) → All IsItemName (if b then first ∷ others else first ∷ with_name others text)
            one true more = are
            one false more = All-cons IsItemName first (with_name others text) (All-head IsItemName first others are) more
name_added (first ∷ written) items text are item = by (bytes_eq first text) (name_added written items text are item)
  where
    by : (b : Bool) → AddItemNames written (with_name (written ++ items) text) → AddItemNames (first ∷ written) (if b then first ∷ (written ++ items) else first ∷ with_name (written ++ items) text)
    by true more = record { items = items; are = refl; begin = are }
    by false more = record { items = more.items; are = ap (λ names. first ∷ names) more.are; begin = more.begin }

module _ (written : List (List ℕ)) where
  abbrev Added : List (List ℕ) → Type 0
  Added names = AddItemNames written names

  one_added : (names : List (List ℕ)) (text : List ℕ) → IsItemName text → Added names → Added (with_name names text)
  one_added names text item a = subst (λ (ns : List (List ℕ)). Added (with_name ns text)) (sym a.are) (name_added written a.items text a.begin item)

  nodes_added : (k j : ℕ) (at : Place) (es : List Expr) (names : List (List ℕ)) → Added names → Added (argument_nodes k j at es names).1
  nodes_added k j at [] names a = a
  nodes_added k j at (e ∷ es) names a = nodes_added k (j + 1) at es (with_name names (argument_name k j)) (one_added names (argument_name k j) (argument_item k j) a)

  item_added : (k : ℕ) (at : Place) (clock condition : Expr) (es : List Expr) (names : List (List ℕ)) → Added names → Added (item_stmts k at clock condition es names).1
  item_added k at clock condition es names a =
      let more = with_name names (clock_name k) in
      nodes_added k 0 at es (with_name more (wire_name k)) (one_added more (wire_name k) (wire_item k) (one_added names (clock_name k) (clock_item k) a))

  heads_added : (k : ℕ) (places : List Place) (names : List (List ℕ)) → Added names → Added (heads k places names).1
  heads_added k [] names a = a
  heads_added k (at ∷ places) names a = heads_added (k + 1) places (with_name names (wire_name k)) (one_added names (wire_name k) (wire_item k) a)

  -- lines, by their layers

  record Adds (l : Line) : Type 0 where
    added : (b : Before) → Added b.names → Added (stmts_of l b).1.names

  record ArmAdds (arm : LineArm) : Type 0 where
    added : (b : Before) → Added b.names → Added (arm_of arm b).1.names

  stands_roll : (y : Line-F Line LineArm) (b : Before) → stmts_of (roll-Line y) b ≡ items.of_line (map-Line Line LineArm (Stands (List Stmt)) (Stands Arm) stmts_of arm_of y) b
  stands_roll y b = grind (arith, common_steps, line_lemmas)

  arm_stands_roll : (y : LineArm-F Line LineArm) (b : Before) → arm_of (roll-LineArm y) b ≡ items.of_arm (map-LineArm Line LineArm (Stands (List Stmt)) (Stands Arm) stmts_of arm_of y) b
  arm_stands_roll y b = grind (arith, common_steps, line_lemmas)

  block_adds : (ps : List ((l : Line) × Adds l)) (b : Before) → Added b.names → Added (in_block (map stmts_of (map (λ p. p.0) ps)) b).1.names
  block_adds [] b a = a
  block_adds (p ∷ ps) b a = block_adds ps (stmts_of p.0 b).1 (p.1.added b a)

  arms_add : (ps : List ((arm : LineArm) × ArmAdds arm)) (b : Before) → Added b.names → Added (in_order (map arm_of (map (λ p. p.0) ps)) b).1.names
  arms_add [] b a = a
  arms_add (p ∷ ps) b a = arms_add ps (arm_of p.0 b).1 (p.1.added b a)

  line_at : (y : Line-F Line LineArm) → ((b : Before) → Added b.names → Added (items.of_line (map-Line Line LineArm (Stands (List Stmt)) (Stands Arm) stmts_of arm_of y) b).1.names) → Adds (roll-Line y)
  line_at y h = record { added = λ b a. subst (λ (p : List Stmt × Before). Added p.1.names) (sym (stands_roll y b)) (h b a) }

  line_case : (y : Line-F ((l : Line) × Adds l) ((arm : LineArm) × ArmAdds arm)) → Adds (roll-Line (map-Line _ _ Line LineArm (λ p. p.0) (λ p. p.0) y))
  line_case (Line-F.Plain s) = line_at (Line-F.Plain s) (λ b a. a)
  line_case (Line-F.Branch arms other) =
      line_at (Line-F.Branch (map (λ p. p.0) arms) (map (λ p. p.0) other)) (λ b a. block_adds other (in_order (map arm_of (map (λ p. p.0) arms)) b).1 (arms_add arms b a))
  line_case (Line-F.Print at clock condition pieces es) = line_at (Line-F.Print at clock condition pieces es) (λ b a. item_added _ at clock condition es b.names a)
  line_case (Line-F.Stop at clock condition code) = line_at (Line-F.Stop at clock condition code) (λ b a. item_added _ at clock condition [] b.names a)

  arm_case : (y : LineArm-F ((l : Line) × Adds l) ((arm : LineArm) × ArmAdds arm)) → ArmAdds (roll-LineArm (map-LineArm _ _ Line LineArm (λ p. p.0) (λ p. p.0) y))
  arm_case y =
      let layer : LineArm-F Line LineArm = record { condition = y.condition; body = map (λ p. p.0) y.body } in
      record { added = λ b a. subst (λ (p : Arm × Before). Added p.1.names) (sym (arm_stands_roll layer b)) (block_adds y.body b a) }

  adds : (l : Line) → Adds l
  adds = ind-Line Adds ArmAdds (λ x y is. subst (λ z. Adds (roll-Line z)) is (line_case y)) (λ x y is. subst (λ z. ArmAdds (roll-LineArm z)) is (arm_case y))

  lines_add : (ls : List Line) (b : Before) → Added b.names → Added (in_block (map stmts_of ls) b).1.names
  lines_add [] b a = a
  lines_add (l ∷ ls) b a = lines_add ls (stmts_of l b).1 ((adds l).added b a)

  modules_add : (m : ℕ) (modules : List LineModule) (names : List (List ℕ)) → Added names → Added (modules_of m modules names).1
  modules_add m [] names a = a
  modules_add m (first ∷ others) names a =
      let begin : Before = record { names = names; items = [] } in
      let after : Before = (in_block (map stmts_of first.body) begin).1 in
      modules_add (m + 1) others (module_of m first names).1 (heads_added 0 (map (λ item. item.place) after.items) after.names (lines_add first.body begin a))

pub circuit_adds : (main : Name) (modules : List LineModule) (names : List (List ℕ)) → AddItemNames names (circuit_of main modules names).names
circuit_adds main modules names = modules_add names 0 modules names (none_added names)

-- and what the names of items are

pub word_no_item : (name : List ℕ) → IsWord name → ¬ (IsItemName name)
word_no_item name word item = let passes : in_word 35 ≡ true = All-head (λ b. in_word b ≡ true) 35 item.rest (subst IsWord item.is word) in true≢false (sym passes)

pub item_names : (name : List ℕ) → IsItemName name → IsName name
item_names name item = subst IsName (sym item.is) (All-cons (λ b. in_name b ≡ true) 35 item.rest refl (words_name item.rest item.word))

pub circuit_names : (circuit : Circuit) (modules : List LineModule) (names : List (List ℕ)) → circuit ≡ circuit_of circuit.main modules names → All IsWord names → All IsName circuit.names
circuit_names circuit modules names is words =
    let adds = circuit_adds circuit.main modules names in
    let all : All IsName (names ++ adds.items) = All-append IsName names adds.items (All-weaker IsWord IsName words_name names words) (All-weaker IsItemName IsName item_names adds.items adds.begin) in
    subst (All IsName) (sym (ap (λ (c : Circuit). c.names) is ∙ adds.are)) all
