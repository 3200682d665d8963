-- The rows of a run, watched at the leaves of its items, tell its log.
use Rattle.std.proofs.Common.{◌≡◌, ℕ, zero, suc, ◌+◌, ◌-◌, ◌==◌, Bool, true, false, List, [], ◌∷◌, ◌++◌, map, take, drop, length, sum, flat_map, zip, Option, Some, None, option_and_then, is_some, ℤ, eqb, eq-eqb, eqb→eq, refl, sym, ap, ap₂, ◌∙◌, subst, arith, append_assoc, append-nil, if◌then◌else◌}
use Rattle.std.specs.Prelude.{pos, ◌↔◌}
use Rattle.std.specs.List.{AllZip}
use Rattle.std.proofs.Math.Seq.{take-append_seam, drop-append_seam}
use Rattle.std.proofs.lemmas.Slice.Zip.{AllZip-long}
use Rattle.std.proofs.lemmas.List.{length-map}
use Rattle.bit_words.specs.declared.value.Value.{Value}
use Rattle.bit_words.specs.declared.value.Kind.{Kind}
use Rattle.bit_words.specs.declared.value.Kind.TheVariants.{Unsigned}
use Rattle.bit_words.specs.Values.{integer, integer_of}
use Rattle.fir_types.specs.declared.leaf.TypeLeaf.{TypeLeaf}
use Rattle.fir_tree.specs.declared.expr.Expr.{Expr}
use Rattle.fir_tree.specs.declared.print.PrintItem.{PrintItem}
use Rattle.item_lines.specs.Formats.{shows}
use Rattle.prim_ops.specs.Shapes.{Shape, shaped, shape_of_value}
use Rattle.fir_meaning.specs.Components.{Design, TypedModule, FlatLeaf, module_at}
use Rattle.fir_meaning.specs.Values.{Valuation, value}
use Rattle.fir_meaning.specs.States.{State, Inputs, Settled, WatchedTrace, ended, cycle, row_of, next}
use Rattle.row_texts.specs.Tellings.{Telling, last_from, told_of, rows_text, run_text}
use Rattle.print_stop.specs.Printed.{printed, stopped_line, ended_line}
use Rattle.print_stop.specs.Logging.{places, own_text, own_code, items_text, items_code, first_of, feed, last_line, log_telling}
use Rattle.print_stop.specs.Printing.{PathItem, Enabled, scene_at, Prints, prints, keeps_still, is_stop, Stops, InCycle, no_item, a_stop, no_stop, Logs, ends, stops, goes_on, with_feed}
use Rattle.print_stop.specs.Sound.{IsArgumentNode, IsSound, IsOfLeaf, Shows, IsOfPrint, leaf_at, item_leaves, all_leaves}
use Rattle.print_stop.proofs.Leaves.{the_module, enabled_by_wire, wire_shape, node_value}

-- lists that go side by side, in two parts

record Parted {A B : Type 0} (R : A → B → Type 0) (xs ys : List A) (zs : List B) : Type 0 where
  first : List B
  second : List B
  are : zs ≡ first ++ second
  left : AllZip R xs first
  right : AllZip R ys second

part : {A B : Type 0} (R : A → B → Type 0) (xs ys : List A) (zs : List B) → AllZip R (xs ++ ys) zs → Parted R xs ys zs
part R [] ys zs h = record { first = []; second = zs; are = refl; left = tt; right = h }
part R (x ∷ xs) ys [] h = absurd h
part {A} {B} R (x ∷ xs) ys (z ∷ zs) h =
    let p = part R xs ys zs h.1 in
    record { first = z ∷ p.first; second = p.second; are = ap (λ (l : List B). z ∷ l) p.are; left = (h.0, p.left); right = p.right }

-- what a value of one bit says

bits_of_one : (v : Value) (n : ℤ) → v.kind ≡ Unsigned → integer_of v ≡ n → pos v.bits ≡ n
bits_of_one v n kind is = ap (λ (k : Kind). integer k v.width v.bits) (sym kind) ∙ is

bit_is_one : (v : Value) (n : ℤ) → v.kind ≡ Unsigned → integer_of v ≡ n → eqb v.bits 1 ≡ true → n ≡ pos 1
bit_is_one v n kind is e = sym (bits_of_one v n kind is) ∙ ap pos (eqb→eq v.bits 1 (rw e tt))

same_number : (a b : ℕ) → pos a ≡ pos b → a ≡ b
same_number a b e = ap number e
  where
    number : ℤ → ℕ
    number (pos n) = n
    number _ = 0

no_bit : (v : Value) (n : ℤ) → v.kind ≡ Unsigned → integer_of v ≡ n → eqb v.bits 1 ≡ false → ¬ (n ≡ pos 1)
no_bit v n kind is e h = let one : v.bits ≡ 1 = same_number v.bits 1 (bits_of_one v n kind is ∙ h) in let t : eqb v.bits 1 ≡ true = eq-eqb v.bits 1 one in let f : ◌≡◌ {A = Bool} true false = sym t ∙ e in cc

module _ {design : Design} {s : State} {given : Inputs} {rho : Valuation} (settled : Settled design s given rho) where
  module _ {item : PathItem} {nodes : List ℕ} (sound : IsSound design item nodes) where
    argument_values : (names : List ℕ) (es : List Expr) (vs : List Value) → AllZip (IsArgumentNode sound.m) names es → AllZip (Shows design rho) (map (leaf_at item.path) names) vs
        → map (λ e. value e (scene_at sound.m item rho)) es ≡ map (λ v. v ∷ []) vs
    argument_values [] [] [] nodes_are shown = refl
    argument_values [] [] (v ∷ vs) nodes_are shown = absurd shown
    argument_values [] (e ∷ es) vs nodes_are shown = absurd nodes_are
    argument_values (n ∷ names) [] vs nodes_are shown = absurd nodes_are
    argument_values (n ∷ names) (e ∷ es) [] nodes_are shown = absurd shown
    argument_values (n ∷ names) (e ∷ es) (v ∷ vs) nodes_are shown = ap₂ (λ (x : List Value) (xs : List (List Value)). x ∷ xs)
        (node_value item.path sound.stands nodes_are.0 s given rho settled v shown.0) (argument_values names es vs nodes_are.1 shown.1)

  -- an item with its values
  record Tells (item : PathItem) (print : PrintItem) (own : List Value) : Type 0 where
    stopping : (code : ℕ) → own_code print own ≡ Some code → Stops design rho item code
    going : own_code print own ≡ None → (code : ℕ) → ¬ (Stops design rho item code)
    text : own_code print own ≡ None → Prints design rho item (own_text print own)
    silent : (code : ℕ) → own_code print own ≡ Some code → own_text print own ≡ []

  tells : (item : PathItem) (nodes : List ℕ) (print : PrintItem) (w : Value) (vs : List Value) → IsSound design item nodes → IsOfPrint item print → Shows design rho (leaf_at item.path item.wire) w
      → AllZip (Shows design rho) (map (leaf_at item.path) nodes) vs → Tells item print (w ∷ vs)
  tells item nodes print w vs sound of shown rest = by (w.bits == 1) refl item.stop refl
    where
      kind : w.kind ≡ Unsigned
      kind = ap (λ (x : Shape). x.kind) (wire_shape sound w shown.shape)

      enabled : (w.bits == 1) ≡ true → Enabled (scene_at sound.m item rho) item.wire item.behind
      enabled e = (enabled_by_wire sound s given rho settled).0 (bit_is_one w _ kind shown.integer e)

      disabled : (w.bits == 1) ≡ false → ¬ (Enabled (scene_at sound.m item rho) item.wire item.behind)
      disabled e h = no_bit w _ kind shown.integer e ((enabled_by_wire sound s given rho settled).1 h)

      not_stopping : (w.bits == 1) ≡ false → (code : ℕ) → ¬ (Stops design rho item code)
      not_stopping e code h = disabled e (subst (λ (k : TypedModule). Enabled (scene_at k item rho) item.wire item.behind) (the_module sound h.m h.stands) h.enabled)

      none_stops : item.stop ≡ None → (code : ℕ) → ¬ (Stops design rho item code)
      none_stops e code h = let clash : ◌≡◌ {A = Option ℕ} None (Some code) = sym e ∙ h.stop in cc

      text_of : (b : Bool) → (w.bits == 1) ≡ b → own_text print (w ∷ vs) ≡ (if b then printed item.pieces vs else [])
      text_of b e = ap (λ (t : Bool). if t then printed print.pieces vs else []) e ∙ ap (λ ps. if b then printed ps vs else []) (sym of.pieces)

      code_of : (b : Bool) → (w.bits == 1) ≡ b → own_code print (w ∷ vs) ≡ (if b then item.stop else None)
      code_of b e = ap (λ (t : Bool). if t then print.stop else None) e ∙ ap (λ (o : Option ℕ). if b then o else None) (sym of.stop)

      none_some : (o : Option ℕ) (n : ℕ) → o ≡ None → o ≡ Some n → ⊥
      none_some o n e f = let clash : ◌≡◌ {A = Option ℕ} None (Some n) = sym e ∙ f in cc

      by : (b : Bool) → (w.bits == 1) ≡ b → (o : Option ℕ) → item.stop ≡ o → Tells item print (w ∷ vs)
      by true e None none = record {
        stopping = λ code is. absurd (none_some (own_code print (w ∷ vs)) code (code_of true e ∙ none) is);
        going = λ is code. none_stops none code;
        text = λ is. subst (Prints design rho item) (sym (text_of true e)) (prints sound.m vs sound.stands none (enabled e) (argument_values sound nodes item.arguments vs sound.arguments rest));
        silent = λ code is. absurd (none_some (own_code print (w ∷ vs)) code (code_of true e ∙ none) is);
      }
      by true e (Some code) some = record {
        stopping = λ c is. record { m = sound.m; stands = sound.stands; stop = sym (code_of true e) ∙ is; enabled = enabled e };
        going = λ is. absurd (none_some (own_code print (w ∷ vs)) code is (code_of true e ∙ some));
        text = λ is. absurd (none_some (own_code print (w ∷ vs)) code is (code_of true e ∙ some));
        silent = λ c is. text_of true e ∙ ap (λ ps. printed ps vs) (sound.silent code some);
      }
      by false e o stop = record {
        stopping = λ code is. absurd (none_some (own_code print (w ∷ vs)) code (code_of false e) is);
        going = λ is. not_stopping e;
        text = λ is. subst (Prints design rho item) (sym (text_of false e)) (keeps_still sound.m sound.stands (disabled e));
        silent = λ code is. text_of false e;
      }

  -- an item before others
  one_more : (item : PathItem) (items : List PathItem) (p : PrintItem) (ps : List PrintItem) (own rest : List Value) → Tells item p own → InCycle design rho items (items_text ps rest) (items_code ps rest)
      → InCycle design rho (item ∷ items) (own_text p own ++ items_text ps rest) (first_of (own_code p own) (items_code ps rest))
  one_more item items p ps own rest t later = by (own_code p own) refl
    where
      by : (o : Option ℕ) → own_code p own ≡ o → InCycle design rho (item ∷ items) (own_text p own ++ items_text ps rest) (first_of (own_code p own) (items_code ps rest))
      by (Some code) e =
          subst (λ (o : Option ℕ). InCycle design rho (item ∷ items) (own_text p own ++ items_text ps rest) (first_of o (items_code ps rest))) (sym e)
          (subst (λ (x : List ℕ). InCycle design rho (item ∷ items) (x ++ items_text ps rest) (Some code)) (sym (t.silent code e)) (a_stop (t.stopping code e) later))
      by None e =
          subst (λ (o : Option ℕ). InCycle design rho (item ∷ items) (own_text p own ++ items_text ps rest) (first_of o (items_code ps rest))) (sym e)
          (no_stop (t.going e) (t.text e) later)

  -- an item's values are as many as it has
  cut : (item : PathItem) (nodes : List ℕ) (p : PrintItem) (w : Value) (vs : List Value) → IsSound design item nodes → IsOfPrint item p → AllZip (Shows design rho) (map (leaf_at item.path) nodes) vs → places p ≡ length (w ∷ vs)
  cut item nodes p w vs sound of shown =
      let long : length vs ≡ length (map (leaf_at item.path) nodes) = AllZip-long (Shows design rho) (map (leaf_at item.path) nodes) vs shown in
      let mapped : length (map (leaf_at item.path) nodes) ≡ length nodes = length-map nodes (leaf_at item.path) in
      let same : shows p.pieces ≡ shows item.pieces = sym (ap shows of.pieces) in
      let all : shows p.pieces ≡ length vs = same ∙ sym sound.shown ∙ sym mapped ∙ sym long in
      omega (arith, all)

  with_rest : (item : PathItem) (items : List PathItem) (p : PrintItem) (ps : List PrintItem) (own rest : List Value) → places p ≡ length own → Tells item p own
      → InCycle design rho items (items_text ps rest) (items_code ps rest) → InCycle design rho (item ∷ items) (items_text (p ∷ ps) (own ++ rest)) (items_code (p ∷ ps) (own ++ rest))
  with_rest item items p ps own rest count t later =
      let first : take (places p) (own ++ rest) ≡ own = ap (λ (n : ℕ). take n (own ++ rest)) count ∙ take-append_seam own rest in
      let others : drop (places p) (own ++ rest) ≡ rest = ap (λ (n : ℕ). drop n (own ++ rest)) count ∙ drop-append_seam own rest in
      let P : List Value → List Value → Type 0 = λ x y. InCycle design rho (item ∷ items) (own_text p x ++ items_text ps y) (first_of (own_code p x) (items_code ps y)) in
      subst (λ (x : List Value). P x (drop (places p) (own ++ rest))) (sym first) (subst (λ (y : List Value). P own y) (sym others) (one_more item items p ps own rest t later))

  -- all items of a cycle
  pub in_cycle : (items : List PathItem) (nodes : List (List ℕ)) (ps : List PrintItem) (row : List Value) → AllZip (IsSound design) items nodes → AllZip IsOfPrint items ps
      → AllZip (Shows design rho) (all_leaves (zip items nodes)) row → InCycle design rho items (items_text ps row) (items_code ps row)
  in_cycle [] [] [] row sound of shown = no_item
  in_cycle [] [] (p ∷ ps) row sound of shown = absurd of
  in_cycle [] (ns ∷ nodes) ps row sound of shown = absurd sound
  in_cycle (item ∷ items) [] ps row sound of shown = absurd sound
  in_cycle (item ∷ items) (ns ∷ nodes) [] row sound of shown = absurd of
  in_cycle (item ∷ items) (ns ∷ nodes) (p ∷ ps) row sound of shown =
      let parts = part (Shows design rho) (item_leaves (item, ns)) (all_leaves (zip items nodes)) row shown in
      let later = in_cycle items nodes ps parts.second sound.1 of.1 parts.right in
      subst (λ (r : List Value). InCycle design rho (item ∷ items) (items_text (p ∷ ps) r) (items_code (p ∷ ps) r)) (sym parts.are) (whole parts.first parts.second parts.left later)
    where
      whole : (own rest : List Value) → AllZip (Shows design rho) (item_leaves (item, ns)) own → InCycle design rho items (items_text ps rest) (items_code ps rest)
          → InCycle design rho (item ∷ items) (items_text (p ∷ ps) (own ++ rest)) (items_code (p ∷ ps) (own ++ rest))
      whole [] rest left later = absurd left
      whole (w ∷ vs) rest left later = with_rest item items p ps (w ∷ vs) rest (cut item ns p w vs sound.0 of.0 left.1) (tells item ns p w vs sound.0 of.0 left.0 left.1) later
