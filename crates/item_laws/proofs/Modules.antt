-- The wire of an item in the modules of a circuit.
use Rattle.std.proofs.Common.{◌≡◌, ℕ, zero, suc, ◌+◌, ◌<◌, ◌≤◌, ◌^◌, Bool, true, false, List, [], ◌∷◌, ◌++◌, map, length, Option, Some, slice_get, bytes_eq, refl, sym, ap, ap₂, ◌∙◌, subst, append-nil, arith}
use Rattle.std.specs.Prelude.{decimal}
use Rattle.std.specs.List.{All}
use Rattle.std.proofs.lemmas.Bool.{true≢false}
use Rattle.std.proofs.lemmas.Fmt.{decimal_injective}
use Rattle.std.proofs.lemmas.List.{length-map}
use Rattle.std.proofs.lemmas.List.Elements.{All-head, All-weaker}
use Rattle.std.proofs.lemmas.Option.{none-some, same_Some, slice_get_within}
use Rattle.std.proofs.lemmas.Slice.Eq.{bytes_eq-Decides}
use Rattle.place_text.specs.declared.place.Place.{Place}
use Rattle.fir_lexer.specs.Bytes.{in_word}
use Rattle.fir_lexer.specs.Tokens.{AreTokens}
use Rattle.fir_layout.specs.declared.laid.Laid.{Laid}
use Rattle.fir_layout.specs.Layout.{tokens_in}
use Rattle.fir_types.specs.declared.name.Name.{Name}
use Rattle.fir_tree.specs.declared.expr.Expr.{Expr}
use Rattle.fir_tree.specs.declared.circuit.Module.{Module}
use Rattle.item_lines.specs.declared.line.LineModule.{LineModule}
use Rattle.item_lines.specs.Items.{Before, in_block, stmts_of, zero_bit, wire_name, number_in, heads, module_of, modules_of}
use Rattle.fir_grammar.specs.Grammar.{IsSpelled, circuit_of}
use Rattle.name_laws.proofs.Tokens.{tokens_are_in}
use Rattle.name_laws.proofs.Spelled.{spelled_words, fields_are_words}
use Rattle.name_laws.specs.Names.{IsWord}
use Rattle.item_laws.specs.Drivers.{drivers, conditions}
use Rattle.item_laws.proofs.Numbers.{Has, far, Grows, grows_twice, has_grown}
use Rattle.item_laws.proofs.Picking.{picked_one}
use Rattle.item_laws.proofs.Below.{all_are, module_below, spelled_below, and_left, and_right}
use Rattle.item_laws.proofs.Growing.{heads_grown, heads_have, lines_step, modules_grown}
use Rattle.item_laws.proofs.Driving.{drivers_append, heads_drive, lines_say}

-- an item's wire has two drivers
abbrev Two : List (List ℕ) → ℕ → Expr → Module → Type 0
Two final k condition holder = (at : Place) × (drivers (number_in final (wire_name k)) holder.body ≡ Some (zero_bit at) ∷ Some condition ∷ [])

there : {A : Type 0} (xs : List A) (k : ℕ) → k < length xs → (x : A) × (slice_get xs k ≡ Some x)
there [] k less = absurd (omega (arith, less))
there (x ∷ xs) zero less = (x, refl)
there (x ∷ xs) (suc k) less = there xs k (omega (arith, less))

mapped : {A B : Type 0} (f : A → B) (xs : List A) (k : ℕ) (x : A) → slice_get xs k ≡ Some x → slice_get (map f xs) k ≡ Some (f x)
mapped f [] k x h = absurd (none-some x h)
mapped f (y ∷ xs) zero x h = ap (λ z. Some (f z)) (same_Some y x h)
mapped f (y ∷ xs) (suc k) x h = mapped f xs k x h

module _ (final : List (List ℕ)) (n : ℕ) (apart : (k : ℕ) → n ≤ number_in final (wire_name k)) where
  module_two : (m k : ℕ) (lines : LineModule) (names : List (List ℕ)) (condition : Expr) → module_below n lines ≡ true → length (conditions lines.body) < 2 ^ 64 → slice_get (conditions lines.body) k ≡ Some condition
      → Grows (module_of m lines names).1 final → Two final k condition (module_of m lines names).0.0
  module_two m k lines names condition t small is g =
      let begin : Before = record { names = names; items = [] } in
      let made = in_block (map stmts_of lines.body) begin in
      let places : List Place = map (λ item. item.place) made.1.items in
      let first = heads 0 places made.1.names in
      let counted = (lines_step lines.body begin).1 in
      let less = slice_get_within (conditions lines.body) k condition is in
      let many : length places ≡ length made.1.items = length-map made.1.items (λ item. item.place) in
      let place = there places k (omega (arith, less, counted, many)) in
      let number : 0 + k ≡ k = omega arith in
      let named : Has first.1 (wire_name k) = subst (λ (j : ℕ). Has first.1 (wire_name j)) number (heads_have 0 k places made.1.names place.0 place.1) in
      let has : Has final (wire_name k) = has_grown (wire_name k) g named in
      let once : (i : ℕ) → i < length (conditions lines.body) → wire_name i ≡ wire_name k → i ≡ k = λ i low same. decimal_injective i k (omega (arith, low, small)) (omega (arith, less, small)) (ap (λ (bytes : List ℕ). rest_of bytes) same) in (
        place.0,
        drivers_append (number_in final (wire_name k)) first.0 made.0
            ∙ ap₂ (λ (xs ys : List (Option Expr)). xs ++ ys)
            (heads_drive final k (length (conditions lines.body)) n has once (apart k) 0 places made.1.names (omega (arith, counted, many)) g
            ∙ picked_one k 0 k (map zero_bit places) (zero_bit place.0) number (mapped zero_bit places k place.0 place.1))
            (lines_say final k (length (conditions lines.body)) n has once (apart k) lines.body t begin (omega arith) (grows_twice (heads_grown 0 places made.1.names) g)
            ∙ picked_one k 0 k (conditions lines.body) condition number is),
      )
    where
      rest_of : List ℕ → List ℕ
      rest_of [] = []
      rest_of (b ∷ bytes) = bytes

  modules_two : (i m k : ℕ) (modules : List LineModule) (names : List (List ℕ)) (lines : LineModule) (holder : Module) (condition : Expr) → all_are (map (module_below n) modules) ≡ true
      → slice_get modules m ≡ Some lines → slice_get (modules_of i modules names).0.0 m ≡ Some holder → slice_get (conditions lines.body) k ≡ Some condition → length (conditions lines.body) < 2 ^ 64
      → Grows (modules_of i modules names).1 final → Two final k condition holder
  modules_two i m k [] names lines holder condition t here made is small g = absurd (none-some lines here)
  modules_two i zero k (first ∷ others) names lines holder condition t here made is small g =
      let same : first ≡ lines = same_Some first lines here in
      let of : (module_of i first names).0.0 ≡ holder = same_Some (module_of i first names).0.0 holder made in
      subst (λ (h : Module). Two final k condition h) of
      (module_two i k first names condition (and_left (module_below n first) (all_are (map (module_below n) others)) t) (subst (λ (l : LineModule). length (conditions l.body) < 2 ^ 64) (sym same) small)
      (subst (λ (l : LineModule). slice_get (conditions l.body) k ≡ Some condition) (sym same) is) (grows_twice (modules_grown (i + 1) others (module_of i first names).1) g))
  modules_two i (suc m) k (first ∷ others) names lines holder condition t here made is small g =
      modules_two (i + 1) m k others (module_of i first names).1 lines holder condition (and_right (module_below n first) (all_are (map (module_below n) others)) t) here made is small g

other_text : (k : ℕ) (name : List ℕ) → IsWord name → bytes_eq name (wire_name k) ≡ false
other_text k name word = by (bytes_eq name (wire_name k)) refl
  where
    by : (b : Bool) → bytes_eq name (wire_name k) ≡ b → b ≡ false
    by true e =
        let passes : in_word 35 ≡ true = All-head (λ b. in_word b ≡ true) 35 (decimal k) (subst IsWord ((bytes_eq-Decides name (wire_name k)).0 e) word) in
        absurd (true≢false (sym passes))
    by false e = refl

pub two_drivers : (text : List ℕ) (list : List Laid) (major : ℕ) (main : Name) (modules : List LineModule) (names : List (List ℕ)) → AreTokens text (tokens_in list) → IsSpelled text list major main modules names
    → (m k : ℕ) (lines : LineModule) (holder : Module) (condition : Expr) → slice_get modules m ≡ Some lines → slice_get (circuit_of main modules names).modules m ≡ Some holder
    → slice_get (conditions lines.body) k ≡ Some condition → length (conditions lines.body) < 2 ^ 64 → Two (circuit_of main modules names).names k condition holder
two_drivers text list major main modules names are is m k lines holder condition here made at small =
    let final : List (List ℕ) = (circuit_of main modules names).names in
    let grown = modules_grown 0 modules names in
    let words : All IsWord names = (spelled_words major text refl is.spelled (tokens_are_in text (tokens_in list) are) fields_are_words).1 in
    let apart : (j : ℕ) → length names ≤ number_in final (wire_name j) = λ j. subst (λ (all : List (List ℕ)). length names ≤ number_in all (wire_name j)) (sym grown.are)
    (far names grown.more (wire_name j) (All-weaker IsWord (λ name. bytes_eq name (wire_name j) ≡ false) (other_text j) names words)) in
    modules_two final (length names) apart 0 m k modules names lines holder condition (spelled_below text list major main modules names is) here made at small (record { more = []; are = sym (append-nil final) })
