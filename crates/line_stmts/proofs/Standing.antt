-- Heads, modules and circuits, one more at a time.
use Rattle.std.proofs.Common.{◌≡◌, ℕ, suc, ◌+◌, ◌<◌, List, [], ◌∷◌, ◌++◌, map, length, take, get_or, refl, sym, ap, ap₂, ◌∙◌, append_assoc, append-nil, arith}
use Rattle.std.proofs.lemmas.Grind.{common_steps}
use Rattle.std.proofs.Math.Seq.{take-suc}
use Rattle.place_text.specs.declared.place.Place.{Place}
use Rattle.fir_tree.specs.declared.stmt.Stmt.{Stmt}
use Rattle.fir_tree.specs.declared.circuit.Module.{Module}
use Rattle.fir_tree.specs.declared.print.PrintItem.{PrintItem}
use Rattle.fir_tree.specs.Numbered.{IsDistinct}
use Rattle.item_lines.specs.declared.line.LineModule.{LineModule}
use Rattle.item_lines.specs.Items.{Before, Made, in_block, stmts_of, head_stmts, heads, module_of, modules_of}
use Rattle.item_lines.specs.Naming.{IsMade}
use Rattle.line_stmts.specs.declared.maker.Maker.{Maker}
use Rattle.line_stmts.specs.Walks.{Holds, Makes, Stood}

-- heads

heads_more : (k : ℕ) (places : List Place) (at : Place) (names : List (List ℕ))
    → heads k (places ++ at ∷ []) names
    ≡ ((heads k places names).0 ++ (head_stmts (k + length places) at (heads k places names).1).0, (head_stmts (k + length places) at (heads k places names).1).1)
heads_more k [] at names = let same : k ≡ k + length {A = Place} [] = omega arith in
    ap (λ (xs : List Stmt). (xs, (head_stmts k at names).1)) (append-nil (head_stmts k at names).0) ∙ ap (λ (n : ℕ). ((head_stmts n at names).0, (head_stmts n at names).1)) same
heads_more k (first ∷ places) at names =
    let h = heads_more (k + 1) places at (head_stmts k first names).1 in
    let same : k + 1 + length places ≡ k + length (first ∷ places) = omega arith in
    let names' = (heads (k + 1) places (head_stmts k first names).1).1 in
    ap (λ (p : Made (List Stmt)). ((head_stmts k first names).0 ++ p.0, p.1)) h
    ∙ ap (λ (xs : List Stmt). (xs, (head_stmts (k + 1 + length places) at names').1)) (sym (append_assoc (head_stmts k first names).0 (heads (k + 1) places (head_stmts k first names).1).0 (head_stmts (k + 1 + length places) at names').0))
    ∙ ap (λ (n : ℕ). (((head_stmts k first names).0 ++ (heads (k + 1) places (head_stmts k first names).1).0) ++ (head_stmts n at names').0, (head_stmts n at names').1)) same

pub no_heads : (names : List (List ℕ)) → IsDistinct names → IsMade [] [] names (heads 0 [] names)
no_heads names distinct = record { statements = refl; names = refl; distinct = distinct }

pub more_heads : (places : List Place) (at : Place) (n : ℕ) (made more all : List Stmt) (first names texts : List (List ℕ)) → n ≡ length places → IsMade [] made names (heads 0 places first)
    → IsMade [] more texts (head_stmts n at names) → all ≡ made ++ more → IsMade [] all texts (heads 0 (places ++ at ∷ []) first)
more_heads places at n made more all first names texts counted h k grown =
    let all_of = heads_more 0 places at first in
    let here : head_stmts n at names ≡ head_stmts (0 + length places) at (heads 0 places first).1 = ap₂ (λ (m : ℕ) (ns : List (List ℕ)). head_stmts m at ns) (let from : n ≡ 0 + length places = omega (arith, counted) in from) h.names in
    record {
      statements = grown ∙ ap₂ (λ (xs ys : List Stmt). xs ++ ys) h.statements (k.statements ∙ ap (λ (p : Made (List Stmt)). p.0) here) ∙ sym (ap (λ (p : Made (List Stmt)). p.0) all_of);
      names = k.names ∙ ap (λ (p : Made (List Stmt)). p.1) here ∙ sym (ap (λ (p : Made (List Stmt)). p.1) all_of);
      distinct = k.distinct;
    }

-- and one more of a list by its place
pub more_heads_at : (places : List Place) (i : ℕ) (none : Place) (n : ℕ) (made more all : List Stmt) (first names texts : List (List ℕ)) → i < length places → n ≡ i → IsMade [] made names (heads 0 (take i places) first)
    → IsMade [] more texts (head_stmts n (get_or places i none) names) → all ≡ made ++ more → IsMade [] all texts (heads 0 (take (i + 1) places) first)
more_heads_at places i none n made more all first names texts within counted h k grown =
    let next : i + 1 ≡ suc i = omega arith in
    let taken : take (i + 1) places ≡ take i places ++ get_or places i none ∷ [] = ap (λ (m : ℕ). take m places) next ∙ take-suc places i none within in
    let long : length (take i places) ≡ i = grind (arith, common_steps) in
    rw taken (more_heads (take i places) (get_or places i none) n made more all first names texts (omega (arith, counted, long)) h k grown)

-- modules

pub module_stood : (old start mid new : Maker) (lines : LineModule) (statements first all : List Stmt) (places : List Place)
    → IsDistinct old.names → start.names ≡ old.names → start.module ≡ old.module → start.places ≡ [] → start.prints ≡ old.prints
    → Makes (in_block (map stmts_of lines.body)) start mid statements → places ≡ mid.places → (IsDistinct mid.names → IsMade [] first new.names (heads 0 places mid.names)) → new.prints ≡ mid.prints
    → all ≡ first ++ statements → Stood (module_of old.module lines old.names) old new (record { name = lines.name; ports = lines.ports; body = all })
module_stood old start mid new lines statements first all places distinct names number none prints h same_places f same_prints grown =
    let begin : Before = record { names = old.names; items = [] } in
    let held : Holds old.prints old.module start begin =
    record { names = names; distinct = distinct; number = number; places = none; prints = prints ∙ sym (append-nil old.prints) } in
    let behind = in_block (map stmts_of lines.body) begin in
    let after = h.holds old.prints old.module begin held in
    let made = f (rw after.names after.distinct) in
    let here : heads 0 places mid.names ≡ heads 0 (map (λ item. item.place) behind.1.items) behind.1.names =
    ap₂ (λ (ps : List Place) (ns : List (List ℕ)). heads 0 ps ns) (same_places ∙ after.places) after.names in
    record {
      is = ap (λ (xs : List Stmt). let it : Module = record { name = lines.name; ports = lines.ports; body = xs } in it)
          (grown ∙ ap₂ (λ (xs ys : List Stmt). xs ++ ys) (made.statements ∙ ap (λ (p : Made (List Stmt)). p.0) here) (h.is old.prints old.module begin held));
      prints = same_prints ∙ after.prints;
      names = made.names ∙ ap (λ (p : Made (List Stmt)). p.1) here;
      distinct = made.distinct;
    }

-- circuits

modules_more : (m : ℕ) (modules : List LineModule) (x : LineModule) (names : List (List ℕ))
    → modules_of m (modules ++ x ∷ []) names
    ≡ (
      (
        (modules_of m modules names).0.0 ++ (module_of (m + length modules) x (modules_of m modules names).1).0.0 ∷ [],
        (modules_of m modules names).0.1 ++ (module_of (m + length modules) x (modules_of m modules names).1).0.1,
      ),
      (module_of (m + length modules) x (modules_of m modules names).1).1,
    )
modules_more m [] x names = let same : m ≡ m + length {A = LineModule} [] = omega arith in
    ap (λ (ps : List PrintItem). (((module_of m x names).0.0 ∷ [], ps), (module_of m x names).1)) (append-nil (module_of m x names).0.1)
    ∙ ap (λ (n : ℕ). (((module_of n x names).0.0 ∷ [], (module_of n x names).0.1), (module_of n x names).1)) same
modules_more m (first ∷ modules) x names =
    let made = module_of m first names in
    let h = modules_more (m + 1) modules x made.1 in
    let rest = modules_of (m + 1) modules made.1 in
    let same : m + 1 + length modules ≡ m + length (first ∷ modules) = omega arith in
    ap (λ (p : Made (List Module × List PrintItem)). ((made.0.0 ∷ p.0.0, made.0.1 ++ p.0.1), p.1)) h
    ∙ ap (λ (ps : List PrintItem). ((made.0.0 ∷ (rest.0.0 ++ (module_of (m + 1 + length modules) x rest.1).0.0 ∷ []), ps), (module_of (m + 1 + length modules) x rest.1).1))
    (sym (append_assoc made.0.1 rest.0.1 (module_of (m + 1 + length modules) x rest.1).0.1))
    ∙ ap (λ (n : ℕ). ((made.0.0 ∷ (rest.0.0 ++ (module_of n x rest.1).0.0 ∷ []), (made.0.1 ++ rest.0.1) ++ (module_of n x rest.1).0.1), (module_of n x rest.1).1)) same

-- what stands behind some modules
pub record SoFar (lines : List LineModule) (names : List (List ℕ)) (maker : Maker) (modules : List Module) : Type 0 where
  pub modules_are : modules ≡ (modules_of 0 lines names).0.0
  pub prints : maker.prints ≡ (modules_of 0 lines names).0.1
  pub names_are : maker.names ≡ (modules_of 0 lines names).1
  pub distinct : IsDistinct maker.names
  pub count : length modules ≡ length lines

length_one : {X : Type 0} (xs : List X) (x : X) → length (xs ++ x ∷ []) ≡ length xs + 1
length_one xs x = grind (arith, common_steps)

pub one_more : (lines : List LineModule) (x : LineModule) (names : List (List ℕ)) (old start new : Maker) (modules all : List Module) (made : Module) → SoFar lines names old modules
    → start.names ≡ old.names → start.prints ≡ old.prints → start.module ≡ length modules → Stood (module_of start.module x start.names) start new made → all ≡ modules ++ made ∷ []
    → SoFar (lines ++ x ∷ []) names new all
one_more lines x names old start new modules all made h same_names same_prints number s grown =
    let more = modules_more 0 lines x names in
    let here : module_of start.module x start.names ≡ module_of (0 + length lines) x (modules_of 0 lines names).1 =
    ap₂ (λ (m : ℕ) (ns : List (List ℕ)). module_of m x ns) (let from : start.module ≡ 0 + length lines = omega (arith, number, h.count) in from) (same_names ∙ h.names_are) in
    record {
      modules_are = grown ∙ ap₂ (λ (xs : List Module) (y : Module). xs ++ y ∷ []) h.modules_are (s.is ∙ ap (λ (p : Made (Module × List PrintItem)). p.0.0) here)
          ∙ sym (ap (λ (p : Made (List Module × List PrintItem)). p.0.0) more);
      prints = s.prints ∙ ap₂ (λ (ps qs : List PrintItem). ps ++ qs) (same_prints ∙ h.prints) (ap (λ (p : Made (Module × List PrintItem)). p.0.1) here)
          ∙ sym (ap (λ (p : Made (List Module × List PrintItem)). p.0.1) more);
      names_are = s.names ∙ ap (λ (p : Made (Module × List PrintItem)). p.1) here ∙ sym (ap (λ (p : Made (List Module × List PrintItem)). p.1) more);
      distinct = s.distinct;
      count = let a : length all ≡ length modules + 1 = ap (λ (xs : List Module). length xs) grown ∙ length_one modules made in let b = length_one lines x in omega (arith, a, b, h.count);
    }
