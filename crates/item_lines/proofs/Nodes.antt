-- The nodes of an item's arguments, one more at a time.
use Rattle.std.proofs.Common.{◌≡◌, ℕ, ◌+◌, List, [], ◌∷◌, ◌++◌, length, refl, ap, ◌∙◌, sym, append_assoc, decimal, arith}
use Rattle.place_text.specs.declared.place.Place.{Place}
use Rattle.fir_types.specs.declared.name.Name.{Name}
use Rattle.fir_tree.specs.declared.expr.Expr.{Expr}
use Rattle.fir_tree.specs.declared.stmt.Stmt.{Stmt}
use Rattle.fir_tree.specs.declared.stmt.Stmt.TheVariants as stmt
use Rattle.item_lines.specs.Items.{argument_nodes, argument_name, with_name, name_at, padded}
use Rattle.item_lines.specs.Naming.{IsMade, IsNamed}

-- the text of an argument's node as it is printed
pub argument_text : (k j : ℕ) (text : List ℕ) → text ≡ 35 ∷ (decimal k ++ 97 ∷ decimal j) → text ≡ argument_name k j
argument_text k j text is = is ∙ ap (λ (more : List ℕ). 35 ∷ more) (sym (append_assoc (decimal k) (97 ∷ []) (decimal j)))

abbrev node : ℕ → ℕ → Place → Expr → List (List ℕ) → Stmt
node k j at e names = stmt.Node (name_at (with_name names (argument_name k j)) (argument_name k j) at) (padded e)

record OneMore (k j n : ℕ) (at : Place) (es : List Expr) (e : Expr) (names : List (List ℕ)) : Type 0 where
  stmts : (argument_nodes k j at (es ++ e ∷ []) names).0 ≡ (argument_nodes k j at es names).0 ++ node k n at e (argument_nodes k j at es names).1 ∷ []
  texts : (argument_nodes k j at (es ++ e ∷ []) names).1 ≡ with_name (argument_nodes k j at es names).1 (argument_name k n)

one_more : (k j n : ℕ) (at : Place) (es : List Expr) (e : Expr) (names : List (List ℕ)) → n ≡ j + length es → OneMore k j n at es e names
one_more k j n at [] e names is = let same : n ≡ j = omega arith in record { stmts = rw same refl; texts = rw same refl }
one_more k j n at (first ∷ es) e names is =
    let h = one_more k (j + 1) n at es e (with_name names (argument_name k j)) (omega arith) in
    record { stmts = ap (λ (xs : List Stmt). node k j at first names ∷ xs) h.stmts; texts = h.texts }

-- one more argument
pub made_more : (k n : ℕ) (at : Place) (es : List Expr) (e : Expr) (first others stmts : List Stmt) (names between texts : List (List ℕ)) (name : Name) → n ≡ length es
    → IsMade first others between (argument_nodes k 0 at es names) → IsNamed between texts (argument_name k n) at name → stmts ≡ others ++ stmt.Node name (padded e) ∷ []
    → IsMade first stmts texts (argument_nodes k 0 at (es ++ e ∷ []) names)
made_more k n at es e first others stmts names between texts name is before named grown =
    let h = one_more k 0 n at es e names (omega arith) in
    let here : texts ≡ with_name (argument_nodes k 0 at es names).1 (argument_name k n) = named.texts ∙ ap (λ (xs : List (List ℕ)). with_name xs (argument_name k n)) before.names in
    let is_node : stmt.Node name (padded e) ≡ node k n at e (argument_nodes k 0 at es names).1 =
    ap (λ (m : Name). stmt.Node m (padded e)) (named.is ∙ ap (λ (xs : List (List ℕ)). name_at xs (argument_name k n) at) here) in
    record {
      statements = grown ∙ ap (λ (xs : List Stmt). xs ++ stmt.Node name (padded e) ∷ []) before.statements ∙ append_assoc first (argument_nodes k 0 at es names).0 (stmt.Node name (padded e) ∷ [])
          ∙ ap (λ (s : Stmt). first ++ ((argument_nodes k 0 at es names).0 ++ s ∷ [])) is_node ∙ ap (λ (xs : List Stmt). first ++ xs) (sym h.stmts);
      names = here ∙ sym h.texts;
      distinct = named.distinct;
    }
