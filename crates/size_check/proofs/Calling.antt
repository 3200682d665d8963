-- The instances in the blocks of a `when`.
use Rattle.std.proofs.Common.{◌≡◌, List, ◌++◌, map, ap, ap₂, ◌∙◌, arith}
use Rattle.std.specs.Prelude.{Result, Ok, Err, OnOk}
use Rattle.std.specs.List.{flat_map}
use Rattle.std.proofs.lemmas.Grind.{common_steps}
use Rattle.std.proofs.lemmas.List.Folds.{flat_map-map}
use Rattle.fir_tree.specs.declared.stmt.Stmt.{Stmt, the_lemmas as stmt_lemmas}
use Rattle.fir_tree.specs.declared.stmt.Stmt.TheVariants as stmt
use Rattle.fir_tree.specs.declared.stmt.Arm.{Arm}
use Rattle.size_check.specs.Standings.{stmt_calls, arm_calls}

pub on_ok : {T E : Type 0} {P Q : Type 0} (r : Result T E) → (P → Q) → OnOk r P → OnOk r Q
on_ok (Ok x) f h = f h
on_ok (Err e) f h = h

pub arm_calls_are : (a : Arm) → arm_calls a ≡ flat_map stmt_calls a.body
arm_calls_are a = folded ∙ flat_map-map (λ calls. calls) stmt_calls a.body
  where
    folded : arm_calls a ≡ flat_map (λ calls. calls) (map stmt_calls a.body)
    folded = grind (arith, common_steps, stmt_lemmas)

pub when_calls_are : (s : Stmt) (arms : List Arm) (other : List Stmt) → s ≡ stmt.When arms other → stmt_calls s ≡ flat_map arm_calls arms ++ flat_map stmt_calls other
when_calls_are s arms other e =
    ap stmt_calls e ∙ folded ∙ ap₂ (λ a b. a ++ b) (flat_map-map (λ calls. calls) arm_calls arms) (flat_map-map (λ calls. calls) stmt_calls other)
  where
    folded : stmt_calls (stmt.When arms other) ≡ flat_map (λ calls. calls) (map arm_calls arms) ++ flat_map (λ calls. calls) (map stmt_calls other)
    folded = grind (arith, common_steps, stmt_lemmas)
