-- The registers and memory ports that are found are those of the declarations.
use Rattle.std.proofs.Common.{◌≡◌, List, ◌++◌, map, ap, ap₂, ◌∙◌, arith}
use Rattle.std.specs.List.{flat_map}
use Rattle.std.proofs.lemmas.Grind.{common_steps}
use Rattle.std.proofs.lemmas.List.Folds.{flat_map-map}
use Rattle.fir_tree.specs.declared.stmt.Stmt.{Stmt, the_lemmas as stmt_lemmas}
use Rattle.fir_tree.specs.declared.stmt.Stmt.TheVariants as stmt
use Rattle.fir_tree.specs.declared.stmt.Arm.{Arm}
use Rattle.fir_meaning.specs.Mentions.{Scope}
use Rattle.clock_check.specs.Hung.{all_hung, stmt_hung, arm_hung}

pub arm_hung_is : (types : Scope) (a : Arm) → arm_hung types a ≡ flat_map (stmt_hung types) a.body
arm_hung_is types a = folded ∙ flat_map-map (λ hung. hung) (stmt_hung types) a.body
  where
    folded : arm_hung types a ≡ all_hung (map (stmt_hung types) a.body)
    folded = grind (arith, common_steps, stmt_lemmas)

pub when_hung_is : (types : Scope) (s : Stmt) (arms : List Arm) (other : List Stmt) → s ≡ stmt.When arms other → stmt_hung types s ≡ flat_map (arm_hung types) arms ++ flat_map (stmt_hung types) other
when_hung_is types s arms other e =
    ap (stmt_hung types) e ∙ folded ∙ ap₂ (λ a b. a ++ b) (flat_map-map (λ hung. hung) (arm_hung types) arms) (flat_map-map (λ hung. hung) (stmt_hung types) other)
  where
    folded : stmt_hung types (stmt.When arms other) ≡ all_hung (map (arm_hung types) arms) ++ all_hung (map (stmt_hung types) other)
    folded = grind (arith, common_steps, stmt_lemmas)
