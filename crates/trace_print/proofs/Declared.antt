-- What the definitions say of a `when` and of an arm.
use Rattle.std.proofs.Common.{◌≡◌, ℕ, ◌+◌, ◌<◌, Bool, List, ◌++◌, length, take, get_or, arith, append_assoc}
use Rattle.std.specs.List.{flat_map}
use Rattle.std.proofs.lemmas.Grind.{common_steps}
use Rattle.std.proofs.lemmas.List.Folds.{flat_map-map}
use Rattle.fir_types.specs.declared.name.Name.{Name}
use Rattle.fir_tree.specs.declared.stmt.Stmt.{Stmt, the_lemmas}
use Rattle.fir_tree.specs.declared.stmt.Stmt.TheVariants as stmt
use Rattle.fir_tree.specs.declared.stmt.Arm.{Arm}
use Rattle.trace_print.specs.declared.component.Component.{Component}
use Rattle.trace_print.specs.Components.{stmt_declared, arm_declared}

pub declared-when : (s : Stmt) (arms : List Arm) (other : List Stmt) (holder : Name) (reached : Bool) → s ≡ stmt.When arms other
    → stmt_declared s holder reached ≡ flat_map (λ arm. arm_declared arm holder reached) arms ++ flat_map (λ one. stmt_declared one holder reached) other
declared-when s arms other holder reached e = grind (arith, common_steps, the_lemmas, flat_map-map)

pub declared-arm : (arm : Arm) (holder : Name) (reached : Bool) → arm_declared arm holder reached ≡ flat_map (λ one. stmt_declared one holder reached) arm.body
declared-arm arm holder reached = grind (arith, common_steps, the_lemmas, flat_map-map)

-- one arm more
pub arms_more : (arms : List Arm) (i : ℕ) (arm : Arm) (holder : Name) (reached : Bool) (start all after : List Component) → i < length arms → arm ≡ get_or arms i arm
    → all ≡ start ++ flat_map (λ one. arm_declared one holder reached) (take i arms) → after ≡ all ++ flat_map (λ one. stmt_declared one holder reached) arm.body
    → after ≡ start ++ flat_map (λ one. arm_declared one holder reached) (take (i + 1) arms)
arms_more arms i arm holder reached start all after l q h a =
    let declared = λ (one : Arm). arm_declared one holder reached in
    let split : flat_map declared (take (i + 1) arms) ≡ flat_map declared (take i arms) ++ declared arm = grind (arith, common_steps) in
    let e = declared-arm arm holder reached in
    let assoc = append_assoc start (flat_map declared (take i arms)) (declared arm) in
    cc
