-- Instance paths, and what stands at them (FIRRTL specification 3.0, "Instances").
use Rattle.std.specs.Prelude.{ℕ, zero, suc, ◌+◌, ◌*◌, max, sum, length, List, [], ◌∷◌, ◌++◌, map, flat_map, Option, Some, None}
use Rattle.fir_tree.specs.declared.circuit.Circuit.{Circuit}
use Rattle.fir_tree.specs.declared.circuit.Module.{Module}
use Rattle.fir_tree.specs.declared.stmt.Stmt.{Stmt, fold-Stmt}
use Rattle.fir_tree.specs.declared.stmt.Arm.{Arm, fold-Arm}
use Rattle.fir_tree.specs.declared.stmt.Stmt.TheOpen.{Stmt-F, Arm-F}
use Rattle.fir_tree.specs.LeafNames.{Texts, text_of}
use Rattle.size_check.specs.declared.sums.Sums.{Sums}
use Rattle.size_check.specs.declared.sums.Total.{Total}
use Rattle.size_check.specs.declared.calls.Call.{Call}
use Rattle.size_check.specs.Measures.{nothing, plus}
use Rattle.size_check.specs.Typings.{named}
use Rattle.size_check.specs.Owns.{module_own}

-- The instances that a statement makes, those in the blocks within it included.
abbrev pub of_stmt : Stmt-F (List Call) (List Call) → List Call
of_stmt (Stmt-F.Inst name target) = record { name = name.id; target = target.id } ∷ []
of_stmt (Stmt-F.When arms other) = flat_map (λ calls. calls) arms ++ flat_map (λ calls. calls) other
of_stmt _ = []

abbrev pub of_arm : Arm-F (List Call) (List Call) → List Call
of_arm arm = flat_map (λ calls. calls) arm.body

abbrev pub stmt_calls : Stmt → List Call
stmt_calls = fold-Stmt (List Call) (List Call) of_stmt of_arm

abbrev pub arm_calls : Arm → List Call
arm_calls = fold-Arm (List Call) (List Call) of_stmt of_arm

abbrev pub calls_in : Module → List Call
calls_in holder = flat_map stmt_calls holder.body

-- A module at an instance path: the names of the instances that lead to it, the outermost first.
pub record Standing : Type 0 where
  pub path : List ℕ
  pub holder : Module

abbrev pub behind : ℕ → Standing → Standing
behind name s = record { path = name ∷ s.path; holder = s.holder }

-- what the first module of a name is found to have, and nothing where there is none
abbrev pub of_found : (Module → List Standing) → Option Module → List Standing
of_found from (Some m) = from m
of_found from None = []

abbrev pub of_call : List Module → (Module → List Standing) → Call → List Standing
of_call modules from call = map (behind call.name) (of_found from (named modules call.target))

-- What stands at the paths of at most so many names from a module on: the module itself, and what stands behind its instances.
unfoldable pub standings : List Module → ℕ → Module → List Standing
standings modules zero m = record { path = []; holder = m } ∷ []
standings modules (suc d) m = record { path = []; holder = m } ∷ flat_map (of_call modules (standings modules d)) (calls_in m)

-- The names of a path stand before each flat name of its module, with a dot behind each.
abbrev pub before : Texts → List ℕ → ℕ
before texts path = sum (map (λ name. length (text_of texts name) + 1) path)

-- What a module has at a path.
abbrev pub at_path : Texts → List ℕ → Sums → Total
at_path texts path own = record { sums = record own { bytes = own.bytes + own.names * before texts path }; depth = length path }

abbrev pub no_total : Total
no_total = record { sums = nothing; depth = 0 }

abbrev pub add : Total → Total → Total
add a b = record { sums = plus a.sums b.sums; depth = max a.depth b.depth }

-- all of it together, and the greatest number of names in a path
abbrev pub total_of : Texts → List Module → List Standing → Total
total_of texts modules [] = no_total
total_of texts modules (s ∷ rest) = add (at_path texts s.path (module_own texts modules s.holder)) (total_of texts modules rest)

-- what stands at the paths of at most so many names from the main module on
abbrev pub standings_of : Circuit → ℕ → List Standing
standings_of circuit d = of_found (standings circuit.modules d) (named circuit.modules circuit.main.id)

-- One name more than a path may have: where no path has so many, these are all paths.
abbrev pub measured : Circuit → Total
measured circuit = total_of circuit.names circuit.modules (standings_of circuit 33)
