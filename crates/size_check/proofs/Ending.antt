-- Where no path has as many names as are looked at, none is longer.
use Rattle.std.proofs.Common.{◌≡◌, ℕ, zero, suc, ◌+◌, ◌<◌, ◌≤◌, max, List, [], ◌∷◌, ◌++◌, map, refl, ap, ap₂, ◌∙◌, arith, flat_map}
use Rattle.std.specs.Prelude.{Option, None, Some}
use Rattle.fir_tree.specs.declared.circuit.Circuit.{Circuit}
use Rattle.fir_tree.specs.declared.circuit.Module.{Module}
use Rattle.fir_tree.specs.LeafNames.{Texts}
use Rattle.size_check.specs.declared.calls.Call.{Call}
use Rattle.size_check.specs.Typings.{named}
use Rattle.size_check.specs.Standings.{Standing, standings, standings_of, of_found, of_call, behind, total_of, calls_in, measured}
use Rattle.size_check.proofs.Summing.{total-append, behind_module, next_of}

abbrev depth_of : Texts → List Module → List Standing → ℕ
depth_of texts modules list = (total_of texts modules list).depth

-- what is asked of a module, where no path from it is as long
abbrev Ends : Texts → List Module → ℕ → Type 0
Ends texts modules d = (m : Module) → depth_of texts modules (standings modules d m) < d → standings modules (suc d) m ≡ standings modules d m

one_call : (texts : Texts) (modules : List Module) (d : ℕ) (name : ℕ) (m : Option Module) → Ends texts modules d
    → depth_of texts modules (map (behind name) (of_found (standings modules d) m)) < suc d
    → map (behind name) (of_found (standings modules (suc d)) m) ≡ map (behind name) (of_found (standings modules d) m)
one_call texts modules d name None ends h = refl
one_call texts modules d name (Some m) ends h =
    let e = ap (λ t. t.depth) (behind_module texts modules name d m) in
    ap (map (behind name)) (ends m (lower (depth_of texts modules (standings modules d m)) (depth_of texts modules (map (behind name) (standings modules d m))) d e h))
  where
    lower : (x y n : ℕ) → y ≡ x + 1 → y < suc n → x < n
    lower x y n e l = omega arith

all_calls : (texts : Texts) (modules : List Module) (d : ℕ) → Ends texts modules d → (calls : List Call)
    → depth_of texts modules (flat_map (of_call modules (standings modules d)) calls) < suc d
    → flat_map (of_call modules (standings modules (suc d))) calls ≡ flat_map (of_call modules (standings modules d)) calls
all_calls texts modules d ends [] h = refl
all_calls texts modules d ends (c ∷ cs) h =
    let first = of_call modules (standings modules d) c in
    let rest = flat_map (of_call modules (standings modules d)) cs in
    let e = ap (λ t. t.depth) (total-append texts modules first rest) in
    ap₂ (λ a b. a ++ b)
    (one_call texts modules d c.name (named modules c.target) ends (left (depth_of texts modules first) (depth_of texts modules rest) (depth_of texts modules (first ++ rest)) (suc d) e h))
    (all_calls texts modules d ends cs (right (depth_of texts modules first) (depth_of texts modules rest) (depth_of texts modules (first ++ rest)) (suc d) e h))
  where
    left : (x y z n : ℕ) → z ≡ max x y → z < n → x < n
    left x y z n e l = omega arith

    right : (x y z n : ℕ) → z ≡ max x y → z < n → y < n
    right x y z n e l = omega arith

below_zero : (n : ℕ) → n < 0 → ⊥
below_zero n h = omega arith

ends : (texts : Texts) (modules : List Module) (d : ℕ) → Ends texts modules d
unfolding standings
ends texts modules zero m h = absurd (below_zero (depth_of texts modules (standings modules zero m)) h)
ends texts modules (suc d) m h =
    let e = ap (λ t. t.depth) (next_of texts modules d m) in
    ap (λ l. record { path = []; holder = m } ∷ l)
    (all_calls texts modules d (ends texts modules d) (calls_in m)
    (inner (depth_of texts modules (flat_map (of_call modules (standings modules d)) (calls_in m))) (depth_of texts modules (standings modules (suc d) m)) (suc d) e h))
  where
    inner : (x z n : ℕ) → z ≡ max 0 x → z < n → x < n
    inner x z n e l = omega arith

longer : (texts : Texts) (modules : List Module) (d : ℕ) (m : Module) → depth_of texts modules (standings modules d m) < d → (more : ℕ) → standings modules (more + d) m ≡ standings modules d m
longer texts modules d m h zero = ap (λ n. standings modules n m) (none d)
  where
    none : (n : ℕ) → 0 + n ≡ n
    none n = omega arith
longer texts modules d m h (suc more) =
    let before = longer texts modules d m h more in
    ap (λ n. standings modules n m) (turned more d)
    ∙ ends texts modules (more + d) m (small (depth_of texts modules (standings modules (more + d) m)) (depth_of texts modules (standings modules d m)) d more (ap (depth_of texts modules) before) h)
    ∙ before
  where
    turned : (a b : ℕ) → suc a + b ≡ suc (a + b)
    turned a b = omega arith

    small : (x y n k : ℕ) → x ≡ y → y < n → x < k + n
    small x y n k e l = omega arith

by_name : (circuit : Circuit) (o : Option Module) → (total_of circuit.names circuit.modules (of_found (standings circuit.modules 33) o)).depth ≤ 32 → (more : ℕ)
    → of_found (standings circuit.modules (more + 33)) o ≡ of_found (standings circuit.modules 33) o
by_name circuit None h more = refl
by_name circuit (Some m) h more = longer circuit.names circuit.modules 33 m (small (depth_of circuit.names circuit.modules (standings circuit.modules 33 m)) h) more
  where
    small : (x : ℕ) → x ≤ 32 → x < 33
    small x l = omega arith

pub all_paths : (circuit : Circuit) → (measured circuit).depth ≤ 32 → (more : ℕ) → standings_of circuit (more + 33) ≡ standings_of circuit 33
all_paths circuit h more = by_name circuit (named circuit.modules circuit.main.id) h more
