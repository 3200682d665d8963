-- Cycles of a run, piece by piece.
use Rattle.std.proofs.Common.{◌≡◌, ℕ, zero, suc, ◌+◌, List, [], ◌∷◌, ◌++◌, map, length, refl, sym, ap, ◌∙◌, arith}
use Rattle.std.specs.Prelude.{All}
use Rattle.bit_words.specs.declared.value.Value.{Value}
use Rattle.ground_net.specs.declared.net.Net.{Net}
use Rattle.ground_net.specs.Cycles.{NetState, Inputs, Valuation, Settled, instant_of, next}
use Rattle.net_laws.specs.Runs.{Run, cycle}
use Rattle.circuit_run.specs.NetRuns.{inputs_from}
use Rattle.circuit_run.proofs.NetRuns.{inputs_split}
use Rattle.crew_run.specs.Epochs.{Reaches, there, onward, Advances, stays, goes_on}
use Rattle.crew_run.specs.Progress.{CanTell}

-- what the inputs are given from a later cycle on
pub inputs_shift : (given : ℕ → Inputs) (n b k : ℕ) → inputs_from (λ c. given (n + c)) b k ≡ inputs_from given (n + b) k
inputs_shift given n b zero = refl
inputs_shift given n b (suc k) =
    let e : n + (b + 1) ≡ n + b + 1 = omega arith in
    ap (λ l. given (n + b) ∷ l) (inputs_shift given n (b + 1) k ∙ ap (λ a. inputs_from given a k) e)

pub inputs_next : (given : ℕ → Inputs) (n : ℕ) → inputs_from given 0 n ++ given n ∷ [] ≡ inputs_from given 0 (n + 1)
inputs_next given n = let z : 0 + n ≡ n = omega arith in ap (λ m. inputs_from given 0 n ++ given m ∷ []) (sym z) ∙ sym (inputs_split given 0 n 1)

pub inputs_behind : (given : ℕ → Inputs) (n m : ℕ) → inputs_from given 0 n ++ inputs_from given n m ≡ inputs_from given 0 (n + m)
inputs_behind given n m = let z : 0 + n ≡ n = omega arith in ap (λ a. inputs_from given 0 n ++ inputs_from given a m) (sym z) ∙ sym (inputs_split given 0 n m)

-- one cycle more
pub reach_on : (net : Net) (s t : NetState) (before : List Inputs) (given : Inputs) (rho : Valuation) → Reaches net s before t → Settled net t given rho → Reaches net s (before ++ given ∷ []) (next net t (instant_of net t rho))
reach_on net s t [] given rho there settled = onward rho settled there
reach_on net s t (g ∷ before) given rho (onward first here rest) settled = onward first here (reach_on net (next net s (instant_of net s first)) t before given rho rest settled)

pub reach_join : (net : Net) (s u t : NetState) (before later : List Inputs) → Reaches net s before u → Reaches net u later t → Reaches net s (before ++ later) t
reach_join net s u t [] later there r = r
reach_join net s u t (g ∷ before) later (onward rho settled rest) r = onward rho settled (reach_join net (next net s (instant_of net s rho)) u t before later rest r)

module _ (net : Net) (watched : List ℕ) where
  pub go_on : (s t : NetState) (before : List Inputs) {rows : List (List Value)} (given : Inputs) (rho : Valuation) → Advances net watched s before rows t → Settled net t given rho
      → Advances net watched s (before ++ given ∷ []) (rows ++ map rho watched ∷ []) (next net t (instant_of net t rho))
  go_on s t [] given rho stays settled = goes_on rho settled stays
  go_on s t (g ∷ before) given rho (goes_on first here rest) settled = goes_on first here (go_on (next net s (instant_of net s first)) t before given rho rest settled)

  pub go_join : (s u t : NetState) (before later : List Inputs) {rows more : List (List Value)} → Advances net watched s before rows u → Advances net watched u later more t → Advances net watched s (before ++ later) (rows ++ more) t
  go_join s u t [] later stays b = b
  go_join s u t (g ∷ before) later (goes_on rho settled rest) b = goes_on rho settled (go_join (next net s (instant_of net s rho)) u t before later rest b)

  pub go_reaches : (s t : NetState) (given : List Inputs) {rows : List (List Value)} → Advances net watched s given rows t → Reaches net s given t
  go_reaches s t [] stays = there
  go_reaches s t (g ∷ given) (goes_on rho settled rest) = onward rho settled (go_reaches (next net s (instant_of net s rho)) t given rest)

  -- a run that goes on from there is one from here
  pub go_run : (s u : NetState) (before later : List Inputs) {rows more : List (List Value)} → Advances net watched s before rows u → Run net watched u later more → Run net watched s (before ++ later) (rows ++ more)
  go_run s u [] later stays r = r
  go_run s u (g ∷ before) later (goes_on rho settled rest) r = cycle rho settled (go_run (next net s (instant_of net s rho)) u before later rest r)

  -- rows of settled values can be told
  pub go_read : (reads : List Value → Type 0) → CanTell net watched reads → (s t : NetState) (given : List Inputs) {rows : List (List Value)} → Advances net watched s given rows t → All reads rows
  go_read reads can s t [] stays k d lt = absurd (omega (arith, lt))
  go_read reads can s t (g ∷ given) (goes_on rho settled rest) zero d lt = can.each s g rho settled
  go_read reads can s t (g ∷ given) (goes_on rho settled rest) (suc k) d lt = go_read reads can (next net s (instant_of net s rho)) t given rest k d (omega (arith, lt))

  -- a row for each cycle
  pub go_counted : (s t : NetState) (given : List Inputs) {rows : List (List Value)} → Advances net watched s given rows t → length rows ≡ length given
  go_counted s t [] stays = refl
  go_counted s t (g ∷ given) (goes_on rho settled rest) = ap suc (go_counted (next net s (instant_of net s rho)) t given rest)
