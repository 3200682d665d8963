-- Runs from states that are the same lead to states that are the same; and a run is its first cycles, and then the others.
use Rattle.std.proofs.Common.{◌≡◌, suc, List, [], ◌∷◌, ◌++◌, length, ℤ, refl, sym, ap, ◌∙◌}
use Rattle.fir_meaning.specs.Components.{Design, FlatLeaf, HasBundles}
use Rattle.fir_meaning.specs.Loops.{HasNoLoop, HasLeaves, TakesLeaves}
use Rattle.fir_meaning.specs.States.{State, SameState, Inputs, Trace, ended, cycle, row_of, watched_leaves, next}
use Rattle.fir_meaning.proofs.Settling.{settled_same}
use Rattle.fir_meaning.proofs.Nexts.{next_same}
use Rattle.circuit_texts.specs.StateTexts.{Reaches, there, onward}

pub same_back : (design : Design) (s t : State) → SameState design s t → SameState design t s
same_back design s t h = record {
  registers = λ path m c leaf stands register. sym (h.registers path m c leaf stands register);
  contents = λ path m c memory typ leaf element reached declared sort of inside below. sym (h.contents path m c memory typ leaf element reached declared sort of inside below);
  captured = λ path m c leaf memory port field way stands sort late turned is. sym (h.captured path m c leaf memory port field way stands sort late turned is);
}

pub same_on : (design : Design) (s t u : State) → SameState design s t → SameState design t u → SameState design s u
same_on design s t u h k = record {
  registers = λ path m c leaf stands register. h.registers path m c leaf stands register ∙ k.registers path m c leaf stands register;
  contents = λ path m c memory typ leaf element reached declared sort of inside below.
      h.contents path m c memory typ leaf element reached declared sort of inside below ∙ k.contents path m c memory typ leaf element reached declared sort of inside below;
  captured = λ path m c leaf memory port field way stands sort late turned is.
      h.captured path m c leaf memory port field way stands sort late turned is ∙ k.captured path m c leaf memory port field way stands sort late turned is;
}

pub reached_same : (design : Design) (all : List FlatLeaf) → HasBundles design → HasNoLoop design → HasLeaves design all → TakesLeaves design → {s t u v : State} {given : List Inputs}
    → SameState design s t → Reaches design s given u → Reaches design t given v → SameState design u v
reached_same design all has none leaves_of takes kept there there = kept
reached_same design all has none leaves_of takes {s} {t} kept (onward {given = g} rho one rest) (onward other two later) =
    reached_same design all has none leaves_of takes (next_same design has takes s t rho other kept (settled_same design all has none leaves_of s t g rho other one two kept)) rest later

-- The first cycles of a trace, and the others from the state that is reached.
pub record Parted (design : Design) (s : State) (given later : List Inputs) (rows : List (List ℤ)) : Type 0 where
  pub middle : State
  pub front : List (List ℤ)
  pub back : List (List ℤ)
  pub is : rows ≡ front ++ back
  pub first : Trace design s given front
  pub reached : Reaches design s given middle
  pub second : Trace design middle later back

pub trace_parts : (design : Design) (s : State) (given later : List Inputs) {rows : List (List ℤ)} → Trace design s (given ++ later) rows → Parted design s given later rows
trace_parts design s [] later {rows} t = record { middle = s; front = []; back = rows; is = refl; first = ended; reached = there; second = t }
trace_parts design s (g ∷ given) later (cycle rho settled rest) =
    let r = trace_parts design (next design s rho) given later rest in
    record {
      middle = r.middle;
      front = row_of (watched_leaves design) rho ∷ r.front;
      back = r.back;
      is = ap (λ rows. row_of (watched_leaves design) rho ∷ rows) r.is;
      first = cycle rho settled r.first;
      reached = onward rho settled r.reached;
      second = r.second;
    }

pub rows_long : (design : Design) {s : State} {given : List Inputs} {rows : List (List ℤ)} → Trace design s given rows → length rows ≡ length given
rows_long design ended = refl
rows_long design (cycle rho settled rest) = ap suc (rows_long design rest)
