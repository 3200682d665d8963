-- What is held of a run, in the words of the meaning.
use Rattle.std.specs.Prelude.{◌≡◌, ℕ, ◌==◌, ◌&&◌, not, Bool, false, List, ◌∷◌, map, ℤ, pos, Option, Some, None}
use Rattle.bit_words.specs.declared.value.Value.{Value}
use Rattle.fir_types.specs.declared.leaf.TypeLeaf.{TypeLeaf}
use Rattle.fir_types.specs.declared.leaf.PathStep.{PathStep}
use Rattle.fir_types.specs.declared.leaf.PathStep.TheVariants as step
use Rattle.fir_meaning.specs.Components.{Design, design_of}
use Rattle.fir_meaning.specs.Values.{Valuation}
use Rattle.fir_meaning.specs.Drives.{same_way}
use Rattle.fir_meaning.specs.MemoryPorts.{Contents}
use Rattle.fir_meaning.specs.States.{State, Inputs}
use Rattle.circuit_laws.specs.WellFormed.{IsWellFormed}
use Rattle.drive_check.specs.Keys.{leaf_of_key}
use Rattle.plain_values.specs.declared.site.Site.{Site}
use Rattle.plain_values.specs.Sites.{is_at, valuation_of}
use Rattle.plain_values.specs.Contents.{contents_of, stored_leaves}
use Rattle.plain_cycle.specs.Held.{held}
use Rattle.plain_cycle.specs.Layouts.{Located, IsLocated, site_of, kept_at, IsLayout}
use Rattle.plain_cycle.specs.declared.run.Run.{Run}
use Rattle.plain_cycle.specs.declared.run.Part.{Part}
use Rattle.plain_cycle.specs.declared.run.Held.{Held}
use Rattle.plain_cycle.specs.declared.run.Moment.{Moment}
use Rattle.plain_cycle.specs.Firsts.{first_beside, integer_beside_it}
use Rattle.plain_cycle.specs.Given.{given_by}

abbrev pub design_in : Run → Design
design_in run = design_of run.fitted.now

-- The components are those of a well formed circuit.
pub record IsRun (run : Run) : Type 0 where
  pub well : IsWellFormed run.fitted.now
  pub layout : IsLayout (design_in run) run.sites.now run.declared.now

-- the part is this component of the run
pub record IsPart (design : Design) (x : Located) (part : Part) : Type 0 where
  pub located : IsLocated design x
  pub site : part.site.now ≡ site_of x
  pub declared : held part.declaration ≡ kept_at x

-- The contents of the first memory of a name at a path.
abbrev pub held_elements : Option (Site × List (List Value)) → Contents
held_elements (Some both) = contents_of (stored_leaves both.0.leaves) both.1
held_elements None = λ element way. pos 0

abbrev pub contents_on : List Site → List (List (List Value)) → List ℕ → ℕ → Contents
contents_on sites contents path name = held_elements (first_beside (is_at path name) sites contents)

-- The port and the way of an element that a leaf of a memory shows, by the path to it.
abbrev pub shown_of : List PathStep → Option (ℕ × List PathStep)
shown_of (step.Field port ∷ (step.Field field ∷ way)) = Some (port, way)
shown_of _ = None

-- a leaf that shows what the port of this name reads at this way of an element
abbrev pub shows_at : ℕ → List PathStep → List PathStep → Bool
shows_at port way (step.Field p ∷ (step.Field field ∷ inner)) = (p == port) && same_way inner way
shows_at port way _ = false

abbrev pub shows : ℕ → List PathStep → TypeLeaf → Bool
shows port way leaf = not leaf.flip && shows_at port way leaf.path

-- What the ports of the first memory of a name at a path have read: the integer beside the first leaf that shows it.
abbrev pub held_reads : ℕ → List PathStep → Option (Site × List Value) → ℤ
held_reads port way (Some both) = integer_beside_it (first_beside (shows port way) both.0.leaves both.1)
held_reads port way None = pos 0

abbrev pub captured_on : List Site → List (List Value) → List ℕ → ℕ → ℕ → List PathStep → ℤ
captured_on sites values path name port way = held_reads port way (first_beside (is_at path name) sites values)

-- The state that is held.
abbrev pub state_of : List Site → Held → State
state_of sites held = record { registers = valuation_of sites held.registers; contents = contents_on sites held.contents; captured = captured_on sites held.captured }

abbrev pub state_at : Run → Moment → State
state_at run moment = state_of run.sites.now moment.held.now

abbrev pub given_at : Run → Moment → Inputs
given_at run moment = given_by (map leaf_of_key run.inputs.now) moment.row.now

abbrev pub values_at : Run → Moment → Valuation
values_at run moment = valuation_of run.sites.now moment.values.now
