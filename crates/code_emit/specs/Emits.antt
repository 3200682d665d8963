-- Where the values of leaves and of memories are found, and code that computes the value of an expression.
use Rattle.std.specs.Prelude.{◌≡◌, ℕ, ◌+◌, ◌<◌, List, map, Option, Some, option_map, All, IsSome}
use Rattle.bit_words.specs.declared.value.Kind.TheVariants.{Unsigned}
use Rattle.bit_words.specs.declared.value.Value.{Value}
use Rattle.ground_net.specs.declared.ground.Ground.{Ground}
use Rattle.ground_net.specs.declared.ground.Ground.TheVariants.{Leaf}
use Rattle.ground_net.specs.Grounds.{Instant, value}
use Rattle.ground_net.specs.Shapes.{Shape, shape_of_value, Table, shape}
use Rattle.ground_net.specs.Words.{value_at}
use Rattle.flat_code.specs.declared.instr.Location.{Location}
use Rattle.flat_code.specs.Meaning.{location_values}
use Rattle.flat_code.specs.Fine.{InRegion, further_words}
use Rattle.code_draft.specs.declared.draft.Draft.{Draft}
use Rattle.code_draft.specs.Drafts.{IsDraft, Solved, Grows, Stands, Makes, Wanted, Holds, input_value}
use Rattle.code_emit.specs.Ways.{Cut}
use Rattle.code_draft.specs.declared.sources.Source.{Source}
use Rattle.code_draft.specs.declared.sources.Source.TheVariants as source
use Rattle.code_draft.specs.declared.sources.Elements.{Elements}
use Rattle.code_draft.specs.declared.sources.Sources.{Sources}
pub use Rattle.code_draft.specs.Sources.{leaf_source, element_source, kept_shape, source_shape, elements_shape, element_value}

-- Their kinds and widths.
abbrev pub sources_table : Sources → Table
sources_table S = record { leaf = λ x. option_map source_shape (leaf_source S x); element = λ m k. option_map elements_shape (element_source S m k) }

-- Which value a source shows.
abbrev pub IsOf : Source → Wanted
IsOf (source.Word k) words inputs F v = v ≡ value_at (kept_shape k) words k.number
IsOf (source.Input k) words inputs F v = v ≡ input_value (kept_shape k) inputs k.number
IsOf (source.Frame s) words inputs F v = Holds F s v
IsOf (source.Constant c) words inputs F v = v ≡ c

-- An instant shows what the sources show.
pub record Sees (S : Sources) (words : List ℕ) (inputs : List Value) (F : List ℕ) (instant : Instant) : Type 0 where
  pub leaf : (x : ℕ) (src : Source) → leaf_source S x ≡ Some src → IsOf src words inputs F (instant.leaf x)
  pub load : (m k : ℕ) (e : Elements) (address : Value) → element_source S m k ≡ Some e → address.kind ≡ Unsigned → instant.load m k address ≡ element_value e words address
  pub shapes : (m k : ℕ) (e : Elements) (address : Value) → element_source S m k ≡ Some e → shape_of_value (instant.load m k address) ≡ elements_shape e

-- The words and the slots of the sources are there.
abbrev pub Fits : Draft → Source → Type 0
Fits d (source.Word k) = k.number + further_words k.width < d.words
Fits d (source.Input k) = Unit {0}
Fits d (source.Frame s) = Stands d s
Fits d (source.Constant c) = Unit {0}

pub record AreSources (S : Sources) (d : Draft) : Type 0 where
  pub leaves : (x : ℕ) (src : Source) → leaf_source S x ≡ Some src → Fits d src
  pub regions : (m k : ℕ) (e : Elements) → element_source S m k ≡ Some e → InRegion d.words e.width e.region

-- The value of an expression at an instant.
abbrev pub ValueOf : Sources → Ground → Wanted
ValueOf S g words inputs F v = (instant : Instant) × Sees S words inputs F instant × (v ≡ value g instant)

-- Code that goes on to the value of an expression.
abbrev pub Emits : Sources → Ground → Draft → Draft → Location → Type 0
Emits S g old new s = IsDraft old → AreSources S old → Makes old new s (ValueOf S g)

-- Code that goes on to the values of expressions, in order.
pub record MakesAll (S : Sources) (gs : List Ground) (old new : Draft) (ss : List Location) : Type 0 where
  pub grows : Grows old new
  pub stand : All (Stands new) ss
  pub holds : (words : List ℕ) (inputs : List Value) (F : List ℕ) (instant : Instant) → Solved new words inputs F → Sees S words inputs F instant → location_values F ss ≡ map (λ g. value g instant) gs
  pub cut : (words : List ℕ) (inputs : List Value) (F : List ℕ) (instant : Instant) → Solved new words inputs F → Sees S words inputs F instant → All (Cut F) ss

abbrev pub EmitsAll : Sources → List Ground → Draft → Draft → List Location → Type 0
EmitsAll S gs old new ss = IsDraft old → AreSources S old → MakesAll S gs old new ss

-- leaves as expressions
abbrev pub as_leaves : List ℕ → List Ground
as_leaves numbers = map (λ x. Leaf x) numbers

-- expressions that are in order
abbrev pub AreShaped : Table → List Ground → Type 0
AreShaped table gs = All (λ g. IsSome (shape g table)) gs

-- the kinds and widths of expressions
abbrev pub shapes_in : Table → List Ground → List (Option Shape)
shapes_in table gs = map (λ g. shape g table) gs
