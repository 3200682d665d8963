-- What is known of the leaves by their names.
use Rattle.std.specs.Prelude.{◌≡◌, ℕ, Bool, true, false, List, if◌then◌else◌, Option, Some, None, position}
use Rattle.std.specs.List.{list_any}
use Rattle.std.specs.Ordering.{nat_cmp}
use Rattle.std.specs.Cmp.Lexicographic.{slice_cmp}
use Rattle.std.specs.Str.{bytes_eq}
use Rattle.std.specs.BTreeMap.{get_by}
use Rattle.ground_net.specs.declared.net.Ports.{Ports}
use Rattle.ground_net.specs.declared.net.PortLeaf.{PortLeaf}
use Rattle.stimulus.specs.declared.names.NamedLeaf.{NamedLeaf}
use Rattle.stimulus.specs.declared.names.NamedLeaf.TheVariants.{Input, Other}
use Rattle.stimulus.specs.declared.names.Names.{Names}

abbrev pub named_as : Option ℕ → NamedLeaf
named_as None = Other
named_as (Some number) = Input number

abbrev pub is_other : Option NamedLeaf → Bool
is_other None = false
is_other (Some (Input number)) = false
is_other (Some Other) = true

-- what a name stands for among these names and inputs
abbrev pub named_in : List (List ℕ) → List PortLeaf → List ℕ → Option NamedLeaf
named_in names inputs name = if list_any (λ other. bytes_eq name other) names then Some (named_as (position (λ leaf. bytes_eq name leaf.name) inputs)) else None

-- what is found under a name
unfoldable pub found : Names → List ℕ → Option NamedLeaf
found names name = get_by (λ k. slice_cmp nat_cmp name k.now) names.leaves

pub record KnowsNames (ports : Ports) (names : Names) : Type 0 where
  pub finds : (name : List ℕ) → found names name ≡ named_in ports.names ports.inputs name
