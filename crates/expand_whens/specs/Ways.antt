-- The ways in which a leaf is driven: each connect with the condition under which it is made, the last one in text order first.
use Rattle.std.specs.Prelude.{◌≡◌, ℕ, nat_lt, ◌&&◌, not, Bool, true, false, List, [], ◌∷◌, ◌++◌, map, flat_map, Option, Some, None, if◌then◌else◌, Contains}
use Rattle.std.specs.List.{list_all}
use Rattle.bit_words.specs.declared.value.Value.{Value}
use Rattle.ground_net.specs.declared.ground.Ground.{Ground}
use Rattle.ground_net.specs.declared.circuit.GroundArm.{GroundArm}
use Rattle.ground_net.specs.Grounds.{Instant, value, mentions, joined}
use Rattle.prim_ops.specs.Values.{is_one}
use Rattle.ground_net.specs.Statements.{all_hold}
use Rattle.bit_words.specs.declared.value.Kind.TheVariants.{Unsigned}
use Rattle.ground_net.specs.Shapes.{Table, shaped, shape as shape_in}
use Rattle.ground_net.specs.StatementShapes.{is_condition, is_source}
use Rattle.expand_whens.specs.declared.guard.Asked.{Asked}
use Rattle.expand_whens.specs.declared.guard.Part.{Part}
use Rattle.expand_whens.specs.declared.guard.Way.{Way}

-- Two lists have the same members.
pub record Same (xs ys : List ℕ) : Type 0 where
  pub forth : (y : ℕ) → Contains xs y → Contains ys y
  pub back : (y : ℕ) → Contains ys y → Contains xs y

-- whether a condition has what is asked of it
abbrev pub meets : Instant → Bool → Ground → Bool
meets instant holds condition = if holds then is_one (value condition instant) else not (is_one (value condition instant))

-- a condition is asked of the leaves alone that are declared before its `when`
abbrev pub is_met : Instant → ℕ → Asked → Bool
is_met instant leaf a = if nat_lt leaf a.first then meets instant a.holds a.condition else true

abbrev pub crossed : Instant → ℕ → List Asked → Bool
crossed instant leaf = list_all (is_met instant leaf)

abbrev pub asked_mentions : ℕ → Asked → List ℕ
asked_mentions leaf a = if nat_lt leaf a.first then mentions a.condition else []

-- what the conditions mention that are asked of the leaf
abbrev pub crossed_mentions : ℕ → List Asked → List ℕ
crossed_mentions leaf = flat_map (asked_mentions leaf)

-- what is asked behind arms none of whose conditions is to hold
abbrev pub refusal : ℕ → GroundArm → Asked
refusal first arm = record { first = first; condition = arm.condition; holds = false }

abbrev pub refusals : ℕ → List GroundArm → List Asked
refusals first arms = map (refusal first) arms

-- the condition is to hold
abbrev pub accepted : Asked → Asked
accepted a = record a { holds = true }

-- no guard always holds
abbrev pub guard_holds : Instant → Option Ground → Bool
guard_holds instant None = true
guard_holds instant (Some g) = is_one (value g instant)

abbrev pub guard_mentions : Option Ground → List ℕ
guard_mentions None = []
guard_mentions (Some g) = mentions g

-- The condition under which a connect is made.
pub record IsGuard (when : Instant → Bool) (mentioned : List ℕ) (guard : Option Ground) : Type 0 where
  pub holds : (instant : Instant) → guard_holds instant guard ≡ when instant
  pub mentions : Same (guard_mentions guard) mentioned

-- none of the conditions holds
abbrev pub none_hold : Instant → List Ground → Bool
none_hold instant = list_all (λ g. not (is_one (value g instant)))

abbrev pub part_holds : Instant → Part → Bool
part_holds instant p = none_hold instant p.refused.items && all_hold instant p.accepted.items

abbrev pub part_mentions : Part → List ℕ
part_mentions p = joined (map mentions p.refused.items) ++ joined (map mentions p.accepted.items)

-- conditions that are UInts

abbrev pub part_fits : Table → Part → Bool
part_fits table p = list_all (is_condition table) p.refused.items && list_all (is_condition table) p.accepted.items

abbrev pub asked_fits : Table → Asked → Bool
asked_fits table a = is_condition table a.condition

abbrev pub guard_fits : Table → Option Ground → Bool
guard_fits table None = true
guard_fits table (Some g) = is_condition table g

-- the guard is a UInt, and the source has the kind and the width of the leaf
abbrev pub way_fits : Table → ℕ → Way → Bool
way_fits table leaf w = guard_fits table w.guard && is_source table leaf w.source

-- A bit that is 1 where this holds.
pub record IsBit (when : Instant → Bool) (mentioned : List ℕ) (passes : Table → Bool) (bit : Ground) : Type 0 where
  pub holds : (instant : Instant) → is_one (value bit instant) ≡ when instant
  pub mentions : Same (mentions bit) mentioned
  pub shape : (table : Table) → passes table ≡ true → shape_in bit table ≡ Some (shaped Unsigned 1)

-- A guard that is being put together.
pub record IsPart (when : Instant → Bool) (mentioned : List ℕ) (part : Part) : Type 0 where
  pub holds : (instant : Instant) → part_holds instant part ≡ when instant
  pub mentions : Same (part_mentions part) mentioned

-- The first way whose guard holds, or else what was there before.
abbrev pub outcome : Instant → List Way → Option Value → Option Value
outcome instant [] last = last
outcome instant (w ∷ ws) last = if guard_holds instant w.guard then Some (value w.source instant) else outcome instant ws last

abbrev pub way_mentions : Way → List ℕ
way_mentions w = guard_mentions w.guard ++ mentions w.source

abbrev pub ways_mentions : List Way → List ℕ
ways_mentions = flat_map way_mentions
