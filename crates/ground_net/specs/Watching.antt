-- The leaves by which a run is fed and watched.
use Rattle.std.specs.Prelude.{◌≡◌, ℕ, Bool, true, false, List, filter_map, slice_get, Option, Some, None, option_map, if◌then◌else◌}
use Rattle.std.specs.List.{range_with_len, AllZip}
use Rattle.bit_words.specs.declared.value.Value.{Value}
use Rattle.ground_net.specs.declared.net.Leaf.{Leaf}
use Rattle.ground_net.specs.declared.net.Net.{Net}
use Rattle.ground_net.specs.declared.net.PortLeaf.{PortLeaf}
use Rattle.ground_net.specs.declared.net.Role.{Role}
use Rattle.ground_net.specs.declared.net.Role.TheVariants as role

-- a leaf that is given from outside, and one that has a value which isn't given
abbrev pub is_given : Role → Bool
is_given (role.Input n) = true
is_given _ = false

abbrev pub is_shown : Role → Bool
is_shown (role.Input n) = false
is_shown role.Clock = false
is_shown _ = true

-- a leaf of a port with its number
abbrev pub port_leaf : ℕ → Leaf → PortLeaf
port_leaf x leaf = record { name = leaf.name; kind = leaf.kind; width = leaf.width; leaf = x; narrow = leaf.narrow }

-- it, where its role is one of these
abbrev pub told_where : (Role → Bool) → ℕ → Option Leaf → Option PortLeaf
told_where among x (Some leaf) = if among leaf.role then Some (port_leaf x leaf) else None
told_where among x None = None

-- The leaves of main's ports in these roles, in order.
abbrev pub port_leaves : (Role → Bool) → Net → List PortLeaf
port_leaves among net = filter_map (λ x. told_where among x (slice_get net.leaves x)) (range_with_len 0 net.ports)

-- Main's input leaves, and its other leaves that have a value: those are watched. Clocks are neither.
abbrev pub inputs : Net → List PortLeaf
inputs = port_leaves is_given

abbrev pub watched : Net → List PortLeaf
watched = port_leaves is_shown

-- The names of all leaves of main's ports, clocks included.
abbrev pub port_names : Net → List (List ℕ)
port_names net = filter_map (λ x. option_map (λ leaf. leaf.name) (slice_get net.leaves x)) (range_with_len 0 net.ports)

-- a value for each leaf, of its kind and width
abbrev pub AreValuesOf : List PortLeaf → List Value → Type 0
AreValuesOf leaves row = AllZip (λ leaf v. (v.kind ≡ leaf.kind) × (v.width ≡ leaf.width)) leaves row
