-- The leaves of declarations in a table.
use Rattle.std.specs.Prelude.{ℕ, ◌&&◌, not, min, Bool, List, map, length, if◌then◌else◌}
use Rattle.place_text.specs.declared.place.Place.{Place}
use Rattle.bit_words.specs.declared.value.Kind.{Kind}
use Rattle.fir_types.specs.declared.leaf.TypeLeaf.{TypeLeaf}
use Rattle.fir_types.specs.Leaves.{leaves}
use Rattle.fir_tree.specs.LeafNames.{Texts, leaf_text}
use Rattle.fir_meaning.specs.Components as tree
use Rattle.fir_meaning.specs.Components.{kind_of_leaf, width_of_leaf, is_clock, flow_of}
use Rattle.fir_meaning.specs.States.{is_register, is_port, is_source}
use Rattle.ground_net.specs.declared.circuit.GroundLeaf.{GroundLeaf}
use Rattle.ground_net.specs.declared.circuit.GroundRole.{GroundRole}
use Rattle.ground_net.specs.declared.circuit.GroundRole.TheVariants as role
use Rattle.lower_aggregates.specs.declared.declarations.Sort.{Sort}
use Rattle.lower_aggregates.specs.declared.pieces.Piece.{Piece}
use Rattle.lower_aggregates.specs.Parts.{Part}
use Rattle.lower_aggregates.specs.Held.{held_sort, held_part}

-- What is said of a leaf.
pub record Row : Type 0 where
  pub name : List ℕ
  pub kind : Kind
  pub width : ℕ
  pub place : Place
  pub role : GroundRole

abbrev pub leaf_row : GroundLeaf → Row
leaf_row leaf = record { name = leaf.name; kind = leaf.kind; width = leaf.width; place = leaf.place; role = leaf.role }

-- what a leaf of such a declaration is
abbrev pub role_by : tree.Sort → TypeLeaf → GroundRole
role_by sort leaf =
    if is_clock leaf then role.Clock
    else if is_register sort then role.Register
    else if is_port sort && is_source (flow_of sort leaf.flip) then role.Input else role.Plain

abbrev pub role_in : Sort → TypeLeaf → GroundRole
role_in sort leaf = role_by (held_sort sort) leaf

abbrev pub row_by : Texts → Part → TypeLeaf → Row
row_by texts p leaf = record {
  name = leaf_text texts p.name leaf.path;
  kind = kind_of_leaf leaf;
  width = min (width_of_leaf leaf) 128;
  place = p.place;
  role = role_by p.sort leaf;
}

abbrev pub row_of_leaf : Texts → Piece → TypeLeaf → Row
row_of_leaf texts p leaf = row_by texts (held_part p) leaf

-- The leaves of a part of a module, in order.
abbrev pub part_rows : Texts → Part → List Row
part_rows texts p = map (row_by texts p) (leaves p.typ)

abbrev pub piece_rows : Texts → Piece → List Row
piece_rows texts p = part_rows texts (held_part p)

-- statements may set the leaf of such a declaration
abbrev pub is_set_by : tree.Sort → TypeLeaf → Bool
is_set_by sort leaf = not (is_source (flow_of sort leaf.flip)) && not (is_clock leaf)

abbrev pub is_set_in : Sort → TypeLeaf → Bool
is_set_in sort leaf = is_set_by (held_sort sort) leaf

abbrev pub flags_of_part : Part → List Bool
flags_of_part p = map (is_set_by p.sort) (leaves p.typ)

abbrev pub flags_of_piece : Piece → List Bool
flags_of_piece p = flags_of_part (held_part p)

-- how many leaves of ports a part of a module has
abbrev pub part_size : Part → ℕ
part_size p = if is_port p.sort then length (leaves p.typ) else 0

abbrev pub port_size : Piece → ℕ
port_size p = part_size (held_part p)
