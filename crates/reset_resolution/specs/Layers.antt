-- Parts of the definitions, as the code asks for them.
use Rattle.std.specs.Prelude.{Bool, not, ◌&&◌, if◌then◌else◌, List, Option}
use Rattle.bit_words.specs.declared.value.Kind.{Kind}
use Rattle.place_text.specs.declared.place.Place.{Place}
use Rattle.fir_types.specs.declared.fir_type.FirType.{FirType}
use Rattle.fir_types.specs.declared.fir_type.Shape.{Shape}
use Rattle.fir_types.specs.declared.fir_type.Shape.TheViews.{out-Shape}
use Rattle.fir_types.specs.declared.fir_type.Field.{Field, fold-Field}
use Rattle.fir_tree.specs.declared.expr.Suffix.{Suffix, fold-Suffix}
use Rattle.reset_search.specs.declared.ground.Ground.{Ground}
use Rattle.reset_search.specs.declared.spot.Reach.{Reach}
use Rattle.reset_search.specs.Grounds as grounding
use Rattle.reset_search.specs.Grounds.{shape_takes, field_takes, is_one_bit_or_uint}
use Rattle.reset_search.specs.Feeds.{Among, Step, of_form, of_suffix, of_expr, reach, sign_of_layer}
use Rattle.reset_resolution.specs.declared.steps.View.{View}
use Rattle.reset_resolution.specs.declared.reaching.Reached.{Reached}

-- a ground place under a flip or not, and in vectors that have elements or not
abbrev pub seen : Bool → Bool → Ground → Ground
seen flip held g = record { word = g.word; flip = if flip then not g.flip else g.flip; leaf = held && g.leaf }

abbrev pub field_grounds : Field → List Ground
field_grounds = fold-Field (List Ground) (List Ground) (List Ground) grounding.of_shape grounding.of_field (λ t. t.shape)

abbrev pub field_alike : Field → Field → Bool
field_alike = fold-Field (Shape → Bool) (Field → Bool) (FirType → Bool) shape_takes field_takes (λ t other. t.shape other.shape)

abbrev pub is_uint_like : FirType → Bool
is_uint_like typ = is_one_bit_or_uint (out-Shape typ.shape)

abbrev pub sign_in : FirType → Option Kind
sign_in typ = sign_of_layer (out-Shape typ.shape)

abbrev pub suffix_step : Suffix → Step
suffix_step = fold-Suffix (Place → Among) Step Among of_form of_suffix of_expr

-- the part that is looked at, and what an expression comes to
abbrev pub viewed : View → Reach
viewed view = reach view.known.typ.now view.spots.now

abbrev pub reached_as : Reached → Reach
reached_as found = reach found.known.typ found.spots.now
