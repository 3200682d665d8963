-- Places of the text and of nodes: lists of them, and what is known where there are no other ones.
use Rattle.std.proofs.Common.{arith, ◌≡◌, ℕ, zero, suc, ◌+◌, Bool, true, false, ◌||◌, List, [], ◌∷◌, ◌++◌, map, take, drop, length, Option, Some, None, refl, sym, ap, ap₂, ◌∙◌, subst, nat_eq, is_some, if◌then◌else◌}
use Rattle.std.specs.Prelude.{flat_map, option_map, option_and_then, find, Contains}
use Rattle.std.specs.List.{range_with_len, list_any}
use Rattle.std.specs.Map.{lookup}
use Rattle.reset_search.specs.declared.ground.Word.{Word}
use Rattle.reset_search.specs.declared.ground.Word.TheVariants.{OfUint, OfSint, OfReset, OfAsync}
use Rattle.reset_search.specs.declared.ground.Ground.{Ground}
use Rattle.reset_search.specs.declared.spot.Spot.{Spot}
use Rattle.reset_search.specs.declared.spot.Spot.TheVariants.{Cast, Declared, OfNode}
use Rattle.reset_search.specs.declared.spot.Feed.{Feed}
use Rattle.reset_search.specs.declared.spot.Reach.{Reach}
use Rattle.reset_search.specs.Grounds.{grounds, are_alike, turned, within}
use Rattle.reset_search.specs.Sources.{holds_async}
use Rattle.reset_search.specs.Feeds.{Known, feed, reach, known_with, declared_from, node_from, between, pairs, connected, fed_by, where_async, asyncs_among}

-- it is no `asAsyncReset`
abbrev pub IsPlace : Spot → Type 0
IsPlace Cast = ⊥
IsPlace (Declared n) = Unit {0}
IsPlace (OfNode n) = Unit {0}

abbrev pub Placed : List Spot → Type 0
Placed [] = Unit {0}
Placed (p ∷ ps) = IsPlace p × Placed ps

pub placed_take : (n : ℕ) (ps : List Spot) → Placed ps → Placed (take n ps)
placed_take zero ps h = tt
placed_take (suc n) [] h = tt
placed_take (suc n) (p ∷ ps) h = (h.0, placed_take n ps h.1)

pub placed_drop : (n : ℕ) (ps : List Spot) → Placed ps → Placed (drop n ps)
placed_drop zero ps h = h
placed_drop (suc n) [] h = tt
placed_drop (suc n) (p ∷ ps) h = placed_drop n ps h.1

pub placed_append : (ps qs : List Spot) → Placed ps → Placed qs → Placed (ps ++ qs)
placed_append [] qs h k = k
placed_append (p ∷ ps) qs h k = (h.0, placed_append ps qs h.1 k)

pub placed_declared : (n count : ℕ) → Placed (declared_from n count)
placed_declared n zero = tt
placed_declared n (suc count) = (tt, placed_declared (n + 1) count)

pub placed_node : (n count : ℕ) → Placed (node_from n count)
placed_node n zero = tt
placed_node n (suc count) = (tt, placed_node (n + 1) count)

-- it has such places alone, and no AsyncReset stands in its type
abbrev pub Plain : Reach → Type 0
Plain r = Placed r.spots × (holds_async r.typ ≡ false)

-- where it comes to something, that is so
abbrev pub MayPlace : Option Reach → Type 0
MayPlace (Some r) = Plain r
MayPlace None = Unit {0}

abbrev pub KnownPlaced : Known → Type 0
KnownPlaced [] = Unit {0}
KnownPlaced (e ∷ es) = Plain e.1 × KnownPlaced es

pub known_append : (known more : Known) → KnownPlaced known → KnownPlaced more → KnownPlaced (known ++ more)
known_append [] more h k = k
known_append (e ∷ es) more h k = (h.0, known_append es more h.1 k)

if_placed : (b : Bool) (x y : Option Reach) → MayPlace x → MayPlace y → MayPlace (if b then x else y)
if_placed true x y h k = h
if_placed false x y h k = k

pub placed_if : (b : Bool) (x y : Option Reach) → MayPlace x → MayPlace y → MayPlace (if b then x else y)
placed_if = if_placed

pub placed_lookup : (name : ℕ) (known : Known) → KnownPlaced known → MayPlace (lookup (nat_eq name) known)
placed_lookup name [] h = tt
placed_lookup name (e ∷ es) h = if_placed (nat_eq name e.0) (Some e.1) (lookup (nat_eq name) es) h.0 (placed_lookup name es h.1)

known_if : (b : Bool) (x y : Known) → KnownPlaced x → KnownPlaced y → KnownPlaced (if b then x else y)
known_if true x y h k = h
known_if false x y h k = k

pub placed_with : (known : Known) (name : ℕ) (r : Option Reach) → KnownPlaced known → MayPlace r → KnownPlaced (known_with known name r)
placed_with known name None h k = h
placed_with known name (Some r) h k =
    known_if (is_some (lookup (nat_eq name) known)) known (known ++ (name, r) ∷ []) h (known_append known ((name, r) ∷ []) h (k, tt))

-- feeds from such places alone
abbrev pub FromPlaces : List Feed → Type 0
FromPlaces [] = Unit {0}
FromPlaces (f ∷ fs) = IsPlace f.from × FromPlaces fs

pub from_append : (fs gs : List Feed) → FromPlaces fs → FromPlaces gs → FromPlaces (fs ++ gs)
from_append [] gs h k = k
from_append (f ∷ fs) gs h k = (h.0, from_append fs gs h.1 k)

from_if : (b : Bool) (x y : List Feed) → FromPlaces x → FromPlaces y → FromPlaces (if b then x else y)
from_if true x y h k = h
from_if false x y h k = k

feed_if : (b : Bool) (l r : Spot) → IsPlace l → IsPlace r → IsPlace (if b then feed l r else feed r l).from
feed_if true l r h k = h
feed_if false l r h k = k

from_between : (g : Ground) (l r : Spot) → IsPlace l → IsPlace r → FromPlaces (between g l r)
from_between g l r h k = from_if g.leaf ((if g.flip then feed l r else feed r l) ∷ []) [] (feed_if g.flip l r h k, tt) tt

pub from_pairs : (gs : List Ground) (ls rs : List Spot) → Placed ls → Placed rs → FromPlaces (pairs gs ls rs)
from_pairs [] ls rs h k = tt
from_pairs (g ∷ gs) [] rs h k = tt
from_pairs (g ∷ gs) (l ∷ ls) [] h k = tt
from_pairs (g ∷ gs) (l ∷ ls) (r ∷ rs) h k = from_append (between g l r) (pairs gs ls rs) (from_between g l r h.0 k.0) (from_pairs gs ls rs h.1 k.1)

pub from_connected : (l r : Option Reach) → MayPlace l → MayPlace r → FromPlaces (connected l r)
from_connected None r h k = tt
from_connected (Some l) None h k = tt
from_connected (Some l) (Some r) h k = from_if (are_alike l.typ r.typ) (pairs (grounds l.typ) l.spots r.spots) [] (from_pairs (grounds l.typ) l.spots r.spots h.0 k.0) tt

pub from_fed : (sources owns : List Spot) → Placed sources → FromPlaces (fed_by sources owns)
from_fed [] owns h = tt
from_fed (s ∷ sources) [] h = tt
from_fed (s ∷ sources) (o ∷ owns) h = (h.0, from_fed sources owns h.1)

pub never_from_cast : (fs : List Feed) (q : Spot) → FromPlaces fs → Contains fs (feed Cast q) → ⊥
never_from_cast [] q h (k, below, is) = absurd (omega arith)
never_from_cast (f ∷ fs) q h (zero, below, is) = subst (λ (x : Feed). IsPlace x.from) is h.0
never_from_cast (f ∷ fs) q h (suc k, below, is) = never_from_cast fs q h.1 (k, omega arith, is)

-- grounds of which none is an AsyncReset
abbrev pub IsPlain : Word → Type 0
IsPlain OfAsync = ⊥
IsPlain _ = Unit {0}

abbrev pub NoneAsync : List Ground → Type 0
NoneAsync [] = Unit {0}
NoneAsync (g ∷ gs) = IsPlain g.word × NoneAsync gs

pub none_append : (gs hs : List Ground) → NoneAsync gs → NoneAsync hs → NoneAsync (gs ++ hs)
none_append [] hs h k = k
none_append (g ∷ gs) hs h k = (h.0, none_append gs hs h.1 k)

pub none_turned : (flip : Bool) (gs : List Ground) → NoneAsync gs → NoneAsync (map (turned flip) gs)
none_turned flip [] h = tt
none_turned flip (g ∷ gs) h = (h.0, none_turned flip gs h.1)

pub none_within : (n : ℕ) (gs : List Ground) → NoneAsync gs → NoneAsync (map (within n) gs)
none_within n [] h = tt
none_within zero (g ∷ gs) h = (h.0, none_within zero gs h.1)
none_within (suc n) (g ∷ gs) h = (h.0, none_within (suc n) gs h.1)

where_plain : (word : Word) (s : Spot) → IsPlain word → where_async word s ≡ []
where_plain OfUint s h = refl
where_plain OfSint s h = refl
where_plain OfReset s h = refl
where_plain OfAsync s h = absurd h

pub no_asyncs : (gs : List Ground) (spots : List Spot) → NoneAsync gs → asyncs_among gs spots ≡ []
no_asyncs [] spots h = refl
no_asyncs (g ∷ gs) [] h = refl
no_asyncs (g ∷ gs) (s ∷ spots) h = ap₂ (λ a b. a ++ b) (where_plain g.word s h.0) (no_asyncs gs spots h.1)
