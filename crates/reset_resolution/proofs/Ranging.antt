-- Places in order, beside one another.
use Rattle.std.proofs.Common.{arith, ◌≡◌, ℕ, ◌+◌, Bool, true, false, if◌then◌else◌, List, [], ◌∷◌, ◌++◌, map, Option, Some, None, refl, sym, ap, ◌∙◌}
use Rattle.std.specs.List.{range_with_len}
use Rattle.std.proofs.lemmas.List.FromFn.{map-range_with_len_more}
use Rattle.bit_words.specs.declared.value.Kind.{Kind}
use Rattle.reset_search.specs.declared.ground.Ground.{Ground}
use Rattle.reset_search.specs.declared.spot.Spot.{Spot}
use Rattle.reset_search.specs.declared.spot.Spot.TheVariants.{Declared, OfNode}
use Rattle.reset_search.specs.declared.spot.Feed.{Feed}
use Rattle.reset_search.specs.declared.spot.Reach.{Reach}
use Rattle.reset_search.specs.Grounds.{grounds, are_alike}
use Rattle.reset_search.specs.Feeds.{declared_from, node_from, asyncs_among, pairs, fed_by, connected, ports_asyncs, with_sign, signs_of, choice}
use Rattle.fir_types.specs.declared.port.Port.{Port}

pub declared_more : (n k : ℕ) → declared_from n (k + 1) ≡ declared_from n k ++ Declared (n + k) ∷ []
declared_more n k = map-range_with_len_more Declared n k (n + k) refl

pub node_more : (n k : ℕ) → node_from n (k + 1) ≡ node_from n k ++ OfNode (n + k) ∷ []
node_more n k = map-range_with_len_more OfNode n k (n + k) refl

pub asyncs_none : (gs : List Ground) → asyncs_among gs [] ≡ []
asyncs_none [] = refl
asyncs_none (g ∷ gs) = refl

pub pairs_left : (gs : List Ground) (rs : List Spot) → pairs gs [] rs ≡ []
pairs_left [] rs = refl
pairs_left (g ∷ gs) rs = refl

pub pairs_right : (gs : List Ground) (ls : List Spot) → pairs gs ls [] ≡ []
pairs_right [] ls = refl
pairs_right (g ∷ gs) [] = refl
pairs_right (g ∷ gs) (l ∷ ls) = refl

if_none : (b : Bool) (xs : List Feed) → xs ≡ [] → (if b then xs else []) ≡ []
if_none true xs e = e
if_none false xs e = refl

-- a side without places feeds nothing
pub connected_none : (l r : Reach) → r.spots ≡ [] → connected (Some l) (Some r) ≡ []
connected_none l r e =
    if_none (are_alike l.typ r.typ) (pairs (grounds l.typ) l.spots r.spots) (ap (pairs (grounds l.typ) l.spots) e ∙ pairs_right (grounds l.typ) l.spots)

pub fed_none : (ss : List Spot) → fed_by ss [] ≡ []
fed_none [] = refl
fed_none (s ∷ ss) = refl

pub ports_none : (ports : List Port) → ports_asyncs ports [] ≡ []
ports_none [] = refl
ports_none (port ∷ ports) = refl

-- kinds that were found before others
abbrev pub before : List Kind → Option (List Kind) → Option (List Kind)
before kinds (Some more) = Some (kinds ++ more)
before kinds None = None

pub kinds_more : (kinds : List Kind) (k : Kind) (rest : Option (List Kind)) → before kinds (with_sign (Some k) rest) ≡ before (kinds ++ k ∷ []) rest
kinds_more kinds k None = refl
kinds_more kinds k (Some more) = ap Some (assoc kinds)
  where
    assoc : (ks : List Kind) → ks ++ k ∷ more ≡ (ks ++ k ∷ []) ++ more
    assoc [] = refl
    assoc (x ∷ ks) = ap (λ l. x ∷ l) (assoc ks)

pub kinds_none : (kinds : List Kind) (rest : Option (List Kind)) → before kinds (with_sign None rest) ≡ None
kinds_none kinds None = refl
kinds_none kinds (Some more) = refl

-- choices of which an operand has no type
pub choice_first : (a b : Option Reach) → choice (None ∷ a ∷ b ∷ []) ≡ None
choice_first a b = refl

pub choice_second : (c b : Option Reach) → choice (c ∷ None ∷ b ∷ []) ≡ None
choice_second None b = refl
choice_second (Some c) b = refl

pub choice_third : (c a : Option Reach) → choice (c ∷ a ∷ None ∷ []) ≡ None
choice_third None a = refl
choice_third (Some c) None = refl
choice_third (Some c) (Some a) = refl
