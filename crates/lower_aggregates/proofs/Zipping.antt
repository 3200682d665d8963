-- Declarations with their types, one more at a time.
use Rattle.std.proofs.Common.{◌≡◌, ℕ, zero, suc, ◌+◌, ◌<◌, ◌≤◌, List, [], ◌∷◌, ◌++◌, map, length, take, zip, get_or, refl, sym, ap, ap₂, ◌∙◌, arith}
use Rattle.std.proofs.lemmas.Grind.{common_steps}
use Rattle.std.proofs.lemmas.List.{length-map, map-append}
use Rattle.fir_types.specs.declared.fir_type.FirType.{FirType}
use Rattle.fir_types.specs.Leaves.{leaves}
use Rattle.fir_meaning.specs.Components.{Declaration, Component}
use Rattle.lower_aggregates.specs.declared.declarations.Declaration.{Declaration as Held}
use Rattle.lower_aggregates.specs.declared.pieces.Piece.{Piece}
use Rattle.lower_aggregates.specs.Held.{held_heading, held_part}
use Rattle.lower_aggregates.specs.Headings.{Heading, heading_of}
use Rattle.lower_aggregates.specs.Parts.{Part, part, parts_from, leaves_in, component_parts}

zip_more : (hs : List Heading) (ts : List FirType) (i : ℕ) (h : Heading) (t : FirType) → i < length hs → i < length ts → zip (take (i + 1) hs) ts ≡ zip (take i hs) ts ++ (get_or hs i h, get_or ts i t) ∷ []
zip_more [] ts i h t a b = absurd (omega (arith, a))
zip_more (x ∷ hs) [] i h t a b = absurd (omega (arith, b))
zip_more (x ∷ hs) (y ∷ ts) zero h t a b = grind (arith, common_steps)
zip_more (x ∷ hs) (y ∷ ts) (suc i) h t a b =
    let r = zip_more hs ts i h t (omega (arith, a)) (omega (arith, b)) in
    let l : take (suc i + 1) (x ∷ hs) ≡ x ∷ take (i + 1) hs = grind (arith, common_steps) in
    let q : take (suc i) (x ∷ hs) ≡ x ∷ take i hs = grind (arith, common_steps) in
    ap (λ z. zip z (y ∷ ts)) l ∙ (ap (λ z. (x, y) ∷ z) r ∙ sym (ap (λ z. zip z (y ∷ ts) ++ (get_or hs i h, get_or ts i t) ∷ []) q))

parts-append : (b : ℕ) (xs : List (Heading × FirType)) (x : Heading × FirType) → parts_from b (xs ++ x ∷ []) ≡ parts_from b xs ++ part (b + leaves_in xs) x ∷ []
parts-append b [] x = let e : b ≡ b + 0 = omega arith in ap (λ n. part n x ∷ []) e
parts-append b (y ∷ xs) x =
    let e : b + length (leaves y.1) + leaves_in xs ≡ b + (length (leaves y.1) + leaves_in xs) = omega arith in
    ap (λ l. part b y ∷ l) (parts-append (b + length (leaves y.1)) xs x ∙ ap (λ n. parts_from (b + length (leaves y.1)) xs ++ part n x ∷ []) e)

leaves_in-append : (xs : List (Heading × FirType)) (x : Heading × FirType) → leaves_in (xs ++ x ∷ []) ≡ leaves_in xs + length (leaves x.1)
leaves_in-append [] x = omega arith
leaves_in-append (y ∷ xs) x = let r = leaves_in-append xs x in omega (arith, r)

-- one declaration more
pub parts_more : (hs : List Heading) (ts : List FirType) (i first after count : ℕ) (h : Heading) (t : FirType) (held held' : List Part) (p : Part) → i < length hs → i < length ts
    → h ≡ get_or hs i h → t ≡ get_or ts i t → p ≡ part first (h, t)
    → held ≡ parts_from 0 (zip (take i hs) ts) → first ≡ leaves_in (zip (take i hs) ts) → held' ≡ held ++ p ∷ [] → count ≡ length (leaves t) → after ≡ first + count
    → (held' ≡ parts_from 0 (zip (take (i + 1) hs) ts)) × (after ≡ leaves_in (zip (take (i + 1) hs) ts))
parts_more hs ts i first after count h t held held' p a b hi ti pi e f g n s =
    let front = zip (take i hs) ts in
    let split : zip (take (i + 1) hs) ts ≡ front ++ (h, t) ∷ [] =
    zip_more hs ts i h t a b ∙ ap₂ (λ (x : Heading) (y : FirType). front ++ (x, y) ∷ []) (sym hi) (sym ti) in
    let z : first ≡ 0 + leaves_in front = f ∙ omega arith in (
      g ∙ ap₂ (λ (x : List Part) (y : Part). x ++ y ∷ []) e (pi ∙ ap (λ k. part k (h, t)) z) ∙ sym (parts-append 0 front (h, t)) ∙ sym (ap (parts_from 0) split),
      s ∙ ap₂ (λ (x y : ℕ). x + y) f n ∙ sym (leaves_in-append front (h, t)) ∙ sym (ap leaves_in split),
    )

-- The components of a module.

component_of : Declaration × FirType → Component
component_of both = record { declaration = both.0; typ = both.1 }

pub parts_are : (b : ℕ) (ds : List Declaration) (ts : List FirType) → parts_from b (zip (map heading_of ds) ts) ≡ component_parts b (map (λ both. record { declaration = both.0; typ = both.1 }) (zip ds ts))
parts_are b [] ts = refl
parts_are b (d ∷ ds) [] = refl
parts_are b (d ∷ ds) (t ∷ ts) = ap (λ l. part b (heading_of d, t) ∷ l) (parts_are (b + length (leaves t)) ds ts)

heading_at : (ds : List Held) (i : ℕ) (d : Held) → get_or (map held_heading ds) i (held_heading d) ≡ held_heading (get_or ds i d)
heading_at [] i d = refl
heading_at (x ∷ ds) zero d = refl
heading_at (x ∷ ds) (suc i) d = heading_at ds i d

-- one piece more
pub pieces_more : (ds : List Held) (ts : List FirType) (i first after count : ℕ) (d : Held) (t : FirType) (held held' : List Piece) (p : Piece) → i < length ds → length ds ≤ length ts
    → d ≡ get_or ds i d → t ≡ get_or ts i t → held_part p ≡ part first (held_heading d, t)
    → map held_part held ≡ parts_from 0 (zip (take i (map held_heading ds)) ts) → first ≡ leaves_in (zip (take i (map held_heading ds)) ts) → held' ≡ held ++ p ∷ []
    → count ≡ length (leaves t) → after ≡ first + count
    → (map held_part held' ≡ parts_from 0 (zip (take (i + 1) (map held_heading ds)) ts)) × (after ≡ leaves_in (zip (take (i + 1) (map held_heading ds)) ts))
pieces_more ds ts i first after count d t held held' p a b di ti pi e f g n s =
    let many : length (map held_heading ds) ≡ length ds = length-map ds held_heading in
    parts_more (map held_heading ds) ts i first after count (held_heading d) t (map held_part held) (map held_part held') (held_part p) (omega (arith, a, many)) (omega (arith, a, b))
    (ap held_heading di ∙ sym (heading_at ds i d)) ti pi e f (ap (map held_part) g ∙ map-append held_part held (p ∷ [])) n s
