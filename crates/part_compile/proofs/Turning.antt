-- Segments of assignments in turn are pieces.
use Rattle.std.proofs.Common.{◌≡◌, ℕ, zero, suc, ◌*◌, ◌<◌, ◌≤◌, true, List, [], ◌∷◌, ◌++◌, flat_map, length, take, slice_get, Option, Some, None, Contains, refl, sym, subst, ap, ◌∙◌, arith, ⊎_elim, append_assoc, append-nil, length-set}
use Rattle.std.proofs.lemmas.Bool.{cases_eq}
use Rattle.std.proofs.lemmas.List.Elements.{Contains-append_left, Contains-append_right, Contains-append_cases}
use Rattle.ground_net.specs.declared.ground.Ground.{Ground}
use Rattle.ground_net.specs.Grounds.{mentions}
use Rattle.flat_code.specs.declared.instr.Port.{Port}
use Rattle.flat_code.specs.declared.instr.Wide.{Wide}
use Rattle.flat_code.specs.Fine.{among, location_slots}
use Rattle.code_draft.specs.declared.draft.Draft.{Draft}
use Rattle.code_draft.specs.Segments.{GoesOn}
use Rattle.code_draft.proofs.Joining.{goes_then}
use Rattle.code_draft.proofs.Segmenting.{none_among, among_either}
use Rattle.code_draft.specs.declared.sources.Source.TheVariants as source
use Rattle.code_draft.specs.declared.sources.Sources.{Sources}
use Rattle.code_emit.specs.Counts.{tips}
use Rattle.code_emit.specs.Spans.{leaf_slots, ground_slots}
use Rattle.partition_code.specs.Sequences.{driver_in}
use Rattle.partition_code.specs.Segmented.{with_frame, InSegments}
use Rattle.partition_code.proofs.Segmenting.{leaf_there, leaf_elsewhere}
use Rattle.code_draft.specs.Pieces.{Piece, StandsIn, IsPiece, GoesBy, AssignsPieces}
use Rattle.code_draft.proofs.Building.{piece_of, goes_not, goes_one, goes_further}
use Rattle.part_compile.specs.Pieces.{Once}
use Rattle.part_compile.proofs.Standing.{contains_first, contains_later}

some_same : {A : Type 0} {x y : A} → Some x ≡ Some y → x ≡ y
some_same e = cc

none_some : {A : Type 0} {x : A} → None ≡ Some x → ⊥
none_some e = cc

-- a slot of some leaves is that of one of them
pub among_flat : (slots : ℕ → List ℕ) (ys : List ℕ) (k : ℕ) → among (flat_map slots ys) k ≡ true → (y : ℕ) × Contains ys y × (among (slots y) k ≡ true)
among_flat slots [] k e = none_among k e
among_flat slots (y ∷ ys) k e = ⊎_elim
    (λ h. (y, contains_first y ys, h))
    (λ l. let rest = among_flat slots ys k l in (rest.0, contains_later y ys rest.0 rest.1, rest.2))
    (among_either (slots y) (flat_map slots ys) k e)

-- leaves that aren't assigned are found where they were
stays : (drivers : List (Option Ground)) (xs : List ℕ) (S T : Sources) (a b : Draft) (y : ℕ) → InSegments drivers xs S a T b → (Contains xs y → ⊥) → leaf_slots T y ≡ leaf_slots S y
stays drivers [] S T a b y h out = ap (λ V. leaf_slots V y) h.0
stays drivers (x ∷ xs) S T a b y h out =
    stays drivers xs (with_frame S x h.1) T h.2 b y h.5 (λ c. out (contains_later x xs y c))
    ∙ leaf_elsewhere S x y h.1 (λ e. out (subst (λ z. Contains (z ∷ xs) y) e (contains_first y xs)))

module _ (drivers : List (Option Ground)) (reads : ℕ → List ℕ) (counts : ℕ → ℕ) (T : Sources) (new : Draft)
    (known : (x : ℕ) (g : Ground) → driver_in drivers x ≡ Some g → ((y : ℕ) → Contains (mentions g) y → Contains (reads x) y) × (tips g ≤ counts x)) where
  -- Pieces of the rest, where some leaves are done.
  record Turn (done rest : List ℕ) (old : Draft) : Type 0 where
    pieces : List Piece
    goes : GoesBy old new pieces
    counted : length pieces ≡ length rest
    each : (ports : List Port) (wides : List Wide) → GoesOn new ports wides → (k x : ℕ) (p : Piece) → slice_get rest k ≡ Some x → slice_get pieces k ≡ Some p
        → IsPiece ports wides (leaf_slots T) (done ++ take k rest) (reads x) (leaf_slots T x) (counts x) p

  turn : (rest done : List ℕ) (S : Sources) (old : Draft) → InSegments drivers rest S old T new → ((y k : ℕ) → among (leaf_slots S y) k ≡ true → Contains done y)
      → ((y : ℕ) → Contains done y → Contains rest y → ⊥) → Once rest → ((y : ℕ) → Contains rest y → y < length S.leaves) → Turn done rest old
  turn [] done S old h found apart once within = record {
    pieces = [];
    goes = subst (λ d. GoesBy old d []) (sym h.1) (goes_not old);
    counted = refl;
    each = λ ports wides on k x p at there. absurd (none_some at);
  }
  turn (x ∷ rest) done S old h found apart once within =
      let g = h.0 in
      let s = h.1 in
      let mid = h.2 in
      let seg = h.4 in
      let S' = with_frame S x s in
      let says = known x g h.3 in
      let lt = within x (contains_first x rest) in
      let here : leaf_slots T x ≡ location_slots s = stays drivers rest S' T mid new x h.5 once.0 ∙ leaf_there S x s lt in
      let p : Piece = piece_of old mid (ground_slots S g) (location_slots s) (2 * tips g) seg in
      let later = turn rest (done ++ x ∷ []) S' mid h.5
      (λ y k e. ⊎_elim
      (λ q. Contains-append_right done (x ∷ []) y (subst (λ z. Contains (z ∷ []) y) q (contains_first y [])))
      (λ ne. Contains-append_left done (x ∷ []) y (found y k (subst (λ ks. among ks k ≡ true) (leaf_elsewhere S x y s ne) e)))
      (cases_eq y x))
      (λ y c d. ⊎_elim (λ l. apart y l (contains_later x rest y d)) (λ r. once.0 (subst (Contains rest) (sym (only x y r)) d)) (Contains-append_cases done (x ∷ []) y c))
      once.1
      (λ y c. let long = length-set S.leaves x (Some (source.Frame s)) in let below = within y (contains_later x rest y c) in omega (arith, long, below))
      in
      let outside : (k : ℕ) → among (ground_slots S g) k ≡ true → StandsIn (leaf_slots T) done (reads x) k =
      λ k e. let one = among_flat (leaf_slots S) (mentions g) k e in
      let before = found one.0 k one.2 in
      record { leaf = one.0; before = before; wanted = says.0 one.0 one.1; there = subst (λ ks. among ks k ≡ true) (sym (stays drivers (x ∷ rest) S T old new one.0 h (λ c. apart one.0 before c))) one.2 }
      in
      let piece : (ports : List Port) (wides : List Wide) → GoesOn new ports wides → IsPiece ports wides (leaf_slots T) (done ++ []) (reads x) (leaf_slots T x) (counts x) p =
      λ ports wides on. subst (λ earlier. IsPiece ports wides (leaf_slots T) earlier (reads x) (leaf_slots T x) (counts x) p) (sym (append-nil done))
      (subst (λ kept. IsPiece ports wides (leaf_slots T) done (reads x) kept (counts x) p) (sym here)
      (record { outer = ground_slots S g; outside = outside; there = seg.there; most = 2 * tips g; few = let le = says.1 in omega (arith, le); stretch = seg.each ports wides (goes_then mid new ports wides later.goes.tables on) }))
      in
      let counted = later.counted in
      record {
        pieces = p ∷ later.pieces;
        goes = goes_further old mid new (p ∷ []) later.pieces (goes_one old mid (ground_slots S g) (location_slots s) (2 * tips g) seg) later.goes;
        counted = omega (arith, counted);
        each = λ ports wides on. cases ports wides x rest done p later.pieces (piece ports wides on) (later.each ports wides on);
      }
    where
      only : (x y : ℕ) → Contains (x ∷ []) y → x ≡ y
      only x y (zero, lt, e) = e
      only x y (suc k, lt, e) = absurd (omega (arith, lt))

      cases : (ports : List Port) (wides : List Wide) (x : ℕ) (rest done : List ℕ) (p : Piece) (pieces : List Piece) → IsPiece ports wides (leaf_slots T) (done ++ []) (reads x) (leaf_slots T x) (counts x) p
          → ((k y : ℕ) (q : Piece) → slice_get rest k ≡ Some y → slice_get pieces k ≡ Some q → IsPiece ports wides (leaf_slots T) ((done ++ x ∷ []) ++ take k rest) (reads y) (leaf_slots T y) (counts y) q)
          → (k y : ℕ) (q : Piece) → slice_get (x ∷ rest) k ≡ Some y → slice_get (p ∷ pieces) k ≡ Some q
          → IsPiece ports wides (leaf_slots T) (done ++ take k (x ∷ rest)) (reads y) (leaf_slots T y) (counts y) q
      cases ports wides x rest done p pieces first others zero y q at there =
          subst (λ z. IsPiece ports wides (leaf_slots T) (done ++ []) (reads z) (leaf_slots T z) (counts z) q) (some_same at)
          (subst (λ r. IsPiece ports wides (leaf_slots T) (done ++ []) (reads x) (leaf_slots T x) (counts x) r) (some_same there) first)
      cases ports wides x rest done p pieces first others (suc k) y q at there =
          subst (λ earlier. IsPiece ports wides (leaf_slots T) earlier (reads y) (leaf_slots T y) (counts y) q) (append_assoc done (x ∷ []) (take k rest)) (others k y q at there)

pub turns_pieces : (drivers : List (Option Ground)) (reads : ℕ → List ℕ) (counts : ℕ → ℕ) (leaves : List ℕ) (S T : Sources) (old new : Draft)
    → ((x : ℕ) (g : Ground) → driver_in drivers x ≡ Some g → ((y : ℕ) → Contains (mentions g) y → Contains (reads x) y) × (tips g ≤ counts x))
    → InSegments drivers leaves S old T new → ((y k : ℕ) → among (leaf_slots S y) k ≡ true → ⊥) → Once leaves → ((y : ℕ) → Contains leaves y → y < length S.leaves)
    → AssignsPieces (leaf_slots T) reads counts leaves old new
turns_pieces drivers reads counts leaves S T old new known h none once within =
    let t = turn drivers reads counts T new known leaves [] S old h (λ y k e. absurd (none y k e)) (λ y c d. absurd (omega (arith, c.1))) once within in
    record { pieces = t.pieces; goes = t.goes; counted = t.counted; each = t.each }
