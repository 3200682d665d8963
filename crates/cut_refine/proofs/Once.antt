-- The refined cut of a start is one.
use Rattle.std.proofs.Common.{◌≡◌, ℕ, suc, ◌<◌, ◌≤◌, List, [], ◌∷◌, length, slice_get, slice_index, Some, refl, sym, subst, ap, ap₂, ◌∙◌, arith, ⊎_elim, inl, inr}
use Rattle.std.specs.List.{Contains, AllZip}
use Rattle.std.proofs.lemmas.Bool.{cases_lt}
use Rattle.std.proofs.lemmas.List.{ext_get_or}
use Rattle.std.proofs.lemmas.Option.{slice_get_cases, slice_get_within}
use Rattle.ground_net.specs.declared.net.Ordered.{Ordered}
use Rattle.ground_net.specs.declared.net.Cut.{Cut}
use Rattle.ground_net.specs.declared.net.CutPart.{CutPart}
use Rattle.ground_net.specs.Cones.{sinks}
use Rattle.cone_cutter.specs.Cuts.{Keeps, NeededBy, InConeOf}
use Rattle.cone_cutter.specs.Rows.{places_of}
use Rattle.cone_cutter.specs.Splits.{IsSplit}
use Rattle.cone_cutter.proofs.KeyPlaces.{place_from, place_to}
use Rattle.cut_refine.specs.declared.refined.Move.{Move}
use Rattle.cut_refine.specs.declared.refined.Refined.{Refined}
use Rattle.cut_refine.specs.Refining.{GoesBefore, Refines, ended, improved, IsFullest, IsRow, IsTable, of_one, of_several, AreOwners, IsRefined, moved}
use Rattle.cut_refine.proofs.Unique.{keeps_one}
use Rattle.cut_refine.proofs.Ending.{none_lowers}
use Rattle.cut_refine.proofs.Sets.{zip_right}
use Rattle.cut_refine.proofs.Steps.{greatest_one}
use Rattle.cut_refine.proofs.Closing.{owners_once}

equal : (a b : ℕ) → (a < b → ⊥) → (b < a → ⊥) → a ≡ b
equal a b f g = ⊎_elim (λ lt. absurd (f lt)) (λ ge. ⊎_elim (λ lt. absurd (g lt)) (λ le. omega (arith, ge, le)) (cases_lt b a)) (cases_lt a b)

same_move : (a b : Move) → a.sink ≡ b.sink → a.target ≡ b.target → a.greatest ≡ b.greatest → a ≡ b
same_move a b e f g =
    ap (λ (s : ℕ). record { sink = s; target = a.target; greatest = a.greatest }) e
    ∙ (ap (λ (t : ℕ). record { sink = b.sink; target = t; greatest = a.greatest }) f
    ∙ ap (λ (n : ℕ). record { sink = b.sink; target = b.target; greatest = n }) g)

moves_one : (a b : Move) → (GoesBefore a b → ⊥) → (GoesBefore b a → ⊥) → a ≡ b
moves_one a b f g =
    let greatest : a.greatest ≡ b.greatest = equal a.greatest b.greatest (λ lt. f (inl lt)) (λ lt. g (inl lt)) in
    let sink : a.sink ≡ b.sink = equal a.sink b.sink (λ lt. f (inr (greatest, inl lt))) (λ lt. g (inr (sym greatest, inl lt))) in
    let target : a.target ≡ b.target = equal a.target b.target (λ lt. f (inr (greatest, inr (sink, lt)))) (λ lt. g (inr (sym greatest, inr (sym sink, lt)))) in
    same_move a b sink target greatest

pub refines_one : (cone : ℕ → ℕ → Type 0) (workers : ℕ) (owners last other : List ℕ) (least less : ℕ) → Refines cone workers owners last least → Refines cone workers owners other less → (last ≡ other) × (least ≡ less)
refines_one cone workers owners last other least less (ended a is none) (ended b be nil) = (refl, greatest_one cone workers owners a b is be)
refines_one cone workers owners last other least less (ended a is none) (improved b l move be best rest) =
    let low = none move best.is_move in
    let same = greatest_one cone workers owners a b is be in
    absurd (omega (arith, low, same, best.lowers))
refines_one cone workers owners last other least less (improved a l move is best rest) (ended b be nil) =
    let low = nil move best.is_move in
    let same = greatest_one cone workers owners a b is be in
    absurd (omega (arith, low, same, best.lowers))
refines_one cone workers owners last other least less (improved a l move is best rest) (improved b m turn be better more) =
    let same : turn ≡ move = moves_one turn move (best.first turn better.is_move) (better.first move best.is_move) in
    refines_one cone workers (moved owners move) last other least less rest (subst (λ n. Refines cone workers (moved owners n) other less) same more)

row_one : (cone : ℕ → ℕ → Type 0) (workers : ℕ) (owners : List ℕ) (s : ℕ) (a b : Move) → IsRow cone workers owners s a → IsRow cone workers owners s b → a ≡ b
row_one cone workers owners s a b f g = moves_one a b (g.first a f.is_move f.of_sink) (f.first b g.is_move g.of_sink)

rows_one : (cone : ℕ → ℕ → Type 0) (workers : ℕ) (owners xs : List ℕ) (a b : List Move) → AllZip (IsRow cone workers owners) xs a → AllZip (IsRow cone workers owners) xs b → a ≡ b
rows_one cone workers owners [] [] [] f g = refl
rows_one cone workers owners [] [] (y ∷ b) f g = absurd g
rows_one cone workers owners [] (x ∷ a) b f g = absurd f
rows_one cone workers owners (s ∷ xs) [] b f g = absurd f
rows_one cone workers owners (s ∷ xs) (x ∷ a) [] f g = absurd g
rows_one cone workers owners (s ∷ xs) (x ∷ a) (y ∷ b) f g = ap₂ (λ m ms. m ∷ ms) (row_one cone workers owners s x y f.0 g.0) (rows_one cone workers owners xs a b f.1 g.1)

fullest_one : (cone : ℕ → ℕ → Type 0) (workers : ℕ) (owners : List ℕ) (n p q : ℕ) → IsFullest cone workers owners n p → IsFullest cone workers owners n q → p ≡ q
fullest_one cone workers owners n p q f g = equal p q
    (λ lt. let no_less = g.first p n lt f.full in omega (arith, no_less))
    (λ lt. let no_less = f.first q n lt g.full in omega (arith, no_less))

pub table_one : (cone : ℕ → ℕ → Type 0) (workers : ℕ) (owners : List ℕ) (n : ℕ) (a b : List Move) → IsTable cone workers owners n a → IsTable cone workers owners n b → a ≡ b
table_one cone workers owners n a b (of_one one e) (of_one un f) = e ∙ sym f
table_one cone workers owners n a b (of_one one e) (of_several several p full rows) = absurd (omega (arith, one, several))
table_one cone workers owners n a b (of_several several p full rows) (of_one one e) = absurd (omega (arith, one, several))
table_one cone workers owners n a b (of_several several p full rows) (of_several more q most lines) =
    rows_one cone workers owners (places_of owners p) a b rows
    (subst (λ r. AllZip (IsRow cone workers owners) (places_of owners r) b) (sym (fullest_one cone workers owners n p q full most)) lines)

pub part_there : (parts : List CutPart) (p : ℕ) → p < length parts → (part : CutPart) × (slice_get parts p ≡ Some part)
part_there parts p lt = ⊎_elim (λ here. (here.0, here.2)) (λ past. absurd (omega (arith, lt, past.0))) (slice_get_cases parts p).1

-- the same sinks, part by part
abbrev pub SameSinks : List CutPart → List CutPart → Type 0
SameSinks parts others = (p : ℕ) (part other : CutPart) → slice_get parts p ≡ Some part → slice_get others p ≡ Some other → part.sinks ≡ other.sinks

pub owners_one : (count : ℕ) (parts others : List CutPart) (a b : List ℕ) → length parts ≡ length others → SameSinks parts others → AreOwners count parts a → AreOwners count others b → a ≡ b
owners_one count parts others a b long same f g = ext_get_or 0 a b (f.long ∙ sym g.long) each
  where
    each : (k : ℕ) → k < length a → slice_index a k ≡ slice_index b k
    each k lt =
        let inside : k < count = omega (arith, lt, f.long) in
        let here = part_there parts (slice_index a k) (f.within k inside) in
        let there = part_there others (slice_index a k) (omega (arith, f.within k inside, long)) in
        let stands = place_to a (slice_index a k) k lt refl in
        let sinks_are = sym (f.each (slice_index a k) here.0 here.1) ∙ (same (slice_index a k) here.0 there.0 here.1 there.1 ∙ g.each (slice_index a k) there.0 there.1) in
        sym (place_from b (slice_index a k) k (subst (λ s. Contains s k) sinks_are stands)).1

same_parts : (a b : List CutPart) → length a ≡ length b → ((p : ℕ) (x y : CutPart) → slice_get a p ≡ Some x → slice_get b p ≡ Some y → x ≡ y) → a ≡ b
same_parts [] [] e h = refl
same_parts [] (y ∷ b) e h = absurd (omega (arith, e))
same_parts (x ∷ a) [] e h = absurd (omega (arith, e))
same_parts (x ∷ a) (y ∷ b) e h = ap₂ (λ p ps. p ∷ ps) (h 0 x y refl refl) (same_parts a b (omega (arith, e)) (λ p. h (suc p)))

-- A refined cut has each sink once, and each part what its sinks need.
pub refined_split : (ordered : Ordered) (watch : List ℕ) (start : Cut) (refined : Refined) → IsRefined ordered watch start refined → IsSplit ordered watch refined.cut.parts
refined_split ordered watch start refined h = record {
  once = owners_once (length (sinks ordered.net watch)) refined.cut.parts h.owners h.of_owners (part_there refined.cut.parts);
  unions = h.unions;
}

pub refined_one : (ordered : Ordered) (watch : List ℕ) (start : Cut) (a b : Refined) → IsRefined ordered watch start a → IsRefined ordered watch start b → a ≡ b
refined_one ordered watch start a b f g =
    ap (λ (parts : List CutPart). record { cut = record { parts = parts; needed = a.cut.needed }; greatest = a.greatest; table = a.table }) parts
    ∙ (ap (λ (n : ℕ). record { cut = record { parts = b.cut.parts; needed = n }; greatest = a.greatest; table = a.table }) (f.needed ∙ sym g.needed)
    ∙ (ap (λ (n : ℕ). record { cut = b.cut; greatest = n; table = a.table }) ends.1
    ∙ ap (λ (t : List Move). record { cut = b.cut; greatest = b.greatest; table = t }) tables))
  where
    firsts : f.first ≡ g.first
    firsts = owners_one (length (sinks ordered.net watch)) start.parts start.parts f.first g.first refl (λ p x y e h. ap (λ (q : CutPart). q.sinks) (same_item x y (sym e ∙ h))) f.firsts g.firsts
      where
        same_item : (x y : CutPart) → Some x ≡ Some y → x ≡ y
        same_item x y e = cc

    ends : (f.owners ≡ g.owners) × (a.greatest ≡ b.greatest)
    ends = refines_one (InConeOf ordered.net watch) (length start.parts) f.first f.owners g.owners a.greatest b.greatest f.refines
        (subst (λ o. Refines (InConeOf ordered.net watch) (length start.parts) o g.owners b.greatest) (sym firsts) g.refines)

    tables : a.table ≡ b.table
    tables = table_one (InConeOf ordered.net watch) (length start.parts) f.owners a.greatest a.table b.table f.table
        (subst (λ n. IsTable (InConeOf ordered.net watch) (length start.parts) f.owners n b.table) (sym ends.1)
        (subst (λ o. IsTable (InConeOf ordered.net watch) (length start.parts) o b.greatest b.table) (sym ends.0) g.table))

    part_same : (p : ℕ) (x y : CutPart) → slice_get a.cut.parts p ≡ Some x → slice_get b.cut.parts p ≡ Some y → x ≡ y
    part_same p x y e h =
        let sinks_same : x.sinks ≡ y.sinks = f.of_owners.each p x e ∙ (ap (λ o. places_of o p) ends.0 ∙ sym (g.of_owners.each p y h)) in
        ap₂ (λ (s t : List ℕ). record { sinks = s; assignments = t }) sinks_same
        (keeps_one (NeededBy (InConeOf ordered.net watch) x.sinks) ordered.sequence x.assignments y.assignments (f.unions p x e).in_order
        (subst (λ s. Keeps (NeededBy (InConeOf ordered.net watch) s) ordered.sequence y.assignments) (sym sinks_same) (g.unions p y h).in_order))

    parts : a.cut.parts ≡ b.cut.parts
    parts = same_parts a.cut.parts b.cut.parts (f.count ∙ sym g.count) part_same

-- No row has less than the greatest cost.
row_least : (cone : ℕ → ℕ → Type 0) (workers : ℕ) (first owners : List ℕ) (greatest : ℕ) (table : List Move) → Refines cone workers first owners greatest → IsTable cone workers owners greatest table
    → (i : ℕ) (row : Move) → slice_get table i ≡ Some row → greatest ≤ row.greatest
row_least cone workers first owners greatest table refines (of_one one none) i row e = absurd (omega (arith, slice_get_within table i row e, ap length none))
row_least cone workers first owners greatest table refines (of_several several p full rows) i row e =
    let at = zip_right (IsRow cone workers owners) (places_of owners p) table i row rows e in
    none_lowers cone workers first owners greatest refines row at.2.is_move

pub rows_least : (ordered : Ordered) (watch : List ℕ) (start : Cut) (refined : Refined) → IsRefined ordered watch start refined → (i : ℕ) (row : Move) → slice_get refined.table i ≡ Some row → refined.greatest ≤ row.greatest
rows_least ordered watch start refined h = row_least (InConeOf ordered.net watch) (length start.parts) h.first h.owners refined.greatest refined.table h.refines h.table
