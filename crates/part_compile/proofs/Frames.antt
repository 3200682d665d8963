-- Few slots are live at once.
use Rattle.std.proofs.Common.{◌≡◌, ℕ, zero, suc, ◌*◌, ◌<◌, ◌≤◌, true, List, [], ◌∷◌, ◌++◌, flat_map, filter, map, length, slice_index_or, Contains, inr, refl, sym, subst, ap, ◌∙◌, arith, ⊎_elim, append-nil}
use Rattle.std.proofs.lemmas.Bool.{false≢true}
use Rattle.std.proofs.lemmas.List.Elements.{Contains-append_left, Contains-append_right, Contains-push_cases}
use Rattle.ground_net.specs.declared.net.Net.{Net}
use Rattle.ground_net.specs.declared.net.CutPart.{CutPart}
use Rattle.ground_net.specs.Cones.{needs}
use Rattle.flat_code.specs.declared.code.Code.{Code}
use Rattle.flat_code.specs.Fine.{Known, among, nothing, slots_of, written}
use Rattle.code_place.specs.Live.{most_live, most_live_of}
use Rattle.cone_cutter.proofs.Lists.{none_in, filter_to}
use Rattle.part_compile.specs.SlotBounds.{sinks_read, assignment_nodes, sinks_nodes, most_nodes, frame_bound}
use Rattle.code_draft.specs.Segments.{Stretch}
use Rattle.code_draft.specs.Pieces.{Piece, Follow, instrs_of, StandsIn}
use Rattle.part_compile.specs.Pieces.{IsTelling, InPieces}
use Rattle.part_compile.proofs.Counts.{flat_two, among_locations, among_contained}
use Rattle.part_compile.proofs.Staying.{written_below, read_behind, live_le}
use Rattle.part_compile.proofs.Standing.{contains_first, contains_later, is_later, read_by, Rest, first_of_rest, later_rest, told_stands, stands}
use Rattle.part_compile.proofs.Greatest.{in_greatest, few_live}

map_at : (f : ℕ → ℕ) (xs : List ℕ) (x k : ℕ) → k < length xs → slice_index_or xs k x ≡ x → Contains (map f xs) (f x)
map_at f [] x k lt e = absurd (omega (arith, lt))
map_at f (y ∷ xs) x zero lt e = (0, omega arith, ap f e)
map_at f (y ∷ xs) x (suc k) lt e = contains_later (f y) (map f xs) (f x) (map_at f xs x k (omega (arith, lt)) e)

pub contains_map : (f : ℕ → ℕ) (xs : List ℕ) (x : ℕ) → Contains xs x → Contains (map f xs) (f x)
contains_map f xs x c = map_at f xs x c.0 c.1 c.2

module _ (net : Net) (watch : List ℕ) (part : CutPart) (code : Code) (locations : ℕ → List ℕ) (two : (x : ℕ) → length (locations x) ≤ 2) where
  -- live assignments, where some are done
  abbrev live_of : List ℕ → List ℕ → List ℕ
  live_of done rest = filter (among (read_by net watch part rest)) done

  live_slots : (done rest : List ℕ) (k : ℕ) → StandsIn locations done (read_by net watch part rest) k → among (flat_map locations (live_of done rest)) k ≡ true
  live_slots done rest k s = among_locations locations (live_of done rest) s.leaf k
      (filter_to (among (read_by net watch part rest)) done s.leaf s.before (among_contained (read_by net watch part rest) s.leaf s.wanted)) s.there

  -- One piece: its own slots, and those of live assignments, and then the rest

  piece_le : (p : Piece) (later : List Piece) (known : Known) (from most count : ℕ) (outer kept done rest : List ℕ) → Stretch p.first p.last outer kept most code.ports code.wides p.instrs
      → ((k : ℕ) → known k ≡ true → k < from) → ((k : ℕ) → p.first ≤ k → k < p.last → is_later code later k ≡ true → among kept k ≡ true)
      → ((k : ℕ) → k < from → is_later code (p ∷ later) k ≡ true → StandsIn locations done (read_by net watch part rest) k) → done ++ rest ≡ part.assignments → most ≤ 2 * count → count ≤ most_nodes net watch part
      → most_live code.slots (written known code.wides p.instrs) code.ports code.wides code.shown (instrs_of later) ≤ frame_bound net watch part
      → most_live code.slots known code.ports code.wides code.shown (instrs_of (p ∷ later)) ≤ frame_bound net watch part
  piece_le p later known from most count outer kept done rest it before keeps needs all few driver behind =
      let slots = flat_two locations two (live_of done rest) in
      let live = few_live net watch part done rest all in
      live_le code.ports code.wides code.slots most p.first p.last (flat_map locations (live_of done rest)) code.shown (instrs_of later) (frame_bound net watch part) p.instrs known nothing known
      (λ k e. inr e)
      (λ k e. absurd (false≢true e))
      it.writes
      (λ k b e. live_slots done rest k (needs k (before k b) (read_behind code.ports code.wides code.shown p.instrs (instrs_of later) k ∙ e)))
      (it.few (is_later code later) keeps)
      (omega (arith, slots, live, few, driver))
      behind

  -- what is written then
  written_then : (p : Piece) (known : Known) (from most : ℕ) (outer kept : List ℕ) → Stretch p.first p.last outer kept most code.ports code.wides p.instrs → from ≤ p.first → p.first ≤ p.last
      → ((k : ℕ) → known k ≡ true → k < from) → (k : ℕ) → written known code.wides p.instrs k ≡ true → k < p.last
  written_then p known from most outer kept it first last before k e =
      written_below code.wides p.first p.last p.instrs known it.writes (λ m d. let lt = before m d in omega (arith, lt, first, last)) k e

  abbrev driver_counts : List ℕ
  driver_counts = map (assignment_nodes net) part.assignments ++ sinks_nodes net watch part

  module _ (telling : List Piece) (told : (p : Piece) → Contains telling p → IsTelling net watch part code locations p)
      (shown : (k : ℕ) → among (slots_of code.shown) k ≡ true → StandsIn locations part.assignments (sinks_read net watch part) k) where
    -- Sinks, when all assignments have their code

    telling_le : (pieces : List Piece) (from : ℕ) (known : Known) → Follow from pieces → ((p : Piece) → Contains pieces p → Contains telling p)
        → ((x k : ℕ) → Contains part.assignments x → among (locations x) k ≡ true → k < from) → ((k : ℕ) → known k ≡ true → k < from)
        → most_live code.slots known code.ports code.wides code.shown (instrs_of pieces) ≤ frame_bound net watch part
    telling_le [] from known follow these locations_before before = omega arith
    telling_le (p ∷ later) from known follow these locations_before before =
        let it = told p (these p (contains_first p later)) in
        let first = follow.0 in
        let last = follow.1 in
        let these_later : (q : Piece) → Contains later q → Contains telling q = λ q c. these q (contains_later p later q c) in
        let driver = in_greatest driver_counts it.count
        (Contains-append_right (map (assignment_nodes net) part.assignments) (sinks_nodes net watch part) it.count it.counted)
        in
        piece_le p later known from it.piece.most it.count it.piece.outer [] part.assignments [] it.piece.stretch before
        (λ k own lt e.
        let s = told_stands net watch part code locations telling told shown later p.last k follow.2 these_later lt e in
        let under = locations_before s.leaf k s.before s.there in
        absurd (omega (arith, own, under, first)))
        (λ k lt e.
        let s = told_stands net watch part code locations telling told shown (p ∷ later) from k follow these lt e in
        record { leaf = s.leaf; before = s.before; wanted = Contains-append_left (sinks_read net watch part) [] s.leaf s.wanted; there = s.there })
        (append-nil part.assignments) it.piece.few driver
        (telling_le later p.last (written known code.wides p.instrs) follow.2 these_later
        (λ x k c e. let lt = locations_before x k c e in omega (arith, lt, first, last))
        (written_then p known from it.piece.most it.piece.outer [] it.piece.stretch first last before))

    -- Assignments, and then the sinks

    assigning_le : (rest : List ℕ) (pieces : List Piece) (done : List ℕ) (from : ℕ) (known : Known) → Rest net part code locations telling rest pieces done from
        → ((x k : ℕ) → Contains done x → among (locations x) k ≡ true → k < from) → ((k : ℕ) → known k ≡ true → k < from)
        → most_live code.slots known code.ports code.wides code.shown (instrs_of (pieces ++ telling)) ≤ frame_bound net watch part
    assigning_le [] [] done from known r locations_before before =
        telling_le telling from known r.follow (λ p c. c) (λ x k c e. locations_before x k (subst (λ xs. Contains xs x) (sym (sym (append-nil done) ∙ r.all)) c) e) before
    assigning_le [] (p ∷ pieces) done from known r locations_before before = let counted = r.counted in absurd (omega (arith, counted))
    assigning_le (x ∷ rest) [] done from known r locations_before before = let counted = r.counted in absurd (omega (arith, counted))
    assigning_le (x ∷ rest) (p ∷ pieces) done from known r locations_before before =
        let it = first_of_rest net part code locations telling x rest p pieces done from r in
        let further = later_rest net part code locations telling x rest p pieces done from r in
        let first = r.follow.0 in
        let last = r.follow.1 in
        let driver = in_greatest driver_counts (assignment_nodes net x)
        (Contains-append_left (map (assignment_nodes net) part.assignments) (sinks_nodes net watch part) (assignment_nodes net x)
        (contains_map (assignment_nodes net) part.assignments x (subst (λ xs. Contains xs x) r.all (Contains-append_right done (x ∷ rest) x (contains_first x rest)))))
        in
        piece_le p (pieces ++ telling) known from it.most (assignment_nodes net x) it.outer (locations x) done (x ∷ rest) it.stretch before
        (λ k own lt e.
        let s = stands net watch part code locations telling told shown rest pieces (done ++ x ∷ []) p.last k further lt e in
        ⊎_elim
        (λ c. let under = locations_before s.leaf k c s.there in absurd (omega (arith, own, under, first)))
        (λ same. ap (λ y. among (locations y) k) same ∙ s.there)
        (Contains-push_cases done x s.leaf s.before))
        (λ k lt e. stands net watch part code locations telling told shown (x ∷ rest) (p ∷ pieces) done from k r lt e)
        r.all it.few driver
        (assigning_le rest pieces (done ++ x ∷ []) p.last (written known code.wides p.instrs) further
        (λ y k c e. ⊎_elim
        (λ d. let lt = locations_before y k d e in omega (arith, lt, first, last))
        (λ same. ⊎_elim
        (λ own. own.1)
        (λ o. let s = it.outside k o in let lt = locations_before s.leaf k s.before s.there in omega (arith, lt, first, last))
        (it.there k (ap (λ z. among (locations z) k) same ∙ e)))
        (Contains-push_cases done x y c))
        (written_then p known from it.most it.outer (locations x) it.stretch first last before))

pub few_live_slots : (net : Net) (watch : List ℕ) (part : CutPart) (code : Code) → InPieces net watch part code → most_live_of code ≤ frame_bound net watch part
few_live_slots net watch part code it =
    subst (λ is. most_live code.slots nothing code.ports code.wides code.shown is ≤ frame_bound net watch part) (sym it.is)
    (assigning_le net watch part code it.locations it.two it.telling it.told it.shown part.assignments it.assigning [] 0 nothing
    (record { follow = it.follow; counted = it.counted; each = it.assigned; all = refl })
    (λ x k c e. absurd (none_in x c))
    (λ k e. absurd (false≢true e)))
