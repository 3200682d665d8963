-- The code of a part in pieces.
use Rattle.std.proofs.Common.{◌≡◌, ℕ, suc, ◌<◌, ◌≤◌, true, List, [], ◌∷◌, length, slice_get, slice_index, Option, Some, None, option_and_then, Contains, refl, sym, subst, ap, ◌∙◌, arith, ⊎_elim, length-set}
use Rattle.std.proofs.lemmas.Bool.{cases_eq}
use Rattle.ground_net.specs.declared.ground.Ground.{Ground}
use Rattle.ground_net.specs.declared.net.Net.{Net}
use Rattle.ground_net.specs.declared.net.Leaf.{Leaf}
use Rattle.ground_net.specs.declared.net.CutPart.{CutPart}
use Rattle.ground_net.specs.declared.net.Role.{Role}
use Rattle.ground_net.specs.declared.net.Role.TheVariants as role
use Rattle.ground_net.specs.Grounds.{mentions}
use Rattle.ground_net.specs.Cones.{A_watched, sinks, mentioned_by, needed}
use Rattle.ground_net.specs.Reads.{IsAssigned, driver_of, lone_driver, direct_reads}
use Rattle.ground_net.specs.Nets.{IsNet}
use Rattle.ground_net.proofs.Settling.{reads_mentions}
use Rattle.flat_code.specs.declared.code.Code.{Code}
use Rattle.flat_code.specs.declared.instr.Location.{Location}
use Rattle.flat_code.specs.Fine.{among, slots_of}
use Rattle.code_draft.specs.declared.draft.Draft.{Draft}
use Rattle.code_draft.proofs.Segmenting.{none_among}
use Rattle.code_draft.proofs.Stepping.{location_few}
use Rattle.code_draft.specs.declared.sources.Source.{Source}
use Rattle.code_draft.specs.declared.sources.Source.TheVariants as source
use Rattle.code_draft.specs.declared.sources.Sources.{Sources}
use Rattle.code_emit.specs.Emits.{leaf_source}
use Rattle.code_emit.specs.Counts.{tips}
use Rattle.code_emit.specs.Spans.{leaf_slots, found_slots, AreFoundBefore}
use Rattle.code_emit.proofs.Counting.{tips_few}
use Rattle.partition_code.specs.Sequences.{driver_in}
use Rattle.partition_code.specs.Segmented.{with_frame, InSegments, AreSegments}
use Rattle.partition_code.proofs.Turns.{set_source, other_source}
use Rattle.partition_code.proofs.Segmenting.{found_by}
use Rattle.code_draft.specs.Pieces.{AssignsPieces}
use Rattle.partition_code.specs.FromNets.{AreOf}
use Rattle.part_compile.specs.Complete.{AreAllOf}
use Rattle.cone_cutter.specs.Splits.{IsUnion}
use Rattle.cone_cutter.proofs.Assembly.{assigned_within}
use Rattle.cone_cutter.proofs.Lists.{none_in, cons_cases, stood}
use Rattle.part_compile.specs.SlotBounds.{assignment_nodes, nodes_of}
use Rattle.part_compile.specs.Pieces.{Once, InPieces}
use Rattle.part_compile.proofs.Standing.{contains_first, contains_later}
use Rattle.part_compile.proofs.Fitting.{item_there}
use Rattle.part_compile.proofs.Turning.{turns_pieces}
use Rattle.part_compile.proofs.Building.{in_pieces}
use Rattle.part_compile.specs.declared.work.Made.{Made}
use Rattle.part_compile.specs.Frames.{WatchesAssignments}
use Rattle.part_compile.specs.Telling.{AreFound, TellsInPieces}
use Rattle.part_compile.proofs.Composing.{are_assignments}
use Rattle.part_compile.proofs.Filtered.{from_filter}

some_same : {A : Type 0} {x y : A} → Some x ≡ Some y → x ≡ y
some_same e = cc

-- Lists

-- each stands once, by numbers
once_of : (xs : List ℕ) → ((j k : ℕ) → j < k → k < length xs → slice_index xs j ≡ slice_index xs k → ⊥) → Once xs
once_of [] h = tt
once_of (x ∷ xs) h = (
  (λ c. let at = stood xs x c in h 0 (suc at.0) (omega arith) (omega (arith, at.1)) (sym at.2)),
  once_of xs (λ j k lt below e. h (suc j) (suc k) (omega (arith, lt)) (omega (arith, below)) e),
)

-- Sources

source_two : (src : Option Source) → length (found_slots src) ≤ 2
source_two (Some (source.Word k)) = omega arith
source_two (Some (source.Input k)) = omega arith
source_two (Some (source.Frame s)) = location_few s
source_two (Some (source.Constant c)) = omega arith
source_two None = omega arith

-- no source of a net is in a frame
none_framed : (net : Net) (S : Sources) → AreOf net S → (y k : ℕ) (src : Option Source) → leaf_source S y ≡ src → among (found_slots src) k ≡ true → ⊥
none_framed net S of y k (Some (source.Word n)) e a = none_among k a
none_framed net S of y k (Some (source.Input n)) e a = none_among k a
none_framed net S of y k (Some (source.Frame s)) e a = (of.leaves y (source.Frame s) e).is
none_framed net S of y k (Some (source.Constant c)) e a = none_among k a
none_framed net S of y k None e a = none_among k a

within_further : (S : Sources) (x : ℕ) (xs : List ℕ) (s : Location) → ((z : ℕ) → Contains (x ∷ xs) z → z < length S.leaves) → (z : ℕ) → Contains xs z → z < length (with_frame S x s).leaves
within_further S x xs s within z c =
    let long = length-set S.leaves x (Some (source.Frame s)) in
    let below = within z (contains_later x xs z c) in
    omega (arith, long, below)

-- a leaf that is found in the frame is so behind more assignments
frame_stays : (drivers : List (Option Ground)) (xs : List ℕ) (S T : Sources) (a b : Draft) → InSegments drivers xs S a T b → ((z : ℕ) → Contains xs z → z < length S.leaves) → (y : ℕ)
    → (t : Location) × (leaf_source S y ≡ Some (source.Frame t)) → (t : Location) × (leaf_source T y ≡ Some (source.Frame t))
frame_stays drivers [] S T a b h within y f = (f.0, ap (λ V. leaf_source V y) h.0 ∙ f.1)
frame_stays drivers (x ∷ xs) S T a b h within y f =
    let now : (t : Location) × (leaf_source (with_frame S x h.1) y ≡ Some (source.Frame t)) = ⊎_elim
    (λ q. (h.1, ap (leaf_source (with_frame S x h.1)) q ∙ set_source S x h.1 (within x (contains_first x xs))))
    (λ ne. (f.0, other_source S x y h.1 ne ∙ f.1))
    (cases_eq y x)
    in
    frame_stays drivers xs (with_frame S x h.1) T h.2 b h.5 (within_further S x xs h.1 within) y now

-- and so is each that was assigned
framed : (drivers : List (Option Ground)) (xs : List ℕ) (S T : Sources) (a b : Draft) → InSegments drivers xs S a T b → ((z : ℕ) → Contains xs z → z < length S.leaves) → (y : ℕ) → Contains xs y
    → (t : Location) × (leaf_source T y ≡ Some (source.Frame t))
framed drivers [] S T a b h within y c = absurd (none_in y c)
framed drivers (x ∷ xs) S T a b h within y c = ⊎_elim
    (λ q. frame_stays drivers xs (with_frame S x h.1) T h.2 b h.5 (within_further S x xs h.1 within) y
    (h.1, ap (leaf_source (with_frame S x h.1)) (sym q) ∙ set_source S x h.1 (within x (contains_first x xs))))
    (λ d. framed drivers xs (with_frame S x h.1) T h.2 b h.5 (within_further S x xs h.1 within) y d)
    (cons_cases x xs y c)

-- Drivers

lone : (o : Option (Option Ground)) (g : Ground) → option_and_then (λ d. d) o ≡ Some g → lone_driver o ≡ Some g
lone (Some d) g e = e
lone None g e = e

driver_known : (net : Net) (x : ℕ) (g : Ground) → driver_in net.drivers x ≡ Some g → ((y : ℕ) → Contains (mentions g) y → Contains (mentioned_by (driver_of net x)) y) × (tips g ≤ assignment_nodes net x)
driver_known net x g e =
    let d : driver_of net x ≡ Some g = lone (slice_get net.drivers x) g e in
    ((λ y c. subst (λ o. Contains (mentioned_by o) y) (sym d) c), subst (λ o. tips g ≤ nodes_of o) (sym d) (tips_few g))

-- pieces may read more
reads_more : (locations reads more : ℕ → List ℕ) (counts : ℕ → ℕ) (leaves : List ℕ) (a b : Draft) → ((x y : ℕ) → Contains leaves x → Contains (reads x) y → Contains (more x) y)
    → AssignsPieces locations reads counts leaves a b → AssignsPieces locations more counts leaves a b
reads_more locations reads more counts leaves a b f it = record {
  pieces = it.pieces;
  goes = it.goes;
  counted = it.counted;
  each = λ ports wides on k x p at there.
      let p = it.each ports wides on k x p at there in
      record {
        outer = p.outer;
        outside = λ j o. let s = p.outside j o in record { leaf = s.leaf; before = s.before; wanted = f x s.leaf (item_there leaves k x at) s.wanted; there = s.there };
        there = p.there;
        most = p.most;
        few = p.few;
        stretch = p.stretch;
      };
}

register_assigned : (r : Role) (n : ℕ) → r ≡ role.Register n → r ≡ role.Assigned → ⊥
register_assigned r n e f = cc

module _ (net : Net) (w : IsNet net) (watch : List ℕ) (part : CutPart) (sequence : List ℕ) (union : IsUnion net watch sequence part) (first later : Sources) (all : AreAllOf net first) (start assigned : Draft) where
  are : (x : ℕ) → Contains part.assignments x → IsAssigned net.leaves x
  are = are_assignments net w watch part sequence union

  none_before : (y k : ℕ) → among (leaf_slots first y) k ≡ true → ⊥
  none_before y k e = none_framed net first all.of y k (leaf_source first y) refl e

  within : (x : ℕ) → Contains part.assignments x → x < length first.leaves
  within x c = let below = assigned_within net.leaves x (are x c) in let long = all.counted in omega (arith, below, long)

  pub segments_there : AreSegments net.drivers part.assignments first start later assigned → InSegments net.drivers part.assignments first start later assigned × AreFoundBefore later assigned.slots
  segments_there h = h (λ y k e. absurd (none_before y k e))

  read_there : (x y : ℕ) → Contains part.assignments x → Contains (mentioned_by (driver_of net x)) y → Contains (direct_reads net x) y
  read_there x y c m =
      let a = are x c in
      let d = w.assigned x a in
      subst (λ l. Contains l y) (sym (reads_mentions net x a.leaf d.0 a.there a.is d.1)) (subst (λ o. Contains (mentioned_by o) y) d.1 m)

  assigns : InSegments net.drivers part.assignments first start later assigned → AssignsPieces (leaf_slots later) (direct_reads net) (assignment_nodes net) part.assignments start assigned
  assigns h = reads_more (leaf_slots later) (λ x. mentioned_by (driver_of net x)) (direct_reads net) (assignment_nodes net) part.assignments start assigned read_there
      (turns_pieces net.drivers (λ x. mentioned_by (driver_of net x)) (assignment_nodes net) part.assignments first later start assigned (driver_known net) h none_before (once_of part.assignments union.exactly.once) within)

  are_found : InSegments net.drivers part.assignments first start later assigned → AreFoundBefore later assigned.slots → WatchesAssignments net watch part → AreFound net watch part later assigned.slots
  are_found h before watches =
      let assigned_there : (y k : ℕ) → among (leaf_slots later y) k ≡ true → Contains part.assignments y = λ y k e.
      ⊎_elim (λ old. absurd (none_before y k old)) (λ c. c) (found_by net.drivers part.assignments first later start assigned h y k e)
      in
      record {
        before = before;
        assigned = assigned_there;
        registers = λ n k register there e.
            let a = are register.leaf (assigned_there register.leaf k e) in
            let r = w.register_leaves n register there in
            register_assigned r.leaf.role n r.is (ap (λ (l : Leaf). l.role) (some_same (sym r.there ∙ a.there)) ∙ a.is);
        watched = λ x c.
            let k = from_filter (slice_get (sinks net watch)) part.sinks (A_watched x) c in
            framed net.drivers part.assignments first later start assigned h within x
            (union.exactly.all x (record { sink = k.0; there = k.1; inside = record { sink = A_watched x; there = k.2; inside = needed (contains_first x []) (watches x c) } }));
      }

  pub code_in_pieces : (made : Made) (code : Code) → start.instrs ≡ [] → start.slots ≡ 0 → AreSegments net.drivers part.assignments first start later assigned → TellsInPieces net watch part later assigned made
      → code.instrs ≡ made.draft.instrs → code.ports ≡ made.draft.ports → code.wides ≡ made.draft.wides → code.slots ≡ made.draft.slots → code.shown ≡ made.shown → WatchesAssignments net watch part → InPieces net watch part code
  code_in_pieces made code none zero_slots segments tells instrs ports wides slots shown watches =
      let s = segments_there segments in
      let told = tells (are_found s.0 s.1 watches) in
      in_pieces net watch part code (leaf_slots later) start assigned made.draft (λ x. source_two (leaf_source later x)) none zero_slots (assigns s.0) told.adds instrs ports wides slots
      (λ k e. told.shown k (ap (λ ss. among (slots_of ss) k) (sym shown) ∙ e))
