use Rattle.std.proofs.Common.{◌≡◌, ℕ, ◌+◌, ◌-◌, ◌<◌, length, slice_get, slice_index, Some, slice_set, take, sym, subst, ap, ◌∙◌, arith}
use Rattle.std.proofs.lemmas.List.{get_or_read}
use Rattle.std.proofs.lemmas.List.Sums.{sum_by-set}
use Rattle.comb_order.specs.Graph.{Reads, OnLoop}
use Rattle.comb_order.specs.Search.{Searching}
use Rattle.comb_order.proofs.Steps.{opened, passed, closed, looped, row_there, bound, lower_set, small_set, mark_there, open_mark, last_read}
use Rattle.comb_order.proofs.searching.search.Goals as goal

pub going-smaller-then-count-eq0 : goal.going-smaller-then-count-eq0
going-smaller-then-count-eq0 c =
    let g = c.args.reads.now in
    let h = c.going.invariant.searching in
    let v = c.index-vertex.result.now in
    let last : c.len-at.result - 1 + 1 ≡ length c.going.path.items = omega (arith, c.going.path.ok.0, c.len-at.ensures, c.len.ensures, c.going-test.true) in
    let is : c.index-vertex.result.now ≡ slice_index c.going.path.items (c.len-at.result - 1) = get_or_read c.going.path.items _ _ (omega arith) c.index-vertex.ensures 0 in
    let inside : c.index-vertex.result.now < length c.args.reads.now = mark_there g c.going.marks c.going.left c.going.path.items c.going.sequence.items _ v h last is in
    let was : slice_index c.going.marks c.index-vertex.result.now ≡ 1 = open_mark g c.going.marks c.going.left c.going.path.items c.going.sequence.items _ v h last is in
    let marks : c.index-vertex.result.now < length c.going.marks = omega (arith, h.marks_long, inside) in
    omega (arith, sum_by-set (λ x. x) c.going.marks v 0 0 marks, was)

pub going-preserved-then-count-eq0 : goal.going-preserved-then-count-eq0
going-preserved-then-count-eq0 c =
    let g = c.args.reads.now in
    let h = c.going.invariant.searching in
    let v = c.index-vertex.result.now in
    let last : c.len-at.result - 1 + 1 ≡ length c.going.path.items = omega (arith, c.going.path.ok.0, c.len-at.ensures, c.len.ensures, c.going-test.true) in
    let is : c.index-vertex.result.now ≡ slice_index c.going.path.items (c.len-at.result - 1) = get_or_read c.going.path.items _ _ (omega arith) c.index-vertex.ensures 0 in
    let inside : c.index-vertex.result.now < length c.args.reads.now = mark_there g c.going.marks c.going.left c.going.path.items c.going.sequence.items _ v h last is in
    let was : slice_index c.going.marks c.index-vertex.result.now ≡ 1 = open_mark g c.going.marks c.going.left c.going.path.items c.going.sequence.items _ v h last is in
    let marks : c.index-vertex.result.now < length c.going.marks = omega (arith, h.marks_long, inside) in
    let none : slice_index c.going.left c.index-vertex.result.now ≡ 0 = omega (arith, c.if-count-eq0.true) in
    record {
      searching = subst (λ p. Searching g (slice_set c.going.marks v 0) c.going.left p c.put-then-count-eq0.new.vertices.items) (sym c.truncate.ensures.items)
          (subst (λ q. Searching g (slice_set c.going.marks v 0) c.going.left (take (c.len-at.result - 1) c.going.path.items) q) (sym c.in_ok-put-2.ensures) (closed g c.going.marks c.going.left c.going.path.items c.going.sequence.items _ v h last is none));
      lower = lower_set c.args.marks.now c.going.marks v 0 c.going.invariant.lower marks (omega arith);
      root = small_set c.going.marks v 0 c.args.root marks (omega arith) c.going.invariant.root;
    }

pub index-next-requires : goal.index-next-requires
index-next-requires c =
    let g = c.args.reads.now in
    let h = c.going.invariant.searching in
    let v = c.index-vertex.result.now in
    let last : c.len-at.result - 1 + 1 ≡ length c.going.path.items = omega (arith, c.going.path.ok.0, c.len-at.ensures, c.len.ensures, c.going-test.true) in
    let is : c.index-vertex.result.now ≡ slice_index c.going.path.items (c.len-at.result - 1) = get_or_read c.going.path.items _ _ (omega arith) c.index-vertex.ensures 0 in
    let inside : c.index-vertex.result.now < length c.args.reads.now = mark_there g c.going.marks c.going.left c.going.path.items c.going.sequence.items _ v h last is in
    let was : slice_index c.going.marks c.index-vertex.result.now ≡ 1 = open_mark g c.going.marks c.going.left c.going.path.items c.going.sequence.items _ v h last is in
    let marks : c.index-vertex.result.now < length c.going.marks = omega (arith, h.marks_long, inside) in
    let row = c.index-reads-vertex.result in
    let there : slice_get c.args.reads.now c.index-vertex.result.now ≡ Some c.index-reads-vertex.result = row_there g v row inside c.index-reads-vertex.is in
    let few = h.left_few v row there in
    let n : ℕ = slice_index c.going.left c.index-vertex.result.now - 1 in
    let count : slice_index c.going.left c.index-vertex.result.now - 1 + 1 ≡ slice_index c.going.left c.index-vertex.result.now = omega (arith, c.if-count-eq0.false) in
    let room : slice_index c.going.left c.index-vertex.result.now - 1 < length c.index-reads-vertex.result.items = omega (arith, few, count) in
    omega (arith, row.ok.0, room)

pub bounds-marks-next : goal.bounds-marks-next
bounds-marks-next c =
    let g = c.args.reads.now in
    let h = c.going.invariant.searching in
    let v = c.index-vertex.result.now in
    let last : c.len-at.result - 1 + 1 ≡ length c.going.path.items = omega (arith, c.going.path.ok.0, c.len-at.ensures, c.len.ensures, c.going-test.true) in
    let is : c.index-vertex.result.now ≡ slice_index c.going.path.items (c.len-at.result - 1) = get_or_read c.going.path.items _ _ (omega arith) c.index-vertex.ensures 0 in
    let inside : c.index-vertex.result.now < length c.args.reads.now = mark_there g c.going.marks c.going.left c.going.path.items c.going.sequence.items _ v h last is in
    let was : slice_index c.going.marks c.index-vertex.result.now ≡ 1 = open_mark g c.going.marks c.going.left c.going.path.items c.going.sequence.items _ v h last is in
    let marks : c.index-vertex.result.now < length c.going.marks = omega (arith, h.marks_long, inside) in
    let row = c.index-reads-vertex.result in
    let there : slice_get c.args.reads.now c.index-vertex.result.now ≡ Some c.index-reads-vertex.result = row_there g v row inside c.index-reads-vertex.is in
    let few = h.left_few v row there in
    let n : ℕ = slice_index c.going.left c.index-vertex.result.now - 1 in
    let count : slice_index c.going.left c.index-vertex.result.now - 1 + 1 ≡ slice_index c.going.left c.index-vertex.result.now = omega (arith, c.if-count-eq0.false) in
    let room : slice_index c.going.left c.index-vertex.result.now - 1 < length c.index-reads-vertex.result.items = omega (arith, few, count) in
    let next : c.index-next.result.now ≡ slice_index c.index-reads-vertex.result.items (slice_index c.going.left c.index-vertex.result.now - 1) = get_or_read row.items _ _ room c.index-next.ensures 0 in
    let below : c.index-next.result.now < length c.args.reads.now = subst (λ x. x < length c.args.reads.now) (sym next) (bound g v _ row c.requires.vertices inside c.index-reads-vertex.is room) in
    let read : Reads c.args.reads.now c.index-vertex.result.now c.index-next.result.now = record { row = row; there = there; at = _; inside = room; is = sym next } in
    omega (arith, h.marks_long, below)

pub going-preserved-in-0 : goal.going-preserved-in-0
going-preserved-in-0 c =
    let g = c.args.reads.now in
    let h = c.going.invariant.searching in
    let v = c.index-vertex.result.now in
    let last : c.len-at.result - 1 + 1 ≡ length c.going.path.items = omega (arith, c.going.path.ok.0, c.len-at.ensures, c.len.ensures, c.going-test.true) in
    let is : c.index-vertex.result.now ≡ slice_index c.going.path.items (c.len-at.result - 1) = get_or_read c.going.path.items _ _ (omega arith) c.index-vertex.ensures 0 in
    let inside : c.index-vertex.result.now < length c.args.reads.now = mark_there g c.going.marks c.going.left c.going.path.items c.going.sequence.items _ v h last is in
    let was : slice_index c.going.marks c.index-vertex.result.now ≡ 1 = open_mark g c.going.marks c.going.left c.going.path.items c.going.sequence.items _ v h last is in
    let marks : c.index-vertex.result.now < length c.going.marks = omega (arith, h.marks_long, inside) in
    let row = c.index-reads-vertex.result in
    let there : slice_get c.args.reads.now c.index-vertex.result.now ≡ Some c.index-reads-vertex.result = row_there g v row inside c.index-reads-vertex.is in
    let few = h.left_few v row there in
    let n : ℕ = slice_index c.going.left c.index-vertex.result.now - 1 in
    let count : slice_index c.going.left c.index-vertex.result.now - 1 + 1 ≡ slice_index c.going.left c.index-vertex.result.now = omega (arith, c.if-count-eq0.false) in
    let room : slice_index c.going.left c.index-vertex.result.now - 1 < length c.index-reads-vertex.result.items = omega (arith, few, count) in
    let next : c.index-next.result.now ≡ slice_index c.index-reads-vertex.result.items (slice_index c.going.left c.index-vertex.result.now - 1) = get_or_read row.items _ _ room c.index-next.ensures 0 in
    let below : c.index-next.result.now < length c.args.reads.now = subst (λ x. x < length c.args.reads.now) (sym next) (bound g v _ row c.requires.vertices inside c.index-reads-vertex.is room) in
    let read : Reads c.args.reads.now c.index-vertex.result.now c.index-next.result.now = record { row = row; there = there; at = _; inside = room; is = sym next } in
    let done : slice_index c.going.marks (slice_index row.items (slice_index c.going.left c.index-vertex.result.now - 1)) ≡ 0 = ap (λ x. slice_index c.going.marks x) (sym next) ∙ c.in-0.is in
    record {
      searching = passed g c.going.marks c.going.left c.going.path.items c.going.sequence.items v _ row h there inside count (bound g v _ row c.requires.vertices inside c.index-reads-vertex.is room) done;
      lower = c.going.invariant.lower;
      root = c.going.invariant.root;
    }

pub going-preserved : goal.going-preserved
going-preserved c =
    let g = c.args.reads.now in
    let h = c.going.invariant.searching in
    let v = c.index-vertex.result.now in
    let last : c.len-at.result - 1 + 1 ≡ length c.going.path.items = omega (arith, c.going.path.ok.0, c.len-at.ensures, c.len.ensures, c.going-test.true) in
    let is : c.index-vertex.result.now ≡ slice_index c.going.path.items (c.len-at.result - 1) = get_or_read c.going.path.items _ _ (omega arith) c.index-vertex.ensures 0 in
    let inside : c.index-vertex.result.now < length c.args.reads.now = mark_there g c.going.marks c.going.left c.going.path.items c.going.sequence.items _ v h last is in
    let was : slice_index c.going.marks c.index-vertex.result.now ≡ 1 = open_mark g c.going.marks c.going.left c.going.path.items c.going.sequence.items _ v h last is in
    let marks : c.index-vertex.result.now < length c.going.marks = omega (arith, h.marks_long, inside) in
    let row = c.index-reads-vertex.result in
    let there : slice_get c.args.reads.now c.index-vertex.result.now ≡ Some c.index-reads-vertex.result = row_there g v row inside c.index-reads-vertex.is in
    let few = h.left_few v row there in
    let n : ℕ = slice_index c.going.left c.index-vertex.result.now - 1 in
    let count : slice_index c.going.left c.index-vertex.result.now - 1 + 1 ≡ slice_index c.going.left c.index-vertex.result.now = omega (arith, c.if-count-eq0.false) in
    let room : slice_index c.going.left c.index-vertex.result.now - 1 < length c.index-reads-vertex.result.items = omega (arith, few, count) in
    let next : c.index-next.result.now ≡ slice_index c.index-reads-vertex.result.items (slice_index c.going.left c.index-vertex.result.now - 1) = get_or_read row.items _ _ room c.index-next.ensures 0 in
    let below : c.index-next.result.now < length c.args.reads.now = subst (λ x. x < length c.args.reads.now) (sym next) (bound g v _ row c.requires.vertices inside c.index-reads-vertex.is room) in
    let read : Reads c.args.reads.now c.index-vertex.result.now c.index-next.result.now = record { row = row; there = there; at = _; inside = room; is = sym next } in
    let mark : slice_index c.going.marks c.index-next.result.now ≡ 2 = c.in-2.is in
    let w = c.index-next.result.now in
    let more : c.index-next.result.now < length c.going.marks = omega (arith, h.marks_long, below) in
    record {
      searching = subst (λ p. Searching g (slice_set c.going.marks w 1) c.going.left p c.going.sequence.items) (sym c.in_ok-put-in-2.ensures)
          (opened g c.going.marks c.going.left c.going.path.items c.going.sequence.items w h below mark (last_read g c.going.path.items _ v w last is read));
      lower = lower_set c.args.marks.now c.going.marks w 1 c.going.invariant.lower more (omega arith);
      root = small_set c.going.marks w 1 c.args.root more (omega arith) c.going.invariant.root;
    }

pub returns-in_default-clause-looped : goal.returns-in_default-clause-looped
returns-in_default-clause-looped c = λ x e.
    let g = c.args.reads.now in
    let h = c.going.invariant.searching in
    let v = c.index-vertex.result.now in
    let last : c.len-at.result - 1 + 1 ≡ length c.going.path.items = omega (arith, c.going.path.ok.0, c.len-at.ensures, c.len.ensures, c.going-test.true) in
    let is : c.index-vertex.result.now ≡ slice_index c.going.path.items (c.len-at.result - 1) = get_or_read c.going.path.items _ _ (omega arith) c.index-vertex.ensures 0 in
    let inside : c.index-vertex.result.now < length c.args.reads.now = mark_there g c.going.marks c.going.left c.going.path.items c.going.sequence.items _ v h last is in
    let was : slice_index c.going.marks c.index-vertex.result.now ≡ 1 = open_mark g c.going.marks c.going.left c.going.path.items c.going.sequence.items _ v h last is in
    let marks : c.index-vertex.result.now < length c.going.marks = omega (arith, h.marks_long, inside) in
    let row = c.index-reads-vertex.result in
    let there : slice_get c.args.reads.now c.index-vertex.result.now ≡ Some c.index-reads-vertex.result = row_there g v row inside c.index-reads-vertex.is in
    let few = h.left_few v row there in
    let n : ℕ = slice_index c.going.left c.index-vertex.result.now - 1 in
    let count : slice_index c.going.left c.index-vertex.result.now - 1 + 1 ≡ slice_index c.going.left c.index-vertex.result.now = omega (arith, c.if-count-eq0.false) in
    let room : slice_index c.going.left c.index-vertex.result.now - 1 < length c.index-reads-vertex.result.items = omega (arith, few, count) in
    let next : c.index-next.result.now ≡ slice_index c.index-reads-vertex.result.items (slice_index c.going.left c.index-vertex.result.now - 1) = get_or_read row.items _ _ room c.index-next.ensures 0 in
    let below : c.index-next.result.now < length c.args.reads.now = subst (λ x. x < length c.args.reads.now) (sym next) (bound g v _ row c.requires.vertices inside c.index-reads-vertex.is room) in
    let read : Reads c.args.reads.now c.index-vertex.result.now c.index-next.result.now = record { row = row; there = there; at = _; inside = room; is = sym next } in
    let mark : slice_index c.going.marks c.index-next.result.now ≡ 1 = let most = h.small c.index-next.result.now in omega arith in
    let same : c.index-next.result.now ≡ x = cc in
    subst (OnLoop g) same (looped g c.going.marks c.going.left c.going.path.items c.going.sequence.items _ v c.index-next.result.now h last is read below mark)
