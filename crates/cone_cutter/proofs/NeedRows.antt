-- The rows of sinks, and the rows of a net.
use Rattle.std.proofs.Common.{◌≡◌, ℕ, ◌+◌, ◌<◌, ◌≤◌, List, [], ◌∷◌, ◌++◌, map, length, take, slice_get, Some, refl, sym, subst, ap, ap₂, ◌∙◌, arith, get_or, ⊎_elim}
use Rattle.std.specs.List.{All, Contains, range_with_len}
use Rattle.std.proofs.lemmas.List.{get_or_default, map-append, map_more, same_lists}
use Rattle.std.proofs.lemmas.Option.{slice_get_within, get_or_from_slice_get}
use Rattle.std.proofs.lemmas.List.Elements.{All-head, All-tail, All-push, All-weaker, All-contains, Contains-get_or}
use Rattle.std.proofs.lemmas.List.FromFn.{length-map-range_with_len, get_or-map-range_with_len}
use Rattle.ground_net.specs.declared.net.Net.{Net}
use Rattle.ground_net.specs.Cones.{Sink, needs}
use Rattle.ground_net.specs.Reads.{direct_reads}
use Rattle.comb_order.specs.declared.spread.Spread.{Spread}
use Rattle.comb_order.specs.Spreads.{IsSpread}
use Rattle.comb_order.specs.Spreading.{IsBegun, Grows, Tells}
use Rattle.comb_order.proofs.Telling.{told_same}
use Rattle.comb_order.proofs.Making.{grows_both, grows_same}
use Rattle.cone_cutter.specs.declared.rows.NetRows.{NetRows}
use Rattle.cone_cutter.specs.declared.sinks.SinkAt.{SinkAt}
use Rattle.cone_cutter.specs.Rows.{sink_of, AreBelow, assignments_of, read_rows, need_rows, row_at, told, reads_in, needs_in, AreNetRows, TellsNeeds}

rows_same : (n : ℕ) (old new : List (List ℕ)) (rows : List (List ℕ)) → AreBelow (length old) rows → ((y : ℕ) → y < length old → row_at new y ≡ row_at old y) → map (told n new) rows ≡ map (told n old) rows
rows_same n old new [] below same = refl
rows_same n old new (row ∷ rows) below same = ap₂ (λ s t. s ∷ t)
    (told_same n old new row (λ y c le. same y (All-contains (λ x. x < length old) row y (All-head (All (λ x. x < length old)) row rows below) c)))
    (rows_same n old new rows (All-tail (All (λ x. x < length old)) row rows below) same)

below_more : (n m : ℕ) (rows : List (List ℕ)) → n ≤ m → AreBelow n rows → AreBelow m rows
below_more n m rows le h = All-weaker (All (λ x. x < n)) (All (λ x. x < m)) (λ row f. All-weaker (λ x. x < n) (λ x. x < m) (λ x lt. omega (arith, lt, le)) row f) rows h

pub needs_none : (net : Net) (spread : Spread) (rows : List (List ℕ)) → IsBegun net.leaves spread → rows ≡ [] → TellsNeeds net [] spread spread rows
needs_none net spread rows begun e = record {
  begun = begun;
  grows = grows_same spread.rows.items;
  inside = λ k d lt. absurd (omega (arith, lt, ap length e));
  tells = ap (map (told (length net.leaves) spread.rows.items)) e;
}

pub needs_more : (net : Net) (sinks : List Sink) (sink : Sink) (first old new : Spread) (rows : List (List ℕ)) (row : List ℕ) → TellsNeeds net sinks first old rows → Tells net.leaves (needs net sink) old [] new row
    → TellsNeeds net (sinks ++ sink ∷ []) first new (rows ++ row ∷ [])
needs_more net sinks sink first old new rows row h t = record {
  begun = t.begun;
  grows = grows_both first.rows.items old.rows.items new.rows.items h.grows t.grows;
  inside = All-push (All (λ x. x < length new.rows.items)) rows row (below_more (length old.rows.items) (length new.rows.items) rows t.grows.longer h.inside)
      (λ k d lt. t.row.inside (get_or row k d) (subst (λ s. Contains s (get_or row k d)) t.row.added (Contains-get_or row k d lt)));
  tells = map-append (told (length net.leaves) new.rows.items) rows (row ∷ [])
      ∙ (ap₂ (λ s u. s ++ u ∷ []) (rows_same (length net.leaves) old.rows.items new.rows.items rows h.inside t.grows.same ∙ h.tells)
      (ap (told (length net.leaves) new.rows.items) t.row.added ∙ t.row.tells)
      ∙ sym (map-append (λ s. assignments_of net (needs net s)) sinks (sink ∷ [])));
}

pub needs_step : (net : Net) (sinks : List SinkAt) (i : ℕ) (x : SinkAt) (first old new : Spread) (rows now : List (List ℕ)) (row before : List ℕ) → slice_get sinks i ≡ Some x → before ≡ [] → now ≡ rows ++ row ∷ []
    → TellsNeeds net (map sink_of (take i sinks)) first old rows → Tells net.leaves (needs net (sink_of x)) old before new row → TellsNeeds net (map sink_of (take (i + 1) sinks)) first new now
needs_step net sinks i x first old new rows now row before there empty pushed h t =
    let one : map sink_of (take (i + 1) sinks) ≡ map sink_of (take i sinks) ++ sink_of x ∷ [] =
    map_more sink_of sinks i x (slice_get_within sinks i x there) ∙ ap (λ s. map sink_of (take i sinks) ++ sink_of s ∷ []) (get_or_from_slice_get sinks i x x there) in
    subst (TellsNeeds net (map sink_of (take (i + 1) sinks)) first new) (sym pushed)
    (subst (λ s. TellsNeeds net s first new (rows ++ row ∷ [])) (sym one)
    (needs_more net (map sink_of (take i sinks)) (sink_of x) first old new rows row h (subst (λ s. Tells net.leaves (needs net (sink_of x)) old s new row) empty t)))

pub needs_are : (net : Net) (rows : NetRows) (all : List Sink) (old new : Spread) → rows.leaves ≡ length net.leaves → rows.reads.items ≡ new.rows.items → TellsNeeds net all old new rows.needed.items → needs_in rows ≡ need_rows net all
needs_are net rows all old new el er h = ap₂ (λ n r. map (told n r) rows.needed.items) el er ∙ h.tells

-- the rows of a net

below_rows : (rows : List (List ℕ)) → ((x y : ℕ) → Contains (row_at rows x) y → y < length rows) → AreBelow (length rows) rows
below_rows rows h k d lt i e inside =
    h k (get_or (get_or rows k d) i e) (subst (λ s. Contains s (get_or (get_or rows k d) i e)) (get_or_default rows k d [] lt) (Contains-get_or (get_or rows k d) i e inside))

module _ (net : Net) (rows : NetRows) (el : rows.leaves ≡ length net.leaves) (h : IsSpread net rows.reads.items) where
  pub are_rows : AreBelow (length rows.reads.items) rows.needed.items → AreNetRows rows
  are_rows inside = record {
    count = omega (arith, el, h.count);
    inside = below_rows rows.reads.items h.inside;
    needs_inside = inside;
    vertices = λ r y le c. omega (arith, el, h.leaves r y (omega (arith, le, el)) c);
  }

  row_read : (x : ℕ) → x < length net.leaves → told rows.leaves rows.reads.items (row_at rows.reads.items x) ≡ assignments_of net (direct_reads net x)
  row_read x lt = ap (λ n. told n rows.reads.items (row_at rows.reads.items x)) el ∙ h.reads x lt

  pub reads_are : reads_in rows ≡ read_rows net
  reads_are =
      let f = λ (x : ℕ). told rows.leaves rows.reads.items (row_at rows.reads.items x) in
      let g = λ (x : ℕ). assignments_of net (direct_reads net x) in
      let first = length-map-range_with_len f 0 rows.leaves in
      let second = length-map-range_with_len g 0 (length net.leaves) in
      same_lists (reads_in rows) (read_rows net) (omega (arith, first, second, el)) (λ k d lt.
      let inside : k < length net.leaves = omega (arith, lt, first, el) in
      let z : 0 + k ≡ k = omega arith in
      get_or-map-range_with_len f 0 rows.leaves k k d (omega (arith, inside, el)) z
      ∙ (row_read k inside ∙ sym (get_or-map-range_with_len g 0 (length net.leaves) k k d inside z)))
