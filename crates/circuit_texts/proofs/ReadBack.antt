-- The text of a state is read as what it was printed from.
use Rattle.std.proofs.Common.{◌≡◌, ℕ, ◌<◌, ◌≤◌, ◌^◌, List, [], ◌∷◌, ◌++◌, map, ℤ, refl, sym, ap, ◌∙◌, subst, arith, codes, decimal}
use Rattle.std.specs.List.{AllZip}
use Rattle.std.proofs.lemmas.List.{append_cancel_left}
use Rattle.bit_words.specs.Numbers.{value_of_digits}
use Rattle.bit_words.specs.declared.number.Base.TheVariants.{Decimal}
use Rattle.bit_words.specs.declared.value.Value.{Value}
use Rattle.bit_words.specs.Values.{InRange, integer_of}
use Rattle.prim_ops.proofs.Fittings.{value_in_range}
use Rattle.fir_tree.specs.LeafNames.{Texts}
use Rattle.fir_meaning.specs.Components.{Design}
use Rattle.fir_meaning.specs.States.{State}
use Rattle.ground_net.specs.declared.net.Net.{Net}
use Rattle.ground_net.specs.declared.net.PortLeaf.{PortLeaf}
use Rattle.ground_net.specs.Watching.{AreValuesOf, inputs}
use Rattle.ground_net.specs.Cycles.{NetState}
use Rattle.ground_net.specs.Nets.{IsNet}
use Rattle.snapshot_text.specs.declared.snapshot.Snapshot.{Snapshot}
use Rattle.snapshot_text.specs.Cells.{Cell, input_cell, state_cells, cells_of}
use Rattle.snapshot_text.specs.Texts.{IsState, Holds, state_text, lines_text, most_cycles}
use Rattle.snapshot_text.specs.Snapshots.{HoldsState, integers_of_state, values_of}
use Rattle.snapshot_text.proofs.Cutting.{cut_once}
use Rattle.snapshot_text.proofs.Keeping.{state_holds}
use Rattle.snapshot_text.proofs.Numbers.{digits_plain, decimal_writes}
use Rattle.snapshot_text.proofs.Texts.{state_read}
use Rattle.circuit_texts.specs.Held.{IsStateText, IsReadAs}
use Rattle.circuit_texts.proofs.Sound.{IsSound, its_net_serves}
use Rattle.circuit_texts.proofs.TwoNets.{cells_same}
use Rattle.circuit_texts.proofs.Once.{SameStart, read_once}

-- a text has one number of cycles, also where it is too great to be read
cycles_back : (cells : List Cell) (cycle n : ℕ) (values others : List ℤ) → cycle < 10 ^ 64 → IsState cells (state_text cells cycle values) n others → cycle ≡ n
cycles_back cells cycle n values others small read =
    let own = decimal_writes cycle small in
    let front = append_cancel_left (codes "state ") (decimal cycle ++ (10 ∷ lines_text cells values)) (read.digits ++ (10 ∷ read.rest)) read.is in
    let parts = cut_once 10 (decimal cycle) read.digits (lines_text cells values) read.rest (digits_plain 10 (decimal cycle) (omega arith) own.digits) (digits_plain 10 read.digits (omega arith) read.counted.digits) front in
    own.value ∙ (ap (value_of_digits Decimal) parts.0 ∙ sym read.counted.value)

-- the values of a state fit their lines
holds_both : (leaves : List PortLeaf) (row : List Value) (cells : List Cell) (vs : List ℤ) → AreValuesOf leaves row → AllZip Holds cells vs → AllZip Holds (map input_cell leaves ++ cells) (map integer_of row ++ vs)
holds_both [] [] cells vs a h = h
holds_both [] (v ∷ row) cells vs a h = absurd a
holds_both (leaf ∷ leaves) [] cells vs a h = absurd a
holds_both (leaf ∷ leaves) (v ∷ row) cells vs a h = (
  record {
    narrow = leaf.narrow;
    fits = subst (λ w. InRange leaf.kind w (integer_of v)) a.0.1 (subst (λ k. InRange k v.width (integer_of v)) a.0.0 (value_in_range v));
  },
  holds_both leaves row cells vs a.1 h,
)

values_hold : (net : Net) → IsNet net → (t : NetState) (snapshot : Snapshot) → HoldsState net (inputs net) t snapshot → AllZip Holds (cells_of net (inputs net)) (values_of net t snapshot.inputs)
values_hold net well t snapshot h = holds_both (inputs net) snapshot.inputs (state_cells net) (integers_of_state net t) h.inputs (state_holds net well t h.within)

-- The text of a state is read as that state, where its number of cycles may be read.
pub reads : (texts : Texts) (design : Design) (s : State) (snapshot : Snapshot) (text : List ℕ) → snapshot.cycle ≤ most_cycles → IsStateText texts design s snapshot text → IsReadAs texts design text s snapshot
reads texts design s snapshot text few a =
    let net = a.held.net in
    let cells : List Cell = cells_of net (inputs net) in
    let values : List ℤ = values_of net a.held.state snapshot.inputs in
    record {
      held = a.held;
      read = subst (λ bytes. IsState cells bytes snapshot.cycle values) (sym a.is) (state_read cells snapshot.cycle values few (values_hold net a.held.of.well_formed a.held.state snapshot a.held.holds));
    }

module _ (texts : Texts) (design : Design) (sound : IsSound texts design) where
  -- What is read of the text of a state is that state.
  pub read_back : (s s' : State) (snapshot snapshot' : Snapshot) (text : List ℕ) → snapshot.cycle < 10 ^ 64 → IsStateText texts design s snapshot text → IsReadAs texts design text s' snapshot'
      → SameStart design s s' snapshot snapshot'
  read_back s s' snapshot snapshot' text small a b =
      let net = a.held.net in
      let cells : List Cell = cells_of net (inputs net) in
      let values : List ℤ = values_of net a.held.state snapshot.inputs in
      let others : List ℤ = values_of b.held.net b.held.state snapshot'.inputs in
      let one : cells_of b.held.net (inputs b.held.net) ≡ cells = sym (cells_same texts design net b.held.net (its_net_serves sound net a.held.of) (its_net_serves sound b.held.net b.held.of)) in
      let again : IsState cells (state_text cells snapshot.cycle values) snapshot'.cycle others =
      subst (λ bytes. IsState cells bytes snapshot'.cycle others) a.is (subst (λ cs. IsState cs text snapshot'.cycle others) one b.read) in
      let cycle : snapshot.cycle ≡ snapshot'.cycle = cycles_back cells snapshot.cycle snapshot'.cycle values others small again in
      let few : snapshot.cycle ≤ most_cycles = subst (λ n. n ≤ most_cycles) (sym cycle) again.few in
      read_once texts design sound text text s s' snapshot snapshot' refl (reads texts design s snapshot text few a) b
