-- A dump of a circuit whose names are names of a text is read as its rows.
use Rattle.std.proofs.Common.{◌≡◌, ℕ, zero, suc, ◌+◌, ◌<◌, ◌^◌, ◌==◌, ◌&&◌, not, Bool, true, false, List, [], ◌∷◌, ◌++◌, map, length, ℤ, refl, sym, ap, subst, ◌∙◌, true≢false, if◌then◌else◌, codes}
use Rattle.std.specs.Prelude.{All}
use Rattle.std.specs.List.{AllZip, range_with_len}
use Rattle.std.proofs.lemmas.List.{length-map}
use Rattle.std.proofs.lemmas.List.Elements.{All-head, All-tail}
use Rattle.bit_words.specs.declared.value.Value.{Value}
use Rattle.bit_words.specs.Values.{integer_of}
use Rattle.fir_tree.specs.LeafNames.{Texts, text_of, leaf_text}
use Rattle.fir_meaning.specs.Components.{Design, FlatLeaf}
use Rattle.fir_meaning.specs.States.{State, Inputs, WatchedTrace, ended, cycle}
use Rattle.ground_net.specs.declared.net.PortLeaf.{PortLeaf}
use Rattle.net_of_circuit.specs.FlatOrder.{Standing, flat_of}
use Rattle.net_of_circuit.specs.NetOf.{path_text, flat_text}
use Rattle.name_laws.specs.Names.{IsName, IsUnbroken, no_break}
use Rattle.name_laws.proofs.Flat.{text_unbroken, leaf_unbroken}
use Rattle.stimulus.specs.declared.stimulus.Stimulus.{Stimulus}
use Rattle.vcd_write.specs.Reading.{is_plain, HasPlainNames, VcdRead}
use Rattle.vcd_write.proofs.Readings.{text_is_read, read_once}
use Rattle.circuit_run.specs.Traces.{inputs_in}
use Rattle.circuit_texts.specs.Variables.{IsVariable}
use Rattle.circuit_texts.specs.VcdTexts.{IsVcdText}
use Rattle.circuit_texts.proofs.Zips.{zip_turn, zip_all}

-- Names

no_feed : (b : ℕ) → no_break b ≡ true → (b == 10) ≡ false
no_feed b h = by (b == 32) (b == 10) refl h where
  by : (x y : Bool) → (b == 10) ≡ y → (not x && not y) ≡ true → (b == 10) ≡ false
  by x false e h = e
  by true true e h = absurd (true≢false (sym h))
  by false true e h = absurd (true≢false (sym h))

plain_byte : (b : ℕ) (rest : Bool) → (b == 10) ≡ false → rest ≡ true → (if b == 10 then false else rest) ≡ true
plain_byte b rest e h = ap (λ x. if x then false else rest) e ∙ h

plain_of : (text : List ℕ) → IsUnbroken text → is_plain text ≡ true
plain_of [] h = refl
plain_of (b ∷ bs) h = plain_byte b (is_plain bs) (no_feed b (All-head (λ b. no_break b ≡ true) b bs h)) (plain_of bs (All-tail (λ b. no_break b ≡ true) b bs h))

plain_join : (a b : List ℕ) → is_plain a ≡ true → is_plain b ≡ true → is_plain (a ++ b) ≡ true
plain_join [] b p q = q
plain_join (x ∷ a) b p q = by (x == 10) refl p (λ r. plain_join a b r q) where
  by : (y : Bool) → (x == 10) ≡ y → (if y then false else is_plain a) ≡ true → ((is_plain a ≡ true) → is_plain (a ++ b) ≡ true) → (if x == 10 then false else is_plain (a ++ b)) ≡ true
  by true e p later = absurd (true≢false (sym p))
  by false e p later = plain_byte x (is_plain (a ++ b)) e (later p)

module _ (texts : Texts) (are : All IsName texts) where
  plain_path : (path : List ℕ) → is_plain (path_text texts path) ≡ true
  plain_path [] = refl
  plain_path (i ∷ path) = plain_join (text_of texts i ++ codes ".") (path_text texts path) (plain_join (text_of texts i) (codes ".") (plain_of (text_of texts i) (text_unbroken texts are i)) refl) (plain_path path)

  plain_flat : (x : FlatLeaf) → is_plain (flat_text texts x) ≡ true
  plain_flat x = plain_join (path_text texts x.path) (leaf_text texts x.component x.way) (plain_path x.path) (plain_of (leaf_text texts x.component x.way) (leaf_unbroken texts are x.component x.way))

  plain_names : (design : Design) (all : List Standing) (vars : List PortLeaf) (leaves : List Standing) → AllZip (IsVariable texts all) vars leaves → HasPlainNames (text_of texts design.main) vars
  plain_names design all vars leaves each = record {
    of_top = plain_of (text_of texts design.main) (text_unbroken texts are design.main);
    of_vars = zip_all (λ y v. IsVariable texts all v y) (λ (v : PortLeaf). is_plain v.name ≡ true) (λ y v h. ap is_plain h.name ∙ plain_flat (flat_of y)) leaves vars (zip_turn (IsVariable texts all) vars leaves each);
  }

-- Rows

range_counted : (a n : ℕ) → length (range_with_len a n) ≡ n
range_counted a zero = refl
range_counted a (suc n) = ap suc (range_counted (a + 1) n)

trace_counted : (design : Design) (watch : List FlatLeaf) {s : State} {given : List Inputs} {rows : List (List ℤ)} → WatchedTrace design watch s given rows → length rows ≡ length given
trace_counted design watch ended = refl
trace_counted design watch (cycle rho settled later) = ap suc (trace_counted design watch later)

rows_counted : (texts : Texts) (design : Design) (names : List (List ℕ)) (stimulus : Stimulus) (bytes : List ℕ) (dump : IsVcdText texts design names stimulus bytes) → length dump.rows ≡ stimulus.cycles
rows_counted texts design names stimulus bytes dump =
    sym (length-map dump.rows (map integer_of)) ∙ (trace_counted design (map flat_of dump.leaves) dump.trace
    ∙ (length-map (range_with_len 0 stimulus.cycles) (inputs_in design stimulus) ∙ range_counted 0 stimulus.cycles))

pub dump_is_read : (texts : Texts) (design : Design) (names : List (List ℕ)) (stimulus : Stimulus) (bytes : List ℕ) → All IsName texts → stimulus.cycles < 2 ^ 64
    → (dump : IsVcdText texts design names stimulus bytes) → VcdRead dump.vars bytes dump.rows
dump_is_read texts design names stimulus bytes are few dump =
    subst (λ t. VcdRead dump.vars t dump.rows) (sym dump.is)
    (text_is_read (text_of texts design.main) dump.vars dump.rows (plain_names texts are design dump.all dump.vars dump.leaves dump.are.each) dump.shaped (subst (λ n. n < 2 ^ 64) (sym (rows_counted texts design names stimulus bytes dump)) few))

pub dump_is_read_once : (texts : Texts) (design : Design) (names : List (List ℕ)) (stimulus : Stimulus) (bytes : List ℕ) → All IsName texts → stimulus.cycles < 2 ^ 64
    → (dump : IsVcdText texts design names stimulus bytes) (rows : List (List Value)) → VcdRead dump.vars bytes rows → rows ≡ dump.rows
dump_is_read_once texts design names stimulus bytes are few dump rows read = read_once dump.vars bytes rows dump.rows read (dump_is_read texts design names stimulus bytes are few dump)
