-- The numbers of a memory's ports are those of their leaves.
use Rattle.std.proofs.Common.{◌≡◌, ℕ, zero, suc, ◌+◌, List, [], ◌∷◌, ◌++◌, map, length, Option, Some, None, refl, sym, ap, ap₂, ◌∙◌, subst, arith, true≢false}
use Rattle.std.specs.List.{slice_get, range_with_len}
use Rattle.std.proofs.lemmas.List.{length-map}
use Rattle.place_text.specs.declared.place.Place.{Place}
use Rattle.fir_types.specs.declared.fir_type.FirType.{FirType}
use Rattle.fir_types.specs.declared.leaf.TypeLeaf.{TypeLeaf}
use Rattle.fir_types.specs.declared.leaf.PathStep.{PathStep}
use Rattle.fir_types.specs.declared.leaf.PathStep.TheVariants as step
use Rattle.fir_types.specs.declared.memory.Memory.{Memory}
use Rattle.fir_types.specs.declared.memory.PortMode.{PortMode}
use Rattle.fir_types.specs.declared.memory.PortMode.TheVariants as mode
use Rattle.fir_types.specs.Leaves.{leaves}
use Rattle.fir_types.specs.Bundles.{addr_name, en_name, data_name, mask_name, rdata_name, wmode_name, wdata_name, wmask_name}
use Rattle.fir_meaning.specs.Components.{TypedModule, Component, ports_bundle}
use Rattle.fir_meaning.specs.MemoryPorts.{MemoryPort, memory_ports}
use Rattle.fir_meaning.specs.States.{leaf_of}
use Rattle.ground_net.specs.declared.net.NetPort.{NetPort}
use Rattle.net_of_circuit.specs.Numbers.{number_of}
use Rattle.net_of_circuit.specs.Lowering.{AreOfField, IsGroundPort}
use Rattle.lower_aggregates.specs.declared.memories.HowRead.{HowRead}
use Rattle.lower_aggregates.specs.Memories.{reading_of, port_leaves, port_numbers, ports_from}
use Rattle.lower_aggregates.proofs.PortLeaves.{ways, behind, port_ways, all_ways, memory_ways}

some_same : {A : Type 0} {x y : A} → Some x ≡ Some y → x ≡ y
some_same {A} {x} e = ap (or_first x) e
  where
    or_first : A → Option A → A
    or_first d (Some z) = z
    or_first d None = d

none_some : {A : Type 0} {B : Type 0} {x : A} → None ≡ Some x → B
none_some e = absurd cc

map_at : {A B : Type 0} (h : A → B) (xs : List A) (k : ℕ) (x : A) → slice_get xs k ≡ Some x → slice_get (map h xs) k ≡ Some (h x)
map_at h [] k x e = none_some e
map_at h (a ∷ xs) zero x e = ap Some (ap h (some_same e))
map_at h (a ∷ xs) (suc k) x e = map_at h xs k x e

from_map : {A B : Type 0} (h : A → B) (xs : List A) (k : ℕ) (y : B) → slice_get (map h xs) k ≡ Some y → (x : A) × (slice_get xs k ≡ Some x) × (h x ≡ y)
from_map h [] k y e = none_some e
from_map h (a ∷ xs) zero y e = (a, refl, some_same e)
from_map h (a ∷ xs) (suc k) y e = from_map h xs k y e

first_of : {A : Type 0} (xs ys : List A) (k : ℕ) (x : A) → slice_get xs k ≡ Some x → slice_get (xs ++ ys) k ≡ Some x
first_of [] ys k x e = none_some e
first_of (z ∷ xs) ys zero x e = e
first_of (z ∷ xs) ys (suc k) x e = first_of xs ys k x e

second_of : {A : Type 0} (xs ys : List A) (n k : ℕ) (x : A) → length xs ≡ n → slice_get ys k ≡ Some x → slice_get (xs ++ ys) (n + k) ≡ Some x
second_of [] ys zero k x n e = let z : k ≡ 0 + k = omega arith in subst (λ i. slice_get ys i ≡ Some x) z e
second_of [] ys (suc m) k x n e = absurd (omega (arith, n))
second_of (z ∷ xs) ys zero k x n e = absurd (omega (arith, n))
second_of (z ∷ xs) ys (suc m) k x n e =
    let s : suc (m + k) ≡ suc m + k = omega arith in
    subst (λ i. slice_get (z ∷ (xs ++ ys)) i ≡ Some x) s (second_of xs ys m k x (omega (arith, n)) e)

range_item : (a n k x : ℕ) → slice_get (range_with_len a n) k ≡ Some x → x ≡ a + k
range_item a zero k x e = none_some e
range_item a (suc n) zero x e = let z : a ≡ a + 0 = omega arith in sym (some_same e) ∙ z
range_item a (suc n) (suc k) x e = let z : a + 1 + k ≡ a + suc k = omega arith in range_item (a + 1) n k x e ∙ z

range_counted : (a n : ℕ) → length (range_with_len a n) ≡ n
range_counted a zero = refl
range_counted a (suc n) = ap suc (range_counted (a + 1) n)

-- how many ways a port has
ways_counted : (e : List (List PathStep)) (n : ℕ) (s : PathStep) → length e ≡ n → length (behind s e) ≡ n
ways_counted e n s h = length-map e (λ w. s ∷ w) ∙ h

length_append : {A : Type 0} (xs ys : List A) (n k : ℕ) → length xs ≡ n → length ys ≡ k → length (xs ++ ys) ≡ n + k
length_append [] ys n k e f = omega (arith, e, f)
length_append (x ∷ xs) ys zero k e f = absurd (omega (arith, e))
length_append (x ∷ xs) ys (suc n) k e f = let r = length_append xs ys n k (omega (arith, e)) f in omega (arith, r)

port_counted : (e : List (List PathStep)) (n : ℕ) (m : PortMode) → length e ≡ n → length (port_ways e m) ≡ port_leaves m n
port_counted e n mode.Reader h = let r = ways_counted e n (step.Field data_name) h in omega (arith, r)
port_counted e n mode.Writer h =
    let r = length_append (behind (step.Field data_name) e) (behind (step.Field mask_name) e) n n (ways_counted e n (step.Field data_name) h) (ways_counted e n (step.Field mask_name) h) in omega (arith, r)
port_counted e n mode.ReadWriter h =
    let r = length_append (behind (step.Field wdata_name) e) (behind (step.Field wmask_name) e) n n (ways_counted e n (step.Field wdata_name) h) (ways_counted e n (step.Field wmask_name) h) in
    let q = length_append (behind (step.Field rdata_name) e) ((step.Field wmode_name ∷ []) ∷ (behind (step.Field wdata_name) e ++ behind (step.Field wmask_name) e)) n (suc (n + n)) (ways_counted e n (step.Field rdata_name) h) (omega (arith, r)) in
    omega (arith, q)

-- A port of the list, with the place of its leaves.
record PortThere (e : List (List PathStep)) (count first : ℕ) (how : HowRead) (ports : List MemoryPort) (port : MemoryPort) (np : NetPort) : Type 0 where
  before : ℕ
  is : np ≡ port_numbers (first + before) count port.mode how
  stands : (r : ℕ) (way : List PathStep) → slice_get (port_ways e port.mode) r ≡ Some way → slice_get (all_ways e ports) (before + r) ≡ Some (step.Field port.name ∷ way)

port_there : (e : List (List PathStep)) (count first : ℕ) (how : HowRead) (ports : List MemoryPort) → length e ≡ count → (q : ℕ) (port : MemoryPort) (np : NetPort) → slice_get ports q ≡ Some port
    → slice_get (ports_from first count how ports) q ≡ Some np → PortThere e count first how ports port np
port_there e count first how [] n q port np s t = none_some s
port_there e count first how (x ∷ ports) n zero port np s t =
    let same : x ≡ port = some_same s in
    let z : first ≡ first + 0 = omega arith in
    record {
      before = 0;
      is = sym (some_same t) ∙ ap₂ (λ (f : ℕ) (p : MemoryPort). port_numbers f count p.mode how) z same;
      stands = λ r way w.
          let k : r ≡ 0 + r = omega arith in
          subst (λ i. slice_get (all_ways e (x ∷ ports)) i ≡ Some (step.Field port.name ∷ way)) k
          (first_of (behind (step.Field x.name) (port_ways e x.mode)) (all_ways e ports) r (step.Field port.name ∷ way)
          (subst (λ (p : MemoryPort). slice_get (behind (step.Field p.name) (port_ways e p.mode)) r ≡ Some (step.Field port.name ∷ way)) (sym same)
          (map_at (λ w. step.Field port.name ∷ w) (port_ways e port.mode) r way w)));
    }
port_there e count first how (x ∷ ports) n (suc q) port np s t =
    let r = port_there e count (first + port_leaves x.mode count) how ports n q port np s t in
    let f : first + port_leaves x.mode count + r.before ≡ first + (port_leaves x.mode count + r.before) = omega arith in
    record {
      before = port_leaves x.mode count + r.before;
      is = r.is ∙ ap (λ k. port_numbers k count port.mode how) f;
      stands = λ i way w.
          let k : port_leaves x.mode count + (r.before + i) ≡ port_leaves x.mode count + r.before + i = omega arith in
          subst (λ j. slice_get (all_ways e (x ∷ ports)) j ≡ Some (step.Field port.name ∷ way)) k
          (second_of (behind (step.Field x.name) (port_ways e x.mode)) (all_ways e ports) (port_leaves x.mode count) (r.before + i) (step.Field port.name ∷ way)
          (ways_counted (port_ways e x.mode) (port_leaves x.mode count) (step.Field x.name) (port_counted e count x.mode n)) (r.stands i way w));
    }

module _ (m : TypedModule) (c : Component) (memory : Memory) (element : FirType) (first : ℕ) (bundle : leaves c.typ ≡ leaves (ports_bundle memory element))
    (numbers : (j : ℕ) (leaf : TypeLeaf) → slice_get (leaves c.typ) j ≡ Some leaf → number_of m (leaf_of c leaf) ≡ Some (first + j)) where
  abbrev e : List (List PathStep)
  e = ways (leaves element)

  abbrev count : ℕ
  count = length (leaves element)

  counted : length e ≡ count
  counted = length-map (leaves element) (λ l. l.path)

  located : (x : ℕ) (way : List PathStep) → slice_get (all_ways e (memory_ports memory)) x ≡ Some way → number_of m (record { component = c.declaration.name; way = way }) ≡ Some (first + x)
  located x way h =
      let at : slice_get (ways (leaves c.typ)) x ≡ Some way = ap (λ ls. slice_get (ways ls) x) bundle ∙ ap (λ l. slice_get l x) (memory_ways memory element) ∙ h in
      let l = from_map (λ (l : TypeLeaf). l.path) (leaves c.typ) x way at in
      ap (λ w. number_of m (record { component = c.declaration.name; way = w })) (sym l.2) ∙ numbers x l.0 l.1

  module _ (port : MemoryPort) (before : ℕ)
      (stands : (r : ℕ) (way : List PathStep) → slice_get (port_ways e port.mode) r ≡ Some way → slice_get (all_ways e (memory_ports memory)) (before + r) ≡ Some (step.Field port.name ∷ way)) where
    one : (r field : ℕ) → slice_get (port_ways e port.mode) r ≡ Some (step.Field field ∷ []) → (x : ℕ) → x ≡ first + before + r → number_of m (record { component = c.declaration.name; way = step.Field port.name ∷ step.Field field ∷ [] }) ≡ Some x
    one r field h x is =
        let z : first + (before + r) ≡ x = omega (arith, is) in
        located (before + r) (step.Field port.name ∷ step.Field field ∷ []) (stands r (step.Field field ∷ []) h) ∙ ap Some z

    -- the numbers of a field from this leaf of the port on
    many : (r field from : ℕ) → ((k : ℕ) (way : List PathStep) → slice_get e k ≡ Some way → slice_get (port_ways e port.mode) (r + k) ≡ Some (step.Field field ∷ way)) → from ≡ first + before + r
        → AreOfField m c port.name field element (range_with_len from count)
    many r field from h is = record {
      counted = range_counted from count;
      each = λ k x leaf a b.
          let n = range_item from count k x a in
          let z : first + (before + (r + k)) ≡ x = omega (arith, is, n) in
          located (before + (r + k)) (step.Field port.name ∷ step.Field field ∷ leaf.path) (stands (r + k) (step.Field field ∷ leaf.path) (h k leaf.path (map_at (λ l. l.path) (leaves element) k leaf b))) ∙ ap Some z;
    }

  here : (s : PathStep) (k : ℕ) (way : List PathStep) → slice_get e k ≡ Some way → slice_get (behind s e) k ≡ Some (s ∷ way)
  here s k way h = map_at (λ w. s ∷ w) e k way h

  at_three : (a b d : List PathStep) (rest : List (List PathStep)) (k : ℕ) (way : List PathStep) → slice_get rest k ≡ Some way → slice_get (a ∷ b ∷ d ∷ rest) (3 + k) ≡ Some way
  at_three a b d rest k way h = let z : suc (suc (suc k)) ≡ 3 + k = omega arith in subst (λ i. slice_get (a ∷ b ∷ d ∷ rest) i ≡ Some way) z h

  moved : (xs : List (List PathStep)) (i j : ℕ) (way : List PathStep) → i ≡ j → slice_get xs i ≡ Some way → slice_get xs j ≡ Some way
  moved xs i j way q h = subst (λ k. slice_get xs k ≡ Some way) q h

  port_by : (name : ℕ) (place : Place) (md : PortMode) (np : NetPort) (before : ℕ) → np ≡ port_numbers (first + before) count md (reading_of memory)
      → ((r : ℕ) (way : List PathStep) → slice_get (port_ways e md) r ≡ Some way → slice_get (all_ways e (memory_ports memory)) (before + r) ≡ Some (step.Field name ∷ way))
      → IsGroundPort m c memory element (record { name = name; place = place; mode = md }) np
  port_by name place mode.Reader np before is stands =
      let port : MemoryPort = record { name = name; place = place; mode = mode.Reader } in
      subst (IsGroundPort m c memory element port) (sym is) (record {
        addr = one port before stands 0 addr_name refl (first + before) (omega arith);
        en = one port before stands 1 en_name refl (first + before + 1) refl;
        no_mode = λ h. refl;
        mode = λ h. absurd (true≢false (sym h));
        no_write = λ h. refl;
        write = λ h. absurd (true≢false (sym h));
        no_read = λ h. absurd (true≢false h);
        read = λ h. (
          record { leaves = range_with_len (first + before + 3) count; captured = (reading_of memory).captured; after = (reading_of memory).after },
          refl,
          many port before stands 3 data_name (first + before + 3) (λ k way w. at_three _ _ _ (behind (step.Field data_name) e) k (step.Field data_name ∷ way) (here (step.Field data_name) k way w)) refl,
          refl,
          refl,
        );
      })
  port_by name place mode.Writer np before is stands =
      let port : MemoryPort = record { name = name; place = place; mode = mode.Writer } in
      let whole : List (List PathStep) = behind (step.Field data_name) e in
      let masks : List (List PathStep) = behind (step.Field mask_name) e in
      subst (IsGroundPort m c memory element port) (sym is) (record {
        addr = one port before stands 0 addr_name refl (first + before) (omega arith);
        en = one port before stands 1 en_name refl (first + before + 1) refl;
        no_mode = λ h. refl;
        mode = λ h. absurd (true≢false (sym h));
        no_write = λ h. absurd (true≢false h);
        write = λ h. (
          record { leaves = range_with_len (first + before + 3) count; masks = range_with_len (first + before + 3 + count) count },
          refl,
          many port before stands 3 data_name (first + before + 3) (λ k way w. at_three _ _ _ (whole ++ masks) k (step.Field data_name ∷ way) (first_of whole masks k (step.Field data_name ∷ way) (here (step.Field data_name) k way w))) refl,
          many port before stands (3 + count) mask_name (first + before + 3 + count) (λ k way w. moved (port_ways e mode.Writer) (3 + (count + k)) (3 + count + k) (step.Field mask_name ∷ way) (omega arith)
              (at_three _ _ _ (whole ++ masks) (count + k) (step.Field mask_name ∷ way)
              (second_of whole masks count k (step.Field mask_name ∷ way) (ways_counted e count (step.Field data_name) counted) (here (step.Field mask_name) k way w)))) (omega arith),
        );
        no_read = λ h. refl;
        read = λ h. absurd (true≢false (sym h));
      })
  port_by name place mode.ReadWriter np before is stands =
      let port : MemoryPort = record { name = name; place = place; mode = mode.ReadWriter } in
      let rdata : List (List PathStep) = behind (step.Field rdata_name) e in
      let wdata : List (List PathStep) = behind (step.Field wdata_name) e in
      let wmask : List (List PathStep) = behind (step.Field wmask_name) e in
      let rest : List (List PathStep) = (step.Field wmode_name ∷ []) ∷ (wdata ++ wmask) in
      let length_is : length rdata ≡ count = ways_counted e count (step.Field rdata_name) counted in
      subst (IsGroundPort m c memory element port) (sym is) (record {
        addr = one port before stands 0 addr_name refl (first + before) (omega arith);
        en = one port before stands 1 en_name refl (first + before + 1) refl;
        no_mode = λ h. absurd (true≢false h);
        mode = λ h. (
          first + before + 3 + count,
          refl,
          one port before stands (3 + count) wmode_name (moved (port_ways e mode.ReadWriter) (3 + (count + 0)) (3 + count) (step.Field wmode_name ∷ []) (omega arith)
              (at_three _ _ _ (rdata ++ rest) (count + 0) (step.Field wmode_name ∷ []) (second_of rdata rest count 0 (step.Field wmode_name ∷ []) length_is refl))) (first + before + 3 + count) (omega arith),
        );
        no_write = λ h. absurd (true≢false h);
        write = λ h. (
          record { leaves = range_with_len (first + before + 3 + count + 1) count; masks = range_with_len (first + before + 3 + count + 1 + count) count },
          refl,
          many port before stands (3 + count + 1) wdata_name (first + before + 3 + count + 1) (λ k way w. moved (port_ways e mode.ReadWriter) (3 + (count + suc k)) (3 + count + 1 + k) (step.Field wdata_name ∷ way) (omega arith)
              (at_three _ _ _ (rdata ++ rest) (count + suc k) (step.Field wdata_name ∷ way)
              (second_of rdata rest count (suc k) (step.Field wdata_name ∷ way) length_is (first_of wdata wmask k (step.Field wdata_name ∷ way) (here (step.Field wdata_name) k way w))))) (omega arith),
          many port before stands (3 + count + 1 + count) wmask_name (first + before + 3 + count + 1 + count)
              (λ k way w. moved (port_ways e mode.ReadWriter) (3 + (count + suc (count + k))) (3 + count + 1 + count + k) (step.Field wmask_name ∷ way) (omega arith)
              (at_three _ _ _ (rdata ++ rest) (count + suc (count + k)) (step.Field wmask_name ∷ way)
              (second_of rdata rest count (suc (count + k)) (step.Field wmask_name ∷ way) length_is
              (second_of wdata wmask count k (step.Field wmask_name ∷ way) (ways_counted e count (step.Field wdata_name) counted) (here (step.Field wmask_name) k way w))))) (omega arith),
        );
        no_read = λ h. absurd (true≢false h);
        read = λ h. (
          record { leaves = range_with_len (first + before + 3) count; captured = (reading_of memory).captured; after = (reading_of memory).after },
          refl,
          many port before stands 3 rdata_name (first + before + 3) (λ k way w. at_three _ _ _ (rdata ++ rest) k (step.Field rdata_name ∷ way) (first_of rdata rest k (step.Field rdata_name ∷ way) (here (step.Field rdata_name) k way w))) refl,
          refl,
          refl,
        );
      })

  pub ports_are : (q : ℕ) (port : MemoryPort) (np : NetPort) → slice_get (memory_ports memory) q ≡ Some port → slice_get (ports_from first count (reading_of memory) (memory_ports memory)) q ≡ Some np
      → IsGroundPort m c memory element port np
  ports_are q port np s t =
      let p = port_there e count first (reading_of memory) (memory_ports memory) counted q port np s t in
      port_by port.name port.place port.mode np p.before p.is p.stands
