-- The data that a leaf of a flat circuit shows are those of a read that names it.
use Rattle.std.proofs.Common.{◌≡◌, ℕ, zero, suc, ◌==◌, ◌+◌, ◌<◌, Bool, true, false, List, [], ◌∷◌, map, length, refl, sym, ap, ap₂, ◌∙◌, arith, Option, Some, None, option_map, ◌⊎◌, inl, inr, ⊎_elim, eq-eqb, if◌then◌else◌}
use Rattle.std.proofs.lemmas.Grind.{common_steps}
use Rattle.std.specs.List.{slice_get, flat_map, range_with_len}
use Rattle.std.proofs.lemmas.Option.{slice_get-map}
use Rattle.ground_net.specs.declared.circuit.GroundMemory.{GroundMemory}
use Rattle.ground_net.specs.declared.circuit.FlatCircuit.{FlatCircuit}
use Rattle.ground_net.specs.declared.net.NetPort.{NetPort}
use Rattle.ground_net.specs.declared.net.NetRead.{NetRead}
use Rattle.ground_net.specs.Cones.{numbered}
use Rattle.memory_ports.specs.declared.reads.ReadData.{ReadData}
use Rattle.memory_ports.specs.Placing.{Shows, data_of, reads_of_port, reads_of, IsRead, last_data, data_in}
use Rattle.net_laws.proofs.Numbers.{some_same, none_some}
use Rattle.assembly_laws.proofs.Lists.{some_of, origin, arrives, numbered_is, numbered_parts, range_get}

-- Leaf x shows these data, since a port reads it.
pub record Origin (memories : List GroundMemory) (x : ℕ) (shown : ReadData) : Type 0 where
  pub m : ℕ
  pub p : ℕ
  pub k : ℕ
  pub memory : GroundMemory
  pub port : NetPort
  pub read : NetRead
  pub is : IsRead memories m p k x memory port read
  pub shows : shown ≡ data_of m k port read

abbrev of_memory : ℕ × GroundMemory → List Shows
of_memory both = flat_map (λ port. reads_of_port both.0 port port.read) both.1.ports

abbrev of_port : ℕ → NetPort → List Shows
of_port m port = reads_of_port m port port.read

in_port : (m : ℕ) (port : NetPort) (o : Option NetRead) (j : ℕ) (shows : Shows) → port.read ≡ o → slice_get (reads_of_port m port o) j ≡ Some shows
    → (k : ℕ) × (read : NetRead) × (port.read ≡ Some read) × (slice_get read.leaves k ≡ Some shows.0) × (shows.1 ≡ data_of m k port read)
in_port m port None j shows r e = none_some e
in_port m port (Some read) j shows r e =
    let f : ℕ × ℕ → Shows = λ (both : ℕ × ℕ). (both.1, data_of m both.0 port read) in
    let from = some_of f (slice_get (numbered read.leaves) j) shows (sym (slice_get-map f (numbered read.leaves) j) ∙ e) in
    let both = numbered_parts read.leaves j from.0 from.1 in
    (j, read, r, both.1 ∙ ap (λ (s : Shows). Some s.0) from.2, ap (λ (s : Shows). s.1) (sym from.2) ∙ ap (λ k. data_of m k port read) both.0)

origin_of : (memories : List GroundMemory) (i : ℕ) (shows : Shows) → slice_get (reads_of memories) i ≡ Some shows → Origin memories shows.0 shows.1
origin_of memories i shows e =
    let outer = origin of_memory (numbered memories) i shows e in
    let both = numbered_parts memories outer.0 outer.1 outer.3 in
    let inner = origin (of_port outer.1.0) outer.1.1.ports outer.2 shows outer.4 in
    let leaf = in_port outer.1.0 inner.1 inner.1.read inner.2 shows refl inner.4 in
    record {
      m = outer.0;
      p = inner.0;
      k = leaf.0;
      memory = outer.1.1;
      port = inner.1;
      read = leaf.1;
      is = record { there = both.1; has = inner.3; reads = leaf.2; leaf = leaf.3 };
      shows = leaf.4 ∙ ap (λ m. data_of m leaf.0 inner.1 leaf.1) both.0;
    }

read_there : (memories : List GroundMemory) (m p k x : ℕ) (memory : GroundMemory) (port : NetPort) (read : NetRead) → IsRead memories m p k x memory port read
    → (i : ℕ) × (slice_get (reads_of memories) i ≡ Some (x, data_of m k port read))
read_there memories m p k x memory port read r =
    let f : ℕ × ℕ → Shows = λ (both : ℕ × ℕ). (both.1, data_of m both.0 port read) in
    let leaf : slice_get (map f (numbered read.leaves)) k ≡ Some (x, data_of m k port read) = slice_get-map f (numbered read.leaves) k ∙ ap (option_map f) (numbered_is read.leaves k x r.leaf) in
    let mine : slice_get (of_port m port) k ≡ Some (x, data_of m k port read) = ap (λ o. slice_get (reads_of_port m port o) k) r.reads ∙ leaf in
    let inner = arrives (of_port m) memory.ports p port k (x, data_of m k port read) r.has mine in
    arrives of_memory (numbered memories) m (m, memory) inner.0 (x, data_of m k port read) (numbered_is memories m memory r.there) inner.1

-- The last read that names a leaf

named : (reads : List Shows) (x : ℕ) (before : Option ReadData) (shown : ReadData) → last_data reads x before ≡ Some shown → ((i : ℕ) × (slice_get reads i ≡ Some (x, shown))) ⊎ (before ≡ Some shown)
named [] x before shown e = inr e
named (read ∷ reads) x before shown e = ⊎_elim
    (λ h. inl (suc h.0, h.1))
    (λ h. by_test (read.0 == x) refl h)
    (named reads x (if read.0 == x then Some read.1 else before) shown e)
  where
    equal : (a b : ℕ) → (a == b) ≡ true → a ≡ b
    equal a b h = grind (arith, common_steps)

    by_test : (b : Bool) → (read.0 == x) ≡ b → (if b then Some read.1 else before) ≡ Some shown → ((i : ℕ) × (slice_get (read ∷ reads) i ≡ Some (x, shown))) ⊎ (before ≡ Some shown)
    by_test true q h = inl (zero, ap₂ (λ a d. Some (a, d)) (equal read.0 x q) (some_same h))
    by_test false q h = inr h

-- what is shown already stays shown
still_shown : (reads : List Shows) (x : ℕ) (before : ReadData) → last_data reads x (Some before) ≡ None → ⊥
still_shown [] x before e = none_some (sym e)
still_shown (read ∷ reads) x before e = by (read.0 == x) refl (still_shown reads x read.1) (still_shown reads x before) where
  by : (b : Bool) → (read.0 == x) ≡ b → (last_data reads x (Some read.1) ≡ None → ⊥) → (last_data reads x (Some before) ≡ None → ⊥) → ⊥
  by true q named kept = named (sym (ap (λ b. last_data reads x (if b then Some read.1 else Some before)) q) ∙ e)
  by false q named kept = kept (sym (ap (λ b. last_data reads x (if b then Some read.1 else Some before)) q) ∙ e)

-- a leaf that a read names shows data
shown_by : (reads : List Shows) (i : ℕ) (shows : Shows) (before : Option ReadData) → slice_get reads i ≡ Some shows → last_data reads shows.0 before ≡ None → ⊥
shown_by [] i shows before e h = none_some e
shown_by (read ∷ reads) zero shows before e h =
    let same : (read.0 == shows.0) ≡ true = eq-eqb read.0 shows.0 (ap (λ (s : Shows). s.0) (some_same e)) in
    still_shown reads shows.0 read.1 (sym (ap (λ b. last_data reads shows.0 (if b then Some read.1 else before)) same) ∙ h)
shown_by (read ∷ reads) (suc i) shows before e h = shown_by reads i shows (if read.0 == shows.0 then Some read.1 else before) e h

pub data_there : (flat : FlatCircuit) (x : ℕ) → x < length flat.leaves → slice_get (data_in flat) x ≡ Some (last_data (reads_of flat.memories) x None)
data_there flat x h =
    let z : 0 + x ≡ x = omega arith in
    slice_get-map (λ x. last_data (reads_of flat.memories) x None) (range_with_len 0 (length flat.leaves)) x
    ∙ (ap (option_map (λ x. last_data (reads_of flat.memories) x None)) (range_get 0 (length flat.leaves) x h) ∙ ap (λ n. Some (last_data (reads_of flat.memories) n None)) z)

-- What a leaf shows has an origin, and a leaf that shows nothing has none.
pub shown_from : (memories : List GroundMemory) (x : ℕ) (shown : ReadData) → last_data (reads_of memories) x None ≡ Some shown → Origin memories x shown
shown_from memories x shown e = ⊎_elim
    (λ h. origin_of memories h.0 (x, shown) h.1)
    (λ h. none_some h)
    (named (reads_of memories) x None shown e)

pub not_named : (memories : List GroundMemory) (m p k x : ℕ) (memory : GroundMemory) (port : NetPort) (read : NetRead) → IsRead memories m p k x memory port read → last_data (reads_of memories) x None ≡ None → ⊥
not_named memories m p k x memory port read r e =
    let i = read_there memories m p k x memory port read r in
    shown_by (reads_of memories) i.0 (x, data_of m k port read) None i.1 e
