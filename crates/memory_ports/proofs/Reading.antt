-- What ports read: where it comes from, and that a leaf has what its read says.
use Rattle.std.proofs.Common.{◌≡◌, ℕ, zero, suc, ◌==◌, ◌+◌, ◌<◌, Bool, true, false, List, [], ◌∷◌, map, length, refl, sym, ap, ap₂, ◌∙◌, arith, Option, Some, None, option_map, slice_get, ◌⊎◌, inl, inr, ⊎_elim, eq-eqb, if◌then◌else◌}
use Rattle.std.proofs.lemmas.Bool.Decides.{nat_tests}
use Rattle.std.proofs.lemmas.Grind.{common_steps}
use Rattle.std.specs.Prelude.{flat_map}
use Rattle.std.specs.List.{range_with_len}
use Rattle.std.proofs.lemmas.Option.{slice_get-map, slice_get_within}
use Rattle.ground_net.specs.declared.circuit.GroundMemory.{GroundMemory}
use Rattle.ground_net.specs.declared.circuit.FlatCircuit.{FlatCircuit}
use Rattle.ground_net.specs.declared.net.NetPort.{NetPort}
use Rattle.ground_net.specs.declared.net.NetRead.{NetRead}
use Rattle.ground_net.specs.Cones.{numbered}
use Rattle.memory_ports.specs.declared.reads.ReadData.{ReadData}
use Rattle.memory_ports.specs.Placing.{Shows, data_of, reads_of_port, reads_of, IsRead, last_data, data_in}
use Rattle.memory_ports.specs.Sound.{IsPlain, IsSound}
use Rattle.memory_ports.proofs.Lists.{some_same, none_some, some_of, origin, arrives, numbered_is, numbered_parts, range_get}

-- Leaf x shows these data, since a port reads it.
pub record Origin (memories : List GroundMemory) (x : ℕ) (shown : ReadData) : Type 0 where
  pub m : ℕ
  pub p : ℕ
  pub k : ℕ
  pub memory : GroundMemory
  pub port : NetPort
  pub read : NetRead
  pub is : IsRead memories m p k x memory port read
  pub shows : shown ≡ data_of m k port read

abbrev of_memory : ℕ × GroundMemory → List Shows
of_memory both = flat_map (λ port. reads_of_port both.0 port port.read) both.1.ports

abbrev of_port : ℕ → NetPort → List Shows
of_port m port = reads_of_port m port port.read

in_port : (m : ℕ) (port : NetPort) (o : Option NetRead) (j : ℕ) (shows : Shows) → port.read ≡ o → slice_get (reads_of_port m port o) j ≡ Some shows
    → (k : ℕ) × (read : NetRead) × (port.read ≡ Some read) × (slice_get read.leaves k ≡ Some shows.0) × (shows.1 ≡ data_of m k port read)
in_port m port None j shows r e = absurd (none_some e)
in_port m port (Some read) j shows r e =
    let f : ℕ × ℕ → Shows = λ (both : ℕ × ℕ). (both.1, data_of m both.0 port read) in
    let from = some_of f (slice_get (numbered read.leaves) j) shows (sym (slice_get-map f (numbered read.leaves) j) ∙ e) in
    let both = numbered_parts read.leaves j from.0 from.1 in
    (j, read, r, both.1 ∙ ap (λ (s : Shows). Some s.0) from.2, ap (λ (s : Shows). s.1) (sym from.2) ∙ ap (λ k. data_of m k port read) both.0)

pub origin_of : (memories : List GroundMemory) (i : ℕ) (shows : Shows) → slice_get (reads_of memories) i ≡ Some shows → Origin memories shows.0 shows.1
origin_of memories i shows e =
    let outer = origin of_memory (numbered memories) i shows e in
    let both = numbered_parts memories outer.0 outer.1 outer.3 in
    let inner = origin (of_port outer.1.0) outer.1.1.ports outer.2 shows outer.4 in
    let leaf = in_port outer.1.0 inner.1 inner.1.read inner.2 shows refl inner.4 in
    record {
      m = outer.0;
      p = inner.0;
      k = leaf.0;
      memory = outer.1.1;
      port = inner.1;
      read = leaf.1;
      is = record { there = both.1; has = inner.3; reads = leaf.2; leaf = leaf.3 };
      shows = leaf.4 ∙ ap (λ m. data_of m leaf.0 inner.1 leaf.1) both.0;
    }

pub read_there : (memories : List GroundMemory) (m p k x : ℕ) (memory : GroundMemory) (port : NetPort) (read : NetRead) → IsRead memories m p k x memory port read
    → (i : ℕ) × (slice_get (reads_of memories) i ≡ Some (x, data_of m k port read))
read_there memories m p k x memory port read r =
    let f : ℕ × ℕ → Shows = λ (both : ℕ × ℕ). (both.1, data_of m both.0 port read) in
    let leaf : slice_get (map f (numbered read.leaves)) k ≡ Some (x, data_of m k port read) = slice_get-map f (numbered read.leaves) k ∙ ap (option_map f) (numbered_is read.leaves k x r.leaf) in
    let mine : slice_get (of_port m port) k ≡ Some (x, data_of m k port read) = ap (λ o. slice_get (reads_of_port m port o) k) r.reads ∙ leaf in
    let inner = arrives (of_port m) memory.ports p port k (x, data_of m k port read) r.has mine in
    arrives of_memory (numbered memories) m (m, memory) inner.0 (x, data_of m k port read) (numbered_is memories m memory r.there) inner.1

-- The last read that names a leaf

pub record ReadsRise (reads : List Shows) : Type 0 where
  pub rise : (i j : ℕ) (read later : Shows) → i < j → slice_get reads i ≡ Some read → slice_get reads j ≡ Some later → read.0 < later.0

pub tail_reads_rise : (read : Shows) (reads : List Shows) → ReadsRise (read ∷ reads) → ReadsRise reads
tail_reads_rise read reads r = record { rise = λ i j a b h e f. let more : suc i < suc j = omega (arith, h) in r.rise (suc i) (suc j) a b more e f }

pub same_number : (x : ℕ) → (x == x) ≡ true
same_number x = eq-eqb x x refl

other_number : (x y : ℕ) → x < y → (y == x) ≡ false
other_number x y h = grind (arith, nat_tests)

none_names : (reads : List Shows) (x : ℕ) (before : Option ReadData) → ((j : ℕ) (read : Shows) → slice_get reads j ≡ Some read → x < read.0) → last_data reads x before ≡ before
none_names [] x before h = refl
none_names (read ∷ reads) x before h =
    ap (λ b. last_data reads x (if b then Some read.1 else before)) (other_number x read.0 (h zero read refl)) ∙ none_names reads x before (λ j r e. h (suc j) r e)

last_from : (reads : List Shows) (i : ℕ) (shows : Shows) (before : Option ReadData) → ReadsRise reads → slice_get reads i ≡ Some shows → last_data reads shows.0 before ≡ Some shows.1
last_from [] i shows before r e = absurd (none_some e)
last_from (read ∷ reads) zero shows before r e =
    let same : read ≡ shows = some_same e in
    let later : (j : ℕ) (s : Shows) → slice_get reads j ≡ Some s → shows.0 < s.0 = λ j s f. let first : zero < suc j = omega arith in r.rise zero (suc j) shows s first e f in
    ap (λ (read : Shows). last_data reads shows.0 (if read.0 == shows.0 then Some read.1 else before)) same
    ∙ (ap (λ b. last_data reads shows.0 (if b then Some shows.1 else before)) (same_number shows.0) ∙ none_names reads shows.0 (Some shows.1) later)
last_from (read ∷ reads) (suc i) shows before r e = last_from reads i shows (if read.0 == shows.0 then Some read.1 else before) (tail_reads_rise read reads r) e

pub last_is : (reads : List Shows) (i : ℕ) (shows : Shows) → ReadsRise reads → slice_get reads i ≡ Some shows → last_data reads shows.0 None ≡ Some shows.1
last_is reads i shows r e = last_from reads i shows None r e

named : (reads : List Shows) (x : ℕ) (before : Option ReadData) (shown : ReadData) → last_data reads x before ≡ Some shown → ((i : ℕ) × (slice_get reads i ≡ Some (x, shown))) ⊎ (before ≡ Some shown)
named [] x before shown e = inr e
named (read ∷ reads) x before shown e = ⊎_elim
    (λ h. inl (suc h.0, h.1))
    (λ h. by_test (read.0 == x) refl h)
    (named reads x (if read.0 == x then Some read.1 else before) shown e)
  where
    equal : (a b : ℕ) → (a == b) ≡ true → a ≡ b
    equal a b h = grind (arith, common_steps)

    by_test : (b : Bool) → (read.0 == x) ≡ b → (if b then Some read.1 else before) ≡ Some shown → ((i : ℕ) × (slice_get (read ∷ reads) i ≡ Some (x, shown))) ⊎ (before ≡ Some shown)
    by_test true q h = inl (zero, ap₂ (λ a d. Some (a, d)) (equal read.0 x q) (some_same h))
    by_test false q h = inr h

pub last_named : (reads : List Shows) (x : ℕ) (shown : ReadData) → last_data reads x None ≡ Some shown → (i : ℕ) × (slice_get reads i ≡ Some (x, shown))
last_named reads x shown e = ⊎_elim (λ h. h) (λ h. absurd (none_some h)) (named reads x None shown e)

pub data_there : (flat : FlatCircuit) (x : ℕ) → x < length flat.leaves → slice_get (data_in flat) x ≡ Some (last_data (reads_of flat.memories) x None)
data_there flat x h =
    let z : 0 + x ≡ x = omega arith in
    slice_get-map (λ x. last_data (reads_of flat.memories) x None) (range_with_len 0 (length flat.leaves)) x
    ∙ (ap (option_map (λ x. last_data (reads_of flat.memories) x None)) (range_get 0 (length flat.leaves) x h) ∙ ap (λ n. Some (last_data (reads_of flat.memories) n None)) z)

-- a leaf that no port reads shows nothing
pub never_named : (memories : List GroundMemory) (x : ℕ) → ((m p k : ℕ) (memory : GroundMemory) (port : NetPort) (read : NetRead) → IsRead memories m p k x memory port read → ⊥) → last_data (reads_of memories) x None ≡ None
never_named memories x h = by_cases (last_data (reads_of memories) x None) refl
  where
    by_cases : (o : Option ReadData) → last_data (reads_of memories) x None ≡ o → last_data (reads_of memories) x None ≡ None
    by_cases None e = e
    by_cases (Some shown) e =
        let i = last_named (reads_of memories) x shown e in
        let o = origin_of memories i.0 (x, shown) i.1 in
        absurd (h o.m o.p o.k o.memory o.port o.read o.is)

-- In a sound circuit

module _ (flat : FlatCircuit) (sound : IsSound flat) (m p k x : ℕ) (memory : GroundMemory) (port : NetPort) (read : NetRead) (r : IsRead flat.memories m p k x memory port read) where
  pub sound_plain : IsPlain flat x
  sound_plain = (sound.memories m p memory port r.there r.has).plain read r.reads k x r.leaf

  pub sound_last : last_data (reads_of flat.memories) x None ≡ Some (data_of m k port read)
  sound_last =
      let i = read_there flat.memories m p k x memory port read r in
      last_is (reads_of flat.memories) i.0 (x, data_of m k port read) (record { rise = sound.reads_rise }) i.1

  pub sound_data : slice_get (data_in flat) x ≡ Some (Some (data_of m k port read))
  sound_data = data_there flat x (slice_get_within flat.leaves x sound_plain.leaf sound_plain.there) ∙ ap Some sound_last
