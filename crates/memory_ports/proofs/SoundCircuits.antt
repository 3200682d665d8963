-- Circuits that are sound.
use Rattle.std.proofs.Common.{◌≡◌, ℕ, zero, suc, ◌<◌, ◌≤◌, Bool, true, false, List, [], ◌∷◌, map, length, refl, sym, ap, ◌∙◌, subst, arith, Some, None, slice_get}
use Rattle.ground_net.specs.declared.ground.Ground.{Ground}
use Rattle.ground_net.specs.declared.ground.Ground.TheVariants as ground
use Rattle.ground_net.specs.declared.circuit.GroundLeaf.{GroundLeaf}
use Rattle.ground_net.specs.declared.circuit.GroundRole.TheVariants.{Input, Plain}
use Rattle.ground_net.specs.declared.circuit.GroundMemory.{GroundMemory}
use Rattle.ground_net.specs.declared.circuit.FlatCircuit.{FlatCircuit}
use Rattle.ground_net.specs.declared.net.NetRegister.{NetRegister}
use Rattle.ground_net.specs.declared.net.NetPort.{NetPort}
use Rattle.ground_net.specs.declared.net.NetWrite.{NetWrite}
use Rattle.ground_net.specs.declared.net.NetRead.{NetRead}
use Rattle.ground_net.specs.declared.net.ElementLeaf.{ElementLeaf}
use Rattle.ground_net.specs.Shapes.{Table, shape}
use Rattle.ground_net.specs.Nets.{element_shape}
use Rattle.ground_net.proofs.Shaping.{shape-Leaf}
use Rattle.memory_ports.specs.declared.reads.ReadData.{ReadData}
use Rattle.memory_ports.specs.Placing.{data_in, own_driver}
use Rattle.memory_ports.specs.Sound.{ground_shape, flat_table, IsUInt, IsPlain, AreData, IsPortIn, held_leaves, IsSound}
use Rattle.memory_ports.specs.Examples.{leaf, memory, reader, with_reader, readwriter, with_readwriter}
use Rattle.memory_ports.proofs.Lists.{some_same, none_some}

-- what holds of each item of a list, by its number
abbrev Each : {A : Type 0} → (ℕ → A → Type 0) → List A → Type 0
Each P [] = Unit {0}
Each P (x ∷ xs) = P zero x × Each (λ k. P (suc k)) xs

each : {A : Type 0} (P : ℕ → A → Type 0) (xs : List A) → Each P xs → (k : ℕ) (x : A) → slice_get xs k ≡ Some x → P k x
each P [] h k x e = absurd (none_some e)
each P (y ∷ ys) h zero x e = subst (P zero) (some_same e) h.0
each P (y ∷ ys) h (suc k) x e = each (λ k. P (suc k)) ys h.1 k x e

one_below : {A : Type 0} (x : A) (n k : ℕ) (y z : A) → n < k → slice_get (x ∷ []) n ≡ Some y → slice_get (x ∷ []) k ≡ Some z → ⊥
one_below x n (suc k) y z h e f = none_some f
one_below x n zero y z h e f = omega arith

input_plain : Input ≡ Plain → ⊥
input_plain e = cc

plain_input : Plain ≡ Input → ⊥
plain_input e = cc

shows_some : (shown : ReadData) → Some (Some shown) ≡ Some None → ⊥
shows_some shown e = none_some (sym (some_same e))

leaf_driver : (table : Table) (y : ℕ) (driver : Ground) → Some (ground.Leaf y) ≡ Some driver → shape driver table ≡ table.leaf y
leaf_driver table y driver e = ap (λ g. shape g table) (sym (some_same e)) ∙ shape-Leaf y table

-- the elements of the memory
one_leaf : (flat : FlatCircuit) (m : GroundMemory) (x : ℕ) (element : ElementLeaf) → m.elements ≡ element ∷ [] → (flat_table flat).leaf x ≡ Some (element_shape element) → AreData flat m (x ∷ [])
one_leaf flat m x element is e = record {
  counted = ap length (sym is);
  shapes = λ k y one f g. each (λ k y. (one : ElementLeaf) → slice_get m.elements k ≡ Some one → (flat_table flat).leaf y ≡ Some (element_shape one)) (x ∷ [])
      (λ one g. e ∙ ap (λ one. Some (element_shape one)) (some_same (ap (λ l. slice_get l zero) (sym is) ∙ g)), tt) k y f one g;
}

module _ (captured : Bool) where
  abbrev r : FlatCircuit
  r = with_reader captured

  reader_registers : (b : Bool) → map (λ (register : NetRegister). register.leaf) [] ≡ held_leaves (with_reader b)
  reader_registers true = refl
  reader_registers false = refl

  reader_port : IsPortIn r (memory 2 (reader captured)) (reader captured)
  reader_port = record {
    addr = (2, refl);
    en = refl;
    mode = λ x e. absurd (none_some e);
    both = λ write read e f. absurd (none_some e);
    of_both = λ x e. absurd (none_some e);
    written = λ write e. absurd (none_some e);
    masks = λ write e. absurd (none_some e);
    read = λ read e. subst (λ (read : NetRead). AreData r (memory 2 (reader captured)) read.leaves) (some_same e) (one_leaf r (memory 2 (reader captured)) 4 _ refl refl);
    plain = λ read e. subst (λ (read : NetRead). (k x : ℕ) → slice_get read.leaves k ≡ Some x → IsPlain r x) (some_same e)
        (each (λ k x. IsPlain r x) (4 ∷ []) (record { leaf = leaf Plain 8; there = refl; is = refl }, tt));
  }

  pub reader_sound : IsSound r
  reader_sound = record {
    ports = omega arith;
    inputs = each (λ x (l : GroundLeaf). l.role ≡ Input → x < 2) r.leaves
        (λ e. omega arith, (λ e. omega arith, (λ e. absurd (plain_input e), (λ e. absurd (plain_input e), (λ e. absurd (plain_input e), tt)))));
    driven = λ x p none. each (λ x (l : GroundLeaf). l.role ≡ Plain → slice_get (data_in r) x ≡ Some None → (driver : Ground) × (own_driver r x ≡ Some driver)) r.leaves
        (λ e f. absurd (input_plain e), (λ e f. absurd (input_plain e), (λ e f. (ground.Leaf 0, refl), (λ e f. (ground.Leaf 1, refl), (λ e f. absurd (shows_some _ f), tt)))))
        x p.leaf p.there p.is none;
    shapes = λ x l driver there e. each (λ x (l : GroundLeaf). (driver : Ground) → own_driver r x ≡ Some driver → shape driver (flat_table r) ≡ Some (ground_shape l)) r.leaves
        (λ g e. absurd (none_some e), (λ g e. absurd (none_some e), (λ g e. leaf_driver (flat_table r) 0 g e, (λ g e. leaf_driver (flat_table r) 1 g e, (λ g e. absurd (none_some e), tt)))))
        x l there driver e;
    registers = reader_registers captured;
    resets = λ n register reset e f. absurd (none_some e);
    first = each (λ m (one : GroundMemory). one.first ≤ length r.leaves) r.memories (omega arith, tt);
    rising = λ m n one later h e f. absurd (one_below (memory 2 (reader captured)) m n one later h e f);
    reads_rise = λ i j read later h e f. absurd (one_below _ i j read later h e f);
    memories = λ m p one port e f. each (λ m (one : GroundMemory). (p : ℕ) (port : NetPort) → slice_get one.ports p ≡ Some port → IsPortIn r one port) r.memories
        (each (λ p (port : NetPort). IsPortIn r (memory 2 (reader captured)) port) (reader captured ∷ []) (reader_port, tt), tt) m one e p port f;
  }

  abbrev w : FlatCircuit
  w = with_readwriter captured

  readwriter_registers : (b : Bool) → map (λ (register : NetRegister). register.leaf) [] ≡ held_leaves (with_readwriter b)
  readwriter_registers true = refl
  readwriter_registers false = refl

  bit : (x : ℕ) → Some 7 ≡ Some x → IsUInt w 1 x
  bit x e = subst (IsUInt w 1) (some_same e) refl

  readwriter_port : IsPortIn w (memory 4 (readwriter captured)) (readwriter captured)
  readwriter_port = record {
    addr = (2, refl);
    en = refl;
    mode = bit;
    both = λ write read e f. refl;
    of_both = λ x e. (refl, refl);
    written = λ write e. subst (λ (write : NetWrite). AreData w (memory 4 (readwriter captured)) write.leaves) (some_same e) (one_leaf w (memory 4 (readwriter captured)) 8 _ refl refl);
    masks = λ write e. subst (λ (write : NetWrite). (length write.masks ≡ 1) × ((k x : ℕ) → slice_get write.masks k ≡ Some x → IsUInt w 1 x)) (some_same e)
        (refl, each (λ k x. IsUInt w 1 x) (9 ∷ []) (refl, tt));
    read = λ read e. subst (λ (read : NetRead). AreData w (memory 4 (readwriter captured)) read.leaves) (some_same e) (one_leaf w (memory 4 (readwriter captured)) 6 _ refl refl);
    plain = λ read e. subst (λ (read : NetRead). (k x : ℕ) → slice_get read.leaves k ≡ Some x → IsPlain w x) (some_same e)
        (each (λ k x. IsPlain w x) (6 ∷ []) (record { leaf = leaf Plain 8; there = refl; is = refl }, tt));
  }

  pub readwriter_sound : IsSound w
  readwriter_sound = record {
    ports = omega arith;
    inputs = each (λ x (l : GroundLeaf). l.role ≡ Input → x < 4) w.leaves (
      λ e. omega arith,
      (
        λ e. omega arith,
        (
          λ e. omega arith,
          (
            λ e. omega arith,
            (
              λ e. absurd (plain_input e),
              (
                λ e. absurd (plain_input e),
                (
                  λ e. absurd (plain_input e),
                  (λ e. absurd (plain_input e), (λ e. absurd (plain_input e), (λ e. absurd (plain_input e), tt))),
                ),
              ),
            ),
          ),
        ),
      ),
    );
    driven = λ x p none. each (λ x (l : GroundLeaf). l.role ≡ Plain → slice_get (data_in w) x ≡ Some None → (driver : Ground) × (own_driver w x ≡ Some driver)) w.leaves (
      λ e f. absurd (input_plain e),
      (
        λ e f. absurd (input_plain e),
        (
          λ e f. absurd (input_plain e),
          (
            λ e f. absurd (input_plain e),
            (
              λ e f. (ground.Leaf 0, refl),
              (
                λ e f. (ground.Leaf 1, refl),
                (λ e f. absurd (shows_some _ f), (λ e f. (ground.Leaf 2, refl), (λ e f. (ground.Leaf 3, refl), (λ e f. (ground.Leaf 2, refl), tt)))),
              ),
            ),
          ),
        ),
      ),
    )
        x p.leaf p.there p.is none;
    shapes = λ x l driver there e. each (λ x (l : GroundLeaf). (driver : Ground) → own_driver w x ≡ Some driver → shape driver (flat_table w) ≡ Some (ground_shape l)) w.leaves (
      λ g e. absurd (none_some e),
      (
        λ g e. absurd (none_some e),
        (
          λ g e. absurd (none_some e),
          (
            λ g e. absurd (none_some e),
            (
              λ g e. leaf_driver (flat_table w) 0 g e,
              (
                λ g e. leaf_driver (flat_table w) 1 g e,
                (λ g e. absurd (none_some e), (λ g e. leaf_driver (flat_table w) 2 g e, (λ g e. leaf_driver (flat_table w) 3 g e, (λ g e. leaf_driver (flat_table w) 2 g e, tt)))),
              ),
            ),
          ),
        ),
      ),
    )
        x l there driver e;
    registers = readwriter_registers captured;
    resets = λ n register reset e f. absurd (none_some e);
    first = each (λ m (one : GroundMemory). one.first ≤ length w.leaves) w.memories (omega arith, tt);
    rising = λ m n one later h e f. absurd (one_below (memory 4 (readwriter captured)) m n one later h e f);
    reads_rise = λ i j read later h e f. absurd (one_below _ i j read later h e f);
    memories = λ m p one port e f. each (λ m (one : GroundMemory). (p : ℕ) (port : NetPort) → slice_get one.ports p ≡ Some port → IsPortIn w one port) w.memories
        (each (λ p (port : NetPort). IsPortIn w (memory 4 (readwriter captured)) port) (readwriter captured ∷ []) (readwriter_port, tt), tt) m one e p port f;
  }
