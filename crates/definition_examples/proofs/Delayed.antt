-- A net that is well formed.
use Rattle.std.proofs.Common.{◌≡◌, ℕ, zero, suc, ◌<◌, ◌≤◌, true, false, List, [], ◌∷◌, length, refl, sym, ap, ◌∙◌, subst, arith, Some, None, slice_get, slice_index, true≢false}
use Rattle.std.specs.Prelude.{Contains}
use Rattle.ground_net.specs.declared.ground.Ground.{Ground}
use Rattle.ground_net.specs.declared.ground.Ground.TheVariants as ground
use Rattle.ground_net.specs.declared.net.Leaf.{Leaf}
use Rattle.ground_net.specs.declared.net.Role.TheVariants as role
use Rattle.ground_net.specs.declared.net.NetRegister.{NetRegister}
use Rattle.ground_net.specs.declared.net.NetMemory.{NetMemory}
use Rattle.ground_net.specs.declared.net.NetPort.{NetPort}
use Rattle.ground_net.specs.declared.net.NetRead.{NetRead}
use Rattle.ground_net.specs.declared.net.ElementLeaf.{ElementLeaf}
use Rattle.ground_net.specs.Reads.{IsAssigned, Reads, IsOrder, driver_of}
use Rattle.ground_net.proofs.Layers.{mentions-Leaf}
use Rattle.ground_net.specs.Shapes.{shape}
use Rattle.ground_net.specs.Cycles.{Capture, captures}
use Rattle.ground_net.specs.Nets.{IsNet, IsPort, IsUnsigned, AreElements, HasRole, table_of, leaf_shape, element_shape, may_be_driven}
use Rattle.ground_net.specs.Words.{SaysItsWords, memory_word}
use Rattle.ground_net.proofs.Shaping.{shape-Leaf}
use Rattle.definition_examples.specs.Circuits.{leaf, reader, delayed_memory, delayed}

some_same : {A : Type 0} {x y : A} → Some x ≡ Some y → x ≡ y
some_same e = cc

none_some : {A : Type 0} {x : A} → None ≡ Some x → ⊥
none_some e = cc

-- what holds of each item of a list, by its number
abbrev Each : {A : Type 0} → (ℕ → A → Type 0) → List A → Type 0
Each P [] = Unit {0}
Each P (x ∷ xs) = P zero x × Each (λ k. P (suc k)) xs

each : {A : Type 0} (P : ℕ → A → Type 0) (xs : List A) → Each P xs → (k : ℕ) (x : A) → slice_get xs k ≡ Some x → P k x
each P [] h k x e = absurd (none_some e)
each P (y ∷ ys) h zero x e = subst (P zero) (some_same e) h.0
each P (y ∷ ys) h (suc k) x e = each (λ k. P (suc k)) ys h.1 k x e

-- Roles that differ

input_assigned : (n : ℕ) → role.Input n ≡ role.Assigned → ⊥
input_assigned n e = cc

captured_assigned : (n : ℕ) → role.Captured n ≡ role.Assigned → ⊥
captured_assigned n e = cc

register_assigned : (n : ℕ) → role.Register n ≡ role.Assigned → ⊥
register_assigned n e = cc

input_register : (m n : ℕ) → role.Input m ≡ role.Register n → ⊥
input_register m n e = cc

assigned_register : (n : ℕ) → role.Assigned ≡ role.Register n → ⊥
assigned_register n e = cc

captured_register : (m n : ℕ) → role.Captured m ≡ role.Register n → ⊥
captured_register m n e = cc

input_captured : (m n : ℕ) → role.Input m ≡ role.Captured n → ⊥
input_captured m n e = cc

assigned_captured : (n : ℕ) → role.Assigned ≡ role.Captured n → ⊥
assigned_captured n e = cc

register_captured : (m n : ℕ) → role.Register m ≡ role.Captured n → ⊥
register_captured m n e = cc

assigned_input : (n : ℕ) → role.Assigned ≡ role.Input n → ⊥
assigned_input n e = cc

captured_input : (m n : ℕ) → role.Captured m ≡ role.Input n → ⊥
captured_input m n e = cc

register_input : (m n : ℕ) → role.Register m ≡ role.Input n → ⊥
register_input m n e = cc

same_register : (m n : ℕ) → role.Register m ≡ role.Register n → m ≡ n
same_register m n e = cc

same_captured : (m n : ℕ) → role.Captured m ≡ role.Captured n → m ≡ n
same_captured m n e = cc

-- The fields

assigned : (x : ℕ) → IsAssigned delayed.leaves x → (driver : Ground) × (driver_of delayed x ≡ Some driver)
assigned x a = each (λ x (l : Leaf). l.role ≡ role.Assigned → (driver : Ground) × (driver_of delayed x ≡ Some driver)) delayed.leaves
    (λ e. absurd (input_assigned 0 e), (λ e. absurd (input_assigned 1 e), (λ e. (ground.Leaf 4, refl), (λ e. absurd (captured_assigned 0 e), (λ e. absurd (register_assigned 0 e), tt)))))
    x a.leaf a.there a.is

undriven : (x : ℕ) (l : Leaf) → slice_get delayed.leaves x ≡ Some l → may_be_driven l.role ≡ false → driver_of delayed x ≡ None
undriven = each (λ x (l : Leaf). may_be_driven l.role ≡ false → driver_of delayed x ≡ None) delayed.leaves
    (λ e. refl, (λ e. refl, (λ e. absurd (true≢false e), (λ e. refl, (λ e. absurd (true≢false e), tt)))))

leaf_driver : (y : ℕ) (driver : Ground) → Some (ground.Leaf y) ≡ Some driver → shape driver (table_of delayed) ≡ (table_of delayed).leaf y
leaf_driver y driver e = ap (λ g. shape g (table_of delayed)) (sym (some_same e)) ∙ shape-Leaf y (table_of delayed)

shapes : (x : ℕ) (l : Leaf) → slice_get delayed.leaves x ≡ Some l → (driver : Ground) → driver_of delayed x ≡ Some driver → shape driver (table_of delayed) ≡ Some (leaf_shape l)
shapes = each (λ x (l : Leaf). (driver : Ground) → driver_of delayed x ≡ Some driver → shape driver (table_of delayed) ≡ Some (leaf_shape l)) delayed.leaves
    (λ g e. absurd (none_some e), (λ g e. absurd (none_some e), (λ g e. leaf_driver 4 g e, (λ g e. absurd (none_some e), (λ g e. leaf_driver 3 g e, tt)))))

registers : (x : ℕ) (l : Leaf) → slice_get delayed.leaves x ≡ Some l → (n : ℕ) → l.role ≡ role.Register n → (register : NetRegister) × (slice_get delayed.registers n ≡ Some register) × (register.leaf ≡ x)
registers = each (λ x (l : Leaf). (n : ℕ) → l.role ≡ role.Register n → (register : NetRegister) × (slice_get delayed.registers n ≡ Some register) × (register.leaf ≡ x)) delayed.leaves (
  λ n e. absurd (input_register 0 n e),
  (
    λ n e. absurd (input_register 1 n e),
    (
      λ n e. absurd (assigned_register n e),
      (
        λ n e. absurd (captured_register 0 n e),
        (λ n e. (record { leaf = 4; reset = None }, ap (slice_get delayed.registers) (sym (same_register 0 n e)), refl), tt),
      ),
    ),
  ),
)

abbrev one_capture : Capture
one_capture = record { number = 0; memory = delayed_memory; port = reader; after = false; element = 0; leaf = 3 }

captured : (x : ℕ) (l : Leaf) → slice_get delayed.leaves x ≡ Some l → (n : ℕ) → l.role ≡ role.Captured n → (c : Capture) × (slice_get (captures delayed) n ≡ Some c) × (c.leaf ≡ x)
captured = each (λ x (l : Leaf). (n : ℕ) → l.role ≡ role.Captured n → (c : Capture) × (slice_get (captures delayed) n ≡ Some c) × (c.leaf ≡ x)) delayed.leaves (
  λ n e. absurd (input_captured 0 n e),
  (
    λ n e. absurd (input_captured 1 n e),
    (
      λ n e. absurd (assigned_captured n e),
      (λ n e. (one_capture, ap (slice_get (captures delayed)) (sym (same_captured 0 n e)), refl), (λ n e. absurd (register_captured 0 n e), tt)),
    ),
  ),
)

given : (x : ℕ) (l : Leaf) → slice_get delayed.leaves x ≡ Some l → (n : ℕ) → l.role ≡ role.Input n → x < 3
given = each (λ x (l : Leaf). (n : ℕ) → l.role ≡ role.Input n → x < 3) delayed.leaves
    (λ n e. omega arith, (λ n e. omega arith, (λ n e. absurd (assigned_input n e), (λ n e. absurd (captured_input 0 n e), (λ n e. absurd (register_input 0 n e), tt)))))

-- The port

unsigned : (x : ℕ) (l : Leaf) → slice_get delayed.leaves x ≡ Some l → IsUnsigned delayed x
unsigned = each (λ x (l : Leaf). IsUnsigned delayed x) delayed.leaves (
  record { leaf = leaf 2 (role.Input 0); there = refl; is = refl },
  (
    record { leaf = leaf 1 (role.Input 1); there = refl; is = refl },
    (
      record { leaf = leaf 8 role.Assigned; there = refl; is = refl },
      (record { leaf = leaf 8 (role.Captured 0); there = refl; is = refl }, (record { leaf = leaf 8 (role.Register 0); there = refl; is = refl }, tt)),
    ),
  ),
)

abbrev the_read : NetRead
the_read = record { leaves = 3 ∷ []; captured = true; after = false }

read_elements : AreElements delayed delayed_memory (3 ∷ [])
read_elements = record {
  counted = refl;
  shapes = λ k x element e f. each (λ k x. (element : ElementLeaf) → slice_get delayed_memory.elements k ≡ Some element → (table_of delayed).leaf x ≡ Some (element_shape element)) (3 ∷ [])
      (λ element f. ap (λ element. Some (element_shape element)) (some_same f), tt) k x e element f;
}

reader_is : IsPort delayed delayed_memory reader
reader_is = record {
  addr = unsigned 0 (leaf 2 (role.Input 0)) refl;
  en = unsigned 1 (leaf 1 (role.Input 1)) refl;
  mode = λ x e. absurd (none_some e);
  both = λ write read e f. absurd (none_some e);
  of_both = λ x e. absurd (none_some e);
  written = λ write e. absurd (none_some e);
  masks = λ write e. absurd (none_some e);
  read = λ read e. subst (λ (read : NetRead). AreElements delayed delayed_memory read.leaves) (some_same e) read_elements;
  shown = λ read e early k x f. absurd (true≢false (ap (λ (read : NetRead). read.captured) (some_same e) ∙ early));
}

one_below : {A : Type 0} (x : A) (n k : ℕ) (y z : A) → n < k → slice_get (x ∷ []) n ≡ Some y → slice_get (x ∷ []) k ≡ Some z → ⊥
one_below x n (suc k) y z h e f = none_some f
one_below x n zero y z h e f = omega arith

abbrev the_register : NetRegister
the_register = record { leaf = 4; reset = None }

pub delayed_is : IsNet delayed
delayed_is = record {
  ports = omega arith;
  drivers = refl;
  assigned = assigned;
  undriven = undriven;
  shapes = λ x l driver e f. shapes x l e driver f;
  inputs = refl;
  register_leaves = each (λ n (register : NetRegister). HasRole delayed register.leaf (role.Register n)) delayed.registers (record { leaf = leaf 8 (role.Register 0); there = refl; is = refl }, tt);
  registers = λ x n h. registers x h.leaf h.there n h.is;
  registers_rise = λ n k register later h e f. absurd (one_below the_register n k register later h e f);
  captured_leaves = each (λ n (c : Capture). HasRole delayed c.leaf (role.Captured n)) (captures delayed) (record { leaf = leaf 8 (role.Captured 0); there = refl; is = refl }, tt);
  captured = λ x n h. captured x h.leaf h.there n h.is;
  captured_rise = λ n k c later h e f. absurd (one_below one_capture n k c later h e f);
  given = λ x n l there e. given x l there n e;
  resets = λ k register r e f. absurd (each (λ k (register : NetRegister). register.reset ≡ Some r → ⊥) delayed.registers (λ e. none_some e, tt) k register e f);
  before = each (λ m (memory : NetMemory). memory.before ≤ length delayed.leaves) delayed.memories (omega arith, tt);
  rising = λ m n memory later h e f. absurd (one_below delayed_memory m n memory later h e f);
  memories = λ m p memory port e f. each (λ m (memory : NetMemory). (p : ℕ) (port : NetPort) → slice_get memory.ports p ≡ Some port → IsPort delayed memory port) delayed.memories
      (each (λ p (port : NetPort). IsPort delayed delayed_memory port) (reader ∷ []) (reader_is, tt), tt) m memory e p port f;
}

pub delayed_words : SaysItsWords delayed
delayed_words = each (λ m (memory : NetMemory). memory.word ≡ memory_word delayed m) delayed.memories (refl, tt)

-- The order

output : IsAssigned delayed.leaves 2
output = record { leaf = leaf 8 role.Assigned; there = refl; is = refl }

reads_register : (w : ℕ) → Reads delayed 2 w → w ≡ 4
reads_register w r = by_one (subst (λ ys. Contains ys w) (mentions-Leaf 4) r)
  where
    by_one : Contains (4 ∷ []) w → w ≡ 4
    by_one (zero, below, is) = sym is
    by_one (suc k, below, is) = absurd (omega arith)

register_is_none : (w : ℕ) → w ≡ 4 → IsAssigned delayed.leaves w → ⊥
register_is_none w e a =
    let there : slice_get delayed.leaves 4 ≡ Some a.leaf = ap (slice_get delayed.leaves) (sym e) ∙ a.there in
    register_assigned 0 (ap (λ (l : Leaf). l.role) (some_same there) ∙ a.is)

only : (k : ℕ) → k < 1 → IsAssigned delayed.leaves (slice_index (2 ∷ []) k)
only zero h = output
only (suc k) h = absurd (omega arith)

after : (k w : ℕ) → k < 1 → Reads delayed (slice_index (2 ∷ []) k) w → IsAssigned delayed.leaves w → ⊥
after zero w h r a = register_is_none w (reads_register w r) a
after (suc k) w h r a = omega arith

all : (x : ℕ) (l : Leaf) → slice_get delayed.leaves x ≡ Some l → l.role ≡ role.Assigned → (k : ℕ) × (k < 1) × (slice_index (2 ∷ []) k ≡ x)
all = each (λ x (l : Leaf). l.role ≡ role.Assigned → (k : ℕ) × (k < 1) × (slice_index (2 ∷ []) k ≡ x)) delayed.leaves
    (λ e. absurd (input_assigned 0 e), (λ e. absurd (input_assigned 1 e), (λ e. (0, omega arith, refl), (λ e. absurd (captured_assigned 0 e), (λ e. absurd (register_assigned 0 e), tt)))))

pub delayed_order : IsOrder delayed (2 ∷ [])
delayed_order = record {
  only = only;
  once = λ j k h below. absurd (omega arith);
  after = λ k w h r a. absurd (after k w h r a);
  all = λ x a. all x a.leaf a.there a.is;
}
