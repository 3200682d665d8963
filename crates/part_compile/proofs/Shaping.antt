-- What a register needs is known.
use Rattle.std.proofs.Common.{◌≡◌, ◌⊎◌, inl, inr, ⊎_elim, ℕ, zero, suc, ◌<◌, List, [], ◌∷◌, ◌++◌, length, get_or, slice_get, slice_index, Option, Some, None, option_map, refl, sym, subst, ap, ◌∙◌, arith}
use Rattle.std.specs.Prelude.{Contains, All, IsSome}
use Rattle.std.proofs.lemmas.Option.{slice_get_cases}
use Rattle.std.proofs.lemmas.List.Elements.{Contains-append_cases, Contains-append_left, Contains-append_right}
use Rattle.ground_net.specs.declared.ground.Ground.{Ground}
use Rattle.ground_net.specs.declared.ground.Ground.TheVariants.{Leaf as LeafOf}
use Rattle.ground_net.specs.declared.net.Net.{Net}
use Rattle.ground_net.specs.declared.net.Leaf.{Leaf}
use Rattle.ground_net.specs.declared.net.NetRegister.{NetRegister}
use Rattle.ground_net.specs.declared.net.NetReset.{NetReset}
use Rattle.ground_net.specs.declared.net.Role.{Role}
use Rattle.ground_net.specs.declared.net.Role.TheVariants as role
use Rattle.ground_net.specs.Grounds.{mentions}
use Rattle.ground_net.specs.Reads.{IsAssigned, driver_of}
use Rattle.ground_net.specs.Cones.{Sink, A_watched, A_register, InCone, needs, needs_of_register, register_needs, mentioned_by, mentioned_by_reset, needed}
use Rattle.ground_net.proofs.Layers.{mentions-Leaf, mentions-Mux}
use Rattle.ground_net.specs.Shapes.{Shape, shape}
use Rattle.ground_net.specs.Nets.{IsNet, leaf_shape, shape_or_none, table_of}
use Rattle.ground_net.specs.Words.{state_words}
use Rattle.ground_net.proofs.Shaping.{shape-Leaf}
use Rattle.partition_code.proofs.Parts.{word_below}
use Rattle.code_emit.proofs.Shaped.{some_is}
use Rattle.code_memories.specs.Nexts.{driven_ground, reset_ground, next_ground}
use Rattle.code_memories.proofs.NextValues.{next_shape}
use Rattle.partition_code.specs.Effects.{register_shape}
use Rattle.code_draft.specs.declared.sources.Sources.{Sources}
use Rattle.code_emit.specs.Emits.{sources_table}
use Rattle.code_memories.specs.Telling.{IsNextShaped, HaveWords}
use Rattle.part_compile.specs.Knowing.{Knows}
use Rattle.part_compile.proofs.InTurn.{known_shape}

some_same : {A : Type 0} {x y : A} → Some x ≡ Some y → x ≡ y
some_same e = cc

none_here : (x : ℕ) → Contains {X = ℕ} [] x → ⊥
none_here x (k, below, is) = omega (arith, below)

only_one : (x y : ℕ) → Contains (x ∷ []) y → x ≡ y
only_one x y (k, below, is) = let e : k ≡ 0 = omega (arith, below) in rw e at is

driven_mentions : (x : ℕ) (o : Option Ground) (y : ℕ) → Contains (mentions (driven_ground x o)) y → (x ≡ y) ⊎ Contains (mentioned_by o) y
driven_mentions x (Some g) y c = inr c
driven_mentions x None y c = inl (only_one x y (subst (λ ys. Contains ys y) (mentions-Leaf x) c))

reset_mentions : (o : Option NetReset) (g : Ground) (y : ℕ) → Contains (mentions (reset_ground o g)) y → Contains (mentions g) y ⊎ Contains (mentioned_by_reset o) y
reset_mentions None g y c = inl c
reset_mentions (Some r) g y c = ⊎_elim
    (λ h. inr (Contains-append_left (mentions r.reset) (mentions r.init) y h))
    (λ h. ⊎_elim
    (λ i. inr (Contains-append_right (mentions r.reset) (mentions r.init) y i))
    (λ i. ⊎_elim (λ j. inl j) (λ j. absurd (none_here y j)) (Contains-append_cases (mentions g) [] y i))
    (Contains-append_cases (mentions r.init) (mentions g ++ []) y h))
    (Contains-append_cases (mentions r.reset) (mentions r.init ++ (mentions g ++ [])) y (subst (λ ys. Contains ys y) (mentions-Mux (r.reset ∷ r.init ∷ g ∷ [])) c))

roles_differ : (r : Role) (n : ℕ) → r ≡ role.Register n → r ≡ role.Assigned → ⊥
roles_differ r n e f = cc

module _ (net : Net) (w : IsNet net) (n : ℕ) (register : NetRegister) (there : slice_get net.registers n ≡ Some register) where
  next_needs : (y : ℕ) → Contains (mentions (next_ground register (driver_of net register.leaf))) y → IsAssigned net.leaves y → Contains (needs net (A_register n)) y
  next_needs y c a =
      let d = driver_of net register.leaf in
      let own = w.register_leaves n register there in
      subst (λ o. Contains (needs_of_register net o) y) (sym there)
      (⊎_elim
      (λ h. ⊎_elim
      (λ same. absurd (roles_differ own.leaf.role n own.is (ap (λ (l : Leaf). l.role) (some_same (sym own.there ∙ (ap (slice_get net.leaves) same ∙ a.there))) ∙ a.is)))
      (λ i. Contains-append_left (mentioned_by d) (mentioned_by_reset register.reset) y i)
      (driven_mentions register.leaf d y h))
      (λ h. Contains-append_right (mentioned_by d) (mentioned_by_reset register.reset) y h)
      (reset_mentions register.reset (driven_ground register.leaf d) y c))

  pub next_shaped : (S : Sources) → Knows net (InCone net (A_register n)) (sources_table S) → IsNextShaped net S n
  next_shaped S known =
      let own = w.register_leaves n register there in
      let g = next_ground register (driver_of net register.leaf) in
      let at : (table_of net).leaf register.leaf ≡ Some (leaf_shape own.leaf) = ap (option_map leaf_shape) own.there in
      let same : leaf_shape own.leaf ≡ register_shape net register = ap shape_or_none (sym own.there) in
      record {
        register = register;
        there = there;
        shaped = known_shape net (InCone net (A_register n)) (sources_table S) g (register_shape net register) known (next_shape net register n w there ∙ (at ∙ ap Some same))
            (λ y c a. needed (next_needs y c a) a);
      }

-- a watched leaf has a kind and a width
leaf_some : (o : Option Leaf) (leaf : Leaf) → o ≡ Some leaf → option_map leaf_shape o ≡ Some (leaf_shape leaf)
leaf_some o leaf e = ap (option_map leaf_shape) e

pub found : {A : Type 0} (xs : List A) (k : ℕ) → k < length xs → (x : A) × (slice_get xs k ≡ Some x)
found xs k lt = ⊎_elim (λ here. (here.0, here.2)) (λ past. absurd (omega (arith, lt, past.0))) (slice_get_cases xs k).1

pub watched_shaped : (net : Net) (watch : List ℕ) (S : Sources) (k x : ℕ) → All (λ y. y < length net.leaves) watch → k < length watch → slice_index watch k ≡ x → Knows net (InCone net (A_watched x)) (sources_table S)
    → IsSome (shape (LeafOf x) (sources_table S))
watched_shaped net watch S k x all lt at known =
    let below : x < length net.leaves = subst (λ y. y < length net.leaves) at (all k 0 lt) in
    let leaf = found net.leaves x below in
    some_is (shape (LeafOf x) (sources_table S)) (leaf_shape leaf.0)
    (shape-Leaf x (sources_table S) ∙ (known.leaf x (λ a. needed (0, omega arith, refl) a) ∙ leaf_some (slice_get net.leaves x) leaf.0 leaf.1))

-- the words of one sink are among the shared words
pub one_has_words : (net : Net) (words : ℕ) (sink : Sink) → words ≡ state_words net → HaveWords net words (sink ∷ [])
one_has_words net words sink counted = λ it i there has. let lt = word_below net it i has in omega (arith, lt, counted)

-- the item of a list of one
pub only_item : {A : Type 0} (P : A → Type 0) (x d : A) (k : ℕ) → k < length (x ∷ []) → P x → P (get_or (x ∷ []) k d)
only_item P x d zero lt p = p
only_item P x d (suc k) lt p = absurd (omega (arith, lt))
