-- The words of sources are among those of a state.
use Rattle.std.proofs.Common.{◌≡◌, ⊎_elim, ℕ, ◌+◌, ◌*◌, ◌<◌, ◌≤◌, take, slice_get, Some, option_map, sym, subst, ap, ◌∙◌, arith}
use Rattle.std.proofs.lemmas.Option.{slice_get-map}
use Rattle.ground_net.specs.declared.net.Net.{Net}
use Rattle.ground_net.specs.declared.net.Leaf.{Leaf}
use Rattle.ground_net.specs.declared.net.NetRegister.{NetRegister}
use Rattle.ground_net.specs.declared.net.Role.TheVariants as role
use Rattle.ground_net.specs.Shapes.{Shape}
use Rattle.ground_net.specs.Cycles.{Capture, captures}
use Rattle.ground_net.specs.Nets.{IsNet, leaf_shape, element_shape, element_shapes, register_shapes, captured_shapes, shape_or_none}
use Rattle.ground_net.specs.Words.{word_count, count_words, register_word, captured_word, memory_word, memory_words, element_words, state_words}
use Rattle.flat_code.specs.Fine.{InRegion, further_words}
use Rattle.partition_code.proofs.Parts.{further_is, register_part, memory_part, captured_part, element_part}
use Rattle.code_draft.specs.declared.draft.Draft.{Draft}
use Rattle.code_draft.specs.declared.sources.Source.{Source}
use Rattle.code_draft.specs.declared.sources.Source.TheVariants as source
use Rattle.code_draft.specs.declared.sources.Sources.{Sources}
use Rattle.code_draft.specs.declared.sources.Elements.{Elements}
use Rattle.code_emit.specs.Emits.{kept_shape, Fits, AreSources}
use Rattle.partition_code.specs.FromNets.{IsFrom, HasElements, AreOf}

module _ (net : Net) (w : IsNet net) (d : Draft) (counted : d.words ≡ state_words net) where
  register_leaf : (x n : ℕ) (leaf : Leaf) → slice_get net.leaves x ≡ Some leaf → leaf.role ≡ role.Register n → slice_get (register_shapes net) n ≡ Some (leaf_shape leaf)
  register_leaf x n leaf there is =
      let r = w.registers x n (record { leaf = leaf; there = there; is = is }) in
      slice_get-map (λ (register : NetRegister). shape_or_none (slice_get net.leaves register.leaf)) net.registers n
      ∙ (ap (option_map (λ (register : NetRegister). shape_or_none (slice_get net.leaves register.leaf))) r.1
      ∙ ap (λ o. Some (shape_or_none o)) (ap (slice_get net.leaves) r.2 ∙ there))

  captured_leaf : (x n : ℕ) (leaf : Leaf) → slice_get net.leaves x ≡ Some leaf → leaf.role ≡ role.Captured n → slice_get (captured_shapes net) n ≡ Some (leaf_shape leaf)
  captured_leaf x n leaf there is =
      let r = w.captured x n (record { leaf = leaf; there = there; is = is }) in
      slice_get-map (λ (c : Capture). shape_or_none (slice_get net.leaves c.leaf)) (captures net) n
      ∙ (ap (option_map (λ (c : Capture). shape_or_none (slice_get net.leaves c.leaf))) r.1
      ∙ ap (λ o. Some (shape_or_none o)) (ap (slice_get net.leaves) r.2 ∙ there))

  -- a leaf's words
  kept_in : (s t : Shape) (number at : ℕ) → s ≡ t → number ≡ at → at + word_count t ≤ state_words net → number + further_words s.width < d.words
  kept_in s t number at same is within =
      let counts : word_count t ≡ further_words s.width + 1 = subst (λ u. word_count t ≡ further_words u.width + 1) (sym same) (further_is t) in
      plain number at (further_words s.width) (word_count t) (state_words net) d.words is counts within counted
    where
      plain : (n a f c m d : ℕ) → n ≡ a → c ≡ f + 1 → a + c ≤ m → d ≡ m → n + f < d
      plain n a f c m d e g h i = omega (arith, e, g, h, i)

  pub fits : (x : ℕ) (leaf : Leaf) (src : Source) → slice_get net.leaves x ≡ Some leaf → IsFrom net leaf src → Fits d src
  fits x leaf (source.Word k) there h = ⊎_elim
      (λ r. kept_in (kept_shape k) (leaf_shape leaf) k.number (register_word net h.1) h.0 r.1 (register_part net h.1 (leaf_shape leaf) (register_leaf x h.1 leaf there r.0)))
      (λ r. kept_in (kept_shape k) (leaf_shape leaf) k.number (captured_word net h.1) h.0 r.1 (captured_part net h.1 (leaf_shape leaf) (captured_leaf x h.1 leaf there r.0)))
      h.2
  fits x leaf (source.Input k) there h = tt
  fits x leaf (source.Constant c) there h = tt
  fits x leaf (source.Frame s) there h = absurd h

  pub regions : (m k : ℕ) (e : Elements) → HasElements net m k e → InRegion d.words e.width e.region
  regions m k e h = λ b lt.
      let s = element_shape h.leaf in
      let at : slice_get (element_shapes h.memory) k ≡ Some s = slice_get-map element_shape h.memory.elements k ∙ ap (option_map element_shape) h.at in
      let inside = element_part h.memory b k s (subst (λ n. b < n) h.depth lt) at in
      let whole = memory_part net m h.memory h.there in
      let counts : word_count s ≡ further_words e.width + 1 = subst (λ u. word_count s ≡ further_words u.width + 1) (sym h.shape) (further_is s) in
      let rows : b * e.region.stride ≡ b * element_words h.memory = ap (λ n. b * n) h.stride in
      plain e.region.base (b * e.region.stride) (further_words e.width) (memory_word net m) (element_words h.memory) (count_words (take k (element_shapes h.memory))) (b * element_words h.memory) (word_count s)
      (memory_words h.memory) (state_words net) d.words h.base rows counts inside whole counted
    where
      plain : (base bs f m ew t bw c mw all d : ℕ) → base ≡ m + (0 * ew + t) → bs ≡ bw → c ≡ f + 1 → bw + t + c ≤ mw → m + mw ≤ all → d ≡ all → base + bs + f < d
      plain base bs f m ew t bw c mw all d e g h i j l = let z : 0 * ew ≡ 0 = omega arith in omega (arith, e, g, h, i, j, l, z)

  pub among : (S : Sources) → AreOf net S → AreSources S d
  among S of = record {
    leaves = λ x src e. let h = of.leaves x src e in fits x h.leaf src h.there h.is;
    regions = λ m k e at. regions m k e (of.elements m k e at);
  }
