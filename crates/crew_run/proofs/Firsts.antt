-- The words of the first state are 0.
use Rattle.std.proofs.Common.{◌≡◌, ℕ, ◌%◌, ◌/◌, ◌^◌, ◌<◌, Bool, true, false, List, [], ◌∷◌, length, get_or, slice_index_or, replicate, min, nat_lt, if◌then◌else◌, pos, refl, sym, subst, ◌∙◌, pow_pos}
use Rattle.std.specs.List.{flat_map, range_with_len}
use Rattle.std.proofs.Math.Nat.{mod-eq_of_lt}
use Rattle.std.proofs.lemmas.List.{ext_get_or, get_or-replicate, length-replicate}
use Rattle.std.proofs.lemmas.Option.{slice_get-get_or}
use Rattle.ground_net.specs.declared.net.Net.{Net}
use Rattle.ground_net.specs.Cones.{numbered}
use Rattle.ground_net.specs.Shapes.{Shape}
use Rattle.ground_net.specs.Cycles.{first_state}
use Rattle.ground_net.specs.Nets.{register_shapes, element_shapes, captured_shapes}
use Rattle.ground_net.specs.Words.{kept, kept_all, words_of_memory, words_of, state_words}
use Rattle.partition_code.proofs.Lists.{Each, each_none, each_cons, each_append, each_flat}
use Rattle.flat_code.specs.declared.code.Code.{Code}
use Rattle.ground_net.specs.declared.net.CutPart.{CutPart}
use Rattle.partition_code.specs.Codes.{AreCodesOf}
use Rattle.partition_code.proofs.Placed.{words_counted}
use Rattle.circuit_run.proofs.Lists.{get_item}

abbrev IsZero : ℕ → Type 0
IsZero n = n ≡ 0

zero_value : (t : Shape) → Each IsZero (kept t (pos 0))
zero_value t =
    let bits : 0 % 2 ^ min t.width 128 ≡ 0 = mod-eq_of_lt (pow_pos (min t.width 128)) in
    subst (λ b. Each IsZero (if nat_lt 64 (min t.width 128) then b % 2 ^ 64 ∷ b / 2 ^ 64 ∷ [] else b ∷ [])) (sym bits) (by_test (nat_lt 64 (min t.width 128)))
  where
    by_test : (b : Bool) → Each IsZero (if b then 0 % 2 ^ 64 ∷ 0 / 2 ^ 64 ∷ [] else 0 ∷ [])
    by_test true = each_cons IsZero 0 (0 ∷ []) refl (each_cons IsZero 0 [] refl (each_none IsZero))
    by_test false = each_cons IsZero 0 [] refl (each_none IsZero)

zero_all : (shapes : List Shape) → Each IsZero (kept_all shapes (λ k. pos 0))
zero_all shapes = each_flat IsZero (λ both. kept both.1 (pos 0)) (numbered shapes) (λ k both e. zero_value both.1)

module _ (net : Net) where
  zero_words : Each IsZero (words_of net first_state)
  zero_words =
      each_append IsZero (kept_all (register_shapes net) first_state.registers) _ (zero_all (register_shapes net))
      (each_append IsZero (flat_map (λ both. words_of_memory both.1 (first_state.contents both.0)) (numbered net.memories)) _
      (each_flat IsZero (λ both. words_of_memory both.1 (first_state.contents both.0)) (numbered net.memories) (λ k both e.
      each_flat IsZero (λ element. kept_all (element_shapes both.1) (first_state.contents both.0 element)) (range_with_len 0 both.1.depth) (λ j element f. zero_all (element_shapes both.1))))
      (zero_all (captured_shapes net)))

  pub first_words_are : words_of net first_state ≡ replicate (state_words net) 0
  first_words_are =
      let many = words_counted net first_state in
      ext_get_or 0 (words_of net first_state) (replicate (state_words net) 0) (many ∙ sym (length-replicate (state_words net) 0))
      (λ i lt. zero_words i (get_or (words_of net first_state) i 0) (slice_get-get_or (words_of net first_state) i 0 lt)
      ∙ sym (get_or-replicate (state_words net) i 0 0 (subst (λ n. i < n) many lt)))

-- the words that a code of a part runs over are those of the state
pub code_words : (net : Net) (watched : List ℕ) (parts : List CutPart) (codes : List Code) → AreCodesOf net watched parts codes → (k : ℕ) (d : Code) → k < length codes → (slice_index_or codes k d).words ≡ state_words net
code_words net watched parts codes of k d lt =
    let part = get_item parts k (subst (λ n. k < n) of.counted lt) in
    (of.each k part.0 (slice_index_or codes k d) part.1 (slice_get-get_or codes k d lt)).words
