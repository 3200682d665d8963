-- The publications of all codes of a cut lead to the words of the next state.
use Rattle.std.proofs.Common.{◌≡◌, ℕ, suc, ◌<◌, ◌≤◌, List, [], ◌∷◌, map, length, slice_get, Some, refl, sym, subst, ap, ap₂, ◌∙◌, arith}
use Rattle.bit_words.specs.declared.value.Value.{Value}
use Rattle.phase_core.specs.declared.model.Publication.{Publication}
use Rattle.phase_core.specs.Script.{published_all}
use Rattle.phase_core.proofs.Values.{length-published_all}
use Rattle.ground_net.specs.declared.net.Net.{Net}
use Rattle.ground_net.specs.Grounds.{Instant}
use Rattle.ground_net.specs.Cycles.{NetState, Inputs, Valuation, Settled, instant_of, next}
use Rattle.ground_net.specs.Nets.{IsWithin}
use Rattle.ground_net.specs.Words.{words_of}
use Rattle.flat_code.specs.declared.code.Code.{Code}
use Rattle.flat_code.specs.Meaning.{changed}
use Rattle.flat_code.specs.Codes.{published_by}
use Rattle.partition_code.specs.FromNets.{MatchInputs}
use Rattle.partition_code.specs.Effects.{sinks_told}
use Rattle.partition_code.specs.Codes.{register_words, sinks_of_part, AreOfOneCut}
use Rattle.partition_code.proofs.Standing.{each_word}
use Rattle.partition_code.proofs.SplitParts.{left_by_sink}
use Rattle.partition_code.proofs.Publishing.{same_list}
use Rattle.partition_code.proofs.Back.{again, instant_again}
use Rattle.partition_code.proofs.Placed.{words_counted}
use Rattle.partition_code.proofs.StateCycles.{cycle_of}
use Rattle.partition_code.proofs.Nexts.{word_next}
use Rattle.partition_code.proofs.Changes.{changed_suffice}
use Rattle.partition_code.proofs.Registers.{all_right}

-- what is made of two lists is the same where it is item by item
same_maps : {A B C : Type 0} (f : A → C) (g : B → C) (xs : List A) (ys : List B) → length xs ≡ length ys → ((k : ℕ) (y : B) (x : A) → slice_get ys k ≡ Some y → slice_get xs k ≡ Some x → f x ≡ g y) → map f xs ≡ map g ys
same_maps f g [] [] e each = refl
same_maps f g [] (y ∷ ys) e each = absurd (omega (arith, e))
same_maps f g (x ∷ xs) [] e each = absurd (omega (arith, e))
same_maps f g (x ∷ xs) (y ∷ ys) e each = ap₂ (λ z zs. z ∷ zs) (each 0 y x refl refl) (same_maps f g xs ys (omega (arith, e)) (λ k. each (suc k)))

module _ (codes : List Code) (cut : AreOfOneCut codes) (s : NetState) (inside : IsWithin cut.ordered.net s) where
  abbrev TheNet : Net
  TheNet = cut.ordered.net

  abbrev Words : List ℕ
  Words = words_of cut.ordered.net s

  abbrev Told : Instant → List (List Publication)
  Told instant = map (λ part. sinks_told cut.ordered.net (again cut.ordered.net s) instant (sinks_of_part cut.ordered.net cut.watch part)) cut.parts

  -- what all parts leave
  parts_next : (instant : Instant) → published_all (Told instant) Words ≡ words_of TheNet (next TheNet s instant)
  parts_next instant =
      let counted = length-published_all (Told instant) Words ∙ words_counted TheNet s in
      same_list (published_all (Told instant) Words) (words_of TheNet (next TheNet s instant)) (counted ∙ sym (words_counted TheNet (next TheNet s instant))) (λ i lt.
      let h = each_word TheNet cut.net cut.watch i (subst (λ n. i < n) counted lt) in
      left_by_sink cut.ordered cut.net cut.watch cut.parts cut.split (again TheNet s) instant i h.0 h.2 Words ∙ word_next TheNet cut.net s inside instant h.0 i h.2)

  -- the words of registers are among them
  registers_there : register_words TheNet ≤ length Words
  registers_there = let counted = words_counted TheNet s in omega (arith, counted)

  abbrev Changed : Instant → List (List Publication)
  Changed instant = map (λ part. changed (register_words cut.ordered.net) Words (sinks_told cut.ordered.net (again cut.ordered.net s) instant (sinks_of_part cut.ordered.net cut.watch part))) cut.parts

  -- and what of it changes
  changes_next : (instant : Instant) → published_all (Changed instant) Words ≡ words_of TheNet (next TheNet s instant)
  changes_next instant =
      changed_suffice (register_words TheNet) Words (words_of TheNet (next TheNet s instant)) (λ part. sinks_told TheNet (again TheNet s) instant (sinks_of_part TheNet cut.watch part))
      (λ part. all_right TheNet cut.net s inside instant (sinks_of_part TheNet cut.watch part)) cut.parts registers_there
      ∙ parts_next instant

  pub next_words : (inputs : List Value) (given : Inputs) → MatchInputs cut.ordered.net inputs given → (rho : Valuation) → Settled cut.ordered.net s given rho
      → published_all (map (λ code. published_by code (words_of cut.ordered.net s) inputs) codes) (words_of cut.ordered.net s) ≡ words_of cut.ordered.net (next cut.ordered.net s (instant_of cut.ordered.net s rho))
  next_words inputs given matched rho settled =
      let cycle = cycle_of TheNet s cut.net inside inputs given matched rho settled in
      ap (λ rounds. published_all rounds Words)
      (same_maps (λ code. published_by code Words inputs) (λ part. changed (register_words TheNet) Words (sinks_told TheNet (again TheNet s) (instant_of TheNet s rho) (sinks_of_part TheNet cut.watch part))) codes cut.parts cut.codes_of.counted
      (λ k part code e f. (cut.codes_of.each k part code e f).publications Words inputs rho cycle
      ∙ ap (λ instant. changed (register_words TheNet) Words (sinks_told TheNet (again TheNet s) instant (sinks_of_part TheNet cut.watch part))) (instant_again TheNet s inside rho)))
      ∙ changes_next (instant_of TheNet s rho)
