-- Whatever sinks leave: a word of a register is published as the next state has it.
use Rattle.std.proofs.Common.{◌≡◌, ℕ, ◌+◌, ◌/◌, ◌%◌, ◌^◌, ◌≤◌, Bool, true, false, List, [], ◌∷◌, length, set, slice_index, slice_get, nat_lt, Option, Some, None, if◌then◌else◌, refl, sym, ◌∙◌, arith, length-set, get_or-set_same, get_or-set_other}
use Rattle.bit_words.specs.declared.value.Value.{Value}
use Rattle.phase_core.specs.declared.model.Publication.{Publication}
use Rattle.phase_core.specs.Script.{published}
use Rattle.prim_ops.specs.Values.{fitted}
use Rattle.ground_net.specs.declared.net.Net.{Net}
use Rattle.ground_net.specs.declared.net.NetRegister.{NetRegister}
use Rattle.ground_net.specs.Grounds.{Instant}
use Rattle.ground_net.specs.Cones.{Sink, A_watched, A_register, A_memory}
use Rattle.ground_net.specs.Cycles.{NetState, next}
use Rattle.ground_net.specs.Nets.{IsNet, IsWithin}
use Rattle.ground_net.specs.Words.{words_of_value, words_of, register_word}
use Rattle.ground_net.proofs.Placing.{kept_length}
use Rattle.flat_code.specs.Meaning.{stored}
use Rattle.partition_code.specs.Effects.{HasWord, of_elements, of_capture, register_shape, register_told, sink_told, sinks_told}
use Rattle.partition_code.proofs.Lists.{Each, each_none, each_cons, each_flat}
use Rattle.partition_code.proofs.Parts.{register_shape_at, register_part}
use Rattle.partition_code.proofs.Told.{told_own}
use Rattle.partition_code.specs.Codes.{register_words}
use Rattle.partition_code.proofs.Back.{again}
use Rattle.partition_code.proofs.Placed.{words_counted}
use Rattle.partition_code.proofs.Nexts.{word_next}
use Rattle.partition_code.proofs.Changes.{Right}

-- a publication that stands once all are made
abbrev Stands : List ℕ → Publication → Type 0
Stands after p = p.value ≡ slice_index after p.word

-- the words of a value that is stored stand
stored_stands : (at : ℕ) (v : Value) (words : List ℕ) → at + length (words_of_value v) ≤ length words → Each (Stands (published (stored at v) words)) (stored at v)
stored_stands at v words = by_test (nat_lt 64 v.width)
  where
    low : ℕ
    low = v.bits % 2 ^ 64

    high : ℕ
    high = v.bits / 2 ^ 64

    by_test : (b : Bool) → at + length (if b then v.bits % 2 ^ 64 ∷ v.bits / 2 ^ 64 ∷ [] else v.bits ∷ []) ≤ length words
        → Each (Stands (published (if b then record { word = at; value = v.bits % 2 ^ 64 } ∷ record { word = at + 1; value = v.bits / 2 ^ 64 } ∷ [] else record { word = at; value = v.bits % 2 ^ 64 } ∷ []) words))
        (if b then record { word = at; value = v.bits % 2 ^ 64 } ∷ record { word = at + 1; value = v.bits / 2 ^ 64 } ∷ [] else record { word = at; value = v.bits % 2 ^ 64 } ∷ [])
    by_test true room =
        let l = length-set words at low in
        let after = set (set words at low) (at + 1) high in
        each_cons (Stands after) (record { word = at; value = v.bits % 2 ^ 64 }) (record { word = at + 1; value = v.bits / 2 ^ 64 } ∷ [])
        (sym (get_or-set_other (set words at low) (at + 1) at high 0 (λ e. omega (arith, e)) ∙ get_or-set_same words at low 0 (omega (arith, room))))
        (each_cons (Stands after) (record { word = at + 1; value = v.bits / 2 ^ 64 }) [] (sym (get_or-set_same (set words at low) (at + 1) high 0 (omega (arith, room, l)))) (each_none (Stands after)))
    by_test false room =
        let after = set words at low in
        each_cons (Stands after) (record { word = at; value = v.bits % 2 ^ 64 }) [] (sym (get_or-set_same words at low 0 (omega (arith, room)))) (each_none (Stands after))

-- the words of memories and of captured reads stand behind those of registers
behind_registers : (net : Net) (m i : ℕ) → HasWord net (A_memory m) i → register_words net ≤ i
behind_registers net m i (of_elements memory there from below) = omega (arith, from)
behind_registers net m i (of_capture n c there number is) = let from = is.0 in omega (arith, from)

module _ (net : Net) (w : IsNet net) (s : NetState) (inside : IsWithin net s) (instant : Instant) where
  abbrev Words : List ℕ
  Words = words_of net s

  abbrev Later : List ℕ
  Later = words_of net (next net s instant)

  register_stands : (n : ℕ) (o : Option NetRegister) → slice_get net.registers n ≡ o → Each (Stands (published (register_told net (again net s) instant n o) Words)) (register_told net (again net s) instant n o)
  register_stands n None e = each_none (Stands Words)
  register_stands n (Some register) e =
      let t = register_shape net register in
      let v = (next net (again net s) instant).registers n in
      let part = register_part net n t (register_shape_at net n register e) in
      let counted = words_counted net s in
      let long = kept_length t v in
      stored_stands (register_word net n) (fitted t.kind t.width v) Words (omega (arith, part, counted, long))

  right_told : (sink : Sink) → Each (Right (register_words net) Later) (sink_told net (again net s) instant sink)
  right_told (A_watched x) = each_none (Right (register_words net) Later)
  right_told (A_register n) = λ k p e lt.
      register_stands n (slice_get net.registers n) refl k p e ∙ word_next net w s inside instant (A_register n) p.word (told_own net (again net s) instant (A_register n) k p e).has
  right_told (A_memory m) = λ k p e lt.
      let from = behind_registers net m p.word (told_own net (again net s) instant (A_memory m) k p e).has in
      absurd (omega (arith, from, lt))

  pub all_right : (these : List Sink) → Each (Right (register_words net) Later) (sinks_told net (again net s) instant these)
  all_right these = each_flat (Right (register_words net) Later) (sink_told net (again net s) instant) these (λ k sink e. right_told sink)
