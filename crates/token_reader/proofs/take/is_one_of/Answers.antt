use Rattle.std.proofs.Common.{rules, ◌≡◌, ◌<◌, ℕ, List, [], length, map, Bor, get_or, slice_index_or, arith, sym, ◌∙◌, ⊎_elim, bytes_eq, true, false}
use Rattle.std.proofs.lemmas.Bool.{cases_lt}
use Rattle.std.proofs.lemmas.List.{length-map}
use Rattle.std.proofs.lemmas.Slice.Eq.{bytes_eq-Decides}
use Rattle.std.proofs.lemmas.Grind.{common_steps}
use Rattle.token_reader.proofs.take.is_one_of.Goals as goal

text_at : (words : List (Bor (List ℕ))) (k : ℕ) (d : Bor (List ℕ)) (word : List ℕ) → k < length words → slice_index_or (map (λ text. text.now) words) k word ≡ (get_or words k d).now
text_at words k d word h = grind (arith, common_steps)

no_text : (xs ys : List ℕ) → false ≡ bytes_eq xs ys → xs ≡ ys → ⊥
no_text xs ys differ same = let equal : bytes_eq xs ys ≡ true = (bytes_eq-Decides xs ys).1 same in cc

pub returns-then-eq : goal.returns-then-eq
returns-then-eq c = (
  λ t. (
    c.loop-listed.listed-index,
    rw length-map c.loop-listed-test.true,
    text_at c.args.words.now c.loop-listed.listed-index (record { ref_ptr = (0, 0); now = [] }) c.args.word.now c.loop-listed-test.true ∙ sym c.as_bytes.ensures.value
        ∙ (bytes_eq-Decides c.as_bytes.result.now c.args.word.now).0 (sym c.if-eq.ensures),
  ),
  λ h. search rules,
)

pub loop-listed-preserved : goal.loop-listed-preserved
loop-listed-preserved c = λ k h e. ⊎_elim (λ before. c.loop-listed.invariant k before e)
    (λ here. let same : k ≡ c.loop-listed.listed-index = omega (arith, h, here) in
    let text = text_at c.args.words.now c.loop-listed.listed-index (record { ref_ptr = (0, 0); now = [] }) c.args.word.now c.loop-listed-test.true in
    no_text c.as_bytes.result.now c.args.word.now c.if-eq.ensures (c.as_bytes.ensures.value ∙ sym text ∙ (rw same at e))) (cases_lt k c.loop-listed.listed-index)
