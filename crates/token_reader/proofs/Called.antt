-- A word with its `(` is listed where the word is.
use Rattle.std.proofs.Common.{◌≡◌, ℕ, ◌<◌, List, [], ◌++◌, length, map, Contains, slice_index_or, codes, sym, ◌∙◌, ap, arith}
use Rattle.std.proofs.lemmas.List.{length-map, append_cancel_right}
use Rattle.std.proofs.lemmas.Grind.{common_steps}

called_at : (words : List (List ℕ)) (k : ℕ) (word call : List ℕ) → k < length words → slice_index_or (map (λ text. text ++ codes "(") words) k call ≡ slice_index_or words k word ++ codes "("
called_at words k word call h = grind (arith, common_steps)

pub call_listed : (words : List (List ℕ)) (word call : List ℕ) → call ≡ word ++ codes "(" → Contains words word → Contains (map (λ text. text ++ codes "(") words) call
call_listed words word call e h = (h.0, rw length-map h.1, called_at words h.0 word call h.1 ∙ ap (λ (t : List ℕ). t ++ codes "(") h.2 ∙ sym e)

pub word_listed : (words : List (List ℕ)) (word call : List ℕ) → call ≡ word ++ codes "(" → Contains (map (λ text. text ++ codes "(") words) call → Contains words word
word_listed words word call e h =
    let within : h.0 < length words = rw length-map at h.1 in
    (h.0, within, append_cancel_right (slice_index_or words h.0 word) word (codes "(") (sym (called_at words h.0 word call within) ∙ h.2 ∙ e))

-- what is listed so ends in a `(`
pub call_ends : (words : List (List ℕ)) (call : List ℕ) → Contains (map (λ text. text ++ codes "(") words) call → (word : List ℕ) × (call ≡ word ++ codes "(")
call_ends words call h = let within : h.0 < length words = rw length-map at h.1 in (slice_index_or words h.0 [], sym h.2 ∙ called_at words h.0 [] call within)
