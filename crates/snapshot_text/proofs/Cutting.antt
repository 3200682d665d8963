-- Lines and their words, cut at a byte.
use Rattle.std.proofs.Common.{◌≡◌, ◌≢◌, ℕ, suc, ◌+◌, ◌<◌, Bool, true, false, cond, eqb, List, [], ◌∷◌, ◌++◌, length, take, drop, get_or, refl, sym, ap, ap₂, ◌∙◌, subst, arith}
use Rattle.std.proofs.lemmas.Bool.{ne_eqb, false≢true}
use Rattle.std.proofs.lemmas.List.{take_more}
use Rattle.std.proofs.lemmas.List.Elements.{All-head, All-tail}
use Rattle.snapshot_text.specs.Faults.{Word, Line, in_line, lines_from, in_word, words_from}
use Rattle.snapshot_text.specs.Snapshots.{no_break, IsUnbroken}
use Rattle.snapshot_text.specs.Steps.{Lacks}

-- Lists without a byte

pub lacks_append : (b : ℕ) (xs ys : List ℕ) → Lacks b xs → Lacks b ys → Lacks b (xs ++ ys)
lacks_append b [] ys h k = k
lacks_append b (x ∷ xs) ys h k = (h.0, lacks_append b xs ys h.1 k)

pub lacks_front : (b : ℕ) (xs ys : List ℕ) → Lacks b (xs ++ ys) → Lacks b xs
lacks_front b [] ys h = tt
lacks_front b (x ∷ xs) ys h = (h.0, lacks_front b xs ys h.1)

pub lacks_back : (b : ℕ) (xs ys : List ℕ) → Lacks b (xs ++ ys) → Lacks b ys
lacks_back b [] ys h = h
lacks_back b (x ∷ xs) ys h = lacks_back b xs ys h.1

pub lacks_more : (b : ℕ) (xs : List ℕ) (k : ℕ) → k < length xs → Lacks b (take k xs) → (get_or xs k 0 ≡ b → ⊥) → Lacks b (take (k + 1) xs)
lacks_more b xs k lt h ne = subst (Lacks b) (sym (take_more xs k 0 lt)) (lacks_append b (take k xs) (get_or xs k 0 ∷ []) h (ne, tt))

no_both : (b : ℕ) → no_break b ≡ true → (b ≢ 32) × (b ≢ 10)
no_both b h = (λ e. false≢true (subst (λ x. no_break x ≡ true) e h), λ e. false≢true (subst (λ x. no_break x ≡ true) e h))

pub unbroken_lacks : (xs : List ℕ) → IsUnbroken xs → Lacks 32 xs × Lacks 10 xs
unbroken_lacks [] h = (tt, tt)
unbroken_lacks (x ∷ xs) h =
    let here = no_both x (All-head (λ b. no_break b ≡ true) x xs h) in
    let rest = unbroken_lacks xs (All-tail (λ b. no_break b ≡ true) x xs h) in
    ((here.0, rest.0), (here.1, rest.1))

-- two cuts at a byte are one
pub cut_once : (b : ℕ) (xs ys us vs : List ℕ) → Lacks b xs → Lacks b ys → xs ++ b ∷ us ≡ ys ++ b ∷ vs → (xs ≡ ys) × (us ≡ vs)
cut_once b [] [] us vs h k e = (refl, ap (drop 1) e)
cut_once b [] (y ∷ ys) us vs h k e = absurd (k.0 (sym (ap (λ l. get_or l 0 0) e)))
cut_once b (x ∷ xs) [] us vs h k e = absurd (h.0 (ap (λ l. get_or l 0 0) e))
cut_once b (x ∷ xs) (y ∷ ys) us vs h k e =
    let on = cut_once b xs ys us vs h.1 k.1 (ap (drop 1) e) in
    (ap₂ (λ z zs. z ∷ zs) (ap (λ l. get_or l 0 0) e) on.0, on.1)

-- Lines

abbrev pub ended : ℕ → List ℕ → Line
ended at bytes = record { at = at; bytes = bytes; is_ended = true }

-- a line up to its line feed comes first
pub line_cut : (at : ℕ) (xs ys : List ℕ) → Lacks 10 xs → lines_from at (xs ++ 10 ∷ ys) ≡ ended at xs ∷ lines_from (at + length xs + 1) ys
line_cut at [] ys h = let q : at + 1 ≡ at + 0 + 1 = omega arith in ap (λ n. ended at [] ∷ lines_from n ys) q
line_cut at (x ∷ xs) ys h =
    let q : at + 1 + length xs + 1 ≡ at + suc (length xs) + 1 = omega arith in
    ap (λ b. cond b (ended at [] ∷ lines_from (at + 1) (xs ++ 10 ∷ ys)) (in_line at x (lines_from (at + 1) (xs ++ 10 ∷ ys)))) (ne_eqb x 10 h.0)
    ∙ (ap (in_line at x) (line_cut (at + 1) xs ys h.1) ∙ ap (λ n. ended at (x ∷ xs) ∷ lines_from n ys) q)

-- a last line without a line feed
pub line_open : (at x : ℕ) (xs : List ℕ) → Lacks 10 (x ∷ xs) → lines_from at (x ∷ xs) ≡ record { at = at; bytes = x ∷ xs; is_ended = false } ∷ []
line_open at x [] h = ap (λ b. cond b (ended at [] ∷ []) (in_line at x [])) (ne_eqb x 10 h.0)
line_open at x (y ∷ ys) h =
    ap (λ b. cond b (ended at [] ∷ lines_from (at + 1) (y ∷ ys)) (in_line at x (lines_from (at + 1) (y ∷ ys)))) (ne_eqb x 10 h.0)
    ∙ ap (in_line at x) (line_open (at + 1) y ys h.1)

-- Words

pub word_cut : (at : ℕ) (xs ys : List ℕ) → Lacks 32 xs → words_from at (xs ++ 32 ∷ ys) ≡ record { at = at; bytes = xs } ∷ words_from (at + length xs + 1) ys
word_cut at [] ys h = let q : at + 1 ≡ at + 0 + 1 = omega arith in ap (λ n. record { at = at; bytes = [] } ∷ words_from n ys) q
word_cut at (x ∷ xs) ys h =
    let q : at + 1 + length xs + 1 ≡ at + suc (length xs) + 1 = omega arith in
    ap (λ b. cond b (record { at = at; bytes = [] } ∷ words_from (at + 1) (xs ++ 32 ∷ ys)) (in_word at x (words_from (at + 1) (xs ++ 32 ∷ ys)))) (ne_eqb x 32 h.0)
    ∙ (ap (in_word at x) (word_cut (at + 1) xs ys h.1) ∙ ap (λ n. record { at = at; bytes = x ∷ xs } ∷ words_from n ys) q)

pub word_last : (at : ℕ) (xs : List ℕ) → Lacks 32 xs → words_from at xs ≡ record { at = at; bytes = xs } ∷ []
word_last at [] h = refl
word_last at (x ∷ xs) h =
    ap (λ b. cond b (record { at = at; bytes = [] } ∷ words_from (at + 1) xs) (in_word at x (words_from (at + 1) xs))) (ne_eqb x 32 h.0)
    ∙ ap (in_word at x) (word_last (at + 1) xs h.1)

-- there is a word always
pub record HasWord (at : ℕ) (xs : List ℕ) : Type 0 where
  pub word : Word
  pub words : List Word
  pub is : words_from at xs ≡ word ∷ words

pub some_word : (at : ℕ) (xs : List ℕ) → HasWord at xs
some_word at [] = record { word = record { at = at; bytes = [] }; words = []; is = refl }
some_word at (x ∷ xs) = by (some_word (at + 1) xs) (eqb x 32) refl
  where
    by : HasWord (at + 1) xs → (b : Bool) → eqb x 32 ≡ b → HasWord at (x ∷ xs)
    by rest true e = record { word = record { at = at; bytes = [] }; words = words_from (at + 1) xs; is = ap (λ b. cond b (record { at = at; bytes = [] } ∷ words_from (at + 1) xs) (in_word at x (words_from (at + 1) xs))) e }
    by rest false e = record {
      word = record { at = at; bytes = x ∷ rest.word.bytes };
      words = rest.words;
      is = ap (λ b. cond b (record { at = at; bytes = [] } ∷ words_from (at + 1) xs) (in_word at x (words_from (at + 1) xs))) e ∙ ap (in_word at x) rest.is;
    }
