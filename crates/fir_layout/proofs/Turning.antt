-- What a line turns to, and that it is one thing.
use Rattle.std.proofs.Common.{◌≡◌, ◌≢◌, ℕ, suc, ◌+◌, ◌-◌, ◌<◌, ◌≤◌, Bool, true, false, List, [], ◌∷◌, ◌++◌, length, take, drop, get_or, refl, ap, sym, ◌∙◌, arith}
use Rattle.std.proofs.Common.{⊎_elim}
use Rattle.std.specs.Prelude.{nat_lt, nat_eq, ◌==◌, MatchBool, replicate}
use Rattle.std.specs.List.{prefix_len, suffix_len}
use Rattle.std.proofs.lemmas.List.{take_all, nil_from_length}
use Rattle.std.proofs.lemmas.List.Sums.{suffix_len-take_yes, suffix_len-take_no}
use Rattle.std.proofs.lemmas.Bool.{cases_Bool, ltb-true, ltb-false, eqb-true, eqb-false}
use Rattle.fir_lexer.specs.declared.token.Token.{Token}
use Rattle.fir_layout.specs.declared.laid.Laid.{Laid}
use Rattle.fir_layout.specs.declared.laid.Laid.TheVariants.{Close}
use Rattle.fir_layout.specs.Layout.{Line, Turns, greater, equal, smaller, OfLine, skipped, filled, level, deeper_count, not_deeper, items, indent, content, end_of}

pub turns_unique : {blocks : List ℕ} {i at : ℕ} {ms ns : List Laid} {a b : List ℕ} → Turns blocks i at ms a → Turns blocks i at ns b → (ms ≡ ns) × (a ≡ b)
turns_unique (greater h) (greater k) = (refl, refl)
turns_unique (greater h) (equal k) = absurd (omega arith)
turns_unique (greater h) (smaller k e) = absurd (omega arith)
turns_unique (equal h) (greater k) = absurd (omega arith)
turns_unique (equal h) (equal k) = (refl, refl)
turns_unique (equal h) (smaller k e) = absurd (omega arith)
turns_unique (smaller h e) (greater k) = absurd (omega arith)
turns_unique (smaller h e) (equal k) = absurd (omega arith)
turns_unique (smaller h e) (smaller k f) = (refl, refl)

pub line_unique : {text blocks : List ℕ} {line : Line} {ms ns : List Laid} {a b : List ℕ} → OfLine text blocks line ms a → OfLine text blocks line ns b → (ms ≡ ns) × (a ≡ b)
line_unique (skipped e) (skipped f) = (refl, refl)
line_unique (skipped e) (filled turns after some no_tab t) = absurd (some e)
line_unique (filled turns after some no_tab t) (skipped f) = absurd (some f)
line_unique {line = line} (filled turns after some no_tab t) (filled turns2 after2 some2 no_tab2 t2) =
    let same = turns_unique t t2 in (ap (λ xs. xs ++ items line.tokens) same.0, same.1)

-- a line with a tab behind its spaces has no case
pub tab_no_case : {text blocks : List ℕ} {line : Line} {laid : List Laid} {after : List ℕ} → line.tokens ≢ [] → get_or text (content text line) 0 ≡ 9 → OfLine text blocks line laid after → ⊥
tab_no_case some tab (skipped e) = some e
tab_no_case some tab (filled turns after some2 no_tab t) = no_tab tab

-- nor has one whose indent turns to nothing
pub turn_no_case : {text blocks : List ℕ} {line : Line} {laid : List Laid} {after : List ℕ} → line.tokens ≢ []
    → ((more : List Laid) (next : List ℕ) → Turns blocks (indent text line) (content text line) more next → ⊥) → OfLine text blocks line laid after → ⊥
turn_no_case some none (skipped e) = some e
turn_no_case some none (filled turns after some2 no_tab t) = none turns after t

-- an indent that is smaller, and no open one, turns to nothing
pub no_turn : {blocks : List ℕ} {i at : ℕ} {more : List Laid} {next : List ℕ} → i < level blocks → level (not_deeper i blocks) ≢ i → Turns blocks i at more next → ⊥
no_turn less other (greater h) = omega arith
no_turn less other (equal h) = omega arith
no_turn less other (smaller h e) = other e

deeper_none : (i : ℕ) (blocks : List ℕ) → nat_lt i (level blocks) ≡ false → deeper_count i blocks ≡ 0
deeper_none i [] e = refl
deeper_none i (b ∷ bs) e =
    let whole : take (length (b ∷ bs)) (b ∷ bs) ≡ b ∷ bs = take_all (length (b ∷ bs)) (b ∷ bs) (omega arith) in
    let none = suffix_len-take_no (λ x. nat_lt i x) (b ∷ bs) (length (b ∷ bs)) 0 (omega arith) (omega arith) e in
    rw whole at none

deeper_some : (i : ℕ) (blocks : List ℕ) → nat_lt i (level blocks) ≡ true → 0 < deeper_count i blocks
deeper_some i [] e = absurd (let bad = ltb-true i 0 e in omega arith)
deeper_some i (b ∷ bs) e =
    let whole : take (length (b ∷ bs)) (b ∷ bs) ≡ b ∷ bs = take_all (length (b ∷ bs)) (b ∷ bs) (omega arith) in
    let some = suffix_len-take_yes (λ x. nat_lt i x) (b ∷ bs) (length (b ∷ bs)) 0 (omega arith) (omega arith) e in
    let some' : deeper_count i (b ∷ bs) ≡ 1 + suffix_len (λ x. nat_lt i x) (take (length (b ∷ bs) - 1) (b ∷ bs)) = rw whole at some in
    omega (arith, some')

pub level_above : (i : ℕ) (blocks : List ℕ) → 0 < deeper_count i blocks → i < level blocks
level_above i blocks h = ⊎_elim (λ yes. ltb-true i (level blocks) yes) (λ fails. absurd (let none = deeper_none i blocks fails in omega (arith, none))) (cases_Bool (nat_lt i (level blocks)))

pub level_not_above : (i : ℕ) (blocks : List ℕ) → deeper_count i blocks ≡ 0 → level blocks ≤ i
level_not_above i blocks h = ⊎_elim (λ yes. absurd (let some = deeper_some i blocks yes in omega (arith, some))) (λ fails. ltb-false i (level blocks) fails) (cases_Bool (nat_lt i (level blocks)))

-- what is said where blocks were closed, and the level is then l
pub turn_closed : (blocks after : List ℕ) (i at l d : ℕ) (old new : List Laid) → d ≡ deeper_count i blocks → 0 < d → after ≡ take (length blocks - d) blocks → l ≡ level after
    → new ≡ old ++ replicate d (Close at)
    → MatchBool (nat_eq l i) ((more : List Laid) × Turns blocks i at more after × (new ≡ old ++ more)) ((more : List Laid) (next : List ℕ) → Turns blocks i at more next → ⊥)
turn_closed blocks after i at l d old new count some kept lev laid = by_test (nat_eq l i) refl
  where
    all : after ≡ not_deeper i blocks
    all = rw count at kept

    less : i < level blocks
    less = level_above i blocks (rw count at some)

    by_test : (v : Bool) → nat_eq l i ≡ v
        → MatchBool v ((more : List Laid) × Turns blocks i at more after × (new ≡ old ++ more)) ((more : List Laid) (next : List ℕ) → Turns blocks i at more next → ⊥)
    by_test true e =
        let same : level (not_deeper i blocks) ≡ i = rw all at (sym lev ∙ eqb-true l i e) in
        (replicate (deeper_count i blocks) (Close at), rw all (smaller less same), rw count at laid)
    by_test false e = λ more next t. no_turn less (λ same. eqb-false l i e (lev ∙ ap level all ∙ same)) t

-- A line, with its indent as a number of its own.

pub tab_bad : (text blocks : List ℕ) (start i : ℕ) (tokens : List Token) → i ≡ prefix_len (λ b. b == 32) (drop start text) → 0 < length tokens → get_or text (start + i) 0 ≡ 9
    → (more : List Laid) (after : List ℕ) → OfLine text blocks (record { start = start; tokens = tokens }) more after → ⊥
tab_bad text blocks start i tokens e some tab more after o = tab_no_case (λ none. (let zero_long : length tokens ≡ 0 = ap length none in omega arith)) (rw e at tab) o

pub turn_bad : (text blocks : List ℕ) (start i : ℕ) (tokens : List Token) → i ≡ prefix_len (λ b. b == 32) (drop start text) → 0 < length tokens
    → ((more : List Laid) (next : List ℕ) → Turns blocks i (start + i) more next → ⊥)
    → (more : List Laid) (after : List ℕ) → OfLine text blocks (record { start = start; tokens = tokens }) more after → ⊥
turn_bad text blocks start i tokens e some none more after o = turn_no_case (λ empty. (let zero_long : length tokens ≡ 0 = ap length empty in omega arith)) (rw e at none) o

pub line_ok : (text blocks : List ℕ) (start i : ℕ) (tokens : List Token) (turns : List Laid) (after : List ℕ) → i ≡ prefix_len (λ b. b == 32) (drop start text) → 0 < length tokens
    → (get_or text (start + i) 0 ≡ 9 → ⊥) → Turns blocks i (start + i) turns after → OfLine text blocks (record { start = start; tokens = tokens }) (turns ++ items tokens) after
line_ok text blocks start i tokens turns after e some no_tab t =
    filled turns after (λ empty. (let zero_long : length tokens ≡ 0 = ap length empty in omega arith)) (rw e at no_tab) (rw e at t)

pub line_empty : (text blocks : List ℕ) (start : ℕ) (tokens : List Token) → length tokens ≡ 0 → OfLine text blocks (record { start = start; tokens = tokens }) [] blocks
line_empty text blocks start tokens e = skipped (nil_from_length tokens e)

pub end_is : (tokens : List Token) (t : Token) → 0 < length tokens → get_or tokens (length tokens - 1) t ≡ t → t.end ≡ end_of tokens
end_is [] t some e = absurd (omega arith)
end_is (u ∷ []) t some e = let same : u ≡ t = e in ap (λ (x : Token). x.end) (sym same)
end_is (u ∷ v ∷ ts) t some e =
    let index : length (u ∷ v ∷ ts) - 1 ≡ suc (length (v ∷ ts) - 1) = omega arith in
    end_is (v ∷ ts) t (omega arith) (rw index at e)
