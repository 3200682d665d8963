-- The words of the first state, line by line.
use Rattle.std.proofs.Common.{◌≡◌, ℕ, ◌+◌, ◌<◌, ◌≤◌, cond, List, [], ◌∷◌, ◌++◌, length, replicate, map, refl, sym, ap, ◌∙◌, arith}
use Rattle.std.proofs.lemmas.List.{length-append, length-replicate, replicate_more}
use Rattle.std.proofs.lemmas.Bool.{lt-ltb, le-ltb}
use Rattle.ground_net.specs.declared.net.Net.{Net}
use Rattle.ground_net.specs.declared.net.PortLeaf.{PortLeaf}
use Rattle.ground_net.specs.Watching.{AreValuesOf}
use Rattle.ground_net.specs.Cycles.{first_state}
use Rattle.ground_net.specs.Nets.{IsNet}
use Rattle.ground_net.specs.Words.{words_of, word_count, state_words}
use Rattle.stimulus.specs.Rows.{zero_of}
use Rattle.snapshot_text.specs.Cells.{Cell, state_cells}
use Rattle.snapshot_text.specs.declared.cells.CellLine.{CellLine}
use Rattle.snapshot_text.specs.Steps.{cell_of, count_cells, shape_of_cell}
use Rattle.snapshot_text.proofs.Keeping.{state_long}
use Rattle.crew_run.proofs.Firsts.{first_words_are}

-- Words that are 0, where these lines are still ahead.
pub record Zeros (net : Net) (words : List ℕ) (ahead : List Cell) : Type 0 where
  pub zeros : words ≡ replicate (length words) 0
  pub counted : length words + count_cells ahead ≡ count_cells (state_cells net)

abbrev one_more : List ℕ → List ℕ
one_more words = words ++ 0 ∷ []

zero_more : (words : List ℕ) → words ≡ replicate (length words) 0 → one_more words ≡ replicate (length (one_more words)) 0
zero_more words h =
    ap one_more h ∙ (replicate_more (length words) 0 ∙ ap (λ n. replicate {A = ℕ} n 0) (sym (length-append words (0 ∷ []))))

pub none_yet : (net : Net) (words : List ℕ) (ahead : List Cell) → words ≡ [] → ahead ≡ state_cells net → Zeros net words ahead
none_yet net words ahead e a = rw (e, a) (record { zeros = refl; counted = omega arith })

-- a line of one word, and one of two
pub one_word : (net : Net) (words more : List ℕ) (ahead behind : List Cell) (cell : Cell) → Zeros net words ahead → ahead ≡ cell ∷ behind → word_count (shape_of_cell cell) ≡ 1 → more ≡ words ++ 0 ∷ [] → Zeros net more behind
one_word net words more ahead behind cell z e count is =
    let long : length more ≡ length words + 1 = ap length is ∙ length-append words (0 ∷ []) in
    let cells = ap count_cells e in
    let counted = z.counted in
    record {
      zeros = is ∙ (zero_more words z.zeros ∙ ap (λ l. replicate {A = ℕ} (length l) 0) (sym is));
      counted = omega (arith, long, cells, counted, count);
    }

pub two_words : (net : Net) (words more both : List ℕ) (ahead behind : List Cell) (cell : Cell) → Zeros net words ahead → ahead ≡ cell ∷ behind → word_count (shape_of_cell cell) ≡ 2 → more ≡ words ++ 0 ∷ [] → both ≡ more ++ 0 ∷ [] → Zeros net both behind
two_words net words more both ahead behind cell z e count is also =
    let long : length more ≡ length words + 1 = ap length is ∙ length-append words (0 ∷ []) in
    let longer : length both ≡ length more + 1 = ap length also ∙ length-append more (0 ∷ []) in
    let cells = ap count_cells e in
    let counted = z.counted in
    let first : more ≡ replicate (length more) 0 = is ∙ (zero_more words z.zeros ∙ ap (λ l. replicate {A = ℕ} (length l) 0) (sym is)) in
    record {
      zeros = also ∙ (zero_more more first ∙ ap (λ l. replicate {A = ℕ} (length l) 0) (sym also));
      counted = omega (arith, long, longer, cells, counted, count);
    }

-- Behind the last line they are those of the first state.
pub all_zeros : (net : Net) → IsNet net → (words : List ℕ) (ahead : List Cell) → Zeros net words ahead → ahead ≡ [] → words ≡ words_of net first_state
all_zeros net well words ahead z none =
    let left = ap count_cells none in
    let counted = z.counted in
    let lines = state_long net well first_state in
    let are = first_words_are net in
    let long : length words ≡ state_words net = (let e = ap length are ∙ length-replicate {A = ℕ} (state_words net) 0 in omega (arith, left, counted, lines, e)) in
    z.zeros ∙ (ap (λ n. replicate {A = ℕ} n 0) long ∙ sym are)

-- Inputs that are 0

pub zeros_fit : (leaves : List PortLeaf) → AreValuesOf leaves (map zero_of leaves)
zeros_fit [] = tt
zeros_fit (leaf ∷ leaves) = ((refl, refl), zeros_fit leaves)

-- how many words a line has
pub wide_line : (line : CellLine) → 64 < line.width → word_count (shape_of_cell (cell_of line)) ≡ 2
wide_line line lt = ap (λ b. cond {A = ℕ} b 2 1) (lt-ltb 64 line.width lt)

pub narrow_line : (line : CellLine) → line.width ≤ 64 → word_count (shape_of_cell (cell_of line)) ≡ 1
narrow_line line le = ap (λ b. cond {A = ℕ} b 2 1) (le-ltb 64 line.width le)
