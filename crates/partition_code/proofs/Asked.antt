-- What an epoch of the codes of one cut stands on, by places in lists.
use Rattle.std.proofs.Common.{◌≡◌, ⊎_elim, ℕ, ◌^◌, ◌<◌, ◌≤◌, List, [], length, slice_get, slice_index, slice_index_or, Some, sym, subst, ap, ◌∙◌, arith}
use Rattle.std.specs.Prelude.{Contains}
use Rattle.std.proofs.lemmas.Bool.{cases_lt, cases_eq}
use Rattle.std.proofs.lemmas.List.{get_or_default}
use Rattle.std.proofs.lemmas.Option.{slice_get-get_or}
use mathlib.Core.Option.{some}
use lib.ListN.{get_elem?}
use Rattle.bit_words.specs.declared.value.Value.{Value}
use Rattle.phase_core.specs.declared.model.Publication.{Publication}
use Rattle.phase_core.proofs.Lists.{at_below, at-get_or}
use Rattle.ground_net.specs.Words.{state_words}
use Rattle.flat_code.specs.declared.code.Code.{Code}
use Rattle.flat_code.specs.Codes.{published_by}
use Rattle.flat_code.specs.Meaning.{published, pushes}
use Rattle.flat_code.proofs.Frames.{published_few}
use Rattle.flat_code.proofs.Changing.{changed_few}
use Rattle.flat_code.specs.Codes.{zeros}
use Rattle.cone_cutter.specs.Splits.{Rises}
use Rattle.partition_code.specs.Codes.{AreWords, AreOfOneCut, MayRun}
use Rattle.partition_code.proofs.Owners.{beside, IsOwn, publications}
use Rattle.partition_code.proofs.Places.{position_below, positions_rise, one_code}
use Rattle.partition_code.proofs.Cycles.{cycle_of}

pub slice_of : {A : Type 0} (xs : List A) (k : ℕ) (x : A) → get_elem? xs k ≡ some x → slice_get xs k ≡ Some x
slice_of xs k x e = slice_get-get_or xs k x (at_below xs k x e) ∙ ap Some (at-get_or xs k x x e)

-- numbers that rise are apart
rising_apart : (s : List ℕ) (i j : ℕ) → Rises s → i < length s → j < length s → slice_index s i ≡ slice_index s j → i ≡ j
rising_apart s i j rise lt less e = ⊎_elim
    (λ same. same)
    (λ other. ⊎_elim
    (λ before. absurd (apart (slice_index s i) (slice_index s j) (rise i j before less) e))
    (λ behind. absurd (apart (slice_index s j) (slice_index s i) (rise j i (later i j other behind) lt) (sym e)))
    (cases_lt i j))
    (cases_eq i j)
  where
    apart : (a b : ℕ) → a < b → a ≡ b → ⊥
    apart a b lt e = omega (arith, lt, e)

    later : (i j : ℕ) → (i ≡ j → ⊥) → j ≤ i → j < i
    later i j n le = ⊎_elim (λ lt. lt) (λ ge. absurd (n (omega (arith, le, ge)))) (cases_lt j i)

stands : (s : List ℕ) (j : ℕ) → j < length s → Contains s (slice_index s j)
stands s j lt = (j, lt, get_or_default s j (slice_index s j) 0 lt)

few_publications : (code : Code) (words : List ℕ) (inputs : List Value) → code.most < 2 ^ 64 → length (published_by code words inputs) < 2 ^ 64
few_publications code words inputs h =
    let all = published code.ports code.wides code.instrs words inputs (zeros code) in
    between (length (published_by code words inputs)) (length all) (pushes code.instrs) code.most (2 ^ 64)
    (changed_few code.once words all) (published_few code.ports code.wides words inputs code.instrs (zeros code)) code.at_most h
  where
    between : (a b c d e : ℕ) → a ≤ b → b ≤ c → c ≤ d → d < e → a < e
    between a b c d e f g h lt = omega (arith, f, g, h, lt)

module _ (codes : List Code) (cut : AreOfOneCut codes) where
  pub some_code : 1 ≤ length codes
  some_code = subst (λ n. 1 ≤ n) (sym cut.codes_of.counted) cut.some

  pub few_codes : length codes ≤ 64
  few_codes = subst (λ n. n ≤ 64) (sym cut.codes_of.counted) cut.few

  there : (k : ℕ) (d : Code) → k < length codes → slice_get codes k ≡ Some (slice_index_or codes k d)
  there k d lt = slice_get-get_or codes k d lt

  pub words_counted : (k : ℕ) (d : Code) → k < length codes → state_words cut.ordered.net ≡ (slice_index_or codes k d).words
  words_counted k d lt =
      let part = beside codes cut.parts k (slice_index_or codes k d) (sym cut.codes_of.counted) (there k d lt) in
      sym (cut.codes_of.each k part.0 (slice_index_or codes k d) part.1 (there k d lt)).words

  pub below_watch : (k j : ℕ) (d : Code) → k < length codes → j < length (slice_index_or codes k d).positions → slice_index (slice_index_or codes k d).positions j < length cut.watch
  below_watch k j d lt less =
      position_below codes cut k (slice_index_or codes k d) (there k d lt) (slice_index (slice_index_or codes k d).positions j) (stands (slice_index_or codes k d).positions j less)

  pub positions_apart : (k i j : ℕ) (d : Code) → k < length codes → i < length (slice_index_or codes k d).positions → j < length (slice_index_or codes k d).positions
      → slice_index (slice_index_or codes k d).positions i ≡ slice_index (slice_index_or codes k d).positions j → i ≡ j
  positions_apart k i j d lt f g e = rising_apart (slice_index_or codes k d).positions i j (positions_rise codes cut k (slice_index_or codes k d) (there k d lt)) f g e

  pub positions_of_one : (k l i j : ℕ) (d e : Code) → k < length codes → l < length codes → i < length (slice_index_or codes k d).positions → j < length (slice_index_or codes l e).positions
      → slice_index (slice_index_or codes k d).positions i ≡ slice_index (slice_index_or codes l e).positions j → k ≡ l
  positions_of_one k l i j d e lt less f g same =
      one_code codes cut (slice_index (slice_index_or codes k d).positions i) k l (slice_index_or codes k d) (slice_index_or codes l e) (there k d lt) (there l e less)
      (stands (slice_index_or codes k d).positions i f)
      (subst (Contains (slice_index_or codes l e).positions) (sym same) (stands (slice_index_or codes l e).positions j g))

module _ (codes : List Code) (words : List ℕ) (rows : List (List Value)) (may : MayRun codes words rows) where
  -- what the code k publishes in the cycle c, whatever words of the state it begins with
  pub own_at : (c : ℕ) (now : List ℕ) → c < length rows → AreWords now → length now ≡ state_words may.cut.ordered.net → (k j : ℕ) (d : Code) (p : Publication) → k < length codes
      → get_elem? (published_by (slice_index_or codes k d) now (slice_index_or rows c [])) j ≡ some p → IsOwn codes may.cut k p
  own_at c now inside plain counted k j d p lt e =
      let cycle = cycle_of codes words rows may c (slice_index_or rows c []) (slice_get-get_or rows c [] inside) now plain counted in
      publications codes may.cut k (slice_index_or codes k d) (slice_get-get_or codes k d lt) now (slice_index_or rows c []) cycle.0 cycle.1 j p
      (slice_of (published_by (slice_index_or codes k d) now (slice_index_or rows c [])) j p e)

  pub short_at : (now : List ℕ) (c k : ℕ) (d : Code) → (slice_index_or codes k d).most < 2 ^ 64 → length (published_by (slice_index_or codes k d) now (slice_index_or rows c [])) < 2 ^ 64
  short_at now c k d small = few_publications (slice_index_or codes k d) now (slice_index_or rows c []) small
