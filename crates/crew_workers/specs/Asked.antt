-- What an epoch's proofs use of the codes of one cut, and no more.
use Rattle.std.specs.Prelude.{◌≡◌, ℕ, ◌^◌, ◌<◌, ◌≤◌, List, length, slice_index_or}
use mathlib.Core.Option.{some}
use lib.ListN.{get_elem?}
use Rattle.bit_words.specs.declared.value.Value.{Value}
use Rattle.phase_core.specs.declared.model.Publication.{Publication}
use Rattle.flat_code.specs.declared.code.Code.{Code}
use Rattle.flat_code.specs.Codes.{published_by, most_publications}
use Rattle.partition_code.specs.Codes.{AreWords, owner_in}
use Rattle.crew_workers.specs.Codes.{row_at}
use Rattle.crew_workers.specs.Places.{HasPlaces, OwnPlaces}

-- each code is for so many words
pub record AreCounted (codes : List Code) (count : ℕ) : Type 0 where
  pub each : (k : ℕ) (d : Code) → k < length codes → count ≡ (slice_index_or codes k d).words

-- the publications of each code are counted in a word
pub record FewEach (codes : List Code) : Type 0 where
  pub each : (k : ℕ) (d : Code) → k < length codes → most_publications (slice_index_or codes k d) < 2 ^ 64

-- in a cycle that begins with these words, under these inputs, each code publishes words of its own
pub record PublishOwn (codes : List Code) (words : List ℕ) (inputs : List Value) : Type 0 where
  pub there : (k j : ℕ) (d : Code) (p : Publication) → k < length codes → get_elem? (published_by (slice_index_or codes k d) words inputs) j ≡ some p → p.word < length words
  pub own : (k j : ℕ) (d : Code) (p : Publication) → k < length codes → get_elem? (published_by (slice_index_or codes k d) words inputs) j ≡ some p → owner_in codes p.word ≡ k
  pub plain : (k j : ℕ) (d : Code) (p : Publication) → k < length codes → get_elem? (published_by (slice_index_or codes k d) words inputs) j ≡ some p → p.value < 2 ^ 64

-- 1 to 64 codes that share out so many words and the places of a row, whatever words a cycle of these inputs begins with
pub record AskedOfCodes (codes : List Code) (count : ℕ) (rows : List (List Value)) : Type 0 where
  pub some_code : 1 ≤ length codes
  pub few : length codes ≤ 64
  pub counted : AreCounted codes count
  pub owner_below : (i : ℕ) → i < count → owner_in codes i < length codes
  pub publish : (c : ℕ) (words : List ℕ) → c < length rows → AreWords words → length words ≡ count → PublishOwn codes words (row_at rows c)
  pub width : ℕ
  pub places : HasPlaces codes width
  pub own_places : OwnPlaces codes
