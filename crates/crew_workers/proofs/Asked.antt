-- What an epoch's proofs use holds where its codes may run.
use Rattle.std.proofs.Common.{◌≡◌, ℕ, ◌<◌, List, length, subst, sym, ◌∙◌}
use Rattle.bit_words.specs.declared.value.Value.{Value}
use Rattle.flat_code.specs.declared.code.Code.{Code}
use Rattle.partition_code.specs.Codes.{AreWords}
use Rattle.partition_code.proofs.Owners.{owner_below}
use Rattle.partition_code.proofs.Places.{place}
use Rattle.partition_code.proofs.Asked.{some_code, few_codes, words_counted, below_watch, positions_apart, positions_of_one, own_at}
use Rattle.crew_workers.specs.Codes.{row_at}
use Rattle.crew_workers.specs.Asked.{AskedOfCodes, AreCounted, PublishOwn}
use Rattle.crew_workers.specs.Places.{Below, IsPlace, HasPlaces, OwnPlaces}
use Rattle.crew_workers.specs.Scripts.{Runs}

module _ (codes : List Code) (words : List ℕ) (rows : List (List Value)) (runs : Runs codes words rows) where
  all_counted : AreCounted codes (length words)
  all_counted = record { each = λ k d lt. runs.may.counted ∙ words_counted codes runs.may.cut k d lt }

  publish_own : (c : ℕ) (now : List ℕ) → c < length rows → AreWords now → length now ≡ length words → PublishOwn codes now (row_at rows c)
  publish_own c now inside plain counted = record {
    there = λ k j d p lt e. subst (λ n. p.word < n) (sym (counted ∙ runs.may.counted)) (own_at codes words rows runs.may c now inside plain (counted ∙ runs.may.counted) k j d p lt e).there;
    own = λ k j d p lt e. (own_at codes words rows runs.may c now inside plain (counted ∙ runs.may.counted) k j d p lt e).own;
    plain = λ k j d p lt e. (own_at codes words rows runs.may c now inside plain (counted ∙ runs.may.counted) k j d p lt e).plain;
  }

  all_places : HasPlaces codes (length runs.may.cut.watch)
  all_places = record {
    below = record { each = λ k j d lt less. below_watch codes runs.may.cut k j d lt less };
    no_other = λ i lt. let h = place codes runs.may.cut i lt in record { number = h.0; code = h.1; there = h.2; here = h.3 };
  }

  places_apart : OwnPlaces codes
  places_apart = record {
    apart = λ k i j d lt f g e. positions_apart codes runs.may.cut k i j d lt f g e;
    one_code = λ k l i j d e lt less f g same. positions_of_one codes runs.may.cut k l i j d e lt less f g same;
  }

pub asked_of : (codes : List Code) (words : List ℕ) (rows : List (List Value)) → Runs codes words rows → AskedOfCodes codes (length words) rows
asked_of codes words rows runs = record {
  some_code = some_code codes runs.may.cut;
  few = few_codes codes runs.may.cut;
  counted = all_counted codes words rows runs;
  owner_below = λ i lt. owner_below codes runs.may.cut i (subst (λ n. i < n) runs.may.counted lt);
  publish = λ c now inside plain counted. publish_own codes words rows runs c now inside plain counted;
  width = length runs.may.cut.watch;
  places = all_places codes words rows runs;
  own_places = places_apart codes words rows runs;
}
