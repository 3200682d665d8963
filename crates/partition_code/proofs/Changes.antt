-- What changes nothing may be left out: a word that is published as one value only, whatever publishes it, is so in the end.
use Rattle.std.proofs.Common.{◌≡◌, ◌⊎◌, inl, inr, ⊎_elim, ℕ, suc, ◌<◌, ◌≤◌, ◌&&◌, ◌==◌, nat_lt, Bool, true, false, List, [], ◌∷◌, map, length, set, slice_index, if◌then◌else◌, refl, sym, subst, ap, ◌∙◌, arith, length-set, get_or-set_same, get_or-set_other}
use Rattle.std.proofs.lemmas.Bool.{cases_eq, ltb-true, eqb-true}
use Rattle.phase_core.specs.declared.model.Publication.{Publication}
use Rattle.phase_core.specs.Script.{published, published_all}
use Rattle.phase_core.proofs.Lists.{at_index, set_again}
use Rattle.phase_core.proofs.Values.{length-published}
use Rattle.flat_code.specs.Meaning.{changed}
use Rattle.partition_code.proofs.Lists.{Each, each_cons}

-- what is so of all publications is so of those that change something
pub each_changed : (P : Publication → Type 0) (n : ℕ) (words : List ℕ) (ps : List Publication) → Each P ps → Each P (changed n words ps)
each_changed P n words [] each = each
each_changed P n words (p ∷ ps) each = by_test (nat_lt p.word n && (slice_index words p.word == p.value)) (each_changed P n words ps (λ k. each (suc k)))
  where
    by_test : (b : Bool) → Each P (changed n words ps) → Each P (if b then changed n words ps else p ∷ changed n words ps)
    by_test true rest = rest
    by_test false rest = each_cons P p (changed n words ps) (each 0 p refl) rest

-- a word below n is published as these words have it
abbrev pub Right : ℕ → List ℕ → Publication → Type 0
Right n Later p = p.word < n → p.value ≡ slice_index Later p.word

-- each word below n is as it was, or as it will be
abbrev pub Between : ℕ → List ℕ → List ℕ → List ℕ → Type 0
Between n Words Later now = (i : ℕ) → i < n → (slice_index now i ≡ slice_index Words i) ⊎ (slice_index now i ≡ slice_index Later i)

module _ (n : ℕ) (Words Later : List ℕ) where
  between_more : (now : List ℕ) (p : Publication) → n ≤ length now → Right n Later p → Between n Words Later now → Between n Words Later (set now p.word p.value)
  between_more now p room right between i lt = ⊎_elim
      (λ here. inr (here_is here))
      (λ other. ⊎_elim (λ e. inl (same other ∙ e)) (λ e. inr (same other ∙ e)) (between i lt))
      (cases_eq i p.word)
    where
      same : (i ≡ p.word → ⊥) → slice_index (set now p.word p.value) i ≡ slice_index now i
      same other = get_or-set_other now p.word i p.value 0 other

      here_is : i ≡ p.word → slice_index (set now p.word p.value) i ≡ slice_index Later i
      here_is e =
          let below : p.word < n = omega (arith, e, lt) in
          subst (λ k. slice_index (set now p.word p.value) k ≡ slice_index Later k) (sym e)
          (get_or-set_same now p.word p.value 0 (omega (arith, below, room)) ∙ right below)

  stays : (now : List ℕ) (p : Publication) → n ≤ length now → Right n Later p → Between n Words Later now → p.word < n → slice_index Words p.word ≡ p.value → set now p.word p.value ≡ now
  stays now p room right between lt was =
      let is : slice_index now p.word ≡ p.value = ⊎_elim (λ e. e ∙ was) (λ e. e ∙ sym (right lt)) (between p.word lt) in
      ap (set now p.word) (sym is) ∙ set_again now p.word (slice_index now p.word) (at_index now p.word 0 (omega (arith, lt, room)))

  longer : (now : List ℕ) (i x : ℕ) → n ≤ length now → n ≤ length (set now i x)
  longer now i x room = let e = length-set now i x in omega (arith, room, e)

  published_changed : (ps : List Publication) (now : List ℕ) → n ≤ length now → Each (Right n Later) ps → Between n Words Later now → published (changed n Words ps) now ≡ published ps now
  published_changed [] now room right between = refl
  published_changed (p ∷ ps) now room right between =
      by_test (nat_lt p.word n) (slice_index Words p.word == p.value) refl refl
      (published_changed ps now room (λ k. right (suc k)) between)
      (published_changed ps (set now p.word p.value) (longer now p.word p.value room) (λ k. right (suc k)) (between_more now p room (right 0 p refl) between))
    where
      by_test : (b c : Bool) → nat_lt p.word n ≡ b → (slice_index Words p.word == p.value) ≡ c → published (changed n Words ps) now ≡ published ps now
          → published (changed n Words ps) (set now p.word p.value) ≡ published ps (set now p.word p.value)
          → published (if b && c then changed n Words ps else p ∷ changed n Words ps) now ≡ published ps (set now p.word p.value)
      by_test true true e f same later =
          same ∙ ap (published ps) (sym (stays now p room (right 0 p refl) between (ltb-true p.word n e) (eqb-true (slice_index Words p.word) p.value f)))
      by_test true false e f same later = later
      by_test false c e f same later = later

  between_all : (ps : List Publication) (now : List ℕ) → n ≤ length now → Each (Right n Later) ps → Between n Words Later now → Between n Words Later (published ps now)
  between_all [] now room right between = between
  between_all (p ∷ ps) now room right between =
      between_all ps (set now p.word p.value) (longer now p.word p.value room) (λ k. right (suc k)) (between_more now p room (right 0 p refl) between)

  module _ {A : Type 0} (f : A → List Publication) (right : (x : A) → Each (Right n Later) (f x)) where
    all_changed : (xs : List A) (now : List ℕ) → n ≤ length now → Between n Words Later now
        → published_all (map (λ x. changed n Words (f x)) xs) now ≡ published_all (map f xs) now
    all_changed [] now room between = refl
    all_changed (x ∷ xs) now room between =
        ap (published_all (map (λ y. changed n Words (f y)) xs)) (published_changed (f x) now room (right x) between)
        ∙ all_changed xs (published (f x) now) (subst (λ l. n ≤ l) (sym (length-published (f x) now)) room) (between_all (f x) now room (right x) between)

    -- from the words themselves on
    pub changed_suffice : (xs : List A) → n ≤ length Words → published_all (map (λ x. changed n Words (f x)) xs) Words ≡ published_all (map f xs) Words
    changed_suffice xs room = all_changed xs Words room (λ i lt. inl refl)
