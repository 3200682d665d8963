-- Stretches of code one after the other.
use Rattle.std.proofs.Common.{◌≡◌, ◌==◌, ℕ, zero, suc, ◌+◌, ◌<◌, ◌≤◌, Bool, true, false, ◌||◌, ◌&&◌, List, [], ◌∷◌, ◌++◌, length, All, get_or, refl, sym, ap, ap₂, ◌∙◌, arith, ⊎_elim, ◌⊎◌, inl, inr, length-append, true≢false}
use Rattle.std.proofs.lemmas.Bool.{cases_lt}
use Rattle.flat_code.specs.declared.instr.Instr.{Instr}
use Rattle.flat_code.specs.declared.instr.Port.{Port}
use Rattle.flat_code.specs.declared.instr.Wide.{Wide}
use Rattle.flat_code.specs.Fine.{Known, among, more, reads_of, writes_of, written}
use Rattle.code_draft.specs.Segments.{is_read, FewLive, behind_first}

-- Tests

pub either : (a b : Bool) → (a || b) ≡ true → (a ≡ true) ⊎ (b ≡ true)
either true b e = inl refl
either false b e = inr e

pub left_so : (a b : Bool) → a ≡ true → (a || b) ≡ true
left_so a b e = ap (λ c. c || b) e

pub right_so : (a b : Bool) → b ≡ true → (a || b) ≡ true
right_so true b e = refl
right_so false b e = e

pub both_so : (a b : Bool) → (a && b) ≡ true → (a ≡ true) × (b ≡ true)
both_so true b e = (refl, e)
both_so false b e = absurd (true≢false (sym e))

and_so : (a b : Bool) → a ≡ true → b ≡ true → (a && b) ≡ true
and_so a b e f = ap₂ (λ x y. x && y) e f

or_assoc : (a b c : Bool) → ((a || b) || c) ≡ (a || (b || c))
or_assoc true b c = refl
or_assoc false b c = refl

pub among_append : (xs ys : List ℕ) (k : ℕ) → among (xs ++ ys) k ≡ (among xs k || among ys k)
among_append [] ys k = refl
among_append (x ∷ xs) ys k = ap (λ b. (k == x) || b) (among_append xs ys k) ∙ sym (or_assoc (k == x) (among xs k) (among ys k))

pub among_left : (xs ys : List ℕ) (k : ℕ) → among xs k ≡ true → among (xs ++ ys) k ≡ true
among_left xs ys k e = among_append xs ys k ∙ left_so (among xs k) (among ys k) e

pub among_right : (xs ys : List ℕ) (k : ℕ) → among ys k ≡ true → among (xs ++ ys) k ≡ true
among_right xs ys k e = among_append xs ys k ∙ right_so (among xs k) (among ys k) e

pub among_either : (xs ys : List ℕ) (k : ℕ) → among (xs ++ ys) k ≡ true → (among xs k ≡ true) ⊎ (among ys k ≡ true)
among_either xs ys k e = either (among xs k) (among ys k) (sym (among_append xs ys k) ∙ e)

pub none_among : {A : Type 0} (k : ℕ) → among [] k ≡ true → A
none_among k e = absurd (true≢false (sym e))

-- Properties of each instruction

pub head_all : {X : Type 0} (P : X → Type 0) (x : X) (xs : List X) → All P (x ∷ xs) → P x
head_all P x xs a = a zero x (omega arith)

pub tail_all : {X : Type 0} (P : X → Type 0) (x : X) (xs : List X) → All P (x ∷ xs) → All P xs
tail_all P x xs a = λ k d lt. a (suc k) d (omega (arith, lt))

pub map_all : {X : Type 0} (P Q : X → Type 0) (xs : List X) → ((x : X) → P x → Q x) → All P xs → All Q xs
map_all P Q xs f a = λ k d lt. f (get_or xs k d) (a k d lt)

-- What is read

module _ (ports : List Port) (wides : List Wide) (after : Known) where
  pub read_append : (is js : List Instr) (k : ℕ) → is_read ports wides after (is ++ js) k ≡ is_read ports wides (is_read ports wides after js) is k
  read_append [] js k = refl
  read_append (i ∷ is) js k = ap (λ b. among (reads_of ports wides i) k || b) (read_append is js k)

  pub read_behind : (is : List Instr) (k : ℕ) → is_read ports wides after (behind_first is) k ≡ true → is_read ports wides after is k ≡ true
  read_behind [] k e = e
  read_behind (i ∷ is) k e = right_so (among (reads_of ports wides i) k) (is_read ports wides after is k) e

  -- a slot that is read is read by one of them or behind them
  pub read_cases : (Q : ℕ → Type 0) (is : List Instr) → All (λ i. (k : ℕ) → among (reads_of ports wides i) k ≡ true → Q k) is → (k : ℕ) → is_read ports wides after is k ≡ true → Q k ⊎ (after k ≡ true)
  read_cases Q [] a k e = inr e
  read_cases Q (i ∷ is) a k e = ⊎_elim
      (λ here. inl (head_all (λ j. (k : ℕ) → among (reads_of ports wides j) k ≡ true → Q k) i is a k here))
      (λ later. read_cases Q is (tail_all (λ j. (k : ℕ) → among (reads_of ports wides j) k ≡ true → Q k) i is a) k later)
      (either (among (reads_of ports wides i) k) (is_read ports wides after is k) e)

-- what is written is written by one of them, or known before
pub written_cases : (Q : ℕ → Type 0) (wides : List Wide) (is : List Instr) (known : Known) → All (λ i. (k : ℕ) → among (writes_of wides i) k ≡ true → Q k) is → (k : ℕ) → written known wides is k ≡ true → Q k ⊎ (known k ≡ true)
written_cases Q wides [] known a k e = inr e
written_cases Q wides (i ∷ is) known a k e = ⊎_elim
    (λ later. inl later)
    (λ before. ⊎_elim
    (λ here. inl (head_all (λ j. (k : ℕ) → among (writes_of wides j) k ≡ true → Q k) i is a k here))
    (λ known. inr known)
    (either (among (writes_of wides i) k) (known k) before))
    (written_cases Q wides is (more (writes_of wides i) known) (tail_all (λ j. (k : ℕ) → among (writes_of wides j) k ≡ true → Q k) i is a) k e)

-- Live slots

module _ (ports : List Port) (wides : List Wide) where
  pub few_weaker : (n m first : ℕ) (after : Known) (is : List Instr) (known : Known) → n ≤ m → FewLive n first known ports wides after is → FewLive m first known ports wides after is
  few_weaker n m first after [] known le f = tt
  few_weaker n m first after (i ∷ is) known le f =
      let few = f.0.few in
      (record { slots = f.0.slots; few = omega (arith, few, le); all = f.0.all }, few_weaker n m first after is (more (writes_of wides i) known) le f.1)

  pub few_append : (n first : ℕ) (after : Known) (is js : List Instr) (known : Known) → FewLive n first known ports wides (is_read ports wides after js) is
      → FewLive n first (written known wides is) ports wides after js → FewLive n first known ports wides after (is ++ js)
  few_append n first after [] js known f g = g
  few_append n first after (i ∷ is) js known f g = (
    record {
      slots = f.0.slots;
      few = f.0.few;
      all = λ k le e. f.0.all k le (ap (λ b. among (writes_of wides i) k || (known k && b)) (sym (read_append ports wides after is js k)) ∙ e);
    },
    few_append n first after is js (more (writes_of wides i) known) f.1 g,
  )

  -- where these write at most n slots
  pub few_written : (n first : ℕ) (after : Known) (xs : List ℕ) → length xs ≤ n → (is : List Instr) (known : Known) → All (λ i. (k : ℕ) → among (writes_of wides i) k ≡ true → among xs k ≡ true) is
      → ((k : ℕ) → known k ≡ true → among xs k ≡ true) → FewLive n first known ports wides after is
  few_written n first after xs few [] known a h = tt
  few_written n first after xs few (i ∷ is) known a h =
      let here = head_all (λ j. (k : ℕ) → among (writes_of wides j) k ≡ true → among xs k ≡ true) i is a in (
        record {
          slots = xs;
          few = few;
          all = λ k le e. ⊎_elim (λ w. here k w) (λ r. h k (both_so (known k) (is_read ports wides after is k) r).0) (either (among (writes_of wides i) k) (known k && is_read ports wides after is k) e);
        },
        few_written n first after xs few is (more (writes_of wides i) known) (tail_all (λ j. (k : ℕ) → among (writes_of wides j) k ≡ true → among xs k ≡ true) i is a)
            (λ k e. ⊎_elim (λ w. here k w) (λ r. h k r) (either (among (writes_of wides i) k) (known k) e)),
      )

  -- behind other code, of whose slots these are held
  module _ (a b n m : ℕ) (held : List ℕ) (room : length held + n ≤ m) (after : Known) where
    pub few_behind : (js : List Instr) (known own : Known) → ((k : ℕ) → b ≤ k → known k ≡ true → own k ≡ true) → All (λ j. (k : ℕ) → among (writes_of wides j) k ≡ true → b ≤ k) js
        → ((k : ℕ) → a ≤ k → k < b → is_read ports wides after (behind_first js) k ≡ true → among held k ≡ true) → FewLive n b own ports wides after js → FewLive m a known ports wides after js
    few_behind [] known own same w h f = tt
    few_behind (j ∷ js) known own same w h f =
        let here = head_all (λ i. (k : ℕ) → among (writes_of wides i) k ≡ true → b ≤ k) j js w in
        let few = f.0.few in
        let long = length-append held f.0.slots in (
          record {
            slots = held ++ f.0.slots;
            few = omega (arith, few, long, room);
            all = λ k le e. ⊎_elim
                (λ lt. ⊎_elim
                (λ at. let up = here k at in absurd (omega (arith, up, lt)))
                (λ r. among_left held f.0.slots k (h k le lt (both_so (known k) (is_read ports wides after js k) r).1))
                (either (among (writes_of wides j) k) (known k && is_read ports wides after js k) e))
                (λ up. among_right held f.0.slots k (f.0.all k up (⊎_elim
                (λ at. left_so (among (writes_of wides j) k) (own k && is_read ports wides after js k) at)
                (λ r.
                let parts = both_so (known k) (is_read ports wides after js k) r in
                right_so (among (writes_of wides j) k) (own k && is_read ports wides after js k) (and_so (own k) (is_read ports wides after js k) (same k up parts.0) parts.1))
                (either (among (writes_of wides j) k) (known k && is_read ports wides after js k) e))))
                (cases_lt k b);
          },
          few_behind js (more (writes_of wides j) known) (more (writes_of wides j) own)
              (λ k up e. ⊎_elim
              (λ at. left_so (among (writes_of wides j) k) (own k) at)
              (λ r. right_so (among (writes_of wides j) k) (own k) (same k up r))
              (either (among (writes_of wides j) k) (known k) e))
              (tail_all (λ i. (k : ℕ) → among (writes_of wides i) k ≡ true → b ≤ k) j js w)
              (λ k le lt e. h k le lt (read_behind ports wides after js k e))
              f.1,
        )
