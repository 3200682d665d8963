-- Letting rules wait.
use Rattle.std.proofs.Common.{◌≡◌, ◌≢◌, ◌⊎◌, inl, inr, ⊎_elim, ℕ, ◌+◌, ◌<◌, Bool, true, false, List, [], ◌∷◌, ◌++◌, length, take, get_or, set, refl, sym, ◌∙◌, get_or-set_same, get_or-set_other}
use Rattle.std.specs.Prelude.{nat_eq}
use Rattle.std.specs.List.{All}
use Rattle.std.proofs.lemmas.Bool.{eqb-true, eqb-false}
use Rattle.std.proofs.lemmas.List.{take_more, take_at, drop_at, length-set}
use Rattle.std.proofs.lemmas.List.Elements.{All-take, All-drop, All-head, All-push, Contains-append_left, Contains-append_cases, Contains-push}
use Rattle.width_solver.specs.Rounds.{Waits, Wakes}
use Rattle.width_solver.proofs.Noting.{Contains-nil, one_only}

pub all_left : {X : Type 0} (P : X → Type 0) (xs ys : List X) → All P (xs ++ ys) → All P xs
all_left P xs ys h = rw (take_at xs ys (length xs) refl) at (All-take P (length xs) (xs ++ ys) h)

pub all_right : {X : Type 0} (P : X → Type 0) (xs ys : List X) → All P (xs ++ ys) → All P ys
all_right P xs ys h = rw (drop_at xs ys (length xs) refl) at (All-drop P (length xs) (xs ++ ys) h)

pub wakes_none : (waits : List Bool) (next : List ℕ) → Wakes [] waits next waits next
wakes_none waits next = record {
  counted = refl;
  woken = λ k c. absurd (Contains-nil k c);
  kept = λ k h. h;
  more = λ k h. h;
  listed = λ k h. inl h;
  within = λ n numbers all. all;
}

wakes_then : (xs ys : List ℕ) (a b c : List Bool) (l m n : List ℕ) → Wakes xs a l b m → Wakes ys b m c n → Wakes (xs ++ ys) a l c n
wakes_then xs ys a b c l m n p q = record {
  counted = q.counted ∙ p.counted;
  woken = λ k h. ⊎_elim (λ first. q.kept k (p.woken k first)) (λ second. q.woken k second) (Contains-append_cases xs ys k h);
  kept = λ k h. q.kept k (p.kept k h);
  more = λ k h. q.more k (p.more k h);
  listed = λ k h. ⊎_elim (λ waited. ⊎_elim (λ first. inl first) (λ known. inr (q.more k known)) (p.listed k waited)) (λ known. inr known) (q.listed k h);
  within = λ end all next. q.within end (all_right (λ k. k < end) xs ys all) (p.within end (all_left (λ k. k < end) xs ys all) next);
}

pub wakes_more : (xs : List ℕ) (i d : ℕ) (a b c : List Bool) (l m n : List ℕ) → i < length xs → Wakes (take i xs) a l b m → Wakes (get_or xs i d ∷ []) b m c n → Wakes (take (i + 1) xs) a l c n
wakes_more xs i d a b c l m n lt p q = rw (take_more xs i d lt) (wakes_then (take i xs) (get_or xs i d ∷ []) a b c l m n p q)

-- a flag after one is set
pub flag_set : (waits : List Bool) (n : ℕ) (b : Bool) (k : ℕ) → n < length waits
    → ((k ≡ n) × (get_or (set waits n b) k false ≡ b)) ⊎ ((k ≢ n) × (get_or (set waits n b) k false ≡ get_or waits k false))
flag_set waits n b k lt = by (nat_eq k n) refl
  where
    by : (same : Bool) → nat_eq k n ≡ same → ((k ≡ n) × (get_or (set waits n b) k false ≡ b)) ⊎ ((k ≢ n) × (get_or (set waits n b) k false ≡ get_or waits k false))
    by true e = let is = eqb-true k n e in inl (is, rw is (get_or-set_same waits n b false lt))
    by false e = let other = eqb-false k n e in inr (other, get_or-set_other waits n k b false other)

pub wakes_waiting : (waits : List Bool) (next : List ℕ) (n : ℕ) → Waits waits n → Wakes (n ∷ []) waits next waits next
wakes_waiting waits next n h = record {
  counted = refl;
  woken = λ k c. rw (one_only n k c) h;
  kept = λ k w. w;
  more = λ k c. c;
  listed = λ k w. inl w;
  within = λ end numbers all. all;
}

pub wakes_one : (waits : List Bool) (next : List ℕ) (n : ℕ) → n < length waits → Wakes (n ∷ []) waits next (set waits n true) (next ++ n ∷ [])
wakes_one waits next n lt = record {
  counted = length-set waits n true;
  woken = λ k c. ⊎_elim (λ here. here.1) (λ there. absurd (there.0 (one_only n k c))) (flag_set waits n true k lt);
  kept = λ k w. ⊎_elim (λ here. here.1) (λ there. there.1 ∙ w) (flag_set waits n true k lt);
  more = λ k c. Contains-append_left next (n ∷ []) k c;
  listed = λ k w. ⊎_elim (λ here. inr (rw (here.0) (Contains-push next n))) (λ there. inl (sym there.1 ∙ w)) (flag_set waits n true k lt);
  within = λ end numbers all. All-push (λ k. k < end) next n all (All-head (λ k. k < end) n [] numbers);
}
