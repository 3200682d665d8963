-- Leaves are read and passed, and those that are live are counted.
use Rattle.std.proofs.Common.{◌≡◌, ◌≢◌, ◌⊎◌, inl, inr, ℕ, zero, suc, ◌+◌, ◌-◌, ◌<◌, ◌≤◌, Bool, true, false, cond, List, [], ◌∷◌, ◌++◌, filter, length, Vec, Global, get_or, Contains, refl, sym, subst, ap, ◌∙◌, arith, ⊎_elim}
use Rattle.std.proofs.Math.ListN.{set}
use Rattle.std.proofs.lemmas.Bool.{cases_eq}
use Rattle.std.proofs.lemmas.List.{get_or-set_same, get_or-set_other, length-set, with_items_is}
use Rattle.std.proofs.lemmas.List.Elements.{Contains-append_left, Contains-append_right, Contains-push_cases}
use Rattle.cone_cutter.proofs.Lists.{none_in, cons_cases}
use Rattle.std.specs.Vec.{with_items}
use Rattle.part_compile.specs.declared.live_count.LiveCount.{LiveCount}
use Rattle.part_compile.specs.Counts.{is_read, stands, CountsLive, ReadsMore, Passes}

false_true : false ≡ true → ⊥
false_true e = cc

-- marks that were written
pub refilled : (v : Vec Bool Global) (flags : List Bool) → length flags ≡ length v.items → (with_items v flags).items ≡ flags
refilled v flags e = let long = v.ok.0 in with_items_is v flags (omega (arith, e, long))

-- How many are kept

kept_le : (a b : Bool) (x : ℕ) (xs ys : List ℕ) → (a ≡ true → b ≡ true) → length xs ≤ length ys → length (cond a (x ∷ xs) xs) ≤ length (cond b (x ∷ ys) ys)
kept_le true true x xs ys f le = omega (arith, le)
kept_le true false x xs ys f le = absurd (false_true (f refl))
kept_le false true x xs ys f le = omega (arith, le)
kept_le false false x xs ys f le = le

kept_more : (a b : Bool) (x : ℕ) (xs ys : List ℕ) → a ≡ false → b ≡ true → length xs ≤ length ys → length (cond a (x ∷ xs) xs) < length (cond b (x ∷ ys) ys)
kept_more true b x xs ys p q le = absurd (false_true (sym p))
kept_more false false x xs ys p q le = absurd (false_true q)
kept_more false true x xs ys p q le = omega (arith, le)

kept_later : (a b : Bool) (x : ℕ) (xs ys : List ℕ) → (a ≡ true → b ≡ true) → length xs < length ys → length (cond a (x ∷ xs) xs) < length (cond b (x ∷ ys) ys)
kept_later true true x xs ys f lt = omega (arith, lt)
kept_later true false x xs ys f lt = absurd (false_true (f refl))
kept_later false true x xs ys f lt = omega (arith, lt)
kept_later false false x xs ys f lt = lt

pub filter_le : (p q : ℕ → Bool) (xs : List ℕ) → ((y : ℕ) → p y ≡ true → q y ≡ true) → length (filter p xs) ≤ length (filter q xs)
filter_le p q [] f = omega arith
filter_le p q (x ∷ xs) f = kept_le (p x) (q x) x (filter p xs) (filter q xs) (f x) (filter_le p q xs f)

filter_more : (p q : ℕ → Bool) (xs : List ℕ) (x : ℕ) → ((y : ℕ) → p y ≡ true → q y ≡ true) → p x ≡ false → q x ≡ true → Contains xs x → length (filter p xs) < length (filter q xs)
filter_more p q [] x f a b c = absurd (none_in x c)
filter_more p q (z ∷ xs) x f a b c = ⊎_elim
    (λ e. kept_more (p z) (q z) z (filter p xs) (filter q xs) (ap p e ∙ a) (ap q e ∙ b) (filter_le p q xs f))
    (λ d. kept_later (p z) (q z) z (filter p xs) (filter q xs) (f z) (filter_more p q xs x f a b d))
    (cons_cases z xs x c)

-- one less, where the last is not there, and just as many where it is not kept

grown : (a : Bool) (z : ℕ) (xs ys : List ℕ) (n : ℕ) → length xs ≤ n + length ys → length (cond a (z ∷ xs) xs) ≤ n + length (cond a (z ∷ ys) ys)
grown true z xs ys n le = omega (arith, le)
grown false z xs ys n le = le

one_kept : (a : Bool) (x : ℕ) → length (cond a (x ∷ []) []) ≤ 1
one_kept true x = omega arith
one_kept false x = omega arith

none_kept : (a : Bool) (x : ℕ) → a ≡ false → length (cond a (x ∷ []) []) ≤ 0
none_kept true x e = absurd (false_true (sym e))
none_kept false x e = omega arith

push_one : (p : ℕ → Bool) (xs : List ℕ) (x : ℕ) → length (filter p (xs ++ x ∷ [])) ≤ 1 + length (filter p xs)
push_one p [] x = one_kept (p x) x
push_one p (z ∷ xs) x = grown (p z) z (filter p (xs ++ x ∷ [])) (filter p xs) 1 (push_one p xs x)

push_none : (p : ℕ → Bool) (xs : List ℕ) (x : ℕ) → p x ≡ false → length (filter p (xs ++ x ∷ [])) ≤ 0 + length (filter p xs)
push_none p [] x e = none_kept (p x) x e
push_none p (z ∷ xs) x e = grown (p z) z (filter p (xs ++ x ∷ [])) (filter p xs) 0 (push_none p xs x e)

-- Marks

pub set_past : (flags : List Bool) (x : ℕ) (flag : Bool) → length flags ≤ x → set flags x flag ≡ flags
set_past [] zero flag le = refl
set_past [] (suc x) flag le = refl
set_past (f ∷ flags) zero flag le = absurd (omega (arith, le))
set_past (f ∷ flags) (suc x) flag le = ap (λ fs. f ∷ fs) (set_past flags x flag (omega (arith, le)))

false_here : (flags : List Bool) (x : ℕ) → get_or (set flags x false) x false ≡ false
false_here [] zero = refl
false_here [] (suc x) = refl
false_here (f ∷ flags) zero = refl
false_here (f ∷ flags) (suc x) = false_here flags x

there_within : (flags : List Bool) (x : ℕ) → get_or flags x false ≡ true → x < length flags
there_within [] zero e = absurd (false_true e)
there_within [] (suc x) e = absurd (false_true e)
there_within (f ∷ flags) zero e = omega arith
there_within (f ∷ flags) (suc x) e = let lt = there_within flags x e in omega (arith, lt)

-- what is marked behind a mark
marked_cases : (flags : List Bool) (x y : ℕ) → get_or (set flags x true) y false ≡ true → (y ≡ x) ⊎ (get_or flags y false ≡ true)
marked_cases flags x y e = ⊎_elim (λ same. inl same) (λ ne. inr (sym (get_or-set_other flags x y true false ne) ∙ e)) (cases_eq y x)

-- and what was marked before one was taken away
unmarked_cases : (flags : List Bool) (x y : ℕ) → get_or (set flags x false) y false ≡ true → (y ≢ x) × (get_or flags y false ≡ true)
unmarked_cases flags x y e = ⊎_elim
    (λ same. absurd (false_true (sym (false_here flags x) ∙ (ap (λ z. get_or (set flags x false) z false) (sym same) ∙ e))))
    (λ ne. (ne, sym (get_or-set_other flags x y false false ne) ∙ e))
    (cases_eq y x)

still_marked : (flags : List Bool) (x y : ℕ) → get_or flags y false ≡ true → get_or (set flags x true) y false ≡ true
still_marked flags x y e = ⊎_elim
    (λ same. ap (λ z. get_or (set flags x true) z false) same ∙ get_or-set_same flags x true false (there_within flags x (ap (λ z. get_or flags z false) (sym same) ∙ e)))
    (λ ne. get_or-set_other flags x y true false ne ∙ e)
    (cases_eq y x)

-- What is counted

pub none_counts : (read done : List ℕ) (t : LiveCount) → length t.read.items ≡ length t.done.items → t.count ≡ 0 → ((y : ℕ) → is_read t y ≡ false) → ((y : ℕ) → stands t y ≡ true → Contains done y) → CountsLive read done t
none_counts read done t long count none before = record {
  long = long;
  only = λ y e. absurd (false_true (sym (none y) ∙ e));
  before = before;
  few = omega (arith, count);
}

module _ (old new : LiveCount) (x : ℕ) where
  pub read_one : new.read.items ≡ set old.read.items x true → new.done.items ≡ old.done.items → is_read old x ≡ false → (new.count ≤ old.count) ⊎ ((stands old x ≡ true) × (new.count ≤ 1 + old.count)) → ReadsMore (x ∷ []) old new
  read_one r d unread n read done sub k =
      let long = k.long in
      let stay : (y : ℕ) → is_read old y ≡ true → is_read new y ≡ true = λ y e. ap (λ fs. get_or fs y false) r ∙ still_marked old.read.items x y e in
      record {
        long = ap length r ∙ (length-set old.read.items x true ∙ (k.long ∙ ap length (sym d)));
        only = λ y e. ⊎_elim (λ same. sub y (0, omega arith, sym same)) (λ h. k.only y h) (marked_cases old.read.items x y (ap (λ fs. get_or fs y false) (sym r) ∙ e));
        before = λ y e. k.before y (ap (λ fs. get_or fs y false) (sym d) ∙ e);
        few = ⊎_elim
            (λ less. let le = filter_le (is_read old) (is_read new) done stay in let few = k.few in omega (arith, less, le, few))
            (λ both.
            let within = there_within old.done.items x both.0 in
            let here : is_read new x ≡ true = ap (λ fs. get_or fs x false) r ∙ get_or-set_same old.read.items x true false (omega (arith, within, long)) in
            let lt = filter_more (is_read old) (is_read new) done x stay unread here (k.before x both.0) in
            let few = k.few in
            let less = both.1 in
            omega (arith, less, lt, few))
            n;
      }

  pub passed : new.read.items ≡ old.read.items → new.done.items ≡ set old.done.items x false → ((is_read old x ≡ true) × (new.count ≡ old.count - 1)) ⊎ ((is_read old x ≡ false) × (new.count ≡ old.count)) → Passes x old new
  passed r d n read done k =
      let few = k.few in
      let stay : (y : ℕ) → is_read old y ≡ true → is_read new y ≡ true = λ y e. ap (λ fs. get_or fs y false) r ∙ e in
      let le = filter_le (is_read old) (is_read new) done stay in
      record {
        long = ap length r ∙ (k.long ∙ (sym (length-set old.done.items x false) ∙ ap length (sym d)));
        only = λ y e. k.only y (ap (λ fs. get_or fs y false) (sym r) ∙ e);
        before = λ y e.
            let had = unmarked_cases old.done.items x y (ap (λ fs. get_or fs y false) (sym d) ∙ e) in
            ⊎_elim (λ c. c) (λ same. absurd (had.0 (sym same))) (Contains-push_cases done x y (k.before y had.1));
        few = ⊎_elim
            (λ both. let count = both.1 in let one = push_one (is_read old) done x in omega (arith, few, le, one, count))
            (λ both. let count = both.1 in let none = push_none (is_read old) done x both.0 in omega (arith, few, le, none, count))
            n;
      }

-- Reading on

pub reads_none : (xs : List ℕ) (t : LiveCount) → ReadsMore xs t t
reads_none xs t read done sub k = k

pub reads_within : (xs ys : List ℕ) (a b : LiveCount) → ((y : ℕ) → Contains xs y → Contains ys y) → ReadsMore xs a b → ReadsMore ys a b
reads_within xs ys a b h f read done sub k = f read done (λ y c. sub y (h y c)) k

pub reads_on : (xs : List ℕ) (a b c : LiveCount) → ReadsMore xs a b → ReadsMore xs b c → ReadsMore xs a c
reads_on xs a b c f g read done sub k = g read done sub (f read done sub k)

pub reads_then : (xs ys : List ℕ) (a b c : LiveCount) → ReadsMore xs a b → ReadsMore ys b c → ReadsMore (xs ++ ys) a c
reads_then xs ys a b c f g read done sub k = g read done (λ y d. sub y (Contains-append_right xs ys y d)) (f read done (λ y d. sub y (Contains-append_left xs ys y d)) k)

pub reads_same : (xs ys : List ℕ) (a b : LiveCount) → xs ≡ ys → ReadsMore ys a b → ReadsMore xs a b
reads_same xs ys a b e f = subst (λ zs. ReadsMore zs a b) (sym e) f
