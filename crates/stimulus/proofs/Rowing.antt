-- Rows of values, setting by setting.
use Rattle.std.proofs.Common.{◌≡◌, ◌≢◌, ℕ, zero, suc, ◌+◌, ◌-◌, ◌<◌, ◌≤◌, Bool, true, false, ◌&&◌, cond, eqb, leb, List, [], ◌∷◌, ◌++◌, length, take, drop, get_or, map, reverse, Some, refl, sym, ap, ap₂, ◌∙◌, subst, arith, ⊎_elim}
use Rattle.std.specs.Prelude.{⊤, None, find, slice_set, All, AllPairs}
use Rattle.std.specs.List.{enumerate_from}
use Rattle.std.specs.Option.{option_or}
use Rattle.std.proofs.lemmas.Bool.{cases_lt}
use Rattle.std.proofs.lemmas.Bool.Decides.{nat_tests}
use Rattle.std.proofs.lemmas.List.{take_more, take-append-drop, reverse-append, length-map, length-take-le, get_or-take, get_or-drop, length-drop, map-append}
use Rattle.std.proofs.lemmas.List.FromFn.{length-enumerate_from, map-range_with_len_more}
use Rattle.std.proofs.lemmas.List.Folds.{find-append}
use Rattle.std.proofs.lemmas.Option.{slice_get_within}
use Rattle.bit_words.specs.declared.value.Value.{Value}
use Rattle.prim_ops.proofs.Fittings.{same_value}
use Rattle.ground_net.specs.declared.net.Ports.{Ports}
use Rattle.ground_net.specs.declared.net.PortLeaf.{PortLeaf}
use Rattle.stimulus.specs.declared.stimulus.Setting.{Setting}
use Rattle.stimulus.specs.Stimuli.{IsOf, StandsBefore}
use Rattle.stimulus.specs.Rows.{zero_of, last_set, value_or, value_in, row_in, rows_from}
use Rattle.stimulus.specs.RowSteps.{row_after}

-- no setting yet
map-enumerate : (f : PortLeaf → Value) (n : ℕ) (xs : List PortLeaf) → map (λ (e : ℕ × PortLeaf). f e.1) (enumerate_from n xs) ≡ map f xs
map-enumerate f n [] = refl
map-enumerate f n (x ∷ xs) = ap (λ vs. f x ∷ vs) (map-enumerate f (n + 1) xs)

pub row_start : (inputs : List PortLeaf) → map zero_of inputs ≡ row_after inputs []
row_start inputs = sym (map-enumerate zero_of 0 inputs)

pub zero_more : (inputs : List PortLeaf) (i : ℕ) (leaf : PortLeaf) (value : Value) → i < length inputs → leaf ≡ get_or inputs i leaf → value.kind ≡ leaf.kind → value.width ≡ leaf.width → value.bits ≡ 0
    → map zero_of (take i inputs) ++ value ∷ [] ≡ map zero_of (take (i + 1) inputs)
zero_more inputs i leaf value lt e kind width bits =
    ap (λ v. map zero_of (take i inputs) ++ v ∷ []) (same_value value (zero_of leaf) kind width bits) ∙ sym (map-append zero_of (take i inputs) (leaf ∷ []))
    ∙ ap (map zero_of) (sym (take_more inputs i leaf lt ∙ ap (λ l. take i inputs ++ l ∷ []) (sym e)))

-- two functions that differ at one place
module _ (f g : ℕ × PortLeaf → Value) (at : ℕ) (v : Value) (differ : (e : ℕ × PortLeaf) → f e ≡ cond (eqb at e.0) v (g e)) where
  apart : (e : ℕ × PortLeaf) → at ≢ e.0 → f e ≡ g e
  apart e ne = let other : eqb at e.0 ≡ false = grind (arith, nat_tests, ne) in differ e ∙ ap (λ b. cond b v (g e)) other

  beyond : (n : ℕ) (xs : List PortLeaf) → at < n → map f (enumerate_from n xs) ≡ map g (enumerate_from n xs)
  beyond n [] lt = refl
  beyond n (x ∷ xs) lt = ap₂ (λ y ys. y ∷ ys) (apart (n, x) (omega (arith, lt))) (beyond (n + 1) xs (omega (arith, lt)))

  one_place : (n j : ℕ) (xs : List PortLeaf) → n + j ≡ at → map f (enumerate_from n xs) ≡ slice_set (map g (enumerate_from n xs)) j v
  one_place n j [] e = refl
  one_place n zero (x ∷ xs) e =
      let here : eqb at n ≡ true = grind (arith, nat_tests, e) in
      ap₂ (λ y ys. y ∷ ys) (differ (n, x) ∙ ap (λ b. cond b v (g (n, x))) here) (beyond (n + 1) xs (omega (arith, e)))
  one_place n (suc j) (x ∷ xs) e = ap₂ (λ y ys. y ∷ ys) (apart (n, x) (omega (arith, e))) (one_place (n + 1) j xs (omega (arith, e)))

-- one more setting
reverse-push : {A : Type 0} (xs : List A) (x : A) → reverse (xs ++ x ∷ []) ≡ x ∷ reverse xs
reverse-push xs x = reverse-append xs (x ∷ [])

row_more : (inputs : List PortLeaf) (done : List Setting) (s : Setting) → row_after inputs (done ++ s ∷ []) ≡ slice_set (row_after inputs done) s.input s.value
row_more inputs done s =
    one_place (λ e. value_or (find (λ t. eqb t.input e.0) (reverse (done ++ s ∷ []))) (zero_of e.1)) (λ e. value_or (find (λ t. eqb t.input e.0) (reverse done)) (zero_of e.1)) s.input s.value
    (λ e. ap (λ ss. value_or (find (λ t. eqb t.input e.0) ss) (zero_of e.1)) (reverse-push done s) ∙ by e (eqb s.input e.0)) 0 s.input inputs (omega arith)
  where
    by : (e : ℕ × PortLeaf) (b : Bool)
        → value_or (cond b (Some s) (find (λ t. eqb t.input e.0) (reverse done))) (zero_of e.1) ≡ cond b s.value (value_or (find (λ t. eqb t.input e.0) (reverse done)) (zero_of e.1))
    by e true = refl
    by e false = refl

pub row_next : (inputs : List PortLeaf) (settings : List Setting) (k : ℕ) (s : Setting) → k < length settings → s ≡ get_or settings k s → slice_set (row_after inputs (take k settings)) s.input s.value ≡ row_after inputs (take (k + 1) settings)
row_next inputs settings k s lt e = sym (ap (row_after inputs) (take_more settings k s lt ∙ ap (λ t. take k settings ++ t ∷ []) (sym e)) ∙ row_more inputs (take k settings) s)

pub row_long : (inputs : List PortLeaf) (done : List Setting) → length (row_after inputs done) ≡ length inputs
row_long inputs done = length-map (enumerate_from 0 inputs) (λ e. value_or (find (λ t. eqb t.input e.0) (reverse done)) (zero_of e.1)) ∙ length-enumerate_from 0 inputs

-- what holds of each element
abbrev Each : {A : Type 0} → (A → Type 0) → List A → Type 0
Each P [] = ⊤
Each P (x ∷ xs) = P x × Each P xs

each_of : {A : Type 0} (P : A → Type 0) (xs : List A) → ((k : ℕ) (d : A) → k < length xs → P (get_or xs k d)) → Each P xs
each_of P [] h = tt
each_of P (x ∷ xs) h = (h 0 x (omega arith), each_of P xs (λ k d lt. h (suc k) d (omega (arith, lt))))

reverse-cons : {A : Type 0} (x : A) (xs : List A) → reverse (x ∷ xs) ≡ reverse xs ++ x ∷ []
reverse-cons x xs = reverse-append (x ∷ []) xs

find_nothing : {A : Type 0} (p : A → Bool) (xs : List A) → Each (λ x. p x ≡ false) xs → find p (reverse xs) ≡ None
find_nothing p [] h = refl
find_nothing p (x ∷ xs) h = ap (find p) (reverse-cons x xs) ∙ find-append p (reverse xs) (x ∷ []) ∙ ap₂ option_or (find_nothing p xs h.1) (ap (λ b. cond b (Some x) None) h.0)

find_same : {A : Type 0} (p q : A → Bool) (xs : List A) → Each (λ x. p x ≡ q x) xs → find p (reverse xs) ≡ find q (reverse xs)
find_same p q [] h = refl
find_same p q (x ∷ xs) h =
    ap (find p) (reverse-cons x xs) ∙ find-append p (reverse xs) (x ∷ []) ∙ ap₂ option_or (find_same p q xs h.1) (ap (λ b. cond b (Some x) None) h.0)
    ∙ sym (ap (find q) (reverse-cons x xs) ∙ find-append q (reverse xs) (x ∷ []))

and_true : (b : Bool) → b && true ≡ b
and_true true = refl
and_true false = refl

and_false : (b : Bool) → b && false ≡ false
and_false true = refl
and_false false = refl

-- where the first settings are those at or before a cycle, they make its row
module _ (ports : Ports) (settings : List Setting) (cycle next : ℕ) (within : next ≤ length settings) (passed : (k : ℕ) (d : Setting) → k < next → (get_or settings k d).cycle ≤ cycle)
    (later : (k : ℕ) (d : Setting) → next ≤ k → k < length settings → cycle < (get_or settings k d).cycle) where
  front_long : length (take next settings) ≡ next
  front_long = length-take-le next settings within

  back_long : length (drop next settings) ≡ length settings - next
  back_long = length-drop next settings

  found : (input : ℕ) → last_set settings cycle input ≡ find (λ s. eqb s.input input) (reverse (take next settings))
  found input =
      ap (λ ss. find test (reverse ss)) (sym (take-append-drop next settings)) ∙ ap (find test) (reverse-append (take next settings) (drop next settings))
      ∙ find-append test (reverse (drop next settings)) (reverse (take next settings)) ∙ ap (λ o. option_or o (find test (reverse (take next settings)))) (find_nothing test (drop next settings) none)
      ∙ find_same test (λ s. eqb s.input input) (take next settings) same
    where
      test : Setting → Bool
      test s = eqb s.input input && leb s.cycle cycle

      none : Each (λ s. eqb s.input input && leb s.cycle cycle ≡ false) (drop next settings)
      none = each_of (λ s. eqb s.input input && leb s.cycle cycle ≡ false) (drop next settings) (λ k d lt. let at = get_or-drop next settings k d in
          let late = later (next + k) d (omega arith) (omega (arith, lt, back_long)) in
          let no' : leb (get_or (drop next settings) k d).cycle cycle ≡ false = subst (λ (s : Setting). leb s.cycle cycle ≡ false) (sym at) (grind (arith, nat_tests, late)) in
          ap (λ b. eqb (get_or (drop next settings) k d).input input && b) no' ∙ and_false (eqb (get_or (drop next settings) k d).input input))

      same : Each (λ s. eqb s.input input && leb s.cycle cycle ≡ eqb s.input input) (take next settings)
      same = each_of (λ s. eqb s.input input && leb s.cycle cycle ≡ eqb s.input input) (take next settings) (λ k d lt. let below : k < next = omega (arith, lt, front_long) in
          let at = get_or-take next settings k d below in
          let early = passed k d below in
          let yes' : leb (get_or (take next settings) k d).cycle cycle ≡ true = subst (λ (s : Setting). leb s.cycle cycle ≡ true) (sym at) (grind (arith, nat_tests, early)) in
          ap (λ b. eqb (get_or (take next settings) k d).input input && b) yes' ∙ and_true (eqb (get_or (take next settings) k d).input input))

  pub row_is : row_in ports settings cycle ≡ row_after ports.inputs (take next settings)
  row_is = by 0 ports.inputs
    where
      by : (n : ℕ) (xs : List PortLeaf)
          → map (λ (e : ℕ × PortLeaf). value_in settings cycle e.0 e.1) (enumerate_from n xs) ≡ map (λ (e : ℕ × PortLeaf). value_or (find (λ s. eqb s.input e.0) (reverse (take next settings))) (zero_of e.1)) (enumerate_from n xs)
      by n [] = refl
      by n (x ∷ xs) = ap₂ (λ y ys. y ∷ ys) (ap (λ o. value_or o (zero_of x)) (found n)) (by (n + 1) xs)

-- settings stand by cycle
pub all_later : (settings : List Setting) (cycle next : ℕ) → AllPairs StandsBefore settings → ((d : Setting) → next < length settings → cycle < (get_or settings next d).cycle)
    → (k : ℕ) (d : Setting) → next ≤ k → k < length settings → cycle < (get_or settings k d).cycle
all_later settings cycle next pairs stops k d le lt = ⊎_elim (λ less. let t = pairs next k d less lt in omega (arith, t.in_order, stops d (omega (arith, less, lt)))) (λ ge. subst (λ n. cycle < (get_or settings n d).cycle) (omega (arith, le, ge)) (stops d (omega (arith, le, lt)))) (cases_lt next k)

pub inputs_within : (ports : Ports) (settings : List Setting) (n : ℕ) → n ≡ length ports.inputs → All (IsOf ports) settings → All (λ s. s.input < n) settings
inputs_within ports settings n e h = λ k d lt. let t = h k d lt in let w = slice_get_within ports.inputs (get_or settings k d).input t.leaf t.input in omega (arith, w, e)

pub rows_more : (ports : Ports) (settings : List Setting) (first cycle : ℕ) → first ≤ cycle → rows_from ports settings first (cycle - first) ++ row_in ports settings cycle ∷ [] ≡ rows_from ports settings first (cycle + 1 - first)
rows_more ports settings first cycle le =
    let n : cycle + 1 - first ≡ cycle - first + 1 = omega (arith, le) in
    sym (ap (rows_from ports settings first) n ∙ map-range_with_len_more (row_in ports settings) first (cycle - first) cycle (omega (arith, le)))
