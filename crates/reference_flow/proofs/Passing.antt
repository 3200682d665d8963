-- References passed one after another.
use Rattle.std.proofs.Common.{◌≡◌, ℕ, zero, suc, ◌+◌, ◌-◌, ◌<◌, List, [], ◌∷◌, ◌++◌, length, take, get_or, refl, sym, ap, ◌∙◌, arith}
use Rattle.std.specs.List.{flat_map}
use Rattle.std.specs.declared.ops.ControlFlow.{ControlFlow}
use Rattle.std.specs.declared.ops.ControlFlow.TheVariants.{Continue, Break}
use Rattle.std.proofs.lemmas.Grind.{common_steps}
use Rattle.fir_tree.specs.declared.part.Flow.{Flow}
use Rattle.fir_tree.specs.declared.part.Flow.TheVariants.{Source}
use Rattle.reference_flow.specs.Counting.{passed}

-- what was passed, and then these
abbrev and_then : ControlFlow Flow ℕ → List Flow → ControlFlow Flow ℕ
and_then (Continue left) flows = passed flows left
and_then (Break flow) flows = Break flow

passed-append : (xs ys : List Flow) (n : ℕ) → passed (xs ++ ys) n ≡ and_then (passed xs n) ys
passed-append [] ys n = refl
passed-append (x ∷ xs) ys zero = refl
passed-append (x ∷ xs) ys (suc n) = passed-append xs ys n

-- one of two lists

goes_on : (xs ys : List Flow) (n m : ℕ) → passed xs n ≡ Continue m → passed (xs ++ ys) n ≡ passed ys m
goes_on xs ys n m e = passed-append xs ys n ∙ ap (λ c. and_then c ys) e

breaks : (xs ys : List Flow) (n : ℕ) (flow : Flow) → passed xs n ≡ Break flow → passed (xs ++ ys) n ≡ Break flow
breaks xs ys n flow e = passed-append xs ys n ∙ ap (λ c. and_then c ys) e

pub goes_behind : {whole : List Flow} (xs ys : List Flow) (n m : ℕ) → whole ≡ xs ++ ys → Continue m ≡ passed xs n → passed ys m ≡ passed whole n
goes_behind xs ys n m e h = sym (ap (λ fs. passed fs n) e ∙ goes_on xs ys n m (sym h))

pub breaks_before : {whole : List Flow} (xs ys : List Flow) (n : ℕ) (flow : Flow) → whole ≡ xs ++ ys → Break flow ≡ passed xs n → Break flow ≡ passed whole n
breaks_before xs ys n flow e h = sym (ap (λ fs. passed fs n) e ∙ breaks xs ys n flow (sym h))

-- a reference itself

pub passed-front : (flow : Flow) (flows : List Flow) (n : ℕ) → (n ≡ 0 → ⊥) → passed (flow ∷ flows) n ≡ passed flows (n - 1)
passed-front flow flows zero h = absurd (h refl)
passed-front flow flows (suc n) h = ap (passed flows) (omega arith)

-- one more item

pub one_more : {A : Type 0} (f : A → List Flow) (xs : List A) (i : ℕ) (x : A) (n m k : ℕ) → i < length xs → x ≡ get_or xs i x
    → passed (flat_map f (take i xs)) n ≡ Continue m → passed (f x) m ≡ Continue k → passed (flat_map f (take (i + 1) xs)) n ≡ Continue k
one_more f xs i x n m k l e h g =
    let step : flat_map f (take (i + 1) xs) ≡ flat_map f (take i xs) ++ f x = grind (arith, common_steps) in
    ap (λ fs. passed fs n) step ∙ goes_on (flat_map f (take i xs)) (f x) n m h ∙ g

split_at : {A : Type 0} (f : A → List Flow) (xs : List A) (i : ℕ) (x : A) → i < length xs → x ≡ get_or xs i x
    → (rest : List Flow) × (flat_map f xs ≡ flat_map f (take i xs) ++ (f x ++ rest))
split_at f [] i x l e = absurd (omega arith)
split_at f (y ∷ ys) zero x l e = (flat_map f ys, ap (λ z. f z ++ flat_map f ys) (sym e))
split_at f (y ∷ ys) (suc i) x l e =
    let r = split_at f ys i x (omega arith) e in
    (r.0, ap (λ d. f y ++ d) r.1 ∙ grind (arith, common_steps))

pub broken_here : {A : Type 0} (f : A → List Flow) (xs : List A) (i : ℕ) (x : A) (n m : ℕ) (flow : Flow) → i < length xs → x ≡ get_or xs i x
    → passed (flat_map f (take i xs)) n ≡ Continue m → passed (f x) m ≡ Break flow → passed (flat_map f xs) n ≡ Break flow
broken_here f xs i x n m flow l e h g =
    let s = split_at f xs i x l e in
    ap (λ fs. passed fs n) s.1 ∙ goes_on (flat_map f (take i xs)) (f x ++ s.0) n m h ∙ breaks (f x) s.0 m flow g

-- the flow of a number

pub flow_at : (flows : List Flow) (n : ℕ) (flow : Flow) → passed flows n ≡ Break flow → get_or flows n Source ≡ flow
flow_at [] n flow e = absurd cc
flow_at (x ∷ xs) zero flow e = cc
flow_at (x ∷ xs) (suc n) flow e = flow_at xs n flow e

pub flow_past : (flows : List Flow) (n m : ℕ) → passed flows n ≡ Continue m → get_or flows n Source ≡ Source
flow_past [] n m e = refl
flow_past (x ∷ xs) zero m e = absurd cc
flow_past (x ∷ xs) (suc n) m e = flow_past xs n m e
