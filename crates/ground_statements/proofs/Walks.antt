-- What closes the loops over targets and leaves.
use Rattle.std.proofs.Common.{◌≡◌, ℕ, zero, suc, ◌<◌, ◌≤◌, ◌+◌, ◌*◌, Bool, true, false, List, [], ◌∷◌, ◌++◌, map, length, drop, get_or, refl, sym, ap, ap₂, ◌∙◌, subst, arith, ◌==◌, ◌||◌, if◌then◌else◌, Some, None, Option, slice_get, append-nil, append_assoc}
use Rattle.std.specs.List.{flat_map, range_with_len}
use Rattle.std.proofs.lemmas.Grind.{common_steps, flat_map-append}
use Rattle.std.proofs.lemmas.Bool.Decides.{nat_tests}
use Rattle.fir_types.specs.declared.leaf.TypeLeaf.{TypeLeaf}
use Rattle.ground_net.specs.declared.ground.Ground.{Ground}
use Rattle.ground_net.specs.declared.circuit.GroundStmt.{GroundStmt}
use Rattle.ground_net.specs.declared.circuit.GroundStmt.TheVariants.{Connect}
use Rattle.ground_exprs.specs.declared.part.Pick.{Pick}
use Rattle.ground_exprs.specs.Parts.{is_nowhere}
use Rattle.ground_exprs.specs.declared.source.Source.{Source}
use Rattle.ground_statements.specs.declared.targets.Target.{Target}
use Rattle.ground_statements.specs.Targets.{equals, under_condition, targets, is_allowed, set_each, set_one, set_leaves, AreFits}

range_from : (a n : ℕ) → range_with_len a (n + 1) ≡ range_with_len a n ++ (a + n) ∷ []
range_from a zero = ap (λ m. m ∷ []) (plain a)
  where
    plain : (a : ℕ) → a ≡ a + 0
    plain a = omega arith
range_from a (suc n) = ap (range_with_len a) (more n) ∙ ap (λ l. a ∷ l) (range_from (a + 1) n ∙ ap (λ m. range_with_len (a + 1) n ++ m ∷ []) (shift a n))
  where
    more : (n : ℕ) → suc n + 1 ≡ suc (n + 1)
    more n = omega arith

    shift : (a n : ℕ) → a + 1 + n ≡ a + suc n
    shift a n = omega arith

range_more : (n : ℕ) → range_with_len 0 (n + 1) ≡ range_with_len 0 n ++ n ∷ []
range_more n = range_from 0 n ∙ ap (λ m. range_with_len 0 n ++ m ∷ []) (plain n)
  where
    plain : (n : ℕ) → 0 + n ≡ n
    plain n = omega arith

pub set_each_more : (settable : List Bool) (source : Ground) (ts : List Target) (t : Target) → set_each settable source (ts ++ t ∷ []) ≡ set_each settable source ts ++ set_each settable source (t ∷ [])
set_each_more settable source [] t = refl
set_each_more settable source (u ∷ ts) t =
    ap (λ l. (if is_allowed (slice_get settable u.leaf) then Connect u.leaf u.conditions source ∷ [] else []) ++ l) (set_each_more settable source ts t)
    ∙ sym (append_assoc (if is_allowed (slice_get settable u.leaf) then Connect u.leaf u.conditions source ∷ [] else []) (set_each settable source ts) (set_each settable source (t ∷ [])))

pub pushed_each : (settable : List Bool) (source : Ground) (old mid new : List GroundStmt) (ts : List Target) (t : Target) → mid ≡ old ++ set_each settable source ts
    → new ≡ mid ++ set_each settable source (t ∷ []) → new ≡ old ++ set_each settable source (ts ++ t ∷ [])
pushed_each settable source old mid new ts t m n =
    n ∙ (ap (λ l. l ++ set_each settable source (t ∷ [])) m ∙ (append_assoc old (set_each settable source ts) (set_each settable source (t ∷ []))
    ∙ ap (λ l. old ++ l) (sym (set_each_more settable source ts t))))

pub elements_more : (pick : Pick) (rest : List Pick) (leaf k next : ℕ) (listed after inner : List Target)
    → listed ≡ flat_map (λ k. map (under_condition (equals pick.index k)) (targets rest (leaf + k * pick.stride))) (range_with_len 0 k) → next ≡ leaf + k * pick.stride → inner ≡ targets rest next
    → after ≡ listed ++ map (under_condition (equals pick.index k)) inner
    → after ≡ flat_map (λ k. map (under_condition (equals pick.index k)) (targets rest (leaf + k * pick.stride))) (range_with_len 0 (k + 1))
elements_more pick rest leaf k next listed after inner l n i a =
    let f : ℕ → List Target = λ k. map (under_condition (equals pick.index k)) (targets rest (leaf + k * pick.stride)) in
    a ∙ (ap₂ (λ p q. p ++ map (under_condition (equals pick.index k)) q) l (i ∙ ap (targets rest) n)
    ∙ (ap (λ q. flat_map f (range_with_len 0 k) ++ q) (sym (append-nil (f k)))
    ∙ (sym (flat_map-append f (range_with_len 0 k) (k ∷ [])) ∙ ap (flat_map f) (sym (range_more k)))))

no_elements : (f : ℕ → List Target) (ks : List ℕ) → ((k : ℕ) → f k ≡ []) → flat_map f ks ≡ []
no_elements f [] h = refl
no_elements f (k ∷ ks) h = Rattle.std.proofs.lemmas.List.Concat.flat_map-cons f k ks ∙ ap₂ (λ p q. p ++ q) (h k) (no_elements f ks h)

-- no leaf is there where a vector on the way has no elements
pub nowhere_none : (picks : List Pick) (leaf : ℕ) → is_nowhere picks ≡ true → targets picks leaf ≡ []
nowhere_none [] leaf h = absurd (Rattle.std.proofs.Common.true≢false (sym h))
nowhere_none (pick ∷ picks) leaf h = by (λ q k. nowhere_none picks (leaf + k * pick.stride) q) (pick.length == 0) refl h
  where
    by : (is_nowhere picks ≡ true → (k : ℕ) → targets picks (leaf + k * pick.stride) ≡ []) → (b : Bool) → (pick.length == 0) ≡ b → (b || is_nowhere picks) ≡ true → targets (pick ∷ picks) leaf ≡ []
    by deep true e q =
        let none : pick.length ≡ 0 = grind (arith, common_steps, nat_tests, e) in
        ap (λ n. flat_map (λ k. map (under_condition (equals pick.index k)) (targets picks (leaf + k * pick.stride))) (range_with_len 0 n)) none
    by deep false e q =
        no_elements (λ k. map (under_condition (equals pick.index k)) (targets picks (leaf + k * pick.stride))) (range_with_len 0 pick.length)
        (λ k. ap (map (under_condition (equals pick.index k))) (deep q k))

-- Leaf by leaf

pub set_leaves_more : (settable : List Bool) (picks : List Pick) (number : ℕ) (fits : List (Option Source)) (fit : Option Source)
    → set_leaves settable picks number (fits ++ fit ∷ []) ≡ set_leaves settable picks number fits ++ set_one settable picks (number + length fits) fit
set_leaves_more settable picks number [] fit = append-nil (set_one settable picks number fit) ∙ ap (λ n. set_one settable picks n fit) (plain number)
  where
    plain : (n : ℕ) → n ≡ n + 0
    plain n = omega arith
set_leaves_more settable picks number (f ∷ fits) fit =
    ap (λ l. set_one settable picks number f ++ l) (set_leaves_more settable picks (number + 1) fits fit)
    ∙ (sym (append_assoc (set_one settable picks number f) (set_leaves settable picks (number + 1) fits) (set_one settable picks (number + 1 + length fits) fit))
    ∙ ap (λ n. (set_one settable picks number f ++ set_leaves settable picks (number + 1) fits) ++ set_one settable picks n fit) (shift number (length fits)))
  where
    shift : (n k : ℕ) → n + 1 + k ≡ n + suc k
    shift n k = omega arith

pub all_more : (settable : List Bool) (picks : List Pick) (first number : ℕ) (fits : List (Option Source)) (fit : Option Source) (made after : List GroundStmt)
    → number ≡ first + length fits → made ≡ set_leaves settable picks first fits → after ≡ made ++ set_one settable picks number fit → after ≡ set_leaves settable picks first (fits ++ fit ∷ [])
all_more settable picks first number fits fit made after n m a =
    a ∙ (ap₂ (λ p k. p ++ set_one settable picks k fit) m n ∙ sym (set_leaves_more settable picks first fits fit))

pub drop_end : {A : Type 0} (xs : List A) (k : ℕ) → length xs ≤ k → drop k xs ≡ []
drop_end [] zero h = refl
drop_end [] (suc k) h = refl
drop_end (x ∷ xs) zero h = absurd (omega (arith, h))
drop_end (x ∷ xs) (suc k) h = drop_end xs k (omega (arith, h))

pub fits_end : (flip : Bool) (leaves : List TypeLeaf) (sources its : List Source) (k : ℕ) (fits : List (Option Source))
    → ((rest : List (Option Source)) → AreFits flip (drop k leaves) its rest → AreFits flip leaves sources (fits ++ rest)) → length leaves ≤ k → AreFits flip leaves sources fits
fits_end flip leaves sources its k fits inv h =
    subst (AreFits flip leaves sources) (append-nil fits) (inv [] (subst (λ l. AreFits flip l its []) (sym (drop_end leaves k h)) tt))

pub one_longer : {A : Type 0} (first number : ℕ) (xs : List A) (x : A) → number ≡ first + length xs → number + 1 ≡ first + length (xs ++ x ∷ [])
one_longer first number xs x e = grind (arith, common_steps, e)
