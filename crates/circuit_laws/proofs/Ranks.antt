-- Where modules have no loop, they have ranks that fall along instances.
use Rattle.std.proofs.Common.{◌≡◌, ℕ, zero, suc, ◌+◌, ◌==◌, ◌<◌, ◌≤◌, Bool, true, false, cond, List, [], ◌∷◌, ◌++◌, map, length, set, replicate, Option, Some, None, slice_get, refl, sym, ap, ◌∙◌, subst, arith, ◌⊎◌, inl, inr, ⊎_elim, length-append}
use Rattle.std.proofs.lemmas.List.Elements.{Contains-append_cases}
use Rattle.std.specs.Prelude.{Contains, nat_le, option_map}
use Rattle.std.proofs.lemmas.Bool.{eqb-true, eqb-false, eq-eqb, leb-true, leb-false}
use Rattle.std.proofs.lemmas.List.{length-replicate}
use Rattle.std.proofs.lemmas.Option.{slice_get_within}
use Rattle.fir_tree.specs.declared.circuit.Circuit.{Circuit}
use Rattle.fir_tree.specs.declared.circuit.Module.{Module}
use Rattle.fir_types.specs.declared.name.Name.{Name}
use Rattle.place_text.specs.First.{HasNone}
use Rattle.fir_names.specs.Extents.{instances_in}
use Rattle.fir_names.specs.Scopes.{texts, module_names, FirstOf, Instance, Reaches, itself, through}
use Rattle.fir_names.specs.Graphs.{Marked, Spreads}
use Rattle.fir_names.specs.Faults.{IsFault, instance_loop}
use Rattle.fir_names.proofs.Graphs.{some_same, unmarked, marks_one, count_true-within}
use Rattle.fir_names.proofs.Members.{Contains-first, Contains-later, Contains-none, Contains-one}

-- The first place of a number

abbrev first_place : List ℕ → ℕ → Option ℕ
first_place [] x = None
first_place (y ∷ ys) x = cond (y == x) (Some 0) (option_map suc (first_place ys x))

some_suc : (o : Option ℕ) (k : ℕ) → option_map suc o ≡ Some k → (j : ℕ) × (k ≡ suc j) × (o ≡ Some j)
some_suc None k e = cc
some_suc (Some j) k e = (j, sym (some_same e), refl)

place_is : (ys : List ℕ) (x k : ℕ) → first_place ys x ≡ Some k → FirstOf ys x k
place_is [] x k e = cc
place_is (y ∷ ys) x k e = by (y == x) refl (place_is ys x) where
  by : (b : Bool) → (y == x) ≡ b → ((j : ℕ) → first_place ys x ≡ Some j → FirstOf ys x j) → FirstOf (y ∷ ys) x k
  by true q r =
      let is : 0 ≡ k = some_same (ap (λ b. cond b (Some 0) (option_map suc (first_place ys x))) (sym q) ∙ e) in
      subst (FirstOf (y ∷ ys) x) is (record { has = ap Some (eqb-true y x q); first = λ earlier below is. absurd (omega (arith, below)) })
  by false q r =
      let is = some_suc (first_place ys x) k (ap (λ b. cond b (Some 0) (option_map suc (first_place ys x))) (sym q) ∙ e) in
      let f : FirstOf ys x is.0 = r is.0 is.2 in
      subst (FirstOf (y ∷ ys) x) (sym is.1) (record {
        has = f.has;
        first = λ earlier. elim earlier as (λ n. n < suc is.0 → slice_get (y ∷ ys) n ≡ Some x → ⊥) [
          | zero ↦ λ below h. eqb-false y x q (some_same h)
          | suc n ↦ λ below h. f.first n (omega (arith, below)) h
        ];
      })

is_place : (ys : List ℕ) (x k : ℕ) → FirstOf ys x k → first_place ys x ≡ Some k
is_place [] x k f = let h = f.has in cc
is_place (y ∷ ys) x zero f = ap (λ b. cond b (Some 0) (option_map suc (first_place ys x))) (eq-eqb y x (some_same f.has))
is_place (y ∷ ys) x (suc k) f = by (y == x) refl (is_place ys x k (record { has = f.has; first = λ earlier below h. f.first (suc earlier) (omega (arith, below)) h })) where
  by : (b : Bool) → (y == x) ≡ b → first_place ys x ≡ Some k → first_place (y ∷ ys) x ≡ Some (suc k)
  by true q r = absurd (f.first 0 (omega arith) (ap Some (eqb-true y x q)))
  by false q r = ap (λ b. cond b (Some 0) (option_map suc (first_place ys x))) q ∙ ap (option_map suc) r

-- The numbers of names

abbrev put : Option ℕ → List ℕ → List ℕ
put None l = l
put (Some k) l = k ∷ l

abbrev numbers : List ℕ → List Name → List ℕ
numbers ts [] = []
numbers ts (n ∷ ns) = put (first_place ts n.id) (numbers ts ns)

Contains-put : (o : Option ℕ) (l : List ℕ) (j : ℕ) → Contains l j → Contains (put o l) j
Contains-put None l j i = i
Contains-put (Some k) l j i = Contains-later k l i

put-here : (o : Option ℕ) (l : List ℕ) (j : ℕ) → o ≡ Some j → Contains (put o l) j
put-here None l j e = cc
put-here (Some k) l j e = subst (λ x. Contains (k ∷ l) x) (some_same e) (Contains-first l)

numbers_all : (ts : List ℕ) (ns : List Name) (target : Name) (j : ℕ) → Contains ns target → FirstOf ts target.id j → Contains (numbers ts ns) j
numbers_all ts [] target j i f = absurd (Contains-none i)
numbers_all ts (n ∷ ns) target j i f = ⊎_elim
    (λ a. put-here (first_place ts n.id) (numbers ts ns) j (ap (λ (x : Name). first_place ts x.id) (sym (Contains-one a)) ∙ is_place ts target.id j f))
    (λ b. Contains-put (first_place ts n.id) (numbers ts ns) j (numbers_all ts ns target j b f))
    (Contains-append_cases (n ∷ []) ns _ i)

abbrev Numbered : List ℕ → List Name → ℕ → Type 0
Numbered ts ns j = (target : Name) × Contains ns target × FirstOf ts target.id j

numbers_only : (ts : List ℕ) (ns : List Name) (j : ℕ) → Contains (numbers ts ns) j → Numbered ts ns j
numbers_only ts [] j i = absurd (Contains-none i)
numbers_only ts (n ∷ ns) j i = by (first_place ts n.id) refl (numbers_only ts ns j) i where
  later : Numbered ts ns j → Numbered ts (n ∷ ns) j
  later r = (r.0, Contains-later n ns r.1, r.2)

  by : (o : Option ℕ) → first_place ts n.id ≡ o → (Contains (numbers ts ns) j → Numbered ts ns j) → Contains (put o (numbers ts ns)) j → Numbered ts (n ∷ ns) j
  by None q r i = later (r i)
  by (Some k) q r i = ⊎_elim
      (λ a. (n, Contains-first ns, place_is ts n.id j (q ∙ ap Some (sym (Contains-one a)))))
      (λ b. later (r b))
      (Contains-append_cases (k ∷ []) (numbers ts ns) _ i)

-- The greatest of numbers

abbrev larger : ℕ → ℕ → ℕ
larger x y = cond (nat_le x y) y x

larger-left : (x y : ℕ) → x ≤ larger x y
larger-left x y = by (nat_le x y) refl where
  by : (b : Bool) → nat_le x y ≡ b → x ≤ cond b y x
  by true q = leb-true x y q
  by false q = omega arith

larger-right : (x y : ℕ) → y ≤ larger x y
larger-right x y = by (nat_le x y) refl where
  by : (b : Bool) → nat_le x y ≡ b → y ≤ cond b y x
  by true q = omega arith
  by false q = omega (arith, leb-false x y q)

larger-one : (h x y : ℕ) → h < larger x y → (h < x) ⊎ (h < y)
larger-one h x y = by (nat_le x y) where
  by : (b : Bool) → h < cond b y x → (h < x) ⊎ (h < y)
  by true lt = inr lt
  by false lt = inl lt

abbrev greatest : (ℕ → ℕ) → List ℕ → ℕ
greatest x [] = 0
greatest x (j ∷ js) = larger (x j) (greatest x js)

above : (x : ℕ → ℕ) (js : List ℕ) (j : ℕ) → Contains js j → x j ≤ greatest x js
above x [] j i = absurd (Contains-none i)
above x (k ∷ js) j i = ⊎_elim
    (λ a. subst (λ z. x z ≤ greatest x (k ∷ js)) (sym (Contains-one a)) (larger-left (x k) (greatest x js)))
    (λ b. omega (arith, larger-right (x k) (greatest x js), above x js j b))
    (Contains-append_cases (k ∷ []) js _ i)

attained : (x : ℕ → ℕ) (js : List ℕ) (h : ℕ) → h < greatest x js → (j : ℕ) × Contains js j × (h < x j)
attained x [] h lt = absurd (omega (arith, lt))
attained x (k ∷ js) h lt = ⊎_elim (λ a. (k, Contains-first js, a)) (λ b. let r = attained x js h b in (r.0, Contains-later k js r.1, r.2)) (larger-one h (x k) (greatest x js) lt)

same_greatest : (x y : ℕ → ℕ) (js : List ℕ) → ((j : ℕ) → Contains js j → x j ≡ y j) → greatest x js ≡ greatest y js
same_greatest x y [] h = refl
same_greatest x y (j ∷ js) h = ap (λ z. larger z (greatest x js)) (h j (Contains-first js)) ∙ ap (larger (y j)) (same_greatest x y js (λ k i. h k (Contains-later j js i)))

-- The longest way along instances from a module

module _ (circuit : Circuit) (none : HasNone (IsFault circuit)) where
  abbrev targets_of : Option Module → List Name
  targets_of None = []
  targets_of (Some holder) = instances_in holder

  abbrev next : ℕ → List ℕ
  next k = numbers (texts (module_names circuit)) (targets_of (slice_get circuit.modules k))

  next_all : (from to : ℕ) (target : Name) → Instance circuit from target to → Contains (next from) to
  next_all from to target is = numbers_all (texts (module_names circuit)) (targets_of (slice_get circuit.modules from)) target to
      (subst (λ o. Contains (targets_of o) target) (sym is.here) is.stands) is.means

  next_only : (from to : ℕ) → Contains (next from) to → (target : Name) × Instance circuit from target to
  next_only from to i = by (slice_get circuit.modules from) refl (numbers_only (texts (module_names circuit)) (targets_of (slice_get circuit.modules from)) to i) where
    by : (o : Option Module) → slice_get circuit.modules from ≡ o → Numbered (texts (module_names circuit)) (targets_of (slice_get circuit.modules from)) to → (target : Name) × Instance circuit from target to
    by None q r = absurd (Contains-none (subst (λ o. Contains (targets_of o) r.0) q r.1))
    by (Some holder) q r = (r.0, record { holder = holder; here = q; stands = subst (λ o. Contains (targets_of o) r.0) q r.1; means = r.2 })

  abbrev height : ℕ → ℕ → ℕ
  height zero k = 0
  height (suc f) k = greatest (λ j. suc (height f j)) (next k)

  stable : (f k : ℕ) → height f k < f → height (suc f) k ≡ height f k
  stable zero k lt = absurd (omega (arith, lt))
  stable (suc f) k lt = same_greatest (λ j. suc (height (suc f) j)) (λ j. suc (height f j)) (next k)
      (λ j i. ap suc (stable f j (omega (arith, above (λ j. suc (height f j)) (next k) j i, lt))))

  -- a way of one instance or more
  abbrev Before : ℕ → ℕ → Type 0
  Before j k = (m : ℕ) × (target : Name) × Instance circuit j target m × Reaches circuit m k

  no_loop : (k : ℕ) → Before k k → ⊥
  no_loop k b = none _ (instance_loop k b.0 b.1 b.2 b.3)

  abbrev n : ℕ
  n = length circuit.modules

  mark : (marks : List Bool) (order : List ℕ) (k : ℕ) → Marked marks order → length marks ≡ n → ((j : ℕ) → Contains order j → Before j k) → k < n → Spreads (k ∷ []) marks order (set marks k true) (order ++ k ∷ [])
  mark marks order k m long before lt = marks_one marks order k m (free marks k (omega (arith, long, lt)) (λ e. no_loop k (before k ((m.same k).0 e)))) where
    free : (marks : List Bool) (k : ℕ) → k < length marks → (slice_get marks k ≡ Some true → ⊥) → slice_get marks k ≡ Some false
    free [] k lt h = absurd (omega (arith, lt))
    free (true ∷ bs) zero lt h = absurd (h refl)
    free (false ∷ bs) zero lt h = refl
    free (b ∷ bs) (suc k) lt h = free bs k (omega (arith, lt)) h

  walk : (h f k : ℕ) → h ≤ height f k → k < n → (marks : List Bool) (order : List ℕ) → Marked marks order → length marks ≡ n → ((j : ℕ) → Contains order j → Before j k) → length order + h < n
  walk zero f k le lt marks order m long before =
      let s = mark marks order k m long before lt in
      omega (arith, s.marked.count, count_true-within (set marks k true), s.counted, long, length-append order (k ∷ []))
  walk (suc h) zero k le lt marks order m long before = absurd (omega (arith, le))
  walk (suc h) (suc f) k le lt marks order m long before =
      let s = mark marks order k m long before lt in
      let a = attained (λ j. suc (height f j)) (next k) h le in
      let e = next_only k a.0 a.1 in
      let within : a.0 < n = named_within (texts (module_names circuit)) a.0 _ e.1.means.has (names_counted circuit.modules) in
      let rest : length (order ++ k ∷ []) + h < n = walk h f a.0 (omega (arith, a.2)) within (set marks k true) (order ++ k ∷ []) s.marked (s.counted ∙ long) (λ j i. ⊎_elim
      (λ l. let b = before j l in (b.0, b.1, b.2, through k a.0 e.0 b.3 e.1))
      (λ r. subst (λ x. Before x a.0) (sym (Contains-one r)) (a.0, e.0, e.1, itself))
      (Contains-append_cases order (k ∷ []) _ i)) in
      omega (arith, rest, length-append order (k ∷ []))
    where
      names_counted : (ms : List Module) → length (texts (map (λ (m : Module). m.name) ms)) ≡ length ms
      names_counted [] = refl
      names_counted (m ∷ ms) = ap suc (names_counted ms)

      named_within : (ts : List ℕ) (k x : ℕ) → slice_get ts k ≡ Some x → length ts ≡ n → k < n
      named_within ts k x e c = omega (arith, slice_get_within ts k x e, c)

  bounded : (k : ℕ) → k < n → height n k < n
  bounded k lt = let w : 0 + height n k < n = walk (height n k) n k (omega arith) lt (replicate n false) [] (unmarked n) (length-replicate n false) (λ j i. absurd (Contains-none i)) in omega (arith, w)

  falls : (from to : ℕ) (target : Name) → Instance circuit from target to → height n to < height n from
  falls from to target is =
      let lt : from < n = slice_get_within circuit.modules from is.holder is.here in
      let s : height (suc n) from ≡ height n from = stable n from (bounded from lt) in
      let up : suc (height n to) ≤ height (suc n) from = above (λ j. suc (height n j)) (next from) to (next_all from to target is) in
      omega (arith, s, up)

  pub ranked : (rank : ℕ → ℕ) × ((k : ℕ) → k < length circuit.modules → rank k < length circuit.modules) × ((from to : ℕ) (target : Name) → Instance circuit from target to → rank to < rank from)
  ranked = (height n, bounded, falls)
