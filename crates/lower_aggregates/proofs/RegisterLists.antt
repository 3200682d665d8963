-- The registers of a module, by their numbers.
use Rattle.std.proofs.Common.{◌≡◌, ℕ, zero, suc, ◌+◌, ◌<◌, ◌≤◌, Bool, true, false, List, [], ◌∷◌, ◌++◌, map, filter_map, take, zip, length, Option, Some, None, refl, sym, ap, ap₂, ◌∙◌, subst, arith, if◌then◌else◌, ◌⊎◌, inl, inr, ⊎_elim}
use Rattle.std.specs.List.{slice_get, flat_map, range_with_len, cons_option, sum_by}
use Rattle.std.proofs.lemmas.Grind.{common_steps}
use Rattle.std.proofs.lemmas.List.{map-append, length-map}
use Rattle.std.proofs.lemmas.List.Concat.{flat_map-cons}
use Rattle.std.proofs.lemmas.List.Sums.{sum_by-cons}
use Rattle.fir_types.specs.declared.leaf.TypeLeaf.{TypeLeaf}
use Rattle.fir_types.specs.Leaves.{leaves}
use Rattle.fir_meaning.specs.Components.{Component, Sort, An_input, An_output, A_wire, A_register, A_reset_register, A_memory, An_instance, A_node}
use Rattle.fir_meaning.specs.States.{is_register}
use Rattle.ground_net.specs.declared.net.NetRegister.{NetRegister}
use Rattle.ground_net.specs.declared.net.NetReset.{NetReset}
use Rattle.net_of_circuit.specs.Numbers.{ModuleLeaf, leaves_of}
use Rattle.ground_exprs.specs.Sources.{Entries}
use Rattle.lower_aggregates.specs.Parts.{Part, component_part, component_parts}
use Rattle.lower_aggregates.specs.Registers.{AreFirst, AreOwnBy, AreRegisters, HasResetBy, RegisterAt, PlainReset, ResetTo}

some_same : {A : Type 0} {x y : A} → Some x ≡ Some y → x ≡ y
some_same {A} {x} e = ap (or_first x) e
  where
    or_first : A → Option A → A
    or_first d (Some z) = z
    or_first d None = d

none_some : {A : Type 0} {B : Type 0} {x : A} → None ≡ Some x → B
none_some e = absurd cc

item : {A B : Type 0} (xs : List A) (ys : List B) (k : ℕ) (x : A) → length ys ≡ length xs → slice_get xs k ≡ Some x → (y : B) × (slice_get ys k ≡ Some y)
item [] ys k x n e = none_some e
item (a ∷ xs) [] k x n e = absurd (omega (arith, n))
item (a ∷ xs) (b ∷ ys) zero x n e = (b, refl)
item (a ∷ xs) (b ∷ ys) (suc k) x n e = item xs ys k x (omega (arith, n)) e

from_append : {A : Type 0} (xs ys : List A) (k : ℕ) (x : A) → slice_get (xs ++ ys) k ≡ Some x → (slice_get xs k ≡ Some x) ⊎ ((j : ℕ) × (slice_get ys j ≡ Some x))
from_append [] ys k x e = inr (k, e)
from_append (z ∷ xs) ys zero x e = inl e
from_append (z ∷ xs) ys (suc k) x e = from_append xs ys k x e

abbrev size : Component → ℕ
size d = length (leaves d.typ)

-- Each register is one of a leaf.

own_at : (entries : Entries) (b : ℕ) (c : Component) (cs : List Component) (own : List NetRegister) (sort : Sort) → c.declaration.sort ≡ sort → AreOwnBy entries (component_part b c) sort own
    → (i : ℕ) (r : NetRegister) → slice_get own i ≡ Some r → RegisterAt entries b (c ∷ cs) r
own_at entries b c cs own sort e h i r at = by sort e h
  where
    z : b ≡ b + sum_by size []
    z = grind (arith, common_steps)

    from : (Has : ℕ → TypeLeaf → Option NetReset → Type 0) → AreFirst (component_part b c) Has (length (leaves c.typ)) own
        → ((leaf : TypeLeaf) → Has i leaf r.reset → HasResetBy entries c.declaration.sort i leaf r.reset) → RegisterAt entries b (c ∷ cs) r
    from Has first as_is =
        let there = item own (leaves c.typ) i r (sym first.counted) at in
        let known = first.each i there.0 r there.1 at in
        record {
          k = 0;
          j = i;
          c = c;
          leaf = there.0;
          stands = refl;
          listed = there.1;
          number = known.0 ∙ ap (λ n. n + i) z;
          has = as_is there.0 known.1;
        }

    none : own ≡ [] → RegisterAt entries b (c ∷ cs) r
    none q = none_some (ap (λ l. slice_get l i) (sym q) ∙ at)

    by : (s : Sort) → c.declaration.sort ≡ s → AreOwnBy entries (component_part b c) s own → RegisterAt entries b (c ∷ cs) r
    by (A_register clock) q o = from PlainReset o (λ leaf x. subst (λ t. HasResetBy entries t i leaf r.reset) (sym q) x)
    by (A_reset_register clock reset init) q (s, inits, low, ini, first) =
        from (ResetTo s.expr inits) first (λ leaf x. subst (λ t. HasResetBy entries t i leaf r.reset) (sym q) (s, inits, low, ini, x))
    by An_input q o = none o
    by An_output q o = none o
    by A_wire q o = none o
    by (A_memory memory) q o = none o
    by (An_instance target) q o = none o
    by (A_node expr) q o = none o

one_further : (entries : Entries) (b : ℕ) (c : Component) (cs : List Component) (r : NetRegister) → RegisterAt entries (b + length (leaves c.typ)) cs r → RegisterAt entries b (c ∷ cs) r
one_further entries b c cs r a =
    let s : sum_by size (take (suc a.k) (c ∷ cs)) ≡ length (leaves c.typ) + sum_by size (take a.k cs) = sum_by-cons size c (take a.k cs) in
    let n : b + length (leaves c.typ) + sum_by size (take a.k cs) ≡ b + sum_by size (take (suc a.k) (c ∷ cs)) = omega (arith, s) in
    record {
      k = suc a.k;
      j = a.j;
      c = a.c;
      leaf = a.leaf;
      stands = a.stands;
      listed = a.listed;
      number = a.number ∙ ap (λ x. x + a.j) n;
      has = a.has;
    }

pub register_at : (entries : Entries) (b : ℕ) (cs : List Component) (registers : List NetRegister) → AreRegisters entries (component_parts b cs) registers → (i : ℕ) (r : NetRegister) → slice_get registers i ≡ Some r
    → RegisterAt entries b cs r
register_at entries b [] registers h i r e = none_some (ap (λ l. slice_get l i) (sym h) ∙ e)
register_at entries b (c ∷ cs) registers (own, rest, split, o, more) i r e =
    ⊎_elim
    (λ here. own_at entries b c cs own c.declaration.sort refl o i r here)
    (λ there. one_further entries b c cs r (register_at entries (b + length (leaves c.typ)) cs rest more there.0 r there.1))
    (from_append own rest i r (ap (λ l. slice_get l i) (sym split) ∙ e))

-- Their numbers

same_items : {A : Type 0} (xs ys : List A) → ((i : ℕ) → slice_get xs i ≡ slice_get ys i) → xs ≡ ys
same_items [] [] h = refl
same_items [] (y ∷ ys) h = none_some (h 0)
same_items (x ∷ xs) [] h = none_some (sym (h 0))
same_items (x ∷ xs) (y ∷ ys) h = ap₂ (λ a l. a ∷ l) (some_same (h 0)) (same_items xs ys (λ i. h (suc i)))

range_at : (a n i : ℕ) → i < n → slice_get (range_with_len a n) i ≡ Some (a + i)
range_at a zero i l = absurd (omega (arith, l))
range_at a (suc n) zero l = let e : a ≡ a + 0 = omega arith in ap Some e
range_at a (suc n) (suc i) l = let e : a + 1 + i ≡ a + suc i = omega arith in range_at (a + 1) n i (omega (arith, l)) ∙ ap Some e

range_past : (a n i : ℕ) → n ≤ i → slice_get (range_with_len a n) i ≡ None
range_past a zero i l = refl
range_past a (suc n) zero l = absurd (omega (arith, l))
range_past a (suc n) (suc i) l = range_past (a + 1) n i (omega (arith, l))

map_get : {A B : Type 0} (h : A → B) (xs : List A) (k : ℕ) → (n : ℕ) → length xs ≡ n → ((x : A) → slice_get xs k ≡ Some x → (k < n) × (slice_get (map h xs) k ≡ Some (h x))) × (slice_get xs k ≡ None → (n ≤ k) × (slice_get (map h xs) k ≡ None))
map_get h [] k n e = ((λ x q. none_some q), λ q. (omega (arith, e), refl))
map_get h (a ∷ xs) zero n e = ((λ x q. (omega (arith, e), ap Some (ap h (some_same q)))), λ q. none_some (sym q))
map_get h (a ∷ xs) (suc k) zero e = absurd (omega (arith, e))
map_get h (a ∷ xs) (suc k) (suc n) e =
    let r = map_get h xs k n (omega (arith, e)) in
    ((λ x q. let s = r.0 x q in (omega (arith, s.0), s.1)), λ q. let s = r.1 q in (omega (arith, s.0), s.1))

first_numbers : (p : Part) (Has : ℕ → TypeLeaf → Option NetReset → Type 0) (own : List NetRegister) → AreFirst p Has (length (leaves p.typ)) own → map (λ r. r.leaf) own ≡ range_with_len p.first (length (leaves p.typ))
first_numbers p Has own first = same_items (map (λ (r : NetRegister). r.leaf) own) (range_with_len p.first (length (leaves p.typ))) (λ i. by i (slice_get own i) refl)
  where
    by : (i : ℕ) (o : Option NetRegister) → slice_get own i ≡ o → slice_get (map (λ (r : NetRegister). r.leaf) own) i ≡ slice_get (range_with_len p.first (length (leaves p.typ))) i
    by i (Some r) e =
        let m = (map_get (λ (r : NetRegister). r.leaf) own i (length (leaves p.typ)) first.counted).0 r e in
        let there = item own (leaves p.typ) i r (sym first.counted) e in
        m.1 ∙ ap Some (first.each i there.0 r there.1 e).0 ∙ sym (range_at p.first (length (leaves p.typ)) i m.0)
    by i None e =
        let m = (map_get (λ (r : NetRegister). r.leaf) own i (length (leaves p.typ)) first.counted).1 e in
        m.1 ∙ sym (range_past p.first (length (leaves p.typ)) i m.0)

abbrev numbers_if : Bool → ℕ → ℕ → List ℕ
numbers_if true a n = range_with_len a n
numbers_if false a n = []

own_numbers : (entries : Entries) (p : Part) (sort : Sort) (own : List NetRegister) → AreOwnBy entries p sort own → map (λ r. r.leaf) own ≡ numbers_if (is_register sort) p.first (length (leaves p.typ))
own_numbers entries p (A_register clock) own o = first_numbers p PlainReset own o
own_numbers entries p (A_reset_register clock reset init) own (s, inits, low, ini, first) = first_numbers p (ResetTo s.expr inits) own first
own_numbers entries p An_input own o = ap (map (λ (r : NetRegister). r.leaf)) o
own_numbers entries p An_output own o = ap (map (λ (r : NetRegister). r.leaf)) o
own_numbers entries p A_wire own o = ap (map (λ (r : NetRegister). r.leaf)) o
own_numbers entries p (A_memory memory) own o = ap (map (λ (r : NetRegister). r.leaf)) o
own_numbers entries p (An_instance target) own o = ap (map (λ (r : NetRegister). r.leaf)) o
own_numbers entries p (A_node expr) own o = ap (map (λ (r : NetRegister). r.leaf)) o

abbrev number_of_register : ℕ × ModuleLeaf → Option ℕ
number_of_register both = if is_register both.1.0.declaration.sort then Some both.0 else None

abbrev registers_among : ℕ → List ModuleLeaf → List ℕ
registers_among a ys = filter_map number_of_register (zip (range_with_len a (length ys)) ys)

of_one : (c : Component) (a : ℕ) (ls : List TypeLeaf) → registers_among a (map (λ leaf. (c, leaf)) ls) ≡ numbers_if (is_register c.declaration.sort) a (length ls)
of_one c a [] = by (is_register c.declaration.sort)
  where
    by : (t : Bool) → [] ≡ numbers_if t a 0
    by true = refl
    by false = refl
of_one c a (l ∷ ls) = by (is_register c.declaration.sort) (of_one c (a + 1) ls)
  where
    by : (t : Bool) → registers_among (a + 1) (map (λ leaf. (c, leaf)) ls) ≡ numbers_if t (a + 1) (length ls)
        → cons_option (if t then Some a else None) (registers_among (a + 1) (map (λ leaf. (c, leaf)) ls)) ≡ numbers_if t a (length (l ∷ ls))
    by true h = ap (λ x. a ∷ x) h
    by false h = h

among-append : (a : ℕ) (xs ys : List ModuleLeaf) → registers_among a (xs ++ ys) ≡ registers_among a xs ++ registers_among (a + length xs) ys
among-append a [] ys = let e : a ≡ a + 0 = omega arith in ap (λ n. registers_among n ys) e
among-append a (x ∷ xs) ys =
    let e : a + 1 + length xs ≡ a + length (x ∷ xs) = omega arith in
    by (number_of_register (a, x)) (among-append (a + 1) xs ys ∙ ap (λ n. registers_among (a + 1) xs ++ registers_among n ys) e)
  where
    by : (o : Option ℕ) → registers_among (a + 1) (xs ++ ys) ≡ registers_among (a + 1) xs ++ registers_among (a + length (x ∷ xs)) ys
        → cons_option o (registers_among (a + 1) (xs ++ ys)) ≡ cons_option o (registers_among (a + 1) xs) ++ registers_among (a + length (x ∷ xs)) ys
    by (Some n) h = ap (λ l. n ∷ l) h
    by None h = h

-- The registers have the numbers of the registers' leaves.
pub register_leaves : (entries : Entries) (b : ℕ) (cs : List Component) (registers : List NetRegister) → AreRegisters entries (component_parts b cs) registers
    → map (λ r. r.leaf) registers ≡ registers_among b (flat_map leaves_of cs)
register_leaves entries b [] registers h = ap (map (λ (r : NetRegister). r.leaf)) h
register_leaves entries b (c ∷ cs) registers (own, rest, split, o, more) =
    let counted : length (leaves_of c) ≡ length (leaves c.typ) = length-map (leaves c.typ) (λ leaf. (c, leaf)) in
    ap (map (λ (r : NetRegister). r.leaf)) split ∙ map-append (λ (r : NetRegister). r.leaf) own rest
    ∙ ap₂ (λ (u v : List ℕ). u ++ v) (own_numbers entries (component_part b c) c.declaration.sort own o ∙ sym (of_one c b (leaves c.typ)))
    (register_leaves entries (b + length (leaves c.typ)) cs rest more ∙ ap (λ n. registers_among (b + n) (flat_map leaves_of cs)) (sym counted))
    ∙ sym (among-append b (leaves_of c) (flat_map leaves_of cs)) ∙ sym (ap (registers_among b) (flat_map-cons leaves_of c cs))
