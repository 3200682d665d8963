-- The inputs of a net by their numbers, and their values in a cycle.
use Rattle.std.proofs.Common.{◌≡◌, ℕ, zero, suc, ◌+◌, ◌*◌, ◌-◌, ◌<◌, ◌≤◌, ◌^◌, ◌==◌, ◌&&◌, nat_lt, nat_le, Bool, true, false, List, [], ◌∷◌, length, map, reverse, Option, Some, None, option_map, refl, sym, ap, ap₂, ◌∙◌, subst, arith, slice_get, if◌then◌else◌, pos, negsuc, zip, true≢false}
use Rattle.std.specs.Prelude.{filter_map}
use Rattle.std.specs.List.{range_with_len, cons_option}
use Rattle.std.proofs.lemmas.Nat.{pow_pos}
use Rattle.std.proofs.lemmas.Bool.Decides.{nat_tests}
use Rattle.std.proofs.lemmas.Grind.{common_steps}
use Rattle.std.proofs.lemmas.Option.{slice_get-map}
use Rattle.bit_words.specs.declared.value.Kind.{Kind}
use Rattle.bit_words.specs.declared.value.Kind.TheVariants.{Unsigned, Signed}
use Rattle.bit_words.specs.Values.{integer, integer_of, InRange}
use Rattle.prim_ops.specs.Values.{fitted}
use Rattle.prim_ops.proofs.Fittings.{refitted, value_in_range}
use Rattle.ground_net.specs.declared.net.Leaf.{Leaf}
use Rattle.ground_net.specs.declared.net.Net.{Net}
use Rattle.ground_net.specs.declared.net.Ports.{Ports}
use Rattle.ground_net.specs.declared.net.PortLeaf.{PortLeaf}
use Rattle.ground_net.specs.declared.net.Role.{Role}
use Rattle.ground_net.specs.declared.net.Role.TheVariants as role
use Rattle.ground_net.specs.Watching.{is_given, port_leaf, told_where, inputs}
use Rattle.ground_net.specs.Cycles.{fitted_to}
use Rattle.ground_net.specs.Nets.{IsNet, AreInputs, input_number}
use Rattle.net_run.specs.Keeping.{AreInputValues}
use Rattle.net_laws.proofs.Integers.{zero_fits}
use Rattle.stimulus.specs.declared.stimulus.Stimulus.{Stimulus}
use Rattle.stimulus.specs.declared.stimulus.Setting.{Setting}
use Rattle.stimulus.specs.Rows.{zero_of, last_set, value_or, value_in, row_in}
use Rattle.stimulus.specs.Stimuli.{IsFormed, IsOf}
use Rattle.circuit_run.specs.Traces.{integer_set}
use Rattle.circuit_run.specs.NetRuns.{given_in}
use Rattle.circuit_run.proofs.Lists.{some_same, none_some, get_enumerate, all_at, find_at, reverse_at}

-- Numbers of inputs

abbrev told : ℕ × Leaf → Option PortLeaf
told both = told_where is_given both.0 (Some both.1)

abbrev number : ℕ × Leaf → Option (ℕ × ℕ)
number both = option_map (λ n. (both.0, n)) (input_number both.1.role)

abbrev from : ℕ → List Leaf → List (ℕ × Leaf)
from a ls = zip (range_with_len a (length ls)) ls

-- the roles of inputs are counted from a number on
abbrev Counted : ℕ → ℕ → List Leaf → Type 0
Counted a k ls = map (λ both. both.1) (filter_map number (from a ls)) ≡ range_with_len k (length (filter_map number (from a ls)))

input_same : (m n : ℕ) → role.Input m ≡ role.Input n → m ≡ n
input_same m n e = some_same (ap input_number e)

told_as : (r : Role) (a : ℕ) (l : Leaf) → l.role ≡ r → told (a, l) ≡ (if is_given r then Some (port_leaf a l) else None)
told_as r a l e = ap (λ s. if is_given s then Some (port_leaf a l) else None) e

number_as : (r : Role) (a : ℕ) (l : Leaf) → l.role ≡ r → number (a, l) ≡ option_map {U = ℕ × ℕ} (λ n. (a, n)) (input_number r)
number_as r a l e = ap (λ s. option_map {U = ℕ × ℕ} (λ n. (a, n)) (input_number s)) e

-- what is counted behind an input, and behind another leaf
behind_input : (a k m : ℕ) (l : Leaf) (ls : List Leaf) → number (a, l) ≡ Some (a, m) → Counted a k (l ∷ ls) → (m ≡ k) × Counted (a + 1) (k + 1) ls
behind_input a k m l ls e c = split (subst (λ o. map (λ both. both.1) (cons_option o (filter_map number (from (a + 1) ls))) ≡ range_with_len k (length (cons_option o (filter_map number (from (a + 1) ls))))) e c) where
  split : m ∷ map (λ both. both.1) (filter_map number (from (a + 1) ls)) ≡ k ∷ range_with_len (k + 1) (length (filter_map number (from (a + 1) ls))) → (m ≡ k) × Counted (a + 1) (k + 1) ls
  split e = (cc, cc)

behind_other : (a k : ℕ) (l : Leaf) (ls : List Leaf) → number (a, l) ≡ None → Counted a k (l ∷ ls) → Counted (a + 1) k ls
behind_other a k l ls e c = subst (λ o. map (λ both. both.1) (cons_option o (filter_map number (from (a + 1) ls))) ≡ range_with_len k (length (cons_option o (filter_map number (from (a + 1) ls))))) e c

-- an input stands at its number
abbrev Stands : ℕ → ℕ → List Leaf → ℕ → ℕ → Leaf → Type 0
Stands a k ls x n leaf = (j : ℕ) × (n ≡ k + j) × (slice_get (filter_map told (from a ls)) j ≡ Some (port_leaf (a + x) leaf))

module _ (l : Leaf) (ls : List Leaf) (a k : ℕ) (c : Counted a k (l ∷ ls)) where
  abbrev rest : List PortLeaf
  rest = filter_map told (from (a + 1) ls)

  module _ (n : ℕ) (leaf : Leaf) (is : leaf.role ≡ role.Input n) (onward : (m : ℕ) → Counted (a + 1) m ls → (y : ℕ) → slice_get ls y ≡ Some leaf → Stands (a + 1) m ls y n leaf) where
    first_at : (m : ℕ) → l.role ≡ role.Input m → leaf ≡ l → Stands a k (l ∷ ls) 0 n leaf
    first_at m r same =
        let t : told (a, l) ≡ Some (port_leaf a l) = told_as (role.Input m) a l r in
        let b = behind_input a k m l ls (number_as (role.Input m) a l r) c in
        let inputs_are : m ≡ n = input_same m n (sym r ∙ (ap (λ (z : Leaf). z.role) (sym same) ∙ is)) in
        let here : a ≡ a + 0 = omega arith in
        let plain : k ≡ k + 0 = omega arith in
        (0, sym inputs_are ∙ (b.0 ∙ plain), ap (λ o. slice_get (cons_option o rest) 0) t ∙ (ap (λ z. Some (port_leaf a z)) (sym same) ∙ ap (λ z. Some (port_leaf z leaf)) here))

    later_at : (m j : ℕ) (o : Option PortLeaf) → told (a, l) ≡ o → Counted (a + 1) m ls → ((i : ℕ) → slice_get (cons_option o rest) (j + i) ≡ slice_get rest i) → m ≡ k + j → (y : ℕ) → slice_get ls y ≡ Some leaf → Stands a k (l ∷ ls) (suc y) n leaf
    later_at m j o t d shift counted y e =
        let h = onward m d y e in
        let place : a + 1 + y ≡ a + suc y = omega arith in
        let number_is : k + j + h.0 ≡ k + (j + h.0) = omega arith in
        (j + h.0, h.1 ∙ (ap (λ z. z + h.0) counted ∙ number_is), ap (λ o. slice_get (cons_option o rest) (j + h.0)) t ∙ (shift h.0 ∙ (h.2 ∙ ap (λ z. Some (port_leaf z leaf)) place)))

    of_other : (r : Role) → l.role ≡ r → is_given r ≡ false → input_number r ≡ None → (x : ℕ) → slice_get (l ∷ ls) x ≡ Some leaf → Stands a k (l ∷ ls) x n leaf
    of_other r q untold none zero e = none_some (sym none ∙ (ap input_number (sym q ∙ (ap (λ (z : Leaf). z.role) (some_same e) ∙ is))))
    of_other r q untold none (suc y) e =
        let plain : k ≡ k + 0 = omega arith in
        later_at k 0 None (told_as r a l q ∙ ap (λ b. if b then Some (port_leaf a l) else None) untold) (behind_other a k l ls (number_as r a l q ∙ ap (option_map {U = ℕ × ℕ} (λ n. (a, n))) none) c)
        (λ i. let z : 0 + i ≡ i = omega arith in ap (slice_get rest) z) plain y e

    by_role : (r : Role) → l.role ≡ r → (x : ℕ) → slice_get (l ∷ ls) x ≡ Some leaf → Stands a k (l ∷ ls) x n leaf
    by_role (role.Input m) r zero e = first_at m r (sym (some_same e))
    by_role (role.Input m) r (suc y) e =
        later_at (k + 1) 1 (Some (port_leaf a l)) (told_as (role.Input m) a l r) (behind_input a k m l ls (number_as (role.Input m) a l r) c).1
        (λ i. let z : 1 + i ≡ suc i = omega arith in ap (slice_get (port_leaf a l ∷ rest)) z) refl y e
    by_role role.Clock r x e = of_other role.Clock r refl refl x e
    by_role role.Assigned r x e = of_other role.Assigned r refl refl x e
    by_role (role.Register m) r x e = of_other (role.Register m) r refl refl x e
    by_role (role.Captured m) r x e = of_other (role.Captured m) r refl refl x e

at_number : (ls : List Leaf) (a k : ℕ) → Counted a k ls → (x n : ℕ) (leaf : Leaf) → slice_get ls x ≡ Some leaf → leaf.role ≡ role.Input n → Stands a k ls x n leaf
at_number [] a k c x n leaf e is = none_some e
at_number (l ∷ ls) a k c x n leaf e is = by_role l ls a k c n leaf is (λ m d y f. at_number ls (a + 1) m d y n leaf f is) l.role refl x e

-- what is told is of an input, and at its number
abbrev Tells : ℕ → List Leaf → ℕ → PortLeaf → Type 0
Tells a ls n p = (x : ℕ) × (leaf : Leaf) × (slice_get ls x ≡ Some leaf) × (leaf.role ≡ role.Input n) × (p ≡ port_leaf (a + x) leaf)

module _ (l : Leaf) (ls : List Leaf) (a k : ℕ) (c : Counted a k (l ∷ ls)) (p : PortLeaf) (onward : (m : ℕ) → Counted (a + 1) m ls → (i : ℕ) → slice_get (filter_map told (from (a + 1) ls)) i ≡ Some p → Tells (a + 1) ls (m + i) p) where
  told_later : (n m i : ℕ) → n + i ≡ m → Counted (a + 1) n ls → slice_get (filter_map told (from (a + 1) ls)) i ≡ Some p → Tells a (l ∷ ls) m p
  told_later n m i same d e =
      let h = onward n d i e in
      let place : a + 1 + h.0 ≡ a + suc h.0 = omega arith in
      (suc h.0, h.1, h.2, h.3 ∙ ap role.Input same, h.4 ∙ ap (λ z. port_leaf z h.1) place)

  told_first : (m : ℕ) → l.role ≡ role.Input m → (i : ℕ) → slice_get (port_leaf a l ∷ filter_map told (from (a + 1) ls)) i ≡ Some p → Tells a (l ∷ ls) (k + i) p
  told_first m r zero e =
      let b = behind_input a k m l ls (number_as (role.Input m) a l r) c in
      let place : a ≡ a + 0 = omega arith in
      let plain : k ≡ k + 0 = omega arith in
      (0, l, refl, r ∙ ap role.Input (b.0 ∙ plain), sym (some_same e) ∙ ap (λ z. port_leaf z l) place)
  told_first m r (suc i) e = told_later (k + 1) (k + suc i) i (omega arith) (behind_input a k m l ls (number_as (role.Input m) a l r) c).1 e

  told_other : (r : Role) → l.role ≡ r → is_given r ≡ false → input_number r ≡ None → (j : ℕ) → slice_get (filter_map told (from a (l ∷ ls))) j ≡ Some p → Tells a (l ∷ ls) (k + j) p
  told_other r q untold none j e =
      told_later k (k + j) j refl (behind_other a k l ls (number_as r a l q ∙ ap (option_map {U = ℕ × ℕ} (λ n. (a, n))) none) c)
      (ap (λ o. slice_get (cons_option o (filter_map told (from (a + 1) ls))) j) (sym (told_as r a l q ∙ ap (λ b. if b then Some (port_leaf a l) else None) untold)) ∙ e)

  told_by : (r : Role) → l.role ≡ r → (j : ℕ) → slice_get (filter_map told (from a (l ∷ ls))) j ≡ Some p → Tells a (l ∷ ls) (k + j) p
  told_by (role.Input m) r j e = told_first m r j (ap (λ o. slice_get (cons_option o (filter_map told (from (a + 1) ls))) j) (sym (told_as (role.Input m) a l r)) ∙ e)
  told_by role.Clock r j e = told_other role.Clock r refl refl j e
  told_by role.Assigned r j e = told_other role.Assigned r refl refl j e
  told_by (role.Register m) r j e = told_other (role.Register m) r refl refl j e
  told_by (role.Captured m) r j e = told_other (role.Captured m) r refl refl j e

of_input : (ls : List Leaf) (a k : ℕ) → Counted a k ls → (j : ℕ) (p : PortLeaf) → slice_get (filter_map told (from a ls)) j ≡ Some p → Tells a ls (k + j) p
of_input [] a k c j p e = none_some e
of_input (l ∷ ls) a k c j p e = told_by l ls a k c p (λ m d i f. of_input ls (a + 1) m d i p f) l.role refl j e

-- Behind the ports of main stands no input.
module _ (net : Net) where
  abbrev told_at : ℕ → Option PortLeaf
  told_at x = told_where is_given x (slice_get net.leaves x)

  abbrev Early : List Leaf → ℕ → Type 0
  Early ls count = (x n : ℕ) (leaf : Leaf) → slice_get ls x ≡ Some leaf → leaf.role ≡ role.Input n → x < count

  late_untold : (a : ℕ) (l : Leaf) → ((n : ℕ) → l.role ≡ role.Input n → ⊥) → told (a, l) ≡ None
  late_untold a l none = by l.role refl where
    by : (r : Role) → l.role ≡ r → told (a, l) ≡ None
    by (role.Input n) r = absurd (none n r)
    by role.Clock r = told_as role.Clock a l r
    by role.Assigned r = told_as role.Assigned a l r
    by (role.Register n) r = told_as (role.Register n) a l r
    by (role.Captured n) r = told_as (role.Captured n) a l r

  all_told : (ls : List Leaf) (a count : ℕ) → ((i : ℕ) → slice_get net.leaves (a + i) ≡ slice_get ls i) → count ≤ length ls → Early ls count
      → filter_map told_at (range_with_len a count) ≡ filter_map told (from a ls)
  all_told [] a zero h few early = refl
  all_told [] a (suc count) h few early = absurd (omega arith)
  all_told (l ∷ ls) a zero h few early =
      let none : told (a, l) ≡ None = late_untold a l (λ n r. let below = early 0 n l refl r in omega (arith, below)) in
      let rest : [] ≡ filter_map told (from (a + 1) ls) =
      all_told ls (a + 1) 0 (λ i. subst (λ x. slice_get net.leaves x ≡ slice_get ls i) (omega arith) (h (suc i))) (omega arith) (λ x n leaf e r. let below = early (suc x) n leaf e r in absurd (omega (arith, below))) in
      rest ∙ ap (λ o. cons_option o (filter_map told (from (a + 1) ls))) (sym none)
  all_told (l ∷ ls) a (suc count) h few early =
      let here : slice_get net.leaves a ≡ Some l = subst (λ x. slice_get net.leaves x ≡ Some l) (omega arith) (h 0) in
      ap₂ (λ o r. cons_option o r) (ap (told_where is_given a) here)
      (all_told ls (a + 1) count (λ i. subst (λ x. slice_get net.leaves x ≡ slice_get ls i) (omega arith) (h (suc i))) (omega (arith, few)) (λ x n leaf e r. let below = early (suc x) n leaf e r in omega (arith, below)))

  inputs_are : IsNet net → inputs net ≡ filter_map told (from 0 net.leaves)
  inputs_are well = all_told net.leaves 0 net.ports (λ i. let z : 0 + i ≡ i = omega arith in ap (slice_get net.leaves) z) well.ports (λ x n leaf e r. well.given x n leaf e r)

  -- The input of a number stands at that number.
  pub input_at : IsNet net → (x n : ℕ) (leaf : Leaf) → slice_get net.leaves x ≡ Some leaf → leaf.role ≡ role.Input n → slice_get (inputs net) n ≡ Some (port_leaf x leaf)
  input_at well x n leaf e is =
      let h = at_number net.leaves 0 0 well.inputs x n leaf e is in
      let same : n ≡ h.0 = h.1 ∙ omega arith in
      let place : 0 + x ≡ x = omega arith in
      ap (λ l. slice_get l n) (inputs_are well) ∙ (ap (slice_get (filter_map told (from 0 net.leaves))) same ∙ (h.2 ∙ ap (λ z. Some (port_leaf z leaf)) place))

  -- And what stands at a number is the input of it.
  pub input_of : IsNet net → (j : ℕ) (p : PortLeaf) → slice_get (inputs net) j ≡ Some p → (leaf : Leaf) × (slice_get net.leaves p.leaf ≡ Some leaf) × (leaf.role ≡ role.Input j)
  input_of well j p e =
      let t = of_input net.leaves 0 0 well.inputs j p (ap (λ l. slice_get l j) (sym (inputs_are well)) ∙ e) in
      let place : p.leaf ≡ t.0 = ap (λ (q : PortLeaf). q.leaf) t.4 ∙ omega arith in
      let same : 0 + j ≡ j = omega arith in
      (t.1, ap (slice_get net.leaves) place ∙ t.2, t.3 ∙ ap role.Input same)

-- Values

zero_is : (kind : Kind) (width : ℕ) → integer kind width 0 ≡ pos 0
zero_is Unsigned width = refl
zero_is Signed width = let h = pow_pos width in let e : nat_lt (2 * 0) (2 ^ width) ≡ true = grind (arith, nat_tests) in ap (λ b. if b then pos 0 else negsuc (2 ^ width - 1 - 0)) e

both_true : (a b : Bool) → (a && b) ≡ true → (a ≡ true) × (b ≡ true)
both_true true b e = (refl, e)
both_true false b e = absurd (true≢false (sym e))

same_number : (a b : ℕ) → (a == b) ≡ true → a ≡ b
same_number a b e = grind (arith, common_steps)

module _ (net : Net) (well : IsNet net) (ports : Ports) (fed : ports.inputs ≡ inputs net) (stimulus : Stimulus) (formed : IsFormed ports stimulus) where
  -- a setting of an input has its kind and width
  set_as : (x n : ℕ) (leaf : Leaf) → slice_get net.leaves x ≡ Some leaf → leaf.role ≡ role.Input n → (cycle : ℕ) (setting : Setting) → last_set stimulus.settings cycle n ≡ Some setting
      → (setting.value.kind ≡ leaf.kind) × (setting.value.width ≡ leaf.width)
  set_as x n leaf there is cycle setting e =
      let f = find_at (λ s. (s.input == n) && nat_le s.cycle cycle) (reverse stimulus.settings) setting e in
      let k = reverse_at stimulus.settings f.0 setting f.1 in
      let of = all_at (IsOf ports) stimulus.settings formed.of_inputs k.0 setting k.1 in
      let same : setting.input ≡ n = same_number setting.input n (both_true (setting.input == n) (nat_le setting.cycle cycle) f.2).0 in
      let leaf_is : of.leaf ≡ port_leaf x leaf = some_same (sym of.input ∙ (ap (slice_get ports.inputs) same ∙ (ap (λ l. slice_get l n) fed ∙ input_at net well x n leaf there is))) in
      (of.kind ∙ ap (λ (p : PortLeaf). p.kind) leaf_is, of.width ∙ ap (λ (p : PortLeaf). p.width) leaf_is)

  value_is : (x n : ℕ) (leaf : Leaf) → slice_get net.leaves x ≡ Some leaf → leaf.role ≡ role.Input n → (cycle : ℕ) → value_in stimulus.settings cycle n (port_leaf x leaf) ≡ fitted_to leaf (given_in stimulus cycle n)
  value_is x n leaf there is cycle = by (last_set stimulus.settings cycle n) refl where
    by : (o : Option Setting) → last_set stimulus.settings cycle n ≡ o → value_or o (zero_of (port_leaf x leaf)) ≡ fitted_to leaf (integer_set o)
    by None e = sym (refitted (zero_of (port_leaf x leaf))) ∙ ap (fitted leaf.kind leaf.width) (zero_is leaf.kind leaf.width)
    by (Some setting) e =
        let s = set_as x n leaf there is cycle setting e in
        sym (refitted setting.value) ∙ ap₂ (λ k w. fitted k w (integer_of setting.value)) s.0 s.1

  pub inputs_in_range : (cycle : ℕ) → AreInputs net (given_in stimulus cycle)
  inputs_in_range cycle x n leaf there is = by (last_set stimulus.settings cycle n) refl where
    by : (o : Option Setting) → last_set stimulus.settings cycle n ≡ o → InRange leaf.kind leaf.width (integer_set o)
    by None e = zero_fits leaf.kind leaf.width
    by (Some setting) e =
        let s = set_as x n leaf there is cycle setting e in
        subst (λ w. InRange leaf.kind w (integer_of setting.value)) s.1 (subst (λ k. InRange k setting.value.width (integer_of setting.value)) s.0 (value_in_range setting.value))

  -- The row of a cycle has the values that are given.
  pub row_given : (cycle : ℕ) → AreInputValues net (given_in stimulus cycle) (row_in ports stimulus.settings cycle)
  row_given cycle x n leaf there is =
      let at : slice_get ports.inputs n ≡ Some (port_leaf x leaf) = ap (λ l. slice_get l n) fed ∙ input_at net well x n leaf there is in
      let zero_plus : 0 + n ≡ n = omega arith in
      slice_get-map (λ (e : ℕ × PortLeaf). value_in stimulus.settings cycle e.0 e.1) _ n
      ∙ (ap (option_map (λ (e : ℕ × PortLeaf). value_in stimulus.settings cycle e.0 e.1)) (get_enumerate 0 ports.inputs n ∙ ap (option_map {U = ℕ × PortLeaf} (λ p. (0 + n, p))) at)
      ∙ (ap (λ m. Some (value_in stimulus.settings cycle m (port_leaf x leaf))) zero_plus ∙ ap Some (value_is x n leaf there is cycle)))
