-- What the connects of the leaves that a leaf of a part may be do.
use Rattle.std.proofs.Common.{◌≡◌, ℕ, zero, suc, ◌<◌, ◌≤◌, ◌+◌, ◌*◌, ◌^◌, nat_lt, min, Bool, true, false, List, [], ◌∷◌, ◌++◌, map, refl, sym, ap, ap₂, ◌∙◌, subst, arith, ◌==◌, ◌&&◌, ◌||◌, if◌then◌else◌, Some, None, Option, slice_get, ℤ, pos, negsuc, true≢false, append-nil, ◌⊎◌, inl, inr, ⊎_elim}
use Rattle.std.specs.Prelude.{Contains}
use Rattle.std.specs.Ordering.{int_eq}
use Rattle.std.specs.List.{flat_map, list_all, list_any, range_with_len}
use Rattle.std.proofs.Math.Nat.{mod-eq_of_lt}
use Rattle.std.proofs.lemmas.Bool.Decides.{nat_tests}
use Rattle.std.proofs.lemmas.Grind.{common_steps}
use Rattle.std.proofs.lemmas.List.Concat.{flat_map-cons}
use Rattle.std.proofs.lemmas.List.Folds.{list_all-append, list_any-append}
use Rattle.std.proofs.lemmas.List.Elements.{Contains-append_left, Contains-append_right, Contains-append_cases}
use Rattle.bit_words.specs.declared.value.Kind.{Kind}
use Rattle.bit_words.specs.declared.value.Kind.TheVariants.{Unsigned, Signed}
use Rattle.bit_words.specs.declared.value.Value.{Value}
use Rattle.bit_words.specs.Values.{integer_of}
use Rattle.prim_ops.specs.declared.operation.PrimOp.TheVariants.{Eq}
use Rattle.prim_ops.specs.Kinds.{row_kind}
use Rattle.prim_ops.specs.Widths.{width_number}
use Rattle.prim_ops.specs.Results.{one_if}
use Rattle.prim_ops.specs.Values.{fitted, is_one, kind_or_unsigned, operation}
use Rattle.ground_net.specs.declared.ground.Ground.{Ground}
use Rattle.ground_net.specs.declared.ground.Ground.TheVariants.{Const}
use Rattle.ground_net.specs.declared.circuit.GroundStmt.TheVariants.{Connect}
use Rattle.ground_net.specs.Grounds.{Instant, value, mentions, joined}
use Rattle.ground_net.specs.Statements.{in_turn, all_hold, effect, driving, is_certain, live}
use Rattle.ground_net.proofs.Layers.{value-Op, value-Const, mentions-Op, mentions-Const}
use Rattle.ground_net.specs.Shapes.{Shape, shaped, same_kind, shape_of_row, Table, shape, all_of}
use Rattle.ground_net.specs.StatementShapes.{some_unsigned, is_condition, is_source, is_shaped}
use Rattle.ground_net.proofs.Shaping.{shape-Op, shape-Const, both_true}
use Rattle.ground_exprs.specs.declared.part.Pick.{Pick}
use Rattle.ground_exprs.specs.Parts.{picked_from, picked, choices, index_mentions, is_index_shape, are_indices, is_nowhere}
use Rattle.ground_exprs.proofs.Members.{only_one, the_one, not_in_none, in_front, in_later, in_map, from_map, in_flat_map, from_flat_map, from_range}
use Rattle.ground_exprs.proofs.Selections.{index_cases, index_here, index_later}
use Rattle.ground_statements.specs.declared.targets.Target.{Target}
use Rattle.ground_statements.specs.Connects.{has_none, LeavesAlone}
use Rattle.ground_statements.specs.Targets.{equals, under_condition, targets, are_numbered, AreCounted, is_allowed, set_each}
use Rattle.ground_statements.proofs.Walks.{nowhere_none}
use Rattle.ground_statements.proofs.Statements.{effect-Connect, live-Connect, certain-Connect, uncertain-Connect, shaped-Connect, effects-append, certain-append, shaped-append, live-append, alone_none, alone_append, other_alone}

-- The test of an index

eq_is : (k l : Kind) (v w : ℕ) (t : Bool) → is_one (fitted (kind_or_unsigned (row_kind Eq (k ∷ l ∷ []))) (width_number Eq (k ∷ l ∷ []) (v ∷ w ∷ []) []) (one_if t)) ≡ t
eq_is Unsigned Unsigned v w true = refl
eq_is Unsigned Signed v w true = refl
eq_is Signed Unsigned v w true = refl
eq_is Signed Signed v w true = refl
eq_is Unsigned Unsigned v w false = refl
eq_is Unsigned Signed v w false = refl
eq_is Signed Unsigned v w false = refl
eq_is Signed Signed v w false = refl

pub equals_holds : (instant : Instant) (index : Ground) (k : ℕ) → k < 2 ^ 32 → is_one (value (equals index k) instant) ≡ int_eq (integer_of (value index instant)) (pos k)
equals_holds instant index k h =
    let v : Value = fitted Unsigned 32 (pos k) in
    ap is_one (value-Op Eq (index ∷ Const v ∷ []) [] instant)
    ∙ (ap (λ c. is_one (operation Eq (value index instant ∷ c ∷ []) [])) (value-Const v instant)
    ∙ (eq_is (value index instant).kind Unsigned (value index instant).width 32 (int_eq (integer_of (value index instant)) (integer_of v))
    ∙ ap (λ n. int_eq (integer_of (value index instant)) (pos n)) (mod-eq_of_lt h)))

pub equals_mentions : (index : Ground) (k : ℕ) → mentions (equals index k) ≡ mentions index
equals_mentions index k =
    let v : Value = fitted Unsigned 32 (pos k) in
    mentions-Op Eq (index ∷ Const v ∷ []) [] ∙ (ap (λ c. mentions index ++ (c ++ [])) (mentions-Const v) ∙ append-nil (mentions index))

eq_shape : (k : Kind) (w : ℕ) → same_kind k Unsigned ≡ true → some_unsigned (shape_of_row Eq [] (shaped k w ∷ shaped Unsigned 32 ∷ [])) ≡ true
eq_shape Unsigned w h = refl
eq_shape Signed w h = absurd (true≢false (sym h))

pub equals_shape : (table : Table) (index : Ground) (k : ℕ) → is_index_shape (shape index table) ≡ true → is_condition table (equals index k) ≡ true
equals_shape table index k i = by (shape index table) refl i
  where
    by : (o : Option Shape) → shape index table ≡ o → is_index_shape o ≡ true → is_condition table (equals index k) ≡ true
    by (Some s) e h =
        let v : Value = fitted Unsigned 32 (pos k) in
        ap some_unsigned (shape-Op Eq (index ∷ Const v ∷ []) [] table
        ∙ ap₂ (λ a b. Rattle.std.proofs.Common.option_and_then (shape_of_row Eq []) (all_of (a ∷ b ∷ []))) e (shape-Const v table))
        ∙ eq_shape s.kind s.width h
    by None e h = absurd (true≢false (sym h))

-- Whether a leaf is set

abbrev pub hits : Instant → ℕ → List Target → Bool
hits instant x ts = list_any (λ (t : Target). (t.leaf == x) && all_hold instant t.conditions) ts

abbrev pub picked_is : ℕ → Option ℕ → Bool
picked_is x (Some y) = y == x
picked_is x None = false

shared : (a c h p : Bool) → ((a && (c && (p && true))) || (h && p)) ≡ (((a && c) || h) && p)
shared false c h p = refl
shared true false h p = refl
shared true true h true = refl
shared true true true false = refl
shared true true false false = refl

hits_under : (instant : Instant) (x : ℕ) (g : Ground) (ts : List Target) → hits instant x (map (under_condition g) ts) ≡ (hits instant x ts && is_one (value g instant))
hits_under instant x g [] = refl
hits_under instant x g (t ∷ ts) =
    ap₂ (λ c h. ((t.leaf == x) && c) || h) (list_all-append (λ e. is_one (value e instant)) t.conditions (g ∷ [])) (hits_under instant x g ts)
    ∙ shared (t.leaf == x) (all_hold instant t.conditions) (hits instant x ts) (is_one (value g instant))

any_flat : {A : Type 0} (p : A → Bool) (f : ℕ → List A) (ks : List ℕ) → list_any p (flat_map f ks) ≡ list_any (λ k. list_any p (f k)) ks
any_flat p f [] = refl
any_flat p f (k ∷ ks) = ap (list_any p) (flat_map-cons f k ks) ∙ (list_any-append p (f k) (flat_map f ks) ∙ ap (λ b. list_any p (f k) || b) (any_flat p f ks))

any_same : {A : Type 0} (p q : A → Bool) (xs : List A) → ((x : A) → Contains xs x → p x ≡ q x) → list_any p xs ≡ list_any q xs
any_same p q [] h = refl
any_same p q (x ∷ xs) h = ap₂ (λ a b. a || b) (h x (in_front x xs)) (any_same p q xs (λ y c. h y (in_later x xs y c)))

and_false : (a b : Bool) → b ≡ false → (a && b) ≡ false
and_false true b e = e
and_false false b e = refl

and_true : (a b : Bool) → b ≡ true → (a && b) ≡ a
and_true true b e = e
and_true false b e = refl

or_nothing : (a b : Bool) → b ≡ false → (a || b) ≡ a
or_nothing true b e = refl
or_nothing false b e = e

or_nothing_before : (a b : Bool) → a ≡ false → (a || b) ≡ b
or_nothing_before true b e = absurd (true≢false e)
or_nothing_before false b e = refl

int_same : (m k : ℕ) → m ≡ k → int_eq (pos m) (pos k) ≡ true
int_same m k e = grind (arith, common_steps, nat_tests, e)

int_other : (m k : ℕ) → (m ≡ k → ⊥) → int_eq (pos m) (pos k) ≡ false
int_other m k d = by (int_eq (pos m) (pos k)) refl
  where
    same : int_eq (pos m) (pos k) ≡ true → m ≡ k
    same h = grind (arith, common_steps, nat_tests, h)

    by : (b : Bool) → int_eq (pos m) (pos k) ≡ b → int_eq (pos m) (pos k) ≡ false
    by true h = absurd (d (same h))
    by false h = h

any_past : (p : ℕ → Bool) (m a n : ℕ) → m < a → list_any (λ k. p k && int_eq (pos m) (pos k)) (range_with_len a n) ≡ false
any_past p m a zero h = refl
any_past p m a (suc n) h =
    ap₂ (λ b c. b || c) (and_false (p a) (int_eq (pos m) (pos a)) (int_other m a (λ e. less_not m a h e))) (any_past p m (a + 1) n (omega (arith, h)))
  where
    less_not : (m a : ℕ) → m < a → m ≡ a → ⊥
    less_not m a h e = omega (arith, h, e)

any_at : (p : ℕ → Bool) (m a n : ℕ) → a ≤ m → list_any (λ k. p k && int_eq (pos m) (pos k)) (range_with_len a n) ≡ if nat_lt m (a + n) then p m else false
any_at p m a zero h = let t : nat_lt m (a + 0) ≡ false = grind (arith, common_steps, nat_tests, h) in ap (λ b. if b then p m else false) (sym t)
any_at p m a (suc n) h = by (λ l. any_at p m (a + 1) n l) (m == a) refl
  where
    by : (a + 1 ≤ m → list_any (λ k. p k && int_eq (pos m) (pos k)) (range_with_len (a + 1) n) ≡ if nat_lt m (a + 1 + n) then p m else false) → (b : Bool) → (m == a) ≡ b → (((p a && int_eq (pos m) (pos a)) || list_any (λ k. p k && int_eq (pos m) (pos k)) (range_with_len (a + 1) n)) ≡ if nat_lt m (a + suc n) then p m else false)
    by deep true e =
        let same : m ≡ a = grind (arith, common_steps, nat_tests, e) in
        let t : nat_lt m (a + suc n) ≡ true = grind (arith, common_steps, nat_tests, same) in
        or_nothing (p a && int_eq (pos m) (pos a)) (list_any (λ k. p k && int_eq (pos m) (pos k)) (range_with_len (a + 1) n)) (any_past p m (a + 1) n (omega (arith, same)))
        ∙ (and_true (p a) (int_eq (pos m) (pos a)) (int_same m a same) ∙ (ap p (sym same) ∙ ap (λ b. if b then p m else false) (sym t)))
    by deep false e =
        let other : m ≡ a → ⊥ = λ s. true≢false (sym (same_test m a s) ∙ e) in
        let later : a + 1 ≤ m = after m a h other in
        let t : nat_lt m (a + 1 + n) ≡ nat_lt m (a + suc n) = ap (nat_lt m) (shift a n) in
        or_nothing_before (p a && int_eq (pos m) (pos a)) (list_any (λ k. p k && int_eq (pos m) (pos k)) (range_with_len (a + 1) n)) (and_false (p a) (int_eq (pos m) (pos a)) (int_other m a other))
        ∙ (deep later ∙ ap (λ b. if b then p m else false) t)
      where
        same_test : (m a : ℕ) → m ≡ a → (m == a) ≡ true
        same_test m a s = grind (arith, common_steps, nat_tests, s)

        after : (m a : ℕ) → a ≤ m → (m ≡ a → ⊥) → a + 1 ≤ m
        after m a h d = omega (arith, h, d)

        shift : (a n : ℕ) → a + 1 + n ≡ a + suc n
        shift a n = omega arith

any_none : {A : Type 0} (p : A → Bool) (xs : List A) → ((x : A) → Contains xs x → p x ≡ false) → list_any p xs ≡ false
any_none p [] h = refl
any_none p (x ∷ xs) h = ap₂ (λ a b. a || b) (h x (in_front x xs)) (any_none p xs (λ y c. h y (in_later x xs y c)))

picked_of : (x length : ℕ) (element : ℕ → Option ℕ) (i : ℤ)
    → list_any (λ k. picked_is x (element k) && int_eq i (pos k)) (range_with_len 0 length) ≡ picked_is x (picked_from length element i)
picked_of x length element (pos m) = any_at (λ k. picked_is x (element k)) m 0 length (omega arith) ∙ (ap (λ n. if nat_lt m n then picked_is x (element m) else false) (plain length) ∙ by (nat_lt m length))
  where
    plain : (n : ℕ) → 0 + n ≡ n
    plain n = omega arith

    by : (b : Bool) → (if b then picked_is x (element m) else false) ≡ picked_is x (if b then element m else None)
    by true = refl
    by false = refl
picked_of x length element (negsuc m) = any_none (λ k. picked_is x (element k) && int_eq (negsuc m) (pos k)) (range_with_len 0 length) (λ k c. and_false (picked_is x (element k)) (int_eq (negsuc m) (pos k)) refl)

small : (k n : ℕ) → nat_lt n (2 ^ 32) ≡ true → k < 0 + n → k < 2 ^ 32
small k n h l = let t : n < 2 ^ 32 = grind (arith, common_steps, nat_tests, h) in omega (arith, t, l)

one_leaf : (a : Bool) → ((a && true) || false) ≡ a
one_leaf true = refl
one_leaf false = refl

-- A leaf is set where the indices pick it.
hits_numbered : (instant : Instant) (x : ℕ) (picks : List Pick) (leaf : ℕ) → are_numbered picks ≡ true → hits instant x (targets picks leaf) ≡ picked_is x (picked instant picks leaf)
hits_numbered instant x [] leaf h = one_leaf (leaf == x)
hits_numbered instant x (pick ∷ picks) leaf h =
    let split = both_true (nat_lt pick.length (2 ^ 32)) (are_numbered picks) h in
    any_flat (λ (t : Target). (t.leaf == x) && all_hold instant t.conditions) (λ k. map (under_condition (equals pick.index k)) (targets picks (leaf + k * pick.stride))) (range_with_len 0 pick.length)
    ∙ (any_same (λ k. hits instant x (map (under_condition (equals pick.index k)) (targets picks (leaf + k * pick.stride))))
    (λ k. picked_is x (picked instant picks (leaf + k * pick.stride)) && int_eq (integer_of (value pick.index instant)) (pos k)) (range_with_len 0 pick.length)
    (λ k c. hits_under instant x (equals pick.index k) (targets picks (leaf + k * pick.stride))
    ∙ ap₂ (λ a b. a && b) (hits_numbered instant x picks (leaf + k * pick.stride) split.1) (equals_holds instant pick.index k (small k pick.length split.0 (from_range 0 pick.length k c).1)))
    ∙ picked_of x pick.length (λ k. picked instant picks (leaf + k * pick.stride)) (integer_of (value pick.index instant)))

-- Where a vector on the way has no elements, nothing is picked.
no_element : (n : ℕ) (element : ℕ → Option ℕ) (i : ℤ) → ((k : ℕ) → k < n → element k ≡ None) → picked_from n element i ≡ None
no_element n element (pos k) h = by (nat_lt k n) refl
  where
    by : (b : Bool) → nat_lt k n ≡ b → (if b then element k else None) ≡ None
    by true e = let below : k < n = grind (arith, common_steps, nat_tests, e) in h k below
    by false e = refl
no_element n element (negsuc k) h = refl

nowhere_picked : (instant : Instant) (picks : List Pick) (leaf : ℕ) → is_nowhere picks ≡ true → picked instant picks leaf ≡ None
nowhere_picked instant [] leaf h = absurd (true≢false (sym h))
nowhere_picked instant (pick ∷ picks) leaf h =
    no_element pick.length (λ k. picked instant picks (leaf + k * pick.stride)) (integer_of (value pick.index instant)) (each (pick.length == 0) refl h (λ q k. nowhere_picked instant picks (leaf + k * pick.stride) q))
  where
    each : (b : Bool) → (pick.length == 0) ≡ b → (b || is_nowhere picks) ≡ true → (is_nowhere picks ≡ true → (k : ℕ) → picked instant picks (leaf + k * pick.stride) ≡ None)
        → (k : ℕ) → k < pick.length → picked instant picks (leaf + k * pick.stride) ≡ None
    each true e q deep k l = let none : pick.length ≡ 0 = grind (arith, common_steps, nat_tests, e) in absurd (omega (arith, none, l))
    each false e q deep k l = deep q k

pub hits_targets : (instant : Instant) (x : ℕ) (picks : List Pick) (leaf : ℕ) → AreCounted picks → hits instant x (targets picks leaf) ≡ picked_is x (picked instant picks leaf)
hits_targets instant x picks leaf counted = by (is_nowhere picks) refl
  where
    by : (b : Bool) → is_nowhere picks ≡ b → hits instant x (targets picks leaf) ≡ picked_is x (picked instant picks leaf)
    by true e = ap (hits instant x) (nowhere_none picks leaf e) ∙ ap (picked_is x) (sym (nowhere_picked instant picks leaf e))
    by false e = hits_numbered instant x picks leaf (counted e)

-- Effects

numbers_same : (a b : ℕ) → (a == b) ≡ true → a ≡ b
numbers_same a b h = grind (arith, common_steps, nat_tests, h)

not_it : (settable : List Bool) (x y : ℕ) → is_allowed (slice_get settable x) ≡ true → is_allowed (slice_get settable y) ≡ false → (y == x) ≡ false
not_it settable x y a b = by (y == x) refl
  where
    by : (t : Bool) → (y == x) ≡ t → (y == x) ≡ false
    by true e = absurd (true≢false (sym a ∙ (ap (λ z. is_allowed (slice_get settable z)) (sym (numbers_same y x e)) ∙ b)))
    by false e = e

either : {A : Type 0} (h k : Bool) (v : A) (last : A) → (if k then v else if h then v else last) ≡ if h || k then v else last
either true true v last = refl
either true false v last = refl
either false true v last = refl
either false false v last = refl

module _ (settable : List Bool) (source : Ground) (x : ℕ) where
  head_effect : is_allowed (slice_get settable x) ≡ true → (instant : Instant) (t : Target) (last : Option Value)
      → in_turn (map (effect instant x) (if is_allowed (slice_get settable t.leaf) then Connect t.leaf t.conditions source ∷ [] else [])) last
      ≡ if (t.leaf == x) && all_hold instant t.conditions then Some (value source instant) else last
  head_effect a instant t last = by (is_allowed (slice_get settable t.leaf)) refl
    where
      by : (b : Bool) → is_allowed (slice_get settable t.leaf) ≡ b → in_turn (map (effect instant x) (if b then Connect t.leaf t.conditions source ∷ [] else [])) last
          ≡ if (t.leaf == x) && all_hold instant t.conditions then Some (value source instant) else last
      by true e = effect-Connect instant x t.leaf t.conditions source last
      by false e = ap (λ b. if b && all_hold instant t.conditions then Some (value source instant) else last) (sym (not_it settable x t.leaf a e))

  pub each_effect : is_allowed (slice_get settable x) ≡ true → (instant : Instant) (ts : List Target) (last : Option Value)
      → in_turn (map (effect instant x) (set_each settable source ts)) last ≡ if hits instant x ts then Some (value source instant) else last
  each_effect a instant [] last = refl
  each_effect a instant (t ∷ ts) last =
      effects-append instant x (if is_allowed (slice_get settable t.leaf) then Connect t.leaf t.conditions source ∷ [] else []) (set_each settable source ts) last
      ∙ (each_effect a instant ts (in_turn (map (effect instant x) (if is_allowed (slice_get settable t.leaf) then Connect t.leaf t.conditions source ∷ [] else [])) last)
      ∙ (ap (λ l. if hits instant x ts then Some (value source instant) else l) (head_effect a instant t last)
      ∙ either ((t.leaf == x) && all_hold instant t.conditions) (hits instant x ts) (Some (value source instant)) last))

  -- It is left alone where none of them is it, or it may not be set.
  pub each_alone : (ts : List Target) → ((t : Target) → Contains ts t → is_allowed (slice_get settable t.leaf) ≡ true → (t.leaf == x) ≡ false) → LeavesAlone (set_each settable source ts) x
  each_alone [] h = alone_none x
  each_alone (t ∷ ts) h =
      alone_append (if is_allowed (slice_get settable t.leaf) then Connect t.leaf t.conditions source ∷ [] else []) (set_each settable source ts) x (by (is_allowed (slice_get settable t.leaf)) refl)
      (each_alone ts (λ u c. h u (in_later t ts u c)))
    where
      by : (b : Bool) → is_allowed (slice_get settable t.leaf) ≡ b → LeavesAlone (if b then Connect t.leaf t.conditions source ∷ [] else []) x
      by true e = other_alone t.leaf x t.conditions source (h t (in_front t ts) e)
      by false e = alone_none x

  -- Certain

  conditional : (y : ℕ) (cs : List Ground) → has_none cs ≡ false → ((driving x (Connect y cs source)).certain || false) ≡ false
  conditional y [] h = absurd (true≢false h)
  conditional y (c ∷ cs) h = ap (λ b. b || false) (uncertain-Connect x y c cs source)

  pub each_uncertain : (ts : List Target) → ((t : Target) → Contains ts t → has_none t.conditions ≡ false) → is_certain x (set_each settable source ts) ≡ false
  each_uncertain [] h = refl
  each_uncertain (t ∷ ts) h =
      certain-append x (if is_allowed (slice_get settable t.leaf) then Connect t.leaf t.conditions source ∷ [] else []) (set_each settable source ts)
      ∙ ap₂ (λ a b. a || b) (by (is_allowed (slice_get settable t.leaf))) (each_uncertain ts (λ u c. h u (in_later t ts u c)))
    where
      by : (b : Bool) → is_certain x (if b then Connect t.leaf t.conditions source ∷ [] else []) ≡ false
      by true = conditional t.leaf t.conditions (h t (in_front t ts))
      by false = refl

  pub one_certain : is_allowed (slice_get settable x) ≡ true → (y : ℕ) → is_certain x (set_each settable source (record { leaf = y; conditions = [] } ∷ [])) ≡ (y == x)
  one_certain a y = by (is_allowed (slice_get settable y)) refl
    where
      or_none : (b : Bool) → (b || false) ≡ b
      or_none true = refl
      or_none false = refl

      by : (b : Bool) → is_allowed (slice_get settable y) ≡ b → is_certain x ((if b then Connect y [] source ∷ [] else []) ++ []) ≡ (y == x)
      by true e = or_none (driving x (Connect y [] source)).certain ∙ certain-Connect x y source
      by false e = sym (not_it settable x y a e)

  -- Live connects

  abbrev pub lives_of : List Target → List (List ℕ)
  lives_of [] = []
  lives_of (t ∷ ts) = (if t.leaf == x then (joined (map mentions t.conditions) ++ mentions source) ∷ [] else []) ++ lives_of ts

  head_live : is_allowed (slice_get settable x) ≡ true → (t : Target) → live x (if is_allowed (slice_get settable t.leaf) then Connect t.leaf t.conditions source ∷ [] else [])
      ≡ if t.leaf == x then (joined (map mentions t.conditions) ++ mentions source) ∷ [] else []
  head_live a t = by (is_allowed (slice_get settable t.leaf)) refl
    where
      by : (b : Bool) → is_allowed (slice_get settable t.leaf) ≡ b → live x (if b then Connect t.leaf t.conditions source ∷ [] else [])
          ≡ if t.leaf == x then (joined (map mentions t.conditions) ++ mentions source) ∷ [] else []
      by true e = append-nil (driving x (Connect t.leaf t.conditions source)).live ∙ live-Connect x t.leaf t.conditions source
      by false e = ap (λ b. if b then (joined (map mentions t.conditions) ++ mentions source) ∷ [] else []) (sym (not_it settable x t.leaf a e))

  pub each_live : is_allowed (slice_get settable x) ≡ true → (ts : List Target) → ((t : Target) → Contains ts t → has_none t.conditions ≡ false) → live x (set_each settable source ts) ≡ lives_of ts
  each_live a [] h = refl
  each_live a (t ∷ ts) h =
      live-append x (if is_allowed (slice_get settable t.leaf) then Connect t.leaf t.conditions source ∷ [] else []) (set_each settable source ts) (inl (each_uncertain ts (λ u c. h u (in_later t ts u c))))
      ∙ ap₂ (λ p q. p ++ q) (head_live a t) (each_live a ts (λ u c. h u (in_later t ts u c)))

  pub one_live : is_allowed (slice_get settable x) ≡ true → (t : Target) → live x (set_each settable source (t ∷ [])) ≡ lives_of (t ∷ [])
  one_live a t =
      live-append x (if is_allowed (slice_get settable t.leaf) then Connect t.leaf t.conditions source ∷ [] else []) [] (inl refl)
      ∙ ap (λ p. p ++ []) (head_live a t)

  pub lives_from : (ts : List Target) (y : ℕ) → Contains (joined (lives_of ts)) y → (t : Target) × Contains ts t × Contains (joined (map mentions t.conditions) ++ mentions source) y
  lives_from [] y c = absurd (not_in_none y c)
  lives_from (t ∷ ts) y c = by (λ d. lives_from ts y d) (t.leaf == x) c
    where
      later : (Contains (joined (lives_of ts)) y → (u : Target) × Contains ts u × Contains (joined (map mentions u.conditions) ++ mentions source) y) → Contains (joined (lives_of ts)) y
          → (u : Target) × Contains (t ∷ ts) u × Contains (joined (map mentions u.conditions) ++ mentions source) y
      later deep d = let r = deep d in (r.0, in_later t ts r.0 r.1, r.2)

      by : (Contains (joined (lives_of ts)) y → (u : Target) × Contains ts u × Contains (joined (map mentions u.conditions) ++ mentions source) y) → (b : Bool) → Contains (joined ((if b then (joined (map mentions t.conditions) ++ mentions source) ∷ [] else []) ++ lives_of ts)) y
          → (u : Target) × Contains (t ∷ ts) u × Contains (joined (map mentions u.conditions) ++ mentions source) y
      by deep true d =
          ⊎_elim (λ l. (t, in_front t ts, l)) (later deep)
          (Contains-append_cases (joined (map mentions t.conditions) ++ mentions source) (joined (lives_of ts)) y
          (subst (λ l. Contains l y) (flat_map-cons (λ (l : List ℕ). l) (joined (map mentions t.conditions) ++ mentions source) (lives_of ts)) d))
      by deep false d = later deep d

  pub lives_in : (ts : List Target) (t : Target) (y : ℕ) → Contains ts t → (t.leaf == x) ≡ true → Contains (joined (map mentions t.conditions) ++ mentions source) y → Contains (joined (lives_of ts)) y
  lives_in [] t y c e d = absurd (not_in_none t c)
  lives_in (u ∷ ts) t y (zero, below, is) e d =
      let same : (u.leaf == x) ≡ true = ap (λ (z : Target). z.leaf == x) is ∙ e in
      let here : Contains (joined (map mentions u.conditions) ++ mentions source) y = subst (λ (z : Target). Contains (joined (map mentions z.conditions) ++ mentions source) y) (sym is) d in
      subst (λ b. Contains (joined ((if b then (joined (map mentions u.conditions) ++ mentions source) ∷ [] else []) ++ lives_of ts)) y) (sym same)
      (subst (λ l. Contains l y) (sym (flat_map-cons (λ (l : List ℕ). l) (joined (map mentions u.conditions) ++ mentions source) (lives_of ts)))
      (Contains-append_left (joined (map mentions u.conditions) ++ mentions source) (joined (lives_of ts)) y here))
  lives_in (u ∷ ts) t y (suc k, below, is) e d =
      let rest : Contains (joined (lives_of ts)) y = lives_in ts t y (k, omega (arith, below), is) e d in
      by (u.leaf == x) rest
    where
      by : (b : Bool) → Contains (joined (lives_of ts)) y → Contains (joined ((if b then (joined (map mentions u.conditions) ++ mentions source) ∷ [] else []) ++ lives_of ts)) y
      by true r =
          subst (λ l. Contains l y) (sym (flat_map-cons (λ (l : List ℕ). l) (joined (map mentions u.conditions) ++ mentions source) (lives_of ts)))
          (Contains-append_right (joined (map mentions u.conditions) ++ mentions source) (joined (lives_of ts)) y r)
      by false r = r

  pub lives_some : (ts : List Target) (t : Target) → Contains ts t → (t.leaf == x) ≡ true → has_none (lives_of ts) ≡ false
  lives_some [] t c e = absurd (not_in_none t c)
  lives_some (u ∷ ts) t (zero, below, is) e =
      ap (λ b. has_none ((if b then (joined (map mentions u.conditions) ++ mentions source) ∷ [] else []) ++ lives_of ts)) (ap (λ (z : Target). z.leaf == x) is ∙ e)
  lives_some (u ∷ ts) t (suc k, below, is) e = by (u.leaf == x) (lives_some ts t (k, omega (arith, below), is) e)
    where
      by : (b : Bool) → has_none (lives_of ts) ≡ false → has_none ((if b then (joined (map mentions u.conditions) ++ mentions source) ∷ [] else []) ++ lives_of ts) ≡ false
      by true r = refl
      by false r = r

-- The leaves of targets, and what their conditions mention

pub target_choice : (picks : List Pick) (leaf : ℕ) (t : Target) → Contains (targets picks leaf) t → Contains (choices picks leaf) t.leaf
target_choice [] leaf t c = subst (λ (z : Target). Contains (leaf ∷ []) z.leaf) (only_one (record { leaf = leaf; conditions = [] }) t c) (the_one leaf)
target_choice (pick ∷ picks) leaf t c =
    let k = from_flat_map (λ k. map (under_condition (equals pick.index k)) (targets picks (leaf + k * pick.stride))) (range_with_len 0 pick.length) t c in
    let u = from_map (under_condition (equals pick.index k.0)) (targets picks (leaf + k.0 * pick.stride)) t k.2 in
    in_flat_map (λ k. choices picks (leaf + k * pick.stride)) (range_with_len 0 pick.length) k.0 t.leaf k.1
    (subst (λ (z : Target). Contains (choices picks (leaf + k.0 * pick.stride)) z.leaf) u.2 (target_choice picks (leaf + k.0 * pick.stride) u.0 u.1))

pub choice_target : (picks : List Pick) (leaf x : ℕ) → Contains (choices picks leaf) x → (t : Target) × Contains (targets picks leaf) t × (t.leaf ≡ x)
choice_target [] leaf x c = (record { leaf = leaf; conditions = [] }, the_one (record { leaf = leaf; conditions = [] }), only_one leaf x c)
choice_target (pick ∷ picks) leaf x c =
    let k = from_flat_map (λ k. choices picks (leaf + k * pick.stride)) (range_with_len 0 pick.length) x c in
    let u = choice_target picks (leaf + k.0 * pick.stride) x k.2 in (
      under_condition (equals pick.index k.0) u.0,
      in_flat_map (λ k. map (under_condition (equals pick.index k)) (targets picks (leaf + k * pick.stride))) (range_with_len 0 pick.length) k.0 (under_condition (equals pick.index k.0) u.0) k.1
          (in_map (under_condition (equals pick.index k.0)) (targets picks (leaf + k.0 * pick.stride)) u.0 u.1),
      u.2,
    )

some_more : (cs : List Ground) (g : Ground) → has_none (cs ++ g ∷ []) ≡ false
some_more [] g = refl
some_more (c ∷ cs) g = refl

pub dynamic_targets : (pick : Pick) (picks : List Pick) (leaf : ℕ) (t : Target) → Contains (targets (pick ∷ picks) leaf) t → has_none t.conditions ≡ false
dynamic_targets pick picks leaf t c =
    let k = from_flat_map (λ k. map (under_condition (equals pick.index k)) (targets picks (leaf + k * pick.stride))) (range_with_len 0 pick.length) t c in
    let u = from_map (under_condition (equals pick.index k.0)) (targets picks (leaf + k.0 * pick.stride)) t k.2 in
    ap (λ (z : Target). has_none z.conditions) (sym u.2) ∙ some_more u.0.conditions (equals pick.index k.0)

joined_behind : (cs : List Ground) (g : Ground) → joined (map mentions (cs ++ g ∷ [])) ≡ joined (map mentions cs) ++ mentions g
joined_behind [] g = append-nil (mentions g)
joined_behind (c ∷ cs) g =
    flat_map-cons (λ (l : List ℕ). l) (mentions c) (map mentions (cs ++ g ∷ []))
    ∙ (ap (λ l. mentions c ++ l) (joined_behind cs g)
    ∙ (sym (Rattle.std.proofs.Common.append_assoc (mentions c) (joined (map mentions cs)) (mentions g))
    ∙ ap (λ l. l ++ mentions g) (sym (flat_map-cons (λ (l : List ℕ). l) (mentions c) (map mentions cs)))))

pub target_reads : (picks : List Pick) (leaf : ℕ) (t : Target) (y : ℕ) → Contains (targets picks leaf) t → Contains (joined (map mentions t.conditions)) y → Contains (index_mentions picks) y
target_reads [] leaf t y c d =
    absurd (not_in_none y (subst (λ (z : Target). Contains (joined (map mentions z.conditions)) y) (sym (only_one (record { leaf = leaf; conditions = [] }) t c)) d))
target_reads (pick ∷ picks) leaf t y c d =
    let k = from_flat_map (λ k. map (under_condition (equals pick.index k)) (targets picks (leaf + k * pick.stride))) (range_with_len 0 pick.length) t c in
    let u = from_map (under_condition (equals pick.index k.0)) (targets picks (leaf + k.0 * pick.stride)) t k.2 in
    let e : Contains (joined (map mentions u.0.conditions) ++ mentions (equals pick.index k.0)) y =
    subst (λ l. Contains l y) (joined_behind u.0.conditions (equals pick.index k.0)) (subst (λ (z : Target). Contains (joined (map mentions z.conditions)) y) (sym u.2) d) in
    ⊎_elim (λ l. index_later pick picks y (target_reads picks (leaf + k.0 * pick.stride) u.0 y u.1 l)) (λ r. index_here pick picks y (subst (λ l. Contains l y) (equals_mentions pick.index k.0) r))
    (Contains-append_cases (joined (map mentions u.0.conditions)) (mentions (equals pick.index k.0)) y e)

pub reads_target : (picks : List Pick) (leaf : ℕ) (t : Target) (y : ℕ) → Contains (targets picks leaf) t → Contains (index_mentions picks) y → Contains (joined (map mentions t.conditions)) y
reads_target [] leaf t y c d = absurd (not_in_none y d)
reads_target (pick ∷ picks) leaf t y c d =
    let k = from_flat_map (λ k. map (under_condition (equals pick.index k)) (targets picks (leaf + k * pick.stride))) (range_with_len 0 pick.length) t c in
    let u = from_map (under_condition (equals pick.index k.0)) (targets picks (leaf + k.0 * pick.stride)) t k.2 in
    subst (λ (z : Target). Contains (joined (map mentions z.conditions)) y) u.2
    (subst (λ l. Contains l y) (sym (joined_behind u.0.conditions (equals pick.index k.0)))
    (⊎_elim (λ l. Contains-append_right (joined (map mentions u.0.conditions)) (mentions (equals pick.index k.0)) y (subst (λ l. Contains l y) (sym (equals_mentions pick.index k.0)) l))
    (λ r. Contains-append_left (joined (map mentions u.0.conditions)) (mentions (equals pick.index k.0)) y (reads_target picks (leaf + k.0 * pick.stride) u.0 y u.1 r))
    (index_cases pick picks y d)))

-- Shapes

pub target_shapes : (table : Table) (picks : List Pick) (leaf : ℕ) (t : Target) → are_indices table picks ≡ true → Contains (targets picks leaf) t → list_all (is_condition table) t.conditions ≡ true
target_shapes table [] leaf t i c = ap (λ (z : Target). list_all (is_condition table) z.conditions) (sym (only_one (record { leaf = leaf; conditions = [] }) t c))
target_shapes table (pick ∷ picks) leaf t i c =
    let split = both_true (is_index_shape (shape pick.index table)) (are_indices table picks) i in
    let k = from_flat_map (λ k. map (under_condition (equals pick.index k)) (targets picks (leaf + k * pick.stride))) (range_with_len 0 pick.length) t c in
    let u = from_map (under_condition (equals pick.index k.0)) (targets picks (leaf + k.0 * pick.stride)) t k.2 in
    ap (λ (z : Target). list_all (is_condition table) z.conditions) (sym u.2)
    ∙ (list_all-append (is_condition table) u.0.conditions (equals pick.index k.0 ∷ [])
    ∙ ap₂ (λ a b. a && (b && true)) (target_shapes table picks (leaf + k.0 * pick.stride) u.0 split.1 u.1) (equals_shape table pick.index k.0 split.0))

pub each_shaped : (settable : List Bool) (source : Ground) (table : Table) (ts : List Target)
    → ((t : Target) → Contains ts t → (list_all (is_condition table) t.conditions ≡ true) × (is_source table t.leaf source ≡ true)) → is_shaped table (set_each settable source ts) ≡ true
each_shaped settable source table [] h = refl
each_shaped settable source table (t ∷ ts) h =
    shaped-append table (if is_allowed (slice_get settable t.leaf) then Connect t.leaf t.conditions source ∷ [] else []) (set_each settable source ts)
    ∙ ap₂ (λ a b. a && b) (by (is_allowed (slice_get settable t.leaf))) (each_shaped settable source table ts (λ u c. h u (in_later t ts u c)))
  where
    by : (b : Bool) → is_shaped table (if b then Connect t.leaf t.conditions source ∷ [] else []) ≡ true
    by true = let here = h t (in_front t ts) in ap (λ b. b && true) (shaped-Connect table t.leaf t.conditions source ∙ ap₂ (λ a b. a && b) here.0 here.1)
    by false = refl
