-- What statements do, one after the other, and what well typed ones ask for.
use Rattle.std.proofs.Common.{◌≡◌, ℕ, zero, suc, ◌+◌, ◌<◌, ◌&&◌, ◌||◌, Bool, true, false, List, [], ◌∷◌, ◌++◌, map, length, take, get_or, ℤ, Option, Some, None, IsSome, IfSome, slice_get, if◌then◌else◌, refl, sym, ap, ap₂, ◌∙◌, subst, arith, true≢false}
use Rattle.std.specs.List.{list_all, list_any}
use Rattle.std.proofs.lemmas.Grind.{common_steps}
use Rattle.std.proofs.lemmas.List.{take_more, map-append}
use Rattle.prim_ops.specs.Shapes.{Shape}
use Rattle.fir_tree.specs.declared.expr.Expr.{Expr}
use Rattle.fir_tree.specs.declared.stmt.Stmt.{Stmt, the_lemmas as stmt_lemmas}
use Rattle.fir_tree.specs.declared.stmt.Stmt.TheVariants as stmt
use Rattle.fir_tree.specs.declared.stmt.Arm.{Arm, fold-Arm}
use Rattle.fir_meaning.specs.Components.{Leaf}
use Rattle.fir_meaning.specs.Values.{Scene}
use Rattle.fir_meaning.specs.Drives as drives
use Rattle.fir_meaning.specs.Drives.{Effect, effect, in_turn, first_holding, left_in, set_by_connect, set_by_invalidate}
use Rattle.fir_meaning.specs.WellTyped as kinds
use Rattle.fir_meaning.specs.WellTyped.{Known, typed, is_typed, is_condition, is_one_unsigned, is_typed_stmt, are_typed, named_type, both_match}
use Rattle.plain_values.specs.Choosing.{is_taken, are_conditions, IsFirstHolding}

and_true : (a b : Bool) → (a && b) ≡ true → (a ≡ true) × (b ≡ true)
and_true true b e = (refl, e)
and_true false b e = cc

or_false : (a b : Bool) → (a || b) ≡ false → (a ≡ false) × (b ≡ false)
or_false true b e = cc
or_false false b e = (refl, e)

some_same : {A : Type 0} {x y : A} → Some x ≡ Some y → x ≡ y
some_same e = cc

none_some : {A : Type 0} {x : A} → None ≡ Some x → ⊥
none_some e = cc

pub there : {A : Type 0} (xs : List A) (n : ℕ) (x : A) → n < length xs → x ≡ get_or xs n x → slice_get xs n ≡ Some x
there [] n x h is = absurd (omega (arith, h))
there (y ∷ xs) zero x h is = ap Some (sym is)
there (y ∷ xs) (suc n) x h is = there xs n x (omega (arith, h)) is

unsigned_some : (o : Option (List Shape)) → is_one_unsigned o ≡ true → IsSome o
unsigned_some (Some ss) h = refl
unsigned_some None h = absurd (true≢false (sym h))

-- one more statement

turn_append : (xs ys : List Effect) (last : Option ℤ) → in_turn (xs ++ ys) last ≡ in_turn ys (in_turn xs last)
turn_append [] ys last = refl
turn_append (x ∷ xs) ys last = turn_append xs ys (x last)

pub turn_more : (f : Stmt → Effect) (block : List Stmt) (k : ℕ) (s : Stmt) (last : Option ℤ) → k < length block → s ≡ get_or block k s
    → in_turn (map f (take (k + 1) block)) last ≡ f s (in_turn (map f (take k block)) last)
turn_more f block k s last h is =
    ap (λ l. in_turn (map f l) last) (take_more block k s h) ∙ (ap (λ l. in_turn l last) (map-append f (take k block) (get_or block k s ∷ []))
    ∙ (turn_append (map f (take k block)) (f (get_or block k s) ∷ []) last ∙ ap (λ x. f x (in_turn (map f (take k block)) last)) (sym is)))

pub typed_one : (known : Known) (block : List Stmt) (k : ℕ) (s : Stmt) → k < length block → s ≡ get_or block k s → are_typed known block ≡ true → is_typed_stmt known s ≡ true
typed_one known [] k s h is e = absurd (omega (arith, h))
typed_one known (x ∷ xs) zero s h is e = ap (is_typed_stmt known) is ∙ (and_true (is_typed_stmt known x) (are_typed known xs) e).0
typed_one known (x ∷ xs) (suc k) s h is e = typed_one known xs k s (omega (arith, h)) is (and_true (is_typed_stmt known x) (are_typed known xs) e).1

-- connects and invalidates

module _ (scene : Scene) (leaf : Leaf) where
  pub effect-Connect : (s : Stmt) (left right : Expr) (last : Option ℤ) → s ≡ stmt.Connect left right → effect scene leaf s last ≡ left_in leaf last (set_by_connect scene left right)
  effect-Connect s left right last is = ap (λ x. effect scene leaf x last) is ∙ whole
    where
      whole : effect scene leaf (stmt.Connect left right) last ≡ left_in leaf last (set_by_connect scene left right)
      whole = grind (arith, common_steps, stmt_lemmas)

  pub effect-Invalidate : (s : Stmt) (target : Expr) (last : Option ℤ) → s ≡ stmt.Invalidate target → effect scene leaf s last ≡ left_in leaf last (set_by_invalidate scene target)
  effect-Invalidate s target last is = ap (λ x. effect scene leaf x last) is ∙ whole
    where
      whole : effect scene leaf (stmt.Invalidate target) last ≡ left_in leaf last (set_by_invalidate scene target)
      whole = grind (arith, common_steps, stmt_lemmas)

  abbrev arm_effect : Arm → Bool × Effect
  arm_effect = fold-Arm Effect (Bool × Effect) (drives.of_stmt scene leaf) (drives.of_arm scene leaf)

  arm_is : (a : Arm) → arm_effect a ≡ (is_taken scene a, in_turn (map (effect scene leaf) a.body))
  arm_is a = grind (arith, common_steps, stmt_lemmas)

  when_is : (s : Stmt) (arms : List Arm) (other : List Stmt) → s ≡ stmt.When arms other → effect scene leaf s ≡ first_holding (map arm_effect arms) (in_turn (map (effect scene leaf) other))
  when_is s arms other is = ap (effect scene leaf) is ∙ whole
    where
      whole : effect scene leaf (stmt.When arms other) ≡ first_holding (map arm_effect arms) (in_turn (map (effect scene leaf) other))
      whole = grind (arith, common_steps, stmt_lemmas)

  first_there : (arms : List Arm) (other : Effect) (n : ℕ) (arm : Arm) → slice_get arms n ≡ Some arm → is_taken scene arm ≡ true → list_any (is_taken scene) (take n arms) ≡ false
      → first_holding (map arm_effect arms) other ≡ in_turn (map (effect scene leaf) arm.body)
  first_there [] other n arm at t never = absurd (none_some at)
  first_there (a ∷ arms) other zero arm at t never =
      ap (λ (x : Bool × Effect). if x.0 then x.1 else first_holding (map arm_effect arms) other) (ap arm_effect (some_same at) ∙ arm_is arm)
      ∙ ap (λ b. if b then in_turn (map (effect scene leaf) arm.body) else first_holding (map arm_effect arms) other) t
  first_there (a ∷ arms) other (suc n) arm at t never =
      let both = or_false (is_taken scene a) (list_any (is_taken scene) (take n arms)) never in
      ap (λ (x : Bool × Effect). if x.0 then x.1 else first_holding (map arm_effect arms) other) (arm_is a)
      ∙ (ap (λ b. if b then in_turn (map (effect scene leaf) a.body) else first_holding (map arm_effect arms) other) both.0 ∙ first_there arms other n arm at t both.1)

  none_there : (arms : List Arm) (other : Effect) → list_any (is_taken scene) arms ≡ false → first_holding (map arm_effect arms) other ≡ other
  none_there [] other never = refl
  none_there (a ∷ arms) other never =
      let both = or_false (is_taken scene a) (list_any (is_taken scene) arms) never in
      ap (λ (x : Bool × Effect). if x.0 then x.1 else first_holding (map arm_effect arms) other) (arm_is a)
      ∙ (ap (λ b. if b then in_turn (map (effect scene leaf) a.body) else first_holding (map arm_effect arms) other) both.0 ∙ none_there arms other both.1)

  pub effect-taken : (s : Stmt) (arms : List Arm) (other : List Stmt) (n : ℕ) (arm : Arm) (last : Option ℤ) → s ≡ stmt.When arms other → arm ≡ get_or arms n arm → n < length arms → IsFirstHolding scene arms (Some n)
      → effect scene leaf s last ≡ in_turn (map (effect scene leaf) arm.body) last
  effect-taken s arms other n arm last is at h first =
      let same : first.0 ≡ arm = some_same (sym first.1 ∙ there arms n arm h at) in
      ap (λ f. f last) (when_is s arms other is ∙ first_there arms (in_turn (map (effect scene leaf) other)) n first.0 first.1 first.2 first.3) ∙ ap (λ (a : Arm). in_turn (map (effect scene leaf) a.body) last) same

  pub effect-other : (s : Stmt) (arms : List Arm) (other : List Stmt) (last : Option ℤ) → s ≡ stmt.When arms other → IsFirstHolding scene arms None
      → effect scene leaf s last ≡ in_turn (map (effect scene leaf) other) last
  effect-other s arms other last is never = ap (λ f. f last) (when_is s arms other is ∙ none_there arms (in_turn (map (effect scene leaf) other)) never)

-- what well typed statements ask for

module _ (known : Known) where
  abbrev arm_typed : Arm → Bool
  arm_typed = fold-Arm Bool Bool (kinds.of_stmt known) (kinds.of_arm known)

  arm_typed_is : (a : Arm) → arm_typed a ≡ (is_condition known a.condition && are_typed known a.body)
  arm_typed_is a = grind (arith, common_steps, stmt_lemmas)

  pub connect_typed : (s : Stmt) (left right : Expr) → s ≡ stmt.Connect left right → is_typed_stmt known s ≡ true → (is_typed known left ≡ true) × (is_typed known right ≡ true)
  connect_typed s left right is e =
      let both = and_true (is_typed known left) (is_typed known right && both_match (named_type known left) (named_type known right)) (sym (ap (is_typed_stmt known) is ∙ whole) ∙ e) in
      (both.0, (and_true (is_typed known right) (both_match (named_type known left) (named_type known right)) both.1).0)
    where
      whole : is_typed_stmt known (stmt.Connect left right) ≡ (is_typed known left && (is_typed known right && both_match (named_type known left) (named_type known right)))
      whole = grind (arith, common_steps, stmt_lemmas)

  pub invalidate_typed : (s : Stmt) (target : Expr) → s ≡ stmt.Invalidate target → is_typed_stmt known s ≡ true → is_typed known target ≡ true
  invalidate_typed s target is e = sym (ap (is_typed_stmt known) is ∙ whole) ∙ e
    where
      whole : is_typed_stmt known (stmt.Invalidate target) ≡ is_typed known target
      whole = grind (arith, common_steps, stmt_lemmas)

  when_typed : (s : Stmt) (arms : List Arm) (other : List Stmt) → s ≡ stmt.When arms other → is_typed_stmt known s ≡ true
      → (list_all (λ b. b) (map arm_typed arms) ≡ true) × (are_typed known other ≡ true)
  when_typed s arms other is e = and_true (list_all (λ b. b) (map arm_typed arms)) (are_typed known other) (sym (ap (is_typed_stmt known) is ∙ whole) ∙ e)
    where
      whole : is_typed_stmt known (stmt.When arms other) ≡ (list_all (λ b. b) (map arm_typed arms) && are_typed known other)
      whole = grind (arith, common_steps, stmt_lemmas)

  conditions_in : (arms : List Arm) → list_all (λ b. b) (map arm_typed arms) ≡ true → are_conditions known arms ≡ true
  conditions_in [] e = refl
  conditions_in (a ∷ arms) e =
      let both = and_true (arm_typed a) (list_all (λ b. b) (map arm_typed arms)) e in
      ap₂ (λ p q. p && q) (and_true (is_condition known a.condition) (are_typed known a.body) (sym (arm_typed_is a) ∙ both.0)).0 (conditions_in arms both.1)

  body_in : (arms : List Arm) (n : ℕ) (arm : Arm) → n < length arms → arm ≡ get_or arms n arm → list_all (λ b. b) (map arm_typed arms) ≡ true → are_typed known arm.body ≡ true
  body_in [] n arm h is e = absurd (omega (arith, h))
  body_in (a ∷ arms) zero arm h is e =
      let both = and_true (arm_typed a) (list_all (λ b. b) (map arm_typed arms)) e in
      ap (λ (x : Arm). are_typed known x.body) is ∙ (and_true (is_condition known a.condition) (are_typed known a.body) (sym (arm_typed_is a) ∙ both.0)).1
  body_in (a ∷ arms) (suc n) arm h is e = body_in arms n arm (omega (arith, h)) is (and_true (arm_typed a) (list_all (λ b. b) (map arm_typed arms)) e).1

  pub arms_typed : (s : Stmt) (arms : List Arm) (other : List Stmt) → s ≡ stmt.When arms other → is_typed_stmt known s ≡ true → are_conditions known arms ≡ true
  arms_typed s arms other is e = conditions_in arms (when_typed s arms other is e).0

  pub other_typed : (s : Stmt) (arms : List Arm) (other : List Stmt) → s ≡ stmt.When arms other → is_typed_stmt known s ≡ true → are_typed known other ≡ true
  other_typed s arms other is e = (when_typed s arms other is e).1

  pub body_typed : (s : Stmt) (arms : List Arm) (other : List Stmt) (n : ℕ) (arm : Arm) → s ≡ stmt.When arms other → is_typed_stmt known s ≡ true → n < length arms → arm ≡ get_or arms n arm → are_typed known arm.body ≡ true
  body_typed s arms other n arm is e h at = body_in arms n arm h at (when_typed s arms other is e).0

  pub condition_typed : (arms : List Arm) (n : ℕ) (arm : Arm) → n < length arms → arm ≡ get_or arms n arm → are_conditions known arms ≡ true → IsSome (typed arm.condition known)
  condition_typed [] n arm h is e = absurd (omega (arith, h))
  condition_typed (a ∷ arms) zero arm h is e =
      unsigned_some (typed arm.condition known) (ap (λ (x : Arm). is_condition known x.condition) is ∙ (and_true (is_condition known a.condition) (are_conditions known arms) e).0)
  condition_typed (a ∷ arms) (suc n) arm h is e = condition_typed arms n arm (omega (arith, h)) is (and_true (is_condition known a.condition) (are_conditions known arms) e).1

-- the first arm whose condition is 1

pub none_more : (scene : Scene) (arms : List Arm) (n : ℕ) (arm : Arm) → n < length arms → arm ≡ get_or arms n arm → list_any (is_taken scene) (take n arms) ≡ false → is_taken scene arm ≡ false
    → list_any (is_taken scene) (take (n + 1) arms) ≡ false
none_more scene [] n arm h is e t = absurd (omega (arith, h))
none_more scene (a ∷ arms) zero arm h is e t = ap (λ b. b || false) (ap (is_taken scene) (sym is) ∙ t)
none_more scene (a ∷ arms) (suc n) arm h is e t =
    let both = or_false (is_taken scene a) (list_any (is_taken scene) (take n arms)) e in
    let next : suc n + 1 ≡ suc (n + 1) = omega arith in
    ap (λ k. list_any (is_taken scene) (take k (a ∷ arms))) next ∙ ap₂ (λ p q. p || q) both.0 (none_more scene arms n arm (omega (arith, h)) is both.1 t)

-- a whole `when`, with what a walk through it knows told by equations

pub within : (slice arms : List Arm) (o : Option ℕ) (n : ℕ) → slice ≡ arms → o ≡ Some n → IfSome o (λ k. k < length slice) → n < length arms
within slice arms o n e q h = subst (λ (l : List Arm). n < length l) e (subst (λ (p : Option ℕ). IfSome p (λ k. k < length slice)) q h)

pub left_by_other : (scene : Scene) (leaf : Leaf) (s : Stmt) (arms slice : List Arm) (other body : List Stmt) (o : Option ℕ) (last left : Option ℤ) → s ≡ stmt.When arms other → slice ≡ arms → o ≡ None
    → IsFirstHolding scene slice o → body ≡ other → left ≡ in_turn (map (effect scene leaf) body) last → left ≡ effect scene leaf s last
left_by_other scene leaf s arms slice other body o last left is e q h b l =
    let first : IsFirstHolding scene arms None = subst (λ l. IsFirstHolding scene l None) e (subst (λ p. IsFirstHolding scene slice p) q h) in
    l ∙ (ap (λ ss. in_turn (map (effect scene leaf) ss) last) b ∙ sym (effect-other scene leaf s arms other last is first))

pub left_by_arm : (scene : Scene) (leaf : Leaf) (s : Stmt) (arms slice : List Arm) (other body : List Stmt) (o : Option ℕ) (n : ℕ) (arm : Arm) (last left : Option ℤ) → s ≡ stmt.When arms other → slice ≡ arms → o ≡ Some n
    → IsFirstHolding scene slice o → IfSome o (λ k. k < length slice) → arm ≡ get_or slice n arm → body ≡ arm.body → left ≡ in_turn (map (effect scene leaf) body) last → left ≡ effect scene leaf s last
left_by_arm scene leaf s arms slice other body o n arm last left is e q h less at b l =
    let first : IsFirstHolding scene arms (Some n) = subst (λ l. IsFirstHolding scene l (Some n)) e (subst (λ p. IsFirstHolding scene slice p) q h) in
    l ∙ (ap (λ ss. in_turn (map (effect scene leaf) ss) last) b
    ∙ sym (effect-taken scene leaf s arms other n arm last is (at ∙ ap (λ l. get_or l n arm) e) (within slice arms o n e q less) first))
