-- Statements that follow one another, and the arms of a `when`: what they leave depends on what their live connects mention alone.
use Rattle.std.proofs.Common.{◌≡◌, Bool, true, false, ◌&&◌, ◌||◌, List, [], ◌∷◌, ◌++◌, map, Option, ℤ, refl, sym, ap, ◌∙◌, subst, arith, true≢false, is_some, if◌then◌else◌, ◌⊎◌, inl, inr, ⊎_elim}
use Rattle.std.specs.List.{list_any, list_all}
use Rattle.std.proofs.lemmas.Grind.{common_steps}
use Rattle.std.proofs.lemmas.List.Elements.{Contains-append_cases}
use Rattle.std.proofs.lemmas.List.Concat.{flat_map-cons}
use Rattle.fir_meaning.specs.Components.{Leaf}
use Rattle.fir_meaning.specs.Values.{Integers}
use Rattle.fir_meaning.specs.Drives.{Effect, in_turn, first_holding}
use Rattle.fir_meaning.specs.Mentions.{Agree, joined}
use Rattle.fir_meaning.specs.Loops.{Driving, DrivingArm, Mentioned, live_from, crossing, through_arms}
use Rattle.fir_meaning.proofs.Tracking.{agree-left, agree-right}

-- What a statement makes of a leaf in one scene, beside what it is to the leaf.
pub record One (d : Driving) (e : Effect) : Type 0 where
  pub quiet : d.live ≡ [] → (last : Option ℤ) → e last ≡ last
  pub fixed : d.certain ≡ true → (last other : Option ℤ) → e last ≡ e other
  pub some : d.certain ≡ true → (last : Option ℤ) → is_some (e last) ≡ true
  pub keeps : (last : Option ℤ) → is_some last ≡ true → is_some (e last) ≡ true
  pub alive : d.certain ≡ true → d.live ≡ [] → ⊥

-- The same in two scenes.
pub record Two (f g : Integers) (d : Driving) (e e' : Effect) : Type 0 where
  pub here : One d e
  pub there : One d e'
  pub same : Agree f g (joined d.live) → (last : Option ℤ) → e last ≡ e' last

pub data Each (f g : Integers) : List Driving → List Effect → List Effect → Type 0 where
  no_more : Each f g [] [] []
  one_more : {d : Driving} {e e' : Effect} {ds : List Driving} {es es' : List Effect} → Two f g d e e' → Each f g ds es es' → Each f g (d ∷ ds) (e ∷ es) (e' ∷ es')

-- a block, as one statement
abbrev pub block_of : List Driving → Driving
block_of ds = record { certain = list_any (λ d. d.certain) ds; live = live_from ds }

-- lists and tests

abbrev is_empty : {A : Type 0} → List A → Bool
is_empty [] = true
is_empty (x ∷ xs) = false

pub cons_nil : {A : Type 0} (x : A) (xs : List A) → x ∷ xs ≡ [] → ⊥
cons_nil x xs e = true≢false (ap is_empty (sym e))

pub append_nil_left : {A : Type 0} (xs ys : List A) → xs ++ ys ≡ [] → xs ≡ []
append_nil_left [] ys e = refl
append_nil_left (x ∷ xs) ys e = absurd (cons_nil x (xs ++ ys) e)

pub append_nil_right : {A : Type 0} (xs ys : List A) → xs ++ ys ≡ [] → ys ≡ []
append_nil_right [] ys e = e
append_nil_right (x ∷ xs) ys e = absurd (cons_nil x (xs ++ ys) e)

pub joined-append : (xs ys : List (List Leaf)) → joined (xs ++ ys) ≡ joined xs ++ joined ys
joined-append [] ys = refl
joined-append (x ∷ xs) ys = grind (arith, common_steps, flat_map-cons, joined-append xs ys)

pub true_or_false : (b : Bool) → (b ≡ true) ⊎ (b ≡ false)
true_or_false true = inl refl
true_or_false false = inr refl

pub or_false : (a b : Bool) → b ≡ false → (a || b) ≡ true → a ≡ true
or_false true b q e = refl
or_false false b q e = absurd (true≢false (sym e ∙ q))

pub and_left : (a b : Bool) → (a && b) ≡ true → a ≡ true
and_left true b e = refl
and_left false b e = absurd (true≢false (sym e))

pub and_right : (a b : Bool) → (a && b) ≡ true → b ≡ true
and_right true b e = e
and_right false b e = absurd (true≢false (sym e))

-- A statement before others

live_covered : (d : Driving) (ds : List Driving) → list_any (λ x. x.certain) ds ≡ true → live_from (d ∷ ds) ≡ live_from ds
live_covered d ds q = ap (λ b. (if b then [] else d.live) ++ live_from ds) q

live_open : (d : Driving) (ds : List Driving) → list_any (λ x. x.certain) ds ≡ false → live_from (d ∷ ds) ≡ d.live ++ live_from ds
live_open d ds q = ap (λ b. (if b then [] else d.live) ++ live_from ds) q

one_before : (d : Driving) (e : Effect) (ds : List Driving) (es : List Effect) → One d e → One (block_of ds) (in_turn es) → One (block_of (d ∷ ds)) (in_turn (e ∷ es))
one_before d e ds es o later = record {
  quiet = λ n last. ⊎_elim
      (λ q. absurd (later.alive q (sym (live_covered d ds q) ∙ n)))
      (λ q. let all : d.live ++ live_from ds ≡ [] = sym (live_open d ds q) ∙ n in
      later.quiet (append_nil_right d.live (live_from ds) all) (e last) ∙ o.quiet (append_nil_left d.live (live_from ds) all) last)
      (true_or_false (list_any (λ x. x.certain) ds));
  fixed = λ c last other. ⊎_elim
      (λ q. later.fixed q (e last) (e other))
      (λ q. ap (in_turn es) (o.fixed (or_false d.certain (list_any (λ x. x.certain) ds) q c) last other))
      (true_or_false (list_any (λ x. x.certain) ds));
  some = λ c last. ⊎_elim
      (λ q. later.some q (e last))
      (λ q. later.keeps (e last) (o.some (or_false d.certain (list_any (λ x. x.certain) ds) q c) last))
      (true_or_false (list_any (λ x. x.certain) ds));
  keeps = λ last h. later.keeps (e last) (o.keeps last h);
  alive = λ c n. ⊎_elim
      (λ q. later.alive q (sym (live_covered d ds q) ∙ n))
      (λ q. o.alive (or_false d.certain (list_any (λ x. x.certain) ds) q c) (append_nil_left d.live (live_from ds) (sym (live_open d ds q) ∙ n)))
      (true_or_false (list_any (λ x. x.certain) ds));
}

nothing_one : One (block_of []) (in_turn [])
nothing_one = record {
  quiet = λ n last. refl;
  fixed = λ c last other. absurd (true≢false (sym c));
  some = λ c last. absurd (true≢false (sym c));
  keeps = λ last h. h;
  alive = λ c n. true≢false (sym c);
}

two_before : (f g : Integers) (d : Driving) (e e' : Effect) (ds : List Driving) (es es' : List Effect) → Two f g d e e' → Two f g (block_of ds) (in_turn es) (in_turn es')
    → Two f g (block_of (d ∷ ds)) (in_turn (e ∷ es)) (in_turn (e' ∷ es'))
two_before f g d e e' ds es es' t later = record {
  here = one_before d e ds es t.here later.here;
  there = one_before d e' ds es' t.there later.there;
  same = λ a last. ⊎_elim
      (λ q. later.here.fixed q (e last) (e' last) ∙ later.same (subst (λ l. Agree f g (joined l)) (live_covered d ds q) a) (e' last))
      (λ q. let split : Agree f g (joined d.live ++ joined (live_from ds)) = subst (Agree f g) (joined-append d.live (live_from ds)) (subst (λ l. Agree f g (joined l)) (live_open d ds q) a) in
      ap (in_turn es) (t.same (agree-left (joined d.live) (joined (live_from ds)) split) last) ∙ later.same (agree-right (joined d.live) (joined (live_from ds)) split) (e' last))
      (true_or_false (list_any (λ x. x.certain) ds));
}

-- A block does what one statement does.
pub block_two : {f g : Integers} {ds : List Driving} {es es' : List Effect} → Each f g ds es es' → Two f g (block_of ds) (in_turn es) (in_turn es')
block_two no_more = record { here = nothing_one; there = nothing_one; same = λ a last. refl }
block_two {f} {g} (one_more {d} {e} {e'} {ds} {es} {es'} t later) = two_before f g d e e' ds es es' t (block_two later)

-- Agreement through crossed conditions

agree_both : {f g : Integers} (xs ys : List Leaf) → Agree f g xs → Agree f g ys → Agree f g (xs ++ ys)
agree_both xs ys a b = record { agree = λ y c. ⊎_elim (a.agree y) (b.agree y) (Contains-append_cases xs ys y c) }

agree_first : {f g : Integers} (m : List Leaf) (ms : List (List Leaf)) → Agree f g (joined (m ∷ ms)) → Agree f g (m ++ joined ms)
agree_first {f} {g} m ms a = subst (Agree f g) (flat_map-cons (λ l. l) m ms) a

uncrossed : {f g : Integers} (cs : List Leaf) (live : List Mentioned) → Agree f g (joined (crossing cs live)) → Agree f g (joined live)
uncrossed cs [] a = a
uncrossed {f} {g} cs (m ∷ ms) a =
    let split : Agree f g ((cs ++ m) ++ joined (crossing cs ms)) = agree_first (cs ++ m) (crossing cs ms) a in
    let here : Agree f g m = agree-right cs m (agree-left (cs ++ m) (joined (crossing cs ms)) split) in
    let later : Agree f g (joined ms) = uncrossed cs ms (agree-right (cs ++ m) (joined (crossing cs ms)) split) in
    subst (Agree f g) (sym (flat_map-cons (λ l. l) m ms)) (agree_both m (joined ms) here later)

-- there is a live connect, which crosses the conditions, or none
crossed_or_none : (f g : Integers) (cs : List Leaf) (live : List Mentioned) → (live ≡ []) ⊎ (Agree f g (joined (crossing cs live)) → Agree f g cs)
crossed_or_none f g cs [] = inl refl
crossed_or_none f g cs (m ∷ ms) = inr (λ a. agree-left cs m (agree-left (cs ++ m) (joined (crossing cs ms)) (agree_first (cs ++ m) (crossing cs ms) a)))

through_or_none : (f g : Integers) (cs : List Leaf) (arms : List DrivingArm) (other : List Mentioned)
    → (through_arms cs arms other ≡ []) ⊎ (Agree f g (joined (through_arms cs arms other)) → Agree f g cs)
through_or_none f g cs [] other = ⊎_elim (λ n. inl (ap (crossing cs) n)) inr (crossed_or_none f g cs other)
through_or_none f g cs (arm ∷ arms) other =
    let here : List Mentioned = crossing (cs ++ arm.condition) arm.live in
    let later : List Mentioned = through_arms (cs ++ arm.condition) arms other in
    ⊎_elim
    (λ n. ⊎_elim
    (λ m. inl (ap (λ l. crossing (cs ++ arm.condition) l ++ later) n ∙ m))
    (λ h. inr (λ a. agree-left cs arm.condition (h (agree-right (joined here) (joined later) (subst (Agree f g) (joined-append here later) a)))))
    (through_or_none f g (cs ++ arm.condition) arms other))
    (λ h. inr (λ a. agree-left cs arm.condition (h (agree-left (joined here) (joined later) (subst (Agree f g) (joined-append here later) a)))))
    (crossed_or_none f g (cs ++ arm.condition) arm.live)

-- The arms of a `when`

abbrev pub arm_driving : DrivingArm → Driving
arm_driving arm = record { certain = arm.certain; live = arm.live }

abbrev pub when_driving : Mentioned → List DrivingArm → Driving → Driving
when_driving cs arms other = record { certain = list_all (λ a. a.certain) arms && other.certain; live = through_arms cs arms other.live }

pub data Arms (f g : Integers) : List DrivingArm → List (Bool × Effect) → List (Bool × Effect) → Type 0 where
  no_arm : Arms f g [] [] []
  one_arm : {arm : DrivingArm} {p q : Bool} {e e' : Effect} {arms : List DrivingArm} {ps qs : List (Bool × Effect)} → (Agree f g arm.condition → p ≡ q)
      → Two f g (arm_driving arm) e e' → Arms f g arms ps qs → Arms f g (arm ∷ arms) ((p, e) ∷ ps) ((q, e') ∷ qs)

map_nil : {A B : Type 0} (h : A → B) (xs : List A) → map h xs ≡ [] → xs ≡ []
map_nil h [] e = refl
map_nil h (x ∷ xs) e = absurd (cons_nil (h x) (map h xs) e)

else_one : (cs : Mentioned) (d : Driving) (e : Effect) → One d e → One (when_driving cs [] d) e
else_one cs d e o = record {
  quiet = λ n last. o.quiet (map_nil (λ l. cs ++ l) d.live n) last;
  fixed = λ c last other. o.fixed c last other;
  some = λ c last. o.some c last;
  keeps = λ last h. o.keeps last h;
  alive = λ c n. o.alive c (map_nil (λ l. cs ++ l) d.live n);
}

either_branch : (P : Effect → Type 0) (p : Bool) (x y : Effect) → P x → P y → P (if p then x else y)
either_branch P true x y h k = h
either_branch P false x y h k = k

all_and : (a b c : Bool) → ((a && b) && c) ≡ true → (b && c) ≡ true
all_and true b c e = e
all_and false b c e = absurd (true≢false (sym e))

arm_one : (cs : Mentioned) (arm : DrivingArm) (arms : List DrivingArm) (d : Driving) (p : Bool) (e later : Effect) → One (arm_driving arm) e
    → One (when_driving (cs ++ arm.condition) arms d) later → One (when_driving cs (arm ∷ arms) d) (if p then e else later)
arm_one cs arm arms d p e later o rest =
    let here : List Mentioned = crossing (cs ++ arm.condition) arm.live in
    let behind : List Mentioned = through_arms (cs ++ arm.condition) arms d.live in
    record {
      quiet = λ n. either_branch (λ x. (last : Option ℤ) → x last ≡ last) p e later
          (o.quiet (map_nil (λ l. (cs ++ arm.condition) ++ l) arm.live (append_nil_left here behind n))) (rest.quiet (append_nil_right here behind n));
      fixed = λ c. either_branch (λ x. (last other : Option ℤ) → x last ≡ x other) p e later
          (o.fixed (and_left arm.certain (list_all (λ a. a.certain) arms) (and_left (arm.certain && list_all (λ a. a.certain) arms) d.certain c)))
          (rest.fixed (all_and arm.certain (list_all (λ a. a.certain) arms) d.certain c));
      some = λ c. either_branch (λ x. (last : Option ℤ) → is_some (x last) ≡ true) p e later
          (o.some (and_left arm.certain (list_all (λ a. a.certain) arms) (and_left (arm.certain && list_all (λ a. a.certain) arms) d.certain c)))
          (rest.some (all_and arm.certain (list_all (λ a. a.certain) arms) d.certain c));
      keeps = either_branch (λ x. (last : Option ℤ) → is_some last ≡ true → is_some (x last) ≡ true) p e later o.keeps rest.keeps;
      alive = λ c n. rest.alive (all_and arm.certain (list_all (λ a. a.certain) arms) d.certain c) (append_nil_right here behind n);
    }

branches_same : (p q : Bool) → p ≡ q → (x y u v : Effect) (last : Option ℤ) → x last ≡ y last → u last ≡ v last → (if p then x else u) last ≡ (if q then y else v) last
branches_same true true e x y u v last h k = h
branches_same true false e x y u v last h k = absurd (true≢false e)
branches_same false true e x y u v last h k = absurd (true≢false (sym e))
branches_same false false e x y u v last h k = k

-- A `when` does what one statement does.
pub when_two : {f g : Integers} {arms : List DrivingArm} {ps qs : List (Bool × Effect)} → Arms f g arms ps qs → (cs : Mentioned) (d : Driving) (e e' : Effect) → Two f g d e e'
    → Two f g (when_driving cs arms d) (first_holding ps e) (first_holding qs e')
when_two no_arm cs d e e' t = record { here = else_one cs d e t.here; there = else_one cs d e' t.there; same = λ a last. t.same (uncrossed cs d.live a) last }
when_two {f} {g} (one_arm {arm} {p} {q} {e = x} {e' = x'} {arms} {ps} {qs} condition body rest) cs d e e' t =
    let later : Two f g (when_driving (cs ++ arm.condition) arms d) (first_holding ps e) (first_holding qs e') = when_two rest (cs ++ arm.condition) d e e' t in
    let front : List Mentioned = crossing (cs ++ arm.condition) arm.live in
    let behind : List Mentioned = through_arms (cs ++ arm.condition) arms d.live in
    let first : One (when_driving cs (arm ∷ arms) d) (if p then x else first_holding ps e) = arm_one cs arm arms d p x (first_holding ps e) body.here later.here in
    let second : One (when_driving cs (arm ∷ arms) d) (if q then x' else first_holding qs e') = arm_one cs arm arms d q x' (first_holding qs e') body.there later.there in
    record {
      here = first;
      there = second;
      same = λ a last.
          let split : Agree f g (joined front ++ joined behind) = subst (Agree f g) (joined-append front behind) a in
          let left : Agree f g (joined front) = agree-left (joined front) (joined behind) split in
          let right : Agree f g (joined behind) = agree-right (joined front) (joined behind) split in
          let known : Agree f g (cs ++ arm.condition) → (if p then x else first_holding ps e) last ≡ (if q then x' else first_holding qs e') last =
          λ all. branches_same p q (condition (agree-right cs arm.condition all)) x x' (first_holding ps e) (first_holding qs e') last
          (body.same (uncrossed (cs ++ arm.condition) arm.live left) last) (later.same right last) in
          ⊎_elim
          (λ n. ⊎_elim
          (λ m.
          let none : front ++ behind ≡ [] = ap (λ l. crossing (cs ++ arm.condition) l ++ behind) n ∙ m in
          first.quiet none last ∙ sym (second.quiet none last))
          (λ h. known (h right))
          (through_or_none f g (cs ++ arm.condition) arms d.live))
          (λ h. known (h left))
          (crossed_or_none f g (cs ++ arm.condition) arm.live);
    }
