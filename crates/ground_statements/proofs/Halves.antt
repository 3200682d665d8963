-- What the connects of the leaves of one orientation of a part do.
use Rattle.std.proofs.Common.{◌≡◌, ◌≢◌, ℕ, zero, suc, ◌+◌, Bool, true, false, not, List, [], ◌∷◌, ◌++◌, map, length, refl, sym, ap, ap₂, ◌∙◌, subst, arith, ◌==◌, ◌&&◌, ◌||◌, if◌then◌else◌, cond, Some, None, Option, option_map, slice_get, filter_map, ℤ, true≢false, append-nil, inl, inr, ⊎_elim}
use Rattle.std.specs.Prelude.{Contains}
use Rattle.std.specs.List.{list_any, cons_option}
use Rattle.std.proofs.lemmas.Bool.Decides.{nat_tests}
use Rattle.std.proofs.lemmas.Grind.{common_steps}
use Rattle.std.proofs.lemmas.List.Elements.{Contains-append_left, Contains-append_right, Contains-append_cases}
use Rattle.bit_words.specs.declared.value.Kind.{Kind}
use Rattle.bit_words.specs.declared.value.Kind.TheVariants.{Unsigned, Signed}
use Rattle.bit_words.specs.declared.value.Value.{Value}
use Rattle.bit_words.specs.Values.{integer_of}
use Rattle.fir_types.specs.declared.fir_type.FirType.{FirType}
use Rattle.fir_types.specs.declared.leaf.TypeLeaf.{TypeLeaf}
use Rattle.fir_types.specs.declared.leaf.PathStep.{PathStep}
use Rattle.fir_types.specs.declared.leaf.PathStep.TheVariants as step
use Rattle.fir_types.specs.Leaves.{leaves}
use Rattle.prim_ops.specs.Values.{lone}
use Rattle.ground_net.specs.Grounds as net
use Rattle.ground_net.specs.Grounds.{Instant, value, mentions}
use Rattle.ground_net.specs.Statements.{in_turn, effect, is_certain, live}
use Rattle.ground_net.specs.Shapes.{Shape, same_kind, same_shape, HasShapes, shape}
use Rattle.ground_net.specs.StatementShapes.{some_same as both_alike, is_shaped}
use Rattle.fir_meaning.specs.Components.{Leaf}
use Rattle.fir_meaning.specs.Values.{Spot, beside, fitted_to}
use Rattle.fir_meaning.specs.Drives.{same_step, same_way, same_leaf, is_turned, of_orientation, setting, left_in}
use Rattle.fir_meaning.specs.Mentions.{Region, joined, leaves_at}
use Rattle.fir_meaning.specs.Certain.{may_be, surely_names}
use Rattle.fir_meaning.specs.Loops.{Mentioned}
use Rattle.fir_meaning.specs.WellTyped.{leaf_shape}
use Rattle.ground_exprs.specs.declared.part.Part.{Part}
use Rattle.ground_exprs.specs.declared.part.Pick.{Pick}
use Rattle.ground_exprs.specs.Parts.{picked, choices, index_mentions, are_indices}
use Rattle.ground_exprs.specs.Numbers.{Numbering, StandsAt, SameLeaves, IsPart, is_dynamic}
use Rattle.ground_exprs.proofs.Members.{some_same, only_one, the_one, not_in_none, in_front, in_later, in_map, from_map}
use Rattle.ground_exprs.proofs.Onwards.{picked_moved, choice_moved, choice_back}
use Rattle.ground_exprs.specs.declared.source.Source.{Source}
use Rattle.ground_statements.specs.declared.targets.Target.{Target}
use Rattle.ground_statements.specs.Connects.{IsOneToOne, has_none, SameLives, LeavesAlone}
use Rattle.ground_statements.specs.Targets.{targets, AreCounted, is_allowed, set_each, set_one, set_leaves}
use Rattle.ground_statements.proofs.Statements.{effects-append, certain-append, shaped-append, live-append, alone_none, alone_append}
use Rattle.ground_statements.proofs.Hits.{picked_is, hits_targets, each_effect, each_alone, each_uncertain, one_certain, lives_of, each_live, one_live, lives_from, lives_in, lives_some, target_choice, choice_target, dynamic_targets, target_reads, reads_target, target_shapes, each_shaped}
use Rattle.ground_statements.proofs.Ways.{same_front}

-- Lists side by side

abbrev pub head_or : {A : Type 0} → A → List A → A
head_or d [] = d
head_or d (x ∷ xs) = x

abbrev pub tail : {A : Type 0} → List A → List A
tail [] = []
tail (x ∷ xs) = xs

pub beside-cons : {A B : Type 0} (d : B) (a : A) (rest : List A) (bs : List B) → beside d (a ∷ rest) bs ≡ (a, head_or d bs) ∷ beside d rest (tail bs)
beside-cons d a rest [] = refl
beside-cons d a rest (b ∷ bs) = refl

-- What a leaf is set to, where it has this orientation: what has this value and these mentions in the text, fitted.
pub record FitsAt (n : Numbering) (flip : Bool) (leaf : TypeLeaf) (has : Instant → Value) (mentioned : List Leaf) (s : Source) : Type 0 where
  pub turned : is_turned flip leaf ≡ true
  pub value : (instant : Instant) → HasShapes n.table instant → integer_of (value s.expr instant) ≡ integer_of (fitted_to leaf (integer_of (has instant)))
  pub shape : shape s.expr n.table ≡ Some (leaf_shape leaf)
  pub reads : SameLeaves n mentioned (mentions s.expr)

abbrev pub FitAt : Numbering → Bool → TypeLeaf → (Instant → Value) → List Leaf → Option Source → Type 0
FitAt n flip leaf has mentioned (Some s) = FitsAt n flip leaf has mentioned s
FitAt n flip leaf has mentioned None = is_turned flip leaf ≡ false

abbrev pub FitsAll : Numbering → Bool → List TypeLeaf → (Instant → List Value) → List (List Leaf) → List (Option Source) → Type 0
FitsAll n flip [] has ms [] = Unit {0}
FitsAll n flip (l ∷ ls) has ms (f ∷ fs) = FitAt n flip l (λ instant. head_or (lone []) (has instant)) (head_or [] ms) f × FitsAll n flip ls (λ instant. tail (has instant)) (tail ms) fs
FitsAll n flip _ has ms _ = ⊥

-- Leaves

way_equal : (a b : List PathStep) → same_way a b ≡ true → a ≡ b
way_equal [] [] e = refl
way_equal [] (y ∷ b) e = absurd (true≢false (sym e))
way_equal (x ∷ a) [] e = absurd (true≢false (sym e))
way_equal (x ∷ a) (y ∷ b) e =
    let both = Rattle.ground_net.proofs.Shaping.both_true (same_step x y) (same_way a b) e in
    ap₂ (λ u v. u ∷ v) (step_equal x y both.0) (way_equal a b both.1)
  where
    step_equal : (x y : PathStep) → same_step x y ≡ true → x ≡ y
    step_equal (step.Field m) (step.Field k) e = let s : m ≡ k = grind (arith, common_steps, nat_tests, e) in ap step.Field s
    step_equal (step.Element m) (step.Element k) e = let s : m ≡ k = grind (arith, common_steps, nat_tests, e) in ap step.Element s
    step_equal (step.Field m) (step.Element k) e = absurd (true≢false (sym e))
    step_equal (step.Element m) (step.Field k) e = absurd (true≢false (sym e))

same_number : (n : ℕ) → (n == n) ≡ true
same_number n = grind (arith, common_steps, nat_tests)

numbers_equal : (a b : ℕ) → (a == b) ≡ true → a ≡ b
numbers_equal a b e = grind (arith, common_steps, nat_tests, e)

pub leaf_equal : (a b : Leaf) → same_leaf a b ≡ true → a ≡ b
leaf_equal a b e =
    let both = Rattle.ground_net.proofs.Shaping.both_true (a.component == b.component) (same_way a.way b.way) e in
    ap₂ (λ c w. record { component = c; way = w }) (numbers_equal a.component b.component both.0) (way_equal a.way b.way both.1)

pub way_itself : (a : List PathStep) → same_way a a ≡ true
way_itself [] = refl
way_itself (step.Field m ∷ a) = ap₂ (λ p q. p && q) (same_number m) (way_itself a)
way_itself (step.Element m ∷ a) = ap₂ (λ p q. p && q) (same_number m) (way_itself a)

pub leaf_itself : (a b : Leaf) → a ≡ b → same_leaf a b ≡ true
leaf_itself a b e = ap (same_leaf a) (sym e) ∙ ap₂ (λ p q. p && q) (same_number a.component) (way_itself a.way)

pub bool_same : (a b : Bool) → (a ≡ true → b ≡ true) → (b ≡ true → a ≡ true) → a ≡ b
bool_same true true f g = refl
bool_same true false f g = sym (f refl)
bool_same false true f g = g refl
bool_same false false f g = refl

pub any_in : {A : Type 0} (p : A → Bool) (xs : List A) (x : A) → Contains xs x → p x ≡ true → list_any p xs ≡ true
any_in p [] x c e = absurd (not_in_none x c)
any_in p (y ∷ ys) x (zero, below, is) e = ap (λ b. b || list_any p ys) (ap p is ∙ e)
any_in p (y ∷ ys) x (suc k, below, is) e = either (p y) (list_any p ys) (any_in p ys x (k, omega (arith, below), is) e)
  where
    either : (a b : Bool) → b ≡ true → (a || b) ≡ true
    either true b e = refl
    either false b e = e

any_next : {A : Type 0} (p : A → Bool) (y : A) (ys : List A) → (list_any p ys ≡ true → (x : A) × Contains ys x × (p x ≡ true)) → (b : Bool) → p y ≡ b → (b || list_any p ys) ≡ true
    → (x : A) × Contains (y ∷ ys) x × (p x ≡ true)
any_next p y ys deep true t h = (y, in_front y ys, t)
any_next p y ys deep false t h = let r = deep h in (r.0, in_later y ys r.0 r.1, r.2)

pub any_from : {A : Type 0} (p : A → Bool) (xs : List A) → list_any p xs ≡ true → (x : A) × Contains xs x × (p x ≡ true)
any_from p [] e = absurd (true≢false (sym e))
any_from p (y ∷ ys) e = any_next p y ys (λ h. any_from p ys h) (p y) refl e

and_parts : (a b : Bool) → (a && b) ≡ true → (a ≡ true) × (b ≡ true)
and_parts true b e = (refl, e)
and_parts false b e = absurd (true≢false (sym e))

none_behind : {A : Type 0} (xs : List A) → xs ++ [] ≡ xs
none_behind xs = append-nil xs

pub suc_plus : (a k : ℕ) → a + suc k ≡ a + 1 + k
suc_plus a k = omega arith

plus_suc : (a b k : ℕ) → a + (b + 1) ≡ a + b + 1
plus_suc a b k = omega arith

pub plus_none : (a : ℕ) → a + 0 ≡ a
plus_none a = omega arith

pub not_allowed : (o : Option Bool) → o ≢ Some true → is_allowed o ≡ false
not_allowed (Some true) d = absurd (d refl)
not_allowed (Some false) d = refl
not_allowed None d = refl

-- Effects

module _ (n : Numbering) (one : IsOneToOne n) (flip : Bool) (settable : List Bool) (picks : List Pick) (x : ℕ) (z : Leaf)
    (may : is_allowed (slice_get settable x) ≡ true) (is_x : n.number z ≡ Some x) where
  put_if : (b : Bool) (v : Value) (last : Option Value) (i : ℤ) → integer_of v ≡ i → option_map integer_of (if b then Some v else last) ≡ if b then Some i else option_map integer_of last
  put_if true v last i e = ap Some e
  put_if false v last i e = refl

  -- the leaf behind the way is the one of this number
  number_same : (c first : ℕ) (way : List PathStep) → n.number (record { component = c; way = way }) ≡ Some first → same_leaf (record { component = c; way = way }) z ≡ (first == x)
  number_same c first way e = bool_same (same_leaf (record { component = c; way = way }) z) (first == x)
      (λ s. let same = leaf_equal (record { component = c; way = way }) z s in
      let number : first ≡ x = some_same (sym e ∙ (ap n.number same ∙ is_x)) in ap (λ m. m == x) number ∙ same_number x)
      (λ s. leaf_itself (record { component = c; way = way }) z (one (record { component = c; way = way }) z x (e ∙ ap Some (numbers_equal first x s)) is_x))

  one_effect : AreCounted picks → (instant : Instant) (number : ℕ) (s : Source) (last : Option Value)
      → in_turn (map (effect instant x) (set_each settable s.expr (targets picks number))) last ≡ if picked_is x (picked instant picks number) then Some (value s.expr instant) else last
  one_effect small instant number s last =
      each_effect settable s.expr x may instant (targets picks number) last ∙ ap (λ b. if b then Some (value s.expr instant) else last) (hits_targets instant x picks number small)

  next_picked : (instant : Instant) (number first : ℕ) → picked instant picks number ≡ Some first → picked instant picks (number + 1) ≡ Some (first + 1)
  next_picked instant number first e = picked_moved instant picks number 1 ∙ ap (option_map (λ y. y + 1)) e

  -- Where the indices lead to a way, the leaves behind it are set.
  pub effects_some : (instant : Instant) → HasShapes n.table instant → (c : ℕ) (way : List PathStep) (ls : List TypeLeaf) (has : Instant → List Value) (ms : List (List Leaf)) (fits : List (Option Source)) (number first : ℕ)
      → (has_none ls ≡ false → AreCounted picks) → FitsAll n flip ls has ms fits → picked instant picks number ≡ Some first
      → ((k : ℕ) (leaf : TypeLeaf) → slice_get ls k ≡ Some leaf → n.number (record { component = c; way = way ++ leaf.path }) ≡ Some (first + k)) → (last : Option Value)
      → option_map integer_of (in_turn (map (effect instant x) (set_leaves settable picks number fits)) last)
      ≡ left_in z (option_map integer_of last) (map (setting c way) (of_orientation flip (beside (lone []) ls (has instant))))
  effects_some instant h c way [] has ms [] number first small all e at last = refl
  effects_some instant h c way [] has ms (f ∷ fs) number first small all e at last = absurd all
  effects_some instant h c way (l ∷ ls) has ms [] number first small all e at last = absurd all
  effects_some instant h c way (l ∷ ls) has ms (f ∷ fs) number first small all e at last =
      ap (option_map integer_of) (effects-append instant x (set_one settable picks number f) (set_leaves settable picks (number + 1) fs) last)
      ∙ (effects_some instant h c way ls (λ instant. tail (has instant)) (tail ms) fs (number + 1) (first + 1) (λ _. small refl) all.1 (next_picked instant number first e) later
      (in_turn (map (effect instant x) (set_one settable picks number f)) last)
      ∙ (step_of f all.0 ∙ ap (λ ps. left_in z (option_map integer_of last) (map (setting c way) (of_orientation flip ps))) (sym (beside-cons (lone []) l ls (has instant)))))
    where
      later : (k : ℕ) (leaf : TypeLeaf) → slice_get ls k ≡ Some leaf → n.number (record { component = c; way = way ++ leaf.path }) ≡ Some (first + 1 + k)
      later k leaf g = at (suc k) leaf g ∙ ap Some (suc_plus first k)

      turned_case : (b : Bool) → is_turned flip l ≡ b → (last2 : Option ℤ)
          → left_in z last2 (map (setting c way) (cond b ((l, head_or (lone []) (has instant)) ∷ of_orientation flip (beside (lone []) ls (tail (has instant)))) (of_orientation flip (beside (lone []) ls (tail (has instant))))))
          ≡ left_in z last2 (map (setting c way) (of_orientation flip ((l, head_or (lone []) (has instant)) ∷ beside (lone []) ls (tail (has instant)))))
      turned_case b t last2 = ap (λ b. left_in z last2 (map (setting c way) (cond b ((l, head_or (lone []) (has instant)) ∷ of_orientation flip (beside (lone []) ls (tail (has instant)))) (of_orientation flip (beside (lone []) ls (tail (has instant))))))) (sym t)

      step_of : (o : Option Source) → FitAt n flip l (λ instant. head_or (lone []) (has instant)) (head_or [] ms) o
          → left_in z (option_map integer_of (in_turn (map (effect instant x) (set_one settable picks number o)) last)) (map (setting c way) (of_orientation flip (beside (lone []) ls (tail (has instant)))))
          ≡ left_in z (option_map integer_of last) (map (setting c way) (of_orientation flip ((l, head_or (lone []) (has instant)) ∷ beside (lone []) ls (tail (has instant)))))
      step_of None t = turned_case false t (option_map integer_of last)
      step_of (Some s) fit =
          ap (λ v. left_in z v (map (setting c way) (of_orientation flip (beside (lone []) ls (tail (has instant))))))
          (ap (option_map integer_of) (one_effect (small refl) instant number s last ∙ ap (λ o. if picked_is x o then Some (value s.expr instant) else last) e)
          ∙ (put_if (first == x) (value s.expr instant) last (integer_of (fitted_to l (integer_of (head_or (lone []) (has instant))))) (fit.value instant h)
          ∙ ap (λ b. if b then Some (integer_of (fitted_to l (integer_of (head_or (lone []) (has instant))))) else option_map integer_of last)
          (sym (number_same c first (way ++ l.path) (at 0 l refl ∙ ap Some (plus_none first))))))
          ∙ turned_case true fit.turned (option_map integer_of last)

  -- Where an index is out of its vector, nothing is set.
  pub effects_none : (instant : Instant) (fits : List (Option Source)) (number : ℕ) → (has_none fits ≡ false → AreCounted picks) → picked instant picks number ≡ None → (last : Option Value)
      → in_turn (map (effect instant x) (set_leaves settable picks number fits)) last ≡ last
  effects_none instant [] number small e last = refl
  effects_none instant (f ∷ fs) number small e last =
      effects-append instant x (set_one settable picks number f) (set_leaves settable picks (number + 1) fs) last
      ∙ (effects_none instant fs (number + 1) (λ _. small refl) (picked_moved instant picks number 1 ∙ ap (option_map (λ y. y + 1)) e) (in_turn (map (effect instant x) (set_one settable picks number f)) last) ∙ here f)
    where
      here : (o : Option Source) → in_turn (map (effect instant x) (set_one settable picks number o)) last ≡ last
      here None = refl
      here (Some s) = one_effect (small refl) instant number s last ∙ ap (λ o. if picked_is x o then Some (value s.expr instant) else last) e

-- Leaves that may not be set

pub others_alone : (settable : List Bool) (picks : List Pick) (x : ℕ) → is_allowed (slice_get settable x) ≡ false → (fits : List (Option Source)) (number : ℕ) → LeavesAlone (set_leaves settable picks number fits) x
others_alone settable picks x e [] number = alone_none x
others_alone settable picks x e (f ∷ fs) number = alone_append (set_one settable picks number f) (set_leaves settable picks (number + 1) fs) x (here f) (others_alone settable picks x e fs (number + 1))
  where
    other : (y : ℕ) → is_allowed (slice_get settable y) ≡ true → (b : Bool) → (y == x) ≡ b → (y == x) ≡ false
    other y a true t = absurd (true≢false (sym a ∙ (ap (λ m. is_allowed (slice_get settable m)) (numbers_equal y x t) ∙ e)))
    other y a false t = t

    here : (o : Option Source) → LeavesAlone (set_one settable picks number o) x
    here None = alone_none x
    here (Some s) = each_alone settable s.expr x (targets picks number) (λ t c a. other t.leaf a (t.leaf == x) refl)

-- Shapes

same_itself : (s : Shape) → same_shape s s ≡ true
same_itself s = both s.kind s.width
  where
    both : (k : Kind) (w : ℕ) → (same_kind k k && (w == w)) ≡ true
    both Unsigned w = same_number w
    both Signed w = same_number w

module _ (n : Numbering) (flip : Bool) (settable : List Bool) (picks : List Pick) (indices : are_indices n.table picks ≡ true) where
  pub all_shaped : (ls : List TypeLeaf) (has : Instant → List Value) (ms : List (List Leaf)) (fits : List (Option Source)) (number : ℕ) → FitsAll n flip ls has ms fits
      → ((k : ℕ) (leaf : TypeLeaf) (y : ℕ) → slice_get ls k ≡ Some leaf → Contains (choices picks (number + k)) y → n.table.leaf y ≡ Some (leaf_shape leaf)) → is_shaped n.table (set_leaves settable picks number fits) ≡ true
  all_shaped [] has ms [] number all at = refl
  all_shaped [] has ms (f ∷ fs) number all at = absurd all
  all_shaped (l ∷ ls) has ms [] number all at = absurd all
  all_shaped (l ∷ ls) has ms (f ∷ fs) number all at =
      shaped-append n.table (set_one settable picks number f) (set_leaves settable picks (number + 1) fs)
      ∙ ap₂ (λ a b. a && b) (here f all.0)
      (all_shaped ls (λ instant. tail (has instant)) (tail ms) fs (number + 1) all.1 (λ k leaf y e c. at (suc k) leaf y e (subst (λ m. Contains (choices picks m) y) (sym (suc_plus number k)) c)))
    where
      here : (o : Option Source) → FitAt n flip l (λ instant. head_or (lone []) (has instant)) (head_or [] ms) o → is_shaped n.table (set_one settable picks number o) ≡ true
      here None t = refl
      here (Some s) fit = each_shaped settable s.expr n.table (targets picks number) (λ t c. (
        target_shapes n.table picks number t indices c,
        ap₂ both_alike fit.shape (at 0 l t.leaf refl (subst (λ m. Contains (choices picks m) t.leaf) (sym (plus_none number)) (target_choice picks number t c))) ∙ same_itself (leaf_shape l),
      ))

-- Certain, and live

module _ (n : Numbering) (one : IsOneToOne n) (region : Region) (spot : Instant → Spot) (typ : FirType) (part : Part) (p : IsPart n region spot typ part) (steps : ℕ)
    (long : (way : List PathStep) → Contains region.ways way → length way ≡ steps) (flip : Bool) (settable : List Bool) (x : ℕ) (z : Leaf)
    (may : is_allowed (slice_get settable x) ≡ true) (is_x : n.number z ≡ Some x) where
  -- Where the leaf is behind one of the part's ways.
  pub record Behind (leaf : TypeLeaf) (j : ℕ) : Type 0 where
    pub way : List PathStep
    pub there : Contains region.ways way
    pub first : ℕ
    pub choice : Contains (choices part.picks part.first) first
    pub stands : StandsAt n region.component typ way first
    pub number : first + j ≡ x
    pub named : record { component = region.component; way = way ++ leaf.path } ≡ z

  pub named_behind : (j : ℕ) (l : TypeLeaf) → slice_get (leaves typ) j ≡ Some l → list_any (λ at. same_leaf at z) (leaves_at region l.path) ≡ true → Behind l j
  named_behind j l e t =
      let found = any_from (λ at. same_leaf at z) (leaves_at region l.path) t in
      let w = from_map (λ (way : List PathStep). record { component = region.component; way = way ++ l.path }) region.ways found.0 found.1 in
      let first = p.all w.0 w.1 in
      let named = w.2 ∙ leaf_equal found.0 z found.2 in
      record {
        way = w.0;
        there = w.1;
        first = first.0;
        choice = first.1;
        stands = first.2;
        number = some_same (sym (first.2.numbers j l e) ∙ (ap n.number named ∙ is_x));
        named = named;
      }

  pub chosen_behind : (j : ℕ) (l : TypeLeaf) → slice_get (leaves typ) j ≡ Some l → Contains (choices part.picks (part.first + j)) x → Behind l j
  chosen_behind j l e c =
      let back = choice_back part.picks part.first j x c in
      let w = p.each back.0 back.1 in
      record {
        way = w.0;
        there = w.1;
        first = back.0;
        choice = back.1;
        stands = w.2;
        number = back.2;
        named = one (record { component = region.component; way = w.0 ++ l.path }) z x (w.2.numbers j l e ∙ ap Some back.2) is_x;
      }

  pub behind_named : (j : ℕ) (l : TypeLeaf) → Behind l j → list_any (λ at. same_leaf at z) (leaves_at region l.path) ≡ true
  behind_named j l b =
      any_in (λ at. same_leaf at z) (leaves_at region l.path) (record { component = region.component; way = b.way ++ l.path })
      (in_map (λ (way : List PathStep). record { component = region.component; way = way ++ l.path }) region.ways b.way b.there)
      (leaf_itself (record { component = region.component; way = b.way ++ l.path }) z b.named)

  pub behind_chosen : (j : ℕ) (l : TypeLeaf) → Behind l j → Contains (choices part.picks (part.first + j)) x
  behind_chosen j l b = subst (Contains (choices part.picks (part.first + j))) b.number (choice_moved part.picks part.first j b.first b.choice)

  -- It is behind one of them only.
  pub behind_once : (j k : ℕ) (a b : TypeLeaf) → slice_get (leaves typ) j ≡ Some a → slice_get (leaves typ) k ≡ Some b → Behind a j → Behind b k → j ≡ k
  behind_once j k a b e f p1 p2 =
      let ways : p1.way ++ a.path ≡ p2.way ++ b.path = ap (λ (l : Leaf). l.way) (p1.named ∙ sym p2.named) in
      let same : p1.way ≡ p2.way = same_front p1.way p2.way a.path b.path (long p1.way p1.there ∙ sym (long p2.way p2.there)) ways in
      let other : n.number (record { component = region.component; way = p1.way ++ a.path }) ≡ Some (p2.first + j) =
      ap (λ w. n.number (record { component = region.component; way = w ++ a.path })) same ∙ p2.stands.numbers j a e in
      let firsts : p1.first + j ≡ p2.first + j = some_same (sym (p1.stands.numbers j a e) ∙ other) in
      places p1.first p2.first j k firsts (p1.number ∙ sym p2.number)
    where
      places : (a b j k : ℕ) → a + j ≡ b + j → a + j ≡ b + k → j ≡ k
      places a b j k e f = omega (arith, e, f)

  -- a leaf that is not behind it is left alone
  quiet_one : (j : ℕ) (l : TypeLeaf) (has : Instant → Value) (m : List Leaf) (f : Option Source) → slice_get (leaves typ) j ≡ Some l → FitAt n flip l has m f → may_be flip region z l ≡ false
      → LeavesAlone (set_one settable part.picks (part.first + j) f) x
  quiet_one j l has m None e fit nope = alone_none x
  quiet_one j l has m (Some s) e fit nope = each_alone settable s.expr x (targets part.picks (part.first + j)) (λ t c a. by t c (t.leaf == x) refl)
    where
      by : (t : Target) → Contains (targets part.picks (part.first + j)) t → (b : Bool) → (t.leaf == x) ≡ b → (t.leaf == x) ≡ false
      by t c true q =
          let chosen : Contains (choices part.picks (part.first + j)) x = subst (Contains (choices part.picks (part.first + j))) (numbers_equal t.leaf x q) (target_choice part.picks (part.first + j) t c) in
          absurd (true≢false (sym (ap₂ (λ a b. a && b) fit.turned (behind_named j l (chosen_behind j l e chosen))) ∙ nope))
      by t c false q = q

  abbrev pub mentioned_for : TypeLeaf × List Leaf → Option Mentioned
  mentioned_for both = if may_be flip region z both.0 then Some (region.indices ++ both.1) else None

  abbrev pub mention_list : List TypeLeaf → List (List Leaf) → List Mentioned
  mention_list ls ms = filter_map mentioned_for (beside [] ls ms)

  mention_next : (l : TypeLeaf) (ls : List TypeLeaf) (ms : List (List Leaf)) → mention_list (l ∷ ls) ms ≡ cons_option (mentioned_for (l, head_or [] ms)) (mention_list ls (tail ms))
  mention_next l ls ms = ap (filter_map mentioned_for) (beside-cons [] l ls ms)

  mention_here : (l : TypeLeaf) (ls : List TypeLeaf) (ms : List (List Leaf)) → may_be flip region z l ≡ true → mention_list (l ∷ ls) ms ≡ (region.indices ++ head_or [] ms) ∷ mention_list ls (tail ms)
  mention_here l ls ms t = mention_next l ls ms ∙ ap (λ b. cons_option (if b then Some (region.indices ++ head_or [] ms) else None) (mention_list ls (tail ms))) t

  mention_none : (l : TypeLeaf) (ls : List TypeLeaf) (ms : List (List Leaf)) → may_be flip region z l ≡ false → mention_list (l ∷ ls) ms ≡ mention_list ls (tail ms)
  mention_none l ls ms t = mention_next l ls ms ∙ ap (λ b. cons_option (if b then Some (region.indices ++ head_or [] ms) else None) (mention_list ls (tail ms))) t

  -- Where none of these leaves is it, it is left alone.
  pub quiet : (ls : List TypeLeaf) (has : Instant → List Value) (ms : List (List Leaf)) (fits : List (Option Source)) (j : ℕ) → FitsAll n flip ls has ms fits
      → ((k : ℕ) (leaf : TypeLeaf) → slice_get ls k ≡ Some leaf → (slice_get (leaves typ) (j + k) ≡ Some leaf) × (may_be flip region z leaf ≡ false))
      → LeavesAlone (set_leaves settable part.picks (part.first + j) fits) x × (mention_list ls ms ≡ [])
  quiet [] has ms [] j all at = (alone_none x, refl)
  quiet [] has ms (f ∷ fs) j all at = absurd all
  quiet (l ∷ ls) has ms [] j all at = absurd all
  quiet (l ∷ ls) has ms (f ∷ fs) j all at =
      let here = at 0 l refl in
      let rest = quiet ls (λ instant. tail (has instant)) (tail ms) fs (j + 1) all.1 (λ k leaf e. (subst (λ m. slice_get (leaves typ) m ≡ Some leaf) (suc_plus j k) (at (suc k) leaf e).0, (at (suc k) leaf e).1)) in (
        alone_append (set_one settable part.picks (part.first + j) f) (set_leaves settable part.picks (part.first + j + 1) fs) x
            (quiet_one j l (λ instant. head_or (lone []) (has instant)) (head_or [] ms) f (subst (λ m. slice_get (leaves typ) m ≡ Some l) (plus_none j) here.0) all.0 here.1)
            (subst (λ m. LeavesAlone (set_leaves settable part.picks m fs) x) (plus_suc part.first j 0) rest.0),
        mention_none l ls ms here.1 ∙ rest.1,
      )

  -- the live connects of a leaf that is behind it
  leaf_lives : (j : ℕ) (m : List Leaf) (s : Source) → Contains (choices part.picks (part.first + j)) x → SameLeaves n m (mentions s.expr)
      → SameLives n ((region.indices ++ m) ∷ []) (live x (set_each settable s.expr (targets part.picks (part.first + j))))
  leaf_lives j m s c r = by part.picks refl
    where
      reads_told : (ts : List Target) → ((t : Target) → Contains ts t → (y : ℕ) → Contains (net.joined (map mentions t.conditions)) y → Contains (index_mentions part.picks) y)
          → ((t : Target) → Contains ts t → (y : ℕ) → Contains (index_mentions part.picks) y → Contains (net.joined (map mentions t.conditions)) y)
          → (t : Target) → Contains ts t → t.leaf ≡ x → SameLives n ((region.indices ++ m) ∷ []) (lives_of settable s.expr x ts)
      reads_told ts down up t there is = record {
        none = lives_some settable s.expr x ts t there (ap (λ y. y == x) is ∙ same_number x);
        leaves = record {
          only = λ y k.
              let from = lives_from settable s.expr x ts y k in
              ⊎_elim
              (λ l. let q = p.indices.only y (down from.0 from.1 y l) in (q.0, in_one q.0 (Contains-append_left region.indices m q.0 q.1), q.2))
              (λ l. let q = r.only y l in (q.0, in_one q.0 (Contains-append_right region.indices m q.0 q.1), q.2))
              (Contains-append_cases (net.joined (map mentions from.0.conditions)) (mentions s.expr) y from.2);
          all = λ w k.
              ⊎_elim
              (λ l. let q = p.indices.all w l in
              (q.0, q.1, lives_in settable s.expr x ts t q.0 there (ap (λ y. y == x) is ∙ same_number x) (Contains-append_left (net.joined (map mentions t.conditions)) (mentions s.expr) q.0 (up t there q.0 q.2))))
              (λ l. let q = r.all w l in
              (q.0, q.1, lives_in settable s.expr x ts t q.0 there (ap (λ y. y == x) is ∙ same_number x) (Contains-append_right (net.joined (map mentions t.conditions)) (mentions s.expr) q.0 q.2)))
              (Contains-append_cases region.indices m w (subst (λ l. Contains l w) (append-nil (region.indices ++ m)) k));
        };
      }
        where
          in_one : (w : Leaf) → Contains (region.indices ++ m) w → Contains (joined ((region.indices ++ m) ∷ [])) w
          in_one w k = subst (λ l. Contains l w) (sym (append-nil (region.indices ++ m))) k

      by : (picks : List Pick) → part.picks ≡ picks → SameLives n ((region.indices ++ m) ∷ []) (live x (set_each settable s.expr (targets part.picks (part.first + j))))
      by [] e =
          let t : Target = record { leaf = part.first + j; conditions = [] } in
          let one : targets part.picks (part.first + j) ≡ t ∷ [] = ap (λ ps. targets ps (part.first + j)) e in
          let chosen = choice_target part.picks (part.first + j) x c in
          subst (SameLives n ((region.indices ++ m) ∷ [])) (sym (ap (λ ts. live x (set_each settable s.expr ts)) one ∙ one_live settable s.expr x may t))
          (subst (λ ts. SameLives n ((region.indices ++ m) ∷ []) (lives_of settable s.expr x ts)) one
          (reads_told (targets part.picks (part.first + j)) (λ u k y. target_reads part.picks (part.first + j) u y k) (λ u k y. reads_target part.picks (part.first + j) u y k) chosen.0 chosen.1 chosen.2))
      by (pick ∷ picks) e =
          let chosen = choice_target part.picks (part.first + j) x c in
          subst (SameLives n ((region.indices ++ m) ∷ []))
          (sym (each_live settable s.expr x may (targets part.picks (part.first + j))
          (λ t k. dynamic_targets pick picks (part.first + j) t (subst (λ ps. Contains (targets ps (part.first + j)) t) e k))))
          (reads_told (targets part.picks (part.first + j)) (λ u k y. target_reads part.picks (part.first + j) u y k) (λ u k y. reads_target part.picks (part.first + j) u y k) chosen.0 chosen.1 chosen.2)

  pub lives_all : (ls : List TypeLeaf) (has : Instant → List Value) (ms : List (List Leaf)) (fits : List (Option Source)) (j : ℕ) → FitsAll n flip ls has ms fits
      → ((k : ℕ) (leaf : TypeLeaf) → slice_get ls k ≡ Some leaf → slice_get (leaves typ) (j + k) ≡ Some leaf)
      → SameLives n (mention_list ls ms) (live x (set_leaves settable part.picks (part.first + j) fits))
  lives_all [] has ms [] j all at = record { none = refl; leaves = record { only = λ y k. absurd (not_in_none y k); all = λ w k. absurd (not_in_none w k) } }
  lives_all [] has ms (f ∷ fs) j all at = absurd all
  lives_all (l ∷ ls) has ms [] j all at = absurd all
  lives_all (l ∷ ls) has ms (f ∷ fs) j all at = by (lives_all ls (λ instant. tail (has instant)) (tail ms) fs (j + 1) all.1 (λ k leaf g. subst (λ m. slice_get (leaves typ) m ≡ Some leaf) (suc_plus j k) (at (suc k) leaf g))) (may_be flip region z l) refl f all.0
    where
      e : slice_get (leaves typ) j ≡ Some l
      e = subst (λ m. slice_get (leaves typ) m ≡ Some l) (plus_none j) (at 0 l refl)

      later : (k : ℕ) (leaf : TypeLeaf) → slice_get ls k ≡ Some leaf → slice_get (leaves typ) (j + 1 + k) ≡ Some leaf
      later k leaf g = subst (λ m. slice_get (leaves typ) m ≡ Some leaf) (suc_plus j k) (at (suc k) leaf g)

      by : SameLives n (mention_list ls (tail ms)) (live x (set_leaves settable part.picks (part.first + (j + 1)) fs)) → (b : Bool) → may_be flip region z l ≡ b → (o : Option Source) → FitAt n flip l (λ instant. head_or (lone []) (has instant)) (head_or [] ms) o
          → SameLives n (mention_list (l ∷ ls) ms) (live x (set_one settable part.picks (part.first + j) o ++ set_leaves settable part.picks (part.first + j + 1) fs))
      by rest false t o fit =
          let alone = quiet_one j l (λ instant. head_or (lone []) (has instant)) (head_or [] ms) o e fit t in
          subst (λ told. SameLives n told (live x (set_one settable part.picks (part.first + j) o ++ set_leaves settable part.picks (part.first + j + 1) fs))) (sym (mention_none l ls ms t))
          (subst (SameLives n (mention_list ls (tail ms)))
          (sym (live-append x (set_one settable part.picks (part.first + j) o) (set_leaves settable part.picks (part.first + j + 1) fs) (inr alone.live) ∙ ap (λ p. p ++ live x (set_leaves settable part.picks (part.first + j + 1) fs)) alone.live))
          (subst (λ m. SameLives n (mention_list ls (tail ms)) (live x (set_leaves settable part.picks m fs))) (plus_suc part.first j 0) rest))
      by rest true t None fit = absurd (true≢false (sym (and_parts (is_turned flip l) (list_any (λ at. same_leaf at z) (leaves_at region l.path)) t).0 ∙ fit))
      by rest true t (Some s) fit =
          let here = named_behind j l e (and_parts (is_turned flip l) (list_any (λ at. same_leaf at z) (leaves_at region l.path)) t).1 in
          let still = quiet ls (λ instant. tail (has instant)) (tail ms) fs (j + 1) all.1 (λ k leaf g. (later k leaf g, silent k leaf (later k leaf g) here (may_be flip region z leaf) refl)) in
          let alone = subst (λ m. LeavesAlone (set_leaves settable part.picks m fs) x) (plus_suc part.first j 0) still.0 in
          let head = set_each settable s.expr (targets part.picks (part.first + j)) in
          subst (λ told. SameLives n told (live x (head ++ set_leaves settable part.picks (part.first + j + 1) fs))) (sym (mention_here l ls ms t ∙ ap (λ q. (region.indices ++ head_or [] ms) ∷ q) still.1))
          (subst (SameLives n ((region.indices ++ head_or [] ms) ∷ []))
          (sym (live-append x head (set_leaves settable part.picks (part.first + j + 1) fs) (inl alone.certain) ∙ (ap (λ q. live x head ++ q) alone.live ∙ none_behind (live x head))))
          (leaf_lives j (head_or [] ms) s (behind_chosen j l here) fit.reads))
        where
          silent : (k : ℕ) (leaf : TypeLeaf) → slice_get (leaves typ) (j + 1 + k) ≡ Some leaf → Behind l j → (b : Bool) → may_be flip region z leaf ≡ b → may_be flip region z leaf ≡ false
          silent k leaf g here true q =
              let there = named_behind (j + 1 + k) leaf g (and_parts (is_turned flip leaf) (list_any (λ at. same_leaf at z) (leaves_at region leaf.path)) q).1 in
              absurd (never j k (behind_once j (j + 1 + k) l leaf e g here there))
            where
              never : (j k : ℕ) → j ≡ j + 1 + k → ⊥
              never j k e = omega (arith, e)
          silent k leaf g here false q = q

  -- Certain

  or_nothing : (b : Bool) → (b || false) ≡ b
  or_nothing true = refl
  or_nothing false = refl

  static_certain : part.picks ≡ [] → (ls : List TypeLeaf) (has : Instant → List Value) (ms : List (List Leaf)) (fits : List (Option Source)) (j : ℕ) → FitsAll n flip ls has ms fits
      → ((k : ℕ) (leaf : TypeLeaf) → slice_get ls k ≡ Some leaf → slice_get (leaves typ) (j + k) ≡ Some leaf)
      → is_certain x (set_leaves settable [] (part.first + j) fits) ≡ list_any (may_be flip region z) ls
  static_certain none [] has ms [] j all at = refl
  static_certain none [] has ms (f ∷ fs) j all at = absurd all
  static_certain none (l ∷ ls) has ms [] j all at = absurd all
  static_certain none (l ∷ ls) has ms (f ∷ fs) j all at =
      certain-append x (set_one settable [] (part.first + j) f) (set_leaves settable [] (part.first + j + 1) fs)
      ∙ ap₂ (λ a b. a || b) (here f all.0)
      (ap (λ m. is_certain x (set_leaves settable [] m fs)) (sym (plus_suc part.first j 0))
      ∙ static_certain none ls (λ instant. tail (has instant)) (tail ms) fs (j + 1) all.1 (λ k leaf g. subst (λ m. slice_get (leaves typ) m ≡ Some leaf) (suc_plus j k) (at (suc k) leaf g)))
    where
      e : slice_get (leaves typ) j ≡ Some l
      e = subst (λ m. slice_get (leaves typ) m ≡ Some l) (plus_none j) (at 0 l refl)

      here : (o : Option Source) → FitAt n flip l (λ instant. head_or (lone []) (has instant)) (head_or [] ms) o → is_certain x (set_one settable [] (part.first + j) o) ≡ may_be flip region z l
      here None t = sym (ap (λ b. b && list_any (λ at. same_leaf at z) (leaves_at region l.path)) t)
      here (Some s) fit =
          one_certain settable s.expr x may (part.first + j)
          ∙ (bool_same (part.first + j == x) (list_any (λ at. same_leaf at z) (leaves_at region l.path))
          (λ t. behind_named j l (chosen_behind j l e (subst (λ ps. Contains (choices ps (part.first + j)) x) (sym none) (subst (Contains ((part.first + j) ∷ [])) (numbers_equal (part.first + j) x t) (the_one (part.first + j))))))
          (λ t. ap (λ m. m == x) (only_one (part.first + j) x (subst (λ ps. Contains (choices ps (part.first + j)) x) none (behind_chosen j l (named_behind j l e t)))) ∙ same_number x)
          ∙ sym (ap (λ b. b && list_any (λ at. same_leaf at z) (leaves_at region l.path)) fit.turned))

  dynamic_certain : (pick : Pick) (picks : List Pick) (fits : List (Option Source)) (number : ℕ) → is_certain x (set_leaves settable (pick ∷ picks) number fits) ≡ false
  dynamic_certain pick picks [] number = refl
  dynamic_certain pick picks (f ∷ fs) number =
      certain-append x (set_one settable (pick ∷ picks) number f) (set_leaves settable (pick ∷ picks) (number + 1) fs) ∙ ap₂ (λ a b. a || b) (here f) (dynamic_certain pick picks fs (number + 1))
    where
      here : (o : Option Source) → is_certain x (set_one settable (pick ∷ picks) number o) ≡ false
      here None = refl
      here (Some s) = each_uncertain settable s.expr x (targets (pick ∷ picks) number) (λ t c. dynamic_targets pick picks number t c)

  pub certain_all : (has : Instant → List Value) (ms : List (List Leaf)) (fits : List (Option Source)) → FitsAll n flip (leaves typ) has ms fits
      → is_certain x (set_leaves settable part.picks part.first fits) ≡ surely_names flip (Some region) z
  certain_all has ms fits all = by part.picks refl
    where
      by : (picks : List Pick) → part.picks ≡ picks → is_certain x (set_leaves settable part.picks part.first fits) ≡ surely_names flip (Some region) z
      by [] e =
          ap₂ (λ ps m. is_certain x (set_leaves settable ps m fits)) e (sym (plus_none part.first))
          ∙ (static_certain e (leaves typ) has ms fits 0 all (λ k leaf g. subst (λ m. slice_get (leaves typ) m ≡ Some leaf) (none_plus k) g)
          ∙ (ap (λ t. list_any (may_be flip region z) (leaves t)) (sym p.region_type) ∙ ap (λ d. not d && list_any (may_be flip region z) (leaves region.typ)) (sym (p.dynamic ∙ ap is_dynamic e))))
        where
          none_plus : (k : ℕ) → k ≡ 0 + k
          none_plus k = omega arith
      by (pick ∷ picks) e =
          ap (λ ps. is_certain x (set_leaves settable ps part.first fits)) e
          ∙ (dynamic_certain pick picks fits part.first ∙ ap (λ d. not d && list_any (may_be flip region z) (leaves region.typ)) (sym (p.dynamic ∙ ap is_dynamic e)))
