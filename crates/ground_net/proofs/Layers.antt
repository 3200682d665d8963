-- Ground expressions: induction, and what each of them has.
use Rattle.std.proofs.Common.{◌≡◌, ℕ, List, [], ◌∷◌, ◌++◌, map, refl, sym, subst, ap, ap₂, ◌∙◌, arith}
use Rattle.std.specs.Prelude.{Contains}
use Rattle.std.specs.List.{AllByRecursion}
use Rattle.std.proofs.lemmas.Grind.{common_steps}
use Rattle.std.proofs.lemmas.List.{map-append}
use Rattle.std.proofs.lemmas.List.Concat.{flat_map-cons}
use Rattle.std.proofs.lemmas.List.Elements.{Contains-append_left, Contains-append_right}
use Rattle.bit_words.specs.declared.value.Kind.{Kind}
use Rattle.bit_words.specs.declared.value.Value.{Value}
use Rattle.bit_words.specs.Values.{integer_of}
use Rattle.prim_ops.specs.declared.operation.PrimOp.{PrimOp}
use Rattle.prim_ops.specs.Values.{fitted, lone, operation}
use Rattle.ground_net.specs.declared.ground.Ground.{Ground, ind-Ground, roll-Ground, map-Ground, the_lemmas}
use Rattle.ground_net.specs.declared.ground.Ground.TheVariants.{Const, Leaf, Op, Mux, Select, Indexed, Load, Fit, rolls-Const, rolls-Leaf, rolls-Op, rolls-Mux, rolls-Select, rolls-Indexed, rolls-Load, rolls-Fit}
use Rattle.ground_net.specs.declared.ground.Ground.TheOpen.{Ground-F}
use Rattle.ground_net.specs.Grounds.{Instant, value, mentions, joined, chosen, selected, place, indexed, loaded}
use Rattle.ground_net.specs.Renumbering.{with_numbers, seen_by}

module _ (P : Ground → Type 0) (constant : (v : Value) → P (Const v)) (leaf : (x : ℕ) → P (Leaf x))
    (op : (prim : PrimOp) (operands : List Ground) (params : List ℕ) → AllByRecursion P operands → P (Op prim operands params))
    (mux : (items : List Ground) → AllByRecursion P items → P (Mux items))
    (select : (index items : List Ground) → AllByRecursion P index → AllByRecursion P items → P (Select index items))
    (index : (numbers : List ℕ) (indices : List Ground) (lengths : List ℕ) → AllByRecursion P indices → P (Indexed numbers indices lengths))
    (load : (m k : ℕ) (items : List Ground) → AllByRecursion P items → P (Load m k items))
    (fit : (kind : Kind) (width : ℕ) (items : List Ground) → AllByRecursion P items → P (Fit kind width items)) where
  parts_all : (ys : List ((g : Ground) × P g)) → AllByRecursion P (map (λ y. y.0) ys)
  parts_all [] = tt
  parts_all (y ∷ ys) = (y.1, parts_all ys)

  -- what holds of each expression whose parts it holds of holds of every expression
  pub ground_induction : (g : Ground) → P g
  ground_induction = ind-Ground P (λ x y e. elim y as (λ y. map-Ground _ Ground (λ e'. e'.0) y ≡ x → P (roll-Ground x)) [
    | Ground-F.Const v ↦ λ e. rw (← e) (subst P (sym (rolls-Const v)) (constant v))
    | Ground-F.Leaf n ↦ λ e. rw (← e) (subst P (sym (rolls-Leaf n)) (leaf n))
    | Ground-F.Op prim ys params ↦ λ e. rw (← e) (subst P (sym (rolls-Op prim (map (λ y. y.0) ys) params)) (op prim (map (λ y. y.0) ys) params (parts_all ys)))
    | Ground-F.Mux ys ↦ λ e. rw (← e) (subst P (sym (rolls-Mux (map (λ y. y.0) ys))) (mux (map (λ y. y.0) ys) (parts_all ys)))
    | Ground-F.Select zs ys ↦ λ e. rw (← e) (subst P (sym (rolls-Select (map (λ y. y.0) zs) (map (λ y. y.0) ys))) (select (map (λ y. y.0) zs) (map (λ y. y.0) ys) (parts_all zs) (parts_all ys)))
    | Ground-F.Indexed ns ys ls ↦ λ e. rw (← e) (subst P (sym (rolls-Indexed ns (map (λ y. y.0) ys) ls)) (index ns (map (λ y. y.0) ys) ls (parts_all ys)))
    | Ground-F.Load m k ys ↦ λ e. rw (← e) (subst P (sym (rolls-Load m k (map (λ y. y.0) ys))) (load m k (map (λ y. y.0) ys) (parts_all ys)))
    | Ground-F.Fit kind width ys ↦ λ e. rw (← e) (subst P (sym (rolls-Fit kind width (map (λ y. y.0) ys))) (fit kind width (map (λ y. y.0) ys) (parts_all ys)))
  ] e)

pub maps : {X Y Z : Type 0} (g : Y → Z) (h : X → Y) (xs : List X) → map g (map h xs) ≡ map (λ x. g (h x)) xs
maps g h [] = refl
maps g h (x ∷ xs) = ap (λ zs. g (h x) ∷ zs) (maps g h xs)

-- the values of some expressions
abbrev pub values : List Ground → Instant → List Value
values items instant = map (λ g. value g instant) items

pub value-Const : (v : Value) (instant : Instant) → value (Const v) instant ≡ v
value-Const v instant = grind (arith, common_steps, the_lemmas)

pub value-Leaf : (x : ℕ) (instant : Instant) → value (Leaf x) instant ≡ instant.leaf x
value-Leaf x instant = grind (arith, common_steps, the_lemmas)

pub value-Op : (prim : PrimOp) (operands : List Ground) (params : List ℕ) (instant : Instant) → value (Op prim operands params) instant ≡ operation prim (values operands instant) params
value-Op prim operands params instant = grind (arith, common_steps, the_lemmas, maps)

pub value-Mux : (items : List Ground) (instant : Instant) → value (Mux items) instant ≡ chosen (values items instant)
value-Mux items instant = grind (arith, common_steps, the_lemmas, maps)

pub value-Select : (index items : List Ground) (instant : Instant) → value (Select index items) instant ≡ selected (integer_of (lone (values index instant))) (values items instant)
value-Select index items instant = grind (arith, common_steps, the_lemmas, maps)

pub value-Indexed : (ns : List ℕ) (is : List Ground) (ls : List ℕ) (instant : Instant) → value (Indexed ns is ls) instant ≡ indexed (place (map integer_of (values is instant)) ls) (map instant.leaf ns)
value-Indexed ns is ls instant = grind (arith, common_steps, the_lemmas, maps)

pub value-Load : (m k : ℕ) (items : List Ground) (instant : Instant) → value (Load m k items) instant ≡ loaded (instant.load m k) (values items instant)
value-Load m k items instant = grind (arith, common_steps, the_lemmas, maps)

pub value-Fit : (kind : Kind) (width : ℕ) (items : List Ground) (instant : Instant) → value (Fit kind width items) instant ≡ fitted kind width (integer_of (lone (values items instant)))
value-Fit kind width items instant = grind (arith, common_steps, the_lemmas, maps)

-- what some expressions mention
abbrev pub all_mentions : List Ground → List ℕ
all_mentions items = joined (map mentions items)

pub mentions-Const : (v : Value) → mentions (Const v) ≡ []
mentions-Const v = grind (arith, common_steps, the_lemmas)

pub mentions-Leaf : (x : ℕ) → mentions (Leaf x) ≡ x ∷ []
mentions-Leaf x = grind (arith, common_steps, the_lemmas)

pub mentions-Op : (prim : PrimOp) (operands : List Ground) (params : List ℕ) → mentions (Op prim operands params) ≡ all_mentions operands
mentions-Op prim operands params = grind (arith, common_steps, the_lemmas, maps)

pub mentions-Mux : (items : List Ground) → mentions (Mux items) ≡ all_mentions items
mentions-Mux items = grind (arith, common_steps, the_lemmas, maps)

pub mentions-Select : (index items : List Ground) → mentions (Select index items) ≡ all_mentions index ++ all_mentions items
mentions-Select index items = grind (arith, common_steps, the_lemmas, maps)

pub mentions-Indexed : (ns : List ℕ) (is : List Ground) (ls : List ℕ) → mentions (Indexed ns is ls) ≡ all_mentions is ++ ns
mentions-Indexed ns is ls = grind (arith, common_steps, the_lemmas, maps)

pub mentions-Load : (m k : ℕ) (items : List Ground) → mentions (Load m k items) ≡ all_mentions items
mentions-Load m k items = grind (arith, common_steps, the_lemmas, maps)

pub mentions-Fit : (kind : Kind) (width : ℕ) (items : List Ground) → mentions (Fit kind width items) ≡ all_mentions items
mentions-Fit kind width items = grind (arith, common_steps, the_lemmas, maps)

-- other numbers

abbrev all_renumbered : (ℕ → ℕ) → List Ground → List Ground
all_renumbered number items = map (with_numbers number) items

renumbered-Const : (number : ℕ → ℕ) (v : Value) → with_numbers number (Const v) ≡ Const v
renumbered-Const number v = grind (arith, common_steps, the_lemmas)

renumbered-Leaf : (number : ℕ → ℕ) (x : ℕ) → with_numbers number (Leaf x) ≡ Leaf (number x)
renumbered-Leaf number x = grind (arith, common_steps, the_lemmas)

renumbered-Op : (number : ℕ → ℕ) (prim : PrimOp) (operands : List Ground) (params : List ℕ) → with_numbers number (Op prim operands params) ≡ Op prim (all_renumbered number operands) params
renumbered-Op number prim operands params = grind (arith, common_steps, the_lemmas, maps)

renumbered-Mux : (number : ℕ → ℕ) (items : List Ground) → with_numbers number (Mux items) ≡ Mux (all_renumbered number items)
renumbered-Mux number items = grind (arith, common_steps, the_lemmas, maps)

renumbered-Select : (number : ℕ → ℕ) (index items : List Ground) → with_numbers number (Select index items) ≡ Select (all_renumbered number index) (all_renumbered number items)
renumbered-Select number index items = grind (arith, common_steps, the_lemmas, maps)

renumbered-Indexed : (number : ℕ → ℕ) (ns : List ℕ) (is : List Ground) (ls : List ℕ) → with_numbers number (Indexed ns is ls) ≡ Indexed (map number ns) (all_renumbered number is) ls
renumbered-Indexed number ns is ls = grind (arith, common_steps, the_lemmas, maps)

renumbered-Load : (number : ℕ → ℕ) (m k : ℕ) (items : List Ground) → with_numbers number (Load m k items) ≡ Load m k (all_renumbered number items)
renumbered-Load number m k items = grind (arith, common_steps, the_lemmas, maps)

renumbered-Fit : (number : ℕ → ℕ) (kind : Kind) (width : ℕ) (items : List Ground) → with_numbers number (Fit kind width items) ≡ Fit kind width (all_renumbered number items)
renumbered-Fit number kind width items = grind (arith, common_steps, the_lemmas, maps)

module _ (number : ℕ → ℕ) (instant : Instant) where
  abbrev Same : Ground → Type 0
  Same g = value (with_numbers number g) instant ≡ value g (seen_by number instant)

  values_same : (gs : List Ground) → AllByRecursion Same gs → values (all_renumbered number gs) instant ≡ values gs (seen_by number instant)
  values_same [] h = refl
  values_same (g ∷ gs) h = ap₂ (λ v vs. v ∷ vs) h.0 (values_same gs h.1)

  -- an expression with other numbers has the value that is seen by them
  pub renumbered_value : (g : Ground) → value (with_numbers number g) instant ≡ value g (seen_by number instant)
  renumbered_value = ground_induction Same
      (λ v. ap (λ g. value g instant) (renumbered-Const number v) ∙ value-Const v instant ∙ sym (value-Const v (seen_by number instant)))
      (λ x. ap (λ g. value g instant) (renumbered-Leaf number x) ∙ value-Leaf (number x) instant ∙ sym (value-Leaf x (seen_by number instant)))
      (λ prim gs params h. ap (λ g. value g instant) (renumbered-Op number prim gs params) ∙ (value-Op prim (all_renumbered number gs) params instant
      ∙ (ap (λ vs. operation prim vs params) (values_same gs h) ∙ sym (value-Op prim gs params (seen_by number instant)))))
      (λ gs h. ap (λ g. value g instant) (renumbered-Mux number gs) ∙ (value-Mux (all_renumbered number gs) instant
      ∙ (ap chosen (values_same gs h) ∙ sym (value-Mux gs (seen_by number instant)))))
      (λ is gs i h. ap (λ g. value g instant) (renumbered-Select number is gs) ∙ (value-Select (all_renumbered number is) (all_renumbered number gs) instant
      ∙ (ap₂ (λ us vs. selected (integer_of (lone us)) vs) (values_same is i) (values_same gs h) ∙ sym (value-Select is gs (seen_by number instant)))))
      (λ ns is ls i. ap (λ g. value g instant) (renumbered-Indexed number ns is ls) ∙ (value-Indexed (map number ns) (all_renumbered number is) ls instant
      ∙ (ap₂ (λ us vs. indexed (place (map integer_of us) ls) vs) (values_same is i) (maps instant.leaf number ns) ∙ sym (value-Indexed ns is ls (seen_by number instant)))))
      (λ m k gs h. ap (λ g. value g instant) (renumbered-Load number m k gs) ∙ (value-Load m k (all_renumbered number gs) instant
      ∙ (ap (loaded (instant.load m k)) (values_same gs h) ∙ sym (value-Load m k gs (seen_by number instant)))))
      (λ kind width gs h. ap (λ g. value g instant) (renumbered-Fit number kind width gs) ∙ (value-Fit kind width (all_renumbered number gs) instant
      ∙ (ap (λ vs. fitted kind width (integer_of (lone vs))) (values_same gs h) ∙ sym (value-Fit kind width gs (seen_by number instant)))))

module _ (number : ℕ → ℕ) where
  abbrev Told : Ground → Type 0
  Told g = mentions (with_numbers number g) ≡ map number (mentions g)

  all_told : (gs : List Ground) → AllByRecursion Told gs → all_mentions (all_renumbered number gs) ≡ map number (all_mentions gs)
  all_told [] h = refl
  all_told (g ∷ gs) h = ap₂ (λ xs ys. xs ++ ys) h.0 (all_told gs h.1) ∙ sym (map-append number (mentions g) (all_mentions gs))

  -- and it mentions the other numbers
  pub renumbered_mentions : (g : Ground) → mentions (with_numbers number g) ≡ map number (mentions g)
  renumbered_mentions = ground_induction Told
      (λ v. ap mentions (renumbered-Const number v) ∙ mentions-Const v ∙ ap (map number) (sym (mentions-Const v)))
      (λ x. ap mentions (renumbered-Leaf number x) ∙ mentions-Leaf (number x) ∙ ap (map number) (sym (mentions-Leaf x)))
      (λ prim gs params h. ap mentions (renumbered-Op number prim gs params) ∙ (mentions-Op prim (all_renumbered number gs) params ∙ (all_told gs h ∙ ap (map number) (sym (mentions-Op prim gs params)))))
      (λ gs h. ap mentions (renumbered-Mux number gs) ∙ (mentions-Mux (all_renumbered number gs) ∙ (all_told gs h ∙ ap (map number) (sym (mentions-Mux gs)))))
      (λ is gs i h. ap mentions (renumbered-Select number is gs) ∙ (mentions-Select (all_renumbered number is) (all_renumbered number gs) ∙ (ap₂ (λ xs ys. xs ++ ys) (all_told is i) (all_told gs h)
      ∙ (sym (map-append number (all_mentions is) (all_mentions gs)) ∙ ap (map number) (sym (mentions-Select is gs))))))
      (λ ns is ls i. ap mentions (renumbered-Indexed number ns is ls) ∙ (mentions-Indexed (map number ns) (all_renumbered number is) ls ∙ (ap (λ xs. xs ++ map number ns) (all_told is i)
      ∙ (sym (map-append number (all_mentions is) ns) ∙ ap (map number) (sym (mentions-Indexed ns is ls))))))
      (λ m k gs h. ap mentions (renumbered-Load number m k gs) ∙ (mentions-Load m k (all_renumbered number gs) ∙ (all_told gs h ∙ ap (map number) (sym (mentions-Load m k gs)))))
      (λ kind width gs h. ap mentions (renumbered-Fit number kind width gs) ∙ (mentions-Fit kind width (all_renumbered number gs) ∙ (all_told gs h ∙ ap (map number) (sym (mentions-Fit kind width gs)))))

-- Agreement

-- what a memory holds is seen alike
abbrev pub SameLoads : Instant → Instant → Type 0
SameLoads a b = (m k : ℕ) (address : Value) → a.load m k address ≡ b.load m k address

-- these leaves are seen alike
abbrev pub SameOn : Instant → Instant → List ℕ → Type 0
SameOn a b leaves = (y : ℕ) → Contains leaves y → a.leaf y ≡ b.leaf y

same_left : (a b : Instant) (xs ys : List ℕ) → SameOn a b (xs ++ ys) → SameOn a b xs
same_left a b xs ys h = λ y c. h y (Contains-append_left xs ys y c)

same_right : (a b : Instant) (xs ys : List ℕ) → SameOn a b (xs ++ ys) → SameOn a b ys
same_right a b xs ys h = λ y c. h y (Contains-append_right xs ys y c)

module _ (a b : Instant) (loads : SameLoads a b) where
  abbrev Agrees : Ground → Type 0
  Agrees g = SameOn a b (mentions g) → value g a ≡ value g b

  all_agree : (gs : List Ground) → AllByRecursion Agrees gs → SameOn a b (all_mentions gs) → values gs a ≡ values gs b
  all_agree [] h s = refl
  all_agree (g ∷ gs) h s =
      let both : SameOn a b (mentions g ++ all_mentions gs) = subst (SameOn a b) (flat_map-cons (λ l. l) (mentions g) (map mentions gs)) s in
      ap₂ (λ v vs. v ∷ vs) (h.0 (same_left a b (mentions g) (all_mentions gs) both)) (all_agree gs h.1 (same_right a b (mentions g) (all_mentions gs) both))

  leaves_same : (ns : List ℕ) → SameOn a b ns → map a.leaf ns ≡ map b.leaf ns
  leaves_same [] s = refl
  leaves_same (n ∷ ns) s = ap₂ (λ v vs. v ∷ vs) (s n (0, omega arith, refl)) (leaves_same ns (same_right a b (n ∷ []) ns s))

  loads_same : (m k : ℕ) (vs : List Value) → loaded (a.load m k) vs ≡ loaded (b.load m k) vs
  loads_same m k [] = refl
  loads_same m k (v ∷ []) = refl
  loads_same m k (address ∷ condition ∷ rest) = ap (λ v. if_loaded condition v) (loads m k address)
    where
      if_loaded : Value → Value → Value
      if_loaded condition v = loaded (λ x. v) (v ∷ condition ∷ [])

  -- an expression has one value where what it mentions is seen alike
  pub value_agrees : (g : Ground) → SameOn a b (mentions g) → value g a ≡ value g b
  value_agrees = ground_induction Agrees
      (λ v s. value-Const v a ∙ sym (value-Const v b))
      (λ x s. value-Leaf x a ∙ (subst (SameOn a b) (mentions-Leaf x) s x (0, omega arith, refl) ∙ sym (value-Leaf x b)))
      (λ prim gs params h s. value-Op prim gs params a ∙ (ap (λ vs. operation prim vs params) (all_agree gs h (subst (SameOn a b) (mentions-Op prim gs params) s)) ∙ sym (value-Op prim gs params b)))
      (λ gs h s. value-Mux gs a ∙ (ap chosen (all_agree gs h (subst (SameOn a b) (mentions-Mux gs) s)) ∙ sym (value-Mux gs b)))
      (λ is gs i h s.
      let both : SameOn a b (all_mentions is ++ all_mentions gs) = subst (SameOn a b) (mentions-Select is gs) s in
      value-Select is gs a ∙ (ap₂ (λ us vs. selected (integer_of (lone us)) vs) (all_agree is i (same_left a b (all_mentions is) (all_mentions gs) both))
      (all_agree gs h (same_right a b (all_mentions is) (all_mentions gs) both)) ∙ sym (value-Select is gs b)))
      (λ ns is ls i s.
      let both : SameOn a b (all_mentions is ++ ns) = subst (SameOn a b) (mentions-Indexed ns is ls) s in
      value-Indexed ns is ls a ∙ (ap₂ (λ us vs. indexed (place (map integer_of us) ls) vs) (all_agree is i (same_left a b (all_mentions is) ns both))
      (leaves_same ns (same_right a b (all_mentions is) ns both)) ∙ sym (value-Indexed ns is ls b)))
      (λ m k gs h s. value-Load m k gs a ∙ (ap (loaded (a.load m k)) (all_agree gs h (subst (SameOn a b) (mentions-Load m k gs) s))
      ∙ (loads_same m k (values gs b) ∙ sym (value-Load m k gs b))))
      (λ kind width gs h s. value-Fit kind width gs a ∙ (ap (λ vs. fitted kind width (integer_of (lone vs))) (all_agree gs h (subst (SameOn a b) (mentions-Fit kind width gs) s))
      ∙ sym (value-Fit kind width gs b)))
