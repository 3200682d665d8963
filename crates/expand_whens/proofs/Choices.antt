-- Drivers from ways.
use Rattle.std.proofs.Common.{◌≡◌, ℕ, ◌<◌, Bool, true, false, List, [], ◌∷◌, ◌++◌, map, length, refl, sym, ap, ap₂, ◌∙◌, subst, if◌then◌else◌, Some, None, Option, unwrap_or, append-nil, append_assoc, is_some, true≢false, ⊎_elim, inl, inr, slice_get, arith, ◌==◌}
use Rattle.std.specs.Prelude.{Contains, reverse}
use Rattle.std.specs.List.{list_all}
use Rattle.std.specs.Global.{Vec}
use Rattle.std.proofs.lemmas.List.Elements.{Contains-append_cases, Contains-append_left, Contains-append_right}
use Rattle.std.proofs.lemmas.Option.{slice_get_within}
use Rattle.bit_words.specs.declared.value.Kind.{Kind}
use Rattle.bit_words.specs.declared.value.Kind.TheVariants.{Unsigned, Signed}
use Rattle.bit_words.specs.declared.value.Value.{Value}
use Rattle.prim_ops.specs.Values.{is_one}
use Rattle.ground_net.specs.declared.ground.Ground.{Ground}
use Rattle.ground_net.specs.declared.ground.Ground.TheVariants.{Mux}
use Rattle.ground_net.specs.declared.circuit.GroundLeaf.{GroundLeaf}
use Rattle.ground_net.specs.declared.circuit.GroundStmt.{GroundStmt}
use Rattle.ground_net.specs.Grounds.{Instant, value, mentions, joined, chosen}
use Rattle.ground_net.specs.Statements.{drives, live}
use Rattle.ground_net.proofs.Layers.{value-Mux, mentions-Mux}
use Rattle.ground_net.specs.Shapes.{Shape, Table, shaped, shape as shape_in, same_shape, same_kind}
use Rattle.expand_whens.specs.declared.guard.Way.{Way}
use Rattle.ground_net.specs.StatementShapes.{is_condition, is_shaped, some_same}
use Rattle.expand_whens.specs.Ways.{Same, guard_holds, guard_mentions, guard_fits, way_fits, outcome, way_mentions, ways_mentions}
use Rattle.expand_whens.specs.Walking.{BlockWalks, BlockShapes, ways_at, is_covered}
use Rattle.expand_whens.specs.Expanding.{Drives, HasDrivers, IsChoice, Chooses, IsRest, leaf_shape}
use Rattle.expand_whens.proofs.Tests.{left_true, right_true}
use Rattle.expand_whens.proofs.Arms.{crossing_none}
use Rattle.expand_whens.proofs.Guards.{mux_one, mux_more, all_true}
use Rattle.expand_whens.proofs.Connects.{same_itself, same_number}

some_none : {A : Type 0} (x : A) → Some x ≡ None → ⊥
some_none x e = true≢false (ap is_some e)

kinds_same : (k l : Kind) → same_kind k l ≡ true → k ≡ l
kinds_same Unsigned Unsigned e = refl
kinds_same Unsigned Signed e = absurd (true≢false (sym e))
kinds_same Signed Unsigned e = absurd (true≢false (sym e))
kinds_same Signed Signed e = refl

shapes_same : (s t : Shape) → same_shape s t ≡ true → s ≡ t
shapes_same s t e = ap₂ (λ k w. shaped k w) (kinds_same s.kind t.kind (left_true _ _ e)) (same_number s.width t.width (right_true (same_kind s.kind t.kind) _ e))

-- the source of a way that is shaped
some_shape : (o t : Option Shape) (s : Shape) → t ≡ Some s → some_same o t ≡ true → o ≡ Some s
some_shape (Some a) (Some b) s e h = ap (λ u. Some u) (shapes_same a b h) ∙ e
some_shape (Some a) None s e h = absurd (true≢false (sym h))
some_shape None t s e h = absurd (true≢false (sym h))

source_shape : (table : Table) (leaf : GroundLeaf) (x : ℕ) (way : Way) → table.leaf x ≡ Some (leaf_shape leaf) → way_fits table x way ≡ true → shape_in way.source table ≡ Some (leaf_shape leaf)
source_shape table leaf x way e a = some_shape (shape_in way.source table) (table.leaf x) (leaf_shape leaf) e (right_true (guard_fits table way.guard) _ a)

shape_itself : (s : Shape) → same_shape s s ≡ true
shape_itself s = all_true (same_kind s.kind s.kind) (s.width == s.width) (kind_itself s.kind) (same_itself s.width)
  where
    kind_itself : (k : Kind) → same_kind k k ≡ true
    kind_itself Unsigned = refl
    kind_itself Signed = refl

-- what the leaf has otherwise, alone
pub choice_begin : (leaf : GroundLeaf) (x : ℕ) (rest : Ground) → IsRest leaf x rest → IsChoice leaf x [] (Mux (reverse (rest ∷ [])))
choice_begin leaf x rest r = record {
  rest = value rest;
  has = λ instant. value-Mux (rest ∷ []) instant;
  keeps = λ k instant e. r.keeps k instant;
  reads = λ y c. inr (r.reads y (subst (λ xs. Contains xs y) (mentions-Mux (rest ∷ []) ∙ append-nil (mentions rest)) c));
  all = λ y c. subst (λ xs. Contains xs y) (sym (mentions-Mux (rest ∷ []))) (Contains-append_right (mentions rest) [] y c);
  shape = λ table _ e. mux_one table rest (leaf_shape leaf) (r.shape table e);
}

-- a source without a guard, alone
pub choice_alone : (leaf : GroundLeaf) (x : ℕ) (way : Way) → way.guard ≡ None → IsChoice leaf x (way ∷ []) (Mux (reverse (way.source ∷ [])))
choice_alone leaf x way e = record {
  rest = value way.source;
  has = λ instant. value-Mux (way.source ∷ []) instant ∙ sym (ap (λ o. unwrap_or o (value way.source instant)) (told instant));
  keeps = λ k instant n. absurd (some_none (value way.source instant) (sym (told instant) ∙ n));
  reads = λ y c. inl (subst (λ xs. Contains xs y) (mentions-Mux (way.source ∷ []) ∙ sym all_of) c);
  all = λ y c. subst (λ xs. Contains xs y) (all_of ∙ sym (mentions-Mux (way.source ∷ []))) c;
  shape = λ table a e. mux_one table way.source (leaf_shape leaf) (source_shape table leaf x way e (left_true (way_fits table x way) true a));
}
  where
    told : (instant : Instant) → outcome instant (way ∷ []) None ≡ Some (value way.source instant)
    told instant = ap (λ g. if guard_holds instant g then Some (value way.source instant) else None) e

    all_of : ways_mentions (way ∷ []) ≡ mentions way.source ++ []
    all_of = ap (λ g. (guard_mentions g ++ mentions way.source) ++ []) e

-- a way before the others
pub choice_more : (leaf : GroundLeaf) (x : ℕ) (way : Way) (ways : List Way) (item : Ground) (items after : List Ground)
    → ((instant : Instant) → is_one (value item instant) ≡ guard_holds instant way.guard) → mentions item ≡ guard_mentions way.guard
    → ((table : Table) → guard_fits table way.guard ≡ true → is_condition table item ≡ true)
    → reverse after ≡ item ∷ way.source ∷ reverse items
    → IsChoice leaf x ways (Mux (reverse items)) → IsChoice leaf x (way ∷ ways) (Mux (reverse after))
choice_more leaf x way ways item items after h m f e c = subst (λ xs. IsChoice leaf x (way ∷ ways) (Mux xs)) (sym e) (record {
  rest = c.rest;
  has = λ instant. value-Mux (item ∷ way.source ∷ reverse items) instant
      ∙ (ap (λ b. if b then value way.source instant else chosen (map (λ g. value g instant) (reverse items))) (h instant)
      ∙ (ap (λ v. if guard_holds instant way.guard then value way.source instant else v) (sym (value-Mux (reverse items) instant) ∙ c.has instant)
      ∙ chosen_first (guard_holds instant way.guard) (value way.source instant) (c.rest instant) (outcome instant ways None)));
  keeps = λ k instant n. c.keeps k instant (left (guard_holds instant way.guard) (value way.source instant) (outcome instant ways None) n);
  reads = λ y d. ⊎_elim (λ first. inl (Contains-append_left (way_mentions way) (ways_mentions ways) y first))
      (λ others. ⊎_elim (λ l. inl (Contains-append_right (way_mentions way) (ways_mentions ways) y l)) (λ own. inr own) (c.reads y others))
      (Contains-append_cases (way_mentions way) (mentions (Mux (reverse items))) y (subst (λ xs. Contains xs y) leaves d));
  all = λ y d. subst (λ xs. Contains xs y) (sym leaves)
      (⊎_elim (λ first. Contains-append_left (way_mentions way) (mentions (Mux (reverse items))) y first)
      (λ others. Contains-append_right (way_mentions way) (mentions (Mux (reverse items))) y (c.all y others))
      (Contains-append_cases (way_mentions way) (ways_mentions ways) y d));
  shape = λ table a e. mux_more table item way.source (reverse items) (leaf_shape leaf) (item_fits table (left_true (way_fits table x way) _ a)) (source_shape table leaf x way e (left_true (way_fits table x way) _ a))
      (shape_itself (leaf_shape leaf)) (c.shape table (right_true (way_fits table x way) _ a) e);
})
  where
    item_fits : (table : Table) → way_fits table x way ≡ true → is_condition table item ≡ true
    item_fits table a = f table (left_true (guard_fits table way.guard) _ a)

    chosen_first : (b : Bool) (u d : Value) (o : Option Value) → (if b then u else unwrap_or o d) ≡ unwrap_or (if b then Some u else o) d
    chosen_first true u d o = refl
    chosen_first false u d o = refl

    left : (b : Bool) (u : Value) (o : Option Value) → (if b then Some u else o) ≡ None → o ≡ None
    left true u o n = absurd (some_none u n)
    left false u o n = n

    leaves : mentions (Mux (item ∷ way.source ∷ reverse items)) ≡ way_mentions way ++ mentions (Mux (reverse items))
    leaves = mentions-Mux (item ∷ way.source ∷ reverse items)
        ∙ (ap (λ xs. xs ++ (mentions way.source ++ joined (map mentions (reverse items)))) m
        ∙ (sym (append_assoc (guard_mentions way.guard) (mentions way.source) (joined (map mentions (reverse items))))
        ∙ ap (λ xs. way_mentions way ++ xs) (sym (mentions-Mux (reverse items)))))

-- a way alone, with a guard
pub choice_guarded : (leaf : GroundLeaf) (x : ℕ) (way : Way) (guard rest : Ground) (items after : List Ground) → way.guard ≡ Some guard → IsRest leaf x rest → items ≡ rest ∷ []
    → reverse after ≡ guard ∷ way.source ∷ reverse items → IsChoice leaf x (way ∷ []) (Mux (reverse after))
choice_guarded leaf x way guard rest items after e r i a =
    choice_more leaf x way [] guard items after (λ instant. sym (ap (guard_holds instant) e)) (sym (ap guard_mentions e)) (λ table p. sym (ap (guard_fits table) e) ∙ p) a
    (subst (λ xs. IsChoice leaf x [] (Mux (reverse xs))) (sym i) (choice_begin leaf x rest r))

-- the same driver in other words
pub choice_told : (leaf : GroundLeaf) (x : ℕ) (ways : List Way) (driver other : Ground) → ((instant : Instant) → value other instant ≡ value driver instant) → mentions other ≡ mentions driver
    → ((table : Table) → shape_in other table ≡ shape_in driver table)
    → IsChoice leaf x ways driver → IsChoice leaf x ways other
choice_told leaf x ways driver other v m s c = record {
  rest = c.rest;
  has = λ instant. v instant ∙ c.has instant;
  keeps = c.keeps;
  reads = λ y d. c.reads y (subst (λ xs. Contains xs y) m d);
  all = λ y d. subst (λ xs. Contains xs y) (sym m) (c.all y d);
  shape = λ table a e. s table ∙ c.shape table a e;
}

-- the ways that are left are none
pub none_left : (all left done : List Way) → all ≡ left ++ done → length left ≡ 0 → all ≡ done
none_left all [] done e n = e
none_left all (w ∷ ws) done e n = absurd (omega (arith, n))

-- what the walk of a whole body gives
pub driven : (leaf : GroundLeaf) (x : ℕ) (body : List GroundStmt) (covered : List Bool) (old new : List (Vec Way)) (newly : List ℕ) (driver : Option Ground)
    → BlockWalks [] body covered old new newly → BlockShapes [] body old new → is_covered covered x ≡ false → ways_at old x ≡ []
    → Chooses leaf x (ways_at new x) driver → Drives leaf x body driver
driven leaf x body covered old new newly driver w s u none c = told driver c
  where
    outcome_is : (instant : Instant) → outcome instant (ways_at new x) None ≡ drives instant x body
    outcome_is instant = (w.made x u).leaves instant None ∙ ap (λ ws. outcome instant ws (drives instant x body)) none

    reads_is : Same (ways_mentions (ways_at new x)) (joined (live x body))
    reads_is = subst (λ ls. Same (ways_mentions (ways_at new x)) (joined ls)) (crossing_none (live x body)) (subst (λ ws. Same (ways_mentions (ways_at new x)) (ways_mentions ws ++ joined (map (λ leaves. [] ++ leaves) (live x body)))) none (w.made x u).reads)

    ways_fit : (table : Table) → is_shaped table body ≡ true → list_all (way_fits table x) (ways_at new x) ≡ true
    ways_fit table a = s.each table refl a x (ap (list_all (way_fits table x)) none)

    told : (driver : Option Ground) → Chooses leaf x (ways_at new x) driver → Drives leaf x body driver
    told None c = record {
      never = λ instant. sym (outcome_is instant) ∙ ap (λ ws. outcome instant ws None) c;
      all = λ y m. in_none y (subst (λ ws. Contains (ways_mentions ws) y) c (reads_is.back y m));
    }
      where
        in_none : (y : ℕ) → Contains {X = ℕ} [] y → ⊥
        in_none y (k, lt, e) = omega arith
    told (Some d) c = record {
      has = λ instant v e. c.has instant ∙ ap (λ o. unwrap_or o (c.rest instant)) (outcome_is instant ∙ e);
      keeps = λ k instant e. c.has instant ∙ (ap (λ o. unwrap_or o (c.rest instant)) (outcome_is instant ∙ e) ∙ c.keeps k instant (outcome_is instant ∙ e));
      reads = λ y m. ⊎_elim (λ l. inl (reads_is.forth y l)) (λ k. inr k) (c.reads y m);
      all = λ y m. c.all y (reads_is.back y m);
      shape = λ table a e. c.shape table (ways_fit table a) e;
    }

pub all_driven : (leaves : List GroundLeaf) (body : List GroundStmt) (covered : List Bool) (old new : List (Vec Way)) (newly : List ℕ) (drivers : List (Option Ground))
    → BlockWalks [] body covered old new newly → BlockShapes [] body old new → ((x : ℕ) → x < length leaves → is_covered covered x ≡ false) → ((x : ℕ) → ways_at old x ≡ [])
    → length drivers ≡ length leaves
    → ((x : ℕ) (leaf : GroundLeaf) (driver : Option Ground) → slice_get leaves x ≡ Some leaf → slice_get drivers x ≡ Some driver → Chooses leaf x (ways_at new x) driver)
    → HasDrivers leaves body drivers
all_driven leaves body covered old new newly drivers w s u none n each = record {
  counted = n;
  each = λ x leaf driver l d. driven leaf x body covered old new newly driver w s (u x (slice_get_within leaves x leaf l)) (none x) (each x leaf driver l d);
}
