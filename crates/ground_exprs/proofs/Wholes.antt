-- The sources of a part.
use Rattle.std.proofs.Common.{◌≡◌, ℕ, zero, suc, ◌+◌, ◌≤◌, ◌<◌, min, nat_le, Bool, true, false, List, [], ◌∷◌, ◌++◌, map, length, get_or, slice_get, Option, Some, None, option_map, refl, sym, ap, ap₂, ◌∙◌, subst, arith, ◌⊎◌, inl, inr, ⊎_elim}
use Rattle.std.specs.Prelude.{Contains}
use Rattle.std.specs.List.{list_all}
use Rattle.std.proofs.lemmas.Grind.{common_steps}
use Rattle.std.proofs.lemmas.Bool.Decides.{nat_tests}
use Rattle.std.proofs.lemmas.List.Elements.{Contains-append_left, Contains-append_right, Contains-append_cases}
use Rattle.fir_types.specs.declared.fir_type.FirType.{FirType}
use Rattle.fir_types.specs.declared.leaf.TypeLeaf.{TypeLeaf}
use Rattle.fir_types.specs.declared.leaf.PathStep.{PathStep}
use Rattle.fir_types.specs.Leaves.{leaves}
use Rattle.prim_ops.specs.Values.{fitted}
use Rattle.ground_net.specs.Grounds.{Instant, value, mentions}
use Rattle.ground_net.specs.Shapes.{shaped, HasShapes, shape}
use Rattle.ground_net.specs.Cycles.{integer_at}
use Rattle.ground_net.proofs.Shaping.{both_true}
use Rattle.fir_meaning.specs.Components.{width_of_leaf}
use Rattle.fir_meaning.specs.Values.{Spot, values_at, fitted_to}
use Rattle.fir_meaning.specs.Mentions.{Region, leaves_at}
use Rattle.fir_meaning.specs.WellTyped.{leaf_shape}
use Rattle.ground_exprs.specs.declared.part.Part.{Part}
use Rattle.ground_exprs.specs.Parts.{picked, choices, are_indices}
use Rattle.ground_exprs.specs.Numbers.{Numbering, Reaches, SameLeaves, IsPart, scene_seen}
use Rattle.fir_meaning.specs.WellTyped.{is_narrow}
use Rattle.ground_exprs.proofs.Members.{none_some, some_same, from_place, at_place, in_map, from_map}
use Rattle.ground_exprs.proofs.Onwards.{picked_moved, choice_moved, choice_back}
use Rattle.ground_exprs.proofs.Narrow.{narrow}
use Rattle.ground_exprs.specs.declared.source.Source.{Source}
use Rattle.ground_exprs.specs.Sources.{told, source_values, ReadEach, IsOfLeaf, AreOfLeaves, AreOfPart}
use Rattle.ground_exprs.proofs.Lists.{maps_same}

pub of_none : (typ : FirType) (part : Part) → AreOfLeaves typ part 0 []
of_none typ part = record { counted = refl; each = λ j leaf s e f. absurd (none_some f) }

pub get_pushed : {A : Type 0} (xs : List A) (x : A) (j : ℕ) (y : A) → slice_get (xs ++ x ∷ []) j ≡ Some y → (slice_get xs j ≡ Some y) ⊎ ((j ≡ length xs) × (x ≡ y))
get_pushed [] x zero y e = inr (refl, some_same e)
get_pushed [] x (suc j) y e = absurd (none_some e)
get_pushed (z ∷ zs) x zero y e = inl e
get_pushed (z ∷ zs) x (suc j) y e = ⊎_elim (λ l. inl l) (λ r. inr (ap suc r.0, r.1)) (get_pushed zs x j y e)

pub of_more : (typ : FirType) (part : Part) (k number : ℕ) (sources after : List Source) (leaf : TypeLeaf) (s : Source) → AreOfLeaves typ part k sources → slice_get (leaves typ) k ≡ Some leaf
    → number ≡ part.first + k → IsOfLeaf part.picks number leaf s → after ≡ sources ++ s ∷ [] → AreOfLeaves typ part (k + 1) after
of_more typ part k number sources after leaf s so_far at n here is = subst (AreOfLeaves typ part (k + 1)) (sym is) (record {
  counted = longer sources s k so_far.counted;
  each = λ j l t e f. ⊎_elim (λ old. so_far.each j l t e old) (λ new. last j l t e new.0 new.1) (get_pushed sources s j t f);
})
  where
    longer : (xs : List Source) (x : Source) (k : ℕ) → length xs ≡ k → length (xs ++ x ∷ []) ≡ k + 1
    longer xs x k e = grind (arith, common_steps, e)

    last : (j : ℕ) (l : TypeLeaf) (t : Source) → slice_get (leaves typ) j ≡ Some l → j ≡ length sources → s ≡ t → IsOfLeaf part.picks (part.first + j) l t
    last j l t e m same =
        let place : k ≡ j = sym (m ∙ so_far.counted) in
        let leaf_is : leaf ≡ l = some_same (sym at ∙ (ap (slice_get (leaves typ)) place ∙ e)) in
        subst (IsOfLeaf part.picks (part.first + j) l) same (subst (λ x. IsOfLeaf part.picks (part.first + j) x s) leaf_is
        (subst (λ m. IsOfLeaf part.picks m leaf s) (n ∙ ap (λ m. part.first + m) place) here))

-- What the sources of a part have

all_there : {A : Type 0} (p : A → Bool) (xs : List A) (j : ℕ) (x : A) → list_all p xs ≡ true → slice_get xs j ≡ Some x → p x ≡ true
all_there p [] j x h e = absurd (none_some e)
all_there p (y ∷ ys) zero x h e = ap p (sym (some_same e)) ∙ (both_true (p y) (list_all p ys) h).0
all_there p (y ∷ ys) (suc j) x h e = all_there p ys j x (both_true (p y) (list_all p ys) h).1 e

narrow_leaf : (typ : FirType) (j : ℕ) (leaf : TypeLeaf) → is_narrow typ ≡ true → slice_get (leaves typ) j ≡ Some leaf → width_of_leaf leaf ≤ 128
narrow_leaf typ j leaf h e =
    let test : nat_le (width_of_leaf leaf) 128 ≡ true = all_there (λ l. nat_le (width_of_leaf l) 128) (leaves typ) j leaf (narrow typ h) e in
    grind (arith, common_steps, nat_tests, test)

min_is : (w : ℕ) → w ≤ 128 → min w 128 ≡ w
min_is w h = omega arith

pub told_shapes : (typ : FirType) (part : Part) (sources : List Source) → is_narrow typ ≡ true → AreOfPart typ part sources → map leaf_shape (leaves typ) ≡ map told sources
told_shapes typ part sources thin all = maps_same leaf_shape told (leaves typ) sources all.counted (λ j leaf s e f.
    let at = all.each j leaf s e f in
    sym (ap₂ (λ k w. shaped k w) at.kind (at.width ∙ min_is (width_of_leaf leaf) (narrow_leaf typ j leaf thin e))))

module _ (n : Numbering) (types : ℕ → FirType) (region : Region) (spot : Instant → Spot) (typ : FirType) (part : Part) (sources : List Source)
    (p : IsPart n region spot typ part) (i : are_indices n.table part.picks ≡ true) (all : AreOfPart typ part sources) where
  told_is : (j : ℕ) (leaf : TypeLeaf) (s : Source) → slice_get (leaves typ) j ≡ Some leaf → slice_get sources j ≡ Some s → told s ≡ leaf_shape leaf
  told_is j leaf s e f =
      let at = all.each j leaf s e f in
      ap₂ (λ k w. shaped k w) at.kind (at.width ∙ min_is (width_of_leaf leaf) (narrow_leaf typ j leaf p.narrow e))

  in_table : (j : ℕ) (leaf : TypeLeaf) (s : Source) → slice_get (leaves typ) j ≡ Some leaf → slice_get sources j ≡ Some s → (x : ℕ) → Contains (choices part.picks (part.first + j)) x
      → n.table.leaf x ≡ Some (told s)
  in_table j leaf s e f x c =
      let back = choice_back part.picks part.first j x c in
      let at = p.each back.0 back.1 in
      ap n.table.leaf (sym back.2) ∙ (at.2.shapes j leaf e ∙ ap Some (sym (told_is j leaf s e f)))

  pub part_shapes : map (λ s. shape s.expr n.table) sources ≡ map (λ s. Some (told s)) sources
  part_shapes = each sources (λ j s f. one j s f)
    where
      one : (j : ℕ) (s : Source) → slice_get sources j ≡ Some s → shape s.expr n.table ≡ Some (told s)
      one j s f =
          let there = Rattle.ground_exprs.proofs.Members.item_at (leaves typ) j (subst (λ m. j < m) all.counted (Rattle.ground_exprs.proofs.Members.place_within sources j s f)) in
          (all.each j there.0 s there.1 f).shape n.table i (in_table j there.0 s there.1 f)

      each : (ss : List Source) → ((j : ℕ) (s : Source) → slice_get ss j ≡ Some s → shape s.expr n.table ≡ Some (told s)) → map (λ s. shape s.expr n.table) ss ≡ map (λ s. Some (told s)) ss
      each [] h = refl
      each (s ∷ ss) h = ap₂ (λ a more. a ∷ more) (h 0 s refl) (each ss (λ j. h (suc j)))

  pub part_values : (instant : Instant) → HasShapes n.table instant → source_values sources instant ≡ values_at (scene_seen types n instant) (spot instant) (spot instant).way
  part_values instant h = by_way (spot instant).way (picked instant part.picks part.first) refl (p.reaches instant h)
    where
      by_way : (o : Option (List PathStep)) (q : Option ℕ) → picked instant part.picks part.first ≡ q → Reaches n region.component typ o q
          → source_values sources instant ≡ values_at (scene_seen types n instant) (spot instant) o
      by_way None None e r = sym (maps_same (λ leaf. fitted_to leaf (Rattle.std.proofs.Common.pos 0)) (λ (s : Source). value s.expr instant) (leaves (spot instant).typ) sources
          (all.counted ∙ ap (λ t. length (leaves t)) (sym (p.spot_type instant)))
          (λ j leaf s f g.
          let f2 = ap (λ t. slice_get (leaves t) j) (sym (p.spot_type instant)) ∙ f in
          let at = all.each j leaf s f2 g in
          let none : picked instant part.picks (part.first + j) ≡ None = picked_moved instant part.picks part.first j ∙ ap (option_map (λ x. x + j)) e in
          sym (at.value n.table instant h i (in_table j leaf s f2 g) ∙ (ap (λ o. fitted s.kind s.width (integer_at instant o)) none
          ∙ ap₂ (λ k w. fitted k w (Rattle.std.proofs.Common.pos 0)) at.kind (at.width ∙ min_is (width_of_leaf leaf) (narrow_leaf typ j leaf p.narrow f2))))))
      by_way (Some way) (Some first) e r = sym (maps_same (λ leaf. fitted_to leaf ((scene_seen types n instant).integers (spot instant).component (way ++ leaf.path))) (λ (s : Source). value s.expr instant)
          (leaves (spot instant).typ) sources (all.counted ∙ ap (λ t. length (leaves t)) (sym (p.spot_type instant)))
          (λ j leaf s f g.
          let f2 = ap (λ t. slice_get (leaves t) j) (sym (p.spot_type instant)) ∙ f in
          let at = all.each j leaf s f2 g in
          let some : picked instant part.picks (part.first + j) ≡ Some (first + j) = picked_moved instant part.picks part.first j ∙ ap (option_map (λ x. x + j)) e in
          let seen : n.number (record { component = (spot instant).component; way = way ++ leaf.path }) ≡ Some (first + j)
          = ap (λ c. n.number (record { component = c; way = way ++ leaf.path })) (p.component instant) ∙ r.numbers j leaf f2 in
          sym (at.value n.table instant h i (in_table j leaf s f2 g) ∙ (ap (λ o. fitted s.kind s.width (integer_at instant o)) (some ∙ sym seen)
          ∙ ap₂ (λ k w. fitted k w (integer_at instant (n.number (record { component = (spot instant).component; way = way ++ leaf.path })))) at.kind
          (at.width ∙ min_is (width_of_leaf leaf) (narrow_leaf typ j leaf p.narrow f2))))))
      by_way (Some way) None e r = absurd r
      by_way None (Some first) e r = absurd r

  leaf_reads : (j : ℕ) (leaf : TypeLeaf) (s : Source) → slice_get (leaves typ) j ≡ Some leaf → slice_get sources j ≡ Some s → SameLeaves n (region.indices ++ leaves_at region leaf.path) (mentions s.expr)
  leaf_reads j leaf s e f =
      let at = all.each j leaf s e f in
      record {
        only = λ x c. ⊎_elim
            (λ l. let z = p.indices.only x l in (z.0, Contains-append_left region.indices (leaves_at region leaf.path) z.0 z.1, z.2))
            (λ r.
            let back = choice_back part.picks part.first j x r in
            let way = p.each back.0 back.1 in (
              record { component = region.component; way = way.0 ++ leaf.path },
              Contains-append_right region.indices (leaves_at region leaf.path) (record { component = region.component; way = way.0 ++ leaf.path })
                  (in_map (λ w. record { component = region.component; way = w ++ leaf.path }) region.ways way.0 way.1),
              way.2.numbers j leaf e ∙ ap Some back.2,
            ))
            (at.only x c);
        all = λ z c. ⊎_elim
            (λ l. let x = p.indices.all z l in (x.0, x.1, at.indices x.0 x.2))
            (λ r.
            let from = from_map (λ w. record { component = region.component; way = w ++ leaf.path }) region.ways z r in
            let x = p.all from.0 from.1 in
            (x.0 + j, ap n.number (sym from.2) ∙ x.2.numbers j leaf e, at.leaves (x.0 + j) (choice_moved part.picks part.first j x.0 x.1)))
            (Contains-append_cases region.indices (leaves_at region leaf.path) z c);
      }

  pub part_reads : ReadEach n (map (λ leaf. region.indices ++ leaves_at region leaf.path) (leaves typ)) sources
  part_reads = each (leaves typ) sources all.counted leaf_reads
    where
      each : (ls : List TypeLeaf) (ss : List Source) → length ss ≡ length ls
          → ((j : ℕ) (leaf : TypeLeaf) (s : Source) → slice_get ls j ≡ Some leaf → slice_get ss j ≡ Some s → SameLeaves n (region.indices ++ leaves_at region leaf.path) (mentions s.expr))
          → ReadEach n (map (λ leaf. region.indices ++ leaves_at region leaf.path) ls) ss
      each [] [] l h = tt
      each [] (s ∷ ss) l h = absurd (omega (arith, l))
      each (leaf ∷ ls) [] l h = absurd (omega (arith, l))
      each (leaf ∷ ls) (s ∷ ss) l h = (h 0 leaf s refl refl, each ls ss (omega (arith, l)) (λ j. h (suc j)))
