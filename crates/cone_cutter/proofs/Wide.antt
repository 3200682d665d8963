-- Rows with vertices, and what they tell: what is met is the same.
use Rattle.std.proofs.Common.{◌≡◌, ◌≢◌, ℕ, ◌+◌, ◌<◌, ◌≤◌, nat_lt, true, List, [], ◌∷◌, length, map, slice_index, refl, sym, subst, ap, ◌∙◌, arith, ◌⊎◌, ⊎_elim, inl, inr, get_or}
use Rattle.std.specs.List.{filter, Contains, range_with_len}
use Rattle.std.proofs.lemmas.Bool.Decides.{nat_tests}
use Rattle.std.proofs.lemmas.List.{length-map, get_or-map, get_or_past}
use Rattle.std.proofs.lemmas.List.FromFn.{length-map-range_with_len, get_or-map-range_with_len}
use Rattle.comb_order.proofs.Telling.{part, is_below, told_of, told_leaf, told_via}
use Rattle.cone_cutter.specs.declared.rows.NetRows.{NetRows}
use Rattle.cone_cutter.specs.Cuts.{Lists}
use Rattle.cone_cutter.specs.Rows.{row_at, told, reads_in, needs_in, AreNetRows, AreBelow, Met, root, next, ConeAt}
use Rattle.cone_cutter.specs.Walks.{Walked, FindsCone}
use Rattle.cone_cutter.specs.Marks.{AreRoots}
use Rattle.cone_cutter.proofs.Lists.{none_in, filter_from, filter_to, pairs_filter, fits_below}

test_below : (n x : ℕ) → nat_lt x n ≡ true → x < n
test_below n x e = grind (arith, nat_tests, e)

module _ (rows : NetRows) where
  pub reads_long : length (reads_in rows) ≡ rows.leaves
  reads_long = length-map-range_with_len (λ x. told rows.leaves rows.reads.items (row_at rows.reads.items x)) 0 rows.leaves

  pub read_in : (x : ℕ) → x < rows.leaves → row_at (reads_in rows) x ≡ told rows.leaves rows.reads.items (row_at rows.reads.items x)
  read_in x lt = let z : 0 + x ≡ x = omega arith in get_or-map-range_with_len (λ y. told rows.leaves rows.reads.items (row_at rows.reads.items y)) 0 rows.leaves x x [] lt z

  no_read : (x : ℕ) → rows.leaves ≤ x → row_at (reads_in rows) x ≡ []
  no_read x le = get_or_past (reads_in rows) x [] (omega (arith, le, reads_long))

  pub needs_long : length (needs_in rows) ≡ length rows.needed.items
  needs_long = length-map rows.needed.items (told rows.leaves rows.reads.items)

  pub need_in : (k : ℕ) → row_at (needs_in rows) k ≡ told rows.leaves rows.reads.items (row_at rows.needed.items k)
  need_in k = ⊎_elim
      (λ lt. get_or-map (told rows.leaves rows.reads.items) rows.needed.items k [] [] lt)
      (λ le. get_or_past (needs_in rows) k [] (omega (arith, le, needs_long)) ∙ sym (ap (told rows.leaves rows.reads.items) (get_or_past rows.needed.items k [] le)))
      (part (length rows.needed.items) k)

  module _ (a : AreNetRows rows) where
    -- what is told are leaves
    pub told_within : (row : List ℕ) (x : ℕ) → Contains (told rows.leaves rows.reads.items row) x → x < rows.leaves
    told_within row x c = ⊎_elim (λ l. l.1) (λ v. a.vertices v.0 x v.1 v.3) (told_of rows.leaves rows.reads.items row x c)

    read_told : (x y : ℕ) → Contains (row_at (reads_in rows) x) y → (x < rows.leaves) × Contains (told rows.leaves rows.reads.items (row_at rows.reads.items x)) y
    read_told x y c = ⊎_elim (λ lt. (lt, subst (λ s. Contains s y) (read_in x lt) c)) (λ le. absurd (none_in y (subst (λ s. Contains s y) (no_read x le) c))) (part rows.leaves x)

    module _ (roots : List ℕ) where
      pub met_within : (x : ℕ) → Met (reads_in rows) (told rows.leaves rows.reads.items roots) x → x < rows.leaves
      met_within x (root c) = told_within roots x c
      met_within x (next {x = y} m c) = told_within (row_at rows.reads.items y) x (read_told y x c).1

      pub met_forth : (x : ℕ) → Met (reads_in rows) (told rows.leaves rows.reads.items roots) x → Met rows.reads.items roots x
      met_forth x (root c) = ⊎_elim (λ l. root l.0) (λ v. next (root v.2) v.3) (told_of rows.leaves rows.reads.items roots x c)
      met_forth x (next {x = y} m c) =
          let before = met_forth y m in
          ⊎_elim (λ l. next before l.0) (λ v. next (next before v.2) v.3) (told_of rows.leaves rows.reads.items (row_at rows.reads.items y) x (read_told y x c).1)

      -- what is known of a number that is met: a leaf is met by what is told, and so are the leaves of a vertex
      abbrev Known : ℕ → Type 0
      Known x = (x < rows.leaves → Met (reads_in rows) (told rows.leaves rows.reads.items roots) x)
          × ((y : ℕ) → rows.leaves ≤ x → Contains (row_at rows.reads.items x) y → Met (reads_in rows) (told rows.leaves rows.reads.items roots) y)

      told_next : (x y : ℕ) → x < rows.leaves → Met (reads_in rows) (told rows.leaves rows.reads.items roots) x → Contains (told rows.leaves rows.reads.items (row_at rows.reads.items x)) y
          → Met (reads_in rows) (told rows.leaves rows.reads.items roots) y
      told_next x y lt m c = next m (subst (λ s. Contains s y) (sym (read_in x lt)) c)

      known : (x : ℕ) → Met rows.reads.items roots x → Known x
      known x (root c) = (λ lt. root (told_leaf rows.leaves rows.reads.items roots x c lt), λ y le d. root (told_via rows.leaves rows.reads.items roots x y le c d))
      known y (next {x = x} m c) =
          let before = known x m in (
            λ lt. ⊎_elim (λ leaf. told_next x y leaf (before.0 leaf) (told_leaf rows.leaves rows.reads.items (row_at rows.reads.items x) y c lt)) (λ vertex. before.1 y vertex c) (part rows.leaves x),
            λ z le d. ⊎_elim (λ leaf. told_next x z leaf (before.0 leaf) (told_via rows.leaves rows.reads.items (row_at rows.reads.items x) y z le c d))
                (λ vertex. let lt = a.vertices x y vertex c in absurd (omega (arith, lt, le))) (part rows.leaves x),
          )

      pub met_back : (x : ℕ) → x < rows.leaves → Met rows.reads.items roots x → Met (reads_in rows) (told rows.leaves rows.reads.items roots) x
      met_back x lt m = (known x m).0 lt

      pub finds : (stamp : ℕ) (old new all found : List ℕ) → Walked rows.reads.items roots stamp old new all → ((v : ℕ) → slice_index old v < stamp) → found ≡ filter (λ x. nat_lt x rows.leaves) all
          → FindsCone rows roots stamp old new found
      finds stamp old new all found w fresh is =
          let test = λ (x : ℕ). nat_lt x rows.leaves in
          let from : (x : ℕ) → Contains found x → Contains all x × (x < rows.leaves) = (λ x c. let f = filter_from (λ (z : ℕ). nat_lt z rows.leaves) all x (subst (λ s. Contains s x) is c) in (f.0, test_below rows.leaves x f.1)) in
          let once : (j k : ℕ) → j < k → k < length found → slice_index found j ≢ slice_index found k
          = subst (λ s. (j k : ℕ) → j < k → k < length s → slice_index s j ≢ slice_index s k) (sym is) (pairs_filter (λ p q. p ≢ q) test all w.listed.once) in
          record {
            listed = record {
              only = λ x c. met_back x (from x c).1 (w.listed.only x (from x c).0);
              all = λ x m. subst (λ s. Contains s x) (sym is) (filter_to test all x (w.listed.all x (met_forth x m)) (is_below rows.leaves x (met_within x m)));
              once = once;
            };
            within = λ v c. (from v c).1;
            few = fits_below rows.leaves found once (λ v c. (from v c).1);
            long = w.long;
            early = λ v. ⊎_elim (λ same. omega (arith, same, fresh v)) (λ c. omega (arith, w.here v c)) (w.others v);
          }

    -- cones
    pub cone_forth : (k x : ℕ) → ConeAt (reads_in rows) (needs_in rows) k x → ConeAt rows.reads.items rows.needed.items k x
    cone_forth k x m = met_forth (row_at rows.needed.items k) x (subst (λ r. Met (reads_in rows) r x) (need_in k) m)

    pub cone_back : (k x : ℕ) → x < rows.leaves → ConeAt rows.reads.items rows.needed.items k x → ConeAt (reads_in rows) (needs_in rows) k x
    cone_back k x lt m = subst (λ r. Met (reads_in rows) r x) (sym (need_in k)) (met_back (row_at rows.needed.items k) x lt m)

    -- the roots of all sinks
    pub told_roots : (roots : List ℕ) → AreRoots rows.needed.items (length rows.needed.items) roots → AreRoots (needs_in rows) (length (needs_in rows)) (told rows.leaves rows.reads.items roots)
    told_roots roots r = record {
      from = λ x c. ⊎_elim
          (λ l. let k = r.from x l.0 in (k.0, omega (arith, k.1, needs_long), subst (λ s. Contains s x) (sym (need_in k.0)) (told_leaf rows.leaves rows.reads.items (row_at rows.needed.items k.0) x k.2 l.1)))
          (λ v. let k = r.from v.0 v.2 in (k.0, omega (arith, k.1, needs_long), subst (λ s. Contains s x) (sym (need_in k.0)) (told_via rows.leaves rows.reads.items (row_at rows.needed.items k.0) v.0 x v.1 k.2 v.3)))
          (told_of rows.leaves rows.reads.items roots x c);
      to = λ k x lt c. ⊎_elim
          (λ l. told_leaf rows.leaves rows.reads.items roots x (r.to k x (omega (arith, lt, needs_long)) l.0) l.1)
          (λ v. told_via rows.leaves rows.reads.items roots v.0 x v.1 (r.to k v.0 (omega (arith, lt, needs_long)) v.2) v.3)
          (told_of rows.leaves rows.reads.items (row_at rows.needed.items k) x (subst (λ s. Contains s x) (need_in k) c));
    }
