-- Leaves and vertices in an order.
use Rattle.std.proofs.Common.{◌≡◌, ◌≢◌, ℕ, zero, suc, ◌+◌, ◌<◌, ◌≤◌, true, false, List, [], ◌∷◌, ◌++◌, length, take, slice_index, slice_set, refl, sym, subst, ap, ◌∙◌, arith, ◌⊎◌, ⊎_elim, inl, inr, get_or, get_or-set_same, get_or-set_other}
use Rattle.std.specs.Prelude.{replicate}
use Rattle.std.specs.List.{Contains}
use Rattle.std.proofs.lemmas.Bool.{cases_eq}
use Rattle.std.proofs.lemmas.List.{length_push, length-set, length-replicate, length-take, get_or-take, get_or_past}
use Rattle.std.proofs.lemmas.List.Elements.{Contains-push, Contains-push_cases, Contains-append_left, Contains-append_cases, Contains-get_or}
use Rattle.comb_order.proofs.Telling.{part, told_of, told_leaf, told_via}
use Rattle.cone_cutter.specs.declared.rows.NetRows.{NetRows}
use Rattle.cone_cutter.specs.declared.arranging.Arranged.{Arranged}
use Rattle.cone_cutter.specs.Rows.{row_at, told, reads_in, needs_in, AreNetRows}
use Rattle.cone_cutter.specs.Marks.{IsRowOrder, AreInOrder, IsArranged, AreReady, PlacesVertices, PlacesLeaf}
use Rattle.cone_cutter.proofs.Lists.{none_in, cons_cases, push_old, push_new, push_cases, stands, stood}
use Rattle.cone_cutter.proofs.Wide.{read_in, need_in, reads_long}

-- one more number behind all that its row has
pub order_push : (reads : List (List ℕ)) (t : List ℕ) (x : ℕ) → IsRowOrder reads t → x < length reads → (Contains t x → ⊥) → ((w : ℕ) → Contains (row_at reads x) w → Contains t w) → IsRowOrder reads (t ++ x ∷ [])
order_push reads t x o lt new ready = record {
  within = λ y c. ⊎_elim (λ old. o.within y old) (λ e. subst (λ z. z < length reads) e lt) (Contains-push_cases t x y c);
  once = λ j k less inside e. ⊎_elim
      (λ old. o.once j k less old (sym (push_old t x j (omega (arith, less, old))) ∙ (e ∙ push_old t x k old)))
      (λ last. new (stands t x j (omega (arith, less, last)) (sym (push_old t x j (omega (arith, less, last))) ∙ (e ∙ push_new t x k last))))
      (push_cases t x k inside);
  after = λ k w inside c. ⊎_elim
      (λ old. let at = o.after k w old (subst (λ z. Contains (row_at reads z) w) (push_old t x k old) c) in
      (at.0, at.1, push_old t x at.0 (omega (arith, at.1, old)) ∙ at.2))
      (λ last. let at = stood t w (ready w (subst (λ z. Contains (row_at reads z) w) (push_new t x k last) c)) in
      (at.0, omega (arith, at.1, last), push_old t x at.0 at.1 ∙ at.2))
      (push_cases t x k inside);
}

pub order_none : (reads : List (List ℕ)) (t : List ℕ) → t ≡ [] → IsRowOrder reads t
order_none reads t e = record {
  within = λ x c. absurd (none_in x (subst (λ s. Contains s x) e c));
  once = λ j k less lt. absurd (omega (arith, lt, ap length e));
  after = λ k w lt c. absurd (omega (arith, lt, ap length e));
}

true_false : true ≡ false → ⊥
true_false e = cc

-- the leaves of a sequence that were placed
pub record Taken (rows : NetRows) (taken : List ℕ) (it : Arranged) : Type 0 where
  pub arranged : IsArranged rows it
  pub stand : (x : ℕ) → Contains taken x → Contains it.all.items x
  pub only : (x : ℕ) → x < rows.leaves → Contains it.all.items x → Contains taken x

no_flag : (n r : ℕ) → get_or (replicate n false) r false ≡ false
no_flag zero zero = refl
no_flag zero (suc r) = refl
no_flag (suc n) zero = refl
no_flag (suc n) (suc r) = no_flag n r

pub arranged_none : (rows : NetRows) (it : Arranged) → it.placed.items ≡ replicate (length rows.reads.items) false → it.all.items ≡ [] → IsArranged rows it
arranged_none rows it flags none = record {
  long = ap length flags ∙ length-replicate (length rows.reads.items) false;
  order = order_none rows.reads.items it.all.items none;
  placed = λ r e. absurd (true_false (sym e ∙ (ap (λ s. get_or s r false) flags ∙ no_flag (length rows.reads.items) r)));
  unplaced = λ r le c. absurd (none_in r (subst (λ s. Contains s r) none c));
}

pub taken_none : (rows : NetRows) (it : Arranged) → IsArranged rows it → ((x : ℕ) → Contains it.all.items x → ⊥) → Taken rows [] it
taken_none rows it h empty = record { arranged = h; stand = λ x c. absurd (none_in x c); only = λ x lt c. absurd (empty x c) }

module _ (rows : NetRows) where
  pub vertices_none : (it : Arranged) → IsArranged rows it → PlacesVertices rows [] it it
  vertices_none it h = record { arranged = h; stays = λ x c. c; leaves = λ x lt c. c; there = λ r c le. absurd (none_in r c) }

  pub vertices_then : (a b : List ℕ) (old between new : Arranged) → PlacesVertices rows a old between → PlacesVertices rows b between new → PlacesVertices rows (a ++ b) old new
  vertices_then a b old between new h k = record {
    arranged = k.arranged;
    stays = λ x c. k.stays x (h.stays x c);
    leaves = λ x lt c. h.leaves x lt (k.leaves x lt c);
    there = λ r c le. ⊎_elim (λ o. k.stays r (h.there r o le)) (λ n. k.there r n le) (Contains-append_cases a b r c);
  }

  -- a leaf, or a vertex that stands there
  pub vertices_kept : (row : List ℕ) (old now : Arranged) (v : ℕ) → PlacesVertices rows row old now → (rows.leaves ≤ v → get_or now.placed.items v false ≡ true) → PlacesVertices rows (row ++ v ∷ []) old now
  vertices_kept row old now v h there = record {
    arranged = h.arranged;
    stays = h.stays;
    leaves = h.leaves;
    there = λ r c le. ⊎_elim (λ o. h.there r o le) (λ e. subst (Contains now.all.items) e (h.arranged.placed v (there (subst (λ z. rows.leaves ≤ z) (sym e) le)))) (Contains-push_cases row v r c);
  }

  -- another vertex
  pub vertices_more : (row : List ℕ) (old now new : Arranged) (v : ℕ) → PlacesVertices rows row old now → rows.leaves ≤ v → v < length now.placed.items → get_or now.placed.items v false ≡ false
      → ((y : ℕ) → Contains (row_at rows.reads.items v) y → Contains now.all.items y)
      → new.all.items ≡ now.all.items ++ v ∷ [] → new.placed.items ≡ slice_set now.placed.items v true → PlacesVertices rows (row ++ v ∷ []) old new
  vertices_more row old now new v h behind lt free ready ea ep =
      let has = λ (x : ℕ) (c : Contains now.all.items x). subst (λ s. Contains s x) (sym ea) (Contains-append_left now.all.items (v ∷ []) x c) in
      let cases : (x : ℕ) → Contains new.all.items x → Contains now.all.items x ⊎ (v ≡ x) = (λ x c. Contains-push_cases now.all.items v x (subst (λ s. Contains s x) ea c)) in
      let last : Contains new.all.items v = subst (λ s. Contains s v) (sym ea) (Contains-push now.all.items v) in
      record {
        arranged = record {
          long = ap length ep ∙ (length-set now.placed.items v true ∙ h.arranged.long);
          order = subst (IsRowOrder rows.reads.items) (sym ea)
              (order_push rows.reads.items now.all.items v h.arranged.order (omega (arith, lt, h.arranged.long)) (λ c. true_false (sym (h.arranged.unplaced v behind c) ∙ free)) ready);
          placed = λ r e. ⊎_elim (λ q. subst (Contains new.all.items) (sym q) last)
              (λ n. has r (h.arranged.placed r (sym (ap (λ s. get_or s r false) ep ∙ get_or-set_other now.placed.items v r true false n) ∙ e))) (cases_eq r v);
          unplaced = λ r le c. ⊎_elim
              (λ q. ap (λ s. get_or s r false) ep ∙ (ap (λ z. get_or (slice_set now.placed.items v true) z false) q ∙ get_or-set_same now.placed.items v true false lt))
              (λ n. ap (λ s. get_or s r false) ep ∙ (get_or-set_other now.placed.items v r true false n
              ∙ ⊎_elim (λ o. h.arranged.unplaced r le o) (λ e. absurd (n (sym e))) (cases r c))) (cases_eq r v);
        };
        stays = λ x c. has x (h.stays x c);
        leaves = λ x less c. ⊎_elim (λ o. h.leaves x less o) (λ e. absurd (omega (arith, less, behind, e))) (cases x c);
        there = λ r c le. ⊎_elim (λ o. has r (h.there r o le)) (λ e. subst (Contains new.all.items) e last) (Contains-push_cases row v r c);
      }

  -- what is ready before is ready later
  pub ready_on : (row : List ℕ) (old now : Arranged) (i : ℕ) → i < length row → AreReady rows row old → PlacesVertices rows (take i row) old now → AreReady rows (slice_index row i ∷ []) now
  ready_on row old now i lt ready h r y c le d =
      h.stays y (ready r y (subst (Contains row) (⊎_elim (λ e. e) (λ no. absurd (none_in r no)) (cons_cases (slice_index row i) [] r c)) (Contains-get_or row i 0 lt)) le d)

  module _ (a : AreNetRows rows) (leaf : ℕ) (lt : leaf < rows.leaves) (old : Arranged) (ready : (y : ℕ) → Contains (row_at (reads_in rows) leaf) y → Contains old.all.items y) where
    read : (y : ℕ) → Contains (told rows.leaves rows.reads.items (row_at rows.reads.items leaf)) y → Contains old.all.items y
    read y c = ready y (subst (λ s. Contains s y) (sym (read_in rows leaf lt)) c)

    pub leaf_ready : AreReady rows (row_at rows.reads.items leaf) old
    leaf_ready r y c le d = read y (told_via rows.leaves rows.reads.items (row_at rows.reads.items leaf) r y le c d)

    pub leaf_placed : (now new : Arranged) → PlacesVertices rows (row_at rows.reads.items leaf) old now → (Contains old.all.items leaf → ⊥) → new.all.items ≡ now.all.items ++ leaf ∷ [] → new.placed.items ≡ now.placed.items
        → PlacesLeaf rows leaf old new
    leaf_placed now new h none ea ep =
        let has = λ (x : ℕ) (c : Contains now.all.items x). subst (λ s. Contains s x) (sym ea) (Contains-append_left now.all.items (leaf ∷ []) x c) in
        let cases : (x : ℕ) → Contains new.all.items x → Contains now.all.items x ⊎ (leaf ≡ x) = (λ x c. Contains-push_cases now.all.items leaf x (subst (λ s. Contains s x) ea c)) in
        record {
          arranged = record {
            long = ap length ep ∙ h.arranged.long;
            order = subst (IsRowOrder rows.reads.items) (sym ea)
                (order_push rows.reads.items now.all.items leaf h.arranged.order (omega (arith, lt, a.count)) (λ c. none (h.leaves leaf lt c))
                (λ w c. ⊎_elim (λ less. h.stays w (read w (told_leaf rows.leaves rows.reads.items (row_at rows.reads.items leaf) w c less))) (λ le. h.there w c le) (part rows.leaves w)));
            placed = λ r e. has r (h.arranged.placed r (ap (λ s. get_or s r false) (sym ep) ∙ e));
            unplaced = λ r le c. ap (λ s. get_or s r false) ep
                ∙ ⊎_elim (λ o. h.arranged.unplaced r le o) (λ e. absurd (omega (arith, lt, le, e))) (cases r c);
          };
          stays = λ x c. has x (h.stays x c);
          leaves = λ x less c. ⊎_elim (λ o. inl (h.leaves x less o)) (λ e. inr e) (cases x c);
          there = subst (λ s. Contains s leaf) (sym ea) (Contains-push now.all.items leaf);
        }

-- one more leaf
pub taken_more : (rows : NetRows) (taken : List ℕ) (leaf : ℕ) (old new : Arranged) → Taken rows taken old → PlacesLeaf rows leaf old new → Taken rows (taken ++ leaf ∷ []) new
taken_more rows taken leaf old new h p = record {
  arranged = p.arranged;
  stand = λ x c. ⊎_elim (λ o. p.stays x (h.stand x o)) (λ e. subst (Contains new.all.items) e p.there) (Contains-push_cases taken leaf x c);
  only = λ x lt c. ⊎_elim (λ o. Contains-append_left taken (leaf ∷ []) x (h.only x lt o)) (λ e. subst (Contains (taken ++ leaf ∷ [])) e (Contains-push taken leaf)) (p.leaves x lt c);
}

-- the next leaf doesn't stand there, and what it reads does
module _ (rows : NetRows) (sequence : List ℕ) (o : IsRowOrder (reads_in rows) sequence) (i : ℕ) (lt : i < length sequence) (it : Arranged) (h : Taken rows (take i sequence) it) where
  pub leaf_within : slice_index sequence i < rows.leaves
  leaf_within = omega (arith, o.within (slice_index sequence i) (stands sequence (slice_index sequence i) i lt refl), reads_long rows)

  early : (x : ℕ) → Contains (take i sequence) x → (j : ℕ) × (j < i) × (slice_index sequence j ≡ x)
  early x c =
      let at = stood (take i sequence) x c in
      let less : at.0 < i = omega (arith, at.1, length-take i sequence) in
      (at.0, less, sym (get_or-take i sequence at.0 0 less) ∙ at.2)

  late : (j x : ℕ) → j < i → slice_index sequence j ≡ x → Contains (take i sequence) x
  late j x less e = stands (take i sequence) x j (omega (arith, less, lt, length-take i sequence)) (get_or-take i sequence j 0 less ∙ e)

  pub leaf_new : Contains it.all.items (slice_index sequence i) → ⊥
  leaf_new c = let at = early (slice_index sequence i) (h.only (slice_index sequence i) leaf_within c) in o.once at.0 i at.1 lt at.2

  pub leaf_reads : (y : ℕ) → Contains (row_at (reads_in rows) (slice_index sequence i)) y → Contains it.all.items y
  leaf_reads y c = let at = o.after i y lt c in h.stand y (late at.0 y at.1 at.2)

-- the rows of sinks whose vertices were placed

pub record Served (rows : NetRows) (sequence : List ℕ) (count : ℕ) (it : Arranged) : Type 0 where
  pub arranged : IsArranged rows it
  pub stand : (x : ℕ) → Contains sequence x → Contains it.all.items x
  pub needs : (k x : ℕ) → k < count → Contains (row_at rows.needed.items k) x → Contains it.all.items x

module _ (rows : NetRows) (sequence : List ℕ) (f : AreInOrder (needs_in rows) sequence) where
  pub need_ready : (k : ℕ) (it : Arranged) → ((x : ℕ) → Contains sequence x → Contains it.all.items x) → AreReady rows (row_at rows.needed.items k) it
  need_ready k it stand r y c le d =
      stand y (f k y (subst (λ s. Contains s y) (sym (need_in rows k)) (told_via rows.leaves rows.reads.items (row_at rows.needed.items k) r y le c d)))

  pub served_more : (k : ℕ) (old new : Arranged) → Served rows sequence k old → PlacesVertices rows (row_at rows.needed.items k) old new → Served rows sequence (k + 1) new
  served_more k old new h p = record {
    arranged = p.arranged;
    stand = λ x c. p.stays x (h.stand x c);
    needs = λ j x lt c. ⊎_elim
        (λ e. let here = subst (λ z. Contains (row_at rows.needed.items z) x) e c in
        ⊎_elim (λ less. p.stays x (h.stand x (f k x (subst (λ s. Contains s x) (sym (need_in rows k)) (told_leaf rows.leaves rows.reads.items (row_at rows.needed.items k) x here less)))))
        (λ le. p.there x here le) (part rows.leaves x))
        (λ n. p.stays x (h.needs j x (omega (arith, lt, n)) c))
        (cases_eq j k);
  }

pub needs_served : (rows : NetRows) (sequence : List ℕ) (count : ℕ) (it : Arranged) → length rows.needed.items ≤ count → Served rows sequence count it → AreInOrder rows.needed.items it.all.items
needs_served rows sequence count it all h k x c = ⊎_elim (λ lt. h.needs k x (omega (arith, lt, all)) c)
    (λ past. absurd (none_in x (subst (λ s. Contains s x) (get_or_past rows.needed.items k [] past) c))) (part (length rows.needed.items) k)

pub served_none : (rows : NetRows) (sequence taken : List ℕ) (it : Arranged) → Taken rows taken it → taken ≡ sequence → Served rows sequence 0 it
served_none rows sequence taken it h e = record {
  arranged = h.arranged;
  stand = λ x c. h.stand x (subst (λ s. Contains s x) (sym e) c);
  needs = λ k x lt c. absurd (omega arith);
}
