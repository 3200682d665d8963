-- A spread, as it is made.
use Rattle.std.proofs.Common.{◌≡◌, ◌≢◌, ℕ, ◌+◌, ◌<◌, ◌≤◌, List, [], ◌∷◌, ◌++◌, length, map, take, get_or, slice_get, slice_set, Option, Vec, Global, refl, sym, subst, ap, ap₂, ◌∙◌, arith, ⊎_elim, get_or-set_same, get_or-set_other, Some, None, append_assoc, append-nil, cond, Result, Ok, Err, OnOk}
use Rattle.std.specs.declared.cmp.Ordering.{Ordering}
use Rattle.std.specs.declared.cmp.Ordering.TheVariants.{Less, Equal, Greater}
use Rattle.std.specs.Ordering.{is_eq}
use Rattle.std.specs.Map.{lookup}
use Rattle.std.specs.BTreeMap.{get, is_at}
use Rattle.std.specs.List.{Contains, flat_map}
use Rattle.std.proofs.lemmas.Bool.{cases_eq, cases_lt}
use Rattle.std.proofs.lemmas.Grind.{flat_map-append}
use Rattle.ground_net.specs.Grounds.{mentions, joined}
use Rattle.std.proofs.lemmas.List.{take_more, map-append, get_or_append_left, get_or_push, length_push, length-set, get_or_past}
use Rattle.std.proofs.lemmas.List.Elements.{Contains-append_cases, filter-append}
use Rattle.std.proofs.lemmas.Map.Lookups.{exact_bytes}
use Rattle.ground_net.specs.declared.net.Net.{Net}
use Rattle.ground_net.specs.declared.net.Leaf.{Leaf}
use Rattle.ground_net.specs.declared.stretch.Span.{Span}
use Rattle.ground_net.specs.declared.net.Role.{Role}
use Rattle.ground_net.specs.declared.net.Role.TheVariants as role
use Rattle.ground_net.specs.declared.ground.Ground.{Ground}
use Rattle.ground_net.specs.Cones.{mentioned_by}
use Rattle.ground_net.specs.Reads.{direct_reads, read_of, read_by, lone_driver, driver_of}
use Rattle.comb_order.specs.declared.spread.Spread.{Spread}
use Rattle.comb_order.specs.Spreads.{is_assignment, assignments_among, row_at, told, IsSpread}
use Rattle.comb_order.specs.Spreading.{spans_of, leaves_of, key_order, StandsFor, IsBegun, Grows, Tells, IsVertex, IsToldUpTo}
use Rattle.comb_order.proofs.Members.{none_in, cons_cases}
use Rattle.comb_order.proofs.Telling.{among_within, part, told_both, told_one, told_leaves, told_same, one_behind}

-- what is known where a call went well
pub ok_then : {T E P Q : Type 0} (r : Result T E) → OnOk r P → (P → Q) → OnOk r Q
ok_then (Ok x) p f = f p
ok_then (Err e) p f = p

-- keys

pub spans_back : (spans : List Span) → spans_of (flat_map (λ (s : Span). s.length ∷ s.stride ∷ []) spans) ≡ spans
spans_back [] = refl
spans_back (s ∷ spans) = ap (λ rest. s ∷ rest) (spans_back spans)

-- rows that stay

pub grows_same : (rows : List (List ℕ)) → Grows rows rows
grows_same rows = record { longer = omega arith; same = λ y lt. refl }

grows_more : (rows : List (List ℕ)) (row : List ℕ) → Grows rows (rows ++ row ∷ [])
grows_more rows row = record { longer = omega (arith, length_push rows row); same = λ y lt. get_or_append_left rows (row ∷ []) [] y lt }

pub grows_both : (a b c : List (List ℕ)) → Grows a b → Grows b c → Grows a c
grows_both a b c h k = record { longer = omega (arith, h.longer, k.longer); same = λ y lt. k.same y (omega (arith, lt, h.longer)) ∙ h.same y lt }

-- what is added

module _ (leaves : List Leaf) where
  pub tells_leaves : (spread : Spread) (these before after : List ℕ) → IsBegun leaves spread → after ≡ before ++ assignments_among leaves these → Tells leaves these spread before spread after
  tells_leaves spread these before after begun is = record {
    begun = begun;
    grows = grows_same spread.rows.items;
    row = record {
      more = assignments_among leaves these;
      added = is;
      inside = λ y c. omega (arith, among_within leaves these y c, begun.count);
      tells = told_leaves (length leaves) spread.rows.items (assignments_among leaves these) (λ y c. among_within leaves these y c);
    };
  }

  pub tells_by : (these others : List ℕ) (old : Spread) (before : List ℕ) (new : Spread) (after : List ℕ) → Tells leaves others old before new after → these ≡ others → Tells leaves these old before new after
  tells_by these others old before new after h e = subst (λ xs. Tells leaves xs old before new after) (sym e) h

  pub tells_none : (spread : Spread) (row : List ℕ) → IsBegun leaves spread → Tells leaves [] spread row spread row
  tells_none spread row begun = tells_leaves spread [] row row begun (sym (append-nil row))

  pub tells_then : (a b : List ℕ) (first second third : Spread) (before between after : List ℕ) → Tells leaves a first before second between → Tells leaves b second between third after
      → Tells leaves (a ++ b) first before third after
  tells_then a b first second third before between after h k =
      let stays : told (length leaves) third.rows.items h.row.more ≡ told (length leaves) second.rows.items h.row.more =
      told_same (length leaves) second.rows.items third.rows.items h.row.more (λ y c le. k.grows.same y (h.row.inside y c)) in
      record {
        begun = k.begun;
        grows = grows_both first.rows.items second.rows.items third.rows.items h.grows k.grows;
        row = record {
          more = h.row.more ++ k.row.more;
          added = k.row.added ∙ (ap (λ s. s ++ k.row.more) h.row.added ∙ append_assoc before h.row.more k.row.more);
          inside = λ y c. ⊎_elim (λ o. omega (arith, h.row.inside y o, k.grows.longer)) (λ n. k.row.inside y n) (Contains-append_cases h.row.more k.row.more y c);
          tells = told_both (length leaves) third.rows.items h.row.more k.row.more
              ∙ (ap₂ (λ s t. s ++ t) (stays ∙ h.row.tells) k.row.tells ∙ sym (filter-append (is_assignment leaves) a b));
        };
      }

  pub tells_vertex : (these : List ℕ) (old new : Spread) (vertex : ℕ) (before after : List ℕ) → IsVertex leaves these old new vertex → after ≡ before ++ vertex ∷ [] → Tells leaves these old before new after
  tells_vertex these old new vertex before after h is = record {
    begun = h.begun;
    grows = h.grows;
    row = record {
      more = vertex ∷ [];
      added = is;
      inside = λ y c. subst (λ z. z < length new.rows.items) (single y c) h.stands.inside;
      tells = told_one (length leaves) new.rows.items vertex ∙ (one_behind (length leaves) new.rows.items vertex h.stands.behind ∙ h.stands.is);
    };
  }
    where
      single : (y : ℕ) → Contains (vertex ∷ []) y → vertex ≡ y
      single y c = ⊎_elim (λ e. e) (λ no. absurd (none_in y no)) (cons_cases vertex [] y c)

  -- a vertex that is known
  pub vertex_known : (these : List ℕ) (spread : Spread) (key : Vec ℕ Global) (vertex : ℕ) → IsBegun leaves spread → leaves_of key.items ≡ these → get key_order spread.known key ≡ Some vertex → IsVertex leaves these spread spread vertex
  vertex_known these spread key vertex begun is found = record {
    begun = begun;
    grows = grows_same spread.rows.items;
    stands = subst (λ xs. StandsFor leaves spread.rows.items xs vertex) is (begun.known key vertex found);
  }

  stands_on : (old new : List (List ℕ)) (these : List ℕ) (vertex : ℕ) → Grows old new → StandsFor leaves old these vertex → StandsFor leaves new these vertex
  stands_on old new these vertex grows h = record { behind = h.behind; inside = omega (arith, h.inside, grows.longer); is = grows.same vertex h.inside ∙ h.is }

  -- another vertex
  module _ (these : List ℕ) (old new : Spread) (key : Vec ℕ Global) (row : List ℕ) (vertex : ℕ) (begun : IsBegun leaves old) (is : leaves_of key.items ≡ these) (made : row ≡ assignments_among leaves these)
      (number : vertex ≡ length old.rows.items) (rows : new.rows.items ≡ old.rows.items ++ row ∷ []) (updates : (q : Vec ℕ Global) → get key_order new.known q ≡ cond (is_eq (key_order key q)) (Some vertex) (get key_order old.known q)) where
    grows : Grows old.rows.items new.rows.items
    grows = subst (Grows old.rows.items) (sym rows) (grows_more old.rows.items row)

    here : row_at new.rows.items vertex ≡ row
    here = ap (λ s. row_at s vertex) rows ∙ get_or_push old.rows.items row [] vertex (sym number)

    long : length new.rows.items ≡ length old.rows.items + 1
    long = ap length rows ∙ length_push old.rows.items row

    stands : StandsFor leaves new.rows.items these vertex
    stands = record { behind = omega (arith, number, begun.count); inside = omega (arith, number, long); is = here ∙ made }

    vertices_now : (r y : ℕ) → length leaves ≤ r → Contains (row_at new.rows.items r) y → y < length leaves
    vertices_now r y le c = ⊎_elim
        (λ lt. begun.vertices r y le (subst (λ s. Contains s y) (grows.same r lt) c))
        (λ past. ⊎_elim
        (λ e. among_within leaves these y (subst (λ s. Contains s y) (ap (row_at new.rows.items) e ∙ (here ∙ made)) c))
        (λ n. absurd (none_in y (subst (λ s. Contains s y) (get_or_past new.rows.items r [] (omega (arith, long, past, n, number))) c)))
        (cases_eq r vertex))
        (cases_lt r (length old.rows.items))

    known_now : (q : Vec ℕ Global) (v : ℕ) → get key_order new.known q ≡ Some v → StandsFor leaves new.rows.items (leaves_of q.items) v
    known_now q v e = by (key_order key q) refl
      where
        by : (o : Ordering) → key_order key q ≡ o → StandsFor leaves new.rows.items (leaves_of q.items) v
        by Equal same =
            let found : Some vertex ≡ Some v = sym (updates q ∙ ap (λ o. cond (is_eq o) (Some vertex) (get key_order old.known q)) same) ∙ e in
            let one : vertex ≡ v = cc in
            subst (StandsFor leaves new.rows.items (leaves_of q.items)) one (subst (λ xs. StandsFor leaves new.rows.items xs vertex) (sym is ∙ ap leaves_of (exact_bytes key.items q.items same)) stands)
        by Less other = stands_on old.rows.items new.rows.items (leaves_of q.items) v grows
            (begun.known q v (sym (updates q ∙ ap (λ o. cond (is_eq o) (Some vertex) (get key_order old.known q)) other) ∙ e))
        by Greater other = stands_on old.rows.items new.rows.items (leaves_of q.items) v grows
            (begun.known q v (sym (updates q ∙ ap (λ o. cond (is_eq o) (Some vertex) (get key_order old.known q)) other) ∙ e))

    pub vertex_made : IsVertex leaves these old new vertex
    vertex_made = record {
      begun = record { count = omega (arith, begun.count, long); vertices = vertices_now; known = known_now };
      grows = grows;
      stands = stands;
    }

-- the rows of leaves

pub told_begin : (net : Net) (spread : Spread) → length spread.rows.items ≡ length net.leaves → ((x : ℕ) → row_at spread.rows.items x ≡ []) → spread.known.entries ≡ [] → IsToldUpTo net 0 spread
told_begin net spread count empty none = record {
  begun = record {
    count = omega (arith, count);
    vertices = λ r y le c. absurd (none_in y (subst (λ s. Contains s y) (empty r) c));
    known = λ key vertex e.
        let nothing : None ≡ Some vertex = sym (ap (lookup (is_at (key_order key))) none) ∙ e in cc;
  };
  reads = λ x lt. absurd (omega arith);
  inside = λ x y lt c. absurd (none_in y (subst (λ s. Contains s y) (empty x) c));
}

module _ (net : Net) (number : ℕ) (old now new : Spread) (row : List ℕ) (within : number < length net.leaves) (h : IsToldUpTo net number old)
    (t : Tells net.leaves (direct_reads net number) old [] now row) (er : new.rows.items ≡ slice_set now.rows.items number row) (ek : new.known ≡ now.known) where
  rows_long : length new.rows.items ≡ length now.rows.items
  rows_long = ap length er ∙ length-set now.rows.items number row

  others : (x : ℕ) → x ≢ number → row_at new.rows.items x ≡ row_at now.rows.items x
  others x n = ap (λ s. row_at s x) er ∙ get_or-set_other now.rows.items number x row [] n

  row_here : row_at new.rows.items number ≡ row
  row_here = ap (λ s. row_at s number) er ∙ get_or-set_same now.rows.items number row [] (omega (arith, within, t.begun.count))

  tell_same : (xs : List ℕ) → told (length net.leaves) new.rows.items xs ≡ told (length net.leaves) now.rows.items xs
  tell_same xs = told_same (length net.leaves) now.rows.items new.rows.items xs (λ y c le. others y (λ e. omega (arith, e, le, within)))

  old_row : (x : ℕ) → x ≢ number → x < length net.leaves → row_at new.rows.items x ≡ row_at old.rows.items x
  old_row x n lt = others x n ∙ t.grows.same x (omega (arith, lt, h.begun.count))

  old_told : (x : ℕ) → x < length net.leaves → told (length net.leaves) now.rows.items (row_at old.rows.items x) ≡ told (length net.leaves) old.rows.items (row_at old.rows.items x)
  old_told x lt = told_same (length net.leaves) old.rows.items now.rows.items (row_at old.rows.items x) (λ y c le. t.grows.same y (h.inside x y lt c))

  reads_now : (x : ℕ) → x < number + 1 → told (length net.leaves) new.rows.items (row_at new.rows.items x) ≡ assignments_among net.leaves (direct_reads net x)
  reads_now x lt = ⊎_elim
      (λ e. ap (λ z. told (length net.leaves) new.rows.items (row_at new.rows.items z)) e
      ∙ (ap (told (length net.leaves) new.rows.items) (row_here ∙ t.row.added) ∙ (tell_same t.row.more ∙ (t.row.tells ∙ ap (λ z. assignments_among net.leaves (direct_reads net z)) (sym e)))))
      (λ n. let less : x < number = omega (arith, lt, n) in
      ap (told (length net.leaves) new.rows.items) (old_row x n (omega (arith, less, within)))
      ∙ (tell_same (row_at old.rows.items x) ∙ (old_told x (omega (arith, less, within)) ∙ h.reads x less)))
      (cases_eq x number)

  inside_now : (x y : ℕ) → x < length net.leaves → Contains (row_at new.rows.items x) y → y < length new.rows.items
  inside_now x y lt c = ⊎_elim
      (λ e. omega (arith, t.row.inside y (subst (λ s. Contains s y) (ap (row_at new.rows.items) e ∙ (row_here ∙ t.row.added)) c), rows_long))
      (λ n. omega (arith, h.inside x y lt (subst (λ s. Contains s y) (old_row x n lt) c), t.grows.longer, rows_long))
      (cases_eq x number)

  pub told_more : IsToldUpTo net (number + 1) new
  told_more = record {
    begun = record {
      count = omega (arith, rows_long, t.begun.count);
      vertices = λ r y le c. t.begun.vertices r y le (subst (λ s. Contains s y) (others r (λ q. omega (arith, q, le, within))) c);
      known = λ key vertex e.
          let was = t.begun.known key vertex (ap (λ m. get key_order m key) (sym ek) ∙ e) in
          record { behind = was.behind; inside = omega (arith, was.inside, rows_long); is = others vertex (λ q. omega (arith, q, was.behind, within)) ∙ was.is };
    };
    reads = reads_now;
    inside = inside_now;
  }

pub told_end : (net : Net) (spread : Spread) (number : ℕ) → length net.leaves ≤ number → IsToldUpTo net number spread → IsSpread net spread.rows.items
told_end net spread number all h = record {
  count = omega (arith, h.begun.count);
  reads = λ x lt. h.reads x (omega (arith, lt, all));
  inside = λ x y c. ⊎_elim (λ lt. h.inside x y lt c) (λ le. omega (arith, h.begun.vertices x y le c, h.begun.count)) (part (length net.leaves) x);
  leaves = h.begun.vertices;
}

-- more vertices
pub spread_grown : (net : Net) (old new : Spread) → IsSpread net old.rows.items → IsBegun net.leaves new → Grows old.rows.items new.rows.items → IsSpread net new.rows.items
spread_grown net old new h begun grows = record {
  count = omega (arith, begun.count);
  reads = λ x lt.
      let row = grows.same x (omega (arith, lt, h.count)) in
      ap (told (length net.leaves) new.rows.items) row
      ∙ (told_same (length net.leaves) old.rows.items new.rows.items (row_at old.rows.items x) (λ y c le. grows.same y (h.inside x y c)) ∙ h.reads x lt);
  inside = λ x y c. ⊎_elim
      (λ lt. omega (arith, h.inside x y (subst (λ s. Contains s y) (grows.same x (omega (arith, lt, h.count))) c), grows.longer))
      (λ le. omega (arith, begun.vertices x y le c, begun.count)) (part (length net.leaves) x);
  leaves = begun.vertices;
}

-- what a leaf reads

pub reads_assigned : (net : Net) (x : ℕ) (leaf : Leaf) → slice_get net.leaves x ≡ Some leaf → leaf.role ≡ role.Assigned → direct_reads net x ≡ mentioned_by (driver_of net x)
reads_assigned net x leaf there is = ap (λ o. read_of o (slice_get net.drivers x)) there ∙ (ap (λ r. read_by r (lone_driver (slice_get net.drivers x))) is ∙ by (lone_driver (slice_get net.drivers x)))
  where
    by : (d : Option Ground) → read_by role.Assigned d ≡ mentioned_by d
    by (Some driver) = refl
    by None = refl

pub reads_nothing : (net : Net) (x : ℕ) (leaf : Leaf) → slice_get net.leaves x ≡ Some leaf → (leaf.role ≡ role.Assigned → ⊥) → direct_reads net x ≡ []
reads_nothing net x leaf there other = ap (λ o. read_of o (slice_get net.drivers x)) there ∙ by leaf.role refl (lone_driver (slice_get net.drivers x))
  where
    by : (r : Role) → leaf.role ≡ r → (d : Option Ground) → read_by r d ≡ []
    by (role.Input n) e d = refl
    by role.Clock e d = refl
    by role.Assigned e d = absurd (other e)
    by (role.Register n) e d = refl
    by (role.Captured n) e d = refl

pub joined_more : (gs : List Ground) (i : ℕ) (g : Ground) → i < length gs → g ≡ get_or gs i g → joined (map mentions (take (i + 1) gs)) ≡ joined (map mentions (take i gs)) ++ mentions g
joined_more gs i g lt is =
    ap (λ s. joined (map mentions s)) (take_more gs i g lt ∙ ap (λ x. take i gs ++ x ∷ []) (sym is))
    ∙ (ap joined (map-append mentions (take i gs) (g ∷ [])) ∙ (flat_map-append (λ (leaves : List ℕ). leaves) (map mentions (take i gs)) (mentions g ∷ []) ∙ ap (λ s. joined (map mentions (take i gs)) ++ s) (append-nil (mentions g))))
