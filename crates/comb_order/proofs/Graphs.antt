-- A net and the graph of its reads.
use Rattle.std.proofs.Common.{◌≡◌, ℕ, ◌<◌, ◌≤◌, List, [], length, slice_get, slice_index, Some, None, Option, refl, sym, subst, ap, ◌∙◌, arith, ⊎_elim, inl, inr, ◌⊎◌, get_or}
use Rattle.std.specs.List.{Contains}
use Rattle.std.proofs.lemmas.List.{get_or_default, get_or_past, get_or-map, length-map}
use Rattle.std.proofs.lemmas.List.Elements.{Contains-get_or}
use Rattle.std.proofs.lemmas.Option.{slice_get_within, slice_get-get_or, slice_get_cases, get_or_from_slice_get}
use Rattle.std.specs.declared.alloc.Global.{Global}
use Rattle.std.specs.declared.vec.Vec.{Vec}
use Rattle.place_text.specs.declared.place.Place.{Place}
use Rattle.ground_net.specs.declared.net.Net.{Net}
use Rattle.ground_net.specs.declared.net.Leaf.{Leaf}
use Rattle.ground_net.specs.declared.net.Role.{Role}
use Rattle.ground_net.specs.declared.net.Role.TheVariants as role
use Rattle.comb_order.specs.Graph.{Graph, AreVertices, Reads as Edge, Through as Walk, itself as one_edge, others as more_edges, IsFirstOnLoop, IsOrder as IsOrderOf}
use Rattle.ground_net.specs.Reads.{direct_reads, read_of, read_by, lone_driver, Reads, Through, itself, others, IsAssigned, HasNoLoop, IsFirstLoop, IsOrder}
use Rattle.comb_order.specs.Spreads.{is_assignment, row_at, told, IsSpread}
use Rattle.comb_order.specs.Graphs.{rows_of, Keeps, HasPlace}
use Rattle.comb_order.proofs.Members.{none_in, filter_from, filter_to}
use Rattle.comb_order.proofs.Telling.{is_assigned_test, assigned_within, part, told_of, told_leaf, told_via}

-- only assignments read
reader_assigned : (net : Net) (a b : ℕ) → Reads net a b → IsAssigned net.leaves a
reader_assigned net a b r = by (slice_get net.leaves a) refl (subst (λ l. Contains l b) refl r)
  where
    of_role : (leaf : Leaf) (kind : Role) → leaf.role ≡ kind → slice_get net.leaves a ≡ Some leaf → Contains (read_by kind (lone_driver (slice_get net.drivers a))) b → IsAssigned net.leaves a
    of_role leaf (role.Input n) is there c = absurd (none_in b c)
    of_role leaf role.Clock is there c = absurd (none_in b c)
    of_role leaf role.Assigned is there c = record { leaf = leaf; there = there; is = is }
    of_role leaf (role.Register n) is there c = absurd (none_in b c)
    of_role leaf (role.Captured n) is there c = absurd (none_in b c)

    by : (o : Option Leaf) → slice_get net.leaves a ≡ o → Contains (read_of (slice_get net.leaves a) (slice_get net.drivers a)) b → IsAssigned net.leaves a
    by (Some leaf) there c = of_role leaf leaf.role refl there (subst (λ o. Contains (read_of o (slice_get net.drivers a)) b) there c)
    by None there c = absurd (none_in b (subst (λ o. Contains (read_of o (slice_get net.drivers a)) b) there c))

starts_assigned : (net : Net) (a b : ℕ) → Through net a b → IsAssigned net.leaves a
starts_assigned net a b (itself r) = reader_assigned net a b r
starts_assigned net a b (others {b = c} r t) = reader_assigned net a c r

joined_walk : (g : Graph) (a b c : ℕ) → Walk g a b → Walk g b c → Walk g a c
joined_walk g a b c (one_edge r) u = more_edges r u
joined_walk g a b c (more_edges {b = d} r t) u = more_edges r (joined_walk g d b c t u)

-- edges and rows

row_there : (g : Graph) (x : ℕ) (row : Vec ℕ Global) → slice_get g x ≡ Some row → row_at (rows_of g) x ≡ row.items
row_there g x row there =
    get_or-map (λ (r : Vec ℕ Global). r.items) g x row [] (slice_get_within g x row there) ∙ ap (λ (r : Vec ℕ Global). r.items) (get_or_from_slice_get g x row row there)

pub edge_to : (g : Graph) (a b : ℕ) → Edge g a b → Contains (row_at (rows_of g) a) b
edge_to g a b r = subst (λ row. Contains row b) (sym (row_there g a r.row r.there)) (subst (Contains r.row.items) r.is (Contains-get_or r.row.items r.at 0 r.inside))

pub edge_from : (g : Graph) (a b : ℕ) → Contains (row_at (rows_of g) a) b → Edge g a b
edge_from g a b c = ⊎_elim
    (λ here. let has : Contains here.0.items b = subst (λ row. Contains row b) (row_there g a here.0 here.2) c in
    record { row = here.0; there = here.2; at = has.0; inside = has.1; is = get_or_default here.0.items has.0 0 b has.1 ∙ has.2 })
    (λ past. absurd (none_in b (subst (λ row. Contains row b) (get_or_past (rows_of g) a [] (omega (arith, past.0, length-map g (λ (r : Vec ℕ Global). r.items)))) c))) (slice_get_cases g a).1

module _ (net : Net) (g : Graph) (h : IsSpread net (rows_of g)) where
  count : length net.leaves ≤ length g
  count = omega (arith, h.count, length-map g (λ (r : Vec ℕ Global). r.items))

  -- what is told is read

  tells : (a b : ℕ) → Reads net a b → IsAssigned net.leaves b → Contains (told (length net.leaves) (rows_of g) (row_at (rows_of g) a)) b
  tells a b r is =
      let inside = assigned_within net.leaves a (reader_assigned net a b r) in
      subst (λ l. Contains l b) (sym (h.reads a inside)) (filter_to (is_assignment net.leaves) (direct_reads net a) b r (is_assigned_test net.leaves b is))

  told_read : (a b : ℕ) → a < length net.leaves → Contains (told (length net.leaves) (rows_of g) (row_at (rows_of g) a)) b → Reads net a b
  told_read a b lt c = (filter_from (is_assignment net.leaves) (direct_reads net a) b (subst (λ l. Contains l b) (h.reads a lt) c)).0

  -- walks

  step : (a b : ℕ) → Reads net a b → IsAssigned net.leaves b → Walk g a b
  step a b r is = ⊎_elim (λ l. one_edge (edge_from g a b l.0))
      (λ v. more_edges (edge_from g a v.0 v.2) (one_edge (edge_from g v.0 b v.3)))
      (told_of (length net.leaves) (rows_of g) (row_at (rows_of g) a) b (tells a b r is))

  walk_from : (a b : ℕ) → Through net a b → IsAssigned net.leaves b → Walk g a b
  walk_from a b (itself r) is = step a b r is
  walk_from a b (others {b = c} r t) is = joined_walk g a c b (step a c r (starts_assigned net c b t)) (walk_from c b t is)

  -- a leaf leads on, and a vertex has a leaf that is the last one or leads on
  abbrev Leads : ℕ → ℕ → Type 0
  Leads x z = (x < length net.leaves → Through net x z) × (length net.leaves ≤ x → (y : ℕ) × Contains (row_at (rows_of g) x) y × ((y ≡ z) ⊎ Through net y z))

  behind : (x y z : ℕ) → Reads net x y → (y ≡ z) ⊎ Through net y z → Through net x z
  behind x y z r e = ⊎_elim (λ same. itself (subst (Reads net x) same r)) (λ t. others r t) e

  leads : (x z : ℕ) → z < length net.leaves → Walk g x z → Leads x z
  leads x z below (one_edge r) =
      let c = edge_to g x z r in
      (λ leaf. itself (told_read x z leaf (told_leaf (length net.leaves) (rows_of g) (row_at (rows_of g) x) z c below)), λ vertex. (z, c, inl refl))
  leads x z below (more_edges {b = y} r t) =
      let c = edge_to g x y r in
      let later = leads y z below t in (
        λ leaf. ⊎_elim (λ lt. others (told_read x y leaf (told_leaf (length net.leaves) (rows_of g) (row_at (rows_of g) x) y c lt)) (later.0 lt))
            (λ le. let found = later.1 le in behind x found.0 z (told_read x found.0 leaf (told_via (length net.leaves) (rows_of g) (row_at (rows_of g) x) y found.0 le c found.1)) found.2) (part (length net.leaves) y),
        λ vertex. (y, c, inr (later.0 (h.leaves x y vertex c))),
      )

  pub vertices : AreVertices g
  vertices = λ k d lt i e inside.
      let row = get_or g k d in
      let edge : Edge g k (slice_index row.items i) = record { row = row; there = slice_get-get_or g k d lt; at = i; inside = inside; is = refl } in
      let below = h.inside k (slice_index row.items i) (edge_to g k (slice_index row.items i) edge) in
      omega (arith, below, length-map g (λ (r : Vec ℕ Global). r.items), get_or_default row.items i e 0 inside)

  pub no_loop : ((x : ℕ) → Walk g x x → ⊥) → HasNoLoop net
  no_loop none = record { none = λ x loop. none x (walk_from x x loop (starts_assigned net x x loop)) }

  -- each loop has a leaf
  leaf_first : (x : ℕ) → length net.leaves ≤ x → Walk g x x → (y : ℕ) × (y < length net.leaves) × Walk g y y
  leaf_first x le (one_edge r) = absurd (let lt = h.leaves x x le (edge_to g x x r) in omega (arith, lt, le))
  leaf_first x le (more_edges {b = y} r t) = (y, h.leaves x y le (edge_to g x y r), joined_walk g y x y t (one_edge r))

  pub first_inside : (x : ℕ) → IsFirstOnLoop g x → x < length net.leaves
  first_inside x first = ⊎_elim (λ lt. lt)
      (λ le. let y = leaf_first x le first.here in absurd (first.first y.0 (omega (arith, y.1, le)) y.2)) (part (length net.leaves) x)

  pub first_loop : (x : ℕ) (place : Place) → IsFirstOnLoop g x → HasPlace net.leaves x place → IsFirstLoop net place
  first_loop x place first placed = record {
    at = x;
    leaf = placed.leaf;
    there = placed.there;
    here = (leads x x (first_inside x first) first.here).0 (first_inside x first);
    first = λ y lt loop. first.first y lt (walk_from y y loop (starts_assigned net y y loop));
    is = placed.is;
  }

  -- what a leaf reads stands before it
  stands_before : (s : List ℕ) → IsOrderOf g s → (k w : ℕ) → k < length s → Reads net (slice_index s k) w → IsAssigned net.leaves w → (j : ℕ) × (j < k) × (slice_index s j ≡ w)
  stands_before s o k w lt r is = ⊎_elim
      (λ l. o.in_order.after k w lt (edge_from g (slice_index s k) w l.0))
      (λ v. let vertex = o.in_order.after k v.0 lt (edge_from g (slice_index s k) v.0 v.2) in
      let leaf = o.in_order.after vertex.0 w (omega (arith, vertex.1, lt)) (edge_from g (slice_index s vertex.0) w (subst (λ z. Contains (row_at (rows_of g) z) w) (sym vertex.2) v.3)) in
      (leaf.0, omega (arith, leaf.1, vertex.1), leaf.2))
      (told_of (length net.leaves) (rows_of g) (row_at (rows_of g) (slice_index s k)) w (tells (slice_index s k) w r is))

  -- the assignments of an order are in order
  pub ordered : (s kept : List ℕ) → IsOrderOf g s → Keeps (IsAssigned net.leaves) s kept → IsOrder net kept
  ordered s kept o keeps = record {
    only = keeps.only;
    once = keeps.once o.in_order.once;
    after = λ k w lt r is.
        let stood = keeps.stood k lt in
        let before = stands_before s o stood.at w stood.inside (subst (λ x. Reads net x w) (sym stood.same) r) is in
        let kept_one = stood.before before.0 before.1 (subst (IsAssigned net.leaves) (sym before.2) is) in
        (kept_one.0, kept_one.1, kept_one.2 ∙ before.2);
    all = λ x is.
        let there = o.all x (omega (arith, count, slice_get_within net.leaves x is.leaf is.there)) in
        let kept_one = keeps.all there.0 there.1 (subst (IsAssigned net.leaves) (sym there.2) is) in
        (kept_one.0, kept_one.1, kept_one.2 ∙ there.2);
  }
