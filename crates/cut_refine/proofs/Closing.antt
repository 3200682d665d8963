-- The parts that are made of the tables at the end.
use Rattle.std.proofs.Common.{◌≡◌, ◌≢◌, ℕ, ◌+◌, ◌<◌, true, List, length, slice_get, slice_index, Some, refl, sym, subst, ap, ◌∙◌, arith}
use Rattle.std.specs.List.{Contains}
use Rattle.std.proofs.lemmas.Option.{slice_get_within, get_or_from_slice_get}
use Rattle.std.proofs.lemmas.List.FromFn.{length-map-range_with_len, get_or-map-range_with_len}
use Rattle.ground_net.specs.declared.net.Net.{Net}
use Rattle.ground_net.specs.declared.net.CutPart.{CutPart}
use Rattle.ground_net.specs.Cones.{sinks}
use Rattle.ground_net.specs.Reads.{IsAssigned, IsOrder}
use Rattle.cone_cutter.specs.Cuts.{NeededBy, InConeOf}
use Rattle.cone_cutter.specs.Rows.{places_of, read_rows, need_rows, ConeAt}
use Rattle.cone_cutter.specs.Loads.{holds, part_by, parts_by}
use Rattle.cone_cutter.specs.Splits.{StandsOnce, IsUnion}
use Rattle.cone_cutter.proofs.Lists.{stands, stood, filter_from, filter_to, pairs_filter}
use Rattle.cone_cutter.proofs.KeyPlaces.{place_from, place_to, places_rise}
use Rattle.cone_cutter.proofs.Assembly.{cone_to, cone_from, cone_assigned, assigned_within, needed_lift, read_rows_long}
use Rattle.cut_refine.specs.Refining.{AreOwners}
use Rattle.cut_refine.specs.Standing.{IsStanding}

part_at : (owners masks sequence : List ℕ) (workers p : ℕ) (part : CutPart) → slice_get (parts_by owners masks sequence workers) p ≡ Some part → (p < workers) × (part_by owners masks sequence p ≡ part)
part_at owners masks sequence workers p part e =
    let f = part_by owners masks sequence in
    let long = length-map-range_with_len (part_by owners masks sequence) 0 workers in
    let lt : p < workers = omega (arith, slice_get_within (parts_by owners masks sequence workers) p part e, long) in
    let z : 0 + p ≡ p = omega arith in
    (lt, sym (get_or-map-range_with_len f 0 workers p p part lt z) ∙ get_or_from_slice_get (parts_by owners masks sequence workers) p part part e)

module _ (net : Net) (watch sequence : List ℕ) (order : IsOrder net sequence) (reads rows : List (List ℕ)) (er : reads ≡ read_rows net) (en : rows ≡ need_rows net (sinks net watch))
    (workers : ℕ) (owners masks costs : List ℕ) (h : IsStanding (ConeAt reads rows) (length reads) workers owners masks costs) (long : length owners ≡ length (sinks net watch)) where
  to : (k x : ℕ) → InConeOf net watch k x → ConeAt reads rows k x
  to = cone_to net watch reads rows er en

  from : (k x : ℕ) → ConeAt reads rows k x → InConeOf net watch k x
  from = cone_from net watch reads rows er en

  in_sequence : (x : ℕ) → Contains sequence x → x < length reads
  in_sequence x c =
      let at = stood sequence x c in
      let a = subst (IsAssigned net.leaves) at.2 (order.only at.0 at.1) in
      omega (arith, assigned_within net.leaves x a, ap length er, read_rows_long net)

  needed_from : (p : ℕ) → p < workers → (x : ℕ) → Contains sequence x → holds masks p x ≡ true → NeededBy (InConeOf net watch) (places_of owners p) x
  needed_from p lt x c e = needed_lift (ConeAt reads rows) (InConeOf net watch) from to (places_of owners p) x ((h.held p x lt (in_sequence x c)).0 e)

  all_there : (p x : ℕ) → NeededBy (InConeOf net watch) (places_of owners p) x → Contains sequence x
  all_there p x n = let at = order.all x (cone_assigned net n.inside.sink x n.inside.inside) in stands sequence x at.0 at.1 at.2

  needed_to : (p : ℕ) → p < workers → (x : ℕ) → Contains sequence x → NeededBy (InConeOf net watch) (places_of owners p) x → holds masks p x ≡ true
  needed_to p lt x c n = (h.held p x lt (in_sequence x c)).1 (needed_lift (InConeOf net watch) (ConeAt reads rows) to from (places_of owners p) x n)

  union_of : (p : ℕ) → p < workers → IsUnion net watch sequence (part_by owners masks sequence p)
  union_of p lt = record {
    only = λ k c. omega (arith, (place_from owners p k c).0, long);
    rises = places_rise owners p;
    exactly = record {
      only = λ x c. let f = filter_from (holds masks p) sequence x c in needed_from p lt x f.0 f.1;
      all = λ x n. filter_to (holds masks p) sequence x (all_there p x n) (needed_to p lt x (all_there p x n) n);
      once = pairs_filter (λ a b. a ≢ b) (holds masks p) sequence order.once;
    };
    in_order = record {
      test = holds masks p;
      tests = λ x c. (needed_from p lt x c, needed_to p lt x c);
      same = refl;
    };
  }

  module _ (parts : List CutPart) (are : parts ≡ parts_by owners masks sequence workers) where
    pub parts_long : length parts ≡ workers
    parts_long = ap length are ∙ length-map-range_with_len (part_by owners masks sequence) 0 workers

    at : (p : ℕ) (part : CutPart) → slice_get parts p ≡ Some part → (p < workers) × (part_by owners masks sequence p ≡ part)
    at p part e = part_at owners masks sequence workers p part (ap (λ s. slice_get s p) (sym are) ∙ e)

    pub unions_are : (p : ℕ) (part : CutPart) → slice_get parts p ≡ Some part → IsUnion net watch sequence part
    unions_are p part e = let is = at p part e in subst (IsUnion net watch sequence) is.1 (union_of p is.0)

    pub owners_are : AreOwners (length (sinks net watch)) parts owners
    owners_are = record {
      long = long;
      each = λ p part e. let is = at p part e in ap (λ (q : CutPart). q.sinks) (sym is.1);
      within = λ k lt. omega (arith, parts_long, h.within k (omega (arith, lt, long)));
    }

-- Parts with their sinks by owners have each sink once.
pub owners_once : (count : ℕ) (parts : List CutPart) (owners : List ℕ) → AreOwners count parts owners → ((p : ℕ) → p < length parts → (part : CutPart) × (slice_get parts p ≡ Some part)) → (k : ℕ) → k < count → StandsOnce parts k
owners_once count parts owners are there k lt =
    let here = there (slice_index owners k) (are.within k lt) in
    record {
      number = slice_index owners k;
      part = here.0;
      there = here.1;
      here = subst (λ s. Contains s k) (sym (are.each (slice_index owners k) here.0 here.1)) (place_to owners (slice_index owners k) k (omega (arith, lt, are.long)) refl);
      alone = λ other it e c. sym (place_from owners other k (subst (λ s. Contains s k) (are.each other it e) c)).1;
    }
