-- What the rows of a net tell, read one by one.
use Rattle.std.proofs.Common.{◌≡◌, ℕ, ◌+◌, ◌<◌, true, List, [], ◌∷◌, ◌++◌, map, flat_map, length, take, drop, slice_get, slice_index, Option, Some, None, Contains, refl, sym, subst, ap, ◌∙◌, arith, ⊎_elim, get_or}
use Rattle.std.specs.Prelude.{filter_map, filter, false}
use Rattle.std.proofs.lemmas.Bool.{cases_lt}
use Rattle.std.proofs.lemmas.List.{get_or_default, get_or-map, get_or_past, length-map, take_more, drop_more, take-append-drop}
use Rattle.std.proofs.lemmas.List.Elements.{Contains-get_or, Contains-append_left, Contains-append_right}
use Rattle.std.proofs.lemmas.Option.{slice_get_cases, get_or_from_slice_get, slice_get_within}
use Rattle.ground_net.specs.declared.net.Net.{Net}
use Rattle.ground_net.specs.Cones.{Sink, needs}
use Rattle.ground_net.specs.Reads.{direct_reads}
use Rattle.comb_order.proofs.Telling.{told_of, told_leaf, told_via}
use Rattle.comb_order.proofs.Members.{none_in, cons_cases, filter_from}
use Rattle.cone_cutter.specs.Rows.{told, row_at, is_assignment, assignments_of, read_rows, need_rows}
use Rattle.std.specs.List.{range_with_len}
use Rattle.std.proofs.lemmas.List.FromFn.{length-map-range_with_len, get_or-map-range_with_len}
use Rattle.part_compile.specs.declared.live_count.LiveCount.{LiveCount}
use Rattle.part_compile.specs.Counts.{CountsLive, ReadsMore, is_read, stands}
use Rattle.part_compile.proofs.Walking.{needed_at}

single : (x y : ℕ) → Contains (x ∷ []) y → x ≡ y
single x y c = ⊎_elim (λ e. e) (λ no. absurd (none_in y no)) (cons_cases x [] y c)

index_there : (xs : List ℕ) (i : ℕ) → i < length xs → Contains xs (slice_index xs i)
index_there xs i lt = Contains-get_or xs i 0 lt

pub one_there : (xs : List ℕ) (i : ℕ) → i < length xs → (y : ℕ) → Contains (slice_index xs i ∷ []) y → Contains xs y
one_there xs i lt y c = subst (Contains xs) (single (slice_index xs i) y c) (index_there xs i lt)

pub one_told : (n : ℕ) (rows : List (List ℕ)) (xs : List ℕ) (i : ℕ) → i < length xs → (y : ℕ) → Contains (told n rows (slice_index xs i ∷ [])) y → Contains (told n rows xs) y
one_told n rows xs i lt y c =
    let x = slice_index xs i in
    let there = index_there xs i lt in
    ⊎_elim (λ l. told_leaf n rows xs y (subst (Contains xs) (single x y l.0) there) l.1)
    (λ v. told_via n rows xs v.0 y v.1 (subst (Contains xs) (single x v.0 v.2) there) v.3)
    (told_of n rows (x ∷ []) y c)

-- what is met changes nothing else
pub met_free : (xs : List ℕ) (old new : LiveCount) → new.read.items ≡ old.read.items → new.done.items ≡ old.done.items → new.count ≡ old.count → ReadsMore xs old new
met_free xs old new r d n read done sub k = record {
  long = ap length r ∙ (k.long ∙ sym (ap length d));
  only = λ y e. k.only y (ap (λ fs. get_or fs y false) (sym r) ∙ e);
  before = λ y e. k.before y (ap (λ fs. get_or fs y false) (sym d) ∙ e);
  few = omega (arith, n, k.few, ap (λ fs. length (filter (λ y. get_or fs y false) done)) r);
}

-- what the rows of a net tell is read by its leaves, and needed by its sinks
pub read_of_row : (net : Net) (rows : List (List ℕ)) → rows ≡ read_rows net → (x y : ℕ) → Contains (row_at rows x) y → Contains (direct_reads net x) y
read_of_row net rows e x y c =
    let f = λ (z : ℕ). assignments_of net (direct_reads net z) in
    let long = length-map-range_with_len f 0 (length net.leaves) in
    let d : Contains (row_at (read_rows net) x) y = subst (λ r. Contains (row_at r x) y) e c in
    let z : 0 + x ≡ x = omega arith in
    ⊎_elim
    (λ lt. (filter_from (is_assignment net.leaves) (direct_reads net x) y (subst (λ s. Contains s y) (get_or-map-range_with_len f 0 (length net.leaves) x x [] (omega (arith, lt, long)) z) d)).0)
    (λ le. absurd (none_in y (subst (λ s. Contains s y) (get_or_past (read_rows net) x [] le) d)))
    (cases_lt x (length (read_rows net)))

pub need_of_row : (net : Net) (all : List Sink) (numbers : List ℕ) (i y : ℕ) → i < length numbers → Contains (row_at (need_rows net all) (slice_index numbers i)) y
    → Contains (flat_map (needs net) (filter_map (slice_get all) numbers)) y
need_of_row net all numbers i y lt c =
    let k = slice_index numbers i in
    ⊎_elim
    (λ here.
    let row : row_at (need_rows net all) (slice_index numbers i) ≡ assignments_of net (needs net here.0)
    = get_or-map (λ s. assignments_of net (needs net s)) all k here.0 [] (slice_get_within all k here.0 here.2) ∙ ap (λ s. assignments_of net (needs net s)) (get_or_from_slice_get all k here.0 here.0 here.2) in
    needed_at all (needs net) numbers i here.0 y lt here.2 (filter_from (is_assignment net.leaves) (needs net here.0) y (subst (λ s. Contains s y) row c)).0)
    (λ past. absurd (none_in y (subst (λ s. Contains s y) (get_or_past (need_rows net all) k [] (omega (arith, past.0, length-map all (λ s. assignments_of net (needs net s))))) c)))
    (slice_get_cases all k).1
