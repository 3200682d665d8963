-- The steps of a search.
use Rattle.std.proofs.Common.{◌≡◌, ◌≢◌, ℕ, zero, suc, ◌+◌, ◌<◌, ◌≤◌, List, [], ◌∷◌, ◌++◌, length, take, slice_get, slice_index, slice_set, ◌-◌, Some, refl, sym, subst, ap, ◌∙◌, arith, ⊎_elim, inl, inr, ◌⊎◌, get_or-set_same, get_or-set_other, get_or}
use Rattle.std.specs.List.{All}
use Rattle.std.proofs.lemmas.Option.{slice_get-get_or}
use Rattle.std.proofs.lemmas.Bool.{cases_eq, cases_lt}
use Rattle.std.proofs.lemmas.List.{length-set, length_push, get_or_append_left, get_or_push, get_or-take, length-take-le}
use Rattle.std.specs.declared.alloc.Global.{Global}
use Rattle.std.specs.declared.vec.Vec.{Vec}
use Rattle.comb_order.specs.Graph.{AreVertices, Graph, Reads, Through, itself, others, OnLoop}
use Rattle.comb_order.specs.Search.{Searching, Stands, Lower}

pub set_here : (l : List ℕ) (v a u : ℕ) → v < length l → u ≡ v → slice_index (slice_set l v a) u ≡ a
set_here l v a u lt e = ap (λ x. slice_index (slice_set l v a) x) e ∙ get_or-set_same l v a 0 lt

pub set_there : (l : List ℕ) (v a u : ℕ) → u ≢ v → slice_index (slice_set l v a) u ≡ slice_index l u
set_there l v a u n = get_or-set_other l v u a 0 n

pub push_old : (l : List ℕ) (x k : ℕ) → k < length l → slice_index (l ++ x ∷ []) k ≡ slice_index l k
push_old l x k lt = get_or_append_left l (x ∷ []) 0 k lt

pub push_new : (l : List ℕ) (x k : ℕ) → length l ≡ k → slice_index (l ++ x ∷ []) k ≡ x
push_new l x k e = get_or_push l x 0 k e

pub push_cases : (l : List ℕ) (x k : ℕ) → k < length (l ++ x ∷ []) → (k < length l) ⊎ (length l ≡ k)
push_cases l x k lt = let long = length_push l x in ⊎_elim (λ h. inl h) (λ h. let e : length l ≡ k = omega arith in inr e) (cases_lt k (length l))

pub stands_push : (l : List ℕ) (x v : ℕ) → Stands l v → Stands (l ++ x ∷ []) v
stands_push l x v h = (h.0, omega (arith, length_push l x, h.1), push_old l x h.0 h.1 ∙ h.2)

pub stands_last : (l : List ℕ) (x : ℕ) → Stands (l ++ x ∷ []) x
stands_last l x = (length l, omega (arith, length_push l x), push_new l x (length l) refl)

-- a new vertex is opened
module _ (g : Graph) (marks left path s : List ℕ) (v : ℕ) (h : Searching g marks left path s) (inside : v < length g) (fresh : slice_index marks v ≡ 2)
    (read : (k : ℕ) → k + 1 ≡ length path → Reads g (slice_index path k) v) where
  in_marks : v < length marks
  in_marks = omega (arith, h.marks_long)

  apart : (u : ℕ) → slice_index marks u < 2 → u ≢ v
  apart u less e = let same = ap (λ x. slice_index marks x) e in omega arith

  pub opened : Searching g (slice_set marks v 1) left (path ++ v ∷ []) s
  opened = record {
    marks_long = length-set marks v 1 ∙ h.marks_long;
    left_long = h.left_long;
    in_order = h.in_order;
    done = λ u lt e. ⊎_elim (λ q. let now = set_here marks v 1 u in_marks q in absurd (omega arith)) (λ n. h.done u lt (sym (set_there marks v 1 u n) ∙ e)) (cases_eq u v);
    open_ones = λ u lt e. ⊎_elim (λ q. subst (Stands (path ++ v ∷ [])) (sym q) (stands_last path v))
        (λ n. stands_push path v u (h.open_ones u lt (sym (set_there marks v 1 u n) ∙ e))) (cases_eq u v);
    small = λ u. ⊎_elim (λ q. omega (arith, set_here marks v 1 u in_marks q)) (λ n. omega (arith, set_there marks v 1 u n, h.small u)) (cases_eq u v);
    of_sequence = λ k lt. let old = h.of_sequence k lt in set_there marks v 1 (slice_index s k) (apart (slice_index s k) (omega arith)) ∙ old;
    of_path = λ k lt. ⊎_elim
        (λ less. let old = h.of_path k less in ap (λ x. slice_index (slice_set marks v 1) x) (push_old path v k less) ∙ set_there marks v 1 (slice_index path k) (apart (slice_index path k) (omega arith)) ∙ old)
        (λ last. set_here marks v 1 (slice_index (path ++ v ∷ []) k) in_marks (push_new path v k last)) (push_cases path v k lt);
    path_within = λ k lt. ⊎_elim (λ less. omega (arith, push_old path v k less, h.path_within k less)) (λ last. omega (arith, push_new path v k last)) (push_cases path v k lt);
    path_reads = λ k lt. ⊎_elim
        (λ less. subst (λ x. Reads g x (slice_index (path ++ v ∷ []) (k + 1))) (sym (push_old path v k (omega arith)))
        (subst (Reads g (slice_index path k)) (sym (push_old path v (k + 1) less)) (h.path_reads k less)))
        (λ last. subst (λ x. Reads g x (slice_index (path ++ v ∷ []) (k + 1))) (sym (push_old path v k (omega arith)))
        (subst (Reads g (slice_index path k)) (sym (push_new path v (k + 1) last)) (read k (sym last)))) (push_cases path v (k + 1) lt);
    path_once = λ j k less lt e. ⊎_elim
        (λ old. h.path_once j k less old (sym (push_old path v j (omega arith)) ∙ e ∙ push_old path v k old))
        (λ last. let mark = h.of_path j (omega arith) in apart (slice_index path j) (omega arith) (sym (push_old path v j (omega arith)) ∙ e ∙ push_new path v k last)) (push_cases path v k lt);
    left_few = h.left_few;
    rest = h.rest;
  }

-- one more of what a vertex reads is done
pub passed : (g : Graph) (marks left path s : List ℕ) (v n : ℕ) (row : Vec ℕ Global) → Searching g marks left path s → slice_get g v ≡ Some row → v < length g
    → n + 1 ≡ slice_index left v → slice_index row.items n < length g → slice_index marks (slice_index row.items n) ≡ 0 → Searching g marks (slice_set left v n) path s
passed g marks left path s v n row h there inside count bound mark =
    let in_left : v < length left = omega (arith, h.left_long) in
    record {
      marks_long = h.marks_long;
      left_long = length-set left v n ∙ h.left_long;
      in_order = h.in_order;
      done = h.done;
      open_ones = h.open_ones;
      small = h.small;
      of_sequence = h.of_sequence;
      of_path = h.of_path;
      path_within = h.path_within;
      path_reads = h.path_reads;
      path_once = h.path_once;
      left_few = λ u other e. ⊎_elim (λ q. let few = h.left_few u other e in let now = set_here left v n u in_left q in let before = ap (λ x. slice_index left x) q in omega arith)
          (λ d. let few = h.left_few u other e in omega (arith, set_there left v n u d)) (cases_eq u v);
      rest = λ u other e j le lt. ⊎_elim
          (λ q. let now = set_here left v n u in_left q in
          let before = ap (λ x. slice_index left x) q in
          let same : other ≡ row = of_some other row (sym e ∙ ap (λ x. slice_get g x) q ∙ there) in
          ⊎_elim (λ here. subst (λ k. Stands s (slice_index other.items k)) (sym here) (subst (λ r. Stands s (slice_index r.items n)) (sym same) (h.done (slice_index row.items n) bound mark)))
          (λ differ. h.rest u other e j (omega arith) lt) (cases_eq j n))
          (λ d. h.rest u other e j (omega (arith, set_there left v n u d)) lt) (cases_eq u v);
    }
  where
    of_some : (a b : Vec ℕ Global) → Some a ≡ Some b → a ≡ b
    of_some a b e = cc

-- a vertex is done
module _ (g : Graph) (marks left path s : List ℕ) (at v : ℕ) (h : Searching g marks left path s) (last : at + 1 ≡ length path) (is : v ≡ slice_index path at) (none : slice_index left v ≡ 0) where
  at_path : at < length path
  at_path = omega arith

  is_inside : v < length g
  is_inside = omega (arith, h.path_within at at_path)

  have_mark : v < length marks
  have_mark = omega (arith, h.marks_long, is_inside)

  was_open : slice_index marks v ≡ 1
  was_open = ap (λ x. slice_index marks x) is ∙ h.of_path at at_path

  long : length (take at path) ≡ at
  long = length-take-le at path (omega arith)

  shorter : (k : ℕ) → k < at → slice_index (take at path) k ≡ slice_index path k
  shorter k lt = get_or-take at path k 0 lt

  pub closed : Searching g (slice_set marks v 0) left (take at path) (s ++ v ∷ [])
  closed = record {
    marks_long = length-set marks v 0 ∙ h.marks_long;
    left_long = h.left_long;
    in_order = record {
      within = λ k lt. ⊎_elim (λ less. omega (arith, push_old s v k less, h.in_order.within k less)) (λ end. omega (arith, push_new s v k end, is_inside)) (push_cases s v k lt);
      once = λ j k less lt e. ⊎_elim
          (λ old. h.in_order.once j k less old (sym (push_old s v j (omega arith)) ∙ e ∙ push_old s v k old))
          (λ end. let mark = h.of_sequence j (omega arith) in
          let same = ap (λ x. slice_index marks x) (sym (push_old s v j (omega arith)) ∙ e ∙ push_new s v k end) in
          omega (arith, was_open)) (push_cases s v k lt);
      after = λ k w lt r. ⊎_elim
          (λ old. let a = h.in_order.after k w old (subst (λ x. Reads g x w) (push_old s v k old) r) in (a.0, a.1, push_old s v a.0 (omega (arith, a.1)) ∙ a.2))
          (λ end. let q = subst (λ x. Reads g x w) (push_new s v k end) r in
          let a = h.rest v q.row q.there q.at (omega arith) q.inside in
          (a.0, omega (arith, a.1), push_old s v a.0 a.1 ∙ (a.2 ∙ q.is))) (push_cases s v k lt);
    };
    done = λ u lt e. ⊎_elim (λ q. subst (Stands (s ++ v ∷ [])) (sym q) (stands_last s v)) (λ n. stands_push s v u (h.done u lt (sym (set_there marks v 0 u n) ∙ e))) (cases_eq u v);
    open_ones = λ u lt e. ⊎_elim (λ q. let now = set_here marks v 0 u have_mark q in absurd (omega arith))
        (λ n. let o = h.open_ones u lt (sym (set_there marks v 0 u n) ∙ e) in
        let below : o.0 < at = ⊎_elim (λ l. l) (λ m. let same : o.0 ≡ at = omega (arith, o.1) in absurd (n (sym o.2 ∙ ap (λ x. slice_index path x) same ∙ sym is))) (cases_lt o.0 at) in
        (o.0, omega (arith, long), shorter o.0 below ∙ o.2)) (cases_eq u v);
    small = λ u. ⊎_elim (λ q. omega (arith, set_here marks v 0 u have_mark q)) (λ n. omega (arith, set_there marks v 0 u n, h.small u)) (cases_eq u v);
    of_sequence = λ k lt. ⊎_elim
        (λ old. ap (λ x. slice_index (slice_set marks v 0) x) (push_old s v k old)
        ∙ ⊎_elim (λ q. set_here marks v 0 (slice_index s k) have_mark q) (λ n. set_there marks v 0 (slice_index s k) n ∙ h.of_sequence k old) (cases_eq (slice_index s k) v))
        (λ end. set_here marks v 0 (slice_index (s ++ v ∷ []) k) have_mark (push_new s v k end)) (push_cases s v k lt);
    of_path = λ k lt.
        let below : k < at = omega (arith, long) in
        let differs : slice_index path k ≢ v = λ e. h.path_once k at below at_path (e ∙ is) in
        ap (λ x. slice_index (slice_set marks v 0) x) (shorter k below) ∙ set_there marks v 0 (slice_index path k) differs ∙ h.of_path k (omega arith);
    path_within = λ k lt. let below : k < at = omega (arith, long) in omega (arith, shorter k below, h.path_within k (omega arith));
    path_reads = λ k lt.
        let below : k + 1 < at = omega (arith, long) in
        subst (λ x. Reads g x (slice_index (take at path) (k + 1))) (sym (shorter k (omega arith))) (subst (Reads g (slice_index path k)) (sym (shorter (k + 1) below)) (h.path_reads k (omega arith)));
    path_once = λ j k less lt e.
        let below : k < at = omega (arith, long) in
        h.path_once j k less (omega arith) (sym (shorter j (omega arith)) ∙ e ∙ shorter k below);
    left_few = h.left_few;
    rest = λ u row e j le lt. stands_push s v (slice_index row.items j) (h.rest u row e j le lt);
  }

-- an open vertex is read at the end of the path
pub looped : (g : Graph) (marks left path s : List ℕ) (at v w : ℕ) → Searching g marks left path s → at + 1 ≡ length path → v ≡ slice_index path at → Reads g v w → w < length g
    → slice_index marks w ≡ 1 → OnLoop g w
looped g marks left path s at v w h last is read inside mark =
    let o = h.open_ones w inside mark in
    let below : o.0 ≤ at = omega (arith, o.1) in
    subst (λ x. Through g x w) o.2 (along (at - o.0) o.0 (omega arith))
  where
    along : (d k : ℕ) → k + d ≡ at → Through g (slice_index path k) w
    along zero k e = let same : at ≡ k = omega arith in itself (subst (λ x. Reads g x w) (is ∙ ap (λ x. slice_index path x) same) read)
    along (suc d) k e = others (h.path_reads k (omega arith)) (along d (k + 1) (omega arith))

-- rows

pub row_there : (g : Graph) (v : ℕ) (row : Vec ℕ Global) → v < length g → row ≡ get_or g v row → slice_get g v ≡ Some row
row_there g v row lt e = slice_get-get_or g v row lt ∙ ap Some (sym e)

pub bound : (g : Graph) (v n : ℕ) (row : Vec ℕ Global) → AreVertices g → v < length g → row ≡ get_or g v row → n < length row.items → slice_index row.items n < length g
bound g v n row all lt e inside =
    let here : All (λ w. w < length g) row.items = subst (λ r. All (λ w. w < length g) r.items) (sym e) (all v row lt) in
    here n 0 inside

pub lower_set : (old marks : List ℕ) (v a : ℕ) → Lower old marks → v < length marks → a ≤ slice_index marks v → Lower old (slice_set marks v a)
lower_set old marks v a h lt less = λ u. ⊎_elim
    (λ q. let same = ap (λ x. slice_index marks x) q in omega (arith, set_here marks v a u lt q, h u))
    (λ n. omega (arith, set_there marks v a u n, h u)) (cases_eq u v)

pub small_set : (marks : List ℕ) (v a u : ℕ) → v < length marks → a < 2 → slice_index marks u < 2 → slice_index (slice_set marks v a) u < 2
small_set marks v a u lt small h = ⊎_elim (λ q. omega (arith, set_here marks v a u lt q)) (λ n. omega (arith, set_there marks v a u n)) (cases_eq u v)

pub mark_there : (g : Graph) (marks left path s : List ℕ) (at v : ℕ) → Searching g marks left path s → at + 1 ≡ length path → v ≡ slice_index path at → v < length g
mark_there g marks left path s at v h last is = omega (arith, h.path_within at (omega arith))

pub open_mark : (g : Graph) (marks left path s : List ℕ) (at v : ℕ) → Searching g marks left path s → at + 1 ≡ length path → v ≡ slice_index path at → slice_index marks v ≡ 1
open_mark g marks left path s at v h last is = ap (λ x. slice_index marks x) is ∙ h.of_path at (omega arith)

pub last_read : (g : Graph) (path : List ℕ) (at v w : ℕ) → at + 1 ≡ length path → v ≡ slice_index path at → Reads g v w → (k : ℕ) → k + 1 ≡ length path → Reads g (slice_index path k) w
last_read g path at v w last is read k e = let same : k ≡ at = omega arith in subst (λ x. Reads g x w) (is ∙ ap (λ x. slice_index path x) (sym same)) read
