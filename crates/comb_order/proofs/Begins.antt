-- The beginning and the end of a search.
use Rattle.std.proofs.Common.{◌≡◌, ◌≢◌, ℕ, zero, suc, ◌+◌, ◌<◌, ◌≤◌, List, [], ◌∷◌, length, map, slice_get, slice_index, Some, refl, ap, ◌∙◌, arith, ⊎_elim}
use Rattle.std.specs.Prelude.{replicate}
use Rattle.std.proofs.lemmas.Bool.{cases_eq}
use Rattle.std.specs.declared.alloc.Global.{Global}
use Rattle.std.specs.declared.vec.Vec.{Vec}
use Rattle.comb_order.specs.Graph.{Graph, IsOrder}
use Rattle.comb_order.specs.Search.{Searching, Lower, HasLengths}

rep_at : (n v : ℕ) → v < n → slice_index (replicate n 2) v ≡ 2
rep_at zero v lt = absurd (omega arith)
rep_at (suc n) zero lt = refl
rep_at (suc n) (suc v) lt = rep_at n v (omega arith)

rep_small : (n v : ℕ) → slice_index (replicate n 2) v ≤ 2
rep_small zero v = omega arith
rep_small (suc n) zero = omega arith
rep_small (suc n) (suc v) = rep_small n v

rep_long : (n : ℕ) → length {A = ℕ} (replicate n 2) ≡ n
rep_long zero = refl
rep_long (suc n) = let rest = rep_long n in omega arith

map_at : (g : Graph) (v : ℕ) (row : Vec ℕ Global) → slice_get g v ≡ Some row → slice_index (map (λ r. length r.items) g) v ≡ length row.items
map_at [] zero row e = cc
map_at [] (suc v) row e = cc
map_at (r ∷ g) zero row e = let same : r ≡ row = cc in ap (λ x. length x.items) same
map_at (r ∷ g) (suc v) row e = map_at g v row e

map_long : (g : Graph) → length (map (λ r. length r.items) g) ≡ length g
map_long [] = refl
map_long (r ∷ g) = let rest = map_long g in omega arith

pub begins : (g : Graph) (marks left path s : List ℕ) → marks ≡ replicate (length g) 2 → HasLengths g left → path ≡ [] → s ≡ [] → Searching g marks left path s
begins g marks left path s a b p e =
    let mark : (v : ℕ) → v < length g → slice_index marks v ≡ 2 = λ v lt. ap (λ m. slice_index m v) a ∙ rep_at (length g) v lt in
    let none : length s ≡ 0 = ap length e in
    let empty : length path ≡ 0 = ap length p in
    record {
      marks_long = ap length a ∙ rep_long (length g);
      left_long = ap length b ∙ map_long g;
      in_order = record { within = λ k lt. absurd (omega arith); once = λ j k l lt. absurd (omega arith); after = λ k w lt. absurd (omega arith) };
      done = λ v lt z. let m = mark v lt in absurd (omega arith);
      open_ones = λ v lt z. let m = mark v lt in absurd (omega arith);
      small = λ v. let m = rep_small (length g) v in omega (arith, ap (λ m. slice_index m v) a);
      of_sequence = λ k lt. absurd (omega arith);
      of_path = λ k lt. absurd (omega arith);
      path_within = λ k lt. absurd (omega arith);
      path_reads = λ k lt. absurd (omega arith);
      path_once = λ j k l lt. absurd (omega arith);
      left_few = λ v row there. let m = map_at g v row there in omega (arith, ap (λ m. slice_index m v) b);
      rest = λ v row there j le lt. let m = map_at g v row there in absurd (omega (arith, ap (λ m. slice_index m v) b));
    }

-- without a path nothing is open
pub not_open : (g : Graph) (marks left path s : List ℕ) (v : ℕ) → Searching g marks left path s → length path ≡ 0 → v < length g → slice_index marks v ≢ 1
not_open g marks left path s v h none lt e = let o = h.open_ones v lt e in omega (arith, o.1)

pub is_new : (g : Graph) (marks left path s : List ℕ) (v : ℕ) → Searching g marks left path s → length path ≡ 0 → v < length g → slice_index marks v ≢ 0 → slice_index marks v ≡ 2
is_new g marks left path s v h none lt differs = let n = not_open g marks left path s v h none lt in let m = h.small v in omega arith

-- all below the next root are done
pub all_below : (g : Graph) (old marks left path s : List ℕ) (root : ℕ) → Searching g marks left path s → length path ≡ 0 → root < length g → Lower old marks → slice_index marks root < 2
    → ((u : ℕ) → u < root → slice_index old u ≡ 0) → (u : ℕ) → u < root + 1 → slice_index marks u ≡ 0
all_below g old marks left path s root h none inside lower low below u lt = ⊎_elim
    (λ q. let n = not_open g marks left path s root h none inside in let m : slice_index marks root ≡ 0 = omega arith in ap (λ x. slice_index marks x) q ∙ m)
    (λ d. let before = below u (omega arith) in let less = lower u in omega arith) (cases_eq u root)

pub ends : (g : Graph) (marks left path s : List ℕ) (root : ℕ) → Searching g marks left path s → length g ≤ root → ((u : ℕ) → u < root → slice_index marks u ≡ 0) → IsOrder g s
ends g marks left path s root h all below = record { in_order = h.in_order; all = λ v lt. h.done v lt (below v (omega arith)) }
