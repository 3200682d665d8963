-- What is capped once more stays, and what is capped before a sum is as good as what isn't.
use Rattle.std.proofs.Common.{◌≡◌, ℕ, ◌+◌, ◌*◌, ◌-◌, ◌^◌, ◌≤◌, min, max, refl, ap, ◌∙◌, arith, lit≤}
use Rattle.fir_tree.proofs.Capping.{times_to}
use Rattle.size_check.specs.declared.sums.Sums.{Sums}
use Rattle.size_check.specs.declared.sums.Total.{Total}
use Rattle.size_check.specs.Caps.{cap, capped, capped_total}
use Rattle.size_check.specs.Measures.{plus, nothing}
use Rattle.size_check.specs.Standings.{add, no_total}
use Rattle.size_check.specs.Owns.{sized}

max_to : (m a b : ℕ) → max (min a m) (min b m) ≡ min (max a b) m
max_to m a b = omega arith

pub cap_max : (a b : ℕ) → max (cap a) (cap b) ≡ cap (max a b)
cap_max a b = max_to (2 ^ 128 - 1) a b

one_to : (m a : ℕ) → 1 ≤ m → max (min a m) 1 ≡ min (max 1 a) m
one_to m a h = omega arith

pub cap_one : (a : ℕ) → max (cap a) 1 ≡ cap (max 1 a)
cap_one a = one_to (2 ^ 128 - 1) a (lit≤ tt)

again_to : (m a : ℕ) → min (min a m) m ≡ min a m
again_to m a = omega arith

left_to : (m a b : ℕ) → min (min a m + b) m ≡ min (a + b) m
left_to m a b = omega arith

right_to : (m a b : ℕ) → min (a + min b m) m ≡ min (a + b) m
right_to m a b = omega arith

pub sums_same : {a b : Sums} → a.size ≡ b.size → a.leaves ≡ b.leaves → a.names ≡ b.names → a.bytes ≡ b.bytes → a.words ≡ b.words → a ≡ b
sums_same p q r s t = λ i. record { size = p i; leaves = q i; names = r i; bytes = s i; words = t i }

pub capped_left : (a b : Sums) → capped (plus (capped a) b) ≡ capped (plus a b)
capped_left a b = let m = 2 ^ 128 - 1 in
    sums_same (left_to m a.size b.size) (left_to m a.leaves b.leaves) (left_to m a.names b.names) (left_to m a.bytes b.bytes) (left_to m a.words b.words)

pub capped_right : (a b : Sums) → capped (plus a (capped b)) ≡ capped (plus a b)
capped_right a b = let m = 2 ^ 128 - 1 in
    sums_same (right_to m a.size b.size) (right_to m a.leaves b.leaves) (right_to m a.names b.names) (right_to m a.bytes b.bytes) (right_to m a.words b.words)

pub plus_later : (a b c : Sums) → plus (plus a b) c ≡ plus a (plus b c)
plus_later a b c = sums_same (omega arith) (omega arith) (omega arith) (omega arith) (omega arith)

pub plus_nothing : (a : Sums) → plus a nothing ≡ a
plus_nothing a = sums_same (omega arith) (omega arith) (omega arith) (omega arith) (omega arith)

pub nothing_plus : (a : Sums) → plus nothing a ≡ a
nothing_plus a = sums_same (omega arith) (omega arith) (omega arith) (omega arith) (omega arith)

most_to : (m k a : ℕ) → 1 ≤ m → min (k * max 1 (min a m)) m ≡ min (k * max 1 a) m
most_to m k a h = let e : max 1 (min a m) ≡ min (max 1 a) m = omega arith in ap (λ x. min (k * x) m) e ∙ times_to m k (max 1 a)

pub sized_cap : (n most around : ℕ) → capped (sized n (cap most) around) ≡ capped (sized n most around)
sized_cap n most around = sums_same (most_to (2 ^ 128 - 1) (1 + n + around) most (lit≤ tt)) refl refl refl refl

pub capped_plus : (a b : Sums) → capped (plus (capped a) (capped b)) ≡ capped (plus a b)
capped_plus a b = capped_left a (capped b) ∙ capped_right a b

pub total_same : {a b : Total} → a.sums ≡ b.sums → a.depth ≡ b.depth → a ≡ b
total_same p q = λ i. record { sums = p i; depth = q i }

depth_to : (m a b : ℕ) → min (max (min a m) (min b m)) m ≡ min (max a b) m
depth_to m a b = omega arith

pub capped_add : (a b : Total) → capped_total (add (capped_total a) (capped_total b)) ≡ capped_total (add a b)
capped_add a b = total_same (capped_plus a.sums b.sums) (depth_to (2 ^ 128 - 1) a.depth b.depth)

pub add_later : (a b c : Total) → add (add a b) c ≡ add a (add b c)
add_later a b c = total_same (plus_later a.sums b.sums c.sums) (omega arith)

pub no_total_add : (a : Total) → add no_total a ≡ a
no_total_add a = total_same (nothing_plus a.sums) (omega arith)

pub add_no_total : (a : Total) → add a no_total ≡ a
add_no_total a = total_same (plus_nothing a.sums) (omega arith)

pub capped_again : (a : Sums) → capped (capped a) ≡ capped a
capped_again a = let m = 2 ^ 128 - 1 in sums_same (again_to m a.size) (again_to m a.leaves) (again_to m a.names) (again_to m a.bytes) (again_to m a.words)
