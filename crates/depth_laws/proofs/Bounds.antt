-- Numbers that are as small as they may be where so many blocks and brackets are open.
use Rattle.std.proofs.Common.{◌≡◌, ℕ, ◌+◌, ◌-◌, ◌≤◌, List, [], ◌∷◌, map, refl, arith}
use Rattle.std.specs.Prelude.{⊤, suc, max}
use Rattle.fir_types.specs.declared.port.Port.{Port as ModulePort}
use Rattle.fir_tree.specs.declared.expr.Expr.{Expr}
use Rattle.item_lines.specs.declared.line.Line.{Line}
use Rattle.item_lines.specs.declared.line.LineArm.{LineArm}
use Rattle.depth_laws.specs.Blocks.{greatest, block_of, line_blocks, arm_blocks, body_blocks}
use Rattle.depth_laws.proofs.Layers.{of-arm}

-- one number of brackets, and one of suffixes
abbrev pub Fits : ℕ → ℕ → ℕ → Type 0
Fits l y z = (y ≤ l) × (z ≤ 128)

pub zero : {l : ℕ} → Fits l 0 0
zero = (omega arith, omega arith)

pub join : {l y z u v : ℕ} → Fits l y z → Fits l u v → Fits l (max y u) (max z v)
join p q = (omega (arith, p.0, q.0), omega (arith, p.1, q.1))

pub left : {l y z : ℕ} (u v : ℕ) → Fits l (max y u) (max z v) → Fits l y z
left u v p = (omega (arith, p.0), omega (arith, p.1))

pub right : {l u v : ℕ} (y z : ℕ) → Fits l (max y u) (max z v) → Fits l u v
right y z p = (omega (arith, p.0), omega (arith, p.1))

pub to : {l y z u v : ℕ} → u ≡ y → v ≡ z → Fits l y z → Fits l u v
to e h p = (omega (arith, e, p.0), omega (arith, h, p.1))

pub back : {l y z u v : ℕ} → u ≡ y → v ≡ z → Fits l u v → Fits l y z
back e h p = (omega (arith, e, p.0), omega (arith, h, p.1))

pub push : {y z : ℕ} (n : ℕ) → n + 1 ≤ 128 → Fits (128 - suc n) y z → Fits (128 - n) (y + 1) z
push n h p = (omega (arith, h, p.0), p.1)

pub pop : {y z : ℕ} (n : ℕ) → Fits (128 - n) (y + 1) z → (n + 1 ≤ 128) × Fits (128 - suc n) y z
pop n p = (omega (arith, p.0), (omega (arith, p.0), p.1))

pub one : (n : ℕ) → n + 1 ≤ 128 → Fits (128 - n) 1 0
one n h = (omega (arith, h), omega arith)

pub one_open : {z : ℕ} (n : ℕ) → Fits (128 - n) 1 z → n + 1 ≤ 128
one_open n p = omega (arith, p.0)

pub join_port : {l y z : ℕ} (u v s t : ℕ) → Fits l y z → Fits l (max u s) (max v t) → Fits l (max (max y u) s) (max (max z v) t)
join_port u v s t p q = (omega (arith, p.0, q.0), omega (arith, p.1, q.1))

pub left_port : {l y z : ℕ} (u v s t : ℕ) → Fits l (max (max y u) s) (max (max z v) t) → Fits l y z
left_port u v s t p = (omega (arith, p.0), omega (arith, p.1))

pub right_port : {l : ℕ} (y z u v s t : ℕ) → Fits l (max (max y u) s) (max (max z v) t) → Fits l (max u s) (max v t)
right_port y z u v s t p = (omega (arith, p.0), omega (arith, p.1))

pub join_length : {l y z n : ℕ} → Fits l y z → n ≤ 128 - 0 → Fits l y (max n z)
join_length p h = (p.0, omega (arith, p.1, h))

pub without_length : {l y z n : ℕ} → Fits l y (max n z) → Fits l y z × (n ≤ 128 - 0)
without_length p = ((p.0, omega (arith, p.1)), omega (arith, p.1))

pub longer : {n : ℕ} (k : ℕ) → k + 1 ≤ 128 → n ≤ 128 - (k + 1) → suc n ≤ 128 - k
longer k h p = omega (arith, h, p)

pub shorter : {n : ℕ} (k : ℕ) → suc n ≤ 128 - k → (k + 1 ≤ 128) × (n ≤ 128 - (k + 1))
shorter k p = (omega (arith, p), omega (arith, p))

-- blocks

pub none : (b n : ℕ) → n ≡ 0 → n ≤ 128 - b
none b n e = omega (arith, e)

pub both : (b m n : ℕ) → m ≤ 128 - b → n ≤ 128 - b → max m n ≤ 128 - b
both b m n h k = omega (arith, h, k)

pub first_of : (b m n : ℕ) → max m n ≤ 128 - b → m ≤ 128 - b
first_of b m n h = omega (arith, h)

pub second_of : (b m n : ℕ) → max m n ≤ 128 - b → n ≤ 128 - b
second_of b m n h = omega (arith, h)

pub same : (b m n : ℕ) → m ≡ n → n ≤ 128 - b → m ≤ 128 - b
same b m n e h = omega (arith, e, h)

pub inner : (b n : ℕ) → b + 1 ≤ 128 → n ≤ 128 - (b + 1) → n + 1 ≤ 128 - b
inner b n h k = omega (arith, h, k)

pub outer : (b n : ℕ) → n + 1 ≤ 128 - b → (b + 1 ≤ 128) × (n ≤ 128 - (b + 1))
outer b n h = (omega (arith, h), omega (arith, h))

pub block_inner : (b : ℕ) (ns : List ℕ) → b + 1 ≤ 128 → greatest ns ≤ 128 - (b + 1) → block_of ns ≤ 128 - b
block_inner b [] h k = none b 0 refl
block_inner b (n ∷ ns) h k = inner b (greatest (n ∷ ns)) h k

pub body_inner : (b : ℕ) (ports : List ModulePort) (ns : List ℕ) → b + 1 ≤ 128 → greatest ns ≤ 128 - (b + 1) → body_blocks ports ns ≤ 128 - b
body_inner b [] ns h k = block_inner b ns h k
body_inner b (port ∷ ports) ns h k = inner b (greatest ns) h k

pub arm_within : (b : ℕ) (condition : Expr) (body : List Line) (arms : List LineArm) → block_of (map line_blocks body) ≤ 128 - b → greatest (map arm_blocks arms) ≤ 128 - b
    → greatest (map arm_blocks (record { condition = condition; body = body } ∷ arms)) ≤ 128 - b
arm_within b condition body arms h k =
    both b (arm_blocks (record { condition = condition; body = body })) (greatest (map arm_blocks arms)) (same b _ _ (of-arm condition body) h) k

-- a block with something in it
abbrev pub Full : {A : Type 0} → List A → Type 0
Full [] = ⊥
Full (x ∷ xs) = ⊤

pub full_map : {A B : Type 0} (f : A → B) (xs : List A) → Full xs → Full (map f xs)
full_map f [] h = absurd h
full_map f (x ∷ xs) h = tt

pub block_outer : (b : ℕ) (ns : List ℕ) → Full ns → block_of ns ≤ 128 - b → (b + 1 ≤ 128) × (greatest ns ≤ 128 - (b + 1))
block_outer b [] f h = absurd f
block_outer b (n ∷ ns) f h = outer b (greatest (n ∷ ns)) h
