-- The leaves that a memory's ports keep.
use Rattle.std.proofs.Common.{◌≡◌, ℕ, ◌*◌, List, map, filter_map, sum, sym, ap, ap₂, ◌∙◌, if◌then◌else◌, nat_eq}
use Rattle.fir_types.specs.declared.fir_type.FirType.{FirType}
use Rattle.fir_types.specs.declared.memory.MemLine.{MemLine}
use Rattle.fir_types.specs.Leaves.{count}
use Rattle.fir_types.specs.Memories.{read_latency_in, first_or}
use Rattle.size_check.specs.Caps.{cap}
use Rattle.size_check.specs.Owns.{kept_leaves, reads_in}
use Rattle.fir_tree.proofs.Wording.{cap_product}

pub kept_capped : (lines : List MemLine) (element : FirType) (latency reads leaves product : ℕ) → latency ≡ first_or 0 (filter_map read_latency_in lines) → latency ≡ 1
    → reads ≡ cap (sum (map reads_in lines)) → leaves ≡ cap (count element) → product ≡ cap (reads * leaves) → product ≡ cap (kept_leaves lines element)
kept_capped lines element latency reads leaves product l one r n p =
    p ∙ ap₂ (λ x y. cap (x * y)) r n ∙ cap_product (sum (map reads_in lines)) (count element)
    ∙ sym (ap (λ k. cap (if nat_eq k 1 then sum (map reads_in lines) * count element else 0)) (sym l ∙ one))
