-- A write is evaluated as one group.
use Rattle.std.proofs.Common.{ℕ, List, [], ◌∷◌, map}
use Rattle.ground_net.specs.declared.ground.Ground.{Ground}
use Rattle.ground_net.specs.declared.ground.Ground.TheVariants.{Leaf}
use Rattle.flat_code.specs.declared.instr.Location.{Location}
use Rattle.flat_code.specs.Fine.{slots_of}
use Rattle.code_draft.specs.declared.draft.Draft.{Draft}
use Rattle.code_draft.specs.Segments.{Segment}
use Rattle.code_draft.specs.declared.sources.Sources.{Sources}
use Rattle.code_emit.specs.Spans.{Spans, SpansAll, EvaluatesAll}
use Rattle.code_emit.proofs.Spanning.{single_spans, both_span, group_told}

pub target_evaluated : (S : Sources) (x y : ℕ) (zs : List ℕ) (a b c d e : Draft) (s t : Location) (ss : List Location) → Spans S (Leaf x) a b s → Spans S (Leaf y) b c t → SpansAll S (map (λ (z : ℕ). Leaf z) zs) c d ss
    → Segment d e (slots_of (s ∷ t ∷ ss)) [] 0 → EvaluatesAll S ((Leaf x ∷ Leaf y ∷ map (λ (z : ℕ). Leaf z) zs) ∷ []) a e
target_evaluated S x y zs a b c d e s t ss first second rest told =
    let gs : List Ground = map (λ (z : ℕ). Leaf z) zs in
    let behind = both_span S (Leaf y ∷ []) gs b c d (t ∷ []) ss (single_spans S (Leaf y) b c t second) rest in
    let all = both_span S (Leaf x ∷ []) (Leaf y ∷ gs) a b d (s ∷ []) (t ∷ ss) (single_spans S (Leaf x) a b s first) behind in
    group_told S (Leaf x ∷ Leaf y ∷ gs) a d e (s ∷ t ∷ ss) all told
