-- What sinks evaluate, group by group, are pieces.
use Rattle.std.proofs.Common.{◌≡◌, ℕ, ◌*◌, true, List, [], ◌∷◌, flat_map, Contains, All, sum_by, sym, subst, arith, ⊎_elim}
use Rattle.ground_net.specs.declared.ground.Ground.{Ground}
use Rattle.ground_net.specs.Grounds.{mentions}
use Rattle.flat_code.specs.Fine.{among}
use Rattle.code_draft.specs.declared.draft.Draft.{Draft}
use Rattle.code_draft.proofs.Segmenting.{none_among, among_either, head_all, tail_all}
use Rattle.code_draft.specs.declared.sources.Sources.{Sources}
use Rattle.code_emit.specs.Counts.{tips}
use Rattle.code_emit.specs.Spans.{leaf_slots, ground_slots, Evaluates}
use Rattle.code_draft.specs.Pieces.{StandsIn, AddsPieces}
use Rattle.code_draft.proofs.Building.{adds_not, adds_then, adds_segment}
use Rattle.part_compile.specs.Pieces.{GroupFits}
use Rattle.part_compile.proofs.Standing.{contains_first, contains_later}
use Rattle.part_compile.proofs.Turning.{among_flat}

among_grounds : (S : Sources) (gs : List Ground) (k : ℕ) → among (flat_map (ground_slots S) gs) k ≡ true → (g : Ground) × Contains gs g × (among (ground_slots S g) k ≡ true)
among_grounds S [] k e = none_among k e
among_grounds S (g ∷ gs) k e = ⊎_elim
    (λ h. (g, contains_first g gs, h))
    (λ l. let rest = among_grounds S gs k l in (rest.0, contains_later g gs rest.0 rest.1, rest.2))
    (among_either (ground_slots S g) (flat_map (ground_slots S) gs) k e)

module _ (S : Sources) (earlier read counts : List ℕ) (found : (y k : ℕ) → among (leaf_slots S y) k ≡ true → Contains earlier y) where
  group_stands : (gs : List Ground) → GroupFits S read counts gs → (k : ℕ) → among (flat_map (ground_slots S) gs) k ≡ true → StandsIn (leaf_slots S) earlier read k
  group_stands gs fits k e =
      let one = among_grounds S gs k e in
      let leaf = among_flat (leaf_slots S) (mentions one.0) k one.2 in
      record { leaf = leaf.0; before = found leaf.0 k leaf.2; wanted = fits.reads one.0 leaf.0 k one.1 leaf.1 leaf.2; there = leaf.2 }

  pub groups_pieces : (groups : List (List Ground)) (old new : Draft) → Evaluates S groups old new → All (GroupFits S read counts) groups → AddsPieces (leaf_slots S) earlier read counts old new
  groups_pieces [] old new e all = subst (AddsPieces (leaf_slots S) earlier read counts old) (sym e) (adds_not (leaf_slots S) earlier read counts old)
  groups_pieces (gs ∷ groups) old new e all =
      let fits = head_all (GroupFits S read counts) gs groups all in
      let few = fits.few in
      adds_then (leaf_slots S) earlier read counts old e.0 new
      (adds_segment (leaf_slots S) earlier read counts (flat_map (ground_slots S) gs) fits.count (2 * sum_by tips gs) old e.0 fits.counted e.1 (group_stands gs fits) (omega (arith, few)))
      (groups_pieces groups e.0 new e.2 (tail_all (GroupFits S read counts) gs groups all))
