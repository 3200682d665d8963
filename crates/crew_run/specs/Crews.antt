-- The codes that a run's workers have.
use Rattle.std.specs.Prelude.{ℕ, List}
use Rattle.ground_net.specs.declared.net.Ordered.{Ordered}
use Rattle.ground_net.specs.declared.net.Cut.{Cut}
use Rattle.flat_code.specs.declared.code.Code.{Code}
use Rattle.cone_cutter.specs.Cuts.{IsCut}
use Rattle.partition_code.specs.Codes.{AreCodesOf}
use Rattle.circuit_run.specs.NetRuns.{watch}

-- The codes are those of this cut of a net into so many parts, by these watched leaves.
pub record AreCodesByCut (ordered : Ordered) (watched : List ℕ) (workers : ℕ) (codes : List Code) (cut : Cut) : Type 0 where
  pub is_cut : IsCut ordered watched workers cut
  pub codes_of : AreCodesOf ordered.net watched cut.parts codes

abbrev pub AreCodesOfCut : Ordered → ℕ → List Code → Cut → Type 0
AreCodesOfCut ordered = AreCodesByCut ordered (watch ordered.net)
