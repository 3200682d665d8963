use Rattle.std.proofs.Common.{⊎_elim, inl, inr}
use Rattle.place_text.proofs.Ordering.{best_of, first_of, none_of}
use Rattle.place_text.proofs.laws.told_faults_have_a_first.Goals as goal

pub returns : goal.returns
returns g c = λ faults tells. ⊎_elim (λ t. inl (t.0, first_of g.F.Fault.place g.F.Fault.rank t.0 tells t.1)) (λ e. inr (none_of faults tells e))
    (best_of g.F.Fault.place g.F.Fault.rank faults)
