use Rattle.std.proofs.Common.{refl, ap, rules}
use Rattle.std.specs.Prelude.{option_copied}
use Rattle.lower_aggregates.proofs.Registering.{init_there}
use Rattle.lower_aggregates.proofs.registers.init_of.Goals as goal

pub returns-in_ok-fit-in-Some : goal.returns-in_ok-fit-in-Some
returns-in_ok-fit-in-Some c =
    init_there _ c.in-Some.source.now _ c.in_ok-fit-in-Some.fit c.args.leaf.now _ (ap option_copied c.in-Some.is) refl (search rules) (search rules) c.in_ok-fit-in-Some.ensures.fits (search rules) refl refl
