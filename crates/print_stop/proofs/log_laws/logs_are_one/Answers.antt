use Rattle.print_stop.proofs.Once.{logs_once}
use Rattle.print_stop.proofs.log_laws.logs_are_one.Goals as goal

pub returns : goal.returns
returns c = λ texts design prints all has none leaves_of takes sound given bytes other a b. logs_once texts design prints all has none leaves_of takes sound given bytes other a b
